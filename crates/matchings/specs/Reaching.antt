-- The working vocabulary of the search for one left member: who is lined up, who is reached, what is chosen.
use Rattle.std.specs.Prelude.{◌≡◌, ℕ, ◌+◌, ◌-◌, ◌<◌, ◌≤◌, Bool, true, false, cond, ◌⊎◌, List, Some, None, Option, nat_le}
use Rattle.matchings.specs.Matchings.{◌!◌}

-- m takes the places below n to different places below n
pub record Inj (n : ℕ) (m : ℕ → ℕ) : Type 0 where
  pub below : (i : ℕ) → i < n → m i < n
  pub apart : (i j : ℕ) → i < n → j < n → m i ≡ m j → i ≡ j

-- the first n numbers are 0
abbrev pub Clear : List ℕ → ℕ → Type 0
Clear xs n = (k : ℕ) → k < n → xs ! k ≡ 0

-- b is as a was from n on
abbrev pub Beyond : ℕ → List ℕ → List ℕ → Type 0
Beyond n a b = (k : ℕ) → n ≤ k → b ! k ≡ a ! k

-- left members from `wild` on, which are not settled yet, allow everything
abbrev pub loose : (ℕ → ℕ → Bool) → ℕ → ℕ → ℕ → Bool
loose A wild l r = cond (nat_le wild l) true (A l r)

-- l is one of the first c members
abbrev pub Among : (members : List ℕ) (c l : ℕ) → Type 0
Among members c l = (k : ℕ) × (k < c) × (members ! k ≡ l)

-- the first m members are left members from `fixed` on, each once: those that may get another right member
pub record Movable (n fixed m : ℕ) (members : List ℕ) : Type 0 where
  pub fits : m ≤ n - fixed
  pub below : (k : ℕ) → k < m → members ! k < n
  pub above : (k : ℕ) → k < m → fixed ≤ members ! k
  pub apart : (j k : ℕ) → j < m → k < m → members ! j ≡ members ! k → j ≡ k

-- the first m of one list and of the other are the same members, in any order
pub record Same (m : ℕ) (a b : List ℕ) : Type 0 where
  pub there : (k : ℕ) → k < m → Among b m (a ! k)
  pub back : (k : ℕ) → k < m → Among a m (b ! k)

-- the first m members: `left`, and then those from `fixed` to below `high` in its block
pub record Lined (n fixed : ℕ) (block : List ℕ) (left high m : ℕ) (members : List ℕ) : Type 0 where
  pub some : 0 < m
  pub first : members ! 0 ≡ left
  pub low : m ≤ high - fixed + 1
  pub fits : left < high → m ≤ high - fixed
  pub later : (k : ℕ) → 0 < k → k < m → (members ! k < high) × (members ! k ≡ left → ⊥)
  pub below : (k : ℕ) → k < m → members ! k < n
  pub above : (k : ℕ) → k < m → fixed ≤ members ! k
  pub alike : (k : ℕ) → k < m → block ! (members ! k) ≡ block ! left
  pub apart : (j k : ℕ) → j < m → k < m → members ! j ≡ members ! k → j ≡ k
  pub covers : (l : ℕ) → fixed ≤ l → l < high → block ! l ≡ block ! left → Among members m l

-- the first `tail` members are different left members, `left` first. Each other allows the right member of an earlier one,
-- its parent, so that it could move on to it. The ticked right members are just those that they have.
pub record Reached (A : ℕ → ℕ → Bool) (n fixed left : ℕ) (mate members parents marks : List ℕ) (tail : ℕ) : Type 0 where
  pub some : 0 < tail
  pub fits : tail ≤ n - fixed
  pub first : members ! 0 ≡ left
  pub below : (k : ℕ) → k < tail → members ! k < n
  pub above : (k : ℕ) → k < tail → fixed ≤ members ! k
  pub apart : (j k : ℕ) → j < tail → k < tail → members ! j ≡ members ! k → j ≡ k
  pub rank : (k : ℕ) → 0 < k → k < tail → parents ! k < k
  pub link : (k : ℕ) → 0 < k → k < tail → A (members ! k) (mate ! (members ! (parents ! k))) ≡ true
  pub ticked : (k : ℕ) → k < tail → 0 < marks ! (mate ! (members ! k))
  pub from : (r : ℕ) → r < n → 0 < marks ! r → (k : ℕ) × (k < tail) × (mate ! (members ! k) ≡ r)

-- of the first m members, who allows the right member of one of the first `head` has a ticked one
abbrev pub Closed : (A : ℕ → ℕ → Bool) (m : ℕ) (mate members marks : List ℕ) (head : ℕ) → Type 0
Closed A m mate members marks head = (k j : ℕ) → k < head → j < m → A (members ! j) (mate ! (members ! k)) ≡ true → 0 < marks ! (mate ! (members ! j))

-- c is the class of a right member, and all of that class are allowed by the same left members
abbrev pub IsClass : (A : ℕ → ℕ → Bool) (n : ℕ) (class : ℕ → ℕ) (right c : ℕ) → Type 0
IsClass A n class right c = (class right ≡ c) × ((l s : ℕ) → l < n → s < n → class s ≡ c → A l s ≡ A l right)

-- a class is noted only where one of the first `head` members has a right member of it
abbrev pub Noted : (class : ℕ → ℕ) (mate members : List ℕ) (head : ℕ) (seen : List ℕ) → Type 0
Noted class mate members head seen = (c : ℕ) → 0 < seen ! c → (k : ℕ) × (k < head) × (class (mate ! (members ! k)) ≡ c)

-- no class but that of a right member is noted anew; unless the member is fresh, its class is known and was noted before
pub record Added (A : ℕ → ℕ → Bool) (n : ℕ) (class : ℕ → ℕ) (right : ℕ) (old new : List ℕ) (fresh : Bool) : Type 0 where
  pub known : fresh ≡ false → IsClass A n class right (class right) × (0 < old ! class right)
  pub only : (c : ℕ) → 0 < new ! c → (c ≡ class right) ⊎ (0 < old ! c)

-- all that can be reached among the members of `line` is
pub record Exhausted (A : ℕ → ℕ → Bool) (n fixed m : ℕ) (mate line members marks : List ℕ) (tail : ℕ) : Type 0 where
  pub closed : Closed A m mate members marks tail
  pub same : Same m line members
  pub fits : tail ≤ m
  pub movable : Movable n fixed m members

-- the search went as far as it can, or it came to `goal`
abbrev pub Ended : (A : ℕ → ℕ → Bool) (n fixed m goal : ℕ) (mate line members marks : List ℕ) (tail : ℕ) → Type 0
Ended A n fixed m goal mate line members marks tail = Exhausted A n fixed m mate line members marks tail ⊎ (0 < marks ! (mate ! goal))

-- at the place k, if one is given, is a member whose right member passes `can`
abbrev pub Joins : (can : ℕ → Bool) (mate members : List ℕ) (tail : ℕ) → Option ℕ → Type 0
Joins can mate members tail None = Unit {0}
Joins can mate members tail (Some k) = (k < tail) × (can (mate ! (members ! k)) ≡ true)

-- the place b of the first c members whose right member is the least that passes `can`, or none passes
abbrev pub Chosen : (can : ℕ → Bool) (mate members : List ℕ) (c : ℕ) → Option ℕ → Type 0
Chosen can mate members c None = (k : ℕ) → k < c → can (mate ! (members ! k)) ≡ false
Chosen can mate members c (Some b) = (b < c) × (can (mate ! (members ! b)) ≡ true) × ((k : ℕ) → k < c → can (mate ! (members ! k)) ≡ true → mate ! (members ! b) ≤ mate ! (members ! k))
