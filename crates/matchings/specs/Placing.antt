-- The working vocabulary of the search as a whole: what placing one left member makes of the right members, and what it leaves for the next.
use Rattle.std.specs.Prelude.{◌≡◌, ℕ, ◌+◌, ◌-◌, ◌<◌, ◌≤◌, Bool, true, false, ◌⊎◌, List, ◌≢◌}
use Rattle.matchings.specs.Matchings.{◌!◌}
use Rattle.matchings.specs.Reaching.{Inj, Among, Reached}

-- each of the n has a right member of its own, allowed
pub record Held (A : ℕ → ℕ → Bool) (n : ℕ) (m : List ℕ) : Type 0 where
  pub inj : Inj n (λ k. m ! k)
  pub allowed : (l : ℕ) → l < n → A l (m ! l) ≡ true

-- all but `left` have one that they allow
abbrev pub Others : (A : ℕ → ℕ → Bool) (n left : ℕ) (mate : List ℕ) → Type 0
Others A n left mate = (l : ℕ) → l < n → (l ≢ left) → A l (mate ! l) ≡ true

-- `left` has `right` now, all have one that they allow, and those below `fixed` what they had
pub record Rotated (A : ℕ → ℕ → Bool) (n fixed left : ℕ) (old new : List ℕ) (right : ℕ) : Type 0 where
  pub inj : Inj n (λ k. new ! k)
  pub allowed : (l : ℕ) → l < n → A l (new ! l) ≡ true
  pub kept : (l : ℕ) → l < fixed → new ! l ≡ old ! l
  pub takes : new ! left ≡ right

-- what the rotation from the place `start` makes of `old`, whatever the relation that the members were reached by
abbrev pub Turned : (n left : ℕ) (members parents : List ℕ) (count start : ℕ) (old new : List ℕ) → Type 0
Turned n left members parents count start old new = (A : ℕ → ℕ → Bool) (fixed : ℕ) (marks : List ℕ) → Reached A n fixed left old members parents marks count
    → Others A n left old → A left (old ! (members ! start)) ≡ true → Rotated A n fixed left old new (old ! (members ! start))

-- p gives each of the n its own, allowed, and those below `fixed` what they have in m
pub record Like (A : ℕ → ℕ → Bool) (n fixed : ℕ) (m : List ℕ) (p : ℕ → ℕ) : Type 0 where
  pub inj : Inj n p
  pub allowed : (l : ℕ) → l < n → A l (p l) ≡ true
  pub kept : (l : ℕ) → l < fixed → p l ≡ m ! l

-- all have one of their own that they allow, those below `fixed` what they had, and `left` the least that it can have so
pub record Placed (A : ℕ → ℕ → Bool) (n fixed left : ℕ) (old new : List ℕ) : Type 0 where
  pub inj : Inj n (λ k. new ! k)
  pub allowed : (l : ℕ) → l < n → A l (new ! l) ≡ true
  pub kept : (l : ℕ) → l < fixed → new ! l ≡ old ! l
  pub least : (p : ℕ → ℕ) → Like A n fixed old p → new ! left ≤ p left

-- no later member of the block of `left` has a lesser right member that `left` allows
abbrev pub HasLeast : (A : ℕ → ℕ → Bool) (n left : ℕ) (block mate : List ℕ) → Type 0
HasLeast A n left block mate = (l : ℕ) → left < l → l < n → block ! l ≡ block ! left → A left (mate ! l) ≡ true → mate ! left ≤ mate ! l

-- the n members, of which the first `reached` are those that come to `left`: neither `left` nor one of the others allows a right member that they have
pub record Hemmed (A : ℕ → ℕ → Bool) (n left : ℕ) (mate members : List ℕ) (reached : ℕ) : Type 0 where
  pub inj : Inj n (λ k. mate ! k)
  pub some : 0 < reached
  pub fits : reached ≤ n
  pub first : members ! 0 ≡ left
  pub below : (k : ℕ) → k < n → members ! k < n
  pub apart : (j k : ℕ) → j < n → k < n → members ! j ≡ members ! k → j ≡ k
  pub here : (k : ℕ) → k < reached → A left (mate ! (members ! k)) ≡ false
  pub there : (j k : ℕ) → reached ≤ j → j < n → k < reached → A (members ! j) (mate ! (members ! k)) ≡ false

-- no such matching is there; and where all may move, `left` is hemmed in
pub record Refused (A : ℕ → ℕ → Bool) (n fixed left : ℕ) (block mate members : List ℕ) (reached : ℕ) : Type 0 where
  pub none : (p : ℕ → ℕ) → Like A n fixed mate p → ⊥
  pub hemmed : ((l : ℕ) → l < n → (fixed ≤ l) × (block ! l ≡ block ! left)) → Hemmed A n left mate members reached

-- behind the first member come those from the place `reached` to below n
pub record Gathered (n reached : ℕ) (old new : List ℕ) : Type 0 where
  pub first : new ! 0 ≡ old ! 0
  pub rest : (k : ℕ) → k < n - reached → new ! (k + 1) ≡ old ! (k + reached)

-- in each such matching a right member stays in the block of who has it in m
abbrev pub Confined : (A : ℕ → ℕ → Bool) (n fixed : ℕ) (block m : List ℕ) → Type 0
Confined A n fixed block m = (p : ℕ → ℕ) → Like A n fixed m p → (i j : ℕ) → i < n → j < n → p i ≡ m ! j → block ! i ≡ block ! j

-- in each such matching a right member of the first c stays among them: they are a block by themselves
pub record Sealed (A : ℕ → ℕ → Bool) (n fixed : ℕ) (m members : List ℕ) (c : ℕ) : Type 0 where
  pub stays : (p : ℕ → ℕ) → Like A n fixed m p → (i j : ℕ) → i < n → j < n → p i ≡ m ! j → Among members c i → Among members c j
  pub back : (p : ℕ → ℕ) → Like A n fixed m p → (i j : ℕ) → i < n → j < n → p i ≡ m ! j → Among members c j → Among members c i
  pub below : (k : ℕ) → k < c → members ! k < n
  pub fits : c ≤ n

-- the first c members have the block `label`, and the others what they had
abbrev pub Split : (members : List ℕ) (c label : ℕ) (old new : List ℕ) → Type 0
Split members c label old new = (i : ℕ) → (Among members c i × (new ! i ≡ label)) ⊎ ((Among members c i → ⊥) × (new ! i ≡ old ! i))
