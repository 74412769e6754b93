-- The trials on a deck of one cell.
use Rattle.std.proofs.Common.{◌≡◌, ℕ, zero, suc, ◌<◌, true, [], ◌∷◌, Ok, Err, Result, refl, ap, arith}
use Rattle.grid.specs.declared.heading.Heading.TheVariants.{Up, Down, Left}
use Rattle.grid.specs.declared.square.Square.{Square}
use Rattle.deck.specs.declared.fault.DeckFault.{DeckFault}
use Rattle.deck.specs.declared.fault.DeckFault.TheVariants.{OffFloor, SharedSquare, Exchange}
use Rattle.deck.specs.Decks.{DeckView, end, RemainsAt, Exchanges, Lawful, GoRefused, Went}
use Rattle.deck.proofs.Settling.{settled}
use Rattle.trials.specs.OneCell.{steered}

-- The law settles the answer.

pub only_ok : (v : DeckView) → v.ready ≡ true → Lawful v → (r : Result (Unit {0}) DeckFault) (w : DeckView) → Went v r w → r ≡ Ok tt
only_ok v t l (Ok u) w h = refl
only_ok v t l (Err f) w (y, m) = absurd (settled.never_both v f y t l)

pub only_err : (v : DeckView) (f : DeckFault) → GoRefused v f → (r : Result (Unit {0}) DeckFault) (w : DeckView) → Went v r w → r ≡ Err f
only_err v f y (Ok u) w (t, l, m) = absurd (settled.never_both v f y t l)
only_err v f y (Err g) w (z, m) = ap Err (settled.one_refusal v g f z y)

-- Three carriers one by one, and two by two.

each : (P : ℕ → Type 0) → P 0 → P 1 → P 2 → (k : ℕ) → k < 3 → P k
each P a b c zero h = a
each P a b c (suc zero) h = b
each P a b c (suc (suc zero)) h = c
each P a b c (suc (suc (suc k))) h = absurd (omega arith)

pairs : (P : ℕ → ℕ → Type 0) → P 0 1 → P 0 2 → P 1 2 → (j k : ℕ) → j < k → k < 3 → P j k
pairs P a b c j zero l h = absurd (omega arith)
pairs P a b c zero (suc zero) l h = a
pairs P a b c (suc j) (suc zero) l h = absurd (omega arith)
pairs P a b c zero (suc (suc zero)) l h = b
pairs P a b c (suc zero) (suc (suc zero)) l h = c
pairs P a b c (suc (suc j)) (suc (suc zero)) l h = absurd (omega arith)
pairs P a b c j (suc (suc (suc k))) l h = absurd (omega arith)

pub following : Lawful (steered (Down ∷ Down ∷ Left ∷ []))
following =
    let v = steered (Down ∷ Down ∷ Left ∷ []) in
    record {
      remain = each (RemainsAt v) (omega arith) (omega arith) (omega arith);
      differ = pairs (λ j k. end v j ≡ end v k → ⊥) (λ e. omega (arith, ap (λ (u : Square). u.row) e)) (λ e. omega (arith, ap (λ (u : Square). u.row) e)) (λ e. omega (arith, ap (λ (u : Square). u.column) e));
      pass = pairs (λ j k. Exchanges v j k → ⊥) (λ x. omega (arith, ap (λ (u : Square). u.row) x.1)) (λ x. omega (arith, ap (λ (u : Square). u.row) x.0)) (λ x. omega (arith, ap (λ (u : Square). u.row) x.1));
    }

pub exchange : GoRefused (steered (Down ∷ Up ∷ [])) Exchange
exchange =
    let v = steered (Down ∷ Up ∷ []) in (
      refl,
      each (RemainsAt v) (omega arith) (omega arith) tt,
      pairs (λ j k. end v j ≡ end v k → ⊥) (λ e. omega (arith, ap (λ (u : Square). u.row) e)) (λ e. omega (arith, ap (λ (u : Square). u.row) e)) (λ e. omega (arith, ap (λ (u : Square). u.row) e)),
      (0, 1, omega arith, omega arith, (refl, refl)),
    )

pub shared : GoRefused (steered (Down ∷ [])) SharedSquare
shared = (refl, each (RemainsAt (steered (Down ∷ []))) (omega arith) tt tt, (0, 1, omega arith, omega arith, refl))

pub off_floor : GoRefused (steered (Up ∷ [])) OffFloor
off_floor = (refl, (0, omega arith, λ h. omega arith))
