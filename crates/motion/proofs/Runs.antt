-- One run, and one turn: where they lead, that they remain on the floor, and that two of them never meet.
use Rattle.std.proofs.Common.{◌≡◌, ℕ, zero, suc, ◌+◌, ◌-◌, ◌*◌, ◌<◌, ◌≤◌, ◌⊎◌, refl, inl, inr, arith}
use Rattle.std.proofs.lemmas.Bool.Decides.{nat_tests}
use Rattle.grid.specs.Squares.{square, OnFloor, Remains, led}
use Rattle.motion.specs.Runs.{away, toward, track, run_square, run_heading, turn_square, turn_heading}
use Rattle.motion.proofs.Squares.{same_square, same_row, same_column}

-- after p steps, at most p - 1 of them along
abbrev along : ℕ → ℕ → ℕ → ℕ
along f t p = toward f t (p - 1)

-- two runs in one line with other starts and other ends
tracks_apart :
    (f t f' t' p : ℕ)
    → (f ≡ f' → ⊥)
    → (t ≡ t' → ⊥)
    → along f t p ≡ along f' t' p
    → track f t p ≡ track f' t' p
    → ⊥
tracks_apart f t f' t' p a b c d = grind (arith, nat_tests)

pub track_small : (f t p : ℕ) → track f t p < 3
track_small f t p = grind (arith, nat_tests)

pub toward_inside : (r f t n : ℕ) → f < r → t < r → toward f t n < r
toward_inside r f t n a b = omega arith

-- what one step of a run does, in numbers: from row x of track k to row y of track l
record Step (f p x y k l : ℕ) : Type 0 where
  known : (k ≡ 0) ⊎ ((k ≡ 1) ⊎ (k ≡ 2))
  rests : k ≡ 1 → l ≡ 1 → y ≡ x
  leaves : k ≡ 1 → (l ≡ 1 → ⊥) → (p ≡ 0) × (x ≡ f) × (y ≡ f)
  rises : k ≡ 0 → l ≡ 0 → suc y ≡ x
  falls : k ≡ 2 → l ≡ 2 → y ≡ suc x
  keeps : (k ≡ 1 → ⊥) → (l ≡ 1 → ⊥) → k ≡ l
  enters : (k ≡ 1 → ⊥) → l ≡ 1 → (1 ≤ p) × (y ≡ x)

three : (n : ℕ) → n < 3 → (n ≡ 0) ⊎ ((n ≡ 1) ⊎ (n ≡ 2))
three zero h = inl refl
three (suc zero) h = inr (inl refl)
three (suc (suc zero)) h = inr (inr refl)
three (suc (suc (suc n))) h = absurd (omega arith)

run_step : (f t p : ℕ) → Step f p (along f t p) (along f t (suc p)) (track f t p) (track f t (suc p))
run_step f t p =
    record {
      known = three (track f t p) (track_small f t p);
      rests = λ a b. grind (arith, nat_tests);
      leaves = λ a b. (grind (arith, nat_tests), grind (arith, nat_tests), grind (arith, nat_tests));
      rises = λ a b. grind (arith, nat_tests);
      falls = λ a b. grind (arith, nat_tests);
      keeps = λ a b. grind (arith, nat_tests);
      enters = λ a b. (grind (arith, nat_tests), grind (arith, nat_tests));
    }

steps_pass :
    (p f x y k l f' x' y' k' l' : ℕ)
    → Step f p x y k l
    → Step f' p x' y' k' l'
    → (f ≡ f' → ⊥)
    → (x ≡ x' → k ≡ k' → ⊥)
    → y ≡ x'
    → l ≡ k'
    → y' ≡ x
    → l' ≡ k
    → ⊥
steps_pass p f x y k l f' x' y' k' l' s s' a b c d e g = grind arith

tracks_pass :
    (f t f' t' p : ℕ)
    → (f ≡ f' → ⊥)
    → (t ≡ t' → ⊥)
    → along f t (suc p) ≡ along f' t' p
    → track f t (suc p) ≡ track f' t' p
    → along f' t' (suc p) ≡ along f t p
    → track f' t' (suc p) ≡ track f t p
    → ⊥
tracks_pass f t f' t' p a b c d e g =
    steps_pass p f (along f t p) (along f t (suc p)) (track f t p) (track f t (suc p)) f' (along f' t' p)
    (along f' t' (suc p))
    (track f' t' p)
    (track f' t' (suc p))
    (run_step f t p)
    (run_step f' t' p)
    a
    (tracks_apart f t f' t' p a b)
    c
    d
    e
    g

same_line : (l l' k k' : ℕ) → k < 3 → k' < 3 → 3 * l + k ≡ 3 * l' + k' → l ≡ l'
same_line l l' k k' a b e = omega arith

same_track : (l l' k k' : ℕ) → k < 3 → k' < 3 → 3 * l + k ≡ 3 * l' + k' → k ≡ k'
same_track l l' k k' a b e = omega arith

-- runs in any lines
pub runs_apart :
    (l l' f t f' t' p : ℕ)
    → (f ≡ f' → l ≡ l' → ⊥)
    → (t ≡ t' → l ≡ l' → ⊥)
    → run_square l f t p ≡ run_square l' f' t' p
    → ⊥
runs_apart l l' f t f' t' p a b s =
    let k = track_small f t p in
    let k' = track_small f' t' p in
    let e = same_line l l' _ _ k k' (same_column s) in
    tracks_apart f t f' t' p (λ q. a q e) (λ q. b q e) (same_row s) (same_track l l' _ _ k k' (same_column s))

pub runs_pass :
    (l l' f t f' t' p : ℕ)
    → (f ≡ f' → l ≡ l' → ⊥)
    → (t ≡ t' → l ≡ l' → ⊥)
    → run_square l f t (suc p) ≡ run_square l' f' t' p
    → run_square l' f' t' (suc p) ≡ run_square l f t p
    → ⊥
runs_pass l l' f t f' t' p a b s z =
    let k = track_small f t (suc p) in
    let k' = track_small f' t' p in
    let e = same_line l l' _ _ k k' (same_column s) in
    tracks_pass f t f' t' p (λ q. a q e) (λ q. b q e) (same_row s) (same_track l l' _ _ k k' (same_column s)) (same_row z)
    (same_track l' l _ _ (track_small f' t' (suc p)) (track_small f t p) (same_column z))

pub run_leads : (line f t p : ℕ) → led (run_square line f t p) (run_heading f t p) ≡ run_square line f t (suc p)
run_leads line f t p = same_square (grind (arith, nat_tests)) (grind (arith, nat_tests))

pub run_remains :
    (r w line f t p : ℕ)
    → f < r
    → t < r
    → line < w
    → Remains r (3 * w) (run_square line f t p) (run_heading f t p)
run_remains r w line f t p a b c = grind (arith, nat_tests)

pub run_inside :
    (r w line f t p : ℕ) → f < r → t < r → line < w → OnFloor r (3 * w) (run_square line f t p)
run_inside r w line f t p a b c = (toward_inside r f t (p - 1) a b, omega (arith, track_small f t p))

pub run_begins : (line f t : ℕ) → run_square line f t 0 ≡ square f (3 * line + 1)
run_begins line f t = same_square (grind (arith, nat_tests)) (grind (arith, nat_tests))

pub run_ends :
    (line f t n : ℕ) → (away f t ≡ 0) ⊎ (away f t + 2 ≤ n) → run_square line f t n ≡ square t (3 * line + 1)
run_ends line f t n h = same_square (grind (arith, nat_tests)) (grind (arith, nat_tests))

-- turns
pub turn_leads :
    (line m p : ℕ) → p < 2 → led (turn_square line m p) (turn_heading m p) ≡ turn_square line m (suc p)
turn_leads line m p h = same_square (grind (arith, nat_tests)) (grind (arith, nat_tests))

pub turn_remains :
    (r w line m p : ℕ)
    → p < 2
    → m < 3 * r
    → line < w
    → Remains (3 * r) (3 * w) (turn_square line m p) (turn_heading m p)
turn_remains r w line m p h a b = grind (arith, nat_tests)

pub turn_inside : (r w line m p : ℕ) → m < 3 * r → line < w → OnFloor (3 * r) (3 * w) (turn_square line m p)
turn_inside r w line m p a b = grind (arith, nat_tests)

turn_places_apart :
    (l l' m m' p : ℕ)
    → (m ≡ m' → l ≡ l' → ⊥)
    → (turn_square l m p).row ≡ (turn_square l' m' p).row
    → (turn_square l m p).column ≡ (turn_square l' m' p).column
    → ⊥
turn_places_apart l l' m m' p a b c = grind (arith, nat_tests)

pub turns_apart : (l l' m m' p : ℕ) → (m ≡ m' → l ≡ l' → ⊥) → turn_square l m p ≡ turn_square l' m' p → ⊥
turns_apart l l' m m' p a s = turn_places_apart l l' m m' p a (same_row s) (same_column s)

turn_places_pass :
    (l l' m m' p : ℕ)
    → p < 2
    → (m ≡ m' → l ≡ l' → ⊥)
    → (turn_square l m (suc p)).row ≡ (turn_square l' m' p).row
    → (turn_square l m (suc p)).column ≡ (turn_square l' m' p).column
    → (turn_square l' m' (suc p)).row ≡ (turn_square l m p).row
    → (turn_square l' m' (suc p)).column ≡ (turn_square l m p).column
    → ⊥
turn_places_pass l l' m m' p h a b c d e = grind (arith, nat_tests)

pub turns_pass :
    (l l' m m' p : ℕ)
    → p < 2
    → (m ≡ m' → l ≡ l' → ⊥)
    → turn_square l m (suc p) ≡ turn_square l' m' p
    → turn_square l' m' (suc p) ≡ turn_square l m p
    → ⊥
turns_pass l l' m m' p h a s z =
    turn_places_pass l l' m m' p h a (same_row s) (same_column s) (same_row z) (same_column z)
