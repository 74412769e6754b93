-- Entries of 16 bits as pairs of bytes.
use Rattle.std.proofs.Common.{◌≡◌, ℕ, zero, suc, ◌+◌, ◌*◌, ◌/◌, ◌%◌, ◌<◌, ◌⊎◌, List, [], ◌∷◌, length, get_or, sym, refl, ◌∙◌, inl, inr, ⊎_elim, mod-lt, arith}
use native.Mathlib.Nat.{div-add-mod}
use Rattle.std.proofs.lemmas.List.{ext_get_or}
use Rattle.orderfile.specs.Records.{words}

pub length_words : (es : List ℕ) → length (words es) ≡ 2 * length es
length_words [] = refl
length_words (e ∷ es) = omega (arith, length_words es)

pub high_word : (es : List ℕ) (k : ℕ) → k < length es → get_or (words es) (2 * k) 0 ≡ get_or es k 0 / 256
high_word [] k h = omega arith
high_word (e ∷ es) zero h = refl
high_word (e ∷ es) (suc k) h =
    let next : 2 * suc k ≡ suc (suc (2 * k)) = omega arith in
    let here : k < length es = omega arith in
    rw next (high_word es k here)

pub low_word : (es : List ℕ) (k : ℕ) → k < length es → get_or (words es) (2 * k + 1) 0 ≡ get_or es k 0 % 256
low_word [] k h = omega arith
low_word (e ∷ es) zero h = refl
low_word (e ∷ es) (suc k) h =
    let next : 2 * suc k + 1 ≡ suc (suc (2 * k + 1)) = omega arith in
    let here : k < length es = omega arith in
    rw next (low_word es k here)

-- an even or an odd place
halves : (i : ℕ) → (i ≡ 2 * (i / 2)) ⊎ (i ≡ 2 * (i / 2) + 1)
halves i = two (i % 2) (mod-lt i (omega arith)) (div-add-mod i 2)
  where
    two : (r : ℕ) → r < 2 → 2 * (i / 2) + r ≡ i → (i ≡ 2 * (i / 2)) ⊎ (i ≡ 2 * (i / 2) + 1)
    two zero h e = inl (omega arith)
    two (suc r) h e = inr (omega arith)

-- bytes that are the entries' halves, place by place
pub words_are :
    (bytes es : List ℕ)
    → length bytes ≡ 2 * length es
    → ((j : ℕ) → j < length es → (get_or bytes (2 * j) 0 ≡ get_or es j 0 / 256) × (get_or bytes (2 * j + 1) 0 ≡ get_or es j 0 % 256))
    → bytes ≡ words es
words_are bytes es long at =
    ext_get_or 0 bytes (words es) (omega (arith, length_words es))
    (λ i h.
    let k = i / 2 in
    ⊎_elim
    (λ e. let h' : k < length es = omega arith in rw e ((at k h').0 ∙ sym (high_word es k h')))
    (λ e. let h' : k < length es = omega arith in rw e ((at k h').1 ∙ sym (low_word es k h')))
    (halves i))
