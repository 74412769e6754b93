-- Texts that are written line by line, and how long they are.
use Rattle.std.proofs.Common.{◌≡◌, ℕ, zero, suc, ◌+◌, ◌*◌, ◌^◌, ◌<◌, ◌≤◌, List, [], ◌∷◌, ◌++◌, length, take, drop, decimal, Ok, Err, Result, sym, refl, ap, ◌∙◌, append_assoc, suc-mul, zero-mul, arith, length-append, length-drop}
use Rattle.std.proofs.lemmas.List.{take_at, length-take-le}
use Rattle.std.proofs.lemmas.List.FromFn.{length-map-range_with_len}
use Rattle.motion.specs.Plans.{Plan}
use Rattle.script.specs.Lines.{first_line_bytes, refused_line_bytes}
use Rattle.script.specs.Pasting.{Pasted, Written}
use Rattle.chain.specs.declared.fault.FloorFault.{FloorFault}
use Rattle.std.specs.Prelude.{IsOk, MatchResult, codes}
use Rattle.std.specs.Str.{IsAscii, IsUtf8}
use Rattle.std.proofs.lemmas.Str.{IsUtf8-append, IsUtf8-from_ascii}
use Rattle.std.proofs.lemmas.Str.Ascii.{IsAscii-cons, IsAscii-nil}
use Rattle.std.proofs.lemmas.Fmt.{IsAscii-decimal, length-decimal-le}
use Rattle.scripting.specs.Scripts.{step_line, step_lines}

module _ (bytes before after : List ℕ) (at n : ℕ) (P : Pasted bytes before at n after) where
  front_long : length (take at before) ≡ at
  front_long = let r = P.room in length-take-le at before (omega arith)

  -- what is written ends with the bytes
  pub pasted_take : take (at + n) after ≡ take at before ++ bytes
  pasted_take =
      let long : length (take at before ++ bytes) ≡ at + n =
      length-append (take at before) bytes ∙ (let f = front_long in let c = P.count in omega arith) in
      ap (take (at + n)) (P.pasted ∙ sym (append_assoc (take at before) bytes (drop (at + n) before)))
      ∙ take_at (take at before ++ bytes) (drop (at + n) before) (at + n) long

  pub pasted_long : length after ≡ length before
  pasted_long =
      let f = front_long in
      let r = P.room in
      let c = P.count in
      ap length P.pasted ∙ simp (length-append, length-drop) (omega arith)

pub step_line_long : (p : Plan) (t : ℕ) → length (step_line p t) ≡ p.carriers + 1
step_line_long p t = simp (length-append, length-map-range_with_len) refl

pub step_lines_long : (p : Plan) (t : ℕ) → length (step_lines p t) ≡ t * (p.carriers + 1)
unfolding step_lines
step_lines_long p zero = sym (zero-mul (p.carriers + 1))
step_lines_long p (suc t) =
    length-append (step_lines p t) (step_line p t)
    ∙ (let a = step_lines_long p t in
    let b = step_line_long p t in
    let c = suc-mul t (p.carriers + 1) in
    omega arith)

short : (n : ℕ) → n < 2 ^ 64 → length (decimal n) ≤ 20
short n fits = length-decimal-le 20 n (omega arith) (omega arith) fits

pub first_line_short : (h w n : ℕ) → h < 2 ^ 64 → w < 2 ^ 64 → n < 2 ^ 64 → length (first_line_bytes h w n) ≤ 80
first_line_short h w n fh fw fn = simp length-append (omega (arith, short h fh, short w fw, short n fn))

pub refused_line_short : (n : ℕ) → n < 2 ^ 64 → length (refused_line_bytes n) ≤ 80
refused_line_short n fits = simp length-append (omega (arith, short n fits))

refused_is_ascii : IsAscii (codes "refused ")
refused_is_ascii =
    IsAscii-cons 114 (codes "efused ") (omega arith)
    (IsAscii-cons 101 (codes "fused ") (omega arith)
    (IsAscii-cons 102 (codes "used ") (omega arith)
    (IsAscii-cons 117 (codes "sed ") (omega arith)
    (IsAscii-cons 115 (codes "ed ") (omega arith)
    (IsAscii-cons 101 (codes "d ") (omega arith)
    (IsAscii-cons 100 (codes " ") (omega arith)
    (IsAscii-cons 32 [] (omega arith) IsAscii-nil)))))))

pub refused_line_is_text : (n : ℕ) → n < 2 ^ 64 → IsUtf8 (refused_line_bytes n)
refused_line_is_text n fits =
    IsUtf8-append (codes "refused ") (decimal n ++ 10 ∷ []) (IsUtf8-from_ascii (codes "refused ") refused_is_ascii)
    (IsUtf8-append (decimal n) (10 ∷ []) (IsUtf8-from_ascii (decimal n) (IsAscii-decimal n fits)) (IsUtf8-from_ascii (10 ∷ []) (IsAscii-cons 10 [] (omega arith) IsAscii-nil)))

-- where there is room, the bytes are written
pub is_written :
    (bytes before after : List ℕ) (at : ℕ) (r : Result ℕ FloorFault)
    → at + length bytes ≤ length before
    → Written bytes before at r after
    → IsOk r
is_written bytes before after at (Ok n) room w = refl
is_written bytes before after at (Err e) room w = let lack = w.1 in absurd (omega arith)

-- where no error can be, there is a value
pub no_error : {T E : Type 0} (P : T → Type 0) (Q : E → Type 0) (r : Result T E) → MatchResult r P Q → ((e : E) → Q e → ⊥) → IsOk r
no_error P Q (Ok x) m none = refl
no_error P Q (Err e) m none = absurd (none e m)
