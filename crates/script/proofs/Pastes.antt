-- A part written into a buffer is pasted.
use Rattle.std.proofs.Common.{◌≡◌, ℕ, ◌+◌, ◌-◌, ◌≤◌, List, ◌++◌, length, take, drop, ap, ◌∙◌, arith}
use borrow.Rule.Slice.PartMut.{put_mid}
use Rattle.std.proofs.lemmas.List.{drop-drop}
use Rattle.script.specs.Pasting.{Pasted}

pub pasted :
    (before part bytes : List ℕ) (at n : ℕ)
    → at + n ≤ length before
    → part ≡ bytes
    → n ≡ length bytes
    → Pasted bytes before at n (put_mid at ((at + n) - at) before part)
pasted before part bytes at n room same long =
    let k : ℕ = (at + n) - at in
    let e : k ≡ n = omega arith in
    record {
      room = room;
      count = long;
      pasted =
          ap (λ (t : List ℕ). take at before ++ (t ++ drop k (drop at before))) same
          ∙ ap (λ (t : List ℕ). take at before ++ (bytes ++ t))
          (drop-drop k at before ∙ ap (λ (j : ℕ). drop (at + j) before) e);
    }
