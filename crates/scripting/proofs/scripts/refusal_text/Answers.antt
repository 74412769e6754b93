use Rattle.std.proofs.Common.{◌≡◌, ℕ, Result, arith, replicate, take, sym, ap, ◌∙◌, subst, zero-add}
use Rattle.std.specs.Str.{IsUtf8}
use Rattle.std.proofs.lemmas.List.{length-replicate}
use Rattle.chain.specs.declared.fault.FloorFault.{FloorFault}
use Rattle.script.specs.Lines.{refused_line_bytes}
use Rattle.script.specs.Pasting.{Written}
use Rattle.scripting.proofs.Texts.{pasted_take, refused_line_short, refused_line_is_text, is_written, no_error}
use Rattle.scripting.proofs.scripts.refusal_text.Goals as goal

-- there is room for the line of any refusal
pub unwrap-count-requires : goal.unwrap-count-requires
unwrap-count-requires c =
    let n = c.args.number in
    let few = refused_line_short n (let f = c.ranges.number.fits in omega arith) in
    let long = length-replicate {A = ℕ} 80 0 in
    is_written (refused_line_bytes n) (replicate 80 0) _ 0 c.refused_line.result (omega arith) c.refused_line.ensures

-- and it is text
pub unwrap-requires : goal.unwrap-requires
unwrap-requires c =
    let n = c.args.number in
    let out = c.refused_line.new.out in
    let count = c.unwrap-count.result in
    let written = subst (λ (r : Result ℕ FloorFault). Written (refused_line_bytes n) (replicate 80 0) 0 r out) c.unwrap-count.ensures c.refused_line.ensures in
    let same : take count out ≡ refused_line_bytes n =
    ap (λ (k : ℕ). take k out) (sym (zero-add count)) ∙ pasted_take (refused_line_bytes n) (replicate 80 0) out 0 count written in
    let text = subst IsUtf8 (sym same) (refused_line_is_text n (let f = c.ranges.number.fits in omega arith)) in
    no_error _ _ c.from_utf8.result c.from_utf8.ensures.cases (λ e bad. bad.0 text)
