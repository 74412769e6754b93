use Rattle.std.proofs.Common.{ℕ, List, sym, ap, ◌∙◌, subst}
use Rattle.script.specs.Lines.{refused_line_bytes}
use Rattle.scripting.specs.Scripts.{ScriptOf}
use Rattle.scripting.proofs.Fixed.{script_is_fixed}
use Rattle.scripting.proofs.scripts.Script.of_record.Goals as goal

pub returns-in-Ok-clause-fixed : goal.returns-in-Ok-clause-fixed
returns-in-Ok-clause-fixed c = script_is_fixed

pub returns-in-Err-clause-script : goal.returns-in-Err-clause-script
returns-in-Err-clause-script c =
    let line = c.refusal_text.ensures ∙ ap refused_line_bytes c.number.ensures in
    subst (λ (text : List ℕ). ScriptOf c.args.bytes.now text) (sym line) c.in-Err.ensures

pub returns-in-Err-clause-fixed : goal.returns-in-Err-clause-fixed
returns-in-Err-clause-fixed c = script_is_fixed
