use Rattle.std.proofs.Common.{◌++◌, ◌∙◌, append_assoc, ap, codes, Result, Ok, Err}
use Rattle.std.specs.Prelude.{OnOk}
use Rattle.cv_report.specs.Text.{condition_text, numbered_text}
use Rattle.cv_report.proofs.text.push_step_refused.Goals as goal

on_ok : {T E P Q : Type 0} (r : Result T E) → (P → Q) → OnOk r P → OnOk r Q
on_ok (Ok u) f p = f p
on_ok (Err e) f p = p

pub returns : goal.returns
returns c =
    on_ok c.push_condition.result
    (λ e. e ∙ (ap (λ xs. xs ++ condition_text c.args.condition c.args.place) c.in_ok-push_numbered.ensures ∙ append_assoc c.args.out.now.items (numbered_text (codes "end 1 open: step ") c.args.step) (condition_text c.args.condition c.args.place)))
    c.push_condition.ensures
