use Rattle.std.proofs.Common.{◌≡◌, ◌≢◌, ℕ, Some, sym, ◌∙◌}
use Rattle.std.specs.Prelude.{slice_get}
use Rattle.cv_parse_tables.proofs.terminals.Naming.{only_place, with_name_old, place_of_new, with_name_new}
use Rattle.cv_parse_tables.proofs.terminals.pass.number_of.Goals as goal

pub returns-in-Ok-clause-number : goal.returns-in-Ok-clause-number
returns-in-Ok-clause-number c =
    let absent : (n : ℕ) → slice_get c.args.names.now n ≢ Some c.args.text.now = λ n h. let same = (c.in-Ok.ensures.twice (record { 0 = n })).1 h in cc in
    c.in-Ok.ensures.id ∙ sym (place_of_new c.args.names.now c.args.text.now absent)

pub returns-in-Ok-clause-names : goal.returns-in-Ok-clause-names
returns-in-Ok-clause-names c =
    let absent : (n : ℕ) → slice_get c.args.names.now n ≢ Some c.args.text.now = λ n h. let same = (c.in-Ok.ensures.twice (record { 0 = n })).1 h in cc in
    c.in-Ok.ensures.ok ∙ sym (with_name_new c.args.names.now c.args.text.now absent)

pub returns-in-Err-Twice-clause-number : goal.returns-in-Err-Twice-clause-number
returns-in-Err-Twice-clause-number c =
    let id = c.in-Err-Twice.id in
    let here : slice_get c.args.names.now id.0 ≡ Some c.args.text.now = (c.in-Err-Twice.ensures.twice id).0 (cc) in
    only_place c.args.names.now c.args.text.now id.0 here (λ p h. let same = (c.in-Err-Twice.ensures.twice (record { 0 = p })).1 h in cc)

pub returns-in-Err-Twice-clause-names : goal.returns-in-Err-Twice-clause-names
returns-in-Err-Twice-clause-names c =
    let id = c.in-Err-Twice.id in
    let here : slice_get c.args.names.now id.0 ≡ Some c.args.text.now = (c.in-Err-Twice.ensures.twice id).0 (cc) in
    c.in-Err-Twice.ensures.err ∙ sym (with_name_old c.args.names.now c.args.text.now id.0 here)
