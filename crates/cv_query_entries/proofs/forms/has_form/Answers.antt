use Rattle.std.proofs.Common.{ap, sym, ◌∙◌}
use Rattle.cv_syntax.specs.PoolTrees.{tree_at}
use Rattle.cv_query_parts.specs.Said.{saying_seen}
use Rattle.cv_query_parts.specs.Views.{asked_of, scene_of, trees_of}
use Rattle.cv_query_entries.proofs.Formed.{form_of, number_first}
use Rattle.cv_query_entries.proofs.forms.has_form.Goals as goal

pub returns-in-Never : goal.returns-in-Never
returns-in-Never c =
    let trees = trees_of c.args.view.now in
    form_of (scene_of c.args.view.now) (asked_of trees c.args.asked.now) c.args.place (tree_at trees c.args.part) _ c.is_number.result (sym (ap (saying_seen trees) c.in-Never.is) ∙ c.entry_of.ensures.saying) c.is_number.ensures

pub returns-then-not-is_number : goal.returns-then-not-is_number
returns-then-not-is_number c =
    let trees = trees_of c.args.view.now in
    form_of (scene_of c.args.view.now) (asked_of trees c.args.asked.now) c.args.place (tree_at trees c.args.part) _ _ (sym (ap (saying_seen trees) c.in-With.is) ∙ c.entry_of.ensures.saying) (number_first (scene_of c.args.view.now) (asked_of trees c.args.asked.now) c.args.place (tree_at trees c.in-With.n) (tree_at trees c.in-With.witnesses) (tree_at trees c.in-With.choice) c.is_number-in-With.result c.is_number-in-With.ensures c.if-not-is_number.true)
