use Rattle.std.proofs.Common.{refl, ap, ◌∙◌}
use Rattle.cv_syntax_trees.specs.Tree.{first}
use Rattle.cv_syntax.specs.PoolTrees.{tree_at}
use Rattle.cv_query_parts.specs.Views.{asked_of, scene_of, trees_of}
use Rattle.cv_query_entries.proofs.Formed.{with_few, with_others, with_choice}
use Rattle.cv_query_entries.proofs.forms.has_with_form.Goals as goal

pub returns-then-not-are_as_many : goal.returns-then-not-are_as_many
returns-then-not-are_as_many c =
    let trees = trees_of c.args.view.now in
    with_few (scene_of c.args.view.now) (asked_of trees c.args.asked.now) c.args.place (tree_at trees c.args.witnesses) (tree_at trees c.args.choice) (tree_at trees c.args.asked.now.variables) (tree_at trees c.first_of-arguments.result) refl (c.first_of-arguments.ensures.tree ∙ ap first c.node_at.ensures.part) c.are_as_many.result c.are_as_many.ensures c.if-not-are_as_many.true

pub returns-then-not-have_types : goal.returns-then-not-have_types
returns-then-not-have_types c =
    let trees = trees_of c.args.view.now in
    with_others (scene_of c.args.view.now) (asked_of trees c.args.asked.now) c.args.place (tree_at trees c.args.witnesses) (tree_at trees c.args.choice) (tree_at trees c.args.asked.now.variables) (tree_at trees c.first_of-arguments.result) refl (c.first_of-arguments.ensures.tree ∙ ap first c.node_at.ensures.part) c.are_as_many.result c.are_as_many.ensures c.if-not-are_as_many.false c.have_types.result c.have_types.ensures c.if-not-have_types.true

pub returns : goal.returns
returns c =
    let trees = trees_of c.args.view.now in
    with_choice (scene_of c.args.view.now) (asked_of trees c.args.asked.now) c.args.place (tree_at trees c.args.witnesses) (tree_at trees c.args.choice) (tree_at trees c.args.asked.now.variables) (tree_at trees c.first_of-arguments.result) refl (c.first_of-arguments.ensures.tree ∙ ap first c.node_at.ensures.part) c.are_as_many.result c.are_as_many.ensures c.if-not-are_as_many.false c.have_types.result c.have_types.ensures c.if-not-have_types.false c.has_choice.result c.has_choice.ensures
