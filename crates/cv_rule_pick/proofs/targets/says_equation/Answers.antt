use Rattle.std.proofs.Common.{sym, ◌∙◌}
use Rattle.cv_syntax_trees.specs.declared.head.Head.TheVariants.{Eq}
use Rattle.cv_syntax_trees.specs.Tree.{Tree}
use Rattle.cv_syntax.specs.PoolTrees.{tree_at}
use Rattle.cv_scope_rules.specs.Context.{cell_of}
use Rattle.cv_rule_pick.proofs.Sides.{first_differs, first_same, other_head}
use Rattle.cv_rule_pick.proofs.targets.says_equation.Goals as goal

pub returns-in_default : goal.returns-in_default
returns-in_default c =
    let trees = c.args.pool.now.trees in
    sym (other_head Eq (cell_of c.args.replications.now c.args.x) (tree_at trees c.args.term) (tree_at trees c.args.said) c.in_default.ensures.sides)

pub returns-then-is_cell : goal.returns-then-is_cell
returns-then-is_cell c =
    let trees = c.args.pool.now.trees in
    let sides : Tree × Tree = (tree_at trees c.in-Some.cell, tree_at trees c.in-Some.value) in
    c.same.ensures ∙ first_same Eq (cell_of c.args.replications.now c.args.x) (tree_at trees c.args.term) (tree_at trees c.args.said) sides c.in-Some.ensures.sides c.is_cell.result c.is_cell.ensures c.if-is_cell.true

pub returns-else-is_cell : goal.returns-else-is_cell
returns-else-is_cell c =
    let trees = c.args.pool.now.trees in
    let sides : Tree × Tree = (tree_at trees c.in-Some.cell, tree_at trees c.in-Some.value) in
    c.if-is_cell.false ∙ sym (first_differs Eq (cell_of c.args.replications.now c.args.x) (tree_at trees c.args.term) (tree_at trees c.args.said) sides c.in-Some.ensures.sides c.is_cell.result c.is_cell.ensures c.if-is_cell.false)
