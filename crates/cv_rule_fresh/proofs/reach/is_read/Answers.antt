use Rattle.std.proofs.Common.{ap, sym, ◌∙◌, Some}
use Rattle.cv_syntax_trees.specs.Tree.{Node}
use Rattle.cv_syntax.specs.PoolTrees.{tree_at}
use Rattle.cv_scene_view.proofs.Tests.{ok_same}
use Rattle.cv_scope.specs.Held.{names_held}
use Rattle.cv_scope_rules.specs.Rules.{is_index}
use Rattle.cv_scope_rules.specs.Tests.{is_in_reach}
use Rattle.cv_rule_fresh.specs.Looks.{reads_here}
use Rattle.cv_rule_fresh.proofs.Seeing.{leaf_reads}
use Rattle.cv_rule_fresh.proofs.reach.is_read.Goals as goal

pub returns-else-is_constant : goal.returns-else-is_constant
returns-else-is_constant c = λ Γ e r.
    let trees = c.args.pool.now.trees in
    let node = c.read_node.result in
    let x = c.in-Leaf.x in
    let names = names_held c.args.names.now in
    let t = tree_at trees (Some c.args.n) in
    let is = c.read_node.ensures.tree ∙ ap (λ h. Node h (tree_at trees node.first) (tree_at trees node.second)) c.in-Leaf.is in
    let index = ap (λ rs. is_index rs x) r ∙ (sym c.is_index.ensures ∙ c.if-is_index.false) in
    let constant = sym c.is_constant.ensures ∙ c.if-is_constant.false in
    ok_same c.is_known.result (is_in_reach Γ t) (reads_here names Γ t) (leaf_reads names Γ t x (tree_at trees node.first) (tree_at trees node.second) is index constant) (c.is_known.ensures Γ e)
