use Rattle.std.proofs.Common.{◌≡◌, ◌+◌, ◌≤◌, ◌∷◌, length}
use Rattle.cv_pool.specs.Nodes.{ChildBelow}
use Rattle.cv_syntax.specs.PoolTrees.{tree_at}
use Rattle.cv_syntax.specs.Walks.{above}
use Rattle.cv_scope_rules.specs.Context.{cells_of}
use Rattle.cv_edit_places.specs.Parts.{AreLive, closed, made_by, stack_of}
use Rattle.cv_rule_pick.specs.Needs.{made_with}
use Rattle.cv_rule_pick.specs.Picking.{with_terms}
use Rattle.cv_rule_pick.proofs.putting.+add_with_terms.Given as goal

abbrev pub decreases-add_with_terms : goal.decreases-add_with_terms
decreases-add_with_terms l = above l.start

abbrev pub decreases-chain : goal.decreases-chain
decreases-chain l = above l.at

abbrev pub invariant-chain : goal.invariant-chain
invariant-chain l = record {
  below : above l.at ≤ above l.fn.start;
  live : ChildBelow (length l.pool.trees) l.at;
  stack : closed l.heads.items (with_terms (cells_of l.replications (tree_at l.pool.trees l.binders)) (tree_at l.pool.trees l.terms) (tree_at l.pool.trees l.at) ∷ stack_of l.pool.trees l.parts)
      ≡ with_terms (cells_of l.replications (tree_at l.pool.trees l.binders)) (tree_at l.pool.trees l.terms) (tree_at l.pool.trees l.fn.start) ∷ stack_of l.pool.trees l.fn.parts;
  made : made_by l.parts + length l.heads.items + made_with (cells_of l.replications (tree_at l.pool.trees l.binders)) (tree_at l.pool.trees l.terms) (tree_at l.pool.trees l.at)
      ≡ made_by l.fn.parts + made_with (cells_of l.replications (tree_at l.pool.trees l.binders)) (tree_at l.pool.trees l.terms) (tree_at l.pool.trees l.fn.start);
  alive : AreLive (length l.pool.trees) l.fn.parts → AreLive (length l.pool.trees) l.parts;
}
