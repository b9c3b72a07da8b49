use Rattle.std.proofs.Common.{◌≡◌, ◌++◌, ◌+◌, ◌*◌, [], ◌≤◌, length, max}
use Rattle.cv_pool.specs.Nodes.{ChildBelow}
use Rattle.cv_syntax.specs.PoolTrees.{tree_at}
use Rattle.cv_print.specs.Terms.{terms_text}
use Rattle.cv_print.specs.Numbers.{above}
use Rattle.cv_print.proofs.terms.+terms.Given as goal

abbrev pub decreases-push_term : goal.decreases-push_term
decreases-push_term l = 4 * l.term.0 + 3

abbrev pub decreases-push_joined : goal.decreases-push_joined
decreases-push_joined l = 4 * max (above l.node.first) (above l.node.second) + 1

abbrev pub decreases-push_child : goal.decreases-push_child
decreases-push_child l = 4 * above l.term

abbrev pub decreases-push_terms : goal.decreases-push_terms
decreases-push_terms l = 4 * above l.list + 1

abbrev pub invariant-push_terms-terms : goal.invariant-push_terms-terms
invariant-push_terms-terms l = record {
  below : ChildBelow (length l.pool.trees) l.at;
  smaller : above l.at ≤ above l.fn.list;
  text : l.out.items ++ terms_text l.names l.before (tree_at l.pool.trees l.at) ≡ l.fn.out.items ++ terms_text l.names [] (tree_at l.pool.trees l.fn.list);
}

abbrev pub decreases-push_terms-terms : goal.decreases-push_terms-terms
decreases-push_terms-terms l = above l.at
