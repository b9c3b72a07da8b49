use Rattle.std.proofs.Common.{Some, ◌≡◌, ◌++◌, ◌+◌, ◌*◌, ◌≤◌, [], length, max}
use Rattle.std.specs.Prelude.{codes, if◌then◌else◌}
use Rattle.cv_pool.specs.Nodes.{ChildBelow}
use Rattle.cv_syntax.specs.PoolTrees.{tree_at}
use Rattle.cv_print.specs.Games.{line, process_text, bodies_text, branches_text}
use Rattle.cv_print.specs.Numbers.{above}
use Rattle.cv_print.proofs.games.+processes.Given as goal

abbrev pub decreases-push_process : goal.decreases-push_process
decreases-push_process l = 4 * l.root.0 + 3

abbrev pub decreases-push_body : goal.decreases-push_body
decreases-push_body l = 4 * above l.body

abbrev pub decreases-push_parallel : goal.decreases-push_parallel
decreases-push_parallel l = 4 * max (above l.node.first) (above l.node.second) + 1

abbrev pub decreases-push_copies : goal.decreases-push_copies
decreases-push_copies l = 4 * above l.body + 1

abbrev pub decreases-push_test : goal.decreases-push_test
decreases-push_test l = 4 * above l.node.second + 2

abbrev pub decreases-push_bodies : goal.decreases-push_bodies
decreases-push_bodies l = 4 * above l.bodies + 1

abbrev pub decreases-push_find : goal.decreases-push_find
decreases-push_find l = 4 * max (above l.node.first) (above l.node.second) + 2

abbrev pub decreases-push_branches : goal.decreases-push_branches
decreases-push_branches l = 4 * above l.branches + 1

abbrev pub decreases-push_branch : goal.decreases-push_branch
decreases-push_branch l = 4 * above l.branch

abbrev pub invariant-push_process-steps : goal.invariant-push_process-steps
invariant-push_process-steps l = record {
  below : ChildBelow (length l.pool.trees) l.at;
  smaller : above l.at ≤ l.fn.root.0 + 1;
  text : l.out.items ++ process_text l.names l.level (tree_at l.pool.trees l.at) ≡ l.fn.out.items ++ process_text l.names l.level (tree_at l.pool.trees (Some l.fn.root));
}

abbrev pub decreases-push_process-steps : goal.decreases-push_process-steps
decreases-push_process-steps l = above l.at

abbrev pub invariant-push_bodies-bodies : goal.invariant-push_bodies-bodies
invariant-push_bodies-bodies l = record {
  below : ChildBelow (length l.pool.trees) l.at;
  smaller : above l.at ≤ above l.fn.bodies;
  text : l.out.items ++ bodies_text l.names l.level (if l.later then line l.level (codes "else") else []) (tree_at l.pool.trees l.at) ≡ l.fn.out.items ++ bodies_text l.names l.level [] (tree_at l.pool.trees l.fn.bodies);
}

abbrev pub decreases-push_bodies-bodies : goal.decreases-push_bodies-bodies
decreases-push_bodies-bodies l = above l.at

abbrev pub invariant-push_branches-branches : goal.invariant-push_branches-branches
invariant-push_branches-branches l = record {
  below : ChildBelow (length l.pool.trees) l.at;
  smaller : above l.at ≤ above l.fn.branches;
  text : l.out.items ++ branches_text l.names l.level l.begin (tree_at l.pool.trees l.at) ≡ l.fn.out.items ++ branches_text l.names l.level l.fn.word (tree_at l.pool.trees l.fn.branches);
}

abbrev pub decreases-push_branches-branches : goal.decreases-push_branches-branches
decreases-push_branches-branches l = above l.at
