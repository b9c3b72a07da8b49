use Rattle.std.proofs.Common.{◌≡◌, ◌≤◌, ℕ, ◌||◌, length}
use Rattle.cv_pool.specs.Nodes.{ChildBelow}
use Rattle.cv_syntax.specs.PoolTrees.{tree_at}
use Rattle.cv_syntax.specs.Walks.{above}
use Rattle.cv_group_rules.specs.Rules as rule
use Rattle.cv_syntax.specs.NameSets.{is_in}
use Rattle.cv_group.proofs.reads.+note_reads.Given as goal

abbrev pub decreases-note_reads : goal.decreases-note_reads
decreases-note_reads l = above l.term

abbrev pub invariant-term : goal.invariant-term
invariant-term l = record {
  live : ChildBelow (length l.pool.trees) l.at;
  same : (x : ℕ) → (is_in l.names x || rule.reads (tree_at l.pool.trees l.at) x) ≡ (is_in l.fn.names x || rule.reads (tree_at l.pool.trees l.fn.term) x);
  less : above l.at ≤ above l.fn.term;
}

abbrev pub decreases-term : goal.decreases-term
decreases-term l = above l.at
