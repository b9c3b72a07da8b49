use Rattle.std.proofs.Common.{◌≡◌, ◌≤◌, ◌-◌, ◌^◌, length, reverse}
use Rattle.cv_syntax.specs.Postorder.{postorder}
use Rattle.cv_syntax_trees.specs.Tree.{Tree}
use Rattle.cv_parse_names.specs.indices.Current.{numbers_of}
use Rattle.cv_parse_names.specs.indices.Stacks.{Descends}
use Rattle.cv_parse_names.proofs.indices.Pending.{Pending}
use Rattle.cv_parse_names.proofs.indices.Weighing.{Counts, Rises}
use Rattle.cv_parse_names.proofs.indices.measuring.measure.Given as goal

abbrev pub invariant-parts : goal.invariant-parts
invariant-parts l = record {
  within : l.at ≤ length l.makes;
  descends : Descends (length l.current) (reverse l.stack.items);
  counts : (t : Tree) → l.makes ≡ postorder t → Pending l.makes l.at (Counts (numbers_of l.sites) (2 ^ 64 - 1) t l.current l.stack.items l.nodes);
  rises : (t : Tree) → l.makes ≡ postorder t → Pending l.makes l.at (Rises (numbers_of l.sites) (2 ^ 64 - 1) t l.current l.stack.items l.aboves.items l.depth);
}

abbrev pub decreases-parts : goal.decreases-parts
decreases-parts l = l.at
