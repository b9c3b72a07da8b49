use Rattle.std.proofs.Common.{◌≡◌, ◌≤◌, length, reverse}
use Rattle.cv_syntax.specs.Postorder.{postorder}
use Rattle.cv_syntax_trees.specs.Tree.{Tree}
use Rattle.cv_parse_names.specs.indices.Current.{numbers_of}
use Rattle.cv_parse_names.specs.indices.Stacks.{Descends}
use Rattle.cv_parse_names.proofs.indices.Pending.{Pending}
use Rattle.cv_parse_names.proofs.indices.Parting.{Writes}
use Rattle.cv_parse_names.proofs.indices.filling.fill.Given as goal

abbrev pub invariant-parts : goal.invariant-parts
invariant-parts l = record {
  within : l.at ≤ length l.makes;
  descends : Descends (length l.current) (reverse l.stack.items);
  writes : (t : Tree) → l.makes ≡ postorder t → Pending l.makes l.at (Writes (numbers_of l.sites) t l.current l.stack.items l.parts.items);
}

abbrev pub decreases-parts : goal.decreases-parts
decreases-parts l = l.at
