use Rattle.std.proofs.Common.{◌≡◌, ◌+◌, ◌≤◌, length, ◌*◌, reverse}
use Rattle.cv_syntax.specs.Postorder.{postorder}
use Rattle.cv_syntax_trees.specs.Tree.{Tree}
use Rattle.cv_parse_names.specs.indices.Sites.{AreWithin}
use Rattle.cv_parse_names.proofs.indices.Pending.{Pending}
use Rattle.cv_parse_names.proofs.indices.Settling.{Settles}
use Rattle.cv_parse_names.proofs.indices.sites.first_sites.Given as goal

abbrev pub invariant-tasks : goal.invariant-tasks
invariant-tasks l = record {
  within : l.at ≤ length l.makes;
  levels : AreWithin (length l.makes) l.at (reverse l.tasks.items);
  settles : (t : Tree) → l.makes ≡ postorder t → Pending l.makes l.at (Settles t (reverse l.tasks.items) l.sites);
}

abbrev pub decreases-tasks : goal.decreases-tasks
decreases-tasks l = 4 * l.at + length l.tasks.items
