use Rattle.std.proofs.Common.{Option, length}
use Rattle.cv_pool.specs.declared.node.NodeId.{NodeId}
use Rattle.cv_syntax.specs.Walks.{above}
use Rattle.cv_edit_changes.proofs.renaming.Chains.{IsUp}
use Rattle.cv_edit_changes.proofs.renaming.making.+rename.Given as goal

abbrev pub decreases-rename : goal.decreases-rename
decreases-rename l = above l.start

abbrev pub decreases-up : goal.decreases-up
decreases-up l = length l.left.items

-- the nodes behind those that are left were renamed
abbrev pub invariant-up : goal.invariant-up
invariant-up l = (at : Option NodeId) × IsUp l.fn.pool l.pool l.x l.y l.fn.start l.left.items at l.next
