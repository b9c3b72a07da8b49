use Rattle.cv_syntax.specs.Walks.{above}
use Rattle.cv_kernel_crypto.proofs.room.+nodes_left.Given as goal

abbrev pub decreases-nodes_left : goal.decreases-nodes_left
decreases-nodes_left l = above l.tree
