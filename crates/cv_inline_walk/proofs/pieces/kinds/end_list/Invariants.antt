use Rattle.std.proofs.Common.{◌∷◌}
use Rattle.cv_syntax_trees.specs.Tree.{Empty}
use Rattle.cv_inline_walk.specs.pieces.Pieces.{AddsNodes, listed}
use Rattle.cv_inline_walk.proofs.pieces.kinds.end_list.Given as goal

abbrev pub invariant-items : goal.invariant-items
invariant-items l = AddsNodes l.fn.pieces.items l.pieces.items (λ ts. listed l._item (Empty ∷ ts))
