use Rattle.std.proofs.Common.{◌≡◌, ◌++◌, map, take}
use Rattle.cv_inline_walk.specs.pieces.Choices.{choose}
use Rattle.cv_inline_walk.proofs.pieces.choices.add_choices.Given as goal

abbrev pub invariant-loop-pair : goal.invariant-loop-pair
invariant-loop-pair l = l.found.items ≡ l.fn.found.items ++ map (choose l.other) (take l.pair-index l.pairs)
