use Rattle.std.proofs.Common.{◌≡◌, [], map, reverse, take}
use Rattle.cv_edit_places.specs.Parts.{extent_of, stacked}
use Rattle.cv_edit_places.proofs.building.extent_of.Given as goal

abbrev pub invariant-loop-part : goal.invariant-loop-part
invariant-loop-part l = reverse l.stack.items ≡ map extent_of (stacked l.pool.trees [] (take l.part-index l.parts.items.items))
