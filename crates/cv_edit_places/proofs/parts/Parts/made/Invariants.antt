use Rattle.std.proofs.Common.{◌≡◌, take}
use Rattle.cv_syntax.specs.listing.Needs.{most_asked}
use Rattle.cv_edit_places.specs.Parts.{overs}
use Rattle.cv_edit_places.proofs.parts.Parts.made.Given as goal

abbrev pub invariant-loop-part : goal.invariant-loop-part
invariant-loop-part l = l.count ≡ most_asked (overs (take l.part-index l.self.items.items))
