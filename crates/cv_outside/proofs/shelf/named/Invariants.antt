-- What is left to be sought: the entries from the next on.
use Rattle.std.proofs.Common.{◌≡◌, drop}
use Rattle.cv_outside.specs.Told.{entry_of}
use Rattle.cv_outside.proofs.shelf.named.Given as goal

abbrev pub invariant-loop-entry : goal.invariant-loop-entry
invariant-loop-entry l = entry_of (drop l.entry-index l.files) l.name ≡ entry_of l.files l.name
