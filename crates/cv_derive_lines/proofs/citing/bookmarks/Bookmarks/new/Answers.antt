use Rattle.std.proofs.Common.{IfSome, None}
use Rattle.std.proofs.lemmas.List.Elements.{All-replicate}
use Rattle.cv_derive_lines.specs.citing.Bookmarks.{IsKept}
use Rattle.cv_derive_lines.proofs.citing.bookmarks.Bookmarks.new.Goals as goal

pub returns : goal.returns
returns c trees all n = All-replicate (λ o. IfSome o (IsKept trees all n)) 256 None tt
