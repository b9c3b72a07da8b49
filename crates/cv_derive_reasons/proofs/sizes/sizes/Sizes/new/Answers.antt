use Rattle.std.proofs.Common.{IfSome, None}
use Rattle.std.proofs.lemmas.List.Elements.{All-replicate}
use Rattle.cv_derive_reasons.specs.sizes.Sizes.{IsSize}
use Rattle.cv_derive_reasons.proofs.sizes.sizes.Sizes.new.Goals as goal

pub returns : goal.returns
returns c trees = All-replicate (λ o. IfSome o (IsSize trees)) 2039 None tt
