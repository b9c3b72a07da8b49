-- One item, if a test holds.
use Rattle.std.proofs.Common.{◌≡◌, Bool, true, false, refl}
use Rattle.std.specs.List.{AllByRecursion}
use Rattle.cv_settling_rules.specs.Candidates.{when}

pub when_all : {A : Type 0} (P : A → Type 0) (b : Bool) (x : A) → (b ≡ true → P x) → AllByRecursion P (when b x)
when_all P true x f = (f refl, tt)
when_all P false x f = tt
