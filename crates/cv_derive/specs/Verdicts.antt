-- What the checker answers of a derivation.
use Rattle.std.specs.Prelude.{ℕ, Bool, true, false, Option, Some, None, Result, Ok, Err}
use Rattle.cv_syntax_trees.specs.Tree.{Tree}
use Rattle.cv_scene.specs.Derivations.{first_bad_line}
use Rattle.cv_scene.specs.Sights.{Sight}
use Rattle.cv_scene.specs.lines.Ends.{ends_with}
use Rattle.cv_derive.specs.declared.checking.DeriveFault.{DeriveFault}
use Rattle.cv_derive.specs.declared.checking.DeriveFault.TheVariants.{LineBad, Targets}

abbrev pub verdict_by : (bad : Option ℕ) → (ends : Bool) → Result (Unit {0}) DeriveFault
verdict_by (Some n) ends = Err (LineBad n)
verdict_by None false = Err Targets
verdict_by None true = Ok tt

abbrev pub verdict_of : Sight → (by targets : Tree) → Result (Unit {0}) DeriveFault
verdict_of s by targets = verdict_by (first_bad_line s by) (ends_with by targets)
