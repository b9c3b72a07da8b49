use Rattle.std.proofs.Common.{◌≡◌, ◌++◌}
use Rattle.std.specs.Prelude.{replicate}
use Rattle.cv_syntax.specs.declared.make.Make.TheVariants.{Nothing}
use Rattle.cv_parse_terms.proofs.interpreter.empties.Given as goal

abbrev pub invariant-empty : goal.invariant-empty
invariant-empty l = l.makes.items ≡ l.fn.makes.items ++ replicate l.counter Nothing
