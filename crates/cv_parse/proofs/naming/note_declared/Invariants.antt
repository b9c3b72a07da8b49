use Rattle.std.proofs.Common.{◌≡◌, ◌++◌, take}
use Rattle.cv_parse_terms.specs.Gives.{uses_of}
use Rattle.cv_parse.specs.Games.{declared_before}
use Rattle.cv_parse.proofs.naming.note_declared.Given as goal

abbrev pub invariant-declared : goal.invariant-declared
invariant-declared l = uses_of l.uses.items ≡ uses_of l.fn.uses.items ++ declared_before (take l.k l.decls.list)
