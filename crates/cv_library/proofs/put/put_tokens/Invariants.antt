use Rattle.std.proofs.Common.{◌+◌}
use Rattle.cv_library.proofs.Putting.{IsBodyPut}
use Rattle.cv_library.proofs.put.put_tokens.Given as goal

abbrev pub invariant-body : goal.invariant-body
invariant-body l = IsBodyPut l.tokens l.site.1 l.site.0 l.parameters l.body l.fn.out (l.fn.place.brace + 1) l.k l.out
