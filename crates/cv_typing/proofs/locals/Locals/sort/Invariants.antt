use Rattle.std.proofs.Common.{◌≡◌, drop}
use Rattle.cv_typing.specs.Tables.{by_bound_in}
use Rattle.cv_typing.proofs.locals.Locals.sort.Given as goal

abbrev pub invariant-functions : goal.invariant-functions
invariant-functions l = by_bound_in (drop l.function-index l.self.functions.items) l.bound l.x ≡ by_bound_in l.self.functions.items l.bound l.x
