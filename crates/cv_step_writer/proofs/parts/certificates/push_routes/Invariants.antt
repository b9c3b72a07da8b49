use Rattle.std.proofs.Common.{◌≡◌, ◌++◌, drop}
use Rattle.cv_syntax.proofs.parts.Making.{made}
use Rattle.cv_step_writer.specs.Certificates.{route_tree}
use Rattle.cv_step_writer.proofs.parts.certificates.push_routes.Given as goal

abbrev pub invariant-items : goal.invariant-items
invariant-items l = l.makes.items ++ made (route_tree l.pool.trees) (drop l.k l.routes) ≡ l.fn.makes.items ++ made (route_tree l.pool.trees) l.routes
