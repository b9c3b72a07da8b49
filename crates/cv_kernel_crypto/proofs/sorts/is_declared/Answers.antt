use Rattle.std.proofs.Common.{◌≡◌, false, ◌==◌, arith}
use Rattle.std.proofs.lemmas.Bool.Decides.{nat_tests}
use Rattle.cv_kernel_crypto.proofs.Declared.{parameter_declared, type_declared}
use Rattle.cv_kernel_crypto.proofs.sorts.is_declared.Goals as goal

pub returns-else-x-eq0 : goal.returns-else-x-eq0
returns-else-x-eq0 c = λ trees.
    let e : (c.args.x == 0) ≡ false = grind (arith, nat_tests) in
    type_declared trees c.args.decls.now.list c.args.x c.class-class.result c.args.role c.is_type_name.result c.in-OfType.is e c.class-class.ensures.class c.is_type_name.ensures

pub returns-in-OfParameter : goal.returns-in-OfParameter
returns-in-OfParameter c = λ trees. parameter_declared trees c.args.decls.now.list c.args.x c.class-class.result c.args.role c.is_parameter_name.result c.in-OfParameter.is c.class-class.ensures.class c.is_parameter_name.ensures
