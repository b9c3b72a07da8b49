use Rattle.std.proofs.Common.{◌||◌, drop, ap, sym, ◌∙◌, arith, Some, None}
use Rattle.cv_group.proofs.bodies.Sets as set
use Rattle.cv_group.proofs.Lists as list
use Rattle.std.specs.Prelude.{◌==◌}
use Rattle.cv_syntax.specs.NameSets.{is_in}
use Rattle.cv_syntax.specs.Declarations.{declarations}
use Rattle.std.proofs.Math.Path.{fun_ext}
use Rattle.cv_group.specs.Tables.{function_in}
use Rattle.cv_group_rules.specs.Symbols.{is_function_of}
use Rattle.cv_group.proofs.symbols.functions_of.Goals as goal

pub decls-preserved-in_default : goal.decls-preserved-in_default
decls-preserved-in_default c =
    let o = c.function.ensures ∙ ap function_in c.get.ensures in
    record { same = λ trees x. ap (λ b. is_in c.decls.functions x || b) (sym (list.functions_step trees c.args.decls.now.list c.decls.k None (omega arith) (sym c.in_default.is ∙ o) x)) ∙ c.decls.invariant.same trees x }

pub decls-preserved : goal.decls-preserved
decls-preserved c =
    let o = c.function.ensures ∙ ap function_in c.get.ensures in
    record { same = λ trees x. set.or_more _ _ (is_function_of (declarations trees (drop c.decls.k c.args.decls.now.list)) x) (c.in-Some.f == x) _ (set.name_added c.decls.functions c.insert.new.self c.in-Some.f c.in_ok-insert.ensures.updates x) (list.functions_step trees c.args.decls.now.list c.decls.k (Some c.in-Some.f) (omega arith) (sym c.in-Some.is ∙ o) x) ∙ c.decls.invariant.same trees x }

pub returns : goal.returns
returns c = λ trees. fun_ext (λ x. set.or_nothing _ _ (list.functions_past trees c.args.decls.now.list c.decls.k x (omega arith)) ∙ c.decls.invariant.same trees x)
