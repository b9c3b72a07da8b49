use Rattle.std.proofs.Common.{◌||◌, length, drop, ap, sym, ◌∙◌, arith, Some, None}
use Rattle.cv_group.proofs.bodies.Sets as set
use Rattle.cv_group.proofs.Lists as list
use Rattle.std.specs.Prelude.{◌==◌}
use Rattle.cv_syntax.specs.NameSets.{is_in}
use Rattle.cv_syntax.specs.Declarations.{declarations}
use Rattle.cv_meaning.specs.Interpretation.{is_constant_of}
use Rattle.std.proofs.Math.Path.{fun_ext}
use Rattle.cv_group.specs.Tables.{constant_in}
use Rattle.cv_group.proofs.symbols.constants_of.Goals as goal

pub constant-requires : goal.constant-requires
constant-requires c = list.live_at (length c.args.pool.now.trees) c.args.decls.now.list c.decls.k _ c.requires c.get.ensures

pub decls-preserved-in_default : goal.decls-preserved-in_default
decls-preserved-in_default c =
    let trees = c.args.pool.now.trees in
    let o = c.constant.ensures ∙ ap (constant_in trees) c.get.ensures in
    record { same = λ x. ap (λ b. is_in c.decls.constants x || b) (sym (list.constants_step trees c.args.decls.now.list c.decls.k None (omega arith) (sym c.in_default.is ∙ o) x)) ∙ c.decls.invariant.same x }

pub decls-preserved : goal.decls-preserved
decls-preserved c =
    let trees = c.args.pool.now.trees in
    let o = c.constant.ensures ∙ ap (constant_in trees) c.get.ensures in
    record { same = λ x. set.or_more _ _ (is_constant_of (declarations trees (drop c.decls.k c.args.decls.now.list)) x) (c.in-Some.x == x) _ (set.name_added c.decls.constants c.insert.new.self c.in-Some.x c.in_ok-insert.ensures.updates x) (list.constants_step trees c.args.decls.now.list c.decls.k (Some c.in-Some.x) (omega arith) (sym c.in-Some.is ∙ o) x) ∙ c.decls.invariant.same x }

pub returns : goal.returns
returns c = fun_ext (λ x. set.or_nothing _ _ (list.constants_past c.args.pool.now.trees c.args.decls.now.list c.decls.k x (omega arith)) ∙ c.decls.invariant.same x)
