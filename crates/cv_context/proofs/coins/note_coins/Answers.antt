use Rattle.std.proofs.Common.{◌||◌, drop, Some, None, ap, sym, ◌∙◌, arith}
use Rattle.std.specs.Prelude.{◌==◌}
use Rattle.cv_syntax.specs.NameSets.{is_in}
use Rattle.cv_syntax.specs.PoolTrees.{tree_at}
use Rattle.cv_scene.specs.Sights.{variable_of}
use Rattle.cv_scene.specs.Instances.{is_read_of}
use Rattle.cv_group.proofs.bodies.Sets.{name_added, or_more, or_nothing}
use Rattle.cv_context.specs.Roles.{is_read_in}
use Rattle.cv_context.proofs.Drawn.{any_past, read_step}
use Rattle.cv_context.proofs.coins.note_coins.Goals as goal

pub terms-preserved-in_default : goal.terms-preserved-in_default
terms-preserved-in_default c =
    let trees = c.args.pool.now.trees in
    let ms = c.args.terms.now in
    let o = sym c.in_default.is ∙ c.variable_of.ensures in
    record { same = λ y. ap (λ b. is_in c.terms.coins y || b) (sym (read_step trees ms c.terms.k _ None y (omega arith) o)) ∙ c.terms.invariant.same y }

pub terms-preserved : goal.terms-preserved
terms-preserved c =
    let trees = c.args.pool.now.trees in
    let ms = c.args.terms.now in
    let o = sym c.in-Some.is ∙ c.variable_of.ensures in
    record { same = λ y. or_more _ _ (is_read_in trees (drop c.terms.k ms) y) (c.in-Some.y == y) _ (name_added c.terms.coins c.insert.new.self c.in-Some.y c.in_ok-insert.ensures.updates y) (read_step trees ms c.terms.k _ (Some c.in-Some.y) y (omega arith) o) ∙ c.terms.invariant.same y }

pub returns : goal.returns
returns c = λ y. or_nothing _ _ (any_past (λ m. is_read_of y (variable_of (tree_at c.args.pool.now.trees m))) c.args.terms.now c.terms.k (omega arith)) ∙ c.terms.invariant.same y
