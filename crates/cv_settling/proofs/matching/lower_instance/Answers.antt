use Rattle.std.proofs.Common.{◌≡◌, ◌-◌, ◌^◌, List, Some, None, sym, ap, subst, ◌∙◌, arith, option_map}
use Rattle.std.specs.Prelude.{IfSome, if◌then◌else◌}
use Rattle.cv_syntax_trees.specs.Tree.{bound_names, chain, size}
use Rattle.cv_syntax.specs.PoolTrees.{tree_at}
use Rattle.cv_scene.specs.lines.Given.{with_given}
use Rattle.cv_settling_rules.specs.Measure.{large_equalities}
use Rattle.cv_settling.specs.Instances.{may_have, right_with, seen_in}
use Rattle.cv_settling.specs.Measured.{capped}
use Rattle.cv_settling.specs.Putting.{names_of, put_in, terms_of}
use Rattle.cv_settling.specs.declared.terms.Given.{Given}
use Rattle.cv_settling.proofs.Matched.{lower_by_test, lower_fails}
use Rattle.cv_settling.proofs.Measuring.{equalities_at_most, less_capped}
use Rattle.cv_settling.proofs.Rooted.{other_instance}
use Rattle.cv_settling.proofs.matching.lower_instance.Goals as goal

pub returns-then-not-may_have : goal.returns-then-not-may_have
returns-then-not-may_have c =
    let trees = c.args.table.now.pool.now.trees in
    λ s a b i m e.
    other_instance s (seen_in trees c.args.equation.now) (tree_at trees (Some c.args.term)) c.args.head a b e
    (sym (ap (λ r. may_have r c.args.head) c.requires) ∙ (sym c.may_have.ensures ∙ c.if-not-may_have.true))

pub returns-in_default : goal.returns-in_default
returns-in_default c =
    let trees = c.args.table.now.pool.now.trees in
    λ s a b i m e.
    lower_fails s (seen_in trees c.args.equation.now) (tree_at trees (Some c.args.term))
    (sym (ap (option_map (λ gs. terms_of trees gs.items)) c.in_default.is) ∙ c.in_ok-terms.ensures.terms s i)

pub returns-then-is_less : goal.returns-then-is_less
returns-then-is_less c =
    let trees = c.args.table.now.pool.now.trees in
    let right = tree_at trees c.args.equation.now.right in
    let term = tree_at trees (Some c.args.term) in
    let given = c.in-Some.given in
    let names = subst (λ o. IfSome o (λ gs. names_of gs.items ≡ bound_names (tree_at trees c.args.equation.now.binders))) c.in-Some.is c.in_ok-terms.ensures.names in
    let u = right_with (seen_in trees c.args.equation.now) (terms_of trees given.items) in
    let put : put_in trees c.deref.result.now right ≡ u =
    ap (λ (gs : List Given). put_in trees gs right) c.deref.ensures.value ∙ ap (λ xs. with_given xs (chain (terms_of trees given.items)) right) names
    in
    λ s a b i m e.
    ap (λ b. if b then Some (terms_of trees given.items) else None) (sym c.if-is_less.true)
    ∙ lower_by_test s (seen_in trees c.args.equation.now) term (terms_of trees given.items) c.is_less.result
    (sym (ap (option_map (λ gs. terms_of trees gs.items)) c.in-Some.is) ∙ c.in_ok-terms.ensures.terms s i)
    (c.is_less.ensures
    ∙ less_capped (2 ^ 64 - 1) (large_equalities s u) (size u) _ _ (large_equalities s term) (size term) _ _
    (c.measure_put-after.ensures.equations s i ∙ ap (λ v. capped (large_equalities s v)) put)
    (c.measure_put-after.ensures.nodes ∙ ap (λ v. capped (size v)) put)
    (c.measure_of-before.ensures.equations s i) c.measure_of-before.ensures.nodes
    (omega (arith, m.small, equalities_at_most s term)) (omega (arith, m.small)))

pub returns-else-is_less : goal.returns-else-is_less
returns-else-is_less c =
    let trees = c.args.table.now.pool.now.trees in
    let right = tree_at trees c.args.equation.now.right in
    let term = tree_at trees (Some c.args.term) in
    let given = c.in-Some.given in
    let names = subst (λ o. IfSome o (λ gs. names_of gs.items ≡ bound_names (tree_at trees c.args.equation.now.binders))) c.in-Some.is c.in_ok-terms.ensures.names in
    let u = right_with (seen_in trees c.args.equation.now) (terms_of trees given.items) in
    let put : put_in trees c.deref.result.now right ≡ u =
    ap (λ (gs : List Given). put_in trees gs right) c.deref.ensures.value ∙ ap (λ xs. with_given xs (chain (terms_of trees given.items)) right) names
    in
    λ s a b i m e.
    ap (λ b. if b then Some (terms_of trees given.items) else None) (sym c.if-is_less.false)
    ∙ lower_by_test s (seen_in trees c.args.equation.now) term (terms_of trees given.items) c.is_less.result
    (sym (ap (option_map (λ gs. terms_of trees gs.items)) c.in-Some.is) ∙ c.in_ok-terms.ensures.terms s i)
    (c.is_less.ensures
    ∙ less_capped (2 ^ 64 - 1) (large_equalities s u) (size u) _ _ (large_equalities s term) (size term) _ _
    (c.measure_put-after.ensures.equations s i ∙ ap (λ v. capped (large_equalities s v)) put)
    (c.measure_put-after.ensures.nodes ∙ ap (λ v. capped (size v)) put)
    (c.measure_of-before.ensures.equations s i) c.measure_of-before.ensures.nodes
    (omega (arith, m.small, equalities_at_most s term)) (omega (arith, m.small)))
