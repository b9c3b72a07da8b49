use Rattle.std.proofs.Common.{◌≡◌, List, Some, None, sym, ap, subst, ◌∙◌, option_map}
use Rattle.std.specs.Prelude.{IfSome, if◌then◌else◌}
use Rattle.cv_syntax_trees.specs.Tree.{bound_names, chain, same_tree}
use Rattle.cv_syntax.specs.PoolTrees.{tree_at}
use Rattle.cv_scene.specs.lines.Given.{with_given}
use Rattle.cv_settling.specs.Instances.{seen_in}
use Rattle.cv_settling.specs.Putting.{names_of, put_in, terms_of}
use Rattle.cv_settling.specs.declared.terms.Given.{Given}
use Rattle.cv_settling.proofs.Matched.{instance_by_test, instance_fails}
use Rattle.cv_settling.proofs.matching.instance.Goals as goal

pub returns-in_default-clause-terms : goal.returns-in_default-clause-terms
returns-in_default-clause-terms c =
    let trees = c.args.table.now.pool.now.trees in
    λ s i.
    instance_fails s (seen_in trees c.args.equation.now) (tree_at trees (Some c.args.term))
    (sym (ap (option_map (λ gs. terms_of trees gs.items)) c.in_default.is) ∙ c.in_ok-terms.ensures.terms s i)

pub returns-then-is_put-clause-terms : goal.returns-then-is_put-clause-terms
returns-then-is_put-clause-terms c =
    let trees = c.args.table.now.pool.now.trees in
    let left = tree_at trees c.args.equation.now.left in
    let term = tree_at trees (Some c.args.term) in
    let given = c.in-Some.given in
    let names = subst (λ o. IfSome o (λ gs. names_of gs.items ≡ bound_names (tree_at trees c.args.equation.now.binders))) c.in-Some.is c.in_ok-terms.ensures.names in
    let told =
    c.is_put.ensures
    ∙ (ap (λ (gs : List Given). same_tree (put_in trees gs left) term) c.deref.ensures.value
    ∙ ap (λ xs. same_tree (with_given xs (chain (terms_of trees given.items)) left) term) names)
    in
    λ s i.
    ap (λ b. if b then Some (terms_of trees given.items) else None) (sym c.if-is_put.true)
    ∙ instance_by_test s (seen_in trees c.args.equation.now) term (terms_of trees given.items) c.is_put.result
    (sym (ap (option_map (λ gs. terms_of trees gs.items)) c.in-Some.is) ∙ c.in_ok-terms.ensures.terms s i) told

pub returns-then-is_put-clause-names : goal.returns-then-is_put-clause-names
returns-then-is_put-clause-names c =
    let trees = c.args.table.now.pool.now.trees in
    subst (λ o. IfSome o (λ gs. names_of gs.items ≡ bound_names (tree_at trees c.args.equation.now.binders))) c.in-Some.is c.in_ok-terms.ensures.names

pub returns-else-is_put-clause-terms : goal.returns-else-is_put-clause-terms
returns-else-is_put-clause-terms c =
    let trees = c.args.table.now.pool.now.trees in
    let left = tree_at trees c.args.equation.now.left in
    let term = tree_at trees (Some c.args.term) in
    let given = c.in-Some.given in
    let names = subst (λ o. IfSome o (λ gs. names_of gs.items ≡ bound_names (tree_at trees c.args.equation.now.binders))) c.in-Some.is c.in_ok-terms.ensures.names in
    let told =
    c.is_put.ensures
    ∙ (ap (λ (gs : List Given). same_tree (put_in trees gs left) term) c.deref.ensures.value
    ∙ ap (λ xs. same_tree (with_given xs (chain (terms_of trees given.items)) left) term) names)
    in
    λ s i.
    ap (λ b. if b then Some (terms_of trees given.items) else None) (sym c.if-is_put.false)
    ∙ instance_by_test s (seen_in trees c.args.equation.now) term (terms_of trees given.items) c.is_put.result
    (sym (ap (option_map (λ gs. terms_of trees gs.items)) c.in-Some.is) ∙ c.in_ok-terms.ensures.terms s i) told
