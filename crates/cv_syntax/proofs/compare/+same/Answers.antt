use Rattle.std.proofs.Common.{◌≡◌, true, Some, ap, sym, ◌∙◌, subst, eqb-true}
use Rattle.cv_syntax_trees.specs.Tree.{same_tree}
use Rattle.cv_syntax.specs.PoolTrees.{tree_at}
use Rattle.cv_syntax_trees.proofs.Equality.{same_tree_self}
use Rattle.cv_syntax.proofs.compare.+same.Goals as goal

pub returns-then-eq : goal.returns-then-eq
returns-then-eq t c =
    let trees = c.args.pool.now.trees in
    let p = tree_at trees c.chain.p in
    let e = eqb-true c.in-Some.m.0 c.in-Some-q.n.0 (sym c.if-eq.ensures) in
    let one : p ≡ tree_at trees c.chain.q = ap (tree_at trees) c.in-Some.is ∙ ((λ i. tree_at trees (Some (record { 0 = e i }))) ∙ sym (ap (tree_at trees) c.in-Some-q.is)) in
    sym (subst (λ u. same_tree p u ≡ true) one (same_tree_self p)) ∙ c.chain.invariant.same
