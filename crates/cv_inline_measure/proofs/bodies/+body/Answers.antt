use Rattle.std.proofs.Common.{ℕ, ◌≡◌, ◌∷◌, refl, ap, ◌∙◌}
use Rattle.std.specs.Prelude.{flat_map}
use Rattle.std.proofs.lemmas.Result.{IfOk-weaker}
use Rattle.cv_syntax.specs.PoolTrees.{tree_at}
use Rattle.cv_meaning.specs.contexts.Inlined.{Own, index_terms}
use Rattle.cv_inline_laws.specs.extents.Extents.{Extent, of_result, under}
use Rattle.cv_inline.specs.terms.Drawings.{drawn_in}
use Rattle.cv_inline_measure.specs.Counts.{IsTold}
use Rattle.cv_syntax.specs.limits.Limits.{told}
use Rattle.cv_inline_sites.specs.pairs.Scopes.{scope_at}
use Rattle.cv_inline_measure.specs.Settings.{body_in, branches_in, caller_at, callers_at, find_in, front_in, measure_of, term_in, trees_of}
use Rattle.cv_inline_measure.proofs.Branching.{branches_by_pairs, of_pair, pair_more, pairs_whole, site_more, sites_whole}
use Rattle.cv_inline_measure.proofs.ByHead.{find_is, if_is, if_with_one_body, if_without_bodies, let_is, new_is, result_is, without_node}
use Rattle.cv_inline_measure.proofs.Scoped.{bound_told, branch_told, told_same}
use Rattle.cv_inline_measure.proofs.bodies.+body.Goals as goal

pub body-returns-in_default : goal.body-returns-in_default
body-returns-in_default t c =
    let s = c.args.setting.now in
    let k = c.args.caller.now in
    let Σ = scope_at k c.args.scope.now in
    IfOk-weaker c.result_extent.result (λ a. IsTold a (of_result (measure_of s) (term_in s k Σ c.args.root.root))) (λ a. IsTold a (body_in s k Σ c.args.root))
    (λ a h. told_same a _ _ (without_node (measure_of s) (drawn_in s.drawn.now) (callers_at s) (caller_at s k) Σ (trees_of s) c.args.root c.in_default.ensures.none) h) c.result_extent.ensures

pub body-returns-in-New : goal.body-returns-in-New
body-returns-in-New t c =
    let s = c.args.setting.now in
    let k = c.args.caller.now in
    let Σ = scope_at k c.args.scope.now in
    IfOk-weaker c.bound_body.result (λ a. (n : ℕ) → 0 ≡ told n → IsTold a (under (measure_of s) 1 n (body_in s k ((c.in-New.z, Own) ∷ Σ) c.in-Some.node.second))) (λ a. IsTold a (body_in s k Σ c.args.root))
    (λ a h. told_same a _ _ (new_is (measure_of s) (drawn_in s.drawn.now) (callers_at s) (caller_at s k) Σ (trees_of s) c.args.root c.in-Some.node c.in-New.z _ c.in-Some.ensures.node c.in-New.is) (h 0 refl)) c.bound_body.ensures

pub body-returns-in_ok-term-in-Let : goal.body-returns-in_ok-term-in-Let
body-returns-in_ok-term-in-Let t c =
    let s = c.args.setting.now in
    let k = c.args.caller.now in
    let Σ = scope_at k c.args.scope.now in
    IfOk-weaker c.bound_body-in-Let.result (λ a. (n : ℕ) → c.in_ok-term-in-Let.term ≡ told n → IsTold a (under (measure_of s) 1 n (body_in s k ((c.in-Let.z, Own) ∷ Σ) c.in-Some.node.second))) (λ a. IsTold a (body_in s k Σ c.args.root))
    (λ a h. told_same a _ _ (let_is (measure_of s) (drawn_in s.drawn.now) (callers_at s) (caller_at s k) Σ (trees_of s) c.args.root c.in-Some.node c.in-Let.z _ c.in-Some.ensures.node c.in-Let.is) (h _ c.in_ok-term-in-Let.ensures)) c.bound_body-in-Let.ensures

pub body-returns-in-Find : goal.body-returns-in-Find
body-returns-in-Find t c =
    let s = c.args.setting.now in
    let k = c.args.caller.now in
    let Σ = scope_at k c.args.scope.now in
    IfOk-weaker c.find.result (λ a. IsTold a (find_in s k Σ c.args.root.place c.in-Some.node.first c.in-Some.node.second)) (λ a. IsTold a (body_in s k Σ c.args.root))
    (λ a h. told_same a _ _ (find_is (measure_of s) (drawn_in s.drawn.now) (callers_at s) (caller_at s k) Σ (trees_of s) c.args.root c.in-Some.node _ c.in-Some.ensures.node c.in-Find.is) h) c.find.ensures

pub body-returns-in_default-head : goal.body-returns-in_default-head
body-returns-in_default-head t c =
    let s = c.args.setting.now in
    let k = c.args.caller.now in
    let Σ = scope_at k c.args.scope.now in
    IfOk-weaker c.result_extent-in_default-head.result (λ a. IsTold a (of_result (measure_of s) (term_in s k Σ c.args.root.root))) (λ a. IsTold a (body_in s k Σ c.args.root))
    (λ a h. told_same a _ _ (result_is (measure_of s) (drawn_in s.drawn.now) (callers_at s) (caller_at s k) Σ (trees_of s) c.args.root c.in-Some.node c.in-Some.ensures.node c.in_default-head.not-New c.in_default-head.not-Let c.in_default-head.not-If c.in_default-head.not-Find) h)
    c.result_extent-in_default-head.ensures

pub bound_body-returns : goal.bound_body-returns
bound_body-returns t c =
    let s = c.args.setting.now in
    let k = c.args.caller.now in
    let Σ = scope_at k c.args.scope.now in
    bound_told s k (scope_at k c.as_slice.result.now) ((c.args.name, Own) ∷ Σ) c.args.root c.args.parts c.in_ok-inside.inside c.under.result (ap (scope_at k) c.as_slice.ensures.value ∙ c.in_ok-inner.ensures (index_terms k.replications.items)) c.in_ok-inside.ensures c.under.ensures

pub branch-returns : goal.branch-returns
branch-returns t c =
    let s = c.args.setting.now in
    let k = c.args.caller.now in
    let Σ = scope_at k c.args.scope.now in
    let value = ap (scope_at k) c.as_slice.ensures.value in
    let value2 = ap (scope_at k) c.as_slice-2.ensures.value in
    branch_told s k Σ (scope_at k c.in_ok-inner.inner.items) c.args.place c.args.other.now c.args.pair c.in_ok-front.front c.in_ok-inside.inside c.under.result (c.in_ok-inner.ensures s.pool.now.trees)
    (c.in_ok-front.ensures ∙ ap (λ Υ. told (front_in s k Υ c.args.place c.args.other.now c.args.pair)) value)
    (told_same c.in_ok-inside.inside _ _ (ap (λ Υ. body_in s k Υ (record { place = c.args.pair.place; root = c.args.pair.body })) value2) c.in_ok-inside.ensures) c.under.ensures

pub find-sites-init : goal.find-sites-init
find-sites-init t c = λ o h. h

pub find-sites-preserved : goal.find-sites-preserved
find-sites-preserved t c = λ o h.
    let s = c.args.setting.now in
    let k = c.args.caller.now in
    let Σ = scope_at k c.args.scope.now in
    site_more s _ (λ b. branches_in s k Σ c.args.place b c.args.list) (trees_of s) s.callings.now c.sites.calling-index _ c.calling-item.result o c.sites-test.true c.calling-item.is (c.in_ok-found.ensures _ o (c.sites.invariant o h))

pub find-returns : goal.find-returns
find-returns t c =
    let s = c.args.setting.now in
    let k = c.args.caller.now in
    let Σ = scope_at k c.args.scope.now in
    let o : Extent = body_in s k Σ c.args.otherwise in
    let start = c.sites.invariant o (record { any = refl; all = c.in_ok-other.ensures }) in
    c.find_extent.ensures (flat_map (λ b. branches_in s k Σ c.args.place b c.args.list) (callers_at s)) o (sites_whole s c.sites.found (λ b. branches_in s k Σ c.args.place b c.args.list) (trees_of s) s.callings.now c.sites.calling-index o c.sites-test.false start)

pub site_branches-pairs-preserved : goal.site_branches-pairs-preserved
site_branches-pairs-preserved t c = λ es o h.
    let s = c.args.setting.now in
    let k = c.args.caller.now in
    let Σ = scope_at k c.args.scope.now in
    let g = of_pair (measure_of s) (drawn_in s.drawn.now) (callers_at s) (caller_at s k) Σ c.args.place (caller_at s c.args.other.now) in
    pair_more s c.with_branch-all.result g (trees_of s) c.as_slice-pair-items.result.now c.pairs.pair-index _ es o c.pairs-test.true (c.with_branch-all.ensures _ o _ (c.pairs.invariant es o h) c.in_ok-added.ensures)

pub site_branches-returns : goal.site_branches-returns
site_branches-returns t c = λ es o h.
    let s = c.args.setting.now in
    let k = c.args.caller.now in
    let Σ = scope_at k c.args.scope.now in
    let μ = measure_of s in
    let g = of_pair μ (drawn_in s.drawn.now) (callers_at s) (caller_at s k) Σ c.args.place (caller_at s c.args.other.now) in
    pairs_whole s c.pairs.all g (trees_of s) c.as_slice-pair-items.result.now c.in_ok-pairs.pairs.items c.pairs.pair-index es _ o _ c.pairs-test.false c.as_slice-pair-items.ensures.value c.in_ok-pairs.ensures.pairs
    (branches_by_pairs μ (drawn_in s.drawn.now) (callers_at s) (caller_at s k) Σ c.args.place (caller_at s c.args.other.now) 0 c.args.list.place (tree_at (trees_of s) c.args.list.root)) (c.pairs.invariant es o h)

pub test-returns-in_default : goal.test-returns-in_default
test-returns-in_default t c =
    let s = c.args.setting.now in
    let k = c.args.caller.now in
    let Σ = scope_at k c.args.scope.now in
    IfOk-weaker c.result_extent.result (λ a. IsTold a (of_result (measure_of s) (term_in s k Σ c.args.root.root))) (λ a. IsTold a (body_in s k Σ c.args.root))
    (λ a h. told_same a _ _ (if_without_bodies (measure_of s) (drawn_in s.drawn.now) (callers_at s) (caller_at s k) Σ (trees_of s) c.args.root c.args.node c.requires.node c.requires.head c.in_default.ensures.none) h) c.result_extent.ensures

pub test-returns-in_default-node_at : goal.test-returns-in_default-node_at
test-returns-in_default-node_at t c =
    let s = c.args.setting.now in
    let k = c.args.caller.now in
    let Σ = scope_at k c.args.scope.now in
    IfOk-weaker c.result_extent-in_default-node_at.result (λ a. IsTold a (of_result (measure_of s) (term_in s k Σ c.args.root.root))) (λ a. IsTold a (body_in s k Σ c.args.root))
    (λ a h. told_same a _ _ (if_with_one_body (measure_of s) (drawn_in s.drawn.now) (callers_at s) (caller_at s k) Σ (trees_of s) c.args.root c.args.node c.in-Some.then c.requires.node c.requires.head c.in-Some.ensures.node c.in_default-node_at.ensures.none) h)
    c.result_extent-in_default-node_at.ensures

pub test-returns : goal.test-returns
test-returns t c =
    let s = c.args.setting.now in
    let k = c.args.caller.now in
    let Σ = scope_at k c.args.scope.now in
    told_same c.under.result _ _ (if_is (measure_of s) (drawn_in s.drawn.now) (callers_at s) (caller_at s k) Σ (trees_of s) c.args.root c.args.node c.in-Some.then c.in-Some-node_at.other c.requires.node c.requires.head c.in-Some.ensures.node c.in-Some-node_at.ensures.node)
    (c.under.ensures _ _ c.in_ok-condition.ensures (c.beside.ensures _ _ c.in_ok-first.ensures c.in_ok-second.ensures))
