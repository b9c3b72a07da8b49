use Rattle.std.proofs.Common.{◌≡◌, ◌<◌, ◌∷◌, List, ap, get_or, length, map, refl, ◌∙◌, arith}
use Rattle.std.proofs.lemmas.Bool.Decides.{nat_tests}
use Rattle.std.proofs.lemmas.Result.{IfOk-weaker}
use Rattle.cv_syntax.specs.Postorder.{joined}
use Rattle.cv_syntax_trees.specs.declared.head.Head.TheVariants as head
use Rattle.cv_meaning.specs.contexts.Inlined.{Own, Scope, index_terms}
use Rattle.cv_inline_sites.specs.branches.Moves.{closed_branch}
use Rattle.cv_inline.specs.terms.Callers.{caller_in}
use Rattle.cv_inline.specs.terms.Drawings.{drawn_in}
use Rattle.cv_inline_sites.specs.listing.Callings.{callers_in}
use Rattle.cv_inline_walk.specs.declared.pieces.choices.Choice.{Choice}
use Rattle.cv_inline_walk.specs.pieces.Choices.{choice_in}
use Rattle.cv_inline_walk.specs.pieces.Calls.{body_in, branch_in, find_in}
use Rattle.cv_inline_sites.specs.pairs.Scopes.{scope_at}
use Rattle.cv_inline_walk.specs.pieces.Pieces.{Adds, AddsNodes, AddsResult, closed_if}
use Rattle.cv_inline_walk.proofs.pieces.ByHead.{find_is, if_with_one_body, if_without_bodies, result_is, without_node}
use Rattle.cv_inline_walk.proofs.pieces.Choosing.{site_there}
use Rattle.cv_inline_walk.proofs.pieces.Whole.{as_result, bound, branch_of_parts, branches_more, let_body, new_body, no_branches, nothing_there, same_tree, some_branches, two_bodies}
use Rattle.cv_inline_walk.proofs.pieces.bodies.+body.Goals as goal

pub body-returns-in_default : goal.body-returns-in_default
body-returns-in_default t c =
    let trees = c.args.pool.now.trees in
    let d = drawn_in c.args.drawn.now in
    let cs = c.args.callings.now in
    let site = c.args.caller.now in
    let Σ : Scope = scope_at site c.args.scope.now in
    IfOk-weaker c.add_result.result (λ _. AddsResult c.args.scope.now c.args.root.root c.args.pieces.now.items c.add_result.new.pieces.items) (λ _. Adds trees d cs site c.args.pieces.now.items c.add_result.new.pieces.items (λ k ts. body_in trees d cs site Σ c.args.root k ∷ ts))
    (λ _ e. as_result trees d cs site c.args.scope.now c.args.root c.args.pieces.now.items c.add_result.new.pieces.items c.requires.root.live (λ k. without_node d (callers_in trees cs) (caller_in trees site) Σ k trees c.args.root c.in_default.ensures.none) e)
    c.add_result.ensures

pub body-returns-in_default-head : goal.body-returns-in_default-head
body-returns-in_default-head t c =
    let trees = c.args.pool.now.trees in
    let d = drawn_in c.args.drawn.now in
    let cs = c.args.callings.now in
    let site = c.args.caller.now in
    let Σ : Scope = scope_at site c.args.scope.now in
    let new = c.add_result-in_default-head.new.pieces.items in
    IfOk-weaker c.add_result-in_default-head.result (λ _. AddsResult c.args.scope.now c.args.root.root c.args.pieces.now.items new) (λ _. Adds trees d cs site c.args.pieces.now.items new (λ k ts. body_in trees d cs site Σ c.args.root k ∷ ts))
    (λ _ e. as_result trees d cs site c.args.scope.now c.args.root c.args.pieces.now.items new c.requires.root.live (λ k. result_is d (callers_in trees cs) (caller_in trees site) Σ k trees c.args.root c.in-Some.node c.in-Some.ensures.node c.in_default-head.not-New c.in_default-head.not-Let c.in_default-head.not-If c.in_default-head.not-Find) e)
    c.add_result-in_default-head.ensures

pub body-returns-in_ok-nothing-in-New : goal.body-returns-in_ok-nothing-in-New
body-returns-in_ok-nothing-in-New t c =
    let trees = c.args.pool.now.trees in
    let d = drawn_in c.args.drawn.now in
    let cs = c.args.callings.now in
    let site = c.args.caller.now in
    let Σ : Scope = scope_at site c.args.scope.now in
    let node = c.in-Some.node in
    let new = c.bound_body.new.pieces.items in
    IfOk-weaker c.bound_body.result (λ _. Adds trees d cs site c.nothing.new.pieces.items new (λ k ts. joined (head.New c.variable.result c.in-New.t) (body_in trees d cs site ((c.in-New.z, Own) ∷ Σ) node.second k ∷ ts))) (λ _. Adds trees d cs site c.args.pieces.now.items new (λ k ts. body_in trees d cs site Σ c.args.root k ∷ ts))
    (λ _ e. new_body trees d cs site Σ c.args.root node c.in-Some.ensures.node c.args.pieces.now.items c.nothing.new.pieces.items new c.in-New.z c.in-New.t c.variable.result c.in-New.is c.variable.ensures c.in_ok-nothing-in-New.ensures e)
    c.bound_body.ensures

pub body-returns-in_ok-add_term-in-Let : goal.body-returns-in_ok-add_term-in-Let
body-returns-in_ok-add_term-in-Let t c =
    let trees = c.args.pool.now.trees in
    let d = drawn_in c.args.drawn.now in
    let cs = c.args.callings.now in
    let site = c.args.caller.now in
    let Σ : Scope = scope_at site c.args.scope.now in
    let node = c.in-Some.node in
    let new = c.bound_body-in-Let.new.pieces.items in
    IfOk-weaker c.bound_body-in-Let.result (λ _. Adds trees d cs site c.add_term.new.pieces.items new (λ k ts. joined (head.Let c.variable-in-Let.result c.in-Let.t) (body_in trees d cs site ((c.in-Let.z, Own) ∷ Σ) node.second k ∷ ts))) (λ _. Adds trees d cs site c.args.pieces.now.items new (λ k ts. body_in trees d cs site Σ c.args.root k ∷ ts))
    (λ _ e. let_body trees d cs site Σ c.args.root node c.in-Some.ensures.node c.args.pieces.now.items c.add_term.new.pieces.items new c.in-Let.z c.in-Let.t c.variable-in-Let.result c.in-Let.is c.variable-in-Let.ensures (c.in_ok-add_term-in-Let.ensures trees d cs site c.in-Some.ensures.node.first.within.live) e)
    c.bound_body-in-Let.ensures

pub body-returns-in-Find : goal.body-returns-in-Find
body-returns-in-Find t c =
    let trees = c.args.pool.now.trees in
    let d = drawn_in c.args.drawn.now in
    let cs = c.args.callings.now in
    let site = c.args.caller.now in
    let Σ : Scope = scope_at site c.args.scope.now in
    let node = c.in-Some.node in
    let new = c.find_body.new.pieces.items in
    IfOk-weaker c.find_body.result (λ _. Adds trees d cs site c.args.pieces.now.items new (λ k ts. find_in trees d cs site Σ c.args.root.place node.first node.second k ∷ ts)) (λ _. Adds trees d cs site c.args.pieces.now.items new (λ k ts. body_in trees d cs site Σ c.args.root k ∷ ts))
    (λ _ e. same_tree trees d cs site c.args.pieces.now.items new (find_in trees d cs site Σ c.args.root.place node.first node.second) (body_in trees d cs site Σ c.args.root) (λ k. find_is d (callers_in trees cs) (caller_in trees site) Σ k trees c.args.root node c.in-Find.field-0 c.in-Some.ensures.node c.in-Find.is) e)
    c.find_body.ensures

pub bound_body-returns : goal.bound_body-returns
bound_body-returns t c =
    let trees = c.args.pool.now.trees in
    let d = drawn_in c.args.drawn.now in
    let cs = c.args.callings.now in
    let site = c.args.caller.now in
    let Σ : Scope = scope_at site c.args.scope.now in
    let Τ : Scope = scope_at site c.as_slice-below.result.now in
    let named : Τ ≡ (c.args.name, Own) ∷ Σ = ap (scope_at site) c.as_slice-below.ensures.value ∙ c.in_ok-inner.ensures (index_terms site.replications.items) in
    let mid = c.body.new.pieces.items in
    let new = c.put.new.pieces.items in
    IfOk-weaker c.put.result (λ _. AddsNodes mid new (joined c.args.head)) (λ _. Adds trees d cs site c.args.pieces.now.items new (λ k ts. joined c.args.head (body_in trees d cs site ((c.args.name, Own) ∷ Σ) c.args.root k ∷ ts)))
    (λ _ e. bound trees d cs site c.args.pieces.now.items mid new Σ Τ c.args.name c.args.root c.args.head named c.in_ok-body.ensures e)
    c.put.ensures

pub branch-returns : goal.branch-returns
branch-returns t c =
    let trees = c.args.pool.now.trees in
    let d = drawn_in c.args.drawn.now in
    let cs = c.args.callings.now in
    let site = c.args.caller.now in
    let Σ : Scope = scope_at site c.args.scope.now in
    let q = c.args.choice in
    let s = c.index-callings-choice.result in
    let there = site_there cs q.other s s c.requires.choice.site c.index-callings-choice.is in
    let one = c.add_front.new.pieces.items in
    let two = c.body.new.pieces.items in
    let new = c.end_branch.new.pieces.items in
    IfOk-weaker c.end_branch.result (λ _. AddsNodes two new closed_branch) (λ _. Adds trees d cs site c.args.pieces.now.items new (λ k ts. branch_in trees d cs site Σ c.args.place k q ∷ ts))
    (λ _ e. branch_of_parts trees d cs site Σ c.args.place q s (record { place = q.pair.place; root = q.pair.body }) c.in_ok-inner.inner.items c.as_slice-within.result.now c.as_slice-within.result.now (get_or cs q.other s) c.args.pieces.now.items one two new c.as_slice-within.ensures.value c.as_slice-within.ensures.value there c.index-callings-choice.is refl (c.in_ok-inner.ensures trees) (c.in_ok-add_front.ensures trees d cs site s c.requires.choice.site there c.requires.choice.pair.cells c.requires.choice.pair.condition) c.in_ok-body.ensures e)
    c.end_branch.ensures

pub branches-branches-preserved : goal.branches-branches-preserved
branches-branches-preserved t c =
    let trees = c.args.pool.now.trees in
    let d = drawn_in c.args.drawn.now in
    let cs = c.args.callings.now in
    let site = c.args.caller.now in
    let Σ : Scope = scope_at site c.args.scope.now in
    branches_more trees d cs site (branch_in trees d cs site Σ c.args.place) c.args.choices.now c.branches.choice-index _ c.args.pieces.now.items c.branches.pieces.items c.branch-alloc.new.pieces.items c.branches-test.true c.branches.invariant c.in_ok-branch.ensures

pub find_body-returns-then-is_empty : goal.find_body-returns-then-is_empty
find_body-returns-then-is_empty t c =
    let trees = c.args.pool.now.trees in
    let d = drawn_in c.args.drawn.now in
    let cs = c.args.callings.now in
    let site = c.args.caller.now in
    let Σ : Scope = scope_at site c.args.scope.now in
    let new = c.body.new.pieces.items in
    let found = c.in_ok-found.found in
    let none : length found.items ≡ 0 = grind (arith, nat_tests, c.if-is_empty.ensures, found.ok.0) in
    IfOk-weaker c.body.result (λ _. Adds trees d cs site c.args.pieces.now.items new (λ k ts. body_in trees d cs site Σ c.args.otherwise k ∷ ts)) (λ _. Adds trees d cs site c.args.pieces.now.items new (λ k ts. find_in trees d cs site Σ c.args.place c.args.list c.args.otherwise k ∷ ts))
    (λ _ e. no_branches trees d cs site Σ c.args.place c.args.list c.args.otherwise found.items c.in_ok-found.ensures.choices c.args.pieces.now.items new (nothing_there found.items none) e)
    c.body.ensures

pub find_body-returns : goal.find_body-returns
find_body-returns t c =
    let trees = c.args.pool.now.trees in
    let d = drawn_in c.args.drawn.now in
    let cs = c.args.callings.now in
    let site = c.args.caller.now in
    let Σ : Scope = scope_at site c.args.scope.now in
    let new = c.put.new.pieces.items in
    let found = c.in_ok-found.found in
    let choices = c.as_slice-choices.result.now in
    let same_length = ap (λ (l : List Choice). length l) c.as_slice-choices.ensures.value in
    let some : 0 < length choices = grind (arith, nat_tests, c.if-is_empty.ensures, found.ok.0, same_length) in
    let many : c.len.result ≡ length choices = omega (arith, c.len.ensures, found.ok.0, same_length) in
    IfOk-weaker c.put.result (λ _. AddsNodes c.body-2.new.pieces.items new (joined (head.Find c.label.result))) (λ _. Adds trees d cs site c.args.pieces.now.items new (λ k ts. find_in trees d cs site Σ c.args.place c.args.list c.args.otherwise k ∷ ts))
    (λ _ e. some_branches trees d cs site Σ c.args.place c.args.list c.args.otherwise choices (ap (map (choice_in trees cs)) c.as_slice-choices.ensures.value ∙ c.in_ok-found.ensures.choices) c.args.pieces.now.items c.branches.new.pieces.items c.end_list.new.pieces.items c.body-2.new.pieces.items new c.len.result c.label.result some many c.label.ensures c.in_ok-branches.ensures c.in_ok-end_list.ensures c.in_ok-body.ensures e)
    c.put.ensures

pub if_body-returns-in_default : goal.if_body-returns-in_default
if_body-returns-in_default t c =
    let trees = c.args.pool.now.trees in
    let d = drawn_in c.args.drawn.now in
    let cs = c.args.callings.now in
    let site = c.args.caller.now in
    let Σ : Scope = scope_at site c.args.scope.now in
    let new = c.add_result.new.pieces.items in
    IfOk-weaker c.add_result.result (λ _. AddsResult c.args.scope.now c.args.root.root c.args.pieces.now.items new) (λ _. Adds trees d cs site c.args.pieces.now.items new (λ k ts. body_in trees d cs site Σ c.args.root k ∷ ts))
    (λ _ e. as_result trees d cs site c.args.scope.now c.args.root c.args.pieces.now.items new c.requires.root.live (λ k. if_without_bodies d (callers_in trees cs) (caller_in trees site) Σ k trees c.args.root c.args.node c.requires.node c.requires.head c.in_default.ensures.none) e)
    c.add_result.ensures

pub if_body-returns-in_default-node_at : goal.if_body-returns-in_default-node_at
if_body-returns-in_default-node_at t c =
    let trees = c.args.pool.now.trees in
    let d = drawn_in c.args.drawn.now in
    let cs = c.args.callings.now in
    let site = c.args.caller.now in
    let Σ : Scope = scope_at site c.args.scope.now in
    let new = c.add_result-in_default-node_at.new.pieces.items in
    IfOk-weaker c.add_result-in_default-node_at.result (λ _. AddsResult c.args.scope.now c.args.root.root c.args.pieces.now.items new) (λ _. Adds trees d cs site c.args.pieces.now.items new (λ k ts. body_in trees d cs site Σ c.args.root k ∷ ts))
    (λ _ e. as_result trees d cs site c.args.scope.now c.args.root c.args.pieces.now.items new c.requires.root.live (λ k. if_with_one_body d (callers_in trees cs) (caller_in trees site) Σ k trees c.args.root c.args.node c.in-Some.then c.requires.node c.requires.head c.in-Some.ensures.node c.in_default-node_at.ensures.none) e)
    c.add_result-in_default-node_at.ensures

pub if_body-returns : goal.if_body-returns
if_body-returns t c =
    let trees = c.args.pool.now.trees in
    let d = drawn_in c.args.drawn.now in
    let cs = c.args.callings.now in
    let site = c.args.caller.now in
    let Σ : Scope = scope_at site c.args.scope.now in
    let new = c.end_if.new.pieces.items in
    let three = c.body-2.new.pieces.items in
    IfOk-weaker c.end_if.result (λ _. AddsNodes three new closed_if) (λ _. Adds trees d cs site c.args.pieces.now.items new (λ k ts. body_in trees d cs site Σ c.args.root k ∷ ts))
    (λ _ e. two_bodies trees d cs site Σ c.args.root c.args.node c.requires.node c.args.pieces.now.items c.add_term.new.pieces.items c.body.new.pieces.items three new c.in-Some.then c.in-Some-node_at.other c.requires.head c.in-Some.ensures.node c.in-Some-node_at.ensures.node (c.in_ok-add_term.ensures trees d cs site c.requires.node.first.within.live) c.in_ok-body.ensures c.in_ok-body-2.ensures e)
    c.end_if.ensures
