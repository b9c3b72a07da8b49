use Rattle.std.proofs.Common.{◌≡◌, ◌∷◌, ap, ◌∙◌}
use Rattle.std.proofs.lemmas.Result.{IfOk-weaker}
use Rattle.cv_syntax_trees.specs.declared.head.Head.TheVariants as head
use Rattle.cv_syntax.specs.Postorder.{joined}
use Rattle.cv_syntax_trees.specs.Tree.{Tree}
use Rattle.cv_syntax.specs.PoolTrees.{tree_at}
use Rattle.cv_meaning.specs.Correspondences.{typed_names}
use Rattle.cv_meaning.specs.contexts.Inlined.{Own, Scope, index_terms, inlined_call}
use Rattle.cv_inline.specs.terms.Callers.{caller_in}
use Rattle.cv_inline.specs.terms.Drawings.{drawn_in}
use Rattle.cv_inline_sites.specs.listing.Callings.{callers_in}
use Rattle.cv_inline_walk.specs.pieces.Calls.{body_in}
use Rattle.cv_inline_sites.specs.pairs.Scopes.{scope_at}
use Rattle.cv_inline_walk.specs.pieces.Pieces.{Adds, AddsNodes}
use Rattle.cv_inline_walk.proofs.pieces.Called.{call_argument, call_body}
use Rattle.cv_inline_walk.proofs.pieces.calls.+call.Goals as goal

pub returns-in_default : goal.returns-in_default
returns-in_default t c =
    let trees = c.args.pool.now.trees in
    let d = drawn_in c.args.drawn.now in
    let cs = c.args.callings.now in
    let site = c.args.caller.now in
    let Σ : Scope = scope_at site c.args.scope.now in
    let bs : Tree = tree_at trees c.args.binders in
    let ms : Tree = tree_at trees c.args.terms in
    let new = c.body.new.pieces.items in
    IfOk-weaker c.body.result (λ _. Adds trees d cs site c.args.pieces.now.items new (λ k ts. body_in trees d cs site Σ c.args.root k ∷ ts)) (λ _. Adds trees d cs site c.args.pieces.now.items new (λ k ts. inlined_call d (callers_in trees cs) (caller_in trees site) Σ (typed_names bs) ms (tree_at trees c.args.root.root) k ∷ ts))
    (λ _ e. call_body trees d cs site Σ bs ms c.args.root c.args.pieces.now.items new c.in_default.ensures.argument c.requires.start e)
    c.body.ensures

pub returns : goal.returns
returns t c =
    let trees = c.args.pool.now.trees in
    let d = drawn_in c.args.drawn.now in
    let cs = c.args.callings.now in
    let site = c.args.caller.now in
    let Σ : Scope = scope_at site c.args.scope.now in
    let bs : Tree = tree_at trees c.args.binders in
    let ms : Tree = tree_at trees c.args.terms in
    let f = c.in-Some.first in
    let Τ : Scope = scope_at site c.as_slice.result.now in
    let named : Τ ≡ (f.name, Own) ∷ Σ = ap (scope_at site) c.as_slice.ensures.value ∙ c.in_ok-inner.ensures (index_terms site.replications.items) in
    let two = c.call.new.pieces.items in
    let new = c.put.new.pieces.items in
    IfOk-weaker c.put.result (λ _. AddsNodes two new (joined (head.Let c.variable-variable.result f.of))) (λ _. Adds trees d cs site c.args.pieces.now.items new (λ k ts. inlined_call d (callers_in trees cs) (caller_in trees site) Σ (typed_names bs) ms (tree_at trees c.args.root.root) k ∷ ts))
    (λ _ e. call_argument trees d cs site Σ Τ bs ms (tree_at trees c.args.root.root) f c.variable-variable.result c.args.pieces.now.items c.push.new.self.items two new c.in-Some.ensures.argument named c.variable-variable.ensures c.in-Some.ensures.term c.in_ok-push.ensures.items c.in_ok-call.ensures e)
    c.put.ensures
