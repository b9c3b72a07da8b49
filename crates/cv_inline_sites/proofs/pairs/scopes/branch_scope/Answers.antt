use Rattle.std.proofs.Common.{◌≡◌, ℕ, List, ◌∷◌, ap, ◌∙◌}
use Rattle.std.proofs.lemmas.Result.{IfOk-weaker}
use Rattle.cv_pool.specs.KindTree.{KindTree}
use Rattle.cv_syntax_trees.specs.Tree.{Tree}
use Rattle.cv_meaning.specs.contexts.Inlined.{CallOf, Scope, index_terms, with_call_of}
use Rattle.cv_inline.specs.terms.Callers.{caller_in}
use Rattle.cv_inline.specs.terms.Drawings.{drawn_in}
use Rattle.cv_inline.specs.terms.Stacks.{names_from, tuple_at}
use Rattle.cv_inline_sites.specs.pairs.Scopes.{scope_at}
use Rattle.cv_inline_sites.proofs.pairs.Tuples.{tuple_reads}
use Rattle.cv_inline_sites.proofs.pairs.scopes.branch_scope.Goals as goal

pub returns : goal.returns
returns c =
    let here : Tree = index_terms c.args.caller.now.replications.items in
    let name : ℕ → ℕ = (drawn_in c.args.drawn.now).index c.args.caller.now.number c.args.place c.args.other.now.number c.args.pair.number in
    let Σ : Scope = scope_at c.args.caller.now c.args.scope.now in
    let tuple : tuple_at here c.in_ok-indices.indices.items ≡ tuple_at here (names_from name 0 c.args.other.now.replications.items) =
    ap (tuple_at here) (c.in_ok-indices.ensures ∙ ap (names_from name 0) c.as_slice.ensures.value) in
    IfOk-weaker c.with_name.result
    (λ inner. scope_at c.args.caller.now inner.items ≡ (c.args.pair.index, CallOf c.args.other.now.number (tuple_at here c.in_ok-indices.indices.items)) ∷ Σ)
    (λ inner. (trees : List KindTree) → scope_at c.args.caller.now inner.items ≡ with_call_of Σ c.args.pair.index here name (caller_in trees c.args.other.now))
    (λ inner e. λ trees. e ∙ ap (λ t. (c.args.pair.index, CallOf c.args.other.now.number t) ∷ Σ) (tuple ∙ tuple_reads here name 0 c.args.other.now.replications.items))
    (c.with_name.ensures here)
