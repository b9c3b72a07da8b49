use Rattle.std.proofs.Common.{◌≡◌, ◌∷◌, ◌++◌, [], List, Some, ap, sym, ◌∙◌, arith}
use Rattle.cv_syntax_trees.specs.Tree.{Tree, size}
use Rattle.cv_syntax.specs.PoolTrees.{tree_at}
use Rattle.cv_meaning.specs.Correspondences.{typed_names}
use Rattle.cv_meaning.specs.contexts.Inlined.{Scope, TheKey, inlined_call}
use Rattle.cv_inline.specs.declared.terms.scope.Standing.TheVariants as code
use Rattle.cv_inline.specs.declared.terms.scope.Entry.{Entry}
use Rattle.cv_inline.specs.terms.Callers.{caller_in}
use Rattle.cv_inline.specs.terms.Drawings.{drawn_in}
use Rattle.cv_inline_sites.specs.listing.Callings.{callers_in}
use Rattle.cv_inline_sites.specs.pairs.Scopes.{scope_at}
use Rattle.cv_inline_walk.proofs.pieces.Called.{from_nothing, second_small, whole_call}
use Rattle.cv_inline_walk.proofs.pieces.calls.pieces_of.Goals as goal

pub call-requires-clause-body : goal.call-requires-clause-body
call-requires-clause-body c =
    let e = ap size c.second_of.ensures.tree in
    record {
      live = c.second_of.ensures.live;
      fits = omega (arith, e, second_small (tree_at c.args.pool.now.trees (Some c.args.calling.now.function)), c.requires.calling.nodes);
    }

pub returns-clause-pieced : goal.returns-clause-pieced
returns-clause-pieced c = λ x g named k ts.
    let trees = c.args.pool.now.trees in
    let d = drawn_in c.args.drawn.now in
    let cs = c.args.callings.now in
    let site = c.args.calling.now.caller in
    let f : Tree = tree_at trees (Some c.args.calling.now.function) in
    let key : Entry = record { name = c.args.key; standing = code.TheKey } in
    let Τ : Scope = scope_at site c.as_slice.result.now in
    let Σ : Scope = (g.key.0, TheKey) ∷ [] in
    let bs : Tree = tree_at trees c.second_of-binders.result in
    let ms : Tree = tree_at trees c.args.arguments in
    let body : Tree = tree_at trees c.second_of.result in
    let scope : Τ ≡ Σ =
    ap (scope_at site) (c.as_slice.ensures.value ∙ (c.in_ok-push.ensures.items ∙ ap (λ (es : List Entry). es ++ key ∷ []) c.new-scope.ensures.items))
    ∙ ap (λ y. (y, TheKey) ∷ []) (sym named) in
    from_nothing trees d cs site (λ j. inlined_call d (callers_in trees cs) (caller_in trees site) Τ (typed_names bs) ms body j) c.new-pieces.result.items c.call.new.pieces.items c.new-pieces.ensures.items c.in_ok-call.ensures k ts
    ∙ ap (λ m. m ∷ ts) (whole_call trees d cs site Σ Τ f (tree_at trees c.first_of.result) bs body ms k scope c.first_of.ensures.tree c.second_of-binders.ensures.tree c.second_of.ensures.tree)
