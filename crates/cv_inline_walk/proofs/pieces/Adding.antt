-- Pieces more, and what they do to the trees.
use Rattle.std.proofs.Common.{◌≡◌, ℕ, zero, suc, ◌<◌, List, [], ◌∷◌, ◌++◌, All, length, get_or, refl, ap, subst, sym, ◌∙◌, arith}
use Rattle.std.proofs.lemmas.List.Elements.{All-append}
use Rattle.cv_pool.specs.KindTree.{KindTree}
use Rattle.cv_syntax_trees.specs.Tree.{Tree}
use Rattle.cv_meaning.specs.contexts.Inlined.{Drawn}
use Rattle.cv_inline.specs.declared.terms.caller.Caller.{Caller}
use Rattle.cv_inline.specs.declared.terms.calling.Calling.{Calling}
use Rattle.cv_inline_walk.specs.declared.pieces.piece.Piece.{Piece}
use Rattle.cv_inline_walk.specs.pieces.Pieces.{Adds, IsLivePiece, piece_over, pieced}

module _ (trees : List KindTree) (d : Drawn) (callings : List Calling) (c : Caller) where
  abbrev IsLive : Piece → Type 0
  IsLive p = IsLivePiece (length trees) (length callings) p

  pieced_append : (k : Tree → Tree) (ts : List Tree) (ps qs : List Piece) → pieced trees d callings c k ts (ps ++ qs) ≡ pieced trees d callings c k (pieced trees d callings c k ts ps) qs
  unfolding pieced
  pieced_append k ts [] qs = refl
  pieced_append k ts (q ∷ ps) qs = pieced_append k (piece_over trees d callings c k q ts) ps qs

  -- one behind another
  pub appended : (old new more : List Piece) → new ≡ old ++ more → All IsLive more → Adds trees d callings c old new (λ k ts. pieced trees d callings c k ts more)
  appended old new more e l = record {
    by = λ k ts. ap (pieced trees d callings c k ts) e ∙ pieced_append k ts old more;
    live = λ all. subst (All IsLive) (sym e) (All-append IsLive old more all l);
  }

  pub pushed : (old new : List Piece) (p : Piece) → new ≡ old ++ p ∷ [] → IsLive p → Adds trees d callings c old new (λ k ts. piece_over trees d callings c k p ts)
  unfolding pieced
  pushed old new p e l =
      let a : Adds trees d callings c old new (λ k ts. pieced trees d callings c k ts (p ∷ [])) = appended old new (p ∷ []) e (λ i x h. one i x h) in
      record { by = a.by; live = a.live }
    where
      one : (i : ℕ) (x : Piece) → i < 1 → IsLive (get_or (p ∷ []) i x)
      one zero x h = l
      one (suc i) x h = absurd (omega arith)

  pub both : (old mid new : List Piece) (f g : (Tree → Tree) → List Tree → List Tree) → Adds trees d callings c old mid f → Adds trees d callings c mid new g → Adds trees d callings c old new (λ k ts. g k (f k ts))
  both old mid new f g a b = record { by = λ k ts. b.by k ts ∙ ap (g k) (a.by k ts); live = λ all. b.live (a.live all) }

  pub same : (old new : List Piece) (f g : (Tree → Tree) → List Tree → List Tree) → ((k : Tree → Tree) (ts : List Tree) → f k ts ≡ g k ts) → Adds trees d callings c old new f → Adds trees d callings c old new g
  same old new f g e a = record { by = λ k ts. a.by k ts ∙ e k (pieced trees d callings c k ts old); live = a.live }
