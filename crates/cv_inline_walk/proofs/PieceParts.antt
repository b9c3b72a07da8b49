-- Pieces one by one.
use Rattle.std.proofs.Common.{◌≡◌, ℕ, ◌+◌, ◌<◌, List, [], ◌∷◌, ◌++◌, length, All, take, get_or, refl, ap, sym, subst, ◌∙◌, ◌≤◌, Option, Some, None, option_map}
use Rattle.std.proofs.lemmas.List.{take_all, take_more}
use Rattle.cv_pool.specs.KindTree.{KindTree}
use Rattle.cv_syntax_trees.specs.Tree.{Tree}
use Rattle.cv_meaning.specs.contexts.Inlined.{Drawn}
use Rattle.cv_inline.specs.NextGame as game
use Rattle.cv_inline.specs.NextGame.{InlinedCalls, call_in_game}
use Rattle.cv_inline.specs.declared.terms.caller.Caller.{Caller}
use Rattle.cv_inline.specs.declared.terms.calling.Calling.{Calling}
use Rattle.cv_inline.specs.declared.terms.scope.Entry.{Entry}
use Rattle.cv_inline_sites.specs.listing.Callings.{calling_in}
use Rattle.cv_inline_sites.specs.results.Outcomes.{term_of}
use Rattle.cv_inline_walk.specs.declared.pieces.piece.Phrase.{Phrase}
use Rattle.cv_inline_walk.specs.declared.pieces.piece.Piece.{Piece}
use Rattle.cv_inline_walk.specs.declared.pieces.piece.Piece.TheVariants as pieces
use Rattle.cv_inline_walk.specs.pieces.Pieces.{piece_over, pieced}

pub pieced_none : (trees : List KindTree) (d : Drawn) (callings : List Calling) (c : Caller) (k : Tree → Tree) (ts : List Tree) → pieced trees d callings c k ts [] ≡ ts
unfolding pieced
pieced_none trees d callings c k ts = refl

pieced_push : (trees : List KindTree) (d : Drawn) (callings : List Calling) (c : Caller) (k : Tree → Tree) (ts : List Tree) (ps : List Piece) (p : Piece) → pieced trees d callings c k ts (ps ++ p ∷ []) ≡ piece_over trees d callings c k p (pieced trees d callings c k ts ps)
unfolding pieced
pieced_push trees d callings c k ts [] p = refl
pieced_push trees d callings c k ts (q ∷ ps) p = pieced_push trees d callings c k (piece_over trees d callings c k q ts) ps p

pub pieced_more : (trees : List KindTree) (d : Drawn) (callings : List Calling) (c : Caller) (k : Tree → Tree) (ts old new : List Tree) (ps : List Piece) (i : ℕ) (e p : Piece) → i < length ps → p ≡ get_or ps i e → new ≡ piece_over trees d callings c k p old → old ≡ pieced trees d callings c k ts (take i ps) →
    new ≡ pieced trees d callings c k ts (take (i + 1) ps)
pieced_more trees d callings c k ts old new ps i e p h q n o =
    n ∙ ((λ j. piece_over trees d callings c k (q j) (o j)) ∙ (sym (pieced_push trees d callings c k ts (take i ps) (get_or ps i e)) ∙ ap (pieced trees d callings c k ts) (sym (take_more ps i e h))))

-- when all are gone through
pub pieced_all : (trees : List KindTree) (d : Drawn) (callings : List Calling) (c : Caller) (k : Tree → Tree) (ts us : List Tree) (ps qs : List Piece) (i : ℕ) → us ≡ pieced trees d callings c k ts (take i qs) → length qs ≤ i → qs ≡ ps → us ≡ pieced trees d callings c k ts ps
pieced_all trees d callings c k ts us ps qs i u h e = u ∙ ap (pieced trees d callings c k ts) (take_all i qs h ∙ e)

-- what holds of each piece, of one
pub of_each : (P : Piece → Type 0) (xs ys : List Piece) (i : ℕ) (x : Piece) → All P ys → xs ≡ ys → i < length xs → x ≡ get_or xs i x → P x
of_each P xs ys i x all e h is = subst P (sym is) (subst (All P) (sym e) all i x h)

-- a result of the call of a site
pub at_result : (trees : List KindTree) (d : Drawn) (callings : List Calling) (s : Option Calling) (c : Calling) (k : Tree → Tree) (entries : List Entry) (e : Phrase) (p : Piece) (ts : List Tree) → s ≡ Some c → entries ≡ e.scope.items → p ≡ pieces.Result e →
    k (term_of trees d s entries e.term) ∷ ts ≡ piece_over trees d callings c.caller k p ts
at_result trees d callings s c k entries e p ts h i j = (λ n. k (term_of trees d (h n) (i n) e.term) ∷ ts) ∙ ap (λ q. piece_over trees d callings c.caller k q ts) (sym j)

-- a call that has no site
pub no_site : (i : InlinedCalls) (k : Tree → Tree) (trees : List KindTree) (d : Drawn) (s : Option Calling) (n : Option game.Calling) (ms : Tree) → option_map (calling_in trees) s ≡ n → s ≡ None → k (term_of trees d s [] None) ≡ call_in_game i n ms k
no_site i k trees d s n ms h e = ap (λ o. k (term_of trees d o [] None)) e ∙ sym (ap (λ o. call_in_game i o ms k) (sym h ∙ ap (option_map (calling_in trees)) e))

-- a call that has one
pub call_made : (i : InlinedCalls) (k : Tree → Tree) (ts us old : List Tree) (s n : Option game.Calling) (ms ns : Tree) → ts ≡ us → us ≡ call_in_game i s ms k ∷ old → s ≡ n → ms ≡ ns → ts ≡ call_in_game i n ns k ∷ old
call_made i k ts us old s n ms ns e f g h = e ∙ (f ∙ (λ j. call_in_game i (g j) (h j) k ∷ old))
