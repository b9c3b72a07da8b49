-- Lists of parts with a part more, and the trees that they make.
use Rattle.std.proofs.Common.{◌≡◌, ℕ, zero, suc, ◌+◌, ◌<◌, List, [], ◌∷◌, ◌++◌, length, take, get_or, refl, ap, ◌∙◌, arith}
use Rattle.std.specs.Prelude.{All}
use Rattle.std.proofs.lemmas.List.{take_more}
use Rattle.std.proofs.lemmas.List.Elements.{All-append}
use Rattle.cv_pool.specs.KindTree.{KindTree}
use Rattle.cv_syntax_trees.specs.declared.head.Head.{Head}
use Rattle.cv_syntax_trees.specs.Tree.{Tree}
use Rattle.cv_syntax.specs.Postorder.{joined}
use Rattle.cv_syntax.specs.listing.Needs.{most_asked}
use Rattle.cv_edit_places.specs.declared.parts.Part.{Part}
use Rattle.cv_edit_places.specs.Parts.{IsLivePart, closed, laid, over_by, overs, stacked}

pub stacked_push : (trees : List KindTree) (stack : List Tree) (ps : List Part) (p : Part) → stacked trees stack (ps ++ p ∷ []) ≡ laid trees p (stacked trees stack ps)
unfolding stacked
stacked_push trees stack [] p = refl
stacked_push trees stack (q ∷ ps) p = stacked_push trees (laid trees q stack) ps p

pub stacked_none : (trees : List KindTree) → stacked trees [] [] ≡ []
unfolding stacked
stacked_none trees = refl

pub overs_push : (ps : List Part) (p : Part) → overs (ps ++ p ∷ []) ≡ overs ps + over_by p
unfolding overs
overs_push [] p = omega arith
overs_push (q ∷ ps) p = omega (arith, overs_push ps p)

pub overs_none : overs [] ≡ 0
unfolding overs
overs_none = refl

pub live_none : (n : ℕ) → All (IsLivePart n) []
live_none n = λ k d l. absurd (omega arith)

one : (n : ℕ) (p : Part) → IsLivePart n p → (k : ℕ) (d : Part) → k < length (p ∷ []) → IsLivePart n (get_or (p ∷ []) k d)
one n p h zero d l = h
one n p h (suc k) d l = absurd (omega arith)

pub live_push : (n : ℕ) (ps : List Part) (p : Part) → All (IsLivePart n) ps → IsLivePart n p → All (IsLivePart n) (ps ++ p ∷ [])
live_push n ps p h i = All-append (IsLivePart n) ps (p ∷ []) h (one n p i)

pub closed_push : (hs : List Head) (h : Head) (stack : List Tree) → closed (hs ++ h ∷ []) stack ≡ closed hs (joined h stack)
closed_push [] h stack = refl
closed_push (g ∷ hs) h stack = ap (joined g) (closed_push hs h stack)

-- the parts up to one, and that one
module _ (ps : List Part) (i : ℕ) (d p : Part) (l : i < length ps) (e : get_or ps i d ≡ p) where
  next : take (i + 1) ps ≡ take i ps ++ p ∷ []
  next = take_more ps i d l ∙ ap (λ q. take i ps ++ q ∷ []) e

  pub stacked_next : (trees : List KindTree) → stacked trees [] (take (i + 1) ps) ≡ laid trees p (stacked trees [] (take i ps))
  stacked_next trees = ap (stacked trees []) next ∙ stacked_push trees [] (take i ps) p

  pub overs_next : overs (take (i + 1) ps) ≡ overs (take i ps) + over_by p
  overs_next = ap overs next ∙ overs_push (take i ps) p

  pub count_next : (m n : ℕ) → m ≡ most_asked (overs (take i ps)) → n ≡ most_asked (m + over_by p) → n ≡ most_asked (overs (take (i + 1) ps))
  count_next m n f g = omega (arith, overs_next)

pub ruleset parts = (stacked_push, stacked_none, overs_push, overs_none, live_none, live_push, closed_push)
