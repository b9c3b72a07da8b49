-- Phrases in which no statement stands are apt.
use Rattle.std.proofs.Common.{◌≡◌, ℕ, Bool, true, false, ◌&&◌, List, refl}
use Rattle.std.proofs.lemmas.Bool.{both_ways, and_parts}
use Rattle.cv_syntax_trees.specs.declared.head.Head.TheVariants.{And, Apply, Binder, Cons, Eq, Leaf, Name, No, Not, Or, Read, Yes}
use Rattle.cv_syntax_trees.specs.Tree.{Tree, Empty, Node}
use Rattle.cv_scope_rules.specs.Phrases.{Binders, Cells, Indices, Message, Nil, OneCell, Pattern, Phrase, Term, Terms, is_phrase}
use Rattle.cv_scene.specs.Apt.{IsApt}
use Rattle.cv_scene.specs.Reductions.{Reduction}

module _ (r : Reduction) where
  abbrev Fine : Phrase → Tree → Type 0
  Fine σ t = (rs : List (ℕ × ℕ)) (n : ℕ) → IsApt r σ rs n t

  pub nil_apt : (t : Tree) → is_phrase Nil t ≡ true → Fine Nil t
  unfolding is_phrase IsApt
  nil_apt Empty e rs n = tt
  nil_apt (Node h a b) e rs n = absurd (both_ways false refl e)

  pub indices_apt : (t : Tree) → is_phrase Indices t ≡ true → Fine Indices t
  unfolding is_phrase IsApt
  indices_apt Empty e rs n = tt
  indices_apt (Node (Name i) a b) e rs n = let q = and_parts (is_phrase Nil a) _ e in (tt, (nil_apt a q.0 rs _, indices_apt b q.1 rs _))
  indices_apt (Node h a b) e rs n = absurd (both_ways false refl e)

  pub binders_apt : (t : Tree) → is_phrase Binders t ≡ true → Fine Binders t
  unfolding is_phrase IsApt
  binders_apt Empty e rs n = tt
  binders_apt (Node (Binder x T) a b) e rs n = let q = and_parts (is_phrase Nil a) _ e in (tt, (nil_apt a q.0 rs _, binders_apt b q.1 rs _))
  binders_apt (Node h a b) e rs n = absurd (both_ways false refl e)

  mutual
    unfolding is_phrase IsApt

    pub term_apt : (t : Tree) → is_phrase Term t ≡ true → Fine Term t
    term_apt (Node (Leaf x) a b) e rs n = let q = and_parts (is_phrase Nil a) _ e in (tt, (nil_apt a q.0 rs _, nil_apt b q.1 rs _))
    term_apt (Node (Read x) a b) e rs n = let q = and_parts (is_phrase Terms a) _ e in (tt, (terms_apt a q.0 rs _, nil_apt b q.1 rs _))
    term_apt (Node (Apply f) a b) e rs n = let q = and_parts (is_phrase Terms a) _ e in (tt, (terms_apt a q.0 rs _, nil_apt b q.1 rs _))
    term_apt (Node Eq a b) e rs n = let q = and_parts (is_phrase Term a) _ e in (tt, (term_apt a q.0 rs _, term_apt b q.1 rs _))
    term_apt (Node And a b) e rs n = let q = and_parts (is_phrase Term a) _ e in (tt, (term_apt a q.0 rs _, term_apt b q.1 rs _))
    term_apt (Node Or a b) e rs n = let q = and_parts (is_phrase Term a) _ e in (tt, (term_apt a q.0 rs _, term_apt b q.1 rs _))
    term_apt (Node Not a b) e rs n = let q = and_parts (is_phrase Term a) _ e in (tt, (term_apt a q.0 rs _, nil_apt b q.1 rs _))
    term_apt (Node Yes a b) e rs n = let q = and_parts (is_phrase Nil a) _ e in (tt, (nil_apt a q.0 rs _, nil_apt b q.1 rs _))
    term_apt (Node No a b) e rs n = let q = and_parts (is_phrase Nil a) _ e in (tt, (nil_apt a q.0 rs _, nil_apt b q.1 rs _))
    term_apt t e rs n = absurd (both_ways false refl e)

    pub terms_apt : (t : Tree) → is_phrase Terms t ≡ true → Fine Terms t
    terms_apt Empty e rs n = tt
    terms_apt (Node Cons a b) e rs n = let q = and_parts (is_phrase Term a) _ e in (tt, (term_apt a q.0 rs _, terms_apt b q.1 rs _))
    terms_apt t e rs n = absurd (both_ways false refl e)

  pub one_cell_apt : (t : Tree) → is_phrase OneCell t ≡ true → Fine OneCell t
  unfolding is_phrase IsApt
  one_cell_apt (Node (Leaf x) a b) e rs n = let q = and_parts (is_phrase Nil a) _ e in (tt, (nil_apt a q.0 rs _, nil_apt b q.1 rs _))
  one_cell_apt (Node (Read x) a b) e rs n = let q = and_parts (is_phrase Terms a) _ e in (tt, (terms_apt a q.0 rs _, nil_apt b q.1 rs _))
  one_cell_apt t e rs n = absurd (both_ways false refl e)

  pub cells_apt : (t : Tree) → is_phrase Cells t ≡ true → Fine Cells t
  unfolding is_phrase IsApt
  cells_apt Empty e rs n = tt
  cells_apt (Node Cons a b) e rs n = let q = and_parts (is_phrase OneCell a) _ e in (tt, (one_cell_apt a q.0 rs _, cells_apt b q.1 rs _))
  cells_apt (Node h a b) e rs n = absurd (both_ways false refl e)

  pub pattern_apt : (t : Tree) → is_phrase Pattern t ≡ true → Fine Pattern t
  unfolding is_phrase IsApt
  pattern_apt (Node Cons a b) e rs n = let q = and_parts (is_phrase Indices a) _ e in (tt, (indices_apt a q.0 rs _, binders_apt b q.1 rs _))
  pattern_apt t e rs n = absurd (both_ways false refl e)

  pub message_apt : (t : Tree) → is_phrase Message t ≡ true → Fine Message t
  unfolding is_phrase IsApt
  message_apt (Node Cons a b) e rs n = let q = and_parts (is_phrase Indices a) _ e in (tt, (indices_apt a q.0 rs _, terms_apt b q.1 rs _))
  message_apt t e rs n = absurd (both_ways false refl e)
