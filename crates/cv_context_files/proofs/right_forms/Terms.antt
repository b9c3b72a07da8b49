-- Terms and `defined` lists of a file are those of right bodies.
use Rattle.std.proofs.Common.{◌≡◌, true, false, ◌&&◌, refl}
use Rattle.std.proofs.lemmas.Bool.{and_from, and_parts, both_ways}
use Rattle.cv_syntax_trees.specs.declared.head.Head.TheVariants.{Leaf, Read, Apply, Eq, And, Or, Not, Yes, No, Cons}
use Rattle.cv_syntax_trees.specs.Tree.{Tree, Empty, Node}
use Rattle.cv_scope_rules.specs.Phrases.{Cells, Nil, OneCell, Term, Terms, is_phrase}
use Rattle.cv_inline_names_laws.specs.accepted.RightBodies.{are_body_cells, are_body_terms, is_body_term, is_right_body}
use Rattle.cv_inline_names_laws.specs.cells.Layout.{is_right_text, is_term}

abbrev pub IsTerm : Tree → Type 0
IsTerm t = (is_body_term t ≡ true) × (is_term t ≡ true)

abbrev AreTerms : Tree → Type 0
AreTerms t = (are_body_terms t ≡ true) × (is_term t ≡ true)

abbrev pub AreCells : Tree → Type 0
AreCells t = (are_body_cells t ≡ true) × (is_term t ≡ true)

end_is : (t : Tree) → is_phrase Nil t ≡ true → is_term t ≡ true
unfolding is_phrase is_term
end_is Empty e = refl
end_is (Node h a b) e = absurd (both_ways false refl e)

ends_are : (a b : Tree) → (is_phrase Nil a && is_phrase Nil b) ≡ true → (is_term a && is_term b) ≡ true
ends_are a b e = let p = and_parts (is_phrase Nil a) (is_phrase Nil b) e in and_from (is_term a) (is_term b) (end_is a p.0) (end_is b p.1)

both_are : (a b : Tree) → IsTerm a → IsTerm b → ((is_body_term a && is_body_term b) ≡ true) × ((is_term a && is_term b) ≡ true)
both_are a b v w = (and_from (is_body_term a) (is_body_term b) v.0 w.0, and_from (is_term a) (is_term b) v.1 w.1)

mutual
  unfolding is_phrase is_body_term are_body_terms is_term

  pub term_is : (t : Tree) → is_phrase Term t ≡ true → IsTerm t
  term_is Empty e = absurd (both_ways false refl e)
  term_is (Node (Leaf x) a b) e = (refl, ends_are a b e)
  term_is (Node (Read x) a b) e =
      let p = and_parts (is_phrase Terms a) (is_phrase Nil b) e in
      (refl, and_from (is_term a) (is_term b) (terms_are a p.0).1 (end_is b p.1))
  term_is (Node (Apply f) a b) e =
      let p = and_parts (is_phrase Terms a) (is_phrase Nil b) e in
      let w = terms_are a p.0 in
      (w.0, and_from (is_term a) (is_term b) w.1 (end_is b p.1))
  term_is (Node Eq a b) e = let p = and_parts (is_phrase Term a) (is_phrase Term b) e in both_are a b (term_is a p.0) (term_is b p.1)
  term_is (Node And a b) e = let p = and_parts (is_phrase Term a) (is_phrase Term b) e in both_are a b (term_is a p.0) (term_is b p.1)
  term_is (Node Or a b) e = let p = and_parts (is_phrase Term a) (is_phrase Term b) e in both_are a b (term_is a p.0) (term_is b p.1)
  term_is (Node Not a b) e =
      let p = and_parts (is_phrase Term a) (is_phrase Nil b) e in
      let w = term_is a p.0 in
      (w.0, and_from (is_term a) (is_term b) w.1 (end_is b p.1))
  term_is (Node Yes a b) e = (refl, ends_are a b e)
  term_is (Node No a b) e = (refl, ends_are a b e)
  term_is (Node h a b) e = absurd (both_ways false refl e)

  terms_are : (t : Tree) → is_phrase Terms t ≡ true → AreTerms t
  terms_are Empty e = (refl, refl)
  terms_are (Node Cons a b) e =
      let p = and_parts (is_phrase Term a) (is_phrase Terms b) e in
      let v = term_is a p.0 in
      let w = terms_are b p.1 in
      (and_from (is_body_term a) (are_body_terms b) v.0 w.0, and_from (is_term a) (is_term b) v.1 w.1)
  terms_are (Node h a b) e = absurd (both_ways false refl e)

cell_is : (a b : Tree) → (is_phrase Terms a && is_phrase Nil b) ≡ true → (is_term a && is_term b) ≡ true
cell_is a b e = let p = and_parts (is_phrase Terms a) (is_phrase Nil b) e in and_from (is_term a) (is_term b) (terms_are a p.0).1 (end_is b p.1)

pub cells_are : (t : Tree) → is_phrase Cells t ≡ true → AreCells t
unfolding is_phrase are_body_cells is_term
cells_are Empty e = (refl, refl)
cells_are (Node Cons (Node (Leaf x) a b) more) e =
    let p = and_parts (is_phrase OneCell (Node (Leaf x) a b)) (is_phrase Cells more) e in
    let w = cells_are more p.1 in
    (w.0, and_from (is_term a && is_term b) (is_term more) (ends_are a b p.0) w.1)
cells_are (Node Cons (Node (Read x) a b) more) e =
    let p = and_parts (is_phrase OneCell (Node (Read x) a b)) (is_phrase Cells more) e in
    let w = cells_are more p.1 in
    (w.0, and_from (is_term a && is_term b) (is_term more) (cell_is a b p.0) w.1)
cells_are (Node Cons c more) e = absurd (both_ways false refl e)
cells_are (Node h a b) e = absurd (both_ways false refl e)

-- a term is a body
pub term_body : (t : Tree) → is_phrase Term t ≡ true → (is_right_body t ≡ true) × (is_right_text t ≡ true)
unfolding is_phrase is_right_body is_right_text
term_body Empty e = absurd (both_ways false refl e)
term_body (Node (Leaf x) a b) e = term_is (Node (Leaf x) a b) e
term_body (Node (Read x) a b) e = term_is (Node (Read x) a b) e
term_body (Node (Apply f) a b) e = term_is (Node (Apply f) a b) e
term_body (Node Eq a b) e = term_is (Node Eq a b) e
term_body (Node And a b) e = term_is (Node And a b) e
term_body (Node Or a b) e = term_is (Node Or a b) e
term_body (Node Not a b) e = term_is (Node Not a b) e
term_body (Node Yes a b) e = term_is (Node Yes a b) e
term_body (Node No a b) e = term_is (Node No a b) e
term_body (Node h a b) e = absurd (both_ways false refl e)
