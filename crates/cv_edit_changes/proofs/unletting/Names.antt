-- The term that is given for an index, replication by replication.
use Rattle.std.proofs.Common.{◌≡◌, ℕ, zero, suc, ◌+◌, cond, List, [], ◌∷◌, map, drop, Option, Some, None, refl, sym, ap, ap₂, ◌∙◌, arith, eq-eqb, ne_eqb, ◌==◌}
use Rattle.std.specs.Prelude.{option_and_then, slice_get}
use Rattle.cv_syntax_trees.specs.declared.head.Head.{Head}
use Rattle.cv_syntax_trees.specs.Tree.{Tree, Empty, Node}
use Rattle.cv_directory.specs.Definitions.{Definition}
use Rattle.cv_scene.specs.lines.Given.{term_for}
use Rattle.cv_derive_reasons.specs.cells.Only.{replications_by}

abbrev index : ℕ × ℕ → ℕ
index r = r.0

no_more : (rs : List (ℕ × ℕ)) (k : ℕ) → slice_get rs k ≡ None → drop k (map index rs) ≡ []
no_more [] zero e = refl
no_more [] (suc k) e = refl
no_more (r ∷ rs) zero e = absurd (cc)
no_more (r ∷ rs) (suc k) e = no_more rs k e

one_more : (rs : List (ℕ × ℕ)) (k : ℕ) (r : ℕ × ℕ) → slice_get rs k ≡ Some r → drop k (map index rs) ≡ r.0 ∷ drop (k + 1) (map index rs)
one_more [] k r e = absurd (cc)
one_more (q ∷ rs) zero r e = let f : q ≡ r = cc in ap (λ (p : ℕ × ℕ). p.0 ∷ map index rs) f
one_more (q ∷ rs) (suc k) r e = let n : suc k + 1 ≡ suc (k + 1) = omega arith in one_more rs k r e ∙ ap (λ m. r.0 ∷ drop m (q.0 ∷ map index rs)) (sym n)

abbrev row : Option Definition → ℕ → Option (ℕ × ℕ)
row o k = option_and_then (λ (d : Definition). slice_get d.replications k) o

abbrev names : Option Definition → List ℕ
names o = map index (replications_by o)

past : (o : Option Definition) (k : ℕ) → row o k ≡ None → drop k (names o) ≡ []
past None k e = no_more [] k refl
past (Some d) k e = no_more d.replications k e

next : (o : Option Definition) (k : ℕ) (r : ℕ × ℕ) → row o k ≡ Some r → drop k (names o) ≡ r.0 ∷ drop (k + 1) (names o)
next None k r e = absurd (cc)
next (Some d) k r e = one_more d.replications k r e

module _ (o : Option Definition) (k name : ℕ) where
  pub given_past : (t : Tree) → row o k ≡ None → None ≡ term_for (drop k (names o)) t name
  given_past t e = sym (ap (λ is. term_for is t name) (past o k e))

  pub given_end : (t : Tree) → t ≡ Empty → None ≡ term_for (drop k (names o)) t name
  given_end t e = go (drop k (names o)) ∙ ap (λ u. term_for (drop k (names o)) u name) (sym e)
    where
      go : (is : List ℕ) → None ≡ term_for is Empty name
      go [] = refl
      go (i ∷ is) = refl

  module _ (r : ℕ × ℕ) (e : row o k ≡ Some r) (t : Tree) (h : Head) (a b : Tree) (f : t ≡ Node h a b) where
    opened : term_for (drop k (names o)) t name ≡ cond (r.0 == name) (Some a) (term_for (drop (k + 1) (names o)) b name)
    opened = ap₂ (λ is u. term_for is u name) (next o k r e) f

    pub given_here : r.0 ≡ name → Some a ≡ term_for (drop k (names o)) t name
    given_here i = sym (opened ∙ ap (λ v. cond v (Some a) (term_for (drop (k + 1) (names o)) b name)) (eq-eqb r.0 name i))

    pub given_later : (r.0 ≡ name → ⊥) → term_for (drop (k + 1) (names o)) b name ≡ term_for (drop k (names o)) t name
    given_later i = sym (opened ∙ ap (λ v. cond v (Some a) (term_for (drop (k + 1) (names o)) b name)) (ne_eqb r.0 name i))
