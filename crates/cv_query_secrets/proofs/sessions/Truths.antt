-- What a pair says, and what it is given, as equations between values.
use Rattle.std.proofs.Common.{◌≡◌, ℕ, ◌+◌, ◌==◌, Bool, true, false, List, [], ◌∷◌, map, refl, sym, ap, ap₂, ◌∙◌, eqb-true, eq-eqb}
use Rattle.std.specs.List.{AllByRecursion}
use Rattle.cv_syntax_trees.specs.declared.head.Head.TheVariants.{Eq}
use Rattle.cv_syntax_trees.specs.Tree.{Tree, Empty, Node, chain}
use Rattle.cv_meaning.specs.Interpretation.{Setting}
use Rattle.cv_meaning.specs.Memory.{Indices, Store}
use Rattle.cv_meaning.specs.Terms.{bit, value, values}
use Rattle.cv_scope_rules.specs.Context.{items}
use Rattle.cv_scene.specs.lines.Lines.{lines_of, statements}
use Rattle.cv_scene.specs.lines.Truths.{no}
use Rattle.cv_scene.specs.Late.{index_term}
use Rattle.cv_scene.specs.Pairs.{all_of_second, of_second, second_indices}
use Rattle.cv_query_certificates.specs.PairParts.{saying}
use Rattle.cv_query_certificates.specs.Pairs.{equations_between}
use Rattle.cv_derive_laws.specs.stores.Truth.{AreTrue, IsTrue}

pub said : (g : Setting) (at : Indices) (m n : Store) (ts : List Tree) → AllByRecursion (IsTrue g at m n) (statements (lines_of (saying ts))) → AreTrue g at m n ts
unfolding lines_of statements
said g at m n [] h = tt
said g at m n (t ∷ ts) h = (h.0, said g at m n ts h.1)

pub no_is_false : (g : Setting) (at : Indices) (m n : Store) → AreTrue g at m n (no ∷ []) → ⊥
unfolding value
no_is_false g at m n h = let e : ◌≡◌ {A = ℕ} 0 1 = h.0 in absurd (cc)

bit_true : (b : Bool) → bit b ≡ 1 → b ≡ true
bit_true true e = refl
bit_true false e = absurd (cc)

module _ (g : Setting) (both : Indices) (m : Store) where
  equal : (a b : Tree) → value g both m (Node Eq a b) ≡ 1 → value g both m a ≡ value g both m b
  unfolding value
  equal a b e = eqb-true (value g both m a) (value g both m b) (bit_true (value g both m a == value g both m b) e)

  is_equal : (a b : Tree) → value g both m a ≡ value g both m b → value g both m (Node Eq a b) ≡ 1
  unfolding value
  is_equal a b e = ap bit (eq-eqb (value g both m a) (value g both m b) e)

  -- the indices of both copies are equal
  pub equal_indices : (k : ℕ) (rs : List (ℕ × ℕ)) → AreTrue g both m m (equations_between (map index_term rs) (map index_term (second_indices k rs)))
      → values g both m (chain (map index_term rs)) ≡ values g both m (chain (map index_term (second_indices k rs)))
  unfolding values
  equal_indices k [] h = refl
  equal_indices k (r ∷ rs) h = ap₂ ◌∷◌ (equal (index_term r) (index_term (r.0 + k, r.1)) h.0) (equal_indices k rs h.1)

  -- the given equations hold, where the terms have equal values in the stores of the two copies

  abbrev pub HasFirst : (at : Indices) → (x : Store) → Tree → Type 0
  HasFirst at x t = value g both m t ≡ value g at x t

  abbrev pub HasSecond : (k : ℕ) → List (ℕ × ℕ) → (at : Indices) → (x : Store) → Tree → Type 0
  HasSecond k rs at x t = value g both m (of_second k rs t) ≡ value g at x t

  pub given_true : (k : ℕ) (rs : List (ℕ × ℕ)) (at other : Indices) (x y : Store) (ms ns : Tree) → AllByRecursion (HasFirst at x) (items ms) → AllByRecursion (HasSecond k rs other y) (items ns)
      → values g at x ms ≡ values g other y ns → AreTrue g both m m (equations_between (items ms) (all_of_second k rs (items ns)))
  unfolding values
  given_true k rs at other x y Empty ns f h e = tt
  given_true k rs at other x y (Node c a ms) Empty f h e = tt
  given_true k rs at other x y (Node c a ms) (Node d b ns) f h e =
      let first : value g at x a ≡ value g other y b = cc in
      let rest : values g at x ms ≡ values g other y ns = cc in
      (is_equal a (of_second k rs b) (f.0 ∙ first ∙ sym h.0), given_true k rs at other x y ms ns f.1 h.1 rest)
