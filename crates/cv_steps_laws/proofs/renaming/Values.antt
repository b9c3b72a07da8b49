-- Terms have equal values in stores that agree under other names, and what binders assign agrees too.
use Rattle.std.proofs.Common.{◌≡◌, ℕ, suc, ◌==◌, ◌&&◌, ◌||◌, Bool, true, false, cond, not, max, nat_lt, List, [], ◌∷◌, Option, Some, None, refl, sym, ap, ap₂, ◌∙◌}
use Rattle.cv_syntax_trees.specs.declared.head.Head.TheVariants.{Leaf, Read, Apply, Eq, And, Or, Not, Binder}
use Rattle.cv_syntax_trees.specs.Tree.{Tree, Empty, Node, first, second}
use Rattle.cv_meaning.specs.Tapes.{same_tuple}
use Rattle.cv_meaning.specs.Interpretation.{Setting}
use Rattle.cv_meaning.specs.Memory.{Store, Indices, put, tuple}
use Rattle.cv_meaning.specs.Terms.{or_zero, found_in, bit, is_one, leaf_value_from, value, values}
use Rattle.cv_meaning.specs.Binders.{fits, bound_to, binder_count, widest_binder}
use Rattle.cv_steps_laws.specs.renaming.Naming.{with_names, indices_with_names, IsNaming}
use Rattle.cv_steps_laws.proofs.renaming.Names.{apart_alike}

-- the second store has under its other name what the first has of a variable
abbrev pub AgreeUnder : (ℕ → ℕ) → Store → Store → Type 0
AgreeUnder name m n = (x : ℕ) (u : List ℕ) → m x u ≡ n (name x) u

-- parts of trees

pub first_under : (name : ℕ → ℕ) (t : Tree) → first (with_names name t) ≡ with_names name (first t)
unfolding with_names
first_under name Empty = refl
first_under name (Node h a b) = refl

pub second_under : (name : ℕ → ℕ) (t : Tree) → second (with_names name t) ≡ with_names name (second t)
unfolding with_names
second_under name Empty = refl
second_under name (Node h a b) = refl

-- indices

pub tuple_under : (name : ℕ → ℕ) (at : Indices) → tuple (indices_with_names name at) ≡ tuple at
tuple_under name [] = refl
tuple_under name (p ∷ ps) = ap (λ vs. p.1 ∷ vs) (tuple_under name ps)

-- binders

pub fits_under : (name : ℕ → ℕ) (size : ℕ → ℕ) (bs : Tree) (vs : List ℕ) → fits size bs vs ≡ fits size (with_names name bs) vs
unfolding with_names
fits_under name size Empty vs = refl
fits_under name size (Node (Binder x T) a b) [] = refl
fits_under name size (Node (Binder x T) a b) (v ∷ vs) = ap (λ c. nat_lt v (size T) && c) (fits_under name size b vs)
fits_under name size (Node h a b) vs = refl

pub count_under : (name : ℕ → ℕ) (bs : Tree) → binder_count bs ≡ binder_count (with_names name bs)
unfolding with_names
count_under name Empty = refl
count_under name (Node h a b) = ap (λ n. suc n) (count_under name b)

pub widest_under : (name : ℕ → ℕ) (size : ℕ → ℕ) (bs : Tree) → widest_binder size bs ≡ widest_binder size (with_names name bs)
unfolding with_names
widest_under name size Empty = refl
widest_under name size (Node (Binder x T) a b) = ap (max (size T)) (widest_under name size b)
widest_under name size (Node h a b) = refl

module _ (g : Setting) (name : ℕ → ℕ) (fine : IsNaming g name) where
  abbrev Agree : Store → Store → Type 0
  Agree = AgreeUnder name

  same_name : (x y : ℕ) → (x == y) ≡ (name x == name y)
  same_name x y = sym (apart_alike name fine.apart x y)

  -- stores

  pub put_under : (m n : Store) → Agree m n → (x : ℕ) (u : List ℕ) (v : ℕ) → Agree (put m x u v) (put n (name x) u v)
  unfolding put
  put_under m n r x u v y w = ap₂ (λ (b : Bool) (o : Option ℕ). cond (b && same_tuple w u) (Some v) o) (same_name y x) (r y w)

  pub bound_under : (m n : Store) → Agree m n → (u : List ℕ) (bs : Tree) (vs : List ℕ) → Agree (bound_to m u bs vs) (bound_to n u (with_names name bs) vs)
  unfolding bound_to with_names
  bound_under m n r u Empty vs = r
  bound_under m n r u (Node (Binder x T) a b) [] = r
  bound_under m n r u (Node (Binder x T) a b) (v ∷ vs) = bound_under (put m x u v) (put n (name x) u v) (put_under m n r x u v) u b vs
  bound_under m n r u (Node h a b) vs = r

  -- terms

  found_under : (at : Indices) (x : ℕ) → found_in at x ≡ found_in (indices_with_names name at) (name x)
  found_under [] x = refl
  found_under (p ∷ ps) x = ap₂ (λ (b : Bool) (o : Option ℕ). cond b (Some p.1) o) (same_name p.0 x) (found_under ps x)

  leaf_from : (m n : Store) → Agree m n → (x : ℕ) (o : Option ℕ) → leaf_value_from g m x o ≡ leaf_value_from g n (name x) o
  leaf_from m n r x (Some v) = refl
  leaf_from m n r x None = go (g.is_constant x) refl ∙ ap (λ b. cond b (g.interpretation.table (name x) []) (or_zero (n (name x) []))) (sym (fine.constants x))
    where
      go : (b : Bool) → g.is_constant x ≡ b → cond b (g.interpretation.table x []) (or_zero (m x [])) ≡ cond b (g.interpretation.table (name x) []) (or_zero (n (name x) []))
      go true e = ap (λ z. g.interpretation.table z []) (sym (fine.stays x e))
      go false e = ap or_zero (r x [])

  module _ (at : Indices) (m n : Store) (r : Agree m n) where
    abbrev others : Indices
    others = indices_with_names name at

    mutual
      unfolding value with_names

      pub value_under : (t : Tree) → value g at m t ≡ value g others n (with_names name t)
      value_under Empty = refl
      value_under (Node (Leaf x) a b) = leaf_from m n r x (found_in at x) ∙ ap (leaf_value_from g n (name x)) (found_under at x)
      value_under (Node (Read x) a b) = ap or_zero (r x (values g at m a) ∙ ap (n (name x)) (values_under a))
      value_under (Node (Apply f) a b) = ap (g.interpretation.table f) (values_under a)
      value_under (Node Eq a b) = ap₂ (λ x y. bit (x == y)) (value_under a) (value_under b)
      value_under (Node And a b) = ap₂ (λ x y. bit (is_one x && is_one y)) (value_under a) (value_under b)
      value_under (Node Or a b) = ap₂ (λ x y. bit (is_one x || is_one y)) (value_under a) (value_under b)
      value_under (Node Not a b) = ap (λ x. bit (not (is_one x))) (value_under a)
      value_under (Node h a b) = refl

      pub values_under : (t : Tree) → values g at m t ≡ values g others n (with_names name t)
      values_under Empty = refl
      values_under (Node h a b) = ap₂ ◌∷◌ (value_under a) (values_under b)
