-- The terms of a call's key keep their values, and what they read stays assigned.
use Rattle.std.proofs.Common.{◌≡◌, ℕ, suc, Bool, true, false, cond, ◌||◌, not, ◌==◌, List, [], ◌∷◌, inl, inr, is_some, length, Option, Some, None, refl, sym, ap, ap₂, ◌∙◌}
use Rattle.std.proofs.lemmas.Bool.{and_parts, both_ways, not-true}
use Rattle.std.specs.List.{AllByRecursion}
use Rattle.cv_syntax_trees.specs.declared.head.Head.TheVariants.{Cons, Leaf, Read}
use Rattle.cv_syntax_trees.specs.Tree.{Tree, Empty, Node, reads_only}
use Rattle.cv_meaning.specs.Interpretation.{Setting}
use Rattle.cv_meaning.specs.Memory.{Indices, Store, tuple}
use Rattle.cv_meaning.specs.Terms.{found_in, leaf_value_from, or_zero, value, values}
use Rattle.cv_meaning.specs.Candidates.{is_assigned}
use Rattle.cv_scope_rules.specs.Context.{items}
use Rattle.cv_scope_runs.specs.Promises.{AreIndicesOf}
use Rattle.cv_scope_runs.specs.Reads.{LeafAssigned, TermAssigned, TermsAssigned}
use Rattle.cv_scope_runs.proofs.TermsLater.{later_same}
use Rattle.cv_meaning.specs.contexts.KeyTerms.{AreFineKeyTerms, IsFineKeyTerm}
use Rattle.cv_meaning.specs.contexts.Inlined.{index_terms, is_index_of, needed}
use Rattle.cv_inline.specs.bodies.Related.{IsKept, indices_at}
use Rattle.cv_syntax_trees.proofs.lists.Each.{AllByRecursion_append}

-- indices

pub index_found : (g : Setting) (at : Indices) (rs : List (ℕ × ℕ)) (x : ℕ) → AreIndicesOf g at rs → is_index_of rs x ≡ true → (v : ℕ) × (found_in at x ≡ Some v)
index_found g [] [] x n e = absurd (both_ways _ refl e)
index_found g [] (r ∷ rs) x n e = absurd n
index_found g (p ∷ ps) [] x n e = absurd n
index_found g (p ∷ ps) (r ∷ rs) x n e = go (p.0 == x) (ap (λ y. (y == x) || is_index_of rs x) n.0 ∙ e) (index_found g ps rs x n.2)
  where
    go : (b : Bool) → (b || is_index_of rs x) ≡ true → (is_index_of rs x ≡ true → (v : ℕ) × (found_in ps x ≡ Some v)) → (v : ℕ) × (cond b (Some p.1) (found_in ps x) ≡ Some v)
    go true k ih = (p.1, refl)
    go false k ih = ih k

pub indices_here : (g : Setting) (at : Indices) (rs : List (ℕ × ℕ)) → AreIndicesOf g at rs → indices_at rs (tuple at) ≡ at
indices_here g [] [] n = refl
indices_here g [] (r ∷ rs) n = absurd n
indices_here g (p ∷ ps) [] n = absurd n
indices_here g (p ∷ ps) (r ∷ rs) n = ap₂ (λ (y : ℕ) is. (y, p.1) ∷ is) (sym n.0) (indices_here g ps rs n.2)

pub as_many : (g : Setting) (at : Indices) (rs : List (ℕ × ℕ)) → AreIndicesOf g at rs → length (tuple at) ≡ length rs
as_many g [] [] n = refl
as_many g [] (r ∷ rs) n = absurd n
as_many g (p ∷ ps) [] n = absurd n
as_many g (p ∷ ps) (r ∷ rs) n = ap suc (as_many g ps rs n.2)

pub index_values : (g : Setting) (at : Indices) (m : Store) (ps rs : List (ℕ × ℕ)) → AreIndicesOf g ps rs → AllByRecursion (λ (p : ℕ × ℕ). found_in at p.0 ≡ Some p.1) ps → values g at m (index_terms rs) ≡ tuple ps
unfolding value
index_values g at m [] [] n f = refl
index_values g at m [] (r ∷ rs) n f = absurd n
index_values g at m (p ∷ ps) [] n f = absurd n
index_values g at m (p ∷ ps) (r ∷ rs) n f = ap₂ ◌∷◌ (ap (λ y. leaf_value_from g m y (found_in at y)) (sym n.0) ∙ ap (leaf_value_from g m p.0) f.0) (index_values g at m ps rs n.2 f.1)

-- terms in later stores

kept_some : (m n : Store) → IsKept m n → (x : ℕ) (u : List ℕ) → is_some (m x u) ≡ true → is_some (n x u) ≡ true
kept_some m n l x u e = ap is_some (later_same m n l x u e) ∙ e

leaf_later : (g : Setting) (m n : Store) → IsKept m n → (x : ℕ) (o : Option ℕ) → LeafAssigned g m x o → leaf_value_from g n x o ≡ leaf_value_from g m x o
leaf_later g m n l x (Some v) r = refl
leaf_later g m n l x None (inl c) =
    ap (λ b. cond b (g.interpretation.table x []) (or_zero (n x []))) c ∙ sym (ap (λ b. cond b (g.interpretation.table x []) (or_zero (m x []))) c)
leaf_later g m n l x None (inr e) = ap (λ o. cond (g.is_constant x) (g.interpretation.table x []) (or_zero o)) (later_same m n l x [] e)

module _ (g : Setting) (at : Indices) (m n : Store) (later : IsKept m n) (is_index plain : ℕ → Bool) where
  mutual
    unfolding value IsFineKeyTerm

    pub term_later : (t : Tree) → IsFineKeyTerm is_index plain t → TermAssigned g at m t → value g at n t ≡ value g at m t
    term_later Empty f r = refl
    term_later (Node (Leaf x) a b) f r = leaf_later g m n later x (found_in at x) r
    term_later (Node (Read x) a b) f r = ap or_zero (ap (n x) (terms_later a f.1 r.1) ∙ later_same m n later x (values g at m a) r.0)
    term_later (Node h a b) f r = absurd f

    pub terms_later : (t : Tree) → AreFineKeyTerms is_index plain t → TermsAssigned g at m t → values g at n t ≡ values g at m t
    terms_later Empty f r = refl
    terms_later (Node Cons a b) f r = ap₂ ◌∷◌ (term_later a f.0 r.0) (terms_later b f.1 r.1)
    terms_later (Node h a b) f r = absurd f

  -- what is needed

  module _ (no_index : (x : ℕ) → is_index x ≡ false → found_in at x ≡ None) where
    IsThere : Tree → Type 0
    IsThere r = is_assigned g at n n r ≡ true

    abbrev is_variable : ℕ → Bool
    is_variable x = not (g.is_constant x)

    leaf_there : (x : ℕ) → is_variable x ≡ true → (o : Option ℕ) → o ≡ None → LeafAssigned g m x o → is_some (n x []) ≡ true
    leaf_there x v (Some w) e r = absurd (clash w e)
      where
        clash : (w : ℕ) → ◌≡◌ {A = Option ℕ} (Some w) None → ⊥
        clash w e = cc
    leaf_there x v None e (inl c) = absurd (both_ways _ (not-true _ v) c)
    leaf_there x v None e (inr s) = kept_some m n later x [] s

    mutual
      unfolding IsThere IsFineKeyTerm needed reads_only

      term_there : (t : Tree) → IsFineKeyTerm is_index plain t → reads_only is_variable t ≡ true → TermAssigned g at m t → AllByRecursion IsThere (needed is_index t)
      term_there Empty f v r = tt
      term_there (Node (Leaf x) a b) f v r = go (is_index x) refl
        where
          go : (c : Bool) → is_index x ≡ c → AllByRecursion IsThere (cond c [] (Node (Leaf x) Empty Empty ∷ []))
          go true e = tt
          go false e = (leaf_there x (and_parts (is_variable x) _ v).0 (found_in at x) (no_index x e) r, tt)
      term_there (Node (Read x) a b) f v r =
          AllByRecursion_append IsThere (needed is_index a) _
          (terms_there a f.1 (and_parts (reads_only is_variable a) _ (and_parts (is_variable x) _ v).1).0 r.1)
          (ap (λ u. is_some (n x u)) (terms_later a f.1 r.1) ∙ kept_some m n later x (values g at m a) r.0, tt)
      term_there (Node h a b) f v r = absurd f

      pub terms_there : (t : Tree) → AreFineKeyTerms is_index plain t → reads_only is_variable t ≡ true → TermsAssigned g at m t → AllByRecursion (λ r. is_assigned g at n n r ≡ true) (needed is_index t)
      terms_there Empty f v r = tt
      terms_there (Node Cons a b) f v r =
          let p = and_parts (reads_only is_variable a) (reads_only is_variable b) v in
          AllByRecursion_append IsThere (needed is_index a) (needed is_index b) (term_there a f.0 p.0 r.0) (terms_there b f.1 p.1 r.1)
      terms_there (Node h a b) f v r = absurd f

-- a list of terms has as many values
pub many_values : (g : Setting) (at : Indices) (m : Store) (t : Tree) → length (values g at m t) ≡ length (items t)
unfolding value
many_values g at m Empty = refl
many_values g at m (Node h a b) = ap suc (many_values g at m b)
