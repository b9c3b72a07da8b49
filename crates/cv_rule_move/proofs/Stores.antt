-- A cell that was not assigned may be, without another value for what was read before; and cells of two variables in either order.
use Rattle.std.proofs.Common.{◌≡◌, ℕ, ◌==◌, ◌&&◌, ◌||◌, Bool, true, false, cond, not, List, [], ◌∷◌, inl, inr, Option, Some, None, refl, sym, ap, ap₂, ◌∙◌, eq-eqb, eqb-true}
use Rattle.std.proofs.Math.Path.{fun_ext}
use Rattle.std.proofs.lemmas.Bool.{both_ways, or_left, or_parts, or_right}
use Rattle.cv_syntax_trees.specs.declared.head.Head.TheVariants.{Leaf, Read, Apply, Eq, And, Or, Not, Binder}
use Rattle.cv_syntax_trees.specs.Tree.{Tree, Empty, Node}
use Rattle.cv_meaning.specs.Tapes.{same_tuple}
use Rattle.cv_meaning.specs.Interpretation.{Setting}
use Rattle.cv_meaning.specs.Memory.{Store, Indices, put}
use Rattle.cv_meaning.specs.Terms.{bit, found_in, is_one, leaf_value_from, or_zero, value, values}
use Rattle.cv_meaning.specs.Binders.{bound_to}
use Rattle.cv_scope_rules.specs.Made.{is_bound}
use Rattle.cv_scope_runs.specs.Reads.{IsKept, LeafAssigned, TermAssigned, TermsAssigned}
use Rattle.cv_scope_runs.proofs.Contexts.{put_other}
use Rattle.cv_scope_runs.proofs.TermsLater.{later_same}

-- what was assigned stays so

pub put_kept : (k m : Store) (x : ℕ) (u : List ℕ) (v : ℕ) → IsKept k m → k x u ≡ None → IsKept k (put m x u v)
put_kept k m x u v l f y w z e = put_other m x u v y w (λ i j. clash (sym e ∙ (λ n. k (eqb-true y x i n) (j n)) ∙ f)) ∙ l y w z e
  where
    clash : Some z ≡ None → ⊥
    clash k = cc

pub bound_kept : (k m : Store) (u : List ℕ) (bs : Tree) (vs : List ℕ) → IsKept k m → ((y : ℕ) → is_bound bs y ≡ true → k y u ≡ None) → IsKept k (bound_to m u bs vs)
unfolding bound_to is_bound
bound_kept k m u (Node (Binder x T) a b) (v ∷ vs) l f =
    bound_kept k (put m x u v) u b vs (put_kept k m x u v l (f x (or_left (x == x) _ (eq-eqb x x refl)))) (λ y i. f y (or_right (y == x) _ i))
bound_kept k m u bs vs l f = l

-- a store that has nothing in a cell after an assignment had nothing there before
pub none_before : (m : Store) (x : ℕ) (u : List ℕ) (v y : ℕ) (w : List ℕ) → put m x u v y w ≡ None → m y w ≡ None
unfolding put
none_before m x u v y w e = go ((y == x) && same_tuple w u) e
  where
    go : (b : Bool) → cond b (Some v) (m y w) ≡ None → m y w ≡ None
    go true f = absurd (cc)
    go false f = f

-- a term whose reads are assigned has its value in each later store

leaf_later : (g : Setting) (m n : Store) → IsKept m n → (x : ℕ) (o : Option ℕ) → LeafAssigned g m x o → leaf_value_from g n x o ≡ leaf_value_from g m x o
leaf_later g m n l x (Some v) r = refl
leaf_later g m n l x None (inl c) =
    ap (λ b. cond b (g.interpretation.table x []) (or_zero (n x []))) c ∙ sym (ap (λ b. cond b (g.interpretation.table x []) (or_zero (m x []))) c)
leaf_later g m n l x None (inr s) = ap (λ o. cond (g.is_constant x) (g.interpretation.table x []) (or_zero o)) (later_same m n l x [] s)

module _ (g : Setting) (at : Indices) (m n : Store) (l : IsKept m n) where
  mutual
    unfolding value

    pub value_later : (t : Tree) → TermAssigned g at m t → value g at n t ≡ value g at m t
    value_later Empty r = refl
    value_later (Node (Leaf x) a b) r = leaf_later g m n l x (found_in at x) r
    value_later (Node (Read x) a b) r = ap (λ u. or_zero (n x u)) (values_later a r.1) ∙ ap or_zero (later_same m n l x (values g at m a) r.0)
    value_later (Node (Apply f) a b) r = ap (g.interpretation.table f) (values_later a r)
    value_later (Node Eq a b) r = ap₂ (λ x y. bit (x == y)) (value_later a r.0) (value_later b r.1)
    value_later (Node And a b) r = ap₂ (λ x y. bit (is_one x && is_one y)) (value_later a r.0) (value_later b r.1)
    value_later (Node Or a b) r = ap₂ (λ x y. bit (is_one x || is_one y)) (value_later a r.0) (value_later b r.1)
    value_later (Node Not a b) r = ap (λ x. bit (not (is_one x))) (value_later a r.0)
    value_later (Node h a b) r = refl

    values_later : (t : Tree) → TermsAssigned g at m t → values g at n t ≡ values g at m t
    values_later Empty r = refl
    values_later (Node h a b) r = ap₂ ◌∷◌ (value_later a r.0) (values_later b r.1)

-- cells of two variables are assigned in either order

pub put_apart : (m : Store) (x y : ℕ) (u : List ℕ) (v w : ℕ) → (x ≡ y → ⊥) → put (put m x u v) y u w ≡ put (put m y u w) x u v
unfolding put
put_apart m x y u v w apart = fun_ext (λ n. fun_ext (λ r. go n r (n == y) (n == x) refl refl (same_tuple r u)))
  where
    go : (n : ℕ) (r : List ℕ) (b c : Bool) → (n == y) ≡ b → (n == x) ≡ c → (d : Bool) → cond (b && d) (Some w) (cond (c && d) (Some v) (m n r)) ≡ cond (c && d) (Some v) (cond (b && d) (Some w) (m n r))
    go n r true true e f d = absurd (apart (sym (eqb-true n x f) ∙ eqb-true n y e))
    go n r true false e f d = refl
    go n r false c e f d = refl

pub bound_apart : (m : Store) (x : ℕ) (u : List ℕ) (v : ℕ) (bs : Tree) (vs : List ℕ) → is_bound bs x ≡ false → bound_to (put m x u v) u bs vs ≡ put (bound_to m u bs vs) x u v
unfolding bound_to is_bound
bound_apart m x u v (Node (Binder y T) a b) (w ∷ ws) e =
    let p = or_parts (x == y) _ e in
    ap (λ s. bound_to s u b ws) (put_apart m x y u v w (λ i. both_ways (x == y) p.0 (eq-eqb x y i)))
    ∙ bound_apart (put m y u w) x u v b ws p.1
bound_apart m x u v bs vs e = refl
