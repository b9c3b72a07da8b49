-- Terms, cells and candidates have in the next game the values that they have in the context.
use Rattle.std.proofs.Common.{◌≡◌, ℕ, suc, max, Bool, true, false, cond, if◌then◌else◌, ◌&&◌, ◌||◌, not, ◌==◌, List, [], ◌∷◌, ◌++◌, ◌⊎◌, inl, inr, is_some, flat_map, Option, Some, None, refl, sym, ap, ap₂, ◌∙◌, eqb-true, eq-eqb}
use Rattle.std.proofs.Math.Path.{fun_ext}
use Rattle.std.proofs.lemmas.Bool.{both_ways}
use Rattle.cv_syntax_trees.specs.declared.head.Head.TheVariants.{Leaf, Read, Apply, Eq, And, Or, Not, Yes, No, Cons, Branch}
use Rattle.cv_syntax_trees.specs.Tree.{Tree, Empty, Node}
use Rattle.cv_meaning.specs.Memory.{Store, Indices, tuple}
use Rattle.cv_meaning.specs.Terms.{or_zero, bit, is_one, found_in, leaf_value_from, value, values}
use Rattle.cv_meaning.specs.Binders.{fits, bound_to, binder_count, widest_binder}
use Rattle.cv_meaning.specs.Candidates.{are_assigned, candidate, candidates_at, candidates, most_indices, widest, tuples_up_to}
use Rattle.cv_meaning_laws.specs.Agreement.{AgreeOn}
use Rattle.cv_meaning_laws.proofs.Agreeing.{values_agree}
use Rattle.cv_meaning.specs.contexts.Roles.{Gone}
use Rattle.cv_inline.specs.NextGame.{Results, result_for, with_results, next_in}
use Rattle.cv_inline_laws.specs.runs.Texts.{is_ordinary, Text}
use Rattle.cv_inline_laws.specs.runs.Contexts.{ordinary_in, Answers, IsAnswer, IsFineIn, AreFineIn, AreCells, AreFineBranchesIn, HaveAnswers}
use Rattle.cv_inline_laws.proofs.runs.After.{apart_by, bound_same}
use Rattle.cv_syntax_trees.proofs.lists.Tests.{differ_comm}

module _ (T : Text) (key_gone : T.role T.calls.key ≡ Gone) where
  no_result : (at : Indices) (m n : Store) (o : Answers) (rs : Results) → HaveAnswers T at m n o rs → (x : ℕ) → ordinary_in T x ≡ true → (t : Tree) → result_for rs x t ≡ t
  no_result at m n [] [] ha x e t = refl
  no_result at m n (y ∷ o) (r ∷ rs) ha x e t =
      ap (λ b. cond b r.1 (result_for rs x t)) (ap (λ z. z == x) (sym ha.0) ∙ differ_comm x y.0 (apart_by T is_ordinary x y.0 e (ap is_ordinary ha.1))) ∙ no_result at m n o rs ha.6 x e t
  no_result at m n [] (r ∷ rs) ha x e t = absurd ha
  no_result at m n (y ∷ o) [] ha x e t = absurd ha

  -- a read of an answer

  record IsRead (at : Indices) (m : Store) (x : ℕ) (ms : Tree) : Type 0 where
    pub no_index : found_in at x ≡ None
    pub no_constant : T.g.is_constant x ≡ false
    pub indices : values T.g at m ms ≡ tuple at

  is_read : (at : Indices) (m n : Store) (o : Answers) (rs : Results) → HaveAnswers T at m n o rs → (x : ℕ) (ms : Tree) → IsAnswer o x ms → IsRead at m x ms
  is_read at m n (y ∷ o) (r ∷ rs) ha x ms (inl e) =
      record { no_index = ap (found_in at) (sym e.0) ∙ ha.2; no_constant = ap T.g.is_constant (sym e.0) ∙ ha.3; indices = ap (values T.g at m) (sym e.1) ∙ ha.4 m }
  is_read at m n (y ∷ o) (r ∷ rs) ha x ms (inr i) = is_read at m n o rs ha.6 x ms i
  is_read at m n [] rs ha x ms i = absurd i
  is_read at m n (y ∷ o) [] ha x ms i = absurd ha

  answer_value : (at : Indices) (m n : Store) (o : Answers) (rs : Results) → HaveAnswers T at m n o rs → (x : ℕ) (ms : Tree) → IsAnswer o x ms → (t : Tree) → m x (tuple at) ≡ Some (value T.g at n (result_for rs x t))
  answer_value at m n [] rs ha x ms i t = absurd i
  answer_value at m n (y ∷ o) [] ha x ms i t = absurd ha
  answer_value at m n (y ∷ o) (r ∷ rs) ha x ms i t = go (r.0 == x) refl i (answer_value at m n o rs ha.6 x ms)
    where
      go : (b : Bool) → (r.0 == x) ≡ b → ((y.0 ≡ x) × (y.1 ≡ ms)) ⊎ IsAnswer o x ms → (IsAnswer o x ms → (t : Tree) → m x (tuple at) ≡ Some (value T.g at n (result_for rs x t))) → m x (tuple at) ≡ Some (value T.g at n (cond b r.1 (result_for rs x t)))
      go true e i ih = ap (λ z. m z (tuple at)) (sym (ha.0 ∙ eqb-true r.0 x e)) ∙ ha.5
      go false e (inl j) ih = absurd (both_ways _ e (eq-eqb r.0 x (sym ha.0 ∙ j.0)))
      go false e (inr j) ih = ih j t

  leaf_same : (at : Indices) (m n : Store) (x : ℕ) → m x [] ≡ n x [] → (o : Option ℕ) → leaf_value_from T.g m x o ≡ leaf_value_from T.g n x o
  leaf_same at m n x e (Some v) = refl
  leaf_same at m n x e None = ap (λ o. cond (T.g.is_constant x) (T.g.interpretation.table x []) (or_zero o)) e

  module _ (at : Indices) (m n : Store) (same : AgreeOn (ordinary_in T) m n) where
    module _ (o : Answers) (rs : Results) (ha : HaveAnswers T at m n o rs) where
      mutual
        unfolding value with_results IsFineIn

        pub value_with : (a : Tree) → IsFineIn T o a → value T.g at m a ≡ value T.g at n (with_results rs a)
        value_with Empty f = refl
        value_with (Node (Leaf x) a b) (inl e) = leaf_same at m n x (same x [] e) (found_in at x) ∙ ap (value T.g at n) (sym (no_result at m n o rs ha x e (Node (Leaf x) a b)))
        value_with (Node (Leaf x) a b) (inr i) =
            let z = is_read at m n o rs ha x Empty i in
            ap (leaf_value_from T.g m x) z.no_index ∙ ap (λ c. cond c (T.g.interpretation.table x []) (or_zero (m x []))) z.no_constant
            ∙ ap or_zero (ap (m x) z.indices ∙ answer_value at m n o rs ha x Empty i (Node (Leaf x) a b))
        value_with (Node (Read x) a b) (inl e) =
            ap or_zero (same x (values T.g at m a) e.0 ∙ ap (n x) (values_agree T.g at (ordinary_in T) m n same a e.1)) ∙ ap (value T.g at n) (sym (no_result at m n o rs ha x e.0 (Node (Read x) a b)))
        value_with (Node (Read x) a b) (inr i) =
            ap or_zero (ap (m x) (is_read at m n o rs ha x a i).indices ∙ answer_value at m n o rs ha x a i (Node (Read x) a b))
        value_with (Node (Apply h) a b) f = ap (T.g.interpretation.table h) (values_with a f)
        value_with (Node Eq a b) f = ap₂ (λ x y. bit (x == y)) (value_with a f.0) (value_with b f.1)
        value_with (Node And a b) f = ap₂ (λ x y. bit (is_one x && is_one y)) (value_with a f.0) (value_with b f.1)
        value_with (Node Or a b) f = ap₂ (λ x y. bit (is_one x || is_one y)) (value_with a f.0) (value_with b f.1)
        value_with (Node Not a b) f = ap (λ x. bit (not (is_one x))) (value_with a f)
        value_with (Node Yes a b) f = refl
        value_with (Node No a b) f = refl
        value_with (Node h a b) f = absurd f

        pub values_with : (a : Tree) → AreFineIn T o a → values T.g at m a ≡ values T.g at n (with_results rs a)
        values_with Empty f = refl
        values_with (Node Cons a b) f = ap₂ ◌∷◌ (value_with a f.0) (values_with b f.1)
        values_with (Node h a b) f = absurd f

    -- conditions

    same_name : (x : ℕ) → ordinary_in T x ≡ true → cond (x == T.calls.key) T.calls.drawn.key x ≡ x
    same_name x e = ap (λ b. cond b T.calls.drawn.key x) (apart_by T is_ordinary x T.calls.key e (ap is_ordinary key_gone))

    key_name : (x : ℕ) → x ≡ T.calls.key → cond (x == T.calls.key) T.calls.drawn.key x ≡ T.calls.drawn.key
    key_name x e = ap (λ b. cond b T.calls.drawn.key x) (eq-eqb x T.calls.key e)

    leaf_next : (x : ℕ) → ordinary_in T x ≡ true → (y : ℕ) → y ≡ x → leaf_value_from T.g m x (found_in at x) ≡ leaf_value_from T.g n y (found_in at y)
    leaf_next x e y q = leaf_same at m n x (same x [] e) (found_in at x) ∙ ap (λ z. leaf_value_from T.g n z (found_in at z)) (sym q)

    mutual
      unfolding value next_in IsFineIn

      pub value_next : (a : Tree) → IsFineIn T [] a → value T.g at m a ≡ value T.g at n (next_in T.calls [] a)
      value_next Empty f = refl
      value_next (Node (Leaf x) a b) (inl e) = leaf_next x e _ (same_name x e)
      value_next (Node (Leaf x) a b) (inr i) = absurd i
      value_next (Node (Read x) a b) (inl e) =
          ap or_zero (same x (values T.g at m a) e.0 ∙ ap (n x) (values_agree T.g at (ordinary_in T) m n same a e.1)) ∙ ap (λ y. or_zero (n y (values T.g at n a))) (sym (same_name x e.0))
      value_next (Node (Read x) a b) (inr i) = absurd i
      value_next (Node (Apply h) a b) f = ap (T.g.interpretation.table h) (values_next a f)
      value_next (Node Eq a b) f = ap₂ (λ x y. bit (x == y)) (value_next a f.0) (value_next b f.1)
      value_next (Node And a b) f = ap₂ (λ x y. bit (is_one x && is_one y)) (value_next a f.0) (value_next b f.1)
      value_next (Node Or a b) f = ap₂ (λ x y. bit (is_one x || is_one y)) (value_next a f.0) (value_next b f.1)
      value_next (Node Not a b) f = ap (λ x. bit (not (is_one x))) (value_next a f)
      value_next (Node Yes a b) f = refl
      value_next (Node No a b) f = refl
      value_next (Node h a b) f = absurd f

      values_next : (a : Tree) → AreFineIn T [] a → values T.g at m a ≡ values T.g at n (next_in T.calls [] a)
      values_next Empty f = refl
      values_next (Node Cons a b) f = ap₂ ◌∷◌ (value_next a f.0) (values_next b f.1)
      values_next (Node h a b) f = absurd f

    -- cells: k and l are the stores before the find
    cell_next : (k l : Store) → AgreeOn (ordinary_in T) k l → ((w : List ℕ) → is_some (k T.calls.key w) ≡ is_some (l T.calls.drawn.key w)) → (x : ℕ) → (ordinary_in T x ≡ true) ⊎ (x ≡ T.calls.key) → (u w : List ℕ) → u ≡ w
        → is_some (k x u) ≡ is_some (l (cond (x == T.calls.key) T.calls.drawn.key x) w)
    cell_next k l before cells x (inl e) u w q = ap is_some (before x u e ∙ ap (l x) q) ∙ ap (λ y. is_some (l y w)) (sym (same_name x e))
    cell_next k l before cells x (inr e) u w q = ap (λ y. is_some (k y u)) e ∙ cells u ∙ ap (λ w. is_some (l T.calls.drawn.key w)) q ∙ ap (λ y. is_some (l y w)) (sym (key_name x e))

    pub cells_next : (k l : Store) → AgreeOn (ordinary_in T) k l → ((w : List ℕ) → is_some (k T.calls.key w) ≡ is_some (l T.calls.drawn.key w)) → (cells : Tree) → AreCells T cells
        → are_assigned T.g at k m cells ≡ are_assigned T.g at l n (next_in T.calls [] cells)
    unfolding next_in AreCells
    cells_next k l before keys Empty f = refl
    cells_next k l before keys (Node Cons (Node (Leaf x) a b) more) f =
        ap₂ (λ (y z : Bool). elim y [ true ↦ z | false ↦ false ]) (cell_next k l before keys x f.0 [] [] refl) (cells_next k l before keys more f.1)
    cells_next k l before keys (Node Cons (Node (Read x) a b) more) f =
        ap₂ (λ (y z : Bool). elim y [ true ↦ z | false ↦ false ]) (cell_next k l before keys x f.0 _ _ (values_agree T.g at (ordinary_in T) m n same a f.1)) (cells_next k l before keys more f.2)
    cells_next k l before keys _ f = absurd f

  -- candidates
  module _ (at : Indices) (m n : Store) (same : AgreeOn (ordinary_in T) m n) (keys : (w : List ℕ) → is_some (m T.calls.key w) ≡ is_some (n T.calls.drawn.key w)) where
    record SameBranches (a b : Tree) : Type 0 where
      pub candidates : (u : List ℕ) (k : ℕ) → candidates_at T.g at m u k a ≡ candidates_at T.g at n u k b
      pub most : most_indices a ≡ most_indices b
      pub wide : widest T.g.interpretation.parameter_value a ≡ widest T.g.interpretation.parameter_value b

    one_branch : (us cells c body : Tree) → AreCells T cells → IsFineIn T [] c → (u : List ℕ) (k : ℕ)
        → candidate T.g at m u k (Node Branch us (Node Cons cells (Node Cons c body))) ≡ candidate T.g at n u k (Node Branch us (Node Cons (next_in T.calls [] cells) (Node Cons (next_in T.calls [] c) (next_in T.calls [] body))))
    one_branch us cells c body fc fm u k =
        ap (λ b. elim (fits T.g.interpretation.parameter_value us u) [ true ↦ (if b then record { branch = k; tuple = u } ∷ [] else []) | false ↦ [] ])
        (ap₂ (λ (x y : Bool). elim x [ true ↦ y | false ↦ false ]) (cells_next at m' n' both m n same keys cells fc) (ap is_one (value_next at m' n' both c fm)))
      where
        m' : Store
        m' = bound_to m (tuple at) us u

        n' : Store
        n' = bound_to n (tuple at) us u

        both : AgreeOn (ordinary_in T) (bound_to m (tuple at) us u) (bound_to n (tuple at) us u)
        both = bound_same (ordinary_in T) m n same (tuple at) us u

    branches_same : (a : Tree) → AreFineBranchesIn T a → SameBranches a (next_in T.calls [] a)
    unfolding candidates_at next_in AreFineBranchesIn
    branches_same Empty f = record { candidates = λ u k. refl; most = refl; wide = refl }
    branches_same (Node Cons (Node Branch us (Node Cons cells (Node Cons c body))) more) f =
        let r = branches_same more f.4 in
        record {
          candidates = λ u k. ap₂ ◌++◌ (one_branch us cells c body f.1 f.2 u k) (r.candidates u (suc k));
          most = ap (max (binder_count us)) r.most;
          wide = ap (max (widest_binder T.g.interpretation.parameter_value us)) r.wide;
        }
    branches_same _ f = absurd f

    pub candidates_next : (a : Tree) → AreFineBranchesIn T a → candidates T.g at m a ≡ candidates T.g at n (next_in T.calls [] a)
    unfolding candidates
    candidates_next a f =
        let r = branches_same a f in
        ap₂ (λ d w. flat_map (λ u. candidates_at T.g at m u 0 a) (tuples_up_to d w)) r.most r.wide
        ∙ ap (λ h. flat_map h (tuples_up_to (most_indices (next_in T.calls [] a)) (widest T.g.interpretation.parameter_value (next_in T.calls [] a)))) (fun_ext (λ u. r.candidates u 0))
