-- The value of a term depends on the variables that it reads alone.
use Rattle.std.proofs.Common.{◌≡◌, ℕ, Bool, true, cond, ◌||◌, ◌&&◌, not, ◌==◌, [], ◌∷◌, Option, Some, None, refl, ap, ap₂, ◌∙◌}
use Rattle.std.proofs.lemmas.Bool.{and_parts}
use Rattle.cv_syntax_trees.specs.declared.head.Head.TheVariants.{Leaf, Read, Apply, Eq, And, Or, Not}
use Rattle.cv_syntax_trees.specs.Tree.{Tree, Empty, Node, head_reads_only, reads_only}
use Rattle.cv_meaning.specs.Interpretation.{Setting}
use Rattle.cv_meaning.specs.Memory.{Store, Indices}
use Rattle.cv_meaning.specs.Terms.{or_zero, found_in, bit, is_one, leaf_value_from, value, values}
use Rattle.cv_meaning_laws.specs.Agreement.{AgreeOn}

leaf_value_agree : (g : Setting) (at : Indices) (on : ℕ → Bool) (m n : Store) → AgreeOn on m n → (x : ℕ) (o : Option ℕ) → on x ≡ true → leaf_value_from g m x o ≡ leaf_value_from g n x o
leaf_value_agree g at on m n h x (Some v) e = refl
leaf_value_agree g at on m n h x None e = ap (λ o. cond (g.is_constant x) (g.interpretation.table x []) (or_zero o)) (h x [] e)

mutual
  unfolding value reads_only

  pub value_agree : (g : Setting) (at : Indices) (on : ℕ → Bool) (m n : Store) → AgreeOn on m n → (a : Tree) → reads_only on a ≡ true → value g at m a ≡ value g at n a
  value_agree g at on m n h Empty e = refl
  value_agree g at on m n h (Node (Leaf x) a b) e = leaf_value_agree g at on m n h x (found_in at x) (and_parts (on x) _ e).0
  value_agree g at on m n h (Node (Read x) a b) e =
      let p = and_parts (on x) _ e in
      ap or_zero (h x (values g at m a) p.0) ∙ ap (λ u. or_zero (n x u)) (values_agree g at on m n h a (and_parts (reads_only on a) _ p.1).0)
  value_agree g at on m n h (Node (Apply f) a b) e = ap (g.interpretation.table f) (values_agree g at on m n h a (and_parts (reads_only on a) _ e).0)
  value_agree g at on m n h (Node Eq a b) e =
      let p = and_parts (reads_only on a) _ e in
      ap₂ (λ x y. bit (x == y)) (value_agree g at on m n h a p.0) (value_agree g at on m n h b p.1)
  value_agree g at on m n h (Node And a b) e =
      let p = and_parts (reads_only on a) _ e in
      ap₂ (λ x y. bit (is_one x && is_one y)) (value_agree g at on m n h a p.0) (value_agree g at on m n h b p.1)
  value_agree g at on m n h (Node Or a b) e =
      let p = and_parts (reads_only on a) _ e in
      ap₂ (λ x y. bit (is_one x || is_one y)) (value_agree g at on m n h a p.0) (value_agree g at on m n h b p.1)
  value_agree g at on m n h (Node Not a b) e = ap (λ x. bit (not (is_one x))) (value_agree g at on m n h a (and_parts (reads_only on a) _ e).0)
  value_agree g at on m n h (Node k a b) e = refl

  pub values_agree : (g : Setting) (at : Indices) (on : ℕ → Bool) (m n : Store) → AgreeOn on m n → (a : Tree) → reads_only on a ≡ true → values g at m a ≡ values g at n a
  values_agree g at on m n h Empty e = refl
  values_agree g at on m n h (Node k a b) e =
      let p = and_parts (reads_only on a) _ (and_parts (head_reads_only on k) _ e).1 in
      ap₂ ◌∷◌ (value_agree g at on m n h a p.0) (values_agree g at on m n h b p.1)
