-- Terms have equal values in the stores of the two runs, where each name of a cell is that of the copy's owner.
use Rattle.std.proofs.Common.{◌≡◌, ℕ, ◌==◌, ◌&&◌, ◌||◌, Bool, true, false, cond, not, List, [], ◌∷◌, Option, Some, None, refl, sym, ap, ap₂, subst, ◌∙◌, eq-eqb, eqb-true}
use Rattle.std.proofs.lemmas.Bool.{and_parts, not-true}
use Rattle.std.specs.List.{AllByRecursion}
use Rattle.cv_syntax_trees.specs.declared.head.Head.{Head}
use Rattle.cv_syntax_trees.specs.declared.head.Head.TheVariants.{And, Apply, Eq, Leaf, Not, Or, Read}
use Rattle.cv_syntax_trees.specs.Tree.{Tree, Empty, Node, head_reads_only, reads_only, same_tree}
use Rattle.cv_syntax_trees.proofs.Equality.{same_tree_exact}
use Rattle.cv_meaning.specs.Interpretation.{Setting}
use Rattle.cv_meaning.specs.Memory.{Indices, Store}
use Rattle.cv_meaning.specs.Terms.{bit, found_in, is_one, leaf_value, leaf_value_from, or_zero, value, values}
use Rattle.cv_edit_names.specs.Cells.{called_head, is_cell_of, name_of, with_names}
use Rattle.cv_rule_array_names.proofs.Stores.{AreSplit, Free, free_first, free_second, head_free, is_name}

-- the tuple of a cell
abbrev pub tuple_in : Setting → Indices → Store → Tree → List ℕ
tuple_in g at m (Node (Read x) a b) = values g at m a
tuple_in g at m t = []

-- a name that is told of a cell is one of those
pub name_holds : (P : Tree × ℕ → Type 0) (named : List (Tree × ℕ)) (t : Tree) (y : ℕ) → AllByRecursion P named → name_of named t ≡ Some y → P (t, y)
name_holds P [] t y h e = absurd (cc)
name_holds P (d ∷ ds) t y h e = go (same_tree d.0 t) refl (name_holds P ds t y h.1) e
  where
    go : (b : Bool) → same_tree d.0 t ≡ b → (name_of ds t ≡ Some y → P (t, y)) → cond b (Some d.1) (name_of ds t) ≡ Some y → P (t, y)
    go true i ih k = let j : d.1 ≡ y = cc in subst (λ (q : Tree × ℕ). P q) (λ n. (same_tree_exact d.0 t i n, j n)) h.0
    go false i ih k = ih k

-- what is asked of names where terms are read: the variable and its names are no indices and no constants
pub record AreVariables (g : Setting) (x : ℕ) (ys : List ℕ) (at : Indices) : Type 0 where
  pub no_index : found_in at x ≡ None
  pub no_indices : (y : ℕ) → is_name ys y ≡ true → found_in at y ≡ None
  pub no_constant : g.is_constant x ≡ false
  pub no_constants : (y : ℕ) → is_name ys y ≡ true → g.is_constant y ≡ false

-- a cell has the name of its owner
pub record IsOwned (g : Setting) (x : ℕ) (ys : List ℕ) (o : List ℕ → ℕ) (at : Indices) (m : Store) (d : Tree × ℕ) : Type 0 where
  pub cell : is_cell_of x d.0 ≡ true
  pub owner : o (tuple_in g at m d.0) ≡ d.1

-- the tree reads the variable nowhere
abbrev pub Unread : ℕ → Tree → Type 0
Unread x t = reads_only (λ z. not (z == x)) t ≡ true

pub unread_head : (x : ℕ) (h : Head) (a b : Tree) → Unread x (Node h a b) → head_reads_only (λ z. not (z == x)) h ≡ true
unfolding reads_only
unread_head x h a b e = (and_parts (head_reads_only (λ z. not (z == x)) h) _ e).0

pub unread_first : (x : ℕ) (h : Head) (a b : Tree) → Unread x (Node h a b) → Unread x a
unfolding reads_only
unread_first x h a b e = (and_parts (reads_only (λ z. not (z == x)) a) _ (and_parts (head_reads_only (λ z. not (z == x)) h) _ e).1).0

pub unread_second : (x : ℕ) (h : Head) (a b : Tree) → Unread x (Node h a b) → Unread x b
unfolding reads_only
unread_second x h a b e = (and_parts (reads_only (λ z. not (z == x)) a) _ (and_parts (head_reads_only (λ z. not (z == x)) h) _ e).1).1

module _ (g : Setting) (x : ℕ) (ys : List ℕ) (o : List ℕ → ℕ) (owns : (w : List ℕ) → is_name ys (o w) ≡ true) (at : Indices) (vars : AreVariables g x ys at) (m n : Store) (s : AreSplit x ys o m n) where
  abbrev Owned : Tree × ℕ → Type 0
  Owned d = IsOwned g x ys o at m d

  -- a name that is none of these
  leaf_from : (z : ℕ) (v : Option ℕ) → m z [] ≡ n z [] → leaf_value_from g m z v ≡ leaf_value_from g n z v
  leaf_from z (Some v) e = refl
  leaf_from z None e = ap (λ q. cond (g.is_constant z) (g.interpretation.table z []) (or_zero q)) e

  plain_leaf : (k : Store) (z : ℕ) → found_in at z ≡ None → g.is_constant z ≡ false → leaf_value g at k z ≡ or_zero (k z [])
  plain_leaf k z e f = ap (leaf_value_from g k z) e ∙ ap (λ b. cond b (g.interpretation.table z []) (or_zero (k z []))) f

  leaf_named : (z : ℕ) (a b : Tree) (q : Option ℕ) → is_name ys z ≡ false → head_reads_only (λ z. not (z == x)) (called_head (Leaf z) q) ≡ true → ((y : ℕ) → q ≡ Some y → Owned (Node (Leaf z) a b, y))
      → (c e : Tree) → leaf_value g at m z ≡ value g at n (Node (called_head (Leaf z) q) c e)
  unfolding value
  leaf_named z a b None f e h c l = leaf_from z (found_in at z) (s.same z (not-true _ e) f [])
  leaf_named z a b (Some y) f e h c l =
      let d : Owned (Node (Leaf z) a b, y) = h y refl in
      let same : z ≡ x = eqb-true z x d.cell in
      ap (leaf_value g at m) same ∙ plain_leaf m x vars.no_index vars.no_constant ∙ ap or_zero (s.owned []) ∙ ap (λ k. or_zero (n k [])) d.owner
      ∙ sym (plain_leaf n y (vars.no_indices y (ap (is_name ys) (sym d.owner) ∙ owns [])) (vars.no_constants y (ap (is_name ys) (sym d.owner) ∙ owns [])))

  read_named : (z : ℕ) (a b c : Tree) (q : Option ℕ) → is_name ys z ≡ false → head_reads_only (λ z. not (z == x)) (called_head (Read z) q) ≡ true → ((y : ℕ) → q ≡ Some y → Owned (Node (Read z) a b, y))
      → values g at m a ≡ values g at n c → (e : Tree) → or_zero (m z (values g at m a)) ≡ value g at n (Node (called_head (Read z) q) c e)
  unfolding value
  read_named z a b c None f e h i r = ap or_zero (s.same z (not-true _ e) f (values g at m a) ∙ ap (n z) i)
  read_named z a b c (Some y) f e h i r =
      let d : Owned (Node (Read z) a b, y) = h y refl in
      let same : z ≡ x = eqb-true z x d.cell in
      ap (λ k. or_zero (m k (values g at m a))) same ∙ ap or_zero (s.owned (values g at m a)) ∙ ap₂ (λ k w. or_zero (n k w)) d.owner i

  module _ (named : List (Tree × ℕ)) (owned : AllByRecursion Owned named) where
    mutual
      unfolding value with_names

      pub value_named : (t : Tree) → Free ys t → Unread x (with_names named t) → value g at m t ≡ value g at n (with_names named t)
      value_named Empty f u = refl
      value_named (Node (Leaf z) a b) f u =
          leaf_named z a b (name_of named (Node (Leaf z) a b)) (head_free ys (Leaf z) a b z (eq-eqb z z refl) f) (unread_head x _ _ _ u) (λ y e. name_holds Owned named (Node (Leaf z) a b) y owned e)
          (with_names named a) (with_names named b)
      value_named (Node (Read z) a b) f u =
          read_named z a b (with_names named a) (name_of named (Node (Read z) a b)) (head_free ys (Read z) a b z (eq-eqb z z refl) f) (unread_head x _ _ _ u) (λ y e. name_holds Owned named (Node (Read z) a b) y owned e)
          (values_named a (free_first ys (Read z) a b f) (unread_first x _ _ _ u)) (with_names named b)
      value_named (Node (Apply q) a b) f u = ap (g.interpretation.table q) (values_named a (free_first ys (Apply q) a b f) (unread_first x _ _ _ u))
      value_named (Node Eq a b) f u = ap₂ (λ p q. bit (p == q)) (value_named a (free_first ys Eq a b f) (unread_first x _ _ _ u)) (value_named b (free_second ys Eq a b f) (unread_second x _ _ _ u))
      value_named (Node And a b) f u = ap₂ (λ p q. bit (is_one p && is_one q)) (value_named a (free_first ys And a b f) (unread_first x _ _ _ u)) (value_named b (free_second ys And a b f) (unread_second x _ _ _ u))
      value_named (Node Or a b) f u = ap₂ (λ p q. bit (is_one p || is_one q)) (value_named a (free_first ys Or a b f) (unread_first x _ _ _ u)) (value_named b (free_second ys Or a b f) (unread_second x _ _ _ u))
      value_named (Node Not a b) f u = ap (λ p. bit (not (is_one p))) (value_named a (free_first ys Not a b f) (unread_first x _ _ _ u))
      value_named (Node h a b) f u = refl

      pub values_named : (t : Tree) → Free ys t → Unread x (with_names named t) → values g at m t ≡ values g at n (with_names named t)
      values_named Empty f u = refl
      values_named (Node h a b) f u = ap₂ ◌∷◌ (value_named a (free_first ys h a b f) (unread_first x _ _ _ u)) (values_named b (free_second ys h a b f) (unread_second x _ _ _ u))
