-- A term whose reads are assigned has the same value in every later store, and below more replications.
use Rattle.std.proofs.Common.{◌≡◌, ℕ, Bool, true, false, cond, ◌&&◌, ◌||◌, not, ◌==◌, List, [], ◌∷◌, inl, inr, Option, Some, None, is_some, refl, sym, ap, ap₂, subst, ◌∙◌}
use Rattle.std.proofs.lemmas.Bool.{both_ways}
use Rattle.cv_syntax_trees.specs.declared.head.Head.TheVariants.{Leaf, Read, Apply, Eq, And, Or, Not}
use Rattle.cv_syntax_trees.specs.Tree.{Tree, Empty, Node}
use Rattle.cv_meaning.specs.Interpretation.{Setting}
use Rattle.cv_meaning.specs.Memory.{Store, Indices}
use Rattle.cv_meaning.specs.Terms.{or_zero, found_in, bit, is_one, leaf_value_from, leaf_value, value, values}
use Rattle.cv_scope_runs.specs.Reads.{IsKept, LeafAssigned, TermAssigned, TermsAssigned}

pub some_of : (o : Option ℕ) → is_some o ≡ true → (v : ℕ) × (o ≡ Some v)
some_of None e = absurd (both_ways _ refl e)
some_of (Some v) e = (v, refl)

pub later_same : (m n : Store) → IsKept m n → (x : ℕ) (u : List ℕ) → is_some (m x u) ≡ true → n x u ≡ m x u
later_same m n l x u e = let r = some_of (m x u) e in l x u r.0 r.1 ∙ sym r.1

-- what a leaf reads is there, and its name is no index of a later replication
pub data LeafReads (g : Setting) (variable : ℕ → Bool) (at : Indices) (m : Store) (x : ℕ) : Type 0 where
  index : (v : ℕ) → found_in at x ≡ Some v → LeafReads g variable at m x
  constant : found_in at x ≡ None → g.is_constant x ≡ true → LeafReads g variable at m x
  cell : found_in at x ≡ None → g.is_constant x ≡ false → variable x ≡ true → is_some (m x []) ≡ true → LeafReads g variable at m x

abbrev mutual
  pub Readable : Setting → (ℕ → Bool) → Indices → Store → Tree → Type 0
  Readable g variable at m Empty = Unit {0}
  Readable g variable at m (Node (Leaf x) a b) = LeafReads g variable at m x
  Readable g variable at m (Node (Read x) a b) = (is_some (m x (values g at m a)) ≡ true) × AllReadable g variable at m a
  Readable g variable at m (Node (Apply f) a b) = AllReadable g variable at m a
  Readable g variable at m (Node h a b) = Readable g variable at m a × Readable g variable at m b

  pub AllReadable : Setting → (ℕ → Bool) → Indices → Store → Tree → Type 0
  AllReadable g variable at m Empty = Unit {0}
  AllReadable g variable at m (Node h a b) = Readable g variable at m a × AllReadable g variable at m b

leaf_there : (g : Setting) (variable : ℕ → Bool) (at : Indices) (m : Store) (x : ℕ) → LeafReads g variable at m x → LeafAssigned g m x (found_in at x)
leaf_there g variable at m x (index v e) = subst (LeafAssigned g m x) (sym e) tt
leaf_there g variable at m x (constant e c) = subst (LeafAssigned g m x) (sym e) (inl c)
leaf_there g variable at m x (cell e c v s) = subst (LeafAssigned g m x) (sym e) (inr s)

mutual
  pub readable_assigned : (g : Setting) (variable : ℕ → Bool) (at : Indices) (m : Store) (t : Tree) → Readable g variable at m t → TermAssigned g at m t
  readable_assigned g variable at m Empty r = tt
  readable_assigned g variable at m (Node (Leaf x) a b) r = leaf_there g variable at m x r
  readable_assigned g variable at m (Node (Read x) a b) r = (r.0, all_readable_assigned g variable at m a r.1)
  readable_assigned g variable at m (Node (Apply f) a b) r = all_readable_assigned g variable at m a r
  readable_assigned g variable at m (Node h a b) r = (readable_assigned g variable at m a r.0, readable_assigned g variable at m b r.1)

  pub all_readable_assigned : (g : Setting) (variable : ℕ → Bool) (at : Indices) (m : Store) (t : Tree) → AllReadable g variable at m t → TermsAssigned g at m t
  all_readable_assigned g variable at m Empty r = tt
  all_readable_assigned g variable at m (Node h a b) r = (readable_assigned g variable at m a r.0, all_readable_assigned g variable at m b r.1)

-- more indices, none of them a constant or a variable, and a later store
pub record Extends (g : Setting) (variable : ℕ → Bool) (at : Indices) (m : Store) (at' : Indices) (n : Store) : Type 0 where
  pub found : (x v : ℕ) → found_in at x ≡ Some v → found_in at' x ≡ Some v
  pub constants : (x : ℕ) → g.is_constant x ≡ true → found_in at x ≡ None → found_in at' x ≡ None
  pub variables : (x : ℕ) → variable x ≡ true → found_in at x ≡ None → found_in at' x ≡ None
  pub store : IsKept m n

pub store_extends : (g : Setting) (variable : ℕ → Bool) (at : Indices) (m n : Store) → IsKept m n → Extends g variable at m at n
store_extends g variable at m n l = record { found = λ x v e. e; constants = λ x c e. e; variables = λ x c e. e; store = l }

module _ (g : Setting) (variable : ℕ → Bool) (at : Indices) (m : Store) (at' : Indices) (n : Store) (e : Extends g variable at m at' n) where
  leaf_kept : (x : ℕ) → LeafReads g variable at m x → leaf_value g at' n x ≡ leaf_value g at m x
  leaf_kept x (index v i) = ap (leaf_value_from g n x) (e.found x v i) ∙ sym (ap (leaf_value_from g m x) i)
  leaf_kept x (constant i c) =
      ap (leaf_value_from g n x) (e.constants x c i) ∙ ap (λ b. cond b (g.interpretation.table x []) (or_zero (n x []))) c
      ∙ sym (ap (leaf_value_from g m x) i ∙ ap (λ b. cond b (g.interpretation.table x []) (or_zero (m x []))) c)
  leaf_kept x (cell i c v s) =
      ap (leaf_value_from g n x) (e.variables x v i) ∙ ap (λ o. cond (g.is_constant x) (g.interpretation.table x []) (or_zero o)) (later_same m n e.store x [] s)
      ∙ sym (ap (leaf_value_from g m x) i)

  mutual
    unfolding value

    pub value_kept : (t : Tree) → Readable g variable at m t → value g at' n t ≡ value g at m t
    value_kept Empty r = refl
    value_kept (Node (Leaf x) a b) r = leaf_kept x r
    value_kept (Node (Read x) a b) r = ap (λ u. or_zero (n x u)) (values_kept a r.1) ∙ ap or_zero (later_same m n e.store x (values g at m a) r.0)
    value_kept (Node (Apply f) a b) r = ap (g.interpretation.table f) (values_kept a r)
    value_kept (Node Eq a b) r = ap₂ (λ x y. bit (x == y)) (value_kept a r.0) (value_kept b r.1)
    value_kept (Node And a b) r = ap₂ (λ x y. bit (is_one x && is_one y)) (value_kept a r.0) (value_kept b r.1)
    value_kept (Node Or a b) r = ap₂ (λ x y. bit (is_one x || is_one y)) (value_kept a r.0) (value_kept b r.1)
    value_kept (Node Not a b) r = ap (λ x. bit (not (is_one x))) (value_kept a r.0)
    value_kept (Node h a b) r = refl

    pub values_kept : (t : Tree) → AllReadable g variable at m t → values g at' n t ≡ values g at m t
    values_kept Empty r = refl
    values_kept (Node h a b) r = ap₂ ◌∷◌ (value_kept a r.0) (values_kept b r.1)

  leaf_still : (x : ℕ) → LeafReads g variable at m x → LeafReads g variable at' n x
  leaf_still x (index v i) = index v (e.found x v i)
  leaf_still x (constant i c) = constant (e.constants x c i) c
  leaf_still x (cell i c v s) = cell (e.variables x v i) c v (ap is_some (later_same m n e.store x [] s) ∙ s)

  mutual
    pub readable_kept : (t : Tree) → Readable g variable at m t → Readable g variable at' n t
    readable_kept Empty r = tt
    readable_kept (Node (Leaf x) a b) r = leaf_still x r
    readable_kept (Node (Read x) a b) r =
        (ap (λ u. is_some (n x u)) (values_kept a r.1) ∙ ap is_some (later_same m n e.store x (values g at m a) r.0) ∙ r.0, all_readable_kept a r.1)
    readable_kept (Node (Apply f) a b) r = all_readable_kept a r
    readable_kept (Node h a b) r = (readable_kept a r.0, readable_kept b r.1)

    pub all_readable_kept : (t : Tree) → AllReadable g variable at m t → AllReadable g variable at' n t
    all_readable_kept Empty r = tt
    all_readable_kept (Node h a b) r = (readable_kept a r.0, all_readable_kept b r.1)
