-- Right bodies, and keys of calls, that can stand in a game. This profile's own.
use Rattle.std.specs.Prelude.{◌≡◌, ℕ, suc, Bool, true, false, ◌==◌, ◌&&◌, ◌||◌, List, [], ◌∷◌, ◌⊎◌, Option, Some, None}
use Rattle.std.specs.List.{AllByRecursion}
use Rattle.cv_syntax_trees.specs.declared.head.Head.TheVariants.{Leaf, Read, Apply, Eq, And, Or, Not, Cons, Binder, Branch, New, Let, If, Find}
use Rattle.cv_syntax_trees.specs.Tree.{Tree, Empty, Node, first, first_place, second_place}
use Rattle.cv_meaning.specs.contexts.Bodies.{body_place}
use Rattle.cv_meaning.specs.contexts.Made.{has_cell_at}
use Rattle.cv_meaning.specs.contexts.Inlined.{Caller, Standing, Own, Scope, standing_of, call_in, index_terms, with_call_of}
use Rattle.cv_inline.specs.bodies.Inlining.{Inlining}

-- the function has assigned the name above
abbrev pub is_own_variable : Standing → Bool
is_own_variable Own = true
is_own_variable s = false

abbrev pub is_assigned_above : Scope → ℕ → Bool
is_assigned_above [] x = false
is_assigned_above (y ∷ ys) x = (is_own_variable y.1 && (y.0 == x)) || is_assigned_above ys x

module _ (p : Inlining) where
  -- v[u], of a site at which v is drawn
  abbrev pub IsFineArray : ℕ → Option (ℕ × Tree) → Type 0
  IsFineArray v None = ⊥
  IsFineArray v (Some k) = p.has k.0 v ≡ true

  -- a term: of names that are bound above, and of constants
  unfoldable mutual
    pub IsFineTerm : Scope → Tree → Type 0
    IsFineTerm Σ Empty = Unit {0}
    IsFineTerm Σ (Node (Leaf x) a b) = standing_of Σ x ≡ None → p.constant x ≡ true
    IsFineTerm Σ (Node (Read v) a b) = IsFineArray v (call_in Σ (first a))
    IsFineTerm Σ (Node (Apply f) a b) = AreFineTerms Σ a
    IsFineTerm Σ (Node Eq a b) = IsFineTerm Σ a × IsFineTerm Σ b
    IsFineTerm Σ (Node And a b) = IsFineTerm Σ a × IsFineTerm Σ b
    IsFineTerm Σ (Node Or a b) = IsFineTerm Σ a × IsFineTerm Σ b
    IsFineTerm Σ (Node Not a b) = IsFineTerm Σ a
    IsFineTerm Σ (Node h a b) = Unit {0}

    pub AreFineTerms : Scope → Tree → Type 0
    AreFineTerms Σ Empty = Unit {0}
    AreFineTerms Σ (Node Cons a b) = IsFineTerm Σ a × AreFineTerms Σ b
    AreFineTerms Σ (Node h a b) = ⊥

  -- the cells of a `defined` list: v[u], and names of the function
  abbrev pub AreFineCells : Scope → Tree → Type 0
  AreFineCells Σ Empty = Unit {0}
  AreFineCells Σ (Node Cons (Node (Read v) a b) more) = IsFineArray v (call_in Σ (first a)) × AreFineCells Σ more
  AreFineCells Σ (Node Cons (Node (Leaf x) a b) more) = (p.has p.c.number x ≡ true) × AreFineCells Σ more
  AreFineCells Σ _ = ⊥

  -- a list with a name that the function assigns, but not above: no call has assigned it there
  abbrev pub IsNeverAssigned : Scope → Tree → Type 0
  IsNeverAssigned Σ (Node h (Node (Leaf x) a b) more) = ((p.has p.c.number x ≡ true) × (is_assigned_above Σ x ≡ false)) ⊎ IsNeverAssigned Σ more
  IsNeverAssigned Σ (Node h a more) = IsNeverAssigned Σ more
  IsNeverAssigned Σ Empty = ⊥

  -- where the index u of the k-th branch of the find at q stands for calls of a site
  abbrev pub scope_for : (q : ℕ) → Scope → Caller → (k u : ℕ) → Scope
  scope_for q Σ s k u = with_call_of Σ u (index_terms p.c.replications) (p.d.index p.c.number q s.number k) s

  -- bodies at places of the text, in a game with these callers
  module _ (callers : List Caller) where
    unfoldable mutual
      pub IsFineBody : Scope → ℕ → Tree → Type 0
      IsFineBody Σ q (Node (New z T) a b) = (p.has p.c.number z ≡ true) × IsFineBody ((z, Own) ∷ Σ) (second_place q (New z T) a) b
      IsFineBody Σ q (Node (Let z T) a b) = (p.has p.c.number z ≡ true) × IsFineTerm Σ a × IsFineBody ((z, Own) ∷ Σ) (second_place q (Let z T) a) b
      IsFineBody Σ q (Node If a (Node h b (Node j e f))) =
          IsFineTerm Σ a × IsFineBody Σ (first_place (second_place q If a) h) b × IsFineBody Σ (first_place (second_place (second_place q If a) h b) j) e
      IsFineBody Σ q (Node (Find l) a b) =
          (p.finds q ≡ true) × AllByRecursion (λ s. AreFineBranches Σ q s 0 (first_place q (Find l)) a) callers × IsFineBody Σ (second_place q (Find l) a) b
      IsFineBody Σ q m = IsFineTerm Σ m

      -- the branches of the find at q, from number k and place r on, as far as they go over the calls of a site;
      -- where a branch is never a candidate, its text is free
      pub AreFineBranches : Scope → (q : ℕ) → Caller → (k r : ℕ) → Tree → Type 0
      AreFineBranches Σ q s k r (Node Cons (Node Branch (Node (Binder u n) x y) (Node Cons cells (Node Cons m body))) more) =
          ((s.bound == n) ≡ true → (p.opens q s.number k ≡ true)
          × ((AreFineCells (scope_for q Σ s k u) cells × IsFineTerm (scope_for q Σ s k u) m × (has_cell_at u cells ≡ true)
          × IsFineBody (scope_for q Σ s k u) (body_place r Cons Branch (Node (Binder u n) x y) Cons cells Cons m) body)
          ⊎ IsNeverAssigned Σ cells))
          × AreFineBranches Σ q s (suc k) (second_place r Cons (Node Branch (Node (Binder u n) x y) (Node Cons cells (Node Cons m body)))) more
      AreFineBranches Σ q s k r Empty = Unit {0}
      AreFineBranches Σ q s k r _ = ⊥

    -- a body behind its arguments
    unfoldable pub IsFineCall : Scope → List (ℕ × ℕ) → (arguments body : Tree) → Type 0
    IsFineCall Σ (x ∷ xs) (Node h m more) body = (p.has p.c.number x.0 ≡ true) × IsFineCall ((x.0, Own) ∷ Σ) xs more body
    IsFineCall Σ _ _ body = IsFineBody Σ 0 body
