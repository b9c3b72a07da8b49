-- What a find chooses is a candidate, and what a candidate's body may take for granted.
use Rattle.std.proofs.Common.{◌≡◌, ℕ, zero, suc, ◌+◌, ◌%◌, Bool, true, false, cond, ◌==◌, List, [], ◌∷◌, Some, None, is_some, length, slice_get, nat_lt, map, refl, ap, ap₂, subst, ◌∙◌, eq-eqb, eqb-true, arith}
use Rattle.std.proofs.lemmas.Bool.{both_ways, and_parts, or_left, or_right}
use Rattle.std.specs.List.{AllByRecursion}
use Rattle.cv_syntax_trees.specs.declared.head.Head.TheVariants.{Leaf, Read, Cons, Binder}
use Rattle.cv_syntax_trees.specs.Tree.{Tree, Empty, Node, first, second}
use Rattle.cv_meaning.specs.Interpretation.{Setting}
use Rattle.cv_meaning.specs.Memory.{Store, Indices, Happened, put, tuple}
use Rattle.cv_meaning.specs.Terms.{or_zero, value, values}
use Rattle.cv_meaning.specs.Binders.{fits, bound_to}
use Rattle.cv_meaning.specs.Candidates.{Candidate, is_assigned, are_assigned, is_candidate, candidate, candidates_at, candidates, chosen, tuples_up_to, most_indices, widest}
use Rattle.cv_meaning_laws.proofs.Lists.{each_flat_map}
use Rattle.cv_scope_rules.specs.declared.position.Position.TheVariants as position
use Rattle.cv_scope_rules.specs.Context.{Context, cells_of, items, with_cells}
use Rattle.cv_scope_rules.specs.Phrases.{Terms, Cells, OneCell, is_oracle_phrase}
use Rattle.cv_scope_runs.specs.Reads.{IsKept, CellAssigned, CellsAssigned}
use Rattle.cv_scope_rules.specs.Made.{is_bound}
use Rattle.cv_scope_runs.proofs.Asked.{Asked, AreDistinct}
use Rattle.cv_scope_runs.proofs.TermsLater.{cell, later_same, all_readable_assigned}
use Rattle.cv_scope_runs.proofs.Contexts.{Matches, CellHolds, Holds, NamesApart, game_names, own_holds, own_value, not_constant, variable_none, all_scope_readable, put_here, put_other, bound_later}
use Rattle.cv_syntax_trees.proofs.lists.Each.{AllByRecursion_append, AllByRecursion_weaker}

-- the branch is a candidate at the tuple
pub record IsChosen (g : Setting) (at : Indices) (m : Store) (branch : Tree) (u : List ℕ) : Type 0 where
  pub fitting : fits g.interpretation.parameter_value (first branch) u ≡ true
  pub candidate : is_candidate g at m (bound_to m (tuple at) (first branch) u) (second branch) ≡ true

-- so is the k-th of these branches
abbrev pub BranchAt : Setting → Indices → Store → Tree → ℕ → List ℕ → Type 0
BranchAt g at m Empty k u = ⊥
BranchAt g at m (Node h branch more) zero u = IsChosen g at m branch u
BranchAt g at m (Node h branch more) (suc k) u = BranchAt g at m more k u

abbrev pub NumberedFrom : Setting → Indices → Store → ℕ → Tree → Candidate → Type 0
NumberedFrom g at m k branches c = (j : ℕ) × (c.branch ≡ j + k) × BranchAt g at m branches j c.tuple

candidate_fine : (g : Setting) (at : Indices) (m : Store) (u : List ℕ) (k : ℕ) (branch : Tree) (P : Candidate → Type 0) → (IsChosen g at m branch u → P (record { branch = k; tuple = u })) → AllByRecursion P (candidate g at m u k branch)
candidate_fine g at m u k branch P h = go (fits g.interpretation.parameter_value (first branch) u) refl
  where
    n : Store
    n = bound_to m (tuple at) (first branch) u

    inner : (b : Bool) → is_candidate g at m n (second branch) ≡ b → fits g.interpretation.parameter_value (first branch) u ≡ true → AllByRecursion P (cond b (record { branch = k; tuple = u } ∷ []) [])
    inner true e f = (h (record { fitting = f; candidate = e }), tt)
    inner false e f = tt

    go : (b : Bool) → fits g.interpretation.parameter_value (first branch) u ≡ b → AllByRecursion P (elim b [ true ↦ cond (is_candidate g at m n (second branch)) (record { branch = k; tuple = u } ∷ []) [] | false ↦ [] ])
    go true e = inner (is_candidate g at m n (second branch)) refl e
    go false e = tt

candidates_at_fine : (g : Setting) (at : Indices) (m : Store) (u : List ℕ) (k : ℕ) (branches : Tree) → AllByRecursion (NumberedFrom g at m k branches) (candidates_at g at m u k branches)
unfolding candidates_at
candidates_at_fine g at m u k Empty = tt
candidates_at_fine g at m u k (Node h branch more) =
    AllByRecursion_append (NumberedFrom g at m k (Node h branch more)) (candidate g at m u k branch) (candidates_at g at m u (suc k) more)
    (candidate_fine g at m u k branch (NumberedFrom g at m k (Node h branch more)) (λ c. (0, (let q : k ≡ 0 + k = omega arith in q), c)))
    (AllByRecursion_weaker (NumberedFrom g at m (suc k) more) (NumberedFrom g at m k (Node h branch more)) (λ c x. (suc x.0, (let e = x.1 in let q : c.branch ≡ suc x.0 + k = omega arith in q), x.2)) (candidates_at g at m u (suc k) more) (candidates_at_fine g at m u (suc k) more))

abbrev pub IsBranch : Setting → Indices → Store → Tree → Candidate → Type 0
IsBranch g at m branches c = BranchAt g at m branches c.branch c.tuple

pub candidates_fine : (g : Setting) (at : Indices) (m : Store) (branches : Tree) → AllByRecursion (IsBranch g at m branches) (candidates g at m branches)
unfolding candidates
candidates_fine g at m branches =
    each_flat_map (IsBranch g at m branches) (λ u. candidates_at g at m u 0 branches) (tuples_up_to (most_indices branches) (widest g.interpretation.parameter_value branches))
    (λ u. AllByRecursion_weaker (NumberedFrom g at m 0 branches) (IsBranch g at m branches) (λ c x. let e = x.1 in let q : x.0 ≡ c.branch = omega arith in subst (λ k. BranchAt g at m branches k c.tuple) q x.2) (candidates_at g at m u 0 branches) (candidates_at_fine g at m u 0 branches))

got_fine : (P : Candidate → Type 0) (cs : List Candidate) (i : ℕ) (c : Candidate) → AllByRecursion P cs → slice_get cs i ≡ Some c → P c
got_fine P [] i c h e = cc
got_fine P (d ∷ cs) zero c h e = let q : d ≡ c = cc in subst P q h.0
got_fine P (d ∷ cs) (suc i) c h e = got_fine P cs i c h.1 e

pub chosen_fine : (P : Candidate → Type 0) (cs : List Candidate) (v : ℕ) (c : Candidate) → AllByRecursion P cs → chosen cs v ≡ Some c → P c
unfolding chosen
chosen_fine P [] v c h e = cc
chosen_fine P (d ∷ cs) v c h e = got_fine P (d ∷ cs) (v % length (d ∷ cs)) c h e

module _ (g : Setting) (variable : ℕ → Bool) where
  -- the variables of binders that fit are assigned
  pub bound_cells : NamesApart g variable → (rs : List (ℕ × ℕ)) (at : Indices) → Matches g variable rs at → (range : ℕ → ℕ) (m n : Store) (bs : Tree) (vs : List ℕ) → AreDistinct bs → ((y : ℕ) → is_bound bs y ≡ true → variable y ≡ true)
      → ((y : ℕ) → is_bound bs y ≡ true → m y (tuple at) ≡ None) → fits range bs vs ≡ true → IsKept (bound_to m (tuple at) bs vs) n → AllByRecursion (CellHolds g variable at n) (cells_of rs bs)
  unfolding bound_to is_bound
  bound_cells apart rs at k range m n Empty vs d var f e l = tt
  bound_cells apart rs at k range m n (Node (Binder x T) a b) [] d var f e l = absurd (both_ways _ refl e)
  bound_cells apart rs at k range m n (Node (Binder x T) a b) (v ∷ vs) d var f e l =
      let p : Store = put m x (tuple at) v in
      let free : (y : ℕ) → is_bound b y ≡ true → p y (tuple at) ≡ None = λ y i. put_other m x (tuple at) v y (tuple at) (λ z j. both_ways (is_bound b y) (ap (is_bound b) (eqb-true y x z) ∙ d.0) i) ∙ f y (or_right (y == x) _ i) in (
        own_holds g variable apart rs at n k x (var x (or_left (x == x) _ (eq-eqb x x refl))) (ap is_some (l x (tuple at) v (bound_later p (tuple at) b vs d.1 free x (tuple at) v (put_here m x (tuple at) v)))),
        bound_cells apart rs at k range p n b vs d.1 (λ y i. var y (or_right (y == x) _ i)) free (and_parts (nat_lt v (range T)) _ e).1 l,
      )
  bound_cells apart rs at k range m n (Node h a b) vs d var f e l = tt

  -- and have the tuple's values
  pub bound_values : NamesApart g variable → (rs : List (ℕ × ℕ)) (at : Indices) → Matches g variable rs at → (range : ℕ → ℕ) (m n : Store) (bs : Tree) (vs : List ℕ) → AreDistinct bs → ((y : ℕ) → is_bound bs y ≡ true → variable y ≡ true)
      → ((y : ℕ) → is_bound bs y ≡ true → m y (tuple at) ≡ None) → fits range bs vs ≡ true → IsKept (bound_to m (tuple at) bs vs) n → map (value g at n) (cells_of rs bs) ≡ vs
  unfolding bound_to is_bound
  bound_values apart rs at k range m n Empty [] d var f e l = refl
  bound_values apart rs at k range m n Empty (v ∷ vs) d var f e l = absurd (both_ways _ refl e)
  bound_values apart rs at k range m n (Node (Binder x T) a b) [] d var f e l = absurd (both_ways _ refl e)
  bound_values apart rs at k range m n (Node (Binder x T) a b) (v ∷ vs) d var f e l =
      let p : Store = put m x (tuple at) v in
      let free : (y : ℕ) → is_bound b y ≡ true → p y (tuple at) ≡ None = λ y i. put_other m x (tuple at) v y (tuple at) (λ z j. both_ways (is_bound b y) (ap (is_bound b) (eqb-true y x z) ∙ d.0) i) ∙ f y (or_right (y == x) _ i) in
      ap₂ ◌∷◌
      (own_value g variable apart rs at n k x (var x (or_left (x == x) _ (eq-eqb x x refl))) ∙ ap or_zero (l x (tuple at) v (bound_later p (tuple at) b vs d.1 free x (tuple at) v (put_here m x (tuple at) v))))
      (bound_values apart rs at k range p n b vs d.1 (λ y i. var y (or_right (y == x) _ i)) free (and_parts (nat_lt v (range T)) _ e).1 l)
  bound_values apart rs at k range m n (Node h a b) vs d var f e l = absurd (both_ways _ refl e)

  -- what is assigned is a variable of the game
  abbrev pub OnlyVariables : Store → Type 0
  OnlyVariables m = (x : ℕ) (u : List ℕ) → is_some (m x u) ≡ true → variable x ≡ true

  -- a cell of a list that is assigned
  pub listed_cell : NamesApart g variable → (Γ : Context) (at : Indices) (m n : Store) (es : List Happened) → Matches g variable Γ.replications at → Holds g variable Γ at n es → IsKept m n → OnlyVariables m
      → (c : Tree) → is_oracle_phrase OneCell c ≡ true → Asked (game_names g variable) position.OneCell Γ c → is_assigned g at m n c ≡ true → CellHolds g variable at n c
  unfolding is_oracle_phrase
  listed_cell apart Γ at m n es k h l o (Node (Leaf x) a b) f s z =
      let v : variable x ≡ true = o x [] z in
      let y : is_some (n x []) ≡ true = ap is_some (later_same m n l x [] z) ∙ z in
      record { readable = cell (variable_none g variable Γ.replications at k x v) (not_constant g variable apart x v) v y; assigned = y }
  listed_cell apart Γ at m n es k h l o (Node (Read x) a b) f s z =
      let y : is_some (n x (values g at n a)) ≡ true = ap is_some (later_same m n l x (values g at n a) z) ∙ z in
      record { readable = (y, all_scope_readable g variable Γ at n es k h a (and_parts (is_oracle_phrase Terms a) _ f).0 s.1); assigned = y }
  listed_cell apart Γ at m n es k h l o (Node j a b) f s z = absurd (both_ways _ refl f)
  listed_cell apart Γ at m n es k h l o Empty f s z = absurd (both_ways _ refl f)

  pub with_cell_holds : (Γ : Context) (at : Indices) (n : Store) (es : List Happened) (c : Tree) → Holds g variable Γ at n es → CellHolds g variable at n c → Holds g variable (with_cells Γ (c ∷ [])) at n es
  with_cell_holds Γ at n es c h x = record { cells = AllByRecursion_append (CellHolds g variable at n) Γ.cells (c ∷ []) h.cells (x, tt); own = h.own; facts = h.facts; events = h.events }

  -- the cells of a list that are all assigned
  pub list_cells : NamesApart g variable → (Γ : Context) (at : Indices) (m n : Store) (es : List Happened) → Matches g variable Γ.replications at → Holds g variable Γ at n es → IsKept m n → OnlyVariables m
      → (cells : Tree) → is_oracle_phrase Cells cells ≡ true → Asked (game_names g variable) position.Cells Γ cells → are_assigned g at m n cells ≡ true → AllByRecursion (CellHolds g variable at n) (items cells)
  unfolding is_oracle_phrase
  list_cells apart Γ at m n es k h l o Empty f s e = tt
  list_cells apart Γ at m n es k h l o (Node Cons c more) f s e =
      let r = and_parts (is_oracle_phrase OneCell c) _ f in
      go (is_assigned g at m n c) refl e (listed_cell apart Γ at m n es k h l o c r.0 s.1) (λ x. list_cells apart (with_cells Γ (c ∷ [])) at m n es k (with_cell_holds Γ at n es c h x) l o more r.1 s.2)
    where
      go : (b : Bool) → is_assigned g at m n c ≡ b → (elim b [ true ↦ are_assigned g at m n more | false ↦ false ]) ≡ true → (is_assigned g at m n c ≡ true → CellHolds g variable at n c)
          → (CellHolds g variable at n c → are_assigned g at m n more ≡ true → AllByRecursion (CellHolds g variable at n) (items more)) → AllByRecursion (CellHolds g variable at n) (c ∷ items more)
      go true z q this ih = let x = this z in (x, ih x q)
      go false z q this ih = absurd (both_ways _ refl q)
  list_cells apart Γ at m n es k h l o (Node i c more) f s e = absurd (both_ways _ refl f)

  -- what a list reads, up to its first cell that is not assigned, is assigned
  pub list_read : NamesApart g variable → (Γ : Context) (at : Indices) (m n : Store) (es : List Happened) → Matches g variable Γ.replications at → Holds g variable Γ at n es → IsKept m n → OnlyVariables m
      → (cells : Tree) → is_oracle_phrase Cells cells ≡ true → Asked (game_names g variable) position.Cells Γ cells → CellsAssigned g at m n cells
  unfolding is_oracle_phrase
  list_read apart Γ at m n es k h l o Empty f s = tt
  list_read apart Γ at m n es k h l o (Node Cons c more) f s =
      let r = and_parts (is_oracle_phrase OneCell c) _ f in
      (this c r.0 s.1, λ e. list_read apart (with_cells Γ (c ∷ [])) at m n es k (with_cell_holds Γ at n es c h (listed_cell apart Γ at m n es k h l o c r.0 s.1 e)) l o more r.1 s.2)
    where
      this : (c : Tree) → is_oracle_phrase OneCell c ≡ true → Asked (game_names g variable) position.OneCell Γ c → CellAssigned g at n c
      this (Node (Read x) a b) f s = all_readable_assigned g variable at n a (all_scope_readable g variable Γ at n es k h a (and_parts (is_oracle_phrase Terms a) _ f).0 s.1)
      this (Node j a b) f s = tt
      this Empty f s = tt
  list_read apart Γ at m n es k h l o (Node i c more) f s = absurd (both_ways _ refl f)
