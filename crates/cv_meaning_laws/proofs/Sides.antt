-- What is below the side doesn't look at it: values, candidates, inputs, and whether a query is broken.
use Rattle.std.proofs.Common.{◌≡◌, ℕ, suc, Bool, true, false, cond, ◌&&◌, ◌||◌, not, ◌==◌, List, [], ◌∷◌, ◌++◌, flat_map, map, Option, Some, None, is_some, refl, ap, ap₂}
use Rattle.std.proofs.Math.Path.{fun_ext}
use Rattle.std.specs.List.{list_any, list_all}
use Rattle.cv_syntax_trees.specs.declared.head.Head.TheVariants.{Par, Repl, In, Leaf, Read, Apply, Eq, And, Or, Not}
use Rattle.cv_syntax_trees.specs.Tree.{Tree, Empty, Node, first, second, first_place, second_place}
use Rattle.cv_meaning.specs.Tapes.{same_tuple}
use Rattle.cv_meaning.specs.Side.{Side}
use Rattle.cv_meaning.specs.Interpretation.{Setting}
use Rattle.cv_meaning.specs.Memory.{Store, Indices, Happened, nowhere, tuple}
use Rattle.cv_meaning.specs.Terms.{or_zero, found_in, bit, is_one, leaf_value_from, value, values}
use Rattle.cv_meaning.specs.Binders.{fits, bound_to}
use Rattle.cv_meaning.specs.Candidates.{Candidate, below, tuples_up_to, is_assigned, are_assigned, candidate, candidates_at, candidates, most_indices, widest}
use Rattle.cv_meaning.specs.Inputs.{Input, inputs_of}
use Rattle.cv_meaning.specs.Runs.{State}
use Rattle.cv_meaning.specs.Correspondences.{Correspondence, Atom, RightEvent, RightTerm, correspondence_of, is_event, holds, assignments, left_values, is_left, can_hold, is_met, is_used, positions, ways, ways_for, can_match, broken}
use Rattle.cv_meaning.specs.Experiments.{Experiment, Breaks, Guesses, holds_in}

module _ (g : Setting) (s : Side) where
  -- the setting with that side
  abbrev h : Setting
  h = record g { side = s }

  leaf_same : (m : Store) (x : ℕ) (o : Option ℕ) → leaf_value_from h m x o ≡ leaf_value_from g m x o
  leaf_same m x (Some v) = refl
  leaf_same m x None = refl

  mutual
    unfolding value

    pub value_same : (at : Indices) (m : Store) (a : Tree) → value h at m a ≡ value g at m a
    value_same at m Empty = refl
    value_same at m (Node (Leaf x) a b) = leaf_same m x (found_in at x)
    value_same at m (Node (Read x) a b) = ap (λ u. or_zero (m x u)) (values_same at m a)
    value_same at m (Node (Apply f) a b) = ap (g.interpretation.table f) (values_same at m a)
    value_same at m (Node Eq a b) = ap₂ (λ x y. bit (x == y)) (value_same at m a) (value_same at m b)
    value_same at m (Node And a b) = ap₂ (λ x y. bit (is_one x && is_one y)) (value_same at m a) (value_same at m b)
    value_same at m (Node Or a b) = ap₂ (λ x y. bit (is_one x || is_one y)) (value_same at m a) (value_same at m b)
    value_same at m (Node Not a b) = ap (λ x. bit (not (is_one x))) (value_same at m a)
    value_same at m (Node k a b) = refl

    pub values_same : (at : Indices) (m : Store) (a : Tree) → values h at m a ≡ values g at m a
    values_same at m Empty = refl
    values_same at m (Node k a b) = ap₂ ◌∷◌ (value_same at m a) (values_same at m b)

  -- candidates

  assigned_same : (at : Indices) (m n : Store) (a : Tree) → is_assigned h at m n a ≡ is_assigned g at m n a
  assigned_same at m n Empty = refl
  assigned_same at m n (Node (Leaf x) a b) = refl
  assigned_same at m n (Node (Read x) a b) = ap (λ u. is_some (m x u)) (values_same at n a)
  assigned_same at m n (Node k a b) = refl

  all_assigned_same : (at : Indices) (m n : Store) (a : Tree) → are_assigned h at m n a ≡ are_assigned g at m n a
  all_assigned_same at m n Empty = refl
  all_assigned_same at m n (Node k a b) =
      ap₂ (λ (x y : Bool). elim x [ true ↦ y | false ↦ false ]) (assigned_same at m n a) (all_assigned_same at m n b)

  candidate_same : (at : Indices) (m : Store) (u : List ℕ) (k : ℕ) (branch : Tree) → candidate h at m u k branch ≡ candidate g at m u k branch
  candidate_same at m u k branch =
      let n : Store = bound_to m (tuple at) (first branch) u in
      let rest : Tree = second branch in
      let one : List Candidate = record { branch = k; tuple = u } ∷ [] in
      ap₂ (λ (x y : Bool). elim (fits g.interpretation.parameter_value (first branch) u) as (λ _. List Candidate) [
        | true ↦ cond (elim x [ true ↦ y | false ↦ false ]) one []
        | false ↦ []
      ])
      (all_assigned_same at m n (first rest)) (ap is_one (value_same at n (first (second rest))))

  candidates_at_same : (at : Indices) (m : Store) (u : List ℕ) (k : ℕ) (branches : Tree) → candidates_at h at m u k branches ≡ candidates_at g at m u k branches
  unfolding candidates_at
  candidates_at_same at m u k Empty = refl
  candidates_at_same at m u k (Node head branch more) = ap₂ ◌++◌ (candidate_same at m u k branch) (candidates_at_same at m u (suc k) more)

  pub candidates_same : (at : Indices) (m : Store) (branches : Tree) → candidates h at m branches ≡ candidates g at m branches
  unfolding candidates
  candidates_same at m branches =
      ap (λ (f : List ℕ → List Candidate). flat_map f (tuples_up_to (most_indices branches) (widest g.interpretation.parameter_value branches)))
      (fun_ext (λ u. candidates_at_same at m u 0 branches))

  -- inputs

  pub inputs_same : (b : Tree) (p : ℕ) (at : Indices) → inputs_of h b p at ≡ inputs_of g b p at
  unfolding inputs_of
  inputs_same Empty p at = refl
  inputs_same (Node Par a b) p at = ap₂ ◌++◌ (inputs_same a (first_place p Par) at) (inputs_same b (second_place p Par a) at)
  inputs_same (Node (Repl i n) a b) p at =
      ap (λ (f : ℕ → List Input). flat_map f (below (g.interpretation.parameter_value n))) (fun_ext (λ v. inputs_same b (second_place p (Repl i n) a) (at ++ (i, v) ∷ [])))
  inputs_same (Node (In c) a b) p at = refl
  inputs_same (Node k a b) p at = refl

  -- broken queries

  event_same : (ρ : Indices) (f : ℕ) (ms : Tree) → is_event h ρ f ms ≡ is_event g ρ f ms
  event_same ρ f ms = fun_ext (λ (e : Happened). ap (λ vs. (e.event == f) && same_tuple e.values vs) (values_same ρ nowhere ms))

  holds_same : (es : List Happened) (ρ : Indices) (c : Atom) → holds h es ρ c ≡ holds g es ρ c
  holds_same es ρ (RightEvent inj f ms) = ap (λ (p : Happened → Bool). list_any p es) (event_same ρ f ms)
  holds_same es ρ (RightTerm m) = ap is_one (value_same ρ nowhere m)

  assignments_same : (xs : List (ℕ × ℕ)) (ρ : Indices) → assignments h xs ρ ≡ assignments g xs ρ
  unfolding assignments
  assignments_same [] ρ = refl
  assignments_same (x ∷ xs) ρ = ap (λ (f : ℕ → List Indices). flat_map f (below (g.interpretation.type_size x.1))) (fun_ext (λ v. assignments_same xs (ρ ++ (x.0, v) ∷ [])))

  hold_same : (q : Correspondence) (es : List Happened) (e : Happened) (atoms : List (ℕ × Atom)) → can_hold h q es e atoms ≡ can_hold g q es e atoms
  hold_same q es e atoms =
      ap₂ (λ (p : Indices → Bool) (ρs : List Indices). list_any p ρs)
      (fun_ext (λ (ρ : Indices). ap (λ (p : Atom → Bool). list_all (λ (c : ℕ × Atom). p c.1) atoms) (fun_ext (holds_same es ρ))))
      (assignments_same q.others (left_values q e))

  met_same : (q : Correspondence) (es : List Happened) (e : Happened) → is_met h q es e ≡ is_met g q es e
  met_same q es e = ap (λ (p : List (ℕ × Atom) → Bool). list_any p q.alternatives) (fun_ext (hold_same q es e))

  ways_same : (es : List Happened) (ρ : Indices) (used : List (ℕ × ℕ)) (atoms : List (ℕ × Atom)) → ways h es ρ used atoms ≡ ways g es ρ used atoms
  unfolding ways
  ways_same es ρ used [] = refl
  ways_same es ρ used ((n, RightTerm m) ∷ atoms) =
      ap₂ (λ (x : Bool) (w : List (List (ℕ × ℕ))). cond x w []) (ap is_one (value_same ρ nowhere m)) (ways_same es ρ used atoms)
  ways_same es ρ used ((n, RightEvent inj f ms) ∷ atoms) =
      ap₂ (λ (w : List (List (ℕ × ℕ))) (ps : List ℕ). flat_map (λ p. cond (inj && is_used used n p) [] (map (λ (after : List (ℕ × ℕ)). cond inj ((n, p) ∷ after) after) w)) ps)
      (ways_same es ρ used atoms)
      (ap (λ (p : Happened → Bool). positions p 0 es) (event_same ρ f ms))

  ways_for_same : (q : Correspondence) (es : List Happened) (e : Happened) (used : List (ℕ × ℕ)) (atoms : List (ℕ × Atom)) → ways_for h q es e used atoms ≡ ways_for g q es e used atoms
  ways_for_same q es e used atoms =
      ap₂ (λ (w : Indices → List (List (ℕ × ℕ))) (ρs : List Indices). flat_map w ρs)
      (fun_ext (λ (ρ : Indices). ways_same es ρ used atoms)) (assignments_same q.others (left_values q e))

  matches_same : (q : Correspondence) (es lefts : List Happened) (used : List (ℕ × ℕ)) → can_match h q es lefts used ≡ can_match g q es lefts used
  unfolding can_match
  matches_same q es [] used = refl
  matches_same q es (e ∷ lefts) used =
      ap₂ (λ (x y : Bool). cond (is_left q e) x y)
      (ap₂ (λ (p : List (ℕ × ℕ) → Bool) (ws : List (List (ℕ × ℕ))). list_any p ws)
      (fun_ext (matches_same q es lefts))
      (ap (λ (w : List (ℕ × Atom) → List (List (ℕ × ℕ))). flat_map w q.alternatives) (fun_ext (ways_for_same q es e used))))
      (matches_same q es lefts used)

  pub broken_same : (q : Correspondence) (es : List Happened) → broken h q es ≡ broken g q es
  unfolding broken
  broken_same q es =
      ap₂ (λ (x y : Bool). cond q.inj (not x) y) (matches_same q es es [])
      (ap (λ (p : Happened → Bool). list_any p es) (fun_ext (λ (e : Happened). ap (λ (b : Bool). is_left q e && not b) (met_same q es e))))

  pub holds_in_same : (x : Experiment) (st : State) → holds_in h x st ≡ holds_in g x st
  holds_in_same (Breaks q) st = broken_same (correspondence_of q) st.memory.events
  holds_in_same (Guesses m) st = refl
