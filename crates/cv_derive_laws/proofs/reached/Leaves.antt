-- Typed terms and cells name what they may.
use Rattle.std.proofs.Common.{◌≡◌, ℕ, Bool, true, false, cond, ◌||◌, ◌==◌, List, [], ◌∷◌, ◌++◌, inl, inr, Option, Some, None, is_some, refl, sym, ap, ◌∙◌, eq-eqb}
use Rattle.std.specs.Prelude.{MatchBool, MatchOption, option_map}
use Rattle.std.proofs.lemmas.Bool.{both_ways, and_parts, or_left, or_right}
use Rattle.std.specs.List.{AllByRecursion}
use Rattle.cv_syntax_trees.specs.declared.head.Head.TheVariants.{Leaf, Read, Apply, Eq, And, Or, Not, Yes, No, Cons}
use Rattle.cv_syntax_trees.specs.Declarations.{Declaration}
use Rattle.cv_syntax_trees.specs.Tree.{Tree, Empty, Node}
use Rattle.cv_meaning.specs.Interpretation.{is_constant_of}
use Rattle.cv_meaning_laws.specs.adequacy.Typed as meaning
use Rattle.cv_meaning_laws.specs.adequacy.Typed.{HasSort, HaveSomeSorts, HaveSorts, IsVariable, NameHasSort, Scope, Sort, parameter_in}
use Rattle.cv_syntax_trees.specs.sites.Sites.{first_site, is_untyped_in}
use Rattle.cv_syntax_trees.specs.sites.Sites as directory
use Rattle.cv_scope_rules.specs.Context.{cell_of, index_terms, items}
use Rattle.cv_scope_rules.specs.Rules.{is_index}
use Rattle.cv_scope_rules.specs.Scope.{is_variable}
use Rattle.cv_scope_rules.specs.Phrases.{Cells, Nil, OneCell, Term, Terms, is_phrase}
use Rattle.cv_typing_runs.specs.Games.{are_variable_cells, context_of, has_site, is_variable_cell, variable_of_meaning}
use Rattle.cv_derive_laws.specs.stores.Truth.{AreOver}
use Rattle.cv_derive_laws.specs.reached.Fine.{IsFineCell, IsFineTerm, IsNamed}

index_there : (rs : Scope) (x n : ℕ) → parameter_in rs x ≡ Some n → is_index rs x ≡ true
index_there [] x n e = absurd (cc)
index_there (r ∷ rs) x n e = go (r.0 == x) e (index_there rs x n)
  where
    go : (b : Bool) → cond b (Some r.1) (parameter_in rs x) ≡ Some n → (parameter_in rs x ≡ Some n → is_index rs x ≡ true) → (b || is_index rs x) ≡ true
    go true e k = refl
    go false e k = k e

pub index_more : (rs ss : List (ℕ × ℕ)) (x : ℕ) → is_index rs x ≡ true → is_index (rs ++ ss) x ≡ true
index_more [] ss x e = absurd (both_ways false refl e)
index_more (r ∷ rs) ss x e = go (r.0 == x) e (index_more rs ss x)
  where
    go : (b : Bool) → (b || is_index rs x) ≡ true → (is_index rs x ≡ true → is_index (rs ++ ss) x ≡ true) → (b || is_index (rs ++ ss) x) ≡ true
    go true e k = refl
    go false e k = k e

module _ (ds : List Declaration) (game : Tree) where
  abbrev pub c : meaning.Context
  c = context_of ds game

  variable_there : (x : ℕ) (V : meaning.Variable) → c.variables x ≡ Some V → is_variable game x ≡ true
  variable_there x V e = go (first_site x [] game) refl e
    where
      go : (o : Option directory.Variable) → first_site x [] game ≡ o → option_map variable_of_meaning (first_site x [] game) ≡ Some V → is_variable game x ≡ true
      go None f e = let z : None ≡ Some V = ap (option_map variable_of_meaning) (sym f) ∙ e in absurd (cc)
      go (Some v) f e = or_left (is_some (first_site x [] game)) (is_untyped_in x game) (ap is_some f)

  leaf_named : (rs : Scope) (x : ℕ) (S : Sort) → MatchOption (parameter_in rs x) (NameHasSort c x S) (λ n. S ≡ meaning.BelowParameter n) → IsNamed ds game rs x
  leaf_named rs x S h = go (parameter_in rs x) refl h
    where
      name : (b : Bool) → is_constant_of ds x ≡ b → MatchBool b ((T : ℕ) × meaning.IsFunction c x [] T × (S ≡ meaning.OfType T)) (c.variables x ≡ Some (record { indices = []; sort = S })) → IsNamed ds game rs x
      name true e h = inr (inl e)
      name false e h = inr (inr (variable_there x _ h))

      go : (o : Option ℕ) → parameter_in rs x ≡ o → MatchOption o (NameHasSort c x S) (λ n. S ≡ meaning.BelowParameter n) → IsNamed ds game rs x
      go (Some n) e h = inl (index_there rs x n e)
      go None e h = name (is_constant_of ds x) refl h

  mutual
    unfolding HasSort is_phrase

    pub sorted_fine : (rs : Scope) (t : Tree) (S : Sort) → is_phrase Term t ≡ true → HasSort c rs t S → IsFineTerm ds game rs t
    sorted_fine rs Empty S p h = absurd h
    sorted_fine rs (Node (Leaf x) a b) S p h = leaf_named rs x S h
    sorted_fine rs (Node (Read x) a b) S p h = (tt, all_fine rs a _ (and_parts (is_phrase Terms a) (is_phrase Nil b) p).0 h.3)
    sorted_fine rs (Node (Apply f) a b) S p h = all_fine rs a _ (and_parts (is_phrase Terms a) (is_phrase Nil b) p).0 h.4
    sorted_fine rs (Node Eq a b) S p h = let q = and_parts (is_phrase Term a) (is_phrase Term b) p in (sorted_fine rs a _ q.0 h.2, sorted_fine rs b _ q.1 h.3)
    sorted_fine rs (Node And a b) S p h = let q = and_parts (is_phrase Term a) (is_phrase Term b) p in (sorted_fine rs a _ q.0 h.1, sorted_fine rs b _ q.1 h.2)
    sorted_fine rs (Node Or a b) S p h = let q = and_parts (is_phrase Term a) (is_phrase Term b) p in (sorted_fine rs a _ q.0 h.1, sorted_fine rs b _ q.1 h.2)
    sorted_fine rs (Node Not a b) S p h = sorted_fine rs a _ (and_parts (is_phrase Term a) (is_phrase Nil b) p).0 h.1
    sorted_fine rs (Node Yes a b) S p h = tt
    sorted_fine rs (Node No a b) S p h = tt
    sorted_fine rs (Node q a b) S p h = absurd h

    pub all_fine : (rs : Scope) (t : Tree) (Ss : List Sort) → is_phrase Terms t ≡ true → HaveSorts c rs t Ss → AreOver (IsNamed ds game rs) (Unit {0}) t
    all_fine rs Empty Ss p h = tt
    all_fine rs (Node Cons a b) [] p h = absurd h
    all_fine rs (Node Cons a b) (S ∷ Ss) p h = let q = and_parts (is_phrase Term a) (is_phrase Terms b) p in (sorted_fine rs a S q.0 h.0, all_fine rs b Ss q.1 h.1)
    all_fine rs (Node q a b) Ss p h = absurd (both_ways false refl p)

  -- cells

  indices_fine : (rs ss : List (ℕ × ℕ)) → ((x : ℕ) → is_index ss x ≡ true → is_index rs x ≡ true) → AreOver (IsNamed ds game rs) (Unit {0}) (index_terms ss)
  indices_fine rs [] k = tt
  indices_fine rs (r ∷ ss) k = (inl (k r.0 (or_left (r.0 == r.0) (is_index ss r.0) (eq-eqb r.0 r.0 refl))), indices_fine rs ss (λ x e. k x (or_right (r.0 == x) (is_index ss x) e)))

  pub own_cell : (rs : List (ℕ × ℕ)) (x : ℕ) → is_variable game x ≡ true → IsFineCell ds game rs (cell_of rs x)
  own_cell [] x e = e
  own_cell (r ∷ rs) x e = indices_fine (r ∷ rs) (r ∷ rs) (λ y f. f)

  -- as a term
  pub own_term : (rs : List (ℕ × ℕ)) (x : ℕ) → is_variable game x ≡ true → IsFineTerm ds game rs (cell_of rs x)
  own_term [] x e = inr (inr e)
  own_term (r ∷ rs) x e = (tt, indices_fine (r ∷ rs) (r ∷ rs) (λ y f. f))

  pub variable_fine : (rs : Scope) (x : ℕ) (S : Sort) → IsVariable c rs x S → is_variable game x ≡ true
  variable_fine rs x S e = variable_there x _ e

  pub cells_fine : (rs : Scope) (t : Tree) (Ss : List Sort) → is_phrase Cells t ≡ true → HaveSorts c rs t Ss → are_variable_cells (has_site game) t ≡ true → AllByRecursion (IsFineCell ds game rs) (items t)
  unfolding is_phrase HasSort
  cells_fine rs Empty Ss p h v = tt
  cells_fine rs (Node Cons a b) [] p h v = absurd h
  cells_fine rs (Node Cons a b) (S ∷ Ss) p h v =
      let q = and_parts (is_phrase OneCell a) (is_phrase Cells b) p in
      let w = and_parts (is_variable_cell (has_site game) a) _ v in
      (one a q.0 h.0 w.0, cells_fine rs b Ss q.1 h.1 w.1)
    where
      one : (a : Tree) → is_phrase OneCell a ≡ true → HasSort c rs a S → is_variable_cell (has_site game) a ≡ true → IsFineCell ds game rs a
      one Empty e h v = absurd h
      one (Node (Leaf x) a b) e h v = or_left (is_some (first_site x [] game)) (is_untyped_in x game) v
      one (Node (Read x) a b) e h v = all_fine rs a _ (and_parts (is_phrase Terms a) (is_phrase Nil b) e).0 h.3
      one (Node q a b) e h v = absurd (both_ways false refl e)
  cells_fine rs (Node q a b) Ss p h v = absurd (both_ways false refl p)

  -- below more replications

  more_named : (rs ss : List (ℕ × ℕ)) (x : ℕ) → IsNamed ds game rs x → IsNamed ds game (rs ++ ss) x
  more_named rs ss x (inl e) = inl (index_more rs ss x e)
  more_named rs ss x (inr e) = inr e

  mutual
    pub more_fine : (rs ss : List (ℕ × ℕ)) (t : Tree) → IsFineTerm ds game rs t → IsFineTerm ds game (rs ++ ss) t
    more_fine rs ss Empty h = absurd h
    more_fine rs ss (Node (Leaf x) a b) h = more_named rs ss x h
    more_fine rs ss (Node (Read x) a b) h = (tt, more_all rs ss a h.1)
    more_fine rs ss (Node (Apply f) a b) h = more_all rs ss a h
    more_fine rs ss (Node Eq a b) h = (more_fine rs ss a h.0, more_fine rs ss b h.1)
    more_fine rs ss (Node And a b) h = (more_fine rs ss a h.0, more_fine rs ss b h.1)
    more_fine rs ss (Node Or a b) h = (more_fine rs ss a h.0, more_fine rs ss b h.1)
    more_fine rs ss (Node Not a b) h = more_fine rs ss a h
    more_fine rs ss (Node Yes a b) h = tt
    more_fine rs ss (Node No a b) h = tt
    more_fine rs ss (Node q a b) h = absurd h

    pub more_all : (rs ss : List (ℕ × ℕ)) (t : Tree) → AreOver (IsNamed ds game rs) (Unit {0}) t → AreOver (IsNamed ds game (rs ++ ss)) (Unit {0}) t
    more_all rs ss Empty h = tt
    more_all rs ss (Node Cons a b) h = (more_fine rs ss a h.0, more_all rs ss b h.1)
    more_all rs ss (Node q a b) h = absurd h

  pub more_cell : (rs ss : List (ℕ × ℕ)) (t : Tree) → IsFineCell ds game rs t → IsFineCell ds game (rs ++ ss) t
  more_cell rs ss Empty h = absurd h
  more_cell rs ss (Node (Leaf x) a b) h = h
  more_cell rs ss (Node (Read x) a b) h = more_all rs ss a h
  more_cell rs ss (Node q a b) h = absurd h
