-- The indices and variables that a game binds: it names them, and no index is a constant or a variable.
use Rattle.std.proofs.Common.{◌≡◌, ℕ, Bool, true, false, cond, ◌&&◌, ◌||◌, not, ◌==◌, List, [], ◌⊎◌, inl, inr, Option, Some, None, is_some, refl, sym, ap, ◌∙◌, eq-eqb, eqb-true}
use Rattle.std.proofs.lemmas.Bool.{and_parts, both_ways, not-true, or_left, or_right}
use Rattle.cv_syntax_trees.specs.declared.head.Head.{Head}
use Rattle.cv_syntax_trees.specs.declared.head.Head.TheVariants.{Binder, Branch, Call, In, Key, Let, New, Repl}
use Rattle.cv_syntax_trees.specs.Tree.{Tree, Empty, Node, second}
use Rattle.cv_syntax_trees.specs.declared.sites.sort.Sort.{Sort}
use Rattle.cv_syntax_trees.specs.declared.sites.sort.Sort.TheVariants.{BelowParameter, OfType}
use Rattle.cv_syntax_trees.specs.sites.Sites.{at_parameters, bound_sort, first_index, first_of, first_site, index_here, is_untyped_here, is_untyped_in, parameters_below, site_here}
use Rattle.cv_scope_rules.specs.Context.{replications_below}
use Rattle.cv_scope_rules.specs.Made.{is_bound, made_by}
use Rattle.cv_scope_rules.specs.Phrases.{Phrase, Binders, Nil, binds_none, head_binds_none, is_phrase}
use Rattle.cv_scope_rules.specs.Rules.{is_index}
use Rattle.cv_scope_rules.specs.Scope.{is_variable}
use Rattle.cv_scope_rules.specs.Sites.{Variable as Named}
use Rattle.cv_scene.specs.Scenes.{head_names, names}
use Rattle.cv_typing_runs.proofs.SameSites.{branch_binders, input_binders, phrase_open}
use Rattle.cv_context.specs.indices.Indices.{binds_new_index, indices_are_new}
use Rattle.cv_context_runs.specs.visits.Fine.{defines}
use Rattle.cv_scope_runs.proofs.Games.{first_some, second_some, with_parameters}
use Rattle.cv_syntax_trees.proofs.lists.Tests.{or_cases}

pub some_either : {A : Type 0} (o u : Option A) → is_some (first_of o u) ≡ true → (is_some o ≡ true) ⊎ (is_some u ≡ true)
some_either (Some a) u e = inl refl
some_either None u e = inr e

some_true : {A : Type 0} (b : Bool) (x : A) → is_some (cond b (Some x) None) ≡ true → b ≡ true
some_true true x e = refl
some_true false x e = absurd (both_ways false refl e)

true_some : {A : Type 0} (b : Bool) (x : A) → b ≡ true → is_some (cond b (Some x) None) ≡ true
true_some true x e = refl
true_some false x e = absurd (both_ways false refl e)

other_way : (x y : ℕ) → (x == y) ≡ true → (y == x) ≡ true
other_way x y e = eq-eqb y x (sym (eqb-true x y e))

-- what a tree with an index says of it, where the replication that binds it does

module _ (x : ℕ) (P : Type 0) (Q : List (ℕ × ℕ) → Tree → Type 0) (below : (rs : List (ℕ × ℕ)) (h : Head) (a b : Tree) → Q rs (Node h a b) → Q rs a × Q (replications_below h rs) b) (here : (rs : List (ℕ × ℕ)) (i n : ℕ) (a b : Tree) → (i == x) ≡ true → Q rs (Node (Repl i n) a b) → P) where
  index_binds : (rs : List (ℕ × ℕ)) (h : Head) (a b : Tree) → is_some (index_here x h) ≡ true → Q rs (Node h a b) → P
  index_binds rs (Repl i n) a b e q = here rs i n a b (some_true (i == x) n e) q
  index_binds rs h a b e q = absurd (both_ways false refl e)

  pub of_index : (rs : List (ℕ × ℕ)) (t : Tree) → Q rs t → is_some (first_index x t) ≡ true → P
  unfolding first_index
  of_index rs Empty q e = absurd (both_ways false refl e)
  of_index rs (Node h a b) q e =
      let s = below rs h a b q in
      go (some_either (index_here x h) (first_of (first_index x a) (first_index x b)) e) (of_index rs a s.0) (of_index (replications_below h rs) b s.1)
    where
      go : (is_some (index_here x h) ≡ true) ⊎ (is_some (first_of (first_index x a) (first_index x b)) ≡ true) → (is_some (first_index x a) ≡ true → P) → (is_some (first_index x b) ≡ true → P) → P
      go (inl i) f g = index_binds rs h a b i q
      go (inr i) f g = elim (some_either (first_index x a) (first_index x b) i) as (λ _. P) [
        | inl j ↦ f j
        | inr j ↦ g j
      ]

pub index_named : (x : ℕ) (t : Tree) → is_some (first_index x t) ≡ true → names x t ≡ true
unfolding names
index_named x t e =
    of_index x (names x t ≡ true) (λ rs u. names x u ≡ true → names x t ≡ true)
    (λ rs h a b q. (λ i. q (or_right (head_names x h) _ (or_left (names x a) (names x b) i)), λ i. q (or_right (head_names x h) _ (or_right (names x a) (names x b) i))))
    (λ rs i n a b same q. q (or_left (i == x) (names x a || names x b) same)) [] t (λ i. i) e

pub index_no_constant : (c : ℕ → Bool) (x : ℕ) (t : Tree) → binds_none c t ≡ true → is_some (first_index x t) ≡ true → c x ≡ false
unfolding binds_none
index_no_constant c x t free e =
    of_index x (c x ≡ false) (λ rs u. binds_none c u ≡ true)
    (λ rs h a b q. and_parts (binds_none c a) (binds_none c b) (and_parts (head_binds_none c h) _ q).1)
    (λ rs i n a b same q. ap c (sym (eqb-true i x same)) ∙ not-true (c i) (and_parts (not (c i)) _ q).0) [] t free e

pub index_no_variable : (v : ℕ → Bool) (x : ℕ) (t : Tree) → indices_are_new v [] t ≡ true → is_some (first_index x t) ≡ true → v x ≡ false
unfolding indices_are_new
index_no_variable v x t new e =
    of_index x (v x ≡ false) (λ rs u. indices_are_new v rs u ≡ true)
    (λ rs h a b q. and_parts (indices_are_new v rs a) (indices_are_new v (replications_below h rs) b) (and_parts (binds_new_index v rs h) _ q).1)
    (λ rs i n a b same q. ap v (sym (eqb-true i x same)) ∙ not-true (v i) (and_parts (not (is_index rs i)) (not (v i)) (and_parts (not (is_index rs i) && not (v i)) _ q).0).1) [] t new e

-- a variable with a site is defined

sort_bound : (sort : ℕ → Sort) (x : ℕ) (t : Tree) → is_phrase Binders t ≡ true → is_some (bound_sort sort x t) ≡ true → is_bound t x ≡ true
unfolding is_phrase bound_sort is_bound
sort_bound sort x Empty p e = absurd (both_ways false refl e)
sort_bound sort x (Node (Binder y T) a b) p e = go (y == x) refl e (sort_bound sort x b (and_parts (is_phrase Nil a) (is_phrase Binders b) p).1)
  where
    go : (c : Bool) → (y == x) ≡ c → is_some (cond c (Some (sort T)) (bound_sort sort x b)) ≡ true → (is_some (bound_sort sort x b) ≡ true → is_bound b x ≡ true) → ((x == y) || is_bound b x) ≡ true
    go true i f k = or_left (x == y) (is_bound b x) (other_way y x i)
    go false i f k = or_right (x == y) (is_bound b x) (k f)
sort_bound sort x (Node h a b) p e = absurd (both_ways false refl p)

site_made : (σ : Phrase) (x : ℕ) (h : Head) (a b : Tree) → is_phrase σ (Node h a b) ≡ true → is_some (site_here x h a) ≡ true → made_by h a (Named x) ≡ true
site_made σ x (New y T) a b p e = other_way y x (some_true (y == x) (OfType T) e)
site_made σ x (Let y T) a b p e = other_way y x (some_true (y == x) (OfType T) e)
site_made σ x (In c) a b p e = sort_bound OfType x (second a) (input_binders σ c a b p) e
site_made σ x Branch a b p e = sort_bound BelowParameter x a (branch_binders σ a b p) e
site_made σ x h a b p e = absurd (both_ways false refl e)

without_parameters : (ps : List ℕ) (o : Option Sort) → is_some (at_parameters ps o) ≡ true → is_some o ≡ true
without_parameters ps None e = e
without_parameters ps (Some S) e = refl

pub site_defined : (σ : Phrase) (x : ℕ) (ps : List ℕ) (t : Tree) → is_phrase σ t ≡ true → is_some (first_site x ps t) ≡ true → defines x t ≡ true
unfolding first_site defines
site_defined σ x ps Empty p e = absurd (both_ways false refl e)
site_defined σ x ps (Node h a b) p e =
    let q = phrase_open σ h a b p in
    go (some_either (at_parameters ps (site_here x h a)) (first_of (first_site x ps a) (first_site x (parameters_below h ps) b)) e) (site_defined q.0.0 x ps a q.2) (site_defined q.0.1 x (parameters_below h ps) b q.3)
  where
    go : (is_some (at_parameters ps (site_here x h a)) ≡ true) ⊎ (is_some (first_of (first_site x ps a) (first_site x (parameters_below h ps) b)) ≡ true) → (is_some (first_site x ps a) ≡ true → defines x a ≡ true) → (is_some (first_site x (parameters_below h ps) b) ≡ true → defines x b ≡ true)
        → (made_by h a (Named x) || (defines x a || defines x b)) ≡ true
    go (inl i) f g = or_left (made_by h a (Named x)) _ (site_made σ x h a b p (without_parameters ps (site_here x h a) i))
    go (inr i) f g = or_right (made_by h a (Named x)) _ (elim (some_either (first_site x ps a) (first_site x (parameters_below h ps) b) i) as (λ _. (defines x a || defines x b) ≡ true) [
      | inl j ↦ or_left (defines x a) (defines x b) (f j)
      | inr j ↦ or_right (defines x a) (defines x b) (g j)
    ])

-- what is defined is named, and is a variable

bound_named : (x : ℕ) (t : Tree) → is_bound t x ≡ true → names x t ≡ true
unfolding is_bound names
bound_named x (Node (Binder y T) a b) e = go (or_cases (x == y) (is_bound b x) e) (bound_named x b)
  where
    go : ((x == y) ≡ true) ⊎ (is_bound b x ≡ true) → (is_bound b x ≡ true → names x b ≡ true) → ((y == x) || (names x a || names x b)) ≡ true
    go (inl i) f = or_left (y == x) _ (other_way x y i)
    go (inr i) f = or_right (y == x) _ (or_right (names x a) (names x b) (f i))
bound_named x t e = absurd (both_ways false refl e)

second_named : (x : ℕ) (t : Tree) → names x (second t) ≡ true → names x t ≡ true
unfolding names
second_named x Empty e = e
second_named x (Node h a b) e = or_right (head_names x h) _ (or_right (names x a) (names x b) e)

made_named : (x : ℕ) (h : Head) (a : Tree) → made_by h a (Named x) ≡ true → (head_names x h ≡ true) ⊎ (names x a ≡ true)
made_named x (New y T) a e = inl (other_way x y e)
made_named x (Let y T) a e = inl (other_way x y e)
made_named x (Key y) a e = inl (other_way x y e)
made_named x (Call y l) a e = inl (other_way x y e)
made_named x (In c) a e = inr (second_named x a (bound_named x (second a) e))
made_named x Branch a e = inr (bound_named x a e)
made_named x h a e = absurd (both_ways false refl e)

pub defined_named : (x : ℕ) (t : Tree) → defines x t ≡ true → names x t ≡ true
unfolding defines names
defined_named x Empty e = absurd (both_ways false refl e)
defined_named x (Node h a b) e = go (or_cases (made_by h a (Named x)) _ e) (defined_named x a) (defined_named x b)
  where
    here : (head_names x h ≡ true) ⊎ (names x a ≡ true) → (head_names x h || (names x a || names x b)) ≡ true
    here (inl i) = or_left (head_names x h) _ i
    here (inr i) = or_right (head_names x h) _ (or_left (names x a) (names x b) i)

    go : (made_by h a (Named x) ≡ true) ⊎ ((defines x a || defines x b) ≡ true) → (defines x a ≡ true → names x a ≡ true) → (defines x b ≡ true → names x b ≡ true) → (head_names x h || (names x a || names x b)) ≡ true
    go (inl i) f g = here (made_named x h a i)
    go (inr i) f g = or_right (head_names x h) _ (elim (or_cases (defines x a) (defines x b) i) as (λ _. (names x a || names x b) ≡ true) [
      | inl j ↦ or_left (names x a) (names x b) (f j)
      | inr j ↦ or_right (names x a) (names x b) (g j)
    ])

bound_sorted : (sort : ℕ → Sort) (x : ℕ) (t : Tree) → is_bound t x ≡ true → is_some (bound_sort sort x t) ≡ true
unfolding is_bound bound_sort
bound_sorted sort x (Node (Binder y T) a b) e = go (y == x) refl (or_cases (x == y) (is_bound b x) e) (bound_sorted sort x b)
  where
    go : (c : Bool) → (y == x) ≡ c → ((x == y) ≡ true) ⊎ (is_bound b x ≡ true) → (is_bound b x ≡ true → is_some (bound_sort sort x b) ≡ true) → is_some (cond c (Some (sort T)) (bound_sort sort x b)) ≡ true
    go true i o f = refl
    go false i (inl j) f = absurd (both_ways (y == x) i (other_way x y j))
    go false i (inr j) f = f j
bound_sorted sort x t e = absurd (both_ways false refl e)

made_sorted : (x : ℕ) (h : Head) (a : Tree) → made_by h a (Named x) ≡ true → (is_some (site_here x h a) ≡ true) ⊎ (is_untyped_here x h ≡ true)
made_sorted x (New y T) a e = inl (true_some (y == x) (OfType T) (other_way x y e))
made_sorted x (Let y T) a e = inl (true_some (y == x) (OfType T) (other_way x y e))
made_sorted x (Key y) a e = inr (other_way x y e)
made_sorted x (Call y l) a e = inr (other_way x y e)
made_sorted x (In c) a e = inl (bound_sorted OfType x (second a) e)
made_sorted x Branch a e = inl (bound_sorted BelowParameter x a e)
made_sorted x h a e = absurd (both_ways false refl e)

abbrev IsVariableIn : ℕ → List ℕ → Tree → Type 0
IsVariableIn x ps t = (is_some (first_site x ps t) ≡ true) ⊎ (is_untyped_in x t ≡ true)

defined_variable : (x : ℕ) (ps : List ℕ) (t : Tree) → defines x t ≡ true → IsVariableIn x ps t
unfolding defines first_site is_untyped_in
defined_variable x ps Empty e = absurd (both_ways false refl e)
defined_variable x ps (Node h a b) e = go (or_cases (made_by h a (Named x)) _ e) (defined_variable x ps a) (defined_variable x (parameters_below h ps) b)
  where
    here : (is_some (site_here x h a) ≡ true) ⊎ (is_untyped_here x h ≡ true) → IsVariableIn x ps (Node h a b)
    here (inl i) = inl (first_some (at_parameters ps (site_here x h a)) _ (with_parameters ps (site_here x h a) i))
    here (inr i) = inr (or_left (is_untyped_here x h) _ i)

    left : IsVariableIn x ps a → IsVariableIn x ps (Node h a b)
    left (inl i) = inl (second_some (at_parameters ps (site_here x h a)) _ (first_some (first_site x ps a) (first_site x (parameters_below h ps) b) i))
    left (inr i) = inr (or_right (is_untyped_here x h) _ (or_left (is_untyped_in x a) (is_untyped_in x b) i))

    right : IsVariableIn x (parameters_below h ps) b → IsVariableIn x ps (Node h a b)
    right (inl i) = inl (second_some (at_parameters ps (site_here x h a)) _ (second_some (first_site x ps a) (first_site x (parameters_below h ps) b) i))
    right (inr i) = inr (or_right (is_untyped_here x h) _ (or_right (is_untyped_in x a) (is_untyped_in x b) i))

    go : (made_by h a (Named x) ≡ true) ⊎ ((defines x a || defines x b) ≡ true) → (defines x a ≡ true → IsVariableIn x ps a) → (defines x b ≡ true → IsVariableIn x (parameters_below h ps) b) → IsVariableIn x ps (Node h a b)
    go (inl i) f g = here (made_sorted x h a i)
    go (inr i) f g = elim (or_cases (defines x a) (defines x b) i) as (λ _. IsVariableIn x ps (Node h a b)) [
      | inl j ↦ left (f j)
      | inr j ↦ right (g j)
    ]

pub defined_is_variable : (x : ℕ) (t : Tree) → defines x t ≡ true → is_variable t x ≡ true
defined_is_variable x t e = elim (defined_variable x [] t e) as (λ _. is_variable t x ≡ true) [
  | inl i ↦ or_left (is_some (first_site x [] t)) (is_untyped_in x t) i
  | inr i ↦ or_right (is_some (first_site x [] t)) (is_untyped_in x t) i
]
