-- The next game of a cryptographic step: what a query of secrecy asks for has values of a type there, or nothing has its name. So no
-- query asks for an index, and each choice and test has a value.
use Rattle.std.proofs.Common.{◌≡◌, ℕ, ◌==◌, Bool, true, false, cond, not, List, [], ◌∷◌, Contains, Option, Some, None, inl, inr, refl, sym, ap, ◌∙◌, subst, eqb-true}
use Rattle.std.specs.Prelude.{◌⊎◌, ◌&&◌, ◌||◌, is_some}
use Rattle.std.proofs.lemmas.Bool.{both_ways, or_cases, or_left, or_parts}
use Rattle.std.specs.List.{list_any}
use Rattle.cv_syntax_trees.specs.declared.head.Head.{Head}
use Rattle.cv_syntax_trees.specs.declared.head.Head.TheVariants.{Binder, Repl, Secret, SecretOnce}
use Rattle.cv_syntax_trees.specs.Declarations.{Declaration}
use Rattle.cv_syntax_trees.specs.Tree.{Tree, Empty, Node, lone}
use Rattle.cv_meaning.specs.Advantage.{IsAsked, secrecy_query}
use Rattle.cv_meaning.specs.Experiments.{Breaks, Experiment, Guesses, mode_of}
use Rattle.cv_meaning.specs.Interpretation.{Interpretation, Setting, setting_of}
use Rattle.cv_meaning.specs.Queries.{queries_in}
use Rattle.cv_meaning.specs.Runs.{Events, Mode, Random, Real}
use Rattle.cv_meaning.specs.Satisfies.{Satisfies}
use Rattle.cv_meaning_laws.proofs.adequacy.Lists.{contains_has}
use Rattle.cv_meaning_laws.proofs.Listed.{Has}
use Rattle.cv_syntax_trees.specs.sites.Sites.{first_index, first_of, first_site, index_here, is_untyped_in}
use Rattle.cv_scope_rules.specs.declared.typing.form.Form.TheVariants.{InProcess}
use Rattle.cv_scope_rules.specs.typing.Parts.{IsTypedGame, nothing_above}
use Rattle.cv_scope_rules.specs.typing.Wants.{Run}
use Rattle.cv_query_form.specs.Rules.{HasValues, MayBeAsked}
use Rattle.cv_query_form.specs.Tests.{has_values, passes}
use Rattle.cv_query_form.proofs.Decided.{query_found}
use Rattle.cv_typing_runs.specs.Games.{HasDeclaredSorts}
use Rattle.cv_scope_rules.specs.Phrases.{Inputs, is_phrase}
use Rattle.cv_scope_rules.specs.Scope.{IsScoped}
use Rattle.cv_scene.specs.Scenes.{Scene, asks_for, head_names, names}
use Rattle.cv_scene.specs.Terms.{has_index}
use Rattle.cv_steps.specs.Asked.{AskForNoIndex}
use Rattle.cv_steps_laws.specs.crypto.Secrets.{asks_without_values, is_without_values, some_asks_without_values}
use Rattle.cv_context_right_side.proofs.queries.Asked.{variable_no_index}
use Rattle.cv_meaning_chances.specs.values.Values.{ConstructHasValues, HasValuesIn, is_tested}
use Rattle.cv_sequences.proofs.Choices.{game_valued}

-- it has values of a type, or nothing has its name
abbrev Stays : Tree → ℕ → Type 0
Stays game x = (has_values game x ≡ true) ⊎ (names x game ≡ false)

stays : (game : Tree) (x : ℕ) → is_without_values game x ≡ false → Stays game x
stays game x e = go (has_values game x) refl e
  where
    go : (b : Bool) → has_values game x ≡ b → (not b && names x game) ≡ false → Stays game x
    go true f g = inl f
    go false f g = inr g

values_from : (game : Tree) (x : ℕ) → has_values game x ≡ true → HasValues game x
unfolding passes MayBeAsked
values_from game x e = query_found game (lone (Secret x)) e

-- no index

-- a query for the variable
stays_by : (game : Tree) (x : ℕ) (q : Tree) → asks_for x q ≡ true → asks_without_values game q ≡ false → Stays game x
stays_by game x (Node (Secret y) a b) e n = subst (Stays game) (eqb-true y x e) (stays game y n)
stays_by game x (Node (SecretOnce y) a b) e n = subst (Stays game) (eqb-true y x e) (stays game y n)
stays_by game x q e n = absurd (both_ways false refl e)

queried_stays : (game : Tree) (x : ℕ) (queries : List Tree) → some_asks_without_values game queries ≡ false → list_any (asks_for x) queries ≡ true → Stays game x
queried_stays game x [] n e = absurd (both_ways false refl e)
queried_stays game x (q ∷ queries) n e =
    let k = or_parts (asks_without_values game q) (some_asks_without_values game queries) n in
    elim (or_cases (asks_for x q) (list_any (asks_for x) queries) e) as (λ _. Stays game x) [
      | inl i ↦ stays_by game x q i k.0
      | inr i ↦ queried_stays game x queries k.1 i
    ]

no_index_here : (x : ℕ) (h : Head) → head_names x h ≡ false → index_here x h ≡ None
no_index_here x (Repl j n) e = ap (λ b. cond b (Some n) None) e
no_index_here x h e = refl

none_of_three : (o p q : Option ℕ) → o ≡ None → p ≡ None → q ≡ None → first_of o (first_of p q) ≡ None
none_of_three o p q e f g = ap (λ z. first_of z (first_of p q)) e ∙ (ap (λ z. first_of z q) f ∙ g)

no_index : (x : ℕ) (t : Tree) → names x t ≡ false → first_index x t ≡ None
unfolding names first_index
no_index x Empty e = refl
no_index x (Node h a b) e =
    let k = or_parts (head_names x h) (names x a || names x b) e in
    let l = or_parts (names x a) (names x b) k.1 in
    none_of_three (index_here x h) (first_index x a) (first_index x b) (no_index_here x h k.0) (no_index x a l.0) (no_index x b l.1)

pub next_asks_no_index : (s : Scene) → IsScoped s.declarations s.game → some_asks_without_values s.game (queries_in s.declarations) ≡ false → AskForNoIndex s
next_asks_no_index s scoped n x e = go (queried_stays s.game x (queries_in s.declarations) n e)
  where
    go : Stays s.game x → has_index s.game x ≡ false
    go (inl v) = variable_no_index s.declarations s.game x scoped (or_left (is_some (first_site x [] s.game)) (is_untyped_in x s.game) (ap is_some (values_from s.game x v).site))
    go (inr m) = ap is_some (no_index x s.game m)

-- values

-- where one variable is tested, and no construct has its name, the others have values
module _ (g : Setting) (m : Mode) (x : ℕ) (alone : (y : ℕ) → is_tested m y ≡ true → (y == x) ≡ true) where
  head_valued : (h : Head) → head_names x h ≡ false → ConstructHasValues g Events h → ConstructHasValues g m h
  head_valued (Binder y T) n v = λ e. absurd (both_ways (y == x) n (alone y e))
  head_valued h n v = v

  unnamed_valued : (t : Tree) → names x t ≡ false → HasValuesIn g Events t → HasValuesIn g m t
  unfolding names HasValuesIn
  unnamed_valued Empty n v = tt
  unnamed_valued (Node h a b) n v =
      let k = or_parts (head_names x h) (names x a || names x b) n in
      let l = or_parts (names x a) (names x b) k.1 in
      (head_valued h k.0 v.0, unnamed_valued a l.0 v.1, unnamed_valued b l.1 v.2)

each_stays : (game : Tree) (queries : List Tree) → some_asks_without_values game queries ≡ false → (q : Tree) → Has queries q → asks_without_values game q ≡ false
each_stays game [] n q h = absurd h
each_stays game (p ∷ queries) n q (inl e) = ap (asks_without_values game) e ∙ (or_parts (asks_without_values game p) (some_asks_without_values game queries) n).0
each_stays game (p ∷ queries) n q (inr h) = each_stays game queries (or_parts (asks_without_values game p) (some_asks_without_values game queries) n).1 q h

secret_stays : (game : Tree) (one : Bool) (x : ℕ) → asks_without_values game (secrecy_query one x) ≡ false → Stays game x
secret_stays game true x n = stays game x n
secret_stays game false x n = stays game x n

module _ (ds : List Declaration) (game : Tree) (p : is_phrase Inputs game ≡ true) (t : IsTypedGame ds game) (d : HasDeclaredSorts ds game) (n : some_asks_without_values game (queries_in ds) ≡ false) (i : Interpretation) (sat : Satisfies ds i) where
  -- where nothing is tested
  untested_valued : (m : Mode) → ((y : ℕ) → is_tested m y ≡ true → ⊥) → HasValuesIn (setting_of ds i) m game
  untested_valued m none = game_valued ds game i sat m (λ y e. absurd (none y e)) nothing_above (Run InProcess) p t d

  tested_valued : (m : Mode) (x : ℕ) → ((y : ℕ) → is_tested m y ≡ true → (y == x) ≡ true) → Stays game x → HasValuesIn (setting_of ds i) m game
  tested_valued m x alone (inl v) = game_valued ds game i sat m (λ y e. subst (HasValues game) (sym (eqb-true y x (alone y e))) (values_from game x v)) nothing_above (Run InProcess) p t d
  tested_valued m x alone (inr u) = unnamed_valued (setting_of ds i) m x alone game u (untested_valued Events (λ y e. both_ways false refl e))

  asked_stays : (one : Bool) (x : ℕ) → Contains (queries_in ds) (secrecy_query one x) → Stays game x
  asked_stays one x h = secret_stays game one x (each_stays game (queries_in ds) n (secrecy_query one x) (contains_has (queries_in ds) (secrecy_query one x) h))

  pub next_valued : (x : Experiment) → IsAsked (queries_in ds) x → HasValuesIn (setting_of ds i) (mode_of x) game
  next_valued (Breaks q) h = untested_valued (mode_of (Breaks q)) (λ y e. both_ways false refl e)
  next_valued (Guesses Events) h = absurd h
  next_valued (Guesses (Real one x)) h = tested_valued (Real one x) x (λ y e. e) (asked_stays one x h)
  next_valued (Guesses (Random one x)) h = tested_valued (Random one x) x (λ y e. e) (asked_stays one x h)
