-- An accepted step that gives a variable another name keeps chances.
use Rattle.std.proofs.Common.{[], ◌∷◌, ◌≡◌, ℕ, ◌==◌, Bool, true, false, not, List, Contains, ◌⊎◌, inl, inr, is_some, refl, sym, ap, subst, ◌∙◌, arith, eqb-true}
use Rattle.std.proofs.lemmas.Bool.{both_ways, and_parts, or_parts, not-true}
use Rattle.std.proofs.lemmas.List.Elements.{Contains-append_cases, Contains-push_cases}
use Rattle.std.specs.List.{list_any}
use Rattle.cv_syntax_trees.specs.Declarations.{Declaration}
use Rattle.cv_syntax_trees.specs.Tree.{Tree}
use Rattle.cv_meaning.specs.Advantage.{IsAsked, secrecy_query}
use Rattle.cv_meaning.specs.Experiments.{Experiment, Breaks, Guesses, mode_of}
use Rattle.cv_meaning.specs.Interpretation.{Interpretation, is_constant_of, setting_of}
use Rattle.cv_meaning.specs.Queries.{queries_in}
use Rattle.cv_meaning.specs.Runs.{Events, Real, Random}
use Rattle.cv_syntax_trees.specs.sites.Sites.{first_site}
use Rattle.cv_scope_rules.specs.Scope.{is_untyped_in}
use Rattle.cv_scope_rules.specs.Phrases.{IsWellFormed, binds_none}
use Rattle.cv_scope_rules.proofs.Unbound.{no_variable}
use Rattle.cv_scene.specs.Scenes.{KnowsQueries, Scene, asks_for, is_new, is_queried, names}
use Rattle.cv_scene.specs.Terms.{has_site}
use Rattle.cv_steps.specs.Chances.{KeepsChances}
use Rattle.cv_steps.specs.Renaming.{renamed}
use Rattle.cv_steps.specs.Rows.{rename_row}
use Rattle.cv_steps.specs.Steps.{Cost, Leads, Zero}
use Rattle.cv_steps.proofs.Rows.{leads_same, unless_leads}
use Rattle.cv_steps_laws.specs.renaming.Naming.{exchanged, with_names, IsNaming, KeepsTested}
use Rattle.cv_steps_laws.proofs.renaming.Names.{binds_under, exchanged_apart, exchanged_first, exchanged_other, exchanged_second, renamed_exchanged}
use Rattle.cv_steps_laws.proofs.renaming.Chances.{chances_under}
use Rattle.cv_steps_laws.proofs.Keeping.{unqueried}

-- queries

asked_by_none : (f : Tree → Bool) (qs : List Tree) → list_any f qs ≡ false → (q : Tree) → Contains qs q → f q ≡ false
asked_by_none f [] e q h = absurd (let k = h.1 in omega arith)
asked_by_none f (r ∷ qs) e q h = go (Contains-append_cases (r ∷ []) qs q h) (or_parts (f r) (list_any f qs) e) (asked_by_none f qs)
  where
    alone : Contains [] q ⊎ (r ≡ q) → f r ≡ false → f q ≡ false
    alone (inl k) i = absurd (let n = k.1 in omega arith)
    alone (inr j) i = ap f (sym j) ∙ i

    go : Contains (r ∷ []) q ⊎ Contains qs q → (f r ≡ false) × (list_any f qs ≡ false) → (list_any f qs ≡ false → (q : Tree) → Contains qs q → f q ≡ false) → f q ≡ false
    go (inl k) p ih = alone (Contains-push_cases [] r q k) p.0
    go (inr k) p ih = ih p.1 q k

asks : (one : Bool) (x z : ℕ) → asks_for x (secrecy_query one z) ≡ (z == x)
asks true x z = refl
asks false x z = refl

-- no query asks for the names that are exchanged
module _ (s : Scene) (x y : ℕ) (no_x : is_queried s x ≡ false) (no_y : is_queried s y ≡ false) where
  asked_kept : (one : Bool) (z : ℕ) → Contains (queries_in s.declarations) (secrecy_query one z) → exchanged x y z ≡ z
  asked_kept one z a =
      exchanged_other x y z
      (sym (asks one x z) ∙ asked_by_none (asks_for x) (queries_in s.declarations) no_x (secrecy_query one z) a)
      (sym (asks one y z) ∙ asked_by_none (asks_for y) (queries_in s.declarations) no_y (secrecy_query one z) a)

  tested_kept : (e : Experiment) → IsAsked (queries_in s.declarations) e → KeepsTested (exchanged x y) (mode_of e)
  tested_kept (Breaks q) a = tt
  tested_kept (Guesses Events) a = absurd a
  tested_kept (Guesses (Real one z)) a = asked_kept one z a
  tested_kept (Guesses (Random one z)) a = asked_kept one z a

-- constants

-- a variable with a site is none of the names that the game doesn't bind
site_unnamed : (on : ℕ → Bool) (game : Tree) (x : ℕ) → has_site game x ≡ true → binds_none on game ≡ true → on x ≡ false
site_unnamed on game x e f = go (on x) refl
  where
    go : (b : Bool) → on x ≡ b → b ≡ false
    go true h = absurd (both_ways _ (or_parts (is_some (first_site x [] game)) (is_untyped_in x game) (no_variable on x h game f)).0 e)
    go false h = refl

constants_stay : (on : ℕ → Bool) (x y : ℕ) → on x ≡ false → on y ≡ false → (z : ℕ) → on z ≡ true → exchanged x y z ≡ z
constants_stay on x y e f z h = exchanged_other x y z (other x e) (other y f)
  where
    other : (w : ℕ) → on w ≡ false → (z == w) ≡ false
    other w k = go (z == w) refl
      where
        go : (b : Bool) → (z == w) ≡ b → b ≡ false
        go true i = absurd (both_ways _ k (ap on (sym (eqb-true z w i)) ∙ h))
        go false i = refl

none_added : (on : ℕ → Bool) (x y : ℕ) → on x ≡ false → on y ≡ false → (z : ℕ) → on (exchanged x y z) ≡ on z
none_added on x y e f z = go (z == x) (z == y) refl refl
  where
    go : (b c : Bool) → (z == x) ≡ b → (z == y) ≡ c → on (exchanged x y z) ≡ on z
    go true c h k = let i : z ≡ x = eqb-true z x h in ap (λ w. on (exchanged x y w)) i ∙ ap on (exchanged_first x y) ∙ f ∙ sym e ∙ ap on (sym i)
    go false true h k = let i : z ≡ y = eqb-true z y k in ap (λ w. on (exchanged x y w)) i ∙ ap on (exchanged_second x y) ∙ e ∙ sym f ∙ ap on (sym i)
    go false false h k = ap on (exchanged_other x y z h k)

naming : (ds : List Declaration) (i : Interpretation) (x y : ℕ) → is_constant_of ds x ≡ false → is_constant_of ds y ≡ false → IsNaming (setting_of ds i) (exchanged x y)
naming ds i x y e f = record {
  apart = exchanged_apart x y;
  constants = none_added (is_constant_of ds) x y e f;
  stays = constants_stay (is_constant_of ds) x y e f;
  side = refl;
}

-- the step

module _ (s : Scene) (x y : ℕ) (w : IsWellFormed s.declarations s.game) (sited : has_site s.game x ≡ true) (unnamed : names y s.game ≡ false) (no_x : is_queried s x ≡ false) (no_y : is_queried s y ≡ false) where
  abbrev constant : ℕ → Bool
  constant = is_constant_of s.declarations

  exchange_keeps : binds_none constant (with_names (exchanged x y) s.game) ≡ true → KeepsChances s.declarations s.game (with_names (exchanged x y) s.game)
  exchange_keeps unbound i sat e asked a =
      let old : constant x ≡ false = site_unnamed constant s.game x sited w.constants in
      let new : constant y ≡ false =
      ap constant (sym (exchanged_first x y)) ∙ site_unnamed (λ z. constant (exchanged x y z)) s.game x sited (sym (binds_under constant (exchanged x y) s.game) ∙ unbound) in
      chances_under (setting_of s.declarations i) (exchanged x y) e a s.game (naming s.declarations i x y old new) (tested_kept s x y no_x no_y e asked)

  keeps : binds_none constant (renamed x y s.game) ≡ true → KeepsChances s.declarations s.game (renamed x y s.game)
  keeps unbound =
      let same : renamed x y s.game ≡ with_names (exchanged x y) s.game = renamed_exchanged x y s.game unnamed in
      subst (KeepsChances s.declarations s.game) (sym same) (exchange_keeps (subst (λ t. binds_none constant t ≡ true) same unbound))

pub renames : (s : Scene) (x y : ℕ) (next : Tree) (cost : Cost) → IsWellFormed s.declarations s.game → KnowsQueries s → binds_none (is_constant_of s.declarations) next ≡ true → rename_row s x y ≡ Leads next cost → KeepsChances s.declarations s.game next
renames s x y next cost w k unbound e =
    let r = unless_leads (has_site s.game x) 1 0 _ next cost e in
    let q = unless_leads (is_new s y) 2 0 _ next cost r.1 in
    let l = unless_leads (not (is_queried s x)) 3 0 _ next cost q.1 in
    let new = and_parts (not (s.known y)) _ q.0 in
    let leads : renamed x y s.game ≡ next = leads_same _ next Zero cost l.1 in
    subst (KeepsChances s.declarations s.game) leads
    (keeps s x y w r.0 (not-true _ new.1) (not-true _ l.0) (unqueried s y k (not-true _ new.0)) (subst (λ t. binds_none (is_constant_of s.declarations) t ≡ true) (sym leads) unbound))
