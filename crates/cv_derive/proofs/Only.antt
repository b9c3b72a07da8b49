-- The only definition of a variable, as a directory tells it.
use Rattle.std.proofs.Common.{◌≡◌, ℕ, ◌≤◌, min, List, [], ◌∷◌, length, map, Bool, true, false, Option, Some, None, refl, sym, ap, subst, ◌∙◌, arith, eqb-true}
use Rattle.std.specs.Prelude.{◌==◌, if◌then◌else◌, option_and_then, option_map, slice_get}
use Rattle.std.specs.List.{AllByRecursion}
use Rattle.std.proofs.lemmas.Bool.{eqb-false}
use Rattle.cv_syntax_trees.specs.Declarations.{Declaration}
use Rattle.cv_syntax_trees.specs.Tree.{Tree, subtree}
use Rattle.cv_directory.specs.Definitions.{Definition, Entries, entries_of, most}
use Rattle.cv_scope_rules.specs.Above.{stands_at}
use Rattle.cv_scope_rules.specs.Behind.{sites_of}
use Rattle.cv_scope_rules.specs.Context.{Context}
use Rattle.cv_scope_rules.specs.Phrases.{IsWellFormed}
use Rattle.cv_scope_runs.proofs.Plain.{game_context}
use Rattle.cv_scene.specs.Sights.{only_site, variable_of}
use Rattle.cv_derive_facts.specs.Definitions.{IsBehind, behind_at, definition_entry, site_entry}
use Rattle.cv_derive_facts.proofs.Continuing.{all_behind}
use Rattle.cv_derive_facts.proofs.Entries.{count_sites, first_sites}
use Rattle.cv_derive_reasons.specs.cells.Only.{only_place, replications_by}
use Rattle.cv_derive.specs.Sites.{IsSite, site_in}
use Rattle.cv_derive.specs.declared.sites.Site.{Site}
use Rattle.cv_derive.proofs.Defining.{Behind, behind_definition, definition_placed}
use Rattle.cv_derive.proofs.Replications.{few_replications}
use Rattle.cv_syntax_trees.proofs.lists.Options.{some_pair_first, some_pair_second}

-- what the first definition is where it is the only one
pub record Only (game : Tree) (site : Option Context) (entry : Option Definition) : Type 0 where
  pub definition : Definition
  pub context : Context
  pub first : entry ≡ Some definition
  pub there : site ≡ Some context
  pub behind : option_and_then (stands_at game) (behind_at game definition.place) ≡ Some context
  pub replications : definition.replications ≡ context.replications

only_one : (game : Tree) (sites : List (ℕ × Context)) (o : Option Definition) → min (length sites) most ≡ 1 → option_map definition_entry o ≡ slice_get (map site_entry sites) 0 → AllByRecursion (IsBehind game) sites → Only game (only_site sites) o
only_one game [] o n f a = absurd (omega (arith, n))
only_one game (s ∷ []) None n f a = absurd (let z = f in cc)
only_one game (s ∷ []) (Some d) n f a =
    let p : d.place ≡ s.0 = some_pair_first (definition_entry d) (site_entry s) f in
    record { definition = d; context = s.1; first = refl; there = refl; behind = ap (λ q. option_and_then (stands_at game) (behind_at game q)) p ∙ a.0; replications = some_pair_second (definition_entry d) (site_entry s) f }
only_one game (s ∷ (t ∷ sites)) o n f a = absurd (omega (arith, n))

more_sites : (sites : List (ℕ × Context)) → (min (length sites) most ≡ 1 → ⊥) → only_site sites ≡ None
more_sites [] n = refl
more_sites (s ∷ []) n = absurd (n refl)
more_sites (s ∷ (t ∷ sites)) n = refl

module _ (ds : List Declaration) (large : ℕ → Bool) (game : Tree) (x : ℕ) (e : Entries) (w : IsWellFormed ds game) (same : e ≡ entries_of large game) (n : ℕ) (count : n ≡ e.count x) where
  not_only : (n ≡ 1 → ⊥) → only_site (sites_of game x) ≡ None
  not_only m = more_sites (sites_of game x) (λ k. m (count ∙ (ap (λ (y : Entries). y.count x) same ∙ (count_sites ds large game x w ∙ k))))

  is_only : n ≡ 1 → Only game (only_site (sites_of game x)) (e.first x)
  is_only m =
      only_one game (sites_of game x) (e.first x) (sym (count_sites ds large game x w) ∙ (sym (ap (λ (y : Entries). y.count x) same) ∙ (sym count ∙ m)))
      (ap (λ (y : Entries). option_map definition_entry (y.first x)) same ∙ first_sites ds large game x w) (all_behind game x (game_context ds game w).phrase)

stands_behind : (game : Tree) (o : Option ℕ) (q : ℕ) (Γ : Context) → option_and_then (stands_at game) o ≡ Some Γ → Some q ≡ o → stands_at game q ≡ Some Γ
stands_behind game o q Γ e f = ap (option_and_then (stands_at game)) f ∙ e

stood : (game : Tree) (Γ : Context) (o : Option ℕ) → option_and_then (stands_at game) o ≡ Some Γ → (q : ℕ) × (o ≡ Some q)
stood game Γ None e = absurd (let z : None ≡ Some Γ = e in cc)
stood game Γ (Some q) e = (q, refl)

module _ (game : Tree) (there : Option Context) (o : Option Definition) (k : Only game there o) where
  place_there : None ≡ option_map (λ (d : Definition). d.place) o → ⊥
  place_there e = let z : None ≡ Some k.definition.place = e ∙ ap (option_map (λ (d : Definition). d.place)) k.first in cc

  pub root_there : None ≡ option_map (λ (d : Definition). d.tree) o → ⊥
  root_there e = let z : None ≡ Some k.definition.tree = e ∙ ap (option_map (λ (d : Definition). d.tree)) k.first in cc

  module _ (p : ℕ) (e : Some p ≡ option_map (λ (d : Definition). d.place) o) where
    place_same : p ≡ k.definition.place
    place_same = let z : Some p ≡ Some k.definition.place = e ∙ ap (option_map (λ (d : Definition). d.place)) k.first in cc

    -- the process stands behind the definition as it does behind the tree of the definition's node
    module _ (placed : (d : Definition) → o ≡ Some d → subtree game d.place ≡ Some d.tree) (t : Tree) (r : Some t ≡ option_map (λ (d : Definition). d.tree) o) where
      tree_same : t ≡ k.definition.tree
      tree_same = let z : Some t ≡ Some k.definition.tree = r ∙ ap (option_map (λ (d : Definition). d.tree)) k.first in cc

      pub behind_root : Behind game p t
      behind_root =
          let s = stood game k.context (behind_at game k.definition.place) k.behind in
          subst (λ u. Behind game p u) (sym tree_same) (subst (λ q. Behind game q k.definition.tree) (sym place_same) (behind_definition game k.definition.place k.definition.tree s.0 (placed k.definition k.first) s.1))

    module _ (q : ℕ) (f : Some q ≡ behind_at game p) where
      stands : stands_at game q ≡ Some k.context
      stands = stands_behind game (behind_at game k.definition.place) q k.context k.behind (f ∙ ap (behind_at game) place_same)

      rows : replications_by o ≡ k.context.replications
      rows = ap replications_by k.first ∙ k.replications

      pub is_site : (ds : List Declaration) (s : Site) → IsWellFormed ds game → s.place ≡ q → (length (replications_by o) ≤ 8 → s.replications.items ≡ replications_by o) → IsSite game there (Some s)
      is_site ds s w i r =
          let few : length (replications_by o) ≤ 8 = subst (λ rs. length rs ≤ 8) (sym rows) (few_replications ds game q k.context w.scoped stands) in
          subst (λ u. IsSite game u (Some s)) (sym k.there) (ap (stands_at game) i ∙ stands, sym (r few ∙ rows))

-- by the place that a directory tells

module _ (ds : List Declaration) (large : ℕ → Bool) (game : Tree) (x : ℕ) (e : Entries) (w : IsWellFormed ds game) (same : e ≡ entries_of large game) where
  unplaced_at : (c : Bool) → (e.count x == 1) ≡ c → None ≡ (if c then option_map (λ (d : Definition). d.place) (e.first x) else None) → only_site (sites_of game x) ≡ None
  unplaced_at true i p = absurd (place_there game (only_site (sites_of game x)) (e.first x) (is_only ds large game x e w same (e.count x) refl (eqb-true (e.count x) 1 i)) p)
  unplaced_at false i p = not_only ds large game x e w same (e.count x) refl (eqb-false (e.count x) 1 i)

  pub unplaced : None ≡ only_place e x → only_site (sites_of game x) ≡ None
  unplaced p = unplaced_at (e.count x == 1) refl p

  placed_at : (c : Bool) → (e.count x == 1) ≡ c → (q : ℕ) → Some q ≡ (if c then option_map (λ (d : Definition). d.place) (e.first x) else None) → Only game (only_site (sites_of game x)) (e.first x) × (Some q ≡ option_map (λ (d : Definition). d.place) (e.first x))
  placed_at true i q p = (is_only ds large game x e w same (e.count x) refl (eqb-true (e.count x) 1 i), p)
  placed_at false i q p = absurd (let z = p in cc)

  -- and the definition stands there
  pub rooted : (d : Definition) → e.first x ≡ Some d → subtree game d.place ≡ Some d.tree
  rooted d f = definition_placed game x d (sym (ap (λ (y : Entries). y.first x) same) ∙ f)

  pub placed : (q : ℕ) → Some q ≡ only_place e x → Only game (only_site (sites_of game x)) (e.first x) × (Some q ≡ option_map (λ (d : Definition). d.place) (e.first x))
  placed q p = placed_at (e.count x == 1) refl q p

-- the site of a cell is that of its variable

module _ (game cell : Tree) (x : ℕ) (e : Some x ≡ variable_of cell) where
  of_variable : only_site (sites_of game x) ≡ site_in game cell
  of_variable = ap (option_and_then (λ y. only_site (sites_of game y))) e

  pub no_site : only_site (sites_of game x) ≡ None → IsSite game (site_in game cell) None
  no_site n = subst (λ u. IsSite game u None) (sym n ∙ of_variable) tt

  pub site_there : (s : Site) → IsSite game (only_site (sites_of game x)) (Some s) → IsSite game (site_in game cell) (Some s)
  site_there s i = subst (λ u. IsSite game u (Some s)) of_variable i
