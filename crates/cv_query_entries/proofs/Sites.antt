-- The only definition of a variable, as a directory tells it.
use Rattle.std.proofs.Common.{◌≡◌, ℕ, zero, suc, ◌+◌, ◌<◌, min, List, [], ◌∷◌, ◌++◌, length, map, take, Bool, Option, Some, None, refl, sym, ap, ◌∙◌, arith, eq-eqb, ne_eqb}
use Rattle.std.specs.Prelude.{◌==◌, if◌then◌else◌, option_and_then, option_map, slice_get}
use Rattle.std.proofs.lemmas.List.{take_all}
use Rattle.cv_syntax_trees.specs.Declarations.{Declaration}
use Rattle.cv_syntax_trees.specs.Tree.{Tree}
use Rattle.cv_directory.specs.Definitions.{Definition, Entries, entries_of, most}
use Rattle.cv_scope_rules.specs.Behind.{sites_of}
use Rattle.cv_scope_rules.specs.Context.{Context}
use Rattle.cv_scope_rules.specs.Phrases.{IsWellFormed}
use Rattle.cv_scene.specs.Sights.{variable_of}
use Rattle.cv_derive_facts.specs.Definitions.{definition_entry, site_entry}
use Rattle.cv_derive_facts.proofs.Entries.{count_sites, first_sites}
use Rattle.cv_derive_reasons.specs.cells.Only.{only_place, replications_by}
use Rattle.cv_query_certificates.specs.EventNodes.{only_site, the_only}
use Rattle.cv_query_entries.specs.Nodes.{rows_above}
use Rattle.cv_derive_reasons.proofs.cells.Rows.{none_past, some_next}
use Rattle.cv_syntax_trees.proofs.lists.Options.{some_pair_first, some_pair_second}

abbrev place_by : Option Definition → ℕ → Option ℕ
place_by o n = if n == 1 then option_map (λ (d : Definition). d.place) o else None

-- what a count and the first definition say of the sites
pub record IsTold (sites : List (ℕ × Context)) (o : Option Definition) (n : ℕ) : Type 0 where
  pub place : place_by o n ≡ option_map (λ (d : ℕ × Context). d.0) (the_only sites)
  pub rows : (p : ℕ) → Some p ≡ place_by o n → replications_by o ≡ rows_above (the_only sites)

not_one : (sites : List (ℕ × Context)) (o : Option Definition) (n : ℕ) → (n ≡ 1 → ⊥) → the_only sites ≡ None → IsTold sites o n
not_one sites o n m e =
    let z : place_by o n ≡ None = ap (λ b. if b then option_map (λ (d : Definition). d.place) o else None) (ne_eqb n 1 m) in
    record { place = z ∙ sym (ap (option_map (λ (d : ℕ × Context). d.0)) e); rows = λ p f. absurd (let g = f ∙ z in cc) }

told : (sites : List (ℕ × Context)) (o : Option Definition) (n : ℕ) → n ≡ min (length sites) most → option_map definition_entry o ≡ slice_get (map site_entry sites) 0 → IsTold sites o n
told [] o n c f = not_one [] o n (λ k. omega (arith, c, k)) refl
told (s ∷ []) None n c f = absurd (let z = f in cc)
told (s ∷ []) (Some d) n c f =
    let k : n ≡ 1 = omega (arith, c) in
    record {
      place = ap (λ b. if b then Some d.place else None) (eq-eqb n 1 k) ∙ ap Some (some_pair_first (definition_entry d) (site_entry s) f);
      rows = λ p g. some_pair_second (definition_entry d) (site_entry s) f;
    }
told (s ∷ (t ∷ sites)) o n c f = not_one (s ∷ (t ∷ sites)) o n (λ k. omega (arith, c, k)) refl

module _ (ds : List Declaration) (large : ℕ → Bool) (game : Tree) (e : Entries) (w : IsWellFormed ds game) (same : e ≡ entries_of large game) where
  by_entries : (x : ℕ) → IsTold (sites_of game x) (e.first x) (e.count x)
  by_entries x = told (sites_of game x) (e.first x) (e.count x) (ap (λ (y : Entries). y.count x) same ∙ count_sites ds large game x w) (ap (λ (y : Entries). option_map definition_entry (y.first x)) same ∙ first_sites ds large game x w)

  module _ (cell : Tree) (x : ℕ) (v : Some x ≡ variable_of cell) where
    of_variable : the_only (sites_of game x) ≡ only_site game cell
    of_variable = ap (option_and_then (λ y. the_only (sites_of game y))) v

    pub told_place : (p : Option ℕ) → p ≡ only_place e x → p ≡ option_map (λ (d : ℕ × Context). d.0) (only_site game cell)
    told_place p f = f ∙ ((by_entries x).place ∙ ap (option_map (λ (d : ℕ × Context). d.0)) of_variable)

    pub told_rows : (p : ℕ) → Some p ≡ only_place e x → replications_by (e.first x) ≡ rows_above (only_site game cell)
    told_rows p f = (by_entries x).rows p f ∙ ap rows_above of_variable

    pub told_nothing : None ≡ only_place e x → [] ≡ rows_above (only_site game cell)
    told_nothing f = none (only_site game cell) (told_place None f)
      where
        none : (o : Option (ℕ × Context)) → None ≡ option_map (λ (d : ℕ × Context). d.0) o → [] ≡ rows_above o
        none None g = refl
        none (Some d) g = absurd (let z = g in cc)

pub no_variable : (game cell : Tree) → None ≡ variable_of cell → None ≡ only_site game cell
no_variable game cell v = ap (option_and_then (λ y. the_only (sites_of game y))) v

-- the replications above a definition, one by one

some_within : {A : Type 0} (xs : List A) (k : ℕ) (x : A) → Some x ≡ slice_get xs k → k < length xs
some_within [] k x e = absurd (let z = e in cc)
some_within (y ∷ xs) zero x e = omega arith
some_within (y ∷ xs) (suc k) x e = let l = some_within xs k x e in omega arith

abbrev pub row : Option Definition → ℕ → Option (ℕ × ℕ)
row o k = option_and_then (λ (d : Definition). slice_get d.replications k) o

pub no_row : (o : Option Definition) (k : ℕ) → None ≡ row o k → take k (replications_by o) ≡ replications_by o
no_row None k e = take_all k [] (omega arith)
no_row (Some d) k e = take_all k d.replications (none_past d.replications k e)

pub next_row : (o : Option Definition) (k : ℕ) (r : ℕ × ℕ) → Some r ≡ row o k → take (k + 1) (replications_by o) ≡ take k (replications_by o) ++ r ∷ []
next_row None k r e = absurd (let z = e in cc)
next_row (Some d) k r e = some_next d.replications k r e

pub row_within : (o : Option Definition) (k : ℕ) (r : ℕ × ℕ) → Some r ≡ row o k → k < length (replications_by o)
row_within None k r e = absurd (let z = e in cc)
row_within (Some d) k r e = some_within d.replications k r e

pub no_place : (game cell : Tree) → None ≡ variable_of cell → None ≡ option_map (λ (d : ℕ × Context). d.0) (only_site game cell)
no_place game cell v = ap (option_map (λ (d : ℕ × Context). d.0)) (no_variable game cell v)

pub no_rows : (game cell : Tree) → None ≡ variable_of cell → [] ≡ rows_above (only_site game cell)
no_rows game cell v = ap rows_above (no_variable game cell v)
