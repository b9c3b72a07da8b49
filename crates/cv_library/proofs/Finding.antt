-- Definitions by their names.
use Rattle.std.proofs.Common.{◌≡◌, ◌≢◌, ℕ, ◌<◌, List, [], ◌∷◌, length, map, Some, None, refl, ap, sym, ◌∙◌, arith}
use Rattle.std.specs.Prelude.{option_map, slice_get}
use Rattle.std.proofs.lemmas.List.{length-map}
use Rattle.std.proofs.lemmas.Option.{slice_get-map, slice_get_past, slice_get_within}
use Rattle.cv_lex.specs.Lexis.{Token}
use Rattle.cv_parse_tables.specs.terminals.Signs.{place_of}
use Rattle.cv_parse_tables.proofs.terminals.Naming.{only_place, place_of_new}
use Rattle.cv_library.specs.declared.forms.Place.{Place}
use Rattle.cv_library.specs.Libraries.{Definition, definition_at, name_at}
use Rattle.cv_library.specs.Expansions.{defined}

names_same : (ts : List Token) (ps : List Place) → map (λ (d : Definition). d.name) (map (definition_at ts) ps) ≡ map (name_at ts) ps
names_same ts [] = refl
names_same ts (p ∷ ps) = ap (λ l. name_at ts p ∷ l) (names_same ts ps)

module _ (ts : List Token) (ps : List Place) (names : List (List ℕ)) (names_are : names ≡ map (name_at ts) ps) (name : List ℕ) where
  by_names : defined (map (definition_at ts) ps) name ≡ slice_get (map (definition_at ts) ps) (place_of names name)
  by_names = ap (λ l. slice_get (map (definition_at ts) ps) (place_of l name)) (names_same ts ps ∙ sym names_are)

  pub found_at : (i : ℕ) (p : Place) → slice_get names i ≡ Some name → ((n : ℕ) → slice_get names n ≡ Some name → i ≡ n) → slice_get ps i ≡ Some p → Some (definition_at ts p) ≡ defined (map (definition_at ts) ps) name
  found_at i p h only e =
      sym (by_names ∙ ap (slice_get (map (definition_at ts) ps)) (sym (only_place names name i h only)) ∙ slice_get-map (definition_at ts) ps i ∙ ap (option_map (definition_at ts)) e)

  pub found_nowhere : ((n : ℕ) → slice_get names n ≢ Some name) → None ≡ defined (map (definition_at ts) ps) name
  found_nowhere h =
      let many : length names ≡ length (map (definition_at ts) ps) = ap length names_are ∙ length-map ps (name_at ts) ∙ sym (length-map ps (definition_at ts)) in
      sym (by_names ∙ slice_get_past (map (definition_at ts) ps) (place_of names name) (omega (arith, many, place_of_new names name h)))

  pub place_within : (i : ℕ) → slice_get names i ≡ Some name → i < length ps
  place_within i h = omega (arith, slice_get_within names i name h, ap length names_are, length-map ps (name_at ts))
