-- Costs of guesses: their terms, and how many there are.
use Rattle.std.proofs.Common.{◌≡◌, ℕ, ◌+◌, ◌≤◌, ◌<◌, true, false, List, [], ◌∷◌, length, map, refl, ◌∙◌, arith, ltb-true}
use Rattle.std.proofs.lemmas.Bool.{and_parts}
use Rattle.std.proofs.lemmas.List.{length-map}
use Rattle.std.specs.List.{list_all}
use Rattle.cv_syntax_trees.specs.Declarations.{Declaration}
use Rattle.cv_syntax_trees.specs.Tree.{size}
use Rattle.cv_bound.specs.Sums.{coefficients, terms_of}
use Rattle.cv_bound.specs.declared.cost.Cost.TheVariants as cost
use Rattle.cv_costs.specs.Large.{are_increasing, is_below}
use Rattle.cv_scene.specs.Scenes.{Scene, has_place}
use Rattle.cv_steps.specs.Costs.{cost_of}
use Rattle.cv_rule_birthday.specs.guess.Row.{cost_at, one_in, parameters_of}

-- there are no more places in increasing order than the game has

below_few : (s : Scene) (p : ℕ) (ps : List ℕ) → list_all (has_place s) (p ∷ ps) ≡ true → is_below p ps ≡ true → p + length ps < size s.game
below_few s p [] e f =
    let l = ltb-true p (size s.game) (and_parts (has_place s p) _ e).0 in
    omega (arith, l)
below_few s p (q ∷ ps) e f =
    let r = and_parts _ (is_below q ps) f in
    let l = ltb-true p q r.0 in
    omega (arith, l, below_few s q ps (and_parts (has_place s p) _ e).1 r.1)

pub few_places : (s : Scene) (ps : List ℕ) → list_all (has_place s) ps ≡ true → are_increasing ps ≡ true → length ps ≤ size s.game
few_places s [] e f = omega arith
few_places s (p ∷ ps) e f = omega (arith, below_few s p ps e f)

-- each place counts once

each_once : (ds : List Declaration) (T : ℕ) (pss : List (List ℕ)) → coefficients (terms_of (cost.Collisions (map (one_in ds T) pss)) false) ≡ length pss
each_once ds T [] = refl
each_once ds T (ps ∷ pss) = omega (arith, each_once ds T pss)

pub as_many_terms : (s : Scene) (ps : List ℕ) (T : ℕ) → coefficients (terms_of (cost_of (cost_at s ps T)) false) ≡ length ps
as_many_terms s ps T = each_once s.declarations T (map (parameters_of s.game) ps) ∙ length-map ps (parameters_of s.game)
