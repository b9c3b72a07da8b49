-- The step `birthday`: comparisons of two cells of one array, whose values are all chosen at random, become comparisons of their indices.
-- Blanchet, TDSC 2008, bounds by collisions how often they differ; the conditions and their order are this profile's own.
use Rattle.std.specs.Prelude.{ℕ, List, [], Option, Some, None}
use Rattle.cv_syntax_trees.specs.sites.Sites.{Variable, first_site}
use Rattle.cv_scene.specs.Scenes.{Scene}
use Rattle.cv_steps.specs.Rows.{unless, unless_at}
use Rattle.cv_steps.specs.Steps.{Fails, Leads, Row, Step}
use Rattle.cv_costs.specs.Collisions.{one_for_pairs, type_of}
use Rattle.cv_scene.specs.Large.{first_other_site, is_large}
use Rattle.cv_costs.specs.wording.Changing.{changed_at}
use Rattle.cv_rule_birthday.specs.Comparing.{compared, first_uncompared, is_one_of}
use Rattle.cv_rule_birthday.specs.Conditions.{stands_at_places}

-- By the first definition of the variable. In a typed game its type is a large one where the definitions are `new` of large types.
abbrev pub birthday_row_by : Scene → (x : ℕ) → (places : List ℕ) → Option Variable → Row
birthday_row_by s x ps None = Fails 2 0
birthday_row_by s x ps (Some v) =
    unless_at 2 (first_other_site (is_large s) x 0 s.game)
    (unless (is_large s (type_of v.sort)) 2 0
    (Leads (changed_at (is_one_of ps) compared 0 s.game) (one_for_pairs s.declarations v.parameters (type_of v.sort))))

abbrev pub birthday_row : Scene → (x : ℕ) → (places : List ℕ) → Row
birthday_row s x ps = unless_at 1 (first_uncompared s.game x ps) (birthday_row_by s x ps (first_site x [] s.game))

abbrev pub birthday_step : (x : ℕ) → (places : List ℕ) → Step
birthday_step x ps = record { stands = λ s. stands_at_places s x ps; row = λ s. birthday_row s x ps }
