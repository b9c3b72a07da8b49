-- The step `guess`: equalities of a value that is chosen at random and that nothing else reads are taken to be false. What it costs,
-- and its row. Blanchet, TDSC 2008, bounds by collisions how often one isn't; the conditions and their order are this profile's own.
use Rattle.std.specs.Prelude.{ℕ, false, not, List, [], map, Option, Some, None}
use Rattle.cv_syntax_trees.specs.Declarations.{Declaration}
use Rattle.cv_syntax_trees.specs.Tree.{Tree}
use Rattle.cv_bound.specs.declared.cost.Collision.{Collision}
use Rattle.cv_syntax_trees.specs.sites.Sites.{Variable, first_site}
use Rattle.cv_syntax_trees.specs.declared.sites.sort.Sort.{Sort}
use Rattle.cv_syntax_trees.specs.declared.sites.sort.Sort.TheVariants.{OfType}
use Rattle.cv_path.specs.Copies.{copies_at}
use Rattle.cv_scene.specs.Scenes.{Scene, is_queried}
use Rattle.cv_costs.specs.Collisions.{declared_parameters}
use Rattle.cv_costs.specs.Factors.{factors_of}
use Rattle.cv_scene.specs.Large.{first_other_site, is_large}
use Rattle.cv_steps.specs.Rows.{unless, unless_at}
use Rattle.cv_steps.specs.Steps.{Collisions, Cost, Fails, Leads, Row, Step}
use Rattle.cv_rule_birthday.specs.Conditions.{stands_at_places}
use Rattle.cv_rule_birthday.specs.guess.Guessing.{compares_at, first_other_read, first_outside, without_guesses}

-- the parameters of a place's copies: those of the replications above it, and those of a branch in whose list or condition it stands

abbrev pub or_none : Option (List ℕ) → List ℕ
or_none None = []
or_none (Some ps) = ps

abbrev pub parameters_of : (game : Tree) → (place : ℕ) → List ℕ
parameters_of game p = or_none (copies_at game p)

-- the chance of one value of a type, for each copy below parameters
abbrev pub one_in : List Declaration → (type : ℕ) → (parameters : List ℕ) → Collision
one_in ds T ps = record { times = 1; factors = factors_of (declared_parameters ds) ps; half = false; over = record { 0 = T } }

-- so for each place
abbrev pub one_for_guesses : List Declaration → (parameters : List (List ℕ)) → (type : ℕ) → Cost
one_for_guesses ds pss T = Collisions (map (one_in ds T) pss)

abbrev pub cost_at : Scene → (places : List ℕ) → (type : ℕ) → Cost
cost_at s ps T = one_for_guesses s.declarations (map (parameters_of s.game) ps) T

-- the variable is read nowhere else, and no query names it
abbrev pub row_by_reads : Scene → (x : ℕ) → (places : List ℕ) → (type : ℕ) → Row
row_by_reads s x ps T =
    unless_at 3 (first_other_read ps x s.game)
    (unless (not (is_queried s x)) 4 0
    (Leads (without_guesses x ps s.game) (cost_at s ps T)))

abbrev pub row_by_sort : Scene → (x : ℕ) → (places : List ℕ) → Sort → Row
row_by_sort s x ps (OfType T) = unless (is_large s T) 2 0 (row_by_reads s x ps T)
row_by_sort s x ps S = Fails 2 0

-- By the variable's first definition. Its type is a large one where all definitions are `new` of large types.
abbrev pub row_by_site : Scene → (x : ℕ) → (places : List ℕ) → Option Variable → Row
row_by_site s x ps None = Fails 2 0
row_by_site s x ps (Some v) = row_by_sort s x ps v.sort

abbrev pub guess_row : Scene → (x : ℕ) → (places : List ℕ) → Row
guess_row s x ps =
    unless_at 1 (first_outside (compares_at s.game x) ps)
    (unless_at 2 (first_other_site (is_large s) x 0 s.game)
    (row_by_site s x ps (first_site x [] s.game)))

abbrev pub guess_step : (x : ℕ) → (places : List ℕ) → Step
guess_step x ps = record { stands = λ s. stands_at_places s x ps; row = λ s. guess_row s x ps }
