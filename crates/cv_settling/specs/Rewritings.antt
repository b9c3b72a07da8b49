-- The rewritings that are proposed, at terms of a game with their places. This profile's own.
use Rattle.std.specs.Prelude.{◌≡◌, ℕ, ◌<◌, ◌^◌, true, List, [], ◌∷◌, ◌++◌, map, Option, Some, None}
use Rattle.std.specs.List.{filter}
use Rattle.cv_pool.specs.KindTree.{KindTree}
use Rattle.cv_syntax_trees.specs.Tree.{Tree, size}
use Rattle.cv_syntax.specs.PoolTrees.{tree_at}
use Rattle.cv_scope_rules.specs.Phrases.{Term, is_phrase}
use Rattle.cv_scene.specs.Scenes.{Scene}
use Rattle.cv_settling_rules.specs.Candidates.{Candidate, Rewrite}
use Rattle.cv_settling_rules.specs.Equations.{by_equations}
use Rattle.cv_settling_overview.specs.declared.walk.Placed.{Placed}
use Rattle.cv_settling.specs.Instances.{right_with, seen_in}
use Rattle.cv_settling.specs.Measured.{is_lower}
use Rattle.cv_settling.specs.Putting.{terms_of}
use Rattle.cv_settling.specs.Truths.{outcome_tree, truth_of}
use Rattle.cv_settling.specs.declared.rewrite.Rewriting.{Rewriting}
use Rattle.cv_settling.specs.declared.rewrite.Rewriting.TheVariants as rewriting

abbrev pub listed : {A : Type 0} → Option A → List A
listed None = []
listed (Some x) = x ∷ []

-- by the first equation of truth values that shortens the term, and by the declared ones that make its measure lower
abbrev pub lower_sides : Scene → Tree → List Tree
lower_sides s t = listed (truth_of t) ++ filter (is_lower s t) (by_equations s t)

-- at terms with their places
abbrev pub lower_rewritings : Scene → List (ℕ × Tree) → List Candidate
lower_rewritings s [] = []
lower_rewritings s (v ∷ vs) = map (Rewrite v.0) (lower_sides s v.1) ++ lower_rewritings s vs

-- what the code has of them

abbrev pub placed_in : List KindTree → List Placed → List (ℕ × Tree)
placed_in trees vs = map (λ (v : Placed). (v.place, tree_at trees (Some v.node))) vs

abbrev pub candidate_of : List KindTree → Rewriting → Candidate
candidate_of trees (rewriting.Truth at outcome) = Rewrite at.place (outcome_tree trees outcome)
candidate_of trees (rewriting.Instance at e given) = Rewrite at.place (right_with (seen_in trees e) (terms_of trees given.items))

-- terms that aren't too large to be measured
pub record IsMeasurable (t : Tree) : Type 0 where
  pub term : is_phrase Term t ≡ true
  pub small : size t < 2 ^ 32

abbrev pub AreMeasurable : List (ℕ × Tree) → Type 0
AreMeasurable [] = Unit {0}
AreMeasurable (v ∷ vs) = IsMeasurable v.1 × AreMeasurable vs
