-- Where the derivations by which a term is rewritten are right. This profile's own.
use Rattle.std.specs.Prelude.{◌≡◌, ℕ, ◌<◌, ◌^◌, true, length, Some}
use Rattle.cv_syntax_trees.specs.declared.head.Head.TheVariants.{Eq}
use Rattle.cv_syntax_trees.specs.Tree.{Tree, Node, bound_names, first, second}
use Rattle.cv_scene.specs.Derivations.{Derives}
use Rattle.cv_scene.specs.Reasons.{are_of_types, equations_in}
use Rattle.cv_scene.specs.Scenes.{Scene, part_at}
use Rattle.cv_scene.specs.Sights.{from_one, sight_at}
use Rattle.cv_scene.specs.Terms.{is_term_at}
use Rattle.cv_scene.specs.lines.Given.{with_given}
use Rattle.cv_scene.specs.lines.Targets.{equality}
use Rattle.cv_scene.specs.lines.Truths.{is_truth_of_equation}
use Rattle.cv_steps.specs.Rewriting.{has_sort_of, is_rewritable_at, sort_at}
use Rattle.cv_settling_rules.specs.Rewritings.{rewriting}

-- the derivation at the place is one of the equality of what stands there with the term
abbrev pub IsRewriting : Scene → (place : ℕ) → (term reason : Tree) → Type 0
IsRewriting s p m reason = Derives (sight_at s p) (rewriting s p m reason) (equality (part_at s.game p) m)

-- the place may be rewritten, and by this term
pub record MayBecome (s : Scene) (place : ℕ) (m : Tree) : Type 0 where
  pub term : is_term_at s place m ≡ true
  pub rewritable : is_rewritable_at s place ≡ true
  pub sort : has_sort_of (sort_at s place (part_at s.game place)) (sort_at s place m) ≡ true

-- an equation of truth values says so
abbrev pub IsTruth : Scene → (place : ℕ) → (term : Tree) → Type 0
IsTruth s p m = is_truth_of_equation (Node Eq (part_at s.game p) m) ≡ true

-- the declared equation of a number says so, with terms for its variables
pub record IsInstance (s : Scene) (place : ℕ) (m : Tree) (number : ℕ) (terms : Tree) : Type 0 where
  pub equation : Tree
  pub few : length (equations_in s.declarations) < 2 ^ 32
  pub declared : from_one (equations_in s.declarations) number ≡ Some equation
  pub types : are_of_types (sight_at s place) (first equation) terms ≡ true
  pub says : Node Eq (part_at s.game place) m ≡ with_given (bound_names (first equation)) terms (second equation)
