-- What a declared equation makes of a term, and what is asked of the equation and of the place. This profile's own.
use Rattle.std.specs.Prelude.{◌≡◌, ℕ, ◌<◌, ◌^◌, true, Some, None, length}
use Rattle.cv_syntax_trees.specs.Tree.{Tree, first}
use Rattle.cv_scope_rules.specs.Phrases.{Binders, is_phrase}
use Rattle.cv_scene.specs.Reasons.{equations_in}
use Rattle.cv_scene.specs.Scenes.{Scene}
use Rattle.cv_scene.specs.Sights.{from_one}
use Rattle.cv_scene.specs.Terms.{above_at, is_function}
use Rattle.cv_settling_laws.specs.Rewritings.{IsInstance}

-- this is the declared equation of a number, whose variables are a list of binders
pub record IsDeclared (s : Scene) (number : ℕ) (equation : Tree) : Type 0 where
  pub few : length (equations_in s.declarations) < 2 ^ 32
  pub declared : from_one (equations_in s.declarations) number ≡ Some equation
  pub binders : is_phrase Binders (first equation) ≡ true

-- no index at the place has the name of a function
abbrev pub HasNoFunction : Scene → (place : ℕ) → Type 0
HasNoFunction s p = (x : ℕ) → is_function s.declarations x ≡ true → above_at s p x ≡ None

-- the term that stands at the place is equal to this one by an instance of the equation
abbrev pub IsByEquation : Scene → (place number : ℕ) → (term : Tree) → Type 0
IsByEquation s p n m = (terms : Tree) × IsInstance s p m n terms
