-- The current indices, as a list of names with the first place of each.
use Rattle.std.specs.Prelude.{ℕ, suc, ◌<◌, ◌≤◌, ◌≡◌, nat_eq, List, [], ◌∷◌, ◌++◌, length, take, get_or, Option, Some}
use Rattle.std.specs.declared.hash.FoldHasher.{FoldHasher}
use Rattle.std.specs.declared.hash.BuildHasherDefault.{BuildHasherDefault}
use Rattle.std.specs.HashMap.{get, HashMap}
use Rattle.cv_syntax_trees.specs.declared.head.Head.{Head}
use Rattle.cv_syntax_trees.specs.declared.head.Head.TheVariants.{Repl}
use Rattle.cv_syntax.specs.declared.make.Make.{Make}
use Rattle.cv_syntax.specs.declared.make.Make.TheVariants.{Nothing, Over}

abbrev pub Numbers : Type 0
Numbers = HashMap ℕ ℕ (BuildHasherDefault FoldHasher)

-- what a map holds
abbrev pub numbers_of : Numbers → ℕ → Option ℕ
numbers_of m x = get nat_eq m x

-- the name at a place stands at the first place that is kept of it too
pub record IsKept (names : List ℕ) (places : Numbers) (k : ℕ) : Type 0 where
  pub first : ℕ
  pub is : numbers_of places (get_or names k 0) ≡ Some first
  pub within : first ≤ k
  pub same : get_or names first 0 ≡ get_or names k 0

abbrev pub AreKept : List ℕ → Numbers → Type 0
AreKept names places = (k : ℕ) → k < length names → IsKept names places k

-- the names below a node that stands under so many of them, and how many they are
abbrev pub entered_below : ℕ → Head → List ℕ → List ℕ
entered_below level (Repl i n) names = take level names ++ i ∷ []
entered_below level h names = names

abbrev pub entered : ℕ → Make → List ℕ → List ℕ
entered level Nothing names = names
entered level (Over h) names = entered_below level h names

abbrev pub level_below : ℕ → Head → ℕ
level_below level (Repl i n) = suc level
level_below level h = level
