-- The definitions of a variable, each with a name of its own. Blanchet, TDSC 2008, section 3.
use Rattle.std.specs.Prelude.{ℕ, List, [], ◌∷◌}
use Rattle.cv_syntax_trees.specs.Tree.{Tree}
use Rattle.cv_meaning.specs.Terms.{found_in, or_zero}
use Rattle.cv_scope_rules.specs.Behind.{sites_of}
use Rattle.cv_scope_rules.specs.Context.{Context}

-- a variable, the names that its definitions get, and the name of the definition at each place
pub record Naming : Type 0 where
  pub variable : ℕ
  pub names : List ℕ
  pub places : List (ℕ × ℕ)

-- definitions in preorder, each with the next name
abbrev pub named_places : List (ℕ × Context) → (names : List ℕ) → List (ℕ × ℕ)
named_places [] ys = []
named_places (d ∷ ds) [] = []
named_places (d ∷ ds) (y ∷ ys) = (d.0, y) ∷ named_places ds ys

abbrev pub naming_of : (game : Tree) → (x : ℕ) → (names : List ℕ) → Naming
naming_of game x ys = record { variable = x; names = ys; places = named_places (sites_of game x) ys }

-- the name of the definition at a place
abbrev pub name_at : Naming → (place : ℕ) → ℕ
name_at n p = or_zero (found_in n.places p)
