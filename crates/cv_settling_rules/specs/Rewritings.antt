-- The derivations by which a term is rewritten: one line, by an equation of truth values or by a declared one. This profile's own.
use Rattle.std.specs.Prelude.{ℕ, [], ◌∷◌}
use Rattle.cv_syntax_trees.specs.declared.head.Head.TheVariants as head
use Rattle.cv_syntax_trees.specs.declared.head.Head.TheVariants.{Eq}
use Rattle.cv_syntax_trees.specs.Tree.{Tree, Node}
use Rattle.cv_step_writer.specs.Items.{number, over}
use Rattle.cv_scene.specs.Scenes.{Scene, part_at}
use Rattle.cv_scene.specs.lines.Lines.{Holds}
use Rattle.cv_settling_rules.specs.Lines.{Line, derivation}

-- the line that says that two terms are equal
abbrev pub equality_line : (old new reason : Tree) → Line
equality_line old new reason = record { says = Holds (Node Eq old new); reason = reason }

-- what stands at the place, and the term
abbrev pub rewriting : Scene → (place : ℕ) → (term reason : Tree) → Tree
rewriting s p m reason = derivation (equality_line (part_at s.game p) m reason ∷ [])

-- reasons: an equation of truth values, and the declared equation of a number, with terms for its variables

abbrev pub by_bool : Tree
by_bool = over head.ByBool []

abbrev pub by_equation : (number : ℕ) → (terms : Tree) → Tree
by_equation k terms = over head.ByEquation (number k ∷ terms ∷ [])
