-- What the value of a phrase is made of, whatever tokens spell it.
use Rattle.std.specs.Prelude.{◌≡◌, ℕ, List, Option, Some, None, ◌⊎◌}
use Rattle.std.specs.List.{AllByRecursion}
use Rattle.cv_syntax_trees.specs.Tree.{Tree}
use Rattle.cv_parse_notation.specs.Form.{Form, word, unnamed, both, may, many, either, made, level, deeper}
use Rattle.cv_parse_notation.specs.Spells.{Use}

-- what is there has the property
abbrev pub IfThere : {A : Type 0} → (A → Type 0) → Option A → Type 0
IfThere P None = Unit {0}
IfThere P (Some a) = P a

-- W holds of each name in the role that it is used in
abbrev pub AllUsed : {R : Type 0} → (R → ℕ → Type 0) → List (Use R) → Type 0
AllUsed W us = AllByRecursion (λ u. W u.role u.name) us

-- What holds of a value of a phrase, where W holds of the names in it in their roles, and P of the values of the sorts
-- one level down.
abbrev pub Yields : {R σ A : Type 0} → (R → ℕ → Type 0) → (σ → Tree → Type 0) → Form R σ A → A → Type 0
Yields W P (word r) a = W r a
Yields W P (unnamed r) a = W r a
Yields W P (both f g) a = Yields W P f a.0 × Yields W P g a.1
Yields W P (may near f) a = IfThere (Yields W P f) a
Yields W P (many near f) a = AllByRecursion (Yields W P f) a
Yields W P (either f g) a = Yields W P f a ⊎ Yields W P g a
Yields W P (made {A = A} v f) b = (a : A) × Yields W P f a × (v a ≡ b)
Yields W P (level f) a = Yields W P f a
Yields W P (deeper s) a = P s a
Yields W P _ a = Unit {0}
