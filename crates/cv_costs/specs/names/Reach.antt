-- Whether a term is in scope before a construct. Blanchet, TDSC 2008, section 2.
use Rattle.std.specs.Prelude.{ℕ, Bool, true, false, ◌&&◌, Option, Some, None}
use Rattle.cv_syntax_trees.specs.Tree.{Tree, Empty, Node}
use Rattle.cv_scope_rules.specs.Context.{Context, known_at}
use Rattle.cv_scope_rules.specs.Rules.{Names}
use Rattle.cv_scope_rules.specs.Scope.{names_of}
use Rattle.cv_scope_rules.specs.Tests.{reads_in_reach}
use Rattle.cv_scene.specs.Scenes.{Scene}

-- A term is in scope where each name that it reads is a current index, a constant, or a cell in reach.

unfoldable pub is_in_scope : Names → Context → Tree → Bool
is_in_scope names Γ Empty = true
is_in_scope names Γ (Node h a b) = reads_in_reach names Γ h a b && (is_in_scope names Γ a && is_in_scope names Γ b)

abbrev pub is_in_scope_by : Names → Option Context → Tree → Bool
is_in_scope_by names None m = false
is_in_scope_by names (Some Γ) m = is_in_scope names Γ m

-- before the construct at a place
abbrev pub is_in_scope_at : Scene → (place : ℕ) → (term : Tree) → Bool
is_in_scope_at s p m = is_in_scope_by (names_of s.declarations s.game) (known_at s.game p) m
