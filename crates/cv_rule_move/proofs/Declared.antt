-- A move keeps the types and parameters that a game names.
use Rattle.std.proofs.Common.{◌≡◌, ℕ, true, Some, subst}
use Rattle.cv_syntax_trees.specs.Tree.{Tree, Empty, Node}
use Rattle.cv_meaning.specs.Replaced.{is_output}
use Rattle.cv_scope_rules.specs.Phrases.{Inputs, is_phrase}
use Rattle.cv_scene.specs.Scenes.{Scene, part_at}
use Rattle.cv_typing_runs.specs.Games.{HasDeclaredSorts}
use Rattle.cv_steps.specs.Steps.{Cost, Leads}
use Rattle.cv_steps_laws.proofs.Declared.{declared_there}
use Rattle.cv_rule_move.specs.Moving.{defined, moved}
use Rattle.cv_rule_move.specs.Rows.{move_row}
use Rattle.cv_rule_move.proofs.Keeping.{move_leads}
use Rattle.cv_rule_move.proofs.Kept.{moved_kept, sorts_by_nodes}
use Rattle.cv_rule_move.proofs.Serving.{definition_output}

-- a definition is an output process
pub defined_output : (t : Tree) (x : ℕ) → defined t ≡ Some x → is_output t ≡ true
defined_output Empty x e = absurd (cc)
defined_output (Node h a b) x e = definition_output h a b x e

pub moves_declared : (s : Scene) (place : ℕ) (next : Tree) (cost : Cost) → is_phrase Inputs s.game ≡ true → HasDeclaredSorts s.declarations s.game → move_row s place ≡ Leads next cost → HasDeclaredSorts s.declarations next
moves_declared s place next cost w d e =
    let r = move_leads s place next cost e in
    subst (HasDeclaredSorts s.declarations) r.leads
    (declared_there s place moved w (defined_output (part_at s.game place) r.variable r.defines) (moved_kept (HasDeclaredSorts s.declarations) (sorts_by_nodes s.declarations) (part_at s.game place)) d)
