-- The conditions of the step that gives each definition its own name, for other names.
use Rattle.std.proofs.Common.{◌≡◌, ℕ, true, not, List, ap, ◌∙◌}
use Rattle.cv_syntax_trees.specs.Tree.{Tree}
use Rattle.cv_scene.specs.Scenes.{Scene, is_queried}
use Rattle.cv_steps.specs.Rows.{unless, unless_at}
use Rattle.cv_steps.specs.Steps.{Leads, Row, Zero}
use Rattle.cv_edit_names.specs.Cells.{first_mixed}
use Rattle.cv_edit_names.specs.Splitting.{split_game}
use Rattle.cv_rule_array_names.specs.Row.{array_names_row, array_names_step}
use Rattle.cv_rule_array_names.specs.Sites.{has_names}
use Rattle.cv_strategy_rules.specs.Legal.{LeadsTo}
use Rattle.cv_strategy_moves.specs.Demands.{HasSeveralDefinitions}
use Rattle.cv_strategy_moves.proofs.Demanding.{several_definitions}

leads : (s : Scene) (x : ℕ) (ys : List ℕ) → HasSeveralDefinitions s x → has_names s x ys ≡ true → array_names_row s x ys ≡ Leads (split_game x ys s.game) Zero
leads s x ys d e =
    let next : Row = Leads (split_game x ys s.game) Zero in
    ap (λ b. unless b 1 0 (unless (not (is_queried s x)) 2 0 (unless_at 3 (first_mixed x 0 s.game) next))) e
    ∙ ap (λ b. unless (not b) 2 0 (unless_at 3 (first_mixed x 0 s.game) next)) d.unasked
    ∙ ap (λ o. unless_at 3 o next) d.unmixed

pub other_names : (s : Scene) (x : ℕ) (ys zs : List ℕ) (next : Tree) → LeadsTo s (array_names_step x ys) next → has_names s x zs ≡ true → LeadsTo s (array_names_step x zs) (split_game x zs s.game)
other_names s x ys zs next l e = record { stands = l.stands; cost = Zero; row = leads s x zs (several_definitions s x ys next l.cost l.row) e }
