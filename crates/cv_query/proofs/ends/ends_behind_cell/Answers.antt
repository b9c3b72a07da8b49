use Rattle.std.proofs.Common.{◌∷◌, None, refl, ap, ap₂, ◌∙◌}
use Rattle.cv_syntax.specs.PoolTrees.{tree_at}
use Rattle.cv_scene.specs.lines.Ends.{is_end}
use Rattle.cv_scene.specs.lines.Lines.{IsDefined, lines_of, statements}
use Rattle.cv_query_certificates.specs.EventNodes.{arguments_at, only_site}
use Rattle.cv_query_entries.specs.ends.Said.{said_equal}
use Rattle.cv_query_parts.specs.Views.{game_of, trees_of}
use Rattle.cv_query.proofs.Claiming.{behind_part, pending_part}
use Rattle.cv_query.proofs.ends.ends_behind_cell.Goals as goal

pub returns : goal.returns
returns c =
    let v = c.args.view.now in
    let trees = trees_of v in
    let cell = tree_at trees c.args.cell in
    c.ends_with_cell.ensures
    ∙ ap₂ (λ ms ns. is_end (statements (lines_of (tree_at trees c.args.by))) (IsDefined cell ∷ said_equal ms ns))
    (behind_part trees (record { variables = None; arguments = None; others = c.as_slice.result; terms = c.first_of.result }) c.pending-there.result (arguments_at (game_of v) c.args.place) c.pending-there.ensures.pending (ap (tree_at trees) c.pending-there.ensures.node ∙ c.arguments_at.ensures.tree) cell (only_site (game_of v) cell) refl refl (c.as_slice.ensures.value ∙ c.in_ok-rows.ensures) c.first_of.ensures.tree)
    (pending_part trees c.args.given.now c.pending.result (tree_at trees c.args.arguments) c.pending.ensures.pending (ap (tree_at trees) c.pending.ensures.node))
