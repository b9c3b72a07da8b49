use Rattle.std.proofs.Common.{◌≡◌, ◌+◌, ◌++◌, ◌∷◌, [], take, arith, ap, sym, ◌∙◌}
use Rattle.std.specs.Vec.{vec_len}
use Rattle.cv_syntax.specs.Declarations.{declarations}
use Rattle.cv_syntax.specs.PoolTrees.{tree_at}
use Rattle.cv_directory.specs.Definitions.{large_in}
use Rattle.cv_directory.specs.Tables.{entries_in}
use Rattle.cv_derive_reasons.specs.cells.Only.{replications_by}
use Rattle.cv_query_parts.specs.Views.{game_of, trees_of}
use Rattle.cv_query_entries.proofs.Sites.{next_row, no_row, no_rows, row, row_within, told_nothing, told_rows}
use Rattle.cv_query_entries.proofs.cells.rows_by.Goals as goal

pub returns-in_default : goal.returns-in_default
returns-in_default c =
    let v = c.args.view.now in
    c.new-rows.ensures.items ∙ no_rows (game_of v) (tree_at (trees_of v) c.args.cell) (sym c.in_default.is ∙ c.variable.ensures)

pub returns-in_default-only_definition : goal.returns-in_default-only_definition
returns-in_default-only_definition c =
    let v = c.args.view.now in
    c.new-rows.ensures.items
    ∙ told_nothing (declarations (trees_of v) v.work.now.decls.list) (large_in v.work.now.decls.list) (game_of v) (entries_in (trees_of v) c.args.directory.now) c.requires.ready.game.formed c.requires.entries (tree_at (trees_of v) c.args.cell) c.in-Some.x (sym c.in-Some.is ∙ c.variable.ensures) (sym c.in_default-only_definition.is ∙ c.only_definition.ensures (trees_of v))

pub rows-init : goal.rows-init
rows-init c =
    let o = (entries_in (trees_of c.args.view.now) c.args.directory.now).first c.in-Some.x in
    record { kept = c.new-rows.ensures.items ∙ sym (ap (λ k. take k (replications_by o)) c.new-rows.ensures.len) }

pub rows-smaller : goal.rows-smaller
rows-smaller c =
    let o = (entries_in (trees_of c.args.view.now) c.args.directory.now).first c.in-Some.x in
    let w = row_within o (vec_len c.rows.rows) c.in-Some-replication.row (sym c.in-Some-replication.is ∙ (c.replication.ensures (trees_of c.args.view.now) ∙ ap (row o) c.len.ensures)) in
    omega (arith, w, c.in_ok-push.ensures.len)

pub rows-preserved : goal.rows-preserved
rows-preserved c =
    let o = (entries_in (trees_of c.args.view.now) c.args.directory.now).first c.in-Some.x in
    let n : vec_len c.push.new.self ≡ vec_len c.rows.rows + 1 = omega (arith, c.in_ok-push.ensures.len) in
    record {
      kept = c.in_ok-push.ensures.items
          ∙ (ap (λ l. l ++ c.in-Some-replication.row ∷ []) c.rows.invariant.kept
          ∙ (sym (next_row o (vec_len c.rows.rows) c.in-Some-replication.row (sym c.in-Some-replication.is ∙ (c.replication.ensures (trees_of c.args.view.now) ∙ ap (row o) c.len.ensures)))
          ∙ ap (λ k. take k (replications_by o)) (sym n)));
    }

pub returns : goal.returns
returns c =
    let v = c.args.view.now in
    let o = (entries_in (trees_of v) c.args.directory.now).first c.in-Some.x in
    c.rows.invariant.kept
    ∙ (no_row o (vec_len c.rows.rows) (sym c.in_default-replication.is ∙ (c.replication.ensures (trees_of v) ∙ ap (row o) c.len.ensures))
    ∙ told_rows (declarations (trees_of v) v.work.now.decls.list) (large_in v.work.now.decls.list) (game_of v) (entries_in (trees_of v) c.args.directory.now) c.requires.ready.game.formed c.requires.entries (tree_at (trees_of v) c.args.cell) c.in-Some.x (sym c.in-Some.is ∙ c.variable.ensures) c.in-Some-only_definition._site (sym c.in-Some-only_definition.is ∙ c.only_definition.ensures (trees_of v)))
