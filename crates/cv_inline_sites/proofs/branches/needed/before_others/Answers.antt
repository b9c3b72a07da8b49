use Rattle.std.proofs.Common.{◌∷◌, ap, length, map, not, sym, ◌∙◌, filter}
use Rattle.std.proofs.lemmas.List.{take_all}
use Rattle.std.proofs.lemmas.List.Elements.{All-push, All-same}
use Rattle.cv_syntax_trees.specs.Tree.{Tree, same_tree}
use Rattle.cv_inline_sites.specs.branches.Cells.{IsLiveCell, cell_tree}
use Rattle.cv_inline_sites.proofs.branches.Kept.{kept_more, kept_same}
use Rattle.cv_inline_sites.proofs.branches.needed.before_others.Goals.{then-not-are_same+in_ok-push-2, else-not-are_same}
use Rattle.cv_inline_sites.proofs.branches.needed.before_others.Goals as goal

pub loop-cell-preserved : goal.loop-cell-preserved
loop-cell-preserved c =
    let trees = c.args.pool.now.trees in
    let first = cell_tree trees c.args.first in
    let other = λ (r : Tree). not (same_tree r first) in
    let old = c.loop-cell.kept.items in
    let k = c.loop-cell.cell-index in
    let here = c.loop-cell-test.true in
    let so_far = c.loop-cell.invariant in
    elim c.if-not-are_same.branch [
      | then-not-are_same+in_ok-push-2 w ↦
          rw w.kept-is (record {
            cells = kept_more (cell_tree trees) other first c.args.rest.now k _ old _ here so_far.cells (ap not (sym w.if-not-are_same.ensures)) w.in_ok-push-2.ensures.items;
            live = All-same (IsLiveCell (length trees)) _ _ w.in_ok-push-2.ensures.items (All-push (IsLiveCell (length trees)) old _ so_far.live (c.requires.rest k _ here));
          })
      | else-not-are_same w ↦
          rw w.kept-is (record {
            cells = kept_same (cell_tree trees) other first c.args.rest.now k _ old here so_far.cells (ap not (sym w.if-not-are_same.ensures));
            live = so_far.live;
          })
    ]

pub returns : goal.returns
returns c =
    let trees = c.args.pool.now.trees in
    let first = cell_tree trees c.args.first in
    record {
      cells = c.loop-cell.invariant.cells ∙ ap (λ l. first ∷ filter (λ r. not (same_tree r first)) (map (cell_tree trees) l)) (take_all c.loop-cell.cell-index c.args.rest.now c.loop-cell-test.false);
      live = c.loop-cell.invariant.live;
    }
