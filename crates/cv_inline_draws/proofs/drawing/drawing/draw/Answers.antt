use Rattle.std.proofs.Common.{◌∙◌, ap, map, sym}
use Rattle.std.proofs.lemmas.Result.{IfOk-weaker}
use Rattle.cv_syntax.specs.PoolTrees.{tree_at}
use Rattle.cv_inline.specs.Draws as of_games
use Rattle.cv_inline.specs.Draws.{labels_from, labels_in}
use Rattle.cv_inline_sites.specs.listing.Callings.{callings_in}
use Rattle.cv_inline_sites.specs.listing.Listed.{draw_in}
use Rattle.cv_inline.specs.terms.Drawings.{drawn_in}
use Rattle.cv_inline_draws.specs.names.Fresh.{IsDrawnFor}
use Rattle.cv_inline_draws.proofs.drawing.Tabled.{given_lists}
use Rattle.cv_inline_draws.proofs.drawing.drawing.draw.Goals as goal

pub returns-clause-drawn : goal.returns-clause-drawn
returns-clause-drawn c =
    let trees = c.args.pool.now.trees in
    let cs = callings_in trees c.args.callings.now in
    let marks = labels_in (tree_at trees c.args.game) in
    let old = c.args.names.now in
    let new = c.draw_all.new.names in
    let ds = map draw_in c.as_slice-2.result.now in
    let fs = c.as_slice-3.result.now in
    let ls = c.as_slice-4.result.now in
    λ group e.
    IfOk-weaker c.draw_all.result (λ d. IsDrawnFor old new c.args.taken.now ds fs ls (drawn_in d))
    (λ d. IsDrawnFor old new c.args.taken.now (of_games.draws_of group cs) (of_games.label_draws cs) (labels_from marks 1 (of_games.label_draws cs)) (drawn_in d))
    (λ d i. given_lists old new c.args.taken.now ds (of_games.draws_of group cs) fs (of_games.label_draws cs) ls marks (drawn_in d) (ap (map draw_in) c.as_slice-2.ensures.value ∙ c.in_ok-draws.ensures group e) (c.as_slice-3.ensures.value ∙ c.in_ok-finds.ensures) (c.as_slice-4.ensures.value ∙ (c.in_ok-labels.ensures ∙ ap (labels_from marks 1) (c.as_slice.ensures.value ∙ sym c.as_slice-3.ensures.value))) i)
    c.draw_all.ensures.drawn
