use Rattle.std.proofs.Common.{◌∙◌, ap, map}
use Rattle.cv_inline.specs.Draws.{drawn_by}
use Rattle.cv_inline_sites.specs.listing.Listed.{draw_in}
use Rattle.cv_inline_draws.proofs.drawing.drawing.draw_all.Goals as goal

pub returns-in-Ok-clause-drawn : goal.returns-in-Ok-clause-drawn
returns-in-Ok-clause-drawn c =
    record {
      names = c.in_ok-numbers.numbers.items;
      live = c.in_ok-numbers.ensures.live;
      texts = c.in_ok-numbers.ensures.texts;
      added = c.in_ok-numbers.ensures.table;
      table = c.in-Ok.ensures ∙ ap (λ xs. drawn_by (map draw_in c.args.draws.now) xs c.args.finds.now c.args.labels.now) c.as_slice.ensures.value;
    }
