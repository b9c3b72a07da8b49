use Rattle.std.proofs.Common.{◌≡◌, ◌∙◌, ap, refl}
use Rattle.std.proofs.lemmas.Result.{IfOk-weaker}
use Rattle.cv_syntax.specs.PoolTrees.{tree_at}
use Rattle.cv_inline.specs.Draws.{labels_from, labels_in}
use Rattle.cv_inline_draws.proofs.drawing.fresh.new_labels.Goals as goal

pub returns : goal.returns
returns c =
    let finds = c.args.finds.now in
    IfOk-weaker c.draw_labels.result (λ labels. labels.items ≡ labels_from c.as_slice.result.now 1 finds) (λ labels. labels.items ≡ labels_from (labels_in (tree_at c.args.pool.now.trees c.args.game)) 1 finds)
    (λ labels e. e ∙ ap (λ ls. labels_from ls 1 finds) (c.as_slice.ensures.value ∙ c.in_ok-taken.ensures))
    (c.draw_labels.ensures finds refl)
