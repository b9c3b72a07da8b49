use Rattle.std.proofs.Common.{◌≡◌, ◌∙◌, OnOk, ap, sym, subst, length, map}
use Rattle.std.proofs.lemmas.Result.{IfOk-weaker}
use Rattle.cv_inline.specs.Draws.{drawn_texts}
use Rattle.cv_inline_sites.specs.listing.Listed.{draw_in}
use Rattle.cv_inline_draws.specs.names.Texts.{texts_at, with_texts}
use Rattle.cv_inline_draws.specs.names.Fresh as fresh
use Rattle.cv_inline_draws.proofs.drawing.Tabled.{all_below}
use Rattle.cv_inline_draws.proofs.drawing.fresh.new_names.Goals as goal

pub draw_names-requires-clause-bases : goal.draw_names-requires-clause-bases
draw_names-requires-clause-bases c = all_below (length c.args.names.now) c.as_slice-bases.result.now (sym c.are_names.ensures ∙ c.if-not-are_names.false)

pub returns-clause-texts : goal.returns-clause-texts
returns-clause-texts c =
    let old = c.args.names.now in
    let taken = texts_at old c.args.taken.now in
    let new = c.draw_names.new.names in
    IfOk-weaker c.draw_names.result (λ drawn. texts_at new drawn.items ≡ drawn_texts taken (texts_at old c.as_slice-bases.result.now)) (λ drawn. texts_at new drawn.items ≡ drawn_texts taken (texts_at old (fresh.bases_of (map draw_in c.args.draws.now))))
    (λ drawn e. e ∙ ap (λ bs. drawn_texts taken (texts_at old bs)) (c.as_slice-bases.ensures.value ∙ c.in_ok-all.ensures))
    c.draw_names.ensures.texts

pub returns-clause-table : goal.returns-clause-table
returns-clause-table c =
    let old = c.args.names.now in
    let taken = texts_at old c.args.taken.now in
    subst (λ bs. OnOk c.draw_names.result (c.draw_names.new.names ≡ with_texts old (drawn_texts taken (texts_at old bs)))) (c.as_slice-bases.ensures.value ∙ c.in_ok-all.ensures) c.draw_names.ensures.table
