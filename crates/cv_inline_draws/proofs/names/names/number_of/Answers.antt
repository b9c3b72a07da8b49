use Rattle.std.proofs.Common.{◌≡◌, ◌++◌, ◌∷◌, [], Some, false, ◌∙◌, ap, sym}
use Rattle.std.specs.Prelude.{slice_get, if◌then◌else◌}
use Rattle.std.proofs.lemmas.Option.{get_or_from_slice_get, slice_get_within}
use Rattle.cv_inline.specs.Draws.{is_among}
use Rattle.cv_inline_draws.specs.names.Texts.{text_at}
use Rattle.cv_inline_draws.proofs.names.Texts.{is_among_has, is_among_lacks}
use Rattle.cv_inline_draws.proofs.names.names.number_of.Goals as goal

pub returns-in-Ok-clause-table : goal.returns-in-Ok-clause-table
returns-in-Ok-clause-table c =
    let names = c.args.names.now in
    let text = c.args.text.now in
    let no : is_among names text ≡ false = is_among_lacks names text (λ n h. let same = (c.declare.ensures.twice (record { 0 = n })).1 h in cc) in
    c.in-Ok.ensures.ok ∙ sym (ap (λ b. if b then names else names ++ text ∷ []) no)

pub returns-in-Err-Twice-clause-table : goal.returns-in-Err-Twice-clause-table
returns-in-Err-Twice-clause-table c =
    let names = c.args.names.now in
    let text = c.args.text.now in
    let id = c.in-Err-Twice.id in
    let here : slice_get names id.0 ≡ Some text = (c.in-Err-Twice.ensures.twice id).0 (cc) in
    c.in-Err-Twice.ensures.err ∙ sym (ap (λ b. if b then names else names ++ text ∷ []) (is_among_has names text id.0 here))

pub returns-in-Err-Twice-clause-text : goal.returns-in-Err-Twice-clause-text
returns-in-Err-Twice-clause-text c =
    let id = c.in-Err-Twice.id in
    let here : slice_get c.args.names.now id.0 ≡ Some c.args.text.now = (c.in-Err-Twice.ensures.twice id).0 (cc) in
    ap (λ names. text_at names id.0) c.in-Err-Twice.ensures.err ∙ get_or_from_slice_get c.args.names.now id.0 c.args.text.now [] here

pub returns-in-Err-Twice-clause-live : goal.returns-in-Err-Twice-clause-live
returns-in-Err-Twice-clause-live c =
    let id = c.in-Err-Twice.id in
    let here : slice_get c.args.names.now id.0 ≡ Some c.args.text.now = (c.in-Err-Twice.ensures.twice id).0 (cc) in
    rw c.in-Err-Twice.ensures.err (slice_get_within c.args.names.now id.0 c.args.text.now here)
