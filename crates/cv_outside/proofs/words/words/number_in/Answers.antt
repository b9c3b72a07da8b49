use Rattle.std.proofs.Common.{rules, ◌∙◌}
use Rattle.cv_outside.proofs.words.Numbers.{not_read, number_at}
use Rattle.cv_outside.proofs.words.words.number_in.Goals as goal

pub returns-in_default : goal.returns-in_default
returns-in_default c = not_read c.args.least c.args.most c.args.text.now c.parse.result c.in_default.field-0 (search rules) (search rules) (search rules)

pub returns : goal.returns
returns c =
    c.in_range.ensures ∙ number_at c.args.least c.args.most c.in-Ok.number c.args.text.now c.parse.result c.in_ok-written.written (search rules) (search rules) (search rules) (search rules) c.in_ok-written.ensures
