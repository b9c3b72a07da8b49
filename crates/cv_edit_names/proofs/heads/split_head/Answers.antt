use Rattle.std.proofs.Common.{◌∙◌}
use Rattle.cv_edit_names.specs.Kept.{naming_in}
use Rattle.cv_edit_names.proofs.Nodes.{split_other}
use Rattle.cv_edit_names.proofs.heads.split_head.Goals as goal

pub returns-in_default : goal.returns-in_default
returns-in_default c = c.named_head.ensures ∙ split_other (naming_in c.args.naming.now) c.args.place c.args.head c.in_default.not-Repl
