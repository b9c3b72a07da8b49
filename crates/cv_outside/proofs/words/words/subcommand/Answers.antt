use Rattle.cv_outside.proofs.words.Rows.{joined}
use Rattle.cv_outside.proofs.words.words.subcommand.Goals as goal

pub returns : goal.returns
returns c = joined _ _ _ _ c.subcommand.result _ c.subcommand.ensures.name c.subcommand.ensures.rows
