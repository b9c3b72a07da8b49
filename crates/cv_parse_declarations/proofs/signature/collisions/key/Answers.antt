use Rattle.cv_parse_declarations.proofs.signature.Entries.{enters_key}
use Rattle.cv_parse_declarations.proofs.signature.collisions.key.Goals as goal

pub returns : goal.returns
returns c = record { makes = enters_key c.args.depth c.args.signs.now c.args.at c.args.trail.now c.enter.new.trail c.enter.result c.enter.ensures }
