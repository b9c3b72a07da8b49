use Rattle.std.proofs.Common.{◌∙◌, sym}
use Rattle.cv_parse_declarations.proofs.signature.Entries.{enters_forall, no_forall}
use Rattle.cv_parse_declarations.proofs.signature.collisions.variables.Goals as goal

pub returns-then-is_at : goal.returns-then-is_at
returns-then-is_at c = record { makes = enters_forall c.args.depth c.args.signs.now c.args.at c.args.trail.now c.enter.new.trail c.enter.result (sym c.is_at.ensures ∙ c.if-is_at.true) c.enter.ensures }

pub returns : goal.returns
returns c = record { makes = no_forall c.args.depth c.args.signs.now c.args.at c.args.trail.now c.push.new.self c.requires.at (sym c.is_at.ensures ∙ c.if-is_at.false) c.in_ok-push.ensures.items }
