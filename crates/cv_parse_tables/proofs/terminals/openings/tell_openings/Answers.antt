use Rattle.std.proofs.Common.{ap, ◌∙◌}
use Rattle.cv_parse_tables.specs.declared.terminals.openings.Place.TheVariants.{Outside}
use Rattle.cv_parse_tables.specs.terminals.Openings.{settled_from}
use Rattle.cv_parse_tables.proofs.terminals.RightSides.{two_passes}
use Rattle.cv_parse_tables.proofs.terminals.openings.tell_openings.Goals as goal

pub returns : goal.returns
returns c = c.settle.ensures ∙ (ap (settled_from Outside) c.mark_events.ensures ∙ two_passes Outside _)
