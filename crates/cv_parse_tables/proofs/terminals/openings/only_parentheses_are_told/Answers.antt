use Rattle.cv_parse_tables.specs.declared.terminals.openings.Place.TheVariants.{Outside}
use Rattle.cv_parse_tables.proofs.terminals.RightSides.{length_openings, others_stay, small_told, without_arrows}
use Rattle.cv_parse_tables.proofs.terminals.openings.only_parentheses_are_told.Goals as goal

pub returns : goal.returns
returns c = record { length = length_openings Outside; others = others_stay; plain = without_arrows; small = small_told }
