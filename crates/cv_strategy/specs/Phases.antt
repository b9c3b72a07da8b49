-- The order of phases: a game is settled, then queries are closed, then a move is made, or a further one. This profile's own.
use Rattle.cv_strategy.specs.declared.strategy.Phase.{Phase}
use Rattle.cv_strategy.specs.declared.strategy.Phase.TheVariants.{Carrying, Closing, Moving, Pruning, Renaming, Settling}

-- the phase behind a step that was accepted: a game that a move leads to is settled first, but for those that go on with others
-- of their phase
abbrev pub phase_behind : Phase → Phase
phase_behind Settling = Settling
phase_behind Closing = Closing
phase_behind Moving = Settling
phase_behind Pruning = Pruning
phase_behind Carrying = Carrying
phase_behind Renaming = Settling
