use Rattle.cv_scope_rules.specs.declared.position.Position.TheVariants.{Anywhere}
use Rattle.cv_strategy_moves.proofs.Outside.{first_use_outside}
use Rattle.cv_strategy_moves.proofs.uses_of_keys_stand_in_no_instance.Goals as goal

pub returns : goal.returns
returns c M = first_use_outside M M.scene.game Anywhere 0
