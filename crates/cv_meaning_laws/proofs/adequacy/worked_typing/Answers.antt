use Rattle.cv_meaning_laws.proofs.adequacy.Worked.{game_typed, restrictions_typed, model, leaves, not_typed}
use Rattle.cv_meaning_laws.proofs.adequacy.worked_typing.Goals as goal

pub returns-clause-typed : goal.returns-clause-typed
returns-clause-typed c = game_typed

pub returns-clause-restrictions : goal.returns-clause-restrictions
returns-clause-restrictions c = restrictions_typed

pub returns-clause-model : goal.returns-clause-model
returns-clause-model c = model

pub returns-clause-leaves : goal.returns-clause-leaves
returns-clause-leaves c = leaves

pub returns-clause-no_boolean : goal.returns-clause-no_boolean
returns-clause-no_boolean c = not_typed
