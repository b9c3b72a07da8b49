use Rattle.cv_match_laws.proofs.instances.Coins.{coin_cell, not_key}
use Rattle.cv_match_laws.proofs.instances.coins_have_the_cells_of_calls.Goals as goal

pub returns-clause-cells : goal.returns-clause-cells
returns-clause-cells c r number j s q m y w left at coin term variable count = coin_cell r left number j s q m y at coin term variable count w

pub returns-clause-key : goal.returns-clause-key
returns-clause-key c r number j s q m y left at coin term variable count = not_key r left number j s q m y at coin term variable count
