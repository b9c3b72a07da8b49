use Rattle.std.proofs.Common.{ap}
use Rattle.cv_inline_names_laws.specs.cells.Cells.{names_in}
use Rattle.cv_inline_names_laws.proofs.cells.Swaps.{coins_alike, find_stays, like_tapes, made_swapped, picked_swapped}
use Rattle.cv_inline_names_laws.proofs.cells.swapped_tapes_are_alike.Goals as goal

pub returns-clause-tapes : goal.returns-clause-tapes
returns-clause-tapes c = like_tapes

pub returns-clause-chosen : goal.returns-clause-chosen
returns-clause-chosen c T find t s v w h = ap t (made_swapped (names_in T find) v w s (T.variables s v h))

pub returns-clause-picked : goal.returns-clause-picked
returns-clause-picked c T find t s q w h = ap t (picked_swapped (names_in T find) q w s h)

pub returns-clause-finds : goal.returns-clause-finds
returns-clause-finds c T find t l w h = ap t (find_stays (names_in T find) l w h)

pub returns-clause-coins : goal.returns-clause-coins
returns-clause-coins c T find t a = coins_alike T find t 0 a.coins
