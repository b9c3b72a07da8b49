use Rattle.std.proofs.Common.{ap}
use Rattle.cv_inline_laws.specs.draws.DrawnNames.{find_in}
use Rattle.cv_inline_laws.proofs.draws.Names.{label_again}
use Rattle.cv_inline_names_laws.specs.cells.Cells.{names_in}
use Rattle.cv_inline_names_laws.proofs.cells.Swaps.{picked_swapped}
use Rattle.cv_inline_names_laws.specs.drawn.Named.{names_of, text_of}
use Rattle.cv_inline_names_laws.proofs.drawn.drawn_finds_pick_alike.Goals as goal

pub returns : goal.returns
returns c n t s q w h = ap t (picked_swapped (names_in (text_of n t t) (find_in (names_of n))) q w s (label_again (names_of n) n.apart s q h))
