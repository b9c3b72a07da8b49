-- Lists of which each front element is known.
use Rattle.std.proofs.lemmas.List.{take_all}
use Rattle.std.proofs.lemmas.List.Elements.{All-more, All-same, All-take}
use Rattle.std.proofs.lemmas.Option.{slice_get_cases}

pub ruleset listed = (All-more, All-same, All-take, slice_get_cases, take_all)
