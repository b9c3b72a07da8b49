use Rattle.std.proofs.Common.{[], refl}
use Rattle.cv_inline_laws.proofs.runs.Serve.{serve_next, inputs_next}
use Rattle.cv_inline_laws.proofs.runs.a_service_in_the_next_game_is_alike.Goals as goal

pub returns-clause-served : goal.returns-clause-served
returns-clause-served c T context place next_place k vs at es m n ar br made tapes fine related expected =
    serve_next T tapes context [] [] fine place next_place k k vs vs (refl, refl) at es m ar br n made related tt tt expected

pub returns-clause-opened : goal.returns-clause-opened
returns-clause-opened c T context place next_place at tapes fine = inputs_next T tapes context fine place next_place at
