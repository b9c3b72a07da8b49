use Rattle.std.proofs.Common.{[], ◌∷◌}
use Rattle.cv_scope_rules.specs.typing.Parts.{game_part}
use Rattle.cv_scope_rules.proofs.typing.First.{parts_typed_where_none, none_where_parts_typed, finds_first_in, game_alone, alone_game}
use Rattle.cv_scope_rules.proofs.typing.laws.game_faults_are_first.Goals as goal

pub returns-clause-typed : goal.returns-clause-typed
returns-clause-typed c = λ ds game. (
  λ h. game_alone ds (game_part game) (parts_typed_where_none ds 0 (game_part game ∷ []) h),
  λ h. none_where_parts_typed ds 0 (game_part game ∷ []) (alone_game ds (game_part game) h),
)

pub returns-clause-first : goal.returns-clause-first
returns-clause-first c = λ ds game q f. finds_first_in ds 0 (game_part game ∷ []) q f
