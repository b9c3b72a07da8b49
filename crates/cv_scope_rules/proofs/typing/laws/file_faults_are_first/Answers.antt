use Rattle.cv_scope_rules.specs.typing.Parts.{file_parts}
use Rattle.cv_scope_rules.proofs.typing.First.{parts_typed_where_none, none_where_parts_typed, finds_first_in}
use Rattle.cv_scope_rules.proofs.typing.laws.file_faults_are_first.Goals as goal

pub returns-clause-typed : goal.returns-clause-typed
returns-clause-typed c = λ ds game. (parts_typed_where_none ds 0 (file_parts ds game), none_where_parts_typed ds 0 (file_parts ds game))

pub returns-clause-first : goal.returns-clause-first
returns-clause-first c = λ ds game q f. finds_first_in ds 0 (file_parts ds game) q f
