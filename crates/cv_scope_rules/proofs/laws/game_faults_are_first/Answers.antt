use Rattle.cv_scope_rules.specs.Scope.{names_of}
use Rattle.cv_scope_rules.specs.Standing.{at_root}
use Rattle.cv_scope_rules.proofs.First.{scoped_where_none, none_where_scoped, finds_first}
use Rattle.cv_scope_rules.proofs.laws.game_faults_are_first.Goals as goal

pub returns-clause-scoped : goal.returns-clause-scoped
returns-clause-scoped c = λ ds game. (scoped_where_none (names_of ds game) at_root game, none_where_scoped (names_of ds game) at_root game)

pub returns-clause-first : goal.returns-clause-first
returns-clause-first c = λ ds game q f. finds_first (names_of ds game) at_root game q f
