use Rattle.cv_library.proofs.Givens.{computed, given}
use Rattle.cv_library.proofs.laws.given_tokens_are_computed.Goals as goal

pub returns-clause-is : goal.returns-clause-is
returns-clause-is c = λ g ts e. computed g ts e

pub returns-clause-only : goal.returns-clause-only
returns-clause-only c = λ g ts a. given g ts a
