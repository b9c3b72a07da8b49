use Rattle.std.proofs.Common.{inl, inr}
use Rattle.cv_derive_laws.proofs.Blocks.{derivation_holds}
use Rattle.cv_derive_laws.proofs.derivations_hold.Goals as goal

pub returns-clause-reached : goal.returns-clause-reached
returns-clause-reached c = λ s i at m n by term_for well model closed r e. derivation_holds s i at m n r.was term_for well model closed by (inl r) e

pub returns-clause-beside : goal.returns-clause-beside
returns-clause-beside c = λ s i at m n by term_for well model closed r w e. derivation_holds s i at m n r term_for well model closed by (inr w) e
