use Rattle.cv_meaning_chances.proofs.contexts.Locality.{local, once, own}
use Rattle.cv_meaning_chances.proofs.contexts.answers_are_local.Goals as goal

pub returns-clause-reads : goal.returns-clause-reads
returns-clause-reads c = local

pub returns-clause-once : goal.returns-clause-once
returns-clause-once c = once

pub returns-clause-own : goal.returns-clause-own
returns-clause-own c = own
