use Rattle.cv_meaning_laws.proofs.adequacy.Matching.{kept_means, broken_means}
use Rattle.cv_meaning_laws.proofs.adequacy.Reading.{others_mean}
use Rattle.cv_meaning_laws.proofs.adequacy.broken_says_its_sentence.Goals as goal

pub returns-clause-kept : goal.returns-clause-kept
returns-clause-kept c = kept_means

pub returns-clause-broken : goal.returns-clause-broken
returns-clause-broken c = broken_means

pub returns-clause-others : goal.returns-clause-others
returns-clause-others c = others_mean
