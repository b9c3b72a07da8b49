use Rattle.cv_inline_laws.proofs.draws.Fresh.{as_many_labels, labels_differ, labels_free}
use Rattle.cv_inline_laws.proofs.draws.drawn_labels_are_new.Goals as goal

pub returns-clause-many : goal.returns-clause-many
returns-clause-many c = as_many_labels

pub returns-clause-free : goal.returns-clause-free
returns-clause-free c = labels_free

pub returns-clause-differ : goal.returns-clause-differ
returns-clause-differ c = labels_differ
