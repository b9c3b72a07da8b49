use Rattle.cv_inline_laws.proofs.draws.Names.{index_among, label_again, name_again, name_new, new_above, other_label, other_role}
use Rattle.cv_inline_laws.proofs.draws.drawn_names_are_told_apart.Goals as goal

pub returns-clause-roles : goal.returns-clause-roles
returns-clause-roles c = name_again

pub returns-clause-drawn : goal.returns-clause-drawn
returns-clause-drawn c = name_new

pub returns-clause-indices : goal.returns-clause-indices
returns-clause-indices c = index_among

pub returns-clause-finds : goal.returns-clause-finds
returns-clause-finds c = label_again

pub returns-clause-other_names : goal.returns-clause-other_names
returns-clause-other_names c = other_role

pub returns-clause-other_labels : goal.returns-clause-other_labels
returns-clause-other_labels c = other_label

pub returns-clause-above : goal.returns-clause-above
returns-clause-above c d n y = new_above n d.names y
