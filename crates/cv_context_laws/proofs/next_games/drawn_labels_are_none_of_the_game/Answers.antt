use Rattle.cv_context_laws.proofs.next_games.Labels.{labels_apart, labels_new, many_labels}
use Rattle.cv_context_laws.proofs.next_games.drawn_labels_are_none_of_the_game.Goals as goal

pub returns-clause-many : goal.returns-clause-many
returns-clause-many c = many_labels

pub returns-clause-apart : goal.returns-clause-apart
returns-clause-apart c = labels_apart

pub returns-clause-new : goal.returns-clause-new
returns-clause-new c = labels_new
