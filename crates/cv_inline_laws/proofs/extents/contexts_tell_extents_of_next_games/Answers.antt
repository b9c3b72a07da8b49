use Rattle.std.proofs.Common.{sym, ◌∙◌, []}
use Rattle.cv_inline.specs.NextGame.{inlined_calls_of, next_of}
use Rattle.cv_inline_laws.specs.extents.Extents.{all_nodes, longest_path}
use Rattle.cv_inline_laws.proofs.extents.Measures.{nodes_are_size, nodes_measure, path_is_depth, path_measure}
use Rattle.cv_inline_laws.proofs.extents.Games.{next_measured}
use Rattle.cv_inline_laws.proofs.extents.contexts_tell_extents_of_next_games.Goals as goal

pub returns-clause-size : goal.returns-clause-size
returns-clause-size c k x d = sym (nodes_are_size (next_of k x d)) ∙ next_measured all_nodes nodes_measure (inlined_calls_of k x d) [] k.game

pub returns-clause-depth : goal.returns-clause-depth
returns-clause-depth c k x d = sym (path_is_depth (next_of k x d)) ∙ next_measured longest_path path_measure (inlined_calls_of k x d) [] k.game
