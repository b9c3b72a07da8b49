use Rattle.std.proofs.Common.{refl}
use Rattle.cv_syntax_trees.specs.Tree.{size, subtree, same_tree}
use Rattle.cv_meaning.specs.contexts.Inlined.{all_equal, in_game, cells_in_game, moved, needed, expanded_at, expanded, inlined_body, inlined_call}
use Rattle.cv_inline.specs.NextGame.{names_assigned, call_of, callings_from, with_results, next_in}
use Rattle.cv_inline.specs.Draws.{index_draws, body_draws, finds_in, labels_in}
use Rattle.cv_inline.proofs.worked_next_games.Goals as goal

pub returns-clause-one_sender : goal.returns-clause-one_sender
unfolding size subtree in_game all_equal moved needed same_tree expanded_at expanded inlined_body inlined_call cells_in_game names_assigned call_of callings_from with_results next_in index_draws body_draws finds_in labels_in
returns-clause-one_sender c = refl

pub returns-clause-then_place : goal.returns-clause-then_place
unfolding size subtree in_game all_equal moved needed same_tree expanded_at expanded inlined_body inlined_call cells_in_game names_assigned call_of callings_from with_results next_in index_draws body_draws finds_in labels_in
returns-clause-then_place c = refl

pub returns-clause-else_place : goal.returns-clause-else_place
unfolding size subtree in_game all_equal moved needed same_tree expanded_at expanded inlined_body inlined_call cells_in_game names_assigned call_of callings_from with_results next_in index_draws body_draws finds_in labels_in
returns-clause-else_place c = refl

pub returns-clause-two_senders : goal.returns-clause-two_senders
unfolding size subtree in_game all_equal moved needed same_tree expanded_at expanded inlined_body inlined_call cells_in_game names_assigned call_of callings_from with_results next_in index_draws body_draws finds_in labels_in
returns-clause-two_senders c = refl

pub returns-clause-many_keys : goal.returns-clause-many_keys
unfolding size subtree in_game all_equal moved needed same_tree expanded_at expanded inlined_body inlined_call cells_in_game names_assigned call_of callings_from with_results next_in index_draws body_draws finds_in labels_in
returns-clause-many_keys c = refl

pub returns-clause-found_key : goal.returns-clause-found_key
unfolding size subtree in_game all_equal moved needed same_tree expanded_at expanded inlined_body inlined_call cells_in_game names_assigned call_of callings_from with_results next_in index_draws body_draws finds_in labels_in
returns-clause-found_key c = refl

pub returns-clause-no_sender : goal.returns-clause-no_sender
unfolding size subtree in_game all_equal moved needed same_tree expanded_at expanded inlined_body inlined_call cells_in_game names_assigned call_of callings_from with_results next_in index_draws body_draws finds_in labels_in
returns-clause-no_sender c = refl

pub returns-clause-one_statement : goal.returns-clause-one_statement
unfolding size subtree in_game all_equal moved needed same_tree expanded_at expanded inlined_body inlined_call cells_in_game names_assigned call_of callings_from with_results next_in index_draws body_draws finds_in labels_in
returns-clause-one_statement c = refl

pub returns-clause-finds_in_finds : goal.returns-clause-finds_in_finds
unfolding size subtree in_game all_equal moved needed same_tree expanded_at expanded inlined_body inlined_call cells_in_game names_assigned call_of callings_from with_results next_in index_draws body_draws finds_in labels_in
returns-clause-finds_in_finds c = refl
