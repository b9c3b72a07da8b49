use Rattle.cv_print_back.proofs.GameExactness.{game_means, says_is_read}
use Rattle.cv_print_back.proofs.laws.reading_games_is_exact.Goals as goal

pub returns-clause-says : goal.returns-clause-says
returns-clause-says c = λ limit live ds signs t. (game_means limit live ds signs _, says_is_read limit live ds signs t)

pub returns-clause-syntax : goal.returns-clause-syntax
returns-clause-syntax c = λ limit live ds signs token e. game_means limit live ds signs _ e

pub returns-clause-nesting : goal.returns-clause-nesting
returns-clause-nesting c = λ limit live ds signs token e. game_means limit live ds signs _ e

pub returns-clause-twice : goal.returns-clause-twice
returns-clause-twice c = λ limit live ds signs token e. game_means limit live ds signs _ e

pub returns-clause-unknown : goal.returns-clause-unknown
returns-clause-unknown c = λ limit live ds signs token e. game_means limit live ds signs _ e

pub returns-clause-nodes : goal.returns-clause-nodes
returns-clause-nodes c = λ limit live ds signs count e. game_means limit live ds signs _ e

pub returns-clause-depth : goal.returns-clause-depth
returns-clause-depth c = λ limit live ds signs count e. game_means limit live ds signs _ e

pub returns-clause-full : goal.returns-clause-full
returns-clause-full c = λ limit live ds signs need e. game_means limit live ds signs _ e

pub returns-clause-memory : goal.returns-clause-memory
returns-clause-memory c = λ limit live ds signs e. game_means limit live ds signs _ e
