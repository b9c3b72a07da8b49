use Rattle.cv_parse.proofs.Exactness.{dead_token, deep_game, heavy_trees, large_game, says_is_said, said_is_saying, twice_named, unknown_name}
use Rattle.cv_parse.proofs.laws.parsing_is_exact.Goals as goal

pub returns-clause-says : goal.returns-clause-says
returns-clause-says c = λ limit signs p. (said_is_saying limit signs p, says_is_said limit signs p)

pub returns-clause-syntax : goal.returns-clause-syntax
returns-clause-syntax c = λ limit signs token e. dead_token limit signs token e

pub returns-clause-twice : goal.returns-clause-twice
returns-clause-twice c = λ limit signs token e. twice_named limit signs token e

pub returns-clause-unknown : goal.returns-clause-unknown
returns-clause-unknown c = λ limit signs token e. unknown_name limit signs token e

pub returns-clause-nodes : goal.returns-clause-nodes
returns-clause-nodes c = λ limit signs count e. large_game limit signs count e

pub returns-clause-depth : goal.returns-clause-depth
returns-clause-depth c = λ limit signs count e. deep_game limit signs count e

pub returns-clause-full : goal.returns-clause-full
returns-clause-full c = λ limit signs need e. heavy_trees limit signs need e
