use Rattle.cv_strategy_rules.proofs.Counted.{alone_where_counted, counted_where_alone}
use Rattle.cv_strategy_rules.proofs.reads_in_equalities_are_counted.Goals as goal

pub returns-clause-alone : goal.returns-clause-alone
returns-clause-alone c = λ game x. alone_where_counted x game

pub returns-clause-counted : goal.returns-clause-counted
returns-clause-counted c = λ game x. counted_where_alone x game
