use Rattle.cv_print.proofs.Readings.{empty_test}
use Rattle.cv_print.proofs.lines.open_node.Goals as goal

pub returns-clause-no_first : goal.returns-clause-no_first
returns-clause-no_first c = empty_test c.read_node.result.first _ c.read_node.ensures.no_first

pub returns-clause-no_second : goal.returns-clause-no_second
returns-clause-no_second c = empty_test c.read_node.result.second _ c.read_node.ensures.no_second
