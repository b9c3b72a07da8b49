use Rattle.cv_scope_rules.proofs.Decided.{node_obeys, no_node_fault, node_breaks}
use Rattle.cv_scope_rules.proofs.laws.nodes_are_decided.Goals as goal

pub returns-clause-obeys : goal.returns-clause-obeys
returns-clause-obeys c = λ names s h a b. (node_obeys names s h a b, no_node_fault names s h a b)

pub returns-clause-breaks : goal.returns-clause-breaks
returns-clause-breaks c = λ names s h a b f. node_breaks names s h a b f
