use Rattle.cv_inline_laws.proofs.extents.Measures.{nodes_are_size, path_is_depth}
use Rattle.cv_inline_laws.proofs.extents.sizes_and_depths_are_measures.Goals as goal

pub returns-clause-nodes : goal.returns-clause-nodes
returns-clause-nodes c = nodes_are_size

pub returns-clause-path : goal.returns-clause-path
returns-clause-path c = path_is_depth
