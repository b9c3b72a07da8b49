use Rattle.std.proofs.Common.{ap, ◌∙◌}
use Rattle.cv_syntax.specs.PoolTrees.{tree_at}
use Rattle.cv_match_terms.specs.uses.Tallies.{defined_here, plus, tally_at, used_here}
use Rattle.cv_match_terms.proofs.uses.Joining.{plus_assoc}
use Rattle.cv_match_terms.proofs.uses.table.note_node.Goals as goal
use Rattle.cv_directory.proofs.Noting.{on_ok}

pub returns : goal.returns
returns c =
    let a = tree_at c.args.pool.now.trees c.args.node.first in
    on_ok c.note_definitions.result (λ o y. o y ∙ (ap (λ s. plus s (defined_here c.args.passed.now y c.args.node.head a)) (c.in_ok-note_reading.ensures y) ∙ plus_assoc (tally_at c.args.entries.now.items y) (used_here y c.args.node.head) (defined_here c.args.passed.now y c.args.node.head a))) c.note_definitions.ensures
