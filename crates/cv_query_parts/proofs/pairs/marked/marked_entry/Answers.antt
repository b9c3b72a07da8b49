use Rattle.std.proofs.Common.{length}
use Rattle.cv_query_parts.proofs.pairs.marked.marked_entry.Goals as goal

pub marked_routes-requires-clause-atoms : goal.marked_routes-requires-clause-atoms
marked_routes-requires-clause-atoms c = c.chosen_atoms-atoms.ensures.live (length c.args.pool.now.trees) c.requires.asked.alternatives
