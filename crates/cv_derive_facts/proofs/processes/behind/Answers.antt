use Rattle.std.proofs.Common.{arith, sym, ap, ◌∙◌, Some}
use Rattle.cv_syntax.specs.PoolTrees.{tree_at}
use Rattle.cv_derive_facts.proofs.Continuing.{definition_fits}
use Rattle.cv_derive_facts.proofs.processes.behind.Goals as goal

pub process_place-requires-clause-fits : goal.process_place-requires-clause-fits
process_place-requires-clause-fits c =
    let trees = c.args.work.now.pool.trees in
    let node = c.read_node-node.result in
    let fits = definition_fits (tree_at trees (Some c.args.game.root)) c.args.place node.head (tree_at trees node.first) (tree_at trees node.second) (sym c.can_define.ensures ∙ c.if-not-can_define.false) (sym c.in_ok-n.ensures.tree ∙ ap Some c.read_node-node.ensures.tree) in
    omega (arith, fits)
