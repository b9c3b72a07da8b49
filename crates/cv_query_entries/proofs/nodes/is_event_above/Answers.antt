use Rattle.std.proofs.Common.{◌≡◌, ◌+◌, ◌-◌, Some, arith, ap₂, sym, ◌∙◌}
use Rattle.cv_syntax.specs.PoolTrees.{tree_at}
use Rattle.cv_syntax.proofs.Walking.{size_node}
use Rattle.cv_query_certificates.specs.EventNodes.{is_behind}
use Rattle.cv_query_parts.specs.Views.{game_of, trees_of}
use Rattle.cv_query_entries.proofs.Places.{subtree_size, that_part}
use Rattle.cv_query_entries.proofs.nodes.is_event_above.Goals as goal

pub is_behind-requires-clause-fits : goal.is_behind-requires-clause-fits
is_behind-requires-clause-fits c =
    let trees = trees_of c.args.view.now in
    let node = c.read_node-node.result in
    let l = subtree_size (game_of c.args.view.now) c.args.q (tree_at trees (Some c.in-Some.n)) (sym c.in-Some.ensures.tree) in
    let n = size_node (tree_at trees (Some c.in-Some.n)) node.head (tree_at trees node.first) (tree_at trees node.second) c.read_node-node.ensures.tree in
    omega (arith, l, n, c.requires.ready.game.fits)

pub returns : goal.returns
returns c =
    let trees = trees_of c.args.view.now in
    let m : c.args.q + (c.args.place - c.args.q) ≡ c.args.place = omega (arith, c.if-q-place.false) in
    that_part (game_of c.args.view.now) c.args.event (tree_at trees c.args.terms) c.args.q c.args.place (tree_at trees (Some c.in-Some.n)) c.is_behind.result c.in-Some.ensures.tree
    (c.is_behind.ensures c.args.q ∙ ap₂ (λ t d. is_behind c.args.event (tree_at trees c.args.terms) c.args.q t d) (sym c.read_node-node.ensures.tree) m)
