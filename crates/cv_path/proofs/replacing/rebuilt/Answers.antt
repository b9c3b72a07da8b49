use Rattle.std.proofs.Common.{◌∷◌, [], rules, arith, ap, length, length-append}
use Rattle.cv_pool.proofs.Growth.{Grows_length, Grows_trans}
use Rattle.cv_path.proofs.Going.{way_back, way_last, way_less}
use Rattle.cv_path.proofs.replacing.rebuilt.Goals as goal

pub turned-requires-clause-spare : goal.turned-requires-clause-spare
turned-requires-clause-spare c = omega (arith, c.up.invariant.spare, ap length c.in-Some.ensures.items, length-append c.pop.new.self.items (c.in-Some.turn ∷ []))

pub turned-requires-clause-node : goal.turned-requires-clause-node
turned-requires-clause-node c =
    let l = way_last (length c.args.pool.now.trees) c.up.left.items c.pop.new.self.items c.in-Some.turn c.in-Some.ensures.items c.up.invariant.nodes in
    omega (arith, l, Grows_length c.args.pool.now c.up.pool c.up.invariant.grows)

pub up-preserved : goal.up-preserved
up-preserved c = record {
  tree = way_back c.args.pool.now c.up.pool c.turned.new.pool c.up.left.items c.pop.new.self.items c.in-Some.turn c.up.new c.turned.result _ c.in-Some.ensures.items c.up.invariant.grows c.up.invariant.nodes c.turned.ensures.tree c.up.invariant.tree;
  live = search rules;
  none = λ e. absurd (cc);
  grows = Grows_trans c.args.pool.now c.up.pool c.turned.new.pool c.up.invariant.grows c.turned.ensures.grows;
  spare = omega (arith, c.up.invariant.spare, c.turned.ensures.spare, ap length c.in-Some.ensures.items, length-append c.pop.new.self.items (c.in-Some.turn ∷ []));
  few = omega (arith, c.up.invariant.few, c.turned.ensures.few, ap length c.in-Some.ensures.items, length-append c.pop.new.self.items (c.in-Some.turn ∷ []));
  nodes = way_less _ c.up.left.items c.pop.new.self.items c.in-Some.turn c.in-Some.ensures.items c.up.invariant.nodes;
}
