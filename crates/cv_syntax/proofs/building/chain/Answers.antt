use Rattle.std.proofs.Common.{arith, ◌≡◌, ◌+◌, ◌-◌, drop, ap, ◌∙◌, get_or, refl}
use Rattle.cv_pool.specs.declared.node.NodeId.{NodeId}
use Rattle.cv_syntax.specs.Layouts.{trees_of}
use Rattle.cv_syntax_trees.specs.Tree.{chain}
use Rattle.cv_syntax.proofs.Buildings.{list_init, chain_step}
use Rattle.cv_pool.proofs.Growth.{Grows_refl, Grows_trans}
use Rattle.cv_syntax.proofs.building.chain.Goals as goal

pub items-init : goal.items-init
items-init c = record {
  tree = list_init c.args.pool.now.trees c.args.kids.now;
  live = tt;
  grows = Grows_refl c.args.pool.now;
  within = omega arith;
  spare = omega arith;
  few = omega arith;
}

pub items-preserved : goal.items-preserved
items-preserved c = record {
  tree =
      let whole : c.items.left ≡ c.items.left - 1 + 1 = omega arith in
      let tree = c.items.invariant.tree ∙ ap (λ n. chain (drop n (trees_of c.args.pool.now.trees c.args.kids.now))) whole in
      let zero : NodeId = record { 0 = 0 } in
      chain_step c.args.pool.now c.items.pool c.join.new.pool c.args.kids.now (c.items.left - 1) (get_or c.args.kids.now (c.items.left - 1) zero) zero c.items.list c.join.result c.kind_of.result c.items.invariant.grows c.requires.kids (omega arith) refl c.kind_of.ensures tree c.join.ensures.tree;
  live = c.join.ensures.live;
  grows = Grows_trans c.args.pool.now c.items.pool c.join.new.pool c.items.invariant.grows c.join.ensures.grows;
  within = omega arith;
  spare = omega arith;
  few = omega arith;
}
