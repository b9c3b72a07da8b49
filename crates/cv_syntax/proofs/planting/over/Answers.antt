use Rattle.std.proofs.Common.{arith, length}
use Rattle.std.specs.Option.{option_to_list}
use Rattle.cv_pool.specs.Nodes.{ChildBelow}
use Rattle.cv_pool.proofs.Growth.{Grows_length}
use Rattle.cv_syntax.proofs.Plantings.{over_trees, All_front, All_grows}
use Rattle.cv_syntax.proofs.planting.over.Goals as goal

pub returns-clause-trees : goal.returns-clause-trees
returns-clause-trees c = over_trees c.args.pool.now c.node.new.self c.args.stack.now.items c.pop.new.self.items c.pop-2.new.self.items c.pop.result c.pop-2.result c.unwrap_or-second.result c.unwrap_or-first.result c.args.head c.kind_of.result c.node.result c.node.ensures.grows c.requires.live c.node.ensures.tree c.kind_of.ensures c.unwrap_or-second.ensures c.unwrap_or-first.ensures c.pop.ensures.items c.pop-2.ensures.items (λ l. c.pop.ensures.variant.1 (omega arith)) (λ l. c.pop-2.ensures.variant.1 (omega arith))

pub returns-clause-live : goal.returns-clause-live
returns-clause-live c =
    let live = ChildBelow (length c.args.pool.now.trees) in
    All_grows (length c.args.pool.now.trees) (length c.node.new.self.trees) c.pop-2.new.self.items (Grows_length c.args.pool.now c.node.new.self c.node.ensures.grows) (All_front live c.pop.new.self.items c.pop-2.new.self.items (option_to_list c.pop-2.result) c.pop-2.ensures.items (All_front live c.args.stack.now.items c.pop.new.self.items (option_to_list c.pop.result) c.pop.ensures.items c.requires.live))
