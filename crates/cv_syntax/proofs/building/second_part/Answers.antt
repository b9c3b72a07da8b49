use Rattle.std.proofs.Common.{ap, sym, ◌∙◌, length, subst}
use Rattle.cv_pool.specs.declared.node.NodeId.{NodeId}
use Rattle.cv_syntax.specs.Layouts.{trees_of, second_part, IsLaidOut}
use Rattle.cv_syntax.proofs.Buildings.{nothing, three, chosen}
use Rattle.cv_syntax.proofs.building.second_part.Goals as goal

pub returns-in-Three-clause-tree : goal.returns-in-Three-clause-tree
returns-in-Three-clause-tree c =
    let zero : NodeId = record { 0 = 0 } in
    let laid = subst (λ l. IsLaidOut l (length c.args.kids.now)) c.in-Three.is c.requires.laid in
    three c.args.pool.now c.join-rest.new.pool c.join.new.pool c.args.kids.now zero c.join-rest.result c.join.result c.kind_of.result c.kind_of-in-Three.result laid c.requires.kids c.join-rest.ensures.grows c.kind_of.ensures c.kind_of-in-Three.ensures c.join-rest.ensures.tree c.join.ensures.tree ∙ ap (λ l. second_part l (trees_of c.args.pool.now.trees c.args.kids.now)) (sym c.in-Three.is)

pub returns-in-Chosen-clause-tree : goal.returns-in-Chosen-clause-tree
returns-in-Chosen-clause-tree c =
    let zero : NodeId = record { 0 = 0 } in
    let laid = subst (λ l. IsLaidOut l (length c.args.kids.now)) c.in-Chosen.is c.requires.laid in
    chosen c.args.pool.now c.chain-cells.new.pool c.join-body.new.pool c.join-in-Chosen.new.pool c.args.kids.now zero c.chain-cells.result c.join-body.result c.join-in-Chosen.result c.kind_of-in-Chosen.result c.kind_of-in-Chosen-2.result laid c.requires.kids c.chain-cells.ensures.grows c.join-body.ensures.grows c.chain-cells.ensures.live c.kind_of-in-Chosen.ensures c.kind_of-in-Chosen-2.ensures c.chain-cells.ensures.tree c.join-body.ensures.tree c.join-in-Chosen.ensures.tree ∙ ap (λ l. second_part l (trees_of c.args.pool.now.trees c.args.kids.now)) (sym c.in-Chosen.is)

pub returns-in-Lone-clause-tree : goal.returns-in-Lone-clause-tree
returns-in-Lone-clause-tree c = nothing c.args.pool.now.trees ∙ ap (λ l. second_part l (trees_of c.args.pool.now.trees c.args.kids.now)) (sym c.in-Lone.is)

pub returns-in-One-clause-tree : goal.returns-in-One-clause-tree
returns-in-One-clause-tree c = nothing c.args.pool.now.trees ∙ ap (λ l. second_part l (trees_of c.args.pool.now.trees c.args.kids.now)) (sym c.in-One.is)

pub returns-in-Listed-clause-tree : goal.returns-in-Listed-clause-tree
returns-in-Listed-clause-tree c = nothing c.args.pool.now.trees ∙ ap (λ l. second_part l (trees_of c.args.pool.now.trees c.args.kids.now)) (sym c.in-Listed.is)
