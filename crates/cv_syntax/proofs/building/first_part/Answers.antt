use Rattle.std.proofs.Common.{ap, sym, ◌∙◌}
use Rattle.cv_syntax.specs.Layouts.{trees_of, first_part}
use Rattle.cv_syntax.proofs.Buildings.{nothing, taking, giving}
use Rattle.cv_syntax.proofs.building.first_part.Goals as goal

pub returns-in-Taking-clause-tree : goal.returns-in-Taking-clause-tree
returns-in-Taking-clause-tree c = taking c.args.pool.now c.chain-list.new.pool c.join.new.pool c.args.kids.now c.chain-list.result c.join.result c.kind_of.result c.kind_of.ensures c.chain-list.ensures.tree c.join.ensures.tree ∙ ap (λ l. first_part l (trees_of c.args.pool.now.trees c.args.kids.now)) (sym c.in-Taking.is)

pub returns-in-Giving-clause-tree : goal.returns-in-Giving-clause-tree
returns-in-Giving-clause-tree c = giving c.args.pool.now c.chain-list-in-Giving.new.pool c.join-in-Giving.new.pool c.args.kids.now c.chain-list-in-Giving.result c.join-in-Giving.result c.kind_of-in-Giving.result c.kind_of-in-Giving.ensures c.chain-list-in-Giving.ensures.tree c.join-in-Giving.ensures.tree ∙ ap (λ l. first_part l (trees_of c.args.pool.now.trees c.args.kids.now)) (sym c.in-Giving.is)

pub returns-in-Lone-clause-tree : goal.returns-in-Lone-clause-tree
returns-in-Lone-clause-tree c = nothing c.args.pool.now.trees ∙ ap (λ l. first_part l (trees_of c.args.pool.now.trees c.args.kids.now)) (sym c.in-Lone.is)

pub returns-in-Chosen-clause-tree : goal.returns-in-Chosen-clause-tree
returns-in-Chosen-clause-tree c = nothing c.args.pool.now.trees ∙ ap (λ l. first_part l (trees_of c.args.pool.now.trees c.args.kids.now)) (sym c.in-Chosen.is)
