use Rattle.cv_syntax.specs.PoolTrees.{tree_at}
use Rattle.cv_costs.proofs.names.Looks.{no_names, own_names_law}
use Rattle.cv_costs.proofs.names.names.own_names.Goals as goal

pub returns-in_ok-add_own-in-Find : goal.returns-in_ok-add_own-in-Find
returns-in_ok-add_own-in-Find c =
    let trees = c.args.pool.now.trees in
    let k = c.args.construct in
    own_names_law c.new-names.result c.add_own.new.names k.head (tree_at trees k.first) (tree_at trees k.second) c.in-Find.field-0 c.in-Find.is c.in_ok-add_own-in-Find.ensures c.new-names.ensures.empty

pub returns-in_default : goal.returns-in_default
returns-in_default c =
    let trees = c.args.pool.now.trees in
    let k = c.args.construct in
    no_names c.new-names.result k.head (tree_at trees k.first) (tree_at trees k.second) c.in_default.not-Find c.new-names.ensures.empty
