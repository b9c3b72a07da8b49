use Rattle.std.proofs.Common.{arith}
use Rattle.std.proofs.lemmas.Result.{on_ok_weaker}
use Rattle.cv_syntax.specs.PoolTrees.{tree_at}
use Rattle.cv_syntax.proofs.parts.Making.{items_done}
use Rattle.cv_syntax.proofs.parts.lists.push_chain.Goals as goal

pub returns : goal.returns
returns c =
    on_ok_weaker c.close_list.result (λ e. items_done (tree_at c.args.pool.now.trees) c.args.terms.now c.terms.k c.terms.makes.items c.close_list.new.makes.items c.args.makes.now.items (omega arith) c.terms.invariant e) c.close_list.ensures
