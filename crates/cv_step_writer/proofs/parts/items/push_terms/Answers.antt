use Rattle.std.proofs.Common.{arith}
use Rattle.std.proofs.lemmas.Result.{on_ok_weaker}
use Rattle.cv_syntax.proofs.parts.Making.{items_done}
use Rattle.cv_step_writer.specs.Items.{term}
use Rattle.cv_step_writer.proofs.parts.items.push_terms.Goals as goal

pub returns : goal.returns
returns c =
    on_ok_weaker c.close_list.result (λ e. items_done (term c.args.pool.now.trees) c.args.terms.now c.items.k c.items.makes.items c.close_list.new.makes.items c.args.makes.now.items (omega arith) c.items.invariant e) c.close_list.ensures
