use Rattle.std.proofs.Common.{arith}
use Rattle.std.proofs.lemmas.Result.{on_ok_weaker}
use Rattle.cv_syntax.proofs.parts.Making.{items_done}
use Rattle.cv_step_writer.specs.Certificates.{secret_pair_tree}
use Rattle.cv_step_writer.proofs.parts.certificates.push_secret_pairs.Goals as goal

pub returns : goal.returns
returns c =
    on_ok_weaker c.close_list.result (λ e. items_done (secret_pair_tree c.args.pool.now.trees) c.args.pairs.now c.items.k c.items.makes.items c.close_list.new.makes.items c.args.makes.now.items (omega arith) c.items.invariant e) c.close_list.ensures
