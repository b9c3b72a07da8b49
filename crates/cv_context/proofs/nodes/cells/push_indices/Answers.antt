use Rattle.std.proofs.Common.{ℕ, arith}
use Rattle.std.proofs.lemmas.Result.{on_ok_weaker}
use Rattle.cv_syntax_trees.specs.declared.head.Head.TheVariants.{Leaf}
use Rattle.cv_syntax_trees.specs.Tree.{lone}
use Rattle.cv_syntax.proofs.parts.Making.{items_done}
use Rattle.cv_context.proofs.nodes.cells.push_indices.Goals as goal

pub returns : goal.returns
returns c =
    on_ok_weaker c.close_list.result (λ e. items_done (λ (r : ℕ × ℕ). lone (Leaf r.0)) c.args.replications.now c.indices.k c.indices.makes.items c.close_list.new.makes.items c.args.makes.now.items (omega arith) c.indices.invariant e) c.close_list.ensures
