use Rattle.std.proofs.Common.{length, ap, sym, ◌∙◌}
use Rattle.cv_syntax.specs.PoolTrees.{tree_at}
use Rattle.cv_typing.specs.Tables.{locals_of, with_functions}
use Rattle.cv_typing.proofs.Binding.{functions_end, functions_step}
use Rattle.cv_syntax.proofs.Trees.{child_live, empty_at, node_at}
use Rattle.cv_typing.proofs.locals.Locals.note_functions.Goals as goal

pub list-preserved : goal.list-preserved
list-preserved c =
    let trees = c.args.pool.now.trees in
    let node = c.read_node-node.result in
    record {
      live = child_live (length trees) c.list.at c.in-Some.k node.second c.in-Some.is c.list.invariant.live c.read_node-node.ensures.second;
      same =
          ap (λ l. with_functions l (tree_at trees node.second)) c.in_ok-note_function.ensures
          ∙ (sym (functions_step (locals_of c.list.self) (tree_at trees c.list.at) node.head (tree_at trees node.first) (tree_at trees node.second) (node_at trees c.list.at c.in-Some.k node c.in-Some.is c.read_node-node.ensures.tree))
          ∙ c.list.invariant.same);
    }

pub returns : goal.returns
returns c = sym (functions_end (locals_of c.list.self) (tree_at c.args.pool.now.trees c.list.at) (empty_at c.args.pool.now.trees c.list.at c.in_default.is)) ∙ c.list.invariant.same
