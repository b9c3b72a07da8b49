use Rattle.std.proofs.Common.{length, ap, sym, ◌∙◌}
use Rattle.cv_syntax.specs.PoolTrees.{tree_at}
use Rattle.cv_typing.specs.Tables.{above_of, with_body}
use Rattle.cv_typing.proofs.Binding.{body_end, body_step}
use Rattle.cv_syntax.proofs.Trees.{child_above, child_live, empty_at, node_at}
use Rattle.cv_typing.proofs.locals.+note_body.Goals as goal

pub body-preserved : goal.body-preserved
body-preserved t c =
    let trees = c.args.pool.now.trees in
    let node = c.read_node-node.result in
    record {
      live = child_live (length trees) c.body.at c.in-Some.k node.second c.in-Some.is c.body.invariant.live c.read_node-node.ensures.second;
      same =
          ap (λ l. with_body l (tree_at trees node.second)) (c.in_ok-note_body.ensures ∙ ap (λ l. with_body l (tree_at trees node.first)) c.in_ok-note_here.ensures)
          ∙ (sym (body_step (above_of c.body.sorts) (tree_at trees c.body.at) node.head (tree_at trees node.first) (tree_at trees node.second) (node_at trees c.body.at c.in-Some.k node c.in-Some.is c.read_node-node.ensures.tree))
          ∙ c.body.invariant.same);
      less = child_above _ c.body.at c.in-Some.k node.second c.in-Some.is c.body.invariant.less c.read_node-node.ensures.second;
    }

pub returns : goal.returns
returns t c = sym (body_end (above_of c.body.sorts) (tree_at c.args.pool.now.trees c.body.at) (empty_at c.args.pool.now.trees c.body.at c.in_default.is)) ∙ c.body.invariant.same
