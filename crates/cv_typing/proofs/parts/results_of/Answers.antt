use Rattle.std.proofs.Common.{length, ap, ap₂, ◌∙◌}
use Rattle.cv_syntax_trees.specs.Tree.{Tree}
use Rattle.cv_syntax.specs.PoolTrees.{tree_at}
use Rattle.cv_typing.specs.Lookups.{signature_in}
use Rattle.cv_scope_rules.specs.typing.Parts.{names_of}
use Rattle.cv_scope_rules.specs.typing.Signature.{Above, sort_of}
use Rattle.cv_typing.proofs.Bodies.{results_push, results_start, results_whole}
use Rattle.cv_syntax.proofs.Trees.{child_live, empty_at, node_at}
use Rattle.cv_typing.proofs.parts.results_of.Goals as goal

pub list-init : goal.list-init
list-init c = record {
  live = c.requires.functions;
  same = results_start (signature_in c.args.pool.now.trees c.args.decls.now.list c.args.arrays.now) (tree_at c.args.pool.now.trees c.args.key) (tree_at c.args.pool.now.trees c.args.functions) c.new-sorts.result.items c.new-sorts.ensures.items;
}

pub list-preserved : goal.list-preserved
list-preserved c =
    let trees = c.args.pool.now.trees in
    let node = c.read_node-node.result in
    let e = signature_in trees c.args.decls.now.list c.args.arrays.now in
    let key = tree_at trees c.args.key in
    let sort = c.sort_of_term.ensures ∙ ap₂ (λ (f : Above) (t : Tree). sort_of e f t) (c.in_ok-above.ensures ∙ ap (names_of key) c.first_of.ensures.tree) c.second_of-body.ensures.tree in
    record {
      live = child_live (length trees) c.list.at c.in-Some.k node.second c.in-Some.is c.list.invariant.live c.read_node-node.ensures.second;
      same = results_push e key (tree_at trees c.list.at) node.head (tree_at trees node.first) (tree_at trees node.second) c.list.sorts.items c.push.new.self.items _ c.sort_of_term.result (node_at trees c.list.at c.in-Some.k node c.in-Some.is c.read_node-node.ensures.tree) c.in_ok-push.ensures.items sort c.list.invariant.same;
    }

pub returns : goal.returns
returns c = results_whole (signature_in c.args.pool.now.trees c.args.decls.now.list c.args.arrays.now) (tree_at c.args.pool.now.trees c.args.key) (tree_at c.args.pool.now.trees c.list.at) c.list.sorts.items _ (empty_at c.args.pool.now.trees c.list.at c.in_default.is) c.list.invariant.same
