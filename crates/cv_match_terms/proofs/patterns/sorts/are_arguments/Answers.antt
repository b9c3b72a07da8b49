use Rattle.std.proofs.Common.{ap, length, ◌∙◌}
use Rattle.cv_syntax.specs.PoolTrees.{tree_at}
use Rattle.cv_syntax.proofs.Trees.{child_live, empty_at, node_at}
use Rattle.cv_meaning.specs.contexts.Groups.{function_of}
use Rattle.cv_scene.specs.Instances.{term_for}
use Rattle.cv_match_terms.specs.patterns.Searches.{may_be_argument, signature_by}
use Rattle.cv_match_terms.proofs.patterns.Parts.{typed_end, typed_other, typed_right, typed_wrong}
use Rattle.cv_match_terms.proofs.patterns.sorts.are_arguments.Goals as goal

pub returns-in_default-head : goal.returns-in_default-head
returns-in_default-head c =
    let trees = c.args.work.now.pool.trees in
    let node = c.read_node-node.result in
    typed_other (may_be_argument (signature_by c.args.work.now.pool c.args.work.now.decls c.args.search.now)) (term_for (function_of (tree_at trees c.args.f)).body (tree_at trees c.args.term)) (tree_at trees c.list.at) node.head (tree_at trees node.first) (tree_at trees node.second) (node_at trees c.list.at c.in-Some.n node c.in-Some.is c.read_node-node.ensures.tree) c.in_default-head.not-Binder ∙ c.list.invariant.same

pub returns-then-not-is_argument : goal.returns-then-not-is_argument
returns-then-not-is_argument c =
    let trees = c.args.work.now.pool.trees in
    let node = c.read_node-node.result in
    let E = signature_by c.args.work.now.pool c.args.work.now.decls c.args.search.now in
    typed_wrong (may_be_argument E) (term_for (function_of (tree_at trees c.args.f)).body (tree_at trees c.args.term)) (tree_at trees c.list.at) node.head (tree_at trees node.first) (tree_at trees node.second) (node_at trees c.list.at c.in-Some.n node c.in-Some.is c.read_node-node.ensures.tree) c.in-Binder.x c.in-Binder.t c.in-Binder.is c.is_argument.result (c.is_argument.ensures ∙ ap (may_be_argument E c.in-Binder.t) c.term_of.ensures.tree) c.if-not-is_argument.true ∙ c.list.invariant.same

pub list-preserved : goal.list-preserved
list-preserved c =
    let trees = c.args.work.now.pool.trees in
    let node = c.read_node-node.result in
    let E = signature_by c.args.work.now.pool c.args.work.now.decls c.args.search.now in
    record {
      live = child_live (length trees) c.list.at c.in-Some.n node.second c.in-Some.is c.list.invariant.live c.read_node-node.ensures.second;
      same = typed_right (may_be_argument E) (term_for (function_of (tree_at trees c.args.f)).body (tree_at trees c.args.term)) (tree_at trees c.list.at) node.head (tree_at trees node.first) (tree_at trees node.second) (node_at trees c.list.at c.in-Some.n node c.in-Some.is c.read_node-node.ensures.tree) c.in-Binder.x c.in-Binder.t c.in-Binder.is c.is_argument.result (c.is_argument.ensures ∙ ap (may_be_argument E c.in-Binder.t) c.term_of.ensures.tree) c.if-not-is_argument.false ∙ c.list.invariant.same;
    }

pub returns : goal.returns
returns c =
    let trees = c.args.work.now.pool.trees in
    typed_end (may_be_argument (signature_by c.args.work.now.pool c.args.work.now.decls c.args.search.now)) (term_for (function_of (tree_at trees c.args.f)).body (tree_at trees c.args.term)) (tree_at trees c.list.at) (empty_at trees c.list.at c.in_default.is) ∙ c.list.invariant.same
