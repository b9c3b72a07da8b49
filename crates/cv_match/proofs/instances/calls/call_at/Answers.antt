use Rattle.std.proofs.Common.{Some, ap, sym, ◌∙◌}
use Rattle.cv_syntax_trees.specs.Tree.{second}
use Rattle.cv_syntax.specs.PoolTrees.{tree_at}
use Rattle.cv_syntax.proofs.Trees.{empty_at}
use Rattle.cv_syntax.proofs.Walking.{above_child}
use Rattle.cv_meaning.specs.contexts.Groups.{functions_of}
use Rattle.cv_scene.specs.Instances.{first_call}
use Rattle.cv_match.specs.instances.Matchings.{matching_by}
use Rattle.cv_match.proofs.instances.Heading.{no_call}
use Rattle.cv_match.proofs.instances.calls.call_at.Goals as goal

pub returns-in_default-clause-call : goal.returns-in_default-clause-call
returns-in_default-clause-call c =
    let trees = c.args.work.now.pool.trees in
    sym (ap (λ u. first_call (matching_by c.args.work.now.pool c.args.work.now.decls c.args.search.now) 0 (functions_of (second u)) (tree_at trees (Some c.args.term))) (empty_at trees c.args.search.now.side c.in_default.is))

pub first_call-requires-clause-few : goal.first_call-requires-clause-few
first_call-requires-clause-few c = above_child c.in-Some.side.0 c.read_node-node.result.second c.read_node-node.ensures.second

pub returns-then-not-may_begin-clause-call : goal.returns-then-not-may_begin-clause-call
returns-then-not-may_begin-clause-call c =
    let trees = c.args.work.now.pool.trees in
    let M = matching_by c.args.work.now.pool c.args.work.now.decls c.args.search.now in
    let node = c.read_node.result in
    let other = sym (c.requires.ready.heads node.head) ∙ (sym c.may_begin.ensures ∙ c.if-not-may_begin.true) in
    sym (ap (first_call M 0 M.group.functions) c.read_node.ensures.tree ∙ no_call M 0 M.group.functions node.head (tree_at trees node.first) (tree_at trees node.second) other)
