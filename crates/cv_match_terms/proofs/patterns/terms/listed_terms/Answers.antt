use Rattle.std.proofs.Common.{◌++◌, [], ◌∷◌, ap, length, map, ◌∙◌}
use Rattle.std.proofs.lemmas.List.{map-append}
use Rattle.std.proofs.lemmas.List.Elements.{All-push, All-same}
use Rattle.cv_pool.specs.Nodes.{ChildBelow}
use Rattle.cv_syntax.specs.PoolTrees.{tree_at}
use Rattle.cv_syntax.proofs.Trees.{child_live, empty_at, node_at}
use Rattle.cv_meaning.specs.Correspondences.{typed_names}
use Rattle.cv_meaning.specs.contexts.Groups.{function_of}
use Rattle.cv_scene.specs.Instances.{term_for}
use Rattle.cv_match_terms.proofs.patterns.Parts.{terms_end, terms_more, terms_other}
use Rattle.cv_match_terms.proofs.patterns.terms.listed_terms.Goals as goal

pub returns-in_default-head-clause-terms : goal.returns-in_default-head-clause-terms
returns-in_default-head-clause-terms c =
    let trees = c.args.pool.now.trees in
    let node = c.read_node-node.result in
    let T = term_for (function_of (tree_at trees c.args.f)).body (tree_at trees c.args.term) in
    terms_other T (tree_at trees c.list.at) (map (tree_at trees) c.list.terms.items) (map T (typed_names (tree_at trees c.args.list))) c.list.invariant.same node.head (tree_at trees node.first) (tree_at trees node.second) (node_at trees c.list.at c.in-Some.n node c.in-Some.is c.read_node-node.ensures.tree) c.in_default-head.not-Binder

pub list-preserved : goal.list-preserved
list-preserved c =
    let trees = c.args.pool.now.trees in
    let node = c.read_node-node.result in
    let T = term_for (function_of (tree_at trees c.args.f)).body (tree_at trees c.args.term) in
    let done = map (tree_at trees) c.list.terms.items in
    let more = ap (map (tree_at trees)) c.in_ok-push.ensures.items ∙ (map-append (tree_at trees) c.list.terms.items (c.term_of.result ∷ []) ∙ ap (λ m. done ++ m ∷ []) c.term_of.ensures.tree) in
    record {
      live = child_live (length trees) c.list.at c.in-Some.n node.second c.in-Some.is c.list.invariant.live c.read_node-node.ensures.second;
      nodes = All-same (ChildBelow (length trees)) c.push.new.self.items (c.list.terms.items ++ c.term_of.result ∷ []) c.in_ok-push.ensures.items (All-push (ChildBelow (length trees)) c.list.terms.items c.term_of.result c.list.invariant.nodes c.term_of.ensures.live);
      same = terms_more T (tree_at trees c.list.at) done (map T (typed_names (tree_at trees c.args.list))) c.list.invariant.same node.head (tree_at trees node.first) (tree_at trees node.second) (node_at trees c.list.at c.in-Some.n node c.in-Some.is c.read_node-node.ensures.tree) c.in-Binder.x c.in-Binder.field-1 c.in-Binder.is _ more;
    }

pub returns-clause-terms : goal.returns-clause-terms
returns-clause-terms c =
    let trees = c.args.pool.now.trees in
    let T = term_for (function_of (tree_at trees c.args.f)).body (tree_at trees c.args.term) in
    terms_end T (tree_at trees c.list.at) (map (tree_at trees) c.list.terms.items) (map T (typed_names (tree_at trees c.args.list))) c.list.invariant.same (empty_at trees c.list.at c.in_default.is)
