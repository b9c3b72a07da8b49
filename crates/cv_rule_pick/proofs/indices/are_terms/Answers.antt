use Rattle.std.proofs.Common.{Some, ap, arith, length, sym, ◌∙◌}
use Rattle.cv_syntax_trees.specs.Tree.{size}
use Rattle.cv_syntax.specs.PoolTrees.{tree_at}
use Rattle.cv_syntax.proofs.Trees.{child_live, empty_at, node_at}
use Rattle.cv_syntax.proofs.Walking.{size_at}
use Rattle.cv_scene_view.specs.Kept.{scene_of}
use Rattle.cv_scene.specs.Terms.{is_term_at}
use Rattle.cv_rule_pick.proofs.Standing.{none_there, terms_end, terms_rest}
use Rattle.cv_rule_pick.proofs.indices.are_terms.Goals as goal

pub returns-in_default-first : goal.returns-in_default-first
returns-in_default-first c =
    let trees = c.args.work.now.pool.trees in
    let s = scene_of c.args.work.now.pool c.args.work.now.decls c.args.game in
    let link = c.read_node-link.result in
    let e = node_at trees c.terms.at c.in-Some.k link c.in-Some.is c.read_node-link.ensures.tree in
    sym (none_there s c.args.place (tree_at trees c.terms.at) link.head (tree_at trees link.first) (tree_at trees link.second) e (empty_at trees link.first c.in_default-first.is)) ∙ c.terms.invariant.same

pub is_term_at-requires-clause-short : goal.is_term_at-requires-clause-short
is_term_at-requires-clause-short c =
    let trees = c.args.work.now.pool.trees in
    let link = c.read_node-link.result in
    let s = size_at trees c.terms.at c.in-Some.k link c.in-Some.is c.read_node-link.ensures.tree in
    let q = ap (λ o. size (tree_at trees o)) c.in-Some-first.is in
    omega (arith, s, q, c.terms.invariant.short, c.requires.short)

pub terms-preserved : goal.terms-preserved
terms-preserved c =
    let trees = c.args.work.now.pool.trees in
    let s = scene_of c.args.work.now.pool c.args.work.now.decls c.args.game in
    let link = c.read_node-link.result in
    let e = node_at trees c.terms.at c.in-Some.k link c.in-Some.is c.read_node-link.ensures.tree in
    let n = size_at trees c.terms.at c.in-Some.k link c.in-Some.is c.read_node-link.ensures.tree in
    let is = c.in_ok-is_term_at.ensures ∙ ap (λ o. is_term_at s c.args.place (tree_at trees o)) (sym c.in-Some-first.is) in
    record {
      live = child_live (length trees) c.terms.at c.in-Some.k link.second c.in-Some.is c.terms.invariant.live c.read_node-link.ensures.second;
      short = omega (arith, n, c.terms.invariant.short);
      same = terms_rest s c.args.place (tree_at trees c.terms.at) link.head (tree_at trees link.first) (tree_at trees link.second) e _ is c.if-not-branch.false ∙ c.terms.invariant.same;
    }

pub returns : goal.returns
returns c =
    let trees = c.args.work.now.pool.trees in
    sym (terms_end (scene_of c.args.work.now.pool c.args.work.now.decls c.args.game) c.args.place (tree_at trees c.terms.at) (empty_at trees c.terms.at c.in_default.is)) ∙ c.terms.invariant.same
