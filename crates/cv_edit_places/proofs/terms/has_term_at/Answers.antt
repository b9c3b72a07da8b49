use Rattle.std.proofs.Common.{rules, arith, ap, sym, ◌∙◌}
use Rattle.cv_syntax.specs.PoolTrees.{tree_at}
use Rattle.cv_syntax.proofs.Trees.{empty_at}
use Rattle.cv_syntax.proofs.Walking.{size_node}
use Rattle.cv_scene_view.specs.phrases.Phrases.{phrase_of}
use Rattle.cv_edit_places.proofs.Descent.{no_term, term_behind, term_here, term_within}
use Rattle.cv_edit_places.proofs.terms.has_term_at.Goals as goal

pub place_in-requires-clause-fits : goal.place_in-requires-clause-fits
place_in-requires-clause-fits c =
    let trees = c.args.pool.now.trees in
    let node = c.read_node-node.result in
    omega (arith, size_node (tree_at trees c.down.at) node.head (tree_at trees node.first) (tree_at trees node.second) (ap (tree_at trees) c.in-Some.is ∙ c.read_node-node.ensures.tree))

pub returns-in-Here : goal.returns-in-Here
returns-in-Here c =
    let trees = c.args.pool.now.trees in
    let node = c.read_node-node.result in
    let e = ap (tree_at trees) c.in-Some.is ∙ c.read_node-node.ensures.tree in
    c.is_term.ensures ∙ (sym (term_here (phrase_of c.down.phrase) (tree_at trees c.down.at) node.head (tree_at trees node.first) (tree_at trees node.second) c.down.left 0 e c.in-Here.ensures) ∙ c.down.invariant.same)

pub down-preserved-in-Within : goal.down-preserved-in-Within
down-preserved-in-Within c =
    let trees = c.args.pool.now.trees in
    let node = c.read_node-node.result in
    let e = ap (tree_at trees) c.in-Some.is ∙ c.read_node-node.ensures.tree in
    record {
      live = search rules;
      within = omega (arith, size_node (tree_at trees c.down.at) node.head (tree_at trees node.first) (tree_at trees node.second) e);
      same = sym (term_within (phrase_of c.down.phrase) (tree_at trees c.down.at) node.head (tree_at trees node.first) (tree_at trees node.second) c.down.left c.in-Within.rest e _ (ap (λ p. p.0) c.parts_within-first.ensures) c.in-Within.ensures) ∙ c.down.invariant.same;
    }

pub down-preserved : goal.down-preserved
down-preserved c =
    let trees = c.args.pool.now.trees in
    let node = c.read_node-node.result in
    let e = ap (tree_at trees) c.in-Some.is ∙ c.read_node-node.ensures.tree in
    record {
      live = search rules;
      within = omega (arith, size_node (tree_at trees c.down.at) node.head (tree_at trees node.first) (tree_at trees node.second) e);
      same = sym (term_behind (phrase_of c.down.phrase) (tree_at trees c.down.at) node.head (tree_at trees node.first) (tree_at trees node.second) c.down.left c.in-Behind.rest e _ (ap (λ p. p.1) c.parts_within-first.ensures) c.in-Behind.ensures) ∙ c.down.invariant.same;
    }

pub returns : goal.returns
returns c =
    let trees = c.args.pool.now.trees in
    sym (no_term (phrase_of c.down.phrase) (tree_at trees c.down.at) c.down.left (empty_at trees c.down.at c.in_default.is)) ∙ c.down.invariant.same
