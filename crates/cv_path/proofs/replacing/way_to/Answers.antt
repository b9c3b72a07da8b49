use Rattle.std.proofs.Common.{◌≡◌, ◌+◌, ◌<◌, Some, true, false, rules, arith, ◌∷◌, [], length, length-append, refl, ap, sym, ◌∙◌}
use Rattle.cv_syntax_trees.specs.Head.{weight}
use Rattle.cv_syntax_trees.specs.Tree.{size}
use Rattle.cv_syntax.specs.PoolTrees.{tree_at}
use Rattle.cv_syntax.proofs.Walking.{size_node, above_some}
use Rattle.cv_meaning.specs.Replaced.{replaced}
use Rattle.cv_path.specs.Ways.{led, turned as turned-by}
use Rattle.cv_path.proofs.Going.{subtree_here, subtree_within, subtree_behind, replaced_here, replaced_within, replaced_behind, above_here, above_within, above_behind, above_below, live_at, turn_of, way_goes, way_live}
use Rattle.cv_path.proofs.replacing.way_to.Goals as goal

pub place_in-requires-clause-fits : goal.place_in-requires-clause-fits
place_in-requires-clause-fits c =
    let trees = c.args.pool.now.trees in
    let node = c.read_node-node.result in
    omega (arith, size_node (tree_at trees c.down.at) node.head (tree_at trees node.first) (tree_at trees node.second) (ap (tree_at trees) c.in-Some.is ∙ c.read_node-node.ensures.tree))

pub returns-in-Here-clause-leads : goal.returns-in-Here-clause-leads
returns-in-Here-clause-leads c =
    let trees = c.args.pool.now.trees in
    let node = c.read_node-node.result in
    let e = ap (tree_at trees) c.in-Some.is ∙ c.read_node-node.ensures.tree in
    λ new.
    ap (led trees c.down.turns.items) (sym (replaced_here (tree_at trees c.down.at) node.head (tree_at trees node.first) (tree_at trees node.second) c.down.left 0 e new c.in-Here.ensures)) ∙ c.down.invariant.leads new

pub returns-in-Here-clause-end : goal.returns-in-Here-clause-end
returns-in-Here-clause-end c =
    let trees = c.args.pool.now.trees in
    let node = c.read_node-node.result in
    let e = ap (tree_at trees) c.in-Some.is ∙ c.read_node-node.ensures.tree in
    sym c.down.invariant.end ∙ (subtree_here (tree_at trees c.down.at) node.head (tree_at trees node.first) (tree_at trees node.second) c.down.left 0 e c.in-Here.ensures ∙ ap (λ o. Some (tree_at trees o)) c.in-Some.is)

pub returns-in-Here-clause-few : goal.returns-in-Here-clause-few
returns-in-Here-clause-few c = omega (arith, c.down.invariant.few, above_some c.down.at c.in-Some.n c.in-Some.is)

pub returns-in-Here-clause-long : goal.returns-in-Here-clause-long
returns-in-Here-clause-long c =
    let trees = c.args.pool.now.trees in
    let node = c.read_node-node.result in
    let e = ap (tree_at trees) c.in-Some.is ∙ c.read_node-node.ensures.tree in
    omega (arith, c.down.invariant.long, above_here (tree_at trees c.down.at) node.head (tree_at trees node.first) (tree_at trees node.second) c.down.left 0 e c.in-Here.ensures)

pub returns-in-Here-clause-place : goal.returns-in-Here-clause-place
returns-in-Here-clause-place c =
    let trees = c.args.pool.now.trees in
    let node = c.read_node-node.result in
    let e = ap (tree_at trees) c.in-Some.is ∙ c.read_node-node.ensures.tree in
    let l : c.down.left < weight node.head = c.in-Here.ensures in
    c.down.invariant.there (omega (arith, l, size_node (tree_at trees c.down.at) node.head (tree_at trees node.first) (tree_at trees node.second) e))

pub down-preserved-in-Within : goal.down-preserved-in-Within
down-preserved-in-Within c =
    let trees = c.args.pool.now.trees in
    let node = c.read_node-node.result in
    let t = tree_at trees c.down.at in
    let a = tree_at trees node.first in
    let b = tree_at trees node.second in
    let e = ap (tree_at trees) c.in-Some.is ∙ c.read_node-node.ensures.tree in
    let n : size t ≡ weight node.head + size a + size b = size_node t node.head a b e in
    let turned = turn_of c.in-Some.n false in
    record {
      live = search rules;
      within = omega arith;
      leads = λ new. way_goes trees c.down.turns.items c.push.new.way.items turned false (replaced a c.in-Within.rest new) (replaced t c.down.left new) _ c.in_ok-push-in-Within.ensures.ok refl (ap (λ u. turned-by false u (replaced a c.in-Within.rest new)) (sym (ap (tree_at trees) c.in-Some.is)) ∙ replaced_within t node.head a b c.down.left c.in-Within.rest e new c.in-Within.ensures) (c.down.invariant.leads new);
      end = sym (subtree_within t node.head a b c.down.left c.in-Within.rest e c.in-Within.ensures) ∙ c.down.invariant.end;
      long = omega (arith, c.down.invariant.long, ap length c.in_ok-push-in-Within.ensures.ok, length-append c.down.turns.items (turned ∷ []), above_within t node.head a b c.down.left c.in-Within.rest e c.in-Within.ensures);
      few = let p = ap length c.in_ok-push-in-Within.ensures.ok in let q = length-append c.down.turns.items (turned ∷ []) in omega (arith, p, q, c.down.invariant.few, above_some c.down.at c.in-Some.n c.in-Some.is, above_below node.first c.in-Some.n.0 c.read_node-node.ensures.first);
      nodes = way_live (length trees) c.down.turns.items c.push.new.way.items turned c.in_ok-push-in-Within.ensures.ok (live_at (length trees) c.args.root.0 c.down.at c.in-Some.n c.in-Some.is c.down.invariant.live c.requires.live) c.down.invariant.nodes;
      there = λ m. c.down.invariant.there (omega (arith, m, c.in-Within.ensures.0, c.in-Within.ensures.1));
      not_there = λ m. c.down.invariant.not_there (omega (arith, m, c.in-Within.ensures.0, c.in-Within.ensures.1));
    }

pub down-preserved : goal.down-preserved
down-preserved c =
    let trees = c.args.pool.now.trees in
    let node = c.read_node-node.result in
    let t = tree_at trees c.down.at in
    let a = tree_at trees node.first in
    let b = tree_at trees node.second in
    let e = ap (tree_at trees) c.in-Some.is ∙ c.read_node-node.ensures.tree in
    let n : size t ≡ weight node.head + size a + size b = size_node t node.head a b e in
    let turned = turn_of c.in-Some.n true in
    record {
      live = search rules;
      within = omega arith;
      leads = λ new. way_goes trees c.down.turns.items c.push-in-Behind.new.way.items turned true (replaced b c.in-Behind.rest new) (replaced t c.down.left new) _ c.in_ok-push-in-Behind.ensures.ok refl (ap (λ u. turned-by true u (replaced b c.in-Behind.rest new)) (sym (ap (tree_at trees) c.in-Some.is)) ∙ replaced_behind t node.head a b c.down.left c.in-Behind.rest e new c.in-Behind.ensures) (c.down.invariant.leads new);
      end = sym (subtree_behind t node.head a b c.down.left c.in-Behind.rest e c.in-Behind.ensures) ∙ c.down.invariant.end;
      long = omega (arith, c.down.invariant.long, ap length c.in_ok-push-in-Behind.ensures.ok, length-append c.down.turns.items (turned ∷ []), above_behind t node.head a b c.down.left c.in-Behind.rest e c.in-Behind.ensures);
      few = let p = ap length c.in_ok-push-in-Behind.ensures.ok in let q = length-append c.down.turns.items (turned ∷ []) in omega (arith, p, q, c.down.invariant.few, above_some c.down.at c.in-Some.n c.in-Some.is, above_below node.second c.in-Some.n.0 c.read_node-node.ensures.second);
      nodes = way_live (length trees) c.down.turns.items c.push-in-Behind.new.way.items turned c.in_ok-push-in-Behind.ensures.ok (live_at (length trees) c.args.root.0 c.down.at c.in-Some.n c.in-Some.is c.down.invariant.live c.requires.live) c.down.invariant.nodes;
      there = λ m. c.down.invariant.there (omega (arith, m, c.in-Behind.ensures));
      not_there = λ m. c.down.invariant.not_there (omega (arith, m, c.in-Behind.ensures));
    }
