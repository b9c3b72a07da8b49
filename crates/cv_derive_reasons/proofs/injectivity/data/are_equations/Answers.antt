use Rattle.std.proofs.Common.{length, sym, ap, ◌∙◌}
use Rattle.std.specs.Prelude.{option_map}
use Rattle.cv_syntax.specs.PoolTrees.{tree_at}
use Rattle.cv_syntax.proofs.Trees.{child_live, empty_at, node_at}
use Rattle.cv_derive_reasons.specs.inferences.Sides.{both_at}
use Rattle.cv_derive_reasons.proofs.injectivity.Injective.{further_items, last_items, no_conjunction, no_items, no_more_items, other_equation}
use Rattle.cv_derive_reasons.proofs.injectivity.data.are_equations.Goals as goal

pub returns-in_default-behind : goal.returns-in_default-behind
returns-in_default-behind c =
    let trees = c.args.pool.now.trees in
    let m = c.read_node-m.result in
    no_more_items (tree_at trees c.items.rest) (tree_at trees c.items.at) (tree_at trees c.items.behind) m.head (tree_at trees m.first) (tree_at trees m.second) (node_at trees c.items.at c.in-Some.k m c.in-Some.is c.read_node-m.ensures.tree) c.is_empty.result (empty_at trees c.items.behind c.in_default-behind.is) c.is_empty.ensures.test ∙ c.items.invariant.same

pub returns-in_default-sides : goal.returns-in_default-sides
returns-in_default-sides c =
    let trees = c.args.pool.now.trees in
    let m = c.read_node-m.result in
    let n = c.read_node-n.result in
    no_conjunction (tree_at trees c.items.rest) (tree_at trees c.items.at) (tree_at trees c.items.behind) m.head (tree_at trees m.first) (tree_at trees m.second) (node_at trees c.items.at c.in-Some.k m c.in-Some.is c.read_node-m.ensures.tree) n.head (tree_at trees n.first) (tree_at trees n.second) (node_at trees c.items.behind c.in-Some-behind.j n c.in-Some-behind.is c.read_node-n.ensures.tree) (sym c.are_last.ensures ∙ c.if-are_last.false) (sym (ap (option_map (both_at trees)) c.in_default-sides.is) ∙ c.sides.ensures.sides) ∙ c.items.invariant.same

pub returns-then-not-is_over : goal.returns-then-not-is_over
returns-then-not-is_over c =
    let trees = c.args.pool.now.trees in
    let m = c.read_node-m.result in
    let n = c.read_node-n.result in
    other_equation (tree_at trees c.items.rest) (tree_at trees c.items.at) (tree_at trees c.items.behind) m.head (tree_at trees m.first) (tree_at trees m.second) (node_at trees c.items.at c.in-Some.k m c.in-Some.is c.read_node-m.ensures.tree) n.head (tree_at trees n.first) (tree_at trees n.second) (node_at trees c.items.behind c.in-Some-behind.j n c.in-Some-behind.is c.read_node-n.ensures.tree) (sym c.are_last.ensures ∙ c.if-are_last.false) (tree_at trees c.in-Some-sides.equation) (tree_at trees c.in-Some-sides.more) (sym (ap (option_map (both_at trees)) c.in-Some-sides.is) ∙ c.sides.ensures.sides) c.is_over-in-Some.result c.is_over-in-Some.ensures c.if-not-is_over.true ∙ c.items.invariant.same

pub items-preserved : goal.items-preserved
items-preserved c =
    let trees = c.args.pool.now.trees in
    let m = c.read_node-m.result in
    let n = c.read_node-n.result in
    record {
      live = child_live (length trees) c.items.at c.in-Some.k m.second c.in-Some.is c.items.invariant.live c.read_node-m.ensures.second;
      second = child_live (length trees) c.items.behind c.in-Some-behind.j n.second c.in-Some-behind.is c.items.invariant.second c.read_node-n.ensures.second;
      term = c.in-Some-sides.ensures.live.1;
      same = further_items (tree_at trees c.items.rest) (tree_at trees c.items.at) (tree_at trees c.items.behind) m.head (tree_at trees m.first) (tree_at trees m.second) (node_at trees c.items.at c.in-Some.k m c.in-Some.is c.read_node-m.ensures.tree) n.head (tree_at trees n.first) (tree_at trees n.second) (node_at trees c.items.behind c.in-Some-behind.j n c.in-Some-behind.is c.read_node-n.ensures.tree) (sym c.are_last.ensures ∙ c.if-are_last.false) (tree_at trees c.in-Some-sides.equation) (tree_at trees c.in-Some-sides.more) (sym (ap (option_map (both_at trees)) c.in-Some-sides.is) ∙ c.sides.ensures.sides) c.is_over-in-Some.result c.is_over-in-Some.ensures c.if-not-is_over.false ∙ c.items.invariant.same;
    }

pub returns : goal.returns
returns c =
    let trees = c.args.pool.now.trees in
    no_items (tree_at trees c.items.rest) (tree_at trees c.items.at) (tree_at trees c.items.behind) c.is_empty-2.result (empty_at trees c.items.at c.in_default.is) c.is_empty-2.ensures.test ∙ c.items.invariant.same
