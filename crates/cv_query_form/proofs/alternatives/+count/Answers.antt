use Rattle.std.proofs.Common.{◌≡◌, ◌+◌, ◌*◌, ◌<◌, ◌≤◌, ap, ap₂, arith, length, sym, ◌∙◌}
use Rattle.cv_syntax.specs.PoolTrees.{tree_at}
use Rattle.cv_syntax.proofs.Trees.{child_above, child_live, node_at}
use Rattle.cv_query_form.specs.Held.{apart_after, each_after}
use Rattle.cv_query_form.specs.Tests.{count_of}
use Rattle.cv_query_form.proofs.Counts.{counts_some, count_atom, count_end, each_some, fits_more, is_too_many}
use Rattle.cv_query_form.proofs.alternatives.+count.Goals as goal

pub returns-then-not-has_parts : goal.returns-then-not-has_parts
returns-then-not-has_parts t c =
    let trees = c.args.pool.now.trees in
    let node = c.read_node-node.result in
    let one = count_atom (tree_at trees c.parts.at) node.head (tree_at trees node.first) (tree_at trees node.second) (node_at trees c.parts.at c.in-Some.k node c.in-Some.is c.read_node-node.ensures.tree) (sym c.has_parts.ensures ∙ c.if-not-has_parts.true) in
    let all : c.parts.apart + c.parts.each * 1 ≡ count_of (tree_at trees c.args.right) = ap (λ n. c.parts.apart + c.parts.each * n) (sym one) ∙ c.parts.invariant.same in
    omega arith

pub returns-then-apart-each-gt-MOST : goal.returns-then-apart-each-gt-MOST
returns-then-apart-each-gt-MOST t c =
    let trees = c.args.pool.now.trees in
    let node = c.read_node-node.result in
    let found = c.count.result in
    let apart = apart_after node.head c.parts.apart (c.parts.each * found) in
    let each = each_after node.head c.parts.each (c.parts.each * found) in
    let over : 64 < apart + each = omega arith in
    let more = is_too_many c.parts.apart c.parts.each (tree_at trees c.parts.at) node.head (tree_at trees node.first) (tree_at trees node.second) found (node_at trees c.parts.at c.in-Some.k node c.in-Some.is c.read_node-node.ensures.tree) (sym c.has_parts.ensures ∙ c.if-not-has_parts.false) c.parts.invariant.some c.count.ensures over in
    omega (arith, more, c.parts.invariant.same)

pub parts-preserved : goal.parts-preserved
parts-preserved t c =
    let trees = c.args.pool.now.trees in
    let node = c.read_node-node.result in
    let found = c.count.result in
    let apart = apart_after node.head c.parts.apart (c.parts.each * found) in
    let each = each_after node.head c.parts.each (c.parts.each * found) in
    let fit : apart + each ≤ 64 = omega arith in
    record {
      live = child_live (length trees) c.parts.at c.in-Some.k node.second c.in-Some.is c.parts.invariant.live c.read_node-node.ensures.second;
      less = child_above _ c.parts.at c.in-Some.k node.second c.in-Some.is c.parts.invariant.less c.read_node-node.ensures.second;
      some = rw c.each_after-each.ensures (each_some c.parts.each node.head (count_of (tree_at trees node.first)) found c.parts.invariant.some (counts_some (tree_at trees node.first)) c.count.ensures);
      few = omega arith;
      same =
          ap₂ (λ a e. a + e * count_of (tree_at trees node.second)) c.apart_after-apart.ensures c.each_after-each.ensures
          ∙ (fits_more c.parts.apart c.parts.each (tree_at trees c.parts.at) node.head (tree_at trees node.first) (tree_at trees node.second) found (node_at trees c.parts.at c.in-Some.k node c.in-Some.is c.read_node-node.ensures.tree) (sym c.has_parts.ensures ∙ c.if-not-has_parts.false) c.parts.invariant.some c.count.ensures fit ∙ c.parts.invariant.same);
    }

pub returns : goal.returns
returns t c =
    let trees = c.args.pool.now.trees in
    let one = count_end trees c.parts.at c.in_default.is in
    let all : c.parts.apart + c.parts.each * 1 ≡ count_of (tree_at trees c.args.right) = ap (λ n. c.parts.apart + c.parts.each * n) (sym one) ∙ c.parts.invariant.same in
    omega arith
