use Rattle.std.proofs.Common.{◌≡◌, ◌+◌, ap₂, arith}
use Rattle.cv_syntax.specs.PoolTrees.{tree_at}
use Rattle.cv_syntax.proofs.Walking.{size_node}
use Rattle.cv_syntax_trees.specs.Head.{weight}
use Rattle.cv_syntax_trees.specs.Tree.{size}
use Rattle.cv_settling_lateness.proofs.sizes.children_of.Goals as goal

pub returns-clause-value : goal.returns-clause-value
returns-clause-value c a t =
    let trees = c.args.pool.now.trees in
    let node = c.args.node in
    let from = c.args.here.from in
    let s = size_node (tree_at trees c.args.here.at) node.head (tree_at trees node.first) (tree_at trees node.second) c.requires in
    let k = c.size.ensures a (omega (arith, s, t.ends, t.few)) in
    let u : c.saturating_add-below.result ≡ from + weight node.head = omega (arith, c.saturating_add-below.ensures, c.weight.ensures.weight, s, t.ends, t.few) in
    let v : c.saturating_add-behind.result ≡ from + weight node.head + size (tree_at trees node.first) = omega (arith, c.saturating_add-behind.ensures, k, u, s, t.ends, t.few) in
    ap₂ (λ m n. record { first = record { at = node.first; from = m; to = n }; second = record { at = node.second; from = n; to = c.args.here.to } }) u v
