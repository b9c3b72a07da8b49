use Rattle.std.proofs.Common.{rules, ◌≡◌, ◌<◌, ℕ, List, ap, ap₂, arith, length, sym, ◌∙◌}
use Rattle.cv_syntax.specs.PoolTrees.{tree_at}
use Rattle.cv_syntax.specs.Walks.{above}
use Rattle.cv_syntax.proofs.Trees.{child_above, child_live, empty_at, node_at}
use Rattle.cv_syntax.proofs.Walking.{above_child, above_some, size_at}
use Rattle.cv_inline.specs.NextGame.{replications_under}
use Rattle.cv_inline_draws.specs.callings.FirstCalls.{FirstCalls, calls_in, with_calls, with_node}
use Rattle.cv_inline_draws.proofs.callings.CallWalks.{calls_end, calls_node, few_under, front_kept}
use Rattle.cv_inline_draws.proofs.callings.calls.+note_calls.Goals as goal

pub note_calls-requires : goal.note_calls-requires
note_calls-requires t c =
    let trees = c.args.pool.now.trees in
    let node = c.read_node-node.result in
    let k = above_some c.part.at c.in-Some.n c.in-Some.is in
    let b = above_child c.in-Some.n.0 node.first c.read_node-node.ensures.first in
    let less : above node.first < above c.args.part = omega (arith, k, b, c.part.invariant.less) in
    let s = size_at trees c.part.at c.in-Some.n node c.in-Some.is c.read_node-node.ensures.tree in
    let r = ap length c.in_ok-add_replication.ensures in (
      search rules,
      (
        child_live (length trees) c.part.at c.in-Some.n node.first c.in-Some.is c.part.invariant.live c.read_node-node.ensures.first,
        (omega (arith, s, r, few_under node.head c.part.replications.items, c.part.invariant.few), c.in_ok-note_node.ensures.live),
      ),
    )

pub part-preserved : goal.part-preserved
part-preserved t c =
    let trees = c.args.pool.now.trees in
    let node = c.read_node-node.result in
    let rs = c.part.replications.items in
    let found = calls_in trees c.part.calls in
    let a = tree_at trees node.first in
    let s = size_at trees c.part.at c.in-Some.n node c.in-Some.is c.read_node-node.ensures.tree in
    let under : c.note_calls.new.replications.items ≡ replications_under node.head rs = c.in_ok-note_calls.ensures.replications ∙ c.in_ok-add_replication.ensures in
    let outside : c.len-outside.result ≡ length c.args.replications.now.items = search rules in
    let r = ap length under in
    record {
      live = child_live (length trees) c.part.at c.in-Some.n node.second c.in-Some.is c.part.invariant.live c.read_node-node.ensures.second;
      less = child_above _ c.part.at c.in-Some.n node.second c.in-Some.is c.part.invariant.less c.read_node-node.ensures.second;
      few = omega (arith, s, r, few_under node.head rs, c.part.invariant.few);
      front = front_kept node.head c.len-outside.result rs c.note_calls.new.replications.items c.args.replications.now.items under outside c.part.invariant.front;
      found = c.in_ok-note_calls.ensures.live;
      calls =
          ap₂ (λ (f : FirstCalls) (l : List (ℕ × ℕ)). with_calls f l (tree_at trees node.second))
          (c.in_ok-note_calls.ensures.calls
          ∙ ap₂ (λ (f : FirstCalls) (l : List (ℕ × ℕ)). with_calls f l a) (c.in_ok-note_node.ensures.calls ∙ ap (λ l. with_node found l node.head a) c.as_slice.ensures.value) c.in_ok-add_replication.ensures)
          under
          ∙ (calls_node found rs (tree_at trees c.part.at) node.head a (tree_at trees node.second) (node_at trees c.part.at c.in-Some.n node c.in-Some.is c.read_node-node.ensures.tree) ∙ c.part.invariant.calls);
    }

pub returns-clause-calls : goal.returns-clause-calls
returns-clause-calls t c =
    let trees = c.args.pool.now.trees in
    sym (calls_end (calls_in trees c.part.calls) c.part.replications.items (tree_at trees c.part.at) (empty_at trees c.part.at c.in_default.is)) ∙ c.part.invariant.calls
