use Rattle.std.proofs.Common.{◌≡◌, ◌+◌, ◌≤◌, length, map, ◌++◌, ap, sym, ◌∙◌, arith}
use Rattle.cv_syntax.specs.PoolTrees.{tree_at}
use Rattle.cv_syntax.proofs.Trees.{child_above, child_live, empty_at, node_at}
use Rattle.cv_group_rules.specs.Rules as rule
use Rattle.cv_group.proofs.bodies.Walks as walk
use Rattle.cv_group.specs.bodies.Levels.{around_of, level_of, node_passes, term_passes}
use Rattle.std.proofs.lemmas.List.{take-append-le}
use Rattle.std.proofs.Common.{length-append, take}
use Rattle.cv_group.proofs.bodies.bodies.+is_bound.Goals as goal

pub returns-then-not-term_passes-clause-bound : goal.returns-then-not-term_passes-clause-bound
returns-then-not-term_passes-clause-bound t c =
    let trees = c.args.pool.now.trees in
    let node = c.read_node-node.result in
    let term : c.term_passes.result ≡ term_passes (around_of c.args.around.now) (map level_of c.chain.levels.items) node.head (tree_at trees node.first) = c.term_passes.ensures ∙ ap (λ l. term_passes (around_of c.args.around.now) (map level_of l) node.head (tree_at trees node.first)) c.as_slice.ensures.value in
    walk.term_fails (around_of c.args.around.now) (map level_of c.chain.levels.items) (tree_at trees c.chain.at) node.head (tree_at trees node.first) (tree_at trees node.second) _ (node_at trees c.chain.at c.in-Some.k node c.in-Some.is c.read_node-node.ensures.tree) c.chain.invariant.same (sym term ∙ c.if-not-term_passes.true)

pub returns-then-not-branch-clause-bound : goal.returns-then-not-branch-clause-bound
returns-then-not-branch-clause-bound t c =
    let trees = c.args.pool.now.trees in
    let node = c.read_node-node.result in
    walk.first_fails (around_of c.args.around.now) (map level_of c.chain.levels.items) (tree_at trees c.chain.at) node.head (tree_at trees node.first) (tree_at trees node.second) _ (node_at trees c.chain.at c.in-Some.k node c.in-Some.is c.read_node-node.ensures.tree) c.chain.invariant.same (sym c.in_ok-is_bound.ensures.bound ∙ c.if-not-branch.true)

pub returns-then-not-branch-2-clause-bound : goal.returns-then-not-branch-2-clause-bound
returns-then-not-branch-2-clause-bound t c =
    let trees = c.args.pool.now.trees in
    let node = c.read_node-node.result in
    let term : c.term_passes.result ≡ term_passes (around_of c.args.around.now) (map level_of c.chain.levels.items) node.head (tree_at trees node.first) = c.term_passes.ensures ∙ ap (λ l. term_passes (around_of c.args.around.now) (map level_of l) node.head (tree_at trees node.first)) c.as_slice.ensures.value in
    let kept : c.is_bound.new.levels.items ≡ c.chain.levels.items = c.in_ok-is_bound.ensures.same c.if-not-branch.false in
    let passes : c.in_ok-enter.field-0 ≡ node_passes (around_of c.args.around.now) (map level_of c.chain.levels.items) node.head (tree_at trees node.first) (tree_at trees node.second) = c.in_ok-enter.ensures.pass ∙ ap (λ l. node_passes (around_of c.args.around.now) (map level_of l) node.head (tree_at trees node.first) (tree_at trees node.second)) kept in
    walk.node_fails (around_of c.args.around.now) (map level_of c.chain.levels.items) (tree_at trees c.chain.at) node.head (tree_at trees node.first) (tree_at trees node.second) _ (node_at trees c.chain.at c.in-Some.k node c.in-Some.is c.read_node-node.ensures.tree) c.chain.invariant.same (sym term ∙ c.if-not-term_passes.false) (sym passes ∙ c.if-not-branch-2.true)

pub chain-preserved : goal.chain-preserved
chain-preserved t c =
    let trees = c.args.pool.now.trees in
    let node = c.read_node-node.result in
    let term : c.term_passes.result ≡ term_passes (around_of c.args.around.now) (map level_of c.chain.levels.items) node.head (tree_at trees node.first) = c.term_passes.ensures ∙ ap (λ l. term_passes (around_of c.args.around.now) (map level_of l) node.head (tree_at trees node.first)) c.as_slice.ensures.value in
    let kept : c.is_bound.new.levels.items ≡ c.chain.levels.items = c.in_ok-is_bound.ensures.same c.if-not-branch.false in
    let passes : c.in_ok-enter.field-0 ≡ node_passes (around_of c.args.around.now) (map level_of c.chain.levels.items) node.head (tree_at trees node.first) (tree_at trees node.second) = c.in_ok-enter.ensures.pass ∙ ap (λ l. node_passes (around_of c.args.around.now) (map level_of l) node.head (tree_at trees node.first) (tree_at trees node.second)) kept in
    let more = c.in_ok-enter.ensures.more c.if-not-branch-2.false in
    let items : c.enter.new.levels.items ≡ c.chain.levels.items ++ more.added = more.items ∙ ap (λ l. l ++ more.added) kept in
    let few : c.len-kept.result ≤ length c.chain.levels.items = c.chain.invariant.few in
    let grown : length c.enter.new.levels.items ≡ length c.chain.levels.items + length more.added = ap length items ∙ length-append c.chain.levels.items more.added in
    record {
      live = child_live (length trees) c.chain.at c.in-Some.k node.second c.in-Some.is c.chain.invariant.live c.read_node-node.ensures.second;
      same = walk.goes_on (around_of c.args.around.now) (map level_of c.chain.levels.items) (tree_at trees c.chain.at) node.head (tree_at trees node.first) (tree_at trees node.second) _ (node_at trees c.chain.at c.in-Some.k node c.in-Some.is c.read_node-node.ensures.tree) c.chain.invariant.same (map level_of c.enter.new.levels.items) (walk.levels_more c.is_bound.new.levels.items c.enter.new.levels.items (rule.behind node.head (tree_at trees node.first) (tree_at trees node.second)) more ∙ ap (λ l. map level_of l ++ rule.behind node.head (tree_at trees node.first) (tree_at trees node.second)) kept) (sym term ∙ c.if-not-term_passes.false) (sym c.in_ok-is_bound.ensures.bound ∙ c.if-not-branch.false) (sym passes ∙ c.if-not-branch-2.false);
      kept = ap (take c.len-kept.result) items ∙ (take-append-le c.len-kept.result c.chain.levels.items more.added few ∙ c.chain.invariant.kept);
      few = omega arith;
      less = child_above _ c.chain.at c.in-Some.k node.second c.in-Some.is c.chain.invariant.less c.read_node-node.ensures.second;
    }

pub returns-clause-bound : goal.returns-clause-bound
returns-clause-bound t c = walk.body_end (around_of c.args.around.now) (map level_of c.chain.levels.items) (tree_at c.args.pool.now.trees c.chain.at) _ (empty_at c.args.pool.now.trees c.chain.at c.in_default.is) c.chain.invariant.same
