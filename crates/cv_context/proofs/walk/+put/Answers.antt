use Rattle.std.proofs.Common.{rules, ◌≡◌, ◌+◌, ◌<◌, ◌++◌, length, arith, sym, ap, ◌∙◌}
use Rattle.cv_syntax.specs.Postorder.{postorder}
use Rattle.cv_syntax_trees.specs.Tree.{size}
use Rattle.cv_syntax.specs.PoolTrees.{tree_at}
use Rattle.cv_syntax.specs.Walks.{above}
use Rattle.cv_syntax.proofs.Trees.{child_above, child_live, empty_at, node_at}
use Rattle.cv_syntax.proofs.Walking.{above_child, above_some, size_at, size_end}
use Rattle.cv_scope_rules.specs.Context.{replications_below}
use Rattle.cv_context.specs.Written.{Part}
use Rattle.cv_context.proofs.Walking.{at_end, at_site, ends_made, node_goes, node_next, site_made, site_there, skipped, whole}
use Rattle.cv_context.proofs.walk.+put.Goals as goal
use Rattle.cv_match_terms.proofs.uses.Walked.{front_kept}

pub returns-then-skip-clause-makes : goal.returns-then-skip-clause-makes
returns-then-skip-clause-makes t c =
    let trees = c.args.pool.now.trees in
    c.in_ok-push_tree.ensures
    ∙ ap (λ (x : Part). c.args.makes.now.items ++ postorder x.tree) (sym (skipped trees c.args.roles.now c.args.calls.now c.args.skip c.args.position c.args.passed.now.items c.args.from.site c.args.from.place (tree_at trees c.args.tree) c.if-skip.true))

pub returns-then-skip-clause-site : goal.returns-then-skip-clause-site
returns-then-skip-clause-site t c =
    let trees = c.args.pool.now.trees in
    ap (λ (x : Part). x.next) (sym (skipped trees c.args.roles.now c.args.calls.now c.args.skip c.args.position c.args.passed.now.items c.args.from.site c.args.from.place (tree_at trees c.args.tree) c.if-skip.true))

pub overflow_add-result : goal.overflow_add-result
overflow_add-result t c =
    let e = site_there c.args.calls.now c.tree.next.site c.tree.next.place c.read_node-node.result.head c.is_site.result c.is_site.ensures c.if-is_site.true in
    omega (arith, e, c.requires.many)

pub returns-then-is_site-clause-makes : goal.returns-then-is_site-clause-makes
returns-then-is_site-clause-makes t c =
    let trees = c.args.pool.now.trees in
    let r = c.args.roles.now in
    let ss = c.args.calls.now in
    let node = c.read_node-node.result in
    let e = node_at trees c.tree.at c.in-Some.k node c.in-Some.is c.read_node-node.ensures.tree in
    let f = at_site trees r ss c.tree.here c.tree.passed.items c.tree.next.site c.tree.next.place (tree_at trees c.tree.at) node.head (tree_at trees node.first) (tree_at trees node.second) e c.is_site.result c.is_site.ensures c.if-is_site.true in
    let g = whole trees r ss c.args.skip c.args.position c.args.passed.now.items c.args.from.site c.args.from.place (tree_at trees c.args.tree) c.if-skip.false in
    let cell = c.in_ok-push_cell.ensures ∙ search rules in
    site_made c.tree.makes.items c.push_cell.new.makes.items c.close.new.makes.items _ c.tree.heads.items _ _ f cell c.in_ok-close.ensures c.tree.invariant.made
    ∙ ap (λ (x : Part). c.args.makes.now.items ++ postorder x.tree) (sym g)

pub returns-then-is_site-clause-site : goal.returns-then-is_site-clause-site
returns-then-is_site-clause-site t c =
    let trees = c.args.pool.now.trees in
    let r = c.args.roles.now in
    let ss = c.args.calls.now in
    let node = c.read_node-node.result in
    let e = node_at trees c.tree.at c.in-Some.k node c.in-Some.is c.read_node-node.ensures.tree in
    let f = at_site trees r ss c.tree.here c.tree.passed.items c.tree.next.site c.tree.next.place (tree_at trees c.tree.at) node.head (tree_at trees node.first) (tree_at trees node.second) e c.is_site.result c.is_site.ensures c.if-is_site.true in
    let g = whole trees r ss c.args.skip c.args.position c.args.passed.now.items c.args.from.site c.args.from.place (tree_at trees c.args.tree) c.if-skip.false in
    let more = ap (λ (x : Part). x.next) f in
    let same = c.tree.invariant.same ∙ ap (λ (x : Part). x.next) (sym g) in
    omega (arith, more, same)

pub returns-then-is_site-clause-few : goal.returns-then-is_site-clause-few
returns-then-is_site-clause-few t c =
    let e = site_there c.args.calls.now c.tree.next.site c.tree.next.place c.read_node-node.result.head c.is_site.result c.is_site.ensures c.if-is_site.true in
    omega (arith, e)

pub overflow_add-below : goal.overflow_add-below
overflow_add-below t c =
    let s = size_at c.args.pool.now.trees c.tree.at c.in-Some.k c.read_node-node.result c.in-Some.is c.read_node-node.ensures.tree in
    omega (arith, s, c.tree.invariant.sum, c.requires.fits, c.weight.ensures.weight)

pub put-requires : goal.put-requires
put-requires t c =
    let s = size_at c.args.pool.now.trees c.tree.at c.in-Some.k c.read_node-node.result c.in-Some.is c.read_node-node.ensures.tree in
    let k = above_some c.tree.at c.in-Some.k c.in-Some.is in
    let b = above_child c.in-Some.k.0 c.read_node-node.result.first c.read_node-node.ensures.first in
    let less : above c.read_node-node.result.first < above c.args.tree = omega (arith, k, b, c.tree.invariant.less) in
    (search rules, (child_live (length c.args.pool.now.trees) c.tree.at c.in-Some.k c.read_node-node.result.first c.in-Some.is c.tree.invariant.live c.read_node-node.ensures.first, (omega (arith, s, c.tree.invariant.sum, c.requires.fits, c.weight.ensures.weight), (c.requires.calls, (c.requires.many, c.tree.invariant.few)))))

pub tree-preserved : goal.tree-preserved
tree-preserved t c =
    let trees = c.args.pool.now.trees in
    let r = c.args.roles.now in
    let ss = c.args.calls.now in
    let node = c.read_node-node.result in
    let a = tree_at trees node.first in
    let b = tree_at trees node.second in
    let w = c.tree.here in
    let p = c.tree.next.place in
    let n = c.tree.next.site in
    let rs = c.tree.passed.items in
    let e = node_at trees c.tree.at c.in-Some.k node c.in-Some.is c.read_node-node.ensures.tree in
    let s = size_at trees c.tree.at c.in-Some.k node c.in-Some.is c.read_node-node.ensures.tree in
    let iq = ap (λ k. p + k) c.weight.ensures.weight in
    let im = c.in_ok-behind.ensures.place ∙ ap (λ k. p + k + size a) c.weight.ensures.weight in
    let few : c.len-outside.result ≡ length c.args.passed.now.items = search rules in
    let ix = c.in_ok-pass_replication.ensures ∙ ap (replications_below node.head) c.in_ok-behind.ensures.passed in
    let inner = c.in_ok-behind.ensures.makes ∙ search rules in
    let made = c.in_ok-put_node.ensures.makes ∙ search rules in
    record {
      live = child_live (length trees) c.tree.at c.in-Some.k node.second c.in-Some.is c.tree.invariant.live c.read_node-node.ensures.second;
      less = child_above _ c.tree.at c.in-Some.k node.second c.in-Some.is c.tree.invariant.less c.read_node-node.ensures.second;
      sum = omega (arith, s, im, c.tree.invariant.sum);
      few = c.in_ok-behind.ensures.few;
      order = omega (arith, c.tree.invariant.order, c.in_ok-behind.ensures.order);
      front = front_kept node.head c.len-outside.result rs c.pass_replication.new.passed.items c.args.passed.now.items ix few c.tree.invariant.front;
      made = node_goes trees r ss w rs n p (tree_at trees c.tree.at) node.head a b e c.is_site.result c.is_site.ensures c.if-is_site.false c.is_guard.result c.first.result (p + c.weight.result) c.is_guard.ensures c.first.ensures iq c.in_ok-behind.behind.site c.in_ok-behind.ensures.site c.second-here.result c.pass_replication.new.passed.items c.in_ok-behind.behind.place c.second-here.ensures ix im c.tree.makes.items _ c.put.new.makes.items c.put_node.new.makes.items c.tree.heads.items c.put_node.new.heads.items c.tree.invariant.made inner made c.in_ok-put_node.ensures.heads;
      same = node_next trees r ss w rs n p (tree_at trees c.tree.at) node.head a b e c.is_site.result c.is_site.ensures c.if-is_site.false c.is_guard.result c.first.result (p + c.weight.result) c.is_guard.ensures c.first.ensures iq c.in_ok-behind.behind.site c.in_ok-behind.ensures.site c.second-here.result c.pass_replication.new.passed.items c.in_ok-behind.behind.place c.second-here.ensures ix im ∙ c.tree.invariant.same;
    }

pub returns-clause-makes : goal.returns-clause-makes
returns-clause-makes t c =
    let trees = c.args.pool.now.trees in
    let r = c.args.roles.now in
    let ss = c.args.calls.now in
    let g = whole trees r ss c.args.skip c.args.position c.args.passed.now.items c.args.from.site c.args.from.place (tree_at trees c.args.tree) c.if-skip.false in
    ends_made trees r ss c.tree.here c.tree.passed.items c.tree.next.site c.tree.next.place (tree_at trees c.tree.at) (empty_at trees c.tree.at c.in_default.is) c.tree.makes.items c.push.new.self.items c.close-2.new.makes.items _ c.tree.heads.items c.in_ok-push.ensures.items c.in_ok-close-2.ensures c.tree.invariant.made
    ∙ ap (λ (x : Part). c.args.makes.now.items ++ postorder x.tree) (sym g)

pub returns-clause-site : goal.returns-clause-site
returns-clause-site t c =
    let trees = c.args.pool.now.trees in
    let r = c.args.roles.now in
    let ss = c.args.calls.now in
    let g = whole trees r ss c.args.skip c.args.position c.args.passed.now.items c.args.from.site c.args.from.place (tree_at trees c.args.tree) c.if-skip.false in
    let f = at_end trees r ss c.tree.here c.tree.passed.items c.tree.next.site c.tree.next.place (tree_at trees c.tree.at) (empty_at trees c.tree.at c.in_default.is) in
    sym (ap (λ (x : Part). x.next) f) ∙ c.tree.invariant.same ∙ ap (λ (x : Part). x.next) (sym g)

pub returns-clause-place : goal.returns-clause-place
returns-clause-place t c = omega (arith, c.tree.invariant.sum, size_end c.args.pool.now.trees c.tree.at c.in_default.is)
