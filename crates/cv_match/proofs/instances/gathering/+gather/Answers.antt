use Rattle.std.proofs.Common.{rules, ◌≡◌, ◌+◌, ◌<◌, ◌++◌, [], ◌∷◌, arith, ap, ap₂, false, length, map, sym, ◌∙◌}
use Rattle.cv_syntax_trees.specs.Tree.{size}
use Rattle.cv_syntax.specs.PoolTrees.{tree_at}
use Rattle.cv_syntax.specs.Walks.{above}
use Rattle.cv_syntax.proofs.Trees.{child_above, child_live, empty_at, node_at}
use Rattle.cv_syntax.proofs.Walking.{above_child, above_some, below_some, size_at, size_end}
use Rattle.cv_scope_rules.specs.Context.{replications_below}
use Rattle.cv_scene.specs.Instances.{call_at}
use Rattle.cv_match.specs.instances.Matchings.{matching_by}
use Rattle.cv_match_terms.specs.patterns.Sites.{found_call, site_in}
use Rattle.cv_match.specs.instances.Walks.{sites_unless}
use Rattle.cv_match_terms.proofs.uses.Walked.{front_kept}
use Rattle.cv_match.proofs.instances.Walked.{gathered_call, gathered_end, gathered_none, gathered_parts}
use Rattle.cv_match.proofs.instances.gathering.+gather.Goals as goal

pub returns-then-skip-clause-sites : goal.returns-then-skip-clause-sites
returns-then-skip-clause-sites t c =
    let trees = c.args.work.now.pool.trees in
    let M = matching_by c.args.work.now.pool c.args.work.now.decls c.args.search.now in
    let done = map (site_in trees M) c.args.sites.now.items in
    gathered_none done done M c.args.position c.args.passed.now.items c.args.from (tree_at trees c.args.tree) c.args.skip c.if-skip.true

pub returns-in-Some-call_at-clause-sites : goal.returns-in-Some-call_at-clause-sites
returns-in-Some-call_at-clause-sites t c =
    let trees = c.args.work.now.pool.trees in
    let M = matching_by c.args.work.now.pool c.args.work.now.decls c.args.search.now in
    let node = c.read_node-node.result in
    let w = c.tree.here in
    let p = c.tree.place in
    let rs = c.tree.passed.items in
    let here = tree_at trees c.tree.at in
    let a = tree_at trees node.first in
    let b = tree_at trees node.second in
    let done = map (site_in trees M) c.tree.sites.items in
    let all = map (site_in trees M) c.args.sites.now.items ++ sites_unless false M c.args.position c.args.passed.now.items c.args.from (tree_at trees c.args.tree) in
    let e = node_at trees c.tree.at c.in-Some.k node c.in-Some.is c.read_node-node.ensures.tree in
    let k = c.in-Some.k in
    let call = found_call trees M k c.in-Some-call_at.found in
    let f = c.in-Some-call_at.ensures.call ∙ ap (λ o. call_at M (tree_at trees o)) (sym c.in-Some.is) in
    let g = c.in_ok-note_site.ensures.noted trees M ∙ ap₂ (λ xs o. done ++ record { place = p; term = tree_at trees o; replications = xs; call = call } ∷ []) c.as_slice.ensures.value (sym c.in-Some.is) in
    gathered_call done all M w rs p here c.tree.invariant.same node.head a b e call (map (site_in trees M) c.note_site.new.sites.items) f g
    ∙ ap (λ s. map (site_in trees M) c.args.sites.now.items ++ sites_unless s M c.args.position c.args.passed.now.items c.args.from (tree_at trees c.args.tree)) (sym c.if-skip.false)

pub returns-in-Some-call_at-clause-live : goal.returns-in-Some-call_at-clause-live
returns-in-Some-call_at-clause-live t c =
    let n = length c.args.work.now.pool.trees in
    c.in_ok-note_site.ensures.live n c.tree.invariant.sites (below_some n c.tree.at c.in-Some.k c.in-Some.is c.tree.invariant.live) c.in-Some-call_at.ensures.live

pub returns-in-Some-call_at-clause-instances : goal.returns-in-Some-call_at-clause-instances
returns-in-Some-call_at-clause-instances t c =
    c.in_ok-note_site.ensures.instances c.args.work.now.pool.trees (matching_by c.args.work.now.pool c.args.work.now.decls c.args.search.now) c.tree.invariant.instances c.in_ok-instance.ensures

pub overflow_add-first : goal.overflow_add-first
overflow_add-first t c =
    let s = size_at c.args.work.now.pool.trees c.tree.at c.in-Some.k c.read_node-node.result c.in-Some.is c.read_node-node.ensures.tree in
    omega (arith, s, c.tree.invariant.sum, c.requires.fits, c.weight.ensures.weight)

pub gather-requires : goal.gather-requires
gather-requires t c =
    let s = size_at c.args.work.now.pool.trees c.tree.at c.in-Some.k c.read_node-node.result c.in-Some.is c.read_node-node.ensures.tree in
    let k = above_some c.tree.at c.in-Some.k c.in-Some.is in
    let b = above_child c.in-Some.k.0 c.read_node-node.result.first c.read_node-node.ensures.first in
    let less : above c.read_node-node.result.first < above c.args.tree = omega (arith, k, b, c.tree.invariant.less) in
    (search rules, (c.requires.ready, (child_live (length c.args.work.now.pool.trees) c.tree.at c.in-Some.k c.read_node-node.result.first c.in-Some.is c.tree.invariant.live c.read_node-node.ensures.first, (omega (arith, s, c.tree.invariant.sum, c.requires.fits, c.weight.ensures.weight), (c.tree.invariant.sites, c.tree.invariant.instances)))))

pub tree-preserved : goal.tree-preserved
tree-preserved t c =
    let trees = c.args.work.now.pool.trees in
    let M = matching_by c.args.work.now.pool c.args.work.now.decls c.args.search.now in
    let node = c.read_node-node.result in
    let w = c.tree.here in
    let p = c.tree.place in
    let rs = c.tree.passed.items in
    let here = tree_at trees c.tree.at in
    let a = tree_at trees node.first in
    let b = tree_at trees node.second in
    let done = map (site_in trees M) c.tree.sites.items in
    let all = map (site_in trees M) c.args.sites.now.items ++ sites_unless false M c.args.position c.args.passed.now.items c.args.from (tree_at trees c.args.tree) in
    let e = node_at trees c.tree.at c.in-Some.k node c.in-Some.is c.read_node-node.ensures.tree in
    let s = size_at trees c.tree.at c.in-Some.k node c.in-Some.is c.read_node-node.ensures.tree in
    let q = c.in_ok-place.ensures.next ∙ ap (λ n. p + n + size a) c.weight.ensures.weight in
    let few : c.len-outside.result ≡ length c.args.passed.now.items = search rules in
    let f = c.in_default-call_at.ensures.call ∙ ap (λ o. call_at M (tree_at trees o)) (sym c.in-Some.is) in
    let r = c.in_ok-pass_replication.ensures ∙ ap (replications_below node.head) c.in_ok-place.ensures.passed in
    record {
      live = child_live (length trees) c.tree.at c.in-Some.k node.second c.in-Some.is c.tree.invariant.live c.read_node-node.ensures.second;
      less = child_above _ c.tree.at c.in-Some.k node.second c.in-Some.is c.tree.invariant.less c.read_node-node.ensures.second;
      sum = omega (arith, s, q, c.tree.invariant.sum);
      sites = c.in_ok-place.ensures.live;
      instances = c.in_ok-place.ensures.instances;
      front = front_kept node.head c.len-outside.result rs c.pass_replication.new.passed.items c.args.passed.now.items r few c.tree.invariant.front;
      same = gathered_parts done all M w rs p here c.tree.invariant.same node.head a b e (map (site_in trees M) c.gather.new.sites.items) c.is_guard.result c.first.result c.second-here.result (p + c.weight.result) c.in_ok-place.place c.pass_replication.new.passed.items f c.is_guard.ensures c.first.ensures (ap (λ n. p + n) c.weight.ensures.weight) c.in_ok-place.ensures.sites c.second-here.ensures r q;
    }

pub returns-clause-sites : goal.returns-clause-sites
returns-clause-sites t c =
    let trees = c.args.work.now.pool.trees in
    let M = matching_by c.args.work.now.pool c.args.work.now.decls c.args.search.now in
    let all = map (site_in trees M) c.args.sites.now.items ++ sites_unless false M c.args.position c.args.passed.now.items c.args.from (tree_at trees c.args.tree) in
    gathered_end (map (site_in trees M) c.tree.sites.items) all M c.tree.here c.tree.passed.items c.tree.place (tree_at trees c.tree.at) c.tree.invariant.same (empty_at trees c.tree.at c.in_default.is)
    ∙ ap (λ s. map (site_in trees M) c.args.sites.now.items ++ sites_unless s M c.args.position c.args.passed.now.items c.args.from (tree_at trees c.args.tree)) (sym c.if-skip.false)

pub returns-clause-next : goal.returns-clause-next
returns-clause-next t c = omega (arith, c.tree.invariant.sum, size_end c.args.work.now.pool.trees c.tree.at c.in_default.is)
