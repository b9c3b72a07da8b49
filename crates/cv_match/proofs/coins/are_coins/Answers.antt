use Rattle.std.proofs.Common.{Some, ap, length, ◌∙◌}
use Rattle.cv_syntax_trees.specs.Tree.{Tree}
use Rattle.cv_syntax.specs.PoolTrees.{tree_at}
use Rattle.cv_syntax.proofs.Trees.{child_live, empty_at, node_at}
use Rattle.cv_meaning.specs.contexts.Groups.{function_of}
use Rattle.cv_scene.specs.Sights.{variable_of}
use Rattle.cv_scene.specs.Instances.{term_for}
use Rattle.cv_scene.specs.Refusals.{is_coin}
use Rattle.cv_match.specs.instances.Matchings.{matching_by}
use Rattle.cv_match_terms.specs.patterns.Sites.{site_in}
use Rattle.cv_match.proofs.Serving.{coins_end, coins_other, coins_right, coins_wrong}
use Rattle.cv_match.proofs.coins.are_coins.Goals as goal

pub returns-in_default-head : goal.returns-in_default-head
returns-in_default-head c =
    let trees = c.args.work.now.pool.trees in
    let node = c.read_node-node.result in
    let s = c.args.site.now in
    let M = matching_by c.args.work.now.pool c.args.work.now.decls c.args.search.now in
    coins_other M (site_in trees M s) (term_for (function_of (tree_at trees s.pattern)).body (tree_at trees (Some s.term))) (tree_at trees c.list.at) node.head (tree_at trees node.first) (tree_at trees node.second) (node_at trees c.list.at c.in-Some.n node c.in-Some.is c.read_node-node.ensures.tree) c.in_default-head.not-Binder ∙ c.list.invariant.same

pub returns-then-not-is_coin : goal.returns-then-not-is_coin
returns-then-not-is_coin c =
    let trees = c.args.work.now.pool.trees in
    let node = c.read_node-node.result in
    let s = c.args.site.now in
    let M = matching_by c.args.work.now.pool c.args.work.now.decls c.args.search.now in
    let own = c.is_coin.ensures ∙ ap (λ (m : Tree). is_coin M (site_in trees M s) c.in-Binder.coin m (variable_of m)) c.term_of-term.ensures.tree in
    coins_wrong M (site_in trees M s) (term_for (function_of (tree_at trees s.pattern)).body (tree_at trees (Some s.term))) (tree_at trees c.list.at) node.head (tree_at trees node.first) (tree_at trees node.second) (node_at trees c.list.at c.in-Some.n node c.in-Some.is c.read_node-node.ensures.tree) c.in-Binder.coin c.in-Binder.field-1 c.in-Binder.is c.is_coin.result own c.if-not-is_coin.true ∙ c.list.invariant.same

pub list-preserved : goal.list-preserved
list-preserved c =
    let trees = c.args.work.now.pool.trees in
    let node = c.read_node-node.result in
    let s = c.args.site.now in
    let M = matching_by c.args.work.now.pool c.args.work.now.decls c.args.search.now in
    let own = c.is_coin.ensures ∙ ap (λ (m : Tree). is_coin M (site_in trees M s) c.in-Binder.coin m (variable_of m)) c.term_of-term.ensures.tree in
    record {
      live = child_live (length trees) c.list.at c.in-Some.n node.second c.in-Some.is c.list.invariant.live c.read_node-node.ensures.second;
      same = coins_right M (site_in trees M s) (term_for (function_of (tree_at trees s.pattern)).body (tree_at trees (Some s.term))) (tree_at trees c.list.at) node.head (tree_at trees node.first) (tree_at trees node.second) (node_at trees c.list.at c.in-Some.n node c.in-Some.is c.read_node-node.ensures.tree) c.in-Binder.coin c.in-Binder.field-1 c.in-Binder.is c.is_coin.result own c.if-not-is_coin.false ∙ c.list.invariant.same;
    }

pub returns : goal.returns
returns c =
    let trees = c.args.work.now.pool.trees in
    let s = c.args.site.now in
    let M = matching_by c.args.work.now.pool c.args.work.now.decls c.args.search.now in
    coins_end M (site_in trees M s) (term_for (function_of (tree_at trees s.pattern)).body (tree_at trees (Some s.term))) (tree_at trees c.list.at) (empty_at trees c.list.at c.in_default.is) ∙ c.list.invariant.same
