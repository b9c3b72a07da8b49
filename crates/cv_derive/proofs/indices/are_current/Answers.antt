use Rattle.std.proofs.Common.{drop, length, sym, ap, ◌∙◌}
use Rattle.std.specs.Prelude.{option_copied}
use Rattle.cv_syntax.specs.PoolTrees.{tree_at}
use Rattle.cv_syntax.proofs.Trees.{child_live, empty_at, node_at}
use Rattle.cv_scope_rules.specs.Context.{items}
use Rattle.cv_derive_lines.specs.citing.Bookmarks.{visible_to}
use Rattle.cv_derive.proofs.Current.{ends_here, few_more, found_item, goes_on, stops_here, stops_past}
use Rattle.cv_derive.proofs.indices.are_current.Goals as goal

pub returns-in_default-get : goal.returns-in_default-get
returns-in_default-get c =
    let trees = c.args.pool.now.trees in
    let node = c.read_node-node.result in
    sym (stops_past (visible_to trees c.args.citing.now) c.args.replications.now c.terms.count (tree_at trees c.terms.at) (tree_at trees node.first) (tree_at trees node.second) node.head (items (tree_at trees c.terms.cited)) (node_at trees c.terms.at c.in-Some.n node c.in-Some.is c.read_node-node.ensures.tree) (sym (ap option_copied c.in_default-get.is) ∙ found_item c.args.replications.now c.terms.count c.get.result c.get.ensures.lookup)) ∙ c.terms.invariant.same

pub returns-in_default-lines_behind : goal.returns-in_default-lines_behind
returns-in_default-lines_behind c =
    let trees = c.args.pool.now.trees in
    let node = c.read_node-node.result in
    sym (stops_here (visible_to trees c.args.citing.now) c.args.replications.now c.terms.count (tree_at trees c.terms.at) (tree_at trees node.first) (tree_at trees node.second) node.head (items (tree_at trees c.terms.cited)) (node_at trees c.terms.at c.in-Some.n node c.in-Some.is c.read_node-node.ensures.tree) c.in-Some-get.replication.now (sym (ap option_copied c.in-Some-get.is) ∙ found_item c.args.replications.now c.terms.count c.get.result c.get.ensures.lookup) c.in_default-lines_behind.ensures.left) ∙ c.terms.invariant.same

pub terms-preserved : goal.terms-preserved
terms-preserved c =
    let trees = c.args.pool.now.trees in
    let node = c.read_node-node.result in
    record {
      live = child_live (length trees) c.terms.at c.in-Some.n node.second c.in-Some.is c.terms.invariant.live c.read_node-node.ensures.second;
      cited = c.in-Some-lines_behind.ensures.live;
      few = few_more c.args.replications.now c.terms.count c.in-Some-get.replication.now (sym (ap option_copied c.in-Some-get.is) ∙ found_item c.args.replications.now c.terms.count c.get.result c.get.ensures.lookup);
      same = sym (goes_on (visible_to trees c.args.citing.now) c.args.replications.now c.terms.count (tree_at trees c.terms.at) (tree_at trees node.first) (tree_at trees node.second) node.head (items (tree_at trees c.terms.cited)) (node_at trees c.terms.at c.in-Some.n node c.in-Some.is c.read_node-node.ensures.tree) c.in-Some-get.replication.now (sym (ap option_copied c.in-Some-get.is) ∙ found_item c.args.replications.now c.terms.count c.get.result c.get.ensures.lookup) (items (tree_at trees c.in-Some-lines_behind.behind)) c.in-Some-lines_behind.ensures.left) ∙ c.terms.invariant.same;
    }

pub returns : goal.returns
returns c =
    let trees = c.args.pool.now.trees in
    c.is_empty.ensures.test ∙ (ends_here (visible_to trees c.args.citing.now) (drop c.terms.count c.args.replications.now) (tree_at trees c.terms.at) (tree_at trees c.terms.cited) (empty_at trees c.terms.at c.in_default.is) ∙ c.terms.invariant.same)
