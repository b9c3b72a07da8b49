use Rattle.std.proofs.Common.{ap, sym, ◌∙◌}
use Rattle.cv_syntax.specs.PoolTrees.{tree_at}
use Rattle.cv_syntax_trees.specs.Tree.{Node}
use Rattle.cv_settling_overview.proofs.Reading.{front_ends, front_on, front_stops, no_child, stops_by_end, stops_by_head, stops_by_name}
use Rattle.cv_settling_overview.proofs.facts.Facts.front.Goals as goal

pub returns-in_default-open : goal.returns-in_default-open
returns-in_default-open c =
    let trees = c.args.pool.now.trees in
    front_ends (tree_at trees c.terms.at) c.args.self.now.indices.items c.terms.count _ (ap (tree_at trees) c.in-Some.is ∙ c.in_default-open.ensures.none) c.terms.invariant

pub returns-in_default-head : goal.returns-in_default-head
returns-in_default-head c =
    let trees = c.args.pool.now.trees in
    let link = c.in-Some-open.link in
    let xs = c.args.self.now.indices.items in
    let t = tree_at trees c.terms.at in
    front_stops t xs c.terms.count _ (stops_by_head t link.head (tree_at trees link.first) (tree_at trees link.second) xs c.terms.count (ap (tree_at trees) c.in-Some.is ∙ c.in-Some-open.ensures.tree) c.in_default-head.not-Cons) c.terms.invariant

pub returns-in_default-index_at : goal.returns-in_default-index_at
returns-in_default-index_at c =
    let trees = c.args.pool.now.trees in
    let link = c.in-Some-open.link in
    let xs = c.args.self.now.indices.items in
    let t = tree_at trees c.terms.at in
    front_stops t xs c.terms.count _ (stops_by_end t link.head (tree_at trees link.first) (tree_at trees link.second) xs c.terms.count (ap (tree_at trees) c.in-Some.is ∙ c.in-Some-open.ensures.tree) (sym c.index_at.ensures ∙ c.in_default-index_at.is)) c.terms.invariant

pub returns-else-is_name : goal.returns-else-is_name
returns-else-is_name c =
    let trees = c.args.pool.now.trees in
    let link = c.in-Some-open.link in
    let xs = c.args.self.now.indices.items in
    let t = tree_at trees c.terms.at in
    let e = ap (tree_at trees) c.in-Some.is ∙ (c.in-Some-open.ensures.tree ∙ ap (λ h. Node h (tree_at trees link.first) (tree_at trees link.second)) c.in-Cons.is) in
    front_stops t xs c.terms.count _
    (stops_by_name t (tree_at trees link.first) (tree_at trees link.second) xs c.terms.count c.in-Some-index_at.index e (sym c.index_at.ensures ∙ c.in-Some-index_at.is) (sym c.is_name.ensures ∙ c.if-is_name.false))
    c.terms.invariant

pub terms-preserved : goal.terms-preserved
terms-preserved c =
    let trees = c.args.pool.now.trees in
    let link = c.in-Some-open.link in
    let xs = c.args.self.now.indices.items in
    let t = tree_at trees c.terms.at in
    let e = ap (tree_at trees) c.in-Some.is ∙ (c.in-Some-open.ensures.tree ∙ ap (λ h. Node h (tree_at trees link.first) (tree_at trees link.second)) c.in-Cons.is) in
    front_on t (tree_at trees link.first) (tree_at trees link.second) xs c.terms.count c.in-Some-index_at.index _ e (sym c.index_at.ensures ∙ c.in-Some-index_at.is) (sym c.is_name.ensures ∙ c.if-is_name.true) c.terms.invariant

pub returns : goal.returns
returns c =
    let trees = c.args.pool.now.trees in
    front_ends (tree_at trees c.terms.at) c.args.self.now.indices.items c.terms.count _ (ap (tree_at trees) c.in_default.is ∙ no_child trees) c.terms.invariant
