use Rattle.std.proofs.Common.{◌∙◌, length, refl, eq-eqb, ne_eqb}
use Rattle.cv_syntax.specs.PoolTrees.{tree_at}
use Rattle.cv_syntax.proofs.Trees.{child_live, empty_at, node_at}
use Rattle.cv_derive_reasons.proofs.substitution.Unders.{given_end, given_here, given_later, no_binder, none_given}
use Rattle.cv_derive_reasons.proofs.substitution.instances.term_for.Goals as goal

pub returns-in_default-head-clause-tree : goal.returns-in_default-head-clause-tree
returns-in_default-head-clause-tree c =
    let trees = c.args.pool.now.trees in
    let cell = c.read_node-cell.result in
    no_binder (tree_at trees c.binders.behind) c.args.x (tree_at trees c.binders.at) cell.head (tree_at trees cell.first) (tree_at trees cell.second) (node_at trees c.binders.at c.in-Some.k cell c.in-Some.is c.read_node-cell.ensures.tree) c.in_default-head.not-Binder ∙ c.binders.invariant.rest

pub returns-in_default-behind-clause-tree : goal.returns-in_default-behind-clause-tree
returns-in_default-behind-clause-tree c =
    let trees = c.args.pool.now.trees in
    let cell = c.read_node-cell.result in
    none_given (tree_at trees c.binders.behind) c.args.x (tree_at trees c.binders.at) cell.head (tree_at trees cell.first) (tree_at trees cell.second) (node_at trees c.binders.at c.in-Some.k cell c.in-Some.is c.read_node-cell.ensures.tree) c.in-Binder.y _ c.in-Binder.is (empty_at trees c.binders.behind c.in_default-behind.is) ∙ c.binders.invariant.rest

pub returns-then-y-x-clause-tree : goal.returns-then-y-x-clause-tree
returns-then-y-x-clause-tree c =
    let trees = c.args.pool.now.trees in
    let cell = c.read_node-cell.result in
    let node = c.read_node-node.result in
    given_here (tree_at trees c.binders.behind) c.args.x (tree_at trees c.binders.at) cell.head (tree_at trees cell.first) (tree_at trees cell.second) (node_at trees c.binders.at c.in-Some.k cell c.in-Some.is c.read_node-cell.ensures.tree) c.in-Binder.y _ c.in-Binder.is node.head (tree_at trees node.first) (tree_at trees node.second) (node_at trees c.binders.behind c.in-Some-behind.n node c.in-Some-behind.is c.read_node-node.ensures.tree) _ refl (eq-eqb c.in-Binder.y c.args.x c.if-y-x.true) ∙ c.binders.invariant.rest

pub binders-preserved : goal.binders-preserved
binders-preserved c =
    let trees = c.args.pool.now.trees in
    let cell = c.read_node-cell.result in
    let node = c.read_node-node.result in
    record {
      live = child_live (length trees) c.binders.at c.in-Some.k cell.second c.in-Some.is c.binders.invariant.live c.read_node-cell.ensures.second;
      terms = child_live (length trees) c.binders.behind c.in-Some-behind.n node.second c.in-Some-behind.is c.binders.invariant.terms c.read_node-node.ensures.second;
      rest = given_later (tree_at trees c.binders.behind) c.args.x (tree_at trees c.binders.at) cell.head (tree_at trees cell.first) (tree_at trees cell.second) (node_at trees c.binders.at c.in-Some.k cell c.in-Some.is c.read_node-cell.ensures.tree) c.in-Binder.y _ c.in-Binder.is node.head (tree_at trees node.first) (tree_at trees node.second) (node_at trees c.binders.behind c.in-Some-behind.n node c.in-Some-behind.is c.read_node-node.ensures.tree) _ refl (ne_eqb c.in-Binder.y c.args.x c.if-y-x.false) ∙ c.binders.invariant.rest;
    }

pub returns-clause-tree : goal.returns-clause-tree
returns-clause-tree c =
    let trees = c.args.pool.now.trees in
    given_end (tree_at trees c.binders.behind) c.args.x (tree_at trees c.binders.at) (empty_at trees c.binders.at c.in_default.is) ∙ c.binders.invariant.rest
