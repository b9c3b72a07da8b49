use Rattle.std.proofs.Common.{◌∙◌, length, sym}
use Rattle.cv_syntax.specs.PoolTrees.{tree_at}
use Rattle.cv_syntax.proofs.Trees.{child_live, empty_at, node_at}
use Rattle.cv_derive_lines.proofs.terms.Equations.{further_types, no_binder, no_binders, no_terms, other_type}
use Rattle.cv_derive_lines.proofs.terms.instances.are_of_types.Goals as goal

pub returns-in_default-head : goal.returns-in_default-head
returns-in_default-head c = λ s i.
    let trees = c.args.work.now.pool.trees in
    let cell = c.read_node-cell.result in
    no_binder s (tree_at trees c.binders.at) (tree_at trees c.binders.behind) cell.head (tree_at trees cell.first) (tree_at trees cell.second) (node_at trees c.binders.at c.in-Some.k cell c.in-Some.is c.read_node-cell.ensures.tree) c.in_default-head.not-Binder ∙ c.binders.invariant.same s i

pub returns-in_default-behind : goal.returns-in_default-behind
returns-in_default-behind c = λ s i.
    let trees = c.args.work.now.pool.trees in
    let cell = c.read_node-cell.result in
    no_terms s (tree_at trees c.binders.at) (tree_at trees c.binders.behind) cell.head (tree_at trees cell.first) (tree_at trees cell.second) (node_at trees c.binders.at c.in-Some.k cell c.in-Some.is c.read_node-cell.ensures.tree) _ c.in-Binder.t c.in-Binder.is (empty_at trees c.binders.behind c.in_default-behind.is) ∙ c.binders.invariant.same s i

pub returns-then-not-is_term_of : goal.returns-then-not-is_term_of
returns-then-not-is_term_of c = λ s i.
    let trees = c.args.work.now.pool.trees in
    let cell = c.read_node-cell.result in
    let term = c.read_node-term.result in
    other_type s (tree_at trees c.binders.at) (tree_at trees c.binders.behind) cell.head (tree_at trees cell.first) (tree_at trees cell.second) (node_at trees c.binders.at c.in-Some.k cell c.in-Some.is c.read_node-cell.ensures.tree) _ c.in-Binder.t c.in-Binder.is term.head (tree_at trees term.first) (tree_at trees term.second) (node_at trees c.binders.behind c.in-Some-behind.j term c.in-Some-behind.is c.read_node-term.ensures.tree) c.is_term_of.result (c.is_term_of.ensures s i) c.if-not-is_term_of.true ∙ c.binders.invariant.same s i

pub binders-preserved : goal.binders-preserved
binders-preserved c =
    let trees = c.args.work.now.pool.trees in
    let cell = c.read_node-cell.result in
    let term = c.read_node-term.result in
    record {
      live = child_live (length trees) c.binders.at c.in-Some.k cell.second c.in-Some.is c.binders.invariant.live c.read_node-cell.ensures.second;
      terms = child_live (length trees) c.binders.behind c.in-Some-behind.j term.second c.in-Some-behind.is c.binders.invariant.terms c.read_node-term.ensures.second;
      same = λ s i. further_types s (tree_at trees c.binders.at) (tree_at trees c.binders.behind) cell.head (tree_at trees cell.first) (tree_at trees cell.second) (node_at trees c.binders.at c.in-Some.k cell c.in-Some.is c.read_node-cell.ensures.tree) _ c.in-Binder.t c.in-Binder.is term.head (tree_at trees term.first) (tree_at trees term.second) (node_at trees c.binders.behind c.in-Some-behind.j term c.in-Some-behind.is c.read_node-term.ensures.tree) c.is_term_of.result (c.is_term_of.ensures s i) c.if-not-is_term_of.false ∙ c.binders.invariant.same s i;
    }

pub returns : goal.returns
returns c = λ s i.
    let trees = c.args.work.now.pool.trees in
    c.is_empty.ensures.test ∙ (sym (no_binders s (tree_at trees c.binders.at) (tree_at trees c.binders.behind) (empty_at trees c.binders.at c.in_default.is)) ∙ c.binders.invariant.same s i)
