use Rattle.std.proofs.Common.{List, ◌++◌, Some, ap, ◌∙◌, option_map}
use Rattle.cv_syntax_trees.specs.Tree.{bound_names}
use Rattle.cv_syntax.specs.PoolTrees.{tree_at}
use Rattle.cv_settling.specs.Instances.{typed_terms}
use Rattle.cv_settling.specs.Putting.{names_of, terms_of}
use Rattle.cv_settling.specs.declared.terms.Given.{Given}
use Rattle.cv_settling.proofs.Matched.{names_at_end, names_at_other, names_more, names_pushed, terms_pushed, typed_at_end, typed_at_other, typed_fails, typed_more, typed_start}
use Rattle.cv_settling.proofs.matching.typed_terms_of.Goals as goal

pub binders-init : goal.binders-init
binders-init c =
    let trees = c.args.table.now.pool.now.trees in
    let equation = c.args.equation.now in
    let left = tree_at trees equation.left in
    let term = tree_at trees (Some c.args.term) in
    record {
      terms = λ s i.
          ap (λ (gs : List Given). option_map (λ ns. terms_of trees gs ++ ns) (typed_terms s (tree_at trees equation.binders) left term)) c.new-given.ensures.items
          ∙ typed_start s left term (tree_at trees equation.binders);
      names = ap (λ (gs : List Given). names_of gs ++ bound_names (tree_at trees equation.binders)) c.new-given.ensures.items;
    }

pub returns-in_default-head-clause-terms : goal.returns-in_default-head-clause-terms
returns-in_default-head-clause-terms c =
    let trees = c.args.table.now.pool.now.trees in
    let cell = c.in-Some.cell in
    λ s i.
    typed_at_other s (tree_at trees c.args.equation.now.left) (tree_at trees (Some c.args.term)) (tree_at trees c.binders.at) (terms_of trees c.binders.given.items) _ (c.binders.invariant.terms s i)
    cell.head (tree_at trees cell.first) (tree_at trees cell.second) c.in-Some.ensures.node c.in_default-head.not-Binder

pub returns-in_default-head-clause-names : goal.returns-in_default-head-clause-names
returns-in_default-head-clause-names c =
    let trees = c.args.table.now.pool.now.trees in
    let cell = c.in-Some.cell in
    names_at_other (tree_at trees c.binders.at) (names_of c.binders.given.items) _ c.binders.invariant.names cell.head (tree_at trees cell.first) (tree_at trees cell.second) c.in-Some.ensures.node c.in_default-head.not-Binder

pub returns-in_default-typed_term-clause-terms : goal.returns-in_default-typed_term-clause-terms
returns-in_default-typed_term-clause-terms c =
    let trees = c.args.table.now.pool.now.trees in
    let cell = c.in-Some.cell in
    λ s i.
    typed_fails s (tree_at trees c.args.equation.now.left) (tree_at trees (Some c.args.term)) (tree_at trees c.binders.at) (terms_of trees c.binders.given.items) _ (c.binders.invariant.terms s i)
    cell.head (tree_at trees cell.first) (tree_at trees cell.second) c.in-Some.ensures.node c.in-Binder.name c.in-Binder.of_type c.in-Binder.is (c.in_default-typed_term.ensures s i)

pub binders-preserved : goal.binders-preserved
binders-preserved c =
    let trees = c.args.table.now.pool.now.trees in
    let cell = c.in-Some.cell in
    let there = c.in-Some-typed_term.there in
    record {
      terms = λ s i.
          ap (λ ms. option_map (λ ns. ms ++ ns) (typed_terms s (tree_at trees cell.second) (tree_at trees c.args.equation.now.left) (tree_at trees (Some c.args.term))))
          (terms_pushed trees c.binders.given.items c.push.new.self.items c.in-Binder.name there c.in_ok-push.ensures.items)
          ∙ typed_more s (tree_at trees c.args.equation.now.left) (tree_at trees (Some c.args.term)) (tree_at trees c.binders.at) (terms_of trees c.binders.given.items) _ (c.binders.invariant.terms s i)
          cell.head (tree_at trees cell.first) (tree_at trees cell.second) c.in-Some.ensures.node c.in-Binder.name c.in-Binder.of_type c.in-Binder.is (tree_at trees (Some there)) (c.in-Some-typed_term.ensures s i);
      names =
          ap (λ xs. xs ++ bound_names (tree_at trees cell.second)) (names_pushed c.binders.given.items c.push.new.self.items c.in-Binder.name there c.in_ok-push.ensures.items)
          ∙ names_more (tree_at trees c.binders.at) (names_of c.binders.given.items) _ c.binders.invariant.names cell.head (tree_at trees cell.first) (tree_at trees cell.second) c.in-Some.ensures.node c.in-Binder.name c.in-Binder.of_type c.in-Binder.is;
    }

pub returns-clause-terms : goal.returns-clause-terms
returns-clause-terms c =
    let trees = c.args.table.now.pool.now.trees in
    λ s i. typed_at_end s (tree_at trees c.args.equation.now.left) (tree_at trees (Some c.args.term)) (tree_at trees c.binders.at) (terms_of trees c.binders.given.items) _ (c.binders.invariant.terms s i) c.in_default.ensures.none

pub returns-clause-names : goal.returns-clause-names
returns-clause-names c = names_at_end (tree_at c.args.table.now.pool.now.trees c.binders.at) (names_of c.binders.given.items) _ c.binders.invariant.names c.in_default.ensures.none
