use Rattle.std.proofs.Common.{◌≡◌, length, ap, sym, ◌∙◌, Some, None, subst}
use Rattle.cv_syntax.specs.PoolTrees.{tree_at}
use Rattle.cv_syntax.specs.Classes.{equiv_in}
use Rattle.cv_syntax.specs.Declarations.{declarations}
use Rattle.cv_group.specs.Tables.{symbols_in}
use Rattle.cv_group_rules.specs.Symbols.{symbols_of}
use Rattle.cv_pool.specs.Nodes.{ChildBelow}
use Rattle.std.specs.Prelude.{OnOk, IfErr}
use Rattle.cv_group.specs.Refusals.{IsRefusalOf}
use Rattle.cv_group_rules.specs.Faults.{group_fault}
use Rattle.cv_group.proofs.Lists as list
use Rattle.cv_group.proofs.checking.check.Goals as goal

pub check_tree-requires : goal.check_tree-requires
check_tree-requires c = subst (λ o. ChildBelow (length c.args.work.now.pool.trees) o) (sym c.equiv.ensures ∙ c.in-Some.is) (list.equiv_named (length c.args.work.now.pool.trees) c.args.work.now.decls.list c.args.equiv.0 c.requires.declared)

pub returns-in-Some-clause-none : goal.returns-in-Some-clause-none
returns-in-Some-clause-none c =
    let trees = c.args.work.now.pool.trees in
    let list = c.args.work.now.decls.list in
    let symbols : symbols_in c.new-around.result.symbols ≡ symbols_of (declarations trees list) = ap symbols_in c.new-around.ensures ∙ c.in_ok-symbols.ensures in
    let there : Some c.in-Some.tree ≡ equiv_in list c.args.equiv.0 = sym c.in-Some.is ∙ c.equiv.ensures in
    subst (λ p. OnOk c.check_tree.result (group_fault p (tree_at trees (equiv_in list c.args.equiv.0)) ≡ None)) symbols (subst (λ o. OnOk c.check_tree.result (group_fault (symbols_in c.new-around.result.symbols) (tree_at trees o) ≡ None)) there c.check_tree.ensures.none)

pub returns-in-Some-clause-fault : goal.returns-in-Some-clause-fault
returns-in-Some-clause-fault c =
    let trees = c.args.work.now.pool.trees in
    let list = c.args.work.now.decls.list in
    let symbols : symbols_in c.new-around.result.symbols ≡ symbols_of (declarations trees list) = ap symbols_in c.new-around.ensures ∙ c.in_ok-symbols.ensures in
    let there : Some c.in-Some.tree ≡ equiv_in list c.args.equiv.0 = sym c.in-Some.is ∙ c.equiv.ensures in
    subst (λ p. IfErr c.check_tree.result (IsRefusalOf (group_fault p (tree_at trees (equiv_in list c.args.equiv.0))))) symbols (subst (λ o. IfErr c.check_tree.result (IsRefusalOf (group_fault (symbols_in c.new-around.result.symbols) (tree_at trees o)))) there c.check_tree.ensures.fault)
