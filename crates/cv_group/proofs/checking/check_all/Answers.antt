use Rattle.std.proofs.Common.{◌≡◌, ◌+◌, length, drop, ap, sym, ◌∙◌, arith, Some, None, subst}
use Rattle.cv_syntax.specs.PoolTrees.{tree_at}
use Rattle.cv_syntax.specs.Declarations.{declarations}
use Rattle.cv_group.specs.Tables.{symbols_in}
use Rattle.cv_group_rules.specs.Symbols.{symbols_of}
use Rattle.cv_group.specs.Refusals.{IsRefusalOf}
use Rattle.cv_group_rules.specs.Faults.{equivalences_in, first_group_fault, group_fault}
use Rattle.cv_group.proofs.Lists as list
use Rattle.cv_group.proofs.checking.check_all.Goals as goal

pub decls-preserved-in_default : goal.decls-preserved-in_default
decls-preserved-in_default c =
    let trees = c.args.work.now.pool.trees in
    let ds = c.args.work.now.decls.list in
    let symbols = symbols_of (declarations trees ds) in
    let whole = first_group_fault symbols (equivalences_in (declarations trees ds)) in
    record {
      few = omega arith;
      symbols = c.decls.invariant.symbols;
      same = ap (λ ts. list.behind c.decls.equiv (first_group_fault symbols ts)) (sym (list.equivs_skip trees ds c.decls.k (omega arith) (sym c.equiv_at.ensures ∙ c.in_default.is))) ∙ c.decls.invariant.same;
    }

pub check_tree-requires : goal.check_tree-requires
check_tree-requires c = list.equiv_below (length c.args.work.now.pool.trees) c.args.work.now.decls.list c.decls.k c.in-Some.tree c.requires (sym c.equiv_at.ensures ∙ c.in-Some.is)

pub returns-in-Err-clause-fault : goal.returns-in-Err-clause-fault
returns-in-Err-clause-fault c =
    let trees = c.args.work.now.pool.trees in
    let ds = c.args.work.now.decls.list in
    let symbols = symbols_of (declarations trees ds) in
    let whole = first_group_fault symbols (equivalences_in (declarations trees ds)) in
    list.refusal_at symbols (tree_at trees (Some c.in-Some.tree)) (equivalences_in (declarations trees (drop (c.decls.k + 1) ds))) (equivalences_in (declarations trees (drop c.decls.k ds))) c.decls.equiv whole c.in-Err.fault (list.equivs_take trees ds c.decls.k c.in-Some.tree (sym c.equiv_at.ensures ∙ c.in-Some.is)) c.decls.invariant.same (subst (λ p. IsRefusalOf (group_fault p (tree_at trees (Some c.in-Some.tree))) c.in-Err.fault) c.decls.invariant.symbols c.in-Err.ensures.fault)

pub decls-preserved : goal.decls-preserved
decls-preserved c =
    let trees = c.args.work.now.pool.trees in
    let ds = c.args.work.now.decls.list in
    let symbols = symbols_of (declarations trees ds) in
    let whole = first_group_fault symbols (equivalences_in (declarations trees ds)) in
    record {
      few = omega arith;
      symbols = ap symbols_in c.check_tree.ensures.symbols ∙ c.decls.invariant.symbols;
      same = list.refused_later symbols (tree_at trees (Some c.in-Some.tree)) (equivalences_in (declarations trees (drop (c.decls.k + 1) ds))) (equivalences_in (declarations trees (drop c.decls.k ds))) c.decls.equiv whole (list.equivs_take trees ds c.decls.k c.in-Some.tree (sym c.equiv_at.ensures ∙ c.in-Some.is)) (subst (λ p. group_fault p (tree_at trees (Some c.in-Some.tree)) ≡ None) c.decls.invariant.symbols c.in_default-check_tree.ensures.none) c.decls.invariant.same;
    }

pub returns-clause-none : goal.returns-clause-none
returns-clause-none c =
    let trees = c.args.work.now.pool.trees in
    let ds = c.args.work.now.decls.list in
    let symbols = symbols_of (declarations trees ds) in
    let whole = first_group_fault symbols (equivalences_in (declarations trees ds)) in
    list.refused_none symbols (equivalences_in (declarations trees (drop c.decls.k ds))) c.decls.equiv whole (list.equivs_past trees ds c.decls.k (omega arith)) c.decls.invariant.same
