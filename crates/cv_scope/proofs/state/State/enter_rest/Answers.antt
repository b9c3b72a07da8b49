use Rattle.std.proofs.Common.{sym, subst, refl, OnOk}
use Rattle.cv_syntax_trees.specs.declared.head.Head.TheVariants.{Cons}
use Rattle.cv_syntax.specs.PoolTrees.{tree_at}
use Rattle.cv_scope_rules.specs.declared.position.Position.{Position}
use Rattle.cv_scope_rules.specs.declared.position.Position.TheVariants.{Bodies, Branches, Guards, Cells}
use Rattle.cv_scope.specs.Held.{IsEntered}
use Rattle.cv_scope.proofs.Entering.{on_ok, passes_entered, lists_entered}
use Rattle.cv_scope.proofs.state.State.enter_rest.Goals as goal

pub returns-in-Bodies : goal.returns-in-Bodies
returns-in-Bodies c =
    let trees = c.args.pool.now.trees in
    let s = c.args.self.now in
    let a = tree_at trees c.args.item in
    subst (λ (w : Position). OnOk c.add.result (IsEntered trees s (record s { passed = c.add.new.self }) w Cons a c.args.from c.args.to)) (sym c.in-Bodies.is)
    (on_ok c.add.result _ _ (passes_entered trees s (record s { passed = c.add.new.self }) Bodies Cons a c.args.from c.args.to c.requires.listed refl refl refl refl refl) c.add.ensures)

pub returns-in-Branches : goal.returns-in-Branches
returns-in-Branches c =
    let trees = c.args.pool.now.trees in
    let s = c.args.self.now in
    let a = tree_at trees c.args.item in
    subst (λ (w : Position). OnOk c.add-in-Branches.result (IsEntered trees s (record s { passed = c.add-in-Branches.new.self }) w Cons a c.args.from c.args.to)) (sym c.in-Branches.is)
    (on_ok c.add-in-Branches.result _ _ (passes_entered trees s (record s { passed = c.add-in-Branches.new.self }) Branches Cons a c.args.from c.args.to c.requires.listed refl refl refl refl refl) c.add-in-Branches.ensures)

pub returns-in-Guards : goal.returns-in-Guards
returns-in-Guards c =
    let trees = c.args.pool.now.trees in
    let s = c.args.self.now in
    let a = tree_at trees c.args.item in
    subst (λ (w : Position). OnOk c.list_all.result (IsEntered trees s c.list_all.new.self w Cons a c.args.from c.args.to)) (sym c.in-Guards.is)
    (on_ok c.list_all.result _ _ (lists_entered trees s c.list_all.new.self Guards Cons a c.args.from c.args.to refl refl refl) c.list_all.ensures)

pub returns-in-Cells : goal.returns-in-Cells
returns-in-Cells c =
    let trees = c.args.pool.now.trees in
    let s = c.args.self.now in
    let a = tree_at trees c.args.item in
    subst (λ (w : Position). OnOk c.list_one.result (IsEntered trees s c.list_one.new.self w Cons a c.args.from c.args.to)) (sym c.in-Cells.is)
    (on_ok c.list_one.result _ _ (lists_entered trees s c.list_one.new.self Cells Cons a c.args.from c.args.to refl refl refl) c.list_one.ensures)
