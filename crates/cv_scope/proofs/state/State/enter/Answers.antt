use Rattle.std.proofs.Common.{sym, ◌∙◌, subst, refl, length, OnOk}
use Rattle.cv_syntax_trees.specs.declared.head.Head.{Head}
use Rattle.cv_syntax_trees.specs.declared.head.Head.TheVariants.{In, Find, Branch}
use Rattle.cv_syntax_trees.specs.Tree.{Tree}
use Rattle.cv_syntax.specs.PoolTrees.{tree_at}
use Rattle.cv_meaning.specs.Binders.{bound_names}
use Rattle.cv_scope.specs.Held.{DefinesOnly, IsEntered}
use Rattle.cv_scope.specs.Seen.{with_definitions}
use Rattle.cv_scope.proofs.Entering.{both_ok, on_ok, defines_entered, passes_entered, plain_entered, plain_head, replicates_entered, variable_entered}
use Rattle.cv_scope.proofs.state.State.enter.Goals as goal

pub returns-in-Some : goal.returns-in-Some
returns-in-Some c =
    let trees = c.args.pool.now.trees in
    let s = c.args.self.now in
    let a = tree_at trees c.args.first in
    on_ok c.define.result _ _ (variable_entered trees s c.define.new.self c.args.position c.args.head a c.args.from c.args.to c.in-Some.x (sym c.variable_of.ensures ∙ c.in-Some.is) c.requires.listed) c.define.ensures

pub returns-in-Find : goal.returns-in-Find
returns-in-Find c =
    let trees = c.args.pool.now.trees in
    let s = c.args.self.now in
    let a = tree_at trees c.args.first in
    subst (λ (h : Head). OnOk c.add.result (IsEntered trees s (record s { passed = c.add.new.self }) c.args.position h a c.args.from c.args.to)) (sym c.in-Find.is)
    (on_ok c.add.result _ _ (passes_entered trees s (record s { passed = c.add.new.self }) c.args.position (Find c.in-Find.field-0) a c.args.from c.args.to c.requires.listed refl refl refl refl refl) c.add.ensures)

pub returns-in-Repl : goal.returns-in-Repl
returns-in-Repl c =
    let trees = c.args.pool.now.trees in
    let s = c.args.self.now in
    let a = tree_at trees c.args.first in
    both_ok c.replicate.result _ _ _ (λ e m. replicates_entered trees s c.replicate.new.self c.args.position c.args.head a c.args.from c.args.to c.in-Repl.i c.in-Repl.n c.in-Repl.is c.requires.listed e m) c.replicate.ensures.same c.replicate.ensures.replications

pub returns-in-In : goal.returns-in-In
returns-in-In c =
    let trees = c.args.pool.now.trees in
    let s = c.args.self.now in
    let a = tree_at trees c.args.first in
    subst (λ (h : Head). OnOk c.define_all.result (IsEntered trees s c.define_all.new.self c.args.position h a c.args.from c.args.to)) (sym c.in-In.is)
    (on_ok c.define_all.result _ _ (defines_entered trees s c.define_all.new.self c.args.position (In c.in-In.field-0) a c.args.from c.args.to c.requires.listed refl refl refl) (subst (λ (t : Tree). OnOk c.define_all.result (DefinesOnly s c.define_all.new.self (with_definitions s.defined (length s.replications.items) (bound_names t)))) c.second_of.ensures.tree c.define_all.ensures))

pub returns-in-Branch : goal.returns-in-Branch
returns-in-Branch c =
    let trees = c.args.pool.now.trees in
    let s = c.args.self.now in
    let a = tree_at trees c.args.first in
    subst (λ (h : Head). OnOk c.define_all-in-Branch.result (IsEntered trees s c.define_all-in-Branch.new.self c.args.position h a c.args.from c.args.to)) (sym c.in-Branch.is)
    (on_ok c.define_all-in-Branch.result _ _ (defines_entered trees s c.define_all-in-Branch.new.self c.args.position Branch a c.args.from c.args.to c.requires.listed refl refl refl) c.define_all-in-Branch.ensures)

pub returns-in_default-head : goal.returns-in_default-head
returns-in_default-head c =
    let trees = c.args.pool.now.trees in
    let s = c.args.self.now in
    let a = tree_at trees c.args.first in
    plain_entered trees s c.args.position c.args.head a c.args.from c.args.to c.requires.listed
    (plain_head s.replications.items c.args.position c.args.head a c.args.from c.args.to (sym c.variable_of.ensures ∙ c.in_default.is) c.in_default-head.not-Repl c.in_default-head.not-In c.in_default-head.not-Find c.in_default-head.not-Branch c.in_default-head.not-Cons)
