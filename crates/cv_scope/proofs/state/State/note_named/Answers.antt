use Rattle.std.proofs.Common.{◌≡◌, ap, sym, ◌∙◌, subst, IfOk, List}
use Rattle.cv_syntax_trees.specs.declared.head.Head.{Head}
use Rattle.cv_syntax_trees.specs.Tree.{Tree}
use Rattle.cv_syntax.specs.PoolTrees.{tree_at}
use Rattle.cv_scope.specs.Held.{last_held, OnlySites}
use Rattle.cv_scope.specs.Seen.{may_stand_last}
use Rattle.cv_scope_rules.specs.Sites.{Site, named_here, variable_sites}
use Rattle.cv_scope.proofs.Noting.{no_named, none_noted}
use Rattle.cv_scope.proofs.state.State.note_named.Goals as goal

pub returns-in-In-clause-may : goal.returns-in-In-clause-may
returns-in-In-clause-may c =
    let trees = c.args.pool.now.trees in
    let s = c.args.self.now in
    subst (λ (h : Head). IfOk c.note_binders.result (λ y. y ≡ may_stand_last s.passed (last_held trees s.last) (named_here s.replications.items c.args.place h (tree_at trees c.args.first)))) (sym c.in-In.is)
    (subst (λ (t : Tree). IfOk c.note_binders.result (λ y. y ≡ may_stand_last s.passed (last_held trees s.last) (variable_sites s.replications.items c.args.place t))) c.second_of.ensures.tree c.note_binders.ensures.may)

pub returns-in_default-head : goal.returns-in_default-head
returns-in_default-head c =
    let trees = c.args.pool.now.trees in
    let none = no_named c.args.self.now.replications.items c.args.place c.args.head (tree_at trees c.args.first) (sym c.variable_of.ensures ∙ c.in_default.is) c.in_default-head.not-In c.in_default-head.not-Branch c.in_default-head.not-Find in
    record {
      may = sym (ap (may_stand_last c.args.self.now.passed (last_held trees c.args.self.now.last)) none);
      noted = λ t. subst (λ (l : List Site). OnlySites trees c.args.self.now c.args.self.now l) (sym none) (none_noted trees c.args.self.now c.requires.live);
    }
