use Rattle.std.proofs.Common.{ap, sym, ◌∙◌}
use Rattle.cv_syntax.specs.PoolTrees.{tree_at}
use Rattle.cv_scope.specs.Held.{last_held, names_held}
use Rattle.cv_scope_rules.specs.Rules.{carries_current}
use Rattle.cv_scope.specs.Seen.{is_well_replicated}
use Rattle.cv_scope.proofs.Faults.{both_noted, channel_fails, channel_same, none_fail, replications_fail}
use Rattle.cv_scope.proofs.rules.node_fault.Goals as goal

pub returns-then-not-branch-2-clause-fault : goal.returns-then-not-branch-2-clause-fault
returns-then-not-branch-2-clause-fault c =
    let trees = c.args.pool.now.trees in
    let s = c.args.state.now in
    let a = tree_at trees c.args.node.first in
    let m = c.in_ok-note_named.ensures.noted c.if-not-branch.false in
    let r = c.note_named.new.self in
    let scoped = sym c.if-not-is_in_scope.false ∙ c.is_in_scope.ensures in
    let named = sym c.if-not-branch.false ∙ c.in_ok-note_named.ensures.may in
    let current = sym c.if-not-carries_current.false ∙ (c.carries_current.ensures ∙ ap (λ l. carries_current l c.args.node.head a) m.above.replications) in
    let same = channel_same s.passed r.passed s.replications.items r.replications.items c.args.place c.args.node.head a (last_held trees s.last) (last_held trees r.last) m.above.passed m.above.replications m.last in
    let channel = sym c.if-not-branch-2.true ∙ (c.in_ok-note_channel.ensures.may ∙ same) in
    channel_fails _ _ _ _ _ scoped named current channel

pub returns-then-not-is_well_replicated-clause-fault : goal.returns-then-not-is_well_replicated-clause-fault
returns-then-not-is_well_replicated-clause-fault c =
    let trees = c.args.pool.now.trees in
    let s = c.args.state.now in
    let a = tree_at trees c.args.node.first in
    let m = c.in_ok-note_named.ensures.noted c.if-not-branch.false in
    let r = c.note_named.new.self in
    let scoped = sym c.if-not-is_in_scope.false ∙ c.is_in_scope.ensures in
    let named = sym c.if-not-branch.false ∙ c.in_ok-note_named.ensures.may in
    let current = sym c.if-not-carries_current.false ∙ (c.carries_current.ensures ∙ ap (λ l. carries_current l c.args.node.head a) m.above.replications) in
    let same = channel_same s.passed r.passed s.replications.items r.replications.items c.args.place c.args.node.head a (last_held trees s.last) (last_held trees r.last) m.above.passed m.above.replications m.last in
    let channel = sym c.if-not-branch-2.false ∙ (c.in_ok-note_channel.ensures.may ∙ same) in
    let n = c.in_ok-note_channel.ensures.noted in
    let fine = c.is_well_replicated.ensures ∙ ap (λ l. is_well_replicated (names_held c.args.names.now) l c.args.node.head a) (n.above.replications ∙ m.above.replications) in
    replications_fail _ _ _ _ _ scoped named current channel (sym c.if-not-is_well_replicated.true ∙ fine)

pub returns-clause-fault : goal.returns-clause-fault
returns-clause-fault c =
    let trees = c.args.pool.now.trees in
    let s = c.args.state.now in
    let a = tree_at trees c.args.node.first in
    let m = c.in_ok-note_named.ensures.noted c.if-not-branch.false in
    let r = c.note_named.new.self in
    let scoped = sym c.if-not-is_in_scope.false ∙ c.is_in_scope.ensures in
    let named = sym c.if-not-branch.false ∙ c.in_ok-note_named.ensures.may in
    let current = sym c.if-not-carries_current.false ∙ (c.carries_current.ensures ∙ ap (λ l. carries_current l c.args.node.head a) m.above.replications) in
    let same = channel_same s.passed r.passed s.replications.items r.replications.items c.args.place c.args.node.head a (last_held trees s.last) (last_held trees r.last) m.above.passed m.above.replications m.last in
    let channel = sym c.if-not-branch-2.false ∙ (c.in_ok-note_channel.ensures.may ∙ same) in
    let n = c.in_ok-note_channel.ensures.noted in
    let fine = c.is_well_replicated.ensures ∙ ap (λ l. is_well_replicated (names_held c.args.names.now) l c.args.node.head a) (n.above.replications ∙ m.above.replications) in
    none_fail _ _ _ _ _ scoped named current channel (sym c.if-not-is_well_replicated.false ∙ fine)

pub returns-clause-noted : goal.returns-clause-noted
returns-clause-noted c = λ t.
    let trees = c.args.pool.now.trees in
    both_noted trees c.args.state.now c.note_named.new.self c.note_channel.new.self c.args.place c.args.node.head (tree_at trees c.args.node.first) (c.in_ok-note_named.ensures.noted c.if-not-branch.false) c.in_ok-note_channel.ensures.noted
