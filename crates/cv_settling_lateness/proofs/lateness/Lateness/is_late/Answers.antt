use Rattle.std.proofs.Common.{length, sym, ap, subst, ◌∙◌, arith}
use Rattle.cv_syntax.specs.PoolTrees.{tree_at}
use Rattle.cv_syntax.proofs.Trees.{empty_at}
use Rattle.cv_syntax.proofs.Walking.{above_child, above_some, live_child}
use Rattle.cv_settling_lateness.specs.Standing.{Stands, is_late_there}
use Rattle.cv_settling_lateness.proofs.Descending.{late_nowhere, whole_late, whole_stands}
use Rattle.cv_settling_lateness.proofs.lateness.Lateness.is_late.Goals as goal

pub down-init : goal.down-init
down-init c game is =
    let trees = c.args.pool.now.trees in
    record {
      stands = subst (Stands trees c.args.self.now.definitions.list.items c.args.place) (sym c.whole-here.ensures) (whole_stands trees game c.args.self.now c.args.place is);
      same = ap (is_late_there trees c.args.x c.args.place) c.whole-here.ensures ∙ whole_late trees game c.args.self.now c.args.x c.args.place is;
    }

pub returns-in_default-open : goal.returns-in_default-open
returns-in_default-open c game is =
    let trees = c.args.pool.now.trees in
    sym (late_nowhere c.args.x _ (tree_at trees c.down.here.at) (ap (tree_at trees) c.in-Some.is ∙ c.in_default-open.ensures.none)) ∙ (c.down.invariant game is).same

pub step-requires-clause-first : goal.step-requires-clause-first
step-requires-clause-first c =
    let l = c.in-Some-open.ensures.live in
    live_child (length c.args.pool.now.trees) c.in-Some.n.0 c.in-Some-open.node.first (omega arith) c.in-Some-open.ensures.first

pub step-requires-clause-second : goal.step-requires-clause-second
step-requires-clause-second c =
    let l = c.in-Some-open.ensures.live in
    live_child (length c.args.pool.now.trees) c.in-Some.n.0 c.in-Some-open.node.second (omega arith) c.in-Some-open.ensures.second

pub step-requires-clause-tree : goal.step-requires-clause-tree
step-requires-clause-tree c = ap (tree_at c.args.pool.now.trees) c.in-Some.is ∙ c.in-Some-open.ensures.tree

pub returns-in-Ends : goal.returns-in-Ends
returns-in-Ends c game is =
    let i = c.down.invariant game is in
    sym (c.in-Ends.ensures.leads game is i.stands) ∙ i.same

pub down-smaller : goal.down-smaller
down-smaller c =
    omega (arith, above_some c.down.here.at c.in-Some.n c.in-Some.is, above_child c.in-Some.n.0 c.in-Goes.next.at (c.in-Goes.ensures.below c.in-Some.n.0 c.in-Some-open.ensures.first c.in-Some-open.ensures.second))

pub down-preserved : goal.down-preserved
down-preserved c game is =
    let i = c.down.invariant game is in
    let k = c.in-Goes.ensures.leads game is i.stands in
    record { stands = k.0; same = sym k.1 ∙ i.same }

pub returns : goal.returns
returns c game is =
    let trees = c.args.pool.now.trees in
    sym (late_nowhere c.args.x _ (tree_at trees c.down.here.at) (empty_at trees c.down.here.at c.in_default.is)) ∙ (c.down.invariant game is).same
