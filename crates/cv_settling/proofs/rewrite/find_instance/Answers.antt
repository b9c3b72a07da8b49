use Rattle.std.proofs.Common.{◌+◌, Some, None, drop, sym, ap, ◌∙◌, arith, option_map}
use Rattle.std.specs.Prelude.{slice_index_or}
use Rattle.cv_syntax.specs.PoolTrees.{tree_at}
use Rattle.cv_settling_rules.specs.Candidates.{Rewrite}
use Rattle.cv_settling.specs.Instances.{right_with, seen_in}
use Rattle.cv_settling.specs.Putting.{terms_of}
use Rattle.cv_settling.specs.declared.equations.Equation.{Equation}
use Rattle.cv_settling.proofs.Picked.{counted_at, from_next, no_equation_left, passed_as, picked_at}
use Rattle.cv_settling.proofs.Shorter.{no_term}
use Rattle.cv_settling.proofs.rewrite.find_instance.Goals as goal
use Rattle.cv_settling.proofs.rewrite.find_instance.Goals.{in-Some-instance+else-left-eq0, in_default-instance}

pub returns-in_default : goal.returns-in_default
returns-in_default c = λ s i m. absurd (no_term (tree_at c.args.table.now.pool.now.trees (Some c.args.at.node)) c.in_default.ensures.none m.term)

abbrev no_equation : Equation
no_equation = record { number = 0; binders = None; left = None; right = None; root = None }

pub returns-then-left-eq0 : goal.returns-then-left-eq0
returns-then-left-eq0 c =
    let trees = c.args.table.now.pool.now.trees in
    let term = tree_at trees (Some c.args.at.node) in
    let node = c.in-Some.node in
    let equations = c.args.equations.now in
    let k = c.loop-equation.equation-index in
    let equation = slice_index_or equations k no_equation in
    let terms = terms_of trees c.in-Some-instance.given.items in
    λ s i m.
    c.loop-equation.invariant s i m 0 (Some (Rewrite c.args.at.place (right_with (seen_in trees equation) terms)))
    (picked_at s term c.args.at.place trees equation (drop (k + 1) equations) (drop k equations) (from_next equations k no_equation (omega arith)) terms
    (sym (ap (option_map (λ gs. terms_of trees gs.items)) c.in-Some-instance.is) ∙ c.in_ok-instance.ensures s (tree_at trees node.first) (tree_at trees node.second) i m c.in-Some.ensures.tree)
    c.loop-equation.left 0 c.if-left-eq0.true)

pub loop-equation-preserved : goal.loop-equation-preserved
loop-equation-preserved c =
    let trees = c.args.table.now.pool.now.trees in
    let term = tree_at trees (Some c.args.at.node) in
    let node = c.in-Some.node in
    let equations = c.args.equations.now in
    let k = c.loop-equation.equation-index in
    λ s i m new o p.
    c.loop-equation.invariant s i m new o
    (elim c.match-instance.branch [
      | in-Some-instance+else-left-eq0 w ↦
          counted_at s term c.args.at.place trees _ (drop (k + 1) equations) (drop k equations) (from_next equations k _ (omega arith))
          (terms_of trees w.in-Some-instance.given.items)
          (sym (ap (option_map (λ gs. terms_of trees gs.items)) w.in-Some-instance.is) ∙ c.in_ok-instance.ensures s (tree_at trees node.first) (tree_at trees node.second) i m c.in-Some.ensures.tree)
          c.loop-equation.left c.match-instance.left new o (omega (arith, w.left-is, w.if-left-eq0.false)) p
      | in_default-instance w ↦
          passed_as s term c.args.at.place trees _ (drop (k + 1) equations) (drop k equations) (from_next equations k _ (omega arith))
          c.loop-equation.left c.match-instance.left new o w.left-is
          (sym (ap (option_map (λ gs. terms_of trees gs.items)) w.in_default-instance.is) ∙ c.in_ok-instance.ensures s (tree_at trees node.first) (tree_at trees node.second) i m c.in-Some.ensures.tree) p
    ])

pub returns : goal.returns
returns c =
    let trees = c.args.table.now.pool.now.trees in
    λ s i m.
    c.loop-equation.invariant s i m c.loop-equation.left None
    (no_equation_left s (tree_at trees (Some c.args.at.node)) c.args.at.place trees c.args.equations.now c.loop-equation.equation-index c.loop-equation.left (omega arith))
