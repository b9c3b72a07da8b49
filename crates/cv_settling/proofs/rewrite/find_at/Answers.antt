use Rattle.std.proofs.Common.{◌-◌, Some, map, arith, option_map}
use Rattle.std.proofs.lemmas.Result.{IfOk-weaker}
use Rattle.cv_syntax.specs.PoolTrees.{tree_at}
use Rattle.cv_settling.specs.Instances.{seen_in}
use Rattle.cv_settling.specs.Rewritings.{candidate_of}
use Rattle.cv_settling.specs.Truths.{outcome_tree}
use Rattle.cv_settling.proofs.Picked.{no_truth_first, truth_passed}
use Rattle.cv_settling.proofs.rewrite.find_at.Goals as goal

pub returns-in_default : goal.returns-in_default
returns-in_default c =
    let trees = c.args.table.now.pool.now.trees in
    IfOk-weaker c.find_instance.result _ _
    (λ o h. λ s i e m. no_truth_first s (tree_at trees (Some c.args.at.node)) c.args.at.place (map (seen_in trees) c.args.equations.now) e c.args.left.now c.find_instance.new.left (option_map (candidate_of trees) o) (c.in_default.ensures m.term) (h s i m))
    c.find_instance.ensures

pub returns : goal.returns
returns c =
    let trees = c.args.table.now.pool.now.trees in
    IfOk-weaker c.find_instance-2.result _ _
    (λ o h. λ s i e m.
    truth_passed s (tree_at trees (Some c.args.at.node)) c.args.at.place (map (seen_in trees) c.args.equations.now) e (outcome_tree trees c.in-Some.outcome) (c.in-Some.ensures m.term)
    c.args.left.now (c.args.left.now - 1) c.find_instance-2.new.left (option_map (candidate_of trees) o) (omega (arith, c.if-left-eq0.false)) (h s i m))
    c.find_instance-2.ensures
