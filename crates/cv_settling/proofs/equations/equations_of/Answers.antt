use Rattle.std.proofs.Common.{All, Some, ◌+◌, ◌++◌, drop, map, sym, ap, subst, ◌∙◌, arith}
use Rattle.cv_syntax.specs.Declarations.{declarations}
use Rattle.cv_syntax.specs.PoolTrees.{tree_at}
use Rattle.cv_scene.specs.Reasons.{equations_in}
use Rattle.cv_settling.specs.Instances.{HasRoot, numbered_from, seen_in}
use Rattle.cv_settling.proofs.Told.{none_there, one_there, told_end, told_next}
use Rattle.cv_settling.proofs.equations.equations_of.Goals as goal
use Rattle.cv_settling.proofs.equations.equations_of.Goals.{in-Some+in_ok-push_equation, in_default}

pub loop-k-preserved : goal.loop-k-preserved
loop-k-preserved c =
    let trees = c.args.pool.now.trees in
    let ds = c.args.decls.now.list in
    let k = c.loop-k.k in
    let xs = map (seen_in trees) c.loop-k.equations.items in
    let ts = equations_in (declarations trees (drop (k + 1) ds)) in
    elim c.match-equation_at.branch [
      | in-Some+in_ok-push_equation w ↦ record {
        told =
            ap (λ es. map (seen_in trees) es.items ++ numbered_from c.match-equation_at.number ts) w.equations-is
            ∙ (ap (λ n. map (seen_in trees) w.push_equation.new.equations.items ++ numbered_from n ts) w.number-is
            ∙ told_next trees xs c.loop-k.number (tree_at trees (Some w.in-Some.n)) ts _
            (ap (λ us. xs ++ numbered_from c.loop-k.number us) (sym (one_there trees ds k w.in-Some.n w.in-Some.ensures)) ∙ c.loop-k.invariant.told)
            (map (seen_in trees) w.push_equation.new.equations.items) w.in_ok-push_equation.ensures.told);
        roots = subst (λ es. All (HasRoot trees) es.items) (sym w.equations-is) (w.in_ok-push_equation.ensures.roots c.loop-k.invariant.roots);
        few = omega (arith, w.number-is);
      }
      | in_default w ↦ record {
        told =
            ap (λ es. map (seen_in trees) es.items ++ numbered_from c.match-equation_at.number ts) w.equations-is
            ∙ (ap (λ n. xs ++ numbered_from n ts) w.number-is
            ∙ (ap (λ us. xs ++ numbered_from c.loop-k.number us) (sym (none_there trees ds k (omega arith) w.in_default.ensures)) ∙ c.loop-k.invariant.told));
        roots = subst (λ es. All (HasRoot trees) es.items) (sym w.equations-is) c.loop-k.invariant.roots;
        few = omega (arith, w.number-is);
      }
    ]

pub returns-clause-equations : goal.returns-clause-equations
returns-clause-equations c =
    let trees = c.args.pool.now.trees in
    told_end trees c.args.decls.now.list c.loop-k.k c.loop-k.number (map (seen_in trees) c.loop-k.equations.items) _ (omega arith) c.loop-k.invariant.told
