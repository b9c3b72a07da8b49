use Rattle.std.proofs.Common.{arith, length, map, reverse, drop, ap, sym, ◌∙◌, ◌≤◌, ◌+◌, subst, None, Some}
use Rattle.std.proofs.lemmas.List.{reverse-reverse}
use Rattle.cv_pool.specs.PoolView.{PoolView, Grows}
use Rattle.cv_syntax.specs.Planting.{overs}
use Rattle.cv_syntax.specs.PoolTrees.{tree_at}
use Rattle.cv_pool.proofs.Growth.{Grows_trans}
use Rattle.cv_syntax.proofs.Plantings.{step_nothing, step_over, step_live, overs_nothing, overs_over, made_all}
use Rattle.cv_syntax.proofs.planting.planted.Goals as goal
use Rattle.cv_syntax.proofs.planting.planted.Goals.{in-Nothing, in-Over}

pub loop-make-preserved : goal.loop-make-preserved
loop-make-preserved c =
    elim c.match-make.branch [
      | in-Nothing w ↦ record {
        trees = step_nothing c.loop-make.pool c.match-make.pool c.loop-make.stack.items c.match-make.stack.items c.push.new.self.items c.match-make.top c.args.makes.now c.loop-make.make-index w.pool-is (ap (λ v. v.items) w.stack-is) w.top-is c.in_ok-push.ensures.items c.loop-make-test.true w.in-Nothing.is c.loop-make.invariant.trees;
        live = step_live c.loop-make.pool c.match-make.pool c.loop-make.stack.items c.match-make.stack.items c.push.new.self.items c.match-make.top None w.pool-is (ap (λ v. v.items) w.stack-is) w.top-is c.in_ok-push.ensures.items c.loop-make.invariant.live tt;
        grows = subst (Grows c.args.pool.now) (sym w.pool-is) c.loop-make.invariant.grows;
        spare = subst (λ (p : PoolView). overs (drop (c.loop-make.make-index + 1) c.args.makes.now) ≤ p.spare) (sym w.pool-is) (let e = overs_nothing c.args.makes.now c.loop-make.make-index c.loop-make-test.true w.in-Nothing.is in omega arith);
        few = subst (λ (p : PoolView). length p.trees + overs (drop (c.loop-make.make-index + 1) c.args.makes.now) ≤ length c.args.pool.now.trees + overs c.args.makes.now) (sym w.pool-is) (let e = overs_nothing c.args.makes.now c.loop-make.make-index c.loop-make-test.true w.in-Nothing.is in omega arith);
      }
      | in-Over w ↦ record {
        trees = step_over c.loop-make.pool w.over.new.pool c.match-make.pool c.loop-make.stack.items w.over.new.stack.items c.match-make.stack.items c.push.new.self.items c.match-make.top w.over.result w.in-Over.head c.args.makes.now c.loop-make.make-index w.pool-is (ap (λ v. v.items) w.stack-is) w.top-is c.in_ok-push.ensures.items c.loop-make-test.true w.in-Over.is w.over.ensures.trees c.loop-make.invariant.trees;
        live = step_live w.over.new.pool c.match-make.pool w.over.new.stack.items c.match-make.stack.items c.push.new.self.items c.match-make.top (Some w.over.result) w.pool-is (ap (λ v. v.items) w.stack-is) w.top-is c.in_ok-push.ensures.items w.over.ensures.live w.over.ensures.id;
        grows = subst (Grows c.args.pool.now) (sym w.pool-is) (Grows_trans c.args.pool.now c.loop-make.pool w.over.new.pool c.loop-make.invariant.grows w.over.ensures.grows);
        spare = subst (λ (p : PoolView). overs (drop (c.loop-make.make-index + 1) c.args.makes.now) ≤ p.spare) (sym w.pool-is) (let e = overs_over c.args.makes.now c.loop-make.make-index w.in-Over.head c.loop-make-test.true w.in-Over.is in omega arith);
        few = subst (λ (p : PoolView). length p.trees + overs (drop (c.loop-make.make-index + 1) c.args.makes.now) ≤ length c.args.pool.now.trees + overs c.args.makes.now) (sym w.pool-is) (let e = overs_over c.args.makes.now c.loop-make.make-index w.in-Over.head c.loop-make-test.true w.in-Over.is in omega arith);
      }
    ]

pub returns-clause-trees : goal.returns-clause-trees
returns-clause-trees c =
    sym (ap reverse (sym c.loop-make.invariant.trees ∙ made_all (reverse (map (tree_at c.loop-make.pool.trees) c.loop-make.stack.items)) c.args.makes.now c.loop-make.make-index c.loop-make-test.false) ∙ reverse-reverse (map (tree_at c.loop-make.pool.trees) c.loop-make.stack.items))
