use Rattle.std.proofs.Common.{◌≡◌, ◌<◌, ◌≤◌, ◌-◌, ap, sym, ◌∙◌, length, take, arith, length-take-le, take-take}
use Rattle.cv_pool.specs.PoolView.{PoolView}
use Rattle.cv_pool.proofs.Built.{length_trees, take_past}
use Rattle.cv_pool.proofs.pool.Pool.release.Goals as goal

pub newest-smaller : goal.newest-smaller
newest-smaller c =
    let trees = c.newest.self.trees in
    let n = length trees - 1 in
    let less : n ≤ length trees = omega arith in
    let shorter : length c.pop.new.self.trees ≡ n = ap length c.pop.ensures.trees ∙ length-take-le n trees less in
    let all : length trees ≡ length c.self.inside.nodes.items = omega (arith, ap length (ap (λ (v : PoolView). v.trees) c.self.view_is), length_trees c.self.inside.nodes.items) in
    let some : 0 < length trees = omega arith in
    let smaller : length c.pop.new.self.trees < length trees = omega arith in
    smaller

pub newest-preserved : goal.newest-preserved
newest-preserved c =
    let trees = c.newest.self.trees in
    let n = length trees - 1 in
    let all : length trees ≡ length c.self.inside.nodes.items = omega (arith, ap length (ap (λ (v : PoolView). v.trees) c.self.view_is), length_trees c.self.inside.nodes.items) in
    let less : n ≤ length trees = omega arith in
    let shorter : length c.pop.new.self.trees ≡ n = ap length c.pop.ensures.trees ∙ length-take-le n trees less in
    let there : c.args.m.0 ≤ n = omega arith in
    record {
      kept = ap (take c.args.m.0) c.pop.ensures.trees ∙ (take-take c.args.m.0 n trees there ∙ c.newest.invariant.kept);
      there = omega (arith, shorter);
      limit = c.pop.ensures.limit ∙ c.newest.invariant.limit;
      spare = omega arith;
    }

pub returns-clause-trees : goal.returns-clause-trees
returns-clause-trees c =
    let trees = c.newest.self.trees in
    let all : length trees ≡ length c.self.inside.nodes.items = omega (arith, ap length (ap (λ (v : PoolView). v.trees) c.self.view_is), length_trees c.self.inside.nodes.items) in
    let past : length trees ≤ c.args.m.0 = omega arith in
    sym (take_past trees c.args.m.0 past) ∙ c.newest.invariant.kept
