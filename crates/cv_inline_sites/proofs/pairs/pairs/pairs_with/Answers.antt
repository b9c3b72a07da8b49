use Rattle.std.proofs.Common.{◌==◌, arith}
use Rattle.cv_syntax.specs.PoolTrees.{tree_at}
use Rattle.cv_inline_sites.specs.pairs.Branches.{branch_in}
use Rattle.cv_inline_sites.specs.pairs.Pairs.{IsPairOver}
use Rattle.cv_inline_sites.proofs.pairs.Branching.{all_pairs, pairs_end, pairs_go, size_by}
use Rattle.cv_inline_sites.proofs.pairs.pairs.pairs_with.Goals as goal

pub body_place-inner-requires-clause-fits : goal.body_place-inner-requires-clause-fits
body_place-inner-requires-clause-fits c =
    let s = size_by (tree_at c.args.pool.now.trees c.branches.at) (branch_in c.args.pool.now.trees c.in-Some.branch) c.in-Some.ensures.trees in
    omega (arith, s, c.branches.invariant.sum, c.requires.fits)

pub size_below-requires-clause-fits : goal.size_below-requires-clause-fits
size_below-requires-clause-fits c =
    let s = size_by (tree_at c.args.pool.now.trees c.branches.at) (branch_in c.args.pool.now.trees c.in-Some.branch) c.in-Some.ensures.trees in
    omega (arith, s, c.branches.invariant.sum, c.requires.fits)

pub overflow_add-next : goal.overflow_add-next
overflow_add-next c =
    let s = size_by (tree_at c.args.pool.now.trees c.branches.at) (branch_in c.args.pool.now.trees c.in-Some.branch) c.in-Some.ensures.trees in
    omega (arith, s, c.branches.invariant.sum, c.requires.fits, c.body_place-inner.ensures, c.size_below.ensures)

pub branches-preserved : goal.branches-preserved
branches-preserved c =
    let trees = c.args.pool.now.trees in
    let b = c.in-Some.branch in
    let s = size_by (tree_at trees c.branches.at) (branch_in trees b) c.in-Some.ensures.trees in
    record {
      live = c.in-Some.ensures.live.more;
      less = omega (arith, c.in-Some.ensures.below, c.branches.invariant.less);
      sum = omega (arith, s, c.branches.invariant.sum, c.body_place-inner.ensures, c.size_below.ensures);
      many = omega (arith, c.branches.invariant.many, c.body_place-inner.ensures, c.size_below.ensures);
      over = all_pairs (IsPairOver trees c.args.place c.args.list) (c.args.bound == b.bound) c.branches.found.items c.add_pair.new.found.items _ c.in_ok-add_pair.ensures c.branches.invariant.over
          (record {
            cells = c.in-Some.ensures.live.cells;
            condition = c.in-Some.ensures.live.condition;
            body = c.in-Some.ensures.live.body;
            below = omega (arith, c.in-Some.ensures.inner, c.branches.invariant.less);
            fits = omega (arith, s, c.branches.invariant.sum, c.body_place-inner.ensures);
          });
      pairs = pairs_go trees c.args.bound c.branches.number _ c.branches.next c.body_place-inner.result _ (tree_at trees c.branches.at) b c.branches.found.items c.add_pair.new.found.items _ c.in-Some.ensures.trees c.body_place-inner.ensures (omega (arith, c.size_below.ensures)) (omega arith) c.in_ok-add_pair.ensures c.branches.invariant.pairs;
    }

pub returns-clause-pairs : goal.returns-clause-pairs
returns-clause-pairs c = pairs_end c.args.bound c.branches.number c.branches.next (tree_at c.args.pool.now.trees c.branches.at) _ _ c.in_default.ensures.trees c.branches.invariant.pairs
