use Rattle.std.proofs.Common.{List, ◌++◌, arith, map}
use Rattle.cv_syntax.specs.PoolTrees.{tree_at}
use Rattle.cv_inline.specs.Draws.{Draw, index_draws}
use Rattle.cv_inline.specs.terms.Callers.{caller_in}
use Rattle.cv_inline_sites.specs.listing.Listed.{draw_in}
use Rattle.cv_inline_sites.proofs.listing.FirstBranches.{branch_more, branches_end, fewer_behind}
use Rattle.cv_inline_sites.proofs.listing.indices.add_branch_indices.Goals as goal

pub overflow_add-branch : goal.overflow_add-branch
overflow_add-branch c =
    let trees = c.args.pool.now.trees in
    omega (arith, c.requires.fits, c.branches.invariant.few, fewer_behind trees (tree_at trees c.branches.at) c.calls_at.result c.in-Some.calls c.calls_at.ensures.calls c.in-Some.is)

pub branches-preserved : goal.branches-preserved
branches-preserved c =
    let trees = c.args.pool.now.trees in
    let s = caller_in trees c.args.other.now in
    let all : List Draw = map draw_in c.args.draws.now.items ++ index_draws c.args.site c.args.place s 0 (tree_at trees c.args.branches) in
    record {
      live = c.in-Some.ensures.live;
      few = omega (arith, c.branches.invariant.few, fewer_behind trees (tree_at trees c.branches.at) c.calls_at.result c.in-Some.calls c.calls_at.ensures.calls c.in-Some.is);
      draws = branch_more c.args.site c.args.place s (map draw_in c.branches.draws.items) (map draw_in c.add_calls.new.draws.items) all trees (tree_at trees c.branches.at) c.branches.branch c.calls_at.result c.in-Some.calls c.calls_at.ensures.calls c.in-Some.is c.in_ok-add_calls.ensures c.branches.invariant.draws;
    }

pub returns : goal.returns
returns c =
    let trees = c.args.pool.now.trees in
    let s = caller_in trees c.args.other.now in
    let all : List Draw = map draw_in c.args.draws.now.items ++ index_draws c.args.site c.args.place s 0 (tree_at trees c.args.branches) in
    branches_end c.args.site c.args.place s (map draw_in c.branches.draws.items) all trees (tree_at trees c.branches.at) c.branches.branch c.calls_at.result c.calls_at.ensures.calls c.in_default.is c.branches.invariant.draws
