use Rattle.std.proofs.Common.{◌≡◌, arith}
use Rattle.cv_syntax_trees.specs.Tree.{Empty}
use Rattle.cv_syntax.specs.PoolTrees.{tree_at}
use Rattle.cv_inline_draws.proofs.sites.FindLists.{finds_end, finds_more}
use Rattle.cv_inline_draws.proofs.sites.Gathering.{none_of}
use Rattle.cv_inline_draws.proofs.sites.finds.+add_finds.Goals as goal

pub part-preserved : goal.part-preserved
part-preserved t c =
    let trees = c.args.pool.now.trees in
    let n = c.in-Some.ensures.node in
    record {
      within = n.second.within;
      less = let l = c.part.invariant.less in let b = n.second.below in omega arith;
      finds = finds_more c.args.site trees c.part.at c.in-Some.node c.part.finds.items c.add_find.new.finds.items c.add_finds.new.finds.items _ n c.in_ok-add_find.ensures c.in_ok-add_finds.ensures c.part.invariant.finds;
    }

pub returns : goal.returns
returns t c =
    let trees = c.args.pool.now.trees in
    finds_end c.args.site trees c.part.at c.part.finds.items _ (none_of c.node_at.result (tree_at trees c.part.at.root ≡ Empty) c.in_default.is c.node_at.ensures.none) c.part.invariant.finds
