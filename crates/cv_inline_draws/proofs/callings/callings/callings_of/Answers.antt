use Rattle.std.proofs.Common.{◌≡◌, ◌++◌, Some, ap, arith, map, ◌∙◌}
use Rattle.cv_syntax_trees.specs.Tree.{second, size}
use Rattle.cv_syntax.specs.PoolTrees.{tree_at}
use Rattle.cv_meaning.specs.contexts.Groups.{Right, functions_of, side_group}
use Rattle.cv_inline_sites.specs.listing.Callings.{callings_in}
use Rattle.cv_inline_draws.specs.callings.RightFunctions.{function_in}
use Rattle.cv_inline_draws.proofs.callings.SiteLists.{listed_keys, second_small, site_is, sites_end, sites_more}
use Rattle.cv_inline_draws.proofs.callings.callings.callings_of.Goals as goal

pub functions_in-requires-clause-fits : goal.functions_in-requires-clause-fits
functions_in-requires-clause-fits c =
    let trees = c.args.pool.now.trees in
    let e = ap size c.second_of.ensures.tree in
    let f = ap size c.second_of-side.ensures.tree in
    omega (arith, e, f, second_small (tree_at trees c.second_of-side.result), second_small (tree_at trees (Some c.args.equivalence)), c.requires.functions_fit)

pub sites-preserved : goal.sites-preserved
sites-preserved c =
    let trees = c.args.pool.now.trees in
    let g = side_group Right (tree_at trees (Some c.args.equivalence)) in
    let context = tree_at trees (Some c.args.context) in
    let functions : map (function_in trees) c.as_slice.result.now ≡ g.functions = ap (map (function_in trees)) c.as_slice.ensures.value ∙ (c.in_ok-right.ensures.functions ∙ ap functions_of (c.second_of.ensures.tree ∙ ap second c.second_of-side.ensures.tree)) in
    record {
      number = let n = c.sites.invariant.number in omega arith;
      callings =
          sites_more g context (callings_in trees c.sites.callings.items) (callings_in trees c.add_site.new.callings.items) c.args.functions.now c.sites.position-index c.sites.number 0 _ c.sites-test.true
          (c.in_ok-add_site.ensures.callings ∙ ap (λ xs. callings_in trees c.sites.callings.items ++ xs) (site_is trees c.as_slice.result.now c.in_ok-calls.calls c.sites.number _ g context functions c.in_ok-calls.ensures.calls))
          c.sites.invariant.callings;
      live = c.in_ok-add_site.ensures.live;
    }

pub returns-clause-callings : goal.returns-clause-callings
returns-clause-callings c =
    let trees = c.args.pool.now.trees in
    sites_end (side_group Right (tree_at trees (Some c.args.equivalence))) (tree_at trees (Some c.args.context)) (callings_in trees c.sites.callings.items) c.args.functions.now c.sites.position-index c.sites.number _ c.sites-test.false c.sites.invariant.callings

pub returns-clause-keys : goal.returns-clause-keys
returns-clause-keys c =
    let trees = c.args.pool.now.trees in
    let g = side_group Right (tree_at trees (Some c.args.equivalence)) in
    let context = tree_at trees (Some c.args.context) in
    listed_keys g context trees c.sites.callings.items c.args.functions.now (sites_end g context (callings_in trees c.sites.callings.items) c.args.functions.now c.sites.position-index c.sites.number _ c.sites-test.false c.sites.invariant.callings)
