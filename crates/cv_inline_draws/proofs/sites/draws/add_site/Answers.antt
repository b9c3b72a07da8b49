use Rattle.std.proofs.Common.{◌≡◌, ◌++◌, Some, ap, arith, map}
use Rattle.std.proofs.lemmas.Result.{IfOk-weaker}
use Rattle.cv_syntax_trees.specs.Tree.{size}
use Rattle.cv_syntax.specs.PoolTrees.{tree_at}
use Rattle.cv_inline.specs.Draws.{body_draws, site_draws}
use Rattle.cv_inline_sites.specs.listing.Callings.{callers_in, calling_in}
use Rattle.cv_inline_sites.specs.listing.Listed.{draw_in}
use Rattle.cv_inline_draws.proofs.sites.Gathering.{second_small, whole_site}
use Rattle.cv_inline_draws.proofs.sites.draws.add_site.Goals as goal

pub add_body-requires-clause-body : goal.add_body-requires-clause-body
add_body-requires-clause-body c =
    let e = ap size c.second_of.ensures.tree in
    record {
      live = c.second_of.ensures.live;
      fits = omega (arith, e, second_small (tree_at c.args.pool.now.trees (Some c.args.calling.now.function)), c.requires.calling.nodes);
    }

pub returns : goal.returns
returns c =
    let trees = c.args.pool.now.trees in
    let ss = callers_in trees c.args.callings.now in
    let k = c.args.calling.now.caller.number in
    let f = tree_at trees (Some c.args.calling.now.function) in
    let before = map draw_in c.args.draws.now.items in
    IfOk-weaker c.add_body.result (λ _. map draw_in c.add_body.new.draws.items ≡ map draw_in c.add_arguments.new.draws.items ++ body_draws ss k 0 (tree_at trees c.second_of.result)) (λ _. map draw_in c.add_body.new.draws.items ≡ before ++ site_draws ss (calling_in trees c.args.calling.now))
    (λ _ n. whole_site ss k f (tree_at trees c.first_of.result) (tree_at trees c.second_of-arguments.result) (tree_at trees c.second_of.result) before (map draw_in c.add_arguments.new.draws.items) (map draw_in c.add_body.new.draws.items) c.first_of.ensures.tree c.second_of-arguments.ensures.tree c.second_of.ensures.tree c.in_ok-add_arguments.ensures n)
    c.add_body.ensures
