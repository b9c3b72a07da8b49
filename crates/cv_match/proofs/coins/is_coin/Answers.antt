use Rattle.std.proofs.Common.{sym, ◌∙◌}
use Rattle.cv_syntax.specs.PoolTrees.{tree_at}
use Rattle.cv_scene.specs.Sights.{variable_of}
use Rattle.cv_match.specs.instances.Matchings.{matching_by}
use Rattle.cv_match_terms.specs.patterns.Sites.{site_in}
use Rattle.cv_match.proofs.Serving.{coin_elsewhere, coin_none, coin_own}
use Rattle.cv_match.proofs.coins.is_coin.Goals as goal

pub returns-in_default : goal.returns-in_default
returns-in_default c =
    let trees = c.args.work.now.pool.trees in
    let M = matching_by c.args.work.now.pool c.args.work.now.decls c.args.search.now in
    coin_none M (site_in trees M c.args.site.now) c.args.coin (tree_at trees c.args.term) (variable_of (tree_at trees c.args.term)) (sym c.variable_of.ensures ∙ c.in_default.is)

pub returns-then-not-is_drawn_below : goal.returns-then-not-is_drawn_below
returns-then-not-is_drawn_below c =
    let trees = c.args.work.now.pool.trees in
    let M = matching_by c.args.work.now.pool c.args.work.now.decls c.args.search.now in
    coin_elsewhere M (site_in trees M c.args.site.now) c.args.coin (tree_at trees c.args.term) (variable_of (tree_at trees c.args.term)) c.in-Some.x (sym c.variable_of.ensures ∙ c.in-Some.is) _ c.as_slice.ensures.value c.is_drawn_below.result c.is_drawn_below.ensures c.if-not-is_drawn_below.true

pub returns : goal.returns
returns c =
    let trees = c.args.work.now.pool.trees in
    let M = matching_by c.args.work.now.pool c.args.work.now.decls c.args.search.now in
    coin_own M (site_in trees M c.args.site.now) c.args.coin (tree_at trees c.args.term) (variable_of (tree_at trees c.args.term)) c.in-Some.x (sym c.variable_of.ensures ∙ c.in-Some.is) _ c.as_slice.ensures.value c.is_drawn_below.result c.is_drawn_below.ensures c.if-not-is_drawn_below.false c.is_own_use.result c.is_own_use.ensures
