use Rattle.std.proofs.Common.{◌≡◌, drop, map}
use Rattle.cv_scene.specs.Refusals.{first_coin_use}
use Rattle.cv_match.specs.instances.Matchings.{matching_by}
use Rattle.cv_match_terms.specs.patterns.Sites.{site_in}
use Rattle.cv_match.proofs.coins.coin_use.Given as goal

abbrev pub invariant-loop-site : goal.invariant-loop-site
invariant-loop-site l =
    let M = matching_by l.work.pool l.work.decls l.search in
    first_coin_use M (map (site_in l.work.pool.trees M) (drop l.site-index l.sites)) ≡ first_coin_use M (map (site_in l.work.pool.trees M) l.sites)
