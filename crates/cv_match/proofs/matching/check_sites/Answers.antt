use Rattle.std.proofs.Common.{map}
use Rattle.cv_match.specs.instances.Matchings.{matching_by}
use Rattle.cv_match_terms.specs.patterns.Sites.{site_in}
use Rattle.cv_match.proofs.Refusing.{all_serve, argument_used, coin_used}
use Rattle.cv_match.proofs.matching.check_sites.Goals as goal

pub returns-in-Some-clause-fault : goal.returns-in-Some-clause-fault
returns-in-Some-clause-fault c =
    let M = matching_by c.args.work.now.pool c.args.work.now.decls c.args.search.now in
    coin_used M (map (site_in c.args.work.now.pool.trees M) c.args.sites.now) c.coin_use.result c.coin_use.ensures c.in-Some.place c.in-Some.is

pub returns-in-Some-argument_use-clause-fault : goal.returns-in-Some-argument_use-clause-fault
returns-in-Some-argument_use-clause-fault c =
    let M = matching_by c.args.work.now.pool c.args.work.now.decls c.args.search.now in
    argument_used M (map (site_in c.args.work.now.pool.trees M) c.args.sites.now) c.coin_use.result c.coin_use.ensures c.argument_use.result c.argument_use.ensures c.in_default.is c.in-Some-argument_use.place c.in-Some-argument_use.is

pub returns-clause-none : goal.returns-clause-none
returns-clause-none c =
    let M = matching_by c.args.work.now.pool c.args.work.now.decls c.args.search.now in
    all_serve M (map (site_in c.args.work.now.pool.trees M) c.args.sites.now) c.coin_use.result c.coin_use.ensures c.argument_use.result c.argument_use.ensures c.in_default.is c.in_default-argument_use.is
