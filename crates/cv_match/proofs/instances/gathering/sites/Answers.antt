use Rattle.std.proofs.Common.{◌++◌, [], Some, ap₂, false, map, ◌∙◌}
use Rattle.cv_syntax.specs.PoolTrees.{tree_at}
use Rattle.cv_scope_rules.specs.declared.position.Position.TheVariants.{Anywhere}
use Rattle.cv_match.specs.instances.Matchings.{matching_by}
use Rattle.cv_match_terms.specs.patterns.Sites.{site_in}
use Rattle.cv_match.specs.instances.Walks.{sites_unless}
use Rattle.cv_match.proofs.instances.Walked.{sites_whole}
use Rattle.cv_match.proofs.instances.gathering.sites.Goals as goal

pub returns-clause-sites : goal.returns-clause-sites
returns-clause-sites c =
    let trees = c.args.work.now.pool.trees in
    let M = matching_by c.args.work.now.pool c.args.work.now.decls c.args.search.now in
    let game = tree_at trees (Some c.args.search.now.game) in
    c.in_ok-gather.ensures.sites
    ∙ (ap₂ (λ xs rs. map (site_in trees M) xs ++ sites_unless false M Anywhere rs 0 game) c.new-sites.ensures.items c.new-passed.ensures.items ∙ sites_whole M Anywhere [] 0 game)
