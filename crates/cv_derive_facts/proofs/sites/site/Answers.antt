use Rattle.std.proofs.Common.{sym, ap, ◌∙◌, Some}
use Rattle.cv_syntax.specs.PoolTrees.{tree_at}
use Rattle.cv_derive_facts.specs.Definitions.{only, places_of}
use Rattle.cv_derive_facts.proofs.Sitings.{not_once, only_once, places_sites}
use Rattle.cv_derive_facts.proofs.sites.site.Goals as goal

pub returns-in-Once : goal.returns-in-Once
returns-in-Once c =
    let game = tree_at c.args.work.now.pool.trees (Some c.args.game.root) in
    sym (ap only (places_sites game c.args.x.0) ∙ only_once (places_of c.args.x.0 0 game) c.in-Once.place (sym c.count.ensures.seen ∙ c.in-Once.is))

pub returns-in_default : goal.returns-in_default
returns-in_default c =
    let game = tree_at c.args.work.now.pool.trees (Some c.args.game.root) in
    sym (ap only (places_sites game c.args.x.0) ∙ not_once (places_of c.args.x.0 0 game) (λ p e. c.in_default.not-Once p (c.count.ensures.seen ∙ e)))
