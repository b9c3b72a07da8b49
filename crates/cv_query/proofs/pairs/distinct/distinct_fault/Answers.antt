use Rattle.std.proofs.Common.{sym, ◌∙◌}
use Rattle.cv_scene_view.specs.Kept.{scene_of}
use Rattle.cv_query_certificates.specs.Secrets.{first_definition}
use Rattle.cv_query.proofs.pairs.Distinguishing.{named_before, named_once}
use Rattle.cv_query.proofs.pairs.distinct.distinct_fault.Goals as goal

pub returns-then-is_named : goal.returns-then-is_named
returns-then-is_named c =
    let s = scene_of c.args.work.now.pool c.args.work.now.decls c.args.game in
    named_before s c.args.before.now c.args.x (first_definition s.game c.args.x) c.in-Some.site
    (sym c.first_definition.ensures ∙ c.in-Some.is) c.first_other_site.result c.first_other_site.ensures
    c.in_default-first_other_site.is c.is_named.result c.is_named.ensures c.if-is_named.true

pub returns-else-is_named : goal.returns-else-is_named
returns-else-is_named c =
    let s = scene_of c.args.work.now.pool c.args.work.now.decls c.args.game in
    named_once s c.args.before.now c.args.x (first_definition s.game c.args.x) c.in-Some.site
    (sym c.first_definition.ensures ∙ c.in-Some.is) c.first_other_site.result c.first_other_site.ensures
    c.in_default-first_other_site.is c.is_named.result c.is_named.ensures c.if-is_named.false
