use Rattle.std.proofs.Common.{None, not, refl, ap}
use Rattle.cv_scene_view.specs.Kept.{scene_of}
use Rattle.cv_scene.specs.Scenes.{is_new, is_queried}
use Rattle.cv_scene.specs.Terms.{has_site}
use Rattle.cv_steps.specs.Renaming.{renamed}
use Rattle.cv_steps.specs.Rows.{unless}
use Rattle.cv_steps.specs.Steps.{Leads, Zero}
use Rattle.cv_rule.proofs.Rowed.{both_hold, denied, fails_here, first_fails, goes_on, second_fails}
use Rattle.cv_rule.proofs.rules.rename_conditions.Goals as goal

pub returns-then-not-has_site : goal.returns-then-not-has_site
returns-then-not-has_site c =
    let s = scene_of c.args.work.now.pool c.args.work.now.decls c.args.game in
    let x = c.args.x in
    let y = c.args.y in
    let is = c.has_site.ensures s.game c.requires.prepared.arrays in
    first_fails (has_site s.game x) (is_new s y) (unless (not (is_queried s x)) 3 0 (Leads (renamed x y s.game) Zero)) c.has_site.result is c.if-not-has_site.true

pub returns-then-not-is_new : goal.returns-then-not-is_new
returns-then-not-is_new c =
    let s = scene_of c.args.work.now.pool c.args.work.now.decls c.args.game in
    let x = c.args.x in
    let y = c.args.y in
    let is = c.has_site.ensures s.game c.requires.prepared.arrays in
    second_fails (has_site s.game x) (is_new s y) (unless (not (is_queried s x)) 3 0 (Leads (renamed x y s.game) Zero)) c.has_site.result is c.if-not-has_site.false c.is_new.result c.is_new.ensures c.if-not-is_new.true

pub returns-then-is_queried : goal.returns-then-is_queried
returns-then-is_queried c =
    let s = scene_of c.args.work.now.pool c.args.work.now.decls c.args.game in
    let x = c.args.x in
    let y = c.args.y in
    let is = c.has_site.ensures s.game c.requires.prepared.arrays in
    let next = Leads (renamed x y s.game) Zero in
    both_hold (has_site s.game x) (is_new s y) (unless (not (is_queried s x)) 3 0 next) c.has_site.result is c.if-not-has_site.false c.is_new.result c.is_new.ensures c.if-not-is_new.false _ (fails_here (not (is_queried s x)) next 3 0 (not c.is_queried.result) (denied _ _ c.is_queried.ensures) (ap not c.if-is_queried.true))

pub returns : goal.returns
returns c =
    let s = scene_of c.args.work.now.pool c.args.work.now.decls c.args.game in
    let x = c.args.x in
    let y = c.args.y in
    let is = c.has_site.ensures s.game c.requires.prepared.arrays in
    let next = Leads (renamed x y s.game) Zero in
    both_hold (has_site s.game x) (is_new s y) (unless (not (is_queried s x)) 3 0 next) c.has_site.result is c.if-not-has_site.false c.is_new.result c.is_new.ensures c.if-not-is_new.false None (goes_on (not (is_queried s x)) next 3 0 (not c.is_queried.result) None (denied _ _ c.is_queried.ensures) (ap not c.if-is_queried.false) refl)
