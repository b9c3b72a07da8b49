use Rattle.std.proofs.Common.{◌+◌, Some, ap, ap₂, arith, sym, ◌∙◌}
use Rattle.cv_scene_view.specs.Kept.{scene_of}
use Rattle.cv_rule_pick.specs.Looks.{arm_of}
use Rattle.cv_syntax.specs.NameSets.{is_in}
use Rattle.cv_scope_rules.specs.Made.{is_own_at}
use Rattle.cv_edit_places.specs.Plans.{failing}
use Rattle.cv_rule_pick.proofs.Planned.{arm_fits, named_in_query, named_is, others_are}
use Rattle.cv_rule_pick.proofs.planning.misnamed.Goals as goal

pub returns-then-is_one_queried : goal.returns-then-is_one_queried
returns-then-is_one_queried c = λ rest.
    let trees = c.args.work.now.pool.trees in
    let s = scene_of c.args.work.now.pool c.args.work.now.decls c.args.game in
    let own = c.in_ok-names.ensures ∙ ap is_own_at (sym c.read_node.ensures.tree ∙ c.requires.there) in
    named_in_query s c.args.place (arm_of trees c.args.branch) (is_in c.in_ok-names.names) own c.is_one_queried.result c.is_one_queried.ensures c.if-is_one_queried.true rest ∙ ap Some (sym c.failed.ensures)

pub overflow_add-own : goal.overflow_add-own
overflow_add-own c =
    let trees = c.args.work.now.pool.trees in
    let s = scene_of c.args.work.now.pool c.args.work.now.decls c.args.game in
    omega (arith, arm_fits trees s c.args.place c.args.branch c.args.given c.requires.given c.requires.small)

pub body_place-requires-clause-fits : goal.body_place-requires-clause-fits
body_place-requires-clause-fits c =
    let trees = c.args.work.now.pool.trees in
    let s = scene_of c.args.work.now.pool c.args.work.now.decls c.args.game in
    omega (arith, arm_fits trees s c.args.place c.args.branch c.args.given c.requires.given c.requires.small)

pub size_below-requires-clause-fits : goal.size_below-requires-clause-fits
size_below-requires-clause-fits c =
    let trees = c.args.work.now.pool.trees in
    let s = scene_of c.args.work.now.pool c.args.work.now.decls c.args.game in
    omega (arith, arm_fits trees s c.args.place c.args.branch c.args.given c.requires.given c.requires.small)

pub overflow_add-own-2 : goal.overflow_add-own-2
overflow_add-own-2 c =
    let trees = c.args.work.now.pool.trees in
    let s = scene_of c.args.work.now.pool c.args.work.now.decls c.args.game in
    omega (arith, c.body_place.ensures, c.size_below.ensures, arm_fits trees s c.args.place c.args.branch c.args.given c.requires.given c.requires.small)

pub returns-in-Some : goal.returns-in-Some
returns-in-Some c = λ rest.
    let trees = c.args.work.now.pool.trees in
    let s = scene_of c.args.work.now.pool c.args.work.now.decls c.args.game in
    let a = arm_of trees c.args.branch in
    let own = c.in_ok-names.ensures ∙ ap is_own_at (sym c.read_node.ensures.tree ∙ c.requires.there) in
    let other = sym (others_are s c.args.place a (is_in c.in_ok-names.names) own c.args.given.replications.now (c.body_place.result + c.size_below.result) c.requires.given.replications (ap₂ ◌+◌ c.body_place.ensures c.size_below.ensures)) ∙ (sym c.first_other.ensures ∙ c.in-Some.is) in
    ap failing (named_is s c.args.place a (is_in c.in_ok-names.names) own c.is_one_queried.result c.is_one_queried.ensures c.if-is_one_queried.false (Some c.in-Some.other) other rest) ∙ ap Some (sym c.failed-in-Some.ensures)

pub returns : goal.returns
returns c = λ rest.
    let trees = c.args.work.now.pool.trees in
    let s = scene_of c.args.work.now.pool c.args.work.now.decls c.args.game in
    let a = arm_of trees c.args.branch in
    let own = c.in_ok-names.ensures ∙ ap is_own_at (sym c.read_node.ensures.tree ∙ c.requires.there) in
    let other = sym (others_are s c.args.place a (is_in c.in_ok-names.names) own c.args.given.replications.now (c.body_place.result + c.size_below.result) c.requires.given.replications (ap₂ ◌+◌ c.body_place.ensures c.size_below.ensures)) ∙ (sym c.first_other.ensures ∙ c.in-None.is) in
    named_is s c.args.place a (is_in c.in_ok-names.names) own c.is_one_queried.result c.is_one_queried.ensures c.if-is_one_queried.false _ other rest
