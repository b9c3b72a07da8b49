use Rattle.std.proofs.Common.{Some, ap, arith, sym, ◌∙◌}
use Rattle.cv_syntax.specs.PoolTrees.{tree_at}
use Rattle.cv_scene.specs.Derivations.{first_bad_line}
use Rattle.cv_scene.specs.Sights.{sight_at}
use Rattle.cv_scene_view.specs.Kept.{scene_of}
use Rattle.cv_rule_pick.specs.Looks.{arm_of}
use Rattle.cv_derive_lines.specs.Views.{statement_of}
use Rattle.cv_edit_places.specs.Plans.{failing}
use Rattle.cv_rule_pick.specs.Picking.{equations, guards_with, own_cells}
use Rattle.cv_rule_pick.specs.Wanted.{wanted_of}
use Rattle.cv_rule_pick.proofs.Planned.{arm_fits, derived_is, ends_so, equations_are, guards_are}
use Rattle.cv_rule_pick.proofs.planning.underived.Goals as goal

pub body_place-body-requires-clause-fits : goal.body_place-body-requires-clause-fits
body_place-body-requires-clause-fits c =
    let trees = c.args.work.now.pool.trees in
    let s = scene_of c.args.work.now.pool c.args.work.now.decls c.args.game in
    omega (arith, arm_fits trees s c.args.place c.args.branch c.args.given c.requires.given c.requires.small)

pub returns-then-not-end_with-2 : goal.returns-then-not-end_with-2
returns-then-not-end_with-2 c = λ rest.
    let trees = c.args.work.now.pool.trees in
    let s = scene_of c.args.work.now.pool c.args.work.now.decls c.args.game in
    let a = arm_of trees c.args.branch in
    let ms = tree_at trees c.args.given.terms in
    let d = tree_at trees c.args.by.at_body in
    let e = tree_at trees c.args.by.at_find in
    ap failing (derived_is s c.args.place ms d e a
    (ap (λ q. first_bad_line (sight_at s q) d) (sym c.body_place-body.ensures) ∙ (sym c.in_ok-line.ensures ∙ c.in_default.is))
    (ends_so (statement_of trees) (wanted_of trees c.args.given) _ c.in_ok-said.said.items _ c.in_ok-wanted.wanted.items d (equations (own_cells s c.args.place a) ms) c.end_with.result c.end_with.ensures c.as_slice.ensures.value c.as_slice-2.ensures.value c.in_ok-said.ensures.said (c.in_ok-wanted.ensures.said c.args.given ∙ equations_are trees s c.args.place c.args.branch c.args.given c.requires.given c.requires.small ms) ∙ c.if-not-end_with.false)
    (sym c.in_ok-line-2.ensures ∙ c.in_default-2.is) _
    (ends_so (statement_of trees) (wanted_of trees c.args.given) _ c.in_ok-said-2.said.items _ c.in_ok-wanted-2.wanted.items e (guards_with (own_cells s c.args.place a) ms a) c.end_with-2.result c.end_with-2.ensures c.as_slice-3.ensures.value c.as_slice-4.ensures.value c.in_ok-said-2.ensures.said (c.in_ok-wanted-2.ensures.said c.args.given ∙ guards_are trees s c.args.place c.args.branch c.args.given c.requires.given c.requires.small) ∙ c.if-not-end_with-2.true)
    rest) ∙ ap Some (sym c.failed-then-not-end_with-2.ensures)

pub returns : goal.returns
returns c = λ rest.
    let trees = c.args.work.now.pool.trees in
    let s = scene_of c.args.work.now.pool c.args.work.now.decls c.args.game in
    let a = arm_of trees c.args.branch in
    let ms = tree_at trees c.args.given.terms in
    let d = tree_at trees c.args.by.at_body in
    let e = tree_at trees c.args.by.at_find in
    derived_is s c.args.place ms d e a
    (ap (λ q. first_bad_line (sight_at s q) d) (sym c.body_place-body.ensures) ∙ (sym c.in_ok-line.ensures ∙ c.in_default.is))
    (ends_so (statement_of trees) (wanted_of trees c.args.given) _ c.in_ok-said.said.items _ c.in_ok-wanted.wanted.items d (equations (own_cells s c.args.place a) ms) c.end_with.result c.end_with.ensures c.as_slice.ensures.value c.as_slice-2.ensures.value c.in_ok-said.ensures.said (c.in_ok-wanted.ensures.said c.args.given ∙ equations_are trees s c.args.place c.args.branch c.args.given c.requires.given c.requires.small ms) ∙ c.if-not-end_with.false)
    (sym c.in_ok-line-2.ensures ∙ c.in_default-2.is) _
    (ends_so (statement_of trees) (wanted_of trees c.args.given) _ c.in_ok-said-2.said.items _ c.in_ok-wanted-2.wanted.items e (guards_with (own_cells s c.args.place a) ms a) c.end_with-2.result c.end_with-2.ensures c.as_slice-3.ensures.value c.as_slice-4.ensures.value c.in_ok-said-2.ensures.said (c.in_ok-wanted-2.ensures.said c.args.given ∙ guards_are trees s c.args.place c.args.branch c.args.given c.requires.given c.requires.small) ∙ c.if-not-end_with-2.false)
    rest
