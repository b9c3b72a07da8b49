use Rattle.std.proofs.Common.{Some, ap, ap₂, ◌&&◌, ◌∙◌, not}
use Rattle.std.specs.Prelude.{is_some}
use Rattle.cv_syntax.specs.Declarations.{declarations}
use Rattle.cv_syntax.specs.PoolTrees.{tree_at}
use Rattle.cv_scope_rules.specs.typing.Signature.{Above}
use Rattle.cv_scope_rules.specs.typing.Signature as signature
use Rattle.cv_scope_rules.specs.typing.Typing.{first_fault}
use Rattle.cv_scope_rules.specs.typing.Wants.{AnyTerm}
use Rattle.cv_scope_rules.specs.Phrases.{Term, is_phrase}
use Rattle.cv_scene.specs.Terms.{Names, above_at, is_there, names_at, signature_in}
use Rattle.cv_scene_view.specs.Kept.{scene_of}
use Rattle.cv_scene_view.proofs.Tests.{not_first, not_second, ok_same, then_third, there_at}
use Rattle.cv_scene_view.proofs.terms.is_term_at.Goals as goal

pub returns-then-not-is_phrase : goal.returns-then-not-is_phrase
returns-then-not-is_phrase c =
    let trees = c.args.work.now.pool.trees in
    let ds = declarations trees c.args.work.now.decls.list in
    let s = scene_of c.args.work.now.pool c.args.work.now.decls c.args.game in
    let m = tree_at trees (Some c.args.term) in
    not_first (is_phrase Term m) (is_there (names_at s c.args.place) Term m && not (is_some (first_fault (signature_in s) (above_at s c.args.place) AnyTerm 0 m))) c.is_phrase.result c.is_phrase.ensures c.if-not-is_phrase.true

pub returns-then-not-is_there : goal.returns-then-not-is_there
returns-then-not-is_there c =
    let trees = c.args.work.now.pool.trees in
    let ds = declarations trees c.args.work.now.decls.list in
    let s = scene_of c.args.work.now.pool c.args.work.now.decls c.args.game in
    let m = tree_at trees (Some c.args.term) in
    let known = there_at ds c.args.arrays.now c.in_ok-above.above (tree_at trees (Some c.args.game)) c.requires.arrays c.args.place c.in_ok-above.ensures in
    let there = c.is_there.ensures ∙ ap (λ (n : Names). is_there n Term m) known in
    not_second (is_phrase Term m) (is_there (names_at s c.args.place) Term m) (not (is_some (first_fault (signature_in s) (above_at s c.args.place) AnyTerm 0 m))) c.is_phrase.result c.is_there.result c.is_phrase.ensures c.if-not-is_phrase.false there c.if-not-is_there.true

pub returns : goal.returns
returns c =
    let trees = c.args.work.now.pool.trees in
    let ds = declarations trees c.args.work.now.decls.list in
    let s = scene_of c.args.work.now.pool c.args.work.now.decls c.args.game in
    let m = tree_at trees (Some c.args.term) in
    let known = there_at ds c.args.arrays.now c.in_ok-above.above (tree_at trees (Some c.args.game)) c.requires.arrays c.args.place c.in_ok-above.ensures in
    let there = c.is_there.ensures ∙ ap (λ (n : Names). is_there n Term m) known in
    let typed = ap₂ (λ (A : signature.Arrays) (f : Above). not (is_some (first_fault (record { declarations = ds; arrays = A }) f AnyTerm 0 m))) c.requires.arrays c.in_ok-above.ensures in
    ok_same c.is_typed_term.result _ _ (typed ∙ then_third (is_phrase Term m) (is_there (names_at s c.args.place) Term m) (not (is_some (first_fault (signature_in s) (above_at s c.args.place) AnyTerm 0 m))) c.is_phrase.result c.is_there.result c.is_phrase.ensures c.if-not-is_phrase.false there c.if-not-is_there.false) c.is_typed_term.ensures
