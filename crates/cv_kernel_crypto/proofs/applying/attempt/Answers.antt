use Rattle.std.proofs.Common.{◌≡◌, arith, ap, length, subst, ◌∙◌}
use Rattle.std.specs.Prelude.{IfOk}
use Rattle.cv_bound.specs.declared.cost.Cost.{Cost}
use Rattle.cv_syntax.specs.Classes.{DeclsView}
use Rattle.cv_syntax.specs.Declarations.{declarations}
use Rattle.cv_scene_view.specs.Kept.{scene_of}
use Rattle.cv_kernel_crypto.specs.Applied.{DrawsNext}
use Rattle.cv_kernel_crypto.proofs.Answers.{answer_through, tested_answer, tested_few, tested_game, tested_small}
use Rattle.cv_kernel_crypto.proofs.Growing.{declarations_grown}
use Rattle.cv_kernel_crypto.proofs.applying.attempt.Goals as goal

pub returns-in_err-root-clause-answer : goal.returns-in_err-root-clause-answer
returns-in_err-root-clause-answer c =
    let w = c.args.work.now in
    answer_through w.pool.limit (length w.pool.trees) (scene_of w.pool w.decls c.args.game) c.args.equivalence c.args.key c.args.step c.build.new.work.pool.trees _ _ c.from_residual-in_err-root.ensures.1 (c.in_err-root.ensures.built c.args.equivalence c.requires.met)

pub tested-requires-clause-fits : goal.tested-requires-clause-fits
tested-requires-clause-fits c = let b = c.in_ok-root.ensures.built c.args.equivalence c.requires.met in omega (arith, b.drawn.small)

pub returns-clause-answer : goal.returns-clause-answer
returns-clause-answer c =
    let w = c.args.work.now in
    let v = c.build.new.work in
    let met = c.requires.met in
    let same = ap (λ (d : DeclsView). declarations v.pool.trees d.list) c.in_ok-root.ensures.decls ∙ declarations_grown w.pool v.pool w.decls.list c.in_ok-root.ensures.grows c.requires.declared in
    tested_answer w.pool.limit (length w.pool.trees) (scene_of w.pool w.decls c.args.game) c.args.equivalence c.args.key c.args.step v.pool.trees c.in_ok-root.root met.met (c.in_ok-root.ensures.built c.args.equivalence met) (declarations v.pool.trees v.decls.list) same
    c.tested.result c.tested.ensures.root (subst (λ (k : Cost). IfOk c.tested.result (λ next. next.cost ≡ k)) c.advantage.ensures c.tested.ensures.cost) c.tested.ensures.game c.tested.ensures.fault

pub returns-clause-drawn : goal.returns-clause-drawn
returns-clause-drawn c =
    let w = c.args.work.now in
    let s = scene_of w.pool w.decls c.args.game in
    tested_game (DrawsNext w.names c.build.new.work.names w.decls.own s c.args.equivalence c.args.key) c.build.new.work.pool.trees c.in_ok-root.root c.tested.result c.tested.ensures.root (c.in_ok-root.ensures.drawn c.args.equivalence c.requires.met)

pub returns-clause-small : goal.returns-clause-small
returns-clause-small c =
    let w = c.args.work.now in
    let met = c.requires.met in
    tested_small w.pool.limit (length w.pool.trees) (scene_of w.pool w.decls c.args.game) c.args.equivalence c.args.key c.args.step c.build.new.work.pool.trees c.in_ok-root.root met.met (c.in_ok-root.ensures.built c.args.equivalence met) c.tested.result c.tested.ensures.root

pub returns-clause-few : goal.returns-clause-few
returns-clause-few c =
    let w = c.args.work.now in
    let met = c.requires.met in
    tested_few w.pool.limit (length w.pool.trees) (scene_of w.pool w.decls c.args.game) c.args.equivalence c.args.key c.args.step c.build.new.work.pool.trees c.in_ok-root.root met.met (c.in_ok-root.ensures.built c.args.equivalence met) c.tested.result c.tested.ensures.root
