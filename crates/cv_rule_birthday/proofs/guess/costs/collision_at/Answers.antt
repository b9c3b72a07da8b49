use Rattle.std.proofs.Common.{false, ap, ◌∙◌, Some}
use Rattle.std.proofs.lemmas.Result.{IfOk-weaker}
use Rattle.cv_syntax.specs.Declarations.{declarations}
use Rattle.cv_syntax.specs.PoolTrees.{tree_at}
use Rattle.cv_scope_runs.proofs.Plain.{game_context}
use Rattle.cv_costs.specs.Collisions.{collision_of}
use Rattle.cv_rule_birthday.specs.guess.Row.{or_none}
use Rattle.cv_rule_birthday.proofs.guess.costs.collision_at.Goals as goal

pub returns-in-Some : goal.returns-in-Some
returns-in-Some c =
    let w = c.args.work.now in
    let ds = declarations w.pool.trees w.decls.list in
    let game = tree_at w.pool.trees (Some c.args.game) in
    let counted = c.places_have_few_factors.ensures.counted ds game c.args.place (game_context ds game c.requires.formed) in
    let parameters = c.as_slice-parameters.ensures.value ∙ ap or_none (c.in-Some.ensures ∙ counted) in
    IfOk-weaker c.collision_of.result _ _ (λ made e. e ∙ ap (λ ps. collision_of ds ps false c.args.of_type) parameters) (c.collision_of.ensures w.pool.trees)

pub returns-in-None : goal.returns-in-None
returns-in-None c =
    let w = c.args.work.now in
    let ds = declarations w.pool.trees w.decls.list in
    let game = tree_at w.pool.trees (Some c.args.game) in
    let counted = c.places_have_few_factors.ensures.counted ds game c.args.place (game_context ds game c.requires.formed) in
    let parameters = ap or_none (c.in-None.ensures ∙ counted) in
    IfOk-weaker c.collision_of-in-None.result _ _ (λ made e. e ∙ ap (λ ps. collision_of ds ps false c.args.of_type) parameters) (c.collision_of-in-None.ensures w.pool.trees)
