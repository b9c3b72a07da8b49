use Rattle.std.proofs.Common.{◌≡◌, List, ℕ, true, Some, refl, subst, sym, ◌∙◌}
use Rattle.std.specs.Prelude.{IfNone, IfSome}
use Rattle.cv_syntax.specs.PoolTrees.{tree_at}
use Rattle.cv_scene_view.specs.Kept.{scene_of}
use Rattle.cv_steps.specs.Judgements.{judgement_of}
use Rattle.cv_rule_birthday.specs.guess.Needs.{made_without_guesses, need_guessing}
use Rattle.cv_rule_birthday.specs.guess.Row.{guess_step}
use Rattle.cv_kernel.specs.Answers.{IsPlan, IsUnplanned}
use Rattle.cv_kernel.specs.Places.{has_long, listed_numbers}
use Rattle.cv_kernel.proofs.Planned.{no_such_places, stands_not}
use Rattle.cv_kernel.proofs.rooms.guess_plan.Goals as goal

pub returns-in_default : goal.returns-in_default
returns-in_default c =
    let pool = c.args.work.now.pool in
    let s = scene_of pool c.args.work.now.decls c.args.game in
    let ps = listed_numbers (tree_at pool.trees c.args.list) in
    let x = guess_step c.args.x ps in
    let long = subst (λ o. IfNone o (has_long ps ≡ true)) c.in_default.is c.in_ok-places.ensures.none in
    subst (IsUnplanned (judgement_of s x)) (sym c.refused.ensures) (stands_not pool.trees s x (x.stands s) refl (no_such_places s c.requires.small _ _ ps long))

pub returns : goal.returns
returns c =
    let pool = c.args.work.now.pool in
    let s = scene_of pool c.args.work.now.decls c.args.game in
    let x = c.args.x in
    let ps = listed_numbers (tree_at pool.trees c.args.list) in
    let listed = subst (λ o. IfSome o (λ places. places.items ≡ ps)) c.in-Some.is c.in_ok-places.ensures.some in
    subst (λ (qs : List ℕ). IsPlan pool.trees s (Some (record { step = guess_step x qs; need = need_guessing x qs })) c.priced_at.result) (c.deref.ensures.value ∙ listed)
    (let qs = c.deref.result.now in c.priced_at.ensures pool.trees s (record { step = guess_step x qs; need = need_guessing x qs }) (made_without_guesses x qs s.game) c.in_ok-plan.ensures refl)
