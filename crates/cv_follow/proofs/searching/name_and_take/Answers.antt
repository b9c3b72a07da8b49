use Rattle.std.proofs.Common.{arith, ap, refl, subst, sym, take, true, Some, ◌∙◌}
use Rattle.std.specs.Prelude.{IfSome}
use Rattle.cv_syntax.specs.PoolTrees.{tree_at}
use Rattle.cv_rule_array_names.specs.Drawings.{DrawsBefore}
use Rattle.cv_pool.proofs.Growth.{Grows_refl}
use Rattle.cv_script.specs.Views.{items_of_step}
use Rattle.cv_step_writer.specs.Proposals.{step_tree}
use Rattle.cv_syntax.specs.declared.work.Work.{Work}
use Rattle.cv_follow.specs.Searches.{with_names}
use Rattle.cv_follow.proofs.Coming.{comes_refused}
use Rattle.cv_follow.proofs.ReadySteps.{comes_back, comes_taken, kept_length, may_with, ready_drawn}
use Rattle.cv_follow.proofs.Tries.{kept_by}
use Rattle.cv_follow.proofs.searching.name_and_take.Goals as goal

pub keep-requires : goal.keep-requires
keep-requires c =
    let l = kept_length c.args.work.now.names c.with_drawn.new.names c.with_drawn.ensures.kept in
    let n = c.len-before.ensures.len in
    omega arith

pub returns-in_default-clause-tried : goal.returns-in_default-clause-tried
returns-in_default-clause-tried c =
    let old = c.args.work.now in
    let new : Work = record old { names = c.keep.new.self } in
    let s = c.args.sequence.now in
    let first = ap (λ n. take n c.with_drawn.new.names) c.len-before.ensures.len ∙ c.with_drawn.ensures.kept in
    comes_refused old new c.args.may_move s s (kept_by old new s c.requires.may.empty (Grows_refl old.pool) (c.keep.ensures ∙ first) refl)

pub write_and_take-requires-clause-may : goal.write_and_take-requires-clause-may
write_and_take-requires-clause-may c =
    let old = c.args.work.now in
    let mid : Work = record old { names = c.with_drawn.new.names } in
    may_with old mid c.args.sequence.now refl refl c.requires.may

pub returns-then-is_taken-clause-tried : goal.returns-then-is_taken-clause-tried
returns-then-is_taken-clause-tried c =
    let old = c.args.work.now in
    let mid : Work = record old { names = c.with_drawn.new.names } in
    let new = c.write_and_take.new.work in
    let s = c.args.sequence.now in
    let n = c.len-before.result in
    let first = ap (λ k. take k mid.names) c.len-before.ensures.len ∙ c.with_drawn.ensures.kept in
    let drawn = subst (λ o. IfSome o (λ p. DrawsBefore true old.names mid.names c.own-own.result (tree_at old.pool.trees (Some c.game.result.root)) (items_of_step (step_tree old.pool.trees p)))) c.in-Some.is c.in_ok-step.ensures.ready in
    let ready = ready_drawn n c.own-own.result old mid s c.game.result (items_of_step (step_tree old.pool.trees c.in-Some.step)) first c.own-own.ensures c.game.ensures drawn in
    comes_taken n old mid new c.args.may_move s c.write_and_take.new.sequence c.requires.may.stands.live (kept_by old (with_names n mid) s c.requires.may.empty (Grows_refl old.pool) first refl) c.in_ok-tried.tried (sym c.is_taken.ensures ∙ c.if-is_taken.true) (c.in_ok-tried.ensures.tried n ready)

pub keep-requires-2 : goal.keep-requires-2
keep-requires-2 c =
    let l = kept_length c.args.work.now.names c.with_drawn.new.names c.with_drawn.ensures.kept in
    let n = c.len-before.ensures.len in
    let m = kept_length c.with_drawn.new.names c.write_and_take.new.work.names c.write_and_take.ensures.grown.names in
    omega arith

pub returns-clause-tried : goal.returns-clause-tried
returns-clause-tried c =
    let old = c.args.work.now in
    let mid : Work = record old { names = c.with_drawn.new.names } in
    let new = c.write_and_take.new.work in
    let s = c.args.sequence.now in
    let n = c.len-before.result in
    let first = ap (λ k. take k mid.names) c.len-before.ensures.len ∙ c.with_drawn.ensures.kept in
    let drawn = subst (λ o. IfSome o (λ p. DrawsBefore true old.names mid.names c.own-own.result (tree_at old.pool.trees (Some c.game.result.root)) (items_of_step (step_tree old.pool.trees p)))) c.in-Some.is c.in_ok-step.ensures.ready in
    let ready = ready_drawn n c.own-own.result old mid s c.game.result (items_of_step (step_tree old.pool.trees c.in-Some.step)) first c.own-own.ensures c.game.ensures drawn in
    comes_back n old mid new c.args.may_move s c.write_and_take.new.sequence c.requires.may.stands.live (kept_by old (with_names n mid) s c.requires.may.empty (Grows_refl old.pool) first refl) c.keep-2.new.self c.in_ok-tried.tried c.keep-2.ensures (sym c.is_taken.ensures ∙ c.if-is_taken.false) (c.in_ok-tried.ensures.tried n ready)
