use Rattle.std.proofs.Common.{◌≡◌, ◌⊎◌, arith, inl, inr, sym, subst, refl, Bool, true, false}
use Rattle.std.specs.Prelude.{Some}
use Rattle.cv_accept.proofs.Blocks.{root_grown}
use Rattle.cv_syntax.specs.declared.work.Work.{Work}
use Rattle.cv_syntax.specs.PoolTrees.{tree_at}
use Rattle.cv_follow.specs.Searches.{Comes, with_names}
use Rattle.cv_follow.proofs.Coming.{comes_more, comes_otherwise, comes_refused}
use Rattle.cv_rule_array_names.proofs.NamesKept.{names_kept}
use Rattle.cv_follow.proofs.ReadySteps.{fails_without, kept_names, may_with, take_again}
use Rattle.cv_follow.proofs.Tries.{found_more, kept_none, same_both}
use Rattle.cv_follow.proofs.searching.take.Goals as goal

-- a move that isn't refused here is allowed
move_allowed : (moved allowed : Bool) → ((moved ≡ true) × (allowed ≡ true)) ⊎ (moved ≡ false) → moved ≡ true → allowed ≡ true
move_allowed moved allowed (inl both) e = both.1
move_allowed moved allowed (inr none) e = absurd (cc)

pub returns-then-not-may_move-clause-tried : goal.returns-then-not-may_move-clause-tried
returns-then-not-may_move-clause-tried c = λ n ready.
    let w = with_names n c.args.work.now in
    comes_refused w w c.args.may_move c.args.sequence.now c.args.sequence.now (kept_none w c.args.sequence.now c.requires.may.empty)

pub push-pushed-requires-clause-stands : goal.push-pushed-requires-clause-stands
push-pushed-requires-clause-stands c = c.requires.may.stands

pub push-pushed-requires-clause-declared : goal.push-pushed-requires-clause-declared
push-pushed-requires-clause-declared c = c.requires.may.declared

pub push-pushed-requires-clause-equivalences : goal.push-pushed-requires-clause-equivalences
push-pushed-requires-clause-equivalences c = c.requires.may.equivalences

pub push-pushed-requires-clause-limit : goal.push-pushed-requires-clause-limit
push-pushed-requires-clause-limit c = let l = c.requires.may.limit in omega arith

pub returns-in-Ok-clause-tried : goal.returns-in-Ok-clause-tried
returns-in-Ok-clause-tried c = λ n ready start first below h.
    let old = c.args.work.now in
    let w = with_names n old in
    let new = c.push-pushed.new.work in
    let s = c.args.sequence.now in
    let may = may_with old w s refl refl c.requires.may in
    let names = names_kept w.names old.names new.names (take_again n old.names) c.push-pushed.ensures.names in
    let more = found_more start w new first below s c.push-pushed.new.self h c.args.step.0 c.requires.live c.forget.new.self _ may c.in-Ok.ensures.pushed c.push-pushed.ensures.grows c.push-pushed.ensures.stands c.in-Ok.ensures.few names c.push-pushed.ensures.decls old.names ready c.in-Ok.ensures.drawn c.push-pushed.ensures.alone c.forget.ensures.same c.forget.ensures.arrays in
    comes_more start w new first below s c.forget.new.self h c.args.step more (tree_at old.pool.trees (Some c.args.step.0)) (root_grown old.pool new.pool c.args.step.0 c.push-pushed.ensures.grows c.requires.live)
    c.args.advised c.is_move-moved.result c.args.may_move c.is_move-moved.ensures (move_allowed c.is_move-moved.result c.args.may_move c.else-moved.either)

pub returns-in-Some-clause-tried : goal.returns-in-Some-clause-tried
returns-in-Some-clause-tried c = λ n ready start first below h.
    let old = c.args.work.now in
    let w = with_names n old in
    let new = c.push-pushed.new.work in
    let s = c.args.sequence.now in
    let tried = c.in-Some.tried in
    let same = same_both s c.push-pushed.new.self c.forget.new.self c.in-Err.ensures.same c.forget.ensures.same in
    let kept = kept_names n old new s c.forget.new.self (record { grows = c.push-pushed.ensures.grows; names = c.in-Err.ensures.back; decls = c.push-pushed.ensures.decls; sequence = same; empty = c.forget.ensures.arrays }) in
    subst (λ (x : Work). Comes start w x first c.args.may_move s c.forget.new.self h tried) (sym (fails_without c.in-Err.fault tried n new (sym c.in-Some.ensures)))
    (comes_otherwise start w (with_names n new) first below s c.forget.new.self h c.args.step c.requires.live c.in-Err.fault c.args.may_move tried c.push-pushed.new.self (sym c.in-Some.ensures) (may_with old w s refl refl c.requires.may) c.in-Err.ensures.pushed c.in-Err.ensures.kept kept)
