use Rattle.std.proofs.Common.{ap, arith, sym, ◌∙◌}
use Rattle.cv_pool.proofs.Growth.{Grows_refl}
use Rattle.cv_follow.proofs.Fillings.{takes_ends, takes_more}
use Rattle.cv_kernel.proofs.Followed.{counted_after, room_after}
use Rattle.cv_follow.proofs.Plain.{live_on}
use Rattle.cv_follow.proofs.Tries.{may_again, may_next, same_both}
use Rattle.cv_follow.specs.Searches.{IsKept}
use Rattle.cv_follow.specs.Walks.{stop_of}
use Rattle.cv_follow.proofs.filling.take_step.Goals as goal

pub push-pushed-requires-clause-stands : goal.push-pushed-requires-clause-stands
push-pushed-requires-clause-stands c = c.requires.may.stands

pub push-pushed-requires-clause-declared : goal.push-pushed-requires-clause-declared
push-pushed-requires-clause-declared c = c.requires.may.declared

pub push-pushed-requires-clause-equivalences : goal.push-pushed-requires-clause-equivalences
push-pushed-requires-clause-equivalences c = c.requires.may.equivalences

pub push-pushed-requires-clause-limit : goal.push-pushed-requires-clause-limit
push-pushed-requires-clause-limit c = let l = c.requires.may.limit in omega arith

pub returns-in-Ok-clause-taken : goal.returns-in-Ok-clause-taken
returns-in-Ok-clause-taken c =
    let w = c.args.work.now in
    let p = c.push-pushed in (
      record { live = live_on w w p.new.work c.args.step.0 c.requires.live (Grows_refl w.pool) p.ensures.grows; steps = c.forget.ensures.same.steps ∙ counted_after w.pool w.decls p.new.work.pool.trees c.args.sequence.now p.new.self _ _ c.in-Ok.ensures.pushed },
      λ start first below h.
          takes_more start w p.new.work first below c.args.sequence.now p.new.self c.forget.new.self c.requires.may c.args.step c.requires.live h _ c.in-Ok.ensures.pushed p.ensures.grows p.ensures.stands
          c.in-Ok.ensures.few p.ensures.names p.ensures.decls c.in-Ok.ensures.drawn p.ensures.alone c.forget.ensures.same c.forget.ensures.arrays,
    )

pub returns-in-Ok-clause-again : goal.returns-in-Ok-clause-again
returns-in-Ok-clause-again c =
    let w = c.args.work.now in
    let p = c.push-pushed in
    may_next w p.new.work c.args.sequence.now p.new.self c.forget.new.self c.requires.may p.ensures.grows p.ensures.stands p.ensures.decls c.forget.ensures.same c.forget.ensures.arrays

pub returns-in-Ok-clause-room : goal.returns-in-Ok-clause-room
returns-in-Ok-clause-room c =
    let w = c.args.work.now in
    let limit = c.requires.may.limit in
    let few = c.requires.few in
    let room = room_after w.pool w.decls c.push-pushed.new.work.pool.trees c.args.sequence.now c.push-pushed.new.self _ _ c.in-Ok.ensures.pushed c.in-Ok.ensures.few (omega (arith, limit, few)) in
    omega (arith, room, limit)

pub returns-in-Some-clause-taken : goal.returns-in-Some-clause-taken
returns-in-Some-clause-taken c =
    let w = c.args.work.now in
    let s = c.args.sequence.now in
    let p = c.push-pushed in
    let both = same_both s p.new.self c.forget.new.self c.in-Err.ensures.same c.forget.ensures.same in
    let kept : IsKept w p.new.work s c.forget.new.self = record { grows = p.ensures.grows; names = c.in-Err.ensures.back; decls = p.ensures.decls; sequence = both; empty = c.forget.ensures.arrays } in
    let count = sym (c.steps.ensures ∙ both.steps) in (
      kept,
      λ start first below h.
          takes_ends start w p.new.work first below s p.new.self c.requires.may c.args.step c.requires.live h c.in-Err.fault c.in-Some.status c.in-Err.ensures.pushed (ap (stop_of c.in-Err.fault) count ∙ sym c.in-Some.ensures) c.in-Err.ensures.kept,
    )

pub returns-in-Some-clause-again : goal.returns-in-Some-clause-again
returns-in-Some-clause-again c =
    let w = c.args.work.now in
    let s = c.args.sequence.now in
    let p = c.push-pushed in
    may_again w p.new.work s c.forget.new.self c.requires.may (record { grows = p.ensures.grows; names = c.in-Err.ensures.back; decls = p.ensures.decls; sequence = same_both s p.new.self c.forget.new.self c.in-Err.ensures.same c.forget.ensures.same; empty = c.forget.ensures.arrays })
