use Rattle.std.proofs.Common.{◌-◌, ◌++◌, length, get_or, ap, subst, arith}
use Rattle.std.specs.Prelude.{slice_range}
use Rattle.std.proofs.lemmas.List.{drop_all, drop_more}
use Rattle.cv_lex.specs.View.{token_at}
use Rattle.cv_library.specs.Expansions.{stands_for}
use Rattle.cv_library.specs.Views.{definitions}
use Rattle.cv_library.specs.Written.{Adds}
use Rattle.cv_library.proofs.Expanding.{put_all, put_more, room_last, room_more}
use Rattle.cv_library.proofs.Lists.{range_end}
use Rattle.cv_library.proofs.expansion.write.Goals as goal

pub put_use-requires-clause-room : goal.put_use-requires-clause-room
put_use-requires-clause-room c =
    let library = definitions c.args.library.now in
    let ts = c.args.tokens.now in
    let us = c.args.uses.now in
    let i = c.uses.it-index in
    let u = get_or us i (record { word = 0; dot = 0 }) in
    let end = (token_at ts (c.len-all.result - 1)).offset in
    let room = room_more library ts us end c.uses.out c.uses.from i c.uses.invariant.put u (drop_more us i (record { word = 0; dot = 0 }) c.uses-test.true) in
    let same = ap (λ n. length (stands_for library ts n u)) c.uses.invariant.number in
    omega (arith, room, same, c.requires.room)

pub uses-preserved : goal.uses-preserved
uses-preserved c =
    let library = definitions c.args.library.now in
    let ts = c.args.tokens.now in
    let us = c.args.uses.now in
    let i = c.uses.it-index in
    let u = get_or us i (record { word = 0; dot = 0 }) in
    let end = (token_at ts (c.len-all.result - 1)).offset in
    record {
      put =
          put_more library ts us end c.uses.out c.uses.from i c.uses.invariant.put u c.put_use.new.out (drop_more us i (record { word = 0; dot = 0 }) c.uses-test.true)
          (subst (λ n. Adds c.uses.out (slice_range ts c.uses.from u.word ++ stands_for library ts n u) c.put_use.new.out) c.uses.invariant.number c.in_ok-put_use.ensures.adds);
      number = omega (arith, c.uses.invariant.number);
    }

pub put_range-requires-clause-room : goal.put_range-requires-clause-room
put_range-requires-clause-room c =
    let ts = c.args.tokens.now in
    let us = c.args.uses.now in
    let i = c.uses.it-index in
    let room = room_last (definitions c.args.library.now) ts us (token_at ts (c.len-all.result - 1)).offset c.uses.out c.uses.from i c.uses.invariant.put (drop_all i us (omega arith)) in
    omega (arith, room, c.requires.room, c.len-all.ensures.value)

pub returns : goal.returns
returns c =
    let ts = c.args.tokens.now in
    let us = c.args.uses.now in
    let i = c.uses.it-index in
    let last = c.len-all.result - 1 in
    put_all (definitions c.args.library.now) ts us (token_at ts last).offset c.uses.out c.uses.from i c.uses.invariant.put c.put_range.new.out last (drop_all i us (omega arith))
    (range_end ts c.len-all.ensures.tokens c.uses.from last (omega (arith, c.len-all.ensures.value, c.uses.invariant.put.within)) (omega (arith, c.len-all.ensures.value, c.uses.invariant.put.within)))
    c.in_ok-put_range.ensures.adds
