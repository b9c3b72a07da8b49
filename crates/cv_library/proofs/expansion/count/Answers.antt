use Rattle.std.proofs.Common.{◌≡◌, ◌+◌, ◌-◌, subst, get_or, arith}
use Rattle.std.proofs.lemmas.List.{drop_all, drop_more}
use Rattle.cv_lex.proofs.Places.{tokens_some}
use Rattle.cv_library.specs.Views.{definitions}
use Rattle.cv_library.proofs.Expanding.{IsCounted, counted_all, counted_more, counted_none, use_inside}
use Rattle.cv_library.proofs.expansion.count.Goals as goal

pub uses-init : goal.uses-init
uses-init c = counted_none (definitions c.args.library.now) c.args.tokens.now c.args.uses.now (tokens_some c.args.tokens.now c.len-all.ensures.tokens) c.requires

pub overflow_add-count-in-uses : goal.overflow_add-count-in-uses
overflow_add-count-in-uses c =
    let us = c.args.uses.now in
    let u = use_inside (definitions c.args.library.now) c.args.tokens.now us c.uses.count c.uses.from c.uses.it-index c.uses.invariant (get_or us c.uses.it-index (record { word = 0; dot = 0 })) _ (drop_more us c.uses.it-index (record { word = 0; dot = 0 }) c.uses-test.true) in
    omega (arith, c.uses.invariant.few, c.uses.invariant.uses, c.uses.invariant.within, u.head, u.last, c.from.ensures, c.from-in-uses.ensures)

pub overflow_add-from : goal.overflow_add-from
overflow_add-from c =
    let us = c.args.uses.now in
    let u = use_inside (definitions c.args.library.now) c.args.tokens.now us c.uses.count c.uses.from c.uses.it-index c.uses.invariant (get_or us c.uses.it-index (record { word = 0; dot = 0 })) _ (drop_more us c.uses.it-index (record { word = 0; dot = 0 }) c.uses-test.true) in
    omega (arith, u.last)

pub uses-preserved : goal.uses-preserved
uses-preserved c =
    let library = definitions c.args.library.now in
    let ts = c.args.tokens.now in
    let us = c.args.uses.now in
    let i = c.uses.it-index in
    let u = get_or us i (record { word = 0; dot = 0 }) in
    let same : u.word - c.uses.from + c.body_len.result ≡ c.from.result + c.from-in-uses.result = omega (arith, c.from.ensures, c.from-in-uses.ensures) in
    subst (λ n. IsCounted library ts us (c.uses.count + n) (u.dot + 1) (i + 1)) same
    (counted_more library ts us c.uses.count c.uses.from i c.uses.invariant u c.body_len.result (drop_more us i (record { word = 0; dot = 0 }) c.uses-test.true) (c.body_len.ensures (i + 1)) (omega arith))

pub returns : goal.returns
returns c =
    let all = counted_all (definitions c.args.library.now) c.args.tokens.now c.args.uses.now c.uses.count c.uses.from c.uses.it-index c.uses.invariant (drop_all c.uses.it-index c.args.uses.now (omega arith)) in
    omega (arith, c.from-2.ensures)
