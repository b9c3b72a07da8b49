use Rattle.std.proofs.Common.{refl, arith}
use Rattle.cv_library.proofs.Putting.{argument_at, argument_none, argument_past}
use Rattle.cv_library.proofs.put.argument_of.Goals as goal

pub returns-in-None-clause-value : goal.returns-in-None-clause-value
returns-in-None-clause-value c =
    λ ts. argument_none ts c.args.parameters.now c.args.it.word c.args.it.dot c.args.text.now (c.in-None.ensures.none.0 refl)

pub returns-then-id-count-clause-value : goal.returns-then-id-count-clause-value
returns-then-id-count-clause-value c =
    λ ts. argument_at ts c.args.parameters.now c.args.it.word c.args.it.dot c.args.text.now c.in-Some.id.0 ((c.in-Some.ensures.found c.in-Some.id).0 refl)
    (λ n h. let same = (c.in-Some.ensures.found (record { 0 = n })).1 h in cc)
    (omega arith)

pub returns-else-id-count-clause-value : goal.returns-else-id-count-clause-value
returns-else-id-count-clause-value c =
    λ ts. argument_past ts c.args.parameters.now c.args.it.word c.args.it.dot c.args.text.now c.in-Some.id.0 ((c.in-Some.ensures.found c.in-Some.id).0 refl)
    (λ n h. let same = (c.in-Some.ensures.found (record { 0 = n })).1 h in cc)
    (omega arith)
