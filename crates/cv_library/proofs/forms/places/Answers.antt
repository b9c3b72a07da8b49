use Rattle.std.proofs.Common.{sym, subst, refl, arith}
use Rattle.cv_library.proofs.Placing.{AreFound, found_all, found_few, found_none, found_push, found_refused}
use Rattle.cv_library.proofs.forms.places.Goals as goal

pub definitions-init : goal.definitions-init
definitions-init c = subst (λ l. AreFound c.args.tokens.now l 0) (sym c.new-found.ensures.items) (found_none c.args.tokens.now)

pub definitions-preserved : goal.definitions-preserved
definitions-preserved c =
    let more = c.definitions-test.ensures.within refl in
    found_push c.args.tokens.now c.definitions.found.items c.definitions.at c.definitions.invariant c.in-Ok.place _ (omega arith) c.definitions-test.ensures.value c.in-Ok.ensures.value c.in-Ok.ensures.inside.0 c.in-Ok.ensures.inside.1 c.in-Ok-push.ensures.items

pub overflow_add-at : goal.overflow_add-at
overflow_add-at c = omega (arith, c.in-Ok.ensures.inside.1.last)

pub returns-in-Err-clause-err : goal.returns-in-Err-clause-err
returns-in-Err-clause-err c =
    let more = c.definitions-test.ensures.within refl in
    found_refused c.args.tokens.now c.definitions.found.items c.definitions.at c.definitions.invariant c.in-Err.k (omega arith) c.definitions-test.ensures.value c.in-Err.ensures.value

pub returns-clause-ok : goal.returns-clause-ok
returns-clause-ok c = found_all c.args.tokens.now c.definitions.found.items c.definitions.at c.definitions.invariant c.definitions-test.ensures.value

pub returns-clause-few : goal.returns-clause-few
returns-clause-few c = found_few c.args.tokens.now c.definitions.found.items c.definitions.at c.definitions.invariant
