use Rattle.std.proofs.Common.{arith}
use Rattle.cv_library.proofs.UseWalk.{used_all, used_on, used_push}
use Rattle.cv_library.proofs.uses.uses.Goals as goal

pub tokens-preserved-in-Some : goal.tokens-preserved-in-Some
tokens-preserved-in-Some c =
    used_push c.args.tokens.now c.tokens.found.items c.tokens.looking c.tokens.at c.tokens.invariant c.in-Some.dot _ (omega arith) c.in-Some.ensures.value (c.in-Some.ensures.within.0) (c.in-Some.ensures.within.1) c.in_ok-push-in-Some.ensures.items

pub tokens-preserved : goal.tokens-preserved
tokens-preserved c =
    used_on c.args.tokens.now c.tokens.found.items c.tokens.looking c.tokens.at c.tokens.invariant _ _ (omega arith) c.in-None.ensures.value c.text.ensures c.looking_behind-looking.ensures

pub returns-clause-uses : goal.returns-clause-uses
returns-clause-uses c = (used_all c.args.tokens.now c.tokens.found.items c.tokens.looking c.tokens.at c.tokens.invariant (omega arith)).0

pub returns-clause-order : goal.returns-clause-order
returns-clause-order c = (used_all c.args.tokens.now c.tokens.found.items c.tokens.looking c.tokens.at c.tokens.invariant (omega arith)).1
