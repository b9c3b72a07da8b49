use Rattle.std.proofs.Common.{arith}
use Rattle.cv_syntax.specs.Walks.{above}
use Rattle.cv_inline_draws.proofs.sites.Branching.{both_bodies, no_else, no_then}
use Rattle.cv_inline_draws.proofs.sites.Gathering.{lower}
use Rattle.cv_inline_draws.proofs.sites.bodies.two_bodies.Goals as goal

pub returns-in_err-then-clause-none : goal.returns-in_err-then-clause-none
returns-in_err-then-clause-none c = rw c.from_residual.ensures (λ ss k. no_then ss k c.args.pool.now.trees c.args.list c.in_err-then.ensures.none)

pub returns-in_err-other-clause-none : goal.returns-in_err-other-clause-none
returns-in_err-other-clause-none c = rw c.from_residual-in_err-other.ensures (λ ss k. no_else ss k c.args.pool.now.trees c.args.list c.in_ok-then.then c.in_ok-then.ensures.node c.in_err-other.ensures.none)

pub returns-clause-two : goal.returns-clause-two
returns-clause-two c = λ ss k. both_bodies ss k c.args.pool.now.trees c.args.list c.in_ok-then.then c.in_ok-other.other c.in_ok-then.ensures.node c.in_ok-other.ensures.node

pub returns-clause-other : goal.returns-clause-other
returns-clause-other c =
    let then = c.in_ok-then.then in
    lower c.args.pool.now.trees (above then.second.root) (above c.args.list.root) c.in_ok-other.other.first (let b = c.in_ok-then.ensures.node.second.below in omega arith) c.in_ok-other.ensures.node.first
