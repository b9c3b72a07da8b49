use Rattle.std.proofs.Common.{arith}
use Rattle.cv_syntax.specs.Walks.{above}
use Rattle.cv_inline_draws.specs.sites.Parts.{draws_at}
use Rattle.cv_inline_draws.proofs.sites.Gathering.{all_lower, below_push, body_last}
use Rattle.cv_inline_draws.proofs.sites.bodies.bodies_of_find.Goals as goal

pub returns-clause-draws : goal.returns-clause-draws
returns-clause-draws c =
    λ ss k. body_last (draws_at c.args.pool.now.trees ss k) c.in_ok-bodies.bodies.items c.push.new.self.items c.args.node.second _ c.in_ok-push.ensures.items (c.in_ok-bodies.ensures.draws ss k)

pub returns-clause-below : goal.returns-clause-below
returns-clause-below c =
    let trees = c.args.pool.now.trees in
    λ bound h i.
    below_push trees bound c.in_ok-bodies.bodies.items c.push.new.self.items c.args.node.second c.in_ok-push.ensures.items (all_lower trees (above c.args.node.first.root) bound c.in_ok-bodies.bodies.items (omega arith) c.in_ok-bodies.ensures.below) (record { within = c.requires.second; below = i })
