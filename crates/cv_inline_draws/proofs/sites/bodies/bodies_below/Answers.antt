use Rattle.std.proofs.Common.{ℕ, ◌<◌, All}
use Rattle.std.proofs.lemmas.Result.{IfOk-weaker}
use Rattle.cv_syntax.specs.Walks.{above}
use Rattle.cv_inline_sites.specs.listing.Subtrees.{IsBelow}
use Rattle.cv_inline_draws.proofs.sites.bodies.bodies_below.Goals as goal

pub returns-in-Find-clause-below : goal.returns-in-Find-clause-below
returns-in-Find-clause-below c =
    let trees = c.args.pool.now.trees in
    let node = c.in-Some.node in
    IfOk-weaker c.bodies_of_find.result (λ bodies. (bound : ℕ) → above node.first.root < bound → above node.second.root < bound → All (IsBelow trees bound) bodies.items) (λ bodies. All (IsBelow trees (above c.args.body.root)) bodies.items)
    (λ bodies h. h (above c.args.body.root) c.in-Some.ensures.node.first.below c.in-Some.ensures.node.second.below)
    c.bodies_of_find.ensures.below
