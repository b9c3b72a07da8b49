use Rattle.std.proofs.Common.{◌+◌, ◌<◌, ◌≤◌, arith, ap, subst, ◌∙◌, length}
use Rattle.std.specs.Prelude.{IsErrOf}
use Rattle.cv_pool.specs.declared.pool.PoolError.TheVariants as pool
use Rattle.cv_syntax.specs.Planting.{overs}
use Rattle.cv_syntax.specs.limits.Limits.{nodes_of}
use Rattle.cv_syntax.specs.listing.Needs.{need_for}
use Rattle.cv_syntax.proofs.listing.Lists.{accepted_where, asked_most, entries}
use Rattle.cv_syntax.proofs.listing.planting.plant_listed.Goals as goal

pub returns-then-makes-ge4294967295-clause-full : goal.returns-then-makes-ge4294967295-clause-full
returns-then-makes-ge4294967295-clause-full c =
    λ t e n r.
    let l : 4294967295 ≤ nodes_of t = omega (arith, ap length e ∙ entries t, c.if-makes-ge4294967295.true) in
    asked_most n (need_for t) (nodes_of t) c.args.pool.now.limit (length c.args.pool.now.trees) (omega arith) l c.requires.limit (cc)

pub planted-requires : goal.planted-requires
planted-requires c =
    let t = c.requires.listed.0 in
    let e = c.requires.listed.1 in
    omega (arith, ap length e ∙ entries t, ap overs e, c.if-makes-ge4294967295.false)

pub returns-clause-full : goal.returns-clause-full
returns-clause-full c =
    λ t e n r.
    let same = c.planted.ensures.other n r in
    let nodes = ap overs e in
    let few_listed : overs c.args.makes.now < 4294967296 = omega (arith, nodes, ap length e ∙ entries t, c.if-makes-ge4294967295.false) in
    let crowd = c.planted.ensures.full.0 (subst (λ m. IsErrOf c.planted.result (pool.Full m)) same r) in
    (omega (arith, same, nodes, few_listed), omega (arith, same, crowd))

pub returns-clause-accepted : goal.returns-clause-accepted
returns-clause-accepted c =
    λ t e.
    let count = ap overs e in
    accepted_where c.planted.result (pool.Full (overs c.args.makes.now)) c.args.pool.now.limit (length c.args.pool.now.trees + need_for t) (λ l. c.planted.ensures.full.1 (omega (arith, l, count)))

pub returns-clause-few : goal.returns-clause-few
returns-clause-few c = λ t e. omega (arith, c.planted.ensures.few, ap overs e, ap length e ∙ entries t, c.if-makes-ge4294967295.false)
