use Rattle.std.proofs.Common.{◌≡◌, ◌≢◌, ◌<◌, ◌-◌, ap, sym, ◌∙◌, length, arith, get_or, slice_get, Some, subst, ◌≤◌}
use Rattle.std.proofs.lemmas.Bool.{both_ways}
use Rattle.std.proofs.lemmas.Option.{slice_get-get_or, get_or_from_slice_get}
use Rattle.cv_pool.specs.Bucket.{bucket}
use Rattle.cv_pool.specs.Chain.{bucket_at, no_entry}
use Rattle.cv_pool.specs.declared.node.Entry.{Entry}
use Rattle.cv_pool.proofs.Chaining.{any_default, looks_below, looks_there, looks_on}
use Rattle.cv_pool.proofs.Comparing.{entry_same, same_entry_law}
use Rattle.cv_pool.proofs.chains.Chains.find.Goals as goal

pub returns-then-eq-clause-some : goal.returns-then-eq-clause-some
returns-then-eq-clause-some c =
    let nodes = c.args.nodes.now in
    let n = c.chain.here - 1 in
    slice_get-get_or nodes n no_entry (omega arith) ∙ ap (λ (x : Entry). Some x) (entry_same (get_or nodes n no_entry) c.args.entry (sym c.if-eq.ensures))

pub chain-smaller : goal.chain-smaller
chain-smaller c =
    let n = c.chain.here - 1 in
    let nexts = c.args.self.now.nexts.items in
    let l : n < length nexts = omega arith in
    let few : get_or nexts n 0 ≤ n = (c.requires.linked.before n l).few in
    let next = c.index-here-in-chain.ensures ∙ any_default nexts n c.index-here-in-chain.result.now 0 l in
    omega (arith, next)

pub chain-preserved : goal.chain-preserved
chain-preserved c =
    let n = c.chain.here - 1 in
    let nodes = c.args.nodes.now in
    let heads = c.args.self.now.heads.items in
    let nexts = c.args.self.now.nexts.items in
    let e = c.args.entry in
    let l : n < length nexts = omega arith in
    let next = c.index-here-in-chain.ensures ∙ any_default nexts n c.index-here-in-chain.result.now 0 l in
    let s : bucket_at (length heads) nodes n ≡ bucket (length heads) e = c.chain.invariant.there n (omega arith) in
    let here : slice_get nodes n ≢ Some e = λ g. both_ways _ (sym c.if-eq.ensures) (same_entry_law (get_or nodes n no_entry) e (get_or_from_slice_get nodes n e no_entry g)) in
    record {
      few = omega (arith, next, looks_below nodes heads nexts e n l s c.requires.linked);
      there = λ k q. looks_there nodes heads nexts e n l s c.requires.linked k (sym next ∙ q);
      none = λ k m. looks_on nodes heads nexts e n l s c.requires.linked here (λ j o. c.chain.invariant.none j (omega arith)) k (subst (λ x. x ≤ k) next m);
    }
