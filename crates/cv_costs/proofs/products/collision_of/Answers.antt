use Rattle.std.proofs.Common.{ℕ, Bool, List, length, ap, arith, sym, ◌∙◌}
use Rattle.cv_pool.specs.declared.names.names.NameId.{NameId}
use Rattle.cv_bound.specs.declared.cost.Collision.{Collision}
use Rattle.cv_costs.specs.Factors.{factors_of, parameters_in}
use Rattle.cv_costs.proofs.Parameters.{as_many, same_parameters}
use Rattle.cv_costs.proofs.Factors.{fewer}
use Rattle.cv_costs.proofs.products.collision_of.Goals as goal

abbrev one : (half : Bool) → (type : ℕ) → List (NameId × ℕ) → Collision
one half T fs = record { times = 1; factors = fs; half = half; over = record { 0 = T } }

pub shortened-requires : goal.shortened-requires
shortened-requires c =
    let ps = c.args.parameters.now in
    let order = c.deref.ensures.value ∙ c.in_ok-order.ensures in
    fewer (parameters_in c.args.decls.now.list) ps c.deref-2.result.now 256 (c.deref-2.ensures.value ∙ (c.in_ok-factors.ensures ∙ ap (λ ns. factors_of ns ps) order)) c.requires

pub of-requires : goal.of-requires
of-requires c =
    let ps = c.args.parameters.now in
    let order = c.deref.ensures.value ∙ c.in_ok-order.ensures in
    let same = ap length (c.in_ok-shortened.ensures ∙ (c.deref-2.ensures.value ∙ (c.in_ok-factors.ensures ∙ ap (λ ns. factors_of ns ps) order))) in
    omega (arith, same, as_many (parameters_in c.args.decls.now.list) ps, c.requires)

pub returns : goal.returns
returns c = λ trees.
    let ps = c.args.parameters.now in
    let order = c.deref.ensures.value ∙ (c.in_ok-order.ensures ∙ sym (same_parameters trees c.args.decls.now.list)) in
    let same = c.of.ensures ∙ (c.in_ok-shortened.ensures ∙ (c.deref-2.ensures.value ∙ (c.in_ok-factors.ensures ∙ ap (λ ns. factors_of ns ps) order))) in
    ap (one c.args.half c.args.over) same
