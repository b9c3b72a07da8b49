-- What costs are worth in sums.
use Rattle.std.proofs.Common.{◌≡◌, false, List, [], ◌∷◌, refl, ap, arith}
use Rattle.cv_syntax_trees.specs.Declarations.{Declaration}
use Rattle.cv_syntax_trees.specs.Tree.{Tree}
use Rattle.cv_meaning.specs.Chances.{AtMost, Chance, Same, distance, zero_chance}
use Rattle.cv_meaning.specs.Interpretation.{Interpretation}
use Rattle.cv_meaning_chances.specs.Fractions.{plus}
use Rattle.cv_bound.specs.declared.cost.Collision.{Collision}
use Rattle.cv_bound.specs.declared.cost.Cost.TheVariants as bound
use Rattle.cv_steps.specs.values.Values.{Advantages, collision_value, cost_value}
use Rattle.cv_steps.specs.Chances.{KeepsChances}
use Rattle.cv_steps.specs.Costs.{cost_of}
use Rattle.cv_steps.specs.Steps.{Collisions, Cost, Zero}
use Rattle.cv_derive_laws.specs.stores.Costs.{CostsAtMost, bound_of}

collisions_worth : (i : Interpretation) (advantages : Advantages) (cs : List Collision) → cost_value i advantages (bound.Collisions cs) false ≡ bound_of i (Collisions cs)
collisions_worth i advantages [] = refl
collisions_worth i advantages (c ∷ cs) = ap (plus (collision_value i c)) (collisions_worth i advantages cs)

pub cost_worth : (i : Interpretation) (advantages : Advantages) (c : Cost) → cost_value i advantages (cost_of c) false ≡ bound_of i c
cost_worth i advantages Zero = refl
cost_worth i advantages (Collisions cs) = collisions_worth i advantages cs

-- chances at no distance are the same
pub together : (p q : Chance) → AtMost (distance p q) zero_chance → Same p q
together p q h =
    let none : (distance p q).good ≡ 0 = omega (arith, h) in
    omega (arith, none)

pub costs_kept : (ds : List Declaration) (game next : Tree) → CostsAtMost ds game next Zero → KeepsChances ds game next
costs_kept ds game next k i sat x asked a = together _ _ (k i sat x asked a)
