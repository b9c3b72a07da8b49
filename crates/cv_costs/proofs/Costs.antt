-- Costs of one collision.
use Rattle.std.proofs.Common.{◌≡◌, [], ◌∷◌, Result, subst}
use Rattle.std.specs.Prelude.{IfOk}
use Rattle.cv_bound.specs.declared.cost.Collision.{Collision}
use Rattle.cv_bound.specs.declared.cost.Cost.{Cost}
use Rattle.cv_bound.specs.declared.cost.Cost.TheVariants.{Collisions}

pub same_cost : {E : Type 0} (r : Result Cost E) (c d : Collision) → IfOk r (λ made. made ≡ Collisions (c ∷ [])) → c ≡ d → IfOk r (λ made. made ≡ Collisions (d ∷ []))
same_cost r c d h e = subst (λ x. IfOk r (λ made. made ≡ Collisions (x ∷ []))) e h
