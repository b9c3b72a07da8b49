-- A sequence behind a step that closes a query.
use Rattle.std.proofs.Common.{◌≡◌, ℕ, ◌<◌, ◌^◌, false, true, List, Option, ap, ◌∙◌, arith}
use Rattle.cv_pool.specs.declared.node.NodeId.{NodeId}
use Rattle.cv_pool.specs.KindTree.{KindTree}
use Rattle.cv_pool.specs.PoolView.{PoolView}
use Rattle.cv_syntax.specs.Classes.{DeclsView}
use Rattle.cv_syntax.specs.declared.work.Game.{Game}
use Rattle.cv_syntax.specs.PoolTrees.{tree_at}
use Rattle.cv_scene_view.specs.Kept.{scene_of}
use Rattle.cv_bound.specs.declared.cost.Cost.{Cost as SumCost}
use Rattle.cv_bound.specs.declared.costs.sums.Sums.{Sums}
use Rattle.cv_bound.specs.Sums.{coefficients, terms_of}
use Rattle.cv_bound.specs.costs.Sums.{SumsFit, with_cost}
use Rattle.cv_steps.specs.Costs.{cost_of}
use Rattle.cv_steps.proofs.values.Coefficients.{coefficients_added, small_fit}
use Rattle.cv_costs.specs.Certificates.{cost_of_certificate}
use Rattle.cv_kernel.specs.Sequences.{AreModest}
use Rattle.cv_kernel.proofs.Pushes.{counted_both}

-- sums have room for what a certificate costs
pub closing_fits : (sums : Sums) (c : SumCost) (steps : ℕ) → AreModest sums steps → steps < 2000 → coefficients (terms_of c false) < 2 ^ 31 → SumsFit (with_cost sums c)
closing_fits sums c steps modest l few =
    let plain = coefficients_added sums.plain c false in
    let secret = coefficients_added sums.secret c true in
    let both = counted_both c in
    (small_fit (with_cost sums c).plain (omega arith), small_fit (with_cost sums c).secret (omega arith))

-- what a certificate costs, where the pool has the same trees

abbrev pub closing_cost_at : PoolView → DeclsView → Game → (certificate : Option NodeId) → SumCost
closing_cost_at pool decls game certificate = cost_of (cost_of_certificate (scene_of pool decls game.root) (tree_at pool.trees certificate))

pub same_cost : (pool more : PoolView) (d e : DeclsView) (old mid : Game) (certificate : Option NodeId) → more.trees ≡ pool.trees → e ≡ d → mid ≡ old → closing_cost_at more e mid certificate ≡ closing_cost_at pool d old certificate
same_cost pool more d e old mid certificate t f g =
    ap (λ ts. by ts e mid) t ∙ (ap (λ x. by pool.trees x mid) f ∙ ap (by pool.trees d) g)
  where
    by : List KindTree → DeclsView → Game → SumCost
    by ts x h = closing_cost_at (record { trees = ts; limit = 0; spare = 0 }) x h certificate
