-- What stands below a number stands below each that is no smaller, what is known of a pool that grew, and lists with one item more.
use Rattle.std.proofs.Common.{ℕ, ◌≤◌, ◌≡◌, ◌++◌, List, [], ◌∷◌, arith, subst, sym}
use Rattle.std.specs.Prelude.{All}
use Rattle.std.proofs.lemmas.List.Elements.{All-push, All-weaker}
use Rattle.cv_pool.specs.declared.node.NodeId.{NodeId}
use Rattle.cv_pool.proofs.Growth.{Grows_length, Grows_refl, Grows_trans}
use Rattle.cv_step_writer.specs.Derivations.{IsBelow}

pub all_below : (k n : ℕ) (ms : List NodeId) → k ≤ n → All (IsBelow k) ms → All (IsBelow n) ms
all_below k n ms h a = All-weaker (IsBelow k) (IsBelow n) (λ m b. omega (arith, b, h)) ms a

-- the same of a slice of the list
pub slice_below : (k n : ℕ) (ms slice : List NodeId) → slice ≡ ms → k ≤ n → All (IsBelow k) ms → All (IsBelow n) slice
slice_below k n ms slice e h a = subst (All (IsBelow n)) (sym e) (all_below k n ms h a)

pub pushed : {X : Type 0} (P : X → Type 0) (old new : List X) (x : X) → new ≡ old ++ x ∷ [] → All P old → P x → All P new
pushed P old new x e a b = subst (All P) (sym e) (All-push P old x a b)

pub ruleset planting = (Grows_length, Grows_trans, Grows_refl, all_below)
