-- The game without a `let`, as it is measured and made.
use Rattle.std.proofs.Common.{◌≡◌, ℕ, ◌+◌, ◌≤◌, ◌⊎◌, inl, inr, nat_lt, length, Option, Some, None, IsSome, refl, sym, subst, ◌∙◌}
use Rattle.std.specs.Prelude.{unwrap_or}
use Rattle.cv_pool.specs.PoolView.{PoolView}
use Rattle.cv_syntax.specs.declared.work.BuildError.{BuildError}
use Rattle.cv_syntax.specs.declared.work.BuildError.TheVariants as build
use Rattle.cv_syntax_trees.specs.Tree.{Tree}
use Rattle.cv_syntax.specs.listing.Needs.{need_for}
use Rattle.cv_edit_changes.specs.unletting.Games.{need_by, need_unletting, refusal, refusal_by, unlet}
use Rattle.cv_path.specs.declared.error.PathError.{PathError}
use Rattle.cv_path.specs.declared.error.PathError.TheVariants as path
use Rattle.cv_path.specs.Refusals.{no_memory}
use Rattle.cv_rule.specs.edit.Edits.{IsEditFault}
use Rattle.cv_rule.proofs.edit.Pruned.{full_fault, memory_fault, memory_placed, no_place, within}

-- the game that is made
pub made : (game : Tree) (m : Option Tree) (t : Tree) → m ≡ Some t → t ≡ unwrap_or m game
made game None t e = absurd (cc)
made game (Some u) t e = cc

-- the room of a pool

module _ (v : PoolView) where
  room_by : (m : Option Tree) → refusal_by v m ≡ None → length v.trees + need_by m ≤ v.limit
  room_by None e = absurd (cc)
  room_by (Some t) e = within v.limit (length v.trees) (need_for t) (nat_lt v.limit (length v.trees + need_for t)) refl (path.Build (build.Full (need_for t))) e

  placed_by : (m : Option Tree) → IsSome m → refusal_by v m ≡ Some path.NoSuchPlace → ⊥
  placed_by None i h = cc
  placed_by (Some t) i h = no_place v.limit (length v.trees) (need_for t) (nat_lt v.limit (length v.trees + need_for t)) refl h

  fault_by : (m : Option Tree) (e : BuildError) → refusal_by v m ≡ Some (path.Build e) → IsEditFault v.limit (length v.trees) (need_by m) e
  fault_by None e h = absurd (cc)
  fault_by (Some t) e h = full_fault v.limit (length v.trees) (need_for t) e (nat_lt v.limit (length v.trees + need_for t)) refl h

module _ (v : PoolView) (x : ℕ) (game : Tree) where
  pub unlet_room : refusal v x game ≡ None → length v.trees + need_unletting x game ≤ v.limit
  unlet_room e = room_by v (unlet x game) e

  pub unlet_placed : (e : PathError) → IsSome (unlet x game) → (e ≡ no_memory) ⊎ (refusal v x game ≡ Some e) → e ≡ path.NoSuchPlace → ⊥
  unlet_placed e i (inl m) h = memory_placed e m h
  unlet_placed e i (inr r) h = placed_by v (unlet x game) i (subst (λ f. refusal v x game ≡ Some f) h r)

  pub unlet_fault : (e : PathError) (f : BuildError) → (e ≡ no_memory) ⊎ (refusal v x game ≡ Some e) → e ≡ path.Build f → IsEditFault v.limit (length v.trees) (need_unletting x game) f
  unlet_fault e f (inl m) h = memory_fault v.limit (length v.trees) (need_unletting x game) f (sym h ∙ m)
  unlet_fault e f (inr r) h = fault_by v (unlet x game) f (subst (λ g. refusal v x game ≡ Some g) h r)
