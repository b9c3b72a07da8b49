-- The game without a body, as it is measured and made.
use Rattle.std.proofs.Common.{◌≡◌, ℕ, ◌+◌, ◌<◌, ◌≤◌, ◌⊎◌, inl, inr, Bool, true, false, nat_lt, if◌then◌else◌, length, Option, Some, None, IsSome, refl, sym, subst, ◌∙◌, arith}
use Rattle.std.proofs.lemmas.Bool.Decides.{nat_tests}
use Rattle.std.specs.Prelude.{option_map}
use Rattle.cv_pool.specs.PoolView.{PoolView}
use Rattle.cv_syntax.specs.declared.work.BuildError.{BuildError}
use Rattle.cv_syntax.specs.declared.work.BuildError.TheVariants as build
use Rattle.cv_syntax_trees.specs.Tree.{Tree}
use Rattle.cv_meaning.specs.Replaced.{replaced}
use Rattle.cv_scene.specs.Pruning.{Part, Pruned, pruned}
use Rattle.cv_scene.specs.Scenes.{part_at}
use Rattle.cv_steps.specs.Changes.{change_at, left_or, without_body}
use Rattle.cv_edit_changes.specs.pruning.Bodies.{game_without, need_of, refusal, refusal_by}
use Rattle.cv_path.specs.declared.error.PathError.{PathError}
use Rattle.cv_path.specs.declared.error.PathError.TheVariants as path
use Rattle.cv_path.specs.Refusals.{no_memory}
use Rattle.cv_rule.specs.edit.Edits.{IsEditFault}

module _ (game : Tree) (p : ℕ) where
  by_pruned : (o : Option Pruned) (t : Tree) → option_map (λ b. replaced game p b.left) o ≡ Some t → replaced game p (left_or (part_at game p) o) ≡ t
  by_pruned None t e = absurd (cc)
  by_pruned (Some b) t e = cc

  pub pruned_next : (part : Part) (t : Tree) → game_without game p part ≡ Some t → change_at game p (without_body p part) ≡ t
  pruned_next part t e = by_pruned (pruned p (part_at game p) part) t e

  -- a count of the game, where there is one

  by_count : (count : Tree → ℕ) (o : Option Pruned) (n : ℕ) → Some n ≡ option_map count (option_map (λ b. replaced game p b.left) o) → n ≡ count (replaced game p (left_or (part_at game p) o))
  by_count count None n e = absurd (cc)
  by_count count (Some b) n e = cc

  pub pruned_count : (count : Tree → ℕ) (part : Part) (n : ℕ) → Some n ≡ option_map count (game_without game p part) → n ≡ count (change_at game p (without_body p part))
  pruned_count count part n e = by_count count (pruned p (part_at game p) part) n e

-- the room of a pool

pub over : (limit live need : ℕ) (b : Bool) → nat_lt limit (live + need) ≡ b → (e : PathError) → (if b then Some (path.Build (build.Full need)) else None) ≡ Some e → (path.Build (build.Full need) ≡ e) × (limit < live + need)
over limit live need true t e h = (cc, grind (arith, nat_tests))
over limit live need false t e h = absurd (cc)

pub within : (limit live need : ℕ) (b : Bool) → nat_lt limit (live + need) ≡ b → (e : PathError) → (if b then Some e else None) ≡ None → live + need ≤ limit
within limit live need true t e h = absurd (cc)
within limit live need false t e h = grind (arith, nat_tests)

-- the only fault of a pool that has what changes is that it has no room, unless memory runs out

pub full_fault : (limit live need : ℕ) (e : BuildError) → (b : Bool) → nat_lt limit (live + need) ≡ b → (if b then Some (path.Build (build.Full need)) else None) ≡ Some (path.Build e) → IsEditFault limit live need e
full_fault limit live need (build.Full n) b t h =
    let w = over limit live need b t (path.Build (build.Full n)) h in
    let j : need ≡ n = cc in
    (sym j, omega (arith, j, w.1))
full_fault limit live need build.OutOfMemory b t h = tt
full_fault limit live need (build.Nodes n) b t h = let w = (over limit live need b t (path.Build (build.Nodes n)) h).0 in absurd (cc)
full_fault limit live need (build.Depth n) b t h = let w = (over limit live need b t (path.Build (build.Depth n)) h).0 in absurd (cc)

pub no_place : (limit live need : ℕ) (b : Bool) → nat_lt limit (live + need) ≡ b → (if b then Some (path.Build (build.Full need)) else None) ≡ Some path.NoSuchPlace → ⊥
no_place limit live need b t h = let w = (over limit live need b t path.NoSuchPlace h).0 in cc

pub memory_fault : (limit live need : ℕ) (e : BuildError) → path.Build e ≡ no_memory → IsEditFault limit live need e
memory_fault limit live need (build.Full n) h = absurd (cc)
memory_fault limit live need build.OutOfMemory h = tt
memory_fault limit live need (build.Nodes n) h = absurd (cc)
memory_fault limit live need (build.Depth n) h = absurd (cc)

pub memory_placed : (e : PathError) → e ≡ no_memory → e ≡ path.NoSuchPlace → ⊥
memory_placed e h i = cc

module _ (v : PoolView) (need : ℕ) where
  room_by : (o : Option Pruned) → refusal_by v need o ≡ None → length v.trees + need ≤ v.limit
  room_by None e = absurd (cc)
  room_by (Some b) e = within v.limit (length v.trees) need (nat_lt v.limit (length v.trees + need)) refl (path.Build (build.Full need)) e

  placed_by : (o : Option Pruned) → IsSome o → refusal_by v need o ≡ Some path.NoSuchPlace → ⊥
  placed_by None i h = cc
  placed_by (Some b) i h = no_place v.limit (length v.trees) need (nat_lt v.limit (length v.trees + need)) refl h

  fault_by : (o : Option Pruned) (e : BuildError) → refusal_by v need o ≡ Some (path.Build e) → IsEditFault v.limit (length v.trees) need e
  fault_by None e h = absurd (cc)
  fault_by (Some b) e h = full_fault v.limit (length v.trees) need e (nat_lt v.limit (length v.trees + need)) refl h

module _ (v : PoolView) (game : Tree) (p : ℕ) (part : Part) where
  pub prune_room : refusal v game p part ≡ None → length v.trees + need_of game p part ≤ v.limit
  prune_room e = room_by v (need_of game p part) (pruned p (part_at game p) part) e

  pub prune_placed : (e : PathError) → IsSome (pruned p (part_at game p) part) → (e ≡ no_memory) ⊎ (refusal v game p part ≡ Some e) → e ≡ path.NoSuchPlace → ⊥
  prune_placed e i (inl m) h = memory_placed e m h
  prune_placed e i (inr r) h = placed_by v (need_of game p part) (pruned p (part_at game p) part) i (subst (λ f. refusal v game p part ≡ Some f) h r)

  pub prune_fault : (e : PathError) (f : BuildError) → (e ≡ no_memory) ⊎ (refusal v game p part ≡ Some e) → e ≡ path.Build f → IsEditFault v.limit (length v.trees) (need_of game p part) f
  prune_fault e f (inl m) h = memory_fault v.limit (length v.trees) (need_of game p part) f (sym h ∙ m)
  prune_fault e f (inr r) h = fault_by v (need_of game p part) (pruned p (part_at game p) part) f (subst (λ g. refusal v game p part ≡ Some g) h r)
