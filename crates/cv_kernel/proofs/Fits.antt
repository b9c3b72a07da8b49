-- Changed parts of games can be measured.
use Rattle.std.proofs.Common.{◌≡◌, ℕ, ◌+◌, ◌<◌, ◌≤◌, ◌^◌, Option, Some, None, refl, arith}
use Rattle.cv_syntax_trees.specs.Tree.{Tree, Empty, size, subtree}
use Rattle.cv_steps.specs.Changes.{split_process, after_let, after_new}
use Rattle.cv_scene.specs.Scenes.{or_empty, part_at}
use Rattle.cv_edit_places.proofs.Extents.{size_let, size_new, size_split_process}
use Rattle.cv_path.proofs.extents.Extents.{size_part}

size_empty : size Empty ≡ 0
unfolding size
size_empty = refl

pub part_small : (t : Tree) (p : ℕ) → size (part_at t p) ≤ size t
part_small t p = go (subtree t p) refl
  where
    go : (o : Option Tree) → subtree t p ≡ o → size (or_empty o) ≤ size t
    go None e = omega (arith, size_empty)
    go (Some part) e = size_part t p part e

module _ (t : Tree) (p : ℕ) (small : size t ≤ 50000) where
  pub split_fits : (m : Tree) → size m < 2 ^ 31 → size t + size (split_process m (part_at t p)) < 2 ^ 32
  split_fits m l = omega (arith, size_split_process m (part_at t p), part_small t p)

  pub let_fits : (x T : ℕ) (m : Tree) → size m < 2 ^ 31 → size t + size (after_let x T m (part_at t p)) < 2 ^ 32
  let_fits x T m l = omega (arith, size_let x T m (part_at t p), part_small t p)

  pub new_fits : (x T : ℕ) → size t + size (after_new x T (part_at t p)) < 2 ^ 32
  new_fits x T = omega (arith, size_new x T (part_at t p), part_small t p)

  pub replace_fits : (m : Tree) → size m < 2 ^ 31 → size t + size m < 2 ^ 32
  replace_fits m l = omega arith
