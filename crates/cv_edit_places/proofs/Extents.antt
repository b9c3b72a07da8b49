-- How large changed parts are, and how many nodes stand above a place.
use Rattle.std.proofs.Common.{◌≡◌, ℕ, ◌+◌, ◌*◌, max, ap, arith}
use Rattle.cv_syntax_trees.specs.Tree.{Tree, Empty, size, depth}
use Rattle.cv_syntax.proofs.Walking.{depth_le_size, size_node}
use Rattle.cv_syntax.proofs.Trees.{empty_at, size_Empty}
use Rattle.cv_path.specs.Places.{nodes_above}
use Rattle.cv_steps.specs.Changes.{split_process, after_let, after_new}

pub size_split_process : (m p : Tree) → size (split_process m p) ≡ 1 + size m + 2 * size p
unfolding size
size_split_process m p = omega arith

pub depth_split_process : (m p : Tree) → depth (split_process m p) ≡ 1 + max (depth m) (depth p)
unfolding depth
depth_split_process m p = omega arith

pub size_let : (x T : ℕ) (m p : Tree) → size (after_let x T m p) ≡ 1 + size m + size p
unfolding size
size_let x T m p = omega arith

pub depth_let : (x T : ℕ) (m p : Tree) → depth (after_let x T m p) ≡ 1 + max (depth m) (depth p)
unfolding depth
depth_let x T m p = omega arith

pub size_new : (x T : ℕ) (p : Tree) → size (after_new x T p) ≡ 1 + size p
unfolding size
size_new x T p = omega arith

pub depth_new : (x T : ℕ) (p : Tree) → depth (after_new x T p) ≡ 1 + depth p
unfolding depth
depth_new x T p = omega arith

pub above_gone : (t : Tree) (p : ℕ) → t ≡ Empty → nodes_above t p ≡ 0
unfolding nodes_above
above_gone t p e = ap (λ u. nodes_above u p) e

pub ruleset extents = (size_split_process, depth_split_process, size_let, depth_let, size_new, depth_new, depth_le_size, size_node, size_Empty, empty_at)
