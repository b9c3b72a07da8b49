-- Changed parts as they are made, and the way down to them.
use Rattle.std.proofs.Common.{◌≡◌, ℕ, zero, suc, ◌<◌, List, [], ◌∷◌, length, Option, Some, None, refl, sym, ap, ap₂, ◌∙◌, arith}
use Rattle.std.specs.Prelude.{All, option_map}
use Rattle.cv_pool.specs.KindTree.{KindTree}
use Rattle.cv_pool.specs.declared.node.NodeId.{NodeId}
use Rattle.cv_pool.proofs.Growth.{Grows_trans}
use Rattle.cv_pool.specs.PoolView.{PoolView, Grows}
use Rattle.cv_syntax_trees.specs.declared.head.Head.{Head}
use Rattle.cv_syntax_trees.specs.declared.head.Head.TheVariants.{If, Cons}
use Rattle.cv_syntax_trees.specs.Tree.{Tree, Empty, Node, size, subtree}
use Rattle.cv_syntax.specs.PoolTrees.{tree_at}
use Rattle.cv_syntax.proofs.Buildings.{child_grown}
use Rattle.cv_syntax.proofs.Trees.{tree_at_None}
use Rattle.cv_steps.specs.Changes.{split_process}
use Rattle.cv_scene.specs.Scenes.{or_empty, part_at}
use Rattle.cv_path.specs.Ways.{led, turned}
use Rattle.cv_path.specs.declared.replacing.Turn.{Turn}
use Rattle.cv_path.proofs.extents.Extents.{no_part}

-- what was found at a place

pub none_found : (f : NodeId → Tree) (t : Tree) (p : ℕ) (o : Option NodeId) → option_map f o ≡ subtree t p → o ≡ None → p < size t → ⊥
none_found f t p o e n l = omega (arith, no_part t p (sym e ∙ ap (option_map f) n))

pub some_found : (f : NodeId → Tree) (o : Option NodeId) (s : Option Tree) (n : NodeId) → option_map f o ≡ s → o ≡ Some n → s ≡ Some (f n)
some_found f o s n e m = sym e ∙ ap (option_map f) m

pub part_found : (t : Tree) (p : ℕ) (part : Tree) → subtree t p ≡ Some part → part_at t p ≡ part
part_found t p part e = ap or_empty e

-- the part changed

pub split_process_made : (p q r s : PoolView) (old condition last bodies result : NodeId) → Grows p q → Grows q r → old.0 < length p.trees → condition.0 < length p.trees
    → tree_at q.trees (Some last) ≡ Node Cons (tree_at p.trees (Some old)) (tree_at p.trees None) → tree_at r.trees (Some bodies) ≡ Node Cons (tree_at q.trees (Some old)) (tree_at q.trees (Some last))
    → tree_at s.trees (Some result) ≡ Node If (tree_at r.trees (Some condition)) (tree_at r.trees (Some bodies)) → tree_at s.trees (Some result) ≡ split_process (tree_at p.trees (Some condition)) (tree_at p.trees (Some old))
split_process_made p q r s old condition last bodies result g h l m e f i =
    i
    ∙ ap₂ (λ a b. Node If a b) (child_grown p r (Some condition) (Grows_trans p q r g h) m)
    (f ∙ ap₂ (λ a b. Node Cons a b) (child_grown p q (Some old) g l) (e ∙ ap (λ b. Node Cons (tree_at p.trees (Some old)) b) (tree_at_None p.trees)))

pub new_made : (trees : List KindTree) (t b : Tree) (h : Head) → t ≡ Node h (tree_at trees None) b → t ≡ Node h Empty b
new_made trees t b h e = e ∙ ap (λ a. Node h a b) (tree_at_None trees)

-- the nodes above a place stay while a pool grows
pub led_grown : (old new : PoolView) (ts : List Turn) (t : Tree) → Grows old new → All (λ u. u.node.0 < length old.trees) ts → led new.trees ts t ≡ led old.trees ts t
led_grown old new [] t g l = refl
led_grown old new (u ∷ ts) t g l =
    ap₂ (turned u.second) (child_grown old new (Some u.node) g (l zero u (omega arith))) (led_grown old new ts t g (λ k d m. l (suc k) d (omega arith)))
