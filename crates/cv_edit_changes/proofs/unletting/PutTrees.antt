-- Trees without the definitions of a variable, with a term in place of each read of it, node by node, and how large they are.
use Rattle.std.proofs.Common.{◌≡◌, ℕ, ◌+◌, ◌*◌, ◌≤◌, max, List, refl, ap, ap₂, sym, subst, ◌∙◌, arith, Bool, true, false, cond}
use Rattle.std.proofs.lemmas.Bool.{both_ways}
use Rattle.cv_syntax_trees.specs.declared.head.Head.{Head}
use Rattle.cv_syntax_trees.specs.declared.head.Head.TheVariants.{Leaf, Read}
use Rattle.cv_syntax_trees.specs.Head.{weight}
use Rattle.cv_syntax_trees.specs.Tree.{Tree, Empty, Node, size, depth}
use Rattle.cv_syntax.proofs.Trees.{size_Empty}
use Rattle.cv_syntax.proofs.Walking.{depth_node, size_node}
use Rattle.cv_path.proofs.extents.Extents.{depth_Empty}
use Rattle.cv_meaning.specs.Still.{defines}
use Rattle.cv_scene.specs.lines.Given.{with_given}
use Rattle.cv_scene.specs.Scenes.{head_reads}
use Rattle.cv_steps.specs.Changes.{only}
use Rattle.cv_edit_changes.specs.unletting.Putting.{put_in}
use Rattle.cv_edit_changes.proofs.unletting.Substituted.{under_small}

module _ (x : ℕ) (is : List ℕ) (m : Tree) where
  pub put_Empty : (t : Tree) → t ≡ Empty → put_in x is m t ≡ Empty
  unfolding put_in
  put_Empty t e = ap (put_in x is m) e

  pub put_nothing : (t : Tree) → t ≡ Empty → size (put_in x is m t) ≡ 0
  put_nothing t e = size_Empty (put_in x is m t) (put_Empty t e)

  pub put_flat : (t : Tree) → t ≡ Empty → depth (put_in x is m t) ≡ 0
  put_flat t e = depth_Empty (put_in x is m t) (put_Empty t e)

  module _ (t : Tree) (h : Head) (a b : Tree) (e : t ≡ Node h a b) where
    abbrev by : (reads gone : Bool) → Tree
    by reads gone = cond reads (with_given is a m) (cond gone (put_in x is m b) (Node h (put_in x is m a) (put_in x is m b)))

    put_node : put_in x is m t ≡ by (head_reads x h) (defines (only x) h)
    unfolding put_in
    put_node = ap (put_in x is m) e

    pub put_read : head_reads x h ≡ true → put_in x is m t ≡ with_given is a m
    put_read r = put_node ∙ ap (λ v. by v (defines (only x) h)) r

    pub put_gone : head_reads x h ≡ false → defines (only x) h ≡ true → put_in x is m t ≡ put_in x is m b
    put_gone r d = put_node ∙ ap₂ by r d

    pub put_stays : head_reads x h ≡ false → defines (only x) h ≡ false → put_in x is m t ≡ Node h (put_in x is m a) (put_in x is m b)
    put_stays r d = put_node ∙ ap₂ by r d

    pub put_size : head_reads x h ≡ false → defines (only x) h ≡ false → size (put_in x is m t) ≡ weight h + size (put_in x is m a) + size (put_in x is m b)
    put_size r d = size_node (put_in x is m t) h (put_in x is m a) (put_in x is m b) (put_stays r d)

    pub put_depth : head_reads x h ≡ false → defines (only x) h ≡ false → depth (put_in x is m t) ≡ weight h + max (depth (put_in x is m a)) (depth (put_in x is m b))
    put_depth r d = depth_node (put_in x is m t) h (put_in x is m a) (put_in x is m b) (put_stays r d)

  reading_weight : (h : Head) → head_reads x h ≡ true → weight h ≡ 1
  reading_weight (Leaf y) e = refl
  reading_weight (Read y) e = refl
  reading_weight h e = absurd (both_ways _ refl e)

  -- how large they are at most
  pub put_small : (t : Tree) → size (put_in x is m t) ≤ size t * (1 + size m)
  unfolding put_in size
  put_small Empty = omega arith
  put_small (Node h a b) = go (head_reads x h) refl (defines (only x) h) (put_small a) (put_small b)
    where
      go : (v : Bool) → head_reads x h ≡ v → (w : Bool) → size (put_in x is m a) ≤ size a * (1 + size m) → size (put_in x is m b) ≤ size b * (1 + size m) → size (by (Node h a b) h a b refl v w) ≤ (weight h + size a + size b) * (1 + size m)
      go true r w k l = subst (λ n. size (with_given is a m) ≤ (n + size a + size b) * (1 + size m)) (sym (reading_weight h r)) (omega (arith, under_small is a m))
      go false r true k l = omega (arith, l)
      go false r false k l = omega (arith, k, l)
