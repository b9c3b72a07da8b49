-- Trees without the definitions of a variable, as lists of their nodes behind their children.
use Rattle.std.proofs.Common.{◌≡◌, ℕ, ◌+◌, ◌≤◌, Bool, true, false, cond, max, List, [], ◌∷◌, ◌++◌, map, reverse, refl, ap, ◌∙◌, arith}
use Rattle.cv_syntax_trees.specs.declared.head.Head.{Head}
use Rattle.cv_syntax.specs.declared.make.Make.{Make}
use Rattle.cv_syntax.specs.declared.make.Make.TheVariants as make
use Rattle.cv_syntax_trees.specs.Head.{weight}
use Rattle.cv_syntax.specs.Planting.{overs}
use Rattle.cv_syntax.specs.Postorder.{postorder}
use Rattle.cv_syntax_trees.specs.Tree.{Tree, Empty, Node, size, depth}
use Rattle.cv_meaning.specs.Still.{defines}
use Rattle.cv_steps.specs.Changes.{without, only}
use Rattle.cv_syntax.proofs.Trees.{size_Empty}
use Rattle.cv_syntax.proofs.Walking.{size_node, depth_node}
use Rattle.cv_path.proofs.extents.Extents.{depth_Empty}
use Rattle.cv_syntax.proofs.listing.Lists.{Listed, listed_end, listed_on, listed_same, overs_append}
use Rattle.cv_edit_places.specs.Dropping.{nodes_without}

-- what stays at a node

module _ (x : ℕ) (t : Tree) (h : Head) (a b : Tree) (e : t ≡ Node h a b) where
  pub without_gone : defines (only x) h ≡ true → without (only x) t ≡ without (only x) b
  unfolding without
  without_gone d = ap (without (only x)) e ∙ ap (λ v. cond v (without (only x) b) (Node h (without (only x) a) (without (only x) b))) d

  pub without_stays : defines (only x) h ≡ false → without (only x) t ≡ Node h (without (only x) a) (without (only x) b)
  unfolding without
  without_stays d = ap (without (only x)) e ∙ ap (λ v. cond v (without (only x) b) (Node h (without (only x) a) (without (only x) b))) d

pub without_Empty : (x : ℕ) (t : Tree) → t ≡ Empty → without (only x) t ≡ Empty
unfolding without
without_Empty x t e = ap (without (only x)) e

pub size_without_law : (x : ℕ) (t : Tree) → size (without (only x) t) ≤ size t
unfolding size without
size_without_law x Empty = omega arith
size_without_law x (Node h a b) = go (defines (only x) h) (size_without_law x a) (size_without_law x b)
  where
    go : (v : Bool) → size (without (only x) a) ≤ size a → size (without (only x) b) ≤ size b → size (cond v (without (only x) b) (Node h (without (only x) a) (without (only x) b))) ≤ weight h + size a + size b
    go true k l = omega arith
    go false k l = omega arith

-- lists

pub overs_without : (x : ℕ) (t : Tree) → overs (postorder (without (only x) t)) ≡ nodes_without x t
unfolding postorder without nodes_without
overs_without x Empty = refl
overs_without x (Node h a b) = go (defines (only x) h) (overs_without x a) (overs_without x b)
  where
    go : (v : Bool) → overs (postorder (without (only x) a)) ≡ nodes_without x a → overs (postorder (without (only x) b)) ≡ nodes_without x b → overs (postorder (cond v (without (only x) b) (Node h (without (only x) a) (without (only x) b)))) ≡ cond v (nodes_without x b) (nodes_without x a + nodes_without x b + 1)
    go true k l = l
    go false k l =
        let c : Tree = without (only x) a in
        let d : Tree = without (only x) b in
        omega (arith, k, l, overs_append (postorder c) (postorder d ++ make.Over h ∷ []), overs_append (postorder d) (make.Over h ∷ []))

module _ (x : ℕ) (t : Tree) (h : Head) (a b : Tree) (e : t ≡ Node h a b) where
  pub size_gone : defines (only x) h ≡ true → size (without (only x) t) ≡ size (without (only x) b)
  size_gone d = ap size (without_gone x t h a b e d)

  pub size_stays : defines (only x) h ≡ false → size (without (only x) t) ≡ weight h + size (without (only x) a) + size (without (only x) b)
  size_stays d = size_node (without (only x) t) h (without (only x) a) (without (only x) b) (without_stays x t h a b e d)

  pub depth_of_gone : defines (only x) h ≡ true → depth (without (only x) t) ≡ depth (without (only x) b)
  depth_of_gone d = ap depth (without_gone x t h a b e d)

  pub depth_stays : defines (only x) h ≡ false → depth (without (only x) t) ≡ weight h + max (depth (without (only x) a)) (depth (without (only x) b))
  depth_stays d = depth_node (without (only x) t) h (without (only x) a) (without (only x) b) (without_stays x t h a b e d)

  -- what is left to list
  pub listed_gone : (makes goal : List Make) (heads : List Head) → defines (only x) h ≡ true → Listed makes (postorder (without (only x) t)) heads goal → Listed makes (postorder (without (only x) b)) heads goal
  listed_gone makes goal heads d l = listed_same makes makes goal heads (without (only x) t) (without (only x) b) (without_gone x t h a b e d) l

  pub listed_stays : (makes more goal : List Make) (heads higher : List Head) → defines (only x) h ≡ false → Listed makes (postorder (without (only x) t)) heads goal
      → more ≡ makes ++ postorder (without (only x) a) → higher ≡ heads ++ h ∷ [] → Listed more (postorder (without (only x) b)) higher goal
  listed_stays makes more goal heads higher d l f g = listed_on makes more goal heads (without (only x) t) higher h (without (only x) a) (without (only x) b) (without_stays x t h a b e d) l f g

pub size_ends : (x : ℕ) (t : Tree) → t ≡ Empty → size (without (only x) t) ≡ 0
size_ends x t e = size_Empty (without (only x) t) (without_Empty x t e)

pub depth_ends : (x : ℕ) (t : Tree) → t ≡ Empty → depth (without (only x) t) ≡ 0
depth_ends x t e = depth_Empty (without (only x) t) (without_Empty x t e)

pub listed_ends : (x : ℕ) (t : Tree) (makes more all goal : List Make) (heads : List Head) → t ≡ Empty → Listed makes (postorder (without (only x) t)) heads goal → more ≡ makes ++ make.Nothing ∷ [] → all ≡ more ++ map make.Over (reverse heads) → all ≡ goal
listed_ends x t makes more all goal heads e l f g = listed_end makes more goal heads (without (only x) t) all (without_Empty x t e) l f g
