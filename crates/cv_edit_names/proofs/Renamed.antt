-- Trees with another name in the place of a variable's, and with names for reads of cells: as large, as deep, and node by node.
use Rattle.std.proofs.Common.{◌≡◌, ℕ, ◌+◌, max, List, Option, Some, None, false, arith, refl, sym, ap, ap₂, ◌∙◌}
use Rattle.std.specs.Prelude.{if◌then◌else◌}
use Rattle.cv_syntax_trees.specs.declared.head.Head.{Head}
use Rattle.cv_syntax_trees.specs.declared.head.Head.TheVariants.{Binder, Call, Key, Leaf, Let, Name, New, Read, Repl}
use Rattle.cv_syntax_trees.specs.Head.{weight}
use Rattle.cv_syntax_trees.specs.Tree.{Tree, Empty, Node, size, depth}
use Rattle.cv_scene.specs.Scenes.{head_names}
use Rattle.cv_steps.specs.Renaming.{renamed, renamed_head}
use Rattle.cv_edit_names.specs.Cells.{called_head, name_of, with_names}

module _ (x y : ℕ) where
  -- a renamed node counts as the node does
  pub weighed : (h : Head) → weight (renamed_head x y h) ≡ weight h
  weighed (Repl i n) = refl
  weighed (Name i) = refl
  weighed (New z T) = refl
  weighed (Let z T) = refl
  weighed (Binder z T) = refl
  weighed (Leaf z) = refl
  weighed (Read z) = refl
  weighed (Key z) = refl
  weighed (Call z l) = refl
  weighed h = refl

  pub sized : (t : Tree) → size (renamed x y t) ≡ size t
  unfolding size renamed
  sized Empty = refl
  sized (Node h a b) = omega (arith, weighed h, sized a, sized b)

  pub deep : (t : Tree) → depth (renamed x y t) ≡ depth t
  unfolding depth renamed
  deep Empty = refl
  deep (Node h a b) = ap₂ ◌+◌ (weighed h) (ap₂ max (deep a) (deep b))

  -- a node without the name stays
  pub head_stays : (h : Head) → head_names x h ≡ false → renamed_head x y h ≡ h
  head_stays (Repl i n) e = ap (λ b. Repl (if b then y else i) n) e
  head_stays (Name i) e = ap (λ b. Name (if b then y else i)) e
  head_stays (New z T) e = ap (λ b. New (if b then y else z) T) e
  head_stays (Let z T) e = ap (λ b. Let (if b then y else z) T) e
  head_stays (Binder z T) e = ap (λ b. Binder (if b then y else z) T) e
  head_stays (Leaf z) e = ap (λ b. Leaf (if b then y else z)) e
  head_stays (Read z) e = ap (λ b. Read (if b then y else z)) e
  head_stays (Key z) e = ap (λ b. Key (if b then y else z)) e
  head_stays (Call z l) e = ap (λ b. Call (if b then y else z) l) e
  head_stays h e = refl

  pub renamed_node : (t : Tree) (h : Head) (a b : Tree) → t ≡ Node h a b → renamed x y t ≡ Node (renamed_head x y h) (renamed x y a) (renamed x y b)
  unfolding renamed
  renamed_node t h a b e = ap (renamed x y) e

  pub renamed_nothing : (t : Tree) → t ≡ Empty → renamed x y t ≡ Empty
  unfolding renamed
  renamed_nothing t e = ap (renamed x y) e

called_weight : (h : Head) (o : Option ℕ) → weight (called_head h o) ≡ weight h
called_weight (Leaf x) None = refl
called_weight (Leaf x) (Some y) = refl
called_weight (Read x) None = refl
called_weight (Read x) (Some y) = refl
called_weight h o = refl

module _ (named : List (Tree × ℕ)) where
  pub named_size : (t : Tree) → size (with_names named t) ≡ size t
  unfolding size with_names
  named_size Empty = refl
  named_size (Node h a b) = omega (arith, called_weight h (name_of named (Node h a b)), named_size a, named_size b)

  pub named_depth : (t : Tree) → depth (with_names named t) ≡ depth t
  unfolding depth with_names
  named_depth Empty = refl
  named_depth (Node h a b) = ap₂ ◌+◌ (called_weight h (name_of named (Node h a b))) (ap₂ max (named_depth a) (named_depth b))

  pub named_node : (t : Tree) (h : Head) (a b : Tree) → t ≡ Node h a b → with_names named t ≡ Node (called_head h (name_of named t)) (with_names named a) (with_names named b)
  unfolding with_names
  named_node t h a b e = ap (with_names named) e ∙ ap (λ u. Node (called_head h (name_of named u)) (with_names named a) (with_names named b)) (sym e)

  pub named_nothing : (t : Tree) → t ≡ Empty → with_names named t ≡ Empty
  unfolding with_names
  named_nothing t e = ap (with_names named) e
