-- What is read of a child of a node.
use Rattle.std.proofs.Common.{◌≡◌, ℕ, ◌+◌, Bool, true, false, ◌||◌, cond, List, [], ◌∷◌, refl, ap, sym, ◌∙◌, arith, nat_eq, Option, Some, None}
use Rattle.std.specs.Prelude.{IfSome, ◌==◌}
use Rattle.std.specs.HashSet.{Updates}
use Rattle.std.proofs.Math.Path.{fun_ext}
use Rattle.cv_pool.specs.declared.node.NodeId.{NodeId}
use Rattle.cv_pool.specs.KindTree.{KindTree}
use Rattle.cv_syntax_trees.specs.declared.head.Head.{Head}
use Rattle.cv_syntax_trees.specs.declared.head.Head.TheVariants.{Binder}
use Rattle.cv_syntax_trees.specs.Children.{is_empty}
use Rattle.cv_syntax.specs.NameSets.{NameSet, is_in, is_one_of}
use Rattle.cv_syntax_trees.specs.Tree.{Tree, Empty, Node, bound_names, same_tree}
use Rattle.cv_syntax.specs.PoolTrees.{tree_at}
use Rattle.cv_syntax.proofs.Trees.{empty_at}

-- what a smaller tree leaves of a smaller room
pub left_over : (o : Option ℕ) (small more part rest room : ℕ) → part ≡ small + more → rest + more ≡ room → IfSome o (λ left. small + left ≡ rest) → IfSome o (λ left. part + left ≡ room)
left_over None small more part rest room e f i = tt
left_over (Some left) small more part rest room e f i = let j : small + left ≡ rest = i in omega arith

-- a list of binders

pub bound_names_Binder : (t : Tree) (h : Head) (a b : Tree) (x T : ℕ) → t ≡ Node h a b → h ≡ Binder x T → bound_names t ≡ x ∷ bound_names b
bound_names_Binder t h a b x T e f = ap bound_names e ∙ ap (λ k. bound_names (Node k a b)) f

pub bound_names_other : (t : Tree) (h : Head) (a b : Tree) → t ≡ Node h a b → ((x T : ℕ) → h ≡ Binder x T → ⊥) → bound_names t ≡ []
bound_names_other t h a b e n = ap bound_names e ∙ step h a b n
  where
    step : (h : Head) (a b : Tree) → ((x T : ℕ) → h ≡ Binder x T → ⊥) → bound_names (Node h a b) ≡ []
    step (Binder x T) a b n = absurd (n x T refl)
    step h a b n = refl

pub bound_names_None : (trees : List KindTree) (at : Option NodeId) → at ≡ None → bound_names (tree_at trees at) ≡ []
bound_names_None trees at e = ap bound_names (empty_at trees at e)

-- a name more in a set
pub one_more : (m n : NameSet) (x : ℕ) (xs : List ℕ) → Updates nat_eq m n x true → (y : ℕ) → (is_in n y || is_one_of xs y) ≡ (is_in m y || is_one_of (x ∷ xs) y)
one_more m n x xs u y = ap (λ b. b || is_one_of xs y) (u.0 y) ∙ cases (x == y) (is_in m y) (is_one_of xs y)
  where
    cases : (b c d : Bool) → (cond b true c || d) ≡ (c || (b || d))
    cases true true d = refl
    cases true false d = refl
    cases false c d = refl

pub no_more : (m : NameSet) (xs ys : List ℕ) → ys ≡ [] → ((y : ℕ) → (is_in m y || is_one_of ys y) ≡ is_one_of xs y) → is_in m ≡ is_one_of xs
no_more m xs ys e h = fun_ext (λ y. or_nothing (is_in m y) ∙ (ap (λ zs. is_in m y || is_one_of zs y) (sym e) ∙ h y))
  where
    or_nothing : (b : Bool) → b ≡ (b || false)
    or_nothing true = refl
    or_nothing false = refl

-- a tree is the empty one where it is empty
pub same_tree_Empty : (t : Tree) → same_tree Empty t ≡ is_empty t
unfolding same_tree
same_tree_Empty Empty = refl
same_tree_Empty (Node h a b) = refl
