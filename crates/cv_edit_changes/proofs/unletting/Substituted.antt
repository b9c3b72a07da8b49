-- Trees with terms for indices, node by node, and how large they are.
use Rattle.std.proofs.Common.{◌≡◌, ℕ, ◌+◌, ◌*◌, ◌≤◌, max, List, [], ◌∷◌, Option, Some, None, refl, sym, ap, ◌∙◌, arith, Bool, true, false, cond, ◌==◌}
use Rattle.std.specs.Prelude.{option_map}
use Rattle.cv_syntax_trees.specs.declared.head.Head.{Head}
use Rattle.cv_syntax_trees.specs.declared.head.Head.TheVariants.{Leaf}
use Rattle.cv_syntax_trees.specs.Head.{weight}
use Rattle.cv_syntax_trees.specs.Tree.{Tree, Empty, Node, size, depth}
use Rattle.cv_syntax.proofs.Trees.{size_Empty}
use Rattle.cv_syntax.proofs.Walking.{depth_node, size_node}
use Rattle.cv_path.proofs.extents.Extents.{depth_Empty}
use Rattle.cv_scene.specs.lines.Given.{given_for, or_node, term_for, with_given}

-- what was found, and what it stands for

pub some_found : {A B : Type 0} (f : A → B) (o : Option A) (s : Option B) (x : A) → option_map f o ≡ s → o ≡ Some x → s ≡ Some (f x)
some_found f o s x e i = sym e ∙ ap (option_map f) i

pub none_found : {A B : Type 0} (f : A → B) (o : Option A) (s : Option B) → option_map f o ≡ s → o ≡ None → s ≡ None
none_found f o s e i = sym e ∙ ap (option_map f) i

module _ (is : List ℕ) (ts : Tree) where
  pub under_Empty : (t : Tree) → t ≡ Empty → with_given is ts t ≡ Empty
  unfolding with_given
  under_Empty t e = ap (with_given is ts) e

  pub under_nothing : (t : Tree) → t ≡ Empty → size (with_given is ts t) ≡ 0
  under_nothing t e = size_Empty (with_given is ts t) (under_Empty t e)

  pub under_flat : (t : Tree) → t ≡ Empty → depth (with_given is ts t) ≡ 0
  under_flat t e = depth_Empty (with_given is ts t) (under_Empty t e)

  module _ (t : Tree) (h : Head) (a b : Tree) (e : t ≡ Node h a b) where
    pub under_given : (u : Tree) → given_for is ts h ≡ Some u → with_given is ts t ≡ u
    unfolding with_given
    under_given u g = ap (with_given is ts) e ∙ ap (λ o. or_node o h (with_given is ts a) (with_given is ts b)) g

    pub under_stays : given_for is ts h ≡ None → with_given is ts t ≡ Node h (with_given is ts a) (with_given is ts b)
    unfolding with_given
    under_stays g = ap (with_given is ts) e ∙ ap (λ o. or_node o h (with_given is ts a) (with_given is ts b)) g

    pub under_size : given_for is ts h ≡ None → size (with_given is ts t) ≡ weight h + size (with_given is ts a) + size (with_given is ts b)
    under_size g = size_node (with_given is ts t) h (with_given is ts a) (with_given is ts b) (under_stays g)

    pub under_depth : given_for is ts h ≡ None → depth (with_given is ts t) ≡ weight h + max (depth (with_given is ts a)) (depth (with_given is ts b))
    under_depth g = depth_node (with_given is ts t) h (with_given is ts a) (with_given is ts b) (under_stays g)

-- how large they are at most

term_small : (is : List ℕ) (ts : Tree) (x : ℕ) (u : Tree) → term_for is ts x ≡ Some u → size u ≤ size ts
unfolding size
term_small [] ts x u e = absurd (cc)
term_small (i ∷ is) Empty x u e = absurd (cc)
term_small (i ∷ is) (Node h m more) x u e = go (i == x) (term_small is more x u) e
  where
    go : (v : Bool) → (term_for is more x ≡ Some u → size u ≤ size more) → cond v (Some m) (term_for is more x) ≡ Some u → size u ≤ weight h + size m + size more
    go true k f = let g : m ≡ u = cc in omega (arith, ap size g)
    go false k f = omega (arith, k f)

pub under_small : (is : List ℕ) (ts t : Tree) → size (with_given is ts t) ≤ size t * (1 + size ts)
unfolding with_given size
under_small is ts Empty = omega arith
under_small is ts (Node (Leaf x) a b) = go (term_for is ts x) refl (under_small is ts a) (under_small is ts b)
  where
    go : (o : Option Tree) → term_for is ts x ≡ o → size (with_given is ts a) ≤ size a * (1 + size ts) → size (with_given is ts b) ≤ size b * (1 + size ts) → size (or_node o (Leaf x) (with_given is ts a) (with_given is ts b)) ≤ (1 + size a + size b) * (1 + size ts)
    go None e k l = omega (arith, k, l)
    go (Some u) e k l = omega (arith, term_small is ts x u e)
under_small is ts (Node h a b) = omega (arith, under_small is ts a, under_small is ts b)
