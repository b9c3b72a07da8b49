-- A tree with terms for names, compared with another one node by node.
use Rattle.std.proofs.Common.{◌≡◌, ℕ, Bool, true, false, ◌&&◌, List, Option, Some, None, refl, sym, ap, ap₂, ◌∙◌}
use Rattle.std.specs.Prelude.{if◌then◌else◌, option_map}
use Rattle.std.proofs.lemmas.Bool.{both_ways}
use Rattle.cv_pool.specs.KindTree.{KindTree}
use Rattle.cv_pool.specs.declared.node.NodeId.{NodeId}
use Rattle.cv_syntax_trees.specs.declared.head.Head.{Head}
use Rattle.cv_syntax_trees.specs.Head.{same_head}
use Rattle.cv_syntax_trees.specs.Tree.{Tree, Empty, Node, same_tree}
use Rattle.cv_syntax.specs.PoolTrees.{tree_at}
use Rattle.cv_syntax.proofs.Trees.{same_open, tree_at_None}
use Rattle.cv_scene.specs.Instances.{standing_for}
use Rattle.cv_scene.specs.Scenes.{Scene}
use Rattle.cv_scene.specs.lines.Given.{given_for, with_given}
use Rattle.cv_settling_rules.specs.Equations.{is_of_type}
use Rattle.cv_settling.specs.Instances.{typed_term}
use Rattle.cv_settling.proofs.Matched.{typed_some}
use Rattle.cv_settling.proofs.Measuring.{put_below, put_end, put_here}

module _ (xs : List ℕ) (ms t u : Tree) where
  pub nothing_put : t ≡ Empty → same_tree Empty u ≡ same_tree (with_given xs ms t) u
  nothing_put e = sym (ap (λ v. same_tree v u) (put_end xs ms t e))

  module _ (h : Head) (a b : Tree) (e : t ≡ Node h a b) where
    pub term_put : (m : Tree) → Some m ≡ given_for xs ms h → same_tree m u ≡ same_tree (with_given xs ms t) u
    term_put m f = sym (ap (λ v. same_tree v u) (put_here xs ms t h a b e m f))

    module _ (none : None ≡ given_for xs ms h) where
      pub put_short : u ≡ Empty → false ≡ same_tree (with_given xs ms t) u
      put_short f = sym (ap₂ same_tree (put_below xs ms t h a b e none) f ∙ same_open (Node h (with_given xs ms a) (with_given xs ms b)) Empty)

      module _ (k : Head) (c d : Tree) (f : u ≡ Node k c d) (v : Bool) (g : v ≡ same_head h k) where
        both : same_tree (with_given xs ms t) u ≡ (v && (same_tree (with_given xs ms a) c && same_tree (with_given xs ms b) d))
        both =
            ap₂ same_tree (put_below xs ms t h a b e none) f
            ∙ (same_open (Node h (with_given xs ms a) (with_given xs ms b)) (Node k c d)
            ∙ ap (λ (q : Bool). q && (same_tree (with_given xs ms a) c && same_tree (with_given xs ms b) d)) (sym g))

        pub put_other : v ≡ false → false ≡ same_tree (with_given xs ms t) u
        put_other i = sym (both ∙ ap (λ (q : Bool). q && (same_tree (with_given xs ms a) c && same_tree (with_given xs ms b) d)) i)

        module _ (i : v ≡ true) (w : Bool) (j : w ≡ same_tree (with_given xs ms a) c) where
          rest : same_tree (with_given xs ms t) u ≡ (w && same_tree (with_given xs ms b) d)
          rest = both ∙ ap₂ (λ (p q : Bool). p && (q && same_tree (with_given xs ms b) d)) i (sym j)

          pub put_first : w ≡ false → false ≡ same_tree (with_given xs ms t) u
          put_first l = sym (rest ∙ ap (λ (q : Bool). q && same_tree (with_given xs ms b) d) l)

          pub put_rest : w ≡ true → same_tree (with_given xs ms b) d ≡ same_tree (with_given xs ms t) u
          put_rest l = sym (rest ∙ ap (λ (q : Bool). q && same_tree (with_given xs ms b) d) l)

-- a term of a type, where there is one

untyped : (s : Scene) (T : ℕ) → is_of_type s T Empty ≡ false
untyped s T = refl

module _ (s : Scene) (trees : List KindTree) (T x : ℕ) (l t : Tree) (b : Bool) where
  pub typed_there : (o : Option NodeId) → Some (tree_at trees o) ≡ standing_for x l t → b ≡ is_of_type s T (tree_at trees o) → b ≡ true → option_map (λ n. tree_at trees (Some n)) o ≡ typed_term s T x l t
  typed_there (Some n) e f g = ap (λ (c : Bool). if c then Some (tree_at trees (Some n)) else None) (sym g) ∙ typed_some s T x l t (tree_at trees (Some n)) b e f
  typed_there None e f g = absurd (both_ways b (f ∙ (ap (is_of_type s T) (tree_at_None trees) ∙ untyped s T)) g)

  pub not_typed : (o : Option NodeId) → Some (tree_at trees o) ≡ standing_for x l t → b ≡ is_of_type s T (tree_at trees o) → b ≡ false → None ≡ typed_term s T x l t
  not_typed o e f g = ap (λ (c : Bool). if c then Some (tree_at trees o) else None) (sym g) ∙ typed_some s T x l t (tree_at trees o) b e f
