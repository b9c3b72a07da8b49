-- What trees are under a substitution, node by node.
use Rattle.std.proofs.Common.{◌≡◌, ℕ, Bool, true, false, List, [], ◌∷◌, Some, None, refl, sym, ap, ap₂, ◌∙◌}
use Rattle.std.specs.Prelude.{◌==◌, if◌then◌else◌}
use Rattle.cv_syntax_trees.specs.declared.head.Head.{Head}
use Rattle.cv_syntax_trees.specs.declared.head.Head.TheVariants.{Binder}
use Rattle.cv_syntax_trees.specs.Tree.{Tree, Empty, Node, bound_names}
use Rattle.cv_syntax.proofs.ChildReads.{bound_names_Binder, bound_names_other}
use Rattle.cv_syntax.proofs.Trees.{same_open, tree_of_NoTree}
use Rattle.cv_scene.specs.lines.Given.{term_for, given_for, or_node, with_given}

pub under_empty : (is : List ℕ) (terms : Tree) → with_given is terms Empty ≡ Empty
unfolding with_given
under_empty is terms = refl

pub under_node : (is : List ℕ) (terms : Tree) (h : Head) (a b : Tree) → with_given is terms (Node h a b) ≡ or_node (given_for is terms h) h (with_given is terms a) (with_given is terms b)
unfolding with_given
under_node is terms h a b = refl

pub given_nothing : (is : List ℕ) (terms : Tree) (x : ℕ) → terms ≡ Empty → term_for is terms x ≡ None
given_nothing [] terms x e = refl
given_nothing (i ∷ is) terms x e = ap (λ t. term_for (i ∷ is) t x) e

-- the names of binders

module _ (terms : Tree) (x : ℕ) where
  pub given_end : (t : Tree) → t ≡ Empty → None ≡ term_for (bound_names t) terms x
  given_end t e = sym (ap (λ u. term_for (bound_names u) terms x) e)

  module _ (t : Tree) (h : Head) (a b : Tree) (e : t ≡ Node h a b) where
    pub no_binder : ((y T : ℕ) → h ≡ Binder y T → ⊥) → None ≡ term_for (bound_names t) terms x
    no_binder n = sym (ap (λ ns. term_for ns terms x) (bound_names_other t h a b e n))

    module _ (y T : ℕ) (f : h ≡ Binder y T) where
      names : bound_names t ≡ y ∷ bound_names b
      names = bound_names_Binder t h a b y T e f

      pub none_given : terms ≡ Empty → None ≡ term_for (bound_names t) terms x
      none_given g = sym (ap₂ (λ ns u. term_for ns u x) names g)

      module _ (k : Head) (m ms : Tree) (g : terms ≡ Node k m ms) (c : Bool) (i : c ≡ (y == x)) where
        by_binder : term_for (bound_names t) terms x ≡ (if c then Some m else term_for (bound_names b) ms x)
        by_binder = ap₂ (λ ns u. term_for ns u x) names g ∙ ap (λ d. if d then Some m else term_for (bound_names b) ms x) (sym i)

        pub given_here : c ≡ true → Some m ≡ term_for (bound_names t) terms x
        given_here j = sym (by_binder ∙ ap (λ d. if d then Some m else term_for (bound_names b) ms x) j)

        pub given_later : c ≡ false → term_for (bound_names b) ms x ≡ term_for (bound_names t) terms x
        given_later j = sym (by_binder ∙ ap (λ d. if d then Some m else term_for (bound_names b) ms x) j)

pub ruleset instances = (tree_of_NoTree)

pub ruleset unders = (tree_of_NoTree, same_open, under_empty, under_node)
