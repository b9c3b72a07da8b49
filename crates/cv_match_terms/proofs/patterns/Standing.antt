-- Terms that stand for names, node by node.
use Rattle.std.proofs.Common.{◌≡◌, ℕ, Bool, true, false, Option, Some, None, refl, ap, sym, ◌∙◌}
use Rattle.std.specs.Prelude.{◌==◌, if◌then◌else◌}
use Rattle.cv_syntax_trees.specs.declared.head.Head.{Head}
use Rattle.cv_syntax_trees.specs.declared.head.Head.TheVariants.{Leaf}
use Rattle.cv_syntax_trees.specs.Tree.{Tree, Empty, Node, first, second}
use Rattle.cv_syntax.proofs.Trees.{tree_of_NoTree}
use Rattle.cv_syntax_trees.specs.sites.Sites.{first_of}
use Rattle.cv_scene.specs.Instances.{standing_for, standing_here}
use Rattle.cv_match_terms.specs.patterns.Searches.{stands_in}

abbrev pub here_or : Bool → Tree → Option Tree → Option Tree
here_or true m o = Some m
here_or false m o = o

pub standing_empty : (x : ℕ) (m : Tree) → standing_for x Empty m ≡ None
unfolding standing_for
standing_empty x m = refl

here_leaf : (x : ℕ) (h : Head) (m : Tree) (o : Option Tree) → first_of (standing_here x h m) o ≡ here_or (stands_in x h) m o
here_leaf x (Leaf y) m o = by_test (y == x)
  where
    by_test : (b : Bool) → first_of (if b then Some m else None) o ≡ here_or b m o
    by_test true = refl
    by_test false = refl
here_leaf x h m o = refl

pub standing_node : (x : ℕ) (h : Head) (a b m : Tree) → standing_for x (Node h a b) m ≡ here_or (stands_in x h) m (first_of (standing_for x a (first m)) (standing_for x b (second m)))
unfolding standing_for
standing_node x h a b m = here_leaf x h m (first_of (standing_for x a (first m)) (standing_for x b (second m)))

-- node by node
module _ (x : ℕ) (t m : Tree) where
  pub standing_end : t ≡ Empty → None ≡ standing_for x t m
  standing_end e = sym (ap (λ u. standing_for x u m) e ∙ standing_empty x m)

  module _ (h : Head) (a b : Tree) (e : t ≡ Node h a b) (v : Bool) (f : v ≡ stands_in x h) where
    whole : standing_for x t m ≡ here_or v m (first_of (standing_for x a (first m)) (standing_for x b (second m)))
    whole = ap (λ u. standing_for x u m) e ∙ (standing_node x h a b m ∙ ap (λ w. here_or w m (first_of (standing_for x a (first m)) (standing_for x b (second m)))) (sym f))

    pub standing_here_law : v ≡ true → Some m ≡ standing_for x t m
    standing_here_law i = sym (whole ∙ ap (λ w. here_or w m (first_of (standing_for x a (first m)) (standing_for x b (second m)))) i)

    module _ (i : v ≡ false) where
      parts : standing_for x t m ≡ first_of (standing_for x a (first m)) (standing_for x b (second m))
      parts = whole ∙ ap (λ w. here_or w m (first_of (standing_for x a (first m)) (standing_for x b (second m)))) i

      pub standing_first : (s : Tree) → Some s ≡ standing_for x a (first m) → Some s ≡ standing_for x t m
      standing_first s j = sym (parts ∙ ap (λ o. first_of o (standing_for x b (second m))) (sym j))

      pub standing_rest : None ≡ standing_for x a (first m) → standing_for x b (second m) ≡ standing_for x t m
      standing_rest j = sym (parts ∙ ap (λ o. first_of o (standing_for x b (second m))) (sym j))

pub ruleset standing = (tree_of_NoTree)
