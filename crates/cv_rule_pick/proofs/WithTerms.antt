-- The cells of index variables, and trees with terms for them.
use Rattle.std.proofs.Common.{◌≡◌, ℕ, ◌+◌, List, [], take, Some, None, refl, sym, ap, ap₂, ◌∙◌}
use Rattle.cv_syntax_trees.specs.declared.head.Head.{Head}
use Rattle.cv_syntax_trees.specs.declared.head.Head.TheVariants.{Leaf}
use Rattle.cv_syntax_trees.specs.Tree.{Tree, Empty, Node}
use Rattle.cv_syntax.proofs.Trees.{tree_of_NoTree}
use Rattle.cv_scene.specs.lines.Given.{given_for, or_node, with_given}
use Rattle.cv_derive_reasons.specs.substitution.Under.{under}
use Rattle.cv_rule_pick.specs.Needs.{made_with, unless_put}
use Rattle.cv_rule_pick.specs.Picking.{term_of, with_terms}

none_given : (terms : Tree) (h : Head) → given_for [] terms h ≡ None
none_given terms (Leaf x) = refl
none_given terms h = refl

plain : (terms t : Tree) → with_given [] terms t ≡ t
unfolding with_given
plain terms Empty = refl
plain terms (Node h a b) = ap (λ o. or_node o h (with_given [] terms a) (with_given [] terms b)) (none_given terms h) ∙ ap₂ (Node h) (plain terms a) (plain terms b)

-- the first no names are none
pub none_under : (names rs : List (ℕ × ℕ)) (terms t : Tree) → names ≡ take 0 rs → under names terms t ≡ t
none_under names rs terms t e = ap (λ ns. under ns terms t) e ∙ plain terms t

-- a node with terms for cells
module _ (cs : List Tree) (ms t : Tree) (h : Head) (a b : Tree) (e : t ≡ Node h a b) where
  node_is : with_terms cs ms t ≡ or_node (term_of cs ms t) h (with_terms cs ms a) (with_terms cs ms b)
  unfolding with_terms
  node_is = ap (with_terms cs ms) e ∙ ap (λ u. or_node (term_of cs ms u) h (with_terms cs ms a) (with_terms cs ms b)) (sym e)

  made_is : made_with cs ms t ≡ unless_put (term_of cs ms t) (made_with cs ms a + made_with cs ms b + 1)
  unfolding made_with
  made_is = ap (made_with cs ms) e ∙ ap (λ u. unless_put (term_of cs ms u) (made_with cs ms a + made_with cs ms b + 1)) (sym e)

  pub put_here : (m : Tree) → term_of cs ms t ≡ Some m → with_terms cs ms t ≡ m
  put_here m f = node_is ∙ ap (λ o. or_node o h (with_terms cs ms a) (with_terms cs ms b)) f

  pub put_later : term_of cs ms t ≡ None → with_terms cs ms t ≡ Node h (with_terms cs ms a) (with_terms cs ms b)
  put_later f = node_is ∙ ap (λ o. or_node o h (with_terms cs ms a) (with_terms cs ms b)) f

  pub none_made : (m : Tree) → term_of cs ms t ≡ Some m → made_with cs ms t ≡ 0
  none_made m f = made_is ∙ ap (λ o. unless_put o (made_with cs ms a + made_with cs ms b + 1)) f

  pub one_made : term_of cs ms t ≡ None → made_with cs ms t ≡ made_with cs ms a + made_with cs ms b + 1
  one_made f = made_is ∙ ap (λ o. unless_put o (made_with cs ms a + made_with cs ms b + 1)) f

pub put_end : (cs : List Tree) (ms t : Tree) → t ≡ Empty → with_terms cs ms t ≡ Empty
unfolding with_terms
put_end cs ms t e = ap (with_terms cs ms) e

pub made_end : (cs : List Tree) (ms t : Tree) → t ≡ Empty → made_with cs ms t ≡ 0
unfolding made_with
made_end cs ms t e = ap (made_with cs ms) e

pub ruleset cells = (tree_of_NoTree)
