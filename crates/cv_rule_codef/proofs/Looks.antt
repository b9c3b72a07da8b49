-- Trees as the code goes through them.
use Rattle.std.proofs.Common.{◌≡◌, ℕ, ◌+◌, ◌≤◌, ◌&&◌, ◌||◌, Bool, true, false, cond, not, refl, ap, ◌∙◌, arith}
use Rattle.cv_syntax_trees.specs.declared.head.Head.{Head}
use Rattle.cv_syntax_trees.specs.declared.head.Head.TheVariants.{Branch, Call, Cons, In, Key, Let, New}
use Rattle.cv_syntax_trees.specs.Head.{weight}
use Rattle.cv_syntax_trees.specs.Tree.{Tree, Empty, Node, same_tree, size}
use Rattle.cv_scope_rules.specs.Made.{made_by}
use Rattle.cv_scope_rules.specs.Sites.{Variable}
use Rattle.cv_rule_codef.specs.Adjacent.{are_joined, behind_item, defines_both, following, is_defined_below, is_replication, sites, stands_above}
use Rattle.cv_rule_codef.specs.Lists.{has_cell, with_cell, without_cell}
use Rattle.cv_rule_codef.specs.Needs.{made_with, made_without}

-- sites

abbrev pub here : ℕ → Head → Tree → ℕ
here x h a = cond (made_by h a (Variable x)) 1 0

pub sites_empty : (x : ℕ) (t : Tree) → t ≡ Empty → sites x t ≡ 0
unfolding sites
sites_empty x t e = ap (sites x) e

pub sites_node : (x : ℕ) (t : Tree) (h : Head) (a b : Tree) → t ≡ Node h a b → sites x t ≡ here x h a + (sites x a + sites x b)
unfolding sites
sites_node x t h a b e = ap (sites x) e

at_most_one : (v : Bool) → cond v 1 0 ≤ 1
at_most_one true = omega arith
at_most_one false = omega arith

here_weighs : (x : ℕ) (h : Head) (a : Tree) → here x h a ≤ weight h
here_weighs x (New y T) a = at_most_one (made_by (New y T) a (Variable x))
here_weighs x (Let y T) a = at_most_one (made_by (Let y T) a (Variable x))
here_weighs x (Key y) a = at_most_one (made_by (Key y) a (Variable x))
here_weighs x (Call y l) a = at_most_one (made_by (Call y l) a (Variable x))
here_weighs x (In c) a = at_most_one (made_by (In c) a (Variable x))
here_weighs x Branch a = at_most_one (made_by Branch a (Variable x))
here_weighs x h a = omega arith

pub sites_small : (x : ℕ) (t : Tree) → sites x t ≤ size t
unfolding sites size
sites_small x Empty = omega arith
sites_small x (Node h a b) = omega (arith, here_weighs x h a, sites_small x a, sites_small x b)

-- adjacent definitions

pub joined_empty : (x y : ℕ) (t : Tree) → t ≡ Empty → are_joined x y t ≡ false
unfolding are_joined
joined_empty x y t e = ap (are_joined x y) e

module _ (x y : ℕ) (t : Tree) (h : Head) (a b : Tree) (e : t ≡ Node h a b) where
  joined_node : are_joined x y t ≡ (defines_both x y h a b || (are_joined x y a || are_joined x y b))
  unfolding are_joined
  joined_node = ap (are_joined x y) e

  pub joined_here : defines_both x y h a b ≡ true → are_joined x y t ≡ true
  joined_here f = joined_node ∙ ap (λ v. v || (are_joined x y a || are_joined x y b)) f

  pub joined_first : defines_both x y h a b ≡ false → are_joined x y a ≡ true → are_joined x y t ≡ true
  joined_first f g = joined_node ∙ (λ i. f i || (g i || are_joined x y b))

  pub joined_second : defines_both x y h a b ≡ false → are_joined x y a ≡ false → are_joined x y t ≡ are_joined x y b
  joined_second f g = joined_node ∙ (λ i. f i || (g i || are_joined x y b))

-- definitions below others

pub below_empty : (x : ℕ) (t : Tree) → t ≡ Empty → is_defined_below x t ≡ false
unfolding is_defined_below
below_empty x t e = ap (is_defined_below x) e

module _ (x : ℕ) (t : Tree) (h : Head) (a b : Tree) (e : t ≡ Node h a b) where
  below_node : is_defined_below x t ≡ (not (is_replication h) && (made_by h a (Variable x) || (is_defined_below x a || is_defined_below x b)))
  unfolding is_defined_below
  below_node = ap (is_defined_below x) e

  pub below_none : is_replication h ≡ true → is_defined_below x t ≡ false
  below_none f = below_node ∙ ap (λ v. not v && (made_by h a (Variable x) || (is_defined_below x a || is_defined_below x b))) f

  module _ (f : is_replication h ≡ false) where
    below_rest : is_defined_below x t ≡ (made_by h a (Variable x) || (is_defined_below x a || is_defined_below x b))
    below_rest = below_node ∙ ap (λ v. not v && (made_by h a (Variable x) || (is_defined_below x a || is_defined_below x b))) f

    pub below_here : made_by h a (Variable x) ≡ true → is_defined_below x t ≡ true
    below_here g = below_rest ∙ ap (λ v. v || (is_defined_below x a || is_defined_below x b)) g

    pub below_first : made_by h a (Variable x) ≡ false → is_defined_below x a ≡ true → is_defined_below x t ≡ true
    below_first g k = below_rest ∙ (λ i. g i || (k i || is_defined_below x b))

    pub below_second : made_by h a (Variable x) ≡ false → is_defined_below x a ≡ false → is_defined_below x t ≡ is_defined_below x b
    below_second g k = below_rest ∙ (λ i. g i || (k i || is_defined_below x b))

pub above_empty : (x y : ℕ) (t : Tree) → t ≡ Empty → stands_above x y t ≡ false
unfolding stands_above
above_empty x y t e = ap (stands_above x y) e

module _ (x y : ℕ) (t : Tree) (h : Head) (a b : Tree) (e : t ≡ Node h a b) where
  abbrev stands_here : Bool
  stands_here = made_by h a (Variable y) && is_defined_below x (following h b)

  above_node : stands_above x y t ≡ (stands_here || (stands_above x y a || stands_above x y b))
  unfolding stands_above
  above_node = ap (stands_above x y) e

  pub above_here : stands_here ≡ true → stands_above x y t ≡ true
  above_here f = above_node ∙ ap (λ v. v || (stands_above x y a || stands_above x y b)) f

  pub above_first : stands_here ≡ false → stands_above x y a ≡ true → stands_above x y t ≡ true
  above_first f g = above_node ∙ (λ i. f i || (g i || stands_above x y b))

  pub above_second : stands_here ≡ false → stands_above x y a ≡ false → stands_above x y t ≡ stands_above x y b
  above_second f g = above_node ∙ (λ i. f i || (g i || stands_above x y b))

-- lists

other_item : (h : Head) (a b : Tree) → (h ≡ Cons → ⊥) → behind_item (Node h a b) ≡ Empty
other_item Cons a b f = absurd (f refl)
other_item h a b f = refl

pub behind_other : (t : Tree) (h : Head) (a b : Tree) → t ≡ Node h a b → (h ≡ Cons → ⊥) → behind_item t ≡ Empty
behind_other t h a b e f = ap behind_item e ∙ other_item h a b f

module _ (c t : Tree) (h : Head) (item more : Tree) (e : t ≡ Node h item more) where
  pub with_later : with_cell c t ≡ Node h item (with_cell c more)
  with_later = ap (with_cell c) e

  pub made_later : made_with t ≡ made_with more + 1
  made_later = ap made_with e

  pub without_here : same_tree item c ≡ true → without_cell c t ≡ more
  without_here f = ap (without_cell c) e ∙ ap (λ v. cond v more (Node h item (without_cell c more))) f

  pub without_later : same_tree item c ≡ false → without_cell c t ≡ Node h item (without_cell c more)
  without_later f = ap (without_cell c) e ∙ ap (λ v. cond v more (Node h item (without_cell c more))) f

  pub none_made : same_tree item c ≡ true → made_without c t ≡ 0
  none_made f = ap (made_without c) e ∙ ap (λ v. cond v 0 (made_without c more + 1)) f

  pub one_made : same_tree item c ≡ false → made_without c t ≡ made_without c more + 1
  one_made f = ap (made_without c) e ∙ ap (λ v. cond v 0 (made_without c more + 1)) f
