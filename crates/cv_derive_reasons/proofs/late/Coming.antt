-- The walk to a place that looks for definitions of a variable, step by step.
use Rattle.std.proofs.Common.{◌≡◌, ◌&&◌, ◌||◌, not, ℕ, ◌+◌, ◌-◌, Bool, true, false, List, Option, refl, sym, ap, ◌∙◌, arith}
use Rattle.cv_pool.specs.KindTree.{KindTree}
use Rattle.cv_pool.specs.Nodes.{ChildBelow}
use Rattle.cv_pool.specs.declared.node.NodeId.{NodeId}
use Rattle.cv_syntax_trees.specs.declared.head.Head.{Head}
use Rattle.cv_syntax_trees.specs.declared.head.Head.TheVariants.{Branch}
use Rattle.cv_syntax_trees.specs.Head.{weight}
use Rattle.cv_syntax_trees.specs.Tree.{Tree, Empty, Node, size}
use Rattle.cv_syntax.specs.PoolTrees.{tree_at}
use Rattle.cv_syntax.proofs.Walking.{size_node}
use Rattle.cv_path.specs.declared.place.Lies.TheVariants.{Here, Within, Behind}
use Rattle.cv_path.specs.Places.{LiesAt}
use Rattle.cv_path.proofs.Going.{choice_behind, choice_here, choice_within, less_behind, less_within}
use Rattle.cv_scope_rules.specs.Made.{made_by}
use Rattle.cv_scope_rules.specs.Sites.{Variable}
use Rattle.cv_scene.specs.Late.{is_defined_above, is_defined_in, is_free_beside, is_late}
use Rattle.cv_derive_reasons.specs.late.Ways.{IsWayBelow, Leads, is_behind_guards, way_if}

-- a test of a node, of its first child and of its second

pub some_here : (v p q r a : Bool) → v ≡ (p || (q || r)) → a ≡ p → a ≡ true → v ≡ true
some_here v true q r a e f g = e
some_here v false q r a e f g = absurd (cc)

pub some_first : (v p q r a : Bool) → v ≡ (p || (q || r)) → a ≡ q → a ≡ true → v ≡ true
some_first v true q r a e f g = e
some_first v false true r a e f g = e
some_first v false false r a e f g = absurd (cc)

pub some_rest : (v p q r a b : Bool) → v ≡ (p || (q || r)) → a ≡ p → a ≡ false → b ≡ q → b ≡ false → v ≡ r
some_rest v true q r a b e f g h i = absurd (cc)
some_rest v false true r a b e f g h i = absurd (cc)
some_rest v false false r a b e f g h i = e

-- definitions in a tree

pub defined_node : (x : ℕ) (t : Tree) (h : Head) (a b : Tree) → t ≡ Node h a b → is_defined_in x t ≡ (made_by h a (Variable x) || (is_defined_in x a || is_defined_in x b))
unfolding is_defined_in
defined_node x t h a b e = ap (is_defined_in x) e

pub defined_end : (x : ℕ) (t : Tree) → t ≡ Empty → is_defined_in x t ≡ false
unfolding is_defined_in
defined_end x t e = ap (is_defined_in x) e

-- above a place

and_true : (b : Bool) → (b && true) ≡ b
and_true true = refl
and_true false = refl

above_form : (x : ℕ) (h : Head) (a b : Tree) (p : ℕ) → (made_by h a (Variable x) && is_behind_guards h b p) ≡ is_defined_above x h a b p
above_form x Branch a b p = refl
above_form x h a b p = and_true (made_by h a (Variable x))

pub not_above : (x : ℕ) (h : Head) (a b : Tree) (p : ℕ) (c : Bool) → c ≡ made_by h a (Variable x) → c ≡ false → false ≡ is_defined_above x h a b p
not_above x h a b p c e f = sym (sym (above_form x h a b p) ∙ ap (λ d. d && is_behind_guards h b p) (sym e ∙ f))

pub above_there : (x : ℕ) (h : Head) (a b : Tree) (p : ℕ) (c d : Bool) → c ≡ made_by h a (Variable x) → c ≡ true → d ≡ is_behind_guards h b p → d ≡ is_defined_above x h a b p
above_there x h a b p c d e f g = g ∙ (ap (λ k. k && is_behind_guards h b p) (sym f ∙ e) ∙ above_form x h a b p)

-- one step

module _ (x : ℕ) (t : Tree) (h : Head) (a b : Tree) (p : ℕ) (e : t ≡ Node h a b) where
  abbrev within : ℕ → Bool
  within n = is_free_beside x h b && is_late x a n

  abbrev behind : ℕ → Bool
  behind n = not (is_defined_above x h a b n) && (is_free_beside x h a && is_late x b n)

  pub late_here : LiesAt h a p Here → is_late x t p ≡ true
  unfolding is_late
  late_here l = ap (λ u. is_late x u p) e ∙ choice_here h a p true (within (p - weight h)) (behind (p - (weight h + size a))) l

  late_within : (q : ℕ) → LiesAt h a p (Within q) → is_late x t p ≡ within q
  unfolding is_late
  late_within q l = ap (λ u. is_late x u p) e ∙ (choice_within h a p true (within (p - weight h)) (behind (p - (weight h + size a))) q l ∙ ap within (less_within h a p q l))

  late_behind : (q : ℕ) → LiesAt h a p (Behind q) → is_late x t p ≡ behind q
  unfolding is_late
  late_behind q l = ap (λ u. is_late x u p) e ∙ (choice_behind h a p true (within (p - weight h)) (behind (p - (weight h + size a))) q l ∙ ap behind (less_behind h a p q l))

pub leads_within : (trees : List KindTree) (x : ℕ) (t : Tree) (h : Head) (o r : Option NodeId) (p q : ℕ) → t ≡ Node h (tree_at trees o) (tree_at trees r) → LiesAt h (tree_at trees o) p (Within q) → Leads trees x t p (way_if (is_free_beside x h (tree_at trees r)) o q)
leads_within trees x t h o r p q e l = go (is_free_beside x h (tree_at trees r)) (late_within x t h (tree_at trees o) (tree_at trees r) p e q l)
  where
    go : (c : Bool) → is_late x t p ≡ (c && is_late x (tree_at trees o) q) → Leads trees x t p (way_if c o q)
    go true f = (f, omega (arith, size_node t h (tree_at trees o) (tree_at trees r) e))
    go false f = f

pub leads_behind : (trees : List KindTree) (x : ℕ) (t : Tree) (h : Head) (o r : Option NodeId) (p q : ℕ) → t ≡ Node h (tree_at trees o) (tree_at trees r) → LiesAt h (tree_at trees o) p (Behind q)
    → Leads trees x t p (way_if (not (is_defined_above x h (tree_at trees o) (tree_at trees r) q) && is_free_beside x h (tree_at trees o)) r q)
leads_behind trees x t h o r p q e l = go (not (is_defined_above x h (tree_at trees o) (tree_at trees r) q)) (is_free_beside x h (tree_at trees o)) (late_behind x t h (tree_at trees o) (tree_at trees r) p e q l)
  where
    go : (c d : Bool) → is_late x t p ≡ (c && (d && is_late x (tree_at trees r) q)) → Leads trees x t p (way_if (c && d) r q)
    go true true f = (f, omega (arith, size_node t h (tree_at trees o) (tree_at trees r) e))
    go true false f = f
    go false d f = f

pub way_below : (n : ℕ) (c : Bool) (o : Option NodeId) (q : ℕ) → ChildBelow n o → IsWayBelow n (way_if c o q)
way_below n true o q l = l
way_below n false o q l = tt

pub late_end : (x p : ℕ) (t : Tree) → t ≡ Empty → is_late x t p ≡ false
unfolding is_late
late_end x p t e = ap (λ u. is_late x u p) e
