-- What stays on the way down to a place.
use Rattle.std.proofs.Common.{◌≡◌, ℕ, ◌+◌, ◌-◌, ◌<◌, ◌≤◌, Bool, true, false, cond, List, [], ◌∷◌, ◌++◌, length, Option, Some, None, refl, sym, ap, ap₂, subst, unwrap_or, ◌∙◌, arith, nat_lt, le-ltb, lt-ltb}
use Rattle.std.specs.Prelude.{All}
use Rattle.std.proofs.lemmas.List.Elements.{All-pop, All-push, All-same}
use Rattle.cv_pool.specs.KindTree.{KindTree}
use Rattle.cv_pool.specs.Nodes.{ChildBelow}
use Rattle.cv_pool.specs.declared.node.NodeId.{NodeId}
use Rattle.cv_pool.specs.PoolView.{PoolView, Grows}
use Rattle.cv_syntax.proofs.Buildings.{child_grown}
use Rattle.cv_syntax.proofs.Trees.{empty_at, size_Empty}
use Rattle.cv_syntax.proofs.Walking.{size_node}
use Rattle.cv_syntax_trees.specs.declared.head.Head.{Head}
use Rattle.cv_syntax_trees.specs.Head.{weight}
use Rattle.cv_syntax_trees.specs.Tree.{Tree, Empty, Node, second, size, subtree}
use Rattle.cv_syntax.specs.PoolTrees.{tree_at}
use Rattle.cv_syntax.specs.Walks.{above}
use Rattle.cv_meaning.specs.Replaced.{replaced}
use Rattle.cv_path.specs.declared.place.Lies.TheVariants.{Here, Within, Behind}
use Rattle.cv_path.specs.declared.replacing.Turn.{Turn}
use Rattle.cv_path.specs.Places.{LiesAt, nodes_above}
use Rattle.cv_path.specs.Ways.{turned, led}

-- a choice between three values by where a place lies
module _ {A : Type 0} (h : Head) (a : Tree) (p : ℕ) (x y z : A) where
  pub choice_here : LiesAt h a p Here → cond (nat_lt p (weight h)) x (cond (nat_lt p (weight h + size a)) y z) ≡ x
  choice_here l = ap (λ v. cond v x (cond (nat_lt p (weight h + size a)) y z)) (lt-ltb p (weight h) l)

  pub choice_within : (q : ℕ) → LiesAt h a p (Within q) → cond (nat_lt p (weight h)) x (cond (nat_lt p (weight h + size a)) y z) ≡ y
  choice_within q l = let l0 : weight h + q ≡ p = l.0 in let l1 : q < size a = l.1 in ap₂ (λ v w. cond v x (cond w y z)) (le-ltb p (weight h) (omega arith)) (lt-ltb p (weight h + size a) (omega arith))

  pub choice_behind : (q : ℕ) → LiesAt h a p (Behind q) → cond (nat_lt p (weight h)) x (cond (nat_lt p (weight h + size a)) y z) ≡ z
  choice_behind q l = let m : weight h + size a + q ≡ p = l in ap₂ (λ v w. cond v x (cond w y z)) (le-ltb p (weight h) (omega arith)) (le-ltb p (weight h + size a) (omega arith))

pub less_within : (h : Head) (a : Tree) (p q : ℕ) → LiesAt h a p (Within q) → p - weight h ≡ q
less_within h a p q l = let l0 : weight h + q ≡ p = l.0 in omega arith

pub less_behind : (h : Head) (a : Tree) (p q : ℕ) → LiesAt h a p (Behind q) → p - (weight h + size a) ≡ q
less_behind h a p q l = let m : weight h + size a + q ≡ p = l in omega arith

module _ (t : Tree) (h : Head) (a b : Tree) (p q : ℕ) (e : t ≡ Node h a b) where
  pub subtree_here : LiesAt h a p Here → subtree t p ≡ Some t
  unfolding subtree
  subtree_here l = ap (λ u. subtree u p) e ∙ (choice_here h a p (Some (Node h a b)) (subtree a (p - weight h)) (subtree b (p - (weight h + size a))) l ∙ ap Some (sym e))

  pub subtree_within : LiesAt h a p (Within q) → subtree t p ≡ subtree a q
  unfolding subtree
  subtree_within l = ap (λ u. subtree u p) e ∙ (choice_within h a p (Some (Node h a b)) (subtree a (p - weight h)) (subtree b (p - (weight h + size a))) q l ∙ ap (subtree a) (less_within h a p q l))

  pub subtree_behind : LiesAt h a p (Behind q) → subtree t p ≡ subtree b q
  unfolding subtree
  subtree_behind l = ap (λ u. subtree u p) e ∙ (choice_behind h a p (Some (Node h a b)) (subtree a (p - weight h)) (subtree b (p - (weight h + size a))) q l ∙ ap (subtree b) (less_behind h a p q l))

  pub above_here : LiesAt h a p Here → nodes_above t p ≡ 0
  unfolding nodes_above
  above_here l = ap (λ u. nodes_above u p) e ∙ choice_here h a p 0 (nodes_above a (p - weight h) + 1) (nodes_above b (p - (weight h + size a)) + 1) l

  pub above_within : LiesAt h a p (Within q) → nodes_above t p ≡ nodes_above a q + 1
  unfolding nodes_above
  above_within l = ap (λ u. nodes_above u p) e ∙ (choice_within h a p 0 (nodes_above a (p - weight h) + 1) (nodes_above b (p - (weight h + size a)) + 1) q l ∙ ap (λ n. nodes_above a n + 1) (less_within h a p q l))

  pub above_behind : LiesAt h a p (Behind q) → nodes_above t p ≡ nodes_above b q + 1
  unfolding nodes_above
  above_behind l = ap (λ u. nodes_above u p) e ∙ (choice_behind h a p 0 (nodes_above a (p - weight h) + 1) (nodes_above b (p - (weight h + size a)) + 1) q l ∙ ap (λ n. nodes_above b n + 1) (less_behind h a p q l))

  pub replaced_here : (new : Tree) → LiesAt h a p Here → replaced t p new ≡ new
  unfolding replaced
  replaced_here new l = ap (λ u. replaced u p new) e ∙ choice_here h a p new (Node h (replaced a (p - weight h) new) b) (Node h a (replaced b (p - (weight h + size a)) new)) l

  pub replaced_within : (new : Tree) → LiesAt h a p (Within q) → turned false t (replaced a q new) ≡ replaced t p new
  unfolding replaced
  replaced_within new l =
      ap (λ u. turned false u (replaced a q new)) e
      ∙ sym (ap (λ u. replaced u p new) e ∙ (choice_within h a p new (Node h (replaced a (p - weight h) new) b) (Node h a (replaced b (p - (weight h + size a)) new)) q l ∙ ap (λ n. Node h (replaced a n new) b) (less_within h a p q l)))

  pub replaced_behind : (new : Tree) → LiesAt h a p (Behind q) → turned true t (replaced b q new) ≡ replaced t p new
  unfolding replaced
  replaced_behind new l =
      ap (λ u. turned true u (replaced b q new)) e
      ∙ sym (ap (λ u. replaced u p new) e ∙ (choice_behind h a p new (Node h (replaced a (p - weight h) new) b) (Node h a (replaced b (p - (weight h + size a)) new)) q l ∙ ap (λ n. Node h a (replaced b n new)) (less_behind h a p q l)))

pub subtree_empty : (t : Tree) (p : ℕ) → t ≡ Empty → subtree t p ≡ None
unfolding subtree
subtree_empty t p e = ap (λ u. subtree u p) e

pub led_last : (trees : List KindTree) (ws : List Turn) (t : Turn) (new : Tree) → led trees (ws ++ t ∷ []) new ≡ led trees ws (turned t.second (tree_at trees (Some t.node)) new)
led_last trees [] t new = refl
led_last trees (w ∷ ws) t new = ap (turned w.second (tree_at trees (Some w.node))) (led_last trees ws t new)

abbrev pub turn_of : NodeId → Bool → Turn
turn_of n s = record { node = n; second = s }

pub live_at : (n root : ℕ) (o : Option NodeId) (k : NodeId) → o ≡ Some k → ChildBelow (root + 1) o → root < n → k.0 < n
live_at n root o k e l m = let b : k.0 < root + 1 = subst (ChildBelow (root + 1)) e l in omega arith

pub above_below : (o : Option NodeId) (n : ℕ) → ChildBelow n o → above o ≤ n
above_below None n l = omega arith
above_below (Some k) n l = let m : k.0 < n = l in omega arith

-- one node more on the way
pub way_goes : (trees : List KindTree) (ws vs : List Turn) (t : Turn) (s : Bool) (below here goal : Tree) → vs ≡ ws ++ t ∷ [] → t.second ≡ s → turned s (tree_at trees (Some t.node)) below ≡ here → led trees ws here ≡ goal → led trees vs below ≡ goal
way_goes trees ws vs t s below here goal e f g i =
    ap (λ l. led trees l below) e ∙ (led_last trees ws t below ∙ (ap (led trees ws) (ap (λ v. turned v (tree_at trees (Some t.node)) below) f ∙ g) ∙ i))

-- its nodes are live
pub way_live : (n : ℕ) (ws vs : List Turn) (t : Turn) → vs ≡ ws ++ t ∷ [] → t.node.0 < n → All (λ (u : Turn). u.node.0 < n) ws → All (λ (u : Turn). u.node.0 < n) vs
way_live n ws vs t e l a = All-same (λ (u : Turn). u.node.0 < n) vs (ws ++ t ∷ []) e (All-push (λ (u : Turn). u.node.0 < n) ws t a l)

pub way_last : (n : ℕ) (ws vs : List Turn) (t : Turn) → ws ≡ vs ++ t ∷ [] → All (λ (u : Turn). u.node.0 < n) ws → t.node.0 < n
way_last n ws vs t e a = (All-pop (λ (u : Turn). u.node.0 < n) ws vs (Some t) e a).1

pub way_less : (n : ℕ) (ws vs : List Turn) (t : Turn) → ws ≡ vs ++ t ∷ [] → All (λ (u : Turn). u.node.0 < n) ws → All (λ (u : Turn). u.node.0 < n) vs
way_less n ws vs t e a = (All-pop (λ (u : Turn). u.node.0 < n) ws vs (Some t) e a).0

pub turned_second : (t : Tree) (h : Head) (a b new : Tree) (s : Bool) → t ≡ Node h a b → s ≡ true → Node h a new ≡ turned s t new
turned_second t h a b new s e f = sym (ap₂ (λ v u. turned v u new) f e)

pub turned_first : (t : Tree) (h : Head) (a b new : Tree) (s : Bool) → t ≡ Node h a b → s ≡ false → Node h new b ≡ turned s t new
turned_first t h a b new s e f = sym (ap₂ (λ v u. turned v u new) f e)

-- one node more is made
pub way_back : (old now new : PoolView) (ws vs : List Turn) (t : Turn) (n : Option NodeId) (r : NodeId) (goal : Tree) → ws ≡ vs ++ t ∷ [] → Grows old now → All (λ (u : Turn). u.node.0 < length old.trees) ws → tree_at new.trees (Some r) ≡ turned t.second (tree_at now.trees (Some t.node)) (tree_at now.trees n) → led old.trees ws (tree_at now.trees n) ≡ goal → led old.trees vs (tree_at new.trees (Some r)) ≡ goal
way_back old now new ws vs t n r goal e g a m i =
    let live : t.node.0 < length old.trees = way_last (length old.trees) ws vs t e a in
    ap (led old.trees vs) (m ∙ ap (λ u. turned t.second u (tree_at now.trees n)) (child_grown old now (Some t.node) g live))
    ∙ (sym (led_last old.trees vs t (tree_at now.trees n)) ∙ (ap (λ l. led old.trees l (tree_at now.trees n)) (sym e) ∙ i))

-- a node that is there
pub taken : (f : Option NodeId → Tree) (o : Option NodeId) (n r : NodeId) → (o ≡ None → Some n ≡ None) → r ≡ unwrap_or o n → f (Some r) ≡ f o
taken f None n r k e = absurd (clash (k refl))
  where
    clash : Some n ≡ None → ⊥
    clash g = cc
taken f (Some m) n r k e = ap (λ i. f (Some i)) e

pub ruleset going = (size_node, size_Empty, empty_at)

pub ruleset turning = (turned_second, turned_first)
