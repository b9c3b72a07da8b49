-- Lists of a pool, as they are read cell by cell.
use Rattle.std.proofs.Common.{◌≡◌, ℕ, ◌+◌, ◌<◌, ◌≤◌, List, [], ◌∷◌, ◌++◌, length, map, Option, Some, None, refl, sym, ap, subst, ◌∙◌, arith}
use Rattle.std.specs.Prelude.{◌↔◌, All, IsNone, slice_index_or, suc, zero}
use Rattle.std.proofs.lemmas.Bool.{both_ways}
use Rattle.std.proofs.lemmas.List.Elements.{All-append}
use Rattle.std.proofs.lemmas.List.{append_assoc, append-nil, get_or_past, map-append}
use Rattle.cv_pool.specs.KindTree.{KindTree, NoTree}
use Rattle.cv_pool.specs.declared.node.NodeId.{NodeId}
use Rattle.cv_syntax.specs.PoolTrees.{tree_at, tree_of}
use Rattle.cv_syntax.specs.declared.open.Opened.{Opened}
use Rattle.cv_syntax_trees.specs.declared.head.Head.{Head}
use Rattle.cv_syntax_trees.specs.declared.head.Head.TheVariants.{Binder}
use Rattle.cv_syntax_trees.specs.Tree.{Tree, Empty, Node}
use Rattle.cv_grounds.specs.Lists.{binder_names, full_items, trees_at}

-- how many nodes there may be below a child, so that reading comes to an end
abbrev pub numbers_below : Option NodeId → ℕ
numbers_below None = 0
numbers_below (Some n) = n.0 + 1

-- no tree stands at a number that isn't there
pub no_tree : (trees : List KindTree) (n : NodeId) → length trees ≤ n.0 → tree_at trees (Some n) ≡ Empty
unfolding tree_of
no_tree trees n l = ap tree_of (get_or_past trees n.0 NoTree l)

pub no_child : (trees : List KindTree) → tree_at trees None ≡ Empty
unfolding tree_of
no_child trees = refl

-- items

items_behind : (h : Head) (a b : Tree) → (a ≡ Empty → ⊥) → full_items (Node h a b) ≡ a ∷ full_items b
unfolding full_items
items_behind h Empty b f = absurd (f refl)
items_behind h (Node k c d) b f = refl

items_after : (h : Head) (b : Tree) → full_items (Node h Empty b) ≡ full_items b
unfolding full_items
items_after h b = refl

items_nowhere : full_items Empty ≡ []
unfolding full_items
items_nowhere = refl

some_none : (n : NodeId) → ◌≡◌ {A = Option NodeId} (Some n) None → ⊥
some_none n e = cc

is_child : (o : Option NodeId) (n : NodeId) → o ≡ Some n → IsNone o → ⊥
is_child None n e i = some_none n (sym e)
is_child (Some m) n e i = both_ways _ i refl

module _ (trees : List KindTree) (at : Option NodeId) (n : NodeId) (o : Opened) (is : at ≡ Some n) (tree : tree_at trees (Some n) ≡ Node o.head (tree_at trees o.first) (tree_at trees o.second)) where
  -- the item at a cell comes behind the others
  pub item_pushed : (ns : List NodeId) (item : NodeId) (whole : List Tree) → o.first ≡ Some item → (IsNone o.first ↔ (tree_at trees o.first ≡ Empty)) → trees_at trees ns ++ full_items (tree_at trees at) ≡ whole
      → trees_at trees (ns ++ item ∷ []) ++ full_items (tree_at trees o.second) ≡ whole
  item_pushed ns item whole f none told =
      let full : tree_at trees o.first ≡ Empty → ⊥ = λ e. is_child o.first item f (none.1 e) in
      ap (λ ts. ts ++ full_items (tree_at trees o.second)) (map-append (λ m. tree_at trees (Some m)) ns (item ∷ []))
      ∙ (append_assoc (trees_at trees ns) (tree_at trees (Some item) ∷ []) (full_items (tree_at trees o.second))
      ∙ (ap (λ m. trees_at trees ns ++ tree_at trees m ∷ full_items (tree_at trees o.second)) (sym f)
      ∙ (ap (λ ts. trees_at trees ns ++ ts) (sym (ap full_items (ap (tree_at trees) is ∙ tree) ∙ items_behind o.head (tree_at trees o.first) (tree_at trees o.second) full))
      ∙ told)))

  -- a cell without an item is passed over
  pub item_passed : (ns : List NodeId) (whole : List Tree) → o.first ≡ None → trees_at trees ns ++ full_items (tree_at trees at) ≡ whole → trees_at trees ns ++ full_items (tree_at trees o.second) ≡ whole
  item_passed ns whole f told =
      ap (λ ts. trees_at trees ns ++ ts)
      (sym (ap full_items (ap (tree_at trees) is ∙ tree) ∙ (ap (λ m. full_items (Node o.head (tree_at trees m) (tree_at trees o.second))) f ∙ (ap (λ t. full_items (Node o.head t (tree_at trees o.second))) (no_child trees) ∙ items_after o.head (tree_at trees o.second)))))
      ∙ told

  names_behind : (x T : ℕ) → o.head ≡ Binder x T → binder_names (tree_at trees at) ≡ x ∷ binder_names (tree_at trees o.second)
  unfolding binder_names
  names_behind x T h = ap binder_names (ap (tree_at trees) is ∙ tree) ∙ ap (λ k. binder_names (Node k (tree_at trees o.first) (tree_at trees o.second))) h

  pub name_pushed : (xs : List ℕ) (x T : ℕ) (whole : List ℕ) → o.head ≡ Binder x T → xs ++ binder_names (tree_at trees at) ≡ whole → (xs ++ x ∷ []) ++ binder_names (tree_at trees o.second) ≡ whole
  name_pushed xs x T whole h told = append_assoc xs (x ∷ []) (binder_names (tree_at trees o.second)) ∙ (ap (λ ys. xs ++ ys) (sym (names_behind x T h)) ∙ told)

-- names of other nodes

names_after : (h : Head) (a b : Tree) → ((x T : ℕ) → h ≡ Binder x T → ⊥) → binder_names (Node h a b) ≡ binder_names b
unfolding binder_names
names_after (Binder x T) a b f = absurd (f x T refl)
names_after h a b f = refl

pub name_passed : (trees : List KindTree) (at : Option NodeId) (n : NodeId) (o : Opened) → at ≡ Some n → tree_at trees (Some n) ≡ Node o.head (tree_at trees o.first) (tree_at trees o.second) → (xs whole : List ℕ) → ((x T : ℕ) → o.head ≡ Binder x T → ⊥)
    → xs ++ binder_names (tree_at trees at) ≡ whole → xs ++ binder_names (tree_at trees o.second) ≡ whole
name_passed trees at n o is tree xs whole f told =
    ap (λ ys. xs ++ ys) (sym (ap binder_names (ap (tree_at trees) is ∙ tree) ∙ names_after o.head (tree_at trees o.first) (tree_at trees o.second) f)) ∙ told

-- numbers of nodes that are there

single : (count : ℕ) (item : NodeId) (k : ℕ) (d : NodeId) → item.0 < count → k < length (item ∷ []) → (slice_index_or (item ∷ []) k d).0 < count
single count item zero d l b = l
single count item (suc k) d l b = absurd (omega arith)

pub all_pushed : (count : ℕ) (ns ks : List NodeId) (item : NodeId) → All (λ m. m.0 < count) ns → item.0 < count → ks ≡ ns ++ item ∷ [] → All (λ m. m.0 < count) ks
all_pushed count ns ks item a l e = subst (All (λ m. m.0 < count)) (sym e) (All-append (λ m. m.0 < count) ns (item ∷ []) a (λ k d b. single count item k d l b))

-- the end

pub items_done : (t : Tree) (ts whole : List Tree) → t ≡ Empty → ts ++ full_items t ≡ whole → ts ≡ whole
items_done t ts whole e told = sym (append-nil ts) ∙ (ap (λ us. ts ++ us) (sym (ap full_items e ∙ items_nowhere)) ∙ told)

names_nowhere : binder_names Empty ≡ []
unfolding binder_names
names_nowhere = refl

pub names_done : (t : Tree) (xs whole : List ℕ) → t ≡ Empty → xs ++ binder_names t ≡ whole → xs ≡ whole
names_done t xs whole e told = sym (append-nil xs) ∙ (ap (λ us. xs ++ us) (sym (ap binder_names e ∙ names_nowhere)) ∙ told)
