-- Definitions that are noted, of binders cell by cell, and of trees node by node.
use Rattle.std.proofs.Common.{◌≡◌, ℕ, ◌+◌, List, [], ◌∷◌, ◌++◌, map, Option, Some, None, refl, sym, ap, ap₂, ◌∙◌, arith}
use Rattle.std.proofs.lemmas.List.{append_assoc, append-nil}
use Rattle.cv_pool.specs.KindTree.{KindTree}
use Rattle.cv_pool.specs.declared.node.NodeId.{NodeId}
use Rattle.cv_syntax.specs.PoolTrees.{tree_at}
use Rattle.cv_syntax.proofs.Trees.{empty_at, size_Empty}
use Rattle.cv_syntax.specs.declared.open.Opened.{Opened}
use Rattle.cv_syntax_trees.specs.declared.head.Head.{Head}
use Rattle.cv_syntax_trees.specs.declared.head.Head.TheVariants.{Binder}
use Rattle.cv_syntax_trees.specs.Head.{weight}
use Rattle.cv_syntax_trees.specs.Tree.{Tree, Empty, Node, bound_names, size}
use Rattle.cv_settling_lateness.specs.Defining.{defined_at, definition, definitions}
use Rattle.cv_settling_lateness.specs.declared.definitions.Definition.{Definition}

-- binders

no_binder : (h : Head) (a b : Tree) → ((x T : ℕ) → h ≡ Binder x T → ⊥) → bound_names (Node h a b) ≡ []
no_binder (Binder x T) a b f = absurd (f x T refl)
no_binder h a b f = refl

module _ (place : ℕ) where
  abbrev noted : Tree → List Definition
  noted t = map (definition place) (bound_names t)

  pub binders_done : (t : Tree) (ds whole : List Definition) → t ≡ Empty → ds ++ noted t ≡ whole → ds ≡ whole
  binders_done t ds whole e told = sym (append-nil ds) ∙ (ap (λ u. ds ++ noted u) (sym e) ∙ told)

  module _ (trees : List KindTree) (at : Option NodeId) (n : NodeId) (o : Opened) (is : at ≡ Some n) (tree : tree_at trees (Some n) ≡ Node o.head (tree_at trees o.first) (tree_at trees o.second)) where
    pub binder_noted : (ds es whole : List Definition) (x T : ℕ) → o.head ≡ Binder x T → es ≡ ds ++ definition place x ∷ [] → ds ++ noted (tree_at trees at) ≡ whole → es ++ noted (tree_at trees o.second) ≡ whole
    binder_noted ds es whole x T h e told =
        ap (λ fs. fs ++ noted (tree_at trees o.second)) e
        ∙ (append_assoc ds (definition place x ∷ []) (noted (tree_at trees o.second))
        ∙ (ap (λ fs. ds ++ fs) (sym (ap noted (ap (tree_at trees) is ∙ tree) ∙ ap (λ k. noted (Node k (tree_at trees o.first) (tree_at trees o.second))) h))
        ∙ told))

    pub binders_ended : (ds whole : List Definition) → ((x T : ℕ) → o.head ≡ Binder x T → ⊥) → ds ++ noted (tree_at trees at) ≡ whole → ds ≡ whole
    binders_ended ds whole f told =
        sym (append-nil ds)
        ∙ (ap (λ fs. ds ++ fs) (sym (ap noted (ap (tree_at trees) is ∙ tree) ∙ ap (map (definition place)) (no_binder o.head (tree_at trees o.first) (tree_at trees o.second) f)))
        ∙ told)

-- trees

pub tree_done : (place : ℕ) (t : Tree) (ds whole : List Definition) → t ≡ Empty → ds ++ definitions place t ≡ whole → ds ≡ whole
unfolding definitions
tree_done place t ds whole e told = sym (append-nil ds) ∙ (ap (λ u. ds ++ definitions place u) (sym e) ∙ told)

pub node_noted : (place : ℕ) (t : Tree) (h : Head) (a b : Tree) (ds es fs whole : List Definition) → t ≡ Node h a b → es ≡ ds ++ defined_at place h a → fs ≡ es ++ definitions (place + weight h) a → ds ++ definitions place t ≡ whole
    → fs ++ definitions (place + weight h + size a) b ≡ whole
unfolding definitions
node_noted place t h a b ds es fs whole e f g told =
    ap (λ ks. ks ++ definitions (place + weight h + size a) b) (g ∙ ap (λ ks. ks ++ definitions (place + weight h) a) f)
    ∙ (append_assoc (ds ++ defined_at place h a) (definitions (place + weight h) a) (definitions (place + weight h + size a) b)
    ∙ (append_assoc ds (defined_at place h a) (definitions (place + weight h) a ++ definitions (place + weight h + size a) b)
    ∙ (ap (λ u. ds ++ definitions place u) (sym e) ∙ told)))

-- a node's own definitions are noted, and then those of its first child

module _ (trees : List KindTree) (at : Option NodeId) (n : NodeId) (o : Opened) (is : at ≡ Some n) (tree : tree_at trees (Some n) ≡ Node o.head (tree_at trees o.first) (tree_at trees o.second)) (place w : ℕ) (v : w ≡ weight o.head) (ds es whole : List Definition) (own : es ≡ ds ++ defined_at place o.head (tree_at trees o.first)) (told : ds ++ definitions place (tree_at trees at) ≡ whole) where
  pub first_noted : (s : ℕ) (first : NodeId) (fs : List Definition) → o.first ≡ Some first → s ≡ size (tree_at trees (Some first)) → fs ≡ es ++ definitions (place + w) (tree_at trees (Some first)) → fs ++ definitions (place + w + s) (tree_at trees o.second) ≡ whole
  first_noted s first fs b k g =
      ap₂ (λ i j. fs ++ definitions (place + i + j) (tree_at trees o.second)) v (k ∙ ap (λ c. size (tree_at trees c)) (sym b))
      ∙ node_noted place (tree_at trees at) o.head (tree_at trees o.first) (tree_at trees o.second) ds es fs whole (ap (tree_at trees) is ∙ tree) own
      (g ∙ ap₂ (λ i c. es ++ definitions (place + i) (tree_at trees c)) v (sym b)) told

  pub none_noted : o.first ≡ None → es ++ definitions (place + w) (tree_at trees o.second) ≡ whole
  unfolding definitions size
  none_noted b =
      let e = empty_at trees o.first b in
      ap₂ (λ i j. es ++ definitions j (tree_at trees o.second)) v (let z = size_Empty (tree_at trees o.first) e in let i : place + w ≡ place + weight o.head + size (tree_at trees o.first) = omega arith in i)
      ∙ node_noted place (tree_at trees at) o.head (tree_at trees o.first) (tree_at trees o.second) ds es es whole (ap (tree_at trees) is ∙ tree) own
      (sym (ap (λ u. es ++ definitions (place + weight o.head) u) e ∙ append-nil es)) told
