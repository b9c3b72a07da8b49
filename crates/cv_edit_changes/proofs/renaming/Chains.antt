-- Chains of nodes, made and taken off again from their ends.
use Rattle.std.proofs.Common.{◌≡◌, ℕ, ◌+◌, ◌<◌, ◌≤◌, ◌⊎◌, inl, inr, Bool, true, false, arith, List, [], ◌∷◌, ◌++◌, length, Option, Some, None, refl, sym, ap, ap₂, subst, ◌∙◌}
use Rattle.std.specs.Prelude.{unwrap_or}
use Rattle.cv_pool.specs.declared.node.NodeId.{NodeId}
use Rattle.cv_pool.specs.KindTree.{KindTree}
use Rattle.cv_pool.specs.Nodes.{ChildBelow}
use Rattle.cv_pool.specs.PoolView.{PoolView, Grows}
use Rattle.cv_pool.proofs.Growth.{ChildBelow_more, Grows_length, Grows_refl}
use Rattle.cv_syntax_trees.specs.Tree.{Tree, Node}
use Rattle.cv_syntax.specs.PoolTrees.{tree_at}
use Rattle.cv_syntax.specs.Walks.{above}
use Rattle.cv_syntax.proofs.Buildings.{child_grown}
use Rattle.cv_syntax.proofs.Trees.{tree_at_None}
use Rattle.cv_syntax.proofs.Walking.{above_child, above_some}
use Rattle.cv_scene.specs.Scenes.{names}
use Rattle.cv_steps.specs.Renaming.{renamed, renamed_head}
use Rattle.cv_edit_changes.specs.declared.renaming.chain.Link.{Link}
use Rattle.cv_edit_changes.specs.renaming.Chains.{IsChain, IsRead, Stays}
use Rattle.cv_edit_changes.specs.renaming.Needs.{nodes_renaming}
use Rattle.cv_edit_changes.proofs.renaming.Counted.{needs, none_named}
use Rattle.cv_edit_changes.proofs.renaming.Renamed.{head_stays, renamed_node, renamed_nothing}

module _ (trees : List KindTree) where
  onto : (start end : Option NodeId) (ls : List Link) (l : Link) → IsChain trees start ls end → end ≡ Some l.id → IsRead trees l → IsChain trees start (ls ++ l ∷ []) l.node.second
  onto start end [] l c e r = (c ∙ e, (r, refl))
  onto start end (k ∷ ks) l c e r = (c.0, (c.1.0, onto k.node.second end ks l c.1.1 e r))

  pub chain_onto : (start end : Option NodeId) (ls more : List Link) (l : Link) → IsChain trees start ls end → end ≡ Some l.id → IsRead trees l → more ≡ ls ++ l ∷ [] → IsChain trees start more l.node.second
  chain_onto start end ls more l c e r f = subst (λ ms. IsChain trees start ms l.node.second) (sym f) (onto start end ls l c e r)

  off : (start end : Option NodeId) (lower : List Link) (l : Link) → IsChain trees start (lower ++ l ∷ []) end → IsChain trees start lower (Some l.id) × (IsRead trees l × (l.node.second ≡ end))
  off start end [] l c = c
  off start end (k ∷ ks) l c = let r = off k.node.second end ks l c.1.1 in ((c.0, (c.1.0, r.0)), r.1)

  -- the last node of a chain
  pub chain_off : (start end : Option NodeId) (ls lower : List Link) (l : Link) → ls ≡ lower ++ l ∷ [] → IsChain trees start ls end → IsChain trees start lower (Some l.id) × (IsRead trees l × (l.node.second ≡ end))
  chain_off start end ls lower l e c = off start end lower l (subst (λ ms. IsChain trees start ms end) e c)

  pub chain_end : (start end : Option NodeId) (ls : List Link) → ls ≡ [] → IsChain trees start ls end → start ≡ end
  chain_end start end ls e c = subst (λ ms. IsChain trees start ms end) e c

  -- the nodes get less, and have no more to be made again
  pub chain_below : (start end : Option NodeId) (ls : List Link) → IsChain trees start ls end → above end ≤ above start
  chain_below start end [] c = omega (arith, ap above c)
  chain_below start end (k ∷ ks) c = omega (arith, chain_below k.node.second end ks c.1.1, above_some start k.id c.0, above_child k.id.0 k.node.second c.1.0.second)

  link_needs : (x : ℕ) (l : Link) → IsRead trees l → (cost : ℕ) → cost ≤ 1 → (names x (tree_at trees (Some l.id)) ≡ false → cost ≡ 0)
      → nodes_renaming x (tree_at trees l.node.first) + nodes_renaming x (tree_at trees l.node.second) + cost ≤ nodes_renaming x (tree_at trees (Some l.id))
  link_needs x l r = needs x (tree_at trees (Some l.id)) l.node.head (tree_at trees l.node.first) (tree_at trees l.node.second) r.tree

  pub chain_needs : (x : ℕ) (start end : Option NodeId) (ls : List Link) → IsChain trees start ls end → nodes_renaming x (tree_at trees end) ≤ nodes_renaming x (tree_at trees start)
  chain_needs x start end [] c = omega (arith, ap (λ o. nodes_renaming x (tree_at trees o)) c)
  chain_needs x start end (k ∷ ks) c =
      omega (arith, chain_needs x k.node.second end ks c.1.1, ap (λ o. nodes_renaming x (tree_at trees o)) c.0, link_needs x k c.1.0 0 (omega arith) (λ e. refl))

-- how far a chain was renamed from its end: this is left of it, and the rest is a tree of the new pool
pub record IsUp (old new : PoolView) (x y : ℕ) (start : Option NodeId) (left : List Link) (at next : Option NodeId) : Type 0 where
  pub chain : IsChain old.trees start left at
  pub tree : tree_at new.trees next ≡ renamed x y (tree_at old.trees at)
  pub live : ChildBelow (length new.trees) next
  pub same : names x (tree_at old.trees at) ≡ false → next ≡ at
  pub none : next ≡ None → at ≡ None
  pub grows : Grows old new
  pub spare : old.spare ≤ new.spare + nodes_renaming x (tree_at old.trees at)
  pub few : length new.trees ≤ length old.trees + nodes_renaming x (tree_at old.trees at)

-- a node that was read stays in a pool that grows
pub read_grown : (old new : PoolView) (l : Link) → Grows old new → IsRead old.trees l → IsRead new.trees l
read_grown old new l g r =
    let first : ChildBelow (length old.trees) l.node.first = ChildBelow_more l.id.0 (length old.trees) l.node.first (omega (arith, r.live)) r.first in
    let second : ChildBelow (length old.trees) l.node.second = ChildBelow_more l.id.0 (length old.trees) l.node.second (omega (arith, r.live)) r.second in
    record {
      live = omega (arith, r.live, Grows_length old new g);
      tree = child_grown old new (Some l.id) g r.live ∙ (r.tree ∙ ap₂ (λ a b. Node l.node.head a b) (sym (child_grown old new l.node.first g first)) (sym (child_grown old new l.node.second g second)));
      first = r.first;
      second = r.second;
    }

-- one node of a chain more: its first child was renamed in a pool that had grown, and then the node itself
module _ (old up firsts : PoolView) (x y : ℕ) (l : Link) (start at first next : Option NodeId) (lower : List Link)
    (g : Grows old up) (c : IsChain old.trees start lower (Some l.id)) (r : IsRead old.trees l) (e : l.node.second ≡ at) where
  first_live : ChildBelow (length old.trees) l.node.first
  first_live = ChildBelow_more l.id.0 (length old.trees) l.node.first (omega (arith, r.live)) r.first

  pub first_read : ChildBelow (length up.trees) l.node.first
  first_read = ChildBelow_more (length old.trees) (length up.trees) l.node.first (Grows_length old up g) first_live

  pub first_kept : tree_at up.trees l.node.first ≡ tree_at old.trees l.node.first
  first_kept = child_grown old up l.node.first g first_live

  pub first_less : above l.node.first < above start
  first_less = omega (arith, chain_below old.trees start (Some l.id) lower c, above_child l.id.0 l.node.first r.first)

  pub made_again : (new : PoolView) (made : NodeId) → Grows up firsts → ChildBelow (length up.trees) next
      → tree_at firsts.trees first ≡ renamed x y (tree_at up.trees l.node.first) → tree_at up.trees next ≡ renamed x y (tree_at old.trees at)
      → tree_at new.trees (Some made) ≡ Node (renamed_head x y l.node.head) (tree_at firsts.trees first) (tree_at firsts.trees next)
      → tree_at new.trees (Some made) ≡ renamed x y (tree_at old.trees (Some l.id))
  made_again new made h live f n m =
      m
      ∙ (ap₂ (λ a b. Node (renamed_head x y l.node.head) a b) (f ∙ ap (renamed x y) first_kept)
      (child_grown up firsts next h live ∙ (n ∙ ap (λ o. renamed x y (tree_at old.trees o)) (sym e)))
      ∙ sym (renamed_node x y (tree_at old.trees (Some l.id)) l.node.head (tree_at old.trees l.node.first) (tree_at old.trees l.node.second) r.tree))

  -- what its parts need
  parts_need : (cost : ℕ) → cost ≤ 1 → (names x (tree_at old.trees (Some l.id)) ≡ false → cost ≡ 0)
      → nodes_renaming x (tree_at up.trees l.node.first) + nodes_renaming x (tree_at old.trees at) + cost ≤ nodes_renaming x (tree_at old.trees (Some l.id))
  parts_need cost m f =
      omega (arith, link_needs old.trees x l r cost m f, ap (nodes_renaming x) first_kept, ap (λ o. nodes_renaming x (tree_at old.trees o)) e)

  pub stays_unnamed : names x (tree_at old.trees (Some l.id)) ≡ false → (names x (tree_at up.trees l.node.first) ≡ false → first ≡ l.node.first)
      → (names x (tree_at old.trees at) ≡ false → next ≡ at) → Stays x l first next
  stays_unnamed n f m =
      let p = none_named x (tree_at old.trees (Some l.id)) l.node.head (tree_at old.trees l.node.first) (tree_at old.trees l.node.second) r.tree n in
      (f (ap (names x) first_kept ∙ p.1.0), (m (ap (λ o. names x (tree_at old.trees o)) (sym e) ∙ p.1.1) ∙ sym e, p.0))

  module _ (has : nodes_renaming x (tree_at old.trees start) ≤ old.spare) (left : old.spare ≤ up.spare + nodes_renaming x (tree_at old.trees at)) where
    pub first_fits : nodes_renaming x (tree_at up.trees l.node.first) ≤ up.spare
    first_fits = omega (arith, has, left, chain_needs old.trees x start (Some l.id) lower c, parts_need 0 (omega arith) (λ n. refl))

    pub stays_or_room : up.spare ≤ firsts.spare + nodes_renaming x (tree_at up.trees l.node.first) → (names x (tree_at up.trees l.node.first) ≡ false → first ≡ l.node.first)
        → (names x (tree_at old.trees at) ≡ false → next ≡ at) → Stays x l first next ⊎ (0 < firsts.spare)
    stays_or_room s f m = go (names x (tree_at old.trees (Some l.id))) refl
      where
        go : (v : Bool) → names x (tree_at old.trees (Some l.id)) ≡ v → Stays x l first next ⊎ (0 < firsts.spare)
        go true n = inr (omega (arith, has, left, s, chain_needs old.trees x start (Some l.id) lower c, parts_need 1 (omega arith) (λ k. absurd (cc))))
        go false n = inl (stays_unnamed n f m)

  -- what is used up
  pub used : (new : PoolView) → (names x (tree_at old.trees (Some l.id)) ≡ false → new ≡ firsts)
      → up.spare ≤ firsts.spare + nodes_renaming x (tree_at up.trees l.node.first) → firsts.spare ≤ new.spare + 1 → old.spare ≤ up.spare + nodes_renaming x (tree_at old.trees at)
      → old.spare ≤ new.spare + nodes_renaming x (tree_at old.trees (Some l.id))
  used new k f m n = go (names x (tree_at old.trees (Some l.id))) refl
    where
      go : (v : Bool) → names x (tree_at old.trees (Some l.id)) ≡ v → old.spare ≤ new.spare + nodes_renaming x (tree_at old.trees (Some l.id))
      go true i = omega (arith, f, m, n, parts_need 1 (omega arith) (λ j. absurd (cc)))
      go false i = omega (arith, f, n, ap (λ p. p.spare) (k i), parts_need 0 (omega arith) (λ j. refl))

  pub added : (new : PoolView) → (names x (tree_at old.trees (Some l.id)) ≡ false → new ≡ firsts)
      → length firsts.trees ≤ length up.trees + nodes_renaming x (tree_at up.trees l.node.first) → length new.trees ≤ length firsts.trees + 1
      → length up.trees ≤ length old.trees + nodes_renaming x (tree_at old.trees at) → length new.trees ≤ length old.trees + nodes_renaming x (tree_at old.trees (Some l.id))
  added new k f m n = go (names x (tree_at old.trees (Some l.id))) refl
    where
      go : (v : Bool) → names x (tree_at old.trees (Some l.id)) ≡ v → length new.trees ≤ length old.trees + nodes_renaming x (tree_at old.trees (Some l.id))
      go true i = omega (arith, f, m, n, parts_need 1 (omega arith) (λ j. absurd (cc)))
      go false i = omega (arith, f, n, ap (λ p. length p.trees) (k i), parts_need 0 (omega arith) (λ j. refl))

-- before the last node of a chain is renamed
pub nothing_up : (pool : PoolView) (x y : ℕ) (start : Option NodeId) (ls : List Link) → IsChain pool.trees start ls None → IsUp pool pool x y start ls None None
nothing_up pool x y start ls c = record {
  chain = c;
  tree = tree_at_None pool.trees ∙ sym (renamed_nothing x y (tree_at pool.trees None) (tree_at_None pool.trees));
  live = tt;
  same = λ n. refl;
  none = λ n. refl;
  grows = Grows_refl pool;
  spare = omega arith;
  few = omega arith;
}

-- the root of what was renamed is a node, as it was
pub root_renamed : (trees : List KindTree) (t : Tree) (next : Option NodeId) (game root : NodeId) → tree_at trees next ≡ t → (next ≡ None → Some game ≡ None) → root ≡ unwrap_or next game → tree_at trees (Some root) ≡ t
root_renamed trees t None game root e f g = let h = f refl in absurd (cc)
root_renamed trees t (Some n) game root e f g = ap (λ m. tree_at trees (Some m)) g ∙ e
