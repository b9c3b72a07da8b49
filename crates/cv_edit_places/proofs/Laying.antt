-- Stacks of trees, by their extents and by their nodes, as parts are added to them.
use Rattle.std.proofs.Common.{◌≡◌, ℕ, ◌+◌, ◌<◌, ◌≤◌, ◌^◌, max, List, [], ◌∷◌, ◌++◌, length, take, drop, map, reverse, get_or, Option, Some, None, IsSome, refl, sym, ap, ap₂, ◌∙◌, arith}
use Rattle.std.specs.Prelude.{unwrap_or}
use Rattle.std.specs.Option.{option_to_list}
use Rattle.std.proofs.lemmas.List.{reverse-append, take-append-drop}
use Rattle.cv_pool.specs.KindTree.{KindTree}
use Rattle.cv_pool.specs.PoolView.{Grows, PoolView}
use Rattle.cv_pool.specs.declared.node.NodeId.{NodeId}
use Rattle.cv_syntax_trees.specs.declared.head.Head.{Head}
use Rattle.cv_syntax_trees.specs.Head.{weight}
use Rattle.cv_syntax_trees.specs.Tree.{Tree, Empty, Node, depth, size}
use Rattle.cv_syntax.specs.Postorder.{joined}
use Rattle.cv_syntax.proofs.Buildings.{child_grown}
use Rattle.cv_syntax.proofs.Plantings.{reverse_push}
use Rattle.cv_syntax.proofs.Walking.{depth_le_size, depth_node, size_node}
use Rattle.cv_syntax.specs.declared.limits.games.Extent.{Extent}
use Rattle.cv_edit_places.specs.declared.parts.Part.{Part}
use Rattle.cv_edit_places.specs.declared.parts.Part.TheVariants.{There, Over}
use Rattle.cv_edit_places.specs.Parts.{IsLivePart, extent_of, laid, over_by, overs, stacked, top_of, total_of}
use Rattle.cv_edit_places.proofs.Stacks.{overs_next, stacked_next}

-- what is below the newest tree
abbrev pub below : List Tree → List Tree
below [] = []
below (t ∷ ts) = ts

joined_top : (h : Head) (s : List Tree) → joined h s ≡ Node h (top_of (below s)) (top_of s) ∷ below (below s)
joined_top h [] = refl
joined_top h (b ∷ []) = refl
joined_top h (b ∷ (a ∷ s)) = refl

-- extents

abbrev pub nothing : Extent
nothing = record { nodes = 0; depth = 0 }

extent_Empty : nothing ≡ extent_of Empty
unfolding size depth
extent_Empty = refl

not_some : IsSome {T = Extent} None → ⊥
not_some i = absurd (cc)

pub record Popped (s : List Tree) (rest : List Extent) (x : Option Extent) : Type 0 where
  pub newest : unwrap_or x nothing ≡ extent_of (top_of s)
  pub others : reverse rest ≡ map extent_of (below s)

popped_some : (s : List Tree) (rest : List Extent) (e : Extent) → e ∷ reverse rest ≡ map extent_of s → Popped s rest (Some e)
popped_some [] rest e f = absurd (cc)
popped_some (t ∷ s) rest e f = record { newest = cc; others = cc }

popped_none : (s : List Tree) → [] ≡ map extent_of s → Popped s [] None
popped_none [] f = record { newest = extent_Empty; others = refl }
popped_none (t ∷ s) f = absurd (cc)

pub popped : (s : List Tree) (stack rest : List Extent) (x : Option Extent) → reverse stack ≡ map extent_of s → stack ≡ rest ++ option_to_list x → (0 < length stack → IsSome x) → Popped s rest x
popped s stack rest (Some e) f g i = popped_some s rest e (sym (ap reverse g ∙ reverse-append rest (e ∷ [])) ∙ f)
popped s [] [] None f g i = popped_none s f
popped s [] (y ∷ rest) None f g i = absurd (cc)
popped s (z ∷ stack) rest None f g i = absurd (not_some (i (omega arith)))

pub pushed : (s : List Tree) (new rest : List Extent) (e : Extent) (t : Tree) → reverse rest ≡ map extent_of s → new ≡ rest ++ e ∷ [] → e ≡ extent_of t → reverse new ≡ map extent_of (t ∷ s)
pushed s new rest e t f g i = ap reverse g ∙ (reverse-append rest (e ∷ []) ∙ ap₂ (λ u us. u ∷ us) i f)

-- a node over the two newest ones

module _ (h : Head) (s : List Tree) (first second : Extent) (f : first ≡ extent_of (top_of (below s))) (g : second ≡ extent_of (top_of s)) where
  sizes : size (Node h (top_of (below s)) (top_of s)) ≡ weight h + first.nodes + second.nodes
  sizes = size_node (Node h (top_of (below s)) (top_of s)) h _ _ refl ∙ ap₂ (λ (x y : Extent). weight h + x.nodes + y.nodes) (sym f) (sym g)

  depths : depth (Node h (top_of (below s)) (top_of s)) ≡ weight h + max first.depth second.depth
  depths = depth_node (Node h (top_of (below s)) (top_of s)) h _ _ refl ∙ ap₂ (λ (x y : Extent). weight h + max x.depth y.depth) (sym f) (sym g)

  pub over_fits : total_of (joined h s) < 2 ^ 32 → weight h + first.nodes + second.nodes < 2 ^ 32
  over_fits l = let k : total_of (Node h (top_of (below s)) (top_of s) ∷ below (below s)) < 2 ^ 32 = omega (arith, ap total_of (joined_top h s)) in omega (arith, sizes)

  pub first_flat : first.depth ≤ first.nodes
  first_flat = omega (arith, ap (λ (x : Extent). x.depth) f, ap (λ (x : Extent). x.nodes) f, depth_le_size (top_of (below s)))

  pub second_flat : second.depth ≤ second.nodes
  second_flat = omega (arith, ap (λ (x : Extent). x.depth) g, ap (λ (x : Extent). x.nodes) g, depth_le_size (top_of s))

  pub pushed_over : (new rest : List Extent) (e : Extent) → reverse rest ≡ map extent_of (below (below s)) → new ≡ rest ++ e ∷ [] → e.nodes ≡ weight h + first.nodes + second.nodes → e.depth ≡ weight h + max first.depth second.depth → reverse new ≡ map extent_of (joined h s)
  pushed_over new rest e k n i j =
      pushed (below (below s)) new rest e (Node h (top_of (below s)) (top_of s)) k n (ap₂ (λ x y. let r : Extent = record { nodes = x; depth = y } in r) (i ∙ sym sizes) (j ∙ sym depths))
      ∙ ap (map extent_of) (sym (joined_top h s))

-- a list with a part more makes no less

joined_grows : (h : Head) (s : List Tree) → total_of s ≤ total_of (joined h s)
joined_grows h [] = omega arith
joined_grows h (b ∷ []) = omega (arith, size_node (Node h Empty b) h Empty b refl)
joined_grows h (b ∷ (a ∷ s)) = omega (arith, size_node (Node h a b) h a b refl)

laid_grows : (trees : List KindTree) (p : Part) (s : List Tree) → total_of s ≤ total_of (laid trees p s)
laid_grows trees (There n) s = omega arith
laid_grows trees (Over h) s = joined_grows h s

stacked_grows : (trees : List KindTree) (s : List Tree) (ps : List Part) → total_of s ≤ total_of (stacked trees s ps)
unfolding stacked
stacked_grows trees s [] = omega arith
stacked_grows trees s (p ∷ ps) = omega (arith, laid_grows trees p s, stacked_grows trees (laid trees p s) ps)

stacked_append : (trees : List KindTree) (s : List Tree) (ps qs : List Part) → stacked trees s (ps ++ qs) ≡ stacked trees (stacked trees s ps) qs
unfolding stacked
stacked_append trees s [] qs = refl
stacked_append trees s (p ∷ ps) qs = stacked_append trees (laid trees p s) ps qs

overs_append : (ps qs : List Part) → overs (ps ++ qs) ≡ overs ps + overs qs
unfolding overs
overs_append [] qs = omega arith
overs_append (p ∷ ps) qs = omega (arith, overs_append ps qs)

lone : (s : List Tree) → length s ≡ 1 → total_of s ≡ size (top_of s)
lone [] e = absurd (omega arith)
lone (t ∷ []) e = omega arith
lone (t ∷ (u ∷ s)) e = absurd (omega arith)

module _ (trees : List KindTree) (ps : List Part) (i : ℕ) (d p : Part) (l : i < length ps) (e : get_or ps i d ≡ p) where
  split_here : take (i + 1) ps ++ drop (i + 1) ps ≡ ps
  split_here = take-append-drop (i + 1) ps

  -- what is made on the way can be measured
  pub next_fits : length (stacked trees [] ps) ≡ 1 → size (top_of (stacked trees [] ps)) < 2 ^ 32 → total_of (laid trees p (stacked trees [] (take i ps))) < 2 ^ 32
  next_fits o f =
      let so-far = stacked trees [] (take (i + 1) ps) in
      let all = ap (λ qs. total_of (stacked trees [] qs)) (sym split_here) ∙ ap total_of (stacked_append trees [] (take (i + 1) ps) (drop (i + 1) ps)) in
      omega (arith, all, stacked_grows trees so-far (drop (i + 1) ps), ap total_of (stacked_next ps i d p l e trees), lone (stacked trees [] ps) o)

  -- and the pool has room for it
  pub next_room : overs (take i ps) + over_by p ≤ overs ps
  next_room = omega (arith, overs_next ps i d p l e, ap overs (sym split_here), overs_append (take (i + 1) ps) (drop (i + 1) ps))

-- a tree of the pool stays while it grows
pub laid_grown : (old new : PoolView) (p : Part) (s : List Tree) → Grows old new → IsLivePart (length old.trees) p → laid new.trees p s ≡ laid old.trees p s
laid_grown old new (There n) s g l = ap (λ t. t ∷ s) (child_grown old new n g l)
laid_grown old new (Over h) s g l = refl

-- the newest tree that was made
pub top_popped : (f : Option NodeId → Tree) (stack rest : List (Option NodeId)) (x : Option (Option NodeId)) → f None ≡ Empty → stack ≡ rest ++ option_to_list x → (0 < length stack → IsSome x) → f (unwrap_or x None) ≡ top_of (reverse (map f stack))
top_popped f stack rest (Some n) z e i = ap top_of (sym (ap (λ s. reverse (map f s)) e ∙ reverse_push f rest n))
top_popped f [] rest None z e i = z
top_popped f (y ∷ stack) rest None z e i = absurd (none (i (omega arith)))
  where
    none : IsSome {T = Option NodeId} None → ⊥
    none j = absurd (cc)
