-- Sizes and depths of the game, tree by tree.
use Rattle.std.proofs.Common.{◌≡◌, ℕ, zero, suc, ◌+◌, ◌<◌, ◌≤◌, min, List, [], ◌∷◌, ◌++◌, length, map, take, reverse, get_or, Option, refl, ap, ap₂, sym, ◌∙◌, subst, arith, append-nil}
use Rattle.std.specs.Prelude.{max}
use Rattle.std.proofs.lemmas.List.{reverse-append, length-take-le}
use Rattle.cv_syntax_trees.specs.declared.head.Head.TheVariants.{Leaf}
use Rattle.cv_syntax.specs.declared.make.Make.{Make}
use Rattle.cv_syntax.specs.declared.make.Make.TheVariants.{Nothing, Over}
use Rattle.cv_syntax_trees.specs.Tree.{Tree, Empty, Node, chain, lone, size, depth}
use Rattle.cv_syntax.specs.Postorder.{postorder}
use Rattle.cv_parse_grammar.specs.Filled.{filled, filled_at, first_site, now_below, read_at}
use Rattle.cv_parse_names.specs.declared.indices.context.Context.{Context}
use Rattle.cv_parse_names.specs.declared.indices.context.Place.{Place}
use Rattle.cv_parse_names.specs.declared.indices.context.Place.TheVariants.{Plain, Channel, Indices, Dropped}
use Rattle.cv_parse_names.specs.indices.Contexts.{first_place, second_place, filled_in, nodes_at, depth_at}
use Rattle.cv_parse_names.specs.indices.Current.{entered}
use Rattle.cv_parse_names.specs.indices.Stacks.{Standing, standings, top, rest, children, Popped, first_above, rest_above, both}
use Rattle.cv_parse_names.proofs.indices.Nodes.{size_empty, size_node, depth_empty, depth_node}
use Rattle.cv_parse_names.proofs.indices.Pending.{Pending, pending_whole, pending_nothing, pending_over, pending_end}
use Rattle.cv_parse_names.proofs.indices.Stacking.{opened_node}

-- a read weighs one node, and one for each index

leaves_size : (l : List ℕ) → size (chain (map (λ i. lone (Leaf i)) l)) ≡ length l
unfolding size
leaves_size [] = refl
leaves_size (x ∷ l) = let e : size (chain (map (λ i. lone (Leaf i)) l)) ≡ length l = leaves_size l in omega (arith, e)

leaves_depth : (x : ℕ) (l : List ℕ) → depth (chain (map (λ i. lone (Leaf i)) (x ∷ l))) ≡ 1
unfolding depth
leaves_depth x [] = refl
leaves_depth x (y ∷ l) = let e : depth (chain (map (λ i. lone (Leaf i)) (y ∷ l))) ≡ 1 = leaves_depth y l in ap (λ n. 0 + max 1 n) e

pub read_size : (x : ℕ) (l : List ℕ) → size (read_at x l) ≡ length l + 1
unfolding size
read_size x [] = refl
read_size x (i ∷ l) = let e : size (chain (map (λ j. lone (Leaf j)) (i ∷ l))) ≡ length (i ∷ l) = leaves_size (i ∷ l) in omega (arith, e)

pub read_depth_one : (x : ℕ) (l : List ℕ) → length l ≡ 0 → depth (read_at x l) ≡ 1
unfolding depth
read_depth_one x [] e = refl
read_depth_one x (i ∷ l) e = absurd (omega arith)

pub read_depth_two : (x : ℕ) (l : List ℕ) → 0 < length l → depth (read_at x l) ≡ 2
unfolding depth
read_depth_two x [] e = absurd (omega arith)
read_depth_two x (i ∷ l) e = ap (λ n. 1 + max n 0) (leaves_depth i l)

pub name_size : (t : Tree) (x count : ℕ) (names : List ℕ) → t ≡ read_at x (take count names) → count ≤ length names → size t ≡ count + 1
name_size t x count names e l = ap size e ∙ (read_size x (take count names) ∙ ap (λ n. n + 1) (length-take-le count names l))

pub name_depth_one : (t : Tree) (x count : ℕ) (names : List ℕ) → t ≡ read_at x (take count names) → count ≤ length names → count ≡ 0 → depth t ≡ 1
name_depth_one t x count names e l z = ap depth e ∙ read_depth_one x (take count names) (length-take-le count names l ∙ z)

pub name_depth_two : (t : Tree) (x count : ℕ) (names : List ℕ) → t ≡ read_at x (take count names) → count ≤ length names → 0 < count → depth t ≡ 2
name_depth_two t x count names e l z = ap depth e ∙ read_depth_two x (take count names) (omega (arith, length-take-le count names l))

-- sums and heights with a greatest number

sum_over : (n w r m : ℕ) → min (min (n + min w m) m + r) m ≡ min (n + (w + r)) m
sum_over n w r m = omega arith

height_over : (x d m : ℕ) → min (min x m + d) m ≡ min (x + d) m
height_over x d m = omega arith

higher : (x a b m : ℕ) → max (min x m) (max (min (x + b) m) (min (x + a) m)) ≡ min (x + max a b) m
higher x a b m = omega arith

regrouped : (d b p q r : ℕ) → max (max d b) (max p (max q r)) ≡ max d (max (max b (max p q)) r)
regrouped d b p q r = omega arith

max_assoc : (d b r : ℕ) → max (max d b) r ≡ max d (max b r)
max_assoc d b r = omega arith

-- the trees that come

module _ (sites : ℕ → Option ℕ) where
  unfoldable pub all_nodes : List Standing → List Tree → ℕ
  all_nodes ss [] = 0
  all_nodes ss (t ∷ ts) = size (filled_in sites (top ss).0 (top ss).1 t) + all_nodes (rest ss) ts

  -- the greatest height of one of them below so many nodes, or m
  unfoldable pub all_height : ℕ → List Standing → List ℕ → List Tree → ℕ
  all_height m ss us [] = 0
  all_height m ss us (t ∷ ts) = max (min (first_above us + depth (filled_in sites (top ss).0 (top ss).1 t)) m) (all_height m (rest ss) (rest_above us) ts)

  -- what is counted so far, with what comes, is the size of the game, or m
  abbrev pub Counts : ℕ → Tree → List ℕ → List Context → ℕ → List Tree → Type 0
  Counts m t names stack nodes trees = min (nodes + all_nodes (standings names stack) trees) m ≡ min (size (filled_at sites [] t)) m

  abbrev pub Rises : ℕ → Tree → List ℕ → List Context → List ℕ → ℕ → List Tree → Type 0
  Rises m t names stack aboves height trees = max height (all_height m (standings names stack) (reverse aboves) trees) ≡ min (depth (filled_at sites [] t)) m

  nodes_nothing : (now : List ℕ) (p : Place) → nodes_at sites now p Nothing ≡ 0
  nodes_nothing now Plain = refl
  nodes_nothing now Channel = refl
  nodes_nothing now Indices = refl
  nodes_nothing now Dropped = refl

  depth_nothing : (now : List ℕ) (p : Place) → depth_at sites now p Nothing ≡ 0
  depth_nothing now Plain = refl
  depth_nothing now Channel = refl
  depth_nothing now Indices = refl
  depth_nothing now Dropped = refl

  pub counts_first : (m : ℕ) (makes : List Make) (t : Tree) (names : List ℕ) (stack : List Context) → stack ≡ [] → makes ≡ postorder t → Pending makes (length makes) (Counts m t names stack 0)
  unfolding all_nodes
  counts_first m makes t names stack f h =
      let e : 0 + (size (filled_at sites [] t) + 0) ≡ size (filled_at sites [] t) = omega arith in
      pending_whole makes (Counts m t names stack 0) t h
      (ap (λ s. min (0 + all_nodes (standings names s) (t ∷ [])) m) f ∙ ap (λ n. min n m) e)

  pub counts_step : (m : ℕ) (makes : List Make) (k at : ℕ) (t : Tree) (names after : List ℕ) (old others new : List Context) (c : Context) (part : Make) (nodes weight more : ℕ) → k + 1 ≡ at → k < length makes → get_or makes k Nothing ≡ part → Popped names old others c → new ≡ others ++ children c part → after ≡ entered c.level part names → weight ≡ min (nodes_at sites (take c.level names) c.place part) m → more ≡ min (nodes + weight) m → Pending makes at (Counts m t names old nodes) → Pending makes k (Counts m t after new more)
  unfolding all_nodes
  counts_step m makes k at t names after old others new c Nothing nodes weight more n l g p e f w v q =
      pending_nothing makes k (Counts m t names old nodes) (Counts m t after new more) l g (λ ts h.
      let now = take c.level names in
      let r = all_nodes (standings names others) ts in
      ap₂ (λ s i. min (more + all_nodes (standings i s) ts) m) (e ∙ append-nil others) f
      ∙ (ap (λ x. min (x + r) m) (v ∙ ap (λ x. min (nodes + x) m) w)
      ∙ (sum_over nodes (nodes_at sites now c.place Nothing) r m
      ∙ (ap₂ (λ x y. min (nodes + (x + all_nodes y ts)) m) (nodes_nothing now c.place ∙ sym (size_empty sites now c.place)) (sym p.others)
      ∙ (ap (λ (s : Standing). min (nodes + (size (filled_in sites s.0 s.1 Empty) + all_nodes (rest (standings names old)) ts)) m) (sym p.first) ∙ h)))))
      (subst (λ (i : ℕ). Pending makes i (Counts m t names old nodes)) (sym n) q)
  counts_step m makes k at t names after old others new c (Over d) nodes weight more n l g p e f w v q =
      let o = opened_node names after others new c d p.low p.below e f in
      let now = take c.level names in
      pending_over makes k d (Counts m t names old nodes) (Counts m t after new more) l g (λ a b ts h.
      let x = size (filled_in sites now (first_place c.place d) a) in
      let y = size (filled_in sites (now_below d now) (second_place c.place d) b) in
      let r = all_nodes (standings names others) ts in
      let z = nodes_at sites now c.place (Over d) in
      let swap : z + (y + (x + r)) ≡ z + x + y + r = omega arith in
      ap (λ s. min (more + all_nodes s (b ∷ (a ∷ ts))) m) o.first
      ∙ (ap (λ i. min (i + (y + (x + r))) m) (v ∙ ap (λ i. min (nodes + i) m) w)
      ∙ (sum_over nodes z (y + (x + r)) m
      ∙ (ap (λ i. min (nodes + i) m) swap
      ∙ (ap₂ (λ i s. min (nodes + (i + all_nodes s ts)) m) (sym (size_node sites now c.place d a b)) (sym p.others)
      ∙ (ap (λ (s : Standing). min (nodes + (size (filled_in sites s.0 s.1 (Node d a b)) + all_nodes (rest (standings names old)) ts)) m) (sym p.first) ∙ h))))))
      (subst (λ (i : ℕ). Pending makes i (Counts m t names old nodes)) (sym n) q)

  pub counts_end : (m n : ℕ) (makes : List Make) (at : ℕ) (t : Tree) (names : List ℕ) (stack : List Context) (nodes : ℕ) → at ≤ 0 → n ≤ m → sites ≡ (λ x. first_site x 0 t) → Pending makes at (Counts m t names stack nodes) → min nodes n ≡ min (size (filled t)) n
  unfolding all_nodes
  counts_end m n makes zero t names stack nodes l k e p =
      let h : min (nodes + 0) m ≡ min (size (filled_at sites [] t)) m = pending_end makes (Counts m t names stack nodes) p in
      let g : min nodes n ≡ min (size (filled_at sites [] t)) n = omega (arith, h) in
      g ∙ ap (λ (s : ℕ → Option ℕ). min (size (filled_at s [] t)) n) e
  counts_end m n makes (suc j) t names stack nodes l k e p = absurd (omega arith)

  pub rises_first : (m : ℕ) (makes : List Make) (t : Tree) (names : List ℕ) (stack : List Context) (aboves : List ℕ) → stack ≡ [] → aboves ≡ [] → makes ≡ postorder t → Pending makes (length makes) (Rises m t names stack aboves 0)
  unfolding all_height
  rises_first m makes t names stack aboves f g h =
      let d = depth (filled_at sites [] t) in
      let e : max 0 (max (min (0 + d) m) 0) ≡ min d m = omega arith in
      pending_whole makes (Rises m t names stack aboves 0) t h
      (ap₂ (λ s u. max 0 (all_height m (standings names s) (reverse u) (t ∷ []))) f g ∙ e)

  pub rises_step : (m : ℕ) (makes : List Make) (k at : ℕ) (t : Tree) (names after : List ℕ) (old others new : List Context) (c : Context) (part : Make) (us vs ws : List ℕ) (above below depth-here height higher-one : ℕ) → k + 1 ≡ at → k < length makes → get_or makes k Nothing ≡ part → Popped names old others c → new ≡ others ++ children c part → after ≡ entered c.level part names → first_above (reverse us) ≡ above → rest_above (reverse us) ≡ reverse vs → ws ≡ vs ++ both below part → depth-here ≡ depth_at sites (take c.level names) c.place part → below ≡ min (above + depth-here) m → higher-one ≡ max height below → Pending makes at (Rises m t names old us height) → Pending makes k (Rises m t after new ws higher-one)
  unfolding all_height
  rises_step m makes k at t names after old others new c Nothing us vs ws above below w height tall n l g p e f ua ur uw we be te q =
      let now = take c.level names in
      pending_nothing makes k (Rises m t names old us height) (Rises m t after new ws tall) l g (λ ts h.
      let r = all_height m (standings names others) (reverse vs) ts in
      ap₂ (λ s i. max tall (all_height m (standings i s) (reverse ws) ts)) (e ∙ append-nil others) f
      ∙ (ap (λ u. max tall (all_height m (standings names others) (reverse u) ts)) (uw ∙ append-nil vs)
      ∙ (ap (λ x. max x r) te
      ∙ (max_assoc height below r
      ∙ (ap (λ x. max height (max x r)) (be ∙ ap (λ x. min (above + x) m) (we ∙ (depth_nothing now c.place ∙ sym (depth_empty sites now c.place))))
      ∙ (ap₂ (λ x y. max height (max (min (x + depth (filled_in sites now c.place Empty)) m) (all_height m (standings names others) y ts))) (sym ua) (sym ur)
      ∙ (ap₂ (λ (s : Standing) (y : List Standing). max height (max (min (first_above (reverse us) + depth (filled_in sites s.0 s.1 Empty)) m) (all_height m y (rest_above (reverse us)) ts))) (sym p.first) (sym p.others) ∙ h)))))))
      (subst (λ (i : ℕ). Pending makes i (Rises m t names old us height)) (sym n) q)
  rises_step m makes k at t names after old others new c (Over d) us vs ws above below w height tall n l g p e f ua ur uw we be te q =
      let o = opened_node names after others new c d p.low p.below e f in
      let now = take c.level names in
      let is : reverse ws ≡ below ∷ below ∷ reverse vs = ap reverse uw ∙ reverse-append vs (below ∷ below ∷ []) in
      pending_over makes k d (Rises m t names old us height) (Rises m t after new ws tall) l g (λ a b ts h.
      let x = depth (filled_in sites now (first_place c.place d) a) in
      let y = depth (filled_in sites (now_below d now) (second_place c.place d) b) in
      let r = all_height m (standings names others) (reverse vs) ts in
      let z = depth_at sites now c.place (Over d) in
      let here : below ≡ min (above + z) m = be ∙ ap (λ i. min (above + i) m) we in
      let swap : above + z + max x y ≡ above + (z + max x y) = omega arith in
      ap₂ (λ s u. max tall (all_height m s u (b ∷ (a ∷ ts)))) o.first is
      ∙ (ap (λ i. max i (max (min (below + y) m) (max (min (below + x) m) r))) te
      ∙ (regrouped height below (min (below + y) m) (min (below + x) m) r
      ∙ (ap (λ i. max height (max i r)) (
      ap (λ i. max i (max (min (i + y) m) (min (i + x) m))) here
      ∙ (ap₂ (λ i j. max (min (above + z) m) (max i j)) (height_over (above + z) y m) (height_over (above + z) x m) ∙ (higher (above + z) x y m ∙ ap (λ i. min i m) swap)))
      ∙ (ap (λ i. max height (max (min (above + i) m) r)) (sym (depth_node sites now c.place d a b))
      ∙ (ap₂ (λ i j. max height (max (min (i + depth (filled_in sites now c.place (Node d a b))) m) (all_height m (standings names others) j ts))) (sym ua) (sym ur)
      ∙ (ap₂ (λ (s : Standing) (j : List Standing). max height (max (min (first_above (reverse us) + depth (filled_in sites s.0 s.1 (Node d a b))) m) (all_height m j (rest_above (reverse us)) ts))) (sym p.first) (sym p.others) ∙ h)))))))
      (subst (λ (i : ℕ). Pending makes i (Rises m t names old us height)) (sym n) q)

  pub rises_end : (m n : ℕ) (makes : List Make) (at : ℕ) (t : Tree) (names : List ℕ) (stack : List Context) (aboves : List ℕ) (height : ℕ) → at ≤ 0 → n ≤ m → sites ≡ (λ x. first_site x 0 t) → Pending makes at (Rises m t names stack aboves height) → min height n ≡ min (depth (filled t)) n
  unfolding all_height
  rises_end m n makes zero t names stack aboves height l k e p =
      let h : max height 0 ≡ min (depth (filled_at sites [] t)) m = pending_end makes (Rises m t names stack aboves height) p in
      let g : min height n ≡ min (depth (filled_at sites [] t)) n = omega (arith, h) in
      g ∙ ap (λ (s : ℕ → Option ℕ). min (depth (filled_at s [] t)) n) e
  rises_end m n makes (suc j) t names stack aboves height l k e p = absurd (omega arith)
