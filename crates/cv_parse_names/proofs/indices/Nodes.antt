-- What stands in the game for a node, by what stands for its children.
use Rattle.std.proofs.Common.{◌≡◌, ℕ, ◌+◌, ◌==◌, Bool, true, false, if◌then◌else◌, List, [], ◌∷◌, ◌++◌, take, Option, Some, None, refl, ap, sym, ◌∙◌, append-nil, arith}
use Rattle.std.specs.Prelude.{max}
use Rattle.std.specs.List.{list_any}
use Rattle.cv_syntax_trees.specs.declared.head.Head.{Head}
use Rattle.cv_syntax_trees.specs.declared.head.Head.TheVariants.{In, Out, Leaf, Cons}
use Rattle.cv_syntax.specs.declared.make.Make.TheVariants.{Nothing, Over}
use Rattle.cv_syntax_trees.specs.Tree.{Tree, Empty, Node, lone, names, size, depth}
use Rattle.cv_parse_grammar.specs.Filled.{read_at, read_plainly, bare, now_below, filled_at}
use Rattle.cv_parse_grammar.specs.Filled as filled
use Rattle.cv_parse_names.specs.declared.indices.context.Place.{Place}
use Rattle.cv_parse_names.specs.declared.indices.context.Place.TheVariants.{Plain, Channel, Indices, Dropped}
use Rattle.cv_parse_names.specs.indices.Backward.{backward}
use Rattle.cv_parse_names.specs.indices.Contexts.{first_place, second_place, named, on_channel, filled_in, parts_in, written, nodes_at, depth_at}

in_channel : (c : ℕ) (now : List ℕ) (t : Tree) → filled.on_channel (In c) now t ≡ on_channel now t
in_channel c now (Node Cons Empty b) = refl
in_channel c now (Node Cons (Node h x y) b) = refl
in_channel c now t = refl

out_channel : (c : ℕ) (now : List ℕ) (t : Tree) → filled.on_channel (Out c) now t ≡ on_channel now t
out_channel c now (Node Cons Empty b) = refl
out_channel c now (Node Cons (Node h x y) b) = refl
out_channel c now t = refl

abbrev node_in : (ℕ → Option ℕ) → List ℕ → Place → Head → Tree → Tree → Tree
node_in sites now Dropped h a b = Empty
node_in sites now p (Leaf x) a b = bare sites now x
node_in sites now p h a b = Node h a b

names_weightless : (l : List ℕ) → size (names l) ≡ 0
unfolding size
names_weightless [] = refl
names_weightless (x ∷ l) = let e : size (names l) ≡ 0 = names_weightless l in omega (arith, e)

names_flat : (l : List ℕ) → depth (names l) ≡ 0
unfolding depth
names_flat [] = refl
names_flat (x ∷ l) = let e : depth (names l) ≡ 0 = names_flat l in omega (arith, e)

no_more : (n : ℕ) → n ≡ n + 0 + 0
no_more n = omega arith

no_deeper : (n : ℕ) → n ≡ n + max 0 0
no_deeper n = omega arith

module _ (sites : ℕ → Option ℕ) (now : List ℕ) where
  -- a name is no list of indices
  bare_stays : (f : Tree → Tree) (x : ℕ) → ((l : List ℕ) → f (read_at x l) ≡ read_at x l) → f (bare sites now x) ≡ bare sites now x
  bare_stays f x e = by_cases (list_any (λ i. i == x) now) (sites x)
    where
      by_cases : (b : Bool) (o : Option ℕ) → f (if b then lone (Leaf x) else read_plainly o now x) ≡ (if b then lone (Leaf x) else read_plainly o now x)
      by_cases true o = e []
      by_cases false None = e []
      by_cases false (Some k) = e (take k now)

  channel_stays : (x : ℕ) (l : List ℕ) → on_channel now (read_at x l) ≡ read_at x l
  channel_stays x [] = refl
  channel_stays x (i ∷ l) = refl

  named_stays : (x : ℕ) (l : List ℕ) → named now (read_at x l) ≡ read_at x l
  named_stays x [] = refl
  named_stays x (i ∷ l) = refl

  seen_node : (p : Place) (h : Head) (a b : Tree) → filled_in sites now p (Node h a b) ≡ node_in sites now p h (filled_in sites now (first_place p h) a) (filled_in sites (now_below h now) (second_place p h) b)
  unfolding filled_at
  seen_node Dropped h a b = refl
  seen_node Plain (In c) a b = ap (λ z. Node (In c) z (filled_at sites now b)) (in_channel c now (filled_at sites now a))
  seen_node Plain (Out c) a b = ap (λ z. Node (Out c) z (filled_at sites now b)) (out_channel c now (filled_at sites now a))
  seen_node Plain h a b = refl
  seen_node Channel (Leaf x) a b = bare_stays (on_channel now) x (channel_stays x)
  seen_node Channel (In c) a b = ap (λ z. Node (In c) z (filled_at sites now b)) (in_channel c now (filled_at sites now a))
  seen_node Channel (Out c) a b = ap (λ z. Node (Out c) z (filled_at sites now b)) (out_channel c now (filled_at sites now a))
  seen_node Channel h a b = refl
  seen_node Indices (Leaf x) a b = bare_stays (named now) x (named_stays x)
  seen_node Indices (In c) a b = ap (λ z. Node (In c) z (filled_at sites now b)) (in_channel c now (filled_at sites now a))
  seen_node Indices (Out c) a b = ap (λ z. Node (Out c) z (filled_at sites now b)) (out_channel c now (filled_at sites now a))
  seen_node Indices h a b = refl

  -- parts

  pub parts_empty : (p : Place) → parts_in sites now p Empty ≡ written sites now p Nothing
  unfolding filled_at backward
  parts_empty Dropped = refl
  parts_empty Plain = refl
  parts_empty Channel = refl
  parts_empty Indices = refl

  pub parts_node : (p : Place) (h : Head) (a b : Tree) → parts_in sites now p (Node h a b) ≡ written sites now p (Over h) ++ (parts_in sites (now_below h now) (second_place p h) b ++ parts_in sites now (first_place p h) a)
  unfolding backward
  parts_node Dropped h a b = refl
  parts_node Plain (Leaf x) a b = ap backward (seen_node Plain (Leaf x) a b) ∙ sym (append-nil (backward (bare sites now x)))
  parts_node Plain h a b = ap backward (seen_node Plain h a b)
  parts_node Channel (Leaf x) a b = ap backward (seen_node Channel (Leaf x) a b) ∙ sym (append-nil (backward (bare sites now x)))
  parts_node Channel h a b = ap backward (seen_node Channel h a b)
  parts_node Indices (Leaf x) a b = ap backward (seen_node Indices (Leaf x) a b) ∙ sym (append-nil (backward (bare sites now x)))
  parts_node Indices h a b = ap backward (seen_node Indices h a b)

  -- sizes and depths

  pub size_empty : (p : Place) → size (filled_in sites now p Empty) ≡ 0
  unfolding filled_at size
  size_empty Dropped = refl
  size_empty Plain = refl
  size_empty Channel = refl
  size_empty Indices = names_weightless now

  pub depth_empty : (p : Place) → depth (filled_in sites now p Empty) ≡ 0
  unfolding filled_at depth
  depth_empty Dropped = refl
  depth_empty Plain = refl
  depth_empty Channel = refl
  depth_empty Indices = names_flat now

  pub size_node : (p : Place) (h : Head) (a b : Tree) → size (filled_in sites now p (Node h a b)) ≡ nodes_at sites now p (Over h) + size (filled_in sites now (first_place p h) a) + size (filled_in sites (now_below h now) (second_place p h) b)
  unfolding size
  size_node Dropped h a b = refl
  size_node Plain (Leaf x) a b = ap size (seen_node Plain (Leaf x) a b) ∙ no_more (size (bare sites now x))
  size_node Plain h a b = ap size (seen_node Plain h a b)
  size_node Channel (Leaf x) a b = ap size (seen_node Channel (Leaf x) a b) ∙ no_more (size (bare sites now x))
  size_node Channel h a b = ap size (seen_node Channel h a b)
  size_node Indices (Leaf x) a b = ap size (seen_node Indices (Leaf x) a b) ∙ no_more (size (bare sites now x))
  size_node Indices h a b = ap size (seen_node Indices h a b)

  pub depth_node : (p : Place) (h : Head) (a b : Tree) → depth (filled_in sites now p (Node h a b)) ≡ depth_at sites now p (Over h) + max (depth (filled_in sites now (first_place p h) a)) (depth (filled_in sites (now_below h now) (second_place p h) b))
  unfolding depth
  depth_node Dropped h a b = refl
  depth_node Plain (Leaf x) a b = ap depth (seen_node Plain (Leaf x) a b) ∙ no_deeper (depth (bare sites now x))
  depth_node Plain h a b = ap depth (seen_node Plain h a b)
  depth_node Channel (Leaf x) a b = ap depth (seen_node Channel (Leaf x) a b) ∙ no_deeper (depth (bare sites now x))
  depth_node Channel h a b = ap depth (seen_node Channel h a b)
  depth_node Indices (Leaf x) a b = ap depth (seen_node Indices (Leaf x) a b) ∙ no_deeper (depth (bare sites now x))
  depth_node Indices h a b = ap depth (seen_node Indices h a b)
