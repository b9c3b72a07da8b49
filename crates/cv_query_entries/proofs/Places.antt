-- The places of an event's nodes, and what stands behind them.
use Rattle.std.proofs.Common.{◌≡◌, ℕ, ◌+◌, ◌<◌, ◌≤◌, Bool, true, false, not, ◌&&◌, ◌==◌, nat_lt, List, [], ◌++◌, append_assoc, Some, None, refl, sym, ap, ap₂, ◌∙◌, arith, lt-ltb, le-ltb, ltb-true, ltb-false}
use Rattle.std.proofs.lemmas.List.{append-nil}
use Rattle.cv_syntax_trees.specs.declared.head.Head.{Head}
use Rattle.cv_syntax_trees.specs.declared.head.Head.TheVariants.{Event}
use Rattle.cv_syntax_trees.specs.Head.{weight}
use Rattle.cv_syntax_trees.specs.Tree.{Tree, Empty, Node, first_place, second_place, size, subtree}
use Rattle.cv_syntax.proofs.Trees.{tree_of_NoTree}
use Rattle.cv_syntax.proofs.Walking.{size_node}
use Rattle.cv_path.specs.declared.place.Lies.{Lies}
use Rattle.cv_path.specs.declared.place.Lies.TheVariants.{Here, Within, Behind}
use Rattle.cv_path.specs.Places.{LiesAt}
use Rattle.cv_path.proofs.Bounds.{lies_somewhere}
use Rattle.cv_path.proofs.Going.{subtree_behind, subtree_empty, subtree_here, subtree_within}
use Rattle.cv_scene.specs.Scenes.{or_empty}
use Rattle.cv_query_certificates.specs.EventNodes.{are_as_many, event_places, is_behind, is_event_above}
use Rattle.cv_query_entries.specs.Nodes.{places_here}

events_empty : (f p : ℕ) → event_places f p Empty ≡ []
unfolding event_places
events_empty f p = refl

events_node : (f p : ℕ) (h : Head) (a b : Tree) → event_places f p (Node h a b) ≡ places_here f p h ++ (event_places f (first_place p h) a ++ event_places f (second_place p h a) b)
unfolding event_places
events_node f p h a b = refl

pub no_places : (f p : ℕ) (t : Tree) (found : List ℕ) → t ≡ Empty → found ≡ found ++ event_places f p t
no_places f p t found e = sym (append-nil found) ∙ ap (λ ps. found ++ ps) (sym (ap (event_places f p) e ∙ events_empty f p))

pub places_more : (f p : ℕ) (t : Tree) (h : Head) (a b : Tree) (found one more : List ℕ) (q r : ℕ) → t ≡ Node h a b → one ≡ found ++ places_here f p h → more ≡ one ++ event_places f q a → q ≡ first_place p h → r ≡ second_place p h a → more ++ event_places f r b ≡ found ++ event_places f p t
places_more f p t h a b found one more q r e g i j k =
    let H = places_here f p h in
    let A = event_places f (first_place p h) a in
    let B = event_places f (second_place p h a) b in
    ap₂ (λ l n. l ++ event_places f n b) (i ∙ ap₂ (λ l n. l ++ event_places f n a) g j) k
    ∙ (append_assoc (found ++ H) A B ∙ (append_assoc found H (A ++ B) ∙ ap (λ ps. found ++ ps) (sym (ap (event_places f p) e ∙ events_node f p h a b))))

pub ruleset places = (tree_of_NoTree)

-- behind an event's node, which stands at q

module _ (f : ℕ) (ms : Tree) (q : ℕ) where
  pub no_event : (h : Head) (a b : Tree) (p : ℕ) → ((e : ℕ) → h ≡ Event e → ⊥) → is_behind f ms q (Node h a b) p ≡ false
  no_event (Event e) a b p n = absurd (n e refl)
  no_event h a b p n = refl

  early : (b : Bool) → (b && false) ≡ false
  early true = refl
  early false = refl

  pub before_it : (t : Tree) (p : ℕ) → p < q → is_behind f ms q t p ≡ false
  before_it Empty p l = refl
  before_it (Node (Event e) a b) p l =
      let m : p < q + weight (Event e) + size a = omega (arith, l) in
      ap (λ c. (e == f) && (are_as_many a ms && (not c && nat_lt p (second_place q (Event e) a + size b)))) (lt-ltb p (second_place q (Event e) a) m)
      ∙ (ap (λ c. (e == f) && c) (early (are_as_many a ms)) ∙ early (e == f))
  before_it (Node h a b) p l = refl

  module _ (e : ℕ) (a b : Tree) (d : ℕ) where
    abbrev within : Bool
    within = not (nat_lt (q + d) (second_place q (Event e) a)) && nat_lt (q + d) (second_place q (Event e) a + size b)

    pub other_event : (e ≡ f → ⊥) → (e == f) ≡ false → is_behind f ms q (Node (Event e) a b) (q + d) ≡ false
    other_event n g = ap (λ c. c && (are_as_many a ms && within)) g

    pub other_number : (c : Bool) → c ≡ are_as_many a ms → c ≡ false → is_behind f ms q (Node (Event e) a b) (q + d) ≡ false
    other_number c g i = ap (λ k. (e == f) && (k && within)) (sym g ∙ i) ∙ early (e == f)

    module _ (g : (e == f) ≡ true) (c : Bool) (i : c ≡ are_as_many a ms) (j : c ≡ true) where
      as_many : is_behind f ms q (Node (Event e) a b) (q + d) ≡ within
      as_many = ap₂ (λ k m. k && (m && within)) g (sym i ∙ j)

      pub at_node : LiesAt (Event e) a d Here → false ≡ is_behind f ms q (Node (Event e) a b) (q + d)
      at_node l =
          let k : d < weight (Event e) = l in
          let m : q + d < q + weight (Event e) + size a = omega (arith, k) in
          sym (as_many ∙ ap (λ c. not c && nat_lt (q + d) (second_place q (Event e) a + size b)) (lt-ltb (q + d) (second_place q (Event e) a) m))

      pub in_arguments : (r : ℕ) → LiesAt (Event e) a d (Within r) → false ≡ is_behind f ms q (Node (Event e) a b) (q + d)
      in_arguments r l =
          let k : weight (Event e) + r ≡ d = l.0 in
          let n : r < size a = l.1 in
          let m : q + d < q + weight (Event e) + size a = omega (arith, k, n) in
          sym (as_many ∙ ap (λ c. not c && nat_lt (q + d) (second_place q (Event e) a + size b)) (lt-ltb (q + d) (second_place q (Event e) a) m))

      pub behind_it : (r : ℕ) (v : Bool) → LiesAt (Event e) a d (Behind r) → v ≡ nat_lt r (size b) → v ≡ is_behind f ms q (Node (Event e) a b) (q + d)
      behind_it r v l w =
          let k : weight (Event e) + size a + r ≡ d = l in
          let m : q + weight (Event e) + size a ≤ q + d = omega (arith, k) in
          w ∙ (same (nat_lt r (size b)) refl ∙ sym (as_many ∙ ap (λ c. not c && nat_lt (q + d) (second_place q (Event e) a + size b)) (le-ltb (q + d) (second_place q (Event e) a) m)))
        where
          same : (u : Bool) → nat_lt r (size b) ≡ u → nat_lt r (size b) ≡ nat_lt (q + d) (second_place q (Event e) a + size b)
          same true i =
              let k : weight (Event e) + size a + r ≡ d = l in
              let n : r < size b = ltb-true r (size b) i in
              i ∙ sym (lt-ltb (q + d) (second_place q (Event e) a + size b) (omega (arith, k, n)))
          same false i =
              let k : weight (Event e) + size a + r ≡ d = l in
              let n : size b ≤ r = ltb-false r (size b) i in
              i ∙ sym (le-ltb (q + d) (second_place q (Event e) a + size b) (omega (arith, k, n)))

-- a subtree is no larger than the tree

pub subtree_size : (t : Tree) (p : ℕ) (u : Tree) → subtree t p ≡ Some u → size u ≤ size t
unfolding size
subtree_size Empty p u e = absurd (let z = sym (subtree_empty Empty p refl) ∙ e in cc)
subtree_size (Node h a b) p u e = go (λ q. subtree_size a q u) (λ q. subtree_size b q u) (lies_somewhere h a p)
  where
    go : ((q : ℕ) → subtree a q ≡ Some u → size u ≤ size a) → ((q : ℕ) → subtree b q ≡ Some u → size u ≤ size b) → (l : Lies) × LiesAt h a p l → size u ≤ weight h + size a + size b
    go f g (Here, l) = let z = sym (subtree_here (Node h a b) h a b p 0 refl l) ∙ e in let i : Node h a b ≡ u = cc in let j : size (Node h a b) ≡ size u = ap size i in omega (arith, j, size_node (Node h a b) h a b refl)
    go f g (Within q, l) = let k = f q (sym (subtree_within (Node h a b) h a b p q refl l) ∙ e) in omega (arith, k)
    go f g (Behind q, l) = let k = g q (sym (subtree_behind (Node h a b) h a b p q refl l) ∙ e) in omega (arith, k)

module _ (game : Tree) (f : ℕ) (ms : Tree) (q p : ℕ) where
  pub no_part : None ≡ subtree game q → false ≡ is_event_above game f ms q p
  no_part e = ap (λ o. is_behind f ms q (or_empty o) p) e

  pub that_part : (t : Tree) (v : Bool) → Some t ≡ subtree game q → v ≡ is_behind f ms q t p → v ≡ is_event_above game f ms q p
  that_part t v e g = g ∙ ap (λ o. is_behind f ms q (or_empty o) p) e
