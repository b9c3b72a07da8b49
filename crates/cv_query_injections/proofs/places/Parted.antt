-- Two event nodes of a game, one before the other, stand in different bodies of the construct at which they part.
use Rattle.std.proofs.Common.{◌≡◌, ℕ, suc, ◌+◌, ◌-◌, ◌<◌, ◌≤◌, Bool, true, false, cond, nat_lt, ltb-true, ltb-false, Option, Some, None, refl, sym, ap, subst, ◌∙◌, arith}
use Rattle.std.proofs.lemmas.Bool.{and_parts, both_ways}
use Rattle.cv_syntax_trees.specs.declared.head.Head.{Head}
use Rattle.cv_syntax_trees.specs.declared.head.Head.TheVariants.{Cons, Event, Find, If}
use Rattle.cv_syntax_trees.specs.Head.{weight}
use Rattle.cv_syntax_trees.specs.Tree.{Tree, Empty, Node, first_place, second_place, size, subtree}
use Rattle.cv_path.specs.declared.place.Lies.{Lies}
use Rattle.cv_path.specs.declared.place.Lies.TheVariants.{Here, Within, Behind}
use Rattle.cv_path.specs.Places.{LiesAt}
use Rattle.cv_path.proofs.Bounds.{lies_somewhere}
use Rattle.cv_path.proofs.Going.{subtree_empty, subtree_here, subtree_within, subtree_behind}
use Rattle.cv_scope_rules.specs.Phrases.{Phrase, Body, Branches, Else, Inputs, Nil, Term, Terms, Then, is_phrase}
use Rattle.cv_steps.proofs.Flat.{AreStill, IfStill, is_of_terms, open_phrase, rows_still}
use Rattle.cv_syntax_trees.proofs.lists.Options.{none_some, some_injective}
use Rattle.cv_query_certificates.specs.Pairs.{between, of_first, of_second_child, parting}
use Rattle.cv_query_laws.specs.visits.Bodies.{LiesInBody, LiesInElement}
use Rattle.cv_query_laws.proofs.correspondences.Behind.{arguments_phrase}
use Rattle.cv_query_laws.proofs.visits.Above.{size_fits}

-- lists of bodies and of branches are lists throughout

abbrev AreItems : Tree → Type 0
AreItems Empty = Unit {0}
AreItems (Node Cons a b) = AreItems b
AreItems t = ⊥

nil_items : (t : Tree) → is_phrase Nil t ≡ true → AreItems t
unfolding is_phrase
nil_items Empty e = tt
nil_items (Node h a b) e = absurd (both_ways _ refl e)

else_items : (t : Tree) → is_phrase Else t ≡ true → AreItems t
unfolding is_phrase
else_items Empty e = tt
else_items (Node Cons a b) e = nil_items b (and_parts (is_phrase Body a) _ e).1
else_items (Node h a b) e = absurd (both_ways _ refl e)

then_items : (t : Tree) → is_phrase Then t ≡ true → AreItems t
unfolding is_phrase
then_items Empty e = tt
then_items (Node Cons a b) e = else_items b (and_parts (is_phrase Body a) _ e).1
then_items (Node h a b) e = absurd (both_ways _ refl e)

branches_items : (t : Tree) → is_phrase Branches t ≡ true → AreItems t
unfolding is_phrase
branches_items Empty e = tt
branches_items (Node Cons a b) e = branches_items b (and_parts (is_phrase _ a) _ e).1
branches_items (Node h a b) e = absurd (both_ways _ refl e)

if_items : (σ : Phrase) (a b : Tree) → is_phrase σ (Node If a b) ≡ true → AreItems b
unfolding is_phrase
if_items Body a b e = then_items b (and_parts (is_phrase Term a) _ e).1
if_items σ a b e = absurd (both_ways _ refl e)

find_items : (σ : Phrase) (l : ℕ) (a b : Tree) → is_phrase σ (Node (Find l) a b) ≡ true → AreItems a
unfolding is_phrase
find_items Body l a b e = branches_items a (and_parts (is_phrase Branches a) _ e).0
find_items σ l a b e = absurd (both_ways _ refl e)

event_no_term : (σ : Phrase) (f : ℕ) (a b : Tree) → is_of_terms σ ≡ true → is_phrase σ (Node (Event f) a b) ≡ true → ⊥
unfolding is_phrase
event_no_term Body f a b k e = both_ways _ refl k
event_no_term σ f a b k e = both_ways _ refl e

-- a node of a phrase is some phrase
node_phrase : (σ : Phrase) (t : Tree) (n : ℕ) (h : Head) (a b : Tree) → is_phrase σ t ≡ true → subtree t n ≡ Some (Node h a b) → (τ : Phrase) × (is_phrase τ (Node h a b) ≡ true)
node_phrase σ Empty n h a b e s = absurd (none_some (Node h a b) (sym (subtree_empty Empty n refl) ∙ s))
node_phrase σ (Node k x y) n h a b e s =
    let o = open_phrase σ k x y e in
    go (lies_somewhere k x n) (λ q. node_phrase o.0.0 x q h a b o.2) (λ q. node_phrase o.0.1 y q h a b o.3)
  where
    go : (l : Lies) × LiesAt k x n l → ((q : ℕ) → subtree x q ≡ Some (Node h a b) → (τ : Phrase) × (is_phrase τ (Node h a b) ≡ true)) → ((q : ℕ) → subtree y q ≡ Some (Node h a b) → (τ : Phrase) × (is_phrase τ (Node h a b) ≡ true))
        → (τ : Phrase) × (is_phrase τ (Node h a b) ≡ true)
    go (Here, l) f g = (σ, subst (λ t. is_phrase σ t ≡ true) (some_injective (sym (subtree_here (Node k x y) k x y n 0 refl l) ∙ s)) e)
    go (Within q, l) f g = f q (sym (subtree_within (Node k x y) k x y n q refl l) ∙ s)
    go (Behind q, l) f g = g q (sym (subtree_behind (Node k x y) k x y n q refl l) ∙ s)

-- no event stands in a term
no_event : (σ : Phrase) (t : Tree) (n f : ℕ) (x y : Tree) → is_of_terms σ ≡ true → is_phrase σ t ≡ true → subtree t n ≡ Some (Node (Event f) x y) → ⊥
no_event σ Empty n f x y k e s = none_some (Node (Event f) x y) (sym (subtree_empty Empty n refl) ∙ s)
no_event σ (Node h a b) n f x y k e s =
    let o = open_phrase σ h a b e in
    let r : AreStill h o.0 = subst (IfStill h) o.1 (rows_still σ h k) in
    go (lies_somewhere h a n) (λ q. no_event o.0.0 a q f x y r.first o.2) (λ q. no_event o.0.1 b q f x y r.second o.3)
  where
    go : (l : Lies) × LiesAt h a n l → ((q : ℕ) → subtree a q ≡ Some (Node (Event f) x y) → ⊥) → ((q : ℕ) → subtree b q ≡ Some (Node (Event f) x y) → ⊥) → ⊥
    go (Here, l) i j = event_no_term σ f x y k (subst (λ t. is_phrase σ t ≡ true) (some_injective (sym (subtree_here (Node h a b) h a b n 0 refl l) ∙ s)) e)
    go (Within q, l) i j = i q (sym (subtree_within (Node h a b) h a b n q refl l) ∙ s)
    go (Behind q, l) i j = j q (sym (subtree_behind (Node h a b) h a b n q refl l) ∙ s)

-- a place of a list lies in one of its elements
element_of : (t : Tree) (base q : ℕ) → AreItems t → base ≤ q → q < base + size t → (k : ℕ) × LiesInElement t base k q
unfolding size
element_of Empty base q i l m = absurd (omega arith)
element_of (Node Cons a b) base q i l m = go (nat_lt q (base + size a)) refl (element_of b (second_place base Cons a) q i)
  where
    go : (u : Bool) → nat_lt q (base + size a) ≡ u → (second_place base Cons a ≤ q → q < second_place base Cons a + size b → (k : ℕ) × LiesInElement b (second_place base Cons a) k q) → (k : ℕ) × LiesInElement (Node Cons a b) base k q
    go true e ih =
        let below : q < base + size a = ltb-true q (base + size a) e in
        let from : base + 0 ≤ q = omega arith in
        let to : q < base + 0 + size a = omega arith in
        (0, (from, to))
    go false e ih =
        let above : base + size a ≤ q = ltb-false q (base + size a) e in
        let from : base + 0 + size a ≤ q = omega arith in
        let to : q < base + 0 + size a + size b = omega arith in
        let r = ih from to in
        (suc r.0, r.1)
element_of (Node h a b) base q i l m = absurd i

-- the tree stands at a place of the game

abbrev Agrees : (game : Tree) → (base : ℕ) → Tree → Type 0
Agrees game base t = (r : ℕ) → r < size t → subtree game (base + r) ≡ subtree t r

module _ (game : Tree) (base : ℕ) (h : Head) (a b : Tree) (agrees : Agrees game base (Node h a b)) where
  agrees_first : Agrees game (first_place base h) a
  unfolding size
  agrees_first r l =
      let e : base + weight h + r ≡ base + (weight h + r) = omega arith in
      ap (subtree game) e ∙ agrees (weight h + r) (let m : weight h + r < weight h + size a + size b = omega arith in m)
      ∙ subtree_within (Node h a b) h a b (weight h + r) r refl (refl, l)

  agrees_second : Agrees game (second_place base h a) b
  unfolding size
  agrees_second r l =
      let e : base + weight h + size a + r ≡ base + (weight h + size a + r) = omega arith in
      ap (subtree game) e ∙ agrees (weight h + size a + r) (let m : weight h + size a + r < weight h + size a + size b = omega arith in m)
      ∙ subtree_behind (Node h a b) h a b (weight h + size a + r) r refl refl

  node_here : weight h ≡ 1 → subtree game base ≡ Some (Node h a b)
  unfolding size
  node_here w =
      let e : base ≡ base + 0 = omega arith in
      let l : 0 < weight h + size a + size b = omega arith in
      let m : 0 < weight h = omega arith in
      ap (subtree game) e ∙ agrees 0 l ∙ subtree_here (Node h a b) h a b 0 0 refl m

-- a list of bodies or branches of a construct, from some body on

record Tail (game : Tree) (n base : ℕ) (t : Tree) : Type 0 where
  node : Tree
  stands : subtree game n ≡ Some node
  number : ℕ → ℕ
  inside : (k q : ℕ) → LiesInElement t base k q → LiesInBody node n (number k) q
  apart : (k l : ℕ) → number k ≡ number l → k ≡ l
  are_items : AreItems t

abbrev TailOf : (game : Tree) → Option ℕ → (base : ℕ) → Tree → Type 0
TailOf game None base t = Unit {0}
TailOf game (Some n) base t = Tail game n base t

-- The places lie in different bodies of the node.
pub record Parted (game : Tree) (n p q : ℕ) : Type 0 where
  pub node : Tree
  pub stands : subtree game n ≡ Some node
  pub first : ℕ
  pub second : ℕ
  pub apart : first ≡ second → ⊥
  pub lies_first : LiesInBody node n first p
  pub lies_second : LiesInBody node n second q

module _ (game : Tree) (phrase : is_phrase Inputs game ≡ true) where
  first_tail : (h : Head) (a b : Tree) (base : ℕ) → Agrees game base (Node h a b) → TailOf game (of_first base h) (first_place base h) a
  first_tail (Find l) a b base agrees =
      let stands = node_here game base (Find l) a b agrees refl in
      let whole = node_phrase Inputs game base (Find l) a b phrase stands in
      record {
        node = Node (Find l) a b;
        stands = stands;
        number = λ k. suc k;
        inside = λ k q i. i;
        apart = λ k j e. omega arith;
        are_items = find_items whole.0 l a b whole.1;
      }
  first_tail h a b base agrees = tt

  second_tail : (c : Option ℕ) (h : Head) (a b : Tree) (base : ℕ) → TailOf game c base (Node h a b) → Agrees game base (Node h a b) → TailOf game (of_second_child c base h) (second_place base h a) b
  second_tail c If a b base tail agrees =
      let stands = node_here game base If a b agrees refl in
      let whole = node_phrase Inputs game base If a b phrase stands in
      record {
        node = Node If a b;
        stands = stands;
        number = λ k. k;
        inside = λ k q i. i;
        apart = λ k j e. e;
        are_items = if_items whole.0 a b whole.1;
      }
  second_tail None Cons a b base tail agrees = tt
  second_tail (Some n) Cons a b base tail agrees = record {
    node = tail.node;
    stands = tail.stands;
    number = λ k. tail.number (suc k);
    inside = λ k q i. tail.inside (suc k) q i;
    apart = λ k j e. let same : suc k ≡ suc j = tail.apart (suc k) (suc j) e in omega arith;
    are_items = tail.are_items;
  }
  second_tail c h a b base tail agrees = tt

  module _ (p q f e : ℕ) (x y z w : Tree) (at_p : subtree game p ≡ Some (Node (Event f) x y)) (at_q : subtree game q ≡ Some (Node (Event e) z w)) (before : p < q) where
    -- a node that has both places has the first one below it, unless the other is behind its first child
    below_head : (base : ℕ) (h : Head) (a b : Tree) → Agrees game base (Node h a b) → base ≤ p → q < second_place base h a → first_place base h ≤ p
    unfolding size
    below_head base h a b agrees l m = go (nat_lt p (base + weight h)) refl
      where
        own : p < base + weight h → Node h a b ≡ Node (Event f) x y → base + weight h ≤ p
        own u same =
            let head : h ≡ Event f = cc in
            let one : weight h ≡ 1 = ap weight head in
            let args : a ≡ x = cc in
            let r : q ≡ base + weight h + (q - (base + weight h)) = omega arith in
            let k : q - (base + weight h) < size a = omega arith in
            absurd
            (no_event Terms a (q - (base + weight h)) e z w refl (ap (is_phrase Terms) args ∙ arguments_phrase Inputs game p f x y phrase at_p)
            (sym (agrees_first game base h a b agrees (q - (base + weight h)) k) ∙ sym (ap (subtree game) r) ∙ at_q))

        go : (u : Bool) → nat_lt p (base + weight h) ≡ u → base + weight h ≤ p
        go false i = ltb-false p (base + weight h) i
        go true i =
            let u : p < base + weight h = ltb-true p (base + weight h) i in
            let there : p ≡ base + (p - base) = omega arith in
            let k : p - base < weight h = omega arith in
            let n : p - base < weight h + size a + size b = omega arith in
            own u (some_injective (sym (subtree_here (Node h a b) h a b (p - base) 0 refl k) ∙ sym (agrees (p - base) n) ∙ sym (ap (subtree game) there) ∙ at_p))

    no_find : (l : ℕ) (a b : Tree) → Node (Find l) a b ≡ Node (Event f) x y → ⊥
    no_find l a b same = cc

    -- where the one lies below the first child, or at the node, and the other below the second
    parted_here : (c : Option ℕ) (h : Head) (base : ℕ) (a b : Tree) → TailOf game c base (Node h a b) → Agrees game base (Node h a b) → base ≤ p → p < second_place base h a → second_place base h a ≤ q → q < base + size (Node h a b) → (n : ℕ) → between c base h ≡ Some n → Parted game n p q
    unfolding size
    parted_here None Cons base a b tail agrees l m o u n i = absurd (none_some n i)
    parted_here (Some k) Cons base a b tail agrees l m o u n i =
        let same : k ≡ n = some_injective i in
        let from : base + 0 ≤ p = omega arith in
        let to : q < base + 0 + size a + size b = omega arith in
        let r = element_of b (second_place base Cons a) q tail.are_items o to in
        subst (λ n. Parted game n p q) same
        (record {
          node = tail.node;
          stands = tail.stands;
          first = tail.number 0;
          second = tail.number (suc r.0);
          apart = λ j. let s : 0 ≡ suc r.0 = tail.apart 0 (suc r.0) j in omega arith;
          lies_first = tail.inside 0 p (from, m);
          lies_second = tail.inside (suc r.0) q r.1;
        })
    parted_here c (Find k) base a b tail agrees l m o u n i =
        let same : base ≡ n = some_injective i in
        let stands = node_here game base (Find k) a b agrees refl in
        let whole = node_phrase Inputs game base (Find k) a b phrase stands in
        let to : q < base + 1 + size a + size b = omega arith in
        let r = element_of a (first_place base (Find k)) p (find_items whole.0 k a b whole.1) (behind stands) m in
        subst (λ n. Parted game n p q) same
        (record {
          node = Node (Find k) a b;
          stands = stands;
          first = suc r.0;
          second = 0;
          apart = λ j. omega arith;
          lies_first = r.1;
          lies_second = (o, to);
        })
      where
        behind : subtree game base ≡ Some (Node (Find k) a b) → base + 1 ≤ p
        behind stands = go (nat_lt base p) refl
          where
            go : (v : Bool) → nat_lt base p ≡ v → base + 1 ≤ p
            go true j = let d : base < p = ltb-true base p j in omega arith
            go false j =
                let d : p ≤ base = ltb-false base p j in
                let same : base ≡ p = omega arith in
                absurd (no_find k a b (some_injective (sym stands ∙ ap (subtree game) same ∙ at_p)))
    parted_here c h base a b tail agrees l m o u n i = absurd (none_some n i)

    parted : (c : Option ℕ) (base : ℕ) (t : Tree) → TailOf game c base t → Agrees game base t → base ≤ p → q < base + size t → (n : ℕ) → parting c base t p q ≡ Some n → Parted game n p q
    unfolding parting size
    parted c base Empty tail agrees l m n i = absurd (none_some n i)
    parted c base (Node h a b) tail agrees l m n i =
        go (nat_lt q (second_place base h a)) refl (nat_lt p (second_place base h a)) refl i
        (parted (of_first base h) (first_place base h) a (first_tail h a b base agrees) (agrees_first game base h a b agrees))
        (parted (of_second_child c base h) (second_place base h a) b (second_tail c h a b base tail agrees) (agrees_second game base h a b agrees))
      where
        one : Option ℕ
        one = parting (of_first base h) (first_place base h) a p q

        two : Option ℕ
        two = parting (of_second_child c base h) (second_place base h a) b p q

        go : (u : Bool) → nat_lt q (second_place base h a) ≡ u → (v : Bool) → nat_lt p (second_place base h a) ≡ v → cond u one (cond v (between c base h) two) ≡ Some n
            → (first_place base h ≤ p → q < first_place base h + size a → (n : ℕ) → one ≡ Some n → Parted game n p q)
            → (second_place base h a ≤ p → q < second_place base h a + size b → (n : ℕ) → two ≡ Some n → Parted game n p q) → Parted game n p q
        go true j v k r f s =
            let u : q < base + weight h + size a = ltb-true q (second_place base h a) j in
            f (below_head base h a b agrees l u) u n r
        go false j true k r f s =
            parted_here c h base a b tail agrees l (ltb-true p (second_place base h a) k) (ltb-false q (second_place base h a) j) m n r
        go false j false k r f s =
            let to : q < base + weight h + size a + size b = omega arith in
            s (ltb-false p (second_place base h a) k) to n r

    pub places_part : (n : ℕ) → parting None 0 game p q ≡ Some n → Parted game n p q
    unfolding size
    places_part n i =
        let fits : q + (1 + size z + size w) ≤ size game = size_fits (Node (Event e) z w) game q refl at_q in
        parted None 0 game tt (λ r l. let same : 0 + r ≡ r = omega arith in ap (subtree game) same) (omega arith) (let l : q < 0 + size game = omega arith in l) n i
