-- What an event's node executes is known behind it.
use Rattle.std.proofs.Common.{◌≡◌, ℕ, ◌+◌, ◌-◌, ◌<◌, ◌≤◌, ◌⊎◌, Bool, true, cond, not, ◌==◌, List, [], ◌∷◌, ◌++◌, inl, inr, Option, Some, None, refl, sym, ap, subst, ◌∙◌, arith, nat_lt, ltb-true, ltb-false, eq-eqb, eqb-true}
use Rattle.std.proofs.lemmas.Bool.{both_ways, and_parts, not-true}
use Rattle.cv_syntax_trees.specs.declared.head.Head.{Head}
use Rattle.cv_syntax_trees.specs.declared.head.Head.TheVariants.{Repl, In, Event, New, Let, If, Branch, Cons, Key, Call}
use Rattle.cv_syntax_trees.specs.Head.{weight}
use Rattle.cv_syntax_trees.specs.Tree.{Tree, Empty, Node, first, first_place, second_place, size, subtree}
use Rattle.cv_path.specs.declared.place.Lies.{Lies}
use Rattle.cv_path.specs.declared.place.Lies.TheVariants.{Here, Within, Behind}
use Rattle.cv_path.specs.Places.{LiesAt}
use Rattle.cv_path.proofs.Bounds.{lies_somewhere}
use Rattle.cv_path.proofs.Going.{subtree_empty, subtree_here, subtree_within, subtree_behind}
use Rattle.cv_scope_rules.specs.declared.position.Position.{Position}
use Rattle.cv_scope_rules.specs.declared.position.Position.TheVariants.{Anywhere, Bodies, ElseBody, Guards, Guarded, Cells}
use Rattle.cv_scope_rules.specs.Context.{Context, context_at, first_context, first_position, item_context, known_at, nothing_known, rest_context, second_context, second_position}
use Rattle.cv_scope_rules.specs.Phrases.{Phrase, Body, Terms, both_are, is_phrase, parts}
use Rattle.cv_derive_facts.proofs.Covering.{known_behind, known_empty, known_here, known_within}
use Rattle.cv_scope_runs.specs.Promises.{after_site}
use Rattle.cv_scene.specs.Scenes.{or_empty}
use Rattle.cv_query_certificates.specs.EventNodes.{are_as_many, arguments_at, event_places, is_behind, is_event_above, is_event_head}

abbrev pub IsAmong : {A : Type 0} → A → List A → Type 0
IsAmong x [] = ⊥
IsAmong x (y ∷ ys) = (x ≡ y) ⊎ IsAmong x ys

pub among_left : {A : Type 0} (x : A) (ys zs : List A) → IsAmong x ys → IsAmong x (ys ++ zs)
among_left x [] zs a = absurd a
among_left x (y ∷ ys) zs (inl e) = inl e
among_left x (y ∷ ys) zs (inr a) = inr (among_left x ys zs a)

pub among_right : {A : Type 0} (x : A) (ys zs : List A) → IsAmong x zs → IsAmong x (ys ++ zs)
among_right x [] zs a = a
among_right x (y ∷ ys) zs a = inr (among_right x ys zs a)

among_one : {A : Type 0} (x : A) → IsAmong x (x ∷ [])
among_one x = inl refl

one_context : (Γ Δ : Context) → ◌≡◌ {A = Option Context} (Some Γ) (Some Δ) → Γ ≡ Δ
one_context Γ Δ e = cc

-- what is known above is known below

module _ (d : ℕ × Tree) where
  item_keeps : (w : Position) (Γ : Context) → IsAmong d Γ.events → IsAmong d (item_context w Γ).events
  item_keeps Bodies Γ a = a
  item_keeps ElseBody Γ a = a
  item_keeps w Γ a = a

  rest_keeps : (w : Position) (c : Tree) (Γ : Context) → IsAmong d Γ.events → IsAmong d (rest_context w c Γ).events
  rest_keeps Guards c Γ a = a
  rest_keeps Guarded c Γ a = a
  rest_keeps Cells c Γ a = a
  rest_keeps w c Γ a = a

  first_keeps : (w : Position) (h : Head) (Γ : Context) → IsAmong d Γ.events → IsAmong d (first_context w h Γ).events
  first_keeps w Cons Γ a = item_keeps w Γ a
  first_keeps w h Γ a = a

  second_keeps : (w : Position) (h : Head) (c : Tree) (Γ : Context) → IsAmong d Γ.events → IsAmong d (second_context w h c Γ).events
  second_keeps w Cons c Γ a = rest_keeps w c Γ a
  second_keeps w (Repl i n) c Γ a = a
  second_keeps w (In k) c Γ a = a
  second_keeps w (New x T) c Γ a = a
  second_keeps w (Let x T) c Γ a = a
  second_keeps w (Key x) c Γ a = a
  second_keeps w (Call x l) c Γ a = a
  second_keeps w (Event e) c Γ a = among_left d Γ.events _ a
  second_keeps w If c Γ a = a
  second_keeps w Branch c Γ a = a
  second_keeps w h c Γ a = a

  -- behind a definition, too
  pub site_keeps : (h : Head) (us rest : Tree) (Γ : Context) → IsAmong d Γ.events → IsAmong d (after_site h us rest Γ).events
  site_keeps Branch us (Node h cells (Node k c body)) Γ a = a
  site_keeps Branch us (Node h cells Empty) Γ a = a
  site_keeps Branch us Empty Γ a = a
  site_keeps h us rest Γ a = second_keeps Anywhere h us Γ a

  context_keeps : (w : Position) (Γ : Context) (t : Tree) (p : ℕ) (Δ : Context) → context_at w Γ t p ≡ Some Δ → IsAmong d Γ.events → IsAmong d Δ.events
  context_keeps w Γ Empty p Δ e a = absurd (none (sym (known_empty w Γ p) ∙ e))
    where
      none : ◌≡◌ {A = Option Context} None (Some Δ) → ⊥
      none k = cc
  context_keeps w Γ (Node h x y) p Δ e a =
      go (lies_somewhere h x p) (λ q k. context_keeps (first_position w h) (first_context w h Γ) x q Δ k (first_keeps w h Γ a)) (λ q k. context_keeps (second_position w h) (second_context w h x Γ) y q Δ k (second_keeps w h x Γ a))
    where
      go : (l : Lies) × LiesAt h x p l → ((q : ℕ) → context_at (first_position w h) (first_context w h Γ) x q ≡ Some Δ → IsAmong d Δ.events) → ((q : ℕ) → context_at (second_position w h) (second_context w h x Γ) y q ≡ Some Δ → IsAmong d Δ.events) → IsAmong d Δ.events
      go (Here, l) f k = let same : Γ ≡ Δ = one_context Γ Δ (sym (known_here w Γ h x y p 0 l) ∙ e) in subst (λ (Γ : Context). IsAmong d Γ.events) same a
      go (Within q, l) f k = f q (sym (known_within w Γ h x y p q l) ∙ e)
      go (Behind q, l) f k = k q (sym (known_behind w Γ h x y p q l) ∙ e)

no_tree : (u : Tree) → ◌≡◌ {A = Option Tree} None (Some u) → ⊥
no_tree u e = cc

same_node : (t u : Tree) → ◌≡◌ {A = Option Tree} (Some t) (Some u) → t ≡ u
same_node t u e = cc

-- an event's node in a tree, and what is known at the places behind it
module _ (f : ℕ) (a b : Tree) where
  abbrev node : Tree
  node = Node (Event f) a b

  top_weight : Tree → ℕ
  top_weight Empty = 0
  top_weight (Node h x y) = weight h

  -- a node that is the event's has a place
  counts : (h : Head) (x y : Tree) → Node h x y ≡ node → weight h ≡ 1
  unfolding top_weight
  counts h x y e = ap top_weight e

  -- its places are within those of the tree
  size_fits : (t : Tree) (n : ℕ) → subtree t n ≡ Some node → n + (1 + size a + size b) ≤ size t
  unfolding size
  size_fits Empty n e = absurd (no_tree node (sym (subtree_empty Empty n refl) ∙ e))
  size_fits (Node h x y) n e = go (lies_somewhere h x n) (λ q. size_fits x q) (λ q. size_fits y q)
    where
      go : (l : Lies) × LiesAt h x n l → ((q : ℕ) → subtree x q ≡ Some node → q + (1 + size a + size b) ≤ size x) → ((q : ℕ) → subtree y q ≡ Some node → q + (1 + size a + size b) ≤ size y) → n + (1 + size a + size b) ≤ weight h + size x + size y
      go (Here, l) f k =
          let m : n < weight h = l in
          let same = same_node (Node h x y) node (sym (subtree_here (Node h x y) h x y n 0 refl l) ∙ e) in
          let w : weight h ≡ 1 = counts h x y same in
          let z : weight h + size x + size y ≡ 1 + size a + size b = ap size same in
          omega arith
      go (Within q, l) f k =
          let m : weight h + q ≡ n = l.0 in
          let z : q + (1 + size a + size b) ≤ size x = f q (sym (subtree_within (Node h x y) h x y n q refl l) ∙ e) in
          omega arith
      go (Behind q, l) f k =
          let m : weight h + size x + q ≡ n = l in
          let z : q + (1 + size a + size b) ≤ size y = k q (sym (subtree_behind (Node h x y) h x y n q refl l) ∙ e) in
          omega arith

  event_known : (w : Position) (Γ : Context) (t : Tree) (n p : ℕ) (Δ : Context) → subtree t n ≡ Some node → n + 1 + size a ≤ p → p < n + 1 + size a + size b → context_at w Γ t p ≡ Some Δ → IsAmong (f, a) Δ.events
  event_known w Γ Empty n p Δ e j k c = absurd (no_tree node (sym (subtree_empty Empty n refl) ∙ e))
  event_known w Γ (Node h x y) n p Δ e j k c =
      go (lies_somewhere h x n) (λ q r. event_known (first_position w h) (first_context w h Γ) x q r Δ) (λ q r. event_known (second_position w h) (second_context w h x Γ) y q r Δ)
    where
      here : n ≡ 0 → context_at w Γ node p ≡ Some Δ → IsAmong (f, a) Δ.events
      here z c =
          context_keeps (f, a) (second_position w (Event f)) (second_context w (Event f) a Γ) b (p - (1 + size a)) Δ
          (sym (known_behind w Γ (Event f) a b p (p - (1 + size a)) (omega arith)) ∙ c)
          (among_right (f, a) Γ.events ((f, a) ∷ []) (among_one (f, a)))

      go : (l : Lies) × LiesAt h x n l
          → ((q r : ℕ) → subtree x q ≡ Some node → q + 1 + size a ≤ r → r < q + 1 + size a + size b → context_at (first_position w h) (first_context w h Γ) x r ≡ Some Δ → IsAmong (f, a) Δ.events)
          → ((q r : ℕ) → subtree y q ≡ Some node → q + 1 + size a ≤ r → r < q + 1 + size a + size b → context_at (second_position w h) (second_context w h x Γ) y r ≡ Some Δ → IsAmong (f, a) Δ.events)
          → IsAmong (f, a) Δ.events
      go (Here, l) fx fy =
          let m : n < weight h = l in
          let same = same_node (Node h x y) node (sym (subtree_here (Node h x y) h x y n 0 refl l) ∙ e) in
          let z : weight h ≡ 1 = counts h x y same in
          here (omega arith) (subst (λ t. context_at w Γ t p ≡ Some Δ) same c)
      go (Within q, l) fx fy =
          let m : weight h + q ≡ n = l.0 in
          let s = sym (subtree_within (Node h x y) h x y n q refl l) ∙ e in
          let z : q + (1 + size a + size b) ≤ size x = size_fits x q s in
          fx q (p - weight h) s (omega arith) (omega arith) (sym (known_within w Γ h x y p (p - weight h) (omega arith, omega arith)) ∙ c)
      go (Behind q, l) fx fy =
          let m : weight h + size x + q ≡ n = l in
          let s = sym (subtree_behind (Node h x y) h x y n q refl l) ∙ e in
          fy q (p - (weight h + size x)) s (omega arith) (omega arith) (sym (known_behind w Γ h x y p (p - (weight h + size x)) (omega arith)) ∙ c)

  -- its place is among those of the event

  place_here : (t : Tree) → t ≡ node → (q : ℕ) → IsAmong q (event_places f q t)
  unfolding event_places
  place_here t e q =
      subst (λ t. IsAmong q (event_places f q t)) (sym e)
      (among_left q (cond (f == f) (q ∷ []) []) _ (subst (λ c. IsAmong q (cond c (q ∷ []) [])) (sym (eq-eqb f f refl)) (among_one q)))

  places_among : (t : Tree) (base n : ℕ) → subtree t n ≡ Some node → IsAmong (base + n) (event_places f base t)
  unfolding event_places
  places_among Empty base n e = absurd (no_tree node (sym (subtree_empty Empty n refl) ∙ e))
  places_among (Node h x y) base n e = go (lies_somewhere h x n) (λ q. places_among x (first_place base h) q) (λ q. places_among y (second_place base h x) q)
    where
      go : (l : Lies) × LiesAt h x n l → ((q : ℕ) → subtree x q ≡ Some node → IsAmong (first_place base h + q) (event_places f (first_place base h) x)) → ((q : ℕ) → subtree y q ≡ Some node → IsAmong (second_place base h x + q) (event_places f (second_place base h x) y))
          → IsAmong (base + n) (event_places f base (Node h x y))
      go (Here, l) fx fy =
          let m : n < weight h = l in
          let same = same_node (Node h x y) node (sym (subtree_here (Node h x y) h x y n 0 refl l) ∙ e) in
          let z : weight h ≡ 1 = counts h x y same in
          let k : base ≡ base + n = omega arith in
          subst (λ p. IsAmong p (event_places f base (Node h x y))) k (place_here (Node h x y) same base)
      go (Within q, l) fx fy =
          let m : weight h + q ≡ n = l.0 in
          let k : base + weight h + q ≡ base + n = omega arith in
          among_right (base + n) (cond (is_event_head f h) (base ∷ []) []) _
          (among_left (base + n) (event_places f (first_place base h) x) _
          (subst (λ p. IsAmong p (event_places f (first_place base h) x)) k (fx q (sym (subtree_within (Node h x y) h x y n q refl l) ∙ e))))
      go (Behind q, l) fx fy =
          let m : weight h + size x + q ≡ n = l in
          let k : base + weight h + size x + q ≡ base + n = omega arith in
          among_right (base + n) (cond (is_event_head f h) (base ∷ []) []) _
          (among_right (base + n) (event_places f (first_place base h) x) _
          (subst (λ p. IsAmong p (event_places f (second_place base h x) y)) k (fy q (sym (subtree_behind (Node h x y) h x y n q refl l) ∙ e))))

pub place_among : (game : Tree) (p f : ℕ) (a b : Tree) → subtree game p ≡ Some (Node (Event f) a b) → IsAmong p (event_places f 0 game)
place_among game p f a b e = let k : 0 + p ≡ p = omega arith in subst (λ q. IsAmong q (event_places f 0 game)) k (places_among f a b game 0 p e)

-- an event's node that stands above a place

pub record EventNode (game : Tree) (f : ℕ) (ms : Tree) (n p : ℕ) : Type 0 where
  pub next : Tree
  pub stands : subtree game n ≡ Some (Node (Event f) (arguments_at game n) next)
  pub long : are_as_many (arguments_at game n) ms ≡ true
  pub from : n + 1 + size (arguments_at game n) ≤ p
  pub to : p < n + 1 + size (arguments_at game n) + size next

pub event_node : (game : Tree) (f : ℕ) (ms : Tree) (n p : ℕ) → is_event_above game f ms n p ≡ true → EventNode game f ms n p
event_node game f ms n p e = go (subtree game n) refl e
  where
    go : (o : Option Tree) → subtree game n ≡ o → is_behind f ms n (or_empty o) p ≡ true → EventNode game f ms n p
    go None k e = absurd (both_ways _ refl e)
    go (Some Empty) k e = absurd (both_ways _ refl e)
    go (Some (Node (Event d) a b)) k e =
        let args : a ≡ arguments_at game n = sym (ap (λ o. first (or_empty o)) k) in
        let r = and_parts (d == f) _ e in
        let s = and_parts (are_as_many a ms) _ r.1 in
        let t = and_parts (not (nat_lt p (second_place n (Event d) a))) _ s.1 in
        subst (λ (x : Tree). (subtree game n ≡ Some (Node (Event f) x b)) → (are_as_many x ms ≡ true) → (n + 1 + size x ≤ p) → (p < n + 1 + size x + size b) → EventNode game f ms n p) (sym args)
        (λ u v w z. record { next = b; stands = u; long = v; from = w; to = z })
        (k ∙ ap (λ e. Some (Node (Event e) a b)) (eqb-true d f r.0)) s.0 (ltb-false p (n + 1 + size a) (not-true _ t.0)) (ltb-true p (n + 1 + size a + size b) t.1)
    go (Some (Node h a b)) k e = absurd (both_ways _ refl e)

pub known_above : (game : Tree) (f : ℕ) (ms : Tree) (n p : ℕ) (Γ : Context) → EventNode game f ms n p → known_at game p ≡ Some Γ → IsAmong (f, arguments_at game n) Γ.events
known_above game f ms n p Γ e k = event_known f (arguments_at game n) e.next Anywhere nothing_known game n p Γ e.stands e.from e.to k

-- its arguments are a list of terms

no_parts : (x y : Phrase → Bool) → both_are None x y ≡ true → ⊥
no_parts x y e = both_ways _ refl e

event_terms : (σ : Phrase) (f : ℕ) (a b : Tree) → both_are (parts σ (Event f)) (λ τ. is_phrase τ a) (λ ρ. is_phrase ρ b) ≡ true → is_phrase Terms a ≡ true
event_terms Body f a b e = (and_parts (is_phrase Terms a) _ e).0
event_terms σ f a b e = absurd (both_ways _ refl e)

pub arguments_phrase : (σ : Phrase) (t : Tree) (n f : ℕ) (a b : Tree) → is_phrase σ t ≡ true → subtree t n ≡ Some (Node (Event f) a b) → is_phrase Terms a ≡ true
unfolding is_phrase
arguments_phrase σ Empty n f a b e s = absurd (no_tree (Node (Event f) a b) (sym (subtree_empty Empty n refl) ∙ s))
arguments_phrase σ (Node h x y) n f a b e s = go (lies_somewhere h x n) (parts σ h) refl e (λ τ. arguments_phrase τ x) (λ ρ. arguments_phrase ρ y)
  where
    here : (h : Head) (x y : Tree) → Node h x y ≡ Node (Event f) a b → both_are (parts σ h) (λ τ. is_phrase τ x) (λ ρ. is_phrase ρ y) ≡ true → is_phrase Terms a ≡ true
    here h x y k e = event_terms σ f a b (subst (λ t. is_phrase σ t ≡ true) k e)

    go : (l : Lies) × LiesAt h x n l → (o : Option (Phrase × Phrase)) → parts σ h ≡ o → both_are o (λ τ. is_phrase τ x) (λ ρ. is_phrase ρ y) ≡ true
        → ((τ : Phrase) (n f : ℕ) (a b : Tree) → is_phrase τ x ≡ true → subtree x n ≡ Some (Node (Event f) a b) → is_phrase Terms a ≡ true)
        → ((ρ : Phrase) (n f : ℕ) (a b : Tree) → is_phrase ρ y ≡ true → subtree y n ≡ Some (Node (Event f) a b) → is_phrase Terms a ≡ true)
        → is_phrase Terms a ≡ true
    go l None k e ia ib = absurd (both_ways _ refl e)
    go (Here, l) (Some q) k z ia ib = here h x y (same_node (Node h x y) (Node (Event f) a b) (sym (subtree_here (Node h x y) h x y n 0 refl l) ∙ s)) e
    go (Within m, l) (Some q) k z ia ib = ia q.0 m f a b (and_parts (is_phrase q.0 x) _ z).0 (sym (subtree_within (Node h x y) h x y n m refl l) ∙ s)
    go (Behind m, l) (Some q) k z ia ib = ib q.1 m f a b (and_parts (is_phrase q.0 x) _ z).1 (sym (subtree_behind (Node h x y) h x y n m refl l) ∙ s)
