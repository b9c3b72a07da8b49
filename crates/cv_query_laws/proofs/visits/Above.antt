-- What stands above a visited place was visited before it.
use Rattle.std.proofs.Common.{◌≡◌, ℕ, zero, suc, ◌+◌, ◌<◌, ◌≤◌, Bool, true, false, cond, List, [], ◌∷◌, ◌++◌, Option, Some, None, refl, sym, ap, subst, ◌∙◌, append_assoc, append-nil, arith}
use Rattle.std.proofs.lemmas.Bool.{both_ways}
use Rattle.std.specs.List.{AllByRecursion}
use Rattle.cv_syntax_trees.specs.declared.head.Head.{Head}
use Rattle.cv_syntax_trees.specs.declared.head.Head.TheVariants.{Par, Repl, In, Out, Event, New, Let, If, Find, Branch, Cons, Key, Call}
use Rattle.cv_syntax_trees.specs.Head.{weight}
use Rattle.cv_syntax.specs.Layouts.{IsSyntax}
use Rattle.cv_syntax_trees.specs.Tree.{Tree, Empty, Node, size, subtree, first_place, second_place}
use Rattle.cv_path.specs.declared.place.Lies.{Lies}
use Rattle.cv_path.specs.declared.place.Lies.TheVariants.{Here, Within, Behind}
use Rattle.cv_path.specs.Places.{LiesAt}
use Rattle.cv_path.proofs.Bounds.{lies_somewhere}
use Rattle.cv_path.proofs.Going.{subtree_empty, subtree_here, subtree_within, subtree_behind}
use Rattle.cv_meaning.specs.Tapes.{Tape, Find_at}
use Rattle.cv_meaning.specs.Interpretation.{Setting}
use Rattle.cv_meaning.specs.Memory.{Indices, Local, tuple}
use Rattle.cv_meaning.specs.Terms.{is_one, value_here}
use Rattle.cv_meaning.specs.Candidates.{Candidate, below, candidates, chosen}
use Rattle.cv_meaning.specs.Inputs.{Input, inputs_of}
use Rattle.cv_meaning.specs.Serving.{Served, Turn, Ends, First, Second, Visit, after_find, after_turn, serve, step, visits}
use Rattle.cv_meaning.specs.Runs.{Adversary, Mode, Answer, Move, Calls, Tests, Guesses, State, Taken, admitted, begun, by_move, called, moved, next_move, run_from, run_visits, start, tested_with, told, visits_of_call, visits_of_move}
use Rattle.cv_meaning.specs.Experiments.{coins_on, visits_of_run}
use Rattle.cv_meaning_laws.specs.adequacy.Broken.{StandsAt}
use Rattle.cv_meaning_laws.proofs.Lists.{each_flat_map}
use Rattle.cv_meaning_laws.proofs.Moves.{TakenEach, admitted_each}
use Rattle.cv_syntax_trees.proofs.lists.Each.{AllByRecursion_append, AllByRecursion_left, AllByRecursion_right}
use Rattle.cv_syntax_trees.proofs.lists.Options.{AllByRecursion_slice_get, none_some, some_injective}
use Rattle.cv_query_laws.specs.visits.Bodies.{LiesInBody, LiesInElement, body_at, body_of_turn, body_taken}
use Rattle.cv_query_laws.specs.visits.Visited.{IsFront, HasVisitAbove, head_is_visited}
use Rattle.cv_query_laws.proofs.visits.Positions.{all_stand}

-- fronts

front_same : {A : Type 0} (xs : List A) → IsFront xs xs
front_same xs = ([], sym (append-nil xs))

front_longer : {A : Type 0} (xs ys zs : List A) → IsFront xs ys → IsFront xs (ys ++ zs)
front_longer xs ys zs f = (f.0 ++ zs, ap (λ l. l ++ zs) f.1 ∙ append_assoc xs f.0 zs)

-- places in elements and bodies

pub element_bounds : (b : Tree) (p i q : ℕ) → LiesInElement b p i q → (p ≤ q) × (q < p + size b)
unfolding size
element_bounds (Node Cons a b) p zero q l = let l0 : p + 0 ≤ q = l.0 in let l1 : q < p + 0 + size a = l.1 in (omega arith, omega arith)
element_bounds (Node Cons a b) p (suc i) q l =
    let r = element_bounds b (second_place p Cons a) i q l in
    let l0 : p + 0 + size a ≤ q = r.0 in
    let l1 : q < p + 0 + size a + size b = r.1 in
    (omega arith, omega arith)
element_bounds t p i q l = absurd l

-- the node has a place, and so has what lies in its bodies, behind it
pub body_bounds : (t : Tree) (p i q : ℕ) → LiesInBody t p i q → (p < q) × (q < p + size t)
unfolding size
body_bounds (Node If a b) p i q l =
    let r = element_bounds b (second_place p If a) i q l in
    let l0 : p + 1 + size a ≤ q = r.0 in
    let l1 : q < p + 1 + size a + size b = r.1 in
    (omega arith, omega arith)
body_bounds (Node (Find l) a b) p zero q k = let l0 : p + 1 + size a ≤ q = k.0 in let l1 : q < p + 1 + size a + size b = k.1 in (omega arith, omega arith)
body_bounds (Node (Find l) a b) p (suc i) q k =
    let r = element_bounds a (first_place p (Find l)) i q k in
    let l0 : p + 1 ≤ q = r.0 in
    let l1 : q < p + 1 + size a = r.1 in
    (omega arith, omega arith)
body_bounds t p i q l = absurd l

abbrev is_list : Head → Bool
is_list Cons = true
is_list h = false

no_element : (h : Head) (a b : Tree) (p i q : ℕ) → is_list h ≡ false → LiesInElement (Node h a b) p i q → ⊥
no_element Cons a b p i q e l = both_ways _ e refl
no_element h a b p i q e l = l

syntax_no_list : (h : Head) → weight h ≡ 1 → is_list h ≡ false
syntax_no_list Cons e = absurd (omega (arith, e))
syntax_no_list h e = refl

-- a place at which a service may be that comes to the tree with this number
abbrev pub InPart : Tree → (place number : ℕ) → ℕ → Type 0
InPart b p k q = (p ≤ q) × (q < p + size b) × ((i : ℕ) → LiesInElement b p i q → i ≡ k)

part_of_plain : (h : Head) (a b : Tree) (p k q : ℕ) → is_list h ≡ false → p ≤ q → q < p + size (Node h a b) → InPart (Node h a b) p k q
part_of_plain h a b p k q e l m = (l, m, λ i x. absurd (no_element h a b p i q e x))

part_of_first : (h : Head) (a b : Tree) (p j k q : ℕ) → is_list h ≡ false → InPart a (first_place p h) j q → InPart (Node h a b) p k q
unfolding size
part_of_first h a b p j k q e x =
    let l : p + weight h ≤ q = x.0 in
    let m : q < p + weight h + size a = x.1 in
    part_of_plain h a b p k q e (omega arith) (let n : q < p + (weight h + size a + size b) = omega arith in n)

part_of_second : (h : Head) (a b : Tree) (p j k q : ℕ) → is_list h ≡ false → InPart b (second_place p h a) j q → InPart (Node h a b) p k q
unfolding size
part_of_second h a b p j k q e x =
    let l : p + weight h + size a ≤ q = x.0 in
    let m : q < p + weight h + size a + size b = x.1 in
    part_of_plain h a b p k q e (omega arith) (let n : q < p + (weight h + size a + size b) = omega arith in n)

part_of_item : (a b : Tree) (p q : ℕ) → InPart a (first_place p Cons) 0 q → InPart (Node Cons a b) p 0 q
unfolding size
part_of_item a b p q x =
    let l : p + 0 ≤ q = x.0 in
    let m : q < p + 0 + size a = x.1 in
    (omega arith, omega arith, number)
  where
    number : (i : ℕ) → LiesInElement (Node Cons a b) p i q → i ≡ 0
    number zero z = refl
    number (suc i) z =
        let m : q < p + 0 + size a = x.1 in
        let k : p + 0 + size a ≤ q = (element_bounds b (second_place p Cons a) i q z).0 in
        absurd (omega arith)

part_of_rest : (a b : Tree) (p k q : ℕ) → InPart b (second_place p Cons a) k q → InPart (Node Cons a b) p (suc k) q
unfolding size
part_of_rest a b p k q x =
    let l : p + 0 + size a ≤ q = x.0 in
    let m : q < p + 0 + size a + size b = x.1 in
    (omega arith, omega arith, number)
  where
    number : (i : ℕ) → LiesInElement (Node Cons a b) p i q → i ≡ suc k
    number zero z =
        let l : p + 0 + size a ≤ q = x.0 in
        let n : q < p + 0 + size a = z.1 in
        absurd (omega arith)
    number (suc i) z = ap suc (x.2 i z)

-- subtrees

abbrev top_weight : Tree → ℕ
top_weight Empty = 0
top_weight (Node h a b) = weight h

abbrev top_is_visited : Tree → Bool
top_is_visited Empty = true
top_is_visited (Node h a b) = head_is_visited h

module _ (node : Tree) where
  here_is : (h : Head) (a b : Tree) (q : ℕ) → subtree (Node h a b) q ≡ Some node → q < weight h → Node h a b ≡ node
  here_is h a b q e l = some_injective (sym (subtree_here (Node h a b) h a b q 0 refl l) ∙ e)

  -- a node that has a place stands within the places of the tree
  pub size_fits : (t : Tree) (q : ℕ) → IsSyntax node → subtree t q ≡ Some node → q + size node ≤ size t
  unfolding size
  size_fits Empty q w e = absurd (none_some node (sym (subtree_empty Empty q refl) ∙ e))
  size_fits (Node h a b) q w e = go (lies_somewhere h a q) (λ r. size_fits a r w) (λ r. size_fits b r w)
    where
      counts : (t : Tree) → IsSyntax t → (k : Head) (x y : Tree) → Node k x y ≡ t → weight k ≡ 1
      counts Empty s k x y i = absurd s
      counts (Node j c d) s k x y i = ap top_weight i ∙ s

      go : (l : Lies) × LiesAt h a q l → ((r : ℕ) → subtree a r ≡ Some node → r + size node ≤ size a) → ((r : ℕ) → subtree b r ≡ Some node → r + size node ≤ size b) → q + size node ≤ weight h + size a + size b
      go (Here, l) f k =
          let m : q < weight h = l in
          let same = here_is h a b q e l in
          let one : weight h ≡ 1 = counts node w h a b same in
          let whole : weight h + size a + size b ≡ size node = ap size same in
          omega arith
      go (Within r, l) f k =
          let m : weight h + r ≡ q = l.0 in
          let z : r + size node ≤ size a = f r (sym (subtree_within (Node h a b) h a b q r refl l) ∙ e) in
          omega arith
      go (Behind r, l) f k =
          let m : weight h + size a + r ≡ q = l in
          let z : r + size node ≤ size b = k r (sym (subtree_behind (Node h a b) h a b q r refl l) ∙ e) in
          omega arith

-- the node, and which visits are seen

module _ (g : Setting) (t : Tape) (n : ℕ) (j : Head) (c d : Tree) (weighs : weight j ≡ 1) (visited : head_is_visited j ≡ true) (Seen : Visit → Type 0) where
  abbrev pub node : Tree
  node = Node j c d

  -- the node was visited at a copy of this place
  pub record Trail (q : ℕ) (at : Indices) : Type 0 where
    pub visit : Visit
    pub seen : Seen visit
    pub there : visit.place ≡ n
    pub same : visit.tree ≡ node
    pub front : IsFront visit.before.indices at
    pub body : (k : ℕ) → LiesInBody node n k q → body_taken g t visit ≡ Some k

  trail_longer : (q : ℕ) (at more : Indices) → Trail q at → Trail q (at ++ more)
  trail_longer q at more x = record { visit = x.visit; seen = x.seen; there = x.there; same = x.same; front = front_longer x.visit.before.indices at more x.front; body = x.body }

  -- a tree to which a service comes with a number: the node is apart from it, or stands in it, or was visited above it
  data Knows (p : ℕ) (b : Tree) (k : ℕ) (at : Indices) : Type 0 where
    apart : ((q : ℕ) → p ≤ q → q < p + size b → n ≤ q → q < n + size node → ⊥) → Knows p b k at
    within : (q : ℕ) → p + q ≡ n → subtree b q ≡ Some node → Knows p b k at
    above : ((q : ℕ) → InPart b p k q → Trail q at) → Knows p b k at

  knows_longer : (p : ℕ) (b : Tree) (k : ℕ) (at more : Indices) → Knows p b k at → Knows p b k (at ++ more)
  knows_longer p b k at more (apart f) = apart f
  knows_longer p b k at more (within q e s) = within q e s
  knows_longer p b k at more (above f) = above (λ q x. trail_longer q at more (f q x))

  one_weight : (h : Head) (a b : Tree) → Node h a b ≡ node → weight h ≡ 1
  one_weight h a b e = ap top_weight e ∙ weighs

  -- the children of a node, where the node itself was visited if it is the one
  module _ (h : Head) (a b : Tree) (p k : ℕ) (at : Indices) where
    knows_first : (i : ℕ) → ((q : ℕ) → InPart a (first_place p h) i q → InPart (Node h a b) p k q) → (Node h a b ≡ node → p ≡ n → (q : ℕ) → InPart a (first_place p h) i q → Trail q at) → Knows p (Node h a b) k at → Knows (first_place p h) a i at
    unfolding size
    knows_first i part itself (apart f) = apart (λ q l m. let l0 : p + weight h ≤ q = l in let l1 : q < p + weight h + size a = m in f q (omega arith) (omega arith))
    knows_first i part itself (above f) = above (λ q x. f q (part q x))
    knows_first i part itself (within q e s) = go (lies_somewhere h a q)
      where
        go : (l : Lies) × LiesAt h a q l → Knows (first_place p h) a i at
        go (Here, l) =
            let m : q < weight h = l in
            let same = here_is node h a b q s m in
            let one : weight h ≡ 1 = one_weight h a b same in
            above (itself same (let z : p ≡ n = omega arith in z))
        go (Within r, l) = let m : weight h + r ≡ q = l.0 in within r (let z : p + weight h + r ≡ n = omega arith in z) (sym (subtree_within (Node h a b) h a b q r refl l) ∙ s)
        go (Behind r, l) = let m : weight h + size a + r ≡ q = l in apart (λ o lo hi from to. let o1 : o < p + weight h + size a = hi in let n0 : n ≤ o = from in absurd (omega arith))

    knows_second : (i : ℕ) → ((q : ℕ) → InPart b (second_place p h a) i q → InPart (Node h a b) p k q) → (Node h a b ≡ node → p ≡ n → (q : ℕ) → InPart b (second_place p h a) i q → Trail q at) → Knows p (Node h a b) k at → Knows (second_place p h a) b i at
    unfolding size
    knows_second i part itself (apart f) = apart (λ q l m. let l0 : p + weight h + size a ≤ q = l in let l1 : q < p + weight h + size a + size b = m in f q (omega arith) (omega arith))
    knows_second i part itself (above f) = above (λ q x. f q (part q x))
    knows_second i part itself (within q e s) = go (lies_somewhere h a q)
      where
        go : (l : Lies) × LiesAt h a q l → Knows (second_place p h a) b i at
        go (Here, l) =
            let m : q < weight h = l in
            let same = here_is node h a b q s m in
            let one : weight h ≡ 1 = one_weight h a b same in
            above (itself same (let z : p ≡ n = omega arith in z))
        go (Within r, l) =
            let m : weight h + r ≡ q = l.0 in
            let fits : r + size node ≤ size a = size_fits node a r weighs (sym (subtree_within (Node h a b) h a b q r refl l) ∙ s) in
            apart (λ o lo hi from to. let o0 : p + weight h + size a ≤ o = lo in let n1 : o < n + size node = to in absurd (omega arith))
        go (Behind r, l) = let m : weight h + size a + r ≡ q = l in within r (let z : p + weight h + size a + r ≡ n = omega arith in z) (sym (subtree_behind (Node h a b) h a b q r refl l) ∙ s)

  -- available inputs

  abbrev KnowsInput : Input → Type 0
  KnowsInput i = Knows i.place i.tree 0 i.indices

  no_par : (a b : Tree) → Node Par a b ≡ node → ⊥
  no_par a b e = both_ways (head_is_visited Par) refl (ap top_is_visited e ∙ visited)

  no_repl : (i m : ℕ) (a b : Tree) → Node (Repl i m) a b ≡ node → ⊥
  no_repl i m a b e = both_ways (head_is_visited (Repl i m)) refl (ap top_is_visited e ∙ visited)

  inputs_know : (b : Tree) (p k : ℕ) (at : Indices) → Knows p b k at → AllByRecursion KnowsInput (inputs_of g b p at)
  unfolding inputs_of
  inputs_know Empty p k at x = tt
  inputs_know (Node Par a b) p k at x =
      AllByRecursion_append KnowsInput (inputs_of g a (first_place p Par) at) _
      (inputs_know a (first_place p Par) 0 at (knows_first Par a b p k at 0 (λ q y. part_of_first Par a b p 0 k q refl y) (λ e. absurd (no_par a b e)) x))
      (inputs_know b (second_place p Par a) 0 at (knows_second Par a b p k at 0 (λ q y. part_of_second Par a b p 0 k q refl y) (λ e. absurd (no_par a b e)) x))
  inputs_know (Node (Repl i m) a b) p k at x =
      each_flat_map KnowsInput (λ v. inputs_of g b (second_place p (Repl i m) a) (at ++ (i, v) ∷ [])) (below (g.interpretation.parameter_value m))
      (λ v. inputs_know b (second_place p (Repl i m) a) 0 (at ++ (i, v) ∷ [])
      (knows_longer (second_place p (Repl i m) a) b 0 at ((i, v) ∷ [])
      (knows_second (Repl i m) a b p k at 0 (λ q y. part_of_second (Repl i m) a b p 0 k q refl y) (λ e. absurd (no_repl i m a b e)) x)))
  inputs_know (Node (In e) a b) p k at x = (plain x, tt)
    where
      plain : Knows p (Node (In e) a b) k at → Knows p (Node (In e) a b) 0 at
      plain (apart f) = apart f
      plain (within q i s) = within q i s
      plain (above f) = above (λ q y. f q (part_of_plain (In e) a b p k q refl y.0 y.1))
  inputs_know (Node h a b) p k at x = tt

  -- a visit

  -- where it is in the node's places, the node was visited
  abbrev pub Traced : Visit → Type 0
  Traced v = IsSyntax v.tree → n ≤ v.place → v.place < n + size node → Trail v.place v.before.indices

  module _ (h : Head) (a b : Tree) (p : ℕ) (s : Local) where
    abbrev here : Visit
    here = record { place = p; tree = Node h a b; before = s }

    module _ (seen : Seen here) where
      -- the node's own visit
      itself : Node h a b ≡ node → p ≡ n → (q : ℕ) → ((i : ℕ) → LiesInBody (Node h a b) p i q → body_at g t (Node h a b) p s ≡ Some i) → Trail q s.indices
      itself e m q f = record {
        visit = here;
        seen = seen;
        there = m;
        same = e;
        front = front_same s.indices;
        body = λ i l. f i (subst (λ x. LiesInBody x p i q) (sym e) (subst (λ x. LiesInBody node x i q) (sym m) l));
      }

      traced : (k : ℕ) → Knows p (Node h a b) k s.indices → Traced here
      unfolding size
      traced k (apart f) w l m = let one : weight h ≡ 1 = w in absurd (f p (omega arith) (omega arith) l m)
      traced k (above f) w l m = let one : weight h ≡ 1 = w in f p (part_of_plain h a b p k p (syntax_no_list h w) (omega arith) (omega arith))
      traced k (within q e s) w l m =
          let one : weight h ≡ 1 = w in
          let zero_is : q ≡ 0 = omega arith in
          let there : p ≡ n = omega arith in
          itself (here_is node h a b q s (omega arith)) there p
          (λ i x. let r = body_bounds (Node h a b) p i p x in let k : p < p = r.0 in absurd (omega arith))

  -- where the service goes on

  Goes : Head → Tree → Tree → ℕ → Turn → Type 0
  Goes h a b p (Ends r) = AllByRecursion KnowsInput r.opened
  Goes h a b p (First i vs s) = Knows (first_place p h) a i s.indices
  Goes h a b p (Second i vs s) = Knows (second_place p h a) b i s.indices

  step_goes : (h : Head) (a b : Tree) (p k : ℕ) (vs : List ℕ) (s : Local) → Seen (here h a b p s) → Knows p (Node h a b) k s.indices → Goes h a b p (step g t h a b p k vs s)
  unfolding step Goes
  step_goes (In e) a b p k vs s seen x = knows_second (In e) a b p k s.indices 0 (λ q y. part_of_second (In e) a b p 0 k q refl y) (λ f m q y. itself (In e) a b p s seen f m q (λ i l. absurd l)) x
  step_goes (New z T) a b p k vs s seen x = knows_second (New z T) a b p k s.indices 0 (λ q y. part_of_second (New z T) a b p 0 k q refl y) (λ f m q y. itself (New z T) a b p s seen f m q (λ i l. absurd l)) x
  step_goes (Let z T) a b p k vs s seen x = knows_second (Let z T) a b p k s.indices 0 (λ q y. part_of_second (Let z T) a b p 0 k q refl y) (λ f m q y. itself (Let z T) a b p s seen f m q (λ i l. absurd l)) x
  step_goes (Event e) a b p k vs s seen x = knows_second (Event e) a b p k s.indices 0 (λ q y. part_of_second (Event e) a b p 0 k q refl y) (λ f m q y. itself (Event e) a b p s seen f m q (λ i l. absurd l)) x
  step_goes Branch a b p k vs s seen x = knows_second Branch a b p k s.indices 2 (λ q y. part_of_second Branch a b p 2 k q refl y) (λ f m q y. itself Branch a b p s seen f m q (λ i l. absurd l)) x
  step_goes (Key z) a b p k vs s seen x = knows_second (Key z) a b p k s.indices 0 (λ q y. part_of_second (Key z) a b p 0 k q refl y) (λ f m q y. itself (Key z) a b p s seen f m q (λ i l. absurd l)) x
  step_goes (Call z l) a b p k vs s seen x = knows_second (Call z l) a b p k s.indices 0 (λ q y. part_of_second (Call z l) a b p 0 k q refl y) (λ f m q y. itself (Call z l) a b p s seen f m q (λ i l. absurd l)) x
  step_goes If a b p k vs s seen x =
      let i : ℕ = cond (is_one (value_here g s a)) 0 1 in
      knows_second If a b p k s.indices i (λ q y. part_of_second If a b p i k q refl y)
      (λ f m q y. itself If a b p s seen f m q (λ o l. ap Some (sym (y.2 o l)))) x
  step_goes (Find l) a b p k vs s seen x = go (chosen (candidates g s.indices s.memory.store a) (t (Find_at l (tuple s.indices)))) refl
    where
      turn_is : (o : Option Candidate) → chosen (candidates g s.indices s.memory.store a) (t (Find_at l (tuple s.indices))) ≡ o → body_at g t (Node (Find l) a b) p s ≡ body_of_turn (Find l) (after_find s o)
      turn_is o e = ap (λ o. body_of_turn (Find l) (after_find s o)) e

      else_body : body_at g t (Node (Find l) a b) p s ≡ Some 0 → (q : ℕ) → InPart b (second_place p (Find l) a) 0 q → (i : ℕ) → LiesInBody (Node (Find l) a b) p i q → body_at g t (Node (Find l) a b) p s ≡ Some i
      else_body e q y zero z = e
      else_body e q y (suc i) z =
          let high : q < p + 1 + size a = (element_bounds a (first_place p (Find l)) i q z).1 in
          let low : p + 1 + size a ≤ q = y.0 in
          absurd (omega arith)

      branch_body : (o : ℕ) → body_at g t (Node (Find l) a b) p s ≡ Some (suc o) → (q : ℕ) → InPart a (first_place p (Find l)) o q → (i : ℕ) → LiesInBody (Node (Find l) a b) p i q → body_at g t (Node (Find l) a b) p s ≡ Some i
      branch_body o e q y zero z =
          let low : p + 1 + size a ≤ q = z.0 in
          let high : q < p + 1 + size a = y.1 in
          absurd (omega arith)
      branch_body o e q y (suc i) z = e ∙ ap (λ m. Some (suc m)) (sym (y.2 i z))

      go : (o : Option Candidate) → chosen (candidates g s.indices s.memory.store a) (t (Find_at l (tuple s.indices))) ≡ o → Goes (Find l) a b p (after_find s o)
      go None e = knows_second (Find l) a b p k s.indices 0 (λ q y. part_of_second (Find l) a b p 0 k q refl y) (λ f m q y. itself (Find l) a b p s seen f m q (else_body (turn_is None e) q y)) x
      go (Some r) e = knows_first (Find l) a b p k s.indices r.branch (λ q y. part_of_first (Find l) a b p r.branch k q refl y) (λ f m q y. itself (Find l) a b p s seen f m q (branch_body r.branch (turn_is (Some r) e) q y)) x
  step_goes Cons a b p zero vs s seen x = knows_first Cons a b p 0 s.indices 0 (λ q y. part_of_item a b p q y) (λ f m q y. itself Cons a b p s seen f m q (λ i l. absurd l)) x
  step_goes Cons a b p (suc k) vs s seen x = knows_second Cons a b p (suc k) s.indices k (λ q y. part_of_rest a b p k q y) (λ f m q y. itself Cons a b p s seen f m q (λ i l. absurd l)) x
  step_goes (Out e) a b p k vs s seen x =
      inputs_know b (second_place p (Out e) a) 0 s.indices
      (knows_second (Out e) a b p k s.indices 0 (λ q y. part_of_second (Out e) a b p 0 k q refl y) (λ f m q y. itself (Out e) a b p s seen f m q (λ i l. absurd l)) x)
  step_goes h a b p k vs s seen x = tt

  -- services

  record Traces (r : Served) (vs : List Visit) : Type 0 where
    opened : AllByRecursion KnowsInput r.opened
    traced : AllByRecursion Traced vs

  serve_traces : (b : Tree) (p k : ℕ) (vs : List ℕ) (s : Local) → Knows p b k s.indices → AllByRecursion Seen (visits g t b p k vs s) → Traces (serve g t b p k vs s) (visits g t b p k vs s)
  unfolding serve visits Goes
  serve_traces Empty p k vs s x seen = record { opened = tt; traced = tt }
  serve_traces (Node h a b) p k vs s x seen =
      let r = go (step g t h a b p k vs s) (step_goes h a b p k vs s seen.0 x) seen.1 (λ i ws m. serve_traces a (first_place p h) i ws m) (λ i ws m. serve_traces b (second_place p h a) i ws m) in
      record { opened = r.opened; traced = (traced h a b p s seen.0 k x, r.traced) }
    where
      go : (z : Turn) → Goes h a b p z → AllByRecursion Seen (after_turn (λ r. []) (visits g t a (first_place p h)) (visits g t b (second_place p h a)) z)
          → ((i : ℕ) (ws : List ℕ) (m : Local) → Knows (first_place p h) a i m.indices → AllByRecursion Seen (visits g t a (first_place p h) i ws m) → Traces (serve g t a (first_place p h) i ws m) (visits g t a (first_place p h) i ws m))
          → ((i : ℕ) (ws : List ℕ) (m : Local) → Knows (second_place p h a) b i m.indices → AllByRecursion Seen (visits g t b (second_place p h a) i ws m) → Traces (serve g t b (second_place p h a) i ws m) (visits g t b (second_place p h a) i ws m))
          → Traces (after_turn (λ r. r) (serve g t a (first_place p h)) (serve g t b (second_place p h a)) z) (after_turn (λ r. []) (visits g t a (first_place p h)) (visits g t b (second_place p h a)) z)
      go (Ends r) y e ia ib = record { opened = y; traced = tt }
      go (First i ws m) y e ia ib = ia i ws m y e
      go (Second i ws m) y e ia ib = ib i ws m y e

  -- runs

  moved_traces : (m : Mode) (st : State) (x : Move) → AllByRecursion KnowsInput st.inputs → AllByRecursion Seen (visits_of_move g t st x) → AllByRecursion KnowsInput (moved g m t st x).inputs × AllByRecursion Traced (visits_of_move g t st x)
  unfolding moved visits_of_move
  moved_traces m st (Calls e u vs) x seen = go (admitted g e u vs st.inputs) (admitted_each KnowsInput g e u vs st.inputs x) seen
    where
      go : (o : Option Taken) → ((k : Taken) → o ≡ Some k → TakenEach KnowsInput k) → AllByRecursion Seen (visits_of_call g t st vs o) → AllByRecursion KnowsInput (called g t st vs o).inputs × AllByRecursion Traced (visits_of_call g t st vs o)
      go None h seen = (x, tt)
      go (Some k) h seen =
          let r = serve_traces k.input.tree k.input.place 0 vs (begun st k.input) (h k refl).input seen in
          (AllByRecursion_append KnowsInput k.others _ (h k refl).others r.opened, r.traced)
  moved_traces m st (Tests u) x seen = (go (told m t st u), tt)
    where
      go : (o : Option ℕ) → AllByRecursion KnowsInput (tested_with st o).inputs
      go None = x
      go (Some v) = x
  moved_traces m st (Guesses b) x seen = (x, tt)

  run_traces : (m : Mode) (next : List Answer → Option Move) (l : ℕ) (st : State) → AllByRecursion KnowsInput st.inputs → AllByRecursion Seen (run_visits g m next t l st) → AllByRecursion KnowsInput (run_from g m next t l st).inputs × AllByRecursion Traced (run_visits g m next t l st)
  unfolding run_visits run_from
  run_traces m next zero st x seen = (x, tt)
  run_traces m next (suc l) st x seen = go (next_move next st) seen (λ y. run_traces m next l (moved g m t st y))
    where
      go : (o : Option Move) → AllByRecursion Seen (by_move [] (λ y. visits_of_move g t st y ++ run_visits g m next t l (moved g m t st y)) o)
          → ((y : Move) → AllByRecursion KnowsInput (moved g m t st y).inputs → AllByRecursion Seen (run_visits g m next t l (moved g m t st y)) → AllByRecursion KnowsInput (run_from g m next t l (moved g m t st y)).inputs × AllByRecursion Traced (run_visits g m next t l (moved g m t st y)))
          → AllByRecursion KnowsInput (by_move st (λ y. run_from g m next t l (moved g m t st y)) o).inputs × AllByRecursion Traced (by_move [] (λ y. visits_of_move g t st y ++ run_visits g m next t l (moved g m t st y)) o)
      go None seen ih = (x, tt)
      go (Some y) seen ih =
          let vs : List Visit = visits_of_move g t st y in
          let ws : List Visit = run_visits g m next t l (moved g m t st y) in
          let r = moved_traces m st y x (AllByRecursion_left Seen vs ws seen) in
          let z = ih y r.0 (AllByRecursion_right Seen vs ws seen) in
          (z.0, AllByRecursion_append Traced vs ws r.1 z.1)

  pub game_traces : (m : Mode) (next : List Answer → Option Move) (l : ℕ) (game : Tree) → subtree game n ≡ Some node → AllByRecursion Seen (run_visits g m next t l (start g game)) → AllByRecursion Traced (run_visits g m next t l (start g game))
  game_traces m next l game e seen = (run_traces m next l (start g game) (inputs_know game 0 0 [] (within n (let z : 0 + n ≡ n = omega arith in z) e)) seen).1

-- in the words of the law

module _ (g : Setting) (m : Mode) (a : Adversary) (game : Tree) (t : Tape) where
  abbrev vs : List Visit
  vs = visits_of_run g m a game t

  pub was_visited : (number : ℕ) (v : Visit) → StandsAt vs number v → IsSyntax v.tree → (place : ℕ) (h : Head) (x y : Tree) → subtree game place ≡ Some (Node h x y) → weight h ≡ 1 → head_is_visited h ≡ true
      → place ≤ v.place → v.place < place + size (Node h x y) → HasVisitAbove g t vs place (Node h x y) v.place v.before.indices
  unfolding visits_of_run
  was_visited number v k s place h x y e w o l r =
      let z = AllByRecursion_slice_get (Traced g t place h x y w o (λ z. (n : ℕ) × StandsAt vs n z)) vs
      (game_traces g t place h x y w o (λ z. (n : ℕ) × StandsAt vs n z) m (a.next (coins_on t 0 a.coins)) a.moves game e (all_stand vs)) number v k s l r in
      record { number = z.seen.0; visit = z.visit; stands = z.seen.1; there = z.there; same = z.same; front = z.front; body = z.body }
