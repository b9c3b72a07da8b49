-- In a run nothing is made twice, whatever a visit makes.
use Rattle.std.proofs.Common.{◌≡◌, ℕ, zero, suc, ◌<◌, List, [], ◌∷◌, ◌++◌, ◌⊎◌, inl, inr, Option, Some, None, refl, sym, ap, subst, ◌∙◌, append_assoc, append-nil, arith, flat_map}
use Rattle.std.specs.List.{AllByRecursion}
use Rattle.cv_syntax_trees.specs.declared.head.Head.{Head}
use Rattle.cv_syntax_trees.specs.declared.head.Head.TheVariants.{Par, Repl, In, Out, Event, New, Let, If, Find, Branch, Cons, Key, Call}
use Rattle.cv_syntax_trees.specs.Tree.{Tree, Empty, Node, first_place, second_place}
use Rattle.cv_meaning.specs.Tapes.{Tape, Find_at}
use Rattle.cv_meaning.specs.Interpretation.{Setting}
use Rattle.cv_meaning.specs.Memory.{Indices, tuple, Local}
use Rattle.cv_meaning.specs.Candidates.{Candidate, below, candidates, chosen}
use Rattle.cv_meaning.specs.Inputs.{Input, inputs_of}
use Rattle.cv_meaning.specs.Serving.{Served, Turn, Ends, First, Second, after_find, step, serve, after_turn, Visit, visits}
use Rattle.cv_meaning.specs.Runs.{Mode, Answer, Move, Calls, Tests, Guesses, State, Taken, admitted, called, told, tested_with, moved, start, begun, run_from, next_move, by_move, visits_of_call, visits_of_move, run_visits}
use Rattle.cv_meaning_laws.proofs.Moves.{TakenEach, taken_each, run_keeps}
use Rattle.cv_scope_rules.specs.Branches.{Pairs}
use Rattle.cv_scope_rules.proofs.Pairs.{pairs_append}
use Rattle.cv_scope_runs.proofs.Taking.{TakenPairs, taken_pairs}
use Rattle.cv_syntax_trees.proofs.lists.Each.{AllByRecursion_append, AllByRecursion_weaker, AllByRecursion_both, AllByRecursion_cross, AllByRecursion_left, AllByRecursion_right}
use Rattle.cv_meaning_laws.proofs.Listed.{tuple_push}
use Rattle.cv_meaning_runs.proofs.Spots.{admitted_taken}

same_next : (u : List ℕ) (a b : ℕ) (v w : List ℕ) → u ++ a ∷ v ≡ u ++ b ∷ w → a ≡ b
same_next [] a b v w e = cc
same_next (x ∷ u) a b v w e = same_next u a b v w (let q : u ++ a ∷ v ≡ u ++ b ∷ w = cc in q)

flat_push : (f : ℕ → List Input) (ns : List ℕ) (n : ℕ) → flat_map f (ns ++ n ∷ []) ≡ flat_map f ns ++ f n
flat_push f [] n = append-nil (f n)
flat_push f (m ∷ ns) n = ap (λ is. f m ++ is) (flat_push f ns n) ∙ sym (append_assoc (f m) (flat_map f ns) (f n))

-- what a visit of a node makes, by its place, its head and its first child
module _ (Made : Type 0) (Makes : ℕ → Head → Tree → Made → Type 0) where
  -- what the visits of a tree can make
  abbrev pub Has : ℕ → Tree → Made → Type 0
  Has p Empty y = ⊥
  Has p (Node h a b) y = Makes p h a y ⊎ (Has (first_place p h) a y ⊎ Has (second_place p h a) b y)

  abbrev pub first_apart : ℕ → Head → Tree → Tree → Type 0
  first_apart p (Find l) a b = (y : Made) → Makes p (Find l) a y → Has (first_place p (Find l)) a y → ⊥
  first_apart p Cons a b = (y : Made) → Makes p Cons a y → Has (first_place p Cons) a y → ⊥
  first_apart p Par a b = (y : Made) → Has (first_place p Par) a y → Has (second_place p Par a) b y → ⊥
  first_apart p h a b = Unit {0}

  -- on a way through the tree nothing can be made twice, nor on both sides of a parallel composition
  abbrev pub Single : ℕ → Tree → Type 0
  Single p Empty = Unit {0}
  Single p (Node h a b) =
      ((y : Made) → Makes p h a y → Has (second_place p h a) b y → ⊥) × first_apart p h a b × Single (first_place p h) a × Single (second_place p h a) b

  abbrev pub makes_at : ℕ → Tree → Made → Type 0
  makes_at p Empty y = ⊥
  makes_at p (Node h a b) y = Makes p h a y

  pub made_has : (p : ℕ) (t : Tree) (y : Made) → makes_at p t y → Has p t y
  made_has p Empty y m = m
  made_has p (Node h a b) y m = inl m

  abbrev pub MadeBy : Visit → Made → Type 0
  MadeBy v y = makes_at v.place v.tree y

  abbrev pub VisitHas : Visit → Made → Type 0
  VisitHas v y = Has v.place v.tree y

  abbrev pub at_copy : Visit → List ℕ
  at_copy v = tuple v.before.indices

  -- what the first made, the second can't make, at its copy or below
  abbrev pub VisitsApart : Visit → Visit → Type 0
  VisitsApart v w = (y : Made) → MadeBy v y → VisitHas w y → (l : List ℕ) → at_copy v ≡ at_copy w ++ l → ⊥

  abbrev pub InputHasMade : Input → Made → Type 0
  InputHasMade i y = Has i.place i.tree y

  abbrev pub InputSingle : Input → Type 0
  InputSingle i = Single i.place i.tree

  abbrev pub InputsApart : Input → Input → Type 0
  InputsApart i j = (y : Made) → InputHasMade i y → InputHasMade j y → (v w : List ℕ) → tuple i.indices ++ v ≡ tuple j.indices ++ w → ⊥

  abbrev pub VisitInput : Visit → Input → Type 0
  VisitInput v j = (y : Made) → MadeBy v y → InputHasMade j y → (w : List ℕ) → at_copy v ≡ tuple j.indices ++ w → ⊥

  inputs_sym : (i j : Input) → InputsApart i j → InputsApart j i
  inputs_sym i j h y a b v w e = h y b a w v (sym e)

  -- of a part of the tree, at this tuple or a longer one
  abbrev pub Below : ℕ → Tree → List ℕ → Input → Type 0
  Below p b u i = ((y : Made) → InputHasMade i y → Has p b y) × (w : List ℕ) × (tuple i.indices ≡ u ++ w)

  pub record Opens (p : ℕ) (b : Tree) (u : List ℕ) (is : List Input) : Type 0 where
    pub single : AllByRecursion InputSingle is
    pub below : AllByRecursion (Below p b u) is
    pub apart : Pairs InputsApart is

  opens_none : (p : ℕ) (b : Tree) (u : List ℕ) → Opens p b u []
  opens_none p b u = record { single = tt; below = tt; apart = tt }

  opens_more : (p q : ℕ) (b d : Tree) (u : List ℕ) (is : List Input) → ((y : Made) → Has p b y → Has q d y) → Opens p b u is → Opens q d u is
  opens_more p q b d u is h o = record { single = o.single; below = AllByRecursion_weaker (Below p b u) (Below q d u) (λ i x. (λ y e. h y (x.0 y e), x.1, x.2)) is o.below; apart = o.apart }

  -- the copies of a replicated tree
  abbrev pub Copy : ℕ → Tree → List ℕ → ℕ → Input → Type 0
  Copy p b u n i = ((y : Made) → InputHasMade i y → Has p b y) × (v : ℕ) × (w : List ℕ) × (v < n) × (tuple i.indices ≡ u ++ v ∷ w)

  pub record Copies (p : ℕ) (b : Tree) (u : List ℕ) (n : ℕ) (is : List Input) : Type 0 where
    pub single : AllByRecursion InputSingle is
    pub copy : AllByRecursion (Copy p b u n) is
    pub apart : Pairs InputsApart is

  copies_more : (p : ℕ) (b : Tree) (u : List ℕ) (f : ℕ → List Input) (n : ℕ) → Opens p b (u ++ n ∷ []) (f n) → Copies p b u n (flat_map f (below n)) → Copies p b u (suc n) (flat_map f (below n) ++ f n)
  copies_more p b u f n h c = record {
    single = AllByRecursion_append InputSingle _ _ c.single h.single;
    copy = AllByRecursion_append (Copy p b u (suc n)) _ _ (AllByRecursion_weaker (Copy p b u n) (Copy p b u (suc n)) wider _ c.copy) (AllByRecursion_weaker Last (Copy p b u (suc n)) last _ lasts);
    apart = pairs_append InputsApart _ _ c.apart h.apart (AllByRecursion_cross (Copy p b u n) Last InputsApart differ _ _ c.copy lasts);
  }
    where
      Last : Input → Type 0
      Last i = ((y : Made) → InputHasMade i y → Has p b y) × (w : List ℕ) × (tuple i.indices ≡ u ++ n ∷ w)

      lasts : AllByRecursion Last (f n)
      lasts = AllByRecursion_weaker (Below p b (u ++ n ∷ [])) Last (λ i x. (x.0, x.1, x.2 ∙ append_assoc u (n ∷ []) x.1)) (f n) h.below

      wider : (i : Input) → Copy p b u n i → Copy p b u (suc n) i
      wider i x = (x.0, x.1, x.2, (let l = x.3 in omega arith), x.4)

      last : (i : Input) → Last i → Copy p b u (suc n) i
      last i x = (x.0, n, x.1, omega arith, x.2)

      differ : (i j : Input) → Copy p b u n i → Last j → InputsApart i j
      differ i j x z y d e v w q =
          let k : x.1 ≡ n = same_next u x.1 n (x.2 ++ v) (z.1 ++ w) (sym (append_assoc u (x.1 ∷ x.2) v) ∙ ap (λ us. us ++ v) (sym x.4) ∙ q ∙ ap (λ us. us ++ w) z.2 ∙ append_assoc u (n ∷ z.1) w) in
          let l = x.3 in omega arith

  copies : (p : ℕ) (b : Tree) (u : List ℕ) (f : ℕ → List Input) → ((v : ℕ) → Opens p b (u ++ v ∷ []) (f v)) → (n : ℕ) → Copies p b u n (flat_map f (below n))
  copies p b u f h zero = record { single = tt; copy = tt; apart = tt }
  copies p b u f h (suc n) = subst (Copies p b u (suc n)) (sym (flat_push f (below n) n)) (copies_more p b u f n (h n) (copies p b u f h n))

  copies_open : (p : ℕ) (b : Tree) (u : List ℕ) (n : ℕ) (is : List Input) → Copies p b u n is → Opens p b u is
  copies_open p b u n is c = record { single = c.single; below = AllByRecursion_weaker (Copy p b u n) (Below p b u) (λ i x. (x.0, x.1 ∷ x.2, x.4)) is c.copy; apart = c.apart }

  pub inputs_open : (g : Setting) (b : Tree) (p : ℕ) (at : Indices) → Single p b → Opens p b (tuple at) (inputs_of g b p at)
  unfolding inputs_of
  inputs_open g Empty p at s = opens_none p Empty (tuple at)
  inputs_open g (Node Par a b) p at s =
      let o = opens_more (first_place p Par) p a (Node Par a b) (tuple at) _ (λ y e. inr (inl e)) (inputs_open g a _ at s.2) in
      let q = opens_more (second_place p Par a) p b (Node Par a b) (tuple at) _ (λ y e. inr (inr e)) (inputs_open g b _ at s.3) in
      record {
        single = AllByRecursion_append InputSingle _ _ o.single q.single;
        below = AllByRecursion_append (Below p (Node Par a b) (tuple at)) _ _ o.below q.below;
        apart = pairs_append InputsApart _ _ o.apart q.apart
            (AllByRecursion_cross (Below (first_place p Par) a (tuple at)) (Below (second_place p Par a) b (tuple at)) InputsApart (λ i j x z y e k v w r. s.1 y (x.0 y e) (z.0 y k)) _ _ (inputs_open g a _ at s.2).below (inputs_open g b _ at s.3).below);
      }
  inputs_open g (Node (Repl i n) a b) p at s =
      opens_more (second_place p (Repl i n) a) p b (Node (Repl i n) a b) (tuple at) _ (λ y e. inr (inr e)) (copies_open (second_place p (Repl i n) a) b (tuple at) (g.interpretation.parameter_value n) _
      (copies (second_place p (Repl i n) a) b (tuple at) (λ v. inputs_of g b (second_place p (Repl i n) a) (at ++ (i, v) ∷ []))
      (λ v. subst (λ u. Opens (second_place p (Repl i n) a) b u (inputs_of g b (second_place p (Repl i n) a) (at ++ (i, v) ∷ []))) (tuple_push at i v) (inputs_open g b _ (at ++ (i, v) ∷ []) s.3)) (g.interpretation.parameter_value n)))
  inputs_open g (Node (In c) a b) p at s = record { single = (s, tt); below = ((λ y e. e, [], sym (append-nil (tuple at))), tt); apart = (tt, tt) }
  inputs_open g (Node h a b) p at s = opens_none p (Node h a b) (tuple at)

  -- the service of a tree

  abbrev pub Within : ℕ → Tree → List ℕ → Visit → Type 0
  Within p b u v = ((y : Made) → VisitHas v y → Has p b y) × (at_copy v ≡ u)

  pub record Serving (p : ℕ) (b : Tree) (u : List ℕ) (r : Served) (vs : List Visit) : Type 0 where
    pub within : AllByRecursion (Within p b u) vs
    pub apart : Pairs VisitsApart vs
    pub opens : Opens p b u r.opened
    pub cross : AllByRecursion (λ v. AllByRecursion (VisitInput v) r.opened) vs

  -- how the service of a node goes on
  turn_fine : ℕ → Head → Tree → Tree → List ℕ → Turn → Type 0
  turn_fine p h a b u (Ends r) = Opens (second_place p h a) b u r.opened
  turn_fine p h a b u (First k vs n) = (tuple n.indices ≡ u) × ((y : Made) → Makes p h a y → Has (first_place p h) a y → ⊥)
  turn_fine p h a b u (Second k vs n) = tuple n.indices ≡ u

  step_fine : (g : Setting) (t : Tape) (h : Head) (a b : Tree) (p k : ℕ) (vs : List ℕ) (s : Local) → Single p (Node h a b) → turn_fine p h a b (tuple s.indices) (step g t h a b p k vs s)
  unfolding step turn_fine
  step_fine g t (In c) a b p k vs s x = refl
  step_fine g t (New n T) a b p k vs s x = refl
  step_fine g t (Let n T) a b p k vs s x = refl
  step_fine g t (Event e) a b p k vs s x = refl
  step_fine g t If a b p k vs s x = refl
  step_fine g t Branch a b p k vs s x = refl
  step_fine g t (Key n) a b p k vs s x = refl
  step_fine g t (Call n l) a b p k vs s x = refl
  step_fine g t (Find l) a b p k vs s x = go (chosen (candidates g s.indices s.memory.store a) (t (Find_at l (tuple s.indices))))
    where
      go : (o : Option Candidate) → turn_fine p (Find l) a b (tuple s.indices) (after_find s o)
      go None = refl
      go (Some c) = (refl, x.1)
  step_fine g t Cons a b p zero vs s x = (refl, x.1)
  step_fine g t Cons a b p (suc k) vs s x = refl
  step_fine g t (Out c) a b p k vs s x = inputs_open g b _ s.indices x.3
  step_fine g t h a b p k vs s x = opens_none _ b (tuple s.indices)

  -- after a visit of the node, a child is served
  serving_child : (p q : ℕ) (h : Head) (a b d : Tree) (s : Local) (u : List ℕ) (r : Served) (vs : List Visit) → tuple s.indices ≡ u → ((y : Made) → Has q d y → Has p (Node h a b) y) → ((y : Made) → Makes p h a y → Has q d y → ⊥) → Serving q d u r vs
      → Serving p (Node h a b) u r (record { place = p; tree = Node h a b; before = s } ∷ vs)
  serving_child p q h a b d s u r vs e up off z = record {
    within = ((λ y m. m, e), AllByRecursion_weaker (Within q d u) (Within p (Node h a b) u) (λ v x. (λ y m. up y (x.0 y m), x.1)) vs z.within);
    apart = (AllByRecursion_weaker (Within q d u) (VisitsApart (record { place = p; tree = Node h a b; before = s })) (λ v x y m n l k. off y m (x.0 y n)) vs z.within, z.apart);
    opens = opens_more q p d (Node h a b) u r.opened up z.opens;
    cross = (AllByRecursion_weaker (Below q d u) (VisitInput (record { place = p; tree = Node h a b; before = s })) (λ j x y m n w k. off y m (x.0 y n)) r.opened z.opens.below, z.cross);
  }

  pub Serves : Setting → Tape → Tree → Type 0
  Serves g t b = (p k : ℕ) (vs : List ℕ) (s : Local) → Single p b → Serving p b (tuple s.indices) (serve g t b p k vs s) (visits g t b p k vs s)

  pub serve_once : (g : Setting) (t : Tape) (b : Tree) → Serves g t b
  unfolding serve visits Serves turn_fine
  serve_once g t Empty p k vs s x = record { within = tt; apart = tt; opens = opens_none p Empty (tuple s.indices); cross = tt }
  serve_once g t (Node h a b) p k vs s x = go (step g t h a b p k vs s) (step_fine g t h a b p k vs s x)
      (λ j ws n. serve_once g t a (first_place p h) j ws n x.2) (λ j ws n. serve_once g t b (second_place p h a) j ws n x.3)
    where
      here : Visit
      here = record { place = p; tree = Node h a b; before = s }

      go : (z : Turn) → turn_fine p h a b (tuple s.indices) z
          → ((j : ℕ) (ws : List ℕ) (n : Local) → Serving (first_place p h) a (tuple n.indices) (serve g t a (first_place p h) j ws n) (visits g t a (first_place p h) j ws n))
          → ((j : ℕ) (ws : List ℕ) (n : Local) → Serving (second_place p h a) b (tuple n.indices) (serve g t b (second_place p h a) j ws n) (visits g t b (second_place p h a) j ws n))
          → Serving p (Node h a b) (tuple s.indices) (after_turn (λ r. r) (serve g t a (first_place p h)) (serve g t b (second_place p h a)) z) (here ∷ after_turn (λ r. []) (visits g t a (first_place p h)) (visits g t b (second_place p h a)) z)
      go (Ends r) f ia ib = record {
        within = ((λ y m. m, refl), tt);
        apart = (tt, tt);
        opens = opens_more (second_place p h a) p b (Node h a b) (tuple s.indices) r.opened (λ y e. inr (inr e)) f;
        cross = (AllByRecursion_weaker (Below (second_place p h a) b (tuple s.indices)) (VisitInput here) (λ j z y m n w k. x.0 y m (z.0 y n)) r.opened f.below, tt);
      }
      go (First j ws n) f ia ib =
          serving_child p (first_place p h) h a b a s (tuple s.indices) _ _ refl (λ y e. inr (inl e)) f.1
          (subst (λ u. Serving (first_place p h) a u (serve g t a (first_place p h) j ws n) (visits g t a (first_place p h) j ws n)) f.0 (ia j ws n))
      go (Second j ws n) f ia ib =
          serving_child p (second_place p h a) h a b b s (tuple s.indices) _ _ refl (λ y e. inr (inr e)) x.0
          (subst (λ u. Serving (second_place p h a) b u (serve g t b (second_place p h a) j ws n) (visits g t b (second_place p h a) j ws n)) f (ib j ws n))

  -- runs

  pub record OnceState (is : List Input) (past : List Visit) : Type 0 where
    pub single : AllByRecursion InputSingle is
    pub apart : Pairs InputsApart is
    pub ahead : AllByRecursion (λ v. AllByRecursion (VisitInput v) is) past

  pub record OnceStep (is : List Input) (past vs : List Visit) : Type 0 where
    pub state : OnceState is (past ++ vs)
    pub old : AllByRecursion (λ v. AllByRecursion (VisitsApart v) vs) past
    pub new : Pairs VisitsApart vs

  nil_step : (is : List Input) (past : List Visit) → OnceState is past → OnceStep is past []
  nil_step is past z = record { state = subst (OnceState is) (sym (append-nil past)) z; old = AllByRecursion_weaker (λ v. AllByRecursion (VisitInput v) is) (λ v. Unit {0}) (λ v e. tt) past z.ahead; new = tt }

  call_once : (g : Setting) (t : Tape) (st : State) (vs : List ℕ) (past : List Visit) (k : Taken) → TakenEach InputSingle k → TakenPairs InputsApart k → AllByRecursion (λ v. TakenEach (VisitInput v) k) past → OnceStep (called g t st vs (Some k)).inputs past (visits_of_call g t st vs (Some k))
  unfolding Serves
  call_once g t st vs past k a b c =
      let i : Input = k.input in
      let u : List ℕ = tuple i.indices in
      let s = serve_once g t i.tree i.place 0 vs (begun st i) a.input in
      let r : Served = serve g t i.tree i.place 0 vs (begun st i) in
      let ws : List Visit = visits g t i.tree i.place 0 vs (begun st i) in
      record {
        state = record {
          single = AllByRecursion_append InputSingle k.others r.opened a.others s.opens.single;
          apart = pairs_append InputsApart k.others r.opened b.rest s.opens.apart
              (AllByRecursion_cross (InputsApart i) (Below i.place i.tree u) InputsApart (λ j d x y z m n v w q. x z (y.0 z n) m (y.1 ++ w) v (sym (append_assoc u y.1 w) ∙ ap (λ l. l ++ w) (sym y.2) ∙ sym q)) k.others r.opened b.pair s.opens.below);
          ahead = AllByRecursion_append (λ v. AllByRecursion (VisitInput v) (k.others ++ r.opened)) past ws
              (AllByRecursion_weaker (λ v. TakenEach (VisitInput v) k) (λ v. AllByRecursion (VisitInput v) (k.others ++ r.opened))
              (λ v x. AllByRecursion_append (VisitInput v) k.others r.opened x.others (AllByRecursion_weaker (Below i.place i.tree u) (VisitInput v) (λ j y z m n w q. x.input z m (y.0 z n) (y.1 ++ w) (q ∙ ap (λ l. l ++ w) y.2 ∙ append_assoc u y.1 w)) r.opened s.opens.below))
              past c)
              (AllByRecursion_both (Within i.place i.tree u) (λ v. AllByRecursion (VisitInput v) r.opened) (λ v. AllByRecursion (VisitInput v) (k.others ++ r.opened))
              (λ v x e. AllByRecursion_append (VisitInput v) k.others r.opened (AllByRecursion_weaker (InputsApart i) (VisitInput v) (λ j y z m n w q. y z (x.0 z (made_has v.place v.tree z m)) n [] w (append-nil u ∙ sym x.1 ∙ q)) k.others b.pair) e)
              ws s.within s.cross);
        };
        old = AllByRecursion_weaker (λ v. TakenEach (VisitInput v) k) (λ v. AllByRecursion (VisitsApart v) ws)
            (λ v x. AllByRecursion_weaker (Within i.place i.tree u) (VisitsApart v) (λ w y z m n l q. x.input z m (y.0 z n) l (q ∙ ap (λ us. us ++ l) y.1)) ws s.within) past c;
        new = s.apart;
      }

  move_once : (g : Setting) (m : Mode) (t : Tape) (st : State) (x : Move) (past : List Visit) → OnceState st.inputs past → OnceStep (moved g m t st x).inputs past (visits_of_move g t st x)
  unfolding moved visits_of_move
  move_once g m t st (Calls c u vs) past z = go (admitted g c u vs st.inputs) refl
    where
      go : (o : Option Taken) → admitted g c u vs st.inputs ≡ o → OnceStep (called g t st vs o).inputs past (visits_of_call g t st vs o)
      go None e = nil_step st.inputs past z
      go (Some k) e = call_once g t st vs past k
          (admitted_taken (TakenEach InputSingle) g c u vs st.inputs (taken_each InputSingle c u st.inputs z.single) k e)
          (admitted_taken (TakenPairs InputsApart) g c u vs st.inputs (taken_pairs InputsApart inputs_sym c u st.inputs z.apart) k e)
          (AllByRecursion_weaker (λ v. AllByRecursion (VisitInput v) st.inputs) (λ v. TakenEach (VisitInput v) k) (λ v h. admitted_taken (TakenEach (VisitInput v)) g c u vs st.inputs (taken_each (VisitInput v) c u st.inputs h) k e) past z.ahead)
  move_once g m t st (Tests u) past z = go (told m t st u)
    where
      go : (o : Option ℕ) → OnceStep (tested_with st o).inputs past []
      go None = nil_step st.inputs past z
      go (Some v) = nil_step st.inputs past z
  move_once g m t st (Guesses b) past z = nil_step st.inputs past z

  pub record OnceRun (past vs : List Visit) : Type 0 where
    pub old : AllByRecursion (λ v. AllByRecursion (VisitsApart v) vs) past
    pub new : Pairs VisitsApart vs

  nil_run : (is : List Input) (past : List Visit) → OnceState is past → OnceRun past []
  nil_run is past z = record { old = AllByRecursion_weaker (λ v. AllByRecursion (VisitInput v) is) (λ v. Unit {0}) (λ v e. tt) past z.ahead; new = tt }

  run_once : (g : Setting) (m : Mode) (next : List Answer → Option Move) (t : Tape) (n : ℕ) (st : State) (past : List Visit) → OnceState st.inputs past → OnceRun past (run_visits g m next t n st)
  unfolding run_visits
  run_once g m next t zero st past z = nil_run st.inputs past z
  run_once g m next t (suc n) st past z = go (next_move next st) (λ a. run_once g m next t n (moved g m t st a) (past ++ visits_of_move g t st a) (move_once g m t st a past z).state)
    where
      go : (o : Option Move) → ((a : Move) → OnceRun (past ++ visits_of_move g t st a) (run_visits g m next t n (moved g m t st a)))
          → OnceRun past (by_move [] (λ a. visits_of_move g t st a ++ run_visits g m next t n (moved g m t st a)) o)
      go None ih = nil_run st.inputs past z
      go (Some a) ih =
          let ws : List Visit = visits_of_move g t st a in
          let rest : List Visit = run_visits g m next t n (moved g m t st a) in
          let x = move_once g m t st a past z in
          let y = ih a in
          record {
            old = AllByRecursion_both (λ v. AllByRecursion (VisitsApart v) ws) (λ v. AllByRecursion (VisitsApart v) rest) (λ v. AllByRecursion (VisitsApart v) (ws ++ rest)) (λ v p q. AllByRecursion_append (VisitsApart v) ws rest p q) past x.old (AllByRecursion_left (λ v. AllByRecursion (VisitsApart v) rest) past ws y.old);
            new = pairs_append VisitsApart ws rest x.new y.new (AllByRecursion_right (λ v. AllByRecursion (VisitsApart v) rest) past ws y.old);
          }

  pub nothing_twice : (g : Setting) (m : Mode) (next : List Answer → Option Move) (t : Tape) (n : ℕ) (game : Tree) → Single 0 game → Pairs VisitsApart (run_visits g m next t n (start g game))
  nothing_twice g m next t n game s =
      let o = inputs_open g game 0 [] s in
      (run_once g m next t n (start g game) [] (record { single = o.single; apart = o.apart; ahead = tt })).new

  -- at the end no two available copies can make the same at one copy
  pub inputs_apart : (g : Setting) (m : Mode) (next : List Answer → Option Move) (t : Tape) (n : ℕ) (game : Tree) → Single 0 game → Pairs InputsApart (run_from g m next t n (start g game)).inputs
  inputs_apart g m next t n game s =
      let o = inputs_open g game 0 [] s in
      (run_keeps (λ st. (past : List Visit) × OnceState st.inputs past) g m next t (λ st x k. (k.0 ++ visits_of_move g t st x, (move_once g m t st x k.0 k.1).state)) n (start g game) ([], record { single = o.single; apart = o.apart; ahead = tt })).1.apart
