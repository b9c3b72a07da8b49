-- In a run of such a game no cell is assigned that a visited node could still assign.
use Rattle.std.proofs.Common.{◌≡◌, ℕ, zero, suc, Bool, true, false, cond, ◌||◌, ◌&&◌, ◌==◌, List, [], ◌∷◌, ◌++◌, ◌⊎◌, inl, inr, Option, Some, None, refl, sym, ◌∙◌}
use Rattle.std.specs.List.{AllByRecursion}
use Rattle.cv_syntax_trees.specs.declared.head.Head.{Head}
use Rattle.cv_syntax_trees.specs.declared.head.Head.TheVariants.{In, Event, New, Let, If, Find, Branch, Cons, Binder, Key, Call}
use Rattle.cv_syntax_trees.specs.Tree.{Tree, Empty, Node, second, first_place, second_place}
use Rattle.cv_meaning.specs.Tapes.{Tape, Find_at, same_tuple}
use Rattle.cv_meaning.specs.Interpretation.{Setting}
use Rattle.cv_meaning.specs.Memory.{Store, Local, put, tuple}
use Rattle.cv_meaning.specs.Binders.{bound_to}
use Rattle.cv_meaning.specs.Candidates.{Candidate, candidates, chosen}
use Rattle.cv_meaning.specs.Serving.{Turn, Ends, First, Second, after_find, step, serve, after_turn, Visit, visits}
use Rattle.cv_meaning.specs.Runs.{Mode, Answer, Move, Calls, Tests, Guesses, State, Taken, admitted, called, told, tested_with, moved, start, begun, next_move, by_move, visits_of_call, visits_of_move, run_visits}
use Rattle.cv_meaning_laws.proofs.Counts.{same_tuple_exact}
use Rattle.cv_scope_rules.specs.Sites.{SiteName, Variable}
use Rattle.cv_scope_rules.specs.Branches.{Pairs, IsApartByBranches}
use Rattle.cv_scope_rules.specs.Made.{is_bound, made_at}
use Rattle.cv_scope_runs.proofs.OnceRuns.{Has, VisitsApart, nothing_twice}
use Rattle.cv_scope_runs.proofs.OnceGames.{MakesName, names_single, names_at}
use Rattle.cv_syntax_trees.proofs.lists.Each.{AllByRecursion_append, AllByRecursion_both, AllByRecursion_left}
use Rattle.std.proofs.lemmas.Bool.{or_left, or_right}

-- what a put and a list of binders assign

pub put_made : (m : Store) (x : ℕ) (u : List ℕ) (v y : ℕ) (w : List ℕ) (z : ℕ) → put m x u v y w ≡ Some z → (m y w ≡ Some z) ⊎ (((y == x) ≡ true) × (w ≡ u))
unfolding put
put_made m x u v y w z e = go (y == x) (same_tuple w u) refl refl e
  where
    go : (b c : Bool) → (y == x) ≡ b → same_tuple w u ≡ c → cond (b && c) (Some v) (m y w) ≡ Some z → (m y w ≡ Some z) ⊎ (((y == x) ≡ true) × (w ≡ u))
    go true true i j k = inr (i, same_tuple_exact w u j)
    go true false i j k = inl k
    go false c i j k = inl k

pub bound_made : (m : Store) (u : List ℕ) (bs : Tree) (vs : List ℕ) (y : ℕ) (w : List ℕ) (z : ℕ) → bound_to m u bs vs y w ≡ Some z → (m y w ≡ Some z) ⊎ ((is_bound bs y ≡ true) × (w ≡ u))
unfolding bound_to is_bound
bound_made m u (Node (Binder x T) a b) (v ∷ vs) y w z e = go (bound_made (put m x u v) u b vs y w z e)
  where
    put_case : (m y w ≡ Some z) ⊎ (((y == x) ≡ true) × (w ≡ u)) → (m y w ≡ Some z) ⊎ (((y == x) || is_bound b y ≡ true) × (w ≡ u))
    put_case (inl k) = inl k
    put_case (inr k) = inr (or_left (y == x) _ k.0, k.1)

    go : (put m x u v y w ≡ Some z) ⊎ ((is_bound b y ≡ true) × (w ≡ u)) → (m y w ≡ Some z) ⊎ (((y == x) || is_bound b y ≡ true) × (w ≡ u))
    go (inl k) = put_case (put_made m x u v y w z k)
    go (inr k) = inr (or_right (y == x) _ k.0, k.1)
bound_made m u _ _ y w z e = inl e

-- cells that some visits assigned
abbrev pub Known : Type 1
Known = ℕ → List ℕ → Type 0

abbrev pub AssignedBy : Known → Store → Type 0
AssignedBy K m = (y : ℕ) (w : List ℕ) (z : ℕ) → m y w ≡ Some z → K y w

abbrev pub known_more : Known → List Visit → Known
known_more K [] y w = K y w
known_more K (v ∷ vs) y w = known_more (λ x u. K x u ⊎ ((made_at v.tree (Variable x) ≡ true) × (u ≡ tuple v.before.indices))) vs y w

-- the visited node can't assign a cell that is known
abbrev pub ClearOf : Known → Visit → Type 0
ClearOf K v = (y : ℕ) (w l : List ℕ) → K y w → Has SiteName MakesName v.place v.tree (Variable y) → w ≡ tuple v.before.indices ++ l → ⊥

-- no cell is assigned that the visited node could assign
abbrev pub IsClear : Visit → Type 0
IsClear v = (y : ℕ) (l : List ℕ) → Has SiteName MakesName v.place v.tree (Variable y) → v.before.memory.store y (tuple v.before.indices ++ l) ≡ None

clear_of : (K : Known) (v : Visit) → AssignedBy K v.before.memory.store → ClearOf K v → IsClear v
clear_of K v a c y l h = go (v.before.memory.store y (tuple v.before.indices ++ l)) refl
  where
    go : (o : Option ℕ) → v.before.memory.store y (tuple v.before.indices ++ l) ≡ o → v.before.memory.store y (tuple v.before.indices ++ l) ≡ None
    go None e = e
    go (Some z) e = absurd (c y _ l (a y _ z e) h refl)

abbrev pub KnownAfter : Known → Visit → Known
KnownAfter K v x u = K x u ⊎ ((made_at v.tree (Variable x) ≡ true) × (u ≡ tuple v.before.indices))

-- after a visit, the later ones are clear of more
clear_more : (K : Known) (v : Visit) (vs : List Visit) → AllByRecursion (VisitsApart SiteName MakesName v) vs → AllByRecursion (ClearOf K) vs → AllByRecursion (ClearOf (KnownAfter K v)) vs
clear_more K v vs a c = AllByRecursion_both (VisitsApart SiteName MakesName v) (ClearOf K) (ClearOf (KnownAfter K v)) go vs a c
  where
    go : (x : Visit) → VisitsApart SiteName MakesName v x → ClearOf K x → ClearOf (KnownAfter K v) x
    go x p q = clear
      where
        clear : (y : ℕ) (w l : List ℕ) → KnownAfter K v y w → Has SiteName MakesName x.place x.tree (Variable y) → w ≡ tuple x.before.indices ++ l → ⊥
        clear y w l (inl k) h e = q y w l k h e
        clear y w l (inr k) h e = p (Variable y) (names_at v.place v.tree (Variable y) k.0) h l (sym k.1 ∙ e)

-- services

turn_known : Known → Turn → Type 0
turn_known K (Ends r) = AssignedBy K r.last.memory.store
turn_known K (First k vs s) = AssignedBy K s.memory.store
turn_known K (Second k vs s) = AssignedBy K s.memory.store

step_known : (K : Known) (g : Setting) (t : Tape) (h : Head) (a b : Tree) (p k : ℕ) (vs : List ℕ) (s : Local) → AssignedBy K s.memory.store → turn_known (KnownAfter K (record { place = p; tree = Node h a b; before = s })) (step g t h a b p k vs s)
unfolding step turn_known
step_known K g t (In c) a b p k vs s x = λ y w z e. go y w z (bound_made s.memory.store (tuple s.indices) (second a) vs y w z e)
  where
    go : (y : ℕ) (w : List ℕ) (z : ℕ) → (s.memory.store y w ≡ Some z) ⊎ ((is_bound (second a) y ≡ true) × (w ≡ tuple s.indices)) → K y w ⊎ ((is_bound (second a) y ≡ true) × (w ≡ tuple s.indices))
    go y w z (inl i) = inl (x y w z i)
    go y w z (inr i) = inr i
step_known K g t Branch a b p k vs s x = λ y w z e. go y w z (bound_made s.memory.store (tuple s.indices) a vs y w z e)
  where
    go : (y : ℕ) (w : List ℕ) (z : ℕ) → (s.memory.store y w ≡ Some z) ⊎ ((is_bound a y ≡ true) × (w ≡ tuple s.indices)) → K y w ⊎ ((is_bound a y ≡ true) × (w ≡ tuple s.indices))
    go y w z (inl i) = inl (x y w z i)
    go y w z (inr i) = inr i
step_known K g t (New n T) a b p k vs s x = λ y w z e. go y w z (put_made s.memory.store n (tuple s.indices) _ y w z e)
  where
    go : (y : ℕ) (w : List ℕ) (z : ℕ) → (s.memory.store y w ≡ Some z) ⊎ (((y == n) ≡ true) × (w ≡ tuple s.indices)) → K y w ⊎ (((y == n) ≡ true) × (w ≡ tuple s.indices))
    go y w z (inl i) = inl (x y w z i)
    go y w z (inr i) = inr i
step_known K g t (Let n T) a b p k vs s x = λ y w z e. go y w z (put_made s.memory.store n (tuple s.indices) _ y w z e)
  where
    go : (y : ℕ) (w : List ℕ) (z : ℕ) → (s.memory.store y w ≡ Some z) ⊎ (((y == n) ≡ true) × (w ≡ tuple s.indices)) → K y w ⊎ (((y == n) ≡ true) × (w ≡ tuple s.indices))
    go y w z (inl i) = inl (x y w z i)
    go y w z (inr i) = inr i
step_known K g t (Find l) a b p k vs s x = go (chosen (candidates g s.indices s.memory.store a) (t (Find_at l (tuple s.indices))))
  where
    go : (o : Option Candidate) → turn_known (KnownAfter K (record { place = p; tree = Node (Find l) a b; before = s })) (after_find s o)
    go None = λ y w z e. inl (x y w z e)
    go (Some c) = λ y w z e. inl (x y w z e)
step_known K g t Cons a b p zero vs s x = λ y w z e. inl (x y w z e)
step_known K g t Cons a b p (suc k) vs s x = λ y w z e. inl (x y w z e)
step_known K g t (Event n) a b p k vs s x = λ y w z e. inl (x y w z e)
step_known K g t If a b p k vs s x = λ y w z e. inl (x y w z e)
step_known K g t (Key n) a b p k vs s x = λ y w z e. go y w z (put_made s.memory.store n (tuple s.indices) _ y w z e)
  where
    go : (y : ℕ) (w : List ℕ) (z : ℕ) → (s.memory.store y w ≡ Some z) ⊎ (((y == n) ≡ true) × (w ≡ tuple s.indices)) → K y w ⊎ (((y == n) ≡ true) × (w ≡ tuple s.indices))
    go y w z (inl i) = inl (x y w z i)
    go y w z (inr i) = inr i
step_known K g t (Call n l) a b p k vs s x = λ y w z e. go y w z (put_made s.memory.store n (tuple s.indices) _ y w z e)
  where
    go : (y : ℕ) (w : List ℕ) (z : ℕ) → (s.memory.store y w ≡ Some z) ⊎ (((y == n) ≡ true) × (w ≡ tuple s.indices)) → K y w ⊎ (((y == n) ≡ true) × (w ≡ tuple s.indices))
    go y w z (inl i) = inl (x y w z i)
    go y w z (inr i) = inr i
step_known K g t h a b p k vs s x = λ y w z e. inl (x y w z e)

pub record ClearService (K : Known) (m : Store) (vs : List Visit) : Type 0 where
  pub clear : AllByRecursion IsClear vs
  pub known : AssignedBy (known_more K vs) m

serve_clear : (g : Setting) (t : Tape) (b : Tree) (p k : ℕ) (vs : List ℕ) (s : Local) (K : Known) → AssignedBy K s.memory.store → Pairs (VisitsApart SiteName MakesName) (visits g t b p k vs s) → AllByRecursion (ClearOf K) (visits g t b p k vs s)
    → ClearService K (serve g t b p k vs s).last.memory.store (visits g t b p k vs s)
unfolding serve visits turn_known
serve_clear g t Empty p k vs s K a w c = record { clear = tt; known = a }
serve_clear g t (Node h a b) p k vs s K x w c =
    let r = go (step g t h a b p k vs s) (step_known K g t h a b p k vs s x)
    (λ j ws n. serve_clear g t a (first_place p h) j ws n (KnownAfter K here)) (λ j ws n. serve_clear g t b (second_place p h a) j ws n (KnownAfter K here)) w.1 (clear_more K here _ w.0 c.1) in
    record { clear = (clear_of K here x c.0, r.clear); known = r.known }
  where
    here : Visit
    here = record { place = p; tree = Node h a b; before = s }

    Child : Tree → ℕ → Type 0
    Child d q = (j : ℕ) (ws : List ℕ) (n : Local) → AssignedBy (KnownAfter K here) n.memory.store → Pairs (VisitsApart SiteName MakesName) (visits g t d q j ws n) → AllByRecursion (ClearOf (KnownAfter K here)) (visits g t d q j ws n)
        → ClearService (KnownAfter K here) (serve g t d q j ws n).last.memory.store (visits g t d q j ws n)

    rest : Turn → List Visit
    rest x = after_turn (λ r. []) (visits g t a (first_place p h)) (visits g t b (second_place p h a)) x

    go : (z : Turn) → turn_known (KnownAfter K here) z → Child a (first_place p h) → Child b (second_place p h a) → Pairs (VisitsApart SiteName MakesName) (rest z) → AllByRecursion (ClearOf (KnownAfter K here)) (rest z)
        → ClearService (KnownAfter K here) (after_turn (λ r. r) (serve g t a (first_place p h)) (serve g t b (second_place p h a)) z).last.memory.store (rest z)
    go (Ends r) f ia ib pw cl = record { clear = tt; known = f }
    go (First j ws n) f ia ib pw cl = ia j ws n f pw cl
    go (Second j ws n) f ia ib pw cl = ib j ws n f pw cl

-- runs

pub pairwise_left : {A : Type 0} (R : A → A → Type 0) (xs ys : List A) → Pairs R (xs ++ ys) → Pairs R xs
pairwise_left R [] ys h = tt
pairwise_left R (x ∷ xs) ys h = (AllByRecursion_left (R x) xs ys h.0, pairwise_left R xs ys h.1)

pub pairwise_right : {A : Type 0} (R : A → A → Type 0) (xs ys : List A) → Pairs R (xs ++ ys) → Pairs R ys
pairwise_right R [] ys h = h
pairwise_right R (x ∷ xs) ys h = pairwise_right R xs ys h.1

-- what is clear of a list of visits too
clear_rest : (K : Known) (vs ws : List Visit) → Pairs (VisitsApart SiteName MakesName) (vs ++ ws) → AllByRecursion (ClearOf K) (vs ++ ws) → AllByRecursion (ClearOf (known_more K vs)) ws
clear_rest K [] ws p c = c
clear_rest K (v ∷ vs) ws p c = clear_rest (KnownAfter K v) vs ws p.1 (clear_more K v (vs ++ ws) p.0 c.1)

run_clear : (g : Setting) (m : Mode) (next : List Answer → Option Move) (t : Tape) (n : ℕ) (st : State) (K : Known) → AssignedBy K st.memory.store → Pairs (VisitsApart SiteName MakesName) (run_visits g m next t n st) → AllByRecursion (ClearOf K) (run_visits g m next t n st)
    → AllByRecursion IsClear (run_visits g m next t n st)
unfolding run_visits moved visits_of_move
run_clear g m next t zero st K x w c = tt
run_clear g m next t (suc n) st K x w c = go (next_move next st) (λ a. run_clear g m next t n (moved g m t st a)) w c
  where
    rest : Move → List Visit
    rest a = run_visits g m next t n (moved g m t st a)

    step_of : (a : Move) → Pairs (VisitsApart SiteName MakesName) (visits_of_move g t st a) → AllByRecursion (ClearOf K) (visits_of_move g t st a) → ClearService K (moved g m t st a).memory.store (visits_of_move g t st a)
    step_of (Calls ch u vs) p q = call (admitted g ch u vs st.inputs) p q
      where
        call : (o : Option Taken) → Pairs (VisitsApart SiteName MakesName) (visits_of_call g t st vs o) → AllByRecursion (ClearOf K) (visits_of_call g t st vs o) → ClearService K (called g t st vs o).memory.store (visits_of_call g t st vs o)
        call None p q = record { clear = tt; known = x }
        call (Some k) p q = serve_clear g t k.input.tree k.input.place 0 vs (begun st k.input) K x p q
    step_of (Tests u) p q = test (told m t st u)
      where
        test : (o : Option ℕ) → ClearService K (tested_with st o).memory.store []
        test None = record { clear = tt; known = x }
        test (Some v) = record { clear = tt; known = x }
    step_of (Guesses b) p q = record { clear = tt; known = x }

    go : (o : Option Move)
        → ((a : Move) (L : Known) → AssignedBy L (moved g m t st a).memory.store → Pairs (VisitsApart SiteName MakesName) (rest a) → AllByRecursion (ClearOf L) (rest a) → AllByRecursion IsClear (rest a))
        → Pairs (VisitsApart SiteName MakesName) (by_move [] (λ a. visits_of_move g t st a ++ rest a) o) → AllByRecursion (ClearOf K) (by_move [] (λ a. visits_of_move g t st a ++ rest a) o)
        → AllByRecursion IsClear (by_move [] (λ a. visits_of_move g t st a ++ rest a) o)
    go None ih p q = tt
    go (Some a) ih p q =
        let ws : List Visit = visits_of_move g t st a in
        let r = step_of a (pairwise_left (VisitsApart SiteName MakesName) ws (rest a) p) (AllByRecursion_left (ClearOf K) ws (rest a) q) in
        AllByRecursion_append IsClear ws (rest a) r.clear (ih a (known_more K ws) r.known (pairwise_right (VisitsApart SiteName MakesName) ws (rest a) p) (clear_rest K ws (rest a) p q))

all_of_none : (vs : List Visit) → AllByRecursion (ClearOf (λ y w. ⊥)) vs
all_of_none [] = tt
all_of_none (v ∷ vs) = ((λ y w l k. absurd k), all_of_none vs)

pub visits_clear : (g : Setting) (m : Mode) (next : List Answer → Option Move) (t : Tape) (n : ℕ) (game : Tree) → IsApartByBranches game → AllByRecursion IsClear (run_visits g m next t n (start g game))
visits_clear g m next t n game s =
    run_clear g m next t n (start g game) (λ y w. ⊥) (λ y w z e. cc) (nothing_twice SiteName MakesName g m next t n game (names_single _ [] 0 game s)) (all_of_none _)
