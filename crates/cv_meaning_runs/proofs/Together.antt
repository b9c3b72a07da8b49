-- Two runs on tapes that agree off some cells go together until one of these cells is consulted.
use Rattle.std.proofs.Common.{◌≡◌, ℕ, zero, suc, Bool, true, false, cond, ◌&&◌, ◌||◌, not, ◌==◌, eqb-true, eq-eqb, List, [], ◌∷◌, ◌++◌, Option, Some, None, refl, sym, ap, ap₂, subst, ◌∙◌, is_some, map, flat_map}
use Rattle.std.proofs.lemmas.Bool.{both_ways, or_parts}
use Rattle.std.specs.List.{list_any}
use Rattle.cv_syntax_trees.specs.declared.head.Head.{Head}
use Rattle.cv_syntax_trees.specs.declared.head.Head.TheVariants.{New, Find, Call, Cons}
use Rattle.cv_syntax_trees.specs.Tree.{Tree, Empty, Node, first_place, second_place}
use Rattle.cv_meaning.specs.Tapes.{Tape, Cell, New_at, Find_at, Test_at, cells_of}
use Rattle.cv_meaning.specs.Interpretation.{Setting}
use Rattle.cv_meaning.specs.Memory.{Local, tuple, with_value, with_answer}
use Rattle.cv_meaning.specs.Candidates.{candidates, chosen}
use Rattle.cv_meaning.specs.Serving.{Served, Turn, Ends, First, Second, after_find, oracle_call, step, serve, after_turn, Visit, visits}
use Rattle.cv_meaning.specs.Consulted.{consulted_by}
use Rattle.cv_meaning.specs.Runs.{Mode, Events, Real, Random, Adversary, Answer, Move, Calls, Tests, Guesses, State, Taken, admitted, called, told, tested_with, moved, run_from, after_service, begun, next_move, by_move, visits_of_call, visits_of_move, run_visits, start}
use Rattle.cv_meaning.specs.Cells.{coin_cells}
use Rattle.cv_meaning.specs.Experiments.{run, visits_of_run, coins_on}
use Rattle.cv_meaning_runs.specs.Moments.{Moment, Visited, Tested, cells_of_test, cells_of_moment, moments_of_move, run_moments, moments_of_run, visits_among, cells_of_run}
use Rattle.cv_meaning_runs.specs.Agreement.{AgreeAt, AgreeOff, AgreeBut, IsLocal, SameRun, SameUpTo, consults, visit_consults}
use Rattle.cv_syntax_trees.proofs.lists.Each.{list_any_append}

-- lists

same_append : {A : Type 0} (stops : A → Bool) (xs ys vs ws : List A) → SameUpTo stops xs ys → (list_any stops xs ≡ false → SameUpTo stops vs ws) → SameUpTo stops (xs ++ vs) (ys ++ ws)
same_append stops [] [] vs ws h k = k refl
same_append stops (x ∷ xs) (y ∷ ys) vs ws h k = (h.0, λ e. same_append stops xs ys vs ws (h.1 e) (λ r. k (ap₂ ◌||◌ e r)))
same_append stops [] (y ∷ ys) vs ws h k = absurd h
same_append stops (x ∷ xs) [] vs ws h k = absurd h

agree_at : (marked : Cell → Bool) (t u : Tape) → AgreeOff marked t u → (cs : List Cell) → list_any marked cs ≡ false → AgreeAt cs t u
agree_at marked t u h [] e = tt
agree_at marked t u h (c ∷ cs) e = let d = or_parts (marked c) _ e in (h c d.0, agree_at marked t u h cs d.1)

-- services

record ServedTogether (g : Setting) (marked : Cell → Bool) (r o : Served) (vs ws : List Visit) : Type 0 where
  visited : SameUpTo (visit_consults g marked) vs ws
  served : list_any (visit_consults g marked) vs ≡ false → r ≡ o

pub record MovedTogether (g : Setting) (m : Mode) (marked : Cell → Bool) (x y : State) (vs ws : List Moment) : Type 0 where
  pub moments : SameUpTo (consults g m marked) vs ws
  pub state : list_any (consults g m marked) vs ≡ false → x ≡ y

module _ (g : Setting) (marked : Cell → Bool) (t u : Tape) (l : IsLocal g.side) (h : AgreeOff marked t u) where
  step_together : (k : Head) (a b : Tree) (p n : ℕ) (vs : List ℕ) (s : Local) → list_any marked (consulted_by g k a s) ≡ false → step g t k a b p n vs s ≡ step g u k a b p n vs s
  unfolding step
  step_together (New x T) a b p n vs s e = ap (λ v. Second 0 [] (with_value s x v)) (agree_at marked t u h (New_at x (tuple s.indices) ∷ []) e).0
  step_together (Find k) a b p n vs s e = ap (λ v. after_find s (chosen (candidates g s.indices s.memory.store a) v)) (agree_at marked t u h (Find_at k (tuple s.indices) ∷ []) e).0
  step_together (Call x k) a b p n vs s e = ap (λ r. Second 0 [] (with_answer s x r)) (l t u s.memory.arrays (oracle_call g s k a) (agree_at marked t u h (consulted_by g (Call x k) a s) e))
  step_together Cons a b p zero vs s e = refl
  step_together Cons a b p (suc n) vs s e = refl
  step_together k a b p n vs s e = refl

  abbrev IsServedTogether : Tree → ℕ → Type 0
  IsServedTogether b p = (n : ℕ) (vs : List ℕ) (s : Local) → ServedTogether g marked (serve g t b p n vs s) (serve g u b p n vs s) (visits g t b p n vs s) (visits g u b p n vs s)

  turned_together : (a b : Tree) (p q : ℕ) → IsServedTogether a p → IsServedTogether b q → (x : Turn)
      → ServedTogether g marked (after_turn (λ r. r) (serve g t a p) (serve g t b q) x) (after_turn (λ r. r) (serve g u a p) (serve g u b q) x) (after_turn (λ r. []) (visits g t a p) (visits g t b q) x) (after_turn (λ r. []) (visits g u a p) (visits g u b q) x)
  turned_together a b p q f k (Ends r) = record { visited = tt; served = λ e. refl }
  turned_together a b p q f k (First n vs s) = f n vs s
  turned_together a b p q f k (Second n vs s) = k n vs s

  serve_together : (b : Tree) (p : ℕ) → IsServedTogether b p
  unfolding serve visits
  serve_together Empty p n vs s = record { visited = tt; served = λ e. refl }
  serve_together (Node k a b) p n vs s =
      let go : list_any marked (consulted_by g k a s) ≡ false
      → ServedTogether g marked (serve g t (Node k a b) p n vs s) (serve g u (Node k a b) p n vs s) (after_turn (λ r. []) (visits g t a (first_place p k)) (visits g t b (second_place p k a)) (step g t k a b p n vs s)) (after_turn (λ r. []) (visits g u a (first_place p k)) (visits g u b (second_place p k a)) (step g u k a b p n vs s))
      = λ e. subst (λ y. ServedTogether g marked (after_turn (λ r. r) (serve g t a (first_place p k)) (serve g t b (second_place p k a)) (step g t k a b p n vs s)) (after_turn (λ r. r) (serve g u a (first_place p k)) (serve g u b (second_place p k a)) y) (after_turn (λ r. []) (visits g t a (first_place p k)) (visits g t b (second_place p k a)) (step g t k a b p n vs s)) (after_turn (λ r. []) (visits g u a (first_place p k)) (visits g u b (second_place p k a)) y))
      (step_together k a b p n vs s e)
      (turned_together a b (first_place p k) (second_place p k a) (serve_together a (first_place p k)) (serve_together b (second_place p k a)) (step g t k a b p n vs s)) in
      record {
        visited = (refl, λ e. (go e).visited);
        served = λ e. let d = or_parts (list_any marked (consulted_by g k a s)) _ e in (go d.0).served d.1;
      }

  -- moves

  visited_together : (m : Mode) (vs ws : List Visit) → SameUpTo (visit_consults g marked) vs ws → SameUpTo (consults g m marked) (map Visited vs) (map Visited ws)
  visited_together m [] [] k = tt
  visited_together m (v ∷ vs) (w ∷ ws) k = (ap Visited k.0, λ e. visited_together m vs ws (k.1 e))
  visited_together m [] (w ∷ ws) k = absurd k
  visited_together m (v ∷ vs) [] k = absurd k

  visited_none : (m : Mode) (vs : List Visit) → list_any (consults g m marked) (map Visited vs) ≡ list_any (visit_consults g marked) vs
  visited_none m [] = refl
  visited_none m (v ∷ vs) = ap (λ b. visit_consults g marked v || b) (visited_none m vs)

  called_together : (m : Mode) (st : State) (vs : List ℕ) (o : Option Taken) → MovedTogether g m marked (called g t st vs o) (called g u st vs o) (map Visited (visits_of_call g t st vs o)) (map Visited (visits_of_call g u st vs o))
  called_together m st vs None = record { moments = tt; state = λ e. refl }
  called_together m st vs (Some k) =
      let r = serve_together k.input.tree k.input.place 0 vs (begun st k.input) in
      record { moments = visited_together m _ _ r.visited; state = λ e. ap (after_service st k.others) (r.served (sym (visited_none m (visits_of_call g t st vs (Some k))) ∙ e)) }

  told_together : (m : Mode) (st : State) (w : List ℕ) → list_any marked (cells_of_test m st w) ≡ false → told m t st w ≡ told m u st w
  told_together Events st w e = refl
  told_together (Real one x) st w e = refl
  told_together (Random one x) st w e = go (one && st.tested) (is_some (st.memory.store x w)) e
    where
      go : (b r : Bool) → list_any marked (cond b [] (cond r (Test_at w ∷ []) [])) ≡ false → cond b None (cond r (Some (t (Test_at w))) None) ≡ cond b None (cond r (Some (u (Test_at w))) None)
      go true r e = refl
      go false false e = refl
      go false true e = ap Some (agree_at marked t u h (Test_at w ∷ []) e).0

  moved_together : (m : Mode) (st : State) (a : Move) → MovedTogether g m marked (moved g m t st a) (moved g m u st a) (moments_of_move g t st a) (moments_of_move g u st a)
  unfolding moved visits_of_move moments_of_move
  moved_together m st (Calls c w vs) = called_together m st vs (admitted g c w vs st.inputs)
  moved_together m st (Tests w) = record { moments = (refl, λ e. tt); state = λ e. ap (tested_with st) (told_together m st w (or_parts (list_any marked (cells_of_test m st w)) false e).0) }
  moved_together m st (Guesses b) = record { moments = tt; state = λ e. refl }

  run_together : (m : Mode) (next : List Answer → Option Move) (n : ℕ) (st : State) → MovedTogether g m marked (run_from g m next t n st) (run_from g m next u n st) (run_moments g m next t n st) (run_moments g m next u n st)
  unfolding run_from run_moments
  run_together m next zero st = record { moments = tt; state = λ e. refl }
  run_together m next (suc n) st = go (next_move next st) (λ y. run_together m next n y)
    where
      ends : Tape → Option Move → State
      ends w o = by_move st (λ a. run_from g m next w n (moved g m w st a)) o

      seen : Tape → Option Move → List Moment
      seen w o = by_move [] (λ a. moments_of_move g w st a ++ run_moments g m next w n (moved g m w st a)) o

      go : (o : Option Move) → ((y : State) → MovedTogether g m marked (run_from g m next t n y) (run_from g m next u n y) (run_moments g m next t n y) (run_moments g m next u n y)) → MovedTogether g m marked (ends t o) (ends u o) (seen t o) (seen u o)
      go None ih = record { moments = tt; state = λ e. refl }
      go (Some a) ih =
          let r = moved_together m st a in
          let later : (e : list_any (consults g m marked) (moments_of_move g t st a) ≡ false) → MovedTogether g m marked (run_from g m next t n (moved g m t st a)) (run_from g m next u n (moved g m u st a)) (run_moments g m next t n (moved g m t st a)) (run_moments g m next u n (moved g m u st a))
          = λ e. subst (λ y. MovedTogether g m marked (run_from g m next t n (moved g m t st a)) (run_from g m next u n y) (run_moments g m next t n (moved g m t st a)) (run_moments g m next u n y)) (r.state e) (ih (moved g m t st a)) in
          record {
            moments = same_append (consults g m marked) _ _ _ _ r.moments (λ e. (later e).moments);
            state = λ e. let d = list_any_append (consults g m marked) (moments_of_move g t st a) _ e in (later d.0).state d.1;
          }

-- games

pub coins_same : (t u : Tape) (k : ℕ) (ns : List ℕ) → AgreeAt (cells_of (coin_cells k ns)) t u → coins_on t k ns ≡ coins_on u k ns
coins_same t u k [] h = refl
coins_same t u k (n ∷ ns) h = ap₂ ◌∷◌ h.0 (coins_same t u (suc k) ns h.1)

pub game_together : (g : Setting) (m : Mode) (a : Adversary) (game : Tree) (marked : Cell → Bool) (t u : Tape) → IsLocal g.side → AgreeBut a marked t u
    → MovedTogether g m marked (run g m a game t) (run g m a game u) (moments_of_run g m a game t) (moments_of_run g m a game u)
unfolding run moments_of_run
game_together g m a game marked t u l h =
    let coins = coins_on t 0 a.coins in
    subst (λ cs. MovedTogether g m marked (run_from g m (a.next coins) t a.moves (start g game)) (run_from g m (a.next cs) u a.moves (start g game)) (run_moments g m (a.next coins) t a.moves (start g game)) (run_moments g m (a.next cs) u a.moves (start g game)))
    (coins_same t u 0 a.coins h.coins) (run_together g marked t u l h.off m (a.next coins) a.moves (start g game))

-- the visits among the moments of a run

among_append : (xs ys : List Moment) → visits_among (xs ++ ys) ≡ visits_among xs ++ visits_among ys
among_append [] ys = refl
among_append (Visited v ∷ xs) ys = ap (λ vs. v ∷ vs) (among_append xs ys)
among_append (Tested w st ∷ xs) ys = among_append xs ys

among_visited : (vs : List Visit) → visits_among (map Visited vs) ≡ vs
among_visited [] = refl
among_visited (v ∷ vs) = ap (λ ws. v ∷ ws) (among_visited vs)

among_move : (g : Setting) (t : Tape) (st : State) (a : Move) → visits_among (moments_of_move g t st a) ≡ visits_of_move g t st a
unfolding moments_of_move visits_of_move
among_move g t st (Calls c w vs) = among_visited (visits_of_call g t st vs (admitted g c w vs st.inputs))
among_move g t st (Tests w) = refl
among_move g t st (Guesses b) = refl

among_run : (g : Setting) (m : Mode) (next : List Answer → Option Move) (t : Tape) (n : ℕ) (st : State) → visits_among (run_moments g m next t n st) ≡ run_visits g m next t n st
unfolding run_moments run_visits
among_run g m next t zero st = refl
among_run g m next t (suc n) st = go (next_move next st) (λ y. among_run g m next t n y)
  where
    go : (o : Option Move) → ((y : State) → visits_among (run_moments g m next t n y) ≡ run_visits g m next t n y)
        → visits_among (by_move [] (λ a. moments_of_move g t st a ++ run_moments g m next t n (moved g m t st a)) o) ≡ by_move [] (λ a. visits_of_move g t st a ++ run_visits g m next t n (moved g m t st a)) o
    go None ih = refl
    go (Some a) ih = among_append (moments_of_move g t st a) _ ∙ ap₂ ◌++◌ (among_move g t st a) (ih (moved g m t st a))

pub visits_among_moments : (g : Setting) (m : Mode) (a : Adversary) (game : Tree) (t : Tape) → visits_among (moments_of_run g m a game t) ≡ visits_of_run g m a game t
unfolding moments_of_run visits_of_run
visits_among_moments g m a game t = among_run g m (a.next (coins_on t 0 a.coins)) t a.moves (start g game)

-- the laws

same_all : {A : Type 0} (stops : A → Bool) (xs ys : List A) → SameUpTo stops xs ys → list_any stops xs ≡ false → xs ≡ ys
same_all stops [] [] h e = refl
same_all stops (x ∷ xs) (y ∷ ys) h e = let d = or_parts (stops x) _ e in ap₂ ◌∷◌ h.0 (same_all stops xs ys (h.1 d.0) d.1)
same_all stops [] (y ∷ ys) h e = absurd h
same_all stops (x ∷ xs) [] h e = absurd h

pub moments_up_to : (g : Setting) (m : Mode) (a : Adversary) (game : Tree) (marked : Cell → Bool) (t u : Tape) → IsLocal g.side → AgreeBut a marked t u → SameUpTo (consults g m marked) (moments_of_run g m a game t) (moments_of_run g m a game u)
moments_up_to g m a game marked t u l h = (game_together g m a game marked t u l h).moments

pub unmarked_same : (g : Setting) (m : Mode) (a : Adversary) (game : Tree) (marked : Cell → Bool) (t u : Tape) → IsLocal g.side → AgreeBut a marked t u → list_any (consults g m marked) (moments_of_run g m a game t) ≡ false → SameRun g m a game t u
unmarked_same g m a game marked t u l h e =
    let r = game_together g m a game marked t u l h in
    let q = same_all (consults g m marked) _ _ r.moments e in
    record {
      state = r.state e;
      moments = q;
      visits = sym (visits_among_moments g m a game t) ∙ ap visits_among q ∙ visits_among_moments g m a game u;
      cells = ap (λ xs. cells_of (coin_cells 0 a.coins) ++ flat_map (cells_of_moment g m) xs) q;
    }

flag_same : {A : Type 0} (stops : A → Bool) (xs ys : List A) → SameUpTo stops xs ys → list_any stops xs ≡ list_any stops ys
flag_same stops [] [] h = refl
flag_same stops (x ∷ xs) (y ∷ ys) h = go (stops x) (stops y) (ap stops h.0) (λ e. flag_same stops xs ys (h.1 e))
  where
    go : (b r : Bool) → b ≡ r → (b ≡ false → list_any stops xs ≡ list_any stops ys) → (b || list_any stops xs) ≡ (r || list_any stops ys)
    go true r q k = ap (λ z. z || list_any stops ys) q
    go false r q k = k refl ∙ ap (λ z. z || list_any stops ys) q
flag_same stops [] (y ∷ ys) h = absurd h
flag_same stops (x ∷ xs) [] h = absurd h

pub marked_same : (g : Setting) (m : Mode) (a : Adversary) (game : Tree) (marked : Cell → Bool) (t u : Tape) → IsLocal g.side → AgreeBut a marked t u → list_any (consults g m marked) (moments_of_run g m a game t) ≡ list_any (consults g m marked) (moments_of_run g m a game u)
marked_same g m a game marked t u l h = flag_same (consults g m marked) _ _ (moments_up_to g m a game marked t u l h)

test_unmarked : (m : Mode) (marked : Cell → Bool) (st : State) (w : List ℕ) → marked (Test_at w) ≡ false → list_any marked (cells_of_test m st w) ≡ false
test_unmarked Events marked st w e = refl
test_unmarked (Real one x) marked st w e = refl
test_unmarked (Random one x) marked st w e = go (one && st.tested) (is_some (st.memory.store x w))
  where
    go : (b r : Bool) → list_any marked (cond b [] (cond r (Test_at w ∷ []) [])) ≡ false
    go true r = refl
    go false false = refl
    go false true = ap (λ z. z || false) e

among_up_to : (g : Setting) (m : Mode) (marked : Cell → Bool) → ((w : List ℕ) → marked (Test_at w) ≡ false) → (xs ys : List Moment) → SameUpTo (consults g m marked) xs ys → SameUpTo (visit_consults g marked) (visits_among xs) (visits_among ys)
among_up_to g m marked f [] [] h = tt
among_up_to g m marked f (Visited v ∷ xs) (y ∷ ys) h =
    subst (λ z. SameUpTo (visit_consults g marked) (v ∷ visits_among xs) (visits_among (z ∷ ys))) h.0 (refl, λ e. among_up_to g m marked f xs ys (h.1 e))
among_up_to g m marked f (Tested w st ∷ xs) (y ∷ ys) h =
    subst (λ z. SameUpTo (visit_consults g marked) (visits_among xs) (visits_among (z ∷ ys))) h.0 (among_up_to g m marked f xs ys (h.1 (test_unmarked m marked st w (f w))))
among_up_to g m marked f [] (y ∷ ys) h = absurd h
among_up_to g m marked f (x ∷ xs) [] h = absurd h

pub visits_up_to : (g : Setting) (m : Mode) (a : Adversary) (game : Tree) (marked : Cell → Bool) (t u : Tape) → IsLocal g.side → AgreeBut a marked t u → ((w : List ℕ) → marked (Test_at w) ≡ false) → SameUpTo (visit_consults g marked) (visits_of_run g m a game t) (visits_of_run g m a game u)
visits_up_to g m a game marked t u l h f =
    subst (λ vs. SameUpTo (visit_consults g marked) vs (visits_of_run g m a game u)) (visits_among_moments g m a game t)
    (subst (λ vs. SameUpTo (visit_consults g marked) (visits_among (moments_of_run g m a game t)) vs) (visits_among_moments g m a game u)
    (among_up_to g m marked f _ _ (moments_up_to g m a game marked t u l h)))

-- marked: where the tapes differ

differs : Tape → Tape → Cell → Bool
differs t u c = not (t c == u c)

agree_unmarked : (t u : Tape) (cs : List Cell) → AgreeAt cs t u → list_any (differs t u) cs ≡ false
unfolding differs
agree_unmarked t u [] h = refl
agree_unmarked t u (c ∷ cs) h = ap₂ ◌||◌ (ap not (eq-eqb (t c) (u c) h.0)) (agree_unmarked t u cs h.1)

agree_parts : (t u : Tape) (cs ds : List Cell) → AgreeAt (cs ++ ds) t u → AgreeAt cs t u × AgreeAt ds t u
agree_parts t u [] ds h = (tt, h)
agree_parts t u (c ∷ cs) ds h = let r = agree_parts t u cs ds h.1 in ((h.0, r.0), r.1)

moments_agree : (g : Setting) (m : Mode) (t u : Tape) (xs : List Moment) → AgreeAt (flat_map (cells_of_moment g m) xs) t u → list_any (consults g m (differs t u)) xs ≡ false
moments_agree g m t u [] h = refl
moments_agree g m t u (x ∷ xs) h =
    let r = agree_parts t u (cells_of_moment g m x) (flat_map (cells_of_moment g m) xs) h in
    ap₂ ◌||◌ (agree_unmarked t u (cells_of_moment g m x) r.0) (moments_agree g m t u xs r.1)

off_differs : (t u : Tape) (c : Cell) → differs t u c ≡ false → t c ≡ u c
unfolding differs
off_differs t u c e = go (t c == u c) refl e
  where
    go : (b : Bool) → (t c == u c) ≡ b → not b ≡ false → t c ≡ u c
    go true q e = eqb-true (t c) (u c) q
    go false q e = absurd (both_ways _ e refl)

pub consulted_same : (g : Setting) (m : Mode) (a : Adversary) (game : Tree) (t u : Tape) → IsLocal g.side → AgreeAt (cells_of_run g m a game t) t u → SameRun g m a game t u
consulted_same g m a game t u l h =
    let r = agree_parts t u (cells_of (coin_cells 0 a.coins)) _ h in
    unmarked_same g m a game (differs t u) t u l (record { off = off_differs t u; coins = r.0 }) (moments_agree g m t u (moments_of_run g m a game t) r.1)
