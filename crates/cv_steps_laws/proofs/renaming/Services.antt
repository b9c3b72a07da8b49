-- Both games are served construct by construct, the first with the cells of its restrictions under the other names.
use Rattle.std.proofs.Common.{◌≡◌, ℕ, zero, suc, ◌&&◌, Bool, cond, List, [], ◌∷◌, ◌++◌, flat_map, Option, Some, None, is_some, refl, sym, ap, ap₂, subst, ◌∙◌}
use Rattle.std.proofs.lemmas.List.{map-append}
use Rattle.std.specs.List.{AllByRecursion}
use Rattle.cv_syntax_trees.specs.declared.head.Head.{Head}
use Rattle.cv_syntax_trees.specs.declared.head.Head.TheVariants.{Par, Repl, In, Out, Event, New, Let, If, Find, Branch, Leaf, Read, Name, Binder, Cons, Key, Call}
use Rattle.cv_syntax_trees.specs.Tree.{Tree, Empty, Node, first, second}
use Rattle.cv_meaning.specs.Tapes.{Tape, Test_at, New_at, Find_at, cells_of}
use Rattle.cv_meaning.specs.Side.{OracleAnswer, OracleCall, Side}
use Rattle.cv_meaning.specs.Interpretation.{Setting}
use Rattle.cv_meaning.specs.Memory.{Memory, Store, Indices, Local, Happened, put, tuple, with_value, with_event, with_answer}
use Rattle.cv_meaning.specs.Terms.{is_one, value, values}
use Rattle.cv_meaning.specs.Binders.{fits, bound_to, with_bound}
use Rattle.cv_meaning.specs.Candidates.{Candidate, below, candidates, chosen}
use Rattle.cv_meaning.specs.Inputs.{Input, inputs_of, message_binders}
use Rattle.cv_meaning.specs.Serving.{Turn, First, Second, Sent, ended, Yielded, after_find, oracle_call, step}
use Rattle.cv_meaning.specs.Runs.{Mode, Events, Real, Random, Adversary, State, told}
use Rattle.cv_meaning.specs.Cells.{coin_cells}
use Rattle.cv_meaning.specs.Experiments.{Experiment, mode_of, holds_on, visits_of_run}
use Rattle.cv_meaning_runs.specs.Agreement.{AgreeAt}
use Rattle.cv_meaning_runs.specs.Simulation.{InOrder, AreAlike, IsGameSimulation}
use Rattle.cv_meaning_runs.proofs.Simulation.{in_order_append, games_alike}
use Rattle.cv_meaning_runs.proofs.Ends.{experiments_alike, holds_alike}
use Rattle.cv_meaning_chances.specs.alignment.Points.{Point, turn_of}
use Rattle.cv_meaning_chances.specs.alignment.Alignment.{GoesOn, both_end, both_first, both_second, IsAligned, AreBegun}
use Rattle.cv_meaning_chances.proofs.alignment.Aligned.{simulates}
use Rattle.cv_steps_laws.specs.renaming.Naming.{head_with_names, with_names, indices_with_names, cell_with_name, IsNaming, KeepsTested}
use Rattle.cv_steps_laws.proofs.renaming.Values.{AgreeUnder, first_under, second_under, tuple_under, fits_under, put_under, bound_under, value_under, values_under}
use Rattle.cv_steps_laws.proofs.renaming.Candidates.{candidates_under}
use Rattle.cv_meaning_runs.proofs.Replacement.{in_order_flat}
use Rattle.cv_syntax_trees.proofs.lists.Each.{AllByRecursion_trivial}

-- memories of both runs
pub record AreLikeMemories (name : ℕ → ℕ) (m n : Memory) : Type 0 where
  pub store : AgreeUnder name m.store n.store
  pub events : m.events ≡ n.events
  pub arrays : m.arrays ≡ n.arrays

-- inputs of both games
pub record AreLikeInputs (name : ℕ → ℕ) (i j : Input) : Type 0 where
  pub channel : i.channel ≡ j.channel
  pub indices : j.indices ≡ indices_with_names name i.indices
  pub tree : j.tree ≡ with_names name i.tree

-- the second service stands at the construct of the first
record GoTogether (name : ℕ → ℕ) (p q : Point) (r s : Local) : Type 0 where
  tree : q.tree ≡ with_names name p.tree
  number : p.number ≡ q.number
  bound : p.bound ≡ q.bound
  indices : s.indices ≡ indices_with_names name r.indices
  memory : AreLikeMemories name r.memory s.memory

module _ (g : Setting) (name : ℕ → ℕ) (fine : IsNaming g name) where
  abbrev Like : Input → Input → Type 0
  Like = AreLikeInputs name

  abbrev Kept : Memory → Memory → Type 0
  Kept = AreLikeMemories name

  abbrev Go : Point → Point → Local → Local → Type 0
  Go = GoTogether name

  -- what the two processes open

  opened_alike : (b : Tree) (p q : ℕ) (at bt : Indices) → bt ≡ indices_with_names name at → InOrder Like (inputs_of g b p at) (inputs_of g (with_names name b) q bt)
  unfolding inputs_of with_names
  opened_alike Empty p q at bt e = tt
  opened_alike (Node Par a b) p q at bt e = in_order_append Like _ _ _ _ (opened_alike a _ _ at bt e) (opened_alike b _ _ at bt e)
  opened_alike (Node (Repl i n) a b) p q at bt e =
      in_order_flat Like _ _
      (λ v. opened_alike b _ _ (at ++ (i, v) ∷ []) (bt ++ (name i, v) ∷ []) (ap (λ z. z ++ (name i, v) ∷ []) e ∙ sym (map-append (λ (p : ℕ × ℕ). (name p.0, p.1)) at ((i, v) ∷ []))))
      (below (g.interpretation.parameter_value n))
  opened_alike (Node (In c) a b) p q at bt e = (record { channel = refl; indices = e; tree = refl }, tt)
  opened_alike (Node h a b) p q at bt e = tt

  module _ (t : Tape) where
    -- the tape of the first run
    abbrev u : Tape
    u c = t (cell_with_name name c)

    -- two states at the same indices
    module _ (at : Indices) (m n : Memory) (o : Kept m n) where
      abbrev bt : Indices
      bt = indices_with_names name at

      abbrev r : Local
      r = record { indices = at; memory = m }

      abbrev s : Local
      s = record { indices = bt; memory = n }

      stored : (x y : Store) → AgreeUnder name x y → Kept (record m { store = x }) (record n { store = y })
      stored x y e = record { store = e; events = o.events; arrays = o.arrays }

      put_alike : (x v w : ℕ) → v ≡ w → AgreeUnder name (put m.store x (tuple at) v) (put n.store (name x) (tuple bt) w)
      put_alike x v w e y z =
          put_under g name fine m.store n.store o.store x (tuple at) v y z ∙ ap₂ (λ c d. put n.store (name x) c d (name y) z) (sym (tuple_under name at)) e

      assigned : (x v w : ℕ) → v ≡ w → Kept (with_value r x v).memory (with_value s (name x) w).memory
      assigned x v w e = stored _ _ (put_alike x v w e)

      bound : (a bs : Tree) (vs ws : List ℕ) → bs ≡ with_names name a → vs ≡ ws → Kept (with_bound r a vs).memory (with_bound s bs ws).memory
      bound a bs vs ws f e =
          stored _ _ (λ y z. bound_under g name fine m.store n.store o.store (tuple at) a vs y z ∙ (λ i. bound_to n.store (sym (tuple_under name at) i) (sym f i) (e i) (name y) z))

      happened : (e : ℕ) (vs ws : List ℕ) → vs ≡ ws → Kept (with_event r e vs).memory (with_event s e ws).memory
      happened e vs ws f = record { store = o.store; events = λ i. o.events i ++ (let d : Happened = record { event = e; values = f i } in d) ∷ []; arrays = o.arrays }

      answered : (x : ℕ) (v w : OracleAnswer) → v ≡ w → Kept (with_answer r x v).memory (with_answer s (name x) w).memory
      answered x v w e = record {
        store = put_alike x v.value w.value (ap (λ (d : OracleAnswer). d.value) e);
        events = o.events;
        arrays = ap (λ (d : OracleAnswer). d.arrays) e;
      }

      -- nothing answers calls
      replies : (c d : OracleCall) → g.side.reply u m.arrays c ≡ g.side.reply t n.arrays d
      replies c d =
          ap (λ (z : Side). z.reply u m.arrays c) fine.side
          ∙ ap (λ z. let y : OracleAnswer = record { value = 0; arrays = z } in y) o.arrays
          ∙ ap (λ (z : Side). z.reply t n.arrays d) (sym fine.side)

      -- both services go on into the same child

      module _ (h : Head) (a b : Tree) (p q k j : ℕ) (vs ws : List ℕ) where
        abbrev GoBoth : Turn → Turn → Type 0
        GoBoth x y = GoesOn Kept Like Go (record { tree = Node h a b; place = p; number = k; bound = vs }) (record { tree = Node (head_with_names name h) (with_names name a) (with_names name b); place = q; number = j; bound = ws }) r x y s

        seconds : (k j : ℕ) (vs ws : List ℕ) → k ≡ j → vs ≡ ws → (x y : Memory) → Kept x y → GoBoth (Second k vs (record { indices = at; memory = x })) (Second j ws (record { indices = bt; memory = y }))
        seconds k j vs ws e f x y l = both_second (record { tree = refl; number = e; bound = f; indices = refl; memory = l })

        firsts : (k j : ℕ) (vs ws : List ℕ) → k ≡ j → vs ≡ ws → GoBoth (First k vs r) (First j ws s)
        firsts k j vs ws e f = both_first (record { tree = refl; number = e; bound = f; indices = refl; memory = o })

        assigns : (x v w : ℕ) → v ≡ w → GoBoth (Second 0 [] (with_value r x v)) (Second 0 [] (with_value s (name x) w))
        assigns x v w e = seconds 0 0 [] [] refl refl _ _ (assigned x v w e)

        yields : GoBoth (ended Yielded [] r) (ended Yielded [] s)
        yields = both_end (record { reply = refl; memory = o; opened = tt })

        ends : (v w : List ℕ) → v ≡ w → (x : ℕ) (is js : List Input) → InOrder Like is js → GoBoth (ended (Sent x (tuple at) v) is r) (ended (Sent x (tuple bt) w) js s)
        ends v w e x is js l = both_end (record { reply = λ i. Sent x (sym (tuple_under name at) i) (e i); memory = o; opened = l })

        chooses : (z w : Option Candidate) → z ≡ w → GoBoth (after_find r z) (after_find s w)
        chooses None None e = seconds 0 0 [] [] refl refl m n o
        chooses None (Some w) e = absurd (cc)
        chooses (Some z) None e = absurd (cc)
        chooses (Some z) (Some w) e = firsts z.branch w.branch z.tuple w.tuple (let f : z ≡ w = cc in ap (λ (c : Candidate). c.branch) f) (let f : z ≡ w = cc in ap (λ (c : Candidate). c.tuple) f)

      value_alike : (a : Tree) → value g at m.store a ≡ value g bt n.store (with_names name a)
      value_alike a = value_under g name fine at m.store n.store o.store a

      values_alike : (a : Tree) → values g at m.store a ≡ values g bt n.store (with_names name a)
      values_alike a = values_under g name fine at m.store n.store o.store a

      drawn : (x : ℕ) → u (New_at x (tuple at)) ≡ t (New_at (name x) (tuple bt))
      drawn x = ap (λ z. t (New_at (name x) z)) (sym (tuple_under name at))

      found : (l : ℕ) (a : Tree) → chosen (candidates g at m.store a) (u (Find_at l (tuple at))) ≡ chosen (candidates g bt n.store (with_names name a)) (t (Find_at l (tuple bt)))
      found l a = ap₂ (λ cs v. chosen cs v) (candidates_under g name fine at m.store n.store o.store a) (ap (λ z. t (Find_at l z)) (sym (tuple_under name at)))

      message : (a : Tree) → values g at m.store (second a) ≡ values g bt n.store (second (with_names name a))
      message a = values_alike (second a) ∙ ap (λ z. values g bt n.store z) (sym (second_under name a))

      node_goes : (h : Head) (a b : Tree) (p q k j : ℕ) (vs ws : List ℕ) → k ≡ j → vs ≡ ws → GoBoth h a b p q k j vs ws (step g u h a b p k vs r) (step g t (head_with_names name h) (with_names name a) (with_names name b) q j ws s)
      unfolding step
      node_goes (In x) a b p q k j vs ws e f = seconds (In x) a b p q k j vs ws 0 0 [] [] refl refl _ _ (bound (second a) (second (with_names name a)) vs ws (second_under name a) f)
      node_goes (New x T) a b p q k j vs ws e f = assigns (New x T) a b p q k j vs ws x _ _ (drawn x)
      node_goes (Let x T) a b p q k j vs ws e f = assigns (Let x T) a b p q k j vs ws x _ _ (value_alike a)
      node_goes (Event x) a b p q k j vs ws e f = seconds (Event x) a b p q k j vs ws 0 0 [] [] refl refl _ _ (happened x _ _ (values_alike a))
      node_goes If a b p q k j vs ws e f = seconds If a b p q k j vs ws _ _ [] [] (ap (λ v. cond (is_one v) 0 1) (value_alike a)) refl m n o
      node_goes (Find l) a b p q k j vs ws e f = chooses (Find l) a b p q k j vs ws _ _ (found l a)
      node_goes Branch a b p q k j vs ws e f = seconds Branch a b p q k j vs ws 2 2 [] [] refl refl _ _ (bound a (with_names name a) vs ws refl f)
      node_goes (Key x) a b p q k j vs ws e f = assigns (Key x) a b p q k j vs ws x 0 0 refl
      node_goes (Call x l) a b p q k j vs ws e f =
          seconds (Call x l) a b p q k j vs ws 0 0 [] [] refl refl _ _ (answered x _ _ (replies (oracle_call g r l a) (oracle_call g s l (with_names name a))))
      node_goes Cons a b p q zero zero vs ws e f = firsts Cons a b p q 0 0 vs ws 0 0 vs ws refl f
      node_goes Cons a b p q zero (suc j) vs ws e f = absurd (cc)
      node_goes Cons a b p q (suc k) zero vs ws e f = absurd (cc)
      node_goes Cons a b p q (suc k) (suc j) vs ws e f = seconds Cons a b p q (suc k) (suc j) vs ws k j vs ws (let i : k ≡ j = cc in i) f m n o
      node_goes (Out x) a b p q k j vs ws e f = ends (Out x) a b p q k j vs ws _ _ (message a) x _ _ (opened_alike b _ _ at bt refl)
      node_goes (Repl i n) a b p q k j vs ws e f = yields (Repl i n) a b p q k j vs ws
      node_goes (Name i) a b p q k j vs ws e f = yields (Name i) a b p q k j vs ws
      node_goes (Binder x T) a b p q k j vs ws e f = yields (Binder x T) a b p q k j vs ws
      node_goes (Leaf x) a b p q k j vs ws e f = yields (Leaf x) a b p q k j vs ws
      node_goes (Read x) a b p q k j vs ws e f = yields (Read x) a b p q k j vs ws
      node_goes h a b p q k j vs ws e f = yields h a b p q k j vs ws

      point_goes : (b : Tree) (p q k j : ℕ) (vs ws : List ℕ) → k ≡ j → vs ≡ ws
          → GoesOn Kept Like Go (record { tree = b; place = p; number = k; bound = vs }) (record { tree = with_names name b; place = q; number = j; bound = ws }) r (turn_of g u b p k vs r) (turn_of g t (with_names name b) q j ws s) s
      unfolding with_names
      point_goes Empty p q k j vs ws e f = both_end (record { reply = refl; memory = o; opened = tt })
      point_goes (Node h a b) p q k j vs ws e f = node_goes h a b p q k j vs ws e f

    aligned : IsAligned Kept Like Go (λ v. Unit {0}) g g u t
    aligned p q r s l w =
        subst (λ (z : Tree × Indices). GoesOn Kept Like Go p (record q { tree = z.0 }) r (turn_of g u p.tree p.place p.number p.bound r) (turn_of g t z.0 q.place q.number q.bound (record s { indices = z.1 })) (record s { indices = z.1 }))
        (λ i. (sym l.tree i, sym l.indices i))
        (point_goes r.indices r.memory s.memory l.memory p.tree p.place q.place p.number q.number p.bound q.bound l.number l.bound)

    told_alike : (m : Mode) → KeepsTested name m → (x y : State) → AreAlike Kept Like x y → (w : List ℕ) → told m u x w ≡ told m t y w
    told_alike Events e x y s w = refl
    told_alike (Real one z) e x y s w =
        ap₂ (λ (b : Bool) (v : Option ℕ). cond (one && b) None v) s.tested (s.memory.store z w ∙ ap (λ v. y.memory.store v w) e)
    told_alike (Random one z) e x y s w =
        ap₂ (λ (b : Bool) (v : Option ℕ). cond (one && b) None (cond (is_some v) (Some (t (Test_at w))) None)) s.tested (s.memory.store z w ∙ ap (λ v. y.memory.store v w) e)

    binders_under : (b : Tree) → second (first (with_names name b)) ≡ with_names name (second (first b))
    binders_under b = ap second (first_under name b) ∙ second_under name (first b)

    begun_alike : (m : Mode) → KeepsTested name m → AreBegun Kept Like Go g g m m u t
    begun_alike m e = record {
      channel = λ i j l. l.channel;
      tuple = λ i j l. sym (ap tuple l.indices ∙ tuple_under name i.indices);
      message = λ i j l vs.
          fits_under name g.interpretation.type_size (message_binders i) vs
          ∙ ap (λ b. fits g.interpretation.type_size b vs) (sym (ap (λ b. second (first b)) l.tree ∙ binders_under i.tree));
      told = told_alike m e;
      served = λ x y k i j l vs f. record { tree = l.tree; number = refl; bound = refl; indices = l.indices; memory = k };
    }

    coins_alike : (k : ℕ) (ns : List ℕ) → AgreeAt (cells_of (coin_cells k ns)) u t
    coins_alike k [] = tt
    coins_alike k (n ∷ ns) = (refl, coins_alike (suc k) ns)

    games : (a : Adversary) (m : Mode) (game : Tree) → KeepsTested name m → IsGameSimulation Kept Like (λ v. Unit {0}) a g g m m game (with_names name game) u t
    games a m game e = record {
      steps = simulates Kept Like Go (λ v. Unit {0}) g g u t aligned m m (begun_alike m e);
      memory = record { store = λ x w. refl; events = refl; arrays = refl };
      begun = opened_alike game 0 0 [] [] refl;
      visited = AllByRecursion_trivial (visits_of_run g m a game u);
      coins = coins_alike 0 a.coins;
    }

    pub holds_under : (x : Experiment) (a : Adversary) (game : Tree) → KeepsTested name (mode_of x) → holds_on g x a game (λ c. t (cell_with_name name c)) ≡ holds_on g x a (with_names name game) t
    holds_under x a game e =
        holds_alike Kept Like g g x x a game (with_names name game) u t (experiments_alike Kept Like (λ r s l. l.events) g g.side x)
        (games_alike Kept Like (λ v. Unit {0}) a g g (mode_of x) (mode_of x) game (with_names name game) u t (games a (mode_of x) game e))
