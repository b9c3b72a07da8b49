-- Two services from points that are alike.
use Rattle.std.proofs.Common.{◌≡◌, ℕ, zero, suc, ◌+◌, ◌≤◌, List, [], refl, sym, ap, subst, ◌∙◌, arith}
use Rattle.std.specs.List.{AllByRecursion}
use Rattle.cv_syntax_trees.specs.Tree.{Tree, Empty, Node}
use Rattle.cv_meaning.specs.Tapes.{Tape}
use Rattle.cv_meaning.specs.Interpretation.{Setting}
use Rattle.cv_meaning.specs.Memory.{Memory, Local}
use Rattle.cv_meaning.specs.Inputs.{Input}
use Rattle.cv_meaning.specs.Serving.{Served, Turn, First, Second, after_turn, serve, Visit, visits}
use Rattle.cv_meaning.specs.Runs.{Mode}
use Rattle.cv_meaning_runs.specs.Simulation.{AreServedAlike, IsSimulation}
use Rattle.cv_meaning_chances.specs.alignment.Points.{Point, into_first, into_second, turn_at, serve_at, visits_at}
use Rattle.cv_meaning_chances.specs.alignment.Alignment.{GoesOn, both_end, both_first, both_second, left_first, left_second, right_first, right_second, IsAligned, AreBegun}

-- how many nodes a tree has
nodes : Tree → ℕ
nodes Empty = 0
nodes (Node h a b) = suc (nodes a + nodes b)

abbrev left_of : Point → ℕ
left_of p = nodes p.tree

-- a service is that of its turn
serve_turn : (g : Setting) (t : Tape) (b : Tree) (p k : ℕ) (vs : List ℕ) (s : Local) → serve_at g t (record { tree = b; place = p; number = k; bound = vs }) s ≡ after_turn (λ r. r) (λ j ws n. serve_at g t (into_first (record { tree = b; place = p; number = k; bound = vs }) j ws) n) (λ j ws n. serve_at g t (into_second (record { tree = b; place = p; number = k; bound = vs }) j ws) n) (turn_at g t (record { tree = b; place = p; number = k; bound = vs }) s)
unfolding serve
serve_turn g t Empty p k vs s = refl
serve_turn g t (Node h a b) p k vs s = refl

-- the visits behind the first one
later : (V : Visit → Type 0) (g : Setting) (t : Tape) (b : Tree) (p k : ℕ) (vs : List ℕ) (s : Local) → AllByRecursion V (visits_at g t (record { tree = b; place = p; number = k; bound = vs }) s)
    → AllByRecursion V (after_turn (λ r. []) (λ j ws n. visits_at g t (into_first (record { tree = b; place = p; number = k; bound = vs }) j ws) n) (λ j ws n. visits_at g t (into_second (record { tree = b; place = p; number = k; bound = vs }) j ws) n) (turn_at g t (record { tree = b; place = p; number = k; bound = vs }) s))
unfolding visits
later V g t Empty p k vs s e = tt
later V g t (Node h a b) p k vs s e = e.1

below_left : (m n : ℕ) → suc m ≤ suc (m + n)
below_left m n = omega arith

below_right : (m n : ℕ) → suc n ≤ suc (m + n)
below_right m n = omega arith

-- a turn that goes on comes from a node, whose children are smaller
first_smaller : (g : Setting) (t : Tape) (b : Tree) (p k j : ℕ) (vs ws : List ℕ) (s n : Local) → turn_at g t (record { tree = b; place = p; number = k; bound = vs }) s ≡ First j ws n → suc (left_of (into_first (record { tree = b; place = p; number = k; bound = vs }) j ws)) ≤ nodes b
unfolding nodes
first_smaller g t Empty p k j vs ws s n e = absurd (cc)
first_smaller g t (Node x a b) p k j vs ws s n e = below_left (nodes a) (nodes b)

second_smaller : (g : Setting) (t : Tape) (b : Tree) (p k j : ℕ) (vs ws : List ℕ) (s n : Local) → turn_at g t (record { tree = b; place = p; number = k; bound = vs }) s ≡ Second j ws n → suc (left_of (into_second (record { tree = b; place = p; number = k; bound = vs }) j ws)) ≤ nodes b
unfolding nodes
second_smaller g t Empty p k j vs ws s n e = absurd (cc)
second_smaller g t (Node x a b) p k j vs ws s n e = below_right (nodes a) (nodes b)

module _ (K : Memory → Memory → Type 0) (L : Input → Input → Type 0) (A : Point → Point → Local → Local → Type 0) (V : Visit → Type 0) (g h : Setting) (t u : Tape) (fine : IsAligned K L A V g h t u) where
  abbrev served : Setting → Tape → Point → Turn → Served
  served f v p x = after_turn (λ r. r) (λ j ws n. serve_at f v (into_first p j ws) n) (λ j ws n. serve_at f v (into_second p j ws) n) x

  abbrev ahead : Point → Turn → List Visit
  ahead p x = after_turn (λ r. []) (λ j ws n. visits_at g t (into_first p j ws) n) (λ j ws n. visits_at g t (into_second p j ws) n) x

  abbrev Smaller : ℕ → Type 0
  Smaller n = (p q : Point) (r s : Local) → suc (left_of p + left_of q) ≤ n → A p q r s → AllByRecursion V (visits_at g t p r) → AreServedAlike K L (serve_at g t p r) (serve_at h u q s)

  -- the same, of the turns that both services take
  turned : (n : ℕ) → Smaller n → (p q : Point) (r s : Local) → left_of p + left_of q ≤ n → (x y : Turn) → turn_at g t p r ≡ x → turn_at h u q s ≡ y → AllByRecursion V (visits_at g t p r) → AllByRecursion V (ahead p x) → GoesOn K L A p q r x y s → AreServedAlike K L (served g t p x) (served h u q y)
  turned n ih p q r s le x y e f v w (both_end z) = z
  turned n ih p q r s le x y e f v w (both_first {k = k} {j = j} {vs = vs} {ws = ws} {n = m} {m = l} a) =
      let c = first_smaller g t p.tree p.place p.number k p.bound vs r m e in
      let d = first_smaller h u q.tree q.place q.number j q.bound ws s l f in
      ih _ _ _ _ (omega arith) a w
  turned n ih p q r s le x y e f v w (both_second {k = k} {j = j} {vs = vs} {ws = ws} {n = m} {m = l} a) =
      let c = second_smaller g t p.tree p.place p.number k p.bound vs r m e in
      let d = second_smaller h u q.tree q.place q.number j q.bound ws s l f in
      ih _ _ _ _ (omega arith) a w
  turned n ih p q r s le x y e f v w (left_first {k = k} {vs = vs} {n = m} a) =
      let c = first_smaller g t p.tree p.place p.number k p.bound vs r m e in
      subst (λ z. AreServedAlike K L (serve_at g t (into_first p k vs) m) z) (serve_turn h u q.tree q.place q.number q.bound s ∙ ap (served h u q) f) (ih _ _ _ _ (omega arith) a w)
  turned n ih p q r s le x y e f v w (left_second {k = k} {vs = vs} {n = m} a) =
      let c = second_smaller g t p.tree p.place p.number k p.bound vs r m e in
      subst (λ z. AreServedAlike K L (serve_at g t (into_second p k vs) m) z) (serve_turn h u q.tree q.place q.number q.bound s ∙ ap (served h u q) f) (ih _ _ _ _ (omega arith) a w)
  turned n ih p q r s le x y e f v w (right_first {j = j} {ws = ws} {m = l} a) =
      let d = first_smaller h u q.tree q.place q.number j q.bound ws s l f in
      subst (λ z. AreServedAlike K L z (serve_at h u (into_first q j ws) l)) (serve_turn g t p.tree p.place p.number p.bound r ∙ ap (served g t p) e) (ih _ _ _ _ (omega arith) a v)
  turned n ih p q r s le x y e f v w (right_second {j = j} {ws = ws} {m = l} a) =
      let d = second_smaller h u q.tree q.place q.number j q.bound ws s l f in
      subst (λ z. AreServedAlike K L z (serve_at h u (into_second q j ws) l)) (serve_turn g t p.tree p.place p.number p.bound r ∙ ap (served g t p) e) (ih _ _ _ _ (omega arith) a v)

  services_below : (n : ℕ) → Smaller n
  services_below zero p q r s le a w = absurd (omega arith)
  services_below (suc n) p q r s le a w =
      subst (λ z. AreServedAlike K L z (serve_at h u q s)) (sym (serve_turn g t p.tree p.place p.number p.bound r))
      (subst (λ z. AreServedAlike K L (served g t p (turn_at g t p r)) z) (sym (serve_turn h u q.tree q.place q.number q.bound s))
      (turned n (services_below n) p q r s (omega arith) (turn_at g t p r) (turn_at h u q s) refl refl w (later V g t p.tree p.place p.number p.bound r w) (fine p q r s a w)))

  pub services : (p q : Point) (r s : Local) → A p q r s → AllByRecursion V (visits_at g t p r) → AreServedAlike K L (serve_at g t p r) (serve_at h u q s)
  services p q r s a w = services_below (suc (left_of p + left_of q)) p q r s (omega arith) a w

  pub simulates : (m n : Mode) → AreBegun K L A g h m n t u → IsSimulation K L V g h m n t u
  simulates m n b = record {
    channel = b.channel;
    tuple = b.tuple;
    message = b.message;
    told = b.told;
    served = λ x y s i j l vs f w. services _ _ _ _ (b.served x y s.memory i j l vs f) w;
  }
