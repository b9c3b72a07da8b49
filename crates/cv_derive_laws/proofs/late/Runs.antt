-- In a run, no variable is assigned at a visit that comes later than a place in the visited construct: a fact of each available input and
-- of the cells that are assigned.
use Rattle.std.proofs.Common.{◌≡◌, ℕ, zero, suc, ◌+◌, ◌≤◌, ◌<◌, Bool, true, false, cond, List, [], ◌∷◌, ◌++◌, ◌⊎◌, inl, inr, Option, Some, None, refl, sym, ap, subst, ◌∙◌, append_assoc, append-nil, arith, flat_map}
use Rattle.std.proofs.lemmas.Bool.{both_ways}
use Rattle.std.specs.List.{AllByRecursion}
use Rattle.cv_syntax_trees.specs.declared.head.Head.{Head}
use Rattle.cv_syntax_trees.specs.declared.head.Head.TheVariants.{Par, Repl, In, Find, Cons}
use Rattle.cv_syntax_trees.specs.Head.{weight}
use Rattle.cv_syntax_trees.specs.Tree.{Tree, Empty, Node, first, second, first_place, second_place, size}
use Rattle.cv_syntax.specs.Layouts.{IsSyntax}
use Rattle.cv_meaning.specs.Tapes.{Tape, Find_at}
use Rattle.cv_meaning.specs.Interpretation.{Setting}
use Rattle.cv_meaning.specs.Memory.{Indices, Local, Store, tuple}
use Rattle.cv_meaning.specs.Candidates.{Candidate, below, candidates, chosen}
use Rattle.cv_meaning.specs.Inputs.{Input, inputs_of}
use Rattle.cv_meaning.specs.Serving.{Served, Turn, Ends, First, Second, after_find, step, serve, after_turn, Visit, visits}
use Rattle.cv_meaning.specs.Terms.{is_one, value_here}
use Rattle.cv_meaning.specs.Runs.{Mode, Answer, Move, Calls, Tests, Guesses, State, Taken, admitted, called, told, tested_with, moved, start, begun, next_move, by_move, visits_of_call, visits_of_move, run_visits}
use Rattle.cv_meaning_laws.proofs.Moves.{TakenEach, taken_each}
use Rattle.cv_meaning_laws.proofs.Listed.{tuple_push}
use Rattle.cv_meaning_runs.proofs.Spots.{admitted_taken}
use Rattle.cv_scope_rules.specs.Branches.{Pairs}
use Rattle.cv_scope_rules.proofs.Pairs.{pairs_append}
use Rattle.cv_scope_rules.specs.Made.{made_by}
use Rattle.cv_scope_rules.specs.Phrases.{Phrase, Nil, Inputs, Body, Then, Else, Branches, Guards, Guarded, is_oracle_phrase}
use Rattle.cv_scope_rules.specs.Sites.{Variable}
use Rattle.cv_scope_runs.proofs.FreshRuns.{bound_made, put_made}
use Rattle.cv_scope_runs.proofs.Games.{has_parts, phrase_parts}
use Rattle.cv_scope_runs.proofs.Rows.{Row, row, walks}
use Rattle.cv_scope_runs.proofs.Rows
use Rattle.cv_scope_runs.proofs.Taking.{TakenPairs, taken_pairs}
use Rattle.cv_syntax_trees.proofs.lists.Each.{AllByRecursion_append, AllByRecursion_weaker, AllByRecursion_both, AllByRecursion_cross}
use Rattle.cv_scene.specs.Late.{is_free_beside, is_late}
use Rattle.cv_derive_laws.proofs.late.Looking.{Deep, Defines, behind_late, beside_free, defines_first, defines_here, defines_second, made_above, within_late}

same_next : (u : List ℕ) (a b : ℕ) (v w : List ℕ) → u ++ a ∷ v ≡ u ++ b ∷ w → a ≡ b
same_next [] a b v w e = cc
same_next (x ∷ u) a b v w e = same_next u a b v w (let q : u ++ a ∷ v ≡ u ++ b ∷ w = cc in q)

flat_push : (f : ℕ → List Input) (ns : List ℕ) (n : ℕ) → flat_map f (ns ++ n ∷ []) ≡ flat_map f ns ++ f n
flat_push f [] n = append-nil (f n)
flat_push f (m ∷ ns) n = ap (λ is. f m ++ is) (flat_push f ns n) ∙ sym (append_assoc (f m) (flat_map f ns) (f n))

-- the numbers with which a service comes to a list
abbrev Numbered : Phrase → ℕ → Type 0
Numbered Then k = k < 2
Numbered Else k = k ≡ 0
Numbered Guards k = k ≡ 2
Numbered Guarded k = k ≡ 1
Numbered σ k = Unit {0}

module _ (x place : ℕ) where
  -- a tree that stands at p has the place, and a service may come to it
  pub record Has (σ : Phrase) (p : ℕ) (b : Tree) : Type 0 where
    pub rest : ℕ
    pub same : p + rest ≡ place
    pub less : rest < size b
    pub deep : Deep σ b rest

  abbrev pub IsLate : Phrase → ℕ → Tree → Type 0
  IsLate σ p b = (h : Has σ p b) → is_late x b h.rest ≡ true

  -- on the way down

  deep_second : (σ τ ρ : Phrase) (h : Head) → Row σ h τ ρ → (a b : Tree) (r : ℕ) → Deep ρ b r → Deep σ (Node h a b) (weight h + size a + r)
  deep_second _ _ _ _ Rows.Row.guards a b r d =
      let z : size (first b) ≤ r = d in
      let e : size a + size (first b) ≤ weight Cons + size a + r = omega arith in
      e
  deep_second _ _ _ _ Rows.Row.guarded a b r d = let e : size a ≤ weight Cons + size a + r = omega arith in e
  deep_second _ _ _ _ Rows.Row.stop a b r d = tt
  deep_second _ _ _ _ Rows.Row.par a b r d = tt
  deep_second _ _ _ _ Rows.Row.repl a b r d = tt
  deep_second _ _ _ _ Rows.Row.input a b r d = tt
  deep_second _ _ _ _ Rows.Row.yield a b r d = tt
  deep_second _ _ _ _ Rows.Row.output a b r d = tt
  deep_second _ _ _ _ Rows.Row.restriction a b r d = tt
  deep_second _ _ _ _ Rows.Row.definition a b r d = tt
  deep_second _ _ _ _ Rows.Row.key a b r d = tt
  deep_second _ _ _ _ Rows.Row.call a b r d = tt
  deep_second _ _ _ _ Rows.Row.event a b r d = tt
  deep_second _ _ _ _ Rows.Row.test a b r d = tt
  deep_second _ _ _ _ Rows.Row.bodies a b r d = tt
  deep_second _ _ _ _ Rows.Row.last_body a b r d = tt
  deep_second _ _ _ _ Rows.Row.find a b r d = tt
  deep_second _ _ _ _ Rows.Row.branches a b r d = tt
  deep_second _ _ _ _ Rows.Row.branch a b r d = tt

  deep_first : (σ τ ρ : Phrase) (h : Head) → Row σ h τ ρ → walks τ ≡ true → (a b : Tree) (r : ℕ) → Deep σ (Node h a b) r
  deep_first _ _ _ _ Rows.Row.guards w a b r = absurd (both_ways _ refl w)
  deep_first _ _ _ _ Rows.Row.guarded w a b r = absurd (both_ways _ refl w)
  deep_first _ _ _ _ Rows.Row.stop w a b r = tt
  deep_first _ _ _ _ Rows.Row.par w a b r = tt
  deep_first _ _ _ _ Rows.Row.repl w a b r = tt
  deep_first _ _ _ _ Rows.Row.input w a b r = tt
  deep_first _ _ _ _ Rows.Row.yield w a b r = tt
  deep_first _ _ _ _ Rows.Row.output w a b r = tt
  deep_first _ _ _ _ Rows.Row.restriction w a b r = tt
  deep_first _ _ _ _ Rows.Row.definition w a b r = tt
  deep_first _ _ _ _ Rows.Row.key w a b r = tt
  deep_first _ _ _ _ Rows.Row.call w a b r = tt
  deep_first _ _ _ _ Rows.Row.event w a b r = tt
  deep_first _ _ _ _ Rows.Row.test w a b r = tt
  deep_first _ _ _ _ Rows.Row.bodies w a b r = tt
  deep_first _ _ _ _ Rows.Row.last_body w a b r = tt
  deep_first _ _ _ _ Rows.Row.find w a b r = tt
  deep_first _ _ _ _ Rows.Row.branches w a b r = tt
  deep_first _ _ _ _ Rows.Row.branch w a b r = tt

  -- a syntax node has places of its own
  deep_here : (σ τ ρ : Phrase) (h : Head) → Row σ h τ ρ → weight h ≡ 1 → (a b : Tree) (r : ℕ) → Deep σ (Node h a b) r
  deep_here _ _ _ _ Rows.Row.guards w a b r = absurd (let z : ◌≡◌ {A = ℕ} 0 1 = w in omega arith)
  deep_here _ _ _ _ Rows.Row.guarded w a b r = absurd (let z : ◌≡◌ {A = ℕ} 0 1 = w in omega arith)
  deep_here _ _ _ _ Rows.Row.stop w a b r = tt
  deep_here _ _ _ _ Rows.Row.par w a b r = tt
  deep_here _ _ _ _ Rows.Row.repl w a b r = tt
  deep_here _ _ _ _ Rows.Row.input w a b r = tt
  deep_here _ _ _ _ Rows.Row.yield w a b r = tt
  deep_here _ _ _ _ Rows.Row.output w a b r = tt
  deep_here _ _ _ _ Rows.Row.restriction w a b r = tt
  deep_here _ _ _ _ Rows.Row.definition w a b r = tt
  deep_here _ _ _ _ Rows.Row.key w a b r = tt
  deep_here _ _ _ _ Rows.Row.call w a b r = tt
  deep_here _ _ _ _ Rows.Row.event w a b r = tt
  deep_here _ _ _ _ Rows.Row.test w a b r = tt
  deep_here _ _ _ _ Rows.Row.bodies w a b r = tt
  deep_here _ _ _ _ Rows.Row.last_body w a b r = tt
  deep_here _ _ _ _ Rows.Row.find w a b r = tt
  deep_here _ _ _ _ Rows.Row.branches w a b r = tt
  deep_here _ _ _ _ Rows.Row.branch w a b r = tt

  module _ (σ τ ρ : Phrase) (h : Head) (is : Row σ h τ ρ) (p : ℕ) (a b : Tree) where
    first_same : (r : ℕ) → first_place p h + r ≡ place → p + (weight h + r) ≡ place
    first_same r e = let i : p + weight h + r ≡ place = e in omega arith

    first_less : (r : ℕ) → r < size a → weight h + r < size (Node h a b)
    unfolding size
    first_less r l = omega arith

    second_same : (r : ℕ) → second_place p h a + r ≡ place → p + (weight h + size a + r) ≡ place
    second_same r e = let i : p + weight h + size a + r ≡ place = e in omega arith

    second_less : (r : ℕ) → r < size b → weight h + size a + r < size (Node h a b)
    unfolding size
    second_less r l = omega arith

    abbrev has_first : walks τ ≡ true → Has τ (first_place p h) a → Has σ p (Node h a b)
    has_first w k = record { rest = weight h + k.rest; same = first_same k.rest k.same; less = first_less k.rest k.less; deep = deep_first σ τ ρ h is w a b (weight h + k.rest) }

    abbrev has_second : Has ρ (second_place p h a) b → Has σ p (Node h a b)
    has_second k = record { rest = weight h + size a + k.rest; same = second_same k.rest k.same; less = second_less k.rest k.less; deep = deep_second σ τ ρ h is a b k.rest k.deep }

    late_first : walks τ ≡ true → IsLate σ p (Node h a b) → IsLate τ (first_place p h) a
    late_first w l k = (within_late x h a b k.rest k.less (l (has_first w k))).1

    late_second : IsLate σ p (Node h a b) → IsLate ρ (second_place p h a) b
    late_second l k = (behind_late x h a b k.rest (l (has_second k))).late

    made_apart : IsLate σ p (Node h a b) → Has ρ (second_place p h a) b → made_by h a (Variable x) ≡ true → ⊥
    made_apart l k e = both_ways _ (behind_late x h a b k.rest (l (has_second k))).above (made_above x σ τ ρ h is a b k.rest k.deep e)

    free_first : walks τ ≡ true → IsLate σ p (Node h a b) → Has τ (first_place p h) a → is_free_beside x h b ≡ true
    free_first w l k = (within_late x h a b k.rest k.less (l (has_first w k))).0

    free_second : IsLate σ p (Node h a b) → Has ρ (second_place p h a) b → is_free_beside x h a ≡ true
    free_second l k = (behind_late x h a b k.rest (l (has_second k))).beside

  -- available inputs

  abbrev pub InputHas : Input → Type 0
  InputHas i = Has Inputs i.place i.tree

  abbrev pub InputDefines : Input → Type 0
  InputDefines i = Defines x i.tree

  abbrev pub InputGood : Input → Type 0
  InputGood i = (is_oracle_phrase Inputs i.tree ≡ true) × IsLate Inputs i.place i.tree

  -- one defines the variable, and the other has the place
  abbrev pub Parted : Input → Input → Type 0
  Parted i j = InputDefines i → InputHas j → (v w : List ℕ) → tuple i.indices ++ v ≡ tuple j.indices ++ w → ⊥

  abbrev pub InputsApart : Input → Input → Type 0
  InputsApart i j = Parted i j × Parted j i

  inputs_sym : (i j : Input) → InputsApart i j → InputsApart j i
  inputs_sym i j h = (h.1, h.0)

  -- the variable is assigned at no tuple at which the input may still come to the place
  abbrev pub Ahead : Store → Input → Type 0
  Ahead m j = (u : List ℕ) (z : ℕ) → m x u ≡ Some z → InputHas j → (v w : List ℕ) → u ++ v ≡ tuple j.indices ++ w → ⊥

  -- of a part of the tree, at this tuple or a longer one
  abbrev pub Below : Phrase → ℕ → Tree → List ℕ → Input → Type 0
  Below σ p b u i = (InputDefines i → Defines x b) × (InputHas i → Has σ p b) × (w : List ℕ) × (tuple i.indices ≡ u ++ w)

  pub record Opens (σ : Phrase) (p : ℕ) (b : Tree) (u : List ℕ) (is : List Input) : Type 0 where
    pub good : AllByRecursion InputGood is
    pub below : AllByRecursion (Below σ p b u) is
    pub apart : Pairs InputsApart is

  opens_none : (σ : Phrase) (p : ℕ) (b : Tree) (u : List ℕ) → Opens σ p b u []
  opens_none σ p b u = record { good = tt; below = tt; apart = tt }

  opens_more : (σ τ : Phrase) (p q : ℕ) (b d : Tree) (u : List ℕ) (is : List Input) → (Defines x b → Defines x d) → (Has σ p b → Has τ q d) → Opens σ p b u is → Opens τ q d u is
  opens_more σ τ p q b d u is f h o = record {
    good = o.good;
    below = AllByRecursion_weaker (Below σ p b u) (Below τ q d u) (λ i k. (λ e. f (k.0 e), λ e. h (k.1 e), k.2, k.3)) is o.below;
    apart = o.apart;
  }

  -- the copies of a replicated tree
  abbrev Copy : ℕ → Tree → List ℕ → ℕ → Input → Type 0
  Copy p b u n i = (InputDefines i → Defines x b) × (InputHas i → Has Inputs p b) × (v : ℕ) × (w : List ℕ) × (v < n) × (tuple i.indices ≡ u ++ v ∷ w)

  record Copies (p : ℕ) (b : Tree) (u : List ℕ) (n : ℕ) (is : List Input) : Type 0 where
    good : AllByRecursion InputGood is
    copy : AllByRecursion (Copy p b u n) is
    apart : Pairs InputsApart is

  copies_more : (p : ℕ) (b : Tree) (u : List ℕ) (f : ℕ → List Input) (n : ℕ) → Opens Inputs p b (u ++ n ∷ []) (f n) → Copies p b u n (flat_map f (below n)) → Copies p b u (suc n) (flat_map f (below n) ++ f n)
  copies_more p b u f n h c = record {
    good = AllByRecursion_append InputGood _ _ c.good h.good;
    copy = AllByRecursion_append (Copy p b u (suc n)) _ _ (AllByRecursion_weaker (Copy p b u n) (Copy p b u (suc n)) wider _ c.copy) (AllByRecursion_weaker Last (Copy p b u (suc n)) last _ lasts);
    apart = pairs_append InputsApart _ _ c.apart h.apart (AllByRecursion_cross (Copy p b u n) Last InputsApart (λ i j k l. (λ d e v w q. differ i j k l v w q, λ d e v w q. differ i j k l w v (sym q))) _ _ c.copy lasts);
  }
    where
      Last : Input → Type 0
      Last i = (InputDefines i → Defines x b) × (InputHas i → Has Inputs p b) × (w : List ℕ) × (tuple i.indices ≡ u ++ n ∷ w)

      lasts : AllByRecursion Last (f n)
      lasts = AllByRecursion_weaker (Below Inputs p b (u ++ n ∷ [])) Last (λ i k. (k.0, k.1, k.2, k.3 ∙ append_assoc u (n ∷ []) k.2)) (f n) h.below

      wider : (i : Input) → Copy p b u n i → Copy p b u (suc n) i
      wider i k = (k.0, k.1, k.2, k.3, (let l = k.4 in omega arith), k.5)

      last : (i : Input) → Last i → Copy p b u (suc n) i
      last i k = (k.0, k.1, n, k.2, omega arith, k.3)

      differ : (i j : Input) → Copy p b u n i → Last j → (v w : List ℕ) → tuple i.indices ++ v ≡ tuple j.indices ++ w → ⊥
      differ i j k z v w q =
          let e : k.2 ≡ n = same_next u k.2 n (k.3 ++ v) (z.2 ++ w) (sym (append_assoc u (k.2 ∷ k.3) v) ∙ ap (λ us. us ++ v) (sym k.5) ∙ q ∙ ap (λ us. us ++ w) z.3 ∙ append_assoc u (n ∷ z.2) w) in
          let l = k.4 in omega arith

  copies : (p : ℕ) (b : Tree) (u : List ℕ) (f : ℕ → List Input) → ((v : ℕ) → Opens Inputs p b (u ++ v ∷ []) (f v)) → (n : ℕ) → Copies p b u n (flat_map f (below n))
  copies p b u f h zero = record { good = tt; copy = tt; apart = tt }
  copies p b u f h (suc n) = subst (Copies p b u (suc n)) (sym (flat_push f (below n) n)) (copies_more p b u f n (h n) (copies p b u f h n))

  copies_open : (p : ℕ) (b : Tree) (u : List ℕ) (n : ℕ) (is : List Input) → Copies p b u n is → Opens Inputs p b u is
  copies_open p b u n is c = record { good = c.good; below = AllByRecursion_weaker (Copy p b u n) (Below Inputs p b u) (λ i k. (k.0, k.1, k.2 ∷ k.3, k.5)) is c.copy; apart = c.apart }

  inputs_open : (g : Setting) (b : Tree) (p : ℕ) (at : Indices) → is_oracle_phrase Inputs b ≡ true → IsLate Inputs p b → Opens Inputs p b (tuple at) (inputs_of g b p at)
  unfolding inputs_of
  inputs_open g Empty p at f l = opens_none Inputs p Empty (tuple at)
  inputs_open g (Node Par a b) p at f l =
      let q = phrase_parts Inputs Inputs Inputs Par a b refl f in
      let i = inputs_open g a (first_place p Par) at q.0 (late_first Inputs Inputs Inputs Par Rows.Row.par p a b refl l) in
      let j = inputs_open g b (second_place p Par a) at q.1 (late_second Inputs Inputs Inputs Par Rows.Row.par p a b l) in
      let o = opens_more Inputs Inputs (first_place p Par) p a (Node Par a b) (tuple at) _ (defines_first x Par a b) (has_first Inputs Inputs Inputs Par Rows.Row.par p a b refl) i in
      let k = opens_more Inputs Inputs (second_place p Par a) p b (Node Par a b) (tuple at) _ (defines_second x Par a b) (has_second Inputs Inputs Inputs Par Rows.Row.par p a b) j in
      record {
        good = AllByRecursion_append InputGood _ _ o.good k.good;
        below = AllByRecursion_append (Below Inputs p (Node Par a b) (tuple at)) _ _ o.below k.below;
        apart = pairs_append InputsApart _ _ o.apart k.apart
            (AllByRecursion_cross (Below Inputs (first_place p Par) a (tuple at)) (Below Inputs (second_place p Par a) b (tuple at)) InputsApart
            (λ c d y z. (
              λ e h v w r. beside_free x a (free_second Inputs Inputs Inputs Par Rows.Row.par p a b l (z.1 h)) (y.0 e),
              λ e h v w r. beside_free x b (free_first Inputs Inputs Inputs Par Rows.Row.par p a b refl l (y.1 h)) (z.0 e),
            )) _ _ i.below j.below);
      }
  inputs_open g (Node (Repl i n) a b) p at f l =
      let q : ℕ = second_place p (Repl i n) a in
      let w = phrase_parts Inputs Nil Inputs (Repl i n) a b refl f in
      let z = late_second Inputs Nil Inputs (Repl i n) Rows.Row.repl p a b l in
      opens_more Inputs Inputs q p b (Node (Repl i n) a b) (tuple at) _ (defines_second x (Repl i n) a b) (has_second Inputs Nil Inputs (Repl i n) Rows.Row.repl p a b)
      (copies_open q b (tuple at) (g.interpretation.parameter_value n) _
      (copies q b (tuple at) (λ v. inputs_of g b q (at ++ (i, v) ∷ []))
      (λ v. subst (λ u. Opens Inputs q b u (inputs_of g b q (at ++ (i, v) ∷ []))) (tuple_push at i v) (inputs_open g b q (at ++ (i, v) ∷ []) w.1 z)) (g.interpretation.parameter_value n)))
  inputs_open g (Node (In c) a b) p at f l = record { good = ((f, l), tt); below = ((λ e. e, λ e. e, [], sym (append-nil (tuple at))), tt); apart = (tt, tt) }
  inputs_open g (Node h a b) p at f l = opens_none Inputs p (Node h a b) (tuple at)

  -- services

  -- where the visited construct has the place, the variable comes later in it, and is assigned at no part of the copy before the visit
  abbrev pub VisitLate : Visit → Type 0
  VisitLate v =
      IsSyntax v.tree → (r : ℕ) → v.place + r ≡ place → r < size v.tree
      → (is_late x v.tree r ≡ true) × ((u : List ℕ) (z : ℕ) → v.before.memory.store x u ≡ Some z → (k w : List ℕ) → u ++ k ≡ tuple v.before.indices ++ w → ⊥)

  abbrev Unreached : Store → Phrase → ℕ → Tree → List ℕ → Type 0
  Unreached m σ p b t = Has σ p b → (u : List ℕ) (z : ℕ) → m x u ≡ Some z → (v w : List ℕ) → u ++ v ≡ t ++ w → ⊥

  -- what a tree assigns of the variable, it assigns at this tuple
  abbrev Grown : Tree → List ℕ → (m n : Store) → Type 0
  Grown b t m n = (u : List ℕ) (z : ℕ) → n x u ≡ Some z → (m x u ≡ Some z) ⊎ (Defines x b × (u ≡ t))

  record Serving (σ : Phrase) (p : ℕ) (b : Tree) (s : Local) (r : Served) (vs : List Visit) : Type 0 where
    visits : AllByRecursion VisitLate vs
    opens : Opens σ p b (tuple s.indices) r.opened
    ahead : AllByRecursion (Ahead r.last.memory.store) r.opened
    grown : Grown b (tuple s.indices) s.memory.store r.last.memory.store

  abbrev Stored : Head → Tree → Local → Local → Type 0
  Stored h a s n = (u : List ℕ) (z : ℕ) → n.memory.store x u ≡ Some z → (s.memory.store x u ≡ Some z) ⊎ ((made_by h a (Variable x) ≡ true) × (u ≡ tuple s.indices))

  -- how the service of a node goes on
  turn_fine : (τ ρ : Phrase) → ℕ → Head → Tree → Tree → Local → Turn → Type 0
  turn_fine τ ρ p h a b s (Ends r) = (r.last ≡ s) × Opens ρ (second_place p h a) b (tuple s.indices) r.opened
  turn_fine τ ρ p h a b s (First k vs n) = (n ≡ s) × (walks τ ≡ true) × Numbered τ k
  turn_fine τ ρ p h a b s (Second k vs n) = (tuple n.indices ≡ tuple s.indices) × Stored h a s n × (walks ρ ≡ true) × Numbered ρ k

  below_two : (b : Bool) → cond b 0 1 < 2
  below_two true = omega arith
  below_two false = omega arith

  step_fine : (g : Setting) (t : Tape) (σ τ ρ : Phrase) (h : Head) → Row σ h τ ρ → (a b : Tree) (p k : ℕ) (vs : List ℕ) (s : Local) → Numbered σ k → is_oracle_phrase ρ b ≡ true → IsLate ρ (second_place p h a) b → turn_fine τ ρ p h a b s (step g t h a b p k vs s)
  unfolding step turn_fine
  step_fine g t _ _ _ _ Rows.Row.stop a b p k vs s n f l = (refl, opens_none Nil _ b (tuple s.indices))
  step_fine g t _ _ _ _ Rows.Row.par a b p k vs s n f l = (refl, opens_none Inputs _ b (tuple s.indices))
  step_fine g t _ _ _ _ Rows.Row.repl a b p k vs s n f l = (refl, opens_none Inputs _ b (tuple s.indices))
  step_fine g t _ _ _ _ Rows.Row.input a b p k vs s n f l = (refl, λ u z e. bound_made s.memory.store (tuple s.indices) (second a) vs x u z e, refl, tt)
  step_fine g t _ _ _ _ Rows.Row.yield a b p k vs s n f l = (refl, opens_none Nil _ b (tuple s.indices))
  step_fine g t _ _ _ _ Rows.Row.output a b p k vs s n f l = (refl, inputs_open g b _ s.indices f l)
  step_fine g t _ _ _ _ (Rows.Row.restriction {x = y} {T = T}) a b p k vs s n f l = (refl, λ u z e. put_made s.memory.store y (tuple s.indices) _ x u z e, refl, tt)
  step_fine g t _ _ _ _ (Rows.Row.definition {x = y} {T = T}) a b p k vs s n f l = (refl, λ u z e. put_made s.memory.store y (tuple s.indices) _ x u z e, refl, tt)
  step_fine g t _ _ _ _ (Rows.Row.key {x = y}) a b p k vs s n f l = (refl, λ u z e. put_made s.memory.store y (tuple s.indices) _ x u z e, refl, tt)
  step_fine g t _ _ _ _ (Rows.Row.call {x = y} {l = c}) a b p k vs s n f l = (refl, λ u z e. put_made s.memory.store y (tuple s.indices) _ x u z e, refl, tt)
  step_fine g t _ _ _ _ Rows.Row.event a b p k vs s n f l = (refl, λ u z e. inl e, refl, tt)
  step_fine g t _ _ _ _ Rows.Row.test a b p k vs s n f l = (refl, λ u z e. inl e, refl, below_two (is_one (value_here g s a)))
  step_fine g t _ _ _ _ Rows.Row.bodies a b p zero vs s n f l = (refl, refl, tt)
  step_fine g t _ _ _ _ Rows.Row.bodies a b p (suc k) vs s n f l = (refl, λ u z e. inl e, refl, (let d : suc k < 2 = n in let e : k ≡ 0 = omega arith in e))
  step_fine g t _ _ _ _ Rows.Row.last_body a b p zero vs s n f l = (refl, refl, tt)
  step_fine g t _ _ _ _ Rows.Row.last_body a b p (suc k) vs s n f l = absurd (let d : suc k ≡ 0 = n in omega arith)
  step_fine g t _ _ _ _ (Rows.Row.find {l = c}) a b p k vs s n f l = go (chosen (candidates g s.indices s.memory.store a) (t (Find_at c (tuple s.indices))))
    where
      go : (o : Option Candidate) → turn_fine Branches Body p (Find c) a b s (after_find s o)
      go None = (refl, λ u z e. inl e, refl, tt)
      go (Some d) = (refl, refl, tt)
  step_fine g t _ _ _ _ Rows.Row.branches a b p zero vs s n f l = (refl, refl, tt)
  step_fine g t _ _ _ _ Rows.Row.branches a b p (suc k) vs s n f l = (refl, λ u z e. inl e, refl, tt)
  step_fine g t _ _ _ _ Rows.Row.branch a b p k vs s n f l = (refl, λ u z e. bound_made s.memory.store (tuple s.indices) a vs x u z e, refl, refl)
  step_fine g t _ _ _ _ Rows.Row.guards a b p zero vs s n f l = absurd (let d : ◌≡◌ {A = ℕ} 0 2 = n in omega arith)
  step_fine g t _ _ _ _ Rows.Row.guards a b p (suc k) vs s n f l = (refl, λ u z e. inl e, refl, (let d : suc k ≡ 2 = n in let e : k ≡ 1 = omega arith in e))
  step_fine g t _ _ _ _ Rows.Row.guarded a b p zero vs s n f l = absurd (let d : ◌≡◌ {A = ℕ} 0 1 = n in omega arith)
  step_fine g t _ _ _ _ Rows.Row.guarded a b p (suc k) vs s n f l = (refl, λ u z e. inl e, refl, tt)

  abbrev Serves : Setting → Tape → Tree → Type 0
  Serves g t b =
      (σ : Phrase) (p k : ℕ) (vs : List ℕ) (s : Local) → is_oracle_phrase σ b ≡ true → walks σ ≡ true → Numbered σ k → IsLate σ p b
      → Unreached s.memory.store σ p b (tuple s.indices) → Serving σ p b s (serve g t b p k vs s) (visits g t b p k vs s)

  serve_late : (g : Setting) (t : Tape) (b : Tree) → Serves g t b
  unfolding serve visits turn_fine
  serve_late g t Empty σ p k vs s f w n l o = record { visits = tt; opens = opens_none σ p Empty (tuple s.indices); ahead = tt; grown = λ u z e. inl e }
  serve_late g t (Node h a b) σ p k vs s f w n l o =
      let q = has_parts σ h a b f in
      let is : Row σ h q.0.0 q.0.1 = row σ h q.0.0 q.0.1 w q.1 in
      let parts = phrase_parts σ q.0.0 q.0.1 h a b q.1 f in
      go q.0.0 q.0.1 is parts.0 parts.1 (step g t h a b p k vs s) (step_fine g t σ q.0.0 q.0.1 h is a b p k vs s n parts.1 (late_second σ q.0.0 q.0.1 h is p a b l)) (serve_late g t a) (serve_late g t b)
    where
      here : Visit
      here = record { place = p; tree = Node h a b; before = s }

      go : (τ ρ : Phrase) (is : Row σ h τ ρ) → is_oracle_phrase τ a ≡ true → is_oracle_phrase ρ b ≡ true → (y : Turn) → turn_fine τ ρ p h a b s y → Serves g t a → Serves g t b
          → Serving σ p (Node h a b) s (after_turn (λ r. r) (serve g t a (first_place p h)) (serve g t b (second_place p h a)) y) (here ∷ after_turn (λ r. []) (visits g t a (first_place p h)) (visits g t b (second_place p h a)) y)
      go τ ρ is fa fb y c ia ib = turn y c
        where
          now : VisitLate here
          now d r e m = let k : Has σ p (Node h a b) = record { rest = r; same = e; less = m; deep = deep_here σ τ ρ h is d a b r } in (l k, λ u z i. o k u z i)

          turn : (y : Turn) → turn_fine τ ρ p h a b s y
              → Serving σ p (Node h a b) s (after_turn (λ r. r) (serve g t a (first_place p h)) (serve g t b (second_place p h a)) y) (here ∷ after_turn (λ r. []) (visits g t a (first_place p h)) (visits g t b (second_place p h a)) y)
          turn (Ends r) c = record {
            visits = (now, tt);
            opens = opens_more ρ σ (second_place p h a) p b (Node h a b) (tuple s.indices) r.opened (defines_second x h a b) (has_second σ τ ρ h is p a b) c.1;
            ahead = AllByRecursion_weaker (Below ρ (second_place p h a) b (tuple s.indices)) (Ahead r.last.memory.store)
                (λ j d u z e k v w i. o (has_second σ τ ρ h is p a b (d.1 k)) u z (subst (λ (m : Local). m.memory.store x u ≡ Some z) c.0 e) v (d.2 ++ w) (i ∙ (ap (λ us. us ++ w) d.3 ∙ append_assoc (tuple s.indices) d.2 w))) r.opened c.1.below;
            grown = λ u z e. inl (subst (λ (m : Local). m.memory.store x u ≡ Some z) c.0 e);
          }
          turn (First j ws m) c =
              let child : Serving τ (first_place p h) a m (serve g t a (first_place p h) j ws m) (visits g t a (first_place p h) j ws m) =
              ia τ (first_place p h) j ws m fa c.1 c.2 (late_first σ τ ρ h is p a b c.1 l)
              (λ d u z e v w i. o (has_first σ τ ρ h is p a b c.1 d) u z (subst (λ (k : Local). k.memory.store x u ≡ Some z) c.0 e) v w (subst (λ (k : Local). u ++ v ≡ tuple k.indices ++ w) c.0 i)) in
              record {
                visits = (now, child.visits);
                opens = subst (λ (k : Local). Opens σ p (Node h a b) (tuple k.indices) (serve g t a (first_place p h) j ws m).opened) c.0
                    (opens_more τ σ (first_place p h) p a (Node h a b) (tuple m.indices) _ (defines_first x h a b) (has_first σ τ ρ h is p a b c.1) child.opens);
                ahead = child.ahead;
                grown = λ u z e. first_grown j ws m c.0 u z (child.grown u z e);
              }
            where
              first_grown : (j : ℕ) (ws : List ℕ) (m : Local) → m ≡ s → (u : List ℕ) (z : ℕ) → (m.memory.store x u ≡ Some z) ⊎ (Defines x a × (u ≡ tuple m.indices)) → (s.memory.store x u ≡ Some z) ⊎ (Defines x (Node h a b) × (u ≡ tuple s.indices))
              first_grown j ws m q u z (inl e) = inl (subst (λ (k : Local). k.memory.store x u ≡ Some z) q e)
              first_grown j ws m q u z (inr e) = inr (defines_first x h a b e.0, subst (λ (k : Local). u ≡ tuple k.indices) q e.1)
          turn (Second j ws m) c =
              let child : Serving ρ (second_place p h a) b m (serve g t b (second_place p h a) j ws m) (visits g t b (second_place p h a) j ws m) =
              ib ρ (second_place p h a) j ws m fb c.2 c.3 (late_second σ τ ρ h is p a b l) (λ d u z e v w i. apart d u z v w (i ∙ ap (λ us. us ++ w) c.0) (c.1 u z e)) in
              record {
                visits = (now, child.visits);
                opens = subst (λ us. Opens σ p (Node h a b) us (serve g t b (second_place p h a) j ws m).opened) c.0
                    (opens_more ρ σ (second_place p h a) p b (Node h a b) (tuple m.indices) _ (defines_second x h a b) (has_second σ τ ρ h is p a b) child.opens);
                ahead = child.ahead;
                grown = λ u z e. second_grown m c.0 c.1 u z (child.grown u z e);
              }
            where
              apart : Has ρ (second_place p h a) b → (u : List ℕ) (z : ℕ) (v w : List ℕ) → u ++ v ≡ tuple s.indices ++ w → (s.memory.store x u ≡ Some z) ⊎ ((made_by h a (Variable x) ≡ true) × (u ≡ tuple s.indices)) → ⊥
              apart d u z v w i (inl e) = o (has_second σ τ ρ h is p a b d) u z e v w i
              apart d u z v w i (inr e) = made_apart σ τ ρ h is p a b l d e.0

              stored : (u : List ℕ) (z : ℕ) → (s.memory.store x u ≡ Some z) ⊎ ((made_by h a (Variable x) ≡ true) × (u ≡ tuple s.indices)) → (s.memory.store x u ≡ Some z) ⊎ (Defines x (Node h a b) × (u ≡ tuple s.indices))
              stored u z (inl e) = inl e
              stored u z (inr e) = inr (defines_here x h a b e.0, e.1)

              second_grown : (m : Local) → tuple m.indices ≡ tuple s.indices → Stored h a s m → (u : List ℕ) (z : ℕ) → (m.memory.store x u ≡ Some z) ⊎ (Defines x b × (u ≡ tuple m.indices)) → (s.memory.store x u ≡ Some z) ⊎ (Defines x (Node h a b) × (u ≡ tuple s.indices))
              second_grown m q k u z (inl e) = stored u z (k u z e)
              second_grown m q k u z (inr e) = inr (defines_second x h a b e.0, e.1 ∙ q)

  -- runs

  record StateLate (st : State) : Type 0 where
    good : AllByRecursion InputGood st.inputs
    apart : Pairs InputsApart st.inputs
    ahead : AllByRecursion (Ahead st.memory.store) st.inputs

  record MoveLate (next : State) (vs : List Visit) : Type 0 where
    state : StateLate next
    visits : AllByRecursion VisitLate vs

  call_late : (g : Setting) (t : Tape) (st : State) (vs : List ℕ) (k : Taken) → TakenEach InputGood k → TakenPairs InputsApart k → TakenEach (Ahead st.memory.store) k → MoveLate (called g t st vs (Some k)) (visits_of_call g t st vs (Some k))
  call_late g t st vs k a b c =
      let i : Input = k.input in
      let r : Served = serve g t i.tree i.place 0 vs (begun st i) in
      let s = serve_late g t i.tree Inputs i.place 0 vs (begun st i) a.input.0 refl tt a.input.1 (λ h u z e v w q. c.input u z e h v w q) in
      record {
        state = record {
          good = AllByRecursion_append InputGood k.others r.opened a.others s.opens.good;
          apart = pairs_append InputsApart k.others r.opened b.rest s.opens.apart
              (AllByRecursion_cross (InputsApart i) (Below Inputs i.place i.tree (tuple i.indices)) InputsApart (λ j d y z. (
                λ e h v w q. y.1 e (z.1 h) v (z.2 ++ w) (q ∙ sym (longer i d z w)),
                λ e h v w q. y.0 (z.0 e) h (z.2 ++ v) w (longer i d z v ∙ q),
              )) k.others r.opened b.pair s.opens.below);
          ahead = AllByRecursion_append (Ahead r.last.memory.store) k.others r.opened
              (AllByRecursion_both (InputsApart i) (Ahead st.memory.store) (Ahead r.last.memory.store) (λ j y d u z e h v w q. still i j y d h u z v w q (s.grown u z e)) k.others b.pair c.others)
              s.ahead;
        };
        visits = s.visits;
      }
    where
      longer : (i d : Input) (z : Below Inputs i.place i.tree (tuple i.indices) d) (w : List ℕ) → tuple i.indices ++ (z.2 ++ w) ≡ tuple d.indices ++ w
      longer i d z w = sym (append_assoc (tuple i.indices) z.2 w) ∙ ap (λ us. us ++ w) (sym z.3)

      still : (i j : Input) → InputsApart i j → Ahead st.memory.store j → InputHas j → (u : List ℕ) (z : ℕ) (v w : List ℕ) → u ++ v ≡ tuple j.indices ++ w → (st.memory.store x u ≡ Some z) ⊎ (Defines x i.tree × (u ≡ tuple i.indices)) → ⊥
      still i j y d h u z v w q (inl e) = d u z e h v w q
      still i j y d h u z v w q (inr e) = y.0 e.0 h v w (ap (λ us. us ++ v) (sym e.1) ∙ q)

  move_late : (g : Setting) (m : Mode) (t : Tape) (st : State) (y : Move) → StateLate st → MoveLate (moved g m t st y) (visits_of_move g t st y)
  unfolding moved visits_of_move
  move_late g m t st (Calls c u vs) z = go (admitted g c u vs st.inputs) refl
    where
      go : (o : Option Taken) → admitted g c u vs st.inputs ≡ o → MoveLate (called g t st vs o) (visits_of_call g t st vs o)
      go None e = record { state = record { good = z.good; apart = z.apart; ahead = z.ahead }; visits = tt }
      go (Some k) e = call_late g t st vs k
          (admitted_taken (TakenEach InputGood) g c u vs st.inputs (taken_each InputGood c u st.inputs z.good) k e)
          (admitted_taken (TakenPairs InputsApart) g c u vs st.inputs (taken_pairs InputsApart inputs_sym c u st.inputs z.apart) k e)
          (admitted_taken (TakenEach (Ahead st.memory.store)) g c u vs st.inputs (taken_each (Ahead st.memory.store) c u st.inputs z.ahead) k e)
  move_late g m t st (Tests u) z = go (told m t st u)
    where
      go : (o : Option ℕ) → MoveLate (tested_with st o) []
      go None = record { state = record { good = z.good; apart = z.apart; ahead = z.ahead }; visits = tt }
      go (Some v) = record { state = record { good = z.good; apart = z.apart; ahead = z.ahead }; visits = tt }
  move_late g m t st (Guesses b) z = record { state = record { good = z.good; apart = z.apart; ahead = z.ahead }; visits = tt }

  run_late : (g : Setting) (m : Mode) (next : List Answer → Option Move) (t : Tape) (n : ℕ) (st : State) → StateLate st → AllByRecursion VisitLate (run_visits g m next t n st)
  unfolding run_visits
  run_late g m next t zero st z = tt
  run_late g m next t (suc n) st z = go (next_move next st) (λ a. run_late g m next t n (moved g m t st a))
    where
      go : (o : Option Move) → ((a : Move) → StateLate (moved g m t st a) → AllByRecursion VisitLate (run_visits g m next t n (moved g m t st a)))
          → AllByRecursion VisitLate (by_move [] (λ a. visits_of_move g t st a ++ run_visits g m next t n (moved g m t st a)) o)
      go None ih = tt
      go (Some a) ih = let y = move_late g m t st a z in AllByRecursion_append VisitLate (visits_of_move g t st a) _ y.visits (ih a y.state)

  pub visits_late : (g : Setting) (m : Mode) (next : List Answer → Option Move) (t : Tape) (n : ℕ) (game : Tree) → is_oracle_phrase Inputs game ≡ true → is_late x game place ≡ true → AllByRecursion VisitLate (run_visits g m next t n (start g game))
  visits_late g m next t n game f l =
      let o = inputs_open g game 0 [] f (λ h. subst (λ r. is_late x game r ≡ true) (sym (let e : 0 + h.rest ≡ place = h.same in let d : h.rest ≡ place = omega arith in d)) l) in
      run_late g m next t n (start g game) (record { good = o.good; apart = o.apart; ahead = AllByRecursion_weaker (Below Inputs 0 game []) (Ahead (start g game).memory.store) (λ j k u z e. absurd (cc)) _ o.below })
