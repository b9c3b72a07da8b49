-- In a service a value that is chosen behind a term misses the term, from its choice on in the same body, where it misses it when it is
-- chosen.
use Rattle.std.proofs.Common.{◌≡◌, ℕ, zero, suc, ◌==◌, ◌||◌, Bool, true, false, cond, List, [], ◌∷◌, Option, Some, None, refl, sym, ap, subst, ◌∙◌, eqb-true}
use Rattle.std.proofs.lemmas.Bool.{both_ways}
use Rattle.std.specs.List.{AllByRecursion, list_any}
use Rattle.cv_syntax_trees.specs.declared.head.Head.{Head}
use Rattle.cv_syntax_trees.specs.declared.head.Head.TheVariants.{In, Event, New, Let, If, Find, Branch, Cons, Key, Call}
use Rattle.cv_syntax_trees.specs.Tree.{Tree, Empty, Node, first_place, second_place}
use Rattle.cv_syntax.specs.Layouts.{IsSyntax}
use Rattle.cv_meaning.specs.Tapes.{Tape, Find_at, New_at, same_cell}
use Rattle.cv_meaning.specs.Interpretation.{Setting}
use Rattle.cv_meaning.specs.Memory.{Indices, Local, Store, tuple}
use Rattle.cv_meaning.specs.Terms.{value, value_here}
use Rattle.cv_meaning.specs.Candidates.{Candidate, candidates, chosen}
use Rattle.cv_meaning.specs.Serving.{Turn, Ends, First, Second, after_find, after_turn, step, Visit, visits}
use Rattle.cv_meaning_runs.specs.Agreement.{visit_consults}
use Rattle.cv_meaning_laws.proofs.Counts.{same_cell_refl}
use Rattle.cv_scope_rules.specs.Branches.{Pairs}
use Rattle.cv_scope_rules.specs.Context.{Context, known_at}
use Rattle.cv_scope_rules.specs.Phrases.{Phrase, Term, is_oracle_phrase, oracle_parts}
use Rattle.cv_scope_runs.specs.Promises.{VisitsGrow}
use Rattle.cv_scope_runs.specs.Reads.{IsKept}
use Rattle.cv_scope_runs.proofs.Contexts.{game_names, put_here, scope_readable}
use Rattle.cv_scope_runs.proofs.Games.{Game, has_parts, stands_phrase}
use Rattle.cv_scope_runs.proofs.ServeRuns.{VisitHolds}
use Rattle.cv_scope_runs.proofs.Standing.{Stands, in_first, in_second, stands_known}
use Rattle.cv_scope_runs.proofs.TermsLater.{Readable, readable_kept, store_extends, value_kept}
use Rattle.cv_rule_fresh.specs.collisions.Choices.{Choice, choice_above, choice_behind}
use Rattle.cv_costs.specs.names.Reach.{is_in_scope}
use Rattle.cv_rule_fresh.proofs.Scope.{scope_asked}
use Rattle.cv_rule_fresh.proofs.Standing.{last_of, stands_choice}

-- a construct of a body
abbrev pub is_inner : Tree → Bool
is_inner Empty = false
is_inner (Node (In c) a b) = false
is_inner (Node h a b) = true

module _ (g : Setting) (variable : ℕ → Bool) (x : ℕ) (other : Tree) where
  -- the variable has a value at the current indices that isn't that of the term, which stays
  pub record Misses (at : Indices) (m : Store) : Type 0 where
    pub readable : Readable g variable at m other
    pub drawn : ℕ
    pub assigned : m x (tuple at) ≡ Some drawn
    pub apart : drawn ≡ value g at m other → ⊥

  pub misses_later : (at : Indices) (m n : Store) → IsKept m n → Misses at m → Misses at n
  misses_later at m n l k = record {
    readable = readable_kept g variable at m at n (store_extends g variable at m n l) other k.readable;
    drawn = k.drawn;
    assigned = l x (tuple at) k.drawn k.assigned;
    apart = λ e. k.apart (e ∙ value_kept g variable at m at n (store_extends g variable at m n l) other k.readable);
  }

-- behind the choice in the same body
abbrev pub MissesThere : Setting → (ℕ → Bool) → Tree → ℕ → Choice → Tree → Visit → Type 0
MissesThere g variable game x c other v =
    is_inner v.tree ≡ true → IsSyntax v.tree → choice_above game x v.place ≡ Some c → Misses g variable x other v.before.indices v.before.memory.store

-- at the choice
abbrev pub DrawsAnother : Setting → ℕ → Choice → Tree → Tape → Visit → Type 0
DrawsAnother g x c other t v =
    v.place ≡ c.place → IsSyntax v.tree → visit_consults g (same_cell (New_at x (tuple v.before.indices))) v ≡ true →
    t (New_at x (tuple v.before.indices)) ≡ value_here g v.before other → ⊥

module _ (g : Setting) (t : Tape) where
  -- where the walk goes on

  abbrev Draws : Head → Local → Local → Type 0
  Draws (New y T) s n = n.memory.store y (tuple s.indices) ≡ Some (t (New_at y (tuple s.indices)))
  Draws h s n = Unit {0}

  Turns : Head → Tree → Tree → Local → Turn → Type 0
  Turns h a b s (Ends r) = Unit {0}
  Turns h a b s (First j ws n) = (n ≡ s) × (is_inner (Node h a b) ≡ true)
  Turns h a b s (Second j ws n) = (n.indices ≡ s.indices) × Draws h s n

  step_turns : (h : Head) (a b : Tree) (p k : ℕ) (vs : List ℕ) (s : Local) → Turns h a b s (step g t h a b p k vs s)
  unfolding step Turns
  step_turns (In d) a b p k vs s = (refl, tt)
  step_turns (New y T) a b p k vs s = (refl, put_here s.memory.store y (tuple s.indices) (t (New_at y (tuple s.indices))))
  step_turns (Let y T) a b p k vs s = (refl, tt)
  step_turns (Event e) a b p k vs s = (refl, tt)
  step_turns If a b p k vs s = (refl, tt)
  step_turns (Find l) a b p k vs s = go (chosen (candidates g s.indices s.memory.store a) (t (Find_at l (tuple s.indices))))
    where
      go : (o : Option Candidate) → Turns (Find l) a b s (after_find s o)
      go None = (refl, tt)
      go (Some d) = (refl, refl)
  step_turns Branch a b p k vs s = (refl, tt)
  step_turns (Key y) a b p k vs s = (refl, tt)
  step_turns (Call y l) a b p k vs s = (refl, tt)
  step_turns Cons a b p zero vs s = (refl, refl)
  step_turns Cons a b p (suc k) vs s = (refl, tt)
  step_turns h a b p k vs s = tt

  first_grown : (v : Visit) (b : Tree) (q j : ℕ) (ws : List ℕ) (n : Local) → is_inner b ≡ true → AllByRecursion (VisitsGrow v) (visits g t b q j ws n) → IsKept v.before.memory.store n.memory.store
  unfolding visits
  first_grown v Empty q j ws n i h = absurd (both_ways false refl i)
  first_grown v (Node h a b) q j ws n i k = k.0.store

-- what the term reads is assigned when the variable is chosen
module _ (g : Setting) (variable : ℕ → Bool) (game : Tree) (fine : Game g variable game) (x : ℕ) (c : Choice) (other : Tree) (t : Tape) (whole : is_oracle_phrase Term other ≡ true) (scope : (Γ : Context) → known_at game c.place ≡ Some Γ → is_in_scope (game_names g variable) Γ other ≡ true) where
  abbrev Miss : Indices → Store → Type 0
  Miss at m = Misses g variable x other at m

  abbrev There : Visit → Type 0
  There v = MissesThere g variable game x c other v

  abbrev Another : Visit → Type 0
  Another v = DrawsAnother g x c other t v

  reads_other : (v : Visit) → v.place ≡ c.place → IsSyntax v.tree → VisitHolds g variable game fine v → Readable g variable v.before.indices v.before.memory.store other
  reads_other v e i h =
      let known : known_at game c.place ≡ Some h.above = ap (known_at game) (sym e) ∙ stands_known game v.place h.phrase h.above v.tree i h.stands in
      scope_readable g variable h.above v.before.indices v.before.memory.store v.before.memory.events h.matches h.holds other whole
      (scope_asked (game_names g variable) h.above other whole (scope h.above known))

  -- behind a node
  misses_behind : (last : Option Choice) (p : ℕ) (h : Head) (a b : Tree) (s n : Local) → IsKept s.memory.store n.memory.store → n.indices ≡ s.indices → Draws g t h s n
      → VisitHolds g variable game fine (record { place = p; tree = Node h a b; before = s }) → Another (record { place = p; tree = Node h a b; before = s })
      → (is_inner (Node h a b) ≡ true → last ≡ Some c → Miss s.indices s.memory.store) → choice_behind x last p h ≡ Some c → Miss n.indices n.memory.store
  misses_behind last p (In d) a b s n l i dr v w m e = absurd (cc)
  misses_behind last p (New y T) a b s n l i dr v w m e = subst (λ at. Miss at n.memory.store) (sym i) (go (y == x) refl e)
    where
      here : (y ≡ x) → p ≡ c.place → Miss s.indices n.memory.store
      here same place =
          let r : Readable g variable s.indices s.memory.store other = reads_other (record { place = p; tree = Node (New y T) a b; before = s }) place refl v in
          record {
            readable = readable_kept g variable s.indices s.memory.store s.indices n.memory.store (store_extends g variable s.indices s.memory.store n.memory.store l) other r;
            drawn = t (New_at x (tuple s.indices));
            assigned = subst (λ z. n.memory.store z (tuple s.indices) ≡ Some (t (New_at z (tuple s.indices)))) same dr;
            apart = λ f.
                w place refl
                (ap (λ z. list_any (same_cell (New_at x (tuple s.indices))) (New_at z (tuple s.indices) ∷ [])) same ∙ ap (λ z. z || false) (same_cell_refl (New_at x (tuple s.indices))))
                (f ∙ value_kept g variable s.indices s.memory.store s.indices n.memory.store (store_extends g variable s.indices s.memory.store n.memory.store l) other r);
          }

      go : (v : Bool) → (y == x) ≡ v → cond v (Some (record { place = p; type = T })) last ≡ Some c → Miss s.indices n.memory.store
      go true f k = let q : record { place = p; type = T } ≡ c = cc in here (eqb-true y x f) (ap (λ (d : Choice). d.place) q)
      go false f k = misses_later g variable x other s.indices s.memory.store n.memory.store l (m refl k)
  misses_behind last p h a b s n l i dr v w m e = subst (λ at. Miss at n.memory.store) (sym i) (misses_later g variable x other s.indices s.memory.store n.memory.store l (m refl e))

  pub serve_misses : (b : Tree) (p k : ℕ) (vs : List ℕ) (s : Local) {σ : Phrase} {Γ : Context} (st : Stands game p σ Γ b) → (is_inner b ≡ true → last_of game x st ≡ Some c → Miss s.indices s.memory.store)
      → AllByRecursion (VisitHolds g variable game fine) (visits g t b p k vs s) → Pairs VisitsGrow (visits g t b p k vs s) → AllByRecursion Another (visits g t b p k vs s)
      → AllByRecursion There (visits g t b p k vs s)
  unfolding visits Turns
  serve_misses Empty p k vs s st m h o w = tt
  serve_misses (Node h a b) p k vs s {σ = σ} {Γ = Γ} st m hs os ws =
      let q = has_parts σ h a b (stands_phrase g variable game fine st) in (
        λ i e f. m i (sym (stands_choice game x (Node h a b) st e) ∙ f),
        go q.0 q.1 (step g t h a b p k vs s) (step_turns g t h a b p k vs s)
            (λ j us n. serve_misses a (first_place p h) j us n (in_first q.1 st)) (λ j us n. serve_misses b (second_place p h a) j us n (in_second q.1 st)) hs.1 os.0 os.1 ws.1,
      )
    where
      here : Visit
      here = record { place = p; tree = Node h a b; before = s }

      rest : Turn → List Visit
      rest o = after_turn (λ r. []) (visits g t a (first_place p h)) (visits g t b (second_place p h a)) o

      go : (q : Phrase × Phrase) → oracle_parts σ h ≡ Some q → (o : Turn) → Turns g t h a b s o
          → ((j : ℕ) (us : List ℕ) (n : Local) → (is_inner a ≡ true → last_of game x st ≡ Some c → Miss n.indices n.memory.store) → AllByRecursion (VisitHolds g variable game fine) (visits g t a (first_place p h) j us n) → Pairs VisitsGrow (visits g t a (first_place p h) j us n)
          → AllByRecursion Another (visits g t a (first_place p h) j us n) → AllByRecursion There (visits g t a (first_place p h) j us n))
          → ((j : ℕ) (us : List ℕ) (n : Local) → (is_inner b ≡ true → choice_behind x (last_of game x st) p h ≡ Some c → Miss n.indices n.memory.store) → AllByRecursion (VisitHolds g variable game fine) (visits g t b (second_place p h a) j us n) → Pairs VisitsGrow (visits g t b (second_place p h a) j us n)
          → AllByRecursion Another (visits g t b (second_place p h a) j us n) → AllByRecursion There (visits g t b (second_place p h a) j us n))
          → AllByRecursion (VisitHolds g variable game fine) (rest o) → AllByRecursion (VisitsGrow here) (rest o) → Pairs VisitsGrow (rest o) → AllByRecursion Another (rest o) → AllByRecursion There (rest o)
      go q e (Ends r) z ia ib h0 g0 o0 w0 = tt
      go q e (First j us n) z ia ib h0 g0 o0 w0 = ia j us n (λ i f. subst (λ (u : Local). Miss u.indices u.memory.store) (sym z.0) (m z.1 f)) h0 o0 w0
      go q e (Second j us n) z ia ib h0 g0 o0 w0 =
          ib j us n (λ i f. misses_behind (last_of game x st) p h a b s n (first_grown g t here b (second_place p h a) j us n i g0) z.0 z.1 hs.0 ws.0 m f) h0 o0 w0
