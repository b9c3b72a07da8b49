-- In a run of a well-formed game, each construct keeps what is known: what its row of the table promises.
use Rattle.std.proofs.Common.{◌≡◌, ℕ, zero, suc, ◌<◌, Bool, true, false, cond, ◌&&◌, ◌||◌, not, ◌==◌, nat_lt, List, [], ◌∷◌, ◌++◌, ◌⊎◌, inl, inr, Option, Some, None, is_some, flat_map, refl, sym, ap, ap₂, subst, ◌∙◌, append-nil, eqb-true, eq-eqb, arith}
use Rattle.std.proofs.lemmas.Bool.{both_ways, and_parts, not-true, ltb-true, or_left, or_right}
use Rattle.std.specs.List.{AllByRecursion}
use Rattle.cv_syntax_trees.specs.declared.head.Head.{Head}
use Rattle.cv_syntax_trees.specs.declared.head.Head.TheVariants.{Par, Repl, In, Out, Event, New, Let, If, Find, Branch, Eq, Not, Cons, Binder, Key, Call}
use Rattle.cv_syntax.specs.Layouts.{IsSyntax}
use Rattle.cv_syntax_trees.specs.Tree.{Tree, Empty, Node, second, first_place, second_place}
use Rattle.cv_meaning.specs.Tapes.{Tape, New_at, Find_at, same_tuple}
use Rattle.cv_meaning.specs.Interpretation.{Setting}
use Rattle.cv_meaning.specs.Memory.{Memory, Store, Indices, Happened, Local, put, tuple}
use Rattle.cv_meaning.specs.Terms.{bit, is_one, or_zero, value, value_here, values_here}
use Rattle.cv_meaning.specs.Binders.{fits, bound_to}
use Rattle.cv_meaning.specs.Candidates.{Candidate, below, is_candidate, are_assigned, candidates, chosen}
use Rattle.cv_meaning.specs.Inputs.{Input, inputs_of}
use Rattle.cv_meaning.specs.Serving.{Served, Turn, Ends, First, Second, after_find, step, oracle_call}
use Rattle.cv_meaning_laws.proofs.Counts.{same_tuple_exact}
use Rattle.cv_meaning_runs.proofs.Copies.{all_below}
use Rattle.cv_scope_rules.specs.Context.{Context, cell_of, cells_of, items, with_cells, with_fact}
use Rattle.cv_scope_rules.specs.Sites.{Variable}
use Rattle.cv_scope_rules.specs.Phrases.{Phrase, Nil, Inputs, Body, Then, Else, Branches, Arm, Guards, Guarded, Pattern, Binders, Cells, Terms, Term, is_oracle_phrase}
use Rattle.cv_scope_runs.specs.Reads.{IsKept}
use Rattle.cv_scope_rules.specs.Made.{is_bound, made_by}
use Rattle.cv_scope_runs.specs.Indexed.{binds_below, head_indexes}
use Rattle.cv_scope_runs.specs.Promises.{EventsKept, GrowsTo, after_site}
use Rattle.cv_scope_runs.proofs.FreshRuns.{put_made, bound_made, IsClear}
use Rattle.cv_scope_runs.proofs.TermsLater.{Readable, AllReadable, Extends, some_of, store_extends, value_kept, readable_kept}
use Rattle.cv_scope_runs.proofs.Contexts.{recorded_push, recorded_last, Matches, CellHolds, FactHolds, EventHolds, Holds, NewIndex, own_holds, own_value, holds_kept, scope_readable, all_scope_readable, push_extends, push_matches, put_here, put_later, bound_later}
use Rattle.cv_scope_runs.proofs.Rows.{walks, Row, row}
use Rattle.cv_scope_runs.proofs.Rows
use Rattle.cv_scope_runs.proofs.Candidates.{IsChosen, BranchAt, IsBranch, candidates_fine, chosen_fine, OnlyVariables, bound_cells, list_cells}
use Rattle.cv_scope_runs.proofs.Standing.{Stands, in_first, in_second, first_below, second_below}
use Rattle.cv_scope_runs.proofs.Games.{Game, stands_phrase, stands_asked, stands_variable, new_index}
use Rattle.cv_syntax_trees.proofs.lists.Each.{AllByRecursion_flat_map, AllByRecursion_append}

pub grows_same : (x : Memory) → GrowsTo x x
grows_same x = record { store = λ y u v e. e; events = λ e h. h }

pub grows_then : (x y z : Memory) → GrowsTo x y → GrowsTo y z → GrowsTo x z
grows_then x y z a b = record { store = λ w u v e. b.store w u v (a.store w u v e); events = λ e h. b.events e (a.events e h) }

-- values of index variables are below their parameters

abbrev pub IsBelow : Setting → Head → Tree → ℕ → ℕ → Type 0
IsBelow g h a x v = (n : ℕ) → head_indexes x n h a ≡ true → v < g.interpretation.parameter_value n

-- a value that was there before, or that the node has assigned
abbrev pub MadeHere : Setting → Head → Tree → Store → List ℕ → ℕ → List ℕ → ℕ → Type 0
MadeHere g h a m u y w z = (m y w ≡ Some z) ⊎ ((made_by h a (Variable y) ≡ true) × (w ≡ u) × IsBelow g h a y z)

-- what is made by a node that is no branch
made_unindexed : (g : Setting) (h : Head) (a : Tree) (m : Store) (u : List ℕ) (y : ℕ) (w : List ℕ) (z : ℕ) → ((n : ℕ) → head_indexes y n h a ≡ not (made_by h a (Variable y))) → (m y w ≡ Some z) ⊎ ((made_by h a (Variable y) ≡ true) × (w ≡ u)) → MadeHere g h a m u y w z
made_unindexed g h a m u y w z same (inl i) = inl i
made_unindexed g h a m u y w z same (inr i) = inr (i.0, i.1, λ n e. absurd (both_ways (made_by h a (Variable y)) (not-true _ (sym (same n) ∙ e)) i.0))

put_value : (m : Store) (x : ℕ) (u : List ℕ) (v y : ℕ) (w : List ℕ) (z : ℕ) → put m x u v y w ≡ Some z → (m y w ≡ Some z) ⊎ (((y == x) ≡ true) × (w ≡ u) × (v ≡ z))
unfolding put
put_value m x u v y w z e = go (y == x) (same_tuple w u) refl refl e
  where
    go : (b c : Bool) → (y == x) ≡ b → same_tuple w u ≡ c → cond (b && c) (Some v) (m y w) ≡ Some z → (m y w ≡ Some z) ⊎ (((y == x) ≡ true) × (w ≡ u) × (v ≡ z))
    go true true i j k = inr (i, same_tuple_exact w u j, (let q : v ≡ z = cc in q))
    go true false i j k = inl k
    go false c i j k = inl k

either_true : (a b : Bool) → a ≡ true → (not a || b) ≡ true → b ≡ true
either_true true b e f = f
either_true false b e f = absurd (both_ways _ refl e)

-- what binders make has values below their ranges
bound_values_below : (range : ℕ → ℕ) (m : Store) (u : List ℕ) (bs : Tree) (vs : List ℕ) → fits range bs vs ≡ true → (y : ℕ) (w : List ℕ) (z : ℕ) → bound_to m u bs vs y w ≡ Some z
    → (m y w ≡ Some z) ⊎ ((is_bound bs y ≡ true) × (w ≡ u) × ((n : ℕ) → binds_below y n bs ≡ true → z < range n))
unfolding bound_to is_bound
bound_values_below range m u (Node (Binder x T) a b) (v ∷ vs) f y w z e = go (bound_values_below range (put m x u v) u b vs (and_parts (nat_lt v (range T)) _ f).1 y w z e)
  where
    put_case : (m y w ≡ Some z) ⊎ (((y == x) ≡ true) × (w ≡ u) × (v ≡ z)) → (m y w ≡ Some z) ⊎ (((y == x) || is_bound b y ≡ true) × (w ≡ u) × ((n : ℕ) → binds_below y n (Node (Binder x T) a b) ≡ true → z < range n))
    put_case (inl k) = inl k
    put_case (inr k) = inr (
      or_left (y == x) _ k.0,
      k.1,
      λ n q.
          let same : T ≡ n = eqb-true T n (either_true (x == y) (T == n) (eq-eqb x y (sym (eqb-true y x k.0))) (and_parts (not (x == y) || (T == n)) _ q).0) in
          let below : v < range T = ltb-true v (range T) (and_parts (nat_lt v (range T)) _ f).0 in
          subst (λ r. r < range n) k.2 (subst (λ r. v < range r) same below),
    )

    go : (put m x u v y w ≡ Some z) ⊎ ((is_bound b y ≡ true) × (w ≡ u) × ((n : ℕ) → binds_below y n b ≡ true → z < range n)) → (m y w ≡ Some z) ⊎ (((y == x) || is_bound b y ≡ true) × (w ≡ u) × ((n : ℕ) → binds_below y n (Node (Binder x T) a b) ≡ true → z < range n))
    go (inl k) = put_case (put_value m x u v y w z k)
    go (inr k) = inr (or_right (y == x) _ k.0, k.1, λ n q. k.2 n (and_parts (not (x == y) || (T == n)) _ q).1)
bound_values_below range m u _ _ f y w z e = inl e

module _ (g : Setting) (variable : ℕ → Bool) (game : Tree) (fine : Game g variable game) where
  -- what a term or a list of terms of the game reads is assigned where what is known holds

  pub term_reads : {p : ℕ} {Γ : Context} {a : Tree} → Stands game p Term Γ a → (at : Indices) (m : Store) (es : List Happened) → Matches g variable Γ.replications at → Holds g variable Γ at m es → Readable g variable at m a
  term_reads {Γ = Γ} {a = a} st at m es k h = scope_readable g variable Γ at m es k h a (stands_phrase g variable game fine st) (stands_asked g variable game fine st)

  pub terms_read : {p : ℕ} {Γ : Context} {a : Tree} → Stands game p Terms Γ a → (at : Indices) (m : Store) (es : List Happened) → Matches g variable Γ.replications at → Holds g variable Γ at m es → AllReadable g variable at m a
  terms_read {Γ = Γ} {a = a} st at m es k h = all_scope_readable g variable Γ at m es k h a (stands_phrase g variable game fine st) (stands_asked g variable game fine st)

  -- the path of a site holds
  pub record SiteHolds (x : ℕ) (u : List ℕ) (v : ℕ) (m : Store) (es : List Happened) : Type 0 where
    pub place : ℕ
    pub phrase : Phrase
    pub above : Context
    pub head : Head
    pub one : Tree
    pub two : Tree
    pub indices : Indices
    pub stands : Stands game place phrase above (Node head one two)
    pub defines : made_by head one (Variable x) ≡ true
    pub below : IsBelow g head one x v
    pub at : tuple indices ≡ u
    pub matches : Matches g variable (after_site head one two above).replications indices
    pub holds : Holds g variable (after_site head one two above) indices m es

  abbrev pub StoreHolds : Store → List Happened → Type 0
  StoreHolds m es = (x : ℕ) (u : List ℕ) (v : ℕ) → m x u ≡ Some v → SiteHolds x u v m es

  pub only_variables : (m : Store) (es : List Happened) → StoreHolds m es → OnlyVariables g variable m
  only_variables m es h x u e = let r = some_of (m x u) e in let k = h x u r.0 r.1 in stands_variable g variable game fine k.stands x k.defines

  pub later_holds : (Γ : Context) (at : Indices) (m : Store) (es : List Happened) (n : Store) (fs : List Happened) → IsKept m n → EventsKept es fs → Holds g variable Γ at m es → Holds g variable Γ at n fs
  later_holds Γ at m es n fs l w h = holds_kept g variable Γ at m at n es fs (store_extends g variable at m n l) w h

  site_later : (x : ℕ) (u : List ℕ) (v : ℕ) (m : Store) (es : List Happened) (n : Store) (fs : List Happened) → IsKept m n → EventsKept es fs → SiteHolds x u v m es → SiteHolds x u v n fs
  site_later x u v m es n fs l w s = record {
    place = s.place;
    phrase = s.phrase;
    above = s.above;
    head = s.head;
    one = s.one;
    two = s.two;
    indices = s.indices;
    stands = s.stands;
    defines = s.defines;
    below = s.below;
    at = s.at;
    matches = s.matches;
    holds = later_holds (after_site s.head s.one s.two s.above) s.indices m es n fs l w s.holds;
  }

  -- after a definition
  stores_more : (p : ℕ) (σ : Phrase) (Γ : Context) (h : Head) (a b : Tree) (at : Indices) (m n : Store) (es : List Happened) → Stands game p σ Γ (Node h a b) → Matches g variable (after_site h a b Γ).replications at → IsKept m n
      → ((y : ℕ) (w : List ℕ) (z : ℕ) → n y w ≡ Some z → MadeHere g h a m (tuple at) y w z)
      → Holds g variable (after_site h a b Γ) at n es → StoreHolds m es → StoreHolds n es
  stores_more p σ Γ h a b at m n es st k l made hold old y w z e = go (made y w z e)
    where
      go : MadeHere g h a m (tuple at) y w z → SiteHolds y w z n es
      go (inl i) = site_later y w z m es n es l (λ e h. h) (old y w z i)
      go (inr i) = record { place = p; phrase = σ; above = Γ; head = h; one = a; two = b; indices = at; stands = st; defines = i.0; below = i.2; at = sym i.1; matches = k; holds = hold }

  -- available inputs

  pub record InputReady (m : Store) (es : List Happened) (i : Input) : Type 0 where
    pub above : Context
    pub node : IsSyntax i.tree
    pub stands : Stands game i.place Inputs above i.tree
    pub matches : Matches g variable above.replications i.indices
    pub holds : Holds g variable above i.indices m es

  pub input_later : (x y : Memory) → GrowsTo x y → (i : Input) → InputReady x.store x.events i → InputReady y.store y.events i
  input_later x y w i h = record { above = h.above; node = h.node; stands = h.stands; matches = h.matches; holds = later_holds h.above i.indices x.store x.events y.store y.events w.store w.events h.holds }

  repl_holds : (Γ : Context) (at : Indices) (m : Store) (es : List Happened) (i n v : ℕ) (a : Tree) → NewIndex g.is_constant variable Γ.replications i → Holds g variable Γ at m es → Holds g variable (second_below Inputs (Repl i n) a Γ) (at ++ (i, v) ∷ []) m es
  repl_holds Γ at m es i n v a new h =
      let k = holds_kept g variable Γ at m (at ++ (i, v) ∷ []) m es es (push_extends g variable Γ at m i v new) (λ e h. h) h in
      record { cells = k.cells; own = k.own; facts = k.facts; events = k.events }

  pub inputs_hold : (b : Tree) (p : ℕ) (Γ : Context) (at : Indices) (m : Store) (es : List Happened) → Stands game p Inputs Γ b → Matches g variable Γ.replications at → Holds g variable Γ at m es → AllByRecursion (InputReady m es) (inputs_of g b p at)
  unfolding inputs_of
  inputs_hold Empty p Γ at m es st k h = tt
  inputs_hold (Node Par a b) p Γ at m es st k h =
      AllByRecursion_append (InputReady m es) (inputs_of g a (first_place p Par) at) _ (inputs_hold a (first_place p Par) Γ at m es (in_first refl st) k h) (inputs_hold b (second_place p Par a) Γ at m es (in_second refl st) k h)
  inputs_hold (Node (Repl i n) a b) p Γ at m es st k h =
      let new : NewIndex g.is_constant variable Γ.replications i = new_index g variable game fine st in
      AllByRecursion_flat_map (λ v. v < g.interpretation.parameter_value n) (InputReady m es) (λ v. inputs_of g b (second_place p (Repl i n) a) (at ++ (i, v) ∷ []))
      (λ v l. inputs_hold b (second_place p (Repl i n) a) (second_below Inputs (Repl i n) a Γ) (at ++ (i, v) ∷ []) m es (in_second refl st) (push_matches g variable Γ at i n v new l k) (repl_holds Γ at m es i n v a new h))
      (below (g.interpretation.parameter_value n)) (all_below (g.interpretation.parameter_value n))
  inputs_hold (Node (In c) a b) p Γ at m es st k h = (record { above = Γ; node = refl; stands = st; matches = k; holds = h }, tt)
  inputs_hold (Node j a b) p Γ at m es st k h = tt

  -- what the walk promises of the child that it enters

  abbrev pub GuardsHold : Tree → Indices → Store → Type 0
  GuardsHold (Node i cells (Node j c body)) at m = AllByRecursion (CellHolds g variable at m) (items cells) × FactHolds g variable at m c
  GuardsHold _ at m = Unit {0}

  abbrev pub GuardedHolds : Tree → Indices → Store → Type 0
  GuardedHolds (Node j c body) at m = FactHolds g variable at m c
  GuardedHolds _ at m = Unit {0}

  abbrev pub Fits : Tree → List ℕ → Type 0
  Fits (Node (In c) a b) vs = fits g.interpretation.type_size (second a) vs ≡ true
  Fits _ vs = Unit {0}

  abbrev pub Promise : Phrase → Context → Tree → ℕ → List ℕ → Local → Type 0
  Promise Inputs Γ b k vs s = Fits b vs
  Promise Then Γ b k vs s = Readable g variable s.indices s.memory.store Γ.tested × (k ≡ cond (is_one (value_here g s Γ.tested)) 0 1)
  Promise Else Γ b k vs s = Readable g variable s.indices s.memory.store Γ.tested × (k ≡ 0) × (is_one (value_here g s Γ.tested) ≡ false)
  Promise Branches Γ b k vs s = BranchAt g s.indices s.memory.store b k vs
  Promise Arm Γ b k vs s = IsChosen g s.indices s.memory.store b vs
  Promise Guards Γ b k vs s = (k ≡ 2) × GuardsHold b s.indices s.memory.store
  Promise Guarded Γ b k vs s = (k ≡ 1) × GuardedHolds b s.indices s.memory.store
  Promise _ Γ b k vs s = Unit {0}

  -- what holds where a tree is come to
  pub record Comes (σ : Phrase) (Γ : Context) (b : Tree) (k : ℕ) (vs : List ℕ) (s : Local) : Type 0 where
    pub walks : walks σ ≡ true
    pub promise : Promise σ Γ b k vs s
    pub matches : Matches g variable Γ.replications s.indices
    pub holds : Holds g variable Γ s.indices s.memory.store s.memory.events
    pub stores : StoreHolds s.memory.store s.memory.events

  pub record Goes (σ : Phrase) (Γ : Context) (b : Tree) (k : ℕ) (vs : List ℕ) (s n : Local) : Type 0 where
    pub comes : Comes σ Γ b k vs n
    pub grown : GrowsTo s.memory n.memory

  pub record Done (s : Local) (r : Served) : Type 0 where
    pub stores : StoreHolds r.last.memory.store r.last.memory.events
    pub opened : AllByRecursion (InputReady r.last.memory.store r.last.memory.events) r.opened
    pub grown : GrowsTo s.memory r.last.memory

  unfoldable pub turn_holds : Phrase → Phrase → Phrase → Context → Head → Tree → Tree → Local → Turn → Type 0
  turn_holds σ τ ρ Γ h a b s (Ends r) = Done s r
  turn_holds σ τ ρ Γ h a b s (First k vs n) = Goes τ (first_below σ h Γ) a k vs s n
  turn_holds σ τ ρ Γ h a b s (Second k vs n) = Goes ρ (second_below σ h a Γ) b k vs s n

  pub done_same : (s : Local) (r : Served) → r.last ≡ s → StoreHolds s.memory.store s.memory.events → AllByRecursion (InputReady s.memory.store s.memory.events) r.opened → Done s r
  done_same s r e a b = record {
    stores = subst (λ (n : Local). StoreHolds n.memory.store n.memory.events) (sym e) a;
    opened = subst (λ (n : Local). AllByRecursion (InputReady n.memory.store n.memory.events) r.opened) (sym e) b;
    grown = subst (λ (n : Local). GrowsTo s.memory n.memory) (sym e) (grows_same s.memory);
  }

  own_clear : (p : ℕ) (h : Head) (a b : Tree) (s : Local) → IsClear (record { place = p; tree = Node h a b; before = s }) → (y : ℕ) → made_by h a (Variable y) ≡ true → s.memory.store y (tuple s.indices) ≡ None
  own_clear p h a b s c y e = ap (s.memory.store y) (sym (append-nil (tuple s.indices))) ∙ c y [] (inl e)

  -- a candidate's list, condition and body

  pub record BranchHolds (Γ : Context) (us cells c : Tree) (at : Indices) (n : Store) (es : List Happened) : Type 0 where
    pub guards : Holds g variable (second_below Arm Branch us Γ) at n es
    pub items : AllByRecursion (CellHolds g variable at n) (items cells)
    pub fact : FactHolds g variable at n c
    pub body : Holds g variable (second_below Guarded Cons c (second_below Guards Cons cells (second_below Arm Branch us Γ))) at n es

  pub guarded_holds : (Γ : Context) (at : Indices) (n : Store) (es : List Happened) (cells : Tree) → Holds g variable Γ at n es → AllByRecursion (CellHolds g variable at n) (items cells) → Holds g variable (second_below Guards Cons cells Γ) at n es
  guarded_holds Γ at n es cells h l = record { cells = AllByRecursion_append (CellHolds g variable at n) Γ.cells (items cells) h.cells l; own = h.own; facts = h.facts; events = h.events }

  pub body_holds : (Γ : Context) (at : Indices) (n : Store) (es : List Happened) (c : Tree) → Holds g variable Γ at n es → FactHolds g variable at n c → Holds g variable (second_below Guarded Cons c Γ) at n es
  body_holds Γ at n es c h f = record {
    cells = AllByRecursion_append (CellHolds g variable at n) Γ.cells Γ.own h.cells h.own;
    own = tt;
    facts = AllByRecursion_append (FactHolds g variable at n) Γ.facts (c ∷ []) h.facts (f, tt);
    events = h.events;
  }

  candidate_parts : (at : Indices) (m n : Store) (cells c body : Tree) → is_candidate g at m n (Node Cons cells (Node Cons c body)) ≡ true → (are_assigned g at m n cells ≡ true) × (is_one (value g at n c) ≡ true)
  candidate_parts at m n cells c body e = go (are_assigned g at m n cells) refl e
    where
      go : (b : Bool) → are_assigned g at m n cells ≡ b → (elim b [ true ↦ is_one (value g at n c) | false ↦ false ]) ≡ true → (are_assigned g at m n cells ≡ true) × (is_one (value g at n c) ≡ true)
      go true i k = (i, k)
      go false i k = absurd (both_ways _ refl k)

  -- a branch's list and condition may read its index variables
  pub own_ready : (p : ℕ) (Γ : Context) (us rest : Tree) (at : Indices) (m : Store) (es : List Happened) (vs : List ℕ) → Stands game p Arm Γ (Node Branch us rest) → Matches g variable Γ.replications at → Holds g variable Γ at m es
      → ((y : ℕ) → is_bound us y ≡ true → m y (tuple at) ≡ None) → fits g.interpretation.parameter_value us vs ≡ true → Holds g variable (second_below Arm Branch us Γ) at (bound_to m (tuple at) us vs) es
  own_ready p Γ us rest at m es vs st k h free e =
      let n : Store = bound_to m (tuple at) us vs in
      let l : IsKept m n = bound_later m (tuple at) us vs (stands_asked g variable game fine st).0.distinct free in
      let old : Holds g variable Γ at n es = later_holds Γ at m es n es l (λ e h. h) h in
      let own : AllByRecursion (CellHolds g variable at n) (cells_of Γ.replications us) = bound_cells g variable fine.apart Γ.replications at k g.interpretation.parameter_value m n us vs (stands_asked g variable game fine st).0.distinct (stands_variable g variable game fine st) free e (λ x u v e. e) in
      record { cells = old.cells; own = AllByRecursion_append (CellHolds g variable at n) Γ.own (cells_of Γ.replications us) old.own own; facts = old.facts; events = old.events }

  pub branch_holds : (p : ℕ) (Γ : Context) (us cells c body : Tree) (at : Indices) (m : Store) (es : List Happened) (vs : List ℕ) → OnlyVariables g variable m → Stands game p Arm Γ (Node Branch us (Node Cons cells (Node Cons c body))) → Matches g variable Γ.replications at → Holds g variable Γ at m es
      → ((y : ℕ) → is_bound us y ≡ true → m y (tuple at) ≡ None) → IsChosen g at m (Node Branch us (Node Cons cells (Node Cons c body))) vs → BranchHolds Γ us cells c at (bound_to m (tuple at) us vs) es
  branch_holds p Γ us cells c body at m es vs o st k h free ch =
      let n : Store = bound_to m (tuple at) us vs in
      let rest : Tree = Node Cons cells (Node Cons c body) in
      let Γ1 : Context = second_below Arm Branch us Γ in
      let Γ2 : Context = second_below Guards Cons cells Γ1 in
      let l : IsKept m n = bound_later m (tuple at) us vs (stands_asked g variable game fine st).0.distinct free in
      let h1 : Holds g variable Γ1 at n es = own_ready p Γ us rest at m es vs st k h free ch.fitting in
      let e = candidate_parts at m n cells c body ch.candidate in
      let in_cells : Stands game _ Cells Γ1 cells = in_first refl (in_second refl st) in
      let ls : AllByRecursion (CellHolds g variable at n) (items cells) = list_cells g variable fine.apart Γ1 at m n es k h1 l o cells (stands_phrase g variable game fine in_cells) (stands_asked g variable game fine in_cells) e.0 in
      let h2 : Holds g variable Γ2 at n es = guarded_holds Γ1 at n es cells h1 ls in
      let f : FactHolds g variable at n c = record { readable = term_reads (in_first refl (in_second refl (in_second refl st))) at n es k h2; true = eqb-true (value g at n c) 1 e.1 } in
      record { guards = h1; items = ls; fact = f; body = body_holds Γ2 at n es c h2 f }

  -- each row

  -- a node of which all that is known behind it is the cell that it assigns
  record Assigned (p : ℕ) (Γ : Context) (h : Head) (a b : Tree) (x v : ℕ) (s : Local) : Type 0 where
    later : IsKept s.memory.store (put s.memory.store x (tuple s.indices) v)
    own : CellHolds g variable s.indices (put s.memory.store x (tuple s.indices) v) (cell_of Γ.replications x)
    old : Holds g variable Γ s.indices (put s.memory.store x (tuple s.indices) v) s.memory.events
    made : (y : ℕ) (w : List ℕ) (z : ℕ) → put s.memory.store x (tuple s.indices) v y w ≡ Some z → (s.memory.store y w ≡ Some z) ⊎ (((y == x) ≡ true) × (w ≡ tuple s.indices))

  cell_assigned : (p : ℕ) (σ : Phrase) (Γ : Context) (h : Head) (a b : Tree) (x v : ℕ) (s : Local) → made_by h a (Variable x) ≡ true → Stands game p σ Γ (Node h a b) → Matches g variable Γ.replications s.indices → Holds g variable Γ s.indices s.memory.store s.memory.events
      → IsClear (record { place = p; tree = Node h a b; before = s }) → Assigned p Γ h a b x v s
  cell_assigned p σ Γ h a b x v s e st k hold clear =
      let u : List ℕ = tuple s.indices in
      let n : Store = put s.memory.store x u v in
      let l : IsKept s.memory.store n = put_later s.memory.store x u v (own_clear p h a b s clear x e) in
      record {
        later = l;
        own = own_holds g variable fine.apart Γ.replications s.indices n k x (stands_variable g variable game fine st x e) (ap is_some (put_here s.memory.store x u v));
        old = later_holds Γ s.indices s.memory.store s.memory.events n s.memory.events l (λ e h. h) hold;
        made = λ y w z e. put_made s.memory.store x u v y w z e;
      }

  with_own : (p : ℕ) (Γ : Context) (h : Head) (a b : Tree) (x v : ℕ) (s : Local) → Assigned p Γ h a b x v s → Holds g variable (with_cells Γ (cell_of Γ.replications x ∷ [])) s.indices (put s.memory.store x (tuple s.indices) v) s.memory.events
  with_own p Γ h a b x v s k = record {
    cells = AllByRecursion_append (CellHolds g variable s.indices (put s.memory.store x (tuple s.indices) v)) Γ.cells (cell_of Γ.replications x ∷ []) k.old.cells (k.own, tt);
    own = k.old.own;
    facts = k.old.facts;
    events = k.old.events;
  }

  new_goes : (t : Tape) (p : ℕ) (Γ : Context) (x T : ℕ) (a b : Tree) (k : ℕ) (vs : List ℕ) (s : Local) → Stands game p Body Γ (Node (New x T) a b) → Comes Body Γ (Node (New x T) a b) k vs s → IsClear (record { place = p; tree = Node (New x T) a b; before = s })
      → turn_holds Body Nil Body Γ (New x T) a b s (step g t (New x T) a b p k vs s)
  unfolding turn_holds step
  new_goes t p Γ x T a b k vs s st come clear =
      let v : ℕ = t (New_at x (tuple s.indices)) in
      let n : Store = put s.memory.store x (tuple s.indices) v in
      let c : Assigned p Γ (New x T) a b x v s = cell_assigned p Body Γ (New x T) a b x v s (eq-eqb x x refl) st come.matches come.holds clear in
      let new : Holds g variable (second_below Body (New x T) a Γ) s.indices n s.memory.events = with_own p Γ (New x T) a b x v s c in
      record {
        comes = record { walks = refl; promise = tt; matches = come.matches; holds = new; stores = stores_more p Body Γ (New x T) a b s.indices s.memory.store n s.memory.events st come.matches c.later (λ y w z e. made_unindexed g (New x T) a s.memory.store (tuple s.indices) y w z (λ i. refl) (c.made y w z e)) new come.stores };
        grown = record { store = c.later; events = λ e h. h };
      }

  key_goes : (t : Tape) (p : ℕ) (Γ : Context) (x : ℕ) (a b : Tree) (k : ℕ) (vs : List ℕ) (s : Local) → Stands game p Body Γ (Node (Key x) a b) → Comes Body Γ (Node (Key x) a b) k vs s → IsClear (record { place = p; tree = Node (Key x) a b; before = s })
      → turn_holds Body Nil Body Γ (Key x) a b s (step g t (Key x) a b p k vs s)
  unfolding turn_holds step
  key_goes t p Γ x a b k vs s st come clear =
      let n : Store = put s.memory.store x (tuple s.indices) 0 in
      let c : Assigned p Γ (Key x) a b x 0 s = cell_assigned p Body Γ (Key x) a b x 0 s (eq-eqb x x refl) st come.matches come.holds clear in
      let new : Holds g variable (second_below Body (Key x) a Γ) s.indices n s.memory.events = with_own p Γ (Key x) a b x 0 s c in
      record {
        comes = record { walks = refl; promise = tt; matches = come.matches; holds = new; stores = stores_more p Body Γ (Key x) a b s.indices s.memory.store n s.memory.events st come.matches c.later (λ y w z e. made_unindexed g (Key x) a s.memory.store (tuple s.indices) y w z (λ i. refl) (c.made y w z e)) new come.stores };
        grown = record { store = c.later; events = λ e h. h };
      }

  call_goes : (t : Tape) (p : ℕ) (Γ : Context) (x l : ℕ) (a b : Tree) (k : ℕ) (vs : List ℕ) (s : Local) → Stands game p Body Γ (Node (Call x l) a b) → Comes Body Γ (Node (Call x l) a b) k vs s → IsClear (record { place = p; tree = Node (Call x l) a b; before = s })
      → turn_holds Body Terms Body Γ (Call x l) a b s (step g t (Call x l) a b p k vs s)
  unfolding turn_holds step
  call_goes t p Γ x l a b k vs s st come clear =
      let v : ℕ = (g.side.reply t s.memory.arrays (oracle_call g s l a)).value in
      let n : Store = put s.memory.store x (tuple s.indices) v in
      let c : Assigned p Γ (Call x l) a b x v s = cell_assigned p Body Γ (Call x l) a b x v s (eq-eqb x x refl) st come.matches come.holds clear in
      let new : Holds g variable (second_below Body (Call x l) a Γ) s.indices n s.memory.events = with_own p Γ (Call x l) a b x v s c in
      record {
        comes = record { walks = refl; promise = tt; matches = come.matches; holds = new; stores = stores_more p Body Γ (Call x l) a b s.indices s.memory.store n s.memory.events st come.matches c.later (λ y w z e. made_unindexed g (Call x l) a s.memory.store (tuple s.indices) y w z (λ i. refl) (c.made y w z e)) new come.stores };
        grown = record { store = c.later; events = λ e h. h };
      }

  let_goes : (t : Tape) (p : ℕ) (Γ : Context) (x T : ℕ) (a b : Tree) (k : ℕ) (vs : List ℕ) (s : Local) → Stands game p Body Γ (Node (Let x T) a b) → Comes Body Γ (Node (Let x T) a b) k vs s → IsClear (record { place = p; tree = Node (Let x T) a b; before = s })
      → turn_holds Body Term Body Γ (Let x T) a b s (step g t (Let x T) a b p k vs s)
  unfolding turn_holds step value
  let_goes t p Γ x T a b k vs s st come clear =
      let v : ℕ = value_here g s a in
      let n : Store = put s.memory.store x (tuple s.indices) v in
      let c : Assigned p Γ (Let x T) a b x v s = cell_assigned p Body Γ (Let x T) a b x v s (eq-eqb x x refl) st come.matches come.holds clear in
      let r : Readable g variable s.indices s.memory.store a = term_reads (in_first refl st) s.indices s.memory.store s.memory.events come.matches come.holds in
      let ext : Extends g variable s.indices s.memory.store s.indices n = store_extends g variable s.indices s.memory.store n c.later in
      let same : value g s.indices n (cell_of Γ.replications x) ≡ v = own_value g variable fine.apart Γ.replications s.indices n come.matches x (stands_variable g variable game fine st x (eq-eqb x x refl)) ∙ ap or_zero (put_here s.memory.store x (tuple s.indices) v) in
      let fact : FactHolds g variable s.indices n (Node Eq (cell_of Γ.replications x) a) = record {
        readable = (c.own.readable, readable_kept g variable s.indices s.memory.store s.indices n ext a r);
        true = ap₂ (λ i j. bit (i == j)) same (value_kept g variable s.indices s.memory.store s.indices n ext a r) ∙ ap bit (eq-eqb v v refl);
      } in
      let cell : Holds g variable (with_cells Γ (cell_of Γ.replications x ∷ [])) s.indices n s.memory.events = with_own p Γ (Let x T) a b x v s c in
      let new : Holds g variable (second_below Body (Let x T) a Γ) s.indices n s.memory.events = record {
        cells = cell.cells;
        own = cell.own;
        facts = AllByRecursion_append (FactHolds g variable s.indices n) Γ.facts (Node Eq (cell_of Γ.replications x) a ∷ []) cell.facts (fact, tt);
        events = cell.events;
      } in
      record {
        comes = record { walks = refl; promise = tt; matches = come.matches; holds = new; stores = stores_more p Body Γ (Let x T) a b s.indices s.memory.store n s.memory.events st come.matches c.later (λ y w z e. made_unindexed g (Let x T) a s.memory.store (tuple s.indices) y w z (λ i. refl) (c.made y w z e)) new come.stores };
        grown = record { store = c.later; events = λ e h. h };
      }

  input_goes : (t : Tape) (p : ℕ) (Γ : Context) (c : ℕ) (a b : Tree) (k : ℕ) (vs : List ℕ) (s : Local) → Stands game p Inputs Γ (Node (In c) a b) → Comes Inputs Γ (Node (In c) a b) k vs s → IsClear (record { place = p; tree = Node (In c) a b; before = s })
      → turn_holds Inputs Pattern Body Γ (In c) a b s (step g t (In c) a b p k vs s)
  unfolding turn_holds step
  input_goes t p Γ c a b k vs s st come clear =
      let u : List ℕ = tuple s.indices in
      let n : Store = bound_to s.memory.store u (second a) vs in
      let free : (y : ℕ) → is_bound (second a) y ≡ true → s.memory.store y u ≡ None = λ y e. own_clear p (In c) a b s clear y e in
      let l : IsKept s.memory.store n = bound_later s.memory.store u (second a) vs (stands_asked g variable game fine st).0.distinct free in
      let old : Holds g variable Γ s.indices n s.memory.events = later_holds Γ s.indices s.memory.store s.memory.events n s.memory.events l (λ e h. h) come.holds in
      let own : AllByRecursion (CellHolds g variable s.indices n) (cells_of Γ.replications (second a)) = bound_cells g variable fine.apart Γ.replications s.indices come.matches g.interpretation.type_size s.memory.store n (second a) vs (stands_asked g variable game fine st).0.distinct (stands_variable g variable game fine st) free come.promise (λ x u v e. e) in
      let new : Holds g variable (second_below Inputs (In c) a Γ) s.indices n s.memory.events = record { cells = AllByRecursion_append (CellHolds g variable s.indices n) Γ.cells (cells_of Γ.replications (second a)) old.cells own; own = old.own; facts = old.facts; events = old.events } in
      record {
        comes = record { walks = refl; promise = tt; matches = come.matches; holds = new; stores = stores_more p Inputs Γ (In c) a b s.indices s.memory.store n s.memory.events st come.matches l (λ y w z e. made_unindexed g (In c) a s.memory.store u y w z (λ i. refl) (bound_made s.memory.store u (second a) vs y w z e)) new come.stores };
        grown = record { store = l; events = λ e h. h };
      }

  event_goes : (t : Tape) (p : ℕ) (Γ : Context) (e : ℕ) (a b : Tree) (k : ℕ) (vs : List ℕ) (s : Local) → Stands game p Body Γ (Node (Event e) a b) → Comes Body Γ (Node (Event e) a b) k vs s → turn_holds Body Terms Body Γ (Event e) a b s (step g t (Event e) a b p k vs s)
  unfolding turn_holds step
  event_goes t p Γ e a b k vs s st come =
      let d : Happened = record { event = e; values = values_here g s a } in
      let fs : List Happened = s.memory.events ++ d ∷ [] in
      let w : EventsKept s.memory.events fs = recorded_push s.memory.events d in
      let old : Holds g variable Γ s.indices s.memory.store fs = later_holds Γ s.indices s.memory.store s.memory.events s.memory.store fs (λ x u v e. e) w come.holds in
      let new : EventHolds g variable s.indices s.memory.store fs (e, a) = record { readable = terms_read (in_first refl st) s.indices s.memory.store s.memory.events come.matches come.holds; recorded = recorded_last s.memory.events d } in
      record {
        comes = record {
          walks = refl;
          promise = tt;
          matches = come.matches;
          holds = record { cells = old.cells; own = old.own; facts = old.facts; events = AllByRecursion_append (EventHolds g variable s.indices s.memory.store fs) Γ.events ((e, a) ∷ []) old.events (new, tt) };
          stores = λ x u v i. site_later x u v s.memory.store s.memory.events s.memory.store fs (λ x u v e. e) w (come.stores x u v i);
        };
        grown = record { store = λ x u v e. e; events = w };
      }

  test_goes : (t : Tape) (p : ℕ) (Γ : Context) (a b : Tree) (k : ℕ) (vs : List ℕ) (s : Local) → Stands game p Body Γ (Node If a b) → Comes Body Γ (Node If a b) k vs s → turn_holds Body Term Then Γ If a b s (step g t If a b p k vs s)
  unfolding turn_holds step
  test_goes t p Γ a b k vs s st come = record {
    comes = record {
      walks = refl;
      promise = (term_reads (in_first refl st) s.indices s.memory.store s.memory.events come.matches come.holds, refl);
      matches = come.matches;
      holds = record { cells = come.holds.cells; own = come.holds.own; facts = come.holds.facts; events = come.holds.events };
      stores = come.stores;
    };
    grown = grows_same s.memory;
  }

  with_fact_holds : (Γ : Context) (at : Indices) (m : Store) (es : List Happened) (f : Tree) → Holds g variable Γ at m es → FactHolds g variable at m f → Holds g variable (with_fact Γ f) at m es
  with_fact_holds Γ at m es f h x = record { cells = h.cells; own = h.own; facts = AllByRecursion_append (FactHolds g variable at m) Γ.facts (f ∷ []) h.facts (x, tt); events = h.events }

  bodies_goes : (t : Tape) (p : ℕ) (Γ : Context) (a b : Tree) (k : ℕ) (vs : List ℕ) (s : Local) → Comes Then Γ (Node Cons a b) k vs s → turn_holds Then Body Else Γ Cons a b s (step g t Cons a b p k vs s)
  unfolding turn_holds step
  bodies_goes t p Γ a b zero vs s come =
      let e : is_one (value_here g s Γ.tested) ≡ true = go (is_one (value_here g s Γ.tested)) come.promise.1 in
      record {
        comes = record {
          walks = refl;
          promise = tt;
          matches = come.matches;
          holds = with_fact_holds Γ s.indices s.memory.store s.memory.events Γ.tested come.holds (record { readable = come.promise.0; true = eqb-true (value_here g s Γ.tested) 1 e });
          stores = come.stores;
        };
        grown = grows_same s.memory;
      }
    where
      go : (b : Bool) → ◌≡◌ {A = ℕ} 0 (cond b 0 1) → b ≡ true
      go true e = refl
      go false e = absurd (omega arith)
  bodies_goes t p Γ a b (suc k) vs s come =
      let e = go (is_one (value_here g s Γ.tested)) come.promise.1 in
      record {
        comes = record { walks = refl; promise = (come.promise.0, e.0, e.1); matches = come.matches; holds = come.holds; stores = come.stores };
        grown = grows_same s.memory;
      }
    where
      go : (b : Bool) → suc k ≡ cond b 0 1 → (k ≡ 0) × (b ≡ false)
      go true e = absurd (omega arith)
      go false e = (omega arith, refl)

  last_goes : (t : Tape) (p : ℕ) (Γ : Context) (a b : Tree) (k : ℕ) (vs : List ℕ) (s : Local) → Comes Else Γ (Node Cons a b) k vs s → turn_holds Else Body Nil Γ Cons a b s (step g t Cons a b p k vs s)
  unfolding turn_holds step value
  last_goes t p Γ a b zero vs s come = record {
    comes = record {
      walks = refl;
      promise = tt;
      matches = come.matches;
      holds = with_fact_holds Γ s.indices s.memory.store s.memory.events (Node Not Γ.tested Empty) come.holds (record { readable = (come.promise.0, tt); true = ap (λ b. bit (not b)) come.promise.2 });
      stores = come.stores;
    };
    grown = grows_same s.memory;
  }
  last_goes t p Γ a b (suc k) vs s come = let e = come.promise.1 in absurd (omega arith)

  find_goes : (t : Tape) (p : ℕ) (Γ : Context) (l : ℕ) (a b : Tree) (k : ℕ) (vs : List ℕ) (s : Local) → Comes Body Γ (Node (Find l) a b) k vs s → turn_holds Body Branches Body Γ (Find l) a b s (step g t (Find l) a b p k vs s)
  unfolding turn_holds step
  find_goes t p Γ l a b k vs s come = go (chosen (candidates g s.indices s.memory.store a) (t (Find_at l (tuple s.indices)))) (λ c e. chosen_fine (IsBranch g s.indices s.memory.store a) _ _ c (candidates_fine g s.indices s.memory.store a) e)
    where
      go : (o : Option Candidate) → ((c : Candidate) → o ≡ Some c → IsBranch g s.indices s.memory.store a c) → turn_holds Body Branches Body Γ (Find l) a b s (after_find s o)
      go None h = record { comes = record { walks = refl; promise = tt; matches = come.matches; holds = come.holds; stores = come.stores }; grown = grows_same s.memory }
      go (Some c) h = record { comes = record { walks = refl; promise = h c refl; matches = come.matches; holds = come.holds; stores = come.stores }; grown = grows_same s.memory }

  branches_goes : (t : Tape) (p : ℕ) (Γ : Context) (a b : Tree) (k : ℕ) (vs : List ℕ) (s : Local) → Comes Branches Γ (Node Cons a b) k vs s → turn_holds Branches Arm Branches Γ Cons a b s (step g t Cons a b p k vs s)
  unfolding turn_holds step
  branches_goes t p Γ a b zero vs s come = record { comes = record { walks = refl; promise = come.promise; matches = come.matches; holds = come.holds; stores = come.stores }; grown = grows_same s.memory }
  branches_goes t p Γ a b (suc k) vs s come = record { comes = record { walks = refl; promise = come.promise; matches = come.matches; holds = come.holds; stores = come.stores }; grown = grows_same s.memory }

  pub data GuardsShape : Tree → Type 0 where
    shape : (cells c body : Tree) → GuardsShape (Node Cons cells (Node Cons c body))

  pub guards_shape : (b : Tree) → is_oracle_phrase Guards b ≡ true → GuardsShape b
  unfolding is_oracle_phrase
  guards_shape Empty f = absurd (both_ways _ refl f)
  guards_shape (Node Cons cells Empty) f = absurd (both_ways _ refl (and_parts (is_oracle_phrase Cells cells) _ f).1)
  guards_shape (Node Cons cells (Node Cons c body)) f = shape cells c body
  guards_shape (Node Cons cells (Node h c body)) f = absurd (both_ways _ refl (and_parts (is_oracle_phrase Cells cells) _ f).1)
  guards_shape (Node h cells b) f = absurd (both_ways _ refl f)

  branch_goes : (t : Tape) (p : ℕ) (Γ : Context) (a b : Tree) (k : ℕ) (vs : List ℕ) (s : Local) → GuardsShape b → Stands game p Arm Γ (Node Branch a b) → Comes Arm Γ (Node Branch a b) k vs s → IsClear (record { place = p; tree = Node Branch a b; before = s })
      → turn_holds Arm Binders Guards Γ Branch a b s (step g t Branch a b p k vs s)
  unfolding turn_holds step
  branch_goes t p Γ us b k vs s (shape cells c body) st come clear =
      let u : List ℕ = tuple s.indices in
      let n : Store = bound_to s.memory.store u us vs in
      let free : (y : ℕ) → is_bound us y ≡ true → s.memory.store y u ≡ None = λ y e. own_clear p Branch us (Node Cons cells (Node Cons c body)) s clear y e in
      let l : IsKept s.memory.store n = bound_later s.memory.store u us vs (stands_asked g variable game fine st).0.distinct free in
      let h : BranchHolds Γ us cells c s.indices n s.memory.events = branch_holds p Γ us cells c body s.indices s.memory.store s.memory.events vs (only_variables s.memory.store s.memory.events come.stores) st come.matches come.holds free come.promise in
      record {
        comes = record {
          walks = refl;
          promise = (refl, (h.items, h.fact));
          matches = come.matches;
          holds = h.guards;
          stores = stores_more p Arm Γ Branch us (Node Cons cells (Node Cons c body)) s.indices s.memory.store n s.memory.events st come.matches l (λ y w z e. bound_values_below g.interpretation.parameter_value s.memory.store u us vs come.promise.fitting y w z e) h.body come.stores;
        };
        grown = record { store = l; events = λ e h. h };
      }

  guards_goes : (t : Tape) (p : ℕ) (Γ : Context) (a b : Tree) (k : ℕ) (vs : List ℕ) (s : Local) → GuardsShape (Node Cons a b) → Comes Guards Γ (Node Cons a b) k vs s → turn_holds Guards Cells Guarded Γ Cons a b s (step g t Cons a b p k vs s)
  unfolding turn_holds step
  guards_goes t p Γ a b zero vs s q come = let e = come.promise.0 in absurd (omega arith)
  guards_goes t p Γ a b (suc k) vs s (shape cells c body) come = record {
    comes = record {
      walks = refl;
      promise = ((let e = come.promise.0 in let i : k ≡ 1 = omega arith in i), come.promise.1.1);
      matches = come.matches;
      holds = guarded_holds Γ s.indices s.memory.store s.memory.events cells come.holds come.promise.1.0;
      stores = come.stores;
    };
    grown = grows_same s.memory;
  }

  guarded_goes : (t : Tape) (p : ℕ) (Γ : Context) (a b : Tree) (k : ℕ) (vs : List ℕ) (s : Local) → Comes Guarded Γ (Node Cons a b) k vs s → turn_holds Guarded Term Body Γ Cons a b s (step g t Cons a b p k vs s)
  unfolding turn_holds step
  guarded_goes t p Γ a b zero vs s come = let e = come.promise.0 in absurd (omega arith)
  guarded_goes t p Γ a b (suc k) vs s come = record {
    comes = record { walks = refl; promise = tt; matches = come.matches; holds = body_holds Γ s.indices s.memory.store s.memory.events a come.holds come.promise.1; stores = come.stores };
    grown = grows_same s.memory;
  }

  -- a row of the table

  pub step_goes : (t : Tape) (σ τ ρ : Phrase) (h : Head) → Row σ h τ ρ → (p : ℕ) (Γ : Context) (a b : Tree) (k : ℕ) (vs : List ℕ) (s : Local) → Stands game p σ Γ (Node h a b) → Comes σ Γ (Node h a b) k vs s → IsClear (record { place = p; tree = Node h a b; before = s })
      → turn_holds σ τ ρ Γ h a b s (step g t h a b p k vs s)
  unfolding turn_holds step
  step_goes t _ _ _ _ Rows.Row.stop p Γ a b k vs s st come clear = done_same s _ refl come.stores tt
  step_goes t _ _ _ _ Rows.Row.par p Γ a b k vs s st come clear = done_same s _ refl come.stores tt
  step_goes t _ _ _ _ Rows.Row.repl p Γ a b k vs s st come clear = done_same s _ refl come.stores tt
  step_goes t _ _ _ _ (Rows.Row.input {c = c}) p Γ a b k vs s st come clear = input_goes t p Γ c a b k vs s st come clear
  step_goes t _ _ _ _ Rows.Row.yield p Γ a b k vs s st come clear = done_same s _ refl come.stores tt
  step_goes t _ _ _ _ (Rows.Row.output {c = c}) p Γ a b k vs s st come clear =
      done_same s _ refl come.stores (inputs_hold b (second_place p (Out c) a) Γ s.indices s.memory.store s.memory.events (in_second refl st) come.matches come.holds)
  step_goes t _ _ _ _ (Rows.Row.restriction {x = x} {T = T}) p Γ a b k vs s st come clear = new_goes t p Γ x T a b k vs s st come clear
  step_goes t _ _ _ _ (Rows.Row.definition {x = x} {T = T}) p Γ a b k vs s st come clear = let_goes t p Γ x T a b k vs s st come clear
  step_goes t _ _ _ _ (Rows.Row.key {x = x}) p Γ a b k vs s st come clear = key_goes t p Γ x a b k vs s st come clear
  step_goes t _ _ _ _ (Rows.Row.call {x = x} {l = l}) p Γ a b k vs s st come clear = call_goes t p Γ x l a b k vs s st come clear
  step_goes t _ _ _ _ (Rows.Row.event {e = e}) p Γ a b k vs s st come clear = event_goes t p Γ e a b k vs s st come
  step_goes t _ _ _ _ Rows.Row.test p Γ a b k vs s st come clear = test_goes t p Γ a b k vs s st come
  step_goes t _ _ _ _ Rows.Row.bodies p Γ a b k vs s st come clear = bodies_goes t p Γ a b k vs s come
  step_goes t _ _ _ _ Rows.Row.last_body p Γ a b k vs s st come clear = last_goes t p Γ a b k vs s come
  step_goes t _ _ _ _ (Rows.Row.find {l = l}) p Γ a b k vs s st come clear = find_goes t p Γ l a b k vs s come
  step_goes t _ _ _ _ Rows.Row.branches p Γ a b k vs s st come clear = branches_goes t p Γ a b k vs s come
  step_goes t _ _ _ _ Rows.Row.branch p Γ a b k vs s st come clear =
      branch_goes t p Γ a b k vs s (guards_shape b (stands_phrase g variable game fine (in_second refl st))) st come clear
  step_goes t _ _ _ _ Rows.Row.guards p Γ a b k vs s st come clear = guards_goes t p Γ a b k vs s (guards_shape (Node Cons a b) (stands_phrase g variable game fine st)) come
  step_goes t _ _ _ _ Rows.Row.guarded p Γ a b k vs s st come clear = guarded_goes t p Γ a b k vs s come
