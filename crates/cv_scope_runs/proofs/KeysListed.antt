-- In a run of a well-formed context each consulted key is in the list of cells: it is assigned, and so at a copy of its definition.
use Rattle.std.proofs.Common.{◌≡◌, ◌≢◌, ℕ, zero, suc, ◌<◌, Bool, true, false, cond, ◌&&◌, ◌==◌, not, is_some, List, [], ◌∷◌, ◌++◌, map, flat_map, ◌⊎◌, inl, inr, Option, Some, None, refl, sym, ap, subst, ◌∙◌, arith, eqb-true}
use Rattle.std.proofs.lemmas.Bool.{both_ways, and_parts, eqb-false, not-true, or_right}
use Rattle.std.specs.List.{AllByRecursion}
use Rattle.cv_syntax_trees.specs.declared.head.Head.{Head}
use Rattle.cv_syntax_trees.specs.declared.head.Head.TheVariants.{Repl, New, Find, Leaf, Read, Key, Call}
use Rattle.cv_syntax_trees.specs.Declarations.{Declaration}
use Rattle.cv_syntax_trees.specs.Tree.{Tree, Empty, Node, first, first_place, second_place}
use Rattle.cv_meaning.specs.Tapes.{Cell, Tape, Key_at, Test_at, cells_of, is_in}
use Rattle.cv_meaning.specs.Interpretation.{Setting}
use Rattle.cv_meaning.specs.Memory.{Indices, Happened, Local, Store, tuple}
use Rattle.cv_meaning.specs.Terms.{found_in, values_here}
use Rattle.cv_meaning.specs.Candidates.{below}
use Rattle.cv_meaning.specs.Serving.{Visit, key_tuple}
use Rattle.cv_meaning.specs.Runs.{Mode, Random, Real, Events, Adversary, State}
use Rattle.cv_meaning.specs.Cells.{tuples_below, bounds_under, at_each_copy, cells_at, test_cells, coin_cells, cells}
use Rattle.cv_meaning.specs.Consulted.{consulted_at, is_key}
use Rattle.cv_meaning.specs.Experiments.{visits_of_run, coins_on}
use Rattle.cv_meaning_laws.proofs.Listed.{Sized, Has, has_left, has_right, has_flat_map, Within, within_has, is_in_without_repeats}
use Rattle.cv_meaning_runs.specs.Listed.{AreKeysListed}
use Rattle.cv_meaning_runs.specs.Moments.{Moment, Visited, Tested, cells_of_moment, cells_of_test, moments_of_run, visits_among, cells_of_run}
use Rattle.cv_meaning_runs.proofs.Together.{visits_among_moments}
use Rattle.cv_scope_rules.specs.Context.{Context, replications_below}
use Rattle.cv_scope_rules.specs.Scope.{is_untyped_in, is_variable}
use Rattle.cv_scope_rules.specs.Sites.{Variable}
use Rattle.cv_scope_rules.proofs.Apart.{first_replications, second_replications}
use Rattle.cv_scope_rules.specs.Phrases.{Phrase, Nil, Inputs, oracle_parts, is_oracle_phrase, IsWellFormedContext, HasConstantsOf}
use Rattle.cv_scope_rules.specs.Made.{made_by}
use Rattle.cv_scope_runs.specs.Keys.{HasOwnCells, calls_read_keys, has_keys_alone, head_keys, head_reads_key, is_key_of, reads_key}
use Rattle.cv_scope_runs.specs.Promises.{AreIndicesOf, after_site}
use Rattle.cv_scope_runs.specs.Reads.{LeafAssigned, TermsAssigned, VisitReadsAssigned}
use Rattle.cv_scope_runs.proofs.TermsLater.{some_of}
use Rattle.cv_scope_runs.proofs.Contexts.{Matches, not_constant, variable_none}
use Rattle.cv_scope_runs.proofs.Rows.{position_of}
use Rattle.cv_scope_runs.proofs.Standing.{Stands, root, in_first, in_second}
use Rattle.cv_scope_runs.proofs.Games.{Game, stands_phrase, variable_site}
use Rattle.cv_scope_runs.proofs.PathRuns.{SiteHolds, StoreHolds}
use Rattle.cv_scope_runs.proofs.ServeRuns.{VisitHolds, Moves, game_holds}
use Rattle.cv_scope_runs.proofs.FactsRuns.{all_reads_assigned, well_game}
use Rattle.cv_meaning_laws.proofs.adequacy.Lists.{has_below}
use Rattle.cv_syntax_trees.proofs.lists.Each.{AllByRecursion_append, AllByRecursion_weaker, AllByRecursion_both}

-- what holds of each node of the tree holds where a subtree stands

stands_keys : (game : Tree) (x : ℕ) → has_keys_alone x game ≡ true → {p : ℕ} {σ : Phrase} {Γ : Context} {b : Tree} → Stands game p σ Γ b → has_keys_alone x b ≡ true
unfolding has_keys_alone
stands_keys game x e root = e
stands_keys game x e (in_first {h = h} {a = a} i st) = (and_parts (has_keys_alone x a) _ (and_parts (head_keys x h a) _ (stands_keys game x e st)).1).0
stands_keys game x e (in_second {h = h} {a = a} i st) = (and_parts (has_keys_alone x a) _ (and_parts (head_keys x h a) _ (stands_keys game x e st)).1).1

stands_calls : (game : Tree) → calls_read_keys game game ≡ true → {p : ℕ} {σ : Phrase} {Γ : Context} {b : Tree} → Stands game p σ Γ b → calls_read_keys game b ≡ true
unfolding calls_read_keys
stands_calls game e root = e
stands_calls game e (in_first {h = h} {a = a} i st) = (and_parts (calls_read_keys game a) _ (and_parts (head_reads_key game h a) _ (stands_calls game e st)).1).0
stands_calls game e (in_second {h = h} {a = a} i st) = (and_parts (calls_read_keys game a) _ (and_parts (head_reads_key game h a) _ (stands_calls game e st)).1).1

-- tuples below bounds

abbrev bounds : Setting → List (ℕ × ℕ) → List ℕ
bounds g rs = map (λ (r : ℕ × ℕ). g.interpretation.parameter_value r.1) rs

indices_within : (g : Setting) (at : Indices) (rs : List (ℕ × ℕ)) → AreIndicesOf g at rs → Within (tuple at) (bounds g rs)
indices_within g [] [] h = tt
indices_within g [] (r ∷ rs) h = absurd h
indices_within g (p ∷ at) [] h = absurd h
indices_within g (p ∷ at) (r ∷ rs) h = (has_below (g.interpretation.parameter_value r.1) p.1 h.1, indices_within g at rs h.2)

bounds_push : (g : Setting) (rs : List (ℕ × ℕ)) (i n : ℕ) → bounds g (rs ++ (i, n) ∷ []) ≡ bounds g rs ++ g.interpretation.parameter_value n ∷ []
bounds_push g [] i n = refl
bounds_push g (r ∷ rs) i n = ap (λ l. g.interpretation.parameter_value r.1 ∷ l) (bounds_push g rs i n)

bounds_below : (g : Setting) (h : Head) (rs : List (ℕ × ℕ)) → bounds g (replications_below h rs) ≡ bounds_under g (bounds g rs) h
bounds_below g (Repl i n) rs = bounds_push g rs i n
bounds_below g h rs = refl

-- the cells of a subtree are among those of the context

pub replicated_nil : (σ τ ρ : Phrase) (i n : ℕ) → oracle_parts σ (Repl i n) ≡ Some (τ, ρ) → τ ≡ Nil
replicated_nil Inputs τ ρ i n e = nil τ ρ e
  where
    nil : (τ ρ : Phrase) → ◌≡◌ {A = Option (Phrase × Phrase)} (Some (Nil, Inputs)) (Some (τ, ρ)) → τ ≡ Nil
    nil τ ρ e = let q : (Nil, Inputs) ≡ (τ, ρ) = cc in sym (ap (λ (r : Phrase × Phrase). r.0) q)
replicated_nil Nil τ ρ i n e = absurd (none τ ρ e)
  where
    none : (τ ρ : Phrase) → ◌≡◌ {A = Option (Phrase × Phrase)} None (Some (τ, ρ)) → ⊥
    none τ ρ e = cc
replicated_nil σ τ ρ i n e = absurd (none τ ρ e)
  where
    none : (τ ρ : Phrase) → ◌≡◌ {A = Option (Phrase × Phrase)} None (Some (τ, ρ)) → ⊥
    none τ ρ e = cc

nil_has : (g : Setting) (ns : List ℕ) (a : Tree) → is_oracle_phrase Nil a ≡ true → (d : Sized) → Has (at_each_copy g (cells_at g) ns a) d → ⊥
unfolding is_oracle_phrase at_each_copy
nil_has g ns Empty f d k = k
nil_has g ns (Node h a b) f d k = both_ways _ refl f

module _ (g : Setting) (variable : ℕ → Bool) (game : Tree) (fine : Game g variable game) where
  first_bounds : (σ τ ρ : Phrase) (h : Head) (rs : List (ℕ × ℕ)) (a : Tree) (d : Sized) → oracle_parts σ h ≡ Some (τ, ρ) → is_oracle_phrase τ a ≡ true → Has (at_each_copy g (cells_at g) (bounds g rs) a) d → Has (at_each_copy g (cells_at g) (bounds_under g (bounds g rs) h) a) d
  first_bounds σ τ ρ (Repl i n) rs a d e f k = absurd (nil_has g (bounds g rs) a (subst (λ φ. is_oracle_phrase φ a ≡ true) (replicated_nil σ τ ρ i n e) f) d k)
  first_bounds σ τ ρ h rs a d e f k = k

  covered : {p : ℕ} {σ : Phrase} {Γ : Context} {b : Tree} → Stands game p σ Γ b → (d : Sized) → Has (at_each_copy g (cells_at g) (bounds g Γ.replications) b) d → Has (at_each_copy g (cells_at g) [] game) d
  unfolding at_each_copy
  covered root d k = k
  covered (in_first {p = p} {σ = σ} {τ = τ} {ρ = ρ} {Γ = Γ} {h = h} {a = a} {b = b} e st) d k =
      let ns : List ℕ = bounds g Γ.replications in
      covered st d (has_right (flat_map (cells_at g h) (tuples_below ns)) _ d (has_left (at_each_copy g (cells_at g) (bounds_under g ns h) a) (at_each_copy g (cells_at g) (bounds_under g ns h) b) d
      (first_bounds σ τ ρ h Γ.replications a d e (stands_phrase g variable game fine (in_first e st)) (subst (λ rs. Has (at_each_copy g (cells_at g) (bounds g rs) a) d) (first_replications (position_of σ) h Γ) k))))
  covered (in_second {p = p} {σ = σ} {τ = τ} {ρ = ρ} {Γ = Γ} {h = h} {a = a} {b = b} e st) d k =
      let ns : List ℕ = bounds g Γ.replications in
      covered st d (has_right (flat_map (cells_at g h) (tuples_below ns)) _ d (has_right (at_each_copy g (cells_at g) (bounds_under g ns h) a) (at_each_copy g (cells_at g) (bounds_under g ns h) b) d
      (subst (λ l. Has (at_each_copy g (cells_at g) l b) d) (ap (bounds g) (second_replications (position_of σ) h a Γ) ∙ bounds_below g h Γ.replications) k)))

  -- the cell of a key at a copy of its definition
  key_listed : {p : ℕ} {σ : Phrase} (Γ : Context) (x : ℕ) (a b : Tree) (at : Indices) → Stands game p σ Γ (Node (Key x) a b) → AreIndicesOf g at Γ.replications → Has (at_each_copy g (cells_at g) [] game) (Key_at (tuple at), g.side.key_size)
  unfolding at_each_copy
  key_listed Γ x a b at st i =
      let ns : List ℕ = bounds g Γ.replications in
      covered st (Key_at (tuple at), g.side.key_size) (has_left (flat_map (cells_at g (Key x)) (tuples_below ns)) _ (Key_at (tuple at), g.side.key_size)
      (has_flat_map (cells_at g (Key x)) (tuples_below ns) (tuple at) (Key_at (tuple at), g.side.key_size) (within_has (tuple at) ns (indices_within g at Γ.replications i)) (inl refl)))

  -- an assigned key is at such a copy
  assigned_listed : (x : ℕ) → has_keys_alone x game ≡ true → (m : Store) (es : List Happened) → StoreHolds g variable game fine m es → (u : List ℕ) → is_some (m x u) ≡ true → Has (at_each_copy g (cells_at g) [] game) (Key_at u, g.side.key_size)
  unfolding has_keys_alone
  assigned_listed x k m es s u e =
      let r = some_of (m x u) e in
      let h : SiteHolds g variable game fine x u r.0 m es = s x u r.0 r.1 in
      go h.above h.head h.one h.two h.indices h.stands h.defines h.at h.matches.named (and_parts (head_keys x h.head h.one) _ (stands_keys game x k h.stands)).0
    where
      go : {p : ℕ} {σ : Phrase} (Γ : Context) (h : Head) (a b : Tree) (at : Indices) → Stands game p σ Γ (Node h a b) → made_by h a (Variable x) ≡ true → tuple at ≡ u → AreIndicesOf g at (after_site h a b Γ).replications → head_keys x h a ≡ true → Has (at_each_copy g (cells_at g) [] game) (Key_at u, g.side.key_size)
      go Γ (Key y) a b at st d q i j = subst (λ w. Has (at_each_copy g (cells_at g) [] game) (Key_at w, g.side.key_size)) q (key_listed Γ y a b at st i)
      go Γ h a b at st d q i j = absurd (both_ways _ (not-true _ j) d)

  -- the key that a call consults

  key_read : (x : ℕ) → is_key_of game x ≡ true → ((y : ℕ) → is_untyped_in y game ≡ true → variable y ≡ true) → {rs : List (ℕ × ℕ)} (at : Indices) → Matches g variable rs at → (found_in at x ≡ None) × (g.is_constant x ≡ false)
  key_read x e own at k = let v = own x (and_parts (is_untyped_in x game) _ e).0 in (variable_none g variable _ at k x v, not_constant g variable fine.apart x v)

  call_listed : ((y : ℕ) → is_untyped_in y game ≡ true → variable y ≡ true) → (rs : List (ℕ × ℕ)) (s : Local) (a : Tree) → Matches g variable rs s.indices → StoreHolds g variable game fine s.memory.store s.memory.events → TermsAssigned g s.indices s.memory.store a → reads_key game (first a) ≡ true → Has (at_each_copy g (cells_at g) [] game) (Key_at (key_tuple g s (first a)), g.side.key_size)
  call_listed own rs s Empty k st r e = absurd (both_ways _ refl e)
  call_listed own rs s (Node h (Node (Leaf x) i j) more) k st r e =
      let free = key_read x e own s.indices k in
      assigned_listed x (and_parts (is_untyped_in x game) _ e).1 s.memory.store s.memory.events st [] (leaf free.0 free.1 (found_in s.indices x) refl r.0)
    where
      leaf : found_in s.indices x ≡ None → g.is_constant x ≡ false → (o : Option ℕ) → found_in s.indices x ≡ o → LeafAssigned g s.memory.store x o → is_some (s.memory.store x []) ≡ true
      leaf n c (Some v) q z = absurd (clash v (sym q ∙ n))
        where
          clash : (v : ℕ) → ◌≡◌ {A = Option ℕ} (Some v) None → ⊥
          clash v i = cc
      leaf n c None q (inl z) = absurd (both_ways _ c z)
      leaf n c None q (inr z) = z
  call_listed own rs s (Node h (Node (Read x) i j) more) k st r e =
      assigned_listed x (and_parts (is_untyped_in x game) _ e).1 s.memory.store s.memory.events st (values_here g s i) r.0.0
  call_listed own rs s (Node h t more) k st r e = absurd (both_ways _ refl e)

-- the cells of a run

IsKeyListed : Setting → Mode → Adversary → Tree → Cell → Type 0
IsKeyListed g m a game c = is_key c ≡ true → is_in (cells g m a game) c ≡ true

no_keys : (g : Setting) (m : Mode) (a : Adversary) (game : Tree) (cs : List Cell) → AllByRecursion (λ c. is_key c ≡ false) cs → AllByRecursion (IsKeyListed g m a game) cs
unfolding IsKeyListed
no_keys g m a game cs h = AllByRecursion_weaker (λ c. is_key c ≡ false) (λ c. is_key c ≡ true → is_in (cells g m a game) c ≡ true) (λ c n k. absurd (both_ways _ n k)) cs h

coins_no_key : (k : ℕ) (ns : List ℕ) → AllByRecursion (λ c. is_key c ≡ false) (cells_of (coin_cells k ns))
coins_no_key k [] = tt
coins_no_key k (n ∷ ns) = (refl, coins_no_key (suc k) ns)

tests_no_key : (m : Mode) (st : State) (u : List ℕ) → AllByRecursion (λ c. is_key c ≡ false) (cells_of_test m st u)
tests_no_key Events st u = tt
tests_no_key (Real one x) st u = tt
tests_no_key (Random one x) st u = go (one && st.tested) (is_some (st.memory.store x u))
  where
    go : (b r : Bool) → AllByRecursion (λ c. is_key c ≡ false) (cond b [] (cond r (Test_at u ∷ []) []))
    go true r = tt
    go false false = tt
    go false true = (refl, tt)

moments_listed : (g : Setting) (m : Mode) (a : Adversary) (game : Tree) (xs : List Moment) → AllByRecursion (λ (v : Visit). AllByRecursion (IsKeyListed g m a game) (consulted_at g v.tree v.before)) (visits_among xs) → AllByRecursion (IsKeyListed g m a game) (flat_map (cells_of_moment g m) xs)
moments_listed g m a game [] h = tt
moments_listed g m a game (Visited v ∷ xs) h = AllByRecursion_append (IsKeyListed g m a game) (consulted_at g v.tree v.before) _ h.0 (moments_listed g m a game xs h.1)
moments_listed g m a game (Tested u st ∷ xs) h = AllByRecursion_append (IsKeyListed g m a game) (cells_of_test m st u) _ (no_keys g m a game _ (tests_no_key m st u)) (moments_listed g m a game xs h)

module _ (ds : List Declaration) (g : Setting) (m : Mode) (a : Adversary) (game : Tree) (t : Tape) (same : HasConstantsOf ds g) (well : IsWellFormedContext ds game) (keys : calls_read_keys game game ≡ true) (own : HasOwnCells g.side) where
  fine : Game g (is_variable game) game
  fine = well_game ds g game same well

  Listed : Cell → Type 0
  Listed = IsKeyListed g m a game

  listed_in : (u : List ℕ) → Has (at_each_copy g (cells_at g) [] game) (Key_at u, g.side.key_size) → is_in (cells g m a game) (Key_at u) ≡ true
  unfolding cells
  listed_in u h = is_in_without_repeats (at_each_copy g (cells_at g) [] game ++ (test_cells g m game ++ coin_cells 0 a.coins)) (Key_at u, g.side.key_size) (has_left (at_each_copy g (cells_at g) [] game) _ (Key_at u, g.side.key_size) h)

  untyped : (y : ℕ) → is_untyped_in y game ≡ true → is_variable game y ≡ true
  untyped y e = or_right _ (is_untyped_in y game) e

  consulted_listed : {p : ℕ} {σ : Phrase} (Γ : Context) (b : Tree) (s : Local) → Stands game p σ Γ b → Matches g (is_variable game) Γ.replications s.indices → StoreHolds g (is_variable game) game fine s.memory.store s.memory.events
      → VisitReadsAssigned g (record { place = p; tree = b; before = s }) → AllByRecursion Listed (consulted_at g b s)
  unfolding IsKeyListed Listed calls_read_keys
  consulted_listed Γ Empty s st k h r = tt
  consulted_listed Γ (Node (New x T) c b) s st k h r = ((λ e. absurd (both_ways _ refl e)), tt)
  consulted_listed Γ (Node (Find l) c b) s st k h r = ((λ e. absurd (both_ways _ refl e)), tt)
  consulted_listed Γ (Node (Call x l) c b) s st k h r = (
    λ e. listed_in (key_tuple g s (first c)) (call_listed g (is_variable game) game fine untyped Γ.replications s c k h r (and_parts (reads_key game (first c)) _ (stands_calls game keys st)).0),
    no_keys g m a game _ (own (record { tuple = tuple s.indices; site = l })),
  )
  consulted_listed Γ (Node i c b) s st k h r = tt

  pub keys_listed : AreKeysListed g m a game t
  unfolding IsKeyListed Listed visits_of_run
  keys_listed =
      AllByRecursion_append Listed (cells_of (coin_cells 0 a.coins)) _ (no_keys g m a game _ (coins_no_key 0 a.coins))
      (moments_listed g m a game (moments_of_run g m a game t)
      (subst (AllByRecursion (λ (v : Visit). AllByRecursion Listed (consulted_at g v.tree v.before))) (sym (visits_among_moments g m a game t))
      (AllByRecursion_both (VisitHolds g (is_variable game) game fine) (VisitReadsAssigned g) (λ (v : Visit). AllByRecursion Listed (consulted_at g v.tree v.before))
      (λ v h r. consulted_listed h.above v.tree v.before h.stands h.matches h.stores r) _
      (game_holds g (is_variable game) game fine m (a.next (coins_on t 0 a.coins)) t a.moves).passes.visits (all_reads_assigned ds g m (a.next (coins_on t 0 a.coins)) t a.moves game same well))))
