-- The cells of an experiment: none stands twice, and each that a run consults is among them.
use Rattle.std.proofs.Common.{◌≡◌, ℕ, zero, suc, Bool, true, false, cond, ◌||◌, not, List, [], ◌∷◌, ◌++◌, filter, flat_map, map, ◌⊎◌, inl, inr, Option, Some, None, refl, sym, ap, subst, ◌∙◌, append_assoc}
use Rattle.std.proofs.lemmas.Bool.{both_ways}
use Rattle.std.specs.List.{AllByRecursion, IsDistinct}
use Rattle.cv_syntax_trees.specs.declared.head.Head.{Head}
use Rattle.cv_syntax_trees.specs.declared.head.Head.TheVariants.{Par, Repl, In, Out, Event, New, Let, If, Find, Branch, Cons, Key, Call}
use Rattle.cv_syntax_trees.specs.Tree.{Tree, Empty, Node}
use Rattle.cv_meaning.specs.Tapes.{Cell, Tape, Find_at, same_cell, cells_of, is_in}
use Rattle.cv_meaning.specs.Interpretation.{Setting}
use Rattle.cv_meaning.specs.Memory.{Indices, tuple, Local}
use Rattle.cv_meaning.specs.Candidates.{Candidate, below, candidates, chosen}
use Rattle.cv_meaning.specs.Inputs.{Input, inputs_of}
use Rattle.cv_meaning.specs.Serving.{Served, Visit, after_find, after_turn, step, serve, visits}
use Rattle.cv_meaning.specs.Consulted.{consulted_by, consulted_at, consulted, is_key, IsListed}
use Rattle.cv_meaning.specs.Runs.{Mode, Answer, Move, Calls, Tests, Guesses, State, Adversary, Taken, called, told, tested_with, moved, admitted, next_move, by_move, run_visits, visits_of_move, visits_of_call, start}
use Rattle.cv_meaning.specs.Cells.{tuples_below, bounds_under, at_each_copy, cells_at, without_repeats, test_cells, coin_cells, cells}
use Rattle.cv_meaning.specs.Experiments.{visits_of_run, coins_on}
use Rattle.cv_meaning_laws.proofs.Counts.{same_cell_refl, same_cell_exact}
use Rattle.cv_meaning_laws.proofs.Moves.{TakenEach, admitted_each}
use Rattle.cv_syntax_trees.proofs.lists.Each.{AllByRecursion_weaker, AllByRecursion_append}

abbrev pub Has : {A : Type 0} → List A → A → Type 0
Has [] a = ⊥
Has (x ∷ xs) a = (a ≡ x) ⊎ Has xs a

pub has_left : {A : Type 0} (xs ys : List A) (a : A) → Has xs a → Has (xs ++ ys) a
has_left [] ys a h = absurd h
has_left (x ∷ xs) ys a (inl h) = inl h
has_left (x ∷ xs) ys a (inr h) = inr (has_left xs ys a h)

pub has_right : {A : Type 0} (xs ys : List A) (a : A) → Has ys a → Has (xs ++ ys) a
has_right [] ys a h = h
has_right (x ∷ xs) ys a h = inr (has_right xs ys a h)

pub has_map : {A B : Type 0} (f : A → B) (xs : List A) (a : A) → Has xs a → Has (map f xs) (f a)
has_map f [] a h = absurd h
has_map f (x ∷ xs) a (inl h) = inl (ap f h)
has_map f (x ∷ xs) a (inr h) = inr (has_map f xs a h)

pub has_flat_map : {A B : Type 0} (f : A → List B) (xs : List A) (a : A) (b : B) → Has xs a → Has (f a) b → Has (flat_map f xs) b
has_flat_map f [] a b h k = absurd h
has_flat_map f (x ∷ xs) a b (inl h) k = has_left (f x) (flat_map f xs) b (subst (λ y. Has (f y) b) h k)
has_flat_map f (x ∷ xs) a b (inr h) k = has_right (f x) (flat_map f xs) b (has_flat_map f xs a b h k)

pub each_flat_map_in : {A B : Type 0} (P : B → Type 0) (f : A → List B) (xs : List A) → ((x : A) → Has xs x → AllByRecursion P (f x)) → AllByRecursion P (flat_map f xs)
each_flat_map_in P f [] h = tt
each_flat_map_in P f (x ∷ xs) h = AllByRecursion_append P (f x) (flat_map f xs) (h x (inl refl)) (each_flat_map_in P f xs (λ y k. h y (inr k)))

pub each_map_in : {A B : Type 0} (P : B → Type 0) (f : A → B) (xs : List A) → ((x : A) → Has xs x → P (f x)) → AllByRecursion P (map f xs)
each_map_in P f [] h = tt
each_map_in P f (x ∷ xs) h = (h x (inl refl), each_map_in P f xs (λ y k. h y (inr k)))

-- the list without repeats

abbrev pub Sized : Type 0
Sized = Cell × ℕ

abbrev pub is_not : Sized → Sized → Bool
is_not e d = not (same_cell d.0 e.0)

pub apart_back : (c d : Cell) → same_cell c d ≡ false → same_cell d c ≡ false
apart_back c d h = go (same_cell d c) refl
  where
    go : (b : Bool) → same_cell d c ≡ b → b ≡ false
    go true e = absurd (both_ways _ h (ap (same_cell c) (same_cell_exact d c e) ∙ same_cell_refl c))
    go false e = refl

pub all_filtered : (P : Cell → Type 0) (p : Sized → Bool) (cs : List Sized) → AllByRecursion P (cells_of cs) → AllByRecursion P (cells_of (filter p cs))
all_filtered P p [] h = tt
all_filtered P p (d ∷ cs) h = go (p d) (all_filtered P p cs h.1)
  where
    go : (b : Bool) → AllByRecursion P (cells_of (filter p cs)) → AllByRecursion P (cells_of (cond b (d ∷ filter p cs) (filter p cs)))
    go true k = (h.0, k)
    go false k = k

distinct_filtered : (p : Sized → Bool) (cs : List Sized) → IsDistinct same_cell (cells_of cs) → IsDistinct same_cell (cells_of (filter p cs))
unfolding IsDistinct
distinct_filtered p [] h = tt
distinct_filtered p (d ∷ cs) h = go (p d) (distinct_filtered p cs h.1)
  where
    go : (b : Bool) → IsDistinct same_cell (cells_of (filter p cs)) → IsDistinct same_cell (cells_of (cond b (d ∷ filter p cs) (filter p cs)))
    go true k = (all_filtered (λ y. same_cell d.0 y ≡ false) p cs h.0, k)
    go false k = k

apart_filtered : (e : Sized) (cs : List Sized) → AllByRecursion (λ y. same_cell e.0 y ≡ false) (cells_of (filter (is_not e) cs))
apart_filtered e [] = tt
apart_filtered e (d ∷ cs) = go (same_cell d.0 e.0) refl (apart_filtered e cs)
  where
    go : (b : Bool) → same_cell d.0 e.0 ≡ b → AllByRecursion (λ y. same_cell e.0 y ≡ false) (cells_of (filter (is_not e) cs)) → AllByRecursion (λ y. same_cell e.0 y ≡ false) (cells_of (cond (not b) (d ∷ filter (is_not e) cs) (filter (is_not e) cs)))
    go true h k = k
    go false h k = (apart_back d.0 e.0 h, k)

pub distinct_without_repeats : (cs : List Sized) → IsDistinct same_cell (cells_of (without_repeats cs))
unfolding IsDistinct
distinct_without_repeats [] = tt
distinct_without_repeats (d ∷ cs) = (apart_filtered d (without_repeats cs), distinct_filtered (is_not d) (without_repeats cs) (distinct_without_repeats cs))

is_in_filter : (e : Sized) (c : Cell) → same_cell c e.0 ≡ false → (cs : List Sized) → is_in cs c ≡ true → is_in (filter (is_not e) cs) c ≡ true
is_in_filter e c apart [] h = h
is_in_filter e c apart (d ∷ cs) h = go (same_cell d.0 e.0) (same_cell d.0 c) refl refl (is_in_filter e c apart cs) h
  where
    go : (b r : Bool) → same_cell d.0 e.0 ≡ b → same_cell d.0 c ≡ r → (is_in cs c ≡ true → is_in (filter (is_not e) cs) c ≡ true) → (r || is_in cs c) ≡ true → is_in (cond (not b) (d ∷ filter (is_not e) cs) (filter (is_not e) cs)) c ≡ true
    go true true x y ih k = absurd (both_ways _ apart (ap (λ z. same_cell z e.0) (sym (same_cell_exact d.0 c y)) ∙ x))
    go true false x y ih k = ih k
    go false true x y ih k = ap (λ z. z || is_in (filter (is_not e) cs) c) y
    go false false x y ih k = ap (λ z. z || is_in (filter (is_not e) cs) c) y ∙ ih k

pub is_in_without_repeats : (cs : List Sized) (d : Sized) → Has cs d → is_in (without_repeats cs) d.0 ≡ true
is_in_without_repeats [] d h = absurd h
is_in_without_repeats (e ∷ cs) d (inl h) = ap (λ z. z || is_in (filter (is_not e) (without_repeats cs)) d.0) (ap (λ (x : Sized). same_cell x.0 d.0) (sym h) ∙ same_cell_refl d.0)
is_in_without_repeats (e ∷ cs) d (inr h) = go (same_cell e.0 d.0) refl (is_in_without_repeats cs d h)
  where
    go : (b : Bool) → same_cell e.0 d.0 ≡ b → is_in (without_repeats cs) d.0 ≡ true → (b || is_in (filter (is_not e) (without_repeats cs)) d.0) ≡ true
    go true x k = refl
    go false x k = is_in_filter e d.0 (apart_back e.0 d.0 x) (without_repeats cs) k

-- tuples below bounds

abbrev pub Within : List ℕ → List ℕ → Type 0
Within [] [] = Unit {0}
Within (v ∷ vs) (n ∷ ns) = Has (below n) v × Within vs ns
Within _ _ = ⊥

pub within_has : (vs ns : List ℕ) → Within vs ns → Has (tuples_below ns) vs
unfolding tuples_below
within_has [] [] h = inl refl
within_has (v ∷ vs) (n ∷ ns) h = has_flat_map (λ w. map (λ u. w ∷ u) (tuples_below ns)) (below n) v (v ∷ vs) h.0 (has_map (λ u. v ∷ u) (tuples_below ns) vs (within_has vs ns h.1))
within_has [] (n ∷ ns) h = absurd h
within_has (v ∷ vs) [] h = absurd h

pub within_push : (vs ns : List ℕ) (v n : ℕ) → Within vs ns → Has (below n) v → Within (vs ++ v ∷ []) (ns ++ n ∷ [])
within_push [] [] v n h k = (k, tt)
within_push (w ∷ vs) (m ∷ ns) v n h k = (h.0, within_push vs ns v n h.1 k)
within_push [] (m ∷ ns) v n h k = absurd h
within_push (w ∷ vs) [] v n h k = absurd h

pub tuple_push : (at : Indices) (i v : ℕ) → tuple (at ++ (i, v) ∷ []) ≡ tuple at ++ v ∷ []
tuple_push [] i v = refl
tuple_push (p ∷ at) i v = ap (λ u. p.1 ∷ u) (tuple_push at i v)

-- the cells of a subtree are among those of the game

abbrev pub Covers : Setting → List Sized → List ℕ → Tree → Type 0
Covers g cs ns b = (d : Sized) → Has (at_each_copy g (cells_at g) ns b) d → Has cs d

covers_first : (g : Setting) (cs : List Sized) (ns : List ℕ) (h : Head) (a b : Tree) → Covers g cs ns (Node h a b) → Covers g cs (bounds_under g ns h) a
unfolding at_each_copy
covers_first g cs ns h a b c d k =
    c d (has_right (flat_map (cells_at g h) (tuples_below ns)) _ d (has_left _ (at_each_copy g (cells_at g) (bounds_under g ns h) b) d k))

covers_second : (g : Setting) (cs : List Sized) (ns : List ℕ) (h : Head) (a b : Tree) → Covers g cs ns (Node h a b) → Covers g cs (bounds_under g ns h) b
unfolding at_each_copy
covers_second g cs ns h a b c d k =
    c d (has_right (flat_map (cells_at g h) (tuples_below ns)) _ d (has_right (at_each_copy g (cells_at g) (bounds_under g ns h) a) _ d k))

covers_here : (g : Setting) (cs : List Sized) (ns : List ℕ) (h : Head) (a b : Tree) → Covers g cs ns (Node h a b) → (u : List ℕ) → Within u ns → (d : Sized) → Has (cells_at g h u) d → Has cs d
unfolding at_each_copy
covers_here g cs ns h a b c u w d k =
    c d (has_left (flat_map (cells_at g h) (tuples_below ns)) _ d (has_flat_map (cells_at g h) (tuples_below ns) u d (within_has u ns w) k))

pub record IsWithin (g : Setting) (cs : List Sized) (i : Input) : Type 0 where
  pub bounds : List ℕ
  pub within : Within (tuple i.indices) bounds
  pub covers : Covers g cs bounds i.tree

pub inputs_within : (g : Setting) (cs : List Sized) (b : Tree) (p : ℕ) (at : Indices) (ns : List ℕ) → Within (tuple at) ns → Covers g cs ns b → AllByRecursion (IsWithin g cs) (inputs_of g b p at)
unfolding inputs_of
inputs_within g cs Empty p at ns w c = tt
inputs_within g cs (Node Par a b) p at ns w c =
    AllByRecursion_append (IsWithin g cs) (inputs_of g a _ at) _ (inputs_within g cs a _ at ns w (covers_first g cs ns Par a b c)) (inputs_within g cs b _ at ns w (covers_second g cs ns Par a b c))
inputs_within g cs (Node (Repl i n) a b) p at ns w c =
    each_flat_map_in (IsWithin g cs) _ (below (g.interpretation.parameter_value n))
    (λ v k. inputs_within g cs b _ (at ++ (i, v) ∷ []) (ns ++ g.interpretation.parameter_value n ∷ [])
    (subst (λ u. Within u (ns ++ g.interpretation.parameter_value n ∷ [])) (sym (tuple_push at i v)) (within_push (tuple at) ns v (g.interpretation.parameter_value n) w k))
    (covers_second g cs ns (Repl i n) a b c))
inputs_within g cs (Node (In x) a b) p at ns w c = (record { bounds = ns; within = w; covers = c }, tt)
inputs_within g cs (Node h a b) p at ns w c = tt

-- the service of an input

abbrev pub Found : List Sized → Cell → Type 0
Found cs c = is_key c ≡ false → (n : ℕ) × Has cs (c, n)

pub record IsServedWithin (g : Setting) (cs : List Sized) (r : Served) (ws : List Visit) : Type 0 where
  pub opened : AllByRecursion (IsWithin g cs) r.opened
  pub found : AllByRecursion (Found cs) (consulted g ws)

found_here : (g : Setting) (cs : List Sized) (h : Head) (a b : Tree) (s : Local) (ns : List ℕ) → Within (tuple s.indices) ns → Covers g cs ns (Node h a b) → AllByRecursion (Found cs) (consulted_by g h a s)
found_here g cs (New x T) a b s ns w c = (λ k. (_, covers_here g cs ns (New x T) a b c (tuple s.indices) w _ (inl refl)), tt)
found_here g cs (Find l) a b s ns w c = (λ k. (_, covers_here g cs ns (Find l) a b c (tuple s.indices) w _ (inl refl)), tt)
found_here g cs (Call x l) a b s ns w c = (
  λ k. absurd (both_ways _ k refl),
  each_map_in (Found cs) (λ (d : Sized). d.0) (g.side.cells (record { tuple = tuple s.indices; site = l }))
      (λ d i k. (d.1, covers_here g cs ns (Call x l) a b c (tuple s.indices) w d i)),
)
found_here g cs h a b s ns w c = tt

with_here : (g : Setting) (cs : List Sized) (h : Head) (a b : Tree) (p : ℕ) (s : Local) (ns : List ℕ) → Within (tuple s.indices) ns → Covers g cs ns (Node h a b)
    → {r : Served} {ws : List Visit} → IsServedWithin g cs r ws → IsServedWithin g cs r (record { place = p; tree = Node h a b; before = s } ∷ ws)
unfolding consulted
with_here g cs h a b p s ns w c {ws = ws} f =
    record { opened = f.opened; found = AllByRecursion_append (Found cs) (consulted_by g h a s) (consulted g ws) (found_here g cs h a b s ns w c) f.found }

abbrev pub ServesWithin : Setting → Tape → List Sized → Tree → Type 0
ServesWithin g t cs b = (p k : ℕ) (vs : List ℕ) (s : Local) (ns : List ℕ) → Within (tuple s.indices) ns → Covers g cs ns b → IsServedWithin g cs (serve g t b p k vs s) (visits g t b p k vs s)

find_within : (g : Setting) (t : Tape) (cs : List Sized) (a b : Tree) (pa pb : ℕ) → ServesWithin g t cs a → ServesWithin g t cs b → (s : Local) (ns : List ℕ) → Within (tuple s.indices) ns → Covers g cs ns a → Covers g cs ns b → (o : Option Candidate)
    → IsServedWithin g cs (after_turn (λ r. r) (serve g t a pa) (serve g t b pb) (after_find s o)) (after_turn (λ r. []) (visits g t a pa) (visits g t b pb) (after_find s o))
find_within g t cs a b pa pb ih_a ih_b s ns w ca cb None = ih_b pb 0 [] s ns w cb
find_within g t cs a b pa pb ih_a ih_b s ns w ca cb (Some c) = ih_a pa c.branch c.tuple s ns w ca

pub serve_within : (g : Setting) (t : Tape) (cs : List Sized) (b : Tree) → ServesWithin g t cs b
unfolding serve visits step consulted
serve_within g t cs Empty p k vs s ns w c = record { opened = tt; found = tt }
serve_within g t cs (Node (In x) a b) p k vs s ns w c = with_here g cs (In x) a b p s ns w c (serve_within g t cs b _ 0 [] _ ns w (covers_second g cs ns (In x) a b c))
serve_within g t cs (Node (New x T) a b) p k vs s ns w c = with_here g cs (New x T) a b p s ns w c (serve_within g t cs b _ 0 [] _ ns w (covers_second g cs ns (New x T) a b c))
serve_within g t cs (Node (Let x T) a b) p k vs s ns w c = with_here g cs (Let x T) a b p s ns w c (serve_within g t cs b _ 0 [] _ ns w (covers_second g cs ns (Let x T) a b c))
serve_within g t cs (Node (Event x) a b) p k vs s ns w c = with_here g cs (Event x) a b p s ns w c (serve_within g t cs b _ 0 [] _ ns w (covers_second g cs ns (Event x) a b c))
serve_within g t cs (Node If a b) p k vs s ns w c = with_here g cs If a b p s ns w c (serve_within g t cs b _ _ [] s ns w (covers_second g cs ns If a b c))
serve_within g t cs (Node (Find l) a b) p k vs s ns w c =
    with_here g cs (Find l) a b p s ns w c
    (find_within g t cs a b _ _ (serve_within g t cs a) (serve_within g t cs b) s ns w (covers_first g cs ns (Find l) a b c) (covers_second g cs ns (Find l) a b c) (chosen (candidates g s.indices s.memory.store a) (t (Find_at l (tuple s.indices)))))
serve_within g t cs (Node Branch a b) p k vs s ns w c = with_here g cs Branch a b p s ns w c (serve_within g t cs b _ 2 [] _ ns w (covers_second g cs ns Branch a b c))
serve_within g t cs (Node (Key x) a b) p k vs s ns w c = with_here g cs (Key x) a b p s ns w c (serve_within g t cs b _ 0 [] _ ns w (covers_second g cs ns (Key x) a b c))
serve_within g t cs (Node (Call x l) a b) p k vs s ns w c = with_here g cs (Call x l) a b p s ns w c (serve_within g t cs b _ 0 [] _ ns w (covers_second g cs ns (Call x l) a b c))
serve_within g t cs (Node Cons a b) p zero vs s ns w c = with_here g cs Cons a b p s ns w c (serve_within g t cs a _ 0 vs s ns w (covers_first g cs ns Cons a b c))
serve_within g t cs (Node Cons a b) p (suc k) vs s ns w c = with_here g cs Cons a b p s ns w c (serve_within g t cs b _ k vs s ns w (covers_second g cs ns Cons a b c))
serve_within g t cs (Node (Out x) a b) p k vs s ns w c = record { opened = inputs_within g cs b _ s.indices ns w (covers_second g cs ns (Out x) a b c); found = tt }
serve_within g t cs (Node h a b) p k vs s ns w c = record { opened = tt; found = tt }

-- runs

consulted_append : (g : Setting) (vs ws : List Visit) → consulted g (vs ++ ws) ≡ consulted g vs ++ consulted g ws
unfolding consulted
consulted_append g [] ws = refl
consulted_append g (v ∷ vs) ws = ap (λ cs. consulted_at g v.tree v.before ++ cs) (consulted_append g vs ws) ∙ sym (append_assoc (consulted_at g v.tree v.before) (consulted g vs) (consulted g ws))

abbrev pub InputsWithin : Setting → List Sized → State → Type 0
InputsWithin g cs st = AllByRecursion (IsWithin g cs) st.inputs

pub record MovesWithin (g : Setting) (cs : List Sized) (st : State) (ws : List Visit) : Type 0 where
  pub inputs : InputsWithin g cs st
  pub found : AllByRecursion (Found cs) (consulted g ws)

called_within : (g : Setting) (t : Tape) (cs : List Sized) (st : State) (vs : List ℕ) → InputsWithin g cs st → (o : Option Taken) → ((k : Taken) → o ≡ Some k → TakenEach (IsWithin g cs) k) → MovesWithin g cs (called g t st vs o) (visits_of_call g t st vs o)
unfolding consulted
called_within g t cs st vs f None h = record { inputs = f; found = tt }
called_within g t cs st vs f (Some k) h =
    let i = (h k refl).input in
    let r = serve_within g t cs k.input.tree k.input.place 0 vs (record { indices = k.input.indices; memory = st.memory }) i.bounds i.within i.covers in
    record { inputs = AllByRecursion_append (IsWithin g cs) k.others _ (h k refl).others r.opened; found = r.found }

tested_within : (g : Setting) (cs : List Sized) (st : State) → InputsWithin g cs st → (o : Option ℕ) → InputsWithin g cs (tested_with st o)
tested_within g cs st f None = f
tested_within g cs st f (Some v) = f

moved_within : (g : Setting) (m : Mode) (t : Tape) (cs : List Sized) (st : State) (a : Move) → InputsWithin g cs st → MovesWithin g cs (moved g m t st a) (visits_of_move g t st a)
unfolding moved visits_of_move consulted
moved_within g m t cs st (Calls c u vs) f = called_within g t cs st vs f (admitted g c u vs st.inputs) (admitted_each (IsWithin g cs) g c u vs st.inputs f)
moved_within g m t cs st (Tests u) f = record { inputs = tested_within g cs st f (told m t st u); found = tt }
moved_within g m t cs st (Guesses b) f = record { inputs = f; found = tt }

run_found : (g : Setting) (m : Mode) (next : List Answer → Option Move) (t : Tape) (cs : List Sized) (n : ℕ) (st : State) → InputsWithin g cs st → AllByRecursion (Found cs) (consulted g (run_visits g m next t n st))
unfolding run_visits consulted
run_found g m next t cs zero st f = tt
run_found g m next t cs (suc n) st f = go (next_move next st) (λ a r. run_found g m next t cs n (moved g m t st a) r)
  where
    go : (o : Option Move) → ((a : Move) → InputsWithin g cs (moved g m t st a) → AllByRecursion (Found cs) (consulted g (run_visits g m next t n (moved g m t st a))))
        → AllByRecursion (Found cs) (consulted g (by_move [] (λ a. visits_of_move g t st a ++ run_visits g m next t n (moved g m t st a)) o))
    go None ih = tt
    go (Some a) ih =
        let r : MovesWithin g cs (moved g m t st a) (visits_of_move g t st a) = moved_within g m t cs st a f in
        subst (AllByRecursion (Found cs)) (sym (consulted_append g (visits_of_move g t st a) _)) (AllByRecursion_append (Found cs) _ _ r.found (ih a r.inputs))

pub consulted_listed : (g : Setting) (m : Mode) (a : Adversary) (game : Tree) (t : Tape) → AllByRecursion (IsListed (cells g m a game)) (consulted g (visits_of_run g m a game t))
unfolding cells visits_of_run
consulted_listed g m a game t =
    let own : List Sized = at_each_copy g (cells_at g) [] game in
    let rest : List Sized = test_cells g m game ++ coin_cells 0 a.coins in
    AllByRecursion_weaker (Found own) (IsListed (without_repeats (own ++ rest)))
    (λ c f k. let d = f k in is_in_without_repeats (own ++ rest) (c, d.0) (has_left own rest (c, d.0) d.1))
    _ (run_found g m (a.next (coins_on t 0 a.coins)) t own a.moves (start g game) (inputs_within g own game 0 [] [] tt (λ d h. h)))

pub cells_distinct : (g : Setting) (m : Mode) (a : Adversary) (game : Tree) → IsDistinct same_cell (cells_of (cells g m a game))
unfolding cells
cells_distinct g m a game = distinct_without_repeats (at_each_copy g (cells_at g) [] game ++ (test_cells g m game ++ coin_cells 0 a.coins))
