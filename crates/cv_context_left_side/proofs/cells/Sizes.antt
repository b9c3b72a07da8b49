-- Each cell that a context lists has the size of the game's cell for which it stands.
use Rattle.std.proofs.Common.{◌≡◌, ℕ, suc, Bool, true, false, cond, ◌==◌, not, List, [], ◌∷◌, ◌++◌, Option, Some, None, refl, sym, ap, ◌∙◌, eqb-true}
use Rattle.std.proofs.lemmas.Bool.{both_ways, and_parts, not-true}
use Rattle.std.specs.List.{AllByRecursion}
use Rattle.cv_syntax_trees.specs.declared.head.Head.{Head}
use Rattle.cv_syntax_trees.specs.declared.head.Head.TheVariants.{Binder, Call, Find, In, Key, Let, New}
use Rattle.cv_syntax_trees.specs.Tree.{Tree, Empty, Node}
use Rattle.cv_meaning.specs.Cells.{at_each_copy, bounds_under, cells_at, coin_cells, if_tested, test_cells, test_cells_at, tuples_below}
use Rattle.cv_meaning.specs.Interpretation.{Interpretation, Setting}
use Rattle.cv_meaning.specs.Runs.{Adversary, Events, Mode, Random, Real}
use Rattle.cv_meaning.specs.Tapes.{Cell, Test_at}
use Rattle.cv_meaning_laws.proofs.Lists.{each_flat_map}
use Rattle.cv_meaning_laws.specs.adequacy.Typed.{Context}
use Rattle.cv_syntax_trees.specs.sites.Sites.{first_of}
use Rattle.cv_scope_rules.specs.Context.{replications_below}
use Rattle.cv_scope_rules.specs.Made.{made_by}
use Rattle.cv_scope_rules.specs.Sites.{Variable}
use Rattle.cv_scene.specs.Scenes.{is_queried}
use Rattle.cv_typing_runs.proofs.Games.{typed}
use Rattle.cv_steps.proofs.Sizes.{HeadNamesSort, IsSized, NamesSorts, all_cells, all_sizes, cell_size, name_of, typed_names}
use Rattle.cv_scope_rules.specs.declared.position.Position.TheVariants.{Anywhere}
use Rattle.cv_scene.specs.Refusals.{CoinUse, InCondition, KeyInArgument, NotOneSite, Refusal, Use, at_place, definitions_in, first_argument_use, first_coin_use, first_in_condition, first_use, has_key, is_of_type, new_of, only_new}
use Rattle.cv_scene.specs.Reductions.{Reduction, in_context, in_game, is_coin, matching, sites}
use Rattle.cv_scene.specs.Cells.{at_left}
use Rattle.cv_context_runs.proofs.service.Served.{own_cell}
use Rattle.cv_context_left_side.specs.cells.Premises.{HasContext}
use Rattle.cv_context_left_side.proofs.cells.Flat.{flat_head, has_terms_alone, head_is_flat, head_is_term, is_flat}
use Rattle.cv_context_left_side.proofs.cells.Found.{IsCalled, IsDrawnFor, game_sorts}
use Rattle.cv_context_left_side.proofs.cells.Turned.{IsTurned, is_kept}
use Rattle.cv_context_left_side.proofs.cells.Turned as turned
use Rattle.cv_syntax_trees.proofs.lists.Each.{AllByRecursion_append, AllByRecursion_weaker, AllByRecursion_right}

-- what each construct gives

abbrev pub EachHead : (Head → Type 0) → Tree → Type 0
EachHead Q Empty = Unit {0}
EachHead Q (Node h a b) = Q h × EachHead Q a × EachHead Q b

pub each_copy : (g : Setting) (give : Head → List ℕ → List (Cell × ℕ)) (P : (Cell × ℕ) → Type 0) (bounds : List ℕ) (t : Tree) → EachHead (λ h. (u : List ℕ) → AllByRecursion P (give h u)) t → AllByRecursion P (at_each_copy g give bounds t)
unfolding at_each_copy
each_copy g give P bounds Empty e = tt
each_copy g give P bounds (Node h a b) e =
    AllByRecursion_append P _ _ (each_flat_map P (give h) (tuples_below bounds) e.0)
    (AllByRecursion_append P _ _ (each_copy g give P (bounds_under g bounds h) a e.1) (each_copy g give P (bounds_under g bounds h) b e.2))

pub flat_heads : (Q : Head → Type 0) → ((h : Head) → head_is_flat h ≡ true → Q h) → (t : Tree) → is_flat t ≡ true → EachHead Q t
flat_heads Q f Empty e = tt
flat_heads Q f (Node h a b) e =
    let p = and_parts (head_is_flat h) _ e in
    let q = and_parts (is_flat a) _ p.1 in (f h p.0, flat_heads Q f a q.0, flat_heads Q f b q.1)

pub all_heads : (Q : Head → Type 0) → ((h : Head) → Q h) → (t : Tree) → EachHead Q t
all_heads Q f Empty = tt
all_heads Q f (Node h a b) = (f h, all_heads Q f a, all_heads Q f b)

each_named : (c : Context) (t : Tree) → NamesSorts c t → EachHead (HeadNamesSort c) t
each_named c Empty n = tt
each_named c (Node h a b) n = (n.0, each_named c a n.1, each_named c b n.2)

-- from the constructs of a game to those of its context

record IsKeptBy (r : Reduction) (P Q : Head → Type 0) : Type 0 where
  flat : (h : Head) → head_is_flat h ≡ true → P h → Q h
  terms : (h : Head) → head_is_term h ≡ true → Q h
  kept : (h : Head) → is_kept r h ≡ true → P h → Q h
  input : (x : ℕ) → Q (In x)
  key : Q (Key r.key)
  called : (x k : ℕ) (q : Tree) → IsCalled r x k q → Q (Call x k)

module _ (r : Reduction) (P Q : Head → Type 0) (by : IsKeptBy r P Q) where
  flat_kept : (t : Tree) → is_flat t ≡ true → EachHead P t → EachHead Q t
  flat_kept Empty e n = tt
  flat_kept (Node h a b) e n =
      let p = and_parts (head_is_flat h) _ e in
      let q = and_parts (is_flat a) _ p.1 in (by.flat h p.0 n.0, flat_kept a q.0 n.1, flat_kept b q.1 n.2)

  terms_kept : (t : Tree) → has_terms_alone t ≡ true → EachHead Q t
  terms_kept Empty e = tt
  terms_kept (Node h a b) e =
      let p = and_parts (head_is_term h) _ e in
      let q = and_parts (has_terms_alone a) _ p.1 in (by.terms h p.0, terms_kept a q.0, terms_kept b q.1)

  heads_kept : (t c : Tree) → IsTurned r t c → EachHead P t → EachHead Q c
  heads_kept t c (turned.flat e) n = flat_kept t e n
  heads_kept t c (turned.terms e f) n = terms_kept c f
  heads_kept t c (turned.kept {h = h} {a = a} {b = b} {c = x} {d = y} e j k) n = (by.kept h e n.0, heads_kept a x j n.1, heads_kept b y k n.2)
  heads_kept t c (turned.input {x = z} {a = a} {b = b} {d = y} e k) n = (by.input z, flat_kept a e n.1, heads_kept b y k n.2)
  heads_kept t c (turned.chosen {b = b} {d = y} e k) n = (by.key, tt, heads_kept b y k n.2)
  heads_kept t c (turned.gone {b = b} e f k) n = heads_kept b c k n.2
  heads_kept t c (turned.called {x = x} {k = l} {q = q} {t = a} {c = y} e k) n = (by.called x l q e, terms_kept q e.alone, heads_kept a y k n)

-- the size of a game's cell

module _ (r : Reduction) (i : Interpretation) (m : Mode) (a : Adversary) where
  abbrev h : Setting
  h = in_context r i

  abbrev pub size_at_left : Cell → ℕ
  size_at_left c = cell_size (game_sorts r) i m a (at_left r c)

  abbrev pub IsRight : (Cell × ℕ) → Type 0
  IsRight d = d.1 ≡ size_at_left d.0

  abbrev Names : Head → Type 0
  Names = HeadNamesSort (game_sorts r)

  abbrev CellsRight : Head → Type 0
  CellsRight k = (u : List ℕ) → AllByRecursion IsRight (cells_at h k u)

  cells_flat : (k : Head) → head_is_flat k ≡ true → CellsRight k
  cells_flat (New x T) e u = absurd (both_ways false refl e)
  cells_flat (Find l) e u = absurd (both_ways false refl e)
  cells_flat (Key x) e u = absurd (both_ways false refl e)
  cells_flat (Call x l) e u = absurd (both_ways false refl e)
  cells_flat k e u = tt

  cells_kept : (k : Head) → is_kept r k ≡ true → Names k → CellsRight k
  cells_kept (New y T) e n u =
      let p = and_parts (not (y == r.key)) _ e in
      (ap i.type_size n ∙ ap (cell_size (game_sorts r) i m a) (sym (own_cell r y u (not-true (y == r.key) p.0) (not-true (is_coin r y) p.1))), tt)
  cells_kept (Find l) e n u = (refl, tt)
  cells_kept (Key x) e n u = absurd (both_ways false refl e)
  cells_kept (Call x l) e n u = absurd (both_ways false refl e)
  cells_kept k e n u = tt

  drawn_right : (d : Cell × ℕ) → IsDrawnFor r i d → IsRight d
  drawn_right d e = e.size ∙ ap (cell_size (game_sorts r) i m a) (sym e.cell)

  cells_by : (matching r).group.key.1 ≡ name_of ((game_sorts r).variables r.key) → IsKeptBy r Names CellsRight
  cells_by f = record {
    flat = λ k e n. cells_flat k e;
    terms = λ k e. cells_flat k (flat_head k e);
    kept = cells_kept;
    input = λ x u. tt;
    key = λ u. (ap i.type_size f, tt);
    called = λ x k q e u. AllByRecursion_weaker (IsDrawnFor r i) IsRight drawn_right _ (e.drawn i (record { tuple = u; site = k }) refl);
  }

  -- tests

  abbrev IsTested : ℕ → Type 0
  IsTested x = (u : List ℕ) → cell_size (game_sorts r) i m a (Test_at u) ≡ i.type_size (name_of ((game_sorts r).variables x))

  module _ (x : ℕ) (tested : IsTested x) where
    abbrev TestsRight : Head → Type 0
    TestsRight k = (u : List ℕ) → AllByRecursion IsRight (test_cells_at h x k u)

    one_test : (y T : ℕ) (u : List ℕ) → T ≡ name_of ((game_sorts r).variables y) → AllByRecursion IsRight (if_tested (y == x) u (i.type_size T))
    one_test y T u n = go (y == x) refl
      where
        go : (b : Bool) → (y == x) ≡ b → AllByRecursion IsRight (if_tested b u (i.type_size T))
        go true k = (ap i.type_size (n ∙ ap (λ z. name_of ((game_sorts r).variables z)) (eqb-true y x k)) ∙ sym (tested u), tt)
        go false k = tt

    head_tests : (k : Head) → Names k → TestsRight k
    head_tests (New y T) n u = one_test y T u n
    head_tests (Let y T) n u = one_test y T u n
    head_tests (Binder y T) n u = one_test y T u n
    head_tests k n u = tt

    term_tests : (k : Head) → head_is_term k ≡ true → TestsRight k
    term_tests (New y T) e u = absurd (both_ways false refl e)
    term_tests (Let y T) e u = absurd (both_ways false refl e)
    term_tests (Binder y T) e u = absurd (both_ways false refl e)
    term_tests k e u = tt

    tests_by : IsKeptBy r Names TestsRight
    tests_by = record {
      flat = λ k e n. head_tests k n;
      terms = term_tests;
      kept = λ k e n. head_tests k n;
      input = λ x u. tt;
      key = λ u. tt;
      called = λ x k q e u. tt;
    }

  -- the type of the key

  abbrev OfKey : Head → Type 0
  OfKey (New y T) = T ≡ name_of ((game_sorts r).variables r.key)
  OfKey k = Unit {0}

  of_key : (k : Head) (c : Tree) → Names k → made_by k c (Variable r.key) ≡ true → OfKey k
  of_key (New y T) c n e = n ∙ ap (λ z. name_of ((game_sorts r).variables z)) (sym (eqb-true r.key y e))
  of_key k c n e = tt

  definitions_named : (rs : List (ℕ × ℕ)) (t : Tree) → EachHead Names t → AllByRecursion (λ (d : Head × List (ℕ × ℕ)). OfKey d.0) (definitions_in r.key rs t)
  unfolding definitions_in
  definitions_named rs Empty n = tt
  definitions_named rs (Node k c d) n =
      AllByRecursion_append (λ (e : Head × List (ℕ × ℕ)). OfKey e.0) _ _ (own (made_by k c (Variable r.key)) refl)
      (AllByRecursion_append (λ (e : Head × List (ℕ × ℕ)). OfKey e.0) _ _ (definitions_named rs c n.1) (definitions_named (replications_below k rs) d n.2))
    where
      own : (b : Bool) → made_by k c (Variable r.key) ≡ b → AllByRecursion (λ (e : Head × List (ℕ × ℕ)). OfKey e.0) (cond b ((k, rs) ∷ []) [])
      own true e = (of_key k c n.0 e, tt)
      own false e = tt

  only_key : (T : ℕ) (ds : List (Head × List (ℕ × ℕ))) → AllByRecursion (λ (d : Head × List (ℕ × ℕ)). OfKey d.0) ds → is_of_type T (only_new ds) ≡ true → T ≡ name_of ((game_sorts r).variables r.key)
  only_key T [] n e = absurd (both_ways false refl e)
  only_key T ((New y U, rs) ∷ []) n e = sym (eqb-true U T e) ∙ n.0
  only_key T ((k, rs) ∷ []) n e = absurd (both_ways false refl e)
  only_key T ((New y U, rs) ∷ d ∷ ds) n e = absurd (both_ways false refl e)
  only_key T ((k, rs) ∷ d ∷ ds) n e = absurd (both_ways false refl e)

  key_named : EachHead Names r.scene.game → has_key (matching r) ≡ true → (matching r).group.key.1 ≡ name_of ((game_sorts r).variables r.key)
  key_named n e =
      go (definitions_in r.key [] r.scene.game) (definitions_named [] r.scene.game n) (and_parts (is_of_type (matching r).group.key.1 (new_of r.scene.game r.key)) (not (is_queried r.scene r.key)) e).0
    where
      go : (ds : List (Head × List (ℕ × ℕ))) → AllByRecursion (λ (d : Head × List (ℕ × ℕ)). OfKey d.0) ds → is_of_type (matching r).group.key.1 (only_new ds) ≡ true → (matching r).group.key.1 ≡ name_of ((game_sorts r).variables r.key)
      go ds k f = only_key (matching r).group.key.1 ds k f

  -- the whole lists

  coins_right : (k : ℕ) (ns : List ℕ) → AllByRecursion (IsSized (game_sorts r) r.scene.declarations i m a) (coin_cells k ns) → AllByRecursion IsRight (coin_cells k ns)
  coins_right k [] e = tt
  coins_right k (n ∷ ns) e = (e.0, coins_right (suc k) ns e.1)

  abbrev pub of_game : List (Cell × ℕ)
  of_game = all_cells (game_sorts r) r.scene.declarations i m a r.scene.game

  abbrev pub of_context : Tree → List (Cell × ℕ)
  of_context c = at_each_copy h (cells_at h) [] c ++ (test_cells h m c ++ coin_cells 0 a.coins)

  tests_right : (mode : Mode) → mode ≡ m → (c : Tree) → IsTurned r r.scene.game c → EachHead Names r.scene.game → AllByRecursion IsRight (test_cells h mode c)
  tests_right Events e c t n = tt
  tests_right (Real one x) e c t n =
      let tested : IsTested x = λ u. ap (λ z. cell_size (game_sorts r) i z a (Test_at u)) (sym e) in
      each_copy h (test_cells_at h x) IsRight [] c (heads_kept r Names (TestsRight x tested) (tests_by x tested) r.scene.game c t n)
  tests_right (Random one x) e c t n =
      let tested : IsTested x = λ u. ap (λ z. cell_size (game_sorts r) i z a (Test_at u)) (sym e) in
      each_copy h (test_cells_at h x) IsRight [] c (heads_kept r Names (TestsRight x tested) (tests_by x tested) r.scene.game c t n)

  pub context_right : NamesSorts (game_sorts r) r.scene.game → has_key (matching r) ≡ true → (c : Tree) → IsTurned r r.scene.game c → AllByRecursion IsRight (of_context c)
  context_right names e c t =
      let n : EachHead Names r.scene.game = each_named (game_sorts r) r.scene.game names in
      AllByRecursion_append IsRight _ _ (each_copy h (cells_at h) IsRight [] c (heads_kept r Names CellsRight (cells_by (key_named n e)) r.scene.game c t n))
      (AllByRecursion_append IsRight _ _ (tests_right m refl c t n)
      (coins_right 0 a.coins
      (AllByRecursion_right (IsSized (game_sorts r) r.scene.declarations i m a) (test_cells (in_game r i) m r.scene.game) _
      (AllByRecursion_right (IsSized (game_sorts r) r.scene.declarations i m a) (at_each_copy (in_game r i) (cells_at (in_game r i)) [] r.scene.game) _
      (all_sizes (game_sorts r) r.scene.declarations i m a r.scene.game names)))))

  pub game_right : NamesSorts (game_sorts r) r.scene.game → AllByRecursion (λ (d : Cell × ℕ). d.1 ≡ cell_size (game_sorts r) i m a d.0) of_game
  game_right names = all_sizes (game_sorts r) r.scene.declarations i m a r.scene.game names

pub sorts_named : (r : Reduction) → HasContext r → NamesSorts (game_sorts r) r.scene.game
sorts_named r c = typed_names (game_sorts r) r.scene.game c.apt.formed.phrase (typed r.scene.declarations r.scene.game c.arguments c.apt.formed c.typed c.names)

pub key_is_there : (r : Reduction) → HasContext r → has_key (matching r) ≡ true
key_is_there r c = go (has_key (matching r)) refl c.answered
  where
    rest : Option Refusal
    rest = first_of (at_place Use (first_use (matching r) Anywhere 0 r.scene.game)) (first_of (at_place InCondition (first_in_condition r.key Anywhere 0 r.scene.game)) (first_of (at_place CoinUse (first_coin_use (matching r) (sites r))) (at_place KeyInArgument (first_argument_use (matching r) (sites r)))))

    go : (b : Bool) → has_key (matching r) ≡ b → cond b rest (Some NotOneSite) ≡ None → has_key (matching r) ≡ true
    go true e f = e
    go false e f = absurd (clash f)
      where
        clash : ◌≡◌ {A = Option Refusal} (Some NotOneSite) None → ⊥
        clash e = cc
