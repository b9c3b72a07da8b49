-- The cells of a variable's draws and those of the tests are listed together, with the same sizes.
use Rattle.std.proofs.Common.{◌≡◌, ℕ, suc, ◌==◌, ◌&&◌, Bool, true, false, cond, not, List, [], ◌∷◌, ◌++◌, flat_map, Option, Some, None, refl, sym, ap, ap₂, ◌∙◌, eqb-true}
use Rattle.std.proofs.lemmas.Bool.{both_ways, and_parts, eq-eqb}
use Rattle.cv_syntax_trees.specs.Declarations.{Declaration}
use Rattle.cv_syntax_trees.specs.declared.head.Head.{Head}
use Rattle.cv_syntax_trees.specs.declared.head.Head.TheVariants.{New, Let, Binder}
use Rattle.cv_syntax_trees.specs.Tree.{Tree, Empty, Node}
use Rattle.cv_syntax_trees.specs.lists.Options.{first_of}
use Rattle.cv_meaning.specs.Tapes.{Cell, New_at, Find_at, Test_at, Key_at, Made_at, Picked_at, Coin, same_cell, same_tuple}
use Rattle.cv_meaning.specs.Interpretation.{Interpretation, Setting, setting_of}
use Rattle.cv_meaning.specs.Runs.{Random, Adversary}
use Rattle.cv_meaning.specs.Cells.{tuples_below, bounds_under, at_each_copy, cells_at, if_tested, test_cells_at, coin_cells, cells}
use Rattle.cv_meaning_laws.proofs.Counts.{same_cell_refl, same_cell_exact}
use Rattle.cv_meaning_chances.specs.Tests.{IsOneToOne, renamed}
use Rattle.cv_meaning_chances.specs.unread.Sizes.{size_in}
use Rattle.cv_meaning_chances.proofs.unread.CellSizes.{size_once, size_each as none_listed, coins_apart, first_none, size_append}
use Rattle.cv_scope_rules.specs.Made.{made_by}
use Rattle.cv_scope_rules.specs.Phrases.{Inputs, is_phrase}
use Rattle.cv_scope_rules.specs.Sites.{Variable}
use Rattle.cv_query_certificates.specs.Secrets.{first_definition_but, is_choice}
use Rattle.cv_query_secrets.specs.unread.Exchanged.{exchanged}
use Rattle.cv_query_secrets.proofs.unread.Alone.{AreOdd, game_has_none, none_odd}
use Rattle.cv_costs.proofs.quiet.Shapes.{left_false}
use Rattle.cv_syntax_trees.proofs.lists.Tests.{differ_comm}

-- lists

-- the size of a cell among those of a list of copies is that of another cell among other ones
size_each : {A : Type 0} (f h : A → List (Cell × ℕ)) (d e : Cell) → ((x : A) → size_in (f x) d ≡ size_in (h x) e) → (xs : List A) → size_in (flat_map f xs) d ≡ size_in (flat_map h xs) e
size_each f h d e k [] = refl
size_each f h d e k (x ∷ xs) = size_append (f x) (flat_map f xs) d ∙ ap₂ first_of (k x) (size_each f h d e k xs) ∙ sym (size_append (h x) (flat_map h xs) e)

module _ (g : Setting) where
  abbrev pub Give : Type 0
  Give = Head → List ℕ → List (Cell × ℕ)

  pub parts_size : (give : Give) (d : Cell) (bounds : List ℕ) (h : Head) (a b : Tree) → size_in (at_each_copy g give bounds (Node h a b)) d
      ≡ first_of (size_in (flat_map (give h) (tuples_below bounds)) d) (first_of (size_in (at_each_copy g give (bounds_under g bounds h) a) d) (size_in (at_each_copy g give (bounds_under g bounds h) b) d))
  unfolding at_each_copy
  parts_size give d bounds h a b =
      let under : List ℕ = bounds_under g bounds h in
      size_append (flat_map (give h) (tuples_below bounds)) (at_each_copy g give under a ++ at_each_copy g give under b) d
      ∙ ap (first_of (size_in (flat_map (give h) (tuples_below bounds)) d)) (size_append (at_each_copy g give under a) (at_each_copy g give under b) d)

  pub none_in_copies : (give : Give) (d : Cell) → ((h : Head) (u : List ℕ) → size_in (give h u) d ≡ None) → (bounds : List ℕ) (b : Tree) → size_in (at_each_copy g give bounds b) d ≡ None
  unfolding at_each_copy
  none_in_copies give d k bounds Empty = refl
  none_in_copies give d k bounds (Node h a b) =
      parts_size give d bounds h a b
      ∙ (λ i. first_of (none_listed (give h) d (k h) (tuples_below bounds) i) (first_of (none_in_copies give d k (bounds_under g bounds h) a i) (none_in_copies give d k (bounds_under g bounds h) b i)))

  no_test : (y : ℕ) (v : List ℕ) (b : Bool) (u : List ℕ) (n : ℕ) → size_in (if_tested b u n) (New_at y v) ≡ None
  no_test y v true u n = refl
  no_test y v false u n = refl

  -- no draw is a test's cell, and no test is a draw's

  pub tests_apart : (x y : ℕ) (v : List ℕ) (h : Head) (u : List ℕ) → size_in (test_cells_at g x h u) (New_at y v) ≡ None
  tests_apart x y v (New z T) u = no_test y v (z == x) u (g.interpretation.type_size T)
  tests_apart x y v (Let z T) u = no_test y v (z == x) u (g.interpretation.type_size T)
  tests_apart x y v (Binder z T) u = no_test y v (z == x) u (g.interpretation.type_size T)
  tests_apart x y v h u = refl

pub no_coin : (k : ℕ) (ns : List ℕ) (v : List ℕ) → size_in (coin_cells k ns) (Test_at v) ≡ None
no_coin k [] v = refl
no_coin k (n ∷ ns) v = no_coin (suc k) ns v

-- nothing but `new` binds the variable

module _ (x : ℕ) where
  abbrev pub binds_otherwise : Head → Bool
  binds_otherwise (Let y T) = y == x
  binds_otherwise (Binder y T) = y == x
  binds_otherwise h = false

  odd_for_choices : AreOdd x is_choice binds_otherwise
  odd_for_choices = record {
    inputs = λ c a. refl;
    branches = λ a. refl;
    binders = λ y T e. ap not e;
    others = others;
  }
    where
      others : (h : Head) (a : Tree) → (made_by h a (Variable x) && not (is_choice h a)) ≡ false → ((y T : ℕ) → h ≡ Binder y T → ⊥) → not (binds_otherwise h) ≡ true
      others (Let y T) a e f = ap not (differ_comm x y (left_false (x == y) true refl e))
      others (Binder y T) a e f = absurd (f y T refl)
      others h a e f = refl

  -- the sizes of a draw and of a test at one tuple

  module _ (ds : List Declaration) (i : Interpretation) (v : List ℕ) where
    abbrev pub g : Setting
    g = setting_of ds i

    drawn_and_tested : (b : Bool) (u : List ℕ) (n : ℕ) → cond (b && same_tuple u v) (Some n) None ≡ size_in (if_tested b u n) (Test_at v)
    drawn_and_tested true u n = refl
    drawn_and_tested false u n = refl

    untested : (b : Bool) (u : List ℕ) (n : ℕ) → not b ≡ true → ◌≡◌ {A = Option ℕ} None (size_in (if_tested b u n) (Test_at v))
    untested true u n e = absurd (both_ways false refl e)
    untested false u n e = refl

    node_size : (h : Head) → not (binds_otherwise h) ≡ true → (u : List ℕ) → size_in (cells_at g h u) (New_at x v) ≡ size_in (test_cells_at g x h u) (Test_at v)
    node_size (New y T) e u = drawn_and_tested (y == x) u (i.type_size T)
    node_size (Let y T) e u = untested (y == x) u (i.type_size T) e
    node_size (Binder y T) e u = untested (y == x) u (i.type_size T) e
    node_size h e u = refl

    tree_size : (bounds : List ℕ) (b : Tree) → none_odd binds_otherwise b ≡ true → size_in (at_each_copy g (cells_at g) bounds b) (New_at x v) ≡ size_in (at_each_copy g (test_cells_at g x) bounds b) (Test_at v)
    unfolding at_each_copy none_odd
    tree_size bounds Empty e = refl
    tree_size bounds (Node h a b) e =
        let k = and_parts (not (binds_otherwise h)) (none_odd binds_otherwise a && none_odd binds_otherwise b) e in
        let l = and_parts (none_odd binds_otherwise a) (none_odd binds_otherwise b) k.1 in
        let under : List ℕ = bounds_under g bounds h in
        parts_size g (cells_at g) (New_at x v) bounds h a b
        ∙ (λ j. first_of (size_each (cells_at g h) (test_cells_at g x h) (New_at x v) (Test_at v) (node_size h k.0) (tuples_below bounds) j) (first_of (tree_size under a l.0 j) (tree_size under b l.1 j)))
        ∙ sym (parts_size g (test_cells_at g x) (Test_at v) bounds h a b)

    pub draws_apart : (h : Head) (u : List ℕ) → size_in (cells_at g h u) (Test_at v) ≡ None
    draws_apart (New y T) u = refl
    draws_apart h u = refl

    module _ (one : Bool) (a : Adversary) (game : Tree) where
      abbrev pub all_cells : List (Cell × ℕ)
      all_cells = cells g (Random one x) a game

      pub cells_size : (d : Cell) → size_in all_cells d
          ≡ first_of (size_in (at_each_copy g (cells_at g) [] game) d) (first_of (size_in (at_each_copy g (test_cells_at g x) [] game) d) (size_in (coin_cells 0 a.coins) d))
      unfolding cells
      cells_size d =
          size_once (at_each_copy g (cells_at g) [] game ++ (at_each_copy g (test_cells_at g x) [] game ++ coin_cells 0 a.coins)) d
          ∙ size_append (at_each_copy g (cells_at g) [] game) (at_each_copy g (test_cells_at g x) [] game ++ coin_cells 0 a.coins) d
          ∙ ap (first_of (size_in (at_each_copy g (cells_at g) [] game) d)) (size_append (at_each_copy g (test_cells_at g x) [] game) (coin_cells 0 a.coins) d)

      pub one_size : none_odd binds_otherwise game ≡ true → size_in all_cells (New_at x v) ≡ size_in all_cells (Test_at v)
      one_size e =
          let draws : Option ℕ = size_in (at_each_copy g (cells_at g) [] game) (New_at x v) in
          let tests : Option ℕ = size_in (at_each_copy g (test_cells_at g x) [] game) (Test_at v) in
          let same : draws ≡ tests = tree_size [] game e in
          cells_size (New_at x v)
          ∙ (λ j. first_of draws (first_of (none_in_copies g (test_cells_at g x) (New_at x v) (tests_apart g x x v) [] game j) (coins_apart 0 a.coins x v j)))
          ∙ first_none draws ∙ same ∙ sym (first_none tests)
          ∙ sym (cells_size (Test_at v) ∙ (λ j. first_of (none_in_copies g (cells_at g) (Test_at v) draws_apart [] game j) (first_of tests (no_coin 0 a.coins v j))))

  -- so each cell has the size of the one with which it changes places
  exchanged_size : (ds : List Declaration) (i : Interpretation) (one : Bool) (a : Adversary) (game : Tree) → none_odd binds_otherwise game ≡ true → (d : Cell)
      → size_in (cells (setting_of ds i) (Random one x) a game) (exchanged x d) ≡ size_in (cells (setting_of ds i) (Random one x) a game) d
  exchanged_size ds i one a game e (New_at y u) = go (y == x) refl
    where
      go : (b : Bool) → (y == x) ≡ b → size_in (cells (setting_of ds i) (Random one x) a game) (cond b (Test_at u) (New_at y u)) ≡ size_in (cells (setting_of ds i) (Random one x) a game) (New_at y u)
      go true k = sym (one_size ds i u one a game e) ∙ ap (λ z. size_in (cells (setting_of ds i) (Random one x) a game) (New_at z u)) (sym (eqb-true y x k))
      go false k = refl
  exchanged_size ds i one a game e (Test_at u) = one_size ds i u one a game e
  exchanged_size ds i one a game e (Find_at y u) = refl
  exchanged_size ds i one a game e (Key_at u) = refl
  exchanged_size ds i one a game e (Made_at y u n) = refl
  exchanged_size ds i one a game e (Picked_at y u n) = refl
  exchanged_size ds i one a game e (Coin n) = refl

  -- a cell that changes places twice is where it was
  twice : (c : Cell) → exchanged x (exchanged x c) ≡ c
  twice (New_at y u) = go (y == x) refl
    where
      go : (b : Bool) → (y == x) ≡ b → exchanged x (cond b (Test_at u) (New_at y u)) ≡ New_at y u
      go true k = ap (λ z. New_at z u) (sym (eqb-true y x k))
      go false k = ap (λ b. cond b (Test_at u) (New_at y u)) k
  twice (Test_at u) = ap (λ b. cond b (Test_at u) (New_at x u)) (eq-eqb x x refl)
  twice (Find_at y u) = refl
  twice (Key_at u) = refl
  twice (Made_at y u n) = refl
  twice (Picked_at y u n) = refl
  twice (Coin n) = refl

  same_exchanged : (c d : Cell) → same_cell (exchanged x c) d ≡ same_cell c (exchanged x d)
  same_exchanged c d = go (same_cell (exchanged x c) d) (same_cell c (exchanged x d)) refl refl
    where
      go : (b q : Bool) → same_cell (exchanged x c) d ≡ b → same_cell c (exchanged x d) ≡ q → b ≡ q
      go true true e f = refl
      go true false e f =
          absurd (both_ways (same_cell c (exchanged x d)) f (ap (same_cell c) (ap (exchanged x) (sym (same_cell_exact (exchanged x c) d e)) ∙ twice c) ∙ same_cell_refl c))
      go false true e f =
          absurd (both_ways (same_cell (exchanged x c) d) e (ap (λ z. same_cell (exchanged x z) d) (same_cell_exact c (exchanged x d) f) ∙ ap (λ z. same_cell z d) (twice d) ∙ same_cell_refl d))
      go false false e f = refl

  size_renamed : (cs : List (Cell × ℕ)) (d : Cell) → size_in (renamed (exchanged x) cs) d ≡ size_in cs (exchanged x d)
  size_renamed [] d = refl
  size_renamed (c ∷ cs) d = ap₂ (λ b o. cond b (Some c.1) o) (same_exchanged c.0 d) (size_renamed cs d)

  pub exchanged_apart : IsOneToOne (exchanged x)
  exchanged_apart c d e = sym (twice c) ∙ ap (exchanged x) e ∙ twice d

  -- the list is as good as itself under the other names
  pub renamed_sizes : (ds : List Declaration) (i : Interpretation) (one : Bool) (a : Adversary) (game : Tree) → is_phrase Inputs game ≡ true → first_definition_but is_choice x 0 game ≡ None → (d : Cell)
      → size_in (renamed (exchanged x) (cells (setting_of ds i) (Random one x) a game)) d ≡ size_in (cells (setting_of ds i) (Random one x) a game) d
  renamed_sizes ds i one a game e c d =
      size_renamed (cells (setting_of ds i) (Random one x) a game) d ∙ exchanged_size ds i one a game (game_has_none x is_choice binds_otherwise odd_for_choices game e c) d
