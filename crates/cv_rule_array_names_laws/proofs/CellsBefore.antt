-- Each cell of the next game is one of the game: with the variable in the place of its names.
use Rattle.std.proofs.Common.{◌≡◌, ℕ, ◌==◌, Bool, true, false, cond, List, [], ◌∷◌, ◌++◌, flat_map, ◌⊎◌, inl, inr, refl, sym, ap, subst, ◌∙◌, eq-eqb, eqb-true}
use Rattle.std.proofs.lemmas.Bool.{both_ways, or_parts}
use Rattle.cv_syntax_trees.specs.declared.head.Head.{Head}
use Rattle.cv_syntax_trees.specs.declared.head.Head.TheVariants.{Binder, Call, Cons, Find, Key, Let, New}
use Rattle.cv_syntax_trees.specs.Declarations.{Declaration}
use Rattle.cv_syntax_trees.specs.Tree.{Tree, Node}
use Rattle.cv_meaning.specs.Cells.{at_each_copy, bounds_under, cells_at, coin_cells, if_tested, test_cells, test_cells_at, tuples_below}
use Rattle.cv_meaning.specs.Interpretation.{Interpretation, Setting, setting_of}
use Rattle.cv_meaning.specs.Runs.{Adversary, Events, Mode, Random, Real}
use Rattle.cv_meaning.specs.Tapes.{Cell, Find_at, Key_at, New_at, Test_at}
use Rattle.cv_meaning_laws.proofs.Listed.{Has, has_flat_map, has_left, has_right}
use Rattle.cv_meaning_laws.proofs.adequacy.Lists.{flat_map_has, has_append}
use Rattle.cv_meaning_laws.specs.adequacy.Typed.{Context}
use Rattle.cv_scene.specs.Scenes.{head_names, names}
use Rattle.cv_steps.proofs.Sizes.{all_cells}
use Rattle.cv_steps_laws.proofs.chances.Inclusion.{first_in, second_in}
use Rattle.cv_edit_names.specs.Naming.{Naming}
use Rattle.cv_rule_array_names_laws.proofs.Parts.{HeadFor, PartFor, again, for_binder, for_leaf, for_let, for_new, for_read, node, nothing, same}
use Rattle.cv_rule_array_names.proofs.Runs.{IsOther}
use Rattle.cv_rule_array_names.proofs.Stores.{Free, free_first, free_second, is_name}

-- names

abbrev pub FreeHead : List ℕ → Head → Type 0
FreeHead ys h = (y : ℕ) → is_name ys y ≡ true → head_names y h ≡ false

free_here : (ys : List ℕ) (h : Head) (a b : Tree) → Free ys (Node h a b) → FreeHead ys h
unfolding names
free_here ys h a b f y e = (or_parts (head_names y h) _ (f y e)).0

module _ (x : ℕ) (ys : List ℕ) where
  -- the cell of the variable for that of a name
  abbrev pub cell_before : Cell → Cell
  cell_before (New_at z w) = New_at (cond (is_name ys z) x z) w
  cell_before c = c

  abbrev pub sized_before : Cell × ℕ → Cell × ℕ
  sized_before d = (cell_before d.0, d.1)

  pub named_before : (y : ℕ) (w : List ℕ) → is_name ys y ≡ true → cell_before (New_at y w) ≡ New_at x w
  named_before y w e = ap (λ b. New_at (cond b x y) w) e

  pub other_before : (y : ℕ) (w : List ℕ) → is_name ys y ≡ false → cell_before (New_at y w) ≡ New_at y w
  other_before y w e = ap (λ b. New_at (cond b x y) w) e

  -- what a construct of the next game gives, the one that it is for gives of the cells before
  abbrev pub GivesBefore : (Head → List ℕ → List (Cell × ℕ)) → Type 0
  GivesBefore give = (h k : Head) → HeadFor x ys h k → FreeHead ys h → (u : List ℕ) (d : Cell × ℕ) → Has (give k u) d → Has (give h u) (sized_before d)

  one_before : (c d : Cell) (k : ℕ) (e : Cell × ℕ) → cell_before c ≡ d → Has ((c, k) ∷ []) e → Has ((d, k) ∷ []) (sized_before e)
  one_before c d k e i (inl q) = inl (ap sized_before q ∙ ap (λ (z : Cell). (z, k)) i)
  one_before c d k e i (inr q) = absurd q

  no_name : (z : ℕ) (h : Head) → FreeHead ys h → head_names z h ≡ true → is_name ys z ≡ false
  no_name z h f e = go (is_name ys z) refl
    where
      go : (b : Bool) → is_name ys z ≡ b → is_name ys z ≡ false
      go true i = absurd (both_ways (head_names z h) (f z i) e)
      go false i = i

  module _ (ds : List Declaration) (i : Interpretation) where
    abbrev g : Setting
    g = setting_of ds i

    kept_before : (h : Head) → FreeHead ys h → (u : List ℕ) (d : Cell × ℕ) → Has (cells_at g h u) d → Has (cells_at g h u) (sized_before d)
    kept_before (New z T) f u d k = one_before (New_at z u) (New_at z u) (i.type_size T) d (other_before z u (no_name z (New z T) f (eq-eqb z z refl))) k
    kept_before (Find l) f u d k = one_before (Find_at l u) (Find_at l u) i.choices d refl k
    kept_before (Key z) f u d k = one_before (Key_at u) (Key_at u) 1 d refl k
    kept_before (Call z l) f u d k = absurd k
    kept_before h f u d k = absurd k

    cells_before : GivesBefore (cells_at g)
    cells_before h k (same e) f u d m = kept_before h f u d m
    cells_before h k (for_new {y = y} {T = T} e) f u d m = one_before (New_at y u) (New_at x u) (i.type_size T) d (named_before y u e) m
    cells_before h k (for_let e) f u d m = absurd m
    cells_before h k (for_binder e) f u d m = absurd m
    cells_before h k for_leaf f u d m = absurd m
    cells_before h k for_read f u d m = absurd m

    -- tests of another variable

    tested_before : (b : Bool) (u : List ℕ) (n : ℕ) (d : Cell × ℕ) → Has (if_tested b u n) d → Has (if_tested b u n) (sized_before d)
    tested_before true u n d k = one_before (Test_at u) (Test_at u) n d refl k
    tested_before false u n d k = absurd k

    no_test : (b : Bool) → b ≡ false → (u : List ℕ) (n : ℕ) (d : Cell × ℕ) → Has (if_tested b u n) d → ⊥
    no_test true e u n d k = both_ways true e refl
    no_test false e u n d k = k

    module _ (z : ℕ) (other : is_name ys z ≡ false) where
      named_apart : (y : ℕ) → is_name ys y ≡ true → (y == z) ≡ false
      named_apart y e = go (y == z) refl
        where
          go : (b : Bool) → (y == z) ≡ b → (y == z) ≡ false
          go true k = absurd (both_ways (is_name ys z) other (ap (is_name ys) (sym (eqb-true y z k)) ∙ e))
          go false k = k

      kept_tests : (h : Head) (u : List ℕ) (d : Cell × ℕ) → Has (test_cells_at g z h u) d → Has (test_cells_at g z h u) (sized_before d)
      kept_tests (New y T) u d k = tested_before (y == z) u (i.type_size T) d k
      kept_tests (Let y T) u d k = tested_before (y == z) u (i.type_size T) d k
      kept_tests (Binder y T) u d k = tested_before (y == z) u (i.type_size T) d k
      kept_tests h u d k = absurd k

      tests_before : GivesBefore (test_cells_at g z)
      tests_before h k (same e) f u d m = kept_tests h u d m
      tests_before h k (for_new {y = y} {T = T} e) f u d m = absurd (no_test (y == z) (named_apart y e) u (i.type_size T) d m)
      tests_before h k (for_let {y = y} {T = T} e) f u d m = absurd (no_test (y == z) (named_apart y e) u (i.type_size T) d m)
      tests_before h k (for_binder {y = y} {T = T} e) f u d m = absurd (no_test (y == z) (named_apart y e) u (i.type_size T) d m)
      tests_before h k for_leaf f u d m = absurd m
      tests_before h k for_read f u d m = absurd m

    -- the copies of a part

    bounds_for : (bounds : List ℕ) (h k : Head) → HeadFor x ys h k → bounds_under g bounds k ≡ bounds_under g bounds h
    bounds_for bounds h k (same e) = refl
    bounds_for bounds h k (for_new e) = refl
    bounds_for bounds h k (for_let e) = refl
    bounds_for bounds h k (for_binder e) = refl
    bounds_for bounds h k for_leaf = refl
    bounds_for bounds h k for_read = refl

    module _ (give : Head → List ℕ → List (Cell × ℕ)) (before : GivesBefore give) where
      abbrev copies : List ℕ → Tree → List (Cell × ℕ)
      copies bounds t = at_each_copy g give bounds t

      abbrev HasBefore : List (Cell × ℕ) → List (Cell × ℕ) → Type 0
      HasBefore cs es = (d : Cell × ℕ) → Has es d → Has cs (sized_before d)

      own_before : (h k : Head) → HeadFor x ys h k → FreeHead ys h → (bounds : List ℕ) → HasBefore (flat_map (give h) (tuples_below bounds)) (flat_map (give k) (tuples_below bounds))
      own_before h k f free bounds d m =
          let r = flat_map_has (give k) (tuples_below bounds) d m in
          has_flat_map (give h) (tuples_below bounds) r.0 (sized_before d) r.1 (before h k f free r.0 d r.2)

      node_before : (h k : Head) (a b c e : Tree) → HeadFor x ys h k → FreeHead ys h → (bounds : List ℕ) → HasBefore (copies (bounds_under g bounds h) a) (copies (bounds_under g bounds h) c)
          → HasBefore (copies (bounds_under g bounds h) b) (copies (bounds_under g bounds h) e) → HasBefore (copies bounds (Node h a b)) (copies bounds (Node k c e))
      unfolding at_each_copy
      node_before h k a b c e f free bounds one two d m =
          go (has_append (flat_map (give k) (tuples_below bounds)) _ d (subst (λ z. Has (flat_map (give k) (tuples_below bounds) ++ (copies z c ++ copies z e)) d) (bounds_for bounds h k f) m))
        where
          inside : Has (copies (bounds_under g bounds h) c) d ⊎ Has (copies (bounds_under g bounds h) e) d → Has (copies bounds (Node h a b)) (sized_before d)
          inside (inl i) = first_in g give h a b bounds (sized_before d) (one d i)
          inside (inr i) = second_in g give h a b bounds (sized_before d) (two d i)

          go : Has (flat_map (give k) (tuples_below bounds)) d ⊎ Has (copies (bounds_under g bounds h) c ++ copies (bounds_under g bounds h) e) d → Has (copies bounds (Node h a b)) (sized_before d)
          go (inl i) = has_left (flat_map (give h) (tuples_below bounds)) _ (sized_before d) (own_before h k f free bounds d i)
          go (inr i) = inside (has_append (copies (bounds_under g bounds h) c) _ d i)

      again_before : (b c more rest : Tree) → FreeHead ys Cons → (bounds : List ℕ) → HasBefore (copies bounds b) (copies bounds c) → HasBefore (copies bounds (Node Cons b more)) (copies bounds rest) → HasBefore (copies bounds (Node Cons b more)) (copies bounds (Node Cons c rest))
      unfolding at_each_copy
      again_before b c more rest free bounds one two d m = go (has_append (flat_map (give Cons) (tuples_below bounds)) _ d m)
        where
          inside : Has (copies bounds c) d ⊎ Has (copies bounds rest) d → Has (copies bounds (Node Cons b more)) (sized_before d)
          inside (inl i) = first_in g give Cons b more bounds (sized_before d) (one d i)
          inside (inr i) = two d i

          go : Has (flat_map (give Cons) (tuples_below bounds)) d ⊎ Has (copies bounds c ++ copies bounds rest) d → Has (copies bounds (Node Cons b more)) (sized_before d)
          go (inl i) = has_left (flat_map (give Cons) (tuples_below bounds)) _ (sized_before d) (own_before Cons Cons (same refl) free bounds d i)
          go (inr i) = inside (has_append (copies bounds c) _ d i)

      pub copies_before : (n : Naming) → n.variable ≡ x → n.names ≡ ys → (p : ℕ) (t u : Tree) → PartFor n p t u → Free ys t → (bounds : List ℕ) → HasBefore (copies bounds t) (copies bounds u)
      unfolding at_each_copy
      copies_before n i j p t u nothing free bounds d m = absurd m
      copies_before n i j p t u (node {h = h} {k = k} {a = a} {b = b} {c = c} {d = e} f made one two) free bounds d m =
          node_before h k a b c e (subst (λ zs. HeadFor x zs h k) j (subst (λ z. HeadFor z n.names h k) i f)) (free_here ys h a b free) bounds
          (copies_before n i j _ a c one (free_first ys h a b free) (bounds_under g bounds h)) (copies_before n i j _ b e two (free_second ys h a b free) (bounds_under g bounds h)) d m
      copies_before n i j p t u (again {b = b} {c = c} {more = more} {rest = rest} one two) free bounds d m =
          again_before b c more rest (free_here ys Cons b more free) bounds (copies_before n i j _ b c one (free_first ys Cons b more free) bounds) (copies_before n i j _ (Node Cons b more) rest two free bounds) d m

-- all cells of an experiment

module _ (c : Context) (ds : List Declaration) (i : Interpretation) (m : Mode) (a : Adversary) (n : Naming) (game next : Tree) (part : PartFor n 0 game next) (free : Free n.names game) (other : IsOther n.variable n.names m) where
  abbrev x : ℕ
  x = n.variable

  abbrev ys : List ℕ
  ys = n.names

  game_before : (d : Cell × ℕ) → Has (at_each_copy (setting_of ds i) (cells_at (setting_of ds i)) [] next) d → Has (at_each_copy (setting_of ds i) (cells_at (setting_of ds i)) [] game) (sized_before x ys d)
  game_before d h = copies_before x ys ds i (cells_at (setting_of ds i)) (cells_before x ys ds i) n refl refl 0 game next part free [] d h

  test_before : (mode : Mode) → IsOther x ys mode → (d : Cell × ℕ) → Has (test_cells (setting_of ds i) mode next) d → Has (test_cells (setting_of ds i) mode game) (sized_before x ys d)
  test_before Events o d k = absurd k
  test_before (Real one z) o d k = copies_before x ys ds i (test_cells_at (setting_of ds i) z) (tests_before x ys ds i z o.1) n refl refl 0 game next part free [] d k
  test_before (Random one z) o d k = copies_before x ys ds i (test_cells_at (setting_of ds i) z) (tests_before x ys ds i z o.1) n refl refl 0 game next part free [] d k

  coin_before : (k : ℕ) (ns : List ℕ) (d : Cell × ℕ) → Has (coin_cells k ns) d → Has (coin_cells k ns) (sized_before x ys d)
  coin_before k [] d h = absurd h
  coin_before k (v ∷ ns) d (inl e) = inl (ap (sized_before x ys) e)
  coin_before k (v ∷ ns) d (inr h) = inr (coin_before _ ns d h)

  pub all_before : (d : Cell × ℕ) → Has (all_cells c ds i m a next) d → Has (all_cells c ds i m a game) (sized_before x ys d)
  all_before d h = go (has_append (at_each_copy (setting_of ds i) (cells_at (setting_of ds i)) [] next) _ d h)
    where
      late : Has (test_cells (setting_of ds i) m next) d ⊎ Has (coin_cells 0 a.coins) d → Has (test_cells (setting_of ds i) m game ++ coin_cells 0 a.coins) (sized_before x ys d)
      late (inl k) = has_left (test_cells (setting_of ds i) m game) _ (sized_before x ys d) (test_before m other d k)
      late (inr k) = has_right (test_cells (setting_of ds i) m game) _ (sized_before x ys d) (coin_before 0 a.coins d k)

      go : Has (at_each_copy (setting_of ds i) (cells_at (setting_of ds i)) [] next) d ⊎ Has (test_cells (setting_of ds i) m next ++ coin_cells 0 a.coins) d → Has (all_cells c ds i m a game) (sized_before x ys d)
      go (inl k) = has_left (at_each_copy (setting_of ds i) (cells_at (setting_of ds i)) [] game) _ (sized_before x ys d) (game_before d k)
      go (inr k) = has_right (at_each_copy (setting_of ds i) (cells_at (setting_of ds i)) [] game) _ (sized_before x ys d) (late (has_append (test_cells (setting_of ds i) m next) _ d k))
