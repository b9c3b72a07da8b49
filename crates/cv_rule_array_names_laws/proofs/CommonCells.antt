-- The common list of cells: those of the game, and with a cell of the variable those of all names at the same size. It has the cells of
-- the next game, and each has one size in both lists.
use Rattle.std.proofs.Common.{◌≡◌, ℕ, zero, suc, ◌<◌, ◌*◌, ◌==◌, ◌&&◌, ◌||◌, Bool, true, false, cond, List, [], ◌∷◌, ◌++◌, map, flat_map, ◌⊎◌, inl, inr, Option, Some, None, refl, sym, ap, subst, ◌∙◌, arith, eq-eqb}
use Rattle.std.proofs.lemmas.Bool.{both_ways}
use Rattle.std.proofs.Math.Nat.{mul-zero, zero-mul}
use Rattle.std.specs.List.{AllByRecursion, IsDistinct}
use Rattle.cv_syntax_trees.specs.lists.Options.{first_of}
use Rattle.cv_syntax_trees.specs.Declarations.{Declaration}
use Rattle.cv_syntax_trees.specs.Tree.{Tree}
use Rattle.cv_meaning.specs.Cells.{cells, coin_cells, test_cells, at_each_copy, cells_at, without_repeats}
use Rattle.cv_meaning.specs.Chances.{Same, chance}
use Rattle.cv_meaning.specs.Interpretation.{Interpretation, Setting, setting_of}
use Rattle.cv_meaning.specs.Runs.{Adversary, Mode}
use Rattle.cv_meaning.specs.Tapes.{Cell, Coin, Find_at, Key_at, Made_at, New_at, Picked_at, Tape, Test_at, blank, cells_of, count, is_in, same_cell, same_tuple, total}
use Rattle.cv_meaning_laws.proofs.Counts.{same_cell_exact, same_cell_refl}
use Rattle.cv_meaning_laws.proofs.Listed.{Has, cells_distinct, distinct_without_repeats, has_map, has_right}
use Rattle.cv_meaning_laws.proofs.adequacy.Lists.{map_has}
use Rattle.cv_meaning_laws.proofs.adequacy.Sorted.{all_has}
use Rattle.cv_meaning_laws.specs.adequacy.Typed.{Context}
use Rattle.cv_meaning_chances.proofs.LikeTests.{same_trans}
use Rattle.cv_meaning_chances.proofs.Within.{count_at_most, total_above}
use Rattle.cv_meaning_chances.proofs.unread.CellSizes.{is_in_size, same_by_sizes, size_each, size_once, undrawn, first_none, size_append}
use Rattle.cv_meaning_chances.specs.Tests.{HasDistinctCells, HasValues, Ignores, IgnoresOthers}
use Rattle.cv_meaning_chances.specs.unread.Sizes.{GiveSizesFor, size_in}
use Rattle.cv_meaning_runs.specs.Listed.{has_no_calls}
use Rattle.cv_steps.proofs.Sizes.{IsSized, NamesSorts, all_cells, all_sizes}
use Rattle.cv_steps.specs.Changes.{only}
use Rattle.cv_steps_laws.proofs.Unnamed.{unnamed_undrawn}
use Rattle.cv_edit_names.specs.Naming.{Naming}
use Rattle.cv_rule_array_names_laws.proofs.CellsBefore.{all_before, cell_before, named_before, other_before}
use Rattle.cv_rule_array_names_laws.proofs.Counting.{IsCommon}
use Rattle.cv_rule_array_names_laws.proofs.Exchange.{of_each}
use Rattle.cv_rule_array_names_laws.proofs.Parts.{PartFor}
use Rattle.cv_rule_array_names.proofs.Runs.{IsOther}
use Rattle.cv_rule_array_names.proofs.Stores.{Free, is_name}

-- sizes in lists

size_has : (cs : List (Cell × ℕ)) (c : Cell) (k : ℕ) → size_in cs c ≡ Some k → Has cs (c, k)
size_has [] c k e = absurd (cc)
size_has (d ∷ cs) c k e = go (same_cell d.0 c) refl e (size_has cs c k)
  where
    go : (b : Bool) → same_cell d.0 c ≡ b → cond b (Some d.1) (size_in cs c) ≡ Some k → (size_in cs c ≡ Some k → Has cs (c, k)) → Has (d ∷ cs) (c, k)
    go true f e ih = let q : d.1 ≡ k = cc in inl (λ i. (sym (same_cell_exact d.0 c f) i, sym q i))
    go false f e ih = inr (ih e)

has_size : (cs : List (Cell × ℕ)) (c : Cell) (k : ℕ) → Has cs (c, k) → (n : ℕ) × (size_in cs c ≡ Some n)
has_size [] c k h = absurd h
has_size (d ∷ cs) c k h = go (same_cell d.0 c) refl h (has_size cs c k)
  where
    here : same_cell d.0 c ≡ false → (let e : Cell × ℕ = (c, k) in e) ≡ d → ⊥
    here f e = both_ways (same_cell d.0 c) f (ap (λ (z : Cell × ℕ). same_cell z.0 c) (sym e) ∙ same_cell_refl c)

    go : (b : Bool) → same_cell d.0 c ≡ b → Has (d ∷ cs) (c, k) → (Has cs (c, k) → (n : ℕ) × (size_in cs c ≡ Some n)) → (n : ℕ) × (cond b (Some d.1) (size_in cs c) ≡ Some n)
    go true f h ih = (d.1, refl)
    go false f (inl e) ih = absurd (here f e)
    go false f (inr h) ih = ih h

distinct_size : (cs : List (Cell × ℕ)) → HasDistinctCells cs → (c : Cell) (k : ℕ) → Has cs (c, k) → size_in cs c ≡ Some k
unfolding IsDistinct
distinct_size [] x c k h = absurd h
distinct_size (d ∷ cs) x c k (inl e) = subst (λ (z : Cell × ℕ). size_in (d ∷ cs) z.0 ≡ Some z.1) (sym e) (ap (λ b. cond b (Some d.1) (size_in cs d.0)) (same_cell_refl d.0))
distinct_size (d ∷ cs) x c k (inr h) =
    ap (λ b. cond b (Some d.1) (size_in cs c)) (all_has (λ z. same_cell d.0 z ≡ false) (cells_of cs) x.0 c (has_map (λ (e : Cell × ℕ). e.0) cs (c, k) h)) ∙ distinct_size cs x.1 c k h

no_size : (cs : List (Cell × ℕ)) (d : Cell) → is_in cs d ≡ false → size_in cs d ≡ None
no_size [] d e = refl
no_size (c ∷ cs) d e = go (same_cell c.0 d) e (no_size cs d)
  where
    go : (b : Bool) → (b || is_in cs d) ≡ false → (is_in cs d ≡ false → size_in cs d ≡ None) → cond b (Some c.1) (size_in cs d) ≡ None
    go true f k = absurd (both_ways true f refl)
    go false f k = k f

-- where there are tapes, each cell has a value
some_values : (cs : List (Cell × ℕ)) → 0 < total cs → (c : Cell) (k : ℕ) → Has cs (c, k) → 0 < k
unfolding total
some_values [] l c k h = absurd h
some_values (d ∷ cs) l c k h = go d.1 refl (total cs) refl l h (λ m. some_values cs m c k)
  where
    go : (a : ℕ) → d.1 ≡ a → (b : ℕ) → total cs ≡ b → 0 < d.1 * total cs → Has (d ∷ cs) (c, k) → (0 < total cs → Has cs (c, k) → 0 < k) → 0 < k
    go zero f b g l h ih = absurd (let z : d.1 * total cs ≡ 0 = ap (λ q. q * total cs) f ∙ zero-mul (total cs) in omega arith)
    go (suc a) f zero g l h ih = absurd (let z : d.1 * total cs ≡ 0 = ap (λ q. d.1 * q) g ∙ mul-zero d.1 in omega arith)
    go (suc a) f (suc b) g l (inl e) ih = let z : k ≡ d.1 = ap (λ (q : Cell × ℕ). q.1) e in omega arith
    go (suc a) f (suc b) g l (inr h) ih = ih (omega arith) h

-- the cells of the names

module _ (x : ℕ) (ys : List ℕ) where
  abbrev at_names : Cell → ℕ → List (Cell × ℕ)
  at_names (New_at z w) k = cond (z == x) (map (λ y. (New_at y w, k)) ys) []
  at_names c k = []

  abbrev all_names : List (Cell × ℕ) → List (Cell × ℕ)
  all_names cs = flat_map (λ (c : Cell × ℕ). at_names c.0 c.1) cs

  -- the cells of a list, and of the names
  abbrev pub with_all_names : List (Cell × ℕ) → List (Cell × ℕ)
  with_all_names cs = cs ++ all_names cs

  size_of_names : (zs : List ℕ) (w : List ℕ) (k y : ℕ) (v : List ℕ) → size_in (map (λ z. (New_at z w, k)) zs) (New_at y v) ≡ cond (is_name zs y && same_tuple w v) (Some k) None
  size_of_names [] w k y v = refl
  size_of_names (z ∷ zs) w k y v = go (z == y) (same_tuple w v) (is_name zs y) (size_in (map (λ z. (New_at z w, k)) zs) (New_at y v)) (size_of_names zs w k y v)
    where
      go : (b c m : Bool) (o : Option ℕ) → o ≡ cond (m && c) (Some k) None → cond (b && c) (Some k) o ≡ cond ((b || m) && c) (Some k) None
      go true true m o h = refl
      go true false true o h = h
      go true false false o h = h
      go false c m o h = h

  apart_names : (zs : List ℕ) (w : List ℕ) (k : ℕ) (d : Cell) → ((z : ℕ) → same_cell (New_at z w) d ≡ false) → size_in (map (λ z. (New_at z w, k)) zs) d ≡ None
  apart_names [] w k d f = refl
  apart_names (z ∷ zs) w k d f = ap (λ b. cond b (Some k) (size_in (map (λ z. (New_at z w, k)) zs) d)) (f z) ∙ apart_names zs w k d f

  -- a name has the cells of the variable

  name_at_cell : (y : ℕ) (w : List ℕ) → is_name ys y ≡ true → (c : Cell) (k : ℕ) → size_in (at_names c k) (New_at y w) ≡ cond (same_cell c (New_at x w)) (Some k) None
  name_at_cell y w e (New_at z v) k = go (z == x)
    where
      go : (b : Bool) → size_in (cond b (map (λ y. (New_at y v, k)) ys) []) (New_at y w) ≡ cond (b && same_tuple v w) (Some k) None
      go true = size_of_names ys v k y w ∙ ap (λ b. cond (b && same_tuple v w) (Some k) None) e
      go false = refl
  name_at_cell y w e (Find_at z v) k = refl
  name_at_cell y w e (Test_at v) k = refl
  name_at_cell y w e (Key_at v) k = refl
  name_at_cell y w e (Made_at z v j) k = refl
  name_at_cell y w e (Picked_at z v j) k = refl
  name_at_cell y w e (Coin j) k = refl

  size_at_name : (y : ℕ) (w : List ℕ) → is_name ys y ≡ true → (cs : List (Cell × ℕ)) → size_in (all_names cs) (New_at y w) ≡ size_in cs (New_at x w)
  size_at_name y w e [] = refl
  size_at_name y w e (c ∷ cs) =
      size_append (at_names c.0 c.1) (all_names cs) (New_at y w) ∙ (λ i. first_of (name_at_cell y w e c.0 c.1 i) (size_at_name y w e cs i)) ∙ go (same_cell c.0 (New_at x w))
    where
      go : (b : Bool) → first_of (cond b (Some c.1) None) (size_in cs (New_at x w)) ≡ cond b (Some c.1) (size_in cs (New_at x w))
      go true = refl
      go false = refl

  -- no other cell is one of a name

  by_test : (b : Bool) (cs : List (Cell × ℕ)) (d : Cell) → size_in cs d ≡ None → size_in (cond b cs []) d ≡ None
  by_test true cs d e = e
  by_test false cs d e = refl

  apart_cell : (d : Cell) → ((z : ℕ) (w : List ℕ) → same_cell (New_at z w) d ≡ false) → (c : Cell × ℕ) → size_in (at_names c.0 c.1) d ≡ None
  apart_cell d f c = go c.0
    where
      go : (e : Cell) → size_in (at_names e c.1) d ≡ None
      go (New_at z w) = by_test (z == x) _ d (apart_names ys w c.1 d (λ z. f z w))
      go (Find_at z w) = refl
      go (Test_at w) = refl
      go (Key_at w) = refl
      go (Made_at z w j) = refl
      go (Picked_at z w j) = refl
      go (Coin j) = refl

  other_cell : (y : ℕ) (v : List ℕ) → is_name ys y ≡ false → (c : Cell × ℕ) → size_in (at_names c.0 c.1) (New_at y v) ≡ None
  other_cell y v e c = go c.0
    where
      go : (d : Cell) → size_in (at_names d c.1) (New_at y v) ≡ None
      go (New_at z w) = by_test (z == x) _ (New_at y v) (size_of_names ys w c.1 y v ∙ ap (λ b. cond (b && same_tuple w v) (Some c.1) None) e)
      go (Find_at z w) = refl
      go (Test_at w) = refl
      go (Key_at w) = refl
      go (Made_at z w j) = refl
      go (Picked_at z w j) = refl
      go (Coin j) = refl

  module _ (cs : List (Cell × ℕ)) (free : (y : ℕ) (w : List ℕ) → is_name ys y ≡ true → size_in cs (New_at y w) ≡ None) where
    no_more : (d : Cell) → ((c : Cell × ℕ) → size_in (at_names c.0 c.1) d ≡ None) → size_in (with_all_names cs) d ≡ size_in cs d
    no_more d f = size_append cs (all_names cs) d ∙ ap (first_of (size_in cs d)) (size_each (λ (c : Cell × ℕ). at_names c.0 c.1) d f cs) ∙ first_none (size_in cs d)

    new_size : (y : ℕ) (w : List ℕ) (b : Bool) → is_name ys y ≡ b → size_in (with_all_names cs) (New_at y w) ≡ size_in cs (New_at (cond b x y) w)
    new_size y w true e = size_append cs (all_names cs) (New_at y w) ∙ (λ i. first_of (free y w e i) (size_at_name y w e cs i))
    new_size y w false e = no_more (New_at y w) (other_cell y w e)

    pub size_before : (d : Cell) → size_in (with_all_names cs) d ≡ size_in cs (cell_before x ys d)
    size_before (New_at y w) = new_size y w (is_name ys y) refl
    size_before (Find_at z w) = no_more (Find_at z w) (apart_cell (Find_at z w) (λ y v. refl))
    size_before (Test_at w) = no_more (Test_at w) (apart_cell (Test_at w) (λ y v. refl))
    size_before (Key_at w) = no_more (Key_at w) (apart_cell (Key_at w) (λ y v. refl))
    size_before (Made_at z w j) = no_more (Made_at z w j) (apart_cell (Made_at z w j) (λ y v. refl))
    size_before (Picked_at z w j) = no_more (Picked_at z w j) (apart_cell (Picked_at z w j) (λ y v. refl))
    size_before (Coin j) = no_more (Coin j) (apart_cell (Coin j) (λ y v. refl))

cells_has : (E : List (Cell × ℕ)) (c : Cell) → Has (cells_of E) c → (k : ℕ) × Has E (c, k)
cells_has E c h = let r = map_has (λ (e : Cell × ℕ). e.0) E c h in (r.0.1, subst (λ z. Has E (z, r.0.1)) (sym r.2) r.1)

has_cells : (E : List (Cell × ℕ)) (c : Cell) (k : ℕ) → Has E (c, k) → Has (cells_of E) c
has_cells E c k h = has_map (λ (e : Cell × ℕ). e.0) E (c, k) h

-- the cells of both games

module _ (c : Context) (ds : List Declaration) (i : Interpretation) (m : Mode) (a : Adversary) (n : Naming) (game next : Tree) (part : PartFor n 0 game next) (free : Free n.names game) (old : is_name n.names n.variable ≡ false) (plain : has_no_calls game ≡ true)
    (other : IsOther n.variable n.names m) (sorts : NamesSorts c game) where
  abbrev x : ℕ
  x = n.variable

  abbrev ys : List ℕ
  ys = n.names

  abbrev g : Setting
  g = setting_of ds i

  abbrev all : List (Cell × ℕ)
  all = all_cells c ds i m a game

  abbrev pub common : List (Cell × ℕ)
  common = without_repeats (with_all_names x ys all)

  game_size : (d : Cell) → size_in (cells g m a game) d ≡ size_in all d
  unfolding cells
  game_size d = size_once all d

  next_size : (d : Cell) → size_in (cells g m a next) d ≡ size_in (all_cells c ds i m a next) d
  unfolding cells
  next_size d = size_once (all_cells c ds i m a next) d

  no_names : (y : ℕ) (w : List ℕ) → is_name ys y ≡ true → size_in all (New_at y w) ≡ None
  no_names y w e = sym (game_size (New_at y w)) ∙ no_size (cells g m a game) (New_at y w) (undrawn g m a (only y) game (New_at y w) (unnamed_undrawn y game (free y e)) plain (eq-eqb y y refl))

  common_size : (d : Cell) → size_in common d ≡ size_in all (cell_before x ys d)
  common_size d = size_once (with_all_names x ys all) d ∙ size_before x ys all no_names d

  common_distinct : HasDistinctCells common
  common_distinct = distinct_without_repeats (with_all_names x ys all)

  in_common : (d : Cell) (k : ℕ) → size_in all (cell_before x ys d) ≡ Some k → Has common (d, k)
  in_common d k e = size_has common d k (common_size d ∙ e)

  from_common : (d : Cell) (k : ℕ) → Has common (d, k) → size_in all (cell_before x ys d) ≡ Some k
  from_common d k h = sym (common_size d) ∙ distinct_size common common_distinct d k h

  -- the cells of the game
  game_common : (d : Cell) (k : ℕ) → size_in all d ≡ Some k → size_in common d ≡ Some k
  game_common d k e = size_once (with_all_names x ys all) d ∙ size_append all (all_names x ys all) d ∙ ap (λ o. first_of o (size_in (all_names x ys all) d)) e

  variable_before : (w : List ℕ) → cell_before x ys (New_at x w) ≡ New_at x w
  variable_before w = other_before x ys x w old

  there : (y : ℕ) (w : List ℕ) (k : ℕ) → is_name ys y ≡ true → Has common (New_at x w, k) → Has common (New_at y w, k)
  there y w k e h = in_common (New_at y w) k (ap (size_in all) (named_before x ys y w e ∙ sym (variable_before w)) ∙ from_common (New_at x w) k h)

  back : (y : ℕ) (w : List ℕ) (k : ℕ) → is_name ys y ≡ true → Has common (New_at y w, k) → Has common (New_at x w, k)
  back y w k e h = in_common (New_at x w) k (ap (size_in all) (variable_before w ∙ sym (named_before x ys y w e)) ∙ from_common (New_at y w) k h)

  -- the cells of the next game

  next_listed : (d : Cell) (k : ℕ) → size_in (cells g m a next) d ≡ Some k → Has all (cell_before x ys d, k)
  next_listed d k e = all_before c ds i m a n game next part free other (d, k) (size_has (all_cells c ds i m a next) d k (sym (next_size d) ∙ e))

  one_size : (d : Cell) (k j : ℕ) → Has all (d, k) → Has all (d, j) → k ≡ j
  one_size d k j h l =
      let sizes : AllByRecursion (IsSized c ds i m a) all = all_sizes c ds i m a game sorts in
      all_has (IsSized c ds i m a) all sizes (d, k) h ∙ sym (all_has (IsSized c ds i m a) all sizes (d, j) l)

  next_common : (d : Cell) (k : ℕ) → size_in (cells g m a next) d ≡ Some k → size_in common d ≡ Some k
  next_common d k e =
      let h : Has all (cell_before x ys d, k) = next_listed d k e in
      let r = has_size all (cell_before x ys d) k h in
      common_size d ∙ r.1 ∙ ap Some (one_size (cell_before x ys d) r.0 k (size_has all (cell_before x ys d) r.0 r.1) h)

  pub common_cells : IsCommon g m a game next x ys common
  common_cells = record {
    closed = record {
      game_cells = of_each (Has (cells_of common)) (cells_of (cells g m a game)) (λ d h.
          let r = cells_has (cells g m a game) d h in
          has_cells common d r.0 (size_has common d r.0 (game_common d r.0 (sym (game_size d) ∙ distinct_size (cells g m a game) (cells_distinct g m a game) d r.0 r.1))));
      coins = of_each (Has (cells_of common)) (cells_of (coin_cells 0 a.coins)) (λ d h.
          let r = cells_has (coin_cells 0 a.coins) d h in
          let s = has_size all d r.0 (has_right (at_each_copy g (cells_at g) [] game) _ (d, r.0) (has_right (test_cells g m game) _ (d, r.0) r.1)) in
          has_cells common d s.0 (size_has common d s.0 (game_common d s.0 s.1)));
      there = λ y w e h. let r = cells_has common (New_at x w) h in has_cells common (New_at y w) r.0 (there y w r.0 e r.1);
      back = λ y w e h. let r = cells_has common (New_at y w) h in has_cells common (New_at x w) r.0 (back y w r.0 e r.1);
    };
    distinct = common_distinct;
    there = there;
    back = back;
    next_cells = of_each (Has (cells_of common)) (cells_of (cells g m a next)) (λ d h.
        let r = cells_has (cells g m a next) d h in
        has_cells common d r.0 (size_has common d r.0 (next_common d r.0 (distinct_size (cells g m a next) (cells_distinct g m a next) d r.0 r.1))));
  }

  -- chances over the common list

  sizes_for : (p : Tape → Bool) (cs : List (Cell × ℕ)) → IgnoresOthers p cs → ((d : Cell) (k : ℕ) → size_in cs d ≡ Some k → size_in common d ≡ Some k) → GiveSizesFor p cs common
  sizes_for p cs others same d = go (size_in cs d) refl
    where
      go : (o : Option ℕ) → size_in cs d ≡ o → (size_in cs d ≡ size_in common d) ⊎ Ignores p d
      go None e = inr (others d (is_in_size cs d e))
      go (Some k) e = inl (e ∙ sym (same d k e))

  game_chance : (p : Tape → Bool) → IgnoresOthers p (cells g m a game) → Same (chance (cells g m a game) p) (chance common p)
  game_chance p others = same_by_sizes p (cells g m a game) common (cells_distinct g m a game) common_distinct (sizes_for p (cells g m a game) others (λ d k e. game_common d k (sym (game_size d) ∙ e)))

  next_chance : (q : Tape → Bool) → IgnoresOthers q (cells g m a next) → Same (chance (cells g m a next) q) (chance common q)
  next_chance q others = same_by_sizes q (cells g m a next) common (cells_distinct g m a next) common_distinct (sizes_for q (cells g m a next) others next_common)

  common_values : 0 < total (cells g m a game) → HasValues common
  common_values l =
      of_each (λ (d : Cell × ℕ). 0 < d.1) common
      (λ d h. some_values (cells g m a game) l (cell_before x ys d.0) d.1 (size_has (cells g m a game) (cell_before x ys d.0) d.1 (game_size (cell_before x ys d.0) ∙ from_common d.0 d.1 h)))

  pub equal_chances : (p q : Tape → Bool) → IgnoresOthers p (cells g m a game) → IgnoresOthers q (cells g m a next) → chance common p ≡ chance common q → Same (chance (cells g m a game) p) (chance (cells g m a next) q)
  equal_chances p q one two equal = go (total (cells g m a game)) refl
    where
      go : (k : ℕ) → total (cells g m a game) ≡ k → Same (chance (cells g m a game) p) (chance (cells g m a next) q)
      go zero e =
          let none : count (cells g m a game) p blank ≡ 0 = (let l = count_at_most (cells g m a game) p blank in omega arith) in
          ap (λ z. z * total (cells g m a next)) none ∙ zero-mul (total (cells g m a next)) ∙ sym (ap (λ z. count (cells g m a next) q blank * z) e ∙ mul-zero (count (cells g m a next) q blank))
      go (suc k) e =
          same_trans (chance (cells g m a game) p) (chance common p) (chance (cells g m a next) q) (total_above common (common_values (omega arith)))
          (game_chance p one) (subst (λ r. Same r (chance (cells g m a next) q)) (sym equal) (sym (next_chance q two)))
