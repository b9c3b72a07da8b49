-- The cells of a game under other names are its cells under other names.
use Rattle.std.proofs.Common.{◌≡◌, ℕ, suc, ◌==◌, ◌&&◌, Bool, true, false, cond, not, List, [], ◌∷◌, ◌++◌, filter, flat_map, refl, sym, ap, ap₂, ◌∙◌}
use Rattle.std.proofs.lemmas.List.{map-append}
use Rattle.cv_syntax_trees.specs.declared.head.Head.{Head}
use Rattle.cv_syntax_trees.specs.declared.head.Head.TheVariants.{Repl, New, Let, Find, Binder, Name, Leaf, Read, Key, Call}
use Rattle.cv_syntax_trees.specs.Tree.{Tree, Empty, Node}
use Rattle.cv_meaning.specs.Tapes.{Cell, New_at, Find_at, Test_at, Key_at, Made_at, Picked_at, Coin, same_cell, same_tuple}
use Rattle.cv_meaning.specs.Side.{Side}
use Rattle.cv_meaning.specs.Interpretation.{Setting}
use Rattle.cv_meaning.specs.Runs.{Mode, Events, Real, Random, Adversary}
use Rattle.cv_meaning.specs.Cells.{tuples_below, bounds_under, at_each_copy, cells_at, if_tested, test_cells_at, test_cells, coin_cells, without_repeats, cells}
use Rattle.cv_meaning_laws.proofs.Counts.{same_cell_refl, same_cell_exact}
use Rattle.cv_meaning_chances.specs.Tests.{IsOneToOne, renamed}
use Rattle.cv_steps_laws.specs.renaming.Naming.{head_with_names, with_names, cell_with_name, IsNaming, KeepsTested}
use Rattle.cv_steps_laws.proofs.renaming.Names.{apart_alike}

abbrev Sized : Type 0
Sized = Cell × ℕ

module _ (g : Setting) (name : ℕ → ℕ) (fine : IsNaming g name) where
  abbrev other : List Sized → List Sized
  other cs = renamed (cell_with_name name) cs

  -- no two cells become one

  same_under : (c d : Cell) → same_cell (cell_with_name name c) (cell_with_name name d) ≡ same_cell c d
  same_under (New_at x u) (New_at y v) = ap (λ b. b && same_tuple u v) (apart_alike name fine.apart x y)
  same_under (Find_at x u) (New_at y v) = refl
  same_under (Test_at u) (New_at y v) = refl
  same_under (Key_at u) (New_at y v) = refl
  same_under (Made_at x u n) (New_at y v) = refl
  same_under (Picked_at x u n) (New_at y v) = refl
  same_under (Coin k) (New_at y v) = refl
  same_under c d = refl

  pub one_to_one : IsOneToOne (cell_with_name name)
  one_to_one c d e =
      same_cell_exact c d (sym (same_under c d) ∙ ap (λ z. same_cell (cell_with_name name c) z) (sym e) ∙ same_cell_refl (cell_with_name name c))

  -- the cells of the copies of a tree

  bounds_same : (bounds : List ℕ) (h : Head) → bounds_under g bounds (head_with_names name h) ≡ bounds_under g bounds h
  bounds_same bounds (Repl i n) = refl
  bounds_same bounds (Name i) = refl
  bounds_same bounds (New x T) = refl
  bounds_same bounds (Let x T) = refl
  bounds_same bounds (Binder x T) = refl
  bounds_same bounds (Leaf x) = refl
  bounds_same bounds (Read x) = refl
  bounds_same bounds (Key x) = refl
  bounds_same bounds (Call x l) = refl
  bounds_same bounds h = refl

  joined : (cs ds : List Sized) → other cs ++ other ds ≡ other (cs ++ ds)
  joined cs ds = sym (map-append (λ (c : Sized). (cell_with_name name c.0, c.1)) cs ds)

  each_other : {A : Type 0} (f h : A → List Sized) → ((x : A) → h x ≡ other (f x)) → (xs : List A) → flat_map h xs ≡ other (flat_map f xs)
  each_other f h e [] = refl
  each_other f h e (x ∷ xs) = ap₂ ◌++◌ (e x) (each_other f h e xs) ∙ joined (f x) (flat_map f xs)

  copies : (give : Head → List ℕ → List Sized) → ((h : Head) (u : List ℕ) → give (head_with_names name h) u ≡ other (give h u)) → (bounds : List ℕ) (t : Tree) → at_each_copy g give bounds (with_names name t) ≡ other (at_each_copy g give bounds t)
  unfolding at_each_copy with_names
  copies give e bounds Empty = refl
  copies give e bounds (Node h a b) =
      let under : List ℕ = bounds_under g bounds h in
      let inside : at_each_copy g give under (with_names name a) ++ at_each_copy g give under (with_names name b) ≡ other (at_each_copy g give under a ++ at_each_copy g give under b) =
      ap₂ ◌++◌ (copies give e under a) (copies give e under b) ∙ joined (at_each_copy g give under a) (at_each_copy g give under b) in
      ap (λ z. flat_map (give (head_with_names name h)) (tuples_below bounds) ++ (at_each_copy g give z (with_names name a) ++ at_each_copy g give z (with_names name b))) (bounds_same bounds h)
      ∙ ap₂ ◌++◌ (each_other (give h) (give (head_with_names name h)) (e h) (tuples_below bounds)) inside
      ∙ joined (flat_map (give h) (tuples_below bounds)) (at_each_copy g give under a ++ at_each_copy g give under b)

  -- what a construct draws

  drawn : (h : Head) (u : List ℕ) → cells_at g (head_with_names name h) u ≡ other (cells_at g h u)
  drawn (New x T) u = refl
  drawn (Find l) u = refl
  drawn (Key x) u = refl
  drawn (Call x l) u =
      ap (λ (s : Side). s.cells (record { tuple = u; site = l })) fine.side
      ∙ ap (λ (s : Side). other (s.cells (record { tuple = u; site = l }))) (sym fine.side)
  drawn (Repl i n) u = refl
  drawn (Name i) u = refl
  drawn (Let x T) u = refl
  drawn (Binder x T) u = refl
  drawn (Leaf x) u = refl
  drawn (Read x) u = refl
  drawn h u = refl

  -- what is tested

  tested_other : (b c : Bool) → b ≡ c → (u : List ℕ) (n : ℕ) → if_tested b u n ≡ other (if_tested c u n)
  tested_other true true e u n = refl
  tested_other false false e u n = refl
  tested_other true false e u n = absurd (cc)
  tested_other false true e u n = absurd (cc)

  module _ (z : ℕ) (kept : name z ≡ z) where
    is_it : (x : ℕ) → (name x == z) ≡ (x == z)
    is_it x = ap (λ y. name x == y) (sym kept) ∙ apart_alike name fine.apart x z

    tested : (h : Head) (u : List ℕ) → test_cells_at g z (head_with_names name h) u ≡ other (test_cells_at g z h u)
    tested (New x T) u = tested_other _ _ (is_it x) u (g.interpretation.type_size T)
    tested (Let x T) u = tested_other _ _ (is_it x) u (g.interpretation.type_size T)
    tested (Binder x T) u = tested_other _ _ (is_it x) u (g.interpretation.type_size T)
    tested (Repl i n) u = refl
    tested (Name i) u = refl
    tested (Leaf x) u = refl
    tested (Read x) u = refl
    tested (Key x) u = refl
    tested (Call x l) u = refl
    tested h u = refl

  tests : (m : Mode) → KeepsTested name m → (game : Tree) → test_cells g m (with_names name game) ≡ other (test_cells g m game)
  tests Events e game = refl
  tests (Real one z) e game = copies (test_cells_at g z) (tested z e) [] game
  tests (Random one z) e game = copies (test_cells_at g z) (tested z e) [] game

  coins : (k : ℕ) (ns : List ℕ) → coin_cells k ns ≡ other (coin_cells k ns)
  coins k [] = refl
  coins k (n ∷ ns) = ap₂ ◌∷◌ refl (coins (suc k) ns)

  -- each cell once

  filtered : (c : Cell) (ds : List Sized) → filter (λ (d : Sized). not (same_cell d.0 (cell_with_name name c))) (other ds) ≡ other (filter (λ (d : Sized). not (same_cell d.0 c)) ds)
  filtered c [] = refl
  filtered c (d ∷ ds) = ap (λ b. cond (not b) (e ∷ rest) rest) (same_under d.0 c) ∙ go (not (same_cell d.0 c)) (filtered c ds)
    where
      e : Sized
      e = (cell_with_name name d.0, d.1)

      rest : List Sized
      rest = filter (λ (d : Sized). not (same_cell d.0 (cell_with_name name c))) (other ds)

      left : List Sized
      left = filter (λ (d : Sized). not (same_cell d.0 c)) ds

      go : (b : Bool) → rest ≡ other left → cond b (e ∷ rest) rest ≡ other (cond b (d ∷ left) left)
      go true f = ap (λ z. e ∷ z) f
      go false f = f

  once : (cs : List Sized) → without_repeats (other cs) ≡ other (without_repeats cs)
  once [] = refl
  once (c ∷ cs) =
      ap (λ z. (cell_with_name name c.0, c.1) ∷ z) (ap (filter (λ (d : Sized). not (same_cell d.0 (cell_with_name name c.0)))) (once cs) ∙ filtered c.0 (without_repeats cs))

  pub cells_under : (m : Mode) → KeepsTested name m → (a : Adversary) (game : Tree) → cells g m a (with_names name game) ≡ other (cells g m a game)
  unfolding cells
  cells_under m e a game =
      let behind : test_cells g m (with_names name game) ++ coin_cells 0 a.coins ≡ other (test_cells g m game ++ coin_cells 0 a.coins) =
      ap₂ ◌++◌ (tests m e game) (coins 0 a.coins) ∙ joined (test_cells g m game) (coin_cells 0 a.coins) in
      ap without_repeats (ap₂ ◌++◌ (copies (cells_at g) drawn [] game) behind ∙ joined (at_each_copy g (cells_at g) [] game) (test_cells g m game ++ coin_cells 0 a.coins))
      ∙ once (at_each_copy g (cells_at g) [] game ++ (test_cells g m game ++ coin_cells 0 a.coins))
