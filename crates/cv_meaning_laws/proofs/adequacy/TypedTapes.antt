-- The tapes that are counted have values of the variables' sorts in the cells of restrictions.
use Rattle.std.proofs.Common.{◌≡◌, ℕ, suc, ◌==◌, ◌<◌, Bool, true, false, List, [], ◌∷◌, ◌++◌, flat_map, ◌⊎◌, inl, inr, Some, refl, sym, ap, subst, ◌∙◌, arith}
use Rattle.std.proofs.lemmas.Bool.{both_ways}
use Rattle.std.specs.List.{All}
use Rattle.cv_syntax_trees.specs.declared.head.Head.{Head}
use Rattle.cv_syntax_trees.specs.declared.head.Head.TheVariants.{New, Let, Find, Key, Call, Binder}
use Rattle.cv_syntax_trees.specs.Tree.{Tree, Empty, Node}
use Rattle.cv_meaning.specs.Tapes.{Cell, Tape, New_at, Find_at, Test_at, Key_at, Coin, blank}
use Rattle.cv_meaning.specs.Side.{Side}
use Rattle.cv_meaning.specs.Interpretation.{Interpretation, Setting, setting_with}
use Rattle.cv_meaning.specs.Runs.{Mode, Events, Real, Random, Adversary}
use Rattle.cv_meaning.specs.Cells.{tuples_below, bounds_under, at_each_copy, cells_at, if_tested, test_cells_at, test_cells, coin_cells, without_repeats, cells}
use Rattle.cv_meaning_laws.proofs.Listed.{Has, is_not}
use Rattle.cv_meaning_laws.specs.adequacy.Counted.{tapes_of}
use Rattle.cv_meaning_laws.specs.adequacy.Typed.{size_of, Variable, Context, IsModel, HasTypedRestrictions, LeavesRestrictions, IsTypedTape}
use Rattle.cv_meaning_laws.proofs.adequacy.Lists.{has_append, flat_map_has, has_contains, has_all, filter_has}
use Rattle.cv_meaning_laws.proofs.adequacy.Sorted.{some_value}
use Rattle.cv_meaning_laws.proofs.adequacy.Counting.{cell_value}

repeats_has : (cs : List (Cell × ℕ)) (d : Cell × ℕ) → Has (without_repeats cs) d → Has cs d
repeats_has [] d h = absurd h
repeats_has (c ∷ cs) d (inl e) = inl e
repeats_has (c ∷ cs) d (inr i) = inr (repeats_has cs d (filter_has (is_not c) (without_repeats cs) d i).0)

-- a list without cells of restrictions
abbrev NoRestriction : List (Cell × ℕ) → Type 0
NoRestriction cs = (x n : ℕ) (u : List ℕ) → ¬ Has cs (New_at x u, n)

abbrev pub is_new : Cell → Bool
is_new (New_at x u) = true
is_new d = false

abbrev pub name_of : Cell → ℕ
name_of (New_at x u) = x
name_of d = 0

other_cell : (x n : ℕ) (u : List ℕ) (d : Cell × ℕ) → is_new d.0 ≡ false → ¬ ((New_at x u, n) ≡ d)
other_cell x n u d o e = both_ways _ o (ap (λ (z : Cell × ℕ). is_new z.0) (sym e))

one_other : (d : Cell × ℕ) → is_new d.0 ≡ false → NoRestriction (d ∷ [])
one_other d o x n u (inl e) = other_cell x n u d o e
one_other d o x n u (inr e) = e

coins_other : (k : ℕ) (ns : List ℕ) → NoRestriction (coin_cells k ns)
coins_other k [] x n u h = h
coins_other k (m ∷ ns) x n u (inl e) = other_cell x n u (Coin k, m) refl e
coins_other k (m ∷ ns) x n u (inr i) = coins_other (suc k) ns x n u i

module _ (c : Context) (i : Interpretation) (side : Side) (w : IsModel c i) where
  abbrev g : Setting
  g = setting_with c.declarations i side

  if_other : (b : Bool) (v : List ℕ) (m : ℕ) → NoRestriction (if_tested b v m)
  if_other true v m = one_other (Test_at v, m) refl
  if_other false v m = λ x n u h. h

  test_other : (y : ℕ) (h : Head) (v : List ℕ) → NoRestriction (test_cells_at g y h v)
  test_other y (New z T) v = if_other (z == y) v (i.type_size T)
  test_other y (Let z T) v = if_other (z == y) v (i.type_size T)
  test_other y (Binder z T) v = if_other (z == y) v (i.type_size T)
  test_other y h v = λ x n u k. k

  -- what stands among the cells of a node stands at the node, or among those of a child
  parts : (give : Head → List ℕ → List (Cell × ℕ)) (ns : List ℕ) (k : Head) (a b : Tree) (d : Cell × ℕ) → Has (at_each_copy g give ns (Node k a b)) d
      → ((u : List ℕ) × Has (give k u) d) ⊎ (Has (at_each_copy g give (bounds_under g ns k) a) d ⊎ Has (at_each_copy g give (bounds_under g ns k) b) d)
  unfolding at_each_copy
  parts give ns k a b d h = go (has_append (flat_map (give k) (tuples_below ns)) _ d h)
    where
      go : Has (flat_map (give k) (tuples_below ns)) d ⊎ Has (at_each_copy g give (bounds_under g ns k) a ++ at_each_copy g give (bounds_under g ns k) b) d
          → ((u : List ℕ) × Has (give k u) d) ⊎ (Has (at_each_copy g give (bounds_under g ns k) a) d ⊎ Has (at_each_copy g give (bounds_under g ns k) b) d)
      go (inl j) = let r = flat_map_has (give k) (tuples_below ns) d j in inl (r.0, r.2)
      go (inr j) = inr (has_append (at_each_copy g give (bounds_under g ns k) a) _ d j)

  copies_other : (give : Head → List ℕ → List (Cell × ℕ)) → ((h : Head) (v : List ℕ) → NoRestriction (give h v)) → (b : Tree) (ns : List ℕ) → NoRestriction (at_each_copy g give ns b)
  unfolding at_each_copy
  copies_other give o Empty ns x n u h = h
  copies_other give o (Node k a b) ns x n u h = go (parts give ns k a b _ h) (copies_other give o a (bounds_under g ns k) x n u) (copies_other give o b (bounds_under g ns k) x n u)
    where
      go : ((v : List ℕ) × Has (give k v) (New_at x u, n)) ⊎ (Has (at_each_copy g give (bounds_under g ns k) a) (New_at x u, n) ⊎ Has (at_each_copy g give (bounds_under g ns k) b) (New_at x u, n))
          → (¬ Has (at_each_copy g give (bounds_under g ns k) a) (New_at x u, n)) → (¬ Has (at_each_copy g give (bounds_under g ns k) b) (New_at x u, n)) → ⊥
      go (inl j) ih_a ih_b = o k j.0 x n u j.1
      go (inr (inl j)) ih_a ih_b = ih_a j
      go (inr (inr j)) ih_a ih_b = ih_b j

  tests_other : (m : Mode) (game : Tree) → NoRestriction (test_cells g m game)
  tests_other Events game = λ x n u h. h
  tests_other (Real one y) game = copies_other (test_cells_at g y) (test_other y) game []
  tests_other (Random one y) game = copies_other (test_cells_at g y) (test_other y) game []

  module _ (leaves : LeavesRestrictions side) where
    -- the cell of a restriction has the size of its variable's sort
    abbrev Sizes : List (Cell × ℕ) → Type 0
    Sizes cs = (x n : ℕ) (u : List ℕ) (V : Variable) → Has cs (New_at x u, n) → c.variables x ≡ Some V → n ≡ size_of i V.sort

    node_sizes : (k : Head) (a b : Tree) (v : List ℕ) → HasTypedRestrictions c (Node k a b) → Sizes (cells_at g k v)
    unfolding HasTypedRestrictions
    node_sizes (New y T) a b v h x n u V (inl e) d =
        let same : x ≡ y = ap (λ (z : Cell × ℕ). name_of z.0) e in
        let sort = h.0 V (subst (λ z. c.variables z ≡ Some V) same d) in
        ap (λ (z : Cell × ℕ). z.1) e ∙ ap (size_of i) (sym sort)
    node_sizes (New y T) a b v h x n u V (inr e) d = absurd e
    node_sizes (Find l) a b v h x n u V e d = absurd (one_other (Find_at l v, i.choices) refl x n u e)
    node_sizes (Key y) a b v h x n u V e d = absurd (one_other (Key_at v, side.key_size) refl x n u e)
    node_sizes (Call y l) a b v h x n u V e d = absurd (leaves _ x n u (has_contains _ _ e))
    node_sizes k a b v h x n u V e d = absurd e

    children_typed : (k : Head) (a b : Tree) → HasTypedRestrictions c (Node k a b) → HasTypedRestrictions c a × HasTypedRestrictions c b
    unfolding HasTypedRestrictions
    children_typed (New y T) a b h = (h.1, h.2)
    children_typed k a b h = h

    game_sizes : (b : Tree) (ns : List ℕ) → HasTypedRestrictions c b → Sizes (at_each_copy g (cells_at g) ns b)
    unfolding at_each_copy
    game_sizes Empty ns h x n u V e d = absurd e
    game_sizes (Node k a b) ns h x n u V e d =
        let r = children_typed k a b h in
        go (parts (cells_at g) ns k a b _ e) (game_sizes a (bounds_under g ns k) r.0 x n u V) (game_sizes b (bounds_under g ns k) r.1 x n u V)
      where
        go : ((v : List ℕ) × Has (cells_at g k v) (New_at x u, n)) ⊎ (Has (at_each_copy g (cells_at g) (bounds_under g ns k) a) (New_at x u, n) ⊎ Has (at_each_copy g (cells_at g) (bounds_under g ns k) b) (New_at x u, n))
            → (Has (at_each_copy g (cells_at g) (bounds_under g ns k) a) (New_at x u, n) → c.variables x ≡ Some V → n ≡ size_of i V.sort) → (Has (at_each_copy g (cells_at g) (bounds_under g ns k) b) (New_at x u, n) → c.variables x ≡ Some V → n ≡ size_of i V.sort) → n ≡ size_of i V.sort
        go (inl j) ih_a ih_b = node_sizes k a b j.0 h x n u V j.1 d
        go (inr (inl j)) ih_a ih_b = ih_a j d
        go (inr (inr j)) ih_a ih_b = ih_b j d

    cells_sizes : (game : Tree) → HasTypedRestrictions c game → (m : Mode) (a : Adversary) → Sizes (cells g m a game)
    unfolding cells
    cells_sizes game h m a x n u V e d = go (has_append (at_each_copy g (cells_at g) [] game) _ _ (repeats_has _ _ e))
      where
        other : Has (test_cells g m game) (New_at x u, n) ⊎ Has (coin_cells 0 a.coins) (New_at x u, n) → ⊥
        other (inl j) = tests_other m game x n u j
        other (inr j) = coins_other 0 a.coins x n u j

        go : Has (at_each_copy g (cells_at g) [] game) (New_at x u, n) ⊎ Has (test_cells g m game ++ coin_cells 0 a.coins) (New_at x u, n) → n ≡ size_of i V.sort
        go (inl j) = game_sizes game [] h x n u V j d
        go (inr j) = absurd (other (has_append (test_cells g m game) _ _ j))

    pub tapes_typed : (game : Tree) → HasTypedRestrictions c game → (m : Mode) (a : Adversary) → All (IsTypedTape c i) (tapes_of (cells g m a game) blank)
    tapes_typed game h m a = has_all (IsTypedTape c i) _ (λ t k x V u d. go t x V u d (cell_value (cells g m a game) blank t k (New_at x u)))
      where
        go : (t : Tape) (x : ℕ) (V : Variable) (u : List ℕ) → c.variables x ≡ Some V → ((n : ℕ) × Has (cells g m a game) (New_at x u, n) × (t (New_at x u) < n)) ⊎ (t (New_at x u) ≡ 0) → t (New_at x u) < size_of i V.sort
        go t x V u d (inl r) = subst (λ n. t (New_at x u) < n) (cells_sizes game h m a x r.0 u V r.1 d) r.2
        go t x V u d (inr e) = let l = some_value c i w.satisfies V.sort (w.variables x V d) in omega arith
