-- Where the game draws a key, its context chooses one.
use Rattle.std.proofs.Common.{◌≡◌, ℕ, suc, Bool, true, false, ◌==◌, not, List, [], ◌∷◌, ◌++◌, flat_map, ◌⊎◌, inl, inr, refl, sym, ap, subst, ◌∙◌, eq-eqb}
use Rattle.std.proofs.lemmas.Bool.{both_ways, and_parts, not-true}
use Rattle.std.specs.List.{AllByRecursion}
use Rattle.cv_syntax_trees.specs.declared.head.Head.{Head}
use Rattle.cv_syntax_trees.specs.declared.head.Head.TheVariants.{Binder, Call, Find, In, Key, Let, New, Repl}
use Rattle.cv_syntax_trees.specs.Tree.{Tree, Empty, Node}
use Rattle.cv_meaning.specs.Cells.{at_each_copy, bounds_under, cells_at, coin_cells, if_tested, test_cells, test_cells_at, tuples_below}
use Rattle.cv_meaning.specs.Interpretation.{Interpretation, Setting}
use Rattle.cv_meaning.specs.Runs.{Adversary, Events, Mode, Random, Real}
use Rattle.cv_meaning.specs.Tapes.{Cell, Find_at, Key_at, New_at}
use Rattle.cv_meaning_laws.proofs.Listed.{Has, has_flat_map, has_left, has_right}
use Rattle.cv_meaning_laws.proofs.adequacy.Lists.{flat_map_has, has_append}
use Rattle.cv_scene.specs.Reductions.{Reduction, in_context, in_game, is_coin}
use Rattle.cv_context_left_side.proofs.cells.Flat.{flat_terms, head_is_flat, is_flat}
use Rattle.cv_context_left_side.proofs.cells.Sizes.{all_heads, each_copy, flat_heads, of_context, of_game}
use Rattle.cv_context_left_side.proofs.cells.Turned.{IsTurned, is_kept}
use Rattle.cv_context_left_side.proofs.cells.Turned as turned
use Rattle.cv_meaning_laws.proofs.adequacy.Sorted.{all_has}
use Rattle.cv_syntax_trees.proofs.lists.Each.{AllByRecursion_append}

-- no cell of a `new`

is_new : Cell → Bool
is_new (New_at y u) = true
is_new c = false

IsOther : (Cell × ℕ) → Type 0
IsOther d = is_new d.0 ≡ false

flat_other : (g : Setting) (k : Head) → head_is_flat k ≡ true → (u : List ℕ) → AllByRecursion IsOther (cells_at g k u)
unfolding IsOther
flat_other g (New x T) e u = absurd (both_ways false refl e)
flat_other g (Find l) e u = absurd (both_ways false refl e)
flat_other g (Key x) e u = absurd (both_ways false refl e)
flat_other g (Call x l) e u = absurd (both_ways false refl e)
flat_other g k e u = tt

none_new : (cs : List (Cell × ℕ)) → AllByRecursion IsOther cs → (y n : ℕ) (u : List ℕ) → Has cs (New_at y u, n) → ⊥
unfolding IsOther is_new
none_new cs o y n u h = both_ways true (all_has (λ (d : Cell × ℕ). is_new d.0 ≡ false) cs o (New_at y u, n) h) refl

flat_none : (g : Setting) (bounds : List ℕ) (t : Tree) → is_flat t ≡ true → (y n : ℕ) (u : List ℕ) → Has (at_each_copy g (cells_at g) bounds t) (New_at y u, n) → ⊥
flat_none g bounds t e = none_new _ (each_copy g (cells_at g) IsOther bounds t (flat_heads (λ h. (u : List ℕ) → AllByRecursion IsOther (cells_at g h u)) (flat_other g) t e))

find_other : (l : ℕ) (u : List ℕ) (n : ℕ) → AllByRecursion IsOther ((Find_at l u, n) ∷ [])
unfolding IsOther is_new
find_other l u n = (refl, tt)

one_tested : (b : Bool) (u : List ℕ) (n : ℕ) → AllByRecursion IsOther (if_tested b u n)
unfolding IsOther is_new
one_tested true u n = (refl, tt)
one_tested false u n = tt

tested_other : (g : Setting) (x : ℕ) (h : Head) (u : List ℕ) → AllByRecursion IsOther (test_cells_at g x h u)
unfolding IsOther
tested_other g x (New y T) u = one_tested (y == x) u (g.interpretation.type_size T)
tested_other g x (Let y T) u = one_tested (y == x) u (g.interpretation.type_size T)
tested_other g x (Binder y T) u = one_tested (y == x) u (g.interpretation.type_size T)
tested_other g x h u = tt

tests_other : (g : Setting) (m : Mode) (game : Tree) → AllByRecursion IsOther (test_cells g m game)
tests_other g Events game = tt
tests_other g (Real one x) game = each_copy g (test_cells_at g x) IsOther [] game (all_heads (λ h. (u : List ℕ) → AllByRecursion IsOther (test_cells_at g x h u)) (tested_other g x) game)
tests_other g (Random one x) game = each_copy g (test_cells_at g x) IsOther [] game (all_heads (λ h. (u : List ℕ) → AllByRecursion IsOther (test_cells_at g x h u)) (tested_other g x) game)

coins_other : (k : ℕ) (ns : List ℕ) → AllByRecursion IsOther (coin_cells k ns)
unfolding IsOther is_new
coins_other k [] = tt
coins_other k (n ∷ ns) = (refl, coins_other (suc k) ns)

-- a drawn key

module _ (r : Reduction) (apart : is_coin r r.key ≡ false) (i : Interpretation) where
  abbrev g : Setting
  g = in_game r i

  abbrev h : Setting
  h = in_context r i

  bounds_same : (bounds : List ℕ) (k : Head) → bounds_under g bounds k ≡ bounds_under h bounds k
  bounds_same bounds (Repl x n) = refl
  bounds_same bounds k = refl

  abbrev Drawn : List ℕ → Tree → List ℕ → ℕ → Type 0
  Drawn bounds t u n = Has (at_each_copy g (cells_at g) bounds t) (New_at r.key u, n)

  abbrev Chosen : List ℕ → Tree → List ℕ → Type 0
  Chosen bounds t u = Has (at_each_copy h (cells_at h) bounds t) (Key_at u, h.side.key_size)

  -- of what a construct gives alone, and its parts
  data Place (bounds : List ℕ) (k : Head) (a b : Tree) (u : List ℕ) (n : ℕ) : Type 0 where
    here : (w : List ℕ) → Has (tuples_below bounds) w → Has (cells_at g k w) (New_at r.key u, n) → Place bounds k a b u n
    in_first : Drawn (bounds_under g bounds k) a u n → Place bounds k a b u n
    in_second : Drawn (bounds_under g bounds k) b u n → Place bounds k a b u n

  place : (bounds : List ℕ) (k : Head) (a b : Tree) (u : List ℕ) (n : ℕ) → Drawn bounds (Node k a b) u n → Place bounds k a b u n
  unfolding at_each_copy
  place bounds k a b u n e = go (has_append (flat_map (cells_at g k) (tuples_below bounds)) _ (New_at r.key u, n) e)
    where
      later : Drawn (bounds_under g bounds k) a u n ⊎ Drawn (bounds_under g bounds k) b u n → Place bounds k a b u n
      later (inl z) = in_first z
      later (inr z) = in_second z

      go : Has (flat_map (cells_at g k) (tuples_below bounds)) (New_at r.key u, n) ⊎ Has (at_each_copy g (cells_at g) (bounds_under g bounds k) a ++ at_each_copy g (cells_at g) (bounds_under g bounds k) b) (New_at r.key u, n) → Place bounds k a b u n
      go (inl z) = let f = flat_map_has (cells_at g k) (tuples_below bounds) (New_at r.key u, n) z in here f.0 f.1 f.2
      go (inr z) = later (has_append (at_each_copy g (cells_at g) (bounds_under g bounds k) a) _ (New_at r.key u, n) z)

  -- in a node of the context

  first_chosen : (bounds : List ℕ) (k : Head) (a b : Tree) (u : List ℕ) → Chosen (bounds_under h bounds k) a u → Chosen bounds (Node k a b) u
  unfolding at_each_copy
  first_chosen bounds k a b u z = has_right (flat_map (cells_at h k) (tuples_below bounds)) _ _ (has_left (at_each_copy h (cells_at h) (bounds_under h bounds k) a) _ _ z)

  second_chosen : (bounds : List ℕ) (k : Head) (a b : Tree) (u : List ℕ) → Chosen (bounds_under h bounds k) b u → Chosen bounds (Node k a b) u
  unfolding at_each_copy
  second_chosen bounds k a b u z = has_right (flat_map (cells_at h k) (tuples_below bounds)) _ _ (has_right (at_each_copy h (cells_at h) (bounds_under h bounds k) a) _ _ z)

  here_chosen : (bounds : List ℕ) (a b : Tree) (u : List ℕ) → Has (tuples_below bounds) u → Chosen bounds (Node (Key r.key) a b) u
  unfolding at_each_copy
  here_chosen bounds a b u z = has_left (flat_map (cells_at h (Key r.key)) (tuples_below bounds)) _ _ (has_flat_map (cells_at h (Key r.key)) (tuples_below bounds) u _ z (inl refl))

  -- the variable and the tuple of a cell

  variable_in : Cell → ℕ
  variable_in (New_at y u) = y
  variable_in c = 0

  tuple_in : Cell → List ℕ
  tuple_in (New_at y u) = u
  tuple_in c = []

  same_variable : (y n N : ℕ) (u w : List ℕ) → ◌≡◌ {A = Cell × ℕ} (New_at r.key u, n) (New_at y w, N) → r.key ≡ y
  unfolding variable_in
  same_variable y n N u w e = ap (λ (d : Cell × ℕ). variable_in d.0) e

  same_tuples : (y n N : ℕ) (u w : List ℕ) → ◌≡◌ {A = Cell × ℕ} (New_at r.key u, n) (New_at y w, N) → u ≡ w
  unfolding tuple_in
  same_tuples y n N u w e = ap (λ (d : Cell × ℕ). tuple_in d.0) e

  kept_none : (k : Head) → is_kept r k ≡ true → (u w : List ℕ) (n : ℕ) → Has (cells_at g k w) (New_at r.key u, n) → ⊥
  kept_none (New y T) e u w n (inl z) =
      both_ways (y == r.key) (not-true (y == r.key) (and_parts (not (y == r.key)) _ e).0) (eq-eqb y r.key (sym (same_variable y n (g.interpretation.type_size T) u w z)))
  kept_none (New y T) e u w n (inr z) = absurd z
  kept_none (Find l) e u w n z = none_new ((Find_at l w, g.interpretation.choices) ∷ []) (find_other l w g.interpretation.choices) r.key n u z
  kept_none (Key x) e u w n z = absurd (both_ways false refl e)
  kept_none (Call x l) e u w n z = absurd (both_ways false refl e)
  kept_none k e u w n z = absurd z

  pub chosen : (t c : Tree) → IsTurned r t c → (bounds : List ℕ) (u : List ℕ) (n : ℕ) → Drawn bounds t u n → Chosen bounds c u
  chosen t c (turned.flat e) bounds u n z = absurd (flat_none g bounds t e r.key n u z)
  chosen t c (turned.terms e f) bounds u n z = absurd (flat_none g bounds t (flat_terms t e) r.key n u z)
  chosen t c (turned.kept {h = k} {a = a} {b = b} {c = x} {d = y} e j l) bounds u n z =
      go (place bounds k a b u n z) (λ m. chosen a x j (bounds_under h bounds k) u n m) (λ m. chosen b y l (bounds_under h bounds k) u n m)
    where
      go : Place bounds k a b u n → (Drawn (bounds_under h bounds k) a u n → Chosen (bounds_under h bounds k) x u) → (Drawn (bounds_under h bounds k) b u n → Chosen (bounds_under h bounds k) y u) → Chosen bounds (Node k x y) u
      go (here w f m) p q = absurd (kept_none k e u w n m)
      go (in_first m) p q = first_chosen bounds k x y u (p (subst (λ bs. Drawn bs a u n) (bounds_same bounds k) m))
      go (in_second m) p q = second_chosen bounds k x y u (q (subst (λ bs. Drawn bs b u n) (bounds_same bounds k) m))
  chosen t c (turned.input {x = x} {a = a} {b = b} {d = y} e l) bounds u n z = go (place bounds (In x) a b u n z) (λ m. chosen b y l bounds u n m)
    where
      go : Place bounds (In x) a b u n → (Drawn bounds b u n → Chosen bounds y u) → Chosen bounds (Node (In x) a y) u
      go (here w f m) q = absurd m
      go (in_first m) q = absurd (flat_none g bounds a e r.key n u m)
      go (in_second m) q = second_chosen bounds (In x) a y u (q m)
  chosen t c (turned.chosen {T = T} {a = a} {b = b} {d = y} e l) bounds u n z = go (place bounds (New r.key T) a b u n z) (λ m. chosen b y l bounds u n m)
    where
      go : Place bounds (New r.key T) a b u n → (Drawn bounds b u n → Chosen bounds y u) → Chosen bounds (Node (Key r.key) Empty y) u
      go (here w f (inl m)) q = subst (Chosen bounds (Node (Key r.key) Empty y)) (sym (same_tuples r.key n (g.interpretation.type_size T) u w m)) (here_chosen bounds Empty y w f)
      go (here w f (inr m)) q = absurd m
      go (in_first m) q = absurd (flat_none g bounds a e r.key n u m)
      go (in_second m) q = second_chosen bounds (Key r.key) Empty y u (q m)
  chosen t c (turned.gone {y = v} {T = T} {a = a} {b = b} e f l) bounds u n z = go (place bounds (New v T) a b u n z) (λ m. chosen b c l bounds u n m)
    where
      go : Place bounds (New v T) a b u n → (Drawn bounds b u n → Chosen bounds c u) → Chosen bounds c u
      go (here w k (inl m)) q = absurd (both_ways (is_coin r r.key) apart (ap (is_coin r) (same_variable v n (g.interpretation.type_size T) u w m) ∙ e))
      go (here w k (inr m)) q = absurd m
      go (in_first m) q = absurd (flat_none g bounds a f r.key n u m)
      go (in_second m) q = q m
  chosen t c (turned.called {x = x} {k = k} {q = q} {t = a} {c = y} e l) bounds u n z = second_chosen bounds (Call x k) q y u (chosen a y l bounds u n z)

  -- in the whole lists
  pub key_listed : (m : Mode) (a : Adversary) (c : Tree) → IsTurned r r.scene.game c → (u : List ℕ) (n : ℕ) → Has (of_game r i m a) (New_at r.key u, n) → Has (of_context r i m a c) (Key_at u, h.side.key_size)
  key_listed m a c t u n z = go (has_append (at_each_copy g (cells_at g) [] r.scene.game) _ (New_at r.key u, n) z)
    where
      go : Has (at_each_copy g (cells_at g) [] r.scene.game) (New_at r.key u, n) ⊎ Has (test_cells g m r.scene.game ++ coin_cells 0 a.coins) (New_at r.key u, n) → Has (of_context r i m a c) (Key_at u, h.side.key_size)
      go (inl e) = has_left (at_each_copy h (cells_at h) [] c) _ _ (chosen r.scene.game c t [] u n e)
      go (inr e) = absurd (none_new (test_cells g m r.scene.game ++ coin_cells 0 a.coins) (AllByRecursion_append IsOther _ _ (tests_other g m r.scene.game) (coins_other 0 a.coins)) r.key n u e)
