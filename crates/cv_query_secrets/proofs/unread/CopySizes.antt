-- A draw and a test have one size, where the drawn variable and the tested one have one sort.
use Rattle.std.proofs.Common.{◌≡◌, ℕ, ◌==◌, ◌&&◌, Bool, true, false, cond, not, List, [], ◌∷◌, flat_map, Option, Some, None, refl, sym, ap, ap₂, subst, ◌∙◌, eqb-true, eq-eqb}
use Rattle.std.specs.Prelude.{option_map}
use Rattle.std.proofs.lemmas.Bool.{both_ways, and_parts}
use Rattle.cv_syntax.specs.faults.Walk.{IsObeyed}
use Rattle.cv_syntax_trees.specs.declared.head.Head.{Head}
use Rattle.cv_syntax_trees.specs.declared.head.Head.TheVariants.{New, Let, Binder}
use Rattle.cv_syntax_trees.specs.Declarations.{Declaration}
use Rattle.cv_syntax_trees.specs.Tree.{Tree, Empty, Node}
use Rattle.cv_syntax_trees.specs.lists.Options.{first_of}
use Rattle.cv_meaning.specs.Tapes.{Cell, New_at, Test_at, is_in, same_tuple}
use Rattle.cv_meaning.specs.Interpretation.{Interpretation, Setting, setting_of}
use Rattle.cv_meaning.specs.Runs.{Random, Adversary}
use Rattle.cv_meaning.specs.Cells.{tuples_below, bounds_under, at_each_copy, cells_at, if_tested, test_cells_at, cells}
use Rattle.cv_meaning_laws.specs.adequacy.Typed as meaning
use Rattle.cv_meaning_laws.specs.adequacy.Typed.{Context, HasTypedRestrictions, size_of}
use Rattle.cv_meaning_chances.specs.unread.Sizes.{size_in}
use Rattle.cv_syntax_trees.specs.sites.Sites.{Variable, first_site, sites_of}
use Rattle.cv_syntax_trees.specs.sites.Sorts.{differs_from}
use Rattle.cv_syntax_trees.specs.declared.sites.sort.Sort.TheVariants.{OfType}
use Rattle.cv_scope_rules.specs.Made.{made_by}
use Rattle.cv_scope_rules.specs.Sites as site
use Rattle.cv_scope_rules.specs.typing.Signature.{Above, OfGame, Signature, variable_sort}
use Rattle.cv_scope_rules.specs.typing.Typing.{IsTyped}
use Rattle.cv_scope_rules.specs.typing.Wants.{Want, above_second, wants}
use Rattle.cv_typing_runs.specs.Games.{context_of, sort_of_meaning, variable_of_meaning}
use Rattle.cv_typing_runs.proofs.Terms.{faultless, same_sorts}
use Rattle.cv_scene.specs.Scenes.{Scene}
use Rattle.cv_query_certificates.specs.Secrets.{is_copy}
use Rattle.cv_query_secrets.proofs.unread.Alone.{AreOdd, none_odd}
use Rattle.cv_query_secrets.proofs.unread.Copies.{HaveOneSort}
use Rattle.cv_query_secrets.proofs.unread.Places.{sized_is_in}
use Rattle.cv_costs.proofs.quiet.Shapes.{left_false}
use Rattle.cv_query_secrets.proofs.unread.Sizes.{Give, cells_size, draws_apart, no_coin, none_in_copies, parts_size, tests_apart}
use Rattle.cv_query_secrets.proofs.unread.Swaps.{one_size}
use Rattle.cv_syntax_trees.proofs.lists.Tests.{differ_comm}
use Rattle.cv_meaning_chances.proofs.unread.CellSizes.{size_append, coins_apart}

-- each `let` is of the type of its variable

unfoldable pub HasTypedLets : Context → Tree → Type 0
HasTypedLets c Empty = Unit {0}
HasTypedLets c (Node (Let x T) a b) = ((V : meaning.Variable) → c.variables x ≡ Some V → V.sort ≡ meaning.OfType T) × HasTypedLets c a × HasTypedLets c b
HasTypedLets c (Node h a b) = HasTypedLets c a × HasTypedLets c b

module _ (ds : List Declaration) (game : Tree) where
  abbrev e : Signature
  e = record { declarations = ds; arrays = OfGame (sites_of game) }

  pub lets_typed : (above : Above) (w : Want) (t : Tree) → IsTyped e above w t → HasTypedLets (context_of ds game) t
  unfolding IsObeyed HasTypedLets
  lets_typed above w Empty h = tt
  lets_typed above w (Node (Let x T) a b) h =
      let g = faultless e above w (Let x T) a h.0 in
      (λ V i. sorts V (first_site x [] game) refl i g.site, lets_typed above (wants e above w (Let x T) a).0 a h.1, lets_typed (above_second w (Let x T) a above) (wants e above w (Let x T) a).1 b h.2)
    where
      sorts : (V : meaning.Variable) (o : Option Variable) → first_site x [] game ≡ o → option_map variable_of_meaning (first_site x [] game) ≡ Some V → differs_from (variable_sort e.arrays x) (OfType T) ≡ false → V.sort ≡ meaning.OfType T
      sorts V None i j d = let z : None ≡ Some V = ap (option_map variable_of_meaning) (sym i) ∙ j in absurd (cc)
      sorts V (Some v) i j d =
          let same = same_sorts v.sort (OfType T) (sym (ap (λ (o : Option Variable). differs_from (option_map (λ (v : Variable). v.sort) o) (OfType T)) i) ∙ d) in
          let z : Some (variable_of_meaning v) ≡ Some V = ap (option_map variable_of_meaning) (sym i) ∙ j in
          let y : variable_of_meaning v ≡ V = cc in
          ap (λ (U : meaning.Variable). U.sort) (sym y) ∙ ap sort_of_meaning (sym same)
  lets_typed above w (Node k a b) h = (lets_typed above (wants e above w k a).0 a h.1, lets_typed (above_second w k a above) (wants e above w k a).1 b h.2)

-- sizes that are one number, if any

abbrev Is : ℕ → Option ℕ → Type 0
Is n o = (m : ℕ) → o ≡ Some m → m ≡ n

is_none : (n : ℕ) → Is n None
is_none n m e = absurd (cc)

is_some_number : (n m : ℕ) → m ≡ n → Is n (Some m)
is_some_number n m e k f = let g : m ≡ k = cc in sym g ∙ e

is_else : (n : ℕ) (o q : Option ℕ) → Is n o → Is n q → Is n (first_of o q)
is_else n None q e f = f
is_else n (Some m) q e f = e

module _ (n : ℕ) (d : Cell) where
  is_each : {A : Type 0} (f : A → List (Cell × ℕ)) → ((x : A) → Is n (size_in (f x) d)) → (xs : List A) → Is n (size_in (flat_map f xs) d)
  is_each f h [] = is_none n
  is_each f h (x ∷ xs) = subst (Is n) (sym (size_append (f x) (flat_map f xs) d)) (is_else n _ _ (h x) (is_each f h xs))

  is_node : (g : Setting) (give : Give g) (bounds : List ℕ) (h : Head) (a b : Tree) → ((u : List ℕ) → Is n (size_in (give h u) d)) → Is n (size_in (at_each_copy g give (bounds_under g bounds h) a) d)
      → Is n (size_in (at_each_copy g give (bounds_under g bounds h) b) d) → Is n (size_in (at_each_copy g give bounds (Node h a b)) d)
  is_node g give bounds h a b k i j =
      subst (Is n) (sym (parts_size g give d bounds h a b)) (is_else n _ _ (is_each (give h) k (tuples_below bounds)) (is_else n _ _ i j))

module _ (s : Scene) (x : ℕ) (i : Interpretation) (c : Context) where
  abbrev g : Setting
  g = setting_of s.declarations i

  -- neither `new` nor binders bind the variable
  abbrev pub never_copies : Head → Bool
  never_copies (New y T) = y == x
  never_copies (Binder y T) = y == x
  never_copies h = false

  pub odd_for_copies : AreOdd x (is_copy s) never_copies
  odd_for_copies = record {
    inputs = λ c a. refl;
    branches = λ a. refl;
    binders = λ y T e. ap not e;
    others = others;
  }
    where
      others : (h : Head) (a : Tree) → (made_by h a (site.Variable x) && not (is_copy s h a)) ≡ false → ((y T : ℕ) → h ≡ Binder y T → ⊥) → not (never_copies h) ≡ true
      others (New y T) a e f = ap not (differ_comm x y (left_false (x == y) true refl e))
      others (Binder y T) a e f = absurd (f y T refl)
      others h a e f = refl

  -- draws

  module _ (y : ℕ) (w : List ℕ) (V : meaning.Variable) (k : c.variables y ≡ Some V) where
    draw_size : (z T : ℕ) (u : List ℕ) → ((U : meaning.Variable) → c.variables z ≡ Some U → U.sort ≡ meaning.OfType T) → Is (size_of i V.sort) (size_in (cells_at g (New z T) u) (New_at y w))
    draw_size z T u h = go (z == y) refl (same_tuple u w)
      where
        go : (b : Bool) → (z == y) ≡ b → (d : Bool) → Is (size_of i V.sort) (cond (b && d) (Some (i.type_size T)) None)
        go true e true = is_some_number (size_of i V.sort) (i.type_size T) (sym (ap (size_of i) (h V (ap c.variables (eqb-true z y e) ∙ k))))
        go true e false = is_none (size_of i V.sort)
        go false e d = is_none (size_of i V.sort)

    draws_size : (bounds : List ℕ) (b : Tree) → HasTypedRestrictions c b → Is (size_of i V.sort) (size_in (at_each_copy g (cells_at g) bounds b) (New_at y w))
    unfolding HasTypedRestrictions at_each_copy
    draws_size bounds Empty t = is_none (size_of i V.sort)
    draws_size bounds (Node (New z T) a b) t =
        is_node (size_of i V.sort) (New_at y w) g (cells_at g) bounds (New z T) a b (λ u. draw_size z T u t.0) (draws_size (bounds_under g bounds (New z T)) a t.1) (draws_size (bounds_under g bounds (New z T)) b t.2)
    draws_size bounds (Node h a b) t =
        is_node (size_of i V.sort) (New_at y w) g (cells_at g) bounds h a b (λ u. is_none (size_of i V.sort)) (draws_size (bounds_under g bounds h) a t.0) (draws_size (bounds_under g bounds h) b t.1)

  -- tests

  module _ (v : List ℕ) (W : meaning.Variable) (k : c.variables x ≡ Some W) where
    no_test : (b : Bool) (u : List ℕ) (n : ℕ) → not b ≡ true → Is (size_of i W.sort) (size_in (if_tested b u n) (Test_at v))
    no_test true u n e = absurd (both_ways false refl e)
    no_test false u n e = is_none (size_of i W.sort)

    test_size : (z T : ℕ) (u : List ℕ) → ((U : meaning.Variable) → c.variables z ≡ Some U → U.sort ≡ meaning.OfType T) → Is (size_of i W.sort) (size_in (if_tested (z == x) u (i.type_size T)) (Test_at v))
    test_size z T u h = go (z == x) refl
      where
        one : z ≡ x → (d : Bool) → Is (size_of i W.sort) (cond d (Some (i.type_size T)) None)
        one e true = is_some_number (size_of i W.sort) (i.type_size T) (sym (ap (size_of i) (h W (ap c.variables e ∙ k))))
        one e false = is_none (size_of i W.sort)

        go : (b : Bool) → (z == x) ≡ b → Is (size_of i W.sort) (size_in (if_tested b u (i.type_size T)) (Test_at v))
        go true e = one (eqb-true z x e) (same_tuple u v)
        go false e = is_none (size_of i W.sort)

    tests_size : (bounds : List ℕ) (b : Tree) → HasTypedLets c b → none_odd never_copies b ≡ true → Is (size_of i W.sort) (size_in (at_each_copy g (test_cells_at g x) bounds b) (Test_at v))
    unfolding HasTypedLets at_each_copy none_odd
    tests_size bounds Empty t o = is_none (size_of i W.sort)
    tests_size bounds (Node (Let z T) a b) t o =
        let q = and_parts (none_odd never_copies a) (none_odd never_copies b) o in
        is_node (size_of i W.sort) (Test_at v) g (test_cells_at g x) bounds (Let z T) a b (λ u. test_size z T u t.0) (tests_size bounds a t.1 q.0) (tests_size bounds b t.2 q.1)
    tests_size bounds (Node (New z T) a b) t o =
        let p = and_parts (not (z == x)) (none_odd never_copies a && none_odd never_copies b) o in
        let q = and_parts (none_odd never_copies a) (none_odd never_copies b) p.1 in
        is_node (size_of i W.sort) (Test_at v) g (test_cells_at g x) bounds (New z T) a b (λ u. no_test (z == x) u (i.type_size T) p.0) (tests_size bounds a t.0 q.0) (tests_size bounds b t.1 q.1)
    tests_size bounds (Node (Binder z T) a b) t o =
        let p = and_parts (not (z == x)) (none_odd never_copies a && none_odd never_copies b) o in
        let q = and_parts (none_odd never_copies a) (none_odd never_copies b) p.1 in
        is_node (size_of i W.sort) (Test_at v) g (test_cells_at g x) bounds (Binder z T) a b (λ u. no_test (z == x) u (i.type_size T) p.0) (tests_size bounds a t.0 q.0) (tests_size bounds b t.1 q.1)
    tests_size bounds (Node h a b) t o =
        let q = and_parts (none_odd never_copies a) (none_odd never_copies b) o in
        is_node (size_of i W.sort) (Test_at v) g (test_cells_at g x) bounds h a b (λ u. is_none (size_of i W.sort)) (tests_size (bounds_under g bounds h) a t.0 q.0) (tests_size (bounds_under g bounds h) b t.1 q.1)

  module _ (a : Adversary) (game : Tree) (restrictions : HasTypedRestrictions c game) (lets : HasTypedLets c game) (odd : none_odd never_copies game ≡ true) where
    abbrev cs : List (Cell × ℕ)
    cs = cells g (Random true x) a game

    pub same_sizes : (y : ℕ) (w v : List ℕ) → HaveOneSort s x c y → is_in cs (New_at y w) ≡ true → is_in cs (Test_at v) ≡ true → one_size (size_in cs (Test_at v)) (size_in cs (New_at y w)) ≡ true
    same_sizes y w v k d t =
        let m = sized_is_in cs (New_at y w) d in
        let n = sized_is_in cs (Test_at v) t in
        let drawn : Is (size_of i k.source.sort) (size_in cs (New_at y w)) =
        subst (Is (size_of i k.source.sort)) (sym (cells_size x s.declarations i [] true a game (New_at y w)))
        (is_else (size_of i k.source.sort) _ _ (draws_size y w k.source k.source_is [] game restrictions)
        (is_else (size_of i k.source.sort) _ _ (subst (Is (size_of i k.source.sort)) (sym (none_in_copies g (test_cells_at g x) (New_at y w) (tests_apart g x y w) [] game)) (is_none (size_of i k.source.sort)))
        (subst (Is (size_of i k.source.sort)) (sym (coins_apart 0 a.coins y w)) (is_none (size_of i k.source.sort))))) in
        let tested : Is (size_of i k.copy.sort) (size_in cs (Test_at v)) =
        subst (Is (size_of i k.copy.sort)) (sym (cells_size x s.declarations i [] true a game (Test_at v)))
        (is_else (size_of i k.copy.sort) _ _ (subst (Is (size_of i k.copy.sort)) (sym (none_in_copies g (cells_at g) (Test_at v) (draws_apart x s.declarations i v) [] game)) (is_none (size_of i k.copy.sort)))
        (is_else (size_of i k.copy.sort) _ _ (tests_size v k.copy k.copy_is [] game lets odd)
        (subst (Is (size_of i k.copy.sort)) (sym (no_coin 0 a.coins v)) (is_none (size_of i k.copy.sort))))) in
        let one : m.0 ≡ n.0 = drawn m.0 m.1 ∙ ap (size_of i) k.same ∙ sym (tested n.0 n.1) in
        ap₂ one_size n.1 m.1 ∙ eq-eqb n.0 m.0 (sym one)
