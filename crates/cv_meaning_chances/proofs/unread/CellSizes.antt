-- The sizes that lists of cells give, and that a game has those of the one without some definitions.
use Rattle.std.proofs.Common.{◌≡◌, ℕ, suc, ◌==◌, ◌||◌, Bool, true, false, cond, not, List, [], ◌∷◌, ◌++◌, filter, flat_map, Contains, ◌⊎◌, inl, inr, Option, Some, None, refl, sym, ap, ap₂, subst, ◌∙◌, eqb-true}
use Rattle.std.proofs.lemmas.Bool.{both_ways, and_parts, not-true}
use Rattle.cv_syntax_trees.specs.declared.head.Head.{Head}
use Rattle.cv_syntax_trees.specs.declared.head.Head.TheVariants.{Par, New, Let, If, Find, Branch, Binder, Cons, Key, Call}
use Rattle.cv_syntax_trees.specs.Tree.{Tree, Empty, Node}
use Rattle.cv_syntax_trees.specs.lists.Options.{first_of}
use Rattle.cv_meaning.specs.Tapes.{Cell, Tape, New_at, blank, same_cell, is_in}
use Rattle.cv_meaning.specs.Interpretation.{Setting}
use Rattle.cv_meaning.specs.Runs.{Mode, Events, Real, Random, Adversary}
use Rattle.cv_meaning.specs.Cells.{tuples_below, bounds_under, at_each_copy, cells_at, if_tested, test_cells_at, test_cells, coin_cells, without_repeats, cells}
use Rattle.cv_meaning.specs.Chances.{chance, Same}
use Rattle.cv_meaning_laws.proofs.Counts.{same_cell_refl, same_cell_exact}
use Rattle.cv_meaning_chances.specs.Tests.{HasDistinctCells, Ignores, IsCoveredFor}
use Rattle.cv_meaning_chances.proofs.CellLists.{contains_here, contains_later, contains_cases, not_in_empty, apart_from}
use Rattle.cv_meaning_chances.proofs.Within.{later_distinct, not_later}
use Rattle.cv_meaning_chances.proofs.Covers.{same_chance}
use Rattle.cv_meaning_runs.specs.Replacement.{Part, Process, Branches, IsReplaced, if_tree}
use Rattle.cv_meaning_runs.specs.Replacement as at
use Rattle.cv_meaning_runs.specs.Listed.{head_is_no_call, has_no_calls}
use Rattle.cv_meaning_chances.specs.unread.Dropping.{head_draws_none, draws_none, IsDropped, same, gone, kept, in_parallel, in_list, in_find, in_branch, in_later_branch, IsUntested}
use Rattle.cv_meaning.specs.Still.{defines, head_is_still, is_still}
use Rattle.cv_meaning_chances.specs.unread.Sizes.{size_in, GiveSizesFor}
use Rattle.cv_meaning_laws.proofs.Listed.{apart_back}

-- lists

pub first_none : (o : Option ℕ) → first_of o None ≡ o
first_none None = refl
first_none (Some n) = refl

or_twice : (o q : Option ℕ) → first_of o (first_of o q) ≡ first_of o q
or_twice None q = refl
or_twice (Some n) q = refl

pub size_append : (cs ds : List (Cell × ℕ)) (d : Cell) → size_in (cs ++ ds) d ≡ first_of (size_in cs d) (size_in ds d)
size_append [] ds d = refl
size_append (c ∷ cs) ds d = go (same_cell c.0 d) (size_append cs ds d)
  where
    go : (b : Bool) → size_in (cs ++ ds) d ≡ first_of (size_in cs d) (size_in ds d) → cond b (Some c.1) (size_in (cs ++ ds) d) ≡ first_of (cond b (Some c.1) (size_in cs d)) (size_in ds d)
    go true k = refl
    go false k = k

pub size_each : {A : Type 0} (f : A → List (Cell × ℕ)) (d : Cell) → ((x : A) → size_in (f x) d ≡ None) → (xs : List A) → size_in (flat_map f xs) d ≡ None
size_each f d e [] = refl
size_each f d e (x ∷ xs) = size_append (f x) (flat_map f xs) d ∙ ap₂ first_of (e x) (size_each f d e xs)

pub is_in_size : (cs : List (Cell × ℕ)) (d : Cell) → size_in cs d ≡ None → is_in cs d ≡ false
is_in_size [] d e = refl
is_in_size (c ∷ cs) d e = go (same_cell c.0 d) e (is_in_size cs d)
  where
    go : (b : Bool) → cond b (Some c.1) (size_in cs d) ≡ None → (size_in cs d ≡ None → is_in cs d ≡ false) → (b || is_in cs d) ≡ false
    go true f k = absurd (cc)
    go false f k = k f

size_filter : (e d : Cell) → same_cell e d ≡ false → (cs : List (Cell × ℕ)) → size_in (filter (λ (c : Cell × ℕ). not (same_cell c.0 e)) cs) d ≡ size_in cs d
size_filter e d f [] = refl
size_filter e d f (c ∷ cs) = go (same_cell c.0 e) refl (size_filter e d f cs)
  where
    rest : List (Cell × ℕ)
    rest = filter (λ (c : Cell × ℕ). not (same_cell c.0 e)) cs

    go : (b : Bool) → same_cell c.0 e ≡ b → size_in rest d ≡ size_in cs d → size_in (cond (not b) (c ∷ rest) rest) d ≡ size_in (c ∷ cs) d
    go true h k = k ∙ ap (λ b. cond b (Some c.1) (size_in cs d)) (sym (ap (λ z. same_cell z d) (same_cell_exact c.0 e h) ∙ f))
    go false h k = ap (cond (same_cell c.0 d) (Some c.1)) k

pub size_once : (cs : List (Cell × ℕ)) (d : Cell) → size_in (without_repeats cs) d ≡ size_in cs d
size_once [] d = refl
size_once (c ∷ cs) d = go (same_cell c.0 d) refl (size_once cs d)
  where
    rest : List (Cell × ℕ)
    rest = filter (λ (e : Cell × ℕ). not (same_cell e.0 c.0)) (without_repeats cs)

    go : (b : Bool) → same_cell c.0 d ≡ b → size_in (without_repeats cs) d ≡ size_in cs d → cond b (Some c.1) (size_in rest d) ≡ cond b (Some c.1) (size_in cs d)
    go true h k = refl
    go false h k = size_filter c.0 d h (without_repeats cs) ∙ k

-- a list of distinct cells gives each its size

size_of_contained : (cs : List (Cell × ℕ)) → HasDistinctCells cs → (c : Cell × ℕ) → Contains cs c → size_in cs c.0 ≡ Some c.1
size_of_contained [] x c k = absurd (not_in_empty c k)
size_of_contained (e ∷ cs) x c k = go (contains_cases e c cs k) (size_of_contained cs (later_distinct e cs x) c)
  where
    go : (e ≡ c) ⊎ Contains cs c → (Contains cs c → size_in cs c.0 ≡ Some c.1) → cond (same_cell e.0 c.0) (Some e.1) (size_in cs c.0) ≡ Some c.1
    go (inl q) ih = subst (λ (z : Cell × ℕ). cond (same_cell e.0 z.0) (Some e.1) (size_in cs z.0) ≡ Some z.1) q (ap (λ b. cond b (Some e.1) (size_in cs e.0)) (same_cell_refl e.0))
    go (inr m) ih =
        let apart : same_cell e.0 c.0 ≡ false = apart_back c.0 e.0 (apart_from cs e.0 c (not_later e cs x) m) in
        ap (λ b. cond b (Some e.1) (size_in cs c.0)) apart ∙ ih m

contained_of_size : (cs : List (Cell × ℕ)) (c : Cell × ℕ) → size_in cs c.0 ≡ Some c.1 → Contains cs c
contained_of_size [] c e = absurd (cc)
contained_of_size (d ∷ cs) c e = go (same_cell d.0 c.0) refl e (contained_of_size cs c)
  where
    go : (b : Bool) → same_cell d.0 c.0 ≡ b → cond b (Some d.1) (size_in cs c.0) ≡ Some c.1 → (size_in cs c.0 ≡ Some c.1 → Contains cs c) → Contains (d ∷ cs) c
    go true h f ih = let i : d.1 ≡ c.1 = cc in subst (Contains (d ∷ cs)) (λ j. (same_cell_exact d.0 c.0 h j, i j)) (contains_here d cs)
    go false h f ih = contains_later d c cs (ih f)

covered_by_sizes : (p : Tape → Bool) (cs ds : List (Cell × ℕ)) → HasDistinctCells cs → GiveSizesFor p cs ds → IsCoveredFor p cs ds
covered_by_sizes p cs ds x s c k = go (s c.0)
  where
    go : (size_in cs c.0 ≡ size_in ds c.0) ⊎ Ignores p c.0 → Contains ds c ⊎ Ignores p c.0
    go (inl e) = inl (contained_of_size ds c (sym e ∙ size_of_contained cs x c k))
    go (inr i) = inr i

sizes_back : (p : Tape → Bool) (cs ds : List (Cell × ℕ)) → GiveSizesFor p cs ds → GiveSizesFor p ds cs
sizes_back p cs ds s d = go (s d)
  where
    go : (size_in cs d ≡ size_in ds d) ⊎ Ignores p d → (size_in ds d ≡ size_in cs d) ⊎ Ignores p d
    go (inl e) = inl (sym e)
    go (inr i) = inr i

pub same_by_sizes : (p : Tape → Bool) (cs ds : List (Cell × ℕ)) → HasDistinctCells cs → HasDistinctCells ds → GiveSizesFor p cs ds → Same (chance cs p) (chance ds p)
same_by_sizes p cs ds x y s = same_chance p cs ds x y (covered_by_sizes p cs ds x s) (covered_by_sizes p ds cs y (sizes_back p cs ds s)) blank

-- the cells of the copies of a tree

module _ (g : Setting) (give : Head → List ℕ → List (Cell × ℕ)) (d : Cell) where
  abbrev size_at : List ℕ → Tree → Option ℕ
  size_at bounds b = size_in (at_each_copy g give bounds b) d

  abbrev own_size : List ℕ → Head → Option ℕ
  own_size bounds h = size_in (flat_map (give h) (tuples_below bounds)) d

  size_node : (bounds : List ℕ) (h : Head) (a b : Tree) → size_at bounds (Node h a b) ≡ first_of (own_size bounds h) (first_of (size_at (bounds_under g bounds h) a) (size_at (bounds_under g bounds h) b))
  unfolding at_each_copy
  size_node bounds h a b =
      let under : List ℕ = bounds_under g bounds h in
      size_append (flat_map (give h) (tuples_below bounds)) (at_each_copy g give under a ++ at_each_copy g give under b) d
      ∙ ap (first_of (own_size bounds h)) (size_append (at_each_copy g give under a) (at_each_copy g give under b) d)

  size_empty : (bounds : List ℕ) → size_at bounds Empty ≡ None
  unfolding at_each_copy
  size_empty bounds = refl

  under_node : (bounds : List ℕ) (h : Head) (a b c e : Tree) → size_at (bounds_under g bounds h) a ≡ size_at (bounds_under g bounds h) c → size_at (bounds_under g bounds h) b ≡ size_at (bounds_under g bounds h) e
      → size_at bounds (Node h a b) ≡ size_at bounds (Node h c e)
  under_node bounds h a b c e x y = size_node bounds h a b ∙ ap₂ (λ o q. first_of (own_size bounds h) (first_of o q)) x y ∙ sym (size_node bounds h c e)

  module _ (still : (h : Head) (u : List ℕ) → head_is_still h ≡ true → size_in (give h u) d ≡ None) where
    own_still : (bounds : List ℕ) (h : Head) → head_is_still h ≡ true → own_size bounds h ≡ None
    own_still bounds h e = size_each (give h) d (λ u. still h u e) (tuples_below bounds)

    pub still_size : (bounds : List ℕ) (b : Tree) → is_still b ≡ true → size_at bounds b ≡ None
    still_size bounds Empty e = size_empty bounds
    still_size bounds (Node h a b) e =
        let p = and_parts (head_is_still h) _ e in
        let q = and_parts (is_still a) _ p.1 in
        size_node bounds h a b ∙ (λ i. first_of (own_still bounds h p.0 i) (first_of (still_size (bounds_under g bounds h) a q.0 i) (still_size (bounds_under g bounds h) b q.1 i)))

    -- without some definitions

    module _ (xs : ℕ → Bool) (free : (h : Head) (u : List ℕ) → defines xs h ≡ true → size_in (give h u) d ≡ None) where
      same_bounds : (bounds : List ℕ) (h : Head) → defines xs h ≡ true → bounds_under g bounds h ≡ bounds
      same_bounds bounds (New x T) e = refl
      same_bounds bounds (Let x T) e = refl
      same_bounds bounds h e = absurd (both_ways false refl e)

      pub dropped_size : {part : Part} (bounds : List ℕ) (b c : Tree) → IsDropped xs part b c → size_at bounds b ≡ size_at bounds c
      dropped_size bounds b c (same e) = refl
      dropped_size bounds b c (gone {h = h} {a = a} {b = x} e f o z) =
          size_node bounds h a x
          ∙ (λ i. first_of (size_each (give h) d (λ u. free h u e) (tuples_below bounds) i) (first_of (still_size (bounds_under g bounds h) a f i) (size_at (same_bounds bounds h e i) x)))
          ∙ dropped_size bounds x c z
      dropped_size bounds b c (kept {h = h} {a = a} {b = x} {c = y} e z) = under_node bounds h a x a y refl (dropped_size (bounds_under g bounds h) x y z)
      dropped_size bounds b c (in_parallel {a = a} {b = x} {c = e} {d = y} w z) = under_node bounds Par a x e y (dropped_size bounds a e w) (dropped_size bounds x y z)
      dropped_size bounds b c (in_list {a = a} {b = x} {c = e} {d = y} w z) = under_node bounds Cons a x e y (dropped_size bounds a e w) (dropped_size bounds x y z)
      dropped_size bounds b c (in_find {l = l} {a = a} {b = x} {c = e} {d = y} w z) = under_node bounds (Find l) a x e y (dropped_size bounds a e w) (dropped_size bounds x y z)
      dropped_size bounds b c (in_branch {binders = bs} {defined = l} {condition = m} {b = x} {c = y} {more = more} {rest = rest} e f h w z) =
          under_node bounds Cons (Node Branch bs (Node Cons l (Node Cons m x))) more (Node Branch bs (Node Cons l (Node Cons m y))) rest
          (under_node bounds Branch bs (Node Cons l (Node Cons m x)) bs (Node Cons l (Node Cons m y)) refl
          (under_node bounds Cons l (Node Cons m x) l (Node Cons m y) refl
          (under_node bounds Cons m x m y refl (dropped_size bounds x y w))))
          (dropped_size bounds more rest z)
      dropped_size bounds b c (in_later_branch {a = a} {b = x} {c = y} e z) = under_node bounds Cons a x a y refl (dropped_size bounds x y z)

    -- with both bodies of an `if` for one

    twice_size : (bounds : List ℕ) (condition body : Tree) → is_still condition ≡ true → size_at bounds body ≡ size_at bounds (if_tree condition body body)
    unfolding at_each_copy
    twice_size bounds condition body e =
        let one : Tree = Node Cons body Empty in
        let own : (h : Head) → head_is_still h ≡ true → (a b : Tree) → bounds_under g bounds h ≡ bounds → size_at bounds (Node h a b) ≡ first_of (size_at bounds a) (size_at bounds b) =
        λ (h : Head) (f : head_is_still h ≡ true) (a b : Tree) (u : bounds_under g bounds h ≡ bounds). size_node bounds h a b ∙ (λ i. first_of (own_still bounds h f i) (first_of (size_at (u i) a) (size_at (u i) b))) in
        let last : size_at bounds one ≡ size_at bounds body = own Cons refl body Empty refl ∙ first_none (size_at bounds body) in
        let bodies : size_at bounds (Node Cons body one) ≡ size_at bounds body = own Cons refl body one refl ∙ ap (first_of (size_at bounds body)) (last ∙ sym (first_none (size_at bounds body))) ∙ or_twice (size_at bounds body) None ∙ first_none (size_at bounds body) in
        sym (own If refl condition (Node Cons body one) refl ∙ ap₂ first_of (still_size bounds condition e) bodies)

    pub replaced_size : (condition body : Tree) (place : ℕ) → is_still condition ≡ true → (part : Part) (p : ℕ) (bounds : List ℕ) (b c : Tree) → IsReplaced body (if_tree condition body body) place part p b c → size_at bounds b ≡ size_at bounds c
    replaced_size condition body place e part p bounds b c at.here = twice_size bounds condition body e
    replaced_size condition body place e part p bounds b c (at.in_continuation {h = h} {a = a} {b = x} {c = y} z) = under_node bounds h a x a y refl (replaced_size condition body place e Process _ (bounds_under g bounds h) x y z)
    replaced_size condition body place e part p bounds b c (at.in_parallel {a = x} {b = a} {c = y} z) = under_node bounds Par x a y a (replaced_size condition body place e Process _ bounds x y z) refl
    replaced_size condition body place e part p bounds b c (at.in_list {a = x} {b = a} {c = y} z) = under_node bounds Cons x a y a (replaced_size condition body place e Process _ bounds x y z) refl
    replaced_size condition body place e part p bounds b c (at.in_find {l = l} {a = x} {b = a} {c = y} z) = under_node bounds (Find l) x a y a (replaced_size condition body place e Branches _ bounds x y z) refl
    replaced_size condition body place e part p bounds b c (at.in_branch {binders = bs} {defined = l} {condition = m} {b = x} {c = y} {more = more} z) =
        under_node bounds Cons (Node Branch bs (Node Cons l (Node Cons m x))) more (Node Branch bs (Node Cons l (Node Cons m y))) more
        (under_node bounds Branch bs (Node Cons l (Node Cons m x)) bs (Node Cons l (Node Cons m y)) refl
        (under_node bounds Cons l (Node Cons m x) l (Node Cons m y) refl
        (under_node bounds Cons m x m y refl (replaced_size condition body place e Process _ bounds x y z))))
        refl
    replaced_size condition body place e part p bounds b c (at.in_later_branch {a = a} {b = x} {c = y} z) = under_node bounds Cons a x a y refl (replaced_size condition body place e Branches _ bounds x y z)

-- the cells of experiments

abbrev pub is_drawn : (ℕ → Bool) → Cell → Bool
is_drawn xs (New_at x u) = xs x
is_drawn xs c = false

pub still_cells : (g : Setting) (d : Cell) (h : Head) (u : List ℕ) → head_is_still h ≡ true → size_in (cells_at g h u) d ≡ None
still_cells g d (New x T) u e = absurd (both_ways false refl e)
still_cells g d (Find l) u e = absurd (both_ways false refl e)
still_cells g d (Key x) u e = absurd (both_ways false refl e)
still_cells g d (Call x l) u e = absurd (both_ways false refl e)
still_cells g d h u e = refl

pub still_tests : (g : Setting) (x : ℕ) (d : Cell) (h : Head) (u : List ℕ) → head_is_still h ≡ true → size_in (test_cells_at g x h u) d ≡ None
still_tests g x d (New y T) u e = absurd (both_ways false refl e)
still_tests g x d (Let y T) u e = absurd (both_ways false refl e)
still_tests g x d (Binder y T) u e = absurd (both_ways false refl e)
still_tests g x d h u e = refl

-- a cell of another variable
apart_size : (xs : ℕ → Bool) (d : Cell) (x n : ℕ) (u : List ℕ) → is_drawn xs d ≡ false → xs x ≡ true → size_in ((New_at x u, n) ∷ []) d ≡ None
apart_size xs d x n u f e = go (same_cell (New_at x u) d) refl
  where
    go : (b : Bool) → same_cell (New_at x u) d ≡ b → cond b (Some n) None ≡ None
    go true h = absurd (both_ways (xs x) (ap (is_drawn xs) (same_cell_exact (New_at x u) d h) ∙ f) e)
    go false h = refl

free_cells : (g : Setting) (xs : ℕ → Bool) (d : Cell) → is_drawn xs d ≡ false → (h : Head) (u : List ℕ) → defines xs h ≡ true → size_in (cells_at g h u) d ≡ None
free_cells g xs d f (New x T) u e = apart_size xs d x (g.interpretation.type_size T) u f e
free_cells g xs d f (Let x T) u e = refl
free_cells g xs d f h u e = absurd (both_ways false refl e)

untested : (xs : ℕ → Bool) (x y : ℕ) → xs x ≡ false → xs y ≡ true → (y == x) ≡ false
untested xs x y e f = go (y == x) refl
  where
    go : (b : Bool) → (y == x) ≡ b → b ≡ false
    go true h = absurd (both_ways (xs x) e (sym (ap xs (eqb-true y x h)) ∙ f))
    go false h = refl

free_tests : (g : Setting) (xs : ℕ → Bool) (x : ℕ) (d : Cell) → xs x ≡ false → (h : Head) (u : List ℕ) → defines xs h ≡ true → size_in (test_cells_at g x h u) d ≡ None
free_tests g xs x d f (New y T) u e = ap (λ b. size_in (if_tested b u (g.interpretation.type_size T)) d) (untested xs x y f e)
free_tests g xs x d f (Let y T) u e = ap (λ b. size_in (if_tested b u (g.interpretation.type_size T)) d) (untested xs x y f e)
free_tests g xs x d f h u e = absurd (both_ways false refl e)

cells_size : (g : Setting) (m : Mode) (a : Adversary) (game : Tree) (d : Cell) → size_in (cells g m a game) d ≡ first_of (size_in (at_each_copy g (cells_at g) [] game) d) (first_of (size_in (test_cells g m game) d) (size_in (coin_cells 0 a.coins) d))
unfolding cells
cells_size g m a game d =
    size_once (at_each_copy g (cells_at g) [] game ++ (test_cells g m game ++ coin_cells 0 a.coins)) d
    ∙ size_append (at_each_copy g (cells_at g) [] game) (test_cells g m game ++ coin_cells 0 a.coins) d
    ∙ ap (first_of (size_in (at_each_copy g (cells_at g) [] game) d)) (size_append (test_cells g m game) (coin_cells 0 a.coins) d)

both_sizes : (g : Setting) (m : Mode) (a : Adversary) (game next : Tree) (d : Cell) → size_in (at_each_copy g (cells_at g) [] game) d ≡ size_in (at_each_copy g (cells_at g) [] next) d → size_in (test_cells g m game) d ≡ size_in (test_cells g m next) d
    → size_in (cells g m a game) d ≡ size_in (cells g m a next) d
both_sizes g m a game next d e f = cells_size g m a game d ∙ ap₂ (λ o q. first_of o (first_of q (size_in (coin_cells 0 a.coins) d))) e f ∙ sym (cells_size g m a next d)

dropped_tests : (g : Setting) (m : Mode) (xs : ℕ → Bool) (game next : Tree) (d : Cell) → IsDropped xs Process game next → IsUntested xs m → size_in (test_cells g m game) d ≡ size_in (test_cells g m next) d
dropped_tests g Events xs game next d z e = refl
dropped_tests g (Real one x) xs game next d z e = dropped_size g (test_cells_at g x) d (still_tests g x d) xs (free_tests g xs x d e) [] game next z
dropped_tests g (Random one x) xs game next d z e = dropped_size g (test_cells_at g x) d (still_tests g x d) xs (free_tests g xs x d e) [] game next z

-- each cell has its size in both lists, but for those of the definitions that are gone
pub other_sizes : (g : Setting) (m : Mode) (a : Adversary) (xs : ℕ → Bool) (game next : Tree) (d : Cell) → IsDropped xs Process game next → IsUntested xs m → is_drawn xs d ≡ false → size_in (cells g m a game) d ≡ size_in (cells g m a next) d
other_sizes g m a xs game next d z e f =
    both_sizes g m a game next d (dropped_size g (cells_at g) d (still_cells g d) xs (free_cells g xs d f) [] game next z) (dropped_tests g m xs game next d z e)

replaced_tests : (g : Setting) (m : Mode) (condition body : Tree) (p : ℕ) (game next : Tree) (d : Cell) → is_still condition ≡ true → IsReplaced body (if_tree condition body body) p Process 0 game next → size_in (test_cells g m game) d ≡ size_in (test_cells g m next) d
replaced_tests g Events condition body p game next d e z = refl
replaced_tests g (Real one x) condition body p game next d e z = replaced_size g (test_cells_at g x) d (still_tests g x d) condition body p e Process 0 [] game next z
replaced_tests g (Random one x) condition body p game next d e z = replaced_size g (test_cells_at g x) d (still_tests g x d) condition body p e Process 0 [] game next z

pub split_sizes : (g : Setting) (m : Mode) (a : Adversary) (condition body : Tree) (p : ℕ) (game next : Tree) (d : Cell) → is_still condition ≡ true → IsReplaced body (if_tree condition body body) p Process 0 game next → size_in (cells g m a game) d ≡ size_in (cells g m a next) d
split_sizes g m a condition body p game next d e z =
    both_sizes g m a game next d (replaced_size g (cells_at g) d (still_cells g d) condition body p e Process 0 [] game next z) (replaced_tests g m condition body p game next d e z)

-- a game that draws none of them has no cell of theirs

undrawn_at : (g : Setting) (xs : ℕ → Bool) (y : ℕ) (v : List ℕ) → xs y ≡ true → (h : Head) (u : List ℕ) → head_draws_none xs h ≡ true → head_is_no_call h ≡ true → size_in (cells_at g h u) (New_at y v) ≡ None
undrawn_at g xs y v e (New x T) u f n = go (same_cell (New_at x u) (New_at y v)) refl
  where
    go : (b : Bool) → same_cell (New_at x u) (New_at y v) ≡ b → cond b (Some (g.interpretation.type_size T)) None ≡ None
    go true h = absurd (both_ways (xs x) (not-true (xs x) f) (ap (is_drawn xs) (same_cell_exact (New_at x u) (New_at y v) h) ∙ e))
    go false h = refl
undrawn_at g xs y v e (Call x l) u f n = absurd (both_ways false refl n)
undrawn_at g xs y v e h u f n = refl

undrawn_copies : (g : Setting) (xs : ℕ → Bool) (y : ℕ) (v : List ℕ) → xs y ≡ true → (bounds : List ℕ) (b : Tree) → draws_none xs b ≡ true → has_no_calls b ≡ true → size_in (at_each_copy g (cells_at g) bounds b) (New_at y v) ≡ None
unfolding draws_none
undrawn_copies g xs y v e bounds Empty f n = size_empty g (cells_at g) (New_at y v) bounds
undrawn_copies g xs y v e bounds (Node h a b) f n =
    let p = and_parts (head_draws_none xs h) _ f in
    let q = and_parts (draws_none xs a) _ p.1 in
    let r = and_parts (head_is_no_call h) _ n in
    let s = and_parts (has_no_calls a) _ r.1 in
    size_node g (cells_at g) (New_at y v) bounds h a b
    ∙ (λ i. first_of (size_each (cells_at g h) (New_at y v) (λ u. undrawn_at g xs y v e h u p.0 r.0) (tuples_below bounds) i)
    (first_of (undrawn_copies g xs y v e (bounds_under g bounds h) a q.0 s.0 i) (undrawn_copies g xs y v e (bounds_under g bounds h) b q.1 s.1 i)))

-- no cell of a test or a coin is one of a `new`

tested_apart : (b : Bool) (u : List ℕ) (n y : ℕ) (v : List ℕ) → size_in (if_tested b u n) (New_at y v) ≡ None
tested_apart true u n y v = refl
tested_apart false u n y v = refl

test_apart : (g : Setting) (x y : ℕ) (v : List ℕ) (h : Head) (u : List ℕ) → size_in (test_cells_at g x h u) (New_at y v) ≡ None
test_apart g x y v (New z T) u = tested_apart (z == x) u (g.interpretation.type_size T) y v
test_apart g x y v (Let z T) u = tested_apart (z == x) u (g.interpretation.type_size T) y v
test_apart g x y v (Binder z T) u = tested_apart (z == x) u (g.interpretation.type_size T) y v
test_apart g x y v h u = refl

copies_apart : (g : Setting) (give : Head → List ℕ → List (Cell × ℕ)) (d : Cell) → ((h : Head) (u : List ℕ) → size_in (give h u) d ≡ None) → (bounds : List ℕ) (b : Tree) → size_in (at_each_copy g give bounds b) d ≡ None
copies_apart g give d e bounds Empty = size_empty g give d bounds
copies_apart g give d e bounds (Node h a b) =
    size_node g give d bounds h a b
    ∙ (λ i. first_of (size_each (give h) d (λ u. e h u) (tuples_below bounds) i) (first_of (copies_apart g give d e (bounds_under g bounds h) a i) (copies_apart g give d e (bounds_under g bounds h) b i)))

tests_apart : (g : Setting) (m : Mode) (y : ℕ) (v : List ℕ) (game : Tree) → size_in (test_cells g m game) (New_at y v) ≡ None
tests_apart g Events y v game = refl
tests_apart g (Real one x) y v game = copies_apart g (test_cells_at g x) (New_at y v) (test_apart g x y v) [] game
tests_apart g (Random one x) y v game = copies_apart g (test_cells_at g x) (New_at y v) (test_apart g x y v) [] game

pub coins_apart : (k : ℕ) (ns : List ℕ) (y : ℕ) (v : List ℕ) → size_in (coin_cells k ns) (New_at y v) ≡ None
coins_apart k [] y v = refl
coins_apart k (n ∷ ns) y v = coins_apart (suc k) ns y v

pub undrawn : (g : Setting) (m : Mode) (a : Adversary) (xs : ℕ → Bool) (game : Tree) (d : Cell) → draws_none xs game ≡ true → has_no_calls game ≡ true → is_drawn xs d ≡ true → is_in (cells g m a game) d ≡ false
undrawn g m a xs game (New_at y v) f n e =
    is_in_size (cells g m a game) (New_at y v)
    (cells_size g m a game (New_at y v) ∙ (λ i. first_of (undrawn_copies g xs y v e [] game f n i) (first_of (tests_apart g m y v game i) (coins_apart 0 a.coins y v i))))
undrawn g m a xs game d f n e = absurd (both_ways false refl e)
