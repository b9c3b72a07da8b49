-- The cells of a game with terms for others, and a change at a place in two steps.
use Rattle.std.proofs.Common.{◌≡◌, ℕ, suc, true, false, max, List, [], ◌∷◌, ◌++◌, flat_map, Option, Some, None, refl, sym, ap, ap₂, ◌∙◌}
use Rattle.std.proofs.Math.Path.{fun_ext}
use Rattle.std.proofs.lemmas.Bool.{both_ways, and_parts}
use Rattle.cv_syntax_trees.specs.declared.head.Head.{Head}
use Rattle.cv_syntax_trees.specs.declared.head.Head.TheVariants.{New, Let, Find, Branch, Binder, Cons, Par, Key, Call}
use Rattle.cv_syntax_trees.specs.Tree.{Tree, Empty, Node, first}
use Rattle.cv_meaning.specs.Tapes.{Cell}
use Rattle.cv_meaning.specs.Binders.{binder_count, widest_binder}
use Rattle.cv_meaning.specs.Candidates.{candidate, candidates, candidates_at, most_indices, tuples_up_to, widest}
use Rattle.cv_meaning.specs.Cells.{at_each_copy, bounds_under, cells, cells_at, coin_cells, test_cells, test_cells_at, tuples_below, without_repeats}
use Rattle.cv_meaning.specs.Interpretation.{Setting}
use Rattle.cv_meaning.specs.Memory.{Indices, Store}
use Rattle.cv_meaning.specs.Runs.{Adversary, Events, Mode, Random, Real}
use Rattle.cv_meaning.specs.Serving.{Visit}
use Rattle.cv_meaning.specs.Still.{head_is_still, is_still}
use Rattle.cv_meaning_runs.specs.Replacement as at
use Rattle.cv_meaning_runs.specs.Replacement.{IsReplaced, Part}
use Rattle.std.specs.List.{AllByRecursion}
use Rattle.cv_rule_pick.specs.Picking.{term_of, with_terms}
use Rattle.cv_rule_pick_laws.specs.Settling.{IsSettled, same, kept, in_parallel, in_list, in_find, in_branch, in_later_branch}
use Rattle.cv_rule_pick_laws.proofs.Terms.{AllBoth, IsRead, term_has, with_kept, with_term}

-- cells

flat_none : {A : Type 0} (f : A → List (Cell × ℕ)) → ((x : A) → f x ≡ []) → (xs : List A) → flat_map f xs ≡ []
flat_none f e [] = refl
flat_none f e (x ∷ xs) = ap₂ ◌++◌ (e x) (flat_none f e xs)

module _ (g : Setting) (give : Head → List ℕ → List (Cell × ℕ)) (still : (h : Head) (u : List ℕ) → head_is_still h ≡ true → give h u ≡ []) where
  abbrev copies : List ℕ → Tree → List (Cell × ℕ)
  copies bounds t = at_each_copy g give bounds t

  still_none : (bounds : List ℕ) (t : Tree) → is_still t ≡ true → copies bounds t ≡ []
  unfolding at_each_copy
  still_none bounds Empty e = refl
  still_none bounds (Node h a b) e =
      let p = and_parts (head_is_still h) _ e in
      let q = and_parts (is_still a) _ p.1 in
      ap₂ ◌++◌ (flat_none (give h) (λ u. still h u p.0) (tuples_below bounds)) (ap₂ ◌++◌ (still_none (bounds_under g bounds h) a q.0) (still_none (bounds_under g bounds h) b q.1))

  node_copies : (bounds : List ℕ) (h : Head) (a b c d : Tree) → copies (bounds_under g bounds h) a ≡ copies (bounds_under g bounds h) c → copies (bounds_under g bounds h) b ≡ copies (bounds_under g bounds h) d → copies bounds (Node h a b) ≡ copies bounds (Node h c d)
  unfolding at_each_copy
  node_copies bounds h a b c d e f = ap₂ (λ k l. flat_map (give h) (tuples_below bounds) ++ (k ++ l)) e f

  -- the cells and their terms have none
  pub with_copies : (cs : List Tree) (ms : Tree) (are : AllByRecursion IsRead cs) → AllBoth (λ c m. (is_still c ≡ true) × (is_still m ≡ true)) cs ms → (t : Tree) (bounds : List ℕ) → copies bounds t ≡ copies bounds (with_terms cs ms t)
  unfolding with_terms
  with_copies cs ms are stills Empty bounds = refl
  with_copies cs ms are stills (Node h a b) bounds = go (term_of cs ms (Node h a b)) refl (with_copies cs ms are stills a (bounds_under g bounds h)) (with_copies cs ms are stills b (bounds_under g bounds h))
    where
      go : (o : Option Tree) → term_of cs ms (Node h a b) ≡ o → copies (bounds_under g bounds h) a ≡ copies (bounds_under g bounds h) (with_terms cs ms a) → copies (bounds_under g bounds h) b ≡ copies (bounds_under g bounds h) (with_terms cs ms b)
          → copies bounds (Node h a b) ≡ copies bounds (with_terms cs ms (Node h a b))
      go None e f k = node_copies bounds h a b (with_terms cs ms a) (with_terms cs ms b) f k ∙ ap (copies bounds) (sym (with_kept cs ms are h a b e))
      go (Some m) e f k =
          let r = term_has (λ c n. (is_still c ≡ true) × (is_still n ≡ true)) cs ms (Node h a b) m stills e in
          still_none bounds (Node h a b) r.0 ∙ (sym (still_none bounds m r.1) ∙ ap (copies bounds) (sym (with_term cs ms are h a b m e)))

  -- a game with a tree of the same cells at a place has the same cells
  pub replaced_copies : (old new : Tree) (place : ℕ) → ((bounds : List ℕ) → copies bounds old ≡ copies bounds new) → (part : Part) (p : ℕ) (b c : Tree) → IsReplaced old new place part p b c → (bounds : List ℕ) → copies bounds b ≡ copies bounds c
  replaced_copies old new place k part p b c at.here bounds = k bounds
  replaced_copies old new place k part p b c (at.in_continuation {h = h} {a = a} {b = x} {c = y} z) bounds = node_copies bounds h a x a y refl (replaced_copies old new place k at.Process _ x y z (bounds_under g bounds h))
  replaced_copies old new place k part p b c (at.in_parallel {a = x} {b = d} {c = y} z) bounds = node_copies bounds Par x d y d (replaced_copies old new place k at.Process _ x y z bounds) refl
  replaced_copies old new place k part p b c (at.in_list {a = x} {b = d} {c = y} z) bounds = node_copies bounds Cons x d y d (replaced_copies old new place k at.Process _ x y z bounds) refl
  replaced_copies old new place k part p b c (at.in_find {l = l} {a = x} {b = d} {c = y} z) bounds = node_copies bounds (Find l) x d y d (replaced_copies old new place k at.Branches _ x y z bounds) refl
  replaced_copies old new place k part p b c (at.in_branch {binders = us} {defined = l} {condition = m} {b = x} {c = y} {more = more} z) bounds =
      node_copies bounds Cons (Node Branch us (Node Cons l (Node Cons m x))) more (Node Branch us (Node Cons l (Node Cons m y))) more
      (node_copies bounds Branch us (Node Cons l (Node Cons m x)) us (Node Cons l (Node Cons m y)) refl
      (node_copies bounds Cons l (Node Cons m x) l (Node Cons m y) refl (node_copies bounds Cons m x m y refl (replaced_copies old new place k at.Process _ x y z bounds)))) refl
  replaced_copies old new place k part p b c (at.in_later_branch {a = a} {b = x} {c = y} z) bounds = node_copies bounds Cons a x a y refl (replaced_copies old new place k at.Branches _ x y z bounds)

still_cells : (g : Setting) (h : Head) (u : List ℕ) → head_is_still h ≡ true → cells_at g h u ≡ []
still_cells g (New x T) u e = absurd (both_ways false refl e)
still_cells g (Find l) u e = absurd (both_ways false refl e)
still_cells g (Key x) u e = absurd (both_ways false refl e)
still_cells g (Call x l) u e = absurd (both_ways false refl e)
still_cells g h u e = refl

still_tests : (g : Setting) (x : ℕ) (h : Head) (u : List ℕ) → head_is_still h ≡ true → test_cells_at g x h u ≡ []
still_tests g x (New y T) u e = absurd (both_ways false refl e)
still_tests g x (Let y T) u e = absurd (both_ways false refl e)
still_tests g x (Binder y T) u e = absurd (both_ways false refl e)
still_tests g x h u e = refl

module _ (g : Setting) (game next : Tree) (k : (give : Head → List ℕ → List (Cell × ℕ)) → ((h : Head) (u : List ℕ) → head_is_still h ≡ true → give h u ≡ []) → at_each_copy g give [] game ≡ at_each_copy g give [] next) where
  same_tests : (m : Mode) → test_cells g m game ≡ test_cells g m next
  same_tests Events = refl
  same_tests (Real one x) = k (test_cells_at g x) (still_tests g x)
  same_tests (Random one x) = k (test_cells_at g x) (still_tests g x)

  pub cells_same : (m : Mode) (a : Adversary) → cells g m a game ≡ cells g m a next
  unfolding cells
  cells_same m a = ap₂ (λ c d. without_repeats (c ++ (d ++ coin_cells 0 a.coins))) (k (cells_at g) (still_cells g)) (same_tests m)

-- two changes, one after the other

pub record Between (old middle new : Tree) (place : ℕ) (part : Part) (p : ℕ) (b c : Tree) : Type 0 where
  pub tree : Tree
  pub first : IsReplaced old middle place part p b tree
  pub second : IsReplaced middle new place part p tree c

pub between : (old middle new : Tree) (place : ℕ) (part : Part) (p : ℕ) (b c : Tree) → IsReplaced old new place part p b c → Between old middle new place part p b c
between old middle new place part p b c at.here = record { tree = middle; first = at.here; second = at.here }
between old middle new place part p b c (at.in_continuation {h = h} {a = a} {b = x} {c = y} z) =
    let r = between old middle new place at.Process _ x y z in record { tree = Node h a r.tree; first = at.in_continuation r.first; second = at.in_continuation r.second }
between old middle new place part p b c (at.in_parallel {a = x} {b = d} {c = y} z) =
    let r = between old middle new place at.Process _ x y z in record { tree = Node Par r.tree d; first = at.in_parallel r.first; second = at.in_parallel r.second }
between old middle new place part p b c (at.in_list {a = x} {b = d} {c = y} z) =
    let r = between old middle new place at.Process _ x y z in record { tree = Node Cons r.tree d; first = at.in_list r.first; second = at.in_list r.second }
between old middle new place part p b c (at.in_find {l = l} {a = x} {b = d} {c = y} z) =
    let r = between old middle new place at.Branches _ x y z in record { tree = Node (Find l) r.tree d; first = at.in_find r.first; second = at.in_find r.second }
between old middle new place part p b c (at.in_branch {binders = us} {defined = l} {condition = m} {b = x} {c = y} {more = more} z) =
    let r = between old middle new place at.Process _ x y z in
    record { tree = Node Cons (Node Branch us (Node Cons l (Node Cons m r.tree))) more; first = at.in_branch r.first; second = at.in_branch r.second }
between old middle new place part p b c (at.in_later_branch {a = a} {b = x} {c = y} z) =
    let r = between old middle new place at.Branches _ x y z in record { tree = Node Cons a r.tree; first = at.in_later_branch r.first; second = at.in_later_branch r.second }

-- with such a tree at a place the game is such a one

record SameBranches (g : Setting) (a b : Tree) : Type 0 where
  candidates : (at : Indices) (m : Store) (u : List ℕ) (k : ℕ) → candidates_at g at m u k a ≡ candidates_at g at m u k b
  most : most_indices a ≡ most_indices b
  wide : widest g.interpretation.parameter_value a ≡ widest g.interpretation.parameter_value b

branches_same : (g : Setting) (old new : Tree) (place p : ℕ) (a b : Tree) → IsReplaced old new place at.Branches p a b → SameBranches g a b
unfolding candidates_at
branches_same g old new place p a b (at.in_branch x) = record { candidates = λ at m u k. refl; most = refl; wide = refl }
branches_same g old new place p a b (at.in_later_branch {a = d} {b = x} {c = y} z) =
    let r = branches_same g old new place _ x y z in
    record {
      candidates = λ at m u k. ap (λ cs. candidate g at m u k d ++ cs) (r.candidates at m u (suc k));
      most = ap (max (binder_count (first d))) r.most;
      wide = ap (max (widest_binder g.interpretation.parameter_value (first d))) r.wide;
    }

candidates_same : (g : Setting) (at : Indices) (m : Store) (a b : Tree) → SameBranches g a b → candidates g at m a ≡ candidates g at m b
unfolding candidates
candidates_same g at m a b r =
    ap₂ (λ d n. flat_map (λ u. candidates_at g at m u 0 a) (tuples_up_to d n)) r.most r.wide
    ∙ ap (λ f. flat_map f (tuples_up_to (most_indices b) (widest g.interpretation.parameter_value b))) (fun_ext (λ u. r.candidates at m u 0))

pub settled_at : (g : Setting) (V : Visit → Type 0) (old new : Tree) (place : ℕ) → IsSettled g V at.Process place old new → (part : Part) (p : ℕ) (b c : Tree) → IsReplaced old new place part p b c → IsSettled g V part p b c
settled_at g V old new place k part p b c at.here = k
settled_at g V old new place k part p b c (at.in_continuation {h = h} {a = a} {b = x} {c = y} z) = kept (settled_at g V old new place k at.Process _ x y z)
settled_at g V old new place k part p b c (at.in_parallel {a = x} {b = d} {c = y} z) = in_parallel (settled_at g V old new place k at.Process _ x y z) same
settled_at g V old new place k part p b c (at.in_list {a = x} {b = d} {c = y} z) = in_list (settled_at g V old new place k at.Process _ x y z) same
settled_at g V old new place k part p b c (at.in_find {l = l} {a = x} {b = d} {c = y} z) =
    in_find (λ l v. candidates_same g l.indices l.memory.store x y (branches_same g old new place _ x y z)) (settled_at g V old new place k at.Branches _ x y z) same
settled_at g V old new place k part p b c (at.in_branch {b = x} {c = y} z) = in_branch (settled_at g V old new place k at.Process _ x y z) same
settled_at g V old new place k part p b c (at.in_later_branch {b = x} {c = y} z) = in_later_branch (settled_at g V old new place k at.Branches _ x y z)
