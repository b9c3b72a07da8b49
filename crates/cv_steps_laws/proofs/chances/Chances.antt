-- Where an experiment holds alike in two games on each tape that is counted for the first, and the second has no other cells, its
-- chance is one.
use Rattle.std.proofs.Common.{◌≡◌, ℕ, ◌||◌, Bool, true, false, cond, List, [], ◌∷◌, ◌++◌, ◌⊎◌, inl, inr, Some, None, refl, sym, ap, subst, ◌∙◌}
use Rattle.std.proofs.lemmas.Bool.{both_ways}
use Rattle.std.specs.List.{All, AllByRecursion}
use Rattle.cv_syntax_trees.specs.declared.head.Head.{Head}
use Rattle.cv_syntax_trees.specs.Declarations.{Declaration}
use Rattle.cv_syntax_trees.specs.Tree.{Tree}
use Rattle.cv_meaning.specs.Tapes.{Cell, Tape, blank, count, is_in, same_cell, total}
use Rattle.cv_meaning.specs.Interpretation.{Interpretation, Setting, setting_of}
use Rattle.cv_meaning.specs.Runs.{Adversary, Events, Mode, Random, Real}
use Rattle.cv_meaning.specs.Cells.{at_each_copy, cells, cells_at, coin_cells, test_cells, test_cells_at}
use Rattle.cv_meaning.specs.Experiments.{Experiment, holds_on, mode_of}
use Rattle.cv_meaning.specs.Chances.{Same, chance}
use Rattle.cv_meaning.specs.Advantage.{chance_of}
use Rattle.cv_meaning_laws.proofs.Counts.{same_cell_exact}
use Rattle.cv_meaning_laws.proofs.Listed.{Has, cells_distinct, has_left, has_right}
use Rattle.cv_meaning_chances.specs.Tests.{Ignores}
use Rattle.cv_meaning_laws.specs.adequacy.Counted.{tapes_of}
use Rattle.cv_meaning_laws.specs.adequacy.Typed.{Context}
use Rattle.cv_meaning_laws.proofs.adequacy.Counting.{count_is}
use Rattle.cv_meaning_laws.proofs.adequacy.Lists.{any_has, has_any, has_append}
use Rattle.cv_meaning_chances.proofs.alignment.Closing.{others_ignored_in_games}
use Rattle.cv_meaning_chances.specs.unread.Sizes.{GiveSizesFor, size_in}
use Rattle.cv_meaning_chances.proofs.unread.CellSizes.{is_in_size, same_by_sizes, size_once}
use Rattle.cv_meaning_chances.proofs.rewording.SameCells.{count_alike}
use Rattle.cv_scope_rules.specs.Phrases.{Inputs, is_phrase}
use Rattle.cv_steps.proofs.Testable.{game_no_calls, game_testable, local}
use Rattle.cv_steps_laws.proofs.chances.Inclusion.{Includes}
use Rattle.cv_steps.proofs.Sizes.{IsSized, NamesSorts, all_cells, all_sizes, cell_size}
use Rattle.cv_meaning_laws.proofs.adequacy.Sorted.{all_has}

has_each : {A : Type 0} (P : A → Type 0) (xs : List A) → ((x : A) → Has xs x → P x) → AllByRecursion P xs
has_each P [] h = tt
has_each P (x ∷ xs) h = (h x (inl refl), has_each P xs (λ y k. h y (inr k)))

unlisted : (cs : List (Cell × ℕ)) (d : Cell) → is_in cs d ≡ false → size_in cs d ≡ None
unlisted [] d e = refl
unlisted (c ∷ cs) d e = go (same_cell c.0 d) e (unlisted cs d)
  where
    go : (b : Bool) → (b || is_in cs d) ≡ false → (is_in cs d ≡ false → size_in cs d ≡ None) → cond b (Some c.1) (size_in cs d) ≡ None
    go true f k = absurd (both_ways true f refl)
    go false f k = k f

module _ (c : Context) (ds : List Declaration) (i : Interpretation) (m : Mode) (a : Adversary) where
  abbrev g : Setting
  g = setting_of ds i

  listed : (cs : List (Cell × ℕ)) → AllByRecursion (IsSized c ds i m a) cs → (d : Cell) → is_in cs d ≡ true → size_in cs d ≡ Some (cell_size c i m a d)
  listed [] s d e = absurd (both_ways false refl e)
  listed (x ∷ cs) s d e = go (same_cell x.0 d) refl e (listed cs s.1 d)
    where
      go : (b : Bool) → same_cell x.0 d ≡ b → (b || is_in cs d) ≡ true → (is_in cs d ≡ true → size_in cs d ≡ Some (cell_size c i m a d)) → cond b (Some x.1) (size_in cs d) ≡ Some (cell_size c i m a d)
      go true f e k = ap Some (s.0 ∙ ap (cell_size c i m a) (same_cell_exact x.0 d f))
      go false f e k = k e

  once : (game : Tree) (d : Cell) → size_in (cells g m a game) d ≡ size_in (all_cells c ds i m a game) d
  unfolding cells
  once game d = size_once (all_cells c ds i m a game) d

  module _ (game next : Tree) (names : NamesSorts c game) (inside : (give : Head → List ℕ → List (Cell × ℕ)) → Includes g give game next) where
    tests_inside : (mode : Mode) (d : Cell × ℕ) → Has (test_cells g mode next) d → Has (test_cells g mode game) d
    tests_inside Events d h = h
    tests_inside (Real one x) d h = inside (test_cells_at g x) [] d h
    tests_inside (Random one x) d h = inside (test_cells_at g x) [] d h

    all_inside : (d : Cell × ℕ) → Has (all_cells c ds i m a next) d → Has (all_cells c ds i m a game) d
    all_inside d h = go (has_append (at_each_copy g (cells_at g) [] next) _ d h)
      where
        late : Has (test_cells g m next) d ⊎ Has (coin_cells 0 a.coins) d → Has (test_cells g m game ++ coin_cells 0 a.coins) d
        late (inl k) = has_left (test_cells g m game) _ d (tests_inside m d k)
        late (inr k) = has_right (test_cells g m game) _ d k

        go : Has (at_each_copy g (cells_at g) [] next) d ⊎ Has (test_cells g m next ++ coin_cells 0 a.coins) d → Has (all_cells c ds i m a game) d
        go (inl k) = has_left (at_each_copy g (cells_at g) [] game) _ d (inside (cells_at g) [] d k)
        go (inr k) = has_right (at_each_copy g (cells_at g) [] game) _ d (late (has_append (test_cells g m next) _ d k))

    game_sizes : AllByRecursion (IsSized c ds i m a) (all_cells c ds i m a game)
    game_sizes = all_sizes c ds i m a game names

    next_sizes : AllByRecursion (IsSized c ds i m a) (all_cells c ds i m a next)
    next_sizes = has_each (IsSized c ds i m a) (all_cells c ds i m a next) (λ d h. all_has (IsSized c ds i m a) (all_cells c ds i m a game) game_sizes d (all_inside d h))

    in_both : (d : Cell) → is_in (all_cells c ds i m a next) d ≡ true → is_in (all_cells c ds i m a game) d ≡ true
    in_both d e =
        let r = any_has (λ (x : Cell × ℕ). same_cell x.0 d) (all_cells c ds i m a next) e in
        has_any (λ (x : Cell × ℕ). same_cell x.0 d) (all_cells c ds i m a game) r.0 (all_inside r.0 r.1) r.2

    -- both lists give a cell one size, unless the second doesn't list it
    pub one_size_or_none : (d : Cell) → (size_in (cells g m a game) d ≡ size_in (cells g m a next) d) ⊎ (is_in (cells g m a next) d ≡ false)
    one_size_or_none d = go (is_in (all_cells c ds i m a next) d) refl
      where
        go : (b : Bool) → is_in (all_cells c ds i m a next) d ≡ b → (size_in (cells g m a game) d ≡ size_in (cells g m a next) d) ⊎ (is_in (cells g m a next) d ≡ false)
        go true e = inl (once game d ∙ (listed (all_cells c ds i m a game) game_sizes d (in_both d e) ∙ (sym (listed (all_cells c ds i m a next) next_sizes d e) ∙ sym (once next d))))
        go false e = inr (is_in_size (cells g m a next) d (once next d ∙ unlisted (all_cells c ds i m a next) d e))

pub chance_inside : (c : Context) (ds : List Declaration) (i : Interpretation) (x : Experiment) (a : Adversary) (game next : Tree) → NamesSorts c game → ((give : Head → List ℕ → List (Cell × ℕ)) → Includes (setting_of ds i) give game next) → is_phrase Inputs next ≡ true
    → All (λ t. holds_on (setting_of ds i) x a game t ≡ holds_on (setting_of ds i) x a next t) (tapes_of (cells (setting_of ds i) (mode_of x) a game) blank)
    → Same (chance_of (setting_of ds i) x a game) (chance_of (setting_of ds i) x a next)
unfolding chance_of
chance_inside c ds i x a game next names inside e f =
    let g : Setting = setting_of ds i in
    let m : Mode = mode_of x in
    let cs : List (Cell × ℕ) = cells g m a game in
    let es : List (Cell × ℕ) = cells g m a next in
    let p : Tape → Bool = holds_on g x a game in
    let q : Tape → Bool = holds_on g x a next in
    let alike : count cs p blank ≡ count cs q blank = count_is cs p blank ∙ (count_alike p q (tapes_of cs blank) f ∙ sym (count_is cs q blank)) in
    let ignores = others_ignored_in_games g x a next local (game_testable m next e) (game_no_calls next e) in
    let sizes : GiveSizesFor q cs es = λ d. go d (ignores d) (one_size_or_none c ds i m a game next names inside d) in
    subst (λ n. Same (record { good = n; all = total cs }) (chance es q)) (sym alike) (same_by_sizes q cs es (cells_distinct g m a game) (cells_distinct g m a next) sizes)
  where
    go : (d : Cell) → (is_in (cells (setting_of ds i) (mode_of x) a next) d ≡ false → Ignores (holds_on (setting_of ds i) x a next) d)
        → (size_in (cells (setting_of ds i) (mode_of x) a game) d ≡ size_in (cells (setting_of ds i) (mode_of x) a next) d) ⊎ (is_in (cells (setting_of ds i) (mode_of x) a next) d ≡ false)
        → (size_in (cells (setting_of ds i) (mode_of x) a game) d ≡ size_in (cells (setting_of ds i) (mode_of x) a next) d) ⊎ Ignores (holds_on (setting_of ds i) x a next) d
    go d k (inl e) = inl e
    go d k (inr e) = inr (k e)
