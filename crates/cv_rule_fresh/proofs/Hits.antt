-- What the term is when a copy of the choice is drawn, and that this ignores what is drawn.
use Rattle.std.proofs.Common.{◌≡◌, ℕ, suc, ◌||◌, Bool, true, false, cond, List, [], ◌∷◌, ◌++◌, Option, Some, None, refl, sym, ap, subst, ◌∙◌}
use Rattle.std.proofs.lemmas.Bool.{both_ways}
use Rattle.std.specs.List.{AllByRecursion, IsDistinct, list_any}
use Rattle.cv_syntax_trees.specs.Tree.{Tree}
use Rattle.cv_meaning.specs.Tapes.{Cell, Coin, New_at, Tape, cells_of, same_cell, written}
use Rattle.cv_meaning.specs.Interpretation.{Setting}
use Rattle.cv_meaning.specs.Terms.{value_here}
use Rattle.cv_meaning.specs.Serving.{Visit}
use Rattle.cv_meaning.specs.Runs.{Adversary, Mode}
use Rattle.cv_meaning.specs.Cells.{coin_cells}
use Rattle.cv_meaning.specs.Consulted.{consulted, consulted_at}
use Rattle.cv_meaning.specs.Experiments.{visits_of_run}
use Rattle.cv_meaning_laws.proofs.Counts.{same_cell_exact}
use Rattle.cv_meaning_chances.specs.Tests.{Ignores}
use Rattle.cv_meaning_chances.proofs.Within.{written_apart}
use Rattle.cv_meaning_runs.specs.Agreement.{AgreeAt, AgreeBut, IsLocal, SameUpTo, visit_consults}
use Rattle.cv_meaning_runs.proofs.Lists.{distinct_right}
use Rattle.cv_meaning_runs.proofs.Together.{visits_up_to}
use Rattle.cv_meaning_laws.proofs.Listed.{apart_back}

abbrev pub first_that : {A : Type 0} → (A → Bool) → List A → Option A
first_that p [] = None
first_that p (x ∷ xs) = cond (p x) (Some x) (first_that p xs)

-- lists that are the same up to the first that stops have the same first one
first_same : {A : Type 0} (stops : A → Bool) (xs ys : List A) → SameUpTo stops xs ys → first_that stops xs ≡ first_that stops ys
first_same stops [] [] h = refl
first_same stops [] (y ∷ ys) h = absurd h
first_same stops (x ∷ xs) [] h = absurd h
first_same stops (x ∷ xs) (y ∷ ys) h = go (stops x) refl (first_same stops xs ys)
  where
    go : (b : Bool) → stops x ≡ b → (SameUpTo stops xs ys → first_that stops xs ≡ first_that stops ys) → cond (stops x) (Some x) (first_that stops xs) ≡ cond (stops y) (Some y) (first_that stops ys)
    go true e ih = ap (λ c. cond c (Some x) (first_that stops xs)) e ∙ (ap Some h.0 ∙ sym (ap (λ c. cond c (Some y) (first_that stops ys)) (sym (ap stops h.0) ∙ e)))
    go false e ih = ap (λ c. cond c (Some x) (first_that stops xs)) e ∙ (ih (h.1 e) ∙ sym (ap (λ c. cond c (Some y) (first_that stops ys)) (sym (ap stops h.0) ∙ e)))

-- where no cell is consulted twice, the first visit that consults a cell is the only one

abbrev Apart : Cell → List Cell → Type 0
Apart c ds = AllByRecursion (λ d. same_cell c d ≡ false) ds

apart_left : (c : Cell) (xs ys : List Cell) → IsDistinct same_cell (xs ++ ys) → list_any (same_cell c) xs ≡ true → Apart c ys
unfolding IsDistinct
apart_left c [] ys d e = absurd (both_ways false refl e)
apart_left c (x ∷ xs) ys d e = go (same_cell c x) refl e (apart_left c xs ys d.1)
  where
    right : (zs : List Cell) → AllByRecursion (λ y. same_cell x y ≡ false) (zs ++ ys) → AllByRecursion (λ y. same_cell x y ≡ false) ys
    right [] h = h
    right (z ∷ zs) h = right zs h.1

    go : (b : Bool) → same_cell c x ≡ b → (b || list_any (same_cell c) xs) ≡ true → (list_any (same_cell c) xs ≡ true → Apart c ys) → Apart c ys
    go true k f ih = subst (λ z. Apart z ys) (sym (same_cell_exact c x k)) (right xs d.0)
    go false k f ih = ih f

apart_none : (c : Cell) (xs : List Cell) → Apart c xs → list_any (same_cell c) xs ≡ false
apart_none c [] h = refl
apart_none c (x ∷ xs) h = ap (λ b. b || list_any (same_cell c) xs) h.0 ∙ apart_none c xs h.1

apart_parts : (c : Cell) (xs ys : List Cell) → Apart c (xs ++ ys) → Apart c xs × Apart c ys
apart_parts c [] ys h = (tt, h)
apart_parts c (x ∷ xs) ys h = let r = apart_parts c xs ys h.1 in ((h.0, r.0), r.1)

module _ (g : Setting) where
  unconsulted : (c : Cell) (vs : List Visit) → Apart c (consulted g vs) → AllByRecursion (λ v. visit_consults g (same_cell c) v ≡ false) vs
  unfolding consulted
  unconsulted c [] h = tt
  unconsulted c (v ∷ vs) h = let r = apart_parts c (consulted_at g v.tree v.before) (consulted g vs) h in (apart_none c (consulted_at g v.tree v.before) r.0, unconsulted c vs r.1)

  abbrev pub IsFirst : List Visit → Visit → Type 0
  IsFirst vs v = (c : Cell) → visit_consults g (same_cell c) v ≡ true → first_that (visit_consults g (same_cell c)) vs ≡ Some v

  behind_first : (v : Visit) (vs us : List Visit) → ((c : Cell) → visit_consults g (same_cell c) v ≡ true → AllByRecursion (λ u. visit_consults g (same_cell c) u ≡ false) us) → AllByRecursion (IsFirst vs) us → AllByRecursion (IsFirst (v ∷ vs)) us
  behind_first v vs [] k h = tt
  behind_first v vs (u ∷ us) k h = (λ c e. go c e (visit_consults g (same_cell c) v) refl, behind_first v vs us (λ c e. (k c e).1) h.1)
    where
      go : (c : Cell) → visit_consults g (same_cell c) u ≡ true → (b : Bool) → visit_consults g (same_cell c) v ≡ b → first_that (visit_consults g (same_cell c)) (v ∷ vs) ≡ Some u
      go c e true f = absurd (both_ways _ (k c f).0 e)
      go c e false f = ap (λ b. cond b (Some v) (first_that (visit_consults g (same_cell c)) vs)) f ∙ h.0 c e

  pub firsts : (vs : List Visit) → IsDistinct same_cell (consulted g vs) → AllByRecursion (IsFirst vs) vs
  unfolding consulted
  firsts [] d = tt
  firsts (v ∷ vs) d = (
    λ c e. ap (λ b. cond b (Some v) (first_that (visit_consults g (same_cell c)) vs)) e,
    behind_first v vs vs (λ c e. unconsulted c vs (apart_left c (consulted_at g v.tree v.before) (consulted g vs) d e)) (firsts vs (distinct_right same_cell (consulted_at g v.tree v.before) (consulted g vs) d)),
  )

  -- the value of a term at the first visit that consults a cell

  abbrev pub value_at : Tree → Option Visit → ℕ
  value_at other None = 0
  value_at other (Some v) = value_here g v.before other

  abbrev pub value_when : Mode → Adversary → Tree → Tree → Cell → Tape → ℕ
  value_when m a game other c t = value_at other (first_that (visit_consults g (same_cell c)) (visits_of_run g m a game t))

  coins_agree : (x : ℕ) (w : List ℕ) (v : ℕ) (t : Tape) (k : ℕ) (ns : List ℕ) → AgreeAt (cells_of (coin_cells k ns)) (written t (New_at x w) v) t
  coins_agree x w v t k [] = tt
  coins_agree x w v t k (n ∷ ns) = (written_apart t (New_at x w) v (Coin k) refl, coins_agree x w v t (suc k) ns)

  pub value_ignores : IsLocal g.side → (m : Mode) (a : Adversary) (game other : Tree) (x : ℕ) (w : List ℕ) → Ignores (value_when m a game other (New_at x w)) (New_at x w)
  value_ignores local m a game other x w t v =
      let c : Cell = New_at x w in
      let agree : AgreeBut a (same_cell c) (written t c v) t = record { off = λ d e. written_apart t c v d (apart_back c d e); coins = coins_agree x w v t 0 a.coins } in
      ap (value_at other) (first_same (visit_consults g (same_cell c)) _ _ (visits_up_to g m a game (same_cell c) (written t c v) t local agree (λ u. refl)))
