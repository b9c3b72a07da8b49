-- Two runs of a game that reads no value of a variable, on tapes that differ at a cell of the variable alone; and one run beside itself:
-- what is assigned of the variable is what its cell holds.
use Rattle.std.proofs.Common.{◌≡◌, ℕ, suc, ◌==◌, ◌&&◌, not, Bool, true, cond, List, [], ◌∷◌, flat_map, Option, Some, None, is_some, refl, sym, ap, ap₂, ◌∙◌}
use Rattle.std.specs.List.{AllByRecursion}
use Rattle.cv_syntax_trees.specs.Tree.{Tree}
use Rattle.cv_meaning.specs.Cells.{cells, coin_cells}
use Rattle.cv_meaning.specs.Consulted.{IsListed}
use Rattle.cv_meaning.specs.Experiments.{visits_of_run}
use Rattle.cv_meaning.specs.Interpretation.{Setting}
use Rattle.cv_meaning.specs.Runs.{Adversary, Events, Mode, Random, Real, State, told}
use Rattle.cv_meaning.specs.Serving.{Visit}
use Rattle.cv_meaning.specs.Tapes.{Cell, Coin, Find_at, New_at, Tape, Test_at, cells_of, is_in, same_tuple, written}
use Rattle.cv_meaning_chances.proofs.Within.{written_apart}
use Rattle.cv_meaning_chances.specs.unread.Dropping.{IsUntested}
use Rattle.cv_meaning_runs.specs.Agreement.{AgreeAt}
use Rattle.cv_meaning_runs.specs.Listed.{IsTestable}
use Rattle.cv_meaning_runs.specs.Moments.{Moment, cells_of_moment, moments_of_run}
use Rattle.cv_meaning_runs.specs.Replacement.{Process}
use Rattle.cv_meaning_runs.specs.Simulation.{AreAlike, InOrder}
use Rattle.cv_meaning_runs.proofs.Listed.{cells_listed}
use Rattle.cv_costs.specs.quiet.Quiet.{IsQuiet, only}
use Rattle.cv_costs.specs.quiet.Twins.{AgreesBut, AreOne, AreRelated, AreVisitsRelated}
use Rattle.cv_costs.proofs.quiet.Served.{visits_related}
use Rattle.cv_syntax_trees.proofs.lists.Each.{AllByRecursion_left, AllByRecursion_right, AllByRecursion_trivial, AllByRecursion_weaker}
use Rattle.cv_syntax_trees.proofs.lists.Tests.{or_false}

in_order_self : {A : Type 0} (R : A → A → Type 0) (vs : List A) → InOrder R vs vs → AllByRecursion (λ v. R v v) vs
in_order_self R [] h = tt
in_order_self R (v ∷ vs) h = (h.0, in_order_self R vs h.1)

unflat : {A B : Type 0} (P : B → Type 0) (f : A → List B) (xs : List A) → AllByRecursion P (flat_map f xs) → AllByRecursion (λ x. AllByRecursion P (f x)) xs
unflat P f [] h = tt
unflat P f (x ∷ xs) h = (AllByRecursion_left P (f x) (flat_map f xs) h, unflat P f xs (AllByRecursion_right P (f x) (flat_map f xs) h))

-- a value that is assigned is that of a listed cell
abbrev pub Drawn : List (Cell × ℕ) → Tape → ℕ → List ℕ → Option ℕ → Option ℕ → Type 0
Drawn cs t y w o q = (o ≡ q) × ((r : ℕ) → o ≡ Some r → (r ≡ t (New_at y w)) × (is_in cs (New_at y w) ≡ true))

-- a value is assigned in both runs or in none
abbrev pub BothThere : ℕ → List ℕ → Option ℕ → Option ℕ → Type 0
BothThere y w o q = is_some o ≡ is_some q

module _ (g : Setting) (x : ℕ) (m : Mode) (untested : IsUntested (only x).unread m) (a : Adversary) (next : Tree) (quiet : IsQuiet (only x) [] Process next) where
  abbrev xs : ℕ → Bool
  xs = (only x).unread

  tells : (K : ℕ → List ℕ → Option ℕ → Option ℕ → Type 0) (t u : Tape) → ((w : List ℕ) → t (Test_at w) ≡ u (Test_at w)) → (n : Mode) → IsUntested xs n → (p r : State) → AreAlike (AgreesBut xs K) (AreOne (only x)) p r → (w : List ℕ) → told n t p w ≡ told n u r w
  tells K t u f Events e p r s w = refl
  tells K t u f (Real one n) e p r s w = ap₂ (λ (b : Bool) (v : Option ℕ). cond (one && b) None v) s.tested (s.memory.store.others n w (ap not e))
  tells K t u f (Random one n) e p r s w = λ j. cond (one && s.tested j) None (cond (is_some (s.memory.store.others n w (ap not e) j)) (Some (f w j)) None)

  -- one run

  abbrev cs : List (Cell × ℕ)
  cs = cells g m a next

  abbrev AreListed : Moment → Type 0
  AreListed k = AllByRecursion (IsListed cs) (cells_of_moment g m k)

  moments_listed : IsTestable m next → (t : Tape) → AllByRecursion AreListed (moments_of_run g m a next t)
  moments_listed h t = unflat (IsListed cs) (cells_of_moment g m) (moments_of_run g m a next t) (AllByRecursion_right (IsListed cs) (cells_of (coin_cells 0 a.coins)) _ (cells_listed g m a next t h))

  coins_self : (t : Tape) (k : ℕ) (ns : List ℕ) → AgreeAt (cells_of (coin_cells k ns)) t t
  coins_self t k [] = tt
  coins_self t k (n ∷ ns) = (refl, coins_self t (suc k) ns)

  some_same : (v w : ℕ) → ◌≡◌ {A = Option ℕ} (Some v) (Some w) → v ≡ w
  some_same v w e = cc

  no_value : (r : ℕ) → ◌≡◌ {A = Option ℕ} None (Some r) → ⊥
  no_value r e = cc

  abbrev pub HasDrawn : Tape → Visit → Type 0
  HasDrawn t v = AreRelated xs (Drawn cs t) v.before.memory.store v.before.memory.store

  pub drawn : IsTestable m next → (t : Tape) → AllByRecursion (HasDrawn t) (visits_of_run g m a next t)
  drawn h t =
      AllByRecursion_weaker (λ v. AreVisitsRelated xs (Drawn cs t) v v) (HasDrawn t) (λ v r. r.memory.store) (visits_of_run g m a next t)
      (in_order_self (AreVisitsRelated xs (Drawn cs t)) (visits_of_run g m a next t)
      (visits_related (only x) (Drawn cs t) (λ y w o q e. ap is_some e.0) g t t AreListed
      (λ y T p c b at z f i e. (refl, λ r j. (sym (some_same _ r j), e.0 refl)))
      (λ y T p c b at z n f i e. absurd f)
      (λ y w e. refl) (λ l w. refl) m m (λ p r s w e. tells (Drawn cs t) t t (λ v. refl) m untested p r s w) a next quiet
      (λ y w. (refl, λ r e. absurd (no_value r e))) (coins_self t 0 a.coins) (moments_listed h t)))

  -- two runs

  coins_written : (w : List ℕ) (v : ℕ) (t : Tape) (k : ℕ) (ns : List ℕ) → AgreeAt (cells_of (coin_cells k ns)) (written t (New_at x w) v) t
  coins_written w v t k [] = tt
  coins_written w v t k (n ∷ ns) = (written_apart t (New_at x w) v (Coin k) refl, coins_written w v t (suc k) ns)

  pub related : (t : Tape) (w : List ℕ) (v : ℕ) → InOrder (AreVisitsRelated xs BothThere) (visits_of_run g m a next (written t (New_at x w) v)) (visits_of_run g m a next t)
  related t w v =
      visits_related (only x) BothThere (λ y u o q e. e) g (written t (New_at x w) v) t (λ k. Unit {0})
      (λ y T p c b at z f i e. refl)
      (λ y T p c b at z n f i e. absurd f)
      (λ y u e. written_apart t (New_at x w) v (New_at y u) (ap (λ b. b && same_tuple u w) (sym (or_false (y == x)) ∙ e)))
      (λ l u. written_apart t (New_at x w) v (Find_at l u) refl) m m
      (λ p r s u e. tells BothThere (written t (New_at x w) v) t (λ z. written_apart t (New_at x w) v (Test_at z) refl) m untested p r s u) a next quiet
      (λ y u. refl) (coins_written w v t 0 a.coins) (AllByRecursion_trivial (moments_of_run g m a next (written t (New_at x w) v)))
