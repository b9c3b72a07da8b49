-- The run in which tests tell random values, and the run in which they tell a variable's own, on two tapes.
use Rattle.std.proofs.Common.{◌≡◌, ℕ, suc, ◌==◌, ◌&&◌, ◌||◌, Bool, true, false, cond, not, List, [], ◌∷◌, Option, Some, None, is_some, refl, sym, ap, ap₂, ◌∙◌, eqb-true}
use Rattle.std.proofs.lemmas.Bool.{both_ways, eq-eqb}
use Rattle.cv_syntax_trees.specs.declared.head.Head.{Head}
use Rattle.cv_syntax_trees.specs.Tree.{Tree, second}
use Rattle.cv_meaning.specs.Tapes.{Tape, New_at, Test_at, cells_of}
use Rattle.cv_meaning.specs.Interpretation.{Setting}
use Rattle.cv_meaning.specs.Memory.{tuple}
use Rattle.cv_meaning.specs.Runs.{Real, Random, Adversary, State, told}
use Rattle.cv_meaning.specs.Cells.{coin_cells}
use Rattle.cv_meaning.specs.Experiments.{Guesses, holds_on}
use Rattle.cv_meaning_runs.specs.Agreement.{AgreeAt}
use Rattle.cv_meaning_runs.specs.Moments.{moments_of_run}
use Rattle.cv_meaning_runs.specs.Replacement.{Process}
use Rattle.cv_meaning_runs.specs.Simulation.{AreAlike}
use Rattle.cv_scope_rules.specs.Made.{is_bound, made_by}
use Rattle.cv_scope_rules.specs.Phrases.{Inputs, is_phrase}
use Rattle.cv_scope_rules.specs.Sites.{Variable}
use Rattle.cv_query_certificates.specs.Secrets.{AreUnreadChoices, first_definition_but, is_choice}
use Rattle.cv_query_secrets.specs.unread.Exchanged.{exchanged_on}
use Rattle.cv_costs.specs.quiet.Quiet.{IsQuiet, only}
use Rattle.cv_costs.specs.quiet.Twins.{Link}
use Rattle.cv_costs.proofs.quiet.Served.{But, One, guesses}
use Rattle.cv_costs.proofs.quiet.Shapes.{one_of}
use Rattle.cv_syntax_trees.proofs.lists.Tests.{or_false}
use Rattle.cv_syntax_trees.proofs.lists.Each.{AllByRecursion_trivial}

module _ (g : Setting) (one : Bool) (x : ℕ) (t : Tape) where
  -- where the first run has assigned the variable, the second has the test's value
  abbrev Told : Link
  Told y w o q = q ≡ cond (is_some o) (Some (t (Test_at w))) None

  linked : (y : ℕ) (w : List ℕ) (o q : Option ℕ) → Told y w o q → is_some o ≡ is_some q
  linked y w None q e = sym (ap is_some e)
  linked y w (Some v) q e = sym (ap is_some e)

  draws : (y : ℕ) (w : List ℕ) → one_of x (x ∷ []) y ≡ true → Told y w (Some (t (New_at y w))) (Some (exchanged_on x t (New_at y w)))
  draws y w e = ap (λ b. Some (t (cond b (Test_at w) (New_at y w)))) (sym (or_false (y == x)) ∙ e)

  others : (y : ℕ) (w : List ℕ) → one_of x (x ∷ []) y ≡ false → t (New_at y w) ≡ exchanged_on x t (New_at y w)
  others y w e = sym (ap (λ b. t (cond b (Test_at w) (New_at y w))) (sym (or_false (y == x)) ∙ e))

  tells : (r s : State) → AreAlike (But (only x) Told linked) (One (only x) Told linked) r s → (w : List ℕ) → Unit {0} → told (Random one x) t r w ≡ told (Real one x) (exchanged_on x t) s w
  tells r s l w v = ap₂ (λ b o. cond (one && b) None o) l.tested (sym (l.memory.store.own x (or_false (x == x) ∙ eq-eqb x x refl) w))

  coins_kept : (k : ℕ) (ns : List ℕ) → AgreeAt (cells_of (coin_cells k ns)) t (exchanged_on x t)
  coins_kept k [] = tt
  coins_kept k (n ∷ ns) = (refl, coins_kept (suc k) ns)

  pub holds_exchanged : (a : Adversary) (game : Tree) → IsQuiet (only x) [] Process game → holds_on g (Guesses (Random one x)) a game t ≡ holds_on g (Guesses (Real one x)) a game (exchanged_on x t)
  holds_exchanged a game q =
      guesses (only x) Told linked g t (exchanged_on x t) (λ m. Unit {0}) (λ y T p a b at m f e v. draws y (tuple at) e) (λ y T p a b at m n f o v. absurd f) others (λ l w. refl) (Random one x) (Real one x) tells a game q
      (λ y w. refl) (coins_kept 0 a.coins) (AllByRecursion_trivial (moments_of_run g (Random one x) a game t))
