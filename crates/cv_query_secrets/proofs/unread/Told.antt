-- The first test of a run that is told a random value, where one test is answered, and what the variable's cell has there.
use Rattle.std.proofs.Common.{◌≡◌, ℕ, zero, suc, Bool, true, false, cond, List, [], ◌∷◌, ◌++◌, map, Option, Some, None, is_some, refl, sym, ap, subst, ◌∙◌}
use Rattle.std.proofs.lemmas.Bool.{both_ways}
use Rattle.std.specs.List.{AllByRecursion, list_any}
use Rattle.cv_syntax_trees.specs.lists.Options.{first_of}
use Rattle.cv_syntax_trees.specs.declared.head.Head.TheVariants.{New, Find, Call}
use Rattle.cv_syntax_trees.specs.Declarations.{Declaration}
use Rattle.cv_syntax_trees.specs.Tree.{Tree, Empty, Node}
use Rattle.cv_meaning.specs.Tapes.{Tape, Test_at}
use Rattle.cv_meaning.specs.Interpretation.{Interpretation, Setting, setting_of}
use Rattle.cv_meaning.specs.Memory.{Local}
use Rattle.cv_meaning.specs.Serving.{Visit}
use Rattle.cv_meaning.specs.Consulted.{consulted_at}
use Rattle.cv_meaning.specs.Runs.{Random, Answer, Move, Calls, Tests, Guesses, State, Taken, admitted, called, moved, next_move, random_value, tested_with, visits_of_move}
use Rattle.cv_meaning_runs.specs.Agreement.{SameUpTo, consults}
use Rattle.cv_meaning_runs.specs.Moments.{Moment, Visited, Tested, moments_of_move, run_moments}
use Rattle.cv_query_secrets.proofs.unread.Swaps.{Choice, is_test}

module _ (x : ℕ) where
  abbrev told_with : List ℕ → Option ℕ → Option Choice
  told_with u None = None
  told_with u (Some v) = Some (u, v)

  abbrev pub told_at : Moment → Option Choice
  told_at (Visited v) = None
  told_at (Tested u st) = cond st.tested None (told_with u (st.memory.store x u))

  unfoldable pub first_told : List Moment → Option Choice
  first_told [] = None
  first_told (m ∷ ms) = first_of (told_at m) (first_told ms)

  -- where two lists of moments are the same up to the first that consults a test, they have one first

  abbrev Tells : Bool → Option Choice → Type 0
  Tells true o = is_some o ≡ true
  Tells false o = o ≡ None

  first_same : (stops : Moment → Bool) → ((m : Moment) → Tells (stops m) (told_at m)) → (ms ns : List Moment) → SameUpTo stops ms ns → first_told ms ≡ first_told ns
  unfolding first_told
  first_same stops h [] [] e = refl
  first_same stops h [] (n ∷ ns) e = absurd e
  first_same stops h (m ∷ ms) [] e = absurd e
  first_same stops h (m ∷ ms) (n ∷ ns) e = go (stops m) refl (told_at m) refl (λ k. first_same stops h ms ns (e.1 k))
    where
      here : told_at n ≡ told_at m
      here = ap told_at (sym e.0)

      go : (b : Bool) → stops m ≡ b → (o : Option Choice) → told_at m ≡ o → (stops m ≡ false → first_told ms ≡ first_told ns) → first_of o (first_told ms) ≡ first_of (told_at n) (first_told ns)
      go b k (Some r) i ih = ap (λ q. first_of q (first_told ns)) (sym (here ∙ i))
      go true k None i ih = absurd (both_ways false refl (subst (λ (p : Bool × Option Choice). Tells p.0 p.1) (λ j. (k j, i j)) (h m)))
      go false k None i ih = ih k ∙ ap (λ q. first_of q (first_told ns)) (sym (here ∙ i))

  module _ (ds : List Declaration) (i : Interpretation) where
    abbrev g : Setting
    g = setting_of ds i

    visit_untold : (t : Tree) (s : Local) → list_any is_test (consulted_at g t s) ≡ false
    visit_untold Empty s = refl
    visit_untold (Node (New y T) a b) s = refl
    visit_untold (Node (Find l) a b) s = refl
    visit_untold (Node (Call y l) a b) s = refl
    visit_untold (Node h a b) s = refl

    tells : (m : Moment) → Tells (consults g (Random true x) is_test m) (told_at m)
    tells (Visited v) = subst (λ b. Tells b None) (sym (visit_untold v.tree v.before)) refl
    tells (Tested u st) = go st.tested (st.memory.store x u)
      where
        go : (b : Bool) (o : Option ℕ) → Tells (list_any is_test (cond b [] (cond (is_some o) (Test_at u ∷ []) []))) (cond b None (told_with u o))
        go true o = refl
        go false None = refl
        go false (Some v) = refl

    pub one_first : (ms ns : List Moment) → SameUpTo (consults g (Random true x) is_test) ms ns → first_told ms ≡ first_told ns
    one_first = first_same (consults g (Random true x) is_test) tells

    -- after a test that is told no other one is

    abbrev NoneTold : List Moment → Type 0
    NoneTold ms = AllByRecursion (λ m. told_at m ≡ None) ms

    abbrev ToldOnce : List Moment → Type 0
    ToldOnce [] = Unit {0}
    ToldOnce (m ∷ ms) = (is_some (told_at m) ≡ true → NoneTold ms) × ToldOnce ms

    none_visited : (vs : List Visit) (ms : List Moment) → NoneTold ms → NoneTold (map Visited vs ++ ms)
    none_visited [] ms e = e
    none_visited (v ∷ vs) ms e = (refl, none_visited vs ms e)

    once_visited : (vs : List Visit) (ms : List Moment) → ToldOnce ms → ToldOnce (map Visited vs ++ ms)
    once_visited [] ms e = e
    once_visited (v ∷ vs) ms e = (λ f. absurd (both_ways false refl f), once_visited vs ms e)

    module _ (next : List Answer → Option Move) (t : Tape) where
      call_tested : (st : State) (vs : List ℕ) (o : Option Taken) → st.tested ≡ true → (called g t st vs o).tested ≡ true
      call_tested st vs None e = e
      call_tested st vs (Some k) e = e

      told_tested : (st : State) (o : Option ℕ) → st.tested ≡ true → (tested_with st o).tested ≡ true
      told_tested st None e = e
      told_tested st (Some v) e = refl

      stays_tested : (st : State) (a : Move) → st.tested ≡ true → (moved g (Random true x) t st a).tested ≡ true
      unfolding moved
      stays_tested st (Calls c u vs) e = call_tested st vs (admitted g c u vs st.inputs) e
      stays_tested st (Tests u) e = told_tested st (cond st.tested None (random_value t st x u)) e
      stays_tested st (Guesses b) e = e

      abbrev moments : ℕ → State → List Moment
      moments n st = run_moments g (Random true x) next t n st

      -- from a state in which a test was answered on
      none_later : (n : ℕ) (st : State) → st.tested ≡ true → NoneTold (moments n st)
      unfolding run_moments moments_of_move
      none_later zero st e = tt
      none_later (suc n) st e = go (next_move next st) (λ a. none_later n (moved g (Random true x) t st a) (stays_tested st a e))
        where
          go : (o : Option Move) → ((a : Move) → NoneTold (moments n (moved g (Random true x) t st a))) → NoneTold (elim o [ None ↦ [] | Some a ↦ moments_of_move g t st a ++ moments n (moved g (Random true x) t st a) ])
          go None ih = tt
          go (Some (Calls c u vs)) ih = none_visited (visits_of_move g t st (Calls c u vs)) _ (ih (Calls c u vs))
          go (Some (Tests u)) ih = (ap (λ b. cond b None (told_with u (st.memory.store x u))) e, ih (Tests u))
          go (Some (Guesses b)) ih = ih (Guesses b)

      test_tested : (st : State) (u : List ℕ) → is_some (told_at (Tested u st)) ≡ true → (moved g (Random true x) t st (Tests u)).tested ≡ true
      unfolding moved
      test_tested st u = go st.tested (st.memory.store x u)
        where
          go : (b : Bool) (o : Option ℕ) → is_some (cond b None (told_with u o)) ≡ true → (tested_with st (cond b None (cond (is_some o) (Some (t (Test_at u))) None))).tested ≡ true
          go true o f = absurd (both_ways false refl f)
          go false None f = absurd (both_ways false refl f)
          go false (Some v) f = refl

      told_once : (n : ℕ) (st : State) → ToldOnce (moments n st)
      unfolding run_moments moments_of_move
      told_once zero st = tt
      told_once (suc n) st = go (next_move next st) (λ a. told_once n (moved g (Random true x) t st a))
        where
          go : (o : Option Move) → ((a : Move) → ToldOnce (moments n (moved g (Random true x) t st a))) → ToldOnce (elim o [ None ↦ [] | Some a ↦ moments_of_move g t st a ++ moments n (moved g (Random true x) t st a) ])
          go None ih = tt
          go (Some (Calls c u vs)) ih = once_visited (visits_of_move g t st (Calls c u vs)) _ (ih (Calls c u vs))
          go (Some (Tests u)) ih = (λ f. none_later n (moved g (Random true x) t st (Tests u)) (test_tested st u f), ih (Tests u))
          go (Some (Guesses b)) ih = ih (Guesses b)

    -- so a test that is told is the first one

    abbrev IsFirst : Option Choice → Moment → Type 0
    IsFirst o m = (r : Choice) → told_at m ≡ Some r → o ≡ Some r

    first_is : (ms : List Moment) → ToldOnce ms → AllByRecursion (IsFirst (first_told ms)) ms
    unfolding first_told
    first_is [] e = tt
    first_is (m ∷ ms) e = go (told_at m) refl (first_is ms e.1)
      where
        none : (ns : List Moment) → NoneTold ns → (o : Option Choice) → AllByRecursion (IsFirst o) ns
        none [] f o = tt
        none (n ∷ ns) f o = (λ r k. absurd (let z = sym f.0 ∙ k in cc), none ns f.1 o)

        go : (o : Option Choice) → told_at m ≡ o → AllByRecursion (IsFirst (first_told ms)) ms → AllByRecursion (IsFirst (first_of o (first_told ms))) (m ∷ ms)
        go None k ih = (λ r f. absurd (let z = sym k ∙ f in cc), ih)
        go (Some q) k ih = (λ r f. sym k ∙ f, none ms (e.0 (ap is_some k)) (Some q))

    pub first_in_run : (next : List Answer → Option Move) (t : Tape) (n : ℕ) (st : State) → AllByRecursion (IsFirst (first_told (run_moments g (Random true x) next t n st))) (run_moments g (Random true x) next t n st)
    first_in_run next t n st = first_is (moments next t n st) (told_once next t n st)
