-- What the games of a report have in common: no adversary tells one from the first by more than the costs of the steps
-- between them. Sequences of games are those of Blanchet, TDSC 2008.
use Rattle.std.specs.Prelude.{◌≡◌, ℕ, ◌+◌, List, [], map, take, Some, IfSome, slice_get}
use Rattle.cv_bound.specs.declared.terms.Term.{Term}
use Rattle.cv_steps.specs.values.Values.{sum_value}
use Rattle.cv_meaning.specs.Advantage.{IsAsked, chance_of}
use Rattle.cv_meaning.specs.Chances.{AtMost, Chance, distance}
use Rattle.cv_meaning.specs.Experiments.{Experiment}
use Rattle.cv_meaning.specs.Interpretation.{Interpretation, setting_of}
use Rattle.cv_meaning.specs.Runs.{Adversary}
use Rattle.cv_meaning.specs.Satisfies.{Satisfies}
use Rattle.cv_meaning.specs.Queries.{queries_in}
use Rattle.cv_meaning_chances.specs.Fractions.{HasTapes}
use Rattle.cv_follow.specs.Courses.{Course}
use Rattle.cv_kernel.specs.Proofs.{Transition}
use Rattle.cv_report.specs.declared.report.Report.{Report}
use Rattle.cv_sequences.specs.Chains.{summed}
use Rattle.cv_syntax.specs.declared.work.File.{File}
use Rattle.cv_syntax_trees.specs.Declarations.{Declaration}
use Rattle.cv_syntax_trees.specs.Tree.{Tree}
use Rattle.cv.specs.Contexts.{contexts_of}
use Rattle.cv.specs.Strategy.{Leads, declared_in, game_in}
use Rattle.cv.specs.Values.{Contexts, advantages_in}

-- Each has tapes, so that it is a number, and the first two differ by at most the third.
abbrev pub AreWithin : (p q value : Chance) → Type 0
AreWithin p q value = HasTapes p × HasTapes q × HasTapes value × AtMost (distance p q) value

-- In each experiment for which a query of the file asks, no adversary tells the games by more than the sum, in which the advantages
-- are those of the contexts in that experiment.
abbrev pub IsWithin : List Declaration → Contexts → (first next : Tree) → List Term → Type 0
IsWithin ds cs first next sum =
    (i : Interpretation) → Satisfies ds i → (x : Experiment) → IsAsked (queries_in ds) x → (a : Adversary)
    → AreWithin (chance_of (setting_of ds i) x a first) (chance_of (setting_of ds i) x a next) (sum_value i (advantages_in ds i cs x a) sum)

-- So it is with the game of the file and that of each step of a course, by the costs of the steps through it.
abbrev pub AreClose : Report → File → Course → Type 0
AreClose r f c =
    (k : ℕ) (t : Transition) → slice_get c.proof k ≡ Some t
    → IsWithin (declared_in r) (contexts_of r f c) (game_in r f) t.next (summed [] (map (λ u. u.cost) (take (k + 1) c.proof)))

abbrev pub HasCloseGames : Report → Type 0
HasCloseGames r = IfSome r.file (λ f. (c : Course) → Leads r f c → AreClose r f c)
