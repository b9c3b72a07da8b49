-- What each step of a report does by itself: its two games differ by at most its own cost, and those of a cryptographic step are its context
-- with either side. Contexts are those of Blanchet and Pointcheval, CRYPTO 2006.
use Rattle.std.specs.Prelude.{◌≡◌, ℕ, false, List, map, take, None, Some, IfSome, MatchOption, slice_get}
use Rattle.cv_bound.specs.declared.cost.Collision.{Collision}
use Rattle.cv_bound.specs.declared.cost.Cost.{Cost}
use Rattle.cv_bound.specs.declared.cost.Cost.TheVariants.{Advantage, Collisions, Zero}
use Rattle.cv_steps.specs.values.Values.{collision_value, cost_value}
use Rattle.cv_meaning.specs.Advantage.{IsAsked, chance_of}
use Rattle.cv_meaning.specs.Chances.{AtMost, Chance, Same, distance}
use Rattle.cv_meaning.specs.Experiments.{Experiment}
use Rattle.cv_meaning.specs.Interpretation.{Interpretation, setting_of}
use Rattle.cv_meaning.specs.Queries.{queries_in}
use Rattle.cv_meaning.specs.Runs.{Adversary}
use Rattle.cv_meaning.specs.Satisfies.{Satisfies}
use Rattle.cv_meaning_chances.specs.Fractions.{HasTapes, sum_of}
use Rattle.cv_meaning.specs.contexts.ContextAdvantage.{context_chance}
use Rattle.cv_meaning.specs.contexts.Groups.{Left, Right}
use Rattle.cv_follow.specs.Courses.{Course}
use Rattle.cv_kernel.specs.Closings.{closing_in}
use Rattle.cv_kernel.specs.Proofs.{Transition}
use Rattle.cv_report.specs.declared.report.Report.{Report}
use Rattle.cv_syntax.specs.declared.work.File.{File}
use Rattle.cv_syntax_trees.specs.Declarations.{Declaration}
use Rattle.cv_syntax_trees.specs.Tree.{Tree}
use Rattle.cv.specs.Contexts.{contexts_of, game_along}
use Rattle.cv.specs.Games.{AreWithin}
use Rattle.cv.specs.Strategy.{Leads, declared_in, game_in}
use Rattle.cv.specs.Values.{Contexts, advantages_in, context_of}

-- Each has tapes, so that it is a number, and they are the same.
abbrev pub AreEqual : Chance → Chance → Type 0
AreEqual p q = HasTapes p × HasTapes q × Same p q

-- The chances of collisions are a number together, whatever the contexts are, and the two differ by at most that.
abbrev pub AreApart : Interpretation → List Collision → (before behind : Chance) → Type 0
AreApart i cs p q = HasTapes p × HasTapes q × HasTapes (sum_of (map (collision_value i) cs)) × AtMost (distance p q) (sum_of (map (collision_value i) cs))

-- What a cost says of the chances before and behind a step: none, that they are the same; collisions, that they differ by at most the chances
-- of these; an advantage, that they are those of the step's context, which is there, with the left and with the right side.
abbrev pub AreFrom : List Declaration → Interpretation → Contexts → Experiment → Adversary → Cost → (before behind : Chance) → Type 0
AreFrom ds i cs x a Zero p q = AreEqual p q
AreFrom ds i cs x a (Collisions c) p q = AreApart i c p q
AreFrom ds i cs x a (Advantage step e) p q = MatchOption (context_of cs step) ⊥ (λ c. AreEqual p (context_chance ds i c Left x a) × AreEqual q (context_chance ds i c Right x a))

-- Besides they differ by at most its value.
abbrev pub AreOfCost : List Declaration → Interpretation → Contexts → Experiment → Adversary → Cost → (before behind : Chance) → Type 0
AreOfCost ds i cs x a cost p q = AreWithin p q (cost_value i (advantages_in ds i cs x a) cost false) × AreFrom ds i cs x a cost p q

-- So it is with the chances of two games, in each experiment for which a query of the file asks, against each adversary.
abbrev pub IsCloseStep : List Declaration → Contexts → (game next : Tree) → Cost → Type 0
IsCloseStep ds cs game next cost =
    (i : Interpretation) → Satisfies ds i → (x : Experiment) → IsAsked (queries_in ds) x → (a : Adversary)
    → AreOfCost ds i cs x a cost (chance_of (setting_of ds i) x a game) (chance_of (setting_of ds i) x a next)

-- So it is with the game of each step of a course and the game that the steps before it lead to.
abbrev pub AreCloseSteps : Report → File → Course → Type 0
AreCloseSteps r f c =
    (k : ℕ) (t : Transition) → slice_get c.proof k ≡ Some t → closing_in t.step ≡ None
    → IsCloseStep (declared_in r) (contexts_of r f c) (game_along (game_in r f) (take k c.proof)) t.next t.cost

abbrev pub HasCloseSteps : Report → Type 0
HasCloseSteps r = IfSome r.file (λ f. (c : Course) → Leads r f c → AreCloseSteps r f c)
