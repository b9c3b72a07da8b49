-- What the line of a step's context says holds of each run of the context, with either side of the equivalence: it chooses as many keys, and
-- calls each function as often, as the line says at most. Blanchet and Pointcheval, CRYPTO 2006.
use Rattle.std.specs.Prelude.{◌≡◌, ℕ, suc, List, Some, IfSome, MatchOption, slice_get}
use Rattle.cv_context.specs.products.Shapes.{Shape}
use Rattle.cv_context_files.specs.counts.Counts.{IsWithinShape}
use Rattle.cv_meaning.specs.Experiments.{visits_of_run}
use Rattle.cv_meaning.specs.Interpretation.{Interpretation, setting_with}
use Rattle.cv_meaning.specs.Runs.{Adversary, Mode}
use Rattle.cv_meaning.specs.Tapes.{Tape}
use Rattle.cv_meaning.specs.contexts.Groups.{Which}
use Rattle.cv_meaning.specs.contexts.Sides.{Context, side_of}
use Rattle.cv_follow.specs.Courses.{Course}
use Rattle.cv_kernel.specs.Proofs.{Transition}
use Rattle.cv_report.specs.declared.report.Report.{Report}
use Rattle.cv_syntax.specs.declared.work.File.{File}
use Rattle.cv_syntax_trees.specs.Declarations.{Declaration}
use Rattle.cv.specs.Contexts.{contexts_of}
use Rattle.cv.specs.Strategy.{Leads, declared_in}
use Rattle.cv.specs.Values.{context_of}

-- each run of a context with either side is within the numbers of a line
abbrev pub AreBounded : List Declaration → Shape → Context → Type 0
AreBounded ds h c =
    (i : Interpretation) (which : Which) (m : Mode) (a : Adversary) (t : Tape)
    → IsWithinShape i c.functions h (visits_of_run (setting_with ds i (side_of ds i c which)) m a c.game t)

-- So it is of each step of a course that has such a line: its context is there.
abbrev pub AreBoundedCalls : Report → File → Course → Type 0
AreBoundedCalls r f c =
    (k : ℕ) (t : Transition) (h : Shape) → slice_get c.proof k ≡ Some t → t.context ≡ Some h
    → MatchOption (context_of (contexts_of r f c) (suc k)) ⊥ (AreBounded (declared_in r) h)

abbrev pub HasBoundedCalls : Report → Type 0
HasBoundedCalls r = IfSome r.file (λ f. (c : Course) → Leads r f c → AreBoundedCalls r f c)
