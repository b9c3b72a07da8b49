-- Steps that were found, given back as a proof block. This profile's own.
use Rattle.std.specs.Prelude.{◌≡◌, ℕ, Bool, true, false, List, [], ◌∷◌, map, Option, Some, None}
use Rattle.cv_library.specs.Givens.{Given}
use Rattle.cv_syntax.specs.declared.work.File.{File}
use Rattle.cv_syntax_trees.specs.Tree.{Tree}
use Rattle.cv_accept.specs.Accepted.{Content}
use Rattle.cv_report.specs.declared.report.Report.{Report}
use Rattle.cv_script.specs.Views.{StepItems, items_of_step}
use Rattle.cv_script.specs.Views as items
use Rattle.cv_follow.specs.Courses.{Course}
use Rattle.cv_follow.specs.Fillings.{has_word}
use Rattle.cv_follow_laws.specs.Reports.{IsReportOf, file_in}

-- the steps of a course
abbrev pub steps_of : Course → List Tree
steps_of c = map (λ t. t.step) c.proof

-- what a file holds, with these steps as its proof block and no name more
abbrev pub with_block : List Tree → Content → Content
with_block steps c = record c { script = Some steps }

-- a step that gives names
abbrev pub gives_names : Option StepItems → Bool
gives_names (Some (items.ArrayRename x to)) = true
gives_names o = false

abbrev pub AreNameless : List Tree → Type 0
AreNameless [] = Unit {0}
AreNameless (step ∷ steps) = (gives_names (items_of_step step) ≡ false) × AreNameless steps

-- The one file has no proof block, and the other is the same with the steps that were found for it as its block. It has no name more, so
-- these steps name nothing that was drawn; and none of them gives names.
pub record AreGivenBack (source other : Given) (r q : Report) (f g : File) (w : IsReportOf source r f) (v : IsReportOf other q g) : Type 0 where
  pub without : (file_in r f w.names).script ≡ None
  pub block : file_in q g v.names ≡ with_block (steps_of w.course) (file_in r f w.names)
  pub plain : has_word (steps_of w.course) ≡ false
  pub nameless : AreNameless (steps_of w.course)
