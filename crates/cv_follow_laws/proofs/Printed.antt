-- The text of a report, but for the last line, is told by its source and how many steps there are.
use Rattle.std.proofs.Common.{◌≡◌, ℕ, List, [], ◌∷◌, ◌++◌, length, take, Option, Some, refl, ap, ap₂, sym, ◌∙◌}
use Rattle.std.specs.List.{flat_map}
use Rattle.cv_library.specs.Givens.{Given}
use Rattle.cv_pool.specs.KindTree.{KindTree}
use Rattle.cv_syntax.specs.declared.work.File.{File}
use Rattle.cv_syntax.specs.PoolTrees.{tree_at}
use Rattle.cv_syntax.specs.Declarations.{declarations, declared}
use Rattle.cv_syntax.specs.declared.decls.Decl.{Decl}
use Rattle.cv_syntax.specs.declared.decls.Decl.TheVariants as decl
use Rattle.cv_syntax_trees.specs.Declarations.{Declaration, Named}
use Rattle.cv_syntax_trees.specs.declared.class.Class.TheVariants as class
use Rattle.cv_accept.specs.Accepted.{Content}
use Rattle.cv_report.specs.declared.report.Report.{Report}
use Rattle.cv_report.specs.declared.report.Verdict.{Verdict}
use Rattle.cv_report.specs.Lines.{lines_text}
use Rattle.cv_report.specs.Text.{verdicts_asked}
use Rattle.cv_costs.specs.Factors.{parameter_in, parameters_in}
use Rattle.cv_follow.specs.Courses.{Course, lines_of}
use Rattle.cv_follow_laws.specs.Reports.{AreFront, IsReportOf, body_text, file_in, query_in}
use Rattle.cv_follow_laws.proofs.Alike.{course_is, file_is, names_are, verdicts_are}

-- the parameters that are declared are those of the declarations over the trees

abbrev pub parameter_of : Declaration → List ℕ
parameter_of (Named x class.Param arguments result) = x ∷ []
parameter_of d = []

parameter_is : (trees : List KindTree) (d : Decl) → parameter_in d ≡ parameter_of (declared trees d)
parameter_is trees (decl.Name id class.Param arguments result) = refl
parameter_is trees (decl.Name id c arguments result) = refl
parameter_is trees (decl.Equation n) = refl
parameter_is trees (decl.Equiv id n) = refl
parameter_is trees (decl.Query n) = refl

pub parameters_are : (trees : List KindTree) (ds : List Decl) → parameters_in ds ≡ flat_map parameter_of (declarations trees ds)
parameters_are trees [] = refl
parameters_are trees (d ∷ ds) = ap₂ ◌++◌ (parameter_is trees d) (parameters_are trees ds)

module _ (source : Given) (r q : Report) (f g : File) (w : IsReportOf source r f) (v : IsReportOf source q g) (front : AreFront r w.course v.course) where
  order_is : parameters_in r.work.decls.list ≡ parameters_in q.work.decls.list
  order_is =
      parameters_are r.work.pool.trees r.work.decls.list
      ∙ (ap (λ (c : Content). flat_map parameter_of c.declarations) (file_is source r q f g w v)
      ∙ sym (parameters_are q.work.pool.trees q.work.decls.list))

  pub body_is : query_in r.command ≡ query_in q.command → length w.course.proof ≡ length v.course.proof → body_text r f w.names w.course ≡ body_text q g v.names v.course
  body_is asked l =
      let names = names_are source r q f g w v front l in
      let lines = ap₂ (λ (c : Content) (k : Course). lines_text (lines_of c.names (parameters_in r.work.decls.list) c.game k)) (file_is source r q f g w v) (course_is source r q f g w v front l)
      ∙ ap (λ (ps : List ℕ). lines_text (lines_of (take v.names q.work.names) ps (tree_at q.work.pool.trees (Some g.game.root)) v.course)) order_is in
      ap₂ ◌++◌ lines (ap₂ (λ (ns : List (List ℕ)) (vs : List Verdict). verdicts_asked ns (query_in r.command) vs) names (verdicts_are source r q f g w v front l)
      ∙ ap (λ (k : Option ℕ). verdicts_asked q.work.names k q.verdicts.items) asked)
