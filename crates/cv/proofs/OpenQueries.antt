-- The verdicts on queries where no step was taken.
use Rattle.std.proofs.Common.{◌≡◌, ℕ, List, [], map, None, Some, sym, ap, ◌∙◌}
use Rattle.cv_follow.proofs.Verdicts.{verdicts_map}
use Rattle.cv_follow.proofs.QueryLists.{queries_same}
use Rattle.cv_follow.specs.Scripts.{verdicts_of}
use Rattle.cv_kernel.specs.Proofs.{sum_of}
use Rattle.cv_meaning.specs.Queries.{queries_in}
use Rattle.cv_pool.specs.KindTree.{KindTree}
use Rattle.cv_report.specs.declared.report.Verdict.{Verdict}
use Rattle.cv_report.specs.verdicts.Verdicts.{verdicts_by}
use Rattle.cv_syntax.specs.Classes.{queries}
use Rattle.cv_syntax.specs.Declarations.{declarations}
use Rattle.cv_syntax.specs.PoolTrees.{tree_at}
use Rattle.cv_syntax.specs.declared.decls.Decl.{Decl}

pub none_closed : (trees : List KindTree) (ds : List Decl) → verdicts_by (λ k. None) 1 (queries ds) ≡ verdicts_of [] (queries_in (declarations trees ds))
none_closed trees ds = sym (ap (verdicts_by (sum_of []) 1) (queries_same trees ds) ∙ verdicts_map (λ n. tree_at trees (Some n)) (sum_of []) 1 (queries ds))
