use Rattle.std.proofs.Common.{◌≡◌, ℕ, List, All, take}
use Rattle.cv_pool.specs.KindTree.{KindTree}
use Rattle.cv_meaning.specs.contexts.Inlined.{Drawn}
use Rattle.cv_inline.specs.declared.terms.calling.Calling.{Calling}
use Rattle.cv_inline_sites.specs.results.Outcomes.{IsLiveOutcome, results_in}
use Rattle.cv_inline_sites.proofs.results.more.copies.Given as goal

abbrev pub invariant-results : goal.invariant-results
invariant-results l = record {
  same : (trees : List KindTree) (d : Drawn) (callings : List Calling) → results_in trees d callings l.copies.items ≡ results_in trees d callings (take l.k l.results);
  live : (live : ℕ) → All (IsLiveOutcome live) l.results → All (IsLiveOutcome live) l.copies.items;
}
