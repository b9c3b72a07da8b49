use Rattle.std.proofs.Common.{◌≡◌, ◌≤◌, List, length, take}
use Rattle.cv_pool.specs.KindTree.{KindTree}
use Rattle.cv_syntax_trees.specs.Tree.{Tree}
use Rattle.cv_meaning.specs.contexts.Inlined.{Drawn}
use Rattle.cv_inline.specs.NextGame.{result_for}
use Rattle.cv_inline.specs.declared.terms.calling.Calling.{Calling}
use Rattle.cv_inline_sites.specs.results.Outcomes.{results_in}
use Rattle.cv_inline_sites.proofs.results.outcome.outcome_of.Given as goal

abbrev pub invariant-newest : goal.invariant-newest
invariant-newest l = record {
  within : l.left ≤ length l.results;
  found : (trees : List KindTree) (d : Drawn) (callings : List Calling) (t : Tree) → result_for (results_in trees d callings (take l.left l.results)) l.x t ≡ result_for (results_in trees d callings l.results) l.x t;
}

abbrev pub decreases-newest : goal.decreases-newest
decreases-newest l = l.left
