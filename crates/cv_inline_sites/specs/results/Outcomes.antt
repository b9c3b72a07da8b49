-- Results of calls, and the trees that they stand for. This profile's own.
use Rattle.std.specs.Prelude.{ℕ, List, map, reverse, slice_get, Option, Some, None}
use Rattle.cv_pool.specs.KindTree.{KindTree}
use Rattle.cv_pool.specs.declared.node.NodeId.{NodeId}
use Rattle.cv_pool.specs.Nodes.{ChildBelow}
use Rattle.cv_syntax_trees.specs.declared.head.Head.TheVariants.{No}
use Rattle.cv_syntax_trees.specs.Tree.{Tree, lone}
use Rattle.cv_syntax.specs.PoolTrees.{tree_at}
use Rattle.cv_meaning.specs.contexts.Inlined.{Drawn, in_game, index_terms}
use Rattle.cv_inline.specs.NextGame.{Results}
use Rattle.cv_inline.specs.declared.terms.calling.Calling.{Calling}
use Rattle.cv_inline.specs.declared.terms.scope.Entry.{Entry}
use Rattle.cv_inline.specs.terms.Callers.{caller_in}
use Rattle.cv_inline.specs.terms.Scopes.{scope_in}
use Rattle.cv_inline_sites.specs.declared.results.outcome.Outcome.{Outcome}

-- a term of a site's body in the game; of no site it is `false`, as of a call that has none
abbrev pub term_of : List KindTree → Drawn → Option Calling → List Entry → Option NodeId → Tree
term_of trees d None scope term = lone No
term_of trees d (Some s) scope term = in_game d (caller_in trees s.caller) (scope_in (index_terms s.caller.replications.items) scope) (tree_at trees term)

abbrev pub outcome_tree : List KindTree → Drawn → List Calling → Outcome → Tree
outcome_tree trees d callings o = term_of trees d (slice_get callings o.site) o.scope.items o.term

-- the newest is the last of the code's list, and the first of these
abbrev pub results_in : List KindTree → Drawn → List Calling → List Outcome → Results
results_in trees d callings os = map (λ (o : Outcome). (o.answer, outcome_tree trees d callings o)) (reverse os)

abbrev pub IsLiveOutcome : ℕ → Outcome → Type 0
IsLiveOutcome live o = ChildBelow live o.term

abbrev pub or_else : Tree → Option Tree → Tree
or_else t None = t
or_else t (Some u) = u
