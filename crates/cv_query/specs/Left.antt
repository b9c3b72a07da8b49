-- What is left of a certificate, once its entries were tested.
use Rattle.std.specs.Prelude.{All, List, [], Option, length, option_map}
use Rattle.cv_syntax_trees.specs.lists.Options.{first_of}
use Rattle.cv_pool.specs.KindTree.{KindTree}
use Rattle.cv_pool.specs.Nodes.{ChildBelow}
use Rattle.cv_syntax.specs.PoolTrees.{tree_at}
use Rattle.cv_scene.specs.Scenes.{Scene}
use Rattle.cv_query_certificates.specs.Failures as failures
use Rattle.cv_query_certificates.specs.Failures.{failure}
use Rattle.cv_query_certificates.specs.Marks.{raise_of}
use Rattle.cv_query_certificates.specs.PairParts.{first_unfit_name}
use Rattle.cv_query_parts.specs.pairs.Walks.{IsMet, first_unproved}
use Rattle.cv_query.specs.Claimed.{failure_of}
use Rattle.cv_query.specs.Secrecy.{by_pairs}
use Rattle.cv_query.specs.pairs.CopyPairs.{AreLeft}
use Rattle.cv_query.specs.declared.testing.Left.{Left}
use Rattle.cv_query.specs.declared.testing.Outcome.{Outcome}
use Rattle.cv_query.specs.declared.testing.Outcome.TheVariants.{Decided, Open, Secret}

-- what fails of it first
abbrev pub rest_of : Scene → List KindTree → Left → Option failures.Failure
rest_of s trees l =
    first_of (failure 5 (first_of (first_unproved s (raise_of s (tree_at trees l.parts)) l.names.items trees l.walked.met.items) l.walked.stopped))
    (failure 6 (first_unfit_name s [] l.names.items))

abbrev pub answer_of : Scene → List KindTree → Outcome → Option failures.Failure
answer_of s trees (Decided f) = option_map failure_of f
answer_of s trees (Open l) = rest_of s trees l
answer_of s trees (Secret x pairs) = by_pairs s x (tree_at trees pairs)

pub record IsLeft (trees : List KindTree) (l : Left) : Type 0 where
  pub parts : ChildBelow (length trees) l.parts
  pub met : All (IsMet trees) l.walked.met.items

abbrev pub IsOutcome : List KindTree → Outcome → Type 0
IsOutcome trees (Decided f) = Unit {0}
IsOutcome trees (Open l) = IsLeft trees l
IsOutcome trees (Secret x pairs) = AreLeft trees pairs
