-- Sites of the code as those of the definitions. This profile's own.
use Rattle.std.specs.Prelude.{◌<◌, ◌^◌, List, Some, length, map}
use Rattle.cv_pool.specs.KindTree.{KindTree}
use Rattle.cv_syntax_trees.specs.Tree.{size}
use Rattle.cv_syntax.specs.PoolTrees.{tree_at}
use Rattle.cv_meaning.specs.contexts.Groups.{function_of}
use Rattle.cv_meaning.specs.contexts.Inlined.{Caller}
use Rattle.cv_inline.specs.NextGame as game
use Rattle.cv_inline.specs.NextGame.{callers_of}
use Rattle.cv_inline.specs.terms.Callers.{caller_in}
use Rattle.cv_inline.specs.declared.terms.calling.Calling.{Calling}

abbrev pub calling_in : List KindTree → Calling → game.Calling
calling_in trees c = record { caller = caller_in trees c.caller; function = function_of (tree_at trees (Some c.function)) }

abbrev pub callings_in : List KindTree → List Calling → List game.Calling
callings_in trees cs = map (calling_in trees) cs

abbrev pub callers_in : List KindTree → List Calling → List Caller
callers_in trees cs = callers_of (callings_in trees cs)

-- its function is in the pool, and the numbers of its nodes and of its replications fit
pub record IsLiveCalling (trees : List KindTree) (c : Calling) : Type 0 where
  pub function : c.function.0 < length trees
  pub nodes : size (tree_at trees (Some c.function)) < 2 ^ 32
  pub replications : length c.caller.replications.items < 2 ^ 32
