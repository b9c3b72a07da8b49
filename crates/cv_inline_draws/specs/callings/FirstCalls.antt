-- The first calls of a context by number, as a table has them. This profile's own.
use Rattle.std.specs.Prelude.{ℕ, nat_eq, ◌==◌, ◌<◌, ◌^◌, if◌then◌else◌, IfSome, List, length, Option, Some, None, option_map}
use Rattle.std.specs.declared.hash.FoldHasher.{FoldHasher}
use Rattle.std.specs.declared.hash.BuildHasherDefault.{BuildHasherDefault}
use Rattle.std.specs.HashMap.{get, HashMap}
use Rattle.cv_pool.specs.KindTree.{KindTree}
use Rattle.cv_pool.specs.Nodes.{ChildBelow}
use Rattle.cv_syntax_trees.specs.declared.head.Head.{Head}
use Rattle.cv_syntax_trees.specs.Tree.{Tree}
use Rattle.cv_syntax.specs.PoolTrees.{tree_at}
use Rattle.cv_meaning.specs.contexts.Sites.{is_call}
use Rattle.cv_inline.specs.NextGame.{call_of}
use Rattle.cv_inline_draws.specs.declared.callings.calls.Call.{Call}
use Rattle.cv_syntax_trees.specs.lists.Options.{first_of}

abbrev pub Table : Type 0
Table = HashMap ℕ Call (BuildHasherDefault FoldHasher)

-- the replications above the first call with a number, and the call's list
abbrev pub FirstCalls : Type 0
FirstCalls = ℕ → Option (List (ℕ × ℕ) × Tree)

abbrev pub call_in : List KindTree → Call → List (ℕ × ℕ) × Tree
call_in trees c = (c.replications.items, tree_at trees c.terms)

abbrev pub calls_in : List KindTree → Table → FirstCalls
calls_in trees table l = option_map (call_in trees) (get nat_eq table l)

-- a call behind those that were found
abbrev pub with_call : FirstCalls → (number : ℕ) → List (ℕ × ℕ) × Tree → FirstCalls
with_call found m c l = first_of (found l) (if m == l then Some c else None)

-- a node below replications, if it is a call
abbrev pub with_node : FirstCalls → List (ℕ × ℕ) → Head → (terms : Tree) → FirstCalls
with_node found rs h a l = first_of (found l) (if is_call l h then Some (rs, a) else None)

-- the calls of a tree below replications
abbrev pub with_calls : FirstCalls → List (ℕ × ℕ) → Tree → FirstCalls
with_calls found rs t l = first_of (found l) (call_of rs l t)

-- its terms are in the pool, and its replications are few
pub record IsLiveCall (trees : List KindTree) (c : Call) : Type 0 where
  pub terms : ChildBelow (length trees) c.terms
  pub replications : length c.replications.items < 2 ^ 32

abbrev pub AreLiveCalls : List KindTree → Table → Type 0
AreLiveCalls trees table = (l : ℕ) → IfSome (get nat_eq table l) (IsLiveCall trees)
