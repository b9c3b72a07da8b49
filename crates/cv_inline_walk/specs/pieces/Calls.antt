-- Calls, bodies and branches of the code as those of the definitions. This profile's own.
use Rattle.std.specs.Prelude.{ℕ, List}
use Rattle.cv_pool.specs.KindTree.{KindTree}
use Rattle.cv_syntax_trees.specs.Tree.{Tree}
use Rattle.cv_syntax.specs.PoolTrees.{tree_at}
use Rattle.cv_meaning.specs.contexts.Groups.{Group}
use Rattle.cv_meaning.specs.contexts.Inlined.{Drawn, Scope, expanded, find_or_else, inlined_body, inlined_branch}
use Rattle.cv_inline.specs.NextGame.{InlinedCalls}
use Rattle.cv_inline.specs.declared.terms.caller.Caller.{Caller}
use Rattle.cv_inline.specs.declared.terms.calling.Calling.{Calling}
use Rattle.cv_inline.specs.terms.Callers.{caller_in}
use Rattle.cv_inline_sites.specs.declared.listing.subtree.Subtree.{Subtree}
use Rattle.cv_inline_sites.specs.listing.Callings.{callers_in, callings_in}
use Rattle.cv_inline_walk.specs.declared.pieces.choices.Choice.{Choice}
use Rattle.cv_inline_walk.specs.pieces.Choices.{branch_by, choice_in}

-- the calls that are inlined, where x is the variable of the key
abbrev pub inlined_calls : List KindTree → Drawn → (x : ℕ) → Group → List Calling → InlinedCalls
inlined_calls trees d x g callings = record { drawn = d; key = x; group = g; callings = callings_in trees callings }

-- a body in a scope, where k makes something of its results
abbrev pub body_in : List KindTree → Drawn → List Calling → Caller → Scope → Subtree → (k : Tree → Tree) → Tree
body_in trees d callings c Σ b k = inlined_body d (callers_in trees callings) (caller_in trees c) Σ b.place (tree_at trees b.root) k

-- a find at a place, with its list of branches and its other body
abbrev pub find_in : List KindTree → Drawn → List Calling → Caller → Scope → ℕ → (list otherwise : Subtree) → (k : Tree → Tree) → Tree
find_in trees d callings c Σ p list otherwise k =
    find_or_else (d.label c.number p)
    (expanded d (caller_in trees c) Σ (d.index c.number p) (λ j Τ. inlined_branch d (callers_in trees callings) (caller_in trees c) Τ list.place (tree_at trees list.root) k j) (callers_in trees callings) (tree_at trees list.root))
    (body_in trees d callings c Σ otherwise k)

-- a branch of a find at a place
abbrev pub branch_in : List KindTree → Drawn → List Calling → Caller → Scope → ℕ → (k : Tree → Tree) → Choice → Tree
branch_in trees d callings c Σ p k q =
    branch_by d (caller_in trees c) Σ (d.index c.number p) (λ r Τ b. inlined_body d (callers_in trees callings) (caller_in trees c) Τ r b k) (choice_in trees callings q).0 (choice_in trees callings q).1
