-- What the pieces of a call make of trees. This profile's own.
use Rattle.std.specs.Prelude.{◌≡◌, ℕ, zero, suc, ◌<◌, List, [], ◌∷◌, All, length, slice_get, Option, Some, None}
use Rattle.cv_pool.specs.KindTree.{KindTree}
use Rattle.cv_pool.specs.Nodes.{ChildBelow}
use Rattle.cv_pool.specs.declared.node.NodeId.{NodeId}
use Rattle.cv_syntax_trees.specs.declared.head.Head.TheVariants.{Cons, If}
use Rattle.cv_syntax.specs.Postorder.{joined}
use Rattle.cv_syntax_trees.specs.Tree.{Tree, Empty}
use Rattle.cv_syntax.specs.PoolTrees.{tree_at}
use Rattle.cv_meaning.specs.contexts.Inlined.{Drawn, in_game}
use Rattle.cv_inline.specs.declared.terms.caller.Caller.{Caller}
use Rattle.cv_inline.specs.declared.terms.calling.Calling.{Calling}
use Rattle.cv_inline.specs.declared.terms.scope.Entry.{Entry}
use Rattle.cv_inline.specs.terms.Callers.{caller_in}
use Rattle.cv_inline_sites.specs.branches.Moves.{front}
use Rattle.cv_inline_sites.specs.pairs.Scopes.{scope_at}
use Rattle.cv_inline_walk.specs.declared.pieces.piece.Front.{Front}
use Rattle.cv_inline_walk.specs.declared.pieces.piece.Phrase.{Phrase}
use Rattle.cv_inline_walk.specs.declared.pieces.piece.Piece.{Piece}
use Rattle.cv_inline_walk.specs.declared.pieces.piece.Piece.TheVariants as pieces

-- a term of the body in the game
abbrev pub phrase_tree : List KindTree → Drawn → Caller → Phrase → Tree
phrase_tree trees d c e = in_game d (caller_in trees c) (scope_at c e.scope.items) (tree_at trees e.term)

-- what stands before the body in the branch for calls of a site
abbrev pub front_over : List KindTree → Drawn → Caller → Front → Option Calling → List Tree → List Tree
front_over trees d c f None ts = ts
front_over trees d c f (Some s) ts =
    front d (caller_in trees c) (scope_at c f.scope.items) (d.index c.number f.place s.caller.number f.branch) (caller_in trees s.caller) (tree_at trees f.cells) (tree_at trees f.condition) ts

-- one piece, over the trees that are there, the newest first; in place of a result stands what k makes of it
abbrev pub piece_over : List KindTree → Drawn → List Calling → Caller → (k : Tree → Tree) → Piece → List Tree → List Tree
piece_over trees d callings c k pieces.Nothing ts = Empty ∷ ts
piece_over trees d callings c k (pieces.Put h) ts = joined h ts
piece_over trees d callings c k (pieces.Copy t) ts = tree_at trees t ∷ ts
piece_over trees d callings c k (pieces.Term e) ts = phrase_tree trees d c e ∷ ts
piece_over trees d callings c k (pieces.Front f) ts = front_over trees d c f (slice_get callings f.other) ts
piece_over trees d callings c k (pieces.Result e) ts = k (phrase_tree trees d c e) ∷ ts

-- all of them, one by one
unfoldable pub pieced : List KindTree → Drawn → List Calling → Caller → (k : Tree → Tree) → List Tree → List Piece → List Tree
pieced trees d callings c k ts [] = ts
pieced trees d callings c k ts (p ∷ ps) = pieced trees d callings c k (piece_over trees d callings c k p ts) ps

-- the list and the condition of a branch are in the pool, and its site is there
pub record IsLiveFront (live sites : ℕ) (f : Front) : Type 0 where
  pub site : f.other < sites
  pub cells : ChildBelow live f.cells
  pub condition : ChildBelow live f.condition

-- where so many trees are in the pool, and so many sites are there
abbrev pub IsLivePiece : (live sites : ℕ) → Piece → Type 0
IsLivePiece live sites pieces.Nothing = Unit {0}
IsLivePiece live sites (pieces.Put h) = Unit {0}
IsLivePiece live sites (pieces.Copy t) = ChildBelow live t
IsLivePiece live sites (pieces.Term e) = ChildBelow live e.term
IsLivePiece live sites (pieces.Front f) = IsLiveFront live sites f
IsLivePiece live sites (pieces.Result e) = ChildBelow live e.term

-- what is added to pieces does this to the trees, and is live
pub record Adds (trees : List KindTree) (d : Drawn) (callings : List Calling) (c : Caller) (old new : List Piece) (does : (k : Tree → Tree) → List Tree → List Tree) : Type 0 where
  pub by : (k : Tree → Tree) (ts : List Tree) → pieced trees d callings c k ts new ≡ does k (pieced trees d callings c k ts old)
  pub live : All (IsLivePiece (length trees) (length callings)) old → All (IsLivePiece (length trees) (length callings)) new

-- what is added puts nodes, in whatever call
abbrev pub AddsNodes : (old new : List Piece) → (does : List Tree → List Tree) → Type 0
AddsNodes old new does = (trees : List KindTree) (d : Drawn) (callings : List Calling) (c : Caller) → Adds trees d callings c old new (λ k ts. does ts)

-- what is added is a term of a body in a scope, in whatever call
abbrev pub AddsTerm : List Entry → Option NodeId → (old new : List Piece) → Type 0
AddsTerm scope term old new =
    (trees : List KindTree) (d : Drawn) (callings : List Calling) (c : Caller) → ChildBelow (length trees) term → Adds trees d callings c old new (λ k ts. in_game d (caller_in trees c) (scope_at c scope) (tree_at trees term) ∷ ts)

-- it is a result
abbrev pub AddsResult : List Entry → Option NodeId → (old new : List Piece) → Type 0
AddsResult scope term old new =
    (trees : List KindTree) (d : Drawn) (callings : List Calling) (c : Caller) → ChildBelow (length trees) term → Adds trees d callings c old new (λ k ts. k (in_game d (caller_in trees c) (scope_at c scope) (tree_at trees term)) ∷ ts)

-- the newest tree and so many before it as a list: those before it are its items, and the newest stands behind them
abbrev pub listed : ℕ → List Tree → List Tree
listed zero ts = ts
listed (suc n) ts = joined Cons (listed n ts)

-- an `if` of its condition and its two bodies, the newest trees
abbrev pub closed_if : List Tree → List Tree
closed_if ts = joined If (joined Cons (joined Cons (Empty ∷ ts)))
