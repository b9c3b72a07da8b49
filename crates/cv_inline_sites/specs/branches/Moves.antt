-- The indices of a branch in place of those of the other site. This profile's own.
use Rattle.std.specs.Prelude.{ℕ, List, [], ◌∷◌, map}
use Rattle.cv_syntax_trees.specs.declared.head.Head.TheVariants.{Cons, Branch}
use Rattle.cv_syntax.specs.Postorder.{joined}
use Rattle.cv_syntax_trees.specs.Tree.{Tree, Empty, Node, binders}
use Rattle.cv_meaning.specs.contexts.Inlined.{Caller, Drawn, Scope, all_equal, branch_indices, cells_in_game, cells_then, each_once, in_game, index_moves, index_terms, is_index_of, moved, needed, read_at}

-- what the other site's indices stand for, where these are the indices of the branch
abbrev pub moves_by : (here : Tree) → List (ℕ × ℕ) → (indices : List ℕ) → List (ℕ × Tree)
moves_by here (r ∷ rs) (u ∷ us) = (r.0, read_at u here) ∷ moves_by here rs us
moves_by here _ _ = []

-- a list
abbrev pub IsList : Tree → Type 0
IsList Empty = Unit {0}
IsList (Node Cons a b) = IsList b
IsList t = ⊥

abbrev pub binders_by : List (ℕ × ℕ) → (indices : List ℕ) → List (ℕ × ℕ)
binders_by (r ∷ rs) (u ∷ us) = (u, r.1) ∷ binders_by rs us
binders_by _ _ = []

-- the node of a branch over its indices, its list, its condition and its body, which are the newest trees
abbrev pub closed_branch : List Tree → List Tree
closed_branch ts = joined Branch (joined Cons (joined Cons ts))

-- what stands before the body in the branch for calls of a site: the condition, the list and the indices, the newest first
abbrev pub front : Drawn → Caller → Scope → (name : ℕ → ℕ) → Caller → (cells condition : Tree) → List Tree → List Tree
front d c Σ name s cells condition ts =
    let ms : List (ℕ × Tree) = index_moves (index_terms c.replications) name 0 s.replications in
    all_equal (moved ms s.key) c.key (in_game d c Σ condition) ∷ (cells_then (map (moved ms) (each_once (needed (is_index_of s.replications) s.key))) (cells_in_game d c Σ cells) ∷ (binders (branch_indices name 0 s.replications) ∷ ts))
