-- What is made to test a pair.
use Rattle.std.specs.Prelude.{ℕ, ◌+◌, Bool, ◌==◌, if◌then◌else◌, List, [], ◌∷◌, map, Option, Some, None}
use Rattle.std.specs.List.{list_any}
use Rattle.cv_pool.specs.KindTree.{KindTree}
use Rattle.cv_syntax_trees.specs.declared.head.Head.{Head}
use Rattle.cv_syntax_trees.specs.declared.head.Head.TheVariants.{Leaf}
use Rattle.cv_syntax_trees.specs.Tree.{Tree, chain}
use Rattle.cv_syntax.specs.PoolTrees.{tree_at}
use Rattle.cv_scene.specs.Late.{index_term}
use Rattle.cv_scene.specs.Pairs.{second_indices}
use Rattle.cv_scene.specs.Scenes.{Scene}
use Rattle.cv_query_certificates.specs.Marks.{plain}
use Rattle.cv_query_parts.specs.declared.pairs.walk.Pairing.{Pairing}
use Rattle.cv_query_parts.specs.pairs.Walks.{needed_of}

-- the name of an index
abbrev pub is_row : List (ℕ × ℕ) → ℕ → Bool
is_row rs x = list_any (λ (r : ℕ × ℕ). r.0 == x) rs

-- a name in the second copy, if it is that of an index

abbrev pub second_name : (k : ℕ) → List (ℕ × ℕ) → ℕ → Option ℕ
second_name k rs x = if is_row rs x then Some (x + k) else None

abbrev pub second_head : (k : ℕ) → List (ℕ × ℕ) → Head → Option ℕ
second_head k rs (Leaf x) = second_name k rs x
second_head k rs h = None

-- the equations that are given, the indices of the second copy, those that may be the same in both copies, in each, and the derivation
abbrev pub lists_of : Scene → (k : ℕ) → (rows same : List (ℕ × ℕ)) → List KindTree → Pairing → Tree
lists_of s k rows same trees p =
    chain
    (chain (needed_of s k trees p).given
    ∷ chain (map index_term (second_indices k rows))
    ∷ chain (map index_term same)
    ∷ chain (map index_term (second_indices k same))
    ∷ plain k (tree_at trees p.by)
    ∷ [])
