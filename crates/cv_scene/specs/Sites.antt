-- The sites of a group in a game: going down each term outside `defined` lists and conditions of a `find`, the terms that are
-- instances; no search goes on inside one. Blanchet and Pointcheval, CRYPTO 2006.
use Rattle.std.specs.Prelude.{ℕ, Bool, true, false, if◌then◌else◌, List, [], ◌∷◌, ◌++◌, Option, Some, None}
use Rattle.cv_syntax_trees.specs.Tree.{Tree, Empty, Node, first_place, second_place}
use Rattle.cv_scope_rules.specs.declared.position.Position.{Position}
use Rattle.cv_scope_rules.specs.declared.position.Position.TheVariants.{Anywhere, Guards, Guarded}
use Rattle.cv_scope_rules.specs.Context.{first_position, replications_below, second_position}
use Rattle.cv_scene.specs.Instances.{Call, Matching, call_at}

-- an instance by its place, with the replications above it
pub record Site : Type 0 where
  pub place : ℕ
  pub term : Tree
  pub replications : List (ℕ × ℕ)
  pub call : Call

-- the first child of a node there is a `defined` list or a condition
abbrev pub is_guard : Position → Bool
is_guard Guards = true
is_guard Guarded = true
is_guard w = false

unfoldable pub sites_in : Matching → Position → List (ℕ × ℕ) → (place : ℕ) → Tree → List Site
sites_in M w rs p Empty = []
sites_in M w rs p (Node h a b) = elim (call_at M (Node h a b)) [
  | Some c ↦ record { place = p; term = Node h a b; replications = rs; call = c } ∷ []
  | None ↦
      (if is_guard w then [] else sites_in M (first_position w h) rs (first_place p h) a)
      ++ sites_in M (second_position w h) (replications_below h rs) (second_place p h a) b
]

-- those of the game, in preorder
abbrev pub sites_of : Matching → List Site
sites_of M = sites_in M Anywhere [] 0 M.scene.game
