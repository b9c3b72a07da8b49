-- Reads of a key outside `defined` lists and conditions of a `find`, and whether each stands in an instance: what one walk over a game notes. This profile's own.
use Rattle.std.specs.Prelude.{ℕ, Bool, false, ◌&&◌, ◌||◌, not, if◌then◌else◌, List, [], ◌∷◌, ◌++◌, is_some, Option, Some, None}
use Rattle.cv_syntax_trees.specs.Tree.{Tree, Empty, Node, first_place, second_place}
use Rattle.cv_scope_rules.specs.Context.{first_position, second_position}
use Rattle.cv_scope_rules.specs.declared.position.Position.{Position}
use Rattle.cv_scene.specs.Instances.{Matching, call_at}
use Rattle.cv_scene.specs.Scenes.{head_reads}
use Rattle.cv_scene.specs.Sites.{is_guard}

-- the tree reads the variable there
unfoldable pub is_read_openly : ℕ → Position → Tree → Bool
is_read_openly x w Empty = false
is_read_openly x w (Node h a b) =
    head_reads x h || ((not (is_guard w) && is_read_openly x (first_position w h) a) || is_read_openly x (second_position w h) b)

-- the places there where it reads the key; around the whole tree an instance stands, or none
unfoldable pub reads_of_key : Matching → (inside : Bool) → Position → (place : ℕ) → Tree → List (ℕ × Bool)
reads_of_key M inside w p Empty = []
reads_of_key M inside w p (Node h a b) =
    let here : Bool = inside || is_some (call_at M (Node h a b)) in
    (if head_reads M.key h then (p, here) ∷ [] else [])
    ++ ((if is_guard w then [] else reads_of_key M here (first_position w h) (first_place p h) a) ++ reads_of_key M here (second_position w h) (second_place p h a) b)

-- the first that stands in none
abbrev pub first_outside : List (ℕ × Bool) → Option ℕ
first_outside [] = None
first_outside (r ∷ rs) = if r.1 then first_outside rs else Some r.0
