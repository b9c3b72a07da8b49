-- What the code writes of a context, where calls are told by the places of their sites.
use Rattle.std.specs.Prelude.{ℕ, suc, Bool, false, ◌&&◌, ◌==◌, if◌then◌else◌, List, [], ◌∷◌, slice_get, Option, Some, None}
use Rattle.cv_pool.specs.KindTree.{KindTree}
use Rattle.cv_syntax_trees.specs.declared.head.Head.{Head}
use Rattle.cv_syntax_trees.specs.declared.head.Head.TheVariants.{Key, New}
use Rattle.cv_syntax_trees.specs.declared.head.Head.TheVariants.{Call as CallHead}
use Rattle.cv_syntax_trees.specs.Head.{weight}
use Rattle.cv_syntax.specs.NameSets.{is_in}
use Rattle.cv_syntax_trees.specs.Tree.{Tree, Empty, Node, first_place, second_place}
use Rattle.cv_scope_rules.specs.declared.position.Position.{Position}
use Rattle.cv_scope_rules.specs.Context.{cell_of, first_position, replications_below, second_position}
use Rattle.cv_scene.specs.Sites.{is_guard}
use Rattle.cv_context.specs.nodes.Calls.{terms_of}
use Rattle.cv_context.specs.nodes.Written.{answer_in, calls_here}
use Rattle.cv_context.specs.declared.nodes.calls.Call.{Call}
use Rattle.cv_context.specs.declared.nodes.roles.Roles.{Roles}

-- calls before a tree, and a node

abbrev pub before : List KindTree → Roles → ℕ → List Call → Tree → Tree
before trees r s [] t = t
before trees r s (c ∷ cs) t = Node (CallHead (answer_in r s) s) (terms_of trees c) (before trees r (suc s) cs t)

abbrev pub node_in : Roles → Head → Tree → Tree → Tree
node_in r (New y T) a b = if y == r.key then Node (Key y) Empty b else if is_in r.coins y then b else Node (New y T) a b
node_in r h a b = Node h a b

-- the site of a number stands at this node
abbrev pub is_place : ℕ → Option Call → Bool
is_place p None = false
is_place p (Some c) = c.place == p

abbrev pub is_site : List Call → ℕ → ℕ → Head → Bool
is_site ss s p h = (weight h == 1) && is_place p (slice_get ss s)

-- what stands in the context for a part of the game, and the number of the first site behind the part
pub record Part : Type 0 where
  pub tree : Tree
  pub next : ℕ

abbrev pub joined : List KindTree → Roles → List Call → Head → ℕ → Part → (ℕ → Part) → Part
joined trees r ss h s x rest =
    record { tree = before trees r s (calls_here ss h s x.next) (node_in r h x.tree (rest x.next).tree); next = (rest x.next).next }

unfoldable pub part_at : List KindTree → Roles → List Call → Position → List (ℕ × ℕ) → (site place : ℕ) → Tree → Part
part_at trees r ss w rs s p Empty = record { tree = Empty; next = s }
part_at trees r ss w rs s p (Node h a b) =
    if is_site ss s p h then record { tree = cell_of rs (answer_in r s); next = suc s }
    else joined trees r ss h s
    (if is_guard w then record { tree = a; next = s } else part_at trees r ss (first_position w h) rs s (first_place p h) a)
    (λ n. part_at trees r ss (second_position w h) (replications_below h rs) n (second_place p h a) b)

-- a part that is passed over stays
unfoldable pub part_unless : (skip : Bool) → List KindTree → Roles → List Call → Position → List (ℕ × ℕ) → (site place : ℕ) → Tree → Part
part_unless skip trees r ss w rs s p t = if skip then record { tree = t; next = s } else part_at trees r ss w rs s p t
