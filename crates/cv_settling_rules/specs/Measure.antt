-- The measure of a game: how many equalities at large types it has, and then how many nodes. Each step that settles a game lowers it, so
-- settling ends. This profile's own.
use Rattle.std.specs.Prelude.{ℕ, ◌+◌, Bool, false, ◌&&◌, ◌||◌, ◌==◌, nat_lt, if◌then◌else◌, Option, Some}
use Rattle.cv_syntax_trees.specs.declared.head.Head.{Head}
use Rattle.cv_syntax_trees.specs.declared.head.Head.TheVariants.{Eq}
use Rattle.cv_syntax_trees.specs.declared.sites.sort.Sort.{Sort}
use Rattle.cv_syntax_trees.specs.declared.sites.sort.Sort.TheVariants.{OfType}
use Rattle.cv_syntax_trees.specs.Tree.{Tree, Empty, Node, size}
use Rattle.cv_scope_rules.specs.typing.Parts.{nothing_above}
use Rattle.cv_scope_rules.specs.typing.Signature.{sort_of}
use Rattle.cv_scene.specs.Large.{is_large}
use Rattle.cv_scene.specs.Scenes.{Scene}
use Rattle.cv_scene.specs.Terms.{signature_in}

pub record Measure : Type 0 where
  pub equalities : ℕ
  pub nodes : ℕ

-- both sides are of one type, so the left one tells it

abbrev pub is_of_large : Scene → Option Sort → Bool
is_of_large s (Some (OfType T)) = is_large s T
is_of_large s S = false

abbrev pub is_large_equality : Scene → Head → (left : Tree) → Bool
is_large_equality s Eq m = is_of_large s (sort_of (signature_in s) nothing_above m)
is_large_equality s h m = false

-- how many a part of the game has
unfoldable pub large_equalities : Scene → Tree → ℕ
large_equalities s Empty = 0
large_equalities s (Node h a b) = (if is_large_equality s h a then 1 else 0) + (large_equalities s a + large_equalities s b)

abbrev pub measure_of : Scene → Measure
measure_of s = record { equalities = large_equalities s s.game; nodes = size s.game }

abbrev pub is_less : Measure → Measure → Bool
is_less m n = nat_lt m.equalities n.equalities || (m.equalities == n.equalities && nat_lt m.nodes n.nodes)

-- a next game has a lower measure
abbrev pub lowers : Scene → (next : Tree) → Bool
lowers s next = is_less (measure_of (record s { game = next })) (measure_of s)
