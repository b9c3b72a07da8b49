-- Games whose index terms aren't counted as values of large types: the measure takes the sort of a name by the declarations and the
-- definitions of the game alone. This profile's own.
use Rattle.std.specs.Prelude.{◌≡◌, false}
use Rattle.std.specs.List.{AllByRecursion}
use Rattle.cv_syntax_trees.specs.declared.head.Head.{Head}
use Rattle.cv_syntax_trees.specs.declared.head.Head.TheVariants.{Read}
use Rattle.cv_syntax_trees.specs.Tree.{Tree, Empty, Node}
use Rattle.cv_scope_rules.specs.Context.{items}
use Rattle.cv_scope_rules.specs.typing.Parts.{nothing_above}
use Rattle.cv_scope_rules.specs.typing.Signature.{sort_of}
use Rattle.cv_scene.specs.Scenes.{Scene}
use Rattle.cv_scene.specs.Terms.{signature_in}
use Rattle.cv_settling_rules.specs.Measure.{is_of_large}

-- those of a read
abbrev pub IndicesAreSmall : Scene → Head → (indices : Tree) → Type 0
IndicesAreSmall s (Read x) a = AllByRecursion (λ m. is_of_large s (sort_of (signature_in s) nothing_above m) ≡ false) (items a)
IndicesAreSmall s h a = Unit {0}

unfoldable pub HasSmallIndices : Scene → (part : Tree) → Type 0
HasSmallIndices s Empty = Unit {0}
HasSmallIndices s (Node h a b) = IndicesAreSmall s h a × HasSmallIndices s a × HasSmallIndices s b
