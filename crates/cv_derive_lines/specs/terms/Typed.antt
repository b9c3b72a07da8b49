-- Terms at a place, as the code tests them in one walk.
use Rattle.std.specs.Prelude.{◌≡◌, ℕ, Bool, true, ◌&&◌, ◌||◌, not, is_some, List}
use Rattle.cv_pool.specs.KindTree.{KindTree}
use Rattle.cv_syntax.specs.declared.decls.Decl.{Decl}
use Rattle.cv_syntax_trees.specs.declared.head.Head.{Head}
use Rattle.cv_syntax_trees.specs.declared.head.Head.TheVariants.{Leaf, Read, Apply}
use Rattle.cv_syntax_trees.specs.Declarations.{Declaration}
use Rattle.cv_syntax.specs.Declarations.{declarations}
use Rattle.cv_syntax_trees.specs.Tree.{Tree, Empty, Node}
use Rattle.cv_syntax_trees.specs.declared.sites.sort.Sort.{Sort}
use Rattle.cv_syntax_trees.specs.sites.Sites.{sites_of}
use Rattle.cv_typing.specs.declared.arrays.Arrays.{Arrays}
use Rattle.cv_scope_rules.specs.typing.Signature.{Signature, Above, OfGame, variable_in}
use Rattle.cv_typing.specs.Tables.{Map, above_of, arrays_of}
use Rattle.cv_scope_rules.specs.typing.Typing.{fault_of}
use Rattle.cv_scope_rules.specs.typing.Wants.{Want, wants}
use Rattle.cv_scene.specs.Sights.{Sight}
use Rattle.cv_scene.specs.Terms.{Names, above_under, is_function}

-- the sight of which the code has the declarations, the variables of the game and the sorts of the indices above
pub record IsSightOf (trees : List KindTree) (ds : List Decl) (variables : Arrays) (indices : Map Sort) (s : Sight) : Type 0 where
  pub declared : s.scene.declarations ≡ declarations trees ds
  pub sites : arrays_of variables ≡ OfGame (sites_of s.scene.game)
  pub bound : above_of indices ≡ above_under s.replications

-- the names that a term may read there
abbrev pub names_of : List Declaration → Arrays → Map Sort → Names
names_of ds variables indices = record { function = is_function ds; variable = λ x. is_some (variable_in (arrays_of variables) x); index = λ i. is_some (above_of indices i) }

-- what a node of a term names is there
abbrev pub is_known_head : Names → Head → Bool
is_known_head known (Leaf x) = known.index x || (known.function x || known.variable x)
is_known_head known (Read x) = known.variable x
is_known_head known (Apply f) = known.function f
is_known_head known h = true

-- what a cell without indices names is a variable
abbrev pub is_known_cell : (variable : ℕ → Bool) → Tree → Bool
is_known_cell variable (Node (Leaf x) a b) = variable x
is_known_cell variable c = true

-- so it is with each node of a tree, and it is typed
unfoldable pub is_typed_tree : Names → Signature → Above → Want → Tree → Bool
is_typed_tree known e above w Empty = true
is_typed_tree known e above w (Node h a b) =
    (is_known_head known h && not (is_some (fault_of e above w h a)))
    && (is_typed_tree known e above (wants e above w h a).0 a && is_typed_tree known e above (wants e above w h a).1 b)
