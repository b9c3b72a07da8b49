-- What the code has of a scene.
use Rattle.std.specs.Prelude.{ℕ, Bool, true, false, ◌&&◌, ◌||◌, is_some, nat_lt, List, Some}
use Rattle.cv_syntax_trees.specs.declared.class.Class.{Class}
use Rattle.cv_syntax_trees.specs.declared.class.Class.TheVariants.{TypeName}
use Rattle.cv_pool.specs.declared.node.NodeId.{NodeId}
use Rattle.cv_pool.specs.PoolView.{PoolView}
use Rattle.cv_syntax.specs.Classes.{DeclsView}
use Rattle.cv_syntax_trees.specs.Declarations.{Declaration}
use Rattle.cv_syntax.specs.Declarations.{declarations}
use Rattle.cv_syntax_trees.specs.declared.head.Head.{Head}
use Rattle.cv_syntax_trees.specs.declared.head.Head.TheVariants.{Repl}
use Rattle.cv_syntax.specs.PoolTrees.{tree_at}
use Rattle.cv_typing.specs.declared.arrays.Arrays.{Arrays}
use Rattle.cv_scope_rules.specs.typing.Signature.{Above, index_in, variable_in}
use Rattle.cv_typing.specs.Tables.{Map, above_of, arrays_of}
use Rattle.cv_scope_rules.specs.declared.typing.precedence.Precedence.TheVariants.{First}
use Rattle.cv_scope_rules.specs.typing.Wants.{bound}
use Rattle.cv_syntax_trees.specs.declared.sites.sort.Sort.{Sort}
use Rattle.cv_syntax_trees.specs.declared.sites.sort.Sort.TheVariants.{BelowParameter}
use Rattle.cv_scene.specs.Scenes.{Scene}
use Rattle.cv_scene.specs.Terms.{Names, is_function}

-- the scene of the game at a node: the names below the number of a file's own names are known
abbrev pub scene_of : PoolView → DeclsView → NodeId → Scene
scene_of pool decls game = record {
  declarations = declarations pool.trees decls.list;
  known = λ x. nat_lt x decls.own;
  game = tree_at pool.trees (Some game);
}

abbrev pub is_type_class : Class → Bool
is_type_class (TypeName fixed large) = true
is_type_class c = false

-- what is there to read: the variables of a game, and the indices above a place or of the whole game

abbrev pub has_variable : Arrays → ℕ → Bool
has_variable arrays x = is_some (variable_in (arrays_of arrays) x)

abbrev pub has_index_name : Map Sort → Arrays → (everywhere : Bool) → ℕ → Bool
has_index_name above arrays everywhere i = is_some (above_of above i) || (everywhere && is_some (index_in (arrays_of arrays) i))

abbrev pub names_there : List Declaration → Map Sort → Arrays → (everywhere : Bool) → Names
names_there ds above arrays everywhere = record { function = is_function ds; variable = has_variable arrays; index = has_index_name above arrays everywhere }

-- the names above the continuation of a node: an index that is there stays
abbrev pub above_behind : Head → Above → Above
above_behind (Repl i n) above = bound First above i (BelowParameter n)
above_behind h above = above
