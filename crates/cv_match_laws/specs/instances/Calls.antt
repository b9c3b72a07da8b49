-- What is known of an instance that is found in a game. This profile's own.
use Rattle.std.specs.Prelude.{◌≡◌, List, Some}
use Rattle.cv_syntax_trees.specs.Declarations.{Declaration}
use Rattle.cv_syntax_trees.specs.Tree.{Tree}
use Rattle.cv_meaning.specs.contexts.Groups.{function_at}
use Rattle.cv_scene.specs.Instances.{Call, IsInstance, Matching}
use Rattle.cv_scene.specs.LeftTerms.{IsLeftFunction}

-- the term is an instance of the function, which stands at its position in the group
pub record IsCallAt (ds : List Declaration) (M : Matching) (term : Tree) (c : Call) : Type 0 where
  pub instance : IsInstance M c.function c.instance term
  pub left : IsLeftFunction ds M.group c.function
  pub function : function_at M.group c.position ≡ Some c.function
