-- The shape of a context: how often keys are chosen in it, and how often each function of the left side is called. Each number is a
-- product of parameters. This profile's own.
use Rattle.std.specs.Prelude.{ℕ, suc, List, [], ◌∷◌, Option, Some, None}
use Rattle.cv_syntax_trees.specs.declared.head.Head.TheVariants.{Oracle}
use Rattle.cv_syntax_trees.specs.Tree.{Tree, Empty, Node, second}
use Rattle.cv_meaning.specs.contexts.Groups.{Left, side_tree}
use Rattle.cv_scene.specs.Contexts.{calls_of, matching_of, parameters_of}
use Rattle.cv_scene.specs.Refusals.{new_of}
use Rattle.cv_scene.specs.Scenes.{Scene}
use Rattle.cv_scene.specs.Sites.{Site, sites_of}

pub record Shape : Type 0 where
  pub key : ℕ
  pub keys : List ℕ
  pub calls : List (ℕ × List (List ℕ))  -- the name of each function, with a product for each of its sites

-- the name of a function
abbrev pub name_of : Tree → ℕ
name_of (Node (Oracle f) a b) = f
name_of f = 0

-- the calls of the functions of a list, the first of which has this position
unfoldable pub calls_from : List Site → (position : ℕ) → Tree → List (ℕ × List (List ℕ))
calls_from ss k Empty = []
calls_from ss k (Node h f more) = (name_of f, calls_of ss k) ∷ calls_from ss (suc k) more

-- the parameters above a definition
abbrev pub keys_by : Option (ℕ × List (ℕ × ℕ)) → List ℕ
keys_by None = []
keys_by (Some d) = parameters_of d.1

-- the shape of the context of a game, for an equivalence and a key
unfoldable pub shape_of : Scene → (equivalence : Tree) → (key : ℕ) → Shape
shape_of s e x = record {
  key = x;
  keys = keys_by (new_of s.game x);
  calls = calls_from (sites_of (matching_of s e x)) 0 (second (side_tree Left e));
}
