-- What is looked for in a game by the code's search for it.
use Rattle.std.specs.Prelude.{Bool, ◌&&◌}
use Rattle.cv_pool.specs.PoolView.{PoolView}
use Rattle.cv_syntax.specs.Classes.{DeclsView}
use Rattle.cv_syntax_trees.specs.Tree.{Tree}
use Rattle.cv_syntax.specs.PoolTrees.{tree_at}
use Rattle.cv_meaning.specs.contexts.Groups.{Function, group_of}
use Rattle.cv_scene.specs.Sights.{variable_of}
use Rattle.cv_scene_view.specs.Kept.{scene_of}
use Rattle.cv_scene.specs.Instances.{Matching, are_of_types, guess, is_argument_of, is_coin_of, is_read_of}
use Rattle.cv_match_terms.specs.declared.patterns.search.Search.{Search}

abbrev pub matching_by : PoolView → DeclsView → Search → Matching
matching_by pool decls s = record { scene = scene_of pool decls s.game; group = group_of (tree_at pool.trees s.side); key = s.key }

-- each of these terms may stand for its name
unfoldable pub is_typed : Matching → Function → Tree → Bool
is_typed M f m =
    is_read_of M.key (variable_of (guess M.group f m).key)
    && (are_of_types (is_coin_of M) f.coins (guess M.group f m).coins && are_of_types (is_argument_of M) f.arguments (guess M.group f m).arguments)
