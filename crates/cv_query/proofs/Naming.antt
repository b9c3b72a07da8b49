-- A place that no game has.
use Rattle.std.proofs.Common.{◌≡◌, ℕ, ◌<◌, ◌^◌, arith, sym, ap}
use Rattle.cv_syntax_trees.specs.Tree.{Tree, Empty, first, size}
use Rattle.cv_syntax.proofs.Trees.{tree_of_NoTree}
use Rattle.cv_path.proofs.Bounds.{no_subtree}
use Rattle.cv_scene.specs.Scenes.{or_empty}
use Rattle.cv_query_certificates.specs.EventNodes.{arguments_at}

pub far_away : (game : Tree) (q : ℕ) → size game < 2 ^ 32 → 4294967295 < q → Empty ≡ arguments_at game q
far_away game q s l = sym (ap (λ o. first (or_empty o)) ((no_subtree game q).1 (omega (arith, s, l))))

pub ruleset naming = (tree_of_NoTree)
