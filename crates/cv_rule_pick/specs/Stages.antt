-- A row in stages, as the code goes through its conditions. This profile's own.
use Rattle.std.specs.Prelude.{◌≡◌, ℕ, ◌<◌, not, length, List, Option, Some, None}
use Rattle.cv_pool.specs.Nodes.{ChildBelow}
use Rattle.cv_pool.specs.KindTree.{KindTree}
use Rattle.cv_syntax_trees.specs.Tree.{Tree, size}
use Rattle.cv_scope_rules.specs.Made.{is_own_at}
use Rattle.cv_scene.specs.Scenes.{Scene, part_at}
use Rattle.cv_scene.specs.Terms.{replications_at}
use Rattle.cv_steps.specs.Rows.{unless, unless_at, unless_derived}
use Rattle.cv_steps.specs.Steps.{Row}
use Rattle.cv_edit_places.specs.Plans.{failing}
use Rattle.cv_edit_places.specs.declared.plan.Failure.{Failure}
use Rattle.cv_costs.specs.names.Naming.{is_one_queried}
use Rattle.cv_rule_pick.specs.Looks.{IsLiveBranch, arm_of}
use Rattle.cv_rule_pick.specs.Picking.{Arm, body_place, equations, guards_with, only_arm, own_cells}
use Rattle.cv_rule_pick.specs.Row.{first_other}
use Rattle.cv_rule_pick.specs.declared.branches.OnlyBranch.{OnlyBranch}
use Rattle.cv_rule_pick.specs.declared.targets.Given.{Given}

-- what the derivations ask, before the rest of a row
abbrev pub derived_row : Scene → (place : ℕ) → (terms at_body at_find : Tree) → Arm → Row → Row
derived_row s p ms d e a rest =
    unless_derived s (body_place p a) d (equations (own_cells s p a) ms) 2 3 (unless_derived s p e (guards_with (own_cells s p a) ms a) 4 5 rest)

-- what is asked of the names of index variables
abbrev pub named_row : Scene → (place : ℕ) → Arm → Row → Row
named_row s p a rest = unless (not (is_one_queried s (is_own_at (part_at s.game p)))) 6 0 (unless_at 6 (first_other s p a) rest)

-- a stage fails so, or its conditions hold and the rest is left
abbrev pub IsStage : Option Failure → Row → Row → Type 0
IsStage None row rest = row ≡ rest
IsStage (Some f) row rest = failing row ≡ Some f

-- the branch of a `find` that stands at a place, with the terms for its index variables
pub record IsGiven (trees : List KindTree) (s : Scene) (place : ℕ) (b : OnlyBranch) (g : Given) : Type 0 where
  pub arm : only_arm (part_at s.game place) ≡ Some (arm_of trees b)
  pub live : IsLiveBranch (length trees) b
  pub binders : g.binders ≡ b.binders
  pub replications : g.replications.now ≡ replications_at s place
  pub terms : ChildBelow (length trees) g.terms
  pub there : place < size s.game
