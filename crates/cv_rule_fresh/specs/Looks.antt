-- What the code looks at: choices, the sides of an equality, and whether a cell is known on the way to a place.
use Rattle.std.specs.Prelude.{◌≡◌, ℕ, Bool, true, List, [], ◌∷◌, Result, Ok, Err, Some, nat_lt, if◌then◌else◌}
use Rattle.std.specs.List.{list_any}
use Rattle.cv_pool.specs.KindTree.{KindTree}
use Rattle.cv_syntax_trees.specs.declared.head.Head.{Head}
use Rattle.cv_syntax_trees.specs.declared.head.Head.TheVariants.{Cons}
use Rattle.cv_syntax_trees.specs.Tree.{Tree, Empty, Node, same_tree}
use Rattle.cv_syntax.specs.PoolTrees.{tree_at}
use Rattle.cv_scope_rules.specs.declared.position.Position.{Position}
use Rattle.cv_scope_rules.specs.declared.position.Position.TheVariants.{Cells, Guarded, Guards}
use Rattle.cv_scope_rules.specs.Context.{Context, items}
use Rattle.cv_scope_rules.specs.Rules.{Names}
use Rattle.cv_scope_rules.specs.Tests.{reads_in_reach}
use Rattle.cv_derive_reasons.specs.cells.Cells.{defined_second}
use Rattle.cv_scene.specs.lines.Truths.{no}
use Rattle.cv_scene.specs.Scenes.{Scene}
use Rattle.cv_steps.specs.Changes.{change_at}
use Rattle.cv_steps.specs.Steps.{Leads, Row}
use Rattle.cv_edit_places.specs.Parts.{AreLive, made_by, stack_of}
use Rattle.cv_edit_places.specs.Plans.{failing}
use Rattle.cv_edit_places.specs.declared.parts.Parts.{Parts}
use Rattle.cv_edit_places.specs.declared.plan.Failure.{Failure}
use Rattle.cv_costs.specs.Collisions.{one_for_each}
use Rattle.cv_rule_fresh.specs.collisions.Choices as choices
use Rattle.cv_rule_fresh.specs.collisions.Choices.{parameters_at}
use Rattle.cv_rule_fresh.specs.collisions.Equalities as equalities
use Rattle.cv_rule_fresh.specs.declared.choices.Choice.{Choice}
use Rattle.cv_rule_fresh.specs.declared.reach.Seen.{Seen}
use Rattle.cv_rule_fresh.specs.declared.sides.Equality.{Equality}

abbrev pub choice_of : Choice → choices.Choice
choice_of c = record { place = c.place; type = c.of_type }

abbrev pub equality_of : List KindTree → Equality → equalities.Equality
equality_of trees e = record { left = tree_at trees e.left; right = tree_at trees e.right }

-- whether a cell is among those that are known, and among those of the indices of the branch around
pub record Sees (cell : Tree) (Γ : Context) (s : Seen) : Type 0 where
  pub defined : s.defined ≡ list_any (same_tree cell) Γ.cells
  pub own : s.own ≡ list_any (same_tree cell) Γ.own

-- the cells that are known besides at the second child of a node

abbrev pub entered_rest : Position → Tree → Context → List Tree
entered_rest Guards a Γ = items a
entered_rest Guarded a Γ = Γ.own
entered_rest Cells a Γ = a ∷ []
entered_rest w a Γ = []

abbrev pub entered_cells : Position → Head → Tree → Context → List Tree
entered_cells w Cons a Γ = entered_rest w a Γ
entered_cells w h a Γ = defined_second w h a Γ

-- what a node reads is in scope
abbrev pub reads_here : Names → Context → Tree → Bool
reads_here names Γ Empty = true
reads_here names Γ (Node h a b) = reads_in_reach names Γ h a b

-- a row leads to the game with `false` at the place, by this choice; or this condition fails
abbrev pub IsChosen : Scene → (place : ℕ) → Row → Result Choice Failure → Type 0
IsChosen s p row (Ok c) = row ≡ Leads (change_at s.game p (λ old. no)) (one_for_each s.declarations (parameters_at s c.place) c.of_type)
IsChosen s p row (Err f) = failing row ≡ Some f

-- of two conditions that fail the later one, or the first
abbrev pub later_failure : (first second : Failure) → Failure
later_failure f g = if nat_lt f.condition g.condition then g else f

-- parts that build `false` by one node
pub record IsFalsity (parts : Parts) : Type 0 where
  pub made : made_by parts ≡ 1
  pub live : (n : ℕ) → AreLive n parts
  pub stack : (trees : List KindTree) → stack_of trees parts ≡ no ∷ []
