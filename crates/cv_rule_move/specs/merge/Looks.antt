-- Constructs, their bodies and places, as the code looks at them.
use Rattle.std.specs.Prelude.{ℕ, Bool, ◌||◌, if◌then◌else◌, List, [], ◌∷◌, Option, Some, None}
use Rattle.cv_pool.specs.KindTree.{KindTree}
use Rattle.cv_syntax_trees.specs.declared.head.Head.{Head}
use Rattle.cv_syntax_trees.specs.declared.head.Head.TheVariants.{Branch, Cons}
use Rattle.cv_syntax_trees.specs.Tree.{Tree, Node}
use Rattle.cv_syntax.specs.PoolTrees.{tree_at}
use Rattle.cv_scope_rules.specs.Made.{is_own_at}
use Rattle.cv_scene.specs.Scenes.{Scene}
use Rattle.cv_rule_move.specs.merge.Merging.{Body}
use Rattle.cv_costs.specs.names.Naming.{first_naming, is_between, is_one_queried}
use Rattle.cv_rule_move.specs.declared.merge.bodies.Body.{Body as Found}
use Rattle.cv_rule_move.specs.declared.merge.naming.Skip.{Skip}

-- the branch of a link of a list: its binders, and what stands behind them
abbrev pub arm_in : Head → Tree → Option (Tree × Tree)
arm_in Cons (Node Branch us rest) = Some (us, rest)
arm_in h t = None

abbrev pub body_at : List KindTree → Found → Body
body_at trees b = record { place = b.place; process = tree_at trees b.process }

abbrev pub first_in : List Body → Option Body
first_in [] = None
first_in (b ∷ bs) = Some b

-- the places that are passed over
abbrev pub is_skipped : Skip → ℕ → Bool
is_skipped c p = is_between c.from c.body p || is_between c.behind_body c.behind p

-- where a game names an index variable of a construct besides; a query stands before all places
abbrev pub first_besides : Scene → (construct : Tree) → (skip : ℕ → Bool) → Option ℕ
first_besides s t skip = if is_one_queried s (is_own_at t) then Some 0 else first_naming (is_own_at t) skip 0 s.game
