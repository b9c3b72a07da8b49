-- Constructs part by part, as the code goes through them. This profile's own.
use Rattle.std.specs.Prelude.{ℕ, ◌+◌, if◌then◌else◌, Option, Some, None}
use Rattle.cv_syntax_trees.specs.declared.head.Head.{Head}
use Rattle.cv_syntax_trees.specs.declared.head.Head.TheVariants.{Branch, Cons}
use Rattle.cv_syntax_trees.specs.Tree.{Tree, Node, first, second, second_place, size}
use Rattle.cv_syntax_trees.specs.sites.Sites.{first_of}
use Rattle.cv_scope_rules.specs.Made.{is_bound}
use Rattle.cv_scene.specs.Scenes.{first_reading}

-- the branch of a link of a list: its indices, and what stands behind them
abbrev pub arm_in : Head → Tree → Option (Tree × Tree)
arm_in Cons (Node Branch us rest) = Some (us, rest)
arm_in h t = None

-- the first place where a branch that stands at a place names the variable before its body
abbrev pub naming_before : (x place : ℕ) → (us rest : Tree) → Option ℕ
naming_before x p us rest =
    if is_bound us x then Some p
    else first_of (first_reading x (second_place p Branch us) (first rest)) (first_reading x (second_place p Branch us + size (first rest)) (first (second rest)))
