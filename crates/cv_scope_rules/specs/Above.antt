-- What a derivation may cite at a place of a game: the facts there, from the root down, and the cells that are directly
-- defined. A `let` above the place gives an equation, an `if` its condition or that it doesn't hold, a branch its condition.
-- Directly defined are the variables that are defined above, at the current indices, and the cells of the `defined` lists
-- of the branches whose condition or body holds the place. Blanchet, TDSC 2008; the order of the facts is this profile's own.
use Rattle.std.specs.Prelude.{ℕ, ◌+◌, ◌-◌, nat_lt, if◌then◌else◌, [], ◌++◌, Option, Some, None}
use Rattle.cv_syntax_trees.specs.declared.head.Head.{Head}
use Rattle.cv_syntax_trees.specs.declared.head.Head.TheVariants.{Repl, Branch, Cons, Not}
use Rattle.cv_syntax_trees.specs.Head.{weight}
use Rattle.cv_syntax_trees.specs.Tree.{Tree, Empty, Node, size}
use Rattle.cv_scope_rules.specs.declared.position.Position.{Position}
use Rattle.cv_scope_rules.specs.declared.position.Position.TheVariants.{Anywhere, Bodies, ElseBody, Guards, Guarded}
use Rattle.cv_scope_rules.specs.Context.{Context, cells_of, first_position, items, nothing_known, replications_below, second_context, second_position, with_cells, with_fact}

-- a condition that holds, or that doesn't, if there is one
abbrev pub with_held : Context → Tree → Context
with_held Γ Empty = Γ
with_held Γ (Node h a b) = with_fact Γ (Node h a b)

abbrev pub with_failed : Context → Tree → Context
with_failed Γ Empty = Γ
with_failed Γ (Node h a b) = with_fact Γ (Node Not (Node h a b) Empty)

-- at the item and at the rest of a list
abbrev pub item_standing : Position → Context → Context
item_standing Bodies Γ = with_held Γ Γ.tested
item_standing ElseBody Γ = with_failed Γ Γ.tested
item_standing w Γ = Γ

abbrev pub rest_standing : Position → Tree → Context → Context
rest_standing Guards a Γ = with_cells Γ (items a)
rest_standing Guarded a Γ = with_held (record Γ { cells = Γ.cells ++ Γ.own; own = [] }) a
rest_standing w a Γ = Γ

-- at the first and at the second child of a node
abbrev pub first_standing : Position → Head → Context → Context
first_standing w Cons Γ = item_standing w Γ
first_standing w h Γ = Γ

abbrev pub second_standing : Position → Head → Tree → Context → Context
second_standing w Cons a Γ = rest_standing w a Γ
second_standing w Branch a Γ = record Γ { own = cells_of Γ.replications a }
second_standing w (Repl i n) a Γ = record Γ { replications = replications_below (Repl i n) Γ.replications; own = [] }
second_standing w h a Γ = second_context w h a Γ

-- what stands above a place of a tree, if there is such a place
unfoldable pub standing_at : Position → Context → Tree → ℕ → Option Context
standing_at w Γ Empty p = None
standing_at w Γ (Node h a b) p =
    if nat_lt p (weight h) then Some Γ
    else if nat_lt p (weight h + size a) then standing_at (first_position w h) (first_standing w h Γ) a (p - weight h)
    else standing_at (second_position w h) (second_standing w h a Γ) b (p - (weight h + size a))

abbrev pub stands_at : Tree → ℕ → Option Context
stands_at game p = standing_at Anywhere nothing_known game p
