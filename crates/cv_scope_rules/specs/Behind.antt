-- What stands in the parts of a branch, and behind the definitions of a variable. A variable's site is its only definition.
-- Blanchet, TDSC 2008, section 2.
use Rattle.std.specs.Prelude.{ℕ, if◌then◌else◌, List, [], ◌∷◌, ◌++◌}
use Rattle.cv_syntax_trees.specs.declared.head.Head.{Head}
use Rattle.cv_syntax_trees.specs.declared.head.Head.TheVariants.{Branch, Cons}
use Rattle.cv_syntax_trees.specs.Tree.{Tree, Empty, Node, first_place, second_place}
use Rattle.cv_scope_rules.specs.declared.position.Position.{Position}
use Rattle.cv_scope_rules.specs.declared.position.Position.TheVariants as position
use Rattle.cv_scope_rules.specs.Context.{Context, first_position, nothing_known, second_position}
use Rattle.cv_scope_rules.specs.Sites.{Variable}
use Rattle.cv_scope_rules.specs.Made.{made_by}
use Rattle.cv_scope_rules.specs.Above.{first_standing, second_standing}

-- what stands in a branch's list, in its condition and in its body
abbrev pub in_list : Context → Tree → Context
in_list Γ us = second_standing position.Anywhere Branch us Γ

abbrev pub in_condition : Context → (us cells : Tree) → Context
in_condition Γ us cells = second_standing position.Guards Cons cells (in_list Γ us)

abbrev pub in_body : Context → (us cells c : Tree) → Context
in_body Γ us cells c = second_standing position.Guarded Cons c (in_condition Γ us cells)

-- what stands behind a definition; behind a branch, that is in its body
abbrev pub behind_site : Head → Tree → Tree → Context → Context
behind_site Branch us (Node h cells (Node k c body)) Γ = in_body Γ us cells c
behind_site h a b Γ = second_standing position.Anywhere h a Γ

-- the definitions of a variable: their places, and what stands behind each
unfoldable pub sites_in : ℕ → Position → Context → ℕ → Tree → List (ℕ × Context)
sites_in x w Γ p Empty = []
sites_in x w Γ p (Node h a b) =
    (if made_by h a (Variable x) then (p, behind_site h a b Γ) ∷ [] else [])
    ++ (sites_in x (first_position w h) (first_standing w h Γ) (first_place p h) a ++ sites_in x (second_position w h) (second_standing w h a Γ) (second_place p h a) b)

abbrev pub sites_of : Tree → ℕ → List (ℕ × Context)
sites_of game x = sites_in x position.Anywhere nothing_known 0 game
