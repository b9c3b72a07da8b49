-- Whether a variable comes later than the body of a branch, as the place of its `find` tells. This profile's own.
use Rattle.std.specs.Prelude.{◌≡◌, ℕ, ◌+◌, Bool, true, false, ◌&&◌, not, ◌⊎◌, Some}
use Rattle.cv_syntax_trees.specs.declared.head.Head.{Head}
use Rattle.cv_syntax_trees.specs.declared.head.Head.TheVariants.{Branch, Cons, Find}
use Rattle.cv_syntax_trees.specs.Head.{weight}
use Rattle.cv_syntax_trees.specs.Tree.{Tree, Empty, Node, first_place, second_place, size, subtree}
use Rattle.cv_scope_rules.specs.Made.{is_bound}
use Rattle.cv_scene.specs.Late.{is_late}

-- a branch has its list, its condition and its body, one behind another
abbrev pub has_parts : Head → (second : Tree) → Bool
has_parts Branch (Node Cons cells (Node Cons c body)) = true
has_parts Branch t = false
has_parts h t = true

-- so does each branch in the tree
unfoldable pub has_whole_branches : Tree → Bool
has_whole_branches Empty = true
has_whole_branches (Node h a b) = has_parts h b && (has_whole_branches a && has_whole_branches b)

-- it is an item of a list that stands at a place, and stands itself at the other one
abbrev pub IsItem : (list : Tree) → (place : ℕ) → (item : Tree) → (at : ℕ) → Type 0
IsItem Empty p t q = ⊥
IsItem (Node h a b) p t q = ((h ≡ Cons) × (a ≡ t) × (q ≡ p)) ⊎ ((h ≡ Cons) × IsItem b (p + size a) t q)

-- A variable comes later than the body of a branch, which begins with a construct, exactly where it comes later than the `find` and isn't
-- one of the branch's indices.
abbrev pub LateAtABody : Type 0
LateAtABody =
    (game : Tree) → has_whole_branches game ≡ true
    → (f l : ℕ) (branches otherwise : Tree) → subtree game f ≡ Some (Node (Find l) branches otherwise)
    → (q : ℕ) (us cells c : Tree) (h : Head) (a b : Tree) → IsItem branches (first_place f (Find l)) (Node Branch us (Node Cons cells (Node Cons c (Node h a b)))) q → weight h ≡ 1
    → (x : ℕ) → is_late x game (second_place q Branch us + size cells + size c) ≡ (is_late x game f && not (is_bound us x))
