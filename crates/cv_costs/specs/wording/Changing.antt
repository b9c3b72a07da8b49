-- A tree where what stands at several places is changed, each in the same way. This profile's own.
use Rattle.std.specs.Prelude.{◌≡◌, ℕ, ◌<◌, Bool, true, ◌&&◌, nat_lt, if◌then◌else◌}
use Rattle.cv_syntax_trees.specs.declared.head.Head.{Head}
use Rattle.cv_syntax_trees.specs.Head.{weight}
use Rattle.cv_syntax_trees.specs.Tree.{Tree, Empty, Node, first_place, second_place, size}
use Rattle.cv_meaning.specs.Still.{is_still}
use Rattle.cv_scope_rules.specs.Phrases.{Inputs}
use Rattle.cv_steps.specs.Rewriting.{has_term_at}

-- a node that has a place stands at one of these
abbrev pub is_changed : (places : ℕ → Bool) → (at : ℕ) → Head → Bool
is_changed places p h = nat_lt 0 (weight h) && places p

-- The tree, which stands at a place, changed at these places of the game; a place in what is changed goes with it.
unfoldable pub changed_at : (places : ℕ → Bool) → (change : Tree → Tree) → (at : ℕ) → Tree → Tree
changed_at places change p Empty = Empty
changed_at places change p (Node h a b) =
    if is_changed places p h then change (Node h a b)
    else Node h (changed_at places change (first_place p h) a) (changed_at places change (second_place p h a) b)

-- at each of the places stands a term of a construct or of the condition of a branch, in no index and in no cell
abbrev pub AreTermsAt : (places : ℕ → Bool) → (game : Tree) → Type 0
AreTermsAt places game = (p : ℕ) → places p ≡ true → p < size game → has_term_at Inputs game p ≡ true

-- what has no construct with a body has none when it is changed
abbrev pub KeepsStill : (Tree → Tree) → Type 0
KeepsStill change = (t : Tree) → is_still t ≡ true → is_still (change t) ≡ true
