-- Bodies that are not reached, by what is plainly known, and tests whose bodies may be one. This profile's own.
use Rattle.std.specs.Prelude.{ℕ, suc, ◌+◌, Bool, true, false, ◌&&◌, ◌||◌, List, [], ◌∷◌, ◌++◌, flat_map, Option, Some, None, option_and_then}
use Rattle.std.specs.List.{list_any}
use Rattle.cv_syntax_trees.specs.declared.head.Head.TheVariants as head
use Rattle.cv_syntax_trees.specs.declared.head.Head.TheVariants.{Cons, Eq, Find, If, Not}
use Rattle.cv_syntax_trees.specs.Tree.{Tree, Empty, Node, first, first_place, same_tree, second, second_place, size}
use Rattle.cv_scope_rules.specs.Behind.{in_body, sites_of}
use Rattle.cv_scope_rules.specs.Context.{Context, items}
use Rattle.cv_scene.specs.Late.{index_term, is_late_one}
use Rattle.cv_scene.specs.Pruning.{Branch, Else, Then}
use Rattle.cv_scene.specs.Sights.{only_site, variable_of}
use Rattle.cv_scene.specs.lines.Truths.{no, yes}
use Rattle.cv_settling_rules.specs.Candidates.{Candidate, Merge, Prune, when}
use Rattle.cv_settling_rules.specs.Conjuncts.{conjuncts, is_among}
use Rattle.cv_settling_rules.specs.Spots.{Spot, spots}

-- conditions, where these conjuncts are known

-- one is the negation of the other
abbrev pub are_opposed : Tree → Tree → Bool
are_opposed m n = same_tree m (Node Not n Empty) || same_tree n (Node Not m Empty)

-- it doesn't hold
abbrev pub is_refuted : (known : List Tree) → (condition : Tree) → Bool
is_refuted ts c = same_tree c no || list_any (are_opposed c) ts

-- it holds
abbrev pub is_certain : (known : List Tree) → (condition : Tree) → Bool
is_certain ts c = same_tree c yes || is_among ts c

-- cells of a `defined` list

-- `false` is a conjunct there
abbrev pub is_absurd : Option Context → Bool
is_absurd None = false
is_absurd (Some Γ) = is_among (conjuncts Γ.facts) no

-- it is so behind the only definition of the cell's variable
abbrev pub is_never_defined : (game cell : Tree) → Bool
is_never_defined game c = is_absurd (option_and_then (λ x. only_site (sites_of game x)) (variable_of c))

-- the terms are the outermost current indices: each is the index itself, or a conjunct says that they are equal

abbrev pub is_index_by : (known : List Tree) → (index term : Tree) → Bool
is_index_by ts i m = same_tree m i || (is_among ts (Node Eq m i) || is_among ts (Node Eq i m))

abbrev pub are_current_by : (known : List Tree) → List (ℕ × ℕ) → (terms : List Tree) → Bool
are_current_by ts rs [] = true
are_current_by ts (r ∷ rs) (m ∷ ms) = is_index_by ts (index_term r) m && are_current_by ts rs ms
are_current_by ts [] (m ∷ ms) = false

-- it is one at current indices of a variable that comes later than the body
abbrev pub is_late_in : (game : Tree) → (body : ℕ) → Context → (cell : Tree) → Bool
is_late_in game p Γ c = is_late_one (variable_of c) game p && are_current_by (conjuncts Γ.facts) Γ.replications (items (first c))

-- branches

-- one of these cells is not there where the body stands
abbrev pub has_lost_cell : (game : Tree) → (body : ℕ) → Context → (cells : Tree) → Bool
has_lost_cell game p Γ cs = list_any (is_never_defined game) (items cs) || list_any (is_late_in game p Γ) (items cs)

-- where what stands in a body at a place is behind the condition and the cells
abbrev pub is_unreached : (game : Tree) → (body : ℕ) → Context → (cells condition : Tree) → Bool
is_unreached game p Γ cs c = same_tree c no || has_lost_cell game p Γ cs

-- the place of the body of a branch that stands at a place
abbrev pub body_place : (place : ℕ) → (indices rest : Tree) → ℕ
body_place p us rest = second_place p head.Branch us + size (first rest) + size (first (second rest))

-- of a list of branches that stands at a place, numbered from k on, those whose body isn't reached
abbrev pub branch_prunings : (game : Tree) → Context → (find place k : ℕ) → (branches : Tree) → List Candidate
branch_prunings game Γ f p k (Node Cons (Node head.Branch us rest) more) =
    when (is_unreached game (body_place (first_place p Cons) us rest) (in_body Γ us (first rest) (first (second rest))) (first rest) (first (second rest)))
    (Prune f (Branch k))
    ++ branch_prunings game Γ f (second_place p Cons (Node head.Branch us rest)) (suc k) more
branch_prunings game Γ f p k branches = []

-- of a construct at a place, the bodies that may go: of an `if` the `then` body before the other one
abbrev pub prunings_of : (game : Tree) → Context → (place : ℕ) → Tree → List Candidate
prunings_of game Γ p (Node If c bodies) =
    when (is_refuted (conjuncts Γ.facts) c) (Prune p Then) ++ when (is_certain (conjuncts Γ.facts) c) (Prune p Else)
prunings_of game Γ p (Node (Find l) branches e) = branch_prunings game Γ p (first_place p (Find l)) 1 branches
prunings_of game Γ p t = []

abbrev pub prunings : (game : Tree) → List Candidate
prunings game = flat_map (λ (v : Spot). prunings_of game v.above v.place v.tree) (spots game)

-- each `if` and each `find`, which may become its body
abbrev pub mergers_of : (place : ℕ) → Tree → List Candidate
mergers_of p (Node If c bodies) = Merge p ∷ []
mergers_of p (Node (Find l) branches e) = Merge p ∷ []
mergers_of p t = []

abbrev pub mergers : (game : Tree) → List Candidate
mergers game = flat_map (λ (v : Spot). mergers_of v.place v.tree) (spots game)
