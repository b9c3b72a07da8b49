-- The facts at a place of a game, from the root down, each with what it is: the equation of a `let` above the place, a
-- condition that holds there, or one that doesn't. Blanchet, TDSC 2008; their order is this profile's own.
use Rattle.std.specs.Prelude.{◌≡◌, ℕ, ◌+◌, ◌-◌, nat_lt, if◌then◌else◌, List, [], ◌∷◌, ◌++◌, length, map, take, slice_get, Option, Some, None, option_map, option_and_then}
use Rattle.cv_pool.specs.KindTree.{KindTree}
use Rattle.cv_syntax_trees.specs.declared.head.Head.{Head}
use Rattle.cv_syntax_trees.specs.declared.head.Head.TheVariants.{Let, Eq, Not, Cons}
use Rattle.cv_syntax_trees.specs.Head.{weight}
use Rattle.cv_syntax_trees.specs.Tree.{Tree, Empty, Node, size}
use Rattle.cv_syntax.specs.PoolTrees.{tree_at}
use Rattle.cv_scope_rules.specs.declared.position.Position.{Position}
use Rattle.cv_scope_rules.specs.declared.position.Position.TheVariants.{Anywhere, Bodies, ElseBody, Guarded}
use Rattle.cv_scope_rules.specs.Context.{Context, cell_of, first_position, nothing_known, second_position}
use Rattle.cv_derive_facts.specs.declared.known.Fact.{Fact}
use Rattle.cv_derive_facts.specs.declared.known.Fact.TheVariants as fact
use Rattle.cv_scope_rules.specs.Above.{first_standing, second_standing}

-- the equation of a `let` with so many replications above it, a condition that holds, or one that doesn't
pub data FactAt : Type 0 where
  Defines : (above : ℕ) → (definition : Tree) → FactAt
  Holds Fails : (condition : Tree) → FactAt

-- a fact about a condition, if there is one
abbrev pub about : (Tree → FactAt) → Tree → List FactAt
about kind Empty = []
about kind (Node h a b) = kind (Node h a b) ∷ []

-- what a node gives to the places of its first and of its second child
abbrev pub item_facts : Position → Context → List FactAt
item_facts Bodies Γ = about Holds Γ.tested
item_facts ElseBody Γ = about Fails Γ.tested
item_facts w Γ = []

abbrev pub first_facts : Position → Head → Context → List FactAt
first_facts w Cons Γ = item_facts w Γ
first_facts w h Γ = []

abbrev pub rest_facts : Position → Tree → List FactAt
rest_facts Guarded a = about Holds a
rest_facts w a = []

abbrev pub second_facts : Position → Head → (a b : Tree) → Context → List FactAt
second_facts w Cons a b Γ = rest_facts w a
second_facts w (Let x T) a b Γ = Defines (length Γ.replications) (Node (Let x T) a b) ∷ []
second_facts w h a b Γ = []

-- the facts that stand between a tree and a place of it, if there is such a place
unfoldable pub facts_from : Position → Context → Tree → ℕ → Option (List FactAt)
facts_from w Γ Empty p = None
facts_from w Γ (Node h a b) p =
    if nat_lt p (weight h) then Some []
    else if nat_lt p (weight h + size a) then option_map (λ fs. first_facts w h Γ ++ fs) (facts_from (first_position w h) (first_standing w h Γ) a (p - weight h))
    else option_map (λ fs. second_facts w h a b Γ ++ fs) (facts_from (second_position w h) (second_standing w h a Γ) b (p - (weight h + size a)))

abbrev pub facts_at : Tree → ℕ → Option (List FactAt)
facts_at game p = facts_from Anywhere nothing_known game p

-- the k-th of them, from 1
abbrev pub fact_at : Tree → ℕ → ℕ → Option FactAt
fact_at game p k = option_and_then (λ fs. slice_get fs (k - 1)) (facts_at game p)

-- what an answer tells
abbrev pub fact_of : List KindTree → Fact → FactAt
fact_of trees (fact.Defines n k) = Defines k (tree_at trees (Some n))
fact_of trees (fact.Holds n) = Holds (tree_at trees (Some n))
fact_of trees (fact.Fails n) = Fails (tree_at trees (Some n))

-- The term that a fact says is true, below replications: of a `let` its variable at the first so many indices, equal to its term.

abbrev pub equation_of : List (ℕ × ℕ) → Tree → Tree
equation_of rs (Node (Let x T) m b) = Node Eq (cell_of rs x) m
equation_of rs t = Empty

abbrev pub term_of : List (ℕ × ℕ) → FactAt → Tree
term_of rs (Defines k t) = equation_of (take k rs) t
term_of rs (Holds t) = t
term_of rs (Fails t) = Node Not t Empty

-- the terms of the facts of a place, if there is such a place
abbrev pub terms_of : Option Context → Option (List Tree)
terms_of there = option_map (λ (Γ : Context). Γ.facts) there

-- the facts with their kinds are those that stand there
abbrev pub AreFactsOf : Option Context → Option (List FactAt) → Type 0
AreFactsOf None None = Unit {0}
AreFactsOf (Some Γ) (Some fs) = Γ.facts ≡ map (term_of Γ.replications) fs
AreFactsOf _ _ = ⊥
