-- One step down on the way to a place, and the fact that it gives.
use Rattle.std.specs.Prelude.{◌≡◌, ◌↔◌, ℕ, ◌+◌, ◌-◌, ◌<◌, List, [], ◌∷◌, ◌++◌, length, slice_get, Option, Some, None, IsNone, option_map}
use Rattle.cv_pool.specs.declared.node.NodeId.{NodeId}
use Rattle.cv_pool.specs.KindTree.{KindTree}
use Rattle.cv_syntax_trees.specs.declared.head.Head.{Head}
use Rattle.cv_syntax_trees.specs.declared.head.Head.TheVariants.{Repl, Cons, Let, If}
use Rattle.cv_syntax_trees.specs.Tree.{Empty}
use Rattle.cv_syntax.specs.PoolTrees.{tree_at}
use Rattle.cv_scope_rules.specs.declared.position.Position.{Position}
use Rattle.cv_scope_rules.specs.declared.position.Position.TheVariants.{Bodies, ElseBody, Guarded}
use Rattle.cv_scope_rules.specs.Context.{Context}
use Rattle.cv_derive_facts.specs.declared.known.Fact.{Fact}
use Rattle.cv_derive_facts.specs.declared.known.Fact.TheVariants.{Defines, Holds, Fails}
use Rattle.cv_derive_facts.specs.declared.facts.Count.{Count}
use Rattle.cv_derive_facts.specs.declared.facts.Walk.{Walk}
use Rattle.cv_derive_facts.specs.Facts.{FactAt, facts_from, fact_of}

-- the fact that a node gives to its first child
abbrev pub given_item : Position → Option NodeId → Option Fact
given_item Bodies tested = option_map Holds tested
given_item ElseBody tested = option_map Fails tested
given_item w tested = None

abbrev pub given_first : Position → Head → Option NodeId → Option Fact
given_first w Cons tested = given_item w tested
given_first w h tested = None

-- and to its second child, with so many replications above the node
abbrev pub given_rest : Position → Option NodeId → Option Fact
given_rest Guarded first = option_map Holds first
given_rest w first = None

abbrev pub given_second : Position → ℕ → NodeId → Head → Option NodeId → Option Fact
given_second w above n Cons first = given_rest w first
given_second w above n (Let x T) first = Some (Defines n above)
given_second w above n h first = None

-- the condition that is tested at the second child, and the number of replications above it
abbrev pub tested_behind : Head → (first tested : Option NodeId) → Option NodeId
tested_behind If first tested = first
tested_behind h first tested = tested

abbrev pub above_behind : Head → ℕ → ℕ
above_behind (Repl i n) above = above + 1
above_behind h above = above

-- a fact, if there is one, as a list
abbrev pub given_facts : List KindTree → Option Fact → List FactAt
given_facts trees None = []
given_facts trees (Some f) = fact_of trees f ∷ []

-- the node of a fact is live
abbrev pub node_of : Fact → ℕ
node_of (Defines n k) = n.0
node_of (Holds n) = n.0
node_of (Fails n) = n.0

abbrev pub IsLive : ℕ → Option Fact → Type 0
IsLive n None = Unit {0}
IsLive n (Some f) = node_of f < n

-- the walk knows the condition that is tested there, and the number of replications
pub record Tests (trees : List KindTree) (Γ : Context) (tested : Option NodeId) (above : ℕ) : Type 0 where
  pub tree : Γ.tested ≡ tree_at trees tested
  pub none : IsNone tested ↔ (tree_at trees tested ≡ Empty)
  pub number : above ≡ length Γ.replications

-- What is left of the facts at the node of the first walk is the given one, and what is left at that of the second.
pub record LeadsTo (trees : List KindTree) (there : Option (List FactAt)) (walk : Walk) (given : Option Fact) : Type 0 where
  pub context : Context
  pub tests : Tests trees context walk.tested walk.above
  pub place : there ≡ option_map (λ fs. given_facts trees given ++ fs) (facts_from walk.position context (tree_at trees walk.at) walk.left)

-- The place is this node, or the walk goes on below it.
abbrev pub Goes : List KindTree → Walk → Option (Walk × Option Fact) → Type 0
Goes trees walk None = (Γ : Context) → facts_from walk.position Γ (tree_at trees walk.at) walk.left ≡ Some []
Goes trees walk (Some next) = (Γ : Context) → Tests trees Γ walk.tested walk.above → LeadsTo trees (facts_from walk.position Γ (tree_at trees walk.at) walk.left) next.0 next.1

-- of the facts that were passed the k-th is the one that the count has, and so many are left up to it
pub record Counts (trees : List KindTree) (k : ℕ) (passed : List FactAt) (count : Count) : Type 0 where
  pub left : count.left ≡ k - length passed
  pub fact : option_map (fact_of trees) count.fact ≡ slice_get passed (k - 1)
