-- One step down on the way to a place by known sizes, and the fact that it gives.
use Rattle.std.specs.Prelude.{◌≡◌, ℕ, ◌-◌, List, [], ◌++◌, length, slice_get, Option, Some, None, option_map}
use Rattle.cv_pool.specs.KindTree.{KindTree}
use Rattle.cv_syntax.specs.PoolTrees.{tree_at}
use Rattle.cv_scope_rules.specs.Context.{Context}
use Rattle.cv_derive_facts.specs.declared.known.Fact.{Fact}
use Rattle.cv_derive_facts.specs.Facts.{FactAt, fact_of, facts_from}
use Rattle.cv_derive_facts.specs.Walks.{Tests, given_facts}
use Rattle.cv_derive.specs.declared.known.Count.{Count}
use Rattle.cv_derive.specs.declared.known.Walk.{Walk}

-- What is left of the facts at the node of the first walk is the given one, and what is left at that of the second.
pub record LeadsTo (trees : List KindTree) (there : Option (List FactAt)) (walk : Walk) (given : Option Fact) : Type 0 where
  pub context : Context
  pub tests : Tests trees context walk.tested walk.above
  pub place : there ≡ option_map (λ fs. given_facts trees given ++ fs) (facts_from walk.position context (tree_at trees walk.at) walk.left)

-- The place is this node, or the walk goes on below it.
abbrev pub Goes : List KindTree → Walk → Option (Walk × Option Fact) → Type 0
Goes trees walk None = (Γ : Context) → facts_from walk.position Γ (tree_at trees walk.at) walk.left ≡ Some []
Goes trees walk (Some next) = (Γ : Context) → Tests trees Γ walk.tested walk.above → LeadsTo trees (facts_from walk.position Γ (tree_at trees walk.at) walk.left) next.0 next.1

-- of the facts that were passed the k-th is the one that the count has, and so many are left up to it
pub record Counts (trees : List KindTree) (k : ℕ) (passed : List FactAt) (count : Count) : Type 0 where
  pub left : count.left ≡ k - length passed
  pub fact : option_map (fact_of trees) count.fact ≡ slice_get passed (k - 1)
