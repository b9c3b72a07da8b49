-- One step down on the way to a place, for a cell that is looked for.
use Rattle.std.specs.Prelude.{◌≡◌, ℕ, Bool, List, length, Option, Some, None}
use Rattle.cv_pool.specs.KindTree.{KindTree}
use Rattle.cv_syntax_trees.specs.Tree.{Tree}
use Rattle.cv_syntax.specs.PoolTrees.{tree_at}
use Rattle.cv_scope_rules.specs.Above.{standing_at}
use Rattle.cv_scope_rules.specs.Context.{Context, cells_of}
use Rattle.cv_derive.specs.declared.defined.Walk.{Walk}

-- the walk knows the indices of the branch around, and the number of replications
pub record Knows (trees : List KindTree) (Γ : Context) (walk : Walk) : Type 0 where
  pub own : Γ.own ≡ cells_of Γ.replications (tree_at trees walk.own)
  pub number : walk.above ≡ length Γ.replications

-- What stands at the node of the first walk stands at that of the second, with the cells of a construct; and the second has
-- found whether a test finds one of them, if the first has.
pub record Reaches (trees : List KindTree) (rs : List (ℕ × ℕ)) (test : List Tree → Bool) (there : Option Context) (Γ : Context) (walk next : Walk) : Type 0 where
  pub context : Context
  pub knows : Knows trees context next
  pub place : standing_at next.position context (tree_at trees next.at) next.left ≡ there
  pub cells : (Δ : Context) → there ≡ Some Δ → Δ.replications ≡ rs → walk.found ≡ test Γ.cells → next.found ≡ test context.cells

-- The place is this node, or the walk goes on below it.
abbrev pub Descends : List KindTree → List (ℕ × ℕ) → (List Tree → Bool) → Walk → Option Walk → Type 0
Descends trees rs test walk None = (Γ : Context) → standing_at walk.position Γ (tree_at trees walk.at) walk.left ≡ Some Γ
Descends trees rs test walk (Some next) =
    (Γ : Context) → Knows trees Γ walk → Reaches trees rs test (standing_at walk.position Γ (tree_at trees walk.at) walk.left) Γ walk next
