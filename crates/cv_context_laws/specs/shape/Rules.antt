-- What array scope asks of each node of a tree by itself, whatever stands before the tree. This profile's own.
use Rattle.std.specs.Prelude.{◌≡◌, ◌≤◌, ℕ, true, length}
use Rattle.cv_syntax_trees.specs.declared.head.Head.{Head}
use Rattle.cv_syntax_trees.specs.Tree.{Tree, Empty, Node, first_place, second_place}
use Rattle.cv_scope_rules.specs.declared.position.Position.{Position}
use Rattle.cv_scope_rules.specs.Branches.{HasOtherName, Pairs}
use Rattle.cv_scope_rules.specs.Context.{Context, first_context, first_position, second_context, second_position}
use Rattle.cv_scope_rules.specs.Rules.{BindsNewIndex, IsFewIndices, IsInScope, Names, carries_current}
use Rattle.cv_scope_rules.specs.Sites.{named_here}

-- a node at a place: its reads, channels and replications, and that its own sites have different names
pub record NodeKeeps (names : Names) (w : Position) (Γ : Context) (p : ℕ) (h : Head) (a b : Tree) : Type 0 where
  pub scope : IsInScope names w Γ h a b
  pub carries : carries_current Γ.replications h a ≡ true
  pub few : length Γ.replications ≤ 8
  pub few_indices : IsFewIndices h a
  pub index : BindsNewIndex names Γ.replications h
  pub own : Pairs HasOtherName (named_here Γ.replications p h a)

unfoldable pub AreKept : Names → Position → Context → ℕ → Tree → Type 0
AreKept names w Γ p Empty = Unit {0}
AreKept names w Γ p (Node h a b) =
    NodeKeeps names w Γ p h a b × AreKept names (first_position w h) (first_context w h Γ) (first_place p h) a × AreKept names (second_position w h) (second_context w h a Γ) (second_place p h a) b
