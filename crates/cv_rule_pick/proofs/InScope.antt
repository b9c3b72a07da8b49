-- What is in scope, as the code goes through a term.
use Rattle.std.proofs.Common.{◌≡◌, ◌&&◌, Bool, true, false, sym, ap, ap₂, ◌∙◌}
use Rattle.cv_syntax_trees.specs.declared.head.Head.{Head}
use Rattle.cv_syntax_trees.specs.Tree.{Tree, Empty, Node}
use Rattle.cv_scope_rules.specs.Context.{Context}
use Rattle.cv_scope_rules.specs.Rules.{Names}
use Rattle.cv_scope_rules.specs.Tests.{reads_in_reach}
use Rattle.cv_costs.specs.names.Reach.{is_in_scope}

module _ (names : Names) (Γ : Context) (t : Tree) (h : Head) (a b : Tree) (e : t ≡ Node h a b) where
  scope_node : is_in_scope names Γ t ≡ (reads_in_reach names Γ h a b && (is_in_scope names Γ a && is_in_scope names Γ b))
  unfolding is_in_scope
  scope_node = ap (is_in_scope names Γ) e

  pub read_fails : (v : Bool) → v ≡ reads_in_reach names Γ h a b → v ≡ false → is_in_scope names Γ t ≡ false
  read_fails v i j = scope_node ∙ ap (λ c. c && (is_in_scope names Γ a && is_in_scope names Γ b)) (sym i ∙ j)

  module _ (v : Bool) (i : v ≡ reads_in_reach names Γ h a b) (j : v ≡ true) where
    pub first_fails : (w : Bool) → w ≡ is_in_scope names Γ a → w ≡ false → is_in_scope names Γ t ≡ false
    first_fails w k l = scope_node ∙ ap₂ (λ c d. c && (d && is_in_scope names Γ b)) (sym i ∙ j) (sym k ∙ l)

    pub rest_is : (w : Bool) → w ≡ is_in_scope names Γ a → w ≡ true → is_in_scope names Γ b ≡ is_in_scope names Γ t
    rest_is w k l = sym (scope_node ∙ ap₂ (λ c d. c && (d && is_in_scope names Γ b)) (sym i ∙ j) (sym k ∙ l))

pub scope_end : (names : Names) (Γ : Context) (t : Tree) → t ≡ Empty → is_in_scope names Γ t ≡ true
unfolding is_in_scope
scope_end names Γ t e = ap (is_in_scope names Γ) e
