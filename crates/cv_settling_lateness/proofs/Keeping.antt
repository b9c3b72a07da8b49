-- Sizes that are kept.
use Rattle.std.proofs.Common.{◌≡◌, ℕ, Bool, true, false, cond, Some, refl, sym, ap, subst, ◌∙◌, eqb-true}
use Rattle.std.specs.Prelude.{◌==◌, IfSome, List, nat_eq}
use Rattle.std.specs.HashMap.{Updates, get}
use Rattle.cv_pool.specs.KindTree.{KindTree}
use Rattle.cv_pool.specs.Nodes.{at}
use Rattle.cv_pool.specs.declared.node.NodeId.{NodeId}
use Rattle.cv_syntax_trees.specs.Tree.{size}
use Rattle.cv_syntax.specs.PoolTrees.{tree_at, tree_of}
use Rattle.cv_settling_lateness.specs.Standing.{AreSizes}
use Rattle.cv_settling_lateness.specs.declared.sizes.Sizes.{Sizes}

module _ (trees : List KindTree) (s : Sizes) (are : AreSizes trees s) where
  abbrev IsSize : NodeId → ℕ → Type 0
  IsSize n k = k ≡ size (tree_at trees (Some n))

  pub size_found : (n : NodeId) (k : ℕ) → get nat_eq s.table n.0 ≡ Some k → k ≡ size (tree_at trees (Some n))
  size_found n k e = subst (λ o. IfSome o (IsSize n)) e (are n)

  pub size_kept : (t : Sizes) (n : NodeId) (k : ℕ) → Updates nat_eq s.table t.table n.0 (Some k) → k ≡ size (tree_at trees (Some n)) → AreSizes trees t
  size_kept t n k u e m = subst (λ o. IfSome o (IsSize m)) (sym (u.0 m.0)) (go (n.0 == m.0) refl)
    where
      go : (b : Bool) → (n.0 == m.0) ≡ b → IfSome (cond b (Some k) (get nat_eq s.table m.0)) (IsSize m)
      go true f = e ∙ ap (λ i. size (tree_of (at trees i))) (eqb-true n.0 m.0 f)
      go false f = are m
