-- Listed cells as trees.
use Rattle.std.proofs.Common.{◌≡◌, ℕ, zero, suc, ◌+◌, ◌<◌, ◌≤◌, Bool, true, false, ◌||◌, inl, inr, List, [], ◌∷◌, length, drop, refl, ap, ◌∙◌, arith, Option, Some, None, nat_eq, eqb-true, get_or}
use Rattle.std.specs.List.{list_any}
use Rattle.std.proofs.lemmas.Bool.{or_cases, or_left, or_right, both_ways}
use Rattle.cv_pool.specs.KindTree.{KindTree}
use Rattle.cv_pool.specs.declared.node.NodeId.{NodeId}
use Rattle.cv_syntax_trees.specs.Tree.{Tree, same_tree}
use Rattle.cv_syntax.specs.PoolTrees.{tree_at}
use Rattle.cv_scope.specs.Held.{cells_held}
use Rattle.cv_scope.specs.tables.Ordered.{has_number}
use Rattle.cv_scope_rules.proofs.Trees.{same_tree_law}

abbrev Cells : Type 0
Cells = List (Option NodeId)

-- cells of a pool

-- the tree of a node that is listed is listed
pub listed_node : (trees : List KindTree) (t : NodeId) (cells : Cells) → has_number cells t.0 ≡ true → list_any (same_tree (tree_at trees (Some t))) (cells_held trees cells) ≡ true
listed_node trees t [] h = absurd (both_ways _ refl h)
listed_node trees t (None ∷ cells) h = or_right (same_tree (tree_at trees (Some t)) (tree_at trees None)) _ (listed_node trees t cells h)
listed_node trees t (Some c ∷ cells) h = elim (or_cases (nat_eq t.0 c.0) (has_number cells t.0) h) [
  | inl m ↦ or_left (same_tree (tree_at trees (Some t)) (tree_at trees (Some c))) _ (same_tree_law (tree_at trees (Some t)) (tree_at trees (Some c)) (let e = eqb-true t.0 c.0 m in λ i. tree_at trees (Some (record { 0 = e i }))))
  | inr m ↦ or_right (same_tree (tree_at trees (Some t)) (tree_at trees (Some c))) _ (listed_node trees t cells m)
]

-- whether a test holds of one of the cells from here on
pub any_here : (p : Tree → Bool) (trees : List KindTree) (cells : Cells) (i : ℕ) → i < length cells → list_any p (cells_held trees (drop i cells)) ≡ (p (tree_at trees (get_or cells i None)) || list_any p (cells_held trees (drop (i + 1) cells)))
any_here p trees [] i l = absurd (omega arith)
any_here p trees (c ∷ cells) zero l = refl
any_here p trees (c ∷ cells) (suc i) l =
    let e : suc (i + 1) ≡ suc i + 1 = omega arith in
    any_here p trees cells i (omega arith) ∙ ap (λ n. p (tree_at trees (get_or cells i None)) || list_any p (cells_held trees (drop n (c ∷ cells)))) e
