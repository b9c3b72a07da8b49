-- What the code's plan says of the step.
use Rattle.std.proofs.Common.{◌≡◌, ℕ, ◌+◌, ◌<◌, ◌≤◌, ◌^◌, Bool, true, false, cond, not, List, Option, Some, None, refl, sym, ap, ◌∙◌, arith, ltb-true}
use Rattle.std.proofs.lemmas.Bool.{and_parts, both_ways}
use Rattle.cv_pool.specs.KindTree.{KindTree}
use Rattle.cv_syntax_trees.specs.declared.head.Head.TheVariants.{Branch}
use Rattle.cv_syntax_trees.specs.Tree.{Tree, Empty, Node, same_tree, size, subtree}
use Rattle.cv_syntax.specs.PoolTrees.{tree_at}
use Rattle.cv_scene.specs.Scenes.{Scene, has_place, or_empty, part_at}
use Rattle.cv_steps.specs.Changes.{change_at}
use Rattle.cv_steps.specs.Rows.{unless}
use Rattle.cv_steps.specs.Steps.{Leads, Row, Zero}
use Rattle.cv_edit_places.specs.Plans.{failed, failing, failure_of}
use Rattle.cv_path.proofs.extents.Extents.{size_part}
use Rattle.cv_rule_codef.specs.declared.lists.Site.{Site}
use Rattle.cv_rule_codef.specs.Lists.{lists, relisted, with_cell, with_list, without_cell}
use Rattle.cv_rule_codef.specs.Needs.{made_of_codef, made_of_relisted}
use Rattle.cv_rule_codef.specs.Row.{are_codefined, codef_row, codef_step, may_relist, stands_codef}
use Rattle.cv_rule_codef.specs.Site.{IsBranch}

-- rows

unmet : (v : Bool) (condition : ℕ) (rest : Row) → v ≡ false → failing (unless v condition 0 rest) ≡ Some (failed condition 0)
unmet true condition rest e = absurd (both_ways true e refl)
unmet false condition rest e = refl

met : (v : Bool) (condition : ℕ) (rest : Row) → v ≡ true → unless v condition 0 rest ≡ rest
met true condition rest e = refl
met false condition rest e = absurd (both_ways false refl e)

module _ (s : Scene) (p : ℕ) (adds above : Bool) (to from : Tree) where
  abbrev next : Row
  next = Leads (change_at s.game p (with_list (relisted adds to))) Zero

  abbrev third : Row
  third = unless (may_relist adds to (part_at s.game p)) 3 0 next

  abbrev second : Row
  second = unless (are_codefined above s.game from to) 2 0 third

  pub first_fails : lists from (part_at s.game p) ≡ false → failing (codef_row s p adds above to from) ≡ Some (failed 1 0)
  first_fails e = unmet (lists from (part_at s.game p)) 1 second e

  module _ (e : lists from (part_at s.game p) ≡ true) where
    pub second_fails : are_codefined above s.game from to ≡ false → failing (codef_row s p adds above to from) ≡ Some (failed 2 0)
    second_fails f = ap failing (met (lists from (part_at s.game p)) 1 second e) ∙ unmet (are_codefined above s.game from to) 2 third f

    module _ (f : are_codefined above s.game from to ≡ true) where
      pub none_fails : may_relist adds to (part_at s.game p) ≡ true → failing (codef_row s p adds above to from) ≡ None
      none_fails h = ap failing (met (lists from (part_at s.game p)) 1 second e ∙ (met (are_codefined above s.game from to) 2 third f ∙ met (may_relist adds to (part_at s.game p)) 3 next h))

  row_leads : failing (codef_row s p adds above to from) ≡ None → codef_row s p adds above to from ≡ next
  row_leads e = go (lists from (part_at s.game p)) (are_codefined above s.game from to) (may_relist adds to (part_at s.game p)) e
    where
      go : (u v w : Bool) → failing (unless u 1 0 (unless v 2 0 (unless w 3 0 next))) ≡ None → unless u 1 0 (unless v 2 0 (unless w 3 0 next)) ≡ next
      go true true true e = refl
      go true true false e = absurd (cc)
      go true false w e = absurd (cc)
      go false v w e = absurd (cc)

  pub leads_to : (new : Tree) → failing (codef_row s p adds above to from) ≡ None → with_list (relisted adds to) (part_at s.game p) ≡ new → codef_row s p adds above to from ≡ Leads (change_at s.game p (λ old. new)) Zero
  leads_to new e f = row_leads e ∙ ap (λ t. Leads (change_at s.game p (λ old. t)) Zero) f

  -- the step

  pub standing : (v : Bool) → v ≡ stands_codef s p to from → v ≡ true → failure_of s (codef_step p adds above to from) ≡ failing (codef_row s p adds above to from)
  standing v e f = ap (λ w. cond w (failing (codef_row s p adds above to from)) (Some (failed 0 0))) (sym e ∙ f)

  pub there : (v : Bool) → v ≡ stands_codef s p to from → v ≡ true → p < size s.game
  there v e f = ltb-true p (size s.game) (and_parts (has_place s p) _ (sym e ∙ f)).0

-- how large the part is

with_size : (c cells : Tree) → size (with_cell c cells) ≡ size cells + size c
unfolding size
with_size c Empty = omega arith
with_size c (Node h item more) = omega (arith, with_size c more)

without_size : (c cells : Tree) → size (without_cell c cells) ≤ size cells
unfolding size
without_size c Empty = omega arith
without_size c (Node h item more) = go (same_tree item c) (without_size c more)
  where
    go : (v : Bool) → size (without_cell c more) ≤ size more → size (cond v more (Node h item (without_cell c more))) ≤ size (Node h item more)
    go true l = omega arith
    go false l = omega arith

relisted_size : (adds : Bool) (c cells : Tree) → size (relisted adds c cells) ≤ size cells + size c
relisted_size true c cells = omega (arith, with_size c cells)
relisted_size false c cells = omega (arith, without_size c cells)

list_size : (adds : Bool) (c t : Tree) → size (with_list (relisted adds c) t) ≤ size t + size c
unfolding size
list_size adds c (Node Branch us (Node h cells rest)) = omega (arith, relisted_size adds c cells)
list_size adds c t = omega arith

part_small : (t : Tree) (p : ℕ) → size (part_at t p) ≤ size t
unfolding size
part_small t p = go (subtree t p) refl
  where
    go : (o : Option Tree) → subtree t p ≡ o → size (or_empty o) ≤ size t
    go None e = omega arith
    go (Some x) e = size_part t p x e

pub change_small : (adds : Bool) (c t : Tree) (p : ℕ) → size t ≤ 50000 → size c < 2 ^ 31 → size t + size (with_list (relisted adds c) (part_at t p)) < 2 ^ 32
change_small adds c t p l m = omega (arith, list_size adds c (part_at t p), part_small t p)

-- the part that is built

module _ (trees : List KindTree) (t : Tree) (m : Site) (b : IsBranch trees t m) (adds : Bool) (c : Tree) where
  abbrev new : Tree
  new = Node m.branch.head (tree_at trees m.branch.first) (Node m.link.head (relisted adds c (tree_at trees m.link.first)) (tree_at trees m.link.second))

  branch_is : t ≡ Node Branch (tree_at trees m.branch.first) (Node m.link.head (tree_at trees m.link.first) (tree_at trees m.link.second))
  branch_is = b.stands ∙ ap (λ h. Node h (tree_at trees m.branch.first) (Node m.link.head (tree_at trees m.link.first) (tree_at trees m.link.second))) b.head

  pub built : with_list (relisted adds c) t ≡ new
  built = ap (with_list (relisted adds c)) branch_is ∙ ap (λ h. Node h (tree_at trees m.branch.first) (Node m.link.head (relisted adds c (tree_at trees m.link.first)) (tree_at trees m.link.second))) (sym b.head)

  pub made_is : made_of_codef adds c t ≡ made_of_relisted adds c (tree_at trees m.link.first) + 2
  made_is = ap (made_of_codef adds c) branch_is
