use Rattle.std.proofs.Common.{◌≡◌, ◌+◌, true, Some, sym, ap, ◌∙◌, arith}
use Rattle.std.specs.Prelude.{option_map}
use Rattle.cv_syntax_trees.specs.Tree.{Empty}
use Rattle.cv_syntax.specs.PoolTrees.{tree_at}
use Rattle.cv_scene.specs.Pruning.{branch_body, without_branch}
use Rattle.cv_edit_changes.specs.pruning.Lefts.{is_find}
use Rattle.cv_edit_changes.proofs.pruning.Branches.{enough_items}
use Rattle.cv_edit_changes.proofs.pruning.Constructs.{branches_stay, find_left, find_nodes, find_stays, find_with, is_number, not_empty, number_stays}
use Rattle.cv_edit_changes.proofs.pruning.left.left_of_find.Goals.{else-k-eq1-via-then-k-eq1+else-is_empty, else-k-eq1-via-else-k-eq1}
use Rattle.cv_edit_changes.proofs.pruning.left.left_of_find.Goals as goal

pub returns-clause-some : goal.returns-clause-some
returns-clause-some c =
    let trees = c.args.pool.now.trees in
    let k = c.args.k in
    let h = c.args.construct.head in
    let a = tree_at trees c.args.construct.first in
    let e = tree_at trees c.args.construct.second in
    let found = c.in_ok-cut.ensures in
    let f : is_find h ≡ true = sym c.is_find.ensures ∙ c.if-not-is_find.false in
    let stays : without_branch a k ≡ Empty → ⊥ =
    elim c.else-k-eq1.branch [ else-k-eq1-via-then-k-eq1+else-is_empty w ↦ (λ g. not_empty (tree_at trees c.in_ok-cut.cut.behind) (sym w.is_empty.ensures.test ∙ w.if-is_empty.false) (sym (found.alone w.if-k-eq1.true) ∙ g)) | else-k-eq1-via-else-k-eq1 w ↦ branches_stay 1 a k _ (found.place 1) w.if-k-eq1.false ]
    in
    record {
      whole = find_left 0 h a e k f ∙ (ap (option_map (λ b. find_with h (without_branch a k) e)) (found.place 1) ∙ ap Some (find_stays h (without_branch a k) e stays));
      made = find_nodes h a e k f ∙ number_stays (without_branch a k) k stays;
      nodes = found.nodes;
      depth = found.depth;
      few = omega (arith, found.few);
      flat = found.flat;
      number = is_number 1 a k _ (found.place 1);
      enough = enough_items 1 a k _ (found.place 1);
    }
