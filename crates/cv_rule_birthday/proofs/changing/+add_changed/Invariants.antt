use Rattle.std.proofs.Common.{◌≡◌, ◌+◌, ◌≤◌, ◌∷◌, length}
use Rattle.cv_pool.specs.Nodes.{ChildBelow}
use Rattle.cv_syntax_trees.specs.Tree.{size}
use Rattle.cv_syntax.specs.PoolTrees.{tree_at}
use Rattle.cv_syntax.specs.Walks.{above}
use Rattle.cv_edit_places.specs.Parts.{AreLive, closed, made_by, stack_of}
use Rattle.cv_costs.specs.wording.Changing.{changed_at}
use Rattle.cv_rule_birthday.specs.Comparing.{compared, is_one_of}
use Rattle.cv_rule_birthday.specs.Needs.{made_of_changed}
use Rattle.cv_rule_birthday.proofs.changing.+add_changed.Given as goal

abbrev pub decreases-add_changed : goal.decreases-add_changed
decreases-add_changed l = above l.start

abbrev pub invariant-chain : goal.invariant-chain
invariant-chain l = record {
  live : ChildBelow (length l.pool.trees) l.at;
  less : above l.at ≤ above l.fn.start;
  sum : l.place + size (tree_at l.pool.trees l.at) ≡ l.fn.from + size (tree_at l.pool.trees l.fn.start);
  stack : closed l.heads.items (changed_at (is_one_of l.places) compared l.place (tree_at l.pool.trees l.at) ∷ stack_of l.pool.trees l.parts)
      ≡ changed_at (is_one_of l.fn.places) compared l.fn.from (tree_at l.pool.trees l.fn.start) ∷ stack_of l.pool.trees l.fn.parts;
  made : made_by l.parts + length l.heads.items + made_of_changed (is_one_of l.places) l.place (tree_at l.pool.trees l.at)
      ≡ made_by l.fn.parts + made_of_changed (is_one_of l.fn.places) l.fn.from (tree_at l.pool.trees l.fn.start);
  alive : AreLive (length l.pool.trees) l.fn.parts → AreLive (length l.pool.trees) l.parts;
}

abbrev pub decreases-chain : goal.decreases-chain
decreases-chain l = above l.at
