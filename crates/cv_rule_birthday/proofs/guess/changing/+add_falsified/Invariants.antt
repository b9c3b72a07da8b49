use Rattle.std.proofs.Common.{◌≡◌, ◌+◌, ◌≤◌, ◌∷◌, length}
use Rattle.cv_pool.specs.Nodes.{ChildBelow}
use Rattle.cv_syntax_trees.specs.Tree.{size}
use Rattle.cv_syntax.specs.PoolTrees.{tree_at}
use Rattle.cv_syntax.specs.Walks.{above}
use Rattle.cv_syntax.specs.limits.Limits.{nodes_of}
use Rattle.cv_edit_places.specs.Parts.{AreLive, closed, made_by, stack_of}
use Rattle.cv_scene_view.specs.phrases.Phrases.{phrase_of}
use Rattle.cv_rule_birthday.specs.Comparing.{is_one_of}
use Rattle.cv_rule_birthday.specs.guess.Guessing.{falsified}
use Rattle.cv_rule_birthday.proofs.guess.changing.+add_falsified.Given as goal

abbrev pub decreases-add_falsified : goal.decreases-add_falsified
decreases-add_falsified l = above l.start

abbrev pub invariant-chain : goal.invariant-chain
invariant-chain l = record {
  live : ChildBelow (length l.pool.trees) l.at;
  less : above l.at ≤ above l.fn.start;
  sum : l.place + size (tree_at l.pool.trees l.at) ≡ l.fn.from + size (tree_at l.pool.trees l.fn.start);
  stack : closed l.heads.items (falsified l.x (is_one_of l.places) (phrase_of l.within) l.place (tree_at l.pool.trees l.at) ∷ stack_of l.pool.trees l.parts)
      ≡ falsified l.fn.x (is_one_of l.fn.places) (phrase_of l.fn.phrase) l.fn.from (tree_at l.pool.trees l.fn.start) ∷ stack_of l.pool.trees l.fn.parts;
  made : made_by l.parts + length l.heads.items + nodes_of (falsified l.x (is_one_of l.places) (phrase_of l.within) l.place (tree_at l.pool.trees l.at))
      ≡ made_by l.fn.parts + nodes_of (falsified l.fn.x (is_one_of l.fn.places) (phrase_of l.fn.phrase) l.fn.from (tree_at l.pool.trees l.fn.start));
  alive : AreLive (length l.pool.trees) l.fn.parts → AreLive (length l.pool.trees) l.parts;
}

abbrev pub decreases-chain : goal.decreases-chain
decreases-chain l = above l.at
