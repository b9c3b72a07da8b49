use Rattle.std.proofs.Common.{◌∷◌, [], List, ap, ap₂, arith, ◌∙◌, None}
use Rattle.cv_syntax_trees.specs.declared.head.Head.TheVariants.{No}
use Rattle.cv_syntax_trees.specs.Tree.{Tree, Node}
use Rattle.cv_syntax.specs.PoolTrees.{tree_at}
use Rattle.cv_syntax.specs.Postorder.{joined}
use Rattle.cv_syntax.proofs.Trees.{tree_at_None}
use Rattle.cv_rule_fresh.proofs.planning.falsity.Goals as goal

pub returns : goal.returns
returns c = record {
  made = omega (arith, c.in_ok-over.ensures.made, c.in_ok-there-2.ensures.made, c.in_ok-there.ensures.made, c.new-parts.ensures.made);
  live = λ n. c.in_ok-over.ensures.live n (c.in_ok-there-2.ensures.live n (c.in_ok-there.ensures.live n (c.new-parts.ensures.live n) tt) tt);
  stack = λ trees.
      let more = λ (ts : List Tree). tree_at trees None ∷ ts in
      c.in_ok-over.ensures.stack trees
      ∙ (ap (joined No) (c.in_ok-there-2.ensures.stack trees ∙ ap more (c.in_ok-there.ensures.stack trees ∙ ap more (c.new-parts.ensures.stack trees)))
      ∙ ap₂ (λ a b. Node No a b ∷ []) (tree_at_None trees) (tree_at_None trees));
}
