use Rattle.std.proofs.Common.{◌∷◌, ◌∙◌, List, None, ap, arith, length}
use Rattle.std.proofs.lemmas.Result.{on_ok_weaker}
use Rattle.cv_syntax_trees.specs.declared.head.Head.TheVariants.{No}
use Rattle.cv_syntax_trees.specs.Tree.{Node, Tree}
use Rattle.cv_syntax.specs.PoolTrees.{tree_at}
use Rattle.cv_syntax.specs.Postorder.{joined}
use Rattle.cv_syntax.proofs.Trees.{tree_at_None}
use Rattle.cv_edit_places.specs.Parts.{stack_of}
use Rattle.cv_rule_birthday.proofs.guess.changing.add_falsity.Goals as goal

pub returns-clause-stack : goal.returns-clause-stack
returns-clause-stack c =
    let trees = c.args.pool.now.trees in
    let old = stack_of trees c.args.parts.now in
    on_ok_weaker c.over.result
    (λ k. k trees ∙ (ap (joined No) (c.in_ok-there-2.ensures.stack trees ∙ ap (λ (s : List Tree). tree_at trees None ∷ s) (c.in_ok-there.ensures.stack trees))
    ∙ ap (λ u. Node No u u ∷ old) (tree_at_None trees)))
    c.over.ensures.stack

pub returns-clause-made : goal.returns-clause-made
returns-clause-made c = on_ok_weaker c.over.result (λ k. omega (arith, k, c.in_ok-there-2.ensures.made, c.in_ok-there.ensures.made)) c.over.ensures.made

pub returns-clause-live : goal.returns-clause-live
returns-clause-live c =
    let n = length c.args.pool.now.trees in
    on_ok_weaker c.over.result (λ k a. k n (c.in_ok-there-2.ensures.live n (c.in_ok-there.ensures.live n a tt) tt)) c.over.ensures.live
