use Rattle.std.proofs.Common.{◌+◌, ◌∷◌, ◌∙◌, None, arith, ap, length, sym}
use Rattle.std.proofs.lemmas.Result.{on_ok_weaker}
use Rattle.cv_syntax_trees.specs.declared.head.Head.TheVariants.{Yes}
use Rattle.cv_syntax_trees.specs.Tree.{Node}
use Rattle.cv_syntax.specs.PoolTrees.{tree_at}
use Rattle.cv_syntax.specs.Postorder.{joined}
use Rattle.cv_syntax.proofs.Trees.{tree_at_None}
use Rattle.cv_edit_places.specs.Parts.{made_by, stack_of}
use Rattle.cv_rule_birthday.proofs.Equated.{made_none, made_some, same_none, same_some}
use Rattle.cv_rule_birthday.proofs.equations.add_indices.Goals as goal

pub returns-then-bare-clause-stack : goal.returns-then-bare-clause-stack
returns-then-bare-clause-stack c =
    let trees = c.args.pool.now.trees in
    let old = stack_of trees c.args.parts.now in
    let e = same_none (tree_at trees c.args.left) (tree_at trees c.args.right) c.is_empty-bare.result c.is_empty-bare.ensures.test c.if-bare.true in
    on_ok_weaker c.over.result
    (λ k. k trees ∙ (ap (joined Yes) (c.in_ok-there-2.ensures.stack trees ∙ ap (λ s. tree_at trees None ∷ s) (c.in_ok-there.ensures.stack trees))
    ∙ (ap (λ u. Node Yes u u ∷ old) (tree_at_None trees) ∙ ap (λ u. u ∷ old) (sym e))))
    c.over.ensures.stack

pub returns-then-bare-clause-made : goal.returns-then-bare-clause-made
returns-then-bare-clause-made c =
    let trees = c.args.pool.now.trees in
    let e = made_none (tree_at trees c.args.left) (tree_at trees c.args.right) c.is_empty-bare.result c.is_empty-bare.ensures.test c.if-bare.true in
    on_ok_weaker c.over.result (λ k. omega (arith, k, e, c.in_ok-there-2.ensures.made, c.in_ok-there.ensures.made)) c.over.ensures.made

pub returns-then-bare-clause-live : goal.returns-then-bare-clause-live
returns-then-bare-clause-live c =
    let n = length c.args.pool.now.trees in
    on_ok_weaker c.over.result (λ k a. k n (c.in_ok-there-2.ensures.live n (c.in_ok-there.ensures.live n a tt) tt)) c.over.ensures.live

pub returns-clause-stack : goal.returns-clause-stack
returns-clause-stack c =
    let trees = c.args.pool.now.trees in
    let e = same_some (tree_at trees c.args.left) (tree_at trees c.args.right) c.is_empty-bare.result c.is_empty-bare.ensures.test c.if-bare.false in
    on_ok_weaker c.add_equations.result (λ k. k ∙ ap (λ u. u ∷ stack_of trees c.args.parts.now) (sym e)) c.add_equations.ensures.stack

pub returns-clause-made : goal.returns-clause-made
returns-clause-made c =
    let trees = c.args.pool.now.trees in
    let e = made_some (tree_at trees c.args.left) (tree_at trees c.args.right) c.is_empty-bare.result c.is_empty-bare.ensures.test c.if-bare.false in
    on_ok_weaker c.add_equations.result (λ k. k ∙ ap (λ n. made_by c.args.parts.now + n) (sym e)) c.add_equations.ensures.made
