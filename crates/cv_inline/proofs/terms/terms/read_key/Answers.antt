use Rattle.std.proofs.Common.{◌∷◌, ◌∙◌, ap, sym}
use Rattle.std.proofs.lemmas.Result.{IfOk-equal}
use Rattle.cv_syntax_trees.specs.declared.head.Head.TheVariants.{Read}
use Rattle.cv_syntax.specs.Postorder.{joined}
use Rattle.cv_syntax_trees.specs.Tree.{Empty}
use Rattle.cv_syntax.specs.PoolTrees.{tree_at}
use Rattle.cv_meaning.specs.contexts.Inlined.{read_at}
use Rattle.cv_inline.specs.terms.Stacks.{stack}
use Rattle.cv_inline.proofs.terms.InGame.{read_at_Node}
use Rattle.cv_inline.proofs.terms.terms.read_key.Goals as goal

pub returns : goal.returns
returns c =
    let key = tree_at c.args.pool.now.trees c.args.caller.now.key in
    let many = read_at_Node c.args.y key (sym c.is_empty.ensures.test ∙ c.if-is_empty.false) in
    IfOk-equal c.put.result (stack c.put.new.parts.items) (joined (Read c.args.y) (stack c.nothing.new.parts.items)) (read_at c.args.y key ∷ stack c.args.parts.now.items) c.put.ensures
    (ap (joined (Read c.args.y)) (c.in_ok-nothing.ensures ∙ ap (λ s. Empty ∷ s) c.in_ok-copy.ensures) ∙ ap (λ t. t ∷ stack c.args.parts.now.items) (sym many))
