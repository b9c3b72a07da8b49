use Rattle.std.proofs.lemmas.Result.{IfOk-weaker}
use Rattle.cv_syntax_trees.specs.declared.head.Head.TheVariants as head
use Rattle.cv_syntax.specs.Postorder.{joined}
use Rattle.cv_inline_walk.specs.pieces.Pieces.{AddsNodes, closed_if}
use Rattle.cv_inline_walk.proofs.pieces.ByKind.{if_ended}
use Rattle.cv_inline_walk.proofs.pieces.kinds.end_if.Goals as goal

pub returns : goal.returns
returns c =
    IfOk-weaker c.put-3.result (λ _. AddsNodes c.put-2.new.pieces.items c.put-3.new.pieces.items (joined head.If)) (λ _. AddsNodes c.args.pieces.now.items c.put-3.new.pieces.items closed_if)
    (λ _ e. if_ended c.args.pieces.now.items c.nothing.new.pieces.items c.put.new.pieces.items c.put-2.new.pieces.items c.put-3.new.pieces.items c.in_ok-nothing.ensures c.in_ok-put.ensures c.in_ok-put-2.ensures e)
    c.put-3.ensures
