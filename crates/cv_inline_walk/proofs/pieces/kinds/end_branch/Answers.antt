use Rattle.std.proofs.lemmas.Result.{IfOk-weaker}
use Rattle.cv_syntax_trees.specs.declared.head.Head.TheVariants as head
use Rattle.cv_syntax.specs.Postorder.{joined}
use Rattle.cv_inline_sites.specs.branches.Moves.{closed_branch}
use Rattle.cv_inline_walk.specs.pieces.Pieces.{AddsNodes}
use Rattle.cv_inline_walk.proofs.pieces.ByKind.{branch_ended}
use Rattle.cv_inline_walk.proofs.pieces.kinds.end_branch.Goals as goal

pub returns : goal.returns
returns c =
    IfOk-weaker c.put-3.result (λ _. AddsNodes c.put-2.new.pieces.items c.put-3.new.pieces.items (joined head.Branch)) (λ _. AddsNodes c.args.pieces.now.items c.put-3.new.pieces.items closed_branch)
    (λ _ e. branch_ended c.args.pieces.now.items c.put.new.pieces.items c.put-2.new.pieces.items c.put-3.new.pieces.items c.in_ok-put.ensures c.in_ok-put-2.ensures e)
    c.put-3.ensures
