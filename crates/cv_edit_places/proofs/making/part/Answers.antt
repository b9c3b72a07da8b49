use Rattle.std.proofs.Common.{ap, sym, subst, ◌∙◌, Some}
use Rattle.cv_syntax.specs.PoolTrees.{tree_at}
use Rattle.cv_edit_places.specs.Changes.{TermIsLive, change_of}
use Rattle.cv_edit_places.proofs.MadeGames.{split_process_made, new_made}
use Rattle.cv_edit_places.proofs.making.part.Goals as goal

pub returns-in-Split-clause-tree : goal.returns-in-Split-clause-tree
returns-in-Split-clause-tree c =
    let live = subst (TermIsLive c.args.pool.now.trees) c.in-Split.is c.requires.term in
    split_process_made c.args.pool.now c.join-last.new.pool c.join-bodies.new.pool c.join.new.pool c.args.old c.in-Split.condition c.join-last.result c.join-bodies.result c.join.result c.join-last.ensures.grows c.join-bodies.ensures.grows c.requires.live live c.join-last.ensures.tree c.join-bodies.ensures.tree c.join.ensures.tree
    ∙ ap (λ ch. change_of c.args.pool.now.trees ch (tree_at c.args.pool.now.trees (Some c.args.old))) (sym c.in-Split.is)

pub returns-in-AfterNew-clause-tree : goal.returns-in-AfterNew-clause-tree
returns-in-AfterNew-clause-tree c =
    new_made c.args.pool.now.trees _ (tree_at c.args.pool.now.trees (Some c.args.old)) _ c.join-in-AfterNew.ensures.tree
    ∙ ap (λ ch. change_of c.args.pool.now.trees ch (tree_at c.args.pool.now.trees (Some c.args.old))) (sym c.in-AfterNew.is)
