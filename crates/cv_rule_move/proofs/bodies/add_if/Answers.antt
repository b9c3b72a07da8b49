use Rattle.std.proofs.Common.{◌∷◌, ◌∙◌, ap, length, sym}
use Rattle.std.proofs.lemmas.Result.{on_ok_weaker}
use Rattle.cv_syntax_trees.specs.Tree.{Node}
use Rattle.cv_syntax.specs.PoolTrees.{tree_at}
use Rattle.cv_edit_places.specs.Parts.{stack_of}
use Rattle.cv_rule_move.proofs.Listing.{if_without_bodies}
use Rattle.cv_rule_move.proofs.bodies.add_if.Goals as goal

pub returns-in_default-clause-stack : goal.returns-in_default-clause-stack
returns-in_default-clause-stack c =
    let trees = c.args.pool.now.trees in
    let definition = c.args.definition in
    let construct = c.args.construct in
    on_ok_weaker c.add_process.result
    (λ k. k trees ∙ ap (λ t. t ∷ stack_of trees c.args.parts.now) (sym (if_without_bodies (Node definition.head (tree_at trees definition.first)) construct.head (tree_at trees construct.first) (tree_at trees construct.second) c.requires.head c.in_default.ensures.items)))
    c.add_process.ensures.stack

pub returns-in_default-clause-live : goal.returns-in_default-clause-live
returns-in_default-clause-live c = on_ok_weaker c.add_process.result (λ k a. k (length c.args.pool.now.trees) a c.requires.definition c.requires.first c.requires.second) c.add_process.ensures.live

pub returns-clause-live : goal.returns-clause-live
returns-clause-live c =
    let n = length c.args.pool.now.trees in
    let l = c.in-Some.ensures.live in
    on_ok_weaker c.over-3.result
    (λ k a.
    let first = c.in_ok-add_definition.ensures.live n (c.in_ok-there.ensures.live n a c.requires.first) c.requires.definition l.first in
    let second = c.in_ok-add_definition-2.ensures.live n first c.requires.definition l.second in
    k n (c.in_ok-over-2.ensures.live n (c.in_ok-over.ensures.live n (c.in_ok-there-2.ensures.live n second l.rest))))
    c.over-3.ensures.live
