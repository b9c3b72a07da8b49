use Rattle.std.proofs.Common.{◌∷◌, ◌∙◌, ap, arith, length, length-append, []}
use Rattle.std.proofs.lemmas.Result.{on_ok_weaker}
use Rattle.cv_syntax_trees.specs.declared.head.Head.TheVariants.{Cons}
use Rattle.cv_syntax_trees.specs.Tree.{Node}
use Rattle.cv_syntax.specs.PoolTrees.{tree_at}
use Rattle.cv_syntax.specs.Postorder.{joined}
use Rattle.cv_edit_places.specs.Parts.{closed, stack_of}
use Rattle.cv_edit_places.proofs.Stacks.{closed_push}
use Rattle.cv_rule_move.specs.Bodies.{arm_at}
use Rattle.cv_rule_move.specs.Moving.{in_branches}
use Rattle.cv_rule_move.proofs.Listing.{branches_step, made_step}
use Rattle.cv_rule_move.proofs.bodies.add_branches.Goals as goal

pub branches-preserved : goal.branches-preserved
branches-preserved c =
    let trees = c.args.pool.now.trees in
    let before = Node c.args.definition.head (tree_at trees c.args.definition.first) in
    let links = c.branches.links.items in
    let arm = arm_at trees c.in-Some.arm in
    let more = in_branches before (tree_at trees c.in-Some.arm.more) in
    let old = stack_of trees c.branches.parts in
    let e = c.in-Some.ensures.arm in
    let pushed = c.in_ok-push.ensures.items in
    record {
      at = c.in-Some.ensures.live.more;
      stack =
          ap (λ hs. closed hs (more ∷ stack_of trees c.add_branch.new.parts)) pushed
          ∙ (closed_push links Cons (more ∷ stack_of trees c.add_branch.new.parts)
          ∙ (ap (λ s. closed links (joined Cons (more ∷ s))) (c.in_ok-add_branch.ensures.stack trees)
          ∙ (ap (λ t. closed links (t ∷ old)) (branches_step before (tree_at trees c.branches.at) arm e)
          ∙ c.branches.invariant.stack)));
      made =
          omega (arith, c.branches.invariant.made, c.in_ok-add_branch.ensures.made, ap length pushed, length-append links (Cons ∷ []), made_step (tree_at trees c.branches.at) arm e);
      live = λ a. c.in_ok-add_branch.ensures.live (length trees) (c.branches.invariant.live a) c.requires.first c.in-Some.ensures.live;
    }

pub returns-clause-live : goal.returns-clause-live
returns-clause-live c =
    let n = length c.args.pool.now.trees in
    on_ok_weaker c.close.result (λ k a. k n (c.in_ok-there.ensures.live n (c.branches.invariant.live a) c.branches.invariant.at)) c.close.ensures.live
