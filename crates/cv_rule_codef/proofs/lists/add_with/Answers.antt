use Rattle.std.proofs.Common.{◌∷◌, ◌∙◌, None, Some, ap, arith, length, length-append, sym, []}
use Rattle.std.proofs.lemmas.Result.{on_ok_weaker}
use Rattle.cv_syntax_trees.specs.declared.head.Head.TheVariants.{Cons}
use Rattle.cv_syntax_trees.specs.Tree.{Node}
use Rattle.cv_syntax.specs.PoolTrees.{tree_at}
use Rattle.cv_syntax.specs.Postorder.{joined}
use Rattle.cv_syntax.proofs.Trees.{child_live, empty_at, node_at, tree_at_None}
use Rattle.cv_edit_places.specs.Parts.{closed, stack_of}
use Rattle.cv_edit_places.proofs.Stacks.{closed_push}
use Rattle.cv_rule_codef.specs.Lists.{with_cell}
use Rattle.cv_rule_codef.specs.Needs.{made_with}
use Rattle.cv_rule_codef.proofs.Looks.{made_later, with_later}
use Rattle.cv_rule_codef.proofs.lists.add_with.Goals as goal

pub cells-preserved : goal.cells-preserved
cells-preserved c =
    let trees = c.args.pool.now.trees in
    let cell = tree_at trees (Some c.args.cell) in
    let link = c.read_node-link.result in
    let links = c.cells.links.items in
    let old = stack_of trees c.cells.parts in
    let item = tree_at trees link.first in
    let more = tree_at trees link.second in
    let e = node_at trees c.cells.at c.in-Some.n link c.in-Some.is c.read_node-link.ensures.tree in
    let pushed = c.in_ok-push.ensures.items in
    record {
      at = child_live (length trees) c.cells.at c.in-Some.n link.second c.in-Some.is c.cells.invariant.at c.read_node-link.ensures.second;
      stack =
          ap (λ hs. closed hs (with_cell cell more ∷ stack_of trees c.there.new.self)) pushed
          ∙ (closed_push links link.head (with_cell cell more ∷ stack_of trees c.there.new.self)
          ∙ (ap (λ s. closed links (joined link.head (with_cell cell more ∷ s))) (c.in_ok-there.ensures.stack trees)
          ∙ (ap (λ t. closed links (t ∷ old)) (sym (with_later cell (tree_at trees c.cells.at) link.head item more e))
          ∙ c.cells.invariant.stack)));
      made = omega (arith, c.cells.invariant.made, c.in_ok-there.ensures.made, ap length pushed, length-append links (link.head ∷ []), made_later cell (tree_at trees c.cells.at) link.head item more e);
      live = λ a. c.in_ok-there.ensures.live (length trees) (c.cells.invariant.live a) (child_live (length trees) c.cells.at c.in-Some.n link.first c.in-Some.is c.cells.invariant.at c.read_node-link.ensures.first);
    }

pub returns-clause-stack : goal.returns-clause-stack
returns-clause-stack c =
    let trees = c.args.pool.now.trees in
    let cell = tree_at trees (Some c.args.cell) in
    let old = stack_of trees c.cells.parts in
    let links = c.cells.links.items in
    let base =
    c.in_ok-over.ensures.stack trees
    ∙ (ap (joined Cons) (c.in_ok-there-3.ensures.stack trees ∙ ap (λ s. tree_at trees None ∷ s) (c.in_ok-there-2.ensures.stack trees))
    ∙ (ap (λ t. Node Cons cell t ∷ old) (tree_at_None trees)
    ∙ sym (ap (λ t. with_cell cell t ∷ old) (empty_at trees c.cells.at c.in_default.is)))) in
    on_ok_weaker c.close.result (λ k. k trees ∙ (ap (closed links) base ∙ c.cells.invariant.stack)) c.close.ensures.stack

pub returns-clause-made : goal.returns-clause-made
returns-clause-made c =
    let end = ap made_with (empty_at c.args.pool.now.trees c.cells.at c.in_default.is) in
    on_ok_weaker c.close.result (λ k. omega (arith, k, c.in_ok-over.ensures.made, c.in_ok-there-3.ensures.made, c.in_ok-there-2.ensures.made, c.cells.invariant.made, end)) c.close.ensures.made

pub returns-clause-live : goal.returns-clause-live
returns-clause-live c =
    let n = length c.args.pool.now.trees in
    on_ok_weaker c.close.result
    (λ k a. k n (c.in_ok-over.ensures.live n (c.in_ok-there-3.ensures.live n (c.in_ok-there-2.ensures.live n (c.cells.invariant.live a) c.requires.cell) tt)))
    c.close.ensures.live
