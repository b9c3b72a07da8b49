use Rattle.std.proofs.Common.{◌+◌, ◌∷◌, ◌∙◌, ap, length, sym}
use Rattle.std.proofs.lemmas.Result.{on_ok_weaker}
use Rattle.cv_syntax_trees.specs.Tree.{Node}
use Rattle.cv_syntax.specs.PoolTrees.{tree_at}
use Rattle.cv_edit_places.specs.Parts.{made_by, stack_of}
use Rattle.cv_rule_move.proofs.Listing.{made_alone, one_body}
use Rattle.cv_rule_move.proofs.bodies.add_bodies.Goals as goal

pub returns-in_default : goal.returns-in_default
returns-in_default c =
    let trees = c.args.pool.now.trees in
    let definition = c.args.definition in
    let construct = c.args.construct in
    record {
      stack =
          on_ok_weaker c.add_process.result
          (λ k. k trees ∙ ap (λ t. t ∷ stack_of trees c.args.parts.now)
          (sym (one_body (Node definition.head (tree_at trees definition.first)) construct.head (tree_at trees construct.first) (tree_at trees construct.second) c.in_default.not-Find c.in_default.not-If)))
          c.add_process.ensures.stack;
      made =
          on_ok_weaker c.add_process.result
          (λ k. k ∙ ap (λ n. made_by c.args.parts.now + n) (sym (made_alone construct.head (tree_at trees construct.first) (tree_at trees construct.second) c.in_default.not-Find c.in_default.not-If)))
          c.add_process.ensures.made;
      live = on_ok_weaker c.add_process.result (λ k a. k (length trees) a c.requires.definition c.requires.first c.requires.second) c.add_process.ensures.live;
    }
