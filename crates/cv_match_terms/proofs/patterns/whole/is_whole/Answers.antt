use Rattle.std.proofs.Common.{ap, ◌∙◌}
use Rattle.cv_syntax_trees.specs.Tree.{same_tree}
use Rattle.cv_syntax.specs.PoolTrees.{tree_at}
use Rattle.cv_meaning.specs.contexts.Groups.{function_of, group_of}
use Rattle.cv_match_terms.specs.patterns.Searches.{filled_part}
use Rattle.cv_match_terms.proofs.patterns.Parts.{whole_part}
use Rattle.cv_match_terms.proofs.patterns.whole.is_whole.Goals as goal

pub returns : goal.returns
returns c =
    let trees = c.args.pool.now.trees in
    let g = group_of (tree_at trees c.args.side) in
    let f = function_of (tree_at trees c.args.f) in
    let m = tree_at trees c.args.term in
    c.is_filled.ensures ∙ (ap (λ b. same_tree (filled_part g f m b) m) c.body_of.ensures.tree ∙ whole_part g f m)
