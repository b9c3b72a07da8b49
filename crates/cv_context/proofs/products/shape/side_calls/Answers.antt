use Rattle.std.proofs.Common.{map, ap, sym, ◌∙◌}
use Rattle.cv_syntax_trees.specs.Tree.{second}
use Rattle.cv_syntax.proofs.Trees.{empty_at}
use Rattle.cv_match_terms.specs.patterns.Sites.{site_in}
use Rattle.cv_context.specs.products.Shapes.{calls_from}
use Rattle.cv_context.specs.products.ShapesInCode.{calls_in}
use Rattle.cv_context.proofs.products.shape.side_calls.Goals as goal

pub returns-in_default : goal.returns-in_default
unfolding calls_from
returns-in_default c = λ M.
    let trees = c.args.pool.now.trees in
    ap (map calls_in) c.new.ensures.items ∙ sym (ap (λ u. calls_from (map (site_in trees M) c.args.sites.now) 0 (second u)) (empty_at trees c.args.side c.in_default.is))
