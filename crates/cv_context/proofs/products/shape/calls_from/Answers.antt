use Rattle.std.proofs.Common.{[], ◌∷◌, length, map, ap, ◌∙◌, arith}
use Rattle.std.proofs.lemmas.List.{map-append}
use Rattle.cv_syntax.specs.PoolTrees.{tree_at}
use Rattle.cv_syntax.specs.Walks.{above}
use Rattle.cv_syntax.proofs.Trees.{child_live, empty_at, node_at}
use Rattle.cv_syntax.proofs.Walking.{above_child}
use Rattle.cv_match_terms.specs.patterns.Sites.{site_in}
use Rattle.cv_context.specs.products.Products.{products}
use Rattle.cv_context.specs.products.ShapesInCode.{calls_in}
use Rattle.cv_context.proofs.products.Shapes.{calls_end, calls_more}
use Rattle.cv_context.proofs.products.shape.calls_from.Goals as goal

pub functions-preserved : goal.functions-preserved
functions-preserved c =
    let trees = c.args.pool.now.trees in
    let node = c.read_node-node.result in
    record {
      live = child_live (length trees) c.functions.at c.in-Some.n node.second c.in-Some.is c.functions.invariant.live c.read_node-node.ensures.second;
      few = omega (arith, above_child c.in-Some.n.0 node.second c.read_node-node.ensures.second, ap above c.in-Some.is);
      same = λ M. calls_more (map (site_in trees M) c.args.sites.now) c.functions.position (tree_at trees c.functions.at) (map calls_in c.functions.calls.items) _ (c.functions.invariant.same M) node.head (tree_at trees node.first) (tree_at trees node.second) (node_at trees c.functions.at c.in-Some.n node c.in-Some.is c.read_node-node.ensures.tree)
          (map calls_in c.push.new.self.items) c.name_of.result (products c.in_ok-calls_of.field-0.items)
          (ap (map calls_in) c.in_ok-push.ensures.items ∙ map-append calls_in c.functions.calls.items (record { function = c.name_of.result; sites = c.in_ok-calls_of.field-0 } ∷ []))
          c.name_of.ensures (c.in_ok-calls_of.ensures trees M);
    }

pub returns : goal.returns
returns c = λ M.
    let trees = c.args.pool.now.trees in
    calls_end (map (site_in trees M) c.args.sites.now) c.functions.position (tree_at trees c.functions.at) (map calls_in c.functions.calls.items) _ (c.functions.invariant.same M) (empty_at trees c.functions.at c.in_default.is)
