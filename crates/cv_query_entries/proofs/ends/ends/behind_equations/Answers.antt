use Rattle.std.proofs.Common.{length, ap, sym, arith, ◌∙◌}
use Rattle.cv_syntax.specs.PoolTrees.{tree_at}
use Rattle.cv_syntax.proofs.Trees.{child_live, empty_at}
use Rattle.cv_scene.specs.lines.Lines.{lines_of, statements}
use Rattle.cv_query_entries.specs.terms.Parts.{part_tree}
use Rattle.cv_query_entries.proofs.ends.Ending.{drop_one, one_more}
use Rattle.cv_query_entries.proofs.ends.Lines.{nothing_said, said_behind}
use Rattle.cv_query_entries.proofs.ends.ends.behind_equations.Goals as goal

pub returns-in_default-at-clause-few : goal.returns-in_default-at-clause-few
returns-in_default-at-clause-few c = λ e.
    let trees = c.args.pool.now.trees in
    let x = c.in-Some.x in
    let y = c.in-Some-read_part.y in
    let n = one_more (part_tree trees c.args.left.now c.pairs.m) (part_tree trees c.args.right.now c.pairs.n) x.head y.head (part_tree trees c.args.left.now x.first) (part_tree trees c.args.left.now x.second) (part_tree trees c.args.right.now y.first) (part_tree trees c.args.right.now y.second) c.in-Some.ensures.tree c.in-Some-read_part.ensures.tree in
    let z = ap length (nothing_said (tree_at trees c.pairs.at) (empty_at trees c.pairs.at c.in_default-at.is)) in
    omega (arith, n, z, c.pairs.invariant.count)

pub pairs-preserved : goal.pairs-preserved
pairs-preserved c =
    let trees = c.args.pool.now.trees in
    let x = c.in-Some.x in
    let y = c.in-Some-read_part.y in
    let line = c.read_node-line.result in
    let said = said_behind trees c.pairs.at c.in-Some-at.k line c.in-Some-at.is c.read_node-line.ensures.tree in
    let n = one_more (part_tree trees c.args.left.now c.pairs.m) (part_tree trees c.args.right.now c.pairs.n) x.head y.head (part_tree trees c.args.left.now x.first) (part_tree trees c.args.left.now x.second) (part_tree trees c.args.right.now y.first) (part_tree trees c.args.right.now y.second) c.in-Some.ensures.tree c.in-Some-read_part.ensures.tree in
    let l = ap length said in
    record {
      live = child_live (length trees) c.pairs.at c.in-Some-at.k line.second c.in-Some-at.is c.pairs.invariant.live c.read_node-line.ensures.second;
      m = c.in-Some.ensures.second;
      n = c.in-Some-read_part.ensures.second;
      rest = sym (drop_one (part_tree trees c.args.left.now c.pairs.m) (part_tree trees c.args.right.now c.pairs.n) x.head y.head (part_tree trees c.args.left.now x.first) (part_tree trees c.args.left.now x.second) (part_tree trees c.args.right.now y.first) (part_tree trees c.args.right.now y.second) c.in-Some.ensures.tree c.in-Some-read_part.ensures.tree (statements (lines_of (tree_at trees c.pairs.at))) _ (statements (lines_of (tree_at trees line.second))) said) ∙ c.pairs.invariant.rest;
      count = omega (arith, n, l, c.pairs.invariant.count);
    }
