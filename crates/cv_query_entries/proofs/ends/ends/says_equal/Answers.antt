use Rattle.std.proofs.Common.{ap}
use Rattle.std.specs.Prelude.{option_map}
use Rattle.cv_syntax.specs.PoolTrees.{tree_at}
use Rattle.cv_derive_reasons.specs.inferences.Sides.{both_at}
use Rattle.cv_derive_lines.specs.Views.{statement_of}
use Rattle.cv_query_entries.specs.terms.Parts.{part_tree}
use Rattle.cv_query_entries.proofs.ends.Ending.{first_differs, first_same, no_sides}
use Rattle.cv_query_entries.proofs.ends.ends.says_equal.Goals as goal

pub returns-in_default-sides : goal.returns-in_default-sides
returns-in_default-sides c =
    let trees = c.args.pool.now.trees in
    no_sides (statement_of trees c.args.claim) (tree_at trees c.in-Holds.term) (part_tree trees c.args.left.now c.args.m) (part_tree trees c.args.right.now c.args.n) (ap (statement_of trees) c.in-Holds.is) (option_map (both_at trees) c.sides.result) c.sides.ensures.sides (ap (option_map (both_at trees)) c.in_default-sides.is)

pub returns-then-same_part : goal.returns-then-same_part
returns-then-same_part c =
    let trees = c.args.pool.now.trees in
    first_same (statement_of trees c.args.claim) (tree_at trees c.in-Holds.term) (part_tree trees c.args.left.now c.args.m) (part_tree trees c.args.right.now c.args.n) (ap (statement_of trees) c.in-Holds.is) (option_map (both_at trees) c.sides.result) c.sides.ensures.sides (tree_at trees c.in-Some.both.0) (tree_at trees c.in-Some.both.1) (ap (option_map (both_at trees)) c.in-Some.is) c.same_part.result c.same_part.ensures c.same_part-then-same_part.result c.same_part-then-same_part.ensures c.if-same_part.true

pub returns-else-same_part : goal.returns-else-same_part
returns-else-same_part c =
    let trees = c.args.pool.now.trees in
    first_differs (statement_of trees c.args.claim) (tree_at trees c.in-Holds.term) (part_tree trees c.args.left.now c.args.m) (part_tree trees c.args.right.now c.args.n) (ap (statement_of trees) c.in-Holds.is) (option_map (both_at trees) c.sides.result) c.sides.ensures.sides (tree_at trees c.in-Some.both.0) (tree_at trees c.in-Some.both.1) (ap (option_map (both_at trees)) c.in-Some.is) c.same_part.result c.same_part.ensures c.if-same_part.false
