use Rattle.std.proofs.Common.{◌≡◌, None, Some, sym, ap, ◌∙◌, arith}
use Rattle.std.specs.Prelude.{option_map}
use Rattle.cv_meaning.specs.Replaced.{replaced}
use Rattle.cv_syntax_trees.specs.Tree.{Node, size, depth, subtree}
use Rattle.cv_syntax.specs.PoolTrees.{tree_at}
use Rattle.cv_syntax.proofs.Walking.{size_node}
use Rattle.cv_syntax.specs.declared.limits.games.Extent.{Extent}
use Rattle.cv_path.proofs.extents.Extents.{size_part}
use Rattle.cv_edit_changes.specs.pruning.Bodies.{part_of}
use Rattle.cv_edit_changes.specs.pruning.Lefts.{left_of}
use Rattle.cv_edit_changes.proofs.pruning.Games.{game_here, measured, no_map}
use Rattle.cv_edit_changes.proofs.pruning.measuring.measure_without_body.Goals as goal

pub left_extent-requires-clause-fits : goal.left_extent-requires-clause-fits
left_extent-requires-clause-fits c =
    let trees = c.args.pool.now.trees in
    let game = tree_at trees (Some c.args.root) in
    let part = part_of c.args.body in
    let h = c.read_node-construct.result.head in
    let a = tree_at trees c.read_node-construct.result.first in
    let b = tree_at trees c.read_node-construct.result.second in
    let e = c.read_node-construct.ensures.tree in
    let found : subtree game c.args.place ≡ Some (tree_at trees (Some c.in_ok-part.part)) = sym c.in_ok-part.ensures.tree in
    omega (arith, c.requires.fits, size_part game c.args.place _ found, size_node (tree_at trees (Some c.in_ok-part.part)) h a b e)

pub returns-in_err-new-clause-nodes : goal.returns-in_err-new-clause-nodes
returns-in_err-new-clause-nodes c =
    let trees = c.args.pool.now.trees in
    let game = tree_at trees (Some c.args.root) in
    let part = part_of c.args.body in
    let h = c.read_node-construct.result.head in
    let a = tree_at trees c.read_node-construct.result.first in
    let b = tree_at trees c.read_node-construct.result.second in
    let e = c.read_node-construct.ensures.tree in
    let found : subtree game c.args.place ≡ Some (tree_at trees (Some c.in_ok-part.part)) = sym c.in_ok-part.ensures.tree in
    ap (option_map (λ (x : Extent). x.nodes)) c.from_residual-in_err-new.ensures
    ∙ sym (ap (option_map size) (game_here game c.args.place part (Node h a b) (found ∙ ap Some e) ∙ ap (option_map (replaced game c.args.place)) (no_map size (left_of (Node h a b) part) (sym c.in_err-new.ensures.nodes))))

pub returns-in_err-new-clause-depth : goal.returns-in_err-new-clause-depth
returns-in_err-new-clause-depth c =
    let trees = c.args.pool.now.trees in
    let game = tree_at trees (Some c.args.root) in
    let part = part_of c.args.body in
    let h = c.read_node-construct.result.head in
    let a = tree_at trees c.read_node-construct.result.first in
    let b = tree_at trees c.read_node-construct.result.second in
    let e = c.read_node-construct.ensures.tree in
    let found : subtree game c.args.place ≡ Some (tree_at trees (Some c.in_ok-part.part)) = sym c.in_ok-part.ensures.tree in
    ap (option_map (λ (x : Extent). x.depth)) c.from_residual-in_err-new.ensures
    ∙ sym (ap (option_map depth) (game_here game c.args.place part (Node h a b) (found ∙ ap Some e) ∙ ap (option_map (replaced game c.args.place)) (no_map depth (left_of (Node h a b) part) (sym c.in_err-new.ensures.depth))))

pub extent_with-requires-clause-fits : goal.extent_with-requires-clause-fits
extent_with-requires-clause-fits c =
    let trees = c.args.pool.now.trees in
    let game = tree_at trees (Some c.args.root) in
    let part = part_of c.args.body in
    let h = c.read_node-construct.result.head in
    let a = tree_at trees c.read_node-construct.result.first in
    let b = tree_at trees c.read_node-construct.result.second in
    let e = c.read_node-construct.ensures.tree in
    let found : subtree game c.args.place ≡ Some (tree_at trees (Some c.in_ok-part.part)) = sym c.in_ok-part.ensures.tree in
    omega (arith, c.requires.fits, c.in_ok-new.ensures.few, size_part game c.args.place _ found, size_node (tree_at trees (Some c.in_ok-part.part)) h a b e)

pub returns-clause-nodes : goal.returns-clause-nodes
returns-clause-nodes c =
    let trees = c.args.pool.now.trees in
    let game = tree_at trees (Some c.args.root) in
    let part = part_of c.args.body in
    let h = c.read_node-construct.result.head in
    let a = tree_at trees c.read_node-construct.result.first in
    let b = tree_at trees c.read_node-construct.result.second in
    let e = c.read_node-construct.ensures.tree in
    let found : subtree game c.args.place ≡ Some (tree_at trees (Some c.in_ok-part.part)) = sym c.in_ok-part.ensures.tree in
    measured size game c.args.place c.in_ok-new.new.nodes c.extent_with.result.nodes (left_of (Node h a b) part) c.in_ok-new.ensures.nodes c.extent_with.ensures.nodes
    ∙ sym (ap (option_map size) (game_here game c.args.place part (Node h a b) (found ∙ ap Some e)))

pub returns-clause-depth : goal.returns-clause-depth
returns-clause-depth c =
    let trees = c.args.pool.now.trees in
    let game = tree_at trees (Some c.args.root) in
    let part = part_of c.args.body in
    let h = c.read_node-construct.result.head in
    let a = tree_at trees c.read_node-construct.result.first in
    let b = tree_at trees c.read_node-construct.result.second in
    let e = c.read_node-construct.ensures.tree in
    let found : subtree game c.args.place ≡ Some (tree_at trees (Some c.in_ok-part.part)) = sym c.in_ok-part.ensures.tree in
    measured depth game c.args.place c.in_ok-new.new.depth c.extent_with.result.depth (left_of (Node h a b) part) c.in_ok-new.ensures.depth c.extent_with.ensures.depth
    ∙ sym (ap (option_map depth) (game_here game c.args.place part (Node h a b) (found ∙ ap Some e)))
