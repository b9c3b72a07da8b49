use Rattle.std.proofs.Common.{◌≡◌, ◌≤◌, Some, Err, refl, sym, ap, ◌∙◌, arith, length}
use Rattle.std.specs.Prelude.{option_map}
use Rattle.cv_pool.specs.declared.pool.PoolError.TheVariants as pool
use Rattle.cv_meaning.specs.Replaced.{replaced}
use Rattle.cv_syntax_trees.specs.Tree.{size}
use Rattle.cv_syntax.specs.PoolTrees.{tree_at}
use Rattle.cv_path.proofs.extents.Extents.{size_part}
use Rattle.cv_path.specs.Ways.{led}
use Rattle.cv_edit_changes.specs.pruning.Bodies.{need_of, part_of}
use Rattle.cv_edit_changes.specs.pruning.Lefts.{left_of}
use Rattle.cv_edit_changes.proofs.pruning.Games.{body_refused, game_here, map_same, nodes_here, passed_on, room_refused, same_error, some_of, space, way_refused}
use Rattle.cv_edit_changes.proofs.pruning.making.make_without_body.Goals as goal
use Rattle.cv_syntax.proofs.listing.Lists.{no_error}

pub returns-in_err-way-clause-refused : goal.returns-in_err-way-clause-refused
returns-in_err-way-clause-refused c =
    let before = c.args.pool.now in
    let game = tree_at before.trees (Some c.args.root) in
    λ e r.
    let same = passed_on c.from_residual.result c.in_err-way.field-0.0 e c.from_residual.ensures.1 r in
    way_refused before game c.args.place (part_of c.args.body) e (c.way_to.ensures.refused e (c.in_err-way.was ∙ ap Err same))

pub add_construct-requires-clause-fits : goal.add_construct-requires-clause-fits
add_construct-requires-clause-fits c =
    let before = c.args.pool.now in
    let trees = before.trees in
    let game = tree_at trees (Some c.args.root) in
    let part = part_of c.args.body in
    let t = tree_at trees (Some c.in_ok-way.way.end) in
    let end = c.in_ok-way.ensures.end in
    omega (arith, c.requires.fits, size_part game c.args.place t end)

pub returns-in_err-by-clause-refused : goal.returns-in_err-by-clause-refused
returns-in_err-by-clause-refused c =
    let before = c.args.pool.now in
    let trees = before.trees in
    let game = tree_at trees (Some c.args.root) in
    let part = part_of c.args.body in
    let t = tree_at trees (Some c.in_ok-way.way.end) in
    let end = c.in_ok-way.ensures.end in
    λ e r.
    let same = passed_on c.from_residual-in_err-by.result c.in_err-by.field-0.0 e c.from_residual-in_err-by.ensures.1 r in
    body_refused before game c.args.place part t end e (c.add_construct.ensures.refused e (c.in_err-by.was ∙ ap Err same))

pub returns-in-Ok-clause-tree : goal.returns-in-Ok-clause-tree
returns-in-Ok-clause-tree c =
    let before = c.args.pool.now in
    let trees = before.trees in
    let game = tree_at trees (Some c.args.root) in
    let part = part_of c.args.body in
    let t = tree_at trees (Some c.in_ok-way.way.end) in
    let end = c.in_ok-way.ensures.end in
    let way = c.add_construct.new.way.items in
    game_here game c.args.place part t end
    ∙ (map_same (replaced game c.args.place) (led trees c.in_ok-way.way.turns.items) (left_of t part) (λ x. sym (c.in_ok-way.ensures.leads x))
    ∙ (c.in_ok-by.ensures.leads ∙ ap Some (sym (c.rebuilt.ensures.tree ∙ ap (λ ts. led ts way (tree_at ts c.in_ok-by.by)) c.reserve.ensures.kept))))

pub returns-in-Ok-clause-accepted : goal.returns-in-Ok-clause-accepted
returns-in-Ok-clause-accepted c =
    let before = c.args.pool.now in
    let trees = before.trees in
    let game = tree_at trees (Some c.args.root) in
    let part = part_of c.args.body in
    let t = tree_at trees (Some c.in_ok-way.way.end) in
    let end = c.in_ok-way.ensures.end in
    let there = some_of (led trees c.in_ok-way.way.turns.items) (left_of t part) _ c.in_ok-by.ensures.leads in
    let need : length c.add_construct.new.way.items ≡ need_of game c.args.place part = omega (arith, c.in_ok-by.ensures.long, c.in_ok-way.ensures.long, nodes_here game c.args.place part t end) in
    let few : length c.add_construct.new.way.items ≤ c.args.root.0 = omega (arith, c.in_ok-by.ensures.few, c.in_ok-way.ensures.few) in
    space before game c.args.place part t there.0 end there.1 (λ l. no_error c.reserve.result c.in-Ok.field-0 _ c.in-Ok.is (c.reserve.ensures.full.1 (omega (arith, l, need, few, c.len.ensures, c.requires.live))))

pub returns-in-Err-clause-refused : goal.returns-in-Err-clause-refused
returns-in-Err-clause-refused c =
    let before = c.args.pool.now in
    let trees = before.trees in
    let game = tree_at trees (Some c.args.root) in
    let part = part_of c.args.body in
    let t = tree_at trees (Some c.in_ok-way.way.end) in
    let end = c.in_ok-way.ensures.end in
    λ e r.
    let there = some_of (led trees c.in_ok-way.way.turns.items) (left_of t part) _ c.in_ok-by.ensures.leads in
    let need : length c.add_construct.new.way.items ≡ need_of game c.args.place part = omega (arith, c.in_ok-by.ensures.long, c.in_ok-way.ensures.long, nodes_here game c.args.place part t end) in
    let few : length c.add_construct.new.way.items ≤ c.args.root.0 = omega (arith, c.in_ok-by.ensures.few, c.in_ok-way.ensures.few) in
    room_refused before game c.args.place part t there.0 end there.1 c.in-Err.fault e (sym (same_error _ _ e refl r) ∙ c.no_room.ensures)
    (λ n f. let j = c.reserve.ensures.other n (c.in-Err.is ∙ ap Err f) in (omega (arith, j, need, few, c.len.ensures, c.requires.live), omega (arith, j, c.reserve.ensures.full.0 (c.in-Err.is ∙ ap Err (f ∙ ap pool.Full j)))))
