use Rattle.std.proofs.Common.{Some, ◌∙◌, ap, arith, ltb-true, sym}
use Rattle.cv_syntax_trees.specs.Tree.{Node, size}
use Rattle.cv_syntax.specs.PoolTrees.{tree_at}
use Rattle.cv_rule_move.proofs.Planned.{behind_within}
use Rattle.cv_rule_move.proofs.planning.movable.Goals as goal

pub size_below-requires-clause-fits : goal.size_below-requires-clause-fits
size_below-requires-clause-fits c =
    let trees = c.args.work.now.pool.trees in
    let game = tree_at trees (Some c.args.game) in
    let d = c.in-Some.definition in
    let k = c.in-Some-read_child.construct in
    let stands = sym c.part_at.ensures.part ∙ (c.in-Some.ensures.node ∙ ap (Node d.head (tree_at trees d.first)) c.in-Some-read_child.ensures.node) in
    let there = ltb-true c.args.place (size game) (sym c.has_place.ensures ∙ c.if-not-has_place.false) in
    let within = behind_within game c.args.place d.head k.head (tree_at trees d.first) (tree_at trees k.first) (tree_at trees k.second) c.in-Some-variable_of.x stands (c.in-Some-variable_of.ensures (tree_at trees d.first) (Node k.head (tree_at trees k.first) (tree_at trees k.second))) there in
    omega (arith, c.requires.fits, within)

pub overflow_add-behind-2 : goal.overflow_add-behind-2
overflow_add-behind-2 c =
    let trees = c.args.work.now.pool.trees in
    let game = tree_at trees (Some c.args.game) in
    let d = c.in-Some.definition in
    let k = c.in-Some-read_child.construct in
    let stands = sym c.part_at.ensures.part ∙ (c.in-Some.ensures.node ∙ ap (Node d.head (tree_at trees d.first)) c.in-Some-read_child.ensures.node) in
    let there = ltb-true c.args.place (size game) (sym c.has_place.ensures ∙ c.if-not-has_place.false) in
    let within = behind_within game c.args.place d.head k.head (tree_at trees d.first) (tree_at trees k.first) (tree_at trees k.second) c.in-Some-variable_of.x stands (c.in-Some-variable_of.ensures (tree_at trees d.first) (Node k.head (tree_at trees k.first) (tree_at trees k.second))) there in
    omega (arith, c.requires.fits, within, c.size_below.ensures)

pub first_naming-requires-clause-fits : goal.first_naming-requires-clause-fits
first_naming-requires-clause-fits c =
    let trees = c.args.work.now.pool.trees in
    let game = tree_at trees (Some c.args.game) in
    let d = c.in-Some.definition in
    let k = c.in-Some-read_child.construct in
    let stands = sym c.part_at.ensures.part ∙ (c.in-Some.ensures.node ∙ ap (Node d.head (tree_at trees d.first)) c.in-Some-read_child.ensures.node) in
    let there = ltb-true c.args.place (size game) (sym c.has_place.ensures ∙ c.if-not-has_place.false) in
    let within = behind_within game c.args.place d.head k.head (tree_at trees d.first) (tree_at trees k.first) (tree_at trees k.second) c.in-Some-variable_of.x stands (c.in-Some-variable_of.ensures (tree_at trees d.first) (Node k.head (tree_at trees k.first) (tree_at trees k.second))) there in
    omega (arith, c.requires.fits, within, c.size_below.ensures)
