use Rattle.std.proofs.Common.{◌+◌, arith, ap, ap₂, length, sym, ◌∙◌, Some, ltb-true}
use Rattle.cv_syntax_trees.specs.Children.{is_empty}
use Rattle.cv_syntax_trees.specs.Tree.{size}
use Rattle.cv_syntax.specs.PoolTrees.{tree_at}
use Rattle.cv_syntax.proofs.Trees.{tree_at_None}
use Rattle.cv_syntax.proofs.Walking.{live_child, size_node}
use Rattle.cv_scene_view.specs.Kept.{scene_of}
use Rattle.cv_rule_move.specs.merge.Looks.{body_at, first_in}
use Rattle.cv_rule_move.specs.merge.Merging.{Body, bodies, first_other}
use Rattle.cv_rule_move.proofs.merge.Planned.{empty_there, none_there, other_there, part_small}
use Rattle.cv_rule_move.proofs.merge.planning.site_at.Goals as goal

pub returns-in_default-clause-refused : goal.returns-in_default-clause-refused
returns-in_default-clause-refused c =
    let trees = c.args.work.now.pool.trees in
    let s = scene_of c.args.work.now.pool c.args.work.now.decls c.args.game in
    none_there s c.args.place c.has_place.result c.has_place.ensures c.if-not-has_place.false (ap (λ t. first_in (bodies c.args.place t)) (sym c.in_default.ensures.part ∙ tree_at_None trees)) ∙ ap Some (sym c.failed-in_default.ensures)

pub first_body-requires-clause-fits : goal.first_body-requires-clause-fits
first_body-requires-clause-fits c =
    let trees = c.args.work.now.pool.trees in
    let game = tree_at trees (Some c.args.game) in
    let k = c.read_node-construct.result in
    let there = ltb-true c.args.place (size game) (sym c.has_place.ensures ∙ c.if-not-has_place.false) in
    let part = size_node (tree_at trees (Some c.in-Some.node)) k.head (tree_at trees k.first) (tree_at trees k.second) c.read_node-construct.ensures.tree in
    omega (arith, c.requires.small, there, part, ap size c.in-Some.ensures.part, part_small game c.args.place)

pub returns-in_default-first_body-clause-refused : goal.returns-in_default-first_body-clause-refused
returns-in_default-first_body-clause-refused c =
    let trees = c.args.work.now.pool.trees in
    let s = scene_of c.args.work.now.pool c.args.work.now.decls c.args.game in
    let stands = sym c.in-Some.ensures.part ∙ c.read_node-construct.ensures.tree in
    none_there s c.args.place c.has_place.result c.has_place.ensures c.if-not-has_place.false (ap (λ t. first_in (bodies c.args.place t)) stands ∙ sym c.in_default-first_body.ensures.body) ∙ ap Some (sym c.failed-in_default-first_body.ensures)

pub returns-in_default-process_in-clause-refused : goal.returns-in_default-process_in-clause-refused
returns-in_default-process_in-clause-refused c =
    let trees = c.args.work.now.pool.trees in
    let s = scene_of c.args.work.now.pool c.args.work.now.decls c.args.game in
    let stands = sym c.in-Some.ensures.part ∙ c.read_node-construct.ensures.tree in
    let b = body_at trees c.in-Some-first_body.body in
    let first = ap (λ t. first_in (bodies c.args.place t)) stands ∙ sym c.in-Some-first_body.ensures.body in
    empty_there s c.args.place c.has_place.result c.has_place.ensures c.if-not-has_place.false b first c.in_default-process_in.ensures.none ∙ ap Some (sym c.failed-in_default-process_in.ensures)

pub first_other-requires-clause-fits : goal.first_other-requires-clause-fits
first_other-requires-clause-fits c =
    let trees = c.args.work.now.pool.trees in
    let game = tree_at trees (Some c.args.game) in
    let k = c.read_node-construct.result in
    let there = ltb-true c.args.place (size game) (sym c.has_place.ensures ∙ c.if-not-has_place.false) in
    let part = size_node (tree_at trees (Some c.in-Some.node)) k.head (tree_at trees k.first) (tree_at trees k.second) c.read_node-construct.ensures.tree in
    omega (arith, c.requires.small, there, part, ap size c.in-Some.ensures.part, part_small game c.args.place)

pub size-requires-clause-fits : goal.size-requires-clause-fits
size-requires-clause-fits c =
    let game = tree_at c.args.work.now.pool.trees (Some c.args.game) in
    omega (arith, c.requires.small, ap size c.in-Some.ensures.part, part_small game c.args.place)

pub overflow_add-result : goal.overflow_add-result
overflow_add-result c =
    let game = tree_at c.args.work.now.pool.trees (Some c.args.game) in
    let there = ltb-true c.args.place (size game) (sym c.has_place.ensures ∙ c.if-not-has_place.false) in
    omega (arith, c.requires.small, there, c.size.ensures, ap size c.in-Some.ensures.part, part_small game c.args.place)

pub returns-in-Some-first_other-clause-refused : goal.returns-in-Some-first_other-clause-refused
returns-in-Some-first_other-clause-refused c =
    let trees = c.args.work.now.pool.trees in
    let s = scene_of c.args.work.now.pool c.args.work.now.decls c.args.game in
    let stands = sym c.in-Some.ensures.part ∙ c.read_node-construct.ensures.tree in
    let b = body_at trees c.in-Some-first_body.body in
    let first = ap (λ t. first_in (bodies c.args.place t)) stands ∙ sym c.in-Some-first_body.ensures.body in
    let same = c.in-Some-process_in.ensures.process in
    let other = ap₂ (λ x t. first_other x (bodies c.args.place t)) (sym same) stands ∙ sym c.in-Some-first_other.ensures in
    other_there s c.args.place c.has_place.result c.has_place.ensures c.if-not-has_place.false b c.in-Some-first_other.other first (ap is_empty (sym same) ∙ c.in-Some-process_in.ensures.full) other ∙ ap Some (sym c.failed-in-Some-first_other.ensures)

pub returns-in-None-clause-site : goal.returns-in-None-clause-site
returns-in-None-clause-site c =
    let trees = c.args.work.now.pool.trees in
    let game = tree_at trees (Some c.args.game) in
    let node = c.read_node-construct.result in
    let place = c.in-Some-first_body.body.place in
    let stands = sym c.in-Some.ensures.part ∙ c.read_node-construct.ensures.tree in
    let first = ap (λ t. first_in (bodies c.args.place t)) stands ∙ sym c.in-Some-first_body.ensures.body in
    let same = c.in-Some-process_in.ensures.process in
    record {
      there = ltb-true c.args.place (size game) (sym c.has_place.ensures ∙ c.if-not-has_place.false);
      stands = stands;
      body = first ∙ ap (λ x. Some (let b : Body = record { place = place; process = x } in b)) (sym same);
      full = c.in-Some-process_in.ensures.full;
      equal = ap (λ t. first_other (tree_at trees (Some c.in-Some-process_in.process)) (bodies c.args.place t)) stands ∙ sym c.in-None.ensures;
      behind = ap (λ n. c.args.place + n) (c.size.ensures ∙ ap size c.in-Some.ensures.part);
      first = live_child (length trees) c.in-Some.node.0 node.first (omega (arith, c.in-Some.ensures.live, c.requires.live)) c.read_node-construct.ensures.first;
      live = c.in-Some-process_in.ensures.live;
    }
