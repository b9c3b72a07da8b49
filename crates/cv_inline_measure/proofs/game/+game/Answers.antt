use Rattle.std.proofs.Common.{◌<◌, ◌+◌, ◌*◌, [], rules, length, ap, arith, subst, ◌∙◌}
use Rattle.std.proofs.lemmas.Result.{IfOk-weaker}
use Rattle.cv_syntax_trees.specs.Tree.{size}
use Rattle.cv_syntax.specs.PoolTrees.{tree_at}
use Rattle.cv_syntax.specs.Walks.{above}
use Rattle.cv_syntax.proofs.Trees.{child_live, empty_at}
use Rattle.cv_syntax.proofs.Walking.{above_child, above_some, size_node}
use Rattle.std.proofs.Common.{ℕ, ◌≡◌}
use Rattle.cv_syntax_trees.specs.Tree.{Tree}
use Rattle.cv_meaning.specs.contexts.Groups.{Group}
use Rattle.cv_inline.specs.NextGame.{numbered}
use Rattle.cv_inline_laws.specs.extents.Extents.{of_call_at, of_game}
use Rattle.cv_inline_measure.specs.declared.game.Kind.{Kind}
use Rattle.cv_inline_measure.specs.Counts.{IsTold}
use Rattle.cv_syntax.specs.limits.Limits.{told}
use Rattle.cv_inline_measure.specs.Games.{answers_in, call_of_game, of_child}
use Rattle.cv_inline_measure.specs.Settings.{calls_of, measure_of}
use Rattle.cv_inline_measure.proofs.Arguments.{second_small}
use Rattle.cv_inline_measure.proofs.Walks.{call_game, call_told, empty_game, node_game}
use Rattle.cv_inline_measure.proofs.game.+game.Goals as goal

pub call-call_extent-requires-clause-small : goal.call-call_extent-requires-clause-small
call-call_extent-requires-clause-small t c =
    let e = ap size c.second_of-arguments.ensures.tree in
    omega (arith, e, second_small (tree_at c.args.setting.now.pool.now.trees c.args.node.first), c.requires.first_fits)

pub call-returns : goal.call-returns
call-returns t c = λ k g e.
    let s = c.args.setting.now in
    let trees = s.pool.now.trees in
    call_told s.measure (calls_of s k g) c.args.copies c.join.result c.along.result c.along-places.result c.in_ok-rest.rest c.args.x c.args.number (answers_in c.args.answers.now) (answers_in c.as_slice.result.now) c.in_ok-call.call (tree_at trees c.args.node.first) (tree_at trees c.args.node.second)
    (subst (λ (z : Tree). IsTold c.in_ok-call.call (of_call_at (measure_of s) (calls_of s k g) (numbered c.args.number (calls_of s k g).callings) z)) c.second_of-arguments.ensures.tree (c.in_ok-call.ensures k g e))
    (ap answers_in c.as_slice.ensures.value ∙ c.in_ok-behind.ensures) c.along-places.ensures (c.in_ok-rest.ensures k g e) c.along.ensures c.join.ensures

pub game-returns-in_default : goal.game-returns-in_default
game-returns-in_default t c = λ x g e.
    let s = c.args.setting.now in
    empty_game s.measure (calls_of s x g) c.args.copies c.along.result (answers_in c.args.answers.now) (tree_at s.pool.now.trees c.args.part) (empty_at s.pool.now.trees c.args.part c.in_default.is) c.along.ensures

pub game-call-requires : goal.game-call-requires
game-call-requires t c =
    let trees = c.args.setting.now.pool.now.trees in
    let node = c.read_node-node.result in
    let e = ap (tree_at trees) c.in-Some.is ∙ c.read_node-node.ensures.tree in
    let z = size_node (tree_at trees c.args.part) node.head (tree_at trees node.first) (tree_at trees node.second) e in
    let less : 4 * above node.second + 1 < 4 * above c.args.part = omega (arith, above_some c.args.part c.in-Some.n c.in-Some.is, above_child c.in-Some.n.0 node.second c.read_node-node.ensures.second) in (
      search (rules, arith),
      (
        c.requires.setting,
        (
          child_live (length trees) c.args.part c.in-Some.n node.first c.in-Some.is c.requires.live c.read_node-node.ensures.first,
          (
            child_live (length trees) c.args.part c.in-Some.n node.second c.in-Some.is c.requires.live c.read_node-node.ensures.second,
            (omega (arith, c.requires.fits, z), omega (arith, c.requires.fits, z)),
          ),
        ),
      ),
    )

pub game-below-requires : goal.game-below-requires
game-below-requires t c =
    let trees = c.args.setting.now.pool.now.trees in
    let node = c.read_node-node.result in
    let e = ap (tree_at trees) c.in-Some.is ∙ c.read_node-node.ensures.tree in
    let z = size_node (tree_at trees c.args.part) node.head (tree_at trees node.first) (tree_at trees node.second) e in
    let less : 4 * above node.first + 1 < 4 * above c.args.part = omega (arith, above_some c.args.part c.in-Some.n c.in-Some.is, above_child c.in-Some.n.0 node.first c.read_node-node.ensures.first) in
    (search (rules, arith), (c.requires.setting, (child_live (length trees) c.args.part c.in-Some.n node.first c.in-Some.is c.requires.live c.read_node-node.ensures.first, omega (arith, c.requires.fits, z))))

pub game-below-requires-in_default-head : goal.game-below-requires-in_default-head
game-below-requires-in_default-head t c =
    let trees = c.args.setting.now.pool.now.trees in
    let node = c.read_node-node.result in
    let e = ap (tree_at trees) c.in-Some.is ∙ c.read_node-node.ensures.tree in
    let z = size_node (tree_at trees c.args.part) node.head (tree_at trees node.first) (tree_at trees node.second) e in
    let less : 4 * above node.second + 1 < 4 * above c.args.part = omega (arith, above_some c.args.part c.in-Some.n c.in-Some.is, above_child c.in-Some.n.0 node.second c.read_node-node.ensures.second) in
    (search (rules, arith), (c.requires.setting, (child_live (length trees) c.args.part c.in-Some.n node.second c.in-Some.is c.requires.live c.read_node-node.ensures.second, omega (arith, c.requires.fits, z))))

pub game-returns-in-Call : goal.game-returns-in-Call
game-returns-in-Call t c =
    let s = c.args.setting.now in
    let trees = s.pool.now.trees in
    let node = c.read_node-node.result in
    let e = ap (tree_at trees) c.in-Some.is ∙ c.read_node-node.ensures.tree in
    IfOk-weaker c.call.result
    (λ n. (x : ℕ) (g : Group) → g.key.0 ≡ s.right_key → n ≡ told (call_of_game (measure_of s) (calls_of s x g) c.args.copies (answers_in c.args.answers.now) c.in-Call.x c.in-Call.number (tree_at trees node.first) (tree_at trees node.second)))
    (λ n. (x : ℕ) (g : Group) → g.key.0 ≡ s.right_key → n ≡ told (of_game (measure_of s) (calls_of s x g) c.args.copies (answers_in c.args.answers.now) (tree_at trees c.args.part)))
    (λ n h. λ x g k. call_game s.measure (calls_of s x g) c.args.copies n c.in-Call.x c.in-Call.number (answers_in c.args.answers.now) node.head (tree_at trees c.args.part) (tree_at trees node.first) (tree_at trees node.second) c.in-Call.is e (h x g k)) c.call.ensures

pub game-returns-in_ok-second-in_default-head : goal.game-returns-in_ok-second-in_default-head
game-returns-in_ok-second-in_default-head t c = λ x g k.
    let s = c.args.setting.now in
    let i = calls_of s x g in
    let trees = s.pool.now.trees in
    let node = c.read_node-node.result in
    let e = ap (tree_at trees) c.in-Some.is ∙ c.read_node-node.ensures.tree in
    node_game s.measure i c.args.copies c.weight.result c.in_ok-first-in_default-head.first c.in_ok-second-in_default-head.second c.over_node.result (answers_in c.args.answers.now) node.head (tree_at trees c.args.part) (tree_at trees node.first) (tree_at trees node.second)
    c.in_default-head.not-Call e c.weight.ensures.weight
    (c.in_ok-first-in_default-head.ensures x g k ∙ ap (λ (q : Kind). told (of_child (measure_of s) i c.args.copies (answers_in c.args.answers.now) q (tree_at trees node.first))) c.first_child-before.ensures)
    (c.in_ok-second-in_default-head.ensures x g k ∙ ap (λ (q : Kind). told (of_child (measure_of s) i c.args.copies [] q (tree_at trees node.second))) c.second_child-after.ensures)
    c.over_node.ensures
