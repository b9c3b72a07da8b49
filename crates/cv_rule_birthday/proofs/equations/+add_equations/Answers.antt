use Rattle.std.proofs.Common.{rules, ◌<◌, ◌∷◌, ◌∙◌, arith, ap, length, sym}
use Rattle.std.proofs.lemmas.Result.{on_ok_weaker}
use Rattle.cv_syntax_trees.specs.declared.head.Head.TheVariants.{And, Eq}
use Rattle.cv_syntax.specs.PoolTrees.{tree_at}
use Rattle.cv_syntax.specs.Postorder.{joined}
use Rattle.cv_syntax.specs.Walks.{above}
use Rattle.cv_syntax.proofs.Trees.{child_live, empty_at, node_at, tree_at_None}
use Rattle.cv_syntax.proofs.Walking.{above_child, above_some}
use Rattle.cv_scene.specs.lines.Inferences.{equations_of}
use Rattle.cv_scope_rules.specs.Context.{items}
use Rattle.cv_edit_places.specs.Parts.{stack_of}
use Rattle.cv_rule_birthday.proofs.Equated.{equations_ended, equations_later, made_ended, made_later, made_left, made_right, nothing_left, nothing_right}
use Rattle.cv_rule_birthday.proofs.equations.+add_equations.Goals as goal

pub returns-in_default-clause-stack : goal.returns-in_default-clause-stack
returns-in_default-clause-stack t c =
    let trees = c.args.pool.now.trees in
    let e = nothing_left (tree_at trees c.args.left) (tree_at trees c.args.right) (empty_at trees c.args.left c.in_default.is) in
    on_ok_weaker c.there.result (λ k. k trees ∙ ap (λ u. u ∷ stack_of trees c.args.parts.now) (tree_at_None trees ∙ sym e)) c.there.ensures.stack

pub returns-in_default-clause-made : goal.returns-in_default-clause-made
returns-in_default-clause-made t c =
    let trees = c.args.pool.now.trees in
    let e = made_left (tree_at trees c.args.left) (tree_at trees c.args.right) (empty_at trees c.args.left c.in_default.is) in
    on_ok_weaker c.there.result (λ k. omega (arith, k, e)) c.there.ensures.made

pub returns-in_default-clause-live : goal.returns-in_default-clause-live
returns-in_default-clause-live t c = on_ok_weaker c.there.result (λ k a. k (length c.args.pool.now.trees) a tt) c.there.ensures.live

pub returns-in_default-right-clause-stack : goal.returns-in_default-right-clause-stack
returns-in_default-right-clause-stack t c =
    let trees = c.args.pool.now.trees in
    let e = nothing_right (tree_at trees c.args.left) (tree_at trees c.args.right) (empty_at trees c.args.right c.in_default-right.is) in
    on_ok_weaker c.there-in_default-right.result (λ k. k trees ∙ ap (λ u. u ∷ stack_of trees c.args.parts.now) (tree_at_None trees ∙ sym e)) c.there-in_default-right.ensures.stack

pub returns-in_default-right-clause-made : goal.returns-in_default-right-clause-made
returns-in_default-right-clause-made t c =
    let trees = c.args.pool.now.trees in
    let e = made_right (tree_at trees c.args.left) (tree_at trees c.args.right) (empty_at trees c.args.right c.in_default-right.is) in
    on_ok_weaker c.there-in_default-right.result (λ k. omega (arith, k, e)) c.there-in_default-right.ensures.made

pub returns-in_default-right-clause-live : goal.returns-in_default-right-clause-live
returns-in_default-right-clause-live t c = on_ok_weaker c.there-in_default-right.result (λ k a. k (length c.args.pool.now.trees) a tt) c.there-in_default-right.ensures.live

pub returns-then-ended-clause-stack : goal.returns-then-ended-clause-stack
returns-then-ended-clause-stack t c =
    let trees = c.args.pool.now.trees in
    let m = c.read_node-m.result in
    let n = c.read_node-n.result in
    let e = node_at trees c.args.left c.in-Some.l m c.in-Some.is c.read_node-m.ensures.tree in
    let f = node_at trees c.args.right c.in-Some-right.r n c.in-Some-right.is c.read_node-n.ensures.tree in
    let q = equations_ended (tree_at trees c.args.left) (tree_at trees c.args.right) m.head (tree_at trees m.first) (tree_at trees m.second) n.head (tree_at trees n.first) (tree_at trees n.second) e f c.are_empty-ended.result c.are_empty-ended.ensures c.if-ended.true in
    c.in_ok-over.ensures.stack trees
    ∙ (ap (joined Eq) (c.in_ok-there-2.ensures.stack trees ∙ ap (λ s. tree_at trees n.first ∷ s) (c.in_ok-there.ensures.stack trees))
    ∙ ap (λ u. u ∷ stack_of trees c.args.parts.now) (sym q))

pub returns-then-ended-clause-made : goal.returns-then-ended-clause-made
returns-then-ended-clause-made t c =
    let trees = c.args.pool.now.trees in
    let m = c.read_node-m.result in
    let n = c.read_node-n.result in
    let e = node_at trees c.args.left c.in-Some.l m c.in-Some.is c.read_node-m.ensures.tree in
    let f = node_at trees c.args.right c.in-Some-right.r n c.in-Some-right.is c.read_node-n.ensures.tree in
    let q = made_ended (tree_at trees c.args.left) (tree_at trees c.args.right) m.head (tree_at trees m.first) (tree_at trees m.second) n.head (tree_at trees n.first) (tree_at trees n.second) e f c.are_empty-ended.result c.are_empty-ended.ensures c.if-ended.true in
    omega (arith, q, c.in_ok-over.ensures.made, c.in_ok-there-2.ensures.made, c.in_ok-there.ensures.made)

pub returns-then-ended-clause-live : goal.returns-then-ended-clause-live
returns-then-ended-clause-live t c =
    let n = length c.args.pool.now.trees in
    λ a. c.in_ok-over.ensures.live n (c.in_ok-there-2.ensures.live n (c.in_ok-there.ensures.live n a (child_live n c.args.left c.in-Some.l c.read_node-m.result.first c.in-Some.is c.requires.left c.read_node-m.ensures.first)) (child_live n c.args.right c.in-Some-right.r c.read_node-n.result.first c.in-Some-right.is c.requires.right c.read_node-n.ensures.first))

pub add_equations-requires : goal.add_equations-requires
add_equations-requires t c =
    let n = length c.args.pool.now.trees in
    let k = above_some c.args.left c.in-Some.l c.in-Some.is in
    let b = above_child c.in-Some.l.0 c.read_node-m.result.second c.read_node-m.ensures.second in
    let less : above c.read_node-m.result.second < above c.args.left = omega (arith, k, b) in
    (search rules, (child_live n c.args.left c.in-Some.l c.read_node-m.result.second c.in-Some.is c.requires.left c.read_node-m.ensures.second, child_live n c.args.right c.in-Some-right.r c.read_node-n.result.second c.in-Some-right.is c.requires.right c.read_node-n.ensures.second))

pub returns-clause-stack : goal.returns-clause-stack
returns-clause-stack t c =
    let trees = c.args.pool.now.trees in
    let m = c.read_node-m.result in
    let n = c.read_node-n.result in
    let e = node_at trees c.args.left c.in-Some.l m c.in-Some.is c.read_node-m.ensures.tree in
    let f = node_at trees c.args.right c.in-Some-right.r n c.in-Some-right.is c.read_node-n.ensures.tree in
    let q = equations_later (tree_at trees c.args.left) (tree_at trees c.args.right) m.head (tree_at trees m.first) (tree_at trees m.second) n.head (tree_at trees n.first) (tree_at trees n.second) e f c.are_empty-ended.result c.are_empty-ended.ensures c.if-ended.false in
    let one = c.in_ok-over.ensures.stack trees ∙ ap (joined Eq) (c.in_ok-there-2.ensures.stack trees ∙ ap (λ s. tree_at trees n.first ∷ s) (c.in_ok-there.ensures.stack trees)) in
    let all = c.in_ok-add_equations.ensures.stack in
    on_ok_weaker c.over-2.result (λ k. k trees ∙ (ap (joined And) (all ∙ ap (λ s. equations_of (items (tree_at trees m.second)) (items (tree_at trees n.second)) ∷ s) one) ∙ ap (λ u. u ∷ stack_of trees c.args.parts.now) (sym q))) c.over-2.ensures.stack

pub returns-clause-made : goal.returns-clause-made
returns-clause-made t c =
    let trees = c.args.pool.now.trees in
    let m = c.read_node-m.result in
    let n = c.read_node-n.result in
    let e = node_at trees c.args.left c.in-Some.l m c.in-Some.is c.read_node-m.ensures.tree in
    let f = node_at trees c.args.right c.in-Some-right.r n c.in-Some-right.is c.read_node-n.ensures.tree in
    let q = made_later (tree_at trees c.args.left) (tree_at trees c.args.right) m.head (tree_at trees m.first) (tree_at trees m.second) n.head (tree_at trees n.first) (tree_at trees n.second) e f c.are_empty-ended.result c.are_empty-ended.ensures c.if-ended.false in
    on_ok_weaker c.over-2.result (λ k. omega (arith, k, q, c.in_ok-add_equations.ensures.made, c.in_ok-over.ensures.made, c.in_ok-there-2.ensures.made, c.in_ok-there.ensures.made)) c.over-2.ensures.made

pub returns-clause-live : goal.returns-clause-live
returns-clause-live t c =
    let n = length c.args.pool.now.trees in
    on_ok_weaker c.over-2.result
    (λ k a. k n (c.in_ok-add_equations.ensures.live (c.in_ok-over.ensures.live n (c.in_ok-there-2.ensures.live n (c.in_ok-there.ensures.live n a (child_live n c.args.left c.in-Some.l c.read_node-m.result.first c.in-Some.is c.requires.left c.read_node-m.ensures.first)) (child_live n c.args.right c.in-Some-right.r c.read_node-n.result.first c.in-Some-right.is c.requires.right c.read_node-n.ensures.first)))))
    c.over-2.ensures.live
