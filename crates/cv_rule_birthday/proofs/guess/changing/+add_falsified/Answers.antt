use Rattle.std.proofs.Common.{rules, ◌+◌, ◌<◌, ◌∷◌, ◌∙◌, [], None, arith, ap, length, length-append, sym}
use Rattle.cv_syntax_trees.specs.Tree.{size}
use Rattle.cv_syntax.specs.PoolTrees.{tree_at}
use Rattle.cv_syntax.specs.Walks.{above}
use Rattle.cv_syntax.specs.limits.Limits.{nodes_of}
use Rattle.cv_syntax.proofs.Trees.{child_above, child_live, empty_at, node_at, tree_at_None}
use Rattle.cv_syntax.proofs.Walking.{above_child, above_some, size_at, size_end}
use Rattle.cv_scene.specs.lines.Truths.{no}
use Rattle.cv_edit_places.specs.Parts.{stack_of}
use Rattle.cv_scene_view.specs.phrases.Phrases.{both, phrase_of}
use Rattle.cv_rule_birthday.specs.Comparing.{is_one_of}
use Rattle.cv_rule_birthday.specs.guess.Guessing.{falsified}
use Rattle.cv_rule_birthday.proofs.guess.Walks.{false_end, false_here, false_later, listed_here, listed_later, nodes_no, nodes_node, nodes_none}
use Rattle.cv_rule_birthday.proofs.guess.changing.+add_falsified.Goals as goal

pub returns-then-here-clause-stack : goal.returns-then-here-clause-stack
returns-then-here-clause-stack t c =
    let trees = c.args.pool.now.trees in
    let on = is_one_of c.args.places.now in
    let node = c.read_node-node.result in
    let e = node_at trees c.chain.at c.in-Some.k node c.in-Some.is c.read_node-node.ensures.tree in
    let q = false_here c.args.x on (phrase_of c.chain.within) c.chain.place (tree_at trees c.chain.at) node.head (tree_at trees node.first) (tree_at trees node.second) e c.is_guess-here.result c.is_guess-here.ensures c.if-here.true in
    listed_here c.chain.heads.items no (falsified c.args.x on (phrase_of c.chain.within) c.chain.place (tree_at trees c.chain.at)) (stack_of trees c.chain.parts) (stack_of trees c.add_falsity.new.parts) (stack_of trees c.close.new.self)
    (falsified c.args.x on (phrase_of c.args.phrase) c.args.from (tree_at trees c.args.start) ∷ stack_of trees c.args.parts.now) c.chain.invariant.stack q c.in_ok-add_falsity.ensures.stack (c.in_ok-close.ensures.stack trees)

pub returns-then-here-clause-made : goal.returns-then-here-clause-made
returns-then-here-clause-made t c =
    let trees = c.args.pool.now.trees in
    let on = is_one_of c.args.places.now in
    let node = c.read_node-node.result in
    let e = node_at trees c.chain.at c.in-Some.k node c.in-Some.is c.read_node-node.ensures.tree in
    let q = false_here c.args.x on (phrase_of c.chain.within) c.chain.place (tree_at trees c.chain.at) node.head (tree_at trees node.first) (tree_at trees node.second) e c.is_guess-here.result c.is_guess-here.ensures c.if-here.true in
    omega (arith, ap nodes_of q ∙ nodes_no, c.in_ok-close.ensures.made, c.in_ok-add_falsity.ensures.made, c.chain.invariant.made)

pub returns-then-here-clause-live : goal.returns-then-here-clause-live
returns-then-here-clause-live t c = λ a. c.in_ok-close.ensures.live (length c.args.pool.now.trees) (c.in_ok-add_falsity.ensures.live (c.chain.invariant.alive a))

pub overflow_add-below : goal.overflow_add-below
overflow_add-below t c =
    let s = size_at c.args.pool.now.trees c.chain.at c.in-Some.k c.read_node-node.result c.in-Some.is c.read_node-node.ensures.tree in
    omega (arith, s, c.chain.invariant.sum, c.requires.fits, c.weight.ensures.weight)

pub add_falsified-requires : goal.add_falsified-requires
add_falsified-requires t c =
    let trees = c.args.pool.now.trees in
    let s = size_at trees c.chain.at c.in-Some.k c.read_node-node.result c.in-Some.is c.read_node-node.ensures.tree in
    let k = above_some c.chain.at c.in-Some.k c.in-Some.is in
    let b = above_child c.in-Some.k.0 c.read_node-node.result.first c.read_node-node.ensures.first in
    let less : above c.read_node-node.result.first < above c.args.start = omega (arith, k, b, c.chain.invariant.less) in
    (search rules, (child_live (length trees) c.chain.at c.in-Some.k c.read_node-node.result.first c.in-Some.is c.chain.invariant.live c.read_node-node.ensures.first, omega (arith, s, c.chain.invariant.sum, c.requires.fits, c.weight.ensures.weight)))

pub chain-preserved : goal.chain-preserved
chain-preserved t c =
    let trees = c.args.pool.now.trees in
    let on = is_one_of c.args.places.now in
    let x = c.args.x in
    let node = c.read_node-node.result in
    let parts = c.parts_within-first.result in
    let a = tree_at trees node.first in
    let b = tree_at trees node.second in
    let heads = c.chain.heads.items in
    let e = node_at trees c.chain.at c.in-Some.k node c.in-Some.is c.read_node-node.ensures.tree in
    let s = size_at trees c.chain.at c.in-Some.k node c.in-Some.is c.read_node-node.ensures.tree in
    let q = c.in_ok-place.ensures.next ∙ ap (λ n. c.chain.place + n + size a) c.weight.ensures.weight in
    let first = falsified x on (phrase_of parts.0) (c.chain.place + c.weight.result) a in
    let next = falsified x on (phrase_of parts.1) c.in_ok-place.place b in
    let here = falsified x on (phrase_of c.chain.within) c.chain.place (tree_at trees c.chain.at) in
    let w = false_later x on (phrase_of c.chain.within) c.chain.place (tree_at trees c.chain.at) node.head a b e c.is_guess-here.result c.is_guess-here.ensures c.if-here.false (both parts) c.parts_within-first.ensures c.weight.result c.in_ok-place.place c.weight.ensures.weight q in
    let pushed = c.in_ok-push.ensures.items in
    record {
      live = child_live (length trees) c.chain.at c.in-Some.k node.second c.in-Some.is c.chain.invariant.live c.read_node-node.ensures.second;
      less = child_above _ c.chain.at c.in-Some.k node.second c.in-Some.is c.chain.invariant.less c.read_node-node.ensures.second;
      sum = omega (arith, s, q, c.chain.invariant.sum);
      stack =
          listed_later heads c.push.new.self.items node.head first next here (stack_of trees c.chain.parts) (stack_of trees c.add_falsified.new.parts)
          (falsified x on (phrase_of c.args.phrase) c.args.from (tree_at trees c.args.start) ∷ stack_of trees c.args.parts.now) c.chain.invariant.stack w c.in_ok-place.ensures.stack pushed;
      made = omega (arith, c.chain.invariant.made, c.in_ok-place.ensures.made, ap length pushed, length-append heads (node.head ∷ []), ap nodes_of w ∙ nodes_node node.head first next);
      alive = λ l. c.in_ok-place.ensures.live (c.chain.invariant.alive l);
    }

pub returns-clause-next : goal.returns-clause-next
returns-clause-next t c = omega (arith, c.chain.invariant.sum, size_end c.args.pool.now.trees c.chain.at c.in_default.is)

pub returns-clause-stack : goal.returns-clause-stack
returns-clause-stack t c =
    let trees = c.args.pool.now.trees in
    let q = false_end c.args.x (is_one_of c.args.places.now) (phrase_of c.chain.within) c.chain.place (tree_at trees c.chain.at) (empty_at trees c.chain.at c.in_default.is) in
    listed_here c.chain.heads.items (tree_at trees None) (falsified c.args.x (is_one_of c.args.places.now) (phrase_of c.chain.within) c.chain.place (tree_at trees c.chain.at)) (stack_of trees c.chain.parts) (stack_of trees c.there.new.self) (stack_of trees c.close-2.new.self)
    (falsified c.args.x (is_one_of c.args.places.now) (phrase_of c.args.phrase) c.args.from (tree_at trees c.args.start) ∷ stack_of trees c.args.parts.now) c.chain.invariant.stack (q ∙ sym (tree_at_None trees)) (c.in_ok-there.ensures.stack trees) (c.in_ok-close-2.ensures.stack trees)

pub returns-clause-made : goal.returns-clause-made
returns-clause-made t c =
    let trees = c.args.pool.now.trees in
    let q = false_end c.args.x (is_one_of c.args.places.now) (phrase_of c.chain.within) c.chain.place (tree_at trees c.chain.at) (empty_at trees c.chain.at c.in_default.is) in
    omega (arith, ap nodes_of q ∙ nodes_none, c.in_ok-close-2.ensures.made, c.in_ok-there.ensures.made, c.chain.invariant.made)

pub returns-clause-live : goal.returns-clause-live
returns-clause-live t c = λ a. c.in_ok-close-2.ensures.live (length c.args.pool.now.trees) (c.in_ok-there.ensures.live (length c.args.pool.now.trees) (c.chain.invariant.alive a) tt)
