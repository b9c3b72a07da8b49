use Rattle.std.proofs.Common.{rules, ◌+◌, ◌<◌, ◌∷◌, ◌∙◌, [], arith, ap, length, length-append, sym}
use Rattle.cv_syntax_trees.specs.Head.{weight}
use Rattle.cv_syntax_trees.specs.Tree.{Node, size}
use Rattle.cv_syntax.specs.PoolTrees.{tree_at}
use Rattle.cv_syntax.specs.Postorder.{joined}
use Rattle.cv_syntax.specs.Walks.{above}
use Rattle.cv_syntax.proofs.Trees.{child_above, child_live, empty_at, node_at, tree_at_None}
use Rattle.cv_syntax.proofs.Walking.{above_child, above_some, size_at, size_end}
use Rattle.cv_edit_places.specs.Parts.{closed, stack_of}
use Rattle.cv_edit_places.proofs.Stacks.{closed_push}
use Rattle.cv_costs.specs.wording.Changing.{changed_at}
use Rattle.cv_rule_birthday.specs.Comparing.{compared, is_one_of}
use Rattle.cv_rule_birthday.specs.Needs.{made_of_changed, made_of_compared}
use Rattle.cv_rule_birthday.proofs.Changes.{changed_end, changed_here, changed_later, made_end, made_here, made_later}
use Rattle.cv_rule_birthday.proofs.changing.+add_changed.Goals as goal

pub returns-then-here-clause-stack : goal.returns-then-here-clause-stack
returns-then-here-clause-stack t c =
    let trees = c.args.pool.now.trees in
    let on = is_one_of c.args.places.now in
    let node = c.read_node-node.result in
    let e = node_at trees c.chain.at c.in-Some.k node c.in-Some.is c.read_node-node.ensures.tree in
    let q = changed_here on c.chain.place (tree_at trees c.chain.at) node.head (tree_at trees node.first) (tree_at trees node.second) e c.is_changed-here.result c.is_changed-here.ensures c.if-here.true ∙ ap (λ o. compared (tree_at trees o)) c.in-Some.is in
    c.in_ok-close.ensures.stack trees ∙ (ap (closed c.chain.heads.items) (c.in_ok-add_compared.ensures.stack ∙ ap (λ u. u ∷ stack_of trees c.chain.parts) (sym q)) ∙ c.chain.invariant.stack)

pub returns-then-here-clause-made : goal.returns-then-here-clause-made
returns-then-here-clause-made t c =
    let trees = c.args.pool.now.trees in
    let on = is_one_of c.args.places.now in
    let node = c.read_node-node.result in
    let e = node_at trees c.chain.at c.in-Some.k node c.in-Some.is c.read_node-node.ensures.tree in
    let q = made_here on c.chain.place (tree_at trees c.chain.at) node.head (tree_at trees node.first) (tree_at trees node.second) e c.is_changed-here.result c.is_changed-here.ensures c.if-here.true ∙ ap (λ o. made_of_compared (tree_at trees o)) c.in-Some.is in
    omega (arith, q, c.in_ok-close.ensures.made, c.in_ok-add_compared.ensures.made, c.chain.invariant.made)

pub returns-then-here-clause-live : goal.returns-then-here-clause-live
returns-then-here-clause-live t c = λ a. c.in_ok-close.ensures.live (length c.args.pool.now.trees) (c.in_ok-add_compared.ensures.live (c.chain.invariant.alive a))

pub overflow_add-below : goal.overflow_add-below
overflow_add-below t c =
    let s = size_at c.args.pool.now.trees c.chain.at c.in-Some.k c.read_node-node.result c.in-Some.is c.read_node-node.ensures.tree in
    omega (arith, s, c.chain.invariant.sum, c.requires.fits, c.weight.ensures.weight)

pub add_changed-requires : goal.add_changed-requires
add_changed-requires t c =
    let trees = c.args.pool.now.trees in
    let s = size_at trees c.chain.at c.in-Some.k c.read_node-node.result c.in-Some.is c.read_node-node.ensures.tree in
    let k = above_some c.chain.at c.in-Some.k c.in-Some.is in
    let b = above_child c.in-Some.k.0 c.read_node-node.result.first c.read_node-node.ensures.first in
    let less : above c.read_node-node.result.first < above c.args.start = omega (arith, k, b, c.chain.invariant.less) in
    (search rules, (child_live (length trees) c.chain.at c.in-Some.k c.read_node-node.result.first c.in-Some.is c.chain.invariant.live c.read_node-node.ensures.first, omega (arith, s, c.chain.invariant.sum, c.requires.fits, c.weight.ensures.weight)))

pub chain-preserved : goal.chain-preserved
chain-preserved t c =
    let trees = c.args.pool.now.trees in
    let on = is_one_of c.args.places.now in
    let node = c.read_node-node.result in
    let a = tree_at trees node.first in
    let b = tree_at trees node.second in
    let heads = c.chain.heads.items in
    let e = node_at trees c.chain.at c.in-Some.k node c.in-Some.is c.read_node-node.ensures.tree in
    let s = size_at trees c.chain.at c.in-Some.k node c.in-Some.is c.read_node-node.ensures.tree in
    let q = c.in_ok-place.ensures.next ∙ ap (λ n. c.chain.place + n + size a) c.weight.ensures.weight in
    let next = changed_at on compared c.in_ok-place.place b in
    let w = changed_later on c.chain.place (tree_at trees c.chain.at) node.head a b e c.is_changed-here.result c.is_changed-here.ensures c.if-here.false
    ∙ (ap (λ n. Node node.head (changed_at on compared (c.chain.place + n) a) (changed_at on compared (c.chain.place + weight node.head + size a) b)) (sym c.weight.ensures.weight)
    ∙ ap (λ n. Node node.head (changed_at on compared (c.chain.place + c.weight.result) a) (changed_at on compared n b)) (sym q)) in
    let m = made_later on c.chain.place (tree_at trees c.chain.at) node.head a b e c.is_changed-here.result c.is_changed-here.ensures c.if-here.false in
    let first = ap (λ n. made_of_changed on (c.chain.place + n) a) c.weight.ensures.weight in
    let second = ap (λ n. made_of_changed on n b) q in
    let pushed = c.in_ok-push.ensures.items in
    record {
      live = child_live (length trees) c.chain.at c.in-Some.k node.second c.in-Some.is c.chain.invariant.live c.read_node-node.ensures.second;
      less = child_above _ c.chain.at c.in-Some.k node.second c.in-Some.is c.chain.invariant.less c.read_node-node.ensures.second;
      sum = omega (arith, s, q, c.chain.invariant.sum);
      stack =
          ap (λ hs. closed hs (next ∷ stack_of trees c.add_changed.new.parts)) pushed
          ∙ (closed_push heads node.head (next ∷ stack_of trees c.add_changed.new.parts)
          ∙ (ap (λ r. closed heads (joined node.head (next ∷ r))) c.in_ok-place.ensures.stack
          ∙ (ap (λ r. closed heads (r ∷ stack_of trees c.chain.parts)) (sym w)
          ∙ c.chain.invariant.stack)));
      made = omega (arith, c.chain.invariant.made, c.in_ok-place.ensures.made, ap length pushed, length-append heads (node.head ∷ []), m, first, second);
      alive = λ l. c.in_ok-place.ensures.live (c.chain.invariant.alive l);
    }

pub returns-clause-next : goal.returns-clause-next
returns-clause-next t c = omega (arith, c.chain.invariant.sum, size_end c.args.pool.now.trees c.chain.at c.in_default.is)

pub returns-clause-stack : goal.returns-clause-stack
returns-clause-stack t c =
    let trees = c.args.pool.now.trees in
    let q = changed_end (is_one_of c.args.places.now) c.chain.place (tree_at trees c.chain.at) (empty_at trees c.chain.at c.in_default.is) in
    c.in_ok-close-2.ensures.stack trees ∙ (ap (closed c.chain.heads.items) (c.in_ok-there.ensures.stack trees ∙ ap (λ u. u ∷ stack_of trees c.chain.parts) (tree_at_None trees ∙ sym q)) ∙ c.chain.invariant.stack)

pub returns-clause-made : goal.returns-clause-made
returns-clause-made t c =
    let trees = c.args.pool.now.trees in
    let q = made_end (is_one_of c.args.places.now) c.chain.place (tree_at trees c.chain.at) (empty_at trees c.chain.at c.in_default.is) in
    omega (arith, q, c.in_ok-close-2.ensures.made, c.in_ok-there.ensures.made, c.chain.invariant.made)

pub returns-clause-live : goal.returns-clause-live
returns-clause-live t c = λ a. c.in_ok-close-2.ensures.live (length c.args.pool.now.trees) (c.in_ok-there.ensures.live (length c.args.pool.now.trees) (c.chain.invariant.alive a) tt)
