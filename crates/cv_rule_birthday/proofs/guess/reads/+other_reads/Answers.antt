use Rattle.std.proofs.Common.{rules, ◌+◌, ◌&&◌, ◌<◌, not, arith, ap, length, refl, sym, ◌∙◌}
use Rattle.cv_syntax_trees.specs.Head.{weight}
use Rattle.cv_syntax_trees.specs.Tree.{size}
use Rattle.cv_syntax.specs.PoolTrees.{tree_at}
use Rattle.cv_syntax.specs.Walks.{above}
use Rattle.cv_syntax.proofs.Trees.{child_above, child_live, empty_at, node_at}
use Rattle.cv_syntax.proofs.Walking.{above_child, above_some, size_at, size_end}
use Rattle.cv_syntax_trees.specs.lists.Options.{first_of}
use Rattle.cv_scene.specs.Scenes.{head_reads}
use Rattle.cv_scene_view.specs.phrases.Phrases.{both, phrase_of}
use Rattle.cv_steps.specs.Rewriting.{parts_of}
use Rattle.cv_rule_birthday.specs.Comparing.{is_one_of}
use Rattle.cv_rule_birthday.specs.guess.Guessing.{first_read, has_value, is_guess, reads}
use Rattle.cv_rule_birthday.proofs.guess.Walks.{found_first, found_here, found_later, read_end, read_node}
use Rattle.cv_rule_birthday.proofs.guess.reads.+other_reads.Goals as goal

pub returns-then-is_read-clause-found : goal.returns-then-is_read-clause-found
returns-then-is_read-clause-found t c =
    let trees = c.args.pool.now.trees in
    let on = is_one_of c.args.places.now in
    let all = first_read c.args.x on (phrase_of c.args.phrase) c.args.is_side c.args.from (tree_at trees c.args.tree) in
    let x = c.args.x in
    let σ = phrase_of c.tree.within in
    let p = c.tree.place in
    let node = c.read_node-node.result in
    let h = node.head in
    let a = tree_at trees node.first in
    let b = tree_at trees node.second in
    let q = parts_of σ h in
    let l = is_guess x on σ p h a b && reads x a in
    let r = is_guess x on σ p h a b && not (reads x a) in
    let e = read_node x on σ p (tree_at trees c.tree.at) h a b (node_at trees c.tree.at c.in-Some.k node c.in-Some.is c.read_node-node.ensures.tree) c.tree.side q refl l r refl refl (weight h) (p + weight h + size a) refl refl in
    found_here (first_read x on σ c.tree.side p (tree_at trees c.tree.at)) all (first_of (first_read x on q.0 l (p + weight h) a) (first_read x on q.1 r (p + weight h + size a) b)) p
    c.is_read.result (has_value σ && (head_reads x h && not c.tree.side)) c.tree.invariant.same e c.is_read.ensures c.if-is_read.true

pub overflow_add-below : goal.overflow_add-below
overflow_add-below t c =
    let s = size_at c.args.pool.now.trees c.tree.at c.in-Some.k c.read_node-node.result c.in-Some.is c.read_node-node.ensures.tree in
    omega (arith, s, c.tree.invariant.sum, c.requires.fits, c.weight.ensures.weight)

pub other_reads-requires : goal.other_reads-requires
other_reads-requires t c =
    let s = size_at c.args.pool.now.trees c.tree.at c.in-Some.k c.read_node-node.result c.in-Some.is c.read_node-node.ensures.tree in
    let k = above_some c.tree.at c.in-Some.k c.in-Some.is in
    let b = above_child c.in-Some.k.0 c.read_node-node.result.first c.read_node-node.ensures.first in
    let less : above c.read_node-node.result.first < above c.args.tree = omega (arith, k, b, c.tree.invariant.less) in
    (search rules, (child_live (length c.args.pool.now.trees) c.tree.at c.in-Some.k c.read_node-node.result.first c.in-Some.is c.tree.invariant.live c.read_node-node.ensures.first, omega (arith, s, c.tree.invariant.sum, c.requires.fits, c.weight.ensures.weight)))

pub returns-in-Err-clause-found : goal.returns-in-Err-clause-found
returns-in-Err-clause-found t c =
    let trees = c.args.pool.now.trees in
    let on = is_one_of c.args.places.now in
    let all = first_read c.args.x on (phrase_of c.args.phrase) c.args.is_side c.args.from (tree_at trees c.args.tree) in
    let x = c.args.x in
    let σ = phrase_of c.tree.within in
    let p = c.tree.place in
    let node = c.read_node-node.result in
    let sides = c.sides_of-sides in
    let h = node.head in
    let a = tree_at trees node.first in
    let b = tree_at trees node.second in
    let q = both c.parts_within-first.result in
    let n = p + weight h + size a in
    let e = read_node x on σ p (tree_at trees c.tree.at) h a b (node_at trees c.tree.at c.in-Some.k node c.in-Some.is c.read_node-node.ensures.tree) c.tree.side q c.parts_within-first.ensures
    sides.result.left sides.result.right sides.ensures.left sides.ensures.right c.weight.result n c.weight.ensures.weight refl in
    found_first (first_read x on σ c.tree.side p (tree_at trees c.tree.at)) all (first_read x on q.0 sides.result.left (p + c.weight.result) a) (first_read x on q.1 sides.result.right n b) p c.in-Err.found
    c.is_read.result (has_value σ && (head_reads x h && not c.tree.side)) c.tree.invariant.same e c.is_read.ensures c.if-is_read.false c.in-Err.ensures.found

pub tree-preserved : goal.tree-preserved
tree-preserved t c =
    let trees = c.args.pool.now.trees in
    let on = is_one_of c.args.places.now in
    let all = first_read c.args.x on (phrase_of c.args.phrase) c.args.is_side c.args.from (tree_at trees c.args.tree) in
    let x = c.args.x in
    let σ = phrase_of c.tree.within in
    let p = c.tree.place in
    let node = c.read_node-node.result in
    let sides = c.sides_of-sides in
    let h = node.head in
    let a = tree_at trees node.first in
    let b = tree_at trees node.second in
    let q = both c.parts_within-first.result in
    let next = c.in-Ok.ensures.next ∙ ap (λ n. p + n + size a) c.weight.ensures.weight in
    let s = size_at trees c.tree.at c.in-Some.k node c.in-Some.is c.read_node-node.ensures.tree in
    let e = read_node x on σ p (tree_at trees c.tree.at) h a b (node_at trees c.tree.at c.in-Some.k node c.in-Some.is c.read_node-node.ensures.tree) c.tree.side q c.parts_within-first.ensures
    sides.result.left sides.result.right sides.ensures.left sides.ensures.right c.weight.result c.in-Ok.next c.weight.ensures.weight next in
    record {
      live = child_live (length trees) c.tree.at c.in-Some.k node.second c.in-Some.is c.tree.invariant.live c.read_node-node.ensures.second;
      less = child_above _ c.tree.at c.in-Some.k node.second c.in-Some.is c.tree.invariant.less c.read_node-node.ensures.second;
      sum = omega (arith, s, next, c.tree.invariant.sum);
      same =
          found_later (first_read x on σ c.tree.side p (tree_at trees c.tree.at)) all (first_read x on q.0 sides.result.left (p + c.weight.result) a) (first_read x on q.1 sides.result.right c.in-Ok.next b) p
          c.is_read.result (has_value σ && (head_reads x h && not c.tree.side)) c.tree.invariant.same e c.is_read.ensures c.if-is_read.false c.in-Ok.ensures.none;
    }

pub returns-clause-none : goal.returns-clause-none
returns-clause-none t c =
    let trees = c.args.pool.now.trees in
    sym c.tree.invariant.same ∙ read_end c.args.x (is_one_of c.args.places.now) (phrase_of c.tree.within) c.tree.side c.tree.place (tree_at trees c.tree.at) (empty_at trees c.tree.at c.in_default.is)

pub returns-clause-next : goal.returns-clause-next
returns-clause-next t c = omega (arith, c.tree.invariant.sum, size_end c.args.pool.now.trees c.tree.at c.in_default.is)
