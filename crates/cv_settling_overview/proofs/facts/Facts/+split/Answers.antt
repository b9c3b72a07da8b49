use Rattle.std.proofs.Common.{◌++◌, Some, ap, length, refl, subst, sym, ◌≡◌, ◌∙◌, arith}
use Rattle.std.specs.Prelude.{option_and_then}
use Rattle.cv_pool.specs.Nodes.{ChildBelow}
use Rattle.cv_syntax.specs.PoolTrees.{tree_at}
use Rattle.cv_settling_overview.specs.Facts.{KeepsSome, full_parts, side_of, tree_under}
use Rattle.cv_settling_overview.proofs.Keeping.{both_taken, condition_front, front_more, front_same, left_of, none_taken, one_taken, right_of, side_taken, side_under, under_front}
use Rattle.cv_settling_overview.proofs.Reading.{below_more, no_child}
use Rattle.cv_settling_overview.proofs.facts.Facts.+split.Goals as goal

pub split-returns-in_default-clause-takes : goal.split-returns-in_default-clause-takes
split-returns-in_default-clause-takes t c = λ facts rs known live is under keeps.
    let old = c.args.self.now in
    none_taken c.args.pool.now.trees facts rs known old.indices.items old.facts.items old.parts.items old.conjuncts keeps (tree_at c.args.pool.now.trees (Some c.args.n)) c.in_default.ensures.none

pub split-returns-in_default-head : goal.split-returns-in_default-head
split-returns-in_default-head t c =
    let old = c.args.self.now in
    let trees = c.args.pool.now.trees in
    let node = c.in-Some.node in
    record {
      takes = λ facts rs known live is under keeps.
          one_taken trees facts rs known old.indices.items old.facts.items old.parts.items old.conjuncts keeps c.add.new.self (tree_at trees (Some c.args.n)) node.head (tree_at trees node.first) (tree_at trees node.second) c.key_of-key.result c.args.fact c.args.above
          c.in-Some.ensures.tree c.in_default-head.not-And (c.key_of-key.ensures live) is under c.in_ok-add.ensures;
      facts = refl;
      extends = record { facts = front_same old.facts.items; parts = front_same old.parts.items; conjuncts = front_more old.conjuncts _ c.add.new.self c.in_ok-add.ensures; indices = front_same old.indices.items };
    }

pub split-returns-clause-takes : goal.split-returns-clause-takes
split-returns-clause-takes t c = λ facts rs known live is under keeps.
    let old = c.args.self.now in
    let mid = c.split_side.new.self in
    let new = c.split_side-2.new.self in
    let trees = c.args.pool.now.trees in
    let node = c.in-Some.node in
    let a = tree_at trees node.first in
    let b = tree_at trees node.second in
    let u = tree_at trees (Some c.args.n) in
    let o = c.in-Some.ensures in
    let on = c.in_ok-split_side.ensures.extends in
    let left = left_of trees facts old.parts.items c.args.fact c.args.above u node.head a b under o.tree c.in-And.is in
    let first = c.in_ok-split_side.ensures.takes facts rs known (below_more c.args.n.0 (length trees) node.first live o.first) is left keeps in
    let right = right_of trees facts mid.parts.items c.args.fact c.args.above u node.head a b (under_front trees facts old.parts.items mid.parts.items c.args.fact c.args.above u on.parts under) o.tree c.in-And.is in
    let second = c.in_ok-split_side-2.ensures.takes facts rs (known ++ full_parts a) (below_more c.args.n.0 (length trees) node.second live o.second) (condition_front old.facts.items mid.facts.items c.args.fact on.facts is) right first in
    subst (λ l. KeepsSome trees facts rs l new) (both_taken known u node.head a b o.tree c.in-And.is) second

pub split_side-returns-in_default-clause-takes : goal.split_side-returns-in_default-clause-takes
split_side-returns-in_default-clause-takes t c = λ facts rs known below is under keeps.
    let old = c.args.self.now in
    let trees = c.args.pool.now.trees in
    none_taken trees facts rs known old.indices.items old.facts.items old.parts.items old.conjuncts keeps (tree_at trees c.args.side) (ap (tree_at trees) c.in_default.is ∙ no_child trees)

pub split_side-returns-clause-takes : goal.split_side-returns-clause-takes
split_side-returns-clause-takes t c = λ facts rs known below is under keeps.
    let old = c.args.self.now in
    let trees = c.args.pool.now.trees in
    let term = c.in-Some.term in
    let qs = c.push.new.self.items in
    let new = c.split.new.self in
    let e = ap (tree_at trees) c.in-Some.is in
    let here = subst (λ o. option_and_then (side_of c.args.is_right) (tree_under trees facts old.parts.items c.args.fact c.args.above) ≡ Some (tree_at trees o)) c.in-Some.is under in
    let last : c.len-number.result ≡ length qs = omega arith in
    let kept = side_taken trees facts rs known old.indices.items old.facts.items old.parts.items old.conjuncts keeps qs term c.args.is_right c.args.fact c.args.above here c.in_ok-push.ensures.items in
    let there = side_under trees facts rs known old.indices.items old.facts.items old.parts.items old.conjuncts keeps qs term c.args.is_right c.args.fact c.args.above c.len-number.result c.in_ok-push.ensures.items last in
    subst (λ u. KeepsSome trees facts rs (known ++ full_parts u) new) (sym e) (c.in_ok-split.ensures.takes facts rs known (subst (ChildBelow (length trees)) c.in-Some.is below) is there kept)
