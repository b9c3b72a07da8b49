use Rattle.std.proofs.Common.{[], ◌∷◌, ◌++◌, ◌+◌, ap, ap₂, length, map, ◌∙◌, arith, inl, refl, sym, subst, Some}
use Rattle.std.proofs.lemmas.List.Elements.{All-append}
use Rattle.cv_pool.specs.Nodes.{ChildBelow}
use Rattle.cv_syntax_trees.specs.Tree.{Node}
use Rattle.cv_syntax.specs.PoolTrees.{tree_at}
use Rattle.cv_syntax.proofs.Trees.{child_above, child_live, empty_at, node_at}
use Rattle.cv_meaning.specs.Correspondences.{alternatives_from, atom_count, atom_of}
use Rattle.cv_query_parts.specs.Alternatives.{AreAtomsBelow, atoms_seen, each_with, lists}
use Rattle.cv_query_parts.specs.declared.alternatives.NumberedAtom.{NumberedAtom}
use Rattle.cv_query_parts.proofs.Choosing.{atom_last, below_each, count_atom, count_parts, each_first, either, none_live, one_live, part_more, parts_end, same_live}
use Rattle.cv_query_parts.proofs.alternatives.+alternatives_from.Goals as goal

pub parts-init : goal.parts-init
parts-init t c =
    let trees = c.args.pool.now.trees in
    record {
      live = c.requires;
      less = omega arith;
      count = refl;
      below = same_live (length trees) (lists c.in_ok-found.found.items) ([] ∷ []) c.in_ok-found.ensures (none_live (length trees));
      same = ap (λ xs. each_with xs (alternatives_from c.args.number (tree_at trees c.args.right))) (ap (λ xs. map (atoms_seen trees) xs) c.in_ok-found.ensures) ∙ each_first (alternatives_from c.args.number (tree_at trees c.args.right));
    }

pub parts-preserved : goal.parts-preserved
parts-preserved t c =
    let trees = c.args.pool.now.trees in
    let node = c.read_node-node.result in
    let item = c.in_ok-item-in-Cons.item in
    let found = c.parts.found.items in
    let a = tree_at trees node.first in
    let b = tree_at trees node.second in
    let e = node_at trees c.parts.at c.in-Some.n node c.in-Some.is c.read_node-node.ensures.tree in
    let all = c.in_ok-found-in-Cons.ensures ∙ ap₂ (λ x y. each_with (lists x) (lists y)) c.as_slice.ensures.value c.as_slice-in-Cons.ensures.value in
    record {
      live = child_live (length trees) c.parts.at c.in-Some.n node.second c.in-Some.is c.parts.invariant.live c.read_node-node.ensures.second;
      less = child_above _ c.parts.at c.in-Some.n node.second c.in-Some.is c.parts.invariant.less c.read_node-node.ensures.second;
      count = ap (λ n. n + atom_count b) c.in_ok-item-in-Cons.ensures.next ∙ (sym (count_parts c.parts.next (tree_at trees c.parts.at) node.head a b e (inl c.in-Cons.is)) ∙ c.parts.invariant.count);
      below = same_live (length trees) (lists c.in_ok-found-in-Cons.found.items) (each_with (lists found) (lists item.found.items)) all (below_each (length trees) (lists found) (lists item.found.items) c.parts.invariant.below c.in_ok-item-in-Cons.ensures.live);
      same = part_more trees c.parts.next (tree_at trees c.parts.at) (lists found) _ c.parts.invariant.same a b (e ∙ ap (λ h. Node h a b) c.in-Cons.is) (lists item.found.items) c.in_ok-item-in-Cons.ensures.alternatives item.next c.in_ok-item-in-Cons.ensures.next (lists c.in_ok-found-in-Cons.found.items) all;
    }

pub returns-clause-alternatives : goal.returns-clause-alternatives
returns-clause-alternatives t c =
    let trees = c.args.pool.now.trees in
    parts_end trees c.parts.next (tree_at trees c.parts.at) (lists c.parts.found.items) _ c.parts.invariant.same (empty_at trees c.parts.at c.in_default.is)

pub returns-in-SomeOf-clause-alternatives : goal.returns-in-SomeOf-clause-alternatives
returns-in-SomeOf-clause-alternatives t c =
    let trees = c.args.pool.now.trees in
    let node = c.read_node-node.result in
    let one = c.in_ok-one-in-SomeOf.one in
    let other = c.in_ok-other-in-SomeOf.other in
    let a = tree_at trees node.first in
    let b = tree_at trees node.second in
    let e = node_at trees c.parts.at c.in-Some.n node c.in-Some.is c.read_node-node.ensures.tree in
    either trees c.parts.next (tree_at trees c.parts.at) (lists c.parts.found.items) _ c.parts.invariant.same a b (e ∙ ap (λ h. Node h a b) c.in-SomeOf.is) (lists one.found.items) (lists other.found.items) c.in_ok-one-in-SomeOf.ensures.alternatives one.next c.in_ok-one-in-SomeOf.ensures.next c.in_ok-other-in-SomeOf.ensures.alternatives
    (lists c.in_ok-all-in-SomeOf.all.found.items) (c.in_ok-all-in-SomeOf.ensures.found ∙ ap (λ x. each_with (lists x) (lists one.found.items ++ lists other.found.items)) c.as_slice-in-SomeOf.ensures.value)

pub returns-in-SomeOf-clause-live : goal.returns-in-SomeOf-clause-live
returns-in-SomeOf-clause-live t c =
    let n = length c.args.pool.now.trees in
    let one = lists c.in_ok-one-in-SomeOf.one.found.items in
    let other = lists c.in_ok-other-in-SomeOf.other.found.items in
    same_live n (lists c.in_ok-all-in-SomeOf.all.found.items) (each_with (lists c.parts.found.items) (one ++ other)) (c.in_ok-all-in-SomeOf.ensures.found ∙ ap (λ x. each_with (lists x) (one ++ other)) c.as_slice-in-SomeOf.ensures.value)
    (below_each n (lists c.parts.found.items) (one ++ other) c.parts.invariant.below (All-append (AreAtomsBelow n) one other c.in_ok-one-in-SomeOf.ensures.live c.in_ok-other-in-SomeOf.ensures.live))

pub returns-in_default-head : goal.returns-in_default-head
returns-in_default-head t c =
    let trees = c.args.pool.now.trees in
    let node = c.read_node-node.result in
    let a = tree_at trees node.first in
    let b = tree_at trees node.second in
    let here = tree_at trees c.parts.at in
    let last : NumberedAtom = record { number = c.parts.next; atom = Some c.in-Some.n } in
    let e = node_at trees c.parts.at c.in-Some.n node c.in-Some.is c.read_node-node.ensures.tree in
    let one = count_atom here node.head a b e c.in_default-head.not-Cons c.in_default-head.not-SomeOf in
    let all = c.in_ok-all-in_default-head.ensures.found ∙ ap (λ x. each_with (lists x) ((last ∷ []) ∷ [])) c.as_slice-in_default-head.ensures.value in
    record {
      alternatives = atom_last trees c.parts.next here (lists c.parts.found.items) _ c.parts.invariant.same node.head a b e c.in_default-head.not-Cons c.in_default-head.not-SomeOf last (ap (λ o. (c.parts.next, atom_of (tree_at trees o))) (sym c.in-Some.is)) (lists c.in_ok-all-in_default-head.all.found.items) all;
      next = c.in_ok-all-in_default-head.ensures.next ∙ (ap (λ n. c.parts.next + n) (sym one) ∙ c.parts.invariant.count);
      live =
          same_live (length trees) (lists c.in_ok-all-in_default-head.all.found.items) (each_with (lists c.parts.found.items) ((last ∷ []) ∷ [])) all
          (below_each (length trees) (lists c.parts.found.items) ((last ∷ []) ∷ []) c.parts.invariant.below (one_live (length trees) last (subst (ChildBelow (length trees)) c.in-Some.is c.parts.invariant.live)));
    }
