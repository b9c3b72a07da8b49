-- The tests of equal heads and trees are exact.
use Rattle.std.proofs.Common.{◌≡◌, true, ◌==◌, refl, sym, ap, ◌∙◌, eq-eqb, eqb-true}
use Rattle.std.proofs.lemmas.Bool.{and_from, and_parts, both_ways}
use Rattle.cv_syntax_trees.specs.declared.head.Head.{Head}
use Rattle.cv_syntax_trees.specs.Head.{code, decoded, decoded_code, same_head}
use Rattle.cv_syntax_trees.specs.Tree.{Tree, Empty, Node, same_tree}

pub same_head_exact : (h k : Head) → same_head h k ≡ true → h ≡ k
same_head_exact h k e =
    let p = and_parts ((code h).tag == (code k).tag) _ e in
    let r = and_parts ((code h).a == (code k).a) _ p.1 in
    let same : code h ≡ code k = λ i. record { tag = eqb-true (code h).tag (code k).tag p.0 i; a = eqb-true (code h).a (code k).a r.0 i; b = eqb-true (code h).b (code k).b r.1 i } in
    sym (decoded_code h) ∙ ap decoded same ∙ decoded_code k

pub same_tree_exact : (a b : Tree) → same_tree a b ≡ true → a ≡ b
unfolding same_tree
same_tree_exact Empty Empty e = refl
same_tree_exact (Node h a b) (Node k c d) e =
    let p = and_parts (same_head h k) _ e in
    let r = and_parts (same_tree a c) _ p.1 in
    λ i. Node (same_head_exact h k p.0 i) (same_tree_exact a c r.0 i) (same_tree_exact b d r.1 i)
same_tree_exact Empty (Node h a b) e = absurd (both_ways _ refl e)
same_tree_exact (Node h a b) Empty e = absurd (both_ways _ refl e)

-- and they find each one equal to itself

same_head_self : (h : Head) → same_head h h ≡ true
same_head_self h = and_from ((code h).tag == (code h).tag) _ (eq-eqb _ _ refl) (and_from ((code h).a == (code h).a) _ (eq-eqb _ _ refl) (eq-eqb _ _ refl))

pub same_tree_self : (t : Tree) → same_tree t t ≡ true
unfolding same_tree
same_tree_self Empty = refl
same_tree_self (Node h a b) = and_from (same_head h h) _ (same_head_self h) (and_from (same_tree a a) _ (same_tree_self a) (same_tree_self b))
