-- The finds of a tree, node by node.
use Rattle.std.proofs.Common.{◌≡◌, ℕ, List, [], ◌++◌, map, refl, ap, sym, ◌∙◌}
use Rattle.std.proofs.lemmas.List.{append-nil, append_assoc, map-append}
use Rattle.cv_pool.specs.KindTree.{KindTree}
use Rattle.cv_syntax_trees.specs.declared.head.Head.{Head}
use Rattle.cv_syntax_trees.specs.declared.head.Head.TheVariants.{Find}
use Rattle.cv_syntax_trees.specs.Tree.{Tree, Empty, Node, first_place, second_place}
use Rattle.cv_syntax.specs.PoolTrees.{tree_at}
use Rattle.cv_inline.specs.Draws.{finds_in}
use Rattle.cv_inline_draws.specs.sites.Parts.{find_at}
use Rattle.cv_inline_sites.specs.listing.Subtrees.{IsNodeAt}
use Rattle.cv_inline_sites.specs.declared.listing.subtree.Subtree.{Subtree}
use Rattle.cv_inline_sites.specs.declared.listing.subtree.Parent.{Parent}

finds_in_Node : (q : ℕ) (h : Head) (a b : Tree) → finds_in q (Node h a b) ≡ find_at q h ++ (finds_in (first_place q h) a ++ finds_in (second_place q h a) b)
unfolding finds_in
finds_in_Node q (Find l) a b = refl
finds_in_Node q h a b = refl

finds_in_Empty : (q : ℕ) (t : Tree) → t ≡ Empty → finds_in q t ≡ []
unfolding finds_in
finds_in_Empty q t e = ap (finds_in q) e

module _ (site : ℕ) (trees : List KindTree) where
  abbrev pub finds_at : Subtree → List (ℕ × ℕ)
  finds_at s = map (λ q. (site, q)) (finds_in s.place (tree_at trees s.root))

  parts : (s : Subtree) (node : Parent) → IsNodeAt trees s node → finds_at s ≡ map (λ q. (site, q)) (find_at s.place node.head) ++ (finds_at node.first ++ finds_at node.second)
  parts s node n =
      let a = tree_at trees node.first.root in
      let b = tree_at trees node.second.root in
      let g : ℕ → ℕ × ℕ = λ q. (site, q) in
      ap (map g) (ap (finds_in s.place) n.tree ∙ finds_in_Node s.place node.head a b)
      ∙ (map-append g (find_at s.place node.head) (finds_in (first_place s.place node.head) a ++ finds_in (second_place s.place node.head a) b)
      ∙ ap (λ l. map g (find_at s.place node.head) ++ l) (map-append g (finds_in (first_place s.place node.head) a) (finds_in (second_place s.place node.head a) b)
      ∙ (ap (λ p. map g (finds_in p a) ++ map g (finds_in (second_place s.place node.head a) b)) (sym n.first_place)
      ∙ ap (λ p. map g (finds_in node.first.place a) ++ map g (finds_in p b)) (sym n.second_place))))

  -- one more node
  pub finds_more : (s : Subtree) (node : Parent) (old one two all : List (ℕ × ℕ)) → IsNodeAt trees s node → one ≡ old ++ map (λ q. (site, q)) (find_at s.place node.head) → two ≡ one ++ finds_at node.first → old ++ finds_at s ≡ all → two ++ finds_at node.second ≡ all
  finds_more s node old one two all n e f so_far =
      let here : List (ℕ × ℕ) = map (λ q. (site, q)) (find_at s.place node.head) in
      ap (λ l. l ++ finds_at node.second) (f ∙ ap (λ l. l ++ finds_at node.first) e)
      ∙ (append_assoc (old ++ here) (finds_at node.first) (finds_at node.second)
      ∙ (append_assoc old here (finds_at node.first ++ finds_at node.second) ∙ (ap (λ l. old ++ l) (sym (parts s node n)) ∙ so_far)))

  pub finds_end : (s : Subtree) (old all : List (ℕ × ℕ)) → tree_at trees s.root ≡ Empty → old ++ finds_at s ≡ all → old ≡ all
  finds_end s old all e so_far = sym (append-nil old) ∙ (ap (λ l. old ++ map (λ q. (site, q)) l) (sym (finds_in_Empty s.place (tree_at trees s.root) e)) ∙ so_far)
