-- The copies of a variable in a game, node by node.
use Rattle.std.proofs.Common.{◌≡◌, ℕ, List, [], ◌++◌, append_assoc, append-nil, sym, ap, ap₂, ◌∙◌}
use Rattle.cv_syntax_trees.specs.declared.head.Head.{Head}
use Rattle.cv_syntax_trees.specs.Tree.{Tree, Empty, Node, first_place, second_place}
use Rattle.cv_query_certificates.specs.SecretPairs.{Copy, copies_in, copy_here}

module _ (x p : ℕ) (t : Tree) where
  copies_node : (h : Head) (a b : Tree) → t ≡ Node h a b → copies_in x p t ≡ copy_here x p h a ++ (copies_in x (first_place p h) a ++ copies_in x (second_place p h a) b)
  unfolding copies_in
  copies_node h a b e = ap (copies_in x p) e

  copies_none : t ≡ Empty → copies_in x p t ≡ []
  unfolding copies_in
  copies_none e = ap (copies_in x p) e

  pub no_copies : (found : List Copy) → t ≡ Empty → found ≡ found ++ copies_in x p t
  no_copies found e = sym (append-nil found) ∙ ap (λ cs. found ++ cs) (sym (copies_none e))

  pub copies_more : (h : Head) (a b : Tree) (found one more : List Copy) (q r : ℕ) → t ≡ Node h a b → one ≡ found ++ copy_here x p h a → q ≡ first_place p h → more ≡ one ++ copies_in x q a → r ≡ second_place p h a → more ++ copies_in x r b ≡ found ++ copies_in x p t
  copies_more h a b found one more q r e f g i j =
      let H = copy_here x p h a in
      let A = copies_in x (first_place p h) a in
      let B = copies_in x (second_place p h a) b in
      ap₂ (λ l m. l ++ copies_in x m b) (i ∙ ap₂ (λ l n. l ++ copies_in x n a) f g) j
      ∙ (append_assoc (found ++ H) A B ∙ (append_assoc found H (A ++ B) ∙ ap (λ cs. found ++ cs) (sym (copies_node h a b e))))
