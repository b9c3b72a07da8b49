-- Terms of the key of a call: indices of its site, and plain variables of the game at such terms. This profile's own.
use Rattle.std.specs.Prelude.{◌≡◌, ℕ, Bool, true, ◌⊎◌}
use Rattle.cv_syntax_trees.specs.declared.head.Head.TheVariants.{Leaf, Read, Cons}
use Rattle.cv_syntax_trees.specs.Tree.{Tree, Empty, Node}

unfoldable mutual
  pub IsFineKeyTerm : (is_index plain : ℕ → Bool) → Tree → Type 0
  IsFineKeyTerm i pl Empty = Unit {0}
  IsFineKeyTerm i pl (Node (Leaf x) a b) = (i x ≡ true) ⊎ (pl x ≡ true)
  IsFineKeyTerm i pl (Node (Read x) a b) = (pl x ≡ true) × AreFineKeyTerms i pl a
  IsFineKeyTerm i pl (Node h a b) = ⊥

  pub AreFineKeyTerms : (is_index plain : ℕ → Bool) → Tree → Type 0
  AreFineKeyTerms i pl Empty = Unit {0}
  AreFineKeyTerms i pl (Node Cons a b) = IsFineKeyTerm i pl a × AreFineKeyTerms i pl b
  AreFineKeyTerms i pl (Node h a b) = ⊥
