-- Functions that read each of their names: then an instance tells what each name stands for.
use Rattle.std.specs.Prelude.{◌≡◌, ℕ, Bool, true, false, ◌&&◌, ◌||◌, ◌==◌, List, [], ◌∷◌}
use Rattle.cv_syntax_trees.specs.declared.head.Head.{Head}
use Rattle.cv_syntax_trees.specs.declared.head.Head.TheVariants.{Leaf}
use Rattle.cv_syntax_trees.specs.Tree.{Tree, Empty, Node}
use Rattle.cv_meaning.specs.contexts.Groups.{Function, Group}
use Rattle.cv_scene.specs.Instances.{names_of}

abbrev pub is_leaf_of : ℕ → Head → Bool
is_leaf_of x (Leaf y) = y == x
is_leaf_of x h = false

-- a leaf of the tree is the name
unfoldable pub has_leaf : ℕ → Tree → Bool
has_leaf x Empty = false
has_leaf x (Node h a b) = is_leaf_of x h || (has_leaf x a || has_leaf x b)

abbrev pub is_bare : Head → Tree → Tree → Bool
is_bare (Leaf y) Empty Empty = true
is_bare (Leaf y) a b = false
is_bare h a b = true

-- no leaf has children, as in each term
unfoldable pub has_bare_leaves : Tree → Bool
has_bare_leaves Empty = true
has_bare_leaves (Node h a b) = is_bare h a b && (has_bare_leaves a && has_bare_leaves b)

abbrev pub Each : (ℕ → Type 0) → List ℕ → Type 0
Each P [] = Unit {0}
Each P (x ∷ xs) = P x × Each P xs

abbrev pub AreApart : List ℕ → Type 0
AreApart [] = Unit {0}
AreApart (x ∷ xs) = Each (λ y. (x == y) ≡ false) xs × AreApart xs

-- The names of the key, the coins and the arguments are apart, and each is a leaf of the body.
pub record ReadsItsNames (g : Group) (f : Function) : Type 0 where
  pub apart : AreApart (names_of g f)
  pub read : Each (λ x. has_leaf x f.body ≡ true) (names_of g f)
  pub bare : has_bare_leaves f.body ≡ true
