-- Whether each definition of a variable can get a name of its own. Blanchet, TDSC 2008, section 3.
use Rattle.std.specs.Prelude.{◌≡◌, ℕ, Bool, true, false, ◌&&◌, ◌||◌, ◌==◌, not, nat_lt, List, [], ◌∷◌, ◌++◌, length}
use Rattle.std.specs.List.{list_all, list_any}
use Rattle.cv_syntax_trees.specs.declared.head.Head.{Head}
use Rattle.cv_syntax_trees.specs.declared.head.Head.TheVariants.{Binder, Call, Key, Leaf, Let, Name, New, Read, Repl}
use Rattle.cv_syntax_trees.specs.Tree.{Tree, Empty, Node}
use Rattle.cv_meaning.specs.Interpretation.{is_constant_of}
use Rattle.cv_scope_rules.specs.Behind.{sites_of}
use Rattle.cv_scene.specs.Scenes.{Scene, is_new}

-- no name is listed twice
abbrev pub are_apart : List ℕ → Bool
are_apart [] = true
are_apart (y ∷ ys) = not (list_any (λ z. z == y) ys) && are_apart ys

-- there are several definitions, and a new name for each of them
abbrev pub has_names : Scene → (x : ℕ) → (names : List ℕ) → Bool
has_names s x ys =
    nat_lt 1 (length ys) && ((length (sites_of s.game x) == length ys) && (list_all (is_new s) ys && are_apart ys))

-- a node has a name that passes as that of a variable or of an index
abbrev pub head_has : (ℕ → Bool) → Head → Bool
head_has q (Repl i n) = q i
head_has q (Name i) = q i
head_has q (New y T) = q y
head_has q (Let y T) = q y
head_has q (Binder y T) = q y
head_has q (Leaf y) = q y
head_has q (Read y) = q y
head_has q (Key y) = q y
head_has q (Call y l) = q y
head_has q h = false

-- so has a node of the tree
unfoldable pub has_some : (ℕ → Bool) → Tree → Bool
has_some q Empty = false
has_some q (Node h a b) = head_has q h || (has_some q a || has_some q b)

-- the file has none of the names
abbrev pub are_unknown : Scene → (names : List ℕ) → Bool
are_unknown s ys = list_all (λ y. not (s.known y)) ys

-- the names of a list of names, as a text has it
abbrev pub name_item : Tree → List ℕ
name_item (Node (Name y) a b) = y ∷ []
name_item t = []

unfoldable pub listed_names : Tree → List ℕ
listed_names Empty = []
listed_names (Node h item more) = name_item item ++ listed_names more

-- the names are none of the file's constants
abbrev pub AreNoConstants : Scene → (names : List ℕ) → Type 0
AreNoConstants s ys = (y : ℕ) → list_any (λ z. z == y) ys ≡ true → is_constant_of s.declarations y ≡ false
