-- Calls that read a key first. Calls of oracles are those of Blanchet and Pointcheval, CRYPTO 2006.
use Rattle.std.specs.Prelude.{◌≡◌, ℕ, Bool, true, false, ◌&&◌, not}
use Rattle.std.specs.List.{AllByRecursion}
use Rattle.cv_syntax_trees.specs.declared.head.Head.{Head}
use Rattle.cv_syntax_trees.specs.declared.head.Head.TheVariants.{Leaf, Read, Key, Call}
use Rattle.cv_syntax_trees.specs.Tree.{Tree, Empty, Node, first}
use Rattle.cv_meaning.specs.Consulted.{is_key}
use Rattle.cv_meaning.specs.Side.{CallNumber, Side}
use Rattle.cv_meaning.specs.Tapes.{cells_of}
use Rattle.cv_scope_rules.specs.Scope.{is_untyped_in}
use Rattle.cv_scope_rules.specs.Sites.{Variable}
use Rattle.cv_scope_rules.specs.Made.{made_by}

-- the node defines the variable as a key, or not at all
abbrev pub head_keys : ℕ → Head → Tree → Bool
head_keys x (Key y) a = true
head_keys x h a = not (made_by h a (Variable x))

-- so does each node of the tree
unfoldable pub has_keys_alone : ℕ → Tree → Bool
has_keys_alone x Empty = true
has_keys_alone x (Node h a b) = head_keys x h a && (has_keys_alone x a && has_keys_alone x b)

-- the variable is a key of the context
abbrev pub is_key_of : Tree → ℕ → Bool
is_key_of context x = is_untyped_in x context && has_keys_alone x context

-- the term reads a key of the context
abbrev pub reads_key : Tree → Tree → Bool
reads_key context (Node (Leaf x) a b) = is_key_of context x
reads_key context (Node (Read x) a b) = is_key_of context x
reads_key context t = false

abbrev pub head_reads_key : Tree → Head → Tree → Bool
head_reads_key context (Call x l) a = reads_key context (first a)
head_reads_key context h a = true

-- each call in the tree reads a key of the context first
unfoldable pub calls_read_keys : Tree → Tree → Bool
calls_read_keys context Empty = true
calls_read_keys context (Node h a b) = head_reads_key context h a && (calls_read_keys context a && calls_read_keys context b)

-- the cells that a side draws for its calls are no keys
abbrev pub HasOwnCells : Side → Type 0
HasOwnCells side = (number : CallNumber) → AllByRecursion (λ c. is_key c ≡ false) (cells_of (side.cells number))
