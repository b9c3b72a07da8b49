-- A game with the names of its file, and what a step asks of a name or of a place there. This profile's own.
use Rattle.std.specs.Prelude.{◌≡◌, ℕ, Bool, true, false, ◌&&◌, ◌||◌, not, ◌==◌, nat_lt, if◌then◌else◌, List, Option, Some, None}
use Rattle.std.specs.List.{list_any}
use Rattle.cv_syntax_trees.specs.declared.class.Class.TheVariants as class
use Rattle.cv_syntax_trees.specs.declared.head.Head.{Head}
use Rattle.cv_syntax_trees.specs.declared.head.Head.TheVariants.{Repl, New, Let, Binder, Name, Leaf, Read, Key, Call, Secret, SecretOnce}
use Rattle.cv_syntax_trees.specs.Declarations.{Declaration, Named}
use Rattle.cv_syntax_trees.specs.Tree.{Tree, Empty, Node, size, subtree, first_place, second_place}
use Rattle.cv_meaning.specs.Replaced.{is_output}
use Rattle.cv_syntax_trees.specs.sites.Sites.{first_of}
use Rattle.cv_scope_rules.specs.typing.Signature.{declaration_of}
use Rattle.cv_meaning.specs.Queries.{queries_in}
use Rattle.cv_scope_rules.specs.Sites.{Variable}
use Rattle.cv_scope_rules.specs.Made.{made_by}

pub record Scene : Type 0 where
  pub declarations : List Declaration
  pub known : ℕ → Bool  -- the names that the file has
  pub game : Tree

-- places

abbrev pub or_empty : Option Tree → Tree
or_empty None = Empty
or_empty (Some t) = t

-- what stands at a place of a tree
abbrev pub part_at : Tree → ℕ → Tree
part_at t p = or_empty (subtree t p)

abbrev pub has_place : Scene → ℕ → Bool
has_place s p = nat_lt p (size s.game)

-- an output process stands there
abbrev pub is_output_at : Scene → ℕ → Bool
is_output_at s p = is_output (part_at s.game p)

-- names

-- the node has the name as that of a variable or of an index
abbrev pub head_names : ℕ → Head → Bool
head_names x (Repl i n) = i == x
head_names x (Name i) = i == x
head_names x (New y T) = y == x
head_names x (Let y T) = y == x
head_names x (Binder y T) = y == x
head_names x (Leaf y) = y == x
head_names x (Read y) = y == x
head_names x (Key y) = y == x
head_names x (Call y l) = y == x
head_names x h = false

-- so has a node of the tree
unfoldable pub names : ℕ → Tree → Bool
names x Empty = false
names x (Node h a b) = head_names x h || (names x a || names x b)

-- neither the file nor the game has the name
abbrev pub is_new : Scene → ℕ → Bool
is_new s x = not (s.known x) && not (names x s.game)

-- the query asks for the secrecy of the variable
abbrev pub asks_for : ℕ → Tree → Bool
asks_for x (Node (Secret y) a b) = y == x
asks_for x (Node (SecretOnce y) a b) = y == x
asks_for x q = false

-- so does a query of the file
abbrev pub is_queried : Scene → ℕ → Bool
is_queried s x = list_any (asks_for x) (queries_in s.declarations)

-- the file has the names for whose secrecy its queries ask
abbrev pub KnowsQueries : Scene → Type 0
KnowsQueries s = (x : ℕ) → is_queried s x ≡ true → s.known x ≡ true

abbrev pub is_type_by : Option Declaration → Bool
is_type_by (Some (Named T (class.TypeName fixed large) arguments result)) = true
is_type_by d = false

-- the name is declared as one of a type
abbrev pub is_type : Scene → ℕ → Bool
is_type s T = is_type_by (declaration_of s.declarations T)

-- sites

abbrev pub is_new_head : Head → Bool
is_new_head (New x T) = true
is_new_head h = false

-- no node of the tree defines the variable but by `new`
unfoldable pub has_news_alone : ℕ → Tree → Bool
has_news_alone x Empty = true
has_news_alone x (Node h a b) = (is_new_head h || not (made_by h a (Variable x))) && (has_news_alone x a && has_news_alone x b)

-- some node defines it by `new`
unfoldable pub has_some_new : ℕ → Tree → Bool
has_some_new x Empty = false
has_some_new x (Node h a b) = (is_new_head h && made_by h a (Variable x)) || (has_some_new x a || has_some_new x b)

-- all sites of the variable are `new`
abbrev pub is_chosen : Scene → ℕ → Bool
is_chosen s x = has_some_new x s.game && has_news_alone x s.game

abbrev pub head_reads : ℕ → Head → Bool
head_reads x (Leaf y) = y == x
head_reads x (Read y) = y == x
head_reads x h = false

-- the first place in a tree that stands at a place where a term or a `defined` list names the variable
unfoldable pub first_reading : ℕ → ℕ → Tree → Option ℕ
first_reading x p Empty = None
first_reading x p (Node h a b) =
    if head_reads x h then Some p
    else first_of (first_reading x (first_place p h) a) (first_reading x (second_place p h a) b)
