-- What the names of a printed game have to be, and that what it mentions is known. This profile's own.
use Rattle.std.specs.Prelude.{◌≡◌, ◌≢◌, ℕ, suc, ◌^◌, Bool, true, ◌&&◌, nat_lt, List, Some, None, slice_get, codes}
use Rattle.cv_lex.specs.declared.TokenKind.TheVariants.{Ident}
use Rattle.cv_lex.specs.Lexis.{IsToken}
use Rattle.cv_pool.specs.names.Texts.{NoRepeat}
use Rattle.cv_parse_tables.specs.spelling.Spelling.{mark_of_text}
use Rattle.cv_syntax_trees.specs.Tree.{Tree, Empty, Node}
use Rattle.cv_syntax_trees.specs.declared.head.Head.{Head}
use Rattle.cv_syntax_trees.specs.declared.head.Head.TheVariants.{Repl, In, Out, Event, New, Let, Find, Leaf, Primed, Read, Apply, Binder, Name}

-- one identifier, which is none of the words of the grammar
pub record IsName (text : List ℕ) : Type 0 where
  pub token : IsToken Ident text
  pub no_mark : mark_of_text text ≡ None
  pub not_find : text ≢ codes "find"

-- `bool` is number 0, each other one is a name, and no two are equal
pub record AreNames (names : List (List ℕ)) : Type 0 where
  pub bool_first : slice_get names 0 ≡ Some (codes "bool")
  pub each : (x : ℕ) (text : List ℕ) → slice_get names (suc x) ≡ Some text → IsName text
  pub apart : NoRepeat names

-- the names of a node are below so many, and a label fits 64 bits
abbrev pub head_is_named : ℕ → Head → Bool
head_is_named count (Leaf x) = nat_lt x count
head_is_named count (Primed x) = nat_lt x count
head_is_named count (Read x) = nat_lt x count
head_is_named count (Apply f) = nat_lt f count
head_is_named count (Repl i n) = nat_lt i count && nat_lt n count
head_is_named count (In c) = nat_lt c count
head_is_named count (Out c) = nat_lt c count
head_is_named count (Event e) = nat_lt e count
head_is_named count (New x T) = nat_lt x count && nat_lt T count
head_is_named count (Let x T) = nat_lt x count && nat_lt T count
head_is_named count (Binder x T) = nat_lt x count && nat_lt T count
head_is_named count (Name x) = nat_lt x count
head_is_named count (Find l) = nat_lt l (2 ^ 64)
head_is_named count h = true

unfoldable pub is_named : ℕ → Tree → Bool
is_named count Empty = true
is_named count (Node h a b) = head_is_named count h && (is_named count a && is_named count b)
