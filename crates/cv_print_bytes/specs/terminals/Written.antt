-- Which games are read back from their text: what the grammar has no words for is left out. This profile's own.
use Rattle.std.specs.Prelude.{◌≡◌, ℕ, zero, suc, Bool, true, false, ◌&&◌, ◌||◌}
use Rattle.cv_syntax_trees.specs.Tree.{Tree, Empty, Node}
use Rattle.cv_syntax_trees.specs.declared.head.Head.{Head}
use Rattle.cv_syntax_trees.specs.declared.head.Head.TheVariants.{Repl, In, Out, Event, New, Let, Find, Branch, Leaf, Read, Apply, Binder, Name}
use Rattle.cv_parse_notation.specs.declared.sign.Mark.TheVariants as mark
use Rattle.cv_parse_notation.specs.Spells.{Kind, is_mark}
use Rattle.cv_scope_rules.specs.Phrases.{Phrase, is_phrase}

-- a name, but not `bool`
abbrev pub is_name : ℕ → Bool
is_name zero = false
is_name (suc x) = true

abbrev pub has_items : Tree → Bool
has_items Empty = false
has_items (Node h a b) = true

-- the parameters of indices are names
unfoldable pub has_parameters : Tree → Bool
has_parameters (Node (Binder u n) a b) = is_name n && has_parameters b
has_parameters l = true

-- only a type may be `bool`; arguments, indices and branches aren't empty lists
abbrev pub head_is_written : Head → Tree → Bool
head_is_written (Leaf x) a = is_name x
head_is_written (Read x) a = is_name x && has_items a
head_is_written (Apply f) a = is_name f && has_items a
head_is_written (Repl i n) a = is_name i && is_name n
head_is_written (In c) a = is_name c
head_is_written (Out c) a = is_name c
head_is_written (Event e) a = is_name e
head_is_written (New x T) a = is_name x
head_is_written (Let x T) a = is_name x
head_is_written (Find l) a = has_items a
head_is_written Branch a = has_parameters a
head_is_written (Binder x T) a = is_name x
head_is_written (Name x) a = is_name x
head_is_written h a = true

unfoldable pub is_written : Tree → Bool
is_written Empty = true
is_written (Node h a b) = head_is_written h a && (is_written a && is_written b)

-- a phrase of a game that has words
pub record IsWritten (φ : Phrase) (t : Tree) : Type 0 where
  pub phrase : is_phrase φ t ≡ true
  pub words : is_written t ≡ true

-- a token that would go on with a name that ends a term
abbrev pub opens : Kind → Bool
opens k = is_mark mark.Open k || is_mark mark.OpenSquare k
