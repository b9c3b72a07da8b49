-- The sorts of phrases of the grammar, and what its rows are made of.
use Rattle.std.specs.Prelude.{ℕ, false, List, ◌∷◌, Option, Some, None}
use Rattle.cv_syntax_trees.specs.Tree.{Tree, Empty, binders}
use Rattle.cv_parse_notation.specs.declared.sign.Mark.{Mark}
use Rattle.cv_parse_notation.specs.declared.sign.Mark.TheVariants as mark
use Rattle.cv_parse_notation.specs.Form.{Form, sign, word, note, may, many, either, made, level, ◌&◌, ◌▸◌, ◌◂◌}
use Rattle.cv_parse_grammar.specs.declared.role.Asked.TheVariants.{AType}
use Rattle.cv_parse_grammar.specs.declared.role.Region.{Region}
use Rattle.cv_parse_grammar.specs.declared.role.Role.{Role}
use Rattle.cv_parse_grammar.specs.declared.role.Role.TheVariants.{Asks, Enters, Leaves}

-- the phrases that stand one level down
pub data Sort : Type 0 where
  -- of terms
  Term Conjunction Primary Unequal Arguments Subscript Parentheses : Sort
  -- of processes
  Inputs Input Output Pattern Sending Payload Variables Indices ProcessBranch Cells OneCell : Sort
  -- of equivalences
  Body BodyBranch LeftFunction RightFunction RightRest : Sort
  -- of queries
  RightSide : Sort
  -- of the proof block
  Braces : Sort

-- a phrase with a value
abbrev pub Phrase : Type 0 → Type 1
Phrase A = Form Role Sort A

-- the second, where it is there
abbrev pub or_else : {A : Type 0} → A → Option A → A
or_else a None = a
or_else a (Some b) = b

-- what a tail makes of the phrase before it
abbrev pub after : {A : Type 0} → A → Option (A → A) → A
after a None = a
after a (Some f) = f a

-- one or more, with a symbol between them
abbrev pub row : {A : Type 0} → Mark → Phrase A → Phrase (List A)
row m f = made (λ (a, l). a ∷ l) (f & many false (m ▸ f))

-- in parentheses, in square brackets
abbrev pub bracket : {A : Type 0} → Phrase A → Phrase A
bracket f = level (mark.Open ▸ f ◂ mark.Close)

abbrev pub square : {A : Type 0} → Phrase A → Phrase A
square f = level (mark.OpenSquare ▸ f ◂ mark.CloseSquare)

-- a list, or nothing for the empty list
abbrev pub listed : Phrase Tree → Phrase Tree
listed f = made (or_else Empty) (may false f)

-- `bool` is the name 0
abbrev pub type_name : Phrase ℕ
type_name = either (made (λ _. 0) (sign mark.Bool)) (word (Asks AType))

-- x : T
abbrev pub typed : Role → Phrase (ℕ × ℕ)
typed r = word r & (mark.Colon ▸ type_name)

-- x : T, ..
abbrev pub vars : Role → Phrase Tree
vars r = made binders (row mark.Comma (typed r))

abbrev pub var_list : Role → Phrase Tree
var_list r = bracket (listed (vars r))

-- u <= N, ..
abbrev pub indices : Role → Role → Phrase Tree
indices index bound = made binders (row mark.Comma (word index & (mark.AtMost ▸ word bound)))

-- a phrase with names of its own
abbrev pub inside : {A : Type 0} → Region → Phrase A → Phrase A
inside r f = made (λ (n, (a, m)). a) (note (Enters r) & (f & note Leaves))
