-- The text of terms, lists and games with what is told about names between its tokens, and so the uses of names. This
-- profile's own.
use Rattle.std.specs.Prelude.{ℕ, zero, suc, ◌+◌, List, [], ◌∷◌, length}
use Rattle.cv_syntax_trees.specs.Tree.{Tree, Empty, Node, first, second}
use Rattle.cv_syntax_trees.specs.declared.head.Head.{Head}
use Rattle.cv_syntax_trees.specs.declared.head.Head.TheVariants.{Stop, Yield, Par, Repl, In, Out, Event, New, Let, If, Find, Leaf, Primed, Read, Apply, Eq, And, Or, Not, Yes, No, Binder, Name}
use Rattle.cv_parse_notation.specs.declared.sign.Mark.{Mark}
use Rattle.cv_parse_notation.specs.declared.sign.Mark.TheVariants as mark
use Rattle.cv_parse_notation.specs.declared.sign.Sign.{Sign}
use Rattle.cv_parse_notation.specs.declared.sign.Sign.TheVariants as token
use Rattle.cv_parse_grammar.specs.declared.role.Asked.TheVariants.{AParam, AChannel, AnEvent, AType}
use Rattle.cv_parse_grammar.specs.declared.role.Role.{Role}
use Rattle.cv_parse_grammar.specs.declared.role.Role.TheVariants.{Asks, BindsVariable, BindsIndex, AsksIndex, Mentions, AsCall, AsArray, AsBare, MentionsCell}
use Rattle.cv_parse_grammar.specs.Names.{Uses}
use Rattle.cv_print_bytes.specs.terminals.Signs.{◌⁀◌, name_sign}

pub data Piece : Type 0 where
  -- a token
  Shown : Sign → Piece
  -- what the name behind it is used for, or what is told about names without one
  Told : Role → ℕ → Piece

-- the tokens
unfoldable pub signs_in : List Piece → List Sign
signs_in [] = []
signs_in (Shown sign ∷ ps) = sign ∷ signs_in ps
signs_in (Told role x ∷ ps) = signs_in ps

-- the uses of names, where so many tokens stand behind
unfoldable pub uses_in : List Piece → ℕ → Uses
uses_in [] behind = []
uses_in (Shown sign ∷ ps) behind = uses_in ps behind
uses_in (Told role x ∷ ps) behind = record { role = role; name = x; left = length (signs_in ps) + behind } ∷ uses_in ps behind

abbrev pub shown : Mark → List Piece
shown m = Shown (token.Mark m) ∷ []

abbrev pub word : Role → ℕ → List Piece
word r x = Told r x ∷ Shown (name_sign x) ∷ []

abbrev pub tells : Role → List Piece
tells r = Told r 0 ∷ []

-- `bool` is no use of a name
abbrev pub type_word : ℕ → List Piece
type_word zero = shown mark.Bool
type_word (suc T) = word (Asks AType) (suc T)

abbrev pub told_unless_empty : Tree → List Piece → List Piece
told_unless_empty Empty ps = []
told_unless_empty (Node h a b) ps = ps

-- a name, or a binder whose second name stands so
abbrev pub entry_told : Role → List Piece → (ℕ → List Piece) → Head → List Piece
entry_told r between bound (Name x) = word r x
entry_told r between bound (Binder x T) = word r x ⁀ between ⁀ bound T
entry_told r between bound _ = []

unfoldable pub entries_told : Role → List Piece → (ℕ → List Piece) → List Piece → Tree → List Piece
entries_told r between bound before Empty = []
entries_told r between bound before (Node h a b) = before ⁀ entry_told r between bound h ⁀ entries_told r between bound (shown mark.Comma) b

-- names of indices; variables with their types; indices with their parameters
abbrev pub names_told : Tree → List Piece
names_told l = entries_told AsksIndex [] (word AsksIndex) [] l

abbrev pub variables_told : Tree → List Piece
variables_told l = entries_told BindsVariable (shown mark.Colon) type_word [] l

abbrev pub indices_told : Tree → List Piece
indices_told l = entries_told BindsVariable (shown mark.AtMost) (word (Asks AParam)) [] l

-- terms

unfoldable mutual
  pub term_told : Tree → List Piece
  term_told (Node (Leaf x) a b) = word Mentions x ⁀ tells AsBare
  term_told (Node (Primed x) a b) = word Mentions x ⁀ tells AsBare ⁀ shown mark.Prime
  term_told (Node (Read x) a b) = word Mentions x ⁀ tells AsArray ⁀ shown mark.OpenSquare ⁀ terms_told [] a ⁀ shown mark.CloseSquare
  term_told (Node (Apply f) a b) = word Mentions f ⁀ tells AsCall ⁀ shown mark.Open ⁀ terms_told [] a ⁀ shown mark.Close
  term_told (Node Eq a b) = shown mark.Open ⁀ term_told a ⁀ shown mark.Equal ⁀ term_told b ⁀ shown mark.Close
  term_told (Node And a b) = shown mark.Open ⁀ term_told a ⁀ shown mark.Both ⁀ term_told b ⁀ shown mark.Close
  term_told (Node Or a b) = shown mark.Open ⁀ term_told a ⁀ shown mark.Either ⁀ term_told b ⁀ shown mark.Close
  term_told (Node Not a b) = shown mark.Not ⁀ shown mark.Open ⁀ term_told a ⁀ shown mark.Close
  term_told (Node Yes a b) = shown mark.True
  term_told (Node No a b) = shown mark.False
  term_told _ = []

  pub terms_told : List Piece → Tree → List Piece
  terms_told before Empty = []
  terms_told before (Node h a b) = before ⁀ term_told a ⁀ terms_told (shown mark.Comma) b

-- a cell that has to be defined
abbrev pub cell_told : Tree → List Piece
cell_told (Node (Leaf x) a b) = word MentionsCell x
cell_told (Node (Read x) a b) = word MentionsCell x ⁀ shown mark.OpenSquare ⁀ terms_told [] a ⁀ shown mark.CloseSquare
cell_told t = term_told t

unfoldable pub cells_told : List Piece → Tree → List Piece
cells_told before Empty = []
cells_told before (Node h a b) = before ⁀ cell_told a ⁀ cells_told (shown mark.Comma) b

-- processes

-- a channel at indices
abbrev pub channel_told : ℕ → Tree → List Piece
channel_told c indices = word (Asks AChannel) c ⁀ told_unless_empty indices (shown mark.OpenSquare ⁀ names_told indices ⁀ shown mark.CloseSquare)

-- the arguments of an event
abbrev pub arguments_told : Tree → List Piece
arguments_told terms = told_unless_empty terms (shown mark.Open ⁀ terms_told [] terms ⁀ shown mark.Close)

-- cells that have to be defined
abbrev pub condition_told : Tree → List Piece
condition_told cells = told_unless_empty cells (shown mark.Defined ⁀ shown mark.Open ⁀ cells_told [] cells ⁀ shown mark.Close ⁀ shown mark.Both)

-- a construct before its continuation, by its head and its first child
abbrev pub step_told : Head → Tree → List Piece
step_told Stop a = Shown (token.Number 0) ∷ []
step_told Yield a = shown mark.Yield
step_told (In c) a = shown mark.In ⁀ shown mark.Open ⁀ channel_told c (first a) ⁀ shown mark.Comma ⁀ shown mark.Open ⁀ variables_told (second a) ⁀ shown mark.Close ⁀ shown mark.Close ⁀ shown mark.Semicolon
step_told (Out c) a = shown mark.Out ⁀ shown mark.Open ⁀ channel_told c (first a) ⁀ shown mark.Comma ⁀ shown mark.Open ⁀ terms_told [] (second a) ⁀ shown mark.Close ⁀ shown mark.Close ⁀ shown mark.Semicolon
step_told (Event e) a = shown mark.EventWord ⁀ word (Asks AnEvent) e ⁀ arguments_told a ⁀ shown mark.Semicolon
step_told (New x T) a = shown mark.New ⁀ word BindsVariable x ⁀ shown mark.Colon ⁀ type_word T ⁀ shown mark.Semicolon
step_told (Let x T) a = shown mark.Let ⁀ word BindsVariable x ⁀ shown mark.Colon ⁀ type_word T ⁀ shown mark.Equal ⁀ term_told a ⁀ shown mark.In
step_told _ a = []

-- a branch before its body: the words that it begins with, its indices, its cells and its term
abbrev pub guard_told : List Piece → Tree → Tree → Tree → List Piece
guard_told before indices cells term = before ⁀ indices_told indices ⁀ shown mark.Suchthat ⁀ condition_told cells ⁀ term_told term ⁀ shown mark.Then

-- the word `find` and its label
abbrev pub find_told : ℕ → List Piece
find_told l = Shown (token.Find 0) ∷ Shown (token.Mark mark.At) ∷ Shown (token.Number l) ∷ []

unfoldable mutual
  pub process_told : Tree → List Piece
  process_told Empty = []
  process_told (Node Par a b) = shown mark.Open ⁀ process_told a ⁀ shown mark.Bar ⁀ process_told b ⁀ shown mark.Close
  process_told (Node (Repl i n) a b) = shown mark.Bang ⁀ word BindsIndex i ⁀ shown mark.AtMost ⁀ word (Asks AParam) n ⁀ process_told b
  process_told (Node If a b) = shown mark.If ⁀ term_told a ⁀ shown mark.Then ⁀ bodies_told [] b
  process_told (Node (Find l) a b) = branches_told (find_told l) a ⁀ shown mark.Else ⁀ process_told b
  process_told (Node h a b) = step_told h a ⁀ process_told b

  pub bodies_told : List Piece → Tree → List Piece
  bodies_told before Empty = []
  bodies_told before (Node h a b) = before ⁀ process_told a ⁀ bodies_told (shown mark.Else) b

  pub branches_told : List Piece → Tree → List Piece
  branches_told before Empty = []
  branches_told before (Node h a b) = branch_told before a ⁀ branches_told (shown mark.Orfind) b

  pub branch_told : List Piece → Tree → List Piece
  branch_told before (Node h indices (Node i cells (Node j term body))) = guard_told before indices cells term ⁀ process_told body
  branch_told before _ = []

-- the uses of names of a term and of a game, where so many tokens stand behind
abbrev pub term_uses : Tree → ℕ → Uses
term_uses t behind = uses_in (term_told t) behind

abbrev pub game_uses : Tree → ℕ → Uses
game_uses t behind = uses_in (process_told t) behind
