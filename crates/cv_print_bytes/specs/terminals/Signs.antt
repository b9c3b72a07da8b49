-- The signs of the text of terms, lists and games: one for each token, in the order of the text. This profile's own.
use Rattle.std.specs.Prelude.{ℕ, zero, suc, List, [], ◌∷◌, ◌++◌}
use Rattle.cv_syntax_trees.specs.Tree.{Tree, Empty, Node, first, second}
use Rattle.cv_syntax_trees.specs.declared.head.Head.{Head}
use Rattle.cv_syntax_trees.specs.declared.head.Head.TheVariants.{Stop, Yield, Par, Repl, In, Out, Event, New, Let, If, Find, Leaf, Primed, Read, Apply, Eq, And, Or, Not, Yes, No, Binder, Name}
use Rattle.cv_parse_notation.specs.declared.script.ScriptWord.TheVariants.{Plain}
use Rattle.cv_parse_notation.specs.declared.sign.Mark.{Mark}
use Rattle.cv_parse_notation.specs.declared.sign.Mark.TheVariants as mark
use Rattle.cv_parse_notation.specs.declared.sign.Sign.{Sign}
use Rattle.cv_parse_notation.specs.declared.sign.Sign.TheVariants as token

-- one list behind another, grouped from the right
infixr 30 ◌⁀◌
abbrev pub ◌⁀◌ : {A : Type 0} → List A → List A → List A
xs ⁀ ys = xs ++ ys

-- a word or symbol
abbrev pub one : Mark → List Sign
one m = token.Mark m ∷ []

-- a name, by its number; that of `bool` is 0. A name is no word of a script.
abbrev pub name_sign : ℕ → Sign
name_sign zero = token.Mark mark.Bool
name_sign (suc x) = token.Word (suc x) Plain

abbrev pub named : ℕ → List Sign
named x = name_sign x ∷ []

-- nothing for an empty list
abbrev pub unless_empty : Tree → List Sign → List Sign
unless_empty Empty signs = []
unless_empty (Node h a b) signs = signs

-- two names with signs between them
abbrev pub binder_signs : List Sign → ℕ → ℕ → List Sign
binder_signs between x T = named x ⁀ between ⁀ named T

-- a name, or a binder
abbrev pub entry_signs : List Sign → Head → List Sign
entry_signs between (Name x) = named x
entry_signs between (Binder x T) = binder_signs between x T
entry_signs between _ = []

-- a list of names or binders: signs stand before the first, and a comma before each further one
unfoldable pub entries_signs : List Sign → List Sign → Tree → List Sign
entries_signs between before Empty = []
entries_signs between before (Node h a b) = before ⁀ entry_signs between h ⁀ entries_signs between (one mark.Comma) b

-- terms

unfoldable mutual
  pub term_signs : Tree → List Sign
  term_signs (Node (Leaf x) a b) = named x
  term_signs (Node (Primed x) a b) = named x ⁀ one mark.Prime
  term_signs (Node (Read x) a b) = named x ⁀ one mark.OpenSquare ⁀ terms_signs [] a ⁀ one mark.CloseSquare
  term_signs (Node (Apply f) a b) = named f ⁀ one mark.Open ⁀ terms_signs [] a ⁀ one mark.Close
  term_signs (Node Eq a b) = one mark.Open ⁀ term_signs a ⁀ one mark.Equal ⁀ term_signs b ⁀ one mark.Close
  term_signs (Node And a b) = one mark.Open ⁀ term_signs a ⁀ one mark.Both ⁀ term_signs b ⁀ one mark.Close
  term_signs (Node Or a b) = one mark.Open ⁀ term_signs a ⁀ one mark.Either ⁀ term_signs b ⁀ one mark.Close
  term_signs (Node Not a b) = one mark.Not ⁀ one mark.Open ⁀ term_signs a ⁀ one mark.Close
  term_signs (Node Yes a b) = one mark.True
  term_signs (Node No a b) = one mark.False
  term_signs _ = []

  -- a list of terms: signs stand before the first, and a comma before each further one
  pub terms_signs : List Sign → Tree → List Sign
  terms_signs before Empty = []
  terms_signs before (Node h a b) = before ⁀ term_signs a ⁀ terms_signs (one mark.Comma) b

-- processes

-- a channel at indices
abbrev pub channel_signs : ℕ → Tree → List Sign
channel_signs c indices = named c ⁀ unless_empty indices (one mark.OpenSquare ⁀ entries_signs [] [] indices ⁀ one mark.CloseSquare)

-- the arguments of an event
abbrev pub arguments_signs : Tree → List Sign
arguments_signs terms = unless_empty terms (one mark.Open ⁀ terms_signs [] terms ⁀ one mark.Close)

-- cells that have to be defined
abbrev pub cells_signs : Tree → List Sign
cells_signs cells = unless_empty cells (one mark.Defined ⁀ one mark.Open ⁀ terms_signs [] cells ⁀ one mark.Close ⁀ one mark.Both)

-- a construct before its continuation, by its head and its first child
abbrev pub step_signs : Head → Tree → List Sign
step_signs Stop a = token.Number 0 ∷ []
step_signs Yield a = one mark.Yield
step_signs (In c) a = one mark.In ⁀ one mark.Open ⁀ channel_signs c (first a) ⁀ one mark.Comma ⁀ one mark.Open ⁀ entries_signs (one mark.Colon) [] (second a) ⁀ one mark.Close ⁀ one mark.Close ⁀ one mark.Semicolon
step_signs (Out c) a = one mark.Out ⁀ one mark.Open ⁀ channel_signs c (first a) ⁀ one mark.Comma ⁀ one mark.Open ⁀ terms_signs [] (second a) ⁀ one mark.Close ⁀ one mark.Close ⁀ one mark.Semicolon
step_signs (Event e) a = one mark.EventWord ⁀ named e ⁀ arguments_signs a ⁀ one mark.Semicolon
step_signs (New x T) a = one mark.New ⁀ binder_signs (one mark.Colon) x T ⁀ one mark.Semicolon
step_signs (Let x T) a = one mark.Let ⁀ binder_signs (one mark.Colon) x T ⁀ one mark.Equal ⁀ term_signs a ⁀ one mark.In
step_signs _ a = []

-- a branch before its body: the words that it begins with, its indices, its cells and its term
abbrev pub guard_signs : List Sign → Tree → Tree → Tree → List Sign
guard_signs word indices cells term = word ⁀ entries_signs (one mark.AtMost) [] indices ⁀ one mark.Suchthat ⁀ cells_signs cells ⁀ term_signs term ⁀ one mark.Then

-- the word `find` and its label; the word has no number yet
abbrev pub find_signs : ℕ → List Sign
find_signs l = token.Find 0 ∷ token.Mark mark.At ∷ token.Number l ∷ []

unfoldable mutual
  pub process_signs : Tree → List Sign
  process_signs Empty = []
  process_signs (Node Par a b) = one mark.Open ⁀ process_signs a ⁀ one mark.Bar ⁀ process_signs b ⁀ one mark.Close
  process_signs (Node (Repl i n) a b) = one mark.Bang ⁀ binder_signs (one mark.AtMost) i n ⁀ process_signs b
  process_signs (Node If a b) = one mark.If ⁀ term_signs a ⁀ one mark.Then ⁀ bodies_signs [] b
  process_signs (Node (Find l) a b) = branches_signs (find_signs l) a ⁀ one mark.Else ⁀ process_signs b
  process_signs (Node h a b) = step_signs h a ⁀ process_signs b

  -- the two bodies of an `if`: nothing stands before the first, and `else` before the other
  pub bodies_signs : List Sign → Tree → List Sign
  bodies_signs before Empty = []
  bodies_signs before (Node h a b) = before ⁀ process_signs a ⁀ bodies_signs (one mark.Else) b

  -- branches: the first begins with given words, each further one with `orfind`
  pub branches_signs : List Sign → Tree → List Sign
  branches_signs word Empty = []
  branches_signs word (Node h a b) = branch_signs word a ⁀ branches_signs (one mark.Orfind) b

  pub branch_signs : List Sign → Tree → List Sign
  branch_signs word (Node h indices (Node i cells (Node j term body))) = guard_signs word indices cells term ⁀ process_signs body
  branch_signs word _ = []

-- the words `find` have their numbers in the order of the text, where so many stand before
unfoldable pub numbered : ℕ → List Sign → List Sign
numbered finds [] = []
numbered finds (token.Find k ∷ signs) = token.Find (suc finds) ∷ numbered (suc finds) signs
numbered finds (sign ∷ signs) = sign ∷ numbered finds signs

-- the signs of a game
abbrev pub game_signs : Tree → List Sign
game_signs t = numbered 0 (process_signs t)
