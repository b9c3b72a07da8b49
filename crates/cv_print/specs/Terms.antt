-- The text of terms, and of lists of terms, of names and of binders.
use Rattle.std.specs.Prelude.{ℕ, List, [], ◌++◌, unwrap_or, slice_get, codes}
use Rattle.cv_syntax_trees.specs.Tree.{Tree, Empty, Node}
use Rattle.cv_syntax_trees.specs.declared.head.Head.{Head}
use Rattle.cv_syntax_trees.specs.declared.head.Head.TheVariants.{Leaf, Primed, Read, Apply, Eq, And, Or, Not, Yes, No, Binder, Name}

-- the text of a name, by its number; a number past the list has none
abbrev pub name_text : List (List ℕ) → ℕ → List ℕ
name_text names x = unwrap_or (slice_get names x) []

-- two names with a mark between them
abbrev pub binder_text : List (List ℕ) → List ℕ → ℕ → ℕ → List ℕ
binder_text names mark x T = name_text names x ++ mark ++ name_text names T

-- a name, or a binder
abbrev pub entry_text : List (List ℕ) → List ℕ → Head → List ℕ
entry_text names mark (Name x) = name_text names x
entry_text names mark (Binder x T) = binder_text names mark x T
entry_text names mark _ = []

-- a list of names or binders: a text stands before the first, and a comma before each further one
unfoldable pub entries_text : List (List ℕ) → List ℕ → List ℕ → Tree → List ℕ
entries_text names mark before Empty = []
entries_text names mark before (Node h a b) = before ++ entry_text names mark h ++ entries_text names mark (codes ", ") b

unfoldable mutual
  pub term_text : List (List ℕ) → Tree → List ℕ
  term_text names (Node (Leaf x) a b) = name_text names x
  term_text names (Node (Primed x) a b) = name_text names x ++ codes "'"
  term_text names (Node (Read x) a b) = name_text names x ++ codes "[" ++ terms_text names [] a ++ codes "]"
  term_text names (Node (Apply f) a b) = name_text names f ++ codes "(" ++ terms_text names [] a ++ codes ")"
  term_text names (Node Eq a b) = codes "(" ++ term_text names a ++ codes " = " ++ term_text names b ++ codes ")"
  term_text names (Node And a b) = codes "(" ++ term_text names a ++ codes " && " ++ term_text names b ++ codes ")"
  term_text names (Node Or a b) = codes "(" ++ term_text names a ++ codes " || " ++ term_text names b ++ codes ")"
  term_text names (Node Not a b) = codes "not(" ++ term_text names a ++ codes ")"
  term_text names (Node Yes a b) = codes "true"
  term_text names (Node No a b) = codes "false"
  term_text names _ = []

  -- a list of terms: a text stands before the first, and a comma before each further one
  pub terms_text : List (List ℕ) → List ℕ → Tree → List ℕ
  terms_text names before Empty = []
  terms_text names before (Node h a b) = before ++ term_text names a ++ terms_text names (codes ", ") b
