-- Which phrases the rows of processes and terms make, where no name among the tokens is `bool`. This profile's own.
use Rattle.std.specs.Prelude.{◌≡◌, true, List}
use Rattle.std.specs.List.{AllByRecursion}
use Rattle.cv_syntax_trees.specs.Tree.{Tree, first, second}
use Rattle.cv_parse_notation.specs.declared.sign.Sign.{Sign}
use Rattle.cv_parse_notation.specs.declared.sign.Sign.TheVariants as token
use Rattle.cv_parse_grammar.specs.Phrases.{Sort}
use Rattle.cv_parse_grammar.specs.Phrases as sort
use Rattle.cv_parse_grammar.specs.Processes.{name_of}
use Rattle.cv_print_bytes.specs.terminals.Written.{has_items, is_name, is_written}

-- the name of a sign, where it has one, isn't `bool`
abbrev pub IsNamed : Sign → Type 0
IsNamed (token.Word x w) = is_name x ≡ true
IsNamed (token.Unnamed x) = is_name x ≡ true
IsNamed s = Unit {0}

abbrev pub AreNamed : List Sign → Type 0
AreNamed signs = AllByRecursion IsNamed signs

-- every node of the tree is written
pub record HasWords (t : Tree) : Type 0 where
  pub written : is_written t ≡ true

-- a list that isn't empty
pub record HasItems (t : Tree) : Type 0 where
  pub words : HasWords t
  pub items : has_items t ≡ true

-- a channel with its indices, and what goes over it
pub record GoesOver (t : Tree) : Type 0 where
  pub channel : is_name (name_of t) ≡ true
  pub indices : HasWords (first t)
  pub message : HasWords (second t)

-- what the phrases of a sort are; those of equivalences and of the proof block are in no game
abbrev pub WordsOfSort : Sort → Tree → Type 0
WordsOfSort sort.Term t = HasWords t
WordsOfSort sort.Conjunction t = HasWords t
WordsOfSort sort.Primary t = HasWords t
WordsOfSort sort.Unequal t = HasWords t
WordsOfSort sort.Parentheses t = HasWords t
WordsOfSort sort.Arguments t = HasItems t
WordsOfSort sort.Subscript t = HasItems t
WordsOfSort sort.Payload t = HasWords t
WordsOfSort sort.Inputs t = HasWords t
WordsOfSort sort.Input t = HasWords t
WordsOfSort sort.Output t = HasWords t
WordsOfSort sort.Pattern t = GoesOver t
WordsOfSort sort.Sending t = GoesOver t
WordsOfSort sort.Variables t = HasWords t
WordsOfSort sort.Indices t = HasWords t
WordsOfSort sort.ProcessBranch t = HasWords t
WordsOfSort sort.Cells t = HasWords t
WordsOfSort sort.OneCell t = HasWords t
WordsOfSort _ t = Unit {0}
