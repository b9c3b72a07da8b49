-- What the rows of processes and terms make: phrases of a game that bind no barred name.
use Rattle.std.specs.Prelude.{◌≡◌, ℕ, Bool, true, not}
use Rattle.cv_syntax_trees.specs.Tree.{Tree, first, second}
use Rattle.cv_parse_grammar.specs.declared.role.Role.{Role}
use Rattle.cv_parse_grammar.specs.Names.{binds}
use Rattle.cv_parse_grammar.specs.Phrases.{Sort}
use Rattle.cv_parse_grammar.specs.Phrases as sort
use Rattle.cv_scope_rules.specs.Phrases.{Phrase, Inputs, Body, Arm, Indices, Binders, Cells, OneCell, Terms, Term, is_phrase, binds_none}

-- a phrase of a game that binds no barred name
pub record IsShaped (barred : ℕ → Bool) (φ : Phrase) (t : Tree) : Type 0 where
  pub phrase : is_phrase φ t ≡ true
  pub free : binds_none barred t ≡ true

-- a channel with its indices, and what goes over it
pub record IsOver (barred : ℕ → Bool) (φ : Phrase) (t : Tree) : Type 0 where
  pub indices : IsShaped barred Indices (first t)
  pub message : IsShaped barred φ (second t)

-- what the phrases of a sort are in a game; those of equivalences and of the proof block are in none
abbrev pub IsOfSort : (ℕ → Bool) → Sort → Tree → Type 0
IsOfSort barred sort.Term t = IsShaped barred Term t
IsOfSort barred sort.Conjunction t = IsShaped barred Term t
IsOfSort barred sort.Primary t = IsShaped barred Term t
IsOfSort barred sort.Unequal t = IsShaped barred Term t
IsOfSort barred sort.Parentheses t = IsShaped barred Term t
IsOfSort barred sort.Arguments t = IsShaped barred Terms t
IsOfSort barred sort.Subscript t = IsShaped barred Terms t
IsOfSort barred sort.Payload t = IsShaped barred Terms t
IsOfSort barred sort.Inputs t = IsShaped barred Inputs t
IsOfSort barred sort.Input t = IsShaped barred Inputs t
IsOfSort barred sort.Output t = IsShaped barred Body t
IsOfSort barred sort.Pattern t = IsOver barred Binders t
IsOfSort barred sort.Sending t = IsOver barred Terms t
IsOfSort barred sort.Variables t = IsShaped barred Binders t
IsOfSort barred sort.Indices t = IsShaped barred Indices t
IsOfSort barred sort.ProcessBranch t = IsShaped barred Arm t
IsOfSort barred sort.Cells t = IsShaped barred Cells t
IsOfSort barred sort.OneCell t = IsShaped barred OneCell t
IsOfSort barred _ t = Unit {0}

-- where a name is bound, it is not barred
abbrev pub IsFree : (ℕ → Bool) → Role → ℕ → Type 0
IsFree barred r x = binds r ≡ true → not (barred x) ≡ true
