-- What each position asks of the tree that stands there, and the names that are bound above it.
use Rattle.std.specs.Prelude.{ℕ, Bool, true, false, ◌==◌, not, if◌then◌else◌, List, [], ◌∷◌, Option, Some, None}
use Rattle.cv_syntax_trees.specs.declared.head.Head.{Head}
use Rattle.cv_syntax_trees.specs.declared.head.Head.TheVariants.{Par, Repl, In, Out, Event, New, Let, If, Find, Branch, Read, Apply, Eq, And, Or, Not, Cons, Binder, Query, Occurs, OccursOnce, SomeOf}
use Rattle.cv_syntax_trees.specs.Declarations.{Declaration}
use Rattle.cv_syntax_trees.specs.Tree.{Tree, Empty, Node}
use Rattle.cv_scope_rules.specs.declared.typing.form.Form.{Form}
use Rattle.cv_scope_rules.specs.declared.typing.form.Form.TheVariants.{InProcess, InBody}
use Rattle.cv_scope_rules.specs.declared.typing.precedence.Precedence.{Precedence}
use Rattle.cv_scope_rules.specs.declared.typing.precedence.Precedence.TheVariants.{First, Newest}
use Rattle.cv_syntax_trees.specs.declared.sites.sort.Sort.{Sort}
use Rattle.cv_syntax_trees.specs.declared.sites.sort.Sort.TheVariants.{OfType, BelowParameter}
use Rattle.cv_syntax_trees.specs.sites.Sites.{Variable, first_of}
use Rattle.cv_scope_rules.specs.typing.Signature.{Signature, Function, Arrays, OfGame, OfSide, OfNothing, Above, boolean, function_in, event_in, sort_of}
use Rattle.cv_syntax_trees.specs.sites.Sorts.{same_sort}

pub data Want : Type 0 where
  -- a process or a body; the branches of a `find`; the cells, the condition and the body of a branch; its condition and body
  Run Branches Guarded Tested : Form → Want
  -- the channel's indices and the terms of an output
  Sent : Want
  -- a correspondence; its events and terms
  Correspondence Atoms : Want
  -- nothing that is typed
  NoTerms : Want
  -- a term; an index; a value
  AnyTerm AnyIndex AnyValue : Want
  -- a term of this sort
  Of : Sort → Want
  -- a value that is an argument or goes out, of any type or of this one: it is no index
  AnyMessage : Want
  Message : (T : ℕ) → Want
  -- lists of terms, of indices, of values that go out
  EachTerm EachIndex AllMessages : Want
  -- a list of values of these types, and of indices of these parameters, one by one
  Messages Indices : List ℕ → Want

abbrev pub like : Option Sort → Want
like None = AnyTerm
like (Some S) = Of S

-- what a name at indices asks of these
abbrev pub asks_indices : Option Variable → Want
asks_indices None = EachTerm
asks_indices (Some v) = Indices v.parameters

abbrev pub wants_indices : Arrays → ℕ → Want
wants_indices (OfGame sites) x = asks_indices (sites.variable x)
wants_indices (OfSide by_bound own) x = EachIndex
wants_indices OfNothing x = EachTerm

abbrev pub wants_arguments : Option Function → Want
wants_arguments None = EachTerm
wants_arguments (Some f) = Messages f.arguments

-- What the two children of a node are asked. Terms ask the same of their parts wherever they stand.

abbrev pub nothing : Want × Want
nothing = (NoTerms, NoTerms)

abbrev pub term_wants : Signature → Above → Head → Tree → Option (Want × Want)
term_wants e above (Read x) a = Some (wants_indices e.arrays x, NoTerms)
term_wants e above (Apply f) a = Some (wants_arguments (function_in e.declarations f), NoTerms)
term_wants e above Eq a = Some (AnyTerm, like (sort_of e above a))
term_wants e above And a = Some (Of boolean, Of boolean)
term_wants e above Or a = Some (Of boolean, Of boolean)
term_wants e above Not a = Some (Of boolean, NoTerms)
term_wants e above h a = None

-- in a process or a body
abbrev pub run_wants : List Declaration → Form → Head → Want × Want
run_wants ds f Par = (Run f, Run f)
run_wants ds f (Repl i n) = (NoTerms, Run f)
run_wants ds f (In c) = (NoTerms, Run f)
run_wants ds f (Out c) = (Sent, Run f)
run_wants ds f (Event v) = (Messages (event_in ds v), Run f)
run_wants ds f (New x T) = (NoTerms, Run f)
run_wants ds f (Let x T) = (Message T, Run f)
run_wants ds f If = (Of boolean, Run f)
run_wants ds f (Find l) = (Branches f, Run f)
run_wants ds f Cons = (Run f, Run f)
run_wants ds f h = nothing

abbrev pub branch_wants : Form → Head → Want × Want
branch_wants f Cons = (Branches f, Branches f)
branch_wants f Branch = (NoTerms, Guarded f)
branch_wants f h = nothing

abbrev pub query_wants : Head → Want × Want
query_wants Query = (NoTerms, Atoms)
query_wants h = nothing

abbrev pub atom_wants : List Declaration → Head → Want × Want
atom_wants ds Cons = (Atoms, Atoms)
atom_wants ds SomeOf = (Atoms, Atoms)
atom_wants ds (Occurs v) = (Messages (event_in ds v), NoTerms)
atom_wants ds (OccursOnce v) = (Messages (event_in ds v), NoTerms)
atom_wants ds h = nothing

-- the item and the rest of a list
abbrev pub list_wants : Want → Want × Want
list_wants (Guarded f) = (EachTerm, Tested f)
list_wants (Tested f) = (Of boolean, Run f)
list_wants Sent = (NoTerms, AllMessages)
list_wants EachTerm = (AnyTerm, EachTerm)
list_wants EachIndex = (AnyIndex, EachIndex)
list_wants AllMessages = (AnyMessage, AllMessages)
list_wants (Messages (T ∷ Ts)) = (Message T, Messages Ts)
list_wants (Messages []) = (AnyTerm, EachTerm)
list_wants (Indices (n ∷ ns)) = (Of (BelowParameter n), Indices ns)
list_wants (Indices []) = (AnyTerm, EachTerm)
list_wants w = nothing

abbrev pub on_list : Head → Want × Want → Want × Want
on_list Cons ws = ws
on_list h ws = nothing

abbrev pub place_wants : List Declaration → Want → Head → Want × Want
place_wants ds (Run f) h = run_wants ds f h
place_wants ds (Branches f) h = branch_wants f h
place_wants ds Correspondence h = query_wants h
place_wants ds Atoms h = atom_wants ds h
place_wants ds w h = on_list h (list_wants w)

abbrev pub or_wants : Option (Want × Want) → Want × Want → Want × Want
or_wants None ws = ws
or_wants (Some us) ws = us

-- by what is asked of the node, its head and its first child
abbrev pub wants : Signature → Above → Want → Head → Tree → Want × Want
wants e above w h a = or_wants (term_wants e above h a) (place_wants e.declarations w h)

-- A term that gives less than is asked of it. A term of which nothing is known gives all.

abbrev pub is_index : Sort → Bool
is_index (BelowParameter n) = true
is_index (OfType T) = false

abbrev pub is_of_other_type : ℕ → Sort → Bool
is_of_other_type T (OfType U) = not (T == U)
is_of_other_type T (BelowParameter n) = false

abbrev pub is_other_result : Form → Sort → Bool
is_other_result InProcess S = false
is_other_result (InBody None) S = is_index S
is_other_result (InBody (Some R)) S = not (same_sort R S)

abbrev pub is_other_sort : Want → Sort → Bool
is_other_sort (Run f) S = is_other_result f S
is_other_sort Atoms S = not (same_sort boolean S)
is_other_sort AnyIndex S = not (is_index S)
is_other_sort AnyValue S = is_index S
is_other_sort (Of R) S = not (same_sort R S)
is_other_sort (Message T) S = is_of_other_type T S
is_other_sort w S = false

abbrev pub is_message : Want → Bool
is_message AnyMessage = true
is_message (Message T) = true
is_message w = false

abbrev pub is_wrong : Want → Option Sort → Bool
is_wrong w None = false
is_wrong w (Some S) = is_other_sort w S

abbrev pub is_index_sent : Want → Option Sort → Bool
is_index_sent w None = false
is_index_sent w (Some S) = if is_message w then is_index S else false

-- Names that a node binds for what stands behind it: the index of a replication, and in a body what `new` and `let`
-- define and the indices of a branch.

-- with a name's sort: of two bindings of one name the first counts, or the newest
abbrev pub bound : Precedence → Above → ℕ → Sort → Above
bound First above x S y = if x == y then first_of (above x) (Some S) else above y
bound Newest above x S y = if x == y then Some S else above y

unfoldable pub all_bound : Precedence → Above → (ℕ → Sort) → Tree → Above
all_bound precedence above sort Empty = above
all_bound precedence above sort (Node (Binder x T) a b) = all_bound precedence (bound precedence above x (sort T)) sort b
all_bound precedence above sort (Node h a b) = all_bound precedence above sort b

abbrev pub is_in_body : Want → Bool
is_in_body (Run (InBody r)) = true
is_in_body (Branches (InBody r)) = true
is_in_body w = false

abbrev pub binds : Want → Head → Bool
binds w (Repl i n) = true
binds w (New x T) = is_in_body w
binds w (Let x T) = is_in_body w
binds w Branch = is_in_body w
binds w h = false

-- With the names that a node binds. Of two replications that bind one index the outer one counts, and of a name that
-- a body binds again the newest binding.
abbrev pub with_names : Head → Tree → Above → Above
with_names (Repl i n) a above = bound First above i (BelowParameter n)
with_names (New x T) a above = bound Newest above x (OfType T)
with_names (Let x T) a above = bound Newest above x (OfType T)
with_names Branch a above = all_bound Newest above BelowParameter a
with_names h a above = above

abbrev pub above_second : Want → Head → Tree → Above → Above
above_second w h a above = if binds w h then with_names h a above else above
