-- What is asked of a game beside typing and array scope, so that it is typed as the laws of meaning take it: that the types
-- and parameters that it names are declared, and that each name that it reads is known.
use Rattle.std.specs.Prelude.{◌≡◌, ℕ, Bool, true, ◌&&◌, ◌||◌, List, [], ◌∷◌, map, option_map, None, is_some}
use Rattle.cv_syntax_trees.specs.declared.head.Head.{Head}
use Rattle.cv_syntax_trees.specs.declared.head.Head.TheVariants.{Apply, Binder, Branch, Cons, In, Leaf, Let, New, Read, Repl}
use Rattle.cv_syntax_trees.specs.Declarations.{Declaration, Named, Equation, Equiv, Query}
use Rattle.cv_syntax_trees.specs.Tree.{Tree, Empty, Node, names, second}
use Rattle.std.specs.List.{All}
use Rattle.cv_meaning.specs.Tapes.{blank}
use Rattle.cv_meaning.specs.Interpretation.{Interpretation, is_constant_of, setting_of}
use Rattle.cv_meaning.specs.Runs.{Adversary, Mode}
use Rattle.cv_meaning.specs.Cells.{cells}
use Rattle.cv_meaning.specs.Experiments.{run}
use Rattle.cv_meaning_laws.specs.adequacy.Counted.{tapes_of}
use Rattle.cv_meaning_laws.specs.adequacy.Typed as meaning
use Rattle.cv_meaning_laws.specs.adequacy.Typed.{Context, IsDeclared, Scope, IsTypedStore}
use Rattle.cv_scope_rules.specs.Rules.{is_index}
use Rattle.cv_scope_rules.specs.declared.position.Position.{Position}
use Rattle.cv_scope_rules.specs.declared.position.Position.TheVariants.{Anywhere, Guards}
use Rattle.cv_scope_rules.specs.Context.{first_position, replications_below, second_position}
use Rattle.cv_syntax_trees.specs.declared.sites.sort.Sort.{Sort}
use Rattle.cv_syntax_trees.specs.declared.sites.sort.Sort.TheVariants.{BelowParameter, OfType}
use Rattle.cv_scope_rules.specs.typing.Signature.{function_in, names_in}
use Rattle.cv_syntax_trees.specs.sites.Sites.{Variable, first_site}

-- the parameters of replications
abbrev pub parameters_of : Scope → List ℕ
parameters_of rs = map (λ (r : ℕ × ℕ). r.1) rs

-- The sorts and variables of typing, as those of meaning.

abbrev pub sort_of_meaning : Sort → meaning.Sort
sort_of_meaning (OfType T) = meaning.OfType T
sort_of_meaning (BelowParameter n) = meaning.BelowParameter n

abbrev pub variable_of_meaning : Variable → meaning.Variable
variable_of_meaning v = record { indices = v.parameters; sort = sort_of_meaning v.sort }

-- What a game may name: declarations, and its variables with the parameters and the sorts of their first sites. It has no
-- calls.
abbrev pub context_of : List Declaration → Tree → Context
context_of ds game = record { declarations = ds; variables = λ x. option_map variable_of_meaning (first_site x [] game); oracles = λ l. None }

-- Types and parameters.

-- of each binder of a list
unfoldable pub AreDeclared : List Declaration → (ℕ → Sort) → Tree → Type 0
AreDeclared ds sort Empty = Unit {0}
AreDeclared ds sort (Node (Binder x T) a b) = IsDeclared ds (sort_of_meaning (sort T)) × AreDeclared ds sort b
AreDeclared ds sort (Node h a b) = AreDeclared ds sort b

-- those that a node names
abbrev pub NamesDeclared : List Declaration → Head → Tree → Type 0
NamesDeclared ds (Repl i n) a = IsDeclared ds (meaning.BelowParameter n)
NamesDeclared ds (New x T) a = IsDeclared ds (meaning.OfType T)
NamesDeclared ds (Let x T) a = IsDeclared ds (meaning.OfType T)
NamesDeclared ds (In c) a = AreDeclared ds OfType (second a)
NamesDeclared ds Branch a = AreDeclared ds BelowParameter a
NamesDeclared ds h a = Unit {0}

-- the types and parameters that a game names are declared
unfoldable pub HasDeclaredSorts : List Declaration → Tree → Type 0
HasDeclaredSorts ds Empty = Unit {0}
HasDeclaredSorts ds (Node h a b) = NamesDeclared ds h a × HasDeclaredSorts ds a × HasDeclaredSorts ds b

-- Names that are read: a bare one is an index of a replication above, a constant or a variable, one at indices a variable,
-- and one with arguments a function.

abbrev pub is_known : List Declaration → (variable : ℕ → Bool) → Scope → Head → Bool
is_known ds variable rs (Leaf x) = is_index rs x || (is_some (function_in ds x) || variable x)
is_known ds variable rs (Read x) = variable x
is_known ds variable rs (Apply f) = is_some (function_in ds f)
is_known ds variable rs h = true

-- those of a tree that stands below replications
unfoldable pub are_known : List Declaration → (variable : ℕ → Bool) → Scope → Tree → Bool
are_known ds variable rs Empty = true
are_known ds variable rs (Node h a b) = is_known ds variable rs h && (are_known ds variable rs a && are_known ds variable (replications_below h rs) b)

abbrev pub has_site : Tree → ℕ → Bool
has_site game x = is_some (first_site x [] game)

abbrev pub HasKnownNames : List Declaration → Tree → Type 0
HasKnownNames ds game = are_known ds (has_site game) [] game ≡ true

-- What array scope doesn't look at: that what is applied is a function, and that the cells of `defined` lists are of
-- variables.

abbrev pub is_variable_cell : (variable : ℕ → Bool) → Tree → Bool
is_variable_cell variable (Node (Leaf x) a b) = variable x
is_variable_cell variable (Node (Read x) a b) = variable x
is_variable_cell variable t = true

abbrev pub are_variable_cells : (variable : ℕ → Bool) → Tree → Bool
are_variable_cells variable Empty = true
are_variable_cells variable (Node h item more) = is_variable_cell variable item && are_variable_cells variable more

abbrev pub is_named : List Declaration → (variable : ℕ → Bool) → Position → Head → Tree → Bool
is_named ds variable Guards Cons a = are_variable_cells variable a
is_named ds variable w (Apply f) a = is_some (function_in ds f)
is_named ds variable w h a = true

-- of a tree that stands in a position
unfoldable pub are_named : List Declaration → (variable : ℕ → Bool) → Position → Tree → Bool
are_named ds variable w Empty = true
are_named ds variable w (Node h a b) =
    is_named ds variable w h a && (are_named ds variable (first_position w h) a && are_named ds variable (second_position w h) b)

abbrev pub HasNamedFunctionsAndCells : List Declaration → Tree → Type 0
HasNamedFunctionsAndCells ds game = are_named ds (has_site game) Anywhere game ≡ true

-- constants are functions for typing, too
abbrev pub HasConstants : List Declaration → Type 0
HasConstants ds = (x : ℕ) → is_constant_of ds x ≡ true → is_some (function_in ds x) ≡ true

-- the arguments of declared functions are lists of names
unfoldable pub HasArguments : List Declaration → Type 0
HasArguments [] = Unit {0}
HasArguments (Named f c args T ∷ ds) = (args ≡ names (names_in args)) × HasArguments ds
HasArguments (Equation t ∷ ds) = HasArguments ds
HasArguments (Equiv x t ∷ ds) = HasArguments ds
HasArguments (Query t ∷ ds) = HasArguments ds

-- On each tape that is counted a run ends in a store where each variable has values of its type, at indices below their
-- parameters.
abbrev pub HasTypedRuns : List Declaration → Tree → Interpretation → Mode → Adversary → Type 0
HasTypedRuns ds game i m a =
    All (λ t. IsTypedStore (context_of ds game) i (run (setting_of ds i) m a game t).memory.store) (tapes_of (cells (setting_of ds i) m a game) blank)
