-- What the code finds of a name in a list of declarations of a pool.
use Rattle.std.specs.Prelude.{ℕ, Bool, false, drop, List, [], Option, Some, None}
use Rattle.cv_syntax_trees.specs.declared.class.Class.TheVariants.{TypeName, Fun, Event as AnEvent}
use Rattle.cv_syntax.specs.declared.decls.Decl.{Decl}
use Rattle.cv_syntax.specs.declared.decls.Decl.TheVariants as decl
use Rattle.cv_syntax.specs.Classes.{declaration_in, args_in}
use Rattle.cv_syntax.specs.Declarations.{declarations}
use Rattle.cv_syntax.specs.PoolTrees.{tree_at}
use Rattle.cv_pool.specs.declared.node.NodeId.{NodeId}
use Rattle.cv_pool.specs.KindTree.{KindTree}
use Rattle.cv_pool.specs.Nodes.{ChildBelow}
use Rattle.cv_typing.specs.declared.arrays.Arrays.{Arrays}
use Rattle.cv_typing.specs.declared.function.Callee.{Callee}
use Rattle.cv_scope_rules.specs.declared.typing.want.Want.{Want}
use Rattle.cv_scope_rules.specs.declared.typing.want.Want.TheVariants as asked
use Rattle.cv_scope_rules.specs.typing.Signature.{Signature, Function, names_in, variable_in}
use Rattle.cv_syntax_trees.specs.sites.Sites.{Variable}
use Rattle.cv_typing.specs.Tables.{arrays_of}
use Rattle.cv_scope_rules.specs.typing.Wants as wants

-- the lists of arguments are live
abbrev pub HasLiveArguments : ℕ → List Decl → Type 0
HasLiveArguments n ds = (x : ℕ) → ChildBelow n (args_in ds x)

abbrev pub callee_by : Option Decl → Option Callee
callee_by (Some (decl.Name id (Fun d) args (Some T))) = Some (record { arguments = args; result = T.0 })
callee_by d = None

abbrev pub callee_in : List Decl → ℕ → Option Callee
callee_in ds f = callee_by (declaration_in ds f)

abbrev pub event_args_by : Option Decl → Option NodeId
event_args_by (Some (decl.Name id AnEvent args result)) = args
event_args_by d = None

abbrev pub event_args_in : List Decl → ℕ → Option NodeId
event_args_in ds e = event_args_by (declaration_in ds e)

abbrev pub fixed_decl : Option Decl → Bool
fixed_decl (Some (decl.Name id (TypeName fixed large) args result)) = fixed
fixed_decl d = false

abbrev pub function_at : List KindTree → Callee → Function
function_at trees f = record { arguments = names_in (tree_at trees f.arguments); result = f.result }

abbrev pub signature_in : List KindTree → List Decl → Arrays → Signature
signature_in trees ds arrays = record { declarations = declarations trees ds; arrays = arrays_of arrays }

-- what the code asks of a position

abbrev pub parameters_of : Option Variable → List ℕ
parameters_of None = []
parameters_of (Some v) = v.parameters

abbrev pub want_of : List KindTree → Arrays → Want → wants.Want
want_of trees arrays (asked.Run f) = wants.Run f
want_of trees arrays (asked.Branches f) = wants.Branches f
want_of trees arrays (asked.Guarded f) = wants.Guarded f
want_of trees arrays (asked.Tested f) = wants.Tested f
want_of trees arrays asked.Sent = wants.Sent
want_of trees arrays asked.Correspondence = wants.Correspondence
want_of trees arrays asked.Atoms = wants.Atoms
want_of trees arrays asked.NoTerms = wants.NoTerms
want_of trees arrays asked.AnyTerm = wants.AnyTerm
want_of trees arrays asked.AnyIndex = wants.AnyIndex
want_of trees arrays asked.AnyValue = wants.AnyValue
want_of trees arrays (asked.Of S) = wants.Of S
want_of trees arrays asked.AnyMessage = wants.AnyMessage
want_of trees arrays (asked.Message T) = wants.Message T
want_of trees arrays asked.EachTerm = wants.EachTerm
want_of trees arrays asked.EachIndex = wants.EachIndex
want_of trees arrays asked.AllMessages = wants.AllMessages
want_of trees arrays (asked.Messages types) = wants.Messages (names_in (tree_at trees types))
want_of trees arrays (asked.Indices x k) = wants.Indices (drop k (parameters_of (variable_in (arrays_of arrays) x)))

abbrev pub both_wants : List KindTree → Arrays → Want × Want → wants.Want × wants.Want
both_wants trees arrays p = (want_of trees arrays p.0, want_of trees arrays p.1)

-- the list of types that is asked is live
abbrev pub IsLiveWant : ℕ → Want → Type 0
IsLiveWant n (asked.Messages types) = ChildBelow n types
IsLiveWant n w = Unit {0}

abbrev pub AreLiveWants : ℕ → Want × Want → Type 0
AreLiveWants n p = IsLiveWant n p.0 × IsLiveWant n p.1
