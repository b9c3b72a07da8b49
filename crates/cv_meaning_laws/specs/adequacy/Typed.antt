-- The types of terms and of the variables of a game, and stores with values of them.
-- Blanchet, TDSC 2008, section 2; that a type or a parameter counts the values is this profile's own.
use Rattle.std.specs.Prelude.{◌≡◌, ℕ, ◌<◌, ◌⊎◌, ◌==◌, if◌then◌else◌, Bool, List, [], ◌∷◌, ◌++◌, map, Option, Some, None, Contains, MatchBool, MatchOption}
use Rattle.cv_syntax_trees.specs.declared.class.Class.TheVariants as class
use Rattle.cv_syntax_trees.specs.declared.head.Head.TheVariants.{Par, Repl, In, Out, Event, New, Let, If, Find, Branch, Cons, Binder, Key, Call, Leaf, Read, Apply, Eq, And, Or, Not, Yes, No}
use Rattle.cv_syntax_trees.specs.Declarations.{Declaration, Named}
use Rattle.cv_syntax_trees.specs.Tree.{Tree, Empty, Node, first, second, names}
use Rattle.cv_meaning.specs.Tapes.{Tape, New_at}
use Rattle.cv_meaning.specs.Side.{Side, CallNumber, Arrays, OracleCall, OracleAnswer}
use Rattle.cv_meaning.specs.Interpretation.{Interpretation, is_constant_of}
use Rattle.cv_meaning.specs.Memory.{Store, Indices}
use Rattle.cv_meaning.specs.Satisfies.{Satisfies}

-- the values of a type, or the numbers below a parameter
pub data Sort : Type 0 where
  OfType BelowParameter : (name : ℕ) → Sort

abbrev pub boolean : Sort
boolean = OfType 0

-- how many values a sort has
abbrev pub size_of : Interpretation → Sort → ℕ
size_of i (OfType T) = i.type_size T
size_of i (BelowParameter n) = i.parameter_value n

-- the parameters of a variable's indices, and the sort of its values
pub record Variable : Type 0 where
  pub indices : List ℕ
  pub sort : Sort

-- the sorts of the arguments of a call, behind its key, of what the side assigns at it, by name, and of its result
pub record Oracle : Type 0 where
  pub arguments : List Sort
  pub assigned : ℕ → Option Sort
  pub result : Sort

-- what a game may name: declarations, variables, and the oracles that it calls, by site
pub record Context : Type 0 where
  pub declarations : List Declaration
  pub variables : ℕ → Option Variable
  pub oracles : ℕ → Option Oracle

-- the replication indices above a construct with their parameters, outermost first
abbrev pub Scope : Type 0
Scope = List (ℕ × ℕ)

abbrev pub parameter_in : Scope → ℕ → Option ℕ
parameter_in [] x = None
parameter_in (p ∷ ps) x = if p.0 == x then Some p.1 else parameter_in ps x

abbrev pub parameters : Scope → List ℕ
parameters ps = map (λ (p : ℕ × ℕ). p.1) ps

-- terms

-- a function with these types of arguments and this type of results is declared
abbrev pub IsFunction : Context → ℕ → List ℕ → ℕ → Type 0
IsFunction c f Ts T = (data_like : Bool) × Contains c.declarations (Named f (class.Fun data_like) (names Ts) (Some T))

-- a constant, or a variable without indices
abbrev pub NameHasSort : Context → ℕ → Sort → Type 0
NameHasSort c x S =
    MatchBool (is_constant_of c.declarations x)
    ((T : ℕ) × IsFunction c x [] T × (S ≡ OfType T))
    (c.variables x ≡ Some (record { indices = []; sort = S }))

unfoldable mutual
  pub HasSort : Context → Scope → Tree → Sort → Type 0
  HasSort c ps Empty S = ⊥
  HasSort c ps (Node (Leaf x) a b) S = MatchOption (parameter_in ps x) (NameHasSort c x S) (λ n. S ≡ BelowParameter n)
  HasSort c ps (Node (Read x) a b) S =
      (v : Variable) × (c.variables x ≡ Some v) × (S ≡ v.sort) × HaveSorts c ps a (map BelowParameter v.indices)
  HasSort c ps (Node (Apply f) a b) S =
      (Ts : List ℕ) × (T : ℕ) × IsFunction c f Ts T × (S ≡ OfType T) × HaveSorts c ps a (map OfType Ts)
  HasSort c ps (Node Eq a b) S = (S ≡ boolean) × (R : Sort) × HasSort c ps a R × HasSort c ps b R
  HasSort c ps (Node And a b) S = (S ≡ boolean) × HasSort c ps a boolean × HasSort c ps b boolean
  HasSort c ps (Node Or a b) S = (S ≡ boolean) × HasSort c ps a boolean × HasSort c ps b boolean
  HasSort c ps (Node Not a b) S = (S ≡ boolean) × HasSort c ps a boolean
  HasSort c ps (Node Yes a b) S = S ≡ boolean
  HasSort c ps (Node No a b) S = S ≡ boolean
  HasSort c ps (Node h a b) S = ⊥

  -- each term of a list has the sort in its place
  pub HaveSorts : Context → Scope → Tree → List Sort → Type 0
  HaveSorts c ps Empty [] = Unit {0}
  HaveSorts c ps (Node h a b) (S ∷ Ss) = HasSort c ps a S × HaveSorts c ps b Ss
  HaveSorts c ps _ _ = ⊥

-- each term of a list has a sort
abbrev pub HaveSomeSorts : Context → Scope → Tree → Type 0
HaveSomeSorts c ps ms = (Ss : List Sort) × HaveSorts c ps ms Ss

-- games

-- a variable with values of a sort, at the indices of the scope
abbrev pub IsVariable : Context → Scope → ℕ → Sort → Type 0
IsVariable c ps x S = c.variables x ≡ Some (record { indices = parameters ps; sort = S })

-- the same for each of a list of binders
abbrev pub AreVariables : Context → Scope → (ℕ → Sort) → Tree → Type 0
AreVariables c ps sort (Node (Binder x T) a b) = IsVariable c ps x (sort T) × AreVariables c ps sort b
AreVariables c ps sort Empty = Unit {0}
AreVariables c ps sort _ = ⊥

-- a list of branches
abbrev pub AreBranches : Tree → Type 0
AreBranches Empty = Unit {0}
AreBranches (Node Cons (Node Branch a b) more) = AreBranches more
AreBranches _ = ⊥

-- what each construct of a game asks of its variables and its terms
unfoldable pub IsTyped : Context → Scope → Tree → Type 0
IsTyped c ps (Node (Repl i n) a b) = IsTyped c (ps ++ (i, n) ∷ []) b
IsTyped c ps (Node Par a b) = IsTyped c ps a × IsTyped c ps b
IsTyped c ps (Node (In x) a b) = AreVariables c ps OfType (second a) × IsTyped c ps b
IsTyped c ps (Node (Out x) a b) = HaveSomeSorts c ps (second a) × IsTyped c ps b
IsTyped c ps (Node (Event e) a b) = HaveSomeSorts c ps a × IsTyped c ps b
IsTyped c ps (Node (New x T) a b) = IsVariable c ps x (OfType T) × IsTyped c ps b
IsTyped c ps (Node (Let x T) a b) = IsVariable c ps x (OfType T) × HasSort c ps a (OfType T) × IsTyped c ps b
IsTyped c ps (Node If a b) = HasSort c ps a boolean × IsTyped c ps b
IsTyped c ps (Node (Find l) a b) = AreBranches a × IsTyped c ps a × IsTyped c ps b
IsTyped c ps (Node Branch a b) =
    AreVariables c ps BelowParameter a × HaveSomeSorts c ps (first b) × HasSort c ps (first (second b)) boolean × IsTyped c ps b
IsTyped c ps (Node (Key x) a b) = ((S : Sort) × IsVariable c ps x S) × IsTyped c ps b
IsTyped c ps (Node (Call x l) a b) =
    ((O : Oracle) × (c.oracles l ≡ Some O) × IsVariable c ps x O.result × HaveSorts c ps (second a) O.arguments) × HaveSomeSorts c ps a × IsTyped c ps b
IsTyped c ps (Node Cons a b) = IsTyped c ps a × IsTyped c ps b
IsTyped c ps _ = Unit {0}

-- each restriction is of the type of its variable
unfoldable pub HasTypedRestrictions : Context → Tree → Type 0
HasTypedRestrictions c Empty = Unit {0}
HasTypedRestrictions c (Node (New x T) a b) =
    ((V : Variable) → c.variables x ≡ Some V → V.sort ≡ OfType T) × HasTypedRestrictions c a × HasTypedRestrictions c b
HasTypedRestrictions c (Node h a b) = HasTypedRestrictions c a × HasTypedRestrictions c b

-- values

-- a type or a parameter that is declared, or `bool`
abbrev pub IsDeclared : List Declaration → Sort → Type 0
IsDeclared ds (OfType T) =
    (T ≡ 0)
    ⊎ ((fixed large : Bool) × (arguments : Tree) × (result : Option ℕ) × Contains ds (Named T (class.TypeName fixed large) arguments result))
IsDeclared ds (BelowParameter n) =
    (arguments : Tree) × (result : Option ℕ) × Contains ds (Named n class.Param arguments result)

-- the interpretation satisfies the declarations, and the sorts of variables are declared
pub record IsModel (c : Context) (i : Interpretation) : Type 0 where
  pub satisfies : Satisfies c.declarations i
  pub variables : (x : ℕ) (v : Variable) → c.variables x ≡ Some v → IsDeclared c.declarations v.sort

-- each value is of the sort in its place
abbrev pub AreOf : Interpretation → List Sort → List ℕ → Type 0
AreOf i [] [] = Unit {0}
AreOf i (S ∷ Ss) (v ∷ vs) = (v < size_of i S) × AreOf i Ss vs
AreOf i _ _ = ⊥

-- what a side has assigned at a call has values of its sorts
abbrev pub AreTypedArrays : Context → Interpretation → Arrays → Type 0
AreTypedArrays c i arrays =
    (x : ℕ) (key : List ℕ) (number : CallNumber) (O : Oracle) (S : Sort) (v : ℕ) → c.oracles number.site ≡ Some O → O.assigned x ≡ Some S →
    arrays x key number ≡ Some v → v < size_of i S

-- an answer with a value of a sort, and with such arrays
pub record IsAnswer (c : Context) (i : Interpretation) (S : Sort) (r : OracleAnswer) : Type 0 where
  pub value : r.value < size_of i S
  pub arrays : AreTypedArrays c i r.arrays

-- On a tape a call with arguments of their sorts, and with such arrays, is answered by a value of the sort of its
-- result, and with such arrays.
abbrev pub KeepsSorts : Context → Interpretation → Side → Tape → Type 0
KeepsSorts c i side t =
    (arrays : Arrays) (call : OracleCall) (O : Oracle) → AreTypedArrays c i arrays → c.oracles call.number.site ≡ Some O →
    AreOf i O.arguments call.arguments → IsAnswer c i O.result (side.reply t arrays call)

-- of a game, which calls no oracle
abbrev pub HasNoOracles : Context → Type 0
HasNoOracles c = (site : ℕ) → c.oracles site ≡ None

-- a number below its parameter for each index
abbrev pub AreBelowParameters : Interpretation → List ℕ → List ℕ → Type 0
AreBelowParameters i [] [] = Unit {0}
AreBelowParameters i (n ∷ ns) (v ∷ vs) = (v < i.parameter_value n) × AreBelowParameters i ns vs
AreBelowParameters i _ _ = ⊥

-- the current indices are those of the scope
abbrev pub AreIndicesOf : Interpretation → Scope → Indices → Type 0
AreIndicesOf i [] [] = Unit {0}
AreIndicesOf i (p ∷ ps) (v ∷ vs) = (v.0 ≡ p.0) × (v.1 < i.parameter_value p.1) × AreIndicesOf i ps vs
AreIndicesOf i _ _ = ⊥

-- each variable has values of its sort alone, and at indices below their parameters alone
abbrev pub IsTypedStore : Context → Interpretation → Store → Type 0
IsTypedStore c i m =
    (x : ℕ) (V : Variable) (u : List ℕ) (v : ℕ) → c.variables x ≡ Some V → m x u ≡ Some v →
    AreBelowParameters i V.indices u × (v < size_of i V.sort)

-- the cells of restrictions have values of the sorts of their variables
abbrev pub IsTypedTape : Context → Interpretation → Tape → Type 0
IsTypedTape c i t = (x : ℕ) (V : Variable) (u : List ℕ) → c.variables x ≡ Some V → t (New_at x u) < size_of i V.sort

-- no cell of a call is a restriction's
abbrev pub LeavesRestrictions : Side → Type 0
LeavesRestrictions side = (number : CallNumber) (x n : ℕ) (u : List ℕ) → ¬ Contains (side.cells number) (New_at x u, n)
