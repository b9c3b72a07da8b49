-- Small games and files with their first faults.
use Rattle.std.specs.Prelude.{ℕ, true, false, List, [], ◌∷◌, ◌++◌, Option, Some, None}
use Rattle.cv_syntax_trees.specs.declared.class.Class.TheVariants as class
use Rattle.cv_syntax_trees.specs.declared.head.Head.TheVariants.{Stop, Yield, Par, Repl, In, Out, Event, New, Let, If, Find, Branch, Leaf, Read, Apply, Eq, And, Or, Not, Yes, No, Cons, Forall, Query as Correspondence, Occurs, SomeOf, Secret, Equivalence, Bound, Oracle}
use Rattle.cv_syntax_trees.specs.Declarations.{Declaration, Named, Equation, Equiv, Query}
use Rattle.cv_syntax_trees.specs.Tree.{Tree, Empty, Node, lone, chain, names, binders}
use Rattle.cv_scope_rules.specs.declared.typing.fault.Fault.{Fault}
use Rattle.cv_scope_rules.specs.declared.typing.fault.Fault.TheVariants.{WrongType, Arity, IndexAsMessage, NotFixed}
use Rattle.cv_scope_rules.specs.typing.Parts.{file_parts, first_in}

-- type T [fixed]. type U. param N, M. channel d. fun f(T): T. fun g(T, U): bool. const k: T. event e(T). event q. proba P.
abbrev T : ℕ
T = 1

abbrev U : ℕ
U = 2

abbrev N : ℕ
N = 3

abbrev M : ℕ
M = 4

abbrev f : ℕ
f = 6

abbrev g : ℕ
g = 7

abbrev k : ℕ
k = 8

abbrev e : ℕ
e = 9

abbrev q : ℕ
q = 10

abbrev declared : List Declaration
declared =
    Named 0 (class.TypeName true false) Empty None
    ∷ Named T (class.TypeName true false) Empty None
    ∷ Named U (class.TypeName false false) Empty None
    ∷ Named N class.Param Empty None
    ∷ Named M class.Param Empty None
    ∷ Named 5 class.Channel Empty None
    ∷ Named f (class.Fun false) (names (T ∷ [])) (Some T)
    ∷ Named g (class.Fun false) (names (T ∷ U ∷ [])) (Some 0)
    ∷ Named k (class.Fun false) Empty (Some T)
    ∷ Named e class.Event (names (T ∷ [])) None
    ∷ Named q class.Event Empty None
    ∷ Named 11 class.Proba Empty None
    ∷ []

-- variables x and y, indices i, j, and a name that is nowhere defined
abbrev x : ℕ
x = 20

abbrev y : ℕ
y = 21

abbrev i : ℕ
i = 30

abbrev j : ℕ
j = 31

abbrev u : ℕ
u = 32

abbrev nowhere : ℕ
nowhere = 40

abbrev bare : ℕ → Tree
bare v = lone (Leaf v)

abbrev cell : ℕ → List Tree → Tree
cell v l = Node (Read v) (chain l) Empty

abbrev call : ℕ → List Tree → Tree
call h l = Node (Apply h) (chain l) Empty

abbrev equal : Tree → Tree → Tree
equal l r = Node Eq l r

abbrev yes : Tree
yes = lone Yes

-- processes

abbrev done : Tree
done = lone Yield

abbrev input : List (ℕ × ℕ) → Tree → Tree
input bs t = Node (In 5) (Node Cons Empty (binders bs)) t

abbrev output : List Tree → Tree
output ts = Node (Out 5) (Node Cons Empty (chain ts)) (lone Stop)

abbrev copies : ℕ → ℕ → Tree → Tree
copies a n t = Node (Repl a n) Empty t

abbrev chosen : ℕ → ℕ → Tree → Tree
chosen v S t = Node (New v S) Empty t

abbrev assigned : ℕ → ℕ → Tree → Tree → Tree
assigned v S m t = Node (Let v S) m t

abbrev recorded : ℕ → List Tree → Tree → Tree
recorded v l t = Node (Event v) (chain l) t

abbrev test : Tree → Tree → Tree → Tree
test m t s = Node If m (chain (t ∷ s ∷ []))

abbrev search : List (ℕ × ℕ) → List Tree → Tree → Tree → Tree → Tree
search bs cells m t s = Node (Find 1) (chain (Node Branch (binders bs) (Node Cons (chain cells) (Node Cons m t)) ∷ [])) s

-- in(d, (x: T, y: U)); ..
abbrev received : Tree → Tree
received t = input ((x, T) ∷ (y, U) ∷ []) t

-- !i <= N in(d, (x: T)); ..
abbrev copied : Tree → Tree
copied t = copies i N (input ((x, T) ∷ []) t)

-- !i <= N in(d, (x: T)); yield | !j <= M in(d, ()); ..
abbrev beside : Tree → Tree
beside t = Node Par (copied done) (copies j M (input [] t))

abbrev fault_in : List Declaration → Tree → Option (ℕ × Fault)
fault_in ds game = first_in (declared ++ ds) 0 (file_parts (declared ++ ds) game)

abbrev none : Option (ℕ × Fault)
none = None

abbrev at : ℕ → Fault → Option (ℕ × Fault)
at p r = Some (p, r)

-- games, each with the place and the fault of its first node that breaks a rule
abbrev pub games : List (Tree × Option (ℕ × Fault))
games =
    (lone Stop, none)
    ∷ (received (output (bare x ∷ bare y ∷ bare k ∷ [])), none)
    ∷ (received (chosen 22 T done), none)
    -- a type that isn't fixed
    ∷ (received (chosen 22 U done), at 1 NotFixed)
    -- a term of another type
    ∷ (received (assigned 22 T (bare y) done), at 2 WrongType)
    ∷ (received (assigned 22 T (call f (bare x ∷ [])) done), none)
    ∷ (received (assigned 22 T (call f (bare y ∷ [])) done), at 3 WrongType)
    ∷ (received (test (call g (bare x ∷ bare y ∷ [])) done done), none)
    ∷ (received (test (call g (bare x ∷ bare x ∷ [])) done done), at 4 WrongType)
    -- a condition that isn't of type `bool`
    ∷ (received (test (bare x) done done), at 2 WrongType)
    ∷ (received (test (Node Not (bare x) Empty) done done), at 3 WrongType)
    ∷ (received (test (Node And yes (bare x)) done done), at 4 WrongType)
    ∷ (received (test (Node Or (bare x) yes) done done), at 3 WrongType)
    ∷ (copied (test (bare i) done done), at 3 WrongType)
    -- two types in one equation
    ∷ (received (test (equal (bare x) (bare k)) done done), none)
    ∷ (received (test (equal (bare x) (bare y)) done done), at 4 WrongType)
    -- numbers of arguments and indices
    ∷ (received (output (call f (bare x ∷ bare x ∷ []) ∷ [])), at 2 Arity)
    ∷ (received (output (call f [] ∷ [])), at 2 Arity)
    ∷ (received (output (bare f ∷ [])), at 2 Arity)
    ∷ (received (output (call k (bare x ∷ []) ∷ [])), at 2 Arity)
    ∷ (received (recorded e (bare x ∷ []) done), none)
    ∷ (received (recorded e [] done), at 1 Arity)
    ∷ (received (recorded q (bare x ∷ []) done), at 1 Arity)
    ∷ (received (recorded e (bare y ∷ []) done), at 2 WrongType)
    ∷ (copied (output (cell x (bare i ∷ []) ∷ [])), none)
    ∷ (copied (output (bare x ∷ [])), at 3 Arity)
    ∷ (copied (output (cell x (bare i ∷ bare i ∷ []) ∷ [])), at 3 Arity)
    -- a read with an index of another parameter, or with a value
    ∷ (beside (output (cell x (bare j ∷ []) ∷ [])), at 8 WrongType)
    ∷ (copied (output (cell x (cell x (bare i ∷ []) ∷ []) ∷ [])), at 4 WrongType)
    -- an index where a value is sent
    ∷ (copied (output (bare i ∷ [])), at 3 IndexAsMessage)
    ∷ (copied (output (call f (bare i ∷ []) ∷ [])), at 4 IndexAsMessage)
    ∷ (copied (recorded e (bare i ∷ []) done), at 3 IndexAsMessage)
    ∷ (copied (assigned 22 T (bare i) done), at 3 IndexAsMessage)
    -- indices are compared
    ∷ (copied (test (equal (bare i) (bare i)) done done), none)
    ∷ (copies i N (copies j M (input [] (test (equal (bare i) (bare j)) done done))), at 6 WrongType)
    -- sites of one variable with two types, and with one
    ∷ (received (test yes (chosen 22 T done) (assigned 22 U (bare y) done)), at 5 WrongType)
    ∷ (received (test yes (chosen 22 T done) (assigned 22 T (bare k) done)), none)
    -- searches
    ∷ (beside (search ((u, N) ∷ []) (cell x (cell u (bare j ∷ []) ∷ []) ∷ []) (equal (cell x (cell u (bare j ∷ []) ∷ [])) (bare k)) (output (cell x (cell u (bare j ∷ []) ∷ []) ∷ [])) done), none)
    ∷ (beside (search ((u, M) ∷ []) (cell x (cell u (bare j ∷ []) ∷ []) ∷ []) yes done done), at 9 WrongType)
    ∷ (beside (search ((u, N) ∷ []) [] (bare k) done done), at 8 WrongType)
    ∷ (beside (search ((u, N) ∷ []) [] yes (output (cell u (bare j ∷ []) ∷ [])) done), at 10 IndexAsMessage)
    ∷ (beside (search [] [] yes done (recorded e [] done)), at 10 Arity)
    -- the first of two faults; the branch `else`
    ∷ (received (test (bare x) (chosen 22 U done) done), at 2 WrongType)
    ∷ (received (test yes done (chosen 22 U done)), at 4 NotFixed)
    -- of a name that is nowhere defined nothing is asked; an index out of its scope stays an index
    ∷ (received (recorded e (bare nowhere ∷ []) done), none)
    ∷ (Node Par (copies i N (lone Stop)) (input [] (output (bare i ∷ []))), at 5 IndexAsMessage)
    ∷ []

abbrev equation : List (ℕ × ℕ) → Tree → Declaration
equation bs t = Equation (Node Forall (binders bs) t)

abbrev query : List (ℕ × ℕ) → Tree → List Tree → Declaration
query bs t ts = Query (Node Correspondence (binders bs) (Node Cons t (chain ts)))

abbrev happens : ℕ → List Tree → Tree
happens v ts = Node (Occurs v) (chain ts) Empty

abbrev either : Tree → Tree → Tree
either a b = Node SomeOf a b

-- x: T, y: U; event e(x) ==> ..
abbrev query_some : Tree → Declaration
query_some right = Query (Node Correspondence (binders ((x, T) ∷ (y, U) ∷ [])) (Node Cons (happens e (bare x ∷ [])) right))

-- !n1 new r: T; (O1: !m1 (z: U) -> .. | O2: !m2 new s: T; (w: U) -> ..)
abbrev side : Tree → Tree → Tree
side t s =
    Node (Bound 50 51) (binders ((52, T) ∷ [])) (chain (
    Node (Oracle 53) (Node (Bound 54 55) Empty (binders ((56, U) ∷ []))) t
    ∷ Node (Oracle 57) (Node (Bound 58 59) (binders ((60, T) ∷ [])) (binders ((61, U) ∷ []))) s
    ∷ []
    ))

abbrev equivalence : Tree → Tree → Tree → Tree → Declaration
equivalence t s t2 s2 = Equiv 12 (Node (Equivalence 11) (side t s) (side t2 s2))

-- !n1 new r: T; (O1: !m1 new ..; (..) -> ..)
abbrev alone : (coins arguments : List (ℕ × ℕ)) → Tree → Tree
alone coins arguments t =
    Node (Bound 50 51) (binders ((52, T) ∷ [])) (chain (Node (Oracle 53) (Node (Bound 54 55) (binders coins) (binders arguments)) t ∷ []))

abbrev lone_equivalence : (coins arguments : List (ℕ × ℕ)) → Tree → Tree → Declaration
lone_equivalence coins arguments t s = Equiv 12 (Node (Equivalence 11) (alone coins arguments t) (alone [] arguments s))

-- files with the process 0, each with its first fault
abbrev pub files : List (List Declaration × Option (ℕ × Fault))
files =
    (equation ((x, T) ∷ []) (equal (call f (bare x ∷ [])) (bare x)) ∷ [], none)
    ∷ (equation ((x, T) ∷ []) (call f (bare x ∷ [])) ∷ [], at 0 WrongType)
    ∷ (equation ((x, T) ∷ []) (equal (bare x) (cell x (bare x ∷ []))) ∷ [], at 2 Arity)
    -- the first of two binders counts
    ∷ (equation ((x, T) ∷ (x, U) ∷ []) (equal (bare x) (bare k)) ∷ [], none)
    ∷ (equation [] yes ∷ equation ((x, U) ∷ []) (equal (bare k) (bare x)) ∷ [], at 3 WrongType)
    ∷ (query ((x, T) ∷ []) (happens e (bare x ∷ [])) (happens q [] ∷ []) ∷ [], none)
    ∷ (query ((x, T) ∷ []) (happens e (bare x ∷ [])) (happens e [] ∷ []) ∷ [], at 1 Arity)
    ∷ (query ((x, U) ∷ []) (happens e (bare x ∷ [])) (happens q [] ∷ []) ∷ [], at 0 WrongType)
    ∷ (query ((x, T) ∷ []) (happens e (bare x ∷ [])) (bare x ∷ []) ∷ [], at 1 WrongType)
    ∷ (Query (lone (Secret x)) ∷ [], none)
    -- alternatives, at the top and in parentheses
    ∷ (query_some (either (happens e (bare x ∷ [])) (happens q [])) ∷ [], none)
    ∷ (query_some (either (happens e (bare x ∷ [])) (happens e (bare y ∷ []))) ∷ [], at 2 WrongType)
    ∷ (query_some (either (happens q []) (chain (happens e (bare x ∷ []) ∷ bare x ∷ []))) ∷ [], at 2 WrongType)
    ∷ (query_some (either (happens q []) (either (happens e (bare x ∷ [])) (happens e []))) ∷ [], at 2 Arity)
    ∷ (query_some (chain (equal (bare x) (bare x) ∷ either (happens e (bare x ∷ [])) (happens e (bare y ∷ [])) ∷ [])) ∷ [], at 5 WrongType)
    -- the results of a function have one type on both sides
    ∷ (equivalence (bare 52) (call g (bare 60 ∷ bare 61 ∷ [])) (bare k) yes ∷ [], none)
    ∷ (equivalence (bare 52) (call g (bare 60 ∷ bare 61 ∷ [])) (bare 56) yes ∷ [], at 4 WrongType)
    ∷ (equivalence (bare 52) (call g (bare 60 ∷ bare 60 ∷ [])) (bare k) yes ∷ [], at 3 WrongType)
    -- `new` of a type that isn't fixed, on the right
    ∷ (equivalence (bare 52) yes (chosen 62 T (bare 62)) yes ∷ [], none)
    ∷ (equivalence (bare 52) yes (chosen 62 U (bare k)) yes ∷ [], at 2 NotFixed)
    -- a search in what the calls of another function have got
    ∷ (equivalence (bare 52) yes (bare k) (search ((63, 55) ∷ []) (cell 56 (bare 63 ∷ []) ∷ []) (equal (bare 61) (cell 56 (bare 63 ∷ []))) yes (lone No)) ∷ [], none)
    ∷ (equivalence (bare 52) yes (bare k) (search ((63, 55) ∷ []) (cell 56 (bare 63 ∷ []) ∷ []) (equal (bare k) (cell 56 (bare 63 ∷ []))) yes (lone No)) ∷ [], at 9 WrongType)
    ∷ (equivalence (bare 52) yes (bare k) (search ((63, 55) ∷ []) [] yes (bare 63) yes) ∷ [], at 6 WrongType)
    ∷ (equivalence (bare 52) yes (bare k) (search ((63, 55) ∷ []) (cell 56 (bare 63 ∷ bare 63 ∷ []) ∷ []) yes yes yes) ∷ [], at 5 Arity)
    -- of a free name nothing is asked
    ∷ (equivalence (bare 52) yes (bare nowhere) (bare 56) ∷ [], none)
    -- a name has one type wherever a function binds it: by two `new`, by an argument and a `let`, by an argument and a `new`
    ∷ (equivalence (bare 52) yes (test yes (chosen 62 T (bare 62)) (chosen 62 T (bare k))) yes ∷ [], none)
    ∷ (equivalence (bare 52) yes (test yes (chosen 62 T (bare 62)) (chosen 62 0 (bare k))) yes ∷ [], at 6 WrongType)
    ∷ (equivalence (bare 52) yes (assigned 56 U (bare 56) (bare k)) yes ∷ [], none)
    ∷ (equivalence (bare 52) yes (assigned 56 T (bare k) (bare 56)) yes ∷ [], at 2 WrongType)
    ∷ (equivalence (bare 52) yes (chosen 56 T (bare 56)) yes ∷ [], at 2 WrongType)
    -- another function may give it another type, the key's name may be bound again with any, and so may an index
    ∷ (equivalence (bare 52) yes (chosen 62 T (bare 62)) (chosen 62 0 (bare 62)) ∷ [], none)
    ∷ (equivalence (bare 52) yes (bare k) (chosen 52 0 (bare 52)) ∷ [], none)
    ∷ (equivalence (bare 52) yes (chosen 62 T (search ((62, 55) ∷ []) [] yes (bare k) (bare 62))) yes ∷ [], none)
    -- the newest of two bindings is meant: the key's name bound again, a coin, an argument or an index
    ∷ (equivalence (bare 52) yes (chosen 52 0 (bare 52)) yes ∷ [], at 3 WrongType)
    ∷ (lone_equivalence ((60, T) ∷ []) ((60, U) ∷ []) (call g (bare 52 ∷ bare 60 ∷ [])) yes ∷ [], none)
    ∷ (lone_equivalence ((60, T) ∷ []) ((60, U) ∷ []) (call g (bare 60 ∷ bare 60 ∷ [])) yes ∷ [], at 1 WrongType)
    ∷ (lone_equivalence [] ((60, U) ∷ (60, T) ∷ []) (bare 60) (chosen 60 T (bare 60)) ∷ [], none)
    ∷ (lone_equivalence [] ((60, T) ∷ (60, U) ∷ []) (bare k) (chosen 60 T (bare 60)) ∷ [], at 1 WrongType)
    ∷ (equivalence (bare 52) yes (chosen 62 T (search ((62, 55) ∷ []) [] yes (bare 62) (bare 62))) yes ∷ [], at 6 WrongType)
    -- where a name isn't bound above, it has the type that its function gives it
    ∷ (equivalence (bare 52) yes (bare k) (test yes (chosen 62 T yes) (call g (bare 62 ∷ bare 62 ∷ []))) ∷ [], at 9 WrongType)
    ∷ []

abbrev pub game_fault : Tree → Option (ℕ × Fault)
game_fault game = fault_in [] game

abbrev pub file_fault : List Declaration → Option (ℕ × Fault)
file_fault ds = fault_in ds (lone Stop)
