-- Certificates with the first condition of each that fails. Names are numbers: 0 is `bool`, 5 a type, 2 a parameter; 1, 7 and 14 are
-- indices; 3, 6, 8 and 15 are channels, 11 to 13 events, 4, 9 and 10 variables, and 21 and 22 variables of a query.
use Rattle.std.specs.Prelude.{ℕ, true, false, nat_lt, List, [], ◌∷◌, Option, Some, None}
use Rattle.cv_syntax_trees.specs.declared.class.Class.TheVariants as class
use Rattle.cv_syntax_trees.specs.declared.head.Head.TheVariants as head
use Rattle.cv_syntax_trees.specs.declared.head.Head.TheVariants.{AboveRoute, AtEntry, ByAgain, ByBool, ByFact, ByHere, ByRefl, BySite, BySym, ByTrans, CellRoute, Cons, Defined, DistinctPart, Eq, EventsCertificate, HoldsRoute, If, Let, Line, Name, NeverEntry, New, Number, Pair, Par, Repl, SecretCertificate, Stop, WithEntry, Yes, Yield}
use Rattle.cv_syntax_trees.specs.Builders.{branch, correspondence, event, find, input, leaf, occurs, output, read}
use Rattle.cv_syntax_trees.specs.Declarations.{Declaration, Named}
use Rattle.cv_syntax_trees.specs.Tree.{Tree, Empty, Node, chain, lone, names}
use Rattle.cv_scene.specs.Scenes.{Scene}
use Rattle.cv_query_certificates.specs.Failures.{Failure}

abbrev pub declarations : List Declaration
declarations =
    Named 0 (class.TypeName true false) Empty None
    ∷ Named 5 (class.TypeName true false) Empty None
    ∷ Named 2 class.Param Empty None
    ∷ Named 11 class.Event (names (5 ∷ [])) None
    ∷ Named 12 class.Event (names (5 ∷ [])) None
    ∷ Named 13 class.Event (names (5 ∷ [])) None
    ∷ []

abbrev pub scene_of : Tree → Scene
scene_of game = record { declarations = declarations; known = λ y. nat_lt y 100; game = game }

abbrev pub eq : Tree → Tree → Tree
eq m n = Node Eq m n

abbrev pub number : ℕ → Tree
number n = lone (Number n)

-- certificates

abbrev pub line : (term reason : Tree) → Tree
line t r = Node Line t r

abbrev pub reflexive : Tree → Tree
reflexive m = line (eq m m) (lone ByRefl)

abbrev pub events : List Tree → Tree
events parts = Node EventsCertificate (chain parts) Empty

abbrev pub never : (place : ℕ) → (lines : List Tree) → Tree
never p ls = Node AtEntry (number p) (Node NeverEntry (chain ls) Empty)

abbrev pub entry : (place : ℕ) → (witnesses routes : List Tree) → Tree
entry p ws rs = Node AtEntry (number p) (Node WithEntry (chain ws) (chain rs))

abbrev pub above : (place : ℕ) → (lines : List Tree) → Tree
above q ls = Node AboveRoute (number q) (chain ls)

abbrev pub by_cell : (cell : Tree) → (place : ℕ) → (lines : List Tree) → Tree
by_cell c q ls = Node CellRoute c (Node Cons (number q) (chain ls))

abbrev pub holds : (lines : List Tree) → Tree
holds ls = Node HoldsRoute (chain ls) Empty

abbrev pub pair : (p q atom : ℕ) → Tree
pair p q c = Node Pair (number p) (Node Cons (number q) (Node Cons (number c) Empty))

abbrev pub distinct : ℕ → Tree
distinct x = Node DistinctPart (chain (lone (Name x) ∷ [])) Empty

-- event 12(21) ==> event 11(21); the same with `inj`; event 12(21) ==> event 11(22); and event 12(21) ==> 21 = 21

abbrev pub asks : List Tree → Tree
asks atoms = correspondence ((21, 5) ∷ (22, 5) ∷ []) (occurs false 12 (leaf 21 ∷ [])) atoms

abbrev pub begun : Tree
begun = asks (occurs false 11 (leaf 21 ∷ []) ∷ [])

abbrev pub begun_once : Tree
begun_once = correspondence ((21, 5) ∷ []) (occurs true 12 (leaf 21 ∷ [])) (occurs true 11 (leaf 21 ∷ []) ∷ [])

abbrev pub some_begun : Tree
some_begun = asks (occurs false 11 (leaf 22 ∷ []) ∷ [])

abbrev pub same : Tree
same = asks (eq (leaf 21) (leaf 21) ∷ [])

-- in(3, ()); new 4: 5; event 11(4); event 12(4); out(6, (4)); 0

abbrev pub direct_game : Tree
direct_game = input 3 [] [] (Node (New 4 5) Empty (event 11 (leaf 4 ∷ []) (event 12 (leaf 4 ∷ []) (output 6 [] (leaf 4 ∷ []) (lone Stop)))))

abbrev pub direct : Scene
direct = scene_of direct_game

abbrev pub x : Tree
x = leaf 4

-- it is accepted that the event at 2 stands above that at 4
abbrev pub direct_entry : Tree
direct_entry = entry 4 [] (above 2 (reflexive x ∷ []) ∷ [])

abbrev pub is_true : Tree
is_true = line (lone Yes) (lone ByBool)

-- a query, a certificate, and the condition that fails first

abbrev pub Case : Type 0
Case = Option Tree × Tree × Option Failure

abbrev pub fails : ℕ → ℕ → Option Failure
fails n p = Some (record { condition = n; place = p })

abbrev pub direct_cases : List Case
direct_cases =
    (Some begun, events (direct_entry ∷ []), None)
    ∷ (Some some_begun, events (entry 4 (x ∷ []) (above 2 (reflexive x ∷ []) ∷ []) ∷ []), None)
    ∷ (Some same, events (entry 4 [] (holds (reflexive x ∷ []) ∷ []) ∷ []), None)
    ∷ (None, events (direct_entry ∷ []), fails 1 0)
    ∷ (Some begun, lone SecretCertificate, fails 2 4)
    ∷ (Some begun, events [], fails 2 4)
    ∷ (Some begun, events (entry 4 [] [] ∷ []), fails 2 4)
    ∷ (Some begun, events (entry 4 [] (above 4 (reflexive x ∷ []) ∷ []) ∷ []), fails 2 4)
    ∷ (Some begun, events (entry 4 (x ∷ []) (above 2 (reflexive x ∷ []) ∷ []) ∷ []), fails 2 4)
    ∷ (Some begun, events (direct_entry ∷ direct_entry ∷ []), fails 2 4)
    ∷ (Some begun, events (never 4 (line (lone head.No) (lone ByRefl) ∷ []) ∷ []), fails 3 4)
    ∷ (Some begun, events (never 4 (is_true ∷ []) ∷ []), fails 4 4)
    ∷ (Some begun, events (entry 4 [] (above 2 (is_true ∷ []) ∷ []) ∷ []), fails 4 4)
    ∷ (Some begun, events (direct_entry ∷ pair 4 4 1 ∷ []), fails 5 4)
    ∷ (Some begun, events (direct_entry ∷ distinct 4 ∷ []), fails 6 1)
    ∷ (Some begun, events (direct_entry ∷ distinct 77 ∷ []), fails 6 0)
    ∷ (Some begun_once, events (direct_entry ∷ []), fails 5 4)
    ∷ (Some begun_once, events (direct_entry ∷ pair 4 4 1 ∷ []), None)
    ∷ (Some begun_once, events (direct_entry ∷ pair 3 4 1 ∷ []), fails 5 3)
    ∷ (Some begun_once, events (direct_entry ∷ pair 4 4 2 ∷ []), fails 5 4)
    ∷ (Some begun_once, events (direct_entry ∷ pair 4 4 1 ∷ pair 9 9 1 ∷ []), fails 5 9)
    ∷ []

-- !1 <= 2 in(3[1], (9: 5)); event 11(9[1]); of 4: 5 = 9[1] one definition or two
-- | !7 <= 2 in(8[7], (10: 5)); find 14 <= 2 suchthat defined(4[14[7]]) && 4[14[7]] = 10[7] then event 12(10[7]); .. else yield

abbrev pub a : Tree
a = read 9 (leaf 1 ∷ [])

abbrev pub b : Tree
b = read 10 (leaf 7 ∷ [])

abbrev pub u : Tree
u = read 14 (leaf 7 ∷ [])

abbrev pub xu : Tree
xu = read 4 (u ∷ [])

abbrev pub au : Tree
au = read 9 (u ∷ [])

abbrev pub defines : Tree
defines = Node (Let 4 5) a (output 6 (1 ∷ []) (read 4 (leaf 1 ∷ []) ∷ []) (lone Stop))

abbrev pub searching : Tree
searching =
    Node (Repl 7 2) Empty (input 8 (7 ∷ []) ((10, 5) ∷ [])
    (find 1 (branch ((14, 2) ∷ []) (xu ∷ []) (eq xu b) (event 12 (b ∷ []) (output 15 (7 ∷ []) [] (lone Stop))) ∷ []) (lone Yield)))

abbrev pub cell_game : Tree → Tree
cell_game defining = Node Par (Node (Repl 1 2) Empty (input 3 (1 ∷ []) ((9, 5) ∷ []) (event 11 (a ∷ []) defining))) searching

abbrev pub one_site : Scene
one_site = scene_of (cell_game defines)

abbrev pub two_sites : Scene
two_sites = scene_of (cell_game (Node If (lone Yes) (chain (defines ∷ defines ∷ []))))

abbrev pub cell_lines : List Tree
cell_lines =
    Node Defined xu (lone ByHere)
    ∷ line (eq xu au) (Node BySite (number 1) (number 1))
    ∷ line (eq xu b) (Node ByFact (number 1) Empty)
    ∷ line (eq au xu) (Node BySym (number 2) Empty)
    ∷ Node Defined xu (Node ByAgain (number 1) Empty)
    ∷ line (eq au b) (Node ByTrans (number 4) (number 3))
    ∷ []

abbrev pub cell_entry : (place : ℕ) → Tree
cell_entry p = entry p [] (by_cell xu 3 cell_lines ∷ [])

abbrev pub cell_cases : List Case
cell_cases =
    (Some begun, events (cell_entry 26 ∷ []), None)
    ∷ (Some begun, events (entry 26 [] (by_cell xu 2 cell_lines ∷ []) ∷ []), fails 2 26)
    ∷ (Some begun, events (entry 26 [] (by_cell xu 3 (line (eq xu b) (Node ByFact (number 1) Empty) ∷ []) ∷ []) ∷ []), fails 4 26)
    ∷ []

-- of a variable with two definitions none is the only one
abbrev pub two_sites_cases : List Case
two_sites_cases = (Some begun, events (cell_entry 35 ∷ []), fails 2 35) ∷ []
