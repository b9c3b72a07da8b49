-- Derivations at a place of a small game, with the first line that isn't right. Names are numbers: 0 is `bool`, 5 a type, 7 a
-- parameter, 3 a channel.
use Rattle.std.specs.Prelude.{ℕ, true, false, nat_lt, List, [], ◌∷◌, map, Option, Some, None}
use Rattle.cv_syntax_trees.specs.declared.class.Class.TheVariants as class
use Rattle.cv_syntax_trees.specs.declared.head.Head.{Head}
use Rattle.cv_syntax_trees.specs.declared.head.Head.TheVariants as head
use Rattle.cv_syntax_trees.specs.declared.head.Head.TheVariants.{And, Apply, ByAgain, ByAnd, ByBool, ByCong, ByContra, ByData, ByDistinct, ByEquation, ByExfalso, ByFact, ByGiven, ByHere, ByLeft, ByMp, ByOf, ByOtherFact, ByOtherHere, ByRefl, ByRight, BySame, BySite, BySym, ByTrans, Cons, Eq, Forall, Not, Number, Stop, Yield}
use Rattle.cv_syntax_trees.specs.Builders.{branch, find, input, leaf, output, read}
use Rattle.cv_syntax_trees.specs.Declarations.{Declaration, Named, Equation}
use Rattle.cv_syntax_trees.specs.Tree.{Tree, Empty, Node, binders, chain, lone, names}
use Rattle.cv_scene.specs.Pairs.{pair_at}
use Rattle.cv_scene.specs.Scenes.{Scene}
use Rattle.cv_scene.specs.Sights.{Sight, sight_at}
use Rattle.cv_scene.specs.lines.Truths.{no, yes}

abbrev pub eq : Tree → Tree → Tree
eq m n = Node Eq m n

abbrev pub and : Tree → Tree → Tree
and m n = Node And m n

abbrev pub function : ℕ → Tree → Tree
function f m = Node (Apply f) (chain (m ∷ [])) Empty

-- g(5): 5 [data]. h(5): 5. p(5): bool.

abbrev pub g : Tree → Tree
g m = function 20 m

abbrev pub h : Tree → Tree
h m = function 21 m

abbrev pub p : Tree → Tree
p m = function 22 m

-- and equation forall 40: 5; g(40) = 40
abbrev pub declarations : List Declaration
declarations =
    Named 0 (class.TypeName true false) Empty None
    ∷ Named 5 (class.TypeName true false) Empty None
    ∷ Named 7 class.Param Empty None
    ∷ Named 3 class.Channel Empty None
    ∷ Named 20 (class.Fun true) (names (5 ∷ [])) (Some 5)
    ∷ Named 21 (class.Fun false) (names (5 ∷ [])) (Some 5)
    ∷ Named 22 (class.Fun false) (names (5 ∷ [])) (Some 0)
    ∷ Equation (Node Forall (binders ((40, 5) ∷ [])) (eq (g (leaf 40)) (leaf 40)))
    ∷ []

-- 4[8], 6[8], 9[8], and what 4 and 6 are at 9[8]

abbrev pub a : Tree
a = read 4 (leaf 8 ∷ [])

abbrev pub x : Tree
x = read 6 (leaf 8 ∷ [])

abbrev pub u : Tree
u = read 9 (leaf 8 ∷ [])

abbrev pub au : Tree
au = read 4 (u ∷ [])

abbrev pub xu : Tree
xu = read 6 (u ∷ [])

-- !8 <= 7 in(3[8], (4: 5)); let 6: 5 = 4[8] in find 9 <= 7 suchthat defined(6[9[8]]) && 6[9[8]] = 4[8] then out(3[8], ()); 0
-- else yield
abbrev pub game : Tree
game =
    Node (head.Repl 8 7) Empty (input 3 (8 ∷ []) ((4, 5) ∷ [])
    (Node (head.Let 6 5) a (find 1 (branch ((9, 7) ∷ []) (xu ∷ []) (eq xu a) (output 3 (8 ∷ []) [] (lone Stop)) ∷ []) (lone Yield))))

abbrev pub scene : Scene
scene = record { declarations = declarations; known = λ y. nat_lt y 100; game = game }

-- at the output
abbrev pub sight : Sight
sight = sight_at scene 16

abbrev pub number : ℕ → Tree
number n = lone (Number n)

abbrev pub one : Head → ℕ → Tree
one r k = Node r (number k) Empty

abbrev pub two : Head → ℕ → ℕ → Tree
two r k l = Node r (number k) (number l)

abbrev pub line : (term reason : Tree) → Tree
line t r = Node head.Line t r

abbrev pub is_there : (cell reason : Tree) → Tree
is_there c r = Node head.Defined c r

abbrev pub cases_of : (condition : Tree) → (first second : List Tree) → (conclusion : Tree) → Tree
cases_of c d e t = Node head.Cases c (Node Cons (chain d) (Node Cons (chain e) t))

abbrev pub not_p : Tree
not_p = Node Not (p a) Empty

-- by cases of p(a), with a reason for its third line, what the second block says is given, a conclusion, and a reason for a
-- line behind
abbrev pub split : (third term_for conclusion behind : Tree) → List Tree
split third term_for conclusion behind =
    cases_of (p a)
    (line (p a) (lone ByGiven)
    ∷ line (eq (p a) (eq (p a) yes)) (lone ByBool)
    ∷ line (eq (p a) yes) third
    ∷ line (and (p a) (eq (p a) yes)) (two ByAnd 1 3)
    ∷ line (p a) (one ByLeft 4)
    ∷ line (eq (p a) yes) (one ByRight 4)
    ∷ line (eq x a) (one ByFact 1)
    ∷ [])
    (line term_for (lone ByGiven) ∷ line (eq x a) (one ByFact 1) ∷ [])
    conclusion
    ∷ line conclusion behind
    ∷ []

-- by cases of p(a), where the second block of an inner one is refuted
abbrev pub refutes : (contra : Tree) → (absurd : ℕ) → List Tree
refutes contra line_of_false =
    cases_of (p a)
    (line (p a) (lone ByGiven)
    ∷ cases_of (p a)
    (line (eq x a) (one ByFact 1) ∷ [])
    (line not_p (lone ByGiven) ∷ line no contra ∷ line (eq x a) (one ByExfalso line_of_false) ∷ [])
    (eq x a)
    ∷ [])
    (line (eq x a) (one ByFact 1) ∷ [])
    (eq x a)
    ∷ []

abbrev pub cases : List (List Tree × Option ℕ)
cases =
    -- facts
    (line (eq x a) (one ByFact 1) ∷ [], None)
    ∷ (line (eq x a) (one ByFact 2) ∷ [], Some 1)
    ∷ (line (eq xu a) (one ByFact 2) ∷ [], None)
    -- cells that are defined here; at its only site
    ∷ (is_there u (lone ByHere) ∷ is_there xu (lone ByHere) ∷ [], None)
    ∷ (is_there au (lone ByHere) ∷ [], Some 1)
    ∷ (is_there xu (lone ByHere) ∷ is_there au (one ByOf 1) ∷ line (eq xu au) (two BySite 1 1) ∷ [], None)
    ∷ (is_there xu (lone ByHere) ∷ is_there u (one ByOf 1) ∷ [], Some 2)
    ∷ (is_there xu (lone ByHere) ∷ line (eq xu a) (two BySite 1 1) ∷ [], Some 2)
    -- equations
    ∷ (line (eq (g a) a) (Node ByEquation (number 1) (chain (a ∷ []))) ∷ [], None)
    ∷ (line (eq (g a) x) (Node ByEquation (number 1) (chain (a ∷ []))) ∷ [], Some 1)
    ∷ (line (eq (g a) a) (Node ByEquation (number 1) Empty) ∷ [], Some 1)
    -- equality
    ∷ (line (eq x a) (one ByFact 1) ∷ line (eq a x) (one BySym 1) ∷ line (eq x x) (two ByTrans 1 2) ∷ line (eq x x) (lone ByRefl) ∷ [], None)
    ∷ (line (eq x a) (one ByFact 1) ∷ line (eq x a) (one BySym 1) ∷ [], Some 2)
    ∷ (line (eq x a) (one ByFact 1) ∷ line (eq x a) (two ByTrans 1 1) ∷ [], Some 2)
    ∷ (line (eq x a) (lone ByRefl) ∷ [], Some 1)
    ∷ (line (eq x a) (one ByFact 1) ∷ line (eq (g x) (g a)) (Node ByCong (chain (number 1 ∷ [])) Empty) ∷ [], None)
    ∷ (line (eq x a) (one ByFact 1) ∷ line (eq (g x) (h a)) (Node ByCong (chain (number 1 ∷ [])) Empty) ∷ [], Some 2)
    ∷ (line (eq (leaf 8) (leaf 8)) (Node ByCong Empty Empty) ∷ [], Some 1)
    -- injective functions
    ∷ (line (eq (eq (g a) (g x)) (eq a x)) (lone ByData) ∷ [], None)
    ∷ (line (eq (eq (h a) (h x)) (eq a x)) (lone ByData) ∷ [], Some 1)
    -- truth values
    ∷ (line (eq (p a) (eq (p a) yes)) (lone ByBool) ∷ line (eq (and (p a) no) no) (lone ByBool) ∷ [], None)
    ∷ (line (eq (and (p a) no) (p a)) (lone ByBool) ∷ [], Some 1)
    -- blocks: the second assumes the negation, and no line behind cites what stands in them
    ∷ (split (two ByMp 1 2) (not_p) (eq x a) (one ByAgain 10), None)
    ∷ (split (two ByMp 2 1) (not_p) (eq x a) (one ByAgain 10), Some 3)
    ∷ (split (two ByMp 1 2) (p a) (eq x a) (one ByAgain 10), Some 8)
    ∷ (split (two ByMp 1 2) (not_p) (eq a x) (one ByAgain 10), Some 10)
    ∷ (split (two ByMp 1 2) (not_p) (eq x a) (one ByAgain 7), Some 11)
    ∷ (refutes (two ByContra 1 3) 4, None)
    ∷ (refutes (two ByContra 3 1) 4, Some 4)
    ∷ (refutes (two ByContra 1 3) 3, Some 5)
    -- names and terms that aren't there
    ∷ (line (eq (leaf 99) (leaf 99)) (lone ByRefl) ∷ [], Some 1)
    ∷ (line (eq a (leaf 8)) (one ByFact 1) ∷ [], Some 1)
    ∷ (line (eq x a) (lone ByOtherHere) ∷ [], Some 1)
    ∷ (line (eq x a) (one ByAgain 1) ∷ [], Some 1)
    ∷ []

-- two copies of the output, where 4 has one value in both, and the values of 4 are taken to differ

abbrev pub a_there : Tree
a_there = read 4 (leaf 108 ∷ [])

abbrev pub x_there : Tree
x_there = read 6 (leaf 108 ∷ [])

abbrev pub pair_sight : Sight
pair_sight = pair_at scene 16 16 100 (eq a a_there ∷ []) (4 ∷ [])

abbrev pub distinct : (l d e k : ℕ) → Tree
distinct l d e k = Node ByDistinct (number l) (Node head.Cons (number d) (Node head.Cons (number e) (number k)))

-- two cells with one value, both defined, and an equation of their indices
abbrev pub two_cells : (m n index other reason : Tree) → List Tree
two_cells m n index other reason =
    line (eq a a_there) (one BySame 1)
    ∷ is_there m (lone ByHere)
    ∷ is_there n (lone ByOtherHere)
    ∷ line (eq index other) reason
    ∷ []

abbrev pub pair_cases : List (List Tree × Option ℕ)
pair_cases =
    -- facts and cells of either copy
    (line (eq x a) (one ByFact 1) ∷ line (eq x_there a_there) (one ByOtherFact 1) ∷ [], None)
    ∷ (line (eq x_there a_there) (one ByFact 1) ∷ [], Some 1)
    ∷ (line (eq x a) (one ByOtherFact 1) ∷ [], Some 1)
    ∷ (is_there x (lone ByHere) ∷ is_there x_there (lone ByOtherHere) ∷ [], None)
    ∷ (is_there x (lone ByOtherHere) ∷ [], Some 1)
    -- what is given
    ∷ (line (eq a a_there) (one BySame 1) ∷ [], None)
    ∷ (line (eq a_there a) (one BySame 1) ∷ [], Some 1)
    ∷ (line (eq a a_there) (one BySame 2) ∷ [], Some 1)
    -- values that differ: of an index that there is; the cells in their order; of an array that is named
    ∷ (two_cells a a_there (leaf 8) (leaf 108) (distinct 1 2 3 1), None)
    ∷ (two_cells a a_there (leaf 8) (leaf 108) (distinct 1 2 3 2), Some 4)
    ∷ (two_cells a a_there (leaf 8) (leaf 108) (distinct 1 3 2 1), Some 4)
    ∷ (two_cells x x_there (leaf 8) (leaf 108) (distinct 1 2 3 1), Some 4)
    ∷ []

-- !8 <= 7 in(3[8], (4: 5)); find suchthat defined(6[8]) then yield else new 6: 5; yield
abbrev pub late_sight : ℕ → Sight
late_sight q = sight_at (record {
  declarations = declarations;
  known = λ y. nat_lt y 100;
  game = Node (head.Repl 8 7) Empty (input 3 (8 ∷ []) ((4, 5) ∷ []) (find 1 (branch [] (x ∷ []) yes (lone Yield) ∷ []) (Node (head.New 6 5) Empty (lone Yield))));
}) q

abbrev pub late : ℕ → List ℕ → Tree
late l ms = Node head.ByLate (number l) (chain (map number ms))

abbrev pub late_cases : List (ℕ × List Tree × Option ℕ)
late_cases =
    -- in the body and in the condition; where it is defined above; with a line too many; of another term
    (7, is_there x (lone ByHere) ∷ line no (late 1 []) ∷ [], None)
    ∷ (6, is_there x (lone ByHere) ∷ line no (late 1 []) ∷ [], None)
    ∷ (9, is_there x (lone ByHere) ∷ line no (late 1 []) ∷ [], Some 2)
    ∷ (7, is_there x (lone ByHere) ∷ line no (late 1 (1 ∷ [])) ∷ [], Some 2)
    ∷ (7, is_there x (lone ByHere) ∷ line yes (late 1 []) ∷ [], Some 2)
    ∷ []

-- two copies are reached at two moments
abbrev pub late_pair : Sight
late_pair = pair_at (late_sight 7).scene 7 7 100 [] []

-- what the last lines say
abbrev pub two_lines : Tree
two_lines = chain (line (eq x a) (one ByFact 1) ∷ is_there x (lone ByHere) ∷ [])

abbrev pub ends : List (List Tree)
ends = [] ∷ (is_there x Empty ∷ []) ∷ (line (eq x a) Empty ∷ is_there x Empty ∷ []) ∷ []

abbrev pub no_ends : List (List Tree)
no_ends = (line x Empty ∷ []) ∷ (line (eq x a) Empty ∷ []) ∷ (is_there x Empty ∷ line (eq x a) Empty ∷ []) ∷ []
