-- Heads of nodes, and their codes.
use Rattle.std.specs.Prelude.{◌≡◌, ℕ, ◌+◌, ◌*◌, ◌/◌, ◌%◌, ◌^◌, Bool, ◌&&◌, ◌==◌, nat_lt, if◌then◌else◌, refl}
use Rattle.std.proofs.Common.{ap, arith}
use Rattle.cv_syntax_trees.specs.declared.head.Code.{Code}
use Rattle.cv_syntax_trees.specs.declared.head.Head.{Head}
use Rattle.cv_syntax_trees.specs.declared.head.Head.TheVariants.{Stop, Yield, Par, Repl, In, Out, Event, New, Let, If, Find, Branch, Leaf, Read, Apply, Eq, And, Or, Not, Yes, No, Cons, Binder, Name, Number, Forall, Query, Occurs, OccursOnce, Secret, SecretOnce, Equivalence, Bound, Single, Oracle, RenameStep, RewriteStep, PruneStep, PickStep, MergeStep, SplitStep, LetStep, NewStep, UnletStep, UnnewStep, MoveStep, ArrayRenameStep, CodefStep, BirthdayStep, GuessStep, FreshStep, CryptoStep, SuccessStep, SimplifyStep, ThenPart, ElsePart, AddPart, DropPart, Line, Defined, Cases, Primed, ByFact, ByHere, ByOf, BySite, ByEquation, ByRefl, BySym, ByTrans, ByCong, ByMp, ByAnd, ByLeft, ByRight, ByContra, ByExfalso, ByData, ByGiven, ByAgain, ByBool, ByOtherFact, ByOtherHere, BySame, ByDistinct, ByLate, EventsCertificate, SecretCertificate, AtEntry, NeverEntry, WithEntry, AboveRoute, CellRoute, HoldsRoute, DistinctPart, Pair, SecretPair, Key, Call, SomeOf, AlternativePart}

-- a tag and two numbers below 2 ^ 32
abbrev pub numbered : ℕ → ℕ → ℕ → Code
numbered tag a b = record { tag = tag; a = a; b = b }

-- a number of 64 bits, as its low and its high half
abbrev pub wide : ℕ → ℕ → Code
wide tag v = numbered tag (v % 2 ^ 32) (v / 2 ^ 32)

-- the code of a head
abbrev pub code : Head → Code
code Stop = numbered 0 0 0
code Yield = numbered 1 0 0
code Par = numbered 2 0 0
code (Repl x y) = numbered 3 x y
code (In x) = numbered 4 x 0
code (Out x) = numbered 5 x 0
code (Event x) = numbered 6 x 0
code (New x y) = numbered 7 x y
code (Let x y) = numbered 8 x y
code If = numbered 9 0 0
code (Find v) = wide 10 v
code Branch = numbered 11 0 0
code (Leaf x) = numbered 12 x 0
code (Read x) = numbered 13 x 0
code (Apply x) = numbered 14 x 0
code Eq = numbered 15 0 0
code And = numbered 16 0 0
code Or = numbered 17 0 0
code Not = numbered 18 0 0
code Yes = numbered 19 0 0
code No = numbered 20 0 0
code Cons = numbered 21 0 0
code (Binder x y) = numbered 22 x y
code (Name x) = numbered 23 x 0
code (Number v) = wide 24 v
code Forall = numbered 25 0 0
code Query = numbered 26 0 0
code (Occurs x) = numbered 27 x 0
code (OccursOnce x) = numbered 28 x 0
code (Secret x) = numbered 29 x 0
code (SecretOnce x) = numbered 30 x 0
code (Equivalence x) = numbered 31 x 0
code (Bound x y) = numbered 32 x y
code (Single x) = numbered 33 x 0
code (Oracle x) = numbered 34 x 0
code RenameStep = numbered 35 0 0
code RewriteStep = numbered 36 0 0
code PruneStep = numbered 37 0 0
code PickStep = numbered 38 0 0
code MergeStep = numbered 39 0 0
code SplitStep = numbered 40 0 0
code LetStep = numbered 41 0 0
code NewStep = numbered 42 0 0
code UnletStep = numbered 43 0 0
code UnnewStep = numbered 44 0 0
code MoveStep = numbered 45 0 0
code ArrayRenameStep = numbered 46 0 0
code CodefStep = numbered 47 0 0
code BirthdayStep = numbered 48 0 0
code GuessStep = numbered 49 0 0
code FreshStep = numbered 50 0 0
code CryptoStep = numbered 51 0 0
code SuccessStep = numbered 52 0 0
code SimplifyStep = numbered 53 0 0
code ThenPart = numbered 54 0 0
code ElsePart = numbered 55 0 0
code AddPart = numbered 56 0 0
code DropPart = numbered 57 0 0
code Line = numbered 58 0 0
code Defined = numbered 59 0 0
code Cases = numbered 60 0 0
code (Primed x) = numbered 61 x 0
code ByFact = numbered 62 0 0
code ByHere = numbered 63 0 0
code ByOf = numbered 64 0 0
code BySite = numbered 65 0 0
code ByEquation = numbered 66 0 0
code ByRefl = numbered 67 0 0
code BySym = numbered 68 0 0
code ByTrans = numbered 69 0 0
code ByCong = numbered 70 0 0
code ByMp = numbered 71 0 0
code ByAnd = numbered 72 0 0
code ByLeft = numbered 73 0 0
code ByRight = numbered 74 0 0
code ByContra = numbered 75 0 0
code ByExfalso = numbered 76 0 0
code ByData = numbered 77 0 0
code ByGiven = numbered 78 0 0
code ByAgain = numbered 79 0 0
code ByBool = numbered 80 0 0
code ByOtherFact = numbered 81 0 0
code ByOtherHere = numbered 82 0 0
code BySame = numbered 83 0 0
code ByDistinct = numbered 84 0 0
code ByLate = numbered 97 0 0
code EventsCertificate = numbered 85 0 0
code SecretCertificate = numbered 86 0 0
code AtEntry = numbered 87 0 0
code NeverEntry = numbered 88 0 0
code WithEntry = numbered 89 0 0
code AboveRoute = numbered 90 0 0
code CellRoute = numbered 91 0 0
code HoldsRoute = numbered 92 0 0
code DistinctPart = numbered 93 0 0
code Pair = numbered 94 0 0
code SecretPair = numbered 95 0 0
code (Key x) = numbered 96 x 0
code SomeOf = numbered 98 0 0
code AlternativePart = numbered 99 0 0
code (Call x y) = numbered 100 x y

-- the head of a code
abbrev pub decoded : Code → Head
decoded k =
    if nat_lt 99 k.tag then Call k.a k.b else
    if k.tag == 0 then Stop else if k.tag == 1 then Yield else if k.tag == 2 then Par else if k.tag == 3 then Repl k.a k.b else if k.tag == 4 then In k.a else
    if k.tag == 5 then Out k.a else if k.tag == 6 then Event k.a else if k.tag == 7 then New k.a k.b else if k.tag == 8 then Let k.a k.b else if k.tag == 9 then If else
    if k.tag == 10 then Find (k.a + 2 ^ 32 * k.b) else if k.tag == 11 then Branch else if k.tag == 12 then Leaf k.a else if k.tag == 13 then Read k.a else if k.tag == 14 then Apply k.a else
    if k.tag == 15 then Eq else if k.tag == 16 then And else if k.tag == 17 then Or else if k.tag == 18 then Not else if k.tag == 19 then Yes else
    if k.tag == 20 then No else if k.tag == 21 then Cons else if k.tag == 22 then Binder k.a k.b else if k.tag == 23 then Name k.a else if k.tag == 24 then Number (k.a + 2 ^ 32 * k.b) else
    if k.tag == 25 then Forall else if k.tag == 26 then Query else if k.tag == 27 then Occurs k.a else if k.tag == 28 then OccursOnce k.a else if k.tag == 29 then Secret k.a else
    if k.tag == 30 then SecretOnce k.a else if k.tag == 31 then Equivalence k.a else if k.tag == 32 then Bound k.a k.b else if k.tag == 33 then Single k.a else if k.tag == 34 then Oracle k.a else
    if k.tag == 35 then RenameStep else if k.tag == 36 then RewriteStep else if k.tag == 37 then PruneStep else if k.tag == 38 then PickStep else if k.tag == 39 then MergeStep else
    if k.tag == 40 then SplitStep else if k.tag == 41 then LetStep else if k.tag == 42 then NewStep else if k.tag == 43 then UnletStep else if k.tag == 44 then UnnewStep else
    if k.tag == 45 then MoveStep else if k.tag == 46 then ArrayRenameStep else if k.tag == 47 then CodefStep else if k.tag == 48 then BirthdayStep else if k.tag == 49 then GuessStep else
    if k.tag == 50 then FreshStep else if k.tag == 51 then CryptoStep else if k.tag == 52 then SuccessStep else if k.tag == 53 then SimplifyStep else if k.tag == 54 then ThenPart else
    if k.tag == 55 then ElsePart else if k.tag == 56 then AddPart else if k.tag == 57 then DropPart else if k.tag == 58 then Line else if k.tag == 59 then Defined else
    if k.tag == 60 then Cases else if k.tag == 61 then Primed k.a else if k.tag == 62 then ByFact else if k.tag == 63 then ByHere else if k.tag == 64 then ByOf else
    if k.tag == 65 then BySite else if k.tag == 66 then ByEquation else if k.tag == 67 then ByRefl else if k.tag == 68 then BySym else if k.tag == 69 then ByTrans else
    if k.tag == 70 then ByCong else if k.tag == 71 then ByMp else if k.tag == 72 then ByAnd else if k.tag == 73 then ByLeft else if k.tag == 74 then ByRight else
    if k.tag == 75 then ByContra else if k.tag == 76 then ByExfalso else if k.tag == 77 then ByData else if k.tag == 78 then ByGiven else if k.tag == 79 then ByAgain else
    if k.tag == 80 then ByBool else if k.tag == 81 then ByOtherFact else if k.tag == 82 then ByOtherHere else if k.tag == 83 then BySame else if k.tag == 84 then ByDistinct else
    if k.tag == 85 then EventsCertificate else if k.tag == 86 then SecretCertificate else if k.tag == 87 then AtEntry else if k.tag == 88 then NeverEntry else if k.tag == 89 then WithEntry else
    if k.tag == 90 then AboveRoute else if k.tag == 91 then CellRoute else if k.tag == 92 then HoldsRoute else if k.tag == 93 then DistinctPart else if k.tag == 94 then Pair else
    if k.tag == 95 then SecretPair else if k.tag == 96 then Key k.a else if k.tag == 97 then ByLate else if k.tag == 98 then SomeOf else
    AlternativePart

pub decoded_code : (h : Head) → decoded (code h) ≡ h
decoded_code Stop = refl
decoded_code Yield = refl
decoded_code Par = refl
decoded_code (Repl x y) = refl
decoded_code (In x) = refl
decoded_code (Out x) = refl
decoded_code (Event x) = refl
decoded_code (New x y) = refl
decoded_code (Let x y) = refl
decoded_code If = refl
decoded_code (Find v) = ap Find (omega arith)
decoded_code Branch = refl
decoded_code (Leaf x) = refl
decoded_code (Read x) = refl
decoded_code (Apply x) = refl
decoded_code Eq = refl
decoded_code And = refl
decoded_code Or = refl
decoded_code Not = refl
decoded_code Yes = refl
decoded_code No = refl
decoded_code Cons = refl
decoded_code (Binder x y) = refl
decoded_code (Name x) = refl
decoded_code (Number v) = ap Number (omega arith)
decoded_code Forall = refl
decoded_code Query = refl
decoded_code (Occurs x) = refl
decoded_code (OccursOnce x) = refl
decoded_code (Secret x) = refl
decoded_code (SecretOnce x) = refl
decoded_code (Equivalence x) = refl
decoded_code (Bound x y) = refl
decoded_code (Single x) = refl
decoded_code (Oracle x) = refl
decoded_code RenameStep = refl
decoded_code RewriteStep = refl
decoded_code PruneStep = refl
decoded_code PickStep = refl
decoded_code MergeStep = refl
decoded_code SplitStep = refl
decoded_code LetStep = refl
decoded_code NewStep = refl
decoded_code UnletStep = refl
decoded_code UnnewStep = refl
decoded_code MoveStep = refl
decoded_code ArrayRenameStep = refl
decoded_code CodefStep = refl
decoded_code BirthdayStep = refl
decoded_code GuessStep = refl
decoded_code FreshStep = refl
decoded_code CryptoStep = refl
decoded_code SuccessStep = refl
decoded_code SimplifyStep = refl
decoded_code ThenPart = refl
decoded_code ElsePart = refl
decoded_code AddPart = refl
decoded_code DropPart = refl
decoded_code Line = refl
decoded_code Defined = refl
decoded_code Cases = refl
decoded_code (Primed x) = refl
decoded_code ByFact = refl
decoded_code ByHere = refl
decoded_code ByOf = refl
decoded_code BySite = refl
decoded_code ByEquation = refl
decoded_code ByRefl = refl
decoded_code BySym = refl
decoded_code ByTrans = refl
decoded_code ByCong = refl
decoded_code ByMp = refl
decoded_code ByAnd = refl
decoded_code ByLeft = refl
decoded_code ByRight = refl
decoded_code ByContra = refl
decoded_code ByExfalso = refl
decoded_code ByData = refl
decoded_code ByGiven = refl
decoded_code ByAgain = refl
decoded_code ByBool = refl
decoded_code ByOtherFact = refl
decoded_code ByOtherHere = refl
decoded_code BySame = refl
decoded_code ByDistinct = refl
decoded_code ByLate = refl
decoded_code EventsCertificate = refl
decoded_code SecretCertificate = refl
decoded_code AtEntry = refl
decoded_code NeverEntry = refl
decoded_code WithEntry = refl
decoded_code AboveRoute = refl
decoded_code CellRoute = refl
decoded_code HoldsRoute = refl
decoded_code DistinctPart = refl
decoded_code Pair = refl
decoded_code SecretPair = refl
decoded_code (Key x) = refl
decoded_code (Call x y) = refl
decoded_code SomeOf = refl
decoded_code AlternativePart = refl

-- 1 for a syntax node, 0 for a list, a binder and what only holds declarations together
abbrev pub weight : Head → ℕ
weight Cons = 0
weight (Binder x y) = 0
weight (Name x) = 0
weight (Number x) = 0
weight Forall = 0
weight Query = 0
weight (Occurs x) = 0
weight (OccursOnce x) = 0
weight (Secret x) = 0
weight (SecretOnce x) = 0
weight (Equivalence x) = 0
weight (Bound x y) = 0
weight (Single x) = 0
weight (Oracle x) = 0
weight SomeOf = 0
weight h = 1

abbrev pub same_head : Head → Head → Bool
same_head h k = ((code h).tag == (code k).tag) && (((code h).a == (code k).a) && ((code h).b == (code k).b))
