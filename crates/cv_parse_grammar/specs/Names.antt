-- The rules of names, over the uses of names in the order of the text.
use Rattle.std.specs.Prelude.{◌≡◌, ℕ, Bool, true, false, ◌==◌, ◌&&◌, ◌||◌, not, if◌then◌else◌, option_map, List, [], ◌∷◌, ◌++◌, Option, Some, None}
use Rattle.std.specs.List.{list_any}
use Rattle.cv_parse_notation.specs.Spells.{Use}
use Rattle.cv_parse_grammar.specs.InOrder.{Rule, AllObey, BreaksFirst, first_broken}
use Rattle.cv_parse_grammar.specs.declared.role.Asked.{Asked}
use Rattle.cv_parse_grammar.specs.declared.role.Asked.TheVariants.{AParam, AChannel, AFunction, AnEvent, AProbability, AnEquivalence, AType}
use Rattle.cv_parse_grammar.specs.declared.role.Region.{Region}
use Rattle.cv_parse_grammar.specs.declared.role.Region.TheVariants.{InEquivalence, InProcess}
use Rattle.cv_parse_grammar.specs.declared.role.Role.{Role}
use Rattle.cv_parse_grammar.specs.declared.role.Role.TheVariants.{Declares, Asks, BindsLocal, BindsBound, AsksBound, BindsVariable, BindsIndex, AsksIndex, Mentions, AsCall, AsBare, MentionsCell, Enters, Leaves}

-- a broken rule, and how many tokens are left at the name
pub data NameFault : Type 0 where
  NameTwice NameUnknown : (left : ℕ) → NameFault

abbrev pub Uses : Type 0
Uses = List (Use Role)

-- what a use does with its name

abbrev pub asked_code : Asked → ℕ
asked_code AParam = 0
asked_code AChannel = 1
asked_code AFunction = 2
asked_code AnEvent = 3
asked_code AProbability = 4
asked_code AnEquivalence = 5
asked_code AType = 6

abbrev pub same_asked : Asked → Asked → Bool
same_asked a b = asked_code a == asked_code b

abbrev pub declares : Role → Bool
declares (Declares a) = true
declares r = false

abbrev pub declares_as : Asked → Role → Bool
declares_as a (Declares b) = same_asked a b
declares_as a r = false

abbrev pub binds : Role → Bool
binds BindsLocal = true
binds BindsVariable = true
binds BindsIndex = true
binds r = false

abbrev pub binds_bound : Role → Bool
binds_bound BindsBound = true
binds_bound r = false

abbrev pub binds_variable : Role → Bool
binds_variable BindsVariable = true
binds_variable r = false

abbrev pub binds_index : Role → Bool
binds_index BindsIndex = true
binds_index r = false

-- one of the uses does this with the name
abbrev pub is_used : (Role → Bool) → ℕ → Uses → Bool
is_used p x us = list_any (λ u. p u.role && (u.name == x)) us

-- the part of the file that is open behind these uses, and the uses since it began

abbrev pub part_after : Option Region → Role → Option Region
part_after p (Enters q) = Some q
part_after p Leaves = None
part_after p r = p

unfoldable pub part_from : Option Region → Uses → Option Region
part_from p [] = p
part_from p (u ∷ us) = part_from (part_after p u.role) us

abbrev pub since : Uses → Use Role → Uses
since seen u = elim u.role [ Enters q ↦ [] | r ↦ seen ++ u ∷ [] ]

unfoldable pub own_from : Uses → Uses → Uses
own_from seen [] = seen
own_from seen (u ∷ us) = own_from (since seen u) us

-- how the term goes on behind a name

abbrev pub as_call : Uses → Bool
as_call [] = false
as_call (u ∷ us) = elim u.role [ AsCall ↦ true | r ↦ false ]

abbrev pub as_bare : Uses → Bool
as_bare [] = false
as_bare (u ∷ us) = elim u.role [ AsBare ↦ true | r ↦ false ]

-- A name, with the uses of names before it and behind it.

abbrev pub is_declared : (before : Uses) → ℕ → Bool
is_declared before x = is_used declares x before

-- nothing declares it, before or behind
abbrev pub is_free : (before behind : Uses) → ℕ → Bool
is_free before behind x = not (is_declared before x) && not (is_declared behind x)

-- bound before, in the same equation, query or equivalence
abbrev pub is_own : (before : Uses) → ℕ → Bool
is_own before x = is_used binds x (own_from [] before)

-- a variable of the process may be read before it is bound
abbrev pub is_variable : (before behind : Uses) → ℕ → Bool
is_variable before behind x = is_used binds_variable x before || is_used binds_variable x behind

-- a constant is a function
abbrev pub is_function : (before : Uses) → ℕ → Bool
is_function before x = is_used (declares_as AFunction) x before

-- a name of no declaration, or of a parameter
abbrev pub may_bound : (before : Uses) → ℕ → Bool
may_bound before x = not (is_declared before x) || is_used (declares_as AParam) x before

-- a function at its arguments, or alone; at indices a variable is asked for
abbrev pub stands_as_function : (before behind : Uses) → ℕ → Bool
stands_as_function before behind x = (as_call behind || as_bare behind) && is_function before x

-- A name of a term is known: in the process a function at its arguments, else a variable, or alone a constant or an
-- index that is bound before; in an equivalence a variable of its own, a function, or a name that nothing declares; in an
-- equation or a query a function or a variable of its own.
abbrev pub known_in : Option Region → (before behind : Uses) → ℕ → Bool
known_in (Some InProcess) before behind x =
    if as_call behind then is_function before x
    else is_variable before behind x || (as_bare behind && (is_function before x || is_used binds_index x before))
known_in (Some InEquivalence) before behind x = if is_own before x then not (as_call behind) else stands_as_function before behind x || is_free before behind x
known_in p before behind x = stands_as_function before behind x || (not (as_call behind) && is_own before x)

-- the variable of a `defined` cell is known
abbrev pub cell_known_in : Option Region → (before behind : Uses) → ℕ → Bool
cell_known_in (Some InProcess) before behind x = is_variable before behind x
cell_known_in p before behind x = is_own before x || is_free before behind x

-- a use obeys its rule
abbrev pub obeys : (before : Uses) → Role → ℕ → (behind : Uses) → Bool
obeys before (Declares a) x behind = not (is_declared before x) && (not (is_used binds x before) && (same_asked a AParam || not (is_used binds_bound x before)))
obeys before (Asks a) x behind = is_used (declares_as a) x before
obeys before BindsLocal x behind = not (is_declared before x)
obeys before BindsVariable x behind = not (is_declared before x)
obeys before BindsIndex x behind = not (is_declared before x)
obeys before BindsBound x behind = may_bound before x
obeys before AsksBound x behind = may_bound before x
obeys before AsksIndex x behind = is_used binds_index x before
obeys before Mentions x behind = known_in (part_from None before) before behind x
obeys before MentionsCell x behind = cell_known_in (part_from None before) before behind x
obeys before r x behind = true

abbrev pub name_rule : Rule (Use Role)
name_rule before u behind = obeys before u.role u.name behind

-- what a use is that breaks its rule
abbrev pub fault_by : Role → ℕ → NameFault
fault_by (Declares a) left = NameTwice left
fault_by BindsLocal left = NameTwice left
fault_by BindsVariable left = NameTwice left
fault_by BindsIndex left = NameTwice left
fault_by BindsBound left = NameTwice left
fault_by r left = NameUnknown left

abbrev pub fault_of : Use Role → NameFault
fault_of u = fault_by u.role u.left

-- every use obeys its rule
abbrev pub AreNamed : Uses → Type 0
AreNamed us = AllObey name_rule us

-- the fault of the first use that breaks its rule
abbrev pub IsNameFault : Uses → NameFault → Type 0
IsNameFault us f = (u : Use Role) × BreaksFirst name_rule us u × (f ≡ fault_of u)

-- the first fault, computed from left to right
abbrev pub name_fault : Uses → Option NameFault
name_fault us = option_map fault_of (first_broken name_rule us)
