-- What the table says of a name, what a use changes in it, and the rules of names by what it says.
use Rattle.std.specs.Prelude.{◌≡◌, ℕ, ◌+◌, ◌<◌, Bool, true, false, ◌&&◌, ◌||◌, not, nat_le, if◌then◌else◌, is_some, length, take, slice_index_or, List, [], ◌∷◌, Option, Some, None}
use Rattle.cv_parse_grammar.specs.declared.role.Asked.{Asked}
use Rattle.cv_parse_grammar.specs.declared.role.Asked.TheVariants.{AParam, AFunction}
use Rattle.cv_parse_grammar.specs.declared.role.Region.{Region}
use Rattle.cv_parse_grammar.specs.declared.role.Region.TheVariants.{InEquivalence, InProcess}
use Rattle.cv_parse_grammar.specs.declared.role.Role.{Role}
use Rattle.cv_parse_grammar.specs.declared.role.Role.TheVariants.{Declares, Asks, BindsLocal, BindsBound, AsksBound, BindsVariable, BindsIndex, AsksIndex, Mentions, AsCall, AsBare, MentionsCell, Enters, Leaves}
use Rattle.cv_parse_grammar.specs.Names.{Uses, binds_variable, declares, is_used, same_asked}
use Rattle.cv_parse_terms.specs.declared.trail.NameUse.{NameUse}
use Rattle.cv_parse_terms.specs.Gives.{uses_of}
use Rattle.cv_parse_names.specs.declared.table.Entry.{Entry}
use Rattle.cv_parse_names.specs.declared.table.Scope.{Scope}

-- nothing is known
abbrev pub unseen : Entry
unseen = record { declared_somewhere = false; variable_somewhere = false; declared = None; bound_at = None; as_bound = false; as_index = false }

abbrev pub entry_at : List Entry → ℕ → Entry
entry_at table x = slice_index_or table x unseen

-- the use at a place below the length
abbrev pub use_at : List NameUse → ℕ → NameUse
use_at uses k = slice_index_or uses k (record { role = Declares AParam; name = 0; left = 0 })

-- what the uses of the next role are for
abbrev pub next_of : Uses → Option Role
next_of [] = None
next_of (u ∷ us) = Some u.role

-- what a use says of its name wherever it stands
abbrev pub foreseen : Entry → Role → Entry
foreseen e (Declares a) = record e { declared_somewhere = true }
foreseen e BindsVariable = record e { variable_somewhere = true }
foreseen e r = e

-- what the use at a place does with its name
abbrev pub noted : Entry → Role → ℕ → Entry
noted e (Declares a) at = record e { declared = Some a }
noted e BindsLocal at = record e { bound_at = Some at }
noted e BindsVariable at = record e { bound_at = Some at }
noted e BindsIndex at = record e { bound_at = Some at; as_index = true }
noted e BindsBound at = record e { as_bound = true }
noted e r at = e

-- the part that is open behind the use at a place
abbrev pub part_behind : Scope → Role → ℕ → Scope
part_behind s (Enters q) at = record { region = Some q; start = at + 1 }
part_behind s Leaves at = record s { region = None }
part_behind s r at = s

-- the first n uses have entries, which say what they say of each name wherever they stand, and no more
pub record IsSurvey (uses : List NameUse) (n : ℕ) (table : List Entry) : Type 0 where
  pub covers : (k : ℕ) → k < n → (use_at uses k).name < length table
  pub entries : (x : ℕ) → entry_at table x ≡ record unseen { declared_somewhere = is_used declares x (uses_of (take n uses)); variable_somewhere = is_used binds_variable x (uses_of (take n uses)) }

-- the rules, by an entry

abbrev pub was_declared : Asked → Option Asked → Bool
was_declared a None = false
was_declared a (Some b) = same_asked a b

abbrev pub is_since : ℕ → Option ℕ → Bool
is_since start None = false
is_since start (Some at) = nat_le start at

abbrev pub called : Role → Bool
called AsCall = true
called r = false

abbrev pub bare : Role → Bool
bare AsBare = true
bare r = false

abbrev pub goes_on_as_call : Option Role → Bool
goes_on_as_call None = false
goes_on_as_call (Some r) = called r

abbrev pub goes_on_bare : Option Role → Bool
goes_on_bare None = false
goes_on_bare (Some r) = bare r

abbrev pub declares_well : Entry → Asked → Bool
declares_well e a = not (is_some e.declared) && (not (is_some e.bound_at) && (same_asked a AParam || not e.as_bound))

abbrev pub may_bound : Entry → Bool
may_bound e = not (is_some e.declared) || was_declared AParam e.declared

abbrev pub stands_as_function : Entry → Option Role → Bool
stands_as_function e next = (goes_on_as_call next || goes_on_bare next) && was_declared AFunction e.declared

abbrev pub known_in : Option Region → Entry → ℕ → Option Role → Bool
known_in (Some InProcess) e start next =
    if goes_on_as_call next then was_declared AFunction e.declared
    else e.variable_somewhere || (goes_on_bare next && (was_declared AFunction e.declared || e.as_index))
known_in (Some InEquivalence) e start next = if is_since start e.bound_at then not (goes_on_as_call next) else stands_as_function e next || not e.declared_somewhere
known_in p e start next = stands_as_function e next || (not (goes_on_as_call next) && is_since start e.bound_at)

abbrev pub known : Entry → Scope → Option Role → Bool
known e s next = known_in s.region e s.start next

abbrev pub cell_known_in : Option Region → Entry → ℕ → Bool
cell_known_in (Some InProcess) e start = e.variable_somewhere
cell_known_in p e start = is_since start e.bound_at || not e.declared_somewhere

abbrev pub cell_known : Entry → Scope → Bool
cell_known e s = cell_known_in s.region e s.start

abbrev pub name_obeys : Entry → Scope → Role → Option Role → Bool
name_obeys e s (Declares a) next = declares_well e a
name_obeys e s (Asks a) next = was_declared a e.declared
name_obeys e s BindsLocal next = not (is_some e.declared)
name_obeys e s BindsVariable next = not (is_some e.declared)
name_obeys e s BindsIndex next = not (is_some e.declared)
name_obeys e s BindsBound next = may_bound e
name_obeys e s AsksBound next = may_bound e
name_obeys e s AsksIndex next = e.as_index
name_obeys e s Mentions next = known e s next
name_obeys e s MentionsCell next = cell_known e s
name_obeys e s r next = true
