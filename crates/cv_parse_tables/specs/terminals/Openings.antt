-- The two kinds of opening parentheses: those that open a right side of a query, and all others. At an atom of a right side
-- a parenthesis opens one exactly where `event` or `inj` stands before the parenthesis that closes it.
use Rattle.std.specs.Prelude.{ℕ, zero, suc, ◌-◌, ◌==◌, Bool, true, false, ◌&&◌, if◌then◌else◌, List, [], ◌∷◌, Option, Some, None}
use Rattle.cv_parse_notation.specs.declared.sign.Mark.{Mark}
use Rattle.cv_parse_notation.specs.declared.sign.Mark.TheVariants as mark
use Rattle.cv_parse_notation.specs.declared.sign.Sign.{Sign}
use Rattle.cv_parse_notation.specs.declared.sign.Sign.TheVariants as sign
use Rattle.cv_parse_tables.specs.declared.terminals.openings.Turn.{Turn}
use Rattle.cv_parse_tables.specs.declared.terminals.openings.Turn.TheVariants.{Event, Period, Opening, Closing, Joining, Arrow, Other}
use Rattle.cv_parse_tables.specs.declared.terminals.openings.Place.{Place}
use Rattle.cv_parse_tables.specs.declared.terminals.openings.Place.TheVariants.{Outside, AtAtom, InAtom}

-- what a sign is to the right sides of queries
abbrev pub turn_of_mark : Mark → Turn
turn_of_mark mark.EventWord = Event
turn_of_mark mark.Inj = Event
turn_of_mark mark.Dot = Period
turn_of_mark mark.Open = Opening
turn_of_mark mark.OpenAtoms = Opening
turn_of_mark mark.Close = Closing
turn_of_mark mark.Both = Joining
turn_of_mark mark.Either = Joining
turn_of_mark mark.Implies = Arrow
turn_of_mark m = Other

abbrev pub turn_of : Sign → Turn
turn_of (sign.Mark m) = turn_of_mark m
turn_of s = Other

-- an event ahead

abbrev pub one_less : Option ℕ → Option ℕ
one_less None = None
one_less (Some n) = Some (n - 1)

abbrev pub one_more : Option ℕ → Option ℕ
one_more None = None
one_more (Some n) = Some (suc n)

abbrev pub closings_at : Turn → Option ℕ → Option ℕ
closings_at Event closings = Some 0
closings_at Period closings = None
closings_at Opening closings = one_less closings
closings_at Closing closings = one_more closings
closings_at t closings = closings

-- how many parentheses are closed before the next event that aren't opened in these signs; none where no event stands before
-- the next period
unfoldable pub closings_before_event : List Sign → Option ℕ
closings_before_event [] = None
closings_before_event (s ∷ ss) = closings_at (turn_of s) (closings_before_event ss)

abbrev pub is_nought : Option ℕ → Bool
is_nought None = false
is_nought (Some n) = n == 0

-- behind an opening parenthesis: an event stands before the one that closes it
abbrev pub has_event : List Sign → Bool
has_event ss = is_nought (closings_before_event ss)

-- places in right sides

abbrev pub is_at_atom : Place → Bool
is_at_atom AtAtom = true
is_at_atom p = false

-- how many parentheses of an atom are open
abbrev pub open_in : Place → ℕ
open_in (InAtom depth) = depth
open_in p = 0

-- behind a sign in an atom, where so many of its parentheses are open
abbrev pub in_atom : ℕ → Turn → Place
in_atom depth Period = Outside
in_atom depth Opening = InAtom (suc depth)
in_atom depth Closing = InAtom (depth - 1)
in_atom zero Joining = AtAtom
in_atom depth t = InAtom depth

-- behind a sign that opens no right side
abbrev pub place_behind : Place → Turn → Place
place_behind Outside Arrow = AtAtom
place_behind Outside t = Outside
place_behind AtAtom t = in_atom 0 t
place_behind (InAtom depth) t = in_atom depth t

-- behind a sign, by whether a parenthesis there opens a right side
abbrev pub next_place : (right : Bool) → Place → Turn → Place
next_place true place Opening = AtAtom
next_place right place t = place_behind place t

-- an opening parenthesis, by whether it opens a right side, and any other sign as it is
abbrev pub with_opening : (right : Bool) → Turn → Sign → Sign
with_opening right Opening s = sign.Mark (if right then mark.OpenAtoms else mark.Open)
with_opening right t s = s

-- the signs from a place on, with each opening parenthesis told
unfoldable pub openings_from : Place → List Sign → List Sign
openings_from place [] = []
openings_from place (s ∷ ss) =
    let right = is_at_atom place && has_event ss in
    with_opening right (turn_of s) s ∷ openings_from (next_place right place (turn_of s)) ss

abbrev pub with_openings : List Sign → List Sign
with_openings ss = openings_from Outside ss

-- The same in two passes: each parenthesis with an event ahead, and of them those at an atom. This profile's own.

unfoldable pub with_events : List Sign → List Sign
with_events [] = []
with_events (s ∷ ss) = with_opening (has_event ss) (turn_of s) s ∷ with_events ss

abbrev pub is_for_atoms : Sign → Bool
is_for_atoms (sign.Mark mark.OpenAtoms) = true
is_for_atoms s = false

unfoldable pub settled_from : Place → List Sign → List Sign
settled_from place [] = []
settled_from place (s ∷ ss) =
    let right = is_at_atom place && is_for_atoms s in
    with_opening right (turn_of s) s ∷ settled_from (next_place right place (turn_of s)) ss
