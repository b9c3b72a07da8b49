-- Runs: the calls, tests and guess of an adversary. Blanchet, TDSC 2008, section 2, for runs, and the
-- same paper for tests of a secret. That a call is answered by the whole service of one available copy,
-- before the next move, is this profile's own.
use Rattle.std.specs.Prelude.{ℕ, zero, suc, ◌≤◌, Bool, true, false, ◌&&◌, ◌==◌, if◌then◌else◌, List, [], ◌∷◌, ◌++◌, Option, Some, None, is_some}
use Rattle.std.specs.List.{AllByRecursion}
use Rattle.cv_syntax_trees.specs.Tree.{Tree}
use Rattle.cv_meaning.specs.Tapes.{Tape, Test_at, same_tuple}
use Rattle.cv_meaning.specs.Interpretation.{Setting}
use Rattle.cv_meaning.specs.Memory.{Memory, no_memory, Local, tuple}
use Rattle.cv_meaning.specs.Binders.{fits}
use Rattle.cv_meaning.specs.Inputs.{Input, inputs_of, message_binders}
use Rattle.cv_meaning.specs.Serving.{Served, Reply, serve, Visit, visits}

pub data Move : Type 0 where
  Calls : (channel : ℕ) → (tuple message : List ℕ) → Move
  Tests : (tuple : List ℕ) → Move
  Guesses : (bit : ℕ) → Move

pub data Answer : Type 0 where
  Refused : Answer
  Replied : Reply → Answer
  Told : (value : ℕ) → Answer

-- what a run is played for: events, or the secrecy of a variable, for its own values or random ones,
-- in the form of many tests or of one
pub data Mode : Type 0 where
  Events : Mode
  Real Random : (one_session : Bool) → (x : ℕ) → Mode

-- the sizes of its coins, a number of moves, and the next move after its coins and the answers so far
pub record Adversary : Type 0 where
  pub coins : List ℕ
  pub coins_have_values : AllByRecursion (λ n. 1 ≤ n) coins
  pub moves : ℕ
  pub next : List ℕ → List Answer → Option Move

pub record State : Type 0 where
  pub memory : Memory
  pub inputs : List Input
  pub answers : List Answer  -- the newest last
  pub tested : Bool  -- whether a test was answered
  pub guess : Option ℕ

abbrev pub answered : State → Answer → State
answered st a = record st { answers = st.answers ++ a ∷ [] }

-- calls

-- an available copy, and the other ones
pub record Taken : Type 0 where
  pub input : Input
  pub others : List Input

abbrev pub is_at : ℕ → List ℕ → Input → Bool
is_at c u i = (i.channel == c) && same_tuple (tuple i.indices) u

abbrev pub behind : Input → Option Taken → Option Taken
behind i None = None
behind i (Some k) = Some (record k { others = i ∷ k.others })

-- the first available copy of the channel at the tuple
unfoldable pub taken : ℕ → List ℕ → List Input → Option Taken
taken c u [] = None
taken c u (i ∷ is) = if is_at c u i then Some (record { input = i; others = is }) else behind i (taken c u is)

abbrev pub if_fitting : Setting → List ℕ → Option Taken → Option Taken
if_fitting g vs None = None
if_fitting g vs (Some k) = if fits g.interpretation.type_size (message_binders k.input) vs then Some k else None

-- the same, where the message fits it
abbrev pub admitted : Setting → ℕ → List ℕ → List ℕ → List Input → Option Taken
admitted g c u vs is = if_fitting g vs (taken c u is)

abbrev pub begun : State → Input → Local
begun st i = record { indices = i.indices; memory = st.memory }

abbrev pub serve_input : Setting → Tape → State → Input → List ℕ → Served
serve_input g t st i vs = serve g t i.tree i.place 0 vs (begun st i)

abbrev pub after_service : State → List Input → Served → State
after_service st others r =
    record { memory = r.last.memory; inputs = others ++ r.opened; answers = st.answers ++ Replied r.reply ∷ []; tested = st.tested; guess = st.guess }

abbrev pub called : Setting → Tape → State → List ℕ → Option Taken → State
called g t st vs None = answered st Refused
called g t st vs (Some k) = after_service st k.others (serve_input g t st k.input vs)

-- tests

abbrev pub real_value : State → ℕ → List ℕ → Option ℕ
real_value st x u = st.memory.store x u

abbrev pub random_value : Tape → State → ℕ → List ℕ → Option ℕ
random_value t st x u = if is_some (st.memory.store x u) then Some (t (Test_at u)) else None

-- the value that a test is told, or none where it is refused
abbrev pub told : Mode → Tape → State → List ℕ → Option ℕ
told Events t st u = None
told (Real one x) t st u = if one && st.tested then None else real_value st x u
told (Random one x) t st u = if one && st.tested then None else random_value t st x u

abbrev pub tested_with : State → Option ℕ → State
tested_with st None = answered st Refused
tested_with st (Some v) = record st { answers = st.answers ++ Told v ∷ []; tested = true }

-- moves

unfoldable pub moved : Setting → Mode → Tape → State → Move → State
moved g m t st (Calls c u vs) = called g t st vs (admitted g c u vs st.inputs)
moved g m t st (Tests u) = tested_with st (told m t st u)
moved g m t st (Guesses b) = record st { guess = Some b }

-- a guess is the last move
abbrev pub next_move : (List Answer → Option Move) → State → Option Move
next_move next st = if is_some st.guess then None else next st.answers

abbrev pub by_move : {A : Type 0} → A → (Move → A) → Option Move → A
by_move stopped go_on None = stopped
by_move stopped go_on (Some a) = go_on a

-- the fold of at most n moves
unfoldable pub run_from : Setting → Mode → (List Answer → Option Move) → Tape → ℕ → State → State
run_from g m next t zero st = st
run_from g m next t (suc n) st = by_move st (λ a. run_from g m next t n (moved g m t st a)) (next_move next st)

abbrev pub start : Setting → Tree → State
start g game = record { memory = no_memory; inputs = inputs_of g game 0 []; answers = []; tested = false; guess = None }

-- what a run visits

abbrev pub visits_of_call : Setting → Tape → State → List ℕ → Option Taken → List Visit
visits_of_call g t st vs None = []
visits_of_call g t st vs (Some k) = visits g t k.input.tree k.input.place 0 vs (begun st k.input)

unfoldable pub visits_of_move : Setting → Tape → State → Move → List Visit
visits_of_move g t st (Calls c u vs) = visits_of_call g t st vs (admitted g c u vs st.inputs)
visits_of_move g t st (Tests u) = []
visits_of_move g t st (Guesses b) = []

unfoldable pub run_visits : Setting → Mode → (List Answer → Option Move) → Tape → ℕ → State → List Visit
run_visits g m next t zero st = []
run_visits g m next t (suc n) st = by_move [] (λ a. visits_of_move g t st a ++ run_visits g m next t n (moved g m t st a)) (next_move next st)
