-- The service of one input, up to its output. Blanchet, TDSC 2008, section 2; events are those of
-- Blanchet, CSF 2007, and calls those of Blanchet and Pointcheval, CRYPTO 2006.
use Rattle.std.specs.Prelude.{ℕ, zero, suc, if◌then◌else◌, List, [], ◌∷◌, Option, Some, None}
use Rattle.cv_syntax_trees.specs.declared.head.Head.{Head}
use Rattle.cv_syntax_trees.specs.declared.head.Head.TheVariants.{In, Out, Event, New, Let, If, Find, Branch, Cons, Key, Call, Read}
use Rattle.cv_syntax_trees.specs.Tree.{Tree, Empty, Node, first, second, first_place, second_place}
use Rattle.cv_meaning.specs.Tapes.{Tape, New_at, Find_at}
use Rattle.cv_meaning.specs.Side.{OracleCall}
use Rattle.cv_meaning.specs.Interpretation.{Setting}
use Rattle.cv_meaning.specs.Memory.{Local, tuple, with_value, with_event, with_answer}
use Rattle.cv_meaning.specs.Terms.{is_one, value_here, values_here}
use Rattle.cv_meaning.specs.Binders.{with_bound}
use Rattle.cv_meaning.specs.Candidates.{Candidate, candidates, chosen}
use Rattle.cv_meaning.specs.Inputs.{Input, inputs_of}

-- the answer to a call of the adversary
pub data Reply : Type 0 where
  Yielded : Reply
  Sent : (channel : ℕ) → (tuple values : List ℕ) → Reply

-- what a service gives: its reply, the inputs that it opens, and its last state
pub record Served : Type 0 where
  pub reply : Reply
  pub opened : List Input
  pub last : Local

-- where a service goes on: in which child, with the number of a body in a list of bodies, and the
-- values of the variables that an input or a branch binds
pub data Turn : Type 0 where
  Ends : Served → Turn
  First Second : (body : ℕ) → (bound : List ℕ) → Local → Turn

abbrev pub ended : Reply → List Input → Local → Turn
ended r is s = Ends (record { reply = r; opened = is; last = s })

-- into the branch of the candidate, or into the else body
abbrev pub after_find : Local → Option Candidate → Turn
after_find s None = Second 0 [] s
after_find s (Some c) = First c.branch c.tuple s

-- the values of the index terms of a read of a key
abbrev pub key_tuple : Setting → Local → Tree → List ℕ
key_tuple g s (Node (Read x) a b) = values_here g s a
key_tuple g s _ = []

-- the call of a site: a read of the key, and then the arguments
abbrev pub oracle_call : Setting → Local → ℕ → Tree → OracleCall
oracle_call g s l ms = record { key = key_tuple g s (first ms); number = record { tuple = tuple s.indices; site = l }; arguments = values_here g s (second ms) }

-- one construct, with its two children and its place
unfoldable pub step : Setting → Tape → Head → Tree → Tree → ℕ → ℕ → List ℕ → Local → Turn
step g t (In c) a b p k vs s = Second 0 [] (with_bound s (second a) vs)
step g t (New x T) a b p k vs s = Second 0 [] (with_value s x (t (New_at x (tuple s.indices))))
step g t (Let x T) a b p k vs s = Second 0 [] (with_value s x (value_here g s a))
step g t (Event e) a b p k vs s = Second 0 [] (with_event s e (values_here g s a))
step g t If a b p k vs s = Second (if is_one (value_here g s a) then 0 else 1) [] s
step g t (Find l) a b p k vs s = after_find s (chosen (candidates g s.indices s.memory.store a) (t (Find_at l (tuple s.indices))))
step g t Branch a b p k vs s = Second 2 [] (with_bound s a vs)
step g t (Key x) a b p k vs s = Second 0 [] (with_value s x 0)
step g t (Call x l) a b p k vs s = Second 0 [] (with_answer s x (g.side.reply t s.memory.arrays (oracle_call g s l a)))
step g t Cons a b p zero vs s = First 0 vs s
step g t Cons a b p (suc k) vs s = Second k vs s
step g t (Out c) a b p k vs s = ended (Sent c (tuple s.indices) (values_here g s (second a))) (inputs_of g b (second_place p (Out c) a) s.indices) s
step g t h a b p k vs s = ended Yielded [] s

abbrev pub after_turn : {A : Type 0} → (Served → A) → (ℕ → List ℕ → Local → A) → (ℕ → List ℕ → Local → A) → Turn → A
after_turn ends first second (Ends r) = ends r
after_turn ends first second (First k vs s) = first k vs s
after_turn ends first second (Second k vs s) = second k vs s

unfoldable pub serve : Setting → Tape → Tree → ℕ → ℕ → List ℕ → Local → Served
serve g t Empty p k vs s = record { reply = Yielded; opened = []; last = s }
serve g t (Node h a b) p k vs s = after_turn (λ r. r) (serve g t a (first_place p h)) (serve g t b (second_place p h a)) (step g t h a b p k vs s)

-- a construct that a service comes to, with its place and the state before it
pub record Visit : Type 0 where
  pub place : ℕ
  pub tree : Tree
  pub before : Local

-- the visits of a service, in order
unfoldable pub visits : Setting → Tape → Tree → ℕ → ℕ → List ℕ → Local → List Visit
visits g t Empty p k vs s = []
visits g t (Node h a b) p k vs s =
    record { place = p; tree = Node h a b; before = s }
    ∷ after_turn (λ r. []) (visits g t a (first_place p h)) (visits g t b (second_place p h a)) (step g t h a b p k vs s)
