-- Adversaries that are finite tables. This profile's own.
use Rattle.std.specs.Prelude.{ℕ, ◌≤◌, Bool, true, false, ◌&&◌, ◌==◌, if◌then◌else◌, List, [], ◌∷◌, Option, Some, None}
use Rattle.std.specs.List.{AllByRecursion}
use Rattle.cv_syntax_trees.specs.Tree.{Tree}
use Rattle.cv_meaning.specs.Tapes.{Tape, same_tuple}
use Rattle.cv_meaning.specs.Interpretation.{Setting}
use Rattle.cv_meaning.specs.Serving.{Reply, Yielded, Sent}
use Rattle.cv_meaning.specs.Runs.{Move, Answer, Refused, Replied, Told, Mode, Adversary, State}
use Rattle.cv_meaning.specs.Experiments.{run}
use Rattle.cv_meaning.specs.Chances.{Chance}
use Rattle.cv_meaning.specs.Advantage.{advantage}

abbrev pub same_reply : Reply → Reply → Bool
same_reply Yielded Yielded = true
same_reply (Sent c u vs) (Sent d w ws) = (c == d) && (same_tuple u w && same_tuple vs ws)
same_reply _ _ = false

abbrev pub same_answer : Answer → Answer → Bool
same_answer Refused Refused = true
same_answer (Replied r) (Replied s) = same_reply r s
same_answer (Told v) (Told w) = v == w
same_answer _ _ = false

abbrev pub same_answers : List Answer → List Answer → Bool
same_answers [] [] = true
same_answers (x ∷ xs) (y ∷ ys) = same_answer x y && same_answers xs ys
same_answers _ _ = false

-- with these coins, after these answers, this move
pub record Row : Type 0 where
  pub coins : List ℕ
  pub answers : List Answer
  pub move : Move

-- the move of the first row that fits the coins and the answers so far, or none
abbrev pub move_in : List Row → List ℕ → List Answer → Option Move
move_in [] coins answers = None
move_in (r ∷ rows) coins answers =
    if same_tuple r.coins coins && same_answers r.answers answers then Some r.move else move_in rows coins answers

-- the sizes of coins, a number of moves, and finitely many rows
pub record Table : Type 0 where
  pub coins : List ℕ
  pub coins_have_values : AllByRecursion (λ n. 1 ≤ n) coins
  pub moves : ℕ
  pub rows : List Row

-- the adversary that plays by a table, and stops where no row fits
abbrev pub table_adversary : Table → Adversary
table_adversary T = record { coins = T.coins; coins_have_values = T.coins_have_values; moves = T.moves; next = move_in T.rows }

-- a game that is run in a setting and a mode on a tape
pub record Play : Type 0 where
  pub setting : Setting
  pub mode : Mode
  pub game : Tree
  pub tape : Tape

abbrev pub run_of : Play → Adversary → State
run_of p a = run p.setting p.mode a p.game p.tape

-- a game with a query, in a setting
pub record Target : Type 0 where
  pub setting : Setting
  pub query : Tree
  pub game : Tree

abbrev pub advantage_at : Target → Adversary → Chance
advantage_at x a = advantage x.setting x.query a x.game
