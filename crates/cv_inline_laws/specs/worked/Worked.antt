-- A worked context with its next game, whose names, tapes and run are as is expected.
use Rattle.std.specs.Prelude.{ℕ, ◌==◌, ◌||◌, if◌then◌else◌, List, [], ◌∷◌, Option, Some, None}
use Rattle.cv_meaning.specs.Interpretation.{Setting, setting_of}
use Rattle.cv_meaning.specs.Runs.{Adversary, Move, Calls, Answer}
use Rattle.cv_meaning.specs.contexts.Worked.{parity, apply}
use Rattle.cv_meaning.specs.contexts.Inlined.{Drawn}
use Rattle.cv_meaning.specs.contexts.Roles.{Role, Plain, Replication, Gone}
use Rattle.cv_inline.specs.NextGame.{Calling, callings_of}
use Rattle.cv_inline.specs.Draws.{roles_of, label_draws, drawn_by, drawn_for}
use Rattle.cv_syntax_trees.specs.Tree.{Empty}
use Rattle.cv_syntax_trees.specs.Builders.{leaf}
use Rattle.cv_inline.specs.Worked.{one_sender, draws_for, was_authenticated}

-- one sender and one receiver; sizes and parameters are 2, and functions are sums modulo 2
abbrev pub setting : Setting
setting = setting_of [] parity

abbrev pub drawn_names : List ℕ
drawn_names = 71 ∷ 72 ∷ 73 ∷ 74 ∷ 75 ∷ []

abbrev pub roles : List Role
roles = roles_of (draws_for one_sender)

abbrev pub finds_drawn : List (ℕ × ℕ)
finds_drawn = label_draws (callings_of one_sender)

abbrev pub drawn : Drawn
drawn = drawn_by (draws_for one_sender) drawn_names finds_drawn (1 ∷ [])

-- the key and the answers are gone in the next game, and 51 and 53 are indices of replications
abbrev pub game_role : ℕ → Role
game_role y = if (y == 50) || (y == 60) || (y == 61) then Gone else if (y == 51) || (y == 53) then Replication else Plain

abbrev pub role : ℕ → Role
role y = drawn_for game_role roles drawn_names y

abbrev pub answer : ℕ → ℕ
answer s = if s == 0 then 60 else 61

-- a message is sent, and then another one is received, with a tag
abbrev pub sends_and_asks : List Answer → Option Move
sends_and_asks [] = Some (Calls 20 [] [])
sends_and_asks (a ∷ []) = Some (Calls 21 (0 ∷ []) (1 ∷ []))
sends_and_asks (a ∷ b ∷ []) = Some (Calls 23 (0 ∷ []) (0 ∷ 1 ∷ []))
sends_and_asks _ = None

abbrev pub asker : Adversary
asker = record { coins = []; coins_have_values = tt; moves = 3; next = λ coins. sends_and_asks }

-- the two sites, with their functions
abbrev pub sender : Calling
sender =
    record {
      caller = record { number = 0; bound = 36; names = 37 ∷ []; replications = (51, 4) ∷ []; key = Empty };
      function = record { index = Some 35; bound = 36; coins = []; arguments = (37, 1) ∷ []; body = apply 10 (leaf 37 ∷ leaf 33 ∷ []) };
    }

abbrev pub receiver : Calling
receiver =
    record {
      caller = record { number = 1; bound = 39; names = 40 ∷ 41 ∷ []; replications = (53, 5) ∷ []; key = Empty };
      function = record { index = Some 35; bound = 39; coins = []; arguments = (40, 1) ∷ (41, 3) ∷ []; body = was_authenticated };
    }
