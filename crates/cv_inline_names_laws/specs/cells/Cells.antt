-- The cells of a context with the right side as those of its next game: the choice of a key is the drawn key's `new`, and what a
-- call of a site draws and picks is what the body that stands there draws and finds. Blanchet and Pointcheval, CRYPTO 2006; that cells are
-- swapped, so that none is lost, is this profile's own.
use Rattle.std.specs.Prelude.{ℕ, Bool, false, ◌==◌, if◌then◌else◌, List, Option, Some, None}
use Rattle.cv_meaning.specs.Tapes.{Cell, New_at, Find_at, Key_at, Made_at, Picked_at, Tape}
use Rattle.cv_meaning.specs.contexts.Inlined.{Drawn}
use Rattle.cv_meaning.specs.contexts.Roles.{Role, TheKeyName, Variable}
use Rattle.cv_inline.specs.Draws.{same_find, same_role}
use Rattle.cv_inline_laws.specs.runs.Texts.{Text}

-- the drawn names, the role of each name, and for a label that is drawn the find: its site, and its place in the body
pub record RightNames : Type 0 where
  pub drawn : Drawn
  pub role : ℕ → Role
  pub find : ℕ → Option (ℕ × ℕ)

abbrev pub new_for : RightNames → (variable : ℕ) → (tuple : List ℕ) → Role → Cell
new_for n y w TheKeyName = if n.drawn.key == y then Key_at w else New_at y w
new_for n y w (Variable s v) = if n.drawn.variable s v == y then Made_at v w s else New_at y w
new_for n y w r = New_at y w

abbrev pub find_for : RightNames → (label : ℕ) → (tuple : List ℕ) → Option (ℕ × ℕ) → Cell
find_for n l w None = Find_at l w
find_for n l w (Some f) = if n.drawn.label f.0 f.1 == l then Picked_at f.1 w f.0 else Find_at l w

abbrev pub is_that_find : Option (ℕ × ℕ) → ℕ × ℕ → Bool
is_that_find None f = false
is_that_find (Some g) f = same_find g f

abbrev pub at_right : RightNames → Cell → Cell
at_right n (New_at y w) = new_for n y w (n.role y)
at_right n (Find_at l w) = find_for n l w (n.find l)
at_right n (Key_at w) = if same_role (n.role n.drawn.key) TheKeyName then New_at n.drawn.key w else Key_at w
at_right n (Made_at v w s) = if same_role (n.role (n.drawn.variable s v)) (Variable s v) then New_at (n.drawn.variable s v) w else Made_at v w s
at_right n (Picked_at q w s) = if is_that_find (n.find (n.drawn.label s q)) (s, q) then Find_at (n.drawn.label s q) w else Picked_at q w s
at_right n c = c

-- those of a text, where this tells the finds of drawn labels
abbrev pub names_in : Text → (ℕ → Option (ℕ × ℕ)) → RightNames
names_in T find = record { drawn = T.calls.drawn; role = T.role; find = find }

-- the text on a tape of the next game, which the context reads with cells swapped
abbrev pub on_tape : Text → (ℕ → Option (ℕ × ℕ)) → Tape → Text
on_tape T find t = record T { side_tape = λ c. t (at_right (names_in T find) c); game_tape = t }
