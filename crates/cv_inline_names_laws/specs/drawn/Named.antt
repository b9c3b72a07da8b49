-- The text of a context and its next game whose names are drawn: a name's role is what it is drawn for, and each name and find of a
-- right body has its own. This profile's own.
use Rattle.std.specs.Prelude.{◌≡◌, ℕ, Bool, true, false, ◌==◌, List, [], length, Option, Some, None}
use Rattle.std.proofs.Common.{refl}
use Rattle.cv_meaning.specs.Tapes.{Tape, blank}
use Rattle.cv_meaning.specs.Interpretation.{Setting}
use Rattle.cv_meaning.specs.contexts.Bodies.{function_called}
use Rattle.cv_meaning.specs.contexts.Groups.{Function, Right, side_group}
use Rattle.cv_meaning.specs.contexts.Sides.{Context, oracles_of}
use Rattle.cv_meaning.specs.contexts.Sites.{sites_of}
use Rattle.cv_meaning.specs.contexts.Roles.{Role, Gone, TheKeyName, Variable, Index}
use Rattle.cv_inline.specs.NextGame.{Calling, callings_of, inlined_calls_of, numbered}
use Rattle.cv_inline_laws.specs.draws.DrawnNames.{AreApart, DrawnNames, drawn_in, find_in, has_find, has_indices, has_name, is_new, names_of_draws, role_in}
use Rattle.cv_inline_laws.proofs.draws.Names.{index_among, name_again, name_new}
use Rattle.cv_inline_laws.specs.runs.Texts.{Text}
use Rattle.cv_inline_names_laws.specs.cells.Cells.{on_tape}
use Rattle.cv_inline_names_laws.specs.cells.Layout.{Types, type_in}

-- the number of indices of a site
abbrev pub indices_of : Option Calling → ℕ
indices_of None = 0
indices_of (Some c) = length c.caller.replications

abbrev pub arity_in : List Calling → ℕ → ℕ
arity_in cs s = indices_of (numbered s cs)

-- the names and labels that are drawn for a context
abbrev pub drawn_for_context : Context → (names labels : List ℕ) → (ℕ → Role) → DrawnNames
drawn_for_context c names labels role = names_of_draws (side_group Right c.equivalence) (callings_of c) names labels role

-- a context with drawn names: none is a constant, and what the next game has not is drawn for nothing
pub record NamedContext : Type 0 where
  pub g : Setting  -- of the next game
  pub context : Context
  pub key : ℕ  -- the game's
  pub names : List ℕ
  pub labels : List ℕ
  pub game_role : ℕ → Role
  pub answer : ℕ → ℕ
  pub constant : ℕ → Bool
  pub key_length : ℕ
  pub apart : AreApart (drawn_for_context context names labels game_role)
  pub no_constant : (y : ℕ) → is_new (drawn_for_context context names labels game_role) y ≡ true → g.is_constant y ≡ false
  pub constants : (x : ℕ) → constant x ≡ true → g.is_constant x ≡ true
  pub answers : (s : ℕ) → role_in (drawn_for_context context names labels game_role) (answer s) ≡ Gone
  pub key_apart : (s : ℕ) → (key == answer s) ≡ false

abbrev pub names_of : NamedContext → DrawnNames
names_of c = drawn_for_context c.context c.names c.labels c.game_role

-- on two tapes
abbrev pub text_of : NamedContext → (side_tape game_tape : Tape) → Text
text_of c side_tape game_tape =
    record {
      g = c.g;
      calls = inlined_calls_of c.context c.key (drawn_in (names_of c));
      sites = sites_of c.g c.context.game c.context.functions;
      answer = c.answer;
      side_tape = side_tape;
      game_tape = game_tape;
      key_length = c.key_length;
      role = role_in (names_of c);
      drawn = is_new (names_of c);
      has = has_name (names_of c);
      constant = c.constant;
      arity = arity_in (callings_of c.context);
      finds = has_find (names_of c);
      opens = λ s q o b. has_indices (names_of c) s q o b 0 (arity_in (callings_of c.context) o);
      no_constant = c.no_constant;
      constants = c.constants;
      drawn_key = name_new (names_of c) c.apart TheKeyName refl;
      drawn_at = λ s v h. name_new (names_of c) c.apart (Variable s v) h;
      drawn_indices = λ s q o b k h l. name_new (names_of c) c.apart (Index s q o b k) (index_among (names_of c) c.apart s q o b (arity_in (callings_of c.context) o) k h l);
      key_role = name_again (names_of c) c.apart TheKeyName refl;
      variables = λ s v h. name_again (names_of c) c.apart (Variable s v) h;
      indices = λ s q o b k h l. name_again (names_of c) c.apart (Index s q o b k) (index_among (names_of c) c.apart s q o b (arity_in (callings_of c.context) o) k h l);
      answers = c.answers;
      key_apart = c.key_apart;
    }

-- the types of what the functions of a context's sites choose, with those of the game

abbrev pub type_called : Option Function → ℕ → ℕ
type_called None z = 0
type_called (Some f) z = type_in f.body z

abbrev pub types_of : NamedContext → (game : ℕ → ℕ) → Types
types_of c game = record { game = game; at_site = λ s. type_called (function_called (oracles_of c.g c.context Right) (record { tuple = []; site = s })) }

-- on a tape of the next game, which the context reads with cells swapped
abbrev pub named_on_tape : NamedContext → Tape → Text
named_on_tape c t = on_tape (text_of c blank blank) (find_in (names_of c)) t
