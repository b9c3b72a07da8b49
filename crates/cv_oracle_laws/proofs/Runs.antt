-- The translation of a process, token by token, over the tokens themselves: each oracle is known by its name.
use Rattle.std.proofs.Common.{◌≡◌, ℕ, Bool, if◌then◌else◌, ◌&&◌, List, [], ◌∷◌, ◌++◌, map, codes, refl, ap, sym, ◌∙◌, Option, Some, None}
use Rattle.std.specs.Str.{bytes_eq}
use Rattle.std.proofs.lemmas.List.{append_assoc}
use Rattle.cv_lex.specs.declared.TokenKind.{TokenKind}
use Rattle.cv_lex.specs.Lexis.{Token}
use Rattle.cv_parse_tables.specs.terminals.Signs.{first_text}
use Rattle.cv_oracles.specs.declared.form.Form.{Form}
use Rattle.cv_oracles.specs.declared.form.Mode.{Mode}
use Rattle.cv_oracles.specs.declared.form.Mode.TheVariants.{Input, Output, Behind}
use Rattle.cv_oracles.specs.declared.frames.Opening.{Opening}
use Rattle.cv_oracles.specs.declared.frames.Opening.TheVariants.{Parenthesis}
use Rattle.cv_oracles.specs.declared.frames.Sought.{Sought}
use Rattle.cv_oracles.specs.declared.frames.Sought.TheVariants as sought
use Rattle.cv_oracles.specs.declared.words.Piece.{Piece}
use Rattle.cv_oracles.specs.declared.words.Piece.TheVariants.{Own, Oracle, The}
use Rattle.cv_oracles.specs.Frames.{is_opening}
use Rattle.cv_oracles.specs.Pieces.{pieces, word_for}
use Rattle.cv_oracles.specs.Readings.{is_input, opening_of}
use Rattle.cv_oracles.specs.Regions.{is_name}
use Rattle.cv_oracles.specs.Steps.{step}

-- something that is open, and the oracle in whose definition it stands
pub record Opened : Type 0 where
  pub opening : Opening
  pub oracle : Token

pub record State : Type 0 where
  pub mode : Mode
  pub oracle : Token
  pub frames : List Opened

abbrev pub at : Mode → Token → List Opened → State
at m o fs = record { mode = m; oracle = o; frames = fs }

abbrev pub open_as : Opening → Token → Opened
open_as p o = record { opening = p; oracle = o }

abbrev pub is_one : Sought → Opened → Bool
is_one s f = is_opening s f.opening

abbrev pub from_one : (Opened → Bool) → List Opened → List Opened
from_one is [] = []
from_one is (f ∷ fs) = if is f then f ∷ fs else from_one is fs

abbrev pub behind_one : List Opened → List Opened
behind_one [] = []
behind_one (f ∷ fs) = fs

abbrev pub oracle_of : List Opened → Token → Token
oracle_of [] other = other
oracle_of (f ∷ fs) other = f.oracle

abbrev pub with_open : State → Token → List Opened → State
with_open s o fs = record { mode = s.mode; oracle = o; frames = fs }

abbrev pub enters : State → TokenKind → List ℕ → Token → State
enters s kind text t =
    if bytes_eq text (codes "(") then with_open s s.oracle (open_as Parenthesis s.oracle ∷ s.frames)
    else (if is_name kind text then with_open s t s.frames else s)

abbrev pub opens_by : State → Option Opening → State
opens_by s None = s
opens_by s (Some p) = with_open s s.oracle (open_as p s.oracle ∷ s.frames)

abbrev pub closes : State → List ℕ → State
closes s text =
    let tests = from_one (is_one sought.Test) s.frames in
    let finds = from_one (is_one sought.Find) s.frames in
    if bytes_eq text (codes ")") then with_open s s.oracle (behind_one (from_one (is_one sought.Parenthesis) s.frames))
    else (if bytes_eq text (codes "else") then with_open s (oracle_of tests s.oracle) (behind_one tests)
    else (if bytes_eq text (codes "orfind") then with_open s (oracle_of finds s.oracle) finds
    else s))

abbrev pub notes : Mode → State → TokenKind → List ℕ → Token → State
notes Input s kind text t = enters s kind text t
notes Output s kind text t = opens_by s (opening_of text)
notes Behind s kind text t = closes s text
notes m s kind text t = s

abbrev pub piece_of : (oracle own : Token) → Piece → Token
piece_of o t Own = t
piece_of o t Oracle = o
piece_of o t (The w) = word_for w 0

-- what is written for a token, the oracle that it defines, and the state behind it
pub record Move : Type 0 where
  pub written : List Token
  pub defined : List Token
  pub after : State

abbrev pub with_mode : Mode → State → State
with_mode m s = record { mode = m; oracle = s.oracle; frames = s.frames }

abbrev pub move_by : State → Token → TokenKind → List ℕ → Form × Mode → Move
move_by s t kind text fm = record {
  written = map (piece_of s.oracle t) (pieces fm.0);
  defined = if is_input s.mode && is_name kind text then t ∷ [] else [];
  after = with_mode fm.1 (notes s.mode s kind text t);
}

abbrev pub move : State → Token → TokenKind → (text next : List ℕ) → Move
move s t kind text next = move_by s t kind text (step s.mode kind text next)

abbrev pub move_at : State → Token → List Token → Move
move_at s t ts = move s t t.kind t.text (first_text ts)

unfoldable pub writes : State → List Token → List Token
writes s [] = []
writes s (t ∷ ts) = (move_at s t ts).written ++ writes (move_at s t ts).after ts

unfoldable pub defines : State → List Token → List Token
defines s [] = []
defines s (t ∷ ts) = (move_at s t ts).defined ++ defines (move_at s t ts).after ts

-- from a state to another: what is written, and which oracles are defined
pub record Goes (s : State) (ts fs os : List Token) (r : State) (rest : List Token) : Type 0 where
  pub written : writes s ts ≡ fs ++ writes r rest
  pub defined : defines s ts ≡ os ++ defines r rest

pub stay : (s : State) (ts : List Token) → Goes s ts [] [] s ts
stay s ts = record { written = refl; defined = refl }

pub one : (s : State) (t : Token) (ts : List Token) (m : Move) → move_at s t ts ≡ m → Goes s (t ∷ ts) m.written m.defined m.after ts
unfolding writes defines
one s t ts m e = record { written = ap (λ x. x.written ++ writes x.after ts) e; defined = ap (λ x. x.defined ++ defines x.after ts) e }

pub both : {s r q : State} {ts us vs fs gs os ps : List Token} → Goes s ts fs os r us → Goes r us gs ps q vs → Goes s ts (fs ++ gs) (os ++ ps) q vs
both {s} {r} {q} {ts} {us} {vs} {fs} {gs} {os} {ps} a b = record {
  written = a.written ∙ ap (λ l. fs ++ l) b.written ∙ sym (append_assoc fs gs (writes q vs));
  defined = a.defined ∙ ap (λ l. os ++ l) b.defined ∙ sym (append_assoc os ps (defines q vs));
}

-- a last part that defines no oracle
pub ends : {s r q : State} {ts us vs fs gs os : List Token} → Goes s ts fs os r us → Goes r us gs [] q vs → Goes s ts (fs ++ gs) os q vs
ends {s} {r} {q} {ts} {us} {vs} {fs} {gs} {os} a b = record {
  written = (both a b).written;
  defined = a.defined ∙ ap (λ l. os ++ l) b.defined;
}
