-- How far a process is read: what is awaited, which oracle is defined, and what is open.
use Rattle.std.specs.Prelude.{Bool, true, false, ◌&&◌, if◌then◌else◌, ℕ, List, [], ◌∷◌, codes, Option, Some, None}
use Rattle.std.specs.Str.{bytes_eq}
use Rattle.cv_lex.specs.declared.TokenKind.{TokenKind}
use Rattle.cv_oracles.specs.declared.form.Mode.{Mode}
use Rattle.cv_oracles.specs.declared.form.Mode.TheVariants.{Input, Output, Behind}
use Rattle.cv_oracles.specs.declared.frames.Frame.{Frame}
use Rattle.cv_oracles.specs.declared.frames.Opening.{Opening}
use Rattle.cv_oracles.specs.declared.frames.Opening.TheVariants.{Parenthesis, If, Find}
use Rattle.cv_oracles.specs.declared.frames.Sought.TheVariants as sought
use Rattle.cv_oracles.specs.declared.reading.Reading.{Reading}
use Rattle.cv_oracles.specs.Frames.{behind_first, from_first, innermost, is_sought}
use Rattle.cv_oracles.specs.Regions.{is_name}
use Rattle.cv_oracles.specs.Steps.{step}

-- behind the word `process`, which has this number
abbrev pub at_start : (word : ℕ) → Reading
at_start word = record { mode = Input; oracle = word; frames = [] }

abbrev pub is_input : Mode → Bool
is_input Input = true
is_input m = false

-- an identifier that is the name of an oracle
abbrev pub defines : Reading → TokenKind → List ℕ → Bool
defines r kind text = is_input r.mode && is_name kind text

abbrev pub frame : Opening → (oracle : ℕ) → Frame
frame o oracle = record { opening = o; oracle = oracle }

abbrev pub with_frames : Reading → (oracle : ℕ) → List Frame → Reading
with_frames r oracle frames = record { mode = r.mode; oracle = oracle; frames = frames }

-- at an input process
abbrev pub entered : Reading → TokenKind → List ℕ → (k : ℕ) → Reading
entered r kind text k =
    if bytes_eq text (codes "(") then with_frames r r.oracle (frame Parenthesis r.oracle ∷ r.frames)
    else (if is_name kind text then with_frames r k r.frames else r)

-- what a text opens in an output process
abbrev pub opening_of : List ℕ → Option Opening
opening_of text = if bytes_eq text (codes "(") then Some Parenthesis else (if bytes_eq text (codes "if") then Some If else (if bytes_eq text (codes "find") then Some Find else None))

abbrev pub opened_by : Reading → Option Opening → Reading
opened_by r None = r
opened_by r (Some o) = with_frames r r.oracle (frame o r.oracle ∷ r.frames)

abbrev pub opened : Reading → List ℕ → Reading
opened r text = opened_by r (opening_of text)

-- behind a process: `)` closes the innermost parenthesis, `else` the innermost test, and `orfind` all within the innermost `find`; behind
-- these words the oracle of the test is defined again
abbrev pub closed : Reading → List ℕ → Reading
closed r text =
    let tests = from_first (is_sought sought.Test) r.frames in
    let finds = from_first (is_sought sought.Find) r.frames in
    if bytes_eq text (codes ")") then with_frames r r.oracle (behind_first (from_first (is_sought sought.Parenthesis) r.frames))
    else (if bytes_eq text (codes "else") then with_frames r (innermost tests r.oracle) (behind_first tests)
    else (if bytes_eq text (codes "orfind") then with_frames r (innermost finds r.oracle) finds
    else r))

abbrev pub noted_in : Mode → Reading → TokenKind → List ℕ → (k : ℕ) → Reading
noted_in Input r kind text k = entered r kind text k
noted_in Output r kind text k = opened r text
noted_in Behind r kind text k = closed r text
noted_in m r kind text k = r

abbrev pub noted : Reading → TokenKind → List ℕ → (k : ℕ) → Reading
noted r kind text k = noted_in r.mode r kind text k

-- behind the token with this number, before another text
abbrev pub behind : Reading → TokenKind → (text next : List ℕ) → (k : ℕ) → Reading
behind r kind text next k =
    let s = noted r kind text k in
    record { mode = (step r.mode kind text next).1; oracle = s.oracle; frames = s.frames }
