-- The processes of oracle files, token by token: what is written for each, and what is awaited behind it.
use Rattle.std.specs.Prelude.{Bool, true, false, ◌||◌, nat_lt, if◌then◌else◌, ℕ, ◌+◌, ◌-◌, List, codes}
use Rattle.std.specs.Str.{bytes_eq}
use Rattle.cv_lex.specs.declared.TokenKind.{TokenKind}
use Rattle.cv_lex.specs.declared.TokenKind.TheVariants.{Ident, Number, Symbol, End}
use Rattle.cv_oracles.specs.declared.form.Form.{Form}
use Rattle.cv_oracles.specs.declared.form.Form.TheVariants.{Itself, Refused, Nothing, Bang, Receives, Begins, Yields, Sends, SendsNothing, Draws, Binds, Equals, Into, Ends}
use Rattle.cv_oracles.specs.declared.form.Mode.{Mode}
use Rattle.cv_oracles.specs.declared.form.Mode.TheVariants.{Input, Index, Below, Bound, Do, Head, Variables, Defines, Output, Arrow, Random, Line, Colon, OfType, Gets, Term, Test, Payload, Behind}
use Rattle.cv_oracles.specs.declared.region.Region.TheVariants.{Process}
use Rattle.cv_oracles.specs.Regions.{is_barred, is_name}

-- a token as it is, where it may stand in a process
abbrev pub kept : List ℕ → Form
kept text = if is_barred Process text then Refused else Itself

-- where one text alone may stand
abbrev pub test_only : (text wanted : List ℕ) → Form → Mode → Form × Mode
test_only text wanted f m = if bytes_eq text wanted then (f, m) else (Refused, Behind)

abbrev pub is_number : TokenKind → Bool
is_number (Number value) = true
is_number kind = false

-- an input process: `0`, a parenthesis, `foreach i <= N do` and another one, or an oracle
abbrev pub input_step : TokenKind → List ℕ → Form × Mode
input_step kind text =
    if bytes_eq text (codes "(") then (Itself, Input)
    else (if bytes_eq text (codes "foreach") then (Bang, Index)
    else (if is_name kind text then (Receives, Head)
    else (if is_number kind then (Itself, Behind)
    else (Refused, Behind))))

-- behind `foreach`
abbrev pub loop_step : Mode → List ℕ → Form × Mode
loop_step Index text = (kept text, Below)
loop_step Below text = (kept text, Bound)
loop_step Bound text = (kept text, Do)
loop_step m text = test_only text (codes "do") Nothing Input

-- behind the name of an oracle: `(`, its variables, `)` and `:=`
abbrev pub head_step : Mode → List ℕ → Form × Mode
head_step Head text = test_only text (codes "(") Itself Variables
head_step Variables text = if bytes_eq text (codes ")") then (Itself, Defines) else (kept text, Variables)
head_step m text = test_only text (codes ":=") Begins Output

-- the word `return`, before another text
abbrev pub returned : (next : List ℕ) → Form × Mode
returned next = if bytes_eq next (codes "(") then (Sends, Payload 0) else (SendsNothing, Behind)

-- an output process: a parenthesis, `end`, `return`, `event`, a test, `x <- R T;` or `x: T <- M;`
abbrev pub output_step : TokenKind → (text next : List ℕ) → Form × Mode
output_step kind text next =
    if bytes_eq text (codes "(") then (Itself, Output)
    else (if bytes_eq text (codes "end") then (Yields, Behind)
    else (if bytes_eq text (codes "return") then returned next
    else (if bytes_eq text (codes "event") then (Itself, Line)
    else (if bytes_eq text (codes "if") || bytes_eq text (codes "find") then (Itself, Test)
    else (if is_name kind text then (if bytes_eq next (codes "<-") then (Draws, Arrow) else (Binds, Colon))
    else (Refused, Behind))))))

-- behind a variable that is drawn, up to the end of a line, or up to the end of a test
abbrev pub line_step : Mode → List ℕ → Form × Mode
line_step Arrow text = (Nothing, Random)
line_step Random text = test_only text (codes "R") Nothing Line
line_step Line text = if bytes_eq text (codes ";") then (Itself, Output) else (kept text, Line)
line_step m text = if bytes_eq text (codes "then") then (Itself, Output) else (kept text, Test)

-- behind a variable that is bound: `: T <- M ;`
abbrev pub binding_step : Mode → List ℕ → Form × Mode
binding_step Colon text = (kept text, OfType)
binding_step OfType text = (kept text, Gets)
binding_step Gets text = test_only text (codes "<-") Equals Term
binding_step m text = if bytes_eq text (codes ";") then (Into, Output) else (kept text, Term)

-- one parenthesis more; so many open ones stand in no file that more aren't counted
abbrev pub one_more : ℕ → ℕ
one_more count = if nat_lt count 1000 then count + 1 else count

-- in what is returned, where so many parentheses are open
abbrev pub payload_step : (count : ℕ) → List ℕ → Form × Mode
payload_step count text =
    if bytes_eq text (codes "(") then (Itself, Payload (one_more count))
    else (if bytes_eq text (codes ")") then (if nat_lt 1 count then (Itself, Payload (count - 1)) else (Ends, Behind))
    else (kept text, Payload count))

-- behind a process
abbrev pub rest_step : List ℕ → Form × Mode
rest_step text =
    if bytes_eq text (codes ";") || bytes_eq text (codes "|") then (Itself, Input)
    else (if bytes_eq text (codes "else") then (Itself, Output)
    else (if bytes_eq text (codes "orfind") then (Itself, Test)
    else (kept text, Behind)))

-- what is written for a token before another text, and what is awaited behind it
abbrev pub step : Mode → TokenKind → (text next : List ℕ) → Form × Mode
step Input kind text next = input_step kind text
step Output kind text next = output_step kind text next
step (Payload count) kind text next = payload_step count text
step Behind kind text next = rest_step text
step Index kind text next = loop_step Index text
step Below kind text next = loop_step Below text
step Bound kind text next = loop_step Bound text
step Do kind text next = loop_step Do text
step Head kind text next = head_step Head text
step Variables kind text next = head_step Variables text
step Defines kind text next = head_step Defines text
step Arrow kind text next = line_step Arrow text
step Random kind text next = line_step Random text
step Line kind text next = line_step Line text
step Test kind text next = line_step Test text
step Colon kind text next = binding_step Colon text
step OfType kind text next = binding_step OfType text
step Gets kind text next = binding_step Gets text
step Term kind text next = binding_step Term text
