-- The uses of definitions in a file: where they are looked for, and where they stand.
use Rattle.std.specs.Prelude.{◌||◌, if◌then◌else◌, ℕ, zero, suc, ◌+◌, ◌-◌, List, [], ◌∷◌, codes, Option, Some, None, Result, Ok, Err}
use Rattle.std.specs.Str.{bytes_eq}
use Rattle.cv_lex.specs.Lexis.{Token}
use Rattle.cv_lex.specs.View.{token_at}
use Rattle.cv_library.specs.declared.uses.Looking.{Looking}
use Rattle.cv_library.specs.declared.uses.Looking.TheVariants.{AtStart, Here, Between, Over}
use Rattle.cv_library.specs.declared.uses.Use.{Use}
use Rattle.cv_library.specs.Heads.{head_at}

-- whether uses are looked for behind a text: behind each `.`, before the first `proof` or `process`
abbrev pub by_text : (otherwise : Looking) → List ℕ → Looking
by_text otherwise text =
    if bytes_eq text (codes "proof") || bytes_eq text (codes "process") then Over
    else (if bytes_eq text (codes ".") then Here else otherwise)

-- they are looked for at the first token too, and behind a first token `oracles`
abbrev pub looking_behind : Looking → List ℕ → Looking
looking_behind AtStart text = by_text (if bytes_eq text (codes "oracles") then Here else Between) text
looking_behind Here text = by_text Between text
looking_behind Between text = by_text Between text
looking_behind Over text = Over

abbrev pub by_dot : List Token → Result ℕ ℕ → Option ℕ
by_dot ts (Ok dot) = if bytes_eq (token_at ts dot).text (codes ".") then Some dot else None
by_dot ts (Err k) = None

-- the number of the dot of the use that begins at a token
abbrev pub dot_of : List Token → (word : ℕ) → Option ℕ
dot_of ts word = if bytes_eq (token_at ts word).text (codes "expand") then by_dot ts (head_at ts word) else None

-- the same, where a use is looked for
abbrev pub dot_where : Looking → List Token → (word : ℕ) → Option ℕ
dot_where AtStart ts word = dot_of ts word
dot_where Here ts word = dot_of ts word
dot_where Between ts word = None
dot_where Over ts word = None

abbrev pub then_uses : ((skipped : ℕ) → Looking → List Use) → (word : ℕ) → Looking → Option ℕ → List Use
then_uses behind word looking (Some dot) = record { word = word; dot = dot } ∷ behind (dot - word) Here
then_uses behind word looking None = behind 0 looking

-- the uses from a token on, the first tokens of which belong to the one before
unfoldable pub uses_from : List Token → (skipped : ℕ) → Looking → (at : ℕ) → List Token → List Use
uses_from ts skipped looking k [] = []
uses_from ts (suc skipped) looking k (t ∷ rest) = uses_from ts skipped looking (k + 1) rest
uses_from ts zero looking k (t ∷ rest) = then_uses (λ skipped l. uses_from ts skipped l (k + 1) rest) k (looking_behind looking t.text) (dot_where looking ts k)

-- the uses in a file, in order
abbrev pub uses_of : List Token → List Use
uses_of ts = uses_from ts 0 AtStart 0 ts
