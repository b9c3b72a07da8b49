-- The commands of the program, and the words that give them: behind the program's name one of these forms, with options before and
-- behind the one operand, in any order. This profile's own.
use Rattle.std.specs.Prelude.{ℕ, ◌≤◌, ◌==◌, ◌≡◌, ◌++◌, Bool, true, false, not, Contains, List, [], ◌∷◌, codes, map, IfSome, Option, Some, None, option_map, unwrap_or}
use Rattle.std.specs.Fmt.{decimal}
use Rattle.std.specs.List.{flat_map}

abbrev pub Text : Type 0
Text = List ℕ

-- a proof of a file's queries, or of the one with this number alone, in at most so many moves, with or without further ones; the games of its
-- proof block, both with or without a library; the text of a sample, or a proof of its queries
pub data Asked : Type 0 where
  Prove : (file : Text) (moves : ℕ) (more : Bool) (library : Option Text) (query : Option ℕ) → Asked
  Games : (file : Text) (library : Option Text) → Asked
  Sample : (number : ℕ) (prove : Bool) → Asked

-- how many moves a proof has where the words don't say, and how many they may say
abbrev pub usual_moves : ℕ
usual_moves = 32

abbrev pub most_moves : ℕ
most_moves = 1000

-- which number a query that is asked alone may have, from 1 on
abbrev pub most_queries : ℕ
most_queries = 1000000

-- the samples that there are, from 1 on
abbrev pub most_samples : ℕ
most_samples = 32

-- a word that names a file isn't empty and doesn't begin with `-`
abbrev pub is_operand : Text → Bool
is_operand [] = false
is_operand (b ∷ bs) = not (b == 45)

-- what stands behind a subcommand, in parts: the operand, and each option with its value, if it has one
abbrev pub Part : Type 0
Part = List Text

abbrev pub valued : (name : Text) → Option Text → List Part
valued name None = []
valued name (Some value) = (name ∷ value ∷ []) ∷ []

abbrev pub flagged : (name : Text) → Bool → List Part
flagged name false = []
flagged name true = (name ∷ []) ∷ []

-- a number is written in decimal digits, without sign or leading zero

abbrev pub prove_parts : (file : Text) (moves : Option ℕ) (more : Bool) (library : Option Text) (query : Option ℕ) → List Part
prove_parts file moves more library query =
    (file ∷ []) ∷ (valued (codes "--moves") (option_map decimal moves) ++ (flagged (codes "--more") more ++ (valued (codes "--lib") library ++ valued (codes "--query") (option_map decimal query))))

abbrev pub games_parts : (file : Text) (library : Option Text) → List Part
games_parts file library = (file ∷ []) ∷ valued (codes "--lib") library

abbrev pub sample_parts : (number : ℕ) (prove : Bool) → List Part
sample_parts number prove = (decimal number ∷ []) ∷ flagged (codes "--prove") prove

-- a part in each place among others, and parts in each order

abbrev pub placed : Part → List Part → List (List Part)
placed p [] = (p ∷ []) ∷ []
placed p (q ∷ qs) = (p ∷ q ∷ qs) ∷ map (λ rs. q ∷ rs) (placed p qs)

abbrev pub orders : List Part → List (List Part)
orders [] = [] ∷ []
orders (p ∷ ps) = flat_map (placed p) (orders ps)

-- the words of a subcommand with such parts behind it
abbrev pub line : (program name : Text) → List Part → List Text
line program name parts = program ∷ name ∷ flat_map (λ p. p) parts

-- `prove FILE`, with each of `--moves N`, `--more`, `--lib LIB` and `--query K` once or not at all; `games FILE`, with `--lib LIB` or not;
-- `sample N`, with `--prove` or not: the parts behind the name of the subcommand in any order
pub data IsForm (program : Text) : List Text → Asked → Type 0 where
  prove : (file : Text) (moves : Option ℕ) (more : Bool) (library : Option Text) (query : Option ℕ) (parts : List Part)
      → is_operand file ≡ true → IfSome moves (λ n. n ≤ most_moves) → IfSome library (λ name. is_operand name ≡ true) → IfSome query (λ k. (1 ≤ k) × (k ≤ most_queries))
      → Contains (orders (prove_parts file moves more library query)) parts → IsForm program (line program (codes "prove") parts) (Prove file (unwrap_or moves usual_moves) more library query)
  games : (file : Text) (library : Option Text) (parts : List Part)
      → is_operand file ≡ true → IfSome library (λ name. is_operand name ≡ true)
      → Contains (orders (games_parts file library)) parts → IsForm program (line program (codes "games") parts) (Games file library)
  sample : (n : ℕ) (prove : Bool) (parts : List Part)
      → 1 ≤ n → n ≤ most_samples → Contains (orders (sample_parts n prove)) parts → IsForm program (line program (codes "sample") parts) (Sample n prove)
