-- What words ask for. This profile's own.
use Rattle.std.specs.Prelude.{ℕ, ◌&&◌, ◌==◌, Bool, false, List, length, nat_le, Option, Some, None, codes, if◌then◌else◌, option_and_then, option_map}
use Rattle.std.specs.Fmt.{decimal}
use Rattle.std.specs.Str.{bytes_eq}
use Rattle.std.specs.Str.Parse.{digits_value}
use Rattle.clap.specs.Words.{Row, first_of}
use Rattle.cv_outside.specs.words.Clap.{taken}
use Rattle.cv_outside.specs.words.Forms.{Asked, Games, Prove, Sample, Text, most_moves, most_queries, most_samples, usual_moves}
use Rattle.cv_outside.specs.declared.words.words.Request.{Request}
use Rattle.cv_outside.specs.declared.words.words.Request.TheVariants as request

-- the number of a range that a text writes, without sign or leading zero
abbrev pub number_in : (least most : ℕ) → Text → Option ℕ
number_in least most text =
    let n = digits_value 10 text in if bytes_eq (decimal n) text && (nat_le least n && nat_le n most) then Some n else None

-- the name of a file isn't empty
abbrev pub file_in : Option Text → Option Text
file_in = option_and_then (λ name. if length name == 0 then None else Some name)

abbrev pub moves_in : Option Text → Option ℕ
moves_in None = Some usual_moves
moves_in (Some text) = number_in 0 most_moves text

-- a library has such a name, or there is none
abbrev pub library_in : Option Text → Option (Option Text)
library_in None = Some None
library_in (Some name) = option_map (λ n. Some n) (file_in (Some name))

-- a query that is asked alone has such a number, or there is none
abbrev pub query_in : Option Text → Option (Option ℕ)
query_in None = Some None
query_in (Some text) = option_map (λ k. Some k) (number_in 1 most_queries text)

-- whether a flag was given
abbrev pub is_set : Option Text → Bool
is_set None = false
is_set (Some text) = bytes_eq text (codes "true")

-- what a subcommand asks for, by its name and by what stands behind it

abbrev pub prove_asked : (file moves more library query : Option Text) → Option Asked
prove_asked file moves more library query =
    option_and_then (λ name. option_and_then (λ n. option_and_then (λ l. option_map (λ k. Prove name n (is_set more) l k) (query_in query)) (library_in library)) (moves_in moves)) (file_in file)

abbrev pub games_asked : (file library : Option Text) → Option Asked
games_asked file library = option_and_then (λ name. option_map (λ l. Games name l) (library_in library)) (file_in file)

abbrev pub sample_asked : (number prove : Option Text) → Option Asked
sample_asked number prove = option_map (λ n. Sample n (is_set prove)) (option_and_then (number_in 1 most_samples) number)

abbrev pub asked_by : Text → List Row → Option Asked
asked_by name rows =
    if bytes_eq name (codes "prove")
    then prove_asked (first_of (codes "file") rows) (first_of (codes "moves") rows) (first_of (codes "more") rows) (first_of (codes "lib") rows) (first_of (codes "query") rows)
    else (if bytes_eq name (codes "games") then games_asked (first_of (codes "file") rows) (first_of (codes "lib") rows)
    else sample_asked (first_of (codes "number") rows) (first_of (codes "prove") rows))

-- What words ask for: what `clap` takes, with a file that has a name, and with numbers in their ranges.
unfoldable pub command_read : List Text → Option Asked
command_read words = option_and_then (λ p. asked_by p.0 p.1) (taken words)

-- the same of what was read
abbrev pub asked_of : Request → Asked
asked_of (request.Prove file moves more library query) = Prove file.now moves more (option_map (λ l. l.now) library) query
asked_of (request.Games file library) = Games file.now (option_map (λ l. l.now) library)
asked_of (request.Sample number prove) = Sample number prove
