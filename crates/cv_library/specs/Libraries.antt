-- Libraries: definitions, each with its name, its parameters and the tokens of its body.
use Rattle.std.specs.Prelude.{◌≡◌, Bool, false, ◌||◌, ◌==◌, if◌then◌else◌, ℕ, zero, suc, ◌+◌, ◌-◌, List, [], ◌∷◌, ◌++◌, codes, map, drop, slice_range, Option, Some, None, Result, Ok, Err}
use Rattle.std.specs.Str.{bytes_eq}
use Rattle.cv_lex.specs.Lexis.{Token}
use Rattle.cv_lex.specs.View.{token_at}
use Rattle.cv_parse_tables.specs.terminals.Braces.{is_end}
use Rattle.cv_library.specs.declared.error.LibraryError.{LibraryError}
use Rattle.cv_library.specs.declared.error.LibraryError.TheVariants.{Syntax, Twice, Inner, OutOfMemory}
use Rattle.cv_library.specs.declared.forms.Place.{Place}
use Rattle.cv_library.specs.Heads.{head_at, listed}

pub record Definition : Type 0 where
  pub name : List ℕ
  pub parameters : List (List ℕ)
  pub body : List Token

-- the form: definitions behind one another, each a head and a body in braces

-- how many braces more are open behind a text, or none where it closes the body
abbrev pub depth_behind : (depth : ℕ) → List ℕ → Option ℕ
depth_behind depth text =
    if bytes_eq text (codes "{") then Some (depth + 1)
    else (if bytes_eq text (codes "}") then (if depth == 0 then None else Some (depth - 1)) else Some depth)

abbrev pub inside : ((depth : ℕ) → Result ℕ ℕ) → (at : ℕ) → Option ℕ → Result ℕ ℕ
inside behind k (Some depth) = behind depth
inside behind k None = Ok k

-- the number of the brace that closes a body in which so many more braces are open, or of the end token
unfoldable pub body_from : (depth at : ℕ) → List Token → Result ℕ ℕ
body_from depth k [] = Err k
body_from depth k (t ∷ ts) = if is_end t.kind then Err k else inside (λ d. body_from d (k + 1) ts) k (depth_behind depth t.text)

abbrev pub body_at : List Token → (from : ℕ) → Result ℕ ℕ
body_at ts from = body_from 0 from (drop from ts)

abbrev pub of_body : (word brace : ℕ) → Result ℕ ℕ → Result Place ℕ
of_body word brace (Ok end) = Ok (record { word = word; brace = brace; end = end })
of_body word brace (Err k) = Err k

abbrev pub of_head : List Token → (word : ℕ) → Result ℕ ℕ → Result Place ℕ
of_head ts word (Ok brace) = if bytes_eq (token_at ts brace).text (codes "{") then of_body word brace (body_at ts (brace + 1)) else Err brace
of_head ts word (Err k) = Err k

-- where the definition stands that begins at a token, or the first token that doesn't fit
abbrev pub place_at : List Token → (word : ℕ) → Result Place ℕ
place_at ts word = if bytes_eq (token_at ts word).text (codes "define") then of_head ts word (head_at ts word) else Err word

abbrev pub in_front : Place → Result (List Place) LibraryError → Result (List Place) LibraryError
in_front p (Ok ps) = Ok (p ∷ ps)
in_front p (Err e) = Err e

abbrev pub and_behind : ((skipped : ℕ) → Result (List Place) LibraryError) → Result Place ℕ → Result (List Place) LibraryError
and_behind behind (Ok p) = in_front p (behind (p.end - p.word))
and_behind behind (Err k) = Err (Syntax k)

-- where the definitions stand from a token on, the first tokens of which belong to the one before
unfoldable pub places_from : List Token → (skipped at : ℕ) → List Token → Result (List Place) LibraryError
places_from ts skipped k [] = Ok []
places_from ts (suc skipped) k (t ∷ rest) = places_from ts skipped (k + 1) rest
places_from ts zero k (t ∷ rest) = if is_end t.kind then Ok [] else and_behind (λ skipped. places_from ts skipped (k + 1) rest) (place_at ts k)

abbrev pub places_of : List Token → Result (List Place) LibraryError
places_of ts = places_from ts 0 0 ts

-- what stands at a place

abbrev pub name_at : List Token → Place → List ℕ
name_at ts p = (token_at ts (p.word + 1)).text

abbrev pub text_of : Token → List ℕ
text_of t = t.text

abbrev pub parameters_at : List Token → Place → List (List ℕ)
parameters_at ts p = map text_of (listed ts p.word p.brace)

abbrev pub tokens_at : List Token → Place → List Token
tokens_at ts p = slice_range ts (p.brace + 1) p.end

abbrev pub definition_at : List Token → Place → Definition
definition_at ts p = record { name = name_at ts p; parameters = parameters_at ts p; body = tokens_at ts p }

-- names that stand twice

abbrev pub is_among : List (List ℕ) → List ℕ → Bool
is_among [] text = false
is_among (name ∷ names) text = bytes_eq name text || is_among names text

abbrev pub earlier : Option ℕ → Option ℕ → Option ℕ
earlier (Some k) other = Some k
earlier None other = other

-- the number of the first of these names that stands before it; each second token is one
unfoldable pub repeat_from : (before : List (List ℕ)) → (at : ℕ) → List (List ℕ) → Option ℕ
repeat_from before k [] = None
repeat_from before k (name ∷ names) = if is_among before name then Some k else repeat_from (before ++ name ∷ []) (k + 2) names

-- the first parameter that repeats in its list
abbrev pub repeat_at : List Token → Place → Option ℕ
repeat_at ts p = repeat_from [] (p.word + 3) (parameters_at ts p)

-- the first name that was defined before, or parameter that repeats in its list
unfoldable pub twice_from : List Token → (before : List (List ℕ)) → List Place → Option ℕ
twice_from ts before [] = None
twice_from ts before (p ∷ ps) = if is_among before (name_at ts p) then Some (p.word + 1) else earlier (repeat_at ts p) (twice_from ts (before ++ name_at ts p ∷ []) ps)

-- uses in bodies

unfoldable pub inner_from : (at : ℕ) → List Token → Option ℕ
inner_from k [] = None
inner_from k (t ∷ ts) = if bytes_eq t.text (codes "expand") then Some k else inner_from (k + 1) ts

-- the first word `expand` in a body
unfoldable pub first_inner : List Token → List Place → Option ℕ
first_inner ts [] = None
first_inner ts (p ∷ ps) = earlier (inner_from (p.brace + 1) (tokens_at ts p)) (first_inner ts ps)

-- a library: its form first, then its names, then its bodies

abbrev pub by_bodies : List Token → List Place → Option ℕ → Result (List Definition) LibraryError
by_bodies ts ps (Some k) = Err (Inner k)
by_bodies ts ps None = Ok (map (definition_at ts) ps)

abbrev pub by_names : List Token → List Place → Option ℕ → Result (List Definition) LibraryError
by_names ts ps (Some k) = Err (Twice k)
by_names ts ps None = by_bodies ts ps (first_inner ts ps)

abbrev pub by_form : List Token → Result (List Place) LibraryError → Result (List Definition) LibraryError
by_form ts (Ok ps) = by_names ts ps (twice_from ts [] ps)
by_form ts (Err e) = Err e

-- the library that tokens are, or why they are none
abbrev pub library_of : List Token → Result (List Definition) LibraryError
library_of ts = by_form ts (places_of ts)

-- Memory may run out anywhere; every other error is the one that is meant.
abbrev pub IsNoLibrary : LibraryError → List Token → Type 0
IsNoLibrary OutOfMemory ts = Unit {0}
IsNoLibrary e ts = library_of ts ≡ Err e
