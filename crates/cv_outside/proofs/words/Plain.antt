-- Words in plain form are read.
use Rattle.std.proofs.Common.{◌≡◌, ◌==◌, ◌∙◌, ◌++◌, Contains, ℕ, suc, ◌<◌, ◌≤◌, ◌^◌, Bool, true, false, cond, not, List, [], ◌∷◌, length, Option, Some, None, option_map, option_and_then, unwrap_or, codes, ap, refl, subst, sym, arith}
use Rattle.std.proofs.lemmas.Bool.{ne_eqb}
use Rattle.std.proofs.lemmas.Fmt.{decimal_is_IsNumeral}
use Rattle.std.proofs.lemmas.Slice.Eq.{bytes_eq-Decides}
use Rattle.std.proofs.lemmas.Str.Parse.{digit_from_value}
use Rattle.std.specs.Fmt.{decimal}
use Rattle.std.specs.Prelude.{IfSome}
use Rattle.std.specs.Str.{bytes_eq}
use Rattle.std.specs.Str.Parse.{AllDigits}
use Rattle.clap.specs.Lexer.{strip_byte}
use Rattle.clap.specs.Simple.{Shape}
use Rattle.cv_outside.specs.words.Forms.{Asked, Games, IsForm, Part, Prove, Sample, Text, is_operand, line, most_moves, most_queries, most_samples, orders, usual_moves}
use Rattle.cv_outside.specs.words.Forms as form
use Rattle.cv_outside.specs.words.Words.{command_read, file_in, games_asked, is_set, library_in, moves_in, number_in, prove_asked, query_in, sample_asked}
use Rattle.cv_outside.proofs.words.Arranged.{Every, Use, apart}
use Rattle.cv_outside.proofs.words.Asks.{Asks, flag_text, games_asks, games_uses, given, prove_asks, prove_uses, sample_asks, sample_uses, set}
use Rattle.cv_outside.proofs.words.Lines.{IsSubcommand, games_line, prove_line, sample_line}
use Rattle.cv_outside.proofs.words.Numbers.{number_some}
use Rattle.cv_outside.proofs.words.Parts.{IsPlainWord, flag_read, flag_use, games_file_read, games_lib_read, games_lib_use, games_shape, more_read, more_use, moves_read, moves_use, number_read, prove_file_read, prove_lib_read, prove_lib_use, prove_shape, query_read, query_use, sample_shape}
use Rattle.cv_outside.proofs.words.Walks.{IsRead, parts_are_read}

not_true : (x : Bool) → not x ≡ true → x ≡ false
not_true false e = refl
not_true true e = absurd (cc)

never_true : (x : Bool) → (x ≡ true → ⊥) → x ≡ false
never_true false h = refl
never_true true h = absurd (h refl)

no_dashes : (word : Text) → is_operand word ≡ true → bytes_eq word (45 ∷ 45 ∷ []) ≡ false
no_dashes word e =
    never_true (bytes_eq word (45 ∷ 45 ∷ [])) (λ t. (let f : is_operand word ≡ false = ap is_operand ((bytes_eq-Decides word (45 ∷ 45 ∷ [])).0 t) in let g = sym e ∙ f in cc))

no_option : (word : Text) → is_operand word ≡ true → strip_byte 45 word ≡ None
no_option [] e = absurd (cc)
no_option (b ∷ bs) e = ap (λ x. cond x (Some bs) None) (not_true (b == 45) e)

plain_word : (word : Text) → is_operand word ≡ true → IsPlainWord word
plain_word word e = record { first = no_option word e; other = no_dashes word e }

-- a number is one, and the name of a file isn't empty

digits_operand : (word : Text) → 0 < length word → AllDigits 10 word → is_operand word ≡ true
digits_operand [] l d = absurd (omega arith)
digits_operand (c ∷ cs) l d = ap not (ne_eqb c 45 (λ e. omega (arith, digit_from_value c d.0)))

number_word : (n : ℕ) → n < 2 ^ 64 → IsPlainWord (decimal n)
number_word n l = let k = decimal_is_IsNumeral n l in plain_word (decimal n) (digits_operand (decimal n) k.0.0 k.0.1)

named : (word : Text) → is_operand word ≡ true → file_in (Some word) ≡ Some word
named [] e = absurd (cc)
named (b ∷ bs) e = ap (λ x. cond x None (Some (b ∷ bs))) (ne_eqb (suc (length bs)) 0 (λ z. omega arith))

number_here : (least most n : ℕ) → most < 2 ^ 64 → least ≤ n → n ≤ most → number_in least most (decimal n) ≡ Some n
number_here least most n small l m = sym (number_some least most n (decimal n) (omega arith) (refl, (l, m)))

-- the same where there may be a word

numbered : (most : ℕ) (n : Option ℕ) → most < 2 ^ 64 → IfSome n (λ m. m ≤ most) → IfSome (option_map decimal n) IsPlainWord
numbered most None small l = tt
numbered most (Some n) small l = let few : n ≤ most = l in number_word n (omega arith)

library_word : (library : Option Text) → IfSome library (λ name. is_operand name ≡ true) → IfSome library IsPlainWord
library_word None e = tt
library_word (Some name) e = plain_word name e

queried : (query : Option ℕ) → IfSome query (λ k. (1 ≤ k) × (k ≤ most_queries)) → IfSome query (λ k. k ≤ most_queries)
queried None l = tt
queried (Some k) l = l.1

-- what the values come to

moves_here : (moves : Option ℕ) → IfSome moves (λ n. n ≤ most_moves) → moves_in (option_map decimal moves) ≡ Some (unwrap_or moves usual_moves)
moves_here None l = refl
moves_here (Some n) l = number_here 0 most_moves n (omega arith) (omega arith) l

library_here : (library : Option Text) → IfSome library (λ name. is_operand name ≡ true) → library_in library ≡ Some library
library_here None e = refl
library_here (Some name) e = ap (option_map (λ x. Some x)) (named name e)

query_here : (query : Option ℕ) → IfSome query (λ k. (1 ≤ k) × (k ≤ most_queries)) → query_in (option_map decimal query) ≡ Some query
query_here None l = refl
query_here (Some k) l = ap (option_map (λ x. Some x)) (number_here 1 most_queries k (omega arith) l.0 l.1)

set_here : (flag : Bool) → is_set (Some (flag_text flag)) ≡ flag
set_here false = refl
set_here true = refl

prove_here : (file : Text) (moves : Option ℕ) (more : Bool) (library : Option Text) (query : Option ℕ) → is_operand file ≡ true → IfSome moves (λ n. n ≤ most_moves) → IfSome library (λ name. is_operand name ≡ true)
    → IfSome query (λ k. (1 ≤ k) × (k ≤ most_queries)) → prove_asked (Some file) (option_map decimal moves) (Some (flag_text more)) library (option_map decimal query) ≡ Some (Prove file (unwrap_or moves usual_moves) more library query)
prove_here file moves more library query o b l q =
    λ i. option_and_then (λ name. option_and_then (λ n. option_and_then (λ x. option_map (λ k. Prove name n (set_here more i) x k) (query_here query q i)) (library_here library l i)) (moves_here moves b i)) (named file o i)

games_here : (file : Text) (library : Option Text) → is_operand file ≡ true → IfSome library (λ name. is_operand name ≡ true) → games_asked (Some file) library ≡ Some (Games file library)
games_here file library o l = λ i. option_and_then (λ name. option_map (λ x. Games name x) (library_here library l i)) (named file o i)

sample_here : (n : ℕ) (prove : Bool) → 1 ≤ n → n ≤ most_samples → sample_asked (Some (decimal n)) (Some (flag_text prove)) ≡ Some (Sample n prove)
sample_here n prove l m = λ i. option_map (λ k. Sample k (set_here prove i)) (number_here 1 most_samples n (omega arith) l m i)

-- each part is read

every_more : (P : Use → Type 0) (us vs : List Use) → Every P us → Every P vs → Every P (us ++ vs)
every_more P [] vs e f = f
every_more P (u ∷ us) vs e f = (e.0, every_more P us vs e.1 f)

each_given : (P : Use → Type 0) (gives : Text → Use) (value : Option Text) → ((word : Text) → IsPlainWord word → P (gives word)) → IfSome value IsPlainWord → Every P (given gives value)
each_given P gives None h k = tt
each_given P gives (Some word) h k = (h word k, tt)

each_set : (P : Use → Type 0) (gives : Use) (flag : Bool) → P gives → Every P (set gives flag)
each_set P gives false h = tt
each_set P gives true h = (h, tt)

prove_reads : (file : Text) (moves : Option Text) (more : Bool) (library query : Option Text) → IsPlainWord file → IfSome moves IsPlainWord → IfSome library IsPlainWord → IfSome query IsPlainWord
    → Every (IsRead prove_shape (codes "file")) (prove_uses file moves more library query)
prove_reads file moves more library query f m l q =
    let P = IsRead prove_shape (codes "file") in
    let last = every_more P (given prove_lib_use library) (given query_use query) (each_given P prove_lib_use library prove_lib_read l) (each_given P query_use query query_read q) in
    let flags = every_more P (set more_use more) (given prove_lib_use library ++ given query_use query) (each_set P more_use more more_read) last in
    (prove_file_read file f, every_more P (given moves_use moves) (set more_use more ++ (given prove_lib_use library ++ given query_use query)) (each_given P moves_use moves moves_read m) flags)

by_parts : (program name operand : Text) (s : Shape) (us : List Use) (parts found : List Part) (asked : Option Asked) → IsSubcommand program name s → s.arg_required_else_help ≡ false → Every (IsRead s operand) us → Asks s name us parts asked
    → Contains (orders parts) found → command_read (line program name found) ≡ asked
by_parts program name operand s us parts found asked k plain e a c =
    parts_are_read program name operand s us found k plain e (apart us a.apart) a.fault (subst (λ ps. Contains (orders ps) found) (sym a.words) c) ∙ a.asks

pub plain_is_read : (program : Text) (words : List Text) (asked : Asked) → IsForm program words asked → command_read words ≡ Some asked
plain_is_read program _ _ (form.prove file moves more library query parts o b l q c) =
    let m = option_map decimal moves in
    let k = option_map decimal query in
    by_parts program (codes "prove") (codes "file") prove_shape (prove_uses file m more library k) _ parts _ (prove_line program) refl
    (prove_reads file m more library k (plain_word file o) (numbered most_moves moves (omega arith) b) (library_word library l) (numbered most_queries query (omega arith) (queried query q)))
    (prove_asks file m more library k) c
    ∙ prove_here file moves more library query o b l q
plain_is_read program _ _ (form.games file library parts o l c) =
    let P = IsRead games_shape (codes "file") in
    by_parts program (codes "games") (codes "file") games_shape (games_uses file library) _ parts _ (games_line program) refl
    (games_file_read file (plain_word file o), each_given P games_lib_use library games_lib_read (library_word library l))
    (games_asks file library) c
    ∙ games_here file library o l
plain_is_read program _ _ (form.sample n prove parts l m c) =
    by_parts program (codes "sample") (codes "number") sample_shape (sample_uses (decimal n) prove) _ parts _ (sample_line program) refl
    (number_read (decimal n) (number_word n (omega arith)), each_set (IsRead sample_shape (codes "number")) flag_use prove flag_read)
    (sample_asks (decimal n) prove) c
    ∙ sample_here n prove l m
