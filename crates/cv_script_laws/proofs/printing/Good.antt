-- The signs of a script's tokens, by the names behind them: no name is `bool`, and names and numbers are known.
use Rattle.std.proofs.Common.{◌≡◌, ℕ, zero, suc, ◌+◌, ◌<◌, ◌≤◌, Bool, true, false, nat_lt, if◌then◌else◌, List, [], ◌∷◌, ◌++◌, length, Option, Some, None, refl, ap, sym, ◌∙◌, subst, arith, codes}
use Rattle.std.specs.List.{AllByRecursion}
use Rattle.std.specs.Prelude.{slice_get}
use Rattle.std.specs.Str.{bytes_eq}
use Rattle.std.proofs.lemmas.Bool.Decides.{nat_tests}
use Rattle.std.proofs.lemmas.Bool.{lt-ltb}
use Rattle.std.proofs.lemmas.Option.{slice_get_within}
use Rattle.cv_syntax_trees.proofs.lists.Each.{AllByRecursion_append}
use Rattle.cv_lex.specs.declared.TokenKind.{TokenKind}
use Rattle.cv_lex.specs.declared.TokenKind.TheVariants as kind
use Rattle.cv_lex.specs.Lexis.{Token, IsToken}
use Rattle.cv_lex.specs.View.{AreTokens}
use Rattle.cv_lex.proofs.Places.{inner_token}
use Rattle.cv_parse_notation.specs.declared.script.ScriptWord.TheVariants.{Plain}
use Rattle.cv_parse_notation.specs.declared.sign.Mark.{Mark}
use Rattle.cv_parse_notation.specs.declared.sign.Mark.TheVariants as mark
use Rattle.cv_parse_notation.specs.declared.sign.Sign.{Sign}
use Rattle.cv_parse_notation.specs.declared.sign.Sign.TheVariants as sign
use Rattle.cv_parse_tables.specs.terminals.ScriptSigns.{between, script_signs, with_word, with_words}
use Rattle.cv_parse_tables.specs.spelling.Spelling.{mark_of_text}
use Rattle.cv_parse_tables.specs.terminals.Signs.{Step, first_text, is_unnamed, no_counts, one_find, place_of, signs_from, step_before, text_step, token_step, unnamed_name, unnamed_step, with_name, word_step}
use Rattle.cv_parse_tables.specs.declared.terminals.pass.Counts.{Counts}
use Rattle.cv_parse_tables.proofs.terminals.Naming.{with_name_has}
use Rattle.cv_parse_tables.proofs.terminals.ScriptWalk.{between_cons, between_nil}
use Rattle.cv_parse_tables.proofs.terminals.Telling.{Keeps, grown}
use Rattle.cv_print_bytes.proofs.numbers.SmallSigns.{number_fits}
use Rattle.cv_print_bytes.specs.terminals.Written.{is_name}
use Rattle.cv_script_laws.proofs.printing.Files.{AreGood, IsGood}
use Rattle.cv_parse_laws.proofs.Signs.{bool_is}
use Rattle.cv_print_bytes.proofs.Files.{no_mark}

-- names with `bool` first, and a bound for labels
module _ (names : List (List ℕ)) (bool : slice_get names 0 ≡ Some (codes "bool")) (n : ℕ) (few : n < 18446744073709551616) where
  abbrev Good : Sign → Type 0
  Good s = IsGood (length names) s

  -- a text that is no mark has a name's place
  place_is_name : (x : ℕ) (text : List ℕ) → slice_get names x ≡ Some text → mark_of_text text ≡ None → is_name x ≡ true
  place_is_name zero text h m = absurd (let e : codes "bool" ≡ text = (let f = sym bool ∙ h in cc) in let g : Some mark.Bool ≡ None = sym bool_is ∙ (ap mark_of_text e ∙ m) in cc)
  place_is_name (suc x) text h m = refl

  good_place : (before : List (List ℕ)) (text : List ℕ) → mark_of_text text ≡ None → Keeps (with_name before text) names → (is_name (place_of before text) ≡ true) × (nat_lt (place_of before text) (length names) ≡ true)
  good_place before text m k =
      let h = k (place_of before text) text (with_name_has before text) in
      (place_is_name (place_of before text) text h m, lt-ltb (place_of before text) (length names) (slice_get_within names (place_of before text) text h))

  -- the signs of a step are good, and it counts at most one word `find` more
  record GoodStep (finds : ℕ) (s : Step) : Type 0 where
    good : Keeps s.names names → AreGood (length names) s.signs
    count : s.counts.finds ≤ suc finds

  good_word : (before : List (List ℕ)) (counts : Counts) (text : List ℕ) → suc counts.finds ≤ n → mark_of_text text ≡ None → GoodStep counts.finds (word_step before counts text)
  good_word before counts text h m =
      elim (bytes_eq text (codes "find")) as (λ b. GoodStep counts.finds (if b then (record { signs = sign.Find (suc counts.finds) ∷ []; names = before; counts = one_find counts }) else (record { signs = sign.Word (place_of before text) Plain ∷ []; names = with_name before text; counts = counts }))) [
        | true ↦ record { good = λ k. ((tt, lt-ltb (suc counts.finds) 18446744073709551616 (omega arith)), tt); count = omega arith }
        | false ↦ record { good = λ k. (good_place before text m k, tt); count = omega arith }
      ]

  good_text : (before : List (List ℕ)) (counts : Counts) (text : List ℕ) (m : Option Mark) → suc counts.finds ≤ n → mark_of_text text ≡ m → GoodStep counts.finds (text_step before counts text m)
  good_text before counts text (Some m) h e = record { good = λ k. ((tt, tt), tt); count = omega arith }
  good_text before counts text None h e = good_word before counts text h e

  good_token : (before : List (List ℕ)) (counts : Counts) (w : TokenKind) (text : List ℕ) → IsToken w text → suc counts.finds ≤ n → GoodStep counts.finds (token_step before counts w text)
  good_token before counts kind.Ident text i h = good_text before counts text (mark_of_text text) h refl
  good_token before counts kind.Symbol text i h = good_text before counts text (mark_of_text text) h refl
  good_token before counts (kind.Number v) text i h = record { good = λ k. ((tt, number_fits v text i), tt); count = omega arith }
  good_token before counts kind.End text i h = record { good = λ k. tt; count = omega arith }

  good_step : (before : List (List ℕ)) (counts : Counts) (w : TokenKind) (text next : List ℕ) → IsToken w text → suc counts.finds ≤ n → GoodStep counts.finds (step_before before counts w text next)
  good_step before counts w text next i h =
      elim (is_unnamed text next) as (λ b. GoodStep counts.finds (if b then unnamed_step before counts else token_step before counts w text)) [
        | true ↦ record { good = λ k. (good_place before (unnamed_name (suc counts.unnamed)) (no_mark _) k, tt); count = omega arith }
        | false ↦ good_token before counts w text i h
      ]

  good_from : (before : List (List ℕ)) (counts : Counts) (ts : List Token) → AllByRecursion (λ t. IsToken t.kind t.text) ts → counts.finds + length ts ≤ n → (signs_from before counts ts).names ≡ names → AreGood (length names) (signs_from before counts ts).signs
  unfolding signs_from
  good_from before counts [] each h e = tt
  good_from before counts (t ∷ ts) each h e =
      let s : Step = step_before before counts t.kind t.text (first_text ts) in
      let g : GoodStep counts.finds s = good_step before counts t.kind t.text (first_text ts) each.0 (omega arith) in
      let k : Keeps s.names names = subst (λ z. Keeps s.names z) e (grown s.names s.counts ts).keeps in
      AllByRecursion_append Good s.signs (signs_from s.names s.counts ts).signs (g.good k) (good_from s.names s.counts ts each.1 (let c = g.count in omega (arith, c, h)) e)

  good_word_sign : (text : List ℕ) (s : Sign) → Good s → Good (with_word text s)
  good_word_sign text (sign.Word x w) g = g
  good_word_sign text s g = g

  good_words : (ts : List Token) (signs : List Sign) → AreGood (length names) signs → AreGood (length names) (with_words ts signs)
  good_words [] signs g = tt
  good_words (t ∷ ts) [] g = tt
  good_words (t ∷ ts) (s ∷ signs) g = (good_word_sign t.text s g.0, good_words ts signs g.1)

-- each token before the end token is one

each_between : (ts : List Token) → AreTokens ts → (to : ℕ) → to < length ts → (n k : ℕ) → to ≤ k + n → AllByRecursion (λ t. IsToken t.kind t.text) (between k to ts)
each_between ts are to l zero k h = subst (AllByRecursion (λ t. IsToken t.kind t.text)) (sym (between_nil ts k to (omega arith))) tt
each_between ts are to l (suc n) k h = by_test (nat_lt k to) refl (λ i. each_between ts are to l n (k + 1) i) where
  by_test : (b : Bool) → nat_lt k to ≡ b → (to ≤ k + 1 + n → AllByRecursion (λ t. IsToken t.kind t.text) (between (k + 1) to ts)) → AllByRecursion (λ t. IsToken t.kind t.text) (between k to ts)
  by_test true e rest =
      let i : k < to = grind (arith, nat_tests) in
      subst (AllByRecursion (λ t. IsToken t.kind t.text)) (sym (between_cons ts k to i l)) (inner_token ts are k (omega arith), rest (omega arith))
  by_test false e rest = let i : to ≤ k = grind (arith, nat_tests) in subst (AllByRecursion (λ t. IsToken t.kind t.text)) (sym (between_nil ts k to i)) tt

length_between : (ts : List Token) (to : ℕ) → to < length ts → (n k : ℕ) → to ≤ k + n → length (between k to ts) ≤ n
length_between ts to l zero k h = let e = ap length (between_nil ts k to (omega arith)) in omega arith
length_between ts to l (suc n) k h = by_test (nat_lt k to) refl (λ i. length_between ts to l n (k + 1) i) where
  by_test : (b : Bool) → nat_lt k to ≡ b → (to ≤ k + 1 + n → length (between (k + 1) to ts) ≤ n) → length (between k to ts) ≤ suc n
  by_test true e rest =
      let i : k < to = grind (arith, nat_tests) in
      let m = ap length (between_cons ts k to i l) in
      let r = rest (omega arith) in
      omega arith
  by_test false e rest = let i : to ≤ k = grind (arith, nat_tests) in let m = ap length (between_nil ts k to i) in omega arith

-- the signs of a script are good
pub script_good : (names : List (List ℕ)) (ts : List Token) (from to : ℕ) → AreTokens ts → to < length ts → length ts < 18446744073709551616 → slice_get (script_signs names (between from to ts)).names 0 ≡ Some (codes "bool") → AreGood (length (script_signs names (between from to ts)).names) (script_signs names (between from to ts)).signs
script_good names ts from to are l few bool =
    let us = between from to ts in
    let behind = (script_signs names us).names in
    good_words behind bool to (omega arith) us (signs_from names no_counts us).signs (
    good_from behind bool to (omega arith) names no_counts us (each_between ts are to l to from (omega arith)) (let m = length_between ts to l to from (omega arith) in omega arith) refl
    )
