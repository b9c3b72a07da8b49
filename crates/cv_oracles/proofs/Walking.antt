-- The parts of a file, and its oracles, token by token.
use Rattle.std.proofs.Common.{◌≡◌, ℕ, suc, ◌+◌, ◌-◌, ◌<◌, ◌≤◌, inl, inr, Bool, true, false, if◌then◌else◌, ◌&&◌, List, [], ◌∷◌, ◌++◌, length, drop, map, refl, ap, sym, ◌∙◌, subst, arith}
use Rattle.std.specs.Prelude.{not}
use Rattle.std.proofs.lemmas.Bool.{cases_Bool, cases_lt}
use Rattle.std.proofs.lemmas.List.{at_drop_all, drop_more, length-map, length_push, map_push}
use Rattle.cv_lex.specs.Lexis.{Token, end_token}
use Rattle.cv_lex.specs.View.{token_at}
use Rattle.cv_library.specs.Libraries.{is_among}
use Rattle.cv_parse_tables.specs.terminals.Braces.{is_end, open_behind}
use Rattle.cv_oracles.specs.declared.reading.Reading.{Reading}
use Rattle.cv_oracles.specs.Readings.{at_start, defines}
use Rattle.cv_oracles.specs.Translations.{behind_at, declarations_end_from, ends_declarations, is_process, oracles_from, process_from, text_at, with_oracle}

-- declarations

declarations_more : (ts : List Token) (k : ℕ) → k < length ts → false ≡ is_end (token_at ts k).kind → declarations_end_from k (drop k ts) ≡ (if ends_declarations (token_at ts k).text then k else declarations_end_from (k + 1) (drop (k + 1) ts))
unfolding declarations_end_from
declarations_more ts k h e =
    ap (declarations_end_from k) (drop_more ts k (end_token 0) h)
    ∙ (λ i. if sym e i then k else (if ends_declarations (token_at ts k).text then k else declarations_end_from (k + 1) (drop (k + 1) ts)))

module _ (ts : List Token) (k : ℕ) (text : List ℕ) (h : k < length ts) (e : false ≡ is_end (token_at ts k).kind) (text_is : text ≡ (token_at ts k).text) where
  pub declarations_stop : true ≡ ends_declarations text → declarations_end_from k (drop k ts) ≡ k
  declarations_stop b = declarations_more ts k h e ∙ (λ i. if sym (b ∙ ap ends_declarations text_is) i then k else declarations_end_from (k + 1) (drop (k + 1) ts))

  pub declarations_go : false ≡ ends_declarations text → declarations_end_from k (drop k ts) ≡ declarations_end_from (k + 1) (drop (k + 1) ts)
  declarations_go b = declarations_more ts k h e ∙ (λ i. if sym (b ∙ ap ends_declarations text_is) i then k else declarations_end_from (k + 1) (drop (k + 1) ts))

pub declarations_over : (ts : List Token) (k : ℕ) → true ≡ is_end (token_at ts k).kind → declarations_end_from k (drop k ts) ≡ k
unfolding declarations_end_from
declarations_over ts k e =
    elim (cases_lt k (length ts)) [
      | inl below ↦
          ap (declarations_end_from k) (drop_more ts k (end_token 0) below)
          ∙ (λ i. if sym e i then k else (if ends_declarations (token_at ts k).text then k else declarations_end_from (k + 1) (drop (k + 1) ts)))
      | inr past ↦ at_drop_all (declarations_end_from k) ts k past
    ]

-- the word `process`

process_more : (ts : List Token) (depth k : ℕ) → k < length ts → false ≡ is_end (token_at ts k).kind → process_from depth k (drop k ts) ≡ (if is_process depth (token_at ts k).text then k + 1 else process_from (open_behind depth (token_at ts k).text) (k + 1) (drop (k + 1) ts))
unfolding process_from
process_more ts depth k h e =
    ap (process_from depth k) (drop_more ts k (end_token 0) h)
    ∙ (λ i. if sym e i then k else (if is_process depth (token_at ts k).text then k + 1 else process_from (open_behind depth (token_at ts k).text) (k + 1) (drop (k + 1) ts)))

module _ (ts : List Token) (depth k : ℕ) (text : List ℕ) (h : k < length ts) (e : false ≡ is_end (token_at ts k).kind) (text_is : text ≡ (token_at ts k).text) where
  pub process_stop : true ≡ is_process depth text → process_from depth k (drop k ts) ≡ k + 1
  process_stop b = process_more ts depth k h e ∙ (λ i. if sym (b ∙ ap (is_process depth) text_is) i then k + 1 else process_from (open_behind depth (token_at ts k).text) (k + 1) (drop (k + 1) ts))

  pub process_go : (next : ℕ) → false ≡ is_process depth text → next ≡ open_behind depth text → process_from depth k (drop k ts) ≡ process_from next (k + 1) (drop (k + 1) ts)
  process_go next b n =
      process_more ts depth k h e
      ∙ (λ i. if sym (b ∙ ap (is_process depth) text_is) i then k + 1 else process_from (open_behind depth (token_at ts k).text) (k + 1) (drop (k + 1) ts))
      ∙ ap (λ d. process_from d (k + 1) (drop (k + 1) ts)) (sym (n ∙ ap (open_behind depth) text_is))

pub process_over : (ts : List Token) (depth k : ℕ) → true ≡ is_end (token_at ts k).kind → process_from depth k (drop k ts) ≡ k
unfolding process_from
process_over ts depth k e =
    elim (cases_lt k (length ts)) [
      | inl below ↦
          ap (process_from depth k) (drop_more ts k (end_token 0) below)
          ∙ (λ i. if sym e i then k else (if is_process depth (token_at ts k).text then k + 1 else process_from (open_behind depth (token_at ts k).text) (k + 1) (drop (k + 1) ts)))
      | inr past ↦ at_drop_all (process_from depth k) ts k past
    ]

-- oracles

pub oracles_more : (ts : List Token) (r : Reading) (k to : ℕ) (before : List ℕ) → k < to → oracles_from ts r k (to - k) before ≡ oracles_from ts (behind_at ts r k) (k + 1) (to - (k + 1)) (with_oracle ts r before k)
unfolding oracles_from
oracles_more ts r k to before h = let far : to - k ≡ suc (to - (k + 1)) = omega arith in ap (λ n. oracles_from ts r k n before) far

pub oracles_none : (ts : List Token) (r : Reading) (k to : ℕ) (before : List ℕ) → to ≤ k → oracles_from ts r k (to - k) before ≡ before
unfolding oracles_from
oracles_none ts r k to before h = let none : to - k ≡ 0 = omega arith in ap (λ n. oracles_from ts r k n before) none

-- these oracles were found before a token, with their names
pub record AreFound (ts : List Token) (from to : ℕ) (r : Reading) (found : List ℕ) (names : List (List ℕ)) (k : ℕ) : Type 0 where
  pub rest : oracles_from ts r k (to - k) found ≡ oracles_from ts (at_start from) from (to - from) []
  pub named : names ≡ map (text_at ts) found
  pub few : length found + from ≤ k

pub found_none : (ts : List Token) (from to : ℕ) → AreFound ts from to (at_start from) [] [] from
found_none ts from to = record { rest = refl; named = refl; few = omega arith }

module _ (ts : List Token) (from to : ℕ) (r : Reading) (found : List ℕ) (names : List (List ℕ)) (k : ℕ) (are : AreFound ts from to r found names k) (h : k < to) where
  by_case : (b : Bool) (text : List ℕ) (more : List ℕ) (others : List (List ℕ)) → text ≡ text_at ts k → more ≡ (if b then found ++ k ∷ [] else found) → others ≡ (if b then names ++ text ∷ [] else names) → (others ≡ map (text_at ts) more) × (length more + from ≤ k + 1)
  by_case true text more others t m o =
      (o ∙ (λ i. are.named i ++ t i ∷ []) ∙ sym (map_push (text_at ts) found k) ∙ ap (map (text_at ts)) (sym m), omega (arith, are.few, ap length m, length_push found k))
  by_case false text more others t m o = (o ∙ are.named ∙ ap (map (text_at ts)) (sym m), omega (arith, are.few, ap length m))

  pub found_next : (next : Reading) (d : Bool) (text : List ℕ) (more : List ℕ) (others : List (List ℕ)) → next ≡ behind_at ts r k → d ≡ defines r (token_at ts k).kind (text_at ts k) → text ≡ text_at ts k → more ≡ (if d && not (is_among names text) then found ++ k ∷ [] else found) → others ≡ (if d && not (is_among names text) then names ++ text ∷ [] else names) → AreFound ts from to next more others (k + 1)
  found_next next d text more others e d_is t m o =
      let both = by_case (d && not (is_among names text)) text more others t m o in
      let same : (if d && not (is_among names text) then found ++ k ∷ [] else found) ≡ with_oracle ts r found k = (λ i. if d_is i && not (is_among (are.named i) (t i)) then found ++ k ∷ [] else found) in
      record {
        rest =
            (λ i. oracles_from ts (e i) (k + 1) (to - (k + 1)) (m i))
            ∙ ap (oracles_from ts (behind_at ts r k) (k + 1) (to - (k + 1))) same
            ∙ sym (oracles_more ts r k to found h)
            ∙ are.rest;
        named = both.0;
        few = both.1;
      }

  pub few_names : length names + from ≤ k
  few_names = omega (arith, are.few, ap length are.named, length-map found (text_at ts))

pub found_all : (ts : List Token) (from to : ℕ) (r : Reading) (found : List ℕ) (names : List (List ℕ)) (k : ℕ) → AreFound ts from to r found names k → to ≤ k → found ≡ oracles_from ts (at_start from) from (to - from) []
found_all ts from to r found names k are past = sym (oracles_none ts r k to found past) ∙ are.rest
