-- The form of a library, token by token.
use Rattle.std.proofs.Common.{◌≡◌, ℕ, zero, suc, ◌+◌, ◌-◌, ◌<◌, ◌≤◌, inl, inr, true, false, if◌then◌else◌, List, [], ◌∷◌, ◌++◌, length, drop, Option, Result, Ok, Err, refl, ap, sym, ◌∙◌, subst, arith}
use Rattle.std.specs.Prelude.{All}
use Rattle.std.proofs.lemmas.Bool.{cases_lt}
use Rattle.std.proofs.lemmas.List.{append_assoc, append-nil, at_drop_all, drop-drop, drop_more, length_push}
use Rattle.std.proofs.lemmas.List.Elements.{All-push}
use Rattle.cv_lex.specs.Lexis.{Token, end_token}
use Rattle.cv_lex.specs.View.{token_at}
use Rattle.cv_parse_tables.specs.terminals.Braces.{is_end}
use Rattle.cv_library.specs.declared.error.LibraryError.{LibraryError}
use Rattle.cv_library.specs.declared.error.LibraryError.TheVariants.{Syntax}
use Rattle.cv_library.specs.declared.forms.Place.{Place}
use Rattle.cv_library.specs.Libraries.{and_behind, body_from, depth_behind, in_front, inside, place_at, places_from, places_of}
use Rattle.cv_library.specs.Places.{IsInside}

-- bodies

pub body_more : (ts : List Token) (k depth : ℕ) (text : List ℕ) (o : Option ℕ) → k < length ts → false ≡ is_end (token_at ts k).kind → text ≡ (token_at ts k).text → o ≡ depth_behind depth text → body_from depth k (drop k ts) ≡ inside (λ d. body_from d (k + 1) (drop (k + 1) ts)) k o
unfolding body_from
body_more ts k depth text o below shut text_is e =
    ap (body_from depth k) (drop_more ts k (end_token 0) below)
    ∙ (λ i. if sym shut i then Err k else inside (λ d. body_from d (k + 1) (drop (k + 1) ts)) k (depth_behind depth (sym text_is i)))
    ∙ ap (inside (λ d. body_from d (k + 1) (drop (k + 1) ts)) k) (sym e)

pub body_over : (ts : List Token) (k depth : ℕ) → true ≡ is_end (token_at ts k).kind → body_from depth k (drop k ts) ≡ Err k
unfolding body_from
body_over ts k depth e =
    elim (cases_lt k (length ts)) [
      | inl below ↦
          ap (body_from depth k) (drop_more ts k (end_token 0) below)
          ∙ (λ i. if sym e i then Err k else inside (λ d. body_from d (k + 1) (drop (k + 1) ts)) k (depth_behind depth (token_at ts k).text))
      | inr past ↦ at_drop_all (body_from depth k) ts k past
    ]

-- all definitions

abbrev Placed : Type 0
Placed = Result (List Place) LibraryError

places_more : (ts : List Token) (at : ℕ) (r : Result Place ℕ) → at < length ts → false ≡ is_end (token_at ts at).kind → r ≡ place_at ts at → places_from ts 0 at (drop at ts) ≡ and_behind (λ n. places_from ts n (at + 1) (drop (at + 1) ts)) r
unfolding places_from
places_more ts at r below shut e =
    ap (places_from ts 0 at) (drop_more ts at (end_token 0) below)
    ∙ (λ i. if sym shut i then Ok [] else and_behind (λ n. places_from ts n (at + 1) (drop (at + 1) ts)) (sym e i))

places_over : (ts : List Token) (at : ℕ) → true ≡ is_end (token_at ts at).kind → places_from ts 0 at (drop at ts) ≡ Ok []
unfolding places_from
places_over ts at e =
    elim (cases_lt at (length ts)) [
      | inl below ↦
          ap (places_from ts 0 at) (drop_more ts at (end_token 0) below)
          ∙ (λ i. if sym e i then Ok [] else and_behind (λ n. places_from ts n (at + 1) (drop (at + 1) ts)) (place_at ts at))
      | inr past ↦ at_drop_all (places_from ts 0 at) ts at past
    ]

-- the tokens of the definition before are left out
places_skipped : (ts : List Token) (n at : ℕ) (rest : List Token) → places_from ts n at rest ≡ places_from ts 0 (at + n) (drop n rest)
unfolding places_from
places_skipped ts zero at rest = let same : at ≡ at + 0 = omega arith in ap (λ k. places_from ts 0 k rest) same
places_skipped ts (suc n) at [] = refl
places_skipped ts (suc n) at (t ∷ rest) =
    let same : at + 1 + n ≡ at + suc n = omega arith in
    places_skipped ts n (at + 1) rest ∙ ap (λ k. places_from ts 0 k (drop n rest)) same

abbrev after : List Place → Placed → Placed
after front (Ok ps) = Ok (front ++ ps)
after front (Err e) = Err e

after_nil : (r : Placed) → after [] r ≡ r
after_nil (Ok ps) = refl
after_nil (Err e) = refl

after_push : (front : List Place) (p : Place) (r : Placed) → after (front ++ p ∷ []) r ≡ after front (in_front p r)
after_push front p (Ok ps) = ap Ok (append_assoc front (p ∷ []) ps)
after_push front p (Err e) = refl

-- these definitions stand before a token
pub record AreFound (ts : List Token) (found : List Place) (at : ℕ) : Type 0 where
  pub all : after found (places_from ts 0 at (drop at ts)) ≡ places_of ts
  pub within : All (IsInside ts) found
  pub few : length found ≤ at
  pub past : at ≤ length ts

pub found_none : (ts : List Token) → AreFound ts [] 0
found_none ts = record { all = after_nil (places_of ts); within = λ k d l. absurd (omega arith); few = omega arith; past = omega arith }

module _ (ts : List Token) (found : List Place) (at : ℕ) (are : AreFound ts found at) where
  pub found_push : (p : Place) (more : List Place) → at < length ts → false ≡ is_end (token_at ts at).kind → Ok p ≡ place_at ts at → p.word ≡ at → IsInside ts p → more ≡ found ++ p ∷ [] → AreFound ts more (p.end + 1)
  found_push p more below shut e word inside pushed =
      let far : at + 1 + (p.end - p.word) ≡ p.end + 1 = omega (arith, inside.head, inside.body, word) in
      let rest : places_from ts (p.end - p.word) (at + 1) (drop (at + 1) ts) ≡ places_from ts 0 (p.end + 1) (drop (p.end + 1) ts) =
      places_skipped ts (p.end - p.word) (at + 1) (drop (at + 1) ts)
      ∙ ap (places_from ts 0 (at + 1 + (p.end - p.word))) (drop-drop (p.end - p.word) (at + 1) ts)
      ∙ ap (λ k. places_from ts 0 k (drop k ts)) far
      in
      record {
        all =
            ap (λ f. after f (places_from ts 0 (p.end + 1) (drop (p.end + 1) ts))) pushed
            ∙ after_push found p (places_from ts 0 (p.end + 1) (drop (p.end + 1) ts))
            ∙ ap (λ r. after found (in_front p r)) (sym rest)
            ∙ ap (after found) (sym (places_more ts at (Ok p) below shut e))
            ∙ are.all;
        within = subst (All (IsInside ts)) (sym pushed) (All-push (IsInside ts) found p are.within inside);
        few = omega (arith, ap length pushed, length_push found p, are.few, word, inside.head, inside.body);
        past = omega (arith, inside.last);
      }

  pub found_refused : (k : ℕ) → at < length ts → false ≡ is_end (token_at ts at).kind → Err k ≡ place_at ts at → places_of ts ≡ Err (Syntax k)
  found_refused k below shut e = sym are.all ∙ ap (after found) (places_more ts at (Err k) below shut e)

  pub found_few : length found ≤ length ts
  found_few = omega (arith, are.few, are.past)

  pub found_all : true ≡ is_end (token_at ts at).kind → places_of ts ≡ Ok found
  found_all e = sym are.all ∙ ap (after found) (places_over ts at e) ∙ ap Ok (append-nil found)
