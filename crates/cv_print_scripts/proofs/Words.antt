-- The words of scripts behind names: each has the number of its text.
use Rattle.std.proofs.Common.{◌≡◌, ℕ, zero, suc, true, List, [], ◌∷◌, ◌++◌, map, Option, Some, None, refl, ap, sym, subst, ◌∙◌, inl, inr, unwrap_or}
use Rattle.std.specs.Prelude.{find, slice_get}
use Rattle.std.specs.Str.{bytes_eq}
use Rattle.std.proofs.lemmas.Slice.Eq.{bytes_eq-Decides}
use Rattle.cv_parse_notation.specs.declared.script.ScriptWord.{ScriptWord}
use Rattle.cv_parse_notation.specs.declared.script.ScriptWord.TheVariants as script
use Rattle.cv_parse_tables.specs.spelling.ScriptSpelling.{is_word_spelled, words, word_of_text, word_or_plain, word_spelling, word_with}
use Rattle.cv_parse_tables.specs.terminals.Signs.{place_of}
use Rattle.cv_parse_tables.proofs.terminals.Naming.{stands, text_test}
use Rattle.cv_parse_tables.proofs.spelling.ScriptTable.{found}
use Rattle.cv_print.specs.Terms.{name_text}
use Rattle.cv_print_scripts.specs.steps.Shown.{AreWords}
use Rattle.cv_print_scripts.specs.Texts.{with_all_words, words_among}

-- a name in front keeps its place
pub get_front : (xs ys : List (List ℕ)) (n : ℕ) (t : List ℕ) → slice_get xs n ≡ Some t → slice_get (xs ++ ys) n ≡ Some t
get_front [] ys n t h = absurd (cc)
get_front (x ∷ xs) ys zero t h = h
get_front (x ∷ xs) ys (suc n) t h = get_front xs ys n t h

pub place_front : (xs ys : List (List ℕ)) (t : List ℕ) (n : ℕ) → slice_get xs n ≡ Some t → place_of (xs ++ ys) t ≡ place_of xs t
place_front [] ys t n h = absurd (cc)
place_front (x ∷ xs) ys t zero h =
    elim (text_test x t) [
      | inl a ↦ rw a.0 refl
      | inr b ↦ absurd (let same : bytes_eq x t ≡ true = (bytes_eq-Decides x t).1 (cc) in cc)
    ]
place_front (x ∷ xs) ys t (suc n) h =
    elim (text_test x t) [
      | inl a ↦ rw a.0 refl
      | inr b ↦ rw b (ap suc (place_front xs ys t n h))
    ]

-- a text behind names has a place among all
get_behind : (xs ys : List (List ℕ)) (n : ℕ) (t : List ℕ) → slice_get ys n ≡ Some t → (m : ℕ) × (slice_get (xs ++ ys) m ≡ Some t)
get_behind [] ys n t h = (n, h)
get_behind (x ∷ xs) ys n t h = let r = get_behind xs ys n t h in (suc r.0, r.1)

-- a word that is found by its text has a place among the texts
has_place : (ws : List ScriptWord) (text : List ℕ) (w : ScriptWord) → find (is_word_spelled text) ws ≡ Some w → (n : ℕ) × (slice_get (map word_spelling ws) n ≡ Some text)
has_place [] text w h = absurd (cc)
has_place (v ∷ ws) text w h =
    elim (text_test (word_spelling v) text) [
      | inl a ↦ (0, ap Some a.1)
      | inr b ↦ let r = has_place ws text w (rw b at h) in (suc r.0, r.1)
    ]

no_text : (names : List (List ℕ)) → name_text names (place_of names []) ≡ []
no_text [] = refl
no_text (x ∷ xs) =
    elim (text_test x []) [
      | inl a ↦ rw a.0 a.1
      | inr b ↦ rw b (no_text xs)
    ]

pub are_words : (names : List (List ℕ)) → AreWords (words_among names)
unfolding word_with
are_words names w = by (word_with (word_spelling w)) refl (found w)
  where
    by : (o : Option ScriptWord) → word_with (word_spelling w) ≡ o → word_or_plain (word_with (word_spelling w)) ≡ w → word_of_text (name_text (with_all_words names) (place_of (with_all_words names) (word_spelling w))) ≡ w
    by (Some v) e f =
        let p = has_place words (word_spelling w) v e in
        let q = get_behind names (map word_spelling words) p.0 (word_spelling w) p.1 in
        ap (λ o. word_of_text (unwrap_or o [])) (stands (with_all_words names) (word_spelling w) q.0 q.1) ∙ f
    by None e f =
        let plain : script.Plain ≡ w = ap word_or_plain (sym e) ∙ f in
        subst (λ v. word_of_text (name_text (with_all_words names) (place_of (with_all_words names) (word_spelling v))) ≡ v) plain (ap word_of_text (no_text (with_all_words names)))
