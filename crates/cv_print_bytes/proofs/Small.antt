-- The small game, its names and its text.
use Rattle.std.proofs.Common.{◌≡◌, ℕ, zero, suc, true, List, length, Some, refl, sym, ◌∙◌, subst, codes}
use Rattle.std.specs.Prelude.{slice_get}
use Rattle.std.specs.Fmt.{digits}
use Rattle.cv_scope_rules.specs.Phrases.{Inputs, is_phrase}
use Rattle.cv_print.specs.Games.{game_text, process_text}
use Rattle.cv_print.specs.Terms.{entries_text, term_text}
use Rattle.cv_print_bytes.specs.terminals.Signs.{entries_signs, game_signs, numbered, process_signs, term_signs}
use Rattle.cv_print_bytes.specs.terminals.Worked.{small, small_signs}
use Rattle.cv_parse_tables.specs.terminals.Signs.{place_of}
use Rattle.cv_parse_tables.specs.spelling.Spelling.{mark_of_text}
use Rattle.cv_print_bytes.specs.Known.{AreNames, IsName, is_named}
use Rattle.cv_print_bytes.specs.Texts.{HasSigns}
use Rattle.cv_print_bytes.specs.Worked.{small_names, small_text}
use Rattle.cv_print_bytes.proofs.Read.{game_tokens}

at_place : (i : ℕ) (t : List ℕ) → slice_get small_names i ≡ Some t → i ≡ place_of small_names t
at_place zero t e = let h : codes "bool" ≡ t = cc in subst (λ x. 0 ≡ place_of small_names x) h refl
at_place (suc zero) t e = let h : codes "n" ≡ t = cc in subst (λ x. 1 ≡ place_of small_names x) h refl
at_place (suc (suc zero)) t e = let h : codes "c" ≡ t = cc in subst (λ x. 2 ≡ place_of small_names x) h refl
at_place (suc (suc (suc zero))) t e = let h : codes "T" ≡ t = cc in subst (λ x. 3 ≡ place_of small_names x) h refl
at_place (suc (suc (suc (suc zero)))) t e = let h : codes "i" ≡ t = cc in subst (λ x. 4 ≡ place_of small_names x) h refl
at_place (suc (suc (suc (suc (suc zero))))) t e = let h : codes "x" ≡ t = cc in subst (λ x. 5 ≡ place_of small_names x) h refl
at_place (suc (suc (suc (suc (suc (suc zero)))))) t e = let h : codes "b" ≡ t = cc in subst (λ x. 6 ≡ place_of small_names x) h refl
at_place (suc (suc (suc (suc (suc (suc (suc zero))))))) t e = let h : codes "u" ≡ t = cc in subst (λ x. 7 ≡ place_of small_names x) h refl
at_place (suc (suc (suc (suc (suc (suc (suc (suc zero)))))))) t e = let h : codes "e" ≡ t = cc in subst (λ x. 8 ≡ place_of small_names x) h refl
at_place (suc (suc (suc (suc (suc (suc (suc (suc (suc i))))))))) t e = absurd (cc)

is_name : (x : ℕ) (t : List ℕ) → slice_get small_names (suc x) ≡ Some t → IsName t
unfolding mark_of_text
is_name zero t e = let h : codes "n" ≡ t = cc in subst IsName h (record { token = refl; no_mark = refl; not_find = λ f. cc })
is_name (suc zero) t e = let h : codes "c" ≡ t = cc in subst IsName h (record { token = refl; no_mark = refl; not_find = λ f. cc })
is_name (suc (suc zero)) t e = let h : codes "T" ≡ t = cc in subst IsName h (record { token = refl; no_mark = refl; not_find = λ f. cc })
is_name (suc (suc (suc zero))) t e = let h : codes "i" ≡ t = cc in subst IsName h (record { token = refl; no_mark = refl; not_find = λ f. cc })
is_name (suc (suc (suc (suc zero)))) t e = let h : codes "x" ≡ t = cc in subst IsName h (record { token = refl; no_mark = refl; not_find = λ f. cc })
is_name (suc (suc (suc (suc (suc zero))))) t e = let h : codes "b" ≡ t = cc in subst IsName h (record { token = refl; no_mark = refl; not_find = λ f. cc })
is_name (suc (suc (suc (suc (suc (suc zero)))))) t e = let h : codes "u" ≡ t = cc in subst IsName h (record { token = refl; no_mark = refl; not_find = λ f. cc })
is_name (suc (suc (suc (suc (suc (suc (suc zero))))))) t e = let h : codes "e" ≡ t = cc in subst IsName h (record { token = refl; no_mark = refl; not_find = λ f. cc })
is_name (suc (suc (suc (suc (suc (suc (suc (suc x)))))))) t e = absurd (cc)

pub are : AreNames small_names
are = record { bool_first = refl; each = is_name; apart = λ i j t a b. at_place i t a ∙ sym (at_place j t b) }

pub named : is_named (length small_names) small ≡ true
unfolding is_named
named = refl

pub text : game_text small_names small ≡ small_text
unfolding process_text term_text entries_text digits
text = refl

spelled : game_signs small ≡ small_signs
unfolding entries_signs numbered process_signs term_signs
spelled = refl

phrase : is_phrase Inputs small ≡ true
unfolding is_phrase
phrase = refl

pub signs : HasSigns small_names small_text small_signs
signs = subst (λ l. HasSigns small_names small_text l) spelled (subst (λ b. HasSigns small_names b (game_signs small)) text (game_tokens small_names small are named phrase))
