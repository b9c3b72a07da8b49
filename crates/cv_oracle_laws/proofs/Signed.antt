-- The signs of a file say what its tokens say, as they are read.
use Rattle.std.proofs.Common.{◌≡◌, ℕ, zero, suc, Bool, true, false, if◌then◌else◌, ◌&&◌, inl, inr, List, [], ◌∷◌, ◌++◌, map, codes, refl, ap, sym, ◌∙◌, subst, Option, Some, None}
use Rattle.std.specs.List.{AllByRecursion}
use Rattle.std.specs.Str.{bytes_eq}
use Rattle.cv_lex.specs.declared.TokenKind.{TokenKind}
use Rattle.cv_lex.specs.declared.TokenKind.TheVariants as kind
use Rattle.cv_lex.specs.Lexis.{Token, IsToken, end_token}
use Rattle.cv_parse_notation.specs.declared.script.ScriptWord.TheVariants.{Plain}
use Rattle.cv_parse_notation.specs.declared.sign.Mark.{Mark}
use Rattle.cv_parse_notation.specs.declared.sign.Mark.TheVariants as mark
use Rattle.cv_parse_notation.specs.declared.sign.Sign.{Sign}
use Rattle.cv_parse_notation.specs.declared.sign.Sign.TheVariants as sign
use Rattle.cv_parse_tables.proofs.spelling.Table.{found, only}
use Rattle.cv_parse_tables.proofs.terminals.Naming.{text_test}
use Rattle.cv_parse_tables.specs.declared.terminals.openings.Turn.{Turn}
use Rattle.cv_parse_tables.specs.declared.terminals.openings.Turn.TheVariants.{Event, Period, Opening, Closing, Joining, Arrow, Other}
use Rattle.cv_parse_tables.specs.declared.terminals.openings.Place.{Place}
use Rattle.cv_parse_tables.specs.declared.terminals.openings.Place.TheVariants.{Outside}
use Rattle.cv_parse_tables.specs.declared.terminals.pass.Counts.{Counts}
use Rattle.cv_parse_tables.specs.spelling.Spelling.{as_told, mark_of_text}
use Rattle.cv_parse_tables.specs.terminals.Braces.{is_end, is_read, open_behind, read_at, read_from, semicolon}
use Rattle.cv_parse_tables.specs.terminals.Openings.{has_event, is_at_atom, next_place, openings_from, turn_of, turn_of_mark, with_opening}
use Rattle.cv_parse_tables.specs.terminals.Signs.{Step, first_text, is_unnamed, no_counts, one_find, place_of, signs_from, signs_of, step_before, text_step, token_step, unnamed_name, unnamed_step, with_name, word_step}
use Rattle.cv_oracles.specs.Steps.{is_number}
use Rattle.cv_oracle_laws.specs.Tokens.{plain}
use Rattle.cv_oracle_laws.proofs.Telling.{Fit, Tell}

-- a token before the end; a number is one of the lexis
abbrev pub Sound : Token → Type 0
Sound t = (is_end t.kind ≡ false) × (is_number t.kind ≡ true → IsToken t.kind t.text)

abbrev pub AreSound : List Token → Type 0
AreSound ts = AllByRecursion Sound ts

record One (t : Token) (s : Step) : Type 0 where
  one : Sign
  alone : s.signs ≡ one ∷ []
  fit : Fit t one

one_word : (names : List (List ℕ)) (counts : Counts) (t : Token) → mark_of_text t.text ≡ None → One t (word_step names counts t.text)
one_word names counts t e = by_find (bytes_eq t.text (codes "find")) refl where
  by_find : (b : Bool) → bytes_eq t.text (codes "find") ≡ b → One t (if b then (record { signs = sign.Find (suc counts.finds) ∷ []; names = names; counts = one_find counts }) else (record { signs = sign.Word (place_of names t.text) Plain ∷ []; names = with_name names t.text; counts = counts }))
  by_find true f = elim (text_test t.text (codes "find")) [
    | inl a ↦ record { one = sign.Find (suc counts.finds); alone = refl; fit = a.1 }
    | inr b ↦ absurd (let z : true ≡ false = sym f ∙ b in cc)
  ]
  by_find false f = record { one = sign.Word (place_of names t.text) Plain; alone = refl; fit = (e, f) }

one_text : (names : List (List ℕ)) (counts : Counts) (t : Token) (m : Option Mark) → mark_of_text t.text ≡ m → is_number t.kind ≡ false → One t (text_step names counts t.text m)
one_text names counts t (Some m) e k = record { one = sign.Mark m; alone = refl; fit = (ap mark_of_text (sym (only t.text m e)) ∙ found m, k) }
one_text names counts t None e k = one_word names counts t e

one_step : (names : List (List ℕ)) (counts : Counts) (t : Token) (w : TokenKind) → t.kind ≡ w → Sound t → One t (token_step names counts w t.text)
one_step names counts t kind.Ident e h = one_text names counts t (mark_of_text t.text) refl (ap is_number e)
one_step names counts t kind.Symbol e h = one_text names counts t (mark_of_text t.text) refl (ap is_number e)
one_step names counts t (kind.Number v) e h = record { one = sign.Number v; alone = refl; fit = (e, h.1 (ap is_number e)) }
one_step names counts t kind.End e h = absurd (let z : true ≡ false = sym (ap is_end e) ∙ h.0 in cc)

one_before : (names : List (List ℕ)) (counts : Counts) (t : Token) (next : List ℕ) → Sound t → One t (step_before names counts t.kind t.text next)
one_before names counts t next h = by_name (is_unnamed t.text next) refl where
  by_name : (b : Bool) → is_unnamed t.text next ≡ b → One t (if b then unnamed_step names counts else token_step names counts t.kind t.text)
  by_name true e = elim (text_test t.text (codes "collision")) [
    | inl a ↦ record { one = sign.Unnamed (place_of names (unnamed_name (suc counts.unnamed))); alone = refl; fit = a.1 }
    | inr b ↦ absurd (let z : true ≡ false = sym e ∙ ap (λ x. x && bytes_eq next (codes "new")) b in cc)
  ]
  by_name false e = one_step names counts t t.kind refl h

tell_from : (names : List (List ℕ)) (counts : Counts) (ts : List Token) (end : ℕ) → AreSound ts → Tell ts (signs_from names counts (ts ++ end_token end ∷ [])).signs
unfolding signs_from
tell_from names counts [] end h = tt
tell_from names counts (t ∷ ts) end (h, hs) =
    let s = step_before names counts t.kind t.text (first_text (ts ++ end_token end ∷ [])) in
    let x = one_before names counts t (first_text (ts ++ end_token end ∷ [])) h in
    subst (λ l. Tell (t ∷ ts) (l ++ (signs_from s.names s.counts (ts ++ end_token end ∷ [])).signs)) (sym x.alone) (x.fit, tell_from s.names s.counts ts end hs)

-- each opening parenthesis is told

opening_told : (m : Mark) → turn_of_mark m ≡ Opening → as_told m ≡ mark.Open
opening_told mark.Open e = refl
opening_told mark.OpenAtoms e = refl
opening_told m e = absurd (cc)

fit_opening : (right : Bool) (t : Token) (s : Sign) → Fit t s → Fit t (with_opening right (turn_of s) s)
fit_opening right t (sign.Word n w) f = f
fit_opening right t (sign.Number v) f = f
fit_opening right t (sign.Find n) f = f
fit_opening right t (sign.Unnamed n) f = f
fit_opening right t (sign.Mark m) f = go right (turn_of_mark m) refl where
  go : (r : Bool) (u : Turn) → turn_of_mark m ≡ u → Fit t (with_opening r u (sign.Mark m))
  go true Opening e = (f.0 ∙ ap Some (opening_told m e), f.1)
  go false Opening e = (f.0 ∙ ap Some (opening_told m e), f.1)
  go r Event e = f
  go r Period e = f
  go r Closing e = f
  go r Joining e = f
  go r Arrow e = f
  go r Other e = f

tell_openings : (place : Place) (ts : List Token) (ss : List Sign) → Tell ts ss → Tell ts (openings_from place ss)
unfolding openings_from
tell_openings place [] [] a = tt
tell_openings place (t ∷ ts) (s ∷ ss) a =
    let right = is_at_atom place && has_event ss in
    (fit_opening right t s a.0, tell_openings (next_place right place (turn_of s)) ts ss a.1)
tell_openings place [] (s ∷ ss) a = absurd a
tell_openings place (t ∷ ts) [] a = absurd a

-- tokens as they are read

read_sound : (depth : ℕ) (t : Token) → Sound t → Sound (read_at depth t)
read_sound zero t h = h
read_sound (suc depth) t h = by_read (is_read t.kind t.text) where
  by_read : (b : Bool) → Sound (if b then t else semicolon t.offset)
  by_read true = h
  by_read false = (refl, λ e. absurd (cc))

all_read_sound : (depth : ℕ) (ts : List Token) → AreSound ts → AreSound (read_from depth ts)
unfolding read_from
all_read_sound depth [] h = tt
all_read_sound depth (t ∷ ts) (h, hs) = (read_sound depth t h, all_read_sound (open_behind depth t.text) ts hs)

end_read : (depth end : ℕ) → read_at depth (end_token end) ≡ end_token end
end_read zero end = refl
end_read (suc depth) end = refl

all_read : (depth : ℕ) (front : List Token) (end : ℕ) → read_from depth (front ++ end_token end ∷ []) ≡ read_from depth front ++ end_token end ∷ []
unfolding read_from
all_read depth [] end = ap (λ t. t ∷ []) (end_read depth end)
all_read depth (t ∷ front) end = ap (λ l. read_at depth t ∷ l) (all_read (open_behind depth t.text) front end)

pub tell_file : (front : List Token) (end : ℕ) → AreSound front → Tell (read_from 0 front) (signs_of (front ++ end_token end ∷ [])).signs
tell_file front end h =
    let x = tell_from (codes "bool" ∷ []) no_counts (read_from 0 front) end (all_read_sound 0 front h) in
    tell_openings Outside (read_from 0 front) _ (subst (λ l. Tell (read_from 0 front) (signs_from (codes "bool" ∷ []) no_counts l).signs) (sym (all_read 0 front end)) x)

-- places say nothing

fit_plain : (t u : Token) → t.kind ≡ u.kind → t.text ≡ u.text → (s : Sign) → Fit t s → Fit u s
fit_plain t u e f s h = subst (λ k. Fit (record { kind = k; text = u.text; offset = 0 }) s) e (subst (λ x. Fit (record { kind = t.kind; text = x; offset = 0 }) s) f (bare t s h)) where
  bare : (t : Token) (s : Sign) → Fit t s → Fit (record { kind = t.kind; text = t.text; offset = 0 }) s
  bare t (sign.Word n w) h = h
  bare t (sign.Number v) h = h
  bare t (sign.Find n) h = h
  bare t (sign.Unnamed n) h = h
  bare t (sign.Mark m) h = h

same_read : (depth : ℕ) (t : Token) → ((read_at depth t).kind ≡ (read_at depth (plain t)).kind) × ((read_at depth t).text ≡ (read_at depth (plain t)).text)
same_read zero t = (refl, refl)
same_read (suc depth) t = by_read (is_read t.kind t.text) where
  by_read : (b : Bool) → ((if b then t else semicolon t.offset).kind ≡ (if b then plain t else semicolon 0).kind) × ((if b then t else semicolon t.offset).text ≡ (if b then plain t else semicolon 0).text)
  by_read true = (refl, refl)
  by_read false = (refl, refl)

pub tell_plain : (depth : ℕ) (ts : List Token) (gs : List Sign) → Tell (read_from depth ts) gs → Tell (read_from depth (map plain ts)) gs
unfolding read_from
tell_plain depth [] gs a = a
tell_plain depth (t ∷ ts) [] a = absurd a
tell_plain depth (t ∷ ts) (s ∷ gs) a = let e = same_read depth t in (fit_plain (read_at depth t) (read_at depth (plain t)) e.0 e.1 s a.0, tell_plain (open_behind depth t.text) ts gs a.1)

pub plain_sound : (ts : List Token) → AreSound (map plain ts) → AreSound ts
plain_sound [] h = tt
plain_sound (t ∷ ts) (h, hs) = (h, plain_sound ts hs)

pub both_sound : (ts us : List Token) → AreSound ts → AreSound us → AreSound (ts ++ us)
both_sound [] us a b = b
both_sound (t ∷ ts) us (h, a) b = (h, both_sound ts us a b)

pub front_sound : (ts us : List Token) → AreSound (ts ++ us) → AreSound ts
front_sound [] us h = tt
front_sound (t ∷ ts) us (e, h) = (e, front_sound ts us h)

pub back_sound : (ts us : List Token) → AreSound (ts ++ us) → AreSound us
back_sound [] us h = h
back_sound (t ∷ ts) us (e, h) = back_sound ts us h
