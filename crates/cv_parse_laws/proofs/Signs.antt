-- No name among the signs of a text is `bool`.
use Rattle.std.proofs.Common.{◌≡◌, ℕ, suc, Bool, true, false, List, [], ◌∷◌, ◌++◌, Option, Some, None, refl, ap, sym, subst, ◌∙◌, codes, if◌then◌else◌}
use Rattle.std.specs.Str.{bytes_eq}
use Rattle.std.proofs.lemmas.Bool.{both_ways}
use Rattle.std.proofs.lemmas.Slice.Eq.{bytes_eq-Decides}
use Rattle.cv_lex.specs.declared.TokenKind.{TokenKind}
use Rattle.cv_lex.specs.declared.TokenKind.TheVariants as kind
use Rattle.cv_lex.specs.Lexis.{Token}
use Rattle.cv_parse_notation.specs.declared.script.ScriptWord.TheVariants.{Plain}
use Rattle.cv_parse_notation.specs.declared.sign.Mark.{Mark}
use Rattle.cv_parse_notation.specs.declared.sign.Mark.TheVariants as mark
use Rattle.cv_parse_notation.specs.declared.sign.Sign.{Sign}
use Rattle.cv_parse_notation.specs.declared.sign.Sign.TheVariants as sign
use Rattle.cv_parse_tables.specs.terminals.Braces.{file_tokens}
use Rattle.cv_parse_tables.specs.spelling.Spelling.{mark_of_text}
use Rattle.cv_parse_tables.specs.terminals.Signs.{Step, first_text, is_unnamed, no_counts, one_find, place_of, signs_from, signs_in, signs_of, step_before, text_step, token_step, unnamed_name, unnamed_step, with_name, word_step}
use Rattle.cv_print_bytes.specs.terminals.Written.{is_name}
use Rattle.cv_parse_tables.specs.declared.terminals.openings.Place.TheVariants.{Outside}
use Rattle.cv_parse_tables.proofs.terminals.RightSides.{all_kept}
use Rattle.cv_parse_laws.specs.Words.{AreNamed, IsNamed}

-- `bool` stands first among the names
abbrev BoolFirst : List (List ℕ) → Type 0
BoolFirst l = (names : List (List ℕ)) × (l ≡ codes "bool" ∷ names)

-- a text that isn't `bool` has a place behind it, and `bool` stays first
record Placed (names : List (List ℕ)) (text : List ℕ) : Type 0 where
  place : is_name (place_of names text) ≡ true
  first : BoolFirst (with_name names text)

placed : (names : List (List ℕ)) (text : List ℕ) → BoolFirst names → bytes_eq (codes "bool") text ≡ false → Placed names text
placed names text f e = subst (λ l. Placed l text) (sym f.1) (go f.0 (bytes_eq (codes "bool") text) refl e)
  where
    go : (more : List (List ℕ)) (b : Bool) → bytes_eq (codes "bool") text ≡ b → b ≡ false → Placed (codes "bool" ∷ more) text
    go more true i e = absurd (both_ways _ e refl)
    go more false i e = record {
      place = ap (λ b. is_name (if b then 0 else suc (place_of more text))) i;
      first = (with_name more text, ap (λ b. if b then codes "bool" ∷ more else codes "bool" ∷ with_name more text) i);
    }

pub bool_is : mark_of_text (codes "bool") ≡ Some mark.Bool
unfolding mark_of_text
bool_is = refl

-- no mark is written so, and so it isn't `bool`
no_bool : (text : List ℕ) → mark_of_text text ≡ None → bytes_eq (codes "bool") text ≡ false
no_bool text e = go (bytes_eq (codes "bool") text) refl
  where
    go : (b : Bool) → bytes_eq (codes "bool") text ≡ b → b ≡ false
    go false i = refl
    go true i = absurd (let j : codes "bool" ≡ text = (bytes_eq-Decides (codes "bool") text).0 i in let k : Some mark.Bool ≡ None = sym bool_is ∙ (ap mark_of_text j ∙ e) in cc)

-- the signs of a step are named, and `bool` stays first
record Right (s : Step) : Type 0 where
  named : AreNamed s.signs
  first : BoolFirst s.names

right_word : (names : List (List ℕ)) (counts : _) (text : List ℕ) → BoolFirst names → mark_of_text text ≡ None → Right (word_step names counts text)
right_word names counts text f e =
    elim (bytes_eq text (codes "find")) as (λ b. Right (if b then (record { signs = sign.Find (suc counts.finds) ∷ []; names = names; counts = one_find counts }) else (record { signs = sign.Word (place_of names text) Plain ∷ []; names = with_name names text; counts = counts }))) [
      | true ↦ record { named = (tt, tt); first = f }
      | false ↦ let p = placed names text f (no_bool text e) in record { named = (p.place, tt); first = p.first }
    ]

right_text : (names : List (List ℕ)) (counts : _) (text : List ℕ) (m : Option Mark) → BoolFirst names → mark_of_text text ≡ m → Right (text_step names counts text m)
right_text names counts text (Some m) f e = record { named = (tt, tt); first = f }
right_text names counts text None f e = right_word names counts text f e

right_token : (names : List (List ℕ)) (counts : _) (k : TokenKind) (text : List ℕ) → BoolFirst names → Right (token_step names counts k text)
right_token names counts kind.Ident text f = right_text names counts text (mark_of_text text) f refl
right_token names counts kind.Symbol text f = right_text names counts text (mark_of_text text) f refl
right_token names counts (kind.Number v) text f = record { named = (tt, tt); first = f }
right_token names counts kind.End text f = record { named = tt; first = f }

right : (names : List (List ℕ)) (counts : _) (k : TokenKind) (text next : List ℕ) → BoolFirst names → Right (step_before names counts k text next)
right names counts k text next f =
    elim (is_unnamed text next) as (λ b. Right (if b then unnamed_step names counts else token_step names counts k text)) [
      | true ↦ let p = placed names (unnamed_name (suc counts.unnamed)) f refl in record { named = (p.place, tt); first = p.first }
      | false ↦ right_token names counts k text f
    ]

together : (l m : List Sign) → AreNamed l → AreNamed m → AreNamed (l ++ m)
together [] m v w = w
together (s ∷ l) m v w = (v.0, together l m v.1 w)

from_named : (names : List (List ℕ)) (counts : _) (ts : List Token) → BoolFirst names → AreNamed (signs_from names counts ts).signs
unfolding signs_from
from_named names counts [] f = tt
from_named names counts (t ∷ ts) f =
    let s = step_before names counts t.kind t.text (first_text ts) in
    let r = right names counts t.kind t.text (first_text ts) f in
    together s.signs (signs_from s.names s.counts ts).signs r.named (from_named s.names s.counts ts r.first)

pub signs_named : (ts : List Token) → AreNamed (signs_of ts).signs
signs_named ts = all_kept IsNamed tt tt Outside (signs_in (file_tokens ts)).signs (from_named (codes "bool" ∷ []) no_counts (file_tokens ts) ([], refl))
