-- The numbers of names among the signs of tokens are below the number of names, whatever the tokens.
use Rattle.std.proofs.Common.{ℕ, suc, ◌<◌, ◌≤◌, true, false, if◌then◌else◌, List, [], ◌∷◌, length, Option, Some, None, arith, codes}
use Rattle.std.specs.List.{AllByRecursion}
use Rattle.std.specs.Str.{bytes_eq}
use Rattle.cv_syntax_trees.proofs.lists.Each.{AllByRecursion_append, AllByRecursion_weaker}
use Rattle.cv_lex.specs.declared.TokenKind.{TokenKind}
use Rattle.cv_lex.specs.declared.TokenKind.TheVariants as kind
use Rattle.cv_lex.specs.Lexis.{Token}
use Rattle.cv_parse_notation.specs.declared.script.ScriptWord.TheVariants.{Plain}
use Rattle.cv_parse_notation.specs.declared.sign.Mark.{Mark}
use Rattle.cv_parse_notation.specs.declared.sign.Sign.{Sign}
use Rattle.cv_parse_notation.specs.declared.sign.Sign.TheVariants as sign
use Rattle.cv_parse_tables.specs.declared.terminals.pass.Counts.{Counts}
use Rattle.cv_parse_tables.specs.declared.terminals.openings.Place.TheVariants.{Outside}
use Rattle.cv_parse_tables.proofs.terminals.RightSides.{all_kept}
use Rattle.cv_parse_tables.specs.terminals.Braces.{file_tokens}
use Rattle.cv_parse_tables.specs.spelling.Spelling.{mark_of_text}
use Rattle.cv_parse_tables.specs.terminals.Signs.{NumberBelow, Step, first_text, is_unnamed, no_counts, one_find, place_of, signs_from, signs_in, signs_of, step_before, text_step, token_step, unnamed_name, unnamed_step, with_name, word_step}

abbrev pub AreBelow : ℕ → List Sign → Type 0
AreBelow bound signs = AllByRecursion (NumberBelow bound) signs

raised : (m n : ℕ) → m ≤ n → (s : Sign) → NumberBelow m s → NumberBelow n s
raised m n l (sign.Word x w) h = omega arith
raised m n l (sign.Unnamed x) h = omega arith
raised m n l (sign.Number v) h = tt
raised m n l (sign.Find k) h = tt
raised m n l (sign.Mark k) h = tt

-- a place among names, at least as many as these
record IsAmong (count place : ℕ) (names : List (List ℕ)) : Type 0 where
  below : place < length names
  more : count ≤ length names

-- a text has a place among the names that are there behind it
placed : (names : List (List ℕ)) (text : List ℕ) → IsAmong (length names) (place_of names text) (with_name names text)
placed [] text = record { below = omega arith; more = omega arith }
placed (name ∷ names) text =
    let p = placed names text in
    elim (bytes_eq name text) as (λ b. IsAmong (suc (length names)) (if b then 0 else suc (place_of names text)) (if b then name ∷ names else name ∷ with_name names text)) [
      | true ↦ record { below = omega arith; more = omega arith }
      | false ↦ record { below = let b = p.below in omega arith; more = let m = p.more in omega arith }
    ]

-- the signs of a step, or of all tokens, are below its names, of which there are as many as before or more
record Fits (count : ℕ) (signs : List Sign) (names : List (List ℕ)) : Type 0 where
  below : AreBelow (length names) signs
  more : count ≤ length names

abbrev FitsIn : List (List ℕ) → Step → Type 0
FitsIn names s = Fits (length names) s.signs s.names

word_fits : (names : List (List ℕ)) (counts : Counts) (text : List ℕ) → FitsIn names (word_step names counts text)
word_fits names counts text =
    let p = placed names text in
    elim (bytes_eq text (codes "find")) as (λ b. FitsIn names (if b then (record { signs = sign.Find (suc counts.finds) ∷ []; names = names; counts = one_find counts }) else (record { signs = sign.Word (place_of names text) Plain ∷ []; names = with_name names text; counts = counts }))) [
      | true ↦ record { below = (tt, tt); more = omega arith }
      | false ↦ record { below = (p.below, tt); more = p.more }
    ]

text_fits : (names : List (List ℕ)) (counts : Counts) (text : List ℕ) (m : Option Mark) → FitsIn names (text_step names counts text m)
text_fits names counts text (Some m) = record { below = (tt, tt); more = omega arith }
text_fits names counts text None = word_fits names counts text

token_fits : (names : List (List ℕ)) (counts : Counts) (k : TokenKind) (text : List ℕ) → FitsIn names (token_step names counts k text)
token_fits names counts kind.Ident text = text_fits names counts text (mark_of_text text)
token_fits names counts kind.Symbol text = text_fits names counts text (mark_of_text text)
token_fits names counts (kind.Number v) text = record { below = (tt, tt); more = omega arith }
token_fits names counts kind.End text = record { below = tt; more = omega arith }

step_fits : (names : List (List ℕ)) (counts : Counts) (k : TokenKind) (text next : List ℕ) → FitsIn names (step_before names counts k text next)
step_fits names counts k text next =
    let p = placed names (unnamed_name (suc counts.unnamed)) in
    elim (is_unnamed text next) as (λ b. FitsIn names (if b then unnamed_step names counts else token_step names counts k text)) [
      | true ↦ record { below = (p.below, tt); more = p.more }
      | false ↦ token_fits names counts k text
    ]

all_fit : (names : List (List ℕ)) (counts : Counts) (ts : List Token) → Fits (length names) (signs_from names counts ts).signs (signs_from names counts ts).names
unfolding signs_from
all_fit names counts [] = record { below = tt; more = omega arith }
all_fit names counts (t ∷ ts) =
    let s = step_before names counts t.kind t.text (first_text ts) in
    let f = step_fits names counts t.kind t.text (first_text ts) in
    let r = all_fit s.names s.counts ts in
    let rest = signs_from s.names s.counts ts in
    record {
      below = AllByRecursion_append (NumberBelow (length rest.names)) s.signs rest.signs
          (AllByRecursion_weaker (NumberBelow (length s.names)) (NumberBelow (length rest.names)) (raised (length s.names) (length rest.names) r.more) s.signs f.below) r.below;
      more = let m = f.more in let n = r.more in omega arith;
    }

-- there is `bool` among the names
pub some_name : (ts : List Token) → 0 < length (signs_of ts).names
some_name ts = let m = (all_fit (codes "bool" ∷ []) no_counts (file_tokens ts)).more in omega arith

pub signs_below : (ts : List Token) → AreBelow (length (signs_of ts).names) (signs_of ts).signs
signs_below ts = all_kept (NumberBelow (length (signs_of ts).names)) tt tt Outside (signs_in (file_tokens ts)).signs (all_fit (codes "bool" ∷ []) no_counts (file_tokens ts)).below
