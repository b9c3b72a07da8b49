-- The signs of patterns and of what is sent.
use Rattle.std.proofs.Common.{◌≡◌, ℕ, zero, suc, ◌<◌, false, inl, inr, List, [], ◌∷◌, ◌++◌, codes, refl, ap, sym, ◌∙◌, subst, arith, Some}
use Rattle.std.proofs.lemmas.List.{append-nil}
use Rattle.cv_parse_notation.specs.declared.script.ScriptWord.{ScriptWord}
use Rattle.cv_parse_notation.specs.declared.sign.Mark.{Mark}
use Rattle.cv_parse_notation.specs.declared.sign.Mark.TheVariants as mark
use Rattle.cv_parse_notation.specs.declared.sign.Sign.{Sign}
use Rattle.cv_parse_notation.specs.declared.sign.Sign.TheVariants as sign
use Rattle.cv_parse_notation.specs.Form.{deeper}
use Rattle.cv_parse_notation.specs.Spells.{kind_of, next_is, is_mark}
use Rattle.cv_parse_grammar.specs.depth.Files.{most_levels}
use Rattle.cv_parse_grammar.specs.declared.role.Role.TheVariants.{BindsVariable}
use Rattle.cv_parse_grammar.specs.Phrases.{Phrase, listed, row, typed, vars}
use Rattle.cv_parse_grammar.specs.Phrases as sort
use Rattle.cv_parse_grammar.specs.Processes as rows
use Rattle.cv_parse_grammar.specs.Rules.{rule}
use Rattle.cv_parse_grammar.specs.Terms as terms
use Rattle.cv_oracle_laws.proofs.Spelled.{AllOf, Is, at_sort, by_row, is_before, is_behind, is_both, is_either, is_first_or, is_level, is_made, is_may, is_sign, is_word, no_level}
use Rattle.cv_oracle_laws.proofs.Terms.{Closes, match_in, plain_mark, variables_front, variable_mark, none, another, opens}
use Rattle.cv_oracle_laws.proofs.Views.{its_mark}
use Rattle.cv_oracle_laws.proofs.Telling.{Fit, no_fit}
use Rattle.cv_oracle_laws.specs.Tokens.{symbol}
use Rattle.cv_lex.specs.declared.TokenKind.TheVariants as kind
use Rattle.cv_lex.specs.Lexis.{Token}
use Rattle.cv_parse_tables.proofs.spelling.Table.{found}
use Rattle.cv_parse_tables.specs.spelling.Spelling.{as_told}

-- a phrase one level down, by its row
pub deeper_row : (n : ℕ) (s : sort.Sort) (gs rest : List Sign) → Is n (deeper s) gs rest → (m : ℕ) × (n ≡ suc m) × Is m (rule s) gs rest
deeper_row zero s gs rest x = absurd (no_level x)
deeper_row (suc m) s gs rest x = (m, refl, by_row m s gs rest (at_sort m s gs rest x))

-- a channel without indices, or with some

pub data Channel (gs rest : List Sign) : Type 0 where
  plain : (x : ℕ) (w : ScriptWord) → gs ≡ sign.Word x w ∷ rest → Channel gs rest
  indexed : (x : ℕ) (w : ScriptWord) (hs : List Sign) → gs ≡ sign.Word x w ∷ sign.Mark mark.OpenSquare ∷ hs → Channel gs rest

pub channel_of : (n : ℕ) (gs rest : List Sign) → Is n rows.channel gs rest → Channel gs rest
channel_of n gs rest x =
    let b = is_both x in
    let w = is_word b.1 in
    elim (is_may (is_made b.2)) [
      | inl e ↦ plain w.0 w.1 (w.2 ∙ ap (λ l. sign.Word w.0 w.1 ∷ l) e.0)
      | inr y ↦ let d = deeper_row n sort.Indices b.0 rest y in let c = is_behind (is_level d.2).1 in indexed w.0 w.1 c.0 (w.2 ∙ ap (λ l. sign.Word w.0 w.1 ∷ l) c.1)
    ]

-- an input: its channel, and its variables

pub data Pattern (gs rest : List Sign) : Type 0 where
  listing : (x : ℕ) (w : ScriptWord) (vs : List Sign) → AllOf false variable_mark vs → gs ≡ sign.Mark mark.Open ∷ sign.Word x w ∷ sign.Mark mark.Comma ∷ sign.Mark mark.Open ∷ (vs ++ sign.Mark mark.Close ∷ sign.Mark mark.Close ∷ rest) → Pattern gs rest
  single : (x : ℕ) (w : ScriptWord) (y : ℕ) (v : ScriptWord) (hs : List Sign) → gs ≡ sign.Mark mark.Open ∷ sign.Word x w ∷ sign.Mark mark.Comma ∷ sign.Word y v ∷ hs → Pattern gs rest
  indexing : (x : ℕ) (w : ScriptWord) (hs : List Sign) → gs ≡ sign.Mark mark.Open ∷ sign.Word x w ∷ sign.Mark mark.OpenSquare ∷ hs → Pattern gs rest

pub pattern_of : (n : ℕ) (gs rest : List Sign) → Is n rows.pattern gs rest → Pattern gs rest
pattern_of n gs rest x =
    let a = is_behind (is_level x).1 in
    let b = is_both (is_made (is_before a.2)) in
    let c = is_behind b.2 in
    elim (channel_of n a.0 b.0 b.1) [
      | indexed x w hs e ↦ indexing x w hs (a.1 ∙ ap (λ l. sign.Mark mark.Open ∷ l) e)
      | plain x w e ↦
          let so_far : gs ≡ sign.Mark mark.Open ∷ sign.Word x w ∷ sign.Mark mark.Comma ∷ c.0 = a.1 ∙ ap (λ l. sign.Mark mark.Open ∷ l) (e ∙ ap (λ l. sign.Word x w ∷ l) c.1) in
          elim (is_either c.2) [
            | inl y ↦
                let d = deeper_row n sort.Variables c.0 (sign.Mark mark.Close ∷ rest) y in
                let f = is_behind (is_level d.2).1 in
                let v = variables_front (listed (vars BindsVariable)) refl (is_before f.2) in
                listing x w v.signs v.all (so_far ∙ ap (λ l. sign.Mark mark.Open ∷ sign.Word x w ∷ sign.Mark mark.Comma ∷ l) (f.1 ∙ ap (λ l. sign.Mark mark.Open ∷ l) v.split))
            | inr y ↦
                let d = is_both (is_made y) in
                let v = is_word d.1 in
                single x w v.0 v.1 d.0 (so_far ∙ ap (λ l. sign.Mark mark.Open ∷ sign.Word x w ∷ sign.Mark mark.Comma ∷ l) v.2)
          ]
    ]

-- no term begins with a parenthesis of a right side
pub primary_first : (n : ℕ) (gs rest : List Sign) → Is n terms.primary gs rest → (s : Sign) × (hs : List Sign) × (gs ≡ s ∷ hs) × (s ≡ sign.Mark mark.OpenAtoms → ⊥)
primary_first n gs rest x = elim (is_either x) [
  | inl a ↦ let b = is_both (is_made (is_level a).1) in let w = is_word b.1 in (sign.Word w.0 w.1, _, w.2, λ z. cc)
  | inr x ↦ elim (is_either x) [
    | inl a ↦ let b = is_behind (is_made (is_level a).1) in (sign.Mark mark.Not, _, b.1, λ z. cc)
    | inr x ↦ elim (is_either x) [
      | inl a ↦ let b = is_sign (is_made (is_level a).1) in (sign.Mark mark.True, _, b, λ z. cc)
      | inr x ↦ elim (is_either x) [
        | inl a ↦ let b = is_sign (is_made (is_level a).1) in (sign.Mark mark.False, _, b, λ z. cc)
        | inr a ↦ let b = is_behind (is_level a).1 in (sign.Mark mark.Open, _, b.1, λ z. cc)
      ]
    ]
  ]
]

pub term_first : (n : ℕ) (gs rest : List Sign) → Is n terms.term gs rest → (s : Sign) × (hs : List Sign) × (gs ≡ s ∷ hs) × (s ≡ sign.Mark mark.OpenAtoms → ⊥)
term_first n gs rest x = let a = is_both (is_made x) in let b = is_both (is_made a.1) in let c = is_both (is_made b.1) in primary_first n gs c.0 c.1

-- an output: its channel, and what is sent

pub data Sending (gs rest : List Sign) : Type 0 where
  listing : (x : ℕ) (w : ScriptWord) (ms : List Sign) → Closes 0 ms → gs ≡ sign.Mark mark.Open ∷ sign.Word x w ∷ sign.Mark mark.Comma ∷ sign.Mark mark.Open ∷ (ms ++ sign.Mark mark.Close ∷ sign.Mark mark.Close ∷ rest) → Sending gs rest
  single : (x : ℕ) (w : ScriptWord) (s : Sign) (hs : List Sign) → (s ≡ sign.Mark mark.OpenAtoms → ⊥) → next_is (is_mark mark.Open) (s ∷ hs) ≡ false → gs ≡ sign.Mark mark.Open ∷ sign.Word x w ∷ sign.Mark mark.Comma ∷ s ∷ hs → Sending gs rest
  indexing : (x : ℕ) (w : ScriptWord) (hs : List Sign) → gs ≡ sign.Mark mark.Open ∷ sign.Word x w ∷ sign.Mark mark.OpenSquare ∷ hs → Sending gs rest

pub sending_of : (n : ℕ) (gs rest : List Sign) → n < most_levels → Is n rows.sending gs rest → Sending gs rest
sending_of n gs rest few x =
    let a = is_behind (is_level x).1 in
    let b = is_both (is_made (is_before a.2)) in
    let c = is_behind b.2 in
    elim (channel_of n a.0 b.0 b.1) [
      | indexed x w hs e ↦ indexing x w hs (a.1 ∙ ap (λ l. sign.Mark mark.Open ∷ l) e)
      | plain x w e ↦
          let so_far : gs ≡ sign.Mark mark.Open ∷ sign.Word x w ∷ sign.Mark mark.Comma ∷ c.0 = a.1 ∙ ap (λ l. sign.Mark mark.Open ∷ l) (e ∙ ap (λ l. sign.Word x w ∷ l) c.1) in
          elim (is_first_or c.2) [
            | inl y ↦
                let d = deeper_row n sort.Payload c.0 (sign.Mark mark.Close ∷ rest) y in
                let less : d.0 < most_levels = (let z = d.1 in omega arith) in
                let f = is_behind (is_level d.2).1 in
                let v = match_in (listed terms.terms) less refl (is_before f.2) in
                listing x w v.signs (subst (Closes 0) (append-nil v.signs) (v.close [] none)) (so_far ∙ ap (λ l. sign.Mark mark.Open ∷ sign.Word x w ∷ sign.Mark mark.Comma ∷ l) (f.1 ∙ ap (λ l. sign.Mark mark.Open ∷ l) v.split))
            | inr y ↦
                let d = deeper_row n sort.Term c.0 (sign.Mark mark.Close ∷ rest) (is_made y.1) in
                let t = term_first d.0 c.0 (sign.Mark mark.Close ∷ rest) d.2 in
                single x w t.0 t.1 t.3 (ap (next_is (is_mark mark.Open)) (sym t.2) ∙ y.0) (so_far ∙ ap (λ l. sign.Mark mark.Open ∷ sign.Word x w ∷ sign.Mark mark.Comma ∷ l) t.2)
          ]
    ]

-- an opening parenthesis is no other sign, and no matched signs begin with one that closes
pub no_opening : (w : Token) (s : Sign) (hs : List Sign) → w.text ≡ codes "(" → (s ≡ sign.Mark mark.OpenAtoms → ⊥) → next_is (is_mark mark.Open) (s ∷ hs) ≡ false → Fit w s → ⊥
no_opening w s hs e a h f =
    let x = its_mark mark.Open (codes "(") (found mark.Open) refl refl kind.Symbol refl refl w s e f in
    by_told x.0 (λ z. a (x.1 ∙ z)) (ap (λ s. is_mark mark.Open (kind_of s)) (sym x.1) ∙ h) x.2
  where
    by_told : (m : Mark) → (sign.Mark m ≡ sign.Mark mark.OpenAtoms → ⊥) → is_mark mark.Open (kind_of (sign.Mark m)) ≡ false → as_told m ≡ mark.Open → ⊥
    by_told mark.Open a h g = cc
    by_told mark.OpenAtoms a h g = a refl
    by_told m a h g = cc

pub no_closing : (s : Sign) (ms : List Sign) → Closes 0 (s ∷ ms) → Fit (symbol (codes ")")) s → ⊥
no_closing s ms (another h c) f = no_fit (symbol (codes ")")) s mark.Close plain_mark refl f (found mark.Close) h refl
no_closing s ms (opens h c) f = let z : Some mark.Open ≡ Some mark.Close = sym f.0 ∙ found mark.Close in cc

-- the name of a type

pub data TypeName (gs rest : List Sign) : Type 0 where
  named : (x : ℕ) (w : ScriptWord) → gs ≡ sign.Word x w ∷ rest → TypeName gs rest
  bool : gs ≡ sign.Mark mark.Bool ∷ rest → TypeName gs rest

pub type_of : (n : ℕ) (gs rest : List Sign) → Is n sort.type_name gs rest → TypeName gs rest
type_of n gs rest x = elim (is_either x) [
  | inl y ↦ bool (is_sign (is_made y))
  | inr y ↦ let w = is_word y in named w.0 w.1 w.2
]
