-- The parts of a file behind one another: its declarations, its proof block, and its process.
use Rattle.std.proofs.Common.{◌≡◌, ℕ, suc, Bool, true, false, if◌then◌else◌, ◌||◌, inl, inr, List, [], ◌∷◌, ◌++◌, codes, refl, ap, sym, ◌∙◌, subst}
use Rattle.std.specs.List.{AllByRecursion}
use Rattle.std.specs.Str.{bytes_eq}
use Rattle.std.proofs.lemmas.Bool.{both_ways}
use Rattle.cv_lex.specs.Lexis.{Token}
use Rattle.cv_lex.specs.declared.TokenKind.TheVariants as kind
use Rattle.cv_parse_notation.specs.declared.sign.Mark.{Mark}
use Rattle.cv_parse_notation.specs.declared.sign.Mark.TheVariants as mark
use Rattle.cv_parse_notation.specs.declared.sign.Sign.{Sign}
use Rattle.cv_parse_notation.specs.declared.sign.Sign.TheVariants as sign
use Rattle.cv_parse_notation.specs.Spells.{AMark, is_other, kind_of}
use Rattle.cv_parse_tables.proofs.spelling.Table.{found}
use Rattle.cv_parse_tables.proofs.terminals.FileTokens.{none_behind}
use Rattle.cv_parse_tables.proofs.terminals.Naming.{text_test}
use Rattle.cv_parse_tables.specs.spelling.Spelling.{as_told, spelling}
use Rattle.cv_parse_tables.specs.terminals.Braces.{closes, is_end, is_read, opens, read_at, read_from, semicolon}
use Rattle.cv_oracles.specs.Translations.{ends_declarations}
use Rattle.cv_oracle_laws.specs.Tokens.{is_brace}
use Rattle.cv_oracle_laws.proofs.Spelled.{AllOf, is_of}
use Rattle.cv_oracle_laws.proofs.Terms.{bare_mark}
use Rattle.cv_oracle_laws.proofs.Views.{its_mark}
use Rattle.cv_oracle_laws.proofs.Telling.{Fit, Tell, same_text}

-- outside braces, where the signs open none

-- a text of a mark has its own sign
its_sign : (m : Mark) → ((k : Mark) → bare_mark k ≡ true → as_told k ≡ m → ⊥) → (t : Token) (s : Sign) → is_of true bare_mark s ≡ true → (k : Mark) × (s ≡ sign.Mark k) × (as_told k ≡ m) → ⊥
its_sign m bars t s h x = bars x.0 (subst (λ s. is_of true bare_mark s ≡ true) x.1 h) x.2

no_opening_brace : (t : Token) (s : Sign) → is_of true bare_mark s ≡ true → Fit t s → opens t.text ≡ false
no_opening_brace t s h f = elim (text_test t.text (codes "{")) [
  | inl e ↦ absurd (its_sign mark.OpenBrace by_told t s h (its_mark mark.OpenBrace (codes "{") (found mark.OpenBrace) refl refl kind.Symbol refl refl t s e.1 f))
  | inr e ↦ e
]
  where
    by_told : (m : Mark) → bare_mark m ≡ true → as_told m ≡ mark.OpenBrace → ⊥
    by_told mark.OpenBrace h e = cc
    by_told m h e = cc

-- the rest behind a token
pub step_out : (t : Token) (ts : List Token) (s : Sign) (gs : List Sign) → is_of true bare_mark s ≡ true → Tell (read_from 0 (t ∷ ts)) (s ∷ gs) → Fit t s × Tell (read_from 0 ts) gs
unfolding read_from
step_out t ts s gs h a = (a.0, subst (λ d. Tell (read_from d ts) gs) (none_behind t.text (no_opening_brace t s h a.0)) a.1)

pub unread : (ts : List Token) (gs : List Sign) → AllOf true bare_mark gs → Tell (read_from 0 ts) gs → Tell ts gs
unfolding read_from
unread [] [] h a = tt
unread [] (s ∷ gs) h a = absurd a
unread (t ∷ ts) [] h a = absurd a
unread (t ∷ ts) (s ∷ gs) (h, hs) a = let x = step_out t ts s gs h a in (x.0, unread ts gs hs x.1)

-- declarations end where they end

only_ending : (t : Token) (s : Sign) → ends_declarations t.text ≡ true → is_of true bare_mark s ≡ true → Fit t s → ⊥
only_ending t s e h f = elim (text_test t.text (codes "proof")) [
  | inl a ↦ its_sign mark.Proof no_proof t s h (its_mark mark.Proof (codes "proof") (found mark.Proof) refl refl kind.Ident refl refl t s a.1 f)
  | inr a ↦ elim (text_test t.text (codes "process")) [
    | inl b ↦ its_sign mark.Process no_process t s h (its_mark mark.Process (codes "process") (found mark.Process) refl refl kind.Ident refl refl t s b.1 f)
    | inr b ↦ both_ways (ends_declarations t.text) (λ i. a i || b i) e
  ]
]
  where
    no_proof : (k : Mark) → bare_mark k ≡ true → as_told k ≡ mark.Proof → ⊥
    no_proof mark.Proof h e = cc
    no_proof k h e = cc

    no_process : (k : Mark) → bare_mark k ≡ true → as_told k ≡ mark.Process → ⊥
    no_process mark.Process h e = cc
    no_process k h e = cc

-- The signs of declarations are those of the tokens up to where they end, and none of these is refused.

abbrev pub EndNone : List Token → Type 0
EndNone ts = AllByRecursion (λ t. ends_declarations t.text ≡ false) ts

abbrev pub NeverNone : List Token → Type 0
NeverNone ts = AllByRecursion (λ t. bytes_eq t.text (codes ":=") ≡ false) ts

never_clash : (t : Token) (s : Sign) → is_of true bare_mark s ≡ true → Fit t s → bytes_eq t.text (codes ":=") ≡ false
never_clash t s h f = elim (text_test t.text (codes ":=")) [
  | inl e ↦ absurd (its_sign mark.Becomes by_told t s h (its_mark mark.Becomes (codes ":=") (found mark.Becomes) refl refl kind.Symbol refl refl t s e.1 f))
  | inr e ↦ e
]
  where
    by_told : (m : Mark) → bare_mark m ≡ true → as_told m ≡ mark.Becomes → ⊥
    by_told mark.Becomes h e = cc
    by_told m h e = cc

-- an end, or a token that ends declarations
abbrev pub Ends : List Token → Type 0
Ends [] = Unit {0}
Ends (t ∷ ts) = ends_declarations t.text ≡ true

pub pass_declarations : (ts behind : List Token) (ms : List Sign) (m : Mark) (gs : List Sign) → EndNone ts → Ends behind → AllOf true bare_mark ms → as_told m ≡ m → ends_declarations (spelling m) ≡ true →
    Tell (read_from 0 (ts ++ behind)) (ms ++ sign.Mark m ∷ gs) → Tell (read_from 0 behind) (sign.Mark m ∷ gs) × NeverNone ts
unfolding read_from
pass_declarations [] behind [] m gs n e h t d a = (a, tt)
pass_declarations [] [] (s ∷ ms) m gs n e h t d a = absurd a
pass_declarations [] (b ∷ behind) (s ∷ ms) m gs n e (h, hs) t d a = absurd (only_ending b s e h a.0)
pass_declarations (x ∷ ts) behind [] m gs (n, ns) e h t d a = absurd (both_ways (ends_declarations x.text) n (ap ends_declarations (same_text x m t a.0) ∙ d))
pass_declarations (x ∷ ts) behind (s ∷ ms) m gs (n, ns) e (h, hs) t d a =
    let y = step_out x (ts ++ behind) s (ms ++ sign.Mark m ∷ gs) h a in
    let z = pass_declarations ts behind ms m gs ns e hs t d y.1 in
    (z.0, (never_clash x s h y.0, z.1))

-- between braces

-- what is read between braces where a sign is a brace
pub brace_read : (t : Token) (depth : ℕ) (m : Mark) → as_told m ≡ m → (spelling m ≡ codes ";" → ⊥) → Fit (read_at (suc depth) t) (sign.Mark m) → t.text ≡ spelling m
brace_read t depth m e ne f = by_read (is_read t.kind t.text) refl f where
  by_read : (b : Bool) → is_read t.kind t.text ≡ b → Fit (if b then t else semicolon t.offset) (sign.Mark m) → t.text ≡ spelling m
  by_read true g f = same_text t m e f
  by_read false g f = absurd (ne (sym (same_text (semicolon t.offset) m e f)))

-- a brace is read as it is
pub brace_sign : (t : Token) (depth : ℕ) (s : Sign) → is_other (kind_of s) ≡ true → Fit (read_at (suc depth) t) s → is_brace t.text ≡ false
brace_sign t depth s o f = elim (text_test t.text (codes "{")) [
  | inl e ↦ absurd (clash mark.OpenBrace no_open (its_mark mark.OpenBrace (codes "{") (found mark.OpenBrace) refl refl kind.Symbol refl refl t s e.1 (read_as_is (ap (λ b. b || (closes t.text || is_end t.kind)) e.0))))
  | inr a ↦ elim (text_test t.text (codes "}")) [
    | inl e ↦ absurd (clash mark.CloseBrace no_close (its_mark mark.CloseBrace (codes "}") (found mark.CloseBrace) refl refl kind.Symbol refl refl t s e.1 (read_as_is (closing e.0))))
    | inr b ↦ λ i. a i || b i
  ]
]
  where
    closing : closes t.text ≡ true → is_read t.kind t.text ≡ true
    closing e = ap (λ b. opens t.text || (b || is_end t.kind)) e ∙ by_or (opens t.text) where
      by_or : (b : Bool) → (b || true) ≡ true
      by_or true = refl
      by_or false = refl

    no_open : (k : Mark) → as_told k ≡ mark.OpenBrace → is_other (AMark k) ≡ true → ⊥
    no_open mark.OpenBrace e z = cc
    no_open k e z = cc

    no_close : (k : Mark) → as_told k ≡ mark.CloseBrace → is_other (AMark k) ≡ true → ⊥
    no_close mark.CloseBrace e z = cc
    no_close k e z = cc

    read_as_is : is_read t.kind t.text ≡ true → Fit t s
    read_as_is r = subst (λ b. Fit (if b then t else semicolon t.offset) s) r f

    clash : (m : Mark) → ((k : Mark) → as_told k ≡ m → is_other (AMark k) ≡ true → ⊥) → (k : Mark) × (s ≡ sign.Mark k) × (as_told k ≡ m) → ⊥
    clash m bars x = bars x.0 x.2 (subst (λ s. is_other (kind_of s) ≡ true) x.1 o)
