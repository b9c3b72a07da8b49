-- The names of a file are `bool` and identifiers, and those behind a script too.
use Rattle.std.proofs.Common.{◌≡◌, ℕ, zero, suc, ◌<◌, ◌-◌, ◌⊎◌, inl, inr, true, false, ◌==◌, max, if◌then◌else◌, List, [], ◌∷◌, ◌++◌, length, drop, Option, Some, None, refl, ap, sym, ◌∙◌, subst, arith, codes, decimal}
use Rattle.std.specs.Prelude.{All, slice_get}
use Rattle.std.specs.Str.{bytes_eq}
use Rattle.std.proofs.lemmas.Bool.{and_parts, cases_eq, cond_both, eqb-true}
use Rattle.std.proofs.lemmas.List.Elements.{All-drop, All-head, All-push, All-tail, All-take, All-weaker}
use Rattle.std.proofs.lemmas.Slice.Eq.{bytes_eq-Decides}
use Rattle.cv_lex.specs.declared.TokenKind.{TokenKind}
use Rattle.cv_lex.specs.declared.TokenKind.TheVariants as kind
use Rattle.cv_lex.specs.Lexis.{Token, IsToken, has_front, symbols, longest, end_token}
use Rattle.cv_lex.specs.View.{AreTokens}
use Rattle.cv_parse_notation.specs.declared.sign.Mark.{Mark}
use Rattle.cv_parse_notation.specs.declared.sign.Mark.TheVariants as mark
use Rattle.cv_pool.specs.names.Texts.{NoRepeat}
use Rattle.cv_parse_tables.specs.terminals.ScriptSigns.{between, script_signs}
use Rattle.cv_parse_tables.specs.spelling.Spelling.{as_told, spelling, mark_of_text}
use Rattle.cv_parse_tables.specs.terminals.Signs.{Step, no_counts, with_name, is_unnamed, word_step, text_step, token_step, unnamed_step, step_before, unnamed_name, first_text, signs_from, signs_of}
use Rattle.cv_parse_tables.specs.terminals.Braces.{file_tokens}
use Rattle.cv_parse_tables.proofs.terminals.FileTokens.{are_read}
use Rattle.cv_parse_tables.proofs.terminals.Naming.{text_test, with_name_from}
use Rattle.cv_parse_tables.proofs.spelling.Table.{found}
use Rattle.cv_parse_tables.proofs.terminals.Telling.{grown}
use Rattle.cv_print_bytes.specs.Known.{AreNames, IsName}
use Rattle.cv_print_bytes.proofs.Bytes.{collision_token, symbol_length}

-- each symbol is a mark

abbrev Marked : List ℕ → Type 0
Marked text = (m : Mark) × (mark_of_text text ≡ Some m)

data AllMarked : List (List ℕ) → Type 0 where
  no_more : AllMarked []
  more : {ss : List (List ℕ)} (s : List ℕ) → Marked s → AllMarked ss → AllMarked (s ∷ ss)

infixr 30 ◌also◌
◌also◌ : {ss : List (List ℕ)} (m : Mark) → AllMarked ss → AllMarked (spelling m ∷ ss)
m also rest = more (spelling m) (as_told m, found m) rest

symbols_marked : AllMarked symbols
symbols_marked =
    mark.Open also mark.Close also mark.OpenSquare also mark.CloseSquare also mark.OpenBrace also mark.CloseBrace also mark.Comma also mark.Semicolon also mark.Colon also mark.Dot also mark.Bar
    also mark.Bang also mark.At also mark.Prime also mark.Equal also mark.Differ also mark.AtMost also mark.Gives also mark.Implies also mark.Arrow also mark.Both also mark.Either also mark.Becomes also mark.LeftArrow also no_more

front_whole : (s bs : List ℕ) → has_front s bs ≡ true → length s ≡ length bs → s ≡ bs
front_whole [] [] e l = refl
front_whole [] (b ∷ bs) e l = absurd (cc)
front_whole (a ∷ s) [] e l = absurd (cc)
front_whole (a ∷ s) (b ∷ bs) e l =
    let p = and_parts (b == a) (has_front s bs) e in
    let here : a ≡ b = sym (eqb-true b a p.0) in
    let rest : s ≡ bs = front_whole s bs p.1 (omega arith) in
    λ i. here i ∷ rest i

marked_among : (ss : List (List ℕ)) (bs : List ℕ) → AllMarked ss → 0 < length bs → longest ss bs ≡ length bs → Marked bs
marked_among [] bs no_more some = λ e. absurd (omega arith)
marked_among (s ∷ ss) bs (more _ here rest) some =
    cond_both (has_front s bs) (max (length s) (longest ss bs)) (longest ss bs) (λ k. k ≡ length bs → Marked bs)
    (λ front e. elim (cases_eq (longest ss bs) (length bs)) [
      | inl same ↦ marked_among ss bs rest some same
      | inr other ↦ subst Marked (front_whole s bs front (omega arith)) here
    ])
    (λ none e. marked_among ss bs rest some e)

symbol_marked : (text : List ℕ) → IsToken kind.Symbol text → mark_of_text text ≡ None → ⊥
symbol_marked text is none =
    let l = symbol_length text is in
    let m = marked_among symbols text symbols_marked l.0 l.1 in
    let there : mark_of_text text ≡ Some m.0 = m.1 in cc

-- the names so far are `bool` and identifiers

abbrev Proper : List (List ℕ) → Type 0
Proper names = (x : ℕ) (text : List ℕ) → slice_get names x ≡ Some text → (text ≡ codes "bool") ⊎ IsName text

proper_more : (names : List (List ℕ)) (text : List ℕ) → IsName text → Proper names → Proper (with_name names text)
proper_more names text is p x t h =
    elim (with_name_from names text x t h) [
      | inl old ↦ p x t old
      | inr new ↦ inr (subst IsName (sym new.1) is)
    ]

proper_word : (names : List (List ℕ)) (counts : _) (text : List ℕ) → IsToken kind.Ident text → mark_of_text text ≡ None → Proper names → Proper (word_step names counts text).names
proper_word names counts text is none p =
    elim (text_test text (codes "find")) [
      | inl a ↦ rw a.0 p
      | inr b ↦ rw b (proper_more names text (record { token = is; no_mark = none; not_find = λ e. let t : bytes_eq text (codes "find") ≡ true = (bytes_eq-Decides text (codes "find")).1 e in cc }) p)
    ]

proper_text : (names : List (List ℕ)) (counts : _) (text : List ℕ) (m : Option Mark) → mark_of_text text ≡ m → (m ≡ None → IsToken kind.Ident text) → Proper names → Proper (text_step names counts text m).names
proper_text names counts text (Some m) e is p = p
proper_text names counts text None e is p = proper_word names counts text (is refl) e p

-- a token of the lexis, or the end token
abbrev IsRead : TokenKind → List ℕ → Type 0
IsRead k text = (k ≡ kind.End) ⊎ IsToken k text

token_is : (k : TokenKind) (text : List ℕ) → (k ≡ kind.End → ⊥) → IsRead k text → IsToken k text
token_is k text inner (inl end) = absurd (inner end)
token_is k text inner (inr is) = is

proper_token : (names : List (List ℕ)) (counts : _) (k : TokenKind) (text : List ℕ) → IsRead k text → Proper names → Proper (token_step names counts k text).names
proper_token names counts kind.Ident text is p = proper_text names counts text (mark_of_text text) refl (λ _. token_is kind.Ident text (λ e. cc) is) p
proper_token names counts kind.Symbol text is p = proper_text names counts text (mark_of_text text) refl (λ none. absurd (symbol_marked text (token_is kind.Symbol text (λ e. cc) is) none)) p
proper_token names counts (kind.Number v) text is p = p
proper_token names counts kind.End text is p = p

pub no_mark : (rest : List ℕ) → mark_of_text (codes "collision_" ++ rest) ≡ None
unfolding mark_of_text
no_mark rest = refl

unnamed_is : (n : ℕ) → IsName (unnamed_name n)
unnamed_is n = record { token = collision_token n; no_mark = no_mark (decimal n); not_find = λ e. cc }

proper_before : (names : List (List ℕ)) (counts : _) (k : TokenKind) (text next : List ℕ) → IsRead k text → Proper names → Proper (step_before names counts k text next).names
proper_before names counts k text next is p =
    elim (is_unnamed text next) as (λ b. Proper (if b then unnamed_step names counts else token_step names counts k text).names) [
      | true ↦ proper_more names (unnamed_name (suc counts.unnamed)) (unnamed_is (suc counts.unnamed)) p
      | false ↦ proper_token names counts k text is p
    ]

proper_from : (names : List (List ℕ)) (counts : _) (ts : List Token) → All (λ t. IsRead t.kind t.text) ts → Proper names → Proper (signs_from names counts ts).names
unfolding signs_from
proper_from names counts [] each p = p
proper_from names counts (t ∷ ts) each p =
    let s : Step = step_before names counts t.kind t.text (first_text ts) in
    proper_from s.names s.counts ts (All-tail (λ t. IsRead t.kind t.text) t ts each) (proper_before names counts t.kind t.text (first_text ts) (All-head (λ t. IsRead t.kind t.text) t ts each) p)

-- the names behind tokens can stand in a text where those before them can

proper_names : (names : List (List ℕ)) → AreNames names → Proper names
proper_names names known zero text h = let first = known.bool_first in inl (cc)
proper_names names known (suc x) text h = inr (known.each x text h)

names_behind : (names : List (List ℕ)) (counts : _) (ts : List Token) → All (λ t. IsRead t.kind t.text) ts → AreNames names → AreNames (signs_from names counts ts).names
names_behind names counts ts each known =
    let more = grown names counts ts in
    let first = more.keeps zero (codes "bool") known.bool_first in
    let apart = more.apart known.apart in
    let p : Proper (signs_from names counts ts).names = proper_from names counts ts each (proper_names names known) in
    record {
      bool_first = first;
      each = λ x text h. elim (p (suc x) text h) [
        | inl bool ↦ absurd (let e : suc x ≡ zero = apart (suc x) zero (codes "bool") (h ∙ ap (λ t. Some t) bool) first in cc)
        | inr is ↦ is
      ];
      apart = apart;
    }

all_read : (ts : List Token) → AreTokens ts → All (λ t. IsRead t.kind t.text) ts
all_read ts are = subst (All (λ t. IsRead t.kind t.text)) (sym are.all) (All-push (λ t. IsRead t.kind t.text) are.front (end_token are.end) (All-weaker (λ t. IsToken t.kind t.text) (λ t. IsRead t.kind t.text) (λ t is. inr is) are.front are.each) (inl refl))

-- those of a file stand behind `bool` alone

bool_apart : NoRepeat (codes "bool" ∷ [])
bool_apart zero zero text a b = refl
bool_apart zero (suc j) text a b = absurd (cc)
bool_apart (suc i) j text a b = absurd (cc)

bool_alone : AreNames (codes "bool" ∷ [])
bool_alone = record { bool_first = refl; each = λ x text h. absurd (cc); apart = bool_apart }

pub names_of_file : (ts : List Token) → AreTokens ts → AreNames (signs_of ts).names
names_of_file ts are = names_behind (codes "bool" ∷ []) no_counts (file_tokens ts) (all_read (file_tokens ts) (are_read ts are)) bool_alone

-- and those of a script behind the names before it
pub names_of_script : (names : List (List ℕ)) (ts : List Token) (from to : ℕ) → AreTokens ts → AreNames names → AreNames (script_signs names (between from to ts)).names
names_of_script names ts from to are known = names_behind names no_counts (between from to ts) (All-take (λ t. IsRead t.kind t.text) (to - from) (drop from ts) (All-drop (λ t. IsRead t.kind t.text) from ts (all_read ts are))) known
