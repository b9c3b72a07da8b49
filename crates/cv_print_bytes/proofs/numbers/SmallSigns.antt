-- The names and labels of the game of a file are small.
use Rattle.std.proofs.Common.{◌≡◌, ℕ, zero, suc, ◌+◌, ◌≤◌, ◌<◌, ◌^◌, Bool, true, false, nat_lt, if◌then◌else◌, List, [], ◌∷◌, ◌++◌, length, take, drop, length-drop, Option, Some, None, Result, Ok, refl, ap, sym, ◌∙◌, subst, arith, codes}
use Rattle.std.specs.Prelude.{All}
use Rattle.std.specs.List.{AllByRecursion, prefix_len}
use Rattle.std.specs.Str.{bytes_eq}
use Rattle.std.proofs.lemmas.Bool.{cond_both, lt-ltb}
use Rattle.std.proofs.lemmas.List.Elements.{All-cons, All-head, All-tail}
use Rattle.std.proofs.lemmas.List.{length_push}
use Rattle.std.proofs.lemmas.Option.{slice_get_within}
use Rattle.std.specs.Char.{is_ascii_alphabetic, is_ascii_digit}
use Rattle.cv_syntax_trees.proofs.lists.Each.{AllByRecursion_append}
use Rattle.cv_lex.specs.declared.TokenKind.{TokenKind}
use Rattle.cv_lex.specs.declared.TokenKind.TheVariants as kind
use Rattle.cv_lex.specs.declared.scan.Piece.{Piece}
use Rattle.cv_lex.specs.declared.scan.Piece.TheVariants.{Between, Lexeme, WideNumber}
use Rattle.cv_lex.specs.declared.LexError.{LexError}
use Rattle.cv_lex.specs.Lexis.{Token, IsToken, Lexed, ends, between, token, later, unclosed, wide, foreign, a_comment, a_number, a_symbol, comment_end, end_token, is_blank, is_inner, longest, opens_comment, symbols, value_of}
use Rattle.cv_lex.specs.View.{AreTokens}
use Rattle.cv_lex.proofs.Pieces.{lexeme}
use Rattle.cv_syntax_trees.specs.Declarations.{Declaration}
use Rattle.cv_syntax_trees.specs.Tree.{Tree}
use Rattle.cv_parse_notation.specs.declared.script.ScriptWord.TheVariants.{Plain}
use Rattle.cv_parse_notation.specs.declared.sign.Mark.{Mark}
use Rattle.cv_parse_notation.specs.declared.sign.Sign.{Sign}
use Rattle.cv_parse_notation.specs.declared.sign.Sign.TheVariants as sign
use Rattle.cv_parse_tables.specs.declared.terminals.openings.Place.TheVariants.{Outside}
use Rattle.cv_parse_tables.specs.spelling.Spelling.{mark_of_text}
use Rattle.cv_parse_tables.specs.terminals.Braces.{file_tokens}
use Rattle.cv_parse_tables.proofs.terminals.FileTokens.{are_read, length_read_from}
use Rattle.cv_parse_tables.specs.terminals.Signs.{NumberBelow, Step, first_text, is_unnamed, no_counts, one_find, place_of, with_name, signs_from, signs_in, signs_of, step_before, text_step, token_step, unnamed_step, word_step}
use Rattle.cv_parse_tables.proofs.terminals.RightSides.{all_kept}
use Rattle.cv_parse_tables.proofs.terminals.Telling.{bool_first, numbers_below}
use Rattle.cv_parse_grammar.specs.Filled.{first_site}
use Rattle.cv_parse_grammar.specs.Files.{levels}
use Rattle.cv_parse_grammar.specs.Rules.{File, file, rule}
use Rattle.cv_parse_grammar.specs.Whole.{IsRead}
use Rattle.cv_print_bytes.specs.Known.{is_named}
use Rattle.cv_print_bytes.proofs.numbers.Numbering.{AreSmall, IsSmall, fits_label, forms_tell}
use Rattle.cv_print_bytes.proofs.numbers.NumberRows.{HasNumbers, SmallOf, filled_small, of_file, rows}

-- a number of the lexis fits 64 bits

number_is : (n w v m : ℕ) → a_number n w ≡ Lexeme (kind.Number v) m → fits_label v ≡ true
number_is n w v m = cond_both (nat_lt w (2 ^ 64)) (Lexeme (kind.Number w) n) WideNumber (λ p. p ≡ Lexeme (kind.Number v) m → fits_label v ≡ true) (λ e i. let j : w ≡ v = cc in subst (λ z. fits_label z ≡ true) j e) (λ e i. absurd (cc))

comment_is : (o : Option ℕ) (v m : ℕ) → a_comment o ≡ Lexeme (kind.Number v) m → ⊥
comment_is None v m e = cc
comment_is (Some n) v m e = cc

symbol_is : (n v m : ℕ) → a_symbol n ≡ Lexeme (kind.Number v) m → ⊥
symbol_is zero v m e = cc
symbol_is (suc n) v m e = cc

-- the piece of bytes whose tests are known
abbrev decided : (blank comments letter digit : Bool) → List ℕ → Piece
decided t c l d bs =
    if t then Between 1
    else (if c then a_comment (comment_end 0 2 (drop 2 bs))
    else (if l then Lexeme kind.Ident (prefix_len is_inner bs)
    else (if d then a_number (prefix_len is_ascii_digit bs) (value_of (take (prefix_len is_ascii_digit bs) bs))
    else a_symbol (longest symbols bs))))

decided_fits : (t c l d : Bool) (bs : List ℕ) (v m : ℕ) → decided t c l d bs ≡ Lexeme (kind.Number v) m → fits_label v ≡ true
decided_fits true c l d bs v m e = absurd (cc)
decided_fits false true l d bs v m e = absurd (comment_is (comment_end 0 2 (drop 2 bs)) v m e)
decided_fits false false true d bs v m e = absurd (cc)
decided_fits false false false true bs v m e = number_is (prefix_len is_ascii_digit bs) (value_of (take (prefix_len is_ascii_digit bs) bs)) v m e
decided_fits false false false false bs v m e = absurd (symbol_is (longest symbols bs) v m e)

pub number_fits : (v : ℕ) (text : List ℕ) → IsToken (kind.Number v) text → fits_label v ≡ true
number_fits v [] e = absurd (cc)
number_fits v (b ∷ bs) e = decided_fits (is_blank b) (opens_comment (b ∷ bs)) (is_ascii_alphabetic b) (is_ascii_digit b) (b ∷ bs) v (length (b ∷ bs)) e

-- the signs of a step have labels that fit, and it counts at most one word `find` more

abbrev LabelFits : ℕ → Sign → Type 0
LabelFits n (sign.Number v) = fits_label v ≡ true
LabelFits n (sign.Find k) = k ≤ n
LabelFits n s = Unit {0}

record Counted (n finds : ℕ) (s : Step) : Type 0 where
  fit : AllByRecursion (LabelFits n) s.signs
  few : s.counts.finds ≤ suc finds

counted_word : (n : ℕ) (names : List (List ℕ)) (at : Step) (text : List ℕ) → suc at.counts.finds ≤ n → Counted n at.counts.finds (word_step names at.counts text)
counted_word n names at text h =
    elim (bytes_eq text (codes "find")) as (λ b. Counted n at.counts.finds (if b then (record { signs = sign.Find (suc at.counts.finds) ∷ []; names = names; counts = one_find at.counts }) else (record { signs = sign.Word (place_of names text) Plain ∷ []; names = with_name names text; counts = at.counts }))) [
      | true ↦ record { fit = (h, tt); few = omega arith }
      | false ↦ record { fit = (tt, tt); few = omega arith }
    ]

counted_text : (n : ℕ) (names : List (List ℕ)) (at : Step) (text : List ℕ) (m : Option Mark) → suc at.counts.finds ≤ n → Counted n at.counts.finds (text_step names at.counts text m)
counted_text n names at text (Some m) h = record { fit = (tt, tt); few = omega arith }
counted_text n names at text None h = counted_word n names at text h

counted_token : (n : ℕ) (names : List (List ℕ)) (at : Step) (k : TokenKind) (text : List ℕ) → IsToken k text → suc at.counts.finds ≤ n → Counted n at.counts.finds (token_step names at.counts k text)
counted_token n names at kind.Ident text i h = counted_text n names at text (mark_of_text text) h
counted_token n names at kind.Symbol text i h = counted_text n names at text (mark_of_text text) h
counted_token n names at (kind.Number v) text i h = record { fit = (number_fits v text i, tt); few = omega arith }
counted_token n names at kind.End text i h = record { fit = tt; few = omega arith }

counted : (n : ℕ) (names : List (List ℕ)) (at : Step) (k : TokenKind) (text next : List ℕ) → IsToken k text → suc at.counts.finds ≤ n → Counted n at.counts.finds (step_before names at.counts k text next)
counted n names at k text next i h =
    elim (is_unnamed text next) as (λ b. Counted n at.counts.finds (if b then unnamed_step names at.counts else token_step names at.counts k text)) [
      | true ↦ record { fit = (tt, tt); few = omega arith }
      | false ↦ counted_token n names at k text i h
    ]

labels_from : (n : ℕ) (names : List (List ℕ)) (at : Step) (front : List Token) (end : ℕ) → All (λ t. IsToken t.kind t.text) front → at.counts.finds + length front ≤ n → AllByRecursion (LabelFits n) (signs_from names at.counts (front ++ end_token end ∷ [])).signs
unfolding signs_from
labels_from n names at [] end each h = tt
labels_from n names at (t ∷ front) end each h =
    let behind : List Token = front ++ end_token end ∷ [] in
    let s : Step = step_before names at.counts t.kind t.text (first_text behind) in
    let c : Counted n at.counts.finds s = counted n names at t.kind t.text (first_text behind) (All-head (λ t. IsToken t.kind t.text) t front each) (omega arith) in
    AllByRecursion_append (LabelFits n) s.signs (signs_from s.names s.counts behind).signs c.fit
    (labels_from n s.names s front end (All-tail (λ t. IsToken t.kind t.text) t front each) (let f = c.few in omega arith))

-- the tokens of a text

pub record TokensIn (bs : List ℕ) (ts : List Token) : Type 0 where
  pub are : AreTokens ts
  pub few : length ts ≤ length bs + 1

tokens_in : (k : ℕ) (bs : List ℕ) (r : Result (List Token) LexError) → Lexed k bs r → (ts : List Token) → r ≡ Ok ts → TokensIn bs ts
tokens_in k bs r (ends e) ts i = let j : end_token k ∷ [] ≡ ts = cc in subst (TokensIn bs) j (record { are = record { front = []; end = k; each = λ n d h. absurd (omega arith); all = refl }; few = omega arith })
tokens_in k bs r (between n e rest) ts i = let q = tokens_in (k + n) (drop n bs) r rest ts i in record { are = q.are; few = let f = q.few in let l = length-drop n bs in omega arith }
tokens_in k bs r (token {ts = us} kind n e rest) ts i =
    let q = tokens_in (k + n) (drop n bs) (Ok us) rest us refl in
    let w = lexeme bs kind n e in
    let here : Token = record { kind = kind; text = take n bs; offset = k } in
    let j : here ∷ us ≡ ts = cc in
    subst (TokensIn bs) j (record {
      are = record { front = here ∷ q.are.front; end = q.are.end; each = All-cons (λ t. IsToken t.kind t.text) here q.are.front w.alone q.are.each; all = ap (λ l. here ∷ l) q.are.all };
      few = let f = q.few in let l = length-drop n bs in let a = w.some in let b = w.within in omega arith;
    })
tokens_in k bs r (later kind n e rest) ts i = absurd (cc)
tokens_in k bs r (unclosed e) ts i = absurd (cc)
tokens_in k bs r (wide e) ts i = absurd (cc)
tokens_in k bs r (foreign e) ts i = absurd (cc)

pub tokens_of_text : (bs : List ℕ) (ts : List Token) → Lexed 0 bs (Ok ts) → TokensIn bs ts
tokens_of_text bs ts w = tokens_in 0 bs (Ok ts) w ts refl

-- the signs of a text that isn't too long are small

small_sign : (count n : ℕ) → n < 2 ^ 64 → (s : Sign) → NumberBelow count s → LabelFits n s → IsSmall count s
small_sign count n h (sign.Word x w) b f = lt-ltb x count b
small_sign count n h (sign.Unnamed x) b f = lt-ltb x count b
small_sign count n h (sign.Number v) b f = f
small_sign count n h (sign.Find k) b f = lt-ltb k (2 ^ 64) (omega arith)
small_sign count n h (sign.Mark m) b f = tt

each_small : (count n : ℕ) → n < 2 ^ 64 → (signs : List Sign) → All (NumberBelow count) signs → AllByRecursion (LabelFits n) signs → AreSmall count signs
each_small count n h [] b f = tt
each_small count n h (s ∷ signs) b f = (small_sign count n h s (All-head (NumberBelow count) s signs b) f.0, each_small count n h signs (All-tail (NumberBelow count) s signs b) f.1)

pub signs_small : (bs : List ℕ) (ts : List Token) → Lexed 0 bs (Ok ts) → length bs < 2 ^ 64 → AreSmall (length (signs_of ts).names) (signs_of ts).signs
signs_small bs ts w h =
    let q = tokens_of_text bs ts w in
    let r : AreTokens (file_tokens ts) = are_read ts q.are in
    let labels : AllByRecursion (LabelFits (length r.front)) (signs_of ts).signs =
    all_kept (LabelFits (length r.front)) tt tt Outside (signs_in (file_tokens ts)).signs
    (subst (λ l. AllByRecursion (LabelFits (length r.front)) (signs_in l).signs) (sym r.all) (labels_from (length r.front) (codes "bool" ∷ []) (record { signs = []; names = []; counts = no_counts }) r.front r.end r.each (omega arith)))
    in
    let long : length (file_tokens ts) ≡ length r.front + 1 = ap length r.all ∙ length_push r.front (end_token r.end) in
    let same = length_read_from 0 ts in
    let few = q.few in
    each_small (length (signs_of ts).names) (length r.front) (omega (arith, long, same, few, h)) (signs_of ts).signs (numbers_below ts q.are) labels

-- the game of what was read
pub game_numbers : (bs : List ℕ) (ts : List Token) (ds : List Declaration) (s : Option (ℕ × ℕ)) (g : Tree) → Lexed 0 bs (Ok ts) → length bs < 2 ^ 64 → IsRead (signs_of ts).signs ds s g → is_named (length (signs_of ts).names) g ≡ true
game_numbers bs ts ds s g w h r =
    let count = length (signs_of ts).names in
    let some : nat_lt 0 count ≡ true = lt-ltb 0 count (slice_get_within (signs_of ts).names 0 (codes "bool") (bool_first ts)) in
    let f : File = record { decls = ds; script = s; game = r.text } in
    let y = forms_tell count (SmallOf count some) rule (rows count some) file levels (signs_of ts).signs f r.uses [] r.spelled (signs_small bs ts w h) in
    (subst (HasNumbers count some) r.stands_for (filled_small count some (λ x. first_site x 0 r.text) [] r.text tt ((of_file count some).gives f y.0))).named
