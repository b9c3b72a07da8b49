-- The tokens of marks, names, numbers and words of scripts.
use Rattle.std.proofs.Common.{◌≡◌, ◌≢◌, ℕ, zero, suc, ◌^◌, ◌<◌, Bool, true, false, ◌&&◌, ◌||◌, not, nat_lt, if◌then◌else◌, List, [], ◌∷◌, ◌++◌, length, drop, Some, None, refl, ap, sym, ◌∙◌, subst, arith, codes, decimal, unwrap_or}
use Rattle.std.specs.Prelude.{slice_get}
use Rattle.std.specs.Str.{bytes_eq}
use Rattle.std.proofs.lemmas.Bool.{false_from_ne_true, ltb-true}
use Rattle.std.specs.Str.Parse.{AllDigits}
use Rattle.std.proofs.lemmas.Fmt.{decimal_is_IsNumeral}
use Rattle.std.proofs.lemmas.Str.Parse.{digit_from_value}
use Rattle.std.proofs.lemmas.Option.{slice_get-get_or}
use Rattle.std.proofs.lemmas.Slice.Eq.{bytes_eq-Decides}
use Rattle.cv_lex.specs.declared.TokenKind.{TokenKind}
use Rattle.cv_lex.specs.declared.TokenKind.TheVariants as kind
use Rattle.cv_lex.specs.declared.scan.Piece.TheVariants.{Lexeme}
use Rattle.cv_lex.specs.Lexis.{has_front, piece, IsToken, a_comment, a_symbol, comment_end, longest, symbols}
use Rattle.cv_parse_notation.specs.declared.script.ScriptWord.{ScriptWord}
use Rattle.cv_parse_notation.specs.declared.script.ScriptWord.TheVariants as script
use Rattle.cv_parse_notation.specs.declared.sign.Mark.{Mark}
use Rattle.cv_parse_notation.specs.declared.sign.Mark.TheVariants as mark
use Rattle.cv_parse_notation.specs.declared.sign.Sign.TheVariants as sign
use Rattle.cv_parse_tables.specs.spelling.ScriptSpelling.{word_of_text, word_spelling}
use Rattle.cv_parse_tables.specs.terminals.Signs.{place_of, with_name, step_before, token_step, text_step, unnamed_step, one_find}
use Rattle.cv_parse_tables.specs.spelling.Spelling.{as_told, spelling, mark_of_text}
use Rattle.cv_parse_tables.proofs.terminals.Naming.{only_place, with_name_apart, with_name_has, with_name_keeps, with_name_old}
use Rattle.cv_parse_tables.proofs.spelling.ScriptTable.{found as found_word}
use Rattle.cv_parse_tables.proofs.spelling.Table.{found}
use Rattle.cv_parse_tables.proofs.terminals.Telling.{IsGrown, grown_same}
use Rattle.cv_print.specs.Terms.{name_text}
use Rattle.cv_print_bytes.specs.terminals.Signs.{name_sign, named}
use Rattle.cv_print_bytes.specs.Known.{AreNames, IsName}
use Rattle.cv_print_bytes.proofs.Bytes.{word_before, decimal_before}
use Rattle.cv_print_scripts.specs.steps.Shown.{spoken}
use Rattle.cv_print_scripts.specs.Parted.{has_text, is_apart, is_open, is_sure, is_sure_alone}
use Rattle.cv_print_scripts.specs.Texts.{with_all_words, words_among}
use Rattle.cv_print_scripts.proofs.Fronts.{Begins, Front, begins_so, say, weaker}
use Rattle.cv_print_scripts.proofs.Tokens.{Means, Reads, Steps, no_star, reads_blank, reads_token}
use Rattle.cv_print_scripts.proofs.Words.{get_front, place_front}
use Rattle.cv_print_bytes.proofs.Tokens.{before_any, differs, open_piece, no_word}

word_means : {names behind : List (List ℕ)} (m : Mark) → bytes_eq (spelling m) (codes "collision") ≡ false → Means names behind kind.Ident (spelling m) (sign.Mark (as_told m))
word_means m e = record {
  step = λ before counts next g. record { sign = sign.Mark (as_told m); names = before; is = before_any before kind.Ident (spelling m) next counts e ∙ ap (text_step before counts (spelling m)) (found m); grows = grown_same before; says = λ b. refl };
}

symbol_means : {names behind : List (List ℕ)} (m : Mark) → bytes_eq (spelling m) (codes "collision") ≡ false → Means names behind kind.Symbol (spelling m) (sign.Mark (as_told m))
symbol_means m e = record {
  step = λ before counts next g. record { sign = sign.Mark (as_told m); names = before; is = before_any before kind.Symbol (spelling m) next counts e ∙ ap (text_step before counts (spelling m)) (found m); grows = grown_same before; says = λ b. refl };
}

number_means : {names behind : List (List ℕ)} (v : ℕ) (w : List ℕ) → bytes_eq w (codes "collision") ≡ false → Means names behind (kind.Number v) w (sign.Number v)
number_means v w e = record {
  step = λ before counts next g. record { sign = sign.Number v; names = before; is = before_any before (kind.Number v) w next counts e; grows = grown_same before; says = λ b. refl };
}

-- a word that is no mark and not `find`
word_stepped : (names : List (List ℕ)) (counts : _) (text next : List ℕ) → bytes_eq text (codes "collision") ≡ false → mark_of_text text ≡ None → bytes_eq text (codes "find") ≡ false → step_before names counts kind.Ident text next ≡ record { signs = sign.Word (place_of names text) script.Plain ∷ []; names = with_name names text; counts = counts }
word_stepped names counts text next c m f =
    before_any names kind.Ident text next counts c
    ∙ (ap (text_step names counts text) m
    ∙ ap (λ b. if b then (record { signs = sign.Find (suc counts.finds) ∷ []; names = names; counts = one_find counts }) else (record { signs = sign.Word (place_of names text) script.Plain ∷ []; names = with_name names text; counts = counts })) f)

-- names

name_steps : {names behind : List (List ℕ)} → AreNames names → (x : ℕ) (text : List ℕ) → slice_get names (suc x) ≡ Some text → (before : List (List ℕ)) (counts : _) (next : List ℕ) → IsGrown names before → Steps behind before counts kind.Ident text next (spoken (words_among behind) (name_sign (suc x)))
name_steps {names = names} {behind = behind} are x text h before counts next g =
    let is : IsName text = are.each x text h in
    let no_collision : text ≢ codes "collision" = λ e. let m : mark_of_text text ≡ Some mark.Collision = ap mark_of_text e ∙ found mark.Collision in cc (m, is.no_mark) in
    let there : slice_get before (suc x) ≡ Some text = g.keeps (suc x) text h in
    let place : suc x ≡ place_of before text = only_place before text (suc x) there (λ p e. g.apart are.apart (suc x) p text there e) in
    let old : with_name before text ≡ before = with_name_old before text (suc x) there in
    let stepped = word_stepped before counts text next (differs text (codes "collision") no_collision) is.no_mark (differs text (codes "find") is.not_find) in
    record {
      sign = sign.Word (suc x) script.Plain;
      names = before;
      is = stepped ∙ (λ i. record { signs = sign.Word (sym place i) script.Plain ∷ []; names = old i; counts = counts });
      grows = grown_same before;
      says = λ b. ap (λ o. sign.Word (suc x) (word_of_text (unwrap_or o []))) (sym (get_front behind _ (suc x) text (b.keeps (suc x) text there)));
    }

name_means : {names behind : List (List ℕ)} → AreNames names → (x : ℕ) (text : List ℕ) → slice_get names x ≡ Some text → Means names behind kind.Ident text (spoken (words_among behind) (name_sign x))
name_means {names = names} {behind = behind} are zero text h =
    let same : codes "bool" ≡ text = cc (are.bool_first, h) in
    subst (λ w. Means names behind kind.Ident w (sign.Mark mark.Bool)) same (word_means mark.Bool refl)
name_means are (suc x) text h = record { step = λ before counts next g. name_steps are x text h before counts next g }

name_token : {names : List (List ℕ)} → AreNames names → (x : ℕ) (text : List ℕ) → slice_get names x ≡ Some text → IsToken kind.Ident text
name_token are zero text h = let same : codes "bool" ≡ text = cc (are.bool_first, h) in subst (IsToken kind.Ident) same refl
name_token are (suc x) text h = (are.each x text h).token

pub name : {names behind : List (List ℕ)} → AreNames names → (x : ℕ) → nat_lt x (length names) ≡ true → Front names behind false true (name_text names x) (say behind (named x))
name {names = names} {behind = behind} are x known =
    let there = slice_get-get_or names x [] (ltb-true x (length names) known) in
    let is : slice_get names x ≡ Some (name_text names x) = there ∙ ap Some (sym (ap (λ o. unwrap_or o []) there)) in
    record { goes = λ rest more h w. (tt, reads_token kind.Ident (name_text names x) rest (spoken (words_among behind) (name_sign x)) more (word_before (name_text names x) rest (name_token are x (name_text names x) is) h) (name_means are x (name_text names x) is) w) }

-- numbers

pub number : {names behind : List (List ℕ)} (v : ℕ) → nat_lt v (2 ^ 64) ≡ true → Front names behind false true (decimal v) (sign.Number v ∷ [])
number v known =
    let small : v < 2 ^ 64 = ltb-true v (2 ^ 64) known in
    record { goes = λ rest more h w. (tt, reads_token (kind.Number v) (decimal v) rest (sign.Number v) more (decimal_before v rest small h) (number_means v (decimal v) (differs (decimal v) (codes "collision") (no_word v small))) w) }

-- blanks and marks

pub space : {names behind : List (List ℕ)} {p q : Bool} → Front names behind p q (codes " ") []
space {p = p} = record { goes = λ rest more h w. (begins_so p (32 ∷ rest) refl, reads_blank 32 rest more refl w) }

pub symbol : {names behind : List (List ℕ)} {p q : Bool} (m : Mark) → ((rest : List ℕ) → piece (spelling m ++ rest) ≡ Lexeme kind.Symbol (length (spelling m))) → ((rest : List ℕ) → is_apart (spelling m ++ rest) ≡ true) → bytes_eq (spelling m) (codes "collision") ≡ false → Front names behind p q (spelling m) (sign.Mark (as_told m) ∷ [])
symbol {p = p} m is apart other = record {
  goes = λ rest more h w. (begins_so p (spelling m ++ rest) (apart rest), reads_token kind.Symbol (spelling m) rest (sign.Mark (as_told m)) more (is rest) (symbol_means m other) w);
}

pub word : {names behind : List (List ℕ)} (m : Mark) → IsToken kind.Ident (spelling m) → bytes_eq (spelling m) (codes "collision") ≡ false → Front names behind false true (spelling m) (sign.Mark (as_told m) ∷ [])
word m is other = record {
  goes = λ rest more h w. (tt, reads_token kind.Ident (spelling m) rest (sign.Mark (as_told m)) more (word_before (spelling m) rest is h) (word_means m other) w);
}

pub opening : {names behind : List (List ℕ)} {p q : Bool} → Front names behind p q (codes "(") (sign.Mark mark.Open ∷ [])
opening {p = p} = record {
  goes = λ rest more h w. (begins_so p (40 ∷ rest) refl, reads_token kind.Symbol (codes "(") rest (sign.Mark mark.Open) more (open_piece rest (no_star rest more w)) (symbol_means mark.Open refl) w);
}

pub closing : {names behind : List (List ℕ)} {p q : Bool} → Front names behind p q (codes ")") (sign.Mark mark.Close ∷ [])
closing = symbol mark.Close (λ rest. refl) (λ rest. refl) refl

-- a mark before a blank
alone_means : {names behind : List (List ℕ)} (m : Mark) → is_sure_alone m ≡ true → Means names behind kind.Symbol (spelling m) (sign.Mark m)
alone_means mark.Equal e = symbol_means mark.Equal refl
alone_means mark.Bar e = symbol_means mark.Bar refl
alone_means mark.Colon e = symbol_means mark.Colon refl
alone_means m e = absurd (cc)

alone_piece : (m : Mark) (rest : List ℕ) → is_sure_alone m ≡ true → piece (spelling m ++ (32 ∷ rest)) ≡ Lexeme kind.Symbol (length (spelling m))
alone_piece mark.Equal rest e = refl
alone_piece mark.Bar rest e = refl
alone_piece mark.Colon rest e = refl
alone_piece m rest e = absurd (cc)

alone_apart : (m : Mark) (rest : List ℕ) → is_sure_alone m ≡ true → is_apart (spelling m ++ rest) ≡ true
alone_apart mark.Equal rest e = refl
alone_apart mark.Bar rest e = refl
alone_apart mark.Colon rest e = refl
alone_apart m rest e = absurd (cc)

pub before_blank : {names behind : List (List ℕ)} (p : Bool) (m : Mark) → is_sure_alone m ≡ true → (rest : List ℕ) (ss : List _) → Reads names behind (32 ∷ rest) ss → Begins p (spelling m ++ (32 ∷ rest)) × Reads names behind (spelling m ++ (32 ∷ rest)) (sign.Mark m ∷ ss)
before_blank p m e rest ss w = (begins_so p (spelling m ++ (32 ∷ rest)) (alone_apart m (32 ∷ rest) e), reads_token kind.Symbol (spelling m) (32 ∷ rest) (sign.Mark m) ss (alone_piece m rest e) (alone_means m e) w)

module _ {names behind : List (List ℕ)} where
  -- any other mark
  pub mark_front : (m : Mark) → is_sure m ≡ true → Front names behind (is_apart (spelling m)) (is_open (spelling m)) (spelling m) (sign.Mark m ∷ [])
  mark_front mark.Proof e = word mark.Proof refl refl
  mark_front mark.Process e = word mark.Process refl refl
  mark_front mark.Param e = word mark.Param refl refl
  mark_front mark.Channel e = word mark.Channel refl refl
  mark_front mark.Proba e = word mark.Proba refl refl
  mark_front mark.TypeWord e = word mark.TypeWord refl refl
  mark_front mark.Fixed e = word mark.Fixed refl refl
  mark_front mark.Large e = word mark.Large refl refl
  mark_front mark.Bounded e = word mark.Bounded refl refl
  mark_front mark.ConstWord e = word mark.ConstWord refl refl
  mark_front mark.Fun e = word mark.Fun refl refl
  mark_front mark.Data e = word mark.Data refl refl
  mark_front mark.Compos e = word mark.Compos refl refl
  mark_front mark.EventWord e = word mark.EventWord refl refl
  mark_front mark.EquationWord e = word mark.EquationWord refl refl
  mark_front mark.Forall e = word mark.Forall refl refl
  mark_front mark.Collision e = absurd (cc)
  mark_front mark.New e = word mark.New refl refl
  mark_front mark.Equiv e = word mark.Equiv refl refl
  mark_front mark.QueryWord e = word mark.QueryWord refl refl
  mark_front mark.Secret e = word mark.Secret refl refl
  mark_front mark.SecretOnce e = word mark.SecretOnce refl refl
  mark_front mark.Inj e = word mark.Inj refl refl
  mark_front mark.Let e = word mark.Let refl refl
  mark_front mark.In e = word mark.In refl refl
  mark_front mark.If e = word mark.If refl refl
  mark_front mark.Then e = word mark.Then refl refl
  mark_front mark.Else e = word mark.Else refl refl
  mark_front mark.Orfind e = word mark.Orfind refl refl
  mark_front mark.Suchthat e = word mark.Suchthat refl refl
  mark_front mark.Yield e = word mark.Yield refl refl
  mark_front mark.Out e = word mark.Out refl refl
  mark_front mark.Defined e = word mark.Defined refl refl
  mark_front mark.Not e = word mark.Not refl refl
  mark_front mark.True e = word mark.True refl refl
  mark_front mark.False e = word mark.False refl refl
  mark_front mark.Bool e = word mark.Bool refl refl
  mark_front mark.Cases e = word mark.Cases refl refl
  mark_front mark.Open e = opening
  mark_front mark.Close e = symbol mark.Close (λ rest. refl) (λ rest. refl) refl
  mark_front mark.OpenSquare e = symbol mark.OpenSquare (λ rest. refl) (λ rest. refl) refl
  mark_front mark.CloseSquare e = symbol mark.CloseSquare (λ rest. refl) (λ rest. refl) refl
  mark_front mark.OpenBrace e = symbol mark.OpenBrace (λ rest. refl) (λ rest. refl) refl
  mark_front mark.CloseBrace e = symbol mark.CloseBrace (λ rest. refl) (λ rest. refl) refl
  mark_front mark.Comma e = symbol mark.Comma (λ rest. refl) (λ rest. refl) refl
  mark_front mark.Semicolon e = symbol mark.Semicolon (λ rest. refl) (λ rest. refl) refl
  mark_front mark.Colon e = absurd (cc)
  mark_front mark.Dot e = symbol mark.Dot (λ rest. refl) (λ rest. refl) refl
  mark_front mark.Bar e = absurd (cc)
  mark_front mark.Bang e = symbol mark.Bang (λ rest. refl) (λ rest. refl) refl
  mark_front mark.At e = symbol mark.At (λ rest. refl) (λ rest. refl) refl
  mark_front mark.Prime e = symbol mark.Prime (λ rest. refl) (λ rest. refl) refl
  mark_front mark.Equal e = absurd (cc)
  mark_front mark.Differ e = symbol mark.Differ (λ rest. refl) (λ rest. refl) refl
  mark_front mark.AtMost e = symbol mark.AtMost (λ rest. refl) (λ rest. refl) refl
  mark_front mark.Gives e = symbol mark.Gives (λ rest. refl) (λ rest. refl) refl
  mark_front mark.Implies e = symbol mark.Implies (λ rest. refl) (λ rest. refl) refl
  mark_front mark.Arrow e = symbol mark.Arrow (λ rest. refl) (λ rest. refl) refl
  mark_front mark.Both e = symbol mark.Both (λ rest. refl) (λ rest. refl) refl
  mark_front mark.Either e = symbol mark.Either (λ rest. refl) (λ rest. refl) refl
  mark_front mark.OpenAtoms e = absurd (cc)
  mark_front mark.Becomes e = symbol mark.Becomes (λ rest. refl) (λ rest. refl) refl
  mark_front mark.LeftArrow e = symbol mark.LeftArrow (λ rest. refl) (λ rest. refl) refl

-- words of scripts

record IsText (text : List ℕ) : Type 0 where
  token : IsToken kind.Ident text
  no_mark : mark_of_text text ≡ None
  no_find : bytes_eq text (codes "find") ≡ false
  no_collision : bytes_eq text (codes "collision") ≡ false
  begins : (not (is_apart text) || false) ≡ true
  ends : is_open text ≡ true

is_text : (w : ScriptWord) → has_text w ≡ true → IsText (word_spelling w)
unfolding mark_of_text
is_text script.Plain e = absurd (cc)
is_text script.Rename e = record { token = refl; no_mark = refl; no_find = refl; no_collision = refl; begins = refl; ends = refl }
is_text script.To e = record { token = refl; no_mark = refl; no_find = refl; no_collision = refl; begins = refl; ends = refl }
is_text script.Rewrite e = record { token = refl; no_mark = refl; no_find = refl; no_collision = refl; begins = refl; ends = refl }
is_text script.By e = record { token = refl; no_mark = refl; no_find = refl; no_collision = refl; begins = refl; ends = refl }
is_text script.Prune e = record { token = refl; no_mark = refl; no_find = refl; no_collision = refl; begins = refl; ends = refl }
is_text script.Pick e = record { token = refl; no_mark = refl; no_find = refl; no_collision = refl; begins = refl; ends = refl }
is_text script.Merge e = record { token = refl; no_mark = refl; no_find = refl; no_collision = refl; begins = refl; ends = refl }
is_text script.Split e = record { token = refl; no_mark = refl; no_find = refl; no_collision = refl; begins = refl; ends = refl }
is_text script.Unlet e = record { token = refl; no_mark = refl; no_find = refl; no_collision = refl; begins = refl; ends = refl }
is_text script.Unnew e = record { token = refl; no_mark = refl; no_find = refl; no_collision = refl; begins = refl; ends = refl }
is_text script.Move e = record { token = refl; no_mark = refl; no_find = refl; no_collision = refl; begins = refl; ends = refl }
is_text script.ArrayRename e = record { token = refl; no_mark = refl; no_find = refl; no_collision = refl; begins = refl; ends = refl }
is_text script.Codef e = record { token = refl; no_mark = refl; no_find = refl; no_collision = refl; begins = refl; ends = refl }
is_text script.Add e = record { token = refl; no_mark = refl; no_find = refl; no_collision = refl; begins = refl; ends = refl }
is_text script.Drop e = record { token = refl; no_mark = refl; no_find = refl; no_collision = refl; begins = refl; ends = refl }
is_text script.From e = record { token = refl; no_mark = refl; no_find = refl; no_collision = refl; begins = refl; ends = refl }
is_text script.Birthday e = record { token = refl; no_mark = refl; no_find = refl; no_collision = refl; begins = refl; ends = refl }
is_text script.At e = record { token = refl; no_mark = refl; no_find = refl; no_collision = refl; begins = refl; ends = refl }
is_text script.Guess e = record { token = refl; no_mark = refl; no_find = refl; no_collision = refl; begins = refl; ends = refl }
is_text script.Fresh e = record { token = refl; no_mark = refl; no_find = refl; no_collision = refl; begins = refl; ends = refl }
is_text script.Crypto e = record { token = refl; no_mark = refl; no_find = refl; no_collision = refl; begins = refl; ends = refl }
is_text script.Success e = record { token = refl; no_mark = refl; no_find = refl; no_collision = refl; begins = refl; ends = refl }
is_text script.Simplify e = record { token = refl; no_mark = refl; no_find = refl; no_collision = refl; begins = refl; ends = refl }
is_text script.Events e = record { token = refl; no_mark = refl; no_find = refl; no_collision = refl; begins = refl; ends = refl }
is_text script.Never e = record { token = refl; no_mark = refl; no_find = refl; no_collision = refl; begins = refl; ends = refl }
is_text script.With e = record { token = refl; no_mark = refl; no_find = refl; no_collision = refl; begins = refl; ends = refl }
is_text script.Above e = record { token = refl; no_mark = refl; no_find = refl; no_collision = refl; begins = refl; ends = refl }
is_text script.Cell e = record { token = refl; no_mark = refl; no_find = refl; no_collision = refl; begins = refl; ends = refl }
is_text script.Holds e = record { token = refl; no_mark = refl; no_find = refl; no_collision = refl; begins = refl; ends = refl }
is_text script.Distinct e = record { token = refl; no_mark = refl; no_find = refl; no_collision = refl; begins = refl; ends = refl }
is_text script.Pair e = record { token = refl; no_mark = refl; no_find = refl; no_collision = refl; begins = refl; ends = refl }
is_text script.Fact e = record { token = refl; no_mark = refl; no_find = refl; no_collision = refl; begins = refl; ends = refl }
is_text script.Here e = record { token = refl; no_mark = refl; no_find = refl; no_collision = refl; begins = refl; ends = refl }
is_text script.Of e = record { token = refl; no_mark = refl; no_find = refl; no_collision = refl; begins = refl; ends = refl }
is_text script.Site e = record { token = refl; no_mark = refl; no_find = refl; no_collision = refl; begins = refl; ends = refl }
is_text script.Refl e = record { token = refl; no_mark = refl; no_find = refl; no_collision = refl; begins = refl; ends = refl }
is_text script.Sym e = record { token = refl; no_mark = refl; no_find = refl; no_collision = refl; begins = refl; ends = refl }
is_text script.Trans e = record { token = refl; no_mark = refl; no_find = refl; no_collision = refl; begins = refl; ends = refl }
is_text script.Cong e = record { token = refl; no_mark = refl; no_find = refl; no_collision = refl; begins = refl; ends = refl }
is_text script.Mp e = record { token = refl; no_mark = refl; no_find = refl; no_collision = refl; begins = refl; ends = refl }
is_text script.And e = record { token = refl; no_mark = refl; no_find = refl; no_collision = refl; begins = refl; ends = refl }
is_text script.Left e = record { token = refl; no_mark = refl; no_find = refl; no_collision = refl; begins = refl; ends = refl }
is_text script.Right e = record { token = refl; no_mark = refl; no_find = refl; no_collision = refl; begins = refl; ends = refl }
is_text script.Contra e = record { token = refl; no_mark = refl; no_find = refl; no_collision = refl; begins = refl; ends = refl }
is_text script.Exfalso e = record { token = refl; no_mark = refl; no_find = refl; no_collision = refl; begins = refl; ends = refl }
is_text script.Given e = record { token = refl; no_mark = refl; no_find = refl; no_collision = refl; begins = refl; ends = refl }
is_text script.Again e = record { token = refl; no_mark = refl; no_find = refl; no_collision = refl; begins = refl; ends = refl }
is_text script.OtherFact e = record { token = refl; no_mark = refl; no_find = refl; no_collision = refl; begins = refl; ends = refl }
is_text script.OtherHere e = record { token = refl; no_mark = refl; no_find = refl; no_collision = refl; begins = refl; ends = refl }
is_text script.Same e = record { token = refl; no_mark = refl; no_find = refl; no_collision = refl; begins = refl; ends = refl }
is_text script.Late e = record { token = refl; no_mark = refl; no_find = refl; no_collision = refl; begins = refl; ends = refl }
is_text script.Alt e = record { token = refl; no_mark = refl; no_find = refl; no_collision = refl; begins = refl; ends = refl }

word_steps : {names behind : List (List ℕ)} → AreNames names → (w : ScriptWord) → IsText (word_spelling w) → (before : List (List ℕ)) (counts : _) (next : List ℕ) → IsGrown names before → Steps behind before counts kind.Ident (word_spelling w) next (sign.Word (place_of (with_all_words behind) (word_spelling w)) w)
word_steps {behind = behind} are w is before counts next g =
    let text = word_spelling w in
    record {
      sign = sign.Word (place_of before text) script.Plain;
      names = with_name before text;
      is = word_stepped before counts text next is.no_collision is.no_mark is.no_find;
      grows = record { keeps = with_name_keeps before text; apart = with_name_apart before text };
      says = λ b.
          let there : slice_get behind (place_of before text) ≡ Some text = b.keeps (place_of before text) text (with_name_has before text) in
          let place : place_of before text ≡ place_of behind text = only_place behind text (place_of before text) there (λ p e. b.apart (with_name_apart before text (g.apart are.apart)) (place_of before text) p text there e) in
          let all : place_of (with_all_words behind) text ≡ place_of behind text = place_front behind _ text (place_of before text) there in
          let number : place_of before text ≡ place_of (with_all_words behind) text = place ∙ sym all in
          λ i. sign.Word (number i) (found_word w i);
    }

a_word : {names behind : List (List ℕ)} → AreNames names → (w : ScriptWord) → IsText (word_spelling w) → Front names behind false true (word_spelling w) (sign.Word (place_of (with_all_words behind) (word_spelling w)) w ∷ [])
a_word {behind = behind} are w is = record {
  goes = λ rest more h v. (tt, reads_token kind.Ident (word_spelling w) rest (sign.Word (place_of (with_all_words behind) (word_spelling w)) w) more (word_before (word_spelling w) rest is.token h) (record { step = λ before counts next g. word_steps are w is before counts next g }) v);
}

pub script_word : {names behind : List (List ℕ)} → AreNames names → (w : ScriptWord) → has_text w ≡ true → Front names behind (is_apart (word_spelling w)) (is_open (word_spelling w)) (word_spelling w) (sign.Word (place_of (with_all_words behind) (word_spelling w)) w ∷ [])
script_word are w e = let is = is_text w e in weaker false true (is_apart (word_spelling w)) (is_open (word_spelling w)) (word_spelling w) _ is.begins is.ends (a_word are w is)
