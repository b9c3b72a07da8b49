-- The tokens of a text in a script: first those by any names behind it, and then by its own.
use Rattle.std.proofs.Common.{◌≡◌, ◌≤◌, ℕ, true, false, List, [], ◌∷◌, ◌++◌, length, Result, Ok, refl, ap, sym, ◌∙◌, subst, codes}
use Rattle.std.proofs.lemmas.List.{append-nil}
use Rattle.cv_lex.specs.declared.LexError.{LexError}
use Rattle.cv_lex.specs.Lexis.{Token, tokens_of}
use Rattle.cv_lex.proofs.Exact.{said}
use Rattle.cv_parse_notation.specs.declared.sign.Mark.TheVariants as mark
use Rattle.cv_parse_notation.specs.declared.sign.Sign.{Sign}
use Rattle.cv_parse_notation.specs.Spells.{IsSort}
use Rattle.cv_parse_grammar.specs.Names.{Uses}
use Rattle.cv_parse_tables.specs.terminals.ScriptSigns.{script_signs, with_words}
use Rattle.cv_parse_tables.specs.terminals.Signs.{no_counts, signs_from}
use Rattle.cv_parse_tables.proofs.terminals.Telling.{IsGrown, grown_same}
use Rattle.cv_parse_tables.specs.Table.{Row, Table, table_heads, table_rule}
use Rattle.cv_print_scripts.specs.steps.Apart.{is_single, tells_apart}
use Rattle.cv_print_scripts.specs.steps.Shown.{Words, row_levels, row_signs}
use Rattle.cv_print_scripts.specs.steps.Trees.{IsTree}
use Rattle.cv_print_scripts.proofs.steps.Rows.{tree_single}
use Rattle.cv_print_bytes.specs.terminals.Signs.{one}
use Rattle.cv_script.specs.rows.Rows.{script_row, script_rows, step_row}
use Rattle.cv_print_tables.specs.Prints.{tree_text}
use Rattle.cv_print_bytes.specs.Known.{AreNames}
use Rattle.cv_syntax_trees.specs.Tree.{Tree, chain, first}
use Rattle.cv_print_scripts.specs.Known.{is_known}
use Rattle.cv_print_scripts.specs.Parted.{is_parted}
use Rattle.cv_print_scripts.specs.Texts.{FitsIn, HasSigns, IsReadAs, IsUnambiguous, words_among}
use Rattle.cv_print_scripts.proofs.Fronts.{Front, both}
use Rattle.cv_print_scripts.proofs.Marks.{symbol}
use Rattle.cv_print_scripts.proofs.Rows.{tree_front}
use Rattle.cv_print_scripts.proofs.Scripts.{script_of_step}
use Rattle.cv_print_scripts.proofs.Tokens.{Reads, reads_end}
use Rattle.cv_print_scripts.proofs.Words.{are_words}

alone : {names behind : List (List ℕ)} (text : List ℕ) (ss : List Sign) → Front names behind false true text ss → Reads names behind text ss
alone {names = names} {behind = behind} text ss f =
    let v : Reads names behind (text ++ []) (ss ++ []) = (f.goes [] [] refl reads_end).1 in
    subst (λ l. Reads names behind text l) (append-nil ss) (subst (λ b. Reads names behind b (ss ++ [])) (append-nil text) v)

pub has_signs : (names : List (List ℕ)) (text : List ℕ) (ss : Words → List Sign) → ((behind : List (List ℕ)) → Front names behind false true text (ss (words_among behind))) → HasSigns names text ss
has_signs names text ss f =
    let v : Reads names names text (ss (words_among names)) = alone text (ss (words_among names)) (f names) in
    let ts = v.tokens 0 in
    let behind = (script_signs names ts).names in
    let w : Reads names behind text (ss (words_among behind)) = alone text (ss (words_among behind)) (f behind) in
    let there : tokens_of text ≡ Ok ts = said text (Ok ts) (v.lexed 0) in
    let r : Result (List Token) LexError = Ok ts in
    let oks : r ≡ Ok (w.tokens 0) = sym there ∙ said text (Ok (w.tokens 0)) (w.lexed 0) in
    let same : ts ≡ w.tokens 0 = cc in
    record {
      tokens = ts;
      lexed = there;
      signed = subst (λ l. (signs_from names no_counts l).names ≡ behind → with_words l (signs_from names no_counts l).signs ≡ ss (words_among behind)) (sym same) (w.signed 0 no_counts names (grown_same names)) refl;
    }

pub row_has_signs : (table : Table) (names : List (List ℕ)) (n r : ℕ) (t : Tree) → is_parted table ≡ true → AreNames names → is_known (length names) t ≡ true → HasSigns names (tree_text table names n r t) (λ words. row_signs words table n r t)
row_has_signs table names n r t e are k = has_signs names (tree_text table names n r t) (λ words. row_signs words table n r t) (λ behind. tree_front names behind are table e n r t k)

-- in front of a semicolon
pub ended_has_signs : (table : Table) (names : List (List ℕ)) (n r : ℕ) (t : Tree) → is_parted table ≡ true → AreNames names → is_known (length names) t ≡ true → HasSigns names (tree_text table names n r t ++ codes ";") (λ words. row_signs words table n r t ++ one mark.Semicolon)
ended_has_signs table names n r t e are k =
    has_signs names (tree_text table names n r t ++ codes ";") (λ words. row_signs words table n r t ++ one mark.Semicolon) (
    λ behind. both false true true true (tree_text table names n r t) (codes ";") (row_signs (words_among behind) table n r t) (one mark.Semicolon) refl (tree_front names behind are table e n r t k) (symbol mark.Semicolon (λ rest. refl) (λ rest. refl) refl)
    )

-- what the signs of a row spell, they spell as those of its text

pub row_is_read : (table : Table) (names : List (List ℕ)) (n r : ℕ) (t : Tree) → tells_apart table ≡ true → is_single table r ≡ true → is_parted table ≡ true → AreNames names → is_known (length names) t ≡ true → IsTree table n r t → IsReadAs names (tree_text table names n r t) table r (λ words. row_levels words table n r t) t
row_is_read table names n r t e i p are k d =
    let has = row_has_signs table names n r t p are k in
    let words = words_among (script_signs names has.tokens).names in
    record {
      tokens = has.tokens;
      lexed = has.lexed;
      spelled = λ m l. subst (λ ss. (us : Uses) × IsSort (table_heads table) (table_rule table) m (Row r) ss t us []) (append-nil (row_signs words table n r t) ∙ sym has.signed) ((tree_single words table (are_words (script_signs names has.tokens).names) e n r t d i).spells m l [] refl refl);
    }

pub step_is_read : (names : List (List ℕ)) (n : ℕ) (t : Tree) → AreNames names → is_known (length names) t ≡ true → IsTree script_rows n step_row t → IsReadAs names (tree_text script_rows names n step_row t ++ codes ";") script_rows script_row (λ words. row_levels words script_rows n step_row t) (chain (t ∷ []))
step_is_read names n t are k d =
    let has = ended_has_signs script_rows names n step_row t refl are k in
    let words = words_among (script_signs names has.tokens).names in
    record {
      tokens = has.tokens;
      lexed = has.lexed;
      spelled = λ m l.
          let x = (tree_single words script_rows (are_words (script_signs names has.tokens).names) refl n step_row t d refl).alone m l (one mark.Semicolon) refl refl in
          subst (λ ss. (us : Uses) × IsSort (table_heads script_rows) (table_rule script_rows) m (Row script_row) ss (chain (t ∷ [])) us []) (sym has.signed) (x.0, script_of_step m (row_signs words script_rows n step_row t ++ one mark.Semicolon) t x.0 [] x.1);
    }

-- one text is read as one tree
pub read_once : (names : List (List ℕ)) (a b : List ℕ) (table : Table) (r m : ℕ) (p q : Words → ℕ) (s t : Tree) → IsUnambiguous table r m → IsReadAs names a table r p s → IsReadAs names b table r q t → ((words : Words) → p words ≤ m) → ((words : Words) → q words ≤ m) → a ≡ b → s ≡ t
read_once names a b table r m p q s t one x y i j e =
    let ok : Result (List Token) LexError = Ok x.tokens in
    let oks : ok ≡ Ok y.tokens = sym x.lexed ∙ ap tokens_of e ∙ y.lexed in
    let same : x.tokens ≡ y.tokens = cc in
    let signs = (script_signs names y.tokens).signs in
    let u = x.spelled m (i (words_among (script_signs names x.tokens).names)) in
    let v = y.spelled m (j (words_among (script_signs names y.tokens).names)) in
    one signs s t u.0 v.0 (subst (λ l. IsSort (table_heads table) (table_rule table) m (Row r) (script_signs names l).signs s u.0 []) same u.1) v.1

first_of_two : (s t : Tree) → chain (s ∷ []) ≡ chain (t ∷ []) → s ≡ t
first_of_two s t e = ap first e

pub one_row : (table : Table) (names : List (List ℕ)) (m n k r : ℕ) (s t : Tree) → tells_apart table ≡ true → is_single table r ≡ true → is_parted table ≡ true → IsUnambiguous table r m → AreNames names → is_known (length names) s ≡ true → is_known (length names) t ≡ true → IsTree table n r s → IsTree table k r t → FitsIn table n r m s → FitsIn table k r m t → tree_text table names n r s ≡ tree_text table names k r t → s ≡ t
one_row table names m n k r s t e i p one are f g c d v w same = read_once names (tree_text table names n r s) (tree_text table names k r t) table r m (λ words. row_levels words table n r s) (λ words. row_levels words table k r t) s t one (row_is_read table names n r s e i p are f c) (row_is_read table names k r t e i p are g d) v w same

pub one_step : (names : List (List ℕ)) (m n k : ℕ) (s t : Tree) → IsUnambiguous script_rows script_row m → AreNames names → is_known (length names) s ≡ true → is_known (length names) t ≡ true → IsTree script_rows n step_row s → IsTree script_rows k step_row t → FitsIn script_rows n step_row m s → FitsIn script_rows k step_row m t → tree_text script_rows names n step_row s ≡ tree_text script_rows names k step_row t → s ≡ t
one_step names m n k s t one are f g c d v w same =
    first_of_two s t (
    read_once names (tree_text script_rows names n step_row s ++ codes ";") (tree_text script_rows names k step_row t ++ codes ";") script_rows script_row m (λ words. row_levels words script_rows n step_row s) (λ words. row_levels words script_rows k step_row t) (chain (s ∷ [])) (chain (t ∷ [])) one (step_is_read names n s are f c) (step_is_read names k t are g d) v w (ap (λ a. a ++ codes ";") same)
    )
