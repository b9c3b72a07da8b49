-- The file for which an oracle file stands has no more than ten tokens for each of its tokens, and three.
use Rattle.std.proofs.Common.{◌≡◌, ℕ, zero, suc, ◌+◌, ◌*◌, ◌-◌, ◌≤◌, min, Bool, true, false, if◌then◌else◌, List, [], ◌∷◌, ◌++◌, drop, length, map, refl, ap, ◌∙◌, arith}
use Rattle.std.proofs.lemmas.List.{length-append, length-drop, length-map, length_push}
use Rattle.cv_lex.specs.Lexis.{Token, end_token}
use Rattle.cv_lex.specs.View.{token_at}
use Rattle.cv_oracles.specs.declared.form.Form.{Form}
use Rattle.cv_oracles.specs.declared.form.Form.TheVariants as form
use Rattle.cv_oracles.specs.declared.reading.Reading.{Reading}
use Rattle.cv_oracles.specs.declared.region.Region.{Region}
use Rattle.cv_oracles.specs.declared.region.Region.TheVariants.{Declarations, Block}
use Rattle.cv_oracles.specs.declared.words.Word.{Word}
use Rattle.cv_oracles.specs.declared.words.Word.TheVariants.{Channel, Comma}
use Rattle.cv_oracles.specs.Pieces.{piece_for, pieces, written_for}
use Rattle.cv_oracles.specs.Readings.{at_start}
use Rattle.cv_oracles.specs.Steps.{step}
use Rattle.cv_parse_tables.specs.terminals.Braces.{is_end, open_behind}
use Rattle.cv_oracles.specs.Translations.{behind_at, channels, declaration, declarations_end, declarations_end_from, ends_declarations, file_for, is_new_oracle, is_oracle_file, is_process, kept_from, oracles_from, parts, process_at, process_from, read_as, with_oracle, written_at, written_from}

few_pieces : (f : Form) → length (pieces f) ≤ 7
few_pieces form.Itself = omega arith
few_pieces form.Refused = omega arith
few_pieces form.Nothing = omega arith
few_pieces form.Bang = omega arith
few_pieces form.Receives = omega arith
few_pieces form.Begins = omega arith
few_pieces form.Yields = omega arith
few_pieces form.Sends = omega arith
few_pieces form.SendsNothing = omega arith
few_pieces form.Draws = omega arith
few_pieces form.Binds = omega arith
few_pieces form.Equals = omega arith
few_pieces form.Into = omega arith
few_pieces form.Ends = omega arith

few_written_for : (ts : List Token) (oracle k : ℕ) (f : Form) → length (written_for ts oracle k f) ≤ 7
few_written_for ts oracle k f = let l = length-map (pieces f) (piece_for ts oracle k) in let n = few_pieces f in omega arith

few_written : (ts : List Token) (r : Reading) (k n : ℕ) → length (written_from ts r k n) ≤ 7 * n
unfolding written_from
few_written ts r k zero = omega arith
few_written ts r k (suc n) =
    let l = length-append (written_at ts r k) (written_from ts (behind_at ts r k) (k + 1) n) in
    let a = few_written_for ts r.oracle k (step r.mode (token_at ts k).kind (token_at ts k).text (token_at ts (k + 1)).text).0 in
    let b = few_written ts (behind_at ts r k) (k + 1) n in
    omega arith

length_kept : (r : Region) (ts : List Token) (k n : ℕ) → length (kept_from r ts k n) ≡ n
unfolding kept_from
length_kept r ts k zero = refl
length_kept r ts k (suc n) = ap suc (length_kept r ts (k + 1) n)

few_with : (b : Bool) (before : List ℕ) (k : ℕ) → length (if b then before ++ k ∷ [] else before) ≤ length before + 1
few_with true before k = let l = length_push before k in omega arith
few_with false before k = omega arith

few_oracles : (ts : List Token) (r : Reading) (k n : ℕ) (before : List ℕ) → length (oracles_from ts r k n before) ≤ length before + n
unfolding oracles_from
few_oracles ts r k zero before = omega arith
few_oracles ts r k (suc n) before =
    let a = few_with (is_new_oracle ts r before k) before k in
    let b = few_oracles ts (behind_at ts r k) (k + 1) n (with_oracle ts r before k) in
    omega arith

length_channels : (ts : List Token) (before : ℕ) (w : Word) (ks : List ℕ) → length (channels ts before w ks) ≡ 2 * length ks + 1
length_channels ts before w [] = refl
length_channels ts before w (k ∷ ks) = let l = length_channels ts before Comma ks in omega arith

few_declared : (ts : List Token) (before : ℕ) (ks : List ℕ) → length (declaration ts before ks) ≤ 2 * length ks + 1
few_declared ts before [] = omega arith
few_declared ts before (k ∷ ks) = let l = length_channels ts before Channel (k ∷ ks) in omega arith

length_five : (a b c d : List Token) (e : Token) → length (a ++ b ++ c ++ d ++ e ∷ []) ≡ length a + length b + length c + length d + 1
length_five a b c d e =
    length-append (a ++ b ++ c ++ d) (e ∷ [])
    ∙ ap (λ n. n + 1) (length-append (a ++ b ++ c) d ∙ ap (λ n. n + length d) (length-append (a ++ b) c ∙ ap (λ n. n + length c) (length-append a b)))

few_parts : (ts : List Token) (end begin last : ℕ) → length (parts ts end begin last) ≤ end + (begin - end) + 9 * (last - begin) + 2
few_parts ts end begin last =
    let oracles : List ℕ = oracles_from ts (at_start begin) begin (last - begin) [] in
    let all : length (parts ts end begin last) ≡ length (kept_from Declarations ts (min end 1) (end - min end 1)) + length (declaration ts end oracles) + length (kept_from Block ts end (begin - end)) + length (written_from ts (at_start begin) begin (last - begin)) + 1 =
    length_five (kept_from Declarations ts (min end 1) (end - min end 1)) (declaration ts end oracles) (kept_from Block ts end (begin - end)) (written_from ts (at_start begin) begin (last - begin)) (end_token last)
    in
    let a1 = length_kept Declarations ts (min end 1) (end - min end 1) in
    let b1 = few_declared ts end oracles in
    let b2 : length oracles ≤ 0 + (last - begin) = few_oracles ts (at_start begin) begin (last - begin) [] in
    let c1 = length_kept Block ts end (begin - end) in
    let d1 = few_written ts (at_start begin) begin (last - begin) in
    omega (arith, all, a1, b1, b2, c1, d1)

by_end : (a b : Bool) (k n m : ℕ) → k ≤ n → k + 1 ≤ n → m ≤ n → (if a then k else (if b then k + 1 else m)) ≤ n
by_end true b k n m p q r = p
by_end false true k n m p q r = q
by_end false false k n m p q r = r

by_stop : (a b : Bool) (k n m : ℕ) → k ≤ n → m ≤ n → (if a then k else (if b then k else m)) ≤ n
by_stop true b k n m p r = p
by_stop false true k n m p r = p
by_stop false false k n m p r = r

declarations_within : (k : ℕ) (ts : List Token) → declarations_end_from k ts ≤ k + length ts
unfolding declarations_end_from
declarations_within k [] = omega arith
declarations_within k (t ∷ ts) =
    let l = declarations_within (k + 1) ts in
    by_stop (is_end t.kind) (ends_declarations t.text) k (k + suc (length ts)) (declarations_end_from (k + 1) ts) (omega arith) (omega (arith, l))

process_within : (depth k : ℕ) (ts : List Token) → process_from depth k ts ≤ k + length ts
unfolding process_from
process_within depth k [] = omega arith
process_within depth k (t ∷ ts) =
    let l = process_within (open_behind depth t.text) (k + 1) ts in
    by_end (is_end t.kind) (is_process depth t.text) k (k + suc (length ts)) (process_from (open_behind depth t.text) (k + 1) ts) (omega arith) (omega arith) (omega (arith, l))

few_for : (ts : List Token) → length (file_for ts) ≤ 10 * length ts + 3
few_for ts =
    let end = declarations_end ts in
    let begin = process_at ts end in
    let a : end ≤ 0 + length ts = declarations_within 0 ts in
    let b : begin ≤ end + length (drop end ts) = process_within 0 end (drop end ts) in
    let d = length-drop end ts in
    let p = few_parts ts end begin (length ts - 1) in
    omega (arith, a, b, d, p)

few_by : (b : Bool) (ts : List Token) → length (if b then file_for ts else ts) ≤ 10 * length ts + 3
few_by true ts = few_for ts
few_by false ts = omega arith

pub few_read : (ts : List Token) → length (read_as ts) ≤ 10 * length ts + 3
few_read ts = few_by (is_oracle_file ts) ts
