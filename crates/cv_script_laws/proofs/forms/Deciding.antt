-- Scripts are decided: what is computed of tokens is what they spell.
use Rattle.std.proofs.Common.{◌≡◌, ℕ, ◌+◌, ◌-◌, ◌<◌, ◌≤◌, ◌⊎◌, inl, inr, Bool, true, false, nat_lt, ◌&&◌, List, [], ◌∷◌, ◌++◌, length, length-append, Result, Ok, Err, refl, ap, sym, ◌∙◌, subst, arith, eqb-true}
use Rattle.std.proofs.lemmas.Bool.Decides.{nat_tests}
use Rattle.cv_syntax.specs.declared.work.BuildError.TheVariants.{Full}
use Rattle.cv_syntax_trees.specs.Tree.{Tree}
use Rattle.cv_parse_notation.specs.declared.sign.Sign.{Sign}
use Rattle.cv_parse_notation.specs.Form.{Form, sign, script_word, word, number, nought, find_word, unnamed, other, note, both, may, many, either, made, level, deeper}
use Rattle.cv_parse_notation.specs.Local.{LocalAt, SameFirst}
use Rattle.cv_parse_notation.specs.Reads.{Found, Read, Syntax, Nesting, found, read_sort}
use Rattle.cv_parse_notation.specs.Spells.{IsSort, Use}
use Rattle.cv_parse_notation.specs.Whole.{Dead, SpellsWith, reads_with}
use Rattle.cv_parse_notation.proofs.Complete.{complete}
use Rattle.cv_parse_notation.proofs.Locality.{Local, local, sort_local, takes_more}
use Rattle.cv_parse_notation.proofs.Sorts.{begins, read_is_spelled, shorter, spelled_is_read}
use Rattle.cv_parse_notation.proofs.Sound.{same_found, sound}
use Rattle.cv_parse_grammar.specs.declared.role.Role.{Role}
use Rattle.cv_parse_grammar.specs.Files.{levels}
use Rattle.cv_parse_grammar.specs.Marks.{marked_rule}
use Rattle.cv_parse_grammar.specs.Phrases.{Sort}
use Rattle.cv_parse_tables.specs.Table.{Nowhere, OfFiles, Row, TableSort, carried, table_heads, table_rule}
use Rattle.cv_script.specs.rows.Rows.{script_rows}
use Rattle.cv_script.specs.reader.Scripts.{to_end, items, of_read, read_script, with_room, script_of}
use Rattle.cv_syntax.specs.limits.Limits.{nodes_of}
use Rattle.cv_script.specs.declared.reader.error.ScriptError.{ScriptError}
use Rattle.cv_script.specs.declared.reader.error.ScriptError.TheVariants.{Build, Script}
use Rattle.cv_script_laws.specs.forms.Scripts.{IsScript, IsSomeScript, Takes, script_form}
use Rattle.cv_script_laws.proofs.forms.Agreement.{reads_same, sorts_pass, sorts_same, sort_spelled, sort_spelled_back, spells_same}
use Rattle.cv_script_laws.proofs.forms.Fitting.{all_fit, deep_rule, deep_tails, is_deep, line_row, script_fits, script_steady, when_deep}
use Rattle.cv_script.proofs.reader.Steps.{full, room as roomy}
use Rattle.std.proofs.lemmas.Bool.{and_from}

-- forms of files ask for phrases of files alone

carried_deep : {A : Type 0} (f : Form Role Sort A) → sorts_pass is_deep (carried f) ≡ true
unfolding sorts_pass
carried_deep (both f g) = and_from (sorts_pass is_deep (carried f)) (sorts_pass is_deep (carried g)) (carried_deep f) (carried_deep g)
carried_deep (may near f) = carried_deep f
carried_deep (many near f) = carried_deep f
carried_deep (either f g) = and_from (sorts_pass is_deep (carried f)) (sorts_pass is_deep (carried g)) (carried_deep f) (carried_deep g)
carried_deep (made v f) = carried_deep f
carried_deep (level f) = carried_deep f
carried_deep (deeper s) = refl
carried_deep (sign m) = refl
carried_deep (script_word w) = refl
carried_deep (word r) = refl
carried_deep number = refl
carried_deep nought = refl
carried_deep find_word = refl
carried_deep (unnamed r) = refl
carried_deep other = refl
carried_deep (note r) = refl

line_deep : sorts_pass is_deep (table_rule script_rows (Row 75)) ≡ true
unfolding sorts_pass
line_deep = refl

script_deep : sorts_pass is_deep script_form ≡ true
unfolding sorts_pass
script_deep = refl

pub closed : (s : TableSort) → is_deep s ≡ true → sorts_pass is_deep (table_rule script_rows s) ≡ true
unfolding sorts_pass
closed (Row r) e = subst (λ m. sorts_pass is_deep (table_rule script_rows (Row m)) ≡ true) (sym (eqb-true r line_row e)) line_deep
closed (OfFiles s) e = carried_deep (marked_rule s)
closed Nowhere e = refl

pub agree : (s : TableSort) → is_deep s ≡ true → table_rule script_rows s ≡ deep_rule s
agree s e = sym (ap (λ b. when_deep b s) e)

-- the table's forms, and those of the phrases that are asked for

pub to_deep : (signs : List Sign) (t : Tree) (us : List (Use Role)) (rest : List Sign) → SpellsWith (table_heads script_rows) (table_rule script_rows) script_form levels signs t us rest → SpellsWith (table_heads script_rows) deep_rule script_form levels signs t us rest
to_deep signs t us rest d = spells_same (table_heads script_rows) is_deep true (IsSort (table_heads script_rows) (table_rule script_rows) levels) (IsSort (table_heads script_rows) deep_rule levels) (sort_spelled (table_heads script_rows) is_deep (table_rule script_rows) deep_rule agree closed levels) script_form script_deep signs t us rest d

from_deep : (signs : List Sign) (t : Tree) (us : List (Use Role)) (rest : List Sign) → SpellsWith (table_heads script_rows) deep_rule script_form levels signs t us rest → SpellsWith (table_heads script_rows) (table_rule script_rows) script_form levels signs t us rest
from_deep signs t us rest d = spells_same (table_heads script_rows) is_deep true (IsSort (table_heads script_rows) deep_rule levels) (IsSort (table_heads script_rows) (table_rule script_rows) levels) (sort_spelled_back (table_heads script_rows) is_deep (table_rule script_rows) deep_rule agree closed levels) script_form script_deep signs t us rest d

abbrev reads_deep : List Sign → Read Role Tree
reads_deep signs = reads_with (table_heads script_rows) deep_rule script_form levels signs

row_reads : (signs : List Sign) → read_script signs ≡ reads_deep signs
unfolding read_sort
row_reads signs = reads_same (table_heads script_rows) is_deep true (read_sort (table_heads script_rows) (table_rule script_rows) levels) (read_sort (table_heads script_rows) deep_rule levels) (sorts_same (table_heads script_rows) is_deep (table_rule script_rows) deep_rule agree closed levels) script_form script_deep signs

deep_sound : (signs : List Sign) (x : Found Role Tree) → reads_deep signs ≡ Ok x → SpellsWith (table_heads script_rows) (table_rule script_rows) script_form levels signs x.value x.uses x.rest
deep_sound signs x e = from_deep signs x.value x.uses x.rest (sound (table_heads script_rows) true (IsSort (table_heads script_rows) deep_rule levels) (shorter (table_heads script_rows) deep_tails deep_rule all_fit levels) (read_sort (table_heads script_rows) deep_rule levels) (read_is_spelled (table_heads script_rows) deep_tails deep_rule all_fit levels) script_form script_steady signs x e)

deep_complete : (signs : List Sign) (t : Tree) (us : List (Use Role)) → IsScript signs t us → reads_deep signs ≡ found t us []
deep_complete signs t us d = complete (table_heads script_rows) deep_tails true (IsSort (table_heads script_rows) deep_rule levels) (shorter (table_heads script_rows) deep_tails deep_rule all_fit levels) (begins (table_heads script_rows) deep_tails deep_rule all_fit levels) (read_sort (table_heads script_rows) deep_rule levels) (spelled_is_read (table_heads script_rows) deep_tails deep_rule all_fit levels) script_form script_fits signs t us [] (to_deep signs t us [] d) refl

-- tokens spell one script at most
pub one_script : (signs : List Sign) (s t : Tree) (us vs : List (Use Role)) → IsScript signs s us → IsScript signs t vs → s ≡ t
one_script signs s t us vs d e = ap (λ (x : Found Role Tree). x.value) (same_found (record { value = s; uses = us; rest = [] }) (record { value = t; uses = vs; rest = [] }) (sym (deep_complete signs s us d) ∙ deep_complete signs t vs e))

deep_local : Local reads_deep
deep_local = local (table_heads script_rows) true (read_sort (table_heads script_rows) deep_rule levels) (sort_local (table_heads script_rows) deep_tails deep_rule all_fit levels) (takes_more (table_heads script_rows) deep_tails deep_rule all_fit levels) script_form script_steady

-- the room of a pool

either_way : (limit live : ℕ) (t : Tree) → ((live + nodes_of t ≤ limit) × (with_room limit live t ≡ Ok (items t))) ⊎ (with_room limit live t ≡ Err (Build (Full (nodes_of t))))
either_way limit live t = by_test (nat_lt limit (live + nodes_of t)) refl where
  by_test : (b : Bool) → nat_lt limit (live + nodes_of t) ≡ b → ((live + nodes_of t ≤ limit) × (with_room limit live t ≡ Ok (items t))) ⊎ (with_room limit live t ≡ Err (Build (Full (nodes_of t))))
  by_test true i = inr (let l : limit < live + nodes_of t = grind (arith, nat_tests) in full limit live t l)
  by_test false i = inl (let l : live + nodes_of t ≤ limit = grind (arith, nat_tests) in (l, roomy limit live t l))

-- what was accepted

read_whole : (limit live end : ℕ) (signs : List Sign) (steps : List Tree) (r : Read Role Tree) → reads_deep signs ≡ r → of_read limit live end r ≡ Ok steps → Takes limit live signs steps
read_whole limit live end signs steps (Err f) i e = absurd (cc)
read_whole limit live end signs steps (Ok x) i e = by_rest x.rest refl where
  by_rest : (l : List Sign) → x.rest ≡ l → Takes limit live signs steps
  by_rest [] j =
      let k : with_room limit live x.value ≡ Ok steps = ap (to_end limit live end x.value) (sym j) ∙ e in
      elim (either_way limit live x.value) as (λ _. Takes limit live signs steps) [
        | inl w ↦ record {
          script = x.value;
          uses = x.uses;
          spelled = subst (λ l. SpellsWith (table_heads script_rows) (table_rule script_rows) script_form levels signs x.value x.uses l) j (deep_sound signs x i);
          items = (let m = sym k ∙ w.1 in cc);
          room = w.0;
        }
        | inr w ↦ absurd (let m = sym k ∙ w in cc)
      ]
  by_rest (s ∷ l) j = absurd (let k = ap (to_end limit live end x.value) (sym j) ∙ e in cc)

pub accepts : (limit live from : ℕ) (signs : List Sign) (steps : List Tree) → script_of limit live from signs ≡ Ok steps → Takes limit live signs steps
unfolding script_of
accepts limit live from signs steps e = read_whole limit live (from + length signs) signs steps (reads_deep signs) refl (ap (of_read limit live (from + length signs)) (sym (row_reads signs)) ∙ e)

by_read : (limit live from : ℕ) (signs : List Sign) (t : Tree) (us : List (Use Role)) → IsScript signs t us → script_of limit live from signs ≡ with_room limit live t
unfolding script_of
by_read limit live from signs t us d = ap (of_read limit live (from + length signs)) (row_reads signs ∙ deep_complete signs t us d)

pub takes : (limit live from : ℕ) (signs : List Sign) (t : Tree) (us : List (Use Role)) → IsScript signs t us → live + nodes_of t ≤ limit → script_of limit live from signs ≡ Ok (items t)
takes limit live from signs t us d l = by_read limit live from signs t us d ∙ roomy limit live t l

pub fills : (limit live from : ℕ) (signs : List Sign) (t : Tree) (us : List (Use Role)) → IsScript signs t us → limit < live + nodes_of t → script_of limit live from signs ≡ Err (Build (Full (nodes_of t)))
fills limit live from signs t us d l = by_read limit live from signs t us d ∙ full limit live t l

-- what was refused

-- reading ends before a token
abbrev NotRead : (end token : ℕ) → Read Role Tree → Type 0
NotRead end token (Ok x) = (0 < length x.rest) × (token ≡ end - length x.rest)
NotRead end token (Err (Syntax k)) = token ≡ end - k
NotRead end token (Err (Nesting k)) = token ≡ end - k

-- an error that names a token
abbrev pub Names : ScriptError → ℕ → Type 0
Names (Script k) token = k ≡ token
Names (Build e) token = ⊥

is_err : {A B : Type 0} (a b : B) → (let r : Result A B = Err a in r) ≡ Err b → a ≡ b
is_err a b e = cc

not_read : (limit live end token : ℕ) (e : ScriptError) (r : Read Role Tree) → of_read limit live end r ≡ Err e → Names e token → NotRead end token r
not_read limit live end token e (Err (Syntax k)) i n = sym (subst (λ z. Names z token) (sym (is_err (Script (end - k)) e i)) n)
not_read limit live end token e (Err (Nesting k)) i n = sym (subst (λ z. Names z token) (sym (is_err (Script (end - k)) e i)) n)
not_read limit live end token e (Ok x) i n = by_rest x.rest refl where
  by_rest : (l : List Sign) → x.rest ≡ l → NotRead end token (Ok x)
  by_rest [] j =
      let k : with_room limit live x.value ≡ Err e = ap (to_end limit live end x.value) (sym j) ∙ i in
      elim (either_way limit live x.value) as (λ _. NotRead end token (Ok x)) [
        | inl w ↦ absurd (let m = sym k ∙ w.1 in cc)
        | inr w ↦ absurd (subst (λ z. Names z token) (is_err e (Build (Full (nodes_of x.value))) (sym k ∙ w)) n)
      ]
  by_rest (s ∷ l) j =
      let k : (let r : Result (List Tree) ScriptError = Err (Script (end - length (s ∷ l))) in r) ≡ Err e = ap (to_end limit live end x.value) (sym j) ∙ i in
      let m = sym (subst (λ z. Names z token) (sym (is_err (Script (end - length (s ∷ l))) e k)) n) in
      (let o = ap length j in omega (arith, o), m ∙ ap (λ z. end - length z) (sym j))

dead : (from token : ℕ) (signs : List Sign) (r : Read Role Tree) → NotRead (from + length signs) token r → LocalAt reads_deep signs r → Dead IsSomeScript signs (from + length signs - token)
dead from token signs (Err (Syntax k)) i l = record {
  front = l.0;
  rest = l.1;
  split = l.2;
  left = (let a : k ≡ length l.1 = (let b = l.3 in cc) in let n = ap length l.2 ∙ length-append l.0 l.1 in omega (arith, a, n, i));
  none = λ more s d. let e = sym (deep_complete (l.0 ++ more) d.0 d.1 d.2) ∙ l.4 more s in cc;
}
dead from token signs (Err (Nesting k)) i l = record {
  front = l.0;
  rest = l.1;
  split = l.2;
  left = (let a : k ≡ length l.1 = (let b = l.3 in cc) in let n = ap length l.2 ∙ length-append l.0 l.1 in omega (arith, a, n, i));
  none = λ more s d. let e = sym (deep_complete (l.0 ++ more) d.0 d.1 d.2) ∙ l.4 more s in cc;
}
dead from token signs (Ok x) i l = record {
  front = l.0;
  rest = x.rest;
  split = l.1;
  left = (let n = ap length l.1 ∙ length-append l.0 x.rest in let m = i.1 in omega (arith, n, m));
  none = λ more s d. (let y = l.2 more s in behind x.rest more i.0 s (y.0.rest) y.2 (let e = sym y.1 ∙ deep_complete (l.0 ++ more) d.0 d.1 d.2 in ended_there y.0 d.0 d.1 e));
}
  where
    ended_there : (y : Found Role Tree) (t : Tree) (us : List (Use Role)) → (let r : Read Role Tree = Ok y in r) ≡ found t us [] → y.rest ≡ []
    ended_there y t us e = let k : y ≡ record { value = t; uses = us; rest = [] } = cc in ap (λ (z : Found Role Tree). z.rest) k

    behind : (rest more : List Sign) → 0 < length rest → SameFirst rest more → (end : List Sign) → end ≡ more → end ≡ [] → ⊥
    behind [] more h s end e f = absurd (omega arith)
    behind (u ∷ us) [] h s end e f = s
    behind (u ∷ us) (v ∷ more) h s end e f = let g = sym e ∙ f in cc

pub refuses : (limit live from : ℕ) (signs : List Sign) (token : ℕ) (e : ScriptError) → Names e token → script_of limit live from signs ≡ Err e → Dead IsSomeScript signs (from + length signs - token)
unfolding script_of
refuses limit live from signs token e n i = dead from token signs (reads_deep signs) (not_read limit live (from + length signs) token e (reads_deep signs) (ap (of_read limit live (from + length signs)) (sym (row_reads signs)) ∙ i) n) (deep_local signs)
