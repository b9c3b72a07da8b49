-- Oracle files are exactly the sources whose translations are files.
use Rattle.std.proofs.Common.{◌≡◌, ℕ, zero, suc, Bool, true, false, if◌then◌else◌, ◌↔◌, List, [], ◌∷◌, ◌++◌, map, codes, refl, ap, sym, ◌∙◌, subst}
use Rattle.std.proofs.lemmas.List.{map_push}
use Rattle.cv_lex.specs.Lexis.{Token, end_token}
use Rattle.cv_lex.specs.View.{AreTokens}
use Rattle.cv_parse_notation.specs.Spells.{Use}
use Rattle.cv_parse_grammar.specs.declared.role.Role.{Role}
use Rattle.cv_parse_grammar.specs.Files.{IsFile, levels}
use Rattle.cv_parse_grammar.specs.Rules.{File}
use Rattle.cv_parse_tables.specs.declared.terminals.pass.Counts.{Counts}
use Rattle.cv_parse_tables.specs.terminals.Braces.{is_read, open_behind, read_at, read_from, semicolon}
use Rattle.cv_parse_tables.specs.terminals.Signs.{first_text, go_on, no_counts, signs_from, signs_of, step_before, with_right_sides}
use Rattle.cv_oracles.specs.Translations.{file_for, is_oracle_file}
use Rattle.cv_oracle_laws.specs.Tokens.{plain}
use Rattle.cv_oracle_laws.specs.OracleFiles.{SpellsOracleFile, contents}
use Rattle.cv_oracle_laws.proofs.Files.{fronted, stands_for}
use Rattle.cv_oracle_laws.proofs.Converse.{told_by_translation}

-- signs say nothing of places

first_plain : (ts : List Token) → first_text (map plain ts) ≡ first_text ts
first_plain [] = refl
first_plain (t ∷ ts) = refl

signs_plain : (names : List (List ℕ)) (counts : Counts) (ts : List Token) → signs_from names counts (map plain ts) ≡ signs_from names counts ts
unfolding signs_from
signs_plain names counts [] = refl
signs_plain names counts (t ∷ ts) =
    ap (λ x. go_on (λ n c. signs_from n c (map plain ts)) (step_before names counts t.kind t.text x)) (first_plain ts)
    ∙ ap (λ g. go_on g (step_before names counts t.kind t.text (first_text ts))) (λ i n c. signs_plain n c ts i)

read_plain : (depth : ℕ) (t : Token) → read_at depth (plain t) ≡ plain (read_at depth t)
read_plain zero t = refl
read_plain (suc depth) t = by_read (is_read t.kind t.text) where
  by_read : (b : Bool) → (if b then plain t else semicolon 0) ≡ plain (if b then t else semicolon t.offset)
  by_read true = refl
  by_read false = refl

all_read_plain : (depth : ℕ) (ts : List Token) → read_from depth (map plain ts) ≡ map plain (read_from depth ts)
unfolding read_from
all_read_plain depth [] = refl
all_read_plain depth (t ∷ ts) = λ i. read_plain depth t i ∷ all_read_plain (open_behind depth t.text) ts i

signs_of_plain : (ts : List Token) → signs_of (map plain ts) ≡ signs_of ts
signs_of_plain ts = ap with_right_sides (ap (signs_from (codes "bool" ∷ []) no_counts) (all_read_plain 0 ts) ∙ signs_plain (codes "bool" ∷ []) no_counts (read_from 0 ts))

same_signs : (ts : List Token) → signs_of (contents (file_for ts) ++ end_token 0 ∷ []) ≡ signs_of (file_for ts)
same_signs ts =
    let w = fronted ts in
    ap signs_of (ap (λ l. l ++ end_token 0 ∷ []) w.plainly ∙ sym (map_push plain w.front (end_token w.last)) ∙ ap (map plain) (sym w.all)) ∙ signs_of_plain (file_for ts)

pub spells_exactly : (tokens : List Token) (f : File) (uses : List (Use Role)) → AreTokens tokens → is_oracle_file tokens ≡ true →
    SpellsOracleFile tokens f uses ↔ IsFile levels (signs_of (file_for tokens)).signs f uses []
spells_exactly tokens f uses a is = (
  λ x. subst (λ s. IsFile levels s.signs f uses []) (ap (λ l. signs_of (l ++ end_token 0 ∷ [])) (sym (stands_for tokens x.file a x.is)) ∙ same_signs tokens) x.spelled,
  λ d. record { file = contents (file_for tokens); is = told_by_translation tokens f uses a is d; spelled = subst (λ s. IsFile levels s.signs f uses []) (sym (same_signs tokens)) d },
)
