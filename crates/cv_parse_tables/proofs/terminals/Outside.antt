-- The names of a file are those of its tokens outside braces.
use Rattle.std.proofs.Common.{◌≡◌, ℕ, zero, suc, inl, inr, false, List, [], ◌∷◌, ◌++◌, refl, ap, sym, ◌∙◌, subst, codes}
use Rattle.std.specs.Prelude.{All}
use Rattle.std.proofs.lemmas.List.Elements.{All-head, All-tail}
use Rattle.cv_lex.specs.declared.TokenKind.{TokenKind}
use Rattle.cv_lex.specs.declared.TokenKind.TheVariants as kind
use Rattle.cv_lex.specs.Lexis.{Token, IsToken, end_token}
use Rattle.cv_lex.specs.View.{AreTokens}
use Rattle.cv_lex.proofs.Pieces.{token_not_end}
use Rattle.cv_parse_tables.specs.declared.terminals.pass.Counts.{Counts}
use Rattle.cv_parse_tables.specs.terminals.Braces.{is_end, read_between, open_behind, read_from, outside_from, outside}
use Rattle.cv_parse_tables.specs.terminals.Signs.{Step, no_counts, first_text, step_before, signs_from, signs_in, signs_of}
use Rattle.cv_parse_tables.specs.spelling.Spelling.{mark_of_text}
use Rattle.cv_parse_tables.specs.terminals.Worked.{small, small_names}
use Rattle.cv_parse_tables.proofs.terminals.FileTokens.{none_behind}
use Rattle.cv_parse_tables.proofs.terminals.Naming.{text_test}

-- a step that adds no name and counts no word
record IsStill (names : List (List ℕ)) (counts : Counts) (s : Step) : Type 0 where
  same_names : s.names ≡ names
  same_counts : s.counts ≡ counts

module _ (names : List (List ℕ)) (counts : Counts) (next : List ℕ) where
  still_open : (k : TokenKind) → IsStill names counts (step_before names counts k (codes "{") next)
  unfolding mark_of_text
  still_open kind.Ident = record { same_names = refl; same_counts = refl }
  still_open kind.Symbol = record { same_names = refl; same_counts = refl }
  still_open (kind.Number v) = record { same_names = refl; same_counts = refl }
  still_open kind.End = record { same_names = refl; same_counts = refl }

  still_close : (k : TokenKind) → IsStill names counts (step_before names counts k (codes "}") next)
  unfolding mark_of_text
  still_close kind.Ident = record { same_names = refl; same_counts = refl }
  still_close kind.Symbol = record { same_names = refl; same_counts = refl }
  still_close (kind.Number v) = record { same_names = refl; same_counts = refl }
  still_close kind.End = record { same_names = refl; same_counts = refl }

  still_semicolon : IsStill names counts (step_before names counts kind.Symbol (codes ";") next)
  unfolding mark_of_text
  still_semicolon = record { same_names = refl; same_counts = refl }

  abbrev StillAt : Token → Type 0
  StillAt t = IsStill names counts (step_before names counts t.kind t.text next)

  no_end : (t : Token) → (t.kind ≡ kind.End → ⊥) → is_end t.kind ≡ false
  no_end t inner = go t.kind refl where
    go : (k : TokenKind) → t.kind ≡ k → is_end k ≡ false
    go kind.Ident e = refl
    go kind.Symbol e = refl
    go (kind.Number v) e = refl
    go kind.End e = absurd (inner e)

  -- between braces each token is still
  still_between : (t : Token) → (t.kind ≡ kind.End → ⊥) → StillAt (read_between t)
  still_between t inner =
      elim (text_test t.text (codes "{")) [
        | inl a ↦ rw a.0 (subst (λ w. IsStill names counts (step_before names counts t.kind w next)) (sym a.1) (still_open t.kind))
        | inr a ↦ elim (text_test t.text (codes "}")) [
          | inl b ↦ rw (a, b.0) (subst (λ w. IsStill names counts (step_before names counts t.kind w next)) (sym b.1) (still_close t.kind))
          | inr b ↦ rw (a, b, no_end t inner) still_semicolon
        ]
      ]

-- an opening brace has no use for the next text
open_alone : (names : List (List ℕ)) (counts : Counts) (k : TokenKind) (next more : List ℕ) → step_before names counts k (codes "{") next ≡ step_before names counts k (codes "{") more
open_alone names counts k next more = refl

-- with no brace open the first text is the same
same_first : (ts : List Token) → first_text (read_from 0 ts) ≡ first_text (outside_from 0 ts)
unfolding read_from outside_from
same_first [] = refl
same_first (t ∷ ts) = refl

same_step : (names : List (List ℕ)) (counts : Counts) (t : Token) (ts : List Token) → step_before names counts t.kind t.text (first_text (read_from (open_behind 0 t.text) ts)) ≡ step_before names counts t.kind t.text (first_text (outside_from (open_behind 0 t.text) ts))
same_step names counts t ts =
    let next = first_text (read_from (open_behind 0 t.text) ts) in
    let more = first_text (outside_from (open_behind 0 t.text) ts) in
    elim (text_test t.text (codes "{")) [
      | inl a ↦ subst (λ w. step_before names counts t.kind w next ≡ step_before names counts t.kind w more) (sym a.1) (open_alone names counts t.kind next more)
      | inr a ↦ ap (step_before names counts t.kind t.text) (subst (λ d. first_text (read_from d ts) ≡ first_text (outside_from d ts)) (sym (none_behind t.text a)) (same_first ts))
    ]

abbrev IsLexed : Token → Type 0
IsLexed t = IsToken t.kind t.text

names_alike : (names : List (List ℕ)) (counts : Counts) (depth : ℕ) (front : List Token) (end : ℕ) → All IsLexed front → (signs_from names counts (read_from depth (front ++ end_token end ∷ []))).names ≡ (signs_from names counts (outside_from depth (front ++ end_token end ∷ []))).names
unfolding signs_from read_from outside_from
names_alike names counts zero [] end each = refl
names_alike names counts (suc depth) [] end each = refl
names_alike names counts zero (t ∷ front) end each =
    let behind : List Token = front ++ end_token end ∷ [] in
    let depth : ℕ = open_behind 0 t.text in
    let s : Step = step_before names counts t.kind t.text (first_text (outside_from depth behind)) in
    ap (λ (x : Step). (signs_from x.names x.counts (read_from depth behind)).names) (same_step names counts t behind)
    ∙ names_alike s.names s.counts depth front end (All-tail IsLexed t front each)
names_alike names counts (suc depth) (t ∷ front) end each =
    let behind : List Token = front ++ end_token end ∷ [] in
    let further : ℕ = open_behind (suc depth) t.text in
    let is : IsToken t.kind t.text = All-head IsLexed t front each in
    let still = still_between names counts (first_text (read_from further behind)) t (λ e. token_not_end t.text (subst (λ w. IsToken w t.text) e is)) in
    ap (λ n. (signs_from n (step_before names counts (read_between t).kind (read_between t).text (first_text (read_from further behind))).counts (read_from further behind)).names) still.same_names
    ∙ (ap (λ c. (signs_from names c (read_from further behind)).names) still.same_counts
    ∙ names_alike names counts further front end (All-tail IsLexed t front each))

pub names_outside : (ts : List Token) → AreTokens ts → (signs_of ts).names ≡ (signs_in (outside ts)).names
names_outside ts are =
    let P : List Token → Type 0 = λ l. (signs_of l).names ≡ (signs_in (outside l)).names in
    subst P (sym are.all) (names_alike (codes "bool" ∷ []) no_counts 0 are.front are.end are.each)

pub names_small : (signs_of small).names ≡ small_names
unfolding signs_from read_from mark_of_text
names_small = refl
