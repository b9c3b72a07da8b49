-- Phrases of files in a row are read back, and their heads tell them.
use Rattle.std.proofs.Common.{◌≡◌, ℕ, zero, suc, ◌≤◌, true, false, List, [], ◌∷◌, ◌++◌, length, map, refl, ap, subst, ◌∙◌, arith}
use Rattle.cv_syntax_trees.specs.Tree.{Tree}
use Rattle.cv_parse_notation.specs.declared.sign.Mark.TheVariants as mark
use Rattle.cv_parse_notation.specs.declared.sign.Sign.{Sign}
use Rattle.cv_parse_notation.specs.declared.sign.Sign.TheVariants as token
use Rattle.cv_parse_notation.specs.Spells.{Relation, Spells, IsSort, no_sort, next_is}
use Rattle.cv_parse_grammar.specs.declared.role.Role.{Role}
use Rattle.cv_parse_grammar.specs.Names.{Uses}
use Rattle.cv_parse_notation.specs.Form.{deeper}
use Rattle.cv_parse_grammar.specs.Marks.{marked_rule, plain, plain_cell, term_of}
use Rattle.cv_parse_grammar.specs.Phrases.{Phrase, Sort}
use Rattle.cv_parse_grammar.specs.Phrases as sort
use Rattle.cv_parse_grammar.specs.Rules.{heads}
use Rattle.cv_parse_grammar.specs.Terms.{cell, subscript, terms}
use Rattle.cv_parse_terms.specs.Gives.{positive}
use Rattle.cv_parse_tables.specs.declared.piece.Outer.{Outer}
use Rattle.cv_parse_tables.specs.declared.piece.Outer.TheVariants as outer
use Rattle.cv_parse_tables.specs.Table.{Table, TableSort, OfFiles, carried, outer_form, table_heads, table_rule}
use Rattle.cv_scope_rules.specs.Phrases.{OneCell, Term}
use Rattle.cv_print_bytes.specs.terminals.Levels.{term_levels, terms_levels}
use Rattle.cv_print_bytes.specs.terminals.Signs.{numbered, term_signs, terms_signs}
use Rattle.cv_print_bytes.specs.terminals.Told.{Piece, cell_told, shown, signs_in, term_told, terms_told, uses_in}
use Rattle.cv_print_bytes.specs.terminals.Written.{IsWritten, opens}
use Rattle.cv_print_bytes.proofs.terminals.Lists.{cell_is_by}
use Rattle.cv_print_bytes.proofs.terminals.Plain as bare
use Rattle.cv_print_bytes.proofs.terminals.Shown as told
use Rattle.cv_print_bytes.proofs.terminals.Spelling.{squared}
use Rattle.cv_print_bytes.proofs.terminals.Terms.{as_term, list_is_by, term_is_by}
use Rattle.cv_print_scripts.specs.steps.Shown.{Words, outer_levels, outer_signs, spoken}
use Rattle.cv_print_scripts.specs.steps.Trees.{AreTerms, IsOuter}
use Rattle.cv_print_scripts.proofs.steps.Files.{is_said, outers_are_quiet, said_append, sort_is_said}

abbrev pub Lower : {σ : Type 0} → (ℕ → σ → Relation Role Tree) → ℕ → σ → Relation Role Tree
Lower P zero = no_sort
Lower P (suc n) = P n

-- by the rows of files, in which names may have marks

abbrev pub FileBack : ℕ → Phrase Tree → List Sign → Tree → List Sign → Type 0
FileBack m f signs t rest = (us : Uses) × Spells heads (positive m) (Lower (IsSort heads marked_rule) m) f (signs ++ rest) t us rest

one_signs : (t : Tree) → numbered 0 (signs_in (term_told t)) ≡ term_signs t
one_signs t = ap (numbered 0) (told.of_term t).same ∙ (bare.of_term t).same 0

list_signs : (t : Tree) → numbered 0 (signs_in (terms_told [] t)) ≡ terms_signs [] t
list_signs t = ap (numbered 0) (told.of_terms told.nothing t).same ∙ (bare.of_terms bare.nothing t).same 0

cell_signs : (t : Tree) → numbered 0 (signs_in (cell_told t)) ≡ term_signs t
cell_signs t = ap (numbered 0) (told.of_cell t).same ∙ (bare.of_term t).same 0

module _ (t : Tree) (rest : List Sign) (stays : next_is opens rest ≡ false) where
  term_here : (m : ℕ) → IsWritten Term (plain true t) → suc (term_levels t) ≤ m → FileBack m (term_of true) (term_signs t) t rest
  term_here zero w l = absurd (omega (arith, l))
  term_here (suc n) w l = (uses_in (term_told t) (length rest), subst (λ z. Spells heads true (IsSort heads marked_rule n) (term_of true) (z ++ rest) t (uses_in (term_told t) (length rest)) rest) (one_signs t) ((as_term (term_is_by true t w n (omega (arith, l)))).spells 0 rest stays))

  terms_here : (m : ℕ) → AreTerms t → suc (terms_levels t) ≤ m → FileBack m terms (terms_signs [] t) t rest
  terms_here zero w l = absurd (omega (arith, l))
  terms_here (suc n) w l = (uses_in (terms_told [] t) (length rest), subst (λ z. Spells heads true (IsSort heads marked_rule n) terms (z ++ rest) t (uses_in (terms_told [] t) (length rest)) rest) (list_signs t) ((list_is_by true t w.written w.some n (omega (arith, l))).spells 0 rest stays))

  cell_here : (m : ℕ) → IsWritten OneCell (plain_cell true t) → suc (term_levels t) ≤ m → FileBack m cell (term_signs t) t rest
  cell_here zero w l = absurd (omega (arith, l))
  cell_here (suc n) w l = (uses_in (cell_told t) (length rest), subst (λ z. Spells heads true (IsSort heads marked_rule n) cell (z ++ rest) t (uses_in (cell_told t) (length rest)) rest) (cell_signs t) ((cell_is_by true t w n (omega (arith, l)) opens).spells 0 rest stays))

  cell_there : (m : ℕ) → IsWritten OneCell (plain_cell true t) → suc (suc (term_levels t)) ≤ m → FileBack m (deeper sort.OneCell) (term_signs t) t rest
  unfolding IsSort
  cell_there zero w l = absurd (omega (arith, l))
  cell_there (suc zero) w l = absurd (omega (arith, l))
  cell_there (suc (suc n)) w l = cell_here (suc n) w (omega (arith, l))

  abbrev square_told : List Piece
  square_told = shown mark.OpenSquare ++ (terms_told [] t ++ shown mark.CloseSquare)

  square_signs : numbered 0 (signs_in square_told) ≡ token.Mark mark.OpenSquare ∷ (terms_signs [] t ++ token.Mark mark.CloseSquare ∷ [])
  square_signs =
      ap (numbered 0) (told.◌and◌ (told.symbol {m = mark.OpenSquare}) (told.◌and◌ (told.of_terms told.nothing t) (told.symbol {m = mark.CloseSquare}))).same
      ∙ (bare.◌and◌ (bare.symbol {m = mark.OpenSquare}) (bare.◌and◌ (bare.of_terms bare.nothing t) (bare.symbol {m = mark.CloseSquare}))).same 0

  square_there : (m : ℕ) → AreTerms t → suc (suc (terms_levels t)) ≤ m → FileBack m (deeper sort.Subscript) (outer_signs outer.InnerSubscript t) t rest
  unfolding IsSort
  square_there zero w l = absurd (omega (arith, l))
  square_there (suc zero) w l = absurd (omega (arith, l))
  square_there (suc (suc n)) w l = (uses_in square_told (length rest), subst (λ z. Spells heads true (IsSort heads marked_rule n) subscript (z ++ rest) t (uses_in square_told (length rest)) rest) square_signs ((squared {stop = opens} (list_is_by true t w.written w.some n (omega (arith, l))) refl).spells 0 rest stays))

  term_there : (m : ℕ) → IsWritten Term (plain true t) → suc (suc (term_levels t)) ≤ m → FileBack m (deeper sort.Term) (term_signs t) t rest
  unfolding IsSort
  term_there zero w l = absurd (omega (arith, l))
  term_there (suc zero) w l = absurd (omega (arith, l))
  term_there (suc (suc n)) w l = term_here (suc n) w (omega (arith, l))

  pub file_back : (m : ℕ) (p : Outer) → IsOuter p t → outer_levels p t ≤ m → FileBack m (outer_form p) (outer_signs p t) t rest
  file_back m outer.Term w l = term_here m w l
  file_back m outer.Terms w l = terms_here m w l
  file_back m outer.InnerTerm w l = term_there m w l
  file_back m outer.InnerSubscript w l = square_there m w l
  file_back m outer.Cell w l = cell_here m w l
  file_back m outer.InnerCell w l = cell_there m w l

-- in a table

abbrev pub below_of : Table → ℕ → TableSort → Relation Role Tree
below_of table m = Lower (IsSort (table_heads table) (table_rule table)) m

lower_said : (words : Words) (table : Table) (m : ℕ) (s : Sort) (ts : List Sign) (a : Tree) (us : Uses) (rest : List Sign) → Lower (IsSort heads marked_rule) m s ts a us rest → below_of table m (OfFiles s) (map (spoken words) ts) a us (map (spoken words) rest)
lower_said words table zero s ts a us rest d = absurd d
lower_said words table (suc n) s ts a us rest d = sort_is_said words table n s ts a us rest d

pub outer_back : (words : Words) (table : Table) (m : ℕ) (p : Outer) (t : Tree) (rest : List Sign) → IsOuter p t → outer_levels p t ≤ m → next_is opens rest ≡ false → map (spoken words) rest ≡ rest → (us : Uses) × Spells (table_heads table) (positive m) (below_of table m) (carried (outer_form p)) (map (spoken words) (outer_signs p t) ++ rest) t us rest
outer_back words table m p t rest w l e s =
    let d = file_back t rest e m p w l in
    let up = is_said words table (positive m) (Lower (IsSort heads marked_rule) m) (below_of table m) (lower_said words table m) (outer_form p) (outers_are_quiet p) (outer_signs p t ++ rest) t d.0 rest d.1 in (
      d.0,
      subst (λ z. Spells (table_heads table) (positive m) (below_of table m) (carried (outer_form p)) (map (spoken words) (outer_signs p t) ++ rest) t d.0 z) s
          (subst (λ z. Spells (table_heads table) (positive m) (below_of table m) (carried (outer_form p)) z t d.0 (map (spoken words) rest)) (said_append words table (outer_signs p t) rest s) up),
    )
