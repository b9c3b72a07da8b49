-- What good tokens spell by a row of the table of scripts, one level down and at the top, are known trees of the table.
use Rattle.std.proofs.Common.{◌≡◌, ℕ, zero, suc, Bool, true, false, ◌&&◌, ◌||◌, nat_lt, ◌⊎◌, inl, inr, List, eqb, eqb-true, refl, subst}
use Rattle.cv_syntax_trees.proofs.lists.Tests.{and_first, and_second, or_cases}
use Rattle.cv_syntax_trees.specs.Tree.{Tree}
use Rattle.cv_parse_notation.specs.declared.sign.Sign.{Sign}
use Rattle.cv_parse_notation.specs.Form.{Form, both, either, made, level, deeper}
use Rattle.cv_parse_notation.specs.Spells.{IsSort, Kind, Spells, no_sort}
use Rattle.cv_parse_notation.specs.Whole.{SpellsWith}
use Rattle.cv_parse_grammar.specs.Names.{Uses}
use Rattle.cv_script_laws.proofs.forms.Fitting.{deep_rule, line_row, when_deep}
use Rattle.cv_parse_tables.specs.Table.{Row, row_phrase, table_heads, table_rule}
use Rattle.cv_print_scripts.specs.steps.Trees.{IsTree, Makes}
use Rattle.cv_script.specs.rows.Rows.{script_rows}
use Rattle.cv_script_laws.proofs.forms.Made.{RowMade, of_row}
use Rattle.cv_script_laws.proofs.forms.Texts.{nowhere}
use Rattle.cv_script_laws.proofs.printing.Files.{AreGood, IsGood, IsText, text_is_known}
use Rattle.cv_script_laws.proofs.printing.Trees.{BelowIs, IsKnown, NameIs, NumberIs, script_tree, single_known}

-- without a level left nothing spells a phrase of the form
abbrev needs_room : {R σ A : Type 0} → Form R σ A → Bool
needs_room (both f g) = needs_room f || needs_room g
needs_room (either f g) = needs_room f && needs_room g
needs_room (made v f) = needs_room f
needs_room (level f) = true
needs_room (deeper s) = true
needs_room f = false

no_room : {R σ A : Type 0} (h : σ → Kind → Bool) (f : Form R σ A) → needs_room f ≡ true → (ts : List Sign) (a : A) (us : _) (rest : List Sign) → Spells h false no_sort f ts a us rest → ⊥
no_room h (both f g) e ts a us rest d = elim (or_cases (needs_room f) (needs_room g) e) [ inl p ↦ no_room h f p ts a.0 d.front d.mid d.first | inr p ↦ no_room h g p d.mid a.1 d.back rest d.second ]
no_room h (either f g) e ts a us rest d = elim d [ inl p ↦ no_room h f (and_first (needs_room f) (needs_room g) e) ts a us rest p | inr p ↦ no_room h g (and_second (needs_room f) (needs_room g) e) ts a us rest p.1 ]
no_room h (made v f) e ts a us rest d = no_room h f e ts d.0 us rest d.1
no_room h (level f) e ts a us rest d = let r : false ≡ true = d.0 in cc
no_room h (deeper s) e ts a us rest d = d
no_room h f e ts a us rest d = absurd (cc)

line_needs_room : needs_room (table_rule script_rows (Row 75)) ≡ true
line_needs_room = refl

module _ (count : ℕ) (some : nat_lt 0 count ≡ true) where
  -- known trees of the table, one level down with n levels
  abbrev pub IsKnownTree : ℕ → ℕ → Tree → Type 0
  IsKnownTree n r t = IsTree script_rows n r t × IsKnown count some t

  -- what is made of a row above such trees
  abbrev pub MadeOver : ℕ → ℕ → ℕ → Makes
  MadeOver n k r l = RowMade (NameIs count some) (NumberIs count some) (IsText count some) (BelowIs count some (IsTree script_rows n)) script_rows k r l

  -- the trees of a row with n levels and one, where those below are such
  made_over : (n : ℕ) → ((r : ℕ) (ts : List Sign) (t : Tree) (us : Uses) (rest : List Sign) → IsSort (table_heads script_rows) deep_rule n (Row r) ts t us rest → AreGood count ts → IsKnownTree n r t × AreGood count rest) → (r : ℕ) (ts : List Sign) (l : List Tree) (us : Uses) (rest : List Sign) → SpellsWith (table_heads script_rows) deep_rule (row_phrase script_rows r) n ts l us rest → AreGood count ts → MadeOver n 159 r l × AreGood count rest
  made_over n low r ts l us rest d w = of_row (NameIs count some) (NumberIs count some) (IsText count some) (BelowIs count some (IsTree script_rows n)) (IsGood count) (table_heads script_rows) true (IsSort (table_heads script_rows) deep_rule n) (λ x s g. g) (λ v g. g.1) (text_is_known count some n) low (nowhere n) script_rows 159 r ts l us rest d w

  pub line_is_tree : (n r : ℕ) (ts : List Sign) (t : Tree) (us : Uses) (rest : List Sign) → IsSort (table_heads script_rows) deep_rule n (Row r) ts t us rest → AreGood count ts → IsKnownTree n r t × AreGood count rest
  unfolding IsSort
  line_is_tree zero r ts t us rest d w = by_test (eqb r line_row) refl d where
    by_test : (b : Bool) → eqb r line_row ≡ b → Spells (table_heads script_rows) false no_sort (when_deep b (Row r)) ts t us rest → IsKnownTree zero r t × AreGood count rest
    by_test true e d = absurd (no_room (table_heads script_rows) (table_rule script_rows (Row 75)) line_needs_room ts t us rest (subst (λ k. Spells (table_heads script_rows) false no_sort (table_rule script_rows (Row k)) ts t us rest) (eqb-true r line_row e) d))
    by_test false e d = absurd d
  line_is_tree (suc n) r ts t us rest d w = by_test (eqb r line_row) d (line_is_tree n) where
    by_test : (b : Bool) → Spells (table_heads script_rows) true (IsSort (table_heads script_rows) deep_rule n) (when_deep b (Row r)) ts t us rest → ((r : ℕ) (ts : List Sign) (t : Tree) (us : Uses) (rest : List Sign) → IsSort (table_heads script_rows) deep_rule n (Row r) ts t us rest → AreGood count ts → IsKnownTree n r t × AreGood count rest) → IsKnownTree (suc n) r t × AreGood count rest
    by_test true d low =
        let x = made_over n low r ts d.0 us rest d.1 w in
        let y = script_tree count some n r d.0 x.0 in
        (subst (IsKnownTree (suc n) r) d.2 (y.0, single_known count some d.0 y.1), x.1)
    by_test false d low = absurd (nowhere n ts t us rest d)

  -- what is made of a row, with n levels and one
  pub row_is_made : (n r : ℕ) (ts : List Sign) (l : List Tree) (us : Uses) (rest : List Sign) → SpellsWith (table_heads script_rows) deep_rule (row_phrase script_rows r) n ts l us rest → AreGood count ts → MadeOver n 159 r l
  row_is_made n r ts l us rest d w = (made_over n (line_is_tree n) r ts l us rest d w).0
