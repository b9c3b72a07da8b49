-- A step with its semicolon is the script of this one step.
use Rattle.std.proofs.Common.{◌≡◌, ℕ, zero, suc, Bool, false, List, [], ◌∷◌, ◌++◌, None, Some, refl, ap, sym, ◌∙◌, subst}
use Rattle.std.proofs.lemmas.List.{append-nil}
use Rattle.cv_parse_notation.specs.declared.sign.Mark.TheVariants as mark
use Rattle.cv_parse_notation.specs.declared.sign.Sign.{Sign}
use Rattle.cv_parse_notation.specs.declared.sign.Sign.TheVariants as token
use Rattle.cv_parse_notation.specs.Form.{both, made, sign}
use Rattle.cv_parse_notation.specs.Spells.{IsSort, Kind, Relation, Spells}
use Rattle.cv_parse_grammar.specs.declared.role.Role.{Role}
use Rattle.cv_parse_grammar.specs.Names.{Uses}
use Rattle.cv_parse_terms.specs.Gives.{positive}
use Rattle.cv_parse_tables.specs.Table.{Nowhere, Row, Table, TableSort, TreesForm, blank, form, many_form, one_of, row_phrase, table_heads, table_rule}
use Rattle.cv_parse_tables.specs.Trees.{both_of}
use Rattle.cv_print_scripts.proofs.steps.Outer.{below_of}
use Rattle.cv_script.specs.rows.Rows.{script_row, script_rows, step_row}
use Rattle.cv_syntax_trees.specs.Tree.{Tree, chain}

-- the rows of steps of a form: of one, of one with its semicolon, of a list of these, and of the chain

abbrev before : TreesForm → TreesForm → TreesForm
before f g = made both_of (both f g)

abbrev step_form : TreesForm → TreesForm
step_form f = before f blank

abbrev item_form : TreesForm → TreesForm
item_form f = before f (before (made (λ _. []) (sign mark.Semicolon)) blank)

abbrev steps_form : TreesForm → TreesForm
steps_form f = before (many_form false (item_form f)) blank

abbrev script_form : TreesForm → TreesForm
script_form f = before (made (λ ts. chain ts ∷ []) (steps_form f)) blank

abbrev semicolon : Sign
semicolon = token.Mark mark.Semicolon

module _ (h : TableSort → Kind → Bool) (room : Bool) (B : TableSort → Relation Role Tree) where
  abbrev Are : TreesForm → List Sign → List Tree → Uses → List Sign → Type 0
  Are f ss ts us rest = Spells h room B f ss ts us rest

  with_blank : (f : TreesForm) (ss : List Sign) (ts : List Tree) (us : Uses) (rest : List Sign) → Are f ss ts us rest → Are (step_form f) ss ts us rest
  with_blank f ss ts us rest d = (
    (ts, []),
    record { mid = rest; front = us; back = []; first = d; second = (None, (record { tokens = refl; uses = refl }, λ e. absurd (cc)), refl); uses = sym (append-nil us) },
    append-nil ts,
  )

  module _ (nowhere : (ss : List Sign) (t : Tree) (us : Uses) (rest : List Sign) → B Nowhere ss t us rest → ⊥) where
    no_blank : (ss : List Sign) (ts : List Tree) (us : Uses) (rest : List Sign) → Are blank ss ts us rest → (ss ≡ rest) × (us ≡ []) × ([] ≡ ts)
    no_blank ss ts us rest (None, d, e) = (d.0.tokens, d.0.uses, e)
    no_blank ss ts us rest (Some x, d, e) = absurd (nowhere ss d.0 us rest d.1)

    ended : (ss rest : List Sign) → ss ≡ semicolon ∷ rest → Are (before (made (λ _. []) (sign mark.Semicolon)) blank) ss [] [] rest
    ended ss rest e = with_blank (made (λ _. []) (sign mark.Semicolon)) ss [] [] rest (tt, record { tokens = e; uses = refl }, refl)

    item : (f : TreesForm) (ss : List Sign) (ts : List Tree) (us : Uses) (rest : List Sign) → Are (step_form f) ss ts us (semicolon ∷ rest) → Are (item_form f) ss ts us rest
    item f ss ts us rest d =
        let p = d.1 in
        let q = no_blank p.mid d.0.1 p.back (semicolon ∷ rest) p.second in (
          (d.0.0, []),
          record { mid = p.mid; front = p.front; back = []; first = p.first; second = ended p.mid rest q.0; uses = p.uses ∙ ap (λ l. p.front ++ l) q.1 },
          ap (λ l. d.0.0 ++ l) q.2 ∙ d.2,
        )

    only_item : (f : TreesForm) (ss : List Sign) (ts : List Tree) (us : Uses) (rest : List Sign) → Are f ss ts us rest → Are (many_form false f) ss ts us rest
    only_item f ss ts us rest d = (
      ts ∷ [],
      record { mid = rest; front = us; back = []; first = d; second = (record { tokens = refl; uses = refl }, λ e. absurd (cc)); uses = sym (append-nil us) },
      append-nil ts,
    )

    pub one_step : (f : TreesForm) (ss : List Sign) (ts : List Tree) (us : Uses) (rest : List Sign) → Are (step_form f) ss ts us (semicolon ∷ rest) → Are (script_form f) ss (chain ts ∷ []) us rest
    one_step f ss ts us rest d =
        let many = only_item (item_form f) ss ts us rest (item f ss ts us rest d) in
        with_blank (made (λ ts. chain ts ∷ []) (steps_form f)) ss (chain ts ∷ []) us rest (ts, with_blank (many_form false (item_form f)) ss ts us rest many, refl)

-- the table's rows

abbrev of_steps : TreesForm
of_steps = one_of (form script_rows step_row) 136 19

step_is : row_phrase script_rows step_row ≡ step_form of_steps
step_is = refl

script_is : script_form of_steps ≡ row_phrase script_rows script_row
script_is = refl

sort_nowhere : (table : Table) (n : ℕ) (ss : List Sign) (t : Tree) (us : Uses) (rest : List Sign) → IsSort (table_heads table) (table_rule table) n Nowhere ss t us rest → ⊥
unfolding IsSort
sort_nowhere table zero ss t us rest d = d
sort_nowhere table (suc n) ss t us rest d = sort_nowhere table n ss t us rest d

is_nowhere : (table : Table) (m : ℕ) (ss : List Sign) (t : Tree) (us : Uses) (rest : List Sign) → below_of table m Nowhere ss t us rest → ⊥
is_nowhere table zero ss t us rest d = d
is_nowhere table (suc n) ss t us rest d = sort_nowhere table n ss t us rest d

row_sort : (table : Table) (r m : ℕ) (ss : List Sign) (t : Tree) (us : Uses) (rest : List Sign) → Spells (table_heads table) (positive m) (below_of table m) (row_phrase table r) ss (t ∷ []) us rest → IsSort (table_heads table) (table_rule table) m (Row r) ss t us rest
unfolding IsSort
row_sort table r zero ss t us rest d = (t ∷ [], d, refl)
row_sort table r (suc m) ss t us rest d = (t ∷ [], d, refl)

-- the one tree of a step, with its semicolon
pub script_of_step : (m : ℕ) (ss : List Sign) (t : Tree) (us : Uses) (rest : List Sign) → Spells (table_heads script_rows) (positive m) (below_of script_rows m) (row_phrase script_rows step_row) ss (t ∷ []) us (semicolon ∷ rest) → IsSort (table_heads script_rows) (table_rule script_rows) m (Row script_row) ss (chain (t ∷ [])) us rest
script_of_step m ss t us rest d =
    let h = table_heads script_rows in
    let step = subst (λ f. Spells h (positive m) (below_of script_rows m) f ss (t ∷ []) us (semicolon ∷ rest)) step_is d in
    let script = one_step h (positive m) (below_of script_rows m) (is_nowhere script_rows m) of_steps ss (t ∷ []) us rest step in
    row_sort script_rows script_row m ss (chain (t ∷ [])) us rest (subst (λ f. Spells h (positive m) (below_of script_rows m) f ss (chain (t ∷ []) ∷ []) us rest) script_is script)
