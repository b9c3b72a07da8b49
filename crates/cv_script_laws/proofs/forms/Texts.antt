-- The phrases of files in a script, whatever its names are: a term or a cell is a node.
use Rattle.std.proofs.Common.{◌≡◌, ℕ, zero, suc, Bool, true, false, List, Option, Some, None, inl, inr, refl}
use Rattle.cv_syntax_trees.proofs.lists.Each.{AllByRecursion_always, AllByRecursion_weaker}
use Rattle.cv_syntax_trees.specs.Tree.{Tree, Empty, Node}
use Rattle.cv_parse_notation.specs.declared.sign.Sign.{Sign}
use Rattle.cv_parse_notation.specs.Form.{Form, sign, script_word, word, number, nought, find_word, unnamed, other, note, both, may, many, either, made, level, deeper}
use Rattle.cv_parse_notation.specs.Spells.{IsSort}
use Rattle.cv_parse_notation.specs.Whole.{SpellsWith}
use Rattle.cv_parse_grammar.specs.Files.{levels}
use Rattle.cv_parse_grammar.specs.Names.{Uses}
use Rattle.cv_parse_grammar.specs.Marks.{marked_rule}
use Rattle.cv_parse_grammar.specs.Phrases.{Sort}
use Rattle.cv_parse_grammar.specs.declared.role.Role.{Role}
use Rattle.cv_parse_grammar.specs.yields.Yields.{IfThere, Yields}
use Rattle.cv_parse_grammar.proofs.yields.Yielding.{forms_tell, if_there}
use Rattle.cv_script_laws.proofs.forms.Fitting.{deep_rule}
use Rattle.cv_script_laws.proofs.forms.NodeRows.{NodeOfSort, of_a_cell, of_a_term, rows as node_rows}
use Rattle.cv_parse_tables.specs.declared.piece.Outer.{Outer}
use Rattle.cv_parse_tables.specs.declared.piece.Outer.TheVariants as outer
use Rattle.cv_parse_tables.specs.Table.{Nowhere, OfFiles, Row, TableSort, carried, outer_form, table_heads}
use Rattle.cv_print_bytes.specs.terminals.Written.{has_items}
use Rattle.cv_script.specs.rows.Rows.{script_rows}
use Rattle.cv_script.specs.Views.{tree_in}

-- a phrase of files is made in a table of what it is made of in files
pub uncarried : (W : Role → ℕ → Type 0) (P : TableSort → Tree → Type 0) {A : Type 0} (f : Form Role Sort A) (a : A) → Yields W P (carried f) a → Yields W (λ s. P (OfFiles s)) f a
uncarried W P (sign m) a y = tt
uncarried W P (script_word w) a y = tt
uncarried W P (word r) a y = y
uncarried W P number a y = tt
uncarried W P nought a y = tt
uncarried W P find_word a y = tt
uncarried W P (unnamed r) a y = y
uncarried W P other a y = tt
uncarried W P (note r) a y = tt
uncarried W P (both f g) a y = (uncarried W P f a.0 y.0, uncarried W P g a.1 y.1)
uncarried W P (may near f) a y = if_there (Yields W P (carried f)) (Yields W (λ s. P (OfFiles s)) f) (uncarried W P f) a y
uncarried W P (many near f) a y = AllByRecursion_weaker (Yields W P (carried f)) (Yields W (λ s. P (OfFiles s)) f) (uncarried W P f) a y
uncarried W P (either f g) a y = elim y as (λ _. Yields W (λ s. P (OfFiles s)) (either f g) a) [ inl e ↦ inl (uncarried W P f a e) | inr e ↦ inr (uncarried W P g a e) ]
uncarried W P (made v f) a y = (y.0, uncarried W P f y.0 y.1, y.2)
uncarried W P (level f) a y = uncarried W P f a y
uncarried W P (deeper s) a y = y

-- nothing is asked of names
abbrev Any : Role → ℕ → Type 0
Any r x = Unit {0}

abbrev Shape : TableSort → Tree → Type 0
Shape (Row r) t = Unit {0}
Shape (OfFiles s) t = NodeOfSort s t
Shape Nowhere t = Unit {0}

shapes : (s : TableSort) (t : Tree) → Yields Any Shape (deep_rule s) t → Shape s t
shapes (Row r) t y = tt
shapes (OfFiles s) t y = node_rows Any s t (uncarried Any Shape (marked_rule s) t y)
shapes Nowhere t y = tt

-- a term or a cell is a node
abbrev pub IsNode : Outer → Tree → Type 0
IsNode outer.Terms t = Unit {0}
IsNode outer.InnerSubscript t = Unit {0}
IsNode p t = tree_in t ≡ Some t

is_there : (t : Tree) → has_items t ≡ true → tree_in t ≡ Some t
is_there Empty e = absurd (cc)
is_there (Node h a b) e = refl

are_nodes : (p : Outer) (t : Tree) → Yields Any NodeOfSort (outer_form p) t → IsNode p t
are_nodes outer.Term t y = is_there t (of_a_term Any t y)
are_nodes outer.Terms t y = tt
are_nodes outer.InnerTerm t y = is_there t y
are_nodes outer.InnerSubscript t y = tt
are_nodes outer.Cell t y = is_there t (of_a_cell Any t y)
are_nodes outer.InnerCell t y = is_there t y

pub text_is_node : (p : Outer) (ts : List Sign) (t : Tree) (us : Uses) (rest : List Sign) → SpellsWith (table_heads script_rows) deep_rule (carried (outer_form p)) levels ts t us rest → IsNode p t
text_is_node p ts t us rest d =
    are_nodes p t (uncarried Any Shape (outer_form p) t (forms_tell Any Shape (table_heads script_rows) deep_rule shapes (carried (outer_form p)) levels ts t us rest d
    (AllByRecursion_always (λ u. Any u.role u.name) (λ u. tt) us)))

-- nothing is spelled nowhere
pub nowhere : (n : ℕ) (ts : List Sign) (t : Tree) (us : Uses) (rest : List Sign) → IsSort (table_heads script_rows) deep_rule n Nowhere ts t us rest → ⊥
unfolding IsSort
nowhere zero ts t us rest d = d
nowhere (suc n) ts t us rest d = nowhere n ts t us rest d
