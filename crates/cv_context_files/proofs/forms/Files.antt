-- So are the equivalences of a file that is read.
use Rattle.std.proofs.Common.{◌≡◌, ℕ, List, [], ◌∷◌, Option, Ok, refl, sym, subst}
use Rattle.std.specs.List.{AllByRecursion}
use Rattle.cv_syntax_trees.specs.Declarations.{Declaration, Named, Equation, Equiv, Query}
use Rattle.cv_syntax_trees.specs.Tree.{Tree}
use Rattle.cv_parse_notation.specs.declared.sign.Sign.{Sign}
use Rattle.cv_parse_grammar.specs.Files.{levels}
use Rattle.cv_parse_grammar.specs.Rules.{File, file, heads, rule}
use Rattle.cv_parse_grammar.specs.Whole.{IsRead}
use Rattle.cv_parse.specs.Parsed.{Parsed, bool_type, parsed}
use Rattle.cv_parse.proofs.Exactness.{said_is_saying}
use Rattle.cv_parse_grammar.proofs.yields.Naming.{all_used}
use Rattle.cv_parse_grammar.proofs.yields.Yielding.{forms_tell}
use Rattle.cv_group_rules.specs.Faults.{equivalences_in}
use Rattle.cv_match_laws.specs.functions.Forms.{HasLeftForm}
use Rattle.cv_context_files.proofs.forms.Rows.{HaveLeftForms, IsNamed, OfSort, all_rows, of_file}

equivalences : (ds : List Declaration) → HaveLeftForms ds → AllByRecursion HasLeftForm (equivalences_in ds)
unfolding equivalences_in
equivalences [] w = tt
equivalences (Named x c a r ∷ ds) w = equivalences ds w.1
equivalences (Equation t ∷ ds) w = equivalences ds w.1
equivalences (Equiv x t ∷ ds) w = (w.0, equivalences ds w.1)
equivalences (Query t ∷ ds) w = equivalences ds w.1

read_forms : (ts : List Sign) (ds : List Declaration) (s : Option (ℕ × ℕ)) (g : Tree) → IsRead ts ds s g → HaveLeftForms ds
read_forms ts ds s g w =
    let f : File = record { decls = ds; script = s; game = w.text } in
    of_file.gives f (forms_tell IsNamed OfSort heads rule all_rows file levels ts f w.uses [] w.spelled (all_used (λ u. IsNamed u.role u.name) w.uses (λ before u behind e b. refl)))

pub left_forms : (limit : ℕ) (signs : List Sign) (p : Parsed) → parsed limit signs ≡ Ok p → AllByRecursion HasLeftForm (equivalences_in p.declarations)
left_forms limit signs p e =
    let w = said_is_saying limit signs p e in
    subst (λ ds. AllByRecursion HasLeftForm (equivalences_in ds)) (sym w.declared) (equivalences (bool_type ∷ w.decls) (tt, read_forms signs w.decls w.script p.game w.read))
