-- So are the equivalences of a file that is read: no right side binds a constant.
use Rattle.std.proofs.Common.{◌≡◌, ℕ, Bool, List, [], ◌∷◌, Option, Ok, sym, subst}
use Rattle.std.specs.List.{AllByRecursion}
use Rattle.cv_syntax_trees.specs.Declarations.{Declaration, Named, Equation, Equiv, Query}
use Rattle.cv_syntax_trees.specs.Tree.{Tree, second}
use Rattle.cv_meaning.specs.Interpretation.{is_constant_of}
use Rattle.cv_parse_notation.specs.declared.sign.Sign.{Sign}
use Rattle.cv_parse_grammar.specs.Files.{levels}
use Rattle.cv_parse_grammar.specs.Rules.{File, file, heads, rule}
use Rattle.cv_parse_grammar.specs.Whole.{IsRead}
use Rattle.cv_parse.specs.Parsed.{Parsed, bool_type, parsed}
use Rattle.cv_parse.proofs.Exactness.{said_is_saying}
use Rattle.cv_parse_grammar.proofs.yields.Yielding.{forms_tell}
use Rattle.cv_group_rules.specs.Faults.{equivalences_in}
use Rattle.cv_context_files.specs.right_names.Bindings.{HasFreeNames}
use Rattle.cv_context_files.proofs.right_names.Bodies.{IsNamed, OfSort, all_rows}
use Rattle.cv_context_files.proofs.right_names.Rows.{HaveFreeSides, of_file}
use Rattle.cv_parse_laws.proofs.Games.{constants_free}

equivalences : (barred : ℕ → Bool) (ds : List Declaration) → HaveFreeSides barred ds → AllByRecursion (λ e. HasFreeNames barred (second e)) (equivalences_in ds)
unfolding equivalences_in
equivalences barred [] w = tt
equivalences barred (Named x c a r ∷ ds) w = equivalences barred ds w.1
equivalences barred (Equation t ∷ ds) w = equivalences barred ds w.1
equivalences barred (Equiv x t ∷ ds) w = (w.0, equivalences barred ds w.1)
equivalences barred (Query t ∷ ds) w = equivalences barred ds w.1

read_sides : (ts : List Sign) (ds : List Declaration) (s : Option (ℕ × ℕ)) (g : Tree) → IsRead ts ds s g → HaveFreeSides (is_constant_of ds) ds
read_sides ts ds s g w =
    let barred = is_constant_of ds in
    let f : File = record { decls = ds; script = s; game = w.text } in
    (of_file barred).gives f (forms_tell (IsNamed barred) (OfSort barred) heads rule (all_rows barred) file levels ts f w.uses [] w.spelled (constants_free ts ds s g w))

pub free_sides : (limit : ℕ) (signs : List Sign) (p : Parsed) → parsed limit signs ≡ Ok p → AllByRecursion (λ e. HasFreeNames (is_constant_of p.declarations) (second e)) (equivalences_in p.declarations)
free_sides limit signs p e =
    let w = said_is_saying limit signs p e in
    subst (λ ds. AllByRecursion (λ e. HasFreeNames (is_constant_of ds) (second e)) (equivalences_in ds)) (sym w.declared)
    (equivalences (is_constant_of w.decls) (bool_type ∷ w.decls) (tt, read_sides signs w.decls w.script p.game w.read))
