-- So are the right functions of a typed file.
use Rattle.std.proofs.Common.{◌≡◌, ℕ, true, List, [], ◌∷◌, ◌++◌, flat_map, Ok}
use Rattle.std.specs.List.{AllByRecursion}
use Rattle.cv_syntax_trees.specs.Declarations.{Declaration, Named, Equation, Equiv, Query}
use Rattle.cv_syntax_trees.specs.Tree.{Tree, first, second}
use Rattle.cv_parse_notation.specs.declared.sign.Sign.{Sign}
use Rattle.cv_parse.specs.Parsed.{Parsed, parsed}
use Rattle.cv_meaning.specs.contexts.Groups.{Function, Right, side_group}
use Rattle.cv_scope_rules.specs.typing.Parts.{AreTyped, IsTypedFile, Part, body_parts, declaration_parts, equivalence_parts, game_part, side_arrays, sort_by_bound}
use Rattle.cv_group_rules.specs.Faults.{equivalences_in}
use Rattle.cv_group_rules.specs.Rules.{branches_have_one_index}
use Rattle.cv_inline_names_laws.specs.cells.Layout.{IsRightFunction}
use Rattle.cv_context_files.specs.right_forms.Forms.{HasRightForm, IsWrittenFunction}
use Rattle.cv_context_files.proofs.right_forms.Files.{right_forms}
use Rattle.cv_context_files.proofs.right_forms.Types.{HasOneType, functions_typed}

-- parts of lists of parts

pub front_typed : (ds : List Declaration) (xs ys : List Part) → AreTyped ds (xs ++ ys) → AreTyped ds xs
unfolding AreTyped
front_typed ds [] ys k = tt
front_typed ds (x ∷ xs) ys k = (k.0, front_typed ds xs ys k.1)

pub back_typed : (ds : List Declaration) (xs ys : List Part) → AreTyped ds (xs ++ ys) → AreTyped ds ys
unfolding AreTyped
back_typed ds [] ys k = k
back_typed ds (x ∷ xs) ys k = back_typed ds xs ys k.1

abbrev HasTypedFunctions : Tree → Type 0
HasTypedFunctions t = AllByRecursion HasOneType (side_group Right t).functions

equivalence_typed : (ds : List Declaration) (t : Tree) → AreTyped ds (equivalence_parts ds t) → HasTypedFunctions t
equivalence_typed ds t k =
    functions_typed ds (sort_by_bound (second (second t))) (first (second t)) _ (second (second t))
    (back_typed ds (body_parts (side_arrays (first t)) (first (first t)) [] (second (first t))) _ k)

equivalences_typed : (ds es : List Declaration) → AreTyped ds (flat_map (declaration_parts ds) es) → AllByRecursion HasTypedFunctions (equivalences_in es)
unfolding AreTyped equivalences_in
equivalences_typed ds [] k = tt
equivalences_typed ds (Named x c a r ∷ es) k = equivalences_typed ds es k
equivalences_typed ds (Equation t ∷ es) k = equivalences_typed ds es k.1
equivalences_typed ds (Equiv x t ∷ es) k =
    let rest = flat_map (declaration_parts ds) es in
    (equivalence_typed ds t (front_typed ds (equivalence_parts ds t) rest k), equivalences_typed ds es (back_typed ds (equivalence_parts ds t) rest k))
equivalences_typed ds (Query t ∷ es) k = equivalences_typed ds es k.1

-- with what the grammar gives

abbrev IfOneIndex : Tree → Type 0
IfOneIndex t = branches_have_one_index t ≡ true → AllByRecursion IsRightFunction (side_group Right t).functions

right_functions : (fs : List Function) → AllByRecursion IsWrittenFunction fs → AllByRecursion HasOneType fs → AllByRecursion IsRightFunction fs
right_functions [] v w = tt
right_functions (f ∷ fs) v w = (record { coins = v.0.coins; body = v.0.body; typed = w.0 }, right_functions fs v.1 w.1)

all_right : (ts : List Tree) → AllByRecursion (λ t. branches_have_one_index t ≡ true → HasRightForm t) ts → AllByRecursion HasTypedFunctions ts → AllByRecursion IfOneIndex ts
all_right [] v w = tt
all_right (t ∷ ts) v w = ((λ o. right_functions (side_group Right t).functions (v.0 o).functions w.0), all_right ts v.1 w.1)

pub right : (limit : ℕ) (signs : List Sign) (p : Parsed) → parsed limit signs ≡ Ok p → IsTypedFile p.declarations p.game → AllByRecursion IfOneIndex (equivalences_in p.declarations)
right limit signs p e k =
    all_right (equivalences_in p.declarations) (right_forms limit signs p e)
    (equivalences_typed p.declarations p.declarations (front_typed p.declarations (flat_map (declaration_parts p.declarations) p.declarations) (game_part p.game ∷ []) k))
