-- The rows of right sides make right bodies and right functions, as soon as each branch has one index.
use Rattle.std.proofs.Common.{◌≡◌, ℕ, Bool, true, false, ◌&&◌, List, [], ◌∷◌, Option, Some, None, refl}
use Rattle.std.proofs.lemmas.Bool.{and_from, and_parts, both_ways}
use Rattle.std.specs.List.{AllByRecursion}
use Rattle.cv_syntax_trees.specs.declared.head.Head.TheVariants.{Binder, Branch, Cons}
use Rattle.cv_syntax_trees.specs.Tree.{Tree, Empty, Node, chain, first, second}
use Rattle.cv_meaning.specs.Correspondences.{typed_names}
use Rattle.cv_meaning.specs.contexts.Groups.{functions_of, group_of}
use Rattle.cv_parse_notation.specs.Form.{Form}
use Rattle.cv_parse_grammar.specs.declared.role.Role.{Role}
use Rattle.cv_parse_grammar.specs.declared.role.Role.TheVariants.{BindsLocal}
use Rattle.cv_parse_grammar.specs.Equivalences.{arguments_and_body, body, body_branch, body_find, body_test, functions, group, new_before, right_function, right_rest}
use Rattle.cv_parse_grammar.specs.Phrases.{Sort, or_else}
use Rattle.cv_parse_grammar.specs.Phrases as sort
use Rattle.cv_parse_grammar.specs.Processes.{find_in, let_in, new_in}
use Rattle.cv_parse_grammar.specs.Rules.{rule}
use Rattle.cv_parse_grammar.specs.Terms.{condition, term, yes}
use Rattle.cv_parse_laws.specs.Shapes.{IsFree, IsOfSort, IsShaped}
use Rattle.cv_parse_grammar.specs.yields.Yields.{IfThere, Yields}
use Rattle.cv_parse_laws.proofs.Rows.{rows}
use Rattle.cv_parse_grammar.proofs.yields.Yielding.{Gives, anything, before, behind, below, follow, leveled, one_of, perhaps, several, turned, weaker}
use Rattle.cv_scope_rules.specs.Phrases.{Term, is_phrase}
use Rattle.cv_group_rules.specs.Rules.{have_one_index}
use Rattle.cv_inline_names_laws.specs.accepted.RightBodies.{are_body_cells, are_right_branches, are_right_functions, is_body_term, is_empty, is_right_body, is_right_side}
use Rattle.cv_inline_names_laws.specs.cells.Layout.{are_right_texts, is_right_text, is_term}
use Rattle.cv_context_files.specs.right_forms.Forms.{IsWrittenFunction}
use Rattle.cv_context_files.proofs.right_forms.Terms.{AreCells, IsTerm, cells_are, term_body, term_is}

-- no name is barred
abbrev pub nothing : ℕ → Bool
nothing x = false

abbrev pub IsNamed : Role → ℕ → Type 0
IsNamed = IsFree nothing

-- what trees are as soon as their branches have one index

abbrev IsBody : Tree → Type 0
IsBody t = have_one_index t ≡ true → (is_right_body t ≡ true) × (is_right_text t ≡ true)

abbrev AreBranches : Tree → Type 0
AreBranches t = (are_right_branches t ≡ true) × (are_right_texts t ≡ true)

abbrev IsBranch : Tree → Type 0
IsBranch t = have_one_index t ≡ true → (more : Tree) → AreBranches more → AreBranches (Node Cons t more)

abbrev IsFunction : Tree → Type 0
IsFunction f = (is_empty (first (first f)) ≡ true) × IsBody (second f)

abbrev pub OfSort : Sort → Tree → Type 0
OfSort sort.Body t = IsBody t
OfSort sort.BodyBranch t = IsBranch t
OfSort sort.RightFunction t = IsFunction t
OfSort sort.RightRest t = IsBody (second t)
OfSort s t = IsOfSort nothing s t

abbrev pub Makes : {A : Type 0} → Form Role Sort A → (A → Type 0) → Type 0
Makes f Q = Gives IsNamed OfSort f Q

-- bodies

pub of_term : Makes term (λ t. is_phrase Term t ≡ true)
of_term = record { gives = λ t y. (rows nothing sort.Term t y).phrase }

of_new : Makes (new_in BindsLocal sort.Body) IsBody
unfolding have_one_index is_right_body is_right_text
of_new = leveled (turned (behind (follow anything (behind below))) (λ x w o. w.1 o))

of_let : Makes (let_in BindsLocal sort.Body) IsBody
unfolding have_one_index is_right_body is_right_text
of_let = leveled (turned (behind (follow anything (behind (follow below (behind below))))) (λ x w o. defined x.1.0 x.1.1 w.1.0 w.1.1 o))
  where
    defined : (m t : Tree) → IsShaped nothing Term m → IsBody t → (have_one_index m && have_one_index t) ≡ true → ((is_body_term m && is_right_body t) ≡ true) × ((is_term m && is_right_text t) ≡ true)
    defined m t v w o =
        let b = w (and_parts (have_one_index m) (have_one_index t) o).1 in
        let e = term_is m v.phrase in
        (and_from (is_body_term m) (is_right_body t) e.0 b.0, and_from (is_term m) (is_right_text t) e.1 b.1)

of_test : Makes body_test IsBody
unfolding have_one_index is_right_body is_right_text
of_test = leveled (turned (behind (follow below (behind (follow below (behind below))))) (λ x w o. tested x.0 x.1.0 x.1.1 w.0 w.1.0 w.1.1 o))
  where
    tested :
        (c t e : Tree) → IsShaped nothing Term c → IsBody t → IsBody e → (have_one_index c && (have_one_index t && (have_one_index e && true))) ≡ true
        → ((is_body_term c && (is_right_body t && is_right_body e)) ≡ true) × ((is_term c && (is_right_text t && is_right_text e)) ≡ true)
    tested c t e v w u o =
        let p = and_parts (have_one_index c) (have_one_index t && (have_one_index e && true)) o in
        let q = and_parts (have_one_index t) (have_one_index e && true) p.1 in
        let m = term_is c v.phrase in
        let a = w q.0 in
        let b = u (and_parts (have_one_index e) true q.1).0 in
        (and_from (is_body_term c) (is_right_body t && is_right_body e) m.0 (and_from (is_right_body t) (is_right_body e) a.0 b.0), and_from (is_term c) (is_right_text t && is_right_text e) m.1 (and_from (is_right_text t) (is_right_text e) a.1 b.1))

-- the branches of a `find`
branches : (l : List Tree) → AllByRecursion IsBranch l → have_one_index (chain l) ≡ true → AreBranches (chain l)
unfolding have_one_index are_right_branches are_right_texts
branches [] w o = (refl, refl)
branches (t ∷ l) w o = let p = and_parts (have_one_index t) (have_one_index (chain l)) o in w.0 p.0 (chain l) (branches l w.1 p.1)

of_branches : Makes (find_in sort.BodyBranch) (λ b. have_one_index b.1 ≡ true → AreBranches b.1)
of_branches = turned (follow anything (follow anything (follow below (several (behind below))))) (λ x w. branches (x.1.1.0 ∷ x.1.1.1) w.1.1)

of_find : Makes body_find IsBody
unfolding have_one_index is_right_body is_right_text
of_find = leveled (turned (follow of_branches (behind below)) (λ x w o. found x.0.1 x.1 w.0 w.1 o))
  where
    found :
        (bs t : Tree) → (have_one_index bs ≡ true → AreBranches bs) → IsBody t → (have_one_index bs && have_one_index t) ≡ true
        → ((are_right_branches bs && is_right_body t) ≡ true) × ((are_right_texts bs && is_right_text t) ≡ true)
    found bs t v w o =
        let p = and_parts (have_one_index bs) (have_one_index t) o in
        let a = v p.0 in
        let b = w p.1 in
        (and_from (are_right_branches bs) (is_right_body t) a.0 b.0, and_from (are_right_texts bs) (is_right_text t) a.1 b.1)

whole_term : Makes term IsBody
whole_term = record { gives = λ t y o. term_body t (of_term.gives t y) }

of_body : Makes body IsBody
of_body = one_of of_new (one_of of_let (one_of of_test (one_of of_find whole_term)))

-- branches

abbrev IsCondition : Tree × Tree → Type 0
IsCondition c = AreCells c.0 × IsTerm c.1

or_yes : (o : Option Tree) → IfThere (IsShaped nothing Term) o → IsTerm (or_else yes o)
unfolding is_body_term is_term
or_yes None w = (refl, refl)
or_yes (Some t) w = term_is t w.phrase

of_condition : Makes condition IsCondition
unfolding are_body_cells is_term
of_condition =
    one_of
    (behind (weaker (follow below (turned (perhaps (behind below)) or_yes)) (λ c w. (cells_are c.0 w.0.phrase, w.1))))
    (turned below (λ t w. ((refl, refl), term_is t w.phrase)))

branch_is : (l c m t : Tree) → AreCells c → IsTerm m → IsBody t → have_one_index (Node Branch l (Node Cons c (Node Cons m t))) ≡ true → (more : Tree) → AreBranches more → AreBranches (Node Cons (Node Branch l (Node Cons c (Node Cons m t))) more)
unfolding have_one_index are_right_branches are_right_texts
branch_is (Node (Binder u n) a Empty) c m t v w b o more k =
    let p = and_parts (have_one_index (Node (Binder u n) a Empty)) (have_one_index c && (have_one_index m && have_one_index t)) o in
    let q = and_parts (have_one_index c) (have_one_index m && have_one_index t) p.1 in
    let e = b (and_parts (have_one_index m) (have_one_index t) q.1).1 in (
      and_from (are_body_cells c) (is_body_term m && (is_right_body t && are_right_branches more)) v.0 (and_from (is_body_term m) (is_right_body t && are_right_branches more) w.0 (and_from (is_right_body t) (are_right_branches more) e.0 k.0)),
      and_from (is_term c) (is_term m && (is_right_text t && are_right_texts more)) v.1 (and_from (is_term m) (is_right_text t && are_right_texts more) w.1 (and_from (is_right_text t) (are_right_texts more) e.1 k.1)),
    )
branch_is l c m t v w b o more k = absurd (both_ways false refl o)

of_branch : Makes body_branch IsBranch
of_branch = leveled (turned (follow anything (behind (follow of_condition (behind below)))) (λ x w o more k. branch_is x.0 x.1.0.0 x.1.0.1 x.1.1 w.1.0.0 w.1.0.1 w.1.1 o more k))

-- functions

of_new_before : Makes new_before (λ t. IsBody (second t))
unfolding have_one_index is_right_body is_right_text
of_new_before = leveled (turned (behind (follow anything (behind below))) (λ x w o. w.1 o))

of_arguments_and_body : Makes arguments_and_body (λ t. IsBody (second t))
of_arguments_and_body = turned (follow anything (behind of_body)) (λ x w. w.1)

of_rest : Makes right_rest (λ t. IsBody (second t))
of_rest = one_of of_new_before of_arguments_and_body

of_function : Makes right_function IsFunction
of_function = turned (follow anything (behind (follow anything of_rest))) (λ x w. (refl, w.1.1))

pub all_rows : (s : Sort) (t : Tree) → Yields IsNamed OfSort (rule s) t → OfSort s t
all_rows sort.Term t y = rows nothing sort.Term t y
all_rows sort.Conjunction t y = rows nothing sort.Conjunction t y
all_rows sort.Primary t y = rows nothing sort.Primary t y
all_rows sort.Unequal t y = rows nothing sort.Unequal t y
all_rows sort.Arguments t y = rows nothing sort.Arguments t y
all_rows sort.Subscript t y = rows nothing sort.Subscript t y
all_rows sort.Parentheses t y = rows nothing sort.Parentheses t y
all_rows sort.Inputs t y = rows nothing sort.Inputs t y
all_rows sort.Input t y = rows nothing sort.Input t y
all_rows sort.Output t y = rows nothing sort.Output t y
all_rows sort.Pattern t y = rows nothing sort.Pattern t y
all_rows sort.Sending t y = rows nothing sort.Sending t y
all_rows sort.Payload t y = rows nothing sort.Payload t y
all_rows sort.Variables t y = rows nothing sort.Variables t y
all_rows sort.Indices t y = rows nothing sort.Indices t y
all_rows sort.ProcessBranch t y = rows nothing sort.ProcessBranch t y
all_rows sort.Cells t y = rows nothing sort.Cells t y
all_rows sort.OneCell t y = rows nothing sort.OneCell t y
all_rows sort.Body t y = of_body.gives t y
all_rows sort.BodyBranch t y = of_branch.gives t y
all_rows sort.RightFunction t y = of_function.gives t y
all_rows sort.RightRest t y = of_rest.gives t y
all_rows _ t y = tt

-- groups

abbrev AreWritten : Tree → Type 0
AreWritten fs = (are_right_functions fs ≡ true) × AllByRecursion IsWrittenFunction (functions_of fs)

no_coins : (t : Tree) → is_empty t ≡ true → typed_names t ≡ []
no_coins Empty e = refl
no_coins (Node h a b) e = absurd (both_ways false refl e)

body_one : (t : Tree) → have_one_index t ≡ true → have_one_index (second t) ≡ true
unfolding have_one_index
body_one Empty o = refl
body_one (Node h a b) o = (and_parts (have_one_index a) (have_one_index b) (and_parts _ (have_one_index a && have_one_index b) o).1).1

pub written : (l : List Tree) → AllByRecursion IsFunction l → have_one_index (chain l) ≡ true → AreWritten (chain l)
unfolding have_one_index are_right_functions
written [] w o = (refl, tt)
written (f ∷ l) w o =
    let p = and_parts (have_one_index f) (have_one_index (chain l)) o in
    let b = w.0.1 (body_one f p.0) in
    let r = written l w.1 p.1 in (
      and_from (is_empty (first (first f))) (is_right_body (second f) && are_right_functions (chain l)) w.0.0 (and_from (is_right_body (second f)) (are_right_functions (chain l)) b.0 r.0),
      (record { coins = no_coins (first (first f)) w.0.0; body = b.1 }, r.1),
    )

of_functions : Makes (functions sort.RightFunction) (λ fs. have_one_index fs ≡ true → AreWritten fs)
of_functions = leveled (behind (before (turned (turned {p = λ x. IsFunction x.0 × AllByRecursion IsFunction x.1} {q = AllByRecursion IsFunction} (follow below (several (behind below))) (λ x w. w)) written)))

abbrev pub IsRightGroup : Tree → Type 0
IsRightGroup g = have_one_index g ≡ true → (is_right_side g ≡ true) × AllByRecursion IsWrittenFunction (group_of g).functions

pub of_group : Makes (group sort.RightFunction) IsRightGroup
unfolding have_one_index
of_group = turned (behind (follow anything (behind (follow anything (behind (follow anything (behind of_functions))))))) (λ x w o. w.1.1.1 o)
