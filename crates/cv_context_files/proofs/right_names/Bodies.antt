-- The rows of equivalences bind names that stand bare and are not barred.
use Rattle.std.proofs.Common.{◌≡◌, ℕ, Bool, true, not, List, [], ◌∷◌, Option, Some, None, refl}
use Rattle.std.specs.List.{AllByRecursion}
use Rattle.cv_syntax_trees.specs.Tree.{Tree, Empty, binders, first, second}
use Rattle.cv_parse_notation.specs.Form.{Form}
use Rattle.cv_parse_grammar.specs.declared.role.Role.{Role}
use Rattle.cv_parse_grammar.specs.declared.role.Role.TheVariants.{AsksBound, BindsLocal}
use Rattle.cv_parse_grammar.specs.Equivalences.{arguments_and_body, body, body_branch, body_find, body_test, function_of, functions, group, new_before, right_function, right_rest}
use Rattle.cv_parse_grammar.specs.Phrases.{Sort, bracket, indices, listed, or_else, row, typed, var_list, vars}
use Rattle.cv_parse_grammar.specs.Phrases as sort
use Rattle.cv_parse_grammar.specs.Processes.{find_in, let_in, new_in}
use Rattle.cv_parse_grammar.specs.Rules.{rule}
use Rattle.cv_parse_grammar.specs.Terms.{condition, term, yes}
use Rattle.cv_parse_laws.specs.Shapes.{IsFree, IsOfSort, IsShaped}
use Rattle.cv_parse_grammar.specs.yields.Yields.{IfThere, Yields}
use Rattle.cv_parse_laws.proofs.Rows.{rows}
use Rattle.cv_parse_laws.proofs.Shaping.{bound}
use Rattle.cv_parse_grammar.proofs.yields.Yielding.{Gives, a_word, anything, before, behind, below, follow, leveled, one_of, perhaps, several, turned, weaker}
use Rattle.cv_parse_laws.proofs.roles.Forms.{in_row}
use Rattle.cv_scope_rules.specs.Phrases.{Binders, Cells, Term}
use Rattle.cv_context_files.specs.right_names.Bindings.{HasFreeNames}
use Rattle.cv_context_files.proofs.right_names.Phrases.{chained, node, none, phrase_free}

module _ (barred : ℕ → Bool) where
  abbrev pub IsNamed : Role → ℕ → Type 0
  IsNamed = IsFree barred

  abbrev pub Is : Tree → Type 0
  Is t = HasFreeNames barred t

  abbrev pub OfSort : Sort → Tree → Type 0
  OfSort sort.Body t = Is t
  OfSort sort.BodyBranch t = Is t
  OfSort sort.RightFunction t = Is t
  OfSort sort.RightRest t = Is (first t) × Is (second t)
  OfSort s t = IsOfSort barred s t

  abbrev pub Makes : {A : Type 0} → Form Role Sort A → (A → Type 0) → Type 0
  Makes f Q = Gives IsNamed OfSort f Q

  -- names and lists of them

  abbrev pub Binds : ℕ × ℕ → Type 0
  Binds b = not (barred b.0) ≡ true

  pub a_local : Makes (typed BindsLocal) Binds
  a_local = weaker (follow a_word anything) (λ b w. w.0 refl)

  pub bound_free : (l : List (ℕ × ℕ)) → AllByRecursion Binds l → Is (binders l)
  bound_free l w = phrase_free Binders (binders l) (bound l w)

  pub of_vars : Makes (vars BindsLocal) Is
  of_vars = turned (in_row a_local) bound_free

  or_none : (o : Option Tree) → IfThere Is o → Is (or_else Empty o)
  or_none None w = none
  or_none (Some t) w = w

  pub in_list : {f : Form Role Sort Tree} → Makes f Is → Makes (listed f) Is
  in_list i = turned (perhaps i) or_none

  of_var_list : Makes (var_list BindsLocal) Is
  of_var_list = leveled (behind (before (in_list of_vars)))

  of_indices : Makes (indices BindsLocal AsksBound) Is
  of_indices = turned (in_row (weaker (follow a_word anything) (λ b w. w.0 refl))) bound_free

  -- bodies

  pub of_term : Makes term Is
  of_term = record { gives = λ t y. phrase_free Term t (rows barred sort.Term t y) }

  of_new : Makes (new_in BindsLocal sort.Body) Is
  of_new = leveled (turned (behind (follow a_local (behind below))) (λ x w. node refl w.0 none w.1))

  of_let : Makes (let_in BindsLocal sort.Body) Is
  of_let = leveled (turned (behind (follow a_local (behind (follow below (behind below))))) (λ x w. node refl w.0 (phrase_free Term x.1.0 w.1.0) w.1.1))

  of_test : Makes body_test Is
  of_test = leveled (turned (behind (follow below (behind (follow below (behind below))))) (λ x w. node refl refl (phrase_free Term x.0 w.0) (chained (x.1.0 ∷ x.1.1 ∷ []) (w.1.0, (w.1.1, tt)))))

  of_branches : Makes (find_in sort.BodyBranch) (λ b. Is b.1)
  of_branches = turned (follow anything (follow anything (follow below (several (behind below))))) (λ x w. chained (x.1.1.0 ∷ x.1.1.1) w.1.1)

  of_find : Makes body_find Is
  of_find = leveled (turned (follow of_branches (behind below)) (λ x w. node refl refl w.0 w.1))

  of_body : Makes body Is
  of_body = one_of of_new (one_of of_let (one_of of_test (one_of of_find of_term)))

  abbrev IsCondition : Tree × Tree → Type 0
  IsCondition c = Is c.0 × Is c.1

  or_yes : (o : Option Tree) → IfThere (IsShaped barred Term) o → Is (or_else yes o)
  or_yes None w = node refl refl none none
  or_yes (Some t) w = phrase_free Term t w

  of_condition : Makes condition IsCondition
  of_condition =
      one_of
      (behind (weaker (follow below (turned (perhaps (behind below)) or_yes)) (λ c w. (phrase_free Cells c.0 w.0, w.1))))
      (turned below (λ t w. (none, phrase_free Term t w)))

  of_branch : Makes body_branch Is
  of_branch = leveled (turned (follow (in_list of_indices) (behind (follow of_condition (behind below)))) (λ x w. node refl refl w.0 (node refl refl w.1.0.0 (node refl refl w.1.0.1 w.1.1))))

  -- functions and groups

  abbrev pub AreBoth : Tree → Type 0
  AreBoth t = Is (first t) × Is (second t)

  of_new_before : Makes new_before AreBoth
  of_new_before = leveled (turned (behind (follow a_local (behind below))) (λ x w. (w.1.0, node refl w.0 none w.1.1)))

  of_arguments_and_body : Makes arguments_and_body AreBoth
  of_arguments_and_body = turned (follow of_var_list (behind of_body)) (λ x w. w)

  of_rest : Makes right_rest AreBoth
  of_rest = one_of of_new_before of_arguments_and_body

  pub function_is : (f : ℕ) (copied : Option (ℕ × ℕ)) (arguments t : Tree) → Is arguments → Is t → Is (function_of f copied Empty arguments t)
  function_is f None arguments t v w = node refl refl (node refl refl none v) w
  function_is f (Some c) arguments t v w = node refl refl (node refl refl none v) w

  of_function : Makes right_function Is
  of_function = turned (follow anything (behind (follow anything of_rest))) (λ x w. function_is x.0 x.1.0 (first x.1.1) (second x.1.1) w.1.1.0 w.1.1.1)

  of_functions : Makes (functions sort.RightFunction) Is
  of_functions = leveled (behind (before (turned (in_row below) chained)))

  pub of_group : Makes (group sort.RightFunction) Is
  of_group = turned (behind (follow anything (behind (follow anything (behind (follow a_local (behind of_functions))))))) (λ x w. node refl refl (bound_free (x.1.1.0 ∷ []) (w.1.1.0, tt)) w.1.1.1)

  pub all_rows : (s : Sort) (t : Tree) → Yields IsNamed OfSort (rule s) t → OfSort s t
  all_rows sort.Term t y = rows barred sort.Term t y
  all_rows sort.Conjunction t y = rows barred sort.Conjunction t y
  all_rows sort.Primary t y = rows barred sort.Primary t y
  all_rows sort.Unequal t y = rows barred sort.Unequal t y
  all_rows sort.Arguments t y = rows barred sort.Arguments t y
  all_rows sort.Subscript t y = rows barred sort.Subscript t y
  all_rows sort.Parentheses t y = rows barred sort.Parentheses t y
  all_rows sort.Inputs t y = rows barred sort.Inputs t y
  all_rows sort.Input t y = rows barred sort.Input t y
  all_rows sort.Output t y = rows barred sort.Output t y
  all_rows sort.Pattern t y = rows barred sort.Pattern t y
  all_rows sort.Sending t y = rows barred sort.Sending t y
  all_rows sort.Payload t y = rows barred sort.Payload t y
  all_rows sort.Variables t y = rows barred sort.Variables t y
  all_rows sort.Indices t y = rows barred sort.Indices t y
  all_rows sort.ProcessBranch t y = rows barred sort.ProcessBranch t y
  all_rows sort.Cells t y = rows barred sort.Cells t y
  all_rows sort.OneCell t y = rows barred sort.OneCell t y
  all_rows sort.Body t y = of_body.gives t y
  all_rows sort.BodyBranch t y = of_branch.gives t y
  all_rows sort.RightFunction t y = of_function.gives t y
  all_rows sort.RightRest t y = of_rest.gives t y
  all_rows _ t y = tt
