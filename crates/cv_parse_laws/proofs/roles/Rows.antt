-- The types and parameters that a process names are those that its uses of names ask for.
use Rattle.std.proofs.Common.{ℕ, [], ◌∷◌, List, Option, Some, None, inl, refl}
use Rattle.std.specs.List.{AllByRecursion}
use Rattle.cv_syntax_trees.specs.declared.head.Head.{Head}
use Rattle.cv_syntax_trees.specs.Declarations.{Declaration}
use Rattle.cv_syntax_trees.specs.Tree.{Tree, Empty, Node, binders, chain, first, names, second}
use Rattle.cv_parse_notation.specs.Form.{Form}
use Rattle.cv_parse_grammar.specs.declared.role.Asked.TheVariants.{AParam, AType}
use Rattle.cv_parse_grammar.specs.declared.role.Role.{Role}
use Rattle.cv_parse_grammar.specs.declared.role.Role.TheVariants.{Asks, BindsVariable}
use Rattle.cv_parse_grammar.specs.Phrases.{Sort, indices, type_name, typed, vars}
use Rattle.cv_parse_grammar.specs.Phrases as sort
use Rattle.cv_parse_grammar.specs.Terms.{alone, arguments, called, cell, cell_of, cells, condition, conjoined, conjunction, disjoined, equal_to, equality, falsehood, indexed, mention, negation, parentheses, primary, subscript, term, terms, truth, unequal, unequal_to, yes}
use Rattle.cv_parse_grammar.specs.Processes.{assignment, beside, branch, channel, channel_indices, continuation, ending, find_in, finding, input, inputs, otherwise, outgoing, output, pattern, payload, received, receiving, recording, replication, restriction, sending, sent, stops, testing, variables, yielding, yields}
use Rattle.cv_parse_grammar.specs.Rules.{file, rule}
use Rattle.cv_meaning_laws.specs.adequacy.Typed as meaning
use Rattle.cv_meaning_laws.specs.adequacy.Typed.{IsDeclared}
use Rattle.cv_syntax_trees.specs.declared.sites.sort.Sort as directory
use Rattle.cv_syntax_trees.specs.declared.sites.sort.Sort.TheVariants.{BelowParameter, OfType}
use Rattle.cv_typing_runs.specs.Games.{AreDeclared, HasDeclaredSorts, NamesDeclared, sort_of_meaning}
use Rattle.cv_parse_grammar.specs.yields.Yields.{IfThere, Yields}
use Rattle.cv_parse_grammar.proofs.yields.Yielding.{Gives, a_word, anything, behind, below, follow, leveled, one_of, perhaps, several, turned, weaker}
use Rattle.cv_parse_laws.proofs.roles.Forms.{Tail, after_is, bracketed, enclosed, in_row, or_this, squared}

module _ (ds : List Declaration) where
  -- what a use of a name says: where a type or a parameter is asked for, it is declared
  abbrev pub Asked : Role → ℕ → Type 0
  Asked (Asks AType) T = IsDeclared ds (meaning.OfType T)
  Asked (Asks AParam) n = IsDeclared ds (meaning.BelowParameter n)
  Asked r x = Unit {0}

  pub record Is (t : Tree) : Type 0 where
    pub sorts : HasDeclaredSorts ds t

  -- binders of variables
  pub record AreBinders (sort : ℕ → directory.Sort) (t : Tree) : Type 0 where
    pub sorts : AreDeclared ds sort t
    pub parts : Is t

  -- a channel with its indices, and binders
  pub record IsPattern (t : Tree) : Type 0 where
    pub indices : Is (first t)
    pub binders : AreBinders OfType (second t)

  pub record IsSending (t : Tree) : Type 0 where
    pub indices : Is (first t)
    pub message : Is (second t)

  -- what the phrases of a sort have; those of equivalences, of queries and of the proof block stand in no game
  abbrev pub OfSort : Sort → Tree → Type 0
  OfSort sort.Pattern t = IsPattern t
  OfSort sort.Sending t = IsSending t
  OfSort sort.Variables t = AreBinders OfType t
  OfSort sort.Body t = Unit {0}
  OfSort sort.BodyBranch t = Unit {0}
  OfSort sort.LeftFunction t = Unit {0}
  OfSort sort.RightFunction t = Unit {0}
  OfSort sort.RightRest t = Unit {0}
  OfSort sort.RightSide t = Unit {0}
  OfSort sort.Braces t = Unit {0}
  OfSort s t = Is t

  abbrev Makes : {A : Type 0} → Form Role Sort A → (A → Type 0) → Type 0
  Makes f Q = Gives Asked OfSort f Q

  -- trees

  empty : Is Empty
  unfolding HasDeclaredSorts
  empty = record { sorts = tt }

  node : {h : Head} {a b : Tree} → NamesDeclared ds h a → Is a → Is b → Is (Node h a b)
  unfolding HasDeclaredSorts
  node n v w = record { sorts = (n, v.sorts, w.sorts) }

  chained : (l : List Tree) → AllByRecursion Is l → Is (chain l)
  chained [] w = empty
  chained (t ∷ l) w = node tt w.0 (chained l w.1)

  named : (l : List ℕ) → Is (names l)
  named [] = empty
  named (x ∷ l) = node tt empty (named l)

  bound : (sort : ℕ → directory.Sort) (l : List (ℕ × ℕ)) → AllByRecursion (λ b. IsDeclared ds (sort_of_meaning (sort b.1))) l → AreBinders sort (binders l)
  unfolding AreDeclared
  bound sort [] w = record { sorts = tt; parts = empty }
  bound sort (b ∷ l) w = let r = bound sort l w.1 in record { sorts = (w.0, r.sorts); parts = node tt empty r.parts }

  -- binders

  of_type_name : Makes type_name (λ T. IsDeclared ds (meaning.OfType T))
  of_type_name = one_of (turned anything (λ u w. inl refl)) a_word

  a_variable : Makes (typed BindsVariable) (λ b. IsDeclared ds (meaning.OfType b.1))
  a_variable = weaker (follow anything (behind of_type_name)) (λ b w. w.1)

  of_vars : Makes (vars BindsVariable) (AreBinders OfType)
  of_vars = turned (in_row a_variable) (bound OfType)

  none_bound : (sort : ℕ → directory.Sort) → AreBinders sort Empty
  none_bound sort = bound sort [] tt

  of_variables : Makes variables (AreBinders OfType)
  of_variables = bracketed (or_this Empty (none_bound OfType) of_vars)

  of_indices : Makes (indices BindsVariable (Asks AParam)) (AreBinders BelowParameter)
  of_indices = turned (in_row (weaker (follow anything (behind a_word)) (λ b w. w.1))) (bound BelowParameter)

  -- terms

  abbrev Applies : (ℕ → Tree) → Type 0
  Applies f = (x : ℕ) → Is (f x)

  of_terms : Makes terms Is
  of_terms = turned (in_row below) chained

  of_arguments : Makes arguments Is
  of_arguments = bracketed of_terms

  of_subscript : Makes subscript Is
  of_subscript = squared of_terms

  of_parentheses : Makes parentheses Is
  of_parentheses = bracketed below

  of_called : Makes called Applies
  of_called = turned (follow anything below) (λ l w x. node tt w.1 empty)

  of_indexed : Makes indexed Applies
  of_indexed = turned (follow anything below) (λ l w x. node tt w.1 empty)

  of_alone : Makes alone Applies
  of_alone = turned anything (λ n w x. node tt empty empty)

  of_mention : Makes mention Is
  of_mention = leveled (turned (follow anything (one_of of_called (one_of of_indexed of_alone))) (λ x w. w.1 x.0))

  of_negation : Makes negation Is
  of_negation = leveled (turned (behind below) (λ t w. node tt w empty))

  of_truth : Makes truth Is
  of_truth = leveled (turned anything (λ u w. node tt empty empty))

  of_falsehood : Makes falsehood Is
  of_falsehood = leveled (turned anything (λ u w. node tt empty empty))

  of_primary : Makes primary Is
  of_primary = one_of of_mention (one_of of_negation (one_of of_truth (one_of of_falsehood of_parentheses)))

  of_unequal : Makes unequal Is
  of_unequal = leveled (behind below)

  of_equal_to : Makes equal_to (Tail Is)
  of_equal_to = turned (follow anything below) (λ r w l v. node tt v w.1)

  of_unequal_to : Makes unequal_to (Tail Is)
  of_unequal_to = turned below (λ r w l v. node tt (node tt v w) empty)

  of_equality : Makes equality Is
  of_equality = turned (follow of_primary (perhaps (one_of of_equal_to of_unequal_to))) (λ x w. after_is Is x.0 w.0 x.1 w.1)

  of_conjoined : Makes conjoined (Tail Is)
  of_conjoined = turned (follow anything below) (λ r w l v. node tt v w.1)

  of_conjunction : Makes conjunction Is
  of_conjunction = turned (follow of_equality (perhaps of_conjoined)) (λ x w. after_is Is x.0 w.0 x.1 w.1)

  of_disjoined : Makes disjoined (Tail Is)
  of_disjoined = turned (follow anything below) (λ r w l v. node tt v w.1)

  of_term : Makes term Is
  of_term = turned (follow of_conjunction (perhaps of_disjoined)) (λ x w. after_is Is x.0 w.0 x.1 w.1)

  cell_is : (x : ℕ) (o : Option Tree) → IfThere Is o → Is (cell_of x o)
  cell_is x None w = node tt empty empty
  cell_is x (Some l) w = node tt w empty

  of_cell : Makes cell Is
  of_cell = leveled (turned (follow anything (perhaps below)) (λ x w. cell_is x.0 x.1 w.1))

  of_cells : Makes cells Is
  of_cells = bracketed (turned (in_row below) chained)

  of_condition : Makes condition (λ c. Is c.0 × Is c.1)
  of_condition = one_of (behind (follow below (or_this yes (node tt empty empty) (behind below)))) (turned below (λ t w. (empty, w)))

  -- processes

  of_branches : Makes (find_in sort.ProcessBranch) (λ b. Is b.1)
  of_branches = turned (follow anything (follow anything (follow below (several (behind below))))) (λ x w. chained (x.1.1.0 ∷ x.1.1.1) w.1.1)

  of_ending : Makes ending Is
  of_ending = leveled (turned anything (λ u w. node tt empty empty))

  of_replication : Makes replication Is
  of_replication = leveled (turned (behind (follow anything (behind (follow a_word below)))) (λ x w. node w.1.0 empty w.1.1))

  of_receiving : Makes receiving Is
  of_receiving = leveled (turned (behind (follow below (behind below))) (λ x w. node w.0.binders.sorts (node tt w.0.indices w.0.binders.parts) w.1))

  of_input : Makes input Is
  of_input = one_of of_ending (one_of (bracketed below) (one_of of_replication of_receiving))

  of_beside : Makes beside (Tail Is)
  of_beside = turned (follow anything below) (λ r w l v. node tt v w.1)

  of_inputs : Makes inputs Is
  of_inputs = turned (follow of_input (perhaps of_beside)) (λ x w. after_is Is x.0 w.0 x.1 w.1)

  of_channel : Makes channel (λ c. Is c.1)
  of_channel = weaker (follow anything (or_this Empty empty below)) (λ c w. w.1)

  of_channel_indices : Makes channel_indices Is
  of_channel_indices = squared (turned anything (λ l w. named l))

  of_received : Makes received (AreBinders OfType)
  of_received = one_of below (turned a_variable (λ b w. bound OfType (b ∷ []) (w, tt)))

  of_pattern : Makes pattern IsPattern
  of_pattern = bracketed (turned (follow of_channel (behind of_received)) (λ x w. record { indices = w.0; binders = w.1 }))

  of_sent : Makes sent Is
  of_sent = one_of below (turned below (λ t w. chained (t ∷ []) (w, tt)))

  of_sending : Makes sending IsSending
  of_sending = bracketed (turned (follow of_channel (behind of_sent)) (λ x w. record { indices = w.0; message = w.1 }))

  of_payload : Makes payload Is
  of_payload = bracketed (or_this Empty empty of_terms)

  of_continuation : Makes continuation Is
  of_continuation = or_this stops (node tt empty empty) (behind below)

  of_yielding : Makes yielding Is
  of_yielding = leveled (turned anything (λ u w. node tt empty empty))

  of_outgoing : Makes outgoing Is
  of_outgoing = leveled (turned (behind (follow below of_continuation)) (λ x w. node tt (node tt w.0.indices w.0.message) w.1))

  of_restriction : Makes restriction Is
  of_restriction = leveled (turned (behind (follow a_variable (behind below))) (λ x w. node w.0 empty w.1))

  of_assignment : Makes assignment Is
  of_assignment = leveled (turned (behind (follow a_variable (behind (follow below (behind below))))) (λ x w. node w.0 w.1.0 w.1.1))

  of_recording : Makes recording Is
  of_recording = leveled (turned (behind (follow anything (follow (or_this Empty empty below) (behind below)))) (λ x w. node tt w.1.0 w.1.1))

  of_otherwise : Makes otherwise Is
  of_otherwise = or_this yields (node tt empty empty) (behind below)

  of_testing : Makes testing Is
  of_testing = leveled (turned (behind (follow below (behind (follow below of_otherwise)))) (λ x w. node tt w.0 (node tt w.1.0 (node tt w.1.1 empty))))

  of_finding : Makes finding Is
  of_finding = leveled (turned (follow of_branches of_otherwise) (λ x w. node tt w.0 w.1))

  of_branch : Makes branch Is
  of_branch =
      leveled (turned (follow (or_this Empty (none_bound BelowParameter) of_indices) (behind (follow of_condition (behind below)))) (λ x w.
      node w.0.sorts w.0.parts (node tt w.1.0.0 (node tt w.1.0.1 w.1.1))
      ))

  of_output : Makes output Is
  of_output =
      one_of of_yielding
      (one_of (bracketed below)
      (one_of of_outgoing
      (one_of of_restriction
      (one_of of_assignment
      (one_of of_recording
      (one_of of_testing of_finding))))))

  -- every row, and the row of a file

  pub rows : (s : Sort) (t : Tree) → Yields Asked OfSort (rule s) t → OfSort s t
  rows sort.Term t y = of_term.gives t y
  rows sort.Conjunction t y = of_conjunction.gives t y
  rows sort.Primary t y = of_primary.gives t y
  rows sort.Unequal t y = of_unequal.gives t y
  rows sort.Arguments t y = of_arguments.gives t y
  rows sort.Subscript t y = of_subscript.gives t y
  rows sort.Parentheses t y = of_parentheses.gives t y
  rows sort.Inputs t y = of_inputs.gives t y
  rows sort.Input t y = of_input.gives t y
  rows sort.Output t y = of_output.gives t y
  rows sort.Pattern t y = of_pattern.gives t y
  rows sort.Sending t y = of_sending.gives t y
  rows sort.Payload t y = of_payload.gives t y
  rows sort.Variables t y = of_variables.gives t y
  rows sort.Indices t y = of_channel_indices.gives t y
  rows sort.ProcessBranch t y = of_branch.gives t y
  rows sort.Cells t y = of_cells.gives t y
  rows sort.OneCell t y = of_cell.gives t y
  rows _ t y = tt

  pub of_file : Makes file (λ f. Is f.game)
  of_file = turned (follow anything (follow anything (behind (enclosed of_inputs)))) (λ x w. w.1.1)
