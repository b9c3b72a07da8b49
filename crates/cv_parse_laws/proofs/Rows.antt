-- The rows of processes and terms make phrases of a game.
use Rattle.std.proofs.Common.{◌≡◌, ℕ, Bool, true, not, [], ◌∷◌, Option, Some, None, refl}
use Rattle.cv_syntax_trees.specs.Tree.{Tree, Empty}
use Rattle.cv_parse_notation.specs.Form.{Form}
use Rattle.cv_parse_grammar.specs.declared.role.Asked.TheVariants.{AParam}
use Rattle.cv_parse_grammar.specs.declared.role.Role.{Role}
use Rattle.cv_parse_grammar.specs.declared.role.Role.TheVariants.{Asks, BindsVariable}
use Rattle.cv_parse_grammar.specs.Phrases.{Sort, or_else, after, row, bracket, square, listed, typed, vars, indices, inside}
use Rattle.cv_parse_grammar.specs.Phrases as sort
use Rattle.cv_parse_grammar.specs.Terms.{terms, arguments, subscript, parentheses, called, indexed, alone, mention, negation, truth, falsehood, primary, unequal, equal_to, unequal_to, equality, conjoined, conjunction, disjoined, term, cell_of, cell, cells, yes, condition}
use Rattle.cv_parse_grammar.specs.Processes.{stops, yields, channel, channel_indices, find_in, ending, replication, receiving, input, beside, inputs, received, pattern, variables, yielding, sent, sending, payload, continuation, outgoing, restriction, assignment, recording, otherwise, testing, finding, branch, output}
use Rattle.cv_parse_grammar.specs.Rules.{file, rule}
use Rattle.cv_scope_rules.specs.Phrases.{Phrase, Inputs, Body, Branches, Arm, Indices, Binders, Cells, OneCell, Terms, Term, may_end}
use Rattle.cv_parse_laws.specs.Shapes.{IsFree, IsOfSort, IsOver, IsShaped}
use Rattle.cv_parse_grammar.specs.yields.Yields.{IfThere, Yields}
use Rattle.cv_parse_laws.proofs.Shaping.{bound, chained, empty, named, nil, node}
use Rattle.cv_parse_laws.proofs.roles.Forms.{Tail, after_is, bracketed, enclosed, in_row, or_this, squared}
use Rattle.cv_parse_grammar.proofs.yields.Yielding.{Gives, a_word, anything, behind, below, follow, leveled, one_of, perhaps, several, turned, weaker}

module _ (barred : ℕ → Bool) where
  abbrev Makes : {A : Type 0} → Form Role Sort A → (A → Type 0) → Type 0
  Makes f Q = Gives (IsFree barred) (IsOfSort barred) f Q

  abbrev Is : Phrase → Tree → Type 0
  Is φ t = IsShaped barred φ t

  -- what rows are made of

  in_list : {φ : Phrase} {f : Form Role Sort Tree} → may_end φ ≡ true → Makes f (Is φ) → Makes (listed f) (Is φ)
  in_list e i = or_this Empty (empty e) i

  -- binders

  abbrev Binds : ℕ × ℕ → Type 0
  Binds b = not (barred b.0) ≡ true

  a_variable : Makes (typed BindsVariable) Binds
  a_variable = weaker (follow a_word anything) (λ b w. w.0 refl)

  of_vars : Makes (vars BindsVariable) (Is Binders)
  of_vars = turned (in_row a_variable) bound

  of_variables : Makes variables (Is Binders)
  of_variables = bracketed (in_list refl of_vars)

  of_indices : Makes (indices BindsVariable (Asks AParam)) (Is Binders)
  of_indices = turned (in_row (weaker (follow a_word anything) (λ b w. w.0 refl))) bound

  -- terms

  -- what follows a name makes a term of it
  abbrev Applies : (ℕ → Tree) → Type 0
  Applies f = (x : ℕ) → Is Term (f x)

  of_terms : Makes terms (Is Terms)
  of_terms = turned (in_row below) (chained Terms Term refl refl)

  of_arguments : Makes arguments (Is Terms)
  of_arguments = bracketed of_terms

  of_subscript : Makes subscript (Is Terms)
  of_subscript = squared of_terms

  of_parentheses : Makes parentheses (Is Term)
  of_parentheses = bracketed below

  of_called : Makes called Applies
  of_called = turned (follow anything below) (λ l w x. node refl refl w.1 nil)

  of_indexed : Makes indexed Applies
  of_indexed = turned (follow anything below) (λ l w x. node refl refl w.1 nil)

  of_alone : Makes alone Applies
  of_alone = turned anything (λ n w x. node refl refl nil nil)

  of_mention : Makes mention (Is Term)
  of_mention = leveled (turned (follow anything (one_of of_called (one_of of_indexed of_alone))) (λ x w. w.1 x.0))

  of_negation : Makes negation (Is Term)
  of_negation = leveled (turned (behind below) (λ t w. node refl refl w nil))

  of_truth : Makes truth (Is Term)
  of_truth = leveled (turned anything (λ u w. node refl refl nil nil))

  of_falsehood : Makes falsehood (Is Term)
  of_falsehood = leveled (turned anything (λ u w. node refl refl nil nil))

  of_primary : Makes primary (Is Term)
  of_primary = one_of of_mention (one_of of_negation (one_of of_truth (one_of of_falsehood of_parentheses)))

  of_unequal : Makes unequal (Is Term)
  of_unequal = leveled (behind below)

  of_equal_to : Makes equal_to (Tail (Is Term))
  of_equal_to = turned (follow anything below) (λ r w l v. node refl refl v w.1)

  of_unequal_to : Makes unequal_to (Tail (Is Term))
  of_unequal_to = turned below (λ r w l v. node refl refl (node refl refl v w) nil)

  of_equality : Makes equality (Is Term)
  of_equality = turned (follow of_primary (perhaps (one_of of_equal_to of_unequal_to))) (λ x w. after_is (Is Term) x.0 w.0 x.1 w.1)

  of_conjoined : Makes conjoined (Tail (Is Term))
  of_conjoined = turned (follow anything below) (λ r w l v. node refl refl v w.1)

  of_conjunction : Makes conjunction (Is Term)
  of_conjunction = turned (follow of_equality (perhaps of_conjoined)) (λ x w. after_is (Is Term) x.0 w.0 x.1 w.1)

  of_disjoined : Makes disjoined (Tail (Is Term))
  of_disjoined = turned (follow anything below) (λ r w l v. node refl refl v w.1)

  of_term : Makes term (Is Term)
  of_term = turned (follow of_conjunction (perhaps of_disjoined)) (λ x w. after_is (Is Term) x.0 w.0 x.1 w.1)

  cell_is : (x : ℕ) (o : Option Tree) → IfThere (Is Terms) o → Is OneCell (cell_of x o)
  cell_is x None w = node refl refl nil nil
  cell_is x (Some l) w = node refl refl w nil

  of_cell : Makes cell (Is OneCell)
  of_cell = leveled (turned (follow anything (perhaps below)) (λ x w. cell_is x.0 x.1 w.1))

  of_cells : Makes cells (Is Cells)
  of_cells = bracketed (turned (in_row below) (chained Cells OneCell refl refl))

  -- the cells and the condition
  abbrev IsCondition : Tree × Tree → Type 0
  IsCondition c = Is Cells c.0 × Is Term c.1

  of_condition : Makes condition IsCondition
  of_condition =
      one_of
      (behind (follow below (or_this yes (node refl refl nil nil) (behind below))))
      (turned below (λ t w. (empty refl, w)))

  -- processes

  of_branches : Makes (find_in sort.ProcessBranch) (λ b. Is Branches b.1)
  of_branches = turned (follow anything (follow anything (follow below (several (behind below))))) (λ x w. chained Branches Arm refl refl (x.1.1.0 ∷ x.1.1.1) w.1.1)

  of_ending : Makes ending (Is Inputs)
  of_ending = leveled (turned anything (λ u w. node refl refl nil nil))

  of_replication : Makes replication (Is Inputs)
  of_replication = leveled (turned (behind (follow a_word (behind (follow anything below)))) (λ x w. node refl (w.0 refl) nil w.1.1))

  of_receiving : Makes receiving (Is Inputs)
  of_receiving = leveled (turned (behind (follow below (behind below))) (λ x w. node refl refl (node refl refl w.0.indices w.0.message) w.1))

  of_input : Makes input (Is Inputs)
  of_input = one_of of_ending (one_of (bracketed below) (one_of of_replication of_receiving))

  of_beside : Makes beside (Tail (Is Inputs))
  of_beside = turned (follow anything below) (λ r w l v. node refl refl v w.1)

  of_inputs : Makes inputs (Is Inputs)
  of_inputs = turned (follow of_input (perhaps of_beside)) (λ x w. after_is (Is Inputs) x.0 w.0 x.1 w.1)

  -- a channel with its indices, and what goes over it

  of_channel : Makes channel (λ c. Is Indices c.1)
  of_channel = weaker (follow anything (in_list refl below)) (λ c w. w.1)

  of_channel_indices : Makes channel_indices (Is Indices)
  of_channel_indices = squared (turned anything (λ l w. named l))

  of_received : Makes received (Is Binders)
  of_received = one_of below (turned a_variable (λ b w. bound (b ∷ []) (w, tt)))

  of_pattern : Makes pattern (IsOver barred Binders)
  of_pattern = bracketed (turned (follow of_channel (behind of_received)) (λ x w. record { indices = w.0; message = w.1 }))

  of_sent : Makes sent (Is Terms)
  of_sent = one_of below (turned below (λ t w. chained Terms Term refl refl (t ∷ []) (w, tt)))

  of_sending : Makes sending (IsOver barred Terms)
  of_sending = bracketed (turned (follow of_channel (behind of_sent)) (λ x w. record { indices = w.0; message = w.1 }))

  of_payload : Makes payload (Is Terms)
  of_payload = bracketed (in_list refl of_terms)

  of_continuation : Makes continuation (Is Inputs)
  of_continuation = or_this stops (node refl refl nil nil) (behind below)

  of_yielding : Makes yielding (Is Body)
  of_yielding = leveled (turned anything (λ u w. node refl refl nil nil))

  of_outgoing : Makes outgoing (Is Body)
  of_outgoing = leveled (turned (behind (follow below of_continuation)) (λ x w. node refl refl (node refl refl w.0.indices w.0.message) w.1))

  of_restriction : Makes restriction (Is Body)
  of_restriction = leveled (turned (behind (follow a_variable (behind below))) (λ x w. node refl w.0 nil w.1))

  of_assignment : Makes assignment (Is Body)
  of_assignment = leveled (turned (behind (follow a_variable (behind (follow below (behind below))))) (λ x w. node refl w.0 w.1.0 w.1.1))

  of_recording : Makes recording (Is Body)
  of_recording = leveled (turned (behind (follow anything (follow (in_list refl below) (behind below)))) (λ x w. node refl refl w.1.0 w.1.1))

  of_otherwise : Makes otherwise (Is Body)
  of_otherwise = or_this yields (node refl refl nil nil) (behind below)

  of_testing : Makes testing (Is Body)
  of_testing = leveled (turned (behind (follow below (behind (follow below of_otherwise)))) (λ x w. node refl refl w.0 (node refl refl w.1.0 (node refl refl w.1.1 nil))))

  of_finding : Makes finding (Is Body)
  of_finding = leveled (turned (follow of_branches of_otherwise) (λ x w. node refl refl w.0 w.1))

  of_branch : Makes branch (Is Arm)
  of_branch =
      leveled (turned (follow (in_list refl of_indices) (behind (follow of_condition (behind below)))) (λ x w.
      node refl refl w.0 (node refl refl w.1.0.0 (node refl refl w.1.0.1 w.1.1))
      ))

  of_output : Makes output (Is Body)
  of_output =
      one_of of_yielding
      (one_of (bracketed below)
      (one_of of_outgoing
      (one_of of_restriction
      (one_of of_assignment
      (one_of of_recording
      (one_of of_testing of_finding))))))

  -- every row, and the row of a file

  pub rows : (s : Sort) (t : Tree) → Yields (IsFree barred) (IsOfSort barred) (rule s) t → IsOfSort barred s t
  rows sort.Term t y = of_term.gives t y
  rows sort.Conjunction t y = of_conjunction.gives t y
  rows sort.Primary t y = of_primary.gives t y
  rows sort.Unequal t y = of_unequal.gives t y
  rows sort.Arguments t y = of_arguments.gives t y
  rows sort.Subscript t y = of_subscript.gives t y
  rows sort.Parentheses t y = of_parentheses.gives t y
  rows sort.Inputs t y = of_inputs.gives t y
  rows sort.Input t y = of_input.gives t y
  rows sort.Output t y = of_output.gives t y
  rows sort.Pattern t y = of_pattern.gives t y
  rows sort.Sending t y = of_sending.gives t y
  rows sort.Payload t y = of_payload.gives t y
  rows sort.Variables t y = of_variables.gives t y
  rows sort.Indices t y = of_channel_indices.gives t y
  rows sort.ProcessBranch t y = of_branch.gives t y
  rows sort.Cells t y = of_cells.gives t y
  rows sort.OneCell t y = of_cell.gives t y
  rows _ t y = tt

  pub of_file : Makes file (λ f. Is Inputs f.game)
  of_file = turned (follow anything (follow anything (behind (enclosed of_inputs)))) (λ x w. w.1.1)
