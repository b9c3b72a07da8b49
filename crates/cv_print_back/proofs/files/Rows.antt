-- Each row of terms and processes makes a tree that stands for its uses of names.
use Rattle.std.proofs.Common.{◌≡◌, ℕ, Bool, true, List, [], ◌∷◌, Option, Some, None, refl, sym, subst}
use Rattle.cv_syntax_trees.specs.Tree.{Tree, Empty, Node, chain}
use Rattle.cv_syntax_trees.specs.declared.head.Head.TheVariants.{Eq, Find}
use Rattle.cv_parse_notation.specs.declared.sign.Mark.{Mark}
use Rattle.cv_parse_notation.specs.declared.sign.Mark.TheVariants as mark
use Rattle.cv_parse_notation.specs.Form.{both, made, may, nought, number, find_word, sign}
use Rattle.cv_parse_grammar.specs.declared.role.Asked.TheVariants.{AChannel, AParam}
use Rattle.cv_parse_grammar.specs.declared.role.Role.TheVariants.{Asks, BindsVariable, Mentions, MentionsCell}
use Rattle.cv_parse_grammar.specs.Names.{Uses, binds_variable, is_used}
use Rattle.cv_parse_grammar.specs.Phrases.{Phrase, Sort, or_else, after, listed, typed, type_name, vars, var_list, indices}
use Rattle.cv_parse_grammar.specs.Phrases as sort
use Rattle.cv_parse_grammar.specs.Terms.{terms, arguments, subscript, parentheses, called, indexed, alone, mention, negation, truth, falsehood, primary, unequal, equal_to, unequal_to, equality, conjoined, conjunction, disjoined, term, cell_of, cell, cells, yes, condition}
use Rattle.cv_parse_grammar.specs.Processes.{stops, yields, channel, channel_indices, find_in, ending, replication, receiving, input, beside, inputs, received, pattern, variables, yielding, sent, sending, payload, continuation, outgoing, restriction, assignment, recording, otherwise, testing, finding, branch, output}
use Rattle.cv_parse_grammar.specs.Rules.{rule}
use Rattle.cv_print_bytes.specs.terminals.Told.{cell_told, cells_told, indices_told, terms_told, type_word, variables_told, word}
use Rattle.cv_print_back.proofs.files.Saying.{InTurn, Makes, Optional, Run, Says, Then, Word, a_note, a_word, behind, below, bracketed, follow, in_row, leveled, one_of, perhaps, several, squared, turned, weaker}
use Rattle.cv_print_back.proofs.files.TermTales.{AreTerms, IsTerm, Stands, and_is, apply_is, cell_leaf_is, cell_read_is, cells_are, eq_is, leaf_is, no_is, not_is, or_is, read_is, terms_are, yes_is}
use Rattle.cv_print_back.proofs.files.ListTales.{IsBinder, IsBound, binders_are, bool_is, param_is, type_is}
use Rattle.cv_print_back.proofs.files.ProcessTales.{GoesOver, HasIndices, IsArm, IsProcess, event_is, find_is, if_is, in_is, let_is, new_is, out_is, par_is, repl_is, stop_is, yield_is}

-- nothing is said
abbrev Nought : {A : Type 0} → Run A
Nought a us vs = us ≡ vs

skipped : {A : Type 0} (o : Option A) (us vs : Uses) → Optional Nought o us vs → us ≡ vs
skipped None us vs e = e
skipped (Some a) us vs e = e

module _ (all : Uses) (sites : ℕ → Option ℕ) (sited : (x k : ℕ) → sites x ≡ Some k → is_used binds_variable x all ≡ true) where
  -- what the phrases of a sort are; those of equivalences and of the proof block are in no game
  abbrev pub StandsAt : Sort → Run Tree
  StandsAt sort.Term t us vs = IsTerm all sites t us vs
  StandsAt sort.Conjunction t us vs = IsTerm all sites t us vs
  StandsAt sort.Primary t us vs = IsTerm all sites t us vs
  StandsAt sort.Unequal t us vs = IsTerm all sites t us vs
  StandsAt sort.Parentheses t us vs = IsTerm all sites t us vs
  StandsAt sort.Arguments t us vs = AreTerms all sites t us vs
  StandsAt sort.Subscript t us vs = AreTerms all sites t us vs
  StandsAt sort.Payload t us vs = AreTerms all sites t us vs
  StandsAt sort.Inputs t us vs = IsProcess all sites t us vs
  StandsAt sort.Input t us vs = IsProcess all sites t us vs
  StandsAt sort.Output t us vs = IsProcess all sites t us vs
  StandsAt sort.Pattern t us vs = GoesOver all sites variables_told t us vs
  StandsAt sort.Sending t us vs = GoesOver all sites (terms_told []) t us vs
  StandsAt sort.Variables t us vs = Stands all sites variables_told t us vs
  StandsAt sort.Indices t us vs = HasIndices all sites t us vs
  StandsAt sort.ProcessBranch t us vs = IsArm all sites t us vs
  StandsAt sort.Cells t us vs = Stands all sites (cells_told []) t us vs
  StandsAt sort.OneCell t us vs = Stands all sites cell_told t us vs
  StandsAt _ t us vs = Unit {0}

  abbrev Row : {A : Type 0} → Phrase A → Run A → Type 0
  Row f Q = Makes StandsAt f Q

  abbrev Term : Run Tree
  Term t us vs = IsTerm all sites t us vs

  abbrev Process : Run Tree
  Process t us vs = IsProcess all sites t us vs

  -- what rows are made of

  a_sign : {m : Mark} → Row (sign m) Nought
  a_sign = record { gives = λ a us vs y. y }

  a_number : Row number Nought
  a_number = record { gives = λ a us vs y. y }

  a_nought : Row nought Nought
  a_nought = record { gives = λ a us vs y. y }

  a_find : Row find_word Nought
  a_find = record { gives = λ a us vs y. y }

  -- a sign in front, with its value
  behind_sign : {A B : Type 0} {f : Phrase A} {g : Phrase B} {q : Run B} → Row f Nought → Row g q → Row (both f g) (λ x us vs. q x.1 us vs)
  behind_sign {q = q} i j = record { gives = λ x us vs y. subst (λ z. q x.1 z vs) (sym (i.gives x.0 us y.0 y.1)) (j.gives x.1 y.0 vs y.2) }

  else_is : {A : Type 0} (p : Run A) (a : A) → ((us vs : Uses) → us ≡ vs → p a us vs) → (o : Option A) (us vs : Uses) → Optional p o us vs → p (or_else a o) us vs
  else_is p a w None us vs e = w us vs e
  else_is p a w (Some b) us vs v = v

  or_this : {A : Type 0} {near : Bool} {f : Phrase A} {p : Run A} (a : A) → ((us vs : Uses) → us ≡ vs → p a us vs) → Row f p → Row (made (or_else a) (may near f)) p
  or_this {p = p} a w i = turned (perhaps i) (else_is p a w)

  -- a tail of a phrase
  abbrev Tail : Run Tree → Run (Tree → Tree)
  Tail P k ms vs = (t : Tree) (us : Uses) → P t us ms → P (k t) us vs

  after_is : (P : Run Tree) (t : Tree) (us ms : Uses) → P t us ms → (o : Option (Tree → Tree)) (vs : Uses) → Optional (Tail P) o ms vs → P (after t o) us vs
  after_is P t us ms p None vs e = subst (λ z. P t us z) e p
  after_is P t us ms p (Some k) vs q = q t us p

  -- binders

  of_type_name : Row type_name (IsBound all sites type_word)
  of_type_name = one_of (turned a_sign (λ u us vs e. bool_is all sites us vs e)) (weaker a_word (λ T us vs w. type_is all sites T us vs w))

  a_variable : Row (typed BindsVariable) (IsBinder all sites type_word)
  a_variable = follow a_word (behind of_type_name)

  of_vars : Row (vars BindsVariable) (Stands all sites variables_told)
  of_vars = turned (in_row a_variable) (λ l us vs w. binders_are all sites mark.Colon type_word l us vs w)

  of_variables : Row variables (Stands all sites variables_told)
  of_variables = bracketed (or_this Empty (λ us vs e. binders_are all sites mark.Colon type_word [] us vs e) of_vars)

  of_indices : Row (indices BindsVariable (Asks AParam)) (Stands all sites indices_told)
  of_indices = turned (in_row (follow a_word (behind (weaker a_word (λ n us vs w. param_is all sites n us vs w))))) (λ l us vs w. binders_are all sites mark.AtMost (word (Asks AParam)) l us vs w)

  -- terms

  of_terms : Row terms (AreTerms all sites)
  of_terms = turned (in_row below) (λ l us vs w. terms_are all sites l us vs w)

  -- what follows a name
  abbrev Continues : Run (ℕ → Tree)
  Continues f ms vs = (x : ℕ) (us : Uses) → Word Mentions x us ms → Term (f x) us vs

  of_called : Row called Continues
  of_called = turned (follow a_note below) (λ y ms vs w x us v. apply_is all sites x y.1 us ms w.0 vs v w.1 w.2)

  of_indexed : Row indexed Continues
  of_indexed = turned (follow a_note below) (λ y ms vs w x us v. read_is all sites x y.1 us ms w.0 vs v w.1 w.2)

  of_alone : Row alone Continues
  of_alone = turned a_note (λ n ms vs w x us v. leaf_is all sites sited x us ms vs v w)

  of_mention : Row mention Term
  of_mention = leveled (turned (follow a_word (one_of of_called (one_of of_indexed of_alone))) (λ y us vs w. w.2 y.0 us w.1))

  of_negation : Row negation Term
  of_negation = leveled (turned (behind below) (λ t us vs w. not_is all sites t us vs w))

  of_truth : Row truth Term
  of_truth = leveled (turned a_sign (λ u us vs e. yes_is all sites us vs e))

  of_falsehood : Row falsehood Term
  of_falsehood = leveled (turned a_sign (λ u us vs e. no_is all sites us vs e))

  of_parentheses : Row parentheses Term
  of_parentheses = bracketed below

  of_primary : Row primary Term
  of_primary = one_of of_mention (one_of of_negation (one_of of_truth (one_of of_falsehood of_parentheses)))

  of_unequal : Row unequal Term
  of_unequal = leveled (behind below)

  of_equal_to : Row equal_to (Tail Term)
  of_equal_to = turned (behind_sign (leveled a_sign) below) (λ y ms vs w l us p. eq_is all sites l y.1 us ms vs p w)

  of_unequal_to : Row unequal_to (Tail Term)
  of_unequal_to = turned below (λ r ms vs w l us p. not_is all sites (Node Eq l r) us vs (eq_is all sites l r us ms vs p w))

  of_equality : Row equality Term
  of_equality = turned (follow of_primary (perhaps (one_of of_equal_to of_unequal_to))) (λ x us vs w. after_is Term x.0 us w.0 w.1 x.1 vs w.2)

  of_conjoined : Row conjoined (Tail Term)
  of_conjoined = turned (behind_sign (leveled a_sign) below) (λ y ms vs w l us p. and_is all sites l y.1 us ms vs p w)

  of_conjunction : Row conjunction Term
  of_conjunction = turned (follow of_equality (perhaps of_conjoined)) (λ x us vs w. after_is Term x.0 us w.0 w.1 x.1 vs w.2)

  of_disjoined : Row disjoined (Tail Term)
  of_disjoined = turned (behind_sign (leveled a_sign) below) (λ y ms vs w l us p. or_is all sites l y.1 us ms vs p w)

  of_term : Row term Term
  of_term = turned (follow of_conjunction (perhaps of_disjoined)) (λ x us vs w. after_is Term x.0 us w.0 w.1 x.1 vs w.2)

  of_arguments : Row arguments (AreTerms all sites)
  of_arguments = bracketed of_terms

  of_subscript : Row subscript (AreTerms all sites)
  of_subscript = squared of_terms

  -- cells

  cell_is : (x : ℕ) (us ms : Uses) → Word MentionsCell x us ms → (o : Option Tree) (vs : Uses) → Optional (AreTerms all sites) o ms vs → Stands all sites cell_told (cell_of x o) us vs
  cell_is x us ms w None vs e = cell_leaf_is all sites sited x us vs (subst (λ z. Word MentionsCell x us z) e w)
  cell_is x us ms w (Some l) vs p = cell_read_is all sites x l us ms vs w p

  of_cell : Row cell (Stands all sites cell_told)
  of_cell = leveled (turned (follow a_word (perhaps below)) (λ x us vs w. cell_is x.0 us w.0 w.1 x.1 vs w.2))

  of_cells : Row cells (Stands all sites (cells_told []))
  of_cells = bracketed (turned (in_row below) (λ l us vs w. cells_are all sites l us vs w))

  abbrev IsCondition : Run (Tree × Tree)
  IsCondition c us vs = (ms : Uses) × Stands all sites (cells_told []) c.0 us ms × Term c.1 ms vs

  of_condition : Row condition IsCondition
  of_condition = one_of (behind (follow below (or_this yes (λ us vs e. yes_is all sites us vs e) (behind below)))) (turned below (λ t us vs w. (us, cells_are all sites [] us us refl, w)))

  -- processes

  -- the branches of a `find`
  abbrev AreArms : Run (ℕ × Tree)
  AreArms x us vs = (l : List Tree) × (x.1 ≡ chain l) × InTurn (IsArm all sites) l us vs

  of_branches : Row (find_in sort.ProcessBranch) AreArms
  of_branches = turned (behind_sign a_find (behind_sign (weaker (perhaps (behind a_number)) skipped) (follow below (several (behind below))))) (λ x us vs w. (x.1.1.0 ∷ x.1.1.1, refl, w))

  of_ending : Row ending Process
  of_ending = leveled (turned a_nought (λ u us vs e. stop_is all sites us vs e))

  of_replication : Row replication Process
  of_replication = leveled (turned (behind (follow a_word (behind (follow a_word below)))) (λ x us vs w. repl_is all sites x.0 x.1.0 x.1.1 us w.0 w.2.0 vs w.1 w.2.1 w.2.2))

  of_receiving : Row receiving Process
  of_receiving = leveled (turned (behind (follow below (behind below))) (λ x us vs w. in_is all sites x.0 x.1 us w.0 vs w.1 w.2))

  of_input : Row input Process
  of_input = one_of of_ending (one_of (bracketed below) (one_of of_replication of_receiving))

  of_beside : Row beside (Tail Process)
  of_beside = turned (behind_sign (leveled a_sign) below) (λ y ms vs w l us p. par_is all sites l y.1 us ms vs p w)

  pub of_inputs : Row inputs Process
  of_inputs = turned (follow of_input (perhaps of_beside)) (λ x us vs w. after_is Process x.0 us w.0 w.1 x.1 vs w.2)

  -- a channel with its indices, and what goes over it

  of_channel : Row channel (Then (Word (Asks AChannel)) (HasIndices all sites))
  of_channel = follow a_word (or_this Empty (λ us vs e. record { list = []; is = refl; asked = e }) below)

  of_channel_indices : Row channel_indices (HasIndices all sites)
  of_channel_indices = squared (turned (in_row a_word) (λ l us vs w. record { list = l; is = refl; asked = w }))

  of_received : Row received (Stands all sites variables_told)
  of_received = one_of below (turned a_variable (λ b us vs w. binders_are all sites mark.Colon type_word (b ∷ []) us vs (vs, w, refl)))

  of_pattern : Row pattern (GoesOver all sites variables_told)
  of_pattern = bracketed (turned (follow of_channel (behind of_received)) (λ x us vs w. record { behind_name = w.1.0; behind_indices = w.0; channel = w.1.1; indices = w.1.2; message = w.2 }))

  of_sent : Row sent (AreTerms all sites)
  of_sent = one_of below (turned below (λ t us vs w. terms_are all sites (t ∷ []) us vs (vs, w, refl)))

  of_sending : Row sending (GoesOver all sites (terms_told []))
  of_sending = bracketed (turned (follow of_channel (behind of_sent)) (λ x us vs w. record { behind_name = w.1.0; behind_indices = w.0; channel = w.1.1; indices = w.1.2; message = w.2 }))

  of_payload : Row payload (AreTerms all sites)
  of_payload = bracketed (or_this Empty (λ us vs e. terms_are all sites [] us vs e) of_terms)

  of_continuation : Row continuation Process
  of_continuation = or_this stops (λ us vs e. stop_is all sites us vs e) (behind below)

  of_yielding : Row yielding Process
  of_yielding = leveled (turned a_sign (λ u us vs e. yield_is all sites us vs e))

  of_outgoing : Row outgoing Process
  of_outgoing = leveled (turned (behind (follow below of_continuation)) (λ x us vs w. out_is all sites x.0 x.1 us w.0 vs w.1 w.2))

  of_restriction : Row restriction Process
  of_restriction = leveled (turned (behind (follow a_variable (behind below))) (λ x us vs w. new_is all sites x.0.0 x.0.1 x.1 us w.1.0 w.0 vs w.1.1 w.1.2 w.2))

  of_assignment : Row assignment Process
  of_assignment = leveled (turned (behind (follow a_variable (behind (follow below (behind below))))) (λ x us vs w. let_is all sites x.0.0 x.0.1 x.1.0 x.1.1 us w.1.0 w.0 w.2.0 vs w.1.1 w.1.2 w.2.1 w.2.2))

  of_recording : Row recording Process
  of_recording = leveled (turned (behind (follow a_word (follow (or_this Empty (λ us vs e. terms_are all sites [] us vs e) below) (behind below)))) (λ x us vs w. event_is all sites x.0 x.1.0 x.1.1 us w.0 w.2.0 vs w.1 w.2.1 w.2.2))

  of_otherwise : Row otherwise Process
  of_otherwise = or_this yields (λ us vs e. yield_is all sites us vs e) (behind below)

  of_testing : Row testing Process
  of_testing = leveled (turned (behind (follow below (behind (follow below of_otherwise)))) (λ x us vs w. if_is all sites x.0 x.1.0 x.1.1 us w.0 w.2.0 vs w.1 w.2.1 w.2.2))

  found : (k : ℕ) (bs t : Tree) (us ms vs : Uses) → AreArms (k, bs) us ms → Process t ms vs → Process (Node (Find k) bs t) us vs
  found k bs t us ms vs w q = subst (λ z. Process (Node (Find k) z t) us vs) (sym w.1) (find_is all sites k w.0 t us ms vs w.2 q)

  of_finding : Row finding Process
  of_finding = leveled (turned (follow of_branches of_otherwise) (λ x us vs w. found x.0.0 x.0.1 x.1 us w.0 vs w.1 w.2))

  of_branch : Row branch (IsArm all sites)
  of_branch =
      leveled (turned (follow (or_this Empty (λ us vs e. binders_are all sites mark.AtMost (word (Asks AParam)) [] us vs e) of_indices) (behind (follow of_condition (behind below)))) (λ x us vs w.
      record {
        indices = x.0;
        cells = x.1.0.0;
        term = x.1.0.1;
        body = x.1.1;
        is = refl;
        behind_indices = w.0;
        behind_cells = w.2.1.0;
        behind_term = w.2.0;
        bound = w.1;
        defined = w.2.1.1;
        asked = w.2.1.2;
        goes_on = w.2.2;
      }
      ))

  of_output : Row output Process
  of_output =
      one_of of_yielding
      (one_of (bracketed below)
      (one_of of_outgoing
      (one_of of_restriction
      (one_of of_assignment
      (one_of of_recording
      (one_of of_testing of_finding))))))

  pub rows_stand : (s : Sort) (t : Tree) (us vs : Uses) → Says StandsAt (rule s) t us vs → StandsAt s t us vs
  rows_stand sort.Term t us vs y = of_term.gives t us vs y
  rows_stand sort.Conjunction t us vs y = of_conjunction.gives t us vs y
  rows_stand sort.Primary t us vs y = of_primary.gives t us vs y
  rows_stand sort.Unequal t us vs y = of_unequal.gives t us vs y
  rows_stand sort.Arguments t us vs y = of_arguments.gives t us vs y
  rows_stand sort.Subscript t us vs y = of_subscript.gives t us vs y
  rows_stand sort.Parentheses t us vs y = of_parentheses.gives t us vs y
  rows_stand sort.Inputs t us vs y = of_inputs.gives t us vs y
  rows_stand sort.Input t us vs y = of_input.gives t us vs y
  rows_stand sort.Output t us vs y = of_output.gives t us vs y
  rows_stand sort.Pattern t us vs y = of_pattern.gives t us vs y
  rows_stand sort.Sending t us vs y = of_sending.gives t us vs y
  rows_stand sort.Payload t us vs y = of_payload.gives t us vs y
  rows_stand sort.Variables t us vs y = of_variables.gives t us vs y
  rows_stand sort.Indices t us vs y = of_channel_indices.gives t us vs y
  rows_stand sort.ProcessBranch t us vs y = of_branch.gives t us vs y
  rows_stand sort.Cells t us vs y = of_cells.gives t us vs y
  rows_stand sort.OneCell t us vs y = of_cell.gives t us vs y
  rows_stand _ t us vs y = tt
