-- The rows of processes make trees where what is applied is a function, and the cells of `defined` lists are of variables, by
-- what their uses of names say.
use Rattle.std.proofs.Common.{◌≡◌, ℕ, zero, suc, Bool, true, false, [], ◌∷◌, ◌++◌, List, Option, Some, None, inl, inr, ap, subst, ◌∙◌}
use Rattle.std.specs.List.{AllByRecursion}
use Rattle.cv_syntax_trees.specs.declared.head.Head.{Head}
use Rattle.cv_syntax_trees.specs.Tree.{Tree, Empty, Node, binders, chain, first, names, second}
use Rattle.cv_parse_notation.specs.declared.sign.Sign.{Sign}
use Rattle.cv_parse_notation.specs.Form.{deeper, either, word}
use Rattle.cv_parse_notation.specs.Spells.{IsSort, Relation, Spells, no_sort, used}
use Rattle.cv_parse_grammar.specs.declared.role.Asked.TheVariants.{AParam}
use Rattle.cv_parse_grammar.specs.declared.role.Role.{Role}
use Rattle.cv_parse_grammar.specs.declared.role.Role.TheVariants.{Asks, BindsVariable, Mentions, MentionsCell}
use Rattle.cv_parse_grammar.specs.Names.{Uses, as_call}
use Rattle.cv_parse_grammar.specs.Phrases.{Phrase, Sort, after, indices, vars}
use Rattle.cv_parse_grammar.specs.Phrases as sort
use Rattle.cv_parse_grammar.specs.Terms.{alone, arguments, called, cell, cell_of, cells, condition, conjoined, conjunction, disjoined, equal_to, equality, falsehood, indexed, mention, negation, parentheses, primary, subscript, term, terms, truth, unequal, unequal_to, yes}
use Rattle.cv_parse_grammar.specs.Processes.{assignment, beside, branch, channel, channel_indices, continuation, ending, find_in, finding, input, inputs, otherwise, outgoing, output, pattern, payload, received, receiving, recording, replication, restriction, sending, sent, stops, testing, variables, yielding, yields}
use Rattle.cv_parse_grammar.specs.Rules.{heads, rule}
use Rattle.cv_parse_grammar.specs.yields.Yields.{IfThere}
use Rattle.cv_parse_sorts.proofs.Calls.{AllSay, Gives, Says, Tells, anything, at_back, behind, bracketed, follow, in_row, leveled, one_of, or_this, perhaps, several, squared, turned, weaker}
use Rattle.cv_parse_laws.proofs.roles.Forms.{Tail, after_is}
use Rattle.cv_parse_sorts.proofs.NamedTrees.{AreCells, HasNamed, IsCell, NamesHere}

module _ (F V : ℕ → Type 0) where
  pub record Is (t : Tree) : Type 0 where
    pub named : HasNamed F V t

  -- a channel with its indices, and binders or terms
  pub record IsMessage (t : Tree) : Type 0 where
    pub indices : Is (first t)
    pub items : Is (second t)

  pub record IsOneCell (t : Tree) : Type 0 where
    pub parts : Is t
    pub variable : IsCell F V t

  pub record IsList (t : Tree) : Type 0 where
    pub parts : Is t
    pub variables : AreCells F V t

  -- what the phrases of a sort have; those of equivalences, of queries and of the proof block stand in no game
  abbrev pub OfSort : Sort → Tree → Type 0
  OfSort sort.Pattern t = IsMessage t
  OfSort sort.Sending t = IsMessage t
  OfSort sort.Cells t = IsList t
  OfSort sort.OneCell t = IsOneCell t
  OfSort sort.Body t = Unit {0}
  OfSort sort.BodyBranch t = Unit {0}
  OfSort sort.LeftFunction t = Unit {0}
  OfSort sort.RightFunction t = Unit {0}
  OfSort sort.RightRest t = Unit {0}
  OfSort sort.RightSide t = Unit {0}
  OfSort sort.Braces t = Unit {0}
  OfSort s t = Is t

  -- trees

  empty : Is Empty
  unfolding HasNamed
  empty = record { named = tt }

  node : {h : Head} {a b : Tree} → NamesHere F V h b → Is a → Is b → Is (Node h a b)
  unfolding HasNamed
  node n v w = record { named = (n, v.named, w.named) }

  chained : (l : List Tree) → AllByRecursion Is l → Is (chain l)
  chained [] w = empty
  chained (t ∷ l) w = node tt w.0 (chained l w.1)

  named_names : (l : List ℕ) → Is (names l)
  named_names [] = empty
  named_names (x ∷ l) = node tt empty (named_names l)

  named_binders : (l : List (ℕ × ℕ)) → Is (binders l)
  named_binders [] = empty
  named_binders (b ∷ l) = node tt empty (named_binders l)

  listed_cells : (l : List Tree) → AllByRecursion IsOneCell l → IsList (chain l)
  listed_cells [] w = record { parts = empty; variables = tt }
  listed_cells (t ∷ l) w = let r = listed_cells l w.1 in record { parts = node tt w.0.parts r.parts; variables = (w.0.variable, r.variables) }

  module _ (room : Bool) (below : Sort → Relation Role Tree) (low : (s : Sort) → Tells F V (below s) (OfSort s)) where
    abbrev Makes : {A : Type 0} → Phrase A → (A → Type 0) → Type 0
    Makes f p = Gives F V room below f p

    one_below : {s : Sort} → Makes (deeper s) (OfSort s)
    one_below {s} = record { gives = low s }

    -- binders

    of_vars : Makes (vars BindsVariable) Is
    of_vars = turned anything (λ l w. named_binders l)

    of_variables : Makes variables Is
    of_variables = bracketed (or_this Empty empty of_vars)

    of_indices : Makes (indices BindsVariable (Asks AParam)) Is
    of_indices = turned anything (λ l w. named_binders l)

    -- terms

    abbrev Applies : (ℕ → Tree) → Type 0
    Applies f = (x : ℕ) → Is (f x)

    of_terms : Makes terms Is
    of_terms = turned (in_row one_below) chained

    of_arguments : Makes arguments Is
    of_arguments = bracketed of_terms

    of_subscript : Makes subscript Is
    of_subscript = squared of_terms

    of_parentheses : Makes parentheses Is
    of_parentheses = bracketed one_below

    of_indexed : Makes indexed Applies
    of_indexed = turned (follow anything one_below) (λ l w x. node tt w.1 empty)

    of_alone : Makes alone Applies
    of_alone = turned anything (λ n w x. node tt empty empty)

    of_arguments_behind : Makes (deeper sort.Arguments) Is
    of_arguments_behind = one_below

    of_uncalled : Makes (either indexed alone) Applies
    of_uncalled = one_of of_indexed of_alone

    -- what follows a name makes a tree of it, which is a function where arguments follow
    of_rest : (ts : List Sign) (f : ℕ → Tree) (us : Uses) (rest : List Sign) → Spells heads room below (either called (either indexed alone)) ts f us rest → AllSay F V us → (x : ℕ) → (as_call us ≡ true → F x) → Is (f x)
    of_rest ts f us rest (inl d) w x k =
        let e = d.1 in
        let call : as_call us ≡ true = ap as_call (e.uses ∙ ap (λ l. l ++ e.back) e.first.1.uses) in
        subst (λ (g : ℕ → Tree). Is (g x)) d.2 (node (k call) (of_arguments_behind.gives e.mid d.0.1 e.back rest e.second (at_back F V us e.front e.back e.uses w)) empty)
    of_rest ts f us rest (inr d) w x k = of_uncalled.gives ts f us rest d.1 w x

    says_there : (r : Role) (x : ℕ) (ts : List Sign) (us front back : Uses) → us ≡ front ++ back → front ≡ used r x ts → AllSay F V us → Says F V r x back
    says_there r x ts us front back e f w = (subst (AllSay F V) (e ∙ ap (λ l. l ++ back) f) w).0

    of_mention : Makes mention Is
    of_mention = record {
      gives = λ ts t us rest d w.
          let e = d.1.1 in
          let says = says_there Mentions d.1.0.0 ts us e.front e.back e.uses e.first.uses w in
          subst Is d.1.2 (of_rest e.mid d.1.0.1 e.back rest e.second (at_back F V us e.front e.back e.uses w) d.1.0.0 says);
    }

    of_negation : Makes negation Is
    of_negation = leveled (turned (behind one_below) (λ t w. node tt w empty))

    of_truth : Makes truth Is
    of_truth = leveled (turned anything (λ u w. node tt empty empty))

    of_falsehood : Makes falsehood Is
    of_falsehood = leveled (turned anything (λ u w. node tt empty empty))

    of_primary : Makes primary Is
    of_primary = one_of of_mention (one_of of_negation (one_of of_truth (one_of of_falsehood of_parentheses)))

    of_unequal : Makes unequal Is
    of_unequal = leveled (behind one_below)

    of_equal_to : Makes equal_to (Tail Is)
    of_equal_to = turned (follow anything one_below) (λ r w l v. node tt v w.1)

    of_unequal_to : Makes unequal_to (Tail Is)
    of_unequal_to = turned one_below (λ r w l v. node tt (node tt v w) empty)

    of_equality : Makes equality Is
    of_equality = turned (follow of_primary (perhaps (one_of of_equal_to of_unequal_to))) (λ x w. after_is Is x.0 w.0 x.1 w.1)

    of_conjoined : Makes conjoined (Tail Is)
    of_conjoined = turned (follow anything one_below) (λ r w l v. node tt v w.1)

    of_conjunction : Makes conjunction Is
    of_conjunction = turned (follow of_equality (perhaps of_conjoined)) (λ x w. after_is Is x.0 w.0 x.1 w.1)

    of_disjoined : Makes disjoined (Tail Is)
    of_disjoined = turned (follow anything one_below) (λ r w l v. node tt v w.1)

    of_term : Makes term Is
    of_term = turned (follow of_conjunction (perhaps of_disjoined)) (λ x w. after_is Is x.0 w.0 x.1 w.1)

    -- cells

    cell_is : (x : ℕ) (o : Option Tree) → V x → IfThere Is o → IsOneCell (cell_of x o)
    cell_is x None v w = record { parts = node tt empty empty; variable = v }
    cell_is x (Some l) v w = record { parts = node tt w empty; variable = v }

    of_cell_name : Makes (word MentionsCell) V
    of_cell_name = record { gives = λ ts x us rest d w. (subst (AllSay F V) d.uses w).0 }

    of_cell : Makes cell IsOneCell
    of_cell = leveled (turned (follow of_cell_name (perhaps one_below)) (λ x w. cell_is x.0 x.1 w.0 w.1))

    of_cells : Makes cells IsList
    of_cells = bracketed (turned (in_row one_below) listed_cells)

    true_is : Is yes
    true_is = node tt empty empty

    of_condition : Makes condition (λ c. IsList c.0 × Is c.1)
    of_condition = one_of (behind (follow one_below (or_this yes true_is (behind one_below)))) (turned one_below (λ t w. (record { parts = empty; variables = tt }, w)))

    -- processes

    of_branches : Makes (find_in sort.ProcessBranch) (λ b. Is b.1)
    of_branches = turned (follow anything (follow anything (follow one_below (several (behind one_below))))) (λ x w. chained (x.1.1.0 ∷ x.1.1.1) w.1.1)

    of_ending : Makes ending Is
    of_ending = leveled (turned anything (λ u w. node tt empty empty))

    of_replication : Makes replication Is
    of_replication = leveled (turned (behind (follow anything (behind (follow anything one_below)))) (λ x w. node tt empty w.1.1))

    of_receiving : Makes receiving Is
    of_receiving = leveled (turned (behind (follow one_below (behind one_below))) (λ x w. node tt (node tt w.0.indices w.0.items) w.1))

    of_input : Makes input Is
    of_input = one_of of_ending (one_of (bracketed one_below) (one_of of_replication of_receiving))

    of_beside : Makes beside (Tail Is)
    of_beside = turned (follow anything one_below) (λ r w l v. node tt v w.1)

    of_inputs : Makes inputs Is
    of_inputs = turned (follow of_input (perhaps of_beside)) (λ x w. after_is Is x.0 w.0 x.1 w.1)

    of_channel : Makes channel (λ c. Is c.1)
    of_channel = weaker (follow anything (or_this Empty empty one_below)) (λ c w. w.1)

    of_channel_indices : Makes channel_indices Is
    of_channel_indices = squared (turned anything (λ l w. named_names l))

    of_received : Makes received Is
    of_received = one_of one_below (turned anything (λ b w. named_binders (b ∷ [])))

    of_pattern : Makes pattern IsMessage
    of_pattern = bracketed (turned (follow of_channel (behind of_received)) (λ x w. record { indices = w.0; items = w.1 }))

    of_sent : Makes sent Is
    of_sent = one_of one_below (turned one_below (λ t w. chained (t ∷ []) (w, tt)))

    of_sending : Makes sending IsMessage
    of_sending = bracketed (turned (follow of_channel (behind of_sent)) (λ x w. record { indices = w.0; items = w.1 }))

    of_payload : Makes payload Is
    of_payload = bracketed (or_this Empty empty of_terms)

    of_continuation : Makes continuation Is
    of_continuation = or_this stops (node tt empty empty) (behind one_below)

    of_yielding : Makes yielding Is
    of_yielding = leveled (turned anything (λ u w. node tt empty empty))

    of_outgoing : Makes outgoing Is
    of_outgoing = leveled (turned (behind (follow one_below of_continuation)) (λ x w. node tt (node tt w.0.indices w.0.items) w.1))

    of_restriction : Makes restriction Is
    of_restriction = leveled (turned (behind (follow anything (behind one_below))) (λ x w. node tt empty w.1))

    of_assignment : Makes assignment Is
    of_assignment = leveled (turned (behind (follow anything (behind (follow one_below (behind one_below))))) (λ x w. node tt w.1.0 w.1.1))

    of_recording : Makes recording Is
    of_recording = leveled (turned (behind (follow anything (follow (or_this Empty empty one_below) (behind one_below)))) (λ x w. node tt w.1.0 w.1.1))

    of_otherwise : Makes otherwise Is
    of_otherwise = or_this yields (node tt empty empty) (behind one_below)

    of_testing : Makes testing Is
    of_testing = leveled (turned (behind (follow one_below (behind (follow one_below of_otherwise)))) (λ x w. node tt w.0 (node tt w.1.0 (node tt w.1.1 empty))))

    of_finding : Makes finding Is
    of_finding = leveled (turned (follow of_branches of_otherwise) (λ x w. node tt w.0 w.1))

    of_branch : Makes branch Is
    of_branch =
        leveled (turned (follow (or_this Empty empty of_indices) (behind (follow of_condition (behind one_below)))) (λ x w.
        node w.1.0.0.variables w.0 (node tt w.1.0.0.parts (node tt w.1.0.1 w.1.1))
        ))

    of_output : Makes output Is
    of_output =
        one_of of_yielding
        (one_of (bracketed one_below)
        (one_of of_outgoing
        (one_of of_restriction
        (one_of of_assignment
        (one_of of_recording
        (one_of of_testing of_finding))))))

    rows : (s : Sort) → Tells F V (Spells heads room below (rule s)) (OfSort s)
    rows sort.Term = of_term.gives
    rows sort.Conjunction = of_conjunction.gives
    rows sort.Primary = of_primary.gives
    rows sort.Unequal = of_unequal.gives
    rows sort.Arguments = of_arguments.gives
    rows sort.Subscript = of_subscript.gives
    rows sort.Parentheses = of_parentheses.gives
    rows sort.Inputs = of_inputs.gives
    rows sort.Input = of_input.gives
    rows sort.Output = of_output.gives
    rows sort.Pattern = of_pattern.gives
    rows sort.Sending = of_sending.gives
    rows sort.Payload = of_payload.gives
    rows sort.Variables = of_variables.gives
    rows sort.Indices = of_channel_indices.gives
    rows sort.ProcessBranch = of_branch.gives
    rows sort.Cells = of_cells.gives
    rows sort.OneCell = of_cell.gives
    rows _ = λ ts t us rest d w. tt

  sorts_tell : (n : ℕ) (s : Sort) → Tells F V (IsSort heads rule n s) (OfSort s)
  unfolding IsSort
  sorts_tell zero s ts t us rest d w = rows false no_sort (λ s ts t us rest e w. absurd e) s ts t us rest d w
  sorts_tell (suc n) s ts t us rest d w = rows true (IsSort heads rule n) (sorts_tell n) s ts t us rest d w

  pub process_named : (n : ℕ) (ts : List Sign) (t : Tree) (us : Uses) (rest : List Sign) → Spells heads true (IsSort heads rule n) inputs ts t us rest → AllSay F V us → HasNamed F V t
  process_named n ts t us rest d w = ((of_inputs true (IsSort heads rule n) (sorts_tell n)).gives ts t us rest d w).named
