-- The rows of processes and terms, and filling, keep names and labels small.
use Rattle.std.proofs.Common.{◌≡◌, ℕ, zero, suc, Bool, true, false, ◌&&◌, ◌==◌, nat_lt, if◌then◌else◌, List, [], ◌∷◌, ◌++◌, map, take, Option, Some, None, refl}
use Rattle.std.proofs.lemmas.Bool.{and_from, and_parts}
use Rattle.std.specs.List.{AllByRecursion, list_any}
use Rattle.cv_syntax_trees.specs.declared.head.Head.{Head}
use Rattle.cv_syntax_trees.specs.declared.head.Head.TheVariants.{Repl, In, Out, Leaf, Cons}
use Rattle.cv_syntax_trees.specs.Tree.{Tree, Empty, Node, binders, chain, first, lone, names, second}
use Rattle.cv_parse_notation.specs.declared.sign.Mark.{Mark}
use Rattle.cv_parse_notation.specs.Form.{made, may}
use Rattle.cv_parse_grammar.specs.declared.role.Asked.TheVariants.{AParam}
use Rattle.cv_parse_grammar.specs.declared.role.Region.{Region}
use Rattle.cv_parse_grammar.specs.declared.role.Role.TheVariants.{Asks, BindsVariable}
use Rattle.cv_parse_grammar.specs.Filled.{filled_at, now_below, on_channel, read_at, read_plainly}
use Rattle.cv_parse_grammar.specs.Marks.{bare_name, conjunction_of, equality_of, marked_alone, marked_rule, mention_of, primary_of, term_of}
use Rattle.cv_parse_grammar.specs.Phrases.{Phrase, Sort, or_else, after, row, bracket, square, listed, type_name, typed, vars, indices, inside}
use Rattle.cv_parse_grammar.specs.Phrases as sort
use Rattle.cv_parse_grammar.specs.Terms.{terms, arguments, subscript, parentheses, called, indexed, alone, mention, negation, truth, falsehood, primary, unequal, equal_to, unequal_to, equality, conjoined, conjunction, disjoined, term, cell_of, cell, cells, yes, condition}
use Rattle.cv_parse_grammar.specs.Processes.{stops, yields, name_of, channel, channel_indices, find_in, ending, replication, receiving, input, beside, inputs, received, pattern, variables, yielding, sent, sending, payload, continuation, outgoing, restriction, assignment, recording, otherwise, testing, finding, branch, output}
use Rattle.cv_parse_grammar.specs.Rules.{file, rule}
use Rattle.cv_parse_grammar.specs.yields.Yields.{IfThere}
use Rattle.cv_print_bytes.specs.Known.{head_is_named, is_named}
use Rattle.cv_print_bytes.proofs.numbers.Numbering.{Gives, Holds, a_find, a_number, a_word, anything, before, behind, below, fits_label, follow, leveled, one_of, perhaps, several, turned}

module _ (count : ℕ) (some : nat_lt 0 count ≡ true) where
  -- the names of a tree are below the count, and its labels fit
  pub record HasNumbers (t : Tree) : Type 0 where
    pub named : is_named count t ≡ true

  -- a channel with its indices, and what goes over it
  pub record Carries (t : Tree) : Type 0 where
    pub channel : nat_lt (name_of t) count ≡ true
    pub indices : HasNumbers (first t)
    pub message : HasNumbers (second t)

  abbrev Below : ℕ → Type 0
  Below x = nat_lt x count ≡ true

  empty_small : HasNumbers Empty
  unfolding is_named
  empty_small = record { named = refl }

  node_small : {h : Head} {a b : Tree} → head_is_named count h ≡ true → HasNumbers a → HasNumbers b → HasNumbers (Node h a b)
  unfolding is_named
  node_small {h = h} {a = a} {b = b} e v w = record { named = and_from (head_is_named count h) (is_named count a && is_named count b) e (and_from (is_named count a) (is_named count b) v.named w.named) }

  alone_small : {h : Head} → head_is_named count h ≡ true → HasNumbers (lone h)
  alone_small e = node_small e empty_small empty_small

  chained : (l : List Tree) → AllByRecursion HasNumbers l → HasNumbers (chain l)
  chained [] w = empty_small
  chained (t ∷ l) w = node_small refl w.0 (chained l w.1)

  listed_names : (l : List ℕ) → AllByRecursion Below l → HasNumbers (names l)
  listed_names [] w = empty_small
  listed_names (x ∷ l) w = node_small w.0 empty_small (listed_names l w.1)

  -- a name with another
  abbrev Both : ℕ × ℕ → Type 0
  Both b = (nat_lt b.0 count ≡ true) × (nat_lt b.1 count ≡ true)

  bound : (l : List (ℕ × ℕ)) → AllByRecursion Both l → HasNumbers (binders l)
  bound [] w = empty_small
  bound (b ∷ l) w = node_small (and_from (nat_lt b.0 count) (nat_lt b.1 count) w.0.0 w.0.1) empty_small (bound l w.1)

  -- what the phrases of a sort are
  abbrev pub SmallOf : Sort → Tree → Type 0
  SmallOf sort.Term t = HasNumbers t
  SmallOf sort.Conjunction t = HasNumbers t
  SmallOf sort.Primary t = HasNumbers t
  SmallOf sort.Unequal t = HasNumbers t
  SmallOf sort.Parentheses t = HasNumbers t
  SmallOf sort.Arguments t = HasNumbers t
  SmallOf sort.Subscript t = HasNumbers t
  SmallOf sort.Payload t = HasNumbers t
  SmallOf sort.Inputs t = HasNumbers t
  SmallOf sort.Input t = HasNumbers t
  SmallOf sort.Output t = HasNumbers t
  SmallOf sort.Pattern t = Carries t
  SmallOf sort.Sending t = Carries t
  SmallOf sort.Variables t = HasNumbers t
  SmallOf sort.Indices t = HasNumbers t
  SmallOf sort.ProcessBranch t = HasNumbers t
  SmallOf sort.Cells t = HasNumbers t
  SmallOf sort.OneCell t = HasNumbers t
  SmallOf _ t = Unit {0}

  abbrev Makes : {A : Type 0} → Phrase A → (A → Type 0) → Type 0
  Makes f Q = Gives count SmallOf f Q

  in_row : {A : Type 0} {m : Mark} {f : Phrase A} {p : A → Type 0} → Makes f p → Makes (row m f) (AllByRecursion p)
  in_row i = turned (follow i (several (behind i))) (λ x w. w)

  bracketed : {A : Type 0} {f : Phrase A} {p : A → Type 0} → Makes f p → Makes (bracket f) p
  bracketed i = leveled (behind (before i))

  squared : {A : Type 0} {f : Phrase A} {p : A → Type 0} → Makes f p → Makes (square f) p
  squared i = leveled (behind (before i))

  enclosed : {A : Type 0} {r : Region} {f : Phrase A} {p : A → Type 0} → Makes f p → Makes (inside r f) p
  enclosed i = turned (follow anything (follow i anything)) (λ x w. w.1.0)

  else_is : {A : Type 0} (p : A → Type 0) (a : A) → p a → (o : Option A) → IfThere p o → p (or_else a o)
  else_is p a w None v = w
  else_is p a w (Some b) v = v

  or_this : {A : Type 0} {near : Bool} {f : Phrase A} {p : A → Type 0} (a : A) → p a → Makes f p → Makes (made (or_else a) (may near f)) p
  or_this {p = p} a w i = turned (perhaps i) (else_is p a w)

  in_list : {f : Phrase Tree} → Makes f HasNumbers → Makes (listed f) HasNumbers
  in_list i = or_this Empty empty_small i

  abbrev Tail : (Tree → Tree) → Type 0
  Tail k = (t : Tree) → HasNumbers t → HasNumbers (k t)

  after_is : (t : Tree) → HasNumbers t → (o : Option (Tree → Tree)) → IfThere Tail o → HasNumbers (after t o)
  after_is t w None v = w
  after_is t w (Some f) v = v t w

  -- binders

  of_type_name : Makes type_name Below
  of_type_name = one_of (turned anything (λ u w. some)) a_word

  a_variable : Makes (typed BindsVariable) Both
  a_variable = follow a_word (behind of_type_name)

  of_vars : Makes (vars BindsVariable) HasNumbers
  of_vars = turned (in_row a_variable) (λ l w. bound l w)

  of_variables : Makes variables HasNumbers
  of_variables = bracketed (in_list of_vars)

  of_indices : Makes (indices BindsVariable (Asks AParam)) HasNumbers
  of_indices = turned (in_row (follow a_word (behind a_word))) (λ l w. bound l w)

  -- terms

  abbrev Applies : (ℕ → Tree) → Type 0
  Applies f = (x : ℕ) → nat_lt x count ≡ true → HasNumbers (f x)

  of_terms : Makes terms HasNumbers
  of_terms = turned (in_row below) (λ l w. chained l w)

  of_arguments : Makes arguments HasNumbers
  of_arguments = bracketed of_terms

  of_subscript : Makes subscript HasNumbers
  of_subscript = squared of_terms

  of_parentheses : Makes parentheses HasNumbers
  of_parentheses = bracketed below

  of_called : Makes called Applies
  of_called = turned (follow anything below) (λ l w x e. node_small e w.1 empty_small)

  of_indexed : Makes indexed Applies
  of_indexed = turned (follow anything below) (λ l w x e. node_small e w.1 empty_small)

  of_alone : Makes alone Applies
  of_alone = turned anything (λ n w x e. alone_small e)

  of_mention : Makes mention HasNumbers
  of_mention = leveled (turned (follow a_word (one_of of_called (one_of of_indexed of_alone))) (λ x w. w.1 x.0 w.0))

  of_negation : Makes negation HasNumbers
  of_negation = leveled (turned (behind below) (λ t w. node_small refl w empty_small))

  of_truth : Makes truth HasNumbers
  of_truth = leveled (turned anything (λ u w. alone_small refl))

  of_falsehood : Makes falsehood HasNumbers
  of_falsehood = leveled (turned anything (λ u w. alone_small refl))

  of_primary : Makes primary HasNumbers
  of_primary = one_of of_mention (one_of of_negation (one_of of_truth (one_of of_falsehood of_parentheses)))

  of_unequal : Makes unequal HasNumbers
  of_unequal = leveled (behind below)

  of_equal_to : Makes equal_to Tail
  of_equal_to = turned (follow anything below) (λ r w l v. node_small refl v w.1)

  of_unequal_to : Makes unequal_to Tail
  of_unequal_to = turned below (λ r w l v. node_small refl (node_small refl v w) empty_small)

  of_equality : Makes equality HasNumbers
  of_equality = turned (follow of_primary (perhaps (one_of of_equal_to of_unequal_to))) (λ x w. after_is x.0 w.0 x.1 w.1)

  of_conjoined : Makes conjoined Tail
  of_conjoined = turned (follow anything below) (λ r w l v. node_small refl v w.1)

  of_conjunction : Makes conjunction HasNumbers
  of_conjunction = turned (follow of_equality (perhaps of_conjoined)) (λ x w. after_is x.0 w.0 x.1 w.1)

  of_disjoined : Makes disjoined Tail
  of_disjoined = turned (follow anything below) (λ r w l v. node_small refl v w.1)

  of_term : Makes term HasNumbers
  of_term = turned (follow of_conjunction (perhaps of_disjoined)) (λ x w. after_is x.0 w.0 x.1 w.1)

  -- the same, where names may have marks

  bare_small : (x : ℕ) → nat_lt x count ≡ true → (o : Option (Unit {0})) → HasNumbers (bare_name x o)
  bare_small x e None = alone_small e
  bare_small x e (Some u) = alone_small e

  of_marked_alone : Makes marked_alone Applies
  of_marked_alone = turned (follow anything (perhaps anything)) (λ c w x e. bare_small x e c.1)

  of_marked_mention : Makes (mention_of true) HasNumbers
  of_marked_mention = leveled (turned (follow a_word (one_of of_called (one_of of_indexed of_marked_alone))) (λ x w. w.1 x.0 w.0))

  of_marked_primary : Makes (primary_of true) HasNumbers
  of_marked_primary = one_of of_marked_mention (one_of of_negation (one_of of_truth (one_of of_falsehood of_parentheses)))

  of_marked_equality : Makes (equality_of true) HasNumbers
  of_marked_equality = turned (follow of_marked_primary (perhaps (one_of of_equal_to of_unequal_to))) (λ x w. after_is x.0 w.0 x.1 w.1)

  of_marked_conjunction : Makes (conjunction_of true) HasNumbers
  of_marked_conjunction = turned (follow of_marked_equality (perhaps of_conjoined)) (λ x w. after_is x.0 w.0 x.1 w.1)

  of_marked_term : Makes (term_of true) HasNumbers
  of_marked_term = turned (follow of_marked_conjunction (perhaps of_disjoined)) (λ x w. after_is x.0 w.0 x.1 w.1)

  cell_is : (x : ℕ) → nat_lt x count ≡ true → (o : Option Tree) → IfThere HasNumbers o → HasNumbers (cell_of x o)
  cell_is x e None w = alone_small e
  cell_is x e (Some l) w = node_small e w empty_small

  of_cell : Makes cell HasNumbers
  of_cell = leveled (turned (follow a_word (perhaps below)) (λ x w. cell_is x.0 w.0 x.1 w.1))

  of_cells : Makes cells HasNumbers
  of_cells = bracketed (turned (in_row below) (λ l w. chained l w))

  abbrev IsCondition : Tree × Tree → Type 0
  IsCondition c = HasNumbers c.0 × HasNumbers c.1

  of_condition : Makes condition IsCondition
  of_condition = one_of (behind (follow below (or_this yes (alone_small refl) (behind below)))) (turned below (λ t w. (empty_small, w)))

  -- processes

  abbrev AreBranches : ℕ × Tree → Type 0
  AreBranches b = (fits_label b.0 ≡ true) × HasNumbers b.1

  of_branches : Makes (find_in sort.ProcessBranch) AreBranches
  of_branches =
      turned (follow a_find (follow (perhaps (behind a_number)) (follow below (several (behind below))))) (λ x w.
      (else_is (λ k. fits_label k ≡ true) x.0 w.0 x.1.0 w.1.0, chained (x.1.1.0 ∷ x.1.1.1) w.1.1)
      )

  of_ending : Makes ending HasNumbers
  of_ending = leveled (turned anything (λ u w. alone_small refl))

  of_replication : Makes replication HasNumbers
  of_replication = leveled (turned (behind (follow a_word (behind (follow a_word below)))) (λ x w. node_small (and_from (nat_lt x.0 count) (nat_lt x.1.0 count) w.0 w.1.0) empty_small w.1.1))

  of_receiving : Makes receiving HasNumbers
  of_receiving = leveled (turned (behind (follow below (behind below))) (λ x w. node_small w.0.channel (node_small refl w.0.indices w.0.message) w.1))

  of_input : Makes input HasNumbers
  of_input = one_of of_ending (one_of (bracketed below) (one_of of_replication of_receiving))

  of_beside : Makes beside Tail
  of_beside = turned (follow anything below) (λ r w l v. node_small refl v w.1)

  of_inputs : Makes inputs HasNumbers
  of_inputs = turned (follow of_input (perhaps of_beside)) (λ x w. after_is x.0 w.0 x.1 w.1)

  abbrev IsChannel : ℕ × Tree → Type 0
  IsChannel c = (nat_lt c.0 count ≡ true) × HasNumbers c.1

  of_channel : Makes channel IsChannel
  of_channel = follow a_word (in_list below)

  of_channel_indices : Makes channel_indices HasNumbers
  of_channel_indices = squared (turned (in_row a_word) (λ l w. listed_names l w))

  of_received : Makes received HasNumbers
  of_received = one_of below (turned a_variable (λ b w. bound (b ∷ []) (w, tt)))

  of_pattern : Makes pattern Carries
  of_pattern = bracketed (turned (follow of_channel (behind of_received)) (λ x w. record { channel = w.0.0; indices = w.0.1; message = w.1 }))

  of_sent : Makes sent HasNumbers
  of_sent = one_of below (turned below (λ t w. chained (t ∷ []) (w, tt)))

  of_sending : Makes sending Carries
  of_sending = bracketed (turned (follow of_channel (behind of_sent)) (λ x w. record { channel = w.0.0; indices = w.0.1; message = w.1 }))

  of_payload : Makes payload HasNumbers
  of_payload = bracketed (in_list of_terms)

  of_continuation : Makes continuation HasNumbers
  of_continuation = or_this stops (alone_small refl) (behind below)

  of_yielding : Makes yielding HasNumbers
  of_yielding = leveled (turned anything (λ u w. alone_small refl))

  of_outgoing : Makes outgoing HasNumbers
  of_outgoing = leveled (turned (behind (follow below of_continuation)) (λ x w. node_small w.0.channel (node_small refl w.0.indices w.0.message) w.1))

  of_restriction : Makes restriction HasNumbers
  of_restriction = leveled (turned (behind (follow a_variable (behind below))) (λ x w. node_small (and_from (nat_lt x.0.0 count) (nat_lt x.0.1 count) w.0.0 w.0.1) empty_small w.1))

  of_assignment : Makes assignment HasNumbers
  of_assignment = leveled (turned (behind (follow a_variable (behind (follow below (behind below))))) (λ x w. node_small (and_from (nat_lt x.0.0 count) (nat_lt x.0.1 count) w.0.0 w.0.1) w.1.0 w.1.1))

  of_recording : Makes recording HasNumbers
  of_recording = leveled (turned (behind (follow a_word (follow (in_list below) (behind below)))) (λ x w. node_small w.0 w.1.0 w.1.1))

  of_otherwise : Makes otherwise HasNumbers
  of_otherwise = or_this yields (alone_small refl) (behind below)

  of_testing : Makes testing HasNumbers
  of_testing = leveled (turned (behind (follow below (behind (follow below of_otherwise)))) (λ x w. node_small refl w.0 (node_small refl w.1.0 (node_small refl w.1.1 empty_small))))

  of_finding : Makes finding HasNumbers
  of_finding = leveled (turned (follow of_branches of_otherwise) (λ x w. node_small w.0.0 w.0.1 w.1))

  of_branch : Makes branch HasNumbers
  of_branch = leveled (turned (follow (in_list of_indices) (behind (follow of_condition (behind below)))) (λ x w. node_small refl w.0 (node_small refl w.1.0.0 (node_small refl w.1.0.1 w.1.1))))

  of_output : Makes output HasNumbers
  of_output =
      one_of of_yielding
      (one_of (bracketed below)
      (one_of of_outgoing
      (one_of of_restriction
      (one_of of_assignment
      (one_of of_recording
      (one_of of_testing of_finding))))))

  pub rows : (s : Sort) (t : Tree) → Holds count SmallOf (rule s) t → SmallOf s t
  rows sort.Term t y = of_term.gives t y
  rows sort.Conjunction t y = of_conjunction.gives t y
  rows sort.Primary t y = of_primary.gives t y
  rows sort.Unequal t y = of_unequal.gives t y
  rows sort.Arguments t y = of_arguments.gives t y
  rows sort.Subscript t y = of_subscript.gives t y
  rows sort.Parentheses t y = of_parentheses.gives t y
  rows sort.Inputs t y = of_inputs.gives t y
  rows sort.Input t y = of_input.gives t y
  rows sort.Output t y = of_output.gives t y
  rows sort.Pattern t y = of_pattern.gives t y
  rows sort.Sending t y = of_sending.gives t y
  rows sort.Payload t y = of_payload.gives t y
  rows sort.Variables t y = of_variables.gives t y
  rows sort.Indices t y = of_channel_indices.gives t y
  rows sort.ProcessBranch t y = of_branch.gives t y
  rows sort.Cells t y = of_cells.gives t y
  rows sort.OneCell t y = of_cell.gives t y
  rows _ t y = tt

  pub marked_rows : (s : Sort) (t : Tree) → Holds count SmallOf (marked_rule s) t → SmallOf s t
  marked_rows sort.Term t y = of_marked_term.gives t y
  marked_rows sort.Conjunction t y = of_marked_conjunction.gives t y
  marked_rows sort.Primary t y = of_marked_primary.gives t y
  marked_rows s t y = rows s t y

  pub of_file : Makes file (λ f. HasNumbers f.game)
  of_file = turned (follow anything (follow anything (behind (enclosed of_inputs)))) (λ x w. w.1.1)

  -- filling

  taken : (k : ℕ) (l : List ℕ) → AllByRecursion Below l → AllByRecursion Below (take k l)
  taken zero l w = tt
  taken (suc k) [] w = tt
  taken (suc k) (x ∷ l) w = (w.0, taken k l w.1)

  one_more : (l : List ℕ) (i : ℕ) → AllByRecursion Below l → nat_lt i count ≡ true → AllByRecursion Below (l ++ i ∷ [])
  one_more [] i w e = (e, tt)
  one_more (x ∷ l) i w e = (w.0, one_more l i w.1 e)

  leaves : (l : List ℕ) → AllByRecursion Below l → HasNumbers (chain (map (λ i. lone (Leaf i)) l))
  leaves [] w = empty_small
  leaves (i ∷ l) w = node_small refl (alone_small w.0) (leaves l w.1)

  at_indices : (x : ℕ) → nat_lt x count ≡ true → (l : List ℕ) → AllByRecursion Below l → HasNumbers (read_at x l)
  at_indices x e [] w = alone_small e
  at_indices x e (i ∷ l) w = node_small e (leaves (i ∷ l) w) empty_small

  plainly : (x : ℕ) → nat_lt x count ≡ true → (o : Option ℕ) (now : List ℕ) → AllByRecursion Below now → HasNumbers (read_plainly o now x)
  plainly x e None now w = alone_small e
  plainly x e (Some k) now w = at_indices x e (take k now) (taken k now w)

  barely : (x : ℕ) → nat_lt x count ≡ true → (b : Bool) (o : Option ℕ) (now : List ℕ) → AllByRecursion Below now → HasNumbers (if b then lone (Leaf x) else read_plainly o now x)
  barely x e true o now w = alone_small e
  barely x e false o now w = plainly x e o now w

  current : (now : List ℕ) (b : Tree) → AllByRecursion Below now → HasNumbers (Node Cons Empty b) → HasNumbers (Node Cons (names now) b)
  unfolding is_named
  current now b w e = node_small refl (listed_names now w) (record { named = e.named })

  channel_small : (h : Head) (now : List ℕ) (a : Tree) → AllByRecursion Below now → HasNumbers a → HasNumbers (on_channel h now a)
  channel_small (In c) now (Node Cons Empty b) w e = current now b w e
  channel_small (Out c) now (Node Cons Empty b) w e = current now b w e
  channel_small h now a w e = e

  under : (h : Head) (now : List ℕ) → head_is_named count h ≡ true → AllByRecursion Below now → AllByRecursion Below (now_below h now)
  under (Repl i n) now e w = one_more now i w (and_parts (nat_lt i count) (nat_lt n count) e).0
  under h now e w = w

  pub filled_small : (sites : ℕ → Option ℕ) (now : List ℕ) (t : Tree) → AllByRecursion Below now → HasNumbers t → HasNumbers (filled_at sites now t)
  unfolding filled_at is_named
  filled_small sites now Empty w e = e
  filled_small sites now (Node (Leaf x) a b) w e = barely x (and_parts (nat_lt x count) (is_named count a && is_named count b) e.named).0 (list_any (λ i. i == x) now) (sites x) now w
  filled_small sites now (Node h a b) w e =
      let p = and_parts (head_is_named count h) (is_named count a && is_named count b) e.named in
      let q = and_parts (is_named count a) (is_named count b) p.1 in
      node_small p.0 (channel_small h now (filled_at sites now a) w (filled_small sites now a w (record { named = q.0 }))) (filled_small sites (now_below h now) b (under h now p.0 w) (record { named = q.1 }))
