-- The rows of processes and terms make what is written.
use Rattle.std.proofs.Common.{◌≡◌, ℕ, Bool, true, false, ◌&&◌, List, [], ◌∷◌, Option, Some, None, refl}
use Rattle.std.proofs.lemmas.Bool.{and_from, both_ways}
use Rattle.std.specs.List.{AllByRecursion}
use Rattle.cv_syntax_trees.specs.declared.head.Head.{Head}
use Rattle.cv_syntax_trees.specs.Tree.{Tree, Empty, Node, binders, chain, lone, names}
use Rattle.cv_parse_notation.specs.declared.sign.Mark.{Mark}
use Rattle.cv_parse_notation.specs.Form.{Form}
use Rattle.cv_parse_grammar.specs.declared.role.Asked.TheVariants.{AParam}
use Rattle.cv_parse_grammar.specs.declared.role.Role.{Role}
use Rattle.cv_parse_grammar.specs.declared.role.Role.TheVariants.{Asks, BindsVariable}
use Rattle.cv_parse_grammar.specs.Phrases.{Sort, or_else, after, row, bracket, square, listed, typed, vars, indices, inside}
use Rattle.cv_parse_grammar.specs.Phrases as sort
use Rattle.cv_parse_grammar.specs.Terms.{terms, arguments, subscript, parentheses, called, indexed, alone, mention, negation, truth, falsehood, primary, unequal, equal_to, unequal_to, equality, conjoined, conjunction, disjoined, term, cell_of, cell, cells, yes, condition}
use Rattle.cv_parse_grammar.specs.Processes.{stops, yields, channel, channel_indices, find_in, ending, replication, receiving, input, beside, inputs, received, pattern, variables, yielding, sent, sending, payload, continuation, outgoing, restriction, assignment, recording, otherwise, testing, finding, branch, output}
use Rattle.cv_parse_grammar.specs.Rules.{file, rule}
use Rattle.cv_parse_grammar.specs.yields.Yields.{IfThere, Yields}
use Rattle.cv_parse_laws.proofs.roles.Forms.{Tail, after_is, bracketed, enclosed, or_this, squared}
use Rattle.cv_parse_grammar.proofs.yields.Yielding.{Gives, a_word, anything, behind, below, follow, leveled, one_of, perhaps, several, turned, weaker}
use Rattle.cv_print_bytes.specs.terminals.Written.{has_items, has_parameters, head_is_written, is_name, is_written}
use Rattle.cv_parse_laws.specs.Words.{GoesOver, HasItems, HasWords, WordsOfSort}

-- trees

pub empty_words : HasWords Empty
unfolding is_written
empty_words = record { written = refl }

pub node_words : {h : Head} {a b : Tree} → head_is_written h a ≡ true → HasWords a → HasWords b → HasWords (Node h a b)
unfolding is_written
node_words {h = h} {a = a} {b = b} e v w = record { written = and_from (head_is_written h a) (is_written a && is_written b) e (and_from (is_written a) (is_written b) v.written w.written) }

pub alone_words : {h : Head} → head_is_written h Empty ≡ true → HasWords (lone h)
alone_words e = node_words e empty_words empty_words

pub chained : (l : List Tree) → AllByRecursion HasWords l → HasWords (chain l)
chained [] w = empty_words
chained (t ∷ l) w = node_words refl w.0 (chained l w.1)

pub named : (l : List ℕ) → AllByRecursion (λ x. is_name x ≡ true) l → HasWords (names l)
named [] w = empty_words
named (x ∷ l) w = node_words w.0 empty_words (named l w.1)

bound : (l : List (ℕ × ℕ)) → AllByRecursion (λ b. is_name b.0 ≡ true) l → HasWords (binders l)
bound [] w = empty_words
bound (b ∷ l) w = node_words w.0 empty_words (bound l w.1)

-- indices with their parameters
record HasBounds (t : Tree) : Type 0 where
  words : HasWords t
  parameters : has_parameters t ≡ true

empty_bounds : HasBounds Empty
unfolding has_parameters
empty_bounds = record { words = empty_words; parameters = refl }

bounded : (l : List (ℕ × ℕ)) → AllByRecursion (λ b. (is_name b.0 ≡ true) × (is_name b.1 ≡ true)) l → HasBounds (binders l)
unfolding has_parameters
bounded [] w = record { words = empty_words; parameters = refl }
bounded (b ∷ l) w =
    let r = bounded l w.1 in
    record { words = node_words w.0.0 empty_words r.words; parameters = and_from (is_name b.1) (has_parameters (binders l)) w.0.1 r.parameters }

abbrev NamesIn : Role → ℕ → Type 0
NamesIn r x = is_name x ≡ true

abbrev Makes : {A : Type 0} → Form Role Sort A → (A → Type 0) → Type 0
Makes f Q = Gives NamesIn WordsOfSort f Q

-- what rows are made of

abbrev is_some : {A : Type 0} → List A → Bool
is_some [] = false
is_some (a ∷ l) = true

-- one or more that have the property
record Several {A : Type 0} (p : A → Type 0) (l : List A) : Type 0 where
  all : AllByRecursion p l
  some : is_some l ≡ true

in_row : {A : Type 0} {m : Mark} {f : Form Role Sort A} {p : A → Type 0} → Makes f p → Makes (row m f) (Several p)
in_row i = turned (follow i (several (behind i))) (λ x w. record { all = w; some = refl })

in_list : {f : Form Role Sort Tree} → Makes f HasWords → Makes (listed f) HasWords
in_list i = or_this Empty empty_words i

-- binders

abbrev Binds : ℕ × ℕ → Type 0
Binds b = is_name b.0 ≡ true

a_variable : Makes (typed BindsVariable) Binds
a_variable = weaker (follow a_word anything) (λ b w. w.0)

of_vars : Makes (vars BindsVariable) HasWords
of_vars = turned (in_row a_variable) (λ l w. bound l w.all)

of_variables : Makes variables HasWords
of_variables = bracketed (in_list of_vars)

of_indices : Makes (indices BindsVariable (Asks AParam)) HasBounds
of_indices = turned (in_row (follow a_word (behind a_word))) (λ l w. bounded l w.all)

-- terms

-- what follows a name makes a term of it
abbrev Applies : (ℕ → Tree) → Type 0
Applies f = (x : ℕ) → is_name x ≡ true → HasWords (f x)

items_are : (l : List Tree) → Several HasWords l → HasItems (chain l)
items_are (t ∷ l) w = record { words = chained (t ∷ l) w.all; items = refl }
items_are [] w = absurd (both_ways _ refl w.some)

of_terms : Makes terms HasItems
of_terms = turned (in_row below) items_are

of_arguments : Makes arguments HasItems
of_arguments = bracketed of_terms

of_subscript : Makes subscript HasItems
of_subscript = squared of_terms

of_parentheses : Makes parentheses HasWords
of_parentheses = bracketed below

of_called : Makes called Applies
of_called = turned (follow anything below) (λ l w x e. node_words (and_from (is_name x) (has_items l.1) e w.1.items) w.1.words empty_words)

of_indexed : Makes indexed Applies
of_indexed = turned (follow anything below) (λ l w x e. node_words (and_from (is_name x) (has_items l.1) e w.1.items) w.1.words empty_words)

of_alone : Makes alone Applies
of_alone = turned anything (λ n w x e. alone_words e)

of_mention : Makes mention HasWords
of_mention = leveled (turned (follow a_word (one_of of_called (one_of of_indexed of_alone))) (λ x w. w.1 x.0 w.0))

of_negation : Makes negation HasWords
of_negation = leveled (turned (behind below) (λ t w. node_words refl w empty_words))

of_truth : Makes truth HasWords
of_truth = leveled (turned anything (λ u w. alone_words refl))

of_falsehood : Makes falsehood HasWords
of_falsehood = leveled (turned anything (λ u w. alone_words refl))

of_primary : Makes primary HasWords
of_primary = one_of of_mention (one_of of_negation (one_of of_truth (one_of of_falsehood of_parentheses)))

of_unequal : Makes unequal HasWords
of_unequal = leveled (behind below)

of_equal_to : Makes equal_to (Tail HasWords)
of_equal_to = turned (follow anything below) (λ r w l v. node_words refl v w.1)

of_unequal_to : Makes unequal_to (Tail HasWords)
of_unequal_to = turned below (λ r w l v. node_words refl (node_words refl v w) empty_words)

of_equality : Makes equality HasWords
of_equality = turned (follow of_primary (perhaps (one_of of_equal_to of_unequal_to))) (λ x w. after_is HasWords x.0 w.0 x.1 w.1)

of_conjoined : Makes conjoined (Tail HasWords)
of_conjoined = turned (follow anything below) (λ r w l v. node_words refl v w.1)

of_conjunction : Makes conjunction HasWords
of_conjunction = turned (follow of_equality (perhaps of_conjoined)) (λ x w. after_is HasWords x.0 w.0 x.1 w.1)

of_disjoined : Makes disjoined (Tail HasWords)
of_disjoined = turned (follow anything below) (λ r w l v. node_words refl v w.1)

of_term : Makes term HasWords
of_term = turned (follow of_conjunction (perhaps of_disjoined)) (λ x w. after_is HasWords x.0 w.0 x.1 w.1)

cell_is : (x : ℕ) → is_name x ≡ true → (o : Option Tree) → IfThere HasItems o → HasWords (cell_of x o)
cell_is x e None w = alone_words e
cell_is x e (Some l) w = node_words (and_from (is_name x) (has_items l) e w.items) w.words empty_words

of_cell : Makes cell HasWords
of_cell = leveled (turned (follow a_word (perhaps below)) (λ x w. cell_is x.0 w.0 x.1 w.1))

of_cells : Makes cells HasWords
of_cells = bracketed (turned (in_row below) (λ l w. chained l w.all))

-- the cells and the condition
abbrev IsCondition : Tree × Tree → Type 0
IsCondition c = HasWords c.0 × HasWords c.1

of_condition : Makes condition IsCondition
of_condition = one_of (behind (follow below (or_this yes (alone_words refl) (behind below)))) (turned below (λ t w. (empty_words, w)))

-- processes

of_branches : Makes (find_in sort.ProcessBranch) (λ b. HasItems b.1)
of_branches =
    turned (follow anything (follow anything (follow below (several (behind below))))) (λ x w.
    record { words = chained (x.1.1.0 ∷ x.1.1.1) w.1.1; items = refl }
    )

of_ending : Makes ending HasWords
of_ending = leveled (turned anything (λ u w. alone_words refl))

of_replication : Makes replication HasWords
of_replication = leveled (turned (behind (follow a_word (behind (follow a_word below)))) (λ x w. node_words (and_from (is_name x.0) (is_name x.1.0) w.0 w.1.0) empty_words w.1.1))

of_receiving : Makes receiving HasWords
of_receiving = leveled (turned (behind (follow below (behind below))) (λ x w. node_words w.0.channel (node_words refl w.0.indices w.0.message) w.1))

of_input : Makes input HasWords
of_input = one_of of_ending (one_of (bracketed below) (one_of of_replication of_receiving))

of_beside : Makes beside (Tail HasWords)
of_beside = turned (follow anything below) (λ r w l v. node_words refl v w.1)

of_inputs : Makes inputs HasWords
of_inputs = turned (follow of_input (perhaps of_beside)) (λ x w. after_is HasWords x.0 w.0 x.1 w.1)

-- a channel with its indices, and what goes over it

abbrev IsChannel : ℕ × Tree → Type 0
IsChannel c = (is_name c.0 ≡ true) × HasWords c.1

of_channel : Makes channel IsChannel
of_channel = follow a_word (in_list below)

of_channel_indices : Makes channel_indices HasWords
of_channel_indices = squared (turned (in_row a_word) (λ l w. named l w.all))

of_received : Makes received HasWords
of_received = one_of below (turned a_variable (λ b w. bound (b ∷ []) (w, tt)))

of_pattern : Makes pattern GoesOver
of_pattern = bracketed (turned (follow of_channel (behind of_received)) (λ x w. record { channel = w.0.0; indices = w.0.1; message = w.1 }))

of_sent : Makes sent HasWords
of_sent = one_of below (turned below (λ t w. chained (t ∷ []) (w, tt)))

of_sending : Makes sending GoesOver
of_sending = bracketed (turned (follow of_channel (behind of_sent)) (λ x w. record { channel = w.0.0; indices = w.0.1; message = w.1 }))

of_payload : Makes payload HasWords
of_payload = bracketed (in_list (weaker of_terms (λ t w. w.words)))

of_continuation : Makes continuation HasWords
of_continuation = or_this stops (alone_words refl) (behind below)

of_yielding : Makes yielding HasWords
of_yielding = leveled (turned anything (λ u w. alone_words refl))

of_outgoing : Makes outgoing HasWords
of_outgoing = leveled (turned (behind (follow below of_continuation)) (λ x w. node_words w.0.channel (node_words refl w.0.indices w.0.message) w.1))

of_restriction : Makes restriction HasWords
of_restriction = leveled (turned (behind (follow a_variable (behind below))) (λ x w. node_words w.0 empty_words w.1))

of_assignment : Makes assignment HasWords
of_assignment = leveled (turned (behind (follow a_variable (behind (follow below (behind below))))) (λ x w. node_words w.0 w.1.0 w.1.1))

of_recording : Makes recording HasWords
of_recording = leveled (turned (behind (follow a_word (follow (in_list (weaker below (λ t w. w.words))) (behind below)))) (λ x w. node_words w.0 w.1.0 w.1.1))

of_otherwise : Makes otherwise HasWords
of_otherwise = or_this yields (alone_words refl) (behind below)

of_testing : Makes testing HasWords
of_testing = leveled (turned (behind (follow below (behind (follow below of_otherwise)))) (λ x w. node_words refl w.0 (node_words refl w.1.0 (node_words refl w.1.1 empty_words))))

of_finding : Makes finding HasWords
of_finding = leveled (turned (follow of_branches of_otherwise) (λ x w. node_words w.0.items w.0.words w.1))

of_branch : Makes branch HasWords
of_branch =
    leveled (turned (follow (or_this Empty empty_bounds of_indices) (behind (follow of_condition (behind below)))) (λ x w.
    node_words w.0.parameters w.0.words (node_words refl w.1.0.0 (node_words refl w.1.0.1 w.1.1))
    ))

of_output : Makes output HasWords
of_output =
    one_of of_yielding
    (one_of (bracketed below)
    (one_of of_outgoing
    (one_of of_restriction
    (one_of of_assignment
    (one_of of_recording
    (one_of of_testing of_finding))))))

-- every row, and the row of a file

pub rows : (s : Sort) (t : Tree) → Yields NamesIn WordsOfSort (rule s) t → WordsOfSort s t
rows sort.Term t y = of_term.gives t y
rows sort.Conjunction t y = of_conjunction.gives t y
rows sort.Primary t y = of_primary.gives t y
rows sort.Unequal t y = of_unequal.gives t y
rows sort.Arguments t y = of_arguments.gives t y
rows sort.Subscript t y = of_subscript.gives t y
rows sort.Parentheses t y = of_parentheses.gives t y
rows sort.Inputs t y = of_inputs.gives t y
rows sort.Input t y = of_input.gives t y
rows sort.Output t y = of_output.gives t y
rows sort.Pattern t y = of_pattern.gives t y
rows sort.Sending t y = of_sending.gives t y
rows sort.Payload t y = of_payload.gives t y
rows sort.Variables t y = of_variables.gives t y
rows sort.Indices t y = of_channel_indices.gives t y
rows sort.ProcessBranch t y = of_branch.gives t y
rows sort.Cells t y = of_cells.gives t y
rows sort.OneCell t y = of_cell.gives t y
rows _ t y = tt

pub of_file : Makes file (λ f. HasWords f.game)
of_file = turned (follow anything (follow anything (behind (enclosed of_inputs)))) (λ x w. w.1.1)
