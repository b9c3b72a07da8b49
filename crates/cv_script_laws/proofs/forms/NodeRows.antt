-- The rows of terms and cells make nodes, whatever the names are.
use Rattle.std.proofs.Common.{◌≡◌, ℕ, Bool, true, Option, Some, None, refl}
use Rattle.cv_syntax_trees.specs.Tree.{Tree, Empty, Node}
use Rattle.cv_parse_notation.specs.Form.{Form}
use Rattle.cv_parse_grammar.specs.declared.role.Role.{Role}
use Rattle.cv_parse_grammar.specs.Marks.{bare_name, conjunction_of, equality_of, marked_alone, marked_rule, mention_of, primary_of, term_of}
use Rattle.cv_parse_grammar.specs.Phrases.{Sort, after, bracket}
use Rattle.cv_parse_grammar.specs.Phrases as sort
use Rattle.cv_parse_grammar.specs.Terms.{called, cell, cell_of, conjoined, disjoined, equal_to, falsehood, indexed, negation, parentheses, truth, unequal_to}
use Rattle.cv_parse_grammar.specs.yields.Yields.{IfThere, Yields}
use Rattle.cv_parse_grammar.proofs.yields.Yielding.{Gives, anything, before, behind, below, follow, leveled, one_of, perhaps, turned}
use Rattle.cv_print_bytes.specs.terminals.Written.{has_items}

abbrev pub IsNode : Tree → Type 0
IsNode t = has_items t ≡ true

-- of the sorts that a term is made of
abbrev pub NodeOfSort : Sort → Tree → Type 0
NodeOfSort sort.Term t = IsNode t
NodeOfSort sort.Conjunction t = IsNode t
NodeOfSort sort.Primary t = IsNode t
NodeOfSort sort.Parentheses t = IsNode t
NodeOfSort sort.OneCell t = IsNode t
NodeOfSort s t = Unit {0}

module _ (W : Role → ℕ → Type 0) where
  abbrev Makes : {A : Type 0} → Form Role Sort A → (A → Type 0) → Type 0
  Makes f Q = Gives W NodeOfSort f Q

  abbrev Tail : (Tree → Tree) → Type 0
  Tail k = (t : Tree) → IsNode t → IsNode (k t)

  after_is : (t : Tree) → IsNode t → (o : Option (Tree → Tree)) → IfThere Tail o → IsNode (after t o)
  after_is t w None v = w
  after_is t w (Some f) v = v t w

  abbrev Applies : (ℕ → Tree) → Type 0
  Applies f = (x : ℕ) → IsNode (f x)

  of_called : Makes called Applies
  of_called = turned anything (λ l w x. refl)

  of_indexed : Makes indexed Applies
  of_indexed = turned anything (λ l w x. refl)

  bare_node : (x : ℕ) (o : Option (Unit {0})) → IsNode (bare_name x o)
  bare_node x None = refl
  bare_node x (Some u) = refl

  of_alone : Makes marked_alone Applies
  of_alone = turned anything (λ c w x. bare_node x c.1)

  of_mention : Makes (mention_of true) IsNode
  of_mention = leveled (turned (follow anything (one_of of_called (one_of of_indexed of_alone))) (λ x w. w.1 x.0))

  of_negation : Makes negation IsNode
  of_negation = leveled (turned anything (λ t w. refl))

  of_truth : Makes truth IsNode
  of_truth = leveled (turned anything (λ u w. refl))

  of_falsehood : Makes falsehood IsNode
  of_falsehood = leveled (turned anything (λ u w. refl))

  of_parentheses : Makes parentheses IsNode
  of_parentheses = leveled (behind (before below))

  of_primary : Makes (primary_of true) IsNode
  of_primary = one_of of_mention (one_of of_negation (one_of of_truth (one_of of_falsehood of_parentheses)))

  of_equal_to : Makes equal_to Tail
  of_equal_to = turned anything (λ r w l v. refl)

  of_unequal_to : Makes unequal_to Tail
  of_unequal_to = turned anything (λ r w l v. refl)

  of_equality : Makes (equality_of true) IsNode
  of_equality = turned (follow of_primary (perhaps (one_of of_equal_to of_unequal_to))) (λ x w. after_is x.0 w.0 x.1 w.1)

  of_conjoined : Makes conjoined Tail
  of_conjoined = turned anything (λ r w l v. refl)

  of_conjunction : Makes (conjunction_of true) IsNode
  of_conjunction = turned (follow of_equality (perhaps of_conjoined)) (λ x w. after_is x.0 w.0 x.1 w.1)

  of_disjoined : Makes disjoined Tail
  of_disjoined = turned anything (λ r w l v. refl)

  of_term : Makes (term_of true) IsNode
  of_term = turned (follow of_conjunction (perhaps of_disjoined)) (λ x w. after_is x.0 w.0 x.1 w.1)

  cell_node : (x : ℕ) (o : Option Tree) → IsNode (cell_of x o)
  cell_node x None = refl
  cell_node x (Some l) = refl

  of_cell : Makes cell IsNode
  of_cell = leveled (turned anything (λ x w. cell_node x.0 x.1))

  pub rows : (s : Sort) (t : Tree) → Yields W NodeOfSort (marked_rule s) t → NodeOfSort s t
  rows sort.Term t y = of_term.gives t y
  rows sort.Conjunction t y = of_conjunction.gives t y
  rows sort.Primary t y = of_primary.gives t y
  rows sort.Parentheses t y = of_parentheses.gives t y
  rows sort.OneCell t y = of_cell.gives t y
  rows s t y = tt

  pub of_a_term : (t : Tree) → Yields W NodeOfSort (term_of true) t → IsNode t
  of_a_term t y = of_term.gives t y

  pub of_a_cell : (t : Tree) → Yields W NodeOfSort cell t → IsNode t
  of_a_cell t y = of_cell.gives t y
