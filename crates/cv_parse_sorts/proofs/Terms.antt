-- The rows of terms make terms over the names that they mention, with indices behind each name that is read at some; and those of a
-- query's right side make atoms over them.
use Rattle.std.proofs.Common.{ℕ, [], ◌∷◌, List}
use Rattle.std.specs.List.{AllByRecursion}
use Rattle.cv_syntax_trees.specs.declared.head.Head.TheVariants.{Leaf, Read, Apply, Eq, And, Or, Not, Yes, No, Cons, Occurs, OccursOnce, SomeOf}
use Rattle.cv_syntax_trees.specs.Tree.{Tree, Empty, Node, chain}
use Rattle.cv_parse_notation.specs.Form.{Form}
use Rattle.cv_parse_grammar.specs.declared.role.Role.{Role}
use Rattle.cv_parse_grammar.specs.declared.role.Role.TheVariants.{Mentions}
use Rattle.cv_parse_grammar.specs.Declarations.{alternative, bracketed_right_side, event, happens, right_item, right_side, some_of}
use Rattle.cv_parse_grammar.specs.Phrases.{Sort}
use Rattle.cv_parse_grammar.specs.Phrases as sort
use Rattle.cv_parse_grammar.specs.Rules.{rule}
use Rattle.cv_parse_grammar.specs.Terms.{terms, arguments, subscript, parentheses, called, indexed, alone, mention, negation, truth, falsehood, primary, unequal, equal_to, unequal_to, equality, conjoined, conjunction, disjoined, term}
use Rattle.cv_parse_grammar.specs.yields.Yields.{Yields}
use Rattle.cv_parse_grammar.proofs.yields.Yielding.{Gives, a_word, anything, before, behind, below, follow, leveled, one_of, perhaps, several, turned, weaker}
use Rattle.cv_parse_laws.proofs.roles.Forms.{Tail, after_is, bracketed, in_row, or_this, squared}

abbrev pub IsSome : Tree → Type 0
IsSome Empty = ⊥
IsSome t = Unit {0}

-- a term with bare names of L
abbrev mutual
  pub IsTermOver : (ℕ → Type 0) → Tree → Type 0
  IsTermOver L (Node (Leaf x) Empty b) = L x
  IsTermOver L (Node (Read x) a b) = IsSome a
  IsTermOver L (Node (Apply f) a b) = AreTermsOver L a
  IsTermOver L (Node Eq a b) = IsTermOver L a × IsTermOver L b
  IsTermOver L (Node And a b) = IsTermOver L a × IsTermOver L b
  IsTermOver L (Node Or a b) = IsTermOver L a × IsTermOver L b
  IsTermOver L (Node Not a b) = IsTermOver L a
  IsTermOver L (Node Yes a b) = Unit {0}
  IsTermOver L (Node No a b) = Unit {0}
  IsTermOver L t = ⊥

  pub AreTermsOver : (ℕ → Type 0) → Tree → Type 0
  AreTermsOver L Empty = Unit {0}
  AreTermsOver L (Node Cons a b) = IsTermOver L a × AreTermsOver L b
  AreTermsOver L t = ⊥

-- a right side with atoms over L, in every alternative

abbrev pub IsAtomOver : (ℕ → Type 0) → Tree → Type 0
IsAtomOver L (Node (Occurs e) ms b) = AreTermsOver L ms
IsAtomOver L (Node (OccursOnce e) ms b) = AreTermsOver L ms
IsAtomOver L m = IsTermOver L m

abbrev pub AreAtomsOver : (ℕ → Type 0) → Tree → Type 0
AreAtomsOver L Empty = Unit {0}
AreAtomsOver L (Node Cons a b) = AreAtomsOver L a × AreAtomsOver L b
AreAtomsOver L (Node SomeOf a b) = AreAtomsOver L a × AreAtomsOver L b
AreAtomsOver L atom = IsAtomOver L atom

module _ (L : ℕ → Type 0) where
  -- a name that is mentioned is one of them
  abbrev pub Mentioned : Role → ℕ → Type 0
  Mentioned Mentions x = L x
  Mentioned r x = Unit {0}

  abbrev AreSome : Tree → Type 0
  AreSome t = AreTermsOver L t × IsSome t

  abbrev pub OfTerms : Sort → Tree → Type 0
  OfTerms sort.Term t = IsTermOver L t
  OfTerms sort.Conjunction t = IsTermOver L t
  OfTerms sort.Primary t = IsTermOver L t
  OfTerms sort.Unequal t = IsTermOver L t
  OfTerms sort.Parentheses t = IsTermOver L t
  OfTerms sort.Arguments t = AreSome t
  OfTerms sort.Subscript t = AreSome t
  OfTerms sort.RightSide t = AreAtomsOver L t
  OfTerms s t = Unit {0}

  abbrev Makes : {A : Type 0} → Form Role Sort A → (A → Type 0) → Type 0
  Makes f Q = Gives Mentioned OfTerms f Q

  chained : (l : List Tree) → AllByRecursion (IsTermOver L) l → AreTermsOver L (chain l)
  chained [] w = tt
  chained (t ∷ l) w = (w.0, chained l w.1)

  -- what follows a name makes a term of it
  abbrev Applies : (ℕ → Tree) → Type 0
  Applies f = (x : ℕ) → L x → IsTermOver L (f x)

  of_terms : Makes terms AreSome
  of_terms = turned {p = λ l. AllByRecursion (IsTermOver L) l × IsSome (chain l)} (turned (follow below (several (behind below))) whole) (λ l w. (chained l w.0, w.1))
    where
      whole : (x : Tree × List Tree) → IsTermOver L x.0 × AllByRecursion (IsTermOver L) x.1 → AllByRecursion (IsTermOver L) (x.0 ∷ x.1) × IsSome (chain (x.0 ∷ x.1))
      whole x w = (w, tt)

  pub of_arguments : Makes arguments AreSome
  of_arguments = bracketed of_terms

  of_subscript : Makes subscript AreSome
  of_subscript = squared of_terms

  of_parentheses : Makes parentheses (IsTermOver L)
  of_parentheses = bracketed below

  of_called : Makes called Applies
  of_called = turned (follow anything below) (λ l w x k. w.1.0)

  of_indexed : Makes indexed Applies
  of_indexed = turned (follow anything below) (λ l w x k. w.1.1)

  of_alone : Makes alone Applies
  of_alone = turned anything (λ n w x k. k)

  of_mention : Makes mention (IsTermOver L)
  of_mention = leveled (turned (follow a_word (one_of of_called (one_of of_indexed of_alone))) (λ x w. w.1 x.0 w.0))

  of_negation : Makes negation (IsTermOver L)
  of_negation = leveled (turned (behind below) (λ t w. w))

  of_truth : Makes truth (IsTermOver L)
  of_truth = leveled (turned anything (λ u w. tt))

  of_falsehood : Makes falsehood (IsTermOver L)
  of_falsehood = leveled (turned anything (λ u w. tt))

  of_primary : Makes primary (IsTermOver L)
  of_primary = one_of of_mention (one_of of_negation (one_of of_truth (one_of of_falsehood of_parentheses)))

  of_unequal : Makes unequal (IsTermOver L)
  of_unequal = leveled (behind below)

  of_equal_to : Makes equal_to (Tail (IsTermOver L))
  of_equal_to = turned (follow anything below) (λ r w l v. (v, w.1))

  of_unequal_to : Makes unequal_to (Tail (IsTermOver L))
  of_unequal_to = turned below (λ r w l v. (v, w))

  pub of_equality : Makes equality (IsTermOver L)
  of_equality = turned (follow of_primary (perhaps (one_of of_equal_to of_unequal_to))) (λ x w. after_is (IsTermOver L) x.0 w.0 x.1 w.1)

  of_conjoined : Makes conjoined (Tail (IsTermOver L))
  of_conjoined = turned (follow anything below) (λ r w l v. (v, w.1))

  of_conjunction : Makes conjunction (IsTermOver L)
  of_conjunction = turned (follow of_equality (perhaps of_conjoined)) (λ x w. after_is (IsTermOver L) x.0 w.0 x.1 w.1)

  of_disjoined : Makes disjoined (Tail (IsTermOver L))
  of_disjoined = turned (follow anything below) (λ r w l v. (v, w.1))

  pub of_term : Makes term (IsTermOver L)
  of_term = turned (follow of_conjunction (perhaps of_disjoined)) (λ x w. after_is (IsTermOver L) x.0 w.0 x.1 w.1)

  -- right sides

  of_happens : Makes happens (λ x. AreTermsOver L x.1)
  of_happens = behind (weaker (follow anything (or_this Empty tt (weaker of_arguments (λ t w. w.0)))) (λ x w. w.1))

  of_event : Makes event (AreAtomsOver L)
  of_event = one_of (turned (behind of_happens) (λ x w. w)) (turned of_happens (λ x w. w))

  one_term : (m : Tree) → IsTermOver L m → AreAtomsOver L m
  one_term Empty w = absurd w
  one_term (Node Cons a b) w = absurd w
  one_term (Node SomeOf a b) w = absurd w
  one_term (Node (Occurs e) ms b) w = absurd w
  one_term (Node (OccursOnce e) ms b) w = absurd w
  one_term (Node h a b) w = w

  of_right_item : Makes right_item (AreAtomsOver L)
  of_right_item = one_of below (one_of of_event (weaker of_equality one_term))

  all_items : (l : List Tree) → AllByRecursion (AreAtomsOver L) l → AreAtomsOver L (chain l)
  all_items [] w = tt
  all_items (t ∷ l) w = (w.0, all_items l w.1)

  of_alternative : Makes alternative (AreAtomsOver L)
  of_alternative = turned (in_row of_right_item) all_items

  all_alternatives : (l : List Tree) → AllByRecursion (AreAtomsOver L) l → AreAtomsOver L (some_of l)
  all_alternatives [] w = tt
  all_alternatives (t ∷ []) w = w.0
  all_alternatives (t ∷ (u ∷ l)) w = (w.0, all_alternatives (u ∷ l) w.1)

  pub of_right_side : Makes right_side (AreAtomsOver L)
  of_right_side = turned (in_row of_alternative) all_alternatives

  of_bracketed_right_side : Makes bracketed_right_side (AreAtomsOver L)
  of_bracketed_right_side = leveled (behind (before of_right_side))

  pub term_rows : (s : Sort) (t : Tree) → Yields Mentioned OfTerms (rule s) t → OfTerms s t
  term_rows sort.Term t y = of_term.gives t y
  term_rows sort.Conjunction t y = of_conjunction.gives t y
  term_rows sort.Primary t y = of_primary.gives t y
  term_rows sort.Unequal t y = of_unequal.gives t y
  term_rows sort.Parentheses t y = of_parentheses.gives t y
  term_rows sort.Arguments t y = of_arguments.gives t y
  term_rows sort.Subscript t y = of_subscript.gives t y
  term_rows sort.RightSide t y = of_bracketed_right_side.gives t y
  term_rows s t y = tt
