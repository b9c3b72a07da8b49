-- The rows of terms and cells, in which names may have marks, make what is written.
use Rattle.std.proofs.Common.{◌≡◌, ℕ, Bool, true, false, ◌&&◌, List, [], ◌∷◌, Option, Some, None, refl, ap, ◌∙◌}
use Rattle.std.proofs.lemmas.Bool.{and_from, both_ways}
use Rattle.std.specs.List.{AllByRecursion}
use Rattle.cv_syntax_trees.specs.declared.head.Head.{Head}
use Rattle.cv_syntax_trees.specs.declared.head.Head.TheVariants.{Apply, And, Cons, Eq, Leaf, No, Not, Or, Primed, Read, Yes}
use Rattle.cv_syntax_trees.specs.Tree.{Tree, Empty, Node, chain}
use Rattle.cv_parse_notation.specs.declared.sign.Mark.{Mark}
use Rattle.cv_parse_notation.specs.Form.{Form}
use Rattle.cv_parse_grammar.specs.declared.role.Role.{Role}
use Rattle.cv_parse_grammar.specs.Marks.{bare_name, conjunction_of, equality_of, marked_alone, marked_rule, mention_of, plain, plain_cell, plain_head, primary_of, term_of}
use Rattle.cv_parse_grammar.specs.Phrases.{Sort, after, bracket, row, square}
use Rattle.cv_parse_grammar.specs.Phrases as sort
use Rattle.cv_parse_grammar.specs.Terms.{arguments, called, cell, cell_of, conjoined, disjoined, equal_to, falsehood, indexed, negation, parentheses, subscript, terms, truth, unequal, unequal_to}
use Rattle.cv_parse_grammar.specs.yields.Yields.{IfThere, Yields}
use Rattle.cv_parse_grammar.proofs.yields.Yielding.{Gives, a_word, anything, before, behind, below, follow, leveled, one_of, perhaps, several, turned}
use Rattle.cv_scope_rules.specs.Phrases.{Phrase, Nil, OneCell, Term, Terms, both_are, is_phrase, parts}
use Rattle.cv_print_bytes.specs.terminals.Written.{IsWritten, has_items, head_is_written, is_name, is_written}
use Rattle.cv_print_scripts.specs.steps.Trees.{AreTerms}

-- trees

abbrev Is : Phrase → Tree → Type 0
Is φ t = IsWritten φ (plain true t)

no_tree : Is Nil Empty
unfolding plain is_phrase is_written
no_tree = record { phrase = refl; words = refl }

no_terms : Is Terms Empty
unfolding plain is_phrase is_written
no_terms = record { phrase = refl; words = refl }

joined : (φ τ ρ : Phrase) (h : Head) (a b : Tree) → parts φ h ≡ Some (τ, ρ) → head_is_written h a ≡ true → IsWritten τ a → IsWritten ρ b → IsWritten φ (Node h a b)
unfolding is_phrase is_written
joined φ τ ρ h a b e i v w = record {
  phrase = ap (λ o. both_are o (λ σ. is_phrase σ a) (λ σ. is_phrase σ b)) e ∙ and_from (is_phrase τ a) (is_phrase ρ b) v.phrase w.phrase;
  words = and_from (head_is_written h a) (is_written a && is_written b) i (and_from (is_written a) (is_written b) v.words w.words);
}

node : {φ τ ρ : Phrase} (h : Head) (a b : Tree) → parts φ (plain_head true h) ≡ Some (τ, ρ) → head_is_written (plain_head true h) (plain true a) ≡ true → Is τ a → Is ρ b → Is φ (Node h a b)
unfolding plain
node {φ = φ} {τ = τ} {ρ = ρ} h a b e i v w = joined φ τ ρ (plain_head true h) (plain true a) (plain true b) e i v w

items_stay : (t : Tree) → has_items t ≡ true → has_items (plain true t) ≡ true
unfolding plain
items_stay Empty e = absurd (both_ways _ refl e)
items_stay (Node h a b) e = refl

chained : (l : List Tree) → AllByRecursion (Is Term) l → Is Terms (chain l)
chained [] w = no_terms
chained (t ∷ l) w = node _ _ _ refl refl w.0 (chained l w.1)

abbrev is_some : {A : Type 0} → List A → Bool
is_some [] = false
is_some (a ∷ l) = true

-- one or more that have the property
record Several {A : Type 0} (p : A → Type 0) (l : List A) : Type 0 where
  all : AllByRecursion p l
  some : is_some l ≡ true

items_are : (l : List Tree) → Several (Is Term) l → AreTerms (chain l)
items_are (t ∷ l) w = record { written = chained (t ∷ l) w.all; some = refl }
items_are [] w = absurd (both_ways _ refl w.some)

-- the sorts that a term is made of
abbrev pub WrittenOfSort : Sort → Tree → Type 0
WrittenOfSort sort.Term t = Is Term t
WrittenOfSort sort.Conjunction t = Is Term t
WrittenOfSort sort.Primary t = Is Term t
WrittenOfSort sort.Unequal t = Is Term t
WrittenOfSort sort.Parentheses t = Is Term t
WrittenOfSort sort.Arguments t = AreTerms t
WrittenOfSort sort.Subscript t = AreTerms t
WrittenOfSort sort.OneCell t = IsWritten OneCell (plain_cell true t)
WrittenOfSort s t = Unit {0}

abbrev pub Names : Role → ℕ → Type 0
Names r x = is_name x ≡ true

abbrev Makes : {A : Type 0} → Form Role Sort A → (A → Type 0) → Type 0
Makes f Q = Gives Names WrittenOfSort f Q

in_row : {A : Type 0} {m : Mark} {f : Form Role Sort A} {p : A → Type 0} → Makes f p → Makes (row m f) (Several p)
in_row i = turned (follow i (several (behind i))) (λ x w. record { all = w; some = refl })

bracketed : {A : Type 0} {f : Form Role Sort A} {p : A → Type 0} → Makes f p → Makes (bracket f) p
bracketed i = leveled (behind (before i))

squared : {A : Type 0} {f : Form Role Sort A} {p : A → Type 0} → Makes f p → Makes (square f) p
squared i = leveled (behind (before i))

abbrev Tail : (Tree → Tree) → Type 0
Tail k = (t : Tree) → Is Term t → Is Term (k t)

after_is : (t : Tree) → Is Term t → (o : Option (Tree → Tree)) → IfThere Tail o → Is Term (after t o)
after_is t w None v = w
after_is t w (Some f) v = v t w

abbrev Applies : (ℕ → Tree) → Type 0
Applies f = (x : ℕ) → is_name x ≡ true → Is Term (f x)

of_terms : Makes terms AreTerms
of_terms = turned (in_row below) items_are

of_arguments : Makes arguments AreTerms
of_arguments = bracketed of_terms

of_subscript : Makes subscript AreTerms
of_subscript = squared of_terms

of_parentheses : Makes parentheses (Is Term)
of_parentheses = bracketed below

over_items : (x : ℕ) (l : Tree) → is_name x ≡ true → AreTerms l → (is_name x && has_items (plain true l)) ≡ true
over_items x l e w = and_from (is_name x) (has_items (plain true l)) e (items_stay l w.some)

of_called : Makes called Applies
of_called = turned (follow anything below) (λ l w x e. node _ _ _ refl (over_items x l.1 e w.1) w.1.written no_tree)

of_indexed : Makes indexed Applies
of_indexed = turned (follow anything below) (λ l w x e. node _ _ _ refl (over_items x l.1 e w.1) w.1.written no_tree)

bare_is : (x : ℕ) → is_name x ≡ true → (o : Option (Unit {0})) → Is Term (bare_name x o)
bare_is x e None = node _ _ _ refl e no_tree no_tree
bare_is x e (Some u) = node _ _ _ refl e no_tree no_tree

of_alone : Makes marked_alone Applies
of_alone = turned anything (λ c w x e. bare_is x e c.1)

of_mention : Makes (mention_of true) (Is Term)
of_mention = leveled (turned (follow a_word (one_of of_called (one_of of_indexed of_alone))) (λ x w. w.1 x.0 w.0))

of_negation : Makes negation (Is Term)
of_negation = leveled (turned (behind below) (λ t w. node _ _ _ refl refl w no_tree))

of_truth : Makes truth (Is Term)
of_truth = leveled (turned anything (λ u w. node _ _ _ refl refl no_tree no_tree))

of_falsehood : Makes falsehood (Is Term)
of_falsehood = leveled (turned anything (λ u w. node _ _ _ refl refl no_tree no_tree))

of_primary : Makes (primary_of true) (Is Term)
of_primary = one_of of_mention (one_of of_negation (one_of of_truth (one_of of_falsehood of_parentheses)))

of_unequal : Makes unequal (Is Term)
of_unequal = leveled (behind below)

of_equal_to : Makes equal_to Tail
of_equal_to = turned (follow anything below) (λ r w l v. node _ _ _ refl refl v w.1)

of_unequal_to : Makes unequal_to Tail
of_unequal_to = turned below (λ r w l v. node _ _ _ refl refl (node _ _ _ refl refl v w) no_tree)

of_equality : Makes (equality_of true) (Is Term)
of_equality = turned (follow of_primary (perhaps (one_of of_equal_to of_unequal_to))) (λ x w. after_is x.0 w.0 x.1 w.1)

of_conjoined : Makes conjoined Tail
of_conjoined = turned (follow anything below) (λ r w l v. node _ _ _ refl refl v w.1)

of_conjunction : Makes (conjunction_of true) (Is Term)
of_conjunction = turned (follow of_equality (perhaps of_conjoined)) (λ x w. after_is x.0 w.0 x.1 w.1)

of_disjoined : Makes disjoined Tail
of_disjoined = turned (follow anything below) (λ r w l v. node _ _ _ refl refl v w.1)

of_term : Makes (term_of true) (Is Term)
of_term = turned (follow of_conjunction (perhaps of_disjoined)) (λ x w. after_is x.0 w.0 x.1 w.1)

cell_is : (x : ℕ) → is_name x ≡ true → (o : Option Tree) → IfThere AreTerms o → IsWritten OneCell (plain_cell true (cell_of x o))
cell_is x e None w = joined OneCell Nil Nil (Leaf x) (plain true Empty) (plain true Empty) refl e no_tree no_tree
cell_is x e (Some l) w = joined OneCell Terms Nil (Read x) (plain true l) (plain true Empty) refl (over_items x l e w) w.written no_tree

of_cell : Makes cell (λ t. IsWritten OneCell (plain_cell true t))
of_cell = leveled (turned (follow a_word (perhaps below)) (λ x w. cell_is x.0 w.0 x.1 w.1))

pub rows : (s : Sort) (t : Tree) → Yields Names WrittenOfSort (marked_rule s) t → WrittenOfSort s t
rows sort.Term t y = of_term.gives t y
rows sort.Conjunction t y = of_conjunction.gives t y
rows sort.Primary t y = of_primary.gives t y
rows sort.Unequal t y = of_unequal.gives t y
rows sort.Arguments t y = of_arguments.gives t y
rows sort.Subscript t y = of_subscript.gives t y
rows sort.Parentheses t y = of_parentheses.gives t y
rows sort.OneCell t y = of_cell.gives t y
rows s t y = tt

pub of_some_terms : (t : Tree) → Yields Names WrittenOfSort terms t → AreTerms t
of_some_terms t y = of_terms.gives t y
