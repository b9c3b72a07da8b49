-- What a text is at a node, by the texts of its children.
use Rattle.std.proofs.Common.{◌≡◌, ℕ, ◌+◌, List, [], ◌++◌, refl, append_assoc, Option, Some, None, IsNone, is_none, true, false, ◌↔◌}
use Rattle.std.proofs.lemmas.List.{append-nil}
use Rattle.std.specs.Prelude.{codes}
use Rattle.std.specs.Fmt.{decimal}
use Rattle.cv_syntax_trees.specs.Tree.{Tree, Empty, Node}
use Rattle.cv_pool.specs.declared.node.NodeId.{NodeId}
use Rattle.cv_syntax_trees.specs.declared.head.Head.TheVariants.{Leaf, Primed, Read, Apply, Eq, And, Or, Not, Yes, No, Par, Repl, If, Find}
use Rattle.cv_syntax_trees.specs.Children.{is_empty}
use Rattle.cv_syntax.proofs.Trees.{tree_of_NoTree}
use Rattle.cv_print.specs.Terms.{name_text, binder_text, entry_text, entries_text, term_text, terms_text}
use Rattle.cv_print.specs.Games.{line, branch_line, step_text, process_text, bodies_text, branches_text, branch_text}

pub empty_test : (o : Option NodeId) (t : Tree) → IsNone o ↔ (t ≡ Empty) → is_none o ≡ is_empty t
empty_test None Empty d = refl
empty_test None (Node h a b) d = absurd (let e : Node h a b ≡ Empty = d.0 refl in cc)
empty_test (Some n) Empty d = absurd (let e : true ≡ false = d.1 refl in cc)
empty_test (Some n) (Node h a b) d = refl

abbrev pub entries_parts : List (List ℕ) → List ℕ → List ℕ → Tree → List ℕ
entries_parts names mark before Empty = []
entries_parts names mark before (Node h a b) = before ++ entry_text names mark h ++ entries_text names mark (codes ", ") b

pub entries_open : (names : List (List ℕ)) (mark before : List ℕ) (t : Tree) → entries_text names mark before t ≡ entries_parts names mark before t
unfolding entries_text
entries_open names mark before Empty = refl
entries_open names mark before (Node h a b) = refl

abbrev pub term_parts : List (List ℕ) → Tree → List ℕ
term_parts names (Node (Leaf x) a b) = name_text names x
term_parts names (Node (Primed x) a b) = name_text names x ++ codes "'"
term_parts names (Node (Read x) a b) = name_text names x ++ codes "[" ++ terms_text names [] a ++ codes "]"
term_parts names (Node (Apply f) a b) = name_text names f ++ codes "(" ++ terms_text names [] a ++ codes ")"
term_parts names (Node Eq a b) = codes "(" ++ term_text names a ++ codes " = " ++ term_text names b ++ codes ")"
term_parts names (Node And a b) = codes "(" ++ term_text names a ++ codes " && " ++ term_text names b ++ codes ")"
term_parts names (Node Or a b) = codes "(" ++ term_text names a ++ codes " || " ++ term_text names b ++ codes ")"
term_parts names (Node Not a b) = codes "not(" ++ term_text names a ++ codes ")"
term_parts names (Node Yes a b) = codes "true"
term_parts names (Node No a b) = codes "false"
term_parts names _ = []

pub term_open : (names : List (List ℕ)) (t : Tree) → term_text names t ≡ term_parts names t
unfolding term_text
term_open names (Node (Leaf x) a b) = refl
term_open names _ = refl

abbrev pub terms_parts : List (List ℕ) → List ℕ → Tree → List ℕ
terms_parts names before Empty = []
terms_parts names before (Node h a b) = before ++ term_text names a ++ terms_text names (codes ", ") b

pub terms_open : (names : List (List ℕ)) (before : List ℕ) (t : Tree) → terms_text names before t ≡ terms_parts names before t
unfolding terms_text
terms_open names before Empty = refl
terms_open names before (Node h a b) = refl

abbrev pub process_parts : List (List ℕ) → ℕ → Tree → List ℕ
process_parts names level Empty = []
process_parts names level (Node Par a b) = line level (codes "(") ++ process_text names (level + 1) a ++ line level (codes "|") ++ process_text names (level + 1) b ++ line level (codes ")")
process_parts names level (Node (Repl i n) a b) = line level (codes "!" ++ binder_text names (codes " <= ") i n) ++ process_text names (level + 1) b
process_parts names level (Node If a b) = line level (codes "if " ++ term_text names a ++ codes " then") ++ bodies_text names level [] b
process_parts names level (Node (Find l) a b) = branches_text names level (codes "find @" ++ decimal l) a ++ line level (codes "else") ++ process_text names (level + 1) b
process_parts names level (Node h a b) = step_text names level h a ++ process_text names level b

pub process_open : (names : List (List ℕ)) (level : ℕ) (t : Tree) → process_text names level t ≡ process_parts names level t
unfolding process_text
process_open names level Empty = refl
process_open names level (Node Par a b) = refl
process_open names level (Node h a b) = refl

abbrev pub bodies_parts : List (List ℕ) → ℕ → List ℕ → Tree → List ℕ
bodies_parts names level before Empty = []
bodies_parts names level before (Node h a b) = before ++ process_text names (level + 1) a ++ bodies_text names level (line level (codes "else")) b

pub bodies_open : (names : List (List ℕ)) (level : ℕ) (before : List ℕ) (t : Tree) → bodies_text names level before t ≡ bodies_parts names level before t
unfolding bodies_text
bodies_open names level before Empty = refl
bodies_open names level before (Node h a b) = refl

abbrev pub branches_parts : List (List ℕ) → ℕ → List ℕ → Tree → List ℕ
branches_parts names level word Empty = []
branches_parts names level word (Node h a b) = branch_text names level word a ++ branches_text names level (codes "orfind") b

pub branches_open : (names : List (List ℕ)) (level : ℕ) (word : List ℕ) (t : Tree) → branches_text names level word t ≡ branches_parts names level word t
unfolding branches_text
branches_open names level word Empty = refl
branches_open names level word (Node h a b) = refl

abbrev pub branch_parts : List (List ℕ) → ℕ → List ℕ → Tree → List ℕ
branch_parts names level word (Node h indices (Node i cells (Node j term body))) = branch_line names level word indices cells term ++ process_text names (level + 1) body
branch_parts names level word _ = []

pub branch_open : (names : List (List ℕ)) (level : ℕ) (word : List ℕ) (t : Tree) → branch_text names level word t ≡ branch_parts names level word t
unfolding branch_text
branch_open names level word (Node h indices (Node i cells (Node j term body))) = refl
branch_open names level word _ = refl

pub ruleset entry_laws = (entries_open, tree_of_NoTree, append_assoc, append-nil)

pub ruleset term_laws = (term_open, terms_open, tree_of_NoTree, append_assoc, append-nil)

pub ruleset step_laws = (tree_of_NoTree, append_assoc, append-nil)

pub ruleset process_laws = (process_open, bodies_open, branches_open, branch_open, tree_of_NoTree, append_assoc, append-nil)
