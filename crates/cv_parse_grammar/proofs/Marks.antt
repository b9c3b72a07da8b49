-- The rows of the sorts of terms, with marks or without, and the tree without marks.
use Rattle.std.proofs.Common.{◌≡◌, Bool, true, false, refl, ap₂}
use Rattle.cv_syntax_trees.specs.declared.head.Head.{Head}
use Rattle.cv_syntax_trees.specs.declared.head.Head.TheVariants.{Primed}
use Rattle.cv_syntax_trees.specs.Tree.{Tree, Empty, Node}
use Rattle.cv_parse_grammar.specs.Marks.{conjunction_of, plain, plain_cell, plain_head, primary_of, rule_of, term_of}
use Rattle.cv_parse_grammar.specs.Phrases.{Term, Conjunction, Primary, Unequal, Arguments, Subscript, Parentheses, Cells, OneCell}
use Rattle.cv_parse_grammar.specs.Terms.{arguments, cell, cells, parentheses, subscript, unequal}

pub term_row : (marks : Bool) → rule_of marks Term ≡ term_of marks
term_row true = refl
term_row false = refl

pub conjunction_row : (marks : Bool) → rule_of marks Conjunction ≡ conjunction_of marks
conjunction_row true = refl
conjunction_row false = refl

pub primary_row : (marks : Bool) → rule_of marks Primary ≡ primary_of marks
primary_row true = refl
primary_row false = refl

pub unequal_row : (marks : Bool) → rule_of marks Unequal ≡ unequal
unequal_row true = refl
unequal_row false = refl

pub arguments_row : (marks : Bool) → rule_of marks Arguments ≡ arguments
arguments_row true = refl
arguments_row false = refl

pub subscript_row : (marks : Bool) → rule_of marks Subscript ≡ subscript
subscript_row true = refl
subscript_row false = refl

pub parentheses_row : (marks : Bool) → rule_of marks Parentheses ≡ parentheses
parentheses_row true = refl
parentheses_row false = refl

pub cells_row : (marks : Bool) → rule_of marks Cells ≡ cells
cells_row true = refl
cells_row false = refl

pub cell_row : (marks : Bool) → rule_of marks OneCell ≡ cell
cell_row true = refl
cell_row false = refl

-- in files no mark is left out

same_head : (h : Head) → plain_head false h ≡ h
same_head (Primed x) = refl
same_head h = refl

pub plain_in_files : (t : Tree) → plain false t ≡ t
unfolding plain
plain_in_files Empty = refl
plain_in_files (Node h a b) = ap₂ (λ k (p : Tree × Tree). Node k p.0 p.1) (same_head h) (ap₂ (λ x y. (x, y)) (plain_in_files a) (plain_in_files b))

pub plain_cell_in_files : (t : Tree) → plain_cell false t ≡ t
plain_cell_in_files Empty = refl
plain_cell_in_files (Node h a b) = ap₂ (Node h) (plain_in_files a) (plain_in_files b)
