-- The terms of scripts: behind a bare name the mark `'` may stand, by which an index is one of the second copy of a pair.
use Rattle.std.specs.Prelude.{ℕ, Bool, true, false, ◌||◌, if◌then◌else◌, Option, Some, None}
use Rattle.cv_syntax_trees.specs.declared.head.Head.{Head}
use Rattle.cv_syntax_trees.specs.declared.head.Head.TheVariants.{Leaf, Primed}
use Rattle.cv_syntax_trees.specs.Tree.{Tree, Empty, Node, lone}
use Rattle.cv_parse_notation.specs.declared.sign.Mark.TheVariants as mark
use Rattle.cv_parse_notation.specs.Form.{sign, word, note, may, either, made, level, ◌&◌}
use Rattle.cv_parse_notation.specs.Spells.{Kind, is_mark}
use Rattle.cv_parse_grammar.specs.declared.role.Role.TheVariants.{AsBare, Mentions}
use Rattle.cv_parse_grammar.specs.Phrases.{Phrase, Sort, Term, Conjunction, Primary, Braces, after}
use Rattle.cv_parse_grammar.specs.Rules.{rule, tails}
use Rattle.cv_parse_grammar.specs.Terms.{alone, called, conjoined, disjoined, equal_to, falsehood, indexed, negation, parentheses, truth, unequal_to}

-- a bare name, with the mark or without it
abbrev pub bare_name : ℕ → Option (Unit {0}) → Tree
bare_name x None = lone (Leaf x)
bare_name x (Some u) = lone (Primed x)

abbrev pub marked_alone : Phrase (ℕ → Tree)
marked_alone = made (λ (n, m) x. bare_name x m) (note AsBare & may false (sign mark.Prime))

-- the rows of terms of files, and those with marks

abbrev pub alone_of : (marks : Bool) → Phrase (ℕ → Tree)
alone_of false = alone
alone_of true = marked_alone

abbrev pub mention_of : (marks : Bool) → Phrase Tree
mention_of marks = level (made (λ (x, f). f x) (word Mentions & either called (either indexed (alone_of marks))))

abbrev pub primary_of : (marks : Bool) → Phrase Tree
primary_of marks = either (mention_of marks) (either negation (either truth (either falsehood parentheses)))

abbrev pub equality_of : (marks : Bool) → Phrase Tree
equality_of marks = made (λ (t, f). after t f) (primary_of marks & may false (either equal_to unequal_to))

abbrev pub conjunction_of : (marks : Bool) → Phrase Tree
conjunction_of marks = made (λ (t, f). after t f) (equality_of marks & may false conjoined)

abbrev pub term_of : (marks : Bool) → Phrase Tree
term_of marks = made (λ (t, f). after t f) (conjunction_of marks & may false disjoined)

abbrev pub marked_rule : Sort → Phrase Tree
marked_rule Term = term_of true
marked_rule Conjunction = conjunction_of true
marked_rule Primary = primary_of true
marked_rule s = rule s

-- the row of each sort
abbrev pub rule_of : (marks : Bool) → Sort → Phrase Tree
rule_of false = rule
rule_of true = marked_rule

-- the tokens behind a phrase of a sort that could belong to it
abbrev pub marked_tails : Sort → Kind → Bool
marked_tails Braces k = tails Braces k
marked_tails s k = is_mark mark.Prime k || tails s k

-- the tree without its marks, where it may have some

abbrev pub plain_head : (marks : Bool) → Head → Head
plain_head marks (Primed x) = if marks then Leaf x else Primed x
plain_head marks h = h

unfoldable pub plain : (marks : Bool) → Tree → Tree
plain marks Empty = Empty
plain marks (Node h a b) = Node (plain_head marks h) (plain marks a) (plain marks b)

-- a cell without the marks of its indices; its own name has none
abbrev pub plain_cell : (marks : Bool) → Tree → Tree
plain_cell marks Empty = Empty
plain_cell marks (Node h a b) = Node h (plain marks a) (plain marks b)
