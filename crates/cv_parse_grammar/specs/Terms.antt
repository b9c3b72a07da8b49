-- The rows of terms: `||` over `&&` over `=` and `<>` over primary terms, and the conditions of `find`.
use Rattle.std.specs.Prelude.{ℕ, false, Option, Some, None}
use Rattle.cv_syntax_trees.specs.Tree.{Tree, Empty, Node, lone, chain}
use Rattle.cv_syntax_trees.specs.declared.head.Head.TheVariants.{Leaf, Read, Apply, Eq, And, Or, Not, Yes, No}
use Rattle.cv_parse_notation.specs.declared.sign.Mark.TheVariants as mark
use Rattle.cv_parse_notation.specs.Form.{sign, word, note, may, either, made, level, deeper, ◌&◌, ◌▸◌}
use Rattle.cv_parse_grammar.specs.declared.role.Role.TheVariants.{Mentions, AsCall, AsArray, AsBare, MentionsCell}
use Rattle.cv_parse_grammar.specs.Phrases.{Phrase, Term, Conjunction, Primary, Unequal, Arguments, Subscript, Parentheses, Cells, OneCell, or_else, after, row, bracket, square}

abbrev pub yes : Tree
yes = lone Yes

abbrev pub terms : Phrase Tree
terms = made chain (row mark.Comma (deeper Term))

abbrev pub arguments : Phrase Tree
arguments = bracket terms

abbrev pub subscript : Phrase Tree
subscript = square terms

-- parentheses leave no trace
abbrev pub parentheses : Phrase Tree
parentheses = bracket (deeper Term)

-- what follows a name: arguments, indices or nothing
abbrev pub called : Phrase (ℕ → Tree)
called = made (λ (n, l) f. Node (Apply f) l Empty) (note AsCall & deeper Arguments)

abbrev pub indexed : Phrase (ℕ → Tree)
indexed = made (λ (n, l) x. Node (Read x) l Empty) (note AsArray & deeper Subscript)

abbrev pub alone : Phrase (ℕ → Tree)
alone = made (λ n x. lone (Leaf x)) (note AsBare)

abbrev pub mention : Phrase Tree
mention = level (made (λ (x, f). f x) (word Mentions & either called (either indexed alone)))

abbrev pub negation : Phrase Tree
negation = level (made (λ t. Node Not t Empty) (mark.Not ▸ deeper Parentheses))

abbrev pub truth : Phrase Tree
truth = level (made (λ _. yes) (sign mark.True))

abbrev pub falsehood : Phrase Tree
falsehood = level (made (λ _. lone No) (sign mark.False))

abbrev pub primary : Phrase Tree
primary = either mention (either negation (either truth (either falsehood parentheses)))

-- `<>` opens two levels, since M <> N is not(M = N)
abbrev pub unequal : Phrase Tree
unequal = level (mark.Differ ▸ deeper Primary)

abbrev pub equal_to : Phrase (Tree → Tree)
equal_to = made (λ (s, r) l. Node Eq l r) (level (sign mark.Equal) & deeper Primary)

abbrev pub unequal_to : Phrase (Tree → Tree)
unequal_to = made (λ r l. Node Not (Node Eq l r) Empty) (deeper Unequal)

abbrev pub equality : Phrase Tree
equality = made (λ (t, f). after t f) (primary & may false (either equal_to unequal_to))

-- `&&` and `||` nest to the right
abbrev pub conjoined : Phrase (Tree → Tree)
conjoined = made (λ (s, r) l. Node And l r) (level (sign mark.Both) & deeper Conjunction)

abbrev pub conjunction : Phrase Tree
conjunction = made (λ (t, f). after t f) (equality & may false conjoined)

abbrev pub disjoined : Phrase (Tree → Tree)
disjoined = made (λ (s, r) l. Node Or l r) (level (sign mark.Either) & deeper Term)

abbrev pub term : Phrase Tree
term = made (λ (t, f). after t f) (conjunction & may false disjoined)

-- a cell of `defined`
abbrev pub cell_of : ℕ → Option Tree → Tree
cell_of x None = lone (Leaf x)
cell_of x (Some l) = Node (Read x) l Empty

abbrev pub cell : Phrase Tree
cell = level (made (λ (x, l). cell_of x l) (word MentionsCell & may false (deeper Subscript)))

abbrev pub cells : Phrase Tree
cells = bracket (made chain (row mark.Comma (deeper OneCell)))

-- the cells and the condition; a missing condition behind `defined` is `true`
abbrev pub defined_condition : Phrase (Tree × Tree)
defined_condition = mark.Defined ▸ (deeper Cells & made (or_else yes) (may false (mark.Both ▸ deeper Term)))

abbrev pub plain_condition : Phrase (Tree × Tree)
plain_condition = made (λ t. (Empty, t)) (deeper Term)

abbrev pub condition : Phrase (Tree × Tree)
condition = either defined_condition plain_condition
