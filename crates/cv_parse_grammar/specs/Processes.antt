-- The rows of processes. An input process waits for a message; an output process runs until it sends one.
use Rattle.std.specs.Prelude.{ℕ, false, true, [], ◌∷◌}
use Rattle.cv_syntax_trees.specs.Tree.{Tree, Empty, Node, first, second, lone, chain, names, binders}
use Rattle.cv_syntax_trees.specs.declared.head.Head.TheVariants.{Stop, Yield, Par, Repl, In, Out, Event, New, Let, If, Find, Branch, Cons, Name}
use Rattle.cv_parse_notation.specs.declared.sign.Mark.TheVariants as mark
use Rattle.cv_parse_notation.specs.Form.{sign, word, number, nought, find_word, may, many, either, made, level, deeper, ◌&◌, ◌▸◌}
use Rattle.cv_parse_grammar.specs.declared.role.Asked.TheVariants.{AParam, AChannel, AnEvent}
use Rattle.cv_parse_grammar.specs.declared.role.Role.{Role}
use Rattle.cv_parse_grammar.specs.declared.role.Role.TheVariants.{Asks, BindsVariable, BindsIndex, AsksIndex}
use Rattle.cv_parse_grammar.specs.Phrases.{Sort, Phrase, Term, Arguments, Inputs, Input, Output, Pattern, Sending, Payload, Variables, Indices, ProcessBranch, or_else, after, row, bracket, square, listed, typed, var_list, indices}
use Rattle.cv_parse_grammar.specs.Terms.{terms, condition}

abbrev pub stops : Tree
stops = lone Stop

abbrev pub yields : Tree
yields = lone Yield

-- a channel with its indices, and what goes over it
abbrev pub channel : Phrase (ℕ × Tree)
channel = word (Asks AChannel) & listed (deeper Indices)

abbrev pub channel_indices : Phrase Tree
channel_indices = square (made names (row mark.Comma (word AsksIndex)))

abbrev pub over : (ℕ × Tree) × Tree → Tree
over ((c, l), t) = Node (Name c) l t

abbrev pub name_of : Tree → ℕ
name_of (Node (Name x) a b) = x
name_of t = 0

abbrev pub indices_and : Tree → Tree
indices_and t = Node Cons (first t) (second t)

-- what is common to processes and the bodies of equivalences

-- new x : T ; ..
abbrev pub new_in : Role → Sort → Phrase Tree
new_in r s = level (made (λ ((x, T), t). Node (New x T) Empty t) (mark.New ▸ (typed r & (mark.Semicolon ▸ deeper s))))

-- let x : T = M in ..
abbrev pub let_in : Role → Sort → Phrase Tree
let_in r s = level (made (λ ((x, T), (m, t)). Node (Let x T) m t) (mark.Let ▸ (typed r & (mark.Equal ▸ (deeper Term & (mark.In ▸ deeper s))))))

-- a test: its condition, and a list of the two bodies
abbrev pub test : Tree × (Tree × Tree) → Tree
test (c, (t, e)) = Node If c (chain (t ∷ (e ∷ [])))

-- u <= N, .. suchthat .. then ..
abbrev pub branch_in : Role → Role → Sort → Phrase Tree
branch_in index bound s =
    level (made (λ (l, ((c, m), t)). Node Branch l (Node Cons c (Node Cons m t))) (
    listed (indices index bound) & (mark.Suchthat ▸ (condition & (mark.Then ▸ deeper s)))
    ))

-- the label and the branches of a `find`; a plain one has its own number among the words `find`
abbrev pub find_in : Sort → Phrase (ℕ × Tree)
find_in s =
    made (λ (k, (l, (b, bs))). (or_else k l, chain (b ∷ bs))) (
    find_word & (may false (mark.At ▸ number) & (deeper s & many true (mark.Orfind ▸ deeper s)))
    )

-- input processes

abbrev pub ending : Phrase Tree
ending = level (made (λ _. stops) nought)

abbrev pub replication : Phrase Tree
replication = level (made (λ (i, (n, t)). Node (Repl i n) Empty t) (mark.Bang ▸ (word BindsIndex & (mark.AtMost ▸ (word (Asks AParam) & deeper Input)))))

abbrev pub receiving : Phrase Tree
receiving = level (made (λ (p, t). Node (In (name_of p)) (indices_and p) t) (mark.In ▸ (deeper Pattern & (mark.Semicolon ▸ deeper Output))))

abbrev pub input : Phrase Tree
input = either ending (either (bracket (deeper Inputs)) (either replication receiving))

-- `|` nests to the right
abbrev pub beside : Phrase (Tree → Tree)
beside = made (λ (s, r) l. Node Par l r) (level (sign mark.Bar) & deeper Inputs)

abbrev pub inputs : Phrase Tree
inputs = made (λ (t, f). after t f) (input & may false beside)

-- what an input binds: one variable, or a list in parentheses
abbrev pub received : Phrase Tree
received = either (deeper Variables) (made (λ b. binders (b ∷ [])) (typed BindsVariable))

abbrev pub pattern : Phrase Tree
pattern = bracket (made over (channel & (mark.Comma ▸ received)))

abbrev pub variables : Phrase Tree
variables = var_list BindsVariable

-- output processes

abbrev pub yielding : Phrase Tree
yielding = level (made (λ _. yields) (sign mark.Yield))

-- what an output sends: behind the comma a parenthesis always opens the list
abbrev pub sent : Phrase Tree
sent = either (deeper Payload) (made (λ t. chain (t ∷ [])) (deeper Term))

abbrev pub sending : Phrase Tree
sending = bracket (made over (channel & (mark.Comma ▸ sent)))

abbrev pub payload : Phrase Tree
payload = bracket (listed terms)

-- a missing continuation is `0`
abbrev pub continuation : Phrase Tree
continuation = made (or_else stops) (may false (mark.Semicolon ▸ deeper Input))

abbrev pub outgoing : Phrase Tree
outgoing = level (made (λ (p, t). Node (Out (name_of p)) (indices_and p) t) (mark.Out ▸ (deeper Sending & continuation)))

abbrev pub restriction : Phrase Tree
restriction = new_in BindsVariable Output

abbrev pub assignment : Phrase Tree
assignment = let_in BindsVariable Output

abbrev pub recording : Phrase Tree
recording = level (made (λ (e, (l, t)). Node (Event e) l t) (mark.EventWord ▸ (word (Asks AnEvent) & (listed (deeper Arguments) & (mark.Semicolon ▸ deeper Output)))))

-- a missing `else` is `else yield`; it belongs to the nearest open test
abbrev pub otherwise : Phrase Tree
otherwise = made (or_else yields) (may true (mark.Else ▸ deeper Output))

abbrev pub testing : Phrase Tree
testing = level (made test (mark.If ▸ (deeper Term & (mark.Then ▸ (deeper Output & otherwise)))))

abbrev pub finding : Phrase Tree
finding = level (made (λ ((k, bs), t). Node (Find k) bs t) (find_in ProcessBranch & otherwise))

abbrev pub branch : Phrase Tree
branch = branch_in BindsVariable (Asks AParam) Output

abbrev pub output : Phrase Tree
output =
    either yielding
    (either (bracket (deeper Output))
    (either outgoing
    (either restriction
    (either assignment
    (either recording
    (either testing finding))))))
