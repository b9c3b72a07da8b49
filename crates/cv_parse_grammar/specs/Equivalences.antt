-- The rows of equivalences: groups of functions, and the bodies of functions.
use Rattle.std.specs.Prelude.{ℕ, false, [], ◌∷◌, Option, Some, None}
use Rattle.cv_syntax_trees.specs.Tree.{Tree, Empty, Node, first, second, chain, binders}
use Rattle.cv_syntax_trees.specs.declared.head.Head.{Head}
use Rattle.cv_syntax_trees.specs.declared.head.Head.TheVariants.{New, Find, Cons, Bound, Single, Oracle}
use Rattle.cv_parse_notation.specs.declared.sign.Mark.TheVariants as mark
use Rattle.cv_parse_notation.specs.Form.{word, may, many, either, made, level, deeper, ◌&◌, ◌▸◌, ◌◂◌}
use Rattle.cv_parse_grammar.specs.declared.role.Role.TheVariants.{BindsLocal, BindsBound, AsksBound}
use Rattle.cv_parse_grammar.specs.Phrases.{Sort, Phrase, Term, Body, BodyBranch, RightRest, row, bracket, typed, var_list}
use Rattle.cv_parse_grammar.specs.Terms.{term}
use Rattle.cv_parse_grammar.specs.Processes.{new_in, let_in, test, branch_in, find_in}

-- bodies: a missing `else` is not allowed here

abbrev pub body_test : Phrase Tree
body_test = level (made test (mark.If ▸ (deeper Term & (mark.Then ▸ (deeper Body & (mark.Else ▸ deeper Body))))))

abbrev pub body_find : Phrase Tree
body_find = level (made (λ ((k, bs), t). Node (Find k) bs t) (find_in BodyBranch & (mark.Else ▸ deeper Body)))

abbrev pub body_branch : Phrase Tree
body_branch = branch_in BindsLocal AsksBound Body

abbrev pub body : Phrase Tree
body = either (new_in BindsLocal Body) (either (let_in BindsLocal Body) (either body_test (either body_find term)))

-- functions

-- ! i <= N
abbrev pub copies : Phrase (ℕ × ℕ)
copies = mark.Bang ▸ (word BindsLocal & (mark.AtMost ▸ word BindsBound))

-- a function without a replication has a bound of its own name
abbrev pub bound_of : ℕ → Option (ℕ × ℕ) → Head
bound_of f None = Single f
bound_of f (Some (i, n)) = Bound i n

-- a function: its replication, the variables that are chosen for it, its arguments and its body
abbrev pub function_of : ℕ → Option (ℕ × ℕ) → Tree → Tree → Tree → Tree
function_of f copied chosen args t = Node (Oracle f) (Node (bound_of f copied) chosen args) t

abbrev pub left_function : Phrase Tree
left_function =
    made (λ (f, (c, (l, (args, t)))). function_of f c (binders l) args t) (
    word BindsLocal & (mark.Colon ▸ (may false copies & (many false (mark.New ▸ typed BindsLocal ◂ mark.Semicolon) & (var_list BindsLocal & (mark.Arrow ▸ body)))))
    )

-- the arguments and the body; a `new` before the arguments stands at the front of the body
abbrev pub new_before : Phrase Tree
new_before = level (made (λ ((x, T), p). Node Cons (first p) (Node (New x T) Empty (second p))) (mark.New ▸ (typed BindsLocal & (mark.Semicolon ▸ deeper RightRest))))

abbrev pub arguments_and_body : Phrase Tree
arguments_and_body = made (λ (args, t). Node Cons args t) (var_list BindsLocal & (mark.Arrow ▸ body))

abbrev pub right_rest : Phrase Tree
right_rest = either new_before arguments_and_body

abbrev pub right_function : Phrase Tree
right_function = made (λ (f, (c, p)). function_of f c Empty (first p) (second p)) (word BindsLocal & (mark.Colon ▸ (may false copies & right_rest)))

-- groups

-- ( function | .. )
abbrev pub functions : Sort → Phrase Tree
functions s = bracket (made chain (row mark.Bar (deeper s)))

-- ! i <= N new k : T ; ( function | .. )
abbrev pub group : Sort → Phrase Tree
group s =
    made (λ (i, (n, (key, l))). Node (Bound i n) (binders (key ∷ [])) l) (
    mark.Bang ▸ (word BindsLocal & (mark.AtMost ▸ (word BindsBound & (mark.New ▸ (typed BindsLocal & (mark.Semicolon ▸ functions s))))))
    )

-- a group of one function, all under one name
abbrev pub lone_group : ℕ → ℕ × ℕ → Tree → Tree → Tree
lone_group x key args t = Node (Single x) (binders (key ∷ [])) (chain (function_of x None Empty args t ∷ []))
