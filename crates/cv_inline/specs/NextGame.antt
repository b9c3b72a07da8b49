-- The next game of a context with the right side: a `new` for the choice of the key, and for each call the
-- `let` of its arguments and the right body. Blanchet and Pointcheval, CRYPTO 2006.
use Rattle.std.specs.Prelude.{ℕ, suc, ◌==◌, if◌then◌else◌, List, [], ◌∷◌, ◌++◌, map, Option, Some, None}
use Rattle.cv_syntax_trees.specs.declared.head.Head.{Head}
use Rattle.cv_syntax_trees.specs.declared.head.Head.TheVariants.{Repl, In, Out, Event, New, Let, If, Branch, Leaf, Read, No, Key, Call}
use Rattle.cv_syntax_trees.specs.Tree.{Tree, Empty, Node, lone, first, second}
use Rattle.cv_meaning.specs.contexts.Groups.{Right, Function, Group, side_group, function_at}
use Rattle.cv_meaning.specs.contexts.Sites.{is_call}
use Rattle.cv_meaning.specs.contexts.Sides.{Context}
use Rattle.cv_meaning.specs.contexts.Inlined.{Drawn, Caller, TheKey, inlined_call}
use Rattle.cv_syntax_trees.specs.lists.Options.{first_of}

-- the callers of a context

-- the names that a body assigns, in the order of the text
unfoldable pub names_assigned : Tree → List ℕ
names_assigned Empty = []
names_assigned (Node (New z T) a b) = z ∷ names_assigned b
names_assigned (Node (Let z T) a b) = z ∷ names_assigned b
names_assigned (Node h a b) = names_assigned a ++ names_assigned b

abbrev pub replications_under : Head → List (ℕ × ℕ) → List (ℕ × ℕ)
replications_under (Repl i n) rs = rs ++ (i, n) ∷ []
replications_under h rs = rs

-- the first call with a site's number: the replications above it, and its key with its arguments; first those
-- above the tree
unfoldable pub call_of : List (ℕ × ℕ) → ℕ → Tree → Option (List (ℕ × ℕ) × Tree)
call_of rs l Empty = None
call_of rs l (Node h a b) =
    if is_call l h then Some (rs, a) else first_of (call_of (replications_under h rs) l a) (call_of (replications_under h rs) l b)

-- a site of the context, with the function that is called there
pub record Calling : Type 0 where
  pub caller : Caller
  pub function : Function

abbrev pub calling : ℕ → Option Function → Option (List (ℕ × ℕ) × Tree) → List Calling
calling l (Some f) (Some c) =
    record {
      caller = record { number = l; bound = f.bound; names = map (λ (x : ℕ × ℕ). x.0) f.arguments ++ names_assigned f.body; replications = c.0; key = first (first c.1) };
      function = f;
    } ∷ []
calling l _ _ = []

-- the sites from a number on, where the functions of the sites are these
unfoldable pub callings_from : Group → Tree → ℕ → List ℕ → List Calling
callings_from g context l [] = []
callings_from g context l (f ∷ fs) = calling l (function_at g f) (call_of [] l context) ++ callings_from g context (suc l) fs

-- by number
abbrev pub callings_of : Context → List Calling
callings_of c = callings_from (side_group Right c.equivalence) c.game 0 c.functions

abbrev pub callers_of : List Calling → List Caller
callers_of cs = map (λ (c : Calling). c.caller) cs

abbrev pub numbered : ℕ → List Calling → Option Calling
numbered l [] = None
numbered l (c ∷ cs) = if c.caller.number == l then Some c else numbered l cs

-- the game

-- a variable that takes an answer, with the result that stands for it
abbrev pub Results : Type 0
Results = List (ℕ × Tree)

abbrev pub result_for : Results → ℕ → Tree → Tree
result_for [] x t = t
result_for (r ∷ rs) x t = if r.0 == x then r.1 else result_for rs x t

-- a term with results for answers
unfoldable pub with_results : Results → Tree → Tree
with_results rs Empty = Empty
with_results rs (Node (Leaf x) a b) = result_for rs x (Node (Leaf x) a b)
with_results rs (Node (Read x) a b) = result_for rs x (Node (Read x) a b)
with_results rs (Node h a b) = Node h (with_results rs a) (with_results rs b)

-- the calls that are inlined: the drawn names, the key's variable, the right side, and the sites
pub record InlinedCalls : Type 0 where
  pub drawn : Drawn
  pub key : ℕ
  pub group : Group
  pub callings : List Calling

-- cells of the key's variable become those of the drawn key
abbrev pub game_name : InlinedCalls → ℕ → ℕ
game_name i x = if x == i.key then i.drawn.key else x

-- a call at its site, with its arguments; in place of each result stands what k makes of it
abbrev pub call_in_game : InlinedCalls → Option Calling → (arguments : Tree) → (k : Tree → Tree) → Tree
call_in_game i None ms k = k (lone No)
call_in_game i (Some c) ms k =
    inlined_call i.drawn (callers_of i.callings) c.caller ((i.group.key.0, TheKey) ∷ []) c.function.arguments ms c.function.body k

-- the tree of the next game, where these results are those of the calls of the statement
unfoldable pub next_in : InlinedCalls → Results → Tree → Tree
next_in i rs Empty = Empty
next_in i rs (Node (Key x) a b) = Node (New i.drawn.key i.group.key.1) Empty (next_in i [] b)
next_in i rs (Node (Call x l) a b) = call_in_game i (numbered l i.callings) (second a) (λ m. next_in i ((x, m) ∷ rs) b)
next_in i rs (Node (Let x T) a b) = Node (Let x T) (with_results rs a) (next_in i [] b)
next_in i rs (Node If a b) = Node If (with_results rs a) (next_in i [] b)
next_in i rs (Node (Event e) a b) = Node (Event e) (with_results rs a) (next_in i [] b)
next_in i rs (Node (Out c) a b) = Node (Out c) (with_results rs a) (next_in i [] b)
next_in i rs (Node (In c) a b) = Node (In c) a (next_in i [] b)
next_in i rs (Node Branch a b) = Node Branch a (next_in i [] b)
next_in i rs (Node (Leaf x) a b) = Node (Leaf (game_name i x)) a b
next_in i rs (Node (Read x) a b) = Node (Read (game_name i x)) a b
next_in i rs (Node h a b) = Node h (next_in i [] a) (next_in i [] b)

abbrev pub inlined_calls_of : Context → (key : ℕ) → Drawn → InlinedCalls
inlined_calls_of c x d = record { drawn = d; key = x; group = side_group Right c.equivalence; callings = callings_of c }

-- the next game of a context, whose key is the variable x, with these drawn names
abbrev pub next_of : Context → (key : ℕ) → Drawn → Tree
next_of c x d = next_in (inlined_calls_of c x d) [] c.game
