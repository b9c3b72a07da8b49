-- What the visit of a construct makes: it assigns a variable's cell, serves a copy of a channel's input, or
-- consults the cell of a find. Blanchet, TDSC 2008, section 2, for single assignment.
use Rattle.std.specs.Prelude.{◌≡◌, ℕ, Bool, true, false, ◌||◌, ◌==◌, None}
use Rattle.cv_syntax_trees.specs.declared.head.Head.{Head}
use Rattle.cv_syntax_trees.specs.declared.head.Head.TheVariants.{In, New, Let, Binder, Find, Branch, Key, Call}
use Rattle.cv_syntax_trees.specs.Tree.{Tree, Empty, Node, second}
use Rattle.cv_meaning.specs.Memory.{tuple}
use Rattle.cv_meaning.specs.Serving.{Visit}
use Rattle.cv_scope_rules.specs.Sites.{SiteName, Variable, Channel, Label}

-- the variable is one of a list of binders
unfoldable pub is_bound : Tree → ℕ → Bool
is_bound (Node (Binder x T) a b) y = (y == x) || is_bound b y
is_bound t y = false

-- an input and a branch assign the variables that they bind
abbrev pub made_by : Head → Tree → SiteName → Bool
made_by (New x T) a (Variable y) = y == x
made_by (Let x T) a (Variable y) = y == x
made_by (Key x) a (Variable y) = y == x
made_by (Call x l) a (Variable y) = y == x
made_by (In c) a (Variable y) = is_bound (second a) y
made_by (In c) a (Channel d) = d == c
made_by Branch a (Variable y) = is_bound a y
made_by (Find l) a (Label m) = m == l
made_by h a y = false

abbrev pub made_at : Tree → SiteName → Bool
made_at Empty y = false
made_at (Node h a b) y = made_by h a y

-- two visits make nothing of one name at one copy
abbrev pub MakeApart : Visit → Visit → Type 0
MakeApart v w = (y : SiteName) → made_at v.tree y ≡ true → made_at w.tree y ≡ true → tuple v.before.indices ≡ tuple w.before.indices → ⊥

-- a branch of the list binds the variable
abbrev pub is_own_of : Tree → ℕ → Bool
is_own_of (Node h (Node Branch us rest) more) y = is_bound us y || is_own_of more y
is_own_of t y = false

-- at a `find`, one of its branches does
abbrev pub is_own_at : Tree → ℕ → Bool
is_own_at (Node (Find l) a b) y = is_own_of a y
is_own_at t y = false

-- no index variable of a branch of the visited `find` is assigned at its copy
abbrev pub OwnUnassigned : Visit → Type 0
OwnUnassigned v = (y : ℕ) → is_own_at v.tree y ≡ true → v.before.memory.store y (tuple v.before.indices) ≡ None

-- no cell that a visit assigns was assigned before
abbrev pub AssignsNew : Visit → Type 0
AssignsNew v = (y : ℕ) → made_at v.tree (Variable y) ≡ true → v.before.memory.store y (tuple v.before.indices) ≡ None
