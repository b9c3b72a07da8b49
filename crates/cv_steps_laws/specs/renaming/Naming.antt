-- Games, indices and cells of tapes under other names of variables and of indices. This profile's own.
use Rattle.std.specs.Prelude.{◌≡◌, ℕ, true, ◌==◌, if◌then◌else◌, map}
use Rattle.cv_syntax_trees.specs.declared.head.Head.{Head}
use Rattle.cv_syntax_trees.specs.declared.head.Head.TheVariants.{Binder, Call, Key, Leaf, Let, Name, New, Read, Repl}
use Rattle.cv_syntax_trees.specs.Tree.{Tree, Empty, Node}
use Rattle.cv_meaning.specs.Tapes.{Cell, New_at}
use Rattle.cv_meaning.specs.Side.{no_side}
use Rattle.cv_meaning.specs.Interpretation.{Setting}
use Rattle.cv_meaning.specs.Memory.{Indices}
use Rattle.cv_meaning.specs.Runs.{Mode, Events, Real, Random}

-- two names for one another, and each other name as it is
abbrev pub exchanged : (x y : ℕ) → ℕ → ℕ
exchanged x y z = if z == x then y else if z == y then x else z

-- the node with another name of its variable or index
abbrev pub head_with_names : (ℕ → ℕ) → Head → Head
head_with_names name (Repl i n) = Repl (name i) n
head_with_names name (Name i) = Name (name i)
head_with_names name (New z T) = New (name z) T
head_with_names name (Let z T) = Let (name z) T
head_with_names name (Binder z T) = Binder (name z) T
head_with_names name (Leaf z) = Leaf (name z)
head_with_names name (Read z) = Read (name z)
head_with_names name (Key z) = Key (name z)
head_with_names name (Call z l) = Call (name z) l
head_with_names name h = h

-- so of each node of the tree
unfoldable pub with_names : (ℕ → ℕ) → Tree → Tree
with_names name Empty = Empty
with_names name (Node h a b) = Node (head_with_names name h) (with_names name a) (with_names name b)

-- current indices
abbrev pub indices_with_names : (ℕ → ℕ) → Indices → Indices
indices_with_names name at = map (λ (p : ℕ × ℕ). (name p.0, p.1)) at

-- a restriction's cell has the name of its variable
abbrev pub cell_with_name : (ℕ → ℕ) → Cell → Cell
cell_with_name name (New_at x u) = New_at (name x) u
cell_with_name name c = c

-- no two names become one, constants stay and nothing else becomes one; nothing answers calls
pub record IsNaming (g : Setting) (name : ℕ → ℕ) : Type 0 where
  pub apart : (x y : ℕ) → name x ≡ name y → x ≡ y
  pub constants : (x : ℕ) → g.is_constant (name x) ≡ g.is_constant x
  pub stays : (x : ℕ) → g.is_constant x ≡ true → name x ≡ x
  pub side : g.side ≡ no_side

-- what the adversary tests has its name
abbrev pub KeepsTested : (ℕ → ℕ) → Mode → Type 0
KeepsTested name Events = Unit {0}
KeepsTested name (Real one x) = name x ≡ x
KeepsTested name (Random one x) = name x ≡ x
