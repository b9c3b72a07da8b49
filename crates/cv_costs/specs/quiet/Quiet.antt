-- Processes in which services read no value of some variables, but where a `let` copies one.
use Rattle.std.specs.Prelude.{◌≡◌, ℕ, ◌||◌, ◌&&◌, ◌==◌, Bool, true, false, List, [], ◌∷◌, ◌++◌}
use Rattle.std.specs.List.{list_any}
use Rattle.cv_syntax_trees.specs.declared.head.Head.TheVariants.{Stop, Yield, Par, Repl, In, Out, Event, New, Let, If, Find, Branch, Binder, Cons}
use Rattle.cv_syntax_trees.specs.Tree.{Tree, Empty, Node, first, second}
use Rattle.cv_meaning_runs.specs.Replacement.{Part, Process, Branches}
use Rattle.cv_meaning_chances.specs.unread.Dropping.{reads_none}

-- the list of binders binds one of these variables
unfoldable pub binds_one : (ℕ → Bool) → Tree → Bool
binds_one xs (Node (Binder x T) a b) = xs x || binds_one xs b
binds_one xs _ = false

-- the indices of the cells of a `defined` list read none of them
unfoldable pub cells_read_none : (ℕ → Bool) → Tree → Bool
cells_read_none xs Empty = true
cells_read_none xs (Node h a b) = reads_none xs (first a) && cells_read_none xs b

-- the variables of which no value is read, which of them `new` may define, and which `let` may, below replications with these
-- indices, by which term
pub record Kind : Type 1 where
  pub unread : ℕ → Bool
  pub drawn : ℕ → Type 0
  pub copied : List ℕ → ℕ → Tree → Type 0

-- one variable, which `new` may define and no `let` may copy
abbrev pub only : ℕ → Kind
only x = record { unread = λ z. list_any (λ y. z == y) (x ∷ []); drawn = λ y. Unit {0}; copied = λ is y a. ⊥ }

-- of a process or of branches, below replications with these indices
pub data IsQuiet (k : Kind) : List ℕ → Part → Tree → Type 0 where
  over : {is : List ℕ} {part : Part} → IsQuiet k is part Empty
  stopped : {is : List ℕ} {a b : Tree} → IsQuiet k is Process (Node Stop a b)
  yielded : {is : List ℕ} {a b : Tree} → IsQuiet k is Process (Node Yield a b)
  in_parallel : {is : List ℕ} {a b : Tree} → IsQuiet k is Process a → IsQuiet k is Process b → IsQuiet k is Process (Node Par a b)
  repeated : {is : List ℕ} {i n : ℕ} {a b : Tree} → IsQuiet k (is ++ i ∷ []) Process b → IsQuiet k is Process (Node (Repl i n) a b)
  received : {is : List ℕ} {c : ℕ} {a b : Tree} → binds_one k.unread (second a) ≡ false → IsQuiet k is Process b → IsQuiet k is Process (Node (In c) a b)
  sent : {is : List ℕ} {c : ℕ} {a b : Tree} → reads_none k.unread (second a) ≡ true → IsQuiet k is Process b → IsQuiet k is Process (Node (Out c) a b)
  chosen : {is : List ℕ} {x T : ℕ} {a b : Tree} → k.drawn x → IsQuiet k is Process b → IsQuiet k is Process (Node (New x T) a b)
  named : {is : List ℕ} {x T : ℕ} {a b : Tree} → k.unread x ≡ false → reads_none k.unread a ≡ true → IsQuiet k is Process b → IsQuiet k is Process (Node (Let x T) a b)
  copying : {is : List ℕ} {x T : ℕ} {a b : Tree} → k.copied is x a → IsQuiet k is Process b → IsQuiet k is Process (Node (Let x T) a b)
  happened : {is : List ℕ} {e : ℕ} {a b : Tree} → reads_none k.unread a ≡ true → IsQuiet k is Process b → IsQuiet k is Process (Node (Event e) a b)
  decided : {is : List ℕ} {a b : Tree} → reads_none k.unread a ≡ true → IsQuiet k is Process b → IsQuiet k is Process (Node If a b)
  in_list : {is : List ℕ} {a b : Tree} → IsQuiet k is Process a → IsQuiet k is Process b → IsQuiet k is Process (Node Cons a b)
  in_find : {is : List ℕ} {l : ℕ} {a b : Tree} → IsQuiet k is Branches a → IsQuiet k is Process b → IsQuiet k is Process (Node (Find l) a b)
  in_branch : {is : List ℕ} {binders defined condition b more : Tree} → binds_one k.unread binders ≡ false → cells_read_none k.unread defined ≡ true → reads_none k.unread condition ≡ true
      → IsQuiet k is Process b → IsQuiet k is Branches more
      → IsQuiet k is Branches (Node Cons (Node Branch binders (Node Cons defined (Node Cons condition b))) more)
