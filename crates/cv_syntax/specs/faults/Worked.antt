-- A walk that counts the replications above a node, with small trees and their first faults.
use Rattle.std.specs.Prelude.{◌≡◌, ℕ, ◌+◌, Bool, true, false, ◌&&◌, nat_lt, if◌then◌else◌, List, [], ◌∷◌, Option, Some, None}
use Rattle.cv_syntax_trees.specs.declared.head.Head.{Head}
use Rattle.cv_syntax_trees.specs.declared.head.Head.TheVariants.{Par, Repl, Stop}
use Rattle.cv_syntax_trees.specs.Tree.{Tree, Empty, Node, lone}
use Rattle.cv_syntax.specs.faults.Walk.{Walk}

abbrev pub is_replication : Head → Bool
is_replication (Repl i n) = true
is_replication h = false

-- a replication below another one is a fault, of the number of those above
abbrev pub nested : ℕ → Head → Option ℕ
nested n h = if is_replication h && nat_lt 0 n then Some n else None

abbrev pub nesting : Walk ℕ ℕ
nesting = record {
  fault = λ n h a b. nested n h;
  first = λ n h a. n;
  second = λ n h a. if is_replication h then n + 1 else n;
  Obeys = λ n h a b. nested n h ≡ None;
  Breaks = λ n h a b f. nested n h ≡ Some f;
}

abbrev copies : ℕ → Tree → Tree
copies i t = Node (Repl i 3) Empty t

-- trees, with the place and the fault of the first node that has one
abbrev pub trees : List (Tree × Option (ℕ × ℕ))
trees =
    (lone Stop, None)
    ∷ (copies 4 (lone Stop), None)
    ∷ (copies 4 (copies 5 (lone Stop)), Some (1, 1))
    ∷ (Node Par (copies 4 (lone Stop)) (copies 4 (copies 5 (copies 6 (lone Stop)))), Some (4, 1))
    ∷ (Node Par (copies 4 (copies 5 (lone Stop))) (copies 4 (copies 5 (lone Stop))), Some (2, 1))
    ∷ []
