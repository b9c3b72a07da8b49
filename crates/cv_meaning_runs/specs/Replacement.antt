-- Two games that differ in one subtree to which a service may come, and when the two subtrees serve
-- alike. This profile's own.
use Rattle.std.specs.Prelude.{◌≡◌, ℕ, ◌+◌, ◌-◌, Bool, true, false, nat_lt, if◌then◌else◌, List, ◌⊎◌}
use Rattle.std.specs.List.{AllByRecursion}
use Rattle.cv_syntax_trees.specs.declared.head.Head.{Head}
use Rattle.cv_syntax_trees.specs.declared.head.Head.TheVariants.{Par, If, Find, Branch, Cons}
use Rattle.cv_syntax_trees.specs.Head.{weight}
use Rattle.cv_syntax_trees.specs.Tree.{Tree, Empty, Node, first, size, first_place, second_place}
use Rattle.cv_meaning.specs.Tapes.{Tape}
use Rattle.cv_meaning.specs.Interpretation.{Setting}
use Rattle.cv_meaning.specs.Memory.{Memory, Indices, Local}
use Rattle.cv_meaning.specs.Terms.{is_one, value_here}
use Rattle.cv_meaning.specs.Inputs.{Input, inputs_of}
use Rattle.cv_meaning.specs.Serving.{Visit, serve, visits}
use Rattle.cv_meaning.specs.Runs.{Mode, Adversary}
use Rattle.cv_meaning.specs.Experiments.{visits_of_run}
use Rattle.cv_meaning_runs.specs.Simulation.{InOrder, AreServedAlike}

-- a process, or the branches of a find
pub data Part : Type 0 where
  Process Branches : Part

-- how many syntax nodes stand in a branch before its body
abbrev pub before_body : Tree → Tree → Tree → ℕ
before_body binders defined condition = 1 + size binders + size defined + size condition

-- the second tree is the first, which stands at a place of its own, with `new` for the `old` that stands
-- at `place`, to which a service may come
pub data IsReplaced (old new : Tree) (place : ℕ) : Part → ℕ → Tree → Tree → Type 0 where
  here : IsReplaced old new place Process place old new
  in_continuation : {h : Head} {p : ℕ} {a b c : Tree} → IsReplaced old new place Process (second_place p h a) b c → IsReplaced old new place Process p (Node h a b) (Node h a c)
  in_parallel : {p : ℕ} {a b c : Tree} → IsReplaced old new place Process (first_place p Par) a c → IsReplaced old new place Process p (Node Par a b) (Node Par c b)
  in_list : {p : ℕ} {a b c : Tree} → IsReplaced old new place Process (first_place p Cons) a c → IsReplaced old new place Process p (Node Cons a b) (Node Cons c b)
  in_find : {l p : ℕ} {a b c : Tree} → IsReplaced old new place Branches (first_place p (Find l)) a c → IsReplaced old new place Process p (Node (Find l) a b) (Node (Find l) c b)
  in_branch : {p : ℕ} {binders defined condition b c more : Tree} → IsReplaced old new place Process (p + before_body binders defined condition) b c
      → IsReplaced old new place Branches p (Node Cons (Node Branch binders (Node Cons defined (Node Cons condition b))) more)
      (Node Cons (Node Branch binders (Node Cons defined (Node Cons condition c))) more)
  in_later_branch : {p : ℕ} {a b c : Tree} → IsReplaced old new place Branches (second_place p Cons a) b c → IsReplaced old new place Branches p (Node Cons a b) (Node Cons a c)

-- of the first children, those of these heads alone hold processes
abbrev pub in_first : Head → Bool → Bool → Bool
in_first Par process branches = process
in_first Cons process branches = process
in_first (Find l) process branches = branches
in_first h process branches = false

-- whether a service may come to the node at a place
unfoldable pub may_come : Part → Tree → ℕ → Bool
may_come Process Empty p = false
may_come Process (Node h a b) p =
    if nat_lt p (weight h) then true else
    if nat_lt p (weight h + size a) then in_first h (may_come Process a (p - weight h)) (may_come Branches a (p - weight h)) else may_come Process b (p - (weight h + size a))
may_come Branches (Node Cons (Node Branch binders (Node Cons defined (Node Cons condition b))) more) p =
    if nat_lt p (before_body binders defined condition) then false else
    if nat_lt p (before_body binders defined condition + size b) then may_come Process b (p - before_body binders defined condition) else
    may_come Branches more (p - (before_body binders defined condition + size b))
may_come Branches b p = false

-- two inputs with one tree, or that differ in that subtree alone
pub record AreLikeInputs (old new : Tree) (place : ℕ) (i j : Input) : Type 0 where
  pub channel : i.channel ≡ j.channel
  pub indices : i.indices ≡ j.indices
  pub binders : first i.tree ≡ first j.tree
  pub tree : (i.tree ≡ j.tree) ⊎ ((i.place ≡ j.place) × IsReplaced old new place Process i.place i.tree j.tree)

-- the memories are one
abbrev pub SameMemory : Memory → Memory → Type 0
SameMemory x y = x ≡ y

-- at the place, the two subtrees open alike inputs, and serve alike where the visits are as expected
pub record ServeAlike (Expected : Visit → Type 0) (g : Setting) (t : Tape) (old new : Tree) (place : ℕ) : Type 0 where
  pub opened : (at : Indices) → InOrder (AreLikeInputs old new place) (inputs_of g old place at) (inputs_of g new place at)
  pub served :
      (k : ℕ) (vs : List ℕ) (s : Local) → AllByRecursion Expected (visits g t old place k vs s)
      → AreServedAlike SameMemory (AreLikeInputs old new place) (serve g t old place k vs s) (serve g t new place k vs s)

-- a game that is changed so at a place, where the visits of its run are as expected
pub record IsLocalChange (Expected : Visit → Type 0) (a : Adversary) (g : Setting) (m : Mode) (old new : Tree) (place : ℕ) (game next : Tree) (t : Tape) : Type 0 where
  pub replaced : IsReplaced old new place Process 0 game next
  pub alike : ServeAlike Expected g t old new place
  pub visited : AllByRecursion Expected (visits_of_run g m a game t)

-- an `if` with its condition and its two bodies
abbrev pub if_tree : Tree → Tree → Tree → Tree
if_tree condition then_body else_body = Node If condition (Node Cons then_body (Node Cons else_body Empty))

-- a visit of this `if` at the place finds that its condition holds, or that it does not
abbrev pub IsDecided : Setting → ℕ → (condition then_body else_body : Tree) → Bool → Visit → Type 0
IsDecided g place condition then_body else_body holds v =
    v.place ≡ place → v.tree ≡ if_tree condition then_body else_body → is_one (value_here g v.before condition) ≡ holds
