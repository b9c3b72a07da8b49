-- What tables have of the facts at a place, from the root down: the facts, the sides of their conjunctions, the conjuncts with keys, and the
-- names of the current indices. This profile's own.
use Rattle.std.specs.Prelude.{◌≡◌, ◌≢◌, ◌≤◌, ◌<◌, ℕ, zero, suc, Bool, true, false, ◌==◌, if◌then◌else◌, All, List, [], ◌∷◌, ◌++◌, flat_map, length, map, slice_get, take, Option, Some, None, option_and_then, option_map}
use Rattle.cv_pool.specs.KindTree.{KindTree}
use Rattle.cv_pool.specs.Nodes.{at}
use Rattle.cv_pool.specs.declared.node.NodeId.{NodeId}
use Rattle.cv_syntax.specs.PoolTrees.{tree_at, tree_of}
use Rattle.cv_syntax_trees.specs.declared.head.Head.TheVariants.{And, Cons, Eq, Leaf, No, Not, Read}
use Rattle.cv_syntax_trees.specs.Tree.{Tree, Empty, Node, lone, same_tree}
use Rattle.cv_scope_rules.specs.Context.{cell_of}
use Rattle.cv_scene.specs.Sights.{from_one}
use Rattle.cv_scene.specs.lines.Truths.{no}
use Rattle.cv_settling_overview.specs.declared.facts.Citation.{Citation}
use Rattle.cv_settling_overview.specs.declared.facts.Fact.{Fact}
use Rattle.cv_settling_overview.specs.declared.facts.Fact.TheVariants as fact
use Rattle.cv_settling_overview.specs.declared.facts.Facts.{Facts}
use Rattle.cv_settling_overview.specs.declared.facts.Mark.{Mark}
use Rattle.cv_settling_overview.specs.declared.facts.Part.{Part}
use Rattle.cv_settling_overview.specs.declared.facts.Side.{Side}
use Rattle.cv_settling_overview.specs.declared.keys.Conjunct.{Conjunct}
use Rattle.cv_settling_overview.specs.declared.keys.Key.{Key}
use Rattle.cv_settling_overview.specs.declared.keys.Key.TheVariants.{Falsity, Denial, Equation, Value}
use Rattle.cv_settling_overview.specs.declared.keys.Key.TheVariants as key
use Rattle.cv_settling_overview.specs.declared.keys.Operand.{Operand}
use Rattle.cv_settling_overview.specs.declared.keys.Operand.TheVariants as operand

-- nodes: each live one has a tree, and each tree one node

pub record AreSingle (trees : List KindTree) : Type 0 where
  pub full : (n : ℕ) → n < length trees → tree_of (at trees n) ≢ Empty
  pub single : (m n : ℕ) → m < length trees → n < length trees → tree_of (at trees m) ≡ tree_of (at trees n) → m ≡ n

-- the tree of a number
abbrev pub numbered : List KindTree → Option ℕ → Tree
numbered trees None = Empty
numbered trees (Some n) = tree_of (at trees n)

abbrev pub IsLive : ℕ → Option ℕ → Type 0
IsLive count None = Unit {0}
IsLive count (Some n) = n < count

-- terms that are the outermost of these names, and how many; a read of a variable at them

unfoldable pub front_of : Tree → List ℕ → Option ℕ
front_of Empty xs = Some 0
front_of (Node Cons a b) (x ∷ xs) = if same_tree a (lone (Leaf x)) then option_map suc (front_of b xs) else None
front_of t xs = None

abbrev pub read_at : ℕ → Option ℕ → Option (ℕ × ℕ)
read_at x (Some (suc k)) = Some (x, suc k)
read_at x o = None

abbrev pub cell_at : Tree → List ℕ → Option (ℕ × ℕ)
cell_at (Node (Leaf x) Empty Empty) xs = Some (x, 0)
cell_at (Node (Read x) l Empty) xs = read_at x (front_of l xs)
cell_at t xs = None

-- facts

-- what a `let` says of its variable, below these replications; and below the outermost so many of them
abbrev pub definition_of : List (ℕ × ℕ) → ℕ → Tree → Tree
definition_of rs x m = Node Eq (cell_of rs x) m

abbrev pub value_of : List (ℕ × ℕ) → (x count : ℕ) → Tree → Tree
value_of rs x count m = definition_of (take count rs) x m

abbrev pub denial_of : Tree → Tree
denial_of m = Node Not m Empty

abbrev pub fact_tree : List KindTree → List (ℕ × ℕ) → Fact → Tree
fact_tree trees rs (fact.Condition n) = tree_at trees (Some n)
fact_tree trees rs (fact.Failure n) = denial_of (tree_at trees (Some n))
fact_tree trees rs (fact.Value x count n) = value_of rs x count (tree_at trees (Some n))

-- a condition that a fact says, and whether it doesn't hold
abbrev pub condition_of : Option Fact → Option (NodeId × Bool)
condition_of (Some (fact.Condition n)) = Some (n, false)
condition_of (Some (fact.Failure n)) = Some (n, true)
condition_of o = None

-- those that `let`s give
abbrev pub values_in : List KindTree → List (ℕ × ℕ) → List Fact → List Tree
values_in trees rs [] = []
values_in trees rs (fact.Value x count n ∷ fs) = value_of rs x count (tree_at trees (Some n)) ∷ values_in trees rs fs
values_in trees rs (f ∷ fs) = values_in trees rs fs

abbrev pub IsWithin : ℕ → Fact → Type 0
IsWithin n (fact.Value x count m) = count ≤ n
IsWithin n f = Unit {0}

-- conjuncts; a side that is no tree is none
unfoldable pub full_parts : Tree → List Tree
full_parts Empty = []
full_parts (Node And m n) = full_parts m ++ full_parts n
full_parts (Node h m n) = Node h m n ∷ []

-- what a conjunct is, by its key

abbrev pub operand_tree : List KindTree → Operand → Tree
operand_tree trees (operand.Name x) = lone (Leaf x)
operand_tree trees (operand.Other o) = numbered trees o

abbrev pub key_tree : List KindTree → List (ℕ × ℕ) → Key → Tree
key_tree trees rs Falsity = no
key_tree trees rs (Denial o) = denial_of (numbered trees o)
key_tree trees rs (Equation a b) = Node Eq (operand_tree trees a) (operand_tree trees b)
key_tree trees rs (Value x count n) = value_of rs x count (numbered trees (Some n))
key_tree trees rs (key.Other o) = numbered trees o

abbrev pub number : Option NodeId → Option ℕ
number None = None
number (Some n) = Some n.0

-- no other key is that of the tree

abbrev pub is_plain : Tree → Bool
is_plain (Node No Empty Empty) = false
is_plain (Node Not m Empty) = false
is_plain (Node Eq m n) = false
is_plain t = true

abbrev pub IsOperand : List KindTree → Operand → Type 0
IsOperand trees (operand.Name x) = Unit {0}
IsOperand trees (operand.Other o) = IsLive (length trees) o × ((x : ℕ) → numbered trees o ≢ lone (Leaf x))

abbrev pub IsKey : List KindTree → (indices : ℕ) → Key → Type 0
IsKey trees n Falsity = Unit {0}
IsKey trees n (Denial o) = IsLive (length trees) o
IsKey trees n (Equation a b) = IsOperand trees a × IsOperand trees b
IsKey trees n (Value x count m) = (count ≤ n) × (m < length trees)
IsKey trees n (key.Other o) = IsLive (length trees) o × (is_plain (numbered trees o) ≡ true)

-- the key is that of a `let`
abbrev pub is_value : Key → Bool
is_value (Value x count n) = true
is_value k = false

-- an operand, and a key, of a tree

pub record IsOperandOf (trees : List KindTree) (t : Tree) (a : Operand) : Type 0 where
  pub tree : operand_tree trees a ≡ t
  pub operand : IsOperand trees a

pub record IsKeyOf (trees : List KindTree) (t : Tree) (k : Key) : Type 0 where
  pub tree : (rs : List (ℕ × ℕ)) → key_tree trees rs k ≡ t
  pub key : (n : ℕ) → IsKey trees n k
  pub plain : is_value k ≡ false

-- sides of conjunctions

abbrev pub side_of : (is_right : Bool) → Tree → Option Tree
side_of false (Node And m n) = Some m
side_of true (Node And m n) = Some n
side_of r t = None

-- where sides lead to, the innermost first
unfoldable pub side_at : Tree → List Side → Option Tree
side_at t [] = Some t
side_at t (s ∷ ss) = option_and_then (side_of s.is_right) (side_at t ss)

-- each of them has the term that it leads to
unfoldable pub AreTerms : List KindTree → Tree → List Side → Type 0
AreTerms trees t [] = Unit {0}
AreTerms trees t (s ∷ ss) = (side_at t (s ∷ ss) ≡ Some (tree_at trees (Some s.term))) × AreTerms trees t ss

-- the tree of a side by its number, counted from 1, or of the fact itself, for 0

abbrev pub term_of : List KindTree → (fact : ℕ) → Part → Option Tree
term_of trees f p = if p.fact == f then Some (tree_at trees (Some p.side.term)) else None

abbrev pub tree_under : List KindTree → (facts : List Tree) → List Part → (fact side : ℕ) → Option Tree
tree_under trees facts ps f zero = from_one facts f
tree_under trees facts ps f (suc k) = option_and_then (term_of trees f) (slice_get ps k)

-- it is the side that it says of the tree above
pub record IsSide (trees : List KindTree) (facts : List Tree) (ps : List Part) (k : ℕ) (p : Part) : Type 0 where
  pub above : p.above ≤ k
  pub side : option_and_then (side_of p.side.is_right) (tree_under trees facts ps p.fact p.above) ≡ Some (tree_at trees (Some p.side.term))

-- the conjunct of a `let` has its key, and others have none such
abbrev pub IsConjunctOf : Fact → Conjunct → Type 0
IsConjunctOf (fact.Value x count n) c = (c.key ≡ Value x count n.0) × (c.side ≡ 0)
IsConjunctOf f c = is_value c.key ≡ false

-- it stands where it says
pub record IsPlace (trees : List KindTree) (facts : List Tree) (rs : List (ℕ × ℕ)) (fs : List Fact) (ps : List Part) (c : Conjunct) : Type 0 where
  pub fact : Fact
  pub there : from_one fs c.fact ≡ Some fact
  pub kind : IsConjunctOf fact c
  pub tree : tree_under trees facts ps c.fact c.side ≡ Some (key_tree trees rs c.key)

-- what tables have, where these are the facts below these replications, and their conjuncts
pub record Keeps (trees : List KindTree) (facts : List Tree) (rs : List (ℕ × ℕ)) (known : List Tree) (xs : List ℕ) (fs : List Fact) (ps : List Part) (cs : List Conjunct) : Type 0 where
  pub names : xs ≡ map (λ (r : ℕ × ℕ). r.0) rs
  pub says : map (fact_tree trees rs) fs ≡ facts
  pub within : All (IsWithin (length rs)) fs
  pub conjuncts : map (λ (c : Conjunct). key_tree trees rs c.key) cs ≡ known
  pub keys : All (λ (c : Conjunct). IsKey trees (length rs) c.key) cs
  pub sides : (k : ℕ) (p : Part) → slice_get ps k ≡ Some p → IsSide trees facts ps k p
  pub places : (k : ℕ) (c : Conjunct) → slice_get cs k ≡ Some c → IsPlace trees facts rs fs ps c

abbrev pub KeepsSome : List KindTree → (facts : List Tree) → List (ℕ × ℕ) → (known : List Tree) → Facts → Type 0
KeepsSome trees facts rs known f = Keeps trees facts rs known f.indices.items f.facts.items f.parts.items f.conjuncts

-- these are the facts
abbrev pub Knows : List KindTree → (facts : List Tree) → List (ℕ × ℕ) → Facts → Type 0
Knows trees facts rs f = KeepsSome trees facts rs (flat_map full_parts facts) f

abbrev pub HasIndices : List (ℕ × ℕ) → Facts → Type 0
HasIndices rs f = f.indices.items ≡ map (λ (r : ℕ × ℕ). r.0) rs

-- what is cited

abbrev pub cited_tree : List KindTree → Citation → Tree
cited_tree trees c = if c.is_denied then denial_of (tree_at trees (Some c.term)) else tree_at trees (Some c.term)

-- the number is that of the fact with the term, and the sides lead from it to a conjunct
pub record Cites (trees : List KindTree) (facts : List Tree) (c : Citation) (t : Tree) : Type 0 where
  pub fact : from_one facts c.fact ≡ Some (cited_tree trees c)
  pub sides : side_at (cited_tree trees c) c.sides.items ≡ Some t
  pub terms : AreTerms trees (cited_tree trees c) c.sides.items

-- of a term with a name, which may stand on the left
abbrev pub equation_of : (is_turned : Bool) → (term : Tree) → (name : ℕ) → Tree
equation_of false m x = Node Eq m (lone (Leaf x))
equation_of true m x = Node Eq (lone (Leaf x)) m

-- marks

abbrev pub mark_of : Facts → Mark
mark_of f = record { facts = length f.facts.items; parts = length f.parts.items; conjuncts = length f.conjuncts; indices = length f.indices.items }

-- they have the same
pub record AreSame (f g : Facts) : Type 0 where
  pub facts : f.facts.items ≡ g.facts.items
  pub parts : f.parts.items ≡ g.parts.items
  pub conjuncts : f.conjuncts ≡ g.conjuncts
  pub indices : f.indices.items ≡ g.indices.items

-- more came behind

pub record IsFront {A : Type 0} (xs ys : List A) : Type 0 where
  pub rest : List A
  pub is : ys ≡ xs ++ rest

pub record Extends (old new : Facts) : Type 0 where
  pub facts : IsFront old.facts.items new.facts.items
  pub parts : IsFront old.parts.items new.parts.items
  pub conjuncts : IsFront old.conjuncts new.conjuncts
  pub indices : IsFront old.indices.items new.indices.items
