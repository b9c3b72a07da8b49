-- What is found of the facts at a place: conjuncts with where they stand, or that there is none. This profile's own.
use Rattle.std.specs.Prelude.{◌≡◌, ◌≢◌, ◌≤◌, ◌<◌, ℕ, suc, Bool, false, true, All, List, ◌++◌, length, slice_get, Option, Some, option_and_then}
use Rattle.cv_pool.specs.KindTree.{KindTree}
use Rattle.cv_pool.specs.Nodes.{ChildBelow}
use Rattle.cv_pool.specs.declared.node.NodeId.{NodeId}
use Rattle.cv_syntax.specs.PoolTrees.{tree_at}
use Rattle.cv_syntax_trees.specs.declared.head.Head.TheVariants.{Eq}
use Rattle.cv_syntax_trees.specs.Tree.{Tree, Node}
use Rattle.cv_scene.specs.Sights.{from_one}
use Rattle.cv_settling_rules.specs.Conjuncts.{conjuncts, is_among}
use Rattle.cv_settling_overview.specs.declared.facts.Citation.{Citation}
use Rattle.cv_settling_overview.specs.declared.facts.Equated.{Equated}
use Rattle.cv_settling_overview.specs.declared.facts.Fact.{Fact}
use Rattle.cv_settling_overview.specs.declared.facts.Fact.TheVariants as fact
use Rattle.cv_settling_overview.specs.declared.facts.Facts.{Facts}
use Rattle.cv_settling_overview.specs.declared.facts.Part.{Part}
use Rattle.cv_settling_overview.specs.declared.facts.Side.{Side}
use Rattle.cv_settling_overview.specs.declared.keys.Conjunct.{Conjunct}
use Rattle.cv_settling_overview.specs.declared.keys.Key.{Key}
use Rattle.cv_settling_overview.specs.declared.keys.Key.TheVariants.{Value}
use Rattle.cv_settling_overview.specs.Facts.{AreSingle, AreTerms, Cites, HasIndices, KeepsSome, Knows, equation_of, full_parts, is_value, key_tree, numbered, side_at, side_of, tree_under, value_of, values_in}

-- over these trees, where the tables know facts: the conjunct is cited, or there is none such

pub record IsFound (trees : List KindTree) (facts : List Tree) (c : Citation) (t : Tree) : Type 0 where
  pub cites : Cites trees facts c t
  pub among : is_among (conjuncts facts) t ≡ true

abbrev pub LeadsToIn : List KindTree → Facts → Tree → Citation → Type 0
LeadsToIn trees f t c = (facts : List Tree) (rs : List (ℕ × ℕ)) → Knows trees facts rs f → IsFound trees facts c t

abbrev pub LeadsToNode : List KindTree → Facts → NodeId → Citation → Type 0
LeadsToNode trees f n c = n.0 < length trees → LeadsToIn trees f (tree_at trees (Some n)) c

abbrev pub HasNoneIn : List KindTree → Facts → NodeId → Tree → Type 0
HasNoneIn trees f n t = AreSingle trees → n.0 < length trees → (facts : List Tree) (rs : List (ℕ × ℕ)) → Knows trees facts rs f → is_among (conjuncts facts) t ≡ false

-- over any trees

abbrev pub LeadsTo : Facts → (List KindTree → Tree) → Citation → Type 0
LeadsTo f t c = (trees : List KindTree) → LeadsToIn trees f (t trees) c

abbrev pub HasNone : Facts → NodeId → (List KindTree → Tree) → Type 0
HasNone f n t = (trees : List KindTree) → HasNoneIn trees f n (t trees)

abbrev pub HasNoneOf : Facts → Tree → Type 0
HasNoneOf f t = (trees : List KindTree) (facts : List Tree) (rs : List (ℕ × ℕ)) → Knows trees facts rs f → is_among (conjuncts facts) t ≡ false

-- equations with a name; where no `let` says one, there is none

pub record Equates (trees : List KindTree) (facts : List Tree) (e : Equated) (t : Tree) : Type 0 where
  pub equation : tree_at trees (Some e.equation) ≡ t
  pub found : IsFound trees facts e.citation t

abbrev pub EquatesIn : List KindTree → Facts → NodeId → ℕ → Equated → Type 0
EquatesIn trees f n x e = n.0 < length trees → (facts : List Tree) (rs : List (ℕ × ℕ)) → Knows trees facts rs f → Equates trees facts e (equation_of e.is_turned (tree_at trees (Some n)) x)

abbrev pub IsNoValue : List KindTree → List (ℕ × ℕ) → Facts → Tree → Type 0
IsNoValue trees rs f t = is_among (values_in trees rs f.facts.items) t ≡ false

abbrev pub HasNoEquation : List KindTree → Facts → NodeId → ℕ → Type 0
HasNoEquation trees f n x =
    AreSingle trees → n.0 < length trees → (facts : List Tree) (rs : List (ℕ × ℕ)) → Knows trees facts rs f
    → (is_turned : Bool) → IsNoValue trees rs f (equation_of is_turned (tree_at trees (Some n)) x) → is_among (conjuncts facts) (equation_of is_turned (tree_at trees (Some n)) x) ≡ false

-- sides: the one of a number; the way from a number up to the tree that sides lead to

pub record IsPartAt (ps : List Part) (number : ℕ) (p : Part) : Type 0 where
  pub place : ℕ
  pub is : number ≡ suc place
  pub there : slice_get ps place ≡ Some p
  pub above : p.above ≤ place

pub record IsWay (trees : List KindTree) (facts : List Tree) (ps : List Part) (place at : ℕ) (ss : List Side) (t : Tree) : Type 0 where
  pub root : Tree
  pub there : tree_under trees facts ps place at ≡ Some root
  pub sides : side_at root ss ≡ Some t
  pub terms : AreTerms trees root ss

-- the sides lead from the number, or all the way from the fact

abbrev pub LeadsUp : Facts → (number at : ℕ) → List Side → Type 0
LeadsUp f number at ss =
    (trees : List KindTree) (facts : List Tree) (rs : List (ℕ × ℕ)) (known : List Tree) (place : ℕ) (t : Tree) → KeepsSome trees facts rs known f → tree_under trees facts f.parts.items place number ≡ Some t
    → IsWay trees facts f.parts.items place at ss t

abbrev pub LeadsFrom : Facts → (number : ℕ) → List Side → Type 0
LeadsFrom f number ss = LeadsUp f number 0 ss

-- the conjunct at a place, and those with a key

abbrev pub CitesAt : Facts → ℕ → Citation → Type 0
CitesAt f k c =
    (trees : List KindTree) (facts : List Tree) (rs : List (ℕ × ℕ)) (known : List Tree) (there : Conjunct) → KeepsSome trees facts rs known f → slice_get f.conjuncts k ≡ Some there
    → Cites trees facts c (key_tree trees rs there.key)

pub record IsEquated (trees : List KindTree) (facts : List Tree) (is_turned : Bool) (e : Equated) (t : Tree) : Type 0 where
  pub turned : e.is_turned ≡ is_turned
  pub equation : tree_at trees (Some e.equation) ≡ t
  pub cites : Cites trees facts e.citation t

abbrev pub EquatesAt : Facts → ℕ → Bool → Equated → Type 0
EquatesAt f k r e =
    (trees : List KindTree) (facts : List Tree) (rs : List (ℕ × ℕ)) (known : List Tree) (there : Conjunct) (a b : Tree) → KeepsSome trees facts rs known f → slice_get f.conjuncts k ≡ Some there
    → key_tree trees rs there.key ≡ Node Eq a b → IsEquated trees facts r e (Node Eq a b)

abbrev pub IsValueAt : Facts → ℕ → Type 0
IsValueAt f k =
    (trees : List KindTree) (facts : List Tree) (rs : List (ℕ × ℕ)) (known : List Tree) (there : Conjunct) → KeepsSome trees facts rs known f → slice_get f.conjuncts k ≡ Some there
    → is_value there.key ≡ true

abbrev pub LeadsToKey : Facts → Key → Citation → Type 0
LeadsToKey f k c = (trees : List KindTree) (facts : List Tree) (rs : List (ℕ × ℕ)) → Knows trees facts rs f → IsFound trees facts c (key_tree trees rs k)

abbrev pub IsNoConjunct : Facts → Key → Type 0
IsNoConjunct f k =
    is_value k ≡ false → (trees : List KindTree) (facts : List Tree) (rs : List (ℕ × ℕ)) (known : List Tree) → KeepsSome trees facts rs known f → All (λ (c : Conjunct). c.key ≢ k) f.conjuncts

-- an equation that is cited has this node
abbrev pub IsEquationCited : Citation → NodeId → Type 0
IsEquationCited c n = (trees : List KindTree) (facts : List Tree) (a b : Tree) → Cites trees facts c (Node Eq a b) → tree_at trees (Some n) ≡ Node Eq a b

-- the key of a `let` that says this, and that no other key does

abbrev pub GivesValue : List KindTree → Facts → Tree → Key → Type 0
GivesValue trees f t k = (is_value k ≡ true) × ((rs : List (ℕ × ℕ)) → HasIndices rs f → key_tree trees rs k ≡ t)

abbrev pub IsOnlyKey : List KindTree → Facts → Tree → Option Key → Type 0
IsOnlyKey trees f t o =
    AreSingle trees → (rs : List (ℕ × ℕ)) → HasIndices rs f → (x count m : ℕ) → count ≤ length rs → m < length trees → value_of rs x count (numbered trees (Some m)) ≡ t
    → o ≡ Some (Value x count m)

-- a tree of a fact has been taken apart, or a side of a conjunction: its parts come behind the conjuncts

abbrev pub IsCondition : List Fact → (number : ℕ) → Type 0
IsCondition fs f = (n : NodeId) × (from_one fs f ≡ Some (fact.Condition n))

abbrev pub Takes : List KindTree → NodeId → (number above : ℕ) → (old new : Facts) → Type 0
Takes trees n f above old new =
    (facts : List Tree) (rs : List (ℕ × ℕ)) (known : List Tree) → n.0 < length trees → IsCondition old.facts.items f → tree_under trees facts old.parts.items f above ≡ Some (tree_at trees (Some n))
    → KeepsSome trees facts rs known old → KeepsSome trees facts rs (known ++ full_parts (tree_at trees (Some n))) new

abbrev pub TakesSide : List KindTree → Option NodeId → (is_right : Bool) → (number above : ℕ) → (old new : Facts) → Type 0
TakesSide trees n r f above old new =
    (facts : List Tree) (rs : List (ℕ × ℕ)) (known : List Tree) → ChildBelow (length trees) n → IsCondition old.facts.items f
    → option_and_then (side_of r) (tree_under trees facts old.parts.items f above) ≡ Some (tree_at trees n) → KeepsSome trees facts rs known old → KeepsSome trees facts rs (known ++ full_parts (tree_at trees n)) new
