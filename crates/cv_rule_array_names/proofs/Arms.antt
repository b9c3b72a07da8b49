-- Branches, their copies, and which stand in two lists of branches.
use Rattle.std.proofs.Common.{◌≡◌, ℕ, suc, ◌&&◌, nat_lt, max, List, [], ◌∷◌, refl, ap}
use Rattle.cv_syntax_trees.specs.declared.head.Head.TheVariants.{Binder, Branch, Cons}
use Rattle.cv_syntax_trees.specs.Tree.{Tree, Empty, Node, first_place, second_place}
use Rattle.cv_meaning.specs.Binders.{binder_count, fits, widest_binder}
use Rattle.cv_steps.specs.Renaming.{renamed}
use Rattle.cv_edit_names.specs.Cells.{with_names}
use Rattle.cv_edit_names.specs.Naming.{Naming}
use Rattle.cv_edit_names.specs.Splitting.{Around, body_place, names_known, split_in, with_name}

-- a branch by its parts
pub record Arm : Type 0 where
  pub indices : Tree
  pub cells : Tree
  pub condition : Tree
  pub body : Tree

abbrev pub arm_tree : Arm → Tree
arm_tree a = Node Branch a.indices (Node Cons a.cells (Node Cons a.condition a.body))

-- a copy of it, where it stands at a place
abbrev pub copy_of : Naming → (place : ℕ) → Arm → Around → Tree
copy_of n p a e =
    Node Branch (with_name n p a.indices)
    (Node Cons (with_names (names_known e) a.cells) (Node Cons (with_names (names_known e) a.condition) (split_in n e (body_place p a.indices a.cells a.condition) a.body)))

-- the k-th branch of a list that stands at a place, with its own place
pub data IsNth : (k place : ℕ) → (branches : Tree) → (at : ℕ) → (branch : Tree) → Type 0 where
  this : {p : ℕ} {a more : Tree} → IsNth 0 p (Node Cons a more) (first_place p Cons) a
  later : {k p q : ℕ} {a b more : Tree} → IsNth k (second_place p Cons a) more q b → IsNth (suc k) p (Node Cons a more) q b

-- the k-th of a list
pub data IsAt : (k : ℕ) → (branches branch : Tree) → Type 0 where
  here : {a more : Tree} → IsAt 0 (Node Cons a more) a
  there : {k : ℕ} {a b more : Tree} → IsAt k more b → IsAt (suc k) (Node Cons a more) b

-- binders under another name

pub fits_renamed : (x y : ℕ) (size : ℕ → ℕ) (us : Tree) (vs : List ℕ) → fits size us vs ≡ fits size (renamed x y us) vs
unfolding renamed
fits_renamed x y size Empty vs = refl
fits_renamed x y size (Node (Binder z T) a b) [] = refl
fits_renamed x y size (Node (Binder z T) a b) (v ∷ vs) = ap (λ c. nat_lt v (size T) && c) (fits_renamed x y size b vs)
fits_renamed x y size (Node h a b) vs = refl

pub count_renamed : (x y : ℕ) (us : Tree) → binder_count (renamed x y us) ≡ binder_count us
unfolding renamed
count_renamed x y Empty = refl
count_renamed x y (Node h a b) = ap (λ n. suc n) (count_renamed x y b)

pub widest_renamed : (x y : ℕ) (size : ℕ → ℕ) (us : Tree) → widest_binder size (renamed x y us) ≡ widest_binder size us
unfolding renamed
widest_renamed x y size Empty = refl
widest_renamed x y size (Node (Binder z T) a b) = ap (max (size T)) (widest_renamed x y size b)
widest_renamed x y size (Node h a b) = refl
