-- Terms of a pool as they are read: names, operands, keys, index terms and cells.
use Rattle.std.proofs.Common.{◌≡◌, ℕ, ◌+◌, zero, suc, ◌<◌, ◌≤◌, Bool, true, false, List, [], ◌∷◌, length, map, take, drop, refl, ap, ap₂, sym, ◌∙◌, arith, subst, Option, Some, None, eqb-true}
use Rattle.std.specs.Prelude.{◌≢◌, ◌==◌, ◌&&◌, if◌then◌else◌, IsNone, ◌↔◌, option_map, slice_get}
use Rattle.std.proofs.lemmas.Bool.{both_ways, eq-eqb, ne_eqb}
use Rattle.cv_pool.specs.KindTree.{KindTree}
use Rattle.cv_pool.specs.Nodes.{ChildBelow}
use Rattle.cv_pool.specs.declared.node.NodeId.{NodeId}
use Rattle.cv_syntax.specs.PoolTrees.{tree_at, tree_of}
use Rattle.cv_syntax_trees.specs.declared.head.Head.{Head}
use Rattle.cv_syntax_trees.specs.declared.head.Head.TheVariants.{Cons, Eq, Leaf, No, Not, Read}
use Rattle.cv_syntax_trees.specs.Tree.{Tree, Empty, Node, lone, same_tree}
use Rattle.cv_syntax_trees.proofs.Equality.{same_tree_exact, same_tree_self}
use Rattle.cv_scope_rules.specs.Context.{cell_of, index_terms}
use Rattle.cv_scene.specs.lines.Truths.{no}
use Rattle.cv_settling_overview.specs.declared.keys.Key.{Key}
use Rattle.cv_settling_overview.specs.declared.keys.Key.TheVariants.{Falsity, Denial, Equation, Value}
use Rattle.cv_settling_overview.specs.declared.keys.Key.TheVariants as key
use Rattle.cv_settling_overview.specs.declared.keys.Operand.{Operand}
use Rattle.cv_settling_overview.specs.declared.keys.Operand.TheVariants as operand
use Rattle.cv_settling_overview.specs.Facts.{AreSingle, IsKey, IsKeyOf, IsLive, IsOperand, IsOperandOf, cell_at, denial_of, front_of, value_of, is_plain, is_value, key_tree, number, numbered, operand_tree, read_at}

-- how many nodes there may be below a child, so that reading comes to an end
abbrev pub numbers_below : Option NodeId → ℕ
numbers_below None = 0
numbers_below (Some n) = n.0 + 1

pub no_child : (trees : List KindTree) → tree_at trees None ≡ Empty
unfolding tree_of
no_child trees = refl

-- no child stands where there is none, and what stands elsewhere is a tree
pub gone : (trees : List KindTree) (o : Option NodeId) → (IsNone o ↔ (tree_at trees o ≡ Empty)) → IsNone o → tree_at trees o ≡ Empty
gone trees o i n = i.0 n

pub no_leaf : (x : ℕ) → Empty ≢ lone (Leaf x)
no_leaf x e = cc

pub other_head : (h : Head) (a b : Tree) → ((x : ℕ) → h ≡ Leaf x → ⊥) → (x : ℕ) → Node h a b ≢ lone (Leaf x)
other_head h a b f x e = f x (cc)

pub full_leaf : (h : Head) (a b : Tree) → (a ≡ Empty → b ≡ Empty → ⊥) → (x : ℕ) → Node h a b ≢ lone (Leaf x)
full_leaf h a b f x e = f (cc) (cc)

-- whether a term is a name

leaf_test : (x y : ℕ) → same_tree (lone (Leaf x)) (lone (Leaf y)) ≡ (x == y)
unfolding same_tree
leaf_test x y = go (x == y)
  where
    go : (b : Bool) → ((true && (b && true)) && (true && true)) ≡ b
    go true = refl
    go false = refl

pub name_tested : (t : Tree) (x y : ℕ) → t ≡ lone (Leaf x) → (x == y) ≡ same_tree t (lone (Leaf y))
name_tested t x y e = sym (ap (λ u. same_tree u (lone (Leaf y))) e ∙ leaf_test x y)

pub no_name_tested : (t : Tree) (y : ℕ) → ((x : ℕ) → t ≢ lone (Leaf x)) → false ≡ same_tree t (lone (Leaf y))
no_name_tested t y f = go (same_tree t (lone (Leaf y))) refl
  where
    go : (b : Bool) → same_tree t (lone (Leaf y)) ≡ b → false ≡ b
    go false e = refl
    go true e = absurd (f y (same_tree_exact t (lone (Leaf y)) e))

-- numbers

pub numbered_is : (trees : List KindTree) (o : Option NodeId) → numbered trees (number o) ≡ tree_at trees o
unfolding tree_of
numbered_is trees None = refl
numbered_is trees (Some n) = refl

pub live_number : (count : ℕ) (o : Option NodeId) → ChildBelow count o → IsLive count (number o)
live_number count None b = tt
live_number count (Some n) b = b

pub below_more : (n count : ℕ) (o : Option NodeId) → n < count → ChildBelow n o → ChildBelow count o
below_more n count None l b = tt
below_more n count (Some k) l b = omega (arith, l, b)

-- heads that differ

pub not_eq : (Not ≡ Eq) → ⊥
not_eq e = cc

no_not : (No ≡ Not) → ⊥
no_not e = cc

pub no_eq : (No ≡ Eq) → ⊥
no_eq e = cc

-- operands and keys

module _ (trees : List KindTree) where
  pub name_operand : (t : Tree) (x : ℕ) → t ≡ lone (Leaf x) → IsOperandOf trees t (operand.Name x)
  name_operand t x e = record { tree = sym e; operand = tt }

  pub other_operand : (o : Option NodeId) → ChildBelow (length trees) o → ((x : ℕ) → tree_at trees o ≢ lone (Leaf x)) → IsOperandOf trees (tree_at trees o) (operand.Other (number o))
  other_operand o b f = record { tree = numbered_is trees o; operand = (live_number (length trees) o b, λ x e. f x (sym (numbered_is trees o) ∙ e)) }

  pub equation_key : (t a b : Tree) (l r : Operand) → t ≡ Node Eq a b → IsOperandOf trees a l → IsOperandOf trees b r → IsKeyOf trees t (Equation l r)
  equation_key t a b l r e i j = record { tree = λ rs. ap₂ (Node Eq) i.tree j.tree ∙ sym e; key = λ n. (i.operand, j.operand); plain = refl }

  pub denial_key : (t b : Tree) (o : Option NodeId) → ChildBelow (length trees) o → t ≡ Node Not (tree_at trees o) b → b ≡ Empty → IsKeyOf trees t (Denial (number o))
  denial_key t b o l e f = record { tree = λ rs. ap₂ (Node Not) (numbered_is trees o) (sym f) ∙ sym e; key = λ n. live_number (length trees) o l; plain = refl }

  pub falsity_key : (t a b : Tree) → t ≡ Node No a b → a ≡ Empty → b ≡ Empty → IsKeyOf trees t Falsity
  falsity_key t a b e f g = record { tree = λ rs. ap₂ (Node No) (sym f) (sym g) ∙ sym e; key = λ n. tt; plain = refl }

  pub other_key : (n : NodeId) → n.0 < length trees → is_plain (tree_at trees (Some n)) ≡ true → IsKeyOf trees (tree_at trees (Some n)) (key.Other (Some n.0))
  other_key n l p = record { tree = λ rs. refl; key = λ k. (l, p); plain = refl }

  -- of equal trees, there is one key

  number_one : AreSingle trees → (o p : Option ℕ) → IsLive (length trees) o → IsLive (length trees) p → numbered trees o ≡ numbered trees p → o ≡ p
  number_one s None None l m e = refl
  number_one s (Some n) (Some k) l m e = ap (λ j. Some j) (s.single n k l m e)
  number_one s None (Some k) l m e = absurd (s.full k m (sym e))
  number_one s (Some n) None l m e = absurd (s.full n l e)

  leaf_one : (x y : ℕ) → lone (Leaf x) ≡ lone (Leaf y) → x ≡ y
  leaf_one x y e = cc

  operand_one : AreSingle trees → (a b : Operand) → IsOperand trees a → IsOperand trees b → operand_tree trees a ≡ operand_tree trees b → a ≡ b
  operand_one s (operand.Name x) (operand.Name y) i j e = ap operand.Name (leaf_one x y e)
  operand_one s (operand.Name x) (operand.Other o) i j e = absurd (j.1 x (sym e))
  operand_one s (operand.Other o) (operand.Name y) i j e = absurd (i.1 y e)
  operand_one s (operand.Other o) (operand.Other p) i j e = ap operand.Other (number_one s o p i.0 j.0 e)

  firsts : (h k : Head) (a b c d : Tree) → Node h a b ≡ Node k c d → a ≡ c
  firsts h k a b c d e = cc

  seconds : (h k : Head) (a b c d : Tree) → Node h a b ≡ Node k c d → b ≡ d
  seconds h k a b c d e = cc

  heads : (h k : Head) (a b c d : Tree) → Node h a b ≡ Node k c d → h ≡ k
  heads h k a b c d e = cc

  plainly : (t u : Tree) → is_plain t ≡ true → t ≡ u → is_plain u ≡ false → ⊥
  plainly t u p e q = both_ways _ q (subst (λ v. is_plain v ≡ true) e p)

  pub falsity_one : (rs : List (ℕ × ℕ)) (n : ℕ) (l : Key) → IsKey trees n l → is_value l ≡ false → no ≡ key_tree trees rs l → l ≡ Falsity
  falsity_one rs n Falsity i v e = refl
  falsity_one rs n (Denial o) i v e = absurd (no_not (heads No Not Empty Empty (numbered trees o) Empty e))
  falsity_one rs n (Equation a b) i v e = absurd (no_eq (heads No Eq Empty Empty (operand_tree trees a) (operand_tree trees b) e))
  falsity_one rs n (Value x count m) i v e = absurd (both_ways _ v refl)
  falsity_one rs n (key.Other o) i v e = absurd (plainly (numbered trees o) no i.1 (sym e) refl)

  pub denial_one : AreSingle trees → (rs : List (ℕ × ℕ)) (n : ℕ) (o : Option ℕ) (l : Key) → IsLive (length trees) o → IsKey trees n l → is_value l ≡ false → denial_of (numbered trees o) ≡ key_tree trees rs l → l ≡ Denial o
  denial_one s rs n o Falsity h i v e = absurd (no_not (sym (heads Not No (numbered trees o) Empty Empty Empty e)))
  denial_one s rs n o (Denial p) h i v e = ap Denial (sym (number_one s o p h i (firsts Not Not (numbered trees o) Empty (numbered trees p) Empty e)))
  denial_one s rs n o (Equation a b) h i v e = absurd (not_eq (heads Not Eq (numbered trees o) Empty (operand_tree trees a) (operand_tree trees b) e))
  denial_one s rs n o (Value x count m) h i v e = absurd (both_ways _ v refl)
  denial_one s rs n o (key.Other p) h i v e = absurd (plainly (numbered trees p) (denial_of (numbered trees o)) i.1 (sym e) refl)

  pub equation_one : AreSingle trees → (rs : List (ℕ × ℕ)) (n : ℕ) (a b : Operand) (l : Key) → IsOperand trees a → IsOperand trees b → IsKey trees n l → is_value l ≡ false → Node Eq (operand_tree trees a) (operand_tree trees b) ≡ key_tree trees rs l
      → l ≡ Equation a b
  equation_one s rs n a b Falsity h j i v e = absurd (no_eq (sym (heads Eq No (operand_tree trees a) (operand_tree trees b) Empty Empty e)))
  equation_one s rs n a b (Denial p) h j i v e = absurd (not_eq (sym (heads Eq Not (operand_tree trees a) (operand_tree trees b) (numbered trees p) Empty e)))
  equation_one s rs n a b (Equation c d) h j i v e =
      ap₂ Equation (sym (operand_one s a c h i.0 (firsts Eq Eq (operand_tree trees a) (operand_tree trees b) (operand_tree trees c) (operand_tree trees d) e)))
      (sym (operand_one s b d j i.1 (seconds Eq Eq (operand_tree trees a) (operand_tree trees b) (operand_tree trees c) (operand_tree trees d) e)))
  equation_one s rs n a b (Value x count m) h j i v e = absurd (both_ways _ v refl)
  equation_one s rs n a b (key.Other p) h j i v e = absurd (plainly (numbered trees p) (Node Eq (operand_tree trees a) (operand_tree trees b)) i.1 (sym e) refl)

  other_one : AreSingle trees → (rs : List (ℕ × ℕ)) (n : ℕ) (o : Option ℕ) (l : Key) → IsLive (length trees) o → is_plain (numbered trees o) ≡ true → IsKey trees n l → is_value l ≡ false → numbered trees o ≡ key_tree trees rs l → l ≡ key.Other o
  other_one s rs n o Falsity h p i v e = absurd (plainly (numbered trees o) no p e refl)
  other_one s rs n o (Denial q) h p i v e = absurd (plainly (numbered trees o) (denial_of (numbered trees q)) p e refl)
  other_one s rs n o (Equation c d) h p i v e = absurd (plainly (numbered trees o) (Node Eq (operand_tree trees c) (operand_tree trees d)) p e refl)
  other_one s rs n o (Value x count m) h p i v e = absurd (both_ways _ v refl)
  other_one s rs n o (key.Other q) h p i v e = ap key.Other (sym (number_one s o q h i.0 e))

  pub key_one : AreSingle trees → (rs : List (ℕ × ℕ)) (n : ℕ) (k l : Key) → IsKey trees n k → is_value k ≡ false → IsKey trees n l → is_value l ≡ false → key_tree trees rs k ≡ key_tree trees rs l → l ≡ k
  key_one s rs n Falsity l h u i v e = falsity_one rs n l i v e
  key_one s rs n (Denial o) l h u i v e = denial_one s rs n o l h i v e
  key_one s rs n (Equation a b) l h u i v e = equation_one s rs n a b l h.0 h.1 i v e
  key_one s rs n (Value x count m) l h u i v e = absurd (both_ways _ u refl)
  key_one s rs n (key.Other o) l h u i v e = other_one s rs n o l h.0 h.1 i v e

-- plain trees

pub plain_nothing : is_plain Empty ≡ true
plain_nothing = refl

pub plain_no : (a b : Tree) → (a ≡ Empty → b ≡ Empty → ⊥) → is_plain (Node No a b) ≡ true
plain_no Empty Empty f = absurd (f refl refl)
plain_no Empty (Node h c d) f = refl
plain_no (Node h c d) b f = refl

pub plain_not : (a b : Tree) → (b ≡ Empty → ⊥) → is_plain (Node Not a b) ≡ true
plain_not a Empty f = absurd (f refl)
plain_not a (Node h c d) f = refl

pub plain_other : (h : Head) (a b : Tree) → (h ≡ No → ⊥) → (h ≡ Not → ⊥) → (h ≡ Eq → ⊥) → is_plain (Node h a b) ≡ true
plain_other No a b f g k = absurd (f refl)
plain_other Not a b f g k = absurd (g refl)
plain_other Eq a b f g k = absurd (k refl)
plain_other h a b f g k = refl

-- index terms

abbrev names_in : List (ℕ × ℕ) → List ℕ
names_in rs = map (λ (r : ℕ × ℕ). r.0) rs

front_end : (xs : List ℕ) → front_of Empty xs ≡ Some 0
unfolding front_of
front_end xs = refl

front_past : (h : Head) (a b : Tree) → front_of (Node h a b) [] ≡ None
unfolding front_of
front_past Cons a b = refl
front_past h a b = refl

front_other : (h : Head) (a b : Tree) (xs : List ℕ) → (h ≡ Cons → ⊥) → front_of (Node h a b) xs ≡ None
unfolding front_of
front_other Cons a b xs f = absurd (f refl)
front_other h a b xs f = refl

front_next : (a b : Tree) (x : ℕ) (xs : List ℕ) → front_of (Node Cons a b) (x ∷ xs) ≡ (if same_tree a (lone (Leaf x)) then option_map suc (front_of b xs) else None)
unfolding front_of
front_next a b x xs = refl

front_take : (count : ℕ) (rs : List (ℕ × ℕ)) → count ≤ length rs → front_of (index_terms (take count rs)) (names_in rs) ≡ Some count
front_take zero rs l = front_end (names_in rs)
front_take (suc n) [] l = absurd (omega (arith, l))
front_take (suc n) (r ∷ rs) l =
    front_next (lone (Leaf r.0)) (index_terms (take n rs)) r.0 (names_in rs)
    ∙ (ap (λ b. if b then option_map suc (front_of (index_terms (take n rs)) (names_in rs)) else None) (same_tree_self (lone (Leaf r.0)))
    ∙ ap (option_map suc) (front_take n rs (omega (arith, l))))

mapped : (o : Option ℕ) (k : ℕ) → option_map suc o ≡ Some k → (j : ℕ) × (o ≡ Some j) × (suc j ≡ k)
mapped (Some j) k e = (j, refl, (cc))
mapped None k e = absurd (cc)

front_is : (t : Tree) (rs : List (ℕ × ℕ)) (k : ℕ) → front_of t (names_in rs) ≡ Some k → (t ≡ index_terms (take k rs)) × (k ≤ length rs)
unfolding front_of
front_is Empty rs k e =
    let z : 0 ≡ k = cc in
    (ap (λ j. index_terms (take j rs)) z, omega (arith, z))
front_is (Node Cons a b) [] k e = absurd (cc)
front_is (Node Cons a b) (r ∷ rs) k e = go (front_is b rs) (same_tree a (lone (Leaf r.0))) refl e
  where
    go : ((j : ℕ) → front_of b (names_in rs) ≡ Some j → (b ≡ index_terms (take j rs)) × (j ≤ length rs)) → (c : Bool) → same_tree a (lone (Leaf r.0)) ≡ c → (if c then option_map suc (front_of b (names_in rs)) else None) ≡ Some k → (Node Cons a b ≡ index_terms (take k (r ∷ rs))) × (k ≤ length (r ∷ rs))
    go next false s f = absurd (cc)
    go next true s f =
        let m = mapped (front_of b (names_in rs)) k f in
        let i = next m.0 m.1 in
        let l : m.0 ≤ length rs = i.1 in
        let n : suc m.0 ≡ k = m.2 in
        (ap₂ (Node Cons) (same_tree_exact a (lone (Leaf r.0)) s) i.0 ∙ ap (λ j. index_terms (take j (r ∷ rs))) n, omega (arith, l, n))
front_is (Node h a b) rs k e = absurd (cc)

-- are they all the names

abbrev is_all : Option ℕ → ℕ → Bool
is_all None n = false
is_all (Some k) n = k == n

next_all : (o : Option ℕ) (n : ℕ) → is_all (option_map suc o) (suc n) ≡ is_all o n
next_all None n = refl
next_all (Some k) n = go (k == n) refl
  where
    go : (b : Bool) → (k == n) ≡ b → (suc k == suc n) ≡ (k == n)
    go true e = let s : suc k ≡ suc n = ap suc (eqb-true k n e) in eq-eqb (suc k) (suc n) s ∙ sym e
    go false e = ne_eqb (suc k) (suc n) (λ s. let t : k ≡ n = omega (arith, s) in both_ways _ e (eq-eqb k n t)) ∙ sym e

whole : (t : Tree) (rs : List (ℕ × ℕ)) → is_all (front_of t (names_in rs)) (length rs) ≡ same_tree t (index_terms rs)
unfolding front_of same_tree
whole Empty [] = refl
whole Empty (r ∷ rs) = ne_eqb 0 (suc (length rs)) (λ e. absurd (omega (arith, e)))
whole (Node Cons a b) [] = refl
whole (Node Cons a b) (r ∷ rs) = go (whole b rs) (same_tree a (lone (Leaf r.0)))
  where
    go : is_all (front_of b (names_in rs)) (length rs) ≡ same_tree b (index_terms rs) → (c : Bool) → is_all (if c then option_map suc (front_of b (names_in rs)) else None) (suc (length rs)) ≡ (c && same_tree b (index_terms rs))
    go next true = next_all (front_of b (names_in rs)) (length rs) ∙ next
    go next false = refl
whole (Node h a b) [] = refl
whole (Node h a b) (r ∷ rs) = refl

pub all_current : (t : Tree) (xs : List ℕ) (rs : List (ℕ × ℕ)) (o : Option ℕ) (n : ℕ) (b : Bool) → xs ≡ names_in rs → o ≡ front_of t xs → n ≡ length rs → b ≡ is_all o n → b ≡ same_tree t (index_terms rs)
all_current t xs rs o n b e f l g = g ∙ (ap₂ is_all (f ∙ ap (front_of t) e) l ∙ whole t rs)

pub no_all : (n : ℕ) → is_all None n ≡ false
no_all n = refl

-- cells

pub some_is : {A : Type 0} (p q : A) → ◌≡◌ {A = Option A} (Some p) (Some q) → p ≡ q
some_is p q e = cc

pub cell_back : (count : ℕ) (rs : List (ℕ × ℕ)) (x : ℕ) → count ≤ length rs → cell_at (cell_of (take count rs) x) (names_in rs) ≡ Some (x, count)
cell_back zero rs x l = refl
cell_back (suc n) [] x l = absurd (omega (arith, l))
cell_back (suc n) (r ∷ rs) x l = ap (read_at x) (front_take (suc n) (r ∷ rs) l)

read_some : (y : ℕ) (o : Option ℕ) (x k : ℕ) → read_at y o ≡ Some (x, k) → (j : ℕ) × (o ≡ Some (suc j)) × (y ≡ x) × (suc j ≡ k)
read_some y (Some (suc j)) x k e = let s = some_is {A = ℕ × ℕ} (y, suc j) (x, k) e in (j, refl, ap (λ (p : ℕ × ℕ). p.0) s, ap (λ (p : ℕ × ℕ). p.1) s)
read_some y (Some zero) x k e = absurd (cc)
read_some y None x k e = absurd (cc)

read_is : (y j : ℕ) (l : Tree) (rs : List (ℕ × ℕ)) → front_of l (names_in rs) ≡ Some (suc j) → Node (Read y) l Empty ≡ cell_of (take (suc j) rs) y
read_is y j l [] e = absurd (let i = front_is l [] (suc j) e in let n : suc j ≤ 0 = i.1 in omega (arith, n))
read_is y j l (r ∷ rs) e = ap (λ t. Node (Read y) t Empty) (front_is l (r ∷ rs) (suc j) e).0

pub cell_is : (t : Tree) (rs : List (ℕ × ℕ)) (x k : ℕ) → cell_at t (names_in rs) ≡ Some (x, k) → t ≡ cell_of (take k rs) x
cell_is Empty rs x k e = absurd (cc)
cell_is (Node (Leaf y) Empty Empty) rs x k e =
    let s = some_is {A = ℕ × ℕ} (y, 0) (x, k) e in
    ap₂ (λ j v. cell_of (take j rs) v) (ap (λ (p : ℕ × ℕ). p.1) s) (ap (λ (p : ℕ × ℕ). p.0) s)
cell_is (Node (Read y) l Empty) rs x k e =
    let r = read_some y (front_of l (names_in rs)) x k e in
    read_is y r.0 l rs r.1 ∙ ap₂ (λ j v. cell_of (take j rs) v) r.3 r.2
cell_is (Node (Leaf y) Empty (Node h c d)) rs x k e = absurd (cc)
cell_is (Node (Leaf y) (Node h c d) b) rs x k e = absurd (cc)
cell_is (Node (Read y) l (Node h c d)) rs x k e = absurd (cc)
cell_is (Node h a b) rs x k e = absurd (cc)

-- what is read of a cell

pub cell_name : (t : Tree) (xs : List ℕ) (x : ℕ) → t ≡ lone (Leaf x) → Some (x, 0) ≡ cell_at t xs
cell_name t xs x e = sym (ap (λ u. cell_at u xs) e)

pub cell_nowhere : (t : Tree) (xs : List ℕ) → t ≡ Empty → None ≡ cell_at t xs
cell_nowhere t xs e = sym (ap (λ u. cell_at u xs) e)

no_cell : (h : Head) (a b : Tree) (xs : List ℕ) → ((x : ℕ) → Node h a b ≢ lone (Leaf x)) → ((x : ℕ) → h ≡ Read x → ⊥) → None ≡ cell_at (Node h a b) xs
no_cell (Read x) a b xs f g = absurd (g x refl)
no_cell (Leaf x) Empty Empty xs f g = absurd (f x refl)
no_cell (Leaf x) Empty (Node k c d) xs f g = refl
no_cell (Leaf x) (Node k c d) b xs f g = refl
no_cell h a b xs f g = refl

pub cell_other : (t : Tree) (h : Head) (a b : Tree) (xs : List ℕ) → t ≡ Node h a b → ((x : ℕ) → t ≢ lone (Leaf x)) → ((x : ℕ) → h ≡ Read x → ⊥) → None ≡ cell_at t xs
cell_other t h a b xs e f g = no_cell h a b xs (λ x q. f x (e ∙ q)) g ∙ sym (ap (λ u. cell_at u xs) e)

more_cell : (x : ℕ) (a b : Tree) (xs : List ℕ) → (b ≡ Empty → ⊥) → None ≡ cell_at (Node (Read x) a b) xs
more_cell x a Empty xs f = absurd (f refl)
more_cell x a (Node k c d) xs f = refl

pub cell_more : (t : Tree) (h : Head) (x : ℕ) (a b : Tree) (xs : List ℕ) → t ≡ Node h a b → h ≡ Read x → (b ≡ Empty → ⊥) → None ≡ cell_at t xs
cell_more t h x a b xs e r f = more_cell x a b xs f ∙ sym (ap (λ u. cell_at u xs) (e ∙ ap (λ k. Node k a b) r))

pub cell_read : (t : Tree) (h : Head) (x : ℕ) (a b : Tree) (xs : List ℕ) (o : Option ℕ) → t ≡ Node h a b → h ≡ Read x → b ≡ Empty → o ≡ front_of a xs → read_at x o ≡ cell_at t xs
cell_read t h x a b xs o e r f g = ap (read_at x) g ∙ sym (ap (λ u. cell_at u xs) (e ∙ (ap (λ k. Node k a b) r ∙ ap (Node (Read x) a) f)))

pub read_positive : (x k : ℕ) → 0 < k → read_at x (Some k) ≡ Some (x, k)
read_positive x zero l = absurd (omega (arith, l))
read_positive x (suc k) l = refl

pub read_zero : (x k : ℕ) → k ≤ 0 → read_at x (Some k) ≡ None
read_zero x zero l = refl
read_zero x (suc k) l = absurd (omega (arith, l))

-- index terms one after another

counted : (n : ℕ) (o : Option ℕ) → option_map (λ k. (n + 1) + k) o ≡ option_map (λ k. n + k) (option_map suc o)
counted n None = refl
counted n (Some k) = let e : (n + 1) + k ≡ n + suc k = omega arith in ap (λ j. Some j) e

rest_at : (xs : List ℕ) (n x : ℕ) → slice_get xs n ≡ Some x → drop n xs ≡ x ∷ drop (suc n) xs
rest_at [] n x e = absurd (cc)
rest_at (y ∷ xs) zero x e = let z : y ≡ x = cc in ap (λ z. z ∷ xs) z
rest_at (y ∷ xs) (suc n) x e = rest_at xs n x e

past : (xs : List ℕ) (n : ℕ) → slice_get xs n ≡ None → drop n xs ≡ []
past [] zero e = refl
past [] (suc n) e = refl
past (y ∷ xs) zero e = absurd (cc)
past (y ∷ xs) (suc n) e = past xs n e

front_step : (t a b : Tree) (xs : List ℕ) (n x : ℕ) → t ≡ Node Cons a b → slice_get xs n ≡ Some x → front_of t (drop n xs) ≡ (if same_tree a (lone (Leaf x)) then option_map suc (front_of b (drop (n + 1) xs)) else None)
front_step t a b xs n x e g =
    let next : suc n ≡ n + 1 = omega arith in
    ap₂ front_of e (rest_at xs n x g ∙ ap (λ m. x ∷ drop m xs) next) ∙ front_next a b x (drop (n + 1) xs)

pub front_on : (t a b : Tree) (xs : List ℕ) (n x : ℕ) (whole : Option ℕ) → t ≡ Node Cons a b → slice_get xs n ≡ Some x → same_tree a (lone (Leaf x)) ≡ true → option_map (λ k. n + k) (front_of t (drop n xs)) ≡ whole
    → option_map (λ k. (n + 1) + k) (front_of b (drop (n + 1) xs)) ≡ whole
front_on t a b xs n x whole e g s told =
    counted n (front_of b (drop (n + 1) xs))
    ∙ (ap (option_map (λ k. n + k)) (sym (front_step t a b xs n x e g ∙ ap (λ c. if c then option_map suc (front_of b (drop (n + 1) xs)) else None) s))
    ∙ told)

pub front_stops : (t : Tree) (xs : List ℕ) (n : ℕ) (whole : Option ℕ) → front_of t (drop n xs) ≡ None → option_map (λ k. n + k) (front_of t (drop n xs)) ≡ whole → None ≡ whole
front_stops t xs n whole e told = sym (ap (option_map (λ k. n + k)) e) ∙ told

pub stops_by_name : (t a b : Tree) (xs : List ℕ) (n x : ℕ) → t ≡ Node Cons a b → slice_get xs n ≡ Some x → same_tree a (lone (Leaf x)) ≡ false → front_of t (drop n xs) ≡ None
stops_by_name t a b xs n x e g s = front_step t a b xs n x e g ∙ ap (λ c. if c then option_map suc (front_of b (drop (n + 1) xs)) else None) s

pub stops_by_end : (t : Tree) (h : Head) (a b : Tree) (xs : List ℕ) (n : ℕ) → t ≡ Node h a b → slice_get xs n ≡ None → front_of t (drop n xs) ≡ None
stops_by_end t h a b xs n e g = ap₂ front_of e (past xs n g) ∙ front_past h a b

pub stops_by_head : (t : Tree) (h : Head) (a b : Tree) (xs : List ℕ) (n : ℕ) → t ≡ Node h a b → (h ≡ Cons → ⊥) → front_of t (drop n xs) ≡ None
stops_by_head t h a b xs n e f = ap (λ u. front_of u (drop n xs)) e ∙ front_other h a b (drop n xs) f

pub front_ends : (t : Tree) (xs : List ℕ) (n : ℕ) (whole : Option ℕ) → t ≡ Empty → option_map (λ k. n + k) (front_of t (drop n xs)) ≡ whole → Some n ≡ whole
front_ends t xs n whole e told =
    let z : n ≡ n + 0 = omega arith in
    ap (λ k. Some k) z ∙ (sym (ap (λ u. option_map (λ k. n + k) (front_of u (drop n xs))) e ∙ ap (option_map (λ k. n + k)) (front_end (drop n xs))) ∙ told)

same_count : (o : Option ℕ) → option_map (λ k. 0 + k) o ≡ o
same_count None = refl
same_count (Some k) = let z : 0 + k ≡ k = omega arith in ap (λ j. Some j) z

pub front_starts : (t : Tree) (xs : List ℕ) → option_map (λ k. 0 + k) (front_of t (drop 0 xs)) ≡ front_of t xs
front_starts t xs = same_count (front_of t xs)

-- the key of a `let`

firsts_are : (h k : Head) (a b c d : Tree) → Node h a b ≡ Node k c d → a ≡ c
firsts_are h k a b c d e = cc

seconds_are : (h k : Head) (a b c d : Tree) → Node h a b ≡ Node k c d → b ≡ d
seconds_are h k a b c d e = cc

value_cell : (rs : List (ℕ × ℕ)) (xs : List ℕ) (x count : ℕ) (m t : Tree) (h : Head) (a b : Tree) → xs ≡ names_in rs → count ≤ length rs → t ≡ Node h a b → value_of rs x count m ≡ t → cell_at a xs ≡ Some (x, count)
value_cell rs xs x count m t h a b i l e f =
    let first : a ≡ cell_of (take count rs) x = sym (firsts_are Eq h (cell_of (take count rs) x) m a b (f ∙ e)) in
    ap₂ cell_at first i ∙ cell_back count rs x l

pub value_gone : (rs : List (ℕ × ℕ)) (xs : List ℕ) (x count : ℕ) (m t : Tree) (h : Head) (a b : Tree) → xs ≡ names_in rs → count ≤ length rs → t ≡ Node h a b → value_of rs x count m ≡ t → None ≡ cell_at a xs → ⊥
value_gone rs xs x count m t h a b i l e f g = let s = value_cell rs xs x count m t h a b i l e f in let q : ◌≡◌ {A = Option (ℕ × ℕ)} None (Some (x, count)) = g ∙ s in cc

pub value_is : (trees : List KindTree) (rs : List (ℕ × ℕ)) (xs : List ℕ) (p : ℕ × ℕ) (n : NodeId) (o : Option NodeId) (t : Tree) (h : Head) (a : Tree) → xs ≡ names_in rs → Some p ≡ cell_at a xs → o ≡ Some n → h ≡ Eq → t ≡ Node h a (tree_at trees o)
    → value_of rs p.0 p.1 (tree_at trees (Some n)) ≡ t
value_is trees rs xs p n o t h a i c s q e =
    ap₂ (Node Eq) (sym (cell_is a rs p.0 p.1 (ap (cell_at a) (sym i) ∙ sym c))) (ap (tree_at trees) (sym s)) ∙ (ap (λ k. Node k a (tree_at trees o)) (sym q) ∙ sym e)

pub value_only : (trees : List KindTree) (rs : List (ℕ × ℕ)) (xs : List ℕ) (p : ℕ × ℕ) (k n : NodeId) (o : Option NodeId) (t : Tree) (h : Head) (a : Tree) → xs ≡ names_in rs → Some p ≡ cell_at a xs → o ≡ Some n → t ≡ Node h a (tree_at trees o)
    → k.0 < length trees → ChildBelow k.0 o → AreSingle trees → (x count m : ℕ) → count ≤ length rs → m < length trees → value_of rs x count (numbered trees (Some m)) ≡ t
    → ◌≡◌ {A = Option Key} (Some (Value p.0 p.1 n.0)) (Some (Value x count m))
value_only trees rs xs p k n o t h a i c s e l b single x count m w live f =
    let cell = value_cell rs xs x count (numbered trees (Some m)) t h a (tree_at trees o) i w e f in
    let same = some_is {A = ℕ × ℕ} p (x, count) (c ∙ cell) in
    let below : n.0 < k.0 = subst (ChildBelow k.0) s b in
    let term : tree_at trees (Some n) ≡ numbered trees (Some m) = ap (tree_at trees) (sym s) ∙ sym (seconds_are Eq h (cell_of (take count rs) x) (numbered trees (Some m)) a (tree_at trees o) (f ∙ e)) in
    let number : n.0 ≡ m = single.single n.0 m (omega (arith, below, l)) live term in
    λ j. Some (Value (same j).0 (same j).1 (number j))
