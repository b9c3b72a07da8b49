-- The `defined` lists of a branch and of its copies: the copy with the owner's name is a candidate where the branch is, no other one is.
use Rattle.std.proofs.Common.{◌≡◌, ℕ, suc, ◌+◌, ◌<◌, ◌==◌, Bool, true, false, cond, not, List, [], ◌∷◌, ◌++◌, Option, Some, None, is_some, refl, sym, ap, ap₂, subst, ◌∙◌, arith, eq-eqb, eqb-true}
use Rattle.std.proofs.lemmas.Bool.{both_ways, not-false, not-true, or_parts}
use Rattle.std.specs.List.{AllByRecursion, list_any}
use Rattle.cv_syntax_trees.specs.declared.head.Head.{Head}
use Rattle.cv_syntax_trees.specs.declared.head.Head.TheVariants.{Leaf, Read}
use Rattle.cv_syntax_trees.specs.Tree.{Tree, Empty, Node, head_reads_only, same_tree}
use Rattle.cv_syntax_trees.proofs.Equality.{same_tree_exact, same_tree_self}
use Rattle.cv_meaning.specs.Interpretation.{Setting}
use Rattle.cv_meaning.specs.Memory.{Indices, Store}
use Rattle.cv_meaning.specs.Terms.{is_one, value, values}
use Rattle.cv_meaning.specs.Candidates.{are_assigned, is_assigned, is_candidate}
use Rattle.cv_syntax_trees.proofs.lists.Each.{AllByRecursion_weaker}
use Rattle.cv_edit_names.specs.Cells.{are_mixed, called_head, cells_in, first_unnamed, is_cell_of, name_of, with_names}
use Rattle.cv_rule_array_names.proofs.Stores.{AreSplit, Free, free_first, free_second, head_free, is_name}
use Rattle.cv_rule_array_names.proofs.Values.{AreVariables, IsOwned, Unread, name_holds, tuple_in, unread_first, unread_head, unread_second, value_named, values_named}

-- names of cells

pub named_before : (A B : List (Tree × ℕ)) (c : Tree) → is_some (name_of A c) ≡ true → name_of (A ++ B) c ≡ name_of A c
named_before [] B c e = absurd (both_ways _ refl e)
named_before (d ∷ A) B c e = go (same_tree d.0 c) (named_before A B c) e
  where
    go : (b : Bool) → (is_some (name_of A c) ≡ true → name_of (A ++ B) c ≡ name_of A c) → is_some (cond b (Some d.1) (name_of A c)) ≡ true → cond b (Some d.1) (name_of (A ++ B) c) ≡ cond b (Some d.1) (name_of A c)
    go true ih k = refl
    go false ih k = ih k

abbrev pub AreNamed : List (Tree × ℕ) → List Tree → Type 0
AreNamed A cs = AllByRecursion (λ c. is_some (name_of A c) ≡ true) cs

pub none_unnamed : (A : List (Tree × ℕ)) (cs : List Tree) → first_unnamed A cs ≡ None → AreNamed A cs
none_unnamed A [] e = tt
none_unnamed A (c ∷ cs) e = go (is_some (name_of A c)) refl (none_unnamed A cs) e
  where
    go : (b : Bool) → is_some (name_of A c) ≡ b → (first_unnamed A cs ≡ None → AreNamed A cs) → cond b (first_unnamed A cs) (Some c) ≡ None → AreNamed A (c ∷ cs)
    go true i ih k = (i, ih k)
    go false i ih k = absurd (cc)

pub unnamed_is : (P : Tree → Type 0) (A : List (Tree × ℕ)) (cs : List Tree) (d : Tree) → first_unnamed A cs ≡ Some d → AllByRecursion P cs → P d
unnamed_is P A [] d e h = absurd (cc)
unnamed_is P A (c ∷ cs) d e h = go (is_some (name_of A c)) (λ k. unnamed_is P A cs d k h.1) e
  where
    go : (b : Bool) → (first_unnamed A cs ≡ Some d → P d) → cond b (first_unnamed A cs) (Some c) ≡ Some d → P d
    go true ih k = ih k
    go false ih k = let j : c ≡ d = cc in subst P j h.0

all_same : (c : Tree) (cs : List Tree) → list_any (λ d. not (same_tree c d)) cs ≡ false → AllByRecursion (λ d. c ≡ d) cs
all_same c [] e = tt
all_same c (d ∷ cs) e = let p = or_parts (not (same_tree c d)) _ e in (same_tree_exact c d (not-false _ p.0), all_same c cs p.1)

-- of cells at equal indices all are the unnamed one
pub all_unnamed : (A : List (Tree × ℕ)) (cs : List Tree) (d : Tree) → are_mixed cs ≡ false → first_unnamed A cs ≡ Some d → AllByRecursion (λ c. c ≡ d) cs
all_unnamed A [] d e f = tt
all_unnamed A (c ∷ cs) d e f =
    let all : AllByRecursion (λ k. c ≡ k) (c ∷ cs) = (refl, all_same c cs e) in
    let one : c ≡ d = unnamed_is (λ k. c ≡ k) A (c ∷ cs) d f all in
    AllByRecursion_weaker (λ k. c ≡ k) (λ k. k ≡ d) (λ k h. sym h ∙ one) (c ∷ cs) all

pub named_with : (A : List (Tree × ℕ)) (cs : List Tree) (d : Tree) (y : ℕ) → AllByRecursion (λ c. c ≡ d) cs → AreNamed ((d, y) ∷ A) cs
named_with A cs d y h = AllByRecursion_weaker (λ c. c ≡ d) (λ c. is_some (name_of ((d, y) ∷ A) c) ≡ true) (λ c e. ap (λ b. is_some (cond b (Some y) (name_of A c))) (ap (same_tree d) e ∙ same_tree_self d)) cs h

all_cells : (x : ℕ) (cells : Tree) → AllByRecursion (λ c. is_cell_of x c ≡ true) (cells_in x cells)
all_cells x Empty = tt
all_cells x (Node h c more) = go (is_cell_of x c) refl (all_cells x more)
  where
    go : (b : Bool) → is_cell_of x c ≡ b → AllByRecursion (λ c. is_cell_of x c ≡ true) (cells_in x more) → AllByRecursion (λ c. is_cell_of x c ≡ true) (cond b (c ∷ cells_in x more) (cells_in x more))
    go true e ih = (e, ih)
    go false e ih = ih

pub unnamed_cell : (x : ℕ) (A : List (Tree × ℕ)) (cells d : Tree) → first_unnamed A (cells_in x cells) ≡ Some d → is_cell_of x d ≡ true
unnamed_cell x A cells d e = unnamed_is (λ c. is_cell_of x c ≡ true) A (cells_in x cells) d e (all_cells x cells)

-- names of a cell that a term is too small to read

nodes : Tree → ℕ
nodes Empty = 0
nodes (Node h a b) = suc (nodes a + nodes b)

part_smaller : (a b n : ℕ) → suc (a + b) < n → a < n
part_smaller a b n l = omega arith

rest_smaller : (a b n : ℕ) → suc (a + b) < n → b < n
rest_smaller a b n l = omega arith

smaller_not : (c t : Tree) → nodes t < nodes c → same_tree c t ≡ false
smaller_not c t l = go (same_tree c t) refl
  where
    go : (b : Bool) → same_tree c t ≡ b → same_tree c t ≡ false
    go true e = let i : nodes c ≡ nodes t = ap nodes (same_tree_exact c t e) in absurd (omega arith)
    go false e = e

smaller_named : (c : Tree) (y : ℕ) (A : List (Tree × ℕ)) (t : Tree) → nodes t < nodes c → with_names ((c, y) ∷ A) t ≡ with_names A t
unfolding with_names nodes
smaller_named c y A Empty l = refl
smaller_named c y A (Node h a b) l =
    let e : name_of ((c, y) ∷ A) (Node h a b) ≡ name_of A (Node h a b) = ap (λ q. cond q (Some y) (name_of A (Node h a b))) (smaller_not c (Node h a b) l) in
    let i : with_names ((c, y) ∷ A) a ≡ with_names A a = smaller_named c y A a (part_smaller (nodes a) (nodes b) (nodes c) l) in
    let j : with_names ((c, y) ∷ A) b ≡ with_names A b = smaller_named c y A b (rest_smaller (nodes a) (nodes b) (nodes c) l) in
    λ k. Node (called_head h (e k)) (i k) (j k)

below_read : (z : ℕ) (a b : Tree) → nodes a < nodes (Node (Read z) a b)
unfolding nodes
below_read z a b = omega arith

abbrev pub both : Bool → Bool → Bool
both p q = elim p as (λ _. Bool) [ true ↦ q | false ↦ false ]

pub both_false : (p : Bool) → both p false ≡ false
both_false true = refl
both_false false = refl

-- the stores m and n of the two runs, and the stores with the index variables of the branch
module _ (g : Setting) (x : ℕ) (ys : List ℕ) (o r : List ℕ → ℕ) (owns : (w : List ℕ) → is_name ys (o w) ≡ true) (inner : (w : List ℕ) → is_name ys (r w) ≡ true) (at : Indices) (vars : AreVariables g x ys at)
    (m n k l : Store) (s : AreSplit x ys o m n) (z : AreSplit x ys r k l) where
  abbrev Told : Tree × ℕ → Type 0
  Told d = IsOwned g x ys r at k d

  -- a tested cell has the name of its owner
  abbrev Tested : Tree × ℕ → Type 0
  Tested d = IsOwned g x ys o at k d

  leaf_assigned : (y : ℕ) (a b : Tree) (q : Option ℕ) → is_name ys y ≡ false → head_reads_only (λ v. not (v == x)) (called_head (Leaf y) q) ≡ true → ((v : ℕ) → q ≡ Some v → Tested (Node (Leaf y) a b, v))
      → (c d : Tree) → is_some (m y []) ≡ is_assigned g at n l (Node (called_head (Leaf y) q) c d)
  leaf_assigned y a b None f e h c d = ap is_some (s.same y (not-true _ e) f [])
  leaf_assigned y a b (Some v) f e h c d =
      let t : Tested (Node (Leaf y) a b, v) = h v refl in
      ap (λ q. is_some (m q [])) (eqb-true y x t.cell) ∙ ap is_some (s.owned []) ∙ ap (λ q. is_some (n q [])) t.owner

  read_assigned : (y : ℕ) (a b c : Tree) (q : Option ℕ) → is_name ys y ≡ false → head_reads_only (λ v. not (v == x)) (called_head (Read y) q) ≡ true → ((v : ℕ) → q ≡ Some v → Tested (Node (Read y) a b, v))
      → values g at k a ≡ values g at l c → (d : Tree) → is_some (m y (values g at k a)) ≡ is_assigned g at n l (Node (called_head (Read y) q) c d)
  read_assigned y a b c None f e h i d = ap is_some (s.same y (not-true _ e) f (values g at k a) ∙ ap (n y) i)
  read_assigned y a b c (Some v) f e h i d =
      let t : Tested (Node (Read y) a b, v) = h v refl in
      ap (λ q. is_some (m q (values g at k a))) (eqb-true y x t.cell) ∙ ap is_some (s.owned (values g at k a)) ∙ ap₂ (λ q w. is_some (n q w)) t.owner i

  module _ (named : List (Tree × ℕ)) (owned : AllByRecursion Told named) where
    cell_assigned : (c : Tree) → Free ys c → Unread x (with_names named c) → ((v : ℕ) → name_of named c ≡ Some v → Tested (c, v)) → is_assigned g at m k c ≡ is_assigned g at n l (with_names named c)
    unfolding with_names
    cell_assigned Empty f u h = refl
    cell_assigned (Node (Leaf y) a b) f u h =
        leaf_assigned y a b (name_of named (Node (Leaf y) a b)) (head_free ys (Leaf y) a b y (eq-eqb y y refl) f) (unread_head x _ _ _ u) h (with_names named a) (with_names named b)
    cell_assigned (Node (Read y) a b) f u h =
        read_assigned y a b (with_names named a) (name_of named (Node (Read y) a b)) (head_free ys (Read y) a b y (eq-eqb y y refl) f) (unread_head x _ _ _ u) h
        (values_named g x ys r inner at vars k l z named owned a (free_first ys (Read y) a b f) (unread_first x _ _ _ u)) (with_names named b)
    cell_assigned (Node h a b) f u q = refl

    -- a cell that has a name is one of the variable's, so it is named first
    list_assigned : (A B : List (Tree × ℕ)) → named ≡ A ++ B → AllByRecursion Tested A → (cells : Tree) → AreNamed A (cells_in x cells) → Free ys cells → Unread x (with_names named cells)
        → are_assigned g at m k cells ≡ are_assigned g at n l (with_names named cells)
    unfolding with_names
    list_assigned A B e t Empty a f u = refl
    list_assigned A B e t (Node h c more) a f u =
        ap₂ both (cell_assigned c (free_first ys h c more f) (unread_first x _ _ _ u) first_tested)
        (list_assigned A B e t more (rest (is_cell_of x c) a) (free_second ys h c more f) (unread_second x _ _ _ u))
      where
        rest : (b : Bool) → AreNamed A (cond b (c ∷ cells_in x more) (cells_in x more)) → AreNamed A (cells_in x more)
        rest true i = i.1
        rest false i = i

        this : (b : Bool) → b ≡ true → AreNamed A (cond b (c ∷ cells_in x more) (cells_in x more)) → is_some (name_of A c) ≡ true
        this true j i = i.0
        this false j i = absurd (both_ways _ refl j)

        first_tested : (v : ℕ) → name_of named c ≡ Some v → Tested (c, v)
        first_tested v i =
            let d : Told (c, v) = name_holds Told named c v owned i in
            name_holds Tested A c v t (sym (named_before A B c (this (is_cell_of x c) d.cell a)) ∙ ap (λ q. name_of q c) (sym e) ∙ i)

    pub candidate_same : (A B : List (Tree × ℕ)) → named ≡ A ++ B → AllByRecursion Tested A → (h i : Head) (cells c body other : Tree) → AreNamed A (cells_in x cells) → Free ys cells → Free ys c → Unread x (with_names named cells) → Unread x (with_names named c)
        → is_candidate g at m k (Node h cells (Node i c body)) ≡ is_candidate g at n l (Node h (with_names named cells) (Node i (with_names named c) other))
    candidate_same A B e t h i cells c body other a f q u v =
        ap₂ both (list_assigned A B e t cells a f u) (ap is_one (value_named g x ys r inner at vars k l z named owned c q v))

    -- a copy with a name that the cell has nothing of
    lone_cell : (c : Tree) (y : ℕ) → is_cell_of x c ≡ true → Free ys c → Unread x (with_names ((c, y) ∷ named) c) → n y (tuple_in g at k c) ≡ None → is_assigned g at n l (with_names ((c, y) ∷ named) c) ≡ false
    unfolding with_names
    lone_cell Empty y e f u i = refl
    lone_cell (Node (Leaf v) a b) y e f u i =
        ap (λ q. is_assigned g at n l (Node (called_head (Leaf v) (cond q (Some y) (name_of named (Node (Leaf v) a b)))) (with_names ((Node (Leaf v) a b, y) ∷ named) a) (with_names ((Node (Leaf v) a b, y) ∷ named) b))) (same_tree_self (Node (Leaf v) a b))
        ∙ ap is_some i
    lone_cell (Node (Read v) a b) y e f u i =
        let small : with_names ((Node (Read v) a b, y) ∷ named) a ≡ with_names named a = smaller_named (Node (Read v) a b) y named a (below_read v a b) in
        let same : values g at k a ≡ values g at l (with_names ((Node (Read v) a b, y) ∷ named) a) =
        values_named g x ys r inner at vars k l z named owned a (free_first ys (Read v) a b f) (subst (λ q. Unread x q) small (unread_first x _ _ _ u)) ∙ ap (values g at l) (sym small) in
        ap (λ q. is_assigned g at n l (Node (called_head (Read v) (cond q (Some y) (name_of named (Node (Read v) a b)))) (with_names ((Node (Read v) a b, y) ∷ named) a) (with_names ((Node (Read v) a b, y) ∷ named) b))) (same_tree_self (Node (Read v) a b))
        ∙ ap (λ w. is_some (n y w)) (sym same) ∙ ap is_some i
    lone_cell (Node h a b) y e f u i = refl

    list_fails : (A : List (Tree × ℕ)) (d : Tree) (y : ℕ) (cells : Tree) → first_unnamed A (cells_in x cells) ≡ Some d → is_cell_of x d ≡ true → Free ys cells → Unread x (with_names ((d, y) ∷ named) cells) → n y (tuple_in g at k d) ≡ None
        → are_assigned g at n l (with_names ((d, y) ∷ named) cells) ≡ false
    unfolding with_names
    list_fails A d y Empty e j f u i = absurd (cc)
    list_fails A d y (Node h c more) e j f u i =
        go (is_cell_of x c) (is_some (name_of A c)) (λ q. list_fails A d y more q j (free_second ys h c more f) (unread_second x _ _ _ u) i) e
      where
        first : Bool
        first = is_assigned g at n l (with_names ((d, y) ∷ named) c)

        later : Bool
        later = are_assigned g at n l (with_names ((d, y) ∷ named) more)

        behind : (later ≡ false) → both first later ≡ false
        behind q = ap (both first) q ∙ both_false first

        this : c ≡ d → both first later ≡ false
        this q = ap (λ p. both p later) (subst (λ b. is_assigned g at n l (with_names ((d, y) ∷ named) b) ≡ false) (sym q) (lone_cell d y j (subst (Free ys) q (free_first ys h c more f)) (subst (λ b. Unread x (with_names ((d, y) ∷ named) b)) q (unread_first x _ _ _ u)) i))

        go : (b q : Bool) → (first_unnamed A (cells_in x more) ≡ Some d → later ≡ false) → first_unnamed A (cond b (c ∷ cells_in x more) (cells_in x more)) ≡ Some d → both first later ≡ false
        go false q ih k = behind (ih k)
        go true q ih k = named_or (is_some (name_of A c)) ih k
          where
            named_or : (q : Bool) → (first_unnamed A (cells_in x more) ≡ Some d → later ≡ false) → cond q (first_unnamed A (cells_in x more)) (Some c) ≡ Some d → both first later ≡ false
            named_or true ih k = behind (ih k)
            named_or false ih k = let p : c ≡ d = cc in this p

    pub candidate_fails : (A : List (Tree × ℕ)) (d : Tree) (y : ℕ) (h i : Head) (cells c other : Tree) → first_unnamed A (cells_in x cells) ≡ Some d → is_cell_of x d ≡ true → Free ys cells → Unread x (with_names ((d, y) ∷ named) cells) → n y (tuple_in g at k d) ≡ None
        → is_candidate g at n l (Node h (with_names ((d, y) ∷ named) cells) (Node i c other)) ≡ false
    candidate_fails A d y h i cells c other e j f u q = ap (λ p. both p (is_one (value g at l c))) (list_fails A d y cells e j f u q)
