-- The trees of entries: adding one, keeping the first, reading one.
use Rattle.std.proofs.Common.{◌≡◌, ℕ, zero, suc, ◌+◌, ◌<◌, ◌≤◌, List, [], ◌∷◌, ◌++◌, length, take, refl, ap, sym, ◌∙◌, append_assoc, arith, length-append, get_or, subst, Option, Some, None, IsNone, ◌↔◌, ◌≢◌, add-zero, append-nil}
use Rattle.std.proofs.Math.Seq.{take-append_seam, take-length, get_or-append_seam}
use Rattle.std.proofs.lemmas.List.{get_or_append_left}
use Rattle.cv_pool.specs.declared.node.NodeId.{NodeId}
use Rattle.cv_pool.specs.declared.node.Entry.{Entry}
use Rattle.cv_pool.specs.KindTree.{KindTree, NoTree, Fork}
use Rattle.cv_pool.specs.Nodes.{built, tree_of, at, child, IsClosed, EntryBelow, ChildBelow}

pub length_built : (done : List KindTree) (cs : List Entry) → length (built done cs) ≡ length done + length cs
length_built done [] = omega arith
length_built done (c ∷ cs) = omega (arith, length_built (done ++ tree_of done c ∷ []) cs, length-append done (tree_of done c ∷ []))

pub length_trees : (cs : List Entry) → length (built [] cs) ≡ length cs
length_trees cs = omega (arith, length_built [] cs)

pub built_append : (done : List KindTree) (cs : List Entry) (c : Entry) → built done (cs ++ c ∷ []) ≡ built done cs ++ tree_of (built done cs) c ∷ []
built_append done [] c = refl
built_append done (d ∷ cs) c = built_append (done ++ tree_of done d ∷ []) cs c

pub IsClosed_append : (i : ℕ) (cs : List Entry) (c : Entry) → IsClosed i cs → EntryBelow (i + length cs) c → IsClosed i (cs ++ c ∷ [])
IsClosed_append i [] c h b = let e : i + 0 ≡ i = omega arith in (subst (λ n. EntryBelow n c) e b, tt)
IsClosed_append i (d ∷ cs) c h b =
    let e : i + suc (length cs) ≡ (i + 1) + length cs = omega arith in
    (h.0, IsClosed_append (i + 1) cs c h.1 (subst (λ n. EntryBelow n c) e b))

at_last : (ts : List KindTree) (t : KindTree) (n : ℕ) → n ≡ length ts → at (ts ++ t ∷ []) n ≡ t
at_last [] t zero e = refl
at_last [] t (suc n) e = absurd (omega arith)
at_last (s ∷ ts) t zero e = absurd (omega arith)
at_last (s ∷ ts) t (suc n) e = let h : n ≡ length ts = omega arith in at_last ts t n h

-- the tree of a cell that comes last
pub at_built_last : (cs : List Entry) (c : Entry) (n : ℕ) → n ≡ length cs → at (built [] (cs ++ c ∷ [])) n ≡ tree_of (built [] cs) c
at_built_last cs c n e = rw built_append (let h : n ≡ length (built [] cs) = omega (arith, length_trees cs) in at_last (built [] cs) (tree_of (built [] cs) c) n h)

-- the first trees are those that were there
pub front_built : (done : List KindTree) (cs : List Entry) → (rest : List KindTree) × (built done cs ≡ done ++ rest)
front_built done [] = ([], sym (append-nil done))
front_built done (c ∷ cs) =
    let h = front_built (done ++ tree_of done c ∷ []) cs in
    ((tree_of done c ∷ []) ++ h.0, h.1 ∙ append_assoc done (tree_of done c ∷ []) h.0)

take_front : (done : List KindTree) (cs : List Entry) → take (length done) (built done cs) ≡ done
take_front done cs = let h = front_built done cs in rw h.1 (take-append_seam done h.0)

pub take_past : (ts : List KindTree) (n : ℕ) → length ts ≤ n → take n ts ≡ ts
take_past [] zero h = refl
take_past [] (suc n) h = refl
take_past (t ∷ ts) zero h = absurd (omega arith)
take_past (t ∷ ts) (suc n) h = let k : length ts ≤ n = omega arith in ap (λ xs. t ∷ xs) (take_past ts n k)

pub take_built : (done : List KindTree) (cs : List Entry) (n : ℕ) → take (length done + n) (built done cs) ≡ built done (take n cs)
take_built done [] zero = rw add-zero (take-length done)
take_built done [] (suc n) = take_past done (length done + suc n) (omega arith)
take_built done (c ∷ cs) zero = rw add-zero (take_front done (c ∷ cs))
take_built done (c ∷ cs) (suc n) =
    let e : length done + suc n ≡ length (done ++ tree_of done c ∷ []) + n = omega (arith, length-append done (tree_of done c ∷ [])) in
    rw e (take_built (done ++ tree_of done c ∷ []) cs n)

pub take_trees : (cs : List Entry) (n : ℕ) → take n (built [] cs) ≡ built [] (take n cs)
take_trees cs n = let e : 0 + n ≡ n = omega arith in subst (λ k. take k (built [] cs) ≡ built [] (take n cs)) e (take_built [] cs n)

-- a tree that is there stays there
at_front : (done : List KindTree) (cs : List Entry) (n : ℕ) → n < length done → at (built done cs) n ≡ at done n
at_front done cs n h = let f = front_built done cs in rw f.1 (get_or_append_left done f.0 NoTree n h)

child_front : (done : List KindTree) (cs : List Entry) (o : Option NodeId) → ChildBelow (length done) o → child done o ≡ child (built done cs) o
child_front done cs None h = refl
child_front done cs (Some k) h = sym (at_front done cs k.0 h)

-- a tree is made of those of its children
at_from : (done : List KindTree) (cs : List Entry) (i : ℕ) (d : Entry) → IsClosed (length done) cs → i < length cs → at (built done cs) (length done + i) ≡ tree_of (built done cs) (get_or cs i d)
at_from done [] i d h l = absurd (omega arith)
at_from done (c ∷ cs) zero d h l =
    let more = done ++ tree_of done c ∷ [] in
    let lt : length done < length more = omega (arith, length-append done (tree_of done c ∷ [])) in
    rw add-zero (at_front more cs (length done) lt ∙ (get_or-append_seam done (tree_of done c) [] NoTree ∙ whole))
  where
    whole : tree_of done c ≡ tree_of (built done (c ∷ cs)) c
    whole = ap (λ t. Fork c.kind t (child done c.second)) (child_front done (c ∷ cs) c.first h.0.first) ∙ ap (λ t. Fork c.kind (child (built done (c ∷ cs)) c.first) t) (child_front done (c ∷ cs) c.second h.0.second)
at_from done (c ∷ cs) (suc i) d h l =
    let e : length done + 1 ≡ length (done ++ tree_of done c ∷ []) = omega (arith, length-append done (tree_of done c ∷ [])) in
    let s : length done + suc i ≡ length (done ++ tree_of done c ∷ []) + i = omega (arith, length-append done (tree_of done c ∷ [])) in
    let k : i < length cs = omega arith in
    rw s (at_from (done ++ tree_of done c ∷ []) cs i d (subst (λ n. IsClosed n cs) e h.1) k)

pub at_built : (cs : List Entry) (i : ℕ) (d : Entry) → IsClosed 0 cs → i < length cs → at (built [] cs) i ≡ tree_of (built [] cs) (get_or cs i d)
at_built cs i d h l = let e : 0 + i ≡ i = omega arith in subst (λ k. at (built [] cs) k ≡ tree_of (built [] cs) (get_or cs i d)) e (at_from [] cs i d h l)

below_from : (j : ℕ) (cs : List Entry) (i : ℕ) (d : Entry) → IsClosed j cs → i < length cs → EntryBelow (j + i) (get_or cs i d)
below_from j [] i d h l = absurd (omega arith)
below_from j (c ∷ cs) zero d h l = let e : j ≡ j + 0 = omega arith in subst (λ n. EntryBelow n c) e h.0
below_from j (c ∷ cs) (suc i) d h l =
    let e : (j + 1) + i ≡ j + suc i = omega arith in
    let k : i < length cs = omega arith in
    subst (λ n. EntryBelow n (get_or cs i d)) e (below_from (j + 1) cs i d h.1 k)

pub below_at : (cs : List Entry) (i : ℕ) (d : Entry) → IsClosed 0 cs → i < length cs → EntryBelow i (get_or cs i d)
below_at cs i d h l = let e : 0 + i ≡ i = omega arith in subst (λ n. EntryBelow n (get_or cs i d)) e (below_from 0 cs i d h l)

pub kept_last : (cs : List Entry) (c : Entry) → take (length (built [] cs)) (built [] (cs ++ c ∷ [])) ≡ built [] cs
kept_last cs c = rw (built_append [] cs c) (take-append_seam (built [] cs) (tree_of (built [] cs) c ∷ []))

pub IsClosed_take : (i : ℕ) (cs : List Entry) (n : ℕ) → IsClosed i cs → IsClosed i (take n cs)
IsClosed_take i [] zero h = tt
IsClosed_take i [] (suc n) h = tt
IsClosed_take i (c ∷ cs) zero h = tt
IsClosed_take i (c ∷ cs) (suc n) h = (h.0, IsClosed_take (i + 1) cs n h.1)

-- a node that is there stands for a tree
pub at_live : (cs : List Entry) (i : ℕ) (d : Entry) → IsClosed 0 cs → i < length cs → at (built [] cs) i ≢ NoTree
at_live cs i d h l e = let f : tree_of (built [] cs) (get_or cs i d) ≡ NoTree = sym (at_built cs i d h l) ∙ e in absurd (cc)

pub child_none : (cs : List Entry) (i : ℕ) (d : Entry) (o : Option NodeId) → IsClosed 0 cs → i ≤ length cs → ChildBelow i o → IsNone o ↔ (child (built [] cs) o ≡ NoTree)
child_none cs i d None h l b = (λ _. refl, λ _. refl)
child_none cs i d (Some k) h l b = (λ e. absurd (cc), λ e. let m : k.0 < length cs = omega arith in absurd (at_live cs k.0 d h m e))

pub ruleset built_laws = (length_trees, built_append, IsClosed_append, at_built_last, take_trees, kept_last, IsClosed_take)

pub ruleset reads = (length_trees, at_built, below_at, child_none, at_live)
