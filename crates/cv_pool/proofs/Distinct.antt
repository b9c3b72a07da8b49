-- Each tree has one node.
use Rattle.std.proofs.Common.{◌≡◌, ◌≢◌, ℕ, ◌+◌, ◌<◌, ◌≤◌, List, [], ◌∷◌, ◌++◌, length, take, false, true, refl, ap, sym, ◌∙◌, subst, arith, length-append, length-take-le, get_or, ◌⊎◌, inl, inr, Option, Some, None}
use Rattle.std.proofs.lemmas.List.{get_or_append_left, get_or-take}
use Rattle.std.proofs.lemmas.Option.{slice_get-get_or, get_or_from_slice_get}
use Rattle.std.proofs.Math.Nat.{eq-or-lt_of_le}
use Rattle.std.proofs.Math.Seq.{get_or-append_seam}
use Rattle.std.specs.Prelude.{slice_get}
use Rattle.cv_pool.specs.Chain.{no_entry}
use Rattle.cv_pool.specs.KindTree.{KindTree, NoTree, kind_of, side}
use Rattle.cv_pool.specs.Nodes.{AreDistinct, at, built, child, tree_of, ChildBelow, EntryBelow, IsClosed}
use Rattle.cv_pool.specs.declared.node.Entry.{Entry}
use Rattle.cv_pool.specs.declared.node.NodeId.{NodeId}
use Rattle.cv_pool.proofs.Built.{at_built, at_built_last, at_live, below_at, built_append, built_laws, length_trees, take_trees}
use Rattle.cv_pool.proofs.Chaining.{chained_more, chained_take, slice_get_below}
use Rattle.cv_pool.proofs.Growth.{ChildBelow_more}

-- children that stand for one tree are one
child_one : (cs : List Entry) → IsClosed 0 cs → AreDistinct (built [] cs) → (a b : Option NodeId) → ChildBelow (length cs) a → ChildBelow (length cs) b → child (built [] cs) a ≡ child (built [] cs) b → a ≡ b
child_one cs k d None None la lb e = refl
child_one cs k d None (Some n) la lb e = absurd (at_live cs n.0 no_entry k lb (sym e))
child_one cs k d (Some m) None la lb e = absurd (at_live cs m.0 no_entry k la e)
child_one cs k d (Some m) (Some n) la lb e =
    let s = d.same m.0 n.0 (omega (arith, length_trees cs)) (omega (arith, length_trees cs)) e in
    λ i. Some (record { 0 = s i })

-- entries that stand for one tree are one
pub entry_one : (cs : List Entry) (e : Entry) (n : ℕ) → IsClosed 0 cs → AreDistinct (built [] cs) → EntryBelow (length cs) e → n < length cs → at (built [] cs) n ≡ tree_of (built [] cs) e → slice_get cs n ≡ Some e
entry_one cs e n k d b l t =
    let f : tree_of (built [] cs) (get_or cs n no_entry) ≡ tree_of (built [] cs) e = sym (at_built cs n no_entry k l) ∙ t in
    let w = below_at cs n no_entry k l in
    let first = child_one cs k d (get_or cs n no_entry).first e.first (ChildBelow_more n (length cs) _ (omega arith) w.first) b.first (ap (side false) f) in
    let second = child_one cs k d (get_or cs n no_entry).second e.second (ChildBelow_more n (length cs) _ (omega arith) w.second) b.second (ap (side true) f) in
    slice_get-get_or cs n no_entry l ∙ (λ i. Some (record { kind = ap kind_of f i; first = first i; second = second i }))

-- an entry that is not there stands for a new tree
pub new_tree : (cs : List Entry) (e : Entry) → IsClosed 0 cs → AreDistinct (built [] cs) → EntryBelow (length cs) e → ((k : ℕ) → slice_get cs k ≢ Some e) → (n : ℕ) → n < length (built [] cs) → at (built [] cs) n ≢ tree_of (built [] cs) e
new_tree cs e k d b none n l t = none n (entry_one cs e n k d b (omega (arith, length_trees cs)) t)

-- an entry that is there stands for its tree
pub there_tree : (cs : List Entry) (e : Entry) (n : ℕ) → IsClosed 0 cs → slice_get cs n ≡ Some e → at (built [] cs) n ≡ tree_of (built [] cs) e
there_tree cs e n k s =
    let l = slice_get_below cs n e s in
    at_built cs n no_entry k l ∙ ap (tree_of (built [] cs)) (get_or_from_slice_get cs n e no_entry s)

pub there_live : (cs : List Entry) (e : Entry) (n : ℕ) → slice_get cs n ≡ Some e → n < length (built [] cs)
there_live cs e n s = omega (arith, length_trees cs, slice_get_below cs n e s)

-- a new tree comes
pub distinct_append : (trees : List KindTree) (t : KindTree) → AreDistinct trees → ((n : ℕ) → n < length trees → at trees n ≢ t) → AreDistinct (trees ++ t ∷ [])
distinct_append trees t d new = record { same = λ m n l k e. go m n (older_or_last m l) (older_or_last n k) e }
  where
    longer : length (trees ++ t ∷ []) ≡ length trees + 1
    longer = length-append trees (t ∷ [])

    older_or_last : (n : ℕ) → n < length (trees ++ t ∷ []) → (n < length trees) ⊎ (n ≡ length trees)
    older_or_last n l = elim (eq-or-lt_of_le (let o : n ≤ length trees = omega (arith, longer) in o)) [ inl e ↦ inr e | inr o ↦ inl o ]

    kept : (n : ℕ) → n < length trees → at (trees ++ t ∷ []) n ≡ at trees n
    kept n l = get_or_append_left trees (t ∷ []) NoTree n l

    last : (n : ℕ) → n ≡ length trees → at (trees ++ t ∷ []) n ≡ t
    last n e = ap (at (trees ++ t ∷ [])) e ∙ get_or-append_seam trees t [] NoTree

    go : (m n : ℕ) → (m < length trees) ⊎ (m ≡ length trees) → (n < length trees) ⊎ (n ≡ length trees) → at (trees ++ t ∷ []) m ≡ at (trees ++ t ∷ []) n → m ≡ n
    go m n (inl l) (inl k) e = d.same m n l k (sym (kept m l) ∙ (e ∙ kept n k))
    go m n (inl l) (inr k) e = absurd (new m l (sym (kept m l) ∙ (e ∙ last n k)))
    go m n (inr l) (inl k) e = absurd (new n k (sym (kept n k) ∙ (sym e ∙ last m l)))
    go m n (inr l) (inr k) e = l ∙ sym k

pub distinct_more : (cs : List Entry) (e : Entry) → AreDistinct (built [] cs) → ((n : ℕ) → n < length (built [] cs) → at (built [] cs) n ≢ tree_of (built [] cs) e) → AreDistinct (built [] (cs ++ e ∷ []))
distinct_more cs e d new = subst AreDistinct (sym (built_append [] cs e)) (distinct_append (built [] cs) (tree_of (built [] cs) e) d new)

-- trees go
pub distinct_take : (cs : List Entry) (n : ℕ) → n ≤ length cs → AreDistinct (built [] cs) → AreDistinct (built [] (take n cs))
distinct_take cs n l d = subst AreDistinct (take_trees cs n) (record { same = λ i j a b e. d.same i j (below i a) (below j b) (sym (get_or-take n trees i NoTree (first i a)) ∙ (e ∙ get_or-take n trees j NoTree (first j b))) })
  where
    trees : List KindTree
    trees = built [] cs

    shorter : length (take n (built [] cs)) ≡ n
    shorter = length-take-le n (built [] cs) (omega (arith, length_trees cs))

    first : (i : ℕ) → i < length (take n (built [] cs)) → i < n
    first i a = omega (arith, shorter)

    below : (i : ℕ) → i < length (take n (built [] cs)) → i < length (built [] cs)
    below i a = omega (arith, shorter, length_trees cs)

pub ruleset node_laws = (built_laws, new_tree, there_tree, there_live, distinct_more, distinct_take, chained_more, chained_take)

pub same_number : (trees : List KindTree) (a b : NodeId) → AreDistinct trees → a.0 < length trees → b.0 < length trees → at trees a.0 ≡ at trees b.0 → a ≡ b
same_number trees a b d l k e = let s = d.same a.0 b.0 l k e in λ i. record { 0 = s i }

pub ruleset same_laws = (length_trees, same_number)
