-- The variables on the right alone.
use Rattle.std.proofs.Common.{◌≡◌, ℕ, Bool, true, false, ◌&&◌, not, ◌==◌, List, ◌⊎◌, inl, inr, refl, ap, subst, eqb-true, eq-eqb}
use Rattle.std.proofs.lemmas.Bool.{both_ways, and_parts, and_from, and_cases}
use Rattle.std.specs.Prelude.{◌↔◌}
use Rattle.std.specs.List.{Contains, list_any}
use Rattle.cv_syntax_trees.specs.declared.head.Head.{Head}
use Rattle.cv_syntax_trees.specs.declared.head.Head.TheVariants.{Leaf, Read}
use Rattle.cv_syntax_trees.specs.Tree.{Tree, Empty, Node, first, second, head_reads_only, reads_only}
use Rattle.cv_meaning.specs.Correspondences.{typed_names, reads, correspondence_of}
use Rattle.cv_meaning_laws.specs.adequacy.Queries.{HeadReads, IsReadIn, IsOnTheRightAlone}
use Rattle.cv_meaning_laws.proofs.adequacy.Lists.{any_has, has_any, filter_has, has_filter, contains_has, has_contains}

abbrev is_other : ℕ → ℕ → Bool
is_other x y = not (y == x)

head_read : (h : Head) (x : ℕ) → head_reads_only (is_other x) h ≡ false → HeadReads h x
head_read (Leaf y) x e = name (y == x) refl e
  where
    name : (b : Bool) → (y == x) ≡ b → not b ≡ false → y ≡ x
    name true k e = eqb-true y x k
    name false k e = absurd (both_ways _ e refl)
head_read (Read y) x e = name (y == x) refl e
  where
    name : (b : Bool) → (y == x) ≡ b → not b ≡ false → y ≡ x
    name true k e = eqb-true y x k
    name false k e = absurd (both_ways _ e refl)
head_read _ x e = both_ways _ e refl

read_head : (h : Head) (x : ℕ) → HeadReads h x → head_reads_only (is_other x) h ≡ true → ⊥
read_head (Leaf y) x k e = both_ways _ (ap not (eq-eqb y x k)) e
read_head (Read y) x k e = both_ways _ (ap not (eq-eqb y x k)) e
read_head _ x k e = k

tree_reads : (m : Tree) (x : ℕ) → reads_only (is_other x) m ≡ false → IsReadIn m x
unfolding reads_only
tree_reads Empty x e = both_ways _ e refl
tree_reads (Node h a b) x e = go (and_cases (head_reads_only (is_other x) h) _ e) (tree_reads a x) (tree_reads b x)
  where
    below : (reads_only (is_other x) a ≡ false) ⊎ (reads_only (is_other x) b ≡ false) → (reads_only (is_other x) a ≡ false → IsReadIn a x) → (reads_only (is_other x) b ≡ false → IsReadIn b x) → IsReadIn (Node h a b) x
    below (inl k) l r = inr (inl (l k))
    below (inr k) l r = inr (inr (r k))

    go : (head_reads_only (is_other x) h ≡ false) ⊎ ((reads_only (is_other x) a && reads_only (is_other x) b) ≡ false) → (reads_only (is_other x) a ≡ false → IsReadIn a x) → (reads_only (is_other x) b ≡ false → IsReadIn b x) → IsReadIn (Node h a b) x
    go (inl k) l r = inl (head_read h x k)
    go (inr k) l r = below (and_cases (reads_only (is_other x) a) _ k) l r

reads_tree : (m : Tree) (x : ℕ) → IsReadIn m x → reads_only (is_other x) m ≡ true → ⊥
unfolding reads_only
reads_tree Empty x h e = h
reads_tree (Node k a b) x (inl h) e = read_head k x h (and_parts (head_reads_only (is_other x) k) _ e).0
reads_tree (Node k a b) x (inr (inl h)) e = reads_tree a x h (and_parts (reads_only (is_other x) a) _ (and_parts (head_reads_only (is_other x) k) _ e).1).0
reads_tree (Node k a b) x (inr (inr h)) e = reads_tree b x h (and_parts (reads_only (is_other x) a) _ (and_parts (head_reads_only (is_other x) k) _ e).1).1

-- the test of what is read, and of what is no argument

read_means : (m : Tree) (x : ℕ) → reads m x ≡ true → IsReadIn m x
read_means m x e = go (reads_only (is_other x) m) refl e
  where
    go : (b : Bool) → reads_only (is_other x) m ≡ b → not b ≡ true → IsReadIn m x
    go true k e = absurd (both_ways _ refl e)
    go false k e = tree_reads m x k

means_read : (m : Tree) (x : ℕ) → IsReadIn m x → reads m x ≡ true
means_read m x h = go (reads_only (is_other x) m) refl
  where
    go : (b : Bool) → reads_only (is_other x) m ≡ b → not b ≡ true
    go true k = absurd (reads_tree m x h k)
    go false k = refl

not_argument : (xs : List ℕ) (x : ℕ) → not (list_any (λ y. y == x) xs) ≡ true → ¬ Contains xs x
not_argument xs x e h = both_ways _ (ap not (has_any (λ y. y == x) xs x (contains_has xs x h) (eq-eqb x x refl))) e

argument_not : (xs : List ℕ) (x : ℕ) → ¬ Contains xs x → not (list_any (λ y. y == x) xs) ≡ true
argument_not xs x h = go (list_any (λ y. y == x) xs) refl
  where
    go : (b : Bool) → list_any (λ y. y == x) xs ≡ b → not b ≡ true
    go true k = let r = any_has (λ y. y == x) xs k in absurd (h (subst (Contains xs) (eqb-true r.0 x r.2) (has_contains xs r.0 r.1)))
    go false k = refl

pub others_mean : (q : Tree) (x : ℕ × ℕ) → Contains (correspondence_of q).others x ↔ IsOnTheRightAlone q x
others_mean q x = (
  λ h. let r = filter_has _ (typed_names (first q)) x (contains_has _ x h) in let p = and_parts (reads (second (second q)) x.0) _ r.1 in
      record { bound = has_contains _ x r.0; is_read = read_means (second (second q)) x.0 p.0; not_left = not_argument (correspondence_of q).variables x.0 p.1 },
  λ h. has_contains _ x (has_filter _ (typed_names (first q)) x (contains_has _ x h.bound)
      (and_from (reads (second (second q)) x.0) _ (means_read (second (second q)) x.0 h.is_read) (argument_not (correspondence_of q).variables x.0 h.not_left))),
)
