-- The variables that the right side of a query reads are arguments of the left event, or stand on the right alone.
use Rattle.std.proofs.Common.{◌≡◌, ℕ, ◌+◌, Bool, true, false, cond, ◌&&◌, ◌||◌, not, ◌==◌, List, [], ◌∷◌, ◌++◌, map, inl, inr, refl, sym, ap, subst, ◌∙◌, eqb-true, eq-eqb}
use Rattle.std.specs.Prelude.{filter}
use Rattle.std.proofs.lemmas.Bool.{and_from, both_ways, not-true}
use Rattle.std.specs.List.{AllByRecursion, list_any}
use Rattle.cv_syntax_trees.proofs.lists.Each.{AllByRecursion_append, AllByRecursion_flat_map}
use Rattle.cv_syntax_trees.specs.declared.head.Head.{Head}
use Rattle.cv_syntax_trees.specs.declared.head.Head.TheVariants.{And, Apply, Binder, Cons, Eq, Leaf, No, Not, Occurs, OccursOnce, Or, Query, Read, SomeOf, Yes}
use Rattle.cv_syntax_trees.specs.Declarations.{Declaration}
use Rattle.cv_syntax_trees.specs.Tree.{Tree, Empty, Node, bound_names, head_reads_only, reads_only}
use Rattle.cv_meaning.specs.Correspondences.{Atom, Correspondence, RightEvent, RightTerm, alternatives_from, atom_count, atom_of, correspondence_from, correspondence_of, each_with, reads, typed_names}
use Rattle.cv_derive_laws.specs.stores.Truth.{AreOver, IsOver, is_name_of}
use Rattle.cv_query_certificates.specs.Claims.{names_of}
use Rattle.cv_query_laws.specs.correspondences.Premises.{is_correspondence}
use Rattle.cv_query.specs.kinds.Closed.{AreClosedAtoms, IsClosedAtom, IsClosedQuery, IsKnown}

-- the same of the atoms of a correspondence, by its own variables

abbrev pub IsNamed : List Declaration → Correspondence → ℕ → Type 0
IsNamed ds q x = IsKnown ds (names_of q) x

abbrev pub IsNamedAtom : List Declaration → Correspondence → Atom → Type 0
IsNamedAtom ds q (RightEvent inj f ms) = AreOver (IsNamed ds q) ⊥ ms
IsNamedAtom ds q (RightTerm m) = IsOver (IsNamed ds q) ⊥ m

abbrev pub AreNamedAtoms : List Declaration → Correspondence → List (ℕ × Atom) → Type 0
AreNamedAtoms ds q atoms = AllByRecursion (λ (c : ℕ × Atom). IsNamedAtom ds q c.1) atoms

-- in each alternative
abbrev pub HasNamedAtoms : List Declaration → Correspondence → Type 0
HasNamedAtoms ds q = AllByRecursion (AreNamedAtoms ds q) q.alternatives

-- what a part reads is read

passed_over : (h a b : Bool) → a ≡ false → not (h && (a && b)) ≡ true
passed_over true a b e = ap (λ c. not (c && b)) e
passed_over false a b e = refl

passed_behind : (h a b : Bool) → b ≡ false → not (h && (a && b)) ≡ true
passed_behind true true b e = ap not e
passed_behind true false b e = refl
passed_behind false a b e = refl

module _ (x : ℕ) where
  abbrev on : ℕ → Bool
  on y = not (y == x)

  reads_first : (h : Head) (a b : Tree) → reads a x ≡ true → reads (Node h a b) x ≡ true
  unfolding reads_only
  reads_first h a b e = passed_over (head_reads_only on h) (reads_only on a) (reads_only on b) (not-true _ e)

  reads_second : (h : Head) (a b : Tree) → reads b x ≡ true → reads (Node h a b) x ≡ true
  unfolding reads_only
  reads_second h a b e = passed_behind (head_reads_only on h) (reads_only on a) (reads_only on b) (not-true _ e)

reads_leaf : (x : ℕ) (a b : Tree) → reads (Node (Leaf x) a b) x ≡ true
unfolding reads_only
reads_leaf x a b = ap (λ c. not (not c && (reads_only (on x) a && reads_only (on x) b))) (eq-eqb x x refl)

module _ (L K : ℕ → Type 0) where
  mutual
    weaker : (t : Tree) → ((x : ℕ) → reads t x ≡ true → L x → K x) → IsOver L ⊥ t → IsOver K ⊥ t
    weaker Empty f o = absurd o
    weaker (Node (Leaf x) a b) f o = f x (reads_leaf x a b) o
    weaker (Node (Read x) a b) f o = absurd o.0
    weaker (Node (Apply k) a b) f o = all_weaker a (λ x r. f x (reads_first x (Apply k) a b r)) o
    weaker (Node Eq a b) f o = (weaker a (λ x r. f x (reads_first x Eq a b r)) o.0, weaker b (λ x r. f x (reads_second x Eq a b r)) o.1)
    weaker (Node And a b) f o = (weaker a (λ x r. f x (reads_first x And a b r)) o.0, weaker b (λ x r. f x (reads_second x And a b r)) o.1)
    weaker (Node Or a b) f o = (weaker a (λ x r. f x (reads_first x Or a b r)) o.0, weaker b (λ x r. f x (reads_second x Or a b r)) o.1)
    weaker (Node Not a b) f o = weaker a (λ x r. f x (reads_first x Not a b r)) o
    weaker (Node Yes a b) f o = tt
    weaker (Node No a b) f o = tt
    weaker (Node h a b) f o = absurd o

    all_weaker : (t : Tree) → ((x : ℕ) → reads t x ≡ true → L x → K x) → AreOver L ⊥ t → AreOver K ⊥ t
    all_weaker Empty f o = tt
    all_weaker (Node Cons a b) f o = (weaker a (λ x r. f x (reads_first x Cons a b r)) o.0, all_weaker b (λ x r. f x (reads_second x Cons a b r)) o.1)
    all_weaker (Node h a b) f o = absurd o

-- names

name_left : (xs ys : List ℕ) (x : ℕ) → is_name_of xs x ≡ true → is_name_of (xs ++ ys) x ≡ true
name_left [] ys x e = absurd (both_ways _ refl e)
name_left (z ∷ xs) ys x e = go (z == x) e (name_left xs ys x)
  where
    go : (b : Bool) → (b || is_name_of xs x) ≡ true → (is_name_of xs x ≡ true → is_name_of (xs ++ ys) x ≡ true) → (b || is_name_of (xs ++ ys) x) ≡ true
    go true e k = refl
    go false e k = k e

name_right : (xs ys : List ℕ) (x : ℕ) → is_name_of ys x ≡ true → is_name_of (xs ++ ys) x ≡ true
name_right [] ys x e = e
name_right (z ∷ xs) ys x e = go (z == x) (name_right xs ys x e)
  where
    go : (b : Bool) → is_name_of (xs ++ ys) x ≡ true → (b || is_name_of (xs ++ ys) x) ≡ true
    go true k = refl
    go false k = k

filtered : (p : ℕ × ℕ → Bool) (x : ℕ) → ((T : ℕ) → p (x, T) ≡ true) → (bs : Tree) → is_name_of (bound_names bs) x ≡ true → is_name_of (map (λ (b : ℕ × ℕ). b.0) (filter p (typed_names bs))) x ≡ true
filtered p x f Empty e = absurd (both_ways _ refl e)
filtered p x f (Node (Binder y T) a b) e = go (y == x) refl e (filtered p x f b)
  where
    rest : List (ℕ × ℕ)
    rest = filter p (typed_names b)

    go : (c : Bool) → (y == x) ≡ c → (c || is_name_of (bound_names b) x) ≡ true → (is_name_of (bound_names b) x ≡ true → is_name_of (map (λ (b : ℕ × ℕ). b.0) rest) x ≡ true) → is_name_of (map (λ (b : ℕ × ℕ). b.0) (cond (p (y, T)) ((y, T) ∷ rest) rest)) x ≡ true
    go true k e ih =
        let kept : p (y, T) ≡ true = ap (λ z. p (z, T)) (eqb-true y x k) ∙ f T in
        subst (λ c. is_name_of (map (λ (b : ℕ × ℕ). b.0) (cond c ((y, T) ∷ rest) rest)) x ≡ true) (sym kept) (ap (λ c. c || is_name_of (map (λ (b : ℕ × ℕ). b.0) rest) x) k)
    go false k e ih = either (p (y, T)) (ih e)
      where
        or_right : (c d : Bool) → d ≡ true → (c || d) ≡ true
        or_right true d e = refl
        or_right false d e = e

        either : (c : Bool) → is_name_of (map (λ (b : ℕ × ℕ). b.0) rest) x ≡ true → is_name_of (map (λ (b : ℕ × ℕ). b.0) (cond c ((y, T) ∷ rest) rest)) x ≡ true
        either true i = or_right (y == x) _ i
        either false i = i
filtered p x f (Node h a b) e = absurd (both_ways _ refl e)

read_named : (bs left atoms : Tree) (x : ℕ) → reads atoms x ≡ true → is_name_of (bound_names bs) x ≡ true → is_name_of (names_of (correspondence_from bs left atoms)) x ≡ true
read_named bs left atoms x r e = go (is_name_of q.variables x) refl
  where
    q : Correspondence
    q = correspondence_from bs left atoms

    go : (b : Bool) → is_name_of q.variables x ≡ b → is_name_of (names_of (correspondence_from bs left atoms)) x ≡ true
    go true k = name_left q.variables _ x k
    go false k =
        name_right q.variables _ x
        (filtered (λ (b : ℕ × ℕ). reads atoms b.0 && not (list_any (λ y. y == b.0) q.variables)) x (λ T. and_from (reads atoms x) _ r (ap not k)) bs e)

module _ (ds : List Declaration) (bs left whole : Tree) where
  abbrev q : Correspondence
  q = correspondence_from bs left whole

  abbrev L : ℕ → Type 0
  L x = IsKnown ds (bound_names bs) x

  known : (x : ℕ) → reads whole x ≡ true → L x → IsNamed ds q x
  known x r (inl e) = inl (read_named bs left whole x r e)
  known x r (inr e) = inr e

  -- each of some alternatives, with each of others behind it
  each_named : (xs ys : List (List (ℕ × Atom))) → AllByRecursion (AreNamedAtoms ds q) xs → AllByRecursion (AreNamedAtoms ds q) ys → AllByRecursion (AreNamedAtoms ds q) (each_with xs ys)
  each_named xs ys a b = AllByRecursion_flat_map (AreNamedAtoms ds q) (AreNamedAtoms ds q) (λ x. map (λ y. x ++ y) ys) (λ x o. put_behind x o ys b) xs a
    where
      put_behind : (x : List (ℕ × Atom)) → AreNamedAtoms ds q x → (ys : List (List (ℕ × Atom))) → AllByRecursion (AreNamedAtoms ds q) ys → AllByRecursion (AreNamedAtoms ds q) (map (λ y. x ++ y) ys)
      put_behind x o [] b = tt
      put_behind x o (y ∷ ys) b = (AllByRecursion_append (λ (c : ℕ × Atom). IsNamedAtom ds q c.1) x y o b.0, put_behind x o ys b.1)

  atom_named : (m : Tree) → ((x : ℕ) → reads m x ≡ true → reads whole x ≡ true) → IsClosedAtom L m → IsNamedAtom ds q (atom_of m)
  atom_named Empty f o = absurd o
  atom_named (Node (Occurs e) ms b) f o = all_weaker L (IsNamed ds q) ms (λ x r. known x (f x (reads_first x (Occurs e) ms b r))) o
  atom_named (Node (OccursOnce e) ms b) f o = all_weaker L (IsNamed ds q) ms (λ x r. known x (f x (reads_first x (OccursOnce e) ms b r))) o
  atom_named (Node h a b) f o = weaker L (IsNamed ds q) (Node h a b) (λ x r. known x (f x r)) o

  alternatives_named : (n : ℕ) (right : Tree) → ((x : ℕ) → reads right x ≡ true → reads whole x ≡ true) → AreClosedAtoms L right → AllByRecursion (AreNamedAtoms ds q) (alternatives_from n right)
  alternatives_named n Empty f o = (tt, tt)
  alternatives_named n (Node Cons a b) f o =
      each_named (alternatives_from n a) (alternatives_from (n + atom_count a) b) (alternatives_named n a (λ x r. f x (reads_first x Cons a b r)) o.0) (alternatives_named (n + atom_count a) b (λ x r. f x (reads_second x Cons a b r)) o.1)
  alternatives_named n (Node SomeOf a b) f o =
      AllByRecursion_append (AreNamedAtoms ds q) (alternatives_from n a) (alternatives_from (n + atom_count a) b) (alternatives_named n a (λ x r. f x (reads_first x SomeOf a b r)) o.0)
      (alternatives_named (n + atom_count a) b (λ x r. f x (reads_second x SomeOf a b r)) o.1)
  alternatives_named n (Node h a b) f o = ((atom_named (Node h a b) f o, tt), tt)

pub closed_named : (ds : List Declaration) (query : Tree) → is_correspondence query ≡ true → IsClosedQuery ds query → HasNamedAtoms ds (correspondence_of query)
closed_named ds (Node Query bs (Node h left right)) b o = alternatives_named ds bs left right 1 right (λ x r. r) o
closed_named ds (Node Query bs Empty) b o = (tt, tt)
closed_named ds query b o = absurd (both_ways _ refl b)
