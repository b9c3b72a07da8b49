-- The alternatives of a right side, part by part.
use Rattle.std.proofs.Common.{◌≡◌, ◌⊎◌, inl, inr, ℕ, zero, suc, ◌+◌, ◌<◌, ◌≤◌, All, List, [], ◌∷◌, ◌++◌, get_or, length, map, take, refl, sym, ap, ap₂, ◌∙◌, Option, Some, None, append_assoc, append-nil, arith, subst, ◌-◌, Bor, IfSome}
use Rattle.std.specs.Prelude.{option_map, slice_get}
use Rattle.std.specs.declared.alloc.Global.{Global}
use Rattle.std.specs.declared.vec.Vec.{Vec}
use Rattle.std.proofs.lemmas.List.{length-map, map-append, map_more, take_all}
use Rattle.std.proofs.lemmas.List.Concat.{flat_map-append}
use Rattle.std.proofs.lemmas.List.Elements.{All-append, All-cons, All-head, All-nil, All-same, All-tail}
use Rattle.std.proofs.lemmas.Option.{slice_get-map}
use Rattle.cv_pool.specs.KindTree.{KindTree}
use Rattle.cv_pool.specs.Nodes.{ChildBelow}
use Rattle.cv_syntax_trees.specs.declared.head.Head.{Head}
use Rattle.cv_syntax_trees.specs.declared.head.Head.TheVariants.{Cons, SomeOf}
use Rattle.cv_syntax_trees.specs.Tree.{Tree, Empty, Node}
use Rattle.cv_meaning.specs.Correspondences.{Atom, alternatives_from, atom_count, atom_of}
use Rattle.cv_scene.specs.Sights.{from_one}
use Rattle.cv_query_certificates.specs.Alternatives.{chosen_by}
use Rattle.cv_query_parts.specs.Alternatives.{AreAtomsBelow, atoms_seen, each_with, lists, numbered_seen}
use Rattle.cv_query_parts.specs.declared.alternatives.NumberedAtom.{NumberedAtom}

-- each with each of the others

module _ {A : Type 0} where
  behind_all : (xs ys zs : List (List A)) → each_with (xs ++ ys) zs ≡ each_with xs zs ++ each_with ys zs
  behind_all xs ys zs = flat_map-append (λ x. map (λ y. x ++ y) zs) xs ys

  behind_one : (x : List A) (ys zs : List (List A)) → map (λ w. x ++ w) (each_with ys zs) ≡ each_with (map (λ y. x ++ y) ys) zs
  behind_one x [] zs = refl
  behind_one x (y ∷ ys) zs =
      map-append (λ w. x ++ w) (map (λ z. y ++ z) zs) (each_with ys zs)
      ∙ ap₂ ◌++◌ (further zs) (behind_one x ys zs)
    where
      further : (zs : List (List A)) → map (λ w. x ++ w) (map (λ z. y ++ z) zs) ≡ map (λ z. (x ++ y) ++ z) zs
      further [] = refl
      further (z ∷ zs) = ap₂ ◌∷◌ (sym (append_assoc x y z)) (further zs)

  pub each_associates : (xs ys zs : List (List A)) → each_with (each_with xs ys) zs ≡ each_with xs (each_with ys zs)
  each_associates [] ys zs = refl
  each_associates (x ∷ xs) ys zs =
      behind_all (map (λ y. x ++ y) ys) (each_with xs ys) zs
      ∙ ap₂ ◌++◌ (sym (behind_one x ys zs)) (each_associates xs ys zs)

  pub each_first : (ys : List (List A)) → each_with ([] ∷ []) ys ≡ ys
  each_first ys = append-nil (map (λ y. [] ++ y) ys) ∙ same ys
    where
      same : (ys : List (List A)) → map (λ y. [] ++ y) ys ≡ ys
      same [] = refl
      same (y ∷ ys) = ap (λ l. y ∷ l) (same ys)

  pub each_last : (xs : List (List A)) → each_with xs ([] ∷ []) ≡ xs
  each_last [] = refl
  each_last (x ∷ xs) = ap₂ (λ y l. y ∷ l) (append-nil x) (each_last xs)

  pub each_push : (xs : List (List A)) (x : List A) (ys : List (List A)) → each_with (xs ++ x ∷ []) ys ≡ each_with xs ys ++ map (λ y. x ++ y) ys
  each_push xs x ys = behind_all xs (x ∷ []) ys ∙ ap (λ l. each_with xs ys ++ l) (append-nil (map (λ y. x ++ y) ys))

-- as they are seen

module _ {A B : Type 0} (f : A → B) where
  seen_behind : (x : List A) (ys : List (List A)) → map (map f) (map (λ y. x ++ y) ys) ≡ map (λ y. map f x ++ y) (map (map f) ys)
  seen_behind x [] = refl
  seen_behind x (y ∷ ys) = ap₂ ◌∷◌ (map-append f x y) (seen_behind x ys)

  pub seen_each : (xs ys : List (List A)) → map (map f) (each_with xs ys) ≡ each_with (map (map f) xs) (map (map f) ys)
  seen_each [] ys = refl
  seen_each (x ∷ xs) ys = map-append (map f) (map (λ y. x ++ y) ys) (each_with xs ys) ∙ ap₂ ◌++◌ (seen_behind x ys) (seen_each xs ys)

module _ (n : ℕ) where
  below_behind : (x : List NumberedAtom) (ys : List (List NumberedAtom)) → AreAtomsBelow n x → All (AreAtomsBelow n) ys → All (AreAtomsBelow n) (map (λ y. x ++ y) ys)
  below_behind x [] a b = All-nil (AreAtomsBelow n)
  below_behind x (y ∷ ys) a b =
      All-cons (AreAtomsBelow n) (x ++ y) (map (λ y. x ++ y) ys) (All-append (λ (z : NumberedAtom). ChildBelow n z.atom) x y a (All-head (AreAtomsBelow n) y ys b))
      (below_behind x ys a (All-tail (AreAtomsBelow n) y ys b))

  pub below_each : (xs ys : List (List NumberedAtom)) → All (AreAtomsBelow n) xs → All (AreAtomsBelow n) ys → All (AreAtomsBelow n) (each_with xs ys)
  below_each [] ys a b = All-nil (AreAtomsBelow n)
  below_each (x ∷ xs) ys a b =
      All-append (AreAtomsBelow n) (map (λ y. x ++ y) ys) (each_with xs ys) (below_behind x ys (All-head (AreAtomsBelow n) x xs a) b)
      (below_each xs ys (All-tail (AreAtomsBelow n) x xs a) b)

-- lists that are made one by one

pub each_made : (xs : List (Vec NumberedAtom Global)) (k : ℕ) (d : Vec NumberedAtom Global) → k < length xs → (ys done new : List (List NumberedAtom)) (x : List NumberedAtom) → x ≡ (get_or xs k d).items → done ≡ each_with (lists (take k xs)) ys → new ≡ done ++ map (λ y. x ++ y) ys → new ≡ each_with (lists (take (k + 1) xs)) ys
each_made xs k d l ys done new x i e n =
    n
    ∙ (ap₂ (λ a z. a ++ map (λ y. z ++ y) ys) e i
    ∙ (sym (each_push (lists (take k xs)) (get_or xs k d).items ys) ∙ ap (λ a. each_with a ys) (sym (map_more (λ (atoms : Vec NumberedAtom Global). atoms.items) xs k d l))))

behind_lists : (first : List NumberedAtom) (xs : List (Vec NumberedAtom Global)) → map (λ (v : Vec NumberedAtom Global). first ++ v.items) xs ≡ map (λ y. first ++ y) (lists xs)
behind_lists first [] = refl
behind_lists first (x ∷ xs) = ap (λ l. (first ++ x.items) ∷ l) (behind_lists first xs)

pub all_added : (first : List NumberedAtom) (xs : List (Vec NumberedAtom Global)) (k : ℕ) → length xs ≤ k → (start done : List (List NumberedAtom)) → done ≡ start ++ map (λ (v : Vec NumberedAtom Global). first ++ v.items) (take k xs) → done ≡ start ++ map (λ y. first ++ y) (lists xs)
all_added first xs k l start done e = e ∙ ap (λ a. start ++ a) (ap (map (λ (v : Vec NumberedAtom Global). first ++ v.items)) (take_all k xs l) ∙ behind_lists first xs)

-- a right side, part by part

module _ (trees : List KindTree) (n : ℕ) (t : Tree) (found : List (List NumberedAtom)) (total : List (List (ℕ × Atom))) (i : each_with (map (atoms_seen trees) found) (alternatives_from n t) ≡ total) where
  pub parts_end : t ≡ Empty → map (atoms_seen trees) found ≡ total
  parts_end e = sym (each_last (map (atoms_seen trees) found)) ∙ (ap (λ u. each_with (map (atoms_seen trees) found) (alternatives_from n u)) (sym e) ∙ i)

  pub atom_last : (h : Head) (a b : Tree) → t ≡ Node h a b → (h ≡ Cons → ⊥) → (h ≡ SomeOf → ⊥) → (x : NumberedAtom) → numbered_seen trees x ≡ (n, atom_of t) → (new : List (List NumberedAtom)) → new ≡ each_with found ((x ∷ []) ∷ []) → map (atoms_seen trees) new ≡ total
  atom_last h a b e c d x f new g =
      ap (map (atoms_seen trees)) g
      ∙ (seen_each (numbered_seen trees) found ((x ∷ []) ∷ [])
      ∙ (ap (λ y. each_with (map (atoms_seen trees) found) ((y ∷ []) ∷ [])) f
      ∙ (ap (each_with (map (atoms_seen trees) found)) (ap (λ u. ((n, atom_of u) ∷ []) ∷ []) e ∙ (alone h c d ∙ ap (alternatives_from n) (sym e))) ∙ i)))
    where
      alone : (h : Head) → (h ≡ Cons → ⊥) → (h ≡ SomeOf → ⊥) → ((n, atom_of (Node h a b)) ∷ []) ∷ [] ≡ alternatives_from n (Node h a b)
      alone Cons c d = absurd (c refl)
      alone SomeOf c d = absurd (d refl)
      alone h c d = refl

  module _ (a b : Tree) where
    pub part_more : t ≡ Node Cons a b → (one : List (List NumberedAtom)) → map (atoms_seen trees) one ≡ alternatives_from n a → (m : ℕ) → m ≡ n + atom_count a → (new : List (List NumberedAtom)) → new ≡ each_with found one → each_with (map (atoms_seen trees) new) (alternatives_from m b) ≡ total
    part_more e one f m g new j =
        let F = map (atoms_seen trees) found in
        ap₂ (λ l k. each_with l (alternatives_from k b)) (ap (map (atoms_seen trees)) j ∙ (seen_each (numbered_seen trees) found one ∙ ap (each_with F) f)) g
        ∙ (each_associates F (alternatives_from n a) (alternatives_from (n + atom_count a) b) ∙ (ap (λ u. each_with F (alternatives_from n u)) (sym e) ∙ i))

    pub either : t ≡ Node SomeOf a b → (one other : List (List NumberedAtom)) → map (atoms_seen trees) one ≡ alternatives_from n a → (m : ℕ) → m ≡ n + atom_count a → map (atoms_seen trees) other ≡ alternatives_from m b → (new : List (List NumberedAtom)) → new ≡ each_with found (one ++ other) → map (atoms_seen trees) new ≡ total
    either e one other f m g h new j =
        let F = map (atoms_seen trees) found in
        ap (map (atoms_seen trees)) j
        ∙ (seen_each (numbered_seen trees) found (one ++ other)
        ∙ (ap (each_with F) (map-append (atoms_seen trees) one other ∙ ap₂ ◌++◌ f (h ∙ ap (λ k. alternatives_from k b) g))
        ∙ (ap (λ u. each_with F (alternatives_from n u)) (sym e) ∙ i)))

-- how many atoms there are

pub count_parts : (n : ℕ) (t : Tree) (h : Head) (a b : Tree) → t ≡ Node h a b → (h ≡ Cons) ⊎ (h ≡ SomeOf) → n + atom_count t ≡ (n + atom_count a) + atom_count b
count_parts n t h a b e (inl f) = let g : atom_count t ≡ atom_count a + atom_count b = ap atom_count e ∙ ap (λ k. atom_count (Node k a b)) f in omega (arith, g)
count_parts n t h a b e (inr f) = let g : atom_count t ≡ atom_count a + atom_count b = ap atom_count e ∙ ap (λ k. atom_count (Node k a b)) f in omega (arith, g)

pub count_atom : (t : Tree) (h : Head) (a b : Tree) → t ≡ Node h a b → (h ≡ Cons → ⊥) → (h ≡ SomeOf → ⊥) → atom_count t ≡ 1
count_atom t h a b e c d = ap atom_count e ∙ alone h c d
  where
    alone : (h : Head) → (h ≡ Cons → ⊥) → (h ≡ SomeOf → ⊥) → atom_count (Node h a b) ≡ 1
    alone Cons c d = absurd (c refl)
    alone SomeOf c d = absurd (d refl)
    alone h c d = refl

-- the alternative that is chosen

seen_at : (trees : List KindTree) (xs : List (List NumberedAtom)) (n : ℕ) (o : Option (Bor (List NumberedAtom))) → option_map (λ (x : Bor (List NumberedAtom)). x.now) o ≡ from_one xs n → option_map (λ (x : Bor (List NumberedAtom)). atoms_seen trees x.now) o ≡ from_one (map (atoms_seen trees) xs) n
seen_at trees xs n o e = inside o ∙ (ap (option_map (atoms_seen trees)) e ∙ go n)
  where
    inside : (o : Option (Bor (List NumberedAtom))) → option_map (λ (x : Bor (List NumberedAtom)). atoms_seen trees x.now) o ≡ option_map (atoms_seen trees) (option_map (λ (x : Bor (List NumberedAtom)). x.now) o)
    inside None = refl
    inside (Some x) = refl

    go : (n : ℕ) → option_map (atoms_seen trees) (from_one xs n) ≡ from_one (map (atoms_seen trees) xs) n
    go zero = refl
    go (suc n) = sym (slice_get-map (atoms_seen trees) xs n)

-- by the number of alternatives

module _ (trees : List KindTree) where
  abbrev seen : List (List NumberedAtom) → List (List (ℕ × Atom))
  seen xs = map (atoms_seen trees) xs

  pub only_one : (xs : List (List NumberedAtom)) → length xs ≡ 1 → (o : Option (Bor (List NumberedAtom))) → option_map (λ (x : Bor (List NumberedAtom)). x.now) o ≡ from_one xs 1 → option_map (λ (x : Bor (List NumberedAtom)). atoms_seen trees x.now) o ≡ chosen_by (seen xs) None
  only_one [] e o f = absurd (omega (arith, e))
  only_one (x ∷ []) e o f = seen_at trees (x ∷ []) 1 o f
  only_one (x ∷ (y ∷ ys)) e o f = absurd (omega (arith, e))

  pub one_named : (xs : List (List NumberedAtom)) (n : ℕ) → length xs ≡ 1 → None ≡ chosen_by (seen xs) (Some n)
  one_named [] n e = absurd (omega (arith, e))
  one_named (x ∷ []) n e = refl
  one_named (x ∷ (y ∷ ys)) n e = absurd (omega (arith, e))

  pub none_named : (xs : List (List NumberedAtom)) → (length xs ≡ 1 → ⊥) → None ≡ chosen_by (seen xs) None
  none_named [] e = refl
  none_named (x ∷ []) e = absurd (e refl)
  none_named (x ∷ (y ∷ ys)) e = refl

  pub some_named : (xs : List (List NumberedAtom)) (n : ℕ) → (length xs ≡ 1 → ⊥) → (o : Option (Bor (List NumberedAtom))) → option_map (λ (x : Bor (List NumberedAtom)). x.now) o ≡ from_one xs n → option_map (λ (x : Bor (List NumberedAtom)). atoms_seen trees x.now) o ≡ chosen_by (seen xs) (Some n)
  some_named [] n e o f = seen_at trees [] n o f
  some_named (x ∷ []) n e o f = absurd (e refl)
  some_named (x ∷ (y ∷ ys)) n e o f = seen_at trees (x ∷ (y ∷ ys)) n o f

pub count_lists : (xs : List (Vec NumberedAtom Global)) → length (lists xs) ≡ length xs
count_lists xs = length-map xs (λ (v : Vec NumberedAtom Global). v.items)

pub live_at : (n : ℕ) (xs : List (List NumberedAtom)) (k : ℕ) (o : Option (Bor (List NumberedAtom))) → option_map (λ (x : Bor (List NumberedAtom)). x.now) o ≡ from_one xs k → All (AreAtomsBelow n) xs → IfSome o (λ (x : Bor (List NumberedAtom)). AreAtomsBelow n x.now)
live_at n xs k None e a = tt
live_at n xs k (Some x) e a = go xs k (sym e) a
  where
    at : (xs : List (List NumberedAtom)) (k : ℕ) → slice_get xs k ≡ Some x.now → All (AreAtomsBelow n) xs → AreAtomsBelow n x.now
    at [] k f a = absurd (let z : ◌≡◌ {A = Option (List NumberedAtom)} None (Some x.now) = f in cc)
    at (y ∷ ys) zero f a = let g : y ≡ x.now = cc in subst (AreAtomsBelow n) g (All-head (AreAtomsBelow n) y ys a)
    at (y ∷ ys) (suc k) f a = at ys k f (All-tail (AreAtomsBelow n) y ys a)

    go : (xs : List (List NumberedAtom)) (k : ℕ) → from_one xs k ≡ Some x.now → All (AreAtomsBelow n) xs → AreAtomsBelow n x.now
    go xs zero f a = absurd (let z : ◌≡◌ {A = Option (List NumberedAtom)} None (Some x.now) = f in cc)
    go xs (suc k) f a = at xs k f a

pub none_live : (n : ℕ) → All (AreAtomsBelow n) ([] ∷ [])
none_live n = All-cons (AreAtomsBelow n) [] [] (All-nil (λ (x : NumberedAtom). ChildBelow n x.atom)) (All-nil (AreAtomsBelow n))

pub one_live : (n : ℕ) (x : NumberedAtom) → ChildBelow n x.atom → All (AreAtomsBelow n) ((x ∷ []) ∷ [])
one_live n x l =
    let Is = λ (y : NumberedAtom). ChildBelow n y.atom in
    All-cons (AreAtomsBelow n) (x ∷ []) [] (All-cons Is x [] l (All-nil Is)) (All-nil (AreAtomsBelow n))

pub same_live : (n : ℕ) (xs ys : List (List NumberedAtom)) → xs ≡ ys → All (AreAtomsBelow n) ys → All (AreAtomsBelow n) xs
same_live n xs ys e a = All-same (AreAtomsBelow n) xs ys e a

got : (xs : List (Vec NumberedAtom Global)) (k : ℕ) (v : Vec NumberedAtom Global) → k < length xs → slice_get (lists xs) k ≡ Some (get_or xs k v).items
got [] k v l = absurd (omega (arith, l))
got (x ∷ xs) zero v l = refl
got (x ∷ xs) (suc k) v l = got xs k v (omega (arith, l))

lacking : (xs : List (Vec NumberedAtom Global)) (k : ℕ) → length xs ≤ k → slice_get (lists xs) k ≡ None
lacking [] k l = refl
lacking (x ∷ xs) zero l = absurd (omega (arith, l))
lacking (x ∷ xs) (suc k) l = lacking xs k (omega (arith, l))

pub found_at : (xs : List (Vec NumberedAtom Global)) (n : ℕ) (v : Vec NumberedAtom Global) → (n ≡ 0 → ⊥) → n - 1 < length xs → v ≡ get_or xs (n - 1) v → (x : List NumberedAtom) → x ≡ v.items → Some x ≡ from_one (lists xs) n
found_at xs zero v z l e x f = absurd (z refl)
found_at xs (suc m) v z l e x f =
    let same : suc m - 1 ≡ m = omega arith in
    ap Some (f ∙ ap (λ (v : Vec NumberedAtom Global). v.items) (e ∙ ap (λ k. get_or xs k v) same)) ∙ sym (got xs m v (omega (arith, l)))

pub none_at : (xs : List (Vec NumberedAtom Global)) (n : ℕ) → (n ≡ 0 → ⊥) → length xs ≤ n - 1 → None ≡ from_one (lists xs) n
none_at xs zero z l = absurd (z refl)
none_at xs (suc m) z l = sym (lacking xs m (omega (arith, l)))
