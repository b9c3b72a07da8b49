-- The entries of a certificate by the places of the left event, and the pairs that are needed of two of them.
use Rattle.std.proofs.Common.{◌≡◌, ℕ, zero, suc, ◌+◌, ◌<◌, ◌≤◌, Bool, true, false, cond, ◌&&◌, ◌==◌, List, [], ◌∷◌, ◌++◌, inl, inr, Some, refl, sym, subst, arith, eqb-true, eq-eqb}
use Rattle.std.specs.Prelude.{flat_map, map}
use Rattle.std.proofs.lemmas.Bool.{and_from, and_parts, both_ways}
use Rattle.cv_syntax_trees.specs.declared.head.Head.{Head}
use Rattle.cv_syntax_trees.specs.declared.head.Head.TheVariants.{AtEntry, Event, NeverEntry, Number, WithEntry}
use Rattle.cv_syntax_trees.specs.Head.{weight}
use Rattle.cv_syntax_trees.specs.Tree.{Tree, Empty, Node, first_place, second_place, size}
use Rattle.cv_meaning.specs.Correspondences.{Atom, Correspondence, RightEvent}
use Rattle.cv_meaning_laws.specs.adequacy.Broken.{StandsAt}
use Rattle.cv_scene.specs.Scenes.{Scene}
use Rattle.cv_scene.specs.Terms.{replications_at}
use Rattle.cv_scene.specs.Pairs.{of_second}
use Rattle.cv_syntax_trees.proofs.lists.Options.{none_some, some_injective}
use Rattle.cv_query_certificates.specs.Accepted.{AreEntries, IsEntry}
use Rattle.cv_query_certificates.specs.EventNodes.{event_places, is_event_head, place_in}
use Rattle.cv_query_certificates.specs.Forms.{is_number}
use Rattle.cv_query_certificates.specs.Pairs.{End, Needed, end_of, ends_in, ends_of_choice, equations_between, injective_ends, is_injective, needed_among, needed_at, needed_for, needed_from, numbered_end}
use Rattle.cv_query_laws.specs.routes.Ends.{choice_of, item_at}
use Rattle.cv_query_laws.proofs.correspondences.Behind.{IsAmong, among_left, among_right}

-- the places of an event's nodes ascend

abbrev Ascends : (from : ℕ) → List ℕ → (to : ℕ) → Type 0
Ascends b [] e = b ≤ e
Ascends b (x ∷ xs) e = (b ≤ x) × Ascends (suc x) xs e

ascends_from : (a b : ℕ) (xs : List ℕ) (e : ℕ) → a ≤ b → Ascends b xs e → Ascends a xs e
ascends_from a b [] e l h = let m : b ≤ e = h in omega arith
ascends_from a b (x ∷ xs) e l h = let m : b ≤ x = h.0 in (omega arith, h.1)

ascends_append : (b : ℕ) (xs : List ℕ) (m : ℕ) (ys : List ℕ) (e : ℕ) → Ascends b xs m → Ascends m ys e → Ascends b (xs ++ ys) e
ascends_append b [] m ys e h k = ascends_from b m ys e h k
ascends_append b (x ∷ xs) m ys e h k = (h.0, ascends_append (suc x) xs m ys e h.1 k)

head_ascends : (f : ℕ) (h : Head) (base : ℕ) → Ascends base (cond (is_event_head f h) (base ∷ []) []) (base + weight h)
head_ascends f (Event e) base = go (e == f)
  where
    go : (u : Bool) → Ascends base (cond u (base ∷ []) []) (base + 1)
    go true = (omega arith, omega arith)
    go false = omega arith
head_ascends f h base = omega arith

places_ascend : (f base : ℕ) (t : Tree) → Ascends base (event_places f base t) (base + size t)
unfolding event_places size
places_ascend f base Empty = omega arith
places_ascend f base (Node h a b) =
    let e : base + weight h + size a + size b ≡ base + (weight h + size a + size b) = omega arith in
    subst (Ascends base (event_places f base (Node h a b))) e
    (ascends_append base (cond (is_event_head f h) (base ∷ []) []) (base + weight h) _ (base + weight h + size a + size b) (head_ascends f h base)
    (ascends_append (base + weight h) (event_places f (first_place base h) a) (base + weight h + size a) (event_places f (second_place base h a) b) (base + weight h + size a + size b)
    (places_ascend f (first_place base h) a) (places_ascend f (second_place base h a) b)))

pub game_ascends : (f : ℕ) (game : Tree) → Ascends 0 (event_places f 0 game) (size game)
game_ascends f game = let e : 0 + size game ≡ size game = omega arith in subst (Ascends 0 (event_places f 0 game)) e (places_ascend f 0 game)

-- what stands in such a list is not below its start
among_above : (b : ℕ) (xs : List ℕ) (e p : ℕ) → Ascends b xs e → IsAmong p xs → b ≤ p
among_above b [] e p h i = absurd i
among_above b (x ∷ xs) e p h (inl k) = let l : b ≤ x = h.0 in omega (arith, k)
among_above b (x ∷ xs) e p h (inr i) = let l : b ≤ x = h.0 in let m : suc x ≤ p = among_above (suc x) xs e p h.1 i in omega arith

among_same : {A : Type 0} (x y : A) (xs : List A) → x ≡ y → IsAmong x xs → IsAmong y xs
among_same x y xs e i = subst (λ z. IsAmong z xs) e i

among_flat : {A B : Type 0} (f : A → List B) (x : A) (y : B) (xs : List A) → IsAmong x xs → IsAmong y (f x) → IsAmong y (flat_map f xs)
among_flat f x y [] i j = absurd i
among_flat f x y (z ∷ xs) (inl e) j = among_left y (f z) (flat_map f xs) (subst (λ w. IsAmong y (f w)) e j)
among_flat f x y (z ∷ xs) (inr i) j = among_right y (f z) (flat_map f xs) (among_flat f x y xs i j)

-- the entry for a place

abbrev pub entry_at : List ℕ → (parts : Tree) → ℕ → Tree
entry_at [] parts p = Empty
entry_at (k ∷ ps) Empty p = Empty
entry_at (k ∷ ps) (Node h entry more) p = cond (k == p) entry (entry_at ps more p)

-- an entry with routes, which says its place
pub record IsRouted (entry : Tree) (p : ℕ) : Type 0 where
  pub number : Tree
  pub witnesses : Tree
  pub is : entry ≡ Node AtEntry number (Node WithEntry witnesses (choice_of entry))
  pub there : place_in number ≡ p

number_place : (p : ℕ) (n : Tree) → is_number p n ≡ true → place_in n ≡ p
number_place p (Node (Number v) a b) e = eqb-true v p e
number_place p n e = absurd (both_ways _ refl e)

-- one of them either has routes, or says that its place is never reached
pub data Kind (p : ℕ) (entry : Tree) : Type 0 where
  never : (number by e : Tree) → entry ≡ Node AtEntry number (Node NeverEntry by e) → Kind p entry
  routed : IsRouted entry p → Kind p entry

module _ (s : Scene) (q : Correspondence) where
  pub entry_stands : (ps : List ℕ) (parts : Tree) → AreEntries s q ps parts → (p : ℕ) → IsAmong p ps → IsEntry s q p (entry_at ps parts p)
  entry_stands [] parts a p i = absurd i
  entry_stands (k ∷ ps) Empty a p i = absurd a
  entry_stands (k ∷ ps) (Node h entry more) a p i = go (k == p) refl i (entry_stands ps more a.1 p)
    where
      go : (u : Bool) → (k == p) ≡ u → IsAmong p (k ∷ ps) → (IsAmong p ps → IsEntry s q p (entry_at ps more p)) → IsEntry s q p (cond u entry (entry_at ps more p))
      go true e i ih = subst (λ n. IsEntry s q n entry) (eqb-true k p e) a.0
      go false e (inl j) ih = absurd (both_ways _ e (eq-eqb k p (sym j)))
      go false e (inr j) ih = ih j

  pub kind_of : (p : ℕ) (entry : Tree) → IsEntry s q p entry → Kind p entry
  kind_of p (Node AtEntry n (Node NeverEntry by e)) z = never n by e refl
  kind_of p (Node AtEntry n (Node WithEntry ws choice)) z = routed (record { number = n; witnesses = ws; is = refl; there = number_place p n (and_parts (is_number p n) _ z.form).0 })
  kind_of p entry z = absurd (both_ways _ refl z.form)

-- the ends of a part's routes and of those behind it

module _ (s : Scene) (q : Correspondence) where
  abbrev pub entry_ends : (entry : Tree) → List (ℕ × End)
  entry_ends entry = ends_of_choice s q (choice_of entry)

  more_ends : (h : Head) (entry more : Tree) (x : ℕ × List (ℕ × End)) → IsAmong x (ends_in s q more) → IsAmong x (ends_in s q (Node h entry more))
  more_ends h (Node AtEntry n (Node WithEntry ws choice)) more x i = inr i
  more_ends h entry more x i = i

  among_ends : (ps : List ℕ) (parts : Tree) (p : ℕ) → IsAmong p ps → IsRouted (entry_at ps parts p) p → IsAmong (p, entry_ends (entry_at ps parts p)) (ends_in s q parts)
  among_ends [] parts p i r = absurd i
  among_ends (k ∷ ps) Empty p i r = absurd (empty r.number r.witnesses (choice_of Empty) r.is)
    where
      empty : (n ws choice : Tree) → Empty ≡ Node AtEntry n (Node WithEntry ws choice) → ⊥
      empty n ws choice e = cc
  among_ends (k ∷ ps) (Node h entry more) p i r = go (k == p) refl i r (among_ends ps more p)
    where
      go : (u : Bool) → (k == p) ≡ u → IsAmong p (k ∷ ps) → IsRouted (cond u entry (entry_at ps more p)) p → (IsAmong p ps → IsRouted (entry_at ps more p) p → IsAmong (p, entry_ends (entry_at ps more p)) (ends_in s q more))
          → IsAmong (p, entry_ends (cond u entry (entry_at ps more p))) (ends_in s q (Node h entry more))
      go true e i r ih = subst (λ x. IsAmong (p, entry_ends entry) (ends_in s q (Node h x more))) (sym r.is) (inl (λ j. (sym r.there j, entry_ends entry)))
      go false e (inl j) r ih = absurd (both_ways _ e (eq-eqb k p (sym j)))
      go false e (inr j) r ih = more_ends h entry more _ (ih j r)

-- the end of the route of an atom that is marked `inj`
pub end_among : (s : Scene) (cs : List (ℕ × Atom)) (routes : Tree) (m n f : ℕ) (ms : Tree) → StandsAt cs m (n, RightEvent true f ms) → (e : End) → end_of s (item_at routes m) ≡ Some e → IsAmong (n, e) (injective_ends s cs routes)
end_among s [] routes m n f ms x e i = absurd (none_some (n, RightEvent true f ms) x)
end_among s (c ∷ cs) Empty m n f ms x e i = absurd (none_some e i)
end_among s (c ∷ cs) (Node h r rs) zero n f ms x e i =
    subst (λ (d : ℕ × Atom). IsAmong (n, e) (injective_ends s (d ∷ cs) (Node h r rs))) (sym (some_injective x))
    (subst (λ o. IsAmong (n, e) (numbered_end n o ++ injective_ends s cs rs)) (sym i) (inl refl))
end_among s (c ∷ cs) (Node h r rs) (suc m) n f ms x e i =
    among_right (n, e) (cond (is_injective c.1) (numbered_end c.0 (end_of s r)) []) (injective_ends s cs rs) (end_among s cs rs m n f ms x e i)

-- the pairs that are needed

module _ (s : Scene) (k : ℕ) (q : Correspondence) where
  more_needed : (h : Head) (entry more : Tree) (n : Needed) → IsAmong n (needed_among s k (ends_in s q more)) → IsAmong n (needed_among s k (ends_in s q (Node h entry more)))
  more_needed h (Node AtEntry m (Node WithEntry ws choice)) more n i =
      among_right n (needed_from s k (place_in m, ends_of_choice s q choice) ((place_in m, ends_of_choice s q choice) ∷ ends_in s q more)) _ i
  more_needed h entry more n i = i

  -- of two places, the first of which doesn't stand behind the other, all pairs are needed
  pub among_needed : (b : ℕ) (ps : List ℕ) (e : ℕ) (parts : Tree) → Ascends b ps e → (p o : ℕ) → IsAmong p ps → IsAmong o ps → p ≤ o → IsRouted (entry_at ps parts p) p → IsRouted (entry_at ps parts o) o
      → (n : Needed) → IsAmong n (needed_for s k p o (entry_ends s q (entry_at ps parts p)) (entry_ends s q (entry_at ps parts o))) → IsAmong n (needed_among s k (ends_in s q parts))
  among_needed b [] e parts h p o i j l r t n x = absurd i
  among_needed b (m ∷ ps) e Empty h p o i j l r t n x = absurd (empty r.number r.witnesses (choice_of Empty) r.is)
    where
      empty : (n ws choice : Tree) → Empty ≡ Node AtEntry n (Node WithEntry ws choice) → ⊥
      empty n ws choice e = cc
  among_needed b (m ∷ ps) e (Node g entry more) h p o i j l r t n x =
      go (m == p) refl i r (among_ends s q (m ∷ ps) (Node g entry more) o j t) (m == o) refl j t x (λ i j r t x. among_needed (suc m) ps e more h.1 p o i j l r t n x)
    where
      Listed : Type 0
      Listed = IsAmong n (needed_among s k (ends_in s q (Node g entry more)))

      this : IsRouted entry p → (fs : List (ℕ × End)) → IsAmong (o, fs) (ends_in s q (Node g entry more)) → IsAmong n (needed_for s k p o (entry_ends s q entry) fs) → Listed
      this r fs there x =
          let own : List (ℕ × End) = entry_ends s q entry in
          let first : IsAmong n (needed_from s k (place_in r.number, own) (ends_in s q (Node g entry more))) =
          among_flat (λ (y : ℕ × List (ℕ × End)). needed_for s k (place_in r.number) y.0 own y.1) (o, fs) n (ends_in s q (Node g entry more)) there
          (subst (λ a. IsAmong n (needed_for s k a o own fs)) (sym r.there) x) in
          subst (λ y. IsAmong n (needed_from s k (place_in r.number, own) (ends_in s q (Node g y more))) → IsAmong n (needed_among s k (ends_in s q (Node g y more)))) (sym r.is)
          (λ z. among_left n (needed_from s k (place_in r.number, own) ((place_in r.number, own) ∷ ends_in s q more)) (needed_among s k (ends_in s q more)) z) first

      above : IsAmong p ps → m < p
      above i = among_above (suc m) ps e p h.1 i

      go : (u : Bool) → (m == p) ≡ u → IsAmong p (m ∷ ps) → IsRouted (cond u entry (entry_at ps more p)) p → IsAmong (o, entry_ends s q (cond (m == o) entry (entry_at ps more o))) (ends_in s q (Node g entry more))
          → (v : Bool) → (m == o) ≡ v → IsAmong o (m ∷ ps) → IsRouted (cond v entry (entry_at ps more o)) o
          → IsAmong n (needed_for s k p o (entry_ends s q (cond u entry (entry_at ps more p))) (entry_ends s q (cond (m == o) entry (entry_at ps more o))))
          → (IsAmong p ps → IsAmong o ps → IsRouted (entry_at ps more p) p → IsRouted (entry_at ps more o) o → IsAmong n (needed_for s k p o (entry_ends s q (entry_at ps more p)) (entry_ends s q (entry_at ps more o))) → IsAmong n (needed_among s k (ends_in s q more)))
          → Listed
      go true d i r there v f j t x ih = this r (entry_ends s q (cond (m == o) entry (entry_at ps more o))) there x
      go false d (inl i) r there v f j t x ih = absurd (both_ways _ d (eq-eqb m p (sym i)))
      go false d (inr i) r there true f j t x ih = let same : m ≡ o = eqb-true m o f in let high : m < p = above i in absurd (omega arith)
      go false d (inr i) r there false f (inl j) t x ih = absurd (both_ways _ f (eq-eqb m o (sym j)))
      go false d (inr i) r there false f (inr j) t x ih =
          more_needed g entry more n
          (ih i j r t (subst (λ b. IsAmong n (needed_for s k p o (entry_ends s q (entry_at ps more p)) (entry_ends s q (cond b entry (entry_at ps more o))))) f x))

  -- of routes for one atom that end at one node
  pub record IsNeeded (p o : ℕ) (e f : End) (ns : List Needed) : Type 0 where
    pub needed : Needed
    pub among : IsAmong needed ns
    pub first : needed.first ≡ p
    pub second : needed.second ≡ o
    pub given : needed.given ≡ equations_between e.indices (map (of_second k (replications_at s o)) f.indices)

  pub is_needed : (p o : ℕ) (es fs : List (ℕ × End)) (c : ℕ) (e f : End) → IsAmong (c, e) es → IsAmong (c, f) fs → (e.node == f.node) ≡ true → IsNeeded p o e f (needed_for s k p o es fs)
  is_needed p o es fs c e f i j z = record {
    needed = own;
    among =
        among_flat (λ (x : ℕ × End). flat_map (needed_at s k p o x) fs) (c, e) own es i
        (among_flat (needed_at s k p o (c, e)) (c, f) own fs j (here ((c == c) && (e.node == f.node)) (and_from (c == c) _ (eq-eqb c c refl) z)));
    first = refl;
    second = refl;
    given = refl;
  }
    where
      own : Needed
      own = record { first = p; second = o; atom = c; given = equations_between e.indices (map (of_second k (replications_at s o)) f.indices) }

      here : (b : Bool) → b ≡ true → IsAmong own (cond b (own ∷ []) [])
      here true z = inl refl
      here false z = absurd (both_ways _ refl z)
