-- Levels of a body and its scope at a site: what is readable, asked for and ranged over there stands for what is drawn.
use Rattle.std.proofs.Common.{◌≡◌, ℕ, Bool, true, false, cond, ◌&&◌, ◌||◌, ◌==◌, List, [], ◌∷◌, ◌++◌, ◌⊎◌, inl, inr, Option, Some, None, refl, sym, ap, subst, ◌∙◌, eqb-true}
use Rattle.std.proofs.lemmas.Bool.{and_parts, both_ways, or_right}
use Rattle.std.specs.List.{list_any}
use Rattle.cv_syntax_trees.specs.declared.head.Head.TheVariants.{Cons, Leaf, Read}
use Rattle.cv_syntax_trees.specs.Tree.{Tree, Empty, Node, first}
use Rattle.cv_group_rules.specs.Rules.{Around, Defined, Found, Level, are_cells, asking, gives, has_name, has_read, index_in, is_asked, is_index, is_named_at, is_named_by, is_readable, range_of, ranging}
use Rattle.cv_inline.specs.bodies.Accepted.{AreFineCells, IsFineArray, IsNeverAssigned, is_assigned_above, is_own_variable}
use Rattle.cv_meaning.specs.contexts.Inlined.{CallOf, Own, Scope, call_in, called, standing_of}
use Rattle.cv_inline.specs.bodies.Inlining.{Inlining}
use Rattle.cv_inline_names_laws.specs.accepted.RightBodies.{are_body_cells}
use Rattle.cv_syntax_trees.proofs.lists.Options.{some_none, none_some}
use Rattle.cv_syntax_trees.proofs.lists.Tests.{or_cases}

-- the newest level

range_last : (u : ℕ) (over : Option ℕ) (ls : List Level) (l : Level) → range_of u over (ls ++ l ∷ []) ≡ ranging u (range_of u over ls) l
unfolding range_of
range_last u over [] l = refl
range_last u over (k ∷ ls) l = range_last u (ranging u over k) ls l

asked_last : (v u : ℕ) (asked : Bool) (ls : List Level) (l : Level) → is_asked v u asked (ls ++ l ∷ []) ≡ asking v u (is_asked v u asked ls) l
unfolding is_asked
asked_last v u asked [] l = refl
asked_last v u asked (k ∷ ls) l = asked_last v u (asking v u asked k) ls l

any_last : (x : ℕ) (ls : List Level) (l : Level) → list_any (gives x) (ls ++ l ∷ []) ≡ true → (list_any (gives x) ls ≡ true) ⊎ (gives x l ≡ true)
any_last x [] l e = go (or_cases (gives x l) false e)
  where
    go : (gives x l ≡ true) ⊎ (false ≡ true) → (false ≡ true) ⊎ (gives x l ≡ true)
    go (inl i) = inr i
    go (inr i) = inl i
any_last x (k ∷ ls) l e = go (any_last x ls l) (or_cases (gives x k) _ e)
  where
    more : (list_any (gives x) ls ≡ true) ⊎ (gives x l ≡ true) → ((gives x k || list_any (gives x) ls) ≡ true) ⊎ (gives x l ≡ true)
    more (inl j) = inl (or_right (gives x k) _ j)
    more (inr j) = inr j

    go : (list_any (gives x) (ls ++ l ∷ []) ≡ true → (list_any (gives x) ls ≡ true) ⊎ (gives x l ≡ true)) → (gives x k ≡ true) ⊎ (list_any (gives x) (ls ++ l ∷ []) ≡ true) → ((gives x k || list_any (gives x) ls) ≡ true) ⊎ (gives x l ≡ true)
    go ih (inl i) = inl (ap (λ b. b || list_any (gives x) ls) i)
    go ih (inr i) = more (ih i)

pub some_is : (n m : ℕ) → ◌≡◌ {A = Option ℕ} (Some n) (Some m) → n ≡ m
some_is n m e = cc

-- a variable that is assigned above stands for something
above_stands : (Σ : Scope) (x : ℕ) → is_assigned_above Σ x ≡ true → standing_of Σ x ≡ None → ⊥
above_stands [] x e n = both_ways _ refl e
above_stands (y ∷ Σ) x e n = go (y.0 == x) (is_own_variable y.1) (above_stands Σ x) e n
  where
    go : (b c : Bool) → (is_assigned_above Σ x ≡ true → standing_of Σ x ≡ None → ⊥) → ((c && b) || is_assigned_above Σ x) ≡ true → cond b (Some y.1) (standing_of Σ x) ≡ None → ⊥
    go true c ih e n = some_none y.1 n
    go false true ih e n = ih e n
    go false false ih e n = ih e n

-- the plain names of a list

abbrev pub AllAssigned : Scope → Tree → Type 0
AllAssigned Σ cells = (x : ℕ) → has_name cells x ≡ true → is_assigned_above Σ x ≡ true

module _ (p : Inlining) (o : Around) (own : (x : ℕ) → o.names o.bound x ≡ true → p.has p.c.number x ≡ true) where
  -- an index that ranges over calls of functions with a bound stands for calls of a site of theirs
  pub record IsOver (Σ : Scope) (u n : ℕ) : Type 0 where
    pub site : ℕ
    pub tuple : Tree
    pub stands : standing_of Σ u ≡ Some (CallOf site tuple)
    pub has : (v : ℕ) → o.names n v ≡ true → p.has site v ≡ true

  pub record Agree (ls : List Level) (Σ : Scope) : Type 0 where
    pub range : (u n : ℕ) → range_of u None ls ≡ Some n → IsOver Σ u n
    pub asked : (v u : ℕ) → is_asked v u false ls ≡ true → IsFineArray p v (called (standing_of Σ u))
    pub readable : (x : ℕ) → is_readable o ls x ≡ true → standing_of Σ x ≡ None → p.constant x ≡ true

  over_fine : (Σ : Scope) (u n v : ℕ) → IsOver Σ u n → o.names n v ≡ true → IsFineArray p v (called (standing_of Σ u))
  over_fine Σ u n v h e = subst (λ s. IsFineArray p v (called s)) (sym h.stands) (h.has v e)

  named_fine : (ls : List Level) (Σ : Scope) → ((u n : ℕ) → range_of u None ls ≡ Some n → IsOver Σ u n) → (v u : ℕ) → is_named_by o v (range_of u None ls) ≡ true → IsFineArray p v (called (standing_of Σ u))
  named_fine ls Σ range v u e = go (range_of u None ls) refl e
    where
      go : (r : Option ℕ) → range_of u None ls ≡ r → is_named_by o v r ≡ true → IsFineArray p v (called (standing_of Σ u))
      go None q e = absurd (both_ways _ refl e)
      go (Some n) q e = over_fine Σ u n v (range u n q) e

  -- lists

  pub cells_fine : (ls : List Level) (Σ : Scope) → ((u n : ℕ) → range_of u None ls ≡ Some n → IsOver Σ u n) → (cells : Tree) → are_body_cells cells ≡ true → are_cells o ls cells ≡ true → AreFineCells p Σ cells
  unfolding are_body_cells are_cells
  cells_fine ls Σ range Empty g e = tt
  cells_fine ls Σ range (Node Cons (Node (Leaf x) a b) more) g e =
      let q = and_parts (o.names o.bound x) (are_cells o ls more) e in (own x q.0, cells_fine ls Σ range more g q.1)
  cells_fine ls Σ range (Node Cons (Node (Read v) a b) more) g e =
      let q = and_parts (is_named_at o ls v (index_in a)) (are_cells o ls more) e in (array a q.0, cells_fine ls Σ range more g q.1)
    where
      array : (a : Tree) → is_named_at o ls v (index_in a) ≡ true → IsFineArray p v (call_in Σ (first a))
      array (Node h (Node (Leaf u) Empty Empty) Empty) e = named_fine ls Σ range v u e
      array t e = absurd (both_ways _ refl e)
  cells_fine ls Σ range t g e = absurd (both_ways _ refl g)

  pub decided : (ls : List Level) (Σ : Scope) (cells : Tree) → are_body_cells cells ≡ true → are_cells o ls cells ≡ true → AllAssigned Σ cells ⊎ IsNeverAssigned p Σ cells
  unfolding are_body_cells are_cells has_name
  decided ls Σ Empty g e = inl (λ x i. absurd (both_ways _ refl i))
  decided ls Σ (Node Cons (Node (Leaf x) a b) more) g e =
      let q = and_parts (o.names o.bound x) (are_cells o ls more) e in go (is_assigned_above Σ x) refl (decided ls Σ more g q.1) (own x q.0)
    where
      named : is_assigned_above Σ x ≡ true → AllAssigned Σ more → (y : ℕ) → (x == y ≡ true) ⊎ (has_name more y ≡ true) → is_assigned_above Σ y ≡ true
      named i h y (inl j) = subst (λ z. is_assigned_above Σ z ≡ true) (eqb-true x y j) i
      named i h y (inr j) = h y j

      go : (c : Bool) → is_assigned_above Σ x ≡ c → AllAssigned Σ more ⊎ IsNeverAssigned p Σ more → p.has p.c.number x ≡ true
          → AllAssigned Σ (Node Cons (Node (Leaf x) a b) more) ⊎ IsNeverAssigned p Σ (Node Cons (Node (Leaf x) a b) more)
      go false i d k = inr (inl (k, i))
      go true i (inr n) k = inr (inr n)
      go true i (inl h) k = inl (λ y j. named i h y (or_cases (x == y) (has_name more y) j))
  decided ls Σ (Node Cons (Node (Read v) a b) more) g e =
      let q = and_parts (is_named_at o ls v (index_in a)) (are_cells o ls more) e in go (decided ls Σ more g q.1)
    where
      go : AllAssigned Σ more ⊎ IsNeverAssigned p Σ more → AllAssigned Σ (Node Cons (Node (Read v) a b) more) ⊎ IsNeverAssigned p Σ (Node Cons (Node (Read v) a b) more)
      go (inl h) = inl h
      go (inr n) = inr n
  decided ls Σ t g e = absurd (both_ways _ refl g)

  -- what a list asks for is named there
  read_named : (ls : List Level) (cells : Tree) → are_cells o ls cells ≡ true → (v w : ℕ) → has_read cells v w ≡ true → are_body_cells cells ≡ true → is_named_by o v (range_of w None ls) ≡ true
  unfolding are_body_cells are_cells has_read
  read_named ls Empty e v w i g = absurd (both_ways _ refl i)
  read_named ls (Node Cons (Node (Leaf x) a b) more) e v w i g = read_named ls more (and_parts (o.names o.bound x) (are_cells o ls more) e).1 v w i g
  read_named ls (Node Cons (Node (Read y) a b) more) e v w i g =
      let q = and_parts (is_named_at o ls y (index_in a)) (are_cells o ls more) e in
      go q.0 (read_named ls more q.1 v w) (or_cases ((y == v) && is_index w (index_in a)) (has_read more v w) i)
    where
      here : (r : Option ℕ) → is_index w r ≡ true → is_named_at o ls y r ≡ true → is_named_by o y (range_of w None ls) ≡ true
      here None j k = absurd (both_ways _ refl j)
      here (Some u) j k = subst (λ z. is_named_by o y (range_of z None ls) ≡ true) (eqb-true u w j) k

      go : is_named_at o ls y (index_in a) ≡ true → (has_read more v w ≡ true → are_body_cells more ≡ true → is_named_by o v (range_of w None ls) ≡ true) → (((y == v) && is_index w (index_in a)) ≡ true) ⊎ (has_read more v w ≡ true) → is_named_by o v (range_of w None ls) ≡ true
      go k ih (inl j) = let s = and_parts (y == v) (is_index w (index_in a)) j in subst (λ z. is_named_by o z (range_of w None ls) ≡ true) (eqb-true y v s.0) (here (index_in a) s.1 k)
      go k ih (inr j) = ih j g
  read_named ls t e v w i g = absurd (both_ways _ refl g)

  -- more levels

  pub with_defined : (ls : List Level) (Σ : Scope) (z : ℕ) → Agree ls Σ → Agree (ls ++ Defined z ∷ []) ((z, Own) ∷ Σ)
  with_defined ls Σ z h = record {
    range = λ u n e. over u n (z == u) refl (sym (range_last u None ls (Defined z)) ∙ e);
    asked = λ v u e. array v u (z == u) (sym (asked_last v u false ls (Defined z)) ∙ e);
    readable = λ x e n. fine x n (or_cases (o.outside x) _ e);
  }
    where
      over : (u n : ℕ) (b : Bool) → (z == u) ≡ b → cond b None (range_of u None ls) ≡ Some n → IsOver ((z, Own) ∷ Σ) u n
      over u n true k e = absurd (none_some n e)
      over u n false k e =
          let r = h.range u n e in record { site = r.site; tuple = r.tuple; stands = ap (λ b. cond b (Some Own) (standing_of Σ u)) k ∙ r.stands; has = r.has }

      array : (v u : ℕ) (b : Bool) → cond b false (is_asked v u false ls) ≡ true → IsFineArray p v (called (cond b (Some Own) (standing_of Σ u)))
      array v u true e = absurd (both_ways _ refl e)
      array v u false e = h.asked v u e

      old : (x : ℕ) → standing_of ((z, Own) ∷ Σ) x ≡ None → (standing_of Σ x ≡ None) × ((z == x) ≡ false)
      old x n = go (z == x) n
        where
          go : (b : Bool) → cond b (Some Own) (standing_of Σ x) ≡ None → (standing_of Σ x ≡ None) × (b ≡ false)
          go true n = absurd (some_none Own n)
          go false n = (n, refl)

      fine : (x : ℕ) → standing_of ((z, Own) ∷ Σ) x ≡ None → (o.outside x ≡ true) ⊎ (list_any (gives x) (ls ++ Defined z ∷ []) ≡ true) → p.constant x ≡ true
      fine x n (inl e) = h.readable x (ap (λ b. b || list_any (gives x) ls) e) (old x n).0
      fine x n (inr e) = by (any_last x ls (Defined z) e)
        where
          by : (list_any (gives x) ls ≡ true) ⊎ (gives x (Defined z) ≡ true) → p.constant x ≡ true
          by (inl i) = h.readable x (or_right (o.outside x) _ i) (old x n).0
          by (inr i) = absurd (both_ways _ (old x n).1 i)

  pub with_found : (ls : List Level) (Σ : Scope) (u n site : ℕ) (ts cells : Tree) → Agree ls Σ → ((v : ℕ) → o.names n v ≡ true → p.has site v ≡ true) → are_body_cells cells ≡ true
      → are_cells o (ls ++ Found u n (has_read cells) (has_name cells) ∷ []) cells ≡ true → ((w m : ℕ) → range_of w None (ls ++ Found u n (has_read cells) (has_name cells) ∷ []) ≡ Some m → IsOver ((u, CallOf site ts) ∷ Σ) w m)
      → AllAssigned Σ cells → Agree (ls ++ Found u n (has_read cells) (has_name cells) ∷ []) ((u, CallOf site ts) ∷ Σ)
  with_found ls Σ u n site ts cells h has g c range all = record {
    range = range;
    asked = λ v w e. array v w (or_cases (has_read cells v w) _ (sym (asked_last v w false ls l) ∙ e));
    readable = λ x e s. fine x s (or_cases (o.outside x) _ e);
  }
    where
      l : Level
      l = Found u n (has_read cells) (has_name cells)

      older : (v w : ℕ) (b : Bool) → cond b false (is_asked v w false ls) ≡ true → IsFineArray p v (called (cond b (Some (CallOf site ts)) (standing_of Σ w)))
      older v w true e = absurd (both_ways _ refl e)
      older v w false e = h.asked v w e

      array : (v w : ℕ) → (has_read cells v w ≡ true) ⊎ (cond (u == w) false (is_asked v w false ls) ≡ true) → IsFineArray p v (called (standing_of ((u, CallOf site ts) ∷ Σ) w))
      array v w (inl e) = named_fine (ls ++ l ∷ []) ((u, CallOf site ts) ∷ Σ) range v w (read_named (ls ++ l ∷ []) cells c v w e g)
      array v w (inr e) = older v w (u == w) e

      old : (x : ℕ) → standing_of ((u, CallOf site ts) ∷ Σ) x ≡ None → (standing_of Σ x ≡ None) × ((u == x) ≡ false)
      old x n = go (u == x) n
        where
          go : (b : Bool) → cond b (Some (CallOf site ts)) (standing_of Σ x) ≡ None → (standing_of Σ x ≡ None) × (b ≡ false)
          go true n = absurd (some_none (CallOf site ts) n)
          go false n = (n, refl)

      given : (x : ℕ) → standing_of ((u, CallOf site ts) ∷ Σ) x ≡ None → ((u == x) ≡ true) ⊎ (has_name cells x ≡ true) → p.constant x ≡ true
      given x s (inl i) = absurd (both_ways _ (old x s).1 i)
      given x s (inr i) = absurd (above_stands Σ x (all x i) (old x s).0)

      fine : (x : ℕ) → standing_of ((u, CallOf site ts) ∷ Σ) x ≡ None → (o.outside x ≡ true) ⊎ (list_any (gives x) (ls ++ l ∷ []) ≡ true) → p.constant x ≡ true
      fine x s (inl e) = h.readable x (ap (λ b. b || list_any (gives x) ls) e) (old x s).0
      fine x s (inr e) = by (any_last x ls l e)
        where
          by : (list_any (gives x) ls ≡ true) ⊎ (gives x l ≡ true) → p.constant x ≡ true
          by (inl i) = h.readable x (or_right (o.outside x) _ i) (old x s).0
          by (inr i) = given x s (or_cases (u == x) (has_name cells x) i)

  -- the range of an index of a branch, with what it stands for
  pub found_range : (ls : List Level) (Σ : Scope) (u n site : ℕ) (ts : Tree) (reads : ℕ → ℕ → Bool) (names : ℕ → Bool) → Agree ls Σ → ((v : ℕ) → o.names n v ≡ true → p.has site v ≡ true)
      → (w m : ℕ) → range_of w None (ls ++ Found u n reads names ∷ []) ≡ Some m → IsOver ((u, CallOf site ts) ∷ Σ) w m
  found_range ls Σ u n site ts reads names h has w m e = go (u == w) refl (sym (range_last w None ls (Found u n reads names)) ∙ e)
    where
      go : (b : Bool) → (u == w) ≡ b → cond b (Some n) (range_of w None ls) ≡ Some m → IsOver ((u, CallOf site ts) ∷ Σ) w m
      go true k e = record {
        site = site;
        tuple = ts;
        stands = ap (λ b. cond b (Some (CallOf site ts)) (standing_of Σ w)) k;
        has = λ v i. has v (subst (λ z. o.names z v ≡ true) (sym (some_is n m e)) i);
      }
      go false k e =
          let r = h.range w m e in record { site = r.site; tuple = r.tuple; stands = ap (λ b. cond b (Some (CallOf site ts)) (standing_of Σ w)) k ∙ r.stands; has = r.has }
