-- The candidates of a `find` and of the one with copies of its branches go with each other in order.
use Rattle.std.proofs.Common.{◌≡◌, ℕ, zero, suc, ◌+◌, ◌%◌, ◌==◌, ◌||◌, Bool, true, false, cond, not, List, [], ◌∷◌, ◌++◌, map, length, Option, Some, None, slice_get, refl, sym, ap, ap₂, subst, ◌∙◌, arith, append-nil, append_assoc, eq-eqb, eqb-true}
use Rattle.std.proofs.lemmas.Bool.{and_parts, both_ways, not-true, or_left, or_right}
use Rattle.std.specs.List.{list_any}
use Rattle.cv_syntax_trees.specs.Tree.{Tree, second}
use Rattle.cv_meaning.specs.Interpretation.{Setting}
use Rattle.cv_meaning.specs.Memory.{Indices, Store, tuple}
use Rattle.cv_meaning.specs.Binders.{bound_to, fits}
use Rattle.cv_meaning.specs.Candidates.{Candidate, candidate, candidates_at, chosen, is_candidate}
use Rattle.cv_meaning_runs.specs.Simulation.{InOrder}
use Rattle.cv_scope_runs.proofs.Candidates.{IsChosen}
use Rattle.cv_edit_names.specs.Naming.{Naming, name_at}
use Rattle.cv_rule_array_names.specs.Sites.{are_apart}
use Rattle.cv_edit_names.specs.Splitting.{Around, followed_by, with_name}
use Rattle.cv_rule_array_names.proofs.Stores.{is_name}
use Rattle.cv_rule_array_names.proofs.Arms.{Arm, IsAt, IsNth, arm_tree, copy_of, fits_renamed, here, there}

-- lists in order

pub in_order_length : {A B : Type 0} (R : A → B → Type 0) (xs : List A) (ys : List B) → InOrder R xs ys → length xs ≡ length ys
in_order_length R [] [] h = refl
in_order_length R (x ∷ xs) (y ∷ ys) h = ap (λ n. suc n) (in_order_length R xs ys h.1)
in_order_length R [] (y ∷ ys) h = absurd h
in_order_length R (x ∷ xs) [] h = absurd h

abbrev pub BothOrNone : {A B : Type 0} → (A → B → Type 0) → Option A → Option B → Type 0
BothOrNone R None None = Unit {0}
BothOrNone R (Some x) (Some y) = R x y
BothOrNone R _ _ = ⊥

got_in_order : {A B : Type 0} (R : A → B → Type 0) (xs : List A) (ys : List B) → InOrder R xs ys → (k : ℕ) → BothOrNone R (slice_get xs k) (slice_get ys k)
got_in_order R [] [] h k = tt
got_in_order R (x ∷ xs) (y ∷ ys) h zero = h.0
got_in_order R (x ∷ xs) (y ∷ ys) h (suc k) = got_in_order R xs ys h.1 k
got_in_order R [] (y ∷ ys) h k = absurd h
got_in_order R (x ∷ xs) [] h k = absurd h

pub chosen_in_order : (R : Candidate → Candidate → Type 0) (cs ds : List Candidate) → InOrder R cs ds → (v : ℕ) → BothOrNone R (chosen cs v) (chosen ds v)
unfolding chosen
chosen_in_order R [] [] h v = tt
chosen_in_order R (c ∷ cs) (d ∷ ds) h v =
    subst (λ n. BothOrNone R (slice_get (c ∷ cs) (v % length (c ∷ cs))) (slice_get (d ∷ ds) (v % n))) (in_order_length R (c ∷ cs) (d ∷ ds) h) (got_in_order R (c ∷ cs) (d ∷ ds) h (v % length (c ∷ cs)))
chosen_in_order R [] (d ∷ ds) h v = absurd h
chosen_in_order R (c ∷ cs) [] h v = absurd h

-- candidates of branches before others

abbrev pub candidates_of : Setting → Indices → Store → List ℕ → ℕ → List Tree → List Candidate
candidates_of g at m u k [] = []
candidates_of g at m u k (b ∷ bs) = candidate g at m u k b ++ candidates_of g at m u (suc k) bs

pub before_others : (g : Setting) (at : Indices) (m : Store) (u : List ℕ) (k : ℕ) (bs : List Tree) (rest : Tree) → candidates_at g at m u k (followed_by bs rest) ≡ candidates_of g at m u k bs ++ candidates_at g at m u (k + length bs) rest
unfolding candidates_at
before_others g at m u k [] rest = ap (λ n. candidates_at g at m u n rest) (let e : k ≡ k + 0 = omega arith in e)
before_others g at m u k (b ∷ bs) rest =
    ap (λ cs. candidate g at m u k b ++ cs) (before_others g at m u (suc k) bs rest ∙ ap (λ n. candidates_of g at m u (suc k) bs ++ candidates_at g at m u n rest) (let e : suc k + length bs ≡ k + suc (length bs) = omega arith in e))
    ∙ sym (append_assoc (candidate g at m u k b) (candidates_of g at m u (suc k) bs) (candidates_at g at m u (k + length (b ∷ bs)) rest))

-- which branch of the rest is behind these
pub at_behind : (bs : List Tree) (rest : Tree) (j : ℕ) (b : Tree) → IsAt j rest b → IsAt (length bs + j) (followed_by bs rest) b
at_behind [] rest j b h = subst (λ n. IsAt n rest b) (let e : j ≡ 0 + j = omega arith in e) h
at_behind (c ∷ bs) rest j b h = subst (λ n. IsAt n (followed_by (c ∷ bs) rest) b) (let e : suc (length bs + j) ≡ suc (length bs) + j = omega arith in e) (there (at_behind bs rest j b h))

-- A branch that is a candidate, and the copy of it that is one. What is known of the names that the copy looks for is a fact of the
-- branch, the tuple and the copy.
module _ (g : Setting) (x : ℕ) (ys : List ℕ) (o : List ℕ → ℕ) (owns : (w : List ℕ) → is_name ys (o w) ≡ true) (apart : are_apart ys ≡ true) (at : Indices) (m n : Store) (names : Naming)
    (Fact : (place : ℕ) → Arm → Around → List ℕ → Type 0) (place : ℕ) (branches others : Tree) where
  pub record Copied (c d : Candidate) : Type 0 where
    pub arm : Arm
    pub stands : ℕ
    pub around : Around
    pub nth : IsNth c.branch place branches stands (arm_tree arm)
    pub copy : IsAt d.branch others (copy_of names stands arm around)
    pub tuple : c.tuple ≡ d.tuple
    pub chosen : IsChosen g at m (arm_tree arm) c.tuple
    pub fact : Fact stands arm around c.tuple

  -- the branch and a copy are candidates at the same tuples
  abbrev pub SameAt : (q : ℕ) → Arm → Around → List ℕ → Type 0
  SameAt q a e u =
      fits g.interpretation.parameter_value a.indices u ≡ true
      → is_candidate g at m (bound_to m (tuple at) a.indices u) (second (arm_tree a)) ≡ is_candidate g at n (bound_to n (tuple at) (with_name names q a.indices) u) (second (copy_of names q a e))

  abbrev pub NoneAt : (q : ℕ) → Arm → Around → List ℕ → Type 0
  NoneAt q a e u =
      fits g.interpretation.parameter_value a.indices u ≡ true → is_candidate g at n (bound_to n (tuple at) (with_name names q a.indices) u) (second (copy_of names q a e)) ≡ false

  abbrev pub candidates_offered : Bool → Bool → Candidate → List Candidate
  candidates_offered fit is c = elim fit as (λ _. List Candidate) [ true ↦ (cond is (c ∷ []) []) | false ↦ [] ]

  module _ (u : List ℕ) (q : ℕ) (a : Arm) (k : ℕ) (nth : IsNth k place branches q (arm_tree a)) where
    abbrev pub range : ℕ → ℕ
    range = g.interpretation.parameter_value

    abbrev pub is_here : Bool
    is_here = is_candidate g at m (bound_to m (tuple at) a.indices u) (second (arm_tree a))

    abbrev pub is_there : Around → Bool
    is_there e = is_candidate g at n (bound_to n (tuple at) (with_name names q a.indices) u) (second (copy_of names q a e))

    pub one_copied : (e : Around) (j : ℕ) → IsAt j others (copy_of names q a e) → SameAt q a e u → (is_here ≡ true → Fact q a e u) → InOrder Copied (candidate g at m u k (arm_tree a)) (candidate g at n u j (copy_of names q a e))
    one_copied e j i same fact =
        subst (λ b. InOrder Copied (candidate g at m u k (arm_tree a)) (candidates_offered b (is_there e) (record { branch = j; tuple = u }))) (fits_renamed names.variable (name_at names q) range a.indices u)
        (go (fits range a.indices u) refl)
      where
        inner : (b : Bool) → is_here ≡ b → (c : Bool) → b ≡ c → fits range a.indices u ≡ true → InOrder Copied (candidates_offered true b (record { branch = k; tuple = u })) (candidates_offered true c (record { branch = j; tuple = u }))
        inner true h true z f = (record { arm = a; stands = q; around = e; nth = nth; copy = i; tuple = refl; chosen = record { fitting = f; candidate = h }; fact = fact h }, tt)
        inner true h false z f = absurd (cc)
        inner false h true z f = absurd (cc)
        inner false h false z f = tt

        go : (b : Bool) → fits range a.indices u ≡ b → InOrder Copied (candidates_offered b is_here (record { branch = k; tuple = u })) (candidates_offered b (is_there e) (record { branch = j; tuple = u }))
        go true f = inner is_here refl (is_there e) (same f) f
        go false f = tt

    pub none_copied : (e : Around) (j : ℕ) → NoneAt q a e u → candidate g at n u j (copy_of names q a e) ≡ []
    none_copied e j none =
        ap (λ b. candidates_offered b (is_there e) (record { branch = j; tuple = u })) (sym (fits_renamed names.variable (name_at names q) range a.indices u)) ∙ go (fits range a.indices u) refl
      where
        go : (b : Bool) → fits range a.indices u ≡ b → candidates_offered b (is_there e) (record { branch = j; tuple = u }) ≡ []
        go true f = ap (λ b. candidates_offered true b (record { branch = j; tuple = u })) (none f)
        go false f = refl

    pub none_here : (fits range a.indices u ≡ true → is_here ≡ false) → candidate g at m u k (arm_tree a) ≡ []
    none_here none = go (fits range a.indices u) refl
      where
        go : (b : Bool) → fits range a.indices u ≡ b → candidates_offered b is_here (record { branch = k; tuple = u }) ≡ []
        go true f = ap (λ b. candidates_offered true b (record { branch = k; tuple = u })) (none f)
        go false f = refl

    -- of the copies with these names at most the owner's is one

    module _ (around : ℕ → Around) where
      abbrev pub copies : List ℕ → List Tree
      copies zs = map (λ y. copy_of names q a (around y)) zs

      all_none : (zs : List ℕ) (j : ℕ) → ((y : ℕ) → is_name zs y ≡ true → NoneAt q a (around y) u) → candidates_of g at n u j (copies zs) ≡ []
      all_none [] j none = refl
      all_none (y ∷ zs) j none =
          ap₂ ◌++◌ (none_copied (around y) j (none y (ap (λ b. b || is_name zs y) (eq-eqb y y refl)))) (all_none zs (suc j) (λ w h. none w (or_right (y == w) (is_name zs w) h)))

      pub one_owner : (owner : ℕ) → ((y : ℕ) → is_name ys y ≡ true → (y == owner) ≡ false → NoneAt q a (around y) u) → SameAt q a (around owner) u → (is_here ≡ true → Fact q a (around owner) u)
          → (zs : List ℕ) (j : ℕ) (rest : Tree) → ((i : ℕ) (b : Tree) → IsAt i (followed_by (copies zs) rest) b → IsAt (i + j) others b) → are_apart zs ≡ true → is_name zs owner ≡ true → ((w : ℕ) → is_name zs w ≡ true → is_name ys w ≡ true)
          → InOrder Copied (candidate g at m u k (arm_tree a)) (candidates_of g at n u j (copies zs))
      one_owner owner none same fact [] j rest lift d i sub = absurd (both_ways _ refl i)
      one_owner owner none same fact (y ∷ zs) j rest lift d i sub =
          go (y == owner) refl (one_owner owner none same fact zs (suc j) rest (λ r b h. subst (λ w. IsAt w others b) (let e : suc r + j ≡ r + suc j = omega arith in e) (lift (suc r) b (there h)))) i sub
        where
          parts : (not (list_any (λ z. z == y) zs) ≡ true) × (are_apart zs ≡ true)
          parts = and_parts (not (list_any (λ z. z == y) zs)) _ d

          go : (b : Bool) → (y == owner) ≡ b → (are_apart zs ≡ true → is_name zs owner ≡ true → ((w : ℕ) → is_name zs w ≡ true → is_name ys w ≡ true) → InOrder Copied (candidate g at m u k (arm_tree a)) (candidates_of g at n u (suc j) (copies zs))) → (b || is_name zs owner) ≡ true → ((w : ℕ) → (y == w) || is_name zs w ≡ true → is_name ys w ≡ true)
              → InOrder Copied (candidate g at m u k (arm_tree a)) (candidate g at n u j (copy_of names q a (around y)) ++ candidates_of g at n u (suc j) (copies zs))
          go true e ih h sub =
              let same_name : y ≡ owner = eqb-true y owner e in
              let gone : candidates_of g at n u (suc j) (copies zs) ≡ [] =
              all_none zs (suc j) (λ w r. none w (sub w (or_right (y == w) (is_name zs w) r)) (other w r)) in
              subst (λ cs. InOrder Copied (candidate g at m u k (arm_tree a)) (candidate g at n u j (copy_of names q a (around y)) ++ cs)) (sym gone)
              (subst (λ cs. InOrder Copied (candidate g at m u k (arm_tree a)) cs) (sym (append-nil (candidate g at n u j (copy_of names q a (around y)))))
              (one_copied (around y) j (subst (λ w. IsAt w others (copy_of names q a (around y))) (let e : 0 + j ≡ j = omega arith in e) (lift 0 (copy_of names q a (around y)) here)) (subst (λ w. SameAt q a (around w) u) (sym same_name) same) (subst (λ w. is_here ≡ true → Fact q a (around w) u) (sym same_name) fact)))
            where
              other : (w : ℕ) → is_name zs w ≡ true → (w == owner) ≡ false
              other w r = split (w == owner) refl
                where
                  split : (b : Bool) → (w == owner) ≡ b → (w == owner) ≡ false
                  split true z = absurd (both_ways (is_name zs y) (not-true _ parts.0) (ap (is_name zs) (eqb-true y owner e ∙ sym (eqb-true w owner z)) ∙ r))
                  split false z = z
          go false e ih h sub =
              subst (λ cs. InOrder Copied (candidate g at m u k (arm_tree a)) (cs ++ candidates_of g at n u (suc j) (copies zs))) (sym (none_copied (around y) j (none y (sub y (or_left (y == y) (is_name zs y) (eq-eqb y y refl))) e))) (ih parts.1 h (λ w r. sub w (or_right (y == w) (is_name zs w) r)))
