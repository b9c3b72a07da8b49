-- A call in the next game: what is kept while its body is served.
use Rattle.std.proofs.Common.{◌≡◌, ℕ, suc, ◌+◌, ◌<◌, ◌≤◌, Bool, true, false, cond, ◌||◌, ◌&&◌, not, ◌==◌, List, [], ◌∷◌, ◌++◌, ◌⊎◌, inl, inr, Option, Some, None, refl, sym, ap, ap₂, subst, ◌∙◌, length, is_some, eq-eqb, eqb-true, arith}
use Rattle.std.proofs.lemmas.Bool.{both_ways, or_parts}
use Rattle.std.specs.List.{AllByRecursion}
use Rattle.cv_syntax_trees.specs.declared.head.Head.TheVariants.{Leaf, Read, Cons}
use Rattle.cv_syntax_trees.specs.Tree.{Tree, Empty, Node, lone, binders, reads_only}
use Rattle.cv_meaning.specs.Tapes.{same_tuple}
use Rattle.cv_meaning.specs.Side.{CallNumber}
use Rattle.cv_meaning.specs.Memory.{Store, Indices, tuple, put}
use Rattle.cv_meaning.specs.Terms.{or_zero, found_in, leaf_value_from, leaf_value, value, values}
use Rattle.cv_meaning.specs.Binders.{fits, bound_to}
use Rattle.cv_meaning.specs.Candidates.{is_assigned}
use Rattle.cv_meaning_laws.specs.Agreement.{AgreeOn}
use Rattle.cv_meaning_laws.proofs.Agreeing.{values_agree}
use Rattle.cv_inline.proofs.bodies.Stores.{bound_agree, bound_elsewhere, put_agree, put_elsewhere}
use Rattle.cv_meaning_laws.proofs.Counts.{same_tuple_exact, same_tuple_refl}
use Rattle.cv_meaning.specs.contexts.Frames.{Meaning, IsValue, IsCall, Frame, meaning_of, assigned, put_at, same_number, with_call}
use Rattle.cv_meaning.specs.contexts.Inlined.{Standing, TheKey, Own, CallOf, Scope, standing_of, index_terms, is_index_of, needed, branch_indices, index_reads, read_at}
use Rattle.cv_meaning.specs.contexts.Roles.{Role, TheKeyName, is_plain, is_seen, is_kept}
use Rattle.cv_inline.specs.bodies.Inlining.{Inlining, Naming, plain, elsewhere, seen, kept}
use Rattle.cv_meaning.specs.contexts.KeyTerms.{IsFineKeyTerm, AreFineKeyTerms}
use Rattle.cv_inline.specs.bodies.Related.{MadeUnder, at_its_key, this_call, IsMeant, HasArrays, IsOpened, IsAsBefore, IsServing, IsLater}
use Rattle.cv_inline.proofs.bodies.Terms.{Agrees}
use Rattle.cv_inline.proofs.bodies.Keys.{AreNames, index_tuple, fits_length}
use Rattle.cv_inline.proofs.bodies.Roles.{is_steady, apart_from, reads_more, steady, elsewhere_variable, steady_variable, seen_index, plain_steady, plain_kept, seen_kept, seen_steady, seen_later, seen_variable, index_names, steady_unbound, elsewhere_unbound, variables_apart}
use Rattle.cv_syntax_trees.proofs.lists.Each.{AllByRecursion_append}

-- a key's terms in stores that agree on the names of the game
module _ (p : Inlining) (plain : ℕ → Bool) (n m : Store) (same : AgreeOn plain n m) (is : Indices) (i : ℕ → Bool) (found : (x : ℕ) → i x ≡ true → (v : ℕ) × (found_in is x ≡ Some v)) where
  leaf_agree : (x : ℕ) → (i x ≡ true) ⊎ (plain x ≡ true) → leaf_value p.g is n x ≡ leaf_value p.g is m x
  leaf_agree x (inl e) = let f = found x e in ap (leaf_value_from p.g n x) f.1 ∙ sym (ap (leaf_value_from p.g m x) f.1)
  leaf_agree x (inr e) = go (found_in is x)
    where
      go : (o : Option ℕ) → leaf_value_from p.g n x o ≡ leaf_value_from p.g m x o
      go (Some v) = refl
      go None = ap (λ o. cond (p.g.is_constant x) (p.g.interpretation.table x []) (or_zero o)) (same x [] e)

  mutual
    unfolding value IsFineKeyTerm AreFineKeyTerms

    pub key_agree : (t : Tree) → IsFineKeyTerm i plain t → value p.g is n t ≡ value p.g is m t
    key_agree Empty f = refl
    key_agree (Node (Leaf x) a b) f = leaf_agree x f
    key_agree (Node (Read x) a b) f = ap or_zero (ap (n x) (keys_agree a f.1) ∙ same x _ f.0)
    key_agree (Node h a b) f = absurd f

    pub keys_agree : (t : Tree) → AreFineKeyTerms i plain t → values p.g is n t ≡ values p.g is m t
    keys_agree Empty f = refl
    keys_agree (Node Cons a b) f = ap₂ ◌∷◌ (key_agree a f.0) (keys_agree b f.1)
    keys_agree (Node h a b) f = absurd f

-- the reads of a key's terms, in stores that agree on the names of the game
module _ (p : Inlining) (pl : ℕ → Bool) (n m : Store) (same : AgreeOn pl n m) (is : Indices) (i : ℕ → Bool) (found : (x : ℕ) → i x ≡ true → (v : ℕ) × (found_in is x ≡ Some v)) where
  left_part : {A : Type 0} (P : A → Type 0) (xs ys : List A) → AllByRecursion P (xs ++ ys) → AllByRecursion P xs
  left_part P [] ys h = tt
  left_part P (x ∷ xs) ys h = (h.0, left_part P xs ys h.1)

  right_part : {A : Type 0} (P : A → Type 0) (xs ys : List A) → AllByRecursion P (xs ++ ys) → AllByRecursion P ys
  right_part P [] ys h = h
  right_part P (x ∷ xs) ys h = right_part P xs ys h.1

  abbrev Assigned : Store → Tree → Type 0
  Assigned m r = is_assigned p.g is m m r ≡ true

  mutual
    unfolding needed IsFineKeyTerm AreFineKeyTerms

    pub needed_agree : (t : Tree) → IsFineKeyTerm i pl t → AllByRecursion (λ r. is_assigned p.g is n n r ≡ true) (needed i t) → AllByRecursion (λ r. is_assigned p.g is m m r ≡ true) (needed i t)
    needed_agree Empty f h = tt
    needed_agree (Node (Leaf x) a b) f h = go (i x) refl f h
      where
        go : (b : Bool) → i x ≡ b → (i x ≡ true) ⊎ (pl x ≡ true) → AllByRecursion (Assigned n) (cond b [] (lone (Leaf x) ∷ [])) → AllByRecursion (Assigned m) (cond b [] (lone (Leaf x) ∷ []))
        go true q f h = tt
        go false q (inl f) h = absurd (both_ways _ q f)
        go false q (inr f) h = (ap is_some (sym (same x [] f)) ∙ h.0, tt)
    needed_agree (Node (Read x) a b) f h =
        AllByRecursion_append (Assigned m) (needed i a) (Node (Read x) a Empty ∷ []) (all_needed_agree a f.1 (left_part (Assigned n) (needed i a) _ h))
        (ap is_some (sym (ap (n x) (keys_agree p pl n m same is i found a f.1) ∙ same x _ f.0)) ∙ (right_part (Assigned n) (needed i a) _ h).0, tt)
    needed_agree (Node h a b) f k = absurd f

    pub all_needed_agree : (t : Tree) → AreFineKeyTerms i pl t → AllByRecursion (λ r. is_assigned p.g is n n r ≡ true) (needed i t) → AllByRecursion (λ r. is_assigned p.g is m m r ≡ true) (needed i t)
    all_needed_agree Empty f h = tt
    all_needed_agree (Node Cons a b) f h = AllByRecursion_append (Assigned m) (needed i a) (needed i b) (needed_agree a f.0 (left_part (Assigned n) (needed i a) _ h)) (all_needed_agree b f.1 (right_part (Assigned n) (needed i a) _ h))
    all_needed_agree (Node h a b) f k = absurd f

-- put, once more

pub put_here : (m : Store) (x : ℕ) (u : List ℕ) (v : ℕ) → put m x u v x u ≡ Some v
unfolding put
put_here m x u v = ap₂ (λ b c. cond (b && c) (Some v) (m x u)) (eq-eqb x x refl) (same_tuple_refl u)

pub put_name : (m : Store) (x : ℕ) (u : List ℕ) (v y : ℕ) (w : List ℕ) → (y == x) ≡ false → put m x u v y w ≡ m y w
unfolding put
put_name m x u v y w e = ap (λ b. cond (b && same_tuple w u) (Some v) (m y w)) e

module _ (p : Inlining) (nm : Naming p) (κ : MadeUnder) (key : List ℕ) where
  -- the call: it is made under the key, whose terms it reads
  pub record Scene : Type 0 where
    pub mine : κ (this_call p) ≡ Some key
    pub key_terms : AreFineKeyTerms (is_index_of p.c.replications) (plain p nm) p.c.key
    pub found : (x : ℕ) → is_index_of p.c.replications x ≡ true → (v : ℕ) × (found_in p.at x ≡ Some v)
    pub at_arity : length (tuple p.at) ≡ p.arity p.c.number

  pub agrees : (Σ : Scope) (e : Frame) (n : Store) (q : ℕ) → IsServing p nm κ key Σ e n q → Agrees p κ Σ e n
  agrees Σ e n q st = record { arrays = st.arrays; names = st.names }

  module _ (sc : Scene) where
    key_same : (n m : Store) → AgreeOn (plain p nm) n m → values p.g p.at n p.c.key ≡ values p.g p.at m p.c.key
    key_same n m ag = keys_agree p (plain p nm) n m ag p.at (is_index_of p.c.replications) sc.found p.c.key sc.key_terms

    -- what a name stands for, in a store that agrees on some names
    meant_kept : (on : ℕ → Bool) → ((y : ℕ) → plain p nm y ≡ true → on y ≡ true) → on p.d.key ≡ true → (q : ℕ) → ((y : ℕ) → seen p nm q y ≡ true → on y ≡ true) → (n m : Store) → AgreeOn on n m
        → (k : List ℕ) (x : ℕ) (o : Option Standing) (r : Option Meaning) → IsOpened p nm q o → (o ≡ Some Own → p.has p.c.number x ≡ true → n (p.d.variable p.c.number x) (tuple p.at) ≡ m (p.d.variable p.c.number x) (tuple p.at)) → IsMeant p κ k n x o r → IsMeant p κ k m x o r
    meant_kept on pl ky q se n m ag k x None None i w h = tt
    meant_kept on pl ky q se n m ag k x (Some TheKey) (Some (IsValue v)) i w h = ap (m p.d.key) (sym (key_same n m (λ y u e. ag y u (pl y e)))) ∙ sym (ag p.d.key _ ky) ∙ h
    meant_kept on pl ky q se n m ag k x (Some Own) (Some (IsValue v)) i w h = (h.0, sym (w refl h.0) ∙ h.1)
    meant_kept on pl ky q se n m ag k x (Some (CallOf s ts)) (Some (IsCall c)) i w h = (h.0, sym (values_agree p.g p.at on n m ag ts (reads_more (seen p nm q) on se ts i)) ∙ h.1, h.2, h.3)
    meant_kept on pl ky q se n m ag k x None (Some (IsValue v)) i w h = absurd h
    meant_kept on pl ky q se n m ag k x None (Some (IsCall c)) i w h = absurd h
    meant_kept on pl ky q se n m ag k x (Some TheKey) None i w h = absurd h
    meant_kept on pl ky q se n m ag k x (Some TheKey) (Some (IsCall c)) i w h = absurd h
    meant_kept on pl ky q se n m ag k x (Some Own) None i w h = absurd h
    meant_kept on pl ky q se n m ag k x (Some Own) (Some (IsCall c)) i w h = absurd h
    meant_kept on pl ky q se n m ag k x (Some (CallOf s ts)) None i w h = absurd h
    meant_kept on pl ky q se n m ag k x (Some (CallOf s ts)) (Some (IsValue v)) i w h = absurd h

    opened_later : (q r : ℕ) → q ≤ r → (o : Option Standing) → IsOpened p nm q o → IsOpened p nm r o
    opened_later q r l None h = tt
    opened_later q r l (Some TheKey) h = tt
    opened_later q r l (Some Own) h = tt
    opened_later q r l (Some (CallOf s ts)) h = reads_more (seen p nm q) (seen p nm r) (λ y. seen_later p nm q r y l) ts h

    pub stage_later : (Σ : Scope) (e : Frame) (n : Store) (q r : ℕ) → q ≤ r → IsServing p nm κ key Σ e n q → IsServing p nm κ key Σ e n r
    stage_later Σ e n q r l st = record { arrays = st.arrays; names = st.names; opened = λ x. opened_later q r l (standing_of Σ x) (st.opened x); number = st.number; its_key = st.its_key; here = st.here; unmade = st.unmade; unassigned = st.unassigned }

    -- a variable of the call is assigned
    module _ (Σ : Scope) (e : Frame) (n : Store) (q z v : ℕ) (hz : p.has p.c.number z ≡ true) (st : IsServing p nm κ key Σ e n q) where
      abbrev n' : Store
      n' = put n (p.d.variable p.c.number z) (tuple p.at) v

      others : AgreeOn (λ y. not (y == p.d.variable p.c.number z)) n n'
      others = put_agree n (p.d.variable p.c.number z) (tuple p.at) v (λ y. not (y == p.d.variable p.c.number z)) (λ y e. unnot (y == p.d.variable p.c.number z) e)
        where
          unnot : (b : Bool) → not b ≡ true → b ≡ false
          unnot true e = absurd (both_ways _ refl e)
          unnot false e = refl

      not_z : (on : ℕ → Bool) → on (p.d.variable p.c.number z) ≡ false → (y : ℕ) → on y ≡ true → not (y == p.d.variable p.c.number z) ≡ true
      not_z on f y e = ap not (apart_from on y (p.d.variable p.c.number z) e f)

      plain_z : plain p nm (p.d.variable p.c.number z) ≡ false
      plain_z = ap is_plain (nm.variables p.c.number z hz)

      key_z : not (p.d.key == p.d.variable p.c.number z) ≡ true
      key_z = not_z (λ y. is_key (nm.role y)) (ap is_key (nm.variables p.c.number z hz)) p.d.key (ap is_key nm.key)
        where
          is_key : Role → Bool
          is_key TheKeyName = true
          is_key r = false

      -- the side's array, and the game's
      array_put : HasArrays p κ (assigned e z v).arrays n'
      unfolding put put_at
      array_put w k m h =
          ap (λ a. cond ((w == z) && (same_tuple k e.key && same_number m e.number)) (Some v) a) (st.arrays w k m h)
          ∙ ap₂ (λ i j. cond ((w == z) && (same_tuple k i && same_number m j)) (Some v) (at_its_key (κ m) k (n (p.d.variable m.site w) m.tuple))) st.its_key st.number
          ∙ go (w == z) (same_tuple k key) (m.site == p.c.number) (same_tuple m.tuple (tuple p.at)) refl refl refl refl
          ∙ ap (λ b. at_its_key (κ m) k (cond (b && same_tuple m.tuple (tuple p.at)) (Some v) (n (p.d.variable m.site w) m.tuple))) (sym (variables_apart p nm m.site w p.c.number z h hz))
        where
          is_now : (m.site == p.c.number) ≡ true → same_tuple m.tuple (tuple p.at) ≡ true → κ m ≡ Some key
          is_now j i = ap κ (λ x. record { tuple = same_tuple_exact m.tuple (tuple p.at) i x; site = eqb-true m.site p.c.number j x }) ∙ sc.mine

          flipped : (x y : List ℕ) → same_tuple x y ≡ same_tuple y x
          flipped x y = test (same_tuple x y) (same_tuple y x) refl refl
            where
              test : (b c : Bool) → same_tuple x y ≡ b → same_tuple y x ≡ c → b ≡ c
              test true true i j = refl
              test false false i j = refl
              test true false i j = absurd (both_ways _ j (ap (λ u. same_tuple y u) (same_tuple_exact x y i) ∙ same_tuple_refl y))
              test false true i j = absurd (both_ways _ i (ap (λ u. same_tuple x u) (same_tuple_exact y x j) ∙ same_tuple_refl x))

          go : (a d b c : Bool) → (w == z) ≡ a → same_tuple k key ≡ d → (m.site == p.c.number) ≡ b → same_tuple m.tuple (tuple p.at) ≡ c
              → cond (a && (d && (b && c))) (Some v) (at_its_key (κ m) k (n (p.d.variable m.site w) m.tuple)) ≡ at_its_key (κ m) k (cond ((b && a) && c) (Some v) (n (p.d.variable m.site w) m.tuple))
          go true true true true i l j o = sym (ap (λ y. at_its_key y k (Some v)) (is_now j o) ∙ ap (λ b. cond b (Some v) None) (flipped key k ∙ l))
          go true false true true i l j o =
              ap (λ y. at_its_key y k (n (p.d.variable m.site w) m.tuple)) (is_now j o) ∙ ap (λ b. cond b (n (p.d.variable m.site w) m.tuple) None) (flipped key k ∙ l)
              ∙ sym (ap (λ y. at_its_key y k (Some v)) (is_now j o) ∙ ap (λ b. cond b (Some v) None) (flipped key k ∙ l))
          go true true true false i l j o = refl
          go true false true false i l j o = refl
          go true true false c i l j o = refl
          go true false false c i l j o = refl
          go false true true c i l j o = refl
          go false false true c i l j o = refl
          go false true false c i l j o = refl
          go false false false c i l j o = refl

      unmade_put : (m : CallNumber) → κ m ≡ None → (w : ℕ) → p.has m.site w ≡ true → n' (p.d.variable m.site w) m.tuple ≡ None
      unfolding put
      unmade_put m f w h = ap (λ b. cond (b && same_tuple m.tuple (tuple p.at)) (Some v) (n (p.d.variable m.site w) m.tuple)) (variables_apart p nm m.site w p.c.number z h hz) ∙ go (m.site == p.c.number) (w == z) (same_tuple m.tuple (tuple p.at)) refl refl (st.unmade m f w h)
        where
          clash : (k : List ℕ) → None ≡ Some k → ⊥
          clash k c = cc

          go : (b a c : Bool) → (m.site == p.c.number) ≡ b → same_tuple m.tuple (tuple p.at) ≡ c → n (p.d.variable m.site w) m.tuple ≡ None → cond ((b && a) && c) (Some v) (n (p.d.variable m.site w) m.tuple) ≡ None
          go true true true j k o =
              let is_now : m ≡ (this_call p) = λ x. record { tuple = same_tuple_exact m.tuple (tuple p.at) k x; site = eqb-true m.site p.c.number j x } in
              absurd (clash key (sym f ∙ ap κ is_now ∙ sc.mine))
          go true true false j k o = o
          go true false c j k o = o
          go false a c j k o = o

      pub stage_put : IsServing p nm κ key ((z, Own) ∷ Σ) (assigned e z v) n' q
      stage_put = record {
        arrays = array_put;
        names = λ x. go x (z == x) refl;
        opened = λ x. reach x (z == x);
        number = st.number;
        its_key = st.its_key;
        here = sym (key_same n n' (λ y u f. others y u (not_z (plain p nm) plain_z y f))) ∙ st.here;
        unmade = unmade_put;
        unassigned = λ x hx e. let i = or_parts (z == x) _ e in sym (others (p.d.variable p.c.number x) (tuple p.at) (ap not (variables_apart p nm p.c.number x p.c.number z hx hz ∙ ap₂ ◌&&◌ (eq-eqb p.c.number p.c.number refl) (turned x i.0)))) ∙ st.unassigned x hx i.1;
      }
        where
          turned : (x : ℕ) → (z == x) ≡ false → (x == z) ≡ false
          turned x f = test (x == z) refl
            where
              test : (b : Bool) → (x == z) ≡ b → b ≡ false
              test true i = absurd (both_ways _ f (eq-eqb z x (sym (eqb-true x z i))))
              test false i = refl

          reach : (x : ℕ) (b : Bool) → IsOpened p nm q (cond b (Some Own) (standing_of Σ x))
          reach x true = tt
          reach x false = st.opened x

          go : (x : ℕ) (b : Bool) → (z == x) ≡ b → IsMeant p κ e.key n' x (cond b (Some Own) (standing_of Σ x)) (cond b (Some (IsValue v)) (meaning_of e.names x))
          go x true f = subst (λ y. (p.has p.c.number y ≡ true) × (n' (p.d.variable p.c.number y) (tuple p.at) ≡ Some v)) (eqb-true z x f) (hz, put_here n (p.d.variable p.c.number z) (tuple p.at) v)
          go x false f =
              meant_kept (λ y. not (y == p.d.variable p.c.number z)) (not_z (plain p nm) plain_z) key_z q (not_z (seen p nm q) (seen_variable p nm q p.c.number z hz)) n n' others e.key x (standing_of Σ x) (meaning_of e.names x) (st.opened x)
              (λ o hx. others (p.d.variable p.c.number x) (tuple p.at) (ap not (variables_apart p nm p.c.number x p.c.number z hx hz ∙ ap₂ ◌&&◌ (eq-eqb p.c.number p.c.number refl) (other x f)))) (st.names x)
            where
              other : (x : ℕ) → (z == x) ≡ false → (x == z) ≡ false
              other x f = test (x == z) refl
                where
                  test : (b : Bool) → (x == z) ≡ b → b ≡ false
                  test true i = absurd (both_ways _ f (eq-eqb z x (sym (eqb-true x z i))))
                  test false i = refl

      pub elsewhere_put : IsAsBefore p nm n n'
      elsewhere_put = record {
        elsewhere = λ y u f. others y u (not_z (elsewhere p nm) (elsewhere_variable p nm z hz) y f);
        other_tuples = λ y u e. put_elsewhere n (p.d.variable p.c.number z) (tuple p.at) v y u e;
      }

    -- the indices of a find at a place
    module _ (Σ : Scope) (e : Frame) (n : Store) (q o b : ℕ) (op : p.opens q o b ≡ true) (rs : List (ℕ × ℕ)) (ar : p.arity o ≡ length rs) (w : List ℕ) (st : IsServing p nm κ key Σ e n q) where
      few : 0 + length rs ≤ p.arity o
      few = omega (arith, ar)

      names_here : AreNames p.drawn (p.d.index p.c.number q o b) (p.arity o)
      names_here = index_names p nm q o b op

      abbrev with_own : Store
      with_own = bound_to n (tuple p.at) (binders (branch_indices (p.d.index p.c.number q o b) 0 rs)) w

      pub steady_bound : AgreeOn (steady p nm q) n with_own
      steady_bound = bound_agree n (tuple p.at) (binders (branch_indices (p.d.index p.c.number q o b) 0 rs)) w (steady p nm q) (λ y. steady_unbound p nm q o b 0 op rs few y)

      pub elsewhere_bound : IsAsBefore p nm n with_own
      elsewhere_bound = record {
        elsewhere = bound_agree n (tuple p.at) (binders (branch_indices (p.d.index p.c.number q o b) 0 rs)) w (elsewhere p nm) (λ y. elsewhere_unbound p nm q o b 0 op rs few y);
        other_tuples = λ y u e. bound_elsewhere n (tuple p.at) (binders (branch_indices (p.d.index p.c.number q o b) 0 rs)) w y u e;
      }

      pub plain_bound : AgreeOn (plain p nm) n with_own
      plain_bound = λ y u f. steady_bound y u (plain_steady p nm q y f)

      pub names_bound : (x : ℕ) → IsMeant p κ e.key with_own x (standing_of Σ x) (meaning_of e.names x)
      names_bound x =
          meant_kept (steady p nm q) (plain_steady p nm q) (ap (is_steady p.c.number q) nm.key) q (seen_steady p nm q) n with_own steady_bound e.key x (standing_of Σ x) (meaning_of e.names x) (st.opened x)
          (λ i hx. steady_bound (p.d.variable p.c.number x) (tuple p.at) (steady_variable p nm q p.c.number x hx)) (st.names x)

      pub arrays_bound : HasArrays p κ e.arrays with_own
      arrays_bound v k m h = st.arrays v k m h ∙ ap (at_its_key (κ m) k) (steady_bound (p.d.variable m.site v) m.tuple (steady_variable p nm q m.site v h))

      pub here_bound : values p.g p.at with_own p.c.key ≡ key
      here_bound = sym (key_same n with_own plain_bound) ∙ st.here

      -- with a call for the index, further down
      pub stage_bound : (u r : ℕ) → q < r → (num : CallNumber) → num.tuple ≡ w → num.site ≡ o → κ num ≡ Some key → fits p.g.interpretation.parameter_value (binders (branch_indices (p.d.index p.c.number q o b) 0 rs)) w ≡ true
          → IsServing p nm κ key ((u, CallOf o (index_reads (index_terms p.c.replications) (p.d.index p.c.number q o b) 0 rs)) ∷ Σ) (with_call e u num) with_own r
      unfolding reads_only
      stage_bound u r l num et es km f = record {
        arrays = arrays_bound;
        names = λ x. go x (u == x);
        opened = λ x. reach x (u == x);
        number = st.number;
        its_key = st.its_key;
        here = here_bound;
        unmade = λ m z v h. sym (steady_bound (p.d.variable m.site v) m.tuple (steady_variable p nm q m.site v h)) ∙ st.unmade m z v h;
        unassigned = λ x hx i. sym (steady_bound (p.d.variable p.c.number x) (tuple p.at) (steady_variable p nm q p.c.number x hx)) ∙ st.unassigned x hx i;
      }
        where
          reads : Tree
          reads = index_reads (index_terms p.c.replications) (p.d.index p.c.number q o b) 0 rs

          here_seen : (rs : List (ℕ × ℕ)) → ((x : ℕ) → is_index_of rs x ≡ true → seen p nm r x ≡ true) → reads_only (seen p nm r) (index_terms rs) ≡ true
          here_seen [] h = refl
          here_seen (i ∷ rs) h = ap₂ ◌&&◌ (ap (λ c. c && true) (h i.0 (ap (λ c. c || is_index_of rs i.0) (eq-eqb i.0 i.0 refl)))) (here_seen rs (λ x j. h x (or_right (i.0 == x) j)))
            where
              or_right : (c : Bool) {d : Bool} → d ≡ true → (c || d) ≡ true
              or_right true j = refl
              or_right false j = j

          replication_seen : (x : ℕ) → is_index_of p.c.replications x ≡ true → seen p nm r x ≡ true
          replication_seen x j = ap (is_seen p.c.number r) (nm.replications x j)

          read_seen : (y : ℕ) (ts : Tree) → seen p nm r y ≡ true → reads_only (seen p nm r) ts ≡ true → reads_only (seen p nm r) (read_at y ts) ≡ true
          read_seen y Empty j k = ap (λ c. c && true) j
          read_seen y (Node h a d) j k = ap₂ ◌&&◌ j (ap (λ c. c && true) k)

          all_seen : (k : ℕ) (rs : List (ℕ × ℕ)) → k + length rs ≤ p.arity o → reads_only (seen p nm r) (index_reads (index_terms p.c.replications) (p.d.index p.c.number q o b) k rs) ≡ true
          all_seen k [] c = refl
          all_seen k (i ∷ rs) c = ap₂ ◌&&◌ (read_seen (p.d.index p.c.number q o b k) (index_terms p.c.replications) (seen_index p nm q r o b k op (omega arith) l) (here_seen p.c.replications replication_seen)) (all_seen (suc k) rs (omega arith))

          reach : (x : ℕ) (c : Bool) → IsOpened p nm r (cond c (Some (CallOf o reads)) (standing_of Σ x))
          reach x true = all_seen 0 rs few
          reach x false = opened_later q r (omega arith) (standing_of Σ x) (st.opened x)

          go : (x : ℕ) (c : Bool) → IsMeant p κ e.key with_own x (cond c (Some (CallOf o reads)) (standing_of Σ x)) (cond c (Some (IsCall num)) (meaning_of e.names x))
          go x true = (
            sym es,
            index_tuple p (p.d.index p.c.number q o b) (p.arity o) names_here p.g.interpretation.parameter_value rs w 0 n few f ∙ sym et,
            km ∙ ap Some (sym st.its_key),
            ap length et ∙ fits_length p (p.d.index p.c.number q o b) (p.arity o) names_here p.g.interpretation.parameter_value rs w 0 f ∙ sym ar ∙ ap p.arity (sym es),
          )
          go x false = names_bound x

    -- the result's value in later stores

    pub result_later : (Σ : Scope) (e : Frame) (n : Store) (q : ℕ) → IsServing p nm κ key Σ e n q → (m : Store) → IsLater p nm κ n m → Agrees p κ Σ e m
    result_later Σ e n q st m la = record {
      arrays = λ v k c h. st.arrays v k c h ∙ same v k c h (κ c) refl;
      names = λ x. meant_kept (kept p nm) (plain_kept p nm) (ap (is_kept p.c.number) nm.key) q (seen_kept p nm q) n m la.names e.key x (standing_of Σ x) (meaning_of e.names x) (st.opened x) (λ i hx. la.calls (this_call p) key sc.mine x hx) (st.names x);
    }
      where
        same : (v : ℕ) (k : List ℕ) (c : CallNumber) → p.has c.site v ≡ true → (o : Option (List ℕ)) → κ c ≡ o → at_its_key (κ c) k (n (p.d.variable c.site v) c.tuple) ≡ at_its_key (κ c) k (m (p.d.variable c.site v) c.tuple)
        same v k c h None z = ap (λ o. at_its_key o k (n (p.d.variable c.site v) c.tuple)) z ∙ sym (ap (λ o. at_its_key o k (m (p.d.variable c.site v) c.tuple)) z)
        same v k c h (Some j) z = ap (at_its_key (κ c) k) (la.calls c j z v h)
