-- The value of a body's term at a call is that of its text in the next game.
use Rattle.std.proofs.Common.{◌≡◌, ℕ, zero, suc, Bool, true, false, cond, ◌||◌, ◌&&◌, not, ◌==◌, List, [], ◌∷◌, Option, Some, None, refl, sym, ap, ap₂, subst, ◌∙◌, length, is_some, eq-eqb, eqb-true, arith}
use Rattle.cv_syntax_trees.specs.declared.head.Head.TheVariants.{Leaf, Read, Apply, Eq, And, Or, Not, Yes, No, Cons}
use Rattle.cv_syntax_trees.specs.Tree.{Tree, Empty, Node, lone, first}
use Rattle.cv_meaning.specs.Tapes.{same_tuple}
use Rattle.cv_meaning.specs.Side.{CallNumber}
use Rattle.cv_meaning.specs.Memory.{Store}
use Rattle.cv_meaning.specs.Terms.{or_zero, bit, is_one, leaf_value_from, value, values}
use Rattle.cv_meaning.specs.Candidates.{is_assigned}
use Rattle.cv_meaning.specs.contexts.Frames.{Meaning, IsValue, IsCall, Frame, meaning_of}
use Rattle.cv_meaning.specs.contexts.BodyTerms.{call_meant, call_at, array_at, plain_value, are_equal, body_value, body_values}
use Rattle.cv_inline.specs.bodies.Inlining.{Inlining}
use Rattle.cv_inline.specs.bodies.Accepted.{IsFineArray, IsFineTerm, AreFineTerms}
use Rattle.cv_inline.specs.bodies.Related.{MadeUnder, at_its_key, IsMeant, HasArrays}
use Rattle.cv_meaning.specs.contexts.Inlined.{Standing, TheKey, Own, CallOf, Scope, standing_of, read_at, index_terms, own_variable, leaf_in_game, called, call_in, array_in_game, all_equal, indices_equal, in_game, and_equal, tuples_equal}
use Rattle.cv_meaning_laws.proofs.Counts.{same_tuple_refl}

pub one_bit : (b : Bool) → is_one (bit b) ≡ b
one_bit true = refl
one_bit false = refl

module _ (p : Inlining) where
  -- reads of drawn names

  pub read_value : (y : ℕ) → p.drawn y ≡ true → (ts : Tree) (n : Store) → value p.g p.at n (read_at y ts) ≡ or_zero (n y (values p.g p.at n ts))
  unfolding value
  read_value y e Empty n = let f = p.free y e in ap (leaf_value_from p.g n y) f.0 ∙ ap (λ b. cond b (p.g.interpretation.table y []) (or_zero (n y []))) f.1
  read_value y e (Node h a b) n = refl

  pub read_assigned : (y : ℕ) (ts : Tree) (m n : Store) → is_assigned p.g p.at m n (read_at y ts) ≡ is_some (m y (values p.g p.at n ts))
  unfolding value
  read_assigned y Empty m n = refl
  read_assigned y (Node h a b) m n = refl

  pub record Agrees (κ : MadeUnder) (Σ : Scope) (e : Frame) (n : Store) : Type 0 where
    pub arrays : HasArrays p κ e.arrays n
    pub names : (x : ℕ) → IsMeant p κ e.key n x (standing_of Σ x) (meaning_of e.names x)

  -- calls

  abbrev pub SameCall : MadeUnder → List ℕ → Store → Option (ℕ × Tree) → Option CallNumber → Type 0
  SameCall κ key n None None = Unit {0}
  SameCall κ key n (Some k) (Some m) = (k.0 ≡ m.site) × (values p.g p.at n k.1 ≡ m.tuple) × (κ m ≡ Some key) × (length m.tuple ≡ p.arity m.site)
  SameCall κ key n _ _ = ⊥

  -- equations of lists of terms of one length
  pub equal_value : (ts us m : Tree) (n : Store) → length (values p.g p.at n ts) ≡ length (values p.g p.at n us)
      → is_one (value p.g p.at n (all_equal ts us m)) ≡ (same_tuple (values p.g p.at n ts) (values p.g p.at n us) && is_one (value p.g p.at n m))
  unfolding value all_equal
  equal_value Empty Empty m n e = refl
  equal_value (Node h a more) (Node k b rest) m n e =
      let l : length (values p.g p.at n more) ≡ length (values p.g p.at n rest) = omega arith in
      one_bit _
      ∙ ap₂ ◌&&◌ (one_bit (value p.g p.at n a == value p.g p.at n b)) (equal_value more rest m n l)
      ∙ joined (value p.g p.at n a == value p.g p.at n b) (same_tuple (values p.g p.at n more) (values p.g p.at n rest)) (is_one (value p.g p.at n m))
    where
      joined : (x y z : Bool) → (x && (y && z)) ≡ ((x && y) && z)
      joined true y z = refl
      joined false y z = refl
  equal_value Empty (Node k b rest) m n e = let l : zero ≡ suc (length (values p.g p.at n rest)) = e in absurd (omega arith)
  equal_value (Node h a more) Empty m n e = let l : suc (length (values p.g p.at n more)) ≡ zero = e in absurd (omega arith)

  -- a term, and then equations
  and_equal_bit : (m ts us : Tree) (n : Store) (z : Bool) → value p.g p.at n m ≡ bit z → length (values p.g p.at n ts) ≡ length (values p.g p.at n us) → value p.g p.at n (and_equal m ts us) ≡ bit (z && same_tuple (values p.g p.at n ts) (values p.g p.at n us))
  unfolding value and_equal
  and_equal_bit m Empty Empty n z v e = v ∙ ap bit (alone z)
    where
      alone : (z : Bool) → z ≡ (z && true)
      alone true = refl
      alone false = refl
  and_equal_bit m (Node h a more) (Node k b rest) n z v e =
      let l : length (values p.g p.at n more) ≡ length (values p.g p.at n rest) = omega arith in
      let next = and_equal_bit (Node Eq a b) more rest n (value p.g p.at n a == value p.g p.at n b) refl l in
      ap bit (ap₂ ◌&&◌ (ap is_one v ∙ one_bit z) (ap is_one next ∙ one_bit ((value p.g p.at n a == value p.g p.at n b) && same_tuple (values p.g p.at n more) (values p.g p.at n rest))))
  and_equal_bit m Empty (Node k b rest) n z v e = let l : zero ≡ suc (length (values p.g p.at n rest)) = e in absurd (omega arith)
  and_equal_bit m (Node h a more) Empty n z v e = let l : suc (length (values p.g p.at n more)) ≡ zero = e in absurd (omega arith)

  pub tuples_bit : (ts us : Tree) (n : Store) → length (values p.g p.at n ts) ≡ length (values p.g p.at n us) → value p.g p.at n (tuples_equal ts us) ≡ bit (same_tuple (values p.g p.at n ts) (values p.g p.at n us))
  unfolding value
  tuples_bit Empty Empty n e = refl
  tuples_bit (Node h a more) (Node k b rest) n e =
      let l : length (values p.g p.at n more) ≡ length (values p.g p.at n rest) = omega arith in
      and_equal_bit (Node Eq a b) more rest n (value p.g p.at n a == value p.g p.at n b) refl l
  tuples_bit Empty (Node k b rest) n e = let l : zero ≡ suc (length (values p.g p.at n rest)) = e in absurd (omega arith)
  tuples_bit (Node h a more) Empty n e = let l : suc (length (values p.g p.at n more)) ≡ zero = e in absurd (omega arith)

  module _ (κ : MadeUnder) (Σ : Scope) (e : Frame) (n : Store) (ag : Agrees κ Σ e n) where
    name_call : (x : ℕ) (o : Option Standing) (r : Option Meaning) → IsMeant p κ e.key n x o r → SameCall κ e.key n (called o) (call_meant r)
    name_call x None None h = tt
    name_call x (Some TheKey) (Some (IsValue v)) h = tt
    name_call x (Some Own) (Some (IsValue v)) h = tt
    name_call x (Some (CallOf s ts)) (Some (IsCall m)) h = h
    name_call x None (Some (IsValue v)) h = absurd h
    name_call x None (Some (IsCall m)) h = absurd h
    name_call x (Some TheKey) None h = absurd h
    name_call x (Some TheKey) (Some (IsCall m)) h = absurd h
    name_call x (Some Own) None h = absurd h
    name_call x (Some Own) (Some (IsCall m)) h = absurd h
    name_call x (Some (CallOf s ts)) None h = absurd h
    name_call x (Some (CallOf s ts)) (Some (IsValue v)) h = absurd h

    pub calls_same : (a : Tree) → SameCall κ e.key n (call_in Σ a) (call_at e a)
    calls_same Empty = tt
    calls_same (Node (Leaf u) a b) = name_call u (standing_of Σ u) (meaning_of e.names u) (ag.names u)
    calls_same (Node h a b) = tt

    -- v[u]
    found : (v : ℕ) (m : CallNumber) → p.has m.site v ≡ true → κ m ≡ Some e.key → e.arrays v e.key m ≡ n (p.d.variable m.site v) m.tuple
    found v m h k = ag.arrays v e.key m h ∙ ap (λ o. at_its_key o e.key (n (p.d.variable m.site v) m.tuple)) k ∙ ap (λ b. cond b (n (p.d.variable m.site v) m.tuple) None) (same_tuple_refl e.key)

    array_value : (v : ℕ) (k : Option (ℕ × Tree)) (m : Option CallNumber) → SameCall κ e.key n k m → IsFineArray p v k → value p.g p.at n (array_in_game p.d v k) ≡ or_zero (array_at e v m)
    array_value v (Some k) (Some m) h f =
        let has : p.has m.site v ≡ true = subst (λ s. p.has s v ≡ true) h.0 f in
        read_value (p.d.variable k.0 v) (p.drawn_at k.0 v f) k.1 n ∙ ap or_zero (ap₂ (λ s w. n (p.d.variable s v) w) h.0 h.1 ∙ sym (found v m has h.2))
    array_value v None m h f = absurd f
    array_value v (Some k) None h f = absurd h

    leaf_in : (x : ℕ) (o : Option Standing) (r : Option Meaning) → IsMeant p κ e.key n x o r → (o ≡ None → p.constant x ≡ true) → value p.g p.at n (leaf_in_game p.d p.c x o) ≡ plain_value p.g x r
    unfolding value
    leaf_in x None None h f = let k = p.constants x (f refl) in ap (λ b. value p.g p.at n (cond b (own_variable p.d p.c x) (lone (Leaf x)))) k.2 ∙ ap (leaf_value_from p.g n x) k.1 ∙ ap (λ b. cond b (p.g.interpretation.table x []) (or_zero (n x []))) k.0 ∙ sym (ap (λ b. cond b (p.g.interpretation.table x []) 0) k.0)
    leaf_in x (Some TheKey) (Some (IsValue v)) h f = read_value p.d.key p.drawn_key p.c.key n ∙ ap or_zero h
    leaf_in x (Some Own) (Some (IsValue v)) h f =
        read_value (p.d.variable p.c.number x) (p.drawn_at p.c.number x h.0) (index_terms p.c.replications) n ∙ ap (λ w. or_zero (n (p.d.variable p.c.number x) w)) (p.here n) ∙ ap or_zero h.1
    leaf_in x (Some (CallOf s ts)) (Some (IsCall m)) h f = refl
    leaf_in x None (Some (IsValue v)) h f = absurd h
    leaf_in x None (Some (IsCall m)) h f = absurd h
    leaf_in x (Some TheKey) None h f = absurd h
    leaf_in x (Some TheKey) (Some (IsCall m)) h f = absurd h
    leaf_in x (Some Own) None h f = absurd h
    leaf_in x (Some Own) (Some (IsCall m)) h f = absurd h
    leaf_in x (Some (CallOf s ts)) None h f = absurd h
    leaf_in x (Some (CallOf s ts)) (Some (IsValue v)) h f = absurd h

    -- u = w
    indices_value : (a b : Tree) (x y : ℕ) (j k : Option (ℕ × Tree)) (l m : Option CallNumber) → SameCall κ e.key n j l → SameCall κ e.key n k m → value p.g p.at n a ≡ x → value p.g p.at n b ≡ y
        → value p.g p.at n (indices_equal j k (Node Eq a b)) ≡ bit (are_equal l m (x == y))
    unfolding value
    indices_value a b x y (Some j) (Some k) (Some l) (Some m) h i q r = go (j.0 == k.0) refl
      where
        sites : (l.site == m.site) ≡ (j.0 == k.0)
        sites = ap₂ (λ s t. s == t) (sym h.0) (sym i.0)

        tuples : same_tuple (values p.g p.at n j.1) (values p.g p.at n k.1) ≡ same_tuple l.tuple m.tuple
        tuples = ap₂ same_tuple h.1 i.1

        go : (z : Bool) → (j.0 == k.0) ≡ z → value p.g p.at n (cond z (tuples_equal j.1 k.1) (lone No)) ≡ bit ((l.site == m.site) && same_tuple l.tuple m.tuple)
        go true z =
            let same : l.site ≡ m.site = sym h.0 ∙ eqb-true j.0 k.0 z ∙ i.0 in
            tuples_bit j.1 k.1 n (ap length h.1 ∙ h.3 ∙ ap p.arity same ∙ sym i.3 ∙ sym (ap length i.1))
            ∙ ap bit (tuples ∙ sym (ap (λ q. q && same_tuple l.tuple m.tuple) (sites ∙ z)))
        go false z = sym (ap (λ q. bit (q && same_tuple l.tuple m.tuple)) (sites ∙ z))
    indices_value a b x y None None None None h i q r = ap₂ (λ v w. bit (v == w)) q r
    indices_value a b x y None (Some k) None (Some m) h i q r = ap₂ (λ v w. bit (v == w)) q r
    indices_value a b x y (Some j) None (Some l) None h i q r = ap₂ (λ v w. bit (v == w)) q r
    indices_value a b x y None k (Some l) m h i q r = absurd h
    indices_value a b x y (Some j) k None m h i q r = absurd h
    indices_value a b x y j None l (Some m) h i q r = absurd i
    indices_value a b x y j (Some k) l None h i q r = absurd i

    mutual
      unfolding value in_game IsFineTerm body_value

      pub value_in : (a : Tree) → IsFineTerm p Σ a → value p.g p.at n (in_game p.d p.c Σ a) ≡ body_value p.g e a
      value_in Empty f = refl
      value_in (Node (Leaf x) a b) f = leaf_in x (standing_of Σ x) (meaning_of e.names x) (ag.names x) f
      value_in (Node (Read v) a b) f = array_value v (call_in Σ (first a)) (call_at e (first a)) (calls_same (first a)) f
      value_in (Node (Apply h) a b) f = ap (p.g.interpretation.table h) (values_in a f)
      value_in (Node Eq a b) f = indices_value (in_game p.d p.c Σ a) (in_game p.d p.c Σ b) (body_value p.g e a) (body_value p.g e b) (call_in Σ a) (call_in Σ b) (call_at e a) (call_at e b) (calls_same a) (calls_same b) (value_in a f.0) (value_in b f.1)
      value_in (Node And a b) f = ap₂ (λ x y. bit (is_one x && is_one y)) (value_in a f.0) (value_in b f.1)
      value_in (Node Or a b) f = ap₂ (λ x y. bit (is_one x || is_one y)) (value_in a f.0) (value_in b f.1)
      value_in (Node Not a b) f = ap (λ x. bit (not (is_one x))) (value_in a f)
      value_in (Node h a b) f = refl

      pub values_in : (a : Tree) → AreFineTerms p Σ a → values p.g p.at n (in_game p.d p.c Σ a) ≡ body_values p.g e a
      values_in Empty f = refl
      values_in (Node Cons a b) f = ap₂ ◌∷◌ (value_in a f.0) (values_in b f.1)
      values_in (Node h a b) f = absurd f
