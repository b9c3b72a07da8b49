-- What a name is drawn for: so drawn names differ from each other and from the names of the game.
use Rattle.std.proofs.Common.{◌≡◌, ℕ, suc, ◌+◌, ◌<◌, ◌≤◌, length, Bool, true, false, ◌||◌, ◌&&◌, not, ◌==◌, List, [], ◌∷◌, refl, sym, ap, ap₂, ◌∙◌, eq-eqb, eqb-true, nat_lt, ltb-true, lt-ltb, le-ltb, arith}
use Rattle.std.proofs.lemmas.Bool.{both_ways, and_parts}
use Rattle.cv_syntax_trees.specs.declared.head.Head.TheVariants.{Leaf, Read}
use Rattle.cv_syntax_trees.specs.Tree.{Tree, Empty, Node, binders, binds, reads_only}
use Rattle.cv_meaning.specs.contexts.Inlined.{branch_indices}
use Rattle.cv_meaning.specs.contexts.Roles.{Role, Plain, Replication, Gone, TheKeyName, Variable, Index, is_plain, is_elsewhere, is_seen, is_kept}
use Rattle.cv_inline.specs.bodies.Inlining.{Inlining, Naming, plain, elsewhere, seen, kept}
use Rattle.cv_inline.proofs.bodies.Keys.{AreNames}

-- no index of the find at this place
abbrev pub is_steady : ℕ → ℕ → Role → Bool
is_steady c q (Index s r o b k) = not ((s == c) && (r == q))
is_steady c q r = true

pub apart_from : (on : ℕ → Bool) (x y : ℕ) → on x ≡ true → on y ≡ false → (x == y) ≡ false
apart_from on x y e f = go (x == y) refl
  where
    go : (b : Bool) → (x == y) ≡ b → b ≡ false
    go true q = absurd (both_ways _ f (ap on (sym (eqb-true x y q)) ∙ e))
    go false q = refl

pub reads_more : (f h : ℕ → Bool) → ((y : ℕ) → f y ≡ true → h y ≡ true) → (a : Tree) → reads_only f a ≡ true → reads_only h a ≡ true
unfolding reads_only
reads_more f h k Empty e = refl
reads_more f h k (Node (Leaf x) a b) e = let p = and_parts (f x) _ e in let r = and_parts (reads_only f a) _ p.1 in ap₂ ◌&&◌ (k x p.0) (ap₂ ◌&&◌ (reads_more f h k a r.0) (reads_more f h k b r.1))
reads_more f h k (Node (Read x) a b) e = let p = and_parts (f x) _ e in let r = and_parts (reads_only f a) _ p.1 in ap₂ ◌&&◌ (k x p.0) (ap₂ ◌&&◌ (reads_more f h k a r.0) (reads_more f h k b r.1))
reads_more f h k (Node j a b) e = let r = and_parts (reads_only f a) _ e in ap₂ ◌&&◌ (reads_more f h k a r.0) (reads_more f h k b r.1)

module _ (p : Inlining) (nm : Naming p) where
  abbrev pub steady : ℕ → ℕ → Bool
  steady q y = is_steady p.c.number q (nm.role y)

  self : (p.c.number == p.c.number) ≡ true
  self = eq-eqb p.c.number p.c.number refl

  pub elsewhere_variable : (v : ℕ) → p.has p.c.number v ≡ true → elsewhere p nm (p.d.variable p.c.number v) ≡ false
  elsewhere_variable v h = ap (is_elsewhere p.c.number) (nm.variables p.c.number v h) ∙ ap not self

  pub elsewhere_index : (q o b k : ℕ) → p.opens q o b ≡ true → k < p.arity o → elsewhere p nm (p.d.index p.c.number q o b k) ≡ false
  elsewhere_index q o b k op l = ap (is_elsewhere p.c.number) (nm.indices q o b k op l) ∙ ap not self

  pub steady_index : (q o b k : ℕ) → p.opens q o b ≡ true → k < p.arity o → steady q (p.d.index p.c.number q o b k) ≡ false
  steady_index q o b k op l = ap (is_steady p.c.number q) (nm.indices q o b k op l) ∙ ap₂ (λ a z. not (a && z)) self (eq-eqb q q refl)

  pub steady_variable : (q s v : ℕ) → p.has s v ≡ true → steady q (p.d.variable s v) ≡ true
  steady_variable q s v h = ap (is_steady p.c.number q) (nm.variables s v h)

  pub seen_index : (q r o b k : ℕ) → p.opens q o b ≡ true → k < p.arity o → q < r → seen p nm r (p.d.index p.c.number q o b k) ≡ true
  seen_index q r o b k op m l = ap (is_seen p.c.number r) (nm.indices q o b k op m) ∙ ap₂ ◌&&◌ self (lt-ltb q r l)

  -- inclusions, by role
  pub plain_elsewhere : (y : ℕ) → plain p nm y ≡ true → elsewhere p nm y ≡ true
  plain_elsewhere y e = go (nm.role y) e
    where
      go : (r : Role) → is_plain r ≡ true → is_elsewhere p.c.number r ≡ true
      go Plain e = refl
      go TheKeyName e = refl
      go Replication e = refl
      go Gone e = refl
      go (Variable s v) e = absurd (both_ways _ refl e)
      go (Index s q o b k) e = absurd (both_ways _ refl e)

  pub plain_steady : (q y : ℕ) → plain p nm y ≡ true → steady q y ≡ true
  plain_steady q y e = go (nm.role y) e
    where
      go : (r : Role) → is_plain r ≡ true → is_steady p.c.number q r ≡ true
      go Plain e = refl
      go TheKeyName e = refl
      go Replication e = refl
      go Gone e = refl
      go (Variable s v) e = refl
      go (Index s r o b k) e = absurd (both_ways _ refl e)

  pub plain_kept : (y : ℕ) → plain p nm y ≡ true → kept p nm y ≡ true
  plain_kept y e = go (nm.role y) e
    where
      go : (r : Role) → is_plain r ≡ true → is_kept p.c.number r ≡ true
      go Plain e = refl
      go TheKeyName e = refl
      go Replication e = refl
      go Gone e = absurd (both_ways _ refl e)
      go (Variable s v) e = absurd (both_ways _ refl e)
      go (Index s q o b k) e = absurd (both_ways _ refl e)

  pub seen_kept : (q y : ℕ) → seen p nm q y ≡ true → kept p nm y ≡ true
  seen_kept q y e = go (nm.role y) e
    where
      go : (r : Role) → is_seen p.c.number q r ≡ true → is_kept p.c.number r ≡ true
      go Plain e = refl
      go TheKeyName e = refl
      go Replication e = refl
      go Gone e = absurd (both_ways _ refl e)
      go (Variable s v) e = absurd (both_ways _ refl e)
      go (Index s r o b k) e = (and_parts (s == p.c.number) _ e).0

  pub seen_steady : (q y : ℕ) → seen p nm q y ≡ true → steady q y ≡ true
  seen_steady q y e = go (nm.role y) e
    where
      go : (r : Role) → is_seen p.c.number q r ≡ true → is_steady p.c.number q r ≡ true
      go Plain e = refl
      go TheKeyName e = refl
      go Replication e = refl
      go Gone e = refl
      go (Variable s v) e = refl
      go (Index s r o b k) e = differ (s == p.c.number) (r == q) refl (and_parts (s == p.c.number) _ e).1
        where
          differ : (x y : Bool) → (r == q) ≡ y → nat_lt r q ≡ true → not (x && y) ≡ true
          differ x false z l = ap not (off x)
            where
              off : (x : Bool) → (x && false) ≡ false
              off true = refl
              off false = refl
          differ x true z l = absurd (both_ways _ (le-ltb r q (let i : r ≡ q = eqb-true r q z in omega arith)) l)

  pub seen_later : (q r y : ℕ) → q ≤ r → seen p nm q y ≡ true → seen p nm r y ≡ true
  seen_later q r y l e = go (nm.role y) e
    where
      go : (x : Role) → is_seen p.c.number q x ≡ true → is_seen p.c.number r x ≡ true
      go Plain e = e
      go TheKeyName e = e
      go Replication e = refl
      go Gone e = absurd (both_ways _ refl e)
      go (Variable s v) e = e
      go (Index s t o b k) e = let z = and_parts (s == p.c.number) _ e in ap₂ ◌&&◌ z.0 (let i : t < q = ltb-true t q z.1 in lt-ltb t r (omega arith))

  pub seen_variable : (q s v : ℕ) → p.has s v ≡ true → seen p nm q (p.d.variable s v) ≡ false
  seen_variable q s v h = ap (is_seen p.c.number q) (nm.variables s v h)

  -- the names of a branch's indices
  pub index_names : (q o b : ℕ) → p.opens q o b ≡ true → AreNames p.drawn (p.d.index p.c.number q o b) (p.arity o)
  index_names q o b op = record { apart = λ i j l m. go i j l m (i == j) refl; are_drawn = λ j. nm.index_drawn q o b j op }
    where
      number : Role → ℕ
      number (Index s q o b k) = k
      number r = 0

      go : (i j : ℕ) → i < p.arity o → j < p.arity o → (z : Bool) → (i == j) ≡ z → (p.d.index p.c.number q o b i == p.d.index p.c.number q o b j) ≡ z
      go i j l m true e = eq-eqb _ _ (ap (p.d.index p.c.number q o b) (eqb-true i j e))
      go i j l m false e = test (p.d.index p.c.number q o b i == p.d.index p.c.number q o b j) refl
        where
          test : (z : Bool) → (p.d.index p.c.number q o b i == p.d.index p.c.number q o b j) ≡ z → z ≡ false
          test true q' = absurd (both_ways _ e (eq-eqb i j (sym (ap number (nm.indices q o b i op l)) ∙ ap (λ y. number (nm.role y)) (eqb-true (p.d.index p.c.number q o b i) (p.d.index p.c.number q o b j) q') ∙ ap number (nm.indices q o b j op m))))
          test false q' = refl

  pub steady_unbound : (q o b k : ℕ) → p.opens q o b ≡ true → (rs : List (ℕ × ℕ)) → k + length rs ≤ p.arity o → (y : ℕ) → steady q y ≡ true → binds (binders (branch_indices (p.d.index p.c.number q o b) k rs)) y ≡ false
  unfolding binds
  steady_unbound q o b k op [] c y e = refl
  steady_unbound q o b k op (r ∷ rs) c y e = ap₂ ◌||◌ (apart_from (steady q) y _ e (steady_index q o b k op (omega arith))) (steady_unbound q o b (suc k) op rs (omega arith) y e)

  pub elsewhere_unbound : (q o b k : ℕ) → p.opens q o b ≡ true → (rs : List (ℕ × ℕ)) → k + length rs ≤ p.arity o → (y : ℕ) → elsewhere p nm y ≡ true → binds (binders (branch_indices (p.d.index p.c.number q o b) k rs)) y ≡ false
  unfolding binds
  elsewhere_unbound q o b k op [] c y e = refl
  elsewhere_unbound q o b k op (r ∷ rs) c y e = ap₂ ◌||◌ (apart_from (elsewhere p nm) y _ e (elsewhere_index q o b k op (omega arith))) (elsewhere_unbound q o b (suc k) op rs (omega arith) y e)

  -- variables that are drawn for different names, or at different sites
  pub variables_apart : (s v s' v' : ℕ) → p.has s v ≡ true → p.has s' v' ≡ true → (p.d.variable s v == p.d.variable s' v') ≡ ((s == s') && (v == v'))
  variables_apart s v s' v' h h' = go (s == s') (v == v') refl refl
    where
      site : Role → ℕ
      site (Variable s v) = s
      site r = 0

      name : Role → ℕ
      name (Variable s v) = v
      name r = 0

      same : (f : Role → ℕ) → (p.d.variable s v == p.d.variable s' v') ≡ true → f (Variable s v) ≡ f (Variable s' v')
      same f q = sym (ap f (nm.variables s v h)) ∙ ap (λ y. f (nm.role y)) (eqb-true (p.d.variable s v) (p.d.variable s' v') q) ∙ ap f (nm.variables s' v' h')

      test : (x : Bool) → ((p.d.variable s v == p.d.variable s' v') ≡ true → x ≡ true) → x ≡ false → (z : Bool) → (p.d.variable s v == p.d.variable s' v') ≡ z → z ≡ false
      test x f e true q = absurd (both_ways _ e (f q))
      test x f e false q = refl

      go : (x y : Bool) → (s == s') ≡ x → (v == v') ≡ y → (p.d.variable s v == p.d.variable s' v') ≡ (x && y)
      go true true e f = eq-eqb _ _ (ap₂ p.d.variable (eqb-true s s' e) (eqb-true v v' f))
      go true false e f = test (v == v') (λ q. eq-eqb v v' (same name q)) f (p.d.variable s v == p.d.variable s' v') refl
      go false y e f = test (s == s') (λ q. eq-eqb s s' (same site q)) e (p.d.variable s v == p.d.variable s' v') refl
