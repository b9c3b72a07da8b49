-- Conjuncts that are found in tables, or that are in none.
use Rattle.std.proofs.Common.{◌≡◌, ℕ, ◌+◌, zero, suc, ◌<◌, ◌≤◌, Bool, true, false, inl, inr, List, [], ◌∷◌, ◌++◌, length, map, refl, ap, ap₂, sym, ◌∙◌, subst, Option, Some, None, eqb-true}
use Rattle.std.specs.Prelude.{◌≢◌, ◌==◌, ◌||◌, if◌then◌else◌, All, IfNone, IfOk, IfSome, Result, Ok, Err, flat_map, slice_get, option_and_then, option_map}
use Rattle.std.specs.List.{list_any}
use Rattle.std.proofs.lemmas.Bool.{both_ways, or_cases, or_left, or_right}
use Rattle.std.proofs.lemmas.List.Folds.{list_any-append}
use Rattle.std.proofs.lemmas.Option.{slice_get-map}
use Rattle.cv_pool.specs.KindTree.{KindTree}
use Rattle.cv_pool.specs.declared.node.NodeId.{NodeId}
use Rattle.cv_syntax.specs.PoolTrees.{tree_at}
use Rattle.cv_syntax_trees.specs.declared.head.Head.{Head}
use Rattle.cv_syntax_trees.specs.declared.head.Head.TheVariants.{And, Eq, Leaf}
use Rattle.cv_syntax_trees.specs.Tree.{Tree, Empty, Node, lone, same_tree}
use Rattle.cv_syntax_trees.proofs.Equality.{same_tree_exact, same_tree_self}
use Rattle.cv_scene.specs.Sights.{from_one}
use Rattle.cv_settling_rules.specs.Conjuncts.{conjuncts, is_among, parts_of}
use Rattle.cv_settling_overview.specs.declared.facts.Citation.{Citation}
use Rattle.cv_settling_overview.specs.declared.facts.Equated.{Equated}
use Rattle.cv_settling_overview.specs.declared.facts.Fact.{Fact}
use Rattle.cv_settling_overview.specs.declared.facts.Fact.TheVariants as fact
use Rattle.cv_settling_overview.specs.declared.facts.Part.{Part}
use Rattle.cv_settling_overview.specs.declared.facts.Side.{Side}
use Rattle.cv_settling_overview.specs.declared.keys.Conjunct.{Conjunct}
use Rattle.cv_settling_overview.specs.declared.keys.Key.{Key}
use Rattle.cv_settling_overview.specs.declared.keys.Key.TheVariants.{Falsity, Denial, Equation, Value}
use Rattle.cv_settling_overview.specs.declared.keys.Key.TheVariants as key
use Rattle.cv_settling_overview.specs.declared.keys.Operand.{Operand}
use Rattle.cv_settling_overview.specs.declared.keys.Operand.TheVariants as operand
use Rattle.cv_settling_overview.specs.Facts.{AreSingle, AreTerms, Cites, IsConjunctOf, IsKey, IsOperandOf, IsPlace, Keeps, cited_tree, condition_of, denial_of, equation_of, fact_tree, full_parts, is_value, key_tree, numbered, side_at, side_of, term_of, tree_under, value_of, values_in}
use Rattle.cv_settling_overview.specs.Findings.{Equates, IsEquated, IsFound, IsPartAt, IsWay}
use Rattle.cv_settling_overview.specs.Keys.{IsAt}
use Rattle.cv_settling_overview.proofs.Keeping.{and_then_some, got_all}
use Rattle.cv_settling_overview.proofs.Reading.{equation_one, some_is}

-- conjuncts that are trees

parts_any : (h : Head) (a b u : Tree) → list_any (same_tree (Node h a b)) (parts_of u) ≡ list_any (same_tree (Node h a b)) (full_parts u)
unfolding parts_of full_parts same_tree
parts_any h a b Empty = refl
parts_any h a b (Node And m n) =
    list_any-append (same_tree (Node h a b)) (parts_of m) (parts_of n)
    ∙ (ap₂ ◌||◌ (parts_any h a b m) (parts_any h a b n)
    ∙ sym (list_any-append (same_tree (Node h a b)) (full_parts m) (full_parts n)))
parts_any h a b (Node k m n) = refl

pub among_full : (h : Head) (a b : Tree) (facts : List Tree) → is_among (conjuncts facts) (Node h a b) ≡ list_any (same_tree (Node h a b)) (flat_map full_parts facts)
among_full h a b [] = refl
among_full h a b (u ∷ facts) =
    list_any-append (same_tree (Node h a b)) (parts_of u) (flat_map parts_of facts)
    ∙ (ap₂ ◌||◌ (parts_any h a b u) (among_full h a b facts)
    ∙ sym (list_any-append (same_tree (Node h a b)) (full_parts u) (flat_map full_parts facts)))

none_empty : (u : Tree) → list_any (same_tree Empty) (full_parts u) ≡ false
unfolding full_parts same_tree
none_empty Empty = refl
none_empty (Node And m n) = list_any-append (same_tree Empty) (full_parts m) (full_parts n) ∙ ap₂ ◌||◌ (none_empty m) (none_empty n)
none_empty (Node k m n) = refl

no_empty : (facts : List Tree) → list_any (same_tree Empty) (flat_map full_parts facts) ≡ false
no_empty [] = refl
no_empty (u ∷ facts) = list_any-append (same_tree Empty) (full_parts u) (flat_map full_parts facts) ∙ ap₂ ◌||◌ (none_empty u) (no_empty facts)

pub among_by : (t : Tree) (facts : List Tree) → list_any (same_tree t) (flat_map full_parts facts) ≡ true → is_among (conjuncts facts) t ≡ true
among_by Empty facts e = absurd (both_ways _ (no_empty facts) e)
among_by (Node h a b) facts e = among_full h a b facts ∙ e

-- trees of a list

any_there : (ts : List Tree) (k : ℕ) (t : Tree) → slice_get ts k ≡ Some t → list_any (same_tree t) ts ≡ true
any_there [] k t e = absurd (cc)
any_there (u ∷ ts) zero t e = let z : u ≡ t = cc in or_left (same_tree t u) _ (ap (same_tree t) z ∙ same_tree_self t)
any_there (u ∷ ts) (suc k) t e = or_right (same_tree t u) _ (any_there ts k t e)

there_any : (f : Conjunct → Tree) (cs : List Conjunct) (t : Tree) → list_any (same_tree t) (map f cs) ≡ true → (k : ℕ) × (c : Conjunct) × (slice_get cs k ≡ Some c) × (t ≡ f c)
there_any f [] t e = absurd (both_ways _ refl e)
there_any f (c ∷ cs) t e = elim (or_cases (same_tree t (f c)) (list_any (same_tree t) (map f cs)) e) [
  | inl s ↦ (zero, c, refl, same_tree_exact t (f c) s)
  | inr s ↦ let r = there_any f cs t s in (suc r.0, r.1, r.2, r.3)
]

false_by : (b : Bool) → (b ≡ true → ⊥) → b ≡ false
false_by false f = refl
false_by true f = absurd (f refl)

module _ (trees : List KindTree) (facts : List Tree) (rs : List (ℕ × ℕ)) (known : List Tree) (xs : List ℕ) (fs : List Fact) (ps : List Part) (cs : List Conjunct) (keeps : Keeps trees facts rs known xs fs ps cs) where
  -- a conjunct at a place is one
  pub known_there : (k : ℕ) (c : Conjunct) → slice_get cs k ≡ Some c → list_any (same_tree (key_tree trees rs c.key)) known ≡ true
  known_there k c e =
      subst (λ ts. list_any (same_tree (key_tree trees rs c.key)) ts ≡ true) keeps.conjuncts
      (any_there (map (λ (d : Conjunct). key_tree trees rs d.key) cs) k (key_tree trees rs c.key) (slice_get-map (λ (d : Conjunct). key_tree trees rs d.key) cs k ∙ ap (option_map (λ (d : Conjunct). key_tree trees rs d.key)) e))

  -- a tree that is no `let`'s, and whose only key no conjunct has, is no conjunct
  pub unknown : (t : Tree) (k : Key) → ((l : Key) → IsKey trees (length rs) l → is_value l ≡ false → t ≡ key_tree trees rs l → l ≡ k) → All (λ (c : Conjunct). c.key ≢ k) cs
      → ((j : ℕ) (c : Conjunct) → slice_get cs j ≡ Some c → is_value c.key ≡ true → t ≡ key_tree trees rs c.key → ⊥) → list_any (same_tree t) known ≡ false
  unknown t k one none values = false_by (list_any (same_tree t) known) (λ e.
      let r = there_any (λ (d : Conjunct). key_tree trees rs d.key) cs t (subst (λ ts. list_any (same_tree t) ts ≡ true) (sym keeps.conjuncts) e) in
      go r.0 r.1 r.2 r.3 (is_value r.1.key) refl)
    where
      go : (j : ℕ) (c : Conjunct) → slice_get cs j ≡ Some c → t ≡ key_tree trees rs c.key → (b : Bool) → is_value c.key ≡ b → ⊥
      go j c s e true v = values j c s v e
      go j c s e false v = got_all (λ (d : Conjunct). d.key ≢ k) cs j c none s (one c.key (got_all (λ (d : Conjunct). IsKey trees (length rs) d.key) cs j c keeps.keys s) v e)

  -- what a fact of a number says
  pub fact_says : (n : ℕ) (f : Fact) → from_one fs n ≡ Some f → from_one facts n ≡ Some (fact_tree trees rs f)
  fact_says zero f e = absurd (cc)
  fact_says (suc k) f e = subst (λ ts. slice_get ts k ≡ Some (fact_tree trees rs f)) keeps.says (slice_get-map (fact_tree trees rs) fs k ∙ ap (option_map (fact_tree trees rs)) e)

  -- from a side up to what it is a side of

  pub way_starts : (f number : ℕ) (t : Tree) → tree_under trees facts ps f number ≡ Some t → IsWay trees facts ps f number [] t
  unfolding side_at AreTerms
  way_starts f number t e = record { root = t; there = e; sides = refl; terms = tt }

  side_end : (u v : Tree) (ss : List Side) (s : Side) → side_of s.is_right u ≡ Some v → side_at u (ss ++ s ∷ []) ≡ side_at v ss
  unfolding side_at
  side_end u v [] s e = e
  side_end u v (x ∷ ss) s e = ap (option_and_then (side_of x.is_right)) (side_end u v ss s e)

  terms_end : (u v : Tree) (ss : List Side) (s : Side) → side_of s.is_right u ≡ Some v → v ≡ tree_at trees (Some s.term) → AreTerms trees v ss → AreTerms trees u (ss ++ s ∷ [])
  unfolding side_at AreTerms
  terms_end u v [] s e q a = (e ∙ ap (λ t. Some t) q, tt)
  terms_end u v (x ∷ ss) s e q a = (ap (option_and_then (side_of x.is_right)) (side_end u v ss s e) ∙ a.0, terms_end u v ss s e q a.1)

  term_is : (f : ℕ) (p : Part) (t : Tree) → term_of trees f p ≡ Some t → ((p.fact == f) ≡ true) × (tree_at trees (Some p.side.term) ≡ t)
  term_is f p t e = go (p.fact == f) refl e
    where
      go : (b : Bool) → (p.fact == f) ≡ b → (if b then Some (tree_at trees (Some p.side.term)) else None) ≡ Some t → ((p.fact == f) ≡ true) × (tree_at trees (Some p.side.term) ≡ t)
      go true i g = (i, (cc))
      go false i g = absurd (cc)

  pub way_on : (f number : ℕ) (ss : List Side) (t : Tree) (p : Part) → IsPartAt ps number p → IsWay trees facts ps f number ss t → IsWay trees facts ps f p.above (ss ++ p.side ∷ []) t
  way_on f number ss t p i w =
      let under : tree_under trees facts ps f (suc i.place) ≡ Some w.root = subst (λ n. tree_under trees facts ps f n ≡ Some w.root) i.is w.there in
      let s = and_then_some (term_of trees f) (slice_get ps i.place) w.root under in
      let there = i.there in
      let got = s.1 in
      let same : s.0 ≡ p = cc in
      let is = term_is f p w.root (subst (λ (q : Part). term_of trees f q ≡ Some w.root) same s.2) in
      let of : p.fact ≡ f = eqb-true p.fact f is.0 in
      let u = and_then_some (side_of p.side.is_right) (tree_under trees facts ps p.fact p.above) (tree_at trees (Some p.side.term)) (keeps.sides i.place p i.there).side in
      record {
        root = u.0;
        there = subst (λ g. tree_under trees facts ps g p.above ≡ Some u.0) of u.1;
        sides = side_end u.0 (tree_at trees (Some p.side.term)) ss p.side u.2 ∙ (ap (λ v. side_at v ss) is.1 ∙ w.sides);
        terms = terms_end u.0 (tree_at trees (Some p.side.term)) ss p.side u.2 refl (subst (λ v. AreTerms trees v ss) (sym is.1) w.terms);
      }

  pub way_ends : (f number : ℕ) (ss : List Side) (t : Tree) → ((p : Part) → IsPartAt ps number p → ⊥) → IsWay trees facts ps f number ss t → IsWay trees facts ps f 0 ss t
  way_ends f zero ss t none w = w
  way_ends f (suc k) ss t none w =
      let s = and_then_some (term_of trees f) (slice_get ps k) w.root w.there in
      absurd (none s.0 (record { place = k; is = refl; there = s.1; above = (keeps.sides k s.0 s.1).above }))

  -- citations

  root_is : (number : ℕ) (f : Fact) (root : Tree) → from_one fs number ≡ Some f → from_one facts number ≡ Some root → fact_tree trees rs f ≡ root
  root_is number f root e g = let h = fact_says number f e in let i : fact_tree trees rs f ≡ root = cc in i

  pub cites : (c : Citation) (number : ℕ) (f : Fact) (t : Tree) → from_one fs number ≡ Some f → fact_tree trees rs f ≡ cited_tree trees c → c.fact ≡ number → IsWay trees facts ps number 0 c.sides.items t → Cites trees facts c t
  cites c number f t e g h w =
      let root : w.root ≡ cited_tree trees c = sym (root_is number f w.root e w.there) ∙ g in
      record {
        fact = ap (from_one facts) h ∙ (fact_says number f e ∙ ap (λ u. Some u) g);
        sides = subst (λ u. side_at u c.sides.items ≡ Some t) root w.sides;
        terms = subst (λ u. AreTerms trees u c.sides.items) root w.terms;
      }

  abbrev HasValue : Conjunct → Type 0
  HasValue c = (x : ℕ) × (count : ℕ) × (n : NodeId) × (c.key ≡ Value x count n.0) × (c.side ≡ 0) × (from_one fs c.fact ≡ Some (fact.Value x count n))

  place_value : (k : ℕ) (c : Conjunct) → slice_get cs k ≡ Some c → is_value c.key ≡ true → HasValue c
  place_value k c s v = let p = keeps.places k c s in go p.fact p.there p.kind
    where
      go : (f : Fact) → from_one fs c.fact ≡ Some f → IsConjunctOf f c → HasValue c
      go (fact.Condition n) e i = absurd (both_ways _ i v)
      go (fact.Failure n) e i = absurd (both_ways _ i v)
      go (fact.Value x count n) e i = (x, count, n, i.0, i.1, e)

  -- a fact that is no `let`'s has no conjunct with such a key, and a `let`'s has no other
  pub place_kind : (k : ℕ) (c : Conjunct) (x count : ℕ) (n : NodeId) → slice_get cs k ≡ Some c → from_one fs c.fact ≡ Some (fact.Value x count n) → is_value c.key ≡ true
  place_kind k c x count n s e =
      let p = keeps.places k c s in
      let there = p.there in
      let same : p.fact ≡ fact.Value x count n = cc in
      ap is_value (subst (λ f. IsConjunctOf f c) same p.kind).0

  pub place_fact : (k : ℕ) (c : Conjunct) → slice_get cs k ≡ Some c → from_one fs c.fact ≡ None → ⊥
  place_fact k c s e = let there = (keeps.places k c s).there in cc

  pub cites_value : (ct : Citation) (k : ℕ) (c : Conjunct) → slice_get cs k ≡ Some c → is_value c.key ≡ true → key_tree trees rs c.key ≡ cited_tree trees ct → ct.fact ≡ c.fact → ct.sides.items ≡ [] → Cites trees facts ct (cited_tree trees ct)
  unfolding side_at AreTerms
  cites_value ct k c s v e f g =
      let h = place_value k c s v in
      let tree : tree_under trees facts ps c.fact 0 ≡ Some (key_tree trees rs c.key) = subst (λ j. tree_under trees facts ps c.fact j ≡ Some (key_tree trees rs c.key)) h.4 (keeps.places k c s).tree in
      record {
        fact = ap (from_one facts) f ∙ (tree ∙ ap (λ u. Some u) e);
        sides = ap (side_at (cited_tree trees ct)) g;
        terms = subst (AreTerms trees (cited_tree trees ct)) (sym g) tt;
      }

  -- what `let`s say

  value_at : (gs : List Fact) (k x count : ℕ) (n : NodeId) → slice_get gs k ≡ Some (fact.Value x count n) → is_among (values_in trees rs gs) (value_of rs x count (tree_at trees (Some n))) ≡ true
  value_at [] k x count n e = absurd (cc)
  value_at (g ∷ gs) zero x count n e =
      let z : g ≡ fact.Value x count n = cc in
      subst (λ f. is_among (values_in trees rs (f ∷ gs)) (value_of rs x count (tree_at trees (Some n))) ≡ true) (sym z)
      (or_left (same_tree (value_of rs x count (tree_at trees (Some n))) (value_of rs x count (tree_at trees (Some n)))) _ (same_tree_self (value_of rs x count (tree_at trees (Some n)))))
  value_at (fact.Condition m ∷ gs) (suc k) x count n e = value_at gs k x count n e
  value_at (fact.Failure m ∷ gs) (suc k) x count n e = value_at gs k x count n e
  value_at (fact.Value y i m ∷ gs) (suc k) x count n e = or_right (same_tree (value_of rs x count (tree_at trees (Some n))) (value_of rs y i (tree_at trees (Some m)))) _ (value_at gs k x count n e)

  value_said : (number x count : ℕ) (n : NodeId) → from_one fs number ≡ Some (fact.Value x count n) → is_among (values_in trees rs fs) (value_of rs x count (tree_at trees (Some n))) ≡ true
  value_said zero x count n e = absurd (cc)
  value_said (suc k) x count n e = value_at fs k x count n e

  pub value_among : (k : ℕ) (c : Conjunct) (t : Tree) → slice_get cs k ≡ Some c → is_value c.key ≡ true → t ≡ key_tree trees rs c.key → is_among (values_in trees rs fs) t ≡ true
  value_among k c t s v e =
      let h = place_value k c s v in
      subst (λ u. is_among (values_in trees rs fs) u ≡ true) (sym (e ∙ ap (key_tree trees rs) h.3)) (value_said c.fact h.0 h.1 h.2 h.5)

-- a negation and `false` are no `let`'s
pub no_value : (trees : List KindTree) (rs : List (ℕ × ℕ)) (k : Key) (h : Head) (a b : Tree) → (h ≡ Eq → ⊥) → is_value k ≡ true → Node h a b ≡ key_tree trees rs k → ⊥
no_value trees rs (Value x count m) h a b f v e = f (cc)
no_value trees rs Falsity h a b f v e = both_ways _ refl v
no_value trees rs (Denial o) h a b f v e = both_ways _ refl v
no_value trees rs (Equation l r) h a b f v e = both_ways _ refl v
no_value trees rs (key.Other o) h a b f v e = both_ways _ refl v

-- the node of an equation that is cited

pub first_side : (trees : List KindTree) (t u : Tree) (ss : List Side) (s : Side) → slice_get ss 0 ≡ Some s → side_at t ss ≡ Some u → AreTerms trees t ss → tree_at trees (Some s.term) ≡ u
unfolding AreTerms
first_side trees t u [] s g e a = absurd (cc)
first_side trees t u (x ∷ ss) s g e a =
    let z : x ≡ s = cc in
    let told = a.0 in
    let same : tree_at trees (Some x.term) ≡ u = cc in
    ap (λ (y : Side). tree_at trees (Some y.term)) (sym z) ∙ same

no_equation : (a b m : Tree) → denial_of m ≡ Node Eq a b → ⊥
no_equation a b m e = cc

pub whole_fact : (trees : List KindTree) (c : Citation) (a b : Tree) → slice_get c.sides.items 0 ≡ None → side_at (cited_tree trees c) c.sides.items ≡ Some (Node Eq a b) → tree_at trees (Some c.term) ≡ Node Eq a b
unfolding side_at
whole_fact trees c a b g e = by c.sides.items g e
  where
    plain : (d : Bool) → (if d then denial_of (tree_at trees (Some c.term)) else tree_at trees (Some c.term)) ≡ Node Eq a b → tree_at trees (Some c.term) ≡ Node Eq a b
    plain false q = q
    plain true q = absurd (no_equation a b (tree_at trees (Some c.term)) q)

    by : (ss : List Side) → slice_get ss 0 ≡ None → side_at (cited_tree trees c) ss ≡ Some (Node Eq a b) → tree_at trees (Some c.term) ≡ Node Eq a b
    by [] h q = plain c.is_denied (let z : cited_tree trees c ≡ Node Eq a b = cc in z)
    by (s ∷ ss) h q = absurd (cc)

-- answers

pub ok_some_on : {A E : Type 0} (P Q : A → Type 0) (r : Result (Option A) E) → IfOk r (λ o. IfSome o P) → ((x : A) → P x → Q x) → IfOk r (λ o. IfSome o Q)
ok_some_on P Q (Ok (Some x)) p f = f x p
ok_some_on P Q (Ok None) p f = tt
ok_some_on P Q (Err e) p f = tt

pub ok_none_on : {A E : Type 0} (P Q : Type 0) (r : Result (Option A) E) → IfOk r (λ o. IfNone o P) → (P → Q) → IfOk r (λ o. IfNone o Q)
ok_none_on P Q (Ok None) p f = f p
ok_none_on P Q (Ok (Some x)) p f = tt
ok_none_on P Q (Err e) p f = tt

pub if_some_is : {A : Type 0} (P : A → Type 0) (o : Option A) (x : A) → IfSome o P → o ≡ Some x → P x
if_some_is P (Some y) x p e = let z : y ≡ x = cc in subst P z p
if_some_is P None x p e = absurd (cc)

pub if_none_is : {A : Type 0} (P : Type 0) (o : Option A) → IfNone o P → o ≡ None → P
if_none_is P None p e = p
if_none_is P (Some y) p e = absurd (cc)

pub among_none : (t : Tree) (facts : List Tree) → t ≢ Empty → list_any (same_tree t) (flat_map full_parts facts) ≡ false → is_among (conjuncts facts) t ≡ false
among_none Empty facts f e = absurd (f refl)
among_none (Node h a b) facts f e = among_full h a b facts ∙ e

module _ (trees : List KindTree) (facts : List Tree) (rs : List (ℕ × ℕ)) (known : List Tree) (xs : List ℕ) (fs : List Fact) (ps : List Part) (cs : List Conjunct) (keeps : Keeps trees facts rs known xs fs ps cs) where
  abbrev Place : Conjunct → Type 0
  Place c = IsPlace trees facts rs fs ps c

  the_place : (k : ℕ) (c d : Conjunct) → slice_get cs k ≡ Some c → slice_get cs k ≡ Some d → d ≡ c
  the_place k c d e g = cc

  pub no_condition : (k : ℕ) (c d : Conjunct) → slice_get cs k ≡ Some c → slice_get cs k ≡ Some d → condition_of (from_one fs c.fact) ≡ None → is_value d.key ≡ true
  no_condition k c d e g n =
      let p = keeps.places k c e in
      ap (λ (x : Conjunct). is_value x.key) (the_place k c d e g) ∙ go p.fact p.kind (sym (ap condition_of p.there) ∙ n)
    where
      go : (f : Fact) → IsConjunctOf f c → condition_of (Some f) ≡ None → is_value c.key ≡ true
      go (fact.Condition m) i q = absurd (cc)
      go (fact.Failure m) i q = absurd (cc)
      go (fact.Value x count m) i q = ap is_value i.0

  abbrev denied_tree : NodeId → Bool → Tree
  denied_tree n b = if b then denial_of (tree_at trees (Some n)) else tree_at trees (Some n)

  condition_tree : (f : Fact) (n : NodeId) (b : Bool) → condition_of (Some f) ≡ Some (n, b) → fact_tree trees rs f ≡ denied_tree n b
  condition_tree (fact.Condition m) n b e = let p : (m, false) ≡ (n, b) = some_is {A = NodeId × Bool} (m, false) (n, b) e in ap (λ (q : NodeId × Bool). denied_tree q.0 q.1) p
  condition_tree (fact.Failure m) n b e = let p : (m, true) ≡ (n, b) = some_is {A = NodeId × Bool} (m, true) (n, b) e in ap (λ (q : NodeId × Bool). denied_tree q.0 q.1) p
  condition_tree (fact.Value x count m) n b e = absurd (cc)

  pub cites_condition : (k : ℕ) (c d : Conjunct) (ct : Citation) → slice_get cs k ≡ Some c → slice_get cs k ≡ Some d → condition_of (from_one fs c.fact) ≡ Some (ct.term, ct.is_denied) → ct.fact ≡ c.fact
      → ((t : Tree) → tree_under trees facts ps c.fact c.side ≡ Some t → IsWay trees facts ps c.fact 0 ct.sides.items t) → Cites trees facts ct (key_tree trees rs d.key)
  cites_condition k c d ct e g n q way =
      let p = keeps.places k c e in
      subst (λ (x : Conjunct). Cites trees facts ct (key_tree trees rs x.key)) (sym (the_place k c d e g))
      (cites trees facts rs known xs fs ps cs keeps ct c.fact p.fact (key_tree trees rs c.key) p.there (condition_tree p.fact ct.term ct.is_denied (sym (ap condition_of p.there) ∙ n)) q (way (key_tree trees rs c.key) p.tree))

  -- a `let`'s key that is the only one for a tree, and that no conjunct has
  pub no_only_value : (t : Tree) (o : Option Key) → ((x count m : ℕ) → count ≤ length rs → m < length trees → value_of rs x count (numbered trees (Some m)) ≡ t → o ≡ Some (Value x count m)) → ((k : Key) → o ≡ Some k → All (λ (c : Conjunct). c.key ≢ k) cs)
      → (j : ℕ) (c : Conjunct) → slice_get cs j ≡ Some c → is_value c.key ≡ true → t ≡ key_tree trees rs c.key → ⊥
  no_only_value t o only none j c s v e = go c.key refl v
    where
      go : (k : Key) → c.key ≡ k → is_value k ≡ true → ⊥
      go (Value x count m) i u =
          let w = subst (IsKey trees (length rs)) i (got_all (λ (d : Conjunct). IsKey trees (length rs) d.key) cs j c keeps.keys s) in
          got_all (λ (d : Conjunct). d.key ≢ Value x count m) cs j c (none (Value x count m) (only x count m w.0 w.1 (sym (e ∙ ap (key_tree trees rs) i)))) s i
      go Falsity i u = both_ways _ refl u
      go (Denial p) i u = both_ways _ refl u
      go (Equation a b) i u = both_ways _ refl u
      go (key.Other p) i u = both_ways _ refl u

  -- equations of a term with a name
  pub no_equation_known : AreSingle trees → (r : Bool) (m : Tree) (x : ℕ) (a : Operand) → IsOperandOf trees m a → All (λ (c : Conjunct). c.key ≢ Equation a (operand.Name x)) cs → All (λ (c : Conjunct). c.key ≢ Equation (operand.Name x) a) cs
      → is_among (values_in trees rs fs) (equation_of r m x) ≡ false → list_any (same_tree (equation_of r m x)) known ≡ false
  no_equation_known single false m x a i p q n =
      unknown trees facts rs known xs fs ps cs keeps (equation_of false m x) (Equation a (operand.Name x)) (λ l w v e. equation_one trees single rs (length rs) a (operand.Name x) l i.operand tt w v (ap (λ u. Node Eq u (lone (Leaf x))) i.tree ∙ e)) p
      (λ j c s v e. both_ways _ n (value_among trees facts rs known xs fs ps cs keeps j c (equation_of false m x) s v e))
  no_equation_known single true m x a i p q n =
      unknown trees facts rs known xs fs ps cs keeps (equation_of true m x) (Equation (operand.Name x) a) (λ l w v e. equation_one trees single rs (length rs) (operand.Name x) a l tt i.operand w v (ap (λ u. Node Eq (lone (Leaf x)) u) i.tree ∙ e)) q
      (λ j c s v e. both_ways _ n (value_among trees facts rs known xs fs ps cs keeps j c (equation_of true m x) s v e))

pub no_equation_among : (facts : List Tree) (r : Bool) (m : Tree) (x : ℕ) → list_any (same_tree (equation_of r m x)) (flat_map full_parts facts) ≡ false → is_among (conjuncts facts) (equation_of r m x) ≡ false
no_equation_among facts false m x e = among_full Eq m (lone (Leaf x)) facts ∙ e
no_equation_among facts true m x e = among_full Eq (lone (Leaf x)) m facts ∙ e

pub no_value_key : (r : Bool) (a b : Operand) → is_value (if r then Equation b a else Equation a b) ≡ false
no_value_key true a b = refl
no_value_key false a b = refl

pub key_equation : (trees : List KindTree) (rs : List (ℕ × ℕ)) (r : Bool) (m : Tree) (x : ℕ) (a : Operand) → IsOperandOf trees m a → key_tree trees rs (if r then Equation (operand.Name x) a else Equation a (operand.Name x)) ≡ equation_of r m x
key_equation trees rs true m x a i = ap (λ u. Node Eq (lone (Leaf x)) u) i.tree
key_equation trees rs false m x a i = ap (λ u. Node Eq u (lone (Leaf x))) i.tree

pub equation_parts : (trees : List KindTree) (facts : List Tree) (e : Equated) (r : Bool) (m : Tree) (x : ℕ) → ((a b : Tree) → equation_of r m x ≡ Node Eq a b → IsEquated trees facts r e (Node Eq a b)) → is_among (conjuncts facts) (equation_of r m x) ≡ true
    → Equates trees facts e (equation_of e.is_turned m x)
equation_parts trees facts e false m x f g =
    let q = f m (lone (Leaf x)) refl in
    subst (λ b. Equates trees facts e (equation_of b m x)) (sym q.turned) (record { equation = q.equation; found = record { cites = q.cites; among = g } })
equation_parts trees facts e true m x f g =
    let q = f (lone (Leaf x)) m refl in
    subst (λ b. Equates trees facts e (equation_of b m x)) (sym q.turned) (record { equation = q.equation; found = record { cites = q.cites; among = g } })

pub no_some : {A : Type 0} (x : A) → ◌≡◌ {A = Option A} (Some x) None → ⊥
no_some x e = cc

pub same_some : (k l : Key) (cs : List Conjunct) → ◌≡◌ {A = Option Key} (Some k) (Some l) → All (λ (c : Conjunct). c.key ≢ k) cs → All (λ (c : Conjunct). c.key ≢ l) cs
same_some k l cs e a = subst (λ q. All (λ (c : Conjunct). c.key ≢ q) cs) (some_is k l e) a

pub held_value : (trees : List KindTree) (facts : List Tree) (rs : List (ℕ × ℕ)) (xs : List ℕ) (fs : List Fact) (ps : List Part) (cs : List Conjunct) → Keeps trees facts rs (flat_map full_parts facts) xs fs ps cs
    → (ct : Citation) (t : Tree) (k : Key) (j : ℕ) (d : Conjunct) → IsAt cs j k → slice_get cs j ≡ Some d → is_value k ≡ true → key_tree trees rs k ≡ t → cited_tree trees ct ≡ t → ct.fact ≡ d.fact → ct.sides.items ≡ [] → IsFound trees facts ct t
held_value trees facts rs xs fs ps cs keeps ct t k j d a e v q r g s =
    let known = flat_map full_parts facts in
    let there = a.there in
    let one : a.conjunct ≡ d = cc in
    let key : d.key ≡ k = ap (λ (c : Conjunct). c.key) (sym one) ∙ a.same in
    let tree : key_tree trees rs d.key ≡ t = ap (key_tree trees rs) key ∙ q in
    record {
      cites = subst (Cites trees facts ct) r (cites_value trees facts rs known xs fs ps cs keeps ct j d e (ap is_value key ∙ v) (tree ∙ sym r) g s);
      among = among_by t facts (subst (λ u. list_any (same_tree u) known ≡ true) tree (known_there trees facts rs known xs fs ps cs keeps j d e));
    }
