-- What tables keep of the facts at a place, as more comes behind it.
use Rattle.std.proofs.Common.{◌≡◌, ℕ, ◌+◌, zero, suc, ◌<◌, ◌≤◌, Bool, true, false, inl, inr, List, [], ◌∷◌, ◌++◌, length, map, take, refl, ap, ap₂, sym, ◌∙◌, arith, subst, Option, Some, None, get_or}
use Rattle.std.specs.Prelude.{All, flat_map, if◌then◌else◌, slice_get, option_and_then}
use Rattle.std.proofs.lemmas.Bool.{eq-eqb}
use Rattle.std.proofs.lemmas.List.Concat.{flat_map-append}
use Rattle.std.proofs.lemmas.List.Elements.{All-append}
use Rattle.std.proofs.lemmas.List.{append-nil, append_assoc, length-append, length-map, map-append, take-append-le, take_all, take_at}
use Rattle.std.proofs.lemmas.Option.{get_or_from_slice_get, slice_get_within}
use Rattle.cv_pool.specs.KindTree.{KindTree}
use Rattle.cv_pool.specs.declared.node.NodeId.{NodeId}
use Rattle.cv_syntax.specs.PoolTrees.{tree_at}
use Rattle.cv_syntax_trees.specs.declared.head.Head.{Head}
use Rattle.cv_syntax_trees.specs.declared.head.Head.TheVariants.{And}
use Rattle.cv_syntax_trees.specs.Tree.{Tree, Empty, Node}
use Rattle.cv_scene.specs.Sights.{from_one}
use Rattle.cv_settling_overview.specs.declared.facts.Fact.{Fact}
use Rattle.cv_settling_overview.specs.declared.facts.Fact.TheVariants as fact
use Rattle.cv_settling_overview.specs.declared.facts.Facts.{Facts}
use Rattle.cv_settling_overview.specs.declared.facts.Part.{Part}
use Rattle.cv_settling_overview.specs.declared.keys.Conjunct.{Conjunct}
use Rattle.cv_settling_overview.specs.declared.keys.Key.{Key}
use Rattle.cv_settling_overview.specs.declared.keys.Key.TheVariants.{Falsity, Denial, Equation, Value}
use Rattle.cv_settling_overview.specs.declared.keys.Key.TheVariants as key
use Rattle.cv_settling_overview.specs.Facts.{AreSame, Extends, IsConjunctOf, IsFront, IsKey, IsKeyOf, IsPlace, IsSide, IsWithin, Keeps, Knows, definition_of, denial_of, fact_tree, full_parts, key_tree, numbered, side_of, term_of, tree_under, value_of}
use Rattle.cv_settling_overview.specs.Findings.{IsCondition}
use Rattle.cv_settling_overview.proofs.Placing.{at_end, at_front, before_or_last}

-- lists

abbrev names_in : List (ℕ × ℕ) → List ℕ
names_in rs = map (λ (r : ℕ × ℕ). r.0) rs

one_front : {A : Type 0} (xs ys : List A) (k : ℕ) (x : A) → from_one xs k ≡ Some x → from_one (xs ++ ys) k ≡ Some x
one_front xs ys zero x e = absurd (cc)
one_front xs ys (suc k) x e = at_front xs ys k x e

pub one_last : {A : Type 0} (xs : List A) (x : A) (k : ℕ) → k ≡ length xs + 1 → from_one (xs ++ x ∷ []) k ≡ Some x
one_last xs x k e =
    let e' : k ≡ suc (length xs) = omega (arith, e) in
    subst (λ j. from_one (xs ++ x ∷ []) j ≡ Some x) (sym e') (at_end xs x)

pub and_then_some : {A B : Type 0} (g : A → Option B) (o : Option A) (y : B) → option_and_then g o ≡ Some y → (x : A) × (o ≡ Some x) × (g x ≡ Some y)
and_then_some g (Some x) y e = (x, refl, e)
and_then_some g None y e = absurd (cc)

single : {A : Type 0} (P : A → Type 0) (x : A) (k : ℕ) (d : A) → P x → k < 1 → P (get_or (x ∷ []) k d)
single P x zero d p l = p
single P x (suc k) d p l = absurd (omega arith)

all_more : {A : Type 0} (P : A → Type 0) (xs : List A) (x : A) → All P xs → P x → All P (xs ++ x ∷ [])
all_more P xs x a p = All-append P xs (x ∷ []) a (λ k d b. single P x k d p b)

all_same : {A : Type 0} (P Q : A → Type 0) (xs : List A) → ((x : A) → P x → Q x) → All P xs → All Q xs
all_same P Q xs f a k d l = f (get_or xs k d) (a k d l)

pub got_all : {A : Type 0} (P : A → Type 0) (xs : List A) (k : ℕ) (x : A) → All P xs → slice_get xs k ≡ Some x → P x
got_all P xs k x a e = subst P (get_or_from_slice_get xs k x x e) (a k x (slice_get_within xs k x e))

map_same : {A B : Type 0} (P : A → Type 0) (f g : A → B) (xs : List A) → ((x : A) → P x → f x ≡ g x) → All P xs → map f xs ≡ map g xs
map_same P f g [] h a = refl
map_same P f g (x ∷ xs) h a = ap₂ (λ y ys. y ∷ ys) (h x (a zero x (omega arith))) (map_same P f g xs h (λ k d l. a (suc k) d (omega (arith, l))))

-- trees of sides, as facts and sides come behind

module _ (trees : List KindTree) where
  under_more_facts : (facts : List Tree) (t : Tree) (ps : List Part) (f k : ℕ) (x : Tree) → tree_under trees facts ps f k ≡ Some x → tree_under trees (facts ++ t ∷ []) ps f k ≡ Some x
  under_more_facts facts t ps f zero x e = one_front facts (t ∷ []) f x e
  under_more_facts facts t ps f (suc k) x e = e

  pub under_more_parts : (facts : List Tree) (ps qs : List Part) (f k : ℕ) (x : Tree) → tree_under trees facts ps f k ≡ Some x → tree_under trees facts (ps ++ qs) f k ≡ Some x
  under_more_parts facts ps qs f zero x e = e
  under_more_parts facts ps qs f (suc k) x e =
      let s = and_then_some (term_of trees f) (slice_get ps k) x e in
      ap (option_and_then (term_of trees f)) (at_front ps qs k s.0 s.1) ∙ s.2

  side_more_facts : (facts : List Tree) (t : Tree) (ps : List Part) (k : ℕ) (p : Part) → IsSide trees facts ps k p → IsSide trees (facts ++ t ∷ []) ps k p
  side_more_facts facts t ps k p i =
      let s = and_then_some (side_of p.side.is_right) (tree_under trees facts ps p.fact p.above) (tree_at trees (Some p.side.term)) i.side in
      record { above = i.above; side = ap (option_and_then (side_of p.side.is_right)) (under_more_facts facts t ps p.fact p.above s.0 s.1) ∙ s.2 }

  side_more_parts : (facts : List Tree) (ps qs : List Part) (k : ℕ) (p : Part) → IsSide trees facts ps k p → IsSide trees facts (ps ++ qs) k p
  side_more_parts facts ps qs k p i =
      let s = and_then_some (side_of p.side.is_right) (tree_under trees facts ps p.fact p.above) (tree_at trees (Some p.side.term)) i.side in
      record { above = i.above; side = ap (option_and_then (side_of p.side.is_right)) (under_more_parts facts ps qs p.fact p.above s.0 s.1) ∙ s.2 }

  place_more_facts : (facts : List Tree) (t : Tree) (rs : List (ℕ × ℕ)) (fs : List Fact) (g : Fact) (ps : List Part) (c : Conjunct) → IsPlace trees facts rs fs ps c → IsPlace trees (facts ++ t ∷ []) rs (fs ++ g ∷ []) ps c
  place_more_facts facts t rs fs g ps c i = record { fact = i.fact; there = one_front fs (g ∷ []) c.fact i.fact i.there; kind = i.kind; tree = under_more_facts facts t ps c.fact c.side (key_tree trees rs c.key) i.tree }

  place_more_parts : (facts : List Tree) (rs : List (ℕ × ℕ)) (fs : List Fact) (ps qs : List Part) (c : Conjunct) → IsPlace trees facts rs fs ps c → IsPlace trees facts rs fs (ps ++ qs) c
  place_more_parts facts rs fs ps qs c i = record { fact = i.fact; there = i.there; kind = i.kind; tree = under_more_parts facts ps qs c.fact c.side (key_tree trees rs c.key) i.tree }

  -- one more fact, side, conjunct and index

  pub nothing_kept : Keeps trees [] [] [] [] [] [] []
  nothing_kept = record { names = refl; says = refl; within = λ k d l. absurd (omega (arith, l)); conjuncts = refl; keys = λ k d l. absurd (omega (arith, l)); sides = λ k p e. absurd (cc); places = λ k c e. absurd (cc) }

  pub push_fact : (facts : List Tree) (rs : List (ℕ × ℕ)) (known : List Tree) (xs : List ℕ) (fs : List Fact) (ps : List Part) (cs : List Conjunct) (g : Fact) → IsWithin (length rs) g → Keeps trees facts rs known xs fs ps cs
      → Keeps trees (facts ++ fact_tree trees rs g ∷ []) rs known xs (fs ++ g ∷ []) ps cs
  push_fact facts rs known xs fs ps cs g w i = record {
    names = i.names;
    says = map-append (fact_tree trees rs) fs (g ∷ []) ∙ ap (λ l. l ++ fact_tree trees rs g ∷ []) i.says;
    within = all_more (IsWithin (length rs)) fs g i.within w;
    conjuncts = i.conjuncts;
    keys = i.keys;
    sides = λ k p e. side_more_facts facts (fact_tree trees rs g) ps k p (i.sides k p e);
    places = λ k c e. place_more_facts facts (fact_tree trees rs g) rs fs g ps c (i.places k c e);
  }

  pub push_part : (facts : List Tree) (rs : List (ℕ × ℕ)) (known : List Tree) (xs : List ℕ) (fs : List Fact) (ps : List Part) (cs : List Conjunct) (p : Part) → IsSide trees facts ps (length ps) p → Keeps trees facts rs known xs fs ps cs
      → Keeps trees facts rs known xs fs (ps ++ p ∷ []) cs
  push_part facts rs known xs fs ps cs p s i = record {
    names = i.names;
    says = i.says;
    within = i.within;
    conjuncts = i.conjuncts;
    keys = i.keys;
    sides = λ k q e. elim (before_or_last ps p k q e) [
      | inl a ↦ side_more_parts facts ps (p ∷ []) k q (i.sides k q a)
      | inr b ↦ subst (λ (r : Part). IsSide trees facts (ps ++ p ∷ []) k r) b.1 (subst (λ j. IsSide trees facts (ps ++ p ∷ []) j p) b.0 (side_more_parts facts ps (p ∷ []) (length ps) p s))
    ];
    places = λ k c e. place_more_parts facts rs fs ps (p ∷ []) c (i.places k c e);
  }

  pub push_conjunct : (facts : List Tree) (rs : List (ℕ × ℕ)) (known : List Tree) (xs : List ℕ) (fs : List Fact) (ps : List Part) (cs : List Conjunct) (c : Conjunct) → IsKey trees (length rs) c.key → IsPlace trees facts rs fs ps c
      → Keeps trees facts rs known xs fs ps cs → Keeps trees facts rs (known ++ key_tree trees rs c.key ∷ []) xs fs ps (cs ++ c ∷ [])
  push_conjunct facts rs known xs fs ps cs c q s i = record {
    names = i.names;
    says = i.says;
    within = i.within;
    conjuncts = map-append (λ (d : Conjunct). key_tree trees rs d.key) cs (c ∷ []) ∙ ap (λ l. l ++ key_tree trees rs c.key ∷ []) i.conjuncts;
    keys = all_more (λ (d : Conjunct). IsKey trees (length rs) d.key) cs c i.keys q;
    sides = i.sides;
    places = λ k d e. elim (before_or_last cs c k d e) [ inl a ↦ i.places k d a | inr b ↦ subst (IsPlace trees facts rs fs ps) b.1 s ];
  }

  value_more : (rs : List (ℕ × ℕ)) (r : ℕ × ℕ) (x count : ℕ) (m : Tree) → count ≤ length rs → value_of (rs ++ r ∷ []) x count m ≡ value_of rs x count m
  value_more rs r x count m l = ap (λ qs. definition_of qs x m) (take-append-le count rs (r ∷ []) l)

  fact_more : (rs : List (ℕ × ℕ)) (r : ℕ × ℕ) (f : Fact) → IsWithin (length rs) f → fact_tree trees (rs ++ r ∷ []) f ≡ fact_tree trees rs f
  fact_more rs r (fact.Condition n) w = refl
  fact_more rs r (fact.Failure n) w = refl
  fact_more rs r (fact.Value x count n) w = value_more rs r x count (tree_at trees (Some n)) w

  key_more : (rs : List (ℕ × ℕ)) (r : ℕ × ℕ) (k : Key) → IsKey trees (length rs) k → key_tree trees (rs ++ r ∷ []) k ≡ key_tree trees rs k
  key_more rs r Falsity w = refl
  key_more rs r (Denial o) w = refl
  key_more rs r (Equation a b) w = refl
  key_more rs r (Value x count n) w = value_more rs r x count (numbered trees (Some n)) w.0
  key_more rs r (key.Other o) w = refl

  within_more : (m n : ℕ) (f : Fact) → m ≤ n → IsWithin m f → IsWithin n f
  within_more m n (fact.Condition k) l w = tt
  within_more m n (fact.Failure k) l w = tt
  within_more m n (fact.Value x count k) l w = omega (arith, l, w)

  is_key_more : (m n : ℕ) (k : Key) → m ≤ n → IsKey trees m k → IsKey trees n k
  is_key_more m n Falsity l w = w
  is_key_more m n (Denial o) l w = w
  is_key_more m n (Equation a b) l w = w
  is_key_more m n (Value x count k) l w = let c = w.0 in (omega (arith, l, c), w.1)
  is_key_more m n (key.Other o) l w = w

  pub push_index : (facts : List Tree) (rs : List (ℕ × ℕ)) (known : List Tree) (xs : List ℕ) (fs : List Fact) (ps : List Part) (cs : List Conjunct) (r : ℕ × ℕ) → Keeps trees facts rs known xs fs ps cs
      → Keeps trees facts (rs ++ r ∷ []) known (xs ++ r.0 ∷ []) fs ps cs
  push_index facts rs known xs fs ps cs r i =
      let longer : length rs ≤ length (rs ++ r ∷ []) = omega (arith, length-append rs (r ∷ [])) in
      record {
        names = ap (λ l. l ++ r.0 ∷ []) i.names ∙ sym (map-append (λ (q : ℕ × ℕ). q.0) rs (r ∷ []));
        says = map_same (IsWithin (length rs)) (fact_tree trees (rs ++ r ∷ [])) (fact_tree trees rs) fs (fact_more rs r) i.within ∙ i.says;
        within = all_same (IsWithin (length rs)) (IsWithin (length (rs ++ r ∷ []))) fs (λ f. within_more (length rs) (length (rs ++ r ∷ [])) f longer) i.within;
        conjuncts = map_same (λ (c : Conjunct). IsKey trees (length rs) c.key) (λ (c : Conjunct). key_tree trees (rs ++ r ∷ []) c.key) (λ (c : Conjunct). key_tree trees rs c.key) cs (λ c. key_more rs r c.key) i.keys ∙ i.conjuncts;
        keys = all_same (λ (c : Conjunct). IsKey trees (length rs) c.key) (λ (c : Conjunct). IsKey trees (length (rs ++ r ∷ [])) c.key) cs (λ c. is_key_more (length rs) (length (rs ++ r ∷ [])) c.key longer) i.keys;
        sides = i.sides;
        places = λ k c e.
            let p = i.places k c e in
            record { fact = p.fact; there = p.there; kind = p.kind; tree = p.tree ∙ ap (λ t. Some t) (sym (key_more rs r c.key (got_all (λ (d : Conjunct). IsKey trees (length rs) d.key) cs k c i.keys e))) };
      }

-- facts

pub flat_more : (facts : List Tree) (t : Tree) → flat_map full_parts facts ++ full_parts t ≡ flat_map full_parts (facts ++ t ∷ [])
flat_more facts t = sym (flat_map-append full_parts facts (t ∷ []) ∙ ap (λ l. flat_map full_parts facts ++ l) (append-nil (full_parts t)))

same_length : (trees : List KindTree) (rs : List (ℕ × ℕ)) (fs : List Fact) (facts : List Tree) → map (fact_tree trees rs) fs ≡ facts → length fs ≡ length facts
same_length trees rs fs facts e = sym (length-map fs (fact_tree trees rs)) ∙ ap length e

-- what a tree is taken apart into

pub no_parts : full_parts Empty ≡ []
unfolding full_parts
no_parts = refl

pub one_part : (h : Head) (a b : Tree) → (h ≡ And → ⊥) → full_parts (Node h a b) ≡ Node h a b ∷ []
unfolding full_parts
one_part And a b f = absurd (f refl)
one_part h a b f = refl

pub both_parts : (a b : Tree) → full_parts (Node And a b) ≡ full_parts a ++ full_parts b
unfolding full_parts
both_parts a b = refl

-- lists that go on

pub front_same : {A : Type 0} (xs : List A) → IsFront xs xs
front_same xs = record { rest = []; is = sym (append-nil xs) }

pub front_more : {A : Type 0} (xs ys zs : List A) → zs ≡ xs ++ ys → IsFront xs zs
front_more xs ys zs e = record { rest = ys; is = e }

pub front_on : {A : Type 0} (xs ys zs : List A) → IsFront xs ys → IsFront ys zs → IsFront xs zs
front_on xs ys zs f g = record { rest = f.rest ++ g.rest; is = g.is ∙ (ap (λ l. l ++ g.rest) f.is ∙ append_assoc xs f.rest g.rest) }

pub extends_on : (f g h : Facts) → Extends f g → Extends g h → Extends f h
extends_on f g h a b = record {
  facts = front_on f.facts.items g.facts.items h.facts.items a.facts b.facts;
  parts = front_on f.parts.items g.parts.items h.parts.items a.parts b.parts;
  conjuncts = front_on f.conjuncts g.conjuncts h.conjuncts a.conjuncts b.conjuncts;
  indices = front_on f.indices.items g.indices.items h.indices.items a.indices b.indices;
}

pub extends_self : (f : Facts) → Extends f f
extends_self f = record { facts = front_same f.facts.items; parts = front_same f.parts.items; conjuncts = front_same f.conjuncts; indices = front_same f.indices.items }

pub cut_back : {A : Type 0} (xs ys zs : List A) (n : ℕ) → n ≡ length xs → IsFront xs ys → zs ≡ take n ys → xs ≡ zs
cut_back xs ys zs n l f e = sym (e ∙ (ap (take n) f.is ∙ take_at xs f.rest n (sym l)))

-- tables with the same lists know the same
pub same_known : (trees : List KindTree) (facts : List Tree) (rs : List (ℕ × ℕ)) (f g : Facts) → AreSame f g → Knows trees facts rs f → Knows trees facts rs g
same_known trees facts rs f g s k =
    let known = flat_map full_parts facts in
    subst (λ cs. Keeps trees facts rs known g.indices.items g.facts.items g.parts.items cs) s.conjuncts
    (subst (λ ps. Keeps trees facts rs known g.indices.items g.facts.items ps f.conjuncts) s.parts
    (subst (λ fs. Keeps trees facts rs known g.indices.items fs f.parts.items f.conjuncts) s.facts
    (subst (λ xs. Keeps trees facts rs known xs f.facts.items f.parts.items f.conjuncts) s.indices k)))

-- a fact that has come last

fact_last : (fs gs : List Fact) (g : Fact) (k : ℕ) → gs ≡ fs ++ g ∷ [] → k ≡ length gs → from_one gs k ≡ Some g
fact_last fs gs g k e l = subst (λ hs. from_one hs k ≡ Some g) (sym e) (one_last fs g k (l ∙ (ap length e ∙ length-append fs (g ∷ []))))

module _ (trees : List KindTree) (facts : List Tree) (rs : List (ℕ × ℕ)) (known : List Tree) (xs : List ℕ) (fs : List Fact) (ps : List Part) (cs : List Conjunct) (keeps : Keeps trees facts rs known xs fs ps cs) where
  tree_last : (gs : List Fact) (g : Fact) (t : Tree) (k : ℕ) → gs ≡ fs ++ g ∷ [] → k ≡ length gs → from_one (facts ++ t ∷ []) k ≡ Some t
  tree_last gs g t k e l = one_last facts t k (l ∙ (ap length e ∙ (length-append fs (g ∷ []) ∙ ap (λ n. n + 1) (same_length trees rs fs facts keeps.says))))

  -- a condition that holds is there, and is to be taken apart
  pub held : (gs : List Fact) (n : NodeId) → gs ≡ fs ++ fact.Condition n ∷ [] → Keeps trees (facts ++ tree_at trees (Some n) ∷ []) rs known xs gs ps cs
  held gs n e = subst (λ hs. Keeps trees (facts ++ tree_at trees (Some n) ∷ []) rs known xs hs ps cs) (sym e) (push_fact trees facts rs known xs fs ps cs (fact.Condition n) tt keeps)

  pub held_fact : (gs : List Fact) (n : NodeId) (k : ℕ) → gs ≡ fs ++ fact.Condition n ∷ [] → k ≡ length gs → IsCondition gs k
  held_fact gs n k e l = (n, fact_last fs gs (fact.Condition n) k e l)

  pub held_tree : (gs : List Fact) (n : NodeId) (k : ℕ) → gs ≡ fs ++ fact.Condition n ∷ [] → k ≡ length gs → tree_under trees (facts ++ tree_at trees (Some n) ∷ []) ps k 0 ≡ Some (tree_at trees (Some n))
  held_tree gs n k e l = tree_last gs (fact.Condition n) (tree_at trees (Some n)) k e l

  -- a fact that is one conjunct
  single_fact : (gs : List Fact) (ds : List Conjunct) (g : Fact) (c : Conjunct) → IsWithin (length rs) g → IsKey trees (length rs) c.key → IsConjunctOf g c → fact_tree trees rs g ≡ key_tree trees rs c.key → c.side ≡ 0 → gs ≡ fs ++ g ∷ []
      → c.fact ≡ length gs → ds ≡ cs ++ c ∷ [] → Keeps trees (facts ++ fact_tree trees rs g ∷ []) rs (known ++ fact_tree trees rs g ∷ []) xs gs ps ds
  single_fact gs ds g c w q kind same side e l d =
      let t = fact_tree trees rs g in
      let pushed : Keeps trees (facts ++ t ∷ []) rs known xs gs ps cs = subst (λ hs. Keeps trees (facts ++ t ∷ []) rs known xs hs ps cs) (sym e) (push_fact trees facts rs known xs fs ps cs g w keeps) in
      let tree : tree_under trees (facts ++ t ∷ []) ps c.fact c.side ≡ Some (key_tree trees rs c.key) =
      subst (λ j. tree_under trees (facts ++ t ∷ []) ps c.fact j ≡ Some (key_tree trees rs c.key)) (sym side) (tree_last gs g t c.fact e l ∙ ap (λ u. Some u) same) in
      let place : IsPlace trees (facts ++ t ∷ []) rs gs ps c = record { fact = g; there = fact_last fs gs g c.fact e l; kind = kind; tree = tree } in
      subst (λ l'. Keeps trees (facts ++ t ∷ []) rs l' xs gs ps ds) (ap (λ u. known ++ u ∷ []) (sym same))
      (subst (λ hs. Keeps trees (facts ++ t ∷ []) rs (known ++ key_tree trees rs c.key ∷ []) xs gs ps hs) (sym d) (push_conjunct trees (facts ++ t ∷ []) rs known xs gs ps cs c q place pushed))

  pub denied : (gs : List Fact) (ds : List Conjunct) (n : NodeId) (k : ℕ) → n.0 < length trees → gs ≡ fs ++ fact.Failure n ∷ [] → k ≡ length gs → ds ≡ cs ++ record { key = Denial (Some n.0); fact = k; side = 0 } ∷ []
      → Keeps trees (facts ++ denial_of (tree_at trees (Some n)) ∷ []) rs (known ++ denial_of (tree_at trees (Some n)) ∷ []) xs gs ps ds
  denied gs ds n k l e i d = single_fact gs ds (fact.Failure n) (record { key = Denial (Some n.0); fact = k; side = 0 }) tt l refl refl refl e i d

  pub assigned : (gs : List Fact) (ds : List Conjunct) (x count : ℕ) (n : NodeId) (k : ℕ) → n.0 < length trees → count ≡ length xs → gs ≡ fs ++ fact.Value x count n ∷ [] → k ≡ length gs
      → ds ≡ cs ++ record { key = Value x count n.0; fact = k; side = 0 } ∷ []
      → Keeps trees (facts ++ definition_of rs x (tree_at trees (Some n)) ∷ []) rs (known ++ definition_of rs x (tree_at trees (Some n)) ∷ []) xs gs ps ds
  assigned gs ds x count n k l w e i d =
      let many : count ≡ length rs = w ∙ (ap length keeps.names ∙ length-map rs (λ (r : ℕ × ℕ). r.0)) in
      let within : count ≤ length rs = omega (arith, many) in
      let all : take count rs ≡ rs = take_all count rs (omega (arith, many)) in
      let same : value_of rs x count (tree_at trees (Some n)) ≡ definition_of rs x (tree_at trees (Some n)) = ap (λ qs. definition_of qs x (tree_at trees (Some n))) all in
      subst (λ t. Keeps trees (facts ++ t ∷ []) rs (known ++ t ∷ []) xs gs ps ds) same
      (single_fact gs ds (fact.Value x count n) (record { key = Value x count n.0; fact = k; side = 0 }) within (within, l) (refl, refl) refl refl e i d)

  -- a tree that is taken apart

  pub none_taken : (t : Tree) → t ≡ Empty → Keeps trees facts rs (known ++ full_parts t) xs fs ps cs
  none_taken t e = subst (λ l. Keeps trees facts rs l xs fs ps cs) (sym (ap (λ l. known ++ l) (ap full_parts e ∙ no_parts) ∙ append-nil known)) keeps

  pub one_taken : (ds : List Conjunct) (t : Tree) (h : Head) (a b : Tree) (k : Key) (f side : ℕ) → t ≡ Node h a b → (h ≡ And → ⊥) → IsKeyOf trees t k → IsCondition fs f → tree_under trees facts ps f side ≡ Some t
      → ds ≡ cs ++ record { key = k; fact = f; side = side } ∷ [] → Keeps trees facts rs (known ++ full_parts t) xs fs ps ds
  one_taken ds t h a b k f side e other q condition under d =
      let tree : tree_under trees facts ps f side ≡ Some (key_tree trees rs k) = under ∙ ap (λ u. Some u) (sym (q.tree rs)) in
      let place : IsPlace trees facts rs fs ps (record { key = k; fact = f; side = side }) = record { fact = fact.Condition condition.0; there = condition.1; kind = q.plain; tree = tree } in
      let parts : full_parts t ≡ key_tree trees rs k ∷ [] = ap full_parts e ∙ (one_part h a b other ∙ ap (λ u. u ∷ []) (sym (q.tree rs ∙ e))) in
      subst (λ l. Keeps trees facts rs l xs fs ps ds) (ap (λ l. known ++ l) (sym parts))
      (subst (λ hs. Keeps trees facts rs (known ++ key_tree trees rs k ∷ []) xs fs ps hs) (sym d) (push_conjunct trees facts rs known xs fs ps cs (record { key = k; fact = f; side = side }) (q.key (length rs)) place keeps))

  under_within : (f side : ℕ) (t : Tree) → tree_under trees facts ps f side ≡ Some t → side ≤ length ps
  under_within f zero t e = omega arith
  under_within f (suc k) t e = let s = and_then_some (term_of trees f) (slice_get ps k) t e in let l = slice_get_within ps k s.0 s.1 in omega (arith, l)

  -- a side comes behind the others
  pub side_taken : (qs : List Part) (n : NodeId) (right : Bool) (f above : ℕ) → option_and_then (side_of right) (tree_under trees facts ps f above) ≡ Some (tree_at trees (Some n))
      → qs ≡ ps ++ record { side = record { term = n; is_right = right }; fact = f; above = above } ∷ [] → Keeps trees facts rs known xs fs qs cs
  side_taken qs n right f above e d =
      let p : Part = record { side = record { term = n; is_right = right }; fact = f; above = above } in
      let s = and_then_some (side_of right) (tree_under trees facts ps f above) (tree_at trees (Some n)) e in
      subst (λ l. Keeps trees facts rs known xs fs l cs) (sym d) (push_part trees facts rs known xs fs ps cs p (record { above = under_within f above s.0 s.1; side = e }) keeps)

  pub side_under : (qs : List Part) (n : NodeId) (right : Bool) (f above k : ℕ) → qs ≡ ps ++ record { side = record { term = n; is_right = right }; fact = f; above = above } ∷ [] → k ≡ length qs
      → tree_under trees facts qs f k ≡ Some (tree_at trees (Some n))
  side_under qs n right f above k d l =
      let p : Part = record { side = record { term = n; is_right = right }; fact = f; above = above } in
      let next : k ≡ suc (length ps) = let m : length qs ≡ length ps + 1 = ap length d ∙ length-append ps (p ∷ []) in omega (arith, l, m) in
      let there : slice_get qs (length ps) ≡ Some p = subst (λ r. slice_get r (length ps) ≡ Some p) (sym d) (at_end ps p) in
      subst (λ j. tree_under trees facts qs f j ≡ Some (tree_at trees (Some n))) (sym next)
      (ap (option_and_then (term_of trees f)) there ∙ ap (λ b. if b then Some (tree_at trees (Some n)) else None) (eq-eqb f f refl))

-- the sides of a conjunction

pub left_of : (trees : List KindTree) (facts : List Tree) (ps : List Part) (f above : ℕ) (t : Tree) (h : Head) (a b : Tree) → tree_under trees facts ps f above ≡ Some t → t ≡ Node h a b → h ≡ And
    → option_and_then (side_of false) (tree_under trees facts ps f above) ≡ Some a
left_of trees facts ps f above t h a b e i j = ap (option_and_then (side_of false)) (e ∙ ap (λ u. Some u) (i ∙ ap (λ k. Node k a b) j))

pub right_of : (trees : List KindTree) (facts : List Tree) (ps : List Part) (f above : ℕ) (t : Tree) (h : Head) (a b : Tree) → tree_under trees facts ps f above ≡ Some t → t ≡ Node h a b → h ≡ And
    → option_and_then (side_of true) (tree_under trees facts ps f above) ≡ Some b
right_of trees facts ps f above t h a b e i j = ap (option_and_then (side_of true)) (e ∙ ap (λ u. Some u) (i ∙ ap (λ k. Node k a b) j))

pub under_front : (trees : List KindTree) (facts : List Tree) (ps qs : List Part) (f k : ℕ) (x : Tree) → IsFront ps qs → tree_under trees facts ps f k ≡ Some x → tree_under trees facts qs f k ≡ Some x
under_front trees facts ps qs f k x i e = subst (λ l. tree_under trees facts l f k ≡ Some x) (sym i.is) (under_more_parts trees facts ps i.rest f k x e)

pub condition_front : (fs gs : List Fact) (f : ℕ) → IsFront fs gs → IsCondition fs f → IsCondition gs f
condition_front fs gs f i c = (c.0, subst (λ l. from_one l f ≡ Some (fact.Condition c.0)) (sym i.is) (one_front fs i.rest f (fact.Condition c.0) c.1))

pub both_taken : (known : List Tree) (t : Tree) (h : Head) (a b : Tree) → t ≡ Node h a b → h ≡ And → (known ++ full_parts a) ++ full_parts b ≡ known ++ full_parts t
both_taken known t h a b e i = append_assoc known (full_parts a) (full_parts b) ∙ ap (λ l. known ++ l) (sym (ap full_parts (e ∙ ap (λ k. Node k a b) i) ∙ both_parts a b))

pub nothing_known : (trees : List KindTree) (xs : List ℕ) (fs : List Fact) (ps : List Part) (cs : List Conjunct) → xs ≡ [] → fs ≡ [] → ps ≡ [] → cs ≡ [] → Keeps trees [] [] [] xs fs ps cs
nothing_known trees xs fs ps cs e f g h =
    subst (λ l. Keeps trees [] [] [] xs fs ps l) (sym h)
    (subst (λ l. Keeps trees [] [] [] xs fs l []) (sym g)
    (subst (λ l. Keeps trees [] [] [] xs l [] []) (sym f)
    (subst (λ l. Keeps trees [] [] [] l [] [] []) (sym e) (nothing_kept trees))))

pub one_denied : (facts : List Tree) (m : Tree) → flat_map full_parts facts ++ denial_of m ∷ [] ≡ flat_map full_parts (facts ++ denial_of m ∷ [])
unfolding full_parts
one_denied facts m = flat_more facts (denial_of m)

pub one_assigned : (facts : List Tree) (rs : List (ℕ × ℕ)) (x : ℕ) (m : Tree) → flat_map full_parts facts ++ definition_of rs x m ∷ [] ≡ flat_map full_parts (facts ++ definition_of rs x m ∷ [])
unfolding full_parts
one_assigned facts rs x m = flat_more facts (definition_of rs x m)
