-- Terms of a statement have their values in the context, where each answer is that of its instance.
use Rattle.std.proofs.Common.{◌≡◌, ℕ, suc, ◌+◌, ◌<◌, Bool, true, false, cond, ◌||◌, ◌&&◌, not, ◌==◌, List, [], ◌∷◌, ◌++◌, length, Option, Some, None, is_some, refl, sym, ap, ap₂, subst, ◌∙◌, arith}
use Rattle.std.proofs.lemmas.Bool.{both_ways, and_parts}
use Rattle.std.proofs.lemmas.List.{length-append}
use Rattle.std.specs.List.{AllByRecursion}
use Rattle.cv_syntax_trees.specs.declared.head.Head.{Head}
use Rattle.cv_syntax_trees.specs.declared.head.Head.TheVariants.{Leaf, Read, Apply, Eq, And, Or, Not, Yes, No, Cons, Name}
use Rattle.cv_syntax_trees.specs.Tree.{Tree, Empty, Node, first_place, head_reads_only, second, second_place}
use Rattle.cv_meaning.specs.Interpretation.{Setting}
use Rattle.cv_meaning.specs.Memory.{Indices, Store, tuple}
use Rattle.cv_meaning.specs.Terms.{bit, found_in, is_one, leaf_value, leaf_value_from, or_zero, value, values}
use Rattle.cv_meaning_laws.specs.Agreement.{AgreeOn}
use Rattle.cv_scope_rules.specs.Context.{cell_of, first_position, index_terms, replications_below, second_position}
use Rattle.cv_scope_rules.specs.Phrases.{HasConstantsOf, Indices as Names, Nil, Term, Terms, is_phrase}
use Rattle.cv_scope_rules.specs.declared.position.Position.{Position}
use Rattle.cv_scope_rules.specs.declared.position.Position.TheVariants.{Anywhere}
use Rattle.cv_scope_runs.specs.Promises.{AreIndicesOf}
use Rattle.cv_scope_runs.specs.Reads.{TermAssigned, TermsAssigned}
use Rattle.cv_scope_runs.proofs.Contexts.{IsFound, Matches}
use Rattle.cv_scene.specs.Instances.{Call, Matching, call_at}
use Rattle.cv_scene.specs.Sites.{Site, is_guard, sites_in}
use Rattle.cv_scene.specs.Contexts.{context_in}
use Rattle.cv_scene.specs.Reductions.{Reduction, is_coin, is_plain, matching, sites}
use Rattle.cv_scene.specs.Apt.{IsAptGame, reads_outside}
use Rattle.cv_match_laws.proofs.values.Numbers.{count_sites}
use Rattle.cv_context_runs.proofs.service.Kept.{answer_not_plain, answers_are}
use Rattle.cv_syntax_trees.proofs.lists.Each.{AllByRecursion_append}

-- the current tuple
pub terms_values : (g : Setting) (at : Indices) (m : Store) (ps rs : List (ℕ × ℕ)) → AreIndicesOf g ps rs → AllByRecursion (IsFound at) ps → values g at m (index_terms rs) ≡ tuple ps
unfolding value
terms_values g at m [] [] n f = refl
terms_values g at m [] (r ∷ rs) n f = absurd n
terms_values g at m (p ∷ ps) [] n f = absurd n
terms_values g at m (p ∷ ps) (r ∷ rs) n f = ap₂ ◌∷◌ (ap (leaf_value g at m) (sym n.0) ∙ ap (leaf_value_from g m p.0) f.0) (terms_values g at m ps rs n.2 f.1)

module _ (g : Setting) (variable : ℕ → Bool) where
  pub cell_value : (at : Indices) (rs : List (ℕ × ℕ)) → Matches g variable rs at → (m : Store) (y : ℕ) → variable y ≡ true → g.is_constant y ≡ false → value g at m (cell_of rs y) ≡ or_zero (m y (tuple at))
  unfolding value
  cell_value [] [] k m y v c = ap (λ b. cond b (g.interpretation.table y []) (or_zero (m y []))) c
  cell_value (p ∷ at) [] k m y v c = absurd k.named
  cell_value at (q ∷ rs) k m y v c = ap (λ w. or_zero (m y w)) (terms_values g at m at (q ∷ rs) k.named k.found)

module _ (r : Reduction) (g : Setting) (at : Indices) (m n : Store) where
  -- each site of a list, numbered from a number on, has its answer
  abbrev pub AreAnswered : ℕ → List Site → Type 0
  AreAnswered k [] = Unit {0}
  AreAnswered k (s ∷ ss) = (k < length (sites r)) × (n (r.answer k) (tuple at) ≡ Some (value g at m s.term)) × AreAnswered (suc k) ss

  answered_left : (k : ℕ) (xs ys : List Site) → AreAnswered k (xs ++ ys) → AreAnswered k xs
  answered_left k [] ys h = tt
  answered_left k (x ∷ xs) ys h = (h.0, h.1, answered_left (suc k) xs ys h.2)

  answered_right : (k : ℕ) (xs ys : List Site) → AreAnswered k (xs ++ ys) → AreAnswered (k + length xs) ys
  answered_right k [] ys h = subst (λ j. AreAnswered j ys) (let e : k ≡ k + 0 = omega arith in e) h
  answered_right k (x ∷ xs) ys h = subst (λ j. AreAnswered j ys) (let e : suc k + length xs ≡ k + suc (length xs) = omega arith in e) (answered_right (suc k) xs ys h.2)

-- the heads of terms and of their lists
abbrev is_part : Head → Bool
is_part (Leaf x) = true
is_part (Read x) = true
is_part (Apply f) = true
is_part Eq = true
is_part And = true
is_part Or = true
is_part Not = true
is_part Yes = true
is_part No = true
is_part Cons = true
is_part h = false

module _ (r : Reduction) (fine : IsAptGame r) (g : Setting) (same : HasConstantsOf r.scene.declarations g) (rs : List (ℕ × ℕ)) (at : Indices) (k : Matches g (λ x. not (is_plain r x)) rs at) (m n : Store) where
  abbrev M : Matching
  M = matching r

  abbrev inner : ℕ → Tree → Tree
  inner j a = context_in M (is_coin r) r.answer Anywhere rs j a

  abbrev inner_sites : ℕ → Tree → List Site
  inner_sites p a = sites_in M Anywhere rs p a

  answer_value : (j v : ℕ) → j < length (sites r) → n (r.answer j) (tuple at) ≡ Some v → value g at n (cell_of rs (r.answer j)) ≡ v
  answer_value j v l e =
      cell_value g (λ x. not (is_plain r x)) at rs k n (r.answer j) (ap not (answer_not_plain r (r.answer j) (answers_are r j l))) (ap (λ c. c (r.answer j)) same ∙ fine.free_answers j l) ∙ ap or_zero e

  -- a node of a term

  abbrev by_call : Option Call → Tree → Tree → Tree
  by_call o x y = elim o as (λ _. Tree) [ Some c ↦ x | None ↦ y ]

  abbrev by_call_sites : Option Call → (Call → List Site) → List Site → List Site
  by_call_sites o f ys = elim o as (λ _. List Site) [ Some c ↦ f c | None ↦ ys ]

  abbrev site_at : ℕ → Tree → Call → List Site
  site_at p a c = record { place = p; term = a; replications = rs; call = c } ∷ []

  inner_node : (h : Head) (a b : Tree) (j : ℕ) → is_part h ≡ true → inner j (Node h a b) ≡ by_call (call_at M (Node h a b)) (cell_of rs (r.answer j)) (Node h (inner j a) (inner (j + length (inner_sites 0 a)) b))
  unfolding context_in
  inner_node (Leaf x) a b j e = refl
  inner_node (Read x) a b j e = refl
  inner_node (Apply f) a b j e = refl
  inner_node Eq a b j e = refl
  inner_node And a b j e = refl
  inner_node Or a b j e = refl
  inner_node Not a b j e = refl
  inner_node Yes a b j e = refl
  inner_node No a b j e = refl
  inner_node Cons a b j e = refl
  inner_node h a b j e = absurd (both_ways false refl e)

  sites_node : (h : Head) (a b : Tree) (p : ℕ) → is_part h ≡ true → inner_sites p (Node h a b) ≡ by_call_sites (call_at M (Node h a b)) (site_at p (Node h a b)) (inner_sites (first_place p h) a ++ inner_sites (second_place p h a) b)
  unfolding sites_in
  sites_node (Leaf x) a b p e = refl
  sites_node (Read x) a b p e = refl
  sites_node (Apply f) a b p e = refl
  sites_node Eq a b p e = refl
  sites_node And a b p e = refl
  sites_node Or a b p e = refl
  sites_node Not a b p e = refl
  sites_node Yes a b p e = refl
  sites_node No a b p e = refl
  sites_node Cons a b p e = refl
  sites_node h a b p e = absurd (both_ways false refl e)

  part_of_term : (h : Head) (a b : Tree) → is_phrase Term (Node h a b) ≡ true → is_part h ≡ true
  unfolding is_phrase
  part_of_term (Leaf x) a b e = refl
  part_of_term (Read x) a b e = refl
  part_of_term (Apply f) a b e = refl
  part_of_term Eq a b e = refl
  part_of_term And a b e = refl
  part_of_term Or a b e = refl
  part_of_term Not a b e = refl
  part_of_term Yes a b e = refl
  part_of_term No a b e = refl
  part_of_term h a b e = absurd (both_ways false refl e)

  -- a node of a list

  list_inner : (j : ℕ) (a b : Tree) → call_at M (Node Cons a b) ≡ None → by_call (call_at M (Node Cons a b)) (cell_of rs (r.answer j)) (Node Cons (inner j a) (inner (j + length (inner_sites 0 a)) b)) ≡ Node Cons (inner j a) (inner (j + length (inner_sites 0 a)) b)
  list_inner j a b e = ap (λ o. by_call o (cell_of rs (r.answer j)) (Node Cons (inner j a) (inner (j + length (inner_sites 0 a)) b))) e

  list_sites : (p : ℕ) (a b : Tree) → call_at M (Node Cons a b) ≡ None → by_call_sites (call_at M (Node Cons a b)) (site_at p (Node Cons a b)) (inner_sites (first_place p Cons) a ++ inner_sites (second_place p Cons a) b) ≡ inner_sites (first_place p Cons) a ++ inner_sites (second_place p Cons a) b
  list_sites p a b e = ap (λ o. by_call_sites o (site_at p (Node Cons a b)) (inner_sites (first_place p Cons) a ++ inner_sites (second_place p Cons a) b)) e

  empty_values : (j : ℕ) → values g at n (inner j Empty) ≡ []
  unfolding context_in value
  empty_values j = refl

  module _ (agree : AgreeOn (is_plain r) m n) where
    -- where its children have their values
    node_value : (h : Head) (a b A B : Tree) → is_phrase Term (Node h a b) ≡ true → head_reads_only (is_plain r) h ≡ true
        → (is_phrase Term a ≡ true → value g at n A ≡ value g at m a) → (is_phrase Terms a ≡ true → values g at n A ≡ values g at m a) → (is_phrase Term b ≡ true → value g at n B ≡ value g at m b)
        → value g at n (Node h A B) ≡ value g at m (Node h a b)
    unfolding value is_phrase
    node_value (Leaf x) a b A B w o s l z = leaf (found_in at x)
      where
        leaf : (q : Option ℕ) → leaf_value_from g n x q ≡ leaf_value_from g m x q
        leaf (Some v) = refl
        leaf None = ap (λ v. cond (g.is_constant x) (g.interpretation.table x []) (or_zero v)) (sym (agree x [] o))
    node_value (Read x) a b A B w o s l z = ap (λ u. or_zero (n x u)) (l (and_parts (is_phrase Terms a) _ w).0) ∙ ap or_zero (sym (agree x (values g at m a) o))
    node_value (Apply f) a b A B w o s l z = ap (g.interpretation.table f) (l (and_parts (is_phrase Terms a) _ w).0)
    node_value Eq a b A B w o s l z = let p = and_parts (is_phrase Term a) _ w in ap₂ (λ x y. bit (x == y)) (s p.0) (z p.1)
    node_value And a b A B w o s l z = let p = and_parts (is_phrase Term a) _ w in ap₂ (λ x y. bit (is_one x && is_one y)) (s p.0) (z p.1)
    node_value Or a b A B w o s l z = let p = and_parts (is_phrase Term a) _ w in ap₂ (λ x y. bit (is_one x || is_one y)) (s p.0) (z p.1)
    node_value Not a b A B w o s l z = ap (λ x. bit (not (is_one x))) (s (and_parts (is_phrase Term a) _ w).0)
    node_value Yes a b A B w o s l z = refl
    node_value No a b A B w o s l z = refl
    node_value h a b A B w o s l z = absurd (both_ways false refl w)

    -- where a node is an instance, and where it is none
    by_call_value : (h : Head) (a b A B : Tree) (p j : ℕ) (o : Option Call) (xs ys : List Site) (z : Bool) → is_phrase Term (Node h a b) ≡ true
        → AreAnswered r g at m n j (by_call_sites o (site_at p (Node h a b)) (xs ++ ys)) → is_some o || (head_reads_only (is_plain r) h && z) ≡ true
        → (z ≡ true → AreAnswered r g at m n j xs → AreAnswered r g at m n (j + length xs) ys → (head_reads_only (is_plain r) h ≡ true → value g at n (Node h A B) ≡ value g at m (Node h a b)))
        → value g at n (by_call o (cell_of rs (r.answer j)) (Node h A B)) ≡ value g at m (Node h a b)
    by_call_value h a b A B p j (Some c) xs ys z w d o f = answer_value j _ d.0 d.1
    by_call_value h a b A B p j None xs ys z w d o f =
        let q = and_parts (head_reads_only (is_plain r) h) z o in
        f q.1 (answered_left r g at m n j xs ys d) (answered_right r g at m n j xs ys d) q.0

    mutual
      unfolding reads_outside is_phrase value

      pub term_value : (a : Tree) (p j : ℕ) → is_phrase Term a ≡ true → reads_outside M (is_plain r) a ≡ true → AreAnswered r g at m n j (inner_sites p a) → value g at n (inner j a) ≡ value g at m a
      term_value Empty p j w o d = absurd (both_ways false refl w)
      term_value (Node h a b) p j w o d =
          subst (λ t. value g at n t ≡ value g at m (Node h a b)) (sym (inner_node h a b j (part_of_term h a b w)))
          (by_call_value h a b (inner j a) (inner (j + length (inner_sites 0 a)) b) p j (call_at M (Node h a b)) (inner_sites (first_place p h) a) (inner_sites (second_place p h a) b) (reads_outside M (is_plain r) a && reads_outside M (is_plain r) b) w
          (subst (AreAnswered r g at m n j) (sites_node h a b p (part_of_term h a b w)) d) o
          (λ e x y. let q = and_parts (reads_outside M (is_plain r) a) _ e in
          λ f. node_value h a b (inner j a) (inner (j + length (inner_sites 0 a)) b) w f
          (λ v. term_value a (first_place p h) j v q.0 x) (λ v. terms_value a (first_place p h) j v q.0 x)
          (λ v. term_value b (second_place p h a) (j + length (inner_sites 0 a)) v q.1 (subst (λ i. AreAnswered r g at m n (j + i) (inner_sites (second_place p h a) b)) (count_sites M Anywhere rs a (first_place p h) 0) y))))

      pub terms_value : (a : Tree) (p j : ℕ) → is_phrase Terms a ≡ true → reads_outside M (is_plain r) a ≡ true → AreAnswered r g at m n j (inner_sites p a) → values g at n (inner j a) ≡ values g at m a
      terms_value Empty p j w o d = empty_values j
      terms_value (Node Cons a b) p j w o d =
          let v = and_parts (is_phrase Term a) _ w in
          let none : call_at M (Node Cons a b) ≡ None = fine.terms (Node Cons a b) refl in
          let q = and_parts (reads_outside M (is_plain r) a) _ (sym (ap (λ c. is_some c || (reads_outside M (is_plain r) a && reads_outside M (is_plain r) b)) none) ∙ o) in
          let e : AreAnswered r g at m n j (inner_sites (first_place p Cons) a ++ inner_sites (second_place p Cons a) b) =
          subst (AreAnswered r g at m n j) (sites_node Cons a b p refl ∙ list_sites p a b none) d in
          ap (values g at n) (inner_node Cons a b j refl ∙ list_inner j a b none)
          ∙ ap₂ ◌∷◌ (term_value a (first_place p Cons) j v.0 q.0 (answered_left r g at m n j _ _ e))
          (terms_value b (second_place p Cons a) (j + length (inner_sites 0 a)) v.1 q.1
          (subst (λ i. AreAnswered r g at m n (j + i) (inner_sites (second_place p Cons a) b)) (count_sites M Anywhere rs a (first_place p Cons) 0) (answered_right r g at m n j _ _ e)))
      terms_value a p j w o d = absurd (both_ways false refl w)

    -- those of a message
    pub message_values : (x ms : Tree) (j : ℕ) → is_phrase Terms ms ≡ true → reads_outside M (is_plain r) (Node Cons x ms) ≡ true → AreAnswered r g at m n j (inner_sites 0 (Node Cons x ms)) → values g at n (second (inner j (Node Cons x ms))) ≡ values g at m ms
    unfolding reads_outside
    message_values x ms j w o d =
        let none : call_at M (Node Cons x ms) ≡ None = fine.terms (Node Cons x ms) refl in
        let q = and_parts (reads_outside M (is_plain r) x) _ (sym (ap (λ c. is_some c || (reads_outside M (is_plain r) x && reads_outside M (is_plain r) ms)) none) ∙ o) in
        ap (λ z. values g at n (second z)) (inner_node Cons x ms j refl ∙ list_inner j x ms none)
        ∙ terms_value ms (second_place 0 Cons x) (j + length (inner_sites 0 x)) w q.1
        (subst (λ i. AreAnswered r g at m n (j + i) (inner_sites (second_place 0 Cons x) ms)) (count_sites M Anywhere rs x (first_place 0 Cons) 0)
        (answered_right r g at m n j (inner_sites (first_place 0 Cons) x) _ (subst (AreAnswered r g at m n j) (sites_node Cons x ms 0 refl ∙ list_sites 0 x ms none) d)))

  -- each read in an instance is assigned

  node_assigned : (P : Site → Type 0) (h : Head) (a b : Tree) (xs ys : List Site) → is_phrase Term (Node h a b) ≡ true → TermAssigned g at m (Node h a b)
      → (is_phrase Nil a ≡ true → AllByRecursion P xs) → (is_phrase Term a ≡ true → TermAssigned g at m a → AllByRecursion P xs) → (is_phrase Terms a ≡ true → TermsAssigned g at m a → AllByRecursion P xs)
      → (is_phrase Nil b ≡ true → AllByRecursion P ys) → (is_phrase Term b ≡ true → TermAssigned g at m b → AllByRecursion P ys) → AllByRecursion P (xs ++ ys)
  unfolding is_phrase
  node_assigned P (Leaf x) a b xs ys w t na sa la nb sb = let p = and_parts (is_phrase Nil a) _ w in AllByRecursion_append P xs ys (na p.0) (nb p.1)
  node_assigned P (Read x) a b xs ys w t na sa la nb sb = let p = and_parts (is_phrase Terms a) _ w in AllByRecursion_append P xs ys (la p.0 t.1) (nb p.1)
  node_assigned P (Apply f) a b xs ys w t na sa la nb sb = let p = and_parts (is_phrase Terms a) _ w in AllByRecursion_append P xs ys (la p.0 t) (nb p.1)
  node_assigned P Eq a b xs ys w t na sa la nb sb = let p = and_parts (is_phrase Term a) _ w in AllByRecursion_append P xs ys (sa p.0 t.0) (sb p.1 t.1)
  node_assigned P And a b xs ys w t na sa la nb sb = let p = and_parts (is_phrase Term a) _ w in AllByRecursion_append P xs ys (sa p.0 t.0) (sb p.1 t.1)
  node_assigned P Or a b xs ys w t na sa la nb sb = let p = and_parts (is_phrase Term a) _ w in AllByRecursion_append P xs ys (sa p.0 t.0) (sb p.1 t.1)
  node_assigned P Not a b xs ys w t na sa la nb sb = let p = and_parts (is_phrase Term a) _ w in AllByRecursion_append P xs ys (sa p.0 t.0) (nb p.1)
  node_assigned P Yes a b xs ys w t na sa la nb sb = let p = and_parts (is_phrase Nil a) _ w in AllByRecursion_append P xs ys (na p.0) (nb p.1)
  node_assigned P No a b xs ys w t na sa la nb sb = let p = and_parts (is_phrase Nil a) _ w in AllByRecursion_append P xs ys (na p.0) (nb p.1)
  node_assigned P h a b xs ys w t na sa la nb sb = absurd (both_ways false refl w)

  abbrev pub SiteAssigned : Site → Type 0
  SiteAssigned s = TermAssigned g at m s.term

  nil_assigned : (a : Tree) (p : ℕ) → is_phrase Nil a ≡ true → AllByRecursion SiteAssigned (inner_sites p a)
  unfolding is_phrase sites_in
  nil_assigned Empty p e = tt
  nil_assigned (Node h a b) p e = absurd (both_ways false refl e)

  by_call_assigned : (h : Head) (a b : Tree) (p : ℕ) (o : Option Call) (xs : List Site) → TermAssigned g at m (Node h a b) → AllByRecursion SiteAssigned xs → AllByRecursion SiteAssigned (by_call_sites o (site_at p (Node h a b)) xs)
  by_call_assigned h a b p (Some c) xs t k = (t, tt)
  by_call_assigned h a b p None xs t k = k

  mutual
    unfolding is_phrase sites_in

    pub term_sites : (a : Tree) (p : ℕ) → is_phrase Term a ≡ true → TermAssigned g at m a → AllByRecursion SiteAssigned (inner_sites p a)
    term_sites Empty p w t = tt
    term_sites (Node h a b) p w t =
        subst (AllByRecursion SiteAssigned) (sym (sites_node h a b p (part_of_term h a b w)))
        (by_call_assigned h a b p (call_at M (Node h a b)) _ t
        (node_assigned SiteAssigned h a b (inner_sites (first_place p h) a) (inner_sites (second_place p h a) b) w t
        (nil_assigned a (first_place p h)) (term_sites a (first_place p h)) (terms_sites a (first_place p h)) (nil_assigned b (second_place p h a)) (term_sites b (second_place p h a))))

    pub terms_sites : (a : Tree) (p : ℕ) → is_phrase Terms a ≡ true → TermsAssigned g at m a → AllByRecursion SiteAssigned (inner_sites p a)
    terms_sites Empty p w t = tt
    terms_sites (Node Cons a b) p w t =
        let v = and_parts (is_phrase Term a) _ w in
        subst (AllByRecursion SiteAssigned) (sym (sites_node Cons a b p refl ∙ list_sites p a b (fine.terms (Node Cons a b) refl)))
        (AllByRecursion_append SiteAssigned (inner_sites (first_place p Cons) a) _ (term_sites a (first_place p Cons) v.0 t.0) (terms_sites b (second_place p Cons a) v.1 t.1))
    terms_sites a p w t = absurd (both_ways false refl w)

  names_sites : (a : Tree) (p : ℕ) → is_phrase Names a ≡ true → AllByRecursion SiteAssigned (inner_sites p a)
  unfolding is_phrase sites_in
  names_sites Empty p w = tt
  names_sites (Node (Name x) a b) p w =
      let v = and_parts (is_phrase Nil a) _ w in
      subst (AllByRecursion SiteAssigned) (sym (ap (λ (o : Option Call). elim o as (λ _. List Site) [ Some c ↦ site_at p (Node (Name x) a b) c | None ↦ inner_sites (first_place p (Name x)) a ++ inner_sites (second_place p (Name x) a) b ]) (fine.terms (Node (Name x) a b) refl)))
      (AllByRecursion_append SiteAssigned (inner_sites (first_place p (Name x)) a) _ (nil_assigned a (first_place p (Name x)) v.0) (names_sites b (second_place p (Name x) a) v.1))
  names_sites (Node h a b) p w = absurd (both_ways false refl w)

  pub message_sites : (x ms : Tree) → is_phrase Names x ≡ true → is_phrase Terms ms ≡ true → TermsAssigned g at m ms → AllByRecursion SiteAssigned (inner_sites 0 (Node Cons x ms))
  message_sites x ms v w t =
      subst (AllByRecursion SiteAssigned) (sym (sites_node Cons x ms 0 refl ∙ list_sites 0 x ms (fine.terms (Node Cons x ms) refl)))
      (AllByRecursion_append SiteAssigned (inner_sites (first_place 0 Cons) x) _ (names_sites x (first_place 0 Cons) v) (terms_sites ms (second_place 0 Cons x) w t))
