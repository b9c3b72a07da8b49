-- Terms whose names are there and that are typed, under the indices of replications; and the same with terms for the indices.
use Rattle.std.proofs.Common.{◌≡◌, ℕ, ◌+◌, Bool, true, false, cond, ◌||◌, not, List, [], Option, Some, None, is_some, refl, sym, ap, subst, ◌∙◌, inl, inr, eq-eqb}
use Rattle.std.specs.Prelude.{◌⊎◌, option_map}
use Rattle.std.proofs.lemmas.Bool.{and_from, and_parts, both_ways, or_cases}
use Rattle.cv_syntax_trees.specs.declared.head.Head.{Head}
use Rattle.cv_syntax_trees.specs.declared.head.Head.TheVariants.{And, Apply, Cons, Eq, Leaf, No, Not, Or, Read, Yes}
use Rattle.cv_syntax_trees.specs.Tree.{Tree, Empty, Node, lone}
use Rattle.cv_syntax_trees.specs.declared.sites.sort.Sort.{Sort}
use Rattle.cv_syntax_trees.specs.declared.sites.sort.Sort.TheVariants.{BelowParameter, OfType}
use Rattle.cv_syntax_trees.specs.sites.Counting.{count}
use Rattle.cv_syntax_trees.specs.sites.Sites.{Variable, first_of, first_site}
use Rattle.cv_syntax_trees.specs.sites.Sorts.{same_sort}
use Rattle.cv_syntax_trees.proofs.lists.Options.{is_some_map, none_from_not_some}
use Rattle.cv_syntax.specs.faults.Walk.{IsObeyed}
use Rattle.cv_scope_rules.specs.Phrases.{Phrase, Nil, Term, Terms, is_phrase}
use Rattle.cv_scope_rules.specs.Rules.{is_index}
use Rattle.cv_scope_rules.specs.declared.typing.fault.Fault.TheVariants.{Arity, IndexAsMessage, NotFixed, WrongType}
use Rattle.cv_scope_rules.specs.typing.Signature.{Above, Function, Signature, arity_by, boolean, function_in, is_arity, leaf_arity, leaf_sort, sort_by, sort_of}
use Rattle.cv_scope_rules.specs.typing.Parts.{nothing_above}
use Rattle.cv_scope_rules.specs.typing.Typing.{IsTyped, fault_of, is_unfixed, site_differs}
use Rattle.cv_scope_rules.specs.typing.Wants.{AnyTerm, NoTerms, Of, Want, is_index_sent, is_wrong, like, wants}
use Rattle.cv_scope_rules.proofs.typing.First.{none_where_typed, typed_where_none}
use Rattle.cv_typing_runs.proofs.Terms.{asked_sort, faultless, nil_empty, same_sorts}
use Rattle.cv_scene.specs.Scenes.{Scene}
use Rattle.cv_scene.specs.Terms.{above_under, head_is_there, is_function, is_term_under, is_there, names_under, signature_in}
use Rattle.cv_scene.specs.lines.Given.{given_for, or_node, with_given}
use Rattle.cv_settling_laws.proofs.Indices.{index_some}

abbrev pub of_terms : Bool → Phrase
of_terms true = Term
of_terms false = Terms

-- a term, or a list of terms, whose names are there, and that gives what is asked of it
pub record AreTerms (s : Scene) (rs : List (ℕ × ℕ)) (is_one : Bool) (w : Want) (t : Tree) : Type 0 where
  pub phrase : is_phrase (of_terms is_one) t ≡ true
  pub there : is_there (names_under s rs) (of_terms is_one) t ≡ true
  pub typed : IsTyped (signature_in s) (above_under rs) w t

pub term_under : (s : Scene) (rs : List (ℕ × ℕ)) (t : Tree) → AreTerms s rs true AnyTerm t → is_term_under s rs t ≡ true
term_under s rs t k =
    and_from (is_phrase Term t) _ k.phrase
    (and_from (is_there (names_under s rs) Term t) _ k.there (ap (λ o. not (is_some o)) (none_where_typed (signature_in s) (above_under rs) AnyTerm 0 t k.typed)))

pub under_term : (s : Scene) (rs : List (ℕ × ℕ)) (t : Tree) → is_term_under s rs t ≡ true → AreTerms s rs true AnyTerm t
under_term s rs t e =
    let p = and_parts (is_phrase Term t) _ e in
    let q = and_parts (is_there (names_under s rs) Term t) _ p.1 in
    record { phrase = p.0; there = q.0; typed = typed_where_none (signature_in s) (above_under rs) AnyTerm 0 t (none_from_not_some _ q.1) }

-- nodes without a fault

pub no_fault : (e : Signature) (above : Above) (w : Want) (h : Head) (a : Tree) → is_wrong w (sort_by e above h a) ≡ false → site_differs e.arrays h a ≡ false → is_arity (arity_by e above h) (count a) ≡ true → is_index_sent w (sort_by e above h a) ≡ false → is_unfixed e h ≡ false
    → fault_of e above w h a ≡ None
no_fault e above w h a r d n v u = λ i. cond (r i || d i) (Some WrongType) (cond (n i) (cond (v i) (Some IndexAsMessage) (cond (u i) (Some NotFixed) None)) (Some Arity))

-- where another thing is asked
gives_here : (e : Signature) (above : Above) (w v : Want) (h : Head) (a : Tree) → is_unfixed e h ≡ false → fault_of e above w h a ≡ None → is_wrong v (sort_by e above h a) ≡ false → is_index_sent v (sort_by e above h a) ≡ false → fault_of e above v h a ≡ None
gives_here e above w v h a u f r q = let g = faultless e above w h a f in no_fault e above v h a r g.site g.arity q u

pub nil_typed : (e : Signature) (above : Above) (w : Want) (t : Tree) → is_phrase Nil t ≡ true → IsTyped e above w t
unfolding is_phrase IsObeyed
nil_typed e above w Empty p = tt
nil_typed e above w (Node h a b) p = absurd (both_ways false refl p)

-- a term gives all for which its sort is right
pub gives_by_sort : (e : Signature) (above : Above) (w v : Want) (t : Tree) → is_phrase Term t ≡ true → IsTyped e above w t → is_wrong v (sort_of e above t) ≡ false → is_index_sent v (sort_of e above t) ≡ false → IsTyped e above v t
unfolding is_phrase IsObeyed
gives_by_sort e above w v Empty p i r q = tt
gives_by_sort e above w v (Node (Leaf x) a b) p i r q =
    let z = and_parts (is_phrase Nil a) (is_phrase Nil b) p in
    (gives_here e above w v (Leaf x) a refl i.0 r q, nil_typed e above (wants e above v (Leaf x) a).0 a z.0, nil_typed e above (wants e above v (Leaf x) a).1 b z.1)
gives_by_sort e above w v (Node (Read x) a b) p i r q = (gives_here e above w v (Read x) a refl i.0 r q, i.1, i.2)
gives_by_sort e above w v (Node (Apply f) a b) p i r q = (gives_here e above w v (Apply f) a refl i.0 r q, i.1, i.2)
gives_by_sort e above w v (Node Eq a b) p i r q = (gives_here e above w v Eq a refl i.0 r q, i.1, i.2)
gives_by_sort e above w v (Node And a b) p i r q = (gives_here e above w v And a refl i.0 r q, i.1, i.2)
gives_by_sort e above w v (Node Or a b) p i r q = (gives_here e above w v Or a refl i.0 r q, i.1, i.2)
gives_by_sort e above w v (Node Not a b) p i r q = (gives_here e above w v Not a refl i.0 r q, i.1, i.2)
gives_by_sort e above w v (Node Yes a b) p i r q =
    let z = and_parts (is_phrase Nil a) (is_phrase Nil b) p in
    (gives_here e above w v Yes a refl i.0 r q, nil_typed e above (wants e above v Yes a).0 a z.0, nil_typed e above (wants e above v Yes a).1 b z.1)
gives_by_sort e above w v (Node No a b) p i r q =
    let z = and_parts (is_phrase Nil a) (is_phrase Nil b) p in
    (gives_here e above w v No a refl i.0 r q, nil_typed e above (wants e above v No a).0 a z.0, nil_typed e above (wants e above v No a).1 b z.1)
gives_by_sort e above w v (Node h a b) p i r q = absurd (both_ways false refl p)

pub any_right : (o : Option Sort) → is_wrong AnyTerm o ≡ false
any_right None = refl
any_right (Some S) = refl

pub any_sent : (o : Option Sort) → is_index_sent AnyTerm o ≡ false
any_sent None = refl
any_sent (Some S) = refl

-- any term
pub as_any : (s : Scene) (rs : List (ℕ × ℕ)) (w : Want) (t : Tree) → AreTerms s rs true w t → AreTerms s rs true AnyTerm t
as_any s rs w t k =
    record { phrase = k.phrase; there = k.there; typed = gives_by_sort (signature_in s) (above_under rs) w AnyTerm t k.phrase k.typed (any_right (sort_of (signature_in s) (above_under rs) t)) (any_sent (sort_of (signature_in s) (above_under rs) t)) }

-- the sort of a term whose names are there is known

some_first : {A : Type 0} (o q : Option A) → is_some o ≡ true → is_some (first_of o q) ≡ true
some_first None q e = absurd (both_ways false refl e)
some_first (Some a) q e = refl

some_second : {A : Type 0} (o q : Option A) → is_some q ≡ true → is_some (first_of o q) ≡ true
some_second None q e = e
some_second (Some a) q e = refl

leaf_sorted : (s : Scene) (rs : List (ℕ × ℕ)) (x : ℕ) → head_is_there (names_under s rs) Term (Leaf x) ≡ true → is_some (leaf_sort (signature_in s) (above_under rs) x) ≡ true
leaf_sorted s rs x e = index (or_cases (is_index rs x) _ e)
  where
    named : (is_function s.declarations x ≡ true) ⊎ (is_some (first_site x [] s.game) ≡ true) → is_some (leaf_sort (signature_in s) (above_under rs) x) ≡ true
    named (inl f) = some_second (above_under rs x) _ (some_second (option_map (λ (v : Variable). v.sort) (first_site x [] s.game)) _ (some_first (option_map (λ (f : Function). OfType f.result) (function_in s.declarations x)) _ (is_some_map (λ (f : Function). OfType f.result) (function_in s.declarations x) ∙ f)))
    named (inr v) = some_second (above_under rs x) _ (some_first (option_map (λ (v : Variable). v.sort) (first_site x [] s.game)) _ (is_some_map (λ (v : Variable). v.sort) (first_site x [] s.game) ∙ v))

    index : (is_index rs x ≡ true) ⊎ ((is_function s.declarations x || is_some (first_site x [] s.game)) ≡ true) → is_some (leaf_sort (signature_in s) (above_under rs) x) ≡ true
    index (inl i) = some_first (above_under rs x) _ (index_some rs nothing_above x i)
    index (inr n) = named (or_cases (is_function s.declarations x) _ n)

pub sorted : (s : Scene) (rs : List (ℕ × ℕ)) (t : Tree) → is_phrase Term t ≡ true → is_there (names_under s rs) Term t ≡ true → is_some (sort_of (signature_in s) (above_under rs) t) ≡ true
unfolding is_phrase is_there
sorted s rs Empty p e = absurd (both_ways false refl p)
sorted s rs (Node (Leaf x) a b) p e = leaf_sorted s rs x (and_parts (head_is_there (names_under s rs) Term (Leaf x)) _ e).0
sorted s rs (Node (Read x) a b) p e = is_some_map (λ (v : Variable). v.sort) (first_site x [] s.game) ∙ (and_parts (is_some (first_site x [] s.game)) _ e).0
sorted s rs (Node (Apply f) a b) p e = is_some_map (λ (f : Function). OfType f.result) (function_in s.declarations f) ∙ (and_parts (is_function s.declarations f) _ e).0
sorted s rs (Node Eq a b) p e = refl
sorted s rs (Node And a b) p e = refl
sorted s rs (Node Or a b) p e = refl
sorted s rs (Node Not a b) p e = refl
sorted s rs (Node Yes a b) p e = refl
sorted s rs (Node No a b) p e = refl
sorted s rs (Node h a b) p e = absurd (both_ways false refl p)

-- an equation the other way round

pub same_self : (S : Sort) → not (same_sort S S) ≡ false
same_self (OfType T) = ap not (eq-eqb T T refl)
same_self (BelowParameter n) = ap not (eq-eqb n n refl)

pub turned_round : (s : Scene) (rs : List (ℕ × ℕ)) (m n : Tree) → AreTerms s rs true (Of boolean) (Node Eq m n) → AreTerms s rs true (Of boolean) (Node Eq n m)
unfolding is_phrase is_there IsObeyed
turned_round s rs m n k =
    let e = signature_in s in
    let above = above_under rs in
    let p = and_parts (is_phrase Term m) (is_phrase Term n) k.phrase in
    let q = and_parts (is_there (names_under s rs) Term m) (is_there (names_under s rs) Term n) k.there in
    let r = given (sort_of e above m) (sort_of e above n) refl refl k.typed.2 in
    record {
      phrase = and_from _ _ p.1 p.0;
      there = and_from _ _ q.1 q.0;
      typed = (refl, gives_by_sort e above (like (sort_of e above m)) AnyTerm n p.1 k.typed.2 (any_right (sort_of e above n)) (any_sent (sort_of e above n)), gives_by_sort e above AnyTerm (like (sort_of e above n)) m p.0 k.typed.1 r.0 r.1);
    }
  where
    given : (o r : Option Sort) → sort_of (signature_in s) (above_under rs) m ≡ o → sort_of (signature_in s) (above_under rs) n ≡ r → IsTyped (signature_in s) (above_under rs) (like (sort_of (signature_in s) (above_under rs) m)) n
        → (is_wrong (like (sort_of (signature_in s) (above_under rs) n)) (sort_of (signature_in s) (above_under rs) m) ≡ false) × (is_index_sent (like (sort_of (signature_in s) (above_under rs) n)) (sort_of (signature_in s) (above_under rs) m) ≡ false)
    given None r i j t = (ap (is_wrong (like (sort_of (signature_in s) (above_under rs) n))) i, ap (is_index_sent (like (sort_of (signature_in s) (above_under rs) n))) i)
    given (Some S) None i j t = ((λ x. is_wrong (like (j x)) (i x)), (λ x. is_index_sent (like (j x)) (i x)))
    given (Some S) (Some R) i j t =
        let z = asked_sort (signature_in s) (above_under rs) (Of S) n R (subst (λ o. IsTyped (signature_in s) (above_under rs) (like o) n) i t) j in
        let same = same_sorts S R z.0 in
        ((λ x. is_wrong (like (j x)) (i x)) ∙ (ap (λ Q. not (same_sort Q S)) same ∙ same_self S), (λ x. is_index_sent (like (j x)) (i x)))

-- Terms for names: each bare name that takes no indices has a term of its sort.

pub record IsBare (s : Scene) (qs : List (ℕ × ℕ)) (x : ℕ) : Type 0 where
  pub there : head_is_there (names_under s qs) Term (Leaf x) ≡ true
  pub arity : is_arity (leaf_arity (signature_in s) (above_under qs) x) 0 ≡ true

pub record IsPut (s : Scene) (qs rs : List (ℕ × ℕ)) (names : List ℕ) (terms : Tree) (x : ℕ) : Type 0 where
  pub term : AreTerms s rs true AnyTerm (with_given names terms (lone (Leaf x)))
  pub sort : sort_of (signature_in s) (above_under rs) (with_given names terms (lone (Leaf x))) ≡ leaf_sort (signature_in s) (above_under qs) x

module _ (s : Scene) (qs rs : List (ℕ × ℕ)) (names : List ℕ) (terms : Tree) (each : (x : ℕ) → IsBare s qs x → IsPut s qs rs names terms x) where
  abbrev e : Signature
  e = signature_in s

  abbrev put : Tree → Tree
  put t = with_given names terms t

  -- the sort of a term, and how many terms a list has
  abbrev Same : Bool → Tree → Type 0
  Same true t = sort_of e (above_under rs) (put t) ≡ sort_of e (above_under qs) t
  Same false t = count (put t) ≡ count t

  bare : (x : ℕ) (w : Want) → AreTerms s qs true w (lone (Leaf x)) → AreTerms s rs true w (put (lone (Leaf x))) × Same true (lone (Leaf x))
  unfolding is_there IsObeyed count
  bare x w z =
      let g = faultless e (above_under qs) w (Leaf x) Empty z.typed.0 in
      let k = each x (record { there = (and_parts (head_is_there (names_under s qs) Term (Leaf x)) _ z.there).0; arity = g.arity }) in
      (record { phrase = k.term.phrase; there = k.term.there; typed = gives_by_sort e (above_under rs) AnyTerm w (put (lone (Leaf x))) k.term.phrase k.term.typed (ap (is_wrong w) k.sort ∙ g.right) (ap (is_index_sent w) k.sort ∙ g.value) }, k.sort)

  nil_put : (t : Tree) → is_phrase Nil t ≡ true → (is_phrase Nil (put t) ≡ true) × (is_there (names_under s rs) Nil (put t) ≡ true)
  unfolding is_phrase is_there with_given
  nil_put Empty p = (refl, refl)
  nil_put (Node h a b) p = absurd (both_ways false refl p)

  pub are_put : (is_one : Bool) (w : Want) (t : Tree) → AreTerms s qs is_one w t → AreTerms s rs is_one w (put t) × Same is_one t
  unfolding is_phrase is_there IsObeyed with_given count
  are_put false w Empty z = (record { phrase = refl; there = refl; typed = tt }, refl)
  are_put false w (Node Cons a b) z =
      let p = and_parts (is_phrase Term a) (is_phrase Terms b) z.phrase in
      let q = and_parts (is_there (names_under s qs) Term a) (is_there (names_under s qs) Terms b) z.there in
      let l = are_put true (wants e (above_under qs) w Cons a).0 a (record { phrase = p.0; there = q.0; typed = z.typed.1 }) in
      let r = are_put false (wants e (above_under qs) w Cons a).1 b (record { phrase = p.1; there = q.1; typed = z.typed.2 }) in
      (record { phrase = and_from _ _ l.0.phrase r.0.phrase; there = and_from _ _ l.0.there r.0.there; typed = (refl, l.0.typed, r.0.typed) }, ap (λ n. n + 1) r.1)
  are_put false w (Node h a b) z = absurd (both_ways false refl z.phrase)
  are_put true w Empty z = absurd (both_ways false refl z.phrase)
  are_put true w (Node (Leaf x) a b) z =
      let p = and_parts (is_phrase Nil a) (is_phrase Nil b) z.phrase in
      let i = nil_empty a p.0 in
      let j = nil_empty b p.1 in
      subst (λ (c : Tree × Tree). AreTerms s rs true w (put (Node (Leaf x) c.0 c.1)) × Same true (Node (Leaf x) c.0 c.1)) (λ k. (sym i k, sym j k))
      (bare x w (subst (λ (c : Tree × Tree). AreTerms s qs true w (Node (Leaf x) c.0 c.1)) (λ k. (i k, j k)) z))
  are_put true w (Node (Read x) a b) z =
      let p = and_parts (is_phrase Terms a) (is_phrase Nil b) z.phrase in
      let q = and_parts (head_is_there (names_under s qs) Term (Read x)) _ z.there in
      let u = and_parts (is_there (names_under s qs) Terms a) _ q.1 in
      let l = are_put false (wants e (above_under qs) w (Read x) a).0 a (record { phrase = p.0; there = u.0; typed = z.typed.1 }) in
      let g = faultless e (above_under qs) w (Read x) a z.typed.0 in
      let n = nil_put b p.1 in
      (record { phrase = and_from _ _ l.0.phrase n.0; there = and_from _ _ q.0 (and_from _ _ l.0.there n.1); typed = (no_fault e (above_under rs) w (Read x) (put a) g.right refl (ap (is_arity (arity_by e (above_under rs) (Read x))) l.1 ∙ g.arity) g.value refl, l.0.typed, nil_typed e (above_under rs) (wants e (above_under rs) w (Read x) (put a)).1 (put b) n.0) }, refl)
  are_put true w (Node (Apply f) a b) z =
      let p = and_parts (is_phrase Terms a) (is_phrase Nil b) z.phrase in
      let q = and_parts (head_is_there (names_under s qs) Term (Apply f)) _ z.there in
      let u = and_parts (is_there (names_under s qs) Terms a) _ q.1 in
      let l = are_put false (wants e (above_under qs) w (Apply f) a).0 a (record { phrase = p.0; there = u.0; typed = z.typed.1 }) in
      let g = faultless e (above_under qs) w (Apply f) a z.typed.0 in
      let n = nil_put b p.1 in
      (record { phrase = and_from _ _ l.0.phrase n.0; there = and_from _ _ q.0 (and_from _ _ l.0.there n.1); typed = (no_fault e (above_under rs) w (Apply f) (put a) g.right refl (ap (is_arity (arity_by e (above_under rs) (Apply f))) l.1 ∙ g.arity) g.value refl, l.0.typed, nil_typed e (above_under rs) (wants e (above_under rs) w (Apply f) (put a)).1 (put b) n.0) }, refl)
  are_put true w (Node Eq a b) z =
      let p = and_parts (is_phrase Term a) (is_phrase Term b) z.phrase in
      let q = and_parts (is_there (names_under s qs) Term a) (is_there (names_under s qs) Term b) z.there in
      let l = are_put true AnyTerm a (record { phrase = p.0; there = q.0; typed = z.typed.1 }) in
      let r = are_put true (like (sort_of e (above_under qs) a)) b (record { phrase = p.1; there = q.1; typed = z.typed.2 }) in
      let g = faultless e (above_under qs) w Eq a z.typed.0 in
      (record { phrase = and_from _ _ l.0.phrase r.0.phrase; there = and_from _ _ l.0.there r.0.there; typed = (no_fault e (above_under rs) w Eq (put a) g.right refl refl g.value refl, l.0.typed, subst (λ o. IsTyped e (above_under rs) (like o) (put b)) (sym l.1) r.0.typed) }, refl)
  are_put true w (Node And a b) z =
      let p = and_parts (is_phrase Term a) (is_phrase Term b) z.phrase in
      let q = and_parts (is_there (names_under s qs) Term a) (is_there (names_under s qs) Term b) z.there in
      let l = are_put true (Of boolean) a (record { phrase = p.0; there = q.0; typed = z.typed.1 }) in
      let r = are_put true (Of boolean) b (record { phrase = p.1; there = q.1; typed = z.typed.2 }) in
      let g = faultless e (above_under qs) w And a z.typed.0 in
      (record { phrase = and_from _ _ l.0.phrase r.0.phrase; there = and_from _ _ l.0.there r.0.there; typed = (no_fault e (above_under rs) w And (put a) g.right refl refl g.value refl, l.0.typed, r.0.typed) }, refl)
  are_put true w (Node Or a b) z =
      let p = and_parts (is_phrase Term a) (is_phrase Term b) z.phrase in
      let q = and_parts (is_there (names_under s qs) Term a) (is_there (names_under s qs) Term b) z.there in
      let l = are_put true (Of boolean) a (record { phrase = p.0; there = q.0; typed = z.typed.1 }) in
      let r = are_put true (Of boolean) b (record { phrase = p.1; there = q.1; typed = z.typed.2 }) in
      let g = faultless e (above_under qs) w Or a z.typed.0 in
      (record { phrase = and_from _ _ l.0.phrase r.0.phrase; there = and_from _ _ l.0.there r.0.there; typed = (no_fault e (above_under rs) w Or (put a) g.right refl refl g.value refl, l.0.typed, r.0.typed) }, refl)
  are_put true w (Node Not a b) z =
      let p = and_parts (is_phrase Term a) (is_phrase Nil b) z.phrase in
      let q = and_parts (is_there (names_under s qs) Term a) (is_there (names_under s qs) Nil b) z.there in
      let l = are_put true (Of boolean) a (record { phrase = p.0; there = q.0; typed = z.typed.1 }) in
      let n = nil_put b p.1 in
      let g = faultless e (above_under qs) w Not a z.typed.0 in
      (record { phrase = and_from _ _ l.0.phrase n.0; there = and_from _ _ l.0.there n.1; typed = (no_fault e (above_under rs) w Not (put a) g.right refl refl g.value refl, l.0.typed, nil_typed e (above_under rs) NoTerms (put b) n.0) }, refl)
  are_put true w (Node Yes a b) z =
      let p = and_parts (is_phrase Nil a) (is_phrase Nil b) z.phrase in
      let m = nil_put a p.0 in
      let n = nil_put b p.1 in
      let g = faultless e (above_under qs) w Yes a z.typed.0 in
      (record { phrase = and_from _ _ m.0 n.0; there = and_from _ _ m.1 n.1; typed = (no_fault e (above_under rs) w Yes (put a) g.right refl refl g.value refl, nil_typed e (above_under rs) (wants e (above_under rs) w Yes (put a)).0 (put a) m.0, nil_typed e (above_under rs) (wants e (above_under rs) w Yes (put a)).1 (put b) n.0) }, refl)
  are_put true w (Node No a b) z =
      let p = and_parts (is_phrase Nil a) (is_phrase Nil b) z.phrase in
      let m = nil_put a p.0 in
      let n = nil_put b p.1 in
      let g = faultless e (above_under qs) w No a z.typed.0 in
      (record { phrase = and_from _ _ m.0 n.0; there = and_from _ _ m.1 n.1; typed = (no_fault e (above_under rs) w No (put a) g.right refl refl g.value refl, nil_typed e (above_under rs) (wants e (above_under rs) w No (put a)).0 (put a) m.0, nil_typed e (above_under rs) (wants e (above_under rs) w No (put a)).1 (put b) n.0) }, refl)
  are_put true w (Node h a b) z = absurd (both_ways false refl z.phrase)

-- no terms for no names

none_given : (terms : Tree) (h : Head) → given_for [] terms h ≡ None
none_given terms (Leaf x) = refl
none_given terms h = refl

pub with_none : (terms t : Tree) → with_given [] terms t ≡ t
unfolding with_given
with_none terms Empty = refl
with_none terms (Node h a b) = λ i. or_node (none_given terms h i) h (with_none terms a i) (with_none terms b i)
