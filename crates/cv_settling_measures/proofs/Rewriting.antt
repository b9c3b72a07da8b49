-- Games with another term in the place of one.
use Rattle.std.proofs.Common.{◌≡◌, ℕ, ◌+◌, ◌-◌, ◌==◌, ◌||◌, ◌&&◌, ◌⊎◌, inl, inr, Bool, true, false, cond, List, [], ◌∷◌, Option, Some, None, refl, sym, ap, ap₂, subst, ◌∙◌, arith, nat_lt, eq-eqb, eqb-true, le-ltb, lt-ltb, ltb-false, ltb-true}
use Rattle.std.proofs.lemmas.Bool.{both_ways, and_parts}
use Rattle.cv_syntax_trees.specs.declared.head.Head.{Head}
use Rattle.cv_syntax_trees.specs.declared.head.Head.TheVariants.{Leaf, Read}
use Rattle.cv_syntax_trees.specs.declared.sites.sort.Sort.{Sort}
use Rattle.cv_syntax_trees.specs.declared.sites.sort.Sort.TheVariants.{BelowParameter, OfType}
use Rattle.cv_syntax_trees.specs.Head.{weight}
use Rattle.cv_syntax_trees.specs.Tree.{Tree, Empty, Node, size, subtree}
use Rattle.cv_syntax_trees.specs.sites.Sites.{first_of}
use Rattle.cv_scope_rules.specs.Phrases.{Inputs, Nil, Phrase, Term, is_phrase}
use Rattle.cv_scope_rules.specs.declared.typing.precedence.Precedence.TheVariants.{First}
use Rattle.cv_scope_rules.specs.typing.Parts.{nothing_above}
use Rattle.cv_scope_rules.specs.typing.Signature.{Above, sort_of}
use Rattle.cv_scope_rules.specs.typing.Wants.{bound}
use Rattle.cv_scene.specs.lines.Ends.{ends_with}
use Rattle.cv_scene.specs.lines.Targets.{equality}
use Rattle.cv_scene.specs.Derivations.{first_bad_line}
use Rattle.cv_scene.specs.Scenes.{Scene, or_empty, part_at}
use Rattle.cv_scene.specs.Sights.{sight_at}
use Rattle.cv_scene.specs.Terms.{above_at, indices_above, is_sort, replications_at, signature_in}
use Rattle.cv_steps.specs.Changes.{change_at}
use Rattle.cv_steps.specs.Rewriting.{by_parts, has_sort_of, has_term_at, is_rewritable_at, is_term, is_value, parts_of, sort_at}
use Rattle.cv_steps.specs.Rows.{rewrite_row}
use Rattle.cv_steps.specs.Steps.{Cost, Leads, Zero}
use Rattle.cv_steps.proofs.Flat.{open_phrase, term_still}
use Rattle.cv_steps.proofs.Places.{Found, bare, found, here, in_first, in_second, nothing_there}
use Rattle.cv_steps.proofs.Rows.{leads_same, unless_at_leads, unless_leads}
use Rattle.cv_settling_rules.specs.Measure.{is_less, is_of_large, large_equalities, lowers}
use Rattle.cv_settling_measures.specs.Parts.{measure_in}
use Rattle.cv_settling_measures.proofs.Equalities.{equalities_replaced, is_large_term, size_replaced}
use Rattle.cv_settling_measures.proofs.Names.{counted_before}
use Rattle.cv_settling_measures.proofs.Sites.{sites_replaced, site_sort, still_sites}

-- what is a term where one stands

only_terms : (σ : Phrase) (t : Tree) → is_term σ ≡ true → is_phrase σ t ≡ true → is_phrase Term t ≡ true
only_terms Term t e w = w
only_terms σ t e w = absurd (both_ways false refl e)

kept_parts : (h : Head) (q : Phrase × Phrase) → (by_parts h (Some q) ≡ q) ⊎ (by_parts h (Some q) ≡ (Nil, Nil))
kept_parts (Read x) q = inr refl
kept_parts h q = inl refl

pub term_there : (σ : Phrase) (t : Tree) (p : ℕ) → is_phrase σ t ≡ true → has_term_at σ t p ≡ true → is_phrase Term (part_at t p) ≡ true
term_there σ Empty p w e = absurd (nothing_there σ p e)
term_there σ (Node h a b) p w e =
    let o = open_phrase σ h a b w in
    let z : parts_of σ h ≡ by_parts h (Some o.0) = ap (by_parts h) o.1 in
    go o.0 (kept_parts h o.0) z o.2 o.3 (term_there o.0.0 a (p - weight h) o.2) (term_there o.0.1 b (p - (weight h + size a)) o.3) (found Empty σ h a b p e)
  where
    go : (q : Phrase × Phrase) → (by_parts h (Some q) ≡ q) ⊎ (by_parts h (Some q) ≡ (Nil, Nil)) → parts_of σ h ≡ by_parts h (Some q) → is_phrase q.0 a ≡ true → is_phrase q.1 b ≡ true
        → (has_term_at q.0 a (p - weight h) ≡ true → is_phrase Term (part_at a (p - weight h)) ≡ true) → (has_term_at q.1 b (p - (weight h + size a)) ≡ true → is_phrase Term (part_at b (p - (weight h + size a))) ≡ true)
        → Found Empty σ h a b p → is_phrase Term (part_at (Node h a b) p) ≡ true
    go q d z x y k l (here f) = ap (is_phrase Term) f.part ∙ only_terms σ (Node h a b) f.term w
    go q (inl d) z x y k l (in_first f) = ap (is_phrase Term) f.part ∙ k (ap (λ (r : Phrase × Phrase). has_term_at r.0 a (p - weight h)) (sym (z ∙ d)) ∙ f.term)
    go q (inr d) z x y k l (in_first f) = absurd (bare Nil a (p - weight h) refl (ap (λ (r : Phrase × Phrase). has_term_at r.0 a (p - weight h)) (sym (z ∙ d)) ∙ f.term))
    go q (inl d) z x y k l (in_second f) = ap (is_phrase Term) f.part ∙ l (ap (λ (r : Phrase × Phrase). has_term_at r.1 b (p - (weight h + size a))) (sym (z ∙ d)) ∙ f.term)
    go q (inr d) z x y k l (in_second f) = absurd (bare Nil b (p - (weight h + size a)) refl (ap (λ (r : Phrase × Phrase). has_term_at r.1 b (p - (weight h + size a))) (sym (z ∙ d)) ∙ f.term))

pub part_there : (t : Tree) (p : ℕ) → is_phrase Term (part_at t p) ≡ true → subtree t p ≡ Some (part_at t p)
unfolding is_phrase
part_there t p e = go (subtree t p) e
  where
    go : (o : Option Tree) → is_phrase Term (or_empty o) ≡ true → o ≡ Some (or_empty o)
    go None e = absurd (both_ways false refl e)
    go (Some u) e = refl

-- indices that are bound above have no types

abbrev pub AreIndices : Above → Type 0
AreIndices above = (x T : ℕ) → above x ≡ Some (OfType T) → ⊥

no_type : (n T : ℕ) → ◌≡◌ {A = Option Sort} (Some (BelowParameter n)) (Some (OfType T)) → ⊥
no_type n T e = cc

pub index_bound : (above : Above) (i n : ℕ) → AreIndices above → AreIndices (bound First above i (BelowParameter n))
index_bound above i n k x T e = go (i == x) (above i) refl e
  where
    go : (v : Bool) (o : Option Sort) → above i ≡ o → cond v (first_of o (Some (BelowParameter n))) (above x) ≡ Some (OfType T) → ⊥
    go true (Some S) f e = k i T (f ∙ e)
    go true None f e = no_type n T e
    go false o f e = k x T e

pub indices_bound : (above : Above) (rs : List (ℕ × ℕ)) → AreIndices above → AreIndices (indices_above above rs)
indices_bound above [] k = k
indices_bound above (r ∷ rs) k = indices_bound (bound First above r.0 (BelowParameter r.1)) rs (index_bound above r.0 r.1 k)

-- so a value has its sort by the signature alone
pub value_sort : (s : Scene) (above : Above) → AreIndices above → (m : Tree) (T : ℕ) → sort_of (signature_in s) above m ≡ Some (OfType T) → sort_of (signature_in s) nothing_above m ≡ Some (OfType T)
value_sort s above k Empty T e = e
value_sort s above k (Node (Leaf x) a b) T e = go (above x) refl e
  where
    go : (o : Option Sort) → above x ≡ o → first_of o (sort_of (signature_in s) nothing_above (Node (Leaf x) a b)) ≡ Some (OfType T) → sort_of (signature_in s) nothing_above (Node (Leaf x) a b) ≡ Some (OfType T)
    go None f e = e
    go (Some S) f e = absurd (k x T (f ∙ e))
value_sort s above k (Node h a b) T e = e

value_of : (o : Option Sort) → is_value o ≡ true → (T : ℕ) × (o ≡ Some (OfType T))
value_of (Some (OfType T)) e = (T, refl)
value_of o e = absurd (both_ways false refl e)

of_type : (o : Option Sort) (T : ℕ) → is_sort o (OfType T) ≡ true → o ≡ Some (OfType T)
of_type None T e = absurd (both_ways false refl e)
of_type (Some (OfType U)) T e = ap (λ V. Some (OfType V)) (eqb-true U T e)
of_type (Some (BelowParameter n)) T e = absurd (both_ways false refl e)

-- the terms are of one type
same_size : (s : Scene) (p : ℕ) (m : Tree) → is_value (sort_at s p (part_at s.game p)) ≡ true → has_sort_of (sort_at s p (part_at s.game p)) (sort_at s p m) ≡ true → is_large_term s m ≡ is_large_term s (part_at s.game p)
same_size s p m v e =
    let above : Above = above_at s p in
    let k : AreIndices above = indices_bound nothing_above (replications_at s p) (λ x T f. absurd (cc)) in
    let r = value_of (sort_at s p (part_at s.game p)) v in
    let q : sort_at s p m ≡ Some (OfType r.0) = of_type (sort_at s p m) r.0 (ap (λ o. has_sort_of o (sort_at s p m)) (sym r.1) ∙ e) in
    ap (is_of_large s) (value_sort s above k m r.0 q ∙ sym (value_sort s above k (part_at s.game p) r.0 r.1))

-- a part that counts less, beside what stays, lowers the whole
less_beside : (m n k l e f g h : ℕ) → m + f ≡ e + k → n + h ≡ g + l → is_less (record { equalities = m; nodes = n }) (record { equalities = e; nodes = g }) ≡ is_less (record { equalities = k; nodes = l }) (record { equalities = f; nodes = h })
less_beside m n k l e f g h i j = ap₂ ◌||◌ (same_order m e k f i) (ap₂ ◌&&◌ (same_equal m e k f i) (same_order n g l h j))
  where
    same_order : (a b c d : ℕ) → a + d ≡ b + c → nat_lt a b ≡ nat_lt c d
    same_order a b c d i = go (nat_lt a b) refl
      where
        go : (v : Bool) → nat_lt a b ≡ v → v ≡ nat_lt c d
        go true f = sym (lt-ltb c d (let z = ltb-true a b f in omega arith))
        go false f = sym (le-ltb c d (let z = ltb-false a b f in omega arith))

    same_equal : (a b c d : ℕ) → a + d ≡ b + c → (a == b) ≡ (c == d)
    same_equal a b c d i = go (a == b) refl (c == d) refl
      where
        go : (v : Bool) → (a == b) ≡ v → (w : Bool) → (c == d) ≡ w → v ≡ w
        go true f true g = refl
        go false f false g = refl
        go true f false g = absurd (both_ways (c == d) g (eq-eqb c d (let z = eqb-true a b f in omega arith)))
        go false f true g = absurd (both_ways (a == b) f (eq-eqb a b (let z = eqb-true c d g in omega arith)))

-- where a term of one sort may stand for another, the game is lower if and only if the term counts less
pub term_lowers : (s : Scene) (p : ℕ) (m : Tree) → is_phrase Inputs s.game ≡ true → has_term_at Inputs s.game p ≡ true → is_phrase Term m ≡ true → is_large_term s m ≡ is_large_term s (part_at s.game p)
    → lowers s (change_at s.game p (λ t. m)) ≡ is_less (measure_in s m) (measure_in s (part_at s.game p))
term_lowers s p m w e v l =
    let old : Tree = part_at s.game p in
    let term : is_phrase Term old ≡ true = term_there Inputs s.game p w e in
    let there : subtree s.game p ≡ Some old = part_there s.game p term in
    let next : Tree = change_at s.game p (λ t. m) in
    let sites : (x : ℕ) → site_sort x m ≡ site_sort x old = λ x. still_sites x m (term_still m v) ∙ sym (still_sites x old (term_still old term)) in
    ap (λ n. is_less (record { equalities = n; nodes = size next }) (record { equalities = large_equalities s s.game; nodes = size s.game }))
    (counted_before s next (λ x. inl (sites_replaced x old m (sites x) Inputs s.game p w there)))
    ∙ less_beside (large_equalities s next) (size next) (large_equalities s m) (size m) (large_equalities s s.game) (large_equalities s old) (size s.game) (size old)
    (equalities_replaced s old m l s.game p there) (size_replaced s.game p old m there)

pub rewrite_lowers : (s : Scene) (p : ℕ) (m by next : Tree) (cost : Cost) → is_phrase Inputs s.game ≡ true → is_phrase Term m ≡ true → rewrite_row s p m by ≡ Leads next cost
    → lowers s next ≡ is_less (measure_in s m) (measure_in s (part_at s.game p))
rewrite_lowers s p m by next cost w v e =
    let r = unless_leads (is_rewritable_at s p) 1 p _ next cost e in
    let q = unless_leads (has_sort_of (sort_at s p (part_at s.game p)) (sort_at s p m)) 2 0 _ next cost r.1 in
    let o = unless_at_leads 3 (first_bad_line (sight_at s p) by) _ next cost q.1 in
    let d = unless_leads (ends_with by (equality (part_at s.game p) m)) 4 0 _ next cost o.1 in
    let there = and_parts (has_term_at Inputs s.game p) _ r.0 in
    subst (λ t. lowers s t ≡ is_less (measure_in s m) (measure_in s (part_at s.game p))) (leads_same (change_at s.game p (λ old. m)) next Zero cost d.1)
    (term_lowers s p m w there.0 v (same_size s p m there.1 q.0))
