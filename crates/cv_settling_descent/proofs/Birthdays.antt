-- Games with comparisons of indices for those of random values.
use Rattle.std.proofs.Common.{◌≡◌, ℕ, ◌+◌, ◌<◌, ◌≤◌, ◌==◌, ◌||◌, ◌&&◌, inl, Bool, true, false, cond, not, List, [], ◌∷◌, Option, Some, None, refl, sym, ap, ap₂, subst, ◌∙◌, arith, eqb-true, eq-eqb}
use Rattle.std.specs.Prelude.{option_map}
use Rattle.std.specs.List.{AllByRecursion}
use Rattle.std.proofs.lemmas.Bool.{both_ways, and_parts, or_left, or_right}
use Rattle.cv_syntax_trees.specs.declared.head.Head.{Head}
use Rattle.cv_syntax_trees.specs.declared.head.Head.TheVariants.{Binder, Branch, Eq, In, Leaf, Let, New, Read}
use Rattle.cv_syntax_trees.specs.declared.sites.sort.Sort.{Sort}
use Rattle.cv_syntax_trees.specs.declared.sites.sort.Sort.TheVariants.{BelowParameter, OfType}
use Rattle.cv_syntax_trees.specs.Tree.{Tree, Empty, Node, first, first_place, second, second_place}
use Rattle.cv_syntax_trees.specs.sites.Sites.{Variable as FirstSite, bound_sort, first_index, first_of, first_site, site_here}
use Rattle.cv_syntax_trees.proofs.lists.Options.{first_of_none, none_some}
use Rattle.cv_meaning.specs.Still.{head_is_still, is_still}
use Rattle.cv_scope_rules.specs.Context.{items}
use Rattle.cv_scope_rules.specs.Made.{is_bound, made_by}
use Rattle.cv_scope_rules.specs.Phrases.{Binders, Inputs, Nil, Phrase, Term, is_phrase}
use Rattle.cv_scope_rules.specs.Sites.{Variable}
use Rattle.cv_scope_rules.specs.typing.Signature.{Function, function_in}
use Rattle.cv_typing_runs.proofs.SameSites.{branch_binders, input_binders}
use Rattle.cv_typing_runs.proofs.Terms.{nil_empty}
use Rattle.cv_scene.specs.Instances.{is_read_of}
use Rattle.cv_scene.specs.Large.{chooses, first_other_site, is_large}
use Rattle.cv_scene.specs.lines.Inferences.{equations_of}
use Rattle.cv_scene.specs.Scenes.{Scene, part_at}
use Rattle.cv_scene.specs.Sights.{variable_of}
use Rattle.cv_scene.specs.Terms.{has_site}
use Rattle.cv_steps.specs.Rewriting.{has_term_at}
use Rattle.cv_steps.specs.Steps.{Cost, Leads}
use Rattle.cv_steps.proofs.Flat.{open_phrase, term_still}
use Rattle.cv_steps.proofs.Rows.{leads_same, unless_at_leads, unless_leads}
use Rattle.cv_costs.specs.Collisions.{one_for_pairs, type_of}
use Rattle.cv_costs.specs.wording.Changing.{changed_at}
use Rattle.cv_costs.proofs.wording.Places.{AreAt, at_root}
use Rattle.cv_rule_birthday.specs.Comparing.{compared, first_uncompared, is_compared_at, is_comparison, is_one_of, same_indices}
use Rattle.cv_rule_birthday.specs.Row.{birthday_row, birthday_row_by}
use Rattle.cv_settling_rules.specs.Measure.{is_of_large, large_equalities, lowers}
use Rattle.cv_settling_measures.proofs.Equalities.{counted, is_large_term, one_if}
use Rattle.cv_settling_measures.proofs.Names.{lower_by}
use Rattle.cv_settling_measures.proofs.Nodes.{IsIn, in_first, in_second, inside, itself}
use Rattle.cv_settling_measures.proofs.Rewriting.{part_there, term_there}
use Rattle.cv_settling_measures.proofs.Sites.{site_sort, sort_of_site}
use Rattle.cv_settling_descent.specs.SmallIndices.{HasSmallIndices}
use Rattle.cv_settling_descent.proofs.Changing.{IsNoLarger, changed_sites, counts_fewer, equalities_additive}
use Rattle.cv_settling_descent.proofs.Guessing.{place_below}

-- where each site is a choice from a large type, so is the first one

unmade : (v : Bool) → (v && true) ≡ false → v ≡ false
unmade true e = e
unmade false e = refl

chosen : (u v : Bool) → u ≡ true → (u && not v) ≡ false → v ≡ true
chosen u true e f = refl
chosen true false e f = absurd (both_ways true f refl)
chosen false false e f = absurd (both_ways false refl e)

binder_there : (x : ℕ) (S : Sort) (sort : ℕ → Sort) (t : Tree) → is_phrase Binders t ≡ true → bound_sort sort x t ≡ Some S → is_bound t x ≡ true
unfolding bound_sort is_bound is_phrase
binder_there x S sort Empty w e = absurd (none_some S e)
binder_there x S sort (Node (Binder y T) a b) w e = go (y == x) refl e (binder_there x S sort b (and_parts (is_phrase Nil a) _ w).1)
  where
    go : (v : Bool) → (y == x) ≡ v → cond v (Some (sort T)) (bound_sort sort x b) ≡ Some S → (bound_sort sort x b ≡ Some S → is_bound b x ≡ true) → ((x == y) || is_bound b x) ≡ true
    go true f e k = or_left (x == y) (is_bound b x) (eq-eqb x y (sym (eqb-true y x f)))
    go false f e k = or_right (x == y) (is_bound b x) (k e)
binder_there x S sort (Node h a b) w e = absurd (both_ways false refl w)

-- the sort is a type of these
abbrev IsOfOne : (ℕ → Bool) → Sort → Type 0
IsOfOne types S = (T : ℕ) × (S ≡ OfType T) × (types T ≡ true)

module _ (types : ℕ → Bool) (x : ℕ) (S : Sort) where
  by_new : (y T : ℕ) → cond (y == x) (Some (OfType T)) None ≡ Some S → ((x == y) && not (types T)) ≡ false → IsOfOne types S
  by_new y T e n = go (y == x) refl e
    where
      go : (v : Bool) → (y == x) ≡ v → cond v (Some (OfType T)) None ≡ Some S → IsOfOne types S
      go false f e = absurd (none_some S e)
      go true f e = (T, (let z : S ≡ OfType T = cc in z), chosen (x == y) (types T) (eq-eqb x y (sym (eqb-true y x f))) n)

  by_let : (y T : ℕ) → cond (y == x) (Some (OfType T)) None ≡ Some S → ((x == y) && true) ≡ false → ⊥
  by_let y T e n = go (y == x) refl e
    where
      go : (v : Bool) → (y == x) ≡ v → cond v (Some (OfType T)) None ≡ Some S → ⊥
      go false f e = none_some S e
      go true f e = both_ways (x == y) (unmade (x == y) n) (eq-eqb x y (sym (eqb-true y x f)))

  site_chosen : (σ : Phrase) (h : Head) (a b : Tree) → is_phrase σ (Node h a b) ≡ true → site_here x h a ≡ Some S → (made_by h a (Variable x) && not (chooses types h)) ≡ false → IsOfOne types S
  site_chosen σ (New y T) a b w e n = by_new y T e n
  site_chosen σ (Let y T) a b w e n = absurd (by_let y T e n)
  site_chosen σ (In c) a b w e n = absurd (both_ways (is_bound (second a) x) (unmade (is_bound (second a) x) n) (binder_there x S OfType (second a) (input_binders σ c a b w) e))
  site_chosen σ Branch a b w e n = absurd (both_ways (is_bound a x) (unmade (is_bound a x) n) (binder_there x S BelowParameter a (branch_binders σ a b w) e))
  site_chosen σ h a b w e n = absurd (none_some S e)

  pub first_chosen : (σ : Phrase) (p : ℕ) (t : Tree) → is_phrase σ t ≡ true → first_other_site types x p t ≡ None → site_sort x t ≡ Some S → IsOfOne types S
  unfolding first_other_site site_sort
  first_chosen σ p Empty w n e = absurd (none_some S e)
  first_chosen σ p (Node h a b) w n e =
      let o = open_phrase σ h a b w in
      go (made_by h a (Variable x) && not (chooses types h)) refl n (site_here x h a) refl (site_sort x a) refl e (first_chosen o.0.0 (first_place p h) a o.2) (first_chosen o.0.1 (second_place p h a) b o.3)
    where
      go : (v : Bool) → (made_by h a (Variable x) && not (chooses types h)) ≡ v → cond v (Some p) (first_of (first_other_site types x (first_place p h) a) (first_other_site types x (second_place p h a) b)) ≡ None
          → (u : Option Sort) → site_here x h a ≡ u → (z : Option Sort) → site_sort x a ≡ z → first_of u (first_of z (site_sort x b)) ≡ Some S
          → (first_other_site types x (first_place p h) a ≡ None → site_sort x a ≡ Some S → IsOfOne types S) → (first_other_site types x (second_place p h a) b ≡ None → site_sort x b ≡ Some S → IsOfOne types S) → IsOfOne types S
      go true f n u i z j e k l = absurd (cc)
      go false f n (Some R) i z j e k l = site_chosen σ h a b w (i ∙ e) f
      go false f n None i (Some R) j e k l = k (first_of_none _ _ n).0 (j ∙ e)
      go false f n None i None j e k l = l (first_of_none _ _ n).1 e

-- a read of such a variable is of a large type
read_large : (s : Scene) (x T : ℕ) → site_sort x s.game ≡ Some (OfType T) → is_large s T ≡ true → (t : Tree) → is_read_of x (variable_of t) ≡ true → is_large_term s t ≡ true
read_large s x T e l (Node (Leaf y) a b) f =
    ap (λ R. is_of_large s (first_of R (first_of (option_map (λ (f : Function). OfType f.result) (function_in s.declarations y)) (option_map BelowParameter (first_index y s.game)))))
    (sort_of_site y [] s.game ∙ ap (λ z. site_sort z s.game) (eqb-true y x f) ∙ e)
    ∙ l
read_large s x T e l (Node (Read y) a b) f = ap (is_of_large s) (sort_of_site y [] s.game ∙ ap (λ z. site_sort z s.game) (eqb-true y x f) ∙ e) ∙ l
read_large s x T e l t f = absurd (both_ways false refl f)

-- a comparison of indices has no equality of a large type besides

module _ (s : Scene) where
  total : List Tree → ℕ
  total [] = 0
  total (m ∷ ms) = large_equalities s m + total ms

  abbrev AreSmall : List Tree → Type 0
  AreSmall ms = AllByRecursion (λ m. is_large_term s m ≡ false) ms

  total_items : (t : Tree) → total (items t) ≤ large_equalities s t
  unfolding total large_equalities
  total_items Empty = omega arith
  total_items (Node h item more) = omega (arith, total_items more)

  one_equation : (m n : Tree) → is_large_term s m ≡ false → large_equalities s (Node Eq m n) ≡ large_equalities s m + large_equalities s n
  unfolding large_equalities
  one_equation m n e = let i : counted s Eq m ≡ 0 = ap one_if e in omega arith

  equations_total : (ms ns : List Tree) → AreSmall ms → large_equalities s (equations_of ms ns) ≤ total ms + total ns
  unfolding large_equalities total
  equations_total (m ∷ []) (n ∷ []) k = omega (arith, one_equation m n k.0)
  equations_total (m ∷ []) (n ∷ (o ∷ ns)) k = omega (arith, one_equation m n k.0)
  equations_total (m ∷ (l ∷ ms)) (n ∷ ns) k = omega (arith, one_equation m n k.0, equations_total (l ∷ ms) ns k.1)
  equations_total [] ns k = omega arith
  equations_total (m ∷ []) [] k = omega arith
  equations_total (m ∷ (l ∷ ms)) [] k = omega arith

  indices_total : (ms ns : List Tree) → AreSmall ms → large_equalities s (same_indices ms ns) ≤ total ms + total ns
  unfolding large_equalities total
  indices_total [] ns k = omega arith
  indices_total (m ∷ ms) ns k = equations_total (m ∷ ms) ns k

  first_less : (t : Tree) → large_equalities s (first t) ≤ large_equalities s t
  unfolding large_equalities
  first_less Empty = omega arith
  first_less (Node h a b) = omega arith

  small_in : (u t : Tree) → IsIn u t → HasSmallIndices s t → HasSmallIndices s u
  unfolding HasSmallIndices
  small_in u t itself k = k
  small_in u t (in_first {h = h} {a = a} {b = b} i) k = small_in u a i k.1
  small_in u t (in_second {h = h} {a = a} {b = b} i) k = small_in u b i k.2

  -- the indices of a read
  read_small : (x : ℕ) (t : Tree) → is_phrase Term t ≡ true → is_read_of x (variable_of t) ≡ true → HasSmallIndices s t → AreSmall (items (first t))
  unfolding HasSmallIndices is_phrase
  read_small x (Node (Leaf y) a b) w e k = subst (λ c. AreSmall (items c)) (sym (nil_empty a (and_parts (is_phrase Nil a) _ w).0)) tt
  read_small x (Node (Read y) a b) w e k = k.0
  read_small x t w e k = absurd (both_ways false refl e)

  record IsCompared (x : ℕ) (t : Tree) : Type 0 where
    left : Tree
    right : Tree
    equal : t ≡ Node Eq left right
    reads_left : is_read_of x (variable_of left) ≡ true
    reads_right : is_read_of x (variable_of right) ≡ true

  comparing : (x : ℕ) (t : Tree) → is_comparison x t ≡ true → IsCompared x t
  comparing x (Node Eq l r) e = let p = and_parts (is_read_of x (variable_of l)) _ e in record { left = l; right = r; equal = refl; reads_left = p.0; reads_right = p.1 }
  comparing x t e = absurd (both_ways false refl e)

  fewer_at : (x T : ℕ) → site_sort x s.game ≡ Some (OfType T) → is_large s T ≡ true → (l r : Tree) → is_phrase Term (Node Eq l r) ≡ true → is_read_of x (variable_of l) ≡ true → HasSmallIndices s (Node Eq l r)
      → large_equalities s (compared (Node Eq l r)) < large_equalities s (Node Eq l r)
  unfolding large_equalities HasSmallIndices is_phrase
  fewer_at x T e i l r w f k =
      let p = and_parts (is_phrase Term l) (is_phrase Term r) w in
      let one : counted s Eq l ≡ 1 = ap one_if (read_large s x T e i l f) in
      omega (arith, one, indices_total (items (first l)) (items (first r)) (read_small x l p.0 f k.1), total_items (first l), total_items (first r), first_less l, first_less r)

  -- what is put is an equality, a conjunction or `true`

  equations_sort : (ms ns : List Tree) (l r : Tree) → IsNoLarger s (equations_of ms ns) (Node Eq l r)
  equations_sort (m ∷ []) (n ∷ []) l r e = e
  equations_sort (m ∷ []) (n ∷ (o ∷ ns)) l r e = e
  equations_sort (m ∷ (k ∷ ms)) (n ∷ ns) l r e = e
  equations_sort [] ns l r e = absurd (both_ways false refl e)
  equations_sort (m ∷ []) [] l r e = absurd (both_ways false refl e)
  equations_sort (m ∷ (k ∷ ms)) [] l r e = absurd (both_ways false refl e)

  indices_sort : (ms ns : List Tree) (l r : Tree) → IsNoLarger s (same_indices ms ns) (Node Eq l r)
  indices_sort [] ns l r e = e
  indices_sort (m ∷ ms) ns l r e = equations_sort (m ∷ ms) ns l r e

still_items : (t : Tree) → is_still t ≡ true → AllByRecursion (λ m. is_still m ≡ true) (items t)
still_items Empty e = tt
still_items (Node h item more) e =
    let p = and_parts (is_still item) _ (and_parts (head_is_still h) _ e).1 in (p.0, still_items more p.1)

still_first : (t : Tree) → is_still t ≡ true → is_still (first t) ≡ true
still_first Empty e = refl
still_first (Node h a b) e = (and_parts (is_still a) _ (and_parts (head_is_still h) _ e).1).0

still_equations : (ms ns : List Tree) → AllByRecursion (λ m. is_still m ≡ true) ms → AllByRecursion (λ m. is_still m ≡ true) ns → is_still (equations_of ms ns) ≡ true
still_equations (m ∷ []) (n ∷ []) k l = ap₂ ◌&&◌ k.0 l.0
still_equations (m ∷ []) (n ∷ (o ∷ ns)) k l = ap (λ v. v && true) (ap₂ ◌&&◌ k.0 l.0)
still_equations (m ∷ (j ∷ ms)) (n ∷ ns) k l = ap₂ ◌&&◌ (ap₂ ◌&&◌ k.0 l.0) (still_equations (j ∷ ms) ns k.1 l.1)
still_equations [] ns k l = refl
still_equations (m ∷ []) [] k l = refl
still_equations (m ∷ (j ∷ ms)) [] k l = refl

still_indices : (ms ns : List Tree) → AllByRecursion (λ m. is_still m ≡ true) ms → AllByRecursion (λ m. is_still m ≡ true) ns → is_still (same_indices ms ns) ≡ true
still_indices [] ns k l = refl
still_indices (m ∷ ms) ns k l = still_equations (m ∷ ms) ns k l

still_compared : (l r : Tree) → is_still (Node Eq l r) ≡ true → is_still (compared (Node Eq l r)) ≡ true
still_compared l r e =
    let p = and_parts (is_still l) (is_still r) e in
    still_indices (items (first l)) (items (first r)) (still_items (first l) (still_first l p.0)) (still_items (first r) (still_first r p.1))

-- the row

pub record LeadsCompared (s : Scene) (x : ℕ) (places : List ℕ) (next : Tree) : Type 0 where
  pub places_compared : first_uncompared s.game x places ≡ None
  pub sort : Sort
  pub site : site_sort x s.game ≡ Some sort
  pub choices : first_other_site (is_large s) x 0 s.game ≡ None
  pub leads : changed_at (is_one_of places) compared 0 s.game ≡ next

pub birthday_leads : (s : Scene) (x : ℕ) (ps : List ℕ) (next : Tree) (cost : Cost) → birthday_row s x ps ≡ Leads next cost → LeadsCompared s x ps next
birthday_leads s x ps next cost e =
    let r = unless_at_leads 1 (first_uncompared s.game x ps) _ next cost e in by_site r.0 (first_site x [] s.game) refl r.1
  where
    by_site : first_uncompared s.game x ps ≡ None → (o : Option FirstSite) → first_site x [] s.game ≡ o → birthday_row_by s x ps o ≡ Leads next cost → LeadsCompared s x ps next
    by_site c None f e = absurd (cc)
    by_site c (Some v) f e =
        let r = unless_at_leads 2 (first_other_site (is_large s) x 0 s.game) _ next cost e in
        let q = unless_leads (is_large s (type_of v.sort)) 2 0 _ next cost r.1 in
        record {
          places_compared = c;
          sort = v.sort;
          site = sym (sort_of_site x [] s.game) ∙ ap (option_map (λ (u : FirstSite). u.sort)) f;
          choices = r.0;
          leads = leads_same (changed_at (is_one_of ps) compared 0 s.game) next (one_for_pairs s.declarations v.parameters (type_of v.sort)) cost q.1;
        }

each_compared : (game : Tree) (x : ℕ) (ps : List ℕ) → first_uncompared game x ps ≡ None → (p : ℕ) → is_one_of ps p ≡ true → is_compared_at game x p ≡ true
each_compared game x [] e p m = absurd (both_ways false refl m)
each_compared game x (q ∷ ps) e p m = go (is_compared_at game x q) refl e (q == p) refl m (λ f. each_compared game x ps f p)
  where
    go : (v : Bool) → is_compared_at game x q ≡ v → cond v (first_uncompared game x ps) (Some q) ≡ None → (w : Bool) → (q == p) ≡ w → (w || is_one_of ps p) ≡ true
        → (first_uncompared game x ps ≡ None → is_one_of ps p ≡ true → is_compared_at game x p ≡ true) → is_compared_at game x p ≡ true
    go false f e w g m k = absurd (cc)
    go true f e true g m k = ap (is_compared_at game x) (sym (eqb-true q p g)) ∙ f
    go true f e false g m k = k e m

pub birthday_lowers : (s : Scene) (x p : ℕ) (ps : List ℕ) (next : Tree) (cost : Cost) → is_phrase Inputs s.game ≡ true → HasSmallIndices s s.game → birthday_row s x (p ∷ ps) ≡ Leads next cost → lowers s next ≡ true
birthday_lowers s x p ps next cost w small e =
    let r = birthday_leads s x (p ∷ ps) next cost e in
    subst (λ t. lowers s t ≡ true) r.leads (lower r (first_chosen (is_large s) x r.sort Inputs 0 s.game w r.choices r.site))
  where
    is_there : LeadsCompared s x (p ∷ ps) next → (q : ℕ) → is_one_of (p ∷ ps) q ≡ true → (has_term_at Inputs s.game q ≡ true) × (is_comparison x (part_at s.game q) ≡ true)
    is_there r q m = and_parts (has_term_at Inputs s.game q) _ (and_parts (has_site s.game x) _ (each_compared s.game x (p ∷ ps) r.places_compared q m)).1

    are_at : LeadsCompared s x (p ∷ ps) next → AreAt (is_one_of (p ∷ ps)) compared s.game Inputs 0 s.game
    are_at r = at_root (is_one_of (p ∷ ps)) compared s.game (λ q m l. (is_there r q m).0)

    term : LeadsCompared s x (p ∷ ps) next → (q : ℕ) → is_one_of (p ∷ ps) q ≡ true → is_phrase Term (part_at s.game q) ≡ true
    term r q m = term_there Inputs s.game q w (is_there r q m).0

    first_listed : is_one_of (p ∷ ps) (0 + p) ≡ true
    first_listed = ap (λ v. v || is_one_of ps (0 + p)) (eq-eqb p (0 + p) (omega arith))

    listed : is_one_of (p ∷ ps) p ≡ true
    listed = ap (λ v. v || is_one_of ps p) (eq-eqb p p refl)

    sorts : LeadsCompared s x (p ∷ ps) next → (q : ℕ) → is_one_of (p ∷ ps) q ≡ true → IsNoLarger s (compared (part_at s.game q)) (part_at s.game q)
    sorts r q m =
        let c = comparing s x (part_at s.game q) (is_there r q m).1 in
        subst (λ t. IsNoLarger s (compared t) t) (sym c.equal) (indices_sort s (items (first c.left)) (items (first c.right)) c.left c.right)

    still : LeadsCompared s x (p ∷ ps) next → (q : ℕ) → is_one_of (p ∷ ps) q ≡ true → (is_still (compared (part_at s.game q)) ≡ true) × (is_still (part_at s.game q) ≡ true)
    still r q m =
        let c = comparing s x (part_at s.game q) (is_there r q m).1 in
        let k : is_still (part_at s.game q) ≡ true = term_still (part_at s.game q) (term r q m) in
        (subst (λ t. is_still (compared t) ≡ true) (sym c.equal) (still_compared c.left c.right (ap is_still (sym c.equal) ∙ k)), k)

    fewer : LeadsCompared s x (p ∷ ps) next → (T : ℕ) → site_sort x s.game ≡ Some (OfType T) → is_large s T ≡ true → (q : ℕ) → is_one_of (p ∷ ps) q ≡ true → large_equalities s (compared (part_at s.game q)) < large_equalities s (part_at s.game q)
    fewer r T f i q m =
        let c = comparing s x (part_at s.game q) (is_there r q m).1 in
        let k : HasSmallIndices s (part_at s.game q) = small_in s (part_at s.game q) s.game (inside s.game q (part_at s.game q) (part_there s.game q (term r q m))) small in
        subst (λ t. large_equalities s (compared t) < large_equalities s t) (sym c.equal)
        (fewer_at s x T f i c.left c.right (ap (is_phrase Term) (sym c.equal) ∙ term r q m) c.reads_left (subst (HasSmallIndices s) c.equal k))

    lower : (r : LeadsCompared s x (p ∷ ps) next) → IsOfOne (is_large s) r.sort → lowers s (changed_at (is_one_of (p ∷ ps)) compared 0 s.game) ≡ true
    lower r t =
        lower_by s (changed_at (is_one_of (p ∷ ps)) compared 0 s.game)
        (λ y. inl (changed_sites s (is_one_of (p ∷ ps)) compared s.game (still r) y Inputs 0 s.game (are_at r)))
        (inl (counts_fewer s (is_one_of (p ∷ ps)) compared s.game (sorts r) (large_equalities s) (equalities_additive s) (fewer r t.0 (r.site ∙ ap Some t.1) t.2)
        Inputs 0 s.game (are_at r) p first_listed (place_below s.game p (part_at s.game p) (part_there s.game p (term r p listed)))))
