-- Games with `false` for equalities of a value that nothing else reads.
use Rattle.std.proofs.Common.{◌≡◌, ℕ, ◌+◌, ◌-◌, ◌<◌, ◌≤◌, ◌==◌, ◌||◌, ◌&&◌, inl, inr, Bool, true, false, cond, not, List, [], ◌∷◌, Option, Some, None, refl, sym, ap, ap₂, subst, ◌∙◌, arith, nat_lt, eqb-true, eq-eqb, ltb-true, ltb-false}
use Rattle.std.proofs.lemmas.Bool.{both_ways, and_parts}
use Rattle.cv_syntax_trees.specs.declared.head.Head.{Head}
use Rattle.cv_syntax_trees.specs.declared.head.Head.TheVariants.{Eq}
use Rattle.cv_syntax_trees.specs.declared.sites.sort.Sort.{Sort}
use Rattle.cv_syntax_trees.specs.declared.sites.sort.Sort.TheVariants.{BelowParameter, OfType}
use Rattle.cv_syntax_trees.specs.Head.{weight}
use Rattle.cv_syntax_trees.specs.Tree.{Tree, Empty, Node, first_place, second_place, size, subtree}
use Rattle.cv_syntax_trees.specs.sites.Sites.{Variable, first_site}
use Rattle.cv_scope_rules.specs.Phrases.{Inputs, Phrase, Term, is_phrase}
use Rattle.cv_scene.specs.Large.{first_other_site, is_large}
use Rattle.cv_scene.specs.lines.Truths.{no}
use Rattle.cv_scene.specs.Scenes.{Scene, is_queried, part_at}
use Rattle.cv_steps.specs.Rewriting.{has_term_at, is_term, parts_of}
use Rattle.cv_steps.specs.Steps.{Cost, Leads}
use Rattle.cv_steps.proofs.Flat.{term_still}
use Rattle.cv_steps.proofs.Rows.{leads_same, unless_at_leads, unless_leads}
use Rattle.cv_costs.specs.wording.Changing.{changed_at, is_changed}
use Rattle.cv_costs.proofs.wording.Places.{AreAt, IsHere, at_first, at_node, at_root, at_second}
use Rattle.cv_rule_birthday.specs.Comparing.{is_one_of}
use Rattle.cv_rule_birthday.specs.guess.Guessing.{compares, compares_at, falsified, first_other_read, first_outside, is_equality, is_guess, reads, without_guesses}
use Rattle.cv_rule_birthday.specs.guess.Row.{cost_at, guess_row, row_by_reads, row_by_site, row_by_sort}
use Rattle.cv_settling_rules.specs.Measure.{large_equalities, lowers}
use Rattle.cv_settling_measures.proofs.Equalities.{is_large_term}
use Rattle.cv_settling_measures.proofs.Names.{lower_by}
use Rattle.cv_settling_measures.proofs.Rewriting.{part_there, term_there}
use Rattle.cv_settling_descent.proofs.Changing.{IsNoLarger, changed_sites, counts_fewer, counts_no_more, equalities_additive, size_additive}
use Rattle.cv_settling_descent.proofs.Freshness.{term_size}

-- places that are listed

pub each_listed : (among : ℕ → Bool) (ps : List ℕ) → first_outside among ps ≡ None → (p : ℕ) → is_one_of ps p ≡ true → among p ≡ true
each_listed among [] e p m = absurd (both_ways false refl m)
each_listed among (q ∷ ps) e p m = go (among q) refl e (q == p) refl m (λ f. each_listed among ps f p)
  where
    go : (v : Bool) → among q ≡ v → cond v (first_outside among ps) (Some q) ≡ None → (w : Bool) → (q == p) ≡ w → (w || is_one_of ps p) ≡ true
        → (first_outside among ps ≡ None → is_one_of ps p ≡ true → among p ≡ true) → among p ≡ true
    go false f e w g m k = absurd (cc)
    go true f e true g m k = ap among (sym (eqb-true q p g)) ∙ f
    go true f e false g m k = k e m

-- a place of a part is one of the tree
pub place_below : (t : Tree) (p : ℕ) (u : Tree) → subtree t p ≡ Some u → p < size t
unfolding subtree size
place_below Empty p u e = absurd (cc)
place_below (Node h a b) p u e = go (nat_lt p (weight h)) refl (nat_lt p (weight h + size a)) refl e (place_below b (p - (weight h + size a)) u)
  where
    go : (v : Bool) → nat_lt p (weight h) ≡ v → (w : Bool) → nat_lt p (weight h + size a) ≡ w
        → cond v (Some (Node h a b)) (cond w (subtree a (p - weight h)) (subtree b (p - (weight h + size a)))) ≡ Some u
        → (subtree b (p - (weight h + size a)) ≡ Some u → p - (weight h + size a) < size b) → p < weight h + size a + size b
    go true f w g e k = omega (arith, ltb-true p (weight h) f)
    go false f true g e k = omega (arith, ltb-true p (weight h + size a) g)
    go false f false g e k = omega (arith, k e, ltb-false p (weight h + size a) g)

-- what the step does is a change of what stands at the places

module _ (x : ℕ) (places : ℕ → Bool) (game : Tree) (compared : (p : ℕ) → places p ≡ true → compares x (part_at game p) ≡ true) where
  guess_there : (σ : Phrase) (p : ℕ) (h : Head) (a b : Tree) → is_term σ ≡ true → places p ≡ true → compares x (Node h a b) ≡ true → is_guess x places σ p h a b ≡ true
  guess_there σ p Eq a b t m c = ap₂ ◌&&◌ t (ap₂ ◌&&◌ m c)
  guess_there σ p h a b t m c = absurd (both_ways false refl c)

  guess_changed : (σ : Phrase) (p : ℕ) (h : Head) (a b : Tree) → is_guess x places σ p h a b ≡ true → is_changed places p h ≡ true
  guess_changed σ p h a b e = go h (and_parts (is_equality h) _ (and_parts (is_term σ) _ e).1)
    where
      go : (h : Head) → (is_equality h ≡ true) × ((places p && (reads x a || reads x b)) ≡ true) → is_changed places p h ≡ true
      go Eq r = (and_parts (places p) _ r.1).0
      go h r = absurd (both_ways false refl r.0)

  pub falsified_is_changed : (σ : Phrase) (p : ℕ) (t : Tree) → AreAt places (λ t. no) game σ p t → falsified x places σ p t ≡ changed_at places (λ t. no) p t
  unfolding falsified changed_at
  falsified_is_changed σ p Empty k = refl
  falsified_is_changed σ p (Node h a b) k =
      go (is_guess x places σ p h a b) refl (is_changed places p h) refl
      (falsified_is_changed (parts_of σ h).0 (first_place p h) a (at_first places (λ t. no) game σ h a b p k))
      (falsified_is_changed (parts_of σ h).1 (second_place p h a) b (at_second places (λ t. no) game σ h a b p k))
    where
      go : (u : Bool) → is_guess x places σ p h a b ≡ u → (v : Bool) → is_changed places p h ≡ v
          → falsified x places (parts_of σ h).0 (first_place p h) a ≡ changed_at places (λ t. no) (first_place p h) a
          → falsified x places (parts_of σ h).1 (second_place p h a) b ≡ changed_at places (λ t. no) (second_place p h a) b
          → cond u no (Node h (falsified x places (parts_of σ h).0 (first_place p h) a) (falsified x places (parts_of σ h).1 (second_place p h a) b))
          ≡ cond v no (Node h (changed_at places (λ t. no) (first_place p h) a) (changed_at places (λ t. no) (second_place p h a) b))
      go true e true f m n = refl
      go false e false f m n = ap₂ (Node h) m n
      go true e false f m n = absurd (both_ways (is_changed places p h) f (guess_changed σ p h a b e))
      go false e true f m n =
          let z : IsHere places (λ t. no) game σ p h a b = at_node places (λ t. no) game σ p h a b k f in
          absurd (both_ways (is_guess x places σ p h a b) e (guess_there σ p h a b z.term z.place (ap (compares x) (sym z.part) ∙ compared p z.place)))

-- the row

pub record LeadsGuessed (s : Scene) (x : ℕ) (places : List ℕ) (next : Tree) : Type 0 where
  pub compared : first_outside (compares_at s.game x) places ≡ None
  pub leads : without_guesses x places s.game ≡ next

pub guess_leads : (s : Scene) (x : ℕ) (ps : List ℕ) (next : Tree) (cost : Cost) → guess_row s x ps ≡ Leads next cost → LeadsGuessed s x ps next
guess_leads s x ps next cost e =
    let r = unless_at_leads 1 (first_outside (compares_at s.game x) ps) _ next cost e in
    let q = unless_at_leads 2 (first_other_site (is_large s) x 0 s.game) _ next cost r.1 in
    record { compared = r.0; leads = by_site (first_site x [] s.game) q.1 }
  where
    by_sort : (S : Sort) → row_by_sort s x ps S ≡ Leads next cost → without_guesses x ps s.game ≡ next
    by_sort (BelowParameter n) e = absurd (cc)
    by_sort (OfType T) e =
        let r = unless_leads (is_large s T) 2 0 (row_by_reads s x ps T) next cost e in
        let q = unless_at_leads 3 (first_other_read ps x s.game) _ next cost r.1 in
        let o = unless_leads (not (is_queried s x)) 4 0 _ next cost q.1 in
        leads_same (without_guesses x ps s.game) next (cost_at s ps T) cost o.1

    by_site : (o : Option Variable) → row_by_site s x ps o ≡ Leads next cost → without_guesses x ps s.game ≡ next
    by_site None e = absurd (cc)
    by_site (Some v) e = by_sort v.sort e

-- an equality counts more than `false`

record IsComparing (t : Tree) : Type 0 where
  left : Tree
  right : Tree
  equal : t ≡ Node Eq left right

comparing : (x : ℕ) (t : Tree) → compares x t ≡ true → IsComparing t
comparing x (Node Eq l r) e = record { left = l; right = r; equal = refl }
comparing x t e = absurd (both_ways false refl e)

module _ (s : Scene) (t : Tree) (c : IsComparing t) (w : is_phrase Term t ≡ true) where
  no_sort : IsNoLarger s no t
  no_sort l = ap (is_large_term s) c.equal ∙ l

  no_size : size no < size t
  unfolding size is_phrase
  no_size =
      let p = and_parts (is_phrase Term c.left) (is_phrase Term c.right) (ap (is_phrase Term) (sym c.equal) ∙ w) in
      let z : size t ≡ 1 + size c.left + size c.right = ap size c.equal in omega (arith, term_size c.left p.0, z)

  no_equalities : large_equalities s no ≤ large_equalities s t
  unfolding large_equalities
  no_equalities = omega arith

pub guess_lowers : (s : Scene) (x p : ℕ) (ps : List ℕ) (next : Tree) (cost : Cost) → is_phrase Inputs s.game ≡ true → guess_row s x (p ∷ ps) ≡ Leads next cost → lowers s next ≡ true
guess_lowers s x p ps next cost w e =
    let r = guess_leads s x (p ∷ ps) next cost e in
    subst (λ t. lowers s t ≡ true) (sym (falsified_is_changed x (is_one_of (p ∷ ps)) s.game (λ q m. (is_there r q m).1) Inputs 0 s.game (are_at r)) ∙ r.leads) (lower r)
  where
    is_there : LeadsGuessed s x (p ∷ ps) next → (q : ℕ) → is_one_of (p ∷ ps) q ≡ true → (has_term_at Inputs s.game q ≡ true) × (compares x (part_at s.game q) ≡ true)
    is_there r q m = and_parts (has_term_at Inputs s.game q) _ (each_listed (compares_at s.game x) (p ∷ ps) r.compared q m)

    are_at : LeadsGuessed s x (p ∷ ps) next → AreAt (is_one_of (p ∷ ps)) (λ t. no) s.game Inputs 0 s.game
    are_at r = at_root (is_one_of (p ∷ ps)) (λ t. no) s.game (λ q m l. (is_there r q m).0)

    term : LeadsGuessed s x (p ∷ ps) next → (q : ℕ) → is_one_of (p ∷ ps) q ≡ true → is_phrase Term (part_at s.game q) ≡ true
    term r q m = term_there Inputs s.game q w (is_there r q m).0

    one : LeadsGuessed s x (p ∷ ps) next → (q : ℕ) → is_one_of (p ∷ ps) q ≡ true → IsComparing (part_at s.game q)
    one r q m = comparing x (part_at s.game q) (is_there r q m).1

    first : is_one_of (p ∷ ps) (0 + p) ≡ true
    first = ap (λ v. v || is_one_of ps (0 + p)) (eq-eqb p (0 + p) (omega arith))

    listed : is_one_of (p ∷ ps) p ≡ true
    listed = ap (λ v. v || is_one_of ps p) (eq-eqb p p refl)

    sorts : LeadsGuessed s x (p ∷ ps) next → (q : ℕ) → is_one_of (p ∷ ps) q ≡ true → IsNoLarger s no (part_at s.game q)
    sorts r q m = no_sort s (part_at s.game q) (one r q m) (term r q m)

    lower : LeadsGuessed s x (p ∷ ps) next → lowers s (changed_at (is_one_of (p ∷ ps)) (λ t. no) 0 s.game) ≡ true
    lower r =
        lower_by s (changed_at (is_one_of (p ∷ ps)) (λ t. no) 0 s.game)
        (λ y. inl (changed_sites s (is_one_of (p ∷ ps)) (λ t. no) s.game (λ q m. (refl, term_still (part_at s.game q) (term r q m))) y Inputs 0 s.game (are_at r)))
        (inr (
          counts_no_more s (is_one_of (p ∷ ps)) (λ t. no) s.game (sorts r) (large_equalities s) (equalities_additive s) (λ q m. no_equalities s (part_at s.game q) (one r q m) (term r q m)) Inputs 0 s.game (are_at r),
          counts_fewer s (is_one_of (p ∷ ps)) (λ t. no) s.game (sorts r) size (size_additive s) (λ q m. no_size s (part_at s.game q) (one r q m) (term r q m)) Inputs 0 s.game (are_at r) p first (place_below s.game p (part_at s.game p) (part_there s.game p (term r p listed))),
        ))
