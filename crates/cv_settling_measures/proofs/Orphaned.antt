-- The test finds an orphan exactly where there is one.
use Rattle.std.proofs.Common.{◌≡◌, ℕ, ◌==◌, ◌||◌, ◌&&◌, ◌⊎◌, inl, inr, Bool, true, false, cond, not, List, [], ◌∷◌, ◌++◌, Option, Some, None, is_some, refl, sym, ap, ap₂, ◌∙◌, eqb-true}
use Rattle.std.specs.List.{list_any}
use Rattle.std.proofs.lemmas.Bool.{both_ways, and_parts, or_left, or_right}
use Rattle.std.proofs.lemmas.List.Folds.{list_any-append}
use Rattle.cv_syntax_trees.specs.declared.head.Head.{Head}
use Rattle.cv_syntax_trees.specs.declared.head.Head.TheVariants.{Binder, Branch, In, Let, New}
use Rattle.cv_syntax_trees.specs.declared.sites.sort.Sort.{Sort}
use Rattle.cv_syntax_trees.specs.declared.sites.sort.Sort.TheVariants.{BelowParameter, OfType}
use Rattle.cv_syntax_trees.specs.Tree.{Tree, Empty, Node, bound_names, second}
use Rattle.cv_syntax_trees.specs.sites.Sites.{bound_sort, first_of, site_here}
use Rattle.cv_syntax_trees.proofs.lists.Tests.{equals_refl, false_from_not, or_cases}
use Rattle.cv_meaning_chances.specs.unread.Dropping.{reads_none}
use Rattle.cv_scope_rules.specs.Phrases.{Binders, Inputs, Nil, Phrase, is_phrase}
use Rattle.cv_typing_runs.proofs.SameSites.{branch_binders, input_binders}
use Rattle.cv_scene.specs.Terms.{has_site}
use Rattle.cv_steps.specs.Changes.{only}
use Rattle.cv_steps.proofs.Flat.{open_phrase}
use Rattle.cv_settling_rules.specs.Variables.{defined_by, definitions_in, once_each, variables}
use Rattle.cv_settling_measures.specs.Orphans.{HasNoOrphan, IsOrphan, has_orphan, is_orphan}
use Rattle.cv_settling_measures.proofs.Agreeing.{some_first, some_second}
use Rattle.cv_settling_measures.proofs.Sites.{has_sort, site_sort}

abbrev is_listed : ℕ → List ℕ → Bool
is_listed x xs = list_any (λ y. y == x) xs

-- lists of names

any_where : (test : ℕ → Bool) (x : ℕ) (xs : List ℕ) → is_listed x xs ≡ true → test x ≡ true → list_any test xs ≡ true
any_where test x [] e f = e
any_where test x (y ∷ xs) e f = go (or_cases (y == x) (is_listed x xs) e) (λ k. any_where test x xs k f)
  where
    go : ((y == x) ≡ true) ⊎ (is_listed x xs ≡ true) → (is_listed x xs ≡ true → list_any test xs ≡ true) → (test y || list_any test xs) ≡ true
    go (inl k) l = or_left (test y) (list_any test xs) (ap test (eqb-true y x k) ∙ f)
    go (inr k) l = or_right (test y) (list_any test xs) (l k)

some_where : (test : ℕ → Bool) (xs : List ℕ) → list_any test xs ≡ true → (x : ℕ) × (is_listed x xs ≡ true) × (test x ≡ true)
some_where test [] e = absurd (both_ways false refl e)
some_where test (y ∷ xs) e = go (or_cases (test y) (list_any test xs) e) (some_where test xs)
  where
    go : (test y ≡ true) ⊎ (list_any test xs ≡ true) → (list_any test xs ≡ true → (x : ℕ) × (is_listed x xs ≡ true) × (test x ≡ true)) → (x : ℕ) × (is_listed x (y ∷ xs) ≡ true) × (test x ≡ true)
    go (inl k) l = (y, or_left (y == y) (is_listed y xs) (equals_refl y), k)
    go (inr k) l = let r = l k in (r.0, or_right (y == r.0) (is_listed r.0 xs) r.1, r.2)

listed_once : (x : ℕ) (ys xs : List ℕ) → is_listed x xs ≡ true → is_listed x ys ≡ false → is_listed x (once_each ys xs) ≡ true
listed_once x ys [] e n = e
listed_once x ys (z ∷ xs) e n = go (z == x) refl e (is_listed z ys) refl (λ k. listed_once x ys xs k n) (listed_once x (z ∷ ys) xs)
  where
    go : (v : Bool) → (z == x) ≡ v → (v || is_listed x xs) ≡ true → (w : Bool) → is_listed z ys ≡ w
        → (is_listed x xs ≡ true → is_listed x (once_each ys xs) ≡ true) → (is_listed x xs ≡ true → is_listed x (z ∷ ys) ≡ false → is_listed x (once_each (z ∷ ys) xs) ≡ true)
        → is_listed x (cond w (once_each ys xs) (z ∷ once_each (z ∷ ys) xs)) ≡ true
    go true f e true g k l = absurd (both_ways (is_listed x ys) n (ap (λ y. is_listed y ys) (sym (eqb-true z x f)) ∙ g))
    go true f e false g k l = or_left (z == x) (is_listed x (once_each (z ∷ ys) xs)) f
    go false f e true g k l = k e
    go false f e false g k l = or_right (z == x) (is_listed x (once_each (z ∷ ys) xs)) (l e (ap₂ ◌||◌ f n))

listed_before : (x : ℕ) (ys xs : List ℕ) → is_listed x (once_each ys xs) ≡ true → is_listed x xs ≡ true
listed_before x ys [] e = e
listed_before x ys (z ∷ xs) e = go (is_listed z ys) e (listed_before x ys xs) (listed_before x (z ∷ ys) xs)
  where
    go : (w : Bool) → is_listed x (cond w (once_each ys xs) (z ∷ once_each (z ∷ ys) xs)) ≡ true
        → (is_listed x (once_each ys xs) ≡ true → is_listed x xs ≡ true) → (is_listed x (once_each (z ∷ ys) xs) ≡ true → is_listed x xs ≡ true) → ((z == x) || is_listed x xs) ≡ true
    go true e k l = or_right (z == x) (is_listed x xs) (k e)
    go false e k l = first (or_cases (z == x) (is_listed x (once_each (z ∷ ys) xs)) e)
      where
        first : ((z == x) ≡ true) ⊎ (is_listed x (once_each (z ∷ ys) xs) ≡ true) → ((z == x) || is_listed x xs) ≡ true
        first (inl f) = or_left (z == x) (is_listed x xs) f
        first (inr f) = or_right (z == x) (is_listed x xs) (l f)

-- definitions are sites

bound_listed : (x : ℕ) (sort : ℕ → Sort) (t : Tree) → is_phrase Binders t ≡ true → is_some (bound_sort sort x t) ≡ true → is_listed x (bound_names t) ≡ true
unfolding bound_sort is_phrase
bound_listed x sort Empty w e = absurd (both_ways false refl e)
bound_listed x sort (Node (Binder y T) a b) w e = go (y == x) refl e (bound_listed x sort b (and_parts (is_phrase Nil a) _ w).1)
  where
    go : (v : Bool) → (y == x) ≡ v → is_some (cond v (Some (sort T)) (bound_sort sort x b)) ≡ true → (is_some (bound_sort sort x b) ≡ true → is_listed x (bound_names b) ≡ true) → ((y == x) || is_listed x (bound_names b)) ≡ true
    go true f e k = or_left (y == x) (is_listed x (bound_names b)) f
    go false f e k = or_right (y == x) (is_listed x (bound_names b)) (k e)
bound_listed x sort (Node h a b) w e = absurd (both_ways false refl w)

listed_bound : (x : ℕ) (sort : ℕ → Sort) (t : Tree) → is_listed x (bound_names t) ≡ true → is_some (bound_sort sort x t) ≡ true
unfolding bound_sort
listed_bound x sort Empty e = absurd (both_ways false refl e)
listed_bound x sort (Node (Binder y T) a b) e = go (y == x) e (listed_bound x sort b)
  where
    go : (v : Bool) → (v || is_listed x (bound_names b)) ≡ true → (is_listed x (bound_names b) ≡ true → is_some (bound_sort sort x b) ≡ true) → is_some (cond v (Some (sort T)) (bound_sort sort x b)) ≡ true
    go true e k = refl
    go false e k = k e
listed_bound x sort (Node h a b) e = absurd (both_ways false refl e)

one_listed : (y x : ℕ) (S : Sort) → is_some (cond (y == x) (Some S) None) ≡ true → is_listed x (y ∷ []) ≡ true
one_listed y x S e = go (y == x) e
  where
    go : (v : Bool) → is_some (cond v (Some S) None) ≡ true → (v || false) ≡ true
    go true e = refl
    go false e = e

listed_one : (y x : ℕ) (S : Sort) → is_listed x (y ∷ []) ≡ true → is_some (cond (y == x) (Some S) None) ≡ true
listed_one y x S e = go (y == x) e
  where
    go : (v : Bool) → (v || false) ≡ true → is_some (cond v (Some S) None) ≡ true
    go true e = refl
    go false e = e

here_listed : (x : ℕ) (σ : Phrase) (h : Head) (a b : Tree) → is_phrase σ (Node h a b) ≡ true → is_some (site_here x h a) ≡ true → is_listed x (defined_by h a) ≡ true
here_listed x σ (New y T) a b w e = one_listed y x (OfType T) e
here_listed x σ (Let y T) a b w e = one_listed y x (OfType T) e
here_listed x σ (In c) a b w e = bound_listed x OfType (second a) (input_binders σ c a b w) e
here_listed x σ Branch a b w e = bound_listed x BelowParameter a (branch_binders σ a b w) e
here_listed x σ h a b w e = absurd (both_ways false refl e)

listed_here : (x : ℕ) (h : Head) (a : Tree) → is_listed x (defined_by h a) ≡ true → is_some (site_here x h a) ≡ true
listed_here x (New y T) a e = listed_one y x (OfType T) e
listed_here x (Let y T) a e = listed_one y x (OfType T) e
listed_here x (In c) a e = listed_bound x OfType (second a) e
listed_here x Branch a e = listed_bound x BelowParameter a e
listed_here x h a e = absurd (both_ways false refl e)

site_listed : (x : ℕ) (σ : Phrase) (t : Tree) → is_phrase σ t ≡ true → is_some (site_sort x t) ≡ true → is_listed x (definitions_in t) ≡ true
unfolding site_sort definitions_in
site_listed x σ Empty w e = absurd (both_ways false refl e)
site_listed x σ (Node h a b) w e =
    let o = open_phrase σ h a b w in
    list_any-append (λ y. y == x) (defined_by h a) (definitions_in a ++ definitions_in b)
    ∙ (ap (λ v. is_listed x (defined_by h a) || v) (list_any-append (λ y. y == x) (definitions_in a) (definitions_in b))
    ∙ go (site_here x h a) refl (site_sort x a) refl e (site_listed x o.0.0 a o.2) (site_listed x o.0.1 b o.3))
  where
    go : (u : Option Sort) → site_here x h a ≡ u → (z : Option Sort) → site_sort x a ≡ z → is_some (first_of u (first_of z (site_sort x b))) ≡ true
        → (is_some (site_sort x a) ≡ true → is_listed x (definitions_in a) ≡ true) → (is_some (site_sort x b) ≡ true → is_listed x (definitions_in b) ≡ true)
        → (is_listed x (defined_by h a) || (is_listed x (definitions_in a) || is_listed x (definitions_in b))) ≡ true
    go (Some S) i z j e k l = or_left (is_listed x (defined_by h a)) _ (here_listed x σ h a b w (ap is_some i))
    go None i (Some S) j e k l = or_right (is_listed x (defined_by h a)) _ (or_left (is_listed x (definitions_in a)) _ (k (ap is_some j)))
    go None i None j e k l = or_right (is_listed x (defined_by h a)) _ (or_right (is_listed x (definitions_in a)) _ (l e))

listed_site : (x : ℕ) (t : Tree) → is_listed x (definitions_in t) ≡ true → is_some (site_sort x t) ≡ true
unfolding site_sort definitions_in
listed_site x Empty e = absurd (both_ways false refl e)
listed_site x (Node h a b) e =
    go
    (or_cases (is_listed x (defined_by h a)) (is_listed x (definitions_in a) || is_listed x (definitions_in b))
    (sym (list_any-append (λ y. y == x) (defined_by h a) (definitions_in a ++ definitions_in b) ∙ ap (λ v. is_listed x (defined_by h a) || v) (list_any-append (λ y. y == x) (definitions_in a) (definitions_in b))) ∙ e))
    (listed_site x a) (listed_site x b)
  where
    here_first : (o u : Option Sort) → is_some o ≡ true → is_some (first_of o u) ≡ true
    here_first (Some S) u e = refl
    here_first None u e = absurd (both_ways false refl e)

    go : (is_listed x (defined_by h a) ≡ true) ⊎ ((is_listed x (definitions_in a) || is_listed x (definitions_in b)) ≡ true)
        → (is_listed x (definitions_in a) ≡ true → is_some (site_sort x a) ≡ true) → (is_listed x (definitions_in b) ≡ true → is_some (site_sort x b) ≡ true)
        → is_some (first_of (site_here x h a) (first_of (site_sort x a) (site_sort x b))) ≡ true
    go (inl f) k l = here_first (site_here x h a) _ (listed_here x h a f)
    go (inr f) k l = below (or_cases (is_listed x (definitions_in a)) (is_listed x (definitions_in b)) f)
      where
        below : (is_listed x (definitions_in a) ≡ true) ⊎ (is_listed x (definitions_in b) ≡ true) → is_some (first_of (site_here x h a) (first_of (site_sort x a) (site_sort x b))) ≡ true
        below (inl g) = some_first (site_here x h a) (site_sort x a) (site_sort x b) (k g)
        below (inr g) = some_second (site_here x h a) (site_sort x a) (site_sort x b) (l g)

-- orphans

pub none_found : (game next : Tree) → is_phrase Inputs game ≡ true → has_orphan game next ≡ false → HasNoOrphan game next
none_found game next w n x o =
    both_ways (has_orphan game next) n
    (any_where (is_orphan next) x (variables game) (listed_once x [] (definitions_in game) (site_listed x Inputs game w (sym (has_sort x game) ∙ o.before)) refl) (ap₂ ◌&&◌ (ap not o.after) (ap not o.read)))

pub some_found : (game next : Tree) → has_orphan game next ≡ true → (x : ℕ) × IsOrphan game next x
some_found game next e =
    let r = some_where (is_orphan next) (variables game) e in
    let p = and_parts (not (has_site next r.0)) _ r.2 in
    (r.0, record { before = has_sort r.0 game ∙ listed_site r.0 game (listed_before r.0 [] (definitions_in game) r.1); after = false_from_not (has_site next r.0) p.0; read = false_from_not (reads_none (only r.0) next) p.1 })
