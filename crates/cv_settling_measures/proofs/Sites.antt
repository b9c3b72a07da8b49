-- The sort of a variable's first site, and trees that have the sites of others.
use Rattle.std.proofs.Common.{◌≡◌, ℕ, ◌+◌, ◌-◌, ◌==◌, Bool, true, false, cond, List, [], Option, Some, None, is_some, refl, sym, ap, ap₂, ◌∙◌, arith, eqb-true, nat_lt, ltb-true, ltb-false}
use Rattle.std.specs.Prelude.{option_map}
use Rattle.std.proofs.lemmas.Bool.{both_ways, and_parts}
use Rattle.cv_syntax_trees.specs.declared.head.Head.{Head}
use Rattle.cv_syntax_trees.specs.declared.head.Head.TheVariants.{Binder, Branch, Cons, In, Let, Name, New}
use Rattle.cv_syntax_trees.specs.declared.sites.sort.Sort.{Sort}
use Rattle.cv_syntax_trees.specs.declared.sites.sort.Sort.TheVariants.{BelowParameter, OfType}
use Rattle.cv_syntax_trees.specs.Head.{weight}
use Rattle.cv_syntax_trees.specs.Tree.{Tree, Empty, Node, second, size, subtree}
use Rattle.cv_syntax_trees.specs.sites.Sites.{Variable, at_parameters, bound_sort, first_of, first_site, parameters_below, site_here}
use Rattle.cv_syntax_trees.proofs.lists.Options.{is_some_map, some_injective}
use Rattle.cv_meaning.specs.Replaced.{replaced}
use Rattle.cv_meaning.specs.Still.{defines, head_is_still, is_still}
use Rattle.cv_scope_rules.specs.Phrases.{Arm, Binders, Body, Guards, Indices, Inputs, Nil, Pattern, Phrase, Term, is_phrase, parts}
use Rattle.cv_scene.specs.Terms.{has_site}
use Rattle.cv_steps.specs.Changes.{only, without}
use Rattle.cv_steps.proofs.Flat.{flat_dropped, is_flat, nil_still, open_phrase, term_still}
use Rattle.cv_steps_laws.proofs.Unletted.{has_names, is_bare}

-- the sort of the first site in preorder
unfoldable pub site_sort : ℕ → Tree → Option Sort
site_sort x Empty = None
site_sort x (Node h a b) = first_of (site_here x h a) (first_of (site_sort x a) (site_sort x b))

pub sort_of_site : (x : ℕ) (ps : List ℕ) (t : Tree) → option_map (λ (v : Variable). v.sort) (first_site x ps t) ≡ site_sort x t
unfolding first_site site_sort
sort_of_site x ps Empty = refl
sort_of_site x ps (Node h a b) = go (site_here x h a) (first_site x ps a) (sort_of_site x ps a) (sort_of_site x (parameters_below h ps) b)
  where
    go : (o : Option Sort) (u : Option Variable) → option_map (λ (v : Variable). v.sort) u ≡ site_sort x a → option_map (λ (v : Variable). v.sort) (first_site x (parameters_below h ps) b) ≡ site_sort x b
        → option_map (λ (v : Variable). v.sort) (first_of (at_parameters ps o) (first_of u (first_site x (parameters_below h ps) b))) ≡ first_of o (first_of (site_sort x a) (site_sort x b))
    go (Some S) u e f = refl
    go None (Some v) e f = ap (λ o. first_of o (site_sort x b)) e
    go None None e f = f ∙ ap (λ o. first_of o (site_sort x b)) e

pub has_sort : (x : ℕ) (t : Tree) → has_site t x ≡ is_some (site_sort x t)
has_sort x t = sym (is_some_map (λ (v : Variable). v.sort) (first_site x [] t)) ∙ ap is_some (sort_of_site x [] t)

-- what has no definitions

still_bound : (x : ℕ) (sort : ℕ → Sort) (t : Tree) → is_still t ≡ true → bound_sort sort x t ≡ None
unfolding bound_sort
still_bound x sort Empty e = refl
still_bound x sort (Node (Binder y T) a b) e = absurd (both_ways false refl e)
still_bound x sort (Node h a b) e = still_bound x sort b (and_parts (is_still a) _ (and_parts (head_is_still h) _ e).1).1

still_second : (t : Tree) → is_still t ≡ true → is_still (second t) ≡ true
still_second Empty e = refl
still_second (Node h a b) e = (and_parts (is_still a) _ (and_parts (head_is_still h) _ e).1).1

still_here : (x : ℕ) (h : Head) (a : Tree) → head_is_still h ≡ true → is_still a ≡ true → site_here x h a ≡ None
still_here x (New y T) a e f = absurd (both_ways false refl e)
still_here x (Let y T) a e f = absurd (both_ways false refl e)
still_here x (In c) a e f = still_bound x OfType (second a) (still_second a f)
still_here x Branch a e f = still_bound x BelowParameter a f
still_here x h a e f = refl

pub still_sites : (x : ℕ) (t : Tree) → is_still t ≡ true → site_sort x t ≡ None
unfolding site_sort
still_sites x Empty e = refl
still_sites x (Node h a b) e =
    let p = and_parts (head_is_still h) _ e in
    let q = and_parts (is_still a) _ p.1 in
    ap₂ first_of (still_here x h a p.0 q.0) (ap₂ first_of (still_sites x a q.0) (still_sites x b q.1))

-- no place is among the names that an input or a branch binds

bare_size : (σ : Phrase) (t : Tree) → is_bare σ ≡ true → is_phrase σ t ≡ true → size t ≡ 0
unfolding size is_phrase
bare_size σ Empty f e = refl
bare_size Pattern (Node Cons a b) f e = let p = and_parts (is_phrase Indices a) _ e in omega (arith, bare_size Indices a refl p.0, bare_size Binders b refl p.1)
bare_size Indices (Node (Name i) a b) f e = let p = and_parts (is_phrase Nil a) _ e in omega (arith, bare_size Nil a refl p.0, bare_size Indices b refl p.1)
bare_size Binders (Node (Binder y T) a b) f e = let p = and_parts (is_phrase Nil a) _ e in omega (arith, bare_size Nil a refl p.0, bare_size Binders b refl p.1)
bare_size Nil (Node h a b) f e = absurd (both_ways false refl e)
bare_size Pattern (Node h a b) f e = absurd (both_ways false refl e)
bare_size Indices (Node h a b) f e = absurd (both_ways false refl e)
bare_size Binders (Node h a b) f e = absurd (both_ways false refl e)
bare_size σ (Node h a b) f e = absurd (both_ways false refl f)

pub names_bare : (σ : Phrase) (h : Head) (q : Phrase × Phrase) → parts σ h ≡ Some q → has_names h ≡ true → is_bare q.0 ≡ true
names_bare σ (In c) q e f = pattern σ e
  where
    pattern : (σ : Phrase) → parts σ (In c) ≡ Some q → is_bare q.0 ≡ true
    pattern Inputs e = let i : (let p : Phrase × Phrase = (Pattern, Body) in p) ≡ q = cc in ap (λ (p : Phrase × Phrase). is_bare p.0) (sym i)
    pattern σ e = absurd (cc)
names_bare σ Branch q e f = arm σ e
  where
    arm : (σ : Phrase) → parts σ Branch ≡ Some q → is_bare q.0 ≡ true
    arm Arm e = let i : (let p : Phrase × Phrase = (Binders, Guards) in p) ≡ q = cc in ap (λ (p : Phrase × Phrase). is_bare p.0) (sym i)
    arm σ e = absurd (cc)
names_bare σ h q e f = absurd (both_ways false refl f)

pub names_size : (σ : Phrase) (h : Head) (a b : Tree) → is_phrase σ (Node h a b) ≡ true → has_names h ≡ true → size a ≡ 0
names_size σ h a b e f = let o = open_phrase σ h a b e in bare_size o.0.0 a (names_bare σ h o.0 o.1 f) o.2

-- only the names that an input or a branch binds are looked at in a first child
pub here_of_names : (x : ℕ) (h : Head) (a c : Tree) → (has_names h ≡ true → a ≡ c) → site_here x h a ≡ site_here x h c
here_of_names x (In c) a d e = ap (λ t. bound_sort OfType x (second t)) (e refl)
here_of_names x Branch a d e = ap (bound_sort BelowParameter x) (e refl)
here_of_names x h a d e = refl

-- so a tree in a first child isn't among them
pub first_here : (x p : ℕ) (m : Tree) (σ : Phrase) (h : Head) (a b : Tree) → is_phrase σ (Node h a b) ≡ true → nat_lt p (weight h) ≡ false → nat_lt p (weight h + size a) ≡ true
    → site_here x h (replaced a (p - weight h) m) ≡ site_here x h a
first_here x p m σ h a b e i j =
    here_of_names x h (replaced a (p - weight h) m) a
    (λ n. absurd (let z : size a ≡ 0 = names_size σ h a b e n in let l = ltb-false p (weight h) i in let k = ltb-true p (weight h + size a) j in omega arith))

-- a tree that has the sites of the one at a place may stand there
pub sites_replaced : (x : ℕ) (old m : Tree) → site_sort x m ≡ site_sort x old → (σ : Phrase) (t : Tree) (p : ℕ) → is_phrase σ t ≡ true → subtree t p ≡ Some old → site_sort x (replaced t p m) ≡ site_sort x t
unfolding site_sort subtree replaced
sites_replaced x old m e σ Empty p f g = absurd (cc)
sites_replaced x old m e σ (Node h a b) p f g =
    let o = open_phrase σ h a b f in
    go (nat_lt p (weight h)) refl (nat_lt p (weight h + size a)) refl g (sites_replaced x old m e o.0.0 a (p - weight h) o.2) (sites_replaced x old m e o.0.1 b (p - (weight h + size a)) o.3)
  where
    c : Tree
    c = replaced a (p - weight h) m

    d : Tree
    d = replaced b (p - (weight h + size a)) m

    go : (v : Bool) → nat_lt p (weight h) ≡ v → (w : Bool) → nat_lt p (weight h + size a) ≡ w
        → cond v (Some (Node h a b)) (cond w (subtree a (p - weight h)) (subtree b (p - (weight h + size a)))) ≡ Some old
        → (subtree a (p - weight h) ≡ Some old → site_sort x c ≡ site_sort x a) → (subtree b (p - (weight h + size a)) ≡ Some old → site_sort x d ≡ site_sort x b)
        → site_sort x (cond v m (cond w (Node h c b) (Node h a d))) ≡ first_of (site_here x h a) (first_of (site_sort x a) (site_sort x b))
    go true i w j g k l = e ∙ ap (site_sort x) (sym (some_injective g))
    go false i true j g k l = ap₂ (λ o u. first_of o (first_of u (site_sort x b))) (first_here x p m σ h a b f i j) (k g)
    go false i false j g k l = ap (λ u. first_of (site_here x h a) (first_of (site_sort x a) u)) (l g)

-- without the definitions of one variable the others have their sites

still_choice : (σ : Phrase) (y T : ℕ) (a b : Tree) → is_phrase σ (Node (New y T) a b) ≡ true → is_still a ≡ true
unfolding is_phrase
still_choice Body y T a b e = nil_still a (and_parts (is_phrase Nil a) _ e).0
still_choice σ y T a b e = absurd (both_ways false refl e)

still_assignment : (σ : Phrase) (y T : ℕ) (a b : Tree) → is_phrase σ (Node (Let y T) a b) ≡ true → is_still a ≡ true
unfolding is_phrase
still_assignment Body y T a b e = term_still a (and_parts (is_phrase Term a) _ e).0
still_assignment σ y T a b e = absurd (both_ways false refl e)

still_definition : (xs : ℕ → Bool) (σ : Phrase) (h : Head) (a b : Tree) → is_phrase σ (Node h a b) ≡ true → defines xs h ≡ true → is_still a ≡ true
still_definition xs σ (New y T) a b e d = still_choice σ y T a b e
still_definition xs σ (Let y T) a b e d = still_assignment σ y T a b e
still_definition xs σ h a b e d = absurd (both_ways false refl d)

other_definition : (x y : ℕ) (h : Head) (a : Tree) → (x == y) ≡ false → defines (only x) h ≡ true → site_here y h a ≡ None
other_definition x y (New z T) a n d = ap (λ w. cond (w == y) (Some (OfType T)) None) (eqb-true z x d) ∙ ap (λ v. cond v (Some (OfType T)) None) n
other_definition x y (Let z T) a n d = ap (λ w. cond (w == y) (Some (OfType T)) None) (eqb-true z x d) ∙ ap (λ v. cond v (Some (OfType T)) None) n
other_definition x y h a n d = absurd (both_ways false refl d)

bare_flat : (σ : Phrase) → is_bare σ ≡ true → is_flat σ ≡ true
bare_flat Nil e = refl
bare_flat Pattern e = refl
bare_flat Indices e = refl
bare_flat Binders e = refl
bare_flat σ e = absurd (both_ways false refl e)

names_without : (xs : ℕ → Bool) (σ : Phrase) (h : Head) (a b : Tree) → is_phrase σ (Node h a b) ≡ true → has_names h ≡ true → without xs a ≡ a
names_without xs σ h a b e f = let o = open_phrase σ h a b e in flat_dropped xs o.0.0 a (bare_flat o.0.0 (names_bare σ h o.0 o.1 f)) o.2

pub sites_without : (x y : ℕ) → (x == y) ≡ false → (σ : Phrase) (t : Tree) → is_phrase σ t ≡ true → site_sort y (without (only x) t) ≡ site_sort y t
unfolding site_sort without
sites_without x y n σ Empty e = refl
sites_without x y n σ (Node h a b) e =
    let o = open_phrase σ h a b e in go (defines (only x) h) refl (sites_without x y n o.0.0 a o.2) (sites_without x y n o.0.1 b o.3)
  where
    go : (v : Bool) → defines (only x) h ≡ v → site_sort y (without (only x) a) ≡ site_sort y a → site_sort y (without (only x) b) ≡ site_sort y b
        → site_sort y (cond v (without (only x) b) (Node h (without (only x) a) (without (only x) b))) ≡ first_of (site_here y h a) (first_of (site_sort y a) (site_sort y b))
    go true d k l = l ∙ sym (ap₂ (λ o u. first_of o (first_of u (site_sort y b))) (other_definition x y h a n d) (still_sites y a (still_definition (only x) σ h a b e d)))
    go false d k l =
        ap₂ first_of (here_of_names y h (without (only x) a) a (names_without (only x) σ h a b e)) (ap₂ first_of k l)
