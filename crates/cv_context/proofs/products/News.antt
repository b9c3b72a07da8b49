-- The parameters of a variable, one by one, and those above the one `new` of a key.
use Rattle.std.proofs.Common.{◌≡◌, ℕ, ◌+◌, ◌<◌, ◌≤◌, ◌⊎◌, inl, inr, Bool, true, false, cond, ◌||◌, ◌==◌, List, [], ◌∷◌, ◌++◌, length, drop, get_or, Option, Some, None, refl, sym, ap, ap₂, ◌∙◌, arith, append_assoc, append-nil}
use Rattle.std.proofs.lemmas.Bool.{both_ways, and_parts}
use Rattle.std.proofs.lemmas.List.{drop_all, drop_more}
use Rattle.std.proofs.lemmas.Option.{get_or_from_slice_get, slice_get_cases, slice_get_past, slice_get_within}
use Rattle.std.specs.Prelude.{option_and_then, option_map, slice_get}
use Rattle.cv_syntax_trees.specs.declared.head.Head.{Head}
use Rattle.cv_syntax_trees.specs.declared.head.Head.TheVariants.{Binder, Branch, Call, In, Key, Let, New}
use Rattle.cv_syntax_trees.specs.Tree.{Tree, Empty, Node, second}
use Rattle.cv_syntax_trees.specs.declared.sites.sort.Sort.{Sort}
use Rattle.cv_syntax_trees.specs.declared.sites.sort.Sort.TheVariants.{BelowParameter, OfType}
use Rattle.cv_syntax_trees.specs.sites.Sites.{Variable, at_parameters, bound_sort, SitesView, first_of, first_site, parameters_below, site_here, sites_of}
use Rattle.cv_scope_rules.specs.Context.{replications_below}
use Rattle.cv_scope_rules.specs.Made.{is_bound, made_by}
use Rattle.cv_scope_rules.specs.Phrases.{Phrase, Binders, Inputs, Nil, is_phrase}
use Rattle.cv_scope_rules.specs.Sites.{Variable as Named}
use Rattle.cv_scope_rules.proofs.Plain.{phrase_plain}
use Rattle.cv_typing_runs.proofs.SameSites.{below_parameters, branch_binders, input_binders, phrase_open}
use Rattle.cv_scene.specs.Contexts.{parameters_of}
use Rattle.cv_scene.specs.Refusals.{definitions_in, new_of, only_new}
use Rattle.cv_context.specs.products.Products.{parameters_by}
use Rattle.cv_syntax_trees.proofs.lists.Tests.{equals_comm}

-- a parameter, by its number

abbrev Asked : Option Variable → ℕ → Option ℕ
Asked o k = option_and_then (λ (v : Variable). slice_get v.parameters k) o

asked : (o : Option Variable) (k : ℕ) → Asked o k ≡ slice_get (parameters_by o) k
asked None k = sym (slice_get_past [] k (omega arith))
asked (Some v) k = refl

pub within : (o : Option Variable) (k n : ℕ) → Some n ≡ Asked o k → k < length (parameters_by o)
within o k n e = slice_get_within (parameters_by o) k n (sym (e ∙ asked o k))

pub one_more : (o : Option Variable) (k n : ℕ) (done now : List ℕ) → Some n ≡ Asked o k → done ++ drop k (parameters_by o) ≡ parameters_by o → now ≡ done ++ n ∷ [] → now ++ drop (k + 1) (parameters_by o) ≡ parameters_by o
one_more o k n done now e i f =
    ap (λ l. l ++ drop (k + 1) ps) f ∙ append_assoc done (n ∷ []) (drop (k + 1) ps)
    ∙ ap (λ l. done ++ l) (ap (λ m. m ∷ drop (k + 1) ps) (sym (get_or_from_slice_get ps k n n there)) ∙ sym (drop_more ps k n (within o k n e)))
    ∙ i
  where
    ps : List ℕ
    ps = parameters_by o

    there : slice_get ps k ≡ Some n
    there = sym (e ∙ asked o k)

pub none_left : (o : Option Variable) (k : ℕ) (done : List ℕ) → None ≡ Asked o k → done ++ drop k (parameters_by o) ≡ parameters_by o → done ≡ parameters_by o
none_left o k done e i = sym (append-nil done) ∙ ap (λ l. done ++ l) (sym (drop_all k ps past)) ∙ i
  where
    ps : List ℕ
    ps = parameters_by o

    past : length ps ≤ k
    past = go (slice_get_cases ps k).1
      where
        go : ((x : ℕ) × (k < length ps) × (slice_get ps k ≡ Some x) × (get_or ps k x ≡ x)) ⊎ ((length ps ≤ k) × (slice_get ps k ≡ None)) → length ps ≤ k
        go (inl h) = absurd (let f = e ∙ asked o k in let g = h.2 in cc)
        go (inr h) = h.0

-- the first definition of a variable is its first site

abbrev Definition : Type 0
Definition = Head × List (ℕ × ℕ)

abbrev at_site : Option Variable → Option (List ℕ)
at_site o = option_map (λ (v : Variable). v.parameters) o

abbrev at_first : List Definition → Option (List ℕ)
at_first [] = None
at_first (d ∷ ds) = Some (parameters_of d.1)

bound : (sort : ℕ → Sort) (x : ℕ) (ps : List ℕ) (t : Tree) → is_phrase Binders t ≡ true → at_site (at_parameters ps (bound_sort sort x t)) ≡ cond (is_bound t x) (Some ps) None
unfolding is_phrase is_bound bound_sort
bound sort x ps Empty p = refl
bound sort x ps (Node (Binder y T) a b) p = go (y == x) (x == y) (equals_comm y x) (bound sort x ps b (and_parts (is_phrase Nil a) (is_phrase Binders b) p).1)
  where
    go : (v w : Bool) → v ≡ w → at_site (at_parameters ps (bound_sort sort x b)) ≡ cond (is_bound b x) (Some ps) None
        → at_site (at_parameters ps (cond v (Some (sort T)) (bound_sort sort x b))) ≡ cond (w || is_bound b x) (Some ps) None
    go true true e f = refl
    go true false e f = absurd (both_ways true e refl)
    go false true e f = absurd (both_ways false refl e)
    go false false e f = f
bound sort x ps (Node h a b) p = absurd (both_ways false refl p)

named : (x y : ℕ) (ps : List ℕ) (S : Sort) → at_site (at_parameters ps (cond (y == x) (Some S) None)) ≡ cond (x == y) (Some ps) None
named x y ps S = go (y == x) (x == y) (equals_comm y x)
  where
    go : (v w : Bool) → v ≡ w → at_site (at_parameters ps (cond v (Some S) None)) ≡ cond w (Some ps) None
    go true true e = refl
    go true false e = absurd (both_ways true e refl)
    go false true e = absurd (both_ways false refl e)
    go false false e = refl

-- at a node itself
here : (σ : Phrase) (x : ℕ) (ps : List ℕ) (h : Head) (a b : Tree) → is_phrase σ (Node h a b) ≡ true → at_site (at_parameters ps (site_here x h a)) ≡ cond (made_by h a (Named x)) (Some ps) None
here σ x ps (New y T) a b p = named x y ps (OfType T)
here σ x ps (Let y T) a b p = named x y ps (OfType T)
here σ x ps (In c) a b p = bound OfType x ps (second a) (input_binders σ c a b p)
here σ x ps Branch a b p = bound BelowParameter x ps a (branch_binders σ a b p)
here σ x ps (Key y) a b p = absurd (both_ways false refl (phrase_plain σ (Node (Key y) a b) p))
here σ x ps (Call y l) a b p = absurd (both_ways false refl (phrase_plain σ (Node (Call y l) a b) p))
here σ x ps h a b p = refl

append_first : (ds es : List Definition) → at_first (ds ++ es) ≡ first_of (at_first ds) (at_first es)
append_first [] es = refl
append_first (d ∷ ds) es = refl

either_site : (o u : Option Variable) → at_site (first_of o u) ≡ first_of (at_site o) (at_site u)
either_site None u = refl
either_site (Some v) u = refl

own_first : (m : Bool) (h : Head) (rs : List (ℕ × ℕ)) → cond m (Some (parameters_of rs)) None ≡ at_first (cond m ((h, rs) ∷ []) [])
own_first true h rs = refl
own_first false h rs = refl

same_first : (σ : Phrase) (x : ℕ) (rs : List (ℕ × ℕ)) (t : Tree) → is_phrase σ t ≡ true → at_site (first_site x (parameters_of rs) t) ≡ at_first (definitions_in x rs t)
unfolding definitions_in first_site
same_first σ x rs Empty p = refl
same_first σ x rs (Node h a b) p =
    let q = phrase_open σ h a b p in
    either_site (at_parameters ps (site_here x h a)) (first_of (first_site x ps a) (first_site x (parameters_below h ps) b))
    ∙ ap₂ first_of (here σ x ps h a b p ∙ own_first (made_by h a (Named x)) h rs)
    (either_site (first_site x ps a) (first_site x (parameters_below h ps) b)
    ∙ ap₂ first_of (same_first q.0.0 x rs a q.2) (ap (λ qs. at_site (first_site x qs b)) (sym (below_parameters h rs)) ∙ same_first q.0.1 x (replications_below h rs) b q.3))
    ∙ sym (append_first own (first ++ second_ones) ∙ ap (first_of (at_first own)) (append_first first second_ones))
  where
    ps : List ℕ
    ps = parameters_of rs

    own : List Definition
    own = cond (made_by h a (Named x)) ((h, rs) ∷ []) []

    first : List Definition
    first = definitions_in x rs a

    second_ones : List Definition
    second_ones = definitions_in x (replications_below h rs) b

first_new : (ds : List Definition) (d : ℕ × List (ℕ × ℕ)) → only_new ds ≡ Some d → at_first ds ≡ Some (parameters_of d.1)
first_new [] d e = absurd (cc)
first_new (c ∷ []) d e = go c.0 c.1 e
  where
    go : (h : Head) (rs : List (ℕ × ℕ)) → only_new ((h, rs) ∷ []) ≡ Some d → Some (parameters_of rs) ≡ Some (parameters_of d.1)
    go (New x T) rs e = let same : (T, rs) ≡ d = cc in ap (λ (c : ℕ × List (ℕ × ℕ)). Some (parameters_of c.1)) same
    go h rs e = absurd (cc)
first_new (c ∷ b ∷ ds) d e = go c.0 c.1 e
  where
    go : (h : Head) (rs : List (ℕ × ℕ)) → only_new ((h, rs) ∷ b ∷ ds) ≡ Some d → Some (parameters_of rs) ≡ Some (parameters_of d.1)
    go (New x T) rs e = absurd (cc)
    go h rs e = absurd (cc)

known : (o : Option Variable) (ps : List ℕ) → at_site o ≡ Some ps → parameters_by o ≡ ps
known None ps e = absurd (cc)
known (Some v) ps e = cc

-- so its parameters are those above its one `new`
pub only_new_law : (game : Tree) (x : ℕ) (d : ℕ × List (ℕ × ℕ)) (s : SitesView) → is_phrase Inputs game ≡ true → s ≡ sites_of game → new_of game x ≡ Some d → parameters_by (s.variable x) ≡ parameters_of d.1
only_new_law game x d s p i e =
    known (s.variable x) (parameters_of d.1)
    (ap (λ (v : SitesView). at_site (v.variable x)) i ∙ same_first Inputs x [] game p ∙ first_new (definitions_in x [] game) d e)
