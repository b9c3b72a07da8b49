-- A name that is bound nowhere is no variable.
use Rattle.std.proofs.Common.{◌≡◌, ℕ, Bool, true, false, cond, ◌||◌, not, ◌==◌, List, [], Option, Some, None, is_some, refl, sym, ap, ap₂, ◌∙◌, eqb-true}
use Rattle.std.proofs.lemmas.Bool.{both_ways, and_parts, not-true}
use Rattle.cv_syntax_trees.specs.declared.head.Head.{Head}
use Rattle.cv_syntax_trees.specs.declared.head.Head.TheVariants.{In, New, Let, Branch, Binder, Key, Call}
use Rattle.cv_syntax_trees.specs.Tree.{Tree, Empty, Node, second}
use Rattle.cv_syntax_trees.specs.declared.sites.sort.Sort.{Sort}
use Rattle.cv_syntax_trees.specs.declared.sites.sort.Sort.TheVariants.{OfType, BelowParameter}
use Rattle.cv_syntax_trees.specs.sites.Sites.{first_of, bound_sort, site_here, at_parameters, parameters_below, first_site}
use Rattle.cv_scope_rules.specs.Scope.{is_untyped_here, is_untyped_in, is_variable}
use Rattle.cv_scope_rules.specs.Phrases.{head_binds_none, binds_none}

none_of : {A : Type 0} (o q : Option A) → is_some o ≡ false → is_some q ≡ false → is_some (first_of o q) ≡ false
none_of (Some a) q e f = e
none_of None q e f = f

differs : (names : ℕ → Bool) (x y : ℕ) → names x ≡ true → not (names y) ≡ true → (y == x) ≡ false
differs names x y e f = go (y == x) refl
  where
    go : (b : Bool) → (y == x) ≡ b → b ≡ false
    go true k = absurd (both_ways (names x) (ap names (sym (eqb-true y x k)) ∙ not-true _ f) e)
    go false k = refl

other_sort : (names : ℕ → Bool) (x y : ℕ) (S : Sort) → names x ≡ true → not (names y) ≡ true → is_some (cond (y == x) (Some S) None) ≡ false
other_sort names x y S e f = ap (λ b. is_some (cond b (Some S) None)) (differs names x y e f)

bound_none : (names : ℕ → Bool) (sort : ℕ → Sort) (x : ℕ) → names x ≡ true → (bs : Tree) → binds_none names bs ≡ true → is_some (bound_sort sort x bs) ≡ false
unfolding bound_sort binds_none
bound_none names sort x e Empty f = refl
bound_none names sort x e (Node (Binder y T) a b) f =
    let r = and_parts (not (names y)) _ f in
    go (y == x) refl r.0 (bound_none names sort x e b (and_parts (binds_none names a) _ r.1).1)
  where
    go : (c : Bool) → (y == x) ≡ c → not (names y) ≡ true → is_some (bound_sort sort x b) ≡ false → is_some (cond c (Some (sort T)) (bound_sort sort x b)) ≡ false
    go true k n z = absurd (both_ways (names x) (ap names (sym (eqb-true y x k)) ∙ not-true _ n) e)
    go false k n z = z
bound_none names sort x e (Node h a b) f = bound_none names sort x e b (and_parts (binds_none names a) _ (and_parts (head_binds_none names h) _ f).1).1

second_none : (names : ℕ → Bool) (a : Tree) → binds_none names a ≡ true → binds_none names (second a) ≡ true
unfolding binds_none
second_none names Empty f = refl
second_none names (Node h a b) f = (and_parts (binds_none names a) _ (and_parts (head_binds_none names h) _ f).1).1

here_none : (names : ℕ → Bool) (x : ℕ) → names x ≡ true → (h : Head) (a : Tree) → head_binds_none names h ≡ true → binds_none names a ≡ true → is_some (site_here x h a) ≡ false
here_none names x e (New y T) a f k = other_sort names x y (OfType T) e f
here_none names x e (Let y T) a f k = other_sort names x y (OfType T) e f
here_none names x e (In c) a f k = bound_none names OfType x e (second a) (second_none names a k)
here_none names x e Branch a f k = bound_none names BelowParameter x e a k
here_none names x e h a f k = refl

without_parameters : (ps : List ℕ) (o : Option Sort) → is_some o ≡ false → is_some (at_parameters ps o) ≡ false
without_parameters ps None e = refl
without_parameters ps (Some S) e = e

no_site : (names : ℕ → Bool) (x : ℕ) → names x ≡ true → (b : Tree) → binds_none names b ≡ true → (ps : List ℕ) → is_some (first_site x ps b) ≡ false
unfolding first_site binds_none
no_site names x e Empty f ps = refl
no_site names x e (Node h a b) f ps =
    let r = and_parts (head_binds_none names h) _ f in
    let s = and_parts (binds_none names a) _ r.1 in
    none_of (at_parameters ps (site_here x h a)) _ (without_parameters ps (site_here x h a) (here_none names x e h a r.0 s.0))
    (none_of (first_site x ps a) _ (no_site names x e a s.0 ps) (no_site names x e b s.1 (parameters_below h ps)))

untyped_here_none : (names : ℕ → Bool) (x : ℕ) → names x ≡ true → (h : Head) → head_binds_none names h ≡ true → is_untyped_here x h ≡ false
untyped_here_none names x e (Key y) f = differs names x y e f
untyped_here_none names x e (Call y l) f = differs names x y e f
untyped_here_none names x e h f = refl

untyped_none : (names : ℕ → Bool) (x : ℕ) → names x ≡ true → (b : Tree) → binds_none names b ≡ true → is_untyped_in x b ≡ false
unfolding is_untyped_in binds_none
untyped_none names x e Empty f = refl
untyped_none names x e (Node h a b) f =
    let r = and_parts (head_binds_none names h) _ f in
    let s = and_parts (binds_none names a) _ r.1 in
    ap₂ ◌||◌ (untyped_here_none names x e h r.0) (ap₂ ◌||◌ (untyped_none names x e a s.0) (untyped_none names x e b s.1))

pub no_variable : (names : ℕ → Bool) (x : ℕ) → names x ≡ true → (b : Tree) → binds_none names b ≡ true → is_variable b x ≡ false
no_variable names x e b f = ap₂ ◌||◌ (no_site names x e b f []) (untyped_none names x e b f)
