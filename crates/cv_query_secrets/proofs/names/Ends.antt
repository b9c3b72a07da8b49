-- The names of a game and of its file are below the first number above them all.
use Rattle.std.proofs.Common.{◌≡◌, ℕ, suc, ◌≤◌, ◌<◌, max, Bool, true, false, cond, ◌||◌, ◌==◌, List, [], ◌∷◌, ◌⊎◌, inl, inr, Option, Some, None, is_some, refl, sym, ap, ◌∙◌, eqb-true, arith}
use Rattle.std.proofs.lemmas.Bool.{both_ways, or_cases}
use Rattle.cv_syntax_trees.specs.declared.class.Class.TheVariants as class
use Rattle.cv_syntax_trees.specs.declared.head.Head.{Head}
use Rattle.cv_syntax_trees.specs.declared.head.Head.TheVariants.{Binder, Branch, Call, In, Key, Let, New, Repl}
use Rattle.cv_syntax_trees.specs.Declarations.{Declaration, Named}
use Rattle.cv_syntax_trees.specs.Tree.{Tree, Empty, Node, second}
use Rattle.cv_meaning.specs.Interpretation.{is_constant_of}
use Rattle.cv_syntax_trees.specs.declared.sites.sort.Sort.{Sort}
use Rattle.cv_syntax_trees.specs.sites.Sites.{at_parameters, bound_sort, first_of, first_site, is_untyped_here, is_untyped_in, parameters_below, site_here}
use Rattle.cv_scope_rules.specs.Context.{Context, known_at}
use Rattle.cv_scope_rules.specs.Above.{stands_at}
use Rattle.cv_scope_rules.specs.Rules.{is_index}
use Rattle.cv_scope_rules.specs.Scope.{is_variable}
use Rattle.cv_scene.specs.Scenes.{Scene}
use Rattle.cv_scene.specs.Terms.{replications_at, replications_by}
use Rattle.cv_query_certificates.specs.Marks.{declared_end, head_end, names_end, raise_of}
use Rattle.cv_derive_laws.specs.reached.Copies.{IsAbove}
use Rattle.cv_derive_laws.proofs.reached.Replications.{AllAre, Each, above, each_above, same_replications}

-- constants of the file

constant_below : (ds : List Declaration) (x : ℕ) → is_constant_of ds x ≡ true → x < declared_end ds
constant_below [] x e = absurd (both_ways false refl e)
constant_below (Named y (class.Fun data_like) Empty r ∷ ds) x e = go (y == x) refl e (constant_below ds x)
  where
    go : (b : Bool) → (y == x) ≡ b → (b || is_constant_of ds x) ≡ true → (is_constant_of ds x ≡ true → x < declared_end ds) → x < declared_end (Named y (class.Fun data_like) Empty r ∷ ds)
    go true f e k = let same : y ≡ x = eqb-true y x f in omega arith
    go false f e k = let l : x < declared_end ds = k e in omega arith
constant_below (Named y c a r ∷ ds) x e = let l : x < declared_end ds = constant_below ds x e in omega arith
constant_below (d ∷ ds) x e = constant_below ds x e

-- variables of the game

named_below : (x y : ℕ) (b : Bool) → (y == x) ≡ b → b ≡ true → x < suc y
named_below x y true f e = let same : y ≡ x = eqb-true y x f in omega arith
named_below x y false f e = absurd (both_ways false refl e)

some_of : {A : Type 0} (o p : Option A) → is_some (first_of o p) ≡ true → (is_some o ≡ true) ⊎ (is_some p ≡ true)
some_of (Some a) p e = inl refl
some_of None p e = inr e

some_at : (ps : List ℕ) (o : Option Sort) → is_some (at_parameters ps o) ≡ true → is_some o ≡ true
some_at ps (Some S) e = refl
some_at ps None e = e

some_if : {A : Type 0} (b : Bool) (a : A) → is_some (cond b (Some a) None) ≡ true → b ≡ true
some_if true a e = refl
some_if false a e = e

bound_below : (sort : ℕ → Sort) (x : ℕ) (bs : Tree) → is_some (bound_sort sort x bs) ≡ true → x < names_end bs
unfolding bound_sort names_end
bound_below sort x Empty e = absurd (both_ways false refl e)
bound_below sort x (Node (Binder y T) a b) e = go (y == x) refl e (bound_below sort x b)
  where
    go : (c : Bool) → (y == x) ≡ c → is_some (cond c (Some (sort T)) (bound_sort sort x b)) ≡ true → (is_some (bound_sort sort x b) ≡ true → x < names_end b) → x < max (suc y) (max (names_end a) (names_end b))
    go true f e k = let same : y ≡ x = eqb-true y x f in omega arith
    go false f e k = let l : x < names_end b = k e in omega arith
bound_below sort x (Node h a b) e = let l : x < names_end b = bound_below sort x b e in omega arith

second_below : (a : Tree) → names_end (second a) ≤ names_end a
unfolding names_end
second_below Empty = omega arith
second_below (Node h a b) = omega arith

site_here_below : (x : ℕ) (h : Head) (a : Tree) → is_some (site_here x h a) ≡ true → x < max (head_end h) (names_end a)
site_here_below x (New y T) a e = let l : x < suc y = named_below x y (y == x) refl (some_if (y == x) _ e) in omega arith
site_here_below x (Let y T) a e = let l : x < suc y = named_below x y (y == x) refl (some_if (y == x) _ e) in omega arith
site_here_below x (In c) a e = let l : x < names_end (second a) = bound_below _ x (second a) e in let m = second_below a in omega arith
site_here_below x Branch a e = let l : x < names_end a = bound_below _ x a e in omega arith
site_here_below x h a e = absurd (both_ways false refl e)

-- in one of the children
below : {A B : Type 0} {x : ℕ} (k m n : ℕ) → A ⊎ B → (A → x < m) → (B → x < n) → x < max k (max m n)
below k m n (inl a) i j = let l = i a in omega arith
below k m n (inr b) i j = let l = j b in omega arith

site_below : (x : ℕ) (ps : List ℕ) (t : Tree) → is_some (first_site x ps t) ≡ true → x < names_end t
unfolding first_site names_end
site_below x ps Empty e = absurd (both_ways false refl e)
site_below x ps (Node h a b) e = go (some_of (at_parameters ps (site_here x h a)) _ e) (site_below x ps a) (site_below x (parameters_below h ps) b)
  where
    go : (is_some (at_parameters ps (site_here x h a)) ≡ true) ⊎ (is_some (first_of (first_site x ps a) (first_site x (parameters_below h ps) b)) ≡ true) → (is_some (first_site x ps a) ≡ true → x < names_end a)
        → (is_some (first_site x (parameters_below h ps) b) ≡ true → x < names_end b) → x < max (head_end h) (max (names_end a) (names_end b))
    go (inl f) i j = let l : x < max (head_end h) (names_end a) = site_here_below x h a (some_at ps (site_here x h a) f) in omega arith
    go (inr f) i j = below (head_end h) (names_end a) (names_end b) (some_of (first_site x ps a) _ f) i j

untyped_here_below : (x : ℕ) (h : Head) → is_untyped_here x h ≡ true → x < head_end h
untyped_here_below x (Key y) e = named_below x y (y == x) refl e
untyped_here_below x (Call y l) e = named_below x y (y == x) refl e
untyped_here_below x h e = absurd (both_ways false refl e)

untyped_below : (x : ℕ) (t : Tree) → is_untyped_in x t ≡ true → x < names_end t
unfolding is_untyped_in names_end
untyped_below x Empty e = absurd (both_ways false refl e)
untyped_below x (Node h a b) e = go (or_cases (is_untyped_here x h) _ e) (untyped_below x a) (untyped_below x b)
  where
    go : (is_untyped_here x h ≡ true) ⊎ ((is_untyped_in x a || is_untyped_in x b) ≡ true) → (is_untyped_in x a ≡ true → x < names_end a) → (is_untyped_in x b ≡ true → x < names_end b) → x < max (head_end h) (max (names_end a) (names_end b))
    go (inl f) i j = let l : x < head_end h = untyped_here_below x h f in omega arith
    go (inr f) i j = below (head_end h) (names_end a) (names_end b) (or_cases (is_untyped_in x a) _ f) i j

variable_below : (game : Tree) (x : ℕ) → is_variable game x ≡ true → x < names_end game
variable_below game x e = go (or_cases (is_some (first_site x [] game)) _ e)
  where
    go : (is_some (first_site x [] game) ≡ true) ⊎ (is_untyped_in x game ≡ true) → x < names_end game
    go (inl f) = site_below x [] game f
    go (inr f) = untyped_below x game f

-- indices at a place

all_below : (k : ℕ) (t : Tree) → names_end t ≤ k → AllAre (λ y. y < k) t
unfolding names_end
all_below k Empty l = tt
all_below k (Node h a b) l = go h (omega arith) (all_below k a (omega arith)) (all_below k b (omega arith))
  where
    go : (h : Head) → head_end h ≤ k → AllAre (λ y. y < k) a → AllAre (λ y. y < k) b → AllAre (λ y. y < k) (Node h a b)
    go (Repl i n) l x y = (omega arith, x, y)
    go h l x y = (tt, x, y)

each_below : (k : ℕ) (rs : List (ℕ × ℕ)) (x : ℕ) → Each (λ y. y < k) rs → is_index rs x ≡ true → x < k
each_below k [] x e f = absurd (both_ways false refl f)
each_below k (r ∷ rs) x e f = go (or_cases (r.0 == x) _ f) (each_below k rs x e.1)
  where
    go : ((r.0 == x) ≡ true) ⊎ (is_index rs x ≡ true) → (is_index rs x ≡ true → x < k) → x < k
    go (inl f) i = let same : r.0 ≡ x = eqb-true r.0 x f in let l : r.0 < k = e.0 in omega arith
    go (inr f) i = i f

index_below : (s : Scene) (place k : ℕ) → names_end s.game ≤ k → (x : ℕ) → is_index (replications_at s place) x ≡ true → x < k
index_below s place k l x e = go (known_at s.game place) (stands_at s.game place) refl (same_replications s.game place) e
  where
    go : (o p : Option Context) → stands_at s.game place ≡ p → above o ≡ above p → is_index (replications_by o) x ≡ true → x < k
    go None p f same e = absurd (both_ways false refl e)
    go (Some Γ) None f same e = absurd (cc)
    go (Some Γ) (Some Δ) f same e =
        let rs : Γ.replications ≡ Δ.replications = cc in
        each_below k Δ.replications x (each_above (λ y. y < k) s.game place Δ (all_below k s.game l) f) (ap (λ rs. is_index rs x) (sym rs) ∙ e)

pub raised_above : (s : Scene) (certificate : Tree) (place : ℕ) → IsAbove s place (raise_of s certificate)
raised_above s certificate place = record {
  constants = λ x e. let l : x < declared_end s.declarations = constant_below s.declarations x e in omega arith;
  variables = λ x e. let l : x < names_end s.game = variable_below s.game x e in omega arith;
  indices = index_below s place (raise_of s certificate) (omega arith);
}
