-- Sites of a context: each is one of the game's, but for its place, or an answer's.
use Rattle.std.proofs.Common.{◌≡◌, ℕ, suc, ◌≤◌, ◌<◌, true, false, List, [], ◌∷◌, ◌++◌, map, ◌⊎◌, inl, inr, refl, sym, ap, subst, ◌∙◌, arith}
use Rattle.std.proofs.lemmas.Bool.{and_parts, both_ways}
use Rattle.std.specs.List.{AllByRecursion}
use Rattle.cv_syntax_trees.specs.declared.head.Head.{Head}
use Rattle.cv_syntax_trees.specs.declared.head.Head.TheVariants.{Leaf, Read, Apply, Eq, And, Or, Not, Yes, No, Cons, Name, Binder, Branch, Find, In, Let, New, Key, Call}
use Rattle.cv_syntax_trees.specs.Tree.{Tree, Empty, Node, first_place, second, second_place}
use Rattle.cv_meaning.specs.Binders.{bound_names}
use Rattle.cv_scope_rules.specs.Branches.{AreInDifferentBranches, Each, HasOtherName, IsLike, Pairs}
use Rattle.cv_scope_rules.specs.Context.{first_position, replications_below, second_position}
use Rattle.cv_scope_rules.specs.Rules.{AreAlike}
use Rattle.cv_scope_rules.specs.Sites.{Channel, Site, Variable, channel_here, site_of, sites_from, sites_here, variable_sites}
use Rattle.cv_scope_rules.specs.declared.position.Position.{Position}
use Rattle.cv_scope_rules.specs.declared.position.Position.TheVariants.{Anywhere}
use Rattle.cv_scope_rules.proofs.Pairs.{all_map, all_true, all_weaker, pairs_append}
use Rattle.cv_scene.specs.Reductions.{Reduction}
use Rattle.cv_context_laws.proofs.well_formed.Becoming.{AreCalls, none, call, Becomes, still, node, coin, key, statement, IsNoAnswer, is_still, is_still_head}
use Rattle.cv_syntax_trees.proofs.lists.Each.{AllByRecursion_append}

-- one of a list

abbrev pub IsOne : {A : Type 0} → (A → Type 0) → List A → Type 0
IsOne P [] = ⊥
IsOne P (x ∷ xs) = P x ⊎ IsOne P xs

pub one_left : {A : Type 0} (P : A → Type 0) (xs ys : List A) → IsOne P xs → IsOne P (xs ++ ys)
one_left P [] ys o = absurd o
one_left P (x ∷ xs) ys (inl o) = inl o
one_left P (x ∷ xs) ys (inr o) = inr (one_left P xs ys o)

pub one_right : {A : Type 0} (P : A → Type 0) (xs ys : List A) → IsOne P ys → IsOne P (xs ++ ys)
one_right P [] ys o = o
one_right P (x ∷ xs) ys o = inr (one_right P xs ys o)

-- the same site but for its place
abbrev pub IsMoved : Site → Site → Type 0
IsMoved c g = (c.name ≡ g.name) × AreAlike c g

pub record IsAnswerFrom (r : Reduction) (j k : ℕ) (c : Site) : Type 0 where
  pub number : ℕ
  pub from : j ≤ number
  pub below : number < k
  pub is : c.name ≡ Variable (r.answer number)

abbrev pub IsFrom : Reduction → List Site → ℕ → ℕ → Site → Type 0
IsFrom r G j k c = IsOne (IsMoved c) G ⊎ IsAnswerFrom r j k c

-- sites of one node

moved_names : (rs : List (ℕ × ℕ)) (p q : ℕ) (xs : List ℕ) → AllByRecursion (λ c. IsOne (IsMoved c) (map (λ x. site_of rs p (Variable x)) xs)) (map (λ x. site_of rs q (Variable x)) xs)
moved_names rs p q [] = tt
moved_names rs p q (x ∷ xs) = (inl (refl, (refl, refl)), all_weaker (λ c. IsOne (IsMoved c) (map (λ x. site_of rs p (Variable x)) xs)) _ (map (λ x. site_of rs q (Variable x)) xs) (λ c o. inr o) (moved_names rs p q xs))

pub moved_here : (rs : List (ℕ × ℕ)) (p q : ℕ) (h : Head) (a : Tree) → AllByRecursion (λ c. IsOne (IsMoved c) (sites_here rs p h a)) (sites_here rs q h a)
moved_here rs p q (New x T) a = (inl (refl, (refl, refl)), tt)
moved_here rs p q (Let x T) a = (inl (refl, (refl, refl)), tt)
moved_here rs p q (Key x) a = (inl (refl, (refl, refl)), tt)
moved_here rs p q (Call x l) a = (inl (refl, (refl, refl)), tt)
moved_here rs p q (Find l) a = (inl (refl, (refl, refl)), tt)
moved_here rs p q Branch a =
    AllByRecursion_append (λ c. IsOne (IsMoved c) (variable_sites rs p a ++ [])) (variable_sites rs q a) []
    (all_weaker (λ c. IsOne (IsMoved c) (variable_sites rs p a)) _ (variable_sites rs q a) (λ c o. one_left (IsMoved c) (variable_sites rs p a) [] o) (moved_names rs p q (bound_names a))) tt
moved_here rs p q (In c) a =
    let P : Site → Type 0 = λ e. IsOne (IsMoved e) (variable_sites rs p (second a) ++ channel_here rs p (In c) a) in
    AllByRecursion_append P (variable_sites rs q (second a)) (channel_here rs q (In c) a)
    (all_weaker (λ e. IsOne (IsMoved e) (variable_sites rs p (second a))) P (variable_sites rs q (second a)) (λ e o. one_left (IsMoved e) (variable_sites rs p (second a)) (channel_here rs p (In c) a) o) (moved_names rs p q (bound_names (second a))))
    (one_right (IsMoved (record { name = Channel c; replications = rs; types = _; place = q })) (variable_sites rs p (second a)) (channel_here rs p (In c) a) (inl (refl, (refl, refl))), tt)
moved_here rs p q h a = tt

like_names : (rs : List (ℕ × ℕ)) (p : ℕ) (xs : List ℕ) → Pairs IsLike (map (λ x. site_of rs p (Variable x)) xs)
like_names rs p [] = tt
like_names rs p (x ∷ xs) = (all_map (IsLike (site_of rs p (Variable x))) (λ y. site_of rs p (Variable y)) xs (λ y e. (refl, refl)), like_names rs p xs)

pub like_here : (rs : List (ℕ × ℕ)) (p : ℕ) (h : Head) (a : Tree) → Pairs IsLike (sites_here rs p h a)
like_here rs p (New x T) a = (tt, tt)
like_here rs p (Let x T) a = (tt, tt)
like_here rs p (Key x) a = (tt, tt)
like_here rs p (Call x l) a = (tt, tt)
like_here rs p (Find l) a = (tt, tt)
like_here rs p Branch a = pairs_append IsLike (variable_sites rs p a) [] (like_names rs p (bound_names a)) tt (all_true (λ e. AllByRecursion (IsLike e) []) (variable_sites rs p a) (λ e. tt))
like_here rs p (In c) a =
    pairs_append IsLike (variable_sites rs p (second a)) (channel_here rs p (In c) a) (like_names rs p (bound_names (second a))) (tt, tt)
    (all_map (λ e. AllByRecursion (IsLike e) (channel_here rs p (In c) a)) (λ x. site_of rs p (Variable x)) (bound_names (second a)) (λ x. ((λ e. absurd (cc)), tt)))
like_here rs p h a = tt

-- a tree of terms or lists has none

still_here : (rs : List (ℕ × ℕ)) (p : ℕ) (h : Head) (a : Tree) → is_still_head h ≡ true → sites_here rs p h a ≡ []
still_here rs p (Leaf x) a e = refl
still_here rs p (Read x) a e = refl
still_here rs p (Apply f) a e = refl
still_here rs p Eq a e = refl
still_here rs p And a e = refl
still_here rs p Or a e = refl
still_here rs p Not a e = refl
still_here rs p Yes a e = refl
still_here rs p No a e = refl
still_here rs p Cons a e = refl
still_here rs p (Name i) a e = refl
still_here rs p (Binder x T) a e = refl
still_here rs p h a e = absurd (both_ways false refl e)

pub no_sites : (rs : List (ℕ × ℕ)) (p : ℕ) (t : Tree) → is_still t ≡ true → sites_from rs p t ≡ []
unfolding sites_from is_still
no_sites rs p Empty e = refl
no_sites rs p (Node h a b) e =
    let u = and_parts (is_still_head h) _ e in
    let v = and_parts (is_still a) (is_still b) u.1 in
    ap (λ xs. xs ++ (sites_from rs (first_place p h) a ++ sites_from (replications_below h rs) (second_place p h a) b)) (still_here rs p h a u.0)
    ∙ ap (λ xs. xs ++ sites_from (replications_below h rs) (second_place p h a) b) (no_sites rs (first_place p h) a v.0)
    ∙ no_sites (replications_below h rs) (second_place p h a) b v.1

pub still_apart : (w : Position) (rs : List (ℕ × ℕ)) (p : ℕ) (t : Tree) → is_still t ≡ true → AreInDifferentBranches w rs p t
unfolding AreInDifferentBranches is_still
still_apart w rs p Empty e = tt
still_apart w rs p (Node h a b) e =
    let u = and_parts (is_still_head h) _ e in
    let v = and_parts (is_still a) (is_still b) u.1 in (
      subst (λ xs. Each HasOtherName xs (sites_from rs (first_place p h) a ++ sites_from (replications_below h rs) (second_place p h a) b)) (sym (still_here rs p h a u.0)) tt,
      (λ d. subst (λ xs. Each HasOtherName xs (sites_from (replications_below h rs) (second_place p h a) b)) (sym (no_sites rs (first_place p h) a v.0)) tt),
      still_apart (first_position w h) rs (first_place p h) a v.0,
      still_apart (second_position w h) (replications_below h rs) (second_place p h a) b v.1,
    )

-- numbers grow

pub calls_ordered : (r : Reduction) (t u : Tree) (j k : ℕ) → AreCalls r j k t u → j ≤ k
calls_ordered r t u j k none = omega arith
calls_ordered r t u j k (call {t = x} {u = y} e c) = let l = calls_ordered r x y (suc j) k c in omega (arith, l)

pub ordered : (r : Reduction) (w : Position) (rs : List (ℕ × ℕ)) (j k : ℕ) (t u : Tree) → Becomes r w rs j k t u → j ≤ k
ordered r w rs j k t u (still l e) = l
ordered r w rs j k t u (node {k = i} {h = h} {a = a} {b = b} {c = c} {d = d} s f g) = let l = ordered r _ rs j i a c f in let m = ordered r _ _ i k b d g in omega (arith, l, m)
ordered r w rs j k t u (coin {i = i} {b = b} {d = d} e x l g) = let m = ordered r Anywhere rs i k b d g in omega (arith, l, m)
ordered r w rs j k t u (key {i = i} {b = b} {d = d} e x l g) = let m = ordered r Anywhere rs i k b d g in omega (arith, l, m)
ordered r w rs j k t u (statement {k = i} {h = h} {a = a} {b = b} {c = c} {d = d} s v m g z) = let l = calls_ordered r (Node h c d) u j i z in let n = ordered r _ _ i k b d g in omega (arith, l, n)

-- no site of the game is an answer's

pub no_answers : (r : Reduction) (w : Position) (rs : List (ℕ × ℕ)) (j k : ℕ) (t u : Tree) (p : ℕ) → Becomes r w rs j k t u → AllByRecursion (IsNoAnswer r) (sites_from rs p t)
unfolding sites_from
no_answers r w rs j k t u p (still l e) = subst (AllByRecursion (IsNoAnswer r)) (sym (no_sites rs p t e)) tt
no_answers r w rs j k t u p (node {k = i} {h = h} {a = a} {b = b} {c = c} {d = d} s f g) =
    AllByRecursion_append (IsNoAnswer r) (sites_here rs p h a) _ (s.answers rs p)
    (AllByRecursion_append (IsNoAnswer r) (sites_from rs (first_place p h) a) _ (no_answers r _ rs j i a c (first_place p h) f) (no_answers r _ (replications_below h rs) i k b d (second_place p h a) g))
no_answers r w rs j k t u p (coin {i = i} {x = x} {T = T} {a = a} {b = b} {d = d} e n l g) =
    (n, AllByRecursion_append (IsNoAnswer r) (sites_from rs (first_place p (New x T)) a) _ (subst (AllByRecursion (IsNoAnswer r)) (sym (no_sites rs (first_place p (New x T)) a e)) tt) (no_answers r Anywhere rs i k b d (second_place p (New x T) a) g))
no_answers r w rs j k t u p (key {i = i} {x = x} {T = T} {a = a} {b = b} {d = d} e n l g) =
    (n, AllByRecursion_append (IsNoAnswer r) (sites_from rs (first_place p (New x T)) a) _ (subst (AllByRecursion (IsNoAnswer r)) (sym (no_sites rs (first_place p (New x T)) a e)) tt) (no_answers r Anywhere rs i k b d (second_place p (New x T) a) g))
no_answers r w rs j k t u p (statement {k = i} {h = h} {a = a} {b = b} {d = d} s v m g z) =
    AllByRecursion_append (IsNoAnswer r) (sites_here rs p h a) _ (s.answers rs p)
    (AllByRecursion_append (IsNoAnswer r) (sites_from rs (first_place p h) a) _ (subst (AllByRecursion (IsNoAnswer r)) (sym (no_sites rs (first_place p h) a v)) tt) (no_answers r _ (replications_below h rs) i k b d (second_place p h a) g))
