-- Of the equations of truth values all that make a term smaller make one term of it.
use Rattle.std.proofs.Common.{◌≡◌, ◌<◌, Bool, true, false, cond, ◌||◌, nat_lt, List, [], ◌∷◌, ◌++◌, refl, sym, ap, subst, ◌∙◌, arith, ltb-true}
use Rattle.std.proofs.lemmas.Bool.{and_parts, both_ways}
use Rattle.cv_syntax_trees.proofs.Equality.{same_tree_exact}
use Rattle.cv_syntax_trees.specs.declared.head.Head.TheVariants.{And, Eq, Not, Or}
use Rattle.cv_syntax_trees.specs.Tree.{Tree, Empty, Node, same_tree, size}
use Rattle.cv_scope_rules.specs.Phrases.{Nil, Term, is_phrase}
use Rattle.cv_scene.specs.Scenes.{Scene}
use Rattle.cv_scene.specs.lines.Truths.{no, yes}
use Rattle.cv_settling_rules.specs.Candidates.{when}
use Rattle.cv_settling_rules.specs.Conjuncts.{is_among}
use Rattle.cv_settling_rules.specs.Equations.{by_truths, is_of_type, of_and, of_double, of_equality, of_not, of_or, of_sides}
use Rattle.cv_strategy_moves.specs.Truths.{opposite, shorter}

-- what a list of results has

one_of : {A : Type 0} (m r : Tree) (ts : List Tree) → is_among (m ∷ ts) r ≡ true → (r ≡ m → A) → (is_among ts r ≡ true → A) → A
one_of {A = A} m r ts e f g = go (same_tree r m) refl e
  where
    go : (b : Bool) → same_tree r m ≡ b → (b || is_among ts r) ≡ true → A
    go true i e = f (same_tree_exact r m i)
    go false i e = g e

-- a result where two trees are the same
of_same : {A : Type 0} (k l m r : Tree) (ts : List Tree) → is_among (when (same_tree k l) m ++ ts) r ≡ true → (k ≡ l → r ≡ m → A) → (is_among ts r ≡ true → A) → A
of_same {A = A} k l m r ts e f g = go (same_tree k l) refl e
  where
    go : (b : Bool) → same_tree k l ≡ b → is_among (when b m ++ ts) r ≡ true → A
    go true i e = one_of m r ts e (f (same_tree_exact k l i)) g
    go false i e = g e

of_last : {A : Type 0} (k l m r : Tree) → is_among (when (same_tree k l) m) r ≡ true → (k ≡ l → r ≡ m → A) → A
of_last {A = A} k l m r e f = go (same_tree k l) refl e
  where
    go : (b : Bool) → same_tree k l ≡ b → is_among (when b m) r ≡ true → A
    go true i e = one_of m r [] e (f (same_tree_exact k l i)) (λ n. absurd (both_ways false refl n))
    go false i e = absurd (both_ways false refl e)

none_more : {A : Type 0} → false ≡ true → A
none_more e = absurd (both_ways false refl e)

swapped : (m n : Tree) → nat_lt (size (Node Eq n m)) (size (Node Eq m n)) ≡ true → ⊥
unfolding size
swapped m n e = let l : size (Node Eq n m) < size (Node Eq m n) = ltb-true _ _ e in omega arith

denied : (m : Tree) → nat_lt (size (Node Eq m no)) (size (Node Not m Empty)) ≡ true → ⊥
unfolding size
denied m e = let l : size (Node Eq m no) < size (Node Not m Empty) = ltb-true _ _ e in omega arith

affirmed : (t : Tree) → nat_lt (size (Node Eq t yes)) (size t) ≡ true → ⊥
unfolding size
affirmed t e = let l : size (Node Eq t yes) < size t = ltb-true _ _ e in omega arith

nothing : (e : Tree) → is_phrase Nil e ≡ true → e ≡ Empty
unfolding is_phrase
nothing Empty p = refl
nothing (Node h a b) p = absurd (both_ways false refl p)

same_results : (b : Bool) (m : Tree) → m ≡ cond b m m
same_results true m = refl
same_results false m = refl

of_equality_shorter : (m n r : Tree) → is_among (of_equality m n) r ≡ true → nat_lt (size r) (size (Node Eq m n)) ≡ true → r ≡ shorter (Node Eq m n)
unfolding same_tree
of_equality_shorter m n r e l =
    of_same n yes m r _ e (λ p q. q ∙ sym (ap (λ k. cond (same_tree k yes) m yes) p))
    (λ f. of_same n m yes r _ f (λ p q. q ∙ equal p) (λ g. one_of (Node Eq n m) r [] g (λ q. absurd (swapped m n (subst (λ k. nat_lt (size k) (size (Node Eq m n)) ≡ true) q l))) none_more))
  where
    equal : n ≡ m → yes ≡ shorter (Node Eq m n)
    equal p = go (same_tree n yes) refl
      where
        go : (b : Bool) → same_tree n yes ≡ b → yes ≡ cond b m yes
        go true f = sym (sym p ∙ same_tree_exact n yes f)
        go false f = refl

of_and_shorter : (m n r : Tree) → is_among (of_and m n) r ≡ true → r ≡ shorter (Node And m n)
unfolding same_tree
of_and_shorter m n r e =
    of_same n yes m r _ e (λ p q. q ∙ right p)
    (λ f. of_same m yes n r _ f (λ p q. q ∙ sym (ap (λ k. cond (same_tree k yes) n (cond (same_tree n yes) k no)) p))
    (λ g. of_same n no no r _ g (λ p q. q ∙ neither p) (λ i. of_last m no no r i (λ p q. q ∙ left p))))
  where
    right : n ≡ yes → m ≡ shorter (Node And m n)
    right p = go (same_tree m yes) refl ∙ sym (ap (λ k. cond (same_tree m yes) k (cond (same_tree k yes) m no)) p)
      where
        go : (b : Bool) → same_tree m yes ≡ b → m ≡ cond b yes m
        go true f = same_tree_exact m yes f
        go false f = refl

    neither : n ≡ no → no ≡ shorter (Node And m n)
    neither p = same_results (same_tree m yes) no ∙ sym (ap (λ k. cond (same_tree m yes) k (cond (same_tree k yes) m no)) p)

    left : m ≡ no → no ≡ shorter (Node And m n)
    left p = same_results (same_tree n yes) no ∙ sym (ap (λ k. cond (same_tree k yes) n (cond (same_tree n yes) k no)) p)

of_or_shorter : (m n r : Tree) → is_among (of_or m n) r ≡ true → r ≡ shorter (Node Or m n)
unfolding same_tree
of_or_shorter m n r e =
    of_same n yes yes r _ e (λ p q. q ∙ neither p)
    (λ f. of_same m yes yes r _ f (λ p q. q ∙ left p)
    (λ g. of_same n no m r _ g (λ p q. q ∙ right p) (λ i. of_last m no n r i (λ p q. q ∙ sym (ap (λ k. cond (same_tree k no) n (cond (same_tree n no) k yes)) p)))))
  where
    right : n ≡ no → m ≡ shorter (Node Or m n)
    right p = go (same_tree m no) refl ∙ sym (ap (λ k. cond (same_tree m no) k (cond (same_tree k no) m yes)) p)
      where
        go : (b : Bool) → same_tree m no ≡ b → m ≡ cond b no m
        go true f = same_tree_exact m no f
        go false f = refl

    neither : n ≡ yes → yes ≡ shorter (Node Or m n)
    neither p = same_results (same_tree m no) yes ∙ sym (ap (λ k. cond (same_tree m no) k (cond (same_tree k no) m yes)) p)

    left : m ≡ yes → yes ≡ shorter (Node Or m n)
    left p = same_results (same_tree n no) yes ∙ sym (ap (λ k. cond (same_tree k no) n (cond (same_tree n no) k yes)) p)

of_double_shorter : (m r : Tree) → is_among (of_double m) r ≡ true → r ≡ opposite m
unfolding same_tree
of_double_shorter (Node Not a b) r e = one_of a r [] e (λ q. q) none_more
of_double_shorter m r e = absurd (both_ways _ refl e)

of_not_shorter : (m e r : Tree) → is_phrase Nil e ≡ true → is_among (of_not m) r ≡ true → nat_lt (size r) (size (Node Not m e)) ≡ true → r ≡ opposite m
unfolding same_tree
of_not_shorter m e r p f l =
    one_of (Node Eq m no) r _ f
    (λ q. absurd (denied m (subst (λ k. nat_lt (size k) (size (Node Not m Empty)) ≡ true) q (subst (λ k. nat_lt (size r) (size (Node Not m k)) ≡ true) (nothing e p) l))))
    (λ g. of_same m yes no r _ g (λ q o. o ∙ sym (ap opposite q)) (λ i. of_same m no yes r _ i (λ q o. o ∙ sym (ap opposite q)) (of_double_shorter m r)))

sides_shorter : (t r : Tree) → is_phrase Term t ≡ true → is_among (of_sides t) r ≡ true → nat_lt (size r) (size t) ≡ true → r ≡ shorter t
unfolding is_phrase
sides_shorter (Node Eq m n) r p e l = of_equality_shorter m n r e l
sides_shorter (Node And m n) r p e l = of_and_shorter m n r e
sides_shorter (Node Or m n) r p e l = of_or_shorter m n r e
sides_shorter (Node Not m k) r p e l = of_not_shorter m k r (and_parts (is_phrase Term m) (is_phrase Nil k) p).1 e l
sides_shorter t r p e l = absurd (both_ways _ refl e)

pub is_shorter : (s : Scene) (t r : Tree) → is_phrase Term t ≡ true → is_among (by_truths s t) r ≡ true → nat_lt (size r) (size t) ≡ true → r ≡ shorter t
is_shorter s t r p e l = go (is_of_type s 0 t) e
  where
    go : (b : Bool) → is_among (when b (Node Eq t yes) ++ of_sides t) r ≡ true → r ≡ shorter t
    go true e = one_of (Node Eq t yes) r (of_sides t) e (λ q. absurd (affirmed t (subst (λ k. nat_lt (size k) (size t) ≡ true) q l))) (λ f. sides_shorter t r p f l)
    go false e = sides_shorter t r p e l
