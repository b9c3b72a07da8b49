-- Bodies of a construct have what its parts have; where none differs from the first, the construct has one body.
use Rattle.std.proofs.Common.{◌≡◌, ℕ, ◌==◌, Bool, true, false, cond, List, [], ◌∷◌, ◌++◌, Some, None, refl, sym, subst, eq-eqb}
use Rattle.std.proofs.lemmas.Bool.{and_from, and_parts, both_ways, or_left, or_right}
use Rattle.std.specs.List.{AllByRecursion}
use Rattle.cv_syntax_trees.specs.declared.head.Head.{Head}
use Rattle.cv_syntax_trees.specs.declared.head.Head.TheVariants.{Binder, Branch, Cons, Find, If}
use Rattle.cv_syntax_trees.specs.Tree.{Tree, Empty, Node, first, first_place, same_tree, second, second_place}
use Rattle.cv_syntax_trees.proofs.Equality.{same_tree_exact}
use Rattle.cv_meaning.specs.Replaced.{is_output}
use Rattle.cv_meaning_chances.specs.thinning.Thinning.{HasBody, binds_only}
use Rattle.cv_scope_rules.specs.Made.{is_bound, is_own_of}
use Rattle.cv_scope_rules.specs.Phrases.{Arm, Binders, Branches, Nil, is_phrase}
use Rattle.cv_steps.proofs.Flat.{guarded_of, guards_of}
use Rattle.cv_rule_move.specs.merge.Merging.{Body, bodies, branch_bodies, first_other}
use Rattle.cv_syntax_trees.proofs.lists.Each.{AllByRecursion_parts, AllByRecursion_append}

-- what a tree's parts have as it has

module _ (P : Tree → Type 0) (empty : P Empty) (parts : (h : Head) (a b : Tree) → P (Node h a b) → P a × P b) where
  first_has : (t : Tree) → P t → P (first t)
  first_has Empty k = k
  first_has (Node h a b) k = (parts h a b k).0

  second_has : (t : Tree) → P t → P (second t)
  second_has Empty k = k
  second_has (Node h a b) k = (parts h a b k).1

  branches_have : (p : ℕ) (t : Tree) → P t → AllByRecursion (λ (b : Body). P b.process) (branch_bodies p t)
  branches_have p (Node Cons (Node Branch us rest) more) k =
      let q = parts Cons (Node Branch us rest) more k in
      let r = (parts Branch us rest q.0).1 in
      (second_has (second rest) (second_has rest r), branches_have (second_place p Cons (Node Branch us rest)) more q.1)
  branches_have p t k = tt

  pub bodies_have : (p : ℕ) (t : Tree) → P t → AllByRecursion (λ (b : Body). P b.process) (bodies p t)
  bodies_have p (Node If c rest) k =
      let r = (parts If c rest k).1 in
      (first_has rest r, (first_has (second rest) (second_has rest r), tt))
  bodies_have p (Node (Find l) branches otherwise) k =
      let q = parts (Find l) branches otherwise k in
      AllByRecursion_append (λ (b : Body). P b.process) (branch_bodies (first_place p (Find l)) branches) _ (branches_have (first_place p (Find l)) branches q.0) (q.1, tt)
  bodies_have p t k = tt

  -- so has the first body
  pub first_body_has : (p : ℕ) (t : Tree) (b : Body) (others : List Body) → bodies p t ≡ b ∷ others → P t → P b.process
  first_body_has p t b others e k = (subst (AllByRecursion (λ (c : Body). P c.process)) e (bodies_have p t k)).0

-- only output processes have bodies
pub bodies_output : (p : ℕ) (t : Tree) (b : Body) (others : List Body) → bodies p t ≡ b ∷ others → is_output t ≡ true
bodies_output p (Node If c rest) b others e = refl
bodies_output p (Node (Find l) branches otherwise) b others e = refl
bodies_output p t b others e = absurd (cc)

-- equal bodies

abbrev AllAre : Tree → List Body → Type 0
AllAre x bs = AllByRecursion (λ (b : Body). x ≡ b.process) bs

none_other : (x : Tree) (bs : List Body) → first_other x bs ≡ None → AllAre x bs
none_other x [] e = tt
none_other x (b ∷ bs) e = go (same_tree x b.process) refl e (none_other x bs)
  where
    go : (v : Bool) → same_tree x b.process ≡ v → cond v (first_other x bs) (Some b.place) ≡ None → (first_other x bs ≡ None → AllAre x bs) → AllAre x (b ∷ bs)
    go true f e k = (same_tree_exact x b.process f, k e)
    go false f e k = absurd (cc)

-- all bodies are the first one
pub all_are : (p : ℕ) (t : Tree) (b : Body) (others : List Body) → bodies p t ≡ b ∷ others → first_other b.process others ≡ None → AllAre b.process (bodies p t)
all_are p t b others e n = subst (AllAre b.process) (sym e) (refl, none_other b.process others n)

-- binders bind their own variables alone
own_binders : (xs : ℕ → Bool) (us : Tree) → is_phrase Binders us ≡ true → ((y : ℕ) → is_bound us y ≡ true → xs y ≡ true) → binds_only xs us ≡ true
unfolding is_phrase is_bound
own_binders xs Empty e k = refl
own_binders xs (Node (Binder x T) a b) e k =
    let p = and_parts (is_phrase Nil a) _ e in
    and_from (xs x) (binds_only xs b) (k x (or_left (x == x) (is_bound b x) (eq-eqb x x refl))) (own_binders xs b p.1 (λ y f. k y (or_right (y == x) (is_bound b y) f)))
own_binders xs (Node h a b) e k = absurd (both_ways false refl e)

-- branches whose bodies are all this one
branches_one : (xs : ℕ → Bool) (x : Tree) (p : ℕ) (t : Tree) → is_phrase Branches t ≡ true → ((y : ℕ) → is_own_of t y ≡ true → xs y ≡ true) → AllAre x (branch_bodies p t) → HasBody xs x t
unfolding is_phrase
branches_one xs x p Empty e k a = tt
branches_one xs x p (Node Cons (Node Branch us (Node Cons cells (Node Cons c body))) more) e k a =
    let q = and_parts (is_phrase Arm (Node Branch us (Node Cons cells (Node Cons c body)))) _ e in
    let r = and_parts (is_phrase Binders us) _ q.0 in (
      own_binders xs us r.0 (λ y f. k y (or_left (is_bound us y) (is_own_of more y) f)),
      sym a.0,
      branches_one xs x (second_place p Cons (Node Branch us (Node Cons cells (Node Cons c body)))) more q.1 (λ y f. k y (or_right (is_bound us y) (is_own_of more y) f)) a.1,
    )
branches_one xs x p (Node Cons (Node Branch us (Node Cons cells rest)) more) e k a = absurd (both_ways false refl (guarded_of us cells rest more e))
branches_one xs x p (Node Cons (Node Branch us rest) more) e k a = absurd (both_ways false refl (guards_of us rest more e))
branches_one xs x p t e k a = absurd (both_ways false refl e)

-- of a `find` with one body the `else` is it, and so is each branch's
pub find_one : (xs : ℕ → Bool) (x : Tree) (p l : ℕ) (branches otherwise : Tree) → is_phrase Branches branches ≡ true → ((y : ℕ) → is_own_of branches y ≡ true → xs y ≡ true) → AllAre x (bodies p (Node (Find l) branches otherwise)) → (x ≡ otherwise) × HasBody xs x branches
find_one xs x p l branches otherwise e k a =
    let r = AllByRecursion_parts (λ (b : Body). x ≡ b.process) (branch_bodies (first_place p (Find l)) branches) _ a in
    (r.1.0, branches_one xs x (first_place p (Find l)) branches e k r.0)
