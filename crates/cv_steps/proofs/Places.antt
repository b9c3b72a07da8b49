-- Where a term stands in a phrase, and the phrase with another term there.
use Rattle.std.proofs.Common.{◌≡◌, ℕ, ◌+◌, ◌-◌, ◌<◌, ◌≤◌, Bool, true, false, cond, Some, refl, sym, ap, subst, ◌∙◌, arith, nat_lt, ltb-true, ltb-false}
use Rattle.std.proofs.lemmas.Bool.{both_ways}
use Rattle.cv_syntax_trees.specs.declared.head.Head.{Head}
use Rattle.cv_syntax_trees.specs.declared.head.Head.TheVariants.{Branch, Binder, Cons, Leaf, Name, Read}
use Rattle.cv_syntax_trees.specs.Head.{weight}
use Rattle.cv_syntax_trees.specs.Tree.{Tree, Empty, Node, size, subtree}
use Rattle.cv_meaning_runs.specs.Replacement.{before_body}
use Rattle.cv_meaning.specs.Replaced.{replaced}
use Rattle.cv_scope_rules.specs.Phrases.{Phrase, Nil, Body, Branches, Arm, Guards, Guarded, Pattern, Indices, Binders, Cells, OneCell, Term}
use Rattle.cv_scene.specs.Scenes.{or_empty, part_at}
use Rattle.cv_steps.specs.Rewriting.{has_term_at, is_term, parts_of}

-- at the node itself, or in one of its children

pub record IsHere (m : Tree) (σ : Phrase) (h : Head) (a b : Tree) (q : ℕ) : Type 0 where
  pub term : is_term σ ≡ true
  pub part : part_at (Node h a b) q ≡ Node h a b
  pub next : replaced (Node h a b) q m ≡ m

pub record IsInFirst (m : Tree) (σ : Phrase) (h : Head) (a b : Tree) (q : ℕ) : Type 0 where
  pub least : weight h ≤ q
  pub below : q < weight h + size a
  pub term : has_term_at (parts_of σ h).0 a (q - weight h) ≡ true
  pub part : part_at (Node h a b) q ≡ part_at a (q - weight h)
  pub next : replaced (Node h a b) q m ≡ Node h (replaced a (q - weight h) m) b

pub record IsInSecond (m : Tree) (σ : Phrase) (h : Head) (a b : Tree) (q : ℕ) : Type 0 where
  pub least : weight h + size a ≤ q
  pub term : has_term_at (parts_of σ h).1 b (q - (weight h + size a)) ≡ true
  pub part : part_at (Node h a b) q ≡ part_at b (q - (weight h + size a))
  pub next : replaced (Node h a b) q m ≡ Node h a (replaced b (q - (weight h + size a)) m)

pub data Found (m : Tree) (σ : Phrase) (h : Head) (a b : Tree) (q : ℕ) : Type 0 where
  here : IsHere m σ h a b q → Found m σ h a b q
  in_first : IsInFirst m σ h a b q → Found m σ h a b q
  in_second : IsInSecond m σ h a b q → Found m σ h a b q

pub found : (m : Tree) (σ : Phrase) (h : Head) (a b : Tree) (q : ℕ) → has_term_at σ (Node h a b) q ≡ true → Found m σ h a b q
unfolding has_term_at subtree replaced
found m σ h a b q e = go (nat_lt q (weight h)) refl (nat_lt q (weight h + size a)) refl e
  where
    part : (v w : Bool) → Tree
    part v w = or_empty (cond v (Some (Node h a b)) (cond w (subtree a (q - weight h)) (subtree b (q - (weight h + size a)))))

    next : (v w : Bool) → Tree
    next v w = cond v m (cond w (Node h (replaced a (q - weight h) m) b) (Node h a (replaced b (q - (weight h + size a)) m)))

    go : (v : Bool) → nat_lt q (weight h) ≡ v → (w : Bool) → nat_lt q (weight h + size a) ≡ w
        → cond v (is_term σ) (cond w (has_term_at (parts_of σ h).0 a (q - weight h)) (has_term_at (parts_of σ h).1 b (q - (weight h + size a)))) ≡ true → Found m σ h a b q
    go true f w g e = here (record { term = e; part = ap (λ v. part v (nat_lt q (weight h + size a))) f; next = ap (λ v. next v (nat_lt q (weight h + size a))) f })
    go false f true g e = in_first (record { least = ltb-false q (weight h) f; below = ltb-true q (weight h + size a) g; term = e; part = λ i. part (f i) (g i); next = λ i. next (f i) (g i) })
    go false f false g e = in_second (record { least = ltb-false q (weight h + size a) g; term = e; part = λ i. part (f i) (g i); next = λ i. next (f i) (g i) })

-- a node of a phrase that is no term, child by child
pub by_child : (m : Tree) (σ : Phrase) (h : Head) (a b : Tree) (q : ℕ) (P : Tree → Type 0) → is_term σ ≡ false
    → (IsInFirst m σ h a b q → P (Node h (replaced a (q - weight h) m) b)) → (IsInSecond m σ h a b q → P (Node h a (replaced b (q - (weight h + size a)) m)))
    → has_term_at σ (Node h a b) q ≡ true → P (replaced (Node h a b) q m)
by_child m σ h a b q P n k l e = go (found m σ h a b q e)
  where
    go : Found m σ h a b q → P (replaced (Node h a b) q m)
    go (here f) = absurd (both_ways _ n f.term)
    go (in_first f) = subst P (sym f.next) (k f)
    go (in_second f) = subst P (sym f.next) (l f)

pub nothing_there : (σ : Phrase) (q : ℕ) → has_term_at σ Empty q ≡ true → ⊥
unfolding has_term_at
nothing_there σ q e = both_ways false refl e

-- phrases without terms that may be rewritten

abbrev pub is_bare : Phrase → Bool
is_bare Nil = true
is_bare Pattern = true
is_bare Indices = true
is_bare Binders = true
is_bare Cells = true
is_bare OneCell = true
is_bare σ = false

pub record AreBare (q : Phrase × Phrase) : Type 0 where
  pub first : is_bare q.0 ≡ true
  pub second : is_bare q.1 ≡ true

pub parts_bare : (σ : Phrase) (h : Head) → is_bare σ ≡ true → AreBare (parts_of σ h)
parts_bare Nil (Read x) e = record { first = refl; second = refl }
parts_bare Nil h e = record { first = refl; second = refl }
parts_bare Pattern (Read x) e = record { first = refl; second = refl }
parts_bare Pattern Cons e = record { first = refl; second = refl }
parts_bare Pattern h e = record { first = refl; second = refl }
parts_bare Indices (Read x) e = record { first = refl; second = refl }
parts_bare Indices (Name i) e = record { first = refl; second = refl }
parts_bare Indices h e = record { first = refl; second = refl }
parts_bare Binders (Read x) e = record { first = refl; second = refl }
parts_bare Binders (Binder x T) e = record { first = refl; second = refl }
parts_bare Binders h e = record { first = refl; second = refl }
parts_bare Cells (Read x) e = record { first = refl; second = refl }
parts_bare Cells Cons e = record { first = refl; second = refl }
parts_bare Cells h e = record { first = refl; second = refl }
parts_bare OneCell (Read x) e = record { first = refl; second = refl }
parts_bare OneCell (Leaf x) e = record { first = refl; second = refl }
parts_bare OneCell h e = record { first = refl; second = refl }
parts_bare σ h e = absurd (both_ways false refl e)

pub bare_is_no_term : (σ : Phrase) → is_bare σ ≡ true → is_term σ ≡ false
bare_is_no_term Term e = absurd (both_ways false refl e)
bare_is_no_term σ e = refl

pub bare : (σ : Phrase) (t : Tree) (q : ℕ) → is_bare σ ≡ true → has_term_at σ t q ≡ true → ⊥
unfolding has_term_at
bare σ Empty q n e = both_ways false refl e
bare σ (Node h a b) q n e =
    let r = parts_bare σ h n in
    by_child Empty σ h a b q (λ t. ⊥) (bare_is_no_term σ n) (λ f. bare (parts_of σ h).0 a (q - weight h) r.first f.term) (λ f. bare (parts_of σ h).1 b (q - (weight h + size a)) r.second f.term) e

-- in a list of branches: in the condition or in the body of the first one, or in a later one

abbrev pub branches : (us cells c b more : Tree) → Tree
branches us cells c b more = Node Cons (Node Branch us (Node Cons cells (Node Cons c b))) more

pub record IsInCondition (m us cells c b more : Tree) (q k : ℕ) : Type 0 where
  pub place : q ≡ 1 + size us + size cells + k
  pub below : k < size c
  pub term : has_term_at Term c k ≡ true
  pub part : part_at (branches us cells c b more) q ≡ part_at c k
  pub next : replaced (branches us cells c b more) q m ≡ branches us cells (replaced c k m) b more

pub record IsInBody (m us cells c b more : Tree) (q k : ℕ) : Type 0 where
  pub place : q ≡ before_body us cells c + k
  pub term : has_term_at Body b k ≡ true
  pub part : part_at (branches us cells c b more) q ≡ part_at b k
  pub next : replaced (branches us cells c b more) q m ≡ branches us cells c (replaced b k m) more

pub record IsLater (m us cells c b more : Tree) (q k : ℕ) : Type 0 where
  pub place : q ≡ size (Node Branch us (Node Cons cells (Node Cons c b))) + k
  pub term : has_term_at Branches more k ≡ true
  pub part : part_at (branches us cells c b more) q ≡ part_at more k
  pub next : replaced (branches us cells c b more) q m ≡ branches us cells c b (replaced more k m)

pub data InBranches (m us cells c b more : Tree) (q : ℕ) : Type 0 where
  in_condition : (k : ℕ) → IsInCondition m us cells c b more q k → InBranches m us cells c b more q
  in_body : (k : ℕ) → IsInBody m us cells c b more q k → InBranches m us cells c b more q
  later : (k : ℕ) → IsLater m us cells c b more q k → InBranches m us cells c b more q

pub in_branches : (m us cells c b more : Tree) (q : ℕ) → has_term_at Branches (branches us cells c b more) q ≡ true → InBranches m us cells c b more q
unfolding size
in_branches m us cells c b more q e = at_list (found m Branches Cons arm more q e)
  where
    guarded : Tree
    guarded = Node Cons c b

    guards : Tree
    guards = Node Cons cells guarded

    arm : Tree
    arm = Node Branch us guards

    at_guarded : (x : IsInFirst m Branches Cons arm more q) (y : IsInSecond m Arm Branch us guards (q - 0)) (z : IsInSecond m Guards Cons cells guarded (q - 0 - (1 + size us)))
        → Found m Guarded Cons c b (q - 0 - (1 + size us) - (0 + size cells)) → InBranches m us cells c b more q
    at_guarded x y z (here f) = absurd (both_ways false refl f.term)
    at_guarded x y z (in_first f) =
        in_condition (q - 0 - (1 + size us) - (0 + size cells) - 0)
        (let l = y.least in let n = z.least in let o = f.below in
        record {
          place = omega arith;
          below = omega arith;
          term = f.term;
          part = x.part ∙ y.part ∙ z.part ∙ f.part;
          next = x.next ∙ (λ i. Node Cons ((y.next ∙ (λ j. Node Branch us ((z.next ∙ (λ k. Node Cons cells (f.next k))) j))) i) more);
        })
    at_guarded x y z (in_second f) =
        in_body (q - 0 - (1 + size us) - (0 + size cells) - (0 + size c))
        (let l = y.least in let n = z.least in let o = f.least in
        record {
          place = omega arith;
          term = f.term;
          part = x.part ∙ y.part ∙ z.part ∙ f.part;
          next = x.next ∙ (λ i. Node Cons ((y.next ∙ (λ j. Node Branch us ((z.next ∙ (λ k. Node Cons cells (f.next k))) j))) i) more);
        })

    at_guards : (x : IsInFirst m Branches Cons arm more q) (y : IsInSecond m Arm Branch us guards (q - 0)) → Found m Guards Cons cells guarded (q - 0 - (1 + size us)) → InBranches m us cells c b more q
    at_guards x y (here f) = absurd (both_ways false refl f.term)
    at_guards x y (in_first f) = absurd (bare Cells cells _ refl f.term)
    at_guards x y (in_second f) = at_guarded x y f (found m Guarded Cons c b _ f.term)

    at_arm : (x : IsInFirst m Branches Cons arm more q) → Found m Arm Branch us guards (q - 0) → InBranches m us cells c b more q
    at_arm x (here f) = absurd (both_ways false refl f.term)
    at_arm x (in_first f) = absurd (bare Binders us _ refl f.term)
    at_arm x (in_second f) = at_guards x f (found m Guards Cons cells guarded _ f.term)

    at_list : Found m Branches Cons arm more q → InBranches m us cells c b more q
    at_list (here f) = absurd (both_ways false refl f.term)
    at_list (in_first f) = at_arm f (found m Arm Branch us guards _ f.term)
    at_list (in_second f) = later (q - (0 + size arm)) (let l = f.least in record { place = omega arith; term = f.term; part = f.part; next = f.next })
