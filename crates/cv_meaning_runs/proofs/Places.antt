-- A subtree that is replaced by its place.
use Rattle.std.proofs.Common.{◌≡◌, ℕ, ◌+◌, ◌-◌, ◌<◌, ◌≤◌, Bool, true, false, cond, Some, refl, sym, ap, ap₂, subst, ◌∙◌, arith, nat_lt, ltb, ltb-true, ltb-false, le-ltb, lt-ltb}
use Rattle.std.proofs.lemmas.Bool.{both_ways}
use Rattle.cv_syntax_trees.specs.declared.head.Head.{Head}
use Rattle.cv_syntax_trees.specs.declared.head.Head.TheVariants.{Par, Find, Branch, Cons, Binder, Name, Number, Forall, Query, Occurs, OccursOnce, Secret, SecretOnce, Equivalence, Bound, Single, Oracle}
use Rattle.cv_syntax_trees.specs.Head.{weight}
use Rattle.cv_syntax_trees.specs.Tree.{Tree, Empty, Node, size, subtree, second_place}
use Rattle.cv_meaning_runs.specs.Replacement.{Part, Process, Branches, IsReplaced, here, in_continuation, in_parallel, in_list, in_find, in_branch, in_later_branch, in_first, before_body, may_come}
use Rattle.cv_meaning.specs.Replaced.{replaced}
use Rattle.cv_syntax.proofs.Walking.{weight_le}

subtree_second : (h : Head) (a b : Tree) (p q : ℕ) → weight h + size a + q ≡ p → subtree (Node h a b) p ≡ subtree b q
unfolding subtree
subtree_second h a b p q e =
    ap₂ (λ v w. cond v (Some (Node h a b)) (cond w (subtree a (p - weight h)) (subtree b (p - (weight h + size a))))) (le-ltb p (weight h) (omega arith)) (le-ltb p (weight h + size a) (omega arith))
    ∙ ap (subtree b) (omega arith)

subtree_first : (h : Head) (a b : Tree) (p q : ℕ) → weight h + q ≡ p → q < size a → subtree (Node h a b) p ≡ subtree a q
unfolding subtree
subtree_first h a b p q e l =
    ap₂ (λ v w. cond v (Some (Node h a b)) (cond w (subtree a (p - weight h)) (subtree b (p - (weight h + size a))))) (le-ltb p (weight h) (omega arith)) (lt-ltb p (weight h + size a) (omega arith))
    ∙ ap (subtree a) (omega arith)

replaced_second : (h : Head) (a b new : Tree) (p q : ℕ) → weight h + size a + q ≡ p → Node h a (replaced b q new) ≡ replaced (Node h a b) p new
unfolding replaced
replaced_second h a b new p q e =
    ap (λ n. Node h a (replaced b n new)) (omega arith)
    ∙ sym (ap₂ (λ v w. cond v new (cond w (Node h (replaced a (p - weight h) new) b) (Node h a (replaced b (p - (weight h + size a)) new)))) (le-ltb p (weight h) (omega arith)) (le-ltb p (weight h + size a) (omega arith)))

replaced_first : (h : Head) (a b new : Tree) (p q : ℕ) → weight h + q ≡ p → q < size a → Node h (replaced a q new) b ≡ replaced (Node h a b) p new
unfolding replaced
replaced_first h a b new p q e l =
    ap (λ n. Node h (replaced a n new) b) (omega arith)
    ∙ sym (ap₂ (λ v w. cond v new (cond w (Node h (replaced a (p - weight h) new) b) (Node h a (replaced b (p - (weight h + size a)) new)))) (le-ltb p (weight h) (omega arith)) (lt-ltb p (weight h + size a) (omega arith)))

module _ (old new : Tree) where
  -- the tree stands at r, and the old subtree at p in it
  abbrev IsReplacedAt : ℕ → Part → ℕ → Tree → ℕ → Type 0
  IsReplacedAt place part r t p = r + p ≡ place → may_come part t p ≡ true → subtree t p ≡ Some old → IsReplaced old new place part r t (replaced t p new)

  replaced_here : (place r : ℕ) (h : Head) (a b : Tree) (p : ℕ) → p < weight h → r + p ≡ place → subtree (Node h a b) p ≡ Some old → IsReplaced old new place Process r (Node h a b) (replaced (Node h a b) p new)
  unfolding subtree replaced
  replaced_here place r h a b p l f e =
      let q : Node h a b ≡ old = let z : Some (Node h a b) ≡ Some old = sym (ap (λ v. cond v (Some (Node h a b)) (cond (nat_lt p (weight h + size a)) (subtree a (p - weight h)) (subtree b (p - (weight h + size a))))) (lt-ltb p (weight h) l)) ∙ e in cc in
      let n : new ≡ replaced (Node h a b) p new = sym (ap (λ v. cond v new (cond (nat_lt p (weight h + size a)) (Node h (replaced a (p - weight h) new) b) (Node h a (replaced b (p - (weight h + size a)) new)))) (lt-ltb p (weight h) l)) in
      let w : weight h ≤ 1 = weight_le h in
      let d : place ≡ r = omega arith in
      subst (λ x. IsReplaced old new place Process x (Node h a b) (replaced (Node h a b) p new)) d
      (subst (λ t. IsReplaced old new place Process place t (replaced (Node h a b) p new)) (sym q)
      (subst (IsReplaced old new place Process place old) n here))

  replaced_in_first : (place r : ℕ) (h : Head) (a b : Tree) (q : ℕ) → r + weight h + q ≡ place → IsReplacedAt place Process (r + weight h) a q → IsReplacedAt place Branches (r + weight h) a q → in_first h (may_come Process a q) (may_come Branches a q) ≡ true → subtree a q ≡ Some old → IsReplaced old new place Process r (Node h a b) (Node h (replaced a q new) b)
  replaced_in_first place r Par a b q d f k e s = in_parallel (f d e s)
  replaced_in_first place r Cons a b q d f k e s = in_list (f d e s)
  replaced_in_first place r (Find l) a b q d f k e s = in_find (k d e s)
  replaced_in_first place r h a b q d f k e s = absurd (both_ways _ refl e)

  replaced_at : (place : ℕ) (part : Part) (r : ℕ) (t : Tree) (p : ℕ) → IsReplacedAt place part r t p
  unfolding may_come size
  replaced_at place Process r Empty p d m e = absurd (both_ways _ refl m)
  replaced_at place Process r (Node h a b) p d m e =
      go (nat_lt p (weight h)) (nat_lt p (weight h + size a)) refl refl (replaced_at place Process (r + weight h) a (p - weight h)) (replaced_at place Branches (r + weight h) a (p - weight h)) (replaced_at place Process (r + weight h + size a) b (p - (weight h + size a))) m
    where
      go : (v w : Bool) → ltb p (weight h) ≡ v → ltb p (weight h + size a) ≡ w → IsReplacedAt place Process (r + weight h) a (p - weight h) → IsReplacedAt place Branches (r + weight h) a (p - weight h) → IsReplacedAt place Process (r + weight h + size a) b (p - (weight h + size a))
          → cond v true (cond w (in_first h (may_come Process a (p - weight h)) (may_come Branches a (p - weight h))) (may_come Process b (p - (weight h + size a)))) ≡ true
          → IsReplaced old new place Process r (Node h a b) (replaced (Node h a b) p new)
      go true w i j f k n m = replaced_here place r h a b p (ltb-true p (weight h) i) d e
      go false true i j f k n m =
          let x = ltb-false p (weight h) i in
          let y = ltb-true p (weight h + size a) j in
          subst (IsReplaced old new place Process r (Node h a b)) (replaced_first h a b new p (p - weight h) (omega arith) (omega arith))
          (replaced_in_first place r h a b (p - weight h) (omega arith) f k m (sym (subtree_first h a b p (p - weight h) (omega arith) (omega arith)) ∙ e))
      go false false i j f k n m =
          let x = ltb-false p (weight h + size a) j in
          subst (IsReplaced old new place Process r (Node h a b)) (replaced_second h a b new p (p - (weight h + size a)) (omega arith))
          (in_continuation (n (omega arith) m (sym (subtree_second h a b p (p - (weight h + size a)) (omega arith)) ∙ e)))
  replaced_at place Branches r (Node Cons (Node Branch binders (Node Cons defined (Node Cons condition b))) more) p d m e =
      go (nat_lt p before) (nat_lt p (before + size b)) refl refl (replaced_at place Process (r + before) b (p - before)) (replaced_at place Branches (r + 0 + (before + size b)) more (p - (before + size b))) m
    where
      before : ℕ
      before = before_body binders defined condition

      branch : Tree
      branch = Node Branch binders (Node Cons defined (Node Cons condition b))

      go : (v w : Bool) → ltb p before ≡ v → ltb p (before + size b) ≡ w → IsReplacedAt place Process (r + before) b (p - before) → IsReplacedAt place Branches (r + 0 + (before + size b)) more (p - (before + size b))
          → cond v false (cond w (may_come Process b (p - before)) (may_come Branches more (p - (before + size b)))) ≡ true
          → IsReplaced old new place Branches r (Node Cons branch more) (replaced (Node Cons branch more) p new)
      go true w i j f k m = absurd (both_ways _ refl m)
      go false true i j f k m =
          let x = ltb-false p before i in
          let y = ltb-true p (before + size b) j in
          let q : ℕ = p - before in
          let in_condition : ℕ = size condition + q in
          let in_defined : ℕ = size defined + in_condition in
          subst (IsReplaced old new place Branches r (Node Cons branch more))
          (ap (λ z. Node Cons (Node Branch binders (Node Cons defined z)) more) (replaced_second Cons condition b new in_condition q (omega arith))
          ∙ ap (λ z. Node Cons (Node Branch binders z) more) (replaced_second Cons defined (Node Cons condition b) new in_defined in_condition (omega arith))
          ∙ ap (λ z. Node Cons z more) (replaced_second Branch binders (Node Cons defined (Node Cons condition b)) new p in_defined (omega arith))
          ∙ replaced_first Cons branch more new p p (omega arith) (omega arith))
          (in_branch (f (omega arith) m (
          sym (subtree_second Cons condition b in_condition q (omega arith))
          ∙ sym (subtree_second Cons defined (Node Cons condition b) in_defined in_condition (omega arith))
          ∙ sym (subtree_second Branch binders (Node Cons defined (Node Cons condition b)) p in_defined (omega arith))
          ∙ sym (subtree_first Cons branch more p p (omega arith) (omega arith))
          ∙ e)))
      go false false i j f k m =
          let x = ltb-false p (before + size b) j in
          let same : r + 0 + (before + size b) ≡ second_place r Cons branch = omega arith in
          subst (IsReplaced old new place Branches r (Node Cons branch more)) (replaced_second Cons branch more new p (p - (before + size b)) (omega arith))
          (in_later_branch (subst (λ n. IsReplaced old new place Branches n more (replaced more (p - (before + size b)) new)) same (k (omega arith) m (sym (subtree_second Cons branch more p (p - (before + size b)) (omega arith)) ∙ e))))
  replaced_at place Branches r t p d m e = absurd (both_ways _ refl m)

pub replaced_where : (old new game : Tree) (p : ℕ) → may_come Process game p ≡ true → subtree game p ≡ Some old → IsReplaced old new p Process 0 game (replaced game p new)
replaced_where old new game p m e = replaced_at old new p Process 0 game p (omega arith) m e
