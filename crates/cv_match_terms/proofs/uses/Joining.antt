-- Tallies of variables, joined, and the table that has them.
use Rattle.std.proofs.Common.{◌≡◌, ℕ, zero, suc, ◌+◌, ◌<◌, ◌^◌, Bool, true, false, List, [], ◌∷◌, ◌++◌, length, get_or, set, refl, ap, ap₂, sym, ◌∙◌, arith, eqb-true, eq-eqb, Result, Ok, Err, OnOk}
use Rattle.std.specs.declared.alloc.AllocError.{AllocError}
use Rattle.std.specs.Prelude.{if◌then◌else◌, ◌==◌, ◌||◌}
use Rattle.std.proofs.lemmas.List.{get_or_default, get_or-set_other, get_or-set_same}
use Rattle.cv_syntax_trees.proofs.lists.Tests.{equals_comm, equals_refl}
use Rattle.cv_syntax_trees.specs.declared.head.Head.{Head}
use Rattle.cv_syntax_trees.specs.declared.head.Head.TheVariants.{Binder, Branch, Call, In, Key, Leaf, Let, New, Read}
use Rattle.cv_syntax_trees.specs.Tree.{Tree, Empty, Node, second}
use Rattle.cv_scope_rules.specs.Made.{is_bound}
use Rattle.cv_match_terms.specs.declared.uses.entry.Entry.{Entry}
use Rattle.cv_match_terms.specs.uses.Tallies.{Draw, One, Other, Tally, Zero, bound_here, defined_here, entry_at, join, nothing, only, plus, tally, tally_at, tally_in, used_here}

pub join_zero : (d : Draw) → join d Zero ≡ d
join_zero Zero = refl
join_zero (One T rs) = refl
join_zero Other = refl

pub join_assoc : (a b c : Draw) → join (join a b) c ≡ join a (join b c)
join_assoc Zero b c = refl
join_assoc (One T rs) Zero c = refl
join_assoc (One T rs) (One U qs) Zero = refl
join_assoc (One T rs) (One U qs) (One V ps) = refl
join_assoc (One T rs) (One U qs) Other = refl
join_assoc (One T rs) Other c = refl
join_assoc Other b c = refl

pub join_other : (d : Draw) → join d Other ≡ Other
join_other Zero = refl
join_other (One T rs) = refl
join_other Other = refl

pub plus_nothing : (s : Tally) → plus s (tally 0 Zero) ≡ s
plus_nothing s = ap₂ tally (omega arith) (join_zero s.draw)

pub nothing_plus : (s : Tally) → plus (tally 0 Zero) s ≡ s
nothing_plus s = ap (λ n. tally n s.draw) (omega arith)

pub plus_assoc : (r s t : Tally) → plus (plus r s) t ≡ plus r (plus s t)
plus_assoc r s t = ap₂ tally (omega arith) (join_assoc r.draw s.draw t.draw)

pub ruleset joining = (join_zero, join_other)

-- an entry for a name further on
pub entry_added : (es : List Entry) (y : ℕ) → entry_at (es ++ nothing ∷ []) y ≡ entry_at es y
entry_added [] zero = refl
entry_added [] (suc y) = refl
entry_added (e ∷ es) zero = refl
entry_added (e ∷ es) (suc y) = entry_added es y

pub ruleset reaching = (entry_added)

-- a table that is written, for one name
pub written : (old mid new : List Entry) (x : ℕ) (e f : Entry) (t : Tally) → x < length mid → ((y : ℕ) → entry_at mid y ≡ entry_at old y) → new ≡ set mid x e → f ≡ get_or mid x f → tally_in e ≡ plus (tally_in f) t → (y : ℕ) → tally_at new y ≡ plus (tally_at old y) (only x t y)
written old mid new x e f t l same w g h y = ap (λ es. tally_at es y) w ∙ cases (x == y) refl
  where
    at : f ≡ entry_at old x
    at = g ∙ (get_or_default mid x f nothing l ∙ same x)

    cases : (c : Bool) → (x == y) ≡ c → tally_at (set mid x e) y ≡ plus (tally_at old y) (if c then t else tally 0 Zero)
    cases true i =
        ap (tally_at (set mid x e)) (sym (eqb-true x y i))
        ∙ (ap tally_in (get_or-set_same mid x e nothing l)
        ∙ (h ∙ (ap (λ d. plus (tally_in d) t) at ∙ ap (λ z. plus (tally_at old z) t) (eqb-true x y i))))
    cases false i =
        ap tally_in (get_or-set_other mid x y e nothing (λ j. let k = eq-eqb x y (sym j) in absurd (cc)) ∙ same y) ∙ sym (plus_nothing (tally_at old y))

-- a node's use

pub used_leaf : (x y : ℕ) (h : Head) → h ≡ Leaf x → only x (tally 1 Zero) y ≡ used_here y h
used_leaf x y h e = by_test (x == y) ∙ ap (used_here y) (sym e)
  where
    by_test : (b : Bool) → (if b then tally 1 Zero else tally 0 Zero) ≡ tally (if b then 1 else 0) Zero
    by_test true = refl
    by_test false = refl

pub used_read : (x y : ℕ) (h : Head) → h ≡ Read x → only x (tally 1 Zero) y ≡ used_here y h
used_read x y h e = used_leaf x y (Leaf x) refl ∙ ap (used_here y) (sym e)

pub used_nothing : (y : ℕ) (h : Head) → ((x : ℕ) → h ≡ Leaf x → ⊥) → ((x : ℕ) → h ≡ Read x → ⊥) → tally 0 Zero ≡ used_here y h
used_nothing y (Leaf x) l r = absurd (l x refl)
used_nothing y (Read x) l r = absurd (r x refl)
used_nothing y h l r = refl

pub room_leaf : (x n : ℕ) (h : Head) → h ≡ Leaf x → n + (used_here x h).uses < 2 ^ 32 → n + 1 < 2 ^ 32
room_leaf x n h e r =
    let one : (used_here x h).uses ≡ 1 = ap (λ k. (used_here x k).uses) e ∙ ap (λ b. if b then 1 else 0) (equals_refl x) in
    omega (arith, one, r)

pub room_read : (x n : ℕ) (h : Head) → h ≡ Read x → n + (used_here x h).uses < 2 ^ 32 → n + 1 < 2 ^ 32
room_read x n h e r =
    let one : (used_here x h).uses ≡ 1 = ap (λ k. (used_here x k).uses) e ∙ ap (λ b. if b then 1 else 0) (equals_refl x) in
    omega (arith, one, r)

-- a node's definitions

only_drawn : (x y : ℕ) (d : Draw) → only x (tally 0 d) y ≡ tally 0 (if y == x then d else Zero)
only_drawn x y d = by_test (x == y) ∙ ap (λ b. tally 0 (if b then d else Zero)) (equals_comm x y)
  where
    by_test : (b : Bool) → (if b then tally 0 d else tally 0 Zero) ≡ tally 0 (if b then d else Zero)
    by_test true = refl
    by_test false = refl

module _ (rs : List (ℕ × ℕ)) (y : ℕ) (h : Head) (a : Tree) where
  pub defined_new : (x T : ℕ) → h ≡ New x T → only x (tally 0 (One T rs)) y ≡ defined_here rs y h a
  defined_new x T e = only_drawn x y (One T rs) ∙ ap (λ k. defined_here rs y k a) (sym e)

  pub defined_let : (x T : ℕ) → h ≡ Let x T → only x (tally 0 Other) y ≡ defined_here rs y h a
  defined_let x T e = only_drawn x y Other ∙ ap (λ k. defined_here rs y k a) (sym e)

  pub defined_key : (x : ℕ) → h ≡ Key x → only x (tally 0 Other) y ≡ defined_here rs y h a
  defined_key x e = only_drawn x y Other ∙ ap (λ k. defined_here rs y k a) (sym e)

  pub defined_call : (x l : ℕ) → h ≡ Call x l → only x (tally 0 Other) y ≡ defined_here rs y h a
  defined_call x l e = only_drawn x y Other ∙ ap (λ k. defined_here rs y k a) (sym e)

  pub defined_input : (c : ℕ) (u : Tree) → h ≡ In c → u ≡ second a → bound_here y u ≡ defined_here rs y h a
  defined_input c u e f = ap (bound_here y) f ∙ ap (λ k. defined_here rs y k a) (sym e)

  pub defined_branch : h ≡ Branch → bound_here y a ≡ defined_here rs y h a
  defined_branch e = ap (λ k. defined_here rs y k a) (sym e)

pub defined_nothing : (rs : List (ℕ × ℕ)) (y : ℕ) (h : Head) (a : Tree) → ((x T : ℕ) → h ≡ New x T → ⊥) → ((x T : ℕ) → h ≡ Let x T → ⊥) → ((x : ℕ) → h ≡ Key x → ⊥) → ((x l : ℕ) → h ≡ Call x l → ⊥) → ((c : ℕ) → h ≡ In c → ⊥) → (h ≡ Branch → ⊥) → tally 0 Zero ≡ defined_here rs y h a
defined_nothing rs y (New x T) a n l k c i b = absurd (n x T refl)
defined_nothing rs y (Let x T) a n l k c i b = absurd (l x T refl)
defined_nothing rs y (Key x) a n l k c i b = absurd (k x refl)
defined_nothing rs y (Call x m) a n l k c i b = absurd (c x m refl)
defined_nothing rs y (In d) a n l k c i b = absurd (i d refl)
defined_nothing rs y Branch a n l k c i b = absurd (b refl)
defined_nothing rs y h a n l k c i b = refl

-- lists of binders

module _ (y : ℕ) (t : Tree) where
  pub bound_end : t ≡ Empty → tally 0 Zero ≡ bound_here y t
  unfolding is_bound
  bound_end e = sym (ap (bound_here y) e)

  module _ (h : Head) (a b : Tree) (e : t ≡ Node h a b) where
    pub bound_other : ((x T : ℕ) → h ≡ Binder x T → ⊥) → tally 0 Zero ≡ bound_here y t
    unfolding is_bound
    bound_other n = step h n ∙ sym (ap (bound_here y) e)
      where
        step : (h : Head) → ((x T : ℕ) → h ≡ Binder x T → ⊥) → tally 0 Zero ≡ bound_here y (Node h a b)
        step (Binder x T) n = absurd (n x T refl)
        step h n = refl

    pub bound_more : (x T : ℕ) → h ≡ Binder x T → (s r : Tally) → r ≡ plus s (only x (tally 0 Other) y) → plus r (bound_here y b) ≡ plus s (bound_here y t)
    unfolding is_bound
    bound_more x T f s r i =
        ap (λ u. plus u (bound_here y b)) (i ∙ ap (plus s) (only_drawn x y Other))
        ∙ (plus_assoc s (tally 0 (if y == x then Other else Zero)) (bound_here y b)
        ∙ ap (plus s) (either (y == x) (is_bound b y) ∙ sym (ap (bound_here y) (e ∙ ap (λ k. Node k a b) f))))
      where
        either : (p q : Bool) → plus (tally 0 (if p then Other else Zero)) (tally 0 (if q then Other else Zero)) ≡ tally 0 (if p || q then Other else Zero)
        either true q = refl
        either false q = refl
