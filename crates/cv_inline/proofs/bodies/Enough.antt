-- The side's candidates lie among the tuples that the find of the next game tries, so more tuples add none.
use Rattle.std.proofs.Common.{◌≡◌, ℕ, zero, suc, ◌+◌, ◌-◌, ◌≤◌, ◌<◌, max, Bool, true, false, cond, if◌then◌else◌, ◌&&◌, ◌==◌, List, [], ◌∷◌, ◌++◌, ◌⊎◌, inl, inr, length, map, flat_map, refl, sym, ap, ap₂, subst, ◌∙◌, arith, nat_lt, lt-ltb, ltb-true}
use Rattle.std.proofs.Math.Nat.{le-max_left, le-max_right, max-le}
use Rattle.std.proofs.lemmas.Bool.{both_ways, and_parts}
use Rattle.std.specs.List.{AllByRecursion}
use Rattle.cv_syntax_trees.specs.declared.head.Head.TheVariants.{Cons, Branch, Binder}
use Rattle.cv_syntax_trees.specs.Tree.{Tree, Empty, Node, binders}
use Rattle.cv_meaning.specs.Side.{CallNumber}
use Rattle.cv_meaning.specs.Binders.{binder_count, widest_binder}
use Rattle.cv_meaning.specs.Candidates.{tuples_up_to, most_indices, widest}
use Rattle.cv_meaning.specs.contexts.Groups.{Group}
use Rattle.cv_meaning.specs.contexts.Sites.{Site, is_below, sites_at, most_bounds, greatest, greatest_bound}
use Rattle.cv_meaning.specs.contexts.Frames.{Frame, with_call}
use Rattle.cv_meaning.specs.contexts.Finds.{Oracles, Pick, has_bound, function_of_site, is_pick, pick, picks_at, picks}
use Rattle.cv_meaning.specs.contexts.Inlined.{Caller, Scope, index_terms, branch_indices, branch_for, with_call_of, expanded_at, expanded}
use Rattle.cv_inline.specs.bodies.Inlining.{Inlining}
use Rattle.cv_inline.specs.bodies.Accepted.{AreFineBranches}
use Rattle.cv_inline.specs.bodies.Related.{IsSiteOf, AreSitesOf}
use Rattle.cv_inline.proofs.bodies.Wider.{within, wider}

-- a list of branches of a body
unfoldable pub IsShaped : Tree → Type 0
IsShaped Empty = Unit {0}
IsShaped (Node Cons (Node Branch (Node (Binder u b) x y) (Node Cons cells (Node Cons m body))) more) = IsShaped more
IsShaped _ = ⊥

pub shaped : (p : Inlining) (ss : List Caller) (Σ : Scope) (q : ℕ) (s : Caller) (brs : Tree) (k r : ℕ) → AreFineBranches p ss Σ q s k r brs → IsShaped brs
unfolding IsShaped AreFineBranches
shaped p ss Σ q s Empty k r f = tt
shaped p ss Σ q s (Node Cons (Node Branch (Node (Binder u b) x y) (Node Cons cells (Node Cons m body))) more) k r f = shaped p ss Σ q s more (suc k) _ f.1
shaped p ss Σ q s _ k r f = absurd f

-- a tuple below bounds is within their number and the greatest of them
below_within : (w bs : List ℕ) (d n : ℕ) → is_below w bs ≡ true → length bs ≤ d → greatest bs ≤ n → within d n w ≡ true
below_within [] bs d n e l m = refl
below_within (v ∷ w) [] d n e l m = absurd (both_ways _ refl e)
below_within (v ∷ w) (b ∷ bs) zero n e l m = absurd (omega arith)
below_within (v ∷ w) (b ∷ bs) (suc d) n e l m =
    let z = and_parts (nat_lt v b) _ e in
    let i : v < b = ltb-true v b z.0 in
    let j : b ≤ max b (greatest bs) = le-max_left b (greatest bs) in
    let k : greatest bs ≤ max b (greatest bs) = le-max_right b (greatest bs) in
    ap₂ ◌&&◌ (lt-ltb v n (omega arith)) (below_within w bs d n z.1 (omega arith) (omega arith))

module _ (p : Inlining) (plain : ℕ → Bool) (group : Group) (sites : List Site) (name : ℕ → ℕ → ℕ → ℕ) (Σ : Scope) (inner : ℕ → Scope → Tree) (e : Frame) where
  abbrev o : Oracles
  o = record { setting = p.g; group = group; sites = sites }

  abbrev size : ℕ → ℕ
  size n = p.g.interpretation.parameter_value n

  abbrev bounds_of : Caller → List ℕ
  bounds_of s = map (λ (r : ℕ × ℕ). size r.1) s.replications

  count_is : (nm : ℕ → ℕ) (k : ℕ) (rs : List (ℕ × ℕ)) → binder_count (binders (branch_indices nm k rs)) ≡ length (map (λ (r : ℕ × ℕ). size r.1) rs)
  count_is nm k [] = refl
  count_is nm k (r ∷ rs) = ap suc (count_is nm (suc k) rs)

  widest_is : (nm : ℕ → ℕ) (k : ℕ) (rs : List (ℕ × ℕ)) → widest_binder size (binders (branch_indices nm k rs)) ≡ greatest (map (λ (r : ℕ × ℕ). size r.1) rs)
  widest_is nm k [] = refl
  widest_is nm k (r ∷ rs) = ap (λ z. max (size r.1) z) (widest_is nm (suc k) rs)

  -- a list of branches tries the tuples below these bounds
  record Tries (t : Tree) (bs : List ℕ) : Type 0 where
    pub lengths : length bs ≤ most_indices t
    pub greatest_of : greatest bs ≤ widest size t

  -- a list of branches goes no further than these bounds and another list
  record IsWithin (t : Tree) (bs : List ℕ) (rest : Tree) : Type 0 where
    pub rest_indices : most_indices rest ≤ most_indices t
    pub rest_widest : widest size rest ≤ widest size t
    pub indices : most_indices t ≤ max (length bs) (most_indices rest)
    pub widths : widest size t ≤ max (greatest bs) (widest size rest)

  module _ (s : Caller) (S : Site) (is : IsSiteOf p plain o s S) where
    abbrev Y : ℕ → Tree → Tree → Tree
    Y k brs rest = expanded_at p.d p.c Σ (name s.number) inner s k brs rest

    within_bounds : (brs : Tree) (k : ℕ) (rest : Tree) → IsShaped brs → IsWithin (Y k brs rest) (bounds_of s) rest
    unfolding IsShaped expanded_at
    within_bounds Empty k rest f =
        record { rest_indices = omega arith; rest_widest = omega arith; indices = le-max_right (length (bounds_of s)) (most_indices rest); widths = le-max_right (greatest (bounds_of s)) (widest size rest) }
    within_bounds (Node Cons (Node Branch (Node (Binder u b) x y) (Node Cons cells (Node Cons m body))) more) k rest f = go (s.bound == b) (within_bounds more (suc k) rest f)
      where
        br : Tree
        br = branch_for p.d p.c (with_call_of Σ u (index_terms p.c.replications) (name s.number k) s) (name s.number k) s cells m (inner k (with_call_of Σ u (index_terms p.c.replications) (name s.number k) s))

        tail : Tree
        tail = Y (suc k) more rest

        go : (v : Bool) → IsWithin (Y (suc k) more rest) (bounds_of s) rest → IsWithin (cond v (Node Cons br (Y (suc k) more rest)) (Y (suc k) more rest)) (bounds_of s) rest
        go false h = h
        go true h =
            let i : most_indices (Y (suc k) more rest) ≤ max (binder_count (binders (branch_indices (name s.number k) 0 s.replications))) (most_indices (Y (suc k) more rest)) = le-max_right _ _ in
            let j : widest size (Y (suc k) more rest) ≤ max (widest_binder size (binders (branch_indices (name s.number k) 0 s.replications))) (widest size (Y (suc k) more rest)) = le-max_right _ _ in
            record {
              rest_indices = let a = h.rest_indices in omega arith;
              rest_widest = let a = h.rest_widest in omega arith;
              indices = max-le (subst (λ z. z ≤ max (length (bounds_of s)) (most_indices rest)) (sym (count_is (name s.number k) 0 s.replications)) (le-max_left (length (bounds_of s)) (most_indices rest))) h.indices;
              widths = max-le (subst (λ z. z ≤ max (greatest (bounds_of s)) (widest size rest)) (sym (widest_is (name s.number k) 0 s.replications)) (le-max_left (greatest (bounds_of s)) (widest size rest))) h.widths;
            }
    within_bounds _ k rest f = absurd f

    no_pick : (w : List ℕ) (k u b : ℕ) (x y rest : Tree) → (s.bound == b) ≡ false → pick o e w S k (Node Branch (Node (Binder u b) x y) rest) ≡ []
    no_pick w k u b x y rest h = go (has_bound b (function_of_site o S)) (is.bound b ∙ h)
      where
        go : (q : Bool) → q ≡ false → ◌≡◌ {A = List Pick} (elim q [ true ↦ (let found : CallNumber = record { tuple = w; site = S.number } in if is_pick p.g (with_call e u found) rest then record { branch = k; number = found } ∷ [] else []) | false ↦ [] ]) []
        go false z = refl
        go true z = absurd (both_ways _ z refl)

    -- a site with a candidate has a branch
    tried : (w : List ℕ) (brs : Tree) (k : ℕ) (rest : Tree) → IsShaped brs → (picks_at o e w S k brs ≡ []) ⊎ Tries (Y k brs rest) (bounds_of s)
    unfolding IsShaped expanded_at picks_at
    tried w Empty k rest f = inl refl
    tried w (Node Cons (Node Branch (Node (Binder u b) x y) (Node Cons cells (Node Cons m body))) more) k rest f = go (s.bound == b) refl (tried w more (suc k) rest f)
      where
        br : Tree
        br = branch_for p.d p.c (with_call_of Σ u (index_terms p.c.replications) (name s.number k) s) (name s.number k) s cells m (inner k (with_call_of Σ u (index_terms p.c.replications) (name s.number k) s))

        here : List Pick
        here = pick o e w S k (Node Branch (Node (Binder u b) x y) (Node Cons cells (Node Cons m body)))

        go : (v : Bool) → (s.bound == b) ≡ v → (picks_at o e w S (suc k) more ≡ []) ⊎ Tries (Y (suc k) more rest) (bounds_of s)
            → (here ++ picks_at o e w S (suc k) more ≡ []) ⊎ Tries (cond v (Node Cons br (Y (suc k) more rest)) (Y (suc k) more rest)) (bounds_of s)
        go false v (inl h) = inl (ap₂ ◌++◌ (no_pick w k u b x y (Node Cons cells (Node Cons m body)) v) h)
        go false v (inr h) = inr h
        go true v h = inr (record {
          lengths = subst (λ z. z ≤ max (binder_count (binders (branch_indices (name s.number k) 0 s.replications))) (most_indices (Y (suc k) more rest))) (count_is (name s.number k) 0 s.replications) (le-max_left _ _);
          greatest_of = subst (λ z. z ≤ max (widest_binder size (binders (branch_indices (name s.number k) 0 s.replications))) (widest size (Y (suc k) more rest))) (widest_is (name s.number k) 0 s.replications) (le-max_left _ _);
        })
    tried w _ k rest f = absurd f

  module _ (a : Tree) (sh : IsShaped a) where
    abbrev X : List Caller → Tree
    X ss = expanded p.d p.c Σ name inner ss a

    indices_within : (ss : List Caller) (Ss : List Site) → AreSitesOf p plain o ss Ss → (most_indices (X ss) ≤ most_bounds Ss) × (widest size (X ss) ≤ greatest_bound Ss)
    unfolding expanded
    indices_within [] [] f = (omega arith, omega arith)
    indices_within (s ∷ ss) (S ∷ Ss) f =
        let h = within_bounds s S f.0 a 0 (X ss) sh in
        let ih = indices_within ss Ss f.1 in
        let i : length (bounds_of s) ≡ length S.bounds = ap length (sym f.0.bounds) in
        let j : greatest (bounds_of s) ≡ greatest S.bounds = ap greatest (sym f.0.bounds) in
        let m : max (length (bounds_of s)) (most_indices (X ss)) ≤ max (length S.bounds) (most_bounds Ss) =
        max-le (let z : length S.bounds ≤ max (length S.bounds) (most_bounds Ss) = le-max_left _ _ in omega arith) (let z : most_bounds Ss ≤ max (length S.bounds) (most_bounds Ss) = le-max_right _ _ in let y = ih.0 in omega arith) in
        let n : max (greatest (bounds_of s)) (widest size (X ss)) ≤ max (greatest S.bounds) (greatest_bound Ss) =
        max-le (let z : greatest S.bounds ≤ max (greatest S.bounds) (greatest_bound Ss) = le-max_left _ _ in omega arith) (let z : greatest_bound Ss ≤ max (greatest S.bounds) (greatest_bound Ss) = le-max_right _ _ in let y = ih.1 in omega arith) in
        ((let k = h.indices in omega arith), (let k = h.widths in omega arith))
    indices_within [] (S ∷ Ss) f = absurd f
    indices_within (s ∷ ss) [] f = absurd f

    nothing_else : (w : List ℕ) (d n : ℕ) → within d n w ≡ false → (ss : List Caller) (Ss : List Site) → AreSitesOf p plain o ss Ss → most_indices (X ss) ≤ d → widest size (X ss) ≤ n
        → flat_map (λ (S : Site). picks_at o e w S 0 a) (sites_at Ss w) ≡ []
    unfolding expanded
    nothing_else w d n z [] [] f l m = refl
    nothing_else w d n z (s ∷ ss) (S ∷ Ss) f l m =
        go (is_below w S.bounds) refl (tried s S f.0 w a 0 (X ss) sh)
        (nothing_else w d n z ss Ss f.1 (let k = (within_bounds s S f.0 a 0 (X ss) sh).rest_indices in omega arith) (let k = (within_bounds s S f.0 a 0 (X ss) sh).rest_widest in omega arith))
      where
        go : (b : Bool) → is_below w S.bounds ≡ b → (picks_at o e w S 0 a ≡ []) ⊎ Tries (Y s S f.0 0 a (X ss)) (bounds_of s) → flat_map (λ (S : Site). picks_at o e w S 0 a) (sites_at Ss w) ≡ []
            → flat_map (λ (S : Site). picks_at o e w S 0 a) (cond b (S ∷ sites_at Ss w) (sites_at Ss w)) ≡ []
        go false q h ih = ih
        go true q (inl h) ih = ap₂ ◌++◌ h ih
        go true q (inr h) ih =
            absurd (both_ways _ z (below_within w S.bounds d n q (let i : length (bounds_of s) ≡ length S.bounds = ap length (sym f.0.bounds) in let k = h.lengths in omega arith)
            (let i : greatest (bounds_of s) ≡ greatest S.bounds = ap greatest (sym f.0.bounds) in let k = h.greatest_of in omega arith)))
    nothing_else w d n z [] (S ∷ Ss) f l m = absurd f
    nothing_else w d n z (s ∷ ss) [] f l m = absurd f

    pub enough_tuples : (ss : List Caller) → AreSitesOf p plain o ss sites
        → picks o e a ≡ flat_map (λ w. flat_map (λ (S : Site). picks_at o e w S 0 a) (sites_at sites w)) (tuples_up_to (most_indices (X ss)) (widest size (X ss)))
    unfolding picks
    enough_tuples ss f =
        let i = indices_within ss sites f in
        let more : greatest_bound sites ≡ widest size (X ss) + (greatest_bound sites - widest size (X ss)) = let k = i.1 in omega arith in
        ap (λ n. flat_map (λ w. flat_map (λ (S : Site). picks_at o e w S 0 a) (sites_at sites w)) (tuples_up_to (most_bounds sites) n)) more
        ∙ wider (λ w. flat_map (λ (S : Site). picks_at o e w S 0 a) (sites_at sites w)) (most_indices (X ss)) (widest size (X ss)) (most_bounds sites) (greatest_bound sites - widest size (X ss)) i.0
        (λ w z. nothing_else w (most_indices (X ss)) (widest size (X ss)) z ss sites f (omega arith) (omega arith))

pub looks_at_enough : (p : Inlining) (plain : ℕ → Bool) (group : Group) (sites : List Site) (callers : List Caller) (q : ℕ) (Σ : Scope) (inner : ℕ → Scope → Tree) (e : Frame) (a : Tree) (r : ℕ) (ss : List Caller)
    → AreSitesOf p plain (record { setting = p.g; group = group; sites = sites }) ss sites → AllByRecursion (λ s. AreFineBranches p callers Σ q s 0 r a) ss
    → picks (record { setting = p.g; group = group; sites = sites }) e a
    ≡ flat_map (λ w. flat_map (λ (S : Site). picks_at (record { setting = p.g; group = group; sites = sites }) e w S 0 a) (sites_at sites w))
    (tuples_up_to (most_indices (expanded p.d p.c Σ (p.d.index p.c.number q) inner ss a)) (widest p.g.interpretation.parameter_value (expanded p.d p.c Σ (p.d.index p.c.number q) inner ss a)))
unfolding picks expanded tuples_up_to
looks_at_enough p plain group [] callers q Σ inner e a r [] are f = refl
looks_at_enough p plain group (S ∷ Ss) callers q Σ inner e a r (s ∷ ss) are f = enough_tuples p plain group (S ∷ Ss) (p.d.index p.c.number q) Σ inner e a (shaped p callers Σ q s a 0 r f.0) (s ∷ ss) are
looks_at_enough p plain group (S ∷ Ss) callers q Σ inner e a r [] are f = absurd are
looks_at_enough p plain group [] callers q Σ inner e a r (s ∷ ss) are f = absurd are
