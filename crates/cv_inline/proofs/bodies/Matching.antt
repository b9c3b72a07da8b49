-- The candidates of the next game's find correspond, in order, to those of the side.
use Rattle.std.proofs.Common.{◌≡◌, ℕ, zero, suc, ◌+◌, ◌≤◌, Bool, true, false, cond, if◌then◌else◌, ◌==◌, List, [], ◌∷◌, ◌++◌, ◌⊎◌, inl, inr, Option, Some, None, refl, sym, ap, subst, ◌∙◌, flat_map, length, slice_get, ◌%◌, append_assoc, arith}
use Rattle.std.proofs.lemmas.Bool.{both_ways}
use Rattle.cv_syntax_trees.specs.declared.head.Head.TheVariants.{Cons, Branch, Binder}
use Rattle.cv_syntax_trees.specs.Tree.{Tree, Empty, Node, second, binders}
use Rattle.cv_meaning.specs.Tapes.{Tape}
use Rattle.cv_meaning.specs.Side.{CallNumber}
use Rattle.cv_meaning.specs.Memory.{Store, Local, tuple}
use Rattle.cv_meaning.specs.Terms.{found_in}
use Rattle.cv_meaning.specs.Binders.{fits, bound_to}
use Rattle.cv_meaning.specs.Candidates.{Candidate, candidate, candidates_at, is_candidate, chosen}
use Rattle.cv_meaning.specs.Serving.{Served, serve, step}
use Rattle.cv_meaning.specs.contexts.Groups.{Group}
use Rattle.cv_meaning.specs.contexts.Sites.{Site, is_below, sites_at}
use Rattle.cv_meaning.specs.contexts.Frames.{Frame, with_call}
use Rattle.cv_meaning.specs.contexts.Finds.{Oracles, Pick, has_bound, function_of_site, is_pick, pick, picks_at, picked}
use Rattle.cv_meaning.specs.contexts.Made.{has_cell_at}
use Rattle.cv_meaning.specs.contexts.Inlined.{Caller, Scope, index_terms, is_index_of, branch_indices, branch_for, with_call_of, expanded_at, expanded}
use Rattle.cv_inline.specs.bodies.Inlining.{Inlining}
use Rattle.cv_inline.specs.bodies.Accepted.{IsFineTerm, AreFineCells, IsNeverAssigned}
use Rattle.cv_meaning.specs.contexts.KeyTerms.{AreFineKeyTerms}
use Rattle.cv_inline.specs.bodies.Related.{MadeUnder}
use Rattle.cv_inline.proofs.bodies.Keys.{AreNames}
use Rattle.cv_inline.proofs.bodies.Tests.{IsKnown, same_bodies, picked_made, no_candidate_there, no_pick_there}

abbrev pub Paired : {A B : Type 0} → (A → B → Type 0) → List A → List B → Type 0
Paired R [] [] = Unit {0}
Paired R (x ∷ xs) (y ∷ ys) = R x y × Paired R xs ys
Paired R _ _ = ⊥

pub paired_append : {A B : Type 0} (R : A → B → Type 0) (xs vs : List A) (ys ws : List B) → Paired R xs ys → Paired R vs ws → Paired R (xs ++ vs) (ys ++ ws)
paired_append R [] vs [] ws h k = k
paired_append R (x ∷ xs) vs (y ∷ ys) ws h k = (h.0, paired_append R xs vs ys ws h.1 k)
paired_append R [] vs (y ∷ ys) ws h k = absurd h
paired_append R (x ∷ xs) vs [] ws h k = absurd h

-- where a candidate's number leads in a list of branches that is counted from k on
pub data Lands : Tree → ℕ → ℕ → Tree → Type 0 where
  first_one : {b more : Tree} {k : ℕ} → Lands (Node Cons b more) k k b
  later : {b c more : Tree} {k j : ℕ} → Lands more (suc k) j c → Lands (Node Cons b more) k j c

lands_after : (t br : Tree) (K j : ℕ) → Lands t K j br → K ≤ j
lands_after t br K j first_one = omega arith
lands_after t br K j (later {c = c} {more = more} l) = let h : suc K ≤ j = lands_after more c (suc K) j l in omega arith

module _ (p : Inlining) (name : ℕ → ℕ → ℕ → ℕ) (Σ : Scope) where
  abbrev pub scope_for : Caller → ℕ → ℕ → Scope
  scope_for s k u = with_call_of Σ u (index_terms p.c.replications) (name s.number k) s

  -- branches whose terms are accepted for a site
  unfoldable pub BranchesFine : (Bound Live : Caller → ℕ → ℕ → Type 0) → Caller → ℕ → Tree → Type 0
  BranchesFine Bound Live s k (Node Cons (Node Branch (Node (Binder u b) x y) (Node Cons cells (Node Cons m body))) more) =
      ((s.bound == b) ≡ true → Bound s k u × ((AreFineCells p (scope_for s k u) cells × IsFineTerm p (scope_for s k u) m × (has_cell_at u cells ≡ true) × Live s k u) ⊎ IsNeverAssigned p Σ cells)) × BranchesFine Bound Live s (suc k) more
  BranchesFine Bound Live s k Empty = Unit {0}
  BranchesFine Bound Live s k _ = ⊥

module _ (p : Inlining) (plain : ℕ → Bool) (apart : (x : ℕ) → plain x ≡ true → found_in p.at x ≡ None) (name : ℕ → ℕ → ℕ → ℕ)
    (group : Group) (sites : List Site) (κ : MadeUnder) (Σ : Scope) (e : Frame) (n : Store) (inner : ℕ → Scope → Tree) (Bound : Caller → ℕ → ℕ → Type 0) (names : (s : Caller) (k u : ℕ) → Bound s k u → AreNames p.drawn (name s.number k) (length s.replications)) (Live : Caller → ℕ → ℕ → Type 0) where
  abbrev pub oracles : Oracles
  oracles = record { setting = p.g; group = group; sites = sites }

  -- a caller of the game as the side has it
  pub record IsSite (s : Caller) (S : Site) : Type 0 where
    pub number : S.number ≡ s.number
    pub bound : (b : ℕ) → has_bound b (function_of_site oracles S) ≡ (s.bound == b)
    pub below : (nm : ℕ → ℕ) (w : List ℕ) (k : ℕ) → fits p.g.interpretation.parameter_value (binders (branch_indices nm k s.replications)) w ≡ is_below w S.bounds
    pub arity : p.arity s.number ≡ length s.replications
    pub own : (x : ℕ) → plain x ≡ true → is_index_of s.replications x ≡ false
    pub key : AreFineKeyTerms (is_index_of s.replications) plain s.key
    -- with each call of it as a branch's index, what is known
    pub known : (k u : ℕ) (bd : Bound s k u) (w : List ℕ) → fits p.g.interpretation.parameter_value (binders (branch_indices (name s.number k) 0 s.replications)) w ≡ true → IsKnown p plain apart (name s.number k) κ Σ e n s (names s k u bd) u w own key

  abbrev pub scope_with : Caller → ℕ → ℕ → Scope
  scope_with = scope_for p name Σ

  -- the game's branch for a site and a branch of the right find
  pub data MadeFor : Caller → ℕ → Tree → Type 0 where
    made_for : (s : Caller) (k u : ℕ) (cells m : Tree) → Bound s k u → Live s k u → MadeFor s k (branch_for p.d p.c (scope_with s k u) (name s.number k) s cells m (inner k (scope_with s k u)))

  pub record Corresponds (t : Tree) (k : ℕ) (c : Candidate) (q : Pick) : Type 0 where
    pub tuple : c.tuple ≡ q.number.tuple
    pub caller : Caller
    pub as_site : Site
    pub is_site : IsSite caller as_site
    pub site : q.number.site ≡ caller.number
    pub under : κ q.number ≡ Some e.key
    pub branch : Tree
    pub lands : Lands t k c.branch branch
    pub made : MadeFor caller q.branch branch
    pub fit : fits p.g.interpretation.parameter_value (binders (branch_indices (name caller.number q.branch) 0 caller.replications)) c.tuple ≡ true

  shifted : (br more : Tree) (K : ℕ) (cs : List Candidate) (qs : List Pick) → Paired (Corresponds more (suc K)) cs qs → Paired (Corresponds (Node Cons br more) K) cs qs
  shifted br more K [] [] h = tt
  shifted br more K (c ∷ cs) (q ∷ qs) h =
      (record { tuple = h.0.tuple; caller = h.0.caller; as_site = h.0.as_site; is_site = h.0.is_site; site = h.0.site; under = h.0.under; branch = h.0.branch; lands = later h.0.lands; made = h.0.made; fit = h.0.fit }, shifted br more K cs qs h.1)
  shifted br more K [] (q ∷ qs) h = absurd h
  shifted br more K (c ∷ cs) [] h = absurd h

  module _ (s : Caller) (S : Site) (is : IsSite s S) (w : List ℕ) where
    -- the game's branch and the side's, at this tuple
    head_match : (k u : ℕ) (cells m body x y : Tree) (b : ℕ) (more : Tree) (K : ℕ) → AreFineCells p (scope_with s k u) cells → IsFineTerm p (scope_with s k u) m → has_cell_at u cells ≡ true → Bound s k u → Live s k u → (s.bound == b) ≡ true → is_below w S.bounds ≡ true
        → Paired (Corresponds (Node Cons (branch_for p.d p.c (scope_with s k u) (name s.number k) s cells m (inner k (scope_with s k u))) more) K)
        (candidate p.g p.at n w K (branch_for p.d p.c (scope_with s k u) (name s.number k) s cells m (inner k (scope_with s k u))))
        (pick oracles e w S k (Node Branch (Node (Binder u b) x y) (Node Cons cells (Node Cons m body))))
    head_match k u cells m body x y b more K fc fm q bd lv hb lb =
        go (fits p.g.interpretation.parameter_value (binders (branch_indices (name s.number k) 0 s.replications)) w) refl (has_bound b (function_of_site oracles S)) (is.bound b ∙ hb)
      where
        br : Tree
        br = branch_for p.d p.c (scope_with s k u) (name s.number k) s cells m (inner k (scope_with s k u))

        called : CallNumber
        called = record { tuple = w; site = s.number }

        one : fits p.g.interpretation.parameter_value (binders (branch_indices (name s.number k) 0 s.replications)) w ≡ true → (i : ℕ) → i ≡ s.number → (v v' : Bool) → v ≡ v' → (v' ≡ true → κ (record { tuple = w; site = i }) ≡ Some e.key)
            → Paired (Corresponds (Node Cons br more) K) (cond v (record { branch = K; tuple = w } ∷ []) []) (cond v' (record { branch = k; number = record { tuple = w; site = i } } ∷ []) [])
        one f i ei v v' ev un = subst (λ z. Paired (Corresponds (Node Cons br more) K) (cond v (record { branch = K; tuple = w } ∷ []) []) (cond z (record { branch = k; number = record { tuple = w; site = i } } ∷ []) [])) ev (both v (λ j. un (sym ev ∙ j)))
          where
            both : (v : Bool) → (v ≡ true → κ (record { tuple = w; site = i }) ≡ Some e.key) → Paired (Corresponds (Node Cons br more) K) (cond v (record { branch = K; tuple = w } ∷ []) []) (cond v (record { branch = k; number = record { tuple = w; site = i } } ∷ []) [])
            both true un = (record { tuple = refl; caller = s; as_site = S; is_site = is; site = ei; under = un refl; branch = br; lands = first_one; made = made_for s k u cells m bd lv; fit = f }, tt)
            both false un = tt

        same : fits p.g.interpretation.parameter_value (binders (branch_indices (name s.number k) 0 s.replications)) w ≡ true
            → is_candidate p.g p.at n (bound_to n (tuple p.at) (binders (branch_indices (name s.number k) 0 s.replications)) w) (second br) ≡ is_pick p.g (with_call e u (record { tuple = w; site = S.number })) (Node Cons cells (Node Cons m body))
        same f =
            same_bodies p plain apart (name s.number k) κ Σ e n s (names s k u bd) u w is.own is.key f cells m (inner k (scope_with s k u)) body (is.known k u bd w f) is.arity fc fm q (κ called) refl
            ∙ ap (λ i. is_pick p.g (with_call e u (record { tuple = w; site = i })) (Node Cons cells (Node Cons m body))) (sym is.number)

        under : fits p.g.interpretation.parameter_value (binders (branch_indices (name s.number k) 0 s.replications)) w ≡ true
            → is_pick p.g (with_call e u (record { tuple = w; site = S.number })) (Node Cons cells (Node Cons m body)) ≡ true → κ (record { tuple = w; site = S.number }) ≡ Some e.key
        under f i =
            ap (λ j. κ (record { tuple = w; site = j })) is.number
            ∙ picked_made p plain apart (name s.number k) κ Σ e n s (names s k u bd) u w is.own is.key f cells m body (is.known k u bd w f) fc q (κ called) refl
            (ap (λ j. is_pick p.g (with_call e u (record { tuple = w; site = j })) (Node Cons cells (Node Cons m body))) (sym is.number) ∙ i)

        go : (f : Bool) → fits p.g.interpretation.parameter_value (binders (branch_indices (name s.number k) 0 s.replications)) w ≡ f → (h : Bool) → h ≡ true
            → Paired (Corresponds (Node Cons br more) K)
            (elim f [ true ↦ (if is_candidate p.g p.at n (bound_to n (tuple p.at) (binders (branch_indices (name s.number k) 0 s.replications)) w) (second br) then record { branch = K; tuple = w } ∷ [] else []) | false ↦ [] ])
            (elim h [ true ↦ (if is_pick p.g (with_call e u (record { tuple = w; site = S.number })) (Node Cons cells (Node Cons m body)) then record { branch = k; number = record { tuple = w; site = S.number } } ∷ [] else []) | false ↦ [] ])
        go true f true h = one f S.number is.number _ _ (same f) (under f)
        go false f h q = absurd (both_ways _ (sym (is.below (name s.number k) w 0) ∙ f) lb)
        go true f false h = absurd (both_ways _ refl h)

    no_candidate : (k u : ℕ) (cells m : Tree) (K : ℕ) → is_below w S.bounds ≡ false → candidate p.g p.at n w K (branch_for p.d p.c (scope_with s k u) (name s.number k) s cells m (inner k (scope_with s k u))) ≡ []
    no_candidate k u cells m K lb = go (fits p.g.interpretation.parameter_value (binders (branch_indices (name s.number k) 0 s.replications)) w) (is.below (name s.number k) w 0 ∙ lb)
      where
        go : (f : Bool) → f ≡ false → ◌≡◌ {A = List Candidate} (elim f [
          | true ↦ (if is_candidate p.g p.at n (bound_to n (tuple p.at) (binders (branch_indices (name s.number k) 0 s.replications)) w) (second (branch_for p.d p.c (scope_with s k u) (name s.number k) s cells m (inner k (scope_with s k u)))) then record { branch = K; tuple = w } ∷ [] else [])
          | false ↦ []
        ]) []
        go false q = refl
        go true q = absurd (both_ways _ q refl)

    no_pick : (k : ℕ) (u b : ℕ) (x y rest : Tree) → (s.bound == b) ≡ false → pick oracles e w S k (Node Branch (Node (Binder u b) x y) rest) ≡ []
    no_pick k u b x y rest h = go (has_bound b (function_of_site oracles S)) (is.bound b ∙ h)
      where
        go : (q : Bool) → q ≡ false → ◌≡◌ {A = List Pick} (elim q [ true ↦ (let found : CallNumber = record { tuple = w; site = S.number } in if is_pick p.g (with_call e u found) rest then record { branch = k; number = found } ∷ [] else []) | false ↦ [] ]) []
        go false z = refl
        go true z = absurd (both_ways _ z refl)

    -- a branch whose list has a name that isn't assigned
    module _ (below : is_below w S.bounds ≡ true) (k u : ℕ) (bd : Bound s k u) (cells : Tree) (z : IsNeverAssigned p Σ cells) where
      fit : fits p.g.interpretation.parameter_value (binders (branch_indices (name s.number k) 0 s.replications)) w ≡ true
      fit = is.below (name s.number k) w 0 ∙ below

      never_candidate : (m : Tree) (K : ℕ) → candidate p.g p.at n w K (branch_for p.d p.c (scope_with s k u) (name s.number k) s cells m (inner k (scope_with s k u))) ≡ []
      never_candidate m K = go (fits p.g.interpretation.parameter_value (binders (branch_indices (name s.number k) 0 s.replications)) w)
        where
          br : Tree
          br = branch_for p.d p.c (scope_with s k u) (name s.number k) s cells m (inner k (scope_with s k u))

          go : (f : Bool) → ◌≡◌ {A = List Candidate} (elim f [
            | true ↦ (if is_candidate p.g p.at n (bound_to n (tuple p.at) (binders (branch_indices (name s.number k) 0 s.replications)) w) (second br) then record { branch = K; tuple = w } ∷ [] else [])
            | false ↦ []
          ]) []
          go false = refl
          go true = ap (λ c. cond c (record { branch = K; tuple = w } ∷ []) []) (no_candidate_there p plain apart (name s.number k) κ Σ e n s (names s k u bd) u w is.own is.key fit cells (second (second br)) (is.known k u bd w fit) z)

      never_pick : (b : ℕ) (x y rest : Tree) → pick oracles e w S k (Node Branch (Node (Binder u b) x y) (Node Cons cells rest)) ≡ []
      never_pick b x y rest = go (has_bound b (function_of_site oracles S))
        where
          go : (q : Bool) → ◌≡◌ {A = List Pick} (elim q [ true ↦ (let found : CallNumber = record { tuple = w; site = S.number } in if is_pick p.g (with_call e u found) (Node Cons cells rest) then record { branch = k; number = found } ∷ [] else []) | false ↦ [] ]) []
          go false = refl
          go true =
              ap (λ c. cond c (record { branch = k; number = record { tuple = w; site = S.number } } ∷ []) [])
              (ap (λ i. is_pick p.g (with_call e u (record { tuple = w; site = i })) (Node Cons cells rest)) is.number
              ∙ no_pick_there p plain apart (name s.number k) κ Σ e n s (names s k u bd) u w is.own is.key fit cells rest (is.known k u bd w fit) z)

    -- at one tuple and one site, with what follows
    site_match : (brs : Tree) (k : ℕ) → BranchesFine p name Σ Bound Live s k brs → (K : ℕ) (rest : Tree) (qs : List Pick) → is_below w S.bounds ≡ true → ((K : ℕ) → Paired (Corresponds rest K) (candidates_at p.g p.at n w K rest) qs)
        → Paired (Corresponds (expanded_at p.d p.c Σ (name s.number) inner s k brs rest) K) (candidates_at p.g p.at n w K (expanded_at p.d p.c Σ (name s.number) inner s k brs rest)) (picks_at oracles e w S k brs ++ qs)
    unfolding BranchesFine expanded_at picks_at candidates_at
    site_match (Node Cons (Node Branch (Node (Binder u b) x y) (Node Cons cells (Node Cons m body))) more) k f K rest qs lb h = go (s.bound == b) refl (λ K. site_match more (suc k) f.1 K rest qs lb h)
      where
        br : Tree
        br = branch_for p.d p.c (scope_with s k u) (name s.number k) s cells m (inner k (scope_with s k u))

        tail : Tree
        tail = expanded_at p.d p.c Σ (name s.number) inner s (suc k) more rest

        here : List Pick
        here = pick oracles e w S k (Node Branch (Node (Binder u b) x y) (Node Cons cells (Node Cons m body)))

        go : (v : Bool) → (s.bound == b) ≡ v → ((K : ℕ) → Paired (Corresponds tail K) (candidates_at p.g p.at n w K tail) (picks_at oracles e w S (suc k) more ++ qs))
            → Paired (Corresponds (cond v (Node Cons br tail) tail) K) (candidates_at p.g p.at n w K (cond v (Node Cons br tail) tail)) ((here ++ picks_at oracles e w S (suc k) more) ++ qs)
        go true v ih = either (f.0 v).1
          where
            either : ((AreFineCells p (scope_with s k u) cells × IsFineTerm p (scope_with s k u) m × (has_cell_at u cells ≡ true) × Live s k u) ⊎ IsNeverAssigned p Σ cells)
                → Paired (Corresponds (Node Cons br tail) K) (candidates_at p.g p.at n w K (Node Cons br tail)) ((here ++ picks_at oracles e w S (suc k) more) ++ qs)
            either (inl r) =
                subst (Paired (Corresponds (Node Cons br tail) K) (candidates_at p.g p.at n w K (Node Cons br tail))) (sym (append_assoc here (picks_at oracles e w S (suc k) more) qs))
                (paired_append (Corresponds (Node Cons br tail) K) (candidate p.g p.at n w K br) _ here _ (head_match k u cells m body x y b tail K r.0 r.1 r.2 (f.0 v).0 r.3 v lb) (shifted br tail K _ _ (ih (suc K))))
            either (inr z) =
                subst (λ l. Paired (Corresponds (Node Cons br tail) K) (l ++ candidates_at p.g p.at n w (suc K) tail) ((here ++ picks_at oracles e w S (suc k) more) ++ qs)) (sym (never_candidate lb k u (f.0 v).0 cells z m K))
                (subst (λ l. Paired (Corresponds (Node Cons br tail) K) (candidates_at p.g p.at n w (suc K) tail) ((l ++ picks_at oracles e w S (suc k) more) ++ qs)) (sym (never_pick lb k u (f.0 v).0 cells z b x y (Node Cons m body)))
                (shifted br tail K _ _ (ih (suc K))))
        go false v ih = subst (λ l. Paired (Corresponds tail K) (candidates_at p.g p.at n w K tail) ((l ++ picks_at oracles e w S (suc k) more) ++ qs)) (sym (no_pick k u b x y (Node Cons cells (Node Cons m body)) v)) (ih K)
    site_match Empty k f K rest qs lb h = h K
    site_match _ k f K rest qs lb h = absurd f

    no_match : (brs : Tree) (k : ℕ) (K : ℕ) (rest : Tree) (qs : List Pick) → is_below w S.bounds ≡ false → ((K : ℕ) → Paired (Corresponds rest K) (candidates_at p.g p.at n w K rest) qs)
        → Paired (Corresponds (expanded_at p.d p.c Σ (name s.number) inner s k brs rest) K) (candidates_at p.g p.at n w K (expanded_at p.d p.c Σ (name s.number) inner s k brs rest)) qs
    unfolding expanded_at candidates_at
    no_match (Node Cons (Node Branch (Node (Binder u b) x y) (Node Cons cells (Node Cons m body))) more) k K rest qs lb h = go (s.bound == b) (λ K. no_match more (suc k) K rest qs lb h)
      where
        br : Tree
        br = branch_for p.d p.c (scope_with s k u) (name s.number k) s cells m (inner k (scope_with s k u))

        tail : Tree
        tail = expanded_at p.d p.c Σ (name s.number) inner s (suc k) more rest

        go : (v : Bool) → ((K : ℕ) → Paired (Corresponds tail K) (candidates_at p.g p.at n w K tail) qs) → Paired (Corresponds (cond v (Node Cons br tail) tail) K) (candidates_at p.g p.at n w K (cond v (Node Cons br tail) tail)) qs
        go true ih = subst (λ l. Paired (Corresponds (Node Cons br tail) K) (l ++ candidates_at p.g p.at n w (suc K) tail) qs) (sym (no_candidate k u cells m K lb)) (shifted br tail K _ _ (ih (suc K)))
        go false ih = ih K
    no_match _ k K rest qs lb h = h K

  -- the side's sites, one by one
  abbrev pub AreSites : Tree → List Caller → List Site → Type 0
  AreSites brs [] [] = Unit {0}
  AreSites brs (s ∷ ss) (S ∷ Ss) = IsSite s S × BranchesFine p name Σ Bound Live s 0 brs × AreSites brs ss Ss
  AreSites brs _ _ = ⊥

  sites_match : (brs : Tree) (ss : List Caller) (Ss : List Site) → AreSites brs ss Ss → (w : List ℕ) (K : ℕ)
      → Paired (Corresponds (expanded p.d p.c Σ name inner ss brs) K) (candidates_at p.g p.at n w K (expanded p.d p.c Σ name inner ss brs)) (flat_map (λ (S : Site). picks_at oracles e w S 0 brs) (sites_at Ss w))
  unfolding expanded candidates_at
  sites_match brs [] [] h w K = tt
  sites_match brs (s ∷ ss) (S ∷ Ss) h w K = go (is_below w S.bounds) refl (λ K. sites_match brs ss Ss h.2 w K)
    where
      go : (b : Bool) → is_below w S.bounds ≡ b → ((K : ℕ) → Paired (Corresponds (expanded p.d p.c Σ name inner ss brs) K) (candidates_at p.g p.at n w K (expanded p.d p.c Σ name inner ss brs)) (flat_map (λ (S : Site). picks_at oracles e w S 0 brs) (sites_at Ss w)))
          → Paired (Corresponds (expanded_at p.d p.c Σ (name s.number) inner s 0 brs (expanded p.d p.c Σ name inner ss brs)) K) (candidates_at p.g p.at n w K (expanded_at p.d p.c Σ (name s.number) inner s 0 brs (expanded p.d p.c Σ name inner ss brs)))
          (flat_map (λ (S : Site). picks_at oracles e w S 0 brs) (cond b (S ∷ sites_at Ss w) (sites_at Ss w)))
      go true q ih = site_match s S h.0 w brs 0 h.1 K _ _ q ih
      go false q ih = no_match s S h.0 w brs 0 K _ _ q ih
  sites_match brs [] (S ∷ Ss) h w K = absurd h
  sites_match brs (s ∷ ss) [] h w K = absurd h

  -- all candidates, in order: over any list of tuples
  pub all_match : (brs : Tree) (ss : List Caller) → AreSites brs ss sites → (ws : List (List ℕ))
      → Paired (Corresponds (expanded p.d p.c Σ name inner ss brs) 0) (flat_map (λ w. candidates_at p.g p.at n w 0 (expanded p.d p.c Σ name inner ss brs)) ws) (flat_map (λ w. flat_map (λ (S : Site). picks_at oracles e w S 0 brs) (sites_at sites w)) ws)
  all_match brs ss h [] = tt
  all_match brs ss h (w ∷ ws) = paired_append (Corresponds (expanded p.d p.c Σ name inner ss brs) 0) _ _ _ _ (sites_match brs ss sites h w 0) (all_match brs ss h ws)

-- the choices among corresponding candidates correspond

abbrev pub Maybe : {A B : Type 0} → (A → B → Type 0) → Option A → Option B → Type 0
Maybe R None None = Unit {0}
Maybe R (Some x) (Some y) = R x y
Maybe R _ _ = ⊥

nth_match : {A B : Type 0} (R : A → B → Type 0) (xs : List A) (ys : List B) → Paired R xs ys → (k : ℕ) → Maybe R (slice_get xs k) (slice_get ys k)
nth_match R [] [] h k = tt
nth_match R (x ∷ xs) (y ∷ ys) h zero = h.0
nth_match R (x ∷ xs) (y ∷ ys) h (suc k) = nth_match R xs ys h.1 k
nth_match R [] (y ∷ ys) h k = absurd h
nth_match R (x ∷ xs) [] h k = absurd h

same_length : {A B : Type 0} (R : A → B → Type 0) (xs : List A) (ys : List B) → Paired R xs ys → length xs ≡ length ys
same_length R [] [] h = refl
same_length R (x ∷ xs) (y ∷ ys) h = ap suc (same_length R xs ys h.1)
same_length R [] (y ∷ ys) h = absurd h
same_length R (x ∷ xs) [] h = absurd h

pub choice_match : (R : Candidate → Pick → Type 0) (cs : List Candidate) (qs : List Pick) → Paired R cs qs → (v : ℕ) → Maybe R (chosen cs v) (picked qs v)
unfolding chosen picked
choice_match R [] [] h v = tt
choice_match R (c ∷ cs) (q ∷ qs) h v = subst (λ z. Maybe R (slice_get (c ∷ cs) (v % length (c ∷ cs))) (slice_get (q ∷ qs) (v % z))) (same_length R (c ∷ cs) (q ∷ qs) h) (nth_match R (c ∷ cs) (q ∷ qs) h (v % length (c ∷ cs)))
choice_match R [] (q ∷ qs) h v = absurd h
choice_match R (c ∷ cs) [] h v = absurd h

-- where the game's find goes: into the branch for the site and the right branch
pub lands_serve : (p : Inlining) (u : Tape) (P : Served → Type 0) (t br : Tree) (K j : ℕ) → Lands t K j br → (vs : List ℕ) (s : Local) → ((q : ℕ) → P (serve p.g u br q 0 vs s)) → (q i : ℕ) → K + i ≡ j → P (serve p.g u t q i vs s)
unfolding serve step
lands_serve p u P t br K j first_one vs s h q zero e = h _
lands_serve p u P t br K j first_one vs s h q (suc i) e = absurd (omega arith)
lands_serve p u P t br K j (later {b = b} {c = c} {more = more} l) vs s h q zero e = absurd (let x : suc K ≤ j = lands_after more c (suc K) j l in omega arith)
lands_serve p u P t br K j (later {b = b} {c = c} {more = more} l) vs s h q (suc i) e = lands_serve p u P more c (suc K) j l vs s h _ i (omega arith)
