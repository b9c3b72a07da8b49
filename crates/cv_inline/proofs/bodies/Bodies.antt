-- A right body, served in the next game.
use Rattle.std.proofs.Common.{◌≡◌, ℕ, zero, suc, ◌+◌, ◌<◌, ◌≤◌, Bool, true, false, cond, ◌==◌, List, [], ◌∷◌, ◌⊎◌, inl, inr, Option, Some, None, refl, sym, ap, subst, ◌∙◌, length, arith}
use Rattle.std.specs.List.{AllByRecursion}
use Rattle.cv_syntax_trees.specs.declared.head.Head.{Head}
use Rattle.cv_syntax_trees.specs.declared.head.Head.TheVariants.{New, Let, If, Find, Branch, Cons, Binder}
use Rattle.cv_syntax_trees.specs.Tree.{Tree, Empty, Node, first_place, second_place, binders}
use Rattle.cv_meaning.specs.Tapes.{Tape, New_at, Find_at, Made_at, Picked_at}
use Rattle.cv_meaning.specs.Side.{CallNumber, Arrays, OracleAnswer}
use Rattle.cv_meaning.specs.Memory.{Store, Happened, Local, tuple, put}
use Rattle.cv_meaning.specs.Terms.{is_one, found_in, value, values}
use Rattle.cv_meaning.specs.Binders.{fits, bound_to}
use Rattle.cv_meaning.specs.Candidates.{Candidate, candidates, candidates_at, chosen, tuples_up_to, most_indices, widest}
use Rattle.cv_meaning.specs.Serving.{Served, serve, step, after_turn, after_find}
use Rattle.cv_meaning_laws.specs.Agreement.{AgreeOn}
use Rattle.cv_inline.proofs.bodies.Stores.{agree_then}
use Rattle.cv_meaning.specs.contexts.Groups.{Group}
use Rattle.cv_meaning.specs.contexts.Sites.{Site, is_below}
use Rattle.cv_meaning.specs.contexts.Frames.{Frame, assigned, with_call}
use Rattle.cv_meaning.specs.contexts.BodyTerms.{body_value}
use Rattle.cv_meaning.specs.contexts.Finds.{Oracles, Pick, picks, picked}
use Rattle.cv_meaning.specs.contexts.Bodies.{with_arguments, after_pick, body_place, body_answer, branch_answer}
use Rattle.cv_meaning.specs.contexts.Made.{has_cell_at}
use Rattle.cv_meaning.specs.contexts.Inlined.{Caller, Own, Scope, is_index_of, branch_indices, in_game, expanded, find_or_else, inlined_body, inlined_branch, inlined_call}
use Rattle.cv_inline.specs.bodies.Inlining.{Inlining, Naming, plain, elsewhere}
use Rattle.cv_inline.specs.bodies.Accepted.{IsFineTerm, AreFineCells, IsNeverAssigned, IsFineBody, AreFineBranches, IsFineCall}
use Rattle.cv_inline.specs.bodies.Related.{MadeUnder, at_its_key, indices_at, IsSiteOf, AreSitesOf, HasKeys, IsAsBefore, IsServing, IsLater}
use Rattle.cv_inline.proofs.bodies.Terms.{value_in}
use Rattle.cv_inline.proofs.bodies.Keys.{AreNames, fits_below}
use Rattle.cv_inline.proofs.bodies.Matching.{IsSite, AreSites, BranchesFine, scope_for, Corresponds, MadeFor, made_for, all_match, Maybe, choice_match, lands_serve}
use Rattle.cv_inline.proofs.bodies.Enough.{looks_at_enough}
use Rattle.cv_inline.proofs.bodies.Roles.{plain_elsewhere, index_names}
use Rattle.cv_inline.proofs.bodies.Stages.{Scene, stage_later, stage_put, elsewhere_put, stage_bound, elsewhere_bound, plain_bound, names_bound, arrays_bound, here_bound, result_later, all_needed_agree, agrees, keys_agree}

-- the binder of the k-th branch, with its bound
unfoldable pub binder_at : Tree → ℕ → Option (ℕ × ℕ)
binder_at (Node Cons (Node Branch (Node (Binder u b) x y) rest) more) zero = Some (u, b)
binder_at (Node Cons branch more) (suc k) = binder_at more k
binder_at _ k = None

-- the name and the bound of a binder that is there
abbrev name_in : Option (ℕ × ℕ) → ℕ
name_in None = 0
name_in (Some x) = x.0

abbrev bound_in : Option (ℕ × ℕ) → ℕ
bound_in None = 0
bound_in (Some x) = x.1

nothing : (x : ℕ × ℕ) → None ≡ Some x → ⊥
nothing x e = cc

module _ (p : Inlining) (nm : Naming p) (ss : List Caller) where
  -- the k-th branch of the find at q has this index, which goes over the site's function
  abbrev pub Bound : Tree → ℕ → Caller → ℕ → ℕ → Type 0
  Bound a q s k u = (b : ℕ) × (binder_at a k ≡ Some (u, b)) × ((s.bound == b) ≡ true) × (p.opens q s.number k ≡ true) × (p.arity s.number ≡ length s.replications)

  -- the body of the i-th branch from place r on is accepted, where k is its number and u its index
  unfoldable pub IsFineAt : Scope → (q : ℕ) → Caller → (k u r : ℕ) → Tree → ℕ → Type 0
  IsFineAt Σ q s k u r (Node Cons (Node Branch (Node (Binder v b) x y) (Node Cons cells (Node Cons m body))) more) zero =
      IsFineBody p ss (scope_for p (p.d.index p.c.number q) Σ s k u) (body_place r Cons Branch (Node (Binder v b) x y) Cons cells Cons m) body
  IsFineAt Σ q s k u r (Node Cons (Node Branch (Node (Binder v b) x y) (Node Cons cells (Node Cons m body))) more) (suc i) =
      IsFineAt Σ q s k u (second_place r Cons (Node Branch (Node (Binder v b) x y) (Node Cons cells (Node Cons m body)))) more i
  IsFineAt Σ q s k u r _ i = ⊥

  abbrev pub Live : Tree → Scope → ℕ → Caller → ℕ → ℕ → Type 0
  Live a Σ q s k u = IsFineAt Σ q s k u (first_place q (Find 0)) a k

  -- the branches that go over a site's calls, each with its bound
  with_bounds : (a : Tree) (q : ℕ) (Σ : Scope) (s : Caller) → p.arity s.number ≡ length s.replications → (brs : Tree) (k r : ℕ) → ((j : ℕ) → binder_at a (k + j) ≡ binder_at brs j)
      → ((j l u : ℕ) → IsFineAt Σ q s l u r brs j → IsFineAt Σ q s l u (first_place q (Find 0)) a (k + j)) → AreFineBranches p ss Σ q s k r brs
      → BranchesFine p (p.d.index p.c.number q) Σ (Bound a q) (Live a Σ q) s k brs
  unfolding IsFineBody BranchesFine binder_at IsFineAt
  with_bounds a q Σ s ar Empty k r at fine f = tt
  with_bounds a q Σ s ar (Node Cons (Node Branch (Node (Binder u b) x y) (Node Cons cells (Node Cons m body))) more) k r at fine f = (
    λ h. ((b, ap (binder_at a) (let z : k ≡ k + 0 = omega arith in z) ∙ at 0, h, (f.0 h).0, ar), either (f.0 h).1),
    with_bounds a q Σ s ar more (suc k) _ (λ j. ap (binder_at a) (let z : suc k + j ≡ k + suc j = omega arith in z) ∙ at (suc j))
        (λ j l v h. subst (λ i. IsFineAt Σ q s l v (first_place q (Find 0)) a i) (let z : k + suc j ≡ suc k + j = omega arith in z) (fine (suc j) l v h)) f.1,
  )
    where
      either : ((AreFineCells p (scope_for p (p.d.index p.c.number q) Σ s k u) cells × IsFineTerm p (scope_for p (p.d.index p.c.number q) Σ s k u) m × (has_cell_at u cells ≡ true)
          × IsFineBody p ss (scope_for p (p.d.index p.c.number q) Σ s k u) (body_place r Cons Branch (Node (Binder u b) x y) Cons cells Cons m) body) ⊎ IsNeverAssigned p Σ cells)
          → (AreFineCells p (scope_for p (p.d.index p.c.number q) Σ s k u) cells × IsFineTerm p (scope_for p (p.d.index p.c.number q) Σ s k u) m × (has_cell_at u cells ≡ true) × Live a Σ q s k u) ⊎ IsNeverAssigned p Σ cells
      either (inl h) = inl (h.0, h.1, h.2, subst (λ i. IsFineAt Σ q s k u (first_place q (Find 0)) a i) (let z : k + 0 ≡ k = omega arith in z) (fine 0 k u h.3))
      either (inr z) = inr z
  with_bounds a q Σ s ar _ k r at fine f = absurd f

  module _ (group : Group) (sites : List Site) (κ : MadeUnder) (key : List ℕ) (sc : Scene p nm κ key) (apart : (x : ℕ) → plain p nm x ≡ true → found_in p.at x ≡ None)
      (t u : Tape) (chosen_same : (z : ℕ) → p.has p.c.number z ≡ true → t (Made_at z (tuple p.at) p.c.number) ≡ u (New_at (p.d.variable p.c.number z) (tuple p.at)))
      (picked_same : (q : ℕ) → p.finds q ≡ true → t (Picked_at q (tuple p.at) p.c.number) ≡ u (Find_at (p.d.label p.c.number q) (tuple p.at)))
      (es : List Happened) (br : Arrays) (n₀ : Store) (kont : Tree → Tree) (P : Served → Type 0) where
    abbrev o : Oracles
    o = record { setting = p.g; group = group; sites = sites }

    abbrev loc : Store → Local
    loc n = record { indices = p.at; memory = record { store = n; events = es; arrays = br } }

    module _ (are : AreSitesOf p (plain p nm) o ss sites) (keys : AllByRecursion (HasKeys p κ (length key) n₀) ss) where
      -- what follows a result is as it should be
      abbrev pub Goes : OracleAnswer → Type 0
      Goes r = (m : Tree) (pl j : ℕ) (vs : List ℕ) (n : Store) → IsAsBefore p nm n₀ n
          → ((v : ℕ) (k : List ℕ) (c : CallNumber) → p.has c.site v ≡ true → r.arrays v k c ≡ at_its_key (κ c) k (n (p.d.variable c.site v) c.tuple))
          → ((c : CallNumber) → κ c ≡ None → (v : ℕ) → p.has c.site v ≡ true → n (p.d.variable c.site v) c.tuple ≡ None)
          → ((n' : Store) → IsLater p nm κ n n' → value p.g p.at n' m ≡ r.value) → P (serve p.g u (kont m) pl j vs (loc n))

      later_self : (n : Store) → IsLater p nm κ n n
      later_self n = record { names = λ y w e. refl; calls = λ c k e v h. refl }

      choose : (n : Store) (b : Bool) (x y : OracleAnswer) (a d : Tree) → (Goes x → (pl : ℕ) → P (serve p.g u a pl 0 [] (loc n))) → (Goes y → (pl : ℕ) → P (serve p.g u d pl 0 [] (loc n)))
          → Goes (cond b x y) → (pl : ℕ) → P (serve p.g u (Node Cons a (Node Cons d Empty)) pl (cond b 0 1) [] (loc n))
      unfolding serve step
      choose n true x y a d f h r pl = f r _
      choose n false x y a d f h r pl = h r _

      value_here : (Σ : Scope) (e : Frame) (n : Store) (q : ℕ) (a : Tree) → IsFineTerm p Σ a → IsServing p nm κ key Σ e n q → value p.g p.at n (in_game p.d p.c Σ a) ≡ body_value p.g e a
      value_here Σ e n q a f st = value_in p κ Σ e n (agrees p nm κ key Σ e n q st) a f

      -- a find: the candidates correspond, so the choices do

      module _ (Σ : Scope) (e : Frame) (n : Store) (q : ℕ) (a els : Tree) (rest : OracleAnswer) (at_branch : ℕ → CallNumber → OracleAnswer) (inner : ℕ → Scope → Tree) (at_find : p.finds q ≡ true) (st : IsServing p nm κ key Σ e n q) (off : IsAsBefore p nm n₀ n)
          (ih : (s : Caller) (k v : ℕ) → Bound a q s k v → Live a Σ q s k v → (num : CallNumber) → num.site ≡ s.number → κ num ≡ Some key
          → fits p.g.interpretation.parameter_value (binders (branch_indices (p.d.index p.c.number q s.number k) 0 s.replications)) num.tuple ≡ true → Goes (at_branch k num)
          → (pl j : ℕ) (vs : List ℕ) → P (serve p.g u (inner k (scope_for p (p.d.index p.c.number q) Σ s k v)) pl j vs (loc (bound_to n (tuple p.at) (binders (branch_indices (p.d.index p.c.number q s.number k) 0 s.replications)) num.tuple))))
          (ie : Goes rest → (pl j : ℕ) (vs : List ℕ) → P (serve p.g u els pl j vs (loc n))) where
        names_of : (a : Tree) (s : Caller) (k v : ℕ) → Bound a q s k v → AreNames p.drawn (p.d.index p.c.number q s.number k) (length s.replications)
        names_of a s k v bd = subst (AreNames p.drawn (p.d.index p.c.number q s.number k)) bd.4 (index_names p nm q s.number k bd.3)

        abbrev Arms : Caller → Type 0
        Arms s = AreFineBranches p ss Σ q s 0 (first_place q (Find 0)) a

        as_site : (s : Caller) (S : Site) → IsSiteOf p (plain p nm) o s S → HasKeys p κ (length key) n₀ s → IsSite p (plain p nm) apart (p.d.index p.c.number q) group sites κ Σ e n inner (Bound a q) (names_of a) (Live a Σ q) s S
        as_site s S r hk = record {
          number = r.number;
          bound = r.bound;
          below = λ name w k. fits_below p.g.interpretation.parameter_value name w k s.replications ∙ ap (is_below w) (sym r.bounds);
          arity = r.arity;
          own = r.own;
          key = r.key_terms;
          known = λ k v bd w f. record {
            arrays = st.arrays;
            unmade = λ z. st.unmade (record { tuple = w; site = s.number }) z;
            key = λ j z. sym (keys_agree p (plain p nm) n₀ n plain_off (indices_at s.replications w) (is_index_of s.replications) (hk.found w j z) s.key r.key_terms) ∙ hk.values w j z;
            needed = λ j z. all_needed_agree p (plain p nm) n₀ n plain_off (indices_at s.replications w) (is_index_of s.replications) (hk.found w j z) s.key r.key_terms (hk.assigned w j z);
            number = st.number;
            mine = sc.mine ∙ ap Some (sym st.its_key);
            unassigned = st.unassigned;
            lengths = λ j z. hk.lengths w j z ∙ sym (ap length st.its_key);
            kept = plain_bound p nm κ key sc Σ e n q s.number k bd.3 s.replications bd.4 w st;
            here = here_bound p nm κ key sc Σ e n q s.number k bd.3 s.replications bd.4 w st ∙ sym st.its_key;
            arrays' = arrays_bound p nm κ key sc Σ e n q s.number k bd.3 s.replications bd.4 w st;
            names' = names_bound p nm κ key sc Σ e n q s.number k bd.3 s.replications bd.4 w st;
          };
        }
          where
            plain_off : AgreeOn (plain p nm) n₀ n
            plain_off y w e = off.elsewhere y w (plain_elsewhere p nm y e)

        abbrev X : Tree
        X = expanded p.d p.c Σ (p.d.index p.c.number q) inner ss a

        abbrev R : Candidate → Pick → Type 0
        R = Corresponds p (plain p nm) apart (p.d.index p.c.number q) group sites κ Σ e n inner (Bound a q) (names_of a) (Live a Σ q) X 0

        abbrev Ready : List Caller → List Site → Type 0
        Ready rs Rs = AreSites p (plain p nm) apart (p.d.index p.c.number q) group sites κ Σ e n inner (Bound a q) (names_of a) (Live a Σ q) a rs Rs

        all_sites : (rs : List Caller) (Rs : List Site) → AreSitesOf p (plain p nm) o rs Rs → AllByRecursion (HasKeys p κ (length key) n₀) rs → AllByRecursion Arms rs → Ready rs Rs
        all_sites [] [] r hk f = tt
        all_sites (s ∷ rs) (S ∷ Rs) r hk f = (as_site s S r.0 hk.0, with_bounds a q Σ s r.0.arity a 0 (first_place q (Find 0)) (λ j. ap (binder_at a) (let z : 0 + j ≡ j = omega arith in z)) (λ j l u h. subst (λ i. IsFineAt Σ q s l u (first_place q (Find 0)) a i) (let z : j ≡ 0 + j = omega arith in z) h) f.0, all_sites rs Rs r.1 hk.1 f.1)
        all_sites [] (S ∷ Rs) r hk f = absurd r
        all_sites (s ∷ rs) [] r hk f = absurd r

        cell : ℕ
        cell = u (Find_at (p.d.label p.c.number q) (tuple p.at))

        matched : AllByRecursion Arms ss → Ready ss sites → Maybe R (chosen (candidates p.g p.at n X) cell) (picked (picks o e a) (t (Picked_at q (tuple p.at) p.c.number)))
        unfolding candidates cell
        matched f all =
            subst (λ z. Maybe R (chosen (candidates p.g p.at n X) cell) (picked (picks o e a) z)) (sym (picked_same q at_find))
            (subst (λ qs. Maybe R (chosen (candidates p.g p.at n X) cell) (picked qs cell)) (sym (looks_at_enough p (plain p nm) group sites ss q Σ inner e a (first_place q (Find 0)) ss are f))
            (choice_match R _ _ (all_match p (plain p nm) apart (p.d.index p.c.number q) group sites κ Σ e n inner (Bound a q) (names_of a) (Live a Σ q) a ss all (tuples_up_to (most_indices X) (widest p.g.interpretation.parameter_value X))) cell))

        -- into the branch
        into : (caller : Caller) (k : ℕ) (branch : Tree) → MadeFor p (plain p nm) apart (p.d.index p.c.number q) group sites κ Σ e n inner (Bound a q) (names_of a) (Live a Σ q) caller k branch
            → (num : CallNumber) → num.site ≡ caller.number → κ num ≡ Some key → fits p.g.interpretation.parameter_value (binders (branch_indices (p.d.index p.c.number q caller.number k) 0 caller.replications)) num.tuple ≡ true → Goes (at_branch k num)
            → (pl : ℕ) → P (serve p.g u branch pl 0 num.tuple (loc n))
        unfolding serve step
        into caller k branch (made_for _ _ v cells m bd lv) num es km f go pl = ih caller k v bd lv num es km f go _ 0 []

        picked_served : (oc : Option Candidate) (op : Option Pick) → Maybe R oc op → Goes (after_pick at_branch rest op) → (pl pe : ℕ) → P (after_turn (λ r. r) (serve p.g u X pl) (serve p.g u els pe) (after_find (loc n) oc))
        picked_served None None h r pl pe = ie r pe 0 []
        picked_served (Some c) (Some k) h r pl pe =
            subst (λ w. P (serve p.g u X pl c.branch w (loc n))) (sym h.tuple)
            (lands_serve p u P X h.branch 0 c.branch h.lands k.number.tuple (loc n)
            (λ pl. into h.caller k.branch h.branch h.made k.number h.site (h.under ∙ ap Some st.its_key) (subst (λ w. fits p.g.interpretation.parameter_value (binders (branch_indices (p.d.index p.c.number q h.caller.number k.branch) 0 h.caller.replications)) w ≡ true) h.tuple h.fit) r pl)
            pl c.branch (omega arith))
        picked_served None (Some k) h r pl pe = absurd h
        picked_served (Some c) None h r pl pe = absurd h

        no_branch : chosen (candidates p.g p.at n Empty) cell ≡ None
        unfolding candidates candidates_at chosen tuples_up_to
        no_branch = refl

        pub find_served : AllByRecursion Arms ss → Goes (after_pick at_branch rest (picked (picks o e a) (t (Picked_at q (tuple p.at) p.c.number))))
            → (pl j : ℕ) (vs : List ℕ) → P (serve p.g u (find_or_else (p.d.label p.c.number q) X els) pl j vs (loc n))
        unfolding serve step cell
        find_served f r pl j vs = go X refl (matched f (all_sites ss sites are keys f))
          where
            go : (Y : Tree) → X ≡ Y → Maybe R (chosen (candidates p.g p.at n X) cell) (picked (picks o e a) (t (Picked_at q (tuple p.at) p.c.number))) → P (serve p.g u (find_or_else (p.d.label p.c.number q) Y els) pl j vs (loc n))
            go Empty i h = none (picked (picks o e a) (t (Picked_at q (tuple p.at) p.c.number))) (subst (λ z. Maybe R z (picked (picks o e a) (t (Picked_at q (tuple p.at) p.c.number)))) (ap (λ Y. chosen (candidates p.g p.at n Y) cell) i ∙ no_branch) h) r
              where
                none : (op : Option Pick) → Maybe R None op → Goes (after_pick at_branch rest op) → P (serve p.g u els pl j vs (loc n))
                none None h r = ie r pl j vs
                none (Some k) h r = absurd h
            go (Node h b d) i m =
                subst (λ Y. P (after_turn (λ r. r) (serve p.g u Y (first_place pl (Find (p.d.label p.c.number q)))) (serve p.g u els (second_place pl (Find (p.d.label p.c.number q)) Y)) (after_find (loc n) (chosen (candidates p.g p.at n Y) cell)))) i
                (picked_served (chosen (candidates p.g p.at n X) cell) (picked (picks o e a) (t (Picked_at q (tuple p.at) p.c.number))) m r _ _)

      pub is_served : Scope → Frame → ℕ → Tree → Type 0
      is_served Σ e q b =
          (n : Store) → IsServing p nm κ key Σ e n q → IsAsBefore p nm n₀ n → Goes (body_answer o t e q b) → (pl j : ℕ) (vs : List ℕ) → P (serve p.g u (inlined_body p.d ss p.c Σ q b kont) pl j vs (loc n))

      off_then : (n m : Store) → IsAsBefore p nm n₀ n → IsAsBefore p nm n m → IsAsBefore p nm n₀ m
      off_then n m h k = record { elsewhere = agree_then (elsewhere p nm) n₀ n m h.elsewhere k.elsewhere; other_tuples = λ x u e. h.other_tuples x u e ∙ k.other_tuples x u e }

      later_place : (q : ℕ) (h : Head) (a : Tree) → q ≤ second_place q h a
      later_place q h a = omega arith

      mutual
        unfolding serve step IsFineBody IsFineAt body_answer branch_answer inlined_body inlined_branch binder_at

        pub body_served : (b : Tree) (Σ : Scope) (e : Frame) (q : ℕ) → IsFineBody p ss Σ q b → (n : Store) → IsServing p nm κ key Σ e n q → IsAsBefore p nm n₀ n → Goes (body_answer o t e q b)
            → (pl j : ℕ) (vs : List ℕ) → P (serve p.g u (inlined_body p.d ss p.c Σ q b kont) pl j vs (loc n))
        body_served (Node (New z T) a b) Σ e q f n st off r pl j vs =
            let v : ℕ = u (New_at (p.d.variable p.c.number z) (tuple p.at)) in
            let same : t (Made_at z e.number.tuple e.number.site) ≡ v = ap (λ (i : CallNumber). t (Made_at z i.tuple i.site)) st.number ∙ chosen_same z f.0 in
            body_served b ((z, Own) ∷ Σ) (assigned e z v) (second_place q (New z T) a) f.1 (put n (p.d.variable p.c.number z) (tuple p.at) v)
            (stage_later p nm κ key sc _ _ _ q _ (later_place q (New z T) a) (stage_put p nm κ key sc Σ e n q z v f.0 st)) (off_then n _ off (elsewhere_put p nm κ key sc Σ e n q z v f.0 st))
            (subst (λ v. Goes (body_answer o t (assigned e z v) (second_place q (New z T) a) b)) same r) _ 0 []
        body_served (Node (Let z T) a b) Σ e q f n st off r pl j vs =
            let v : ℕ = value p.g p.at n (in_game p.d p.c Σ a) in
            body_served b ((z, Own) ∷ Σ) (assigned e z v) (second_place q (Let z T) a) f.2 (put n (p.d.variable p.c.number z) (tuple p.at) v)
            (stage_later p nm κ key sc _ _ _ q _ (later_place q (Let z T) a) (stage_put p nm κ key sc Σ e n q z v f.0 st)) (off_then n _ off (elsewhere_put p nm κ key sc Σ e n q z v f.0 st))
            (subst (λ v. Goes (body_answer o t (assigned e z v) (second_place q (Let z T) a) b)) (sym (value_here Σ e n q a f.1 st)) r) _ 0 []
        body_served (Node If a (Node h b (Node i c d))) Σ e q f n st off r pl j vs =
            subst (λ v. P (serve p.g u (Node Cons (inlined_body p.d ss p.c Σ (first_place (second_place q If a) h) b kont) (Node Cons (inlined_body p.d ss p.c Σ (first_place (second_place (second_place q If a) h b) i) c kont) Empty)) (second_place pl If (in_game p.d p.c Σ a)) (cond (is_one v) 0 1) [] (loc n)))
            (sym (value_here Σ e n q a f.0 st))
            (choose n (is_one (body_value p.g e a)) (body_answer o t e (first_place (second_place q If a) h) b) (body_answer o t e (first_place (second_place (second_place q If a) h b) i) c)
            (inlined_body p.d ss p.c Σ (first_place (second_place q If a) h) b kont) (inlined_body p.d ss p.c Σ (first_place (second_place (second_place q If a) h b) i) c kont)
            (λ r pl. body_served b Σ e (first_place (second_place q If a) h) f.1 n (stage_later p nm κ key sc Σ e n q _ (omega arith) st) off r pl 0 [])
            (λ r pl. body_served c Σ e (first_place (second_place (second_place q If a) h b) i) f.2 n (stage_later p nm κ key sc Σ e n q _ (omega arith) st) off r pl 0 [])
            r (second_place pl If (in_game p.d p.c Σ a)))
        body_served (Node (Find l) a b) Σ e q f n st off r pl j vs =
            find_served Σ e n q a (inlined_body p.d ss p.c Σ (second_place q (Find l) a) b kont) (body_answer o t e (second_place q (Find l) a) b) (branch_answer o t e (first_place q (Find l)) a) (λ j Τ. inlined_branch p.d ss p.c Τ (first_place q (Find l)) a kont j) f.0 st off
            (λ s k v bd lv num es km fit go pl j vs.
            branch_served a q (first_place q (Find l)) (omega arith) s k k Σ e v lv (bd.0, bd.1) bd.3 bd.4 n st off num es km fit go pl j vs)
            (λ go pl j vs. body_served b Σ e (second_place q (Find l) a) f.2 n (stage_later p nm κ key sc Σ e n q _ (later_place q (Find l) a) st) off go pl j vs)
            f.1 (subst (λ (i : CallNumber). Goes (after_pick (branch_answer o t e (first_place q (Find l)) a) (body_answer o t e (second_place q (Find l) a) b) (picked (picks o e a) (t (Picked_at q i.tuple i.site))))) st.number r) pl j vs
        body_served m Σ e q f n st off r pl j vs =
            r (in_game p.d p.c Σ m) pl j vs n off st.arrays st.unmade
            (λ n' la. value_in p κ Σ e n' (result_later p nm κ key sc Σ e n q st n' la) m f)

        branch_served : (brs : Tree) (q r : ℕ) → q < r → (s : Caller) (i k : ℕ) (Σ : Scope) (e : Frame) (v : ℕ) → IsFineAt Σ q s k v r brs i → (b : ℕ) × (binder_at brs i ≡ Some (v, b)) → p.opens q s.number k ≡ true → p.arity s.number ≡ length s.replications
            → (n : Store) → IsServing p nm κ key Σ e n q → IsAsBefore p nm n₀ n → (num : CallNumber) → num.site ≡ s.number → κ num ≡ Some key → fits p.g.interpretation.parameter_value (binders (branch_indices (p.d.index p.c.number q s.number k) 0 s.replications)) num.tuple ≡ true
            → Goes (branch_answer o t e r brs i num)
            → (pl j : ℕ) (vs : List ℕ) → P (serve p.g u (inlined_branch p.d ss p.c (scope_for p (p.d.index p.c.number q) Σ s k v) r brs kont i) pl j vs (loc (bound_to n (tuple p.at) (binders (branch_indices (p.d.index p.c.number q s.number k) 0 s.replications)) num.tuple)))
        branch_served (Node Cons (Node Branch (Node (Binder v' b') x y) (Node Cons cells (Node Cons m body))) more) q r l s zero k Σ e v f bd op ar n st off num es km fit go pl j vs =
            let same : v' ≡ v = ap name_in bd.1 in
            let place : ℕ = body_place r Cons Branch (Node (Binder v' b') x y) Cons cells Cons m in
            body_served body (scope_for p (p.d.index p.c.number q) Σ s k v) (with_call e v num) place f (bound_to n (tuple p.at) (binders (branch_indices (p.d.index p.c.number q s.number k) 0 s.replications)) num.tuple)
            (stage_bound p nm κ key sc Σ e n q s.number k op s.replications ar num.tuple st v place (omega arith) num refl es km fit)
            (off_then n _ off (elsewhere_bound p nm κ key sc Σ e n q s.number k op s.replications ar num.tuple st))
            (subst (λ z. Goes (body_answer o t (with_call e z num) place body)) same go) pl j vs
        branch_served (Node Cons (Node Branch (Node (Binder v' b') x y) (Node Cons cells (Node Cons m body))) more) q r l s (suc i) k Σ e v f bd op ar n st off num es km fit go pl j vs =
            branch_served more q (second_place r Cons (Node Branch (Node (Binder v' b') x y) (Node Cons cells (Node Cons m body)))) (omega arith) s i k Σ e v f bd op ar n st off num es km fit go pl j vs
        branch_served brs q r l s i k Σ e v f bd op ar n st off num es km fit go pl j vs = absurd f

      -- with its arguments, whose values the body's own variables don't change
      abbrev pub ArgumentsAre : Tree → List ℕ → Type 0
      ArgumentsAre ms vs = (n : Store) → IsAsBefore p nm n₀ n → values p.g p.at n ms ≡ vs

      head_of : List ℕ → ℕ
      head_of [] = 0
      head_of (v ∷ vs) = v

      tail_of : List ℕ → List ℕ
      tail_of [] = []
      tail_of (v ∷ vs) = vs

      pub call_served : (body : Tree) (xs : List (ℕ × ℕ)) (ms : Tree) (vs : List ℕ) (Σ : Scope) (e : Frame) → IsFineCall p ss Σ xs ms body → (n : Store) → IsServing p nm κ key Σ e n 0 → IsAsBefore p nm n₀ n → ArgumentsAre ms vs
          → Goes (body_answer o t (with_arguments e xs vs) 0 body) → (pl j : ℕ) (ws : List ℕ) → P (serve p.g u (inlined_call p.d ss p.c Σ xs ms body kont) pl j ws (loc n))
      unfolding serve step IsFineCall inlined_call value head_of tail_of
      call_served body [] ms vs Σ e f n st off va r pl j ws = body_served body Σ e 0 f n st off r pl j ws
      call_served body (x ∷ xs) Empty [] Σ e f n st off va r pl j ws = body_served body Σ e 0 f n st off r pl j ws
      call_served body (x ∷ xs) Empty (v ∷ vs) Σ e f n st off va r pl j ws = absurd (clash (va n off))
        where
          clash : [] ≡ v ∷ vs → ⊥
          clash e = cc
      call_served body (x ∷ xs) (Node h m more) [] Σ e f n st off va r pl j ws = absurd (clash (va n off))
        where
          clash : value p.g p.at n m ∷ values p.g p.at n more ≡ [] → ⊥
          clash e = cc
      call_served body (x ∷ xs) (Node h m more) (v ∷ vs) Σ e f n st off va r pl j ws =
          call_served body xs more vs ((x.0, Own) ∷ Σ) (assigned e x.0 v) f.1 (put n (p.d.variable p.c.number x.0) (tuple p.at) (value p.g p.at n m))
          (subst (λ z. IsServing p nm κ key ((x.0, Own) ∷ Σ) (assigned e x.0 z) (put n (p.d.variable p.c.number x.0) (tuple p.at) (value p.g p.at n m)) 0) (ap head_of (va n off)) (stage_put p nm κ key sc Σ e n 0 x.0 (value p.g p.at n m) f.0 st))
          (off_then n _ off (elsewhere_put p nm κ key sc Σ e n 0 x.0 (value p.g p.at n m) f.0 st)) (λ n' a. ap tail_of (va n' a)) r _ 0 []
