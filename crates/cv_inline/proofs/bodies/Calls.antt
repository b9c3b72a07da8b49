-- The relation of the context's memory and the next game's store, and a call that keeps it.
use Rattle.std.proofs.Common.{◌≡◌, ℕ, Bool, true, false, cond, ◌&&◌, ◌==◌, List, [], ◌∷◌, Option, Some, None, refl, sym, ap, ap₂, subst, ◌∙◌, length, is_some, eq-eqb, eqb-true}
use Rattle.std.proofs.lemmas.Bool.{both_ways, and_parts}
use Rattle.std.specs.List.{AllByRecursion}
use Rattle.cv_syntax_trees.specs.Tree.{Tree}
use Rattle.cv_meaning.specs.Tapes.{Tape, New_at, Find_at, Made_at, Picked_at, Key_at, same_tuple}
use Rattle.cv_meaning.specs.Side.{CallNumber, Arrays, OracleAnswer}
use Rattle.cv_meaning.specs.Memory.{Store, Happened, tuple, put}
use Rattle.cv_meaning.specs.Terms.{found_in, value, values}
use Rattle.cv_meaning.specs.Serving.{Served, serve}
use Rattle.cv_meaning_laws.specs.Agreement.{AgreeOn}
use Rattle.cv_meaning_laws.proofs.Counts.{same_tuple_exact, same_tuple_refl}
use Rattle.cv_meaning.specs.contexts.Groups.{Group}
use Rattle.cv_meaning.specs.contexts.Sites.{Site}
use Rattle.cv_meaning.specs.contexts.Frames.{Frame, IsValue, same_number}
use Rattle.cv_meaning.specs.contexts.Bodies.{with_arguments, body_answer}
use Rattle.cv_meaning.specs.contexts.Inlined.{Caller, TheKey, Scope, is_index_of, inlined_call}
use Rattle.cv_inline.specs.bodies.Inlining.{Inlining, Naming, plain}
use Rattle.cv_inline.specs.bodies.Accepted.{IsFineCall}
use Rattle.cv_meaning.specs.contexts.KeyTerms.{AreFineKeyTerms}
use Rattle.cv_inline.specs.bodies.Related.{MadeUnder, with_made, at_its_key, indices_at, IsKept, this_call, IsMeant, AreSitesOf, HasKeys, IsOpened, IsAsBefore, IsServing, IsLater, KeyStays, AreRelated}
use Rattle.cv_inline.proofs.bodies.Roles.{plain_elsewhere}
use Rattle.cv_inline.proofs.bodies.Stages.{Scene, keys_agree, all_needed_agree}
use Rattle.cv_inline.proofs.bodies.Bodies.{call_served}

-- a site, as it stands in the text
module _ (p : Inlining) (nm : Naming p) (answer : ℕ → ℕ) (group : Group) (sites : List Site) where
  module _ (ss : List Caller) (κ : MadeUnder) (M : Store) (ar : Arrays) (N : Store) (kp : AreRelated p nm answer ss κ M ar N) (t u : Tape) (key : List ℕ)
      (found : (x : ℕ) → is_index_of p.c.replications x ≡ true → (v : ℕ) × (found_in p.at x ≡ Some v)) (arity : length (tuple p.at) ≡ p.arity p.c.number) (key_terms : AreFineKeyTerms (is_index_of p.c.replications) (plain p nm) p.c.key)
      (apart : (x : ℕ) → plain p nm x ≡ true → found_in p.at x ≡ None)
      (chosen_same : (z : ℕ) → p.has p.c.number z ≡ true → t (Made_at z (tuple p.at) p.c.number) ≡ u (New_at (p.d.variable p.c.number z) (tuple p.at)))
      (picked_same : (q : ℕ) → p.finds q ≡ true → t (Picked_at q (tuple p.at) p.c.number) ≡ u (Find_at (p.d.label p.c.number q) (tuple p.at)))
      -- what is expected of the visit: its answer is not assigned yet, its key is chosen, and the key's terms stay
      (fresh : M (answer p.c.number) (tuple p.at) ≡ None) (key_value : values p.g p.at M p.c.key ≡ key) (key_chosen : N p.d.key key ≡ Some (t (Key_at key)))
      (stays_here : AllByRecursion (λ s. s.number ≡ p.c.number → KeyStays p nm M s (tuple p.at) key) ss) where
    abbrev pub this : CallNumber
    this = (this_call p)

    abbrev pub κ' : MadeUnder
    κ' = with_made κ ((this_call p)) key

    not_made : κ this ≡ None
    not_made = go (κ this) refl
      where
        go : (o : Option (List ℕ)) → κ this ≡ o → κ this ≡ None
        go None e = e
        go (Some k) e = absurd (both_ways _ (ap is_some fresh) (kp.answered this k e))

    same_itself : same_number this this ≡ true
    same_itself = ap₂ ◌&&◌ (eq-eqb p.c.number p.c.number refl) (same_tuple_refl (tuple p.at))

    made_now : κ' this ≡ Some key
    made_now = ap (λ b. cond b (Some key) (κ this)) same_itself

    -- a call number is this one, or is made as before
    is_this : (c : CallNumber) → same_number c this ≡ true → c ≡ this
    is_this c e = let q = and_parts (c.site == p.c.number) _ e in λ i. record { tuple = same_tuple_exact c.tuple (tuple p.at) q.1 i; site = eqb-true c.site p.c.number q.0 i }

    arrays' : (v : ℕ) (k : List ℕ) (c : CallNumber) → p.has c.site v ≡ true → ar v k c ≡ at_its_key (κ' c) k (N (p.d.variable c.site v) c.tuple)
    arrays' v k c h = go (same_number c this) refl
      where
        none : (j : List ℕ) → at_its_key (Some j) k None ≡ None
        none j = flat (same_tuple j k)
          where
            flat : (b : Bool) → ◌≡◌ {A = Option ℕ} (cond b None None) None
            flat true = refl
            flat false = refl

        go : (b : Bool) → same_number c this ≡ b → ar v k c ≡ at_its_key (cond b (Some key) (κ c)) k (N (p.d.variable c.site v) c.tuple)
        go true e =
            let z : κ c ≡ None = ap κ (is_this c e) ∙ not_made in
            kp.arrays v k c h ∙ ap (λ o. at_its_key o k (N (p.d.variable c.site v) c.tuple)) z ∙ sym (ap (at_its_key (Some key) k) (kp.unmade c z v h) ∙ none key)
        go false e = kp.arrays v k c h

    unmade' : (c : CallNumber) → κ' c ≡ None → (v : ℕ) → p.has c.site v ≡ true → N (p.d.variable c.site v) c.tuple ≡ None
    unmade' c z v h = go (same_number c this) refl z
      where
        clash : Some key ≡ None → ⊥
        clash e = cc

        go : (b : Bool) → same_number c this ≡ b → cond b (Some key) (κ c) ≡ None → N (p.d.variable c.site v) c.tuple ≡ None
        go true e z = absurd (clash z)
        go false e z = kp.unmade c z v h

    pub scene : Scene p nm κ' key
    scene = record { mine = made_now; key_terms = key_terms; found = found; at_arity = arity }

    key_there : values p.g p.at N p.c.key ≡ key
    key_there = sym (keys_agree p (plain p nm) M N kp.ordinary p.at (is_index_of p.c.replications) found p.c.key key_terms) ∙ key_value

    kept_itself : IsKept M M
    kept_itself x w v e = e

    -- what is known of each site's calls, this one among them
    abbrev StayAll : List Caller → Type 0
    StayAll = AllByRecursion (λ s. (w k : List ℕ) → κ (record { tuple = w; site = s.number }) ≡ Some k → KeyStays p nm M s w k × (length k ≡ length (values p.g p.at M p.c.key)))

    abbrev HereAll : List Caller → Type 0
    HereAll = AllByRecursion (λ s. s.number ≡ p.c.number → KeyStays p nm M s (tuple p.at) key)

    one_ready : (s : Caller) → (s.number ≡ p.c.number → KeyStays p nm M s (tuple p.at) key) → ((w k : List ℕ) → κ (record { tuple = w; site = s.number }) ≡ Some k → KeyStays p nm M s w k × (length k ≡ length (values p.g p.at M p.c.key))) → (w k : List ℕ) → κ' (record { tuple = w; site = s.number }) ≡ Some k → KeyStays p nm M s w k × (length k ≡ length key)
    one_ready s now_here old w k z = go (same_number (record { tuple = w; site = s.number }) this) refl z
      where
        some_same : (j : List ℕ) → Some j ≡ Some k → j ≡ k
        some_same j e = cc

        go : (b : Bool) → same_number (record { tuple = w; site = s.number }) this ≡ b → cond b (Some key) (κ (record { tuple = w; site = s.number })) ≡ Some k → KeyStays p nm M s w k × (length k ≡ length key)
        go true e z =
            let q = is_this (record { tuple = w; site = s.number }) e in
            let ek : key ≡ k = some_same key z in
            (subst (λ v. KeyStays p nm M s v k) (sym (ap (λ (c : CallNumber). c.tuple) q)) (subst (λ j. KeyStays p nm M s (tuple p.at) j) ek (now_here (ap (λ (c : CallNumber). c.site) q))), ap length (sym ek))
        go false e z = let r = old w k z in (r.0, r.1 ∙ ap length key_value)

    keys_ready : (rs : List Caller) → HereAll rs → StayAll rs → AllByRecursion (λ s. AreFineKeyTerms (is_index_of s.replications) (plain p nm) s.key) rs → AllByRecursion (HasKeys p κ' (length key) N) rs
    keys_ready [] y h f = tt
    keys_ready (s ∷ rs) y h f = (
      record {
        found = λ w k z. (one_ready s y.0 h.0 w k z).0.found;
        values = λ w k z. let r = (one_ready s y.0 h.0 w k z).0 in sym (keys_agree p (plain p nm) M N kp.ordinary (indices_at s.replications w) (is_index_of s.replications) r.found s.key f.0) ∙ r.value M kept_itself;
        assigned = λ w k z. let r = (one_ready s y.0 h.0 w k z).0 in
            all_needed_agree p (plain p nm) M N kp.ordinary (indices_at s.replications w) (is_index_of s.replications) r.found s.key f.0 (r.assigned M kept_itself);
        lengths = λ w k z. (one_ready s y.0 h.0 w k z).1;
      },
      keys_ready rs y.1 h.1 f.1,
    )

    key_terms_of : (rs : List Caller) (Rs : List Site) → AreSitesOf p (plain p nm) (record { setting = p.g; group = group; sites = sites }) rs Rs → AllByRecursion (λ s. AreFineKeyTerms (is_index_of s.replications) (plain p nm) s.key) rs
    key_terms_of [] [] f = tt
    key_terms_of (s ∷ rs) (S ∷ Rs) f = (f.0.key_terms, key_terms_of rs Rs f.1)
    key_terms_of [] (S ∷ Rs) f = absurd f
    key_terms_of (s ∷ rs) [] f = absurd f

    abbrev pub frame : ℕ → Frame
    frame k = record { key = key; number = (this_call p); names = (k, IsValue (t (Key_at key))) ∷ []; arrays = ar }

    abbrev pub first_scope : ℕ → Scope
    first_scope k = (k, TheKey) ∷ []

    begins : (k : ℕ) → IsServing p nm κ' key (first_scope k) (frame k) N 0
    begins k = record {
      arrays = arrays';
      names = λ x. go x (k == x);
      opened = λ x. reach x (k == x);
      number = refl;
      its_key = refl;
      here = key_there;
      unmade = unmade';
      unassigned = λ x hx i. kp.unmade this not_made x hx;
    }
      where
        reach : (x : ℕ) (b : Bool) → IsOpened p nm 0 (cond b (Some TheKey) None)
        reach x true = tt
        reach x false = tt

        go : (x : ℕ) (b : Bool) → IsMeant p κ' key N x (cond b (Some TheKey) None) (cond b (Some (IsValue (t (Key_at key)))) None)
        go x true = ap (N p.d.key) key_there ∙ key_chosen
        go x false = tt

    -- the call is made, the rest is served
    module _ (k : ℕ) (body : Tree) (xs : List (ℕ × ℕ)) (ms : Tree) (vs : List ℕ) (sound : IsFineCall p ss (first_scope k) xs ms body) (are : AreSitesOf p (plain p nm) (record { setting = p.g; group = group; sites = sites }) ss sites) (kont : Tree → Tree) (P : Served → Type 0) (es : List Happened) (br : Arrays)
        (others : (n : Store) → IsAsBefore p nm N n → values p.g p.at n ms ≡ vs) (answer_apart : plain p nm (answer p.c.number) ≡ false) where
      abbrev pub r : OracleAnswer
      r = body_answer (record { setting = p.g; group = group; sites = sites }) t (with_arguments (frame k) xs vs) 0 body

      abbrev pub M' : Store
      M' = put M (answer p.c.number) (tuple p.at) r.value

      grows : IsKept M M'
      unfolding put
      grows x w v e = go (x == answer p.c.number) (same_tuple w (tuple p.at)) refl refl
        where
          clash : None ≡ Some v → ⊥
          clash e = cc

          go : (b c : Bool) → (x == answer p.c.number) ≡ b → same_tuple w (tuple p.at) ≡ c → cond (b && c) (Some r.value) (M x w) ≡ Some v
          go true true i j = absurd (clash (sym (ap (λ y. M y (tuple p.at)) (eqb-true x (answer p.c.number) i) ∙ fresh) ∙ ap (M x) (sym (same_tuple_exact w (tuple p.at) j)) ∙ e))
          go true false i j = e
          go false c i j = e

      stays_on : (s : Caller) (w j : List ℕ) → KeyStays p nm M s w j → KeyStays p nm M' s w j
      stays_on s w j h = record { found = h.found; value = λ m l. h.value m (λ x w v e. l x w v (grows x w v e)); assigned = λ m l. h.assigned m (λ x w v e. l x w v (grows x w v e)) }

      ordinary_put : AgreeOn (plain p nm) M M'
      unfolding put
      ordinary_put y w e = go (y == answer p.c.number) refl
        where
          go : (b : Bool) → (y == answer p.c.number) ≡ b → M y w ≡ cond (b && same_tuple w (tuple p.at)) (Some r.value) (M y w)
          go true i = absurd (both_ways _ answer_apart (ap (plain p nm) (sym (eqb-true y (answer p.c.number) i)) ∙ e))
          go false i = refl

      key_still : values p.g p.at M' p.c.key ≡ key
      key_still = sym (keys_agree p (plain p nm) M M' ordinary_put p.at (is_index_of p.c.replications) found p.c.key key_terms) ∙ key_value

      answered' : (c : CallNumber) (j : List ℕ) → κ' c ≡ Some j → is_some (M' (answer c.site) c.tuple) ≡ true
      unfolding put
      answered' c j z = go (same_number c this) refl z
        where
          or_so : (b : Bool) (o : Option ℕ) → is_some o ≡ true → is_some (cond b (Some r.value) o) ≡ true
          or_so true o e = refl
          or_so false o e = e

          go : (b : Bool) → same_number c this ≡ b → cond b (Some key) (κ c) ≡ Some j → is_some (M' (answer c.site) c.tuple) ≡ true
          go true e z = ap (λ (d : CallNumber). is_some (M' (answer d.site) d.tuple)) (is_this c e) ∙ ap₂ (λ b d. is_some (cond (b && d) (Some r.value) (M (answer p.c.number) (tuple p.at)))) (eq-eqb (answer p.c.number) (answer p.c.number) refl) (same_tuple_refl (tuple p.at))
          go false e z = or_so ((answer c.site == answer p.c.number) && same_tuple c.tuple (tuple p.at)) (M (answer c.site) c.tuple) (kp.answered c j z)

      all_stay : (rs : List Caller) → HereAll rs → StayAll rs → AllByRecursion (λ s. (w j : List ℕ) → κ' (record { tuple = w; site = s.number }) ≡ Some j → KeyStays p nm M' s w j × (length j ≡ length (values p.g p.at M' p.c.key))) rs
      all_stay [] y h = tt
      all_stay (s ∷ rs) y h = (λ w j z. let q = one_ready s y.0 h.0 w j z in (stays_on s w j q.0, q.1 ∙ sym (ap length key_still)), all_stay rs y.1 h.1)

      pub call_kept : ((m : Tree) (N' : Store) (pl j : ℕ) (ws : List ℕ) → AreRelated p nm answer ss κ' M' r.arrays N' → IsAsBefore p nm N N' → ((n' : Store) → IsLater p nm κ' N' n' → value p.g p.at n' m ≡ r.value)
          → P (serve p.g u (kont m) pl j ws (record { indices = p.at; memory = record { store = N'; events = es; arrays = br } })))
          → (pl j : ℕ) (ws : List ℕ) → P (serve p.g u (inlined_call p.d ss p.c (first_scope k) xs ms body kont) pl j ws (record { indices = p.at; memory = record { store = N; events = es; arrays = br } }))
      call_kept rest pl j ws =
          call_served p nm ss group sites κ' key scene apart t u chosen_same picked_same es br N kont P are (keys_ready ss stays_here kp.stays (key_terms_of ss sites are)) body xs ms vs (first_scope k) (frame k) sound N (begins k) (record { elsewhere = λ y w e. refl; other_tuples = λ x u e. refl }) others
          (λ m pl j ws n off arr un val.
          rest m n pl j ws (record {
            ordinary = λ y w e. sym (ordinary_put y w e) ∙ kp.ordinary y w e ∙ off.elsewhere y w (plain_elsewhere p nm y e);
            arrays = arr;
            unmade = un;
            answered = answered';
            stays = all_stay ss stays_here kp.stays;
          }) off val)
          pl j ws
