-- All that the texts of the right side bind is drawn.
use Rattle.std.proofs.Common.{◌≡◌, ℕ, suc, Bool, true, false, cond, not, ◌&&◌, ◌||◌, ◌==◌, List, [], ◌∷◌, ◌++◌, map, filter, flat_map, length, inl, inr, refl, sym, ap, ap₂, subst, ◌∙◌, eq-eqb}
use Rattle.std.proofs.lemmas.Bool.{both_ways}
use Rattle.std.specs.List.{AllByRecursion}
use Rattle.cv_syntax_trees.specs.declared.head.Head.{Head}
use Rattle.cv_syntax_trees.specs.declared.head.Head.TheVariants.{New, Let, If, Find, Branch, Cons, Binder}
use Rattle.cv_syntax_trees.specs.Tree.{Tree, Node, first_place, second_place}
use Rattle.cv_meaning_laws.proofs.Listed.{Has, has_flat_map, has_left, has_map, has_right}
use Rattle.cv_meaning.specs.contexts.Groups.{Group}
use Rattle.cv_meaning.specs.contexts.Bodies.{body_place}
use Rattle.cv_meaning.specs.contexts.Roles.{Role, TheKeyName, Variable, Index}
use Rattle.cv_meaning.specs.contexts.Inlined.{Caller}
use Rattle.cv_inline.specs.NextGame.{Calling, callers_of}
use Rattle.cv_inline.specs.Draws.{Draw, argument_draws, body_draws, branch_draws, branches_draws, each_role_once, finds_in, index_draws, is_drawn, label_draws, roles_of, same_find, same_role, site_draws}
use Rattle.cv_inline.proofs.Named.{same_role_exact}
use Rattle.cv_inline_laws.specs.draws.DrawnNames.{AreBranchesDrawn, AreIndicesDrawn, DrawnNames, IsBodyDrawn, IsCallDrawn, has_find, has_indices, is_drawn_for, names_of_draws}
use Rattle.cv_syntax_trees.proofs.lists.Tests.{equals_refl}

both : {b c : Bool} → b ≡ true → c ≡ true → (b && c) ≡ true
both e f = ap₂ (λ x y. x && y) e f

-- a role that is drawn stands among the first of each

kept_role : (r : Role) (d : Draw) → same_role d.role r ≡ false → (ds : List Draw) → is_drawn same_role (roles_of ds) r ≡ true → is_drawn same_role (roles_of (filter (λ (e : Draw). not (same_role e.role d.role)) ds)) r ≡ true
kept_role r d f [] e = e
kept_role r d f (x ∷ ds) e = go (same_role x.role d.role) refl (same_role x.role r) refl e (kept_role r d f ds)
  where
    rest : List Draw
    rest = filter (λ (e : Draw). not (same_role e.role d.role)) ds

    go : (b : Bool) → same_role x.role d.role ≡ b → (c : Bool) → same_role x.role r ≡ c → (c || is_drawn same_role (roles_of ds) r) ≡ true → (is_drawn same_role (roles_of ds) r ≡ true → is_drawn same_role (roles_of rest) r ≡ true)
        → is_drawn same_role (roles_of (cond (not b) (x ∷ rest) rest)) r ≡ true
    go true i true j e k = absurd (both_ways _ (ap (λ z. same_role z r) (same_role_exact x.role d.role i) ∙ f) j)
    go true i false j e k = k e
    go false i true j e k = ap (λ c. c || is_drawn same_role (roles_of rest) r) j
    go false i false j e k = ap (λ c. c || is_drawn same_role (roles_of rest) r) j ∙ k e

once_has : (r : Role) → same_role r r ≡ true → (ds : List Draw) (e : Draw) → e.role ≡ r → Has ds e → is_drawn same_role (roles_of (each_role_once ds)) r ≡ true
once_has r i [] e p h = absurd h
once_has r i (d ∷ ds) e p (inl q) = ap (λ c. c || is_drawn same_role (roles_of (filter (λ (x : Draw). not (same_role x.role d.role)) (each_role_once ds))) r) (ap (λ (z : Draw). same_role z.role r) (sym q) ∙ ap (λ z. same_role z r) p ∙ i)
once_has r i (d ∷ ds) e p (inr h) = go (same_role d.role r) refl (once_has r i ds e p h)
  where
    go : (b : Bool) → same_role d.role r ≡ b → is_drawn same_role (roles_of (each_role_once ds)) r ≡ true → (b || is_drawn same_role (roles_of (filter (λ (x : Draw). not (same_role x.role d.role)) (each_role_once ds))) r) ≡ true
    go true f k = refl
    go false f k = kept_role r d f (each_role_once ds) k

module _ (d : DrawnNames) (ss : List Caller) (c : ℕ) where
  -- each draw of the list is drawn
  abbrev AreDrawn : List Draw → Type 0
  AreDrawn es = (r : Role) → same_role r r ≡ true → (e : Draw) → e.role ≡ r → Has es e → is_drawn_for d r ≡ true

  abbrev AreFound : List ℕ → Type 0
  AreFound qs = (q : ℕ) → Has qs q → has_find d c q ≡ true

  left_drawn : (es fs : List Draw) → AreDrawn (es ++ fs) → AreDrawn es
  left_drawn es fs k r i e p h = k r i e p (has_left es fs e h)

  right_drawn : (es fs : List Draw) → AreDrawn (es ++ fs) → AreDrawn fs
  right_drawn es fs k r i e p h = k r i e p (has_right es fs e h)

  indices_drawn : (q o b u j : ℕ) (rs : List (ℕ × ℕ)) → AreDrawn (branch_draws c q o b u j rs) → has_indices d c q o b j (length rs) ≡ true
  indices_drawn q o b u j [] k = refl
  indices_drawn q o b u j (r ∷ rs) k =
      both (k (Index c q o b j) (both (equals_refl c) (both (equals_refl q) (both (equals_refl o) (both (equals_refl b) (equals_refl j))))) (record { role = Index c q o b j; base = u }) refl (inl refl))
      (indices_drawn q o b u (suc j) rs (λ r i e p h. k r i e p (inr h)))

  branches_indices : (q : ℕ) (s : Caller) (k : ℕ) (a : Tree) → AreDrawn (index_draws c q s k a) → AreIndicesDrawn d c q s k a
  unfolding index_draws AreIndicesDrawn
  branches_indices q s k (Node Cons (Node Branch (Node (Binder u n) x y) rest) more) h = (
    here,
    branches_indices q s (suc k) more (right_drawn (cond (s.bound == n) (branch_draws c q s.number k u 0 s.replications) []) (index_draws c q s (suc k) more) h),
  )
    where
      here : (s.bound == n) ≡ true → has_indices d c q s.number k 0 (length s.replications) ≡ true
      here e =
          indices_drawn q s.number k u 0 s.replications
          (subst (λ b. AreDrawn (cond b (branch_draws c q s.number k u 0 s.replications) [])) e (left_drawn (cond (s.bound == n) (branch_draws c q s.number k u 0 s.replications) []) (index_draws c q s (suc k) more) h))
  branches_indices q s k a h = tt

  all_indices : (q : ℕ) (a : Tree) (ts : List Caller) → AreDrawn (flat_map (λ s. index_draws c q s 0 a) ts) → AllByRecursion (λ s. AreIndicesDrawn d c q s 0 a) ts
  all_indices q a [] h = tt
  all_indices q a (s ∷ ts) h = (
    branches_indices q s 0 a (left_drawn (index_draws c q s 0 a) (flat_map (λ s. index_draws c q s 0 a) ts) h),
    all_indices q a ts (right_drawn (index_draws c q s 0 a) (flat_map (λ s. index_draws c q s 0 a) ts) h),
  )

  find_first : (q : ℕ) (h : Head) (a b : Tree) → AreFound (finds_in q (Node h a b)) → AreFound (finds_in (first_place q h) a)
  unfolding finds_in
  find_first q (Find l) a b k p h = k p (inr (has_left (finds_in (first_place q (Find l)) a) (finds_in (second_place q (Find l) a) b) p h))
  find_first q h a b k p x = k p (has_left (finds_in (first_place q h) a) (finds_in (second_place q h a) b) p x)

  find_second : (q : ℕ) (h : Head) (a b : Tree) → AreFound (finds_in q (Node h a b)) → AreFound (finds_in (second_place q h a) b)
  unfolding finds_in
  find_second q (Find l) a b k p h = k p (inr (has_right (finds_in (first_place q (Find l)) a) (finds_in (second_place q (Find l) a) b) p h))
  find_second q h a b k p x = k p (has_right (finds_in (first_place q h) a) (finds_in (second_place q h a) b) p x)

  variable_drawn : (z : ℕ) (es : List Draw) → AreDrawn (record { role = Variable c z; base = z } ∷ es) → is_drawn_for d (Variable c z) ≡ true
  variable_drawn z es k = k (Variable c z) (both (equals_refl c) (equals_refl z)) (record { role = Variable c z; base = z }) refl (inl refl)

  later_drawn : (e : Draw) (es : List Draw) → AreDrawn (e ∷ es) → AreDrawn es
  later_drawn e es k r i x p h = k r i x p (inr h)

  mutual
    unfolding body_draws IsBodyDrawn finds_in

    body_covered : (q : ℕ) (t : Tree) → AreDrawn (body_draws ss c q t) → AreFound (finds_in q t) → IsBodyDrawn d ss c q t
    body_covered q (Node (New z T) a b) k f = (variable_drawn z _ k, body_covered (second_place q (New z T) a) b (later_drawn _ _ k) (find_second q (New z T) a b f))
    body_covered q (Node (Let z T) a b) k f = (variable_drawn z _ k, body_covered (second_place q (Let z T) a) b (later_drawn _ _ k) (find_second q (Let z T) a b f))
    body_covered q (Node If a (Node h b (Node j e g))) k f =
        let r : ℕ = second_place q If a in
        let inner = find_second q If a (Node h b (Node j e g)) f in (
          body_covered (first_place r h) b (left_drawn (body_draws ss c (first_place r h) b) (body_draws ss c (first_place (second_place r h b) j) e) k) (find_first r h b (Node j e g) inner),
          body_covered (first_place (second_place r h b) j) e (right_drawn (body_draws ss c (first_place r h) b) (body_draws ss c (first_place (second_place r h b) j) e) k) (find_first (second_place r h b) j e g (find_second r h b (Node j e g) inner)),
        )
    body_covered q (Node (Find l) a b) k f =
        let is : List Draw = flat_map (λ s. index_draws c q s 0 a) ss in
        let bs : List Draw = branches_draws ss c (first_place q (Find l)) a in
        let es : List Draw = body_draws ss c (second_place q (Find l) a) b in (
          f q (inl refl),
          all_indices q a ss (left_drawn is (bs ++ es) k),
          branches_covered (first_place q (Find l)) a (left_drawn bs es (right_drawn is (bs ++ es) k)) (find_first q (Find l) a b f),
          body_covered (second_place q (Find l) a) b (right_drawn bs es (right_drawn is (bs ++ es) k)) (find_second q (Find l) a b f),
        )
    body_covered q t k f = tt

    branches_covered : (q : ℕ) (t : Tree) → AreDrawn (branches_draws ss c q t) → AreFound (finds_in q t) → AreBranchesDrawn d ss c q t
    branches_covered q (Node Cons (Node Branch us (Node Cons cells (Node Cons m body))) more) k f =
        let p : ℕ = body_place q Cons Branch us Cons cells Cons m in
        let r : ℕ = second_place q Cons (Node Branch us (Node Cons cells (Node Cons m body))) in
        let arm = find_first q Cons (Node Branch us (Node Cons cells (Node Cons m body))) more f in
        let guards = find_second (first_place q Cons) Branch us (Node Cons cells (Node Cons m body)) arm in
        let guarded = find_second (second_place (first_place q Cons) Branch us) Cons cells (Node Cons m body) guards in (
          body_covered p body (left_drawn (body_draws ss c p body) (branches_draws ss c r more) k) (find_second (second_place (second_place (first_place q Cons) Branch us) Cons cells) Cons m body guarded),
          branches_covered r more (right_drawn (body_draws ss c p body) (branches_draws ss c r more) k) (find_second q Cons (Node Branch us (Node Cons cells (Node Cons m body))) more f),
        )
    branches_covered q t k f = tt

-- calls

found_same : (s q : ℕ) (fs : List (ℕ × ℕ)) → Has fs (s, q) → is_drawn same_find fs (s, q) ≡ true
found_same s q [] h = absurd h
found_same s q (f ∷ fs) (inl e) = ap (λ b. b || is_drawn same_find fs (s, q)) (ap (λ (g : ℕ × ℕ). same_find g (s, q)) (sym e) ∙ both (equals_refl s) (equals_refl q))
found_same s q (f ∷ fs) (inr h) = go (same_find f (s, q)) (found_same s q fs h)
  where
    go : (b : Bool) → is_drawn same_find fs (s, q) ≡ true → (b || is_drawn same_find fs (s, q)) ≡ true
    go true k = refl
    go false k = k

module _ (g : Group) (cs : List Calling) (names labels : List ℕ) (role : ℕ → Role) where
  abbrev d : DrawnNames
  d = names_of_draws g cs names labels role

  each_drawn : (c : Calling) → Has cs c → (r : Role) → same_role r r ≡ true → (e : Draw) → e.role ≡ r → Has (site_draws (callers_of cs) c) e → is_drawn_for d r ≡ true
  each_drawn c k r i e p h = go (same_role TheKeyName r) (once_has r i (flat_map (site_draws (callers_of cs)) cs) e p (has_flat_map (site_draws (callers_of cs)) cs c e k h))
    where
      go : (b : Bool) → is_drawn same_role (roles_of (each_role_once (flat_map (site_draws (callers_of cs)) cs))) r ≡ true → (b || is_drawn same_role (roles_of (each_role_once (flat_map (site_draws (callers_of cs)) cs))) r) ≡ true
      go true k = refl
      go false k = k

  arguments_covered : (c : Calling) → Has cs c → (xs : List (ℕ × ℕ)) → ((e : Draw) → Has (argument_draws c.caller.number xs) e → Has (site_draws (callers_of cs) c) e) → AllByRecursion (λ (x : ℕ × ℕ). is_drawn_for d (Variable c.caller.number x.0) ≡ true) xs
  arguments_covered c k [] f = tt
  arguments_covered c k (x ∷ xs) f = (
    each_drawn c k (Variable c.caller.number x.0) (both (equals_refl c.caller.number) (equals_refl x.0)) (record { role = Variable c.caller.number x.0; base = x.0 }) refl (f _ (inl refl)),
    arguments_covered c k xs (λ e h. f e (inr h)),
  )

  call_covered : (c : Calling) → Has cs c → IsCallDrawn d (callers_of cs) c
  call_covered c k =
      let n : ℕ = c.caller.number in
      let ss : List Caller = callers_of cs in
      record {
        arguments = arguments_covered c k c.function.arguments (λ e h. has_left (argument_draws n c.function.arguments) (body_draws ss n 0 c.function.body) e h);
        body =
            body_covered d ss n 0 c.function.body
            (λ r i e p h. each_drawn c k r i e p (has_right (argument_draws n c.function.arguments) (body_draws ss n 0 c.function.body) e h))
            (λ q h. found_same n q (label_draws cs) (has_flat_map (λ (c : Calling). map (λ q. (c.caller.number, q)) (finds_in 0 c.function.body)) cs c (n, q) k (has_map (λ q. (n, q)) (finds_in 0 c.function.body) q h)));
      }

  each_in : (P : Calling → Type 0) (xs : List Calling) → ((c : Calling) → Has xs c → P c) → AllByRecursion P xs
  each_in P [] f = tt
  each_in P (c ∷ xs) f = (f c (inl refl), each_in P xs (λ e h. f e (inr h)))

  pub calls_covered : AllByRecursion (IsCallDrawn d (callers_of cs)) cs
  calls_covered = each_in (IsCallDrawn d (callers_of cs)) cs call_covered
