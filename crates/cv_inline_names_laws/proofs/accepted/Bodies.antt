-- A right body that names only what is bound can stand in a game, where what it asks for is drawn.
use Rattle.std.proofs.Common.{◌≡◌, ℕ, suc, Bool, true, false, ◌&&◌, ◌==◌, List, [], ◌∷◌, ◌++◌, ◌⊎◌, inl, inr, flat_map, append-nil, Some, None, refl, sym, subst, eqb-true, eq-eqb}
use Rattle.std.proofs.lemmas.Bool.{and_parts, both_ways, or_left, or_right}
use Rattle.std.specs.List.{AllByRecursion}
use Rattle.cv_syntax_trees.specs.declared.head.Head.{Head}
use Rattle.cv_syntax_trees.specs.declared.head.Head.TheVariants.{Leaf, Read, Apply, Eq, And, Or, Not, Yes, No, Cons, Binder, Branch, New, Let, If, Find}
use Rattle.cv_syntax_trees.specs.Tree.{Tree, Empty, Node, first, first_place, second_place}
use Rattle.cv_meaning.specs.contexts.Bodies.{body_place}
use Rattle.cv_meaning.specs.contexts.Made.{has_cell_at}
use Rattle.cv_group_rules.specs.Rules.{Around, Defined, Found, Level, are_cells, defines, has_name, has_read, index_in, is_asked_at, is_bound, is_readable, range_of}
use Rattle.cv_inline.specs.bodies.Accepted.{AreFineBranches, AreFineCells, AreFineTerms, IsFineArray, IsFineBody, IsFineTerm, IsNeverAssigned, scope_for}
use Rattle.cv_meaning.specs.contexts.Inlined.{Caller, CallOf, Own, Scope, call_in, index_reads, index_terms}
use Rattle.cv_inline.specs.bodies.Inlining.{Inlining}
use Rattle.cv_inline.specs.Draws.{finds_in}
use Rattle.cv_inline_names_laws.specs.accepted.RightBodies.{are_body_cells, are_body_terms, are_right_branches, is_body_term, is_right_body}
use Rattle.cv_inline_names_laws.specs.accepted.Drawn.{Opening, opening_if, openings_at, openings_in}
use Rattle.cv_inline_names_laws.proofs.accepted.Levels.{Agree, AllAssigned, IsOver, cells_fine, decided, found_range, with_defined, with_found}
use Rattle.cv_syntax_trees.proofs.lists.Each.{AllByRecursion_both, AllByRecursion_left, AllByRecursion_right, AllByRecursion_parts}
use Rattle.cv_syntax_trees.proofs.lists.Tests.{equals_refl}

all_flat : {A B : Type 0} (P : A → Type 0) (f : B → List A) (xs : List B) → AllByRecursion P (flat_map f xs) → AllByRecursion (λ x. AllByRecursion P (f x)) xs
all_flat P f [] h = tt
all_flat P f (x ∷ xs) h = (AllByRecursion_left P (f x) (flat_map f xs) h, all_flat P f xs (AllByRecursion_right P (f x) (flat_map f xs) h))

module _ (p : Inlining) (o : Around) (own : (x : ℕ) → o.names o.bound x ≡ true → p.has p.c.number x ≡ true) where
  -- no level is added
  same_levels : (ls : List Level) (t : Tree) → is_bound o (ls ++ []) t ≡ true → is_bound o ls t ≡ true
  same_levels ls t e = subst (λ ks. is_bound o ks t ≡ true) (append-nil ls) e

  array_fine : (ls : List Level) (Σ : Scope) → Agree p o own ls Σ → (v : ℕ) (a : Tree) → is_asked_at ls v (index_in a) ≡ true → IsFineArray p v (call_in Σ (first a))
  array_fine ls Σ h v (Node i (Node (Leaf u) Empty Empty) Empty) e = h.asked v u e
  array_fine ls Σ h v t e = absurd (both_ways _ refl e)

  mutual
    unfolding is_body_term is_bound IsFineTerm

    pub term_fine : (ls : List Level) (Σ : Scope) → Agree p o own ls Σ → (t : Tree) → is_body_term t ≡ true → is_bound o ls t ≡ true → IsFineTerm p Σ t
    term_fine ls Σ h (Node (Leaf x) a b) g e = λ n. h.readable x (and_parts (is_readable o ls x) _ e).0 n
    term_fine ls Σ h (Node (Read v) a b) g e = array_fine ls Σ h v a (and_parts (is_asked_at ls v (index_in a)) _ e).0
    term_fine ls Σ h (Node (Apply f) a b) g e = terms_fine ls Σ h a g (and_parts (is_bound o ls a) _ (and_parts (o.callable f) _ e).1).0
    term_fine ls Σ h (Node Eq a b) g e =
        let q = and_parts (is_body_term a) (is_body_term b) g in
        let s = and_parts (is_bound o ls a) _ e in (term_fine ls Σ h a q.0 s.0, term_fine ls Σ h b q.1 (same_levels ls b s.1))
    term_fine ls Σ h (Node And a b) g e =
        let q = and_parts (is_body_term a) (is_body_term b) g in
        let s = and_parts (is_bound o ls a) _ e in (term_fine ls Σ h a q.0 s.0, term_fine ls Σ h b q.1 (same_levels ls b s.1))
    term_fine ls Σ h (Node Or a b) g e =
        let q = and_parts (is_body_term a) (is_body_term b) g in
        let s = and_parts (is_bound o ls a) _ e in (term_fine ls Σ h a q.0 s.0, term_fine ls Σ h b q.1 (same_levels ls b s.1))
    term_fine ls Σ h (Node Not a b) g e = term_fine ls Σ h a g (and_parts (is_bound o ls a) _ e).0
    term_fine ls Σ h (Node Yes a b) g e = tt
    term_fine ls Σ h (Node No a b) g e = tt
    term_fine ls Σ h t g e = absurd (both_ways _ refl g)

    terms_fine : (ls : List Level) (Σ : Scope) → Agree p o own ls Σ → (t : Tree) → are_body_terms t ≡ true → is_bound o ls t ≡ true → AreFineTerms p Σ t
    terms_fine ls Σ h Empty g e = tt
    terms_fine ls Σ h (Node Cons a b) g e =
        let q = and_parts (is_body_term a) (are_body_terms b) g in
        let s = and_parts (is_bound o ls a) _ e in (term_fine ls Σ h a q.0 s.0, terms_fine ls Σ h b q.1 (same_levels ls b s.1))
    terms_fine ls Σ h t g e = absurd (both_ways _ refl g)

  -- all that a text asks for is drawn
  pub record IsDrawn (callers : List Caller) (q : ℕ) (t : Tree) : Type 0 where
    pub names : (x : ℕ) → defines t x ≡ true → p.has p.c.number x ≡ true
    pub finds : AllByRecursion (λ r. p.finds r ≡ true) (finds_in q t)
    pub opens : AllByRecursion (λ (r : Opening). p.opens r.place r.site r.branch ≡ true) (openings_in callers q t)

  module _ (callers : List Caller) (sites : AllByRecursion (λ (s : Caller). (x : ℕ) → o.names s.bound x ≡ true → p.has s.number x ≡ true) callers) where
    -- so it is for the children of a node

    child_names : (h : Head) (a b : Tree) → ((x : ℕ) → defines (Node h a b) x ≡ true → p.has p.c.number x ≡ true) → ((x : ℕ) → defines a x ≡ true → p.has p.c.number x ≡ true) × ((x : ℕ) → defines b x ≡ true → p.has p.c.number x ≡ true)
    unfolding defines
    child_names h a b d = (λ x e. d x (or_right _ _ (or_left _ (defines b x) e)), λ x e. d x (or_right _ _ (or_right (defines a x) _ e)))

    drawn_find : (q l : ℕ) (a b : Tree) → IsDrawn callers q (Node (Find l) a b) → (p.finds q ≡ true) × AllByRecursion (λ (s : Caller). AllByRecursion (λ (r : Opening). p.opens r.place r.site r.branch ≡ true) (openings_at q s 0 a)) callers
        × IsDrawn callers (first_place q (Find l)) a × IsDrawn callers (second_place q (Find l) a) b
    unfolding finds_in openings_in
    drawn_find q l a b d =
        let P : Opening → Type 0 = λ r. p.opens r.place r.site r.branch ≡ true in
        let n = child_names (Find l) a b d.names in
        let f = AllByRecursion_parts (λ r. p.finds r ≡ true) (finds_in (first_place q (Find l)) a) (finds_in (second_place q (Find l) a) b) d.finds.1 in
        let o = AllByRecursion_parts P (flat_map (λ s. openings_at q s 0 a) callers) (openings_in callers (first_place q (Find l)) a ++ openings_in callers (second_place q (Find l) a) b) d.opens in
        let i = AllByRecursion_parts P (openings_in callers (first_place q (Find l)) a) (openings_in callers (second_place q (Find l) a) b) o.1 in
        (d.finds.0, all_flat P (λ s. openings_at q s 0 a) callers o.0, record { names = n.0; finds = f.0; opens = i.0 }, record { names = n.1; finds = f.1; opens = i.1 })

    drawn_both : (q : ℕ) (h : Head) (a b : Tree) → finds_in q (Node h a b) ≡ finds_in (first_place q h) a ++ finds_in (second_place q h a) b → openings_in callers q (Node h a b) ≡ openings_in callers (first_place q h) a ++ openings_in callers (second_place q h a) b
        → IsDrawn callers q (Node h a b) → IsDrawn callers (first_place q h) a × IsDrawn callers (second_place q h a) b
    drawn_both q h a b e i d =
        let P : Opening → Type 0 = λ r. p.opens r.place r.site r.branch ≡ true in
        let F : ℕ → Type 0 = λ r. p.finds r ≡ true in
        let n = child_names h a b d.names in
        let f = AllByRecursion_parts F (finds_in (first_place q h) a) (finds_in (second_place q h a) b) (subst (AllByRecursion F) e d.finds) in
        let o = AllByRecursion_parts P (openings_in callers (first_place q h) a) (openings_in callers (second_place q h a) b) (subst (AllByRecursion P) i d.opens) in
        (record { names = n.0; finds = f.0; opens = o.0 }, record { names = n.1; finds = f.1; opens = o.1 })

    new_child : (q z T : ℕ) (a b : Tree) → IsDrawn callers q (Node (New z T) a b) → IsDrawn callers (second_place q (New z T) a) b
    unfolding finds_in openings_in
    new_child q z T a b d = (drawn_both q (New z T) a b refl refl d).1

    let_child : (q z T : ℕ) (a b : Tree) → IsDrawn callers q (Node (Let z T) a b) → IsDrawn callers (second_place q (Let z T) a) b
    unfolding finds_in openings_in
    let_child q z T a b d = (drawn_both q (Let z T) a b refl refl d).1

    if_children : (q : ℕ) (a b c : Tree) → IsDrawn callers q (Node If a (Node Cons b (Node Cons c Empty)))
        → IsDrawn callers (first_place (second_place q If a) Cons) b × IsDrawn callers (first_place (second_place (second_place q If a) Cons b) Cons) c
    unfolding finds_in openings_in
    if_children q a b c d =
        let r = (drawn_both q If a (Node Cons b (Node Cons c Empty)) refl refl d).1 in
        let s = drawn_both (second_place q If a) Cons b (Node Cons c Empty) refl refl r in
        (s.0, (drawn_both (second_place (second_place q If a) Cons b) Cons c Empty refl refl s.1).0)

    branch_children : (r : ℕ) (us cells m body more : Tree) → IsDrawn callers r (Node Cons (Node Branch us (Node Cons cells (Node Cons m body))) more)
        → IsDrawn callers (body_place r Cons Branch us Cons cells Cons m) body × IsDrawn callers (second_place r Cons (Node Branch us (Node Cons cells (Node Cons m body)))) more
    unfolding finds_in openings_in
    branch_children r us cells m body more d =
        let x = drawn_both r Cons (Node Branch us (Node Cons cells (Node Cons m body))) more refl refl d in
        let y = (drawn_both (first_place r Cons) Branch us (Node Cons cells (Node Cons m body)) refl refl x.0).1 in
        let z = (drawn_both (second_place (first_place r Cons) Branch us) Cons cells (Node Cons m body) refl refl y).1 in
        ((drawn_both (second_place (second_place (first_place r Cons) Branch us) Cons cells) Cons m body refl refl z).1, x.1)

    -- a branch whose find is opened for a site
    is_opened : (c : Bool) (r : Opening) (rs : List Opening) → AllByRecursion (λ (r : Opening). p.opens r.place r.site r.branch ≡ true) (opening_if c r ++ rs) → c ≡ true → p.opens r.place r.site r.branch ≡ true
    is_opened true r rs h e = h.0
    is_opened false r rs h e = absurd (both_ways _ refl e)

    later_opens : (c : Bool) (r : Opening) (rs : List Opening) → AllByRecursion (λ (r : Opening). p.opens r.place r.site r.branch ≡ true) (opening_if c r ++ rs) → AllByRecursion (λ (r : Opening). p.opens r.place r.site r.branch ≡ true) rs
    later_opens true r rs h = h.1
    later_opens false r rs h = h

    defined_new : (z T : ℕ) (a b : Tree) → defines (Node (New z T) a b) z ≡ true
    unfolding defines
    defined_new z T a b = or_left (z == z) _ (equals_refl z)

    defined_let : (z T : ℕ) (a b : Tree) → defines (Node (Let z T) a b) z ≡ true
    unfolding defines
    defined_let z T a b = or_left (z == z) _ (equals_refl z)

    branch_fine : (ls : List Level) (Σ : Scope) → Agree p o own ls Σ → (q : ℕ) (s : Caller) (u n k : ℕ) → ((v : ℕ) → o.names n v ≡ true → p.has s.number v ≡ true) → (cells : Tree) → are_body_cells cells ≡ true → has_cell_at u cells ≡ true
        → are_cells o (ls ++ Found u n (has_read cells) (has_name cells) ∷ []) cells ≡ true → (m : Tree) → is_body_term m ≡ true → is_bound o (ls ++ Found u n (has_read cells) (has_name cells) ∷ []) m ≡ true → (r : ℕ) (body : Tree)
        → (Agree p o own (ls ++ Found u n (has_read cells) (has_name cells) ∷ []) (scope_for p q Σ s k u) → IsFineBody p callers (scope_for p q Σ s k u) r body)
        → (AreFineCells p (scope_for p q Σ s k u) cells × IsFineTerm p (scope_for p q Σ s k u) m × (has_cell_at u cells ≡ true) × IsFineBody p callers (scope_for p q Σ s k u) r body) ⊎ IsNeverAssigned p Σ cells
    branch_fine ls Σ h q s u n k has cells g c e m w i r body fine = go (decided p o own f Σ cells g e)
      where
        f : List Level
        f = ls ++ Found u n (has_read cells) (has_name cells) ∷ []

        ts : Tree
        ts = index_reads (index_terms p.c.replications) (p.d.index p.c.number q s.number k) 0 s.replications

        range : (w m : ℕ) → range_of w None f ≡ Some m → IsOver p o own ((u, CallOf s.number ts) ∷ Σ) w m
        range = found_range p o own ls Σ u n s.number ts (has_read cells) (has_name cells) h has

        go : AllAssigned Σ cells ⊎ IsNeverAssigned p Σ cells → (AreFineCells p (scope_for p q Σ s k u) cells × IsFineTerm p (scope_for p q Σ s k u) m × (has_cell_at u cells ≡ true) × IsFineBody p callers (scope_for p q Σ s k u) r body) ⊎ IsNeverAssigned p Σ cells
        go (inr n) = inr n
        go (inl all) =
            let ag = with_found p o own ls Σ u n s.number ts cells h has g e range all in
            inl (cells_fine p o own f ((u, CallOf s.number ts) ∷ Σ) range cells g e, term_fine f ((u, CallOf s.number ts) ∷ Σ) ag m w i, c, fine ag)

    mutual
      unfolding is_right_body is_body_term is_bound IsFineBody openings_at

      pub body_fine : (ls : List Level) (Σ : Scope) → Agree p o own ls Σ → (q : ℕ) (t : Tree) → is_right_body t ≡ true → is_bound o ls t ≡ true → IsDrawn callers q t → IsFineBody p callers Σ q t
      body_fine ls Σ h q (Node (New z T) a b) g e d =
          let s = and_parts (is_bound o ls a) _ e in
          (d.names z (defined_new z T a b), body_fine (ls ++ Defined z ∷ []) ((z, Own) ∷ Σ) (with_defined p o own ls Σ z h) _ b g s.1 (new_child q z T a b d))
      body_fine ls Σ h q (Node (Let z T) a b) g e d =
          let w = and_parts (is_body_term a) (is_right_body b) g in
          let s = and_parts (is_bound o ls a) _ e in
          (d.names z (defined_let z T a b), term_fine ls Σ h a w.0 s.0, body_fine (ls ++ Defined z ∷ []) ((z, Own) ∷ Σ) (with_defined p o own ls Σ z h) _ b w.1 s.1 (let_child q z T a b d))
      body_fine ls Σ h q (Node If a (Node Cons b (Node Cons c Empty))) g e d =
          let w = and_parts (is_body_term a) _ g in
          let x = and_parts (is_right_body b) (is_right_body c) w.1 in
          let s = and_parts (is_bound o ls a) _ e in
          let u = and_parts (is_bound o ls b) _ (same_levels ls (Node Cons b (Node Cons c Empty)) s.1) in
          let v = and_parts (is_bound o ls c) _ (same_levels ls (Node Cons c Empty) u.1) in
          let y = if_children q a b c d in
          (term_fine ls Σ h a w.0 s.0, body_fine ls Σ h _ b x.0 u.0 y.0, body_fine ls Σ h _ c x.1 v.0 y.1)
      body_fine ls Σ h q (Node (Find l) a b) g e d =
          let w = and_parts (are_right_branches a) (is_right_body b) g in
          let s = and_parts (is_bound o ls a) _ e in
          let y = drawn_find q l a b d in (
            y.0,
            AllByRecursion_both (λ (s : Caller). (x : ℕ) → o.names s.bound x ≡ true → p.has s.number x ≡ true) (λ (s : Caller). AllByRecursion (λ (r : Opening). p.opens r.place r.site r.branch ≡ true) (openings_at q s 0 a)) (λ s. AreFineBranches p callers Σ q s 0 (first_place q (Find l)) a)
                (λ c has opens. branches_fine ls Σ h q c has 0 (first_place q (Find l)) a w.0 s.0 opens y.2) callers sites y.1,
            body_fine ls Σ h _ b w.1 (same_levels ls b s.1) y.3,
          )
      body_fine ls Σ h q (Node (Leaf x) a b) g e d = term_fine ls Σ h (Node (Leaf x) a b) g e
      body_fine ls Σ h q (Node (Read v) a b) g e d = term_fine ls Σ h (Node (Read v) a b) g e
      body_fine ls Σ h q (Node (Apply f) a b) g e d = term_fine ls Σ h (Node (Apply f) a b) g e
      body_fine ls Σ h q (Node Eq a b) g e d = term_fine ls Σ h (Node Eq a b) g e
      body_fine ls Σ h q (Node And a b) g e d = term_fine ls Σ h (Node And a b) g e
      body_fine ls Σ h q (Node Or a b) g e d = term_fine ls Σ h (Node Or a b) g e
      body_fine ls Σ h q (Node Not a b) g e d = term_fine ls Σ h (Node Not a b) g e
      body_fine ls Σ h q (Node Yes a b) g e d = term_fine ls Σ h (Node Yes a b) g e
      body_fine ls Σ h q (Node No a b) g e d = term_fine ls Σ h (Node No a b) g e
      body_fine ls Σ h q t g e d = absurd (both_ways _ refl g)

      branches_fine : (ls : List Level) (Σ : Scope) → Agree p o own ls Σ → (q : ℕ) (s : Caller) → ((x : ℕ) → o.names s.bound x ≡ true → p.has s.number x ≡ true) → (k r : ℕ) (t : Tree) → are_right_branches t ≡ true → is_bound o ls t ≡ true
          → AllByRecursion (λ (r : Opening). p.opens r.place r.site r.branch ≡ true) (openings_at q s k t) → IsDrawn callers r t → AreFineBranches p callers Σ q s k r t
      branches_fine ls Σ h q s has k r Empty g e opens d = tt
      branches_fine ls Σ h q s has k r (Node Cons (Node Branch (Node (Binder u n) x Empty) (Node Cons cells (Node Cons m body))) more) g e opens d =
          let us : Tree = Node (Binder u n) x Empty in
          let arm : Tree = Node Branch us (Node Cons cells (Node Cons m body)) in
          let f : List Level = ls ++ Found u n (has_read cells) (has_name cells) ∷ [] in
          let w = and_parts (are_body_cells cells) _ g in
          let x = and_parts (is_body_term m) _ w.1 in
          let y = and_parts (is_right_body body) (are_right_branches more) x.1 in
          let b = and_parts (is_bound o ls arm) _ e in
          let c = and_parts (has_cell_at u cells && are_cells o f cells) _ b.0 in
          let i = and_parts (has_cell_at u cells) (are_cells o f cells) c.0 in
          let j = and_parts (is_bound o ls us) _ c.1 in
          let l = and_parts (is_bound o f cells) _ j.1 in
          let v = and_parts (is_bound o f m) _ (same_levels f (Node Cons m body) l.1) in
          let z = branch_children r us cells m body more d in (
            (λ same. (
              is_opened (s.bound == n) (record { place = q; site = s.number; branch = k }) _ opens same,
              branch_fine ls Σ h q s u n k (λ w z. has w (subst (λ y. o.names y w ≡ true) (sym (eqb-true s.bound n same)) z)) cells w.0 i.0 i.1
                  m x.0 v.0 _ _ (λ ag. body_fine f _ ag _ body y.0 (same_levels f body v.1) z.0),
            )),
            branches_fine ls Σ h q s has (suc k) _ more y.1 (same_levels ls more b.1) (later_opens (s.bound == n) (record { place = q; site = s.number; branch = k }) _ opens) z.1,
          )
      branches_fine ls Σ h q s has k r t g e opens d = absurd (both_ways _ refl g)
