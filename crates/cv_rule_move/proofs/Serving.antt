-- A construct is served alike behind a definition and with the definition before each of its bodies.
use Rattle.std.proofs.Common.{◌≡◌, ℕ, zero, suc, ◌==◌, ◌&&◌, not, Bool, true, false, cond, max, List, [], ◌++◌, flat_map, Option, Some, None, refl, sym, ap, ap₂, subst, ◌∙◌, eq-eqb}
use Rattle.std.proofs.Math.Path.{fun_ext}
use Rattle.std.proofs.lemmas.Bool.{and_parts, both_ways, or_left, or_right}
use Rattle.std.specs.List.{AllByRecursion}
use Rattle.cv_syntax_trees.specs.declared.head.Head.{Head}
use Rattle.cv_syntax_trees.specs.declared.head.Head.TheVariants.{Binder, Event, New, Let, If, Find, Branch, Cons}
use Rattle.cv_syntax_trees.specs.Tree.{Tree, Empty, Node, first_place, second_place, reads_only}
use Rattle.cv_meaning.specs.Tapes.{Find_at, New_at, Tape}
use Rattle.cv_meaning.specs.Interpretation.{Setting}
use Rattle.cv_meaning.specs.Memory.{Indices, Local, Store, put, tuple, with_event, with_store, with_value}
use Rattle.cv_meaning.specs.Terms.{is_one, value, value_here, values_here}
use Rattle.cv_meaning.specs.Binders.{binder_count, widest_binder, with_bound}
use Rattle.cv_meaning.specs.Candidates.{Candidate, candidate, candidates, candidates_at, chosen, most_indices, tuples_up_to, widest}
use Rattle.cv_meaning.specs.Inputs.{Input, inputs_of}
use Rattle.cv_meaning.specs.Serving.{Second, Served, Visit, after_find, after_turn, serve, step, visits}
use Rattle.cv_meaning.specs.Replaced.{is_output}
use Rattle.cv_meaning_laws.specs.Agreement.{AgreeOn}
use Rattle.cv_meaning_runs.specs.Replacement as runs
use Rattle.cv_meaning_runs.specs.Replacement.{AreLikeInputs, SameMemory, ServeAlike}
use Rattle.cv_meaning_runs.specs.Simulation.{AreServedAlike, InOrder}
use Rattle.cv_meaning_runs.proofs.Outputs.{output_opens, served_elsewhere}
use Rattle.cv_meaning_chances.specs.unread.Dropping.{in_branch, reads_none, same, IsDropped}
use Rattle.cv_meaning_chances.proofs.unread.Unread.{candidates_same, put_aside, value_same, values_same}
use Rattle.cv_scope_rules.specs.Made.{AssignsNew, OwnUnassigned, is_bound, is_own_of}
use Rattle.cv_scope_rules.specs.Phrases.{Arm, Binders, Body, Branches, Nil, is_phrase}
use Rattle.cv_scope_runs.specs.Reads.{IsKept, ReadsAssigned, VisitReadsAssigned}
use Rattle.cv_scope_runs.proofs.Candidates.{BranchAt, IsBranch, candidates_fine, chosen_fine}
use Rattle.cv_steps.specs.Changes.{only}
use Rattle.cv_steps.proofs.Flat.{guarded_of, guards_of}
use Rattle.cv_steps_laws.proofs.Unnamed.{unlisted_unread}
use Rattle.cv_rule_move.specs.Moving.{defined, first_naming, first_naming_branch, has_bodies, in_bodies, in_branches}
use Rattle.cv_rule_move.proofs.Parts.{branch_unnamed, branches_of, else_of, not_here, then_of}
use Rattle.cv_rule_move.proofs.Stores.{bound_apart, bound_kept, none_before, put_apart, put_kept, value_later}

-- candidates don't depend on bodies

record SameBranches (g : Setting) (at : Indices) (m : Store) (a c : Tree) : Type 0 where
  offers : (u : List ℕ) (k : ℕ) → candidates_at g at m u k a ≡ candidates_at g at m u k c
  most : most_indices a ≡ most_indices c
  wide : widest g.interpretation.parameter_value a ≡ widest g.interpretation.parameter_value c

module _ (g : Setting) (at : Indices) (m : Store) (before : Tree → Tree) where
  same_branches : (a : Tree) → SameBranches g at m a (in_branches before a)
  unfolding candidates_at
  same_branches (Node Cons (Node Branch us (Node Cons cells (Node Cons c body))) more) =
      let r = same_branches more in
      record {
        offers = λ u k. ap (λ cs. candidate g at m u k (Node Branch us (Node Cons cells (Node Cons c body))) ++ cs) (r.offers u (suc k));
        most = ap (max (binder_count us)) r.most;
        wide = ap (max (widest_binder g.interpretation.parameter_value us)) r.wide;
      }
  same_branches a = record { offers = λ u k. refl; most = refl; wide = refl }

  candidates_before : (a : Tree) → candidates g at m a ≡ candidates g at m (in_branches before a)
  unfolding candidates
  candidates_before a =
      let r = same_branches a in
      ap₂ (λ d n. flat_map (λ u. candidates_at g at m u 0 a) (tuples_up_to d n)) r.most r.wide
      ∙ ap (λ f. flat_map f (tuples_up_to (most_indices (in_branches before a)) (widest g.interpretation.parameter_value (in_branches before a)))) (fun_ext (λ u. r.offers u 0))

-- branches without bodies read none, where no place before their bodies names the variable

nil_unread : (xs : ℕ → Bool) (t : Tree) → is_phrase Nil t ≡ true → reads_none xs t ≡ true
unfolding is_phrase reads_only
nil_unread xs Empty e = refl
nil_unread xs (Node h a b) e = absurd (both_ways false refl e)

binders_unread : (xs : ℕ → Bool) (t : Tree) → is_phrase Binders t ≡ true → reads_none xs t ≡ true
unfolding is_phrase reads_only
binders_unread xs Empty e = refl
binders_unread xs (Node (Binder y T) a b) e = let p = and_parts (is_phrase Nil a) _ e in ap₂ ◌&&◌ (nil_unread xs a p.0) (binders_unread xs b p.1)
binders_unread xs t e = absurd (both_ways false refl e)

abbrev bare : Tree → Tree
bare a = in_branches (λ b. Empty) a

bare_unread : (x p : ℕ) (a : Tree) → is_phrase Branches a ≡ true → first_naming_branch x p a ≡ None → IsDropped (only x) runs.Branches (bare a) (bare a)
unfolding is_phrase reads_only
bare_unread x p Empty e f = same refl
bare_unread x p (Node Cons (Node Branch us (Node Cons cells (Node Cons c body))) more) e f =
    let r = branch_unnamed x p us cells c body more f in
    let q = and_parts (is_phrase Arm (Node Branch us (Node Cons cells (Node Cons c body)))) _ e in
    let bs = and_parts (is_phrase Binders us) _ q.0 in
    in_branch (binders_unread (only x) us bs.0) r.list r.condition (same refl) (bare_unread x (second_place p Cons (Node Branch us (Node Cons cells (Node Cons c body)))) more q.1 r.later)
bare_unread x p (Node Cons (Node Branch us (Node Cons cells rest)) more) e f = absurd (both_ways false refl (guarded_of us cells rest more e))
bare_unread x p (Node Cons (Node Branch us rest) more) e f = absurd (both_ways false refl (guards_of us rest more e))
bare_unread x p a e f = absurd (both_ways false refl e)

-- in a store with another value of such a variable the candidates are the same, with something before each body too
candidates_moved : (g : Setting) (at : Indices) (m n : Store) (x p : ℕ) (a : Tree) (before : Tree → Tree) → AgreeOn (λ y. not (only x y)) m n → is_phrase Branches a ≡ true → first_naming_branch x p a ≡ None
    → candidates g at m a ≡ candidates g at n (in_branches before a)
candidates_moved g at m n x p a before r e f =
    candidates_before g at m (λ b. Empty) a
    ∙ candidates_same g at (only x) m n r (bare a) (bare a) (bare_unread x p a e f)
    ∙ sym (candidates_before g at n (λ b. Empty) a)
    ∙ candidates_before g at n before a

-- definitions

-- what a definition assigns
abbrev pub drawn : Setting → Tape → Head → Tree → Local → ℕ
drawn g t (New x T) a s = t (New_at x (tuple s.indices))
drawn g t (Let x T) a s = value_here g s a
drawn g t h a s = 0

step_defines : (g : Setting) (t : Tape) (h : Head) (a b : Tree) (x : ℕ) → defined (Node h a b) ≡ Some x → (p k : ℕ) (vs : List ℕ) (s : Local) → step g t h a b p k vs s ≡ Second 0 [] (with_value s x (drawn g t h a s))
unfolding step
step_defines g t (New y T) a b x e p k vs s = let i : y ≡ x = cc in ap (λ z. Second 0 [] (with_value s z (t (New_at y (tuple s.indices))))) i
step_defines g t (Let y T) a b x e p k vs s = let i : y ≡ x = cc in ap (λ z. Second 0 [] (with_value s z (value_here g s a))) i
step_defines g t h a b x e p k vs s = absurd (cc)

-- whatever stands behind it
any_body : (h : Head) (a b c : Tree) (x : ℕ) → defined (Node h a b) ≡ Some x → defined (Node h a c) ≡ Some x
any_body (New y T) a b c x e = e
any_body (Let y T) a b c x e = e
any_body h a b c x e = absurd (cc)

-- the states have the same indices, and the second keeps what the first has assigned
record IsLater (s r : Local) : Type 0 where
  indices : r.indices ≡ s.indices
  store : IsKept s.memory.store r.memory.store

drawn_later : (g : Setting) (t : Tape) (h : Head) (a b : Tree) (x : ℕ) → defined (Node h a b) ≡ Some x → (s r : Local) → ReadsAssigned g (Node h a b) s → IsLater s r → drawn g t h a r ≡ drawn g t h a s
drawn_later g t (New y T) a b x e s r d l = ap (λ at. t (New_at y (tuple at))) l.indices
drawn_later g t (Let y T) a b x e s r d l = ap (λ at. value g at r.memory.store a) l.indices ∙ value_later g s.indices s.memory.store r.memory.store l.store a d
drawn_later g t h a b x e s r d l = absurd (cc)

module _ (g : Setting) (t : Tape) (old new : Tree) (place : ℕ) where
  abbrev Alike : Served → Served → Type 0
  Alike = AreServedAlike SameMemory (AreLikeInputs old new place)

  -- the definition of a variable, and the state before it

  module _ (h : Head) (a construct : Tree) (x : ℕ) (d : defined (Node h a construct) ≡ Some x) (s : Local) (reads : ReadsAssigned g (Node h a construct) s) where
    abbrev v : ℕ
    v = drawn g t h a s

    abbrev u : List ℕ
    u = tuple s.indices

    abbrev defines_first : Local
    defines_first = with_value s x v

    -- a body is served alike where the variable is assigned before it, and behind the definition
    body_alike : (b : Tree) (q p : ℕ) (r : Local) → IsLater s r → Alike (serve g t b q 0 [] (with_value r x v)) (serve g t (Node h a b) p 0 [] r)
    unfolding serve
    body_alike b q p r l =
        let there : serve g t (Node h a b) p 0 [] r ≡ serve g t b (second_place p h a) 0 [] (with_value r x v) =
        ap (after_turn (λ z. z) (serve g t a (first_place p h)) (serve g t b (second_place p h a))) (step_defines g t h a b x (any_body h a construct b x d) p 0 [] r)
        ∙ ap (λ w. serve g t b (second_place p h a) 0 [] (with_value r x w)) (drawn_later g t h a construct x d s r reads l) in
        subst (Alike (serve g t b q 0 [] (with_value r x v))) (sym there) (served_elsewhere g t old new place b q (second_place p h a) 0 [] (with_value r x v))

    -- where a construct has one body
    one_body : (kh : Head) (ka b : Tree) (q p k : ℕ) (vs : List ℕ) (r : Local) → step g t kh ka b q 0 [] defines_first ≡ Second 0 [] (with_value r x v) → step g t kh ka (Node h a b) p k vs s ≡ Second 0 [] r → IsLater s r
        → Alike (serve g t (Node kh ka b) q 0 [] defines_first) (serve g t (Node kh ka (Node h a b)) p k vs s)
    unfolding serve
    one_body kh ka b q p k vs r e f l =
        subst (λ z. Alike (after_turn (λ r. r) (serve g t ka (first_place q kh)) (serve g t b (second_place q kh ka)) z) (serve g t (Node kh ka (Node h a b)) p k vs s)) (sym e)
        (subst (λ z. Alike (serve g t b (second_place q kh ka) 0 [] (with_value r x v)) (after_turn (λ r. r) (serve g t ka (first_place p kh)) (serve g t (Node h a b) (second_place p kh ka)) z)) (sym f)
        (body_alike b (second_place q kh ka) (second_place p kh ka) r l))

    -- what reads the variable nowhere has the same value
    agree : AgreeOn (λ y. not (only x y)) (put s.memory.store x u v) s.memory.store
    agree = put_aside (only x) s.memory.store s.memory.store (λ y w e. refl) x u v (eq-eqb x x refl)

    later_value : (y w : ℕ) → put s.memory.store x u v y u ≡ None → IsLater s (with_value s y w)
    later_value y w n = record { indices = refl; store = put_kept s.memory.store s.memory.store y u w (λ z r k e. e) (none_before s.memory.store x u v y u n) }

    now : IsLater s s
    now = record { indices = refl; store = λ z r k e. e }

    -- the branches of a `find`, from a candidate on

    abbrev body_place : (us cells condition : Tree) → ℕ → ℕ
    body_place us cells condition q = second_place (second_place (second_place (first_place q Cons) Branch us) Cons cells) Cons condition

    branch_alike : (branches : Tree) (c : ℕ) → is_phrase Branches branches ≡ true → first_naming_branch x c branches ≡ None → ((y : ℕ) → is_own_of branches y ≡ true → s.memory.store y u ≡ None)
        → (m : Store) (q p k : ℕ) (vs : List ℕ) → BranchAt g s.indices m branches k vs → Alike (serve g t branches q k vs defines_first) (serve g t (in_branches (Node h a) branches) p k vs s)
    unfolding serve step is_phrase
    branch_alike Empty c e f o m q p k vs there = absurd there
    branch_alike (Node Cons (Node Branch us (Node Cons cells (Node Cons condition b))) more) c e f o m q p zero vs there =
        let n = branch_unnamed x c us cells condition b more f in
        let r : Local = with_bound s us vs in
        let same : with_bound defines_first us vs ≡ with_value r x v = ap (with_store s) (bound_apart s.memory.store x u v us vs n.bound) in
        subst (λ z. Alike (serve g t b (body_place us cells condition q) 0 [] z) (serve g t (Node h a b) (body_place us cells condition p) 0 [] r)) (sym same)
        (body_alike b (body_place us cells condition q) (body_place us cells condition p) r
        (record { indices = refl; store = bound_kept s.memory.store s.memory.store u us vs (λ z r k e. e) (λ y i. o y (or_left (is_bound us y) _ i)) }))
    branch_alike (Node Cons (Node Branch us (Node Cons cells (Node Cons condition b))) more) c e f o m q p (suc k) vs there =
        let n = branch_unnamed x c us cells condition b more f in
        let w = and_parts (is_phrase Arm (Node Branch us (Node Cons cells (Node Cons condition b)))) _ e in
        let arm : Tree = Node Branch us (Node Cons cells (Node Cons condition b)) in
        branch_alike more (second_place c Cons arm) w.1 n.later (λ y i. o y (or_right (is_bound us y) _ i)) m (second_place q Cons arm) (second_place p Cons (Node Branch us (Node Cons cells (Node Cons condition (Node h a b))))) k vs there
    branch_alike (Node Cons (Node Branch us (Node Cons cells rest)) more) c e f o m q p k vs there = absurd (both_ways false refl (guarded_of us cells rest more e))
    branch_alike (Node Cons (Node Branch us rest) more) c e f o m q p k vs there = absurd (both_ways false refl (guards_of us rest more e))
    branch_alike branches c e f o m q p k vs there = absurd (both_ways false refl e)

    -- the construct behind the definition, and the same construct with the definition before its bodies
    construct_alike : (k : Tree) (c q p n : ℕ) (vs : List ℕ) → has_bodies k ≡ true → first_naming x c k ≡ None → is_phrase Body k ≡ true → AssignsNew (record { place = q; tree = k; before = defines_first }) → OwnUnassigned (record { place = q; tree = k; before = defines_first })
        → Alike (serve g t k q 0 [] defines_first) (serve g t (in_bodies (Node h a) k) p n vs s)
    unfolding serve step is_phrase
    construct_alike (Node (New y T) ka b) c q p n vs f e w new own =
        let r = not_here (y == x) c _ e in
        let apart : x ≡ y → ⊥ = λ i. both_ways (y == x) r.0 (eq-eqb y x (sym i)) in
        let value : ℕ = t (New_at y u) in
        one_body (New y T) ka b q p n vs (with_value s y value)
        (ap (λ m. Second 0 [] (with_store s m)) (put_apart s.memory.store x y u v value apart)) refl (later_value y value (new y (eq-eqb y y refl)))
    construct_alike (Node (Let y T) m b) c q p n vs f e w new own =
        let r = not_here (y == x) c _ e in
        let apart : x ≡ y → ⊥ = λ i. both_ways (y == x) r.0 (eq-eqb y x (sym i)) in
        let value : ℕ = value_here g s m in
        let same : value_here g defines_first m ≡ value = value_same g s.indices (only x) (put s.memory.store x u v) s.memory.store agree m (unlisted_unread x _ m r.1) in
        one_body (Let y T) m b q p n vs (with_value s y value)
        (ap (λ w. Second 0 [] (with_value defines_first y w)) same ∙ ap (λ m. Second 0 [] (with_store s m)) (put_apart s.memory.store x y u v value apart)) refl
        (later_value y value (new y (eq-eqb y y refl)))
    construct_alike (Node (Event z) ms b) c q p n vs f e w new own =
        let same : values_here g defines_first ms ≡ values_here g s ms = values_same g s.indices (only x) (put s.memory.store x u v) s.memory.store agree ms (unlisted_unread x _ ms e) in
        one_body (Event z) ms b q p n vs (with_event s z (values_here g s ms)) (ap (λ ws. Second 0 [] (with_event defines_first z ws)) same) refl
        (record { indices = refl; store = λ y r k i. i })
    construct_alike (Node If m (Node Cons then_body (Node Cons else_body rest))) c q p n vs f e w new own =
        subst (λ z. Alike (serve g t (Node Cons then_body (Node Cons else_body rest)) (second_place q If m) (cond (is_one z) 0 1) [] defines_first) (taken (is_one (value_here g s m)))) (sym same)
        (go (is_one (value_here g s m)))
      where
        same : value_here g defines_first m ≡ value_here g s m
        same = value_same g s.indices (only x) (put s.memory.store x u v) s.memory.store agree m (unlisted_unread x _ m e)

        taken : Bool → Served
        taken z = serve g t (Node Cons (Node h a then_body) (Node Cons (Node h a else_body) rest)) (second_place p If m) (cond z 0 1) [] s

        go : (z : Bool) → Alike (serve g t (Node Cons then_body (Node Cons else_body rest)) (second_place q If m) (cond z 0 1) [] defines_first) (taken z)
        go true = body_alike then_body _ _ s now
        go false = body_alike else_body _ _ s now
    construct_alike (Node If m (Node Cons then_body rest)) c q p n vs f e w new own = absurd (both_ways false refl (else_of then_body rest (then_of m (Node Cons then_body rest) w)))
    construct_alike (Node If m rest) c q p n vs f e w new own = absurd (both_ways false refl (then_of m rest w))
    construct_alike (Node (Find l) branches otherwise) c q p n vs f e w new own =
        subst (λ cs. Alike (served defines_first branches otherwise q (chosen (candidates g s.indices (put s.memory.store x u v) branches) cell)) (served s (in_branches (Node h a) branches) (Node h a otherwise) p (chosen cs cell)))
        (candidates_moved g s.indices (put s.memory.store x u v) s.memory.store x _ branches (Node h a) agree phrases e)
        (go (chosen (candidates g s.indices (put s.memory.store x u v) branches) cell) refl)
      where
        cell : ℕ
        cell = t (Find_at l u)

        phrases : is_phrase Branches branches ≡ true
        phrases = branches_of l branches otherwise w

        served : Local → Tree → Tree → ℕ → Option Candidate → Served
        served r bs o i z = after_turn (λ z. z) (serve g t bs (first_place i (Find l))) (serve g t o (second_place i (Find l) bs)) (after_find r z)

        go : (o : Option Candidate) → chosen (candidates g s.indices (put s.memory.store x u v) branches) cell ≡ o → Alike (served defines_first branches otherwise q o) (served s (in_branches (Node h a) branches) (Node h a otherwise) p o)
        go None z = body_alike otherwise _ _ s now
        go (Some k) z =
            branch_alike branches _ phrases e (λ y i. none_before s.memory.store x u v y u (own y i)) (put s.memory.store x u v) _ _ k.branch k.tuple
            (chosen_fine (IsBranch g s.indices (put s.memory.store x u v) branches) (candidates g s.indices (put s.memory.store x u v) branches) cell k (candidates_fine g s.indices (put s.memory.store x u v) branches) z)
    construct_alike k c q p n vs f e w new own = absurd (both_ways false refl f)

-- both are output processes, and the construct is visited behind the definition

pub definition_output : (h : Head) (a b : Tree) (x : ℕ) → defined (Node h a b) ≡ Some x → is_output (Node h a b) ≡ true
definition_output (New y T) a b x e = refl
definition_output (Let y T) a b x e = refl
definition_output h a b x e = absurd (cc)

bodies_output : (before : Tree → Tree) (k : Tree) → has_bodies k ≡ true → is_output (in_bodies before k) ≡ true
bodies_output before (Node (New y T) a b) e = refl
bodies_output before (Node (Let y T) a b) e = refl
bodies_output before (Node (Event z) a b) e = refl
bodies_output before (Node If a (Node Cons b (Node Cons c d))) e = refl
bodies_output before (Node If a b) e = refl
bodies_output before (Node (Find l) a b) e = refl
bodies_output before k e = absurd (both_ways false refl e)

first_visit : (P : Visit → Type 0) (g : Setting) (t : Tape) (k : Tree) (q n : ℕ) (vs : List ℕ) (s : Local) → has_bodies k ≡ true → AllByRecursion P (visits g t k q n vs s) → P (record { place = q; tree = k; before = s })
unfolding visits
first_visit P g t Empty q n vs s f e = absurd (both_ways false refl f)
first_visit P g t (Node h a b) q n vs s f e = e.0

-- at each visit what is read is assigned, and what is assigned was not, nor were the index variables of branches
abbrev pub Expected : Setting → Visit → Type 0
Expected g v = VisitReadsAssigned g v × (AssignsNew v × OwnUnassigned v)

pub moved_alike : (g : Setting) (t : Tape) (place c : ℕ) (h : Head) (a construct : Tree) (x : ℕ) → defined (Node h a construct) ≡ Some x → has_bodies construct ≡ true → first_naming x c construct ≡ None → is_phrase Body construct ≡ true
    → ServeAlike (Expected g) g t (Node h a construct) (in_bodies (Node h a) construct) place
unfolding serve visits
moved_alike g t place c h a construct x d f e w = record {
  opened = λ at.
      subst (λ is. InOrder Like is (inputs_of g new place at)) (sym (output_opens g old place at (definition_output h a construct x d)))
      (subst (λ is. InOrder Like [] is) (sym (output_opens g new place at (bodies_output (Node h a) construct f))) tt);
  served = λ k vs s r.
      let first : Local = with_value s x (drawn g t h a s) in
      let goes = step_defines g t h a construct x d place k vs s in
      let there = first_visit (Expected g) g t construct (second_place place h a) 0 [] first f
      (subst (λ z. AllByRecursion (Expected g) (after_turn (λ r. []) (visits g t a (first_place place h)) (visits g t construct (second_place place h a)) z)) goes r.1) in
      subst (λ z. AreServedAlike SameMemory Like (after_turn (λ r. r) (serve g t a (first_place place h)) (serve g t construct (second_place place h a)) z) (serve g t new place k vs s)) (sym goes)
      (construct_alike g t old new place h a construct x d s r.0.0 construct c (second_place place h a) place k vs f e w there.1.0 there.1.1);
}
  where
    old : Tree
    old = Node h a construct

    new : Tree
    new = in_bodies (Node h a) construct

    Like : Input → Input → Type 0
    Like = AreLikeInputs old new place
