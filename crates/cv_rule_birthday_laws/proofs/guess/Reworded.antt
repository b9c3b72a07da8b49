-- The game is the next one in other words, where no guess is right.
use Rattle.std.proofs.Common.{◌≡◌, ℕ, suc, ◌+◌, ◌==◌, ◌&&◌, ◌||◌, not, Bool, true, false, cond, max, List, [], ◌∷◌, ◌++◌, flat_map, Option, Some, None, refl, sym, ap, ap₂, subst, ◌∙◌, arith, eqb-true}
use Rattle.std.proofs.lemmas.Bool.{both_ways, and_parts, or_parts, or_from}
use Rattle.std.specs.List.{AllByRecursion}
use Rattle.cv_syntax_trees.specs.declared.head.Head.{Head}
use Rattle.cv_syntax_trees.specs.declared.head.Head.TheVariants.{Stop, Yield, Par, Repl, In, Out, Event, New, Let, If, Find, Branch, Cons, Binder}
use Rattle.cv_syntax.specs.Layouts.{IsSyntax}
use Rattle.cv_syntax_trees.specs.Tree.{Tree, Empty, Node, second, first_place, second_place}
use Rattle.cv_scene.specs.lines.Truths.{no}
use Rattle.cv_meaning.specs.Binders.{binder_count, bound_to, fits, widest_binder}
use Rattle.cv_meaning.specs.Candidates.{Candidate, are_assigned, candidate, candidates, candidates_at, is_assigned, most_indices, tuples_up_to, widest}
use Rattle.cv_meaning.specs.Interpretation.{Setting}
use Rattle.cv_meaning.specs.Memory.{Indices, Local, Store, tuple}
use Rattle.cv_meaning.specs.Serving.{Visit}
use Rattle.cv_meaning.specs.Still.{is_still}
use Rattle.cv_meaning.specs.Terms.{is_one, value}
use Rattle.cv_meaning_runs.specs.Replacement as runs
use Rattle.cv_meaning_runs.specs.Replacement.{Process, before_body}
use Rattle.cv_meaning_chances.specs.rewording.Rewording.{IsReworded, SaysTheSame, same, kept, reworded, in_parallel, in_list, in_find, in_branch, has_terms}
use Rattle.cv_scope_rules.specs.Context.{Context, cell_of, cells_of, first_context, items, nothing_known, replications_below}
use Rattle.cv_scope_rules.specs.Made.{is_bound, made_by}
use Rattle.cv_scope_rules.specs.Phrases.{Phrase, Nil, Inputs, Body, Then, Else, Branches, Arm, Guards, Guarded, Pattern, Message, Binders, Cells, Terms, Term, both_are, is_phrase, oracle_parts, parts}
use Rattle.cv_scope_rules.specs.Rules.{Names, is_index}
use Rattle.cv_scope_rules.specs.Sites.{Variable}
use Rattle.cv_scope_rules.specs.declared.position.Position.{Position}
use Rattle.cv_scope_rules.specs.declared.position.Position.TheVariants as position
use Rattle.cv_scope_runs.specs.Promises.{AreIndicesOf, BranchesHold, CandidatesHold, ContextHolds, PlaceHolds, TuplesHold, in_condition}
use Rattle.cv_scope_runs.proofs.Asked.{Asked}
use Rattle.cv_scope_runs.proofs.Contexts.{index_none}
use Rattle.cv_scope_runs.proofs.Rows.{placed, position_of}
use Rattle.cv_scope_runs.proofs.Standing.{Stands, first_below, in_first, in_second, root, second_below, stands_known}
use Rattle.cv_steps.specs.Rewriting.{is_term, parts_of}
use Rattle.cv_steps.proofs.Flat.{guarded_of, guards_of, terms_still}
use Rattle.cv_syntax_trees.proofs.lists.Each.{AllByRecursion_append, AllByRecursion_left, AllByRecursion_right}
use Rattle.cv_syntax_trees.proofs.lists.Tests.{differ_comm}
use Rattle.cv_costs.proofs.quiet.Shapes.{left_false}
use Rattle.cv_scene.specs.Large.{chooses, first_other_site}
use Rattle.cv_rule_birthday.specs.guess.Guessing.{Places, falsified, is_equality, is_guess, reads}
use Rattle.cv_rule_birthday_laws.specs.guess.Spots.{Misses, binders_below, construct_below, spot_of, spots, spots_of}
use Rattle.cv_rule_birthday_laws.proofs.guess.Falsified.{kept_bare, nothing_first, still_falsified}
use Rattle.cv_rule_birthday_laws.proofs.guess.Values.{IsKnown, IsWrong, Kept, kept as values_kept}

-- the context of a first child has the replications, the cells and the own cells of its node's

record AreSame (Γ Δ : Context) : Type 0 where
  replications : Γ.replications ≡ Δ.replications
  cells : Γ.cells ≡ Δ.cells
  own : Γ.own ≡ Δ.own

first_same : (w : Position) (h : Head) (Γ : Context) → AreSame (first_context w h Γ) Γ
first_same position.Bodies Cons Γ = record { replications = refl; cells = refl; own = refl }
first_same position.ElseBody Cons Γ = record { replications = refl; cells = refl; own = refl }
first_same w Cons Γ = record { replications = refl; cells = refl; own = refl }
first_same w h Γ = record { replications = refl; cells = refl; own = refl }

-- the cells of binders that don't bind the variable
own_free : (x : ℕ) (rs : List (ℕ × ℕ)) (us : Tree) → is_bound us x ≡ false → AllByRecursion (λ c. reads x c ≡ false) (cells_of rs us)
unfolding is_bound
own_free x rs (Node (Binder z T) a b) e =
    let r = or_parts (x == z) (is_bound b x) e in
    (one rs (differ_comm x z r.0), own_free x rs b r.1)
  where
    one : (rs : List (ℕ × ℕ)) → (z == x) ≡ false → reads x (cell_of rs z) ≡ false
    one [] f = f
    one (r ∷ rs) f = f
own_free x rs us e = tt

module _ (g : Setting) (x : ℕ) (ps : Places) (types : ℕ → Bool) (names : Names) (constant : names.constant ≡ g.is_constant) (variable : names.variable x ≡ true) (no_constant : g.is_constant x ≡ false) (game : Tree) where
  abbrev False : Phrase → ℕ → Tree → Tree
  False = falsified x ps

  abbrev next : Tree
  next = False Inputs 0 game

  -- what is known at a visit of the next game's run holds, and no guess is right there
  pub record IsExpected (v : Visit) : Type 0 where
    pub places : PlaceHolds g next v
    pub candidates : CandidatesHold g next v
    pub wrong : AllByRecursion (IsWrong g x v) (spots_of x ps game)

  -- Contexts of the game and of the next one: they have the same replications, cells and own cells, and none of these is the variable's.
  record AreBeside (rs ss : List (ℕ × ℕ)) (cs ds os ns : List Tree) : Type 0 where
    replications : ss ≡ rs
    cells : ds ≡ cs
    owns : ns ≡ os
    own : AllByRecursion (λ c. reads x c ≡ false) os
    outside : is_index rs x ≡ false

  abbrev Beside : Context → Context → Type 0
  Beside Γ Δ = AreBeside Γ.replications Δ.replications Γ.cells Δ.cells Γ.own Δ.own

  -- A tree of the game stands at a place, and the one of the next game at another one, in such contexts; and what is expected of visits
  -- says that no guess of the tree is right.
  record Stood (σ : Phrase) (p q c : ℕ) (Γ Δ : Context) (us t : Tree) : Type 0 where
    stands : Stands next q σ Δ (falsified x ps σ p t)
    phrase : is_phrase σ t ≡ true
    asked : Asked names (position_of σ) Γ t
    beside : Beside Γ Δ
    sites : first_other_site types x p t ≡ None
    wrong : (v : Visit) → IsExpected v → AllByRecursion (IsWrong g x v) (spots x ps σ p q c Γ.replications us t)

  opened : (σ : Phrase) (p : ℕ) (h : Head) (a b : Tree) → is_term σ ≡ false → False σ p (Node h a b) ≡ Node h (False (parts_of σ h).0 (first_place p h) a) (False (parts_of σ h).1 (second_place p h a) b)
  unfolding falsified
  opened σ p h a b e = ap (λ c. cond (c && (is_equality h && (ps p && (reads x a || reads x b)))) no (Node h (False (parts_of σ h).0 (first_place p h) a) (False (parts_of σ h).1 (second_place p h a) b))) e

  phrases_of : (σ : Phrase) (h : Head) (a b : Tree) → parts σ h ≡ Some (parts_of σ h) → is_phrase σ (Node h a b) ≡ true → (is_phrase (parts_of σ h).0 a ≡ true) × (is_phrase (parts_of σ h).1 b ≡ true)
  unfolding is_phrase
  phrases_of σ h a b e f = and_parts (is_phrase (parts_of σ h).0 a) _ (subst (λ o. both_are o (λ τ. is_phrase τ a) (λ ρ. is_phrase ρ b) ≡ true) e f)

  sites_of : (p : ℕ) (h : Head) (a b : Tree) → first_other_site types x p (Node h a b) ≡ None
      → ((made_by h a (Variable x) && not (chooses types h)) ≡ false) × (first_other_site types x (first_place p h) a ≡ None) × (first_other_site types x (second_place p h a) b ≡ None)
  unfolding first_other_site
  sites_of p h a b e = nothing_first (made_by h a (Variable x) && not (chooses types h)) p (first_other_site types x (first_place p h) a) (first_other_site types x (second_place p h a) b) e

  -- children

  module _ (σ : Phrase) (h : Head) (a b : Tree) (p q c : ℕ) (Γ Δ : Context) (us : Tree) (oracle : oracle_parts σ h ≡ Some (parts_of σ h)) (plain : parts σ h ≡ Some (parts_of σ h)) (term : is_term σ ≡ false) (s : Stood σ p q c Γ Δ us (Node h a b)) where
    abbrev next_first : Tree
    next_first = False (parts_of σ h).0 (first_place p h) a

    abbrev next_second : Tree
    next_second = False (parts_of σ h).1 (second_place p h a) b

    stands_there : Stands next q σ Δ (Node h next_first next_second)
    stands_there = subst (Stands next q σ Δ) (opened σ p h a b term) s.stands

    wrong_first : (v : Visit) → IsExpected v → AllByRecursion (IsWrong g x v) (spots x ps (parts_of σ h).0 (first_place p h) (first_place q h) (construct_below σ q c) Γ.replications us a)
    unfolding spots
    wrong_first v e =
        AllByRecursion_left (IsWrong g x v) _ _
        (AllByRecursion_right (IsWrong g x v) (cond (is_guess x ps σ p h a b) (spot_of x p c Γ.replications us a b next_first next_second ∷ []) []) _ (s.wrong v e))

    wrong_second : (v : Visit) → IsExpected v
        → AllByRecursion (IsWrong g x v) (spots x ps (parts_of σ h).1 (second_place p h a) (second_place q h next_first) (construct_below σ q c) (replications_below h Γ.replications) (binders_below σ h a us) b)
    unfolding spots
    wrong_second v e =
        AllByRecursion_right (IsWrong g x v) (spots x ps (parts_of σ h).0 (first_place p h) (first_place q h) (construct_below σ q c) Γ.replications us a) _
        (AllByRecursion_right (IsWrong g x v) (cond (is_guess x ps σ p h a b) (spot_of x p c Γ.replications us a b next_first next_second ∷ []) []) _ (s.wrong v e))

    first_stood : Stood (parts_of σ h).0 (first_place p h) (first_place q h) (construct_below σ q c) (first_below σ h Γ) (first_below σ h Δ) us a
    first_stood =
        let there = first_same (position_of σ) h Γ in
        let here = first_same (position_of σ) h Δ in
        record {
          stands = in_first oracle stands_there;
          phrase = (phrases_of σ h a b plain s.phrase).0;
          asked = subst (λ w. Asked names w (first_below σ h Γ) a) (placed σ (parts_of σ h).0 (parts_of σ h).1 h oracle).0 s.asked.1;
          beside = record {
            replications = here.replications ∙ (s.beside.replications ∙ sym there.replications);
            cells = here.cells ∙ (s.beside.cells ∙ sym there.cells);
            owns = here.own ∙ (s.beside.owns ∙ sym there.own);
            own = subst (AllByRecursion (λ c. reads x c ≡ false)) (sym there.own) s.beside.own;
            outside = subst (λ rs. is_index rs x ≡ false) (sym there.replications) s.beside.outside;
          };
          sites = (sites_of p h a b s.sites).1;
          wrong = λ v e. subst (λ rs. AllByRecursion (IsWrong g x v) (spots x ps (parts_of σ h).0 (first_place p h) (first_place q h) (construct_below σ q c) rs us a)) (sym there.replications) (wrong_first v e);
        }

    second_stood : replications_below h Γ.replications ≡ (second_below σ h a Γ).replications → Beside (second_below σ h a Γ) (second_below σ h next_first Δ)
        → Stood (parts_of σ h).1 (second_place p h a) (second_place q h next_first) (construct_below σ q c) (second_below σ h a Γ) (second_below σ h next_first Δ) (binders_below σ h a us) b
    second_stood rs beside = record {
      stands = in_second oracle stands_there;
      phrase = (phrases_of σ h a b plain s.phrase).1;
      asked = subst (λ w. Asked names w (second_below σ h a Γ) b) (placed σ (parts_of σ h).0 (parts_of σ h).1 h oracle).1 s.asked.2;
      beside = beside;
      sites = (sites_of p h a b s.sites).2;
      wrong = λ v e. subst (λ rs. AllByRecursion (IsWrong g x v) (spots x ps (parts_of σ h).1 (second_place p h a) (second_place q h next_first) (construct_below σ q c) rs (binders_below σ h a us) b)) rs (wrong_second v e);
    }

  -- visits

  context_same : (Γ Δ : Context) → ◌≡◌ {A = Option Context} (Some Γ) (Some Δ) → Γ ≡ Δ
  context_same Γ Δ e = cc

  -- what is known at a construct holds at its visit
  context_there : {q : ℕ} {Δ : Context} (t : Tree) → Stands next q Body Δ t → IsSyntax t → (l : Local) → IsExpected (record { place = q; tree = t; before = l }) → ContextHolds g Δ l.indices l.memory
  context_there {q = q} {Δ = Δ} t st i l e =
      let r = e.places i in
      let one : r.0 ≡ Δ = context_same r.0 Δ (sym r.1 ∙ stands_known next q Body Δ t i st) in
      subst (λ Ε. ContextHolds g Ε l.indices l.memory) one (r.2 l.memory (record { store = λ y u v f. f; events = λ d f. f }))

  -- the terms of a construct have their values
  terms_same : (σ : Phrase) (h : Head) (a b : Tree) (p q : ℕ) (Γ Δ : Context) → Stands next q Body Δ (Node h (False σ (first_place p h) a) b) → IsSyntax (Node h (False σ (first_place p h) a) b)
      → Stood σ (first_place p h) (first_place q h) q Γ Δ Empty a → (l : Local) → IsExpected (record { place = q; tree = Node h (False σ (first_place p h) a) b; before = l })
      → Kept g l.indices l.memory.store σ (False σ (first_place p h) a) a
  unfolding bound_to
  terms_same σ h a b p q Γ Δ st i s l e =
      let v : Visit = record { place = q; tree = Node h (False σ (first_place p h) a) b; before = l } in
      let holds = context_there (Node h (False σ (first_place p h) a) b) st i l e in
      let indices : AreIndicesOf g l.indices Γ.replications = subst (AreIndicesOf g l.indices) s.beside.replications holds.indices in
      let known : IsKnown g x l.indices l.memory.store Γ =
      record {
        cells = subst (AllByRecursion (λ c. is_assigned g l.indices l.memory.store l.memory.store c ≡ true)) s.beside.cells holds.cells;
        own = s.beside.own;
        outside = s.beside.outside;
        no_index = index_none g l.indices Γ.replications x indices s.beside.outside;
        no_constant = no_constant;
      } in
      values_kept g x names constant l.indices l.memory.store Γ known ps v q Γ.replications Empty
      (λ r pl rp bn w.
      subst (λ z. Misses g x l.indices (bound_to l.memory.store (tuple l.indices) z []) r.side r.other) bn
      (w i pl (subst (AreIndicesOf g l.indices) (sym rp) indices) [] (subst (λ z. fits g.interpretation.parameter_value z [] ≡ true) (sym bn) refl)))
      σ a (first_place p h) (first_place q h) s.phrase s.asked (s.wrong v e)

  -- a branch

  abbrev arm : (us cells d b : Tree) → Tree
  arm us cells d b = Node Branch us (Node Cons cells (Node Cons d b))

  module _ (us cells d b more : Tree) (p q c : ℕ) (Γ Δ : Context) (s : Stood Branches p q c Γ Δ Empty (Node Cons (arm us cells d b) more)) where
    abbrev guarded : Tree
    guarded = Node Cons d b

    abbrev guards : Tree
    guards = Node Cons cells guarded

    abbrev p_arm : ℕ
    p_arm = first_place p Cons

    abbrev q_arm : ℕ
    q_arm = first_place q Cons

    abbrev p_guards : ℕ
    p_guards = second_place p_arm Branch us

    abbrev p_guarded : ℕ
    p_guarded = second_place p_guards Cons cells

    abbrev p_body : ℕ
    p_body = second_place p_guarded Cons d

    abbrev next_us : Tree
    next_us = False Binders (first_place p_arm Branch) us

    abbrev next_cells : Tree
    next_cells = False Cells (first_place p_guards Cons) cells

    abbrev next_d : Tree
    next_d = False Term (first_place p_guarded Cons) d

    abbrev next_b : Tree
    next_b = False Body p_body b

    abbrev q_guards : Tree → ℕ
    q_guards us = second_place q_arm Branch us

    abbrev q_guarded : Tree → Tree → ℕ
    q_guarded us cells = second_place (q_guards us) Cons cells

    abbrev q_body : Tree → Tree → ℕ
    q_body us cells = second_place (q_guarded us cells) Cons next_d

    us_kept : next_us ≡ us
    us_kept = kept_bare x ps Binders us (first_place p_arm Branch) refl

    cells_kept : next_cells ≡ cells
    cells_kept = kept_bare x ps Cells cells (first_place p_guards Cons) refl

    abbrev in_arm : Context → Tree → Context
    in_arm Ε us = second_below Arm Branch us Ε

    abbrev in_guards : Context → Tree → Tree → Context
    in_guards Ε us cells = second_below Guards Cons cells (in_arm Ε us)

    one : Stood Arm p_arm q_arm c Γ Δ Empty (arm us cells d b)
    one = first_stood Branches Cons (arm us cells d b) more p q c Γ Δ Empty refl refl refl s

    bound : is_bound us x ≡ false
    bound = left_false (is_bound us x) true refl (sites_of p_arm Branch us guards one.sites).0

    two : Stood Guards p_guards (q_guards next_us) c (in_arm Γ us) (in_arm Δ next_us) us guards
    two =
        second_stood Arm Branch us guards p_arm q_arm c Γ Δ Empty refl refl refl one refl
        (record {
          replications = s.beside.replications;
          cells = s.beside.cells;
          owns = λ j. s.beside.owns j ++ cells_of (s.beside.replications j) (us_kept j);
          own = AllByRecursion_append (λ c. reads x c ≡ false) Γ.own (cells_of Γ.replications us) s.beside.own (own_free x Γ.replications us bound);
          outside = s.beside.outside;
        })

    three : Stood Guarded p_guarded (q_guarded next_us next_cells) c (in_guards Γ us cells) (in_guards Δ next_us next_cells) us guarded
    three =
        second_stood Guards Cons cells guarded p_guards (q_guards next_us) c (in_arm Γ us) (in_arm Δ next_us) us refl refl refl two refl
        (record {
          replications = s.beside.replications;
          cells = λ j. s.beside.cells j ++ items (cells_kept j);
          owns = two.beside.owns;
          own = two.beside.own;
          outside = s.beside.outside;
        })

    condition : Stood Term (first_place p_guarded Cons) (first_place (q_guarded next_us next_cells) Cons) c (in_guards Γ us cells) (in_guards Δ next_us next_cells) us d
    condition = first_stood Guarded Cons d b p_guarded (q_guarded next_us next_cells) c (in_guards Γ us cells) (in_guards Δ next_us next_cells) us refl refl refl three

    body : Stood Body p_body (q_body next_us next_cells) c (second_below Guarded Cons d (in_guards Γ us cells)) (second_below Guarded Cons next_d (in_guards Δ next_us next_cells)) Empty b
    body =
        second_stood Guarded Cons d b p_guarded (q_guarded next_us next_cells) c (in_guards Γ us cells) (in_guards Δ next_us next_cells) us refl refl refl three refl
        (record {
          replications = s.beside.replications;
          cells = λ j. three.beside.cells j ++ three.beside.owns j;
          owns = refl;
          own = tt;
          outside = s.beside.outside;
        })

    others : Stood Branches (second_place p Cons (arm us cells d b)) (second_place q Cons (arm next_us next_cells next_d next_b)) c Γ Δ Empty more
    unfolding falsified
    others = second_stood Branches Cons (arm us cells d b) more p q c Γ Δ Empty refl refl refl s refl s.beside

    -- it is a candidate in both games or in none
    module _ (v : Visit) (e : IsExpected v) (syntax : IsSyntax v.tree) (here : c ≡ v.place) (indices : AreIndicesOf g v.before.indices Γ.replications) where
      abbrev at : Indices
      at = v.before.indices

      abbrev m : Store
      m = v.before.memory.store

      condition_same : (u : List ℕ) → fits g.interpretation.parameter_value us u ≡ true → ContextHolds g (in_condition Δ us cells) at (record v.before.memory { store = bound_to m (tuple at) us u })
          → value g at (bound_to m (tuple at) us u) next_d ≡ value g at (bound_to m (tuple at) us u) d
      condition_same u f holds =
          let n : Store = bound_to m (tuple at) us u in
          let known : IsKnown g x at n (in_guards Γ us cells) =
          record {
            cells = subst (λ cs. AllByRecursion (λ c. is_assigned g at n n c ≡ true) (cs ++ items cells)) s.beside.cells holds.cells;
            own = condition.beside.own;
            outside = s.beside.outside;
            no_index = index_none g at Γ.replications x indices s.beside.outside;
            no_constant = no_constant;
          } in
          values_kept g x names constant at n (in_guards Γ us cells) known ps v c Γ.replications us
          (λ r pl rp bn w.
          subst (λ z. Misses g x at (bound_to m (tuple at) z u) r.side r.other) bn
          (w syntax (pl ∙ here) (subst (AreIndicesOf g at) (sym rp) indices) u (subst (λ z. fits g.interpretation.parameter_value z u ≡ true) (sym bn) f)))
          Term d (first_place p_guarded Cons) (first_place (q_guarded next_us next_cells) Cons) condition.phrase condition.asked (condition.wrong v e)

      arm_same : (u : List ℕ) (k : ℕ) → TuplesHold g Δ at v.before.memory (arm next_us next_cells next_d next_b) → candidate g at m u k (arm next_us next_cells next_d next_b) ≡ candidate g at m u k (arm us cells d b)
      arm_same u k h = ap (λ (z : Tree × Tree). candidate g at m u k (arm z.0 z.1 next_d next_b)) (λ j. (us_kept j, cells_kept j)) ∙ tried (fits g.interpretation.parameter_value us u) refl
        where
          n : Store
          n = bound_to m (tuple at) us u

          listed : List Candidate
          listed = record { branch = k; tuple = u } ∷ []

          holds : TuplesHold g Δ at v.before.memory (arm us cells next_d next_b)
          holds = subst (λ (z : Tree × Tree). TuplesHold g Δ at v.before.memory (arm z.0 z.1 next_d next_b)) (λ j. (us_kept j, cells_kept j)) h

          decided : fits g.interpretation.parameter_value us u ≡ true → (r : Bool) → are_assigned g at m n cells ≡ r
              → cond (elim r [ true ↦ is_one (value g at n next_d) | false ↦ false ]) listed [] ≡ cond (elim r [ true ↦ is_one (value g at n d) | false ↦ false ]) listed []
          decided f true r = ap (λ z. cond (is_one z) listed []) (condition_same u f ((holds u f).condition r))
          decided f false r = refl

          tried : (f : Bool) → fits g.interpretation.parameter_value us u ≡ f
              → elim f as (λ _. List Candidate) [ true ↦ cond (elim (are_assigned g at m n cells) [ true ↦ is_one (value g at n next_d) | false ↦ false ]) listed [] | false ↦ [] ]
              ≡ elim f as (λ _. List Candidate) [ true ↦ cond (elim (are_assigned g at m n cells) [ true ↦ is_one (value g at n d) | false ↦ false ]) listed [] | false ↦ [] ]
          tried true f = decided f (are_assigned g at m n cells) refl
          tried false f = refl

  -- branches have the same candidates

  record HaveSame (at : Indices) (m : Store) (a c : Tree) : Type 0 where
    indices : most_indices a ≡ most_indices c
    bounds : (bound : ℕ → ℕ) → widest bound a ≡ widest bound c
    candidates : (u : List ℕ) (k : ℕ) → candidates_at g at m u k a ≡ candidates_at g at m u k c

  all_same : (is : Indices) (m : Store) (a c : Tree) → HaveSame is m a c → candidates g is m a ≡ candidates g is m c
  unfolding candidates
  all_same is m a c h = λ i. flat_map (λ u. h.candidates u 0 i) (tuples_up_to (h.indices i) (h.bounds g.interpretation.parameter_value i))

  offers : (t : Tree) (p q c : ℕ) (Γ Δ : Context) → Stood Branches p q c Γ Δ Empty t → (v : Visit) → IsExpected v → IsSyntax v.tree → c ≡ v.place → AreIndicesOf g v.before.indices Γ.replications
      → BranchesHold g Δ v.before.indices v.before.memory (False Branches p t) → HaveSame v.before.indices v.before.memory.store (False Branches p t) t
  unfolding falsified is_phrase candidates_at
  offers Empty p q c Γ Δ s v e y here i h = record { indices = refl; bounds = λ bound. refl; candidates = λ u k. refl }
  offers (Node Cons (Node Branch us (Node Cons cells (Node Cons d b))) more) p q c Γ Δ s v e y here i h =
      let rest = offers more (second_place p Cons (arm us cells d b)) _ c Γ Δ (others us cells d b more p q c Γ Δ s) v e y here i h.1 in
      let k = us_kept us cells d b more p q c Γ Δ s in
      record {
        indices = ap₂ (λ z n. max (binder_count z) n) k rest.indices;
        bounds = λ bound. ap₂ (λ z n. max (widest_binder bound z) n) k (rest.bounds bound);
        candidates = λ u n. ap₂ ◌++◌ (arm_same us cells d b more p q c Γ Δ s v e y here i u n h.0) (rest.candidates u (suc n));
      }
  offers (Node Cons (Node Branch us (Node Cons cells t)) more) p q c Γ Δ s v e y here i h = absurd (both_ways false refl (guarded_of us cells t more s.phrase))
  offers (Node Cons (Node Branch us t) more) p q c Γ Δ s v e y here i h = absurd (both_ways false refl (guards_of us t more s.phrase))
  offers (Node Cons t more) p q c Γ Δ s v e y here i h = absurd (both_ways false refl (and_parts (is_phrase Arm t) (is_phrase Branches more) s.phrase).0)
  offers t p q c Γ Δ s v e y here i h = absurd (both_ways false refl s.phrase)

  -- the walk

  abbrev As : Phrase → ℕ → Tree → Tree → Type 0
  As Inputs q t u = IsReworded g IsExpected Process q t u
  As Body q t u = IsReworded g IsExpected Process q t u
  As Then q t u = IsReworded g IsExpected Process q t u
  As Else q t u = IsReworded g IsExpected Process q t u
  As Branches q t u = IsReworded g IsExpected runs.Branches q t u
  As σ q t u = Unit {0}

  index_other : (i : ℕ) → names.variable i ≡ false → (i == x) ≡ false
  index_other i e = go (i == x) refl
    where
      go : (d : Bool) → (i == x) ≡ d → d ≡ false
      go true f = absurd (both_ways (names.variable i) e (ap names.variable (eqb-true i x f) ∙ variable))
      go false f = refl

  push_outside : (rs : List (ℕ × ℕ)) (i n : ℕ) → is_index rs x ≡ false → (i == x) ≡ false → is_index (rs ++ (i, n) ∷ []) x ≡ false
  push_outside [] i n e f = or_from (i == x) false f refl
  push_outside (r ∷ rs) i n e f = let k = or_parts (r.0 == x) (is_index rs x) e in or_from (r.0 == x) (is_index (rs ++ (i, n) ∷ []) x) k.0 (push_outside rs i n k.1 f)

  -- a construct with terms
  construct : (σ : Phrase) (h : Head) (a b : Tree) (p q : ℕ) (Γ Δ : Context) → has_terms h ≡ true → is_still a ≡ true → Stands next q Body Δ (Node h (False σ (first_place p h) a) (False (parts_of Body h).1 (second_place p h a) b))
      → IsSyntax (Node h (False σ (first_place p h) a) (False (parts_of Body h).1 (second_place p h a) b)) → Stood σ (first_place p h) (first_place q h) q Γ Δ Empty a
      → ((l : Local) → Kept g l.indices l.memory.store σ (False σ (first_place p h) a) a → SaysTheSame g h (False σ (first_place p h) a) a l)
      → IsReworded g IsExpected Process (second_place q h (False σ (first_place p h) a)) (False (parts_of Body h).1 (second_place p h a) b) b
      → IsReworded g IsExpected Process q (Node h (False σ (first_place p h) a) (False (parts_of Body h).1 (second_place p h a) b)) (Node h a b)
  construct σ h a b p q Γ Δ t still st i s says rest =
      reworded t (still_falsified x ps σ a (first_place p h) still) still
      (λ l e. says l (terms_same σ h a (False (parts_of Body h).1 (second_place p h a) b) p q Γ Δ st i s l e)) rest

  walk : (σ : Phrase) (t : Tree) (p q c : ℕ) (Γ Δ : Context) → Stood σ p q c Γ Δ Empty t → As σ q (False σ p t) t
  unfolding falsified is_phrase
  walk Inputs (Node Stop a b) p q c Γ Δ s = subst (λ z. IsReworded g IsExpected Process q z (Node Stop a b)) (sym (ap₂ (Node Stop) (kept_bare x ps Nil a _ refl) (kept_bare x ps Nil b _ refl))) same
  walk Inputs (Node Par a b) p q c Γ Δ s =
      in_parallel (walk Inputs a _ _ _ Γ Δ (first_stood Inputs Par a b p q c Γ Δ Empty refl refl refl s)) (walk Inputs b _ _ _ Γ Δ (second_stood Inputs Par a b p q c Γ Δ Empty refl refl refl s refl s.beside))
  walk Inputs (Node (Repl i n) a b) p q c Γ Δ s =
      let below = second_stood Inputs (Repl i n) a b p q c Γ Δ Empty refl refl refl s refl
      (record { replications = ap (λ rs. rs ++ (i, n) ∷ []) s.beside.replications; cells = s.beside.cells; owns = s.beside.owns; own = s.beside.own; outside = push_outside Γ.replications i n s.beside.outside (index_other i s.asked.0.index.1) }) in
      subst (λ z. IsReworded g IsExpected Process q (Node (Repl i n) (False Nil (first_place p (Repl i n)) a) (False Inputs (second_place p (Repl i n) a) b)) (Node (Repl i n) z b)) (kept_bare x ps Nil a (first_place p (Repl i n)) refl)
      (kept (walk Inputs b _ _ _ _ _ below))
  walk Inputs (Node (In d) a b) p q c Γ Δ s =
      let same_pattern : False Pattern (first_place p (In d)) a ≡ a = kept_bare x ps Pattern a (first_place p (In d)) refl in
      let below = second_stood Inputs (In d) a b p q c Γ Δ Empty refl refl refl s refl
      (record { replications = s.beside.replications; cells = λ j. s.beside.cells j ++ cells_of (s.beside.replications j) (second (same_pattern j)); owns = s.beside.owns; own = s.beside.own; outside = s.beside.outside }) in
      subst (λ z. IsReworded g IsExpected Process q (Node (In d) (False Pattern (first_place p (In d)) a) (False Body (second_place p (In d) a) b)) (Node (In d) z b)) same_pattern (kept (walk Body b _ _ _ _ _ below))
  walk Inputs t p q c Γ Δ s = absurd (both_ways false refl s.phrase)
  walk Body (Node Yield a b) p q c Γ Δ s = subst (λ z. IsReworded g IsExpected Process q z (Node Yield a b)) (sym (ap₂ (Node Yield) (kept_bare x ps Nil a _ refl) (kept_bare x ps Nil b _ refl))) same
  walk Body (Node (New y T) a b) p q c Γ Δ s =
      let below = second_stood Body (New y T) a b p q c Γ Δ Empty refl refl refl s refl
      (record { replications = s.beside.replications; cells = λ j. s.beside.cells j ++ cell_of (s.beside.replications j) y ∷ []; owns = s.beside.owns; own = s.beside.own; outside = s.beside.outside }) in
      subst (λ z. IsReworded g IsExpected Process q (Node (New y T) (False Nil (first_place p (New y T)) a) (False Body (second_place p (New y T) a) b)) (Node (New y T) z b)) (kept_bare x ps Nil a (first_place p (New y T)) refl)
      (kept (walk Body b _ _ _ _ _ below))
  walk Body (Node (Out d) a b) p q c Γ Δ s =
      let first = first_stood Body (Out d) a b p q c Γ Δ Empty refl refl refl s in
      construct Message (Out d) a b p q Γ Δ refl (terms_still Message a refl first.phrase) (stands_there Body (Out d) a b p q c Γ Δ Empty refl refl refl s) refl first (λ l z. z)
      (walk Inputs b _ _ _ Γ Δ (second_stood Body (Out d) a b p q c Γ Δ Empty refl refl refl s refl s.beside))
  walk Body (Node (Let y T) a b) p q c Γ Δ s =
      let first = first_stood Body (Let y T) a b p q c Γ Δ Empty refl refl refl s in
      construct Term (Let y T) a b p q Γ Δ refl (terms_still Term a refl first.phrase) (stands_there Body (Let y T) a b p q c Γ Δ Empty refl refl refl s) refl first (λ l z. z)
      (walk Body b _ _ _ _ _
      (second_stood Body (Let y T) a b p q c Γ Δ Empty refl refl refl s refl
      (record { replications = s.beside.replications; cells = λ j. s.beside.cells j ++ cell_of (s.beside.replications j) y ∷ []; owns = s.beside.owns; own = s.beside.own; outside = s.beside.outside })))
  walk Body (Node (Event y) a b) p q c Γ Δ s =
      let first = first_stood Body (Event y) a b p q c Γ Δ Empty refl refl refl s in
      construct Terms (Event y) a b p q Γ Δ refl (terms_still Terms a refl first.phrase) (stands_there Body (Event y) a b p q c Γ Δ Empty refl refl refl s) refl first (λ l z. z)
      (walk Body b _ _ _ _ _ (second_stood Body (Event y) a b p q c Γ Δ Empty refl refl refl s refl s.beside))
  walk Body (Node If a b) p q c Γ Δ s =
      let first = first_stood Body If a b p q c Γ Δ Empty refl refl refl s in
      construct Term If a b p q Γ Δ refl (terms_still Term a refl first.phrase) (stands_there Body If a b p q c Γ Δ Empty refl refl refl s) refl first (λ l z. ap is_one z)
      (walk Then b _ _ _ _ _ (second_stood Body If a b p q c Γ Δ Empty refl refl refl s refl s.beside))
  walk Body (Node (Find n) a b) p q c Γ Δ s =
      let first = first_stood Body (Find n) a b p q c Γ Δ Empty refl refl refl s in
      let there = stands_there Body (Find n) a b p q c Γ Δ Empty refl refl refl s in
      in_find
      (λ l e.
      let holds = context_there (Node (Find n) (False Branches (first_place p (Find n)) a) (False Body (second_place p (Find n) a) b)) there refl l e in
      all_same l.indices l.memory.store _ _
      (offers a (first_place p (Find n)) (first_place q (Find n)) q Γ Δ first _ e refl refl (subst (AreIndicesOf g l.indices) s.beside.replications holds.indices) (e.candidates Δ (stands_known next q Body Δ _ refl there))))
      (walk Branches a _ _ _ Γ Δ first) (walk Body b _ _ _ Γ Δ (second_stood Body (Find n) a b p q c Γ Δ Empty refl refl refl s refl s.beside))
  walk Body t p q c Γ Δ s = absurd (both_ways false refl s.phrase)
  walk Then (Node Cons a b) p q c Γ Δ s =
      in_list (walk Body a _ _ _ _ _ (first_stood Then Cons a b p q c Γ Δ Empty refl refl refl s)) (walk Else b _ _ _ _ _ (second_stood Then Cons a b p q c Γ Δ Empty refl refl refl s refl s.beside))
  walk Then t p q c Γ Δ s = absurd (both_ways false refl s.phrase)
  walk Else (Node Cons a b) p q c Γ Δ s =
      in_list (walk Body a _ _ _ _ _ (first_stood Else Cons a b p q c Γ Δ Empty refl refl refl s))
      (subst (λ z. IsReworded g IsExpected Process (second_place q Cons (False Body (first_place p Cons) a)) z b) (sym (kept_bare x ps Nil b (second_place p Cons a) refl)) same)
  walk Else t p q c Γ Δ s = absurd (both_ways false refl s.phrase)
  walk Branches Empty p q c Γ Δ s = same
  walk Branches (Node Cons (Node Branch us (Node Cons cells (Node Cons d b))) more) p q c Γ Δ s = listed us cells d b more p q c Γ Δ s (walk Body b _ _ _ _ _ (body us cells d b more p q c Γ Δ s)) (walk Branches more _ _ _ Γ Δ (others us cells d b more p q c Γ Δ s))
    where
      listed : (us cells d b more : Tree) (p q c : ℕ) (Γ Δ : Context) (s : Stood Branches p q c Γ Δ Empty (Node Cons (arm us cells d b) more))
          → IsReworded g IsExpected Process (q_body us cells d b more p q c Γ Δ s (next_us us cells d b more p q c Γ Δ s) (next_cells us cells d b more p q c Γ Δ s)) (next_b us cells d b more p q c Γ Δ s) b
          → IsReworded g IsExpected runs.Branches (second_place q Cons (arm (next_us us cells d b more p q c Γ Δ s) (next_cells us cells d b more p q c Γ Δ s) (next_d us cells d b more p q c Γ Δ s) (next_b us cells d b more p q c Γ Δ s)))
          (False Branches (second_place p Cons (arm us cells d b)) more) more
          → IsReworded g IsExpected runs.Branches q
          (Node Cons (arm (next_us us cells d b more p q c Γ Δ s) (next_cells us cells d b more p q c Γ Δ s) (next_d us cells d b more p q c Γ Δ s) (next_b us cells d b more p q c Γ Δ s)) (False Branches (second_place p Cons (arm us cells d b)) more))
          (Node Cons (arm us cells d b) more)
      listed us cells d b more p q c Γ Δ s x y =
          let nd : Tree = next_d us cells d b more p q c Γ Δ s in
          let nb : Tree = next_b us cells d b more p q c Γ Δ s in
          let rest : Tree = False Branches (second_place p Cons (arm us cells d b)) more in
          let there : q_body us cells d b more p q c Γ Δ s us cells ≡ q + before_body us cells nd = omega arith in
          let both : (next_us us cells d b more p q c Γ Δ s, next_cells us cells d b more p q c Γ Δ s) ≡ (us, cells) = λ j. (us_kept us cells d b more p q c Γ Δ s j, cells_kept us cells d b more p q c Γ Δ s j) in
          let still_cells : is_still cells ≡ true = terms_still Cells cells refl (and_parts (is_phrase Cells cells) _ (guards_of us (Node Cons cells (Node Cons d b)) more s.phrase)).0 in
          let still_d : is_still d ≡ true = terms_still Term d refl (condition us cells d b more p q c Γ Δ s).phrase in
          subst (λ (z : Tree × Tree). IsReworded g IsExpected runs.Branches q (Node Cons (arm z.0 z.1 nd nb) rest) (Node Cons (arm us cells d b) more)) (sym both)
          (in_branch still_cells (still_falsified _ ps Term d _ still_d) still_cells still_d
          (subst (λ n. IsReworded g IsExpected Process n nb b) ((λ j. q_body us cells d b more p q c Γ Δ s (both j).0 (both j).1) ∙ there) x)
          (subst (λ (z : Tree × Tree). IsReworded g IsExpected runs.Branches (second_place q Cons (arm z.0 z.1 nd nb)) rest more) both y))
  walk Branches (Node Cons (Node Branch us (Node Cons cells t)) more) p q c Γ Δ s = absurd (both_ways false refl (guarded_of us cells t more s.phrase))
  walk Branches (Node Cons (Node Branch us t) more) p q c Γ Δ s = absurd (both_ways false refl (guards_of us t more s.phrase))
  walk Branches (Node Cons t more) p q c Γ Δ s = absurd (both_ways false refl (and_parts (is_phrase Arm t) (is_phrase Branches more) s.phrase).0)
  walk Branches t p q c Γ Δ s = absurd (both_ways false refl s.phrase)
  walk σ t p q c Γ Δ s = tt

  pub game_reworded : is_phrase Inputs game ≡ true → Asked names position.Anywhere nothing_known game → first_other_site types x 0 game ≡ None → IsReworded g IsExpected Process 0 next game
  game_reworded w a e =
      walk Inputs game 0 0 0 nothing_known nothing_known
      (record {
        stands = root;
        phrase = w;
        asked = a;
        beside = record { replications = refl; cells = refl; owns = refl; own = tt; outside = refl };
        sites = e;
        wrong = λ v h. h.wrong;
      })
