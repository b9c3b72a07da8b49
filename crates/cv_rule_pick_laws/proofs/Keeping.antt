-- An accepted step keeps chances.
use Rattle.std.proofs.Common.{◌≡◌, ℕ, ◌+◌, ◌<◌, ◌≤◌, ◌&&◌, ◌||◌, not, Bool, true, false, List, [], ◌∷◌, map, Some, ◌⊎◌, inl, inr, nat_lt, refl, sym, ap, ap₂, subst, ◌∙◌, arith, lt-ltb, le-ltb}
use Rattle.std.proofs.lemmas.Bool.{both_ways, and_parts}
use Rattle.std.proofs.lemmas.List.Elements.{All-nil, All-cons, All-head, All-tail, All-weaker}
use Rattle.std.specs.List.{All, AllByRecursion, list_any}
use Rattle.cv_syntax_trees.specs.declared.head.Head.{Head}
use Rattle.cv_syntax_trees.specs.declared.head.Head.TheVariants.{Branch, Cons, Event, Find, If, Key, Call, Let, New, Out, Yield}
use Rattle.cv_syntax_trees.specs.Declarations.{Declaration}
use Rattle.cv_syntax_trees.specs.Tree.{Tree, Empty, Node, bound_names, same_tree, size}
use Rattle.cv_meaning.specs.Advantage.{IsAsked, chance_of}
use Rattle.cv_meaning.specs.Candidates.{candidates, candidates_at}
use Rattle.cv_meaning.specs.Cells.{cells}
use Rattle.cv_meaning.specs.Chances.{Same, chance}
use Rattle.cv_meaning.specs.Experiments.{Experiment, coins_on, holds_on, mode_of, run, visits_of_run}
use Rattle.cv_meaning.specs.Interpretation.{Interpretation, Setting, setting_of}
use Rattle.cv_meaning.specs.Memory.{Indices, Store}
use Rattle.cv_meaning.specs.Queries.{queries_in}
use Rattle.cv_meaning.specs.Replaced.{is_output}
use Rattle.cv_meaning.specs.Runs.{Adversary, Mode, State}
use Rattle.cv_meaning.specs.Satisfies.{Satisfies}
use Rattle.cv_meaning.specs.Serving.{Visit}
use Rattle.cv_meaning.specs.Still.{is_still}
use Rattle.cv_meaning.specs.Tapes.{Cell, Tape, blank, count, is_in, total}
use Rattle.cv_meaning_laws.specs.adequacy.Counted.{tapes_of}
use Rattle.cv_meaning_laws.specs.adequacy.Typed.{Context}
use Rattle.cv_meaning_laws.proofs.Listed.{cells_distinct}
use Rattle.cv_meaning_laws.proofs.adequacy.Counting.{count_is}
use Rattle.cv_meaning_runs.specs.Replacement.{IsReplaced, Process}
use Rattle.cv_meaning_chances.specs.Tests.{Ignores}
use Rattle.cv_meaning_chances.specs.thinning.Thinning.{IsThinned, merged, same}
use Rattle.cv_meaning_chances.specs.unread.Dropping.{reads_none}
use Rattle.cv_meaning_chances.specs.unread.Sizes.{GiveSizesFor, size_in}
use Rattle.cv_meaning_chances.proofs.alignment.Closing.{others_ignored_in_games}
use Rattle.cv_meaning_chances.proofs.rewording.SameCells.{count_alike}
use Rattle.cv_meaning_chances.proofs.thinning.Alike.{holds_without}
use Rattle.cv_meaning_chances.proofs.thinning.Placed.{thinned_at}
use Rattle.cv_meaning_chances.proofs.unread.CellSizes.{same_by_sizes}
use Rattle.cv_typing_runs.proofs.Games.{typed}
use Rattle.cv_typing_runs.specs.Games.{context_of}
use Rattle.cv_scope_rules.specs.Context.{cell_of, index_terms}
use Rattle.cv_scope_rules.specs.Made.{OwnUnassigned}
use Rattle.cv_scope_rules.specs.Phrases.{Body, Inputs, Term, is_phrase}
use Rattle.cv_scope_rules.specs.Scope.{is_variable}
use Rattle.cv_scope_runs.specs.Promises.{CandidatesHold, GrowsToEnd}
use Rattle.cv_scope_runs.proofs.ConsultedOnce.{all_own_unassigned}
use Rattle.cv_scope_runs.proofs.FactsRuns.{all_candidates_hold, all_grow_to_last}
use Rattle.cv_scope_runs.proofs.ServeRuns.{VisitHolds, game_holds}
use Rattle.cv_derive_laws.specs.stores.Holding.{HoldAtVisit, IsReady}
use Rattle.cv_derive_laws.specs.stores.Reached.{HasTypes}
use Rattle.cv_derive_laws.specs.stores.Soundness.{DerivationsHold}
use Rattle.cv_derive_laws.proofs.stores.Stores.{typed_visits}
use Rattle.cv_scene.specs.Scenes.{Scene, part_at}
use Rattle.cv_scene.specs.Terms.{is_term_at}
use Rattle.cv_steps.specs.Changes.{change_at}
use Rattle.cv_steps.specs.Chances.{KeepsChances}
use Rattle.cv_steps.proofs.Flat.{term_still}
use Rattle.cv_steps.proofs.Sizes.{NamesSorts, typed_names}
use Rattle.cv_steps.proofs.Testable.{game_no_calls, game_testable, local}
use Rattle.cv_steps_laws.proofs.chances.Chances.{one_size_or_none}
use Rattle.cv_steps_laws.proofs.chances.Inclusion.{Includes, first_in, replaced_included, second_in}
use Rattle.cv_rule_move.proofs.merge.Asked.{all_untested}
use Rattle.cv_rule_move.proofs.merge.Named.{unread_changed}
use Rattle.cv_rule_pick.specs.Picking.{Arm, arm_place, is_inside, with_terms}
use Rattle.cv_rule_pick_laws.specs.Settling.{IsSettled, decided, in_branch, same as settled_same}
use Rattle.cv_rule_pick_laws.proofs.Body.{settled}
use Rattle.cv_rule_pick_laws.proofs.Changes.{Between, between, cells_same, replaced_copies, settled_at, with_copies}
use Rattle.cv_rule_pick_laws.proofs.Equal.{IsExpected, IsKnown}
use Rattle.cv_rule_pick_laws.proofs.Makers.{IsMade, run_assigns}
use Rattle.cv_rule_pick_laws.proofs.Names.{with_unread}
use Rattle.cv_rule_pick_laws.proofs.Picks as picks
use Rattle.cv_rule_pick_laws.proofs.Picks.{AllTerms, IsPick, branches_tree, guards_tree, terms_weaker}
use Rattle.cv_rule_pick_laws.proofs.Settled.{holds_settled}
use Rattle.cv_rule_pick_laws.proofs.Standing.{below_same}
use Rattle.cv_rule_pick_laws.proofs.Takes.{takes}
use Rattle.cv_rule_pick_laws.proofs.Terms.{AllBoth, reads, with_node}
use Rattle.cv_syntax_trees.proofs.lists.Tests.{and_false, differs}

-- Where an experiment holds alike in two games on each tape that is counted for the first, and the cells of the second are those of
-- another one, which are some of the first, its chance is one.
chance_with : (c : Context) (ds : List Declaration) (i : Interpretation) (x : Experiment) (a : Adversary) (game other next : Tree) → NamesSorts c game → ((give : Head → List ℕ → List (Cell × ℕ)) → Includes (setting_of ds i) give game other)
    → cells (setting_of ds i) (mode_of x) a other ≡ cells (setting_of ds i) (mode_of x) a next → is_phrase Inputs next ≡ true
    → All (λ t. holds_on (setting_of ds i) x a game t ≡ holds_on (setting_of ds i) x a next t) (tapes_of (cells (setting_of ds i) (mode_of x) a game) blank)
    → Same (chance_of (setting_of ds i) x a game) (chance_of (setting_of ds i) x a next)
unfolding chance_of
chance_with c ds i x a game other next names inside k e f =
    let g : Setting = setting_of ds i in
    let m : Mode = mode_of x in
    let cs : List (Cell × ℕ) = cells g m a game in
    let es : List (Cell × ℕ) = cells g m a next in
    let p : Tape → Bool = holds_on g x a game in
    let q : Tape → Bool = holds_on g x a next in
    let alike : count cs p blank ≡ count cs q blank = count_is cs p blank ∙ (count_alike p q (tapes_of cs blank) f ∙ sym (count_is cs q blank)) in
    let ignores = others_ignored_in_games g x a next local (game_testable m next e) (game_no_calls next e) in
    let sizes : GiveSizesFor q cs es = λ d. go d (ignores d) (subst (λ zs. (size_in cs d ≡ size_in zs d) ⊎ (is_in zs d ≡ false)) k (one_size_or_none c ds i m a game other names inside d)) in
    subst (λ n. Same (record { good = n; all = total cs }) (chance es q)) (sym alike) (same_by_sizes q cs es (cells_distinct g m a game) (cells_distinct g m a next) sizes)
  where
    go : (d : Cell) → (is_in (cells (setting_of ds i) (mode_of x) a next) d ≡ false → Ignores (holds_on (setting_of ds i) x a next) d)
        → (size_in (cells (setting_of ds i) (mode_of x) a game) d ≡ size_in (cells (setting_of ds i) (mode_of x) a next) d) ⊎ (is_in (cells (setting_of ds i) (mode_of x) a next) d ≡ false)
        → (size_in (cells (setting_of ds i) (mode_of x) a game) d ≡ size_in (cells (setting_of ds i) (mode_of x) a next) d) ⊎ Ignores (holds_on (setting_of ds i) x a next) d
    go d k (inl e) = inl e
    go d k (inr e) = inr (k e)

both_all : {A : Type 0} (P Q R : A → Type 0) → ((x : A) → P x → Q x → R x) → (xs : List A) → All P xs → All Q xs → All R xs
both_all P Q R f [] p q = All-nil R
both_all P Q R f (x ∷ xs) p q = All-cons R x xs (f x (All-head P x xs p) (All-head Q x xs q)) (both_all P Q R f xs (All-tail P x xs p) (All-tail Q x xs q))

-- own cells define nothing
chain_still : (rs : List (ℕ × ℕ)) → is_still (index_terms rs) ≡ true
chain_still [] = refl
chain_still (r ∷ rs) = chain_still rs

cell_still : (rs : List (ℕ × ℕ)) (y : ℕ) → is_still (cell_of rs y) ≡ true
cell_still [] y = refl
cell_still (r ∷ rs) y = ap (λ v. v && true) (chain_still (r ∷ rs))

stills : (rs : List (ℕ × ℕ)) (ys : List ℕ) (ms : Tree) → AllTerms (λ m. is_phrase Term m ≡ true) ms → AllBoth (λ c m. (is_still c ≡ true) × (is_still m ≡ true)) (map (cell_of rs) ys) ms
stills rs [] ms k = tt
stills rs (y ∷ ys) Empty k = tt
stills rs (y ∷ ys) (Node h m ms) k = ((cell_still rs y, term_still m k.0), stills rs ys ms k.1)

-- only the head tells whether a tree is an output process, and it is no read
output_head : (h : Head) (a b c d : Tree) → is_output (Node h a b) ≡ true → (reads h ≡ false) × (is_output (Node h c d) ≡ true)
output_head Yield a b c d e = (refl, refl)
output_head (Out n) a b c d e = (refl, refl)
output_head (Event n) a b c d e = (refl, refl)
output_head (New y T) a b c d e = (refl, refl)
output_head (Let y T) a b c d e = (refl, refl)
output_head If a b c d e = (refl, refl)
output_head (Find l) a b c d e = (refl, refl)
output_head (Key y) a b c d e = (refl, refl)
output_head (Call y l) a b c d e = (refl, refl)
output_head h a b c d e = absurd (both_ways false refl e)

module _ (s : Scene) (place : ℕ) (ms d e next : Tree) (k : IsPick s place ms d e next) (ready : IsReady s.declarations s.game) (terms : AllTerms (λ m. is_term_at s place m ≡ true) ms) (i : Interpretation) where
  abbrev game : Tree
  game = s.game

  abbrev g : Setting
  g = setting_of s.declarations i

  abbrev a : Arm
  a = k.arm

  abbrev old : Tree
  old = part_at game place

  abbrev xs : ℕ → Bool
  xs = picks.xs s place ms d e next k ready i

  abbrev cs : List Tree
  cs = picks.cs s place ms d e next k ready i

  abbrev behind : ℕ
  behind = picks.behind s place ms d e next k ready i

  abbrev new : Tree
  new = with_terms cs ms a.body

  abbrev after : Tree
  after = change_at game place (λ t. new)

  abbrev label : ℕ
  label = (picks.find s place ms d e next k ready i).label

  abbrev otherwise : Tree
  otherwise = (picks.find s place ms d e next k ready i).otherwise

  -- the `find` with the new body, and in place of the `else` too
  abbrev both : Tree
  both = Node (Find label) (branches_tree a new) new

  phrases : AllTerms (λ m. is_phrase Term m ≡ true) ms
  phrases = terms_weaker (λ m. is_term_at s place m ≡ true) (λ m. is_phrase Term m ≡ true) (λ m f. (and_parts (is_phrase Term m) _ f).0) ms terms

  there : IsReplaced old new place Process 0 game after
  there = picks.there s place ms d e next k ready i

  new_output : is_output new ≡ true
  new_output = go a.body (picks.body_output_there s place ms d e next k ready i)
    where
      go : (t : Tree) → is_output t ≡ true → is_output (with_terms cs ms t) ≡ true
      go Empty f = absurd (both_ways false refl f)
      go (Node h b c) f =
          let r = output_head h b c (with_terms cs ms b) (with_terms cs ms c) f in
          ap is_output (with_node cs ms (picks.cells_are s place ms d e next k ready i) h b c r.0) ∙ r.1

  -- nothing reads the index variables afterwards

  new_unread : reads_none xs new ≡ true
  new_unread =
      with_unread g game (picks.fine s place ms d e next k ready i) xs cs (arm_place place) behind (picks.cells_are s place ms d e next k ready i) k.named ms (picks.paired s place ms d e next k ready i) (picks.both_unread s place ms d e next k ready i)
      a.body (picks.body_stands s place ms d e next k ready i) (omega arith)

  old_size : behind ≤ place + size old
  unfolding size
  old_size = subst (λ t. behind ≤ place + size t) (sym (picks.find s place ms d e next k ready i).is) (omega arith)

  outside : (q : ℕ) → (q < place) ⊎ (place + size old ≤ q) → is_inside game cs (arm_place place) behind q ≡ false
  outside q (inl l) =
      let n : q ≡ arm_place place → ⊥ = λ f. absurd (omega arith) in
      ap₂ ◌||◌ (differs q (arm_place place) n) (ap (λ v. (not v && nat_lt q behind) && list_any (same_tree (part_at game q)) cs) (lt-ltb q (arm_place place) (omega arith)))
  outside q (inr l) =
      let big : behind ≤ q = (let z = old_size in omega arith) in
      let n : q ≡ arm_place place → ⊥ = λ f. absurd (omega arith) in
      ap₂ ◌||◌ (differs q (arm_place place) n)
      (ap (λ v. (not (nat_lt q (arm_place place)) && v) && list_any (same_tree (part_at game q)) cs) (le-ltb q behind big) ∙ ap (λ v. v && list_any (same_tree (part_at game q)) cs) (and_false (not (nat_lt q (arm_place place)))))

  after_unread : reads_none xs after ≡ true
  after_unread = unread_changed xs (is_inside game cs (arm_place place) behind) old new place outside new_unread Process 0 game after there k.named

  -- on each tape

  step : Between old both new place Process 0 game after
  step = between old both new place Process 0 game after there

  thinned : IsThinned xs Process step.tree after
  thinned = thinned_at xs both new place (merged (picks.binds_own s place ms d e next k ready i, refl, tt) new_output (same new_unread)) Process 0 step.tree after after_unread step.second

  module _ (sat : Satisfies s.declarations i) (sound : DerivationsHold s.declarations) where
    abbrev V : Visit → Type 0
    V = IsExpected s i ready

    same_bodies : (at : Indices) (m : Store) → candidates g at m (branches_tree a a.body) ≡ candidates g at m (branches_tree a new)
    unfolding candidates candidates_at
    same_bodies at m = refl

    settled_there : IsSettled g V Process place old both
    settled_there =
        subst (λ t. IsSettled g V Process place t both) (sym (picks.find s place ms d e next k ready i).is)
        (decided {b = otherwise} (λ l v. same_bodies l.indices l.memory.store) (λ l v c. takes s place ms d e next k ready terms phrases i sat sound l v c)
        (in_branch (settled s place ms d e next k ready phrases i sound Body a.body (picks.body_stands s place ms d e next k ready i) (below_same (picks.Δ s place ms d e next k ready i)) (picks.phrases s place ms d e next k ready i).body) settled_same))

    whole : IsSettled g V Process 0 game step.tree
    whole = settled_at g V old both place settled_there Process 0 game step.tree step.first

    -- the visits are as expected

    grown : (m : Mode) (b : Adversary) (t : Tape) → AllByRecursion (GrowsToEnd (run g m b game t)) (visits_of_run g m b game t)
    unfolding visits_of_run run
    grown m b t = all_grow_to_last s.declarations g m (b.next (coins_on t 0 b.coins)) t b.moves game refl (picks.context s place ms d e next k ready i)

    held : (m : Mode) (b : Adversary) (t : Tape) → AllByRecursion (VisitHolds g (is_variable game) game (picks.fine s place ms d e next k ready i)) (visits_of_run g m b game t)
    unfolding visits_of_run
    held m b t = (game_holds g (is_variable game) game (picks.fine s place ms d e next k ready i) m (b.next (coins_on t 0 b.coins)) t b.moves).passes.visits

    own : (m : Mode) (b : Adversary) (t : Tape) → AllByRecursion OwnUnassigned (visits_of_run g m b game t)
    unfolding visits_of_run
    own m b t = all_own_unassigned s.declarations g m (b.next (coins_on t 0 b.coins)) t b.moves game (picks.context s place ms d e next k ready i)

    candidates_there : (m : Mode) (b : Adversary) (t : Tape) → AllByRecursion (CandidatesHold g game) (visits_of_run g m b game t)
    unfolding visits_of_run
    candidates_there m b t = all_candidates_hold s.declarations g m (b.next (coins_on t 0 b.coins)) t b.moves game refl (picks.context s place ms d e next k ready i)

    module _ (t : Tape) (last : State) where
      abbrev Known : Visit → Type 0
      Known = IsKnown s i ready last.memory

      all_known : (vs : List Visit) → AllByRecursion (VisitHolds g (is_variable game) game (picks.fine s place ms d e next k ready i)) vs → AllByRecursion (HoldAtVisit s i) vs → AllByRecursion (GrowsToEnd last) vs → AllByRecursion Known vs
      all_known [] a b c = tt
      all_known (v ∷ vs) a b c = (record { holds = a.0; derived = b.0; kept = c.0.store }, all_known vs a.1 b.1 c.1)

      all_expected : ((y : ℕ) (u : List ℕ) (n : ℕ) → last.memory.store y u ≡ Some n → IsMade g t Known y u) → (vs : List Visit) → AllByRecursion Known vs → AllByRecursion OwnUnassigned vs → AllByRecursion (CandidatesHold g game) vs → AllByRecursion (HasTypes s.declarations game i) vs → AllByRecursion V vs
      all_expected makers [] a b c o = tt
      all_expected makers (v ∷ vs) a b c o = (
        record {
          holds = a.0.holds;
          own = b.0;
          candidates = c.0;
          types = o.0;
          derived = a.0.derived;
          made = λ y u n f. record { tape = t; last = last.memory; kept = a.0.kept; made = makers y u n (a.0.kept y u n f) };
        },
        all_expected makers vs a.1 b.1 c.1 o.1,
      )

    expected_on : (m : Mode) (b : Adversary) (t : Tape) → AllByRecursion (HasTypes s.declarations game i) (visits_of_run g m b game t) → AllByRecursion (HoldAtVisit s i) (visits_of_run g m b game t) → AllByRecursion V (visits_of_run g m b game t)
    expected_on m b t p q =
        let last : State = run g m b game t in
        let known : AllByRecursion (IsKnown s i ready last.memory) (visits_of_run g m b game t) = all_known t last (visits_of_run g m b game t) (held m b t) q (grown m b t) in
        all_expected t last (λ y u n f. run_assigns g t (IsKnown s i ready last.memory) y u n m b game known f) (visits_of_run g m b game t) known (own m b t) (candidates_there m b t) p

    expected : (m : Mode) (b : Adversary) → All (λ t. AllByRecursion V (visits_of_run g m b game t)) (tapes_of (cells g m b game) blank)
    expected m b =
        both_all (λ t. AllByRecursion (HasTypes s.declarations game i) (visits_of_run g m b game t)) (λ t. AllByRecursion (HoldAtVisit s i) (visits_of_run g m b game t)) (λ t. AllByRecursion V (visits_of_run g m b game t))
        (λ t p q. expected_on m b t p q) _
        (typed_visits s.declarations game ready.arguments ready.formed ready.typed ready.names ready.sorts i sat m b (λ t. grown m b t)) (sound.places s refl ready i sat m b)

    alike : (x : Experiment) (b : Adversary) → IsAsked (queries_in s.declarations) x → All (λ t. holds_on g x b game t ≡ holds_on g x b after t) (tapes_of (cells g (mode_of x) b game) blank)
    alike x b asked =
        All-weaker (λ t. AllByRecursion V (visits_of_run g (mode_of x) b game t)) (λ t. holds_on g x b game t ≡ holds_on g x b after t)
        (λ t v. holds_settled g V x b game step.tree t whole v ∙ holds_without xs g x b step.tree after t thinned (all_untested s xs k.unasked x asked)) _ (expected (mode_of x) b)

    -- cells

    -- the game with the body as it stands
    plain : Between old a.body new place Process 0 game after
    plain = between old a.body new place Process 0 game after there

    body_included : (give : Head → List ℕ → List (Cell × ℕ)) → Includes g give old a.body
    body_included give =
        subst (λ t. Includes g give t a.body) (sym (picks.find s place ms d e next k ready i).is)
        (λ bounds c h.
        first_in g give (Find label) (branches_tree a a.body) otherwise bounds c
        (first_in g give Cons (Node Branch a.binders (guards_tree a a.body)) Empty bounds c
        (second_in g give Branch a.binders (guards_tree a a.body) bounds c (second_in g give Cons a.cells (Node Cons a.condition a.body) bounds c (second_in g give Cons a.condition a.body bounds c h)))))

    plain_cells : (m : Mode) (b : Adversary) → cells g m b plain.tree ≡ cells g m b after
    plain_cells m b =
        cells_same g plain.tree after
        (λ give still.
        replaced_copies g give still a.body new place
        (λ bounds. with_copies g give still cs ms (picks.cells_are s place ms d e next k ready i) (stills (picks.rs s place ms d e next k ready i) (bound_names a.binders) ms phrases) a.body bounds) Process 0 plain.tree after plain.second []) m b

    pub after_keeps : is_phrase Inputs after ≡ true → (x : Experiment) → IsAsked (queries_in s.declarations) x → (b : Adversary) → Same (chance_of g x b game) (chance_of g x b after)
    after_keeps w x asked b =
        chance_with (context_of s.declarations game) s.declarations i x b game plain.tree after (typed_names (context_of s.declarations game) game ready.formed.phrase (typed s.declarations game ready.arguments ready.formed ready.typed ready.names))
        (λ give. replaced_included g give old a.body place (body_included give) Process 0 game plain.tree plain.first) (plain_cells (mode_of x) b) w (alike x b asked)

pub pick_keeps : (s : Scene) (place : ℕ) (ms d e next : Tree) → IsReady s.declarations s.game → DerivationsHold s.declarations → is_phrase Inputs next ≡ true → AllTerms (λ m. is_term_at s place m ≡ true) ms → IsPick s place ms d e next → KeepsChances s.declarations s.game next
pick_keeps s place ms d e next ready sound w terms k i sat x asked b =
    subst (λ t. Same (chance_of (setting_of s.declarations i) x b s.game) (chance_of (setting_of s.declarations i) x b t)) k.leads
    (after_keeps s place ms d e next k ready terms i sat sound (ap (is_phrase Inputs) k.leads ∙ w) x asked b)
