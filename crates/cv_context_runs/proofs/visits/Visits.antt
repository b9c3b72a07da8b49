-- Each visit of a context's run is as is expected.
use Rattle.std.proofs.Common.{◌≡◌, ℕ, Bool, true, false, ◌||◌, ◌==◌, List, [], refl, sym, subst, eq-eqb}
use Rattle.std.proofs.lemmas.Bool.{and_parts, both_ways}
use Rattle.std.specs.List.{AllByRecursion}
use Rattle.cv_syntax_trees.specs.declared.head.Head.TheVariants.{Binder, Branch, Call, Cons, In, Key, Let, New}
use Rattle.cv_syntax_trees.specs.Declarations.{Declaration}
use Rattle.cv_syntax_trees.specs.Tree.{Tree, Empty, Node, binds, second}
use Rattle.cv_meaning.specs.Experiments.{coins_on, visits_of_run}
use Rattle.cv_meaning.specs.Memory.{Local}
use Rattle.cv_meaning.specs.Runs.{Adversary, Mode}
use Rattle.cv_meaning.specs.Serving.{Visit}
use Rattle.cv_scope_rules.specs.Context.{Context}
use Rattle.cv_scope_rules.specs.Made.{AssignsNew, is_bound}
use Rattle.cv_scope_rules.specs.Phrases.{Arm, Binders, Body, HasConstantsOf, Inputs, IsWellFormedContext, Nil, Pattern, Phrase, Terms, is_oracle_phrase}
use Rattle.cv_scope_rules.specs.Scope.{is_variable}
use Rattle.cv_scope_rules.proofs.Apart.{first_replications, second_replications}
use Rattle.cv_scope_runs.specs.Reads.{VisitReadsAssigned}
use Rattle.cv_scope_runs.proofs.ConsultedOnce.{all_assign_new}
use Rattle.cv_scope_runs.proofs.Contexts.{Matches, not_constant}
use Rattle.cv_scope_runs.proofs.FactsRuns.{all_reads_assigned, well_game}
use Rattle.cv_scope_runs.proofs.Games.{Game, stands_phrase, stands_variable}
use Rattle.cv_scope_runs.proofs.Rows.{position_of}
use Rattle.cv_scope_runs.proofs.ServeRuns.{VisitHolds, game_holds}
use Rattle.cv_scope_runs.proofs.Standing.{Stands, in_first, in_second, root}
use Rattle.cv_inline_laws.specs.runs.Contexts.{IsExpected, IsExpectedAt, context_setting}
use Rattle.cv_inline_laws.specs.runs.Texts.{Text}
use Rattle.cv_context_runs.specs.visits.CallTexts.{HasCallTexts}
use Rattle.cv_context_runs.proofs.visits.Calls.{call_expected, g₁}
use Rattle.cv_syntax_trees.proofs.lists.Each.{AllByRecursion_both}

-- lists of binders

nil_binds : (a : Tree) (y : ℕ) → is_oracle_phrase Nil a ≡ true → binds a y ≡ false
unfolding is_oracle_phrase binds
nil_binds Empty y f = refl
nil_binds (Node h a b) y f = absurd (both_ways _ refl f)

bound_too : (bs : Tree) (y : ℕ) → is_oracle_phrase Binders bs ≡ true → binds bs y ≡ true → is_bound bs y ≡ true
unfolding is_oracle_phrase binds is_bound
bound_too Empty y f e = absurd (both_ways _ refl e)
bound_too (Node (Binder x T) a b) y f e =
    let p = and_parts (is_oracle_phrase Nil a) (is_oracle_phrase Binders b) f in
    go (y == x) (subst (λ c. ((y == x) || (c || binds b y)) ≡ true) (nil_binds a y p.0) e) (bound_too b y p.1)
  where
    go : (c : Bool) → (c || (false || binds b y)) ≡ true → (binds b y ≡ true → is_bound b y ≡ true) → (c || is_bound b y) ≡ true
    go true e h = refl
    go false e h = h e
bound_too (Node h a b) y f e = absurd (both_ways _ refl f)

pattern_binders : (a : Tree) → is_oracle_phrase Pattern a ≡ true → is_oracle_phrase Binders (second a) ≡ true
unfolding is_oracle_phrase
pattern_binders Empty f = absurd (both_ways _ refl f)
pattern_binders (Node Cons a b) f = (and_parts _ (is_oracle_phrase Binders b) f).1
pattern_binders (Node h a b) f = absurd (both_ways _ refl f)

-- phrases of nodes

input_pattern : (σ : Phrase) (c : ℕ) (a b : Tree) → is_oracle_phrase σ (Node (In c) a b) ≡ true → is_oracle_phrase Pattern a ≡ true
unfolding is_oracle_phrase
input_pattern Inputs c a b f = (and_parts (is_oracle_phrase Pattern a) _ f).0
input_pattern σ c a b f = absurd (both_ways _ refl f)

branch_binders : (σ : Phrase) (a b : Tree) → is_oracle_phrase σ (Node Branch a b) ≡ true → is_oracle_phrase Binders a ≡ true
unfolding is_oracle_phrase
branch_binders Arm a b f = (and_parts (is_oracle_phrase Binders a) _ f).0
branch_binders σ a b f = absurd (both_ways _ refl f)

call_terms : (σ : Phrase) (x l : ℕ) (a b : Tree) → is_oracle_phrase σ (Node (Call x l) a b) ≡ true → is_oracle_phrase Terms a ≡ true
unfolding is_oracle_phrase
call_terms Body x l a b f = (and_parts (is_oracle_phrase Terms a) _ f).0
call_terms σ x l a b f = absurd (both_ways _ refl f)

module _ (T : Text) (context : Tree) (texts : HasCallTexts T [] context) where
  -- texts of calls where a subtree stands
  stands_texts : {p : ℕ} {σ : Phrase} {Γ : Context} {b : Tree} → Stands context p σ Γ b → HasCallTexts T Γ.replications b
  unfolding HasCallTexts
  stands_texts root = texts
  stands_texts (in_first {σ = σ} {Γ = Γ} {h = h} {a = a} e st) = subst (λ rs. HasCallTexts T rs a) (sym (first_replications (position_of σ) h Γ)) (stands_texts st).1
  stands_texts (in_second {σ = σ} {Γ = Γ} {h = h} {a = a} {b = b} e st) = subst (λ rs. HasCallTexts T rs b) (sym (second_replications (position_of σ) h a Γ)) (stands_texts st).2

  module _ (fine : Game (g₁ T) (is_variable context) context) where
    expected_at : {p : ℕ} {σ : Phrase} (Γ : Context) (t : Tree) (s : Local) → Stands context p σ Γ t → Matches (g₁ T) (is_variable context) Γ.replications s.indices
        → VisitReadsAssigned (g₁ T) (record { place = p; tree = t; before = s }) → AssignsNew (record { place = p; tree = t; before = s }) → IsExpectedAt T t s
    unfolding HasCallTexts
    expected_at {σ = σ} Γ (Node (In c) a b) s st mt r new = λ y e. new y (bound_too (second a) y (pattern_binders a (input_pattern σ c a b (stands_phrase (g₁ T) (is_variable context) context fine st))) e)
    expected_at {σ = σ} Γ (Node Branch a b) s st mt r new = λ y e. new y (bound_too a y (branch_binders σ a b (stands_phrase (g₁ T) (is_variable context) context fine st)) e)
    expected_at Γ (Node (New x S) a b) s st mt r new = new x (eq-eqb x x refl)
    expected_at Γ (Node (Let x S) a b) s st mt r new = new x (eq-eqb x x refl)
    expected_at Γ (Node (Key x) a b) s st mt r new = new x (eq-eqb x x refl)
    expected_at {σ = σ} Γ (Node (Call x l) a b) s st mt r new =
        call_expected T (is_variable context) Γ.replications x l a s (stands_texts st).0 mt
        (not_constant (g₁ T) (is_variable context) fine.apart x (stands_variable (g₁ T) (is_variable context) context fine st x (eq-eqb x x refl)))
        (call_terms σ x l a b (stands_phrase (g₁ T) (is_variable context) context fine st)) r (new x (eq-eqb x x refl))
    expected_at Γ t s st mt r new = tt

pub visits_expected : (ds : List Declaration) (T : Text) (m : Mode) (a : Adversary) (context : Tree) → HasConstantsOf ds (context_setting T) → IsWellFormedContext ds context → HasCallTexts T [] context
    → AllByRecursion (IsExpected T) (visits_of_run (context_setting T) m a context T.side_tape)
unfolding visits_of_run
visits_expected ds T m a context same well texts =
    let g = context_setting T in
    let fine : Game g (is_variable context) context = well_game ds g context same well in
    let next = a.next (coins_on T.side_tape 0 a.coins) in
    AllByRecursion_both (VisitHolds g (is_variable context) context fine) (λ (v : Visit). VisitReadsAssigned g v × AssignsNew v) (IsExpected T)
    (λ v h r. expected_at T context texts fine h.above v.tree v.before h.stands h.matches r.0 r.1) _
    (game_holds g (is_variable context) context fine m next T.side_tape a.moves).passes.visits
    (AllByRecursion_both (VisitReadsAssigned g) AssignsNew (λ (v : Visit). VisitReadsAssigned g v × AssignsNew v) (λ v r n. (r, n)) _
    (all_reads_assigned ds g m next T.side_tape a.moves context same well) (all_assign_new ds g m next T.side_tape a.moves context well))
