-- The game with `false` for such an equality is the game in other words.
use Rattle.std.proofs.Common.{◌≡◌, ℕ, ◌+◌, ◌-◌, ◌&&◌, Bool, true, false, cond, Some, refl, sym, ap, ap₂, subst, ◌∙◌, arith, nat_lt}
use Rattle.std.proofs.lemmas.Bool.{both_ways, and_parts}
use Rattle.cv_syntax_trees.specs.declared.head.Head.{Head}
use Rattle.cv_syntax_trees.specs.declared.head.Head.TheVariants.{Stop, Yield, Par, Repl, In, Out, Event, New, Let, If, Find, Branch, Cons}
use Rattle.cv_syntax_trees.specs.Head.{weight}
use Rattle.cv_syntax.specs.Layouts.{IsSyntax}
use Rattle.cv_syntax_trees.specs.Tree.{Tree, Empty, Node, first_place, second_place, size}
use Rattle.cv_meaning.specs.Interpretation.{Setting}
use Rattle.cv_meaning.specs.Memory.{Local}
use Rattle.cv_meaning.specs.Serving.{Visit}
use Rattle.cv_meaning.specs.Still.{head_is_still, is_still}
use Rattle.cv_meaning.specs.Terms.{is_one}
use Rattle.cv_meaning.specs.Replaced.{replaced}
use Rattle.cv_meaning_runs.specs.Replacement as runs
use Rattle.cv_meaning_runs.specs.Replacement.{Process, before_body}
use Rattle.cv_meaning_chances.specs.rewording.Rewording.{IsReworded, same, kept, reworded, in_parallel, in_list, in_find, in_branch, has_terms, SaysTheSame}
use Rattle.cv_scene.specs.lines.Truths.{no}
use Rattle.cv_scope_rules.specs.Context.{Context}
use Rattle.cv_scope_rules.specs.Made.{OwnUnassigned}
use Rattle.cv_scope_rules.specs.Phrases.{Phrase, Nil, Inputs, Body, Then, Else, Branches, Arm, Pattern, Message, Cells, Terms, Term, is_phrase}
use Rattle.cv_scope_rules.specs.Scope.{is_variable}
use Rattle.cv_scope_runs.proofs.Contexts.{Matches}
use Rattle.cv_scope_runs.proofs.ServeRuns.{VisitHolds}
use Rattle.cv_scope_runs.proofs.Standing.{Stands, root, in_first, in_second, stands_known}
use Rattle.cv_scene.specs.Scenes.{part_at}
use Rattle.cv_steps.specs.Rewriting.{has_term_at}
use Rattle.cv_steps.proofs.Flat.{guarded_of, guards_of, is_of_terms, terms_still}
use Rattle.cv_steps.proofs.Places.{IsInFirst, IsInSecond, InBranches, in_condition, in_body, later, bare, branches, by_child, in_branches, nothing_there}
use Rattle.cv_rule_fresh.specs.collisions.Choices.{Choice}
use Rattle.cv_rule_fresh.proofs.Branches.{Guess, candidates_kept, false_in}
use Rattle.cv_rule_fresh.proofs.Missed.{Misses, MissesThere, is_inner}
use Rattle.cv_rule_fresh.proofs.Standing.{last_of, stands_choice}
use Rattle.cv_rule_fresh.proofs.Values.{SameValues, values_kept}

still_with : (m : Tree) → is_still m ≡ true → (t : Tree) (q : ℕ) → is_still t ≡ true → is_still (replaced t q m) ≡ true
unfolding replaced
still_with m k Empty q e = e
still_with m k (Node h a b) q e =
    let r = and_parts (head_is_still h) _ e in
    let z = and_parts (is_still a) _ r.1 in
    go (nat_lt q (weight h)) (nat_lt q (weight h + size a)) r.0 z.0 z.1 (still_with m k a (q - weight h) z.0) (still_with m k b (q - (weight h + size a)) z.1)
  where
    go : (v w : Bool) → head_is_still h ≡ true → is_still a ≡ true → is_still b ≡ true → is_still (replaced a (q - weight h) m) ≡ true → is_still (replaced b (q - (weight h + size a)) m) ≡ true
        → is_still (cond v m (cond w (Node h (replaced a (q - weight h) m) b) (Node h a (replaced b (q - (weight h + size a)) m)))) ≡ true
    go true w h a b x y = k
    go false true h a b x y = ap₂ ◌&&◌ h (ap₂ ◌&&◌ x b)
    go false false h a b x y = ap₂ ◌&&◌ h (ap₂ ◌&&◌ a y)

module _ (g : Setting) (game : Tree) (place : ℕ) (old : Tree) (x : ℕ) (c : Choice) (other : Tree) (E : Guess g game place old x c other) where
  -- the variable misses the term behind its choice, no index variable of a `find` is assigned, and what is known holds
  abbrev pub Holds : Visit → Type 0
  Holds v = MissesThere g (is_variable game) game x c other v × OwnUnassigned v × VisitHolds g (is_variable game) game E.fine v

  abbrev As : Phrase → ℕ → Tree → Tree → Type 0
  As Inputs p t u = IsReworded g Holds Process p t u
  As Body p t u = IsReworded g Holds Process p t u
  As Then p t u = IsReworded g Holds Process p t u
  As Else p t u = IsReworded g Holds Process p t u
  As Branches p t u = IsReworded g Holds runs.Branches p t u
  As σ p t u = Unit {0}

  -- places of the two children
  at_first : (σ : Phrase) (h : Head) (a b : Tree) (p q : ℕ) → p + q ≡ place → IsInFirst no σ h a b q → first_place p h + (q - weight h) ≡ place
  at_first σ h a b p q e f = let l = f.least in omega arith

  at_second : (σ : Phrase) (h : Head) (a b : Tree) (p q : ℕ) → p + q ≡ place → IsInSecond no σ h a b q → second_place p h a + (q - (weight h + size a)) ≡ place
  at_second σ h a b p q e f = let l = f.least in omega arith

  -- at a visit the indices are those of the place
  matches_here : {p : ℕ} {σ : Phrase} {Γ : Context} (t : Tree) (st : Stands game p σ Γ t) → IsSyntax t → (l : Local) → VisitHolds g (is_variable game) game E.fine (record { place = p; tree = t; before = l }) → Matches g (is_variable game) Γ.replications l.indices
  matches_here {p = p} {σ = σ} {Γ = Γ} t st i l v =
      let e : Some Γ ≡ Some v.above = sym (stands_known game p σ Γ t i st) ∙ stands_known game p v.phrase v.above t i v.stands in
      let same : Γ ≡ v.above = cc in
      subst (λ (Δ : Context). Matches g (is_variable game) Δ.replications l.indices) (sym same) v.matches

  misses_here : {p : ℕ} {σ : Phrase} {Γ : Context} (t : Tree) (st : Stands game p σ Γ t) → IsSyntax t → is_inner t ≡ true → (l : Local) → Holds (record { place = p; tree = t; before = l }) → last_of game x st ≡ Some c → Misses g (is_variable game) x other l.indices l.memory.store
  misses_here t st i n l v e = v.0 n i (stands_choice game x t st i ∙ e)

  -- a construct with such a term: a `let`, an event, an `if`, an output
  reworded_here : (h : Head) (a b : Tree) (q : ℕ) {p : ℕ} {Γ : Context} (st : Stands game p Body Γ (Node h a b)) → p + q ≡ place → part_at (Node h a b) q ≡ old → has_terms h ≡ true → IsSyntax (Node h a b) → is_inner (Node h a b) ≡ true
      → (σ : Phrase) → is_of_terms σ ≡ true → is_phrase σ a ≡ true → has_term_at σ a (q - weight h) ≡ true → (first : Stands game (first_place p h) σ Γ a) → last_of game x first ≡ last_of game x st → IsInFirst no Body h a b q
      → ((l : Local) → SameValues g l.indices l.memory.store no σ a (replaced a (q - weight h) no) → SaysTheSame g h a (replaced a (q - weight h) no) l) → IsReworded g Holds Process p (Node h a b) (Node h (replaced a (q - weight h) no) b)
  reworded_here h a b q {p = p} {Γ = Γ} st e o t is n σ s w k first last f says =
      let still : is_still a ≡ true = terms_still σ a s w in
      reworded t still (still_with no refl a (q - weight h) still)
      (λ l v.
      says l (values_kept g l.indices l.memory.store no σ a w (q - weight h) k
      (false_in g game place old x c other E σ s a (q - weight h) first w k (let m = f.least in let r = f.below in omega arith) (at_first Body h a b p q e f) (sym f.part ∙ o) l.indices l.memory.store
      (matches_here (Node h a b) st is l v.2) (λ i. misses_here (Node h a b) st is n l v (sym last ∙ i)))))
      same

  reworded_as : (σ : Phrase) (t : Tree) (q : ℕ) {p : ℕ} {Γ : Context} (st : Stands game p σ Γ t) → p + q ≡ place → part_at t q ≡ old → is_phrase σ t ≡ true → has_term_at σ t q ≡ true → As σ p t (replaced t q no)
  unfolding is_phrase size
  reworded_as Inputs (Node Stop a b) q {p = p} st e o w h =
      by_child no Inputs Stop a b q (As Inputs p (Node Stop a b)) refl (λ f. absurd (bare Nil a _ refl f.term)) (λ f. absurd (bare Nil b _ refl f.term)) h
  reworded_as Inputs (Node Par a b) q {p = p} st e o w h =
      let r = and_parts (is_phrase Inputs a) _ w in
      by_child no Inputs Par a b q (As Inputs p (Node Par a b)) refl
      (λ f. in_parallel (reworded_as Inputs a (q - 1) (in_first refl st) (at_first Inputs Par a b p q e f) (sym f.part ∙ o) r.0 f.term) same)
      (λ f. in_parallel same (reworded_as Inputs b (q - (1 + size a)) (in_second refl st) (at_second Inputs Par a b p q e f) (sym f.part ∙ o) r.1 f.term)) h
  reworded_as Inputs (Node (Repl j n) a b) q {p = p} st e o w h =
      let r = and_parts (is_phrase Nil a) _ w in
      by_child no Inputs (Repl j n) a b q (As Inputs p (Node (Repl j n) a b)) refl (λ f. absurd (bare Nil a _ refl f.term))
      (λ f. kept (reworded_as Inputs b (q - (1 + size a)) (in_second refl st) (at_second Inputs (Repl j n) a b p q e f) (sym f.part ∙ o) r.1 f.term)) h
  reworded_as Inputs (Node (In d) a b) q {p = p} st e o w h =
      let r = and_parts (is_phrase Pattern a) _ w in
      by_child no Inputs (In d) a b q (As Inputs p (Node (In d) a b)) refl (λ f. absurd (bare Pattern a _ refl f.term))
      (λ f. kept (reworded_as Body b (q - (1 + size a)) (in_second refl st) (at_second Inputs (In d) a b p q e f) (sym f.part ∙ o) r.1 f.term)) h
  reworded_as Inputs t q st e o w h = absurd (both_ways false refl w)
  reworded_as Body (Node Yield a b) q {p = p} st e o w h =
      by_child no Body Yield a b q (As Body p (Node Yield a b)) refl (λ f. absurd (bare Nil a _ refl f.term)) (λ f. absurd (bare Nil b _ refl f.term)) h
  reworded_as Body (Node (New y T) a b) q {p = p} st e o w h =
      let r = and_parts (is_phrase Nil a) _ w in
      by_child no Body (New y T) a b q (As Body p (Node (New y T) a b)) refl (λ f. absurd (bare Nil a _ refl f.term))
      (λ f. kept (reworded_as Body b (q - (1 + size a)) (in_second refl st) (at_second Body (New y T) a b p q e f) (sym f.part ∙ o) r.1 f.term)) h
  reworded_as Body (Node (Out d) a b) q {p = p} st e o w h =
      let r = and_parts (is_phrase Message a) _ w in
      by_child no Body (Out d) a b q (As Body p (Node (Out d) a b)) refl
      (λ f. reworded_here (Out d) a b q st e o refl refl refl Message refl r.0 f.term (in_first refl st) refl f (λ l z. z))
      (λ f. kept (reworded_as Inputs b (q - (1 + size a)) (in_second refl st) (at_second Body (Out d) a b p q e f) (sym f.part ∙ o) r.1 f.term)) h
  reworded_as Body (Node (Let y T) a b) q {p = p} st e o w h =
      let r = and_parts (is_phrase Term a) _ w in
      by_child no Body (Let y T) a b q (As Body p (Node (Let y T) a b)) refl
      (λ f. reworded_here (Let y T) a b q st e o refl refl refl Term refl r.0 f.term (in_first refl st) refl f (λ l z. z))
      (λ f. kept (reworded_as Body b (q - (1 + size a)) (in_second refl st) (at_second Body (Let y T) a b p q e f) (sym f.part ∙ o) r.1 f.term)) h
  reworded_as Body (Node (Event y) a b) q {p = p} st e o w h =
      let r = and_parts (is_phrase Terms a) _ w in
      by_child no Body (Event y) a b q (As Body p (Node (Event y) a b)) refl
      (λ f. reworded_here (Event y) a b q st e o refl refl refl Terms refl r.0 f.term (in_first refl st) refl f (λ l z. z))
      (λ f. kept (reworded_as Body b (q - (1 + size a)) (in_second refl st) (at_second Body (Event y) a b p q e f) (sym f.part ∙ o) r.1 f.term)) h
  reworded_as Body (Node If a b) q {p = p} st e o w h =
      let r = and_parts (is_phrase Term a) _ w in
      by_child no Body If a b q (As Body p (Node If a b)) refl
      (λ f. reworded_here If a b q st e o refl refl refl Term refl r.0 f.term (in_first refl st) refl f (λ l z. ap is_one z))
      (λ f. kept (reworded_as Then b (q - (1 + size a)) (in_second refl st) (at_second Body If a b p q e f) (sym f.part ∙ o) r.1 f.term)) h
  reworded_as Body (Node (Find n) a b) q {p = p} st e o w h =
      let r = and_parts (is_phrase Branches a) _ w in
      by_child no Body (Find n) a b q (As Body p (Node (Find n) a b)) refl
      (λ f.
      let place_there = at_first Body (Find n) a b p q e f in
      in_find (λ l v. candidates_kept g game place old x c other E a (q - 1) (in_first refl st) place_there (sym f.part ∙ o) r.0 f.term l.indices l.memory.store
      (matches_here (Node (Find n) a b) st refl l v.2) v.1 (λ i. misses_here (Node (Find n) a b) st refl refl l v i))
      (reworded_as Branches a (q - 1) (in_first refl st) place_there (sym f.part ∙ o) r.0 f.term) same)
      (λ f. kept (reworded_as Body b (q - (1 + size a)) (in_second refl st) (at_second Body (Find n) a b p q e f) (sym f.part ∙ o) r.1 f.term)) h
  reworded_as Body t q st e o w h = absurd (both_ways false refl w)
  reworded_as Then (Node Cons a b) q {p = p} st e o w h =
      let r = and_parts (is_phrase Body a) _ w in
      by_child no Then Cons a b q (As Then p (Node Cons a b)) refl
      (λ f. in_list (reworded_as Body a (q - 0) (in_first refl st) (at_first Then Cons a b p q e f) (sym f.part ∙ o) r.0 f.term) same)
      (λ f. in_list same (reworded_as Else b (q - (0 + size a)) (in_second refl st) (at_second Then Cons a b p q e f) (sym f.part ∙ o) r.1 f.term)) h
  reworded_as Then t q st e o w h = absurd (both_ways false refl w)
  reworded_as Else (Node Cons a b) q {p = p} st e o w h =
      let r = and_parts (is_phrase Body a) _ w in
      by_child no Else Cons a b q (As Else p (Node Cons a b)) refl
      (λ f. in_list (reworded_as Body a (q - 0) (in_first refl st) (at_first Else Cons a b p q e f) (sym f.part ∙ o) r.0 f.term) same)
      (λ f. absurd (bare Nil b _ refl f.term)) h
  reworded_as Else t q st e o w h = absurd (both_ways false refl w)
  reworded_as Branches Empty q st e o w h = absurd (nothing_there Branches q h)
  reworded_as Branches (Node Cons (Node Branch us (Node Cons cells (Node Cons d b))) more) q {p = p} {Γ = Γ} st e o w h =
      go (in_branches no us cells d b more q h) (λ r k. reworded_as Body b r (in_second refl (in_second refl (in_second refl (in_first refl st)))) k) (λ r k. reworded_as Branches more r (in_second refl st) k)
    where
      arm : Tree
      arm = Node Branch us (Node Cons cells (Node Cons d b))

      guarded : (is_phrase Term d ≡ true) × (is_phrase Body b ≡ true)
      guarded = and_parts (is_phrase Term d) _ (guarded_of us cells (Node Cons d b) more w)

      cells_still : is_still cells ≡ true
      cells_still = terms_still Cells cells refl (and_parts (is_phrase Cells cells) _ (guards_of us (Node Cons cells (Node Cons d b)) more w)).0

      condition_still : is_still d ≡ true
      condition_still = terms_still Term d refl guarded.0

      more_phrase : is_phrase Branches more ≡ true
      more_phrase = (and_parts (is_phrase Arm arm) _ w).1

      body_place : ℕ
      body_place = second_place (second_place (second_place (first_place p Cons) Branch us) Cons cells) Cons d

      there : body_place ≡ p + before_body us cells d
      there = omega arith

      go : InBranches no us cells d b more q
          → ((r : ℕ) → body_place + r ≡ place → part_at b r ≡ old → is_phrase Body b ≡ true → has_term_at Body b r ≡ true → IsReworded g Holds Process body_place b (replaced b r no))
          → ((r : ℕ) → second_place p Cons arm + r ≡ place → part_at more r ≡ old → is_phrase Branches more ≡ true → has_term_at Branches more r ≡ true → IsReworded g Holds runs.Branches (second_place p Cons arm) more (replaced more r no))
          → IsReworded g Holds runs.Branches p (branches us cells d b more) (replaced (branches us cells d b more) q no)
      go (in_condition k f) y z =
          subst (IsReworded g Holds runs.Branches p (branches us cells d b more)) (sym f.next)
          (in_branch cells_still condition_still cells_still (still_with no refl d k condition_still) same same)
      go (in_body k f) y z =
          subst (IsReworded g Holds runs.Branches p (branches us cells d b more)) (sym f.next)
          (in_branch cells_still condition_still cells_still condition_still
          (subst (λ r. IsReworded g Holds Process r b (replaced b k no)) there (y k (let j = f.place in omega arith) (sym f.part ∙ o) guarded.1 f.term)) same)
      go (later k f) y z =
          subst (IsReworded g Holds runs.Branches p (branches us cells d b more)) (sym f.next)
          (in_branch cells_still condition_still cells_still condition_still same (z k (let j = f.place in omega arith) (sym f.part ∙ o) more_phrase f.term))
  reworded_as Branches (Node Cons (Node Branch us (Node Cons cells rest)) more) q st e o w h = absurd (both_ways false refl (guarded_of us cells rest more w))
  reworded_as Branches (Node Cons (Node Branch us rest) more) q st e o w h = absurd (both_ways false refl (guards_of us rest more w))
  reworded_as Branches t q st e o w h = absurd (both_ways false refl w)
  reworded_as σ t q st e o w h = tt

  pub game_reworded : part_at game place ≡ old → has_term_at Inputs game place ≡ true → IsReworded g Holds Process 0 game (replaced game place no)
  game_reworded o h = reworded_as Inputs game place root (omega arith) o E.whole h
