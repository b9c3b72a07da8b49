-- A game with a term rewritten is the game in other words.
use Rattle.std.proofs.Common.{◌≡◌, ℕ, ◌+◌, ◌-◌, ◌<◌, ◌≤◌, ◌&&◌, Bool, true, false, cond, refl, sym, ap, ap₂, subst, ◌∙◌, arith, nat_lt}
use Rattle.std.proofs.lemmas.Bool.{both_ways, and_parts}
use Rattle.cv_syntax_trees.specs.declared.head.Head.{Head}
use Rattle.cv_syntax_trees.specs.declared.head.Head.TheVariants.{Stop, Yield, Par, Repl, In, Out, Event, New, Let, If, Find, Branch, Cons}
use Rattle.cv_syntax_trees.specs.Head.{weight}
use Rattle.cv_syntax.specs.Layouts.{IsSyntax}
use Rattle.cv_syntax_trees.specs.Tree.{Tree, Empty, Node, first_place, second_place, size}
use Rattle.cv_meaning.specs.Interpretation.{Interpretation, Setting, setting_of}
use Rattle.cv_meaning.specs.Memory.{Indices, Local, Store}
use Rattle.cv_meaning.specs.Serving.{Visit}
use Rattle.cv_meaning.specs.Terms.{is_one, value, value_here}
use Rattle.cv_meaning_runs.specs.Replacement as runs
use Rattle.cv_meaning_runs.specs.Replacement.{Process, before_body}
use Rattle.cv_meaning.specs.Replaced.{replaced}
use Rattle.cv_meaning.specs.Still.{head_is_still, is_still}
use Rattle.cv_meaning_chances.specs.rewording.Rewording.{IsReworded, same, kept, reworded, in_parallel, in_list, in_find, in_branch, has_terms, SaysTheSame}
use Rattle.cv_derive_facts.specs.Promises.{IsOwnTerm}
use Rattle.cv_scope_rules.specs.Phrases.{Phrase, Nil, Inputs, Body, Then, Else, Branches, Arm, Pattern, Message, Cells, Terms, Term, is_phrase}
use Rattle.cv_scene.specs.Scenes.{Scene, part_at}
use Rattle.cv_steps.specs.Rewriting.{has_term_at}
use Rattle.cv_steps.proofs.Flat.{guarded_of, guards_of, is_of_terms, terms_still}
use Rattle.cv_derive_laws.specs.stores.Holding.{HoldAt, HoldAtConditions, HoldAtVisit}
use Rattle.cv_steps.proofs.Places.{IsInFirst, IsInSecond, InBranches, in_condition, in_body, later, bare, branches, by_child, in_branches, nothing_there}
use Rattle.cv_steps_derivations.proofs.rewriting.Values.{SameValues, values_kept}
use Rattle.cv_steps_derivations.proofs.rewriting.Branches.{candidates_kept}

still_with : (m : Tree) → is_still m ≡ true → (t : Tree) (q : ℕ) → is_still t ≡ true → is_still (replaced t q m) ≡ true
unfolding replaced
still_with m k Empty q e = e
still_with m k (Node h a b) q e =
    let r = and_parts (head_is_still h) _ e in
    let z = and_parts (is_still a) _ r.1 in
    go (nat_lt q (weight h)) (nat_lt q (weight h + size a)) r.0 z.0 z.1 (still_with m k a (q - weight h) z.0) (still_with m k b (q - (weight h + size a)) z.1)
  where
    go : (v w : Bool) → head_is_still h ≡ true → is_still a ≡ true → is_still b ≡ true → is_still (replaced a (q - weight h) m) ≡ true → is_still (replaced b (q - (weight h + size a)) m) ≡ true
        → is_still (cond v m (cond w (Node h (replaced a (q - weight h) m) b) (Node h a (replaced b (q - (weight h + size a)) m)))) ≡ true
    go true w h a b x y = k
    go false true h a b x y = ap₂ ◌&&◌ h (ap₂ ◌&&◌ x b)
    go false false h a b x y = ap₂ ◌&&◌ h (ap₂ ◌&&◌ a y)

module _ (s : Scene) (i : Interpretation) (m old : Tree) (still : is_still m ≡ true) (place : ℕ) (equal : (at : Indices) (x n : Store) → HoldAt s i place at x n → value (setting_of s.declarations i) at n old ≡ value (setting_of s.declarations i) at n m) where
  abbrev g : Setting
  g = setting_of s.declarations i

  -- what derivations show at a visit
  abbrev pub Holds : Visit → Type 0
  Holds v = HoldAtVisit s i v × HoldAtConditions s i v

  abbrev As : Phrase → ℕ → Tree → Tree → Type 0
  As Inputs p t u = IsReworded g Holds Process p t u
  As Body p t u = IsReworded g Holds Process p t u
  As Then p t u = IsReworded g Holds Process p t u
  As Else p t u = IsReworded g Holds Process p t u
  As Branches p t u = IsReworded g Holds runs.Branches p t u
  As σ p t u = Unit {0}

  -- places of the two children
  at_first : (σ : Phrase) (h : Head) (a b : Tree) (p q : ℕ) → p + q ≡ place → IsInFirst m σ h a b q → first_place p h + (q - weight h) ≡ place
  at_first σ h a b p q e f = let l = f.least in omega arith

  at_second : (σ : Phrase) (h : Head) (a b : Tree) (p q : ℕ) → p + q ≡ place → IsInSecond m σ h a b q → second_place p h a + (q - (weight h + size a)) ≡ place
  at_second σ h a b p q e f = let l = f.least in omega arith

  own_place : (σ : Phrase) (h : Head) (a b : Tree) (p q : ℕ) → p + q ≡ place → IsInFirst m σ h a b q → (first_place p h ≤ place) × (place < second_place p h a)
  own_place σ h a b p q e f = let l = f.least in let n = f.below in (omega arith, omega arith)

  -- a construct with a term rewritten says the same: a `let`, an event, an `if`, an output
  module _ (h : Head) (a b : Tree) (p q : ℕ) (e : p + q ≡ place) (o : part_at (Node h a b) q ≡ old) (f : IsInFirst m Body h a b q) where
    equal_here : (l : Local) → IsSyntax (Node h a b) → IsOwnTerm p (Node h a b) place → Holds (record { place = p; tree = Node h a b; before = l }) → value_here g l (part_at a (q - weight h)) ≡ value_here g l m
    equal_here l is own v =
        subst (λ t. value_here g l t ≡ value_here g l m) (sym o ∙ f.part)
        (equal l.indices l.memory.store l.memory.store ((v.0 is).1 place own))

    kept_here : (σ : Phrase) → is_phrase σ a ≡ true → has_term_at σ a (q - weight h) ≡ true → (l : Local) → IsSyntax (Node h a b) → IsOwnTerm p (Node h a b) place → Holds (record { place = p; tree = Node h a b; before = l })
        → SameValues g l.indices l.memory.store m σ a (replaced a (q - weight h) m)
    kept_here σ w t l is own v = values_kept g l.indices l.memory.store m σ a w (q - weight h) t (equal_here l is own v)

    reworded_here : has_terms h ≡ true → (σ : Phrase) → is_of_terms σ ≡ true → is_phrase σ a ≡ true
        → ((l : Local) → Holds (record { place = p; tree = Node h a b; before = l }) → SaysTheSame g h a (replaced a (q - weight h) m) l) → IsReworded g Holds Process p (Node h a b) (Node h (replaced a (q - weight h) m) b)
    reworded_here t σ n w k = let r : is_still a ≡ true = terms_still σ a n w in reworded t r (still_with m still a (q - weight h) r) k same

  reworded_as : (σ : Phrase) (t : Tree) (p q : ℕ) → p + q ≡ place → part_at t q ≡ old → is_phrase σ t ≡ true → has_term_at σ t q ≡ true → As σ p t (replaced t q m)
  unfolding is_phrase size
  reworded_as Inputs (Node Stop a b) p q e o w h =
      by_child m Inputs Stop a b q (As Inputs p (Node Stop a b)) refl (λ f. absurd (bare Nil a _ refl f.term)) (λ f. absurd (bare Nil b _ refl f.term)) h
  reworded_as Inputs (Node Par a b) p q e o w h =
      let r = and_parts (is_phrase Inputs a) _ w in
      by_child m Inputs Par a b q (As Inputs p (Node Par a b)) refl
      (λ f. in_parallel (reworded_as Inputs a (first_place p Par) (q - 1) (at_first Inputs Par a b p q e f) (sym f.part ∙ o) r.0 f.term) same)
      (λ f. in_parallel same (reworded_as Inputs b (second_place p Par a) (q - (1 + size a)) (at_second Inputs Par a b p q e f) (sym f.part ∙ o) r.1 f.term)) h
  reworded_as Inputs (Node (Repl j n) a b) p q e o w h =
      let r = and_parts (is_phrase Nil a) _ w in
      by_child m Inputs (Repl j n) a b q (As Inputs p (Node (Repl j n) a b)) refl (λ f. absurd (bare Nil a _ refl f.term))
      (λ f. kept (reworded_as Inputs b (second_place p (Repl j n) a) (q - (1 + size a)) (at_second Inputs (Repl j n) a b p q e f) (sym f.part ∙ o) r.1 f.term)) h
  reworded_as Inputs (Node (In c) a b) p q e o w h =
      let r = and_parts (is_phrase Pattern a) _ w in
      by_child m Inputs (In c) a b q (As Inputs p (Node (In c) a b)) refl (λ f. absurd (bare Pattern a _ refl f.term))
      (λ f. kept (reworded_as Body b (second_place p (In c) a) (q - (1 + size a)) (at_second Inputs (In c) a b p q e f) (sym f.part ∙ o) r.1 f.term)) h
  reworded_as Inputs t p q e o w h = absurd (both_ways false refl w)
  reworded_as Body (Node Yield a b) p q e o w h =
      by_child m Body Yield a b q (As Body p (Node Yield a b)) refl (λ f. absurd (bare Nil a _ refl f.term)) (λ f. absurd (bare Nil b _ refl f.term)) h
  reworded_as Body (Node (New x T) a b) p q e o w h =
      let r = and_parts (is_phrase Nil a) _ w in
      by_child m Body (New x T) a b q (As Body p (Node (New x T) a b)) refl (λ f. absurd (bare Nil a _ refl f.term))
      (λ f. kept (reworded_as Body b (second_place p (New x T) a) (q - (1 + size a)) (at_second Body (New x T) a b p q e f) (sym f.part ∙ o) r.1 f.term)) h
  reworded_as Body (Node (Out c) a b) p q e o w h =
      let r = and_parts (is_phrase Message a) _ w in
      by_child m Body (Out c) a b q (As Body p (Node (Out c) a b)) refl
      (λ f. reworded_here (Out c) a b p q e o f refl Message refl r.0 (λ l v. kept_here (Out c) a b p q e o f Message r.0 f.term l refl (own_place Body (Out c) a b p q e f) v))
      (λ f. kept (reworded_as Inputs b (second_place p (Out c) a) (q - (1 + size a)) (at_second Body (Out c) a b p q e f) (sym f.part ∙ o) r.1 f.term)) h
  reworded_as Body (Node (Let x T) a b) p q e o w h =
      let r = and_parts (is_phrase Term a) _ w in
      by_child m Body (Let x T) a b q (As Body p (Node (Let x T) a b)) refl
      (λ f. reworded_here (Let x T) a b p q e o f refl Term refl r.0 (λ l v. kept_here (Let x T) a b p q e o f Term r.0 f.term l refl (own_place Body (Let x T) a b p q e f) v))
      (λ f. kept (reworded_as Body b (second_place p (Let x T) a) (q - (1 + size a)) (at_second Body (Let x T) a b p q e f) (sym f.part ∙ o) r.1 f.term)) h
  reworded_as Body (Node (Event x) a b) p q e o w h =
      let r = and_parts (is_phrase Terms a) _ w in
      by_child m Body (Event x) a b q (As Body p (Node (Event x) a b)) refl
      (λ f. reworded_here (Event x) a b p q e o f refl Terms refl r.0 (λ l v. kept_here (Event x) a b p q e o f Terms r.0 f.term l refl (own_place Body (Event x) a b p q e f) v))
      (λ f. kept (reworded_as Body b (second_place p (Event x) a) (q - (1 + size a)) (at_second Body (Event x) a b p q e f) (sym f.part ∙ o) r.1 f.term)) h
  reworded_as Body (Node If a b) p q e o w h =
      let r = and_parts (is_phrase Term a) _ w in
      by_child m Body If a b q (As Body p (Node If a b)) refl
      (λ f. reworded_here If a b p q e o f refl Term refl r.0 (λ l v. ap is_one (kept_here If a b p q e o f Term r.0 f.term l refl (own_place Body If a b p q e f) v)))
      (λ f. kept (reworded_as Then b (second_place p If a) (q - (1 + size a)) (at_second Body If a b p q e f) (sym f.part ∙ o) r.1 f.term)) h
  reworded_as Body (Node (Find n) a b) p q e o w h =
      let r = and_parts (is_phrase Branches a) _ w in
      by_child m Body (Find n) a b q (As Body p (Node (Find n) a b)) refl
      (λ f.
      let there = at_first Body (Find n) a b p q e f in
      in_find (λ l v. candidates_kept s i m old place equal a (first_place p (Find n)) (q - 1) there (sym f.part ∙ o) r.0 f.term l.indices l.memory v.1)
      (reworded_as Branches a (first_place p (Find n)) (q - 1) there (sym f.part ∙ o) r.0 f.term) same)
      (λ f. kept (reworded_as Body b (second_place p (Find n) a) (q - (1 + size a)) (at_second Body (Find n) a b p q e f) (sym f.part ∙ o) r.1 f.term)) h
  reworded_as Body t p q e o w h = absurd (both_ways false refl w)
  reworded_as Then (Node Cons a b) p q e o w h =
      let r = and_parts (is_phrase Body a) _ w in
      by_child m Then Cons a b q (As Then p (Node Cons a b)) refl
      (λ f. in_list (reworded_as Body a (first_place p Cons) (q - 0) (at_first Then Cons a b p q e f) (sym f.part ∙ o) r.0 f.term) same)
      (λ f. in_list same (reworded_as Else b (second_place p Cons a) (q - (0 + size a)) (at_second Then Cons a b p q e f) (sym f.part ∙ o) r.1 f.term)) h
  reworded_as Then t p q e o w h = absurd (both_ways false refl w)
  reworded_as Else (Node Cons a b) p q e o w h =
      let r = and_parts (is_phrase Body a) _ w in
      by_child m Else Cons a b q (As Else p (Node Cons a b)) refl
      (λ f. in_list (reworded_as Body a (first_place p Cons) (q - 0) (at_first Else Cons a b p q e f) (sym f.part ∙ o) r.0 f.term) same)
      (λ f. absurd (bare Nil b _ refl f.term)) h
  reworded_as Else t p q e o w h = absurd (both_ways false refl w)
  reworded_as Branches Empty p q e o w h = absurd (nothing_there Branches q h)
  reworded_as Branches (Node Cons (Node Branch us (Node Cons cells (Node Cons c b))) more) p q e o w h =
      go (in_branches m us cells c b more q h) (reworded_as Body b) (reworded_as Branches more)
    where
      guarded : (is_phrase Term c ≡ true) × (is_phrase Body b ≡ true)
      guarded = and_parts (is_phrase Term c) _ (guarded_of us cells (Node Cons c b) more w)

      cells_still : is_still cells ≡ true
      cells_still = terms_still Cells cells refl (and_parts (is_phrase Cells cells) _ (guards_of us (Node Cons cells (Node Cons c b)) more w)).0

      condition_still : is_still c ≡ true
      condition_still = terms_still Term c refl guarded.0

      more_phrase : is_phrase Branches more ≡ true
      more_phrase = (and_parts (is_phrase Arm (Node Branch us (Node Cons cells (Node Cons c b)))) _ w).1

      go : InBranches m us cells c b more q
          → ((p q : ℕ) → p + q ≡ place → part_at b q ≡ old → is_phrase Body b ≡ true → has_term_at Body b q ≡ true → IsReworded g Holds Process p b (replaced b q m))
          → ((p q : ℕ) → p + q ≡ place → part_at more q ≡ old → is_phrase Branches more ≡ true → has_term_at Branches more q ≡ true → IsReworded g Holds runs.Branches p more (replaced more q m))
          → IsReworded g Holds runs.Branches p (branches us cells c b more) (replaced (branches us cells c b more) q m)
      go (in_condition k f) x y =
          subst (IsReworded g Holds runs.Branches p (branches us cells c b more)) (sym f.next)
          (in_branch cells_still condition_still cells_still (still_with m still c k condition_still) same same)
      go (in_body k f) x y =
          subst (IsReworded g Holds runs.Branches p (branches us cells c b more)) (sym f.next)
          (in_branch cells_still condition_still cells_still condition_still (x (p + before_body us cells c) k (let z = f.place in omega arith) (sym f.part ∙ o) guarded.1 f.term) same)
      go (later k f) x y =
          subst (IsReworded g Holds runs.Branches p (branches us cells c b more)) (sym f.next)
          (in_branch cells_still condition_still cells_still condition_still same
          (y (second_place p Cons (Node Branch us (Node Cons cells (Node Cons c b)))) k (let z = f.place in omega arith) (sym f.part ∙ o) more_phrase f.term))
  reworded_as Branches (Node Cons (Node Branch us (Node Cons cells rest)) more) p q e o w h = absurd (both_ways false refl (guarded_of us cells rest more w))
  reworded_as Branches (Node Cons (Node Branch us rest) more) p q e o w h = absurd (both_ways false refl (guards_of us rest more w))
  reworded_as Branches t p q e o w h = absurd (both_ways false refl w)
  reworded_as σ t p q e o w h = tt

  pub game_reworded : (game : Tree) → part_at game place ≡ old → is_phrase Inputs game ≡ true → has_term_at Inputs game place ≡ true → IsReworded g Holds Process 0 game (replaced game place m)
  game_reworded game o w h = reworded_as Inputs game 0 place (omega arith) o w h
