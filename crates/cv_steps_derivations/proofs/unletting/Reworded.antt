-- A game with the term in place of each read of the variable is the game in other words.
use Rattle.std.proofs.Common.{◌≡◌, ℕ, ◌+◌, true, false, Some, refl, sym, ap, ap₂, subst, ◌∙◌, arith}
use Rattle.std.proofs.lemmas.Bool.{both_ways}
use Rattle.cv_syntax_trees.specs.declared.head.Head.{Head}
use Rattle.cv_syntax_trees.specs.declared.head.Head.TheVariants.{Stop, Yield, Par, Repl, In, Out, Event, New, Let, If, Find, Branch, Cons}
use Rattle.cv_syntax.specs.Layouts.{IsSyntax}
use Rattle.cv_syntax_trees.specs.Tree.{Tree, Empty, Node, first_place, second_place, size}
use Rattle.cv_meaning.specs.Interpretation.{Setting}
use Rattle.cv_meaning.specs.Memory.{Local}
use Rattle.cv_meaning.specs.Serving.{Visit}
use Rattle.cv_meaning.specs.Still.{is_still}
use Rattle.cv_meaning.specs.Terms.{is_one}
use Rattle.cv_meaning_runs.specs.Replacement as runs
use Rattle.cv_meaning_runs.specs.Replacement.{Process, before_body}
use Rattle.cv_meaning_chances.specs.rewording.Rewording.{IsReworded, same, kept, reworded, in_parallel, in_list, in_find, in_branch, has_terms, SaysTheSame}
use Rattle.cv_scope_rules.specs.Context.{Context, known_at}
use Rattle.cv_scope_rules.specs.Phrases.{Phrase, Nil, Inputs, Body, Then, Else, Branches, Binders, Pattern, Message, Cells, Terms, Term, is_phrase}
use Rattle.cv_scope_rules.specs.Scope.{is_variable}
use Rattle.cv_scope_runs.specs.Promises.{CandidatesHold, HoldsFrom, PlaceHolds}
use Rattle.cv_scope_runs.proofs.Games.{Game}
use Rattle.cv_scope_runs.proofs.PathRuns.{grows_same}
use Rattle.cv_scope_runs.proofs.Standing.{Stands, root, in_first, in_second, stands_known}
use Rattle.cv_steps.specs.Unletting.{Assignment, is_listed, with_term}
use Rattle.cv_steps.proofs.Flat.{guarded_of, guards_of, is_of_terms, terms_still}
use Rattle.cv_steps_laws.proofs.Unletted.{is_bare, put_bare}
use Rattle.cv_steps_derivations.proofs.unletting.Branches.{candidates_kept}
use Rattle.cv_steps_derivations.proofs.unletting.Puts.{puts}
use Rattle.cv_steps_derivations.proofs.unletting.Reach.{plain}
use Rattle.cv_steps_derivations.proofs.unletting.Sites.{OneDefinition}
use Rattle.cv_steps_derivations.proofs.unletting.Values.{AreTrue, SameValues, same_values}

module _ (g : Setting) (game : Tree) (x : ℕ) (d : Assignment) (fine : Game g (is_variable game) game) (well : is_phrase Inputs game ≡ true) (one : OneDefinition game x d) (free : is_listed x game ≡ false) where
  abbrev put : Tree → Tree
  put t = with_term x d t

  -- what is known holds at the visit
  abbrev pub Holds : Visit → Type 0
  Holds v = PlaceHolds g game v × CandidatesHold g game v

  facts_here : {p : ℕ} {σ : Phrase} {Γ : Context} {h : Head} {a b : Tree} → Stands game p σ Γ (Node h a b) → IsSyntax (Node h a b) → (l : Local) → Holds (record { place = p; tree = Node h a b; before = l })
      → AreTrue g game x d fine well one free l.indices l.memory.store Γ
  facts_here {p = p} {σ = σ} {Γ = Γ} {h = h} {a = a} {b = b} st is l v = go (v.0 is)
    where
      go : (Δ : Context) × (known_at game p ≡ Some Δ) × HoldsFrom g Δ l.indices l.memory → AreTrue g game x d fine well one free l.indices l.memory.store Γ
      go k =
          let e : Some Γ ≡ Some k.0 = sym (stands_known game p σ Γ (Node h a b) is st) ∙ k.1 in
          let same : Γ ≡ k.0 = cc in
          subst (λ Δ. AreTrue g game x d fine well one free l.indices l.memory.store Δ) (sym same) (k.2 l.memory (grows_same l.memory)).facts

  abbrev As : Phrase → ℕ → Tree → Tree → Type 0
  As Inputs p t u = IsReworded g Holds Process p t u
  As Body p t u = IsReworded g Holds Process p t u
  As Then p t u = IsReworded g Holds Process p t u
  As Else p t u = IsReworded g Holds Process p t u
  As Branches p t u = IsReworded g Holds runs.Branches p t u
  As σ p t u = Unit {0}

  -- a child that reads nothing
  bare : (σ : Phrase) (t : Tree) → is_bare σ ≡ true → {p : ℕ} {Γ : Context} → Stands game p σ Γ t → put t ≡ t
  bare σ t f st = put_bare x d σ t f (plain g game x d fine well one free st)

  -- a construct with such children, and one with such a first child
  bare_both : (h : Head) (a b : Tree) (p : ℕ) → put a ≡ a → put b ≡ b → IsReworded g Holds Process p (Node h a b) (Node h (put a) (put b))
  bare_both h a b p e f = subst (IsReworded g Holds Process p (Node h a b)) (ap₂ (Node h) (sym e) (sym f)) same

  bare_first : (h : Head) (a b : Tree) (p : ℕ) → put a ≡ a → IsReworded g Holds Process (second_place p h a) b (put b) → IsReworded g Holds Process p (Node h a b) (Node h (put a) (put b))
  bare_first h a b p e z = subst (λ c. IsReworded g Holds Process p (Node h a b) (Node h c (put b))) (sym e) (kept z)

  still : (σ : Phrase) (t : Tree) → is_of_terms σ ≡ true → {p : ℕ} {Γ : Context} → Stands game p σ Γ t → (is_still t ≡ true) × (is_still (put t) ≡ true)
  still σ t f st = (terms_still σ t f (plain g game x d fine well one free st), terms_still σ (put t) f (puts g game x d fine well one free σ t st).phrase)

  -- a construct with terms: a `let`, an event, an `if`, an output
  with_terms : (h : Head) (a b : Tree) {p : ℕ} {Γ : Context} → has_terms h ≡ true → IsSyntax (Node h a b) → (σ : Phrase) → is_of_terms σ ≡ true → Stands game p Body Γ (Node h a b) → Stands game (first_place p h) σ Γ a
      → ((l : Local) → SameValues g game x d fine well one free l.indices l.memory.store σ a (put a) → SaysTheSame g h a (put a) l)
      → IsReworded g Holds Process (second_place p h a) b (put b) → IsReworded g Holds Process p (Node h a b) (Node h (put a) (put b))
  with_terms h a b t is σ n st first k z =
      let r = still σ a n first in
      reworded t r.0 r.1 (λ l v. k l (same_values g game x d fine well one free l.indices l.memory.store σ a first (facts_here st is l v))) z

  reworded_as : (σ : Phrase) (t : Tree) {p : ℕ} {Γ : Context} → Stands game p σ Γ t → As σ p t (put t)
  unfolding with_term is_phrase size
  reworded_as Inputs (Node Stop a b) {p = p} st = bare_both Stop a b p (bare Nil a refl (in_first refl st)) (bare Nil b refl (in_second refl st))
  reworded_as Inputs (Node Par a b) st = in_parallel (reworded_as Inputs a (in_first refl st)) (reworded_as Inputs b (in_second refl st))
  reworded_as Inputs (Node (Repl j n) a b) {p = p} st = bare_first (Repl j n) a b p (bare Nil a refl (in_first refl st)) (reworded_as Inputs b (in_second refl st))
  reworded_as Inputs (Node (In c) a b) {p = p} st = bare_first (In c) a b p (bare Pattern a refl (in_first refl st)) (reworded_as Body b (in_second refl st))
  reworded_as Inputs t st = absurd (both_ways false refl (plain g game x d fine well one free st))
  reworded_as Body (Node Yield a b) {p = p} st = bare_both Yield a b p (bare Nil a refl (in_first refl st)) (bare Nil b refl (in_second refl st))
  reworded_as Body (Node (New y T) a b) {p = p} st = bare_first (New y T) a b p (bare Nil a refl (in_first refl st)) (reworded_as Body b (in_second refl st))
  reworded_as Body (Node (Out c) a b) st = with_terms (Out c) a b refl refl Message refl st (in_first refl st) (λ l e. e) (reworded_as Inputs b (in_second refl st))
  reworded_as Body (Node (Let y T) a b) st = with_terms (Let y T) a b refl refl Term refl st (in_first refl st) (λ l e. e) (reworded_as Body b (in_second refl st))
  reworded_as Body (Node (Event e) a b) st = with_terms (Event e) a b refl refl Terms refl st (in_first refl st) (λ l e. e) (reworded_as Body b (in_second refl st))
  reworded_as Body (Node If a b) st = with_terms If a b refl refl Term refl st (in_first refl st) (λ l e. ap is_one e) (reworded_as Then b (in_second refl st))
  reworded_as Body (Node (Find n) a b) {p = p} {Γ = Γ} st =
      in_find (λ l v. candidates_kept g game x d fine well one free l.indices l.memory a (in_first refl st) (v.1 Γ (stands_known game p Body Γ (Node (Find n) a b) refl st)))
      (reworded_as Branches a (in_first refl st)) (reworded_as Body b (in_second refl st))
  reworded_as Body t st = absurd (both_ways false refl (plain g game x d fine well one free st))
  reworded_as Then (Node Cons a b) st = in_list (reworded_as Body a (in_first refl st)) (reworded_as Else b (in_second refl st))
  reworded_as Then t st = absurd (both_ways false refl (plain g game x d fine well one free st))
  reworded_as Else (Node Cons a b) {p = p} st =
      in_list (reworded_as Body a (in_first refl st)) (subst (IsReworded g Holds Process (second_place p Cons a) b) (sym (bare Nil b refl (in_second refl st))) same)
  reworded_as Else t st = absurd (both_ways false refl (plain g game x d fine well one free st))
  reworded_as Branches Empty st = same
  reworded_as Branches (Node Cons (Node Branch us (Node Cons cells (Node Cons c b))) more) {p = p} st =
      let arm : Tree = Node Branch us (Node Cons cells (Node Cons c b)) in
      let guards = in_second refl (in_first refl st) in
      let guarded = in_second refl guards in
      let r = still Cells cells refl (in_first refl guards) in
      let s = still Term c refl (in_first refl guarded) in
      let body : IsReworded g Holds Process (p + before_body us cells c) b (put b) =
      subst (λ q. IsReworded g Holds Process q b (put b)) (omega arith) (reworded_as Body b (in_second refl guarded)) in
      subst (λ z. IsReworded g Holds runs.Branches p (Node Cons arm more) (Node Cons (Node Branch z (Node Cons (put cells) (Node Cons (put c) (put b)))) (put more)))
      (sym (bare Binders us refl (in_first refl (in_first refl st))))
      (in_branch r.0 s.0 r.1 s.1 body (reworded_as Branches more (in_second refl st)))
  reworded_as Branches (Node Cons (Node Branch us (Node Cons cells rest)) more) st = absurd (both_ways false refl (guarded_of us cells rest more (plain g game x d fine well one free st)))
  reworded_as Branches (Node Cons (Node Branch us rest) more) st = absurd (both_ways false refl (guards_of us rest more (plain g game x d fine well one free st)))
  reworded_as Branches t st = absurd (both_ways false refl (plain g game x d fine well one free st))
  reworded_as σ t st = tt

  pub game_reworded : IsReworded g Holds Process 0 game (put game)
  game_reworded = reworded_as Inputs game root
