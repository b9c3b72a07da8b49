-- A game with its terms changed at several places is the game in other words.
use Rattle.std.proofs.Common.{◌≡◌, ℕ, ◌+◌, ◌&&◌, ◌||◌, not, Bool, true, false, Some, refl, sym, ap, ap₂, subst, ◌∙◌, arith}
use Rattle.std.proofs.lemmas.Bool.{both_ways, and_parts}
use Rattle.cv_syntax_trees.specs.declared.head.Head.{Head}
use Rattle.cv_syntax_trees.specs.declared.head.Head.TheVariants.{Stop, Yield, Par, Repl, In, Out, Event, New, Let, If, Find, Branch, Cons}
use Rattle.cv_syntax.specs.Layouts.{IsSyntax}
use Rattle.cv_syntax_trees.specs.Tree.{Tree, Empty, Node, first_place, second_place, size}
use Rattle.cv_meaning.specs.Interpretation.{Setting}
use Rattle.cv_meaning.specs.Memory.{Local, Store}
use Rattle.cv_meaning.specs.Serving.{Visit}
use Rattle.cv_meaning.specs.Still.{is_still}
use Rattle.cv_meaning.specs.Terms.{is_one}
use Rattle.cv_meaning_runs.specs.Replacement as runs
use Rattle.cv_meaning_runs.specs.Replacement.{Process, before_body}
use Rattle.cv_meaning_chances.specs.rewording.Rewording.{IsReworded, same, kept, reworded, in_parallel, in_list, in_find, in_branch, has_terms, SaysTheSame}
use Rattle.cv_scope_rules.specs.Context.{Context}
use Rattle.cv_scope_rules.specs.Made.{OwnUnassigned, made_by}
use Rattle.cv_scope_rules.specs.Phrases.{Phrase, Nil, Inputs, Body, Then, Else, Branches, Arm, Binders, Pattern, Message, Cells, Guarded, Guards, Terms, Term, is_phrase}
use Rattle.cv_scope_rules.specs.Scope.{is_variable}
use Rattle.cv_scope_rules.specs.Sites.{Variable}
use Rattle.cv_scope_runs.proofs.Contexts.{Holds as ContextHolds, Matches}
use Rattle.cv_scope_runs.proofs.Games.{Game}
use Rattle.cv_scope_runs.proofs.PathRuns.{only_variables, term_reads, terms_read}
use Rattle.cv_scope_runs.proofs.ServeRuns.{VisitHolds}
use Rattle.cv_scope_runs.proofs.Standing.{Stands, root, in_first, in_second, stands_known}
use Rattle.cv_scene.specs.Scenes.{has_news_alone, is_new_head}
use Rattle.cv_steps.proofs.Flat.{guarded_of, guards_of, is_of_terms, terms_still}
use Rattle.cv_costs.specs.wording.Changing.{AreTermsAt, KeepsStill, changed_at}
use Rattle.cv_costs.specs.wording.Facts.{HoldsIn, IsOfArray, KeepsValues}
use Rattle.cv_costs.proofs.wording.Branches.{candidates_kept}
use Rattle.cv_costs.proofs.wording.Places.{AreAt, at_first, at_root, at_second, kept_bare, kept_node, still_changed}
use Rattle.cv_costs.proofs.wording.Values.{AreRead, SameValues, same_values}

-- a variable that `new` alone defines, in the parts of a node

pub news_first : (y : ℕ) (h : Head) (a b : Tree) → has_news_alone y (Node h a b) ≡ true → has_news_alone y a ≡ true
unfolding has_news_alone
news_first y h a b e = (and_parts (has_news_alone y a) (has_news_alone y b) (and_parts (is_new_head h || not (made_by h a (Variable y))) (has_news_alone y a && has_news_alone y b) e).1).0

pub news_second : (y : ℕ) (h : Head) (a b : Tree) → has_news_alone y (Node h a b) ≡ true → has_news_alone y b ≡ true
unfolding has_news_alone
news_second y h a b e = (and_parts (has_news_alone y a) (has_news_alone y b) (and_parts (is_new_head h || not (made_by h a (Variable y))) (has_news_alone y a && has_news_alone y b) e).1).1

module _ (g : Setting) (game : Tree) (fine : Game g (is_variable game) game) (y : ℕ) (places : ℕ → Bool) (change : Tree → Tree) (P : Store → Type 0) (array : IsOfArray y P) (keeps : KeepsValues g game places change P) (stills : KeepsStill change) where
  -- the fact holds, no index variable of a `find` is assigned, and what is known holds
  abbrev pub Expected : Visit → Type 0
  Expected v = HoldsIn P v × OwnUnassigned v × VisitHolds g (is_variable game) game fine v

  abbrev At : Phrase → ℕ → Tree → Type 0
  At σ p t = AreAt places change game σ p t

  abbrev changed : ℕ → Tree → Tree
  changed p t = changed_at places change p t

  abbrev As : Phrase → ℕ → Tree → Tree → Type 0
  As Inputs p t u = IsReworded g Expected Process p t u
  As Body p t u = IsReworded g Expected Process p t u
  As Then p t u = IsReworded g Expected Process p t u
  As Else p t u = IsReworded g Expected Process p t u
  As Branches p t u = IsReworded g Expected runs.Branches p t u
  As σ p t u = Unit {0}

  -- what is known where a visited construct stands

  record Known (Γ : Context) (l : Local) : Type 0 where
    matches : Matches g (is_variable game) Γ.replications l.indices
    holds : ContextHolds g (is_variable game) Γ l.indices l.memory.store l.memory.events

  known_here : {p : ℕ} {σ : Phrase} {Γ : Context} (t : Tree) → Stands game p σ Γ t → IsSyntax t → (l : Local) → VisitHolds g (is_variable game) game fine (record { place = p; tree = t; before = l }) → Known Γ l
  known_here {p = p} {σ = σ} {Γ = Γ} t st i l v =
      let e : Some Γ ≡ Some v.above = sym (stands_known game p σ Γ t i st) ∙ stands_known game p v.phrase v.above t i v.stands in
      let z : Γ ≡ v.above = cc in
      subst (λ (Δ : Context). Known Δ l) (sym z) (record { matches = v.matches; holds = v.holds })

  -- a node whose children are given
  node : (h : Head) (a b c d : Tree) (p : ℕ) → changed p (Node h a b) ≡ Node h (changed (first_place p h) a) (changed (second_place p h a) b) → changed (first_place p h) a ≡ c → changed (second_place p h a) b ≡ d → changed p (Node h a b) ≡ Node h c d
  node h a b c d p e f k = e ∙ ap₂ (Node h) f k

  -- a construct with such children, and one with such a first child

  bare_both : (h : Head) (a b : Tree) (p : ℕ) → changed p (Node h a b) ≡ Node h (changed (first_place p h) a) (changed (second_place p h a) b) → changed (first_place p h) a ≡ a → changed (second_place p h a) b ≡ b
      → IsReworded g Expected Process p (Node h a b) (changed p (Node h a b))
  bare_both h a b p e f k = subst (IsReworded g Expected Process p (Node h a b)) (sym (node h a b a b p e f k)) same

  bare_first : (h : Head) (a b : Tree) (p : ℕ) → changed p (Node h a b) ≡ Node h (changed (first_place p h) a) (changed (second_place p h a) b) → changed (first_place p h) a ≡ a
      → IsReworded g Expected Process (second_place p h a) b (changed (second_place p h a) b) → IsReworded g Expected Process p (Node h a b) (changed p (Node h a b))
  bare_first h a b p e f z = subst (IsReworded g Expected Process p (Node h a b)) (sym (node h a b a (changed (second_place p h a) b) p e f refl)) (kept z)

  -- a construct with terms: a `let`, an event, an `if`, an output
  with_terms : (h : Head) (a b : Tree) {p : ℕ} {Γ : Context} → has_terms h ≡ true → IsSyntax (Node h a b) → (σ : Phrase) → is_of_terms σ ≡ true → is_phrase σ a ≡ true → Stands game p Body Γ (Node h a b) → At Body p (Node h a b)
      → (first : Stands game (first_place p h) σ Γ a) → At σ (first_place p h) a
      → ((l : Local) (q : P l.memory.store) → Known Γ l → AreRead g game places change P keeps l.indices l.memory.store q σ a)
      → ((l : Local) (q : P l.memory.store) → SameValues g game places change P keeps l.indices l.memory.store q σ a (changed (first_place p h) a) → SaysTheSame g h a (changed (first_place p h) a) l)
      → IsReworded g Expected Process (second_place p h a) b (changed (second_place p h a) b) → IsReworded g Expected Process p (Node h a b) (changed p (Node h a b))
  with_terms h a b {p = p} {Γ = Γ} t is σ n w st k first m reads says z =
      let still : is_still a ≡ true = terms_still σ a n w in
      subst (IsReworded g Expected Process p (Node h a b)) (sym (kept_node places change game Body p h a b refl k))
      (reworded t still (still_changed places change game stills (first_place p h) a still)
      (λ l v.
      let i = known_here (Node h a b) st is l v.2 in
      says l v.0 (same_values g game places change P keeps l.indices l.memory.store v.0 σ a first w m i.matches (reads l v.0 i))) z)

  reworded_as : (σ : Phrase) (t : Tree) {p : ℕ} {Γ : Context} → Stands game p σ Γ t → is_phrase σ t ≡ true → has_news_alone y t ≡ true → At σ p t → As σ p t (changed p t)
  unfolding is_phrase size changed_at
  reworded_as Inputs (Node Stop a b) {p = p} st w n k = bare_both Stop a b p (kept_node places change game Inputs p Stop a b refl k) (kept_bare places change game Nil (first_place p Stop) a refl (at_first places change game Inputs Stop a b p k)) (kept_bare places change game Nil (second_place p Stop a) b refl (at_second places change game Inputs Stop a b p k))
  reworded_as Inputs (Node Par a b) {p = p} st w n k =
      let r = and_parts (is_phrase Inputs a) _ w in
      subst (IsReworded g Expected Process p (Node Par a b)) (sym (kept_node places change game Inputs p Par a b refl k))
      (in_parallel (reworded_as Inputs a (in_first refl st) r.0 (news_first y Par a b n) (at_first places change game Inputs Par a b p k)) (reworded_as Inputs b (in_second refl st) r.1 (news_second y Par a b n) (at_second places change game Inputs Par a b p k)))
  reworded_as Inputs (Node (Repl j i) a b) {p = p} st w n k =
      let r = and_parts (is_phrase Nil a) _ w in
      bare_first (Repl j i) a b p (kept_node places change game Inputs p (Repl j i) a b refl k) (kept_bare places change game Nil (first_place p (Repl j i)) a refl (at_first places change game Inputs (Repl j i) a b p k)) (reworded_as Inputs b (in_second refl st) r.1 (news_second y (Repl j i) a b n) (at_second places change game Inputs (Repl j i) a b p k))
  reworded_as Inputs (Node (In c) a b) {p = p} st w n k =
      let r = and_parts (is_phrase Pattern a) _ w in
      bare_first (In c) a b p (kept_node places change game Inputs p (In c) a b refl k) (kept_bare places change game Pattern (first_place p (In c)) a refl (at_first places change game Inputs (In c) a b p k)) (reworded_as Body b (in_second refl st) r.1 (news_second y (In c) a b n) (at_second places change game Inputs (In c) a b p k))
  reworded_as Inputs t st w n k = absurd (both_ways false refl w)
  reworded_as Body (Node Yield a b) {p = p} st w n k = bare_both Yield a b p (kept_node places change game Body p Yield a b refl k) (kept_bare places change game Nil (first_place p Yield) a refl (at_first places change game Body Yield a b p k)) (kept_bare places change game Nil (second_place p Yield a) b refl (at_second places change game Body Yield a b p k))
  reworded_as Body (Node (New z T) a b) {p = p} st w n k =
      let r = and_parts (is_phrase Nil a) _ w in
      bare_first (New z T) a b p (kept_node places change game Body p (New z T) a b refl k) (kept_bare places change game Nil (first_place p (New z T)) a refl (at_first places change game Body (New z T) a b p k)) (reworded_as Body b (in_second refl st) r.1 (news_second y (New z T) a b n) (at_second places change game Body (New z T) a b p k))
  reworded_as Body (Node (Out c) Empty b) st w n k = absurd (both_ways false refl w)
  reworded_as Body (Node (Out c) (Node Cons is ms) b) {p = p} st w n k =
      let a : Tree = Node Cons is ms in
      let r = and_parts (is_phrase Message a) _ w in
      with_terms (Out c) a b refl refl Message refl r.0 st k (in_first refl st) (at_first places change game Body (Out c) a b p k)
      (λ l q i. terms_read g (is_variable game) game fine (in_second refl (in_first refl st)) l.indices l.memory.store l.memory.events i.matches i.holds) (λ l q e. e) (reworded_as Inputs b (in_second refl st) r.1 (news_second y (Out c) a b n) (at_second places change game Body (Out c) a b p k))
  reworded_as Body (Node (Out c) a b) st w n k = absurd (both_ways false refl w)
  reworded_as Body (Node (Let z T) a b) {p = p} st w n k =
      let r = and_parts (is_phrase Term a) _ w in
      with_terms (Let z T) a b refl refl Term refl r.0 st k (in_first refl st) (at_first places change game Body (Let z T) a b p k)
      (λ l q i. term_reads g (is_variable game) game fine (in_first refl st) l.indices l.memory.store l.memory.events i.matches i.holds) (λ l q e. e) (reworded_as Body b (in_second refl st) r.1 (news_second y (Let z T) a b n) (at_second places change game Body (Let z T) a b p k))
  reworded_as Body (Node (Event c) a b) {p = p} st w n k =
      let r = and_parts (is_phrase Terms a) _ w in
      with_terms (Event c) a b refl refl Terms refl r.0 st k (in_first refl st) (at_first places change game Body (Event c) a b p k)
      (λ l q i. terms_read g (is_variable game) game fine (in_first refl st) l.indices l.memory.store l.memory.events i.matches i.holds) (λ l q e. e) (reworded_as Body b (in_second refl st) r.1 (news_second y (Event c) a b n) (at_second places change game Body (Event c) a b p k))
  reworded_as Body (Node If a b) {p = p} st w n k =
      let r = and_parts (is_phrase Term a) _ w in
      with_terms If a b refl refl Term refl r.0 st k (in_first refl st) (at_first places change game Body If a b p k)
      (λ l q i. term_reads g (is_variable game) game fine (in_first refl st) l.indices l.memory.store l.memory.events i.matches i.holds) (λ l q e. ap is_one e) (reworded_as Then b (in_second refl st) r.1 (news_second y If a b n) (at_second places change game Body If a b p k))
  reworded_as Body (Node (Find c) a b) {p = p} st w n k =
      let r = and_parts (is_phrase Branches a) _ w in
      subst (IsReworded g Expected Process p (Node (Find c) a b)) (sym (kept_node places change game Body p (Find c) a b refl k))
      (in_find
      (λ l v.
      let i = known_here (Node (Find c) a b) st refl l v.2 in
      candidates_kept g game fine y places change P array keeps l.indices l.memory.store l.memory.events a (in_first refl st) r.0 (news_first y (Find c) a b n) (at_first places change game Body (Find c) a b p k) i.matches i.holds
      (only_variables g (is_variable game) game fine l.memory.store l.memory.events v.2.stores) v.1 v.0)
      (reworded_as Branches a (in_first refl st) r.0 (news_first y (Find c) a b n) (at_first places change game Body (Find c) a b p k)) (reworded_as Body b (in_second refl st) r.1 (news_second y (Find c) a b n) (at_second places change game Body (Find c) a b p k)))
  reworded_as Body t st w n k = absurd (both_ways false refl w)
  reworded_as Then (Node Cons a b) {p = p} st w n k =
      let r = and_parts (is_phrase Body a) _ w in
      subst (IsReworded g Expected Process p (Node Cons a b)) (sym (kept_node places change game Then p Cons a b refl k))
      (in_list (reworded_as Body a (in_first refl st) r.0 (news_first y Cons a b n) (at_first places change game Then Cons a b p k)) (reworded_as Else b (in_second refl st) r.1 (news_second y Cons a b n) (at_second places change game Then Cons a b p k)))
  reworded_as Then t st w n k = absurd (both_ways false refl w)
  reworded_as Else (Node Cons a b) {p = p} st w n k =
      let r = and_parts (is_phrase Body a) _ w in
      subst (IsReworded g Expected Process p (Node Cons a b)) (sym (node Cons a b (changed (first_place p Cons) a) b p (kept_node places change game Else p Cons a b refl k) refl (kept_bare places change game Nil (second_place p Cons a) b refl (at_second places change game Else Cons a b p k))))
      (in_list (reworded_as Body a (in_first refl st) r.0 (news_first y Cons a b n) (at_first places change game Else Cons a b p k)) same)
  reworded_as Else t st w n k = absurd (both_ways false refl w)
  reworded_as Branches Empty st w n k = same
  reworded_as Branches (Node Cons (Node Branch us (Node Cons cells (Node Cons c b))) more) {p = p} st w n k =
      subst (IsReworded g Expected runs.Branches p (Node Cons arm more)) (sym next)
      (in_branch cells_still condition_still cells_still (still_changed places change game stills c_place c condition_still)
      (subst (λ q. IsReworded g Expected Process q b (changed b_place b)) (let z : b_place ≡ p + before_body us cells c = omega arith in z)
      (reworded_as Body b (in_second refl (in_second refl (in_second refl (in_first refl st)))) guarded.1 (news_second y Cons c b (news_second y Cons cells (Node Cons c b) (news_second y Branch us guards (news_first y Cons arm more n)))) (at_second places change game Guarded Cons c b guarded_place at_guarded)))
      (reworded_as Branches more (in_second refl st) (and_parts (is_phrase Arm arm) (is_phrase Branches more) w).1 (news_second y Cons arm more n) (at_second places change game Branches Cons arm more p k)))
    where
      guards : Tree
      guards = Node Cons cells (Node Cons c b)

      arm : Tree
      arm = Node Branch us guards

      guarded : (is_phrase Term c ≡ true) × (is_phrase Body b ≡ true)
      guarded = and_parts (is_phrase Term c) _ (guarded_of us cells (Node Cons c b) more w)

      cells_still : is_still cells ≡ true
      cells_still = terms_still Cells cells refl (and_parts (is_phrase Cells cells) _ (guards_of us guards more w)).0

      condition_still : is_still c ≡ true
      condition_still = terms_still Term c refl guarded.0

      guards_place : ℕ
      guards_place = second_place (first_place p Cons) Branch us

      guarded_place : ℕ
      guarded_place = second_place guards_place Cons cells

      c_place : ℕ
      c_place = first_place guarded_place Cons

      b_place : ℕ
      b_place = second_place guarded_place Cons c

      at_arm : At Arm (first_place p Cons) arm
      at_arm = at_first places change game Branches Cons arm more p k

      at_guards : At Guards guards_place guards
      at_guards = at_second places change game Arm Branch us guards (first_place p Cons) at_arm

      at_guarded : At Guarded guarded_place (Node Cons c b)
      at_guarded = at_second places change game Guards Cons cells (Node Cons c b) guards_place at_guards

      next : changed p (Node Cons arm more) ≡ Node Cons (Node Branch us (Node Cons cells (Node Cons (changed c_place c) (changed b_place b)))) (changed (second_place p Cons arm) more)
      next =
          node Cons arm more (Node Branch us (Node Cons cells (Node Cons (changed c_place c) (changed b_place b)))) (changed (second_place p Cons arm) more) p (kept_node places change game Branches p Cons arm more refl k)
          (node Branch us guards us (Node Cons cells (Node Cons (changed c_place c) (changed b_place b))) (first_place p Cons) (kept_node places change game Arm (first_place p Cons) Branch us guards refl at_arm)
          (kept_bare places change game Binders (first_place (first_place p Cons) Branch) us refl (at_first places change game Arm Branch us guards (first_place p Cons) at_arm))
          (node Cons cells (Node Cons c b) cells (Node Cons (changed c_place c) (changed b_place b)) guards_place (kept_node places change game Guards guards_place Cons cells (Node Cons c b) refl at_guards)
          (kept_bare places change game Cells (first_place guards_place Cons) cells refl (at_first places change game Guards Cons cells (Node Cons c b) guards_place at_guards))
          (kept_node places change game Guarded guarded_place Cons c b refl at_guarded)))
          refl
  reworded_as Branches (Node Cons (Node Branch us (Node Cons cells rest)) more) st w n k = absurd (both_ways false refl (guarded_of us cells rest more w))
  reworded_as Branches (Node Cons (Node Branch us rest) more) st w n k = absurd (both_ways false refl (guards_of us rest more w))
  reworded_as Branches t st w n k = absurd (both_ways false refl w)
  reworded_as σ t st w n k = tt

  pub game_reworded : is_phrase Inputs game ≡ true → has_news_alone y game ≡ true → AreTermsAt places game → IsReworded g Expected Process 0 game (changed 0 game)
  game_reworded w n k = reworded_as Inputs game root w n (at_root places change game k)
