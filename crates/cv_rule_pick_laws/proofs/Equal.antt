-- At each visit behind the branch its index variables have the values of their terms.
use Rattle.std.proofs.Common.{◌≡◌, ℕ, ◌==◌, Bool, true, false, List, [], ◌∷◌, ◌++◌, map, inl, inr, Option, Some, refl, sym, ap, ap₂, subst, ◌∙◌, arith, eq-eqb, eqb-true}
use Rattle.std.proofs.lemmas.Bool.{both_ways, or_left}
use Rattle.std.specs.List.{AllByRecursion}
use Rattle.cv_syntax.specs.Layouts.{IsSyntax}
use Rattle.cv_syntax_trees.specs.declared.head.Head.{Head}
use Rattle.cv_syntax_trees.specs.declared.head.Head.TheVariants.{Binder, Branch, Cons, Eq}
use Rattle.cv_syntax_trees.specs.Tree.{Tree, Empty, Node, bound_names, second_place}
use Rattle.cv_meaning.specs.Interpretation.{Interpretation, Setting, setting_of}
use Rattle.cv_meaning.specs.Binders.{with_bound}
use Rattle.cv_meaning.specs.Memory.{Happened, Indices, Local, Memory, Store, tuple}
use Rattle.cv_meaning.specs.Replaced.{is_output}
use Rattle.cv_meaning.specs.Serving.{Visit, step, visits}
use Rattle.cv_meaning.specs.Tapes.{Tape}
use Rattle.cv_meaning.specs.Terms.{bit, value}
use Rattle.cv_scope_rules.specs.Context.{Context, cell_of, cells_of, items, known_at}
use Rattle.cv_scope_rules.specs.Made.{OwnUnassigned, is_bound, made_by}
use Rattle.cv_scope_rules.specs.Phrases.{Phrase, Arm as OfArm, Body as OfBody, Term, is_phrase}
use Rattle.cv_scope_rules.specs.Rules.{IsAmong}
use Rattle.cv_scope_rules.specs.Scope.{is_variable}
use Rattle.cv_scope_rules.specs.Sites.{Variable}
use Rattle.cv_scope_runs.specs.Promises.{AreIndicesOf, CandidatesHold, after_site}
use Rattle.cv_scope_runs.specs.Reads.{IsKept}
use Rattle.cv_scope_runs.proofs.Contexts.{CellHolds, Holds, Matches, game_names, scope_readable}
use Rattle.cv_scope_runs.proofs.FactsRuns.{well_game}
use Rattle.cv_scope_runs.proofs.PathRuns.{SiteHolds}
use Rattle.cv_scope_runs.proofs.Plain.{game_context}
use Rattle.cv_scope_runs.proofs.ServeRuns.{VisitHolds}
use Rattle.cv_scope_runs.proofs.Standing.{Stands, stands_known}
use Rattle.cv_scope_runs.proofs.TermsLater.{Extends, Readable, some_of, store_extends, value_kept}
use Rattle.cv_derive_laws.specs.stores.Holding.{HoldAtVisit, IsReady}
use Rattle.cv_derive_laws.specs.stores.Reached.{HasTypes}
use Rattle.cv_derive_laws.specs.stores.Soundness.{DerivationsHold}
use Rattle.cv_derive_laws.specs.stores.Truth.{IsTrue}
use Rattle.cv_scene.specs.lines.Lines.{lines_of, statements}
use Rattle.cv_scene.specs.Scenes.{Scene, part_at}
use Rattle.cv_costs.specs.names.Reach.{is_in_scope}
use Rattle.cv_rule_fresh.proofs.Scope.{scope_asked}
use Rattle.cv_steps_derivations.proofs.unletting.Sites.{part_there}
use Rattle.cv_rule_pick.specs.Picking.{Arm, arm_place, body_place, equations}
use Rattle.cv_rule_pick_laws.proofs.Copies.{Split, assigned_there, extends_there, same_copies, split}
use Rattle.cv_rule_pick_laws.proofs.Makers.{IsMade}
use Rattle.cv_rule_pick_laws.proofs.Names.{made_other, only_there}
use Rattle.cv_rule_pick_laws.proofs.Picks as picks
use Rattle.cv_rule_pick_laws.proofs.Picks.{AllTerms, IsPick, guards_tree, oracle_of, terms_both}
use Rattle.cv_rule_pick_laws.proofs.Standing.{IsBelow, among_right}
use Rattle.cv_rule_pick_laws.proofs.Terms.{AllBoth}
use Rattle.cv_syntax_trees.proofs.lists.Each.{AllByRecursion_left, AllByRecursion_right, AllByRecursion_weaker}

-- what holds of each visit of a run of the game that ends with this memory
pub record IsKnown (s : Scene) (i : Interpretation) (ready : IsReady s.declarations s.game) (last : Memory) (v : Visit) : Type 0 where
  pub holds : VisitHolds (setting_of s.declarations i) (is_variable s.game) s.game (well_game s.declarations (setting_of s.declarations i) s.game refl (game_context s.declarations s.game ready.formed)) v
  pub derived : HoldAtVisit s i v
  pub kept : IsKept v.before.memory.store last.store

-- the construct that assigned a cell of this memory, in a run that goes on to a last one
pub record WasMade (s : Scene) (i : Interpretation) (ready : IsReady s.declarations s.game) (x : Memory) (y : ℕ) (u : List ℕ) : Type 0 where
  pub tape : Tape
  pub last : Memory
  pub kept : IsKept x.store last.store
  pub made : IsMade (setting_of s.declarations i) tape (IsKnown s i ready last) y u

-- what is asked of each visit of a run of the game
pub record IsExpected (s : Scene) (i : Interpretation) (ready : IsReady s.declarations s.game) (v : Visit) : Type 0 where
  pub holds : VisitHolds (setting_of s.declarations i) (is_variable s.game) s.game (well_game s.declarations (setting_of s.declarations i) s.game refl (game_context s.declarations s.game ready.formed)) v
  pub own : OwnUnassigned v
  pub candidates : CandidatesHold (setting_of s.declarations i) s.game v
  pub types : HasTypes s.declarations s.game i v
  pub derived : HoldAtVisit s i v
  pub made : (y : ℕ) (u : List ℕ) (n : ℕ) → v.before.memory.store y u ≡ Some n → WasMade s i ready v.before.memory y u

-- an equation is 1 where both sides have one value
pub sides_equal : (g : Setting) (at : Indices) (n : Store) (a b : Tree) → value g at n (Node Eq a b) ≡ 1 → value g at n a ≡ value g at n b
unfolding value
sides_equal g at n a b e = go (value g at n a == value g at n b) refl e
  where
    go : (v : Bool) → (value g at n a == value g at n b) ≡ v → bit v ≡ 1 → value g at n a ≡ value g at n b
    go true f e = eqb-true (value g at n a) (value g at n b) f
    go false f e = absurd (cc)

equations_true : (g : Setting) (at : Indices) (m : Store) (cs : List Tree) (ms : Tree) → AllByRecursion (IsTrue g at m m) (statements (lines_of (equations cs ms))) → AllBoth (λ c t. value g at m c ≡ value g at m t) cs ms
unfolding lines_of statements
equations_true g at m [] ms k = tt
equations_true g at m (c ∷ cs) Empty k = tt
equations_true g at m (c ∷ cs) (Node h t ms) k = (sides_equal g at m c t k.0, equations_true g at m cs ms k.1)

-- from one copy and store to others
carried : (P : Tree → Tree → Type 0) (R : Tree → Type 0) (Q : Tree → Tree → Type 0) → ((c t : Tree) → P c t → R c → R t → Q c t) → (cs : List Tree) (ms : Tree) → AllBoth P cs ms → AllByRecursion R cs → AllTerms R ms → AllBoth Q cs ms
carried P R Q f [] ms k l m = tt
carried P R Q f (c ∷ cs) Empty k l m = tt
carried P R Q f (c ∷ cs) (Node h t ms) k l m = (f c t k.0 l.0 m.0, carried P R Q f cs ms k.1 l.1 m.1)

among_holds : (P : Tree → Type 0) (t : Tree) (cs : List Tree) → IsAmong t cs → AllByRecursion P cs → P t
among_holds P t [] l h = absurd l
among_holds P t (c ∷ cs) (inl e) h = subst P (sym e) h.0
among_holds P t (c ∷ cs) (inr l) h = among_holds P t cs l h.1

pub one_context : (Γ Δ : Context) → ◌≡◌ {A = Option Context} (Some Γ) (Some Δ) → Γ ≡ Δ
one_context Γ Δ e = cc

first_bound : (us : Tree) (y : ℕ) (ys : List ℕ) → bound_names us ≡ y ∷ ys → is_bound us y ≡ true
unfolding is_bound
first_bound (Node (Binder x T) a b) y ys e = let f : y ≡ x = cc in or_left (y == x) (is_bound b y) (eq-eqb y x f)
first_bound us y ys e = absurd (cc)

abbrev after_of : Tree → Context → Context
after_of Empty Γ = Γ
after_of (Node h a b) Γ = after_site h a b Γ

-- the first visit of a service
first_visit : (g : Setting) (t : Tape) (V : Visit → Type 0) (b : Tree) (p k : ℕ) (vs : List ℕ) (l : Local) → is_output b ≡ true → AllByRecursion V (visits g t b p k vs l) → V (record { place = p; tree = b; before = l })
unfolding visits
first_visit g t V Empty p k vs l e w = absurd (both_ways false refl e)
first_visit g t V (Node h a b) p k vs l e w = w.0

module _ (s : Scene) (place : ℕ) (ms d e next : Tree) (k : IsPick s place ms d e next) (ready : IsReady s.declarations s.game) (typed : picks.AllTerms (λ m. is_phrase Term m ≡ true) ms) (i : Interpretation) (sound : DerivationsHold s.declarations) where
  abbrev game : Tree
  game = s.game

  abbrev g : Setting
  g = setting_of s.declarations i

  abbrev var : ℕ → Bool
  var = is_variable game

  abbrev a : Arm
  a = k.arm

  abbrev cs : List Tree
  cs = picks.cs s place ms d e next k ready i

  abbrev Γ : Context
  Γ = picks.Γ s place ms d e next k ready i

  abbrev Δ : Context
  Δ = picks.Δ s place ms d e next k ready i

  abbrev body : ℕ
  body = body_place place a

  body_known : known_at game body ≡ Some Δ
  body_known = stands_known game body OfBody Δ a.body (picks.body_syntax s place ms d e next k ready i) (picks.body_stands s place ms d e next k ready i)

  abbrev arm_tree : Tree
  arm_tree = Node Branch a.binders (guards_tree a a.body)

  arm_part : part_at game (arm_place place) ≡ arm_tree
  arm_part = picks.arm_part s place ms d e next k ready i

  arm_known : known_at game (arm_place place) ≡ Some Γ
  arm_known = stands_known game (arm_place place) OfArm Γ arm_tree refl (picks.arm_stands s place ms d e next k ready i)

  -- what assigns an index variable is the branch

  record IsArm (p : ℕ) (Θ : Context) (t : Tree) : Type 0 where
    at : p ≡ arm_place place
    is : t ≡ arm_tree
    above : Θ ≡ Γ

  makes_arm : {p : ℕ} {σ : Phrase} {Θ : Context} (h : Head) (b c : Tree) → Stands game p σ Θ (Node h b c) → (y : ℕ) → made_by h b (Variable y) ≡ true → is_bound a.binders y ≡ true → IsArm p Θ (Node h b c)
  makes_arm {p = p} {σ = σ} {Θ = Θ} h b c st y m bound =
      let own : picks.xs s place ms d e next k ready i y ≡ true = picks.own_is s place ms d e next k ready i y ∙ bound in
      let o = made_other h b y m in
      let here : p ≡ arm_place place =
      only_there g game (picks.fine s place ms d e next k ready i) (picks.xs s place ms d e next k ready i) cs (arm_place place) (picks.behind s place ms d e next k ready i) (picks.cells_are s place ms d e next k ready i) k.named st y m own in
      record {
        at = here;
        is = sym (part_there game p σ Θ h b c st o.0) ∙ (ap (part_at game) here ∙ arm_part);
        above = one_context Θ Γ (sym (stands_known game p σ Θ (Node h b c) o.0 st) ∙ (ap (known_at game) here ∙ arm_known));
      }

  -- the terms have values at each copy of the `find`

  pub names_readable : (at : Indices) (m : Store) (es : List Happened) → Matches g var Γ.replications at → Holds g var Γ at m es → AllTerms (λ t. Readable g var at m t) ms
  names_readable at m es matches holds =
      terms_both (λ t. is_phrase Term t ≡ true) (λ t. is_in_scope (game_names g var) Γ t ≡ true) (λ t. Readable g var at m t)
      (λ t p q. let o = oracle_of Term t p in scope_readable g var Γ at m es matches holds t o (scope_asked (game_names g var) Γ t o q)) ms typed (picks.scoped s place ms d e next k ready i)

  -- what is known in the body, known at the `find`
  above_holds : (at : Indices) (m : Store) (es : List Happened) → Holds g var Δ at m es → Holds g var Γ at m es
  above_holds at m es h = record {
    cells = AllByRecursion_left (CellHolds g var at m) Γ.cells (items a.cells) (AllByRecursion_left (CellHolds g var at m) (Γ.cells ++ items a.cells) _ h.cells);
    own = AllByRecursion_left (CellHolds g var at m) Γ.own (cells_of Γ.replications a.binders) (AllByRecursion_right (CellHolds g var at m) (Γ.cells ++ items a.cells) _ h.cells);
    facts = AllByRecursion_left _ Γ.facts _ h.facts;
    events = h.events;
  }

  own_hold : (at : Indices) (m : Store) (es : List Happened) → Holds g var Δ at m es → AllByRecursion (CellHolds g var at m) cs
  own_hold at m es h =
      subst (λ qs. AllByRecursion (CellHolds g var at m) (cells_of qs a.binders)) (sym (picks.same_replications s place ms d e next k ready i))
      (AllByRecursion_right (CellHolds g var at m) Γ.own (cells_of Γ.replications a.binders) (AllByRecursion_right (CellHolds g var at m) (Γ.cells ++ items a.cells) _ h.cells))

  -- Where an index variable was assigned the body was entered. Then the derivation holds as the body is visited, and what it ends with is
  -- kept to the end of the run.

  body_there : second_place (second_place (second_place (arm_place place) Branch a.binders) Cons a.cells) Cons a.condition ≡ body
  body_there = omega arith

  body_visit : (t : Tape) (V : Visit → Type 0) (b : Tree) (p j : ℕ) (vs : List ℕ) (l : Local) → b ≡ arm_tree → p ≡ arm_place place → AllByRecursion V (visits g t b p j vs l) → V (record { place = body; tree = a.body; before = with_bound l a.binders vs })
  unfolding visits step
  body_visit t V b p j vs l same here w =
      let there : AllByRecursion V (visits g t arm_tree (arm_place place) j vs l) = subst (λ q. AllByRecursion V (visits g t arm_tree q j vs l)) here (subst (λ c. AllByRecursion V (visits g t c p j vs l)) same w) in
      subst (λ q. V (record { place = q; tree = a.body; before = with_bound l a.binders vs })) body_there
      (first_visit g t V a.body (second_place (second_place (second_place (arm_place place) Branch a.binders) Cons a.cells) Cons a.condition) 0 [] (with_bound l a.binders vs) (picks.body_output_there s place ms d e next k ready i) there.1.1.1)

  record IsEntered (last : Memory) (u : List ℕ) : Type 0 where
    state : Local
    at : tuple state.indices ≡ u
    known : IsKnown s i ready last (record { place = body; tree = a.body; before = state })

  entered : (t : Tape) (last : Memory) (y : ℕ) (u : List ℕ) → is_bound a.binders y ≡ true → IsMade g t (IsKnown s i ready last) y u → IsEntered last u
  unfolding visits
  entered t last y u b z =
      let r = makes_arm z.head z.one z.two z.visited.0.holds.stands y z.makes b in
      record { state = with_bound z.before a.binders z.bound; at = z.at; known = body_visit t (IsKnown s i ready last) (Node z.head z.one z.two) z.place z.number z.bound z.before r.is r.at z.visited }

  own_readable : (at : Indices) (m : Store) (es : List Happened) → Holds g var Δ at m es → AllByRecursion (λ t. Readable g var at m t) cs
  own_readable at m es h = AllByRecursion_weaker (CellHolds g var at m) (λ t. Readable g var at m t) (λ t c. c.readable) cs (own_hold at m es h)

  body_readable : (at : Indices) (m : Store) (es : List Happened) → Matches g var Γ.replications at → Holds g var Δ at m es → AllTerms (λ t. Readable g var at m t) ms
  body_readable at m es matches h = names_readable at m es matches (above_holds at m es h)

  equal_at_end : (last : Memory) (first : Indices) → AreIndicesOf g first Γ.replications → IsEntered last (tuple first) → AllBoth (λ c t. value g first last.store c ≡ value g first last.store t) cs ms
  equal_at_end last first named z =
      let at : Indices = z.state.indices in
      let m : Store = z.state.memory.store in
      let n : Store = last.store in
      let h = z.known.holds in
      let syntax = picks.body_syntax s place ms d e next k ready i in
      let above : h.above ≡ Δ = one_context h.above Δ (sym (stands_known game body h.phrase h.above a.body syntax h.stands) ∙ body_known) in
      let matches : Matches g var Δ.replications at = subst (λ (Ξ : Context). Matches g var Ξ.replications at) above h.matches in
      let holds : Holds g var Δ at m z.state.memory.events = subst (λ (Ξ : Context). Holds g var Ξ at m z.state.memory.events) above h.holds in
      let derived : AllBoth (λ c t. value g at m c ≡ value g at m t) cs ms = equations_true g at m cs ms (sound.targets s i body at m m d (equations cs ms) (z.known.derived syntax).0 k.at_body) in
      let ext : Extends g var at m at n = store_extends g var at m n z.known.kept in
      subst (λ q. AllBoth (λ c t. value g q n c ≡ value g q n t) cs ms) (same_copies g at first Γ.replications matches.named named z.at)
      (carried (λ p t. value g at m p ≡ value g at m t) (λ t. Readable g var at m t) (λ p t. value g at n p ≡ value g at n t)
      (λ p t e q r. value_kept g var at m at n ext p q ∙ (e ∙ sym (value_kept g var at m at n ext t r))) cs ms derived
      (own_readable at m z.state.memory.events holds) (body_readable at m z.state.memory.events matches holds))

  -- at a visit behind the branch

  module _ (v : Visit) (x : IsExpected s i ready v) (σ : Phrase) (Θ : Context) (st : Stands game v.place σ Θ v.tree) (below : IsBelow Δ Θ) (syn : IsSyntax v.tree) where
    abbrev at : Indices
    at = v.before.indices

    abbrev m : Store
    m = v.before.memory.store

    one : x.holds.above ≡ Θ
    one = one_context x.holds.above Θ (sym (stands_known game v.place x.holds.phrase x.holds.above v.tree syn x.holds.stands) ∙ stands_known game v.place σ Θ v.tree syn st)

    matches : Matches g var Θ.replications at
    matches = subst (λ (Ξ : Context). Matches g var Ξ.replications at) one x.holds.matches

    holds : Holds g var Θ at m v.before.memory.events
    holds = subst (λ (Ξ : Context). Holds g var Ξ at m v.before.memory.events) one x.holds.holds

    copy : Split g at Γ.replications
    copy = split g at Γ.replications below.more (subst (AreIndicesOf g at) below.replications matches.named)

    abbrev first : Indices
    first = copy.first

    -- the copy of the branch that assigned an index variable
    record IsCopy (y : ℕ) : Type 0 where
      amount : ℕ
      assigned : m y (tuple first) ≡ Some amount
      matches : Matches g var Γ.replications first
      holds : Holds g var Δ first m v.before.memory.events

    copy_at : (y : ℕ) → is_bound a.binders y ≡ true → (n : ℕ) → m y (tuple first) ≡ Some n → SiteHolds g var game (picks.fine s place ms d e next k ready i) y (tuple first) n m v.before.memory.events → IsCopy y
    copy_at y b n e z =
        let r = makes_arm z.head z.one z.two z.stands y z.defines b in
        let after : after_of (Node z.head z.one z.two) z.above ≡ after_of arm_tree Γ = ap₂ after_of r.is r.above in
        let matched : Matches g var Δ.replications z.indices = subst (λ (Ξ : Context). Matches g var Ξ.replications z.indices) after z.matches in
        let held : Holds g var Δ z.indices m v.before.memory.events = subst (λ (Ξ : Context). Holds g var Ξ z.indices m v.before.memory.events) after z.holds in
        let same : z.indices ≡ first = same_copies g z.indices first Γ.replications matched.named copy.named z.at in
        record {
          amount = n;
          assigned = e;
          matches = subst (λ q. Matches g var Γ.replications q) same matched;
          holds = subst (λ q. Holds g var Δ q m v.before.memory.events) same held;
        }

    copy_of : (y : ℕ) → is_bound a.binders y ≡ true → IsAmong (cell_of Γ.replications y) Δ.cells → IsCopy y
    copy_of y b among =
        let cell : CellHolds g var at m (cell_of Γ.replications y) = among_holds (CellHolds g var at m) (cell_of Γ.replications y) Θ.cells (below.cells (cell_of Γ.replications y) among) holds.cells in
        let some = some_of (m y (tuple first)) (assigned_there g var at Γ.replications Θ.replications matches copy m y cell.assigned) in
        copy_at y b some.0 some.1 (x.holds.stores y (tuple first) some.0 some.1)

    -- the equations hold at that copy
    derived_there : (y : ℕ) → is_bound a.binders y ≡ true → IsCopy y → AllBoth (λ c t. value g first m c ≡ value g first m t) cs ms
    derived_there y b c =
        let w : WasMade s i ready v.before.memory y (tuple first) = x.made y (tuple first) c.amount c.assigned in
        let n : Store = w.last.store in
        let ext : Extends g var first m first n = store_extends g var first m n w.kept in
        carried (λ p t. value g first n p ≡ value g first n t) (λ t. Readable g var first m t) (λ p t. value g first m p ≡ value g first m t)
        (λ p t e q r. sym (value_kept g var first m first n ext p q) ∙ (e ∙ value_kept g var first m first n ext t r)) cs ms
        (equal_at_end w.last first copy.named (entered w.tape w.last y (tuple first) b w.made)) (own_readable first m v.before.memory.events c.holds)
        (body_readable first m v.before.memory.events c.matches c.holds)

    by_copy : (n : Store) → IsKept m n → (y : ℕ) → is_bound a.binders y ≡ true → IsCopy y → AllBoth (λ c t. value g at n c ≡ value g at n t) cs ms
    by_copy n kept y b c =
        let ext : Extends g var first m at n = extends_there g var at Γ.replications Θ.replications matches copy m n kept in
        carried (λ p t. value g first m p ≡ value g first m t) (λ t. Readable g var first m t) (λ p t. value g at n p ≡ value g at n t)
        (λ p t e q r. value_kept g var first m at n ext p q ∙ (e ∙ sym (value_kept g var first m at n ext t r))) cs ms (derived_there y b c)
        (own_readable first m v.before.memory.events c.holds) (body_readable first m v.before.memory.events c.matches c.holds)

    pub equal_there : (n : Store) → IsKept m n → AllBoth (λ c t. value g at n c ≡ value g at n t) cs ms
    equal_there n kept = go (bound_names a.binders) refl
      where
        go : (ys : List ℕ) → bound_names a.binders ≡ ys → AllBoth (λ c t. value g at n c ≡ value g at n t) cs ms
        go [] f = subst (λ zs. AllBoth (λ c t. value g at n c ≡ value g at n t) (map (cell_of (picks.rs s place ms d e next k ready i)) zs) ms) (sym f) tt
        go (y ∷ ys) f =
            let b = first_bound a.binders y ys f in
            let among : IsAmong (cell_of Γ.replications y) (cells_of Γ.replications a.binders) = subst (λ zs. IsAmong (cell_of Γ.replications y) (map (cell_of Γ.replications) zs)) (sym f) (inl refl) in
            by_copy n kept y b (copy_of y b (among_right (cell_of Γ.replications y) (Γ.cells ++ items a.cells) _ (among_right (cell_of Γ.replications y) Γ.own _ among)))
