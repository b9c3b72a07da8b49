-- The calls of each step's context are bounded by its line: the context is that of a game that nothing refuses.
use Rattle.std.proofs.Common.{◌≡◌, ℕ, zero, suc, List, [], ◌∷◌, ◌++◌, length, drop, take, refl, ap, sym, ◌∙◌, subst, Option, Some, None, Ok, ◌≤◌, inl, inr}
use Rattle.std.specs.Prelude.{IfSome, MatchOption, option_map, slice_get}
use Rattle.cv_syntax.specs.declared.work.File.{File}
use Rattle.cv_syntax_trees.specs.Declarations.{Declaration}
use Rattle.cv_syntax_trees.specs.Tree.{Tree}
use Rattle.cv_library.specs.Givens.{Given}
use Rattle.cv_accept.specs.Accepted.{Content, most_bytes, most_pool, read_of}
use Rattle.cv_sequences.proofs.files.Ready.{file_of}
use Rattle.cv_context.specs.products.Shapes.{Shape, shape_of}
use Rattle.cv_context_files.proofs.counts.Runs.{runs}
use Rattle.cv_context_left_side.specs.refusals.Reducible.{IsReducible}
use Rattle.cv_derive_laws.specs.stores.Soundness.{DerivationsHold, DerivedBodiesAreUnreached}
use Rattle.cv_kernel.specs.Followed.{known_to}
use Rattle.cv_kernel.proofs.StepKinds.{reduction}
use Rattle.cv_kernel.specs.Proofs.{IsProof, IsTransition, Transition, closed_by, shape_by}
use Rattle.cv_kernel.specs.Sayings.{Accepted, MaySay}
use Rattle.cv_match_laws.proofs.answers.Many.{are_answers}
use Rattle.cv_meaning.specs.Interpretation.{setting_with}
use Rattle.cv_meaning.specs.contexts.Sides.{side_of}
use Rattle.cv_report.specs.declared.report.Report.{Report}
use Rattle.cv_scene.specs.Reductions.{context_of_game}
use Rattle.cv_scene.specs.Scenes.{Scene}
use Rattle.cv_script.specs.Views.{StepItems, items_of_step}
use Rattle.cv_script.specs.Views as items
use Rattle.cv_sequences.specs.Chains.{IsChain, IsFileOf, Link}
use Rattle.cv_sequences.proofs.Chains.{games_ready}
use Rattle.cv_sequences.proofs.Tested.{unrefused}
use Rattle.cv_steps.specs.Sequences.{scene}
use Rattle.cv_steps_laws.specs.crypto.Conditions.{equivalence_of, failure_of}
use Rattle.cv_steps_laws.specs.crypto.Steps.{first_answer, reduction_of}
use Rattle.cv_steps_laws.proofs.crypto.Accepted.{accepted}
use Rattle.cv.specs.Calls.{AreBounded, AreBoundedCalls, HasBoundedCalls}
use Rattle.cv.specs.Contexts.{contexts_along}
use Rattle.cv.specs.Runs.{HasRun}
use Rattle.cv_follow.specs.Courses.{Course}
use Rattle.cv.specs.Strategy.{Leads, declared_in, file_in, game_in}
use Rattle.cv.specs.Values.{Contexts, context_of}
use Rattle.cv.proofs.Faithful.{context_numbered, links_of, named_context, stands_in}
use Rattle.cv.proofs.Stepping.{split_at}

-- what stands at a place has so many before it
before_it : (ts : List Transition) (k : ℕ) (t : Transition) → slice_get ts k ≡ Some t → length (take k ts) ≡ k
before_it [] k t e = absurd (cc)
before_it (u ∷ ts) zero t e = refl
before_it (u ∷ ts) (suc k) t e = ap suc (before_it ts k t e)

abbrev Bounds : List Declaration → Contexts → (step : ℕ) → Shape → Type 0
Bounds ds cs step h = MatchOption (context_of cs step) ⊥ (AreBounded ds h)

module _ (ds : List Declaration) (own : ℕ) (first : Tree) (w : IsFileOf ds own first) where
  abbrev at : Tree → Scene
  at game = scene ds (known_to own) game

  reducible : (links : List Link) (game : Tree) → IsChain ds (known_to own) first links game → (e x : ℕ) (t : Tree) → equivalence_of (at game) e ≡ Some t → failure_of (at game) e x ≡ None → IsReducible (reduction_of (at game) t x)
  reducible links game c e x t is f =
      let q = w.equivalences e t is in
      let g = games_ready ds own first w links game c in
      record {
        formed = g.formed;
        typed = g.typed;
        names = g.names;
        form = q.left;
        accepted = q.accepted;
        allowed = unrefused (at game) e x t is f;
        answers = are_answers ds own first_answer game _ w.names w.known_queries w.known_constants;
      }

  pub bounded : (before : List Transition) (game : Tree) → IsProof ds (known_to own) first before game → (t : Transition) (rest : List Transition) → IsTransition ds (known_to own) (suc (length before)) (closed_by before) game t
      → (h : Shape) → t.context ≡ Some h → Bounds ds (contexts_along ds own 1 first (before ++ t ∷ rest)) (suc (length before)) h
  bounded before game p t rest j h e = by_items (items_of_step t.step) refl (sym j.context ∙ e)
    where
      cs : Contexts
      cs = contexts_along ds own 1 first (before ++ t ∷ rest)

      some_shape : (g s : Shape) → ◌≡◌ {A = Option Shape} (Some g) (Some s) → g ≡ s
      some_shape g s q = cc

      by_equivalence : (n x : ℕ) → items_of_step t.step ≡ Some (items.Crypto n x) → (o : Option Tree) → equivalence_of (at game) n ≡ o → option_map (λ y. shape_of (at game) y x) o ≡ Some h → Bounds ds cs (suc (length before)) h
      by_equivalence n x q None is s = absurd (cc)
      by_equivalence n x q (Some y) is s =
          let r = reduction_of (at game) y x in
          let c = context_of_game r in
          let there = context_numbered ds own first before game p t rest c (named_context ds own game t.step n x q ∙ ap (option_map (λ z. context_of_game (reduction_of (at game) z x))) is) in
          let leads = (reduction (at game) (closed_by before) (suc (length before)) n x t.step t.next t.cost (subst (λ o. MaySay (at game) (closed_by before) (suc (length before)) t.step o (Accepted t.next t.cost)) q j.accepted)).leads in
          let links = links_of ds own first before game p (t ∷ rest) in
          let whole = reducible links.links game links.chain n x y is (accepted (at game) n x t.next leads).failure in
          subst (λ o. MatchOption o ⊥ (AreBounded ds h)) (sym there)
          (subst (λ z. AreBounded ds z c) (some_shape (shape_of (at game) y x) h s) (λ i which m a tape. runs r whole (setting_with ds i (side_of ds i c which)) m a tape refl))

      by_items : (o : Option StepItems) → items_of_step t.step ≡ o → shape_by (at game) o ≡ Some h → Bounds ds cs (suc (length before)) h
      by_items (Some (items.Crypto n x)) q s = by_equivalence n x q (equivalence_of (at game) n) refl s
      by_items o q s = absurd (cc)

-- the lines of a course of a file that was read

abbrev HasBoundsFrom : List Declaration → (own : ℕ) → Tree → Type 0
HasBoundsFrom ds own first =
    (before : List Transition) (game : Tree) → IsProof ds (known_to own) first before game → (t : Transition) (rest : List Transition) → IsTransition ds (known_to own) (suc (length before)) (closed_by before) game t
    → (h : Shape) → t.context ≡ Some h → Bounds ds (contexts_along ds own 1 first (before ++ t ∷ rest)) (suc (length before)) h

module _ (holds : (ds : List Declaration) → DerivationsHold ds) (unreached : (ds : List Declaration) → DerivedBodiesAreUnreached ds) (c : Content) (f : File) (r : Report) (source : Given) (reads : read_of most_pool source ≡ Ok c) (few : length source.bytes ≤ most_bytes) where
  content_bounds : HasBoundsFrom c.declarations c.own c.game
  content_bounds = bounded c.declarations c.own c.game (file_of source c reads holds unreached few)

  steps_calls : file_in r f (length c.names) ≡ c → (course : Course) → Leads r f course → AreBoundedCalls r f course
  steps_calls held course p k t h at e =
      let ds = declared_in r in
      let own = r.work.decls.own in
      let first = game_in r f in
      let ts = course.proof in
      let s = stands_in ds (known_to own) first ts course.last p k t at in
      let here = subst (λ (d : Content). HasBoundsFrom d.declarations d.own d.game) (sym held) content_bounds in
      let alone = here (take k ts) s.game s.before t (drop (suc k) ts) s.here h e in
      let among = subst (λ us. Bounds ds (contexts_along ds own 1 first us) (suc (length (take k ts))) h) (split_at ts k t at) alone in
      subst (λ n. Bounds ds (contexts_along ds own 1 first ts) (suc n) h) (before_it ts k t at) among

  pub run_calls : (course : Course) → HasRun c f r course → HasBoundedCalls r
  run_calls course h = subst (λ (o : Option File). IfSome o (λ g. (k : Course) → Leads r g k → AreBoundedCalls r g k)) (sym h.file) (steps_calls h.content)
