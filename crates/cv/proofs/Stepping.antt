-- Each step of a course is close by itself: it is a link behind a chain, and its advantage is that of its context.
use Rattle.std.proofs.Common.{◌≡◌, ℕ, zero, suc, ◌≤◌, List, [], ◌∷◌, ◌++◌, length, map, drop, take, refl, ap, sym, ◌∙◌, subst, arith, mul-pos, Option, Some, None, Ok, inl, inr}
use Rattle.std.specs.Prelude.{IfSome, MatchOption, option_map, slice_get}
use Rattle.cv_syntax.specs.declared.work.File.{File}
use Rattle.cv_syntax_trees.specs.Declarations.{Declaration}
use Rattle.cv_syntax_trees.specs.Tree.{Tree}
use Rattle.cv_library.specs.Givens.{Given}
use Rattle.cv_accept.specs.Accepted.{Content, read_of, most_bytes}
use Rattle.cv_sequences.proofs.files.Ready.{file_of, taped, valued}
use Rattle.cv_derive_laws.specs.stores.Soundness.{DerivationsHold, DerivedBodiesAreUnreached}
use Rattle.cv_steps.proofs.values.Adding.{factor_positive}
use Rattle.cv_kernel.specs.Followed.{known_to}
use Rattle.cv_kernel.proofs.StepKinds.{kind_of}
use Rattle.cv_kernel.specs.Closings.{closing_in}
use Rattle.cv_kernel.specs.Proofs.{IsProof, IsTransition, Transition, closed_by}
use Rattle.cv_meaning.specs.Advantage.{chance_of}
use Rattle.cv_meaning.specs.Chances.{Chance}
use Rattle.cv_meaning.specs.Experiments.{Experiment, mode_of}
use Rattle.cv_meaning.specs.Interpretation.{Interpretation, setting_of}
use Rattle.cv_meaning.specs.Runs.{Adversary}
use Rattle.cv_meaning.specs.Satisfies.{Satisfies}
use Rattle.cv_meaning_chances.specs.Fractions.{HasTapes}
use Rattle.cv_meaning_chances.specs.values.Values.{HasValuesIn}
use Rattle.cv_meaning.specs.contexts.ContextAdvantage.{context_chance}
use Rattle.cv_meaning.specs.contexts.Groups.{Left, Right}
use Rattle.cv_accept.specs.Accepted.{most_pool}
use Rattle.cv_report.specs.declared.report.Report.{Report}
use Rattle.cv_scene.specs.Reductions.{context_of_game}
use Rattle.cv_scene.specs.Scenes.{Scene}
use Rattle.cv_script.specs.Views.{items_of_step}
use Rattle.cv_sequences.specs.Chains.{ByEquivalence, ByStep, IsClose, IsFileOf, IsLink, Link, cost_behind, next_behind}
use Rattle.cv_sequences.proofs.Chains.{link_close, valued as valued_along}
use Rattle.cv_sequences.proofs.secrets.Alike.{left_positive}
use Rattle.cv_steps.specs.Sequences.{scene}
use Rattle.cv_sequences.proofs.costs.Costs.{cost_worth}
use Rattle.cv_steps.specs.Steps.{Collisions, Zero}
use Rattle.cv_steps_laws.specs.crypto.Steps.{reduction_of}
use Rattle.cv_steps_laws.proofs.crypto.Accepted.{accepted}
use Rattle.cv.specs.Contexts.{contexts_along, contexts_of}
use Rattle.cv.specs.Runs.{HasRun}
use Rattle.cv.specs.Steps.{AreCloseSteps, AreEqual, AreOfCost, HasCloseSteps, IsCloseStep}
use Rattle.cv_follow.specs.Courses.{Course}
use Rattle.cv.specs.Strategy.{Leads, declared_in, file_in, game_in}
use Rattle.cv.specs.Values.{Contexts, advantage_of, advantages_in}
use Rattle.cv.proofs.Faithful.{HasContext, along_is, context_numbered, link_of, links_of, price_of, stands_in}
use Rattle.cv.proofs.Taped.{HaveTapedContexts, HaveValues}

-- what stands at a place stands between what is before and behind it
pub split_at : (ts : List Transition) (k : ℕ) (t : Transition) → slice_get ts k ≡ Some t → take k ts ++ t ∷ drop (suc k) ts ≡ ts
split_at [] k t e = absurd (cc)
split_at (u ∷ ts) zero t e = let f : u ≡ t = cc in ap (λ x. x ∷ ts) (sym f)
split_at (u ∷ ts) (suc k) t e = ap (λ xs. u ∷ xs) (split_at ts k t e)

module _ (ds : List Declaration) (own : ℕ) (first : Tree) (w : IsFileOf ds own first) (values : HaveValues ds first) (taped : HaveTapedContexts ds own) where
  abbrev at : Tree → Scene
  at game = scene ds (known_to own) game

  -- a link that is close is as its cost says, with its context
  module _ (cs : Contexts) (i : Interpretation) (sat : Satisfies ds i) (x : Experiment) (a : Adversary) where
    abbrev chance_in : Tree → Chance
    chance_in game = chance_of (setting_of ds i) x a game

    of_cost : (game : Tree) (l : Link) → HasContext cs (at game) l → IsLink (at game) l → HasValuesIn (setting_of ds i) (mode_of x) game → IsClose (at game) i x a l → AreOfCost ds i cs x a (cost_behind l) (chance_in game) (chance_in (next_behind l))
    of_cost game (ByStep step Zero next) h o v k = ((k.before, k.behind, omega arith, k.within (advantages_in ds i cs x a) tt), (k.before, k.behind, k.sides))
    of_cost game (ByStep step (Collisions c) next) h o v k =
        let worth = subst HasTapes (sym (cost_worth i (advantages_in ds i cs x a) (Collisions c))) k.sides.0 in
        ((k.before, k.behind, worth, k.within (advantages_in ds i cs x a) tt), (k.before, k.behind, k.sides.0, k.sides.1))
    of_cost game (ByEquivalence n e key next) h o v k =
        let y = accepted (at game) e key next o in
        let c = context_of_game (reduction_of (at game) y.equivalence key) in
        let there = h y.equivalence y.is_equivalence in
        let priced = price_of ds own cs i x a (advantages_in ds i cs x a) (λ m. refl) game (ByEquivalence n e key next) h in
        let all = taped game e y.equivalence key y.is_equivalence i sat x a v in
        let worth = subst (λ o. HasTapes (advantage_of ds i x a o)) (sym there) all in
        let both = k.sides y.equivalence y.is_equivalence in (
          (k.before, k.behind, mul-pos worth (omega arith), k.within (advantages_in ds i cs x a) priced),
          subst (λ o. MatchOption o ⊥ (λ d. AreEqual (chance_in game) (context_chance ds i d Left x a) × AreEqual (chance_in next) (context_chance ds i d Right x a))) (sym there) (
            (k.before, left_positive (context_chance ds i c Left x a).all (context_chance ds i c Right x a).all all, both.0),
            (k.behind, factor_positive (context_chance ds i c Left x a).all (context_chance ds i c Right x a).all all, both.1),
          ),
        )

  -- so is each step of a proof that changes the game
  pub close_step : (before : List Transition) (game : Tree) → IsProof ds (known_to own) first before game → (t : Transition) (rest : List Transition) → closing_in t.step ≡ None → IsTransition ds (known_to own) (suc (length before)) (closed_by before) game t
      → IsCloseStep ds (contexts_along ds own 1 first (before ++ t ∷ rest)) game t.next t.cost
  close_step before game p t rest n j = λ i sat x q a.
      let cs = contexts_along ds own 1 first (before ++ t ∷ rest) in
      let h = links_of ds own first before game p (t ∷ rest) in
      let k = link_of ds own cs (suc (length before)) (closed_by before) game t n (context_numbered ds own first before game p t rest) j (kind_of (items_of_step t.step)) in
      let v = values i sat x q in
      subst (λ next. AreOfCost ds i cs x a t.cost (chance_of (setting_of ds i) x a game) (chance_of (setting_of ds i) x a next)) k.next
      (subst (λ cost. AreOfCost ds i cs x a cost (chance_of (setting_of ds i) x a game) (chance_of (setting_of ds i) x a (next_behind k.link))) (sym k.costs)
      (of_cost cs i sat x a game k.link k.context k.leads (valued_along ds own first w i sat x q v h.links game h.chain) (link_close ds own first w i sat x q v a h.links game h.chain k.link k.leads)))

-- the steps of a course of a file that was read

abbrev HasStepsFrom : List Declaration → (own : ℕ) → Tree → Type 0
HasStepsFrom ds own first =
    (before : List Transition) (game : Tree) → IsProof ds (known_to own) first before game → (t : Transition) (rest : List Transition) → closing_in t.step ≡ None → IsTransition ds (known_to own) (suc (length before)) (closed_by before) game t
    → IsCloseStep ds (contexts_along ds own 1 first (before ++ t ∷ rest)) game t.next t.cost

module _ (holds : (ds : List Declaration) → DerivationsHold ds) (unreached : (ds : List Declaration) → DerivedBodiesAreUnreached ds) (c : Content) (f : File) (r : Report) (source : Given) (reads : read_of most_pool source ≡ Ok c) (few : length source.bytes ≤ most_bytes) where
  content_steps : HasStepsFrom c.declarations c.own c.game
  content_steps =
      let w = file_of source c reads holds unreached few in
      close_step c.declarations c.own c.game w (valued source c reads w.ready) (taped source c reads)

  steps_step : file_in r f (length c.names) ≡ c → (course : Course) → Leads r f course → AreCloseSteps r f course
  steps_step held course p k t at n =
      let ds = declared_in r in
      let own = r.work.decls.own in
      let first = game_in r f in
      let ts = course.proof in
      let s = stands_in ds (known_to own) first ts course.last p k t at in
      let here = subst (λ (d : Content). HasStepsFrom d.declarations d.own d.game) (sym held) content_steps in
      let alone = here (take k ts) s.game s.before t (drop (suc k) ts) n s.here in
      let among = subst (λ us. IsCloseStep ds (contexts_along ds own 1 first us) s.game t.next t.cost) (split_at ts k t at) alone in
      subst (λ game. IsCloseStep ds (contexts_of r f course) game t.next t.cost) (sym (along_is ds own first (take k ts) s.game s.before)) among

  pub run_steps : (course : Course) → HasRun c f r course → HasCloseSteps r
  run_steps course h = subst (λ (o : Option File). IfSome o (λ g. (k : Course) → Leads r g k → AreCloseSteps r g k)) (sym h.file) (steps_step h.content)
