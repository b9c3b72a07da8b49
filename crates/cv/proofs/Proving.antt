-- A query that a proof closes holds up to its sum.
use Rattle.std.proofs.Common.{◌≡◌, ℕ, suc, ◌+◌, ◌≤◌, Bool, true, false, if◌then◌else◌, List, [], length, drop, take, refl, ap, ap₂, sym, ◌∙◌, subst, arith, mul-pos, Option, Some, None, Ok}
use Rattle.std.specs.Prelude.{Contains, IfSome, slice_get}
use Rattle.std.proofs.lemmas.Bool.{both_ways}
use Rattle.std.proofs.lemmas.List.{take-append-drop}
use Rattle.cv_syntax_trees.specs.declared.head.Head.TheVariants.{EventsCertificate, Query, Secret, SecretCertificate, SecretOnce}
use Rattle.cv_syntax_trees.specs.Declarations.{Declaration}
use Rattle.cv_syntax_trees.specs.Tree.{Tree, Empty, Node, lone}
use Rattle.cv_bound.specs.declared.terms.Term.{Term}
use Rattle.cv_bound.specs.Sums.{added}
use Rattle.cv_steps.specs.values.Values.{cost_value, sum_value}
use Rattle.cv_steps.specs.Costs.{cost_of}
use Rattle.cv_steps.proofs.values.Adding.{tapes_are_kept}
use Rattle.cv_derive_laws.specs.stores.Costs.{bound_of}
use Rattle.cv_costs.specs.Certificates.{cost_of_certificate}
use Rattle.cv_meaning.specs.Advantage.{advantage, chance_of, secrecy, secrecy_query}
use Rattle.cv_meaning.specs.Chances.{AtMost, zero_chance}
use Rattle.cv_meaning.specs.Experiments.{Breaks, Experiment, Guesses}
use Rattle.cv_meaning.specs.Interpretation.{Interpretation, setting_of}
use Rattle.cv_meaning.specs.Runs.{Adversary, Random, Real}
use Rattle.cv_meaning.specs.Satisfies.{Satisfies}
use Rattle.cv_meaning_chances.specs.Fractions.{HasTapes}
use Rattle.cv_meaning.specs.Queries.{queries_in}
use Rattle.cv_query_certificates.specs.Accepted.{IsAccepted, IsEventsProof, IsSecretProof}
use Rattle.cv_query_certificates.specs.Failures.{first_failure}
use Rattle.cv_library.specs.Givens.{Given}
use Rattle.cv_accept.specs.Accepted.{Content, read_of, most_bytes}
use Rattle.cv_parse.proofs.Exactness.{says_is_said}
use Rattle.cv_parse_sorts.proofs.queries.Closed.{queries_closed}
use Rattle.cv_parse_tables.specs.terminals.Signs.{signs_of}
use Rattle.cv_accept.specs.Accepted.{most_pool}
use Rattle.cv_report.specs.declared.report.Report.{Report}
use Rattle.cv_syntax.specs.declared.work.File.{File}
use Rattle.cv_query.specs.kinds.Closed.{HasClosedQueries, IsClosedQuery}
use Rattle.cv_query_laws.specs.correspondences.Premises.{IsProved}
use Rattle.cv_scene.specs.Scenes.{Scene}
use Rattle.cv_scene.specs.Sights.{from_one}
use Rattle.cv_derive_laws.specs.stores.Holding.{IsReady}
use Rattle.cv_derive_laws.specs.stores.Soundness.{DerivationsHold, DerivedBodiesAreUnreached}
use Rattle.cv_steps.specs.Sequences.{scene}
use Rattle.cv_sequences.specs.Chains.{IsChain, IsFileOf, Link, costs_behind, summed}
use Rattle.cv_sequences.proofs.Chains.{games_ready, taped as taped_sum}
use Rattle.cv_sequences.proofs.bounds.Bounds.{carried_cost}
use Rattle.cv_sequences.proofs.costs.Costs.{cost_worth}
use Rattle.cv_bound.specs.declared.cost.Cost.TheVariants as bound
use Rattle.cv_bound.specs.declared.terms.Experiment.{Experiment as TermExperiment}
use Rattle.cv_bound.specs.declared.terms.Experiment.TheVariants as term
use Rattle.cv_bound.specs.costs.Sums.{no_sums, sum_for, with_cost}
use Rattle.cv_sequences.proofs.secrets.Sums.{plain}
use Rattle.cv_sequences.proofs.secrets.Secrets.{carried as carried_secret, taped as taped_secret, valued}
use Rattle.cv_meaning.specs.Correspondences.{Correspondence, correspondence_of}
use Rattle.cv_query_form.specs.Rules.{AreAsked, MayBeAsked}
use Rattle.cv_accept.proofs.Readings.{accepted}
use Rattle.cv.proofs.Closers.{Closes, closed_at, contains_at, first_closing, verdict_at}
use Rattle.cv_bound.specs.closings.Queries.{is_among}
use Rattle.cv_kernel.specs.Closings.{Closing, closing_failure, closing_in, is_secret}
use Rattle.cv_kernel.specs.Proofs.{IsProof, IsTransition, Transition, closed_by, sum_of}
use Rattle.cv.specs.Contexts.{contexts_along}
use Rattle.cv.specs.Runs.{HasRun}
use Rattle.cv_follow.specs.Courses.{Course}
use Rattle.cv_kernel.specs.Followed.{known_to, sums_along}
use Rattle.cv_follow.specs.Scripts.{verdicts_of}
use Rattle.cv.specs.Strategy.{HasVerdicts, HoldsAlong, IsSound, Leads, TakesSteps, declared_in, file_in}
use Rattle.cv.specs.Strategy as strategy
use Rattle.cv.specs.Values.{Contexts, advantage_of, advantages_of, context_of, is_once, secret_of, value_of}
use Rattle.cv_kernel.proofs.Closings.{nothing_more}
use Rattle.cv.proofs.Taped.{HaveTapedContexts, HaveValues, advantages_of_file, taped_prices}
use Rattle.cv.proofs.Costing.{AreDecided, AreNumbers, asked_query}
use Rattle.cv.proofs.Faithful.{HasLinks, StandsIn, cost_for, links_of, prices, stands_in}
use Rattle.cv_kernel.proofs.StepKinds.{IsClosure, closure}
use Rattle.cv_sequences.proofs.files.Ready.{events_valued, file, file_of, taped, valued as valued_file}

-- what laws say of certificates that are accepted

abbrev pub AreWithinCosts : Type 0
AreWithinCosts = (s : Scene) (query certificate : Tree) → IsProved s query certificate → (i : Interpretation) → Satisfies s.declarations i → (a : Adversary) → AtMost (chance_of (setting_of s.declarations i) (Breaks query) a s.game) (bound_of i (cost_of_certificate s certificate))

abbrev pub AreSecretOfMany : Type 0
AreSecretOfMany =
    (s : Scene) (x : ℕ) (certificate : Tree) → IsReady s.declarations s.game → IsAccepted s (lone (Secret x)) certificate → (i : Interpretation) → Satisfies s.declarations i → (a : Adversary)
    → AtMost (secrecy (setting_of s.declarations i) false x a s.game) zero_chance

abbrev pub AreSecretOnce : Type 0
AreSecretOnce =
    (s : Scene) (x : ℕ) (certificate : Tree) → IsReady s.declarations s.game → IsAccepted s (lone (SecretOnce x)) certificate → (i : Interpretation) (a : Adversary)
    → AtMost (secrecy (setting_of s.declarations i) true x a s.game) zero_chance

-- a certificate of events is none of secrecy, and one of secrecy is

not_secret : (s : Scene) (q : Correspondence) (certificate : Tree) → IsEventsProof s q certificate → is_secret certificate ≡ false
not_secret s q (Node EventsCertificate parts e) h = refl
not_secret s q certificate h = absurd h

of_many : (s : Scene) (x : ℕ) (certificate : Tree) → IsSecretProof false s x certificate → is_secret certificate ≡ true
of_many s x (Node SecretCertificate parts e) h = refl
of_many s x certificate h = absurd h

of_one : (s : Scene) (x : ℕ) (certificate : Tree) → IsSecretProof true s x certificate → is_secret certificate ≡ true
of_one s x (Node SecretCertificate Empty e) h = refl
of_one s x certificate h = absurd h

-- one of secrecy costs nothing
secret_free : (s : Scene) (certificate : Tree) → is_secret certificate ≡ true → cost_of (cost_of_certificate s certificate) ≡ bound.Zero
secret_free s (Node SecretCertificate parts e) k = refl
secret_free s certificate k = absurd (both_ways _ refl k)

-- the sum's value has tapes, and no adversary has a greater advantage against the query
abbrev pub IsBounded : List Declaration → Contexts → Tree → Tree → List Term → Type 0
IsBounded ds cs game query s =
    (i : Interpretation) → Satisfies ds i → (a : Adversary)
    → HasTapes (value_of ds i cs query a s) × AtMost (advantage (setting_of ds i) query a game) (value_of ds i cs query a s)

module _ (ds : List Declaration) (own : ℕ) (first : Tree) (w : IsFileOf ds own first) (closed : HasClosedQueries ds) (asked : AreAsked first (queries_in ds))
    (values : HaveValues ds first) (taped : HaveTapedContexts ds own)
    (costs : AreWithinCosts) (numbers : AreNumbers) (for_many : AreSecretOfMany) (for_one : AreSecretOnce) (decided : AreDecided) where
  -- its certificate fails in nothing
  accepted_by : (s : Scene) (ks : List ℕ) (c : Closing) (b : Bool) → is_among ks c.query ≡ b → (if b then Some (record { condition = 1; place = 0 }) else first_failure s (from_one (queries_in s.declarations) c.query) c.certificate) ≡ None → first_failure s (from_one (queries_in s.declarations) c.query) c.certificate ≡ None
  accepted_by s ks c true n e = absurd (cc)
  accepted_by s ks c false n e = e

  abbrev at : Tree → Scene
  at game = scene ds (known_to own) game

  -- the step that closes a query keeps the game
  closes_so : (n : ℕ) (ks : List ℕ) (game : Tree) (t : Transition) (c : Closing) → closing_in t.step ≡ Some c → IsTransition ds (known_to own) n ks game t → IsClosure (at game) c (closing_failure (at game) ks c) t.next t.cost
  closes_so n ks game t c e i = closure (at game) ks n t.step c t.next t.cost e i.accepted

  -- the transition that closes a query first, in its game, with the links to it
  module _ (ts : List Transition) (last : Tree) (p : IsProof ds (known_to own) first ts last) (k : ℕ) (s : List Term) (c : Closes no_sums ts k s) where
    abbrev here : StandsIn ds (known_to own) first ts c.place c.here
    here = stands_in ds (known_to own) first ts last p c.place c.here c.there

    abbrev front : List Transition
    front = take c.place ts

    abbrev cs : Contexts
    cs = contexts_along ds own 1 first ts

    linked : HasLinks ds own first cs front here.game
    linked = subst (λ us. HasLinks ds own first (contexts_along ds own 1 first us) front here.game) (take-append-drop c.place ts) (links_of ds own first front here.game here.before (drop c.place ts))

    ready_here : (h : HasLinks ds own first cs front here.game) → IsReady ds here.game
    ready_here h = games_ready ds own first w h.links here.game h.chain

    closes : IsClosure (at here.game) c.closing (closing_failure (at here.game) (closed_by front) c.closing) c.here.next c.here.cost
    closes = closes_so (suc (length front)) (closed_by front) here.game c.here c.closing c.closes here.here

    -- a correspondence: what its certificate costs comes to the sum of the links
    breaks : (h : HasLinks ds own first cs front here.game) (query certificate : Tree) → c.closing.certificate ≡ certificate → IsProved (at here.game) query certificate → Contains (queries_in ds) query → s ≡ sum_for false (with_cost (sums_along no_sums front) c.here.cost) → (i : Interpretation) → Satisfies ds i → (a : Adversary)
        → HasTapes (value_of ds i cs query a s) × AtMost (chance_of (setting_of ds i) (Breaks query) a first) (value_of ds i cs query a s)
    breaks h query certificate same proved asks u i sat a =
        let links : List Term = summed [] (costs_behind h.links) in
        let sum : added links c.here.cost false ≡ s = ap (λ z. added z c.here.cost false) (sym (plain [] (costs_behind h.links)) ∙ h.sums false) ∙ (sym (cost_for false (sums_along no_sums front) c.here.cost) ∙ sym u) in
        let advantages = advantages_of ds i cs query a in
        let price : cost_value i advantages c.here.cost false ≡ bound_of i (cost_of_certificate (at here.game) certificate) =
        ap (λ z. cost_value i advantages z false) closes.costs
        ∙ (cost_worth i advantages (cost_of_certificate (at here.game) c.closing.certificate) ∙ ap (λ z. bound_of i (cost_of_certificate (at here.game) z)) same) in
        let number = subst HasTapes (sym price) (numbers (at here.game) query certificate proved.ready proved.accepted i sat) in
        let bounded = subst (AtMost (chance_of (setting_of ds i) (Breaks query) a here.game)) (sym price) (costs (at here.game) query certificate proved i sat a) in
        let priced = prices ds own cs i (Breaks query) a advantages (λ n. refl) first h.links h.contexts in
        let valued_along = λ (links : List Link) (game : Tree) (chain : IsChain ds (known_to own) first links game). events_valued ds game (games_ready ds own first w links game chain) i sat in
        let along = taped_sum ds (known_to own) first h.links here.game h.chain i sat advantages (taped_prices ds own first taped i sat (Breaks query) a advantages valued_along h.links here.game h.chain priced) in (
          subst (λ x. HasTapes (sum_value i advantages x)) sum (tapes_are_kept i advantages links c.here.cost false (mul-pos along number)),
          subst (λ x. AtMost (chance_of (setting_of ds i) (Breaks query) a first) (sum_value i advantages x)) sum
              (carried_cost ds own first w i sat (Breaks query) asks (events_valued ds first w.ready i sat) a advantages h.links here.game h.chain priced c.here.cost bounded),
        )

    -- a secret, whose certificate costs nothing
    guesses : (h : HasLinks ds own first cs front here.game) (one : Bool) (x : ℕ) (query : Tree) → is_once query ≡ one → secret_of query ≡ x → Contains (queries_in ds) (secrecy_query one x) → is_secret c.closing.certificate ≡ true → s ≡ sum_for true (with_cost (sums_along no_sums front) c.here.cost)
        → ((i : Interpretation) → Satisfies ds i → (a : Adversary) → AtMost (secrecy (setting_of ds i) one x a here.game) zero_chance) → (i : Interpretation) → Satisfies ds i → (a : Adversary)
        → HasTapes (value_of ds i cs query a s) × AtMost (secrecy (setting_of ds i) one x a first) (value_of ds i cs query a s)
    guesses h one x query once is asks secret u none i sat a =
        let free : with_cost (sums_along no_sums front) c.here.cost ≡ sums_along no_sums front = ap (with_cost (sums_along no_sums front)) (closes.costs ∙ secret_free (at here.game) c.closing.certificate secret) ∙ nothing_more (sums_along no_sums front) in
        let sum = h.sums true ∙ (ap (sum_for true) (sym free) ∙ sym u) in
        let advantages = advantages_of ds i cs query a in
        let shown : Experiment = Guesses (Real one x) in
        let drawn : Experiment = Guesses (Random one x) in
        let real = λ (n : ℕ) (e : TermExperiment). advantages n term.Real in
        let random = λ (n : ℕ) (e : TermExperiment). advantages n term.Random in
        let priced = prices ds own cs i shown a real (λ n. ap₂ (λ b y. advantage_of ds i (Guesses (Real b y)) a (context_of cs n)) once is) first h.links h.contexts in
        let priced_random = prices ds own cs i drawn a random (λ n. ap₂ (λ b y. advantage_of ds i (Guesses (Random b y)) a (context_of cs n)) once is) first h.links h.contexts in
        let v = values i sat shown asks in
        let v_random = values i sat drawn asks in
        let along = valued ds own first w i sat in (
          subst (λ z. HasTapes (sum_value i advantages z)) sum
              (taped_secret ds (known_to own) first h.links here.game h.chain i sat advantages (taped_prices ds own first taped i sat shown a real (along shown asks v) h.links here.game h.chain priced)
              (taped_prices ds own first taped i sat drawn a random (along drawn asks v_random) h.links here.game h.chain priced_random)),
          subst (λ z. AtMost (secrecy (setting_of ds i) one x a first) (sum_value i advantages z)) sum
              (carried_secret ds own first w i sat one x asks asks v v_random a advantages h.links here.game h.chain priced priced_random (none i sat a)),
        )

    -- by the kind of the query
    by_kind : (h : HasLinks ds own first cs front here.game) (query : Tree) → Contains (queries_in ds) query → MayBeAsked first query → IsClosedQuery ds query → (certificate : Tree) → c.closing.certificate ≡ certificate → IsAccepted (at here.game) query certificate → IsBounded ds cs first query s
    unfolding MayBeAsked
    by_kind h (Node Query bs sides) asks may is_closed certificate same accepted i sat a =
        breaks h (Node Query bs sides) certificate same (record { correspondence = refl; ready = ready_here h; sound = w.derivations; closed = is_closed; accepted = accepted }) asks
        (c.up_to ∙ ap (λ b. sum_for b (with_cost (sums_along no_sums front) c.here.cost)) (ap is_secret same ∙ not_secret (at here.game) (correspondence_of (Node Query bs sides)) certificate accepted.proof)) i sat a
    by_kind h (Node (Secret x) Empty Empty) asks may is_closed certificate same accepted i sat a =
        let k = ap is_secret same ∙ of_many (at here.game) x certificate accepted.proof in
        guesses h false x (Node (Secret x) Empty Empty) refl refl asks k (c.up_to ∙ ap (λ b. sum_for b (with_cost (sums_along no_sums front) c.here.cost)) k)
        (for_many (at here.game) x certificate (ready_here h) accepted) i sat a
    by_kind h (Node (SecretOnce x) Empty Empty) asks may is_closed certificate same accepted i sat a =
        let k = ap is_secret same ∙ of_one (at here.game) x certificate accepted.proof in
        guesses h true x (Node (SecretOnce x) Empty Empty) refl refl asks k (c.up_to ∙ ap (λ b. sum_for b (with_cost (sums_along no_sums front) c.here.cost)) k)
        (λ j model b. for_one (at here.game) x certificate (ready_here h) accepted j b) i sat a
    by_kind h query asks may is_closed certificate same accepted i sat a = absurd may

  -- a query that is closed holds up to the sum, with the contexts of the whole proof
  pub closed_holds : (ts : List Transition) (last : Tree) → IsProof ds (known_to own) first ts last → (j : ℕ) (query : Tree) (s : List Term) → slice_get (queries_in ds) j ≡ Some query → sum_of ts (suc j) ≡ Some s → IsBounded ds (contexts_along ds own 1 first ts) first query s
  closed_holds ts last p j query s q e =
      let c = first_closing no_sums ts (suc j) s e in
      let here = stands_in ds (known_to own) first ts last p c.place c.here c.there in
      let front = take c.place ts in
      let number : from_one (queries_in ds) c.closing.query ≡ Some query = ap (from_one (queries_in ds)) c.number ∙ q in
      let may = closed_at (MayBeAsked first) (queries_in ds) asked j query q in
      let sc : Scene = at here.game in
      let passes = accepted_by sc (closed_by front) c.closing (is_among (closed_by front) c.closing.query) refl (closes_so (suc (length front)) (closed_by front) here.game c.here c.closing c.closes here.here).passes in
      let none = ap (λ o. first_failure sc o c.closing.certificate) (sym number) ∙ passes in
      let accepted = (decided sc query c.closing.certificate (asked_query first query may)).1 none in
      by_kind ts last p (suc j) s c (linked ts last p (suc j) s c) query (contains_at (queries_in ds) j query q) may (closed_at (IsClosedQuery ds) (queries_in ds) closed j query q) c.closing.certificate refl accepted

-- the verdicts along a course of a file that was read

module _ (holds : (ds : List Declaration) → DerivationsHold ds) (unreached : (ds : List Declaration) → DerivedBodiesAreUnreached ds)
    (costs : AreWithinCosts) (numbers : AreNumbers) (for_many : AreSecretOfMany) (for_one : AreSecretOnce) (decided : AreDecided)
    (c : Content) (f : File) (r : Report) (source : Given) (reads : read_of most_pool source ≡ Ok c) (few : length source.bytes ≤ most_bytes) where
  closed_along : read_of most_pool source ≡ Ok (file_in r f (length c.names)) → (course : Course) → Leads r f course → r.verdicts.items ≡ verdicts_of course.proof (queries_in (declared_in r)) → HoldsAlong r f course
  closed_along here course leads verdicts j query s q v i sat a =
      let d : Content = file_in r f (length c.names) in
      let w = file_of source d here holds unreached few in
      let p = file source d here in
      let signs = (signs_of p.tokens).signs in
      let said = says_is_said most_pool signs p.said p.says in
      let closed = subst (λ (x : Content). HasClosedQueries x.declarations) (sym p.content) (queries_closed most_pool signs p.said said p.typed) in
      let number : 1 + j ≡ suc j = omega arith in
      let sum = sym (ap (sum_of course.proof) number) ∙ verdict_at (sum_of course.proof) 1 (queries_in d.declarations) j s (ap (λ vs. slice_get vs j) (sym verdicts) ∙ v) in
      let b = closed_holds d.declarations d.own d.game w closed (accepted most_pool source d here).asked (valued_file source d here w.ready) (taped source d here) costs numbers for_many for_one decided course.proof course.last leads j query s q sum i sat a in
      (advantages_of_file holds unreached d source here few j query q i sat a, b.0, b.1)

  holds_along : file_in r f (length c.names) ≡ c → (course : Course) → Leads r f course → HasVerdicts r course → HoldsAlong r f course
  holds_along held course leads (strategy.all v) = closed_along (reads ∙ ap Ok (sym held)) course leads v
  holds_along held course leads (strategy.none m v) = λ j query s q e. absurd (let x = sym (ap (λ vs. slice_get vs j) v) ∙ e in cc)

  pub report_sound : (course : Course) → HasRun c f r course → IsSound r
  report_sound course h = subst (λ (o : Option File). IfSome o (λ g. (k : Course) → TakesSteps r g k → HoldsAlong r g k)) (sym h.file) (λ k w. holds_along h.content k w.leads w.verdicts)
