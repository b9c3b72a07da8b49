-- The games of a course are close to the first: its steps are links of a chain, each with the price of its context.
use Rattle.std.proofs.Common.{◌≡◌, ℕ, zero, suc, ◌+◌, ◌<◌, ◌≤◌, ◌==◌, Bool, true, false, if◌then◌else◌, List, [], ◌∷◌, ◌++◌, length, map, drop, take, refl, ap, ap₂, sym, ◌∙◌, subst, arith, append_assoc, Option, Some, None, option_and_then, Ok, ◌⊎◌, inl, inr}
use Rattle.std.proofs.lemmas.Bool.Decides.{nat_tests}
use Rattle.std.proofs.lemmas.List.{map-append, take-append-drop}
use Rattle.std.specs.Prelude.{IfSome, slice_get, option_map}
use Rattle.cv_syntax.specs.declared.work.File.{File}
use Rattle.cv_syntax_trees.specs.Declarations.{Declaration}
use Rattle.cv_syntax_trees.specs.Tree.{Tree}
use Rattle.cv_library.specs.Givens.{Given}
use Rattle.cv_accept.specs.Accepted.{Content, read_of, most_bytes, most_pool}
use Rattle.cv_bound.specs.declared.terms.Experiment.TheVariants.{Events}
use Rattle.cv_bound.specs.Sums.{added}
use Rattle.cv_bound.specs.costs.Sums.{no_sums, sum_for, with_cost}
use Rattle.cv_bound.specs.declared.cost.Cost.{Cost as SumCost}
use Rattle.cv_bound.specs.declared.costs.sums.Sums.{Sums}
use Rattle.cv_bound.specs.declared.terms.Term.{Term}
use Rattle.cv_steps.specs.values.Values.{Advantages, cost_value, sum_value}
use Rattle.cv_meaning.specs.Advantage.{chance_of}
use Rattle.cv_meaning.specs.Chances.{AtMost, distance}
use Rattle.cv_meaning.specs.Experiments.{Experiment}
use Rattle.cv_meaning.specs.Interpretation.{Interpretation, setting_of}
use Rattle.cv_meaning.specs.Runs.{Adversary}
use Rattle.cv_meaning.specs.contexts.Sides.{Context}
use Rattle.cv_meaning.specs.Satisfies.{Satisfies}
use Rattle.cv_meaning_chances.specs.Fractions.{HasTapes}
use Rattle.cv_meaning_chances.proofs.FractionLaws.{at_most_trans}
use Rattle.cv_costs.specs.Certificates.{cost_of_certificate}
use Rattle.cv_kernel.specs.Closings.{Closing, closing_in, closing_of_items}
use Rattle.cv_kernel.specs.Proofs.{IsProof, IsTransition, Transition, closed_by, push, start, sums_behind}
use Rattle.cv_kernel.specs.Sayings.{Accepted, MaySay}
use Rattle.cv_report.specs.declared.report.Report.{Report}
use Rattle.cv_scene.specs.Reductions.{context_of_game}
use Rattle.cv_scene.specs.Scenes.{Scene}
use Rattle.cv_script.specs.Views.{items_of_step}
use Rattle.cv_script.specs.Views as items
use Rattle.cv_sequences.specs.Chains.{ByEquivalence, ByStep, HasPrice, IsChain, IsFileOf, IsLink, Link, Prices, cost_behind, costs_behind, game_after, next_behind, summed}
use Rattle.cv_sequences.specs.Chains as chains
use Rattle.cv_sequences.proofs.Chains.{chain_ends, games_ready, has_tapes, summed_put, taped as taped_sum, valued as valued_along, within}
use Rattle.cv_sequences.proofs.costs.Costs.{cost_worth}
use Rattle.cv_steps.specs.Sequences.{scene}
use Rattle.cv_steps_laws.specs.crypto.Conditions.{equivalence_of}
use Rattle.cv_steps_laws.specs.crypto.Steps.{reduction_of}
use Rattle.cv_derive_laws.specs.stores.Soundness.{DerivationsHold, DerivedBodiesAreUnreached}
use Rattle.cv.specs.Contexts.{context_by, context_for, contexts_along, game_along, with_context}
use Rattle.cv.specs.Games.{AreClose, HasCloseGames, IsWithin}
use Rattle.cv.specs.Runs.{HasRun}
use Rattle.cv_follow.specs.Courses.{Course}
use Rattle.cv_kernel.specs.Followed.{known_to, sums_along}
use Rattle.cv.specs.Strategy.{Leads, declared_in, file_in, game_in}
use Rattle.cv.specs.Values.{Contexts, advantage_of, advantages_in, context_of}
use Rattle.cv_sequences.specs.secrets.Sums.{summed_by}
use Rattle.cv_sequences.proofs.secrets.Sums.{plain, put}
use Rattle.cv_sequences.proofs.files.kernel.rules.Sound.{sound}
use Rattle.cv_kernel.proofs.Closings.{sum_put}
use Rattle.cv_kernel.proofs.StepKinds.{Kind, closure, kind_of, passage, reduction}
use Rattle.cv_kernel.proofs.StepKinds as kind
use Rattle.cv_sequences.proofs.files.Ready.{file_of, taped, valued}
use Rattle.cv_accept.proofs.Readings.{accepted}
use Rattle.cv.proofs.Costing.{AreDecided, AreNumbers, HaveTapedClosings, IsNoLess, both_more, closings_taped, one_more}
use Rattle.cv.proofs.Naming.{named_in, same_names}
use Rattle.cv.proofs.Taped.{HaveTapedContexts, HaveValues, taped_prices}

-- the front of a proof

module _ (ds : List Declaration) (known : ℕ → Bool) (first : Tree) where
  -- what stands behind others, or among them
  at_last : (before : List Transition) (t u : Transition) (k : ℕ) → slice_get (before ++ t ∷ []) k ≡ Some u → ((k ≡ length before) × (u ≡ t)) ⊎ ((k < length before) × (slice_get before k ≡ Some u))
  at_last [] t u zero e = inl (refl, cc)
  at_last [] t u (suc k) e = absurd (cc)
  at_last (b ∷ before) t u zero e = inr (omega arith, e)
  at_last (b ∷ before) t u (suc k) e = elim (at_last before t u k e) as (λ _. ((suc k ≡ length (b ∷ before)) × (u ≡ t)) ⊎ ((suc k < length (b ∷ before)) × (slice_get (b ∷ before) (suc k) ≡ Some u))) [
    | inl h ↦ inl (ap suc h.0, h.1)
    | inr h ↦ inr (omega (arith, h.0), h.1)
  ]

  take_front : {A : Type 0} (xs : List A) (x : A) (k : ℕ) → k ≤ length xs → take k (xs ++ x ∷ []) ≡ take k xs
  take_front xs x zero l = refl
  take_front [] x (suc k) l = absurd (omega arith)
  take_front (y ∷ xs) x (suc k) l = ap (λ ys. y ∷ ys) (take_front xs x k (omega arith))

  take_whole : {A : Type 0} (xs : List A) (x : A) (k : ℕ) → k ≡ length xs → take (k + 1) (xs ++ x ∷ []) ≡ xs ++ x ∷ []
  take_whole [] x zero e = refl
  take_whole [] x (suc k) e = absurd (omega arith)
  take_whole (y ∷ xs) x zero e = absurd (omega arith)
  take_whole (y ∷ xs) x (suc k) e = let n : suc k + 1 ≡ suc (k + 1) = omega arith in ap (λ m. take m (y ∷ (xs ++ x ∷ []))) n ∙ ap (λ ys. y ∷ ys) (take_whole xs x k (omega arith))

  pub front : (ts : List Transition) (last : Tree) → IsProof ds known first ts last → (k : ℕ) (u : Transition) → slice_get ts k ≡ Some u → IsProof ds known first (take (k + 1) ts) u.next
  front ts last start k u e = absurd (cc)
  front ts last (push before game t p i) k u e = elim (at_last before t u k e) as (λ _. IsProof ds known first (take (k + 1) (before ++ t ∷ [])) u.next) [
    | inl h ↦ subst (λ x. IsProof ds known first (take (k + 1) (before ++ t ∷ [])) x.next) (sym h.1) (subst (λ xs. IsProof ds known first xs t.next) (sym (take_whole before t k h.0)) (push before game t p i))
    | inr h ↦ subst (λ xs. IsProof ds known first xs u.next) (sym (take_front before t (k + 1) (omega (arith, h.0)))) (front before game p k u h.1)
  ]

  take_all : {A : Type 0} (xs : List A) (x : A) (k : ℕ) → k ≡ length xs → take k (xs ++ x ∷ []) ≡ xs
  take_all xs x k e = take_front xs x k (omega arith) ∙ whole xs k e
    where
      whole : {A : Type 0} (ys : List A) (j : ℕ) → j ≡ length ys → take j ys ≡ ys
      whole [] zero e = refl
      whole [] (suc j) e = absurd (omega arith)
      whole (y ∷ ys) zero e = absurd (omega arith)
      whole (y ∷ ys) (suc j) e = ap (λ zs. y ∷ zs) (whole ys j (omega arith))

  -- a transition of a proof, in the game that those before it lead to
  pub record StandsIn (ts : List Transition) (k : ℕ) (u : Transition) : Type 0 where
    pub game : Tree
    pub before : IsProof ds known first (take k ts) game
    pub here : IsTransition ds known (suc (length (take k ts))) (closed_by (take k ts)) game u

  pub stands_in : (ts : List Transition) (last : Tree) → IsProof ds known first ts last → (k : ℕ) (u : Transition) → slice_get ts k ≡ Some u → StandsIn ts k u
  stands_in ts last start k u e = absurd (cc)
  stands_in ts last (push before game t p i) k u e = elim (at_last before t u k e) as (λ _. StandsIn (before ++ t ∷ []) k u) [
    | inl h ↦ record {
      game = game;
      before = subst (λ xs. IsProof ds known first xs game) (sym (take_all before t k h.0)) p;
      here = subst (λ x. IsTransition ds known (suc (length (take k (before ++ t ∷ [])))) (closed_by (take k (before ++ t ∷ []))) game x) (sym h.1) (subst (λ xs. IsTransition ds known (suc (length xs)) (closed_by xs) game t) (sym (take_all before t k h.0)) i);
    }
    | inr h ↦
        let s = stands_in before game p k u h.1 in
        record {
          game = s.game;
          before = subst (λ xs. IsProof ds known first xs s.game) (sym (take_front before t k (omega (arith, h.0)))) s.before;
          here = subst (λ xs. IsTransition ds known (suc (length xs)) (closed_by xs) s.game u) (sym (take_front before t k (omega (arith, h.0)))) s.here;
        }
  ]

-- the sums of steps that close no query, with a step more

nothing_summed : (b : Bool) → summed_by b [] [] ≡ sum_for b no_sums
unfolding summed_by
nothing_summed true = refl
nothing_summed false = refl

pub cost_for : (b : Bool) (sums : Sums) (c : SumCost) → sum_for b (with_cost sums c) ≡ added (sum_for b sums) c b
cost_for true sums c = refl
cost_for false sums c = refl

sums_changed : (b : Bool) (before : List Transition) (t : Transition) → closing_in t.step ≡ None → sum_for b (sums_along no_sums (before ++ t ∷ [])) ≡ added (sum_for b (sums_along no_sums before)) t.cost b
sums_changed b before t n =
    ap (sum_for b) (sum_put no_sums before t ∙ ap (λ o. sums_behind (sums_along no_sums before) o t.cost) n) ∙ cost_for b (sums_along no_sums before) t.cost

sums_closed : (before : List Transition) (t : Transition) (c : Closing) → closing_in t.step ≡ Some c → sums_along no_sums (before ++ t ∷ []) ≡ sums_along no_sums before
sums_closed before t c n = sum_put no_sums before t ∙ ap (λ o. sums_behind (sums_along no_sums before) o t.cost) n

-- contexts by the numbers of their steps

found_here : (n : ℕ) (c : Context) (cs : Contexts) (b : Bool) → (n == n) ≡ b → (if b then Some c else context_of cs n) ≡ Some c
found_here n c cs true e = refl
found_here n c cs false e = absurd (let h : n ≡ n → ⊥ = grind (arith, nat_tests) in h refl)

other_number : (m n : ℕ) (c : Context) (cs : Contexts) → m < n → (b : Bool) → (m == n) ≡ b → (if b then Some c else context_of cs n) ≡ context_of cs n
other_number m n c cs l true e = absurd (let h : m ≡ n = grind (arith, nat_tests) in omega arith)
other_number m n c cs l false e = refl

found_later : (m n : ℕ) (o : Option Context) (cs : Contexts) → m < n → context_of (with_context m o cs) n ≡ context_of cs n
found_later m n None cs l = refl
found_later m n (Some c) cs l = other_number m n c cs l (m == n) refl

-- the contexts and games of transitions

along_put : (game : Tree) (ts : List Transition) (t : Transition) → game_along game (ts ++ t ∷ []) ≡ t.next
along_put game [] t = refl
along_put game (u ∷ ts) t = along_put u.next ts t

context_at : (ds : List Declaration) (own step : ℕ) (game : Tree) (before : List Transition) (t : Transition) (behind : List Transition) (c : Context) → context_by ds own (game_along game before) t.step ≡ Some c
    → context_of (contexts_along ds own step game (before ++ t ∷ behind)) (step + length before) ≡ Some c
context_at ds own step game [] t behind c e =
    let n : step + 0 ≡ step = omega arith in
    let rest = contexts_along ds own (suc step) t.next behind in
    ap (context_of (contexts_along ds own step game (t ∷ behind))) n ∙ (ap (λ o. context_of (with_context step o rest) step) e ∙ found_here step c rest (step == step) refl)
context_at ds own step game (u ∷ before) t behind c e =
    let n : step + suc (length before) ≡ suc step + length before = omega arith in
    let to = u.next in
    let rest = contexts_along ds own (suc step) to (before ++ t ∷ behind) in
    found_later step (step + suc (length before)) (context_by ds own game u.step) rest (omega arith) ∙ (ap (context_of rest) n ∙ context_at ds own (suc step) to before t behind c e)

-- the contexts of links are those of a list by their numbers

abbrev pub HasContext : Contexts → Scene → Link → Type 0
HasContext cs s (ByStep step cost next) = Unit {0}
HasContext cs s (ByEquivalence n e key next) = (t : Tree) → equivalence_of s e ≡ Some t → context_of cs n ≡ Some (context_of_game (reduction_of s t key))

module _ (ds : List Declaration) (own : ℕ) (cs : Contexts) where
  abbrev HaveContexts : (game : Tree) → List Link → Type 0
  HaveContexts game [] = Unit {0}
  HaveContexts game (l ∷ links) = HasContext cs (scene ds (known_to own) game) l × HaveContexts (next_behind l) links

  contexts_put : (game : Tree) (links : List Link) (l : Link) → HaveContexts game links → HasContext cs (scene ds (known_to own) (game_after game links)) l → HaveContexts game (links ++ l ∷ [])
  unfolding game_after
  contexts_put game [] l h k = (k, tt)
  contexts_put game (m ∷ links) l h k = (h.0, contexts_put (next_behind m) links l h.1 k)

  context_there : (game : Tree) (before : List Link) (l : Link) (behind : List Link) → HaveContexts game (before ++ l ∷ behind) → HasContext cs (scene ds (known_to own) (game_after game before)) l
  unfolding game_after
  context_there game [] l behind h = h.0
  context_there game (b ∷ before) l behind h = context_there (next_behind b) before l behind h.1

  -- so their prices are the advantages of the contexts
  module _ (i : Interpretation) (x : Experiment) (a : Adversary) (advantages : Advantages) (are : (n : ℕ) → advantages n Events ≡ advantage_of ds i x a (context_of cs n)) where
    pub price_of : (game : Tree) (l : Link) → HasContext cs (scene ds (known_to own) game) l → HasPrice (scene ds (known_to own) game) advantages i x a l
    price_of game (ByStep step cost next) h = tt
    price_of game (ByEquivalence n e key next) h = λ t q. are n ∙ ap (advantage_of ds i x a) (h t q)

    pub prices : (first : Tree) (links : List Link) → HaveContexts first links → Prices ds (known_to own) first links advantages i x a
    prices first links h before l behind e = price_of (game_after first before) l (context_there first before l behind (subst (HaveContexts first) e h))

-- a step that changes the game is a link, whose context is that with the step's number

pub record HasLink (ds : List Declaration) (own : ℕ) (cs : Contexts) (game : Tree) (t : Transition) : Type 0 where
  pub link : Link
  pub leads : IsLink (scene ds (known_to own) game) link
  pub next : next_behind link ≡ t.next
  pub costs : t.cost ≡ cost_behind link
  pub context : HasContext cs (scene ds (known_to own) game) link

-- a cryptographic step has the context of what it names
pub named_context : (ds : List Declaration) (own : ℕ) (game step : Tree) (e x : ℕ) → items_of_step step ≡ Some (items.Crypto e x) → context_by ds own game step ≡ context_for ds own game (Some (e, x))
named_context ds own game step e x q = ap (context_for ds own game) (same_names step ∙ ap named_in q)

-- of a cryptographic step this is the context
abbrev pub HasContextAt : List Declaration → (own : ℕ) → Contexts → (number : ℕ) → (game : Tree) → Transition → Type 0
HasContextAt ds own cs n game t = (c : Context) → context_by ds own game t.step ≡ Some c → context_of cs n ≡ Some c

pub link_of : (ds : List Declaration) (own : ℕ) (cs : Contexts) (n : ℕ) (ks : List ℕ) (game : Tree) (t : Transition) → closing_in t.step ≡ None → HasContextAt ds own cs n game t → IsTransition ds (known_to own) n ks game t → Kind (items_of_step t.step) → HasLink ds own cs game t
link_of ds own cs n ks game t none there i (kind.reduces e x q) =
    let at : Scene = scene ds (known_to own) game in
    let r = reduction at ks n e x t.step t.next t.cost (subst (λ o. MaySay at ks n t.step o (Accepted t.next t.cost)) q i.accepted) in
    record {
      link = ByEquivalence n e x t.next;
      leads = r.leads;
      next = refl;
      costs = r.costs;
      context = λ y j. there (context_of_game (reduction_of at y x)) (named_context ds own game t.step e x q ∙ ap (option_map (λ z. context_of_game (reduction_of at z x))) j);
    }
link_of ds own cs n ks game t none there i (kind.judged j (kind.changes c)) =
    let at : Scene = scene ds (known_to own) game in
    let p = passage at t.next t.cost ks t.step c.closing (j.says at ks n t.step _ i.accepted) in
    record { link = ByStep p.rule.step p.price t.next; leads = (sound p.told p.rule p.ruled, p.accepted); next = refl; costs = p.costs; context = tt }
link_of ds own cs n ks game t none there i (kind.judged j (kind.closes k by q)) = absurd (let z = sym none ∙ ap (option_and_then closing_of_items) q in cc)

-- the steps of a proof that change the game are the links of a chain, with the sum of these steps, whose contexts are those of the whole proof

pub record HasLinks (ds : List Declaration) (own : ℕ) (first : Tree) (cs : Contexts) (ts : List Transition) (last : Tree) : Type 0 where
  pub links : List Link
  pub chain : IsChain ds (known_to own) first links last
  pub contexts : HaveContexts ds own cs first links
  pub sums : (b : Bool) → summed_by b [] (costs_behind links) ≡ sum_for b (sums_along no_sums ts)

module _ (ds : List Declaration) (own : ℕ) (first : Tree) where
  abbrev at : Tree → Scene
  at game = scene ds (known_to own) game

  module _ (cs : Contexts) (before : List Transition) (game : Tree) (t : Transition) (h : HasLinks ds own first cs before game) where
    link_more : closing_in t.step ≡ None → HasLink ds own cs game t → HasLinks ds own first cs (before ++ t ∷ []) t.next
    link_more n k = record {
      links = h.links ++ k.link ∷ [];
      chain = subst (IsChain ds (known_to own) first (h.links ++ k.link ∷ [])) k.next (chains.push h.links game k.link h.chain k.leads);
      contexts = contexts_put ds own cs first h.links k.link h.contexts (subst (λ g. HasContext cs (at g) k.link) (sym (chain_ends ds (known_to own) first h.links game h.chain)) k.context);
      sums = λ b.
          ap (summed_by b []) (map-append cost_behind h.links (k.link ∷ []))
          ∙ (put b [] (costs_behind h.links) (cost_behind k.link)
          ∙ (ap₂ (λ sum c. added sum c b) (h.sums b) (sym k.costs) ∙ sym (sums_changed b before t n)));
    }

    -- a step that closes a query is none
    link_none : (c : Closing) → closing_in t.step ≡ Some c → IsTransition ds (known_to own) (suc (length before)) (closed_by before) game t → HasLinks ds own first cs (before ++ t ∷ []) t.next
    link_none c n i =
        let k = closure (at game) (closed_by before) (suc (length before)) t.step c t.next t.cost n i.accepted in
        record {
          links = h.links;
          chain = subst (IsChain ds (known_to own) first h.links) (sym k.game) h.chain;
          contexts = h.contexts;
          sums = λ b. h.sums b ∙ sym (ap (sum_for b) (sums_closed before t c n));
        }

    link_by : (o : Option Closing) → closing_in t.step ≡ o → HasContextAt ds own cs (suc (length before)) game t → IsTransition ds (known_to own) (suc (length before)) (closed_by before) game t → HasLinks ds own first cs (before ++ t ∷ []) t.next
    link_by None n there i = link_more n (link_of ds own cs (suc (length before)) (closed_by before) game t n there i (kind_of (items_of_step t.step)))
    link_by (Some c) n there i = link_none c n i

  -- the games of a proof
  pub along_is : (ts : List Transition) (last : Tree) → IsProof ds (known_to own) first ts last → game_along first ts ≡ last
  along_is ts last start = refl
  along_is ts last (push before game t p i) = along_put first before t

  pub context_numbered : (before : List Transition) (game : Tree) → IsProof ds (known_to own) first before game → (t : Transition) (rest : List Transition) → HasContextAt ds own (contexts_along ds own 1 first (before ++ t ∷ rest)) (suc (length before)) game t
  context_numbered before game p t rest c e =
      let n : 1 + length before ≡ suc (length before) = omega arith in
      sym (ap (context_of (contexts_along ds own 1 first (before ++ t ∷ rest))) n) ∙ context_at ds own 1 first before t rest c (ap (λ g. context_by ds own g t.step) (along_is before game p) ∙ e)

  pub links_of : (ts : List Transition) (last : Tree) → IsProof ds (known_to own) first ts last → (rest : List Transition) → HasLinks ds own first (contexts_along ds own 1 first (ts ++ rest)) ts last
  links_of ts last start rest = record { links = []; chain = chains.start; contexts = tt; sums = nothing_summed }
  links_of ts last (push before game t p i) rest =
      let cs = contexts_along ds own 1 first (before ++ t ∷ rest) in
      subst (λ all. HasLinks ds own first (contexts_along ds own 1 first all) (before ++ t ∷ []) t.next) (sym (append_assoc before (t ∷ []) rest))
      (link_by cs before game t (links_of before game p (t ∷ rest)) (closing_in t.step) refl (context_numbered before game p t rest) i)

  -- what steps cost that close queries makes the sum no less
  module _ (w : IsFileOf ds own first) (closings : HaveTapedClosings ds own) (i : Interpretation) (sat : Satisfies ds i) (advantages : Advantages) where
    closing_worth : (before : List Transition) (game : Tree) → IsProof ds (known_to own) first before game → (t : Transition) (c : Closing) → closing_in t.step ≡ Some c → IsTransition ds (known_to own) (suc (length before)) (closed_by before) game t → HasTapes (cost_value i advantages t.cost false)
    closing_worth before game p t c n j =
        let h = links_of before game p [] in
        let k = closure (at game) (closed_by before) (suc (length before)) t.step c t.next t.cost n j.accepted in
        let worth = closings game (games_ready ds own first w h.links game h.chain) (closed_by before) c k.passes i sat in
        subst (λ z. HasTapes (cost_value i advantages z false)) (sym k.costs) (subst HasTapes (sym (cost_worth i advantages (cost_of_certificate (at game) c.certificate))) worth)

    abbrev changed : List Transition → List Term
    changed ts = sum_for false (sums_along no_sums ts)

    abbrev all : List Transition → List Term
    all ts = summed [] (map (λ t. t.cost) ts)

    all_put : (before : List Transition) (t : Transition) → all (before ++ t ∷ []) ≡ added (all before) t.cost false
    all_put before t = ap (summed []) (map-append (λ x. x.cost) before (t ∷ [])) ∙ summed_put [] (map (λ x. x.cost) before) t.cost

    more_by : (before : List Transition) (game : Tree) → IsProof ds (known_to own) first before game → (t : Transition) → IsTransition ds (known_to own) (suc (length before)) (closed_by before) game t → (HasTapes (sum_value i advantages (changed before)) → IsNoLess i advantages (changed before) (all before))
        → HasTapes (sum_value i advantages (changed (before ++ t ∷ []))) → (o : Option Closing) → closing_in t.step ≡ o → IsNoLess i advantages (changed (before ++ t ∷ [])) (all (before ++ t ∷ []))
    more_by before game p t j f h None n =
        let e = sums_changed false before t n in
        subst (IsNoLess i advantages (changed (before ++ t ∷ []))) (sym (all_put before t))
        (subst (λ z. IsNoLess i advantages z (added (all before) t.cost false)) (sym e)
        (both_more i advantages (changed before) (all before) t.cost (subst (λ z. HasTapes (sum_value i advantages z)) e h) f))
    more_by before game p t j f h (Some c) n =
        let e : changed (before ++ t ∷ []) ≡ changed before = ap (sum_for false) (sums_closed before t c n) in
        subst (IsNoLess i advantages (changed (before ++ t ∷ []))) (sym (all_put before t))
        (subst (λ z. IsNoLess i advantages z (added (all before) t.cost false)) (sym e)
        (one_more i advantages (changed before) (all before) t.cost (closing_worth before game p t c n j) (f (subst (λ z. HasTapes (sum_value i advantages z)) e h))))

    costs_more : (ts : List Transition) (last : Tree) → IsProof ds (known_to own) first ts last → HasTapes (sum_value i advantages (changed ts)) → IsNoLess i advantages (changed ts) (all ts)
    unfolding summed
    costs_more ts last start h = record { taped = h; more = omega arith }
    costs_more ts last (push before game t p j) h = more_by before game p t j (costs_more before game p) h (closing_in t.step) refl

  -- so no adversary tells its games
  pub close : IsFileOf ds own first → HaveValues ds first → HaveTapedContexts ds own → HaveTapedClosings ds own → (ts : List Transition) (last : Tree) → IsProof ds (known_to own) first ts last → (rest : List Transition) → IsWithin ds (contexts_along ds own 1 first (ts ++ rest)) first last (summed [] (map (λ t. t.cost) ts))
  close w values taped closings ts last p rest = λ i sat x q a.
      let cs = contexts_along ds own 1 first (ts ++ rest) in
      let h = links_of ts last p rest in
      let v = values i sat x q in
      let advantages = advantages_in ds i cs x a in
      let priced = prices ds own cs i x a advantages (λ n. refl) first h.links h.contexts in
      let sum = sym (plain [] (costs_behind h.links)) ∙ h.sums false in
      let worth = subst (λ s. HasTapes (sum_value i advantages s)) sum (taped_sum ds (known_to own) first h.links last h.chain i sat advantages (taped_prices ds own first taped i sat x a advantages (valued_along ds own first w i sat x q v) h.links last h.chain priced)) in
      let near = subst (λ s. AtMost (distance (chance_of (setting_of ds i) x a first) (chance_of (setting_of ds i) x a last)) (sum_value i advantages s)) sum (within ds own first w i sat x q v a advantages h.links last h.chain priced) in
      let all = costs_more w closings i sat advantages ts last p worth in (
        has_tapes ds own first w i sat x q v a [] first chains.start,
        has_tapes ds own first w i sat x q v a h.links last h.chain,
        all.taped,
        at_most_trans (distance (chance_of (setting_of ds i) x a first) (chance_of (setting_of ds i) x a last)) (sum_value i advantages (sum_for false (sums_along no_sums ts))) (sum_value i advantages (summed [] (map (λ t. t.cost) ts))) worth near all.more,
      )

-- the games of a course of a file that was read

module _ (holds : (ds : List Declaration) → DerivationsHold ds) (unreached : (ds : List Declaration) → DerivedBodiesAreUnreached ds) (numbers : AreNumbers) (decided : AreDecided) (c : Content) (f : File) (r : Report) (source : Given) (reads : read_of most_pool source ≡ Ok c) (few : length source.bytes ≤ most_bytes) where
  close_content : (ts : List Transition) (last : Tree) → IsProof c.declarations (known_to c.own) c.game ts last → (rest : List Transition) → IsWithin c.declarations (contexts_along c.declarations c.own 1 c.game (ts ++ rest)) c.game last (summed [] (map (λ t. t.cost) ts))
  close_content ts last p rest =
      let w = file_of source c reads holds unreached few in
      close c.declarations c.own c.game w (valued source c reads w.ready) (taped source c reads) (closings_taped c.declarations c.own c.game (accepted most_pool source c reads).asked numbers decided) ts last p rest

  games_close : file_in r f (length c.names) ≡ c → (course : Course) → Leads r f course → AreClose r f course
  games_close held course p k t at =
      let ds = declared_in r in
      let own = r.work.decls.own in
      let first = game_in r f in
      let ts = course.proof in
      let here = subst (λ (d : Content). (us : List Transition) (last : Tree) → IsProof d.declarations (known_to d.own) d.game us last → (rest : List Transition) → IsWithin d.declarations (contexts_along d.declarations d.own 1 d.game (us ++ rest)) d.game last (summed [] (map (λ u. u.cost) us))) (sym held) close_content in
      let whole = here (take (k + 1) ts) t.next (front ds (known_to own) first ts course.last p k t at) (drop (k + 1) ts) in
      subst (λ us. IsWithin ds (contexts_along ds own 1 first us) first t.next (summed [] (map (λ u. u.cost) (take (k + 1) ts)))) (take-append-drop (k + 1) ts) whole

  pub run_close : (course : Course) → HasRun c f r course → HasCloseGames r
  run_close course h = subst (λ (o : Option File). IfSome o (λ g. (k : Course) → Leads r g k → AreClose r g k)) (sym h.file) (games_close h.content)
