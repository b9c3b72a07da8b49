-- Chains lead to ready games, and are within the sums of their costs.
use Rattle.std.proofs.Common.{◌≡◌, ℕ, ◌<◌, Bool, false, List, [], ◌∷◌, ◌++◌, Some, None, refl, ap, sym, ◌∙◌, subst, arith, append_assoc, mul-pos}
use Rattle.std.proofs.lemmas.List.{map-append}
use Rattle.cv_syntax_trees.specs.Declarations.{Declaration}
use Rattle.cv_syntax_trees.specs.Tree.{Tree}
use Rattle.cv_meaning.specs.Interpretation.{Interpretation, setting_of}
use Rattle.cv_meaning.specs.Satisfies.{Satisfies}
use Rattle.cv_meaning.specs.Runs.{Adversary}
use Rattle.cv_meaning.specs.Experiments.{Experiment, mode_of}
use Rattle.cv_meaning.specs.Chances.{AtMost, Chance, Same, distance, zero_chance}
use Rattle.cv_meaning.specs.Advantage.{IsAsked, chance_of}
use Rattle.cv_meaning.specs.Queries.{queries_in}
use Rattle.cv_meaning_chances.specs.Fractions.{HasTapes, plus}
use Rattle.cv_meaning_chances.proofs.FractionLaws.{at_most_trans, distance_kept}
use Rattle.cv_meaning.specs.contexts.ContextAdvantage.{context_chance}
use Rattle.cv_meaning.specs.contexts.Groups.{Left, Right}
use Rattle.cv_meaning_chances.specs.values.Values.{HasValuesIn}
use Rattle.cv_meaning_chances.proofs.values.Tapes.{tapes}
use Rattle.cv_bound.specs.declared.cost.Cost.{Cost as SumCost}
use Rattle.cv_bound.specs.declared.terms.Experiment.TheVariants as term
use Rattle.cv_bound.specs.declared.terms.Term.{Term}
use Rattle.cv_bound.specs.Sums.{added}
use Rattle.cv_steps.specs.values.Values.{Advantages, cost_value, sum_value}
use Rattle.cv_steps.proofs.values.Adding.{tapes_are_kept}
use Rattle.cv_derive_laws.specs.stores.Costs.{bound_of}
use Rattle.cv_derive_laws.proofs.stores.Costs.{apart}
use Rattle.cv_sequences.proofs.costs.Costs.{cost_worth, together}
use Rattle.cv_syntax_trees.proofs.lists.Each.{AllByRecursion_left, AllByRecursion_right}
use Rattle.cv_typing_runs.proofs.Games.{known}
use Rattle.cv_scene.specs.Contexts.{AreAnswers}
use Rattle.cv_scene.specs.Reductions.{context_of_game}
use Rattle.cv_scene.specs.Scenes.{Scene}
use Rattle.cv_derive_laws.specs.stores.Holding.{IsReady}
use Rattle.cv_match_laws.specs.answers.Answers.{answer_above}
use Rattle.cv_match_laws.proofs.answers.Many.{are_answers}
use Rattle.cv_context_right_side.proofs.queries.Steps.{next_asks_none}
use Rattle.cv_context_right_side.specs.Right.{IsStepOfFile}
use Rattle.cv_steps.specs.Asked.{AskForNoIndex}
use Rattle.cv_steps.specs.Sequences.{scene}
use Rattle.cv_steps.specs.Steps.{Collisions, Cost, Zero}
use Rattle.cv_steps_laws.specs.crypto.Conditions.{equivalence_of, failure_of}
use Rattle.cv_steps_laws.specs.crypto.Steps.{first_answer, reduction_of}
use Rattle.cv_steps_laws.proofs.crypto.Accepted.{accepted, next_drawn}
use Rattle.cv_sequences.specs.Chains.{ByEquivalence, ByStep, HasPrice, HasSides, HasTapedPrice, HaveTapedPrices, IsChain, IsClose, IsFileOf, IsLink, IsOfCost, Link, Prices, cost_behind, costs_behind, game_after, names_below, next_behind, push, start, summed}
use Rattle.cv_sequences.proofs.Accepted.{step_ready}
use Rattle.cv_sequences.proofs.Kept.{next_asks_no_index, next_valued}
use Rattle.cv_sequences.proofs.Sides.{left_side, right_side}
use Rattle.cv_sequences.proofs.Steps.{next_values}
use Rattle.cv_sequences.proofs.Sums.{back, further}
use Rattle.cv_sequences.proofs.secrets.Alike.{bounded_alike}
use Rattle.cv_sequences.proofs.secrets.Sums.{added_alike}
use Rattle.cv_sequences.proofs.Tested.{tested, unrefused}

-- chances

more : (d p : Chance) → AtMost d p → AtMost d (plus p zero_chance)
more d p h = omega (arith, h)

as_much : (p q v : Chance) → 0 < q.all → Same p q → AtMost q v → AtMost p v
as_much p q v n e h = at_most_trans p q v n (omega (arith, e)) h

at_most : (p q : Chance) → Same p q → AtMost p q
at_most p q e = omega (arith, e)

-- what a chance is apart from another, it is from one that is the same
pub same_end : (p q r v : Chance) → 0 < p.all → 0 < q.all → AtMost (distance p q) v → Same q r → AtMost (distance p r) v
same_end p q r v m n h e = as_much (distance p r) (distance p q) v (mul-pos m n) (distance_kept p r p q refl (sym e)) h

-- what a cost says

of_cost : (i : Interpretation) (c : Cost) (p q : Chance) → HasTapes (bound_of i c) → AtMost (distance p q) (bound_of i c) → IsOfCost i c p q
of_cost i Zero p q t h = together p q h
of_cost i (Collisions cs) p q t h = (t, h)

at_cost : (i : Interpretation) (c : Cost) (p q : Chance) → IsOfCost i c p q → AtMost (distance p q) (bound_of i c)
at_cost i Zero p q h = apart p q zero_chance h
at_cost i (Collisions cs) p q h = h.1

-- sums

pub summed_put : (sum : List Term) (cs : List SumCost) (c : SumCost) → summed sum (cs ++ c ∷ []) ≡ added (summed sum cs) c false
unfolding summed
summed_put sum [] c = refl
summed_put sum (d ∷ cs) c = summed_put (added sum d false) cs c

-- the sum of a chain with a link more
summed_more : (before : List Link) (l : Link) → summed [] (costs_behind (before ++ l ∷ [])) ≡ added (summed [] (costs_behind before)) (cost_behind l) false
summed_more before l = ap (summed []) (map-append cost_behind before (l ∷ [])) ∙ summed_put [] (costs_behind before) (cost_behind l)

-- a chain ends with the game that its links lead to
ends : (first : Tree) (links : List Link) (l : Link) → game_after first (links ++ l ∷ []) ≡ next_behind l
unfolding game_after
ends first [] l = refl
ends first (m ∷ links) l = ends (next_behind m) links l

pub chain_ends : (ds : List Declaration) (known : ℕ → Bool) (first : Tree) (links : List Link) (last : Tree) → IsChain ds known first links last → game_after first links ≡ last
unfolding game_after
chain_ends ds known first links last start = refl
chain_ends ds known first links last (push before game l c e) = ends first before l

-- the sum has tapes where the advantages have

cost_taped : (s : Scene) (i : Interpretation) → Satisfies s.declarations i → (advantages : Advantages) (l : Link) → IsLink s l → HasTapedPrice advantages l → HasTapes (cost_value i advantages (cost_behind l) false)
cost_taped s i sat advantages (ByStep step cost next) e k = subst HasTapes (sym (cost_worth i advantages cost)) (e.0.taped s next cost e.1 i sat)
cost_taped s i sat advantages (ByEquivalence n e x next) o k = mul-pos k (omega arith)

pub taped : (ds : List Declaration) (known : ℕ → Bool) (first : Tree) (links : List Link) (last : Tree) → IsChain ds known first links last → (i : Interpretation) → Satisfies ds i → (advantages : Advantages) → HaveTapedPrices advantages links → HasTapes (sum_value i advantages (summed [] (costs_behind links)))
unfolding summed
taped ds known first links last start i sat advantages k = omega arith
taped ds known first links last (push before game l c e) i sat advantages k =
    let front = AllByRecursion_left (HasTapedPrice advantages) before (l ∷ []) k in
    let end = (AllByRecursion_right (HasTapedPrice advantages) before (l ∷ []) k).0 in
    subst (λ ts. HasTapes (sum_value i advantages ts)) (sym (summed_more before l))
    (tapes_are_kept i advantages (summed [] (costs_behind before)) (cost_behind l) false
    (mul-pos (taped ds known first before game c i sat advantages front) (cost_taped (scene ds known game) i sat advantages l e end)))

module _ (ds : List Declaration) (own : ℕ) (first : Tree) (w : IsFileOf ds own first) where
  abbrev at : Tree → Scene
  at game = scene ds (names_below own) game

  -- games

  record IsOfChain (game : Tree) : Type 0 where
    ready : IsReady ds game
    unasked : AskForNoIndex (at game)

  link_leads : (game : Tree) (l : Link) → IsOfChain game → IsLink (at game) l → IsOfChain (next_behind l)
  link_leads game (ByStep step cost next) g e =
      record { ready = step_ready (at game) step next cost e.0 w.constants g.ready e.1; unasked = next_asks_none (at game) step next cost e.0 g.unasked e.1 }
  link_leads game (ByEquivalence n e x next) g h =
      let t = tested ds next (accepted (at game) e x next h).game in
      record {
        ready = record {
          arguments = w.ready.arguments;
          equations = w.ready.equations;
          formed = t.game.formed;
          typed = t.game.typed;
          names = known ds next w.constants t.game.formed t.game.named;
          cells = t.game.named;
          sorts = t.sorts;
        };
        unasked = next_asks_no_index (at next) t.game.formed.scoped t.secrets;
      }

  reached : (links : List Link) (last : Tree) → IsChain ds (names_below own) first links last → IsOfChain last
  reached links last start = record { ready = w.ready; unasked = w.unasked }
  reached links last (push before game l c e) = link_leads game l (reached before game c) e

  pub games_ready : (links : List Link) (last : Tree) → IsChain ds (names_below own) first links last → IsReady ds last
  games_ready links last c = (reached links last c).ready

  pub games_unasked : (links : List Link) (last : Tree) → IsChain ds (names_below own) first links last → AskForNoIndex (at last)
  games_unasked links last c = (reached links last c).unasked

  -- a cryptographic step

  step_of_file : (game : Tree) (e x : ℕ) (t : Tree) → IsOfChain game → equivalence_of (at game) e ≡ Some t → failure_of (at game) e x ≡ None → IsStepOfFile (reduction_of (at game) t x)
  step_of_file game e x t g i f =
      let q = w.equivalences e t i in
      let answers : (sites : ℕ) → AreAnswers (at game) sites (answer_above first_answer game) = λ sites. are_answers ds own first_answer game sites w.names w.known_queries w.known_constants in
      record {
        reducible = record {
          formed = g.ready.formed;
          typed = g.ready.typed;
          names = g.ready.names;
          form = q.left;
          accepted = q.accepted;
          allowed = unrefused (at game) e x t i f;
          answers = answers _;
        };
        arguments = g.ready.arguments;
        right = q.right;
        constants = w.known_constants;
        queries = w.known_queries;
        unasked = g.unasked;
        answers = answers;
      }

  module _ (i : Interpretation) (sat : Satisfies ds i) (x : Experiment) (asked : IsAsked (queries_in ds) x) (v : HasValuesIn (setting_of ds i) (mode_of x) first) where
    link_valued : (game : Tree) (l : Link) → IsOfChain game → HasValuesIn (setting_of ds i) (mode_of x) game → IsLink (at game) l → HasValuesIn (setting_of ds i) (mode_of x) (next_behind l)
    link_valued game (ByStep step cost next) g k e = next_values (at game) step next cost e.0 w.known_queries g.ready.formed.phrase i sat x asked k e.1
    link_valued game (ByEquivalence n e key next) g k h =
        let t = tested ds next (accepted (at game) e key next h).game in
        next_valued ds next t.game.formed.phrase t.game.typed t.sorts t.secrets i sat x asked

    pub valued : (links : List Link) (last : Tree) → IsChain ds (names_below own) first links last → HasValuesIn (setting_of ds i) (mode_of x) last
    valued links last start = v
    valued links last (push before game l c e) = link_valued game l (reached before game c) (valued before game c) e

    module _ (a : Adversary) where
      abbrev chance_in : Tree → Chance
      chance_in game = chance_of (setting_of ds i) x a game

      pub has_tapes : (links : List Link) (last : Tree) → IsChain ds (names_below own) first links last → HasTapes (chance_in last)
      has_tapes links last c = tapes (setting_of ds i) x a last (valued links last c)

      -- one link

      link_sides : (game : Tree) (l : Link) → IsOfChain game → IsLink (at game) l → HasSides (at game) i x a l (chance_in game) (chance_in (next_behind l))
      link_sides game (ByStep step cost next) g e =
          of_cost i cost (chance_in game) (chance_in next) (e.0.taped (at game) next cost e.1 i sat) (e.0.keeps (at game) next cost g.ready w.derivations w.bodies w.known_queries e.1 i sat x asked a)
      link_sides game (ByEquivalence n e key next) g o = λ t is.
          let r = reduction_of (at game) t key in
          let step = step_of_file game e key t g is (accepted (at game) e key next o).failure in
          let d = next_drawn (at game) e key next t o is in (
            left_side r step i x a asked,
            subst (λ u. Same (chance_in u) (context_chance ds i (context_of_game r) Right x a)) (sym d.game) (right_side r step i x a asked d.names d.labels d.drawn),
          )

      link_within : (game : Tree) (l : Link) → IsLink (at game) l → HasSides (at game) i x a l (chance_in game) (chance_in (next_behind l)) → (advantages : Advantages) → HasPrice (at game) advantages i x a l
          → AtMost (distance (chance_in game) (chance_in (next_behind l))) (cost_value i advantages (cost_behind l) false)
      link_within game (ByStep step cost next) e h advantages p =
          subst (AtMost (distance (chance_in game) (chance_in next))) (sym (cost_worth i advantages cost)) (at_cost i cost (chance_in game) (chance_in next) h)
      link_within game (ByEquivalence n e key next) o h advantages p =
          let y = accepted (at game) e key next o in
          let c = context_of_game (reduction_of (at game) y.equivalence key) in
          let both = h y.equivalence y.is_equivalence in
          more (distance (chance_in game) (chance_in next)) (advantages n term.Events)
          (subst (AtMost (distance (chance_in game) (chance_in next))) (sym (p y.equivalence y.is_equivalence))
          (at_most _ _ (distance_kept (chance_in game) (chance_in next) (context_chance ds i c Left x a) (context_chance ds i c Right x a) both.0 both.1)))

      pub link_close : (links : List Link) (game : Tree) → IsChain ds (names_below own) first links game → (l : Link) → IsLink (at game) l → IsClose (at game) i x a l
      link_close links game c l e =
          let sides = link_sides game l (reached links game c) e in
          record {
            before = has_tapes links game c;
            behind = has_tapes (links ++ l ∷ []) (next_behind l) (push links game l c e);
            sides = sides;
            within = link_within game l e sides;
          }

      -- many links

      module _ (advantages : Advantages) where
        abbrev IsWithin : Tree → List Term → Type 0
        IsWithin game sum = AtMost (distance (chance_in first) (chance_in game)) (sum_value i advantages sum)

        -- what a sum and a cost bound together, the sum with that cost more bounds
        with_cost : (l : Link) (sum : List Term) (p : Chance) → AtMost p (plus (sum_value i advantages sum) (cost_value i advantages (cost_behind l) false)) → AtMost p (sum_value i advantages (added sum (cost_behind l) false))
        with_cost l sum p h = bounded_alike p (sum_value i advantages (added sum (cost_behind l) false)) (plus (sum_value i advantages sum) (cost_value i advantages (cost_behind l) false)) (added_alike i advantages sum (cost_behind l) false) h

        -- the prices of a chain, less its last link
        fewer : (before : List Link) (l : Link) → Prices ds (names_below own) first (before ++ l ∷ []) advantages i x a → Prices ds (names_below own) first before advantages i x a
        fewer before l p front m behind e = p front m (behind ++ l ∷ []) (ap (λ links. links ++ l ∷ []) e ∙ append_assoc front (m ∷ behind) (l ∷ []))

        pub within : (links : List Link) (last : Tree) → IsChain ds (names_below own) first links last → Prices ds (names_below own) first links advantages i x a → IsWithin last (summed [] (costs_behind links))
        unfolding summed
        within links last start p = apart (chance_in first) (chance_in first) zero_chance refl
        within links last (push before game l c e) p =
            let k = link_close before game c l e in
            let sum = summed [] (costs_behind before) in
            let price = subst (λ t. HasPrice (at t) advantages i x a l) (chain_ends ds (names_below own) first before game c) (p before l [] refl) in
            subst (IsWithin (next_behind l)) (sym (summed_more before l))
            (with_cost l sum (distance (chance_in first) (chance_in (next_behind l)))
            (further (chance_in first) (chance_in game) (chance_in (next_behind l)) (sum_value i advantages sum) (cost_value i advantages (cost_behind l) false) (has_tapes [] first start) k.before k.behind
            (within before game c (fewer before l p)) (k.within advantages price)))

        -- what is no chance in the last game is at most the sum in the first
        pub carried : (links : List Link) (last : Tree) → IsChain ds (names_below own) first links last → Prices ds (names_below own) first links advantages i x a → AtMost (chance_in last) zero_chance → AtMost (chance_in first) (sum_value i advantages (summed [] (costs_behind links)))
        carried links last c p h = back (chance_in first) (chance_in last) (sum_value i advantages (summed [] (costs_behind links))) (has_tapes links last c) (within links last c p) h
