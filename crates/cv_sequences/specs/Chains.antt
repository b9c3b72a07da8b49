-- Sequences of games with cryptographic steps. Blanchet, TDSC 2008.
use Rattle.std.specs.Prelude.{◌≡◌, ◌≤◌, ℕ, Bool, false, nat_lt, List, [], ◌∷◌, ◌++◌, Some, map}
use Rattle.std.specs.List.{AllByRecursion}
use Rattle.cv_syntax_trees.specs.Declarations.{Declaration}
use Rattle.cv_syntax_trees.specs.Tree.{Tree}
use Rattle.cv_meaning.specs.Advantage.{chance_of}
use Rattle.cv_meaning.specs.Chances.{AtMost, Chance, Same, distance}
use Rattle.cv_meaning.specs.Experiments.{Experiment}
use Rattle.cv_meaning.specs.Interpretation.{Interpretation, setting_of}
use Rattle.cv_meaning.specs.Runs.{Adversary}
use Rattle.cv_meaning_chances.specs.Fractions.{HasTapes}
use Rattle.cv_meaning.specs.contexts.ContextAdvantage.{context_advantage, context_chance}
use Rattle.cv_meaning.specs.contexts.Groups.{Left, Right}
use Rattle.cv_bound.specs.declared.cost.Cost.{Cost as SumCost}
use Rattle.cv_bound.specs.declared.cost.Cost.TheVariants as bound
use Rattle.cv_bound.specs.declared.terms.Experiment.TheVariants as term
use Rattle.cv_bound.specs.declared.terms.Term.{Term}
use Rattle.cv_bound.specs.Sums.{added}
use Rattle.cv_steps.specs.values.Values.{Advantages, cost_value}
use Rattle.cv_derive_laws.specs.stores.Costs.{bound_of}
use Rattle.cv_group_rules.specs.Symbols.{symbols_of}
use Rattle.cv_group_rules.specs.Faults.{IsAccepted}
use Rattle.cv_typing_runs.specs.Games.{HasConstants}
use Rattle.cv_scene.specs.Reductions.{context_of_game}
use Rattle.cv_scene.specs.Scenes.{KnowsQueries, Scene}
use Rattle.cv_derive_laws.specs.stores.Holding.{IsReady}
use Rattle.cv_derive_laws.specs.stores.Soundness.{DerivationsHold, DerivedBodiesAreUnreached}
use Rattle.cv_derive_laws.specs.stores.Steps.{IsSound}
use Rattle.cv_match_laws.specs.answers.Answers.{KnowsConstants, file_scene}
use Rattle.cv_context_right_side.specs.Right.{IsRightOfFile}
use Rattle.cv_match_laws.specs.functions.Forms.{HasLeftForm}
use Rattle.cv_steps.specs.Asked.{AskForNoIndex}
use Rattle.cv_steps.specs.Costs.{cost_of}
use Rattle.cv_steps.specs.Judgements.{judgement_of}
use Rattle.cv_steps.specs.Judgements as rule
use Rattle.cv_steps.specs.Sequences.{scene}
use Rattle.cv_steps.specs.Steps.{Collisions, Cost, Step, Zero}
use Rattle.cv_steps_laws.specs.crypto.Conditions.{equivalence_of}
use Rattle.cv_steps_laws.specs.crypto.Steps.{IsOutcome, first_answer, reduction_of}
use Rattle.cv_steps_laws.specs.crypto.Steps as crypto

-- the names of a file that has so many
abbrev pub names_below : (own : ℕ) → ℕ → Bool
names_below own x = nat_lt x own

-- A step, and the game that it leads to: one by a rule with what it costs, or one by an equivalence, with its number in the proof.
pub data Link : Type 0 where
  ByStep : Step → Cost → (next : Tree) → Link
  ByEquivalence : (number equivalence key : ℕ) → (next : Tree) → Link

abbrev pub next_behind : Link → Tree
next_behind (ByStep step cost next) = next
next_behind (ByEquivalence n e x next) = next

-- what sums take for a link: by an equivalence it costs the advantage of its context
abbrev pub cost_behind : Link → SumCost
cost_behind (ByStep step cost next) = cost_of cost
cost_behind (ByEquivalence n e x next) = bound.Advantage n (record { 0 = e })

abbrev pub costs_behind : List Link → List SumCost
costs_behind links = map cost_behind links

-- the step leads from the game to the next one, and is sound
abbrev pub IsLink : Scene → Link → Type 0
IsLink s (ByStep step cost next) = IsSound step × (judgement_of s step ≡ rule.Accepted next cost)
IsLink s (ByEquivalence n e x next) = IsOutcome s e x (crypto.Accepted next)

-- From the first game the links lead to this game.
pub data IsChain (ds : List Declaration) (known : ℕ → Bool) (first : Tree) : List Link → Tree → Type 0 where
  start : IsChain ds known first [] first
  push : (before : List Link) (game : Tree) (l : Link) → IsChain ds known first before game → IsLink (scene ds known game) l → IsChain ds known first (before ++ l ∷ []) (next_behind l)

-- the game that links lead to
unfoldable pub game_after : (first : Tree) → List Link → Tree
game_after first [] = first
game_after first (l ∷ links) = game_after (next_behind l) links

-- a sum with these costs more, one after another
unfoldable pub summed : List Term → List SumCost → List Term
summed sum [] = sum
summed sum (c ∷ cs) = summed (added sum c false) cs

-- Of a link by an equivalence the advantage with its number is that of the context of the game before it.
abbrev pub HasPrice : Scene → Advantages → Interpretation → Experiment → Adversary → Link → Type 0
HasPrice s advantages i x a (ByStep step cost next) = Unit {0}
HasPrice s advantages i x a (ByEquivalence n e key next) =
    (t : Tree) → equivalence_of s e ≡ Some t → advantages n term.Events ≡ context_advantage s.declarations i (context_of_game (reduction_of s t key)) x a

-- so it is of each link
abbrev pub Prices : List Declaration → (known : ℕ → Bool) → (first : Tree) → List Link → Advantages → Interpretation → Experiment → Adversary → Type 0
Prices ds known first links advantages i x a =
    (before : List Link) (l : Link) (behind : List Link) → links ≡ before ++ l ∷ behind → HasPrice (scene ds known (game_after first before)) advantages i x a l

-- What a cost says of the chances before and behind a step: nothing, that they are the same; collisions, that these have a value, and
-- the chances differ by at most that.
abbrev pub IsOfCost : Interpretation → Cost → (before behind : Chance) → Type 0
IsOfCost i Zero p q = Same p q
IsOfCost i (Collisions cs) p q = HasTapes (bound_of i (Collisions cs)) × AtMost (distance p q) (bound_of i (Collisions cs))

-- What a link leaves of the chances of the games before and behind it. By a rule it is what its cost says; by an equivalence they are
-- those of the context of the game before it, with the left and with the right side.
abbrev pub HasSides : Scene → Interpretation → Experiment → Adversary → Link → (before behind : Chance) → Type 0
HasSides s i x a (ByStep step cost next) p q = IsOfCost i cost p q
HasSides s i x a (ByEquivalence n e key next) p q =
    (t : Tree) → equivalence_of s e ≡ Some t
    → Same p (context_chance s.declarations i (context_of_game (reduction_of s t key)) Left x a) × Same q (context_chance s.declarations i (context_of_game (reduction_of s t key)) Right x a)

-- Both chances have tapes, and differ by at most the value of the link's own cost, wherever the advantage with its number is that of its context.
pub record IsClose (s : Scene) (i : Interpretation) (x : Experiment) (a : Adversary) (l : Link) : Type 0 where
  pub before : HasTapes (chance_of (setting_of s.declarations i) x a s.game)
  pub behind : HasTapes (chance_of (setting_of s.declarations i) x a (next_behind l))
  pub sides : HasSides s i x a l (chance_of (setting_of s.declarations i) x a s.game) (chance_of (setting_of s.declarations i) x a (next_behind l))
  pub within :
      (advantages : Advantages) → HasPrice s advantages i x a l
      → AtMost (distance (chance_of (setting_of s.declarations i) x a s.game) (chance_of (setting_of s.declarations i) x a (next_behind l))) (cost_value i advantages (cost_behind l) false)

-- the advantages of links have tapes

abbrev pub HasTapedPrice : Advantages → Link → Type 0
HasTapedPrice advantages (ByStep step cost next) = Unit {0}
HasTapedPrice advantages (ByEquivalence n e key next) = HasTapes (advantages n term.Events)

abbrev pub HaveTapedPrices : Advantages → List Link → Type 0
HaveTapedPrices advantages links = AllByRecursion (HasTapedPrice advantages) links

-- what an accepted file gives of an equivalence
pub record IsEquivalenceOfFile (ds : List Declaration) (t : Tree) : Type 0 where
  pub left : HasLeftForm t
  pub accepted : IsAccepted (symbols_of ds) t
  pub right : IsRightOfFile ds t

-- What it gives of its declarations and of its game, where it has so many names.
pub record IsFileOf (ds : List Declaration) (own : ℕ) (first : Tree) : Type 0 where
  pub ready : IsReady ds first
  pub constants : HasConstants ds
  pub derivations : DerivationsHold ds
  pub bodies : DerivedBodiesAreUnreached ds
  pub known_queries : KnowsQueries (file_scene ds own first)
  pub known_constants : KnowsConstants (file_scene ds own first)
  pub names : own ≤ first_answer
  pub unasked : AskForNoIndex (file_scene ds own first)
  pub equivalences : (e : ℕ) (t : Tree) → equivalence_of (file_scene ds own first) e ≡ Some t → IsEquivalenceOfFile ds t
