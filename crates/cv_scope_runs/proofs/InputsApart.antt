-- In a run of a well-formed game no two available copies answer to the same calls.
use Rattle.std.proofs.Common.{◌≡◌, ℕ, Bool, true, false, ◌==◌, List, [], ◌∷◌, ◌++◌, inl, refl, sym, ap, subst, eqb-true, eq-eqb}
use Rattle.std.proofs.lemmas.Bool.{and_parts}
use Rattle.std.specs.List.{AllByRecursion, IsDistinct}
use Rattle.cv_syntax_trees.specs.declared.head.Head.TheVariants.{In}
use Rattle.cv_syntax_trees.specs.Tree.{Tree, Node}
use Rattle.cv_meaning.specs.Tapes.{Tape}
use Rattle.cv_meaning.specs.Interpretation.{Setting}
use Rattle.cv_meaning.specs.Memory.{tuple}
use Rattle.cv_meaning.specs.Inputs.{Input}
use Rattle.cv_meaning.specs.Runs.{Mode, Adversary}
use Rattle.cv_meaning.specs.Experiments.{run, coins_on}
use Rattle.cv_meaning_laws.proofs.Counts.{same_tuple_exact}
use Rattle.cv_meaning_runs.specs.Placed.{IsInputOn, InputHas}
use Rattle.cv_meaning_runs.specs.Spots.{same_address}
use Rattle.cv_meaning_runs.proofs.Placed.{available_have}
use Rattle.cv_scope_rules.specs.declared.position.Position.TheVariants.{Anywhere}
use Rattle.cv_scope_rules.specs.Sites.{SiteName, Channel}
use Rattle.cv_scope_rules.specs.Branches.{Pairs, IsApartByBranches}
use Rattle.cv_scope_runs.proofs.OnceRuns.{Has, InputsApart, inputs_apart}
use Rattle.cv_scope_runs.proofs.OnceGames.{MakesName, names_single}
use Rattle.cv_syntax_trees.proofs.lists.Each.{AllByRecursion_both}

IsInput : Input → Type 0
IsInput i = IsInputOn i.channel i.tree

-- an input makes a copy of its channel's
has_channel : (c p : ℕ) (b : Tree) → IsInputOn c b → Has SiteName MakesName p b (Channel c)
has_channel c p (Node (In d) a b) e = inl (eq-eqb c d (sym e))
has_channel c p b e = absurd e

differ : (i j : Input) → IsInput i → IsInput j → InputsApart SiteName MakesName i j → same_address i j ≡ false
unfolding IsInput
differ i j p q h = go (same_address i j) refl
  where
    go : (b : Bool) → same_address i j ≡ b → b ≡ false
    go true e =
        let r = and_parts (i.channel == j.channel) _ e in
        let k : i.channel ≡ j.channel = eqb-true i.channel j.channel r.0 in
        absurd (h (Channel i.channel) (has_channel i.channel i.place i.tree p) (subst (λ c. Has SiteName MakesName j.place j.tree (Channel c)) (sym k) (has_channel j.channel j.place j.tree q)) [] [] (ap (λ u. u ++ []) (same_tuple_exact (tuple i.indices) (tuple j.indices) r.1)))
    go false e = refl

distinct : (is : List Input) → AllByRecursion IsInput is → Pairs (InputsApart SiteName MakesName) is → IsDistinct same_address is
unfolding IsDistinct
distinct [] p h = tt
distinct (i ∷ is) p h = (AllByRecursion_both IsInput (InputsApart SiteName MakesName i) (λ j. same_address i j ≡ false) (λ j q k. differ i j p.0 q k) is p.1 h.0, distinct is p.1 h.1)

each_input : (is : List Input) → AllByRecursion (InputHas (λ p b. Unit {0})) is → AllByRecursion IsInput is
unfolding IsInput
each_input [] h = tt
each_input (i ∷ is) h = (h.0.0, each_input is h.1)

pub inputs_distinct : (g : Setting) (m : Mode) (a : Adversary) (game : Tree) (t : Tape) → IsApartByBranches game → IsDistinct same_address (run g m a game t).inputs
unfolding run
inputs_distinct g m a game t s =
    distinct _ (each_input _ (available_have (λ p b. Unit {0}) g m a game t (λ p h a b x. (tt, tt)) tt))
    (inputs_apart SiteName MakesName g m (a.next (coins_on t 0 a.coins)) t a.moves game (names_single Anywhere [] 0 game s))
