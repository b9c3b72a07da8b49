-- The copies that a call may take.
use Rattle.std.proofs.Common.{◌≡◌, ℕ, Bool, true, false, cond, ◌&&◌, ◌==◌, List, [], ◌∷◌, Option, Some, None, refl, sym, ap, ap₂, subst, ◌∙◌, eqb-true, eq-eqb}
use Rattle.std.proofs.lemmas.Bool.{both_ways, and_parts}
use Rattle.std.specs.List.{AllByRecursion, IsDistinct}
use Rattle.cv_syntax_trees.specs.declared.head.Head.TheVariants.{In}
use Rattle.cv_syntax_trees.specs.Tree.{Tree, Node}
use Rattle.cv_meaning.specs.Tapes.{Tape, same_tuple}
use Rattle.cv_meaning.specs.Interpretation.{Setting}
use Rattle.cv_meaning.specs.Memory.{tuple}
use Rattle.cv_meaning.specs.Inputs.{Input}
use Rattle.cv_meaning.specs.Runs.{Mode, Adversary, Taken, taken, behind, is_at}
use Rattle.cv_meaning.specs.Experiments.{run, visits_of_run}
use Rattle.cv_meaning_laws.proofs.Counts.{same_tuple_exact, same_tuple_refl}
use Rattle.cv_meaning_runs.specs.Placed.{IsInputOn, InputHas, IsSubtree}
use Rattle.cv_meaning_runs.specs.Spots.{same_spot, spot_of_input, spots_of_visits, spots_of_inputs, same_address, HasOwnChannels}
use Rattle.cv_meaning_runs.proofs.Lists.{distinct_right}
use Rattle.cv_meaning_runs.proofs.Placed.{inputs_subtrees}
use Rattle.cv_meaning_runs.proofs.Spots.{spots_distinct}
use Rattle.cv_syntax_trees.proofs.lists.Each.{AllByRecursion_weaker}

other_address : (c : ℕ) (u : List ℕ) (i j : Input) → is_at c u i ≡ true → same_address i j ≡ false → is_at c u j ≡ false
other_address c u i j e f = go (is_at c u j) refl
  where
    go : (b : Bool) → is_at c u j ≡ b → b ≡ false
    go false q = refl
    go true q =
        let x = and_parts (i.channel == c) _ e in
        let y = and_parts (j.channel == c) _ q in
        let same : same_address i j ≡ true = ap₂ ◌&&◌ (eq-eqb i.channel j.channel (eqb-true i.channel c x.0 ∙ sym (eqb-true j.channel c y.0)))
        (ap (same_tuple (tuple i.indices)) (same_tuple_exact (tuple j.indices) u y.1 ∙ sym (same_tuple_exact (tuple i.indices) u x.1)) ∙ same_tuple_refl (tuple i.indices)) in
        absurd (both_ways _ f same)

pub taken_alone : (c : ℕ) (u : List ℕ) (is : List Input) (k : Taken) → IsDistinct same_address is → taken c u is ≡ Some k → AllByRecursion (λ i. is_at c u i ≡ false) k.others
unfolding taken IsDistinct
taken_alone c u [] k d e = cc
taken_alone c u (i ∷ is) k d e = go (is_at c u i) refl (taken c u is) (λ r. taken_alone c u is r d.1) e
  where
    go : (b : Bool) → is_at c u i ≡ b → (o : Option Taken) → ((r : Taken) → o ≡ Some r → AllByRecursion (λ j. is_at c u j ≡ false) r.others) → cond b (Some (record { input = i; others = is })) (behind i o) ≡ Some k
        → AllByRecursion (λ j. is_at c u j ≡ false) k.others
    go true x o ih e =
        let q : record { input = i; others = is } ≡ k = cc in
        subst (λ (r : Taken). AllByRecursion (λ j. is_at c u j ≡ false) r.others) q (AllByRecursion_weaker (λ j. same_address i j ≡ false) (λ j. is_at c u j ≡ false) (λ j. other_address c u i j x) is d.0)
    go false x None ih e = cc
    go false x (Some r) ih e =
        let q : record r { others = i ∷ r.others } ≡ k = cc in
        subst (λ (r : Taken). AllByRecursion (λ j. is_at c u j ≡ false) r.others) q (x, ih r refl)

-- where each channel is of one input of the game, copies of one address are of one spot

input_tree : (c : ℕ) (b : Tree) → IsInputOn c b → (x y : Tree) × (b ≡ Node (In c) x y)
input_tree c (Node (In d) x y) e = (x, y, ap (λ n. Node (In n) x y) e)
input_tree c b e = absurd e

address_spot : (game : Tree) → HasOwnChannels game → (i j : Input) → InputHas (IsSubtree game) i → InputHas (IsSubtree game) j → same_spot (spot_of_input i) (spot_of_input j) ≡ false → same_address i j ≡ false
address_spot game h i j x y f = go (same_address i j) refl
  where
    go : (b : Bool) → same_address i j ≡ b → b ≡ false
    go false q = refl
    go true q =
        let z = and_parts (i.channel == j.channel) _ q in
        let v = input_tree i.channel i.tree x.0 in
        let w = input_tree j.channel j.tree y.0 in
        let e : i.channel ≡ j.channel = eqb-true i.channel j.channel z.0 in
        let same : i.place ≡ j.place = h i.place j.place i.channel v.0 v.1 w.0 w.1 (x.1 ∙ ap Some v.2) (y.1 ∙ ap Some (w.2 ∙ ap (λ n. Node (In n) w.0 w.1) (sym e))) in
        absurd (both_ways _ f (ap₂ ◌&&◌ (eq-eqb i.place j.place same) z.1))

addresses_distinct : (game : Tree) → HasOwnChannels game → (is : List Input) → AllByRecursion (InputHas (IsSubtree game)) is → IsDistinct same_spot (spots_of_inputs is) → IsDistinct same_address is
unfolding IsDistinct
addresses_distinct game h [] x d = tt
addresses_distinct game h (i ∷ is) x d = (go is x.1 d.0, addresses_distinct game h is x.1 d.1)
  where
    go : (js : List Input) → AllByRecursion (InputHas (IsSubtree game)) js → AllByRecursion (λ s. same_spot (spot_of_input i) s ≡ false) (spots_of_inputs js) → AllByRecursion (λ j. same_address i j ≡ false) js
    go [] y e = tt
    go (j ∷ js) y e = (address_spot game h i j x.0 y.0 e.0, go js y.1 e.1)

pub available_apart : (g : Setting) (m : Mode) (a : Adversary) (game : Tree) (t : Tape) → HasOwnChannels game → IsDistinct same_address (run g m a game t).inputs
available_apart g m a game t h = addresses_distinct game h _ (inputs_subtrees g m a game t) (distinct_right same_spot (spots_of_visits (visits_of_run g m a game t)) _ (spots_distinct g m a game t))
