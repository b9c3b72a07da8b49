use Rattle.std.proofs.Common.{refl}
use Rattle.cv_meaning.specs.Correspondences.{correspondence_of}
use Rattle.cv_meaning.specs.Interpretation.{setting_of}
use Rattle.cv_meaning.specs.Experiments.{run}
use Rattle.cv_meaning.specs.Runs.{Events}
use Rattle.cv_meaning.specs.Tapes.{blank}
use Rattle.cv_meaning.specs.Cells.{cells}
use Rattle.cv_meaning_laws.specs.adequacy.Counted.{tapes_of}
use Rattle.std.specs.Prelude.{get_or}
use Rattle.cv_query_injections.proofs.matching.Kept.{kept}
use Rattle.cv_query_injections.proofs.accepted_injections_hold.Goals as goal

pub returns : goal.returns
returns c = λ s query certificate proved inj i model a k d l.
    let g = setting_of s.declarations i in
    let well = c.games_are_contexts.ensures.games s.declarations s.game proved.ready.formed in
    let t = get_or (tapes_of (cells g Events a s.game) blank) k d in
    kept s query certificate proved inj i model (λ y. c.sites_stand_in_the_game.ensures.behind s.declarations s.game y well) a t
    (λ es. c.broken_says_its_sentence.ensures.kept g (correspondence_of query) es)
    (λ n e h. c.positions_are_visits.ensures.events g Events a s.game t n e h)
    (λ x v news first. c.chosen_values_are_drawn.ensures.last s.declarations g Events a s.game t x v refl proved.ready.formed news first)
    (λ x parameters drawn differ u w v e f. c.equal_values_stand_at_one_tuple.ensures g x parameters t (run g Events a s.game t).memory.store drawn differ u w v e f)
    (c.visited_copies_stay_reached.ensures s proved.ready i model Events a k d l)
    (c.derivations_of_visited_copies_hold.ensures s proved.ready i model Events a k d l)
    (proved.sound.places s refl proved.ready i model Events a k d l)
    (λ place entry z. c.entries_are_met_by_visits.ensures s query proved.ready proved.sound proved.correspondence proved.closed i model a place entry z k d l)
