use Rattle.std.proofs.Common.{refl}
use Rattle.std.proofs.lemmas.List.Elements.{All-weaker}
use Rattle.cv_meaning.specs.Interpretation.{setting_of}
use Rattle.cv_meaning.specs.Experiments.{run, visits_of_run}
use Rattle.cv_meaning_laws.specs.adequacy.Typed.{IsTypedStore}
use Rattle.cv_typing_runs.specs.Games.{context_of}
use Rattle.cv_derive_laws.specs.reached.Copies.{AreReachedInPairs}
use Rattle.cv_derive_laws.proofs.reached.Ended.{reached_in_pairs}
use Rattle.cv_derive_laws.proofs.reached.visited_copies_stay_reached.Goals as goal

pub returns : goal.returns
returns c = λ s ready i model m a.
    let g = setting_of s.declarations i in
    let w = c.games_are_contexts.ensures.games s.declarations s.game ready.formed in
    All-weaker (λ t. IsTypedStore (context_of s.declarations s.game) i (run g m a s.game t).memory.store) (λ t. AreReachedInPairs s i (run g m a s.game t).memory (visits_of_run g m a s.game t))
    (λ t types.
    reached_in_pairs s i (run g m a s.game t) (visits_of_run g m a s.game t) (c.facts_hold_where_they_stand.ensures.places s.declarations g m a s.game t refl w) (c.runs_only_grow.ensures.last s.declarations g m a s.game t refl w)
    (c.facts_hold_where_they_stand.ensures.last s.declarations g m a s.game t refl w) types (c.late_variables_are_unassigned.ensures.visited s.declarations g m a s.game t refl w)) _
    (c.typed_games_have_typed_runs.ensures s.declarations s.game ready.arguments ready.formed ready.typed ready.names ready.sorts i model m a)
