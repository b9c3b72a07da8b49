-- Stores have values of types at each visit, and with the values of a candidate.
use Rattle.std.proofs.Common.{List, [], ◌∷◌}
use Rattle.std.specs.List.{All, AllByRecursion}
use Rattle.std.proofs.lemmas.List.Elements.{All-weaker}
use Rattle.cv_syntax_trees.specs.Declarations.{Declaration}
use Rattle.cv_syntax_trees.specs.Tree.{Tree}
use Rattle.cv_meaning.specs.Tapes.{Tape, blank}
use Rattle.cv_meaning.specs.Interpretation.{Interpretation, setting_of}
use Rattle.cv_meaning.specs.Cells.{cells}
use Rattle.cv_meaning.specs.Memory.{Store}
use Rattle.cv_meaning.specs.Runs.{Adversary, Mode, State}
use Rattle.cv_meaning.specs.Experiments.{run, visits_of_run}
use Rattle.cv_meaning.specs.Satisfies.{Satisfies}
use Rattle.cv_meaning.specs.Serving.{Visit}
use Rattle.cv_meaning_laws.specs.adequacy.Counted.{tapes_of}
use Rattle.cv_meaning_laws.specs.adequacy.Typed.{Context, IsTypedStore}
use Rattle.cv_scope_rules.specs.Phrases.{IsWellFormed}
use Rattle.cv_scope_runs.specs.Promises.{GrowsToEnd}
use Rattle.cv_scope_runs.specs.Reads.{IsKept}
use Rattle.cv_scope_rules.specs.typing.Parts.{IsTypedGame}
use Rattle.cv_typing_runs.specs.Games.{HasArguments, HasDeclaredSorts, HasKnownNames, context_of}
use Rattle.cv_typing_runs.proofs.Games.{typed_runs}
use Rattle.cv_derive_laws.specs.stores.Reached.{HasTypes}

-- a store has what a later one has

kept_typed : (c : Context) (i : Interpretation) (m n : Store) → IsKept m n → IsTypedStore c i n → IsTypedStore c i m
kept_typed c i m n k h x V u v e f = h x V u v e (k x u v f)

ended_typed : (c : Context) (i : Interpretation) (st : State) (vs : List Visit) → IsTypedStore c i st.memory.store → AllByRecursion (GrowsToEnd st) vs → AllByRecursion (λ (v : Visit). IsTypedStore c i v.before.memory.store) vs
ended_typed c i st [] h k = tt
ended_typed c i st (v ∷ vs) h k = (kept_typed c i v.before.memory.store st.memory.store k.0.store h, ended_typed c i st vs h k.1)

pub typed_visits : (ds : List Declaration) (game : Tree) → HasArguments ds → IsWellFormed ds game → IsTypedGame ds game → HasKnownNames ds game → HasDeclaredSorts ds game → (i : Interpretation) → Satisfies ds i → (m : Mode) (a : Adversary)
    → ((t : Tape) → AllByRecursion (GrowsToEnd (run (setting_of ds i) m a game t)) (visits_of_run (setting_of ds i) m a game t))
    → All (λ t. AllByRecursion (HasTypes ds game i) (visits_of_run (setting_of ds i) m a game t)) (tapes_of (cells (setting_of ds i) m a game) blank)
typed_visits ds game g w t k d i s m a grows =
    All-weaker (λ t. IsTypedStore (context_of ds game) i (run (setting_of ds i) m a game t).memory.store) (λ t. AllByRecursion (HasTypes ds game i) (visits_of_run (setting_of ds i) m a game t))
    (λ t h. ended_typed (context_of ds game) i (run (setting_of ds i) m a game t) (visits_of_run (setting_of ds i) m a game t) h (grows t)) _ (typed_runs ds game g w t k d i s m a)
