-- The value of a sum that bounds an advantage: collisions count by the interpretation, and the advantages of contexts in
-- the same experiment. Contexts are those of Blanchet and Pointcheval, CRYPTO 2006.
use Rattle.std.specs.Prelude.{ℕ, Bool, false, true, ◌==◌, if◌then◌else◌, List, [], ◌∷◌, Option, Some, None}
use Rattle.cv_syntax_trees.specs.declared.head.Head.TheVariants.{Secret, SecretOnce}
use Rattle.cv_syntax_trees.specs.Declarations.{Declaration}
use Rattle.cv_syntax_trees.specs.Tree.{Tree, Node}
use Rattle.cv_meaning.specs.Interpretation.{Interpretation}
use Rattle.cv_meaning.specs.Runs.{Adversary}
use Rattle.cv_meaning.specs.Runs as mode
use Rattle.cv_meaning.specs.Experiments as meaning
use Rattle.cv_meaning.specs.Chances.{Chance, zero_chance}
use Rattle.cv_meaning.specs.contexts.Sides.{Context}
use Rattle.cv_meaning.specs.contexts.ContextAdvantage.{context_advantage}
use Rattle.cv_bound.specs.declared.terms.Experiment.{Experiment}
use Rattle.cv_bound.specs.declared.terms.Experiment.TheVariants.{Events, Real, Random}
use Rattle.cv_bound.specs.declared.terms.Term.{Term}
use Rattle.cv_steps.specs.values.Values.{Advantages, sum_value}

-- the contexts of cryptographic steps, each with the number of its step
abbrev pub Contexts : Type 0
Contexts = List (ℕ × Context)

abbrev pub context_of : Contexts → ℕ → Option Context
context_of [] step = None
context_of (c ∷ cs) step = if c.0 == step then Some c.1 else context_of cs step

-- the form of a query of secrecy, and its variable
abbrev pub is_once : Tree → Bool
is_once (Node (SecretOnce x) a b) = true
is_once q = false

abbrev pub secret_of : Tree → ℕ
secret_of (Node (Secret x) a b) = x
secret_of (Node (SecretOnce x) a b) = x
secret_of q = 0

-- what is counted of a context in an experiment of a query
abbrev pub counted_of : Tree → Experiment → meaning.Experiment
counted_of q Events = meaning.Breaks q
counted_of q Real = meaning.Guesses (mode.Real (is_once q) (secret_of q))
counted_of q Random = meaning.Guesses (mode.Random (is_once q) (secret_of q))

abbrev pub advantage_of : List Declaration → Interpretation → meaning.Experiment → Adversary → Option Context → Chance
advantage_of ds i x a None = zero_chance
advantage_of ds i x a (Some c) = context_advantage ds i c x a

-- the advantages of the contexts in an experiment; a step without a context has none
abbrev pub advantages_in : List Declaration → Interpretation → Contexts → meaning.Experiment → Adversary → Advantages
advantages_in ds i cs x a step e = advantage_of ds i x a (context_of cs step)

-- those against a query
abbrev pub advantages_of : List Declaration → Interpretation → Contexts → Tree → Adversary → Advantages
advantages_of ds i cs q a step e = advantages_in ds i cs (counted_of q e) a step e

abbrev pub value_of : List Declaration → Interpretation → Contexts → Tree → Adversary → List Term → Chance
value_of ds i cs q a s = sum_value i (advantages_of ds i cs q a) s
