-- What is compared has tapes: the advantages of contexts, and those against the queries of a file.
use Rattle.std.proofs.Common.{◌≡◌, ℕ, ◌≤◌, true, false, List, [], ◌∷◌, ◌++◌, length, append_assoc, refl, ap, sym, ◌∙◌, subst, mul-pos, Some, Ok}
use Rattle.std.specs.Prelude.{Contains, slice_get}
use Rattle.cv_syntax_trees.specs.declared.head.Head.TheVariants.{Query, Secret, SecretOnce}
use Rattle.cv_syntax_trees.specs.Declarations.{Declaration}
use Rattle.cv_syntax_trees.specs.Tree.{Tree, Empty, Node}
use Rattle.cv_library.specs.Givens.{Given}
use Rattle.cv_accept.specs.Accepted.{Content, most_bytes, read_of}
use Rattle.cv_accept.proofs.Readings.{accepted}
use Rattle.cv_sequences.proofs.files.Ready.{file_of, valued}
use Rattle.cv_steps.specs.values.Values.{Advantages}
use Rattle.cv_derive_laws.specs.stores.Soundness.{DerivationsHold, DerivedBodiesAreUnreached}
use Rattle.cv_kernel.specs.Followed.{known_to}
use Rattle.cv_match_laws.specs.answers.Answers.{file_scene}
use Rattle.cv_meaning.specs.Advantage.{IsAsked, advantage}
use Rattle.cv_meaning.specs.Experiments.{Breaks, Experiment, Guesses, mode_of}
use Rattle.cv_meaning.specs.Interpretation.{Interpretation, setting_of}
use Rattle.cv_meaning.specs.Queries.{queries_in}
use Rattle.cv_meaning.specs.Runs.{Adversary, Random, Real}
use Rattle.cv_meaning.specs.Satisfies.{Satisfies}
use Rattle.cv_meaning_chances.specs.Fractions.{HasTapes}
use Rattle.cv_meaning_chances.specs.values.Values.{HasValuesIn}
use Rattle.cv_meaning_chances.proofs.values.Tapes.{tapes}
use Rattle.cv_meaning.specs.contexts.ContextAdvantage.{context_advantage}
use Rattle.cv_accept.specs.Accepted.{most_pool}
use Rattle.cv_query_form.specs.Rules.{AreAsked, MayBeAsked}
use Rattle.cv_scene.specs.Reductions.{context_of_game}
use Rattle.cv_scene.specs.Scenes.{Scene}
use Rattle.cv_sequences.specs.Chains.{ByEquivalence, ByStep, HasPrice, HasTapedPrice, HaveTapedPrices, IsChain, IsLink, Link, Prices}
use Rattle.cv_sequences.specs.Chains as chains
use Rattle.cv_sequences.proofs.Chains.{chain_ends}
use Rattle.cv_steps.specs.Sequences.{scene}
use Rattle.cv_steps_laws.specs.crypto.Conditions.{equivalence_by}
use Rattle.cv_steps_laws.specs.crypto.Steps.{reduction_of}
use Rattle.cv_steps_laws.proofs.crypto.Accepted.{accepted as accepted_step}
use Rattle.cv_scope_rules.specs.typing.Signature.{declaration_of}
use Rattle.cv.proofs.Closers.{all_put, closed_at, contains_at}

-- what each choice of a game, and each test that a query asks for, has
abbrev pub HaveValues : List Declaration → Tree → Type 0
HaveValues ds game = (i : Interpretation) → Satisfies ds i → (x : Experiment) → IsAsked (queries_in ds) x → HasValuesIn (setting_of ds i) (mode_of x) game

-- what the context of a game has, where the choices of the game have values
abbrev pub HaveTapedContexts : List Declaration → (own : ℕ) → Type 0
HaveTapedContexts ds own =
    (game : Tree) (y : ℕ) (t : Tree) (key : ℕ) → equivalence_by (declaration_of ds y) ≡ Some t → (i : Interpretation) → Satisfies ds i → (x : Experiment) (a : Adversary) → HasValuesIn (setting_of ds i) (mode_of x) game
    → HasTapes (context_advantage ds i (context_of_game (reduction_of (file_scene ds own game) t key)) x a)

-- the prices of links
module _ (ds : List Declaration) (own : ℕ) (first : Tree) (taped : HaveTapedContexts ds own) where
  abbrev at : Tree → Scene
  at game = scene ds (known_to own) game

  module _ (i : Interpretation) (sat : Satisfies ds i) (x : Experiment) (a : Adversary) (advantages : Advantages) (v : (links : List Link) (game : Tree) → IsChain ds (known_to own) first links game → HasValuesIn (setting_of ds i) (mode_of x) game) where
    taped_price : (links : List Link) (game : Tree) (l : Link) → IsChain ds (known_to own) first links game → IsLink (at game) l → HasPrice (at game) advantages i x a l → HasTapedPrice advantages l
    taped_price links game (ByStep step cost next) r k p = tt
    taped_price links game (ByEquivalence n e key next) r k p =
        let y = accepted_step (at game) e key next k in
        subst HasTapes (sym (p y.equivalence y.is_equivalence)) (taped game e y.equivalence key y.is_equivalence i sat x a (v links game r))

    pub taped_prices : (links : List Link) (last : Tree) → IsChain ds (known_to own) first links last → Prices ds (known_to own) first links advantages i x a → HaveTapedPrices advantages links
    taped_prices links last chains.start p = tt
    taped_prices links last (chains.push before game l c k) p =
        all_put (HasTapedPrice advantages) before l
        (taped_prices before game c (λ b m d e. p b m (d ++ l ∷ []) (ap (λ z. z ++ l ∷ []) e ∙ append_assoc b (m ∷ d) (l ∷ []))))
        (taped_price before game l c k (subst (λ g. HasPrice (at g) advantages i x a l) (chain_ends ds (known_to own) first before game c) (p before l [] refl)))

-- the advantage against a query that may be asked
module _ (ds : List Declaration) (game : Tree) (asked : AreAsked game (queries_in ds)) (values : HaveValues ds game) where
  by_kind : (query : Tree) → Contains (queries_in ds) query → MayBeAsked game query → (i : Interpretation) → Satisfies ds i → (a : Adversary) → HasTapes (advantage (setting_of ds i) query a game)
  unfolding MayBeAsked
  by_kind (Node Query bs sides) asks may i sat a = tapes (setting_of ds i) (Breaks (Node Query bs sides)) a game (values i sat (Breaks (Node Query bs sides)) asks)
  by_kind (Node (Secret x) Empty Empty) asks may i sat a =
      mul-pos (tapes (setting_of ds i) (Guesses (Real false x)) a game (values i sat (Guesses (Real false x)) asks)) (tapes (setting_of ds i) (Guesses (Random false x)) a game (values i sat (Guesses (Random false x)) asks))
  by_kind (Node (SecretOnce x) Empty Empty) asks may i sat a =
      mul-pos (tapes (setting_of ds i) (Guesses (Real true x)) a game (values i sat (Guesses (Real true x)) asks)) (tapes (setting_of ds i) (Guesses (Random true x)) a game (values i sat (Guesses (Random true x)) asks))
  by_kind query asks may i sat a = absurd may

  pub advantage_taped : (k : ℕ) (query : Tree) → slice_get (queries_in ds) k ≡ Some query → (i : Interpretation) → Satisfies ds i → (a : Adversary) → HasTapes (advantage (setting_of ds i) query a game)
  advantage_taped k query q = by_kind query (contains_at (queries_in ds) k query q) (closed_at (MayBeAsked game) (queries_in ds) asked k query q)

-- so those of a file
abbrev pub HaveTapedAdvantages : Content → Type 0
HaveTapedAdvantages c = (k : ℕ) (query : Tree) → slice_get (queries_in c.declarations) k ≡ Some query → (i : Interpretation) → Satisfies c.declarations i → (a : Adversary) → HasTapes (advantage (setting_of c.declarations i) query a c.game)

pub advantages_of_file : ((ds : List Declaration) → DerivationsHold ds) → ((ds : List Declaration) → DerivedBodiesAreUnreached ds) → (c : Content) (source : Given) (reads : read_of most_pool source ≡ Ok c) → length source.bytes ≤ most_bytes → HaveTapedAdvantages c
advantages_of_file holds unreached c source reads few =
    advantage_taped c.declarations c.game (accepted most_pool source c reads).asked (valued source c reads (file_of source c reads holds unreached few).ready)
