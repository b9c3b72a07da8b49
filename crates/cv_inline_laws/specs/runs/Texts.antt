-- The run of a context with the right side beside that of its next game. This profile's own.
use Rattle.std.specs.Prelude.{◌≡◌, ℕ, ◌<◌, Bool, true, false, ◌==◌, List, [], ◌∷◌, length, is_some, Some, None}
use Rattle.std.specs.List.{AllByRecursion}
use Rattle.cv_syntax_trees.specs.Tree.{Tree, reads_only}
use Rattle.cv_meaning.specs.Tapes.{Tape, New_at, Find_at, Made_at, Picked_at, Key_at, same_tuple}
use Rattle.cv_meaning.specs.Side.{CallNumber, Arrays, OracleAnswer}
use Rattle.cv_meaning.specs.Interpretation.{Setting}
use Rattle.cv_meaning.specs.Memory.{Store, Happened, Indices, tuple, put}
use Rattle.cv_meaning.specs.Terms.{found_in, values, value}
use Rattle.cv_meaning.specs.Candidates.{is_assigned}
use Rattle.cv_meaning.specs.Serving.{Served, serve}
use Rattle.cv_meaning_laws.specs.Agreement.{AgreeOn}
use Rattle.cv_meaning.specs.contexts.Groups.{Function}
use Rattle.cv_meaning.specs.contexts.Sites.{Site}
use Rattle.cv_meaning.specs.contexts.Finds.{Oracles}
use Rattle.cv_meaning.specs.contexts.Bodies.{function_called}
use Rattle.cv_meaning.specs.contexts.Inlined.{Caller, TheKey, index_terms, is_index_of, is_own, needed}
use Rattle.cv_meaning.specs.contexts.Roles.{Role, Plain, Replication, Gone, TheKeyName, Variable, Index, is_plain, is_elsewhere, is_kept}
use Rattle.cv_inline.specs.bodies.Inlining.{Inlining, Naming}
use Rattle.cv_inline.specs.bodies.Accepted.{IsFineCall}
use Rattle.cv_meaning.specs.contexts.KeyTerms.{AreFineKeyTerms}
use Rattle.cv_inline.specs.bodies.Related.{MadeUnder, RunPair, with_made, at_its_key, indices_at, IsKept, AreSitesOf}
use Rattle.cv_inline.specs.NextGame.{InlinedCalls, callers_of}

-- the variables of the game, and the indices of its replications
abbrev pub is_ordinary : Role → Bool
is_ordinary Plain = true
is_ordinary Replication = true
is_ordinary r = false

-- a context and its next game, with the names that are drawn and their roles, and the tapes of the two runs
pub record Text : Type 0 where
  pub g : Setting  -- of the next game
  pub calls : InlinedCalls
  pub sites : List Site
  pub answer : ℕ → ℕ  -- the variable that takes the answer of a site
  pub side_tape : Tape
  pub game_tape : Tape
  pub key_length : ℕ  -- how many indices the key has
  pub role : ℕ → Role
  pub drawn : ℕ → Bool
  pub has : ℕ → ℕ → Bool  -- a name is drawn at a site
  pub constant : ℕ → Bool
  pub arity : ℕ → ℕ  -- the number of indices of a site
  pub finds : (site place : ℕ) → Bool
  pub opens : (site place other branch : ℕ) → Bool
  pub no_constant : (y : ℕ) → drawn y ≡ true → g.is_constant y ≡ false
  pub constants : (x : ℕ) → constant x ≡ true → g.is_constant x ≡ true
  pub drawn_key : drawn calls.drawn.key ≡ true
  pub drawn_at : (s v : ℕ) → has s v ≡ true → drawn (calls.drawn.variable s v) ≡ true
  pub drawn_indices : (s q o b k : ℕ) → opens s q o b ≡ true → k < arity o → drawn (calls.drawn.index s q o b k) ≡ true
  pub key_role : role calls.drawn.key ≡ TheKeyName
  pub variables : (s v : ℕ) → has s v ≡ true → role (calls.drawn.variable s v) ≡ Variable s v
  pub indices : (s q o b k : ℕ) → opens s q o b ≡ true → k < arity o → role (calls.drawn.index s q o b k) ≡ Index s q o b k
  pub answers : (s : ℕ) → role (answer s) ≡ Gone
  pub key_apart : (s : ℕ) → (calls.key == answer s) ≡ false

abbrev pub plain_in : Text → ℕ → Bool
plain_in T y = is_plain (T.role y)

abbrev pub oracles_in : Text → Oracles
oracles_in T = record { setting = T.g; group = T.calls.group; sites = T.sites }

-- a caller's call at values of its indices; what it draws is on both tapes the same
pub record IsHere (T : Text) (c : Caller) (at : Indices) : Type 0 where
  pub free : (y : ℕ) → T.drawn y ≡ true → found_in at y ≡ None
  pub no_index : (x : ℕ) → T.constant x ≡ true → found_in at x ≡ None
  pub not_own : (x : ℕ) → T.constant x ≡ true → is_own c x ≡ false
  pub terms : (n : Store) → values T.g at n (index_terms c.replications) ≡ tuple at
  pub replications : (x : ℕ) → is_index_of c.replications x ≡ true → T.role x ≡ Replication
  pub found : (x : ℕ) → is_index_of c.replications x ≡ true → (v : ℕ) × (found_in at x ≡ Some v)
  pub arity : length (tuple at) ≡ T.arity c.number
  pub apart : (x : ℕ) → plain_in T x ≡ true → found_in at x ≡ None
  pub key_terms : AreFineKeyTerms (is_index_of c.replications) (plain_in T) c.key
  pub chosen : (z : ℕ) → T.has c.number z ≡ true → T.side_tape (Made_at z (tuple at) c.number) ≡ T.game_tape (New_at (T.calls.drawn.variable c.number z) (tuple at))
  pub picked : (q : ℕ) → T.finds c.number q ≡ true → T.side_tape (Picked_at q (tuple at) c.number) ≡ T.game_tape (Find_at (T.calls.drawn.label c.number q) (tuple at))

abbrev pub inlining_at : (T : Text) (c : Caller) (at : Indices) → IsHere T c at → Inlining
inlining_at T c at h =
    record {
      g = T.g;
      d = T.calls.drawn;
      c = c;
      at = at;
      drawn = T.drawn;
      has = T.has;
      constant = T.constant;
      arity = T.arity;
      finds = T.finds c.number;
      opens = T.opens c.number;
      free = λ y e. (h.free y e, T.no_constant y e);
      drawn_at = T.drawn_at;
      drawn_key = T.drawn_key;
      here = h.terms;
      constants = λ x e. (T.constants x e, h.no_index x e, h.not_own x e);
    }

abbrev pub naming_at : (T : Text) (c : Caller) (at : Indices) (h : IsHere T c at) → Naming (inlining_at T c at h)
naming_at T c at h =
    record {
      role = T.role;
      key = T.key_role;
      variables = T.variables;
      indices = T.indices c.number;
      index_drawn = T.drawn_indices c.number;
      replications = h.replications;
    }

abbrev pub run_pair_in : Text → RunPair
run_pair_in T = record { group = T.calls.group; sites = T.sites; callers = callers_of T.calls.callings; side_tape = T.side_tape; game_tape = T.game_tape }

-- the key of a site's call at a tuple keeps its values in stores that keep what is assigned
pub record KeyKeeps (T : Text) (m : Store) (s : Caller) (w key : List ℕ) : Type 0 where
  pub found : (x : ℕ) → is_index_of s.replications x ≡ true → (v : ℕ) × (found_in (indices_at s.replications w) x ≡ Some v)
  pub value : (later : Store) → IsKept m later → values T.g (indices_at s.replications w) later s.key ≡ key
  pub assigned : (later : Store) → IsKept m later → AllByRecursion (λ r. is_assigned T.g (indices_at s.replications w) later later r ≡ true) (needed (is_index_of s.replications) s.key)

-- The store m and the arrays of the context's run, and the store n of the next game's, where these calls were
-- made: the variables of the game are equal, the arrays are the drawn variables, the answers of calls are
-- assigned, their keys keep their values, and the key that is drawn is assigned where the context has
-- chosen one.
pub record AreRelatedIn (T : Text) (made : MadeUnder) (m : Store) (ar : Arrays) (n : Store) : Type 0 where
  pub ordinary : AgreeOn (λ y. is_ordinary (T.role y)) m n
  pub arrays : (v : ℕ) (k : List ℕ) (c : CallNumber) → T.has c.site v ≡ true → ar v k c ≡ at_its_key (made c) k (n (T.calls.drawn.variable c.site v) c.tuple)
  pub unmade : (c : CallNumber) → made c ≡ None → (v : ℕ) → T.has c.site v ≡ true → n (T.calls.drawn.variable c.site v) c.tuple ≡ None
  pub answered : (c : CallNumber) (k : List ℕ) → made c ≡ Some k → is_some (m (T.answer c.site) c.tuple) ≡ true
  pub stays : AllByRecursion (λ s. (w k : List ℕ) → made (record { tuple = w; site = s.number }) ≡ Some k → KeyKeeps T m s w k × (length k ≡ T.key_length)) (callers_of T.calls.callings)
  pub key_cells : (w : List ℕ) → is_some (m T.calls.key w) ≡ is_some (n T.calls.drawn.key w)
  pub key_values : (w : List ℕ) → is_some (m T.calls.key w) ≡ true → n T.calls.drawn.key w ≡ Some (T.side_tape (Key_at w))

-- what is expected of the state before a call of a site's: its answer is not assigned, its key is chosen, and
-- the key's terms keep their values
pub record IsExpectedCall (T : Text) (c : Caller) (m : Store) (at : Indices) (key : List ℕ) : Type 0 where
  pub here : IsHere T c at
  pub fresh : m (T.answer c.number) (tuple at) ≡ None
  pub key_value : values T.g at m c.key ≡ key
  pub key_length : length key ≡ T.key_length
  pub key_chosen : is_some (m T.calls.key key) ≡ true
  pub stays : AllByRecursion (λ s. s.number ≡ c.number → KeyKeeps T m s (tuple at) key) (callers_of T.calls.callings)

-- a call's text: it is of this function, whose right body can stand in the game, and its arguments read the
-- game's variables and indices
pub record IsFineCalling (T : Text) (c : Caller) (f : Function) (at : Indices) (h : IsHere T c at) (arguments : Tree) : Type 0 where
  pub function : function_called (oracles_in T) (record { tuple = tuple at; site = c.number }) ≡ Some f
  pub no_coins : f.coins ≡ []
  pub body : IsFineCall (inlining_at T c at h) (callers_of T.calls.callings) ((T.calls.group.key.0, TheKey) ∷ []) f.arguments arguments f.body
  pub plain_arguments : reads_only (λ y. is_ordinary (T.role y)) arguments ≡ true
  pub sites : AreSitesOf (inlining_at T c at h) (plain_in T) (oracles_in T) (callers_of T.calls.callings) T.sites

-- a later store of the next game, for the result of a call of a site's: variables of the game, the key, the
-- indices of the call's finds, and what was assigned for calls that were made are as before
pub record IsLaterIn (T : Text) (site : ℕ) (made : MadeUnder) (n later : Store) : Type 0 where
  pub names : AgreeOn (λ y. is_kept site (T.role y)) n later
  pub calls : (d : CallNumber) (k : List ℕ) → made d ≡ Some k → (v : ℕ) → T.has d.site v ≡ true → n (T.calls.drawn.variable d.site v) d.tuple ≡ later (T.calls.drawn.variable d.site v) d.tuple

-- in place of the call stands what comes to the rest of the statement with a result of the answer's value,
-- there and later, in a store that is related again
pub record IsServedAs (T : Text) (c : Caller) (at : Indices) (made : MadeUnder) (key : List ℕ) (es : List Happened) (br : Arrays) (m n : Store) (follows : Tree → Tree) (r : OracleAnswer) (served : Served) : Type 0 where
  pub result : Tree
  pub store : Store
  pub place : ℕ
  pub branch : ℕ
  pub chosen : List ℕ
  pub elsewhere : AgreeOn (λ y. is_elsewhere c.number (T.role y)) n store
  pub related : AreRelatedIn T (with_made made (record { tuple = tuple at; site = c.number }) key) (put m (T.answer c.number) (tuple at) r.value) r.arrays store
  pub other_tuples : (x : ℕ) (u : List ℕ) → same_tuple u (tuple at) ≡ false → n x u ≡ store x u
  pub value : (later : Store) → IsLaterIn T c.number (with_made made (record { tuple = tuple at; site = c.number }) key) store later → value T.g at later result ≡ r.value
  pub service : served ≡ serve T.g T.game_tape (follows result) place branch chosen (record { indices = at; memory = record { store = store; events = es; arrays = br } })
