-- What a side has of its calls, and what the next game has in place of them. This profile's own.
use Rattle.std.specs.Prelude.{◌≡◌, ℕ, Bool, true, false, ◌==◌, if◌then◌else◌, List, [], ◌∷◌, map, length, is_some, Option, Some, None}
use Rattle.std.specs.List.{AllByRecursion}
use Rattle.cv_syntax_trees.specs.Tree.{Tree, reads_only}
use Rattle.cv_meaning.specs.Tapes.{Tape, New_at, Find_at, Made_at, Picked_at, Key_at, same_tuple}
use Rattle.cv_meaning.specs.Side.{CallNumber, Arrays, OracleAnswer}
use Rattle.cv_meaning.specs.Memory.{Store, Happened, Indices, Local, tuple, put}
use Rattle.cv_meaning.specs.Terms.{found_in, values, value}
use Rattle.cv_meaning.specs.Candidates.{is_assigned}
use Rattle.cv_meaning.specs.Serving.{Served, serve}
use Rattle.cv_meaning_laws.specs.Agreement.{AgreeOn}
use Rattle.cv_meaning.specs.contexts.Groups.{Group}
use Rattle.cv_meaning.specs.contexts.Sites.{Site}
use Rattle.cv_meaning.specs.contexts.Frames.{Frame, Meaning, IsValue, IsCall, meaning_of, same_number}
use Rattle.cv_meaning.specs.contexts.Finds.{Oracles, has_bound, function_of_site}
use Rattle.cv_meaning.specs.contexts.Inlined.{Caller, Standing, TheKey, Own, CallOf, Scope, standing_of, is_index_of, needed}
use Rattle.cv_inline.specs.bodies.Inlining.{Inlining, Naming, plain, elsewhere, seen, kept}
use Rattle.cv_inline.specs.bodies.Accepted.{is_assigned_above}
use Rattle.cv_meaning.specs.contexts.KeyTerms.{AreFineKeyTerms}

-- the tuple of the key under which each call was made, if it was made
abbrev pub MadeUnder : Type 0
MadeUnder = CallNumber → Option (List ℕ)

-- and one more call
abbrev pub with_made : MadeUnder → CallNumber → List ℕ → MadeUnder
with_made made c key d = if same_number d c then Some key else made d

-- what the side's array has of a call at a key: the value in the game, if the call was made under that key
abbrev pub at_its_key : Option (List ℕ) → List ℕ → Option ℕ → Option ℕ
at_its_key None key v = None
at_its_key (Some k) key v = if same_tuple k key then v else None

-- the indices of a site at a tuple
abbrev pub indices_at : List (ℕ × ℕ) → List ℕ → Indices
indices_at (r ∷ rs) (v ∷ vs) = (r.0, v) ∷ indices_at rs vs
indices_at _ _ = []

-- what one store has, the other has
abbrev pub IsKept : Store → Store → Type 0
IsKept m n = (x : ℕ) (u : List ℕ) (v : ℕ) → m x u ≡ Some v → n x u ≡ Some v

-- the side's group and sites, with the callers of the game, and the two tapes
pub record RunPair : Type 0 where
  pub group : Group
  pub sites : List Site
  pub callers : List Caller
  pub side_tape : Tape
  pub game_tape : Tape

module _ (p : Inlining) where
  abbrev pub this_call : CallNumber
  this_call = record { tuple = tuple p.at; site = p.c.number }

  abbrev pub oracles : RunPair → Oracles
  oracles i = record { setting = p.g; group = i.group; sites = i.sites }

  -- the service goes on here, with this store
  abbrev pub at_store : List Happened → Arrays → Store → Local
  at_store es br n = record { indices = p.at; memory = record { store = n; events = es; arrays = br } }

  -- what a name stands for, in the text and for the side
  abbrev pub IsMeant : MadeUnder → List ℕ → Store → ℕ → Option Standing → Option Meaning → Type 0
  IsMeant made key n x None None = Unit {0}
  IsMeant made key n x (Some TheKey) (Some (IsValue v)) = n p.d.key (values p.g p.at n p.c.key) ≡ Some v
  IsMeant made key n x (Some Own) (Some (IsValue v)) = (p.has p.c.number x ≡ true) × (n (p.d.variable p.c.number x) (tuple p.at) ≡ Some v)
  IsMeant made key n x (Some (CallOf s ts)) (Some (IsCall m)) = (s ≡ m.site) × (values p.g p.at n ts ≡ m.tuple) × (made m ≡ Some key) × (length m.tuple ≡ p.arity m.site)
  IsMeant made key n x _ _ = ⊥

  -- the side's arrays are the variables that are drawn for them
  abbrev pub HasArrays : MadeUnder → Arrays → Store → Type 0
  HasArrays made ar n = (v : ℕ) (k : List ℕ) (m : CallNumber) → p.has m.site v ≡ true → ar v k m ≡ at_its_key (made m) k (n (p.d.variable m.site v) m.tuple)

  -- of a call that wasn't made nothing is assigned
  abbrev pub HasNoMore : MadeUnder → Store → Type 0
  HasNoMore made n = (m : CallNumber) → made m ≡ None → (v : ℕ) → p.has m.site v ≡ true → n (p.d.variable m.site v) m.tuple ≡ None

  -- a site of the side is this caller of the game
  pub record IsSiteOf (plain : ℕ → Bool) (o : Oracles) (s : Caller) (S : Site) : Type 0 where
    pub number : S.number ≡ s.number
    pub bound : (b : ℕ) → has_bound b (function_of_site o S) ≡ (s.bound == b)
    pub bounds : S.bounds ≡ map (λ (r : ℕ × ℕ). p.g.interpretation.parameter_value r.1) s.replications
    pub arity : p.arity s.number ≡ length s.replications
    pub own : (x : ℕ) → plain x ≡ true → is_index_of s.replications x ≡ false
    pub key_terms : AreFineKeyTerms (is_index_of s.replications) plain s.key

  abbrev pub AreSitesOf : (plain : ℕ → Bool) → Oracles → List Caller → List Site → Type 0
  AreSitesOf pl o [] [] = Unit {0}
  AreSitesOf pl o (s ∷ ss) (S ∷ Ss) = IsSiteOf pl o s S × AreSitesOf pl o ss Ss
  AreSitesOf pl o _ _ = ⊥

  -- in a store the key of a site's calls has, for each call that was made, the tuple under which it was made;
  -- what it reads is assigned
  pub record HasKeys (made : MadeUnder) (length_of_key : ℕ) (n : Store) (s : Caller) : Type 0 where
    pub found : (w k : List ℕ) → made (record { tuple = w; site = s.number }) ≡ Some k → (x : ℕ) → is_index_of s.replications x ≡ true → (v : ℕ) × (found_in (indices_at s.replications w) x ≡ Some v)
    pub values : (w k : List ℕ) → made (record { tuple = w; site = s.number }) ≡ Some k → values p.g (indices_at s.replications w) n s.key ≡ k
    pub assigned : (w k : List ℕ) → made (record { tuple = w; site = s.number }) ≡ Some k → AllByRecursion (λ r. is_assigned p.g (indices_at s.replications w) n n r ≡ true) (needed (is_index_of s.replications) s.key)
    pub lengths : (w k : List ℕ) → made (record { tuple = w; site = s.number }) ≡ Some k → length k ≡ length_of_key

module _ (p : Inlining) (nm : Naming p) where
  -- a call: its key is read at its indices, what it draws is on both tapes the same, and so is what its finds
  -- choose by
  pub record IsInlinedCall (i : RunPair) : Type 0 where
    pub key_terms : AreFineKeyTerms (is_index_of p.c.replications) (plain p nm) p.c.key
    pub found : (x : ℕ) → is_index_of p.c.replications x ≡ true → (v : ℕ) × (found_in p.at x ≡ Some v)
    pub arity : length (tuple p.at) ≡ p.arity p.c.number
    pub apart : (x : ℕ) → plain p nm x ≡ true → found_in p.at x ≡ None
    pub chosen : (z : ℕ) → p.has p.c.number z ≡ true → i.side_tape (Made_at z (tuple p.at) p.c.number) ≡ i.game_tape (New_at (p.d.variable p.c.number z) (tuple p.at))
    pub picked : (q : ℕ) → p.finds q ≡ true → i.side_tape (Picked_at q (tuple p.at) p.c.number) ≡ i.game_tape (Find_at (p.d.label p.c.number q) (tuple p.at))

  -- the terms of an index are read in what stands above this place of the body
  abbrev pub IsOpened : ℕ → Option Standing → Type 0
  IsOpened q (Some (CallOf s ts)) = reads_only (seen p nm q) ts ≡ true
  IsOpened q o = Unit {0}

  -- what is not drawn for this site, and what stands at other tuples, is as before
  pub record IsAsBefore (before after : Store) : Type 0 where
    pub elsewhere : AgreeOn (elsewhere p nm) before after
    pub other_tuples : (x : ℕ) (u : List ℕ) → same_tuple u (tuple p.at) ≡ false → before x u ≡ after x u

  -- the arguments keep their values while the call is served
  abbrev pub ArgumentsStay : Store → Tree → List ℕ → Type 0
  ArgumentsStay before ms vs = (n : Store) → AgreeOn (elsewhere p nm) before n → values p.g p.at n ms ≡ vs

  -- the call is being served: at a place of its body, the side has this frame, and the game this store
  pub record IsServing (made : MadeUnder) (key : List ℕ) (Σ : Scope) (e : Frame) (n : Store) (q : ℕ) : Type 0 where
    pub arrays : HasArrays p made e.arrays n
    pub names : (x : ℕ) → IsMeant p made e.key n x (standing_of Σ x) (meaning_of e.names x)
    pub opened : (x : ℕ) → IsOpened q (standing_of Σ x)
    pub number : e.number ≡ this_call p
    pub its_key : e.key ≡ key
    pub here : values p.g p.at n p.c.key ≡ key
    pub unmade : HasNoMore p made n
    pub unassigned : (x : ℕ) → p.has p.c.number x ≡ true → is_assigned_above Σ x ≡ false → n (p.d.variable p.c.number x) (tuple p.at) ≡ None

  -- a call that is being made under a key, in a game whose callers are the side's sites; with the keys of
  -- the calls that were made as they were before
  pub record IsUnderWay (i : RunPair) (made : MadeUnder) (key : List ℕ) (before : Store) : Type 0 where
    pub call : IsInlinedCall i
    pub mine : made (this_call p) ≡ Some key
    pub sites : AreSitesOf p (plain p nm) (oracles p i) i.callers i.sites
    pub keys : AllByRecursion (HasKeys p made (length key) before) i.callers

  -- a later store of the game: variables of the game, the key, the indices of this call's finds, and what was
  -- assigned for calls that were made are as before
  pub record IsLater (made : MadeUnder) (n m : Store) : Type 0 where
    pub names : AgreeOn (kept p nm) n m
    pub calls : (c : CallNumber) (k : List ℕ) → made c ≡ Some k → (v : ℕ) → p.has c.site v ≡ true → n (p.d.variable c.site v) c.tuple ≡ m (p.d.variable c.site v) c.tuple

  -- a service that began in a store comes to what follows a result, and the result has the value of the
  -- side's answer there and later; what is not of this call is as before
  pub record ComesTo (i : RunPair) (made : MadeUnder) (es : List Happened) (br : Arrays) (before : Store) (follows : Tree → Tree) (r : OracleAnswer) (served : Served) : Type 0 where
    pub result : Tree
    pub store : Store
    pub place : ℕ
    pub branch : ℕ
    pub chosen : List ℕ
    pub as_before : IsAsBefore before store
    pub arrays : HasArrays p made r.arrays store
    pub unmade : HasNoMore p made store
    pub value : (later : Store) → IsLater made store later → value p.g p.at later result ≡ r.value
    pub service : served ≡ serve p.g i.game_tape (follows result) place branch chosen (at_store p es br store)

  -- the values of the key of a call stay, in stores that keep what is assigned
  pub record KeyStays (m : Store) (s : Caller) (w key : List ℕ) : Type 0 where
    pub found : (x : ℕ) → is_index_of s.replications x ≡ true → (v : ℕ) × (found_in (indices_at s.replications w) x ≡ Some v)
    pub value : (later : Store) → IsKept m later → values p.g (indices_at s.replications w) later s.key ≡ key
    pub assigned : (later : Store) → IsKept m later → AllByRecursion (λ r. is_assigned p.g (indices_at s.replications w) later later r ≡ true) (needed (is_index_of s.replications) s.key)

  module _ (answer : ℕ → ℕ) where
    -- the store m and the arrays of a context's run, and the store n of the next game's, where these calls were
    -- made: the variables of the game are equal, the arrays are the drawn variables, the answers of calls
    -- are assigned, and their keys stay
    pub record AreRelated (callers : List Caller) (made : MadeUnder) (m : Store) (ar : Arrays) (n : Store) : Type 0 where
      pub ordinary : AgreeOn (plain p nm) m n
      pub arrays : HasArrays p made ar n
      pub unmade : HasNoMore p made n
      pub answered : (c : CallNumber) (k : List ℕ) → made c ≡ Some k → is_some (m (answer c.site) c.tuple) ≡ true
      pub stays : AllByRecursion (λ s. (w k : List ℕ) → made (record { tuple = w; site = s.number }) ≡ Some k → KeyStays m s w k × (length k ≡ length (values p.g p.at m p.c.key))) callers

    -- the context comes to the call: its answer isn't assigned, the key is chosen, in the game as on the side,
    -- and its terms stay
    pub record IsToBeMade (i : RunPair) (key : List ℕ) (m n : Store) : Type 0 where
      pub fresh : m (answer p.c.number) (tuple p.at) ≡ None
      pub key_value : values p.g p.at m p.c.key ≡ key
      pub key_chosen : n p.d.key key ≡ Some (i.side_tape (Key_at key))
      pub stays : AllByRecursion (λ s. s.number ≡ p.c.number → KeyStays m s (tuple p.at) key) i.callers
      pub answer_apart : plain p nm (answer p.c.number) ≡ false

    -- the same in a game whose callers are the side's sites, where the memories are related
    pub record IsCallToBeMade (i : RunPair) (made : MadeUnder) (key : List ℕ) (m : Store) (ar : Arrays) (n : Store) : Type 0 where
      pub call : IsInlinedCall i
      pub sites : AreSitesOf p (plain p nm) (oracles p i) i.callers i.sites
      pub related : AreRelated i.callers made m ar n
      pub here : IsToBeMade i key m n

    -- the store of the context behind the call
    abbrev pub answered_store : Store → OracleAnswer → Store
    answered_store m r = put m (answer p.c.number) (tuple p.at) r.value

    -- a call that is served: the service comes to what follows, where the memories are related again
    pub record KeepsMemories (i : RunPair) (made : MadeUnder) (es : List Happened) (br : Arrays) (m before : Store) (follows : Tree → Tree) (r : OracleAnswer) (served : Served) : Type 0 where
      pub comes : ComesTo i made es br before follows r served
      pub related : AreRelated i.callers made (answered_store m r) r.arrays comes.store
