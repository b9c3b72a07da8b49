-- What is asked of the text of each call in a context, so that its visits are as is expected. This profile's own.
use Rattle.std.specs.Prelude.{◌≡◌, ℕ, true, false, not, List, [], ◌∷◌, length, Some}
use Rattle.std.specs.List.{AllByRecursion}
use Rattle.cv_syntax_trees.specs.declared.head.Head.{Head}
use Rattle.cv_syntax_trees.specs.declared.head.Head.TheVariants.{Call}
use Rattle.cv_syntax_trees.specs.Tree.{Tree, Empty, Node, first, reads_only, second}
use Rattle.cv_meaning.specs.Tapes.{Find_at, Made_at, New_at, Picked_at}
use Rattle.cv_meaning.specs.Memory.{Indices}
use Rattle.cv_meaning.specs.contexts.Bodies.{function_called}
use Rattle.cv_meaning.specs.contexts.Groups.{Function}
use Rattle.cv_scope_rules.specs.Context.{items, replications_below}
use Rattle.cv_scene.specs.Sights.{variable_of}
use Rattle.cv_inline.specs.bodies.Accepted.{IsFineCall}
use Rattle.cv_meaning.specs.contexts.KeyTerms.{AreFineKeyTerms}
use Rattle.cv_meaning.specs.contexts.Inlined.{Caller, TheKey, is_index_of, is_own}
use Rattle.cv_inline.specs.bodies.Related.{AreSitesOf}
use Rattle.cv_meaning.specs.contexts.Roles.{Gone, Replication}
use Rattle.cv_inline.specs.NextGame.{Calling, callers_of, numbered}
use Rattle.cv_inline_laws.specs.runs.Texts.{IsHere, Text, inlining_at, is_ordinary, oracles_in, plain_in}

-- the indices above a call are no drawn names and no constants
pub record AreOwnIndices (T : Text) (rs : List (ℕ × ℕ)) : Type 0 where
  pub roles : (x : ℕ) → is_index_of rs x ≡ true → T.role x ≡ Replication
  pub drawn : (y : ℕ) → T.drawn y ≡ true → is_index_of rs y ≡ false
  pub constants : (x : ℕ) → T.constant x ≡ true → is_index_of rs x ≡ false

-- a call reads the key at these terms, which read indices and variables of the game
pub record IsKeyRead (T : Text) (c : Caller) (term : Tree) : Type 0 where
  pub name : variable_of term ≡ Some T.calls.key
  pub terms : first term ≡ c.key
  pub plain : AreFineKeyTerms (is_index_of c.replications) (plain_in T) c.key
  pub no_constants : reads_only (λ x. not (T.g.is_constant x)) c.key ≡ true
  pub many : length (items c.key) ≡ T.key_length
  pub gone : T.role T.calls.key ≡ Gone
  pub constant : T.g.is_constant T.calls.key ≡ false

-- what is drawn for the site is on both tapes the same, at each tuple
pub record IsDrawnAlike (T : Text) (c : Caller) : Type 0 where
  pub own : (x : ℕ) → T.constant x ≡ true → is_own c x ≡ false
  pub arity : length c.replications ≡ T.arity c.number
  pub chosen : (z : ℕ) (w : List ℕ) → T.has c.number z ≡ true → T.side_tape (Made_at z w c.number) ≡ T.game_tape (New_at (T.calls.drawn.variable c.number z) w)
  pub picked : (q : ℕ) (w : List ℕ) → T.finds c.number q ≡ true → T.side_tape (Picked_at q w c.number) ≡ T.game_tape (Find_at (T.calls.drawn.label c.number q) w)

-- the side answers with this function, whose right body can stand in the game behind these arguments
pub record IsAnswered (T : Text) (c : Caller) (f : Function) (arguments : Tree) : Type 0 where
  pub function : (w : List ℕ) → function_called (oracles_in T) (record { tuple = w; site = c.number }) ≡ Some f
  pub no_coins : f.coins ≡ []
  pub body : (at : Indices) (h : IsHere T c at) → IsFineCall (inlining_at T c at h) (callers_of T.calls.callings) ((T.calls.group.key.0, TheKey) ∷ []) f.arguments arguments f.body
  pub plain_arguments : reads_only (λ y. is_ordinary (T.role y)) arguments ≡ true
  pub sites : (at : Indices) (h : IsHere T c at) → AreSitesOf (inlining_at T c at h) (plain_in T) (oracles_in T) (callers_of T.calls.callings) T.sites

-- the call of a number below these replications, with its key and arguments; no other site has its number
pub record IsCallText (T : Text) (rs : List (ℕ × ℕ)) (x l : ℕ) (terms : Tree) : Type 0 where
  pub calling : Calling
  pub at_site : numbered l T.calls.callings ≡ Some calling
  pub number : calling.caller.number ≡ l
  pub answer : x ≡ T.answer l
  pub replications : calling.caller.replications ≡ rs
  pub alone : AllByRecursion (λ s. s.number ≡ calling.caller.number → s ≡ calling.caller) (callers_of T.calls.callings)
  pub indices : AreOwnIndices T calling.caller.replications
  pub key : IsKeyRead T calling.caller (first terms)
  pub drawn : IsDrawnAlike T calling.caller
  pub answered : IsAnswered T calling.caller calling.function (second terms)

abbrev pub IsTextAt : Text → List (ℕ × ℕ) → Head → Tree → Type 0
IsTextAt T rs (Call x l) a = IsCallText T rs x l a
IsTextAt T rs h a = Unit {0}

-- each call in a tree below these replications
unfoldable pub HasCallTexts : Text → List (ℕ × ℕ) → Tree → Type 0
HasCallTexts T rs Empty = Unit {0}
HasCallTexts T rs (Node h a b) = IsTextAt T rs h a × HasCallTexts T rs a × HasCallTexts T (replications_below h rs) b
