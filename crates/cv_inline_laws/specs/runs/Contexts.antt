-- Contexts of which each call stands before a statement, and what is expected of the visits of a run. This profile's own.
use Rattle.std.specs.Prelude.{◌≡◌, ℕ, Bool, true, false, List, [], ◌∷◌, ◌⊎◌, Some, None}
use Rattle.cv_syntax_trees.specs.declared.head.Head.TheVariants.{Stop, Yield, Par, Repl, In, Out, Event, New, Let, If, Find, Branch, Leaf, Read, Apply, Eq, And, Or, Not, Yes, No, Cons, Key, Call}
use Rattle.cv_syntax_trees.specs.Tree.{Tree, Empty, Node, first, second, binds, reads_only}
use Rattle.std.specs.List.{AllByRecursion}
use Rattle.cv_meaning.specs.Tapes.{New_at, Find_at, Key_at, Test_at, cells_of}
use Rattle.cv_meaning.specs.Runs.{Mode, Events, Real, Random, Adversary}
use Rattle.cv_meaning.specs.Cells.{coin_cells}
use Rattle.cv_meaning.specs.Experiments.{visits_of_run}
use Rattle.cv_meaning_runs.specs.Agreement.{AgreeAt}
use Rattle.cv_meaning.specs.Interpretation.{Setting}
use Rattle.cv_meaning.specs.Memory.{Store, Memory, Indices, Local, tuple}
use Rattle.cv_meaning.specs.Terms.{found_in, values, value}
use Rattle.cv_meaning.specs.Inputs.{Input, message_binders}
use Rattle.cv_meaning.specs.Serving.{Visit, key_tuple}
use Rattle.cv_meaning.specs.contexts.Sides.{side_from}
use Rattle.cv_meaning.specs.contexts.Inlined.{index_terms}
use Rattle.cv_meaning.specs.contexts.Roles.{Plain, Gone}
use Rattle.cv_inline.specs.bodies.Related.{MadeUnder}
use Rattle.cv_inline.specs.NextGame.{Calling, Results, numbered, next_in}
use Rattle.cv_inline_laws.specs.runs.Texts.{IsLaterIn, Text, is_ordinary, oracles_in, IsExpectedCall, IsFineCalling, AreRelatedIn}

-- the setting of the context
abbrev pub context_setting : Text → Setting
context_setting T = record T.g { side = side_from (oracles_in T) }

abbrev pub ordinary_in : Text → ℕ → Bool
ordinary_in T x = is_ordinary (T.role x)

-- the answers of the calls that stand before a statement, each with the index terms at which it is read
abbrev pub Answers : Type 0
Answers = List (ℕ × Tree)

abbrev pub IsAnswer : Answers → ℕ → Tree → Type 0
IsAnswer [] x ms = ⊥
IsAnswer (y ∷ ys) x ms = ((y.0 ≡ x) × (y.1 ≡ ms)) ⊎ IsAnswer ys x ms

abbrev pub IsNone : Answers → Type 0
IsNone [] = Unit {0}
IsNone (x ∷ xs) = ⊥

module _ (T : Text) where
  -- terms of ordinary variables, and of these answers
  unfoldable mutual
    pub IsFineIn : Answers → Tree → Type 0
    IsFineIn o Empty = Unit {0}
    IsFineIn o (Node (Leaf x) a b) = (ordinary_in T x ≡ true) ⊎ IsAnswer o x Empty
    IsFineIn o (Node (Read x) a b) = ((ordinary_in T x ≡ true) × (reads_only (ordinary_in T) a ≡ true)) ⊎ IsAnswer o x a
    IsFineIn o (Node (Apply f) a b) = AreFineIn o a
    IsFineIn o (Node Eq a b) = IsFineIn o a × IsFineIn o b
    IsFineIn o (Node And a b) = IsFineIn o a × IsFineIn o b
    IsFineIn o (Node Or a b) = IsFineIn o a × IsFineIn o b
    IsFineIn o (Node Not a b) = IsFineIn o a
    IsFineIn o (Node Yes a b) = Unit {0}
    IsFineIn o (Node No a b) = Unit {0}
    IsFineIn o (Node h a b) = ⊥

    pub AreFineIn : Answers → Tree → Type 0
    AreFineIn o Empty = Unit {0}
    AreFineIn o (Node Cons a b) = IsFineIn o a × AreFineIn o b
    AreFineIn o (Node h a b) = ⊥

  -- cells of ordinary variables, and of the key
  unfoldable pub AreCells : Tree → Type 0
  AreCells Empty = Unit {0}
  AreCells (Node Cons (Node (Leaf x) a b) more) = ((ordinary_in T x ≡ true) ⊎ (x ≡ T.calls.key)) × AreCells more
  AreCells (Node Cons (Node (Read x) a b) more) = ((ordinary_in T x ≡ true) ⊎ (x ≡ T.calls.key)) × (reads_only (ordinary_in T) a ≡ true) × AreCells more
  AreCells _ = ⊥

  abbrev pub ArePlain : Tree → Type 0
  ArePlain us = (y : ℕ) → binds us y ≡ true → T.role y ≡ Plain

  unfoldable mutual
    -- a process, behind calls with these answers
    pub IsFineContext : Answers → Tree → Type 0
    IsFineContext o Empty = IsNone o
    IsFineContext o (Node Yield a b) = IsNone o
    IsFineContext o (Node (In c) a b) = IsNone o × ArePlain (second a) × IsFineContext [] b
    IsFineContext o (Node (New x S) a b) = IsNone o × (T.role x ≡ Plain) × IsFineContext [] b
    IsFineContext o (Node (Key x) a b) = IsNone o × (x ≡ T.calls.key) × IsFineContext [] b
    IsFineContext o (Node (Call x l) a b) = (c : Calling) → numbered l T.calls.callings ≡ Some c → IsFineContext ((x, index_terms c.caller.replications) ∷ o) b
    IsFineContext o (Node (Find l) a b) = IsNone o × ((w : List ℕ) → T.side_tape (Find_at l w) ≡ T.game_tape (Find_at l w)) × AreFineBranchesIn a × IsFineContext [] b
    IsFineContext o (Node Cons a b) = IsNone o × IsFineContext [] a × IsFineContext [] b
    IsFineContext o (Node (Let x S) a b) = (T.role x ≡ Plain) × IsFineIn o a × IsFineContext [] b
    IsFineContext o (Node If a b) = IsFineIn o a × IsFineContext [] b
    IsFineContext o (Node (Event e) a b) = AreFineIn o a × IsFineContext [] b
    IsFineContext o (Node (Out c) (Node Cons is ms) b) = AreFineIn o ms × AreFineInputs b
    IsFineContext o t = ⊥

    -- the branches of a find
    pub AreFineBranchesIn : Tree → Type 0
    AreFineBranchesIn Empty = Unit {0}
    AreFineBranchesIn (Node Cons (Node Branch us (Node Cons cells (Node Cons m body))) more) = ArePlain us × AreCells cells × IsFineIn [] m × IsFineContext [] body × AreFineBranchesIn more
    AreFineBranchesIn t = ⊥

    -- processes that open inputs
    pub AreFineInputs : Tree → Type 0
    AreFineInputs Empty = Unit {0}
    AreFineInputs (Node Stop a b) = Unit {0}
    AreFineInputs (Node Par a b) = AreFineInputs a × AreFineInputs b
    AreFineInputs (Node (Repl i n) a b) = AreFineInputs b
    AreFineInputs (Node (In c) a b) = IsNone [] × ArePlain (second a) × IsFineContext [] b
    AreFineInputs t = ⊥

  -- the tapes are alike: for what the game chooses, and for the key
  pub record AreLikeTapes : Type 0 where
    pub chosen : (x : ℕ) (w : List ℕ) → T.role x ≡ Plain → T.side_tape (New_at x w) ≡ T.game_tape (New_at x w)
    pub key : (w : List ℕ) → T.side_tape (Key_at w) ≡ T.game_tape (New_at T.calls.drawn.key w)
    pub key_gone : T.role T.calls.key ≡ Gone

  -- a visited call is of a site, as is expected
  pub record IsCallVisit (x l : ℕ) (a : Tree) (s : Local) : Type 0 where
    pub calling : Calling
    pub at_site : numbered l T.calls.callings ≡ Some calling
    pub number : calling.caller.number ≡ l
    pub answer : x ≡ T.answer l
    pub no_index : found_in s.indices x ≡ None
    pub no_constant : T.g.is_constant x ≡ false
    pub expected : IsExpectedCall T calling.caller s.memory.store s.indices (key_tuple (context_setting T) s (first a))
    pub fine : IsFineCalling T calling.caller calling.function s.indices expected.here (second a)

  -- what a visit assigns was not assigned before, and a call is as is expected
  abbrev pub IsExpectedAt : Tree → Local → Type 0
  IsExpectedAt (Node (In c) a b) s = (y : ℕ) → binds (second a) y ≡ true → s.memory.store y (tuple s.indices) ≡ None
  IsExpectedAt (Node Branch a b) s = (y : ℕ) → binds a y ≡ true → s.memory.store y (tuple s.indices) ≡ None
  IsExpectedAt (Node (New x S) a b) s = s.memory.store x (tuple s.indices) ≡ None
  IsExpectedAt (Node (Let x S) a b) s = s.memory.store x (tuple s.indices) ≡ None
  IsExpectedAt (Node (Key x) a b) s = s.memory.store x (tuple s.indices) ≡ None
  IsExpectedAt (Node (Call x l) a b) s = IsCallVisit x l a s
  IsExpectedAt t s = Unit {0}

  abbrev pub IsExpected : Visit → Type 0
  IsExpected v = IsExpectedAt v.tree v.before

  -- the memories of the two runs
  pub record AreRelatedMemories (x y : Memory) : Type 0 where
    pub made : MadeUnder
    pub stores : AreRelatedIn T made x.store x.arrays y.store
    pub events : x.events ≡ y.events

  -- inputs of the two runs
  pub record AreLikeInputs (i j : Input) : Type 0 where
    pub channel : i.channel ≡ j.channel
    pub indices : i.indices ≡ j.indices
    pub binders : message_binders i ≡ message_binders j
    pub tree : j.tree ≡ next_in T.calls [] i.tree
    pub fine : IsFineContext [] i.tree

  -- results have the values of the answers
  abbrev pub HaveAnswers : Indices → Store → Store → Answers → Results → Type 0
  HaveAnswers at m n [] [] = Unit {0}
  HaveAnswers at m n (x ∷ xs) (r ∷ rs) =
      (x.0 ≡ r.0) × (T.role x.0 ≡ Gone) × (found_in at x.0 ≡ None) × (T.g.is_constant x.0 ≡ false) × ((k : Store) → values T.g at k x.1 ≡ tuple at) × (m x.0 (tuple at) ≡ Some (value T.g at n r.1)) × HaveAnswers at m n xs rs
  HaveAnswers at m n _ _ = ⊥

  -- tests ask for a variable of the game, if for any, and are told alike
  abbrev pub IsAskedAlike : Mode → Type 0
  IsAskedAlike Events = Unit {0}
  IsAskedAlike (Real one x) = T.role x ≡ Plain
  IsAskedAlike (Random one x) = (T.role x ≡ Plain) × ((w : List ℕ) → T.side_tape (Test_at w) ≡ T.game_tape (Test_at w))

  -- a context and its next game, on tapes that are alike, where the context's visits are as is expected
  pub record IsTextOf (m : Mode) (a : Adversary) (context : Tree) : Type 0 where
    pub fine : AreFineInputs context
    pub tapes : AreLikeTapes
    pub asked : IsAskedAlike m
    pub coins : AgreeAt (cells_of (coin_cells 0 a.coins)) T.side_tape T.game_tape
    pub visited : AllByRecursion IsExpected (visits_of_run (context_setting T) m a context T.side_tape)

  -- the result of a call that was made keeps its value
  pub record ResultStays (at : Indices) (made : MadeUnder) (n : Store) (x : ℕ) (result : Tree) : Type 0 where
    pub site : ℕ
    pub key : List ℕ
    pub was_made : made (record { tuple = tuple at; site = site }) ≡ Some key
    pub answer : x ≡ T.answer site
    pub value : (later : Store) → IsLaterIn T site made n later → value T.g at later result ≡ value T.g at n result

  abbrev pub ResultsStay : Indices → MadeUnder → Store → Answers → Results → Type 0
  ResultsStay at made n [] [] = Unit {0}
  ResultsStay at made n (x ∷ xs) (r ∷ rs) = ResultStays at made n x.0 r.1 × ResultsStay at made n xs rs
  ResultsStay at made n _ _ = ⊥
