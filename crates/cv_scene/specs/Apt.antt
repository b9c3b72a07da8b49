-- What a game is to be, node by node, that its context is served alike: where it reads the key and coins, what stands for the names
-- of each site, and which function is called there. This profile's own.
use Rattle.std.specs.Prelude.{◌≡◌, ℕ, suc, ◌+◌, ◌<◌, Bool, true, false, ◌||◌, ◌&&◌, ◌==◌, if◌then◌else◌, List, [], ◌∷◌, length, is_some, Option, Some, None}
use Rattle.std.specs.List.{AllByRecursion}
use Rattle.cv_syntax_trees.specs.declared.head.Head.{Head}
use Rattle.cv_syntax_trees.specs.declared.head.Head.TheVariants.{And, Apply, Branch, Cons, Eq, Event, If, In, Leaf, Let, New, No, Not, Or, Out, Read, Repl, Yes}
use Rattle.cv_syntax_trees.specs.Tree.{Tree, Empty, Node, bound_names, chain, first, head_reads_only, reads_only, second}
use Rattle.cv_meaning.specs.Interpretation.{Interpretation, is_constant_of}
use Rattle.cv_meaning.specs.Runs.{Events, Mode, Random, Real}
use Rattle.cv_meaning.specs.Side.{CallNumber}
use Rattle.cv_meaning.specs.Tapes.{Made_at, New_at}
use Rattle.cv_meaning.specs.contexts.Bodies.{function_called}
use Rattle.cv_scope_rules.specs.Context.{cell_of, first_position, replications_below}
use Rattle.cv_scope_rules.specs.Phrases.{Phrase, Branches, Cells, Else, Guarded, Guards, Inputs, IsWellFormed, OneCell, Then, parts}
use Rattle.cv_scope_rules.specs.Rules.{is_index}
use Rattle.cv_scene.specs.Sights.{variable_of}
use Rattle.cv_scene.specs.Instances.{Matching, call_at, filled}
use Rattle.cv_scene.specs.Sites.{Site, is_guard, sites_in}
use Rattle.cv_scope_rules.specs.declared.position.Position.{Position}
use Rattle.cv_scope_rules.specs.declared.position.Position.TheVariants as position
use Rattle.cv_scene.specs.LeftTerms.{IsLeftFunction}
use Rattle.cv_scene.specs.Standing.{AreAsMany}
use Rattle.cv_scene.specs.Reductions.{Reduction, is_answer, is_coin, is_plain, matching, oracles, sites}
use Rattle.cv_scene.specs.Cells.{at_left}

-- outside instances the tree reads names of these alone
unfoldable pub reads_outside : Matching → (ℕ → Bool) → Tree → Bool
reads_outside M on Empty = true
reads_outside M on (Node h a b) = is_some (call_at M (Node h a b)) || (head_reads_only on h && (reads_outside M on a && reads_outside M on b))

-- a coin's term is its variable at the current indices, whose cell is what the call draws
pub record IsCoinApt (r : Reduction) (rs : List (ℕ × ℕ)) (number : ℕ) (coin : ℕ) (term : Tree) : Type 0 where
  pub variable : ℕ
  pub is : term ≡ cell_of rs variable
  pub drawn : is_coin r variable ≡ true
  pub cell : (w : List ℕ) → at_left r (New_at variable w) ≡ Made_at coin w number
  pub constant : is_constant_of r.scene.declarations variable ≡ false

abbrev pub AreCoinsApt : Reduction → List (ℕ × ℕ) → ℕ → List (ℕ × ℕ) → List Tree → Type 0
AreCoinsApt r rs n [] [] = Unit {0}
AreCoinsApt r rs n (z ∷ zs) (m ∷ ms) = IsCoinApt r rs n z.0 m × AreCoinsApt r rs n zs ms
AreCoinsApt r rs n zs ms = ⊥

-- the site of a number below these replications
pub record IsSiteApt (r : Reduction) (rs : List (ℕ × ℕ)) (number : ℕ) (s : Site) : Type 0 where
  pub listed : number < length (sites r)
  pub body : filled (matching r).group s.call.function s.call.instance ≡ s.term
  pub left : IsLeftFunction r.scene.declarations (matching r).group s.call.function
  pub called : (i : Interpretation) (n : CallNumber) → n.site ≡ number → function_called (oracles r i) n ≡ Some s.call.function
  pub key : variable_of s.call.instance.key ≡ Some r.key
  pub key_indices : reads_only (is_plain r) (first s.call.instance.key) ≡ true
  pub coins : AreCoinsApt r rs number s.call.function.coins s.call.instance.coins
  pub many : AreAsMany s.call.function.arguments s.call.instance.arguments
  pub arguments : reads_only (is_plain r) (chain s.call.instance.arguments) ≡ true

-- those of a list, numbered from a number on
abbrev pub AreSitesApt : Reduction → List (ℕ × ℕ) → ℕ → List Site → Type 0
AreSitesApt r rs n [] = Unit {0}
AreSitesApt r rs n (s ∷ ss) = IsSiteApt r rs n s × AreSitesApt r rs (suc n) ss

-- the sites in a tree

abbrev pub sites_inside : Reduction → List (ℕ × ℕ) → Tree → List Site
sites_inside r rs t = sites_in (matching r) position.Anywhere rs 0 t

-- terms of a statement
pub record AreTermsApt (r : Reduction) (rs : List (ℕ × ℕ)) (number : ℕ) (terms : Tree) : Type 0 where
  pub outside : reads_outside (matching r) (is_plain r) terms ≡ true
  pub sites : AreSitesApt r rs number (sites_inside r rs terms)

-- binders of a list
abbrev pub AreBindersPlain : Reduction → Tree → Type 0
AreBindersPlain r bs = AllByRecursion (λ x. is_plain r x ≡ true) (bound_names bs)

-- a cell of a `defined` list, and its items: the key may be one
abbrev pub is_cell_apt : Reduction → Tree → Bool
is_cell_apt r (Node (Leaf x) a b) = is_plain r x || (x == r.key)
is_cell_apt r (Node (Read x) a b) = (is_plain r x || (x == r.key)) && reads_only (is_plain r) a
is_cell_apt r t = true

unfoldable pub are_cells_apt : Reduction → Tree → Bool
are_cells_apt r Empty = true
are_cells_apt r (Node h c more) = is_cell_apt r c && are_cells_apt r more

-- an index that is bound below these replications
pub record IsIndexApt (r : Reduction) (rs : List (ℕ × ℕ)) (i : ℕ) : Type 0 where
  pub above : is_index rs i ≡ false
  pub constant : is_constant_of r.scene.declarations i ≡ false
  pub plain : is_plain r i ≡ true

-- a construct, with its first child
abbrev pub IsNodeApt : Reduction → Phrase → List (ℕ × ℕ) → ℕ → Head → Tree → Type 0
IsNodeApt r Guards rs n Cons a = are_cells_apt r a ≡ true
IsNodeApt r Guarded rs n Cons a = reads_only (is_plain r) a ≡ true
IsNodeApt r σ rs n (Repl i m) a = IsIndexApt r rs i
IsNodeApt r σ rs n (In c) a = AreBindersPlain r (second a)
IsNodeApt r σ rs n Branch a = AreBindersPlain r a
IsNodeApt r σ rs n (New x T) a = is_answer r x ≡ false
IsNodeApt r σ rs n (Let x T) a = (is_plain r x ≡ true) × AreTermsApt r rs n a
IsNodeApt r σ rs n (Event e) a = AreTermsApt r rs n a
IsNodeApt r σ rs n If a = AreTermsApt r rs n a
IsNodeApt r σ rs n (Out c) a = AreTermsApt r rs n a
IsNodeApt r σ rs n h a = Unit {0}

-- the position of a phrase
abbrev pub position_of : Phrase → Position
position_of Then = position.Bodies
position_of Else = position.ElseBody
position_of Branches = position.Branches
position_of Guards = position.Guards
position_of Guarded = position.Guarded
position_of Cells = position.Cells
position_of OneCell = position.OneCell
position_of σ = position.Anywhere

-- the sites in the first child of a node
abbrev pub inside : Reduction → Position → List (ℕ × ℕ) → Head → Tree → List Site
inside r w rs h a = if is_guard w then [] else sites_in (matching r) (first_position w h) rs 0 a

abbrev pub AreBoth : Option (Phrase × Phrase) → (Phrase → Type 0) → (Phrase → Type 0) → Type 0
AreBoth None first second = ⊥
AreBoth (Some q) first second = first q.0 × second q.1

-- each node of a phrase below these replications, whose sites are numbered from a number on
unfoldable pub IsApt : Reduction → Phrase → List (ℕ × ℕ) → (number : ℕ) → Tree → Type 0
IsApt r σ rs n Empty = Unit {0}
IsApt r σ rs n (Node h a b) =
    IsNodeApt r σ rs n h a
    × AreBoth (parts σ h) (λ τ. IsApt r τ rs n a) (λ ρ. IsApt r ρ (replications_below h rs) (n + length (inside r (position_of σ) rs h a)) b)

-- the tree stands for a value
abbrev pub has_value : Tree → Bool
has_value (Node (Leaf x) a b) = true
has_value (Node (Read x) a b) = true
has_value (Node (Apply f) a b) = true
has_value (Node Eq a b) = true
has_value (Node And a b) = true
has_value (Node Or a b) = true
has_value (Node Not a b) = true
has_value (Node Yes a b) = true
has_value (Node No a b) = true
has_value t = false

-- a well-formed game that is apt; instances are terms, and the key, coins and answers are apart
pub record IsAptGame (r : Reduction) : Type 0 where
  pub formed : IsWellFormed r.scene.declarations r.scene.game
  pub apt : IsApt r Inputs [] 0 r.scene.game
  pub terms : (t : Tree) → has_value t ≡ false → call_at (matching r) t ≡ None
  pub answers : (j k : ℕ) → j < length (sites r) → k < length (sites r) → r.answer j ≡ r.answer k → j ≡ k
  pub free_answers : (k : ℕ) → k < length (sites r) → is_constant_of r.scene.declarations (r.answer k) ≡ false
  pub key_constant : is_constant_of r.scene.declarations r.key ≡ false
  pub key_coin : is_coin r r.key ≡ false
  pub key_answer : is_answer r r.key ≡ false

-- the experiment tests no key, coin or answer
abbrev pub IsTestApt : Reduction → Mode → Type 0
IsTestApt r Events = Unit {0}
IsTestApt r (Real one x) = is_plain r x ≡ true
IsTestApt r (Random one x) = is_plain r x ≡ true
