-- The context of a game for an equivalence and a key: the game with the key's `new` as a choice of a key, without the `new` of
-- coins, and with a call for each instance. The calls of a statement stand before it, from left to right. Blanchet and
-- Pointcheval, CRYPTO 2006.
use Rattle.std.specs.Prelude.{◌≡◌, ℕ, suc, ◌+◌, ◌<◌, Bool, true, false, ◌==◌, if◌then◌else◌, List, [], ◌∷◌, ◌++◌, length, map, filter, Option, Some, None}
use Rattle.std.specs.List.{list_any}
use Rattle.cv_syntax_trees.specs.declared.head.Head.{Head}
use Rattle.cv_syntax_trees.specs.declared.head.Head.TheVariants.{Call, Cons, Event, If, Key, Let, New, Out}
use Rattle.cv_syntax_trees.specs.Tree.{Tree, Empty, Node, chain, first, second}
use Rattle.cv_meaning.specs.Interpretation.{is_constant_of}
use Rattle.cv_meaning.specs.contexts.Groups.{Left, side_group}
use Rattle.cv_meaning.specs.contexts.Sides.{Context}
use Rattle.cv_scope_rules.specs.declared.position.Position.{Position}
use Rattle.cv_scope_rules.specs.declared.position.Position.TheVariants.{Anywhere}
use Rattle.cv_scope_rules.specs.Context.{cell_of, first_position, replications_below, second_position}
use Rattle.cv_scene.specs.Scenes.{Scene, is_queried, names}
use Rattle.cv_scene.specs.Sights.{variable_of}
use Rattle.cv_scene.specs.Instances.{Instance, Matching, call_at, is_read_of}
use Rattle.cv_scene.specs.Sites.{Site, is_guard, sites_in, sites_of}

-- what is looked for by an equivalence: its left functions
abbrev pub matching_of : Scene → (equivalence : Tree) → (key : ℕ) → Matching
matching_of s e x = record { scene = s; group = side_group Left e; key = x }

-- the variables that stand for coins at sites
abbrev pub is_coin_variable : List Site → ℕ → Bool
is_coin_variable ss y = list_any (λ (s : Site). list_any (λ m. is_read_of y (variable_of m)) s.call.instance.coins) ss

-- the definition of the key, and those of coins, in a context
abbrev pub in_context : Matching → (coins : ℕ → Bool) → Head → (first second : Tree) → Tree
in_context M coins (New y T) a b = if y == M.key then Node (Key y) Empty b else if coins y then b else Node (New y T) a b
in_context M coins h a b = Node h a b

-- a statement with terms of its own
abbrev pub is_statement : Head → Bool
is_statement (Let x T) = true
is_statement If = true
is_statement (Event e) = true
is_statement (Out c) = true
is_statement h = false

-- a call reads the key and has the arguments
abbrev pub call_terms : Instance → Tree
call_terms I = Node Cons I.key (chain I.arguments)

-- the calls of sites from a number on, before a statement; the answer of each is a variable
abbrev pub after_calls : (answer : ℕ → ℕ) → (site : ℕ) → List Site → Tree → Tree
after_calls answer s [] t = t
after_calls answer s (c ∷ cs) t = Node (Call (answer s) s) (call_terms c.call.instance) (after_calls answer (suc s) cs t)

-- the tree in the context, where the sites in it are numbered from s on
unfoldable pub context_in : Matching → (coins : ℕ → Bool) → (answer : ℕ → ℕ) → Position → List (ℕ × ℕ) → (s : ℕ) → Tree → Tree
context_in M coins answer w rs s Empty = Empty
context_in M coins answer w rs s (Node h a b) = elim (call_at M (Node h a b)) [
  | Some c ↦ cell_of rs (answer s)
  | None ↦
      let inside : List Site = if is_guard w then [] else sites_in M (first_position w h) rs 0 a in
      after_calls answer s (if is_statement h then inside else [])
      (in_context M coins h
      (if is_guard w then a else context_in M coins answer (first_position w h) rs s a)
      (context_in M coins answer (second_position w h) (replications_below h rs) (s + length inside) b))
]

-- the context of the game; the function of each site is given by its position
abbrev pub context_of : Scene → (equivalence : Tree) → (key : ℕ) → (answer : ℕ → ℕ) → Context
context_of s e x answer =
    let M : Matching = matching_of s e x in
    record {
      game = context_in M (is_coin_variable (sites_of M)) answer Anywhere [] 0 s.game;
      equivalence = e;
      functions = map (λ (c : Site). c.call.position) (sites_of M);
    }

-- The answers of sites have names apart, which neither file nor game has.
pub record AreAnswers (s : Scene) (sites : ℕ) (answer : ℕ → ℕ) : Type 0 where
  pub apart : (j k : ℕ) → j < sites → k < sites → answer j ≡ answer k → j ≡ k
  pub unknown : (k : ℕ) → k < sites → s.known (answer k) ≡ false
  pub unnamed : (k : ℕ) → k < sites → names (answer k) s.game ≡ false
  pub unasked : (k : ℕ) → k < sites → is_queried s (answer k) ≡ false
  pub no_constant : (k : ℕ) → k < sites → is_constant_of s.declarations (answer k) ≡ false

-- how often keys are chosen and functions are called: the parameters of replications

abbrev pub parameters_of : List (ℕ × ℕ) → List ℕ
parameters_of rs = map (λ (r : ℕ × ℕ). r.1) rs

abbrev pub calls_of : List Site → (position : ℕ) → List (List ℕ)
calls_of ss k = map (λ (s : Site). parameters_of s.replications) (filter (λ (s : Site). s.call.position == k) ss)
