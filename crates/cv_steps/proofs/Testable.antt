-- Games in the grammar can be tested, and have no calls; nothing answers them.
use Rattle.std.proofs.Common.{◌≡◌, ℕ, ◌&&◌, true, false, refl, ap₂}
use Rattle.std.proofs.lemmas.Bool.{both_ways, and_parts}
use Rattle.cv_syntax_trees.specs.declared.head.Head.{Head}
use Rattle.cv_syntax_trees.specs.declared.head.Head.TheVariants.{Repl, In, Key, Call}
use Rattle.cv_syntax_trees.specs.Tree.{Tree, Empty, Node}
use Rattle.cv_meaning.specs.Side.{no_side}
use Rattle.cv_meaning.specs.Runs.{Mode, Events, Real, Random}
use Rattle.cv_meaning_runs.specs.Agreement.{IsLocal}
use Rattle.cv_meaning_runs.specs.Listed.{head_is_testable, is_testable, IsTestable, has_no_calls}
use Rattle.cv_scope_rules.specs.Phrases.{Phrase, Inputs, is_phrase, head_is_plain}
use Rattle.cv_scope_runs.proofs.Plain.{plain_no_calls}
use Rattle.cv_scope_rules.proofs.Plain.{phrase_plain}
use Rattle.cv_steps.proofs.Flat.{open_phrase}

head_testable : (x : ℕ) (σ : Phrase) (h : Head) (a b : Tree) → is_phrase σ (Node h a b) ≡ true → head_is_plain h ≡ true → head_is_testable x h a ≡ true
unfolding is_phrase
head_testable x σ (Key y) a b e f = absurd (both_ways false refl f)
head_testable x σ (Call y l) a b e f = absurd (both_ways false refl f)
head_testable x Inputs (In c) (Node (Repl i n) d g) b e f = absurd (both_ways false refl e)
head_testable x σ (In c) (Node (Repl i n) d g) b e f = absurd (both_ways false refl e)
head_testable x σ (In c) a b e f = refl
head_testable x σ h a b e f = refl

pub testable : (x : ℕ) (σ : Phrase) (t : Tree) → is_phrase σ t ≡ true → is_testable x t ≡ true
testable x σ Empty e = refl
testable x σ (Node h a b) e =
    let o = open_phrase σ h a b e in
    let plain = (and_parts (head_is_plain h) _ (phrase_plain σ (Node h a b) e)).0 in
    ap₂ ◌&&◌ (head_testable x σ h a b e plain) (ap₂ ◌&&◌ (testable x o.0.0 a o.2) (testable x o.0.1 b o.3))

pub game_testable : (m : Mode) (game : Tree) → is_phrase Inputs game ≡ true → IsTestable m game
game_testable Events game e = tt
game_testable (Real one x) game e = tt
game_testable (Random one x) game e = testable x Inputs game e

pub game_no_calls : (game : Tree) → is_phrase Inputs game ≡ true → has_no_calls game ≡ true
game_no_calls game e = plain_no_calls game (phrase_plain Inputs game e)

pub local : IsLocal no_side
local t u arrays call e = refl
