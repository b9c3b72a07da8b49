-- New names that are drawn for a step, before it is tried. This profile's own.
use Rattle.std.specs.Prelude.{◌≡◌, ℕ, ◌<◌, Bool, true, false, List, All, length, map, Option, Some}
use Rattle.cv_inline.specs.Draws.{drawn_texts}
use Rattle.cv_inline_draws.specs.names.Texts.{texts_at, with_texts}
use Rattle.cv_inline_draws.specs.taken_names.Taken.{taken_names}
use Rattle.cv_script.specs.Views.{StepItems}
use Rattle.cv_script.specs.Views as items
use Rattle.cv_step_writer.specs.declared.proposals.Proposal.{Proposal}
use Rattle.cv_step_writer.specs.declared.proposals.Proposal.TheVariants as proposal
use Rattle.cv_syntax_trees.specs.Tree.{Tree}
use Rattle.cv_rule_array_names.specs.Sites.{listed_names}

-- the texts that are drawn for a variable of a game, one for each of these names, by the rule of cryptographic steps
abbrev pub texts_for : (before : List (List ℕ)) → (own : ℕ) → (game : Tree) → (x : ℕ) → (ys : List ℕ) → List (List ℕ)
texts_for before own game x ys = drawn_texts (texts_at before (taken_names own game)) (texts_at before (map (λ (y : ℕ). x) ys))

-- The names have the texts that are drawn for the variable, and the table got those of them that it lacked and nothing else.
pub record AreDrawnFor (before after : List (List ℕ)) (own : ℕ) (game : Tree) (x : ℕ) (ys : List ℕ) : Type 0 where
  pub live : All (λ y. y < length after) ys
  pub texts : texts_at after ys ≡ texts_for before own game x ys
  pub added : after ≡ with_texts before (texts_for before own game x ys)

-- new names of a step are drawn where it is found; in a proof block they stand in the table
abbrev pub DrawsNames : (found : Bool) → (before after : List (List ℕ)) → (own : ℕ) → (game : Tree) → (x : ℕ) → (ys : List ℕ) → Type 0
DrawsNames true before after own game x ys = AreDrawnFor before after own game x ys
DrawsNames false before after own game x ys = after ≡ before

-- the table of names goes from the one to the other before a step with these items is tried
abbrev pub DrawsBefore : (found : Bool) → (before after : List (List ℕ)) → (own : ℕ) → (game : Tree) → Option StepItems → Type 0
DrawsBefore found before after own game (Some (items.ArrayRename x to)) = DrawsNames found before after own game x (listed_names to)
DrawsBefore found before after own game other = after ≡ before

-- a proposed step gives new names
abbrev pub gives_names : Proposal → Bool
gives_names (proposal.ArrayRename x to) = true
gives_names p = false
