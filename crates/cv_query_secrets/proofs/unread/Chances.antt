-- The chances of the two runs are equal, so there is no advantage.
use Rattle.std.proofs.Common.{◌≡◌, ℕ, zero, suc, ◌*◌, ◌≤◌, Bool, true, false, List, inl, ap, subst, ◌∙◌, arith}
use Rattle.std.proofs.Math.Nat.{eq_of_mul-eq-mul_right}
use Rattle.std.proofs.Math.Path.{fun_ext}
use Rattle.cv_syntax_trees.specs.Tree.{Tree}
use Rattle.cv_meaning.specs.Tapes.{Cell, Tape, blank, count, total}
use Rattle.cv_meaning.specs.Interpretation.{Interpretation, Setting, setting_of}
use Rattle.cv_meaning.specs.Runs.{Real, Random, Adversary}
use Rattle.cv_meaning.specs.Cells.{cells}
use Rattle.cv_meaning.specs.Experiments.{Guesses, holds_on}
use Rattle.cv_meaning.specs.Chances.{Chance, chance, Same, AtMost, distance, zero_chance}
use Rattle.cv_meaning.specs.Advantage.{chance_of, secrecy, secrecy_query, advantage}
use Rattle.cv_meaning_laws.proofs.Listed.{cells_distinct}
use Rattle.cv_meaning_chances.specs.Tests.{renamed}
use Rattle.cv_meaning_chances.proofs.Renaming.{chance_renamed, distinct_renamed}
use Rattle.cv_meaning_chances.proofs.Within.{count_at_most}
use Rattle.cv_meaning_chances.proofs.unread.CellSizes.{same_by_sizes}
use Rattle.cv_scope_rules.specs.Phrases.{Inputs, is_phrase}
use Rattle.cv_scene.specs.Scenes.{Scene}
use Rattle.cv_query_certificates.specs.Secrets.{AreUnreadChoices}
use Rattle.cv_query_secrets.specs.unread.Exchanged.{exchanged, exchanged_on}
use Rattle.cv_costs.proofs.quiet.Chosen.{quiet}
use Rattle.cv_query_secrets.proofs.unread.Exchanged.{holds_exchanged}
use Rattle.cv_query_secrets.proofs.unread.Sizes.{exchanged_apart, renamed_sizes}

cancelled : (m n k : ℕ) → m ≤ k → n ≤ k → m * k ≡ n * k → m ≡ n
cancelled m n zero l j e = omega arith
cancelled m n (suc k) l j e = eq_of_mul-eq-mul_right (suc k) (omega arith) m n e

pub no_distance : (p q : Chance) → p ≡ q → AtMost (distance p q) zero_chance
no_distance p q e = subst (λ r. AtMost (distance p r) zero_chance) e (itself p)
  where
    itself : (r : Chance) → AtMost (distance r r) zero_chance
    itself r = omega arith

module _ (s : Scene) (x : ℕ) (phrase : is_phrase Inputs s.game ≡ true) (secret : AreUnreadChoices s.game x) (i : Interpretation) (one : Bool) (a : Adversary) where
  abbrev g : Setting
  g = setting_of s.declarations i

  pub holds : (t : Tape) → holds_on g (Guesses (Random one x)) a s.game t ≡ holds_on g (Guesses (Real one x)) a s.game (exchanged_on x t)
  holds t = holds_exchanged g one x t a s.game (quiet x s.game phrase secret)

  same : Same (chance_of g (Guesses (Real one x)) a s.game) (chance_of g (Guesses (Random one x)) a s.game)
  unfolding chance_of cells
  same =
      let cs : List (Cell × ℕ) = cells g (Random one x) a s.game in
      let real : Tape → Bool = holds_on g (Guesses (Real one x)) a s.game in
      let random : Tape → Bool = holds_on g (Guesses (Random one x)) a s.game in
      let other : chance (renamed (exchanged x) cs) random ≡ chance cs real =
      ap (chance (renamed (exchanged x) cs)) (fun_ext holds) ∙ chance_renamed (exchanged x) cs real (exchanged_apart x) in
      subst (λ r. Same r (chance cs random)) other
      (same_by_sizes random (renamed (exchanged x) cs) cs (distinct_renamed (exchanged x) cs (exchanged_apart x) (cells_distinct g (Random one x) a s.game)) (cells_distinct g (Random one x) a s.game)
      (λ d. inl (renamed_sizes x s.declarations i one a s.game phrase secret.chosen d)))

  pub equal : chance_of g (Guesses (Real one x)) a s.game ≡ chance_of g (Guesses (Random one x)) a s.game
  unfolding chance_of cells
  equal =
      let cs : List (Cell × ℕ) = cells g (Random one x) a s.game in
      let real : Tape → Bool = holds_on g (Guesses (Real one x)) a s.game in
      let random : Tape → Bool = holds_on g (Guesses (Random one x)) a s.game in
      let good : count cs real blank ≡ count cs random blank = cancelled (count cs real blank) (count cs random blank) (total cs) (count_at_most cs real blank) (count_at_most cs random blank) same in
      λ j. record { good = good j; all = total cs }

  pub no_secrecy : AtMost (secrecy g one x a s.game) zero_chance
  no_secrecy = no_distance (chance_of g (Guesses (Real one x)) a s.game) (chance_of g (Guesses (Random one x)) a s.game) equal

pub no_advantage : (g : Setting) (x : ℕ) (one : Bool) (a : Adversary) (game : Tree) → AtMost (secrecy g one x a game) zero_chance → AtMost (advantage g (secrecy_query one x) a game) zero_chance
no_advantage g x true a game e = e
no_advantage g x false a game e = e
