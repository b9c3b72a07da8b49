-- Experiments that hold alike have one chance.
use Rattle.std.proofs.Common.{◌≡◌, true, false, List, [], ◌∷◌, ℕ, sym, ap, subst, ◌∙◌}
use Rattle.std.proofs.Math.Path.{fun_ext}
use Rattle.std.proofs.lemmas.Bool.{or_parts}
use Rattle.cv_syntax_trees.specs.Tree.{Tree}
use Rattle.cv_meaning.specs.Tapes.{Cell, Tape, blank, cells_of, is_in, same_cell, written}
use Rattle.cv_meaning.specs.Interpretation.{Setting}
use Rattle.cv_meaning.specs.Runs.{Adversary}
use Rattle.cv_meaning.specs.Cells.{cells}
use Rattle.cv_meaning.specs.Experiments.{Experiment, mode_of, holds_in, holds_on}
use Rattle.cv_meaning.specs.Chances.{chance, Same}
use Rattle.cv_meaning.specs.Advantage.{chance_of}
use Rattle.cv_meaning_laws.proofs.Listed.{cells_distinct}
use Rattle.cv_meaning_chances.specs.Tests.{HasValues, HasSizes, IgnoresOthers, IsCoveredFor, IsOneToOne, IsWithin, renamed}
use Rattle.cv_meaning_chances.proofs.Covers.{same_chance}
use Rattle.cv_meaning_chances.proofs.LikeTests as like
use Rattle.cv_meaning_chances.proofs.Renaming.{chance_renamed, distinct_renamed}
use Rattle.cv_meaning_chances.proofs.Within.{written_apart}
use Rattle.cv_meaning_runs.specs.Agreement.{AgreeAt, IsLocal}
use Rattle.cv_meaning_runs.specs.Listed.{AreKeysListed, IsTestable, has_no_calls}
use Rattle.cv_meaning_runs.proofs.Listed.{listed_same, no_keys_consulted}

-- what is written into a cell that isn't listed
agree_written : (cs : List (Cell × ℕ)) (t : Tape) (c : Cell) (v : ℕ) → is_in cs c ≡ false → AgreeAt (cells_of cs) (written t c v) t
agree_written [] t c v h = tt
agree_written (d ∷ cs) t c v h =
    let parts = or_parts (same_cell d.0 c) (is_in cs c) h in
    (written_apart t c v d.0 parts.0, agree_written cs t c v parts.1)

pub others_ignored : (g : Setting) (x : Experiment) (a : Adversary) (game : Tree) → IsLocal g.side → IsTestable (mode_of x) game → ((t : Tape) → AreKeysListed g (mode_of x) a game t)
    → IgnoresOthers (holds_on g x a game) (cells g (mode_of x) a game)
unfolding holds_on
others_ignored g x a game local tested keys c h t v =
    ap (holds_in g x) (listed_same g (mode_of x) a game (written t c v) t local tested (keys (written t c v)) (agree_written (cells g (mode_of x) a game) t c v h)).state

pub others_ignored_in_games : (g : Setting) (x : Experiment) (a : Adversary) (game : Tree) → IsLocal g.side → IsTestable (mode_of x) game → has_no_calls game ≡ true
    → IgnoresOthers (holds_on g x a game) (cells g (mode_of x) a game)
others_ignored_in_games g x a game local tested none = others_ignored g x a game local tested (λ t. no_keys_consulted g (mode_of x) a game t none)

pub equal_under_names : (g h : Setting) (x y : Experiment) (a : Adversary) (name : Cell → Cell) (p q : Tree) → IsOneToOne name → ((t : Tape) → holds_on g x a p (λ c. t (name c)) ≡ holds_on h y a q t)
    → IsCoveredFor (holds_on h y a q) (renamed name (cells g (mode_of x) a p)) (cells h (mode_of y) a q)
    → IsCoveredFor (holds_on h y a q) (cells h (mode_of y) a q) (renamed name (cells g (mode_of x) a p)) → Same (chance_of g x a p) (chance_of h y a q)
unfolding chance_of
equal_under_names g h x y a name p q one e there back =
    let cs : List (Cell × ℕ) = cells g (mode_of x) a p in
    let ds : List (Cell × ℕ) = cells h (mode_of y) a q in
    let other : chance (renamed name cs) (holds_on h y a q) ≡ chance cs (holds_on g x a p) =
    ap (chance (renamed name cs)) (sym (fun_ext e)) ∙ chance_renamed name cs (holds_on g x a p) one in
    subst (λ r. Same r (chance ds (holds_on h y a q))) other
    (same_chance (holds_on h y a q) (renamed name cs) ds (distinct_renamed name cs one (cells_distinct g (mode_of x) a p)) (cells_distinct h (mode_of y) a q) there back blank)

pub equal_where_within : (g h : Setting) (x y : Experiment) (a : Adversary) (size : Cell → ℕ) (p q : Tree)
    → HasSizes size (cells g (mode_of x) a p) → HasSizes size (cells h (mode_of y) a q) → HasValues (cells g (mode_of x) a p) → HasValues (cells h (mode_of y) a q)
    → IgnoresOthers (holds_on g x a p) (cells g (mode_of x) a p) → IgnoresOthers (holds_on h y a q) (cells h (mode_of y) a q)
    → ((t : Tape) → IsWithin (cells g (mode_of x) a p) t → IsWithin (cells h (mode_of y) a q) t → holds_on g x a p t ≡ holds_on h y a q t) → Same (chance_of g x a p) (chance_of h y a q)
unfolding chance_of
equal_where_within g h x y a size p q s r v w i j e =
    like.like_tests size (cells g (mode_of x) a p) (cells h (mode_of y) a q) s r (holds_on g x a p) (holds_on h y a q)
    (cells_distinct g (mode_of x) a p) (cells_distinct h (mode_of y) a q) v w i j e
