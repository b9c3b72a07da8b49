-- The chances of experiments in a game and in the one without some definitions, or with an `if` of equal bodies.
use Rattle.std.proofs.Common.{◌≡◌, ℕ, Bool, true, false, cond, List, [], ◌⊎◌, inl, inr, refl, sym, subst}
use Rattle.std.proofs.Math.Path.{fun_ext}
use Rattle.cv_syntax_trees.specs.declared.head.Head.TheVariants.{If, Cons}
use Rattle.cv_syntax_trees.specs.Tree.{Tree, Empty, Node, first_place, second_place}
use Rattle.cv_meaning.specs.Tapes.{Cell, Tape}
use Rattle.cv_meaning.specs.Interpretation.{Setting}
use Rattle.cv_meaning.specs.Memory.{Local}
use Rattle.cv_meaning.specs.Terms.{is_one, value_here}
use Rattle.cv_meaning.specs.Inputs.{inputs_of}
use Rattle.cv_meaning.specs.Serving.{step, serve}
use Rattle.cv_meaning.specs.Runs.{Adversary}
use Rattle.cv_meaning.specs.Cells.{cells}
use Rattle.cv_meaning.specs.Experiments.{Experiment, mode_of, holds_on, visits_of_run}
use Rattle.cv_meaning.specs.Chances.{chance, Same}
use Rattle.cv_meaning.specs.Advantage.{chance_of}
use Rattle.cv_meaning_laws.proofs.Listed.{cells_distinct}
use Rattle.cv_meaning_chances.specs.Tests.{Ignores, IgnoresOthers}
use Rattle.cv_meaning_runs.specs.Agreement.{IsLocal}
use Rattle.cv_meaning_runs.specs.Listed.{IsTestable, has_no_calls}
use Rattle.cv_meaning_runs.specs.Simulation.{InOrder, AreServedAlike}
use Rattle.cv_meaning_runs.specs.Replacement.{Process, IsReplaced, AreLikeInputs, SameMemory, ServeAlike, if_tree}
use Rattle.cv_meaning.specs.Replaced.{is_output}
use Rattle.cv_meaning_runs.proofs.Outputs.{output_begins, output_opens, served_elsewhere}
use Rattle.cv_meaning_runs.proofs.Replacement.{replaced_holds}
use Rattle.cv_meaning_chances.proofs.alignment.Closing.{others_ignored_in_games}
use Rattle.cv_meaning_chances.specs.unread.Dropping.{draws_none, IsDropped, IsUntested}
use Rattle.cv_meaning.specs.Still.{is_still}
use Rattle.cv_meaning_chances.specs.unread.Sizes.{size_in, GiveSizesFor}
use Rattle.cv_meaning_chances.proofs.unread.Alike.{holds_without}
use Rattle.cv_meaning_chances.proofs.unread.CellSizes.{is_drawn, undrawn, other_sizes, split_sizes, same_by_sizes}
use Rattle.cv_syntax_trees.proofs.lists.Each.{AllByRecursion_trivial}

-- So the experiment has one chance in both games.
pub chance_without : (g : Setting) (x : Experiment) (a : Adversary) (xs : ℕ → Bool) (game next : Tree) → IsLocal g.side → IsTestable (mode_of x) next → has_no_calls next ≡ true → draws_none xs next ≡ true
    → IsDropped xs Process game next → IsUntested xs (mode_of x) → Same (chance_of g x a game) (chance_of g x a next)
unfolding chance_of
chance_without g x a xs game next local tested plain none z e =
    let cs : List (Cell × ℕ) = cells g (mode_of x) a game in
    let ds : List (Cell × ℕ) = cells g (mode_of x) a next in
    let ignores = others_ignored_in_games g x a next local tested plain in
    let sizes : GiveSizesFor (holds_on g x a next) cs ds = λ (d : Cell). go d ignores (is_drawn xs d) refl in
    subst (λ p. Same (chance cs p) (chance ds (holds_on g x a next))) (sym (fun_ext (λ t. holds_without xs g x a game next t z e)))
    (same_by_sizes (holds_on g x a next) cs ds (cells_distinct g (mode_of x) a game) (cells_distinct g (mode_of x) a next) sizes)
  where
    go : (d : Cell) → IgnoresOthers (holds_on g x a next) (cells g (mode_of x) a next) → (b : Bool) → is_drawn xs d ≡ b
        → (size_in (cells g (mode_of x) a game) d ≡ size_in (cells g (mode_of x) a next) d) ⊎ Ignores (holds_on g x a next) d
    go d i true f = inr (i d (undrawn g (mode_of x) a xs next d none plain f))
    go d i false f = inl (other_sizes g (mode_of x) a xs game next d z e f)

-- an `if` with equal bodies, and one of them

pub split_serves : (g : Setting) (t : Tape) (condition body : Tree) (place : ℕ) → is_output body ≡ true → ServeAlike (λ v. Unit {0}) g t body (if_tree condition body body) place
unfolding serve step inputs_of
split_serves g t condition body place o = record {
  opened = λ at. subst (λ is. InOrder (AreLikeInputs body new place) is []) (sym (output_opens g body place at o)) tt;
  served = λ k vs s e. served k vs s;
}
  where
    new : Tree
    new = if_tree condition body body

    list : ℕ
    list = second_place place If condition

    alike : (q k : ℕ) (vs : List ℕ) (s : Local) → AreServedAlike SameMemory (AreLikeInputs body new place) (serve g t body place k vs s) (serve g t body q 0 [] s)
    alike q k vs s = subst (λ r. AreServedAlike SameMemory (AreLikeInputs body new place) r (serve g t body q 0 [] s)) (sym (output_begins g t body place k vs s o)) (served_elsewhere g t body new place body place q 0 [] s)

    served : (k : ℕ) (vs : List ℕ) (s : Local) → AreServedAlike SameMemory (AreLikeInputs body new place) (serve g t body place k vs s) (serve g t new place k vs s)
    served k vs s = go (is_one (value_here g s condition))
      where
        go : (b : Bool) → AreServedAlike SameMemory (AreLikeInputs body new place) (serve g t body place k vs s) (serve g t (Node Cons body (Node Cons body Empty)) list (cond b 0 1) [] s)
        go true = alike (first_place list Cons) k vs s
        go false = alike (first_place (second_place list Cons body) Cons) k vs s

pub split_holds : (g : Setting) (x : Experiment) (a : Adversary) (condition body : Tree) (place : ℕ) (game next : Tree) (t : Tape) → is_output body ≡ true → IsReplaced body (if_tree condition body body) place Process 0 game next → holds_on g x a game t ≡ holds_on g x a next t
split_holds g x a condition body place game next t o z =
    replaced_holds (λ v. Unit {0}) x a g body (if_tree condition body body) place game next t (record {
      replaced = z;
      alike = split_serves g t condition body place o;
      visited = AllByRecursion_trivial (visits_of_run g (mode_of x) a game t);
    })

pub split_chance : (g : Setting) (x : Experiment) (a : Adversary) (condition body : Tree) (place : ℕ) (game next : Tree) → is_output body ≡ true → is_still condition ≡ true → IsReplaced body (if_tree condition body body) place Process 0 game next → Same (chance_of g x a game) (chance_of g x a next)
unfolding chance_of
split_chance g x a condition body place game next o e z =
    let cs : List (Cell × ℕ) = cells g (mode_of x) a game in
    let ds : List (Cell × ℕ) = cells g (mode_of x) a next in
    subst (λ p. Same (chance cs p) (chance ds (holds_on g x a next))) (sym (fun_ext (λ t. split_holds g x a condition body place game next t o z)))
    (same_by_sizes (holds_on g x a next) cs ds (cells_distinct g (mode_of x) a game) (cells_distinct g (mode_of x) a next) (λ d. inl (split_sizes g (mode_of x) a condition body place game next d e z)))
