-- What the next game has for the children of a node, over the copies. This profile's own.
use Rattle.std.specs.Prelude.{ℕ, [], ◌∷◌, List, map}
use Rattle.cv_syntax_trees.specs.declared.head.Head.{Head}
use Rattle.cv_syntax_trees.specs.declared.head.Head.TheVariants as head
use Rattle.cv_syntax_trees.specs.Tree.{Tree, second}
use Rattle.cv_inline.specs.NextGame.{InlinedCalls, numbered}
use Rattle.cv_inline_laws.specs.extents.Extents as extents
use Rattle.cv_inline_laws.specs.extents.Extents.{Answers, Extent, all_along, copies_of, of_call_at, of_game, with_answers}
use Rattle.cv_inline_measure.specs.declared.added.Added.{Added}
use Rattle.cv_inline_measure.specs.declared.game.Answer.{Answer}
use Rattle.cv_inline_measure.specs.declared.game.Kind.{Kind}
use Rattle.cv_inline_measure.specs.declared.game.Kind.TheVariants.{Nothing, Results, Same, Game}
use Rattle.cv_inline_measure.specs.declared.measuring.Measure.{Measure}
use Rattle.cv_inline_measure.specs.Counts.{measure_in}
use Rattle.cv_syntax.specs.limits.Limits.{told}

abbrev pub answers_in : List Answer → Answers
answers_in rs = map (λ (r : Answer). (r.name, r.results)) rs

abbrev pub first_child : Head → Kind
first_child (head.Key x) = Nothing
first_child (head.Let x T) = Results
first_child head.If = Results
first_child (head.Event e) = Results
first_child (head.Out c) = Results
first_child (head.In c) = Same
first_child head.Branch = Same
first_child (head.Leaf x) = Same
first_child (head.Read x) = Same
first_child h = Game

abbrev pub second_child : Head → Kind
second_child (head.Leaf x) = Same
second_child (head.Read x) = Same
second_child h = Game

abbrev pub of_child : extents.Measure → InlinedCalls → (copies : ℕ) → Answers → Kind → Tree → ℕ
of_child μ i c rs Nothing t = μ.along 0 c
of_child μ i c rs Results t = with_answers μ c rs t
of_child μ i c rs Same t = copies_of μ c t
of_child μ i c rs Game t = of_game μ i c [] t

-- a call with what stands behind it
abbrev pub call_of_game : extents.Measure → InlinedCalls → (copies : ℕ) → Answers → (x number : ℕ) → (first second : Tree) → ℕ
call_of_game μ i c rs x l a b =
    let e : Extent = of_call_at μ i (numbered l i.callings) (second a) in
    μ.join (μ.along e.own c) (of_game μ i (μ.along e.places c) ((x, μ.along e.results c) ∷ all_along μ e.places rs) b)

-- the answers behind a call, as they are told
abbrev pub with_call : Measure → (copies : ℕ) → Answers → (x : ℕ) → Added → Answers
with_call m c rs x a = (x, told ((measure_in m).along a.results c)) ∷ map (λ (r : ℕ × ℕ). (r.0, told ((measure_in m).along a.places r.1))) rs
