-- Answers of a statement, one by one.
use Rattle.std.proofs.Common.{◌≡◌, ℕ, ◌+◌, ◌^◌, ◌<◌, ◌≤◌, Bool, true, false, cond, ◌==◌, List, [], ◌∷◌, ◌++◌, drop, get_or, length, map, take, refl, sym, ap, ap₂, ◌∙◌, eq-eqb, eqb-true, arith}
use Rattle.std.proofs.lemmas.List.{drop_all, drop_more, map-append, take_all, take_more}
use Rattle.cv_syntax_trees.specs.declared.head.Head.{Head}
use Rattle.cv_syntax_trees.specs.declared.head.Head.TheVariants as head
use Rattle.cv_syntax_trees.specs.Tree.{Tree, Node}
use Rattle.cv_inline_laws.specs.extents.Extents.{Answers, answer_or, copies_of, with_answers}
use Rattle.cv_inline_measure.specs.declared.added.Added.{Added}
use Rattle.cv_inline_measure.specs.declared.game.Answer.{Answer}
use Rattle.cv_inline_measure.specs.declared.measuring.Measure.{Measure}
use Rattle.cv_inline_measure.specs.Counts.{measure_in}
use Rattle.cv_syntax.specs.limits.Limits.{told}
use Rattle.cv_inline_measure.specs.Games.{answers_in, with_call}
use Rattle.cv_syntax_trees.proofs.lists.Tests.{differs}

pub first_answer : (m : Measure) (c x z : ℕ) (a : Added) (more : List Answer) → z ≡ told ((measure_in m).along a.results c) → more ≡ record { name = x; results = z } ∷ [] → answers_in more ≡ with_call m c (answers_in []) x a
first_answer m c x z a more e f = ap answers_in f ∙ ap (λ n. (x, n) ∷ []) e

pub leaf_with : (m : Measure) (c n x : ℕ) (rs : Answers) (h : Head) (t a b : Tree) → h ≡ head.Leaf x → t ≡ Node h a b → n ≡ told (answer_or (copies_of (measure_in m) c t) rs x) → n ≡ told (with_answers (measure_in m) c rs t)
unfolding with_answers
leaf_with m c n x rs h t a b k e f =
    let whole = e ∙ ap (λ h. Node h a b) k in f ∙ (ap (λ s. told (answer_or (copies_of (measure_in m) c s) rs x)) whole ∙ sym (ap (λ s. told (with_answers (measure_in m) c rs s)) whole))

pub read_with : (m : Measure) (c n x : ℕ) (rs : Answers) (h : Head) (t a b : Tree) → h ≡ head.Read x → t ≡ Node h a b → n ≡ told (answer_or (copies_of (measure_in m) c t) rs x) → n ≡ told (with_answers (measure_in m) c rs t)
unfolding with_answers
read_with m c n x rs h t a b k e f =
    let whole = e ∙ ap (λ h. Node h a b) k in f ∙ (ap (λ s. told (answer_or (copies_of (measure_in m) c s) rs x)) whole ∙ sym (ap (λ s. told (with_answers (measure_in m) c rs s)) whole))
