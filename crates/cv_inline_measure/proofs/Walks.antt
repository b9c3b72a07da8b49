-- The next game of a node, over the copies, as it is told.
use Rattle.std.proofs.Common.{◌≡◌, ℕ, [], ◌∷◌, map, refl, sym, ap, ◌∙◌}
use Rattle.cv_syntax_trees.specs.declared.head.Head.{Head}
use Rattle.cv_syntax_trees.specs.declared.head.Head.TheVariants as head
use Rattle.cv_syntax_trees.specs.Head.{weight}
use Rattle.cv_syntax_trees.specs.Tree.{Tree, Empty, Node, second}
use Rattle.cv_inline.specs.NextGame.{InlinedCalls, numbered}
use Rattle.cv_inline_laws.specs.extents.Extents as extents
use Rattle.cv_inline_laws.specs.extents.Extents.{Answers, Extent, all_along, answer_or, copies_of, extent, of_call_at, of_game, over_node, with_answers}
use Rattle.cv_inline_laws.proofs.extents.Games.{AreAlike, game_alike}
use Rattle.cv_inline_laws.proofs.extents.Measures.{IsMeasure, nodes_measure, path_measure}
use Rattle.cv_inline_measure.specs.declared.added.Added.{Added}
use Rattle.cv_inline_measure.specs.declared.measuring.Measure.{Measure}
use Rattle.cv_inline_measure.specs.declared.measuring.Measure.TheVariants.{Nodes, Path}
use Rattle.cv_inline_measure.specs.Counts.{IsTold, measure_in}
use Rattle.cv_syntax.specs.limits.Limits.{told}
use Rattle.cv_inline_measure.specs.Games.{call_of_game, first_child, of_child, second_child, with_call}
use Rattle.cv_inline_measure.proofs.Counting.{keeps, node_alike, told_again}

pub is_measure : (m : Measure) → IsMeasure (measure_in m)
is_measure Nodes = nodes_measure
is_measure Path = path_measure

-- by the head of the node

by_head : (μ : extents.Measure) (i : InlinedCalls) (c : ℕ) (rs : Answers) (h : Head) (a b : Tree) → ((x l : ℕ) → h ≡ head.Call x l → ⊥) →
    of_game μ i c rs (Node h a b) ≡ over_node μ c (weight h) (of_child μ i c rs (first_child h) a) (of_child μ i c [] (second_child h) b)
unfolding of_game
by_head μ i c rs (head.Call x l) a b n = absurd (n x l refl)
by_head μ i c rs (head.Key x) a b n = refl
by_head μ i c rs (head.Let x T) a b n = refl
by_head μ i c rs head.If a b n = refl
by_head μ i c rs (head.Event e) a b n = refl
by_head μ i c rs (head.Out o) a b n = refl
by_head μ i c rs (head.In o) a b n = refl
by_head μ i c rs head.Branch a b n = refl
by_head μ i c rs (head.Leaf x) a b n = refl
by_head μ i c rs (head.Read x) a b n = refl
by_head μ i c rs h a b n = refl

pub empty_game : (m : Measure) (i : InlinedCalls) (c n : ℕ) (rs : Answers) (t : Tree) → t ≡ Empty → n ≡ told ((measure_in m).along 0 c) → n ≡ told (of_game (measure_in m) i c rs t)
unfolding of_game
empty_game m i c n rs t e f = f ∙ sym (ap (λ x. told (of_game (measure_in m) i c rs x)) e)

pub node_game : (m : Measure) (i : InlinedCalls) (c w x y n : ℕ) (rs : Answers) (h : Head) (t a b : Tree) → ((z l : ℕ) → h ≡ head.Call z l → ⊥) → t ≡ Node h a b → w ≡ weight h →
    x ≡ told (of_child (measure_in m) i c rs (first_child h) a) → y ≡ told (of_child (measure_in m) i c [] (second_child h) b) → n ≡ told (over_node (measure_in m) c w x y) → n ≡ told (of_game (measure_in m) i c rs t)
node_game m i c w x y n rs h t a b k e v p q f =
    f ∙ (ap (λ z. told (over_node (measure_in m) c z x y)) v ∙ (node_alike m c (weight h) x _ y _ p q
    ∙ ap told (sym (ap (of_game (measure_in m) i c rs) e ∙ by_head (measure_in m) i c rs h a b k))))

pub call_game : (m : Measure) (i : InlinedCalls) (c n x l : ℕ) (rs : Answers) (h : Head) (t a b : Tree) → h ≡ head.Call x l → t ≡ Node h a b → n ≡ told (call_of_game (measure_in m) i c rs x l a b) → n ≡ told (of_game (measure_in m) i c rs t)
unfolding of_game
call_game m i c n x l rs h t a b k e f = f ∙ sym (ap (λ z. told (of_game (measure_in m) i c rs z)) (e ∙ ap (λ h. Node h a b) k))

-- calls

answers_alike : (m : Measure) (p q : ℕ) (rs : Answers) → p ≡ told q → AreAlike (measure_in m) (is_measure m) told (keeps m) (map (λ (r : ℕ × ℕ). (r.0, told ((measure_in m).along p r.1))) rs) (all_along (measure_in m) q rs)
answers_alike m p q [] e = tt
answers_alike m p q (r ∷ rs) e = (refl, told_again _ ∙ (keeps m).scaled p q r.1 r.1 (ap told e ∙ told_again q) refl, answers_alike m p q rs e)

pub call_told : (m : Measure) (i : InlinedCalls) (c n o p r x l : ℕ) (rs behind : Answers) (call : Added) (a b : Tree) → IsTold call (of_call_at (measure_in m) i (numbered l i.callings) (second a)) →
    behind ≡ with_call m c rs x call → p ≡ told ((measure_in m).along call.places c) → r ≡ told (of_game (measure_in m) i p behind b) → o ≡ told ((measure_in m).along call.own c) → n ≡ told ((measure_in m).join o r) →
    n ≡ told (call_of_game (measure_in m) i c rs x l a b)
call_told m i c n o p r x l rs behind call a b h e f g j k =
    let μ : extents.Measure = measure_in m in
    let d : Extent = of_call_at μ i (numbered l i.callings) (second a) in
    let alike : (s t : ℕ) → s ≡ told t → told (μ.along s c) ≡ told (μ.along t c) = λ s t q. (keeps m).scaled s t c c (ap told q ∙ told_again t) refl in
    k ∙ (keeps m).joined o (μ.along d.own c) r (of_game μ i (μ.along d.places c) ((x, μ.along d.results c) ∷ all_along μ d.places rs) b)
    (ap told j ∙ (told_again (μ.along call.own c) ∙ alike call.own d.own h.own))
    (ap told g ∙ (told_again (of_game μ i p behind b)
    ∙ (ap (λ s. told (of_game μ i p s b)) e
    ∙ game_alike μ (is_measure m) told (keeps m) i p (μ.along d.places c) (with_call m c rs x call) ((x, μ.along d.results c) ∷ all_along μ d.places rs)
    (ap told f ∙ (told_again (μ.along call.places c) ∙ alike call.places d.places h.places))
    (refl, told_again (μ.along call.results c) ∙ alike call.results d.results h.results, answers_alike m call.places d.places rs h.places) b)))

-- terms with results for answers

with_head : (μ : extents.Measure) (c : ℕ) (rs : Answers) (h : Head) (a b : Tree) → ((x : ℕ) → h ≡ head.Leaf x → ⊥) → ((x : ℕ) → h ≡ head.Read x → ⊥) →
    with_answers μ c rs (Node h a b) ≡ over_node μ c (weight h) (with_answers μ c rs a) (with_answers μ c rs b)
unfolding with_answers
with_head μ c rs (head.Leaf x) a b l r = absurd (l x refl)
with_head μ c rs (head.Read x) a b l r = absurd (r x refl)
with_head μ c rs h a b l r = refl

pub node_with : (m : Measure) (c w x y n : ℕ) (rs : Answers) (h : Head) (t a b : Tree) → ((z : ℕ) → h ≡ head.Leaf z → ⊥) → ((z : ℕ) → h ≡ head.Read z → ⊥) → t ≡ Node h a b → w ≡ weight h →
    x ≡ told (with_answers (measure_in m) c rs a) → y ≡ told (with_answers (measure_in m) c rs b) → n ≡ told (over_node (measure_in m) c w x y) → n ≡ told (with_answers (measure_in m) c rs t)
node_with m c w x y n rs h t a b l r e v p q f =
    f ∙ (ap (λ z. told (over_node (measure_in m) c z x y)) v ∙ (node_alike m c (weight h) x _ y _ p q
    ∙ ap told (sym (ap (with_answers (measure_in m) c rs) e ∙ with_head (measure_in m) c rs h a b l r))))

pub empty_with : (m : Measure) (c n : ℕ) (rs : Answers) (t : Tree) → t ≡ Empty → n ≡ told ((measure_in m).along 0 c) → n ≡ told (with_answers (measure_in m) c rs t)
unfolding with_answers
empty_with m c n rs t e f = f ∙ sym (ap (λ x. told (with_answers (measure_in m) c rs x)) e)
