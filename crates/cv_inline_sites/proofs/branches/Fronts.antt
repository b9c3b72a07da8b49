-- What stands before the body of a branch.
use Rattle.std.proofs.Common.{◌≡◌, ℕ, Bool, List, [], ◌∷◌, map, refl, ap, ◌∙◌}
use Rattle.cv_syntax_trees.specs.Tree.{Tree, Empty, binders}
use Rattle.cv_meaning.specs.contexts.Inlined.{Caller, Drawn, Scope, all_equal, branch_indices, cells_in_game, cells_then, each_once, in_game, index_moves, index_terms, is_index_of, moved, needed}
use Rattle.cv_inline.specs.terms.Stacks.{names_from}
use Rattle.cv_inline_sites.specs.branches.Moves.{binders_by, front, moves_by}
use Rattle.cv_inline_sites.proofs.branches.Keys.{binders_same, moves_same}

pub needed_Empty : (p : ℕ → Bool) → needed p Empty ≡ []
unfolding needed
needed_Empty p = refl

pub front_is : (d : Drawn) (c : Caller) (Σ : Scope) (name : ℕ → ℕ) (s : Caller) (cells condition : Tree) (rs : List (ℕ × ℕ)) (indices : List ℕ) (needs all S one two three : List Tree) → rs ≡ s.replications → indices ≡ names_from name 0 s.replications →
    needs ≡ all → all ≡ each_once (needed (is_index_of rs) s.key) →
    one ≡ binders (binders_by rs indices) ∷ S →
    two ≡ cells_then (map (moved (moves_by (index_terms c.replications) rs indices)) needs) (cells_in_game d c Σ cells) ∷ one →
    three ≡ all_equal (moved (moves_by (index_terms c.replications) rs indices) s.key) c.key (in_game d c Σ condition) ∷ two →
    three ≡ front d c Σ name s cells condition S
front_is d c Σ name s cells condition rs indices needs all S one two three e same some need h1 h2 h3 =
    let here : Tree = index_terms c.replications in
    let ms : moves_by here rs indices ≡ index_moves here name 0 s.replications = ap (λ r. moves_by here r indices) e ∙ (ap (moves_by here s.replications) same ∙ moves_same here name 0 s.replications) in
    let bs : binders_by rs indices ≡ branch_indices name 0 s.replications = ap (λ r. binders_by r indices) e ∙ (ap (binders_by s.replications) same ∙ binders_same name 0 s.replications) in
    let ns : needs ≡ each_once (needed (is_index_of s.replications) s.key) = some ∙ (need ∙ ap (λ r. each_once (needed (is_index_of r) s.key)) e) in
    h3
    ∙ (ap (λ l. all_equal (moved (moves_by here rs indices) s.key) c.key (in_game d c Σ condition) ∷ l) (h2 ∙ ap (λ l. cells_then (map (moved (moves_by here rs indices)) needs) (cells_in_game d c Σ cells) ∷ l) h1)
    ∙ (λ i. all_equal (moved (ms i) s.key) c.key (in_game d c Σ condition) ∷ (cells_then (map (moved (ms i)) (ns i)) (cells_in_game d c Σ cells) ∷ (binders (bs i) ∷ S))))
