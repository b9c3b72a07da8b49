-- Results with one more.
use Rattle.std.proofs.Common.{◌≡◌, ℕ, ◌+◌, ◌<◌, List, [], ◌∷◌, ◌++◌, length, All, take, get_or, map, refl, ap, sym, subst, ◌∙◌, Option, Some, None}
use Rattle.std.specs.Prelude.{slice_get}
use Rattle.std.proofs.lemmas.List.{reverse-append, take_more}
use Rattle.std.proofs.lemmas.List.Elements.{All-push}
use Rattle.cv_pool.specs.KindTree.{KindTree}
use Rattle.cv_pool.specs.declared.node.NodeId.{NodeId}
use Rattle.cv_syntax_trees.specs.Tree.{Tree}
use Rattle.cv_syntax.specs.PoolTrees.{tree_at}
use Rattle.cv_meaning.specs.contexts.Inlined.{Drawn, in_game, index_terms}
use Rattle.cv_inline.specs.NextGame as game
use Rattle.cv_inline.specs.NextGame.{numbered}
use Rattle.cv_inline.specs.declared.terms.calling.Calling.{Calling}
use Rattle.cv_inline.specs.declared.terms.scope.Entry.{Entry}
use Rattle.cv_inline.specs.terms.Callers.{caller_in}
use Rattle.cv_inline.specs.terms.Scopes.{scope_in}
use Rattle.cv_inline_sites.specs.results.Outcomes.{IsLiveOutcome, outcome_tree, results_in, term_of}
use Rattle.cv_inline_sites.specs.declared.results.outcome.Outcome.{Outcome}

-- scopes that say the same
abbrev pub SameScopes : List Entry → List Entry → Type 0
SameScopes es fs = (here : Tree) → scope_in here es ≡ scope_in here fs

pub term_same : (trees : List KindTree) (d : Drawn) (s : Option Calling) (es fs : List Entry) (term : Option NodeId) → SameScopes es fs → term_of trees d s es term ≡ term_of trees d s fs term
term_same trees d None es fs term h = refl
term_same trees d (Some s) es fs term h = ap (λ Σ. in_game d (caller_in trees s.caller) Σ (tree_at trees term)) (h (index_terms s.caller.replications.items))

-- the newest result
pub results_push : (trees : List KindTree) (d : Drawn) (callings : List Calling) (os : List Outcome) (o : Outcome) → results_in trees d callings (os ++ o ∷ []) ≡ (o.answer, outcome_tree trees d callings o) ∷ results_in trees d callings os
results_push trees d callings os o = ap (map (λ (p : Outcome). (p.answer, outcome_tree trees d callings p))) (reverse-append os (o ∷ []))

pub results_more : (trees : List KindTree) (d : Drawn) (callings : List Calling) (old new : List Outcome) (o : Outcome) (es : List Entry) (rest : game.Results) → new ≡ old ++ o ∷ [] → SameScopes o.scope.items es → results_in trees d callings old ≡ rest →
    results_in trees d callings new ≡ (o.answer, term_of trees d (slice_get callings o.site) es o.term) ∷ rest
results_more trees d callings old new o es rest n s r =
    ap (results_in trees d callings) n ∙ (results_push trees d callings old o ∙ ((λ i. (o.answer, term_same trees d (slice_get callings o.site) o.scope.items es o.term s i) ∷ r i)))

-- a copy of one more result
pub copies_more : (trees : List KindTree) (d : Drawn) (callings : List Calling) (copies new all : List Outcome) (k : ℕ) (o x : Outcome) → new ≡ copies ++ o ∷ [] → k < length all → x ≡ get_or all k x → o.answer ≡ x.answer → o.site ≡ x.site → o.term ≡ x.term →
    SameScopes o.scope.items x.scope.items → results_in trees d callings copies ≡ results_in trees d callings (take k all) → results_in trees d callings new ≡ results_in trees d callings (take (k + 1) all)
copies_more trees d callings copies new all k o x n l e a s t c r =
    let rest = results_in trees d callings (take k all) in
    results_more trees d callings copies new o x.scope.items rest n c r
    ∙ ((λ i. (a i, term_of trees d (slice_get callings (s i)) x.scope.items (t i)) ∷ rest)
    ∙ (ap (λ (p : Outcome). (p.answer, outcome_tree trees d callings p) ∷ rest) e
    ∙ (sym (results_push trees d callings (take k all) (get_or all k x)) ∙ ap (results_in trees d callings) (sym (take_more all k x l)))))

pub live_push : (live : ℕ) (old new : List Outcome) (o : Outcome) → new ≡ old ++ o ∷ [] → All (IsLiveOutcome live) old → IsLiveOutcome live o → All (IsLiveOutcome live) new
live_push live old new o e all b = subst (All (IsLiveOutcome live)) (sym e) (All-push (IsLiveOutcome live) old o all b)
