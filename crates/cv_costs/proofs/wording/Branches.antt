-- Branches have the same candidates where the terms at the places in their conditions keep their values.
use Rattle.std.proofs.Common.{◌≡◌, ℕ, suc, Bool, true, false, cond, max, not, ◌&&◌, ◌==◌, List, [], ◌∷◌, ◌++◌, flat_map, None, refl, sym, ap, ap₂, subst, ◌∙◌}
use Rattle.std.proofs.lemmas.Bool.{both_ways, and_parts, not-true, or_left, or_parts, or_right}
use Rattle.cv_syntax_trees.specs.declared.head.Head.TheVariants.{Binder, Branch, Cons}
use Rattle.cv_syntax_trees.specs.Tree.{Tree, Empty, Node, first_place, second_place}
use Rattle.cv_meaning.specs.Binders.{binder_count, bound_to, fits, widest_binder}
use Rattle.cv_meaning.specs.Candidates.{Candidate, are_assigned, candidate, candidates, candidates_at, most_indices, tuples_up_to, widest}
use Rattle.cv_meaning.specs.Interpretation.{Setting}
use Rattle.cv_meaning.specs.Memory.{Happened, Indices, Store, put, tuple}
use Rattle.cv_meaning.specs.Terms.{is_one, value}
use Rattle.cv_scope_rules.specs.Context.{Context}
use Rattle.cv_scope_rules.specs.Made.{is_bound, is_own_of}
use Rattle.cv_scope_rules.specs.Phrases.{Arm, Binders, Branches, Cells, Guarded, Guards, Term, is_phrase}
use Rattle.cv_scope_rules.specs.Scope.{is_variable}
use Rattle.cv_scope_runs.specs.Reads.{IsKept}
use Rattle.cv_scope_runs.proofs.Candidates.{OnlyVariables, list_cells}
use Rattle.cv_scope_runs.proofs.Contexts.{Holds, Matches, bound_later, put_other}
use Rattle.cv_scope_runs.proofs.Games.{Game, stands_asked, stands_phrase}
use Rattle.cv_scope_runs.proofs.PathRuns.{guarded_holds, own_ready, term_reads}
use Rattle.cv_scope_runs.proofs.Standing.{Stands, in_first, in_second, second_below}
use Rattle.cv_scene.specs.Scenes.{has_news_alone}
use Rattle.cv_steps.proofs.Flat.{guarded_of, guards_of}
use Rattle.cv_costs.specs.wording.Changing.{changed_at}
use Rattle.cv_costs.specs.wording.Facts.{IsOfArray, KeepsValues}
use Rattle.cv_costs.proofs.wording.Places.{AreAt, at_first, at_second, kept_bare, kept_node}
use Rattle.cv_costs.proofs.wording.Values.{same_values}

-- an array that binders leave

pub bound_other : (m : Store) (u : List ℕ) (bs : Tree) (vs : List ℕ) (y : ℕ) (w : List ℕ) → is_bound bs y ≡ false → bound_to m u bs vs y w ≡ m y w
unfolding bound_to is_bound
bound_other m u (Node (Binder x T) a b) (v ∷ vs) y w e =
    let r = or_parts (y == x) (is_bound b y) e in
    bound_other (put m x u v) u b vs y w r.1 ∙ put_other m x u v y w (λ i j. both_ways (y == x) r.0 i)
bound_other m u bs vs y w e = refl

-- a variable that `new` alone defines is no index variable
pub unbound_branch : (y : ℕ) (us rest more : Tree) → has_news_alone y (Node Cons (Node Branch us rest) more) ≡ true → is_bound us y ≡ false
unfolding has_news_alone
unbound_branch y us rest more e =
    let arm = and_parts (has_news_alone y (Node Branch us rest)) (has_news_alone y more) e in
    not-true (is_bound us y) (and_parts (not (is_bound us y)) (has_news_alone y us && has_news_alone y rest) arm.0).0

-- the trees have the same candidates in a store
record HaveSameCandidates (g : Setting) (at : Indices) (m : Store) (a c : Tree) : Type 0 where
  indices : most_indices a ≡ most_indices c
  bounds : (bound : ℕ → ℕ) → widest bound a ≡ widest bound c
  candidates : (u : List ℕ) (k : ℕ) → candidates_at g at m u k a ≡ candidates_at g at m u k c

module _ (g : Setting) (game : Tree) (fine : Game g (is_variable game) game) (y : ℕ) (places : ℕ → Bool) (change : Tree → Tree) (P : Store → Type 0) (array : IsOfArray y P) (same : KeepsValues g game places change P) where
  -- the condition of a branch
  same_condition : (at : Indices) (m : Store) (es : List Happened) (us cells c b : Tree) {p : ℕ} {Γ : Context} → Stands game p Arm Γ (Node Branch us (Node Cons cells (Node Cons c b))) → is_phrase Term c ≡ true
      → AreAt places change game Term (first_place (second_place (second_place p Branch us) Cons cells) Cons) c → Matches g (is_variable game) Γ.replications at → Holds g (is_variable game) Γ at m es → OnlyVariables g (is_variable game) m
      → ((z : ℕ) → is_bound us z ≡ true → m z (tuple at) ≡ None) → is_bound us y ≡ false → P m → (u : List ℕ) → fits g.interpretation.parameter_value us u ≡ true → are_assigned g at m (bound_to m (tuple at) us u) cells ≡ true
      → value g at (bound_to m (tuple at) us u) c ≡ value g at (bound_to m (tuple at) us u) (changed_at places change (first_place (second_place (second_place p Branch us) Cons cells) Cons) c)
  same_condition at m es us cells c b {p = p} {Γ = Γ} st w k f h o free un q u fit e =
      let n : Store = bound_to m (tuple at) us u in
      let variable : ℕ → Bool = is_variable game in
      let Γ1 : Context = second_below Arm Branch us Γ in
      let Γ2 : Context = second_below Guards Cons cells Γ1 in
      let l : IsKept m n = bound_later m (tuple at) us u (stands_asked g variable game fine st).0.distinct free in
      let h1 : Holds g variable Γ1 at n es = own_ready g variable game fine p Γ us (Node Cons cells (Node Cons c b)) at m es u st f h free fit in
      let in_cells : Stands game _ Cells Γ1 cells = in_first refl (in_second refl st) in
      let ls = list_cells g variable fine.apart Γ1 at m n es f h1 l o cells (stands_phrase g variable game fine in_cells) (stands_asked g variable game fine in_cells) e in
      let h2 : Holds g variable Γ2 at n es = guarded_holds g variable game fine Γ1 at n es cells h1 ls in
      let condition : Stands game _ Term Γ2 c = in_first refl (in_second refl (in_second refl st)) in
      same_values g game places change P same at n (array m n (λ v. bound_other m (tuple at) us u y v un) q) Term c condition w k f (term_reads g variable game fine condition at n es f h2)

  -- one branch, with another condition and body
  same_candidate : (at : Indices) (m : Store) (us cells c d b e : Tree) → ((u : List ℕ) → fits g.interpretation.parameter_value us u ≡ true → are_assigned g at m (bound_to m (tuple at) us u) cells ≡ true → value g at (bound_to m (tuple at) us u) c ≡ value g at (bound_to m (tuple at) us u) d)
      → (u : List ℕ) (k : ℕ) → candidate g at m u k (Node Branch us (Node Cons cells (Node Cons c b))) ≡ candidate g at m u k (Node Branch us (Node Cons cells (Node Cons d e)))
  same_candidate at m us cells c d b e says u k = go (fits g.interpretation.parameter_value us u) refl (are_assigned g at m n cells) refl
    where
      n : Store
      n = bound_to m (tuple at) us u

      if_assigned : Bool → Tree → Bool
      if_assigned w t = elim w [ true ↦ is_one (value g at n t) | false ↦ false ]

      if_fits : Bool → Bool → List Candidate
      if_fits v w = elim v [ true ↦ cond w (record { branch = k; tuple = u } ∷ []) [] | false ↦ [] ]

      go : (v : Bool) → fits g.interpretation.parameter_value us u ≡ v → (w : Bool) → are_assigned g at m n cells ≡ w → if_fits v (if_assigned w c) ≡ if_fits v (if_assigned w d)
      go false f w i = refl
      go true f false i = refl
      go true f true i = ap (λ z. if_fits true (is_one z)) (says u f i)

  kept_candidates : (at : Indices) (m : Store) (es : List Happened) (t : Tree) {p : ℕ} {Γ : Context} → Stands game p Branches Γ t → is_phrase Branches t ≡ true → has_news_alone y t ≡ true → AreAt places change game Branches p t
      → Matches g (is_variable game) Γ.replications at → Holds g (is_variable game) Γ at m es → OnlyVariables g (is_variable game) m → ((z : ℕ) → is_own_of t z ≡ true → m z (tuple at) ≡ None) → P m → HaveSameCandidates g at m t (changed_at places change p t)
  unfolding candidates_at is_phrase has_news_alone changed_at
  kept_candidates at m es Empty st w n k f h o free q = record { indices = refl; bounds = λ bound. refl; candidates = λ u j. refl }
  kept_candidates at m es (Node Cons (Node Branch us (Node Cons cells (Node Cons c b))) more) {p = p} {Γ = Γ} st w n k f h o free q =
      let r = kept_candidates at m es more (in_second refl st) (and_parts (is_phrase Arm arm) (is_phrase Branches more) w).1 (and_parts (has_news_alone y arm) (has_news_alone y more) n).1 (at_second places change game Branches Cons arm more p k) f h o (λ z i. free z (or_right (is_bound us z) _ i)) q in
      subst (HaveSameCandidates g at m (Node Cons arm more)) (sym next)
      (record {
        indices = ap (max (binder_count us)) r.indices;
        bounds = λ bound. ap (max (widest_binder bound us)) (r.bounds bound);
        candidates = λ u j. ap₂ ◌++◌
            (same_candidate at m us cells c (changed c_place c) b (changed b_place b)
            (λ u i e. same_condition at m es us cells c b st_arm (and_parts (is_phrase Term c) _ (guarded_of us cells (Node Cons c b) more w)).0 at_c f h o (λ z i. free z (or_left (is_bound us z) _ i)) (unbound_branch y us (Node Cons cells (Node Cons c b)) more n) q u i e) u j)
            (r.candidates u (suc j));
      })
    where
      changed : ℕ → Tree → Tree
      changed i t = changed_at places change i t

      arm : Tree
      arm = Node Branch us (Node Cons cells (Node Cons c b))

      st_arm : Stands game (first_place p Cons) Arm Γ arm
      st_arm = in_first refl st

      guards_place : ℕ
      guards_place = second_place (first_place p Cons) Branch us

      guarded_place : ℕ
      guarded_place = second_place guards_place Cons cells

      c_place : ℕ
      c_place = first_place guarded_place Cons

      b_place : ℕ
      b_place = second_place guarded_place Cons c

      at_arm : AreAt places change game Arm (first_place p Cons) arm
      at_arm = at_first places change game Branches Cons arm more p k

      at_us : AreAt places change game Binders (first_place (first_place p Cons) Branch) us
      at_us = at_first places change game Arm Branch us (Node Cons cells (Node Cons c b)) (first_place p Cons) at_arm

      at_guards : AreAt places change game Guards guards_place (Node Cons cells (Node Cons c b))
      at_guards = at_second places change game Arm Branch us (Node Cons cells (Node Cons c b)) (first_place p Cons) at_arm

      at_cells : AreAt places change game Cells (first_place guards_place Cons) cells
      at_cells = at_first places change game Guards Cons cells (Node Cons c b) guards_place at_guards

      at_guarded : AreAt places change game Guarded guarded_place (Node Cons c b)
      at_guarded = at_second places change game Guards Cons cells (Node Cons c b) guards_place at_guards

      at_c : AreAt places change game Term c_place c
      at_c = at_first places change game Guarded Cons c b guarded_place at_guarded

      next : changed p (Node Cons arm more) ≡ Node Cons (Node Branch us (Node Cons cells (Node Cons (changed c_place c) (changed b_place b)))) (changed (second_place p Cons arm) more)
      next =
          ap (λ z. Node Cons z (changed (second_place p Cons arm) more))
          (kept_node places change game Arm (first_place p Cons) Branch us (Node Cons cells (Node Cons c b)) refl at_arm
          ∙ ap₂ (λ u z. Node Branch u (Node Cons z (Node Cons (changed c_place c) (changed b_place b))))
          (kept_bare places change game Binders (first_place (first_place p Cons) Branch) us refl at_us) (kept_bare places change game Cells (first_place guards_place Cons) cells refl at_cells))
  kept_candidates at m es (Node Cons (Node Branch us (Node Cons cells rest)) more) st w n k f h o free q = absurd (both_ways false refl (guarded_of us cells rest more w))
  kept_candidates at m es (Node Cons (Node Branch us rest) more) st w n k f h o free q = absurd (both_ways false refl (guards_of us rest more w))
  kept_candidates at m es t st w n k f h o free q = absurd (both_ways false refl w)

  pub candidates_kept : (at : Indices) (m : Store) (es : List Happened) (t : Tree) {p : ℕ} {Γ : Context} → Stands game p Branches Γ t → is_phrase Branches t ≡ true → has_news_alone y t ≡ true → AreAt places change game Branches p t
      → Matches g (is_variable game) Γ.replications at → Holds g (is_variable game) Γ at m es → OnlyVariables g (is_variable game) m → ((z : ℕ) → is_own_of t z ≡ true → m z (tuple at) ≡ None) → P m → candidates g at m t ≡ candidates g at m (changed_at places change p t)
  unfolding candidates
  candidates_kept at m es t st w n k f h o free q =
      let r = kept_candidates at m es t st w n k f h o free q in
      λ i. flat_map (λ u. r.candidates u 0 i) (tuples_up_to (r.indices i) (r.bounds g.interpretation.parameter_value i))
