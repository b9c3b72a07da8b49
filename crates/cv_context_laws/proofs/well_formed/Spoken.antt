-- Reads of a statement's terms in the context, and of the calls before it.
use Rattle.std.proofs.Common.{◌≡◌, ℕ, ◌+◌, ◌≤◌, ◌<◌, Bool, true, false, not, ◌&&◌, ◌||◌, ◌==◌, List, [], ◌∷◌, ◌++◌, length, is_some, Option, Some, None, refl, sym, ap, subst, ◌∙◌, arith}
use Rattle.std.proofs.lemmas.Bool.{and_parts, both_ways}
use Rattle.std.specs.List.{AllByRecursion}
use Rattle.cv_syntax_trees.specs.declared.head.Head.{Head}
use Rattle.cv_syntax_trees.specs.declared.head.Head.TheVariants.{Leaf, Read, Apply, Eq, And, Or, Not, Yes, No, Cons, Binder, Name}
use Rattle.cv_syntax_trees.specs.Tree.{Tree, Empty, Node, chain, first, first_place, head_reads_only, reads_only, second_place}
use Rattle.cv_scope_rules.specs.Context.{Context, cell_of, first_position, replications_below, second_position}
use Rattle.cv_scope_rules.specs.Phrases.{Nil, OneCell, Phrase, Term, Terms, is_phrase, parts}
use Rattle.cv_scope_rules.specs.Rules.{IsAmong, Names, ReadsInReach}
use Rattle.cv_scope_rules.specs.declared.position.Position.TheVariants.{Anywhere}
use Rattle.cv_scope_runs.proofs.Rows.{walks}
use Rattle.cv_scene.specs.Sights.{variable_of}
use Rattle.cv_scene.specs.Instances.{Call, call_at}
use Rattle.cv_scene.specs.Sites.{Site, sites_in}
use Rattle.cv_scene.specs.Contexts.{call_terms}
use Rattle.cv_scene.specs.Reductions.{Reduction, is_coin, is_plain, matching}
use Rattle.cv_scene.specs.Apt.{IsAptGame, IsSiteApt, reads_outside}
use Rattle.cv_scene.specs.LeftTerms.{HasLeftTerms}
use Rattle.cv_match_laws.proofs.values.Numbers.{context}
use Rattle.cv_context_laws.proofs.shape.Terms.{children}
use Rattle.cv_context_runs.specs.visits.Fine.{has_free_indices, reads_no_call}
use Rattle.cv_context_runs.proofs.visits.Nodes.{by_call, empty_in, nil_in, node_by, none_in, plain_node, terms_stay}
use Rattle.cv_context_laws.proofs.well_formed.Becoming.{is_still_head}
use Rattle.cv_context_laws.proofs.well_formed.Shown.{AreStillParts, count_node, still_parts}
use Rattle.cv_context_laws.proofs.well_formed.Reach.{AreNamesOf, AreRead, IsBelow, cell_read, head_moves, no_coin_read, none_some, reads_move}
use Rattle.cv_syntax_trees.proofs.lists.Tests.{false_from_not}

abbrev is_read : Head → Bool
is_read (Leaf x) = true
is_read (Read x) = true
is_read h = false

-- reads have no second child
unfoldable pub AreBare : Tree → Type 0
AreBare Empty = Unit {0}
AreBare (Node h a b) = (is_read h ≡ true → b ≡ Empty) × AreBare a × AreBare b

pub bare_inner : (h : Head) (a b : Tree) → AreBare (Node h a b) → AreBare a × AreBare b
unfolding AreBare
bare_inner h a b e = (e.1, e.2)

pair_same : (u v : Phrase × Phrase) → ◌≡◌ {A = Option (Phrase × Phrase)} (Some u) (Some v) → u ≡ v
pair_same u v e = cc

no_pair : {A : Type 0} (v : Phrase × Phrase) → ◌≡◌ {A = Option (Phrase × Phrase)} None (Some v) → A
no_pair v e = absurd (clash e)
  where
    clash : ◌≡◌ {A = Option (Phrase × Phrase)} None (Some v) → ⊥
    clash e = cc

pub nil_is : (t : Tree) → is_phrase Nil t ≡ true → t ≡ Empty
unfolding is_phrase
nil_is Empty e = refl
nil_is (Node h a b) e = absurd (both_ways false refl e)

-- the children of a read
abbrev IsReadRow : Phrase × Phrase → Head → Type 0
IsReadRow q (Leaf x) = (q.0 ≡ Nil) × (q.1 ≡ Nil)
IsReadRow q (Read x) = (q.0 ≡ Terms) × (q.1 ≡ Nil)
IsReadRow q h = Unit {0}

read_row : (σ : Phrase) (h : Head) (q : Phrase × Phrase) → parts σ h ≡ Some q → IsReadRow q h
read_row OneCell (Leaf x) q e = let f = pair_same (Nil, Nil) q e in (ap (λ (p : Phrase × Phrase). p.0) (sym f), ap (λ (p : Phrase × Phrase). p.1) (sym f))
read_row Term (Leaf x) q e = let f = pair_same (Nil, Nil) q e in (ap (λ (p : Phrase × Phrase). p.0) (sym f), ap (λ (p : Phrase × Phrase). p.1) (sym f))
read_row σ (Leaf x) q e = no_pair q e
read_row OneCell (Read x) q e = let f = pair_same (Terms, Nil) q e in (ap (λ (p : Phrase × Phrase). p.0) (sym f), ap (λ (p : Phrase × Phrase). p.1) (sym f))
read_row Term (Read x) q e = let f = pair_same (Terms, Nil) q e in (ap (λ (p : Phrase × Phrase). p.0) (sym f), ap (λ (p : Phrase × Phrase). p.1) (sym f))
read_row σ (Read x) q e = no_pair q e
read_row σ h q e = tt

second_empty : (h : Head) (q : Phrase × Phrase) (b : Tree) → IsReadRow q h → is_phrase q.1 b ≡ true → is_read h ≡ true → b ≡ Empty
second_empty (Leaf x) q b w p e = nil_is b (subst (λ σ. is_phrase σ b ≡ true) w.1 p)
second_empty (Read x) q b w p e = nil_is b (subst (λ σ. is_phrase σ b ≡ true) w.1 p)
second_empty h q b w p e = absurd (both_ways false refl e)

pub phrase_bare : (t : Tree) (σ : Phrase) → is_phrase σ t ≡ true → AreBare t
unfolding AreBare
phrase_bare Empty σ e = tt
phrase_bare (Node h a b) σ e = let c = children σ h a b e in (second_empty h (c.first, c.second) b (read_row σ h (c.first, c.second) c.row) c.in_second, phrase_bare a c.first c.in_first, phrase_bare b c.second c.in_second)

pub plain_no_coin : (r : Reduction) (x : ℕ) → is_plain r x ≡ true → is_coin r x ≡ false
plain_no_coin r x e = false_from_not (is_coin r x) (and_parts (not (is_coin r x)) _ (and_parts (not (x == r.key)) _ e).1).0

module _ (r : Reduction) (apt : IsAptGame r) (left : HasLeftTerms r.scene.declarations (matching r).group) where
  still_context : (rs : List (ℕ × ℕ)) (j : ℕ) (h : Head) (a b : Tree) → is_still_head h ≡ true → call_at (matching r) (Node h a b) ≡ None → context r Anywhere rs j (Node h a b) ≡ Node h (context r Anywhere rs j a) (context r Anywhere rs (j + length (sites_in (matching r) Anywhere rs 0 a)) b)
  still_context rs j (Leaf x) a b s q = none_in r Anywhere rs j (Leaf x) a b q
  still_context rs j (Read x) a b s q = none_in r Anywhere rs j (Read x) a b q
  still_context rs j (Apply f) a b s q = none_in r Anywhere rs j (Apply f) a b q
  still_context rs j Eq a b s q = none_in r Anywhere rs j Eq a b q
  still_context rs j And a b s q = none_in r Anywhere rs j And a b q
  still_context rs j Or a b s q = none_in r Anywhere rs j Or a b q
  still_context rs j Not a b s q = none_in r Anywhere rs j Not a b q
  still_context rs j Yes a b s q = none_in r Anywhere rs j Yes a b q
  still_context rs j No a b s q = none_in r Anywhere rs j No a b q
  still_context rs j Cons a b s q = none_in r Anywhere rs j Cons a b q
  still_context rs j (Name i) a b s q = none_in r Anywhere rs j (Name i) a b q
  still_context rs j (Binder x T) a b s q = none_in r Anywhere rs j (Binder x T) a b q
  still_context rs j h a b s q = absurd (both_ways false refl s)

  still_count : (rs : List (ℕ × ℕ)) (h : Head) (a b : Tree) → is_still_head h ≡ true → call_at (matching r) (Node h a b) ≡ None → length (sites_in (matching r) Anywhere rs 0 (Node h a b)) ≡ length (sites_in (matching r) Anywhere rs 0 a) + length (sites_in (matching r) Anywhere rs 0 b)
  still_count rs (Leaf x) a b s q = count_node r apt left Anywhere rs (Leaf x) a b q
  still_count rs (Read x) a b s q = count_node r apt left Anywhere rs (Read x) a b q
  still_count rs (Apply f) a b s q = count_node r apt left Anywhere rs (Apply f) a b q
  still_count rs Eq a b s q = count_node r apt left Anywhere rs Eq a b q
  still_count rs And a b s q = count_node r apt left Anywhere rs And a b q
  still_count rs Or a b s q = count_node r apt left Anywhere rs Or a b q
  still_count rs Not a b s q = count_node r apt left Anywhere rs Not a b q
  still_count rs Yes a b s q = count_node r apt left Anywhere rs Yes a b q
  still_count rs No a b s q = count_node r apt left Anywhere rs No a b q
  still_count rs Cons a b s q = count_node r apt left Anywhere rs Cons a b q
  still_count rs (Name i) a b s q = count_node r apt left Anywhere rs (Name i) a b q
  still_count rs (Binder x T) a b s q = count_node r apt left Anywhere rs (Binder x T) a b q
  still_count rs h a b s q = absurd (both_ways false refl s)

  one_call : (rs : List (ℕ × ℕ)) (h : Head) (a b : Tree) (c : Call) → call_at (matching r) (Node h a b) ≡ Some c → length (sites_in (matching r) Anywhere rs 0 (Node h a b)) ≡ 1
  unfolding sites_in
  one_call rs h a b c e =
      ap (λ o. length (elim o as (λ _. List Site) [
        | Some c ↦ record { place = 0; term = Node h a b; replications = rs; call = c } ∷ []
        | None ↦ sites_in (matching r) (first_position Anywhere h) rs (first_place 0 h) a ++ sites_in (matching r) (second_position Anywhere h) (replications_below h rs) (second_place 0 h a) b
      ])) e

  module _ (N M : Names) (Γ Δ : Context) (names : AreNamesOf r N M) (below : IsBelow r Γ Δ) where
    head_in : (h : Head) (a b c d : Tree) → ((x : ℕ) → variable_of (Node h a b) ≡ Some x → is_coin r x ≡ false) → (is_read h ≡ true → (c ≡ a) × (d ≡ b)) → ReadsInReach N Γ h a b → ReadsInReach M Δ h c d
    head_in (Leaf x) a b c d f g m = let e = g refl in subst (λ u. ReadsInReach M Δ (Leaf x) u d) (sym e.0) (subst (λ u. ReadsInReach M Δ (Leaf x) a u) (sym e.1) (head_moves r N M Γ Δ names below (Leaf x) a b f m))
    head_in (Read x) a b c d f g m = let e = g refl in subst (λ u. ReadsInReach M Δ (Read x) u d) (sym e.0) (subst (λ u. ReadsInReach M Δ (Read x) a u) (sym e.1) (head_moves r N M Γ Δ names below (Read x) a b f m))
    head_in h a b c d f g m = tt

    reads_same : (rs : List (ℕ × ℕ)) (j k : ℕ) (h : Head) (q : Phrase × Phrase) (a b : Tree) → IsReadRow q h → is_phrase q.0 a ≡ true → is_phrase q.1 b ≡ true → reads_no_call (matching r) h a ≡ true → is_read h ≡ true → (context r Anywhere rs j a ≡ a) × (context r Anywhere rs k b ≡ b)
    reads_same rs j k (Leaf x) q a b w p s f e = (nil_in r rs j a (subst (λ σ. is_phrase σ a ≡ true) w.0 p), nil_in r rs k b (subst (λ σ. is_phrase σ b ≡ true) w.1 s))
    reads_same rs j k (Read x) q a b w p s f e = (terms_stay r rs j a (subst (λ σ. is_phrase σ a ≡ true) w.0 p) f, nil_in r rs k b (subst (λ σ. is_phrase σ b ≡ true) w.1 s))
    reads_same rs j k h q a b w p s f e = absurd (both_ways false refl e)

    pub read_in : (rs : List (ℕ × ℕ)) → Γ.replications ≡ rs → (t : Tree) (σ : Phrase) (j : ℕ) → walks σ ≡ false → is_phrase σ t ≡ true → reads_outside (matching r) (is_plain r) t ≡ true → has_free_indices (matching r) t ≡ true
        → ((i : ℕ) → j ≤ i → i < j + length (sites_in (matching r) Anywhere rs 0 t) → IsAmong (cell_of rs (r.answer i)) Δ.cells) → AreRead N Γ t → AreRead M Δ (context r Anywhere rs j t)
    unfolding reads_outside has_free_indices AreRead
    read_in rs e Empty σ j w p o f known k = subst (AreRead M Δ) (sym (empty_in r Anywhere rs j)) tt
    read_in rs e (Node h a b) σ j w p o f known k =
        let c = children σ h a b p in
        let s = subst (AreStillParts h) c.row (still_parts σ h w) in
        let g = and_parts (reads_no_call (matching r) h a) _ f in
        let v = and_parts (has_free_indices (matching r) a) (has_free_indices (matching r) b) g.1 in
        go (call_at (matching r) (Node h a b)) refl o s.0 c.first c.second (read_row σ h (c.first, c.second) c.row) c.in_first c.in_second g.0
        (λ y l. read_in rs e a c.first j s.1 c.in_first y v.0 l k.1)
        (λ y l. read_in rs e b c.second (j + length (sites_in (matching r) Anywhere rs 0 a)) s.2 c.in_second y v.1 l k.2)
      where
        go : (q : Option Call) → call_at (matching r) (Node h a b) ≡ q → (is_some q || (head_reads_only (is_plain r) h && (reads_outside (matching r) (is_plain r) a && reads_outside (matching r) (is_plain r) b))) ≡ true → is_still_head h ≡ true
            → (τ ρ : Phrase) → IsReadRow (τ, ρ) h → is_phrase τ a ≡ true → is_phrase ρ b ≡ true → reads_no_call (matching r) h a ≡ true
            → (reads_outside (matching r) (is_plain r) a ≡ true → ((i : ℕ) → j ≤ i → i < j + length (sites_in (matching r) Anywhere rs 0 a) → IsAmong (cell_of rs (r.answer i)) Δ.cells) → AreRead M Δ (context r Anywhere rs j a))
            → (reads_outside (matching r) (is_plain r) b ≡ true → ((i : ℕ) → j + length (sites_in (matching r) Anywhere rs 0 a) ≤ i → i < j + length (sites_in (matching r) Anywhere rs 0 a) + length (sites_in (matching r) Anywhere rs 0 b) → IsAmong (cell_of rs (r.answer i)) Δ.cells) → AreRead M Δ (context r Anywhere rs (j + length (sites_in (matching r) Anywhere rs 0 a)) b))
            → AreRead M Δ (context r Anywhere rs j (Node h a b))
        go (Some c) q o s τ ρ row x y g one two =
            let n = one_call rs h a b c q in
            subst (AreRead M Δ) (sym (node_by r Anywhere rs j h a b ∙ ap (λ o. by_call o (cell_of rs (r.answer j)) (plain_node r Anywhere rs j h a b)) q)) (cell_read M Δ rs (r.answer j) (below.replications ∙ e) (known j (omega arith) (omega (arith, n))))
        go None q o s τ ρ row x y g one two =
            let z = and_parts (head_reads_only (is_plain r) h) _ o in
            let v = and_parts (reads_outside (matching r) (is_plain r) a) _ z.1 in
            let n = still_count rs h a b s q in
            subst (AreRead M Δ) (sym (still_context rs j h a b s q)) (
              head_in h a b _ _ (λ i u. no_coin_read r N M Γ Δ names below (is_plain r) (plain_no_coin r) h a b i z.0 u) (reads_same rs j _ h (τ, ρ) a b row x y g) k.0,
              one v.0 (λ i l m. known i l (omega (arith, m, n))),
              two v.1 (λ i l m. known i (omega (arith, l)) (omega (arith, m, n))),
            )

    -- a call
    chain_read : (ms : List Tree) → AllByRecursion (λ m. AreRead N Γ m × AreBare m) ms → AreRead N Γ (chain ms)
    unfolding AreRead
    chain_read [] h = tt
    chain_read (m ∷ ms) h = (tt, h.0.0, chain_read ms h.1)

    key_read : (k : Tree) → variable_of k ≡ Some r.key → reads_only (is_plain r) (first k) ≡ true → AreRead N Γ k → AreBare k → AreRead M Δ k
    unfolding AreRead AreBare
    key_read (Node (Leaf x) a b) v p m u = (head_moves r N M Γ Δ names below (Leaf x) a b (λ y w. at y (sym w ∙ v)) m.0, reads_move r N M Γ Δ names below (is_plain r) (plain_no_coin r) a p m.1, subst (AreRead M Δ) (sym (u.0 refl)) tt)
      where
        at : (y : ℕ) → ◌≡◌ {A = Option ℕ} (Some y) (Some r.key) → is_coin r y ≡ false
        at y e = let f : y ≡ r.key = cc in subst (λ z. is_coin r z ≡ false) (sym f) apt.key_coin
    key_read (Node (Read x) a b) v p m u = (head_moves r N M Γ Δ names below (Read x) a b (λ y w. at y (sym w ∙ v)) m.0, reads_move r N M Γ Δ names below (is_plain r) (plain_no_coin r) a p m.1, subst (AreRead M Δ) (sym (u.0 refl)) tt)
      where
        at : (y : ℕ) → ◌≡◌ {A = Option ℕ} (Some y) (Some r.key) → is_coin r y ≡ false
        at y e = let f : y ≡ r.key = cc in subst (λ z. is_coin r z ≡ false) (sym f) apt.key_coin
    key_read Empty v p m u = none_some r.key v
    key_read (Node h a b) v p m u = none_some r.key v

    pub call_read : (rs : List (ℕ × ℕ)) (j : ℕ) (s : Site) → IsSiteApt r rs j s → AreRead N Γ s.call.instance.key × AreBare s.call.instance.key → AllByRecursion (λ m. AreRead N Γ m × AreBare m) s.call.instance.arguments → AreRead M Δ (call_terms s.call.instance)
    unfolding AreRead
    call_read rs j s a k h = (tt, key_read s.call.instance.key a.key a.key_indices k.0 k.1, reads_move r N M Γ Δ names below (is_plain r) (plain_no_coin r) (chain s.call.instance.arguments) a.arguments (chain_read s.call.instance.arguments h))
