-- A place of a well-formed game or context has at most 16 factors: at most eight replications stand above it, and where it lies
-- in a branch's list or condition, the branch has at most eight indices.
use Rattle.std.proofs.Common.{◌≡◌, ℕ, ◌+◌, ◌<◌, ◌≤◌, Bool, true, false, cond, List, [], ◌∷◌, ◌++◌, length, Option, Some, None, refl, sym, ap, subst, ◌∙◌, arith, nat_lt, le-ltb, ltb-true, length-append}
use Rattle.std.specs.Prelude.{option_map, option_and_then}
use Rattle.std.proofs.lemmas.Bool.{both_ways, and_parts}
use Rattle.cv_syntax.specs.faults.Walk.{IsObeyed}
use Rattle.cv_syntax_trees.specs.declared.head.Head.{Head}
use Rattle.cv_syntax_trees.specs.declared.head.Head.TheVariants.{Repl, Branch, Cons, Binder}
use Rattle.cv_syntax_trees.specs.Declarations.{Declaration}
use Rattle.cv_syntax_trees.specs.Tree.{Tree, Empty, Node, size}
use Rattle.cv_syntax_trees.specs.sites.Counting.{count}
use Rattle.cv_scope_rules.specs.declared.fault.Fault.TheVariants as fault
use Rattle.cv_scope_rules.specs.Context.{replications_below}
use Rattle.cv_scope_rules.specs.Rules.{Names, IsFewIndices, Obeys}
use Rattle.cv_scope_rules.specs.Scope.{IsScopedAt, names_of}
use Rattle.cv_scope_rules.specs.Standing.{Standing, at_root, first_standing, second_standing}
use Rattle.cv_scope_rules.proofs.Apart.{first_replications, second_replications}
use Rattle.cv_scope_rules.specs.Phrases.{Phrase, Inputs, Guards, Cells, Term, oracle_parts, is_oracle_phrase, IsWellFormedContext}
use Rattle.cv_scope_runs.proofs.Rows.{walks}
use Rattle.cv_scope_runs.proofs.Games.{has_parts, phrase_parts}
use Rattle.cv_path.specs.declared.place.Lies.{Lies}
use Rattle.cv_path.specs.declared.place.Lies.TheVariants.{Here, Within, Behind}
use Rattle.cv_path.specs.Places.{LiesAt}
use Rattle.cv_path.specs.Copies.{added, copies_at, few_copies_at, guards, if_few, most_factors, parameters}
use Rattle.cv_path.proofs.Bounds.{lies_somewhere}
use Rattle.cv_derive_facts.proofs.Flat.{Some_injective, arm_parts, flat_parts}
use Rattle.cv_path.proofs.Products.{copies_empty, copies_here, copies_within, copies_behind}
use Rattle.cv_syntax_trees.proofs.lists.Options.{none_some}

mapped : (f : List ℕ → List ℕ) (o : Option (List ℕ)) (ns : List ℕ) → option_map f o ≡ Some ns → (ms : List ℕ) × (o ≡ Some ms) × (ns ≡ f ms)
mapped f None ns e = absurd (none_some ns e)
mapped f (Some ms) ns e = (ms, refl, sym (Some_injective (f ms) ns e))

no_factors : (t : Tree) (σ : Phrase) → walks σ ≡ false → is_oracle_phrase σ t ≡ true → (p : ℕ) (ns : List ℕ) → copies_at t p ≡ Some ns → ns ≡ []
no_factors Empty σ w f p ns e = absurd (none_some ns (sym (copies_empty Empty p refl) ∙ e))
no_factors (Node h a b) σ w f p ns e =
    let q = has_parts σ h a b f in
    let r = flat_parts σ q.0.0 q.0.1 h w q.1 in
    let s = phrase_parts σ q.0.0 q.0.1 h a b q.1 f in
    go (no_factors a q.0.0 r.first s.0) (no_factors b q.0.1 r.second s.1) r.added (lies_somewhere h a p)
  where
    go : ((p : ℕ) (ns : List ℕ) → copies_at a p ≡ Some ns → ns ≡ []) → ((p : ℕ) (ns : List ℕ) → copies_at b p ≡ Some ns → ns ≡ []) → ((a b : Tree) (p : ℕ) → added h a b p ≡ []) → (l : Lies) × LiesAt h a p l → ns ≡ []
    go i j n (Here, l) = Some_injective ns [] (sym e ∙ copies_here (Node h a b) h a b p 0 refl l)
    go i j n (Within k, l) = i k ns (sym (copies_within (Node h a b) h a b p k refl l) ∙ e)
    go i j n (Behind k, l) =
        let m = mapped (λ ms. added h a b k ++ ms) (copies_at b k) ns (sym (copies_behind (Node h a b) h a b p k refl l) ∙ e) in
        m.2 ∙ (ap (λ ms. ms ++ m.0) (n a b k) ∙ j k m.0 m.1)

-- a branch's list and condition

guards_flat : (b : Tree) → is_oracle_phrase Guards b ≡ true → (p : ℕ) (ns : List ℕ) → p < guards b → copies_at b p ≡ Some ns → ns ≡ []
unfolding is_oracle_phrase
guards_flat Empty f p ns l e = absurd (both_ways _ refl f)
guards_flat (Node Cons cells Empty) f p ns l e = absurd (both_ways _ refl (and_parts (is_oracle_phrase Cells cells) _ f).1)
guards_flat (Node Cons cells (Node Cons c body)) f p ns l e = outer (lies_somewhere Cons cells p)
  where
    parts : (is_oracle_phrase Cells cells ≡ true) × (is_oracle_phrase Term c ≡ true)
    parts = let r = and_parts (is_oracle_phrase Cells cells) _ f in (r.0, (and_parts (is_oracle_phrase Term c) _ r.1).0)

    inner : (k : ℕ) → k < size c → copies_at (Node Cons c body) k ≡ Some ns → (l : Lies) × LiesAt Cons c k l → ns ≡ []
    inner k m i (Here, l) = absurd (omega (arith, l))
    inner k m i (Within j, l) = no_factors c Term refl parts.1 j ns (sym (copies_within (Node Cons c body) Cons c body k j refl l) ∙ i)
    inner k m i (Behind j, l) = absurd (omega (arith, l, m))

    outer : (l : Lies) × LiesAt Cons cells p l → ns ≡ []
    outer (Here, m) = absurd (omega (arith, m))
    outer (Within k, m) = no_factors cells Cells refl parts.0 k ns (sym (copies_within (Node Cons cells (Node Cons c body)) Cons cells (Node Cons c body) p k refl m) ∙ e)
    outer (Behind k, m) =
        let i = mapped (λ ms. added Cons cells (Node Cons c body) k ++ ms) (copies_at (Node Cons c body) k) ns (sym (copies_behind (Node Cons cells (Node Cons c body)) Cons cells (Node Cons c body) p k refl m) ∙ e) in
        let short : k < size c = omega (arith, l, m) in
        inner k short (i.1 ∙ ap Some (sym i.2)) (lies_somewhere Cons c k)
guards_flat (Node Cons cells (Node h c body)) f p ns l e = absurd (both_ways _ refl (and_parts (is_oracle_phrase Cells cells) _ f).1)
guards_flat (Node h cells b) f p ns l e = absurd (both_ways _ refl f)

parameters_few : (t : Tree) → length (parameters t) ≤ count t
unfolding parameters count
parameters_few Empty = omega arith
parameters_few (Node (Binder u n) a b) = let l = parameters_few b in omega (arith, l)
parameters_few (Node h a b) = let l = parameters_few b in omega (arith, l)

-- the factors of a place, with the replications above its tree

few_here : (rs : List (ℕ × ℕ)) (ns : List ℕ) → length rs ≤ 8 → ns ≡ [] → length ns + length rs ≤ most_factors
few_here rs ns l e = let m : length ns ≡ 0 = ap length e in omega (arith, l, m)

few_behind : (h : Head) (rs : List (ℕ × ℕ)) (a b : Tree) (p : ℕ) (ms : List ℕ) → length rs ≤ 8 → IsFewIndices h a → ((h ≡ Branch) → p < guards b → ms ≡ []) → length ms + length (replications_below h rs) ≤ most_factors → length (added h a b p ++ ms) + length rs ≤ most_factors
few_behind (Repl i n) rs a b p ms l c g m = let e : length (rs ++ (i, n) ∷ []) ≡ length rs + 1 = length-append rs ((i, n) ∷ []) in omega (arith, m, e)
few_behind Branch rs a b p ms l c g m = go (nat_lt p (guards b)) refl
  where
    go : (x : Bool) → nat_lt p (guards b) ≡ x → length (cond x (parameters a) [] ++ ms) + length rs ≤ most_factors
    go false e = m
    go true e =
        let none : length ms ≡ 0 = ap length (g refl (ltb-true p (guards b) e)) in
        let few = parameters_few a in
        let sum = length-append (parameters a) ms in
        omega (arith, l, c, none, few, sum)
few_behind h rs a b p ms l c g m = m

few : (names : Names) (t : Tree) (s : Standing) (σ : Phrase) → IsScopedAt names s t → is_oracle_phrase σ t ≡ true → (p : ℕ) (ns : List ℕ) → copies_at t p ≡ Some ns → length ns + length s.known.replications ≤ most_factors
unfolding IsObeyed
few names Empty s σ i f p ns e = absurd (none_some ns (sym (copies_empty Empty p refl) ∙ e))
few names (Node h a b) s σ i f p ns e =
    let q = has_parts σ h a b f in
    let x = phrase_parts σ q.0.0 q.0.1 h a b q.1 f in
    let o : Obeys names s h a b fault.Replications = i.0 fault.Replications in
    go q.0 q.1 x.1 o (few names a (first_standing s h a) q.0.0 i.1 x.0) (few names b (second_standing s h a) q.0.1 i.2 x.1) (lies_somewhere h a p)
  where
    go : (q : Phrase × Phrase) → oracle_parts σ h ≡ Some q → is_oracle_phrase q.1 b ≡ true → Obeys names s h a b fault.Replications
        → ((p : ℕ) (ns : List ℕ) → copies_at a p ≡ Some ns → length ns + length (first_standing s h a).known.replications ≤ most_factors)
        → ((p : ℕ) (ns : List ℕ) → copies_at b p ≡ Some ns → length ns + length (second_standing s h a).known.replications ≤ most_factors)
        → (l : Lies) × LiesAt h a p l → length ns + length s.known.replications ≤ most_factors
    go q r g o j k (Here, l) = few_here s.known.replications ns o.0 (Some_injective ns [] (sym e ∙ copies_here (Node h a b) h a b p 0 refl l))
    go q r g o j k (Within m, l) = subst (λ rs. length ns + length rs ≤ most_factors) (first_replications s.position h s.known) (j m ns (sym (copies_within (Node h a b) h a b p m refl l) ∙ e))
    go q r g o j k (Behind m, l) =
        let c = mapped (λ ms. added h a b m ++ ms) (copies_at b m) ns (sym (copies_behind (Node h a b) h a b p m refl l) ∙ e) in
        let below : length c.0 + length (replications_below h s.known.replications) ≤ most_factors = subst (λ rs. length c.0 + length rs ≤ most_factors) (second_replications s.position h a s.known) (k m c.0 c.1) in
        subst (λ l. length l + length s.known.replications ≤ most_factors) (sym c.2)
        (few_behind h s.known.replications a b m c.0 o.0 o.1 (λ is short. guards_flat b (subst (λ ρ. is_oracle_phrase ρ b ≡ true) (arm_parts σ q (subst (λ x. oracle_parts σ x ≡ Some q) is r)) g) m c.0 short c.1) below)

pub few_factors : (ds : List Declaration) (game : Tree) (p : ℕ) (ns : List ℕ) → IsWellFormedContext ds game → copies_at game p ≡ Some ns → length ns ≤ most_factors
few_factors ds game p ns w e = let l = few (names_of ds game) game at_root Inputs w.scoped w.phrase p ns e in omega (arith, l)

pub all_counted : (ds : List Declaration) (game : Tree) (p : ℕ) → IsWellFormedContext ds game → few_copies_at game p ≡ copies_at game p
all_counted ds game p w = go (copies_at game p) (few_factors ds game p)
  where
    go : (o : Option (List ℕ)) → ((ns : List ℕ) → IsWellFormedContext ds game → o ≡ Some ns → length ns ≤ most_factors) → option_and_then if_few o ≡ o
    go None h = refl
    go (Some ns) h = ap (λ b. cond b None (Some ns)) (le-ltb most_factors (length ns) (h ns w refl))
