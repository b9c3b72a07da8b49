-- What follows of a game that doesn't name a variable, and of queries that don't ask for it.
use Rattle.std.proofs.Common.{◌≡◌, ℕ, ◌==◌, ◌&&◌, ◌||◌, Bool, true, false, cond, not, List, [], ◌∷◌, Contains, ◌⊎◌, inl, inr, Option, Some, None, refl, sym, ap, ap₂, subst, ◌∙◌, arith, eqb-true, eq-eqb}
use Rattle.std.specs.List.{list_any}
use Rattle.std.proofs.lemmas.Bool.{both_ways, or_parts, or_left, or_right}
use Rattle.std.proofs.lemmas.List.Elements.{Contains-append_cases, Contains-push_cases}
use Rattle.cv_syntax_trees.specs.declared.head.Head.{Head}
use Rattle.cv_syntax_trees.specs.declared.head.Head.TheVariants.{New, Let, Leaf, Read}
use Rattle.cv_syntax_trees.specs.Tree.{Tree, Empty, Node, head_reads_only, reads_only, first_place, second_place}
use Rattle.cv_meaning.specs.Runs.{Events, Real, Random}
use Rattle.cv_meaning.specs.Experiments.{Experiment, Breaks, Guesses, mode_of}
use Rattle.cv_meaning.specs.Advantage.{IsAsked, secrecy_query}
use Rattle.cv_meaning_chances.specs.unread.Dropping.{reads_none, head_draws_none, draws_none, IsUntested}
use Rattle.cv_meaning.specs.Still.{defines}
use Rattle.cv_meaning.specs.Queries.{queries_in}
use Rattle.cv_syntax_trees.specs.sites.Sites.{first_of}
use Rattle.cv_scope_rules.specs.Phrases.{Phrase, Body, Nil, Term, parts, both_are, is_phrase}
use Rattle.cv_scene.specs.Scenes.{Scene, head_names, names, head_reads, first_reading, asks_for, is_queried}
use Rattle.cv_steps.specs.Changes.{without, only}
use Rattle.cv_steps.proofs.Flat.{open_phrase}

-- a name that is nowhere is read nowhere and drawn nowhere

head_unread : (x : ℕ) (h : Head) → head_names x h ≡ false → head_reads_only (λ y. not (only x y)) h ≡ true
head_unread x (Leaf y) e = ap not e
head_unread x (Read y) e = ap not e
head_unread x h e = refl

head_undrawn : (x : ℕ) (h : Head) → head_names x h ≡ false → head_draws_none (only x) h ≡ true
head_undrawn x (New y T) e = ap not e
head_undrawn x h e = refl

pub unnamed_unread : (x : ℕ) (t : Tree) → names x t ≡ false → reads_none (only x) t ≡ true
unfolding names reads_only
unnamed_unread x Empty e = refl
unnamed_unread x (Node h a b) e =
    let p = or_parts (head_names x h) _ e in
    let q = or_parts (names x a) _ p.1 in
    ap₂ ◌&&◌ (head_unread x h p.0) (ap₂ ◌&&◌ (unnamed_unread x a q.0) (unnamed_unread x b q.1))

pub unnamed_undrawn : (x : ℕ) (t : Tree) → names x t ≡ false → draws_none (only x) t ≡ true
unfolding names draws_none
unnamed_undrawn x Empty e = refl
unnamed_undrawn x (Node h a b) e =
    let p = or_parts (head_names x h) _ e in
    let q = or_parts (names x a) _ p.1 in
    ap₂ ◌&&◌ (head_undrawn x h p.0) (ap₂ ◌&&◌ (unnamed_undrawn x a q.0) (unnamed_undrawn x b q.1))

-- where there is no first place that names it, none does

head_unlisted : (x : ℕ) (h : Head) → head_reads x h ≡ false → head_reads_only (λ y. not (only x y)) h ≡ true
head_unlisted x (Leaf y) e = ap not e
head_unlisted x (Read y) e = ap not e
head_unlisted x h e = refl

pub unlisted_unread : (x p : ℕ) (t : Tree) → first_reading x p t ≡ None → reads_none (only x) t ≡ true
unfolding first_reading reads_only
unlisted_unread x p Empty e = refl
unlisted_unread x p (Node h a b) e = go (head_reads x h) refl (first_reading x (first_place p h) a) (first_reading x (second_place p h a) b) e (unlisted_unread x (first_place p h) a) (unlisted_unread x (second_place p h a) b)
  where
    go : (v : Bool) → head_reads x h ≡ v → (o q : Option ℕ) → cond v (Some p) (first_of o q) ≡ None → (o ≡ None → reads_none (only x) a ≡ true) → (q ≡ None → reads_none (only x) b ≡ true)
        → head_reads_only (λ y. not (only x y)) h && (reads_none (only x) a && reads_none (only x) b) ≡ true
    go true f o q e k l = absurd (cc)
    go false f None None e k l = ap₂ ◌&&◌ (head_unlisted x h f) (ap₂ ◌&&◌ (k refl) (l refl))
    go false f None (Some n) e k l = absurd (cc)
    go false f (Some n) q e k l = absurd (cc)

-- without the definitions nothing of them is drawn

head_kept : (xs : ℕ → Bool) (h : Head) → defines xs h ≡ false → head_draws_none xs h ≡ true
head_kept xs (New y T) e = ap not e
head_kept xs h e = refl

pub dropped_undrawn : (xs : ℕ → Bool) (t : Tree) → draws_none xs (without xs t) ≡ true
unfolding without draws_none
dropped_undrawn xs Empty = refl
dropped_undrawn xs (Node h a b) = go (defines xs h) refl (dropped_undrawn xs a) (dropped_undrawn xs b)
  where
    go : (v : Bool) → defines xs h ≡ v → draws_none xs (without xs a) ≡ true → draws_none xs (without xs b) ≡ true → draws_none xs (cond v (without xs b) (Node h (without xs a) (without xs b))) ≡ true
    go true e k l = l
    go false e k l = ap₂ ◌&&◌ (head_kept xs h e) (ap₂ ◌&&◌ k l)

-- and the grammar is kept

same_second : (xs : ℕ → Bool) (σ : Phrase) (h : Head) (q : Phrase × Phrase) → defines xs h ≡ true → parts σ h ≡ Some q → q.1 ≡ σ
same_second xs Body (New x T) q e f = let i : (let p : Phrase × Phrase = (Nil, Body) in p) ≡ q = cc in sym (ap (λ (p : Phrase × Phrase). p.1) i)
same_second xs Body (Let x T) q e f = let i : (let p : Phrase × Phrase = (Term, Body) in p) ≡ q = cc in sym (ap (λ (p : Phrase × Phrase). p.1) i)
same_second xs σ (New x T) q e f = absurd (cc)
same_second xs σ (Let x T) q e f = absurd (cc)
same_second xs σ h q e f = absurd (both_ways false refl e)

pub dropped_phrase : (xs : ℕ → Bool) (σ : Phrase) (t : Tree) → is_phrase σ t ≡ true → is_phrase σ (without xs t) ≡ true
unfolding without is_phrase
dropped_phrase xs σ Empty e = e
dropped_phrase xs σ (Node h a b) e =
    let o = open_phrase σ h a b e in
    go (defines xs h) refl o.0 o.1 (dropped_phrase xs o.0.0 a o.2) (dropped_phrase xs o.0.1 b o.3)
  where
    go : (v : Bool) → defines xs h ≡ v → (q : Phrase × Phrase) → parts σ h ≡ Some q → is_phrase q.0 (without xs a) ≡ true → is_phrase q.1 (without xs b) ≡ true → is_phrase σ (cond v (without xs b) (Node h (without xs a) (without xs b))) ≡ true
    go true d q f k l = subst (λ τ. is_phrase τ (without xs b) ≡ true) (same_second xs σ h q d f) l
    go false d q f k l = ap (λ o. both_are o (λ τ. is_phrase τ (without xs a)) (λ ρ. is_phrase ρ (without xs b))) f ∙ ap₂ ◌&&◌ k l

-- queries

contains_any : (f : Tree → Bool) (qs : List Tree) (q : Tree) → Contains qs q → f q ≡ true → list_any f qs ≡ true
contains_any f [] q h e = absurd (let k = h.1 in omega arith)
contains_any f (r ∷ qs) q h e = go (Contains-append_cases (r ∷ []) qs q h) (contains_any f qs q)
  where
    alone : Contains [] q ⊎ (r ≡ q) → (f r || list_any f qs) ≡ true
    alone (inl k) = absurd (let n = k.1 in omega arith)
    alone (inr i) = or_left (f r) (list_any f qs) (ap f i ∙ e)

    go : Contains (r ∷ []) q ⊎ Contains qs q → (Contains qs q → f q ≡ true → list_any f qs ≡ true) → (f r || list_any f qs) ≡ true
    go (inl k) ih = alone (Contains-push_cases [] r q k)
    go (inr k) ih = or_right (f r) (list_any f qs) (ih k e)

asks_own : (one : Bool) (y : ℕ) → asks_for y (secrecy_query one y) ≡ true
asks_own true y = eq-eqb y y refl
asks_own false y = eq-eqb y y refl

other : (s : Scene) (x : ℕ) (one : Bool) (y : ℕ) → Contains (queries_in s.declarations) (secrecy_query one y) → is_queried s x ≡ false → only x y ≡ false
other s x one y a n = go (y == x) refl
  where
    go : (b : Bool) → (y == x) ≡ b → b ≡ false
    go true e =
        let i : y ≡ x = eqb-true y x e in
        absurd (both_ways _ n (contains_any (asks_for x) (queries_in s.declarations) (secrecy_query one y) a (subst (λ z. asks_for z (secrecy_query one y) ≡ true) i (asks_own one y))))
    go false e = refl

-- an experiment that is asked doesn't test a variable for which no query asks
pub asked_untested : (s : Scene) (x : ℕ) (e : Experiment) → IsAsked (queries_in s.declarations) e → is_queried s x ≡ false → IsUntested (only x) (mode_of e)
asked_untested s x (Breaks q) a n = tt
asked_untested s x (Guesses Events) a n = absurd a
asked_untested s x (Guesses (Real one y)) a n = other s x one y a n
asked_untested s x (Guesses (Random one y)) a n = other s x one y a n
