-- A game is in the grammar with another phrase in one place, and what stands there is a phrase; the parts of an `if` and of a `find`.
use Rattle.std.proofs.Common.{◌≡◌, ℕ, ◌&&◌, true, false, refl, ap, ap₂, ◌∙◌}
use Rattle.std.proofs.lemmas.Bool.{both_ways, and_parts}
use Rattle.cv_syntax_trees.specs.declared.head.Head.{Head}
use Rattle.cv_syntax_trees.specs.declared.head.Head.TheVariants as head
use Rattle.cv_syntax_trees.specs.declared.head.Head.TheVariants.{Branch, Cons, Find, If, Par}
use Rattle.cv_syntax_trees.specs.Tree.{Tree, Node}
use Rattle.cv_meaning_runs.specs.Replacement as runs
use Rattle.cv_meaning_runs.specs.Replacement.{IsReplaced, here, in_branch, in_continuation, in_find, in_later_branch, in_list, in_parallel}
use Rattle.cv_meaning.specs.Replaced.{is_output}
use Rattle.cv_scope_rules.specs.Phrases.{Phrase, Body, Branches, Term, both_are, is_phrase}
use Rattle.cv_steps.proofs.Flat.{open_phrase}

under : (σ : Phrase) (h : Head) (a b c d : Tree) → ((τ : Phrase) → is_phrase τ a ≡ true → is_phrase τ c ≡ true) → ((τ : Phrase) → is_phrase τ b ≡ true → is_phrase τ d ≡ true) → is_phrase σ (Node h a b) ≡ true → is_phrase σ (Node h c d) ≡ true
unfolding is_phrase
under σ h a b c d f k e =
    let o = open_phrase σ h a b e in
    ap (λ q. both_are q (λ τ. is_phrase τ c) (λ ρ. is_phrase ρ d)) o.1 ∙ ap₂ ◌&&◌ (f o.0.0 o.2) (k o.0.1 o.3)

abbrev pub Keeps : Tree → Tree → Type 0
Keeps a b = (τ : Phrase) → is_phrase τ a ≡ true → is_phrase τ b ≡ true

stays : (a : Tree) → Keeps a a
stays a τ e = e

pub phrase_replaced : (old new : Tree) (place : ℕ) → Keeps old new → (part : runs.Part) (p : ℕ) (b c : Tree) → IsReplaced old new place part p b c → Keeps b c
phrase_replaced old new place k part p b c here σ e = k σ e
phrase_replaced old new place k part p b c (in_continuation {h = h} {a = a} {b = x} {c = y} z) σ e = under σ h a x a y (stays a) (phrase_replaced old new place k runs.Process _ x y z) e
phrase_replaced old new place k part p b c (in_parallel {a = x} {b = d} {c = y} z) σ e = under σ Par x d y d (phrase_replaced old new place k runs.Process _ x y z) (stays d) e
phrase_replaced old new place k part p b c (in_list {a = x} {b = d} {c = y} z) σ e = under σ Cons x d y d (phrase_replaced old new place k runs.Process _ x y z) (stays d) e
phrase_replaced old new place k part p b c (in_find {l = l} {a = x} {b = d} {c = y} z) σ e = under σ (Find l) x d y d (phrase_replaced old new place k runs.Branches _ x y z) (stays d) e
phrase_replaced old new place k part p b c (in_branch {binders = bs} {defined = l} {condition = m} {b = x} {c = y} {more = more} z) σ e =
    under σ Cons (Node Branch bs (Node Cons l (Node Cons m x))) more (Node Branch bs (Node Cons l (Node Cons m y))) more
    (λ τ. under τ Branch bs (Node Cons l (Node Cons m x)) bs (Node Cons l (Node Cons m y)) (stays bs)
    (λ ρ. under ρ Cons l (Node Cons m x) l (Node Cons m y) (stays l)
    (λ π. under π Cons m x m y (stays m) (phrase_replaced old new place k runs.Process _ x y z))))
    (stays more) e
phrase_replaced old new place k part p b c (in_later_branch {a = a} {b = x} {c = y} z) σ e = under σ Cons a x a y (stays a) (phrase_replaced old new place k runs.Branches _ x y z) e

-- what is replaced is some phrase
abbrev IsSome : Tree → Type 0
IsSome t = (τ : Phrase) × (is_phrase τ t ≡ true)

in_first : (σ : Phrase) (h : Head) (a b : Tree) → is_phrase σ (Node h a b) ≡ true → IsSome a
in_first σ h a b e = let o = open_phrase σ h a b e in (o.0.0, o.2)

in_second : (σ : Phrase) (h : Head) (a b : Tree) → is_phrase σ (Node h a b) ≡ true → IsSome b
in_second σ h a b e = let o = open_phrase σ h a b e in (o.0.1, o.3)

pub phrase_there : (old new : Tree) (place : ℕ) (part : runs.Part) (p : ℕ) (b c : Tree) → IsReplaced old new place part p b c → (σ : Phrase) → is_phrase σ b ≡ true → IsSome old
phrase_there old new place part p b c here σ e = (σ, e)
phrase_there old new place part p b c (in_continuation {h = h} {a = a} {b = x} {c = y} z) σ e = let o = in_second σ h a x e in phrase_there old new place runs.Process _ x y z o.0 o.1
phrase_there old new place part p b c (in_parallel {a = x} {b = d} {c = y} z) σ e = let o = in_first σ Par x d e in phrase_there old new place runs.Process _ x y z o.0 o.1
phrase_there old new place part p b c (in_list {a = x} {b = d} {c = y} z) σ e = let o = in_first σ Cons x d e in phrase_there old new place runs.Process _ x y z o.0 o.1
phrase_there old new place part p b c (in_find {l = l} {a = x} {b = d} {c = y} z) σ e = let o = in_first σ (Find l) x d e in phrase_there old new place runs.Branches _ x y z o.0 o.1
phrase_there old new place part p b c (in_branch {binders = bs} {defined = l} {condition = m} {b = x} {c = y} {more = more} z) σ e =
    let arm = in_first σ Cons (Node Branch bs (Node Cons l (Node Cons m x))) more e in
    let guards = in_second arm.0 Branch bs (Node Cons l (Node Cons m x)) arm.1 in
    let guarded = in_second guards.0 Cons l (Node Cons m x) guards.1 in
    let body = in_second guarded.0 Cons m x guarded.1 in
    phrase_there old new place runs.Process _ x y z body.0 body.1
phrase_there old new place part p b c (in_later_branch {a = a} {b = x} {c = y} z) σ e = let o = in_second σ Cons a x e in phrase_there old new place runs.Branches _ x y z o.0 o.1

-- the parts of an `if` and of a `find`

pub body_output : (t : Tree) → is_phrase Body t ≡ true → is_output t ≡ true
unfolding is_phrase
body_output (Node head.Yield a b) e = refl
body_output (Node (head.Out c) a b) e = refl
body_output (Node (head.Event x) a b) e = refl
body_output (Node If a b) e = refl
body_output (Node (Find l) a b) e = refl
body_output (Node (head.New x T) a b) e = refl
body_output (Node (head.Let x T) a b) e = refl
body_output t e = absurd (both_ways false refl e)

pub record IfBodies (then_body else_body : Tree) : Type 0 where
  pub then : is_phrase Body then_body ≡ true
  pub else : is_phrase Body else_body ≡ true

pub if_bodies : (σ : Phrase) (c then_body else_body rest : Tree) → is_phrase σ (Node If c (Node Cons then_body (Node Cons else_body rest))) ≡ true → IfBodies then_body else_body
unfolding is_phrase
if_bodies Body c t d n e =
    let p = and_parts (is_phrase Term c) _ e in
    let q = and_parts (is_phrase Body t) _ p.1 in
    record { then = q.0; else = (and_parts (is_phrase Body d) _ q.1).0 }
if_bodies σ c t d n e = absurd (both_ways false refl e)

pub record FindParts (arms otherwise : Tree) : Type 0 where
  pub branches : is_phrase Branches arms ≡ true
  pub else : is_phrase Body otherwise ≡ true

pub find_parts : (σ : Phrase) (l : ℕ) (branches otherwise : Tree) → is_phrase σ (Node (Find l) branches otherwise) ≡ true → FindParts branches otherwise
unfolding is_phrase
find_parts Body l bs d e = let p = and_parts (is_phrase Branches bs) _ e in record { branches = p.0; else = p.1 }
find_parts σ l bs d e = absurd (both_ways false refl e)
