-- What follows of a construct whose bodies are all equal.
use Rattle.std.proofs.Common.{◌≡◌, ℕ, ◌+◌, ◌≤◌, Bool, true, false, List, ◌∷◌, ◌⊎◌, inl, inr, None, refl, sym, ap, subst, ◌∙◌, arith}
use Rattle.std.proofs.lemmas.Bool.{and_parts, both_ways}
use Rattle.cv_syntax_trees.specs.declared.head.Head.{Head}
use Rattle.cv_syntax_trees.specs.declared.head.Head.TheVariants.{Branch, Cons, Find, If}
use Rattle.cv_syntax_trees.specs.Tree.{Tree, Empty, Node, size}
use Rattle.cv_meaning.specs.Interpretation.{Setting}
use Rattle.cv_meaning.specs.Replaced.{is_output}
use Rattle.cv_meaning.specs.Tapes.{Cell}
use Rattle.cv_meaning_runs.specs.Replacement.{Process}
use Rattle.cv_meaning_chances.specs.thinning.Thinning.{IsThinned, merged, same, same_bodies}
use Rattle.cv_meaning_chances.specs.unread.Dropping.{reads_none}
use Rattle.cv_scope_rules.specs.Made.{is_own_at}
use Rattle.cv_scope_rules.specs.Phrases.{Body as OfBody, Branches, Nil, Phrase, Term, is_phrase}
use Rattle.cv_steps.proofs.Flat.{guarded_of, guards_of}
use Rattle.cv_steps_laws.proofs.chances.Inclusion.{Includes, first_in, second_in}
use Rattle.cv_steps_laws.proofs.chances.Phrases.{body_output, find_parts, if_bodies}
use Rattle.cv_rule_move.specs.merge.Merging.{Body, bodies, first_other}
use Rattle.cv_rule_move.proofs.merge.Constructs.{all_are, find_one}
use Rattle.cv_rule_move.proofs.merge.Named.{IsUnnamed, parts_unnamed}

-- the first body stands in the construct, and is named no more than it
pub record IsInside (p : ℕ) (t : Tree) (b : Body) : Type 0 where
  pub from : p ≤ b.place
  pub to : b.place + size b.process ≤ p + size t
  pub unnamed : (xs skip : ℕ → Bool) → IsUnnamed xs skip p t → IsUnnamed xs skip b.place b.process

-- it is an output process, and serves as the construct; each of its cells is one of the construct
pub record IsOne (p : ℕ) (t : Tree) (b : Body) : Type 0 where
  pub output : is_output b.process ≡ true
  pub thinned : reads_none (is_own_at t) b.process ≡ true → IsThinned (is_own_at t) Process t b.process
  pub included : (g : Setting) (give : Head → List ℕ → List (Cell × ℕ)) → Includes g give t b.process
  pub inside : ((y : ℕ) → is_own_at t y ≡ false) ⊎ IsInside p t b

nil_empty : (t : Tree) → is_phrase Nil t ≡ true → t ≡ Empty
unfolding is_phrase
nil_empty Empty e = refl
nil_empty (Node h a b) e = absurd (both_ways false refl e)

if_one : (p : ℕ) (c x y n : Tree) (b : Body) → is_phrase OfBody (Node If c (Node Cons x (Node Cons y n))) ≡ true → n ≡ Empty → b.process ≡ x → b.process ≡ y → IsOne p (Node If c (Node Cons x (Node Cons y n))) b
if_one p c x y n b e f g k =
    let o : is_output b.process ≡ true = ap is_output g ∙ body_output x (if_bodies OfBody c x y n e).then in
    let t : Tree = Node If c (Node Cons x (Node Cons y n)) in
    record {
      output = o;
      thinned = λ r. subst (λ u. IsThinned (λ z. false) Process u b.process) (λ i. Node If c (Node Cons (g i) (Node Cons (k i) (sym f i)))) (same_bodies {d = c} {b = b.process} o (same r));
      included = λ give cells. subst (Includes give cells t) (sym g) (λ bounds d h. second_in give cells If c (Node Cons x (Node Cons y n)) bounds d (first_in give cells Cons x (Node Cons y n) bounds d h));
      inside = inl (λ z. refl);
    }

-- the first body of a `find`

first_of_branch : (p l : ℕ) (us cells c body more otherwise : Tree) → IsInside p (Node (Find l) (Node Cons (Node Branch us (Node Cons cells (Node Cons c body))) more) otherwise) (record { place = p + 1 + 1 + size us + (size cells + size c); process = body })
unfolding size
first_of_branch p l us cells c body more otherwise = record {
  from = omega arith;
  to = omega arith;
  unnamed = λ xs skip e.
      let r = (parts_unnamed xs skip p (Find l) (Node Cons (Node Branch us (Node Cons cells (Node Cons c body))) more) otherwise e).first in
      let a = (parts_unnamed xs skip (p + 1) Cons (Node Branch us (Node Cons cells (Node Cons c body))) more r).first in
      let g = (parts_unnamed xs skip (p + 1 + 0) Branch us (Node Cons cells (Node Cons c body)) a).second in
      let m = (parts_unnamed xs skip (p + 1 + 0 + 1 + size us) Cons cells (Node Cons c body) g).second in
      subst (λ q. IsUnnamed xs skip q body) (omega arith) (parts_unnamed xs skip (p + 1 + 0 + 1 + size us + 0 + size cells) Cons c body m).second;
}

heads_same : (c b : Body) (cs bs : List Body) → c ∷ cs ≡ b ∷ bs → c ≡ b
heads_same c b cs bs e = cc

find_inside : (p l : ℕ) (branches otherwise : Tree) (b : Body) (others : List Body) → is_phrase Branches branches ≡ true → bodies p (Node (Find l) branches otherwise) ≡ b ∷ others → ((y : ℕ) → is_own_at (Node (Find l) branches otherwise) y ≡ false) ⊎ IsInside p (Node (Find l) branches otherwise) b
unfolding is_phrase
find_inside p l Empty otherwise b others e f = inl (λ y. refl)
find_inside p l (Node Cons (Node Branch us (Node Cons cells (Node Cons c body))) more) otherwise b others e f =
    inr (subst (IsInside p (Node (Find l) (Node Cons (Node Branch us (Node Cons cells (Node Cons c body))) more) otherwise)) (heads_same _ b _ others f) (first_of_branch p l us cells c body more otherwise))
find_inside p l (Node Cons (Node Branch us (Node Cons cells rest)) more) otherwise b others e f = absurd (both_ways false refl (guarded_of us cells rest more e))
find_inside p l (Node Cons (Node Branch us rest) more) otherwise b others e f = absurd (both_ways false refl (guards_of us rest more e))
find_inside p l branches otherwise b others e f = absurd (both_ways false refl e)

find_is_one : (p l : ℕ) (branches otherwise : Tree) (b : Body) (others : List Body) → is_phrase OfBody (Node (Find l) branches otherwise) ≡ true → bodies p (Node (Find l) branches otherwise) ≡ b ∷ others → first_other b.process others ≡ None → IsOne p (Node (Find l) branches otherwise) b
find_is_one p l branches otherwise b others e f n =
    let t : Tree = Node (Find l) branches otherwise in
    let q = find_parts OfBody l branches otherwise e in
    let r = find_one (is_own_at t) b.process p l branches otherwise q.branches (λ y k. k) (all_are p t b others f n) in
    let o : is_output b.process ≡ true = ap is_output r.0 ∙ body_output otherwise q.else in
    record {
      output = o;
      thinned = λ u. subst (λ (z : Tree). IsThinned (is_own_at t) Process (Node (Find l) branches z) b.process) r.0 (merged r.1 o (same u));
      included = λ give cells. subst (Includes give cells t) (sym r.0) (λ bounds d h. second_in give cells (Find l) branches otherwise bounds d h);
      inside = find_inside p l branches otherwise b others q.branches f;
    }

pub is_one : (σ : Phrase) (p : ℕ) (t : Tree) (b : Body) (others : List Body) → is_phrase σ t ≡ true → bodies p t ≡ b ∷ others → first_other b.process others ≡ None → IsOne p t b
unfolding is_phrase
is_one OfBody p (Node If c (Node Cons x (Node Cons y n))) b others e f k =
    let q = and_parts (is_phrase Term c) _ e in
    let r = and_parts (is_phrase OfBody x) _ q.1 in
    let s = and_parts (is_phrase OfBody y) _ r.1 in
    let a = all_are p (Node If c (Node Cons x (Node Cons y n))) b others f k in
    if_one p c x y n b e (nil_empty n s.1) a.0 a.1.0
is_one OfBody p (Node If c (Node Cons x rest)) b others e f k =
    let q = and_parts (is_phrase Term c) _ e in
    let r = and_parts (is_phrase OfBody x) _ q.1 in
    absurd (both_ways false refl r.1)
is_one OfBody p (Node If c rest) b others e f k = absurd (both_ways false refl (and_parts (is_phrase Term c) _ e).1)
is_one OfBody p (Node (Find l) branches otherwise) b others e f k = find_is_one p l branches otherwise b others e f k
is_one OfBody p t b others e f k = absurd (cc)
is_one σ p (Node If c rest) b others e f k = absurd (both_ways false refl e)
is_one σ p (Node (Find l) branches otherwise) b others e f k = absurd (both_ways false refl e)
is_one σ p t b others e f k = absurd (cc)
